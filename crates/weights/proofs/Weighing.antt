-- The weight of a threshold between two samples, computed as (t - a) / (b - a) with each operation rounded once, is a weight. Assumes nothing.
use Rattle.std.specs.Prelude.{ℕ, ◌+◌, ◌-◌, ◌*◌, ◌≤◌, ◌<◌, ◌≡◌, refl, ◌⊎◌, Bool, true, false, cond, Float}
use Rattle.std.proofs.Common.{ap, ◌∙◌, inl, inr, le_antisymm, mul-le-mul_left, mul-le-mul_right, le_of_mul-le-mul_right, arith, lit≤}
use Rattle.std.proofs.Math.Logic.{⊎_elim}
use Rattle.std.specs.Float.Ieee.{unlike}
use Rattle.model.specs.Formulas.{◌⊖◌, whole, weight}
use Rattle.weights.specs.Units.{per_one, negative, above, below, gap, apart, Within, parts}
use Rattle.weights.specs.Clauses.{OneInside, numerator, denominator, weight_parts, Weight}
use Rattle.weights.specs.Rounding.{rounded, some_units, large, near_units, near_quotient, plenty}
use Rattle.weights.specs.Values.{Known, plus_parts, order, beyond_units, rounded_mono}
use Rattle.weights.specs.Operations.{Signed, Rounds, both_parts, difference_rounds, quotient_known}
use Rattle.weights.specs.Small.{Small, whole_known, ones_exact, at_most_ones, few_units}
use Rattle.weights.specs.Weighing.{sample_limit}

-- ---- the bound, over plain numbers: n and d are the exact differences t - a and b - a, u and v the same rounded, w is u / v rounded, and l units make 1

-- the products as unknowns
last_above : (wd nl dl d : ℕ) → wd * (parts * (parts - 1)) ≤ nl * ((parts + 1) * (parts + 1)) + d * (parts * (parts - 1)) → d * (2 * parts) ≤ dl
    → nl ≤ dl → wd * weight_parts ≤ nl * weight_parts + dl
last_above wd nl dl d h few small = omega arith

last_below : (wd nl dl d : ℕ) → nl * ((parts - 1) * (parts - 1)) ≤ (wd + d) * (parts * (parts + 1)) → d * (2 * parts) ≤ dl → nl ≤ dl
    → nl * weight_parts ≤ wd * weight_parts + dl
last_below wd nl dl d h few small = omega arith

module _ (l n d u v w : ℕ) (enough : 2 * parts ≤ l) (hu : Within (u * parts) (n * parts) n) (hv : Within (v * parts) (d * parts) d)
    (hw : Within (w * v * parts) (u * l * parts) (u * l + v * parts)) (small : n ≤ d) (some : 0 < v) where
  over : w * d * (parts * (parts - 1)) ≤ n * l * ((parts + 1) * (parts + 1)) + d * (parts * (parts - 1))
  over =
      le_of_mul-le-mul_right
      (omega (arith, mul-le-mul_right d hw.0, mul-le-mul_right (l * d) hu.0, mul-le-mul_right (n * l) hv.1)) some

  under : n * l * ((parts - 1) * (parts - 1)) ≤ (w * d + d) * (parts * (parts + 1))
  under = omega (arith, mul-le-mul_right l hu.1, mul-le-mul_left w hv.0)

  bounds : (w * d * weight_parts ≤ l * (n * weight_parts + d)) × (l * (n * weight_parts) ≤ (w * weight_parts + l) * d)
  bounds =
      let units = mul-le-mul_left d enough in
      let part = mul-le-mul_right l small in
      (omega (arith, last_above (w * d) (n * l) (d * l) d over units part), omega (arith, last_below (w * d) (n * l) (d * l) d under units part))

-- ---- the two differences and their quotient

-- so no difference of two of them comes near an overflow
limit_small : 4 * sample_limit ≤ plenty
limit_small = lit≤ tt

module _ (a b t : Float) (pa : Small sample_limit a) (pb : Small sample_limit b) (pt : Small sample_limit t) where
  abbrev Rising : Type 0
  Rising = (above a + below t < above t + below a) × (above t + below b ≤ above b + below t)

  abbrev Falling : Type 0
  Falling = (above b + below t < above t + below b) × (above t + below a ≤ above a + below t)

  -- the threshold lies between the samples
  ways : OneInside t a b → Rising ⊎ Falling
  ways (inl h) =
      inl (beyond_units t a pt.number pa.number h.0, (order t b pt.number pb.number).le_units (rw h.1 tt))
  ways (inr h) =
      inr (beyond_units t b pt.number pb.number h.1, (order t a pt.number pa.number).le_units (rw h.0 tt))

  above_a : Rounds (above t + below a) (below t + above a) (t ⊖ a)
  above_a = difference_rounds t a pt.number pa.number (omega (arith, pa.size, pt.size, mul-le-mul_right per_one limit_small))

  across : Rounds (above b + below a) (below b + above a) (b ⊖ a)
  across = difference_rounds b a pb.number pa.number (omega (arith, pa.size, pb.size, mul-le-mul_right per_one limit_small))

  module _ (way : Rising ⊎ Falling) where
    part_small : apart a t ≤ apart a b
    part_small = ⊎_elim (λ h. omega arith) (λ h. omega arith) way

    not_same : 1 ≤ apart a b
    not_same = ⊎_elim (λ h. omega arith) (λ h. omega arith) way

    one_sign : ((gap b a ≡ 0) × (gap t a ≡ 0)) ⊎ ((gap a b ≡ 0) × (gap a t ≡ 0))
    one_sign = ⊎_elim (λ h. inl (omega arith)) (λ h. inr (omega arith)) way

    abbrev u : ℕ
    u = rounded (apart a t) per_one

    abbrev v : ℕ
    v = rounded (apart a b) per_one

    abbrev size : ℕ
    size = rounded u v

    v_some : 0 < v
    v_some = omega (arith, near_units (apart a b), not_same)

    u_small : u ≤ v
    u_small = rounded_mono _ per_one _ per_one some_units some_units (mul-le-mul_right per_one part_small) across.fine

    size_small : size ≤ 1 * per_one
    size_small = at_most_ones u v 1 v_some (omega arith) (omega (arith, u_small))

    weight_known : Known (weight a b t) (unlike (negative (t ⊖ a)) (negative (b ⊖ a))) size
    weight_known =
        rw (above_a.size, across.size) at
        (quotient_known (t ⊖ a) (b ⊖ a) above_a.number across.number (rw across.size v_some)
        (rw (above_a.size, across.size) (few_units {c = 1} (omega arith) _ size_small)))

    size_none : apart a t ≡ 0 → size ≡ 0
    size_none e = omega (arith, at_most_ones u v 0 v_some (omega arith) (omega (arith, near_units (apart a t))))

    size_all : apart a t ≡ apart a b → size ≡ per_one
    size_all e =
        let same : u ≡ v = ap (λ (k : ℕ). rounded k per_one) e in
        let least = rounded_mono (1 * per_one) per_one u v some_units v_some (omega (arith, ap (λ (k : ℕ). k * per_one) same))
        (few_units {c = 1} (omega arith) _ size_small) in
        le_antisymm (omega (arith, size_small)) (omega (arith, ones_exact 1 (omega arith)))

    -- the differences have one sign, or the first is 0
    not_negative : below (weight a b t) ≡ 0
    not_negative = rw (weight_known.sign, weight_known.size) (go (negative (t ⊖ a)) (negative (b ⊖ a)) above_a.sign across.sign)
      where
        go : (p q : Bool) → Signed p (above t + below a) (below t + above a) → Signed q (above b + below a) (below b + above a)
            → cond (unlike p q) size 0 ≡ 0
        go false false h k = refl
        go true true h k = refl
        go false true h k = size_none (⊎_elim (λ w. omega arith) (λ w. omega arith) way)
        go true false h k = absurd (⊎_elim (λ w. omega arith) (λ w. omega arith) way)

    -- what is divided is t - a, by b - a
    numerator_is : numerator a b t ≡ apart a t
    unfolding numerator
    numerator_is = ⊎_elim (λ h. omega arith) (λ h. omega arith) way

    denominator_is : denominator a b t ≡ apart a b
    unfolding denominator
    denominator_is = ⊎_elim (λ h. omega arith) (λ h. omega arith) way

    weighed : Weight a b t (weight a b t)
    weighed =
        let w = weight a b t in
        let k = weight_known in
        let all : above w + below w ≡ size = both_parts w ∙ k.size in
        let zero = whole_known 0 (omega arith) in
        let one = whole_known 1 (omega arith) in
        let at_zero = plus_parts zero in
        let at_one = plus_parts one in
        let near = bounds per_one (apart a t) (apart a b) u v size enough (near_units _) (near_units _) (near_quotient u v v_some) part_small v_some in
        record {
          is_finite = k.number.is_finite;
          low = (order (whole 0) w zero.number k.number).units_le (omega (arith, not_negative));
          high = (order w (whole 1) k.number one.number).units_le (omega (arith, size_small, not_negative));
          zero_at_a = λ e.
              let none = size_none (omega (arith, (order a t pa.number pt.number).eq_units e)) in
              (order w (whole 0) k.number zero.number).units_eq (omega arith);
          one_at_b = λ e.
              let full = size_all (omega (arith, (order b t pb.number pt.number).eq_units e)) in
              (order w (whole 1) k.number one.number).units_eq (omega (arith, not_negative));
          not_same = rw denominator_is not_same;
          not_more = rw (numerator_is, denominator_is) part_small;
          one_sign = one_sign;
          not_above = rw (k.size, numerator_is, denominator_is) near.0;
          not_below = rw (k.size, numerator_is, denominator_is) near.1;
        }
      where
        enough : 2 * parts ≤ per_one
        enough = omega (arith, large)

  -- one sample inside and the other outside
  pub weigh : OneInside t a b → Weight a b t (weight a b t)
  weigh h = weighed (ways h)
