-- A coordinate of a vertex, a + w * (b - a) with each operation rounded once, lies between its ends' coordinates a and b up to a rounding at b, and near
-- the exact point. Assumes nothing.
use Rattle.std.specs.Prelude.{ℕ, ◌+◌, ◌-◌, ◌*◌, ◌≤◌, ◌<◌, ◌≡◌, refl, Bool, true, false, cond, T, Float}
use Rattle.std.proofs.Common.{sym, ◌∙◌, add-zero, add_comm, lt_of_le_of_lt, mul-le-mul_right, le_of_mul-le-mul_right, mul-pos, lit<}
use Rattle.std.proofs.Math.Decide.{dec_le}
use native.Mathlib.Omega.{arith}
use Rattle.std.specs.Float.{binary32}
use Rattle.std.specs.Float.Ieee.{fits, unlike}
use Rattle.model.specs.Formulas.{◌⊕◌, ◌⊖◌, ◌⊗◌, whole, between}
use Rattle.weights.specs.Units.{per_one, magnitude, negative, above, below, gap, distance, apart, Within, parts}
use Rattle.weights.specs.Clauses.{numerator, denominator, weight_parts, Weight, reach, Close, past, Coordinate}
use Rattle.weights.specs.Rounding.{rounded, some_units, near_units, near_quotient, too_many}
use Rattle.weights.specs.Values.{Number, Known, plus_parts, held, close_held, order, rounded_mono}
use Rattle.weights.specs.Operations.{Rounds, both_parts, near, not_below, not_above, mono, own, sum_rounds, difference_rounds, product_known}
use Rattle.weights.specs.Small.{Small, whole_known, at_most_ones, small_difference}

-- ---- how far b is passed, over plain numbers

-- each value is p - n, and g is b - a; g rounded is d, off by so much, and a + d rounded is e; r is at most e
module _ (pa na pb nb pd pe ne pr nr g off : ℕ) (hg : pb + na ≡ nb + pa + g) (hd : (pd ≤ g + off) × (g ≤ pd + off)) (few : off * parts ≤ g)
    (he : (pe + na) * parts ≤ (ne + (pa + pd)) * parts + distance (pa + pd) na) (hr : pr + ne ≤ pe + nr) where
  -- the sum a + d is as large as b, and as d is off
  sum_size : distance (pa + pd) na ≤ pb + nb + off
  sum_size = omega arith

  passed_by : (pr + nb) * (parts - 1) ≤ (nr + pb) * (parts - 1) + (pb + nb + g)
  passed_by = last (distance (pa + pd) na) sum_size he
    where
      last : (sum : ℕ) → sum ≤ pb + nb + off → (pe + na) * parts ≤ (ne + (pa + pd)) * parts + sum
          → (pr + nb) * (parts - 1) ≤ (nr + pb) * (parts - 1) + (pb + nb + g)
      last sum h k = omega arith

-- from what `near` says of d and e, where d does not lie below zero
off_by : (z p n g apart : ℕ) → p ≡ n + g → apart ≡ g → Within ((z + n) * parts) ((0 + p) * parts) apart → distance z g * parts ≤ g
off_by z p n g apart e f h = omega arith

beyond : (pa na pb nb pd nd pe ne pr nr : ℕ) → nb + pa ≤ pb + na → nd ≡ 0
    → Within ((pd + (nb + pa)) * parts) ((nd + (pb + na)) * parts) (distance (pb + na) (nb + pa))
    → Within ((pe + (na + nd)) * parts) ((ne + (pa + pd)) * parts) (distance (pa + pd) (na + nd))
    → pr + ne ≤ pe + nr → (pr + nb - (nr + pb)) * (parts - 1) ≤ pb + nb + distance (pb + na) (nb + pa)
beyond pa na pb nb pd nd pe ne pr nr h none hd he hr =
    let g = pb + na - (nb + pa) in
    let hg : pb + na ≡ nb + pa + g = omega arith in
    let apart : distance (pb + na) (nb + pa) ≡ g = omega arith in
    let few = off_by pd (pb + na) (nb + pa) g _ hg apart (rw none at hd) in
    cut (pr + nb) (nr + pb) _ _ (sym apart)
    (passed_by pa na pb nb pd pe ne pr nr g (distance pd g) hg (omega arith, omega arith) few (rw (none, add-zero) at he.0) hr)
  where
    cut : (m n size g : ℕ) {apart : ℕ} → g ≡ apart → m * (parts - 1) ≤ n * (parts - 1) + (size + g) → (m - n) * (parts - 1) ≤ size + apart
    cut m n size g e k = omega arith

within_distance : (m n : ℕ) → Within m n (distance m n)
within_distance m n = (omega arith, omega arith)

-- the other way round
mirrored : {x y z z' : ℕ} → z ≡ z' → Within x y z → Within y x z'
mirrored e h = rw (← e) (h.1, h.0)

-- ---- how near the exact point is, over plain numbers: the quotient is n over q and w is near it; g is b - a, d is g rounded, and s is w * d rounded

module _ (l w n q g d s off : ℕ) (some : 0 < l) (at_most : w ≤ l) (small : n ≤ q)
    (hw : Within (w * q * parts) (n * l * parts) (4 * (l * q)))
    (hd : Within d g off) (few : off * parts ≤ g)
    (hs : Within (s * l * parts) (w * d * parts) (w * d + l * parts)) where
  step_above : s * q * parts ≤ n * g * parts + q * (6 * g + 5 * off + parts)
  step_above =
      le_of_mul-le-mul_right
      (omega (
        arith,
        mul-le-mul_right q hs.0,
        mul-le-mul_right d hw.0,
        mul-le-mul_right (d * q) at_most,
        mul-le-mul_right (n * l) hd.0,
        mul-le-mul_right (l * q) hd.0,
        mul-le-mul_right (l * off) small,
        mul-le-mul_right (l * q) few,
      )) some

  step_below : n * g * parts ≤ s * q * parts + q * (6 * g + 5 * off + parts)
  step_below =
      le_of_mul-le-mul_right
      (omega (
        arith,
        mul-le-mul_right q hs.1,
        mul-le-mul_right g hw.1,
        mul-le-mul_right (d * q) at_most,
        mul-le-mul_right (w * q) hd.1,
        mul-le-mul_right (off * q) at_most,
        mul-le-mul_right (l * q) hd.0,
        mul-le-mul_right (l * q) few,
      )) some

  -- r is how far a and s are together, rounded, from a, and so much is rounded
  module _ (r sum c : ℕ) (hr : Within (r * parts) (s * parts) sum) (not_more : sum ≤ c + off) where
    near_point : Within (r * q * parts) (n * g * parts) (q * (7 * g + c + parts))
    near_point = (
      omega (arith, step_above, mul-le-mul_right q hr.0, mul-le-mul_right q not_more, mul-le-mul_right q few),
      omega (arith, step_below, mul-le-mul_right q hr.1, mul-le-mul_right q not_more, mul-le-mul_right q few),
    )

-- what was moved along d from a is what lies between a and r
moved_by : (pa na ps ns pr nr sum : ℕ) → ns ≡ 0 → pa + nr ≤ pr + na → Within ((pr + (na + ns)) * parts) ((nr + (pa + ps)) * parts) sum
    → Within (distance (pr + na) (nr + pa) * parts) ((ps + ns) * parts) sum
moved_by pa na ps ns pr nr sum none h k = omega arith

-- and that is what stands between a, not past it, and a + d
sum_at_most : (pa na pb nb ps ns g off c : ℕ) → ns ≡ 0 → pb + na ≡ nb + pa + g → ps ≤ g + off → pa + na ≤ c → pb + nb ≤ c
    → distance (pa + ps) (na + ns) ≤ c + off
sum_at_most pa na pb nb ps ns g off c none hg hs ha hb = omega arith

-- ---- the operations

module _ (a b w : Float) (pa : Small reach a) (pb : Small reach b) (fw : Number w) (nonnegative : below w ≡ 0) (at_most_one : magnitude w ≤ per_one) where
  abbrev d : Float
  d = b ⊖ a

  abbrev step : Float
  step = w ⊗ d

  abbrev r : Float
  r = between w a b

  -- b - a, rounded
  across : Rounds (above b + below a) (below b + above a) d
  across = difference_rounds b a pb.number pa.number (omega (arith, pa.size, pb.size))

  d_small : Small (reach + reach) d
  d_small = small_difference pb pa (lit< tt)

  -- w * d, rounded, is at most d
  abbrev step_size : ℕ
  step_size = rounded (magnitude w * magnitude d) (per_one * per_one)

  d_fine : rounded (magnitude d) per_one < too_many
  d_fine = rw (held d across.number, across.size) across.fine

  step_small : step_size ≤ magnitude d
  step_small =
      rw (held d across.number) at
      (rounded_mono (magnitude w * magnitude d) (per_one * per_one) (magnitude d) per_one (mul-pos some_units some_units) some_units
      (omega (arith, mul-le-mul_right (magnitude d * per_one) at_most_one)) d_fine)

  step_known : Known step (unlike (negative w) (negative d)) step_size
  step_known =
      product_known w d fw across.number (lt_of_le_of_lt step_small (rw (held d across.number) at d_fine))

  -- toward where d points
  along : (above step ≤ above d) × (below step ≤ below d)
  along = rw (step_known.sign, step_known.size) (go (negative w) (negative d) nonnegative)
    where
      none : magnitude w ≡ 0 → step_size ≡ 0
      none e = omega (arith, at_most_ones (magnitude w * magnitude d) (per_one * per_one) 0 (mul-pos some_units some_units) (omega arith) (rw e (omega arith)))

      go : (s t : Bool) → cond s (magnitude w) 0 ≡ 0
          → (cond (unlike s t) 0 step_size ≤ cond t 0 (magnitude d)) × (cond (unlike s t) step_size 0 ≤ cond t (magnitude d) 0)
      go false false e = (omega (arith, step_small), omega arith)
      go false true e = (omega arith, omega (arith, step_small))
      go true false e = (omega arith, omega (arith, none e))
      go true true e = (omega (arith, none e), omega arith)

  -- a + step, rounded; and a + d, rounded
  moved : Rounds (above a + above step) (below a + below step) r
  moved = sum_rounds a step pa.number step_known.number (rw step_known.size (omega (arith, pa.size, step_small, d_small.size)))

  far : Rounds (above a + above d) (below a + below d) (a ⊕ d)
  far = sum_rounds a d pa.number across.number (omega (arith, pa.size, d_small.size))

  -- d is exact where the ends are close
  exact : Close a b → magnitude d ≡ apart a b
  exact c = across.size ∙ (rw (apart_is c) (close_held a b pa.number pb.number (omega (arith, c.a_near)) (omega (arith, c.b_near))))
    where
      apart_is : Close a b → apart a b ≡ distance (magnitude a) (magnitude b)
      apart_is c = rw c.one_sign (go (negative b))
        where
          go : (s : Bool) → let x = magnitude a in let y = magnitude b in
              distance (cond s 0 y + cond s x 0) (cond s y 0 + cond s 0 x) ≡ distance x y
          go false = omega arith
          go true = omega arith

  at_b : Rounds (above b) (below b) b
  at_b = own b pb.number (omega (arith, pb.size))

  at_a : Rounds (above a) (below a) a
  at_a = own a pa.number (omega (arith, pa.size))

  -- ---- from a on, and as far as b

  module _ (up : above a + below b ≤ above b + below a) where
    rises : below b + above a ≤ above b + below a
    rises = omega arith

    no_fall : below d ≡ 0
    no_fall = not_below across rises

    from_a_up : above a + below r ≤ above r + below a
    from_a_up = mono at_a moved (omega (arith, no_fall, along))

    to_b_up : gap b r * (parts - 1) ≤ past a b
    unfolding past
    to_b_up =
        omega (
          arith,
          both_parts b,
          beyond (above a) (below a) (above b) (below b) (above d) (below d) (above (a ⊕ d)) (below (a ⊕ d)) (above r) (below r) rises no_fall
              (near across) (near far) (mono moved far (omega (arith, no_fall, along))),
        )

    not_past_up : Close a b → above r + below b ≤ above b + below r
    not_past_up c = mono moved at_b (omega (arith, no_fall, along, exact c, both_parts d))

  module _ (down : above b + below a ≤ above a + below b) where
    falls : above b + below a ≤ below b + above a
    falls = omega arith

    no_rise : above d ≡ 0
    no_rise = not_above across falls

    from_a_down : above r + below a ≤ above a + below r
    from_a_down = mono moved at_a (omega (arith, no_rise, along))

    to_b_down : gap r b * (parts - 1) ≤ past a b
    unfolding past
    to_b_down =
        omega (
          arith,
          both_parts b,
          beyond (below a) (above a) (below b) (above b) (below d) (above d) (below (a ⊕ d)) (above (a ⊕ d)) (below r) (above r) falls no_rise
              (mirrored (add_comm _ _) (near across)) (mirrored (add_comm _ _) (near far)) (omega (arith, mono far moved (omega (arith, no_rise, along)))),
        )

    not_past_down : Close a b → above b + below r ≤ above r + below b
    not_past_down c = mono at_b moved (omega (arith, no_rise, along, exact c, both_parts d))

  -- ---- near the exact point

  abbrev off : ℕ
  off = distance (magnitude d) (apart a b)

  off_few : off * parts ≤ apart a b
  off_few = rw across.size (omega (arith, near_units (apart a b)))

  step_near : Within (magnitude step * per_one * parts) (magnitude w * magnitude d * parts) (magnitude w * magnitude d + per_one * parts)
  step_near =
      let l = per_one in
      let h = near_quotient (magnitude w * magnitude d) (l * l) (mul-pos some_units some_units) in
      rw step_known.size (le_of_mul-le-mul_right (omega (arith, h.0)) some_units, le_of_mul-le-mul_right (omega (arith, h.1)) some_units)

  module _ (n q : ℕ) (small : n ≤ q) (hw : Within (magnitude w * q * parts) (n * per_one * parts) (4 * (per_one * q))) where
    abbrev Near : ℕ → Type 0
    Near c = Within (apart a r * q * parts) (n * apart a b * parts) (q * (7 * apart a b + c + parts))

    -- either way: up, or with above and below exchanged
    one_way : (pa na pb nb ps ns pr nr c : ℕ) → ns ≡ 0 → pa + nr ≤ pr + na
        → Within ((pr + (na + ns)) * parts) ((nr + (pa + ps)) * parts) (distance (pa + ps) (na + ns)) → pb + na ≡ nb + pa + apart a b
        → ps ≤ apart a b + off → pa + na ≤ c → pb + nb ≤ c → distance (pr + na) (nr + pa) ≡ apart a r → ps + ns ≡ magnitude step → Near c
    one_way pa na pb nb ps ns pr nr c none h hr hb hs sa sb is-apart is-step =
        near_point per_one (magnitude w) n q (apart a b) (magnitude d) (magnitude step) off some_units at_most_one small hw (within_distance _ _)
        off_few step_near (apart a r) _ c (rw (is-apart, is-step) at (moved_by pa na ps ns pr nr _ none h hr))
        (sum_at_most pa na pb nb ps ns (apart a b) off c none hb hs sa sb)

    near_exact : (c : ℕ) → magnitude a ≤ c → magnitude b ≤ c → Near c
    near_exact c ha hb = go (dec_le (above a + below b) (above b + below a))
      where
        a_size : above a + below a ≤ c
        a_size = rw (both_parts a) ha

        b_size : above b + below b ≤ c
        b_size = rw (both_parts b) hb

        step_size_lem : above step + below step ≤ apart a b + off
        step_size_lem = omega (arith, both_parts d, along)

        go : Dec (above a + below b ≤ above b + below a) → Near c
        go (yes up) =
            one_way (above a) (below a) (above b) (below b) (above step) (below step) (above r) (below r) c (omega (arith, no_fall up, along))
            (from_a_up up) (near moved) (omega arith) (omega (arith, step_size_lem)) a_size b_size refl (both_parts step)
        go (no h) =
            let down : above b + below a ≤ above a + below b = omega arith in
            one_way (below a) (above a) (below b) (above b) (below step) (above step) (below r) (above r) c (omega (arith, no_rise down, along))
            (omega (arith, from_a_down down)) (mirrored (add_comm _ _) (near moved)) (omega arith) (omega (arith, step_size_lem)) (omega (arith, a_size))
            (omega (arith, b_size)) (add_comm _ _) (add_comm _ _ ∙ both_parts step)

    is_coordinate : Coordinate a b r n q
    is_coordinate =
        let up = (order a b pa.number pb.number).le_units in
        let down = (order b a pb.number pa.number).le_units in
        record {
          is_finite = moved.number.is_finite;
          ends_finite = (pa.number.is_finite, pb.number.is_finite);
          ends_small = (pa.size, pb.size);
          from_a_up = λ e. (order a r pa.number moved.number).units_le (from_a_up (up e));
          from_a_down = λ e. (order r a moved.number pa.number).units_le (from_a_down (down e));
          to_b_up = λ e. to_b_up (up e);
          to_b_down = λ e. to_b_down (down e);
          not_past_up = λ c e. (order r b moved.number pb.number).units_le (not_past_up (up e) c);
          not_past_down = λ c e. (order b r pb.number moved.number).units_le (not_past_down (down e) c);
          near = near_exact;
        }

-- ---- with a weight

no_part : (x : Float) → below x ≤ above x → below x ≡ 0
no_part x = go (negative x)
  where
    go : (s : Bool) → cond s (magnitude x) 0 ≤ cond s 0 (magnitude x) → cond s (magnitude x) 0 ≡ 0
    go false h = refl
    go true h = omega arith

four : (w q n l : ℕ) → w * q * weight_parts ≤ l * (n * weight_parts + q) → l * (n * weight_parts) ≤ (w * weight_parts + l) * q
    → Within (w * q * parts) (n * l * parts) (4 * (l * q))
four w q n l h k = (omega arith, omega arith)

pub coordinate : (a b : Float) → Small reach a → Small reach b → (x y t w : Float) → T (fits binary32 w) → Weight x y t w
    → Coordinate a b (between w a b) (numerator x y t) (denominator x y t)
coordinate a b pa pb x y t w fit h =
    let fw : Number w = record { is_f32 = fit; is_finite = h.is_finite } in
    let zero = whole_known 0 (omega arith) in
    let one = whole_known 1 (omega arith) in
    let at_zero = plus_parts zero in
    let at_one = plus_parts one in
    let nonnegative : below w ≡ 0 = no_part w (omega (arith, (order (whole 0) w zero.number fw).le_units h.low)) in
    let at_most_one : magnitude w ≤ per_one = omega (arith, (order w (whole 1) fw one.number).le_units h.high, both_parts w) in
    is_coordinate a b w pa pb fw nonnegative at_most_one (numerator x y t) (denominator x y t) h.not_more
    (four (magnitude w) (denominator x y t) (numerator x y t) per_one h.not_above h.not_below)
