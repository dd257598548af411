-- The coordinates of a grid point, regular or fine, of a block whose base and size pass refusal 3: each is finite and at most three times the largest
-- size.
use Rattle.std.specs.Prelude.{ℕ, ◌+◌, ◌*◌, ◌≤◌, ◌<◌, ◌≡◌, refl, Bool, ◌&&◌, cond, T, eqb, Float}
use Rattle.std.proofs.Common.{ap, mul-le-mul_left, mul-le-mul_right, arith, lit<, lit≤}
use Rattle.std.proofs.Math.Bool.{true, false, and-eq-true_iff}
use Rattle.std.specs.Float.Ieee as Ieee
use Rattle.std.specs.Float.{nan, inf, fin, binary32}
use Rattle.std.specs.Float.Ieee.{fits}
use Rattle.std.specs.Float.Ieee.Scale.{finite}
use Rattle.model.specs.declared.Xyz.{Xyz}
use Rattle.model.specs.declared.Vector.{Vector}
use Rattle.model.specs.declared.Block.{Block}
use Rattle.model.specs.Limits.{most_subdivisions, most_size, least_part}
use Rattle.model.specs.Formulas.{◌⊕◌, ◌⊖◌, ◌⊗◌, ◌⊘◌, whole, regular_coordinate, shrink_factor, shrink_amount, held, moved, regular_position, fine_coordinate, fine_position}
use Rattle.model.specs.Judging.{limit, usable, usable_size}
use Rattle.grid.specs.Places.{Within}
use Rattle.weights.specs.Units.{per_one, magnitude, negative, above, below, parts}
use Rattle.weights.specs.Clauses.{reach}
use Rattle.weights.specs.Values.{Number, order}
use Rattle.weights.specs.Operations.{turned, both_parts}
use Rattle.weights.specs.Small.{Small, smaller, whole_known, whole_small, small_sum, small_difference, small_product, product_at_most, small_quotient, nth_size, small_rounded}

-- ---- what 3 and 7 let pass

finite_between : (low high x : Float) → T (finite low) → T (finite high) → T (Ieee.le low x) → T (Ieee.le x high) → T (finite x)
unfolding Ieee.le
finite_between low high (fin s m e) f g h k = tt
finite_between nan high nan f g h k = absurd f
finite_between (inf s) high nan f g h k = absurd f
finite_between (fin s m e) high nan f g h k = absurd h
finite_between nan high (inf true) f g h k = absurd f
finite_between (inf s) high (inf true) f g h k = absurd f
finite_between (fin s m e) high (inf true) f g h k = absurd h
finite_between low nan (inf false) f g h k = absurd g
finite_between low (inf s) (inf false) f g h k = absurd g
finite_between low (fin s m e) (inf false) f g h k = absurd k

size_between : (x : Float) (l : ℕ) → below x ≤ above x + l → above x ≤ below x + l → magnitude x ≤ l
size_between x l = go (negative x)
  where
    go : (b : Bool) → cond b (magnitude x) 0 ≤ cond b 0 (magnitude x) + l → cond b 0 (magnitude x) ≤ cond b (magnitude x) 0 + l → magnitude x ≤ l
    go true h k = omega arith
    go false h k = omega arith

small_between : {c : ℕ} {low high : Float} (x : Float) → T (fits binary32 x) → Small c low → Small c high
    → Ieee.le low x && Ieee.le x high ≡ true → Small c x
small_between {c} {low} {high} x fit p q e =
    let both = (and-eq-true_iff (Ieee.le low x) (Ieee.le x high)).0 e in
    let h : T (Ieee.le low x) = rw both.0 tt in
    let k : T (Ieee.le x high) = rw both.1 tt in
    let number : Number x = record { is_f32 = fit; is_finite = finite_between low high x p.number.is_finite q.number.is_finite h k } in
    record {
      number = number;
      size = size_between x _ (omega (arith, (order low x p.number number).le_units h, both_parts low, p.size))
          (omega (arith, (order x high number q.number).le_units k, both_parts high, q.size));
    }

limit_small : Small most_size limit
limit_small = whole_small most_size (lit< tt)

pub usable_small : (x : Float) → T (fits binary32 x) → usable x ≡ true → Small most_size x
usable_small x fit = small_between x fit (turned_small limit_small) limit_small
  where
    turned_small : {c : ℕ} {x : Float} → Small c x → Small c (Ieee.neg x)
    turned_small p = let k = turned _ p.number in record { number = k.number; size = rw k.size p.size }

pub usable_size_small : (x : Float) → T (fits binary32 x) → usable_size x ≡ true → Small most_size x
usable_size_small x fit = small_between x fit (smaller (small_quotient 1 least_part (lit≤ tt) (lit≤ tt) (lit< tt)) (lit≤ tt)) limit_small

-- ---- coordinates

-- n, base and size are such as 1 and 3 let pass
pub record Measured (block : Block) : Type 0 where
  pub some : 1 ≤ block.subdivisions
  pub few : block.subdivisions ≤ most_subdivisions
  pub x : Small most_size block.base.x
  pub y : Small most_size block.base.y
  pub z : Small most_size block.base.z
  pub size : Small most_size block.size

pub record Reached (v : Vector) : Type 0 where
  pub x : Small reach v.x
  pub y : Small reach v.y
  pub z : Small reach v.z

factor_small : Small 1 shrink_factor
unfolding shrink_factor
factor_small = small_rounded false 15 100 1 (lit< tt) (lit< tt) (lit≤ tt)

-- half of k, times 1/n, for k up to 2n
half_size : 2 * magnitude (whole 1 ⊘ whole 2) ≡ per_one
unfolding Ieee.div Ieee.of_int Ieee.round magnitude per_one
half_size = refl

module _ (n k : ℕ) (some : 1 ≤ n) (few : 2 * n < parts) (h : k ≤ 2 * n) where
  half_of : Small n ((whole 1 ⊘ whole 2) ⊗ whole k)
  half_of =
      let half = whole 1 ⊘ whole 2 in
      let w = whole_known k (omega arith) in
      product_at_most (small_quotient 1 2 (lit≤ tt) (lit≤ tt) (lit< tt)) (whole_small k (omega arith)) (omega arith)
      (rw w.size
      (omega (arith, mul-le-mul_right per_one (mul-le-mul_left (magnitude half) h), ap (λ (l : ℕ). n * per_one * l) half_size)))

  fine_fraction : Small 2 (((whole 1 ⊘ whole 2) ⊗ whole k) ⊗ (whole 1 ⊘ whole n))
  fine_fraction =
      let nth = magnitude (whole 1 ⊘ whole n) in
      product_at_most half_of (small_quotient 1 n some some (omega arith)) (lit< tt)
      (omega (arith, mul-le-mul_right nth half_of.size, mul-le-mul_right per_one (nth_size n some (omega arith))))

module _ (block : Block) (ok : Measured block) where
  abbrev n : ℕ
  n = block.subdivisions

  regular_small : {base : Float} → Small most_size base → (index : ℕ) → index ≤ n → Small (2 * most_size) (regular_coordinate base block.size n index)
  regular_small p index h =
      small_sum p (small_product ok.size (small_quotient index n h ok.some (omega arith)) (lit< tt)) (lit< tt)

  amount_small : Small most_size (shrink_amount block.size n)
  amount_small =
      small_product factor_small (small_product ok.size (small_quotient 1 n ok.some ok.some (omega arith)) (lit< tt)) (lit< tt)

  moved_small : {at : Float} → Small (2 * most_size) at → (index : ℕ) → Small reach (moved n (shrink_amount block.size n) index at)
  moved_small {at} p index = go (eqb index 0) (eqb index n)
    where
      go : (low high : Bool) → Small reach (cond low (at ⊕ shrink_amount block.size n) (cond high (at ⊖ shrink_amount block.size n) at))
      go true high = small_sum p amount_small (lit< tt)
      go false true = small_difference p amount_small (lit< tt)
      go false false = smaller p (lit≤ tt)

  pub regular_reached : (mask : ℕ) (p : Xyz) → Within n p → Reached (regular_position block mask p)
  unfolding regular_position
  regular_reached mask p h =
      let x = regular_small ok.x p.x h.x_in in
      let y = regular_small ok.y p.y h.y_in in
      let z = regular_small ok.z p.z h.z_in in
      chosen (held n mask p)
      (record { x = smaller x (lit≤ tt); y = smaller y (lit≤ tt); z = smaller z (lit≤ tt) })
      (record { x = moved_small x p.x; y = moved_small y p.y; z = moved_small z p.z })
    where
      chosen : (b : Bool) {v w : Vector} → Reached v → Reached w → Reached (cond b v w)
      chosen true p q = p
      chosen false p q = q

  -- ---- fine points: half of k, times 1/n, is at most 2

  fine_small : {base : Float} → Small most_size base → (k : ℕ) → k ≤ 2 * n → Small reach (fine_coordinate base block.size n k)
  fine_small p k h = small_sum p (small_product ok.size (fine_fraction n k ok.some (omega arith) h) (lit< tt)) (lit< tt)

  pub fine_reached : (p : Xyz) → Within (2 * n) p → Reached (fine_position block p)
  unfolding fine_position
  fine_reached p h = record { x = fine_small ok.x p.x h.x_in; y = fine_small ok.y p.y h.y_in; z = fine_small ok.z p.z h.z_in }
