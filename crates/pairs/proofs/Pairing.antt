-- Pairs of two layers of points, and that the case numbers that are made of pairs are the model's.
use Prim.Native.Nat.{ℕ, ◌+◌, ◌-◌, ◌*◌, ◌≤◌, ◌<◌}
use mathlib.Core.Path.{◌≡◌, sym, ap, ◌∙◌}
use mathlib.Core.List.{List}
use native.Mathlib.Nat.{zero-add}
use native.Mathlib.Omega.{arith}
use lib.Ieee.{Float, nan}
use lib.ListN.{get_or, length}
use Rattle.model.specs.Answers.{Reading}
use Rattle.model.specs.Samples.{value_of, value_at}
use Rattle.model.specs.Formulas.{inside_bit}
use Rattle.model.specs.Star.{Star, subdivisions}
use Rattle.model.specs.Points.{regular_case}
use Rattle.cases.specs.Sheets.{row_start, Sheet, RowPut, Plane}
use Rattle.cases.specs.Pairs.{point_bit, paired_with, Upper, Pairs, of_pairs, Small}
use Rattle.cases.specs.Numbers.{bit_small}
use Rattle.cases.specs.RowPlaces.{row_before, point_at}
use Rattle.cases.specs.Lines.{four_corners, eight_are}

-- ---- a layer of points

module _ (s : Star) (x : ℕ) (layer : List Float) (p : Plane s x layer) where
  abbrev n : ℕ
  n = subdivisions s

  point_is : (y z : ℕ) → y ≤ n → z ≤ n → inside_bit s.threshold (get_or layer (row_start n y + z) nan) ≡ point_bit s x y z
  unfolding value_at
  point_is y z hy hz = ap (λ (r : Reading). inside_bit s.threshold (value_of r)) (p.reading_at_lem y z hy hz)

  -- its points become the second of each pair
  pub pairs_made : length layer ≡ (n + 1) * (n + 1) → (low : ℕ → ℕ → ℕ) (before after : List ℕ) → Upper n low before
      → RowPut (paired_with s.threshold layer before) 0 (length layer) before after → Pairs n low (point_bit s x) after
  pairs_made long low before after upper put =
      record {
        pair_at_lem = λ y z hy hz.
            let i = row_start n y + z in
            let l : i < length layer = omega (arith, long, row_before n y (n + 1) z (omega arith) hz) in
            ap (λ (k : ℕ). get_or after k 0) (sym (zero-add i)) ∙ put.filled i l
            ∙ (λ j. upper.upper_at y z hy hz j + 2 * point_is y z hy hz j);
      }

-- ---- pairs

module _ {n : ℕ} {low high : ℕ → ℕ → ℕ} {pairs : List ℕ} (p : Pairs n low high pairs) (low_bit : (y z : ℕ) → low y z ≤ 1) where
  pub pairs_small : ((y z : ℕ) → high y z ≤ 1) → Small ((n + 1) * (n + 1)) pairs
  pairs_small high_bit i h =
      let at = point_at n i h in
      let pair = p.pair_at_lem at.y at.z at.y_in at.z_in in
      omega (arith, ap (λ (k : ℕ). get_or pairs k 0) at.is_at, pair, low_bit at.y at.z, high_bit at.y at.z)

pub point_small : (s : Star) (x y z : ℕ) → point_bit s x y z ≤ 1
point_small s x y z = bit_small s.threshold _

-- ---- the case numbers

module _ (s : Star) (x : ℕ) {pairs : List ℕ} (p : Pairs (subdivisions s) (point_bit s x) (point_bit s (x + 1)) pairs) where
  abbrev pair_at : ℕ → ℕ
  pair_at i = get_or pairs i 0

  pair_is : (i y z : ℕ) → i ≡ row_start (subdivisions s) y + z → y ≤ subdivisions s → z ≤ subdivisions s
      → pair_at i ≡ point_bit s x y z + 2 * point_bit s (x + 1) y z
  pair_is i y z e hy hz = ap pair_at e ∙ p.pair_at_lem y z hy hz

  of_pairs_lem : (y z : ℕ) → y < subdivisions s → z < subdivisions s
      → of_pairs (subdivisions s + 1) pairs (row_start (subdivisions s) y + z) ≡ regular_case s x y z
  of_pairs_lem y z hy hz =
      let n = subdivisions s in
      let i = row_start n y + z in
      let same : of_pairs (n + 1) pairs i ≡ four_corners s x y z 1 + four_corners s x y (z + 1) 16 =
      omega (
        arith,
        pair_is i y z (omega arith) (omega arith) (omega arith),
        pair_is (i + (n + 1)) (y + 1) z (omega arith) (omega arith) (omega arith),
        pair_is (i + 1) y (z + 1) (omega arith) (omega arith) (omega arith),
        pair_is (i + (n + 1) + 1) (y + 1) (z + 1) (omega arith) (omega arith) (omega arith),
      ) in
      same ∙ eight_are s x y z

  pub pairs_sheet : (before after : List ℕ)
      → RowPut (of_pairs (subdivisions s + 1) pairs) 0 (subdivisions s * (subdivisions s + 1) - 1) before after
      → Sheet (regular_case s x) (subdivisions s) (subdivisions s) after
  pairs_sheet before after put =
      let n = subdivisions s in
      record {
        case_at = λ y z hy hz.
            ap (λ (i : ℕ). get_or after i 0) (sym (zero-add (row_start n y + z)))
            ∙ put.filled (row_start n y + z) (omega (arith, row_before n y n (z + 1) hy (omega arith))) ∙ of_pairs_lem y z hy hz;
      }
