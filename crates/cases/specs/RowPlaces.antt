-- Where the rows of a sheet lie: one after another, and all of them within it.
use Rattle.std.specs.Prelude.{ℕ, ◌+◌, ◌*◌, ◌/◌, ◌%◌, ◌≤◌, ◌<◌, ◌≡◌, List}
use Rattle.std.proofs.Common.{mul-le-mul, mul-le-mul_left, div-lt_iff_lt-mul, mod-lt, arith}
use Rattle.std.proofs.Math.Nat.{div-add-mod}
use Rattle.model.specs.Limits.{most_subdivisions}
use Rattle.cases.specs.Sheets.{row_start, Sheet}

-- a sheet has room for the rows of any block
pub rows_fit : (n : ℕ) → n ≤ most_subdivisions → n * (n + 1) ≤ most_subdivisions * (most_subdivisions + 1)
rows_fit n few =
    let more : n + 1 ≤ most_subdivisions + 1 = omega arith in
    mul-le-mul few more

-- and for a layer of its points
pub layer_fits : (n : ℕ) → n ≤ most_subdivisions → (n + 1) * (n + 1) ≤ (most_subdivisions + 1) * (most_subdivisions + 1)
layer_fits n few =
    let more : n + 1 ≤ most_subdivisions + 1 = omega arith in
    mul-le-mul more more

-- the places of an earlier row lie before those of a later one
pub row_before : (n j y k : ℕ) → j < y → k ≤ n → row_start n j + k < row_start n y
row_before n j y k h l =
    let e : (n + 1) * (j + 1) ≤ (n + 1) * y = mul-le-mul_left (n + 1) (omega arith) in
    omega arith

-- a sheet of no row is any list
pub no_row : (case : ℕ → ℕ → ℕ) (n : ℕ) (cases : List ℕ) → Sheet case n 0 cases
no_row case n cases = record { case_at = λ j k h l. absurd (let x : ⊥ = omega arith in x) }

-- each place of a layer of points is that of a point
pub record PointAt (n i : ℕ) : Type 0 where
  pub y : ℕ
  pub z : ℕ
  pub y_in : y ≤ n
  pub z_in : z ≤ n
  pub is_at : row_start n y + z ≡ i

pub point_at : (n i : ℕ) → i < (n + 1) * (n + 1) → PointAt n i
point_at n i h =
    let some : 0 < n + 1 = omega arith in
    let low : i / (n + 1) < n + 1 = (div-lt_iff_lt-mul some).1 h in
    let left : i % (n + 1) < n + 1 = mod-lt i some in
    record { y = i / (n + 1); z = i % (n + 1); y_in = omega (arith, low); z_in = omega (arith, left); is_at = div-add-mod i (n + 1) }
