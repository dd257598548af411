-- Sheets of case numbers, row by row, and the planes of samples, line by line, that a layer of regular cells lies between. Definitions only.
use Rattle.std.specs.Prelude.{ℕ, ◌+◌, ◌*◌, ◌≤◌, ◌<◌, ◌≡◌, List, Float, get_or, length}
use Rattle.std.specs.Float.{nan}
use Rattle.model.specs.Limits.{most_subdivisions}
use Rattle.model.specs.Samples.{reading_at}
use Rattle.model.specs.Formulas.{inside_bit}
use Rattle.model.specs.Star.{Star, subdivisions}
use Rattle.model.specs.Mesh.{transition_reads}
use Rattle.grid.specs.Kinds.{in_block_reading}

-- rows lie as far apart as the lines of a layer's points do
abbrev pub row_start : ℕ → ℕ → ℕ
row_start n j = (n + 1) * j

-- the places of a sheet: a layer of the largest block's points, and eight more, so that a word can be read at each
abbrev pub sheet_places : ℕ
sheet_places = (most_subdivisions + 1) * (most_subdivisions + 1) + 8

-- no sheet's case numbers read more samples: nine for each of the largest side's cells
abbrev pub most_sheet_reads : ℕ
most_sheet_reads = transition_reads * most_subdivisions * most_subdivisions

-- the rows below so many hold the numbers of their cells
pub record Sheet (case : ℕ → ℕ → ℕ) (n rows : ℕ) (cases : List ℕ) : Type 0 where
  pub case_at : (j k : ℕ) → j < rows → k < n → get_or cases (row_start n j + k) 0 ≡ case j k

-- the numbers of a row's cells stand from its start on, and every other place is as it was
pub record RowPut (case : ℕ → ℕ) (start n : ℕ) (before after : List ℕ) : Type 0 where
  pub filled : (k : ℕ) → k < n → get_or after (start + k) 0 ≡ case k
  pub kept : (i : ℕ) → i < start → get_or after i 0 ≡ get_or before i 0
  pub beyond : (i : ℕ) → start + n ≤ i → get_or after i 0 ≡ get_or before i 0

-- the first so many places hold what each makes of its place and of what it held, and every other place is as it was
pub record Renewed (made : ℕ → ℕ → ℕ → Type 0) (n : ℕ) (before after : List ℕ) : Type 0 where
  pub new : (k : ℕ) → k < n → made k (get_or before k 0) (get_or after k 0)
  pub kept : (k : ℕ) → n ≤ k → get_or after k 0 ≡ get_or before k 0

-- how many numbers are worked out side by side
abbrev pub side_by_side : ℕ
side_by_side = 16

-- ---- regular cells

-- a block of so many subdivisions, with this threshold
pub record Measured (s : Star) (n : ℕ) (threshold : Float) : Type 0 where
  pub subdivisions_are : subdivisions s ≡ n
  pub threshold_is : s.threshold ≡ threshold

-- what is read from the plane, line by line, are the points at x, each in the block
pub record Plane (s : Star) (x : ℕ) (plane : List Float) : Type 0 where
  pub reading_at_lem : (y z : ℕ) → y ≤ subdivisions s → z ≤ subdivisions s
      → in_block_reading plane (row_start (subdivisions s) y + z) ≡ reading_at (subdivisions s) s.centre (x + 1) (y + 1) (z + 1)

-- what is read from the line are the points (x, y, 0), (x, y, 1), .., (x, y, n), each in the block
pub record Line (n : ℕ) (centre : List Float) (x y : ℕ) (line : List Float) : Type 0 where
  pub long : length line ≡ n + 1
  pub reading_at_lem : (z : ℕ) → z ≤ n → in_block_reading line z ≡ reading_at n centre (x + 1) (y + 1) (z + 1)

-- what four lines add at z, as the Rust numbers the corners, the first adding w if it is inside
abbrev pub four_inside : Float → List Float → List Float → List Float → List Float → ℕ → ℕ → ℕ
four_inside t a b c d z w =
    w * inside_bit t (get_or a z nan) + 2 * w * inside_bit t (get_or b z nan) + 4 * w * inside_bit t (get_or c z nan) + 8 * w * inside_bit t (get_or d z nan)

-- the case number of the cell at z between four lines
abbrev pub line_case : Float → List Float → List Float → List Float → List Float → ℕ → ℕ
line_case t a b c d z = four_inside t a b c d z 1 + four_inside t a b c d (z + 1) 16
