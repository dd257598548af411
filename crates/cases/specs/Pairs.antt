-- Pairs: whether a point of one layer is inside, and twice the same of the point beside it in the layer after. Definitions only.
use Rattle.std.specs.Prelude.{ℕ, ◌+◌, ◌*◌, ◌/◌, ◌≤◌, ◌<◌, ◌≡◌, List, Float, get_or}
use Rattle.std.specs.Float.{nan}
use Rattle.model.specs.Samples.{sample_of}
use Rattle.model.specs.Rotations.{xyz}
use Rattle.model.specs.Formulas.{inside_bit}
use Rattle.model.specs.Star.{Star, subdivisions}
use Rattle.cases.specs.Sheets.{row_start}

abbrev pub point_bit : Star → ℕ → ℕ → ℕ → ℕ
point_bit s x y z = inside_bit s.threshold (sample_of (subdivisions s) s.centre (xyz x y z))

-- the pair at a place once the layer of these samples comes after
abbrev pub paired_with : Float → List Float → List ℕ → ℕ → ℕ
paired_with t samples pairs i = get_or pairs i 0 / 2 + 2 * inside_bit t (get_or samples i nan)

-- the second of each pair is this layer's
pub record Upper (n : ℕ) (bit : ℕ → ℕ → ℕ) (pairs : List ℕ) : Type 0 where
  pub upper_at : (y z : ℕ) → y ≤ n → z ≤ n → get_or pairs (row_start n y + z) 0 / 2 ≡ bit y z

pub record Pairs (n : ℕ) (low high : ℕ → ℕ → ℕ) (pairs : List ℕ) : Type 0 where
  pub pair_at_lem : (y z : ℕ) → y ≤ n → z ≤ n → get_or pairs (row_start n y + z) 0 ≡ low y z + 2 * high y z

-- so many places hold no more than a pair
abbrev pub Small : ℕ → List ℕ → Type 0
Small places pairs = (i : ℕ) → i < places → get_or pairs i 0 ≤ 3

-- the case number of a cell: its own pair, that of the line after, and the two next to them
abbrev pub of_pairs : ℕ → List ℕ → ℕ → ℕ
of_pairs m pairs i = get_or pairs i 0 + 4 * get_or pairs (i + m) 0 + 16 * get_or pairs (i + 1) 0 + 64 * get_or pairs (i + m + 1) 0
