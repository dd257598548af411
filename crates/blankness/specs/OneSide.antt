-- All points of a block and of the fine faces of its named sides are on one side of the threshold. Definitions only.
use Rattle.std.specs.Prelude.{◌≡◌, Bool, true, ℕ, ◌+◌, ◌*◌, ◌/◌, ◌%◌, ◌≤◌, ◌<◌}
use Rattle.model.specs.Limits.{side_count}
use Rattle.model.specs.Samples.{sample_of}
use Rattle.model.specs.Sides.{named}
use Rattle.model.specs.Rotations.{xyz}
use Rattle.model.specs.Formulas.{inside}
use Rattle.model.specs.Star.{Star, subdivisions}
use Rattle.model.specs.Points.{fine_sample}

module _ (s : Star) where
  abbrev n : ℕ
  n = subdivisions s

  -- the point (x, y, z) of the block is inside; the fine point (U2, V2) of a side is
  unfoldable pub centre_in : ℕ → ℕ → ℕ → Bool
  centre_in x y z = inside s.threshold (sample_of n s.centre (xyz x y z))

  unfoldable pub fine_in : ℕ → ℕ → ℕ → Bool
  fine_in side u2 v2 = inside s.threshold (fine_sample s side u2 v2)

  -- every point is inside, or is not, as b says
  pub record OneSide (b : Bool) : Type 0 where
    pub centre : (x y z : ℕ) → x ≤ n → y ≤ n → z ≤ n → centre_in x y z ≡ b
    pub fine : (side : ℕ) → side < side_count → named s.mask side ≡ true
        → (u2 v2 : ℕ) → u2 ≤ 2 * n → v2 ≤ 2 * n → fine_in side u2 v2 ≡ b

  -- corner k of a regular cell is inside; fine point k of a transition cell is
  abbrev pub corner_in : ℕ → ℕ → ℕ → ℕ → Bool
  corner_in x y z k = centre_in (x + k % 2) (y + k / 2 % 2) (z + k / 4 % 2)

  abbrev pub spot_in : ℕ → ℕ → ℕ → ℕ → Bool
  spot_in side u v k = fine_in side (2 * u + k % 3) (2 * v + k / 3)
