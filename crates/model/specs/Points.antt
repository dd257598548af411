-- Document 01, 'Regular cells' and 'Transition cells': the grid points of a block's cells, and their case numbers.
-- Definitions only.
use Rattle.std.specs.Prelude.{ℕ, ◌+◌, ◌*◌, ◌/◌, ◌%◌, ◌^◌, cond, ◌&&◌, eqb, Float}
use Rattle.tables.specs.Points.{contribution_of}
use Rattle.tables.specs.declared.aux_tables.CellPoint.{CellPoint}
use Rattle.tables.specs.declared.aux_tables.CellPoint.TheVariants.{Fine, Coarse}
use Rattle.model.specs.declared.Xyz.{Xyz}
use Rattle.model.specs.declared.GridPoint.{GridPoint}
use Rattle.laws.specs.Steps.{total}
use Rattle.model.specs.Samples.{sample_of}
use Rattle.model.specs.Star.{Star, subdivisions, neighbour_at}
use Rattle.model.specs.Rotations.{xyz, face_point, fine_point, neighbour_point}
use Rattle.model.specs.Formulas.{inside_bit, gradient_at, regular_position, fine_position}

-- ---- regular cells

-- corner k of a cell is offset (k bit 0, k bit 1, k bit 2)
abbrev pub corner_point : ℕ → ℕ → ℕ → ℕ → Xyz
corner_point x y z k = xyz (x + k % 2) (y + k / 2 % 2) (z + k / 4 % 2)

-- 2^k for each inside corner
unfoldable pub regular_case : Star → ℕ → ℕ → ℕ → ℕ
regular_case s x y z =
    total (λ k. 2 ^ k * inside_bit s.threshold (sample_of (subdivisions s) s.centre (corner_point x y z k))) 8

unfoldable pub regular_point : Star → Xyz → GridPoint
regular_point s p =
    record {
      position = regular_position s.block s.mask p;
      gradient = gradient_at (subdivisions s) s.centre p;
      sample = sample_of (subdivisions s) s.centre p;
    }

-- ---- transition cells

-- the sample of the fine point (U2, V2) of a side: the neighbour's
unfoldable pub fine_sample : Star → ℕ → ℕ → ℕ → Float
fine_sample s side u2 v2 =
    sample_of (2 * subdivisions s) (neighbour_at s side) (neighbour_point (subdivisions s) side u2 v2)

-- the contribution of each inside fine point 0..8 of the cell, u fastest
unfoldable pub transition_case : Star → ℕ → ℕ → ℕ → ℕ
transition_case s side u v =
    total (λ k. contribution_of k * inside_bit s.threshold (fine_sample s side (2 * u + k % 3) (2 * v + k / 3))) 9

-- both offsets even: the centre's regular gradient; others: the neighbour's
unfoldable pub fine_grid_point : Star → ℕ → ℕ → ℕ → GridPoint
fine_grid_point s side u2 v2 =
    let n = subdivisions s in
    record {
      position = fine_position s.block (fine_point n side u2 v2);
      gradient = cond (eqb (u2 % 2) 0 && eqb (v2 % 2) 0)
          (gradient_at n s.centre (face_point n side (u2 / 2) (v2 / 2)))
          (gradient_at (2 * n) (neighbour_at s side) (neighbour_point n side u2 v2));
      sample = fine_sample s side u2 v2;
    }

-- a point of the transition cell (u, v) of a side: on the fine face with its offset, or on the coarse face with its corner
unfoldable pub transition_point : Star → ℕ → ℕ → ℕ → CellPoint → GridPoint
transition_point s side u v (Fine offset) = fine_grid_point s side (2 * u + offset.u) (2 * v + offset.v)
transition_point s side u v (Coarse corner) =
    regular_point s (face_point (subdivisions s) side (u + corner.u) (v + corner.v))
