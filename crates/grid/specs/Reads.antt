-- Document 01, 'The block and its samples': extraction reads no point that was never sampled.
use Rattle.std.specs.Prelude.{ℕ, ◌*◌, ◌<◌}
use Rattle.std.proofs.Common.{arith}
use Rattle.model.specs.Rotations.{face_point, neighbour_point}
use Rattle.model.specs.Points.{corner_point}
use Rattle.grid.specs.Places.{StepsSampled, steps_sampled}
use Rattle.grid.specs.RotationLaws.{OnFace, OnFineFace, face_point_in, neighbour_point_in}

-- a regular cell's corner, a side's grid point in the centre, and a fine point of it in the neighbour: each was sampled, and so was each
-- point one step from it, which is all that a sample or a gradient reads
pub corner_sampled : (n x y z k : ℕ) → x < n → y < n → z < n → StepsSampled n (corner_point x y z k)
corner_sampled n x y z k hx hy hz = steps_sampled n (corner_point x y z k) (omega arith)

pub face_sampled : (n side u v : ℕ) → OnFace n side u v → StepsSampled n (face_point n side u v)
face_sampled n side u v h = steps_sampled n (face_point n side u v) (face_point_in n side u v h)

pub neighbour_sampled : (n side u2 v2 : ℕ) → OnFineFace n side u2 v2 → StepsSampled (2 * n) (neighbour_point n side u2 v2)
neighbour_sampled n side u2 v2 h = steps_sampled (2 * n) (neighbour_point n side u2 v2) (neighbour_point_in n side u2 v2 h)
