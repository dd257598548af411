-- Document 02, [4]: what the two points one step along an axis from an in-block point read as, with the store that each stands in.
use Prim.Native.Nat.{ℕ, ◌+◌, ◌*◌}
use mathlib.Core.Path.{◌≡◌}
use mathlib.Core.List.{List}
use lib.Ieee.{Float}
use Rattle.model.specs.declared.Xyz.{Xyz}
use Rattle.model.specs.Samples.{in_block, reading_at}
use Rattle.grid.specs.Places.{Within, steps_sampled}
use Rattle.grid.specs.Kinds.{reading_stored}
use Rattle.points.specs.Steps.{up_reading, down_reading}
use Rattle.points.specs.StepKinds.{step_kinds}
use Rattle.points.proofs.Steps.{line_x, line_y, line_z, up_is, down_is}

module _ (n : ℕ) (p : Xyz) (h : Within n p) (samples : List Float) where
  abbrev here : ℕ
  here = in_block n p.x p.y p.z

  abbrev m : ℕ
  m = n + 1

  pub x_up_reads : reading_at n samples (p.x + 2) (p.y + 1) (p.z + 1) ≡ up_reading samples n here (m * m) 0 p.x p.y p.z
  x_up_reads =
      reading_stored n _ _ _ samples (steps_sampled n p h).x_up (up_is (line_x n p h) h.x_in) (step_kinds n p h).x_up

  pub x_down_reads : reading_at n samples p.x (p.y + 1) (p.z + 1) ≡ down_reading samples n here (m * m) 0 p.x p.y p.z
  x_down_reads =
      reading_stored n _ _ _ samples (steps_sampled n p h).x_down (down_is (line_x n p h) h.x_in) (step_kinds n p h).x_down

  pub y_up_reads : reading_at n samples (p.x + 1) (p.y + 2) (p.z + 1) ≡ up_reading samples n here m 2 p.y p.x p.z
  y_up_reads =
      reading_stored n _ _ _ samples (steps_sampled n p h).y_up (up_is (line_y n p h) h.y_in) (step_kinds n p h).y_up

  pub y_down_reads : reading_at n samples (p.x + 1) p.y (p.z + 1) ≡ down_reading samples n here m 2 p.y p.x p.z
  y_down_reads =
      reading_stored n _ _ _ samples (steps_sampled n p h).y_down (down_is (line_y n p h) h.y_in) (step_kinds n p h).y_down

  pub z_up_reads : reading_at n samples (p.x + 1) (p.y + 1) (p.z + 2) ≡ up_reading samples n here 1 4 p.z p.x p.y
  z_up_reads =
      reading_stored n _ _ _ samples (steps_sampled n p h).z_up (up_is (line_z n p h) h.z_in) (step_kinds n p h).z_up

  pub z_down_reads : reading_at n samples (p.x + 1) (p.y + 1) p.z ≡ down_reading samples n here 1 4 p.z p.x p.y
  z_down_reads =
      reading_stored n _ _ _ samples (steps_sampled n p h).z_down (down_is (line_z n p h) h.z_in) (step_kinds n p h).z_down
