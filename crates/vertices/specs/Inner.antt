-- Regular cells that touch no block face: from there no step leaves the block, and no gradient reads beyond it. Definitions only.
use Rattle.std.specs.Prelude.{ℕ, ◌+◌, ◌<◌, Bool, false, ◌&&◌, ltb}
use Rattle.model.specs.declared.Xyz.{Xyz}
use Rattle.model.specs.Rotations.{xyz}
use Rattle.codes.specs.declared.CellIndex.{CellIndex}
use Rattle.codes.specs.declared.CellIndex.TheVariants.{Regular, Transition}

-- the cell at this coordinate touches neither face of its axis
abbrev pub between : ℕ → ℕ → Bool
between n c = ltb 0 c && ltb (c + 1) n

abbrev pub inner_at : ℕ → CellIndex → Bool
inner_at n (Regular at) = between n at.x && (between n at.y && between n at.z)
inner_at n (Transition at) = false

-- a regular cell's coordinates
abbrev pub regular_at : CellIndex → Xyz
regular_at (Regular at) = at
regular_at (Transition at) = xyz 0 0 0

pub record Inner (n : ℕ) (at : Xyz) : Type 0 where
  pub x_low : 0 < at.x
  pub x_high : at.x + 1 < n
  pub y_low : 0 < at.y
  pub y_high : at.y + 1 < n
  pub z_low : 0 < at.z
  pub z_high : at.z + 1 < n
