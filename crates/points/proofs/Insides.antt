-- Document 01, 'Regular cells': a point that no block face touches. One step along each axis stays in the block, and shrinking does not move it.
use Prim.Native.Nat.{ℕ, ◌<◌}
use mathlib.Core.Path.{◌≡◌, refl}
use mathlib.Core.Bool.{Bool, true, false}
use native.Mathlib.Omega.{arith}
use borrow.Author.Tests.{ne_eqb}
use lib.Ieee.{Float}
use Rattle.model.specs.declared.Xyz.{Xyz}
use Rattle.model.specs.declared.Vector.{Vector}
use Rattle.model.specs.declared.Block.{Block}
use Rattle.model.specs.Formulas.{held, moved, shrink_amount, regular_position}
use Rattle.grid.specs.Places.{Within}
use Rattle.points.specs.Positions.{original_position}
use Rattle.points.specs.Steps.{Inside}
use Rattle.points.proofs.Shrinking.{stays, moves}

pub inside_within : {n : ℕ} {p : Xyz} → Inside n p → Within n p
inside_within h = record { x_in = omega arith; y_in = omega arith; z_in = omega arith }

unmoved : (n : ℕ) (amount : Float) (index : ℕ) (at : Float) → 0 < index → index < n → moved n amount index at ≡ at
unmoved n amount index at low high = rw (ne_eqb index 0 (λ e. omega arith), ne_eqb index n (λ e. omega arith))

module _ (block : Block) (mask : ℕ) (p : Xyz) (at : Vector) (is : at ≡ original_position block p) (h : Inside block.subdivisions p) where
  pub stays_inside : at ≡ regular_position block mask p
  stays_inside = go (held block.subdivisions mask p) refl
    where
      go : (is_held : Bool) → held block.subdivisions mask p ≡ is_held → at ≡ regular_position block mask p
      go true e = stays block mask p at is e
      go false e =
          let n = block.subdivisions in
          let amount = shrink_amount block.size n in
          rw (
            unmoved n amount p.x at.x h.x_low h.x_high,
            unmoved n amount p.y at.y h.y_low h.y_high,
            unmoved n amount p.z at.z h.z_low h.z_high,
          ) at (moves block mask p at is e)
