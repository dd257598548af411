-- `grid::rotation::rotation_for_side` meets its contract: each arm is the rotation that document 01 lists for the side.
use mathlib.Core.Path.{◌≡◌, ap, sym, ◌∙◌}
use native.Mathlib.Omega.{arith}
use Rattle.model.specs.Rotations.{rotations, rotation_of}
use Rattle.grid.proofs.rotation.rotation_for_side.Goals as goal

pub returns-in-0 : goal.returns-in-0
unfolding rotation_of rotations
returns-in-0 c = c.rotation.ensures ∙ ap rotation_of (sym c.in-0.is)

pub returns-in-1 : goal.returns-in-1
unfolding rotation_of rotations
returns-in-1 c = c.rotation-in-1.ensures ∙ ap rotation_of (sym c.in-1.is)

pub returns-in-2 : goal.returns-in-2
unfolding rotation_of rotations
returns-in-2 c = c.rotation-in-2.ensures ∙ ap rotation_of (sym c.in-2.is)

pub returns-in-3 : goal.returns-in-3
unfolding rotation_of rotations
returns-in-3 c = c.rotation-in-3.ensures ∙ ap rotation_of (sym c.in-3.is)

pub returns-in-4 : goal.returns-in-4
unfolding rotation_of rotations
returns-in-4 c = c.rotation-in-4.ensures ∙ ap rotation_of (sym c.in-4.is)

pub returns-in_default : goal.returns-in_default
unfolding rotation_of rotations
returns-in_default c =
    let last : c.args.side ≡ 5 = omega arith in
    c.rotation-in_default.ensures ∙ ap rotation_of (sym last)
