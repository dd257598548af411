-- `place` meets its contract, for each kind of cell. Assumes nothing.
use native.Mathlib.Omega.{arith}
use Rattle.vertices.specs.Uses.{regular_in, transition_in}
use Rattle.vertices.proofs.place.Goals as goal

pub regular_place-requires : goal.regular_place-requires
regular_place-requires c =
    let h = regular_in c.in-Regular.is c.requires.1.0 in
    record { few = c.requires.0; x_in = h.x_in; y_in = h.y_in; z_in = h.z_in; reuse = rw c.in-Regular.is at c.requires.1.1 }

pub transition_place-requires : goal.transition_place-requires
transition_place-requires c =
    let h = transition_in c.in-Transition.is c.requires.1.0 in
    record { few = c.requires.0; side_is = h.side_in; u_in = omega arith; v_in = omega arith; reuse = rw c.in-Transition.is at c.requires.1.1 }

pub returns-in-Regular : goal.returns-in-Regular
returns-in-Regular c = (rw c.in-Regular.is c.regular_place.ensures.0, omega (arith, c.regular_place.ensures.1))

pub returns-in-Transition : goal.returns-in-Transition
returns-in-Transition c = (rw c.in-Transition.is c.transition_place.ensures.0, c.transition_place.ensures.1)
