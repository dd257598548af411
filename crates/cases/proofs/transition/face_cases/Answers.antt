-- `transition::face_cases` meets its contract: the rows of its walk are the side's, whatever the block's own samples.
use mathlib.Core.Path.{sym, subst}
use mathlib.Core.List.{List, []}
use native.Mathlib.Nat.{zero-add}
use native.Mathlib.Omega.{arith}
use lib.Ieee.{Float}
use Rattle.model.specs.Star.{Star, star}
use Rattle.model.specs.Points.{transition_case}
use Rattle.grid.specs.declared.face_walk.FaceWalk.{FaceWalk}
use Rattle.cases.specs.Faces.{OnWalk}
use Rattle.cases.specs.RowPlaces.{no_row}
use Rattle.cases.specs.Fine.{face_walked, face_numbers}
use Rattle.cases.proofs.transition.face_cases.Goals as goal
use Rattle.cases.proofs.transition.face_cases.Goals.{After-face_walk-walk}

abbrev s : (c : After-face_walk-walk) → List Float → Star
s c centre = star c.args.header centre c.args.neighbours.now

-- the numbers on it are the side's
numbers : (c : After-face_walk-walk) → (centre : List Float) → let n = c.args.header.block.subdivisions in
    OnWalk (transition_case ((s c) centre) c.args.side) c.args.header.threshold c.neighbour-fine.result.now n c.face_walk-walk.result n 0
numbers c centre =
    let there = c.requires.neighbour_there in
    let n = c.args.header.block.subdivisions in
    let side = c.args.side in
    subst (λ (walk : FaceWalk). OnWalk (transition_case ((s c) centre) side) c.args.header.threshold c.neighbour-fine.result.now n walk n 0)
    (sym c.face_walk-walk.ensures)
    (face_numbers ((s c) centre) side there.few there.side_is c.neighbour-fine.result.now c.neighbour-fine.ensures.0)

pub face_walk-walk-requires : goal.face_walk-walk-requires
face_walk-walk-requires c = (omega arith, omega arith)

pub rows_on-requires : goal.rows_on-requires
rows_on-requires c =
    let there = c.requires.neighbour_there in record { n_le_most_subdivisions = (there.few, (omega arith, c.requires.le_subdivisions.1)); walked = rw c.face_walk-walk.ensures (face_walked (s (goal.at.rows_on-requires c).After-face_walk-walk []) c.args.side there.few there.side_is _ c.neighbour-fine.ensures.1) }

pub returns : goal.returns
returns c =
    let all = zero-add c.args.header.block.subdivisions in
    record { cases = λ centre. rw all at (c.rows_on.ensures.cases (transition_case (s (goal.at.returns c).After-face_walk-walk centre) c.args.side) (numbers (goal.at.returns c).After-face_walk-walk centre) (no_row _ _ _)); marks = λ centre. rw all at (c.rows_on.ensures.marks (transition_case (s (goal.at.returns c).After-face_walk-walk centre) c.args.side) (numbers (goal.at.returns c).After-face_walk-walk centre) (no_row _ _ _)); reads = c.rows_on.ensures.reads }
