-- `grid_point::transition_point` meets its contract: each kind of point stays on its face, since it lies in its cell.
use mathlib.Core.Path.{subst}
use native.Mathlib.Omega.{arith}
use Rattle.tables.specs.declared.aux_tables.CellPoint.TheVariants.{Fine, Coarse}
use Rattle.model.specs.Points.{transition_point}
use Rattle.points.specs.CellPoints.{InCell}
use Rattle.points.proofs.grid_point.transition_point.Goals as goal
use Rattle.points.proofs.grid_point.transition_point.Goals.{In-Coarse, In-Fine}

offset-in : (c : In-Fine) → InCell (Fine c.in-Fine.offset)
offset-in c = subst InCell c.in-Fine.is c.requires.in_cell

corner_in_lem : (c : In-Coarse) → InCell (Coarse c.in-Coarse.corner)
corner_in_lem c = subst InCell c.in-Coarse.is c.requires.in_cell

pub overflow_add-u : goal.overflow_add-u
overflow_add-u c = let h = offset-in (goal.at.overflow_add-u c).In-Fine in omega arith

pub overflow_add-v : goal.overflow_add-v
overflow_add-v c = let h = offset-in (goal.at.overflow_add-v c).In-Fine in omega arith

pub fine_grid_point-requires : goal.fine_grid_point-requires
fine_grid_point-requires c =
    let h = offset-in (goal.at.fine_grid_point-requires c).In-Fine in
    let few = c.args.grid.now.centred.parts.few in
    record { fine_len = c.requires.bordered.fine_is; on_fine_face = record { few = few; side_is = c.requires.bordered.side_is; u_in = omega arith; v_in = omega arith } }

pub overflow_add-cell : goal.overflow_add-cell
overflow_add-cell c = let h = corner_in_lem (goal.at.overflow_add-cell c).In-Coarse in omega arith

pub overflow_add-cell-in-Coarse : goal.overflow_add-cell-in-Coarse
overflow_add-cell-in-Coarse c = let h = corner_in_lem (goal.at.overflow_add-cell-in-Coarse c).In-Coarse in omega arith

pub face_point-at-requires : goal.face_point-at-requires
face_point-at-requires c =
    let h = corner_in_lem (goal.at.face_point-at-requires c).In-Coarse in
    record { few = c.args.grid.now.centred.parts.few; side_is = c.requires.bordered.side_is; u_in = omega arith; v_in = omega arith }

pub returns-in-Fine : goal.returns-in-Fine
unfolding transition_point
returns-in-Fine c =
    λ ns is. rw c.in-Fine.is (c.fine_grid_point.ensures ns is)

pub returns-in-Coarse : goal.returns-in-Coarse
unfolding transition_point
returns-in-Coarse c =
    λ ns is. rw (c.in-Coarse.is, ← c.face_point-at.ensures.0) (c.regular_point.ensures ns)
