-- `transition_vertex` meets its contract: its two points are points of the cell, read from the side's own neighbour.
use Rattle.points.specs.Grids.{star_of}
use Rattle.points.specs.CellPoints.{Bordered}
use Rattle.vertices.specs.Making.{point_in_cell, transition_made}
use Rattle.vertices.proofs.transition_vertex.Goals as goal
use Rattle.vertices.proofs.transition_vertex.Goals.{After-neighbour-fine}

-- the side's neighbour is wholly lent
bordered : (c : After-neighbour-fine) → let a = c.args in Bordered a.grid.now.lent.header.block.subdivisions c.neighbour-fine.result.now a.at
bordered c =
    let h = c.requires.ready in
    record { side_is = h.placed.side_in; u_in = h.placed.u_in; v_in = h.placed.v_in; fine_is = c.neighbour-fine.ensures.1 }

pub transition_point-requires : goal.transition_point-requires
transition_point-requires c =
    let in_cell = point_in_cell c.voxel_a_index.result _ c.cell_point-a.ensures in
    record { bordered = bordered (goal.at.transition_point-requires c).After-neighbour-fine; in_cell = in_cell }

pub transition_point-requires-2 : goal.transition_point-requires-2
transition_point-requires-2 c =
    let in_cell = point_in_cell c.voxel_b_index.result _ c.cell_point-b.ensures in
    record { bordered = bordered (goal.at.transition_point-requires-2 c).After-neighbour-fine; in_cell = in_cell }

pub returns : goal.returns
returns c =
    let a = c.args in
    let fine_is = c.neighbour-fine.ensures.0 in
    transition_made (star_of a.grid.now) a.at.side a.at.u a.at.v a.code _ _ _ _ _ _ _
    c.voxel_a_index.ensures.0 c.voxel_b_index.ensures.0
    c.cell_point-a.ensures c.cell_point-b.ensures
    (c.transition_point.ensures a.grid.now.lent.neighbours.now fine_is) (c.transition_point-2.ensures a.grid.now.lent.neighbours.now fine_is) c.vertex_between.ensures
