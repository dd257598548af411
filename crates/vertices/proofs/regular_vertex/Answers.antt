-- `regular_vertex` meets its contract: its two points are corners of the cell. Assumes nothing.
use Rattle.points.specs.Grids.{star_with}
use Rattle.vertices.specs.Making.{corner_within, regular_made}
use Rattle.vertices.proofs.regular_vertex.Goals as goal

pub regular_vertex_between-requires : goal.regular_vertex_between-requires
regular_vertex_between-requires c =
    let a = c.args in
    let within = corner_within a.grid.now.lent.header.block.subdivisions a.at.x a.at.y a.at.z in
    (within _ _ c.requires.in_block c.corner_point-a.ensures, within _ _ c.requires.in_block c.corner_point-b.ensures)

pub returns : goal.returns
returns c =
    let a = c.args in
    λ ns. regular_made (star_with a.grid.now ns) a.at.x a.at.y a.at.z a.code _ _ _ _ _
    c.voxel_a_index.ensures.0 c.voxel_b_index.ensures.0 c.corner_point-a.ensures c.corner_point-b.ensures
    (c.regular_vertex_between.ensures ns)
