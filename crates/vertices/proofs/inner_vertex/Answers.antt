-- `inner_vertex` meets its contract: its two points are corners that no block face touches. Assumes nothing.
use Rattle.points.specs.Grids.{star_with}
use Rattle.vertices.specs.Making.{regular_made}
use Rattle.vertices.proofs.Inners.{corner_inside_lem}
use Rattle.vertices.proofs.inner_vertex.Goals as goal

pub vertex_inside-requires : goal.vertex_inside-requires
vertex_inside-requires c =
    let inner = c.requires.inner.0 in
    (corner_inside_lem inner _ _ c.corner_point-a.ensures, corner_inside_lem inner _ _ c.corner_point-b.ensures)

pub returns : goal.returns
returns c =
    let a = c.args in
    λ ns. regular_made (star_with a.grid.now ns) a.at.x a.at.y a.at.z a.code _ _ _ _ _
    c.voxel_a_index.ensures.0 c.voxel_b_index.ensures.0 c.corner_point-a.ensures c.corner_point-b.ensures
    (c.vertex_inside.ensures ns)
