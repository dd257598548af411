-- `edges::regular_edge` meets its contract: the lower end is a corner of the cell, so a point of the block. Assumes nothing.
use native.Mathlib.Omega.{arith}
use Rattle.grid.specs.Places.{Small, small}
use Rattle.vertices.specs.Making.{corner_within, edge_made}
use Rattle.cells.proofs.edges.regular_edge.Goals as goal
use Rattle.cells.proofs.edges.regular_edge.Goals.{After-in_block-place}

-- a block has few points
few : (c : After-in_block-place) → Small c.args.n
few c = small _ (omega (arith, c.requires.0))

pub in_block-place-requires : goal.in_block-place-requires
in_block-place-requires c =
    let a = c.args in
    let w = corner_within a.n a.at.x a.at.y a.at.z _ _ c.requires.1 c.corner_point-low.ensures in
    (omega (arith, c.requires.0), (w.x_in, (w.y_in, w.z_in)))

pub overflow_mul-result : goal.overflow_mul-result
overflow_mul-result c = omega (arith, c.in_block-place.ensures.1, (few c).square, (few c).cube)

pub overflow_add-result : goal.overflow_add-result
overflow_add-result c =
    omega (arith, c.in_block-place.ensures.1, c.axis.ensures.1, c.voxel_b_index.ensures.1, (few (goal.at.overflow_add-result c).After-in_block-place).square, (few (goal.at.overflow_add-result c).After-in_block-place).cube)

pub overflow_cast-result : goal.overflow_cast-result
overflow_cast-result c =
    omega (arith, c.in_block-place.ensures.1, c.axis.ensures.1, c.voxel_b_index.ensures.1, (few (goal.at.overflow_cast-result c).After-in_block-place).square, (few (goal.at.overflow_cast-result c).After-in_block-place).cube)

pub returns : goal.returns
returns c =
    let a = c.args in
    edge_made a.n a.at.x a.at.y a.at.z a.code _ _ _ _ _ c.voxel_a_index-a.ensures.0 c.voxel_b_index.ensures.0
    c.corner_point-low.ensures c.in_block-place.ensures.0 c.axis.ensures.0
