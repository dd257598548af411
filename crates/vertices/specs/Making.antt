-- The vertex of a code, put together from what the functions over its two points ensure.
use Rattle.std.specs.Prelude.{ℕ, ◌+◌, ◌-◌, ◌*◌, ◌/◌, ◌≡◌}
use Rattle.std.proofs.Common.{arith}
use Rattle.tables.specs.Codes.{point_a, point_b}
use Rattle.tables.specs.Points.{cell_point}
use Rattle.tables.specs.declared.aux_tables.CellPoint.{CellPoint}
use Rattle.model.specs.declared.Xyz.{Xyz}
use Rattle.model.specs.declared.GridPoint.{GridPoint}
use Rattle.model.specs.declared.Vertex.{Vertex}
use Rattle.model.specs.Formulas.{vertex_between}
use Rattle.model.specs.Star.{Star}
use Rattle.model.specs.Points.{corner_point, regular_point, transition_point}
use Rattle.model.specs.Samples.{in_block}
use Rattle.model.specs.Mesh.{regular_edge, regular_vertex, transition_vertex}
use Rattle.grid.specs.Places.{Within}
use Rattle.points.specs.CellPoints.{InCell, cell_point_in}
use Rattle.codes.specs.Kinds.{InBlock}

-- a corner of a cell of the block is a point of the block
pub corner_within : (n x y z k : ℕ) (p : Xyz) → InBlock n x y z → p ≡ corner_point x y z k → Within n p
corner_within n x y z k p h e = rw e (record { x_in = omega arith; y_in = omega arith; z_in = omega arith })

pub regular_made : (s : Star) (x y z code ka kb : ℕ) (pa pb : Xyz) (v : Vertex)
    → ka ≡ point_a code → kb ≡ point_b code → pa ≡ corner_point x y z ka → pb ≡ corner_point x y z kb
    → v ≡ vertex_between s.threshold (regular_point s pa) (regular_point s pb) → v ≡ regular_vertex s x y z code
unfolding regular_vertex
regular_made s x y z code ka kb pa pb v ea eb ep eq ev = rw (ev, ep, eq, ea, eb)

pub edge_made : (n x y z code ka kb place axis : ℕ) (low : Xyz)
    → ka ≡ point_a code → kb ≡ point_b code → low ≡ corner_point x y z ka → place ≡ in_block n low.x low.y low.z → axis ≡ (kb - ka) / 2
    → 3 * place + axis ≡ regular_edge n x y z code
unfolding regular_edge
edge_made n x y z code ka kb place axis low ea eb el ep ex = rw (ep, ex, el, ea, eb)

pub point_in_cell : (i : ℕ) (p : CellPoint) → p ≡ cell_point i → InCell p
point_in_cell i p e = rw e (cell_point_in i)

pub transition_made : (s : Star) (side u v code ka kb : ℕ) (pa pb : CellPoint) (a b : GridPoint) (made : Vertex)
    → ka ≡ point_a code → kb ≡ point_b code → pa ≡ cell_point ka → pb ≡ cell_point kb
    → a ≡ transition_point s side u v pa → b ≡ transition_point s side u v pb → made ≡ vertex_between s.threshold a b
    → made ≡ transition_vertex s side u v code
unfolding transition_vertex
transition_made s side u v code ka kb pa pb a b made ea eb ep eq ga gb ev = rw (ev, ga, gb, ep, eq, ea, eb)
