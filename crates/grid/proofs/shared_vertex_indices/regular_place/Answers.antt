-- `grid::shared_vertex_indices::regular_place` meets its contract: the nest comes to the definition's sum, which is one of the store's places
-- and so fits.
use Prim.Native.Nat.{◌+◌, ◌*◌, ◌<◌}
use native.Mathlib.Omega.{arith}
use Rattle.model.specs.Mesh.{regular_store, regular_place}
use Rattle.grid.specs.StorePlaces.{small_store, regular_place_in}
use Rattle.grid.specs.Nesting.{OnTheWay, on_the_way}
use Rattle.grid.proofs.shared_vertex_indices.regular_place.Goals as goal
use Rattle.grid.proofs.shared_vertex_indices.regular_place.Goals.{Start}

below : (c : Start) → regular_place c.args.n c.args.x c.args.y c.args.z c.args.r < regular_store c.args.n
below c = regular_place_in c.args.n c.args.x c.args.y c.args.z c.args.r c.requires

-- the innermost part is on the way too
way : (c : Start) → OnTheWay c.args.n (c.args.n * c.args.r + c.args.z) c.args.y c.args.x
way c = on_the_way c.args.n (c.args.n * c.args.r + c.args.z) c.args.y c.args.x (omega (arith, c.requires.x_in))

pub returns : goal.returns
unfolding regular_place
returns c = omega (arith, c.nest.ensures, below (goal.at.returns c).Start)

pub overflow_mul-n : goal.overflow_mul-n
unfolding regular_place
overflow_mul-n c = omega (arith, way c, below c, small_store c.args.n c.requires.few)

pub overflow_add-n : goal.overflow_add-n
unfolding regular_place
overflow_add-n c = omega (arith, way c, below c, small_store c.args.n c.requires.few)

pub nest-requires : goal.nest-requires
unfolding regular_place
nest-requires c = omega (arith, c.requires.x_in, below c, small_store c.args.n c.requires.few)
