-- `grid::shared_vertex_indices::transition_place` meets its contract: the nest comes to the definition's sum, which is one of the store's places
-- and so fits.
use Prim.Native.Nat.{◌<◌}
use native.Mathlib.Omega.{arith}
use Rattle.model.specs.Mesh.{store_length, transition_place}
use Rattle.grid.specs.StorePlaces.{small_store, transition_place_in}
use Rattle.grid.proofs.shared_vertex_indices.transition_place.Goals as goal
use Rattle.grid.proofs.shared_vertex_indices.transition_place.Goals.{Start}

below : (c : Start) → transition_place c.args.n c.args.side c.args.u c.args.v c.args.r < store_length c.args.n
below c = transition_place_in c.args.n c.args.side c.args.u c.args.v c.args.r c.requires

pub returns : goal.returns
unfolding transition_place
returns c = omega (arith, c.nest.ensures, below (goal.at.returns c).Start)

pub nest-requires : goal.nest-requires
unfolding transition_place
nest-requires c = omega (arith, c.requires.u_in, below c, small_store c.args.n c.requires.few)
