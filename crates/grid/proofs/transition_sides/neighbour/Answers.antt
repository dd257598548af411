-- `grid::transition_sides::neighbour` meets its contract: the part ends within the list.
use mathlib.Core.Path.{◌≡◌, ap, ◌∙◌}
use Prim.Native.Nat.{◌+◌, ◌-◌, ◌*◌, ◌≤◌}
use native.Mathlib.Omega.{arith}
use lib.ListN.{length, take, drop}
use Rattle.model.specs.Sides.{named_below, neighbour_length, neighbour_of}
use Rattle.grid.specs.SideLaws.{part_ends, neighbour_length_lem}
use Rattle.grid.proofs.transition_sides.neighbour.Goals as goal
use Rattle.grid.proofs.transition_sides.neighbour.Goals.{After-count_below}

start_is : (c : After-count_below) → (c.count_below.result * c.sample_length-length.result) ≡ named_below c.args.mask c.args.side * neighbour_length c.args.n
start_is c = λ i. c.count_below.ensures i * c.sample_length-length.ensures i

ends : (c : After-count_below) → (c.count_below.result * c.sample_length-length.result) + c.sample_length-length.result ≤ length c.args.neighbours.now
ends c =
    let size_is : c.sample_length-length.result ≡ neighbour_length c.args.n = c.sample_length-length.ensures in
    omega (arith, (start_is c), part_ends c.args.n c.args.mask c.args.neighbours.now c.args.side c.requires)

pub overflow_mul-start : goal.overflow_mul-start
overflow_mul-start c = omega (arith, ends c)

pub overflow_add-end : goal.overflow_add-end
overflow_add-end c = omega (arith, ends c)

pub offset_bounds-neighbours-start : goal.offset_bounds-neighbours-start
offset_bounds-neighbours-start c = omega (arith, ends c)

pub slice_bounds-result-end : goal.slice_bounds-result-end
slice_bounds-result-end c = omega (arith, ends c)

pub returns : goal.returns
unfolding neighbour_of
returns c =
    let size_is : c.sample_length-length.result ≡ neighbour_length c.args.n = c.sample_length-length.ensures in
    let width : (c.count_below.result * c.sample_length-length.result) + c.sample_length-length.result - (c.count_below.result * c.sample_length-length.result) ≡ neighbour_length c.args.n = omega arith in
    let part : take ((c.count_below.result * c.sample_length-length.result) + c.sample_length-length.result - (c.count_below.result * c.sample_length-length.result)) (drop (c.count_below.result * c.sample_length-length.result) c.args.neighbours.now) ≡ neighbour_of c.args.n c.args.mask c.args.neighbours.now c.args.side = λ i. take (width i) (drop (start_is (goal.at.returns c).After-count_below i) c.args.neighbours.now) in
    (part, ap length part ∙ neighbour_length_lem c.args.n c.args.mask c.args.neighbours.now c.args.side c.requires)
