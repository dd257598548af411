-- `places_of` meets its contract: each place is that of the point in its block, the fine one counted on after the parts before its own.
use Prim.Native.Nat.{◌+◌, ◌*◌, ◌≤◌}
use mathlib.Core.Path.{◌≡◌, sym, ap, ◌∙◌}
use native.Mathlib.Omega.{arith}
use Rattle.model.specs.declared.Xyz.{Xyz}
use Rattle.model.specs.Samples.{in_block}
use Rattle.model.specs.Sides.{named_below, neighbour_length}
use Rattle.grid.specs.Counts.{most_samples}
use Rattle.grid.specs.Walks.{side_place}
use Rattle.repair.specs.Faces.{part_small, coarse_is, fine_is}
use Rattle.repair.proofs.faces.places_of.Goals as goal
use Rattle.repair.proofs.faces.places_of.Goals.{After-sample_length}

part_is : (c : After-sample_length) → c.count_below.result * c.sample_length.result ≡ named_below c.args.mask c.args.at.side * neighbour_length c.args.n
part_is c = λ i. c.count_below.ensures i * c.sample_length.ensures i

part_in : (c : After-sample_length) → named_below c.args.mask c.args.at.side * neighbour_length c.args.n + neighbour_length c.args.n ≤ most_samples
part_in c =
    let spot = c.requires in
    part_small c.args.n c.args.mask c.args.at.side spot.on.few spot.sides spot.on.side_is spot.is_named

pub overflow_mul-part : goal.overflow_mul-part
overflow_mul-part c = omega (arith, part_is c, part_in c)

pub overflow_add-result : goal.overflow_add-result
overflow_add-result c = omega (arith, part_is (goal.at.overflow_add-result c).After-sample_length, part_in (goal.at.overflow_add-result c).After-sample_length, c.in_block-2.ensures.1)

pub returns : goal.returns
unfolding side_place
returns c = let a = c.args in
    let on = c.requires.on in
    let coarse =
    c.in_block.ensures.0 ∙ ap (λ (p : Xyz). in_block a.n p.x p.y p.z) c.side_point-p.ensures.0
    ∙ sym (coarse_is a.n a.at.side a.at.u a.at.v on) in
    let fine =
    c.in_block-2.ensures.0 ∙ ap (λ (p : Xyz). in_block (2 * a.n) p.x p.y p.z) c.side_point-q.ensures.0
    ∙ sym (fine_is a.n a.at.side a.at.u a.at.v on) in
    λ i. record { coarse = coarse i; fine = part_is (goal.at.returns c).After-sample_length i + fine i }
