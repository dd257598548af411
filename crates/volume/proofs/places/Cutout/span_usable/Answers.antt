-- `Cutout::span_usable` meets its contract: the box begins at the lowest point taken.
use Prim.Native.Nat.{◌*◌}
use native.Mathlib.Omega.{arith}
use mathlib.Core.Path.{◌≡◌, ap, ◌∙◌}
use Rattle.volume.specs.Definition.{volume_place}
use Rattle.volume.specs.Known.{near_point, sizes_few}
use Rattle.volume.specs.Boxes.{box_usable, lowest, box_in}
use Rattle.volume.proofs.places.Cutout.span_usable.Goals as goal
use Rattle.volume.proofs.places.Cutout.span_usable.Goals.{After-volume_place}

-- where the box begins
from_is : (c : After-volume_place) → let args = c.args in
    c.volume_place.result ≡ volume_place args.self.sizes (lowest args.self.sizes args.self.n args.self.first)
from_is c = c.volume_place.ensures.0 ∙ ap (volume_place c.args.self.sizes) c.nearest_point-low.ensures

pub volume_place-requires : goal.volume_place-requires
volume_place-requires c = rw c.nearest_point-low.ensures (near_point c.requires.cut _)

pub overflow_mul-spanned : goal.overflow_mul-spanned
overflow_mul-spanned c = omega (arith, sizes_few c.requires.cut)

pub is_usable-requires : goal.is_usable-requires
is_usable-requires c =
    let args = c.args in
    rw (from_is (goal.at.is_usable-requires c).After-volume_place, c.span.ensures, c.span-2.ensures, c.span-3.ensures)
    (box_in args.self.sizes args.self.n args.self.first c.requires.cut args.bytes.now c.requires.whole)

pub returns : goal.returns
returns c =
    let args = c.args in
    c.is_usable.ensures
    ∙ (λ i. box_usable args.bytes.now (from_is (goal.at.returns c).After-volume_place i) (c.span.ensures i) args.self.sizes.x (c.span-2.ensures i) (args.self.sizes.x * args.self.sizes.y) (c.span-3.ensures i))
