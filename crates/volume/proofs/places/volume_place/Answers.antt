-- `volume_place` meets its contract: a row of the volume, and a sample of it.
use mathlib.Core.Path.{◌≡◌}
use Rattle.volume.specs.Definition.{volume_place}
use Rattle.volume.specs.Known.{place_in}
use Rattle.volume.proofs.places.volume_place.Goals as goal

pub returns : goal.returns
returns c =
    let sizes = c.args.sizes in
    let p = c.args.p in
    let is : c.in_row-2.result ≡ volume_place sizes p = rw c.in_row.ensures.0 at c.in_row-2.ensures.0 in
    (is, rw is (place_in sizes p c.requires))
