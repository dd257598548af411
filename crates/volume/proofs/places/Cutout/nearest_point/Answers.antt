-- `Cutout::nearest_point` meets its contract, axis by axis.
use Rattle.volume.proofs.places.Cutout.nearest_point.Goals as goal

pub returns : goal.returns
returns c =
    λ i. record { x = c.nearest.ensures.0 i; y = c.nearest-2.ensures.0 i; z = c.nearest-3.ensures.0 i }
