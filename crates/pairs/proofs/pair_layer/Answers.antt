-- `pair_layer` meets its contract: the samples are the plane's.
use mathlib.Core.Path.{refl}
use mathlib.Core.List.{[]}
use native.Mathlib.Omega.{arith}
use Rattle.model.specs.Star.{star}
use Rattle.cases.specs.RowPlaces.{layer_fits}
use Rattle.pairs.proofs.Pairing.{pairs_made}
use Rattle.pairs.proofs.pair_layer.Goals as goal

pub pair_with-requires : goal.pair_with-requires
pair_with-requires c = omega (arith, c.plane-samples.ensures.result_len, layer_fits _ c.requires.subdivisions_le_most_subdivisions.0)

pub returns : goal.returns
returns c =
    let a = c.args in
    let s = star a.header a.centre.now [] in
    λ low upper.
    pairs_made s a.x _ (c.plane-samples.ensures.plane s refl refl) c.plane-samples.ensures.result_len low _ _ upper c.pair_with.ensures
