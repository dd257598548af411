-- What the walk over the layers that are left gives: the first at or after a layer, or that there is none.
use Rattle.std.specs.Prelude.{ℕ, ◌+◌, ◌<◌, ◌≡◌, List, Option, Some, None, Float}
use Rattle.layers.specs.Over.{NextLayer}

abbrev Same : ℕ → Float → List Float → ℕ → Float → List Float → Type 0
Same n threshold summary n' threshold' summary' = (n' ≡ n) × ((threshold' ≡ threshold) × (summary' ≡ summary))

abbrev pub LayerGiven : ℕ → Float → List Float → ℕ → Option ℕ → ℕ → Float → List Float → ℕ → Type 0
LayerGiven n threshold summary from (Some x) n' threshold' summary' from' =
    (NextLayer n threshold summary from x × (x < n)) × ((from' ≡ x + 1) × Same n threshold summary n' threshold' summary')
LayerGiven n threshold summary from None n' threshold' summary' from' =
    NextLayer n threshold summary from n × ((from' ≡ from) × Same n threshold summary n' threshold' summary')
