-- `planes::fill_plane` meets its contract. The loop's invariant: the places passed hold the record's samples from the plane's first on.
use Rattle.std.specs.Prelude.{ℕ, ◌+◌, List, Float, get_or}
use Rattle.std.specs.Float.{nan}
use Rattle.model.specs.Record.{samples_of}
use Rattle.laws.specs.Filled.{Filled}
use Rattle.sheet.proofs.planes.fill_plane.Given as goal

abbrev sample : List ℕ → ℕ → ℕ → Float
sample src first k = get_or (samples_of src) (first + k) nan

abbrev pub invariant-loop-k : goal.invariant-loop-k
invariant-loop-k l = Filled (sample l.src.bytes.now l.first) l.k l.sample-items
