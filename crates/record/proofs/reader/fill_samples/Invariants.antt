-- `fill_samples` meets its contract. The loop's invariant: the samples passed stand in the first places, and all beyond is as it was.
use Rattle.std.specs.Prelude.{ℕ, ◌≡◌, List, ◌++◌, Float, drop}
use Rattle.laws.specs.Steps.{listed}
use Rattle.model.specs.Words.{float_at}
use Rattle.model.specs.Record.{sample_from}
use Rattle.record.proofs.reader.fill_samples.Given as goal

-- the sample at a place
abbrev at : List ℕ → ℕ → Float
at bytes k = float_at bytes (sample_from k)

abbrev pub invariant-loop-k : goal.invariant-loop-k
invariant-loop-k l = l.sample-items ≡ listed (at l.from.bytes.now) l.k ++ drop l.k l.initial.sample-items
