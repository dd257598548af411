-- `first_bad` meets its contract. The loop's invariant: no sample passed is refused.
use Rattle.std.specs.Prelude.{◌≡◌, Ok}
use Rattle.model.specs.Refusals.{first}
use Rattle.record.specs.ReadingOrder.{sample_usable_at}
use Rattle.record.proofs.judging.first_bad.Given as goal

abbrev pub invariant-loop-k : goal.invariant-loop-k
invariant-loop-k l = first (sample_usable_at l.bytes) l.k ≡ Ok tt
