-- `put_floats` meets its contract. The loop's invariant: the bytes of the floats passed stand from `at` on.
use Rattle.std.specs.Prelude.{◌≡◌, take}
use Rattle.std.proofs.lemmas.List.Edits.{sets}
use Rattle.laws.specs.Steps.{each}
use Rattle.model.specs.Words.{float_bytes}
use Rattle.record.proofs.writer.put_floats.Given as goal

abbrev pub invariant-loop-k : goal.invariant-loop-k
invariant-loop-k l = l.bytes ≡ sets l.initial.bytes l.at (each float_bytes (take l.k l.floats))
