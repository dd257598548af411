-- `judge_measures` meets its contract. The loop's invariant: no measure passed is refused.
use Rattle.std.specs.Prelude.{ℕ, ◌≡◌, List, Ok}
use Rattle.model.specs.declared.Refusal.TheVariants.{Measure}
use Rattle.model.specs.Answers.{Verdict}
use Rattle.model.specs.Refusals.{unless, first}
use Rattle.model.specs.Judging.{measure_usable}
use Rattle.model.specs.Record.{header_of}
use Rattle.record.proofs.judging.judge_measures.Given as goal

abbrev judged : List ℕ → ℕ → Verdict
judged bytes which = unless (measure_usable (header_of bytes).block (header_of bytes).threshold which) (Measure which)

abbrev pub invariant-loop-which : goal.invariant-loop-which
invariant-loop-which l = first (judged l.bytes) l.which ≡ Ok tt
