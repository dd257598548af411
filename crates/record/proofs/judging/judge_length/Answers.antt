-- `judge_length` meets its contract: too short, or long enough and judged by what the length field tells.
use Prim.Native.Nat.{ℕ, ◌-◌}
use mathlib.Core.Path.{◌≡◌, ap, ◌∙◌}
use borrow.Author.Tests.{lt-leb, le-leb}
use lib.Dec.{eqb}
use lib.ListN.{length}
use Rattle.model.specs.declared.Refusal.TheVariants.{RecordLength}
use Rattle.model.specs.Refusals.{unless}
use Rattle.model.specs.Words.{word_at}
use Rattle.model.specs.Record.{header_length, judge_length}
use Rattle.record.proofs.judging.judge_length.Goals as goal

pub returns-then-bytes-lt-HEADER_LENGTH : goal.returns-then-bytes-lt-HEADER_LENGTH
returns-then-bytes-lt-HEADER_LENGTH c = rw (lt-leb header_length _ c.if-bytes-lt-HEADER_LENGTH.true)

pub returns : goal.returns
returns c =
    let bytes = c.args.bytes.now in
    let whole : unless (eqb (word_at bytes 0) (length bytes - 4)) RecordLength ≡ judge_length bytes = rw (le-leb header_length (length bytes) c.if-bytes-lt-HEADER_LENGTH.false) in
    c.unless.ensures ∙ ap (λ (w : ℕ). unless (eqb w (length bytes - 4)) RecordLength) c.word_at.ensures ∙ whole
