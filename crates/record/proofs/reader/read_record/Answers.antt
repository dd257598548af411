-- `read_record` meets its contract: a refusal leaves the samples; otherwise they are filled and the header is answered.
use Rattle.std.specs.Prelude.{Ok}
use Rattle.laws.specs.Exits.{handed_on}
use Rattle.model.specs.Record.{read_record}
use Rattle.record.proofs.reader.read_record.Goals as goal

pub returns-in_err-whole : goal.returns-in_err-whole
unfolding read_record
returns-in_err-whole c = rw (handed_on _ _ c.from_residual.ensures.1, c.in_err-whole.ensures)

pub returns-in_err-judge_buffer : goal.returns-in_err-judge_buffer
unfolding read_record
returns-in_err-judge_buffer c =
    rw (
      handed_on _ _ c.from_residual-in_err-judge_buffer.ensures.1,
      ← c.in_ok-whole.ensures,
      c.in_ok-whole.whole.passed,
      ← c.count.ensures,
      ← c.judge_buffer.ensures,
      c.in_err-judge_buffer.was,
    )

pub returns : goal.returns
unfolding read_record
returns c =
    let whole = c.in_ok-whole.whole in
    rw (← c.in_ok-whole.ensures, whole.passed, ← c.count.ensures, ← c.judge_buffer.ensures, c.in_ok-judge_buffer.was)
    (λ i. record { answer = Ok (whole.told i); samples = c.fill_samples.ensures i })
