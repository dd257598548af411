-- `judge_record` meets its contract: length, head and body are judged in turn, each on what the ones before have shown.
use Rattle.std.specs.Prelude.{Ok, ◌≡◌}
use Rattle.std.proofs.Common.{sym, ◌∙◌}
use Rattle.laws.specs.Exits.{handed_on}
use Rattle.model.specs.Record.{judge_length}
use Rattle.record.specs.ReadingOrder.{judge_head, record_in_parts, length_passed, head_passed}
use Rattle.record.proofs.judging.judge_record.Goals as goal
use Rattle.record.proofs.judging.judge_record.Goals.{In_ok-judge_length, In_ok-judge_head}

length-is-passed : (c : In_ok-judge_length) → judge_length c.args.bytes.now ≡ Ok tt
length-is-passed c = sym c.judge_length.ensures ∙ c.in_ok-judge_length.was

head-is-passed : (c : In_ok-judge_head) → judge_head c.args.bytes.now ≡ Ok tt
head-is-passed c = sym c.judge_head.ensures ∙ c.in_ok-judge_head.was

pub returns-in_err-judge_length : goal.returns-in_err-judge_length
returns-in_err-judge_length c =
    rw (handed_on _ _ c.from_residual.ensures.1, record_in_parts, ← c.judge_length.ensures, c.in_err-judge_length.was)

pub judge_head-requires : goal.judge_head-requires
judge_head-requires c = length_passed c.args.bytes.now (length-is-passed c)

pub returns-in_err-judge_head : goal.returns-in_err-judge_head
returns-in_err-judge_head c =
    rw (
      handed_on _ _ c.from_residual-in_err-judge_head.ensures.1,
      record_in_parts,
      ← c.judge_length.ensures,
      c.in_ok-judge_length.was,
      ← c.judge_head.ensures,
      c.in_err-judge_head.was,
    )

pub judge_body-requires : goal.judge_body-requires
judge_body-requires c =
    head_passed c.args.bytes.now (length-is-passed (goal.at.judge_body-requires c).In_ok-judge_length) (head-is-passed c)

pub returns : goal.returns
returns c =
    rw (record_in_parts, ← c.judge_length.ensures, c.in_ok-judge_length.was, ← c.judge_head.ensures, c.in_ok-judge_head.was)
    c.judge_body.ensures
