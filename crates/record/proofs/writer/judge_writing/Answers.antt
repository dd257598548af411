-- `judge_writing` meets its contract: 1 to 7 refuse, or they pass and 14 goes by the bytes of as many samples as are lent.
use Rattle.std.specs.Prelude.{◌≡◌, ℕ, Ok}
use Rattle.std.proofs.Common.{sym, ap, ◌∙◌, arith, length-append}
use Rattle.laws.specs.Exits.{handed_on}
use Rattle.model.specs.Star.{lent_star}
use Rattle.model.specs.Judging.{judge_buffer, judge_star}
use Rattle.record.specs.Writable.{writable}
use Rattle.record.proofs.writer.judge_writing.Goals as goal
use Rattle.record.proofs.writer.judge_writing.Goals.{In_ok-judge_star}

passed : (c : In_ok-judge_star) → judge_star (lent_star c.args.lent.now) ≡ Ok tt
passed c = sym c.judge_star.ensures ∙ c.in_ok-judge_star.was

pub returns-in_err-judge_star : goal.returns-in_err-judge_star
returns-in_err-judge_star c = rw (handed_on _ _ c.from_residual.ensures.1, ← c.judge_star.ensures, c.in_err-judge_star.was)

pub sample_from-requires : goal.sample_from-requires
sample_from-requires c =
    let lent = c.args.lent.now in
    omega (arith, (writable lent.header lent.centre.now lent.neighbours.now (passed c)).counted)

pub returns : goal.returns
returns c =
    rw (passed (goal.at.returns c).In_ok-judge_star, length-append)
    (c.judge_buffer.ensures ∙ ap (λ (wanted : ℕ). judge_buffer wanted c.args.held) c.sample_from.ensures)
