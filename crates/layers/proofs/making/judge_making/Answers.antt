-- `layers::making::judge_making` meets its contract: 1, 4 and 7 refuse, or they pass and 14 is left.
use Rattle.std.specs.Prelude.{◌≡◌, Ok}
use Rattle.std.proofs.Common.{sym, ◌∙◌}
use Rattle.laws.specs.Exits.{handed_on}
use Rattle.layers.specs.Definition.{judge_own}
use Rattle.layers.specs.Passing.{own, making_by_own}
use Rattle.layers.proofs.making.judge_making.Goals as goal
use Rattle.layers.proofs.making.judge_making.Goals.{In_ok-judge_own}

passed : (c : In_ok-judge_own) → judge_own c.args.n c.args.samples.now ≡ Ok tt
passed c = sym c.judge_own.ensures ∙ c.in_ok-judge_own.was

pub returns-in_err-judge_own : goal.returns-in_err-judge_own
returns-in_err-judge_own c =
    rw (handed_on _ _ c.from_residual.ensures.1)
    (sym (making_by_own c.args.n c.args.samples.now c.args.room (sym c.judge_own.ensures ∙ c.in_err-judge_own.was)))

pub summary_length-requires : goal.summary_length-requires
summary_length-requires c = (own c.args.n c.args.samples.now (passed c)).held.few

pub returns : goal.returns
returns c =
    rw (making_by_own c.args.n c.args.samples.now c.args.room (passed (goal.at.returns c).In_ok-judge_own), ← c.summary_length.ensures)
    c.judge_buffer.ensures
