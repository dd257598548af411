-- `layers::putting::judge_own` meets its contract: 1 and 4 refuse, or they pass and 7 is left.
use Rattle.std.proofs.Common.{sym, ◌∙◌}
use Rattle.laws.specs.Exits.{handed_on}
use Rattle.layers.specs.Passing.{by_shape}
use Rattle.layers.proofs.putting.judge_own.Goals as goal

pub returns-in_err-judge_block : goal.returns-in_err-judge_block
returns-in_err-judge_block c =
    rw (handed_on _ _ c.from_residual.ensures.1)
    (sym (by_shape c.args.n c.args.samples.now (sym c.judge_block.ensures ∙ c.in_err-judge_block.was)))

pub returns : goal.returns
returns c = c.judge_list.ensures ∙ sym (by_shape c.args.n c.args.samples.now (sym c.judge_block.ensures ∙ c.in_ok-judge_block.was))
