-- `layers::judging::judge_summary` meets its contract: 14, and where that passes 26.
use Rattle.laws.specs.Exits.{handed_on}
use Rattle.layers.proofs.judging.judge_summary.Goals as goal

pub returns-in_err-judge_buffer : goal.returns-in_err-judge_buffer
returns-in_err-judge_buffer c =
    rw (handed_on _ _ c.from_residual.ensures.1, ← c.summary_length.ensures, ← c.judge_buffer.ensures, c.in_err-judge_buffer.was)

pub returns : goal.returns
returns c = rw (← c.summary_length.ensures, ← c.judge_buffer.ensures, c.in_ok-judge_buffer.was) c.judge_layers.ensures
