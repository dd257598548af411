-- `layers::making::make_summary` meets its contract: a refusal leaves the summary; otherwise each layer is made.
use Rattle.std.specs.Prelude.{◌≡◌, Ok, length}
use Rattle.std.proofs.Common.{arith, sym, ◌∙◌}
use Rattle.laws.specs.Exits.{handed_on}
use Rattle.layers.specs.Definition.{judge_making, make_summary}
use Rattle.layers.specs.Passing.{Makeable, makeable}
use Rattle.layers.proofs.making.make_summary.Goals as goal
use Rattle.layers.proofs.making.make_summary.Goals.{In_ok-judge_making}

passed : (c : In_ok-judge_making) → judge_making c.args.n c.args.samples.now (length c.args.summary.now) ≡ Ok tt
passed c = sym c.judge_making.ensures ∙ c.in_ok-judge_making.was

is-makeable : (c : In_ok-judge_making) → Makeable c.args.n c.args.samples.now (length c.args.summary.now)
is-makeable c = makeable c.args.n c.args.samples.now (length c.args.summary.now) (passed c)

pub returns-in_err-judge_making : goal.returns-in_err-judge_making
unfolding make_summary
returns-in_err-judge_making c =
    rw (handed_on _ _ c.from_residual.ensures.1, ← c.judge_making.ensures, c.in_err-judge_making.was)

pub put_layers-requires : goal.put_layers-requires
put_layers-requires c =
    let m = is-makeable (goal.at.put_layers-requires c).In_ok-judge_making in
    (m.own_is.held, (omega arith, (omega arith, m.fits)))

pub returns : goal.returns
unfolding make_summary
returns c = rw (passed (goal.at.returns c).In_ok-judge_making, c.put_layers.ensures)
