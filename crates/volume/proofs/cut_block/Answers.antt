-- `cut_block` meets its contract: a refusal leaves the samples; otherwise they are filled and their number is answered.
use Rattle.std.specs.Prelude.{Ok}
use native.Mathlib.Omega.{arith}
use mathlib.Core.Path.{◌≡◌, sym, ap, ◌∙◌}
use lib.ListN.{length}
use Rattle.laws.specs.Exits.{handed_on}
use Rattle.volume.specs.Definition.{judge_cut, cut_answer, cut_block}
use Rattle.volume.specs.Passing.{Cuttable, cuttable}
use Rattle.volume.proofs.cut_block.Goals as goal
use Rattle.volume.proofs.cut_block.Goals.{In_ok-judge}

passed : (c : In_ok-judge) → judge_cut c.args.bytes.now c.args.sizes c.args.n c.args.first (length c.args.samples.now) ≡ Ok tt
passed c = sym c.judge.ensures ∙ c.in_ok-judge.was

is_cuttable : (c : In_ok-judge) → Cuttable c.args.bytes.now c.args.sizes c.args.n c.args.first (length c.args.samples.now)
is_cuttable c = cuttable c.args.bytes.now c.args.sizes c.args.n c.args.first (length c.args.samples.now) (passed c)

pub returns-in_err-judge : goal.returns-in_err-judge
unfolding cut_block
returns-in_err-judge c =
    let args = c.args in
    rw (handed_on _ _ c.from_residual.ensures.1)
    (sym (ap (cut_answer args.bytes.now args.sizes args.n args.first args.samples.now) (sym c.judge.ensures ∙ c.in_err-judge.was)))

pub fill-requires : goal.fill-requires
fill-requires c =
    let cut = is_cuttable (goal.at.fill-requires c).In_ok-judge in
    (cut.ready, cut.fits)

pub sample_length-requires : goal.sample_length-requires
sample_length-requires c = omega (arith, (is_cuttable (goal.at.sample_length-requires c).In_ok-judge).ready.known.cut.few)

pub returns : goal.returns
unfolding cut_block
returns c =
    let args = c.args in
    (λ i. record { answer = Ok (c.sample_length.ensures i); samples = c.fill.ensures i })
    ∙ sym (ap (cut_answer args.bytes.now args.sizes args.n args.first args.samples.now) (passed (goal.at.returns c).In_ok-judge))
