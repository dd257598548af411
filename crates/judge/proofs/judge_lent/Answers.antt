-- `judge::judge_lent` meets its contract: 1 and 2 bound what the lengths are reckoned from, and each way out is the first refusal of several.
use Rattle.std.specs.Prelude.{◌≡◌, Ok, Err, refl}
use Rattle.std.specs.Result.{result_and}
use Rattle.std.proofs.Common.{◌∙◌, sym}
use Rattle.model.specs.Answers.{Verdict}
use Rattle.model.specs.Refusals.{or_else}
use Rattle.laws.specs.Exits.{handed_on}
use Rattle.model.specs.Judging.{judge_lent}
use Rattle.judge.specs.Parts.{judge_kind}
use Rattle.judge.specs.Passing.{kind_passed}
use Rattle.judge.proofs.judge_lent.Goals as goal
use Rattle.judge.proofs.judge_lent.Goals.{In_ok-judge_mask}

pub returns-in_err-judge_subdivisions : goal.returns-in_err-judge_subdivisions
unfolding judge_lent
returns-in_err-judge_subdivisions c =
    rw (handed_on _ _ c.from_residual.ensures.1, ← c.judge_subdivisions.ensures, c.in_err-judge_subdivisions.was)

pub returns-in_err-judge_mask : goal.returns-in_err-judge_mask
unfolding judge_lent
returns-in_err-judge_mask c =
    rw (
      handed_on _ _ c.from_residual-in_err-judge_mask.ensures.1,
      ← c.judge_subdivisions.ensures,
      c.in_ok-judge_subdivisions.was,
      ← c.judge_mask.ensures,
      c.in_err-judge_mask.was,
    )

-- 1 and 2 are passed
kind : (c : In_ok-judge_mask) → judge_kind c.args.header.block.subdivisions c.args.header.mask ≡ Ok tt
kind c = rw (← c.judge_subdivisions.ensures, c.in_ok-judge_subdivisions.was) (sym c.judge_mask.ensures ∙ c.in_ok-judge_mask.was)

pub judge_lengths-lengths-requires : goal.judge_lengths-lengths-requires
judge_lengths-lengths-requires c =
    let passed = kind_passed _ _ (kind (goal.at.judge_lengths-lengths-requires c).In_ok-judge_mask) in
    (passed.few, passed.sides)

both : (a b : Verdict) → result_and a b ≡ or_else a b
both (Ok _) b = refl
both (Err r) b = refl

pub returns : goal.returns
unfolding judge_lent
returns c =
    rw (
      ← c.judge_subdivisions.ensures,
      c.in_ok-judge_subdivisions.was,
      ← c.judge_mask.ensures,
      c.in_ok-judge_mask.was,
      ← c.judge_measures-measures.ensures,
      ← c.judge_lengths-lengths.ensures,
    )
    (c.and.ensures ∙ both c.judge_measures-measures.result c.judge_lengths-lengths.result)
