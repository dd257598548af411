-- `judge` meets its contract: a refusal of the first judge that has one; each later judge may ask for what the earlier ones have passed.
use Rattle.std.specs.Prelude.{◌≡◌, Ok}
use Rattle.std.proofs.Common.{sym, ◌∙◌}
use Rattle.laws.specs.Exits.{handed_on}
use Rattle.model.specs.Judging.{judge_star}
use Rattle.model.specs.Star.{lent_star}
use Rattle.judge.specs.Passing.{star_shaped}
use Rattle.algorithm.proofs.judge.Goals as goal
use Rattle.algorithm.proofs.judge.Goals.{In_ok-judge_star}

passed : (c : In_ok-judge_star) → judge_star (lent_star c.args.lent.now) ≡ Ok tt
passed c = sym c.judge_star.ensures ∙ c.in_ok-judge_star.was

pub returns-in_err-judge_star : goal.returns-in_err-judge_star
returns-in_err-judge_star c = rw (handed_on _ _ c.from_residual.ensures.1, ← c.judge_star.ensures, c.in_err-judge_star.was)

pub judge_faces-requires : goal.judge_faces-requires
judge_faces-requires c = star_shaped _ (passed c)

pub returns-in_err-judge_faces : goal.returns-in_err-judge_faces
returns-in_err-judge_faces c =
    rw (
      handed_on _ _ c.from_residual-in_err-judge_faces.ensures.1,
      passed (goal.at.returns-in_err-judge_faces c).In_ok-judge_star,
      ← c.judge_faces.ensures,
      c.in_err-judge_faces.was,
    )

pub judge_told-requires : goal.judge_told-requires
judge_told-requires c = passed (goal.at.judge_told-requires c).In_ok-judge_star

pub returns-in_err-judge_told : goal.returns-in_err-judge_told
returns-in_err-judge_told c =
    rw (
      handed_on _ _ c.from_residual-in_err-judge_told.ensures.1,
      passed (goal.at.returns-in_err-judge_told c).In_ok-judge_star,
      ← c.judge_faces.ensures,
      c.in_ok-judge_faces.was,
      ← c.judge_told.ensures,
      c.in_err-judge_told.was,
    )

pub judge_store-requires : goal.judge_store-requires
judge_store-requires c = (star_shaped _ (passed (goal.at.judge_store-requires c).In_ok-judge_star)).few

pub returns : goal.returns
returns c =
    rw (
      passed (goal.at.returns c).In_ok-judge_star,
      ← c.judge_faces.ensures,
      c.in_ok-judge_faces.was,
      ← c.judge_told.ensures,
      c.in_ok-judge_told.was,
    )
    c.judge_store.ensures
