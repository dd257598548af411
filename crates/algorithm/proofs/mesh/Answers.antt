-- `mesh` meets its contract: a refusal of 1 to 9, or what is left of a block that passes them.
use Rattle.std.specs.Prelude.{◌≡◌, length, is_some, Ok, refl}
use Rattle.std.proofs.Common.{sym, ◌∙◌}
use Rattle.laws.specs.Exits.{handed_on}
use Rattle.model.specs.Star.{lent_star}
use Rattle.algorithm.specs.Verdicts.{told_of, judged}
use Rattle.algorithm.proofs.Answers.{Call, call_of, told_unwrapped, shaped, trusted_there, store_held, refused, passed}
use Rattle.algorithm.proofs.mesh.Goals as goal
use Rattle.algorithm.proofs.mesh.Goals.{After-unwrap_or-summary, In_ok-judge, Start}

abbrev call : Start → Call
call c = call_of c.args.numbered (lent_star c.args.lent.now) (told_of c.args.summary) c.args.store.now c.args.vertices.now c.args.triangles.now c.args.edges.now

judged-passed : (c : In_ok-judge) → judged (is_some c.args.summary) (lent_star c.args.lent.now) (told_of c.args.summary) (length c.args.store.now) ≡ Ok tt
judged-passed c = sym c.judge.ensures ∙ c.in_ok-judge.was

told : (c : After-unwrap_or-summary) → c.unwrap_or-summary.result.now ≡ told_of c.args.summary
told c = rw c.unwrap_or-summary.ensures (told_unwrapped c.args.summary _ refl)

pub returns-in_err-judge-clause-leaves : goal.returns-in_err-judge-clause-leaves
returns-in_err-judge-clause-leaves c =
    rw (handed_on _ _ c.from_residual.ensures.1)
    (refused (call (goal.at.returns-in_err-judge-clause-leaves c).Start) (is_some c.args.summary) _ (sym c.judge.ensures ∙ c.in_err-judge.was)).0

pub returns-in_err-judge-clause-edges : goal.returns-in_err-judge-clause-edges
returns-in_err-judge-clause-edges c =
    (refused (call (goal.at.returns-in_err-judge-clause-edges c).Start) (is_some c.args.summary) _ (sym c.judge.ensures ∙ c.in_err-judge.was)).1

pub fill-requires-clause-shaped : goal.fill-requires-clause-shaped
fill-requires-clause-shaped c = shaped _ _ _ _ (judged-passed (goal.at.fill-requires-clause-shaped c).In_ok-judge)

pub fill-requires-clause-trusted : goal.fill-requires-clause-trusted
fill-requires-clause-trusted c =
    rw (told (goal.at.fill-requires-clause-trusted c).After-unwrap_or-summary) (trusted_there _ _ _ _ (judged-passed (goal.at.fill-requires-clause-trusted c).In_ok-judge))

pub fill-requires-clause-stored : goal.fill-requires-clause-stored
fill-requires-clause-stored c = store_held _ _ _ _ (judged-passed (goal.at.fill-requires-clause-stored c).In_ok-judge)

pub returns-clause-leaves : goal.returns-clause-leaves
returns-clause-leaves c =
    let at = goal.at.returns-clause-leaves c in
    rw (passed (call at.Start) (is_some c.args.summary) (judged-passed at.In_ok-judge), ← told at.After-unwrap_or-summary) c.fill.ensures.leaves

pub returns-clause-edges : goal.returns-clause-edges
returns-clause-edges c =
    let at = goal.at.returns-clause-edges c in
    rw (passed (call at.Start) (is_some c.args.summary) (judged-passed at.In_ok-judge)) c.fill.ensures.edges
