-- `judge_repair` meets its contract: 1 to 6, then 18, then 19 by the changes that are counted.
use Rattle.std.specs.Prelude.{Ok}
use Prim.Native.Nat.{ℕ}
use mathlib.Core.Path.{◌≡◌, sym, ap, ◌∙◌}
use mathlib.Core.Bool.{Bool}
use lib.ListN.{length}
use Rattle.laws.specs.Exits.{handed_on}
use Rattle.model.specs.declared.Refusal.TheVariants.{BadFiller}
use Rattle.model.specs.Refusals.{unless}
use Rattle.repair.specs.Definition.{delivery, changes_of, lent_with, judge_filler, judge_changes}
use Rattle.repair.specs.Passing.{shaped_by, judged_lent, filler_refused, changes_left}
use Rattle.repair.proofs.judge_repair.Goals as goal
use Rattle.repair.proofs.judge_repair.Goals.{After-unless, In_ok-judge_lent}

-- 1 to 6 are passed
passed-lent : (c : In_ok-judge_lent) → lent_with c.args.header (delivery c.args.centre.now c.args.neighbours.now) ≡ Ok tt
passed-lent c = sym c.judge_lent.ensures ∙ c.in_ok-judge_lent.was

filler-is : (c : After-unless) → c.unless.result ≡ judge_filler c.args.filler
filler-is c = c.unless.ensures ∙ ap (λ (b : Bool). unless b BadFiller) c.is_usable.ensures

pub returns-in_err-judge_lent : goal.returns-in_err-judge_lent
returns-in_err-judge_lent c =
    let a = c.args in
    rw (handed_on _ _ c.from_residual.ensures.1)
    (sym (judged_lent a.header (delivery a.centre.now a.neighbours.now) a.filler a.held (sym c.judge_lent.ensures ∙ c.in_err-judge_lent.was)))

pub returns-in_err-unless : goal.returns-in_err-unless
returns-in_err-unless c =
    let a = c.args in
    let at = goal.at.returns-in_err-unless c in
    rw (handed_on _ _ c.from_residual-in_err-unless.ensures.1)
    (sym (filler_refused a.header (delivery a.centre.now a.neighbours.now) a.filler a.held (passed-lent at.In_ok-judge_lent) (sym (filler-is at.After-unless) ∙ c.in_err-unless.was)))

pub invariant_of-damaged : goal.invariant_of-damaged
invariant_of-damaged c =
    record { shaped = shaped_by c.args.header (delivery c.args.centre.now c.args.neighbours.now) (passed-lent (goal.at.invariant_of-damaged c).In_ok-judge_lent) }

pub returns : goal.returns
returns c =
    let a = c.args in
    let at = goal.at.returns c in
    let wanted = c.count_changes-wanted.ensures ∙ ap (λ (b : ℕ). length (changes_of a.header b (delivery a.centre.now a.neighbours.now))) c.bits_of.ensures in
    c.unless-2.ensures ∙ ap (λ (k : ℕ). judge_changes k a.held) wanted
    ∙ sym (changes_left a.header (delivery a.centre.now a.neighbours.now) a.filler a.held (passed-lent at.In_ok-judge_lent) (sym (filler-is at.After-unless) ∙ c.in_ok-unless.was))
