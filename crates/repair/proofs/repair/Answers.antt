-- `repair` meets its contract: a refusal leaves all as it was; otherwise the changes are listed and then made, as the list has them.
use Rattle.std.specs.Prelude.{Ok}
use Prim.Native.Nat.{ℕ, ◌*◌, ◌≤◌}
use mathlib.Core.Path.{◌≡◌, sym, ap, ap₂, ◌∙◌, subst}
use mathlib.Core.List.{List}
use native.Mathlib.Nat.{zero-add}
use native.Mathlib.Omega.{arith}
use lib.Ieee.{binary32, to_bits}
use lib.ListN.{length}
use Rattle.laws.specs.Exits.{handed_on}
use Rattle.laws.specs.Steps.{iterate}
use Rattle.laws.specs.Laying.{lay}
use Rattle.repair.specs.declared.Change.{Change}
use Rattle.repair.specs.Definition.{Delivery, delivery, applied, words_of, changes_of, list_of, judge_repair, repair_answer, repair}
use Rattle.repair.specs.Listed.{Put, Listed, makes, AllWithin, left_is, all_made, all_within, length_put}
use Rattle.repair.specs.Told.{told_changes}
use Rattle.repair.specs.Passing.{Repairable, repairable}
use Rattle.repair.proofs.repair.Goals as goal
use Rattle.repair.proofs.repair.Goals.{After-list_changes-count}

pub returns-in_err-judge_repair : goal.returns-in_err-judge_repair
unfolding repair
returns-in_err-judge_repair c =
    let a = c.args in
    let lent = delivery a.centre.now a.neighbours.now in
    rw (handed_on _ _ c.from_residual.ensures.1)
    (sym (ap (repair_answer (list_of a.header lent a.filler) lent a.changes.now) (sym c.judge_repair.ensures ∙ c.in_err-judge_repair.was)))

pub invariant_of-damaged : goal.invariant_of-damaged
invariant_of-damaged c =
    let a = c.args in
    let lent = delivery a.centre.now a.neighbours.now in
    let r = repairable a.header lent a.filler (length a.changes.now) (sym c.judge_repair.ensures ∙ c.in_ok-judge_repair.was) in
    record { shaped = r.shaped }

-- nothing is refused, and the list is written
module _ (c : After-list_changes-count) where
  abbrev lent : Delivery
  lent = delivery c.args.centre.now c.args.neighbours.now

  abbrev list : List Change
  list = list_of c.args.header lent c.args.filler

  abbrev after : List ℕ
  after = c.list_changes-count.new.changes

  judge_passed : judge_repair c.args.header lent c.args.filler (length c.args.changes.now) ≡ Ok tt
  judge_passed = sym c.judge_repair.ensures ∙ c.in_ok-judge_repair.was

  can_repair : Repairable c.args.header lent c.args.filler (length c.args.changes.now)
  can_repair = repairable c.args.header lent c.args.filler (length c.args.changes.now) judge_passed

  put_all : Put c.args.changes.now 0 list c.list_changes-count.result after
  put_all =
      (subst (λ (b : ℕ). Listed c.args.changes.now 0 (changes_of c.args.header b lent) c.list_changes-count.result after)
      c.bits_of.ensures c.list_changes-count.ensures).put (rw zero-add can_repair.room)

  count_is : c.list_changes-count.result ≡ length list
  count_is = put_all.next_is ∙ zero-add (length list)

  length_left : length after ≡ length c.args.changes.now
  length_left = length_put put_all

  changes_left : after ≡ lay 4 words_of c.args.changes.now 0 list
  changes_left = put_all.laid_is

  room : 4 * length list ≤ length c.args.changes.now
  room = can_repair.room

  within_left : AllWithin after c.list_changes-count.result lent
  within_left =
      let before = c.args.changes.now in
      let all =
      all_within list before room lent
      (told_changes c.args.header (to_bits binary32 c.args.filler) lent can_repair.shaped) in
      subst (λ (words : List ℕ). AllWithin words c.list_changes-count.result lent) (sym changes_left)
      (subst (λ (k : ℕ). AllWithin (lay 4 words_of before 0 list) k lent) (sym count_is) all)

  made_left : iterate (makes after) c.list_changes-count.result lent ≡ applied list lent
  made_left =
      ap₂ (λ (words : List ℕ) (k : ℕ). iterate (makes words) k lent) changes_left count_is
      ∙ all_made list c.args.changes.now room lent

pub apply-requires : goal.apply-requires
apply-requires c =
    let listed = (goal.at.apply-requires c).After-list_changes-count in
    (rw (length_left listed) (omega (arith, count_is listed, room listed)), within_left listed)

pub returns : goal.returns
unfolding repair
returns c =
    let listed = (goal.at.returns c).After-list_changes-count in
    let changed = c.apply.ensures ∙ made_left listed in
    (λ i. record {
      answer = Ok (count_is listed i);
      left = changed i;
      changes = (changes_left listed ∙ left_is (list listed) c.args.changes.now (room listed)) i;
    })
    ∙ sym (ap (repair_answer (list listed) (lent listed) c.args.changes.now) (judge_passed listed))
