-- Document 02, [5]: 1 to 6, 18 and 19 in the parts that they are judged in, and what they let pass.
use Rattle.std.specs.Prelude.{ℕ, ◌*◌, ◌≤◌, ◌≡◌, true, Float, length, Err, Ok}
use Rattle.std.proofs.Common.{arith}
use borrow.Author.Tests.{leb-true}
use Rattle.std.proofs.lemmas.List.{length-map}
use Rattle.model.specs.declared.Header.{Header}
use Rattle.model.specs.declared.Refusal.{Refusal}
use Rattle.model.specs.declared.Refusal.TheVariants.{BadFiller, ChangesTooShort}
use Rattle.model.specs.Judging.{usable}
use Rattle.grid.specs.Shape.{Shaped}
use Rattle.judge.specs.First.{both_passed, unless_passed}
use Rattle.judge.specs.Passing.{lent_of, lent_shaped}
use Rattle.repair.specs.Definition.{Delivery, as_star, list_of, lent_with, judge_filler, judge_changes, judge_repair}

pub shaped_by : (h : Header) (d : Delivery) → lent_with h d ≡ Ok tt → Shaped (as_star h d)
shaped_by h d e =
    let lent : lent_of (as_star h d) ≡ Ok tt = rw (length-map, length-map) e in
    lent_shaped (as_star h d) lent

module _ (h : Header) (d : Delivery) (filler : Float) (held : ℕ) where
  abbrev wanted : ℕ
  wanted = length (list_of h d filler)

  pub judged_lent : {r : Refusal} → lent_with h d ≡ Err r → judge_repair h d filler held ≡ Err r
  unfolding judge_repair
  judged_lent e = rw e

  pub filler_refused : {r : Refusal} → lent_with h d ≡ Ok tt → judge_filler filler ≡ Err r → judge_repair h d filler held ≡ Err r
  unfolding judge_repair
  filler_refused lent e = rw (lent, e)

  pub changes_left : lent_with h d ≡ Ok tt → judge_filler filler ≡ Ok tt → judge_repair h d filler held ≡ judge_changes wanted held
  unfolding judge_repair
  changes_left lent e = rw (lent, e)

  pub record Repairable : Type 0 where
    pub shaped : Shaped (as_star h d)
    pub filler_usable : usable filler ≡ true
    pub room : 4 * wanted ≤ held

  pub repairable : judge_repair h d filler held ≡ Ok tt → Repairable
  unfolding judge_repair
  repairable e =
      let lent = both_passed (lent_with h d) _ e in
      let rest = both_passed (judge_filler filler) (judge_changes wanted held) lent.1 in
      let fits = leb-true wanted _ (unless_passed _ (ChangesTooShort wanted) rest.1) in
      record {
        shaped = shaped_by h d lent.0;
        filler_usable = unless_passed (usable filler) BadFiller rest.0;
        room = omega arith;
      }
