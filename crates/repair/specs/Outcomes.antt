-- Document 02, [5]: what the call answers and leaves where nothing is refused, and where there is nothing to change.
use Rattle.std.specs.Prelude.{ℕ, ◌≡◌, refl, true, List, [], T, Float, length, Err, Ok}
use Rattle.std.proofs.Common.{zero-le, ap, ◌∙◌, le-leb}
use Rattle.std.specs.Float.{binary32}
use Rattle.std.specs.Float.Ieee.{fits, to_bits}
use Rattle.std.specs.Float.Ieee.Bits.{of_bits-to_bits}
use Rattle.std.proofs.lemmas.List.{length-map}
use Rattle.laws.specs.Steps.{each, laid}
use Rattle.model.specs.declared.Header.{Header}
use Rattle.model.specs.Answers.{Verdict}
use Rattle.model.specs.Judging.{usable, judge_star, judge_faces}
use Rattle.judge.specs.First.{both_passed}
use Rattle.judge.specs.Passing.{samples_left, star_lent, star_samples}
use Rattle.repair.specs.declared.Change.{Change}
use Rattle.repair.specs.Definition.{Delivery, value_of, as_star, applied, words_of, list_of, lent_with, judge_repair, repair_answer, repair}
use Rattle.repair.specs.Spots.{length_applied}
use Rattle.repair.specs.Passing.{Repairable, repairable}
use Rattle.repair.specs.Repairs.{seven_passes, eight_passes, nothing_again, accepted_kept}

-- a count is answered only for what passes
answered : (list : List Change) (d : Delivery) (changes : List ℕ) (k : ℕ) (v : Verdict) → (repair_answer list d changes v).answer ≡ Ok k
    → (v ≡ Ok tt) × (length list ≡ k)
answered list d changes k (Ok _) e = (refl, cc)
answered list d changes k (Err r) e = (cc, cc)

pub record Accepted (h : Header) (d : Delivery) (filler : Float) (changes : List ℕ) (k : ℕ) : Type 0 where
  pub passed : judge_repair h d filler (length changes) ≡ Ok tt
  pub counted : length (list_of h d filler) ≡ k
  pub left_is : (repair h d filler changes).left ≡ applied (list_of h d filler) d
  pub changes_are : (repair h d filler changes).changes ≡ laid (each words_of (list_of h d filler)) changes

pub accepted : (h : Header) (d : Delivery) (filler : Float) (changes : List ℕ) (k : ℕ) → (repair h d filler changes).answer ≡ Ok k
    → Accepted h d filler changes k
unfolding repair
accepted h d filler changes k e =
    let list = list_of h d filler in
    let a = answered list d changes k (judge_repair h d filler (length changes)) e in
    record {
      passed = a.0;
      counted = a.1;
      left_is = ap (λ (v : Verdict). (repair_answer list d changes v).left) a.0;
      changes_are = ap (λ (v : Verdict). (repair_answer list d changes v).changes) a.0;
    }

-- ---- where there is nothing to change

nothing_done : (h : Header) (d : Delivery) (filler : Float) (changes : List ℕ) → lent_with h d ≡ Ok tt → usable filler ≡ true → list_of h d filler ≡ []
    → repair h d filler changes ≡ record { answer = Ok 0; left = d; changes = changes }
unfolding repair judge_repair
nothing_done h d filler changes lent is none = rw (none, lent, is, le-leb 0 _ zero-le)

pub accepted_done : (h : Header) (d : Delivery) (filler : Float) (changes : List ℕ) → usable filler ≡ true → judge_star (as_star h d) ≡ Ok tt
    → judge_faces (as_star h d) ≡ Ok tt → repair h d filler changes ≡ record { answer = Ok 0; left = d; changes = changes }
accepted_done h d filler changes is star faces =
    let lent : lent_with h d ≡ Ok tt = rw (length-map, length-map) at (star_lent (as_star h d) star) in
    nothing_done h d filler changes lent is (accepted_kept h (to_bits binary32 filler) d (star_samples (as_star h d) star) faces)

-- ---- after the call

module _ (h : Header) (d : Delivery) (filler : Float) (fit : T (fits binary32 filler)) (held : ℕ) (passed : judge_repair h d filler held ≡ Ok tt) where
  abbrev bits : ℕ
  bits = to_bits binary32 filler

  abbrev after : Delivery
  after = applied (list_of h d filler) d

  lent_passed : lent_with h d ≡ Ok tt
  unfolding judge_repair
  lent_passed = (both_passed (lent_with h d) _ passed).0

  can_repair : Repairable h d filler held
  can_repair = repairable h d filler held passed

  filler_bits : usable (value_of bits) ≡ true
  filler_bits = ap usable (of_bits-to_bits binary32 filler fit) ∙ can_repair.filler_usable

  lent_after : lent_with h after ≡ Ok tt
  lent_after =
      let list = list_of h d filler in
      rw (length_applied list 0 d, length_applied list 1 d) lent_passed

  pub faces_after : judge_faces (as_star h after) ≡ Ok tt
  faces_after = eight_passes h bits d can_repair.shaped filler_bits

  pub star_after : judge_star (as_star h after) ≡ Ok tt
  star_after =
      samples_left (as_star h after) (rw (length-map, length-map) lent_after)
      ∙ seven_passes h bits d can_repair.shaped filler_bits

  pub done_again : (other : Float) (changes : List ℕ) → usable other ≡ true
      → repair h after other changes ≡ record { answer = Ok 0; left = after; changes = changes }
  done_again other changes is =
      nothing_done h after other changes lent_after is
      (nothing_again h bits d can_repair.shaped filler_bits (to_bits binary32 other))
