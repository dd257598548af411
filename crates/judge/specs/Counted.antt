-- Document 01, 'Answers by number': 7 for samples whose places are counted on from another place, and that two lists lent one after
-- the other are judged one after the other. Samples that can all be used pass, wherever they are counted from.
use Rattle.std.specs.Prelude.{ℕ, ◌+◌, ◌≡◌, refl, Bool, true, false, ◌&&◌, List, ◌++◌, Float, length, get_or, Ok}
use Rattle.std.proofs.Common.{zero-le, sym, ◌∙◌, zero-add, add-one, length-append, get_or-append-add}
use Rattle.std.proofs.Math.Bool.{and-eq-true_iff}
use Rattle.std.specs.Float.{nan}
use Rattle.std.proofs.Math.ListN.{get_or-append}
use Rattle.laws.specs.Below.{all_below, each_below}
use Rattle.model.specs.declared.Refusal.{Refusal}
use Rattle.model.specs.declared.Refusal.TheVariants.{BadSample}
use Rattle.model.specs.Answers.{Verdict}
use Rattle.model.specs.Refusals.{unless, or_else, first}
use Rattle.model.specs.Judging.{usable, sample_usable, judge_samples}
use Rattle.judge.specs.First.{first_append, first_same, passed_over_lem}

abbrev pub usable_from : ℕ → List Float → ℕ → Verdict
usable_from from samples place = unless (usable (get_or samples place nan)) (BadSample (from + place))

abbrev pub judge_from : ℕ → List Float → Verdict
judge_from from samples = first (usable_from from samples) (length samples)

-- the first k samples can be used
abbrev pub all_usable : List Float → ℕ → Bool
all_usable samples = all_below (λ k. usable (get_or samples k nan))

-- and so can k samples from a place on
abbrev pub usable_after : List Float → ℕ → ℕ → Bool
usable_after samples from = all_below (λ k. usable (get_or samples (from + k) nan))

pub last_one : (samples : List Float) (k : ℕ) → length samples ≡ k + 1 → all_usable samples k && usable (get_or samples k nan) ≡ all_usable samples (length samples)
last_one samples k e = rw (e, add-one)

-- a sample more of each part
pub one_more_each : (a b x y : Bool) → (a && b) && (x && y) ≡ (a && x) && (b && y)
one_more_each true true x y = refl
one_more_each true false true y = refl
one_more_each true false false y = refl
one_more_each false b x y = refl

-- where each test below a bound is passed, none of their refusals is told
pub all_pass : (P : ℕ → Bool) (refusal : ℕ → Refusal) (n : ℕ) → all_below P n ≡ true → first (λ k. unless (P k) (refusal k)) n ≡ Ok tt
all_pass P refusal n h = passed_over_lem (λ k. unless (P k) (refusal k)) 0 n refl (λ k _ l. rw (each_below P n k h l)) zero-le

usable_pass : (from : ℕ) (samples : List Float) (n : ℕ) → all_usable samples n ≡ true → first (usable_from from samples) n ≡ Ok tt
usable_pass from samples = all_pass (λ k. usable (get_or samples k nan)) (λ k. BadSample (from + k))

-- one list, its places counted from 0
pub from_zero : (samples : List Float) → judge_from 0 samples ≡ judge_samples samples
unfolding judge_samples
from_zero samples = first_same (usable_from 0 samples) (sample_usable samples) (length samples) (λ i h. rw zero-add)

pub list_usable : (samples : List Float) → all_usable samples (length samples) ≡ true → Ok tt ≡ judge_samples samples
list_usable samples h = sym (usable_pass 0 samples (length samples) h) ∙ from_zero samples

module _ (centre neighbours : List Float) where
  pub one_after_the_other :
      judge_samples (centre ++ neighbours) ≡ or_else (judge_from 0 centre) (judge_from (length centre) neighbours)
  unfolding judge_samples
  one_after_the_other =
      let both = centre ++ neighbours in
      let in_centre = first_same (sample_usable both) (usable_from 0 centre) (length centre) (λ i h. rw (get_or-append, zero-add)) in
      let after =
      first_same (λ i. sample_usable both (length centre + i)) (usable_from (length centre) neighbours) (length neighbours)
      (λ i h. rw get_or-append-add)
      in
      rw (length-append, first_append, in_centre, after)

  pub both_usable : {a b : Bool} → a ≡ all_usable centre (length centre) → b ≡ all_usable neighbours (length neighbours)
      → (a && b) ≡ true
      → Ok tt ≡ judge_samples (centre ++ neighbours)
  both_usable {a} {b} in_centre after h =
      let parts = (and-eq-true_iff a b).0 h in
      let passed = usable_pass 0 centre (length centre) (sym in_centre ∙ parts.0) in
      let rest = usable_pass (length centre) neighbours (length neighbours) (sym after ∙ parts.1) in
      rw (one_after_the_other, passed, rest)
