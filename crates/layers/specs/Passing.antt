-- Document 02, [12]: 1, 4, 7 and what comes after them, in the parts that they are judged in; what is known of what they let pass; and that samples one of
-- which is set still pass.
use Rattle.std.specs.Prelude.{ℕ, ◌≤◌, ◌<◌, ◌≡◌, refl, Bool, true, false, List, eqb, Float, length, get_or, set, Ok}
use Rattle.std.proofs.Math.Path.{sym, ap}
use Rattle.std.proofs.Common.{◌∙◌, length-set, get_or-set_same, get_or-set_other}
use borrow.Author.Tests.{leb-true, eqb-true, eqb-false}
use Rattle.std.specs.Float.{nan}
use Rattle.model.specs.declared.Xyz.{Xyz}
use Rattle.model.specs.declared.Refusal.TheVariants.{BadSample, PointNeverSampled, BufferTooShort}
use Rattle.model.specs.Answers.{Verdict}
use Rattle.model.specs.Samples.{sampled}
use Rattle.model.specs.Refusals.{or_else}
use Rattle.model.specs.Judging.{judge_subdivisions, judge_centre, usable, judge_samples, judge_buffer}
use Rattle.model.specs.Layers.{summary_length}
use Rattle.judge.specs.First.{or_else_assoc, both_passed, unless_passed}
use Rattle.judge.specs.PointReads.{read_passed}
use Rattle.judge.specs.Usable.{samples_usable, samples_pass}
use Rattle.layers.specs.Definition.{judge_own, judge_making, judge_point, judge_value, judge_change, judge_setting}
use Rattle.layers.specs.Held.{Held, AllNumbers, all_numbers}

-- ---- 1, 4, 7

-- 1 and 4
abbrev judge_size : ℕ → ℕ → Verdict
judge_size n held = or_else (judge_subdivisions n) (judge_centre n held)

pub record Own (n : ℕ) (samples : List Float) : Type 0 where
  pub held : Held n samples
  pub numbers : AllNumbers samples
  pub shape : judge_size n (length samples) ≡ Ok tt
  pub pass : judge_samples samples ≡ Ok tt

module _ (n : ℕ) (samples : List Float) where
  own_in_parts : judge_own n samples ≡ or_else (judge_size n (length samples)) (judge_samples samples)
  unfolding judge_own
  own_in_parts = sym (or_else_assoc (judge_subdivisions n) (judge_centre n (length samples)) (judge_samples samples))

  pub by_shape : {v : Verdict} → judge_size n (length samples) ≡ v → judge_own n samples ≡ or_else v (judge_samples samples)
  by_shape e = own_in_parts ∙ ap (λ (v : Verdict). or_else v (judge_samples samples)) e

  pub own : judge_own n samples ≡ Ok tt → Own n samples
  own e =
      let parts = both_passed (judge_size n (length samples)) (judge_samples samples) (sym own_in_parts ∙ e) in
      let read = read_passed n (length samples) parts.0 in
      record {
        held = record { few = read.few; long = read.held_is };
        numbers = all_numbers samples parts.1;
        shape = parts.0;
        pass = parts.1;
      }

-- ---- making

module _ (n : ℕ) (samples : List Float) (room : ℕ) where
  pub making_by_own : {v : Verdict} → judge_own n samples ≡ v → judge_making n samples room ≡ or_else v (judge_buffer (summary_length n) room)
  unfolding judge_making
  making_by_own e = ap (λ (v : Verdict). or_else v (judge_buffer (summary_length n) room)) e

  pub record Makeable : Type 0 where
    pub passed : judge_own n samples ≡ Ok tt
    pub own_is : Own n samples
    pub fits : summary_length n ≤ room

  pub makeable : judge_making n samples room ≡ Ok tt → Makeable
  unfolding judge_making
  makeable e =
      let parts = both_passed (judge_own n samples) (judge_buffer (summary_length n) room) e in
      record { passed = parts.0; own_is = own n samples parts.0; fits = leb-true _ _ (unless_passed _ (BufferTooShort _) parts.1) }

-- ---- setting

module _ (n : ℕ) (p : Xyz) (value : Float) (room : ℕ) where
  pub record Changeable : Type 0 where
    pub was_sampled : sampled n p.x p.y p.z ≡ true
    pub is_usable : usable value ≡ true
    pub fits : summary_length n ≤ room

  pub changeable : judge_change n p value room ≡ Ok tt → Changeable
  unfolding judge_change
  changeable e =
      let parts = both_passed (judge_point n p) (or_else (judge_value n p value) (judge_buffer (summary_length n) room)) e in
      let rest = both_passed (judge_value n p value) (judge_buffer (summary_length n) room) parts.1 in
      record {
        was_sampled = unless_passed _ (PointNeverSampled _) parts.0;
        is_usable = unless_passed _ (BadSample _) rest.0;
        fits = leb-true _ _ (unless_passed _ (BufferTooShort _) rest.1);
      }

  module _ (samples : List Float) where
    pub setting_by_own : {v : Verdict} → judge_own n samples ≡ v → judge_setting n samples p value room ≡ or_else v (judge_change n p value room)
    unfolding judge_setting
    setting_by_own e = ap (λ (v : Verdict). or_else v (judge_change n p value room)) e

    pub setting_passed : judge_setting n samples p value room ≡ Ok tt → (judge_own n samples ≡ Ok tt) × (judge_change n p value room ≡ Ok tt)
    unfolding judge_setting
    setting_passed e = both_passed (judge_own n samples) (judge_change n p value room) e

-- ---- a sample set

module _ (samples : List Float) (place : ℕ) (value : Float) (there : place < length samples) (fine : usable value ≡ true) where
  set_usable : judge_samples samples ≡ Ok tt → (k : ℕ) → k < length samples → usable (get_or (set samples place value) k nan) ≡ true
  set_usable pass k h = go (eqb k place) refl
    where
      go : (b : Bool) → eqb k place ≡ b → usable (get_or (set samples place value) k nan) ≡ true
      go true e = rw (eqb-true k place e, get_or-set_same samples place value nan there) fine
      go false e = ap usable (get_or-set_other samples place k value nan (eqb-false k place e)) ∙ samples_usable samples k pass h

  pub set_own : (n : ℕ) → judge_own n samples ≡ Ok tt → judge_own n (set samples place value) ≡ Ok tt
  set_own n e =
      let before = own n samples e in
      let as_long = length-set samples place value in
      let all = samples_pass (set samples place value) (λ k h. set_usable before.pass k (rw as_long at h)) in
      by_shape n (set samples place value) (ap (judge_size n) as_long ∙ before.shape) ∙ all
