-- Document 02, [12]: what extraction asks of a summary and what it trusts then; and the step to the next layer that is not passed over.
use Rattle.std.specs.Prelude.{ℕ, ◌≤◌, ◌<◌, ◌≡◌, refl, Bool, true, false, cond, List, [], ltb, Float, length, Ok}
use Rattle.std.proofs.Common.{zero-le, arith, sym, ap, ◌∙◌, ltb-true, ltb-false}
use Rattle.std.proofs.lemmas.Bool.{false≢true}
use Rattle.std.specs.Float.Ieee.{is_nan}
use Rattle.std.specs.Float.Ieee.Bits.{is_false}
use Rattle.model.specs.declared.Extent.{Extent}
use Rattle.model.specs.Answers.{Verdict}
use Rattle.model.specs.declared.Refusal.TheVariants.{LayerDiffers}
use Rattle.model.specs.Refusals.{unless, or_else}
use Rattle.model.specs.Judging.{judge_star, judge_buffer}
use Rattle.model.specs.Star.{Star, subdivisions}
use Rattle.model.specs.Layers.{summary_length, marked, layer_stands, judge_layers, passed_over}
use Rattle.judge.specs.First.{passed_over_lem}
use Rattle.judge.specs.Passing.{star_measures, star_shaped, star_samples}
use Rattle.judge.specs.Usable.{usable_number, measure_usable_lem}
use Rattle.layers.specs.Best.{Number}
use Rattle.layers.specs.Held.{Held, AllNumbers, first_numbers}
use Rattle.layers.specs.Setting.{each_stands}

-- 14, where a summary is asked for, and then 26
abbrev pub summary_judged : Bool → ℕ → List Float → List Float → Verdict
summary_judged asked n samples summary = or_else (cond asked (judge_buffer (summary_length n) (length summary)) (Ok tt)) (judge_layers n samples summary)

-- a list with no place tells of no layer
pub no_summary : (n : ℕ) (samples : List Float) → summary_judged false n samples [] ≡ Ok tt
unfolding judge_layers is_nan
no_summary n samples = passed_over_lem (λ x. unless (layer_stands n samples [] x) (LayerDiffers x)) 0 n refl (λ x from h. refl) zero-le

pub none_over : (threshold : Float) (x : ℕ) → passed_over threshold [] x ≡ false
unfolding is_nan
none_over threshold x = refl

-- the mark that was found in what was read of a layer is the layer's
pub mark_told : {told read : Extent} {r b : Bool} → read ≡ told → r ≡ marked read → r ≡ b → marked told ≡ b
mark_told e m found = ap marked (sym e) ∙ sym m ∙ found

-- the samples are as 4 and 7 let them pass, and no layer of the summary is one that 26 refuses
pub record Trusted (n : ℕ) (samples summary : List Float) : Type 0 where
  pub held : Held n samples
  pub numbers : AllNumbers samples
  pub stands : (x : ℕ) → x < n → layer_stands n samples summary x ≡ true

-- of a block that 1 to 7 let pass
module _ (s : Star) (passed : judge_star s ≡ Ok tt) where
  pub held_there : Held (subdivisions s) s.centre
  held_there =
      let shaped = star_shaped s passed in
      record { few = shaped.few; long = shaped.centre_is }

  pub numbers_there : AllNumbers s.centre
  numbers_there = first_numbers s.centre s.neighbours (star_samples s passed)

  pub threshold_number : Number s.threshold
  threshold_number = is_false _ (usable_number _ (measure_usable_lem s.block s.threshold 4 (star_measures s passed) (omega arith)))

  pub trusted : (summary : List Float) → judge_layers (subdivisions s) s.centre summary ≡ Ok tt → Trusted (subdivisions s) s.centre summary
  trusted summary e = record { held = held_there; numbers = numbers_there; stands = each_stands (subdivisions s) s.centre summary e }

-- the first layer from one on that is not passed over, or n
pub record NextLayer (n : ℕ) (threshold : Float) (summary : List Float) (from r : ℕ) : Type 0 where
  pub ordered : from ≤ r
  pub within : r ≤ n
  pub all_over : (x : ℕ) → from ≤ x → x < r → passed_over threshold summary x ≡ true
  pub not_over : r < n → passed_over threshold summary r ≡ false

-- there is one such layer
module _ {n : ℕ} {threshold : Float} {summary : List Float} {from : ℕ} where
  not_before : {r r' : ℕ} → NextLayer n threshold summary from r → NextLayer n threshold summary from r' → r < r' → ⊥
  not_before {r} h h' l = false≢true (sym (h.not_over (omega (arith, l, h'.within))) ∙ h'.all_over r h.ordered l)

  pub one_next : {r r' : ℕ} → NextLayer n threshold summary from r → NextLayer n threshold summary from r' → r ≡ r'
  one_next {r} {r'} h h' = go (ltb r r') (ltb r' r) refl refl
    where
      go : (a b : Bool) → ltb r r' ≡ a → ltb r' r ≡ b → r ≡ r'
      go true b e f = absurd (not_before h h' (ltb-true r r' e))
      go false true e f = absurd (not_before h' h (ltb-true r' r f))
      go false false e f = omega (arith, ltb-false r r' e, ltb-false r' r f)
