-- What is usable, and a size that is, is no NaN: so its pattern has a float. What 3 and 7 let pass is usable, and 7 asks no more. Assumes nothing.
use Rattle.std.specs.Prelude.{ℕ, ◌<◌, ◌≡◌, refl, true, not, List, T, Float, length, get_or, Ok}
use Rattle.std.proofs.Common.{zero-le, sym, subst}
use Rattle.std.proofs.Math.Bool.{and-eq-true_iff}
use Rattle.std.specs.Float.Ieee as Ieee
use Rattle.std.specs.Float.{nan, inf, fin}
use Rattle.std.specs.Float.Ieee.{is_nan}
use Rattle.model.specs.declared.Block.{Block}
use Rattle.model.specs.declared.Refusal.TheVariants.{Measure, BadSample}
use Rattle.model.specs.Formulas.{whole, ◌⊘◌}
use Rattle.model.specs.Refusals.{unless}
use Rattle.model.specs.Judging.{limit, usable, usable_size, measure_usable, judge_measures, sample_usable, judge_samples}
use Rattle.judge.specs.First.{unless_passed, each_passed, passed_over_lem}

-- what is compared is no NaN
compared_number : (y x : Float) → Ieee.le y x ≡ true → T (not (is_nan x))
unfolding Ieee.le is_nan
compared_number nan nan e = subst T (sym e) tt
compared_number (inf s) nan e = subst T (sym e) tt
compared_number (fin s m k) nan e = subst T (sym e) tt
compared_number y (inf s) e = tt
compared_number y (fin s m k) e = tt

pub usable_number : (x : Float) → usable x ≡ true → T (not (is_nan x))
usable_number x e = compared_number (Ieee.neg limit) x ((and-eq-true_iff (Ieee.le (Ieee.neg limit) x) (Ieee.le x limit)).0 e).0

pub size_number : (x : Float) → usable_size x ≡ true → T (not (is_nan x))
size_number x e = compared_number (whole 1 ⊘ whole 1024) x ((and-eq-true_iff (Ieee.le (whole 1 ⊘ whole 1024) x) (Ieee.le x limit)).0 e).0

-- ---- 3

pub measure_usable_lem : (block : Block) (threshold : Float) (k : ℕ) → judge_measures block threshold ≡ Ok tt → k < 5 → measure_usable block threshold k ≡ true
unfolding judge_measures
measure_usable_lem block threshold k e h =
    unless_passed (measure_usable block threshold k) (Measure k)
    (each_passed (λ i. unless (measure_usable block threshold i) (Measure i)) 5 k e h)

-- ---- 7

pub samples_usable : (samples : List Float) (k : ℕ) → judge_samples samples ≡ Ok tt → k < length samples → usable (get_or samples k nan) ≡ true
unfolding judge_samples
samples_usable samples k e h =
    unless_passed (usable (get_or samples k nan)) (BadSample k) (each_passed (sample_usable samples) (length samples) k e h)

pub samples_pass : (samples : List Float) → ((k : ℕ) → k < length samples → usable (get_or samples k nan) ≡ true) → judge_samples samples ≡ Ok tt
unfolding judge_samples
samples_pass samples h = passed_over_lem (sample_usable samples) 0 (length samples) refl (λ k from l. rw (h k l)) zero-le
