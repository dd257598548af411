-- What the writer rests on: what holds of a block that 1 to 7 do not refuse. Assumes nothing.
use Rattle.std.specs.Prelude.{ℕ, zero, suc, ◌+◌, ◌≤◌, ◌<◌, ◌≡◌, not, List, ◌++◌, T, Float, length, get_or, Ok}
use Rattle.std.proofs.Common.{arith, subst, length-append, get_or-append-add}
use Rattle.std.specs.Float.{nan}
use Rattle.std.specs.Float.Ieee.{is_nan}
use Rattle.std.proofs.Math.ListN.{get_or-append}
use Rattle.model.specs.declared.Header.{Header}
use Rattle.model.specs.Limits.{most_subdivisions}
use Rattle.model.specs.Star.{star}
use Rattle.model.specs.Judging.{judge_measures, judge_star}
use Rattle.judge.specs.Passing.{star_measures, star_samples, star_shaped}
use Rattle.words.specs.Floats.{Numbers}
use Rattle.judge.specs.Usable.{usable_number, samples_usable}
use Rattle.grid.specs.Counts.{most_samples, count_small}
use Rattle.record.specs.Accepted.{measure_number}
use Rattle.record.specs.Bytes.{measures_of}

pub record Writable (h : Header) (centre neighbours : List Float) : Type 0 where
  pub few : h.block.subdivisions ≤ most_subdivisions
  pub counted : length centre + length neighbours ≤ most_samples
  pub measures : Numbers (measures_of h)
  pub centre_numbers : Numbers centre
  pub neighbour_numbers : Numbers neighbours

measures_are : (h : Header) → judge_measures h.block h.threshold ≡ Ok tt → Numbers (measures_of h)
measures_are h e zero l = measure_number h.block h.threshold 0 e
measures_are h e (suc zero) l = measure_number h.block h.threshold 1 e
measures_are h e (suc (suc zero)) l = measure_number h.block h.threshold 2 e
measures_are h e (suc (suc (suc zero))) l = measure_number h.block h.threshold 3 e
measures_are h e (suc (suc (suc (suc zero)))) l = measure_number h.block h.threshold 4 e
measures_are h e (suc (suc (suc (suc (suc k))))) l = absurd (omega arith)

pub writable : (h : Header) (centre neighbours : List Float) → judge_star (star h centre neighbours) ≡ Ok tt
    → Writable h centre neighbours
writable h centre neighbours passed =
    let s = star h centre neighbours in
    let shaped = star_shaped s passed in
    let number : (k : ℕ) → k < length centre + length neighbours → T (not (is_nan (get_or (centre ++ neighbours) k nan))) =
    λ k l. usable_number (get_or (centre ++ neighbours) k nan) (samples_usable (centre ++ neighbours) k (star_samples s passed) (rw length-append l)) in
    record {
      few = shaped.few;
      counted = rw (shaped.centre_is, shaped.neighbours_are) (count_small h.block.subdivisions h.mask shaped.few shaped.sides);
      measures = measures_are h (star_measures s passed);
      centre_numbers = λ k l.
          subst (λ (x : Float). T (not (is_nan x))) (get_or-append centre neighbours nan k l) (number k (omega arith));
      neighbour_numbers = λ k l.
          subst (λ (x : Float). T (not (is_nan x))) (get_or-append-add centre neighbours k nan) (number (length centre + k) (omega arith));
    }
