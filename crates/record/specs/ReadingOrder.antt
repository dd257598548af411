-- Document 01, 'Block record': the reader's order in the parts that it is judged in. Assumes nothing.
use Rattle.std.specs.Prelude.{ℕ, zero, suc, ◌+◌, ◌-◌, ◌*◌, ◌≤◌, ◌<◌, ◌≡◌, refl, List, leb, eqb, length, Err, Ok}
use Rattle.std.proofs.Common.{arith, sym, ap, ◌∙◌, leb-true, eq-eqb, ne_eqb}
use Rattle.std.proofs.Math.Bool.{and-eq-true_iff}
use Rattle.model.specs.declared.Refusal.TheVariants.{BadSample, RecordLength, SampleCount, BufferTooShort}
use Rattle.model.specs.Answers.{Verdict}
use Rattle.model.specs.Limits.{most_subdivisions, most_mask}
use Rattle.model.specs.Refusals.{unless, or_else, first}
use Rattle.model.specs.Judging.{usable, measure_usable, sample_usable, judge_subdivisions, judge_mask, judge_measures, judge_samples, judge_buffer}
use Rattle.model.specs.Words.{word_at, float_at}
use Rattle.model.specs.Record.{base_at, header_length, sample_from, header_of, count_of, samples_of, judge_length, judge_version, judge_count, judge_record}
use Rattle.judge.specs.First.{or_else_assoc, first_same, both_passed, unless_passed}
use Rattle.judge.specs.Passing.{kind_passed}
use Rattle.record.specs.Accepted.{length_samples, sample_is}

-- 12, 1, 2 and 3
abbrev pub judge_head : List ℕ → Verdict
judge_head bytes =
    or_else (judge_version bytes)
    (or_else (judge_subdivisions (header_of bytes).block.subdivisions)
    (or_else (judge_mask (header_of bytes).mask) (judge_measures (header_of bytes).block (header_of bytes).threshold)))

-- the base's part of 3
pub base_usable : (bytes : List ℕ) (which : ℕ) → which < 3
    → usable (float_at bytes (base_at + 4 * which)) ≡ measure_usable (header_of bytes).block (header_of bytes).threshold which
unfolding header_of
base_usable bytes zero h = refl
base_usable bytes (suc zero) h = refl
base_usable bytes (suc (suc zero)) h = refl
base_usable bytes (suc (suc (suc which))) h = absurd (omega arith)

-- 7, of the sample at a place of a record
abbrev pub sample_usable_at : List ℕ → ℕ → Verdict
sample_usable_at bytes k = unless (usable (float_at bytes (sample_from k))) (BadSample k)

-- 13 and 7
abbrev pub judge_body : List ℕ → Verdict
judge_body bytes = or_else (judge_count bytes) (first (sample_usable_at bytes) (count_of bytes))

module _ (bytes : List ℕ) (count : ℕ) (is : count ≡ count_of bytes) where
  pub body_refused : (length bytes - header_length ≡ 4 * count → ⊥) → Err (SampleCount count) ≡ judge_body bytes
  body_refused h =
      rw (is, ne_eqb (length bytes - header_length) (4 * count_of bytes) (λ e. h (e ∙ ap (λ (k : ℕ). 4 * k) (sym is))))

  pub body_counted : length bytes - header_length ≡ 4 * count → first (sample_usable_at bytes) count ≡ judge_body bytes
  body_counted h = rw (is, eq-eqb (length bytes - header_length) (4 * count_of bytes) (h ∙ ap (λ (k : ℕ). 4 * k) is))

pub samples_judged : (bytes : List ℕ) → judge_samples (samples_of bytes) ≡ first (sample_usable_at bytes) (count_of bytes)
unfolding judge_samples
samples_judged bytes =
    rw (length_samples bytes)
    (first_same (sample_usable (samples_of bytes)) (sample_usable_at bytes) (count_of bytes) (λ k l. rw (sample_is bytes k l)))

pub record_in_parts : (bytes : List ℕ) → judge_record bytes ≡ or_else (judge_length bytes) (or_else (judge_head bytes) (judge_body bytes))
unfolding judge_record header_of
record_in_parts bytes = rw (samples_judged bytes) (simp or_else_assoc)

-- what the body's judges rest on
pub record HeadPassed (bytes : List ℕ) : Type 0 where
  pub long : header_length ≤ length bytes
  pub few : (header_of bytes).block.subdivisions ≤ most_subdivisions
  pub sides : (header_of bytes).mask ≤ most_mask

pub length_passed : (bytes : List ℕ) → judge_length bytes ≡ Ok tt → header_length ≤ length bytes
length_passed bytes e =
    leb-true header_length (length bytes)
    ((and-eq-true_iff (leb header_length (length bytes)) (eqb (word_at bytes 0) (length bytes - 4))).0 (unless_passed _ RecordLength e)).0

pub head_passed : (bytes : List ℕ) → judge_length bytes ≡ Ok tt → judge_head bytes ≡ Ok tt → HeadPassed bytes
head_passed bytes l e =
    let n = (header_of bytes).block.subdivisions in
    let mask = (header_of bytes).mask in
    let from-1 = (both_passed (judge_version bytes) _ e).1 in
    let from-2 = both_passed (judge_subdivisions n) _ from-1 in
    let kind = kind_passed n mask (rw from-2.0 (both_passed (judge_mask mask) _ from-2.1).0) in
    record { long = length_passed bytes l; few = kind.few; sides = kind.sides }

-- 14
pub buffer_holds : (wanted held : ℕ) → judge_buffer wanted held ≡ Ok tt → wanted ≤ held
buffer_holds wanted held e = leb-true wanted held (unless_passed (leb wanted held) (BufferTooShort wanted) e)
