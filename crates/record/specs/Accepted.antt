-- What holds of a record that no judge refuses, by name, and that this is all that the judges ask. Assumes nothing.
use Prim.Native.Nat.{ℕ, zero, suc, ◌+◌, ◌-◌, ◌*◌, ◌/◌, ◌≤◌, ◌<◌}
use Rattle.std.proofs.Common.{arith, sym, ap, ◌∙◌, leb-true, eqb-true, le-leb, eq-eqb}
use Rattle.std.specs.Prelude.{◌≡◌, true, not, List, T, leb, eqb, Float, length, get_or, Ok}
use Rattle.std.proofs.Math.Bool.{and-eq-true_iff}
use Rattle.std.specs.Float.{nan}
use Rattle.std.specs.Float.Ieee.{is_nan}
use Rattle.model.specs.declared.Block.{Block}
use Rattle.model.specs.declared.Refusal.TheVariants.{Subdivisions, Mask, RecordLength, Version, SampleCount}
use Rattle.model.specs.Limits.{most_subdivisions, most_mask}
use Rattle.model.specs.Judging.{usable, judge_measures, judge_samples}
use Rattle.model.specs.Words.{word_at, float_at}
use Rattle.model.specs.Record.{version_at, threshold_at, header_length, sample_from, header_of, count_of, samples_of, judge_record}
use Rattle.laws.specs.Lists.{length_listed, get_d_listed}
use Rattle.judge.specs.First.{unless_passed, both_passed}
use Rattle.judge.specs.Usable.{usable_number, size_number, measure_usable_lem, samples_usable, samples_pass}

-- ---- samples

pub length_samples : (bytes : List ℕ) → length (samples_of bytes) ≡ count_of bytes
unfolding samples_of
length_samples bytes = length_listed (λ k. float_at bytes (sample_from k)) (count_of bytes)

pub sample_is : (bytes : List ℕ) (k : ℕ) → k < count_of bytes → get_or (samples_of bytes) k nan ≡ float_at bytes (sample_from k)
unfolding samples_of
sample_is bytes k h = get_d_listed (λ k. float_at bytes (sample_from k)) (count_of bytes) k nan h

-- ---- measures

-- the five floats of a header, in the record's order
abbrev pub measure : Block → Float → ℕ → Float
measure block threshold zero = threshold
measure block threshold (suc zero) = block.base.x
measure block threshold (suc (suc zero)) = block.base.y
measure block threshold (suc (suc (suc zero))) = block.base.z
measure block threshold (suc (suc (suc (suc k)))) = block.size

pub measure_number : (block : Block) (threshold : Float) (k : ℕ) → judge_measures block threshold ≡ Ok tt → T (not (is_nan (measure block threshold k)))
measure_number block threshold zero e = usable_number threshold (measure_usable_lem block threshold 4 e (omega arith))
measure_number block threshold (suc zero) e = usable_number block.base.x (measure_usable_lem block threshold 0 e (omega arith))
measure_number block threshold (suc (suc zero)) e = usable_number block.base.y (measure_usable_lem block threshold 1 e (omega arith))
measure_number block threshold (suc (suc (suc zero))) e = usable_number block.base.z (measure_usable_lem block threshold 2 e (omega arith))
measure_number block threshold (suc (suc (suc (suc k)))) e = size_number block.size (measure_usable_lem block threshold 3 e (omega arith))

-- ---- the whole record

pub record Accepted (bytes : List ℕ) : Type 0 where
  pub long : header_length ≤ length bytes
  pub told : word_at bytes 0 ≡ length bytes - 4
  pub version : get_or bytes version_at 0 ≡ 1
  pub some : 1 ≤ (header_of bytes).block.subdivisions
  pub few : (header_of bytes).block.subdivisions ≤ most_subdivisions
  pub sides : (header_of bytes).mask ≤ most_mask
  pub measures : judge_measures (header_of bytes).block (header_of bytes).threshold ≡ Ok tt
  pub counted : length bytes ≡ sample_from (count_of bytes)
  pub usable_samples : (k : ℕ) → k < count_of bytes → usable (float_at bytes (sample_from k)) ≡ true

module _ (bytes : List ℕ) (a : Accepted bytes) where
  pub measured : (k : ℕ) → k < 5 → T (not (is_nan (float_at bytes (threshold_at + 4 * k))))
  unfolding header_of
  measured zero l = measure_number (header_of bytes).block (header_of bytes).threshold 0 a.measures
  measured (suc zero) l = measure_number (header_of bytes).block (header_of bytes).threshold 1 a.measures
  measured (suc (suc zero)) l = measure_number (header_of bytes).block (header_of bytes).threshold 2 a.measures
  measured (suc (suc (suc zero))) l = measure_number (header_of bytes).block (header_of bytes).threshold 3 a.measures
  measured (suc (suc (suc (suc zero)))) l = measure_number (header_of bytes).block (header_of bytes).threshold 4 a.measures
  measured (suc (suc (suc (suc (suc k))))) l = absurd (omega arith)

  pub count_by_length : (length bytes - header_length) / 4 ≡ count_of bytes
  count_by_length = rw a.counted (omega arith)

pub accepted : (bytes : List ℕ) → judge_record bytes ≡ Ok tt → Accepted bytes
unfolding judge_record header_of
accepted bytes e =
    let n = (header_of bytes).block.subdivisions in
    let length_passed = both_passed _ _ e in
    let version-passed = both_passed _ _ length_passed.1 in
    let subdivisions-passed = both_passed _ _ version-passed.1 in
    let mask-passed = both_passed _ _ subdivisions-passed.1 in
    let measures-passed = both_passed _ _ mask-passed.1 in
    let count-passed = both_passed _ _ measures-passed.1 in
    let whole = (and-eq-true_iff (leb header_length (length bytes)) (eqb (word_at bytes 0) (length bytes - 4))).0 (unless_passed _ RecordLength length_passed.0) in
    let ranged = (and-eq-true_iff (leb 1 n) (leb n most_subdivisions)).0 (unless_passed _ (Subdivisions n) subdivisions-passed.0) in
    let long = leb-true header_length (length bytes) whole.0 in
    let counted = eqb-true (length bytes - header_length) (4 * count_of bytes) (unless_passed _ (SampleCount (count_of bytes)) count-passed.0) in
    record {
      long = long;
      told = eqb-true (word_at bytes 0) (length bytes - 4) whole.1;
      version = eqb-true (get_or bytes version_at 0) 1 (unless_passed _ (Version (get_or bytes version_at 0)) version-passed.0);
      some = leb-true 1 n ranged.0;
      few = leb-true n most_subdivisions ranged.1;
      sides = leb-true (header_of bytes).mask most_mask (unless_passed _ (Mask (header_of bytes).mask) mask-passed.0);
      measures = measures-passed.0;
      counted = omega arith;
      usable_samples = λ k h.
          ap usable (sym (sample_is bytes k h))
          ∙ samples_usable (samples_of bytes) k count-passed.1 (rw (length_samples bytes) h);
    }

pub passes : (bytes : List ℕ) → Accepted bytes → judge_record bytes ≡ Ok tt
unfolding judge_record header_of
passes bytes a =
    let n = (header_of bytes).block.subdivisions in
    let counted : length bytes - header_length ≡ 4 * count_of bytes = omega (arith, a.counted) in
    let samples : judge_samples (samples_of bytes) ≡ Ok tt =
    samples_pass (samples_of bytes)
    (λ k h. let l : k < count_of bytes = rw (length_samples bytes) at h in ap usable (sample_is bytes k l) ∙ a.usable_samples k l) in
    rw (
      le-leb header_length (length bytes) a.long,
      eq-eqb (word_at bytes 0) (length bytes - 4) a.told,
      eq-eqb (get_or bytes version_at 0) 1 a.version,
      le-leb 1 n a.some,
      le-leb n most_subdivisions a.few,
      le-leb (header_of bytes).mask most_mask a.sides,
      a.measures,
      eq-eqb (length bytes - header_length) (4 * count_of bytes) counted,
      samples,
    )
