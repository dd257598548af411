-- The point read, of samples and of a record, and the viewer's three calls, by the two things that their judges can come to, passed and refused.
use Rattle.std.specs.Prelude.{ℕ, ◌^◌, ◌≤◌, ◌<◌, ◌≡◌, Bool, true, false, cond, List, T, leb, ℤ, Float, length, Err, Ok}
use Rattle.std.proofs.Math.Decide.{dec_lt}
use Rattle.std.proofs.Common.{arith, sym, ap, ◌∙◌, leb-true}
use Rattle.std.proofs.Math.Path.{refl}
use Rattle.std.proofs.Math.Bool.{and-eq-true_iff}
use Rattle.std.specs.Float.Ieee as Ieee
use Rattle.std.specs.Float.Ieee.{nan, fits}
use Rattle.std.specs.Float.{binary32}
use Rattle.std.specs.Float.Ieee.Bits.{to_bits-lt, of_bits-fits}
use Rattle.std.proofs.Math.ListN.{get_or, get_or-eq_default}
use Rattle.laws.specs.Steps.{listed}
use Rattle.laws.specs.Lists.{length_listed, get_d_listed}
use Rattle.model.specs.declared.PlaceKind.{PlaceKind}
use Rattle.model.specs.Answers.{Reading}
use Rattle.model.specs.declared.Refusal.TheVariants.{Subdivisions, PointNeverSampled}
use Rattle.model.specs.Answers.{Verdict}
use Rattle.model.specs.Answers.{PointRead}
use Rattle.model.specs.Samples.{place_of, sampled, outside_count, reading_at, value_of, value_at, one_up}
use Rattle.model.specs.Limits.{most_subdivisions}
use Rattle.model.specs.Refusals.{unless, or_else}
use Rattle.model.specs.Judging.{judge_subdivisions, judge_centre}
use Rattle.model.specs.Extraction.{point_answer, read_point}
use Rattle.model.specs.Record.{header_of, count_of, samples_of, judge_length, judge_version, judge_record}
use Rattle.model.specs.Viewer.{packed, record_point, point_bits, sample_answer}
use Rattle.grid.specs.Places.{value_is}
use Rattle.judge.specs.First.{both_passed, unless_passed}
use Rattle.promises.specs.Orders.{Judge, in_order, Numbered, Judged, Packed, record_judges, point_judge, point_judges, sample_judges}
use Rattle.promises.specs.Points.{point_value, point_kind}
use Rattle.promises.proofs.Judges.{judged, record_in_order, point_in_order, sample_in_order, record_numbered, point_numbered, sample_numbered}

abbrev reading_if : Bool → Float → PlaceKind → ℕ → Reading
reading_if b x kind count = cond b (Ok (x, kind)) (Err count)

abbrev and_point : Verdict → Bool → ℕ → Verdict
and_point v b count = or_else v (unless b (PointNeverSampled count))

-- what a point read says of its judges' verdict, the point's own among them
abbrev point_of : Float → PlaceKind → Verdict → PointRead
point_of x kind (Ok _) = Ok (x, kind)
point_of x kind (Err r) = Err r

point_of_lem : (v : Verdict) (b : Bool) (x : Float) (kind : PlaceKind) (count : ℕ)
    → let read = reading_if b x kind count in
    point_answer v read ≡ point_of (value_of read) kind (and_point v b count)
point_of_lem (Err q) b x kind count = refl
point_of_lem (Ok _) true x kind count = refl
point_of_lem (Ok _) false x kind count = refl

-- a point's answer by any verdict that is come to before 15
module _ (n : ℕ) (samples : List Float) (x y z : ℤ) (v : Verdict) (judges : List Judge) (numbered : Numbered judges)
    (order : in_order judges ≡ or_else v (point_judge n x y z).says) where
  abbrev answer : PointRead
  answer = point_answer v (reading_at n samples (one_up n x) (one_up n y) (one_up n z))

  point_judged : Judged judges (λ r. answer ≡ Err r) (answer ≡ Ok (point_value n samples x y z, point_kind n x y z))
  unfolding reading_at value_at
  point_judged =
      let b = sampled n (one_up n x) (one_up n y) (one_up n z) in
      let count = outside_count n (one_up n x) (one_up n y) (one_up n z) in
      let stored = get_or samples (place_of n (one_up n x) (one_up n y) (one_up n z)) nan in
      let kind = point_kind n x y z in
      let value = point_value n samples x y z in
      rw (point_of_lem v b stored kind count)
      (judged Err (Ok (value, kind)) (point_of value kind) refl (λ r. refl) (λ q r e. cc) (λ r e. cc) judges
      (and_point v b count) order numbered)

pub point : (n : ℕ) (samples : List Float) (x y z : ℤ)
    → Judged (point_judges n samples x y z) (λ r. read_point n samples x y z ≡ Err r)
    (read_point n samples x y z ≡ Ok (point_value n samples x y z, point_kind n x y z))
unfolding read_point
point n samples x y z =
    point_judged n samples x y z (or_else (judge_subdivisions n) (judge_centre n (length samples))) (point_judges n samples x y z)
    (point_numbered n samples x y z) (point_in_order n samples x y z)

pub record_point_lem : (bytes : List ℕ) (x y z : ℤ)
    → let n = (header_of bytes).block.subdivisions in
    Judged (sample_judges bytes x y z) (λ r. record_point bytes x y z ≡ Err r)
    (record_point bytes x y z ≡ Ok ((point_value n (samples_of bytes) x y z), (point_kind n x y z)))
unfolding record_point
record_point_lem bytes x y z =
    point_judged (header_of bytes).block.subdivisions (samples_of bytes) x y z (judge_record bytes) (sample_judges bytes x y z)
    (sample_numbered bytes x y z) (sample_in_order bytes x y z)

pub packed_record : (bytes : List ℕ) (base value : ℕ) → (in_order (record_judges bytes) ≡ Ok tt → value < base)
    → Packed (record_judges bytes) base value (packed base (judge_record bytes) value)
packed_record bytes base value apart =
    let order = record_in_order bytes in
    record {
      numbered = record_numbered bytes;
      refused = λ r e. ap (λ (v : Verdict). packed base v value) (sym order ∙ e);
      accepted = λ e. ap (λ (v : Verdict). packed base v value) (sym order ∙ e);
      apart = apart;
    }

-- a record's subdivisions, whether it is blank, and a sample's bits lie below the bases
pub subdivisions_apart : (bytes : List ℕ) → in_order (record_judges bytes) ≡ Ok tt → (header_of bytes).block.subdivisions < 100
subdivisions_apart bytes e =
    let n = (header_of bytes).block.subdivisions in
    let past-11 = (both_passed (judge_length bytes) _ e).1 in
    let past-12 = (both_passed (judge_version bytes) _ past-11).1 in
    let ranged = unless_passed _ (Subdivisions n) (both_passed (judge_subdivisions n) _ past-12).0 in
    let few = leb-true n most_subdivisions ((and-eq-true_iff (leb 1 n) (leb n most_subdivisions)).0 ranged).1 in
    omega arith

pub blank_apart : (b : Bool) → cond {A = ℕ} b 1 0 < 100
blank_apart true = omega arith
blank_apart false = omega arith

listed_fits : (f : ℕ → Float) (n k : ℕ) → ((j : ℕ) → T (fits binary32 (f j))) → T (fits binary32 (get_or (listed f n) k nan))
unfolding fits
listed_fits f n k each = go (dec_lt k n)
  where
    go : Dec (k < n) → T (fits binary32 (get_or (listed f n) k nan))
    go (yes l) = rw (get_d_listed f n k nan l) (each k)
    go (no l) =
        let past : length (listed f n) ≤ k = omega (arith, length_listed f n) in
        rw (get_or-eq_default (listed f n) nan past) tt

sample_apart : (bytes : List ℕ) (k : ℕ) → Ieee.to_bits binary32 (get_or (samples_of bytes) k nan) < 2 ^ 32
unfolding samples_of
sample_apart bytes k = to_bits-lt binary32 _ (listed_fits _ (count_of bytes) k (λ j. of_bits-fits binary32 _))

-- accepted, the point was sampled
accepted_sampled : (bytes : List ℕ) (x y z : ℤ) → in_order (sample_judges bytes x y z) ≡ Ok tt
    → let n = (header_of bytes).block.subdivisions in sampled n (one_up n x) (one_up n y) (one_up n z) ≡ true
accepted_sampled bytes x y z e = unless_passed _ _ (both_passed (judge_record bytes) _ (sym (sample_in_order bytes x y z) ∙ e)).1

pub viewer_sample : (bytes : List ℕ) (x y z : ℤ)
    → Packed (sample_judges bytes x y z) (2 ^ 32)
    (Ieee.to_bits binary32 (point_value (header_of bytes).block.subdivisions (samples_of bytes) x y z)) (sample_answer bytes x y z)
unfolding sample_answer
viewer_sample bytes x y z =
    let n = (header_of bytes).block.subdivisions in
    let is = record_point_lem bytes x y z in
    record {
      numbered = sample_numbered bytes x y z;
      refused = λ r e. ap point_bits ((is.refused_by_first r).1 e);
      accepted = λ e. ap point_bits (is.accepted_by_all.1 e);
      apart = λ e.
          rw (value_is n (one_up n x) (one_up n y) (one_up n z) (samples_of bytes) (accepted_sampled bytes x y z e))
          (sample_apart bytes (place_of n (one_up n x) (one_up n y) (one_up n z)));
    }
