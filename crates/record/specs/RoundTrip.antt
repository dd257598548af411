-- Document 01, 'Block record': reading then writing gives the same bytes, and writing then reading the same block.
use Rattle.std.specs.Prelude.{ℕ, ◌+◌, ◌*◌, ◌≤◌, ◌<◌, ◌≡◌, refl, Bool, true, false, cond, leb, Float, Err, Ok}
use Rattle.std.proofs.Common.{zero-le, mul-le-mul_right, arith, sym, ap₂, ◌∙◌, subst, length-drop, take_at}
use Rattle.std.proofs.Math.Path.{ap}
use mathlib.Core.List.{List, ◌++◌}
use borrow.Author.Tests.{le-leb, eq-eqb}
use Rattle.std.specs.Int.Count.{ones}
use Rattle.std.specs.Float.{nan}
use Rattle.std.proofs.Math.ListN.{length, get_or, take, drop, length-append, take-append-drop}
use Rattle.std.proofs.lemmas.List.{take-append-le, drop-append-le}
use Rattle.std.proofs.Math.Seq.{length-take-le}
use Rattle.model.specs.declared.Header.{Header}
use Rattle.model.specs.declared.Refusal.TheVariants.{MissingNeighbour}
use Rattle.model.specs.Answers.{Verdict}
use Rattle.laws.specs.Steps.{laid}
use Rattle.model.specs.Samples.{sample_length}
use Rattle.model.specs.Limits.{most_subdivisions, most_mask, side_count}
use Rattle.model.specs.Sides.{named, named_below, neighbour_length, neighbours_length, sample_count}
use Rattle.model.specs.Refusals.{unless, or_else}
use Rattle.model.specs.Star.{Star, star}
use Rattle.model.specs.Judging.{judge_measures, judge_missing, side_there, usable, judge_samples, judge_buffer, judge_lent, judge_star}
use Rattle.model.specs.Record.{sample_from, count_of, header_of, samples_of, star_of, record_of, read_record, write_answer, write_record}
use Rattle.grid.specs.Counts.{most_samples, count_small}
use Rattle.grid.specs.Shape.{Shaped}
use Rattle.grid.specs.SideLaws.{named_below_lem}
use Rattle.judge.specs.First.{both_passed, passed_over_lem}
use Rattle.judge.specs.Passing.{star_measures, star_samples, star_shaped}
use Rattle.judge.specs.Usable.{samples_usable, samples_pass}
use Rattle.words.specs.Orders.{Bytes}
use Rattle.words.specs.Floats.{Fit}
use Rattle.record.specs.Accepted.{Accepted, passes, length_samples, sample_is}
use Rattle.record.specs.Reading.{was_read}
use Rattle.record.specs.Bytes.{measures_of, length_record, length_told, version_told, header_back, samples_back, record_back}

-- ---- reading then writing

-- no neighbour is missing of a list that is long enough
none_missing : (n mask held : ℕ) → mask ≤ most_mask → neighbours_length n mask ≤ held → judge_missing n mask held ≡ Ok tt
unfolding judge_missing
none_missing n mask held sides h = passed_over_lem (side_there n mask held) 0 side_count refl (λ side from l. by side l (named mask side) refl) zero-le
  where
    by : (side : ℕ) → side < side_count → (b : Bool) → named mask side ≡ b
        → cond b (unless (leb ((named_below mask side + 1) * neighbour_length n) held) (MissingNeighbour side)) (Ok tt) ≡ Ok tt
    by side l true e =
        let fits : (named_below mask side + 1) * neighbour_length n ≤ ones mask * neighbour_length n =
        mul-le-mul_right (neighbour_length n) (omega (arith, named_below_lem mask side sides l e)) in
        rw (le-leb ((named_below mask side + 1) * neighbour_length n) held (omega arith))
    by side l false e = refl

module _ (bytes : List ℕ) (a : Accepted bytes) where
  abbrev n : ℕ
  n = (header_of bytes).block.subdivisions

  abbrev mask : ℕ
  mask = (header_of bytes).mask

  pub star_passes : (centre neighbours : List Float) → centre ++ neighbours ≡ samples_of bytes → length centre ≡ sample_length n
      → judge_star (star (header_of bytes) centre neighbours) ≡ Ok tt
  unfolding judge_lent judge_star header_of
  star_passes centre neighbours whole centre_is =
      let neighbours_are : length neighbours ≡ neighbours_length n mask =
      omega (arith, length-append centre neighbours, ap length whole, length_samples bytes) in
      let samples : judge_samples (centre ++ neighbours) ≡ Ok tt =
      ap judge_samples whole
      ∙ samples_pass (samples_of bytes)
      (λ k h. let l : k < count_of bytes = rw (length_samples bytes) at h in ap usable (sample_is bytes k l) ∙ a.usable_samples k l) in
      rw (
        le-leb 1 n a.some,
        le-leb n most_subdivisions a.few,
        le-leb mask most_mask a.sides,
        a.measures,
        eq-eqb (length centre) (sample_length n) centre_is,
        none_missing n mask (length neighbours) a.sides (omega arith),
        le-leb (length neighbours) (neighbours_length n mask) (omega arith),
        samples,
      )

  -- the two parts of what was read, whatever stands beyond
  centre_part : (beyond : List Float) → take (sample_length n) (samples_of bytes ++ beyond) ≡ take (sample_length n) (samples_of bytes)
  centre_part beyond = take-append-le (sample_length n) (samples_of bytes) beyond (rw (length_samples bytes) (omega arith))

  neighbours_part : (beyond : List Float) → take (neighbours_length n mask) (drop (sample_length n) (samples_of bytes ++ beyond)) ≡ drop (sample_length n) (samples_of bytes)
  neighbours_part beyond =
      ap (take (neighbours_length n mask)) (drop-append-le (sample_length n) (samples_of bytes) beyond (rw (length_samples bytes) (omega arith)))
      ∙ take_at (drop (sample_length n) (samples_of bytes)) beyond (neighbours_length n mask) (rw (length-drop, length_samples bytes) (omega arith))

  written : Bytes bytes → (out : List ℕ) → length bytes ≤ length out
      → write_record (header_of bytes) (take (sample_length n) (samples_of bytes)) (drop (sample_length n) (samples_of bytes)) out
      ≡ record { answer = Ok (length bytes); bytes = laid bytes out }
  unfolding header_of write_record
  written small out room =
      let centre = take (sample_length n) (samples_of bytes) in
      let neighbours = drop (sample_length n) (samples_of bytes) in
      let whole : centre ++ neighbours ≡ samples_of bytes = take-append-drop (sample_length n) (samples_of bytes) in
      let long : sample_from (length (samples_of bytes)) ≡ length bytes = rw (length_samples bytes) (sym a.counted) in
      let centre_is : length centre ≡ sample_length n = length-take-le (sample_length n) (samples_of bytes) (rw (length_samples bytes) (omega arith)) in
      rw (
        star_passes centre neighbours whole centre_is,
        whole,
        le-leb (sample_from (length (samples_of bytes))) (length out) (omega arith),
        record_back bytes small a,
        long,
      )

-- what was read is the record's block
pub read_star : (bytes : List ℕ) (samples : List Float) (h : Header) → (read_record bytes samples).answer ≡ Ok h
    → let n = h.block.subdivisions in
    let read = (read_record bytes samples).samples in
    star h (take (sample_length n) read) (take (neighbours_length n h.mask) (drop (sample_length n) read)) ≡ star_of bytes
read_star bytes samples h e =
    let was = was_read bytes samples h e in
    let beyond = drop (length (samples_of bytes)) samples in
    let read = (read_record bytes samples).samples in
    let c = sample_length (header_of bytes).block.subdivisions in
    let k = neighbours_length (header_of bytes).block.subdivisions (header_of bytes).mask in
    subst
    (λ (h : Header).
    star h (take (sample_length h.block.subdivisions) read)
    (take (neighbours_length h.block.subdivisions h.mask) (drop (sample_length h.block.subdivisions) read)) ≡ star_of bytes)
    was.header_is
    (ap₂ (star (header_of bytes)) (ap (take c) was.filled ∙ centre_part bytes was.whole beyond)
    (ap (λ (r : List Float). take k (drop c r)) was.filled ∙ neighbours_part bytes was.whole beyond))

pub read_write : (bytes : List ℕ) (samples : List Float) (out : List ℕ) (h : Header)
    → Bytes bytes → (read_record bytes samples).answer ≡ Ok h → length bytes ≤ length out
    → let n = h.block.subdivisions in
    let read = (read_record bytes samples).samples in
    write_record h (take (sample_length n) read) (take (neighbours_length n h.mask) (drop (sample_length n) read)) out
    ≡ record { answer = Ok (length bytes); bytes = laid bytes out }
read_write bytes samples out h small e room =
    ap (λ (s : Star). write_record (record { block = s.block; mask = s.mask; threshold = s.threshold }) s.centre s.neighbours out)
    (read_star bytes samples h e)
    ∙ written bytes (was_read bytes samples h e).whole small out room

-- ---- writing then reading

module _ (h : Header) (centre neighbours : List Float) (fit-measures : Fit (measures_of h)) (fit : Fit (centre ++ neighbours))
    (passed : judge_star (star h centre neighbours) ≡ Ok tt) (shaped : Shaped (star h centre neighbours)) where
  abbrev samples : List Float
  samples = centre ++ neighbours

  abbrev bytes : List ℕ
  bytes = record_of h samples

  header_is : header_of bytes ≡ h
  header_is = header_back h samples fit-measures fit

  n_is : (header_of bytes).block.subdivisions ≡ h.block.subdivisions
  unfolding header_of
  n_is = ap (λ (k : Header). k.block.subdivisions) header_is

  mask_is : (header_of bytes).mask ≡ h.mask
  unfolding header_of
  mask_is = ap (λ (k : Header). k.mask) header_is

  count_is : count_of bytes ≡ length samples
  count_is = ap₂ sample_count n_is mask_is ∙ sym (rw (length-append, shaped.centre_is, shaped.neighbours_are))

  samples_are : samples_of bytes ≡ samples
  samples_are = samples_back h samples fit-measures fit count_is

  read_back : Accepted bytes
  unfolding header_of
  read_back =
      let n = h.block.subdivisions in
      let long = length_record h samples in
      let few : length samples ≤ most_samples = rw (← count_is, n_is, mask_is) (count_small n h.mask shaped.few shaped.sides) in
      record {
        long = omega arith;
        told = length_told h samples (omega arith) ∙ rw long (omega arith);
        version = version_told h samples;
        some = rw n_is shaped.some;
        few = rw n_is shaped.few;
        sides = rw mask_is shaped.sides;
        measures = ap (λ (k : Header). judge_measures k.block k.threshold) header_is ∙ star_measures (star h centre neighbours) passed;
        counted = rw count_is long;
        usable_samples = λ k l.
            ap usable (sym (sample_is bytes k l) ∙ ap (λ (s : List Float). get_or s k nan) samples_are)
            ∙ samples_usable samples k (star_samples (star h centre neighbours) passed) (rw (← count_is) l);
      }

-- bytes are answered only for a block that passes
wrote : (h : Header) (samples : List Float) (out : List ℕ) (k : ℕ) (v : Verdict) → (write_answer h samples out v).answer ≡ Ok k
    → (v ≡ Ok tt) × (sample_from (length samples) ≡ k)
wrote h samples out k (Ok _) e = (refl, cc)
wrote h samples out k (Err r) e = (cc, cc)

pub write_read : (h : Header) (centre neighbours : List Float) (out : List ℕ) (samples : List Float) (k : ℕ)
    → Fit (measures_of h) → Fit (centre ++ neighbours)
    → (write_record h centre neighbours out).answer ≡ Ok k → length (centre ++ neighbours) ≤ length samples
    → read_record (take k (write_record h centre neighbours out).bytes) samples
    ≡ record { answer = Ok h; samples = laid (centre ++ neighbours) samples }
unfolding read_record write_record
write_read h centre neighbours out samples k fit-measures fit e room =
    let s = star h centre neighbours in
    let written = wrote h (centre ++ neighbours) out k (or_else (judge_star s) (judge_buffer (sample_from (length (centre ++ neighbours))) (length out))) e in
    let passed = (both_passed (judge_star s) _ written.0).0 in
    let shaped = star_shaped s passed in
    let bytes = record_of h (centre ++ neighbours) in
    let taken : take k (write_record h centre neighbours out).bytes ≡ bytes =
    ap (λ (v : Verdict). take k (write_answer h (centre ++ neighbours) out v).bytes) written.0
    ∙ take_at bytes (drop (length bytes) out) k (length_record h (centre ++ neighbours) ∙ written.1) in
    let a = read_back h centre neighbours fit-measures fit passed shaped in
    let count = count_is h centre neighbours fit-measures fit passed shaped in
    ap (λ (b : List ℕ). read_record b samples) taken
    ∙ rw (passes bytes a, count, le-leb (length (centre ++ neighbours)) (length samples) room, header_is h centre neighbours fit-measures fit passed shaped, samples_are h centre neighbours fit-measures fit passed shaped)
