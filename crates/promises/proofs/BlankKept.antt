-- What was promised of blank holds: blankness has it of a block, and here it is carried to the records that hold one.
use Rattle.std.specs.Prelude.{ℕ, ◌+◌, ◌*◌, ◌≡◌, refl, Bool, true, false, cond, ◌||◌, List, ◌↔◌, eqb, Float, length, take, drop, Err, Ok}
use Rattle.std.proofs.Common.{arith, sym, ◌∙◌, subst, take-append-drop, length-take-le, get_or-take}
use Rattle.std.proofs.Math.Path.{ap}
use Rattle.std.specs.Float.{nan}
use Rattle.laws.specs.Sums.{total_same}
use Rattle.model.specs.declared.Counts.{Counts}
use Rattle.model.specs.declared.Header.{Header}
use Rattle.model.specs.Answers.{Verdict}
use Rattle.model.specs.Samples.{sample_length}
use Rattle.model.specs.Formulas.{inside_bit}
use Rattle.model.specs.Star.{Star, star}
use Rattle.model.specs.Judging.{judge_star, judge_faces}
use Rattle.model.specs.Record.{header_of, samples_of, star_of, judge_record, read_record}
use Rattle.model.specs.Blank.{is_blank, blank_before}
use Rattle.model.specs.Viewer.{packed, blank_answer, blank_answer_before}
use Rattle.record.specs.Accepted.{accepted, passes, length_samples}
use Rattle.record.specs.Reading.{was_read}
use Rattle.record.specs.RoundTrip.{star_passes, read_star}
use Rattle.blankness.proofs.Theorems.{blank_none, blank_exactly, mask_zero}
use Rattle.promises.specs.Left.{Lent, answered, counts, centre_of, neighbours_of}
use Rattle.promises.specs.Orders.{in_order, block_judges, record_judges}
use Rattle.promises.specs.Blank.{BlankPromises}
use Rattle.promises.proofs.Judges.{block_in_order, record_in_order}
use Rattle.promises.proofs.Extracted.{faces_passed, equal_mesh}

-- one number of two, and one that is no refusal's
is_one : (b : Bool) → (cond {A = ℕ} b 1 0 ≡ 1) ↔ (b ≡ true)
is_one true = (λ e. refl, λ e. refl)
is_one false = (λ e. absurd (omega arith), λ e. cc)

accepted_one : (v : Verdict) (b : Bool) → packed 100 v (cond b 1 0) ≡ 1 → b ≡ true
accepted_one (Ok _) b e = (is_one b).0 e
accepted_one (Err r) b e = absurd (omega arith)

module _ (bytes : List ℕ) where
  judged : in_order (record_judges bytes) ≡ Ok tt → judge_record bytes ≡ Ok tt
  judged e = sym (record_in_order bytes) ∙ e

  pub block_passed : judge_record bytes ≡ Ok tt → judge_star (star_of bytes) ≡ Ok tt
  block_passed e =
      let own = sample_length (header_of bytes).block.subdivisions in
      let long : length (take own (samples_of bytes)) ≡ own = length-take-le own (samples_of bytes) (rw (length_samples bytes) (omega arith)) in
      star_passes bytes (accepted bytes e) (take own (samples_of bytes)) (drop own (samples_of bytes)) (take-append-drop own (samples_of bytes)) long

  block_passes : in_order (record_judges bytes) ≡ Ok tt → in_order (block_judges (star_of bytes)) ≡ Ok tt
  block_passes e = block_in_order (star_of bytes) ∙ block_passed (judged e)

  exactly : judge_record bytes ≡ Ok tt → judge_faces (star_of bytes) ≡ Ok tt → (blank_answer bytes ≡ 1) ↔ ((counts (star_of bytes)).triangles ≡ 0)
  unfolding blank_answer
  exactly passed agree =
      let blank = blank_exactly (star_of bytes) (accepted bytes passed).some agree in
      let one = is_one (is_blank (star_of bytes)) in
      rw passed (λ e. blank.0 (one.0 e), λ none. one.1 (blank.1 none))

  nothing_skipped : blank_answer bytes ≡ 1 → (counts (star_of bytes)).triangles ≡ 0
  unfolding blank_answer
  nothing_skipped e = blank_none (star_of bytes) (accepted_one (judge_record bytes) (is_blank (star_of bytes)) e)

  -- the centre's in-block samples are the record's first
  same_before : let m = (header_of bytes).block.subdivisions + 1 in
      blank_before (m * m * m) (header_of bytes).threshold (star_of bytes).centre ≡ blank_before (m * m * m) (header_of bytes).threshold (samples_of bytes)
  same_before =
      let m = (header_of bytes).block.subdivisions + 1 in
      let t = (header_of bytes).threshold in
      ap (λ (insides : ℕ). cond {A = ℕ} (eqb insides 0 || eqb insides (m * m * m)) 1 0)
      (total_same _ _ (m * m * m)
      (λ k h. ap (inside_bit t) (get_or-take (sample_length (header_of bytes).block.subdivisions) (samples_of bytes) k nan (omega arith))))

  as_before : (header_of bytes).mask ≡ 0 → blank_answer bytes ≡ blank_answer_before bytes
  unfolding blank_answer blank_answer_before
  as_before e = ap (packed 100 (judge_record bytes)) (mask_zero (star_of bytes) e ∙ same_before)

  by_calls : (samples : List Float) (h : Header) (lent : Lent) (c : Counts) → (read_record bytes samples).answer ≡ Ok h
      → let read = (read_record bytes samples).samples in
      answered (star h (centre_of h read) (neighbours_of h read)) lent ≡ Ok c → (blank_answer bytes ≡ 1) ↔ (c.triangles ≡ 0)
  by_calls samples h lent c read made =
      let passed = passes bytes (was_read bytes samples h read).whole in
      let mesh = subst (λ (s : Star). answered s lent ≡ Ok c) (read_star bytes samples h read) made in
      rw (equal_mesh (star_of bytes) lent c mesh).counted (exactly passed (faces_passed (star_of bytes) lent c mesh))

pub blank_kept : BlankPromises
blank_kept =
    record {
      passes = block_passes;
      exactly = λ bytes passed agree. exactly bytes (judged bytes passed) agree;
      by_calls = by_calls;
      nothing_skipped = nothing_skipped;
      as_before = as_before;
    }
