-- The reader and the writer, by the two things that their judges can come to, passed and refused.
use Rattle.std.specs.Prelude.{ℕ, ◌+◌, ◌*◌, ◌≡◌, List, ◌++◌, Float, Err, Ok}
use Rattle.std.proofs.Common.{arith, sym, ◌∙◌}
use Rattle.std.proofs.Math.Path.{refl, ap, subst}
use borrow.Author.Tests.{leb-true}
use Rattle.std.proofs.Math.ListN.{length}
use Rattle.laws.specs.Lists.{length_listed, length_each}
use Rattle.model.specs.declared.Header.{Header}
use Rattle.model.specs.declared.Refusal.{Refusal}
use Rattle.model.specs.declared.Refusal.TheVariants.{BufferTooShort}
use Rattle.model.specs.Answers.{Verdict}
use Rattle.model.specs.Refusals.{or_else}
use Rattle.model.specs.Star.{star}
use Rattle.model.specs.Judging.{judge_star, judge_buffer}
use Rattle.model.specs.Words.{word_bytes, float_bytes}
use Rattle.model.specs.Record.{header_length, header_of, count_of, samples_of, judge_record, ReadOutcome, read_answer, read_record, record_of, WriteOutcome, write_answer, write_record}
use Rattle.judge.specs.First.{both_passed, unless_passed}
use Rattle.promises.specs.Left.{Laid}
use Rattle.promises.specs.Orders.{Judged, writing_judges, reading_judges}
use Rattle.promises.proofs.Judges.{judged, reading_in_order, writing_in_order, writing_numbered, reading_numbered}
use Rattle.promises.proofs.ReadBack.{is_laid}

-- ---- reading

module _ (bytes : List ℕ) (samples : List Float) where
  abbrev read : Verdict → ReadOutcome
  read = read_answer bytes samples

  abbrev read_verdict : Verdict
  read_verdict = or_else (judge_record bytes) (judge_buffer (count_of bytes) (length samples))

  read_answered : (v : Verdict) (h : Header) → (read v).answer ≡ Ok h → v ≡ Ok tt
  read_answered (Ok _) h e = refl
  read_answered (Err q) h e = cc

  pub reading : Judged (reading_judges bytes samples) (λ r. (read_record bytes samples).answer ≡ Err r)
      ((read_record bytes samples).answer ≡ Ok (header_of bytes))
  unfolding read_record
  reading =
      judged Err (Ok (header_of bytes)) (λ v. (read v).answer) refl (λ r. refl) (λ q r e. cc) (λ r e. cc)
      (reading_judges bytes samples) read_verdict (reading_in_order bytes samples) (reading_numbered bytes samples)

  pub reading_untouched : (r : Refusal) → (read_record bytes samples).answer ≡ Err r → (read_record bytes samples).samples ≡ samples
  unfolding read_record
  reading_untouched r e = ap (λ (v : Verdict). (read v).samples) (sym (reading_in_order bytes samples) ∙ (reading.refused_by_first r).0 e)

  pub samples_laid : (h : Header) → (read_record bytes samples).answer ≡ Ok h
      → Laid (count_of bytes) (samples_of bytes) samples (read_record bytes samples).samples
  unfolding read_record samples_of
  samples_laid h e =
      let passed = read_answered read_verdict h e in
      let fits = leb-true (count_of bytes) (length samples) (unless_passed _ (BufferTooShort (count_of bytes)) (both_passed (judge_record bytes) _ passed).1) in
      subst (Laid (count_of bytes) (samples_of bytes) samples) (sym (ap (λ (v : Verdict). (read v).samples) passed))
      (is_laid _ _ _ (length_listed _ (count_of bytes)) fits)

-- ---- writing

module _ (h : Header) (centre neighbours : List Float) (bytes : List ℕ) where
  abbrev all : List Float
  all = centre ++ neighbours

  abbrev written : Verdict → WriteOutcome
  written = write_answer h all bytes

  abbrev written_verdict : Verdict
  written_verdict =
      or_else (judge_star (star h centre neighbours)) (judge_buffer (header_length + 4 * length all) (length bytes))

  write_answered : (v : Verdict) (k : ℕ) → (written v).answer ≡ Ok k → (v ≡ Ok tt) × (k ≡ header_length + 4 * length all)
  write_answered (Ok _) k e = (refl, cc)
  write_answered (Err q) k e = (cc, cc)

  pub writing : Judged (writing_judges h centre neighbours bytes) (λ r. (write_record h centre neighbours bytes).answer ≡ Err r)
      ((write_record h centre neighbours bytes).answer ≡ Ok (header_length + 4 * length all))
  unfolding write_record
  writing =
      judged Err (Ok (header_length + 4 * length all)) (λ v. (written v).answer) refl (λ r. refl) (λ q r e. cc) (λ r e. cc)
      (writing_judges h centre neighbours bytes) written_verdict (writing_in_order h centre neighbours bytes) (writing_numbered h centre neighbours bytes)

  pub writing_untouched : (r : Refusal) → (write_record h centre neighbours bytes).answer ≡ Err r
      → (write_record h centre neighbours bytes).bytes ≡ bytes
  unfolding write_record
  writing_untouched r e = ap (λ (v : Verdict). (written v).bytes) (sym (writing_in_order h centre neighbours bytes) ∙ (writing.refused_by_first r).0 e)

  record_long : length (record_of h all) ≡ header_length + 4 * length all
  unfolding record_of word_bytes
  record_long = omega (arith, length_each float_bytes 4 all (λ x. refl))

  pub bytes_laid : (k : ℕ) → (write_record h centre neighbours bytes).answer ≡ Ok k
      → Laid k (record_of h all) bytes (write_record h centre neighbours bytes).bytes
  unfolding write_record
  bytes_laid k e =
      let a = write_answered written_verdict k e in
      let wanted = header_length + 4 * length all in
      let fits = leb-true wanted (length bytes) (unless_passed _ (BufferTooShort wanted) (both_passed (judge_star (star h centre neighbours)) _ a.0).1) in
      rw a.1 (subst (Laid wanted (record_of h all) bytes) (sym (ap (λ (v : Verdict). (written v).bytes) a.0)) (is_laid _ _ _ record_long fits))
