-- What holds of a block that was read: the record passed, its samples fit the list that was lent, and they are what its first places hold.
-- Assumes nothing.
use Rattle.std.specs.Prelude.{ℕ, ◌≤◌, ◌≡◌, refl, List, Float, length, Err, Ok}
use Rattle.std.proofs.Common.{sym, ap, ◌∙◌}
use Rattle.model.specs.declared.Header.{Header}
use Rattle.model.specs.Answers.{Verdict}
use Rattle.model.specs.Answers.{RecordRead}
use Rattle.laws.specs.Steps.{laid}
use Rattle.laws.specs.Lists.{length_laid}
use Rattle.model.specs.Limits.{most_subdivisions, most_mask}
use Rattle.model.specs.Sides.{sample_count}
use Rattle.model.specs.Refusals.{or_else}
use Rattle.model.specs.Judging.{judge_buffer}
use Rattle.model.specs.Record.{header_of, count_of, samples_of, judge_record, ReadOutcome, read_answer, read_record}
use Rattle.judge.specs.First.{both_passed}
use Rattle.record.specs.Accepted.{Accepted, accepted, length_samples}
use Rattle.record.specs.ReadingOrder.{buffer_holds}

-- a block is answered only by a record that passes
answered : (bytes : List ℕ) (samples : List Float) (h : Header) (v : Verdict) → (read_answer bytes samples v).answer ≡ Ok h
    → (v ≡ Ok tt) × (header_of bytes ≡ h)
answered bytes samples h (Ok _) e = (refl, cc)
answered bytes samples h (Err r) e = (cc, cc)

pub record WasRead (bytes : List ℕ) (samples : List Float) (h : Header) : Type 0 where
  pub header_is : header_of bytes ≡ h
  pub whole : Accepted bytes
  pub room : count_of bytes ≤ length samples
  pub filled : (read_record bytes samples).samples ≡ laid (samples_of bytes) samples

pub was_read : (bytes : List ℕ) (samples : List Float) (h : Header) → (read_record bytes samples).answer ≡ Ok h → WasRead bytes samples h
unfolding read_record
was_read bytes samples h e =
    let judged = or_else (judge_record bytes) (judge_buffer (count_of bytes) (length samples)) in
    let told = answered bytes samples h judged e in
    let passed = both_passed (judge_record bytes) _ told.0 in
    record {
      header_is = told.1;
      whole = accepted bytes passed.0;
      room = buffer_holds (count_of bytes) (length samples) passed.1;
      filled = ap (λ (v : Verdict). (read_answer bytes samples v).samples) told.0;
    }

-- what a caller of the reader rests on: a block's samples stand in the first places of a list of this length
pub record Held (h : Header) (held : ℕ) : Type 0 where
  pub few : h.block.subdivisions ≤ most_subdivisions
  pub sides : h.mask ≤ most_mask
  pub counted : sample_count h.block.subdivisions h.mask ≤ held

pub read_held : (bytes : List ℕ) (samples samples' : List Float) (read : RecordRead) (h : Header)
    → record { answer = read; samples = samples' } ≡ read_record bytes samples → read ≡ Ok h → Held h (length samples')
read_held bytes samples samples' read h e told =
    let was = was_read bytes samples h (sym (ap (λ (o : ReadOutcome). o.answer) e) ∙ told) in
    let same : length samples' ≡ length samples =
    ap (λ (o : ReadOutcome). length o.samples) e ∙ ap length was.filled
    ∙ length_laid (samples_of bytes) samples (rw (length_samples bytes) was.room) in
    let held : Held (header_of bytes) (length samples) = record { few = was.whole.few; sides = was.whole.sides; counted = was.room } in
    rw same (rw was.header_is at held)
