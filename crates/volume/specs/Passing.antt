-- Document 02, [8]: what the judges of a cut let pass, and what an answer with samples says of the volume and of the list lent. Assumes nothing.
use Rattle.std.specs.Prelude.{ℕ, ◌≤◌, ◌≡◌, refl, List, Float, length, Err, Ok}
use Rattle.std.proofs.Math.Path.{ap}
use borrow.Author.Tests.{leb-true}
use Rattle.laws.specs.Steps.{laid}
use Rattle.model.specs.declared.Xyz.{Xyz}
use Rattle.model.specs.declared.Refusal.TheVariants.{BufferTooShort}
use Rattle.model.specs.Answers.{Verdict}
use Rattle.model.specs.Samples.{sample_length}
use Rattle.model.specs.Judging.{judge_buffer}
use Rattle.judge.specs.First.{both_passed, unless_passed}
use Rattle.volume.specs.Definition.{block_in, judge_taken, judge_volume, judge_cut, cut_answer, cut_block}
use Rattle.volume.specs.Known.{Ready, known, ready}

pub record Cuttable (bytes : List ℕ) (sizes : Xyz) (n : ℕ) (first : Xyz) (room : ℕ) : Type 0 where
  pub ready : Ready bytes sizes n first
  pub fits : sample_length n ≤ room

module _ (bytes : List ℕ) (sizes : Xyz) (n : ℕ) (first : Xyz) (room : ℕ) where
  pub cuttable : judge_cut bytes sizes n first room ≡ Ok tt → Cuttable bytes sizes n first room
  unfolding judge_cut
  cuttable e =
      let from-7 = both_passed (judge_volume (length bytes) sizes n first) _ e in
      let from-14 = both_passed (judge_taken bytes sizes n first) (judge_buffer (sample_length n) room) from-7.1 in
      record {
        ready = ready bytes sizes n first (known (length bytes) sizes n first from-7.0) from-14.0;
        fits = leb-true (sample_length n) room (unless_passed _ (BufferTooShort (sample_length n)) from-14.1);
      }

-- ---- what was cut

pub record WasCut (bytes : List ℕ) (sizes : Xyz) (n : ℕ) (first : Xyz) (samples : List Float) (k : ℕ) : Type 0 where
  pub whole : Cuttable bytes sizes n first (length samples)
  pub counted : k ≡ sample_length n
  pub left : (cut_block bytes sizes n first samples).samples ≡ laid (block_in bytes sizes n first) samples

module _ (bytes : List ℕ) (sizes : Xyz) (n : ℕ) (first : Xyz) (samples : List Float) (k : ℕ) where
  -- a number of samples is answered only for what passes
  answered : (v : Verdict) → (cut_answer bytes sizes n first samples v).answer ≡ Ok k → (v ≡ Ok tt) × (k ≡ sample_length n)
  answered (Ok _) e = (refl, cc)
  answered (Err r) e = (cc, cc)

  pub was_cut : (cut_block bytes sizes n first samples).answer ≡ Ok k → WasCut bytes sizes n first samples k
  unfolding cut_block
  was_cut e =
      let a = answered (judge_cut bytes sizes n first (length samples)) e in
      record {
        whole = cuttable bytes sizes n first (length samples) a.0;
        counted = a.1;
        left = ap (λ (v : Verdict). (cut_answer bytes sizes n first samples v).samples) a.0;
      }
