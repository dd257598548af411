-- 8 in a record that passed: the points of a row of a named side's face lie on a coarse line and on a fine one, and the samples read there are those
-- that the definition compares.
use Rattle.std.specs.Prelude.{ℕ, ◌+◌, ◌*◌, ◌≤◌, ◌≡◌, Bool, List, Float, get_or}
use Rattle.std.proofs.Common.{sym, ap, subst, arith}
use Rattle.std.proofs.Math.Bool.{beq}
use Rattle.std.specs.Float.{nan}
use Rattle.model.specs.declared.Header.{Header}
use Rattle.model.specs.Answers.{Verdict}
use Rattle.model.specs.Limits.{side_count}
use Rattle.model.specs.Formulas.{inside}
use Rattle.model.specs.Refusals.{first}
use Rattle.model.specs.Judging.{faces_agree, face_side, judge_faces}
use Rattle.model.specs.Record.{header_of, count_of, samples_of, star_of}
use Rattle.judge.specs.NamedSides.{of_named}
use Rattle.lines.specs.declared.Line.{Line}
use Rattle.lines.specs.Lines.{place_on, OnLine, NamedSide, coarse_line, fine_line, coarse_on, coarse_read, fine_on, fine_read}

-- the v-th point of the one line and the 2v-th of the other lie on one side of the threshold
abbrev pub agree_on : Float → List Float → Line → Line → ℕ → Bool
agree_on threshold samples coarse fine v =
    beq (inside threshold (get_or samples (place_on coarse v) nan)) (inside threshold (get_or samples (place_on fine (2 * v)) nan))

-- row u of a side, in a record with this header
pub record RowLined (bytes : List ℕ) (h : Header) (side u : ℕ) : Type 0 where
  pub coarse : (v : ℕ) → v ≤ h.block.subdivisions → OnLine (count_of bytes) (coarse_line h side u) v
  pub fine : (v : ℕ) → v ≤ h.block.subdivisions → OnLine (count_of bytes) (fine_line h side (2 * u)) (2 * v)
  pub agree : (v : ℕ) → v ≤ h.block.subdivisions
      → agree_on h.threshold (samples_of bytes) (coarse_line h side u) (fine_line h side (2 * u)) v ≡ faces_agree (star_of bytes) side u v

-- a named side's whole face
abbrev pub side_judged : List ℕ → ℕ → Verdict
side_judged bytes side = face_side (star_of bytes) side ((header_of bytes).block.subdivisions + 1)

pub faces_are : (bytes : List ℕ) (h : Header) → h ≡ header_of bytes → first (of_named h.mask (side_judged bytes)) side_count ≡ judge_faces (star_of bytes)
unfolding judge_faces
faces_are bytes h e = ap (λ (g : Header). first (of_named g.mask (side_judged bytes)) side_count) e

module _ (bytes : List ℕ) (side u : ℕ) where
  lined : NamedSide (header_of bytes) side → u ≤ (header_of bytes).block.subdivisions → RowLined bytes (header_of bytes) side u
  unfolding faces_agree
  lined is hu =
      let t = (header_of bytes).threshold in
      record {
        coarse = λ v hv. coarse_on bytes side is u v hu hv;
        fine = λ v hv. fine_on bytes side is (2 * u) (2 * v) (omega arith) (omega arith);
        agree = λ v hv i. beq (inside t (coarse_read bytes side is u v hu hv i)) (inside t (fine_read bytes side is (2 * u) (2 * v) (omega arith) (omega arith) i));
      }

  pub row_lined : (h : Header) → h ≡ header_of bytes → NamedSide h side → u ≤ h.block.subdivisions → RowLined bytes h side u
  row_lined h e is hu = subst (λ (g : Header). RowLined bytes g side u) (sym e) (lined (rw e at is) (rw e at hu))
