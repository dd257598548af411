-- `line_of` meets its contract: the record's judges refuse, then those of 8, or the record is counted.
use Rattle.std.specs.Prelude.{◌≡◌, List, ℕ, Ok}
use Rattle.std.proofs.Common.{sym, ap, ◌∙◌, subst}
use Rattle.laws.specs.Exits.{handed_on}
use Rattle.model.specs.Answers.{Verdict}
use Rattle.model.specs.Judging.{judge_faces}
use Rattle.model.specs.Record.{star_of}
use Rattle.record.specs.declared.passed.Record.{Record}
use Rattle.sheet.specs.Definition.{judge_line, line_by, line_of, figures_of}
use Rattle.sheet.proofs.line_of.Goals as goal

-- the line of a record that passed is as its faces are judged
passed : (r : Record) {bytes : List ℕ} {faces : Verdict} → r.bytes.now ≡ bytes → judge_faces (star_of r.bytes.now) ≡ faces
    → line_by faces (figures_of (star_of r.bytes.now)) ≡ line_of bytes
unfolding line_of judge_line
passed r {bytes} {faces} e judged = subst (λ (l : List ℕ). line_by faces (figures_of (star_of r.bytes.now)) ≡ line_of l) e (rw (r.passed, judged))

pub returns-in_err-whole : goal.returns-in_err-whole
unfolding line_of judge_line
returns-in_err-whole c = rw (handed_on _ _ c.from_residual.ensures.1) (tt, rw c.in_err-whole.ensures)

pub returns-in_err-judge_faces : goal.returns-in_err-judge_faces
returns-in_err-judge_faces c =
    rw (handed_on _ _ c.from_residual-in_err-judge_faces.ensures.1)
    (tt, passed c.in_ok-whole.whole c.in_ok-whole.ensures (sym c.judge_faces.ensures ∙ c.in_err-judge_faces.was))

pub returns : goal.returns
returns c =
    (c.figures_of.ensures.0, ap Ok c.figures_of.ensures.1 ∙ passed c.in_ok-whole.whole c.in_ok-whole.ensures (sym c.judge_faces.ensures ∙ c.in_ok-judge_faces.was))
