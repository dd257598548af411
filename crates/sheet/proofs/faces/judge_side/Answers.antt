-- `faces::judge_side` meets its contract. The loop's invariant: no row passed over has a point that differs.
use Rattle.std.specs.Prelude.{ℕ, ◌≡◌, ◌+◌, List}
use Rattle.std.proofs.Common.{sym, ap, ◌∙◌}
use Rattle.laws.specs.Exits.{handed_on}
use Rattle.model.specs.declared.Header.{Header}
use Rattle.model.specs.Answers.{Verdict}
use Rattle.model.specs.Judging.{face_row}
use Rattle.model.specs.Record.{header_of, star_of}
use Rattle.judge.specs.First.{hit}
use Rattle.sheet.proofs.faces.judge_side.Goals as goal
use Rattle.sheet.proofs.faces.judge_side.Goals.{After-judge_row}

-- all points of a row of a side
abbrev row : List ℕ → ℕ → ℕ → Verdict
row src side u = face_row (star_of src) side u ((header_of src).block.subdivisions + 1)

-- what is judged of a row is what the definition says of it
told : (c : After-judge_row) → c.judge_row.result ≡ row c.args.src.now.bytes.now c.args.side c.loop-u.u
told c =
    let src = c.args.src.now in
    c.judge_row.ensures ∙ ap (λ (h : Header). face_row (star_of src.bytes.now) c.args.side c.loop-u.u (h.block.subdivisions + 1)) src.told

pub returns-in_err-judge_row : goal.returns-in_err-judge_row
returns-in_err-judge_row c =
    let src = c.args.src.now in
    rw (handed_on _ _ c.from_residual.ensures.1)
    (sym
    (hit (row src.bytes.now c.args.side) c.loop-u.u (src.header.block.subdivisions + 1) _ c.loop-u.invariant
    (sym (told (goal.at.returns-in_err-judge_row c).After-judge_row) ∙ c.in_err-judge_row.was) c.loop-u-test.true))
