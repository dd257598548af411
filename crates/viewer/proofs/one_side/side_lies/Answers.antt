-- `one_side::side_lies` meets its contract. The loop's invariant: every line passed lies as wanted.
use Rattle.std.specs.Prelude.{ℕ, ◌+◌, ◌*◌, ◌≤◌, ◌<◌, ◌≡◌, Bool, List}
use Rattle.std.proofs.Common.{◌∙◌, ap, arith, subst, sym}
use Rattle.laws.specs.Ranges.{hold_more, fail_all}
use Rattle.model.specs.declared.Header.{Header}
use Rattle.model.specs.Record.{count_of, samples_of}
use Rattle.record.specs.Accepted.{accepted}
use Rattle.lines.specs.declared.Line.{Line}
use Rattle.lines.specs.Lines.{OnLine, fine_line}
use Rattle.viewer.specs.Lines.{line_as, SideLined, side_lined}
use Rattle.viewer.proofs.one_side.side_lies.Goals as goal
use Rattle.viewer.proofs.one_side.side_lies.Goals.{After-line_lies, In-loop-u2, Start}

-- whether a line of the side lies as wanted
abbrev test : List ℕ → Header → Bool → ℕ → ℕ → Bool
test src header wanted side u2 = line_as wanted header.threshold (samples_of src) (fine_line header side u2)

lined : (e : Start) → SideLined e.args.src.now.header e.args.side e.args.src.now.bytes.now
lined e = let src = e.args.src.now in
    side_lined _ (accepted _ src.passed) _ src.told _ e.requires.0 e.requires.1

in_face : (c : In-loop-u2) → c.loop-u2.u2 ≤ 2 * c.args.src.now.header.block.subdivisions
in_face c = omega (arith, c.loop-u2-test.true)

-- what is found of a line is what the test says
told : (c : After-line_lies) → let a = c.args in
    c.line_lies.result ≡ test a.src.now.bytes.now a.src.now.header a.wanted a.side c.loop-u2.u2
told c = let src = c.args.src.now in
    c.line_lies.ensures ∙ ap (line_as c.args.wanted src.header.threshold (samples_of src.bytes.now)) c.fine_line-line.ensures

pub overflow_mul-points : goal.overflow_mul-points
overflow_mul-points c = omega (arith, (lined (goal.at.overflow_mul-points c).Start).is_side.few)

pub overflow_add-points : goal.overflow_add-points
overflow_add-points c = omega (arith, (lined (goal.at.overflow_add-points c).Start).is_side.few)

pub fine_line-line-requires : goal.fine_line-line-requires
fine_line-line-requires c =
    let at = goal.at.fine_line-line-requires c in
    ((lined at.Start).is_side, in_face at.In-loop-u2)

pub line_lies-requires : goal.line_lies-requires
line_lies-requires c =
    let bytes = c.args.src.now.bytes.now in
    subst (λ (l : Line). (k : ℕ) → k < l.points → OnLine (count_of bytes) l k) (sym c.fine_line-line.ensures)
    ((lined (goal.at.line_lies-requires c).Start).on_line c.loop-u2.u2 (in_face (goal.at.line_lies-requires c).In-loop-u2))

pub returns-then-not-line_lies : goal.returns-then-not-line_lies
returns-then-not-line_lies c =
    let a = c.args in
    let found = sym (told (goal.at.returns-then-not-line_lies c).After-line_lies) ∙ c.if-not-line_lies.true in
    sym
    ((lined (goal.at.returns-then-not-line_lies c).Start).side_is a.wanted
    ∙ fail_all (test a.src.now.bytes.now a.src.now.header a.wanted a.side) _ c.loop-u2.u2 c.loop-u2-test.true found)

pub loop-u2-preserved : goal.loop-u2-preserved
loop-u2-preserved c =
    let a = c.args in
    let found = sym (told (goal.at.loop-u2-preserved c).After-line_lies) ∙ c.if-not-line_lies.false in
    hold_more (test a.src.now.bytes.now a.src.now.header a.wanted a.side) c.loop-u2.u2 c.loop-u2.invariant found

pub returns : goal.returns
returns c =
    let end : c.loop-u2.u2 ≡ 2 * c.args.src.now.header.block.subdivisions + 1 = omega arith in
    sym ((lined (goal.at.returns c).Start).side_is c.args.wanted ∙ rw end at c.loop-u2.invariant)
