-- `sides::fill_lines` meets its contract. The loop's invariant: the lines passed stand one after another.
use Rattle.std.specs.Prelude.{ℕ, ◌≡◌, ◌+◌, ◌-◌, ◌*◌, ◌≤◌, ◌<◌, List, Float, length}
use Rattle.std.proofs.Common.{arith, sym, ap, ap₂, ◌∙◌, subst, zero-add, mul-le-mul_left}
use Rattle.std.proofs.lemmas.List.Edits.{sets}
use Rattle.laws.specs.Counting.{gather}
use Rattle.laws.specs.Gathered.{sets_gather}
use Rattle.laws.specs.Lists.{length_listed}
use Rattle.words.specs.Puts.{put_sets}
use Rattle.model.specs.Record.{count_of}
use Rattle.lines.specs.declared.Line.{Line}
use Rattle.lines.specs.Lines.{OnLine}
use Rattle.sheet.specs.Fine.{line_samples, ThreeLined, three_lined}
use Rattle.sheet.proofs.Whole.{n}
use Rattle.sheet.proofs.sides.fill_lines.Invariants.{line}
use Rattle.sheet.proofs.sides.fill_lines.Goals as goal
use Rattle.sheet.proofs.sides.fill_lines.Goals.{In-loop-i, Start}

lined : (e : Start) → ThreeLined e.args.src.now.bytes.now e.args.src.now.header e.args.side e.args.u
lined e =
    let src = e.args.src.now in
    three_lined src.bytes.now e.args.side e.args.u src.header src.told e.requires.named e.requires.u_lt_subdivisions.0

abbrev width : In-loop-i → ℕ
width c = 2 * n c.args.src.now + 1

-- its line ends among the three
ends-in : (c : In-loop-i) → width c * c.loop-i.i + width c ≤ length c.loop-i.samples
ends-in c =
    let most : width c * c.loop-i.i ≤ width c * 2 = mul-le-mul_left (width c) (omega (arith, c.loop-i-test.true)) in
    omega (arith, most, c.requires.u_lt_subdivisions.1, c.requires.named.few, c.loop-i.auto.samples)

pub fill_line-requires-clause-on_line : goal.fill_line-requires-clause-on_line
fill_line-requires-clause-on_line c =
    subst (λ (l : Line). (k : ℕ) → k < l.points → OnLine (count_of c.args.src.now.bytes.now) l k) (sym c.fine_line-line.ensures)
    ((lined (goal.at.fill_line-requires-clause-on_line c).Start).on_line c.loop-i.i c.loop-i-test.true)

pub loop-i-preserved : goal.loop-i-preserved
loop-i-preserved c =
    let src = c.args.src.now in
    let before = c.args.samples.now in
    let f = line src c.args.side c.args.u in
    let i = c.loop-i.i in
    let w = 2 * n src + 1 in
    let written : c.fill_line.new.samples ≡ f i = c.fill_line.ensures ∙ ap (line_samples src.bytes.now) c.fine_line-line.ensures in
    let wide : length c.fill_line.new.samples ≡ w = ap length written ∙ length_listed _ _ in
    let long : w * i + w - w * i ≡ length c.fill_line.new.samples = omega (arith, wide) in
    put_sets c.loop-i.samples c.fill_line.new.samples (w * i) _ long (omega (arith, ends-in (goal.at.loop-i-preserved c).In-loop-i))
    ∙ ap₂ (λ (l new : List Float). sets l (w * i) new) c.loop-i.invariant written
    ∙ ap (λ (at : ℕ). sets (sets before 0 (gather f i)) at (f i)) (sym (zero-add (w * i)))
    ∙ sets_gather f w (λ k. length_listed _ _) before 0 i

pub returns : goal.returns
returns c =
    let f = line c.args.src.now c.args.side c.args.u in
    let all : c.loop-i.i ≡ 3 = omega arith in
    (lined (goal.at.returns c).Start).filled c.args.samples.now c.loop-i.samples (omega (arith, c.requires.u_lt_subdivisions.1, c.requires.named.few))
    (c.loop-i.invariant ∙ ap (λ (k : ℕ). sets c.args.samples.now 0 (gather f k)) all)
