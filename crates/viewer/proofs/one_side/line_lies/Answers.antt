-- `one_side::line_lies` meets its contract. The loop's invariant: every sample passed lies as wanted.
use Rattle.std.specs.Prelude.{ℕ, ◌≡◌, Bool, Float, List, get_or}
use Rattle.std.proofs.Common.{◌∙◌, arith, sym}
use Rattle.std.specs.Float.{nan}
use Rattle.laws.specs.Ranges.{hold_more, fail_all}
use Rattle.model.specs.Record.{samples_of}
use Rattle.model.specs.Blank.{lies_as}
use Rattle.lines.specs.declared.Line.{Line}
use Rattle.lines.specs.Lines.{place_on}
use Rattle.viewer.proofs.one_side.line_lies.Goals as goal

-- whether the k-th sample lies as wanted
abbrev test : List ℕ → Float → Bool → Line → ℕ → Bool
test bytes threshold wanted line k = lies_as wanted threshold (get_or (samples_of bytes) (place_on line k) nan)

pub returns-then-not-lies_as : goal.returns-then-not-lies_as
returns-then-not-lies_as c =
    let src = c.args.src.now in
    let found = sym c.lies_as.ensures ∙ c.if-not-lies_as.true in
    sym (fail_all (test src.bytes.now src.header.threshold c.args.wanted c.args.line) c.args.line.points c.loop-k.k c.loop-k-test.true found)

pub loop-k-preserved : goal.loop-k-preserved
loop-k-preserved c =
    let src = c.args.src.now in
    let found = sym c.lies_as.ensures ∙ c.if-not-lies_as.false in
    hold_more (test src.bytes.now src.header.threshold c.args.wanted c.args.line) c.loop-k.k c.loop-k.invariant found

pub returns : goal.returns
returns c =
    let end : c.loop-k.k ≡ c.args.line.points = omega arith in
    rw end at (sym c.loop-k.invariant)
