-- `one_side::is_blank` meets its contract: the two parts that it looks at are those of the definition.
use mathlib.Core.Path.{◌≡◌, sym, ap, ◌∙◌}
use mathlib.Core.Bool.{Bool, ◌&&◌}
use native.Mathlib.Omega.{arith}
use Rattle.model.specs.Formulas.{inside}
use Rattle.model.specs.Record.{star_of}
use Rattle.model.specs.Blank.{sides_as, is_blank}
use Rattle.record.specs.Accepted.{accepted}
use Rattle.grid.specs.Places.{Small, small}
use Rattle.viewer.specs.Lines.{OwnLined, own_lined}
use Rattle.viewer.proofs.one_side.is_blank.Goals as goal
use Rattle.viewer.proofs.one_side.is_blank.Goals.{Start, After-line_lies}

lined : (c : Start) → OwnLined c.args.src.now.header c.args.src.now.bytes.now
lined c = own_lined _ (accepted _ c.args.src.now.passed) _ c.args.src.now.told

few : (c : Start) → Small c.args.src.now.header.block.subdivisions
few c = small _ (omega (arith, (lined c).few))

in_parts : (c : After-line_lies) → OwnLined c.args.src.now.header c.args.src.now.bytes.now → {found : Bool} → c.line_lies.result ≡ found
    → let star = star_of c.args.src.now.bytes.now in
    is_blank star ≡ found && sides_as c.inside-wanted.result star
in_parts c own e =
    own.blank_is (c.inside-wanted.ensures ∙ ap (inside c.args.src.now.header.threshold) c.sample.ensures) (sym e ∙ c.line_lies.ensures)

pub overflow_add-m : goal.overflow_add-m
overflow_add-m c = omega (arith, (lined (goal.at.overflow_add-m c).Start).few)

pub overflow_mul-own : goal.overflow_mul-own
overflow_mul-own c = omega (arith, (few (goal.at.overflow_mul-own c).Start).square)

pub overflow_mul-own-2 : goal.overflow_mul-own-2
overflow_mul-own-2 c = omega (arith, (few (goal.at.overflow_mul-own-2 c).Start).cube)

pub line_lies-requires : goal.line_lies-requires
line_lies-requires c = (lined (goal.at.line_lies-requires c).Start).on_line

pub returns-then-line_lies : goal.returns-then-line_lies
returns-then-line_lies c =
    let at = goal.at.returns-then-line_lies c in
    c.sides_lie.ensures ∙ sym (in_parts at.After-line_lies (lined at.Start) c.if-line_lies.true)

pub returns-else-line_lies : goal.returns-else-line_lies
returns-else-line_lies c =
    let at = goal.at.returns-else-line_lies c in
    c.if-line_lies.false ∙ sym (in_parts at.After-line_lies (lined at.Start) c.if-line_lies.false)
