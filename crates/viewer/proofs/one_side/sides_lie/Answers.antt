-- `one_side::sides_lie` meets its contract. The loop's invariant: the samples of every named side passed lie as wanted.
use Rattle.std.proofs.Common.{◌∙◌, sym}
use Rattle.model.specs.Record.{star_of}
use Rattle.model.specs.Blank.{side_as}
use Rattle.record.specs.Accepted.{accepted}
use Rattle.viewer.specs.NamedSides.{set_out, given, gone_past, ended, fails_at, sides_are}
use Rattle.viewer.proofs.one_side.sides_lie.Goals as goal

pub named_sides-side-items-requires : goal.named_sides-side-items-requires
named_sides-side-items-requires c = let src = c.args.src.now in rw src.told (accepted _ src.passed).sides

pub loop-side-init : goal.loop-side-init
loop-side-init c = set_out _ _ (cc) (cc)

pub side_lies-requires : goal.side_lies-requires
side_lies-requires c =
    let src = c.args.src.now in
    let steps = c.in-Some.ensures.steps in
    let come = given src.header.mask (side_as c.args.wanted (star_of src.bytes.now)) c.loop-side.invariant steps in
    (steps.0.1, come.is_named steps.0.1)

pub returns-then-not-side_lies : goal.returns-then-not-side_lies
returns-then-not-side_lies c =
    let src = c.args.src.now in
    let side = side_as c.args.wanted (star_of src.bytes.now) in
    let steps = c.in-Some.ensures.steps in
    let fails = sym c.side_lies.ensures ∙ c.if-not-side_lies.true in
    sym (sym (sides_are _ _ _ src.told) ∙ fails_at src.header.mask side (given src.header.mask side c.loop-side.invariant steps) steps.0.1 fails)

pub loop-side-preserved : goal.loop-side-preserved
loop-side-preserved c =
    let src = c.args.src.now in
    let holds = sym c.side_lies.ensures ∙ c.if-not-side_lies.false in
    gone_past src.header.mask (side_as c.args.wanted (star_of src.bytes.now)) c.loop-side.invariant c.in-Some.ensures.steps holds

pub returns : goal.returns
returns c =
    let src = c.args.src.now in
    sym
    (sym (sides_are _ _ _ src.told)
    ∙ ended src.header.mask (side_as c.args.wanted (star_of src.bytes.now)) c.loop-side.invariant c.in-None.ensures.steps)
