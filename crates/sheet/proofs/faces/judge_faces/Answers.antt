-- `faces::judge_faces` meets its contract. The loop's invariant: no named side passed over has a point that differs.
use Rattle.std.specs.Prelude.{◌≡◌, ◌+◌}
use Rattle.std.proofs.Common.{sym, ap, ◌∙◌}
use Rattle.laws.specs.Exits.{handed_on}
use Rattle.model.specs.declared.Header.{Header}
use Rattle.model.specs.Judging.{face_side}
use Rattle.model.specs.Record.{star_of}
use Rattle.judge.specs.NamedSides.{given, gone_past, ended, refused_at}
use Rattle.sheet.specs.Faces.{side_judged, faces_are}
use Rattle.sheet.proofs.Whole.{sides, side_is}
use Rattle.sheet.proofs.faces.judge_faces.Goals as goal
use Rattle.sheet.proofs.faces.judge_faces.Goals.{After-judge_side}

-- what is judged of a side is what the definition says of it
told : (c : After-judge_side) → c.judge_side.result ≡ side_judged c.args.src.now.bytes.now c.in-Some.side
told c =
    let src = c.args.src.now in
    c.judge_side.ensures ∙ ap (λ (h : Header). face_side (star_of src.bytes.now) c.in-Some.side (h.block.subdivisions + 1)) src.told

pub named_sides-side-items-requires : goal.named_sides-side-items-requires
named_sides-side-items-requires c = sides c.args.src.now

pub judge_side-requires : goal.judge_side-requires
judge_side-requires c =
    let src = c.args.src.now in
    let steps = c.in-Some.ensures.steps in
    side_is src c.in-Some.side steps.0.1 ((given src.header.mask (side_judged src.bytes.now) c.loop-side.invariant steps).is_named steps.0.1)

pub returns-in_err-judge_side : goal.returns-in_err-judge_side
returns-in_err-judge_side c =
    let src = c.args.src.now in
    let steps = c.in-Some.ensures.steps in
    let judged = side_judged src.bytes.now in
    rw (handed_on _ _ c.from_residual.ensures.1)
    (sym
    (sym (faces_are src.bytes.now src.header src.told)
    ∙ refused_at src.header.mask judged (given src.header.mask judged c.loop-side.invariant steps) steps.0.1
    (sym (told (goal.at.returns-in_err-judge_side c).After-judge_side) ∙ c.in_err-judge_side.was)))

pub loop-side-preserved : goal.loop-side-preserved
loop-side-preserved c =
    gone_past c.args.src.now.header.mask (side_judged c.args.src.now.bytes.now) c.loop-side.invariant c.in-Some.ensures.steps
    (sym (told (goal.at.loop-side-preserved c).After-judge_side) ∙ c.in_ok-judge_side.was)

pub returns : goal.returns
returns c =
    let src = c.args.src.now in
    sym
    (sym (faces_are src.bytes.now src.header src.told)
    ∙ ended src.header.mask (side_judged src.bytes.now) c.loop-side.invariant c.in-None.ensures.steps)
