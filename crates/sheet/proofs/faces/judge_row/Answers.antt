-- `faces::judge_row` meets its contract. The loop's invariant: no point passed over differs.
use Rattle.std.specs.Prelude.{◌≡◌, ◌+◌, ◌≤◌, Err, Ok}
use Rattle.std.proofs.Common.{arith, sym, ap, ◌∙◌}
use Rattle.model.specs.declared.Refusal.TheVariants.{FaceMismatch}
use Rattle.model.specs.Judging.{faces_agree, face_spot}
use Rattle.model.specs.Record.{samples_of, star_of}
use Rattle.judge.specs.First.{not_yet, hit}
use Rattle.lines.specs.declared.Line.{Line}
use Rattle.sheet.specs.Faces.{agree_on, RowLined, row_lined}
use Rattle.sheet.proofs.faces.judge_row.Goals as goal
use Rattle.sheet.proofs.faces.judge_row.Goals.{After-spot_agrees, In-loop-v}

lined : (c : In-loop-v) → RowLined c.args.src.now.bytes.now c.args.src.now.header c.args.side c.args.u
lined c = row_lined c.args.src.now.bytes.now c.args.side c.args.u c.args.src.now.header c.args.src.now.told c.requires.0 c.requires.1

on_row : (c : In-loop-v) → c.loop-v.v ≤ c.args.src.now.header.block.subdivisions
on_row c = omega (arith, c.loop-v-test.true, ap (λ (line : Line). line.points) c.coarse_line-coarse.ensures)

-- what is found of a point is what the definition compares
told : (c : After-spot_agrees) → RowLined c.args.src.now.bytes.now c.args.src.now.header c.args.side c.args.u
    → c.loop-v.v ≤ c.args.src.now.header.block.subdivisions
    → c.spot_agrees.result ≡ faces_agree (star_of c.args.src.now.bytes.now) c.args.side c.args.u c.loop-v.v
told c row on =
    c.spot_agrees.ensures
    ∙ (λ i. agree_on c.args.src.now.header.threshold (samples_of c.args.src.now.bytes.now) (c.coarse_line-coarse.ensures i) (c.fine_line-fine.ensures i) c.loop-v.v)
    ∙ row.agree c.loop-v.v on

pub spot_agrees-requires : goal.spot_agrees-requires
spot_agrees-requires c =
    let place = (goal.at.spot_agrees-requires c).In-loop-v in
    let row = lined place in
    let on = on_row place in
    record {
      few = omega (arith, on, c.requires.0.few);
      on_line = (rw c.coarse_line-coarse.ensures (row.coarse c.loop-v.v on), rw c.fine_line-fine.ensures (row.fine c.loop-v.v on));
    }

pub returns-then-not-spot_agrees : goal.returns-then-not-spot_agrees
returns-then-not-spot_agrees c =
    let place = goal.at.returns-then-not-spot_agrees c in
    let on = on_row place.In-loop-v in
    let spot = face_spot (star_of c.args.src.now.bytes.now) c.args.side c.args.u in
    let at_spot = FaceMismatch (record { side = c.args.side; u = c.args.u; v = c.loop-v.v }) in
    let found : spot c.loop-v.v ≡ Err at_spot = rw (← told place.After-spot_agrees (lined place.In-loop-v) on, c.if-not-spot_agrees.true) in
    sym (hit spot c.loop-v.v (c.args.src.now.header.block.subdivisions + 1) at_spot c.loop-v.invariant found (omega (arith, on)))

pub loop-v-preserved : goal.loop-v-preserved
loop-v-preserved c =
    let place = goal.at.loop-v-preserved c in
    let spot = face_spot (star_of c.args.src.now.bytes.now) c.args.side c.args.u in
    let passed : spot c.loop-v.v ≡ Ok tt =
    rw (← told place.After-spot_agrees (lined place.In-loop-v) (on_row place.In-loop-v), c.if-not-spot_agrees.false) in
    not_yet spot c.loop-v.v c.loop-v.invariant passed
