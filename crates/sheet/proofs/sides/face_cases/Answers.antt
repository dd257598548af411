-- `sides::face_cases` meets its contract. The loop's invariant: the rows passed have their numbers and marks.
use Rattle.std.specs.Prelude.{◌≡◌, length}
use Rattle.std.proofs.Common.{arith, ◌∙◌}
use Rattle.model.specs.Points.{transition_case}
use Rattle.model.specs.Record.{star_of}
use Rattle.cases.specs.RowPlaces.{no_row}
use Rattle.sheet.specs.Fine.{three_lines, lines_walked, face_cases}
use Rattle.sheet.proofs.sides.face_cases.Goals as goal

pub loop-u-init : goal.loop-u-init
loop-u-init c =
    record {
      cases_long = c.requires.cases_len.0;
      marks_long = c.requires.cases_len.1;
      numbers = no_row _ _ _;
      marked = no_row _ _ _;
    }

pub rows_on-requires : goal.rows_on-requires
rows_on-requires c =
    let so_far = c.loop-u.invariant in
    let few = c.requires.named.few in
    let long : length c.fill_lines.new.samples ≡ three_lines = omega (arith, c.fill_lines.auto.samples) in
    record {
      n_le_most_subdivisions = (few, (omega (arith, c.loop-u-test.true), (so_far.cases_long, so_far.marks_long)));
      walked = rw long (lines_walked c.args.src.now.header.block.subdivisions few);
    }

pub loop-u-preserved : goal.loop-u-preserved
loop-u-preserved c =
    let turn = c.loop-u in
    let src = c.args.src.now in
    let side = transition_case (star_of src.bytes.now) c.args.side in
    let on = face_cases src.bytes.now src.header c.args.side turn.u src.told _ c.fill_lines.ensures in
    record {
      cases_long = c.rows_on.auto.cases ∙ turn.invariant.cases_long;
      marks_long = c.rows_on.auto.marks ∙ turn.invariant.marks_long;
      numbers = c.rows_on.ensures.cases side on turn.invariant.numbers;
      marked = c.rows_on.ensures.marks side on turn.invariant.marked;
    }

pub returns : goal.returns
returns c =
    let turn = c.loop-u in
    let end : turn.u ≡ c.args.src.now.header.block.subdivisions = omega arith in
    record { numbers = rw end at turn.invariant.numbers; marked = rw end at turn.invariant.marked }
