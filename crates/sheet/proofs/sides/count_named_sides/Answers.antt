-- `sides::count_named_sides` meets its contract: what each named side adds is added up, and the others add nothing.
use Rattle.std.specs.Prelude.{ℕ, ◌≡◌, true, length}
use Rattle.std.proofs.Common.{arith, ◌∙◌}
use lib.ListN.{length-replicate}
use Rattle.model.specs.Limits.{side_count}
use Rattle.model.specs.Record.{star_of}
use Rattle.model.specs.Sides.{named}
use Rattle.grid.specs.SideLaws.{NextSide}
use Rattle.cases.specs.Sheets.{sheet_places}
use Rattle.cells.specs.declared.SheetIndex.TheVariants.{Side}
use Rattle.walk.specs.Numbers.{held_sheeted}
use Rattle.sheet.proofs.CellCounts.{sides_none, sides_skip, sides_on}
use Rattle.sheet.proofs.Whole.{few, sides, mask_is, measured_as, side_is}
use Rattle.sheet.proofs.sides.count_named_sides.Goals as goal
use Rattle.sheet.proofs.sides.count_named_sides.Goals.{After-face_cases, In-Some}

-- the side is the next one that is named
next : (c : In-Some) → NextSide c.args.src.now.header.mask c.loop-side.side-iterator.from c.in-Some.side
next c = rw c.loop-side.invariant.same at c.in-Some.ensures.steps.0.0

is_named : (c : In-Some) → named c.args.src.now.header.mask c.in-Some.side ≡ true
is_named c = (next c).is_named c.in-Some.ensures.steps.0.1

-- the sheet and its marks are as long as they were
cases_long : (c : After-face_cases) → length c.face_cases.new.cases ≡ sheet_places
cases_long c = c.face_cases.auto.cases ∙ c.loop-side.invariant.cases_long

marks_long : (c : After-face_cases) → length c.face_cases.new.marks ≡ sheet_places
marks_long c = c.face_cases.auto.marks ∙ c.loop-side.invariant.marks_long

pub named_sides-side-items-requires : goal.named_sides-side-items-requires
named_sides-side-items-requires c = sides c.args.src.now

pub loop-side-init : goal.loop-side-init
loop-side-init c =
    let first = c.named_sides-side-items.ensures in
    rw (c.into_iter-side-iterator.ensures.into_iter_gives, first.from)
    (record {
      same = first.mask;
      cases_long = length-replicate {A = ℕ} sheet_places 0;
      marks_long = length-replicate {A = ℕ} sheet_places 0;
      few = record { vertices = omega arith; triangles = omega arith };
      added = sides_none (star_of c.args.src.now.bytes.now);
    })

pub face_cases-requires-clause-named : goal.face_cases-requires-clause-named
face_cases-requires-clause-named c =
    side_is c.args.src.now c.in-Some.side c.in-Some.ensures.steps.0.1 (is_named (goal.at.face_cases-requires-clause-named c).In-Some)

pub count_sheet-more-requires-clause-sheeted : goal.count_sheet-more-requires-clause-sheeted
count_sheet-more-requires-clause-sheeted c =
    let turn = (goal.at.count_sheet-more-requires-clause-sheeted c).After-face_cases in
    let src = c.args.src.now in
    held_sheeted (star_of src.bytes.now) (Side c.in-Some.side) c.face_cases.ensures (few src) (cases_long turn) (marks_long turn)

pub add-counts-requires : goal.add-counts-requires
add-counts-requires c =
    let so_far = c.loop-side.invariant.few in
    let more = c.count_sheet-more.ensures.few in
    let come = next (goal.at.add-counts-requires c).In-Some in
    (omega (arith, come.from_le, come.le_six, so_far.vertices, more.vertices), omega (arith, come.from_le, come.le_six, so_far.triangles, more.triangles))

pub loop-side-preserved : goal.loop-side-preserved
loop-side-preserved c =
    let at = goal.at.loop-side-preserved c in
    let src = c.args.src.now in
    let s = star_of src.bytes.now in
    let side = c.in-Some.side in
    let steps = c.in-Some.ensures.steps in
    let come = next at.In-Some in
    let so_far = c.loop-side.invariant in
    let more = c.count_sheet-more.ensures in
    rw (c.add-counts.ensures, steps.1.1)
    (record {
      same = steps.1.0 ∙ so_far.same;
      cases_long = cases_long at.After-face_cases;
      marks_long = marks_long at.After-face_cases;
      few = record {
        vertices = omega (arith, come.from_le, so_far.few.vertices, more.few.vertices);
        triangles = omega (arith, come.from_le, so_far.few.triangles, more.few.triangles);
      };
      added = sides_on s side (more.grows s (measured_as src).subdivisions_are (steps.0.1, rw (mask_is src) (is_named at.In-Some)) c.face_cases.ensures)
          (sides_skip s (rw (mask_is src) come) so_far.added);
    })

pub returns : goal.returns
returns c =
    let src = c.args.src.now in
    let so_far = c.loop-side.invariant in
    let last : NextSide src.header.mask c.loop-side.side-iterator.from side_count = rw so_far.same at c.in-None.ensures.steps.0 in (
      record { vertices = omega (arith, last.from_le, so_far.few.vertices); triangles = omega (arith, last.from_le, so_far.few.triangles) },
      sides_skip (star_of src.bytes.now) (rw (mask_is src) last) so_far.added,
    )
