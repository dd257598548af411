-- `write_named_sides` meets its contract: the mesh grows by one named side in each turn, and the sides between two named ones add nothing.
use Prim.Native.Nat.{ℕ}
use mathlib.Core.Path.{◌≡◌, refl, ◌∙◌}
use mathlib.Core.List.{[]}
use lib.ListN.{length, length-replicate}
use Rattle.model.specs.Limits.{side_count}
use Rattle.points.specs.Grids.{subdivisions_of, star_of}
use Rattle.grid.specs.SideLaws.{NextSide}
use Rattle.cases.specs.Sheets.{sheet_places}
use Rattle.cells.specs.declared.SheetIndex.TheVariants.{Side}
use Rattle.walk.specs.Order.{Held}
use Rattle.walk.specs.Numbers.{held_sheeted}
use Rattle.walk.specs.Walk.{transition_start, transition_skip, transition_end}
use Rattle.writing.specs.Lengths.{fits_still}
use Rattle.writing.proofs.Holding.{so_far_none, so_far_then, so_far_as}
use Rattle.writing.proofs.Reading.{read_first, read_side, read_sides}
use Rattle.writing.proofs.write_named_sides.Goals as goal
use Rattle.writing.proofs.write_named_sides.Goals.{After-face_cases-reads, In-Some}

-- the side is the next one that is named
next : (c : In-Some) → NextSide c.args.grid.now.lent.header.mask c.loop-side.side-iterator.from c.in-Some.side
next c = rw c.loop-side.invariant.0 at c.in-Some.ensures.steps.0.0

-- the sheet and its marks are as long as they were
still-long : (c : After-face_cases-reads) → (length c.face_cases-reads.new.cases ≡ sheet_places) × (length c.face_cases-reads.new.marks ≡ sheet_places)
still-long c =
    let before = c.loop-side.invariant.1 in
    (c.face_cases-reads.auto.cases ∙ before.cases_long, c.face_cases-reads.auto.marks ∙ before.marks_long)

-- they hold the side
held : (c : After-face_cases-reads) → let grid = c.args.grid.now in
    Held (star_of grid) (Side c.in-Some.side) (subdivisions_of grid) [] c.face_cases-reads.new.cases c.face_cases-reads.new.marks
held c =
    let centre = c.args.grid.now.lent.centre.now in
    record { numbers = c.face_cases-reads.ensures.cases centre; marked = c.face_cases-reads.ensures.marks centre }

pub loop-side-init : goal.loop-side-init
loop-side-init c =
    let s = star_of c.args.grid.now in
    let start = c.named_sides-side-items.ensures in
    rw (c.into_iter-side-iterator.ensures.into_iter_gives, start.from) (
      start.mask,
      record {
        cases_long = length-replicate {A = ℕ} sheet_places 0;
        marks_long = length-replicate {A = ℕ} sheet_places 0;
        so_far = so_far_none (rw (transition_start s) c.requires.holds);
        read_to = read_first s _ c.requires.reads_bound;
      },
    )

pub face_cases-reads-requires-clause-neighbour_there : goal.face_cases-reads-requires-clause-neighbour_there
face_cases-reads-requires-clause-neighbour_there c =
    let shaped = c.requires.shaped in
    let inside = c.in-Some.ensures.steps.0.1 in
    record {
      few = shaped.few;
      sides = shaped.sides;
      side_is = inside;
      is_named = (next (goal.at.face_cases-reads-requires-clause-neighbour_there c).In-Some).is_named inside;
      neighbours_are = shaped.neighbours_are;
    }

pub write_sheet-counts-requires : goal.write_sheet-counts-requires
write_sheet-counts-requires c =
    let at = goal.at.write_sheet-counts-requires c in
    let s = star_of c.args.grid.now in
    let turn = at.After-face_cases-reads in
    let long = still-long turn in
    let inside = c.in-Some.ensures.steps.0.1 in
    let come = so_far_as (transition_skip s _ _ (next at.In-Some)) c.loop-side.invariant.1.so_far in
    record {
      tables = record { classes_are = c.transition_cell_class-classes.ensures; cells_are = c.transition_cell_data-cells.ensures; codes_are = c.transition_vertex_data-codes.ensures };
      shaped = c.requires.shaped;
      sheeted = (held_sheeted s (Side c.in-Some.side) (held turn) c.requires.shaped.few long.0 long.1, held turn);
      sheet_in = (inside, (next at.In-Some).is_named inside);
      fits = fits_still come.kept c.requires.fits;
      holds = come.holds;
    }

pub loop-side-preserved : goal.loop-side-preserved
loop-side-preserved c =
    let at = goal.at.loop-side-preserved c in
    let s = star_of c.args.grid.now in
    let steps = c.in-Some.ensures.steps in
    let before = c.loop-side.invariant in
    let told = c.face_cases-reads.ensures.reads in
    let long = still-long at.After-face_cases-reads in
    let sheet = c.write_sheet-counts.ensures in (
      steps.1.0 ∙ before.0,
      rw steps.1.1
          (record {
            cases_long = long.0;
            marks_long = long.1;
            so_far = so_far_then before.1.so_far sheet.same sheet.kept sheet.holds;
            read_to = read_side s _ _ c.in-Some.side c.loop-side.reads _ (next at.In-Some) steps.0.1 told.0 told.1 before.1.read_to;
          }),
    )

pub returns : goal.returns
returns c =
    let s = star_of c.args.grid.now in
    let before = c.loop-side.invariant in
    let last : NextSide s.mask c.loop-side.side-iterator.from side_count = rw before.0 at c.in-None.ensures.steps.0 in
    let done = so_far_as (transition_skip s _ _ last) before.1.so_far in
    record {
      holds_2 = rw (← transition_end s _ refl) done.holds;
      reads = read_sides s _ _ c.loop-side.reads last before.1.read_to;
      kept = done.kept;
      same = done.same;
    }
