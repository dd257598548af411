-- `write_regular_cells` meets its contract: the mesh grows by one layer in each turn, the layers that are passed over make nothing, and what the case
-- numbers of the others read is counted.
use Prim.Native.Nat.{ℕ}
use mathlib.Core.Path.{◌≡◌, refl, ◌∙◌}
use mathlib.Core.List.{[]}
use lib.ListN.{length, length-replicate}
use Rattle.points.specs.Grids.{subdivisions_of, star_of}
use Rattle.cases.specs.Sheets.{sheet_places}
use Rattle.cells.specs.declared.SheetIndex.TheVariants.{Layer}
use Rattle.layers.specs.Over.{NextLayer}
use Rattle.walk.specs.Layers.{next_of, last_of, below_of, same_still}
use Rattle.walk.specs.Order.{Held}
use Rattle.walk.specs.Numbers.{held_sheeted}
use Rattle.walk.specs.Walk.{regular_end, regular_skip}
use Rattle.writing.specs.Lengths.{fits_still}
use Rattle.writing.proofs.Holding.{so_far_none, so_far_then, so_far_made, holds_none}
use Rattle.writing.proofs.Reading.{read_none, read_layer, read_layers}
use Rattle.writing.proofs.write_regular_cells.Goals as goal
use Rattle.writing.proofs.write_regular_cells.Goals.{After-layer_cases-reads, In-Some}

-- the layer is the next one that is not passed over
next : (c : In-Some) → let grid = c.args.grid.now in
    NextLayer (subdivisions_of grid) grid.lent.header.threshold c.args.summary.now c.loop-x.x-iterator.from c.in-Some.x
next c = next_of c.loop-x.invariant.0 c.in-Some.ensures.steps.0.0

-- the sheet and its marks are as long as they were
still-long : (c : After-layer_cases-reads) → (length c.layer_cases-reads.new.cases ≡ sheet_places) × (length c.layer_cases-reads.new.marks ≡ sheet_places)
still-long c =
    let before = c.loop-x.invariant.1 in
    (c.layer_cases-reads.auto.cases ∙ before.cases_long, c.layer_cases-reads.auto.marks ∙ before.marks_long)

-- they hold the layer
held : (c : After-layer_cases-reads) → let grid = c.args.grid.now in
    Held (star_of grid) (Layer c.in-Some.x) (subdivisions_of grid) c.layer_cases-reads.new.cases [] c.layer_cases-reads.new.marks
held c =
    let neighbours = c.args.grid.now.lent.neighbours.now in
    record { numbers = c.layer_cases-reads.ensures.cases neighbours; marked = c.layer_cases-reads.ensures.marks neighbours }

pub loop-x-init : goal.loop-x-init
loop-x-init c =
    let s = star_of c.args.grid.now in
    let start = c.layers_left-x-items.ensures in
    rw (c.into_iter-x-iterator.ensures.into_iter_gives, start.from) (
      (start.n, (start.threshold, start.summary)),
      record {
        cases_long = length-replicate {A = ℕ} sheet_places 0;
        marks_long = length-replicate {A = ℕ} sheet_places 0;
        so_far = so_far_none (holds_none s c.requires.store_value);
        read_to = read_none s c.args.summary.now;
      },
    )

pub write_sheet-counts-requires : goal.write_sheet-counts-requires
write_sheet-counts-requires c =
    let at = goal.at.write_sheet-counts-requires c in
    let s = star_of c.args.grid.now in
    let before = c.loop-x.invariant in
    let turn = at.After-layer_cases-reads in
    let long = still-long turn in
    let come = so_far_made (regular_skip s c.args.summary.now c.requires.trusted _ _ (next at.In-Some)) before.1.so_far in
    record {
      tables = record { classes_are = c.regular_cell_class-classes.ensures; cells_are = c.regular_cell_data-cells.ensures; codes_are = c.regular_vertex_data-codes.ensures };
      shaped = c.requires.shaped;
      sheeted = (held_sheeted s (Layer c.in-Some.x) (held turn) c.requires.shaped.few long.0 long.1, held turn);
      sheet_in = below_of before.0 c.in-Some.ensures.steps.0.1;
      fits = fits_still come.kept c.requires.fits;
      holds = come.holds;
    }

pub loop-x-preserved : goal.loop-x-preserved
loop-x-preserved c =
    let at = goal.at.loop-x-preserved c in
    let s = star_of c.args.grid.now in
    let steps = c.in-Some.ensures.steps in
    let before = c.loop-x.invariant in
    let told = c.layer_cases-reads.ensures.reads in
    let long = still-long at.After-layer_cases-reads in
    let sheet = c.write_sheet-counts.ensures in (
      same_still before.0 steps.1.1,
      rw steps.1.0
          (record {
            cases_long = long.0;
            marks_long = long.1;
            so_far = so_far_then before.1.so_far sheet.same sheet.kept sheet.holds;
            read_to = read_layer s c.args.summary.now _ c.in-Some.x c.loop-x.reads _ (next at.In-Some) (below_of before.0 steps.0.1) told.0 told.1 before.1.read_to;
          }),
    )

pub returns : goal.returns
returns c =
    let s = star_of c.args.grid.now in
    let before = c.loop-x.invariant in
    let last = last_of before.0 c.in-None.ensures.steps.0 in
    let done = so_far_made (regular_skip s c.args.summary.now c.requires.trusted _ _ last) before.1.so_far in
    record {
      holds = rw (← regular_end s _ refl) done.holds;
      reads = read_layers s c.args.summary.now _ c.loop-x.reads last c.requires.shaped.few before.1.read_to;
      kept = done.kept;
      same = done.same;
    }
