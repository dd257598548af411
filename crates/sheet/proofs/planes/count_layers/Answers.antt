-- `planes::count_layers` meets its contract. The loop's invariant: the upper plane is at x, and what the planes up to it and the layers below it have is
-- added up.
use Prim.Native.Nat.{ℕ, ◌+◌, ◌*◌, ◌≤◌}
use mathlib.Core.Path.{◌≡◌, sym, ap, ap₂, ◌∙◌}
use mathlib.Core.List.{[]}
use native.Mathlib.Numerals.{add-one}
use native.Mathlib.Omega.{arith}
use lib.Ieee.{Float, of_bits, binary32}
use lib.ListN.{length, replicate, length-replicate}
use Rattle.model.specs.Record.{star_of}
use Rattle.cases.specs.Sheets.{sheet_places, Plane}
use Rattle.cells.specs.declared.SheetIndex.TheVariants.{Layer}
use Rattle.walk.specs.Order.{Held}
use Rattle.walk.specs.Numbers.{held_sheeted}
use Rattle.sheet.specs.Definition.{plus}
use Rattle.cases.specs.RowPlaces.{layer_fits}
use Rattle.sheet.specs.Planes.{plane_places, planes_to, LayerCounts, plane_same}
use Rattle.sheet.proofs.CellCounts.{layer_counts}
use Rattle.sheet.proofs.Whole.{n, few, measured_as}
use Rattle.record.specs.declared.passed.Record.{Record}
use Rattle.sheet.specs.Sizes.{most_planes, small_plus, small_of, small_fits}
use Rattle.sheet.proofs.planes.count_layers.Goals as goal
use Rattle.sheet.proofs.planes.count_layers.Goals.{After-cases_between, After-count_sheet-counts, After-fill_plane-in-loop-x, After-move_down}

zeros : length {A = Float} (replicate plane_places (of_bits binary32 0)) ≡ plane_places
zeros = length-replicate {A = Float} plane_places (of_bits binary32 0)

room : (r : Record) → (n r + 1) * (n r + 1) ≤ plane_places
room r = layer_fits (n r) (few r)

low-long : (c : After-move_down) → length c.move_down.new.low ≡ plane_places
low-long c = c.move_down.auto.low ∙ c.loop-x.invariant.low-long

low-plane : (c : After-move_down) → Plane (star_of c.args.src.now.bytes.now) c.loop-x.x c.move_down.new.low
low-plane c =
    let src = c.args.src.now in
    plane_same (star_of src.bytes.now) c.loop-x.x c.loop-x.high c.move_down.new.low c.loop-x.invariant.plane
    (λ k h. c.move_down.ensures k (rw (measured_as src).subdivisions_are at h))

high-long : (c : After-fill_plane-in-loop-x) → length c.fill_plane-in-loop-x.new.plane ≡ plane_places
high-long c = c.fill_plane-in-loop-x.auto.plane ∙ c.loop-x.invariant.high-long

cases_long : (c : After-cases_between) → length c.cases_between.new.cases ≡ sheet_places
cases_long c = c.cases_between.auto.cases ∙ c.loop-x.invariant.cases_long

marks_long : (c : After-cases_between) → length c.cases_between.new.marks ≡ sheet_places
marks_long c = c.cases_between.auto.marks ∙ c.loop-x.invariant.marks_long

-- the layer lies between two planes, a step apart
held : (c : After-cases_between) → let src = c.args.src.now in Plane (star_of src.bytes.now) c.loop-x.x c.move_down.new.low
    → Held (star_of src.bytes.now) (Layer c.loop-x.x) (n src) c.cases_between.new.cases [] c.cases_between.new.marks
held c low =
    let src = c.args.src.now in
    let is = measured_as src in
    record {
      numbers = c.cases_between.ensures.cases (star_of src.bytes.now) c.loop-x.x is low c.fill_plane-in-loop-x.ensures;
      marked = c.cases_between.ensures.marks (star_of src.bytes.now) c.loop-x.x is low c.fill_plane-in-loop-x.ensures;
    }

counts : (c : After-count_sheet-counts) → let src = c.args.src.now in
    Held (star_of src.bytes.now) (Layer c.loop-x.x) (n src) c.cases_between.new.cases [] c.cases_between.new.marks
    → LayerCounts (star_of src.bytes.now) c.loop-x.x c.count_sheet-counts.result
counts c layer =
    let s = star_of c.args.src.now.bytes.now in
    let is = measured_as c.args.src.now in
    layer_counts s c.loop-x.x c.count_sheet-counts.result
    (c.count_sheet-counts.ensures.grows s is.subdivisions_are (omega (arith, c.loop-x-test.true, is.subdivisions_are)) layer)

pub plane_figures-figures-requires : goal.plane_figures-figures-requires
plane_figures-figures-requires c = (few c.args.src.now, c.fill_plane.auto.plane ∙ zeros)

pub loop-x-init : goal.loop-x-init
loop-x-init c =
    record {
      cases_long = length-replicate {A = ℕ} sheet_places 0;
      marks_long = length-replicate {A = ℕ} sheet_places 0;
      low-long = zeros;
      high-long = c.fill_plane.auto.plane ∙ zeros;
      plane = c.fill_plane.ensures;
      small = c.plane_figures-figures.ensures.0;
      added = c.plane_figures-figures.ensures.1 (star_of c.args.src.now.bytes.now) 0 (measured_as c.args.src.now) c.fill_plane.ensures;
    }

pub overflow_add-n : goal.overflow_add-n
overflow_add-n c = omega (arith, few c.args.src.now)

pub overflow_add-n-in-loop-x : goal.overflow_add-n-in-loop-x
overflow_add-n-in-loop-x c = omega (arith, few c.args.src.now)

pub overflow_mul-n : goal.overflow_mul-n
overflow_mul-n c = omega (arith, room c.args.src.now)

pub move_down-requires : goal.move_down-requires
move_down-requires c =
    let so_far = c.loop-x.invariant in
    (omega (arith, room c.args.src.now, so_far.high-long), omega (arith, room c.args.src.now, so_far.low-long))

pub cases_between-requires : goal.cases_between-requires
cases_between-requires c =
    let place = goal.at.cases_between-requires c in
    let so_far = c.loop-x.invariant in
    let fits = room c.args.src.now in
    record {
      n_le_most_subdivisions = (few c.args.src.now, (so_far.cases_long, so_far.marks_long));
      n_in_bounds = (omega (arith, fits, low-long place.After-move_down), omega (arith, fits, high-long place.After-fill_plane-in-loop-x));
    }

pub count_sheet-counts-requires-clause-sheeted : goal.count_sheet-counts-requires-clause-sheeted
count_sheet-counts-requires-clause-sheeted c =
    let place = goal.at.count_sheet-counts-requires-clause-sheeted c in
    let layer = held place.After-cases_between (low-plane place.After-move_down) in
    held_sheeted (star_of c.args.src.now.bytes.now) (Layer c.loop-x.x) layer (few c.args.src.now) (cases_long place.After-cases_between) (marks_long place.After-cases_between)

pub step_figures-more-requires : goal.step_figures-more-requires
step_figures-more-requires c =
    let place = goal.at.step_figures-more-requires c in
    record {
      n_le_most_subdivisions = few c.args.src.now;
      low_len = (low-long place.After-move_down, high-long place.After-fill_plane-in-loop-x);
      few = c.count_sheet-counts.ensures.few;
    }

pub add-figures-requires : goal.add-figures-requires
add-figures-requires c =
    small_fits (c.loop-x.x + 1 + 1) (omega (arith, few c.args.src.now, c.loop-x-test.true))
    (small_plus (c.loop-x.x + 1) 1 c.loop-x.invariant.small c.step_figures-more.ensures.0)

pub loop-x-preserved : goal.loop-x-preserved
loop-x-preserved c =
    let so_far = c.loop-x.invariant in
    let place = goal.at.loop-x-preserved c in
    let s = star_of c.args.src.now.bytes.now in
    let low = low-plane place.After-move_down in
    let more =
    c.step_figures-more.ensures.1 s c.loop-x.x (measured_as c.args.src.now) low c.fill_plane-in-loop-x.ensures
    (counts place.After-count_sheet-counts (held place.After-cases_between low)) in
    record {
      cases_long = cases_long place.After-cases_between;
      marks_long = marks_long place.After-cases_between;
      low-long = low-long place.After-move_down;
      high-long = high-long place.After-fill_plane-in-loop-x;
      plane = c.fill_plane-in-loop-x.ensures;
      small = rw c.add-figures.ensures (small_plus (c.loop-x.x + 1) 1 so_far.small c.step_figures-more.ensures.0);
      added = c.add-figures.ensures ∙ ap₂ plus so_far.added more ∙ ap (planes_to s) (sym (add-one c.loop-x.x));
    }

pub returns : goal.returns
returns c =
    let turn = c.loop-x in
    let end : turn.x ≡ n c.args.src.now = omega arith in (
      small_of (turn.x + 1) most_planes (omega (arith, end, few c.args.src.now)) turn.invariant.small,
      turn.invariant.added ∙ ap (planes_to (star_of c.args.src.now.bytes.now)) end,
    )
