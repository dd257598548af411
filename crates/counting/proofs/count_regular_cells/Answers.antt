-- `count_regular_cells` meets its contract: what each layer adds is added up, those passed over add nothing, and the pairs go with the walk.
use native.Mathlib.Omega.{arith}
use Prim.Native.Nat.{ℕ}
use mathlib.Core.Path.{◌≡◌, refl}
use mathlib.Core.List.{List, []}
use lib.Ieee.{Float}
use lib.ListN.{length, length-replicate}
use Rattle.model.specs.Star.{star}
use Rattle.model.specs.Mesh.{regular_layer}
use Rattle.cases.specs.Sheets.{sheet_places}
use Rattle.cases.specs.PairLaws.{no_pairs}
use Rattle.cells.specs.declared.SheetIndex.TheVariants.{Layer}
use Rattle.layers.specs.Over.{NextLayer}
use Rattle.walk.specs.Layers.{next_of, last_of, below_of, same_still}
use Rattle.walk.specs.Order.{Held}
use Rattle.walk.specs.Numbers.{held_sheeted}
use Rattle.walk.specs.Walk.{layers_skip}
use Rattle.counting.proofs.Growth.{few_none, few_more, few_of, grows_none, grows_made, grows_more}
use Rattle.counting.proofs.count_regular_cells.Goals as goal
use Rattle.counting.proofs.count_regular_cells.Goals.{After-layer_cases, In-Some}

-- the layer is the next one that is not passed over
next : (c : In-Some) → NextLayer c.args.header.block.subdivisions c.args.header.threshold c.args.summary.now c.loop-x.x-iterator.from c.in-Some.x
next c = next_of c.loop-x.invariant.0 c.in-Some.ensures.steps.0.0

-- the pairs, the sheet and its marks are as long as they were
still-long : (c : After-layer_cases) → (length c.layer_cases.new.pairs ≡ sheet_places) × ((length c.layer_cases.new.cases ≡ sheet_places) × (length c.layer_cases.new.marks ≡ sheet_places))
still-long c = (omega arith, (omega arith, omega arith))

-- the sheet and its marks hold the layer, whatever the neighbours are
held : (c : After-layer_cases) → (ns : List Float) → let a = c.args in
    Held (star a.header a.centre.now ns) (Layer c.in-Some.x) a.header.block.subdivisions c.layer_cases.new.cases [] c.layer_cases.new.marks
held c ns = record { numbers = c.layer_cases.ensures.cases ns; marked = c.layer_cases.ensures.marks ns }

pub loop-x-init : goal.loop-x-init
loop-x-init c =
    let start = c.layers_left-x-items.ensures in
    let long = length-replicate {A = ℕ} sheet_places 0 in
    rw (c.into_iter-x-iterator.ensures.into_iter_gives, start.from) (
      (start.n, (start.threshold, start.summary)),
      refl,
      no_pairs _ c.requires.subdivisions_le_most_subdivisions.0,
      record { cases_long = long; marks_long = long; few = few_none; grows = λ ns. grows_none },
    )

pub count_sheet-more-requires-clause-sheeted : goal.count_sheet-more-requires-clause-sheeted
count_sheet-more-requires-clause-sheeted c =
    let turn = (goal.at.count_sheet-more-requires-clause-sheeted c).After-layer_cases in
    let long = (still-long turn).1 in
    held_sheeted (star c.args.header c.args.centre.now []) (Layer c.in-Some.x) (held turn []) c.requires.subdivisions_le_most_subdivisions.0 long.0 long.1

pub loop-x-preserved : goal.loop-x-preserved
loop-x-preserved c =
    let at = goal.at.loop-x-preserved c in
    let steps = c.in-Some.ensures.steps in
    let come = next at.In-Some in
    let before = c.loop-x.invariant in
    let long = still-long at.After-layer_cases in (
      same_still before.0 steps.1.1,
      long.0,
      c.layer_cases.ensures.pairs,
      rw (c.add-counts.ensures, steps.1.0)
          (record {
            cases_long = long.1.0;
            marks_long = long.1.1;
            few = few_of _ (omega (arith, come.ordered)) (few_more before.3.few c.count_sheet-more.ensures.few);
            grows = λ ns.
                let s = star c.args.header c.args.centre.now ns in
                grows_more (regular_layer s) c.in-Some.x
                (grows_made (layers_skip s c.args.summary.now c.requires.trusted _ _ come) (before.3.grows ns))
                (c.count_sheet-more.ensures.grows s refl (below_of before.0 steps.0.1) (held at.After-layer_cases ns));
          }),
    )

pub returns-clause-grows : goal.returns-clause-grows
returns-clause-grows c =
    let before = c.loop-x.invariant in
    λ ns.
    grows_made (layers_skip (star c.args.header c.args.centre.now ns) c.args.summary.now c.requires.trusted _ _ (last_of before.0 c.in-None.ensures.steps.0)) (before.3.grows ns)
