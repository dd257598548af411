-- `count_named_sides` meets its contract: what each named side adds is added up, and the others add nothing.
use native.Mathlib.Omega.{arith}
use Prim.Native.Nat.{ℕ}
use mathlib.Core.Path.{◌≡◌, refl, sym, ◌∙◌}
use mathlib.Core.List.{List, []}
use lib.Ieee.{Float}
use lib.ListN.{length, length-replicate}
use Rattle.model.specs.Limits.{side_count}
use Rattle.model.specs.Star.{star}
use Rattle.model.specs.Mesh.{transition_side}
use Rattle.grid.specs.SideLaws.{NextSide}
use Rattle.cases.specs.Sheets.{sheet_places}
use Rattle.cells.specs.declared.SheetIndex.TheVariants.{Side}
use Rattle.walk.specs.Order.{Held}
use Rattle.walk.specs.Numbers.{held_sheeted}
use Rattle.walk.specs.Walk.{sides_skip}
use Rattle.counting.proofs.Growth.{few_none, few_more, few_of, grows_none, grows_more, grows_as}
use Rattle.counting.proofs.count_named_sides.Goals as goal
use Rattle.counting.proofs.count_named_sides.Goals.{After-face_cases, In-Some}

-- the side is the next one that is named
next : (c : In-Some) → NextSide c.args.header.mask c.loop-side.side-iterator.from c.in-Some.side
next c = rw c.loop-side.invariant.0 at c.in-Some.ensures.steps.0.0

-- the sheet and its marks are as long as they were
still-long : (c : After-face_cases) → (length c.face_cases.new.cases ≡ sheet_places) × (length c.face_cases.new.marks ≡ sheet_places)
still-long c =
    let before = c.loop-side.invariant.1 in
    (c.face_cases.auto.cases ∙ before.cases_long, c.face_cases.auto.marks ∙ before.marks_long)

-- they hold the side, whatever the block's own samples are
held : (c : After-face_cases) → (centre : List Float) → let a = c.args in
    Held (star a.header centre a.neighbours.now) (Side c.in-Some.side) a.header.block.subdivisions [] c.face_cases.new.cases c.face_cases.new.marks
held c centre = record { numbers = c.face_cases.ensures.cases centre; marked = c.face_cases.ensures.marks centre }

pub loop-side-init : goal.loop-side-init
loop-side-init c =
    let first = c.named_sides-side-items.ensures in
    rw (c.into_iter-side-iterator.ensures.into_iter_gives, first.from) (
      first.mask,
      record {
        cases_long = length-replicate {A = ℕ} sheet_places 0;
        marks_long = length-replicate {A = ℕ} sheet_places 0;
        few = few_none;
        grows = λ centre. grows_none;
      },
    )

pub count_sheet-more-requires-clause-sheeted : goal.count_sheet-more-requires-clause-sheeted
count_sheet-more-requires-clause-sheeted c =
    let turn = (goal.at.count_sheet-more-requires-clause-sheeted c).After-face_cases in
    let long = still-long turn in
    held_sheeted (star c.args.header [] c.args.neighbours.now) (Side c.in-Some.side) (held turn []) c.requires.few long.0 long.1

pub loop-side-preserved : goal.loop-side-preserved
loop-side-preserved c =
    let at = goal.at.loop-side-preserved c in
    let steps = c.in-Some.ensures.steps in
    let come = next at.In-Some in
    let before = c.loop-side.invariant in
    let long = still-long at.After-face_cases in (
      steps.1.0 ∙ before.0,
      rw (c.add-counts.ensures, steps.1.1)
          (record {
            cases_long = long.0;
            marks_long = long.1;
            few = few_of _ (omega (arith, come.from_le)) (few_more before.1.few c.count_sheet-more.ensures.few);
            grows = λ centre.
                let s = star c.args.header centre c.args.neighbours.now in
                grows_more (transition_side s) c.in-Some.side (grows_as (λ m. sym (sides_skip s m _ _ come)) (before.1.grows centre))
                (c.count_sheet-more.ensures.grows s refl (steps.0.1, come.is_named steps.0.1) (held at.After-face_cases centre));
          }),
    )

pub returns : goal.returns
returns c =
    let before = c.loop-side.invariant in
    let last : NextSide c.args.header.mask c.loop-side.side-iterator.from side_count = rw before.0 at c.in-None.ensures.steps.0 in
    record {
      few = few_of _ (omega (arith, last.from_le)) before.1.few;
      grows = λ centre. grows_as (λ m. sym (sides_skip (star c.args.header centre c.args.neighbours.now) m _ _ last)) (before.1.grows centre);
    }
