-- `count_named_sides` meets its contract: what each named side adds is added up, and the others add nothing.
use Prim.Native.Nat.{◌*◌}
use mathlib.Core.Path.{◌≡◌}
use mathlib.Core.List.{List}
use lib.Ieee.{Float}
use Rattle.laws.specs.Steps.{iterate}
use Rattle.model.specs.Star.{star}
use Rattle.model.specs.Mesh.{transition_side}
use Rattle.cases.specs.Sheets.{sheet_places}
use Rattle.counting.proofs.Growth.{Come}
use Rattle.counting.proofs.count_named_sides.Given as goal

abbrev pub invariant-loop-side : goal.invariant-loop-side
invariant-loop-side l =
    let from = l.side-iterator.from in
    (l.side-iterator.mask ≡ l.header.mask)
    × Come (sheet_places * from) (λ (centre : List Float). iterate (transition_side (star l.header centre l.neighbours)) from) l.cases l.marks l.counts
