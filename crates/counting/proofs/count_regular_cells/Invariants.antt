-- `count_regular_cells` meets its contract: what each layer adds is added up, those passed over add nothing, and the pairs go with the walk.
use Prim.Native.Nat.{◌*◌}
use mathlib.Core.Path.{◌≡◌}
use mathlib.Core.List.{List, []}
use lib.Ieee.{Float}
use lib.ListN.{length}
use Rattle.laws.specs.Steps.{iterate}
use Rattle.model.specs.Star.{star}
use Rattle.model.specs.Mesh.{regular_layer}
use Rattle.cases.specs.Sheets.{sheet_places}
use Rattle.cases.specs.Pairs.{Upper}
use Rattle.walk.specs.Layers.{SameWalk}
use Rattle.counting.specs.Counting.{paired_bits}
use Rattle.counting.proofs.Growth.{Come}
use Rattle.counting.proofs.count_regular_cells.Given as goal

abbrev pub invariant-loop-x : goal.invariant-loop-x
invariant-loop-x l =
    let walk = l.x-iterator in
    SameWalk l.n l.header.threshold l.summary walk.n walk.threshold walk.summary.now
    × (length l.pairs ≡ sheet_places)
    × Upper l.n (paired_bits (star l.header l.centre []) l.paired) l.pairs
    × Come (sheet_places * walk.from) (λ (ns : List Float). iterate (regular_layer (star l.header l.centre ns)) walk.from) l.cases l.marks l.counts
