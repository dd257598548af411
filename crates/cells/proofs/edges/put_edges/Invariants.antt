-- `edges::put_edges` meets its contract. The loop's invariant: the list is as the definition's first k vertices leave it. Assumes nothing.
use Prim.Native.Nat.{ℕ, ◌+◌, ◌≤◌}
use mathlib.Core.Path.{◌≡◌}
use mathlib.Core.Bool.{Bool}
use mathlib.Core.List.{List}
use lib.ListN.{length}
use Rattle.model.specs.Star.{Star, subdivisions}
use Rattle.codes.specs.Kinds.{cell_of}
use Rattle.cells.specs.Edges.{EdgesTo}
use Rattle.cells.proofs.edges.put_edges.Given as goal

abbrev pub invariant-loop-code : goal.invariant-loop-code
invariant-loop-code l =
    (l.next ≤ l.base + l.code-index)
    × (length l.edges ≡ length l.initial.edges)
    × ((s : Star) (turned : Bool) (store : List ℕ) → subdivisions s ≡ l.n
    → EdgesTo (cell_of s l.cell.at l.cell.codes.now l.cell.row.now turned) l.base store l.code-index l.initial.edges l.next l.edges)
