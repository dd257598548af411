-- `count_sheet` meets its contract: what each row adds is added up.
use Prim.Native.Nat.{◌*◌, ◌≤◌}
use Rattle.model.specs.Star.{Star}
use Rattle.cells.specs.SheetCells.{sheet_cell}
use Rattle.cells.specs.Puts.{Few}
use Rattle.walk.specs.Order.{LentHeld, rows_to}
use Rattle.counting.specs.Counting.{Grows}
use Rattle.counting.proofs.count_sheet.Given as goal

abbrev pub invariant-loop-u : goal.invariant-loop-u
invariant-loop-u l =
    (l.u ≤ l.n) × (Few (l.n * l.u) l.counts × ((s : Star) → LentHeld s l.n l.sheet → Grows (rows_to (sheet_cell s l.sheet.index) l.n l.u) l.counts))
