-- `put_column` meets its contract. The invariant: the rows passed are put.
use Prim.Native.Nat.{◌≤◌}
use mathlib.Core.Path.{◌≡◌}
use lib.ListN.{length}
use Rattle.volume.specs.Putting.{ColumnPut}
use Rattle.volume.proofs.filling.put_column.Given as goal

abbrev pub invariant-loop-k : goal.invariant-loop-k
invariant-loop-k l =
    (l.k ≤ l.column.rows) × (length l.samples ≡ length l.initial.samples) × ColumnPut l.bytes l.xs l.row l.column.at l.column.wide l.k l.initial.samples l.samples
