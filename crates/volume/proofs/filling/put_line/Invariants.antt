-- `put_line` meets its contract. The invariant: the columns passed are put.
use mathlib.Core.Path.{◌≡◌}
use lib.ListN.{length}
use Rattle.volume.specs.Putting.{LinePut}
use Rattle.volume.proofs.filling.put_line.Given as goal

abbrev pub invariant-loop-j : goal.invariant-loop-j
invariant-loop-j l =
    (length l.samples ≡ length l.initial.samples) × LinePut l.bytes l.xs l.fixed l.along l.first.at l.first.wide l.first.rows l.j l.initial.samples l.samples
