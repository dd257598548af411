-- `closing::move_down` meets its contract. The invariant: the first k numbers have gone down, and those that are left stand as they were.
-- Assumes nothing.
use Prim.Native.Nat.{◌+◌, ◌*◌, ◌≤◌}
use mathlib.Core.Path.{◌≡◌}
use lib.Ieee.{nan}
use lib.ListN.{length, get_or}
use lib.Seq.{sets}
use Rattle.laws.specs.Steps.{listed}
use Rattle.weld.proofs.closing.move_down.Given as goal

abbrev pub invariant-loop-k : goal.invariant-loop-k
invariant-loop-k l = (l.k ≤ 6) × ((length l.vertices ≡ length l.initial.vertices) × (l.vertices ≡ sets l.initial.vertices (6 * l.to) (listed (λ j. get_or l.initial.vertices (6 * l.from + j) nan) l.k)))
