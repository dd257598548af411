-- `marks::next_by_words` meets its contract. The loop's invariant: no place up to this one is marked.
use Prim.Native.Nat.{ℕ, ◌+◌, ◌-◌, ◌≤◌, ◌<◌}
use mathlib.Core.Path.{◌≡◌}
use lib.ListN.{get_or}
use Rattle.cases.proofs.marks.next_by_words.Given as goal

abbrev pub invariant-loop-k : goal.invariant-loop-k
invariant-loop-k l = ((l.from ≤ l.k) × (l.k ≤ l.from + l.n + 8)) × ((j : ℕ) → l.from ≤ j → j < l.k → get_or l.marks (l.start + j) 0 ≡ 0)

abbrev pub decreases-loop-k : goal.decreases-loop-k
decreases-loop-k l = l.n - l.k
