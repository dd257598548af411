-- `apply` meets its contract. The invariant: the changes passed are made.
use Prim.Native.Nat.{◌≤◌}
use mathlib.Core.Path.{◌≡◌}
use Rattle.laws.specs.Steps.{iterate}
use Rattle.repair.specs.Definition.{delivery}
use Rattle.repair.specs.Listed.{makes}
use Rattle.repair.proofs.applying.apply.Given as goal

abbrev pub invariant-loop-k : goal.invariant-loop-k
invariant-loop-k l = (l.k ≤ l.count) × (delivery l.centre l.neighbours ≡ iterate (makes l.changes) l.k (delivery l.initial.centre l.initial.neighbours))
