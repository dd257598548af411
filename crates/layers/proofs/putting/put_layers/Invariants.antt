-- `layers::putting::put_layers` meets its contract. The invariant: the layers passed are made.
use Prim.Native.Nat.{ℕ, ◌+◌, ◌-◌, ◌*◌, ◌≤◌}
use mathlib.Core.Path.{◌≡◌}
use mathlib.Core.List.{List}
use lib.Ieee.{Float}
use lib.ListN.{length}
use lib.Seq.{sets}
use Rattle.laws.specs.Counting.{gather}
use Rattle.layers.specs.Definition.{layer_floats}
use Rattle.layers.proofs.putting.put_layers.Given as goal

-- a summary with so many layers from one on made
abbrev madeFrom : ℕ → List Float → ℕ → List Float → ℕ → List Float
madeFrom n samples from summary k = sets summary (2 * from) (gather (λ k. layer_floats n samples (from + k)) k)

abbrev pub invariant-loop-x : goal.invariant-loop-x
invariant-loop-x l =
    (l.from ≤ l.x) × (l.x ≤ l.to) × (length l.summary ≡ length l.initial.summary) × (l.summary ≡ madeFrom l.n l.samples l.from l.initial.summary (l.x - l.from))
