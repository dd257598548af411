-- `layers::extents::extent_from` meets its contract. The invariant: the two are the best of the samples passed.
use Prim.Native.Nat.{◌≤◌}
use mathlib.Core.Path.{◌≡◌}
use Rattle.model.specs.Layers.{best_of, less, more}
use Rattle.layers.specs.Held.{samples_from}
use Rattle.layers.proofs.extents.extent_from.Given as goal

abbrev pub invariant-loop-k : goal.invariant-loop-k
invariant-loop-k l =
    (l.k ≤ l.count) × (l.least ≡ best_of less (samples_from l.samples l.from) l.k) × (l.greatest ≡ best_of more (samples_from l.samples l.from) l.k)
