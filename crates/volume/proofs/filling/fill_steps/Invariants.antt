-- `fill_steps` meets its contract. The invariant: the slots passed have what they add.
use Prim.Native.Nat.{ℕ, ◌+◌, ◌*◌, ◌<◌}
use mathlib.Core.Path.{◌≡◌}
use lib.ListN.{length, get_or}
use Rattle.volume.specs.Definition.{nearest}
use Rattle.volume.specs.Slots.{slot_up}
use Rattle.volume.proofs.filling.fill_steps.Given as goal

abbrev stepAt : ℕ → ℕ → ℕ → ℕ → ℕ → ℕ
stepAt n size first step slot = step * nearest size (first + slot_up n slot)

abbrev pub invariant-loop-k : goal.invariant-loop-k
invariant-loop-k l =
    (length l.added-items ≡ length l.initial.added-items) × ((i : ℕ) → i < l.k → get_or l.added-items i 0 ≡ stepAt l.n l.size l.first l.step i)
