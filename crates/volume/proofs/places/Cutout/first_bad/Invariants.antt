-- `Cutout::first_bad` meets its contract. The invariant: no sample passed is refused.
use Rattle.std.specs.Prelude.{Ok}
use Prim.Native.Nat.{◌≤◌}
use mathlib.Core.Path.{◌≡◌}
use Rattle.model.specs.Samples.{sample_length}
use Rattle.model.specs.Refusals as Refusals
use Rattle.volume.specs.Definition.{taken_usable}
use Rattle.volume.proofs.places.Cutout.first_bad.Given as goal

abbrev pub invariant-loop-place : goal.invariant-loop-place
invariant-loop-place l =
    (l.place ≤ l.place-end) × (l.place-end ≡ sample_length l.self.n) × (Refusals.first (taken_usable l.bytes l.self.sizes l.self.n l.self.first) l.place ≡ Ok tt)
