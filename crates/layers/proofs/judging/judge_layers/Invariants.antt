-- `layers::judging::judge_layers` meets its contract. The invariant: each layer before this one stands.
use Rattle.std.specs.Prelude.{Ok}
use Prim.Native.Nat.{ℕ, ◌≤◌}
use mathlib.Core.Path.{◌≡◌}
use mathlib.Core.List.{List}
use lib.Ieee.{Float}
use Rattle.model.specs.declared.Refusal.TheVariants.{LayerDiffers}
use Rattle.model.specs.Answers.{Verdict}
use Rattle.model.specs.Refusals.{unless, first}
use Rattle.model.specs.Layers.{layer_stands}
use Rattle.layers.proofs.judging.judge_layers.Given as goal

abbrev spot_of : ℕ → List Float → List Float → ℕ → Verdict
spot_of n samples summary x = unless (layer_stands n samples summary x) (LayerDiffers x)

abbrev pub invariant-loop-x : goal.invariant-loop-x
invariant-loop-x l = (l.x ≤ l.n) × (first (spot_of l.n l.samples l.summary) l.x ≡ Ok tt)
