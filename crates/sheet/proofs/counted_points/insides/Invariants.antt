-- `counted_points::insides` meets its contract. The loop's invariant: what is found is the sum over the samples passed.
use Rattle.std.specs.Prelude.{ℕ, ◌≡◌, ◌≤◌, List, Float, get_or}
use Rattle.std.specs.Float.{nan}
use Rattle.laws.specs.Steps.{total}
use Rattle.model.specs.Formulas.{inside_bit}
use Rattle.sheet.proofs.counted_points.insides.Given as goal

abbrev bit : Float → List Float → ℕ → ℕ
bit threshold samples k = inside_bit threshold (get_or samples k nan)

abbrev pub invariant-loop-sample : goal.invariant-loop-sample
invariant-loop-sample l = (l.found ≡ total (bit l.threshold l.samples) l.sample-index) × (l.found ≤ l.sample-index)
