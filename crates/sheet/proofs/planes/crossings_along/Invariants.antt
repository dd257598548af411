-- `planes::crossings_along` meets its contract. The loop's invariant: what is found is the sum over the lines passed.
use Prim.Native.Nat.{ℕ, ◌*◌, ◌≤◌}
use mathlib.Core.Path.{◌≡◌}
use Rattle.laws.specs.Steps.{total}
use Rattle.model.specs.Star.{Star, subdivisions}
use Rattle.sheet.specs.Definition.{crosses_z}
use Rattle.cases.specs.Sheets.{Measured, Plane}
use Rattle.sheet.proofs.planes.crossings_along.Given as goal

-- the crossing edges of a line
abbrev pub in_line : Star → ℕ → ℕ → ℕ
in_line s x y = total (crosses_z s x y) (subdivisions s)

abbrev pub invariant-loop-y : goal.invariant-loop-y
invariant-loop-y l =
    (l.found ≤ l.n * l.y) × ((s : Star) (x : ℕ) → Measured s l.n l.threshold → Plane s x l.plane → l.found ≡ total (in_line s x) l.y)
