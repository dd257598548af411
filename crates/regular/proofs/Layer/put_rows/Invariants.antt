-- `Layer::put_rows` meets its contract. The loop's invariant: the rows passed are written.
use Prim.Native.Nat.{ℕ, ◌+◌}
use Rattle.model.specs.Star.{Star}
use Rattle.model.specs.Points.{regular_case}
use Rattle.cases.specs.Sheets.{Sheet, Measured, Plane}
use Rattle.regular.proofs.Layer.put_rows.Given as goal

abbrev pub invariant-loop-y : goal.invariant-loop-y
invariant-loop-y l =
    (s : Star) (x : ℕ) → Measured s l.self.n l.self.threshold → Plane s x l.self.low.now → Plane s (x + 1) l.self.high.now → Sheet (regular_case s x) l.self.n l.y l.cases
