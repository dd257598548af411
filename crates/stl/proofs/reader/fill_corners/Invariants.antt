-- `fill_corners` meets its contract. The invariant: the floats passed stand from `at` on.
use Prim.Native.Nat.{ℕ, ◌+◌, ◌*◌, ◌≤◌}
use mathlib.Core.Path.{◌≡◌}
use mathlib.Core.List.{List}
use lib.Ieee.{Float}
use lib.ListN.{length}
use lib.Seq.{sets}
use Rattle.laws.specs.Steps.{listed}
use Rattle.stl.specs.Definition.{float_count}
use Rattle.model.specs.Words.{little_float_at}
use Rattle.stl.proofs.reader.fill_corners.Given as goal

abbrev floatFrom : List ℕ → ℕ → ℕ → Float
floatFrom bytes from k = little_float_at bytes (from + 4 * k)

abbrev pub invariant-loop-k : goal.invariant-loop-k
invariant-loop-k l =
    (l.k ≤ float_count) × (length l.positions ≡ length l.initial.positions) × (l.positions ≡ sets l.initial.positions l.at (listed (floatFrom l.bytes l.from) l.k))
