-- `point_on` meets its contract: a square of an x, or the face that its number names.
use Prim.Native.Nat.{ℕ, ◌+◌, ◌-◌}
use native.Mathlib.Omega.{arith}
use mathlib.Core.Path.{◌≡◌, refl, sym, ◌∙◌}
use Rattle.volume.specs.Definition.{point_beside, point_on}
use Rattle.volume.specs.Squares.{point_block, point_beside_lem, beside_last}
use Rattle.volume.proofs.places.point_on.Goals as goal
use Rattle.volume.proofs.places.point_on.Goals.{Else-square-n}

-- the face by its number
face : (c : Else-square-n) → (k : ℕ) → c.args.square - (c.args.n + 1) ≡ k
    → point_beside c.args.n k c.args.i c.args.j
    ≡ point_on c.args.n c.args.square c.args.i c.args.j
face c k is =
    let args = c.args in
    sym (point_beside_lem args.n args.i args.j args.square k (omega arith))

pub returns-then-square-n : goal.returns-then-square-n
returns-then-square-n c =
    let args = c.args in
    sym (point_block args.n args.i args.j args.square c.if-square-n.true)

pub returns-in-0 : goal.returns-in-0
returns-in-0 c = face (goal.at.returns-in-0 c).Else-square-n 0 c.in-0.is

pub returns-in-1 : goal.returns-in-1
returns-in-1 c = face (goal.at.returns-in-1 c).Else-square-n 1 c.in-1.is

pub returns-in-2 : goal.returns-in-2
returns-in-2 c = face (goal.at.returns-in-2 c).Else-square-n 2 c.in-2.is

pub returns-in-3 : goal.returns-in-3
returns-in-3 c = face (goal.at.returns-in-3 c).Else-square-n 3 c.in-3.is

pub returns-in-4 : goal.returns-in-4
returns-in-4 c = face (goal.at.returns-in-4 c).Else-square-n 4 c.in-4.is

pub returns-in_default : goal.returns-in_default
returns-in_default c =
    let args = c.args in
    let k = args.square - (args.n + 1) in
    sym (beside_last args.n args.i args.j k (omega arith)) ∙ face (goal.at.returns-in_default c).Else-square-n k refl
