-- `corners::renumber` meets its contract. The invariant: the corners before this one are renumbered, and the others stand as they were. Assumes nothing.
use Prim.Native.Nat.{ℕ, ◌+◌, ◌<◌}
use mathlib.Core.Path.{◌≡◌, ap, ◌∙◌}
use mathlib.Core.List.{List, map}
use native.Mathlib.Omega.{arith}
use lib.ListN.{length, get_or, take, set, length-set}
use Rattle.laws.specs.Steps.{laid}
use Rattle.laws.specs.LaidBuffers.{next_item, one_more, all_done}
use Rattle.weld.specs.Leaves.{corner_by}
use Rattle.weld.proofs.corners.renumber.Goals as goal

renumbered : (f : ℕ → ℕ) (triangles₀ triangles : List ℕ) (p corner : ℕ) → p < length triangles₀ → triangles ≡ laid (map f (take p triangles₀)) triangles₀
    → corner ≡ f (get_or triangles p 0) → set triangles p corner ≡ laid (map f (take (p + 1) triangles₀)) triangles₀
renumbered f triangles₀ triangles p corner l e is =
    let here : corner ≡ f (get_or triangles₀ p 0) = is ∙ ap f (ap (λ (t : List ℕ). get_or t p 0) e ∙ next_item f triangles₀ p 0 l) in
    rw (here, e) (one_more f triangles₀ p 0 l)

pub loop-place-preserved : goal.loop-place-preserved
loop-place-preserved c =
    let l = c.loop-place in
    (simp length-set (omega arith), (simp length-set l.invariant.1.0, renumbered (let a = c.args in corner_by a.table.now a.start a.end) c.args.triangles.now l.triangles l.place-index c.corner.result (omega arith) l.invariant.1.1 c.corner.ensures))

pub returns : goal.returns
returns c =
    let l = c.loop-place in
    let triangles = c.args.triangles.now in
    let all : l.place-index ≡ length triangles = omega arith in
    rw all at l.invariant.1.1 ∙ all_done (let a = c.args in corner_by a.table.now a.start a.end) triangles
