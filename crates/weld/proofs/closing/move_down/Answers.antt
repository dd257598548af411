-- `closing::move_down` meets its contract. The invariant: the first k numbers have gone down, and those that are left stand as they were.
-- Assumes nothing.
use Prim.Native.Nat.{ℕ, ◌+◌, ◌*◌, ◌≤◌}
use mathlib.Core.Path.{◌≡◌, ap, ◌∙◌}
use mathlib.Core.List.{List}
use native.Mathlib.Omega.{arith}
use lib.Ieee.{Float, nan}
use lib.ListN.{get_or, set, length-set}
use lib.Seq.{sets}
use Rattle.laws.specs.Steps.{listed}
use Rattle.laws.specs.Lists.{length_listed, sets_beyond}
use Rattle.laws.specs.Gathered.{sets_listed}
use Rattle.weld.proofs.closing.move_down.Goals as goal

abbrev six : List Float → ℕ → ℕ → Float
six vertices from j = get_or vertices (6 * from + j) nan

one_more : (vertices₀ vertices : List Float) (from to k : ℕ) → to ≤ from → vertices ≡ sets vertices₀ (6 * to) (listed (six vertices₀ from) k)
    → set vertices (6 * to + k) (six vertices from k) ≡ sets vertices₀ (6 * to) (listed (six vertices₀ from) (k + 1))
one_more vertices₀ vertices from to k l e =
    let moved = listed (six vertices₀ from) k in
    let there : six vertices from k ≡ six vertices₀ from k =
    ap (λ (v : List Float). six v from k) e ∙ sets_beyond vertices₀ (6 * to) (6 * from + k) nan moved (omega (arith, length_listed (six vertices₀ from) k)) in
    rw (there, e) (sets_listed (six vertices₀ from) vertices₀ (6 * to) k)

pub loop-k-preserved : goal.loop-k-preserved
loop-k-preserved c =
    let a = c.args in
    let l = c.loop-k in
    (omega arith, (simp length-set l.invariant.1.0, one_more a.vertices.now l.vertices a.from a.to l.k (omega arith) l.invariant.1.1))

pub returns : goal.returns
returns c =
    let l = c.loop-k in
    let all : l.k ≡ 6 = omega arith in
    rw all at l.invariant.1.1
