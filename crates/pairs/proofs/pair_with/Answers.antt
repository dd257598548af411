-- `pair_with` meets its contract: each place gets the pair that its sample makes of the one before.
use Prim.Native.Nat.{ℕ, ◌+◌, ◌*◌, ◌/◌, ◌<◌}
use mathlib.Core.Path.{◌≡◌, ◌∙◌}
use native.Mathlib.Omega.{arith}
use borrow.Author.Rules.{rules}
use lib.ListN.{get_or, length, take, length-take}
use lib.Ieee.{nan}
use Rattle.std.proofs.Common.{get_or-take}
use Rattle.model.specs.Formulas.{inside_bit}
use Rattle.cases.specs.Pairs.{paired_with}
use Rattle.cases.specs.Rows.{part_put}
use Rattle.pairs.proofs.pair_with.Goals as goal

pub returns : goal.returns
returns c =
    let a = c.args in
    let n = length a.samples.now in
    let part = c.renew.new.places in
    let case : ℕ → ℕ = paired_with a.threshold a.samples.now a.pairs.now in
    let long : length part ≡ n = c.renew.auto.places ∙ simp length-take (omega arith) in
    let made : (k : ℕ) → k < n → get_or part k 0 ≡ case k =
    λ k h.
    let at = c.renew.ensures.new k (omega (arith, h, long, c.renew.auto.places)) in
    let pair : get_or part k 0 ≡ get_or (take n a.pairs.now) k 0 / 2 + 2 * inside_bit a.threshold (get_or a.samples.now k nan) = search rules in
    rw (get_or-take n a.pairs.now k 0 h) at pair in
    part_put case 0 n a.pairs.now part (omega arith) long made
