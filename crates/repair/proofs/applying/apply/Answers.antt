-- `apply` meets its contract. The invariant: the changes passed are made.
use Prim.Native.Nat.{ℕ, ◌<◌}
use mathlib.Core.Path.{◌≡◌, refl, sym, ap, ap₂, ◌∙◌, subst}
use native.Mathlib.Numerals.{add-one}
use native.Mathlib.Omega.{arith}
use lib.ListN.{length}
use Rattle.laws.specs.Steps.{iterate}
use Rattle.repair.specs.declared.Change.{Change}
use Rattle.repair.specs.Definition.{Delivery, delivery, in_list, made}
use Rattle.repair.specs.Listed.{change_in, makes, length_made}
use Rattle.repair.proofs.applying.apply.Goals as goal

pub loop-k-init : goal.loop-k-init
loop-k-init c = (omega arith, refl)

pub apply_one-requires : goal.apply_one-requires
apply_one-requires c = let words = c.args.changes.now in
    let k = c.loop-k.k in
    let change = change_in words k in
    let left = delivery c.loop-k.centre c.loop-k.neighbours in
    let long : length (in_list change.list left) ≡ length (in_list change.list (delivery c.args.centre.now c.args.neighbours.now)) =
    ap (λ (d : Delivery). length (in_list change.list d)) c.loop-k.invariant.1 ∙ length_made words k change.list (delivery c.args.centre.now c.args.neighbours.now) in
    let within : change.place < length (in_list change.list left) = rw long (c.requires.1 k (omega arith)) in
    subst (λ (change : Change). change.place < length (in_list change.list left)) (sym c.change_at.ensures) within

pub loop-k-preserved : goal.loop-k-preserved
loop-k-preserved c = let next =
    c.apply_one.ensures
    ∙ ap₂ made c.change_at.ensures c.loop-k.invariant.1 in
    (omega arith, rw add-one next)

pub shape_of-centre : goal.shape_of-centre
shape_of-centre c = ap (λ (d : Delivery). length d.centre) c.loop-k.invariant.1 ∙ length_made c.args.changes.now c.loop-k.k 0 (delivery c.args.centre.now c.args.neighbours.now)

pub shape_of-neighbours : goal.shape_of-neighbours
shape_of-neighbours c = ap (λ (d : Delivery). length d.neighbours) c.loop-k.invariant.1 ∙ length_made c.args.changes.now c.loop-k.k 1 (delivery c.args.centre.now c.args.neighbours.now)

pub returns : goal.returns
returns c = let all : c.loop-k.k ≡ c.args.count = omega arith in
    c.loop-k.invariant.1 ∙ ap (λ (k : ℕ). iterate (makes c.args.changes.now) k (delivery c.args.centre.now c.args.neighbours.now)) all
