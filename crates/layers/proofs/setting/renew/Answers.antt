-- `layers::setting::renew` meets its contract: a point of a face is in no layer, and one of the block is in those that hold its plane.
use Prim.Native.Nat.{ℕ, ◌-◌}
use native.Mathlib.Omega.{arith}
use mathlib.Core.Path.{◌≡◌, sym, ap, ap₂, ◌∙◌, subst}
use Rattle.model.specs.declared.PlaceKind.{PlaceKind}
use Rattle.model.specs.declared.PlaceKind.TheVariants.{InBlock}
use Rattle.model.specs.Samples.{kind_of}
use Rattle.grid.specs.Places.{inner_le}
use Rattle.layers.specs.Definition.{layers_made, renewed}
use Rattle.layers.specs.Places.{InPlane, Stored, is_stored}
use Rattle.layers.specs.Holding.{end_within, holding_ordered}
use Rattle.layers.proofs.setting.renew.Goals as goal
use Rattle.layers.proofs.setting.renew.Goals.{In_default}

in_block : (c : In_default) → kind_of c.args.n c.args.p.x c.args.p.y c.args.p.z ≡ InBlock
in_block c = sym c.kind-stored.ensures ∙ c.in_default.is

in_plane : (c : In_default) → InPlane c.args.n c.args.p
in_plane c = subst (Stored c.args.n c.args.p) (in_block c) (is_stored c.args.n c.args.p c.requires.1.0)

pub returns-in-Face : goal.returns-in-Face
returns-in-Face c =
    let a = c.args in
    sym
    (ap (λ (k : PlaceKind). renewed k a.n a.samples.now (a.p.x - 1) a.summary.now)
    (sym c.kind-stored.ensures ∙ c.in-Face.is))

pub overflow_sub-x : goal.overflow_sub-x
overflow_sub-x c = omega (arith, (in_plane (goal.at.overflow_sub-x c).In_default).x_in)

pub put_layers-requires : goal.put_layers-requires
put_layers-requires c =
    let a = c.args in
    let x = a.p.x - 1 in
    let from = c.first_holding.ensures in
    let to = c.end_holding.ensures in (
      c.requires.0,
      (
        omega (arith, from, to, holding_ordered a.n x (inner_le (in_plane (goal.at.put_layers-requires c).In_default).x_in)),
        (omega (arith, to, end_within a.n x), c.requires.1.1),
      ),
    )

pub returns : goal.returns
returns c =
    let a = c.args in
    c.put_layers.ensures
    ∙ ap₂ (λ (from to : ℕ). layers_made a.n a.samples.now from to a.summary.now) c.first_holding.ensures c.end_holding.ensures
    ∙ sym (ap (λ (k : PlaceKind). renewed k a.n a.samples.now (a.p.x - 1) a.summary.now) (in_block (goal.at.returns c).In_default))
