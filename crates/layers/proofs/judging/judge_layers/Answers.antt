-- `layers::judging::judge_layers` meets its contract. The invariant: each layer before this one stands.
use Rattle.std.specs.Prelude.{Ok}
use Prim.Native.Nat.{ℕ}
use native.Mathlib.Omega.{arith}
use mathlib.Core.Path.{◌≡◌, refl, sym, ap, ◌∙◌}
use mathlib.Core.Bool.{Bool, true, false}
use mathlib.Core.List.{List}
use lib.Ieee.{Float}
use Rattle.model.specs.declared.Refusal.TheVariants.{LayerDiffers}
use Rattle.model.specs.Answers.{Verdict}
use Rattle.model.specs.Refusals.{unless, first}
use Rattle.model.specs.Layers.{layer_stands, judge_layers}
use Rattle.judge.specs.First.{not_yet, hit}
use Rattle.layers.proofs.judging.judge_layers.Goals as goal
use Rattle.layers.proofs.judging.judge_layers.Goals.{After-layer_stands}

abbrev spot_of : ℕ → List Float → List Float → ℕ → Verdict
spot_of n samples summary x = unless (layer_stands n samples summary x) (LayerDiffers x)

so_far : (c : After-layer_stands) → first (spot_of c.args.n c.args.samples.now c.args.summary.now) c.loop-x.x ≡ Ok tt
so_far c = c.loop-x.invariant.1

judged : (c : After-layer_stands) → (b : Bool) → c.layer_stands.result ≡ b → (spot_of c.args.n c.args.samples.now c.args.summary.now) c.loop-x.x ≡ unless b (LayerDiffers c.loop-x.x)
judged c b e = ap (λ (b : Bool). unless b (LayerDiffers c.loop-x.x)) (sym c.layer_stands.ensures ∙ e)

pub loop-x-init : goal.loop-x-init
loop-x-init c = (omega arith, refl)

pub layer_stands-requires : goal.layer_stands-requires
layer_stands-requires c =
    let pre = c.requires in
    (pre.0, (pre.1, omega arith))

pub returns-then-not-layer_stands : goal.returns-then-not-layer_stands
unfolding judge_layers
returns-then-not-layer_stands c =
    sym (hit (spot_of c.args.n c.args.samples.now c.args.summary.now) c.loop-x.x c.args.n _ (so_far (goal.at.returns-then-not-layer_stands c).After-layer_stands) (judged (goal.at.returns-then-not-layer_stands c).After-layer_stands false c.if-not-layer_stands.true) (omega arith))

pub overflow_step-x : goal.overflow_step-x
overflow_step-x c = omega arith

pub loop-x-smaller : goal.loop-x-smaller
loop-x-smaller c = omega arith

pub loop-x-preserved : goal.loop-x-preserved
loop-x-preserved c =
    (omega arith, not_yet (spot_of c.args.n c.args.samples.now c.args.summary.now) c.loop-x.x (so_far (goal.at.loop-x-preserved c).After-layer_stands) (judged (goal.at.loop-x-preserved c).After-layer_stands true c.if-not-layer_stands.false))

pub returns : goal.returns
unfolding judge_layers
returns c =
    let a = c.args in
    let turn = c.loop-x in
    let end : turn.x ≡ a.n = omega arith in
    sym (ap (first (spot_of a.n a.samples.now a.summary.now)) (sym end) ∙ turn.invariant.1)
