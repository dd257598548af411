-- `layers::putting::put_layers` meets its contract. The invariant: the layers passed are made.
use Prim.Native.Nat.{ℕ, ◌+◌, ◌-◌, ◌*◌}
use native.Mathlib.Omega.{arith}
use mathlib.Core.Path.{◌≡◌, refl, ap, ap₂, ◌∙◌}
use mathlib.Core.List.{List}
use lib.Ieee.{Float}
use lib.ListN.{length}
use lib.Seq.{sets, length-sets}
use Rattle.laws.specs.Counting.{gather}
use Rattle.laws.specs.Gathered.{sets_gather}
use Rattle.layers.specs.Definition.{layer_floats, layers_made}
use Rattle.layers.proofs.putting.put_layers.Goals as goal

-- a summary with so many layers from one on made
abbrev madeFrom : ℕ → List Float → ℕ → List Float → ℕ → List Float
madeFrom n samples from summary k = sets summary (2 * from) (gather (λ k. layer_floats n samples (from + k)) k)

pub loop-x-init : goal.loop-x-init
loop-x-init c =
    let a = c.args in
    let none : a.from - a.from ≡ 0 = omega arith in
    (omega arith, omega arith, refl, rw none)

pub put_layer-requires : goal.put_layer-requires
put_layer-requires c =
    let turn = c.loop-x in
    let pre = c.requires in
    (pre.0, (omega (arith, turn.invariant, pre.1), omega (arith, turn.invariant, pre.1)))

pub overflow_step-x : goal.overflow_step-x
overflow_step-x c = omega arith

pub loop-x-smaller : goal.loop-x-smaller
loop-x-smaller c = omega arith

pub loop-x-preserved : goal.loop-x-preserved
loop-x-preserved c =
    let turn = c.loop-x in
    let a = c.args in
    let x = turn.x in
    let from = a.from in
    let summary = a.summary.now in
    let f : ℕ → List Float = λ k. layer_floats a.n a.samples.now (from + k) in
    let place : 2 * x ≡ 2 * from + 2 * (x - from) = omega (arith, turn.invariant.0) in
    let layer : x ≡ from + (x - from) = omega (arith, turn.invariant.0) in
    let more : x - from + 1 ≡ x + 1 - from = omega (arith, turn.invariant.0) in
    let made =
    c.put_layer.ensures
    ∙ ap (λ (l : List Float). sets l (2 * x) (layer_floats a.n a.samples.now x)) turn.invariant.3
    ∙ ap₂ (λ (at y : ℕ). sets (sets summary (2 * from) (gather f (x - from))) at (layer_floats a.n a.samples.now y)) place layer
    ∙ sets_gather f 2 (λ k. refl) summary (2 * from) (x - from)
    ∙ ap (madeFrom a.n a.samples.now from summary) more in
    (omega arith, omega arith, ap length made ∙ length-sets summary (2 * from) (gather f (x + 1 - from)), made)

pub shape_of-summary : goal.shape_of-summary
shape_of-summary c = c.loop-x.invariant.2

pub returns : goal.returns
unfolding layers_made
returns c =
    let a = c.args in
    let turn = c.loop-x in
    let end : turn.x ≡ a.to = omega arith in
    turn.invariant.3 ∙ ap (λ (x : ℕ). madeFrom a.n a.samples.now a.from a.summary.now (x - a.from)) end
