-- `layers::judging::layer_stands` meets its contract: a marked layer stands, and any other where its two numbers are in value those of its samples.
use Prim.Native.Nat.{ℕ}
use native.Mathlib.Omega.{arith}
use mathlib.Core.Path.{◌≡◌, sym, ap, ap₂, ◌∙◌}
use mathlib.Core.Bool.{Bool, ◌||◌}
use Rattle.model.specs.declared.Extent.{Extent}
use Rattle.model.specs.Layers.{extent_of, layer_extent, entry_of, marked, agree}
use Rattle.layers.specs.Held.{samples_from}
use Rattle.layers.specs.Places.{some_samples, layer_held}
use Rattle.layers.specs.Over.{mark_told}
use Rattle.layers.proofs.judging.layer_stands.Goals as goal
use Rattle.layers.proofs.judging.layer_stands.Goals.{After-is_marked}

is-told : (c : After-is_marked) → (b : Bool) → c.is_marked.result ≡ b → marked (entry_of c.args.summary.now c.args.x) ≡ b
is-told c b = mark_told c.entry-told.ensures c.is_marked.ensures

pub entry-told-requires : goal.entry-told-requires
entry-told-requires c = omega (arith, c.requires.0.few, c.requires.1.1)

pub returns-then-is_marked : goal.returns-then-is_marked
returns-then-is_marked c =
    sym (ap (λ (b : Bool). b || agree (entry_of c.args.summary.now c.args.x) (layer_extent c.args.n c.args.samples.now c.args.x)) (is-told (goal.at.returns-then-is_marked c).After-is_marked _ c.if-is_marked.true))

pub is_extent-requires : goal.is_extent-requires
is_extent-requires c =
    let a = c.args in (
      c.requires.1.0,
      (
        omega (arith, c.layer_count.ensures, some_samples a.n),
        omega (arith, c.in_block.ensures.0, c.layer_count.ensures, layer_held a.n a.x c.requires.1.1 a.samples.now c.requires.0),
      ),
    )

pub returns : goal.returns
unfolding layer_extent
returns c =
    let samples = c.args.samples.now in
    c.is_extent.ensures
    ∙ ap₂ (λ (from count : ℕ). agree c.entry-told.result (extent_of (samples_from samples from) count)) c.in_block.ensures.0 c.layer_count.ensures
    ∙ ap (λ (e : Extent). agree e (layer_extent c.args.n c.args.samples.now c.args.x)) c.entry-told.ensures
    ∙ sym (ap (λ (b : Bool). b || agree (entry_of c.args.summary.now c.args.x) (layer_extent c.args.n c.args.samples.now c.args.x)) (is-told (goal.at.returns c).After-is_marked _ c.if-is_marked.false))
