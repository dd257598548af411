-- `layers::extents::layer_extent` meets its contract: the layer's samples are a stretch of the list.
use Prim.Native.Nat.{ℕ}
use native.Mathlib.Omega.{arith}
use mathlib.Core.Path.{ap₂, ◌∙◌}
use Rattle.model.specs.Layers.{extent_of, layer_extent}
use Rattle.layers.specs.Held.{samples_from}
use Rattle.layers.specs.Places.{layer_held, layer_starts}
use Rattle.layers.proofs.extents.layer_extent.Goals as goal

pub extent_from-requires : goal.extent_from-requires
extent_from-requires c =
    let a = c.args in
    let from = c.in_block.ensures.0 in (
      omega (arith, from, layer_starts a.n a.x c.requires.1 a.samples.now c.requires.0),
      omega (arith, from, c.layer_count.ensures, layer_held a.n a.x c.requires.1 a.samples.now c.requires.0),
    )

pub returns : goal.returns
unfolding layer_extent
returns c =
    let samples = c.args.samples.now in
    c.extent_from.ensures
    ∙ ap₂ (λ (from count : ℕ). extent_of (samples_from samples from) count) c.in_block.ensures.0 c.layer_count.ensures
