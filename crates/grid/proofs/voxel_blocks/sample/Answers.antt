-- `grid::voxel_blocks::sample` meets its contract.
use mathlib.Core.Path.{ap, sym, ◌∙◌}
use Prim.Native.Nat.{ℕ}
use lib.Ieee.{nan}
use lib.ListN.{get_or}
use Rattle.grid.specs.Places.{sample_is}
use Rattle.grid.proofs.voxel_blocks.sample.Goals as goal

pub returns : goal.returns
returns c =
    c.value_in_block.ensures
    ∙ ap (λ (k : ℕ). get_or c.args.samples.now k nan) c.in_block.ensures.0
    ∙ sym (sample_is c.args.n c.args.samples.now c.args.p c.requires.1.1)
