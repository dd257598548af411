-- `grid::voxel_blocks::reading` meets its contract: a point that was sampled is read at its place, with its kind.
use Rattle.std.specs.Prelude.{Err}
use mathlib.Core.Path.{◌≡◌, ap, sym, ◌∙◌}
use mathlib.Core.Bool.{true}
use Rattle.model.specs.Samples.{sampled}
use Rattle.grid.specs.Kinds.{reading_value, reading_never}
use Rattle.grid.proofs.voxel_blocks.reading.Goals as goal
use Rattle.grid.proofs.voxel_blocks.reading.Goals.{Then-is_sampled}

was_sampled : (c : Then-is_sampled) → let a = c.args in sampled a.n a.x a.y a.z ≡ true
was_sampled c = sym c.is_sampled.ensures ∙ c.if-is_sampled.true

pub place-requires : goal.place-requires
place-requires c = (c.requires.0, was_sampled c)

pub returns-then-is_sampled : goal.returns-then-is_sampled
returns-then-is_sampled c =
    let a = c.args in
    let is = reading_value a.n a.x a.y a.z a.samples.now (was_sampled (goal.at.returns-then-is_sampled c).Then-is_sampled) in
    rw (is, ← c.place.ensures.0, ← c.kind.ensures) c.reading_at.ensures

pub returns : goal.returns
returns c =
    let a = c.args in
    ap Err c.outside_count.ensures
    ∙ sym (reading_never a.n a.x a.y a.z a.samples.now (sym c.is_sampled.ensures ∙ c.if-is_sampled.false))
