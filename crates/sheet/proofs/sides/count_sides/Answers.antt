-- `sides::count_sides` meets its contract: with no named side there is nothing to count.
use Rattle.std.proofs.Common.{zero-le, ◌∙◌}
use Rattle.model.specs.Record.{star_of}
use Rattle.sheet.proofs.CellCounts.{no_sides}
use Rattle.sheet.proofs.Whole.{mask_is}
use Rattle.sheet.proofs.sides.count_sides.Goals as goal

pub returns-then-src-eq0 : goal.returns-then-src-eq0
returns-then-src-eq0 c =
    let src = c.args.src.now in
    (record { vertices = zero-le; triangles = zero-le }, no_sides (star_of src.bytes.now) (mask_is src ∙ c.if-src-eq0.true))
