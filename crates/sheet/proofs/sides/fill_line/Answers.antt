-- `sides::fill_line` meets its contract. The loop's invariant: the line's samples passed stand in the first places, and all beyond is as it was.
use Rattle.std.specs.Prelude.{List, Float, slice_set}
use Rattle.std.proofs.Common.{ap₂, ◌∙◌}
use Rattle.laws.specs.Lists.{listed_more}
use Rattle.sheet.proofs.sides.fill_line.Invariants.{at}
use Rattle.sheet.proofs.sides.fill_line.Goals as goal

pub loop-k-preserved : goal.loop-k-preserved
loop-k-preserved c =
    let f = at c.args.src.now.bytes.now c.args.line in
    let k = c.loop-k.k in
    ap₂ (λ (l : List Float) (x : Float). slice_set l k x) c.loop-k.invariant c.sample_on.ensures
    ∙ listed_more f k c.args.samples.now c.loop-k-test.true
