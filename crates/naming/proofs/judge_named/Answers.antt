-- `judge_named` meets its contract: where every corner names a vertex none is refused, otherwise the first is looked for.
use mathlib.Core.Path.{sym, ◌∙◌}
use Rattle.naming.specs.Corners.{all_named_lem}
use Rattle.naming.proofs.judge_named.Goals as goal

pub returns-then-all_named : goal.returns-then-all_named
returns-then-all_named c =
    let args = c.args in
    sym (all_named_lem args.held args.triangles.now (rw (← c.in-Ok.ensures.1) (sym c.all_named.ensures ∙ c.if-all_named.true)))
