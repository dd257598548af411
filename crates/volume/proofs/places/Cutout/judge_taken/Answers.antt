-- `Cutout::judge_taken` meets its contract: where all of the box can be used nothing is refused, and otherwise the first bad sample is looked for.
use mathlib.Core.Path.{sym, ◌∙◌}
use Rattle.volume.specs.Boxes.{span_passes}
use Rattle.volume.proofs.places.Cutout.judge_taken.Goals as goal

pub returns-then-span_usable : goal.returns-then-span_usable
returns-then-span_usable c =
    let args = c.args in
    sym (span_passes args.self.sizes args.self.n args.self.first c.requires.cut args.bytes.now (sym c.span_usable.ensures ∙ c.if-span_usable.true))
