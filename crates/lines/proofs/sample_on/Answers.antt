-- `sample_on` meets its contract: the steps lead to the line's place.
use Rattle.std.specs.Prelude.{ℕ, ◌+◌, get_or}
use Rattle.std.proofs.Common.{◌∙◌, ap, arith}
use Rattle.std.specs.Float.{nan}
use Rattle.model.specs.Record.{samples_of}
use Rattle.record.specs.Accepted.{accepted}
use Rattle.lines.proofs.sample_on.Goals as goal

pub overflow_add-line : goal.overflow_add-line
overflow_add-line c = omega (arith, c.along.ensures, c.requires.there, (accepted _ c.args.src.now.passed).counted)

pub returns : goal.returns
returns c =
    c.sample.ensures
    ∙ ap (λ (at : ℕ). get_or (samples_of c.args.src.now.bytes.now) (c.args.line.start + at) nan) c.along.ensures
