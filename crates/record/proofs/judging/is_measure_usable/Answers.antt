-- `is_measure_usable` meets its contract: each measure is judged where it stands in the record.
use Rattle.std.proofs.Common.{◌∙◌, arith}
use Rattle.model.specs.Record.{header_of}
use Rattle.record.specs.ReadingOrder.{base_usable}
use Rattle.record.proofs.judging.is_measure_usable.Goals as goal

pub returns-in-3 : goal.returns-in-3
unfolding header_of
returns-in-3 c = rw c.in-3.is c.is_usable_size_at.ensures

pub returns-in-4 : goal.returns-in-4
unfolding header_of
returns-in-4 c = rw c.in-4.is c.is_usable_at.ensures

pub returns-in_default : goal.returns-in_default
returns-in_default c =
    c.is_usable_at-in_default.ensures ∙ base_usable c.args.bytes.now c.args.which (omega arith)
