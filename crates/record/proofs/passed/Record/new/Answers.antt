-- `new` makes a record of bytes that no judge refuses.
use Rattle.std.proofs.Common.{sym, ◌∙◌}
use Rattle.record.specs.Accepted.{accepted}
use Rattle.record.proofs.passed.Record.new.Goals as goal

pub header_of-header-requires : goal.header_of-header-requires
header_of-header-requires c = accepted _ (sym c.judge_record.ensures ∙ c.in_ok-judge_record.was)
