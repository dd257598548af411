-- `count` meets its contract: what follows the header is the samples, four bytes each.
use Rattle.record.specs.Accepted.{accepted, count_by_length}
use Rattle.record.proofs.passed.Record.count.Goals as goal

pub overflow_sub-result : goal.overflow_sub-result
overflow_sub-result c = (accepted _ c.args.self.now.passed).long

pub returns : goal.returns
returns c = count_by_length _ (accepted _ c.args.self.now.passed)
