-- `cases_between` meets its contract: the marks are those of the numbers.
use Rattle.cases.specs.Marks.{all_regular}
use Rattle.cases.specs.Rows.{marked_sheet}
use Rattle.regular.proofs.cases_between.Goals as goal

pub returns-clause-marks : goal.returns-clause-marks
returns-clause-marks c = λ s x is p q. marked_sheet all_regular _ _ _ _ _ (c.put_rows.ensures s x is p q) c.mark_layer.ensures
