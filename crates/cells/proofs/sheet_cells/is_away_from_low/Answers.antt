-- `sheet_cells::is_away_from_low` meets its contract, for each kind of cell.
use Rattle.cells.proofs.sheet_cells.is_away_from_low.Goals as goal

pub returns-in-Regular : goal.returns-in-Regular
returns-in-Regular c = rw c.in-Regular.is
