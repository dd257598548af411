-- The case number of a sheet's cell is one of its table's.
use Rattle.std.specs.Prelude.{ℕ, ◌≤◌}
use Rattle.model.specs.Star.{Star}
use Rattle.cases.specs.Numbers.{regular_case_small, transition_case_small}
use Rattle.cells.specs.declared.SheetIndex.{SheetIndex}
use Rattle.cells.specs.declared.SheetIndex.TheVariants.{Layer, Side}
use Rattle.cells.specs.SheetCells.{case_at, all_of}

pub case_small : (s : Star) (sheet : SheetIndex) (u v : ℕ) → case_at s sheet u v ≤ all_of sheet
case_small s (Layer x) u v = regular_case_small s x u v
case_small s (Side side) u v = transition_case_small s side u v
