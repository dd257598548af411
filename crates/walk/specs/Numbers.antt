-- The numbers of a sheet that holds its cells' are those of its table.
use Rattle.std.specs.Prelude.{ℕ, ◌≤◌, ◌≡◌, List, length}
use Rattle.std.proofs.Common.{arith}
use Rattle.model.specs.Limits.{most_subdivisions}
use Rattle.model.specs.Star.{Star}
use Rattle.cases.specs.Sheets.{sheet_places}
use Rattle.cells.specs.declared.SheetIndex.{SheetIndex}
use Rattle.cells.specs.SheetCells.{sheet_of}
use Rattle.cells.specs.SheetNumbers.{case_small}
use Rattle.walk.specs.Order.{Sheeted, Held}

pub held_sheeted : (s : Star) (sheet : SheetIndex) {n : ℕ} {layer side marks : List ℕ} → Held s sheet n layer side marks → n ≤ most_subdivisions
    → length (sheet_of sheet layer side) ≡ sheet_places → length marks ≡ sheet_places → Sheeted n sheet layer side marks
held_sheeted s sheet held few long marks_long =
    record {
      few = few;
      long = long;
      marks_long = marks_long;
      number_at = λ u v hu hv. omega (arith, held.numbers.case_at u v hu hv, case_small s sheet u v);
    }
