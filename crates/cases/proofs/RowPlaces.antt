-- Where the rows of a sheet end.
use Rattle.std.specs.Prelude.{ℕ, ◌+◌, ◌*◌, ◌≤◌, ◌<◌}
use Rattle.std.proofs.Common.{arith}
use Rattle.model.specs.Limits.{most_subdivisions}
use Rattle.cases.specs.Sheets.{row_start}
use Rattle.cases.specs.RowPlaces.{rows_fit, row_before}

-- a row of a sheet ends before the rows of the largest block do
pub row_fits : (n j : ℕ) → n ≤ most_subdivisions → j < n → row_start n j + n < most_subdivisions * (most_subdivisions + 1)
row_fits n j few h = omega (arith, rows_fit n few, row_before n j n n h (omega arith))
