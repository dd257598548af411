-- `sides::count_named_sides` meets its contract: what each named side adds is added up, and the others add nothing.
use Rattle.std.specs.Prelude.{ℕ, ◌≡◌, ◌*◌, List, length}
use Rattle.model.specs.declared.Counts.{Counts}
use Rattle.model.specs.Record.{star_of}
use Rattle.record.specs.declared.passed.Record.{Record}
use Rattle.cases.specs.Sheets.{sheet_places}
use Rattle.cells.specs.Puts.{Few}
use Rattle.sheet.specs.Fine.{SideCounts}
use Rattle.sheet.proofs.sides.count_named_sides.Given as goal

-- the walk has gone past the sides below one
pub record GonePast (src : Record) (cases marks : List ℕ) (counts : Counts) (mask from : ℕ) : Type 0 where
  pub same : mask ≡ src.header.mask
  pub cases_long : length cases ≡ sheet_places
  pub marks_long : length marks ≡ sheet_places
  pub few : Few (sheet_places * from) counts
  pub added : SideCounts (star_of src.bytes.now) from counts

abbrev pub invariant-loop-side : goal.invariant-loop-side
invariant-loop-side l = GonePast l.src l.cases l.marks l.counts l.side-iterator.mask l.side-iterator.from
