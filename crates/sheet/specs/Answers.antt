-- What the sheet answers: of a record, of a place of a run, of the whole run. Definitions only.
use Rattle.std.specs.Prelude.{Option, Result}
use Rattle.model.specs.declared.Refusal.{Refusal}
use Rattle.sheet.specs.declared.Figures.{Figures}
use Rattle.sheet.specs.declared.LineAt.{LineAt}

-- a record's line: its figures, or why it is refused
abbrev pub Line : Type 0
Line = Result Figures Refusal

-- what stands at a place of a run: a line, nothing more, or that the whole run is refused
abbrev pub SheetLine : Type 0
SheetLine = Result (Option LineAt) Refusal

abbrev pub SheetTotal : Type 0
SheetTotal = Result Figures Refusal
