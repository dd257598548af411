-- What a repair answers, and what may be found at a place. Definitions only.
use Rattle.std.specs.Prelude.{ℕ, Option, Result}
use Rattle.model.specs.declared.Refusal.{Refusal}
use Rattle.repair.specs.declared.Change.{Change}

-- the number of changes that were made
abbrev pub Repaired : Type 0
Repaired = Result ℕ Refusal

-- a change, if there is one
abbrev pub Found : Type 0
Found = Option Change
