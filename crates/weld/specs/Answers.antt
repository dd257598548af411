-- What the weld answers. Definition only.
use Rattle.std.specs.Prelude.{Result}
use Rattle.model.specs.declared.Counts.{Counts}
use Rattle.model.specs.declared.Refusal.{Refusal}

-- the new counts
abbrev pub Welded : Type 0
Welded = Result Counts Refusal
