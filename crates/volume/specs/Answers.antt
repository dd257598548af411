-- What cutting a block answers. Definition only.
use Rattle.std.specs.Prelude.{ℕ, Result}
use Rattle.model.specs.declared.Refusal.{Refusal}

-- the number of samples that were cut
abbrev pub BlockCut : Type 0
BlockCut = Result ℕ Refusal
