-- What the STL writer and the reader answer. Definitions only.
use Rattle.std.specs.Prelude.{ℕ, Result}
use Rattle.model.specs.declared.Refusal.{Refusal}

-- the length of the file that was written
abbrev pub StlWritten : Type 0
StlWritten = Result ℕ Refusal

-- the number of triangles that were read
abbrev pub StlRead : Type 0
StlRead = Result ℕ Refusal
