-- `is_usable_at` meets its contract: the word there is the pattern that is judged.
use mathlib.Core.Path.{ap, ◌∙◌}
use lib.Ieee.{binary32, of_bits}
use Prim.Native.Nat.{ℕ}
use Rattle.model.specs.Judging.{usable}
use Rattle.record.proofs.judging.is_usable_at.Goals as goal

pub returns : goal.returns
returns c = c.is_usable.ensures ∙ ap (λ (w : ℕ). usable (of_bits binary32 w)) c.word_at.ensures
