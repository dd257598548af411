-- `float_known` meets its contract: the flag tells that the pattern has a float.
use mathlib.Core.Path.{sym, subst}
use mathlib.Core.Bool.{Bool, not}
use lib.Dec.{T}
use Rattle.words.proofs.floats.float_known.Goals as goal

pub float_from_bits-result : goal.float_from_bits-result
float_from_bits-result c = subst (λ (b : Bool). T (not b)) (sym (c.requires c.if-number.true)) tt
