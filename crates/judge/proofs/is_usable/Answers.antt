-- `judge::is_usable` meets its contract: the limit as the code writes it is the model's.
use mathlib.Core.Path.{refl}
use lib.Ieee as Ieee
use Rattle.judge.proofs.is_usable.Goals as goal

pub returns : goal.returns
unfolding Ieee.of_bits Ieee.of_fields Ieee.of_int Ieee.round Ieee.units Ieee.odd Ieee.climb Ieee.span Ieee.size
returns c = refl
