-- `judge::is_usable_size` meets its contract: both limits as the code writes them are the model's.
use mathlib.Core.Path.{refl}
use lib.Ieee as Ieee
use Rattle.judge.proofs.is_usable_size.Goals as goal

pub returns : goal.returns
unfolding Ieee.of_bits Ieee.of_fields Ieee.of_int Ieee.round Ieee.units Ieee.odd Ieee.climb Ieee.span Ieee.size Ieee.div
returns c = refl
