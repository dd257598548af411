-- `mask_of` meets its contract: the byte at its place is the header's mask by definition.
use mathlib.Core.Path.{refl}
use Rattle.model.specs.Record.{header_of}
use Rattle.record.proofs.fields.mask_of.Goals as goal

pub returns : goal.returns
unfolding header_of
returns c = refl
