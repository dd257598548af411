-- `subdivisions_of` meets its contract: the byte at its place is the header's subdivisions by definition.
use Rattle.model.specs.Record.{header_of}
use Rattle.record.proofs.fields.subdivisions_of.Goals as goal

pub returns : goal.returns
unfolding header_of
returns c = c.from.ensures
