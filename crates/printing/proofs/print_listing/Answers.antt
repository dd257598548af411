-- Of a block that was read the samples stand in the list.
use Rattle.record.specs.Reading.{read_held}
use Rattle.printing.proofs.print_listing.Goals as goal

pub print_block-requires : goal.print_block-requires
print_block-requires g c = read_held _ _ _ c.read_record.result _ c.read_record.ensures c.in-Ok.is
