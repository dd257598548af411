-- Of a block that was read the samples stand in the list.
use Rattle.record.specs.Reading.{read_held}
use Rattle.stl_test.proofs.meshed.write_mesh.Goals as goal

pub write_block-requires : goal.write_block-requires
write_block-requires c = read_held _ _ _ c.read_record.result _ c.read_record.ensures c.in_ok-header.was
