-- `Cutout::fill` meets its contract: what each slot adds is worked out, and then all squares are put.
use Rattle.volume.specs.Whole.{block_fits, all_put}
use Rattle.volume.proofs.places.Cutout.fill.Goals as goal

pub put_block-requires : goal.put_block-requires
put_block-requires c =
    let cut = c.args.self in
    let axes = c.axes.ensures in
    block_fits c.args.bytes.now cut.sizes cut.n cut.first axes.x axes.y axes.z c.requires.0 _ c.requires.1

pub returns : goal.returns
returns c =
    let cut = c.args.self in
    let axes = c.axes.ensures in
    all_put c.args.bytes.now cut.sizes cut.n cut.first axes.x axes.y axes.z c.args.samples.now c.put_block.new.samples c.put_block.ensures c.requires.1 c.put_block.auto.samples
