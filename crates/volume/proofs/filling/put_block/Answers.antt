-- `put_block` meets its contract: three puts, and the list keeps its length.
use mathlib.Core.Path.{◌∙◌}
use Rattle.volume.specs.Putting.{block_put}
use Rattle.volume.proofs.filling.put_block.Goals as goal

pub put_faces-requires : goal.put_faces-requires
put_faces-requires c =
    let pre = c.requires in
    (pre.few, rw c.put_squares.auto.samples pre.faces_y)

pub put_faces-requires-2 : goal.put_faces-requires-2
put_faces-requires-2 c =
    let pre = c.requires in
    (pre.few, rw (c.put_faces.auto.samples ∙ c.put_squares.auto.samples) pre.faces_z)

pub returns : goal.returns
returns c =
    let args = c.args in
    block_put args.n args.bytes.now args.axes.now.xs args.axes.now.ys args.axes.now.zs args.samples.now c.put_squares.new.samples
    c.put_faces.new.samples c.put_faces-2.new.samples c.put_squares.ensures c.put_faces.ensures
    c.put_faces-2.ensures
