-- `put_corner` meets its contract: three words, one after another.
use Rattle.stl.specs.Parts.{corner_put}
use Rattle.stl.proofs.writer.put_corner.Goals as goal

pub returns : goal.returns
returns c =
    let args = c.args in
    rw (c.put_word-3.ensures, c.put_word-2.ensures, c.put_word.ensures) (corner_put args.bytes.now args.at args.corner)
