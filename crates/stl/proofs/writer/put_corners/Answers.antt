-- `put_corners` meets its contract: three corners, one after another.
use Rattle.stl.specs.Parts.{corners_put}
use Rattle.stl.proofs.writer.put_corners.Goals as goal

pub returns : goal.returns
returns c =
    let args = c.args in
    rw (c.put_corner-3.ensures, c.put_corner-2.ensures, c.put_corner.ensures) (corners_put args.bytes.now args.at args.facet.a args.facet.b args.facet.c)
