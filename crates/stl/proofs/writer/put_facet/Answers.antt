-- `put_facet` meets its contract: zeros, the corners, zeros.
use Rattle.stl.specs.Parts.{facet_put}
use Rattle.stl.proofs.writer.put_facet.Goals as goal

pub returns : goal.returns
returns c =
    let args = c.args in
    rw (c.put_zeros-2.ensures, c.put_corners.ensures, c.put_zeros.ensures) (facet_put args.bytes.now args.at args.facet.a args.facet.b args.facet.c)
