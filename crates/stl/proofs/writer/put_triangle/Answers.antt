-- `put_triangle` meets its contract: what is put are the corners that the triangle names.
use Rattle.stl.specs.Parts.{facet_is}
use Rattle.stl.proofs.writer.put_triangle.Goals as goal

pub returns : goal.returns
returns c =
    let args = c.args in
    rw (
      c.put_facet.ensures,
      c.corner_of-a.ensures,
      c.corner_of-b.ensures,
      c.corner_of-c.ensures,
      facet_is args.vertices.now args.triangles.now args.t,
    )
