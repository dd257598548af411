-- `write_transition_cells` meets its contract: with no named side the regular cells are all.
use Rattle.model.specs.Mesh.{regular_mesh, mesh_of}
use Rattle.points.specs.Grids.{star_of}
use Rattle.walk.specs.Walk.{no_sides}
use Rattle.writing.proofs.Holding.{so_far_none}
use Rattle.writing.proofs.Reading.{read_unnamed}
use Rattle.writing.proofs.write_transition_cells.Goals as goal

pub returns-then-grid-eq0 : goal.returns-then-grid-eq0
unfolding mesh_of
returns-then-grid-eq0 c =
    let s = star_of c.args.grid.now in
    let done = so_far_none {out = c.args.out.now} c.requires.holds in
    record {
      holds_2 = rw (no_sides s c.if-grid-eq0.true (regular_mesh s)) done.holds;
      reads = read_unnamed s _ c.if-grid-eq0.true c.requires.reads_bound;
      kept = done.kept;
      same = done.same;
    }
