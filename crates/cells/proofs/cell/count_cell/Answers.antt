-- `cell::count_cell` meets its contract: what is made depends on the codes and on where the cell lies. Assumes nothing.
use mathlib.Core.Bool.{cond}
use mathlib.Core.Path.{◌≡◌, sym, ◌∙◌}
use native.Mathlib.Omega.{arith}
use lib.ListN.{get_or}
use Rattle.tables.specs.Cases.{vertices_of}
use Rattle.vertices.specs.Fills.{made_total}
use Rattle.codes.specs.Kinds.{makes_at, cell_of}
use Rattle.vertices.specs.Uses.{use_count}
use Rattle.cells.proofs.cell.count_cell.Goals as goal

pub returns : goal.returns
returns c =
    let a = c.args.cell.now in
    let count : c.vertex_count-count.result ≡ vertices_of a.row.now = c.vertex_count-count.ensures in record {
      few = record { vertices = omega (arith, c.requires.1); triangles = omega (arith, c.requires.1) };
      adds = λ s turned.
          record {
            vertices = λ base store.
                made_total (cell_of s a.at a.codes.now a.row.now turned) (λ i. cond (makes_at a.at (get_or a.codes.now i 0)) 1 0)
                (λ i. use_count s a.at (get_or a.codes.now i 0)) base store (vertices_of a.row.now)
                ∙ sym (rw count at c.count_made.ensures.0);
            triangles = sym c.triangle_count.ensures;
          };
    }
