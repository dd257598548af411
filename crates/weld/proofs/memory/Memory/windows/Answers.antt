-- `Memory::windows` meets its contract. The invariant: the vertices of the windows passed are welded, and the corners that name them renumbered.
-- Assumes nothing.
use mathlib.Core.Path.{refl, ◌∙◌}
use borrow.Author.Rules.{rules}
use native.Mathlib.Omega.{arith}
use Rattle.weld.specs.Seen.{noted_none}
use Rattle.weld.specs.Corners.{welded_none}
use Rattle.weld.proofs.WindowCorners.{all_welded_more}
use Rattle.weld.proofs.memory.Memory.windows.Goals as goal

pub loop-start-init : goal.loop-start-init
loop-start-init g c =
    let a = c.args in
    record {
      within = omega arith;
      few = omega arith;
      places_are = search rules;
      triangles_same = refl;
      as_long = record { vertices_same = refl; edges_same = refl; seen_same = refl; hints_same = refl; table_same = refl };
      noted = noted_none a.self.now.seen a.edges.now;
      welded = welded_none a.vertices.now a.triangles.now a.edges.now;
    }

pub loop-start-preserved : goal.loop-start-preserved
loop-start-preserved g c =
    let a = c.args in
    let l = c.loop-start in
    let as_long = l.invariant.as_long in
    let still = c.close-k.ensures.as_long in
    record {
      within = omega arith;
      few = c.close-k.ensures.window.within;
      places_are = l.invariant.places_are;
      triangles_same = c.renumber.auto.triangles ∙ l.invariant.triangles_same;
      as_long = record {
        vertices_same = still.vertices_same ∙ as_long.vertices_same;
        edges_same = still.edges_same ∙ as_long.edges_same;
        seen_same = still.seen_same ∙ as_long.seen_same;
        hints_same = still.hints_same ∙ as_long.hints_same;
        table_same = still.table_same ∙ as_long.table_same;
      };
      noted = c.close-k.ensures.window.noted;
      welded = all_welded_more l.start _ a.vertices.now a.triangles.now a.edges.now l.k l.vertices l.triangles l.edges
          (omega arith) as_long.edges_same as_long.vertices_same l.invariant.welded c.close-k.result _ _ _ _ _ c.close-k.ensures.window c.renumber.ensures;
    }
