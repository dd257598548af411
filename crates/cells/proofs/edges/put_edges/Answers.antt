-- `edges::put_edges` meets its contract. The loop's invariant: the list is as the definition's first k vertices leave it. Assumes nothing.
use Prim.Native.Nat.{◌<◌}
use mathlib.Core.Path.{refl, sym}
use native.Mathlib.Omega.{arith}
use Rattle.std.proofs.lemmas.List.{get_or-take}
use lib.ListN.{length-take}
use Rattle.tables.specs.Cases.{vertices_of}
use Rattle.codes.specs.Kinds.{cell_of}
use Rattle.cells.specs.Edges.{edges_none, edges_more, edges_out}
use Rattle.cells.proofs.edges.put_edges.Goals as goal
use Rattle.cells.proofs.edges.put_edges.Goals.{In-loop-code}

-- its code is one of the row's
inside : (c : In-loop-code) → c.loop-code.code-index < vertices_of c.args.cell.now.row.now
inside c = omega (arith, c.vertex_count-count.ensures, rw length-take at c.loop-code-test.true)

pub returns-then-edges-base : goal.returns-then-edges-base
returns-then-edges-base c = λ s turned store e. sym (edges_out c.args.edges.now c.args.base _ (omega (arith, c.if-edges-base.true)))

pub loop-code-init : goal.loop-code-init
loop-code-init c =
    let cell = c.args.cell.now in
    (omega arith, refl, λ s turned store e. edges_none (cell_of s cell.at cell.codes.now cell.row.now turned) c.args.base store c.args.edges.now)

pub loop-code-preserved : goal.loop-code-preserved
loop-code-preserved c =
    let l = c.loop-code in
    let cell = c.args.cell.now in
    let i = l.code-index in
    let is = get_or-take c.vertex_count-count.result cell.codes.now i 0 (omega (arith, inside (goal.at.loop-code-preserved c).In-loop-code, c.vertex_count-count.ensures)) in (
      omega (arith, l.invariant.0, c.put_edge-next.ensures.0),
      omega (arith, c.put_edge-next.auto, l.invariant.1),
      λ s turned store e.
          edges_more (cell_of s cell.at cell.codes.now cell.row.now turned) c.args.base store c.args.edges.now i _ _ _ _
          (l.invariant.2 s turned store e) (rw is at (c.put_edge-next.ensures.1 s e)),
    )
