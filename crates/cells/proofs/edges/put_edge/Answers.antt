-- `edges::put_edge` meets its contract: a vertex that is made has its number put where there is a place for it. Assumes nothing.
use mathlib.Core.Path.{◌≡◌, sym, ◌∙◌}
use mathlib.Core.Bool.{true}
use native.Mathlib.Omega.{arith}
use Rattle.model.specs.Star.{Star}
use Rattle.codes.specs.Kinds.{use_at}
use Rattle.cells.specs.Edges.{edge_set, edge_out, edge_none}
use Rattle.vertices.specs.Uses.{use_makes}
use Rattle.cells.proofs.edges.put_edge.Goals as goal
use Rattle.cells.proofs.edges.put_edge.Goals.{then-next-edges, else-next-edges}

pub returns-then-not-makes : goal.returns-then-not-makes
returns-then-not-makes c =
    let a = c.args in
    (omega arith, λ s e. edge_none (use_at s a.at a.code) a.next a.edges.now (use_makes s a.at a.code ∙ sym c.makes.ensures ∙ c.if-not-makes.true))

pub returns : goal.returns
returns c =
    let a = c.args in
    let made : (s : Star) → (use_at s a.at a.code).makes ≡ true = λ s. use_makes s a.at a.code ∙ sym c.makes.ensures ∙ c.if-not-makes.false in (
      omega arith,
      λ s e.
          elim c.if-next-edges.branch [
            | then-next-edges w ↦ rw (w.edges-is, w.edge_number.ensures s e) (edge_set (use_at s a.at a.code) a.next a.edges.now (made s))
            | else-next-edges w ↦ rw w.edges-is (edge_out (use_at s a.at a.code) a.next a.edges.now (made s) w.if-next-edges.false)
          ],
    )
