-- What the statement of a public function allows is one outcome: of two that it allows for the same inputs, the answers are equal, and so is
-- what each lent buffer holds.
use mathlib.Core.Path.{◌≡◌, sym, ap, ◌∙◌}
use mathlib.Core.List.{List}
use Prim.Native.Nat.{ℕ, ◌*◌}
use contract.Lifetimes.{Lfts}
use lib.Ieee.{Float}
use Rattle.model.specs.Mesh.{Cell, vertex_reads}
use Rattle.model.specs.Pinned.{pinned}
use Rattle.cells.specs.declared.Progress.{Progress}
use Rattle.cells.specs.Puts.{CellPut}
use Rattle.cells.proofs.sheet_cells.number_at.Reads as number_at
use Rattle.cells.proofs.sheet_cells.write_sheet_cell.Reads as write-sheet-cell

pub number_at_pinned : (κs : Lfts 2) (a : _) (r r' : _) (e e' : _) → number_at.Learnt κs a r e → number_at.Learnt κs a r' e' → r ≡ r'
number_at_pinned κs a r r' e e' h k = pinned h k

-- two outcomes of one cell
module _ {c : Cell} {nv nt : ℕ} {vertices v v' : List Float} {triangles store t t' s s' : List ℕ} {r r' : Progress}
    (h : CellPut c nv nt vertices triangles store r.vertices r.triangles r.reads v t s)
    (k : CellPut c nv nt vertices triangles store r'.vertices r'.triangles r'.reads v' t' s') where
  vertices_same : r.vertices ≡ r'.vertices
  vertices_same = pinned h.nv_is k.nv_is

  one_outcome : (r ≡ r') × ((s ≡ s') × ((v ≡ v') × (t ≡ t')))
  one_outcome = (
    λ i. record {
      vertices = vertices_same i;
      triangles = pinned h.nt_is k.nt_is i;
      reads = (h.reads_are ∙ ap (λ (n : ℕ). vertex_reads * n) vertices_same ∙ sym k.reads_are) i;
    },
    (pinned h.store_is k.store_is, (pinned h.vertices_are k.vertices_are, pinned h.triangles_are k.triangles_are)),
  )

pub write_sheet_cell_pinned : (κs : Lfts 6) (a : _) (r r' : _) (e e' : _) → write-sheet-cell.Learnt κs a r e → write-sheet-cell.Learnt κs a r' e'
    → let x = e.1.1.1.1.1.1.0.now in
    let y = e'.1.1.1.1.1.1.0.now in
    (r ≡ r') × ((x.store.now ≡ y.store.now) × ((x.vertices.now ≡ y.vertices.now) × ((x.triangles.now ≡ y.triangles.now) × (x.edges.now ≡ y.edges.now))))
write_sheet_cell_pinned κs a r r' e e' h k =
    let same = one_outcome h.0 k.0 in
    (same.0, (same.1.0, (same.1.1.0, (same.1.1.1, pinned h.1.0 k.1.0))))
