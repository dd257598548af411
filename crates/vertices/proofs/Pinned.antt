-- What the statement of a public function allows is one outcome: of two that it allows for the same inputs, the answers are equal, and so is
-- what each lent buffer holds.
use mathlib.Core.Path.{◌≡◌}
use contract.Lifetimes.{Lfts}
use Rattle.model.specs.Pinned.{pinned}
use Rattle.vertices.proofs.vertex_count.Reads as vertex_count_lem
use Rattle.vertices.proofs.corner_point.Reads as corner-point
use Rattle.vertices.proofs.fill_cell.Reads as fill-cell

pub vertex_count_pinned : (κs : Lfts 1) (a : _) (r r' : _) (e e' : _) → vertex_count_lem.Learnt κs a r e → vertex_count_lem.Learnt κs a r' e' → r ≡ r'
vertex_count_pinned κs a r r' e e' h k = pinned h k

pub corner_point_pinned : (κs : Lfts 0) (a : _) (r r' : _) (e e' : _) → corner-point.Learnt κs a r e → corner-point.Learnt κs a r' e' → r ≡ r'
corner_point_pinned κs a r r' e e' h k = pinned h k

pub fill_cell_pinned : (κs : Lfts 7) (a : _) (r r' : _) (e e' : _) → fill-cell.Learnt κs a r e → fill-cell.Learnt κs a r' e'
    → let x = e.1.1 in
    let y = e'.1.1 in
    (r ≡ r') × ((x.0.now ≡ y.0.now) × ((x.1.0.now ≡ y.1.0.now) × (x.1.1.0.now ≡ y.1.1.0.now)))
fill_cell_pinned κs a r r' e e' h k = (
  λ i. record { next = pinned h.next_is k.next_is i; reads = pinned h.reads_are k.reads_are i },
  (
    λ i. record { index = pinned h.index_is k.index_is i; count = pinned h.count_is k.count_is i },
    (pinned h.store_is k.store_is, pinned h.vertices_are k.vertices_are),
  ),
)
