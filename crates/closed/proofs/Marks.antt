-- Which vertices of a block's mesh have the number of a grid edge: those of the regular cells, which come first, have one, and it is below that
-- which marks the others; those of the transition cells are given none. Assumes nothing.
use Rattle.std.specs.Prelude.{ℕ, zero, suc, ◌+◌, ◌-◌, ◌*◌, ◌≤◌, ◌<◌, ◌≡◌, Bool, cond, not, List, [], ◌∷◌, ◌++◌, eqb, length, get_or}
use Rattle.std.proofs.Common.{mul-le-mul, not-suc-le-zero, le_of_suc-le-suc, arith, sym, ap, ◌∙◌, eqb-true, eq-eqb, length-append, get_or-append-add}
use Rattle.std.proofs.Math.Path.{refl}
use Rattle.std.proofs.Math.Bool.{true, false}
use Rattle.std.proofs.Math.ListN.{get_or-append}
use Rattle.laws.specs.Steps.{iterate}
use Rattle.laws.specs.Iterated.{iterate_keeps}
use Rattle.laws.specs.Counting.{one}
use Rattle.model.specs.Limits.{most_subdivisions, side_count}
use Rattle.model.specs.Sides.{named}
use Rattle.model.specs.Star.{Star, subdivisions}
use Rattle.model.specs.Mesh.{Made, CodeUse, Cell, Fill, Mesh, made_by, fill_step, fill_to, cell_step, no_edge, transition_use, transition_cell, transition_row, transition_side, regular_mesh, mesh_of}
use Rattle.closed.specs.Clauses.{Edge, number, OfBlock, edge_at, no_vertex}
use Rattle.closed.proofs.Whole.{whole}
use Rattle.closed.proofs.Front.{regular_first}

-- ---- transition cells add none with a grid edge

on_edges : List Made → ℕ
on_edges [] = 0
on_edges (v ∷ rest) = one (not (eqb v.edge no_edge)) + on_edges rest

on_append : (a b : List Made) → on_edges (a ++ b) ≡ on_edges a + on_edges b
unfolding on_edges
on_append [] b = omega arith
on_append (v ∷ a) b = omega (arith, on_append a b)

none_on : (l : List Made) → on_edges l ≡ 0 → (i : ℕ) → i < length l → edge_at l i ≡ no_edge
unfolding on_edges
none_on [] e i h = absurd (not-suc-le-zero h)
none_on (v ∷ l) e zero h = go (eqb v.edge no_edge) refl e
  where
    go : (b : Bool) → eqb v.edge no_edge ≡ b → one (not b) + on_edges l ≡ 0 → v.edge ≡ no_edge
    go true q e = eqb-true _ _ q
    go false q e = absurd (omega arith)
none_on (v ∷ l) e (suc i) h = none_on l (omega arith) i (le_of_suc-le-suc h)

abbrev Unmarked : Cell → Type 0
Unmarked c = (i : ℕ) → (c.uses i).made.edge ≡ no_edge

made_none : (t : CodeUse) → t.made.edge ≡ no_edge → on_edges (made_by t) ≡ 0
unfolding on_edges
made_none t e = go t.makes
  where
    go : (b : Bool) → on_edges (cond b (t.made ∷ []) []) ≡ 0
    go true = rw (eq-eqb _ _ e)
    go false = refl

cell_keeps : (c : Cell) → Unmarked c → (m : Mesh) → on_edges (cell_step c m).made ≡ on_edges m.made
unfolding cell_step fill_to fill_step on_edges
cell_keeps c none m =
    let fill : on_edges (fill_to c (length m.made) m.store c.vertices).made ≡ 0 =
    iterate_keeps (λ (f : Fill). on_edges f.made) (λ i f. fill_step (c.uses i) (length m.made + length f.made) f)
    (λ i f. on_append f.made (made_by (c.uses i)) ∙ omega (arith, made_none (c.uses i) (none i))) _ c.vertices in
    on_append m.made _ ∙ omega arith

module _ (s : Star) where
  cell_unmarked : (side u v : ℕ) → Unmarked (transition_cell s side u v)
  unfolding transition_cell transition_use
  cell_unmarked side u v i = refl

  row_keeps : (side u : ℕ) (m : Mesh) → on_edges (transition_row s side u m).made ≡ on_edges m.made
  unfolding transition_row
  row_keeps side u m =
      iterate_keeps (λ (m : Mesh). on_edges m.made) (λ v. cell_step (transition_cell s side u v)) (λ v m. cell_keeps _ (cell_unmarked side u v) m) m (subdivisions s)

  side_keeps : (side : ℕ) (m : Mesh) → on_edges (transition_side s side m).made ≡ on_edges m.made
  unfolding transition_side
  side_keeps side m = go (named s.mask side)
    where
      go : (b : Bool) → on_edges (cond b (iterate (transition_row s side) (subdivisions s) m) m).made ≡ on_edges m.made
      go true = iterate_keeps (λ (m : Mesh). on_edges m.made) (transition_row s side) (row_keeps side) m (subdivisions s)
      go false = refl

  mesh_keeps : on_edges (mesh_of s).made ≡ on_edges (regular_mesh s).made
  unfolding mesh_of
  mesh_keeps = iterate_keeps (λ (m : Mesh). on_edges m.made) (transition_side s) side_keeps (regular_mesh s) side_count

  -- ---- so a vertex of the mesh has one exactly if a regular cell made it

  abbrev regular : List Made
  regular = (regular_mesh s).made

  pub made_regular : (i : ℕ) → i < length regular → get_or (mesh_of s).made i no_vertex ≡ get_or regular i no_vertex
  made_regular i h =
      let first = regular_first s in
      ap (λ (l : List Made). get_or l i no_vertex) first.made_are ∙ get_or-append regular first.made no_vertex i h

  pub marked : (i : ℕ) → length regular ≤ i → i < length (mesh_of s).made → edge_at (mesh_of s).made i ≡ no_edge
  marked i h l =
      let first = regular_first s in
      let more = first.made in
      let all : length (mesh_of s).made ≡ length regular + length more = ap length first.made_are ∙ length-append regular more in
      let none : on_edges more ≡ 0 = omega (arith, mesh_keeps, ap on_edges first.made_are, on_append regular more) in
      let at : i ≡ length regular + (i - length regular) = omega arith in
      ap (λ (l : List Made). edge_at l i) first.made_are ∙ ap (edge_at (regular ++ more)) at
      ∙ ap (λ (v : Made). v.edge) (get_or-append-add regular more (i - length regular) no_vertex) ∙ none_on more none (i - length regular) (omega arith)

  pub number_low : (e : Edge) → OfBlock s e → subdivisions s ≤ most_subdivisions → number s e < no_edge
  number_low e h few =
      let m = most_subdivisions + 1 in
      let n = subdivisions s in
      let x : e.low.x ≤ most_subdivisions = omega (arith, h.high_x, few) in
      let y : e.low.y ≤ most_subdivisions = omega (arith, h.high_y, few) in
      let z : e.low.z ≤ most_subdivisions = omega (arith, h.high_z, few) in
      let points : n + 1 ≤ m = omega arith in
      let face : (n + 1) * (n + 1) ≤ m * m = mul-le-mul points points in
      omega (arith, h.axis_is, mul-le-mul face x, mul-le-mul points y)

  pub unmarked : subdivisions s ≤ most_subdivisions → (i : ℕ) → i < length regular → edge_at (mesh_of s).made i ≡ no_edge → ⊥
  unmarked few i h e =
      let o = (whole s).lying i h in
      let low = number_low o.on o.of_block few in
      omega (arith, sym o.named.held ∙ ap (λ (v : Made). v.edge) (sym (made_regular i h)) ∙ e)
