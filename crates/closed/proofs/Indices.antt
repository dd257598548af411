-- Every corner of every triangle of a block's mesh names a vertex of the mesh, regular cells and transition cells alike, for every block. An index
-- that is sent is that of a vertex made so far, or it is 0, which the store begins with. So it is at most that of the last vertex, and it is left to
-- show that a mesh with a triangle has a vertex.
use Rattle.std.specs.Prelude.{◌≡◌, refl, ◌⊎◌, Bool, cond, ◌||◌, List, [], ◌∷◌, ◌++◌, get_or, set, replicate}
use Rattle.std.proofs.Common.{inl, inr, ⊎_elim, le_refl, le_trans}
use Rattle.std.proofs.Math.Bool.{true, false}
use Prim.Native.Nat.{ℕ, zero, suc, ◌+◌, ◌≤◌, ◌<◌}
use Rattle.std.proofs.Math.Nat.{le_step}
use native.Mathlib.Omega.{arith}
use Rattle.std.proofs.Math.ListN.{length, length-append}
use Rattle.laws.specs.Steps.{iterate, listed}
use Rattle.laws.specs.Iterated.{iterate_upto}
use Rattle.tables.proofs.RulesCorners.{transition_cell_right}
use Rattle.model.specs.Limits.{side_count}
use Rattle.model.specs.Sides.{named}
use Rattle.model.specs.Star.{Star, subdivisions}
use Rattle.model.specs.Points.{transition_case}
use Rattle.model.specs.Mesh.{CodeUse, Cell, Fill, Mesh, fill_step, fill_to, filled, triangle_of, cell_step, empty_mesh, store_length, regular_use, regular_cell, regular_column, regular_layer, regular_mesh, transition_use, transition_cell, transition_row, transition_side, mesh_of}
use Rattle.model.specs.Adding.{cell_triangles}
use Rattle.closed.specs.Clauses.{no_triangle, NamesVertices}
use Rattle.closed.proofs.Whole.{whole}
use Rattle.closed.proofs.Front.{Begins, cell_added, row_added, side_added, regular_first}
use Rattle.closed.specs.SideCells.{case_small, Makes, cut_made}
use Rattle.closed.specs.Indices.{Every, Low, AllLow, Storing, LowFill, LowCorners, LowMesh, IsSideCell}

-- ---- what holds at each place of a list, and of what stands for a place past its end

module _ {A : Type 0} (P : A → Type 0) (none : A) where
  every_more : (l more : List A) → Every P none l → Every P none more → Every P none (l ++ more)
  every_more [] more p q k = q k
  every_more (a ∷ l) more p q zero = p zero
  every_more (a ∷ l) more p q (suc k) = every_more l more (λ j. p (suc j)) q k

  every_set : (l : List A) (i : ℕ) (a : A) → P a → Every P none l → Every P none (set l i a)
  every_set [] i a h p k = p k
  every_set (b ∷ l) zero a h p zero = h
  every_set (b ∷ l) zero a h p (suc k) = p (suc k)
  every_set (b ∷ l) (suc i) a h p zero = p zero
  every_set (b ∷ l) (suc i) a h p (suc k) = every_set l i a h (λ j. p (suc j)) k

  module _ (past : P none) where
    every_one : (a : A) → P a → Every P none (a ∷ [])
    every_one a h zero = h
    every_one a h (suc k) = past

    every_listed : (f : ℕ → A) → ((k : ℕ) → P (f k)) → (n : ℕ) → Every P none (listed f n)
    every_listed f h zero = λ k. past
    every_listed f h (suc n) = every_more (listed f n) (f n ∷ []) (every_listed f h n) (every_one (f n) (h n))

-- ---- an index is at most that of the last of so many vertices, or 0 where there is none

low_more : {made more : ℕ} (i : ℕ) → made ≤ more → Low made i → Low more i
low_more i h l = omega arith

module _ (t : CodeUse) (storing : Storing t) (base : ℕ) (f : Fill) (p : LowFill base f) where
  abbrev after : Bool → ℕ
  after makes = base + length (f.made ++ cond makes (t.made ∷ []) [])

  grown : (makes : Bool) → base + length f.made ≤ after makes
  grown makes = rw length-append (omega arith)

  next_low : Low (after true) (base + length f.made)
  next_low = rw length-append (omega arith)

  sent_low : (makes : Bool) → Low (after makes) (cond makes (base + length f.made) (get_or f.store t.place 0))
  sent_low true = next_low
  sent_low false = low_more _ (grown false) (p.store t.place)

  store_low : (makes stores : Bool) → (stores ≡ true → makes ≡ true)
      → AllLow (after makes) (cond stores (set f.store t.place (base + length f.made)) f.store)
  store_low makes false h = λ k. low_more _ (grown makes) (p.store k)
  store_low true true h =
      every_set (Low (after true)) 0 f.store t.place _ next_low (λ k. low_more _ (grown true) (p.store k))
  store_low false true h =
      let z : ◌≡◌ {A = Bool} false true = h refl in
      let y : ◌≡◌ {A = ℕ} 0 1 = cc in
      absurd (omega arith)

  code_low : LowFill base (fill_step t (base + length f.made) f)
  unfolding fill_step
  code_low =
      let low = Low (after t.makes) in
      record {
        index = every_more low 0 f.index _ (λ k. low_more _ (grown t.makes) (p.index k)) (every_one low 0 (omega arith) _ (sent_low t.makes));
        store = store_low t.makes t.stores storing;
      }

-- ---- the cells

module _ (c : Cell) (storing : (i : ℕ) → Storing (c.uses i)) where
  fill_low : (base : ℕ) (store : List ℕ) → AllLow base store → (k : ℕ) → LowFill base (fill_to c base store k)
  unfolding fill_to
  fill_low base store h zero = record { index = λ k. omega arith; store = λ k. low_more _ (omega arith) (h k) }
  fill_low base store h (suc k) = code_low (c.uses k) (storing k) base (fill_to c base store k) (fill_low base store h k)

  cell_low : (m : Mesh) → LowMesh m → LowMesh (cell_step c m)
  unfolding cell_step triangle_of
  cell_low m p =
      let before = length m.made in
      let f = fill_low before m.store p.store c.vertices in
      let all = before + length (filled c m).made in
      let grown : before ≤ all = omega arith in
      record {
        triangles =
            rw length-append
            (every_more (LowCorners all) no_triangle m.triangles _
            (λ k.
            let t = p.triangles k in
            record { a = low_more _ grown t.a; b = low_more _ grown t.b; c = low_more _ grown t.c })
            (every_listed (LowCorners all) no_triangle (record { a = omega arith; b = omega arith; c = omega arith }) _
            (λ k. record { a = f.index _; b = f.index _; c = f.index _ }) c.triangles));
        store = rw length-append f.store;
      }

-- ---- what each cell keeps, the mesh keeps

module _ (P : Mesh → Type 0) where
  steps_keep : (step : ℕ → Mesh → Mesh) (k : ℕ) → ((j : ℕ) → j < k → (m : Mesh) → P m → P (step j m)) → (m : Mesh) → P m → P (iterate step k m)
  steps_keep step zero keeps m p = p
  steps_keep step (suc k) keeps m p = keeps k (le_refl _) _ (steps_keep step k (λ j h. keeps j (le_step h)) m p)

  module _ (s : Star) where
    abbrev n : ℕ
    n = subdivisions s

    regular_keeps : ((x y z : ℕ) (m : Mesh) → P m → P (cell_step (regular_cell s x y z) m)) → P (empty_mesh n) → P (regular_mesh s)
    unfolding regular_mesh regular_layer regular_column
    regular_keeps cell = steps_keep _ n (λ x hx. steps_keep _ n (λ y hy. steps_keep _ n (λ z hz. cell x y z))) _

    sides_keep : ((side u v : ℕ) → IsSideCell s side u v → (m : Mesh) → P m → P (cell_step (transition_cell s side u v) m)) → P (regular_mesh s) → P (mesh_of s)
    unfolding mesh_of transition_side transition_row
    sides_keep cell = steps_keep _ side_count (λ side h m. side_keeps side h m (named s.mask side) refl) _
      where
        side_keeps : (side : ℕ) → side < side_count → (m : Mesh) (b : Bool) → named s.mask side ≡ b → P m
            → P (cond b (iterate (λ u. iterate (λ v. cell_step (transition_cell s side u v)) n) n m) m)
        side_keeps side h m false e p = p
        side_keeps side h m true e p =
            steps_keep _ n
            (λ u hu. steps_keep _ n (λ v hv. cell side u v (record { side_in = h; side_named = e; u_in = hu; v_in = hv })))
            m p

-- ---- every index of the mesh

or_left : (new leaves : Bool) → new ≡ true → new || leaves ≡ true
or_left true leaves e = refl
or_left false leaves e = cc

zeros_low : (made k : ℕ) → AllLow made (replicate k 0)
zeros_low made zero j = omega arith
zeros_low made (suc k) zero = omega arith
zeros_low made (suc k) (suc j) = zeros_low made k j

mesh_low : (s : Star) → LowMesh (mesh_of s)
unfolding empty_mesh regular_cell regular_use transition_cell transition_use
mesh_low s =
    sides_keep LowMesh s (λ side u v h. cell_low (transition_cell s side u v) (λ i. or_left _ _))
    (regular_keeps LowMesh s (λ x y z. cell_low (regular_cell s x y z) (λ i. or_left _ _))
    (record {
      triangles = λ t. record { a = omega arith; b = omega arith; c = omega arith };
      store = zeros_low 0 (store_length (subdivisions s));
    }))

-- ---- a mesh with a triangle has a vertex

-- where a step takes nothing away, one that leaves something is enough
module _ {A : Type 0} (measure : A → ℕ) (step : ℕ → A → A) (grows : (k : ℕ) (a : A) → measure a ≤ measure (step k a)) where
  step_some : (j k : ℕ) → j < k → ((a : A) → 0 < measure (step j a)) → (a : A) → 0 < measure (iterate step k a)
  step_some j k h some a = le_trans (some (iterate step j a)) (iterate_upto measure step grows a (suc j) k h)

begins_grown : {first all : Mesh} → Begins first all → length first.made ≤ length all.made
begins_grown b = rw (b.made_are, length-append) (omega arith)

cell_some : (c : Cell) (i : ℕ) → i < c.vertices → (c.uses i).makes ≡ true → (m : Mesh) → 0 < length (cell_step c m).made
unfolding cell_step fill_to fill_step
cell_some c i h makes m =
    rw length-append
    (omega (
      arith,
      step_some (λ (f : Fill). length f.made) (λ i f. fill_step (c.uses i) (length m.made + length f.made) f)
          (λ k f. rw length-append (omega arith)) i c.vertices h
          (λ f. rw (length-append, makes) (omega arith))
          (record { made = []; index = []; store = m.store }),
    ))

one_some : (a b : ℕ) → 0 < a + b → (0 < a) ⊎ (0 < b)
one_some zero b h = inr (omega arith)
one_some (suc a) b h = inl (omega arith)

module _ (s : Star) where
  -- where a transition cell makes a vertex, its row, its side and the mesh have one
  row_some : (side u v : ℕ) → IsSideCell s side u v → Makes s side u v → (m : Mesh) → 0 < length (transition_row s side u m).made
  unfolding transition_row transition_cell
  row_some side u v c made =
      step_some (λ (m : Mesh). length m.made) (λ v. cell_step (transition_cell s side u v))
      (λ k m. begins_grown {first = m} {all = cell_step (transition_cell s side u k) m} (cell_added (transition_cell s side u k) m)) v (subdivisions s) c.v_in
      (cell_some (transition_cell s side u v) made.0 made.1 made.2)

  side_some : (side u v : ℕ) → IsSideCell s side u v → Makes s side u v → (m : Mesh) → 0 < length (transition_side s side m).made
  unfolding transition_side
  side_some side u v c made m =
      rw c.side_named
      (step_some (λ (m : Mesh). length m.made) (transition_row s side) (λ k m. begins_grown (row_added s side k m)) u (subdivisions s) c.u_in
      (row_some side u v c made) m)

  mesh_some : (side u v : ℕ) → IsSideCell s side u v → Makes s side u v → 0 < length (mesh_of s).made
  unfolding mesh_of
  mesh_some side u v c made =
      step_some (λ (m : Mesh). length m.made) (transition_side s) (λ k m. begins_grown (side_added s k m)) side side_count c.side_in
      (side_some side u v c made) (regular_mesh s)

  -- a transition cell with a triangle is cut
  triangle_made : (side u v : ℕ) → IsSideCell s side u v → 0 < (transition_cell s side u v).triangles → 0 < length (mesh_of s).made
  unfolding transition_cell
  triangle_made side u v c h =
      let case = transition_case s side u v in
      let cut = (transition_cell_right case (case_small s side u v)).corner_below 0 (omega arith) in
      cut_made s side (0 < length (mesh_of s).made) (subdivisions s)
      (λ u v hu hv. mesh_some side u v (record { side_in = c.side_in; side_named = c.side_named; u_in = hu; v_in = hv }))
      (suc (u + v)) u v (le_refl _) c.u_in c.v_in (omega (arith, cut))

  some_vertex : 0 < length (mesh_of s).triangles → 0 < length (mesh_of s).made
  some_vertex =
      sides_keep (λ (m : Mesh). 0 < length m.triangles → 0 < length (mesh_of s).made) s
      (λ side u v c m before h.
      ⊎_elim before (triangle_made side u v c) (one_some _ _ (rw (cell_triangles (transition_cell s side u v) m) at h)))
      (λ h. omega (arith, ((whole s).corners 0 h).a.named.there, begins_grown (regular_first s)))

-- ---- the theorem

pub names_vertices : (s : Star) (t : ℕ) → t < length (mesh_of s).triangles → NamesVertices (mesh_of s) t
names_vertices s t h =
    let low = (mesh_low s).triangles t in
    let some = some_vertex s (omega arith) in
    record { a = omega (arith, low.a); b = omega (arith, low.b); c = omega (arith, low.c) }
