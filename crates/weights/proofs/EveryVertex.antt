-- What holds of each vertex where a step makes it, by its place in the mesh, holds of every vertex of a block's mesh at its place. The mesh of the cells
-- before is that of the model, so that the step is known.
use Prim.Native.Nat.{ℕ, zero, suc, ◌≤◌, ◌<◌}
use Rattle.std.specs.Prelude.{◌≡◌, Bool, length, get_or}
use Rattle.std.proofs.Math.Path.{refl}
use Rattle.std.proofs.Math.Bool.{true, false, cond}
use mathlib.Core.List.{List, [], ◌∷◌, ◌++◌, append_assoc, append-nil}
use Rattle.std.proofs.Common.{le_refl, le_of_lt, not-suc-le-zero, arith}
use Rattle.std.proofs.Math.Decide.{dec_lt}
use Rattle.std.proofs.Math.ListN.{length-append, get_or-append}
use Rattle.std.proofs.Math.Seq.{get_or-append_seam}
use Rattle.laws.specs.Steps.{iterate}
use Rattle.model.specs.Limits.{side_count}
use Rattle.model.specs.Sides.{named}
use Rattle.model.specs.Star.{Star, subdivisions}
use Rattle.model.specs.Mesh.{Made, Cell, Mesh, fill_step, fill_to, cell_step, empty_mesh, regular_cell, regular_column, regular_layer, regular_mesh, regular_to, transition_cell, transition_row, transition_side, transition_to, mesh_of}
use Rattle.closed.specs.Clauses.{no_vertex, IsCell}
use Rattle.closed.specs.Indices.{IsSideCell}
use Rattle.weights.specs.Clauses.{MakesAt}

-- ---- n steps, one after another

up_to : (P : ℕ → Type 0) (n : ℕ) → P 0 → ((k : ℕ) → k < n → P k → P (suc k)) → P n
up_to P n start next = go n (le_refl n)
  where
    go : (k : ℕ) → k ≤ n → P k
    go zero h = start
    go (suc k) h = next k h (go k (le_of_lt h))

module _ (Q : ℕ → Made → Type 0) where
  -- each at its place
  abbrev pub Each : List Made → Type 0
  Each made = (i : ℕ) → i < length made → Q i (get_or made i no_vertex)

  one_more : (made : List Made) (m : Made) → Each made → Q (length made) m → Each (made ++ (m ∷ []))
  one_more made m p q i h = go (dec_lt i (length made))
    where
      go : Dec (i < length made) → Q i (get_or (made ++ (m ∷ [])) i no_vertex)
      go (yes l) = rw (get_or-append made (m ∷ []) no_vertex i l) (p i l)
      go (no l) =
          let last : i ≡ length made = omega (arith, rw length-append at h) in
          rw (last, get_or-append_seam made m [] no_vertex) q

  -- ---- one cell

  module _ (c : Cell) (before : Mesh) (makes : (k i : ℕ) → MakesAt c before k i → Q i (c.uses k).made) (p : Each before.made) where
    abbrev so_far : ℕ → List Made
    so_far k = (fill_to c (length before.made) before.store k).made

    codes_so_far : (k : ℕ) → k ≤ c.vertices → Each (before.made ++ so_far k)
    unfolding fill_to fill_step
    codes_so_far zero h = rw append-nil p
    codes_so_far (suc k) h = go (c.uses k).makes refl (codes_so_far k (le_of_lt h))
      where
        go : (b : Bool) → (c.uses k).makes ≡ b → Each (before.made ++ so_far k)
            → Each (before.made ++ (so_far k ++ cond b ((c.uses k).made ∷ []) []))
        go false e q = rw append-nil q
        go true e q =
            rw (← append_assoc before.made (so_far k) ((c.uses k).made ∷ []))
            (one_more (before.made ++ so_far k) (c.uses k).made q
            (makes k _ (record { listed = h; makes = e; place = omega (arith, length-append before.made (so_far k)) })))

    cell_each : Each (cell_step c before).made
    unfolding cell_step
    cell_each = codes_so_far c.vertices (le_refl _)

  -- ---- all cells

  module _ (s : Star)
      (regular : (x y z : ℕ) → IsCell s x y z → (k i : ℕ) → MakesAt (regular_cell s x y z) (regular_to s x y z) k i → Q i ((regular_cell s x y z).uses k).made) where
    abbrev n : ℕ
    n = subdivisions s

    pub each_regular : Each (regular_mesh s).made
    unfolding regular_mesh regular_layer regular_column regular_to empty_mesh
    each_regular =
        up_to (λ x. Each (iterate (regular_layer s) x (empty_mesh n)).made) n (λ i h. absurd (not-suc-le-zero h))
        (λ x hx p. up_to (λ y. Each (iterate (regular_column s x) y (iterate (regular_layer s) x (empty_mesh n))).made) n p
        (λ y hy p. up_to (λ z. Each (regular_to s x y z).made) n p
        (λ z hz p. cell_each (regular_cell s x y z) (regular_to s x y z) (regular x y z (record { x_in = hx; y_in = hy; z_in = hz })) p)))

    module _ (sides : (side u v : ℕ) → IsSideCell s side u v
        → (k i : ℕ) → MakesAt (transition_cell s side u v) (transition_to s side u v) k i → Q i ((transition_cell s side u v).uses k).made) where
      pub each_vertex : Each (mesh_of s).made
      unfolding mesh_of transition_side transition_row transition_to
      each_vertex = up_to (λ side. Each (iterate (transition_side s) side (regular_mesh s)).made) side_count each_regular each_side
        where
          each_side : (side : ℕ) → side < side_count → Each (iterate (transition_side s) side (regular_mesh s)).made
              → Each (transition_side s side (iterate (transition_side s) side (regular_mesh s))).made
          each_side side hs p = go (named s.mask side) refl
            where
              before : Mesh
              before = iterate (transition_side s) side (regular_mesh s)

              go : (b : Bool) → named s.mask side ≡ b → Each (cond b (iterate (transition_row s side) n before) before).made
              go false e = p
              go true e =
                  up_to (λ u. Each (iterate (transition_row s side) u before).made) n p
                  (λ u hu p. up_to (λ v. Each (transition_to s side u v).made) n p
                  (λ v hv p. cell_each (transition_cell s side u v) (transition_to s side u v)
                  (sides side u v (record { side_in = hs; side_named = e; u_in = hu; v_in = hv })) p))
