-- The crossing grid edges of a block, counted from its samples, are as many as the distinct grid edges that carry a regular vertex: demand 3's first
-- clause, as counts. A grid edge goes by its number, 3 times its lower end's place plus 0, 1, 2 for x, y, z.
use Rattle.std.specs.Prelude.{◌≡◌, refl, ◌≢◌, Bool, true, false, cond, not, List, [], ◌∷◌, ℕ, zero, suc, ◌+◌, ◌*◌, ◌<◌, T, eqb, length}
use Rattle.std.proofs.Common.{sym, ap, ◌∙◌, subst, not-suc-le-zero, eqb-true, eq-eqb}
use Rattle.std.specs.Bool.{beq}
use native.Mathlib.Omega.{arith}
use Rattle.laws.specs.Steps.{total}
use Rattle.laws.specs.Sums.{total_none, total_same, total_last, total_rows, how_many_lem}
use Rattle.laws.specs.Counting.{pick, one, how_many, has}
use Rattle.laws.specs.Ranges.{passes, both_ways}
use Rattle.model.specs.declared.Xyz.{Xyz}
use Rattle.model.specs.Samples.{in_block}
use Rattle.model.specs.Rotations.{xyz}
use Rattle.model.specs.Star.{Star, subdivisions}
use Rattle.model.specs.Mesh.{Made, regular_mesh}
use Rattle.grid.specs.Places.{in_block_lem}
use Rattle.closed.specs.Clauses.{Edge, edge, high, number, edges_most, OfBlock, Names, edge_at}
use Rattle.closed.specs.Cells.{same_point}
use Rattle.closed.specs.Places.{Begins, begun_one, begins}
use Rattle.closed.proofs.NoHole.{carried, no_hole}
use Rattle.sheet.specs.Definition.{box, is_inside, crosses, x_edges, y_edges, z_edges}
use Rattle.sheet.specs.Rows.{edges_of, carries_vertex}
use Rattle.sheet.specs.Grids.{total_places, box_three, box_same}

-- ---- tests

holds : (b : Bool) → b ≡ true → T b
holds b e = rw e tt

-- two bits differ exactly if their tests do
differ : (a b : Bool) → cond {A = ℕ} a 1 0 ≢ cond b 1 0 → not (beq a b) ≡ true
differ true true h = absurd (h refl)
differ true false h = refl
differ false true h = refl
differ false false h = absurd (h refl)

different : (a b : Bool) → not (beq a b) ≡ true → cond {A = ℕ} a 1 0 ≢ cond b 1 0
different true true e q = let z : ◌≡◌ {A = ℕ} 0 1 = cc in omega arith
different true false e q = omega arith
different false true e q = omega arith
different false false e q = let z : ◌≡◌ {A = ℕ} 0 1 = cc in omega arith

-- ---- the numbers that vertices carry

has_names : (made : List Made) (g : ℕ) → T (has g (edges_of made)) → (i : ℕ) × Names made i g
has_names [] g t = absurd t
has_names (v ∷ made) g t = go (eqb g v.edge) (eqb-true g v.edge) t (has_names made g)
  where
    go : (b : Bool) → (b ≡ true → g ≡ v.edge) → T (pick b true (has g (edges_of made))) → (T (has g (edges_of made)) → (i : ℕ) × Names made i g)
        → (i : ℕ) × Names (v ∷ made) i g
    go true e t rest = (0, record { there = omega arith; held = sym (e refl) })
    go false e t rest =
        let r = rest t in
        (suc r.0, record { there = omega (arith, r.1.there); held = r.1.held })

names_has : (made : List Made) (g i : ℕ) → Names made i g → T (has g (edges_of made))
names_has [] g i h = absurd (not-suc-le-zero h.there)
names_has (v ∷ made) g zero h = rw (eq-eqb g v.edge (sym h.held)) tt
names_has (v ∷ made) g (suc i) h = go (eqb g v.edge) (names_has made g i (record { there = omega (arith, h.there); held = h.held }))
  where
    go : (b : Bool) → T (has g (edges_of made)) → T (pick b true (has g (edges_of made)))
    go true t = tt
    go false t = t

module _ (s : Star) where
  abbrev n : ℕ
  n = subdivisions s

  abbrev m : ℕ
  m = n + 1

  -- those that vertices carry are numbers of grid edges
  pub carried_small : (i : ℕ) → i < length (regular_mesh s).made → edge_at (regular_mesh s).made i < edges_most s
  carried_small i h =
      let o = (no_hole s).lying i h in
      let e = o.on in
      let b = o.of_block in
      let small = in_block_lem n e.low.x e.low.y e.low.z (omega (arith, b.high_x)) (omega (arith, b.high_y)) (omega (arith, b.high_z)) in
      omega (arith, o.named.held, small, b.axis_is)

  abbrev counted : Edge → ℕ
  counted e = one (carries_vertex s (number s e))

  -- an edge of the block counts if it crosses
  of_block : (e : Edge) (end : Xyz) → high e ≡ end → OfBlock s e → counted e ≡ one (crosses s e.low end)
  of_block e end ends h =
      let c = carried s e h in
      let same : carries_vertex s (number s e) ≡ crosses s e.low (high e) =
      both_ways _ _
      (λ q. differ (is_inside s e.low) (is_inside s (high e)) (c.0 (has_names (regular_mesh s).made (number s e) (holds _ q))))
      (λ q.
      let v = c.1 (different (is_inside s e.low) (is_inside s (high e)) q) in
      passes _ (names_has (regular_mesh s).made (number s e) v.0 v.1)) in
      ap one same ∙ ap (λ (p : Xyz). one (crosses s e.low p)) ends

  -- one that would lead out of the block does not
  beyond : (e : Edge) → Begins s e → (OfBlock s e → ⊥) → counted e ≡ 0
  beyond e b out = go (carries_vertex s (number s e)) (λ q. q)
    where
      go : (c : Bool) → (c ≡ true → carries_vertex s (number s e) ≡ true) → one c ≡ 0
      go true q =
          let v = has_names (regular_mesh s).made (number s e) (holds _ (q refl)) in
          let o = (no_hole s).lying v.0 v.1.there in
          let same = begun_one s o.on e (begins o.of_block) b (sym o.named.held ∙ v.1.held) in
          absurd (out (subst (OfBlock s) same o.of_block))
      go false q = refl

  -- ---- along each axis

  along_x : box (λ x y z. counted (edge x y z 0)) m m m ≡ x_edges s
  unfolding x_edges
  along_x =
      total_last _ n
      (total_none _ m
      (λ y hy. total_none _ m (λ z hz. beyond (edge n y z 0) (record { axis_is = omega arith; y_in = omega arith; z_in = omega arith }) (λ h. omega (arith, h.high_x)))))
      ∙ box_same _ _ n m m
      (λ x y z hx hy hz. of_block (edge x y z 0) (xyz (x + 1) y z) (same_point (omega arith) (omega arith) (omega arith))
      (record { axis_is = omega arith; low_x = omega arith; low_y = omega arith; low_z = omega arith; high_x = omega arith; high_y = omega arith; high_z = omega arith }))

  along_y : box (λ x y z. counted (edge x y z 1)) m m m ≡ y_edges s
  unfolding y_edges
  along_y =
      total_same _ _ m
      (λ x hx. total_last _ n
      (total_none _ m (λ z hz. beyond (edge x n z 1) (record { axis_is = omega arith; y_in = omega arith; z_in = omega arith }) (λ h. omega (arith, h.high_y)))))
      ∙ box_same _ _ m n m
      (λ x y z hx hy hz. of_block (edge x y z 1) (xyz x (y + 1) z) (same_point (omega arith) (omega arith) (omega arith))
      (record { axis_is = omega arith; low_x = omega arith; low_y = omega arith; low_z = omega arith; high_x = omega arith; high_y = omega arith; high_z = omega arith }))

  along_z : box (λ x y z. counted (edge x y z 2)) m m m ≡ z_edges s
  unfolding z_edges
  along_z =
      total_same _ _ m
      (λ x hx. total_same _ _ m
      (λ y hy. total_last _ n (beyond (edge x y n 2) (record { axis_is = omega arith; y_in = omega arith; z_in = omega arith }) (λ h. omega (arith, h.high_z)))))
      ∙ box_same _ _ m m n
      (λ x y z hx hy hz. of_block (edge x y z 2) (xyz x y (z + 1)) (same_point (omega arith) (omega arith) (omega arith))
      (record { axis_is = omega arith; low_x = omega arith; low_y = omega arith; low_z = omega arith; high_x = omega arith; high_y = omega arith; high_z = omega arith }))

  -- ---- all

  pub crossed_edges : how_many (carries_vertex s) (edges_most s) ≡ x_edges s + y_edges s + z_edges s
  crossed_edges =
      how_many_lem (carries_vertex s) (edges_most s)
      ∙ total_rows (λ g. one (carries_vertex s g)) 3 (m * m * m)
      ∙ total_places _ n
      ∙ box_same _ _ m m m (λ x y z hx hy hz. three_axes x y z)
      ∙ box_three (λ x y z. counted (edge x y z 0)) (λ x y z. counted (edge x y z 1)) (λ x y z. counted (edge x y z 2)) m m m
      ∙ (λ i. along_x i + along_y i + along_z i)
    where
      three_axes : (x y z : ℕ) → total (λ j. one (carries_vertex s (3 * in_block n x y z + j))) 3
          ≡ counted (edge x y z 0) + counted (edge x y z 1) + counted (edge x y z 2)
      three_axes x y z = omega arith
