-- The wrong meshes do not have the property: each breaks the clause that its statement names, at a small block that is computed in full.
use Rattle.std.specs.Prelude.{◌≡◌, refl, ◌≢◌, Bool, false, cond, not, List, [], ◌∷◌, ℕ, zero, suc, T, eqb, leb, ltb, pos, Float, length}
use Rattle.std.proofs.Common.{sym, inl, inr, arith, leb→le, ltb→lt, T_not}
use Rattle.std.proofs.Math.Dec.{eqb_refl}
use Rattle.std.specs.Float.Ieee as Ieee
use Rattle.std.specs.Float.{fin}
use Rattle.laws.specs.Tests.{both, both_left, both_right, below, all}
use Rattle.laws.specs.Counting.{has}
use Rattle.tables.specs.RegularRows as rows
use Rattle.tables.specs.Cases as tables
use Rattle.laws.specs.Steps.{listed}
use Rattle.model.specs.Samples as Samples
use Rattle.model.specs.Samples.{sample_length}
use Rattle.model.specs.Sides.{neighbours_length}
use Rattle.model.specs.Formulas.{vector}
use Rattle.model.specs.Star.{Star, star, subdivisions}
use Rattle.model.specs.Points.{regular_case}
use Rattle.model.specs.Mesh.{Made, Mesh, fill_step, fill_to, triangle_of, empty_mesh, cell_step, regular_place, regular_edge, regular_leaves, regular_use, regular_cell, regular_column, regular_layer, regular_mesh, regular_to}
use Rattle.closed.specs.Clauses.{Edge, edge, high, number, OfBlock, OfCell, Crossed, edge_at, Names, triangle_at, run, sides, runs, Carried, Corners, InnerPair, Balanced}
use Rattle.closed.specs.Wrong.{emptied, first_only, last_dropped, first_turned, slipped}

-- ---- small blocks

abbrev whole : ℕ → Float
whole k = fin false k (pos 0)

-- samples of which those with these places are inside
abbrev samples : ℕ → List ℕ → List Float
samples count places = listed (λ k. cond (has k places) (whole 1) (whole 0)) count

-- a block of n subdivisions with the sides named by a mask, its inside samples by their places, and those of its neighbours; whoever unfolds it can
-- compute what its regular cells make
unfoldable pub star_of : ℕ → ℕ → List ℕ → List ℕ → Star
unfolding regular_to runs sides run regular_mesh regular_layer regular_column cell_step empty_mesh regular_cell regular_use regular_leaves regular_edge regular_place triangle_of fill_to fill_step regular_case Samples.value_at Samples.reading_at Samples.sampled Samples.outside Samples.place_of Ieee.le Ieee.lt Ieee.eq rows.classes rows.cell_rows rows.vertex_rows tables.regular_class tables.regular_codes tables.regular_cell tables.regular_code tables.regular_vertices tables.regular_triangles tables.regular_corner both
star_of n mask centre neighbours =
    star
    (record { block = record { base = vector (whole 0) (whole 0) (whole 0); size = whole 1; subdivisions = n }; mask = mask; threshold = whole 1 })
    (samples (sample_length n) centre) (samples (neighbours_length n mask) neighbours)

unfoldable pub block_of : ℕ → List ℕ → Star
unfolding star_of
block_of n places = star_of n 0 places []

-- one cell with no corner inside; with (0, 0, 0) inside; and with (0, 0, 0) and (1, 0, 0), so that two triangles have a side between them
unfoldable pub outside : Star
outside = block_of 1 []

unfoldable pub corner : Star
corner = block_of 1 (0 ∷ [])

unfoldable pub ridge : Star
ridge = block_of 1 (0 ∷ 4 ∷ [])

-- eight cells with (0, 1, 0) inside; and with the point in the middle
unfoldable pub border : Star
border = block_of 2 (3 ∷ [])

unfoldable pub middle : Star
middle = block_of 2 (13 ∷ [])

unfoldable pub of_block_test : ℕ → Edge → Bool
of_block_test n e = both (ltb e.axis 3) (both (leb (high e).x n) (both (leb (high e).y n) (leb (high e).z n)))

pub of_block : (s : Star) (e : Edge) → T (of_block_test (subdivisions s) e) → OfBlock s e
unfolding of_block_test
of_block s e t =
    let t₁ = both_right _ _ t in
    let t₂ = both_right _ _ t₁ in
    let x = leb→le (high e).x (subdivisions s) (both_left _ _ t₁) in
    let y = leb→le (high e).y (subdivisions s) (both_left _ _ t₂) in
    let z = leb→le (high e).z (subdivisions s) (both_right _ _ t₂) in
    record {
      axis_is = ltb→lt _ _ (both_left _ _ t);
      low_x = omega arith;
      low_y = omega arith;
      low_z = omega arith;
      high_x = omega arith;
      high_y = omega arith;
      high_z = omega arith;
    }

-- ---- clause 1

-- no vertex is on the edge g
unfoldable nowhere : List Made → ℕ → Bool
nowhere made g = below (λ i. not (eqb (edge_at made i) g)) (length made)

not_named : (made : List Made) (g : ℕ) → T (nowhere made g) → (i : ℕ) × Names made i g → ⊥
unfolding nowhere
not_named made g t n =
    T_not (eqb (edge_at made n.0) g) (all (λ i. not (eqb (edge_at made i) g)) (length made) t n.0 n.1.there)
    (rw n.1.held (eqb_refl g))

breaks_carried : (s : Star) (m : Mesh) (e : Edge) → T (of_block_test (subdivisions s) e) → Crossed s e → T (nowhere m.made (number s e))
    → Carried s m → ⊥
breaks_carried s m e b crossed none carried = not_named m.made _ none ((carried e (of_block s e b)).1 crossed)

pub emptied_not_carried : Carried corner (emptied corner) → ⊥
unfolding corner block_of of_block_test nowhere
emptied_not_carried = breaks_carried corner (emptied corner) (edge 0 0 0 0) tt (λ e. omega arith) tt

pub first_only_not_carried : Carried middle (first_only middle) → ⊥
unfolding middle block_of of_block_test nowhere
first_only_not_carried = breaks_carried middle (first_only middle) (edge 1 1 1 0) tt (λ e. omega arith) tt

-- whatever the mesh, it is not that of both blocks
pub same_not_carried : (m : Mesh) → Carried corner m → Carried outside m → ⊥
unfolding corner outside block_of of_block_test
same_not_carried m first second =
    let e = edge 0 0 0 0 in
    (second e (of_block outside e tt)).0 ((first e (of_block corner e tt)).1 (λ e. omega arith)) refl

-- ---- clause 3

breaks_balanced : (s : Star) (m : Mesh) (e f : Edge) → T (of_block_test (subdivisions s) e) → T (of_block_test (subdivisions s) f) → InnerPair s e f
    → runs m (number s e) (number s f) ≢ runs m (number s f) (number s e) → Balanced s m → ⊥
breaks_balanced s m e f he hf inner differ balanced = differ (balanced e f (of_block s e he) (of_block s f hf) inner)

-- the edges 0-2 and 1-5 of the one cell
inner_ridge : InnerPair ridge (edge 0 0 0 1) (edge 1 0 0 2)
inner_ridge zero v h o i j = omega (arith, i.low_in, j.low_in)
inner_ridge (suc zero) v h o i j = omega (arith, i.low_in, i.high_in)
inner_ridge (suc (suc zero)) v h o i j = omega (arith, j.low_in, j.high_in)
inner_ridge (suc (suc (suc d))) v h o i j = omega arith

-- between which the mesh itself has one side each way
pub ridge_sides : (runs (regular_mesh ridge) (number ridge (edge 0 0 0 1)) (number ridge (edge 1 0 0 2)) ≡ 1)
    × (runs (regular_mesh ridge) (number ridge (edge 1 0 0 2)) (number ridge (edge 0 0 0 1)) ≡ 1)
unfolding ridge block_of
ridge_sides = (refl, refl)

pub last_dropped_not_balanced : Balanced ridge (last_dropped (regular_mesh ridge)) → ⊥
unfolding ridge block_of of_block_test
last_dropped_not_balanced = breaks_balanced ridge (last_dropped (regular_mesh ridge)) (edge 0 0 0 1) (edge 1 0 0 2) tt tt inner_ridge (λ e. omega arith)

pub first_turned_not_balanced : Balanced ridge (first_turned ridge) → ⊥
unfolding ridge block_of of_block_test
first_turned_not_balanced = breaks_balanced ridge (first_turned ridge) (edge 0 0 0 1) (edge 1 0 0 2) tt tt inner_ridge (λ e. omega arith)

-- the edges 3-7 and 5-7 of the first of eight cells
inner_middle : InnerPair middle (edge 1 1 0 2) (edge 1 0 1 1)
unfolding middle block_of
inner_middle zero v h (inl o) i j = omega (arith, i.low_in)
inner_middle zero v h (inr o) i j = omega (arith, i.low_in)
inner_middle (suc zero) v h o i j = omega (arith, j.low_in, j.high_in)
inner_middle (suc (suc zero)) v h o i j = omega (arith, i.low_in, i.high_in)
inner_middle (suc (suc (suc d))) v h o i j = omega arith

pub first_only_not_balanced : Balanced middle (first_only middle) → ⊥
unfolding middle block_of of_block_test
first_only_not_balanced = breaks_balanced middle (first_only middle) (edge 1 1 0 2) (edge 1 0 1 1) tt tt inner_middle (λ e. omega arith)

-- ---- clause 2

-- triangle 1, of the cell (0, 1, 0), has vertex 0 as its last corner
slipped_triangles : (length (slipped border).triangles ≡ 2) × ((triangle_at (slipped border) 1).c ≡ 0) × (edge_at (slipped border).made 0 ≡ 1)
unfolding border block_of
slipped_triangles = (refl, refl, refl)

first_sends_one : length (regular_to border 0 0 1).triangles ≡ 1
unfolding border block_of
first_sends_one = refl

-- the grid edge 1, from (0, 0, 0) along y, is an edge of the first cell alone
first_cell_alone : (x y z : ℕ) (e : Edge) → OfCell x y z e → number border e ≡ 1 → (x ≡ 0) × (y ≡ 0) × (z ≡ 0)
unfolding border block_of
first_cell_alone x y z e o q = (omega (arith, o.low_x), omega (arith, o.low_y), omega (arith, o.low_z))

pub slipped_not_corners : Corners border (slipped border) → ⊥
slipped_not_corners corners =
    let k = slipped_triangles in
    let o = corners 1 (rw k.0 (omega arith)) in
    let held = rw (k.1, k.2) at o.c.named.held in
    let cell = first_cell_alone o.x o.y o.z o.c.on o.c.own (sym held) in
    let sent = rw (cell.0, cell.1, cell.2, first_sends_one) at o.sent.by_then in
    omega arith
