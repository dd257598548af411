-- The mesh of the cells before each cell, and so of all: what its store, its vertices and its triangles name. Clause 2 is part of it.
use Rattle.std.specs.Prelude.{◌≡◌, List, ℕ, zero, suc, ◌+◌, ◌*◌, ◌≤◌, ◌<◌, length}
use Rattle.std.proofs.Math.Path.{refl, ap}
use Rattle.std.proofs.Common.{◌∙◌, add-zero, suc-mul, le_refl, le_of_lt, not-suc-le-zero, arith}
use Rattle.std.proofs.Math.Nat.{zero-mul}
use Rattle.std.proofs.Math.ListN.{length-replicate}
use Rattle.tables.specs.Codes.{is_new}
use Rattle.tables.specs.Cases.{regular_triangles, regular_corner}
use Rattle.tables.proofs.RulesCorners.{regular_cell_right}
use Rattle.tables.specs.RulesSlots.{regular_slot}
use Rattle.model.specs.declared.Triangle.{Triangle}
use Rattle.model.specs.Star.{Star, subdivisions}
use Rattle.model.specs.Points.{regular_case}
use Rattle.model.specs.Mesh.{Made, Fill, Mesh, filled, corner_index, triangle_of, cell_step, empty_mesh, store_length, regular_cell, regular_column, regular_layer, regular_to, regular_mesh}
use Rattle.model.specs.Adding.{cell_triangles}
use Rattle.closed.specs.Clauses.{number, Crossed, Names, triangle_at, IsCell, Sends, OwnVertex, Corners, Lying}
use Rattle.closed.specs.Places.{rank, cells_up_to}
use Rattle.closed.specs.Cells.{code_edge, codes, code_at, slot_edge, code_own, case_small, code_right, crossed_slot}
use Rattle.closed.specs.CellStep.{Filled, cell_filled, From, step_made, step_triangles, names_more, InReach}
use Rattle.closed.specs.Stored.{Holds, Stored, pays, LiesOn, owed, size, label, stored_at}
use Rattle.closed.proofs.Stored.{cell_fits, cell_lies}

-- the mesh of the cells before the rank `here`
pub record Whole (s : Star) (here : ℕ) (m : Mesh) : Type 0 where
  pub stored : Stored s here m.made m.store
  pub long : length m.store ≡ store_length (subdivisions s)
  pub lying : Lying s m.made
  pub carried : (x y z : ℕ) → IsCell s x y z → rank s x y z < here → (j : ℕ) → j < codes s x y z
      → (i : ℕ) × Names m.made i (number s (code_edge x y z (code_at s x y z j)))
  pub corners : Corners s m

-- ---- one more cell

lying : (s : Star) (made : List Made) → From (LiesOn s) 0 made → Lying s made
lying s made all i h =
    let l = all i (omega arith) h in
    record { on = l.on; of_block = l.of_block; crossed = l.crossed; named = record { there = h; held = l.edge_is }; vertex_is = l.vertex_is }

all_lie : (s : Star) (made : List Made) → Lying s made → From (LiesOn s) 0 made
all_lie s made all i l h =
    let o = all i h in
    record { on = o.on; of_block = o.of_block; crossed = o.crossed; edge_is = o.named.held; vertex_is = o.vertex_is }

-- the three corners of a triangle lie in the cell that sends it
record Owns (s : Star) (m : Mesh) (t : ℕ) (corners : Triangle) : Type 0 where
  x : ℕ
  y : ℕ
  z : ℕ
  sent : Sends s x y z t
  a : OwnVertex s m x y z corners.a
  b : OwnVertex s m x y z corners.b
  c : OwnVertex s m x y z corners.c

module _ (s : Star) (x y z : ℕ) where
  abbrev before : Mesh
  before = regular_to s x y z

  abbrev after : Mesh
  after = regular_to s x y (suc z)

  pub after_is : after ≡ cell_step (regular_cell s x y z) before
  unfolding regular_to
  after_is = refl

  abbrev fill : Fill
  fill = filled (regular_cell s x y z) before

  corner_below : (k : ℕ) → k < 3 * regular_triangles (regular_case s x y z)
      → regular_corner (regular_case s x y z) k < codes s x y z
  corner_below k h = (regular_cell_right (regular_case s x y z) (case_small s x y z)).corner_below k h

  module _ (c : IsCell s x y z) (p : Whole s (rank s x y z) before) where
    done : Filled (owed s x y z c) (size s x y z c) (regular_cell s x y z) (label s x y z c) after.made (codes s x y z) fill
    unfolding regular_to regular_cell
    done = cell_filled (owed s x y z c) (size s x y z c) (regular_cell s x y z) (label s x y z c) (cell_fits s x y z c) before
        (pays s (rank s x y z) before.made before.store p.stored) p.long

    -- an index whose edge is crossed has been stored
    slot_made : (r : ℕ) → 1 ≤ r → r < 4 → Crossed s (slot_edge x y z r) → Holds s after.made fill.store x y z r
    unfolding regular_cell
    slot_made r some small crossed =
        let i = crossed_slot s x y z r some small crossed in
        let slot = regular_slot r some small in
        let at = stored_at s x y z c (code_at s x y z i.0) (ap is_new i.2 ∙ slot.new) in
        let f = done.fresh i.0 i.1 at.0 in
        rw (at.1, i.2, slot.index) at f

    -- ---- its triangles

    -- the corner k of its triangles
    pub corner_named : (k : ℕ) → k < 3 * regular_triangles (regular_case s x y z)
        → Names after.made (corner_index (regular_cell s x y z) fill.index k)
        (number s (code_edge x y z (code_at s x y z (regular_corner (regular_case s x y z) k))))
    unfolding regular_cell
    corner_named k h = done.named _ (corner_below k h)

    own_corner : (k : ℕ) → k < 3 * regular_triangles (regular_case s x y z)
        → OwnVertex s after x y z (corner_index (regular_cell s x y z) fill.index k)
    own_corner k h =
        let n = corner_named k h in
        record { made = n.there; on = _; own = code_own x y z _ (code_right s x y z _ (corner_below k h)); named = n }

    triangles_after : length after.triangles ≡ length before.triangles + regular_triangles (regular_case s x y z)
    unfolding regular_to regular_cell
    triangles_after = cell_triangles (regular_cell s x y z) before

    new_triangle : (j : ℕ) → j < regular_triangles (regular_case s x y z)
        → Owns s after (length before.triangles + j) (triangle_of (regular_cell s x y z) fill.index j)
    unfolding triangle_of
    new_triangle j h =
        record {
          x = x;
          y = y;
          z = z;
          sent = record { cell = c; not_before = omega arith; by_then = omega (arith, triangles_after) };
          a = own_corner (3 * j) (omega arith);
          b = own_corner (3 * j + 1) (omega arith);
          c = own_corner (3 * j + 2) (omega arith);
        }

    old_vertex : {u v w i : ℕ} → OwnVertex s before u v w i → OwnVertex s after u v w i
    unfolding regular_to cell_step
    old_vertex o = record { made = o.made; on = o.on; own = o.own; named = names_more before.made fill.made o.named }

    old_triangle : (t : ℕ) → t < length before.triangles → Owns s after t (triangle_at before t)
    old_triangle t h =
        let o = p.corners t h in
        record { x = o.x; y = o.y; z = o.z; sent = o.sent; a = old_vertex o.a; b = old_vertex o.b; c = old_vertex o.c }

    corners_after : Corners s after
    unfolding regular_to regular_cell
    corners_after t h =
        let o = step_triangles (regular_cell s x y z) before (Owns s after) old_triangle new_triangle t h in
        record { x = o.x; y = o.y; z = o.z; sent = o.sent; a = o.a; b = o.b; c = o.c }

    lying_after : Lying s after.made
    unfolding regular_to regular_cell
    lying_after =
        lying s after.made
        (step_made (LiesOn s) 0 (regular_cell s x y z) before (λ j h makes. cell_lies s x y z c j h) (all_lie s before.made p.lying))

    whole_cell : Whole s (rank s x y (suc z)) after
    unfolding regular_to cell_step
    whole_cell =
        record {
          stored = λ u v w r cell some small before crossed.
              cells_up_to s x y z (λ (u v w : ℕ). (r : ℕ) → 1 ≤ r → r < 4 → Crossed s (slot_edge u v w r)
              → Holds s after.made fill.store u v w r) c
              (λ u v w cell before r some small crossed.
              done.old _ _
              (record {
                x = u;
                y = v;
                z = w;
                r = r;
                cell = cell;
                some = some;
                small = small;
                before = before;
                crossed = crossed;
                place_is = refl;
                label_is = refl;
              }))
              slot_made u v w cell before r some small crossed;
          long = done.long;
          lying = lying_after;
          carried =
              cells_up_to s x y z (λ (u v w : ℕ). (j : ℕ) → j < codes s u v w
              → (i : ℕ) × Names after.made i (number s (code_edge u v w (code_at s u v w j)))) c
              (λ u v w cell earlier j h. let d = p.carried u v w cell earlier j h in (d.0, names_more before.made fill.made d.1))
              (λ j h. (_, done.named j h));
          corners = corners_after;
        }

-- each corner names a vertex
pub in_reach : (s : Star) (here : ℕ) (m : Mesh) → Whole s here m → InReach m
in_reach s here m w t h =
    let o = w.corners t h in
    record { a = o.a.named.there; b = o.b.named.there; c = o.c.named.there }

-- ---- all cells

module _ (s : Star) where
  none_made : Whole s (rank s 0 0 0) (regular_to s 0 0 0)
  unfolding regular_to empty_mesh
  none_made =
      record {
        stored = λ x y z r cell some small before. absurd (none_before before);
        long = length-replicate (store_length (subdivisions s)) 0;
        lying = λ i h. absurd (not-suc-le-zero h);
        carried = λ x y z cell before. absurd (none_before before);
        corners = λ t h. absurd (not-suc-le-zero h);
      }
    where
      none_before : {k : ℕ} → k < rank s 0 0 0 → ⊥
      none_before h = omega (arith, zero-mul (subdivisions s), ap (λ (k : ℕ). (k + 0) * subdivisions s) (zero-mul (subdivisions s)))

  cells_made : (x y : ℕ) → x < subdivisions s → y < subdivisions s → Whole s (rank s x y 0) (regular_to s x y 0)
      → (z : ℕ) → z ≤ subdivisions s → Whole s (rank s x y z) (regular_to s x y z)
  cells_made x y hx hy p zero h = p
  cells_made x y hx hy p (suc z) h =
      whole_cell s x y z (record { x_in = hx; y_in = hy; z_in = h }) (cells_made x y hx hy p z (le_of_lt h))

  -- the end of a column is the start of the next, and the end of a layer that of the next
  pub column_end : (x y : ℕ) → regular_to s x y (subdivisions s) ≡ regular_to s x (suc y) 0
  unfolding regular_to regular_column
  column_end x y = refl

  pub layer_end : (x : ℕ) → regular_to s x (subdivisions s) 0 ≡ regular_to s (suc x) 0 0
  unfolding regular_to regular_layer
  layer_end x = refl

  pub block_end : regular_to s (subdivisions s) 0 0 ≡ regular_mesh s
  unfolding regular_to regular_mesh
  block_end = refl

  next_column : (x y : ℕ) → Whole s (rank s x y (subdivisions s)) (regular_to s x y (subdivisions s)) → Whole s (rank s x (suc y) 0) (regular_to s x (suc y) 0)
  next_column x y p =
      let n = subdivisions s in
      let e : rank s x y n ≡ rank s x (suc y) 0 = omega (arith, suc-mul (x * n + y) n) in
      rw (e, column_end x y) at p

  next_layer : (x : ℕ) → Whole s (rank s x (subdivisions s) 0) (regular_to s x (subdivisions s) 0) → Whole s (rank s (suc x) 0 0) (regular_to s (suc x) 0 0)
  next_layer x p =
      let n = subdivisions s in
      let e : rank s x n 0 ≡ rank s (suc x) 0 0 = rw (suc-mul, add-zero (x * n + n)) in
      rw (e, layer_end x) at p

  columns_made : (x : ℕ) → x < subdivisions s → Whole s (rank s x 0 0) (regular_to s x 0 0)
      → (y : ℕ) → y ≤ subdivisions s → Whole s (rank s x y 0) (regular_to s x y 0)
  columns_made x hx p zero h = p
  columns_made x hx p (suc y) h =
      next_column x y (cells_made x y hx h (columns_made x hx p y (le_of_lt h)) (subdivisions s) (le_refl _))

  layers_made : (x : ℕ) → x ≤ subdivisions s → Whole s (rank s x 0 0) (regular_to s x 0 0)
  layers_made zero h = none_made
  layers_made (suc x) h = next_layer x (columns_made x h (layers_made x (le_of_lt h)) (subdivisions s) (le_refl _))

  -- before each cell
  pub whole_at : (x y z : ℕ) → x < subdivisions s → y < subdivisions s → z ≤ subdivisions s
      → Whole s (rank s x y z) (regular_to s x y z)
  whole_at x y z hx hy hz = cells_made x y hx hy (columns_made x hx (layers_made x (le_of_lt hx)) y (le_of_lt hy)) z hz

  -- of all
  pub whole : Whole s (rank s (subdivisions s) 0 0) (regular_mesh s)
  whole = rw block_end at (layers_made (subdivisions s) (le_refl _))
