-- The labelled mesh before each cell of a named side, and so in the end: it is in step with the definition's, its store, its vertices and its triangles
-- name what the labels tell, and every corner of a transition triangle lies on an edge of its own cell.
use Rattle.std.specs.Prelude.{◌≡◌, Bool, true, false, get_or}
use Rattle.std.proofs.Math.Path.{refl, ap}
use Rattle.std.proofs.Common.{sym, ◌∙◌, subst, suc-mul, zero-mul, eq-or-lt_of_le, not-suc-le-zero, le_of_suc-le-suc, arith, ⊎_elim}
use Prim.Native.Nat.{ℕ, zero, suc, ◌+◌, ◌*◌, ◌≤◌, ◌<◌}
use Rattle.std.proofs.Math.Nat.{le_refl}
use Rattle.std.proofs.Math.Decide.{dec_lt}
use Rattle.std.proofs.Math.ListN.{length, length-append, get_or-append}
use Rattle.tables.specs.Codes.{is_new, edge_of}
use Rattle.tables.specs.Cases.{transition_corner, transition_triangles, transition_turned, sent}
use Rattle.tables.proofs.RulesCorners.{transition_cell_right}
use Rattle.tables.proofs.RulesTransition.{transition_lists}
use Rattle.tables.specs.RulesBorder.{transition_new_code}
use Rattle.model.specs.declared.Triangle.{Triangle}
use Rattle.model.specs.Limits.{side_count}
use Rattle.model.specs.Sides.{named}
use Rattle.model.specs.Star.{Star, subdivisions}
use Rattle.model.specs.Points.{transition_case}
use Rattle.model.specs.Mesh.{Made, Mesh, store_length, filled, corner_index, triangle_of, cell_step, transition_cell, transition_row, transition_side, transition_to, regular_mesh, mesh_of}
use Rattle.model.specs.Adding.{cell_triangles}
use Rattle.closed.specs.Clauses.{no_vertex, Names}
use Rattle.closed.specs.Places.{pair_one}
use Rattle.closed.specs.CellStep.{Filled, cell_filled, From, step_made, step_triangles, names_more, InReach, step_reach}
use Rattle.closed.proofs.Whole.{whole, in_reach}
use Rattle.closed.specs.SideCells.{case_small, codes, code_at, code_used, CrossedAt, crossed_slot, new_index}
use Rattle.closed.specs.Indices.{IsSideCell}
use Rattle.finer.specs.Labels.{label_of, side_cell, labelled_mesh, SameBut}
use Rattle.finer.specs.Clauses.{IsSide, OwnSideVertex, OwnSideTriangle, SideCorners, MadeBySide, OnSide, RegularLying}
use Rattle.finer.specs.Walk.{Keeps, kept_all}
use Rattle.finer.specs.SideLabels.{edge_right, own_edge, byte_label}
use Rattle.finer.specs.SideStored.{rank_of, HoldsFine, StoredFine, pays, owed, size, label, stored_at}
use Rattle.finer.proofs.SideStored.{cell_fits}
use Rattle.finer.proofs.SideVertices.{made_lies}
use Rattle.finer.specs.InStep.{as_many, step_same, same_mesh}

-- where the definition's mesh is `plain`, and all cells of the sides before `side` are done
pub record Sound (s : Star) (plain : Mesh) (side : ℕ) (m : Mesh) : Type 0 where
  pub in_step : SameBut plain m
  pub long : length m.store ≡ store_length (subdivisions s)
  pub reach : InReach m
  pub corners : SideCorners s m
  pub front : (i : ℕ) → i < length (regular_mesh s).made → get_or m.made i no_vertex ≡ get_or (regular_mesh s).made i no_vertex
  pub grown : (k : ℕ) → k ≤ side → length (transition_to s k 0 0).made ≤ length m.made
  pub lying : (k i : ℕ) → k < side → MadeBySide s k i → OnSide s k (get_or m.made i no_vertex)

-- before the cell (u, v) of a side
pub record SideWhole (s : Star) (side u v : ℕ) (m : Mesh) : Type 0 where
  pub sound : Sound s (transition_to s side u v) side m
  pub stored : StoredFine s side (rank_of s side u v) m.made m.store
  pub here : From (OnSide s side) (length (transition_to s side 0 0).made) m.made

-- ---- one more cell

sent_below : (b : Bool) (k t : ℕ) → k < 3 * t → sent b k < 3 * t
sent_below true k t h = omega arith
sent_below false k t h = h

-- the code of the corner k of a cell's triangles, as it is sent
abbrev pub corner_code : Star → ℕ → ℕ → ℕ → ℕ → ℕ
corner_code s side u v k =
    let case = transition_case s side u v in
    code_at s side u v (transition_corner case (sent (transition_turned case) k))

pub corner_in_lem : (s : Star) (side u v k : ℕ) → k < 3 * transition_triangles (transition_case s side u v)
    → let case = transition_case s side u v in transition_corner case (sent (transition_turned case) k) < codes s side u v
corner_in_lem s side u v k h =
    (transition_cell_right (transition_case s side u v) (case_small s side u v)).corner_below _
    (sent_below (transition_turned (transition_case s side u v)) k _ h)

module _ (s : Star) (side u v : ℕ) (cell : IsSideCell s side u v) (m : Mesh) (w : SideWhole s side u v m) where
  abbrev next : Mesh
  next = cell_step (side_cell s side u v) m

  done : Filled (owed s side u v cell) (size s side u v cell) (side_cell s side u v) (label s side u v cell) next.made (codes s side u v)
      (filled (side_cell s side u v) m)
  unfolding side_cell transition_cell
  done =
      cell_filled (owed s side u v cell) (size s side u v cell) (side_cell s side u v) (label s side u v cell) (cell_fits s side u v cell) m
      (pays s side (rank_of s side u v) m.made m.store w.stored) w.sound.long

  pub corner_named : (k : ℕ) → k < 3 * transition_triangles (transition_case s side u v)
      → Names next.made (corner_index (side_cell s side u v) (filled (side_cell s side u v) m).index k) (label_of s side u v (corner_code s side u v k))
  unfolding side_cell transition_cell
  corner_named k h = done.named _ (corner_in_lem s side u v k h)

  stepped : SameBut (transition_to s side u (suc v)) next
  unfolding transition_to side_cell
  stepped = step_same (transition_cell s side u v) _ (transition_to s side u v) m w.sound.in_step

  -- ---- its triangles

  own_corner : (k : ℕ) → k < 3 * transition_triangles (transition_case s side u v)
      → OwnSideVertex s next.made side u v (corner_index (side_cell s side u v) (filled (side_cell s side u v) m).index k)
  own_corner k h =
      let named = corner_named k h in
      let code = corner_code s side u v k in
      let used = transition_lists.is_edge code (code_used s side u v _ (corner_in_lem s side u v k h)) in
      record {
        by_then = rw (as_many stepped).0 named.there;
        label = label_of s side u v (edge_of code);
        own = own_edge s side u v (edge_of code) (edge_right (edge_of code) used);
        names = record { there = named.there; held = named.held ∙ sym (byte_label s side u v code) };
      }

  new_triangle : (j : ℕ) → j < transition_triangles (transition_case s side u v)
      → OwnSideTriangle s next.made (length m.triangles + j) (triangle_of (side_cell s side u v) (filled (side_cell s side u v) m).index j)
  unfolding triangle_of side_cell transition_cell
  new_triangle j h =
      record {
        side = side;
        u = u;
        v = v;
        sent = record {
          cell = cell;
          not_before = omega (arith, (as_many w.sound.in_step).1);
          by_then = omega (arith, (as_many stepped).1, cell_triangles (side_cell s side u v) m);
        };
        a = own_corner (3 * j) (omega arith);
        b = own_corner (3 * j + 1) (omega arith);
        c = own_corner (3 * j + 2) (omega arith);
      }

  old_vertex : {side u v i : ℕ} → OwnSideVertex s m.made side u v i → OwnSideVertex s next.made side u v i
  unfolding cell_step
  old_vertex o = record { by_then = o.by_then; label = o.label; own = o.own; names = names_more m.made _ o.names }

  corners_after : SideCorners s next
  unfolding side_cell transition_cell
  corners_after t late h =
      step_triangles (side_cell s side u v) m (λ (t : ℕ) (n : Triangle). length (regular_mesh s).triangles ≤ t → OwnSideTriangle s next.made t n)
      (λ t l late.
      let o = w.sound.corners t late l in
      record { side = o.side; u = o.u; v = o.v; sent = o.sent; a = old_vertex o.a; b = old_vertex o.b; c = old_vertex o.c })
      (λ j l late. new_triangle j l) t h late

  -- ---- its vertices

  grown_after : (k : ℕ) → k ≤ side → length (transition_to s k 0 0).made ≤ length next.made
  unfolding cell_step
  grown_after k h = rw length-append (omega (arith, w.sound.grown k h))

  kept : (i : ℕ) → i < length m.made → get_or next.made i no_vertex ≡ get_or m.made i no_vertex
  unfolding cell_step
  kept i h = get_or-append m.made (filled (side_cell s side u v) m).made no_vertex i h

  front_after : (i : ℕ) → i < length (regular_mesh s).made → get_or next.made i no_vertex ≡ get_or (regular_mesh s).made i no_vertex
  unfolding transition_to
  front_after i h = kept i (omega (arith, w.sound.grown 0 (omega arith))) ∙ w.sound.front i h

  lying_after : (k i : ℕ) → k < side → MadeBySide s k i → OnSide s k (get_or next.made i no_vertex)
  lying_after k i h made = rw (kept i (omega (arith, made.by_then, w.sound.grown (suc k) h))) (w.sound.lying k i h made)

  here_after : From (OnSide s side) (length (transition_to s side 0 0).made) next.made
  unfolding side_cell transition_cell
  here_after =
      step_made (OnSide s side) (length (transition_to s side 0 0).made) (side_cell s side u v) m
      (λ j h makes. made_lies s side u v cell (code_at s side u v j) (code_used s side u v j h)) w.here

  -- ---- the store

  -- an index whose edge is crossed has been stored
  slot_made : (r : ℕ) → r < 10 → is_new (transition_new_code r) ≡ 1 → CrossedAt s side u v (transition_new_code r)
      → HoldsFine s side next.made (filled (side_cell s side u v) m).store u v r
  unfolding side_cell transition_cell
  slot_made r small new crossed =
      let i = crossed_slot s side u v r small new crossed in
      let at = stored_at s side u v cell (code_at s side u v i.0) (ap is_new i.2 ∙ new) in
      let f = done.fresh i.0 i.1 at.0 in
      rw (at.1, i.2, new_index r small new) at f

  stored_after : StoredFine s side (rank_of s side u (suc v)) next.made (filled (side_cell s side u v) m).store
  stored_after u' v' r c small new before crossed = go (dec_lt (rank_of s side u' v') (rank_of s side u v))
    where
      go : Dec (rank_of s side u' v' < rank_of s side u v) → HoldsFine s side next.made (filled (side_cell s side u v) m).store u' v' r
      go (yes l) =
          done.old _ _
          (record { u = u'; v = v'; r = r; cell = c; small = small; new = new; before = l; crossed = crossed; place_is = refl; label_is = refl })
      go (no l) =
          let p = pair_one (subdivisions s) u' v' u v c.v_in cell.v_in (omega arith) in
          rw (p.0, p.1) (slot_made r small new (rw (p.0, p.1) at crossed))

  next_reach : InReach next
  unfolding side_cell transition_cell
  next_reach = step_reach (side_cell s side u v) m (λ k. label_of s side u v (corner_code s side u v k)) w.sound.reach corner_named

  next_whole : SideWhole s side u (suc v) next
  unfolding cell_step
  next_whole =
      record {
        sound = record {
          in_step = stepped;
          long = done.long;
          reach = next_reach;
          corners = corners_after;
          front = front_after;
          grown = grown_after;
          lying = lying_after;
        };
        stored = stored_after;
        here = here_after;
      }

-- ---- all cells

module _ (s : Star) where
  abbrev n : ℕ
  n = subdivisions s

  -- the end of a row is the start of the next; the end of a named side is that of the next, and one that is not named adds nothing
  row_end : (side u : ℕ) → transition_to s side u n ≡ transition_to s side (suc u) 0
  unfolding transition_to transition_row
  row_end side u = refl

  side_end : (side : ℕ) → IsSide s side → transition_to s side n 0 ≡ transition_to s (suc side) 0 0
  unfolding transition_to transition_side
  side_end side a = rw a.side_named refl

  pub side_none : (side : ℕ) → named s.mask side ≡ false → transition_to s side 0 0 ≡ transition_to s (suc side) 0 0
  unfolding transition_to transition_side
  side_none side e = rw e refl

  pub whole_to : mesh_of s ≡ transition_to s side_count 0 0
  unfolding transition_to mesh_of
  whole_to = refl

  regular_sound : Sound s (transition_to s 0 0 0) 0 (regular_mesh s)
  unfolding transition_to
  regular_sound =
      record {
        in_step = same_mesh (regular_mesh s);
        long = (whole s).long;
        reach = in_reach s _ (regular_mesh s) (whole s);
        corners = λ t late h. absurd (omega arith);
        front = λ i h. refl;
        grown = none_grown;
        lying = λ k i h. absurd (not-suc-le-zero h);
      }
    where
      none_grown : (k : ℕ) → k ≤ 0 → length (transition_to s k 0 0).made ≤ length (regular_mesh s).made
      none_grown zero h = le_refl _
      none_grown (suc k) h = absurd (not-suc-le-zero h)

  entered : (side : ℕ) (m : Mesh) → Sound s (transition_to s side 0 0) side m → SideWhole s side 0 0 m
  entered side m d =
      record {
        sound = d;
        stored = λ u v r c small new before. absurd (omega (arith, zero-mul n));
        here = λ i late h. absurd (omega (arith, (as_many d.in_step).0));
      }

  next_row : (side u : ℕ) (m : Mesh) → SideWhole s side u n m → SideWhole s side (suc u) 0 m
  next_row side u m w =
      let e : rank_of s side u n ≡ rank_of s side (suc u) 0 = omega (arith, suc-mul u n) in
      record { sound = rw (row_end side u) at w.sound; stored = rw e at w.stored; here = w.here }

  -- one side more
  module _ (side : ℕ) (m : Mesh) (plain : Mesh) (same : plain ≡ transition_to s (suc side) 0 0) (d : Sound s plain side m)
      (here : (i : ℕ) → MadeBySide s side i → OnSide s side (get_or m.made i no_vertex)) where
    last : length (transition_to s (suc side) 0 0).made ≤ length m.made
    last = omega (arith, (as_many d.in_step).0, ap (λ (l : Mesh). length l.made) same)

    one_more : Sound s (transition_to s (suc side) 0 0) (suc side) m
    one_more =
        record {
          in_step = rw same at d.in_step;
          long = d.long;
          reach = d.reach;
          corners = d.corners;
          front = d.front;
          grown = λ k h.
              ⊎_elim (λ e. subst (λ (k : ℕ). length (transition_to s k 0 0).made ≤ length m.made) (sym e) last)
              (λ l. d.grown k (le_of_suc-le-suc l)) (eq-or-lt_of_le h);
          lying = λ k i h made.
              ⊎_elim (λ e. subst (λ (k : ℕ). OnSide s k (get_or m.made i no_vertex)) (sym e) (here i (subst (λ (k : ℕ). MadeBySide s k i) e made)))
              (λ l. d.lying k i l made) (eq-or-lt_of_le (le_of_suc-le-suc h));
        }

  left : (side : ℕ) (m : Mesh) → IsSide s side → SideWhole s side n 0 m → Sound s (transition_to s (suc side) 0 0) (suc side) m
  left side m a w =
      let counted = ap (λ (l : Mesh). length l.made) (side_end side a) in
      one_more side m (transition_to s side n 0) (side_end side a) w.sound
      (λ i made. w.here i made.not_before (omega (arith, made.by_then, (as_many w.sound.in_step).0, counted)))

  passed : (side : ℕ) (m : Mesh) → named s.mask side ≡ false → Sound s (transition_to s side 0 0) side m
      → Sound s (transition_to s (suc side) 0 0) (suc side) m
  passed side m e d =
      one_more side m (transition_to s side 0 0) (side_none side e) d
      (λ i made. absurd (let z : ◌≡◌ {A = ℕ} 0 1 = cc (e, made.of_side.side_named) in omega arith))

  pub whole_keeps : Keeps s (side_cell s) (SideWhole s) (λ side. Sound s (transition_to s side 0 0) side)
  whole_keeps =
      record {
        start = regular_sound;
        enter = λ side m a d. entered side m d;
        next = λ side u v m c w. next_whole s side u v c m w;
        row = λ side u m a w. next_row side u m w;
        leave = left;
        pass = λ side m h e d. passed side m e d;
      }

  -- of the whole mesh
  pub labelled_sound : Sound s (mesh_of s) side_count (labelled_mesh s)
  labelled_sound = rw whole_to (kept_all s (side_cell s) (SideWhole s) (λ side. Sound s (transition_to s side 0 0) side) whole_keeps)

  -- its regular vertices lie on their grid edges
  pub regular_lying : RegularLying s (labelled_mesh s).made
  unfolding transition_to
  regular_lying i h =
      let o = (whole s).lying i h in
      let same = labelled_sound.front i h in
      record {
        on = o.on;
        of_block = o.of_block;
        crossed = o.crossed;
        named = record { there = omega (arith, labelled_sound.grown 0 (omega arith)); held = ap (λ (m : Made). m.edge) same ∙ o.named.held };
        vertex_is = ap (λ (m : Made). m.vertex) same ∙ o.vertex_is;
      }
