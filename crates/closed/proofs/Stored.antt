-- The index store's invariant, over a code and over the codes of a cell: an index that is taken from the store names the edge that its code stands
-- for, and a vertex that is made lies on that edge.
use Rattle.std.specs.Prelude.{◌≡◌, true, false, ℕ, ◌+◌, ◌-◌, ◌%◌, ◌≤◌, ◌<◌, eqb}
use Rattle.std.proofs.Math.Path.{refl, sym, ap}
use Rattle.std.proofs.Common.{◌∙◌, subst, arith}
use Rattle.std.proofs.Math.Decide.{ℕ_discrete}
use borrow.Author.Tests.{eqb-true, eqb-false, ltb-false}
use Rattle.laws.specs.Tests.{neither}
use Rattle.tables.specs.Codes.{step_x, step_y, step_z, is_new, reuse_index}
use Rattle.tables.specs.RulesSlots.{RegularCode}
use Rattle.model.specs.declared.Xyz.{Xyz}
use Rattle.model.specs.Formulas.{vertex_between}
use Rattle.model.specs.Star.{Star, subdivisions}
use Rattle.model.specs.Points.{regular_point}
use Rattle.model.specs.Mesh.{regular_edge, regular_vertex, regular_leaves, regular_use, regular_cell}
use Rattle.closed.specs.Clauses.{number, Crossed, IsCell}
use Rattle.closed.specs.Places.{rank_less, place_one, place_in}
use Rattle.closed.specs.Cells.{code_edge, codes, code_at, slot_edge, high_is, code_own, code_slot, new_slot, own_of_block, code_right, code_crossed}
use Rattle.closed.specs.CellStep.{Fits, FitsCell}
use Rattle.closed.proofs.CellStep.{use_fits}
use Rattle.closed.specs.Stored.{LiesOn, back_in, owed, size, here, back, stored_at, label}

-- ---- a code

-- a code that does not leave the block steps to a cell of it
stays : (x y z code : ℕ) → regular_leaves x y z code ≡ false → (step_x code ≤ x) × (step_y code ≤ y) × (step_z code ≤ z)
unfolding regular_leaves
stays x y z code e =
    let p = neither _ _ e in
    let q = neither _ _ p.1 in
    (ltb-false _ _ p.0, ltb-false _ _ q.0, ltb-false _ _ q.1)

some_step : (k steps : ℕ) → (k % 2 ≡ 1 → ⊥) → 1 ≤ k % 2 + steps → 0 < steps
some_step k steps h l = go (ℕ_discrete (k % 2) 1)
  where
    go : Dec (k % 2 ≡ 1) → 0 < steps
    go (yes e) = absurd (h e)
    go (no e) = omega arith

back_less : (x y z a b c : ℕ) → a ≤ x → b ≤ y → c ≤ z → 0 < a + b + c → x - a + (y - b) + (z - c) < x + y + z
back_less x y z a b c ha hb hc h = omega arith

module _ (s : Star) (x y z : ℕ) (c : IsCell s x y z) where
  module _ (code : ℕ) (r : RegularCode code) (crossed : Crossed s (code_edge x y z code)) where
    -- nothing is owed at this cell yet
    not_owed : (g : ℕ) → owed s x y z c (here s x y z c code) g → ⊥
    not_owed g o = omega (arith, o.before, (place_one s x y z (reuse_index code) o.x o.y o.z o.r c o.cell (sym o.place_is)).0)

    -- at the cell that the code steps to a vertex on its edge is owed
    back_owed : eqb (is_new code) 1 ≡ false → regular_leaves x y z code ≡ false → owed s x y z c (back s x y z c code) (number s (code_edge x y z code))
    back_owed en el =
        let n = subdivisions s in
        let h = stays x y z code el in
        let e = code_slot x y z code r h.0 h.1 h.2 in
        let bx = back_in x (step_x code) n c.x_in in
        let by = back_in y (step_y code) n c.y_in in
        let bz = back_in z (step_z code) n c.z_in in
        let less = back_less x y z _ _ _ h.0 h.1 h.2 (some_step _ _ (eqb-false _ _ en) r.new_or_back) in
        record {
          x = x - step_x code;
          y = y - step_y code;
          z = z - step_z code;
          r = reuse_index code;
          cell = record { x_in = bx.0; y_in = by.0; z_in = bz.0 };
          some = r.index_some;
          small = r.index_small;
          before = rank_less s x y z _ _ _ bx.2 bx.1 by.1 bz.1 less;
          crossed = subst (Crossed s) e crossed;
          place_is = refl;
          label_is = ap (number s) e;
        }

    use_right : Fits (owed s x y z c) (size s x y z c) (regular_use s x y z code) (number s (code_edge x y z code))
    unfolding regular_use regular_edge
    use_right =
        use_fits (owed s x y z c) (size s x y z c) _ (here s x y z c code) (back s x y z c code) (number s (code_edge x y z code)) (eqb (is_new code) 1) (regular_leaves x y z code) refl
        (place_in s x y z (reuse_index code) c r.index_small) not_owed back_owed

    made_lies : LiesOn s (regular_use s x y z code).made
    unfolding regular_use regular_edge regular_vertex
    made_lies =
        record {
          on = code_edge x y z code;
          of_block = own_of_block s x y z _ c (code_own x y z code r);
          crossed = crossed;
          edge_is = refl;
          vertex_is = ap (λ (p : Xyz). vertex_between s.threshold (regular_point s (code_edge x y z code).low) (regular_point s p)) (sym (high_is x y z code r));
        }

  -- ---- the codes of the cell

  new_stored : (code : ℕ) → (regular_use s x y z code).stores ≡ true → is_new code ≡ 1
  unfolding regular_use
  new_stored code e = eqb-true _ _ e

  slot_label : (j : ℕ) → j < codes s x y z → is_new (code_at s x y z j) ≡ 1 → label s x y z c j ≡ number s (slot_edge x y z (reuse_index (code_at s x y z j)))
  slot_label j h new = ap (number s) (new_slot x y z _ (code_right s x y z j h) new)

  pub cell_fits : FitsCell (owed s x y z c) (size s x y z c) (regular_cell s x y z) (label s x y z c)
  unfolding regular_cell
  cell_fits =
      record {
        fits = λ j h. use_right _ (code_right s x y z j h) (code_crossed s x y z j h);
        one_place = λ i j hi hj si sj e.
            let ni = new_stored (code_at s x y z i) si in
            let nj = new_stored (code_at s x y z j) sj in
            let index = (place_one s x y z _ x y z _ c c (sym (stored_at s x y z c _ ni).1 ∙ e ∙ (stored_at s x y z c _ nj).1)).1 in
            slot_label i hi ni ∙ ap (λ (r : ℕ). number s (slot_edge x y z r)) index ∙ sym (slot_label j hj nj);
      }

  pub cell_lies : (j : ℕ) → j < codes s x y z → LiesOn s (regular_use s x y z (code_at s x y z j)).made
  cell_lies j h = made_lies _ (code_right s x y z j h) (code_crossed s x y z j h)
