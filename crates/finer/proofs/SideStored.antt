-- The store's invariant over the codes of a cell of a side: an index that is taken from the store names the label of its code.
use Rattle.std.specs.Prelude.{◌≡◌, true, false, ℕ, ◌+◌, ◌-◌, ◌*◌, ◌≤◌, ◌<◌, T, eqb}
use Rattle.std.proofs.Math.Path.{refl, sym, ap}
use Rattle.std.proofs.Common.{ap₂, ◌∙◌, add-mul, mul_assoc, mul_comm, arith}
use borrow.Author.Tests.{eqb-true}
use Rattle.laws.specs.Counting.{has}
use Rattle.tables.specs.Codes.{step_x, step_y, is_new, reuse_index}
use Rattle.tables.specs.RulesTransition.{transition_used}
use Rattle.tables.specs.RulesBorder.{transition_new_code, TransitionCode}
use Rattle.tables.proofs.RulesBorder.{transition_used_right}
use Rattle.model.specs.Star.{Star, subdivisions}
use Rattle.model.specs.Mesh.{store_length, transition_place, transition_leaves, transition_use, transition_cell}
use Rattle.closed.specs.Places.{pair_one, pair_in, pair_less}
use Rattle.closed.specs.CellStep.{Fits, FitsCell}
use Rattle.closed.proofs.CellStep.{use_fits}
use Rattle.closed.specs.Stored.{back_in}
use Rattle.closed.specs.SideCells.{codes, code_at, code_used, CrossedAt, code_crossed, slot_crossed, just_one, steps_back}
use Rattle.closed.specs.Indices.{IsSideCell}
use Rattle.finer.specs.Labels.{label_of, labelled_use, side_cell}
use Rattle.finer.specs.SideLabels.{slot_right, slot_label}
use Rattle.finer.specs.SideStored.{place, rank_of, owed, size, here, back, stored_at, label}

-- ---- the store's places

place_pairs : (n side u v r : ℕ) → transition_place n side u v r ≡ 4 * (n * n * n) + (side + 6 * ((r * n + v) * n + u))
unfolding transition_place
place_pairs n side u v r =
    omega (
      arith,
      add-mul (r * n) v n,
      mul_assoc r n n,
      mul_comm r (n * n),
      mul_assoc 6 (n * n) r,
      mul_assoc 6 n v,
      mul_comm v n,
    )

cancelled : (a side k l : ℕ) → a + (side + 6 * k) ≡ a + (side + 6 * l) → k ≡ l
cancelled a side k l e = omega arith

below_all : (a side k m l : ℕ) → side < 6 → k < m → m ≡ 10 * l → a + (side + 6 * k) < a + 60 * l
below_all a side k m l h g e = omega arith

module _ (s : Star) (side : ℕ) where
  -- one place is of one cell, with one index
  place_one : (u v r u' v' r' : ℕ) → IsSideCell s side u v → IsSideCell s side u' v' → place s side u' v' r' ≡ place s side u v r
      → (rank_of s side u' v' ≡ rank_of s side u v) × (r' ≡ r)
  place_one u v r u' v' r' c c' e =
      let n = subdivisions s in
      let p = pair_one n _ u' _ u c'.u_in c.u_in
      (cancelled _ side _ _ (sym (place_pairs n side u' v' r') ∙ e ∙ place_pairs n side u v r)) in
      let q = pair_one n r' v' r v c'.v_in c.v_in p.0 in
      (ap₂ (rank_of s side) p.1 q.1, q.0)

  place_in : (u v r : ℕ) → IsSideCell s side u v → r < 10 → place s side u v r < store_length (subdivisions s)
  place_in u v r c h =
      let n = subdivisions s in
      rw place_pairs
      (below_all (4 * (n * n * n)) side _ (10 * n * n) (n * n) c.side_in
      (pair_in (10 * n) n _ u (pair_in 10 n r v h c.v_in) c.u_in) (mul_assoc 10 n n))

-- ---- a code

back_less : (u v a b : ℕ) → a ≤ u → b ≤ v → 0 < a + b → u - a + (v - b) < u + v
back_less u v a b ha hb h = omega arith

module _ (s : Star) (side u v : ℕ) (cell : IsSideCell s side u v) where
  module _ (code : ℕ) (used : T (has code transition_used)) (crossed : CrossedAt s side u v code) where
    right : TransitionCode code
    right = transition_used_right code used

    not_owed : (g : ℕ) → owed s side u v cell (here s side u v cell code) g → ⊥
    not_owed g o = omega (arith, o.before, (place_one s side u v (reuse_index code) o.u o.v o.r cell o.cell (sym o.place_is)).0)

    back_owed : eqb (is_new code) 1 ≡ false → transition_leaves u v code ≡ false → owed s side u v cell (back s side u v cell code) (label_of s side u v code)
    back_owed en el =
        let n = subdivisions s in
        let b = steps_back s side u v code el in
        let keep = just_one _ _ _ right.one_way b.some in
        let bu = back_in u (step_x code) n cell.u_in in
        let bv = back_in v (step_y code) n cell.v_in in
        record {
          u = u - step_x code;
          v = v - step_y code;
          r = reuse_index code;
          cell = record { side_in = cell.side_in; side_named = cell.side_named; u_in = bu.0; v_in = bv.0 };
          small = right.index_small;
          new = (right.slot keep).0.new;
          before = pair_less n u v _ _ bu.2 bu.1 bv.1 (back_less u v _ _ b.u_in b.v_in b.some);
          crossed = slot_crossed s side u v code used keep b.u_in b.v_in crossed;
          place_is = refl;
          label_is = slot_label s side u v code used keep b.u_in b.v_in;
        }

    use_right : Fits (owed s side u v cell) (size s side u v cell) (labelled_use (label_of s side u v code) (transition_use s side u v code)) (label_of s side u v code)
    unfolding transition_use
    use_right =
        use_fits (owed s side u v cell) (size s side u v cell) _ (here s side u v cell code) (back s side u v cell code) (label_of s side u v code) (eqb (is_new code) 1) (transition_leaves u v code) refl
        (place_in s side u v (reuse_index code) cell right.index_small) not_owed back_owed

  -- ---- the codes of the cell

  new_stored : (code : ℕ) → (transition_use s side u v code).stores ≡ true → is_new code ≡ 1
  unfolding transition_use
  new_stored code e = eqb-true _ _ e

  new_label : (j : ℕ) → j < codes s side u v → is_new (code_at s side u v j) ≡ 1
      → label s side u v cell j ≡ label_of s side u v (transition_new_code (reuse_index (code_at s side u v j)))
  new_label j h new = ap (label_of s side u v) ((slot_right _ (code_used s side u v j h)).is_new_lem new)

  pub cell_fits : FitsCell (owed s side u v cell) (size s side u v cell) (side_cell s side u v) (label s side u v cell)
  unfolding side_cell transition_cell
  cell_fits =
      record {
        fits = λ j h. use_right _ (code_used s side u v j h) (code_crossed s side u v j h);
        one_place = λ i j hi hj si sj e.
            let ni = new_stored (code_at s side u v i) si in
            let nj = new_stored (code_at s side u v j) sj in
            let index = (place_one s side u v _ u v _ cell cell (sym (stored_at s side u v cell _ ni).1 ∙ e ∙ (stored_at s side u v cell _ nj).1)).1 in
            new_label i hi ni ∙ ap (λ (r : ℕ). label_of s side u v (transition_new_code r)) index ∙ sym (new_label j hj nj);
      }
