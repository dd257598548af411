-- Where two vertices with one label are the same, bit for bit: on one fine edge, on one coarse edge of one side, and a regular one with one of a side
-- that does not run down along their edge.
use Rattle.std.specs.Prelude.{◌≡◌, refl, Bool, true, false, cond, List, ℕ, zero, suc, ◌+◌, ◌≤◌, ◌<◌, get_or}
use Rattle.std.proofs.Math.Path.{sym, ap}
use Rattle.std.proofs.Common.{◌∙◌, subst, inl, inr, le_refl, le_of_lt, arith}
use Rattle.std.proofs.Math.Decide.{dec_lt}
use Rattle.std.proofs.Math.ListN.{length}
use Rattle.model.specs.Limits.{side_count}
use Rattle.model.specs.Sides.{named}
use Rattle.model.specs.Star.{Star}
use Rattle.model.specs.Mesh.{Made, Mesh, regular_mesh, transition_to}
use Rattle.closed.specs.Clauses.{Edge, number, edges_most, OfBlock, Crossed, no_vertex, vertex_at, edge_at, vertex_on}
use Rattle.closed.specs.Places.{number_one}
use Rattle.finer.specs.Labels.{labelled_mesh}
use Rattle.finer.specs.Clauses.{MadeBySide, OnFineEdge, OnCoarseEdge, OnSide, vertex_back, runs_down, SameBits}
use Rattle.finer.proofs.Faces.{number_below}
use Rattle.finer.proofs.Apart.{fine_above, fine_one}
use Rattle.finer.specs.InStep.{as_many}
use Rattle.finer.proofs.SideWhole.{side_none, whole_to, labelled_sound, regular_lying}

start_below : (u2 k st : ℕ) → u2 + st ≤ 0 + k → u2 ≤ k
start_below u2 k st h = omega arith

-- ---- two vertices of sides

module _ (s : Star) (m l : Made) (same : m.edge ≡ l.edge) where
  two_fine : (side side' : ℕ) → OnFineEdge s side m → OnFineEdge s side' l → m.vertex ≡ l.vertex
  two_fine side side' f f' =
      let e = fine_one s side side' f.u2 f'.u2 f.v2 f'.v2 f.axis f'.axis
      (start_below _ _ _ f.within.high_u) (start_below _ _ _ f'.within.high_u)
      (start_below _ _ _ f.within.high_v) (start_below _ _ _ f'.within.high_v) f.within.axis_is f'.within.axis_is
      (sym f.label_is ∙ same ∙ f'.label_is) in
      f.vertex_is ∙ rw (e.side_is, e.u_is, e.v_is, e.axis_is) (sym f'.vertex_is)

  fine_and_coarse : {A : Type 0} (side side' : ℕ) → OnFineEdge s side m → OnCoarseEdge s side' l → A
  fine_and_coarse side side' f c =
      absurd (omega (arith, number_below s c.on c.of_block, fine_above s side f.u2 f.v2 f.axis, sym f.label_is ∙ same ∙ c.label_is))

  two_coarse : (side : ℕ) → OnCoarseEdge s side m → OnCoarseEdge s side l → m.vertex ≡ l.vertex
  two_coarse side c c' =
      let e = number_one s c.on c'.on c.of_block c'.of_block (sym c.label_is ∙ same ∙ c'.label_is) in
      c.vertex_is ∙ ap (λ (e : Edge). cond (runs_down side e.axis) (vertex_back s e) (vertex_on s e)) e ∙ sym c'.vertex_is

both_sides : (s : Star) (m l : Made) → m.edge ≡ l.edge → (side : ℕ) → OnSide s side m → OnSide s side l → m.vertex ≡ l.vertex
both_sides s m l same side (inl f) (inl f') = two_fine s m l same side side f f'
both_sides s m l same side (inl f) (inr c) = fine_and_coarse s m l same side side f c
both_sides s m l same side (inr c) (inl f) = fine_and_coarse s l m (sym same) side side f c
both_sides s m l same side (inr c) (inr c') = two_coarse s m l same side c c'

-- ---- every vertex after those of the regular cells is of a side

unnamed_none : (s : Star) (side i : ℕ) → named s.mask side ≡ false → length (transition_to s side 0 0).made ≤ i
    → i < length (transition_to s (suc side) 0 0).made → ⊥
unnamed_none s side i e late early = omega (arith, ap (λ (m : Mesh). length m.made) (side_none s side e))

of_some_side : (s : Star) (k i : ℕ) → k ≤ side_count → length (regular_mesh s).made ≤ i → i < length (transition_to s k 0 0).made
    → (side : ℕ) × MadeBySide s side i
unfolding transition_to
of_some_side s zero i h late early = absurd (omega arith)
of_some_side s (suc k) i h late early = go (dec_lt i (length (transition_to s k 0 0).made)) (named s.mask k) refl (of_some_side s k i (le_of_lt h) late)
  where
    go : Dec (i < length (transition_to s k 0 0).made) → (b : Bool) → named s.mask k ≡ b
        → (i < length (transition_to s k 0 0).made → (side : ℕ) × MadeBySide s side i) → (side : ℕ) × MadeBySide s side i
    go (yes l) b e before = before l
    go (no l) true e before = (k, record { of_side = record { side_in = h; side_named = e }; not_before = omega arith; by_then = early })
    go (no l) false e before = absurd (unnamed_none s k i e (omega arith) early)

-- ---- in the labelled mesh

module _ (s : Star) where
  abbrev made : List Made
  made = (labelled_mesh s).made

  length_is : length made ≡ length (transition_to s side_count 0 0).made
  unfolding transition_to
  length_is = sym (as_many (labelled_sound s).in_step).0 ∙ ap (λ (m : Mesh). length m.made) (whole_to s)

  lies : (side i : ℕ) → MadeBySide s side i → OnSide s side (get_or made i no_vertex)
  lies side i by = (labelled_sound s).lying side i by.of_side.side_in by

  -- a label above those of all grid edges is that of a fine edge
  on_fine_lem : (i : ℕ) → i < length made → edges_most s ≤ edge_at made i → (side : ℕ) × OnFineEdge s side (get_or made i no_vertex)
  on_fine_lem i h high = go (dec_lt i (length (regular_mesh s).made))
    where
      by_side : (side : ℕ) → OnSide s side (get_or made i no_vertex) → (side : ℕ) × OnFineEdge s side (get_or made i no_vertex)
      by_side side (inl f) = (side, f)
      by_side side (inr c) = absurd (omega (arith, number_below s c.on c.of_block, c.label_is))

      go : Dec (i < length (regular_mesh s).made) → (side : ℕ) × OnFineEdge s side (get_or made i no_vertex)
      go (yes l) = let o = regular_lying s i l in absurd (omega (arith, number_below s o.on o.of_block, o.named.held))
      go (no l) =
          let w = of_some_side s side_count i (le_refl _) (omega arith) (omega (arith, length_is)) in
          by_side w.0 (lies w.0 i w.1)

  -- a regular vertex and one of a side on one grid edge
  pub record OnOneEdge (side i j : ℕ) (e : Edge) : Type 0 where
    pub crossed : Crossed s e
    pub regular_is : vertex_at made i ≡ vertex_on s e
    pub side_is : vertex_at made j ≡ cond (runs_down side e.axis) (vertex_back s e) (vertex_on s e)

  pub on_one_edge : (side i j : ℕ) (e : Edge) → i < length (regular_mesh s).made → MadeBySide s side j → OfBlock s e → edge_at made i ≡ number s e
      → edge_at made j ≡ number s e → OnOneEdge side i j e
  on_one_edge side i j e h by he ei ej = go (lies side j by)
    where
      go : OnSide s side (get_or made j no_vertex) → OnOneEdge side i j e
      go (inl f) = absurd (omega (arith, number_below s e he, fine_above s side f.u2 f.v2 f.axis, sym ej ∙ f.label_is))
      go (inr c) =
          let o = regular_lying s i h in
          let on-e = number_one s o.on e o.of_block he (sym o.named.held ∙ ei) in
          let c-e = number_one s c.on e c.of_block he (sym c.label_is ∙ ej) in
          record {
            crossed = subst (Crossed s) on-e o.crossed;
            regular_is = o.vertex_is ∙ ap (vertex_on s) on-e;
            side_is = c.vertex_is ∙ ap (λ (e : Edge). cond (runs_down side e.axis) (vertex_back s e) (vertex_on s e)) c-e;
          }

  pub same_bits : SameBits s made
  same_bits =
      record {
        fine = λ i j hi hj high same.
            let f = on_fine_lem i hi high in
            let f' = on_fine_lem j hj (omega (arith, same)) in
            two_fine s _ _ same f.0 f'.0 f.1 f'.1;
        of_side = λ side i j by by' same. both_sides s _ _ same side (lies side i by) (lies side j by');
        regular = λ side i j e h by he ei ej up.
            let o = on_one_edge side i j e h by he ei ej in
            o.regular_is ∙ sym (o.side_is ∙ ap (λ (b : Bool). cond b (vertex_back s e) (vertex_on s e)) up);
      }
