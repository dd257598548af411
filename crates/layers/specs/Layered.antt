-- Document 02, [12]: passing over changes a mesh's reads and nothing else. A layer that is passed over makes nothing, steps look at all of a mesh but its
-- reads, and so extraction with a summary that is not refused is extraction without it, but for the reads that it reports.
use Prim.Native.Nat.{ℕ, zero, suc, ◌<◌, zero-le}
use Rattle.std.proofs.Common.{le_refl, sym, ◌∙◌}
use Rattle.std.proofs.Math.Nat.{le_step}
use Rattle.std.specs.Prelude.{◌≡◌, Bool, List, [], ◌++◌, Float, length, Err, Ok}
use Rattle.std.proofs.Math.Path.{refl, ap}
use Rattle.std.proofs.Math.Bool.{true, false, cond}
use Rattle.laws.specs.Steps.{iterate, listed}
use Rattle.laws.specs.Iterated.{iterate_same}
use Rattle.model.specs.Answers.{Verdict}
use Rattle.model.specs.Limits.{side_count}
use Rattle.model.specs.Sides.{named}
use Rattle.model.specs.Refusals.{or_else}
use Rattle.model.specs.Judging.{judge_star, judge_faces, judge_store, judge_room, judge_buffer}
use Rattle.model.specs.Star.{Star, subdivisions}
use Rattle.model.specs.Mesh.{Cell, Mesh, fill_to, triangle_of, empty_mesh, cell_step, regular_cell, regular_column, regular_layer, regular_mesh, transition_cell, transition_row, transition_side, mesh_of}
use Rattle.model.specs.Extraction.{outcome}
use Rattle.model.specs.Edges.{judge_edges, WholeOutcome, edges_left}
use Rattle.model.specs.Layers.{summary_length, passed_over, judge_layers, judge_summary}
use Rattle.model.specs.Layered.{layer_step, layered_mesh, judge_layered, extract_layered}
use Rattle.cells.specs.Puts.{SameMade}
use Rattle.cells.specs.Uncut.{nothing_step, made_skip, regular_nothing}
use Rattle.judge.specs.First.{or_else_assoc, both_passed}
use Rattle.layers.specs.OneSided.{not_cut}
use Rattle.layers.specs.Over.{none_over, Trusted, trusted}

-- ---- steps look at all but the reads

same_mesh : (m : Mesh) → SameMade m m
same_mesh m = record { made_same = refl; triangles_same = refl; store_same = refl }

same_then : {a b c : Mesh} → SameMade a b → SameMade b c → SameMade a c
same_then h k =
    record {
      made_same = h.made_same ∙ k.made_same;
      triangles_same = h.triangles_same ∙ k.triangles_same;
      store_same = h.store_same ∙ k.store_same;
    }

same_back : {a b : Mesh} → SameMade a b → SameMade b a
same_back h = record { made_same = sym h.made_same; triangles_same = sym h.triangles_same; store_same = sym h.store_same }

abbrev Alike : (Mesh → Mesh) → Type 0
Alike f = (m m' : Mesh) → SameMade m m' → SameMade (f m) (f m')

cell_alike : (c : Cell) → Alike (cell_step c)
unfolding cell_step
cell_alike c m m' h =
    record {
      made_same = λ i. h.made_same i ++ (fill_to c (length (h.made_same i)) (h.store_same i) c.vertices).made;
      triangles_same = λ i.
          h.triangles_same i
          ++ listed (triangle_of c (fill_to c (length (h.made_same i)) (h.store_same i) c.vertices).index) c.triangles;
      store_same = λ i. (fill_to c (length (h.made_same i)) (h.store_same i) c.vertices).store;
    }

steps_alike : (f : ℕ → Mesh → Mesh) → ((i : ℕ) → Alike (f i)) → (k : ℕ) → Alike (iterate f k)
steps_alike f each zero m m' h = h
steps_alike f each (suc k) m m' h = each k (iterate f k m) (iterate f k m') (steps_alike f each k m m' h)

module _ (s : Star) where
  column_alike : (x y : ℕ) → Alike (regular_column s x y)
  unfolding regular_column
  column_alike x y = steps_alike (λ z. cell_step (regular_cell s x y z)) (λ z. cell_alike (regular_cell s x y z)) (subdivisions s)

  layer_alike : (x : ℕ) → Alike (regular_layer s x)
  unfolding regular_layer
  layer_alike x = steps_alike (regular_column s x) (column_alike x) (subdivisions s)

  row_alike : (side u : ℕ) → Alike (transition_row s side u)
  unfolding transition_row
  row_alike side u = steps_alike (λ v. cell_step (transition_cell s side u v)) (λ v. cell_alike (transition_cell s side u v)) (subdivisions s)

  side_alike : (side : ℕ) → Alike (transition_side s side)
  unfolding transition_side
  side_alike side m m' h = go (named s.mask side)
    where
      go : (b : Bool) → SameMade (cond b (iterate (transition_row s side) (subdivisions s) m) m) (cond b (iterate (transition_row s side) (subdivisions s) m') m')
      go true = steps_alike (transition_row s side) (row_alike side) (subdivisions s) m m' h
      go false = h

-- ---- a layer that is passed over

-- the mesh of the whole block with the reads of the layers that are not passed over
abbrev pub spared : Star → List Float → Mesh
spared s summary =
    record { made = (mesh_of s).made; triangles = (mesh_of s).triangles; store = (mesh_of s).store; reads = (layered_mesh s summary).reads }

module _ (s : Star) (summary : List Float) (t : Trusted (subdivisions s) s.centre summary) where
  module _ (x : ℕ) (h : x < subdivisions s) (over : passed_over s.threshold summary x ≡ true) where
    cell_nothing : (y z : ℕ) → y < subdivisions s → z < subdivisions s → (m : Mesh) → SameMade (cell_step (regular_cell s x y z) m) m
    cell_nothing y z hy hz =
        nothing_step (regular_cell s x y z)
        (regular_nothing s x y z (not_cut s x y z h hy hz t.held t.numbers summary (t.stands x h) over))

    pub layer_nothing : (m : Mesh) → SameMade (regular_layer s x m) m
    unfolding regular_layer regular_column
    layer_nothing m =
        same_back
        (made_skip (regular_column s x) m 0 (subdivisions s) zero-le
        (λ y _ hy m. same_back (made_skip (λ z. cell_step (regular_cell s x y z)) m 0 (subdivisions s) zero-le (λ z _ hz. cell_nothing y z hy hz))))

  layers_same : (m : Mesh) (k : ℕ) → ((x : ℕ) → x < k → x < subdivisions s) → SameMade (iterate (layer_step s summary) k m) (iterate (regular_layer s) k m)
  unfolding layer_step
  layers_same m zero below = same_mesh m
  layers_same m (suc k) below = go (passed_over s.threshold summary k) refl (layers_same m k (λ x h. below x (le_step h)))
    where
      go : (b : Bool) → passed_over s.threshold summary k ≡ b → SameMade (iterate (layer_step s summary) k m) (iterate (regular_layer s) k m)
          → SameMade (cond b (iterate (layer_step s summary) k m) (regular_layer s k (iterate (layer_step s summary) k m))) (regular_layer s k (iterate (regular_layer s) k m))
      go true e so_far = same_then so_far (same_back (layer_nothing k (below k (le_refl _)) e (iterate (regular_layer s) k m)))
      go false e so_far = layer_alike s k (iterate (layer_step s summary) k m) (iterate (regular_layer s) k m) so_far

  -- the same mesh, but for its reads
  pub layered_same : SameMade (layered_mesh s summary) (mesh_of s)
  unfolding layered_mesh mesh_of regular_mesh
  layered_same = steps_alike (transition_side s) (side_alike s) side_count _ _ (layers_same (empty_mesh (subdivisions s)) (subdivisions s) (λ x h. h))

  layered_spared : layered_mesh s summary ≡ spared s summary
  layered_spared =
      let same = layered_same in
      λ i. record { made = same.made_same i; triangles = same.triangles_same i; store = same.store_same i; reads = (layered_mesh s summary).reads }

-- where no layer is passed over, every layer takes its step
module _ (s : Star) (summary : List Float) (none : (x : ℕ) → x < subdivisions s → passed_over s.threshold summary x ≡ false) where
  layered_whole : layered_mesh s summary ≡ mesh_of s
  unfolding layered_mesh layer_step mesh_of regular_mesh
  layered_whole =
      ap (iterate (transition_side s) side_count)
      (iterate_same (layer_step s summary) (regular_layer s) (subdivisions s) (λ x h m. ap (λ (b : Bool). cond b m (regular_layer s x m)) (none x h))
      (empty_mesh (subdivisions s)))

  pub spared_whole : spared s summary ≡ mesh_of s
  spared_whole =
      λ i. record { made = (mesh_of s).made; triangles = (mesh_of s).triangles; store = (mesh_of s).store; reads = (layered_whole i).reads }

-- so with no summary
pub spared_none : (s : Star) → spared s [] ≡ mesh_of s
spared_none s = spared_whole s [] (λ x h. none_over s.threshold x)

-- ---- extraction

module _ (s : Star) (summary : List Float) (store : List ℕ) (vertices : List Float) (triangles edges : List ℕ) where
  -- what a mesh and a verdict leave
  abbrev whole : Mesh → Verdict → WholeOutcome
  whole m verdict = record { mesh = outcome m store vertices triangles verdict; edges = edges_left m edges verdict }

  -- 9, 23 and 10
  abbrev rest : Mesh → Verdict
  rest m =
      or_else (judge_store (subdivisions s) (length store))
      (or_else (judge_edges (length m.made) (length edges)) (judge_room (length m.made) (length m.triangles) (length vertices) (length triangles)))

  -- a refusal leaves the same of every mesh
  by_first : (v : Verdict) {m m' : Mesh} → (v ≡ Ok tt → m ≡ m') → whole m (or_else v (rest m)) ≡ whole m' (or_else v (rest m'))
  unfolding outcome edges_left
  by_first (Ok _) same = ap (λ (m : Mesh). whole m (rest m)) (same refl)
  by_first (Err r) same = refl

  -- 1 to 8, 14 and 26
  abbrev first_part : Verdict
  first_part = or_else (judge_star s) (or_else (judge_faces s) (judge_summary (subdivisions s) s.centre summary))

  trust : first_part ≡ Ok tt → Trusted (subdivisions s) s.centre summary
  unfolding judge_summary
  trust e =
      let star = both_passed (judge_star s) _ e in
      let told = (both_passed (judge_faces s) _ star.1).1 in
      trusted s star.0 summary (both_passed (judge_buffer (summary_length (subdivisions s)) (length summary)) (judge_layers (subdivisions s) s.centre summary) told).1

  in_order_lem : (v : Verdict) → or_else first_part v ≡ or_else (judge_star s) (or_else (judge_faces s) (or_else (judge_summary (subdivisions s) s.centre summary) v))
  in_order_lem v = rw (or_else_assoc, or_else_assoc)

  -- extraction with a summary leaves what the whole mesh leaves, with the reads that are not spared
  pub extract_spared : extract_layered s summary store vertices triangles edges
      ≡ whole (spared s summary) (or_else (judge_star s) (or_else (judge_faces s) (or_else (judge_summary (subdivisions s) s.centre summary) (rest (mesh_of s)))))
  unfolding extract_layered judge_layered
  extract_spared =
      ap (whole (layered_mesh s summary)) (sym (in_order_lem (rest (layered_mesh s summary))))
      ∙ by_first first_part {m = layered_mesh s summary} {m' = spared s summary} (λ e. layered_spared s summary (trust e))
      ∙ ap (whole (spared s summary)) (in_order_lem (rest (mesh_of s)))
