-- The weld: what it answers and leaves, from the laws of weld's own crate; and, over what extraction leaves, what the mesh being named anew makes of
-- it.
use Rattle.std.specs.Prelude.{ℕ, ◌+◌, ◌*◌, ◌≤◌, ◌<◌, ◌≡◌, List, leb, Float, length, take, Err, Ok}
use Rattle.std.proofs.Common.{arith, ◌∙◌, subst}
use Rattle.std.proofs.Math.Path.{refl, sym, ap}
use Rattle.std.specs.Float.{nan}
use Rattle.std.proofs.Math.ListN.{get_or}
use Rattle.laws.specs.Lists.{length_listed}
use Rattle.laws.specs.Gathered.{listed_same_below}
use Rattle.laws.specs.Counting.{upto, counted, which_one}
use Rattle.model.specs.declared.Counts.{Counts}
use Rattle.model.specs.declared.Refusal.{Refusal}
use Rattle.model.specs.declared.Refusal.TheVariants.{NoVertex, EdgesTooShort}
use Rattle.model.specs.Answers.{Verdict}
use Rattle.model.specs.Star.{Star}
use Rattle.model.specs.Corners.{triangle_count, named, judge_named}
use Rattle.model.specs.Mesh.{Made, no_edge, regular_mesh, mesh_of}
use Rattle.judge.specs.First.{or_else_passed}
use Rattle.judge.specs.Passing.{star_shaped}
use Rattle.closed.specs.Clauses.{Edge, number, OfBlock, Crossed, edge_at, NoHole}
use Rattle.closed.proofs.Marks.{number_low}
use Rattle.closed.proofs.Renamed.{no_hole_renamed}
use Rattle.weld.specs.Definition.{kept, kept_before, new_index, judge_weld, Outcome, weld_answer, weld}
use Rattle.weld.specs.Kept.{kept_mark, keeper_keeps, kept_index, kept_is}
use Rattle.weld.specs.Closing.{edges_long, edge_beyond, vertices_long, vertex_beyond}
use Rattle.weld.specs.Welded as Laws
use Rattle.weld.specs.Welded.{Whole, corner_below, corner_is, corners_long, corner_beyond, same_number, kept_numbers, once, welds, again}
use Rattle.promises.specs.Left.{Lent, number_in, vertex_in, mesh_in, regular_part}
use Rattle.promises.specs.Orders.{in_order, Numbered, Judged}
use Rattle.promises.proofs.Judges.{◌&◌, judged, Refuses, by_unless, by_first, buffer_number}
use Rattle.promises.proofs.Extracted.{passed, no_hole_is_left}
use Rattle.promises.proofs.Surface.{as_surface}
use Rattle.promises.specs.Weld.{LentWhole, answered_whole, left_whole, weld_outcome, left_welded, new_counts, weld_judges, corner_at, edge_in, IsWelded, OneCarries, regular_vertices, regular_triangles, regular_kept, MeshIsWelded, WeldPromises}
use Rattle.promises.proofs.WeldExtracted.{all_made, edge_told, whole_extraction}
use Rattle.promises.proofs.WeldRenamed.{made_at, alone, mesh_is, regular_in, whole_lists, outcome_is, corner_low, edge_anew, numbers_anew, corner_anew, named_anew}
use Rattle.promises.proofs.WeldFinerKept.{no_gap_after}

-- ---- the pass over any lists

module _ (c : Counts) (lists : LentWhole) where
  abbrev v : ℕ
  v = c.vertices

  abbrev t : ℕ
  t = c.triangles

  abbrev vertices : List Float
  vertices = lists.mesh.vertices

  abbrev triangles : List ℕ
  triangles = lists.mesh.triangles

  abbrev verdict : Verdict
  verdict = judge_weld v t vertices triangles lists.edges

  named_number : Refuses 17 (judge_named v (take (3 * t) triangles))
  unfolding judge_named
  named_number = by_first 17 _ (λ k. by_unless (named v (take (3 * t) triangles) k) (NoVertex k)) (triangle_count (take (3 * t) triangles))

  in_order_lem : in_order (weld_judges c lists) ≡ verdict
  unfolding judge_weld
  in_order_lem = simp or_else_passed

  numbered : Numbered (weld_judges c lists)
  numbered =
      buffer_number (6 * v) (length vertices) & buffer_number (3 * t) (length triangles) & by_unless (leb v (length lists.edges)) (EdgesTooShort v) &
      named_number & tt

  pass : Judged (weld_judges c lists) (λ r. (weld_outcome c lists).answer ≡ Err r) ((weld_outcome c lists).answer ≡ Ok (new_counts c lists))
  unfolding weld weld_answer
  pass =
      judged Err (Ok (new_counts c lists)) (λ w. (weld_answer v t vertices triangles lists.edges w).answer) refl (λ r. refl) (λ q r e. cc)
      (λ r e. cc) _ _ in_order_lem numbered

  untouched : (r : Refusal) → (weld_outcome c lists).answer ≡ Err r → left_welded c lists ≡ lists
  unfolding weld weld_answer
  untouched r e =
      ap (λ (w : Verdict). let o = weld_answer v t vertices triangles lists.edges w in
      record { mesh = record { store = lists.mesh.store; vertices = o.vertices; triangles = o.triangles }; edges = o.edges })
      (sym in_order_lem ∙ (pass.refused_by_first r).0 e)

  -- what it leaves where the judges pass, whatever the numbers stand for
  module _ (w : Whole v t vertices triangles lists.edges) where
    is_welded : weld_outcome c lists ≡ weld_answer v t vertices triangles lists.edges (Ok tt) → IsWelded c lists (left_welded c lists) (new_counts c lists)
    unfolding weld_answer
    is_welded o =
        let es = lists.edges in
        rw o
        (record {
          same_edge = λ p l.
              rw (corner_is v t vertices triangles es w p l) (same_number es v (get_or triangles p 0) (corner_below v t vertices triangles es w p l));
          named = Laws.named_anew v t vertices triangles es w;
          once = once es v;
          transition_kept = λ i l. kept_mark es i;
          first_kept = λ i l. kept_is es i;
          stands = λ i l stays.
              let itself = (keeper_keeps es i).itself stays in
              record {
                edge = same_number es v i l;
                numbers = λ k small. kept_numbers es v vertices i k l small ∙ ap (λ (f : ℕ). get_or vertices (6 * f + k) nan) itself;
              };
          in_order_lem = λ i j less l ki kj. rw (kept_index es i ki, kept_index es j kj) (counted (kept es) j i less ki);
          filled = λ j l.
              let w = which_one (kept es) v j l in
              record { of = w.one_is; within = w.below; stays = w.passes; index = kept_index es w.one_is w.passes ∙ w.before };
          corner = corner_is v t vertices triangles es w;
          vertices_beyond = vertex_beyond es v vertices;
          triangles_beyond = corner_beyond v t vertices triangles es w;
          edges_beyond = edge_beyond es v;
          vertices_long = vertices_long es v vertices w.floats;
          triangles_long = corners_long v t vertices triangles es w;
          edges_long = edges_long es v w.numbers;
          again = again v t vertices triangles es w ∙ sym o;
        })

  accepted : (new : Counts) → (weld_outcome c lists).answer ≡ Ok new → IsWelded c lists (left_welded c lists) new
  accepted new e =
      let h = welds v t vertices triangles lists.edges new e in
      rw h.counts_are (is_welded h.whole_lists h.outcome_is)

-- ---- the pass over what extraction leaves

module _ (s : Star) (lent : LentWhole) (c : Counts) (e : answered_whole s lent ≡ Ok c) where
  abbrev lists : LentWhole
  lists = left_whole s lent

  abbrev es : List ℕ
  es = lists.edges

  abbrev after : LentWhole
  after = left_welded c lists

  abbrev R : ℕ
  R = length (regular_mesh s).made

  regular_low : R ≤ c.vertices
  regular_low = omega (arith, all_made s lent c e, regular_in s lent c e)

  no_hole_before : NoHole s (mesh_in lists.mesh (edge_in lists) (regular_vertices s c lists) (regular_triangles s c lists))
  no_hole_before =
      let told : (i : ℕ) → i < R → ◌≡◌ {A = Made} (record { vertex = vertex_in lists.mesh i; edge = edge_at (mesh_of s).made i }) (record { vertex = vertex_in lists.mesh i; edge = edge_in lists i }) =
      λ i h q. record { vertex = vertex_in lists.mesh i; edge = sym (edge_told s lent c e i (omega (arith, regular_in s lent c e))) q } in
      as_surface s (regular_part s lists.mesh) _ _ lists.mesh.store (listed_same_below _ _ R told) refl
      (subst (λ (b : Lent). NoHole s (regular_part s b)) (mesh_is s lent c e) (no_hole_is_left s lent.mesh c (alone s lent c e)).no_hole)

  no_hole_after : NoHole s (mesh_in after.mesh (edge_in after) (regular_kept s c lists) (regular_triangles s c lists))
  no_hole_after =
      let few = (no_hole_is_left s lent.mesh c (alone s lent c e)).triangles_in in
      no_hole_renamed s _ _ (new_index es)
      (named_anew s lent c e (edge_in lists) (edge_in after) R (regular_triangles s c lists) regular_low few (λ i h. edge_anew s lent c e i (omega (arith, regular_low))))
      no_hole_before

  -- ---- one vertex on each crossed edge

  one_carries : (g : Edge) → OfBlock s g → Crossed s g → OneCarries after (new_counts c lists).vertices (number s g)
  unfolding weld_answer
  one_carries g of_block crossed =
      let K = regular_kept s c lists in
      let found = (no_hole_after.carried g of_block).1 crossed in
      let i = found.0 in
      let low : i < K = rw length_listed at found.1.there in
      let within : i < kept_before es c.vertices = omega (arith, upto (kept es) R c.vertices regular_low) in
      let has : edge_in after i ≡ number s g =
      sym (ap (λ (v : Made). v.edge) (made_at after.mesh (edge_in after) K (regular_triangles s c lists) i low)) ∙ found.1.held in
      let few = (star_shaped s (passed s lent.mesh c (alone s lent c e))).few in
      let unmarked : edge_in after i ≡ no_edge → ⊥ = λ m. omega (arith, number_low s g of_block few, sym has ∙ m) in
      record {
        at = i;
        below = within;
        has = has;
        alone = λ j l same.
            sym ((is_welded c lists (whole_lists s lent c e) (outcome_is s lent c e)).once i j within l unmarked (same ∙ sym has));
      }

  mesh_is_welded : MeshIsWelded s c lists
  unfolding weld_answer
  mesh_is_welded =
      record {
        welded = ap (λ (o : Outcome). o.answer) (outcome_is s lent c e);
        before = no_hole_before;
        after = no_hole_after;
        no_gap = no_gap_after s lent c e;
        one_each = one_carries;
        numbers = λ p k l small.
            ap (λ (i : ℕ). number_in after.mesh i k) (corner_anew s lent c e p l) ∙ numbers_anew s lent c e (corner_at lists p) k (corner_low s lent c e p l) small;
      }

pub weld_kept : WeldPromises
weld_kept =
    record {
      whole = whole_extraction;
      any_lists = record { pass = pass; untouched = untouched; accepted = accepted };
      of_extraction = mesh_is_welded;
    }
