-- Document 02, [10]: what a pass that welds has found and what it leaves: each corner names the same edge, no edge has two vertices, transition
-- vertices only close up, all beyond stays, and a second pass moves nothing. Assumes nothing.
use Rattle.std.specs.Prelude.{ℕ, zero, suc, ◌+◌, ◌*◌, ◌≤◌, ◌<◌, ◌≡◌, refl, Bool, true, false, eqb, Float, get_or, drop, Err, Ok}
use Rattle.std.proofs.Common.{one-mul, le_refl, arith, sym, ◌∙◌, get_or-take}
use Rattle.std.proofs.Math.Path.{ap}
use mathlib.Core.List.{List, ◌++◌, map}
use borrow.Author.Tests.{leb-true, le-leb, eqb-true, eqb-false}
use Rattle.std.specs.Float.Ieee.{nan}
use Rattle.std.proofs.Math.ListN.{length, take, get_or-map}
use Rattle.std.proofs.lemmas.List.{length-map}
use Rattle.std.proofs.Math.Seq.{length-take-le, drop-cons}
use Rattle.laws.specs.Steps.{laid}
use Rattle.laws.specs.Counting.{gather, few, which_one}
use Rattle.laws.specs.Gathered.{gather_pieces}
use Rattle.laws.specs.LaidBuffers.{laid_beyond, laid_first, laid_same, listed_part}
use Rattle.laws.specs.Lists.{length_laid}
use Rattle.model.specs.declared.Counts.{Counts}
use Rattle.model.specs.declared.Refusal.TheVariants.{BufferTooShort, EdgesTooShort}
use Rattle.model.specs.Answers.{Verdict}
use Rattle.model.specs.Judging.{judge_buffer}
use Rattle.model.specs.Corners.{triangle_count, judge_named}
use Rattle.model.specs.Mesh.{no_edge}
use Rattle.model.specs.Edges.{judge_edges}
use Rattle.judge.specs.First.{both_passed, unless_passed}
use Rattle.naming.specs.Corners.{place_named, places_named}
use Rattle.weld.specs.Definition.{number_of, kept, kept_before, keeper, new_index, closed_up, edge_of, vertex_of, edges_at, vertices_at, renumbered, judge_weld, weld_answer, weld}
use Rattle.weld.specs.Leaves.{AllWelded}
use Rattle.weld.specs.Kept.{kept_mark, kept_apart, keeper_keeps, new_below, new_first, kept_index, kept_anew}
use Rattle.weld.specs.Closing.{edges_long, edge_kept, vertices_long, vertex_kept}
use Rattle.weld.specs.Corners.{map_leaves, all_renumbered}

-- ---- the judges have passed

-- the lists are long enough, and no triangle strays
pub record Whole (v t : ℕ) (vertices : List Float) (triangles edges : List ℕ) : Type 0 where
  pub floats : 6 * v ≤ length vertices
  pub indices : 3 * t ≤ length triangles
  pub numbers : v ≤ length edges
  pub named : judge_named v (take (3 * t) triangles) ≡ Ok tt

module _ (v t : ℕ) (vertices : List Float) (triangles edges : List ℕ) where
  pub whole : judge_weld v t vertices triangles edges ≡ Ok tt → Whole v t vertices triangles edges
  unfolding judge_weld
  whole e =
      let vertices-pass = both_passed (judge_buffer (6 * v) (length vertices)) _ e in
      let triangles-pass = both_passed (judge_buffer (3 * t) (length triangles)) _ vertices-pass.1 in
      let edges-pass = both_passed (judge_edges v (length edges)) _ triangles-pass.1 in
      record {
        floats = leb-true _ _ (unless_passed _ (BufferTooShort (6 * v)) vertices-pass.0);
        indices = leb-true _ _ (unless_passed _ (BufferTooShort (3 * t)) triangles-pass.0);
        numbers = leb-true _ _ (unless_passed _ (EdgesTooShort v) edges-pass.0);
        named = edges-pass.1;
      }

  pub passes : Whole v t vertices triangles edges → judge_weld v t vertices triangles edges ≡ Ok tt
  unfolding judge_weld
  passes w = rw (le-leb _ _ w.floats, le-leb _ _ w.indices, le-leb _ _ w.numbers, w.named)

-- ---- the corners, of lists that pass

module _ (v t : ℕ) (vertices : List Float) (triangles edges : List ℕ) (w : Whole v t vertices triangles edges) where
  abbrev front : List ℕ
  front = take (3 * t) triangles

  front_long : length front ≡ 3 * t
  front_long = length-take-le (3 * t) triangles w.indices

  pub corner_below : (p : ℕ) → p < 3 * t → get_or triangles p 0 < v
  corner_below p l =
      let in_front : p < 3 * triangle_count front = rw front_long (omega arith) in
      rw get_or-take at (place_named v front w.named p in_front)

  mapped_long : length (map (new_index edges) front) ≡ 3 * t
  mapped_long = length-map front (new_index edges) ∙ front_long

  pub corner_is : (p : ℕ) → p < 3 * t → get_or (renumbered edges t triangles) p 0 ≡ new_index edges (get_or triangles p 0)
  unfolding renumbered
  corner_is p l =
      let stays : new_index edges 0 ≡ 0 = omega (arith, new_first edges 0) in
      laid_first (map (new_index edges) front) triangles p 0 (omega (arith, mapped_long))
      ∙ ap (get_or (map (new_index edges) front) p) (sym stays) ∙ get_or-map (new_index edges) front p 0
      ∙ ap (new_index edges) (get_or-take (3 * t) triangles p 0 l)

  pub corners_long : length (renumbered edges t triangles) ≡ length triangles
  unfolding renumbered
  corners_long = length_laid (map (new_index edges) front) triangles (omega (arith, mapped_long, w.indices))

  pub corner_beyond : (p : ℕ) → 3 * t ≤ p → get_or (renumbered edges t triangles) p 0 ≡ get_or triangles p 0
  unfolding renumbered
  corner_beyond p l = laid_beyond (map (new_index edges) front) triangles p 0 (omega (arith, mapped_long))

  -- what the code leaves once it has passed over all vertices
  pub all_passed : (k : ℕ) (vertices' : List Float) (triangles' edges' : List ℕ) → AllWelded v vertices front edges k vertices' triangles' edges'
      → record { answer = Ok (record { vertices = k; triangles = t }); vertices = vertices'; triangles = triangles' ++ drop (3 * t) triangles; edges = edges' }
      ≡ weld v t vertices triangles edges
  unfolding weld weld_answer renumbered
  all_passed k vertices' triangles' edges' a =
      let corners : triangles' ≡ map (new_index edges) front =
      a.triangles_are ∙ all_renumbered edges v front (λ p l. rw (get_or-take (3 * t) triangles p 0 (omega (arith, front_long))) (corner_below p (omega (arith, front_long)))) in
      rw (passes v t vertices triangles edges w, mapped_long, corners, a.lists.count_is, a.lists.vertices_are, a.lists.edges_are)

-- ---- the new lists, vertex by vertex

module _ (edges : List ℕ) (v : ℕ) where
  -- each vertex has a vertex of its edge, at its new index
  pub same_number : (i : ℕ) → i < v → number_of (edges_at edges v) (new_index edges i) ≡ number_of edges i
  same_number i l = let k = keeper_keeps edges i in edge_kept edges v (keeper edges i) (omega (arith, k.first)) k.stays ∙ k.same

  -- with the numbers of the vertex that is kept for it
  pub kept_numbers : (vertices : List Float) (i j : ℕ) → i < v → j < 6
      → get_or (vertices_at edges vertices v) (6 * new_index edges i + j) nan ≡ get_or vertices (6 * keeper edges i + j) nan
  kept_numbers vertices i j l small = let k = keeper_keeps edges i in vertex_kept edges v vertices (keeper edges i) j (omega (arith, k.first)) k.stays small

  -- no number but the mark stands twice
  pub once : (i j : ℕ) → i < kept_before edges v → j < kept_before edges v → (number_of (edges_at edges v) i ≡ no_edge → ⊥)
      → number_of (edges_at edges v) j ≡ number_of (edges_at edges v) i → i ≡ j
  once i j li lj m e =
      let f = which_one (kept edges) v i li in
      let g = which_one (kept edges) v j lj in
      let at_i : number_of (edges_at edges v) i ≡ number_of edges f.one_is = ap (number_of (edges_at edges v)) (sym f.before) ∙ edge_kept edges v f.one_is f.below f.passes in
      let at_j : number_of (edges_at edges v) j ≡ number_of edges g.one_is = ap (number_of (edges_at edges v)) (sym g.before) ∙ edge_kept edges v g.one_is g.below g.passes in
      sym f.before ∙ ap (kept_before edges) (kept_apart edges f.one_is g.one_is f.passes g.passes (λ q. m (at_i ∙ q)) (sym at_j ∙ e ∙ at_i)) ∙ g.before

  -- so all of them are kept
  all_kept : (j : ℕ) → j < kept_before edges v → kept (edges_at edges v) j ≡ true
  all_kept j l = go (eqb (number_of (edges_at edges v) j) no_edge) refl
    where
      go : (b : Bool) → eqb (number_of (edges_at edges v) j) no_edge ≡ b → kept (edges_at edges v) j ≡ true
      go true e = kept_mark (edges_at edges v) j (eqb-true _ _ e)
      go false e =
          kept_anew (edges_at edges v) j (eqb-false _ _ e)
          (λ f below k same. omega (arith, once j f l (omega arith) (eqb-false _ _ e) same))

-- ---- lists of which the first k vertices are all kept

module _ (edges : List ℕ) (k : ℕ) (all : (j : ℕ) → j < k → kept edges j ≡ true) where
  every : (i : ℕ) → i ≤ k → kept_before edges i ≡ i
  every zero l = refl
  every (suc i) l = rw (all i (omega arith)) (omega (arith, every i (omega arith)))

  own_index : (c : ℕ) → c < k → new_index edges c ≡ c
  own_index c l = kept_index edges c (all c l) ∙ every c (omega arith)

  closed_all : {A : Type 0} (item : ℕ → List A) (i : ℕ) → i ≤ k → closed_up item edges i ≡ gather item i
  closed_all item zero l = refl
  closed_all item (suc i) l = rw (all i (omega arith)) (ap (λ (a : List _). a ++ item i) (closed_all item i (omega arith)))

  pieces_same : {A : Type 0} (item : ℕ → List A) (w : ℕ) (l : List A) → w * k ≤ length l → ((i : ℕ) → i < k → item i ≡ take w (drop (w * i) l))
      → laid (closed_up item edges k) l ≡ l
  pieces_same item w l h piece = rw (closed_all item k (le_refl k), gather_pieces item w l k piece) (laid_same (w * k) l h)

  edges_same : k ≤ length edges → edges_at edges k ≡ edges
  unfolding edges_at
  edges_same h = pieces_same (edge_of edges) 1 edges (omega arith) (λ i l. rw (one-mul, drop-cons edges i 0 (omega arith)))

  vertices_same : (vertices : List Float) → 6 * k ≤ length vertices → vertices_at edges vertices k ≡ vertices
  unfolding vertices_at
  vertices_same vertices h = pieces_same (vertex_of vertices) 6 vertices h (λ i l. listed_part vertices (6 * i) 6 nan (omega arith))

  corners_same : (t : ℕ) (triangles : List ℕ) → 3 * t ≤ length triangles → ((p : ℕ) → p < 3 * t → get_or triangles p 0 < k) → renumbered edges t triangles ≡ triangles
  unfolding renumbered
  corners_same t triangles h below =
      let long : length (take (3 * t) triangles) ≡ 3 * t = length-take-le (3 * t) triangles h in
      let own : map (new_index edges) (take (3 * t) triangles) ≡ take (3 * t) triangles =
      map_leaves (new_index edges) (take (3 * t) triangles)
      (λ p l. own_index _ (rw (get_or-take (3 * t) triangles p 0 (omega arith)) (below p (omega arith)))) in
      rw own (laid_same (3 * t) triangles h)

-- ---- a pass that welds

pub record Welds (v t : ℕ) (vertices : List Float) (triangles edges : List ℕ) (c : Counts) : Type 0 where
  pub whole_lists : Whole v t vertices triangles edges
  pub counts_are : c ≡ record { vertices = kept_before edges v; triangles = t }
  pub outcome_is : weld v t vertices triangles edges ≡ weld_answer v t vertices triangles edges (Ok tt)

module _ (v t : ℕ) (vertices : List Float) (triangles edges : List ℕ) where
  answered : (verdict : Verdict) (c : Counts) → (weld_answer v t vertices triangles edges verdict).answer ≡ Ok c
      → (verdict ≡ Ok tt) × (c ≡ record { vertices = kept_before edges v; triangles = t })
  unfolding weld_answer
  answered (Ok _) c e = (refl, cc)
  answered (Err r) c e = (cc, cc)

  pub welds : (c : Counts) → (weld v t vertices triangles edges).answer ≡ Ok c → Welds v t vertices triangles edges c
  unfolding weld
  welds c e =
      let a = answered (judge_weld v t vertices triangles edges) c e in
      record {
        whole_lists = whole v t vertices triangles edges a.0;
        counts_are = a.1;
        outcome_is = ap (weld_answer v t vertices triangles edges) a.0;
      }

  module _ (w : Whole v t vertices triangles edges) where
    abbrev edges' : List ℕ
    edges' = edges_at edges v

    abbrev vertices' : List Float
    vertices' = vertices_at edges vertices v

    abbrev triangles' : List ℕ
    triangles' = renumbered edges t triangles

    abbrev k : ℕ
    k = kept_before edges v

    pub named_anew : (p : ℕ) → p < 3 * t → get_or triangles' p 0 < k
    named_anew p l = rw (corner_is v t vertices triangles edges w p l) (new_below edges (get_or triangles p 0) v (corner_below v t vertices triangles edges w p l))

    whole_again : Whole k t vertices' triangles' edges'
    whole_again =
        let long : length triangles' ≡ length triangles = corners_long v t vertices triangles edges w in
        let room : 3 * t ≤ length triangles' = omega (arith, w.indices) in
        let front_again : length (take (3 * t) triangles') ≡ 3 * t = length-take-le (3 * t) triangles' room in
        record {
          floats = omega (arith, few (kept edges) v, vertices_long edges v vertices w.floats, w.floats);
          indices = room;
          numbers = omega (arith, few (kept edges) v, edges_long edges v w.numbers, w.numbers);
          named = places_named k (take (3 * t) triangles')
              (λ p l. let in_front : p < 3 * t = omega (arith, front_again) in rw (get_or-take (3 * t) triangles' p 0 in_front) (named_anew p in_front));
        }

    -- a second pass moves nothing
    pub again : weld k t vertices' triangles' edges' ≡ weld_answer v t vertices triangles edges (Ok tt)
    unfolding weld weld_answer
    again =
        let a = whole_again in
        let all = all_kept edges v in
        rw (
          passes k t vertices' triangles' edges' a,
          every edges' k all k (le_refl k),
          vertices_same edges' k all vertices' a.floats,
          corners_same edges' k all t triangles' a.indices named_anew,
          edges_same edges' k all a.numbers,
        )
