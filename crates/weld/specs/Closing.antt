-- Document 02, [10]: the lists once some vertices are welded, place by place; one vertex more; a window of vertices. Assumes nothing.
use Rattle.std.specs.Prelude.{ℕ, suc, ◌+◌, ◌*◌, ◌-◌, ◌≤◌, ◌<◌, ◌≡◌, refl, Bool, true, false, cond, List, ◌⊎◌, ltb, eqb, Float, length, set}
use Rattle.std.proofs.Common.{one-mul, eq-or-lt_of_le, add-one, sym, ◌∙◌, append-nil, inl, inr, lt-ltb, le-ltb, eqb-true}
use native.Mathlib.Omega.{arith}
use Rattle.std.proofs.Math.Path.{ap}
use Rattle.std.proofs.Math.Logic.{⊎_elim}
use Rattle.std.proofs.lemmas.Bool.{eqb-false}
use Rattle.std.specs.Float.Ieee.{nan}
use Rattle.std.proofs.Math.ListN.{get_or}
use Rattle.std.proofs.Math.Seq.{sets, get_or-set_same, get_or-set_other}
use Rattle.laws.specs.Steps.{laid}
use Rattle.laws.specs.Lists.{length_laid, get_d_listed, listed_same}
use Rattle.laws.specs.Counting.{few, counted, which_one}
use Rattle.laws.specs.LaidBuffers.{laid_beyond, laid_first, laid_more}
use Rattle.model.specs.Mesh.{no_edge}
use Rattle.weld.specs.Definition.{number_of, kept, kept_before, new_index, closed_up, edge_of, vertex_of, edges_at, vertices_at}
use Rattle.weld.specs.Leaves.{Noted, Placed, Closed, WeldedTo, Tabled, Window}
use Rattle.weld.specs.Kept.{kept_mark, kept_index, kept_for, kept_anew, length_closed, closed_at}

-- ---- place by place

module _ (edges : List ℕ) (i : ℕ) where
  length_edges : length (closed_up (edge_of edges) edges i) ≡ kept_before edges i
  length_edges = length_closed (edge_of edges) 1 (λ i. refl) edges i ∙ one-mul (kept_before edges i)

  pub edges_long : i ≤ length edges → length (edges_at edges i) ≡ length edges
  unfolding edges_at
  edges_long l = length_laid (closed_up (edge_of edges) edges i) edges (omega (arith, length_edges, few (kept edges) i))

  pub edge_beyond : (j : ℕ) → kept_before edges i ≤ j → number_of (edges_at edges i) j ≡ number_of edges j
  unfolding edges_at
  edge_beyond j l = laid_beyond (closed_up (edge_of edges) edges i) edges j 0 (omega (arith, length_edges))

  -- the number of a kept vertex
  pub edge_kept : (f : ℕ) → f < i → kept edges f ≡ true → number_of (edges_at edges i) (kept_before edges f) ≡ number_of edges f
  unfolding edges_at
  edge_kept f l k =
      let at : kept_before edges f ≡ 1 * kept_before edges f + 0 = omega arith in
      laid_first (closed_up (edge_of edges) edges i) edges (kept_before edges f) 0 (omega (arith, length_edges, counted (kept edges) i f l k))
      ∙ ap (λ (j : ℕ). get_or (closed_up (edge_of edges) edges i) j 0) at ∙ closed_at (edge_of edges) 1 (λ i. refl) edges i f 0 0 l k (omega arith)

  module _ (vertices : List Float) where
    length_vertices : length (closed_up (vertex_of vertices) edges i) ≡ 6 * kept_before edges i
    length_vertices = length_closed (vertex_of vertices) 6 (λ i. refl) edges i

    pub vertices_long : 6 * i ≤ length vertices → length (vertices_at edges vertices i) ≡ length vertices
    unfolding vertices_at
    vertices_long l = length_laid (closed_up (vertex_of vertices) edges i) vertices (omega (arith, length_vertices, few (kept edges) i))

    pub vertex_beyond : (j : ℕ) → 6 * kept_before edges i ≤ j → get_or (vertices_at edges vertices i) j nan ≡ get_or vertices j nan
    unfolding vertices_at
    vertex_beyond j l = laid_beyond (closed_up (vertex_of vertices) edges i) vertices j nan (omega (arith, length_vertices))

    -- number k of the six of a kept vertex
    pub vertex_kept : (f k : ℕ) → f < i → kept edges f ≡ true → k < 6 → get_or (vertices_at edges vertices i) (6 * kept_before edges f + k) nan ≡ get_or vertices (6 * f + k) nan
    unfolding vertices_at
    vertex_kept f k l t small =
        laid_first (closed_up (vertex_of vertices) edges i) vertices (6 * kept_before edges f + k) nan (omega (arith, length_vertices, counted (kept edges) i f l t))
        ∙ closed_at (vertex_of vertices) 6 (λ i. refl) edges i f k nan l t small ∙ get_d_listed (λ k. get_or vertices (6 * f + k) nan) 6 k nan small

-- ---- one vertex more

module _ (edges : List ℕ) (vertices : List Float) (i : ℕ) where
  edges_stay : kept edges i ≡ false → edges_at edges (suc i) ≡ edges_at edges i
  unfolding edges_at
  edges_stay k = rw (k, append-nil)

  vertices_stay : kept edges i ≡ false → vertices_at edges vertices (suc i) ≡ vertices_at edges vertices i
  unfolding vertices_at
  vertices_stay k = rw (k, append-nil)

  edges_grow : kept edges i ≡ true → i < length edges → set (edges_at edges i) (kept_before edges i) (number_of edges i) ≡ edges_at edges (suc i)
  unfolding edges_at
  edges_grow k l =
      let before = closed_up (edge_of edges) edges i in
      ap (λ (n : ℕ). sets (laid before edges) n (edge_of edges i)) (sym (length_edges edges i))
      ∙ laid_more before edges (edge_of edges i) (omega (arith, length_edges edges i, few (kept edges) i)) ∙ rw k

  -- its six numbers still stand at its own place
  vertex_there : vertex_of (vertices_at edges vertices i) i ≡ vertex_of vertices i
  vertex_there = listed_same _ _ (λ k. vertex_beyond edges i vertices (6 * i + k) (omega (arith, few (kept edges) i))) 6

  vertex_more : kept edges i ≡ true → 6 * (i + 1) ≤ length vertices
      → sets (vertices_at edges vertices i) (6 * kept_before edges i) (vertex_of vertices i) ≡ vertices_at edges vertices (suc i)
  unfolding vertices_at
  vertex_more k l =
      let before = closed_up (vertex_of vertices) edges i in
      ap (λ (n : ℕ). sets (laid before vertices) n (vertex_of vertices i)) (sym (length_vertices edges i vertices))
      ∙ laid_more before vertices (vertex_of vertices i) (omega (arith, length_vertices edges i vertices, few (kept edges) i)) ∙ rw k

  vertices_grow : kept edges i ≡ true → 6 * (i + 1) ≤ length vertices
      → sets (vertices_at edges vertices i) (6 * kept_before edges i) (vertex_of (vertices_at edges vertices i) i) ≡ vertices_at edges vertices (suc i)
  vertices_grow k l = ap (λ (six : List Float). sets (vertices_at edges vertices i) (6 * kept_before edges i) six) vertex_there ∙ vertex_more k l

module _ (edges : List ℕ) (vertices : List Float) (i k r : ℕ) (vertices' : List Float) (edges' : List ℕ) (w : WeldedTo edges vertices i k vertices' edges')
    (le : i < length edges) (lv : 6 * (i + 1) ≤ length vertices) (p : Placed edges' k (number_of edges' i) r) where
  number_is : number_of edges' i ≡ number_of edges i
  number_is = rw w.edges_are (edge_beyond edges i i (few (kept edges) i))

  -- the number of a kept vertex before it, as it stands now
  stands : (f : ℕ) → f < i → kept edges f ≡ true → number_of edges' (kept_before edges f) ≡ number_of edges f
  stands f l t = rw w.edges_are (edge_kept edges i f l t)

  old_is : r < k → (kept edges i ≡ false) × (r ≡ new_index edges i)
  old_is l =
      let f = which_one (kept edges) i r (omega (arith, w.count_is)) in
      let same : number_of edges f.one_is ≡ number_of edges i = sym (stands f.one_is f.below f.passes) ∙ ap (number_of edges') f.before ∙ p.has l ∙ number_is in
      let h = kept_for edges i f.one_is f.below f.passes (λ q. p.regular l (number_is ∙ q)) same in
      (h.0, sym (h.1 ∙ f.before))

  new_kept : r ≡ k → (b : Bool) → eqb (number_of edges i) no_edge ≡ b → kept edges i ≡ true
  new_kept q true e = kept_mark edges i (eqb-true _ _ e)
  new_kept q false e =
      let regular : number_of edges i ≡ no_edge → ⊥ = eqb-false _ _ e in
      kept_anew edges i regular
      (λ f l t same. p.new q (λ m. regular (sym number_is ∙ m)) (kept_before edges f) (omega (arith, w.count_is, counted (kept edges) i f l t)) (stands f l t ∙ same ∙ sym number_is))

  new_is : r ≡ k → (kept edges i ≡ true) × (r ≡ new_index edges i)
  new_is q =
      let t = new_kept q (eqb (number_of edges i) no_edge) refl in
      (t, q ∙ w.count_is ∙ sym (kept_index edges i t))

  tabled_as : r ≡ new_index edges i
  tabled_as = ⊎_elim (λ q. (new_is q).1) (λ l. (old_is l).1) (eq-or-lt_of_le p.within)

  welded_more : (seen : List ℕ) (k2 : ℕ) (vertices2 : List Float) (edges2 seen2 : List ℕ)
      → Closed i k r (number_of edges' i) vertices' edges' seen k2 vertices2 edges2 seen2 → WeldedTo edges vertices (suc i) k2 vertices2 edges2
  welded_more seen k2 vertices2 edges2 seen2 c = go (eq-or-lt_of_le p.within)
    where
      go : (r ≡ k) ⊎ (r < k) → WeldedTo edges vertices (suc i) k2 vertices2 edges2
      go (inl q) =
          let t : kept edges i ≡ true = (new_is q).0 in
          let f : ltb r k ≡ false = le-ltb r k (omega arith) in
          record {
            count_is = c.count_is ∙ rw (f, t, w.count_is);
            vertices_are = c.vertices_are ∙ rw (f, w.vertices_are, w.count_is) (vertices_grow edges vertices i t lv);
            edges_are = c.edges_are ∙ rw (f, number_is, w.edges_are, w.count_is) (edges_grow edges vertices i t le);
          }
      go (inr l) =
          let t : kept edges i ≡ false = (old_is l).0 in
          let f : ltb r k ≡ true = lt-ltb r k l in
          record {
            count_is = c.count_is ∙ rw (f, t) (omega (arith, w.count_is));
            vertices_are = c.vertices_are ∙ rw f (w.vertices_are ∙ sym (vertices_stay edges vertices i t));
            edges_are = c.edges_are ∙ rw f (w.edges_are ∙ sym (edges_stay edges vertices i t));
          }

-- ---- a window of vertices

pub window_none : (start k : ℕ) (vertices : List Float) (edges seen table : List ℕ) → k ≤ start → Noted seen edges k
    → Window start start k vertices edges k vertices edges seen table
unfolding Tabled
window_none start k vertices edges seen table l n =
    record { within = l; noted = n; lists = λ _ _ _ _ w. w; tabled = λ _ _ _ _ w j below. absurd (omega arith) }

module _ (start i first k r : ℕ) (vertices₀ : List Float) (edges₀ : List ℕ) (vertices : List Float) (edges seen table : List ℕ)
    (ls : start ≤ i) (le : i < length edges) (lv : 6 * (i + 1) ≤ length vertices) (same_edges : length edges ≡ length edges₀)
    (same-vertices : length vertices ≡ length vertices₀) (lt : i - start < length table)
    (w : Window start i first vertices₀ edges₀ k vertices edges seen table) (p : Placed edges k (number_of edges i) r) where
  more_tabled : (edges₁ : List ℕ) (vertices₁ : List Float) → length edges₁ ≡ length edges₀ → length vertices₁ ≡ length vertices₀
      → WeldedTo edges₁ vertices₁ start first vertices₀ edges₀ → Tabled edges₁ start (i + 1) (set table (i - start) r)
  unfolding Tabled
  more_tabled edges₁ vertices₁ e v a j l =
      let within : j ≤ i - start = omega arith in
      ⊎_elim
      (λ q.
      let at : i ≡ start + j = omega arith in
      ap (λ (m : ℕ). get_or (set table (i - start) r) m 0) q ∙ get_or-set_same table (i - start) r 0 lt
      ∙ tabled_as edges₁ vertices₁ i k r vertices edges (w.lists edges₁ vertices₁ e v a) (omega arith) (omega arith) p ∙ ap (new_index edges₁) at)
      (λ before. get_or-set_other table (i - start) j r 0 (λ q. omega arith) ∙ w.tabled edges₁ vertices₁ e v a j before)
      (eq-or-lt_of_le within)

  pub window_more : (k2 : ℕ) (vertices2 : List Float) (edges2 seen2 : List ℕ) → Closed i k r (number_of edges i) vertices edges seen k2 vertices2 edges2 seen2
      → Window start (i + 1) first vertices₀ edges₀ k2 vertices2 edges2 seen2 (set table (i - start) r)
  window_more k2 vertices2 edges2 seen2 c =
      record {
        within = omega (arith, c.count_is, one_at_most (ltb r k), w.within);
        noted = c.noted w.noted;
        lists = λ edges₁ vertices₁ e v a.
            rw add-one
            (welded_more edges₁ vertices₁ i k r vertices edges (w.lists edges₁ vertices₁ e v a) (omega arith) (omega arith) p seen k2 vertices2 edges2 seen2 c);
        tabled = more_tabled;
      }
    where
      one_at_most : (b : Bool) → cond b k (k + 1) ≤ k + 1
      one_at_most true = omega arith
      one_at_most false = omega arith
