-- What the buyer was promised of the weld (document 02, [10]), for every input: what extraction with the further list answers and leaves, what the
-- pass answers and leaves of any lists, and what it leaves of extraction's mesh. It speaks of the model's `extract_whole` and of weld's `weld`, to
-- which the `ensures` of the calls say that the code is equal, in the words of weld's Definition. Definitions only.
use Rattle.std.specs.Prelude.{ℕ, ◌*◌, ◌≤◌, ◌<◌, ◌≡◌, true, List, [], ◌∷◌, ◌++◌, ◌↔◌, length, get_or, take, Err, Ok}
use Rattle.std.specs.Float.{nan}
use Rattle.laws.specs.Steps.{listed, each}
use Rattle.model.specs.declared.Counts.{Counts}
use Rattle.model.specs.declared.Refusal.{Refusal}
use Rattle.model.specs.Answers.{Extraction}
use Rattle.model.specs.Star.{Star, subdivisions}
use Rattle.model.specs.Judging.{judge_faces, judge_store, judge_room, judge_buffer}
use Rattle.model.specs.Corners.{judge_named}
use Rattle.model.specs.Mesh.{Made, Mesh, no_edge, regular_mesh, mesh_of}
use Rattle.model.specs.Edges.{judge_edges, edge_number, WholeOutcome, extract_whole}
use Rattle.closed.specs.Clauses.{Edge, number, OfBlock, Crossed, no_vertex, edge_at, NoHole}
use Rattle.finer.specs.Labels.{labelled_mesh}
use Rattle.finer.specs.Clauses.{IsSide, CoarseClosed, BorderClosed, SideCorners, RegularLying, SideLying, SameBits}
use Rattle.weights.specs.Clauses.{AreF32}
use Rattle.weld.specs.Definition.{number_of, kept, kept_before, new_index, closed_up, Outcome, weld}
use Rattle.promises.specs.Left.{Laid, Lent, answered, left, counts, number_in, mesh_in}
use Rattle.promises.specs.Orders.{Judge, judge, Judged, block_judges}
use Rattle.promises.specs.Reads.{reported}
use Rattle.promises.specs.Finer.{NearBy}

-- a mesh's buffers and the list of its vertices' grid edges
pub record LentWhole : Type 0 where
  pub mesh : Lent
  pub edges : List ℕ

-- number i of the edges
abbrev pub edge_in : LentWhole → ℕ → ℕ
edge_in lists i = number_of lists.edges i

-- ---- extraction with the further list

module _ (s : Star) (lent : LentWhole) where
  abbrev pub whole_outcome : WholeOutcome
  whole_outcome = extract_whole s lent.mesh.store lent.mesh.vertices lent.mesh.triangles lent.edges

  -- what it answers, and what it leaves in the lists
  abbrev pub answered_whole : Extraction
  answered_whole = whole_outcome.mesh.answer

  abbrev pub left_whole : LentWhole
  left_whole =
      let o = whole_outcome.mesh in
      record { mesh = record { store = o.store; vertices = o.vertices; triangles = o.triangles }; edges = whole_outcome.edges }

  -- 1 to 9, 23, 10
  abbrev pub whole_judges : List Judge
  whole_judges =
      block_judges s ++
      judge 8 (judge_faces s) ∷
      judge 9 (judge_store (subdivisions s) (length lent.mesh.store)) ∷
      judge 23 (judge_edges (counts s).vertices (length lent.edges)) ∷
      judge 10 (judge_room (counts s).vertices (counts s).triangles (length lent.mesh.vertices) (length lent.mesh.triangles)) ∷
      []

  pub record WholeIsLeft (c : Counts) : Type 0 where
    -- the first places of the further list hold the grid edges of the definition's vertices, and all beyond is as it was
    pub edges : Laid c.vertices (each edge_number (mesh_of s).made) lent.edges left_whole.edges
    -- of these a vertex has the mark exactly if a transition cell made it: those come after all that the regular cells made
    pub marks : (i : ℕ) → i < c.vertices → (edge_in left_whole i ≡ no_edge) ↔ (length (regular_mesh s).made ≤ i)
    -- all else is what extraction answers, leaves and reports without it
    pub answered_alike : answered s lent.mesh ≡ Ok c
    pub left_alike : left s lent.mesh ≡ left_whole.mesh
    pub reads_alike : reported s lent.mesh ≡ whole_outcome.mesh.reads

pub record WholeExtraction : Type 0 where
  -- it is refused exactly as the first of 1 to 9, 23, 10 says, and otherwise accepted with the counts of the definition's mesh
  pub extraction : (s : Star) (lent : LentWhole)
      → Judged (whole_judges s lent) (λ r. answered_whole s lent ≡ Err r) (answered_whole s lent ≡ Ok (counts s))
  -- refused, it leaves every list as it was and reports no reads
  pub untouched : (s : Star) (lent : LentWhole) (r : Refusal) → answered_whole s lent ≡ Err r → left_whole s lent ≡ lent
  pub no_reads : (s : Star) (lent : LentWhole) (r : Refusal) → answered_whole s lent ≡ Err r → (whole_outcome s lent).mesh.reads ≡ 0
  pub accepted : (s : Star) (lent : LentWhole) (c : Counts) → answered_whole s lent ≡ Ok c → WholeIsLeft s lent c

-- ---- the pass, over any lists and counts

module _ (c : Counts) (lists : LentWhole) where
  abbrev pub weld_outcome : Outcome
  weld_outcome = weld c.vertices c.triangles lists.mesh.vertices lists.mesh.triangles lists.edges

  -- what it leaves; the index store plays no part
  abbrev pub left_welded : LentWhole
  left_welded =
      record {
        mesh = record { store = lists.mesh.store; vertices = weld_outcome.vertices; triangles = weld_outcome.triangles };
        edges = weld_outcome.edges;
      }

  abbrev pub new_counts : Counts
  new_counts = record { vertices = kept_before lists.edges c.vertices; triangles = c.triangles }

  -- 14 of the vertices, 14 of the triangles, 23, 17
  abbrev pub weld_judges : List Judge
  weld_judges =
      judge 14 (judge_buffer (6 * c.vertices) (length lists.mesh.vertices)) ∷
      judge 14 (judge_buffer (3 * c.triangles) (length lists.mesh.triangles)) ∷
      judge 23 (judge_edges c.vertices (length lists.edges)) ∷
      judge 17 (judge_named c.vertices (take (3 * c.triangles) lists.mesh.triangles)) ∷
      []

-- place p of the corners
abbrev pub corner_at : LentWhole → ℕ → ℕ
corner_at lists p = get_or lists.mesh.triangles p 0

-- vertex i of the one stands in the other at j, with its edge and its six numbers
pub record Moved (before after : LentWhole) (i j : ℕ) : Type 0 where
  pub edge : edge_in after j ≡ edge_in before i
  pub numbers : (k : ℕ) → k < 6 → number_in after.mesh j k ≡ number_in before.mesh i k

-- one of the first vertices that is kept, and whose new index is j
pub record KeptAt (c : Counts) (before : LentWhole) (j : ℕ) : Type 0 where
  pub of : ℕ
  pub within : of < c.vertices
  pub stays : kept before.edges of ≡ true
  pub index : new_index before.edges of ≡ j

pub record IsWelded (c : Counts) (before after : LentWhole) (new : Counts) : Type 0 where
  -- each corner names the same edge as before, by a vertex that is left
  pub same_edge : (p : ℕ) → p < 3 * c.triangles → edge_in after (corner_at after p) ≡ edge_in before (corner_at before p)
  pub named : (p : ℕ) → p < 3 * c.triangles → corner_at after p < new.vertices
  -- no number but the mark stands twice
  pub once : (i j : ℕ) → i < new.vertices → j < new.vertices → (edge_in after i ≡ no_edge → ⊥) → edge_in after j ≡ edge_in after i → i ≡ j
  -- what is kept: each transition vertex, and of the others exactly the first on its edge
  pub transition_kept : (i : ℕ) → i < c.vertices → edge_in before i ≡ no_edge → kept before.edges i ≡ true
  pub first_kept : (i : ℕ) → i < c.vertices → (edge_in before i ≡ no_edge → ⊥)
      → (kept before.edges i ≡ true) ↔ ((j : ℕ) → j < i → edge_in before j ≡ edge_in before i → ⊥)
  -- the kept close up: each stands at its new index with all that it had, in their order, and no other below the new count
  pub stands : (i : ℕ) → i < c.vertices → kept before.edges i ≡ true → Moved before after i (new_index before.edges i)
  pub in_order_lem : (i j : ℕ) → i < j → j < c.vertices → kept before.edges i ≡ true → kept before.edges j ≡ true
      → new_index before.edges i < new_index before.edges j
  pub filled : (j : ℕ) → j < new.vertices → KeptAt c before j
  -- and each corner names the new index of what it named
  pub corner : (p : ℕ) → p < 3 * c.triangles → corner_at after p ≡ new_index before.edges (corner_at before p)
  -- places past the new counts stay
  pub vertices_beyond : (j : ℕ) → 6 * new.vertices ≤ j → get_or after.mesh.vertices j nan ≡ get_or before.mesh.vertices j nan
  pub triangles_beyond : (j : ℕ) → 3 * new.triangles ≤ j → corner_at after j ≡ corner_at before j
  pub edges_beyond : (j : ℕ) → new.vertices ≤ j → edge_in after j ≡ edge_in before j
  pub vertices_long : length after.mesh.vertices ≡ length before.mesh.vertices
  pub triangles_long : length after.mesh.triangles ≡ length before.mesh.triangles
  pub edges_long : length after.edges ≡ length before.edges
  -- a second pass answers the same counts and moves nothing
  pub again : weld_outcome new after ≡ weld_outcome c before

pub record WeldPass : Type 0 where
  -- it is refused exactly as the first of 14, 14, 23, 17 says, and otherwise answers the new counts
  pub pass : (c : Counts) (lists : LentWhole)
      → Judged (weld_judges c lists) (λ r. (weld_outcome c lists).answer ≡ Err r) ((weld_outcome c lists).answer ≡ Ok (new_counts c lists))
  -- refused, it leaves every list as it was
  pub untouched : (c : Counts) (lists : LentWhole) (r : Refusal) → (weld_outcome c lists).answer ≡ Err r → left_welded c lists ≡ lists
  pub accepted : (c : Counts) (lists : LentWhole) (new : Counts) → (weld_outcome c lists).answer ≡ Ok new → IsWelded c lists (left_welded c lists) new

-- ---- the pass over what extraction leaves

-- one of the first k vertices, and one alone, has the edge g
pub record OneCarries (lists : LentWhole) (k g : ℕ) : Type 0 where
  pub at : ℕ
  pub below : at < k
  pub has : edge_in lists at ≡ g
  pub alone : (i : ℕ) → i < k → edge_in lists i ≡ g → i ≡ at

module _ (s : Star) (c : Counts) (lists : LentWhole) where
  -- how many of the first vertices, which the regular cells made, and of the first triangles there are before the pass; and how many vertices after it
  abbrev pub regular_vertices : ℕ
  regular_vertices = length (regular_mesh s).made

  abbrev pub regular_triangles : ℕ
  regular_triangles = length (regular_mesh s).triangles

  abbrev pub regular_kept : ℕ
  regular_kept = kept_before lists.edges regular_vertices

  -- finer's label of a vertex before the pass, and of the one at a place after it: the labels close up as the edges do
  abbrev pub label_before : ℕ → ℕ
  label_before i = edge_at (labelled_mesh s).made i

  abbrev pub label_after : ℕ → ℕ
  label_after j = get_or (closed_up (λ i. label_before i ∷ []) lists.edges c.vertices) j no_edge

  abbrev pub labelled_after : Mesh
  labelled_after = mesh_in (left_welded c lists).mesh label_after (new_counts c lists).vertices c.triangles

  -- the vertices in their order before the pass, each as it stands after it
  abbrev pub labelled_anew : List Made
  labelled_anew = listed (λ i. get_or labelled_after.made (new_index lists.edges i) no_vertex) c.vertices

  -- what was promised of a named side ([14]), of the lists after the pass: between two coarse edges in its face, and between two of the edges on a
  -- border between two of its cells, as many triangle sides run one way as the other; each corner of a transition triangle names a vertex on an edge
  -- of its own cell; a vertex lies on the edge that its label tells; and where two with one label have the same bits, and how far apart they may be
  -- elsewhere
  pub record NoGapAfter : Type 0 where
    pub coarse : (side : ℕ) → IsSide s side → CoarseClosed s labelled_after side
    pub borders : (side : ℕ) → IsSide s side → BorderClosed s labelled_after side
    pub corners : SideCorners s labelled_after
    pub regular : RegularLying s labelled_anew
    pub lying : SideLying s labelled_anew
    pub same_bits : SameBits s labelled_anew
    pub near_by : AreF32 s → NearBy s labelled_anew

  pub record MeshIsWelded : Type 0 where
    -- it is never refused
    pub welded : (weld_outcome c lists).answer ≡ Ok (new_counts c lists)
    -- demand 3 holds of the regular cells' part of the lists, which comes first, before the pass and after it
    pub before : NoHole s (mesh_in lists.mesh (edge_in lists) regular_vertices regular_triangles)
    pub after : NoHole s (mesh_in (left_welded c lists).mesh (edge_in (left_welded c lists)) regular_kept regular_triangles)
    -- and at the named sides after it too, as no_gap says of them before it
    pub no_gap : NoGapAfter
    -- after it each crossed grid edge is the number of exactly one vertex: of one regular vertex, since those of the transition cells have the mark
    pub one_each : (e : Edge) → OfBlock s e → Crossed s e → OneCarries (left_welded c lists) (new_counts c lists).vertices (number s e)
    -- the six numbers that each corner names are what they were, of both kinds of cell
    pub numbers : (p k : ℕ) → p < 3 * c.triangles → k < 6
        → number_in (left_welded c lists).mesh (corner_at (left_welded c lists) p) k ≡ number_in lists.mesh (corner_at lists p) k

-- ---- all of it

pub record WeldPromises : Type 0 where
  pub whole : WholeExtraction
  pub any_lists : WeldPass
  -- accepted, extraction leaves lists that are welded
  pub of_extraction : (s : Star) (lent : LentWhole) (c : Counts) → answered_whole s lent ≡ Ok c → MeshIsWelded s c (left_whole s lent)
