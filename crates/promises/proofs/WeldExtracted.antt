-- Extraction with the further list, by what its judges come to: without the list it answers, leaves and reports the same, and the list holds the grid
-- edges, with the mark for those that the transition cells made.
use Rattle.std.specs.Prelude.{ℕ, ◌+◌, ◌*◌, ◌/◌, ◌≤◌, ◌<◌, ◌≡◌, ◌&&◌, ◌↔◌, leb, length, drop, Err, Ok}
use Rattle.std.proofs.Common.{one-mul, arith, ◌∙◌, leb-true}
use Rattle.std.proofs.Math.Decide.{dec_lt}
use Rattle.std.proofs.Math.Path.{refl, sym, ap}
use Rattle.laws.specs.Steps.{laid, each}
use Rattle.laws.specs.Lists.{length_each}
use Rattle.model.specs.declared.Counts.{Counts}
use Rattle.model.specs.declared.Refusal.{Refusal}
use Rattle.model.specs.declared.Refusal.TheVariants.{IndexStoreTooShort, NoRoom, EdgesTooShort}
use Rattle.model.specs.Answers.{Verdict}
use Rattle.model.specs.Limits.{most_subdivisions}
use Rattle.model.specs.Star.{Star, subdivisions}
use Rattle.model.specs.Refusals.{or_else}
use Rattle.model.specs.Judging.{judge_lent, judge_star, judge_faces, judge_store, judge_room}
use Rattle.model.specs.Mesh.{store_length, no_edge, regular_mesh, mesh_of}
use Rattle.model.specs.Extraction.{Outcome, judge_extraction, outcome, extract}
use Rattle.model.specs.Edges.{judge_edges, edge_number, judge_whole, edges_left, extract_whole}
use Rattle.judge.specs.First.{or_else_assoc, or_else_passed, unless_passed}
use Rattle.judge.specs.Passing.{star_shaped}
use Rattle.closed.specs.Clauses.{no_vertex, edge_at}
use Rattle.closed.proofs.Marks.{marked, unmarked}
use Rattle.promises.specs.Left.{answered, left, counts}
use Rattle.promises.specs.Orders.{in_order, Numbered, Judged, block_judges}
use Rattle.promises.proofs.Judges.{◌&◌, judged, by_unless, numbered_append, faces_number, block_numbered}
use Rattle.promises.proofs.ReadBack.{is_laid}
use Rattle.promises.specs.Reads.{reported}
use Rattle.promises.proofs.Surface.{laid_at}
use Rattle.promises.proofs.Extracted as Alone
use Rattle.promises.proofs.Extracted.{mesh_answered}
use Rattle.promises.specs.Weld.{LentWhole, edge_in, whole_outcome, answered_whole, left_whole, whole_judges, WholeIsLeft, WholeExtraction}

-- what passes with one judge more, passes without it
without : (a b c d e : Verdict) → or_else a (or_else b (or_else c (or_else d e))) ≡ Ok tt → (d ≡ Ok tt) × (or_else a (or_else b (or_else c e)) ≡ Ok tt)
without (Ok _) (Ok _) (Ok _) (Ok _) e h = (refl, h)
without (Ok _) (Ok _) (Ok _) (Err r) e h = (h, cc)
without (Ok _) (Ok _) (Err r) d e h = (cc, h)
without (Ok _) (Err r) c d e h = (cc, h)
without (Err r) b c d e h = (cc, h)

module _ (s : Star) (lent : LentWhole) where
  abbrev made : ℕ
  made = length (mesh_of s).made

  abbrev verdict : Verdict
  verdict = judge_whole s (length lent.mesh.store) (length lent.mesh.vertices) (length lent.mesh.triangles) (length lent.edges)

  in_order_lem : in_order (whole_judges s lent) ≡ verdict
  unfolding judge_whole judge_lent judge_star
  in_order_lem = simp (or_else_assoc, or_else_passed)

  numbered : Numbered (whole_judges s lent)
  numbered =
      let wanted = store_length (subdivisions s) in
      let room = leb made (length lent.mesh.vertices / 6) && leb (counts s).triangles (length lent.mesh.triangles / 3) in
      numbered_append (block_judges s) (drop 7 (whole_judges s lent)) (block_numbered s)
      (faces_number s & by_unless (leb wanted (length lent.mesh.store)) (IndexStoreTooShort wanted) &
      by_unless (leb made (length lent.edges)) (EdgesTooShort made) & by_unless room (NoRoom (counts s)) & tt)

  abbrev came : Verdict → Outcome
  came = outcome (mesh_of s) lent.mesh.store lent.mesh.vertices lent.mesh.triangles

  extraction : Judged (whole_judges s lent) (λ r. answered_whole s lent ≡ Err r) (answered_whole s lent ≡ Ok (counts s))
  unfolding extract_whole outcome
  extraction =
      judged Err (Ok (counts s)) (λ v. (came v).answer) refl (λ r. refl) (λ q r e. cc) (λ r e. cc)
      (whole_judges s lent) verdict in_order_lem numbered

  -- what is left, by the verdict
  abbrev leaves : Verdict → LentWhole
  leaves v =
      let o = came v in
      record { mesh = record { store = o.store; vertices = o.vertices; triangles = o.triangles }; edges = edges_left (mesh_of s) lent.edges v }

  untouched : (r : Refusal) → answered_whole s lent ≡ Err r → left_whole s lent ≡ lent
  unfolding extract_whole outcome edges_left
  untouched r e = ap leaves (sym in_order_lem ∙ (extraction.refused_by_first r).0 e)

  no_reads : (r : Refusal) → answered_whole s lent ≡ Err r → (whole_outcome s lent).mesh.reads ≡ 0
  unfolding extract_whole outcome
  no_reads r e = ap (λ (v : Verdict). (came v).reads) (sym in_order_lem ∙ (extraction.refused_by_first r).0 e)

  module _ (c : Counts) (e : answered_whole s lent ≡ Ok c) where
    accepted : (verdict ≡ Ok tt) × (c ≡ counts s)
    unfolding extract_whole
    accepted = mesh_answered (mesh_of s) lent.mesh verdict c e

    passed : (judge_edges made (length lent.edges) ≡ Ok tt)
        × (judge_extraction s (length lent.mesh.store) (length lent.mesh.vertices) (length lent.mesh.triangles) ≡ Ok tt)
    unfolding judge_whole judge_extraction
    passed =
        without (judge_star s) (judge_faces s) (judge_store (subdivisions s) (length lent.mesh.store)) (judge_edges made (length lent.edges))
        (judge_room made (length (mesh_of s).triangles) (length lent.mesh.vertices) (length lent.mesh.triangles)) accepted.0

    pub answered_alike : answered s lent.mesh ≡ Ok c
    unfolding extract outcome
    answered_alike = ap (λ (v : Verdict). (came v).answer) passed.1 ∙ ap Ok (sym accepted.1)

    pub left_alike : left s lent.mesh ≡ (left_whole s lent).mesh
    unfolding extract extract_whole
    left_alike = rw (passed.1, accepted.0)

    reads_alike : reported s lent.mesh ≡ (whole_outcome s lent).mesh.reads
    unfolding extract extract_whole
    reads_alike = ap (λ (v : Verdict). (came v).reads) (passed.1 ∙ sym accepted.0)

    edges_left_lem : (left_whole s lent).edges ≡ laid (each edge_number (mesh_of s).made) lent.edges
    unfolding extract_whole edges_left
    edges_left_lem = rw accepted.0

    pub edges_fit : made ≤ length lent.edges
    edges_fit = leb-true made (length lent.edges) (unless_passed _ (EdgesTooShort made) passed.0)

    edges_long : length (each edge_number (mesh_of s).made) ≡ made
    edges_long = length_each edge_number 1 (mesh_of s).made (λ m. refl) ∙ one-mul made

    pub all_made : c.vertices ≡ made
    all_made = ap (λ (k : Counts). k.vertices) accepted.1

    pub edge_told : (i : ℕ) → i < made → edge_in (left_whole s lent) i ≡ edge_at (mesh_of s).made i
    edge_told i h =
        let at : i ≡ 1 * i + 0 = omega arith in
        ap (edge_in (left_whole s lent)) at
        ∙ laid_at edge_number 1 (λ m. refl) (mesh_of s).made lent.edges (left_whole s lent).edges edges_left_lem i 0 no_vertex 0 h (omega arith)

    marks : (i : ℕ) → i < c.vertices → (edge_in (left_whole s lent) i ≡ no_edge) ↔ (length (regular_mesh s).made ≤ i)
    marks i h = (λ m. go m (dec_lt i (length (regular_mesh s).made)), λ l. edge_told i in_mesh ∙ marked s i l in_mesh)
      where
        in_mesh : i < made
        in_mesh = omega (arith, all_made)

        few : subdivisions s ≤ most_subdivisions
        few = (star_shaped s (Alone.passed s lent.mesh c answered_alike)).few

        go : edge_in (left_whole s lent) i ≡ no_edge → Dec (i < length (regular_mesh s).made) → length (regular_mesh s).made ≤ i
        go m (yes l) = absurd (unmarked s few i l (sym (edge_told i in_mesh) ∙ m))
        go m (no l) = omega arith

    whole_left : WholeIsLeft s lent c
    whole_left =
        record {
          edges = rw (edges_left_lem, accepted.1) (is_laid made _ lent.edges edges_long edges_fit);
          marks = marks;
          answered_alike = answered_alike;
          left_alike = left_alike;
          reads_alike = reads_alike;
        }

pub whole_extraction : WholeExtraction
whole_extraction = record { extraction = extraction; untouched = untouched; no_reads = no_reads; accepted = whole_left }
