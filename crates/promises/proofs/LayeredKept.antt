-- What was promised of extraction with a summary by layer holds: layers' `extract_spared` says that it is extraction of the whole mesh but for the reads, and
-- the model's LayeredReads what these come to.
use Rattle.std.specs.Prelude.{ℕ, ◌+◌, ◌*◌, ◌/◌, ◌≤◌, ◌<◌, ◌≡◌, Bool, true, ◌&&◌, ◌||◌, List, Float, length, drop, Err, Ok}
use Rattle.std.proofs.Common.{arith, ◌∙◌, subst, le-leb}
use Rattle.std.proofs.Math.Path.{refl, sym, ap}
use Rattle.std.proofs.Math.Bool.{not}
use Rattle.std.specs.Int.Count.{ones}
use Rattle.std.proofs.Math.Dec.{leb}
use Rattle.model.specs.declared.Counts.{Counts}
use Rattle.model.specs.declared.Refusal.{Refusal}
use Rattle.model.specs.declared.Refusal.TheVariants.{IndexStoreTooShort, NoRoom, EdgesTooShort, BufferTooShort, LayerDiffers}
use Rattle.model.specs.Answers.{Verdict}
use Rattle.model.specs.Limits.{most_mask, side_count}
use Rattle.model.specs.Star.{Star, subdivisions}
use Rattle.model.specs.Refusals.{unless, or_else}
use Rattle.model.specs.Judging.{judge_lent, judge_star, judge_faces, judge_store, judge_room, judge_buffer}
use Rattle.model.specs.Mesh.{Mesh, store_length, transition_reads, mesh_of}
use Rattle.model.specs.Extraction.{outcome}
use Rattle.model.specs.Edges.{judge_edges, WholeOutcome, judge_whole, edges_left, extract_whole}
use Rattle.model.specs.Layers.{summary_length, layer_extent, entry_of, marked, agree, one_sided, layer_stands, judge_layers, judge_summary}
use Rattle.model.specs.Layered.{layers_over, layered_mesh}
use Rattle.model.specs.LayeredReads.{layers_spared}
use Rattle.model.proofs.LayeredReads.{layered_reads}
use Rattle.judge.specs.First.{or_else_assoc, or_else_passed, both_passed}
use Rattle.judge.specs.Passing.{star_shaped}
use Rattle.layers.specs.Setting.{all_stand}
use Rattle.layers.specs.Over.{Trusted, trusted}
use Rattle.layers.specs.Layered.{spared, layered_same, spared_whole, extract_spared}
use Rattle.promises.specs.Left.{counts}
use Rattle.promises.specs.Orders.{in_order, Numbered, Judged, block_judges}
use Rattle.promises.proofs.Judges.{◌&◌, judged, by_unless, by_first, numbered_append, faces_number, buffer_number, block_numbered}
use Rattle.promises.proofs.Extracted.{mesh_answered}
use Rattle.promises.proofs.Room.{named_most, sides_named}
use Rattle.promises.specs.Reads.{reads_total, most_reads}
use Rattle.promises.proofs.ReadsKept.{mesh_total, mesh_most, came_refused, came_most}
use Rattle.promises.specs.Weld.{LentWhole, whole_outcome}
use Rattle.promises.specs.Layered.{layered_outcome, answered_layered, left_layered, reported_layered, layered_judges, SummaryStands, Alike, LayeredPromises}

module _ (s : Star) (summary : List Float) (lent : LentWhole) where
  abbrev n : ℕ
  n = subdivisions s

  -- 9, 23, 10, and all judges
  abbrev rest : Verdict
  rest =
      or_else (judge_store n (length lent.mesh.store))
      (or_else (judge_edges (counts s).vertices (length lent.edges))
      (judge_room (counts s).vertices (counts s).triangles (length lent.mesh.vertices) (length lent.mesh.triangles)))

  abbrev verdict : Verdict
  verdict = or_else (judge_star s) (or_else (judge_faces s) (or_else (judge_summary n s.centre summary) rest))

  -- what a mesh and a verdict leave
  abbrev came : Mesh → Verdict → WholeOutcome
  came m v =
      record { mesh = outcome m lent.mesh.store lent.mesh.vertices lent.mesh.triangles v; edges = edges_left m lent.edges v }

  abbrev left_of : WholeOutcome → LentWhole
  left_of w = record { mesh = record { store = w.mesh.store; vertices = w.mesh.vertices; triangles = w.mesh.triangles }; edges = w.edges }

  comes : layered_outcome s summary lent ≡ came (spared s summary) verdict
  comes = extract_spared s summary lent.mesh.store lent.mesh.vertices lent.mesh.triangles lent.edges

  -- ---- judged

  in_order_lem : in_order (layered_judges s summary lent) ≡ verdict
  unfolding judge_summary judge_lent judge_star
  in_order_lem = simp (or_else_assoc, or_else_passed)

  numbered : Numbered (layered_judges s summary lent)
  unfolding judge_layers
  numbered =
      let wanted = store_length n in
      let made = (counts s).vertices in
      let room = leb made (length lent.mesh.vertices / 6) && leb (counts s).triangles (length lent.mesh.triangles / 3) in
      numbered_append (block_judges s) (drop 7 (layered_judges s summary lent)) (block_numbered s)
      (faces_number s & buffer_number (summary_length n) (length summary) & by_first 26 _ (λ x. by_unless (layer_stands n s.centre summary x) (LayerDiffers x)) n &
      by_unless (leb wanted (length lent.mesh.store)) (IndexStoreTooShort wanted) &
      by_unless (leb made (length lent.edges)) (EdgesTooShort made) & by_unless room (NoRoom (counts s)) & tt)

  by_verdict : Judged (layered_judges s summary lent) (λ r. (came (spared s summary) verdict).mesh.answer ≡ Err r)
      ((came (spared s summary) verdict).mesh.answer ≡ Ok (counts s))
  unfolding outcome
  by_verdict =
      judged Err (Ok (counts s)) (λ v. (came (spared s summary) v).mesh.answer) refl (λ r. refl) (λ q r e. cc) (λ r e. cc)
      (layered_judges s summary lent) verdict in_order_lem numbered

  extraction : Judged (layered_judges s summary lent) (λ r. answered_layered s summary lent ≡ Err r)
      (answered_layered s summary lent ≡ Ok (counts s))
  extraction =
      subst (λ (w : WholeOutcome). Judged (layered_judges s summary lent) (λ r. w.mesh.answer ≡ Err r) (w.mesh.answer ≡ Ok (counts s)))
      (sym comes) by_verdict

  untouched : (r : Refusal) → answered_layered s summary lent ≡ Err r → left_layered s summary lent ≡ lent
  unfolding outcome edges_left
  untouched r e =
      ap left_of comes ∙ ap (λ (v : Verdict). left_of (came (spared s summary) v)) (sym in_order_lem ∙ (extraction.refused_by_first r).0 e)

  refused : (r : Refusal) → answered_layered s summary lent ≡ Err r → reported_layered s summary lent ≡ 0
  refused r e =
      ap (λ (w : WholeOutcome). w.mesh.reads) comes
      ∙ came_refused (spared s summary) lent.mesh verdict r (sym (ap (λ (w : WholeOutcome). w.mesh.answer) comes) ∙ e)

  -- ---- as without the summary

  same_answer : (v : Verdict) → (came (spared s summary) v).mesh.answer ≡ (came (mesh_of s) v).mesh.answer
  unfolding outcome
  same_answer (Ok _) = refl
  same_answer (Err r) = refl

  same_left : (v : Verdict) → left_of (came (spared s summary) v) ≡ left_of (came (mesh_of s) v)
  unfolding outcome edges_left
  same_left (Ok _) = refl
  same_left (Err r) = refl

  abbrev without : Verdict
  without = judge_whole s (length lent.mesh.store) (length lent.mesh.vertices) (length lent.mesh.triangles) (length lent.edges)

  -- 1 to 8, 14 and 26, and then the rest
  in_parts : or_else (or_else (judge_star s) (or_else (judge_faces s) (judge_summary n s.centre summary))) rest ≡ verdict
  in_parts = rw (or_else_assoc, or_else_assoc)

  module _ (e : SummaryStands s summary) where
    verdict_is : verdict ≡ without
    unfolding judge_whole
    verdict_is = sym in_parts ∙ ap (λ (v : Verdict). or_else v rest) e ∙ or_else_assoc (judge_star s) (judge_faces s) rest

    alike : Alike s summary lent
    unfolding extract_whole
    alike =
        record {
          answer =
              ap (λ (w : WholeOutcome). w.mesh.answer) comes ∙ ap (λ (v : Verdict). (came (spared s summary) v).mesh.answer) verdict_is
              ∙ same_answer without;
          left = ap left_of comes ∙ ap (λ (v : Verdict). left_of (came (spared s summary) v)) verdict_is ∙ same_left without;
        }

  -- ---- the reads

  trust : verdict ≡ Ok tt → Trusted n s.centre summary
  unfolding judge_summary
  trust e =
      let star = both_passed (judge_star s) _ e in
      let told = (both_passed (judge_summary n s.centre summary) rest (both_passed (judge_faces s) _ star.1).1).0 in
      trusted s star.0 summary (both_passed (judge_buffer (summary_length n) (length summary)) (judge_layers n s.centre summary) told).1

  sides : verdict ≡ Ok tt → s.mask ≤ most_mask
  sides e = (star_shaped s (both_passed (judge_star s) _ e).0).sides

  layered_total : verdict ≡ Ok tt
      → (layered_mesh s summary).reads + 8 * (n * n) * layers_over s summary n ≡ reads_total n (ones s.mask) (counts s).vertices
  layered_total e =
      omega (
        arith,
        layered_reads s summary,
        layers_spared s summary n,
        ap length (layered_same s summary (trust e)).made_same,
        named_most s.mask (transition_reads * n * n) side_count,
        ap (λ (k : ℕ). transition_reads * n * n * k) (sides_named s.mask (sides e)),
      )

  reads : (c : Counts) → answered_layered s summary lent ≡ Ok c
      → reported_layered s summary lent + 8 * (n * n) * layers_over s summary n ≡ reads_total n (ones s.mask) c.vertices
  unfolding outcome
  reads c e =
      let accepted = mesh_answered (spared s summary) lent.mesh verdict c (sym (ap (λ (w : WholeOutcome). w.mesh.answer) comes) ∙ e) in
      let reported : reported_layered s summary lent ≡ (layered_mesh s summary).reads =
      ap (λ (w : WholeOutcome). w.mesh.reads) comes ∙ ap (λ (v : Verdict). (came (spared s summary) v).mesh.reads) accepted.0 in
      rw (reported, accepted.1) (layered_total accepted.0)

  most : reported_layered s summary lent ≤ most_reads n (ones s.mask)
  most =
      subst (λ (w : WholeOutcome). w.mesh.reads ≤ most_reads n (ones s.mask)) (sym comes)
      (came_most (spared s summary) lent.mesh verdict _
      (λ e. omega (arith, layered_total e, mesh_total s (sides e), mesh_most s (sides e))))

  -- ---- with all layers marked

  module _ (long : summary_length n ≤ length summary) (all : (x : ℕ) → x < n → marked (entry_of summary x) ≡ true) where
    marked_passed : judge_summary n s.centre summary ≡ Ok tt
    unfolding judge_summary
    marked_passed =
        ap (λ (b : Bool). or_else (unless b (BufferTooShort (summary_length n))) (judge_layers n s.centre summary)) (le-leb _ _ long)
        ∙ all_stand n s.centre summary (λ x h. ap (λ (b : Bool). b || agree (entry_of summary x) (layer_extent n s.centre x)) (all x h))

    marked_stands : SummaryStands s summary
    marked_stands = rw (marked_passed, or_else_passed)

    all_marked : layered_outcome s summary lent ≡ whole_outcome s lent
    unfolding extract_whole
    all_marked =
        comes ∙ ap (came (spared s summary)) (verdict_is marked_stands)
        ∙ ap (λ (m : Mesh). came m without) (spared_whole s summary (λ x h. ap (λ (b : Bool). not b && one_sided s.threshold (entry_of summary x)) (all x h)))

pub layered_kept : LayeredPromises
layered_kept =
    record {
      extraction = extraction;
      untouched = untouched;
      refused = refused;
      alike = alike;
      reads = reads;
      most = most;
      all_marked = all_marked;
    }
