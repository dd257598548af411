-- What the buyer was promised of extraction with a summary by layer (document 02, [12]), for every input: in which order it is judged, that it answers and
-- leaves the same as without the summary, and that it reads the less by just the cells passed over. It speaks of the model's `extract_layered`, to which the
-- `ensures` of the call says that the code is equal. Definitions only.
use Rattle.std.specs.Prelude.{ℕ, ◌+◌, ◌*◌, ◌≤◌, ◌<◌, ◌≡◌, true, List, [], ◌∷◌, ◌++◌, Float, length, Err, Ok}
use Rattle.std.specs.Int.Count.{ones}
use Rattle.model.specs.declared.Counts.{Counts}
use Rattle.model.specs.declared.Refusal.{Refusal}
use Rattle.model.specs.Answers.{Extraction}
use Rattle.model.specs.Star.{Star, subdivisions}
use Rattle.model.specs.Refusals.{or_else}
use Rattle.model.specs.Judging.{judge_star, judge_faces, judge_store, judge_room, judge_buffer}
use Rattle.model.specs.Edges.{judge_edges, WholeOutcome}
use Rattle.model.specs.Layers.{summary_length, entry_of, marked, judge_layers, judge_summary}
use Rattle.model.specs.Layered.{layers_over, extract_layered}
use Rattle.promises.specs.Left.{counts}
use Rattle.promises.specs.Orders.{Judge, judge, Judged, block_judges}
use Rattle.promises.specs.Weld.{LentWhole, whole_outcome, answered_whole, left_whole}
use Rattle.promises.specs.Reads.{reads_total, most_reads}

-- the summary is not refused: 14 and 26 let it pass, or are not asked, since one of 1 to 8 has refused the block
abbrev pub SummaryStands : Star → List Float → Type 0
SummaryStands s summary =
    or_else (judge_star s) (or_else (judge_faces s) (judge_summary (subdivisions s) s.centre summary)) ≡ or_else (judge_star s) (judge_faces s)

module _ (s : Star) (summary : List Float) (lent : LentWhole) where
  abbrev pub layered_outcome : WholeOutcome
  layered_outcome = extract_layered s summary lent.mesh.store lent.mesh.vertices lent.mesh.triangles lent.edges

  -- what it answers, what it leaves in the lists, and the reads that it reports
  abbrev pub answered_layered : Extraction
  answered_layered = layered_outcome.mesh.answer

  abbrev pub left_layered : LentWhole
  left_layered =
      let o = layered_outcome.mesh in
      record { mesh = record { store = o.store; vertices = o.vertices; triangles = o.triangles }; edges = layered_outcome.edges }

  abbrev pub reported_layered : ℕ
  reported_layered = layered_outcome.mesh.reads

  -- 1 to 8, 14, 26, 9, 23, 10
  abbrev pub layered_judges : List Judge
  layered_judges =
      block_judges s ++
      judge 8 (judge_faces s) ∷
      judge 14 (judge_buffer (summary_length (subdivisions s)) (length summary)) ∷
      judge 26 (judge_layers (subdivisions s) s.centre summary) ∷
      judge 9 (judge_store (subdivisions s) (length lent.mesh.store)) ∷
      judge 23 (judge_edges (counts s).vertices (length lent.edges)) ∷
      judge 10 (judge_room (counts s).vertices (counts s).triangles (length lent.mesh.vertices) (length lent.mesh.triangles)) ∷
      []

  -- the same answer and the same in every list, index store included, as without the summary
  pub record Alike : Type 0 where
    pub answer : answered_layered ≡ answered_whole s lent
    pub left : left_layered ≡ left_whole s lent

pub record LayeredPromises : Type 0 where
  -- it is refused exactly as the first of 1 to 8, 14, 26, 9, 23, 10 says, and otherwise accepted with the counts of the definition's mesh
  pub extraction : (s : Star) (summary : List Float) (lent : LentWhole)
      → Judged (layered_judges s summary lent) (λ r. answered_layered s summary lent ≡ Err r)
      (answered_layered s summary lent ≡ Ok (counts s))
  -- refused, it leaves every list as it was and reports no read
  pub untouched : (s : Star) (summary : List Float) (lent : LentWhole) (r : Refusal) → answered_layered s summary lent ≡ Err r
      → left_layered s summary lent ≡ lent
  pub refused : (s : Star) (summary : List Float) (lent : LentWhole) (r : Refusal) → answered_layered s summary lent ≡ Err r
      → reported_layered s summary lent ≡ 0
  -- of every block, with every summary that is not refused
  pub alike : (s : Star) (summary : List Float) (lent : LentWhole) → SummaryStands s summary → Alike s summary lent
  -- accepted, it reports 8 n^3 + 9 s n^2 + 14 V less 8 n^2 for each layer passed over
  pub reads : (s : Star) (summary : List Float) (lent : LentWhole) (c : Counts) → answered_layered s summary lent ≡ Ok c
      → let n = subdivisions s in
      reported_layered s summary lent + 8 * (n * n) * layers_over s summary n ≡ reads_total n (ones s.mask) c.vertices
  -- and whatever it answers, the report is within [7]'s bound
  pub most : (s : Star) (summary : List Float) (lent : LentWhole) → reported_layered s summary lent ≤ most_reads (subdivisions s) (ones s.mask)
  -- with all layers marked it is extraction without a summary, reads included
  pub all_marked : (s : Star) (summary : List Float) (lent : LentWhole) → summary_length (subdivisions s) ≤ length summary
      → ((x : ℕ) → x < subdivisions s → marked (entry_of summary x) ≡ true) → layered_outcome s summary lent ≡ whole_outcome s lent
