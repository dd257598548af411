-- What the definition says of each answer: a refusal with every place as it was, or the mesh in the first places.
use Rattle.std.specs.Prelude.{Option, Some, None, Ok, Err}
use Rattle.std.specs.Option.{unwrap_or}
use Rattle.std.proofs.Common.{Bor}
use Prim.Native.Nat.{ℕ, ◌*◌, ◌/◌, ◌≤◌}
use native.Mathlib.Omega.{arith}
use mathlib.Core.Path.{◌≡◌, refl, sym, ap, ◌∙◌, subst}
use mathlib.Core.Bool.{Bool, true, false, cond, and-eq-true_iff}
use mathlib.Core.List.{List, [], ◌++◌}
use borrow.Author.Tests.{leb-true}
use Rattle.std.proofs.Math.Dec.{leb-zero}
use lib.Dec.{leb}
use lib.Ieee.{Float}
use lib.ListN.{length, take, drop}
use lib.Seq.{take_all, length-take-le}
use Rattle.model.specs.declared.Counts.{Counts}
use Rattle.model.specs.declared.Refusal.{Refusal}
use Rattle.model.specs.declared.Refusal.TheVariants.{IndexStoreTooShort, NoRoom, EdgesTooShort}
use Rattle.model.specs.Answers.{Verdict}
use Rattle.model.specs.declared.Report.{Report}
use Rattle.laws.specs.Steps.{each}
use Rattle.laws.specs.Lists.{length_each}
use Rattle.laws.specs.Laying.{length_lay, lay_all}
use Rattle.model.specs.Refusals.{or_else}
use Rattle.model.specs.Judging.{judge_faces, judge_store, judge_room, judge_buffer, judge_star}
use Rattle.model.specs.Star.{Star, subdivisions}
use Rattle.model.specs.Mesh.{mesh_of, store_length}
use Rattle.model.specs.Extraction.{Outcome, outcome}
use Rattle.model.specs.Edges.{edge_number, judge_edges, WholeOutcome, edges_left}
use Rattle.model.specs.Layers.{summary_length, judge_layers, judge_summary}
use Rattle.model.specs.Layered.{layered_mesh, extract_layered}
use Rattle.grid.specs.Shape.{Shaped}
use Rattle.cells.specs.Puts.{Few}
use Rattle.judge.specs.First.{or_else_assoc, both_passed, unless_passed}
use Rattle.judge.specs.Passing.{star_shaped}
use Rattle.layers.specs.Over.{summary_judged, no_summary, Trusted, trusted}
use Rattle.layers.specs.Layered.{spared, extract_spared}
use Rattle.counting.specs.Counting.{most_cells, Counted}
use Rattle.writing.specs.Writing.{Exact, Numbered, Written}
use Rattle.algorithm.specs.Verdicts.{told_of, judged, edges_judged, room_judged, numbers_left, all_judged, refused_report, Leaves}

-- the contract's five claims
pub told : {o : Outcome} {report : Report} {store : List ℕ} {vertices : List Float} {triangles : List ℕ}
    → Leaves o report store vertices triangles
    → (report.answer ≡ o.answer) × ((store ≡ o.store) × ((vertices ≡ o.vertices) × ((triangles ≡ o.triangles) × (report.reads ≡ o.reads))))
told l = (l.answer_is, (l.store_is, (l.vertices_are, (l.triangles_are, l.reads_are))))

-- and the further list
abbrev ToldWhole : WholeOutcome → Report → List ℕ → List Float → List ℕ → List ℕ → Type 0
ToldWhole o report store vertices triangles edges =
    (report.answer ≡ o.mesh.answer)
    × ((store ≡ o.mesh.store)
    × ((vertices ≡ o.mesh.vertices) × ((triangles ≡ o.mesh.triangles) × ((report.reads ≡ o.mesh.reads) × (edges ≡ o.edges)))))

pub told_whole : {o : Outcome} {report : Report} {store : List ℕ} {vertices : List Float} {triangles edges edges' : List ℕ}
    → Leaves o report store vertices triangles → edges ≡ edges' → ToldWhole (record { mesh = o; edges = edges' }) report store vertices triangles edges
told_whole l e = (l.answer_is, (l.store_is, (l.vertices_are, (l.triangles_are, (l.reads_are, e)))))

-- with no summary, extraction without one
pub none_told : (numbered : Bool) (s : Star) (heldStore heldVertices heldTriangles heldEdges : ℕ)
    → all_judged false numbered s [] heldStore heldVertices heldTriangles heldEdges
    ≡ or_else (judge_star s)
    (or_else (judge_faces s) (or_else (judge_store (subdivisions s) heldStore) (room_judged numbered s heldVertices heldTriangles heldEdges)))
none_told numbered s heldStore heldVertices heldTriangles heldEdges = rw (no_summary (subdivisions s) s.centre)

-- what 1 to 9, with 24 and 26, have shown
module _ (layered : Bool) (s : Star) (summary : List Float) (held : ℕ) (e : judged layered s summary held ≡ Ok tt) where
  star_passed : judge_star s ≡ Ok tt
  star_passed = (both_passed (judge_star s) _ e).0

  after_faces : or_else (summary_judged layered (subdivisions s) s.centre summary) (judge_store (subdivisions s) held) ≡ Ok tt
  after_faces = (both_passed (judge_faces s) _ (both_passed (judge_star s) _ e).1).1

  pub shaped : Shaped s
  shaped = star_shaped s star_passed

  pub trusted_there : Trusted (subdivisions s) s.centre summary
  trusted_there =
      let told = (both_passed (summary_judged layered (subdivisions s) s.centre summary) (judge_store (subdivisions s) held) after_faces).0 in
      trusted s star_passed summary (both_passed (cond layered (judge_buffer (summary_length (subdivisions s)) (length summary)) (Ok tt)) (judge_layers (subdivisions s) s.centre summary) told).1

  pub store_held : store_length (subdivisions s) ≤ held
  store_held =
      leb-true _ _ (unless_passed _ (IndexStoreTooShort _) (both_passed (summary_judged layered (subdivisions s) s.centre summary) _ after_faces).1)

-- ---- the further list

same_either : (numbered : Bool) (edges : List ℕ) → edges ≡ cond numbered edges edges
same_either true edges = refl
same_either false edges = refl

-- a list that is not asked for has no places, which always fit
pub edges_asked : (numbered : Bool) (wanted held : ℕ) → judge_edges (cond numbered wanted 0) held ≡ edges_judged numbered wanted held
edges_asked true wanted held = refl
edges_asked false wanted held = rw (leb-zero held)

-- the places asked for are there
pub numbers_there : (numbered : Bool) (wanted held : ℕ) → edges_judged numbered wanted held ≡ Ok tt → cond numbered wanted 0 ≤ held
numbers_there true wanted held e = leb-true _ _ (unless_passed _ (EdgesTooShort _) e)
numbers_there false wanted held e = omega arith

-- they were written, and all beyond stays
numbers_done : (numbered : Bool) (s : Star) (edges es : List ℕ) (count : ℕ) → count ≡ length (mesh_of s).made → length es ≡ cond numbered count 0
    → Numbered (mesh_of s) es → es ++ drop (cond numbered count 0) edges ≡ numbers_left numbered s edges (Ok tt)
unfolding edges_left
numbers_done true s edges es count e long n =
    let made = (mesh_of s).made in
    let before : length n.before ≡ length es = sym (ap length n.edges_are ∙ length_lay 1 edge_number n.before 0 made) in
    let all : es ≡ each edge_number made = n.edges_are ∙ lay_all 1 edge_number (λ t. refl) n.before made (omega arith) in
    let wide : length (each edge_number made) ≡ 1 * length made = length_each edge_number 1 made (λ t. refl) in
    let places : count ≡ length (each edge_number made) = omega arith in
    rw (all, places)
numbers_done false s edges es count e long n = ap (λ (l : List ℕ). l ++ edges) (sym (take_all 0 es (omega arith)))

-- what a summary tells, or that there is none
pub told_unwrapped : (summary : Option (Bor (List Float))) (none : Bor (List Float)) → none.now ≡ [] → (unwrap_or summary none).now ≡ told_of summary
told_unwrapped (Some summary) none e = refl
told_unwrapped None none e = e

-- ---- the answers

-- what is lent, and whether the further list is asked for
pub record Call : Type 0 where
  pub numbered : Bool
  pub s : Star
  pub summary : List Float
  pub store : List ℕ
  pub vertices : List Float
  pub triangles : List ℕ
  pub edges : List ℕ

abbrev pub call_of : Bool → Star → List Float → List ℕ → List Float → List ℕ → List ℕ → Call
call_of numbered s summary store vertices triangles edges =
    record { numbered = numbered; s = s; summary = summary; store = store; vertices = vertices; triangles = triangles; edges = edges }

module _ (l : Call) where
  abbrev room : Verdict
  room = room_judged l.numbered l.s (length l.vertices) (length l.triangles) (length l.edges)

  -- what a verdict leaves of the three buffers and of the further list
  abbrev pub Answered : Verdict → Report → List ℕ → List Float → List ℕ → List ℕ → Type 0
  Answered v report store' vertices' triangles' edges' =
      Leaves (outcome (spared l.s l.summary) l.store l.vertices l.triangles v) report store' vertices' triangles'
      × (edges' ≡ numbers_left l.numbered l.s l.edges v)

  -- every place is as it was
  abbrev pub Untouched : Verdict → Refusal → Type 0
  Untouched v r = Answered v (refused_report r) l.store l.vertices l.triangles l.edges

  none : (v : Verdict) (r : Refusal) → v ≡ Err r → Untouched v r
  unfolding outcome edges_left
  none v r e =
      rw e (record { answer_is = refl; reads_are = refl; store_is = refl; vertices_are = refl; triangles_are = refl }, same_either l.numbered l.edges)

  -- ---- 1 to 9

  module _ (layered : Bool) where
    abbrev early : Verdict
    early = judged layered l.s l.summary (length l.store)

    abbrev all : Verdict
    all = all_judged layered l.numbered l.s l.summary (length l.store) (length l.vertices) (length l.triangles) (length l.edges)

    in_order : all ≡ or_else early room
    in_order =
        let told = summary_judged layered (subdivisions l.s) l.s.centre l.summary in
        let stored = judge_store (subdivisions l.s) (length l.store) in
        sym
        (or_else_assoc (judge_star l.s) (or_else (judge_faces l.s) (or_else told stored)) room
        ∙ ap (or_else (judge_star l.s)) (or_else_assoc (judge_faces l.s) (or_else told stored) room ∙ ap (or_else (judge_faces l.s)) (or_else_assoc told stored room)))

    pub refused : (r : Refusal) → early ≡ Err r → Untouched all r
    refused r e = none all r (in_order ∙ rw e)

    pub passed : early ≡ Ok tt → all ≡ room
    passed e = in_order ∙ rw e

  -- ---- 23 and 10, by the counts

  abbrev pub list_judged : Counts → Verdict
  list_judged counts = edges_judged l.numbered counts.vertices (length l.edges)

  abbrev pub by_counts : Counts → Verdict
  by_counts counts = judge_room counts.vertices counts.triangles (length l.vertices) (length l.triangles)

  room_first : {counts : Counts} → Counted (mesh_of l.s) counts → room ≡ or_else (list_judged counts) (by_counts counts)
  room_first counts_are = rw (← counts_are.vertices_are, ← counts_are.triangles_are)

  pub no_list : {counts : Counts} → Counted (mesh_of l.s) counts → {w : Verdict} → w ≡ list_judged counts → (r : Refusal) → w ≡ Err r → Untouched room r
  no_list {counts} counts_are w-is r e = none room r (room_first counts_are ∙ ap (λ (x : Verdict). or_else x (by_counts counts)) (sym w-is ∙ e))

-- the counts are the mesh's, the further list is long enough, and so the room is judged
pub record Roomed (l : Call) (counts : Counts) (v : Verdict) : Type 0 where
  pub counts_are : Counted (mesh_of l.s) counts
  pub listed : list_judged l counts ≡ Ok tt
  pub room_is : v ≡ by_counts l counts

module _ {l : Call} {counts : Counts} {v : Verdict} (h : Roomed l counts v) where
  judged_so : room l ≡ v
  judged_so = room_first l h.counts_are ∙ ap (λ (x : Verdict). or_else x (by_counts l counts)) h.listed ∙ sym h.room_is

  pub no_room : (r : Refusal) → v ≡ Err r → Untouched l (room l) r
  no_room r e = none l (room l) r (judged_so ∙ e)

  pub has_room : v ≡ Ok tt → (6 * counts.vertices ≤ length l.vertices) × (3 * counts.triangles ≤ length l.triangles)
  has_room e =
      let both = (and-eq-true_iff (leb counts.vertices (length l.vertices / 6)) (leb counts.triangles (length l.triangles / 3))).0
      (unless_passed _ (NoRoom _) (sym h.room_is ∙ e)) in
      let a : counts.vertices ≤ length l.vertices / 6 = leb-true _ _ both.0 in
      let b : counts.triangles ≤ length l.triangles / 3 = leb-true _ _ both.1 in
      (omega arith, omega arith)

  module _ (e : v ≡ Ok tt) (places : ℕ) (places_are : places ≡ store_length (subdivisions l.s)) where
    -- the first places are just enough
    pub parts : Few most_cells counts → store_length (subdivisions l.s) ≤ length l.store
        → Exact l.s (take (6 * counts.vertices) l.vertices) (take (3 * counts.triangles) l.triangles) (take places l.store)
    parts few held =
        let v_length : length (take (6 * counts.vertices) l.vertices) ≡ 6 * counts.vertices = length-take-le _ l.vertices (has_room e).0 in
        let t_length : length (take (3 * counts.triangles) l.triangles) ≡ 3 * counts.triangles = length-take-le _ l.triangles (has_room e).1 in
        record {
          fits =
              record {
                vertices_fit = record { room = omega arith; short = omega (arith, few.vertices) };
                triangles_fit = record { room = omega arith; short = omega (arith, few.triangles) };
                store_fits = length-take-le places l.store (omega arith) ∙ places_are;
              };
          vertices_fill = omega arith;
          triangles_fill = omega arith;
        }

    -- they were written, and all beyond stays
    pub done : (st : List ℕ) (vs : List Float) (ts es : List ℕ) (reads : ℕ) → Exact l.s vs ts st → Written (mesh_of l.s) vs ts st
        → reads ≡ (layered_mesh l.s l.summary).reads → length es ≡ cond l.numbered counts.vertices 0 → Numbered (mesh_of l.s) es
        → Answered l (room l) (record { answer = Ok counts; reads = reads }) (st ++ drop places l.store)
        (vs ++ drop (6 * counts.vertices) l.vertices) (ts ++ drop (3 * counts.triangles) l.triangles)
        (es ++ drop (cond l.numbered counts.vertices 0) l.edges)
    unfolding outcome
    done st vs ts es reads exact w reads_are es-long es-are =
        let ev = h.counts_are.vertices_are in
        let et = h.counts_are.triangles_are in
        rw (judged_so ∙ e) (
          rw (
            ← w.vertices_are,
            ← w.triangles_are,
            ← w.store_is,
            exact.vertices_fill,
            exact.triangles_fill,
            exact.fits.store_fits,
          )
              (record { answer_is = rw (← ev, ← et); reads_are = reads_are; store_is = rw places_are; vertices_are = rw ev; triangles_are = rw et }),
          numbers_done l.numbered l.s l.edges es counts.vertices ev es-long es-are,
        )

-- ---- with a summary and the further list

module _ (s : Star) (summary : List Float) (store : List ℕ) (vertices : List Float) (triangles edges : List ℕ) where
  abbrev all_asked : Verdict
  all_asked = all_judged true true s summary (length store) (length vertices) (length triangles) (length edges)

  -- the further list does not tell the reads
  same_edges : (v : Verdict) → edges_left (spared s summary) edges v ≡ edges_left (mesh_of s) edges v
  unfolding edges_left
  same_edges (Ok _) = refl
  same_edges (Err r) = refl

  layered_left : extract_layered s summary store vertices triangles edges
      ≡ record { mesh = outcome (spared s summary) store vertices triangles all_asked; edges = edges_left (mesh_of s) edges all_asked }
  unfolding judge_summary
  layered_left =
      extract_spared s summary store vertices triangles edges
      ∙ (λ i. record { mesh = outcome (spared s summary) store vertices triangles all_asked; edges = same_edges all_asked i })

  pub told_layered : (report : Report) (store' : List ℕ) (vertices' : List Float) (triangles' edges' : List ℕ)
      → Leaves (outcome (spared s summary) store vertices triangles all_asked) report store' vertices' triangles' → edges' ≡ numbers_left true s edges all_asked
      → ToldWhole (extract_layered s summary store vertices triangles edges) report store' vertices' triangles' edges'
  told_layered report store' vertices' triangles' edges' l e =
      subst (λ (o : WholeOutcome). ToldWhole o report store' vertices' triangles' edges') (sym layered_left) (told_whole l e)
