-- `fill` meets its contract: the counts are the mesh's, so 23 and 10 are answered by them, and the parts that are lent are just as long as what is
-- written.
use Rattle.std.specs.Prelude.{◌≡◌, refl, ℕ, ◌*◌, ◌≤◌, Bool, cond, length, drop, ◌++◌, Ok}
use Rattle.std.proofs.Common.{arith, sym, ap, ◌∙◌, length-take-le}
use Rattle.laws.specs.Exits.{handed_on}
use Rattle.model.specs.declared.Counts.{Counts}
use Rattle.model.specs.Answers.{Verdict}
use Rattle.model.specs.Star.{lent_star}
use Rattle.writing.specs.Lengths.{exact_still}
use Rattle.model.specs.Edges.{judge_edges}
use Rattle.algorithm.specs.Verdicts.{edges_judged, room_judged}
use Rattle.algorithm.proofs.Answers.{Call, call_of, Roomed, edges_asked, no_list, no_room, numbers_there, parts, done, Answered}
use Rattle.algorithm.proofs.fill.Goals as goal
use Rattle.algorithm.proofs.fill.Goals.{After-judge_room, After-write_parts-reads, Start}

abbrev call : Start → Call
call c = call_of c.args.numbered (lent_star c.args.lent.now) c.args.summary.now c.args.store.now c.args.vertices.now c.args.triangles.now c.args.edges.now

-- what is judged of the further list
list_is : (numbered : Bool) (wanted held : ℕ) {asked : ℕ} {v : Verdict} → asked ≡ cond numbered wanted 0 → v ≡ judge_edges asked held → v ≡ edges_judged numbered wanted held
list_is numbered wanted held count_is e = e ∙ ap (λ (asked : ℕ). judge_edges asked held) count_is ∙ edges_asked numbered wanted held

-- what the judges have told where the room is judged: the further list is long enough
roomed : (c : After-judge_room) → Roomed (call_of c.args.numbered (lent_star c.args.lent.now) c.args.summary.now c.args.store.now c.args.vertices.now c.args.triangles.now c.args.edges.now) c.count_mesh-counts.result c.judge_room.result
roomed c =
    record {
      counts_are = c.count_mesh-counts.ensures.1;
      listed = sym (list_is _ _ _ c.numbers_asked-numbers.ensures c.judge_edges.ensures) ∙ c.in_ok-judge_edges.was;
      room_is = c.judge_room.ensures;
    }

-- so the list has the places that are written
numbers_long : {l : Call} {counts : Counts} {v : Verdict} → Roomed l counts v → {asked : ℕ} → asked ≡ cond l.numbered counts.vertices 0
    → asked ≤ length l.edges
numbers_long {l = l} told e = omega (arith, e, numbers_there l.numbered _ _ told.listed)

pub returns-in_err-judge_edges-clause-leaves : goal.returns-in_err-judge_edges-clause-leaves
returns-in_err-judge_edges-clause-leaves c =
    rw (handed_on _ _ c.from_residual.ensures.1)
    (no_list (call (goal.at.returns-in_err-judge_edges-clause-leaves c).Start) c.count_mesh-counts.ensures.1 (list_is _ _ _ c.numbers_asked-numbers.ensures c.judge_edges.ensures) _ c.in_err-judge_edges.was).0

pub returns-in_err-judge_edges-clause-edges : goal.returns-in_err-judge_edges-clause-edges
returns-in_err-judge_edges-clause-edges c =
    (no_list (call (goal.at.returns-in_err-judge_edges-clause-edges c).Start) c.count_mesh-counts.ensures.1 (list_is _ _ _ c.numbers_asked-numbers.ensures c.judge_edges.ensures) _ c.in_err-judge_edges.was).1

pub returns-in_err-judge_room-clause-leaves : goal.returns-in_err-judge_room-clause-leaves
returns-in_err-judge_room-clause-leaves c =
    rw (handed_on _ _ c.from_residual-in_err-judge_room.ensures.1)
    (no_room (roomed (goal.at.returns-in_err-judge_room-clause-leaves c).After-judge_room) _ c.in_err-judge_room.was).0

pub returns-in_err-judge_room-clause-edges : goal.returns-in_err-judge_room-clause-edges
returns-in_err-judge_room-clause-edges c =
    (no_room (roomed (goal.at.returns-in_err-judge_room-clause-edges c).After-judge_room) _ c.in_err-judge_room.was).1

-- the mesh was written into the parts, and all beyond stays
left : (c : After-write_parts-reads)
    → Answered (call_of c.args.numbered (lent_star c.args.lent.now) c.args.summary.now c.args.store.now c.args.vertices.now c.args.triangles.now c.args.edges.now)
    (room_judged c.args.numbered (lent_star c.args.lent.now) (length c.args.vertices.now) (length c.args.triangles.now) (length c.args.edges.now))
    (record { answer = Ok c.count_mesh-counts.result; reads = c.write_parts-reads.result })
    (c.write_parts-reads.new.store ++ drop c.store_length-places.result c.args.store.now)
    (c.write_parts-reads.new.vertices ++ drop (6 * c.count_mesh-counts.result.vertices) c.args.vertices.now)
    (c.write_parts-reads.new.triangles ++ drop (3 * c.count_mesh-counts.result.triangles) c.args.triangles.now)
    (c.write_parts-reads.new.edges ++ drop c.numbers_asked-numbers.result c.args.edges.now)
left c =
    let told = roomed (goal.at.After-write_parts-reads c).After-judge_room in
    let passed = c.in_ok-judge_room.was in
    let places = c.store_length-places in
    let w = c.write_parts-reads in
    let count_is = c.numbers_asked-numbers.ensures in
    rw count_is
    (done told passed places.result places.ensures _ _ _ _ _
    (exact_still {edges₀ = c.args.edges.now} {edges = c.args.edges.now}
    (record { vertices_same = w.auto.vertices; triangles_same = w.auto.triangles; store_same = w.auto.store; edges_same = refl })
    (parts told passed places.result places.ensures c.count_mesh-counts.ensures.0 c.requires.stored))
    w.ensures.written w.ensures.reads
    (w.auto.edges ∙ length-take-le _ _ (numbers_long told count_is) ∙ count_is)
    w.ensures.edges)

pub returns-clause-leaves : goal.returns-clause-leaves
returns-clause-leaves c = (left (goal.at.returns-clause-leaves c).After-write_parts-reads).0

pub returns-clause-edges : goal.returns-clause-edges
returns-clause-edges c = (left (goal.at.returns-clause-edges c).After-write_parts-reads).1
