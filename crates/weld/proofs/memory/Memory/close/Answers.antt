-- `Memory::close` meets its contract. The invariant: the vertices before i are welded, whatever the lists were before, and the table has their
-- new indices. Assumes nothing.
use Prim.Native.Nat.{◌+◌, ◌*◌, ◌-◌, ◌≤◌, ◌<◌}
use mathlib.Core.Path.{◌≡◌, refl, ◌∙◌}
use borrow.Author.Rules.{rules}
use native.Mathlib.Omega.{arith}
use lib.ListN.{length, length-set}
use Rattle.weld.specs.Leaves.{Tables}
use Rattle.weld.specs.Closing.{window_none, window_more}
use Rattle.weld.proofs.memory.Memory.close.Given.{Over}
use Rattle.weld.proofs.memory.Memory.close.Goals as goal
use Rattle.weld.proofs.memory.Memory.close.Goals.{In-loop-i}

in_edges : (g : Over) (c : In-loop-i g) → c.loop-i.i < length c.loop-i.edges
in_edges g c = omega (arith, c.loop-i-test.true, c.requires.room.0.in_edges, c.loop-i.invariant.1.0.edges_same)

in_vertices : (g : Over) (c : In-loop-i g) → 6 * (c.loop-i.i + 1) ≤ length c.loop-i.vertices
in_vertices g c = omega (arith, c.loop-i-test.true, c.requires.room.0.in_vertices, c.loop-i.invariant.1.0.vertices_same)

in_table : (g : Over) (c : In-loop-i g) → c.loop-i.i - c.args.start < length c.loop-i.self.table
in_table g c = omega (arith, c.loop-i-test.true, c.requires.room.0.in_table, c.loop-i.invariant.1.0.table_same, c.loop-i.invariant.0.0)

tables : (g : Over) (c : In-loop-i g) → Tables c.loop-i.self.seen c.loop-i.self.hints
tables g c =
    record {
      words = omega (arith, c.requires.room.1.words, c.loop-i.invariant.1.0.seen_same);
      slots = omega (arith, c.requires.room.1.slots, c.loop-i.invariant.1.0.hints_same);
    }

pub loop-i-init : goal.loop-i-init
loop-i-init g c =
    let a = c.args in (
      (omega arith, c.requires.room.0.ordered),
      (
        record { vertices_same = refl; edges_same = refl; seen_same = refl; hints_same = refl; table_same = refl },
        window_none a.start a.first a.vertices.now a.edges.now a.self.now.seen a.self.now.table c.requires.room.0.few c.requires.noted,
      ),
    )

pub place_of-at-requires : goal.place_of-at-requires
place_of-at-requires g c =
    let l = c.loop-i in
    let at = (goal.at.place_of-at-requires g c).In-loop-i in
    (search rules, ((omega (arith, in_edges g at, l.invariant.1.1.within), tables g at), l.invariant.1.1.noted))

pub keep-k-requires : goal.keep-k-requires
keep-k-requires g c =
    let at = (goal.at.keep-k-requires g c).In-loop-i in
    ((c.loop-i.invariant.1.1.within, in_edges g at), (in_vertices g at, (tables g at).words))

pub loop-i-preserved : goal.loop-i-preserved
loop-i-preserved g c =
    let a = c.args in
    let l = c.loop-i in
    let at = (goal.at.loop-i-preserved g c).In-loop-i in
    let as_long = l.invariant.1.0 in (
      (omega (arith, l.invariant.0.0), omega (arith, c.loop-i-test.true)),
      (
        record {
          vertices_same = c.keep-k.auto.vertices ∙ as_long.vertices_same;
          edges_same = c.keep-k.auto.edges ∙ as_long.edges_same;
          seen_same = c.keep-k.auto.seen ∙ as_long.seen_same;
          hints_same = simp length-set as_long.hints_same;
          table_same = simp length-set as_long.table_same;
        },
        window_more a.start l.i a.first l.k c.place_of-at.result a.vertices.now a.edges.now l.vertices l.edges l.self.seen l.self.table
            l.invariant.0.0 (in_edges g at) (in_vertices g at) as_long.edges_same as_long.vertices_same (in_table g at) l.invariant.1.1 c.place_of-at.ensures
            c.keep-k.result c.keep-k.new.vertices c.keep-k.new.edges c.keep-k.new.seen c.keep-k.ensures,
      ),
    )

pub returns : goal.returns
returns g c =
    let l = c.loop-i in
    let all : l.i ≡ c.args.end = omega (arith, l.invariant.0.1) in
    record { window = rw all at l.invariant.1.1; as_long = l.invariant.1.0 }
