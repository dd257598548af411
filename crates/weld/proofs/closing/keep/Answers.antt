-- `closing::keep` meets its contract: a vertex that has a place leaves all as it was, and a new one is put at k and noted. Assumes nothing.
use native.Mathlib.Omega.{arith}
use borrow.Author.Tests.{lt-ltb, le-ltb}
use Rattle.weld.specs.Seen.{noted_more}
use Rattle.weld.proofs.closing.keep.Goals as goal

pub returns-then-at-k : goal.returns-then-at-k
returns-then-at-k c =
    let a = c.args in
    let old = lt-ltb a.at a.k c.if-at-k.true in
    record { count_is = rw old; edges_are = rw old; vertices_are = rw old; noted = λ h. h }

pub returns : goal.returns
returns c =
    let a = c.args in
    let f = le-ltb a.at a.k c.if-at-k.false in
    record {
      count_is = rw f;
      edges_are = rw f;
      vertices_are = rw f c.move_down.ensures;
      noted = noted_more a.seen.now c.note.new.seen a.edges.now a.k a.number (omega arith) c.note.ensures;
    }
