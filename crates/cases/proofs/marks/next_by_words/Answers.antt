-- `marks::next_by_words` meets its contract. The loop's invariant: no place up to this one is marked.
use native.Mathlib.Omega.{arith}
use Prim.Native.Nat.{ℕ, ◌+◌, ◌<◌}
use lib.ListN.{get_or}
use Rattle.cases.proofs.Marking.{more_unmarked, bytes_clear, word_clear}
use Rattle.cases.proofs.marks.next_by_words.Goals as goal

pub loop-k-init : goal.loop-k-init
loop-k-init c = ((omega arith, omega arith), λ j l h. absurd (let x : ⊥ = omega arith in x))

pub returns-then-word-ne0 : goal.returns-then-word-ne0
returns-then-word-ne0 c =
    let l = c.loop-k in
    let a = c.args in
    let bytes : (k : ℕ) → get_or a.marks.now k 0 < 256 = λ k. omega (arith, c.type_inv.marks k) in
    let none = more_unmarked a.marks.now a.start a.from l.k _ l.invariant.1
    (bytes_clear a.marks.now bytes (a.start + l.k) _ c.clear_bytes.ensures.0 (rw c.eight_at-word.ensures at c.clear_bytes.ensures.1)) in
    ((omega (arith, c.min.ensures), omega (arith, c.min.ensures)), λ j low high. none j low (omega (arith, c.min.ensures)))

pub loop-k-preserved : goal.loop-k-preserved
loop-k-preserved c =
    let l = c.loop-k in
    let a = c.args in
    let bytes : (k : ℕ) → get_or a.marks.now k 0 < 256 = λ k. omega (arith, c.type_inv.marks k) in (
      (omega arith, omega arith),
      more_unmarked a.marks.now a.start a.from l.k 8 l.invariant.1
          (word_clear a.marks.now bytes (a.start + l.k) (rw c.eight_at-word.ensures at c.if-word-ne0.false)),
    )

pub returns : goal.returns
returns c = ((omega arith, omega arith), λ j low high. c.loop-k.invariant.1 j low (omega arith))
