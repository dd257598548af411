-- `line_at` meets its contract: what is left is cut before or after its length field, or begins with a whole record.
use Prim.Native.Nat.{ℕ, ◌+◌, ◌-◌}
use mathlib.Core.Path.{◌≡◌, ap, ap₂, ◌∙◌}
use mathlib.Core.List.{List}
use native.Mathlib.Omega.{arith}
use lib.ListN.{length, take, drop, length-drop}
use lib.Seq.{take_all}
use Rattle.model.specs.Words.{word_at}
use Rattle.sheet.specs.Definition.{line_of}
use Rattle.sheet.specs.Runs.{whole_answer, cut_answer, cut_before, cut_within, is_whole_lem}
use Rattle.sheet.proofs.line_at.Goals as goal
use Rattle.sheet.proofs.line_at.Goals.{After-word_at, Start}

rest-is : (run : List ℕ) (at : ℕ) → take (length run - at) (drop at run) ≡ drop at run
rest-is run at = take_all (length run - at) (drop at run) (omega (arith, length-drop at run))

rest-long : (e : Start) → length e.args.run.now ≡ e.args.at + length (drop e.args.at e.args.run.now)
rest-long e = omega (arith, length-drop e.args.at e.args.run.now, e.requires.0)

word-is : (c : After-word_at) → c.word_at.result ≡ word_at (drop c.args.at c.args.run.now) 0
word-is c = c.word_at.ensures ∙ ap (λ (l : List ℕ). word_at l 0) (rest-is c.args.run.now c.args.at)

pub returns-then-rest-lt4 : goal.returns-then-rest-lt4
returns-then-rest-lt4 c =
    let rest = drop c.args.at c.args.run.now in
    let cut = cut_answer rest (cut_before rest (omega (arith, c.if-rest-lt4.true, ap length (rest-is c.args.run.now c.args.at)))) in
    (tt, (cut.0, omega (arith, cut.1, rest-long (goal.at.returns-then-rest-lt4 c).Start)))

pub returns-then-rest-size : goal.returns-then-rest-size
returns-then-rest-size c =
    let rest = drop c.args.at c.args.run.now in
    let cut = cut_answer rest (cut_within rest (omega (arith, c.if-rest-size.true, ap length (rest-is c.args.run.now c.args.at), word-is (goal.at.returns-then-rest-size c).After-word_at))) in
    (tt, (cut.0, omega (arith, cut.1, rest-long (goal.at.returns-then-rest-size c).Start)))

pub returns : goal.returns
returns c =
    let rest = drop c.args.at c.args.run.now in
    let all = is_whole_lem rest (omega (arith, c.if-rest-lt4.false, ap length (rest-is c.args.run.now c.args.at)))
    (omega (arith, c.if-rest-size.false, ap length (rest-is c.args.run.now c.args.at), word-is (goal.at.returns c).After-word_at)) in
    let whole = whole_answer rest all in
    let found = c.line_of.ensures in (
      found.0,
      (
        found.1 ∙ ap₂ (λ (k : ℕ) (l : List ℕ). line_of (take k l)) (ap (λ (w : ℕ). 4 + w) (word-is (goal.at.returns c).After-word_at)) (rest-is c.args.run.now c.args.at) ∙ whole.0,
        omega (arith, whole.1, word-is (goal.at.returns c).After-word_at),
      ),
    )
