-- `fractions::fractions_of` meets its contract. The invariant: the places passed hold their fractions, and the others are as they were.
use Rattle.std.specs.Prelude.{◌+◌, ◌≡◌, List, ◌++◌, Float, drop, take, replicate, slice_set}
use Rattle.std.proofs.Common.{refl, ◌∙◌, ap, arith, append-nil, length-take-le}
use Rattle.std.proofs.lemmas.List.{drop_all}
use lib.Ieee.{binary32, of_bits}
use Rattle.laws.specs.Steps.{listed}
use Rattle.laws.specs.Lists.{listed_more}
use Rattle.points.specs.Fractions.{fraction, all_laid}
use Rattle.points.proofs.Literals.{zero}
use Rattle.points.proofs.fractions.fractions_of.Goals as goal

-- the list as it is made
abbrev made : List Float
made = replicate 65 (of_bits binary32 0)

pub loop-index-preserved : goal.loop-index-preserved
loop-index-preserved c =
    let turn = c.loop-index in
    let n = c.args.n in
    ap (λ (l : List Float). slice_set l turn.index (fraction n turn.index)) turn.invariant
    ∙ listed_more (fraction n) turn.index (take (n + 1) made) c.loop-index-test.true

pub returns : goal.returns
returns c =
    let turn = c.loop-index in
    let n = c.args.n in
    let f = fraction n in
    let part = take (n + 1) made in
    let end : turn.index ≡ n + 1 = omega (arith, c.requires, c.loop-index-test.false, length-take-le (n + 1) made (omega (arith, c.requires))) in
    record {
      some = c.requires.0;
      few = c.requires.1;
      are =
          ap (λ (l : List Float). l ++ drop (n + 1) made) (turn.invariant ∙ ap (λ (l : List Float). listed f turn.index ++ l) (drop_all turn.index part c.loop-index-test.false))
          ∙ rw (append-nil, end, zero) (all_laid n (n + 1) refl);
    }
