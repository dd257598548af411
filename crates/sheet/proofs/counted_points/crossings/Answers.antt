-- `counted_points::crossings` meets its contract. The loop's invariant: what is found is the sum over the edges passed.
use Rattle.std.specs.Prelude.{ℕ, suc, ◌≡◌, ◌+◌, [], ◌∷◌, ◌++◌, length, get_or}
use Rattle.std.specs.Float.{nan}
use Rattle.std.proofs.Common.{rules, arith, sym, ap, ap₂, ◌∙◌, zero-add, length-append}
use Rattle.std.proofs.lemmas.Slice.Zip.{zip_turn}
use Rattle.sheet.specs.Planes.{crossing_bit}
use Rattle.sheet.proofs.counted_points.crossings.Goals as goal

pub loop-from-preserved : goal.loop-from-preserved
loop-from-preserved c =
    let a = c.args.a.now in
    let b = c.args.b.now in
    let n = length c.loop-from.yielded in
    let pair =
    zip_turn a b c.loop-from.yielded c.into_iter-from-iterator.result c.loop-from.from-iterator c.next.new.self c.next.result (search rules) (search rules) c.loop-from.yielded_by
    (c.in-Some.from, c.in-Some.to) c.in-Some.is c.next.ensures.steps in
    let more : length (c.loop-from.yielded ++ ((c.in-Some.from, c.in-Some.to) ∷ [])) ≡ suc n = omega (arith, length-append c.loop-from.yielded ((c.in-Some.from, c.in-Some.to) ∷ [])) in
    let from : c.in-Some.from.now ≡ get_or a (0 + n) nan = pair.2 nan ∙ ap (λ (k : ℕ). get_or a k nan) (sym (zero-add n)) in
    let to : c.in-Some.to.now ≡ get_or b (0 + n) nan = pair.3 nan ∙ ap (λ (k : ℕ). get_or b k nan) (sym (zero-add n)) in
    rw more (
      ap₂ ◌+◌ c.loop-from.invariant.0 (c.crossing_bit-found.ensures.0 ∙ ap₂ (crossing_bit c.args.threshold) from to),
      omega (arith, c.loop-from.invariant.1, c.crossing_bit-found.ensures.1),
    )
