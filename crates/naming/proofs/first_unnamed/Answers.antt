-- `first_unnamed` meets its contract. The invariant: each triangle before this one names a vertex with each corner, and the rest is still to come.
use Rattle.std.proofs.Common.{ℕ, ◌+◌, ◌*◌, ◌<◌, ◌≡◌, refl, sym, ap, ◌∙◌, Bool, true, false, ◌&&◌, List, [], ◌∷◌, ◌++◌, length, get_or, drop, ltb, rules, arith, length-append, length-drop, add-zero}
use borrow.Author.Tests.{tests}
use Rattle.std.proofs.Math.ListN.{get_or-append}
use Rattle.std.proofs.Math.Seq.{drop-append_seam}
use Rattle.std.specs.List.{list_all}
use Rattle.std.proofs.lemmas.List.{drop-drop, get_or-drop}
use Rattle.std.proofs.lemmas.Iterator.{YieldsList-from_slice}
use Rattle.std.proofs.lemmas.Iterator.Search.{all_from_yields_List}
use Rattle.model.specs.Refusals.{unless}
use Rattle.model.specs.declared.Refusal.TheVariants.{NoVertex}
use Rattle.model.specs.Corners.{triangle_count, judge_named}
use Rattle.judge.specs.First.{not_yet, hit}
use Rattle.naming.specs.Corners.{named_spot, spot_is}
use Rattle.naming.proofs.first_unnamed.Goals as goal
use Rattle.naming.proofs.first_unnamed.Goals.{After-all}

three : (p : ℕ → Bool) (xs : List ℕ) → length xs ≡ 3 → list_all p xs ≡ p (get_or xs 0 0) && p (get_or xs 1 0) && p (get_or xs 2 0)
three p [] e = absurd (omega arith)
three p (x ∷ []) e = absurd (omega arith)
three p (x ∷ (y ∷ [])) e = absurd (omega arith)
three p (x ∷ (y ∷ (z ∷ []))) e = and_three (p x) (p y) (p z)
  where
    and_three : (a b c : Bool) → a && (b && (c && true)) ≡ a && b && c
    and_three true true true = refl
    and_three true true false = refl
    and_three true false c = refl
    and_three false b c = refl
three p (x ∷ (y ∷ (z ∷ (w ∷ xs)))) e = absurd (omega arith)

-- a triangle is the next three of the list
corner_is : (triangles triangle rest : List ℕ) (t k : ℕ) → triangle ++ rest ≡ drop (3 * t) triangles → length triangle ≡ 3 → k < 3
    → get_or triangle k 0 ≡ get_or triangles (3 * t + k) 0
corner_is triangles triangle rest t k e long l =
    sym (get_or-append triangle rest 0 k (omega arith)) ∙ ap (λ (xs : List ℕ). get_or xs k 0) e ∙ get_or-drop (3 * t) triangles k 0

-- and leaves what is after them
rest_is : (triangles triangle rest : List ℕ) (t : ℕ) → triangle ++ rest ≡ drop (3 * t) triangles → length triangle ≡ 3 → rest ≡ drop (3 * (t + 1)) triangles
rest_is triangles triangle rest t e long =
    let past : 3 * t + length triangle ≡ 3 * (t + 1) = omega arith in
    sym (drop-append_seam triangle rest) ∙ ap (drop (length triangle)) e ∙ drop-drop (length triangle) (3 * t) triangles ∙ ap (λ (n : ℕ). drop n triangles) past

judged : (c : After-all) → (named_spot c.args.held c.args.triangles.now) c.loop-t.t-iterator.count ≡ unless c.all.result (NoVertex c.loop-t.t-iterator.count)
judged c =
    let held = c.args.held in
    let triangles = c.args.triangles.now in
    let t = c.loop-t.t-iterator.count in
    let triangle = c.in-Some.triangle.now in
    let steps = c.in-Some.ensures.steps in
    let next : triangle ++ c.next.new.self.iter.rest.now ≡ drop (3 * t) triangles = sym steps.0.1.0 ∙ c.loop-t.invariant.2 in
    let long : length triangle ≡ 3 = steps.0.1.1 ∙ c.loop-t.invariant.0 in
    let all = all_from_yields_List (λ corner. ltb corner held) _ _ _ c.all.ensures.ran (YieldsList-from_slice triangle (search rules)) (λ x b q k. search (rules, tests)) in
    let corner : (k : ℕ) → k < 3 → get_or triangle k 0 ≡ get_or triangles (3 * t + k) 0 = λ k. corner_is triangles triangle _ t k next long in
    let named : (k : ℕ) → k < 3 → ltb (get_or triangle k 0) held ≡ ltb (get_or triangles (3 * t + k) 0) held = λ k l. ap (λ (x : ℕ). ltb x held) (corner k l) in
    spot_is held triangles t _ _ _ (rw add-zero at (named 0 (omega arith))) (named 1 (omega arith)) (named 2 (omega arith))
    ∙ ap (λ (b : Bool). unless b (NoVertex t)) (sym (all ∙ three (λ corner. ltb corner held) triangle long))

pub loop-t-init : goal.loop-t-init
loop-t-init c =
    rw (c.into_iter-t-iterator.ensures.into_iter_gives, c.enumerate-t-items.ensures.source, c.enumerate-t-items.ensures.count)
    (c.chunks_exact.ensures.size, omega arith, c.chunks_exact.ensures.rest, refl)

pub returns-then-not-all : goal.returns-then-not-all
unfolding judge_named
returns-then-not-all c =
    let triangles = c.args.triangles.now in
    let turn = c.loop-t in
    let t = turn.t-iterator.count in
    let steps = c.in-Some.ensures.steps in
    let here = judged (goal.at.returns-then-not-all c).After-all ∙ ap (λ (b : Bool). unless b (NoVertex t)) c.if-not-all.true in
    let within : t < triangle_count triangles = omega (arith, steps.0.1, turn.invariant.0, ap (length {A = ℕ}) turn.invariant.2, ap (length {A = ℕ}) steps.0.1.0, length-append {A = ℕ}, length-drop {A = ℕ}) in
    rw steps.1 (sym (hit (named_spot c.args.held triangles) t (triangle_count triangles) _ turn.invariant.3 here within))

pub loop-t-preserved : goal.loop-t-preserved
loop-t-preserved c =
    let triangles = c.args.triangles.now in
    let turn = c.loop-t in
    let t = turn.t-iterator.count in
    let steps = c.in-Some.ensures.steps in
    let here = judged (goal.at.loop-t-preserved c).After-all ∙ ap (λ (b : Bool). unless b (NoVertex t)) c.if-not-all.false in
    let more = steps.2 in
    let long : length c.in-Some.triangle.now ≡ 3 = steps.0.1.1 ∙ turn.invariant.0 in
    let past = rest_is triangles c.in-Some.triangle.now c.next.new.self.iter.rest.now t (sym steps.0.1.0 ∙ turn.invariant.2) long in
    rw more (
      steps.0.0 ∙ turn.invariant.0,
      omega (arith, long, ap (length {A = ℕ}) turn.invariant.2, ap (length {A = ℕ}) steps.0.1.0, length-append {A = ℕ}, length-drop {A = ℕ}),
      past,
      not_yet (named_spot c.args.held triangles) t turn.invariant.3 here,
    )

pub returns : goal.returns
unfolding judge_named
returns c =
    let triangles = c.args.triangles.now in
    let turn = c.loop-t in
    let steps = c.in-None.ensures.steps in
    let long = length-drop (3 * turn.t-iterator.count) triangles in
    let end : turn.t-iterator.count ≡ triangle_count triangles = omega (arith, steps, turn.invariant, ap (length {A = ℕ}) turn.invariant.2, long) in
    sym (rw end at turn.invariant.3)
