-- `all_named` meets its contract: a fold over the corners up to a place tells whether each of them names a vertex.
use Rattle.std.proofs.Common.{ℕ, zero, suc, ◌*◌, ◌<◌, ◌≤◌, ◌≡◌, refl, ap, ◌∙◌, Bool, true, ◌&&◌, List, length, get_or, take, ltb, rules, arith}
use Rattle.std.proofs.Math.Seq.{take-suc}
use Rattle.std.specs.List.{fold}
use Rattle.std.proofs.lemmas.Iterator.{YieldsList-from_slice}
use Rattle.std.proofs.lemmas.Iterator.Consumers.{fold_from_yields_List}
use Rattle.std.proofs.lemmas.List.Sums.{fold_push}
use Rattle.laws.specs.Below.{all_below}
use Rattle.model.specs.Corners.{triangle_count}
use Rattle.naming.proofs.all_named.Goals as goal

folded : (p : ℕ → Bool) (xs : List ℕ) (n : ℕ) → n ≤ length xs → fold (λ b x. b && p x) true (take n xs) ≡ all_below (λ k. p (get_or xs k 0)) n
folded p xs zero l = refl
folded p xs (suc n) l =
    let h : n < length xs = omega arith in
    rw (take-suc xs n 0) (fold_push (λ (b : Bool) (x : ℕ). b && p x) true (take n xs) (get_or xs n 0) ∙ ap (λ (b : Bool). b && p (get_or xs n 0)) (folded p xs n (omega arith)))

pub returns : goal.returns
returns c =
    let corners = c.args.triangles.now in
    let all = 3 * triangle_count corners in
    fold_from_yields_List _ (λ (named : Bool) (corner : ℕ). named && ltb corner c.args.held) true _ c.fold.ensures.ran (YieldsList-from_slice (take all corners) (search rules)) (λ a x b q k. search rules)
    ∙ folded (λ corner. ltb corner c.args.held) corners all (omega arith)
