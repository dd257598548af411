-- `layers::judging::next_layer` meets its contract: each layer before the one found is passed over, and where none is found each up to the last.
use Rattle.std.proofs.Common.{ℕ, ◌≤◌, ◌<◌, ◌≡◌, true, false, Float, List, Option, Some, None, unwrap_or, le_refl, arith, rules, tests}
use Rattle.std.specs.Prelude.{MatchOption}
use Rattle.std.proofs.lemmas.Iterator.{first_from_Range}
use Rattle.model.specs.Layers.{passed_over}
use Rattle.layers.specs.Over.{NextLayer}
use Rattle.layers.proofs.judging.next_layer.Goals as goal

abbrev Over : Float → List Float → ℕ → Type 0
Over threshold summary x = passed_over threshold summary x ≡ true

given : (n : ℕ) (threshold : Float) (summary : List Float) (from : ℕ) (ordered : from ≤ n) (r : Option ℕ)
    → MatchOption r ((k : ℕ) → from ≤ k → k < n → Over threshold summary k) (λ i. (from ≤ i) × (i < n) × (passed_over threshold summary i ≡ false) × ((k : ℕ) → from ≤ k → k < i → Over threshold summary k))
    → NextLayer n threshold summary from (unwrap_or r n)
given n threshold summary from ordered None all = record { ordered = ordered; within = le_refl n; all_over = all; not_over = λ h. absurd (let z : ⊥ = omega arith in z) }
given n threshold summary from ordered (Some x) found = record { ordered = found.0; within = omega (arith, found.1); all_over = found.3; not_over = λ h. found.2 }

pub returns : goal.returns
returns c =
    let a = c.args in
    rw c.unwrap_or.ensures (given a.n a.threshold a.summary.now a.from c.requires.0 _
    (first_from_Range _ _ _ _ (λ x. passed_over a.threshold a.summary.now x ≡ false) (λ x. passed_over a.threshold a.summary.now x ≡ true) c.find.ensures.ran
    (λ x q k. search (rules, tests))
    (λ x q k. (search rules, search (rules, tests)))))
