-- The walk over the layers that are left keeps what it goes by.
use Rattle.std.specs.Prelude.{ℕ, ◌<◌, ◌≡◌, List, Float}
use Rattle.std.proofs.Common.{◌∙◌}
use Rattle.layers.specs.Over.{NextLayer}

abbrev pub SameWalk : ℕ → Float → List Float → ℕ → Float → List Float → Type 0
SameWalk n threshold summary n' threshold' summary' = (n' ≡ n) × ((threshold' ≡ threshold) × (summary' ≡ summary))

module _ {n n' : ℕ} {threshold threshold' : Float} {summary summary' : List Float} (same : SameWalk n threshold summary n' threshold' summary') where
  pub next_of : {from x : ℕ} → NextLayer n' threshold' summary' from x → NextLayer n threshold summary from x
  next_of next = rw (same.0, same.1.0, same.1.1) at next

  pub last_of : {from : ℕ} → NextLayer n' threshold' summary' from n' → NextLayer n threshold summary from n
  last_of last = rw (same.0, same.1.0, same.1.1) at last

  pub below_of : {x : ℕ} → x < n' → x < n
  below_of below = rw same.0 at below

  pub same_still : {n'' : ℕ} {threshold'' : Float} {summary'' : List Float} → SameWalk n' threshold' summary' n'' threshold'' summary''
      → SameWalk n threshold summary n'' threshold'' summary''
  same_still then = (then.0 ∙ same.0, (then.1.0 ∙ same.1.0, then.1.1 ∙ same.1.1))
