-- The walk over a row's cells that may be cut keeps what it goes by.
use Rattle.std.specs.Prelude.{ℕ, ◌<◌, ◌≡◌, List}
use Rattle.std.proofs.Common.{◌∙◌}
use Rattle.cases.specs.Marks.{NextMarked}

abbrev pub SameRow : ℕ → List ℕ → ℕ → ℕ → List ℕ → ℕ → Type 0
SameRow n marks start n' marks' start' = (n' ≡ n) × ((marks' ≡ marks) × (start' ≡ start))

module _ {n n' start start' : ℕ} {marks marks' : List ℕ} (same : SameRow n marks start n' marks' start') where
  pub marked_of : {from v : ℕ} → NextMarked n' marks' start' from v → NextMarked n marks start from v
  marked_of next = rw (same.0, same.1.0, same.1.1) at next

  pub end_of : {from : ℕ} → NextMarked n' marks' start' from n' → NextMarked n marks start from n
  end_of last = rw (same.0, same.1.0, same.1.1) at last

  pub within_of : {v : ℕ} → v < n' → v < n
  within_of below = rw same.0 at below

  pub row_still : {n'' start'' : ℕ} {marks'' : List ℕ} → SameRow n' marks' start' n'' marks'' start'' → SameRow n marks start n'' marks'' start''
  row_still then = (then.0 ∙ same.0, (then.1.0 ∙ same.1.0, then.1.1 ∙ same.1.1))
