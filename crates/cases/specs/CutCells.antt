-- What the walk over a row's cells that may be cut gives: the first at or after a cell, or that there is none.
use Rattle.std.specs.Prelude.{ℕ, ◌+◌, ◌<◌, ◌≡◌, List, Option, Some, None}
use Rattle.cases.specs.Marks.{NextMarked}

abbrev Same : ℕ → List ℕ → ℕ → ℕ → List ℕ → ℕ → Type 0
Same n marks start n' marks' start' = (n' ≡ n) × ((marks' ≡ marks) × (start' ≡ start))

abbrev pub CellGiven : ℕ → List ℕ → ℕ → ℕ → Option ℕ → ℕ → List ℕ → ℕ → ℕ → Type 0
CellGiven n marks start from (Some v) n' marks' start' from' =
    (NextMarked n marks start from v × (v < n)) × ((from' ≡ v + 1) × Same n marks start n' marks' start')
CellGiven n marks start from None n' marks' start' from' =
    NextMarked n marks start from n × ((from' ≡ from) × Same n marks start n' marks' start')
