-- Cells that are not cut, the marks of those that are, and the way along a row from one mark to the next. Definitions only.
use Rattle.std.specs.Prelude.{ℕ, ◌+◌, ◌*◌, ◌≤◌, ◌<◌, ◌≡◌, Bool, cond, ◌||◌, List, eqb, get_or}

-- the case numbers with every point inside
abbrev pub all_regular : ℕ
all_regular = 255

abbrev pub all_transition : ℕ
all_transition = 511

-- no point of the cell is inside, or all of them are
abbrev pub uncut : ℕ → ℕ → Bool
uncut case all = eqb case 0 || eqb case all

abbrev pub mark_of : ℕ → ℕ → ℕ
mark_of all case = cond (uncut case all) 0 1

-- the next place of a row that has a mark, or the row's end
pub record NextMarked (n : ℕ) (marks : List ℕ) (start from next : ℕ) : Type 0 where
  pub ordered : from ≤ next
  pub within : next ≤ n
  pub none_marked : (k : ℕ) → from ≤ k → k < next → get_or marks (start + k) 0 ≡ 0

-- marks as one word
abbrev pub four_of : List ℕ → ℕ → ℕ
four_of marks i =
    get_or marks i 0 + 0x100 * get_or marks (i + 1) 0 + 0x1_0000 * get_or marks (i + 2) 0 + 0x100_0000 * get_or marks (i + 3) 0

abbrev pub eight_of : List ℕ → ℕ → ℕ
eight_of marks i = four_of marks i + 0x1_0000_0000 * four_of marks (i + 4)
