-- Steps taken in order, sums over a range, and lists laid end to end: the few words that the other definitions are said in.
-- Definitions only.
use Rattle.std.specs.Prelude.{ℕ, zero, suc, ◌+◌, List, [], ◌∷◌, ◌++◌, drop, length}

module _ {A : Type 0} where
  -- f 0, then f 1, .., then f (k - 1)
  abbrev pub iterate : (ℕ → A → A) → ℕ → A → A
  iterate f zero a = a
  iterate f (suc k) a = f k (iterate f k a)

  -- f 0, f 1, .., f (k - 1)
  abbrev pub listed : (ℕ → A) → ℕ → List A
  listed f zero = []
  listed f (suc k) = listed f k ++ (f k ∷ [])

  -- a lent buffer once its first places are laid with what is written: all beyond stays
  abbrev pub laid : List A → List A → List A
  laid written before = written ++ drop (length written) before

module _ {A B : Type 0} where
  -- what f gives for each item, end to end
  abbrev pub each : (A → List B) → List A → List B
  each f [] = []
  each f (a ∷ rest) = f a ++ each f rest

-- f 0 + f 1 + .. + f (k - 1)
abbrev pub total : (ℕ → ℕ) → ℕ → ℕ
total f zero = 0
total f (suc k) = total f k + f k
