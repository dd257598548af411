-- Document 01, 'Regular cells': what index/n gives, for each index of a block. Definition, and that each place holds its own.
use Rattle.std.specs.Prelude.{ℕ, ◌+◌, ◌≤◌, ◌<◌, ◌≡◌, List, ◌++◌, Float, length, get_or, drop, replicate}
use Rattle.std.proofs.Common.{ap, ◌∙◌, arith}
use Rattle.std.specs.Float.{nan}
use Rattle.std.proofs.Math.ListN.{get_or-append}
use Rattle.laws.specs.Steps.{listed, laid}
use Rattle.laws.specs.Lists.{length_listed, get_d_listed}
use Rattle.model.specs.Limits.{most_subdivisions}
use Rattle.model.specs.Formulas.{◌⊘◌, whole}

abbrev pub fraction : ℕ → ℕ → Float
fraction n index = whole index ⊘ whole n

abbrev pub zeros : List Float
zeros = replicate (most_subdivisions + 1) (whole 0)

-- the places beyond n hold 0, and are not read
unfoldable pub fractions_of : ℕ → List Float
fractions_of n = laid (listed (fraction n) (n + 1)) zeros

pub record Fractions (n : ℕ) (fractions : List Float) : Type 0 where
  pub some : 1 ≤ n
  pub few : n ≤ most_subdivisions
  pub are : fractions ≡ fractions_of n

pub all_laid : (n upto : ℕ) → upto ≡ n + 1 → listed (fraction n) upto ++ drop upto zeros ≡ fractions_of n
unfolding fractions_of
all_laid n upto e = rw (e, length_listed)

pub fraction_at : {n : ℕ} {fractions : List Float} → Fractions n fractions → (index : ℕ) → index ≤ n → get_or fractions index nan ≡ fraction n index
unfolding fractions_of
fraction_at {n} {fractions} h index l =
    let here : index < n + 1 = omega arith in
    let front : index < length (listed (fraction n) (n + 1)) = rw (length_listed (fraction n) (n + 1)) here in
    ap (λ (f : List Float). get_or f index nan) h.are
    ∙ get_or-append (listed (fraction n) (n + 1)) _ nan index front ∙ get_d_listed (fraction n) (n + 1) index nan here
