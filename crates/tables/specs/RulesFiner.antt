-- A word that the law at the finer face is stated in. The law itself stands in proofs/RulesFiner.
use Rattle.std.specs.Prelude.{List, map, ℕ, eqb}
use Rattle.laws.specs.Counting.{pick}
use Rattle.tables.specs.Sides.{back}
use Rattle.tables.specs.FinerSides.{mirrored}

-- ---- its coarse face on a face of a regular cell

-- what the near face across direction d shows, seen from beyond it or from its own cell
abbrev pub seen : ℕ → ℕ → List ℕ → List ℕ
seen d p ks = pick (eqb (mirrored d p) 0) (map back ks) ks
