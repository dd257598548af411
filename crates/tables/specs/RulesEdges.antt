-- The words that T1 and T2 are stated in. The rules themselves stand in proofs/RulesEdges.
use Rattle.std.specs.Prelude.{◌≡◌, ℕ, ◌<◌}
use Rattle.tables.specs.Cases.{regular_code, regular_vertices}

-- ---- T1: a code is one of the twelve exactly if a case uses it

pub record Used (code : ℕ) : Type 0 where
  pub case : ℕ
  pub position : ℕ
  pub case_small : case < 256
  pub position_small : position < regular_vertices case
  pub there : regular_code case position ≡ code
