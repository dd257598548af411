-- What the mesher needs of each used code of each regular case.
use Rattle.std.specs.Prelude.{ℕ, ◌<◌}
use Rattle.tables.specs.Cases.{regular_code, regular_vertices}
use Rattle.tables.proofs.RulesEdges.{regular_lists}
use Rattle.tables.specs.RulesSlots.{RegularCode, regular_used_right}

pub regular_code_right : (case i : ℕ) → case < 256 → i < regular_vertices case → RegularCode (regular_code case i)
regular_code_right case i hc hi = regular_used_right (regular_code case i) (regular_lists.is_used case i hc hi)
