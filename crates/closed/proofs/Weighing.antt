-- What the sides of triangles whose corners are codes weigh, where each edge has the label of its code: as many as run from the label g to h.
use Rattle.std.specs.Prelude.{◌≡◌, ℕ, ◌+◌, ◌*◌}
use Rattle.std.proofs.Common.{sym, ◌∙◌}
use Rattle.std.proofs.Math.Path.{ap₂}
use native.Mathlib.Omega.{arith}
use Rattle.laws.specs.Steps.{total}
use Rattle.laws.specs.Counting.{gather, weighed}
use Rattle.laws.specs.Sums.{total_same, weighed_gather}
use Rattle.tables.specs.Codes.{edge_of}
use Rattle.tables.specs.Sides.{side, sides_of}
use Rattle.closed.specs.Clauses.{run}
use Rattle.closed.specs.CellStep.{sides_by}
use Rattle.closed.specs.Weighing.{byte_small, weight_by, side_weight}

module _ (at : ℕ → ℕ) (g h : ℕ) where
  -- the sides of triangles whose corners are codes, where an edge has the label of its code
  module _ (byte : (c : ℕ) → at (edge_of c) ≡ at c) (code : ℕ → ℕ) where
    one_weighed : (j : ℕ) → sides_by (λ k. at (code k)) g h j ≡ weighed (weight_by at g h) (sides_of (λ j. edge_of (code j)) j)
    unfolding sides_by sides_of
    one_weighed j =
        let w : (c d : ℕ) → weight_by at g h (side (edge_of c) (edge_of d)) ≡ run g h (at c) (at d) =
        λ c d. side_weight at g h (edge_of c) (edge_of d) (byte_small d) ∙ ap₂ (run g h) (byte c) (byte d) in
        omega (
          arith,
          w (code (3 * j)) (code (3 * j + 1)),
          w (code (3 * j + 1)) (code (3 * j + 2)),
          w (code (3 * j + 2)) (code (3 * j)),
        )

    pub all_weighed : (n : ℕ) → total (sides_by (λ k. at (code k)) g h) n ≡ weighed (weight_by at g h) (gather (sides_of (λ j. edge_of (code j))) n)
    all_weighed n = total_same _ _ n (λ k l. one_weighed k) ∙ sym (weighed_gather (weight_by at g h) (sides_of (λ j. edge_of (code j))) n)
