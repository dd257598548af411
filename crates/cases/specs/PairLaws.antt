-- Laws of pairs that a walk over the layers needs: where it starts, and what a layer's pairs leave for the next.
use Rattle.std.specs.Prelude.{ℕ, ◌+◌, ◌/◌, ◌≤◌, ◌<◌, List, replicate}
use Rattle.std.proofs.Common.{ap, arith}
use Rattle.std.proofs.lemmas.List.{get_or-replicate}
use Rattle.model.specs.Limits.{most_subdivisions}
use Rattle.cases.specs.Sheets.{row_start, sheet_places}
use Rattle.cases.specs.RowPlaces.{layer_fits, row_before}
use Rattle.cases.specs.Pairs.{Upper, Pairs}

-- before the first layer there are no points
pub no_pairs : (n : ℕ) → n ≤ most_subdivisions → Upper n (λ y z. 0) (replicate sheet_places 0)
no_pairs n few =
    record {
      upper_at = λ y z hy hz.
          let i = row_start n y + z in
          let there : i < sheet_places = omega (arith, layer_fits n few, row_before n y (n + 1) z (omega arith) hz) in
          ap (λ (p : ℕ). p / 2) (get_or-replicate sheet_places i 0 0 there);
    }

-- the second of each pair
pub pairs_upper : {n : ℕ} {low high : ℕ → ℕ → ℕ} {pairs : List ℕ} → Pairs n low high pairs → ((y z : ℕ) → low y z ≤ 1) → Upper n high pairs
pairs_upper p low_bit = record { upper_at = λ y z hy hz. omega (arith, p.pair_at_lem y z hy hz, low_bit y z) }
