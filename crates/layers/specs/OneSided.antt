-- Document 02, [12]: what extraction passes over. An unmarked layer that agrees in value with one made afresh is passed over exactly if all its samples
-- lie on one side of the threshold. Then each of its cells has no corner inside or all of them, so its case number is one that makes nothing.
use Rattle.std.specs.Prelude.{ℕ, ◌+◌, ◌*◌, ◌/◌, ◌%◌, ◌^◌, ◌≤◌, ◌<◌, ◌≡◌, refl, Bool, true, false, not, ◌||◌, List, Float}
use native.Mathlib.Omega.{arith}
use Rattle.std.proofs.Common.{sym, ◌∙◌}
use Rattle.std.proofs.Math.Path.{ap}
use Rattle.std.proofs.Math.Bool.{cond, and-eq-true_iff, or-true}
use Rattle.std.proofs.lemmas.Bool.{false≢true, not-true}
use Rattle.std.specs.Float.Ieee.{is_nan, lt, eq}
use Rattle.laws.specs.Steps.{total}
use Rattle.laws.specs.Sums.{total_same}
use Rattle.laws.specs.Tests.{neither}
use Rattle.model.specs.Samples.{sample_of}
use Rattle.model.specs.Formulas.{inside, inside_bit}
use Rattle.model.specs.Star.{Star, subdivisions}
use Rattle.model.specs.Points.{corner_point, regular_case}
use Rattle.model.specs.Layers.{layer_count, layer_sample, less, more, extent_of, layer_extent, entry_of, marked, agree, layer_stands, one_sided, passed_over}
use Rattle.cases.specs.Marks.{all_regular, uncut}
use Rattle.layers.specs.Order.{le_on, not_lt, le_not, eq_le, eq_ge}
use Rattle.layers.specs.Held.{Held, AllNumbers}
use Rattle.layers.specs.Best.{Number, Best, not_less, not_more, upward, downward, best_is}
use Rattle.layers.specs.Places.{some_samples, layer_numbers, in_layer, in_layer_lem, layer_has}

module _ (n : ℕ) (samples : List Float) (held : Held n samples) (numbers : AllNumbers samples) (x : ℕ) (h : x < n) where
  abbrev sample : ℕ → Float
  sample = layer_sample n samples x

  -- the least and the greatest of the layer made afresh
  pub least_is : Best less not_more sample (layer_count n) (layer_extent n samples x).least
  unfolding layer_extent extent_of
  least_is = best_is less not_more upward sample (layer_count n) (some_samples n) (layer_numbers n x h samples held numbers)

  pub greatest_is : Best more not_less sample (layer_count n) (layer_extent n samples x).greatest
  unfolding layer_extent extent_of
  greatest_is = best_is more not_less downward sample (layer_count n) (some_samples n) (layer_numbers n x h samples held numbers)

  module _ (threshold : Float) (summary : List Float) (stands : layer_stands n samples summary x ≡ true) (unmarked : marked (entry_of summary x) ≡ false) where
    abbrev least : Float
    least = (entry_of summary x).least

    abbrev greatest : Float
    greatest = (entry_of summary x).greatest

    agrees : (eq least (layer_extent n samples x).least ≡ true) × (eq greatest (layer_extent n samples x).greatest ≡ true)
    agrees =
        let as_told : agree (entry_of summary x) (layer_extent n samples x) ≡ true = rw unmarked at stands in
        (and-eq-true_iff (eq least (layer_extent n samples x).least) (eq greatest (layer_extent n samples x).greatest)).0 as_told

    all_inside : inside threshold least ≡ true → (k : ℕ) → k < layer_count n → inside threshold (sample k) ≡ true
    all_inside e k l =
        let fresh = (layer_extent n samples x).least in
        le_on threshold fresh (sample k) (le_on threshold least fresh e (eq_le least fresh agrees.0)) (least_is.none_beats k l)

    none_inside : lt greatest threshold ≡ true → (k : ℕ) → k < layer_count n → inside threshold (sample k) ≡ false
    none_inside e k l = go (inside threshold (sample k)) refl
      where
        go : (b : Bool) → inside threshold (sample k) ≡ b → b ≡ false
        go true is-in =
            let fresh = (layer_extent n samples x).greatest in
            let up = le_on threshold (sample k) fresh is-in (greatest_is.none_beats k l) in
            let high = le_on threshold fresh greatest up (eq_ge greatest fresh agrees.1) in
            sym e ∙ le_not threshold greatest high
        go false is-in = refl

    -- all samples of the layer are on one side
    one_side : one_sided threshold (entry_of summary x) ≡ true → (b : Bool) × ((k : ℕ) → k < layer_count n → inside threshold (sample k) ≡ b)
    one_side = go (inside threshold least) (lt greatest threshold) refl refl
      where
        go : (a c : Bool) → inside threshold least ≡ a → lt greatest threshold ≡ c → a || c ≡ true
            → (b : Bool) × ((k : ℕ) → k < layer_count n → inside threshold (sample k) ≡ b)
        go true c low high e = (true, all_inside low)
        go false true low high e = (false, none_inside high)
        go false false low high e = absurd (false≢true e)

    -- and the other way round
    is_inside : ((k : ℕ) → k < layer_count n → inside threshold (sample k) ≡ true) → inside threshold least ≡ true
    is_inside side =
        let best = least_is in
        let fresh = (layer_extent n samples x).least in
        le_on threshold fresh least (ap (inside threshold) best.is ∙ side best.at best.within) (eq_ge least fresh agrees.0)

    is_outside : Number threshold → ((k : ℕ) → k < layer_count n → inside threshold (sample k) ≡ false) → lt greatest threshold ≡ true
    is_outside number side = go (lt greatest threshold) refl
      where
        go : (b : Bool) → lt greatest threshold ≡ b → b ≡ true
        go true e = refl
        go false e =
            let best = greatest_is in
            let fresh = (layer_extent n samples x).greatest in
            let some = (neither (is_nan least) (is_nan greatest) unmarked).1 in
            let up = le_on threshold greatest fresh (not_lt threshold greatest number some e) (eq_le greatest fresh agrees.1) in
            sym (side best.at best.within) ∙ ap (inside threshold) (sym best.is) ∙ up

    pub is_over : Number threshold → (b : Bool) → ((k : ℕ) → k < layer_count n → inside threshold (sample k) ≡ b) → passed_over threshold summary x ≡ true
    is_over number true side = rw (unmarked, is_inside side)
    is_over number false side = rw (unmarked, is_outside number side) (or-true (inside threshold least))

-- ---- the cells of such a layer

module _ (s : Star) (x y z : ℕ) (hx : x < subdivisions s) (hy : y < subdivisions s) (hz : z < subdivisions s) where
  abbrev bit : ℕ → ℕ
  bit k = 2 ^ k * inside_bit s.threshold (sample_of (subdivisions s) s.centre (corner_point x y z k))

  by_side : (b : Bool) → ((k : ℕ) → k < layer_count (subdivisions s) → inside s.threshold (layer_sample (subdivisions s) s.centre x k) ≡ b)
      → regular_case s x y z ≡ total (λ k. 2 ^ k * cond b 1 0) 8
  unfolding regular_case
  by_side b side =
      let n = subdivisions s in
      total_same bit (λ k. 2 ^ k * cond b 1 0) 8
      (λ k l.
      let a : k % 2 < 2 = omega arith in
      let up : y + k / 2 % 2 ≤ n = omega arith in
      let far : z + k / 4 % 2 ≤ n = omega arith in
      let sample = layer_has n x (k % 2) (y + k / 2 % 2) (z + k / 4 % 2) (omega arith) up far hx s.centre in
      let is-in = side (in_layer n (k % 2) (y + k / 2 % 2) (z + k / 4 % 2)) (in_layer_lem n x (k % 2) (y + k / 2 % 2) (z + k / 4 % 2) (omega arith) up far) in
      ap (λ (v : Float). 2 ^ k * inside_bit s.threshold v) sample ∙ ap (λ (b : Bool). 2 ^ k * cond b 1 0) is-in)

  no_corner_or_all : (b : Bool) → uncut (total (λ k. 2 ^ k * cond b 1 0) 8) all_regular ≡ true
  no_corner_or_all true = refl
  no_corner_or_all false = refl

  -- its case number makes nothing
  pub not_cut : Held (subdivisions s) s.centre → AllNumbers s.centre → (summary : List Float)
      → layer_stands (subdivisions s) s.centre summary x ≡ true → passed_over s.threshold summary x ≡ true
      → uncut (regular_case s x y z) all_regular ≡ true
  not_cut held numbers summary stands over =
      let entry = entry_of summary x in
      let parts = (and-eq-true_iff (not (marked entry)) (one_sided s.threshold entry)).0 over in
      let side = one_side (subdivisions s) s.centre held numbers x hx s.threshold summary stands (not-true (marked entry) parts.0) parts.1 in
      ap (λ (case : ℕ). uncut case all_regular) (by_side side.0 side.1) ∙ no_corner_or_all side.0
