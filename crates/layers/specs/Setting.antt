-- Document 02, [12]: what setting a sample leaves. Each layer that holds the point is as made afresh, marked or not; every other place of the summary stays,
-- and those layers are as made afresh where they were. So a summary that 26 lets pass is let pass afterwards.
use Prim.Native.Nat.{ℕ, ◌+◌, ◌-◌, ◌*◌, ◌≤◌, ◌<◌, zero-le}
use Rattle.std.proofs.Common.{arith, sym, ap₂, ◌∙◌, subst, inr}
use Rattle.std.specs.Prelude.{◌≡◌, ◌⊎◌, Bool, true, ◌&&◌, ◌||◌, List, Float, length, get_or, set, Ok}
use Rattle.std.proofs.Math.Path.{refl, ap}
use Rattle.std.proofs.Math.Bool.{or-true}
use Rattle.std.specs.Float.{nan}
use Rattle.std.specs.Float.Ieee.{is_nan}
use Rattle.model.specs.declared.Extent.{Extent}
use Rattle.model.specs.declared.Xyz.{Xyz}
use Rattle.model.specs.declared.PlaceKind.{PlaceKind}
use Rattle.model.specs.declared.PlaceKind.TheVariants.{InBlock, Face}
use Rattle.model.specs.declared.Refusal.TheVariants.{LayerDiffers}
use Rattle.model.specs.Refusals.{unless}
use Rattle.model.specs.Layers.{layer_extent, entry_of, marked, agree, layer_stands, judge_layers}
use Rattle.judge.specs.First.{unless_passed, each_passed, passed_over_lem}
use Rattle.grid.specs.Places.{inner_le}
use Rattle.layers.specs.Definition.{layers_made, place_up, first_holding, end_holding, renewed}
use Rattle.layers.specs.Order.{eq_self}
use Rattle.layers.specs.Best.{Number}
use Rattle.layers.specs.Held.{Held, AllNumbers}
use Rattle.layers.specs.Places.{layer_numbers, Elsewhere, layer_stays, other_plane, beyond_layers, Stored}
use Rattle.layers.specs.Made.{as_long, made_in, place_stays, entry_stays}
use Rattle.layers.specs.OneSided.{least_is, greatest_is}
use Rattle.layers.specs.Holding.{end_within, holding_ordered, in_or_apart, holds, not_held}

-- ---- 26

abbrev stands_by : Extent → Extent → Bool
stands_by e fresh = marked e || agree e fresh

module _ (n : ℕ) (samples summary : List Float) where
  pub all_stand : ((x : ℕ) → x < n → layer_stands n samples summary x ≡ true) → judge_layers n samples summary ≡ Ok tt
  unfolding judge_layers
  all_stand stands =
      passed_over_lem (λ x. unless (layer_stands n samples summary x) (LayerDiffers x)) 0 n refl
      (λ x from l. ap (λ (b : Bool). unless b (LayerDiffers x)) (stands x l)) zero-le

  pub each_stands : judge_layers n samples summary ≡ Ok tt → (x : ℕ) → x < n → layer_stands n samples summary x ≡ true
  unfolding judge_layers
  each_stands e x h =
      unless_passed _ (LayerDiffers x) (each_passed (λ x. unless (layer_stands n samples summary x) (LayerDiffers x)) n x e h)

module _ (n : ℕ) (samples : List Float) (held : Held n samples) (numbers : AllNumbers samples) (summary : List Float) (x : ℕ) (h : x < n) where
  -- a layer that is as made afresh is let pass
  pub fresh_stands : entry_of summary x ≡ layer_extent n samples x → layer_stands n samples summary x ≡ true
  fresh_stands e =
      let fresh = layer_extent n samples x in
      let least = least_is n samples held numbers x h in
      let greatest = greatest_is n samples held numbers x h in
      let number = layer_numbers n x h samples held numbers in
      let low : Number fresh.least = ap is_nan least.is ∙ number least.at least.within in
      let high : Number fresh.greatest = ap is_nan greatest.is ∙ number greatest.at greatest.within in
      let agrees : agree fresh fresh ≡ true = ap₂ ◌&&◌ (eq_self fresh.least low) (eq_self fresh.greatest high) in
      ap (λ (e : Extent). stands_by e fresh) e ∙ ap (λ (b : Bool). marked fresh || b) agrees ∙ or-true (marked fresh)

-- ---- a sample set

module _ (n : ℕ) (p : Xyz) (samples : List Float) (value : Float) (summary : List Float) (room : 2 * n ≤ length summary) where
  abbrev after : List Float
  after = set samples (place_up n p) value

  abbrev plane_of : ℕ
  plane_of = p.x - 1

  -- in the block: p is in the plane x
  module _ (x_in : plane_of ≤ n) where
    abbrev made : List Float
    made = layers_made n after (first_holding plane_of) (end_holding n plane_of) summary

    ordered : first_holding plane_of ≤ end_holding n plane_of
    ordered = holding_ordered n plane_of x_in

    fits : 2 * end_holding n plane_of ≤ length summary
    fits = omega (arith, end_within n plane_of)

    pub touched : (layer : ℕ) → layer < n → (plane_of ≡ layer) ⊎ (plane_of ≡ layer + 1) → entry_of made layer ≡ layer_extent n after layer
    touched layer h in_plane =
        let between = holds n plane_of layer h in_plane in
        made_in n after (first_holding plane_of) (end_holding n plane_of) summary ordered fits layer between.0 between.1

    pub untouched : (layer : ℕ) → (plane_of < layer) ⊎ (layer + 1 < plane_of) → entry_of made layer ≡ entry_of summary layer
    untouched layer apart =
        entry_stays n after (first_holding plane_of) (end_holding n plane_of) summary ordered fits layer (not_held n plane_of layer apart)

    pub made_beyond : (k : ℕ) → 2 * n ≤ k → get_or made k nan ≡ get_or summary k nan
    made_beyond k h =
        place_stays n after (first_holding plane_of) (end_holding n plane_of) summary ordered fits k (inr (omega (arith, end_within n plane_of)))

    pub made_long : length made ≡ length summary
    made_long = as_long n after (first_holding plane_of) (end_holding n plane_of) summary ordered fits

  -- a layer whose entry and whose samples stay
  still : (layer : ℕ) (summary' : List Float) → Elsewhere n layer (place_up n p) → entry_of summary' layer ≡ entry_of summary layer
      → layer_stands n samples summary layer ≡ true → layer_stands n after summary' layer ≡ true
  still layer summary' away entry stood = ap₂ stands_by entry (layer_stays n layer (place_up n p) away samples value) ∙ stood

  -- where a layer was let pass it is so afterwards
  pub stands_after : (kind : PlaceKind) → Stored n p kind → Held n after → AllNumbers after → (layer : ℕ) → layer < n
      → layer_stands n samples summary layer ≡ true → layer_stands n after (renewed kind n after plane_of summary) layer ≡ true
  stands_after (Face face) far held numbers layer h stood = still layer summary (beyond_layers n layer (place_up n p) h far) refl stood
  stands_after InBlock stored held numbers layer h stood =
      let x_in : plane_of ≤ n = inner_le stored.x_in in
      in_or_apart n plane_of layer
      (λ in_plane. fresh_stands n after held numbers (made x_in) layer h (touched x_in layer h in_plane))
      (λ apart.
      let away : Elsewhere n layer (place_up n p) =
      subst (Elsewhere n layer) (sym stored.place_is)
      (other_plane n layer plane_of (p.y - 1) (p.z - 1) (inner_le stored.y_in) (inner_le stored.z_in) apart) in
      still layer (made x_in) away (untouched x_in layer apart) stood)
