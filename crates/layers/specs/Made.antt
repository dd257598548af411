-- Document 02, [12]: a summary once some of its layers are made afresh in their places, layer by layer and beyond them.
use Rattle.std.specs.Prelude.{ℕ, zero, suc, ◌+◌, ◌-◌, ◌*◌, ◌≤◌, ◌<◌, ◌≡◌, refl, ◌⊎◌, List, [], ◌∷◌, Float, set}
use Rattle.std.proofs.Math.Nat.{add-zero, le_step}
use Rattle.std.proofs.Common.{not-suc-le-zero, le_of_suc-le-suc, le_refl, ◌∙◌, inl, inr, length-set, get_or-set_same, get_or-set_other}
use native.Mathlib.Omega.{arith}
use Rattle.std.proofs.Math.Path.{ap}
use Rattle.std.proofs.Math.Logic.{⊎_elim}
use Rattle.std.specs.Float.Ieee.{nan}
use Rattle.std.proofs.Math.ListN.{length, get_or}
use Rattle.std.proofs.lemmas.List.Edits.{sets}
use Rattle.std.proofs.Math.Seq.{length-sets}
use Rattle.laws.specs.Lists.{sets_beyond}
use Rattle.laws.specs.Counting.{gather}
use Rattle.laws.specs.Gathered.{length_gather, get_d_gather}
use Rattle.model.specs.Layers.{extent_of, layer_extent, entry_of}
use Rattle.layers.specs.Definition.{layer_floats, layers_made}

-- ---- a stretch that was stored in a list, place by place

module _ {A : Type 0} (d : A) where
  sets_before : (l : List A) (i : ℕ) (vs : List A) (j : ℕ) → j < i → get_or (sets l i vs) j d ≡ get_or l j d
  sets_before l i [] j h = refl
  sets_before l i (a ∷ vs) j h = sets_before (set l i a) (suc i) vs j (le_step h) ∙ get_or-set_other l i j a d (λ e. omega arith)

  sets_in : (l : List A) (i : ℕ) (vs : List A) (j : ℕ) → j < length vs → i + length vs ≤ length l → get_or (sets l i vs) (i + j) d ≡ get_or vs j d
  sets_in l i [] j h room = absurd (not-suc-le-zero h)
  sets_in l i (a ∷ vs) zero h room =
      let enough : i + suc (length vs) ≤ length l = room in
      ap (λ (k : ℕ). get_or (sets (set l i a) (suc i) vs) k d) (add-zero i)
      ∙ sets_before (set l i a) (suc i) vs i (le_refl _) ∙ get_or-set_same l i a d (omega arith)
  sets_in l i (a ∷ vs) (suc j) h room =
      let enough : i + suc (length vs) ≤ length l = room in
      let there : i + suc j ≡ suc i + j = omega arith in
      ap (λ (k : ℕ). get_or (sets (set l i a) (suc i) vs) k d) there
      ∙ sets_in (set l i a) (suc i) vs j (le_of_suc-le-suc h) (rw length-set (omega arith))

-- ---- layers made afresh

module _ (n : ℕ) (samples : List Float) (from to : ℕ) (summary : List Float) (ordered : from ≤ to) (room : 2 * to ≤ length summary) where
  abbrev floats : ℕ → List Float
  floats k = layer_floats n samples (from + k)

  abbrev stretch : List Float
  stretch = gather floats (to - from)

  long : length stretch ≡ 2 * (to - from)
  long = length_gather floats 2 (λ k. refl) (to - from)

  pub as_long : length (layers_made n samples from to summary) ≡ length summary
  unfolding layers_made
  as_long = length-sets summary (2 * from) stretch

  at_layer : (x i : ℕ) → from ≤ x → x < to → i < 2 → get_or (layers_made n samples from to summary) (2 * x + i) nan ≡ get_or (layer_floats n samples x) i nan
  unfolding layers_made
  at_layer x i low high small =
      let place : 2 * x + i ≡ 2 * from + (2 * (x - from) + i) = omega arith in
      let within : 2 * (x - from) + i < length stretch = rw long (omega arith) in
      let fits : 2 * from + length stretch ≤ length summary = rw long (omega arith) in
      let layer : from + (x - from) ≡ x = omega arith in
      ap (λ (j : ℕ). get_or (sets summary (2 * from) stretch) j nan) place
      ∙ sets_in nan summary (2 * from) stretch (2 * (x - from) + i) within fits
      ∙ get_d_gather floats 2 (λ k. refl) (to - from) (x - from) i nan (omega arith) small
      ∙ ap (λ (l : ℕ). get_or (layer_floats n samples l) i nan) layer

  -- each of them is as made afresh, whatever stood there before
  pub made_in : (x : ℕ) → from ≤ x → x < to → entry_of (layers_made n samples from to summary) x ≡ layer_extent n samples x
  unfolding layer_extent extent_of
  made_in x low high =
      let least = rw add-zero at (at_layer x 0 low high (omega arith)) in
      let greatest = at_layer x 1 low high (omega arith) in
      λ i. record { least = least i; greatest = greatest i }

  -- every other place stays
  pub place_stays : (k : ℕ) → (k < 2 * from) ⊎ (2 * to ≤ k) → get_or (layers_made n samples from to summary) k nan ≡ get_or summary k nan
  unfolding layers_made
  place_stays k =
      ⊎_elim (sets_before nan summary (2 * from) stretch k)
      (λ past.
      let far : 2 * to ≤ k = past in
      sets_beyond summary (2 * from) k nan stretch (rw long (omega arith)))

  pub entry_stays : (x : ℕ) → (x < from) ⊎ (to ≤ x) → entry_of (layers_made n samples from to summary) x ≡ entry_of summary x
  entry_stays x out =
      let away : (i : ℕ) → i < 2 → (2 * x + i < 2 * from) ⊎ (2 * to ≤ 2 * x + i) =
      λ i small. ⊎_elim (λ low. inl (omega arith)) (λ high. inr (omega arith)) out in
      let least = rw add-zero at (place_stays (2 * x + 0) (away 0 (omega arith))) in
      let greatest = place_stays (2 * x + 1) (away 1 (omega arith)) in
      λ i. record { least = least i; greatest = greatest i }
