-- Document 02, [5]: what the fillers leave: each sample as it was, or the filler. Assumes nothing.
use Rattle.std.specs.Prelude.{ℕ, ◌+◌, ◌<◌, ◌≡◌, cond, List, ◌++◌, map, length, get_or}
use Rattle.std.proofs.Common.{sym, ◌∙◌, length-append, ext_get_or}
use Rattle.std.proofs.Math.Path.{ap}
use Rattle.std.proofs.lemmas.List.{length-map}
use Rattle.model.specs.declared.Header.{Header}
use Rattle.model.specs.Judging.{usable}
use Rattle.repair.specs.Definition.{Delivery, delivery, value_of, in_list, replaced, applied, fillers_in, fillers, mismatches, changes_of}
use Rattle.laws.specs.Rounds.{get_d_mapped}
use Rattle.repair.specs.Spots.{Row, applied_append, after, applied_spots, length_after, after_here}

abbrev pub filled_bits : ℕ → ℕ → ℕ
filled_bits filler bits = cond (usable (value_of bits)) bits filler

abbrev pub filled_in : ℕ → Delivery → Delivery
filled_in filler d = delivery (map (filled_bits filler) d.centre) (map (filled_bits filler) d.neighbours)

-- the samples of a list in a row
abbrev pub sample_row : ℕ → List ℕ → Row
sample_row filler bits =
    record { good = λ k. usable (value_of (get_or bits k 0)); place = λ k. k; old = λ k. get_or bits k 0; new = λ k. filler }

module _ (list filler : ℕ) (d : Delivery) where
  abbrev bits : List ℕ
  bits = in_list list d

  filled_list : after (sample_row filler bits) (length bits) bits ≡ map (filled_bits filler) bits
  filled_list =
      let long = length_after (sample_row filler bits) (length bits) bits in
      ext_get_or 0 _ (map (filled_bits filler) bits) (long ∙ sym (length-map bits (filled_bits filler)))
      (λ k h.
      let l : k < length bits = rw long at h in
      after_here (sample_row filler bits) (length bits) k bits l l (λ j _ _ other same. other (sym same))
      ∙ sym (get_d_mapped (filled_bits filler) bits k 0 0 l))

  pub filled_in_lem : applied (fillers_in list filler bits) d ≡ replaced list (map (filled_bits filler) bits) d
  filled_in_lem =
      applied_spots list (sample_row filler bits) (length bits) d
      ∙ ap (λ (l : List ℕ). replaced list l d) filled_list

pub fillers_leave : (filler : ℕ) (d : Delivery) → applied (fillers filler d) d ≡ filled_in filler d
fillers_leave filler d =
    let of-neighbours = fillers_in 1 filler d.neighbours in
    applied_append (fillers_in 0 filler d.centre) of-neighbours d
    ∙ ap (applied of-neighbours) (filled_in_lem 0 filler d)
    ∙ filled_in_lem 1 filler (delivery (map (filled_bits filler) d.centre) d.neighbours)

-- ---- all changes, by what the fillers leave

module _ (h : Header) (filler : ℕ) (d : Delivery) where
  pub changes_are : changes_of h filler d ≡ fillers filler d ++ mismatches h (filled_in filler d)
  unfolding changes_of
  changes_are = ap (λ (e : Delivery). fillers filler d ++ mismatches h e) (fillers_leave filler d)

  pub changes_long : length (changes_of h filler d)
      ≡ length (fillers_in 0 filler d.centre) + length (fillers_in 1 filler d.neighbours) + length (mismatches h (filled_in filler d))
  changes_long =
      ap length changes_are ∙ length-append (fillers filler d) (mismatches h (filled_in filler d))
      ∙ ap (λ (k : ℕ). k + length (mismatches h (filled_in filler d))) (length-append (fillers_in 0 filler d.centre) (fillers_in 1 filler d.neighbours))
