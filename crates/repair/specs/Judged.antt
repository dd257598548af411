-- Document 01, 'Answers by number': 7 over a delivery's bits: it passes exactly if every sample is usable.
use Rattle.std.specs.Prelude.{ℕ, ◌+◌, ◌<◌, ◌≡◌, refl, true, List, ◌++◌, map, Float, length, get_or, Ok}
use Rattle.std.proofs.Common.{zero-le, sym, ap, ◌∙◌}
use Rattle.std.specs.Float.{nan}
use Rattle.std.proofs.lemmas.List.{length-map}
use Rattle.laws.specs.Rounds.{get_d_mapped}
use Rattle.model.specs.declared.Refusal.TheVariants.{BadSample}
use Rattle.model.specs.Judging.{usable, judge_samples}
use Rattle.judge.specs.First.{both_passed, unless_passed, each_passed, passed_over_lem}
use Rattle.judge.specs.Counted.{usable_from, judge_from, one_after_the_other}
use Rattle.repair.specs.Definition.{Delivery, value_of}

-- every sample can be used
abbrev pub AllUsable : List ℕ → Type 0
AllUsable bits = (k : ℕ) → k < length bits → usable (value_of (get_or bits k 0)) ≡ true

module _ (from : ℕ) (bits : List ℕ) where
  list_passes : AllUsable bits → judge_from from (map value_of bits) ≡ Ok tt
  list_passes all =
      passed_over_lem (usable_from from (map value_of bits)) 0 (length (map value_of bits)) refl
      (λ k _ l. let h : k < length bits = rw length-map at l in rw (get_d_mapped value_of bits k 0 nan h, all k h)) zero-le

  list_usable : judge_from from (map value_of bits) ≡ Ok tt → AllUsable bits
  list_usable passed k h =
      let l : k < length (map value_of bits) = rw length-map h in
      ap usable (sym (get_d_mapped value_of bits k 0 nan h))
      ∙ unless_passed _ (BadSample (from + k)) (each_passed (usable_from from (map value_of bits)) (length (map value_of bits)) k passed l)

module _ (d : Delivery) where
  abbrev samples : List Float
  samples = map value_of d.centre ++ map value_of d.neighbours

  pub lists_pass : AllUsable d.centre → AllUsable d.neighbours → judge_samples samples ≡ Ok tt
  lists_pass a b =
      one_after_the_other (map value_of d.centre) (map value_of d.neighbours)
      ∙ rw (list_passes 0 d.centre a) (list_passes (length (map value_of d.centre)) d.neighbours b)

  pub lists_usable : judge_samples samples ≡ Ok tt → AllUsable d.centre × AllUsable d.neighbours
  lists_usable passed =
      let both = both_passed _ _ (sym (one_after_the_other (map value_of d.centre) (map value_of d.neighbours)) ∙ passed) in
      (list_usable 0 d.centre both.0, list_usable (length (map value_of d.centre)) d.neighbours both.1)
