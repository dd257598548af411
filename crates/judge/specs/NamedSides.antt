-- Document 01, 'Answers by number': a search for the first refusal that steps from one named side to the next, as 5 and 8 are judged.
use Rattle.std.specs.Prelude.{ℕ, ◌+◌, ◌≤◌, ◌<◌, ◌≡◌, refl, true, cond, Err, Ok, Some, None}
use Rattle.std.proofs.Common.{arith, ◌∙◌}
use Rattle.model.specs.declared.Refusal.{Refusal}
use Rattle.model.specs.Answers.{Verdict}
use Rattle.model.specs.Limits.{side_count}
use Rattle.model.specs.Refusals.{first}
use Rattle.model.specs.Sides.{named}
use Rattle.grid.specs.NamedSides.{SideGiven}
use Rattle.grid.specs.SideLaws.{NextSide}
use Rattle.judge.specs.First.{not_yet, passed_over_lem, hit}

-- what is judged at a named side; any other passes
abbrev pub of_named : ℕ → (ℕ → Verdict) → ℕ → Verdict
of_named mask judged side = cond (named mask side) (judged side) (Ok tt)

-- the walk over the named sides has gone past those below a side, with no refusal so far
pub record GonePast (mask : ℕ) (judged : ℕ → Verdict) (own from : ℕ) : Type 0 where
  pub same : own ≡ mask
  pub none : first (of_named mask judged) from ≡ Ok tt

-- the search has come to this named side, or past the last, with no refusal so far
pub record ComeTo (mask : ℕ) (judged : ℕ → Verdict) (side : ℕ) : Type 0 where
  pub le_six : side ≤ side_count
  pub is_named : side < side_count → named mask side ≡ true
  pub so_far : first (of_named mask judged) side ≡ Ok tt

module _ (mask : ℕ) (judged : ℕ → Verdict) where
  pub step_to : (from side : ℕ) → first (of_named mask judged) from ≡ Ok tt → NextSide mask from side → ComeTo mask judged side
  step_to from side so_far next = record {
    le_six = next.le_six;
    is_named = next.is_named;
    so_far = passed_over_lem (of_named mask judged) from side so_far (λ i l h. rw (next.none_between i l h)) next.from_le;
  }

  here : (side : ℕ) → ComeTo mask judged side → side < side_count → of_named mask judged side ≡ judged side
  here side come l = rw (come.is_named l)

  pub start_at : {side : ℕ} → NextSide mask 0 side → ComeTo mask judged side
  start_at {side} next = step_to 0 side refl next

  -- no refusal up to a side that passes
  pub go_past : {side : ℕ} → ComeTo mask judged side → side < side_count → judged side ≡ Ok tt → first (of_named mask judged) (side + 1) ≡ Ok tt
  go_past {side} come l passed = not_yet (of_named mask judged) side come.so_far (rw (here side come l) passed)

  pub go_on : {side after : ℕ} → ComeTo mask judged side → side < side_count → judged side ≡ Ok tt → NextSide mask (side + 1) after
      → ComeTo mask judged after
  go_on {side} {after} come l passed next =
      step_to (side + 1) after (go_past come l passed) next

  pub set_out : {own from : ℕ} → own ≡ mask → from ≡ 0 → GonePast mask judged own from
  set_out {own} {from} e z = record { same = e; none = rw z refl }

  -- the side that the walk gives next
  pub given : {own from side own' from' : ℕ} → GonePast mask judged own from → SideGiven own from (Some side) own' from' → ComeTo mask judged side
  given {own} {from} {side} past steps = step_to from side past.none (rw past.same at steps.0.0)

  pub gone_past : {own from side own' from' : ℕ} → GonePast mask judged own from → SideGiven own from (Some side) own' from'
      → judged side ≡ Ok tt → GonePast mask judged own' from'
  gone_past past steps passed = record { same = steps.1.0 ∙ past.same; none = rw steps.1.1 (go_past (given past steps) steps.0.1 passed) }

  pub ended : {own from own' from' : ℕ} → GonePast mask judged own from → SideGiven own from None own' from'
      → first (of_named mask judged) side_count ≡ Ok tt
  ended {own} {from} past steps = (step_to from side_count past.none (rw past.same at steps.0)).so_far

  pub all_passed : {side : ℕ} → ComeTo mask judged side → side_count ≤ side → first (of_named mask judged) side_count ≡ Ok tt
  all_passed {side} come l =
      let end : side ≡ side_count = omega arith in
      rw end at come.so_far

  pub refused_at : {side : ℕ} {r : Refusal} → ComeTo mask judged side → side < side_count → judged side ≡ Err r
      → first (of_named mask judged) side_count ≡ Err r
  refused_at {side} {r} come l refused = hit (of_named mask judged) side side_count r come.so_far (rw (here side come l) refused) l
