-- A test of each named side, worked out by steps from one named side to the next.
use Rattle.std.specs.Prelude.{ℕ, ◌+◌, ◌≤◌, ◌<◌, ◌≡◌, refl, Bool, true, false, List, Some, None}
use Rattle.std.proofs.Common.{◌∙◌, ap, arith}
use Rattle.laws.specs.Tests.{then}
use Rattle.laws.specs.Below.{all_below}
use Rattle.laws.specs.Ranges.{hold_over, hold_more, fail_all}
use Rattle.model.specs.declared.Header.{Header}
use Rattle.model.specs.Limits.{side_count}
use Rattle.model.specs.Sides.{named}
use Rattle.model.specs.Record.{header_of, star_of}
use Rattle.model.specs.Blank.{side_as, sides_as}
use Rattle.grid.specs.NamedSides.{SideGiven}
use Rattle.grid.specs.SideLaws.{NextSide}

module _ (mask : ℕ) (P : ℕ → Bool) where
  abbrev pub of_named : ℕ → Bool
  of_named side = then (named mask side) (P side)

  -- the steps have come to this named side, or past the last, and the test holds of all before it
  pub record Come (side : ℕ) : Type 0 where
    pub le_six : side ≤ side_count
    pub is_named : side < side_count → named mask side ≡ true
    pub so_far : all_below of_named side ≡ true

  step_to : (from side : ℕ) → all_below of_named from ≡ true → NextSide mask from side → Come side
  unfolding then
  step_to from side so_far next =
      record {
        le_six = next.le_six;
        is_named = next.is_named;
        so_far = hold_over of_named from side so_far (λ i l h. rw (next.none_between i l h));
      }

  here : (side : ℕ) → Come side → side < side_count → of_named side ≡ P side
  unfolding then
  here side come l = rw (come.is_named l)

  pub start_at : {side : ℕ} → NextSide mask 0 side → Come side
  start_at {side} next = step_to 0 side refl next

  go_past : {side : ℕ} → Come side → side < side_count → P side ≡ true → all_below of_named (side + 1) ≡ true
  go_past {side} come l holds = hold_more of_named side come.so_far (rw (here side come l) holds)

  pub go_on : {side after : ℕ} → Come side → side < side_count → P side ≡ true → NextSide mask (side + 1) after → Come after
  go_on {side} {after} come l holds next = step_to (side + 1) after (go_past come l holds) next

  -- the walk over the named sides has gone past those below a side, and the test holds of each
  pub record GonePast (own from : ℕ) : Type 0 where
    pub same : own ≡ mask
    pub so_far : all_below of_named from ≡ true

  pub set_out : {own from : ℕ} → own ≡ mask → from ≡ 0 → GonePast own from
  set_out {own} {from} e z = record { same = e; so_far = rw z refl }

  -- the side that the walk gives next
  pub given : {own from side own' from' : ℕ} → GonePast own from → SideGiven own from (Some side) own' from' → Come side
  given {own} {from} {side} past steps = step_to from side past.so_far (rw past.same at steps.0.0)

  pub gone_past : {own from side own' from' : ℕ} → GonePast own from → SideGiven own from (Some side) own' from' → P side ≡ true → GonePast own' from'
  gone_past past steps holds = record { same = steps.1.0 ∙ past.same; so_far = rw steps.1.1 (go_past (given past steps) steps.0.1 holds) }

  pub ended : {own from own' from' : ℕ} → GonePast own from → SideGiven own from None own' from' → all_below of_named side_count ≡ true
  ended {own} {from} past steps = (step_to from side_count past.so_far (rw past.same at steps.0)).so_far

  pub all_hold : {side : ℕ} → Come side → side_count ≤ side → all_below of_named side_count ≡ true
  all_hold {side} come l =
      let end : side ≡ side_count = omega arith in
      rw end at come.so_far

  pub fails_at : {side : ℕ} → Come side → side < side_count → P side ≡ false → all_below of_named side_count ≡ false
  fails_at {side} come l fails = fail_all of_named side_count side l (rw (here side come l) fails)

-- with the record's header, it is the definition's test
pub sides_are : (bytes : List ℕ) (h : Header) (b : Bool) → h ≡ header_of bytes
    → all_below (of_named h.mask (side_as b (star_of bytes))) side_count ≡ sides_as b (star_of bytes)
unfolding sides_as
sides_are bytes h b e = ap (λ (g : Header). all_below (of_named g.mask (side_as b (star_of bytes))) side_count) e
