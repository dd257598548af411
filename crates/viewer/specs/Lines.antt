-- The samples that decide whether a record is blank lie on lines: the block's own on one, and the fine ones of a named side on one for each step
-- along U.
use Rattle.std.specs.Prelude.{ℕ, ◌+◌, ◌*◌, ◌≤◌, ◌<◌, ◌≡◌, true, ◌&&◌, List, Float, get_or}
use Rattle.std.proofs.Math.Path.{sym, ap}
use Rattle.std.proofs.Common.{◌∙◌, subst, get_or-take}
use Rattle.std.proofs.Math.Bool.{Bool}
use native.Mathlib.Omega.{arith}
use Rattle.std.specs.Float.{nan}
use Rattle.laws.specs.Below.{all_below}
use Rattle.laws.specs.Ranges.{same_below}
use Rattle.model.specs.declared.Header.{Header}
use Rattle.model.specs.Limits.{most_subdivisions, side_count}
use Rattle.model.specs.Samples.{sample_length}
use Rattle.model.specs.Sides.{named}
use Rattle.model.specs.Formulas.{inside}
use Rattle.model.specs.Record.{header_of, count_of, samples_of, star_of}
use Rattle.model.specs.Blank.{lies_as, centre_as, side_as, sides_as, is_blank}
use Rattle.grid.specs.Places.{small}
use Rattle.record.specs.Accepted.{Accepted}
use Rattle.lines.specs.declared.Line.{Line}
use Rattle.lines.specs.Lines.{by_one, place_on, OnLine, NamedSide, fine_line, fine_on, fine_read, side_of}

-- they are inside, or are not, as b says
abbrev pub line_as : Bool → Float → List Float → Line → Bool
line_as b threshold samples line = all_below (λ k. lies_as b threshold (get_or samples (place_on line k) nan)) line.points

-- ---- the block's own samples, and those of a named side; in both h is the record's header

module _ (h : Header) where
  abbrev pub own_line : Line
  own_line =
      let m = h.block.subdivisions + 1 in
      record { start = 0; first = 0; step = by_one; points = m * m * m }

  pub record OwnLined (bytes : List ℕ) : Type 0 where
    pub few : h.block.subdivisions ≤ most_subdivisions
    pub on_line : (k : ℕ) → k < own_line.points → OnLine (count_of bytes) own_line k
    -- blank, in the two parts that it is worked out in
    pub blank_is : {wanted found : Bool} → wanted ≡ inside h.threshold (get_or (samples_of bytes) 0 nan)
        → found ≡ line_as wanted h.threshold (samples_of bytes) own_line → is_blank (star_of bytes) ≡ found && sides_as wanted (star_of bytes)

module _ (h : Header) (side : ℕ) where
  pub record SideLined (bytes : List ℕ) : Type 0 where
    pub is_side : NamedSide h side
    pub on_line : (u2 : ℕ) → u2 ≤ 2 * h.block.subdivisions → (k : ℕ) → k < (fine_line h side u2).points → OnLine (count_of bytes) (fine_line h side u2) k
    pub side_is : (b : Bool)
        → side_as b (star_of bytes) side ≡ all_below (λ u2. line_as b h.threshold (samples_of bytes) (fine_line h side u2)) (2 * h.block.subdivisions + 1)

module _ (bytes : List ℕ) (a : Accepted bytes) where
  abbrev n : ℕ
  n = (header_of bytes).block.subdivisions

  centre_read : (k : ℕ) → k < (n + 1) * (n + 1) * (n + 1) → get_or (star_of bytes).centre k nan ≡ get_or (samples_of bytes) (place_on (own_line (header_of bytes)) k) nan
  centre_read k h =
      let at : k ≡ place_on (own_line (header_of bytes)) k = omega arith in
      get_or-take (sample_length n) (samples_of bytes) k nan (omega arith) ∙ ap (λ (i : ℕ). get_or (samples_of bytes) i nan) at

  first_read : get_or (star_of bytes).centre 0 nan ≡ get_or (samples_of bytes) 0 nan
  first_read = get_or-take (sample_length n) (samples_of bytes) 0 nan (omega arith)

  own : OwnLined (header_of bytes) bytes
  unfolding is_blank centre_as
  own =
      let t = (header_of bytes).threshold in
      let in_part : Bool → Bool = λ b. line_as b t (samples_of bytes) (own_line (header_of bytes)) && sides_as b (star_of bytes) in
      record {
        few = a.few;
        on_line = λ k h. record { leads = omega (arith, (small n (omega (arith, a.few))).cube); there = omega arith };
        blank_is = λ {wanted} {found} first line.
            let b = inside t (get_or (star_of bytes).centre 0 nan) in
            ap (λ (c : Bool). c && sides_as b (star_of bytes)) (same_below _ _ ((n + 1) * (n + 1) * (n + 1)) (λ k h. ap (lies_as b t) (centre_read k h)))
            ∙ ap in_part (ap (inside t) first_read ∙ sym first) ∙ ap (λ (c : Bool). c && sides_as wanted (star_of bytes)) (sym line);
      }

  pub own_lined : (h : Header) → h ≡ header_of bytes → OwnLined h bytes
  own_lined h e = subst (λ (g : Header). OwnLined g bytes) (sym e) own

  lined : (side : ℕ) → NamedSide (header_of bytes) side → SideLined (header_of bytes) side bytes
  unfolding side_as
  lined side is =
      record {
        is_side = is;
        on_line = λ u2 hu k h. fine_on bytes side is u2 k hu (omega arith);
        side_is = λ b. same_below _ _ (2 * n + 1)
            (λ u2 hu. same_below _ _ (2 * n + 1)
            (λ v2 hv. ap (lies_as b (header_of bytes).threshold) (sym (fine_read bytes side is u2 v2 (omega arith) (omega arith)))));
      }

  pub side_lined : (h : Header) → h ≡ header_of bytes → (side : ℕ) → side < side_count → named h.mask side ≡ true → SideLined h side bytes
  side_lined h e side hs is_named =
      subst (λ (g : Header). SideLined g side bytes) (sym e) (lined side (rw e at (side_of bytes a h e side hs is_named)))
