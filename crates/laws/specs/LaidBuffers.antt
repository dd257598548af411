-- A lent buffer whose first places are laid: what stands beyond, what stands at a place, one stretch more; and a list whose first items are
-- worked out in place. Assumes nothing.
use Rattle.std.specs.Prelude.{ℕ, ◌+◌, ◌-◌, ◌≤◌, ◌<◌, ◌≡◌, List, [], ◌∷◌, ◌++◌, map, length, get_or, take, drop, set}
use Rattle.std.proofs.Common.{zero-add, add-one, arith, sym, ap, ◌∙◌, append-nil, length-append, length-drop, take-append-drop, take-suc, length-take-le, get_or-append-add, get_or-drop, get_or-take}
use Rattle.std.proofs.lemmas.List.{map-append, length-map}
use Rattle.std.proofs.Math.ListN.{get_or-append}
use Rattle.std.proofs.lemmas.List.Edits.{sets}
use Rattle.std.proofs.Math.Seq.{take-length, drop-length}
use Rattle.laws.specs.Steps.{listed, laid}
use Rattle.laws.specs.Lists.{sets_append, sets_first, listed_is}

module _ {A : Type 0} (written before : List A) where
  pub laid_beyond : (j : ℕ) (d : A) → length written ≤ j → get_or (laid written before) j d ≡ get_or before j d
  laid_beyond j d l =
      let at : length written + (j - length written) ≡ j = omega arith in
      rw (← at) (get_or-append-add written (drop (length written) before) (j - length written) d ∙ get_or-drop (length written) before (j - length written) d)

  pub laid_first : (j : ℕ) (d : A) → j < length written → get_or (laid written before) j d ≡ get_or written j d
  laid_first j d l = get_or-append written (drop (length written) before) d j l

  -- one stretch more
  pub laid_more : (more : List A) → length written + length more ≤ length before
      → sets (laid written before) (length written) more ≡ laid (written ++ more) before
  laid_more more l =
      let all : length (written ++ more) ≤ length before = omega (arith, length-append written more) in
      rw (← sets_first before written (omega arith))
      (ap (λ (k : ℕ). sets (sets before 0 written) k more) (sym (zero-add (length written))) ∙ sets_append before 0 written more ∙ sets_first before (written ++ more) all)

module _ {A : Type 0} where
  -- what stands from n on, place by place
  pub listed_part : (l : List A) (n w : ℕ) (d : A) → n + w ≤ length l → listed (λ k. get_or l (n + k) d) w ≡ take w (drop n l)
  listed_part l n w d h =
      let part = take w (drop n l) in
      let long : length part ≡ w = length-take-le w (drop n l) (rw length-drop (omega arith)) in
      ap (listed (λ k. get_or l (n + k) d)) (sym long)
      ∙ listed_is (λ k. get_or l (n + k) d) part d (λ k less. sym (get_or-take w (drop n l) k d (rw long at less) ∙ get_or-drop n l k d))

  -- what was laid before, laid again
  pub laid_same : (n : ℕ) (l : List A) → n ≤ length l → laid (take n l) l ≡ l
  laid_same n l h = rw (length-take-le n l h) (take-append-drop n l)

-- ---- the first p items worked out

module _ {A : Type 0} (f : A → A) (l : List A) (p : ℕ) (d : A) (h : p < length l) where
  abbrev done : List A
  done = map f (take p l)

  done_long : length done ≡ p
  done_long = length-map (take p l) f ∙ length-take-le p l (omega arith)

  pub next_item : get_or (laid done l) p d ≡ get_or l p d
  next_item = laid_beyond done l p d (omega (arith, done_long))

  pub one_more : set (laid done l) p (f (get_or l p d)) ≡ laid (map f (take (p + 1) l)) l
  one_more =
      let item : List A = f (get_or l p d) ∷ [] in
      ap (λ (k : ℕ). sets (laid done l) k item) (sym done_long) ∙ laid_more done l item (omega (arith, done_long))
      ∙ rw (add-one, take-suc l p d h, map-append)

module _ {A : Type 0} (f : A → A) (l : List A) where
  pub all_done : laid (map f (take (length l) l)) l ≡ map f l
  all_done = rw (take-length l, length-map, drop-length l) (append-nil (map f l))
