-- Document 02, [5]: changes in a list of samples, at most one at each of so many spots. What they leave at a place, where no two spots are the
-- same place; and changes whose old bits are what stood there just before, so that undone backwards they give the delivery back. Assumes nothing.
use Rattle.std.specs.Prelude.{ℕ, zero, suc, ◌<◌, ◌≡◌, refl, Bool, true, false, cond, List, [], ◌∷◌, ◌++◌, length, get_or, take, set}
use Rattle.std.proofs.Common.{zero-le, suc-le-suc, not-suc-le-zero, le_of_suc-le-suc, eq-or-lt_of_le, le_refl, arith, sym, ap, ◌∙◌, ⊎_elim, length-set, get_or-set_same, get_or-set_other, set-set}
use Rattle.std.proofs.Math.Nat.{le_step}
use Rattle.std.proofs.lemmas.List.{set-get_or}
use Rattle.laws.specs.Counting.{gather}
use Rattle.repair.specs.declared.Change.{Change}
use Rattle.repair.specs.Definition.{Delivery, delivery, in_list, replaced, put, made, applied, undone, change_unless}

-- ---- a list of a delivery, replaced

in_replaced : (list : ℕ) (bits : List ℕ) (d : Delivery) → in_list list (replaced list bits d) ≡ bits
in_replaced zero bits d = refl
in_replaced (suc k) bits d = refl

replaced_again : (list : ℕ) (one other : List ℕ) (d : Delivery) → replaced list other (replaced list one d) ≡ replaced list other d
replaced_again zero one other d = refl
replaced_again (suc k) one other d = refl

replaced_same : (list : ℕ) (d : Delivery) → replaced list (in_list list d) d ≡ d
replaced_same zero d = refl
replaced_same (suc k) d = refl

-- a number of a list that is 0, and one that is not

module _ (list : ℕ) (d : Delivery) where
  pub in_centre : list ≡ 0 → in_list list d ≡ d.centre
  in_centre e = ap (λ (l : ℕ). in_list l d) e

  pub put_centre : (place bits : ℕ) → list ≡ 0 → delivery (set d.centre place bits) d.neighbours ≡ put list place bits d
  put_centre place bits e = sym (ap (λ (l : ℕ). put l place bits d) e)

pub in_neighbours : (list : ℕ) (d : Delivery) → (list ≡ 0 → ⊥) → in_list list d ≡ d.neighbours
in_neighbours zero d h = absurd (h refl)
in_neighbours (suc k) d h = refl

pub put_neighbours : (list place bits : ℕ) (d : Delivery) → (list ≡ 0 → ⊥) → delivery d.centre (set d.neighbours place bits) ≡ put list place bits d
put_neighbours zero place bits d h = absurd (h refl)
put_neighbours (suc k) place bits d h = refl

-- ---- changes one after another

pub applied_append : (one other : List Change) (d : Delivery) → applied (one ++ other) d ≡ applied other (applied one d)
applied_append [] other d = refl
applied_append (c ∷ one) other d = applied_append one other (made c d)

pub length_put_in : (list place bits other : ℕ) (d : Delivery) → length (in_list other (put list place bits d)) ≡ length (in_list other d)
length_put_in zero place bits zero d = length-set d.centre place bits
length_put_in zero place bits (suc k) d = refl
length_put_in (suc i) place bits zero d = refl
length_put_in (suc i) place bits (suc k) d = length-set d.neighbours place bits

pub length_applied : (changes : List Change) (list : ℕ) (d : Delivery) → length (in_list list (applied changes d)) ≡ length (in_list list d)
length_applied [] list d = refl
length_applied (c ∷ rest) list d =
    length_applied rest list (made c d) ∙ length_put_in c.list c.place c.new list d

-- ---- changes that tell what stood there

pub record Tells (c : Change) (d : Delivery) : Type 0 where
  pub list_is : c.list < 2
  pub old_is : get_or (in_list c.list d) c.place 0 ≡ c.old
  pub within : c.place < length (in_list c.list d)

abbrev pub AllTell : List Change → Delivery → Type 0
AllTell [] d = Unit {0}
AllTell (c ∷ rest) d = Tells c d × AllTell rest (made c d)

pub told_append : (one other : List Change) (d : Delivery) → AllTell one d → AllTell other (applied one d) → AllTell (one ++ other) d
told_append [] other d a b = b
told_append (c ∷ one) other d a b = (a.0, told_append one other (made c d) a.1 b)

-- each of them, by its number
pub told_at : (changes : List Change) (d : Delivery) (k : ℕ) (none : Change) → AllTell changes d → k < length changes
    → Tells (get_or changes k none) (applied (take k changes) d)
told_at [] d k none t h = absurd (not-suc-le-zero h)
told_at (c ∷ rest) d zero none t h = t.0
told_at (c ∷ rest) d (suc k) none t h = told_at rest (made c d) k none t.1 (le_of_suc-le-suc h)

-- its new bits stand there after it
pub after_put : (list place bits : ℕ) (d : Delivery) → place < length (in_list list d) → get_or (in_list list (put list place bits d)) place 0 ≡ bits
after_put list place bits d h =
    ap (λ (l : List ℕ). get_or l place 0) (in_replaced list (set (in_list list d) place bits) d) ∙ get_or-set_same (in_list list d) place bits 0 h

pub undone_gives_back : (changes : List Change) (d : Delivery) → AllTell changes d → undone changes (applied changes d) ≡ d
undone_gives_back [] d t = refl
undone_gives_back (c ∷ rest) d t =
    let l = in_list c.list d in
    ap (put c.list c.place c.old) (undone_gives_back rest (made c d) t.1)
    ∙ replaced_again c.list (set l c.place c.new) _ d
    ∙ ap (λ (m : List ℕ). replaced c.list m d)
    (ap (λ (m : List ℕ). set m c.place c.old) (in_replaced c.list (set l c.place c.new) d)
    ∙ set-set l c.place c.new c.old ∙ ap (set l c.place) (sym t.0.old_is) ∙ set-get_or l c.place 0)
    ∙ replaced_same c.list d

-- ---- a place that no change is at

put_elsewhere : (list place bits other at : ℕ) (d : Delivery) → list < 2 → other < 2 → (list ≡ other → place ≡ at → ⊥)
    → get_or (in_list other (put list place bits d)) at 0 ≡ get_or (in_list other d) at 0
put_elsewhere zero place bits zero at d l m apart = get_or-set_other d.centre place at bits 0 (λ e. apart refl (sym e))
put_elsewhere zero place bits (suc k) at d l m apart = refl
put_elsewhere (suc i) place bits zero at d l m apart = refl
put_elsewhere (suc i) place bits (suc k) at d l m apart =
    let same : suc i ≡ suc k = omega arith in
    get_or-set_other d.neighbours place at bits 0 (λ e. apart same (sym e))

pub unlisted_kept : (changes : List Change) (d : Delivery) (none : Change) (list at : ℕ) → AllTell changes d → list < 2
    → ((k : ℕ) → k < length changes → (get_or changes k none).list ≡ list → (get_or changes k none).place ≡ at → ⊥)
    → get_or (in_list list (applied changes d)) at 0 ≡ get_or (in_list list d) at 0
unlisted_kept [] d none list at t few apart = refl
unlisted_kept (c ∷ rest) d none list at t few apart =
    unlisted_kept rest (made c d) none list at t.1 few (λ k h. apart (suc k) (suc-le-suc h))
    ∙ put_elsewhere c.list c.place c.new list at d t.0.list_is few (apart 0 (suc-le-suc zero-le))

-- ---- a change at each spot that is not as it should be

-- spots in a row: which are as they should be, and of each its place, the bits that stand there and those that it takes where it is not
pub record Row : Type 0 where
  pub good : ℕ → Bool
  pub place : ℕ → ℕ
  pub old : ℕ → ℕ
  pub new : ℕ → ℕ

module _ (row : Row) where
  -- a list of samples after spot k, and after the first n
  abbrev pub turn : ℕ → List ℕ → List ℕ
  turn k bits = cond (row.good k) bits (set bits (row.place k) (row.new k))

  abbrev pub after : ℕ → List ℕ → List ℕ
  after zero bits = bits
  after (suc n) bits = turn n (after n bits)

  length_turn : (k : ℕ) (bits : List ℕ) (b : Bool) → length (cond b bits (set bits (row.place k) (row.new k))) ≡ length bits
  length_turn k bits true = refl
  length_turn k bits false = length-set bits (row.place k) (row.new k)

  pub length_after : (n : ℕ) (bits : List ℕ) → length (after n bits) ≡ length bits
  length_after zero bits = refl
  length_after (suc n) bits = length_turn n (after n bits) (row.good n) ∙ length_after n bits

  turn_other : (k at : ℕ) (bits : List ℕ) → (row.good k ≡ false → at ≡ row.place k → ⊥) → get_or (turn k bits) at 0 ≡ get_or bits at 0
  turn_other k at bits apart = by (row.good k) refl
    where
      by : (b : Bool) → row.good k ≡ b → get_or (cond b bits (set bits (row.place k) (row.new k))) at 0 ≡ get_or bits at 0
      by true e = refl
      by false e = get_or-set_other bits (row.place k) at (row.new k) 0 (apart e)

  -- a place that no change is at
  after_other : (n at : ℕ) (bits : List ℕ) → ((k : ℕ) → k < n → row.good k ≡ false → at ≡ row.place k → ⊥)
      → get_or (after n bits) at 0 ≡ get_or bits at 0
  after_other zero at bits apart = refl
  after_other (suc n) at bits apart =
      turn_other n at (after n bits) (apart n (le_refl _)) ∙ after_other n at bits (λ k h. apart k (le_step h))

  turn_here : (k : ℕ) (bits : List ℕ) → row.place k < length bits
      → get_or (turn k bits) (row.place k) 0 ≡ cond (row.good k) (get_or bits (row.place k) 0) (row.new k)
  turn_here k bits h = by (row.good k)
    where
      by : (b : Bool)
          → get_or (cond b bits (set bits (row.place k) (row.new k))) (row.place k) 0 ≡ cond b (get_or bits (row.place k) 0) (row.new k)
      by true = refl
      by false = get_or-set_same bits (row.place k) (row.new k) 0 h

  -- the place of a spot that is no other's
  pub after_here : (n k : ℕ) (bits : List ℕ) → k < n → row.place k < length bits
      → ((j : ℕ) → j < n → row.good j ≡ false → (j ≡ k → ⊥) → row.place k ≡ row.place j → ⊥)
      → get_or (after n bits) (row.place k) 0 ≡ cond (row.good k) (get_or bits (row.place k) 0) (row.new k)
  after_here zero k bits h within apart = absurd (not-suc-le-zero h)
  after_here (suc n) k bits h within apart =
      ⊎_elim last
      (λ l.
      turn_other n (row.place k) (after n bits) (λ bad. apart n (le_refl _) bad (λ q. omega arith))
      ∙ after_here n k bits l within (λ j m. apart j (le_step m)))
      (eq-or-lt_of_le (le_of_suc-le-suc h))
    where
      last : k ≡ n → get_or (after (suc n) bits) (row.place k) 0 ≡ cond (row.good k) (get_or bits (row.place k) 0) (row.new k)
      last e =
          let here : get_or (turn k (after n bits)) (row.place k) 0 ≡ cond (row.good k) (get_or (after n bits) (row.place k) 0) (row.new k) =
          turn_here k (after n bits) (rw (length_after n bits) within) in
          let before : get_or (after n bits) (row.place k) 0 ≡ get_or bits (row.place k) 0 =
          after_other n (row.place k) bits (λ j l bad. apart j (le_step l) bad (λ q. omega arith)) in
          ap (λ (j : ℕ). get_or (turn j (after n bits)) (row.place k) 0) (sym e)
          ∙ here ∙ ap (λ (x : ℕ). cond (row.good k) x (row.new k)) before

-- ---- its changes, in a list of a delivery

module _ (list : ℕ) (row : Row) where
  abbrev pub change_of : ℕ → Change
  change_of k = record { list = list; place = row.place k; old = row.old k; new = row.new k }

  abbrev pub spot : ℕ → List Change
  spot k = change_unless (row.good k) (change_of k)

  applied_spot : (k : ℕ) (bits : List ℕ) (d : Delivery) → applied (spot k) (replaced list bits d) ≡ replaced list (turn row k bits) d
  applied_spot k bits d = by (row.good k)
    where
      by : (b : Bool)
          → applied (change_unless b (change_of k)) (replaced list bits d)
          ≡ replaced list (cond b bits (set bits (row.place k) (row.new k))) d
      by true = refl
      by false =
          replaced_again list bits _ d
          ∙ ap (λ (l : List ℕ). replaced list (set l (row.place k) (row.new k)) d) (in_replaced list bits d)

  pub applied_spots : (n : ℕ) (d : Delivery) → applied (gather spot n) d ≡ replaced list (after row n (in_list list d)) d
  applied_spots zero d = sym (replaced_same list d)
  applied_spots (suc n) d =
      applied_append (gather spot n) (spot n) d
      ∙ ap (applied (spot n)) (applied_spots n d) ∙ applied_spot n (after row n (in_list list d)) d

  -- ---- what the changes tell

  module _ (few : list < 2) (d : Delivery) where
    abbrev held : List ℕ
    held = in_list list d

    told_spot : (k : ℕ) (bits : List ℕ) → (row.good k ≡ false → get_or bits (row.place k) 0 ≡ row.old k)
        → (row.good k ≡ false → row.place k < length bits) → AllTell (spot k) (replaced list bits d)
    told_spot k bits is within = by (row.good k) refl
      where
        by : (b : Bool) → row.good k ≡ b → AllTell (change_unless b (change_of k)) (replaced list bits d)
        by true e = tt
        by false e = (
          record {
            list_is = few;
            old_is = ap (λ (l : List ℕ). get_or l (row.place k) 0) (in_replaced list bits d) ∙ is e;
            within = rw (in_replaced list bits d) (within e);
          },
          tt,
        )

    pub told_spots : (n : ℕ) → ((k : ℕ) → k < n → row.good k ≡ false → get_or held (row.place k) 0 ≡ row.old k)
        → ((k : ℕ) → k < n → row.good k ≡ false → row.place k < length held)
        → ((j k : ℕ) → j < k → k < n → row.good j ≡ false → row.good k ≡ false → row.place k ≡ row.place j → ⊥) → AllTell (gather spot n) d
    told_spots zero is within apart = tt
    told_spots (suc n) is within apart =
        told_append (gather spot n) (spot n) d
        (told_spots n (λ k h. is k (le_step h)) (λ k h. within k (le_step h)) (λ j k l h. apart j k l (le_step h)))
        (rw (applied_spots n d)
        (told_spot n (after row n held)
        (λ bad. after_other row n (row.place n) held (λ j l e. apart j n l (le_refl _) e bad) ∙ is n (le_refl _) bad)
        (λ bad. rw (length_after row n held) (within n (le_refl _) bad))))
