-- Document 02, [5]: the list of changes in a lent buffer, four words a change: what was found at a spot, laid behind what is there, and read back.
-- Assumes nothing.
use Rattle.std.specs.Prelude.{ℕ, zero, suc, ◌+◌, ◌*◌, ◌/◌, ◌≤◌, ◌<◌, ◌≡◌, refl, List, [], ◌∷◌, ◌++◌, length, get_or, take, drop, None, Some}
use Rattle.std.proofs.Common.{sym, ap, ap₂, ◌∙◌, subst, add-zero, le_of_lt, add-one, arith, length-append, take-suc}
use Rattle.std.proofs.Math.ListN.{get_or-append}
use Rattle.std.proofs.lemmas.List.Edits.{sets}
use Rattle.std.proofs.Math.Seq.{take-length}
use Rattle.laws.specs.Steps.{iterate, each, laid}
use Rattle.laws.specs.Counting.{gather}
use Rattle.laws.specs.Iterated.{iterate_keeps}
use Rattle.laws.specs.Lists.{length_each, sets_first}
use Rattle.laws.specs.Laying.{lay, lay_none, length_lay, lay_append}
use Rattle.repair.specs.declared.Change.{Change}
use Rattle.repair.specs.Answers.{Found}
use Rattle.repair.specs.Definition.{Delivery, in_list, made, applied, no_change, words_of}
use Rattle.laws.specs.Rounds.{gather_upto, each_at}
use Rattle.repair.specs.Spots.{applied_append, length_put_in, length_applied, AllTell, told_at}

abbrev pub found_of : Found → List Change
found_of (Some c) = c ∷ []
found_of None = []

pub few_found : (found : Found) → length (found_of found) ≤ 1
few_found (Some c) = omega arith
few_found None = omega arith

-- the changes stand as entries from `at` on, and `next` is the entry after them
pub record Put (before : List ℕ) (at : ℕ) (changes : List Change) (next : ℕ) (after : List ℕ) : Type 0 where
  pub next_is : next ≡ at + length changes
  pub laid_is : after ≡ lay 4 words_of before at changes

pub put_none : (before : List ℕ) (at : ℕ) → Put before at [] at before
put_none before at = record { next_is = sym (add-zero at); laid_is = sym (lay_none 4 words_of before at) }

pub put_more : {before middle after : List ℕ} {at from next : ℕ} {one other : List Change}
    → Put before at one from middle → Put middle from other next after → Put before at (one ++ other) next after
put_more {before} {middle} {after} {at} {from} {next} {one} {other} p q =
    record {
      next_is = omega (arith, q.next_is, p.next_is, length-append one other);
      laid_is =
          q.laid_is ∙ ap₂ (λ (l : List ℕ) (k : ℕ). lay 4 words_of l k other) p.laid_is p.next_is
          ∙ lay_append 4 words_of (λ c. refl) before at one other;
    }

pub put_one : (before : List ℕ) (at : ℕ) (c : Change) → Put before at (c ∷ []) (at + 1) (sets before (4 * at) (words_of c))
unfolding lay
put_one before at c = record { next_is = refl; laid_is = refl }

pub length_put : {before after : List ℕ} {at next : ℕ} {changes : List Change} → Put before at changes next after → length after ≡ length before
length_put {before} {after} {at} {next} {changes} p = ap length p.laid_is ∙ length_lay 4 words_of before at changes

-- all are counted, and where there is room for all of them they stand so
pub record Listed (before : List ℕ) (at : ℕ) (changes : List Change) (next : ℕ) (after : List ℕ) : Type 0 where
  pub next_is : next ≡ at + length changes
  pub long : length after ≡ length before
  pub put : 4 * (at + length changes) ≤ length before → Put before at changes next after

pub listed_none : (before : List ℕ) (at : ℕ) → Listed before at [] at before
listed_none before at = record { next_is = sym (add-zero at); long = refl; put = λ _. put_none before at }

pub listed_one : (before : List ℕ) (at : ℕ) (c : Change) → Listed before at (c ∷ []) (at + 1) (sets before (4 * at) (words_of c))
listed_one before at c = let one = put_one before at c in record { next_is = refl; long = length_put one; put = λ _. one }

pub listed_past : (before : List ℕ) (at : ℕ) (c : Change) → length before / 4 ≤ at → Listed before at (c ∷ []) (at + 1) before
listed_past before at c l = record { next_is = refl; long = refl; put = λ room. absurd (omega arith) }

pub listed_more : {before middle after : List ℕ} {at from next : ℕ} {one other : List Change}
    → Listed before at one from middle → Listed middle from other next after → Listed before at (one ++ other) next after
listed_more {before} {middle} {after} {at} {from} {next} {one} {other} p q =
    record {
      next_is = omega (arith, q.next_is, p.next_is, length-append one other);
      long = q.long ∙ p.long;
      put = λ room.
          put_more (p.put (omega (arith, length-append one other)))
          (q.put (omega (arith, p.next_is, p.long, length-append one other)));
    }

-- ---- what is found at one spot after another

pub count_turn : (f : ℕ → List Change) {k count more : ℕ} {found : List Change} → count ≡ length (gather f k) → more ≡ length found → found ≡ f k
    → count + more ≡ length (gather f (k + 1))
count_turn f {k} counted more-is found-is = rw add-one (ap₂ ◌+◌ counted (more-is ∙ ap length found-is) ∙ sym (length-append (gather f k) (f k)))

module _ (f : ℕ → List Change) (from : ℕ) where
  pub room_for : (n k room : ℕ) {at : ℕ} {found : List Change} → k < n → at ≡ from + length (gather f k) → found ≡ f k
      → 4 * (from + length (gather f n)) ≤ room → 4 * (at + length found) ≤ room
  room_for n k room h at-is found-is fits =
      omega (arith, gather_upto f (suc k) n h, length-append (gather f k) (f k), ap length found-is)

  pub put_turn : {k : ℕ} {before middle after : List ℕ} {at next : ℕ} {found : List Change} → Put before from (gather f k) at middle
      → Put middle at found next after → found ≡ f k → Put before from (gather f (k + 1)) next after
  put_turn {k} p q found-is = rw (add-one, ← found-is) (put_more p q)

  pub listed_turn : {k : ℕ} {before middle after : List ℕ} {at next : ℕ} {found : List Change} → Listed before from (gather f k) at middle
      → Listed middle at found next after → found ≡ f k → Listed before from (gather f (k + 1)) next after
  listed_turn {k} p q found-is = rw (add-one, ← found-is) (listed_more p q)

-- ---- read back

abbrev pub change_in : List ℕ → ℕ → Change
change_in words k =
    record { list = get_or words (4 * k) 0; place = get_or words (4 * k + 1) 0; old = get_or words (4 * k + 2) 0; new = get_or words (4 * k + 3) 0 }

-- the delivery with change k made
abbrev pub makes : List ℕ → ℕ → Delivery → Delivery
makes words k = made (change_in words k)

pub length_made : (words : List ℕ) (k list : ℕ) (d : Delivery) → length (in_list list (iterate (makes words) k d)) ≡ length (in_list list d)
length_made words k list d =
    iterate_keeps (λ d. length (in_list list d)) (makes words) (λ k d. length_put_in (change_in words k).list (change_in words k).place (change_in words k).new list d) d k

-- each of the first so many is at a place that is there
abbrev pub AllWithin : List ℕ → ℕ → Delivery → Type 0
AllWithin words count d = (k : ℕ) → k < count → (change_in words k).place < length (in_list (change_in words k).list d)

module _ (changes : List Change) (before : List ℕ) (room : 4 * length changes ≤ length before) where
  abbrev left : List ℕ
  left = lay 4 words_of before 0 changes

  words_long : length (each words_of changes) ≡ 4 * length changes
  words_long = length_each words_of 4 changes (λ c. refl)

  pub left_is : left ≡ laid (each words_of changes) before
  unfolding lay
  left_is = sets_first before (each words_of changes) (omega (arith, words_long))

  word_back : (k j : ℕ) → k < length changes → j < 4 → get_or left (4 * k + j) 0 ≡ get_or (words_of (get_or changes k no_change)) j 0
  word_back k j h small =
      ap (λ (l : List ℕ). get_or l (4 * k + j) 0) left_is
      ∙ get_or-append (each words_of changes) (drop (length (each words_of changes)) before) 0 (4 * k + j) (omega (arith, words_long))
      ∙ each_at words_of 4 (λ c. refl) changes k j no_change 0 h small

  change_back : (k : ℕ) → k < length changes → change_in left k ≡ get_or changes k no_change
  change_back k h =
      let first : get_or left (4 * k) 0 ≡ (get_or changes k no_change).list = rw add-zero at (word_back k 0 h (omega arith)) in
      λ i.
      record {
        list = first i;
        place = word_back k 1 h (omega arith) i;
        old = word_back k 2 h (omega arith) i;
        new = word_back k 3 h (omega arith) i;
      }

  made_upto : (k : ℕ) (d : Delivery) → k ≤ length changes → iterate (makes left) k d ≡ applied (take k changes) d
  made_upto zero d h = refl
  made_upto (suc k) d h =
      let c = get_or changes k no_change in
      ap₂ made (change_back k h) (made_upto k d (le_of_lt h))
      ∙ sym (ap (λ (l : List Change). applied l d) (take-suc changes k no_change h) ∙ applied_append (take k changes) (c ∷ []) d)

  -- made one after another, they are the list's changes
  pub all_made : (d : Delivery) → iterate (makes left) (length changes) d ≡ applied changes d
  all_made d = made_upto (length changes) d (omega arith) ∙ ap (λ (l : List Change). applied l d) (take-length changes)

  pub all_within : (d : Delivery) → AllTell changes d → AllWithin left (length changes) d
  all_within d told k h =
      let within = (told_at changes d k no_change told h).within in
      subst (λ (c : Change). c.place < length (in_list c.list d)) (sym (change_back k h))
      (rw (length_applied (take k changes) (get_or changes k no_change).list d) at within)
