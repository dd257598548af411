-- Document 02, [10]: laws of the numbers met so far, as bits: one that is noted is set, none is lost, and one that is not set was not met.
-- Assumes nothing.
use Rattle.std.specs.Prelude.{ℕ, ◌+◌, ◌*◌, ◌/◌, ◌%◌, ◌^◌, ◌<◌, ◌≤◌, ◌≡◌, refl, Bool, true, false, List, eqb, length, get_or, set}
use Rattle.std.proofs.Common.{mod-lt, zero-lt-suc, eq-or-lt_of_le, arith, sym, ap, ◌∙◌, ⊎_elim, eqb-true, length-set, get_or-set_same, get_or-set_other}
use Rattle.std.proofs.lemmas.Bool.{eqb-false}
use Rattle.std.specs.Int.Bits.{bit_or}
use Rattle.laws.specs.Bits.{bit_set, bit_kept}
use Rattle.weld.specs.Definition.{number_of}
use Rattle.weld.specs.Leaves.{slot_of, bit_of, Noted, Marked}

module _ (seen : List ℕ) (number : ℕ) where
  abbrev word : ℕ
  word = slot_of (length seen) (number / 64)

  abbrev bit : ℕ
  bit = 1 * 2 ^ (number % 64) % 2 ^ 64

  abbrev noted : List ℕ
  noted = set seen word (bit_or (get_or seen word 0) bit)

  module _ (l : word < length seen) where
    -- a word that is the one noted, or another
    still : (other : ℕ) → bit_of seen other ≡ 1 → (b : Bool) → eqb (slot_of (length seen) (other / 64)) word ≡ b → bit_of noted other ≡ 1
    still other h true e =
        let same : slot_of (length seen) (other / 64) ≡ word = eqb-true _ _ e in
        let before : get_or seen word 0 / 2 ^ (other % 64) % 2 ≡ 1 = ap (λ (w : ℕ). get_or seen w 0 / 2 ^ (other % 64) % 2) (sym same) ∙ h in
        rw (length-set, same, get_or-set_same seen word (bit_or (get_or seen word 0) bit) 0 l) (bit_kept (get_or seen word 0) bit (other % 64) before)
    still other h false e = rw (length-set, get_or-set_other seen word (slot_of (length seen) (other / 64)) (bit_or (get_or seen word 0) bit) 0 (eqb-false _ _ e)) h

    pub marked : Marked number seen noted
    marked =
        record {
          set_now = rw (length-set, get_or-set_same seen word (bit_or (get_or seen word 0) bit) 0 l) (bit_set (get_or seen word 0) (number % 64) (mod-lt number (zero-lt-suc 63)));
          set_still = λ other h. still other h (eqb (slot_of (length seen) (other / 64)) word) refl;
        }

pub noted_none : (seen edges : List ℕ) → Noted seen edges 0
unfolding Noted
noted_none seen edges j l = absurd (omega arith)

-- a number that is put into the next place
pub noted_more : (seen seen' edges : List ℕ) (k number : ℕ) → k < length edges → Marked number seen seen' → Noted seen edges k → Noted seen' (set edges k number) (k + 1)
unfolding Noted
noted_more seen seen' edges k number l m h j below =
    let within : j ≤ k = omega arith in
    ⊎_elim
    (λ e.
    let here : number_of (set edges k number) j ≡ number = ap (number_of (set edges k number)) e ∙ get_or-set_same edges k number 0 l in
    rw here m.set_now)
    (λ before.
    let other : number_of (set edges k number) j ≡ number_of edges j = get_or-set_other edges k j number 0 (λ e. omega arith) in
    rw other (m.set_still (number_of edges j) (h j before)))
    (eq-or-lt_of_le within)

pub not_noted : (seen edges : List ℕ) (k number : ℕ) → Noted seen edges k → bit_of seen number ≡ 0 → (j : ℕ) → j < k → number_of edges j ≡ number → ⊥
unfolding Noted
not_noted seen edges k number h clear j l e =
    let set_now : bit_of seen number ≡ 1 = rw e at (h j l) in
    omega (arith, sym clear ∙ set_now)
