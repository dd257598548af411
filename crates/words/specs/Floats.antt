-- Floats among bytes by their bit patterns, in either order: taken out and put back, put and read, put one after another; and which
-- floats and patterns are a NaN's. Assumes nothing.
use Rattle.std.specs.Prelude.{ℕ, zero, suc, ◌+◌, ◌*◌, ◌%◌, ◌≤◌, ◌<◌, ◌≡◌, refl, Bool, true, false, not, List, [], ◌∷◌, ◌++◌, T, leb, ltb, Float, length, get_or, take, drop}
use Rattle.std.proofs.Common.{add-zero, mul-suc, not-suc-le-zero, le_of_suc-le-suc, le_of_lt, add-one, arith, sym, ap, ap₂, ◌∙◌, subst, append_assoc, append-nil, ltb-true, ltb-false, le-leb, length-append, take-suc, take-add, drop-drop, length-take-le}
use Rattle.std.proofs.lemmas.Bool.{lt-leb}
use Rattle.std.specs.Float.{nan, inf, fin, binary32}
use Rattle.std.specs.Float.Ieee.{is_nan, fits, ne, nan_bits, of_bits, to_bits}
use Rattle.std.specs.Float.Ieee.Bits.{of_bits-to_bits, to_bits-of_bits, to_bits-lt, nan_bits_is, nan_bits_above}
use Rattle.std.proofs.lemmas.List.Edits.{sets}
use Rattle.laws.specs.Steps.{listed, each}
use Rattle.laws.specs.Lists.{each_append, length_each, sets_append}
use Rattle.words.specs.Orders.{Bytes, Order}

-- each is a value of its format, as those of a slice of f32 are
abbrev pub Fit : List Float → Type 0
Fit floats = (k : ℕ) → T (fits binary32 (get_or floats k nan))

-- none is a NaN
abbrev pub Numbers : List Float → Type 0
Numbers floats = (k : ℕ) → k < length floats → T (not (is_nan (get_or floats k nan)))

module _ (order : Order) where
  abbrev pub float_in : List ℕ → ℕ → Float
  float_in bytes at = of_bits binary32 (order.at bytes at)

  abbrev pub bytes_in : Float → List ℕ
  bytes_in x = order.bytes (to_bits binary32 x)

-- ---- floats that are read, put back as the bytes that they were read from

module _ (order : Order) (bytes : List ℕ) (small : Bytes bytes) where
  float_back : (at : ℕ) → at + 4 ≤ length bytes → T (not (is_nan (float_in order bytes at))) → bytes_in order (float_in order bytes at) ≡ take 4 (drop at bytes)
  float_back at h number =
      ap order.bytes (to_bits-of_bits binary32 (order.at bytes at) (order.small bytes small at) number) ∙ order.back bytes small at h

  pub floats_back : (at n : ℕ) → at + 4 * n ≤ length bytes → ((k : ℕ) → k < n → T (not (is_nan (float_in order bytes (at + 4 * k)))))
      → each (bytes_in order) (listed (λ k. float_in order bytes (at + 4 * k)) n) ≡ take (4 * n) (drop at bytes)
  floats_back at zero h numbers = refl
  floats_back at (suc n) h numbers =
      each_append (bytes_in order) (listed (λ k. float_in order bytes (at + 4 * k)) n) (float_in order bytes (at + 4 * n) ∷ [])
      ∙ ap₂ ◌++◌ (floats_back at n (omega arith) (λ k l. numbers k (omega arith)))
      (append-nil (bytes_in order (float_in order bytes (at + 4 * n)))
      ∙ float_back (at + 4 * n) (omega arith) (numbers n (omega arith)) ∙ ap (take 4) (sym (drop-drop (4 * n) at bytes)))
      ∙ sym (take-add (4 * n) 4 (drop at bytes))
      ∙ ap (λ (k : ℕ). take k (drop at bytes)) (sym (mul-suc 4 n))

-- ---- floats that are put after p, read back

module _ (order : Order) where
  pub floats_after : (p q : List ℕ) (floats : List Float) (k : ℕ) → Fit floats → k < length floats
      → float_in order (p ++ (each (bytes_in order) floats ++ q)) (length p + 4 * k) ≡ get_or floats k nan
  floats_after p q [] k fit h = absurd (not-suc-le-zero h)
  floats_after p q (x ∷ rest) zero fit h =
      rw (add-zero, append_assoc (bytes_in order x) (each (bytes_in order) rest) q)
      (ap (of_bits binary32) (order.after p (each (bytes_in order) rest ++ q) (to_bits binary32 x) (to_bits-lt binary32 x (fit 0)))
      ∙ of_bits-to_bits binary32 x (fit 0))
  floats_after p q (x ∷ rest) (suc k) fit h =
      let first = bytes_in order x in
      let others = each (bytes_in order) rest in
      let at : length (p ++ first) + 4 * k ≡ length p + 4 * suc k = rw (length-append, order.four) (omega arith) in
      ap₂ (float_in order)
      (ap (λ (l : List ℕ). p ++ l) (append_assoc first others q) ∙ sym (append_assoc p first (others ++ q))) (sym at)
      ∙ floats_after (p ++ first) q rest k (λ i. fit (suc i)) (le_of_suc-le-suc h)

  -- ---- floats put one after another

  pub put_more : (bytes : List ℕ) (at : ℕ) (floats : List Float) (k : ℕ) → k < length floats
      → sets (sets bytes at (each (bytes_in order) (take k floats))) (at + 4 * k) (bytes_in order (get_or floats k nan))
      ≡ sets bytes at (each (bytes_in order) (take (k + 1) floats))
  put_more bytes at floats k h =
      let before = each (bytes_in order) (take k floats) in
      let x = get_or floats k nan in
      let long : length before ≡ 4 * k =
      length_each (bytes_in order) 4 (take k floats) (λ y. order.four (to_bits binary32 y))
      ∙ ap (λ (i : ℕ). 4 * i) (length-take-le k floats (le_of_lt h)) in
      let one_more : each (bytes_in order) (take (k + 1) floats) ≡ before ++ bytes_in order x =
      rw (add-one, take-suc floats k nan, each_append) (ap (λ (l : List ℕ). before ++ l) (append-nil (bytes_in order x))) in
      ap (λ (i : ℕ). sets (sets bytes at before) (at + i) (bytes_in order x)) (sym long)
      ∙ sets_append bytes at before (bytes_in order x) ∙ ap (sets bytes at) (sym one_more)

-- ---- which floats and patterns are a NaN's

pub nan_pattern : to_bits binary32 nan ≡ 0x7fc0_0000
unfolding to_bits
nan_pattern = refl

pub same_number : (x : Float) → ne x x ≡ false → T (not (is_nan x))
unfolding ne is_nan
same_number nan e = subst T e tt
same_number (inf s) e = tt
same_number (fin s m k) e = tt

is_nan_lem : (x : Float) → is_nan x ≡ true → x ≡ nan
unfolding is_nan
is_nan_lem nan e = refl
is_nan_lem (inf s) e = absurd (subst T (sym e) tt)
is_nan_lem (fin s m k) e = absurd (subst T (sym e) tt)

at_most : (a b : ℕ) (above : Bool) → ltb b a ≡ above → leb a b ≡ not above
at_most a b true e = lt-leb a b (ltb-true b a e)
at_most a b false e = le-leb a b (ltb-false b a e)

-- a pattern is a NaN's where it is, without its sign, above that of infinity
pub pattern_number : (n : ℕ) → leb (n % 0x8000_0000) 0x7f80_0000 ≡ not (nan_bits binary32 n)
pattern_number n = at_most (n % 0x8000_0000) 0x7f80_0000 (nan_bits binary32 n) (sym (nan_bits_above binary32 n))

pub pattern_nan : (n : ℕ) → nan_bits binary32 n ≡ true → of_bits binary32 n ≡ nan
pattern_nan n e = is_nan_lem (of_bits binary32 n) (sym (nan_bits_is binary32 n) ∙ e)
