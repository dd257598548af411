-- Items laid into a lent buffer, whatever the items are and however many places each takes: the definition and its laws.
-- Assumes nothing.
use Rattle.std.specs.Prelude.{ℕ, ◌+◌, ◌*◌, ◌≤◌, ◌≡◌, take, drop}
use Rattle.std.proofs.Math.Path.{refl, ap}
use Rattle.std.proofs.Common.{◌∙◌, drop_of_length-le, take_at}
use mathlib.Core.List.{List, [], ◌++◌, append-nil}
use Rattle.std.proofs.Math.Nat.{mul-add, mul-zero}
use native.Mathlib.Omega.{arith}
use Rattle.std.proofs.Math.ListN.{length, length-append}
use Rattle.std.proofs.lemmas.List.Edits.{sets, sets-eq}
use Rattle.std.proofs.Math.Seq.{length-sets, length-take-le}
use Rattle.laws.specs.Steps.{each}
use Rattle.laws.specs.Lists.{sets_append, each_append, length_each}

-- the buffer with the items, each of so many places, from item i on
unfoldable pub lay : {A T : Type 0} → ℕ → (T → List A) → List A → ℕ → List T → List A
lay width out buffer i items = sets buffer (width * i) (each out items)

module _ {A T : Type 0} (width : ℕ) (out : T → List A) where
  pub lay_none : (buffer : List A) (i : ℕ) → lay width out buffer i [] ≡ buffer
  unfolding lay
  lay_none buffer i = refl

  pub length_lay : (buffer : List A) (i : ℕ) (items : List T) → length (lay width out buffer i items) ≡ length buffer
  unfolding lay
  length_lay buffer i items = length-sets buffer (width * i) (each out items)

  module _ (width_is : (item : T) → length (out item) ≡ width) where
    -- more items, laid behind those that are there
    pub lay_append : (buffer : List A) (i : ℕ) (xs ys : List T)
        → lay width out (lay width out buffer i xs) (i + length xs) ys ≡ lay width out buffer i (xs ++ ys)
    unfolding lay
    lay_append buffer i xs ys =
        rw (each_append, mul-add, ← length_each out width xs width_is) (sets_append buffer (width * i) (each out xs) (each out ys))

    -- a buffer that is just as long is filled
    pub lay_all : (buffer : List A) (items : List T) → length buffer ≡ width * length items → lay width out buffer 0 items ≡ each out items
    unfolding lay
    lay_all buffer items e =
        let f : length (each out items) ≡ width * length items = length_each out width items width_is in
        let h : length buffer ≤ 0 + length (each out items) = omega arith in
        rw mul-zero
        (sets-eq (each out items) buffer 0 (omega arith)
        ∙ ap (λ (l : List A). each out items ++ l) (drop_of_length-le buffer h) ∙ append-nil (each out items))

    -- the places up to the end of what is laid: those before it, and it
    pub take_lay : (buffer : List A) (i : ℕ) (xs : List T) → width * (i + length xs) ≤ length buffer
        → take (width * (i + length xs)) (lay width out buffer i xs) ≡ take (width * i) buffer ++ each out xs
    unfolding lay
    take_lay buffer i xs h =
        let laid : length (each out xs) ≡ width * length xs = length_each out width xs width_is in
        let e : width * (i + length xs) ≡ width * i + length (each out xs) = omega (arith, mul-add width i (length xs)) in
        let front : length (take (width * i) buffer) ≡ width * i = length-take-le (width * i) buffer (omega arith) in
        let all : length (take (width * i) buffer ++ each out xs) ≡ width * (i + length xs) =
        omega (arith, length-append (take (width * i) buffer) (each out xs)) in
        rw (sets-eq (each out xs) buffer (width * i) (omega arith))
        (take_at (take (width * i) buffer ++ each out xs) (drop (width * i + length (each out xs)) buffer) (width * (i + length xs)) all)
