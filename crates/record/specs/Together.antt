-- Document 01, refusal 7, asked of all samples of a record at once, by their bit patterns without the sign. Assumes nothing.
use Rattle.std.specs.Prelude.{ℕ, zero, suc, ◌%◌, ◌≤◌, ◌≡◌, refl, Bool, true, ◌&&◌, List, leb}
use Rattle.std.proofs.Common.{le_trans, sym, ap₂, ◌∙◌, leb-true, le-leb}
use Rattle.std.proofs.Math.Bool.{and-eq-true_iff}
use Rattle.laws.specs.Below.{all_below}
use Rattle.model.specs.Judging.{usable}
use Rattle.model.specs.Words.{word_at, float_at}
use Rattle.model.specs.Record.{sample_from}
use Rattle.words.specs.Orders.{Bytes, word_lt}
use Rattle.record.specs.Patterns.{usable_bits}

-- the pattern of a record's sample, without its sign, is at most this one
abbrev pub bare_at_most : List ℕ → ℕ → ℕ → Bool
bare_at_most bytes most k = leb (word_at bytes (sample_from k) % 0x8000_0000) most

-- the sample can be used
abbrev pub usable_at : List ℕ → ℕ → Bool
usable_at bytes k = usable (float_at bytes (sample_from k))

-- the pattern of 1,048,576
abbrev pub limit_bits : ℕ
limit_bits = 0x4980_0000

module _ (bytes : List ℕ) (small : Bytes bytes) where
  by_bits : (k : ℕ) → bare_at_most bytes limit_bits k ≡ usable_at bytes k
  by_bits k = sym (usable_bits (word_at bytes (sample_from k)) (word_lt bytes small (sample_from k)))

  pub all_by_bits : (count : ℕ) → all_below (bare_at_most bytes limit_bits) count ≡ all_below (usable_at bytes) count
  all_by_bits zero = refl
  all_by_bits (suc k) = ap₂ ◌&&◌ (all_by_bits k) (by_bits k)

  -- up to a pattern no larger, all can be used
  all_small : (most count : ℕ) → most ≤ limit_bits → all_below (bare_at_most bytes most) count ≡ true → all_below (usable_at bytes) count ≡ true
  all_small most zero within h = refl
  all_small most (suc k) within h =
      let bare = word_at bytes (sample_from k) % 0x8000_0000 in
      let parts = (and-eq-true_iff (all_below (bare_at_most bytes most) k) (leb bare most)).0 h in
      let here = sym (by_bits k) ∙ le-leb bare limit_bits (le_trans (leb-true bare most parts.1) within) in
      rw (all_small most k within parts.0, here)

  pub told_small : {all : Bool} (most count : ℕ) → all ≡ all_below (bare_at_most bytes most) count → most ≤ limit_bits → all ≡ true
      → true ≡ all_below (usable_at bytes) count
  told_small most count told within h = sym (all_small most count within (sym told ∙ h))
