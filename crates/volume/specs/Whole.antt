-- Document 02, [8]: what is put is what is taken: all squares put, the lent list holds the block's samples, and all beyond is as it was. Assumes nothing.
use Rattle.std.specs.Prelude.{ℕ, ◌+◌, ◌-◌, ◌*◌, ◌/◌, ◌%◌, ◌≤◌, ◌<◌, ◌≡◌, List, Float, length}
use Rattle.std.proofs.Math.Decide.{dec_lt}
use Rattle.std.proofs.Common.{arith, sym, ◌∙◌}
use Rattle.std.proofs.Math.Path.{ap}
use Rattle.std.specs.Float.Ieee.{nan}
use Rattle.std.proofs.Math.ListN.{get_or}
use Rattle.laws.specs.Steps.{laid}
use Rattle.model.specs.declared.Xyz.{Xyz}
use Rattle.model.specs.Samples.{sample_length, in_block}
use Rattle.volume.specs.Definition.{volume_sample, taken_place, taken_sample, block_in}
use Rattle.volume.specs.Lists.{laid_by}
use Rattle.volume.specs.Known.{Readable, Ready}
use Rattle.volume.specs.Squares.{in_square, square_in}
use Rattle.volume.specs.Slots.{Steps, square_place, taken_at, square_readable, sum_x, sum_y, sum_z}
use Rattle.volume.specs.Putting.{BlockFits, BlockPut}

module _ (bytes : List ℕ) (sizes : Xyz) (n : ℕ) (first : Xyz) {xs ys zs : List ℕ} (hx : Steps xs n sizes.x first.x 1)
    (hy : Steps ys n sizes.y first.y sizes.x) (hz : Steps zs n sizes.z first.z (sizes.x * sizes.y)) where
  pub block_fits : Ready bytes sizes n first → (held : ℕ) → sample_length n ≤ held → BlockFits n bytes xs ys zs held
  block_fits h held room =
      let held_in : (s i j : ℕ) → s < n + 7 → i ≤ n → j ≤ n → in_block n s i j < held =
      λ s i j hs hi hj. omega (arith, square_in n s i j hi hj hs) in
      let reads : (place s i j : ℕ) → s < n + 7 → i ≤ n → j ≤ n → place ≡ square_place sizes n first s i j → Readable bytes place =
      λ place s i j hs hi hj e. rw e (square_readable sizes n first h s i j hs hi hj) in
      record {
        few = h.known.cut.few;
        squares = record {
          long_x = hx.long;
          long_y = hy.long;
          long_z = hz.long;
          room = λ s i j hs hi hj. held_in s i j (omega arith) hi hj;
          readable = λ s i j hs hi hj. reads _ s i j (omega arith) hi hj (sum_x sizes n first hx hy hz s i j hs hi hj);
        };
        faces_y = record {
          long_x = hx.long;
          long_across = hy.long;
          long_along = hz.long;
          few = omega arith;
          room = λ s i j hs hi hj. held_in (n + 3 + s) i j (omega arith) hi hj;
          readable = λ s i j hs hi hj. reads _ (n + 3 + s) i j (omega arith) hi hj (sum_y sizes n first hx hy hz s i j hs hi hj);
        };
        faces_z = record {
          long_x = hx.long;
          long_across = hz.long;
          long_along = hy.long;
          few = omega arith;
          room = λ s i j hs hi hj. held_in (n + 5 + s) i j (omega arith) hi hj;
          readable = λ s i j hs hi hj. reads _ (n + 5 + s) i j (omega arith) hi hj (sum_z sizes n first hx hy hz s i j hs hi hj);
        };
      }

  module _ (before after : List Float) (h : BlockPut n bytes xs ys zs before after) where
    square_put : (s i j : ℕ) → s < n + 7 → i ≤ n → j ≤ n → get_or after (in_block n s i j) nan ≡ volume_sample bytes (square_place sizes n first s i j)
    square_put s i j hs hi hj = go (dec_lt s (n + 3)) (dec_lt s (n + 5))
      where
        go : Dec (s < n + 3) → Dec (s < n + 5) → get_or after (in_block n s i j) nan ≡ volume_sample bytes (square_place sizes n first s i j)
        go (yes a) b = h.squares s i j a hi hj ∙ ap (volume_sample bytes) (sum_x sizes n first hx hy hz s i j a hi hj)
        go (no a) (yes b) =
            let side = s - (n + 3) in
            let e : n + 3 + side ≡ s = omega arith in
            rw e at (h.faces_y side i j (omega arith) hi hj ∙ ap (volume_sample bytes) (sum_y sizes n first hx hy hz side i j (omega arith) hi hj))
        go (no a) (no b) =
            let side = s - (n + 5) in
            let e : n + 5 + side ≡ s = omega arith in
            rw e at (h.faces_z side i j (omega arith) hi hj ∙ ap (volume_sample bytes) (sum_z sizes n first hx hy hz side i j (omega arith) hi hj))

    pub all_put : sample_length n ≤ length before → length after ≡ length before → after ≡ laid (block_in bytes sizes n first) before
    unfolding block_in
    all_put room long =
        laid_by nan (taken_sample bytes sizes n first) (sample_length n) before after room long
        (λ p l.
        let m = n + 1 in
        let at = in_square n p l in
        let s = p / m / m in
        let i = p / m % m in
        let j = p % m in
        ap (λ (q : ℕ). get_or after q nan) (sym at.is) ∙ square_put s i j at.below at.row at.column
        ∙ ap (volume_sample bytes) (sym (taken_at sizes n first s i j at.row at.column) ∙ ap (taken_place sizes n first) at.is))
        h.others
