-- Document 02, [8]: what putting columns side by side leaves, column by column, line by line and square by square. Assumes nothing.
use Rattle.std.specs.Prelude.{ℕ, ◌+◌, ◌*◌, ◌%◌, ◌≤◌, ◌<◌, ◌≡◌, refl, List, Float, length, get_or, set}
use Rattle.std.proofs.Math.Nat.{mul-lt-mul_of_pos_left, add-mul-mod_self_left}
use Rattle.std.proofs.Common.{mod-eq_of_lt, mul-le-mul, mul-le-mul_left, mul-add, not-suc-le-zero, arith, sym, ap, ◌∙◌, below_more, get_or-set_same, get_or-set_other}
use Rattle.std.specs.Float.{nan}
use Rattle.model.specs.Limits.{most_subdivisions}
use Rattle.model.specs.Samples.{sample_length, in_block}
use Rattle.volume.specs.Definition.{volume_sample}
use Rattle.volume.specs.Known.{Readable}

-- ---- a column

pub record ColumnFits (bytes xs : List ℕ) (row held at wide rows : ℕ) : Type 0 where
  pub long : rows ≤ length xs
  pub some : 1 ≤ wide
  pub room : (k : ℕ) → k < rows → at + wide * k < held
  pub readable : (k : ℕ) → k < rows → Readable bytes (row + get_or xs k 0)

pub record ColumnPut (bytes xs : List ℕ) (row at wide rows : ℕ) (before after : List Float) : Type 0 where
  pub put : (k : ℕ) → k < rows → get_or after (at + wide * k) nan ≡ volume_sample bytes (row + get_or xs k 0)
  pub others : (p : ℕ) → ((k : ℕ) → k < rows → p ≡ at + wide * k → ⊥) → get_or after p nan ≡ get_or before p nan

module _ (bytes xs : List ℕ) (row at wide : ℕ) (before : List Float) where
  pub no_column : ColumnPut bytes xs row at wide 0 before before
  no_column = record { put = λ k h. absurd (not-suc-le-zero h); others = λ p h. refl }

  pub column_more : (k : ℕ) (now : List Float) (x : Float) → 1 ≤ wide → at + wide * k < length now → x ≡ volume_sample bytes (row + get_or xs k 0)
      → ColumnPut bytes xs row at wide k before now → ColumnPut bytes xs row at wide (k + 1) before (set now (at + wide * k) x)
  column_more k now x some room is h =
      record {
        put =
            below_more (λ i. get_or (set now (at + wide * k) x) (at + wide * i) nan ≡ volume_sample bytes (row + get_or xs i 0)) k
            (λ i lower.
            let apart : at + wide * i ≡ at + wide * k → ⊥ = λ e. let less : wide * i < wide * k = mul-lt-mul_of_pos_left lower some in omega arith in
            get_or-set_other now (at + wide * k) (at + wide * i) x nan apart ∙ h.put i lower)
            (get_or-set_same now (at + wide * k) x nan room ∙ is);
        others = λ p other.
            get_or-set_other now (at + wide * k) p x nan (λ e. other k (omega arith) e)
            ∙ h.others p (λ i l e. other i (omega arith) e);
      }

-- ---- a line of columns

pub record LineFits (bytes xs : List ℕ) (fixed : ℕ) (along : List ℕ) (held at wide rows count : ℕ) : Type 0 where
  pub some : 1 ≤ rows
  pub long : rows ≤ length xs
  pub long_along : count ≤ length along
  pub narrow : count ≤ wide
  pub room : (j k : ℕ) → j < count → k < rows → at + j + wide * k < held
  pub readable : (j k : ℕ) → j < count → k < rows → Readable bytes (fixed + get_or along j 0 + get_or xs k 0)

pub record LinePut (bytes xs : List ℕ) (fixed : ℕ) (along : List ℕ) (at wide rows count : ℕ) (before after : List Float) : Type 0 where
  pub put : (j k : ℕ) → j < count → k < rows → get_or after (at + j + wide * k) nan ≡ volume_sample bytes (fixed + get_or along j 0 + get_or xs k 0)
  pub others : (p : ℕ) → ((j k : ℕ) → j < count → k < rows → p ≡ at + j + wide * k → ⊥) → get_or after p nan ≡ get_or before p nan

-- what is left of two places when whole rows are taken away
same_column : (wide a b i k : ℕ) → a < wide → b < wide → a + wide * i ≡ b + wide * k → a ≡ b
same_column wide a b i k ha hb e =
    sym (add-mul-mod_self_left a wide i ∙ mod-eq_of_lt ha) ∙ ap (λ (p : ℕ). p % wide) e ∙ add-mul-mod_self_left b wide k ∙ mod-eq_of_lt hb

module _ (bytes xs : List ℕ) (fixed : ℕ) (along : List ℕ) (at wide rows : ℕ) (before : List Float) where
  pub no_line : LinePut bytes xs fixed along at wide rows 0 before before
  no_line = record { put = λ j k h. absurd (not-suc-le-zero h); others = λ p h. refl }

  pub line_more : (j : ℕ) (now after : List Float) → j < wide → ColumnPut bytes xs (fixed + get_or along j 0) (at + j) wide rows now after
      → LinePut bytes xs fixed along at wide rows j before now → LinePut bytes xs fixed along at wide rows (j + 1) before after
  line_more j now after narrow column h =
      record {
        put = λ i k l r.
            below_more (λ i. get_or after (at + i + wide * k) nan ≡ volume_sample bytes (fixed + get_or along i 0 + get_or xs k 0)) j
            (λ i lower.
            column.others (at + i + wide * k)
            (λ k' _ e. let same = same_column wide i j k k' (omega arith) narrow (omega arith) in omega arith)
            ∙ h.put i k lower r)
            (column.put k r) i l;
        others = λ p other.
            column.others p (λ k r e. other j k (omega arith) r e)
            ∙ h.others p (λ i k l r e. other i k (omega arith) r e);
      }

-- ---- squares: of each x, and of the faces x=-1 and x=n+1

pub record SquaresFit (bytes xs ys zs : List ℕ) (held n : ℕ) : Type 0 where
  pub long_x : n + 3 ≤ length xs
  pub long_y : n + 3 ≤ length ys
  pub long_z : n + 3 ≤ length zs
  pub room : (square i j : ℕ) → square < n + 3 → i ≤ n → j ≤ n → in_block n square i j < held
  pub readable : (square i j : ℕ) → square < n + 3 → i ≤ n → j ≤ n → Readable bytes (get_or ys i 0 + get_or zs j 0 + get_or xs square 0)

-- so many lines of each
pub record SquaresPut (bytes xs ys zs : List ℕ) (n lines : ℕ) (before after : List Float) : Type 0 where
  pub put : (square i j : ℕ) → square < n + 3 → i < lines → j ≤ n
      → get_or after (in_block n square i j) nan ≡ volume_sample bytes (get_or ys i 0 + get_or zs j 0 + get_or xs square 0)
  pub others : (p : ℕ) → (n + 1) * (n + 1) * (n + 3) ≤ p → get_or after p nan ≡ get_or before p nan

module _ (n : ℕ) where
  abbrev m : ℕ
  m = n + 1

  -- a place as a line of the squares has it, and as a line of a face has it
  in_squares : (square i j : ℕ) → m * i + j + m * m * square ≡ in_block n square i j
  in_squares square i j = omega arith

  in_face : (square i j : ℕ) → m * m * square + j + m * i ≡ in_block n square i j
  in_face square i j = omega arith

  -- what a line's first place is worked out by
  pub small : n ≤ most_subdivisions → (k : ℕ) → k ≤ m → m * k ≤ (most_subdivisions + 1) * (most_subdivisions + 1)
  small h k l =
      let wide : m ≤ most_subdivisions + 1 = omega arith in
      let few : k ≤ most_subdivisions + 1 = omega arith in
      mul-le-mul wide few

  line_in : (i j : ℕ) → i ≤ n → j ≤ n → m * i + j < m * m
  line_in i j hi hj =
      let next : m * (i + 1) ≤ m * m = mul-le-mul_left m (omega arith) in
      omega (arith, mul-add m i 1)

  other_line : (s t i k j l : ℕ) → i < k → k ≤ n → j ≤ n → l ≤ n → in_block n s i j ≡ m * k + l + m * m * t → ⊥
  other_line s t i k j l lower hk hj hl e =
      let same = same_column (m * m) (m * i + j) (m * k + l) s t (line_in i j (omega arith) hj) (line_in k l hk hl) (omega arith) in
      let less : m * (i + 1) ≤ m * k = mul-le-mul_left m (omega arith) in
      omega (arith, mul-add m i 1)

  module _ (bytes xs ys zs : List ℕ) (before : List Float) where
    pub no_squares : SquaresPut bytes xs ys zs n 0 before before
    no_squares = record { put = λ s i j h l. absurd (not-suc-le-zero l); others = λ p h. refl }

    pub squares_more : (y : ℕ) (now after : List Float) → y ≤ n → LinePut bytes xs (get_or ys y 0) zs (m * y) (m * m) (m + 2) m now after
        → SquaresPut bytes xs ys zs n y before now → SquaresPut bytes xs ys zs n (y + 1) before after
    squares_more y now after hy line h =
        record {
          put = λ s i j hs hi hj.
              below_more (λ i. get_or after (in_block n s i j) nan ≡ volume_sample bytes (get_or ys i 0 + get_or zs j 0 + get_or xs s 0)) y
              (λ i lower.
              line.others (in_block n s i j) (λ l k hl hk e. other_line s k i y j l lower hy hj (omega arith) e)
              ∙ h.put s i j hs lower hj)
              (ap (λ (p : ℕ). get_or after p nan) (sym (in_squares s y j)) ∙ line.put j s (omega arith) (omega arith)) i hi;
          others = λ p beyond.
              line.others p
              (λ j s hj hs e.
              let squares : m * m * (s + 1) ≤ m * m * (n + 3) = mul-le-mul_left (m * m) (omega arith) in
              omega (arith, line_in y j hy (omega arith), mul-add (m * m) s 1))
              ∙ h.others p beyond;
        }

  -- ---- the two faces across an axis, from a square on

  pub record FacesFit (bytes xs across along : List ℕ) (held square : ℕ) : Type 0 where
    pub long_x : n + 3 ≤ length xs
    pub long_across : n + 3 ≤ length across
    pub long_along : n + 3 ≤ length along
    pub few : square ≤ n + 5
    pub room : (side i j : ℕ) → side < 2 → i ≤ n → j ≤ n → in_block n (square + side) i j < held
    pub readable : (side i j : ℕ) → side < 2 → i ≤ n → j ≤ n → Readable bytes (get_or across (n + 1 + side) 0 + get_or along j 0 + get_or xs i 0)

  -- so many of the two
  pub record FacesPut (bytes xs across along : List ℕ) (square sides : ℕ) (before after : List Float) : Type 0 where
    pub put : (side i j : ℕ) → side < sides → i ≤ n → j ≤ n
        → get_or after (in_block n (square + side) i j) nan ≡ volume_sample bytes (get_or across (n + 1 + side) 0 + get_or along j 0 + get_or xs i 0)
    pub before_stay : (p : ℕ) → p < m * m * square → get_or after p nan ≡ get_or before p nan
    pub after_stay : (p : ℕ) → m * m * (square + sides) ≤ p → get_or after p nan ≡ get_or before p nan

  module _ (bytes xs across along : List ℕ) (square : ℕ) (before : List Float) where
    pub no_faces : FacesPut bytes xs across along square 0 before before
    no_faces = record { put = λ s i j l. absurd (not-suc-le-zero l); before_stay = λ p h. refl; after_stay = λ p h. refl }

    pub faces_more : (side : ℕ) (now after : List Float)
        → LinePut bytes xs (get_or across (n + 1 + side) 0) along (m * m * (square + side)) m m m now after
        → FacesPut bytes xs across along square side before now → FacesPut bytes xs across along square (side + 1) before after
    faces_more side now after line h =
        let from = square + side in
        let whole : (i j : ℕ) → i < m → j < m → (m * m * from ≤ m * m * from + j + m * i) × (m * m * from + j + m * i < m * m * (from + 1)) =
        λ i j hi hj. (omega arith, omega (arith, line_in i j (omega arith) (omega arith), mul-add (m * m) from 1)) in
        record {
          put = λ s i j l hi hj.
              below_more
              (λ s. get_or after (in_block n (square + s) i j) nan ≡ volume_sample bytes (get_or across (n + 1 + s) 0 + get_or along j 0 + get_or xs i 0)) side
              (λ s lower.
              line.others (in_block n (square + s) i j)
              (λ j' i' hj' hi' e.
              let squares : m * m * (square + s + 1) ≤ m * m * from = mul-le-mul_left (m * m) (omega arith) in
              omega (arith, whole i' j' hi' hj', line_in i j hi hj, mul-add (m * m) (square + s) 1))
              ∙ h.put s i j lower hi hj)
              (ap (λ (p : ℕ). get_or after p nan) (sym (in_face from i j)) ∙ line.put j i (omega arith) (omega arith)) s l;
          before_stay = λ p l.
              line.others p
              (λ j i hj hi e.
              let squares : m * m * square ≤ m * m * from = mul-le-mul_left (m * m) (omega arith) in
              omega (arith, whole i j hi hj))
              ∙ h.before_stay p l;
          after_stay = λ p l.
              let squares : m * m * from ≤ m * m * (square + (side + 1)) = mul-le-mul_left (m * m) (omega arith) in
              let next : m * m * (from + 1) ≡ m * m * (square + (side + 1)) = ap (λ (k : ℕ). m * m * k) (omega arith) in
              line.others p (λ j i hj hi e. omega (arith, whole i j hi hj, next)) ∙ h.after_stay p (omega arith);
        }

  -- ---- all squares

  pub record BlockFits (bytes xs ys zs : List ℕ) (held : ℕ) : Type 0 where
    pub few : n ≤ most_subdivisions
    pub squares : SquaresFit bytes xs ys zs held n
    pub faces_y : FacesFit bytes xs ys zs held (n + 3)
    pub faces_z : FacesFit bytes xs zs ys held (n + 5)

  pub record BlockPut (bytes xs ys zs : List ℕ) (before after : List Float) : Type 0 where
    pub squares : (square i j : ℕ) → square < n + 3 → i ≤ n → j ≤ n
        → get_or after (in_block n square i j) nan ≡ volume_sample bytes (get_or ys i 0 + get_or zs j 0 + get_or xs square 0)
    pub faces_y : (side i j : ℕ) → side < 2 → i ≤ n → j ≤ n
        → get_or after (in_block n (n + 3 + side) i j) nan ≡ volume_sample bytes (get_or ys (n + 1 + side) 0 + get_or zs j 0 + get_or xs i 0)
    pub faces_z : (side i j : ℕ) → side < 2 → i ≤ n → j ≤ n
        → get_or after (in_block n (n + 5 + side) i j) nan ≡ volume_sample bytes (get_or zs (n + 1 + side) 0 + get_or ys j 0 + get_or xs i 0)
    pub others : (p : ℕ) → sample_length n ≤ p → get_or after p nan ≡ get_or before p nan

  -- a square's places end where the next one's begin
  before_square : (s t i j : ℕ) → s < t → i ≤ n → j ≤ n → in_block n s i j < m * m * t
  before_square s t i j h hi hj =
      let squares : m * m * (s + 1) ≤ m * m * t = mul-le-mul_left (m * m) (omega arith) in
      omega (arith, line_in i j hi hj, mul-add (m * m) s 1)

  -- put one after another, none is written over
  pub block_put : (bytes xs ys zs : List ℕ) (l0 l1 l2 l3 : List Float) → SquaresPut bytes xs ys zs n m l0 l1 → FacesPut bytes xs ys zs (n + 3) 2 l1 l2
      → FacesPut bytes xs zs ys (n + 5) 2 l2 l3 → BlockPut bytes xs ys zs l0 l3
  block_put bytes xs ys zs l0 l1 l2 l3 squares faces_y faces_z =
      let begins : (t : ℕ) → t ≤ n + 7 → m * m * t ≤ m * m * (n + 7) = λ t h. mul-le-mul_left (m * m) h in
      record {
        squares = λ s i j hs hi hj.
            faces_z.before_stay (in_block n s i j) (before_square s (n + 5) i j (omega arith) hi hj)
            ∙ faces_y.before_stay (in_block n s i j) (before_square s (n + 3) i j hs hi hj) ∙ squares.put s i j hs (omega arith) hj;
        faces_y = λ s i j hs hi hj.
            faces_z.before_stay (in_block n (n + 3 + s) i j) (before_square (n + 3 + s) (n + 5) i j (omega arith) hi hj) ∙ faces_y.put s i j hs hi hj;
        faces_z = faces_z.put;
        others = λ p h.
            let end : m * m * (n + 7) ≤ p = omega (arith, mul-add (m * m) m 6) in
            faces_z.after_stay p (omega (arith, begins (n + 5 + 2) (omega arith))) ∙ faces_y.after_stay p (omega (arith, begins (n + 3 + 2) (omega arith)))
            ∙ squares.others p (omega (arith, begins (n + 3) (omega arith)));
      }
