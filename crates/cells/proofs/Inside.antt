-- Regular cells that touch no low face of the block: no step back leaves it, so that just the new codes make vertices, and how many those are
-- depends on the case alone.
use Prim.Native.Nat.{ℕ, zero, suc, ◌+◌, ◌≤◌, ◌<◌}
use mathlib.Core.Path.{◌≡◌, refl, sym, ap, ap₂, ◌∙◌}
use mathlib.Core.Bool.{Bool, true, false, cond, ◌&&◌, ◌||◌}
use native.Mathlib.Omega.{arith}
use borrow.Author.Tests.{le-ltb, ltb-true}
use lib.Dec.{eqb}
use lib.ListN.{get_or}
use Rattle.tables.specs.Codes.{step_x, step_y, step_z, is_new}
use Rattle.tables.specs.Cases.{vertices_of, triangles_of, regular_codes, regular_code, regular_vertices}
use Rattle.tables.specs.Cases.{regular_cell as regularRow}
use Rattle.laws.specs.Counting.{one, how_many}
use Rattle.tables.specs.RulesSlots.{crossed_at_top, new_codes}
use Rattle.laws.specs.Steps.{total}
use Rattle.model.specs.declared.Xyz.{Xyz}
use Rattle.model.specs.Star.{Star}
use Rattle.model.specs.Mesh.{regular_leaves}
use Rattle.codes.specs.declared.CellIndex.TheVariants.{Regular}
use Rattle.cells.specs.declared.SheetIndex.{SheetIndex}
use Rattle.cells.specs.declared.SheetIndex.TheVariants.{Layer, Side}
use Rattle.vertices.specs.Fills.{made_total}
use Rattle.codes.specs.Kinds.{makes_at, cell_of}
use Rattle.cells.specs.Puts.{Adds}
use Rattle.cells.specs.SheetCells.{cell_at, sheet_cell, case_at, all_of, row_of, away_from_low}
use Rattle.cells.proofs.ByCase.{adds_as, sheet_is}
use Rattle.vertices.specs.Uses.{use_count}

all_three : (a b c : Bool) → a && (b && c) ≡ true → (a ≡ true) × ((b ≡ true) × (c ≡ true))
all_three true true c e = (refl, (refl, e))
all_three true false c e = (refl, (e, cc))
all_three false b c e = (e, (cc, cc))

-- an added test that fails changes nothing
or_neither : (a b c d : Bool) → b ≡ false → c ≡ false → d ≡ false → a || (b || (c || d)) ≡ a
or_neither true b c d eb ec ed = refl
or_neither false b c d eb ec ed = rw (eb, ec, ed)

module _ (at : Xyz) (hx : 0 < at.x) (hy : 0 < at.y) (hz : 0 < at.z) where
  makes_new : (code : ℕ) → makes_at (Regular at) code ≡ eqb (is_new code) 1
  unfolding regular_leaves
  makes_new code =
      or_neither (eqb (is_new code) 1) _ _ _ (le-ltb at.x (step_x code) (omega arith)) (le-ltb at.y (step_y code) (omega arith))
      (le-ltb at.z (step_z code) (omega arith))

  one_is : (b : Bool) → cond b 1 0 ≡ one b
  one_is true = refl
  one_is false = refl

  made_new : (code : ℕ → ℕ) (k : ℕ) → total (λ i. cond (makes_at (Regular at) (code i)) 1 0) k ≡ how_many (λ i. eqb (is_new (code i)) 1) k
  made_new code zero = refl
  made_new code (suc k) = ap₂ (λ (a b : ℕ). a + b) (made_new code k) (rw (makes_new (code k)) (one_is (eqb (is_new (code k)) 1)))

  counted : (case : ℕ) → case < 256 → total (λ i. cond (makes_at (Regular at) (regular_code case i)) 1 0) (regular_vertices case) ≡ crossed_at_top case
  counted case small = made_new (regular_code case) (regular_vertices case) ∙ new_codes case small

none : false ≡ true → ⊥
none e = let n : ◌≡◌ {A = ℕ} 0 1 = ap (λ (b : Bool). cond b 1 0) e in let x : ⊥ = omega arith in x

-- a cell of a sheet that is one of these has one of the regular cases
pub away_small : (sheet : SheetIndex) (u v case : ℕ) → case ≤ all_of sheet → away_from_low (cell_at sheet u v) ≡ true → case < 256
away_small (Layer x) u v case small away = omega arith
away_small (Side side) u v case small away = absurd (none away)

-- what it adds
pub away_adds : (sheet : SheetIndex) (u v case : ℕ) → away_from_low (cell_at sheet u v) ≡ true → case ≤ all_of sheet
    → (s : Star) → case ≡ case_at s sheet u v → (dv dt : ℕ) → dv ≡ crossed_at_top case → dt ≡ triangles_of (row_of sheet case)
    → Adds (sheet_cell s sheet u v) dv dt
unfolding regular_code regular_vertices
away_adds (Layer x) u v case away small s is dv dt dv-is dt-is =
    let tests = all_three _ _ _ away in
    let at : Xyz = record { x = x; y = u; z = v } in
    let codes = regular_codes case in
    let row = regularRow case in
    adds_as (sheet_is (Layer x) case codes row false refl refl refl s u v is (Regular at) refl)
    (record {
      vertices = λ base store.
          made_total (cell_of s (Regular at) codes row false) (λ i. cond (makes_at (Regular at) (get_or codes i 0)) 1 0) (λ i. use_count s (Regular at) (get_or codes i 0)) base store (vertices_of row)
          ∙ counted at (ltb-true _ _ tests.0) (ltb-true _ _ tests.1.0) (ltb-true _ _ tests.1.1) case (omega arith)
          ∙ sym dv-is;
      triangles = sym dt-is;
    })
away_adds (Side side) u v case away small s is dv dt dv-is dt-is = absurd (none away)
