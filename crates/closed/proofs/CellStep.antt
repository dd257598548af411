-- A code's use, of both kinds of cell, fits its label: where it takes its index from a place, a vertex with that label is owed there.
use Rattle.std.specs.Prelude.{◌≡◌, Bool, false, ℕ, ◌<◌}
use Rattle.std.proofs.Math.Path.{refl}
use Rattle.std.proofs.Common.{sym}
use Rattle.std.proofs.Math.Bool.{true}
use Rattle.model.specs.Mesh.{Made}
use Rattle.closed.specs.CellStep.{Owing, never, use_by, Fits}

module _ (owed : Owing) (size : ℕ) where
  pub use_fits : (made : Made) (own back g : ℕ) (new leaves : Bool) → made.edge ≡ g → own < size → ((h : ℕ) → owed own h → ⊥)
      → (new ≡ false → leaves ≡ false → owed back g) → Fits owed size (use_by made own back new leaves) g
  use_fits made own back g true leaves e inside free taken =
      record { label_is = e; stores_makes = λ h. refl; takes = λ h. never h; place_in = λ h. inside; apart = λ h. free }
  use_fits made own back g false true e inside free taken =
      record { label_is = e; stores_makes = λ h. refl; takes = λ h. never h; place_in = λ h. never (sym h); apart = λ h. never (sym h) }
  use_fits made own back g false false e inside free taken =
      record { label_is = e; stores_makes = λ h. h; takes = λ h. taken refl refl; place_in = λ h. never (sym h); apart = λ h. never (sym h) }
