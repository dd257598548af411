-- Where the steps of a walk lead, said of a walk, a row and a place that a call has given.
use Prim.Native.Nat.{ℕ}
use mathlib.Core.Path.{◌≡◌, ◌∙◌}
use Rattle.grid.specs.declared.face_walk.FaceWalk.{FaceWalk}
use Rattle.grid.specs.RotationLaws.{OnSide}
use Rattle.grid.specs.Walks.{side_place, walk_of, Leads, along_by, row_leads, row_is, spot_leads, spot_is}

module _ {m side w u v : ℕ} (on : OnSide side m u v w) {walk : FaceWalk} (is : walk ≡ walk_of m side w) where
  pub row_led : Leads walk.first walk.u u
  row_led = rw is (row_leads m side w u v on)

  pub row_at : {row : ℕ} → row ≡ along_by walk.first walk.u u → row ≡ side_place m side w u 0
  row_at e = e ∙ (λ i. along_by (is i).first (is i).u u) ∙ row_is m side w u v on

  pub spot_led : {row : ℕ} → row ≡ side_place m side w u 0 → Leads row walk.v v
  spot_led e = rw (is, e) (spot_leads m side w u v on)

  pub spot_at : {row spot : ℕ} → row ≡ side_place m side w u 0 → spot ≡ along_by row walk.v v → spot ≡ side_place m side w u v
  spot_at e f = f ∙ (λ i. along_by (e i) (is i).v v) ∙ spot_is m side w u v on
