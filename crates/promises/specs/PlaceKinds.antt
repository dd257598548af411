-- What the buyer was promised of place kinds (document 02, [4]), for every input: the store that a sample came from, as the point read and a record's
-- point read tell it; what refusal 15 counts; which of a gradient's six reads are from an extension face; and that every sample that extraction reads is
-- the one that was read before, so that no mesh changes. Definitions only.
use Rattle.std.specs.Prelude.{ℕ, zero, suc, ◌+◌, ◌*◌, ◌≤◌, ◌<◌, ◌≡◌, ◌↔◌, Bool, true, cond, List, eqb, leb, ℤ, pos, negsuc, Float, get_or, Ok, Err}
use Rattle.std.specs.Float.{nan}
use Rattle.model.specs.declared.Xyz.{Xyz}
use Rattle.model.specs.declared.PlaceKind.{PlaceKind}
use Rattle.model.specs.declared.PlaceKind.TheVariants.{InBlock, Face}
use Rattle.model.specs.Answers.{PointRead}
use Rattle.model.specs.declared.Refusal.TheVariants.{PointNeverSampled}
use Rattle.model.specs.Samples.{place_of, sampled, reading_at, value_at}
use Rattle.model.specs.Rotations.{face_point, neighbour_point}
use Rattle.model.specs.Points.{corner_point}
use Rattle.model.specs.Extraction.{read_point}
use Rattle.model.specs.Record.{header_of, samples_of}
use Rattle.model.specs.Viewer.{record_point}
use Rattle.grid.specs.Places.{Within, StepsSampled}
use Rattle.grid.specs.RotationLaws.{OnFace, OnFineFace}
use Rattle.promises.specs.Orders.{Judged, sample_judges}
use Rattle.promises.specs.Points.{point_value, point_kind}

-- ---- where a point stands, by its signed coordinates

-- a coordinate is one of 0..n; it is -1; it is n+1
abbrev pub In : ℕ → ℤ → Type 0
In n (pos c) = c ≤ n
In n (negsuc c) = ⊥

abbrev pub OneBelow : ℤ → Type 0
OneBelow c = c ≡ negsuc 0

abbrev pub OneAbove : ℕ → ℤ → Type 0
OneAbove n c = c ≡ pos (n + 1)

pub record AllIn (n : ℕ) (x y z : ℤ) : Type 0 where
  pub x_in : In n x
  pub y_in : In n y
  pub z_in : In n z

-- one coordinate is outside so, and just that one: a and b are the two others
pub record JustOne (out : Type 0) (n : ℕ) (a b : ℤ) : Type 0 where
  pub out_so : out
  pub a_in : In n a
  pub b_in : In n b

-- of the six faces: just the coordinate of the face's axis is outside 0..n, by one step on the face's side
abbrev pub StandsOn : ℕ → ℤ → ℤ → ℤ → ℕ → Type 0
StandsOn n x y z zero = JustOne (OneBelow x) n y z
StandsOn n x y z (suc zero) = JustOne (OneAbove n x) n y z
StandsOn n x y z (suc (suc zero)) = JustOne (OneBelow y) n x z
StandsOn n x y z (suc (suc (suc zero))) = JustOne (OneAbove n y) n x z
StandsOn n x y z (suc (suc (suc (suc zero)))) = JustOne (OneBelow z) n x y
StandsOn n x y z (suc (suc (suc (suc (suc zero))))) = JustOne (OneAbove n z) n x y
StandsOn n x y z (suc (suc (suc (suc (suc (suc k)))))) = ⊥

abbrev pub Stands : ℕ → ℤ → ℤ → ℤ → PlaceKind → Type 0
Stands n x y z InBlock = AllIn n x y z
Stands n x y z (Face k) = StandsOn n x y z k

-- how many coordinates are outside 0..n, however far
abbrev pub out_of : ℕ → ℤ → ℕ
out_of n (pos c) = cond (leb c n) 0 1
out_of n (negsuc c) = 1

abbrev pub out_count : ℕ → ℤ → ℤ → ℤ → ℕ
out_count n x y z = out_of n x + out_of n y + out_of n z

-- ---- what an answer tells of its point

pub record Placed (n : ℕ) (x y z : ℤ) (answer : PointRead) : Type 0 where
  -- the kind is in-block exactly when all coordinates are in 0..n, and a face exactly when just its coordinate is outside, by one step on its side
  pub exactly : (v : Float) (kind other : PlaceKind) → answer ≡ Ok (v, kind) → (kind ≡ other) ↔ Stands n x y z other
  -- 15 counts the coordinates that are outside: one to three
  pub counted : (c : ℕ) → answer ≡ Err (PointNeverSampled c) → c ≡ out_count n x y z
  pub one_to_three : (c : ℕ) → answer ≡ Err (PointNeverSampled c) → (1 ≤ c) × (c ≤ 3)
  -- and is never given for a point that was sampled
  pub never_sampled : (c : ℕ) (kind : PlaceKind) → answer ≡ Err (PointNeverSampled c) → Stands n x y z kind → ⊥

-- the places of a kind's store: the block's own (n+1)^3, and after them (n+1)^2 for each face
abbrev pub InStore : ℕ → PlaceKind → ℕ → Type 0
InStore n InBlock place = place < (n + 1) * (n + 1) * (n + 1)
InStore n (Face k) place =
    let square = (n + 1) * (n + 1) in
    (square * (n + 1) + square * k ≤ place) × (place < square * (n + 1) + square * (k + 1))

-- a value is what a place of its kind's store holds
pub record CameFrom (n : ℕ) (samples : List Float) (v : Float) (kind : PlaceKind) : Type 0 where
  pub place : ℕ
  pub holds : v ≡ get_or samples place nan
  pub in_store : InStore n kind place

-- ---- gradients

-- a step leads to the face exactly at the border that it crosses
abbrev pub border_kind : Bool → ℕ → PlaceKind
border_kind border face = cond border (Face face) InBlock

-- the six reads of the gradient at a point, whose values the definition subtracts
pub record GradientReads (n : ℕ) (samples : List Float) (p : Xyz) : Type 0 where
  pub x_up : let at = value_at n samples (p.x + 2) (p.y + 1) (p.z + 1) in
      reading_at n samples (p.x + 2) (p.y + 1) (p.z + 1) ≡ Ok (at, (border_kind (eqb p.x n) 1))
  pub x_down : let at = value_at n samples p.x (p.y + 1) (p.z + 1) in
      reading_at n samples p.x (p.y + 1) (p.z + 1) ≡ Ok (at, (border_kind (eqb p.x 0) 0))
  pub y_up : let at = value_at n samples (p.x + 1) (p.y + 2) (p.z + 1) in
      reading_at n samples (p.x + 1) (p.y + 2) (p.z + 1) ≡ Ok (at, (border_kind (eqb p.y n) 3))
  pub y_down : let at = value_at n samples (p.x + 1) p.y (p.z + 1) in
      reading_at n samples (p.x + 1) p.y (p.z + 1) ≡ Ok (at, (border_kind (eqb p.y 0) 2))
  pub z_up : let at = value_at n samples (p.x + 1) (p.y + 1) (p.z + 2) in
      reading_at n samples (p.x + 1) (p.y + 1) (p.z + 2) ≡ Ok (at, (border_kind (eqb p.z n) 5))
  pub z_down : let at = value_at n samples (p.x + 1) (p.y + 1) p.z in
      reading_at n samples (p.x + 1) (p.y + 1) p.z ≡ Ok (at, (border_kind (eqb p.z 0) 4))

-- ---- what was read before is read as before

pub record ReadAsBefore : Type 0 where
  -- the value of a point that was sampled is what its place holds, as document 01 defined it
  pub value : (n x y z : ℕ) (samples : List Float) → sampled n x y z ≡ true → value_at n samples x y z ≡ get_or samples (place_of n x y z) nan
  -- and extraction reads no other: the corners of regular cells, the points of a side's face and the neighbour's fine points, with the points one step away
  pub corners : (n x y z k : ℕ) → x < n → y < n → z < n → StepsSampled n (corner_point x y z k)
  pub face_points : (n side u v : ℕ) → OnFace n side u v → StepsSampled n (face_point n side u v)
  pub fine_points : (n side u2 v2 : ℕ) → OnFineFace n side u2 v2 → StepsSampled (2 * n) (neighbour_point n side u2 v2)

-- ---- all of it

pub record PlaceKindPromises : Type 0 where
  pub point : (n : ℕ) (samples : List Float) (x y z : ℤ) → Placed n x y z (read_point n samples x y z)
  pub came_from : (n : ℕ) (samples : List Float) (x y z : ℤ) (v : Float) (kind : PlaceKind) → read_point n samples x y z ≡ Ok (v, kind)
      → CameFrom n samples v kind
  -- a record's point read is refused exactly as the first of its judges, 15 the last, says; and else answers the point's value and kind
  pub record_judged : (bytes : List ℕ) (x y z : ℤ)
      → let n = (header_of bytes).block.subdivisions in
      Judged (sample_judges bytes x y z) (λ r. record_point bytes x y z ≡ Err r)
      (record_point bytes x y z ≡ Ok ((point_value n (samples_of bytes) x y z), (point_kind n x y z)))
  pub record_point_lem : (bytes : List ℕ) (x y z : ℤ) → Placed (header_of bytes).block.subdivisions x y z (record_point bytes x y z)
  pub record_came_from : (bytes : List ℕ) (x y z : ℤ) (v : Float) (kind : PlaceKind) → record_point bytes x y z ≡ Ok (v, kind)
      → CameFrom (header_of bytes).block.subdivisions (samples_of bytes) v kind
  -- at a point of the block a gradient reads an extension face exactly at the border, on that axis and side
  pub gradient : (n : ℕ) (samples : List Float) (p : Xyz) → Within n p → GradientReads n samples p
  pub as_before : ReadAsBefore
