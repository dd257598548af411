-- What the buyer was promised of the repair pass (document 02, [5]), for every input: what the call answers and leaves, what its list tells, and that what it
-- leaves is not refused for its samples or its faces. It speaks of repair's `repair`, to which the `ensures` of the call says that the code is equal, in the
-- words of repair's Definition. Definitions only.
use Rattle.std.specs.Prelude.{ℕ, ◌+◌, ◌*◌, ◌<◌, ◌≡◌, true, List, [], ◌∷◌, ◌++◌, T, Float, length, get_or, take, Err, Ok}
use Rattle.std.specs.Float.{binary32}
use Rattle.std.specs.Float.Ieee.{fits}
use Rattle.laws.specs.Steps.{each}
use Rattle.model.specs.declared.Header.{Header}
use Rattle.model.specs.declared.Refusal.{Refusal}
use Rattle.model.specs.Judging.{usable, judge_star, judge_faces}
use Rattle.repair.specs.declared.Change.{Change}
use Rattle.repair.specs.Definition.{Delivery, as_star, in_list, applied, undone, no_change, words_of, list_of, judge_filler, judge_changes, repair}
use Rattle.promises.specs.Left.{Laid, Lent, answered, counts}
use Rattle.promises.specs.Orders.{Judge, judge, Judged, lent_judges, room_judges}

-- ---- every call is answered: 1 to 6, 18, 19

abbrev pub repair_judges : Header → Delivery → Float → List ℕ → List Judge
repair_judges h d filler changes =
    lent_judges h.block h.mask h.threshold (length d.centre) (length d.neighbours) ++
    judge 18 (judge_filler filler) ∷
    judge 19 (judge_changes (length (list_of h d filler)) (length changes)) ∷
    []

pub record RepairIsAnswered : Type 0 where
  -- it is refused exactly as the first of 1 to 6, 18, 19 says, and otherwise answers the number of changes
  pub repairing : (h : Header) (d : Delivery) (filler : Float) (changes : List ℕ)
      → Judged (repair_judges h d filler changes) (λ r. (repair h d filler changes).answer ≡ Err r)
      ((repair h d filler changes).answer ≡ Ok (length (list_of h d filler)))
  -- refused, it leaves the delivery and the lent list as they were
  pub delivery_untouched : (h : Header) (d : Delivery) (filler : Float) (changes : List ℕ) (r : Refusal)
      → (repair h d filler changes).answer ≡ Err r → (repair h d filler changes).left ≡ d
  pub list_untouched : (h : Header) (d : Delivery) (filler : Float) (changes : List ℕ) (r : Refusal)
      → (repair h d filler changes).answer ≡ Err r → (repair h d filler changes).changes ≡ changes
  -- accepted, it leaves the delivery with every change made, and the changes in the first places, four words each
  pub made : (h : Header) (d : Delivery) (filler : Float) (changes : List ℕ) (k : ℕ)
      → (repair h d filler changes).answer ≡ Ok k → (repair h d filler changes).left ≡ applied (list_of h d filler) d
  pub list : (h : Header) (d : Delivery) (filler : Float) (changes : List ℕ) (k : ℕ)
      → (repair h d filler changes).answer ≡ Ok k
      → Laid (4 * k) (each words_of (list_of h d filler)) changes (repair h d filler changes).changes

-- ---- what the list tells

-- a change, and the delivery just before it and just after it
pub record Told (c : Change) (before after : Delivery) : Type 0 where
  -- its list is the centre or the neighbours, and its place is there
  pub list_is : c.list < 2
  pub place_is : c.place < length (in_list c.list before)
  -- its old bits are what stood there just before it, and its new bits what stands there after it
  pub old_bits : get_or (in_list c.list before) c.place 0 ≡ c.old
  pub new_bits : get_or (in_list c.list after) c.place 0 ≡ c.new

pub record ListTells (h : Header) (d : Delivery) (filler : Float) : Type 0 where
  pub each_change : (k : ℕ) → k < length (list_of h d filler)
      → Told (get_or (list_of h d filler) k no_change) (applied (take k (list_of h d filler)) d) (applied (take (k + 1) (list_of h d filler)) d)
  -- a place that no change names keeps its bits
  pub unlisted : (list place : ℕ) → list < 2
      → ((k : ℕ) → k < length (list_of h d filler) → (get_or (list_of h d filler) k no_change).list ≡ list → (get_or (list_of h d filler) k no_change).place ≡ place → ⊥)
      → get_or (in_list list (applied (list_of h d filler) d)) place 0 ≡ get_or (in_list list d) place 0
  -- undone backwards, the list gives the delivery back
  pub given_back : undone (list_of h d filler) (applied (list_of h d filler) d) ≡ d

-- ---- what is left

pub record SoundDelivery (h : Header) (left : Delivery) : Type 0 where
  -- 1 to 7 and 8 are not met
  pub block_passes : judge_star (as_star h left) ≡ Ok tt
  pub faces_pass : judge_faces (as_star h left) ≡ Ok tt
  -- so it meshes: extraction is refused exactly as 9 or 10 says of the buffers, and otherwise accepted
  pub meshes : (lent : Lent)
      → Judged (room_judges (as_star h left) lent) (λ r. answered (as_star h left) lent ≡ Err r)
      (answered (as_star h left) lent ≡ Ok (counts (as_star h left)))
  -- and a second pass, whatever its filler, lists nothing and leaves all as it is
  pub nothing_again : (filler : Float) (changes : List ℕ) → usable filler ≡ true
      → repair h left filler changes ≡ record { answer = Ok 0; left = left; changes = changes }

-- ---- all of it

pub record RepairPromises : Type 0 where
  pub answered_always : RepairIsAnswered
  pub tells : (h : Header) (d : Delivery) (filler : Float) (changes : List ℕ) (k : ℕ)
      → (repair h d filler changes).answer ≡ Ok k → ListTells h d filler
  -- for any filler that is an f32
  pub mended : (h : Header) (d : Delivery) (filler : Float) (changes : List ℕ) (k : ℕ) → T (fits binary32 filler)
      → (repair h d filler changes).answer ≡ Ok k → SoundDelivery h (repair h d filler changes).left
  -- a delivery that 1 to 8 accept is not changed, and nothing is listed
  pub accepted_unchanged : (h : Header) (d : Delivery) (filler : Float) (changes : List ℕ) → usable filler ≡ true
      → judge_star (as_star h d) ≡ Ok tt → judge_faces (as_star h d) ≡ Ok tt
      → repair h d filler changes ≡ record { answer = Ok 0; left = d; changes = changes }
