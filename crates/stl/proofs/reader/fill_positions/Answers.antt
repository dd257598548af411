-- `fill_positions` meets its contract. The invariant: the corners of the triangles passed stand in the first places.
use Prim.Native.Nat.{ℕ, ◌≤◌, ◌+◌, ◌*◌}
use native.Mathlib.Omega.{arith}
use native.Mathlib.Nat.{zero-add}
use mathlib.Core.Path.{◌≡◌, refl, ap, ◌∙◌, sym, ap₂}
use mathlib.Core.List.{List}
use lib.Ieee.{Float}
use lib.ListN.{length}
use lib.Seq.{sets, length-sets}
use Rattle.laws.specs.Counting.{gather}
use Rattle.laws.specs.Steps.{listed}
use Rattle.laws.specs.Lists.{sets_first}
use Rattle.laws.specs.Gathered.{sets_gather, length_gather}
use Rattle.model.specs.Words.{little_float_at}
use Rattle.stl.specs.Definition.{float_count, corners_in, positions_in, normal_length, count_in}
use Rattle.stl.proofs.reader.fill_positions.Goals as goal

pub all_numbers-numbers-requires : goal.all_numbers-numbers-requires
all_numbers-numbers-requires c =
    let pre = c.requires in
    omega (arith, c.file_length-from.ensures, pre)

pub fill_corners-requires : goal.fill_corners-requires
fill_corners-requires c =
    let pre = c.requires in
    (omega (arith, c.file_length-from.ensures, pre), (omega (arith, pre), c.all_numbers-numbers.ensures))

pub loop-t-preserved : goal.loop-t-preserved
loop-t-preserved c =
    let turn = c.loop-t in
    let start = c.args in
    let corners = corners_in start.bytes.now in
    let put : c.fill_corners.new.positions ≡ sets start.positions.now 0 (gather corners (turn.t + 1)) =
    c.fill_corners.ensures
    ∙ ap₂ (λ (l : List Float) (from : ℕ). sets l (float_count * turn.t) (listed (λ k. little_float_at start.bytes.now (from + normal_length + 4 * k)) float_count)) turn.invariant.2 c.file_length-from.ensures
    ∙ ap (λ (i : ℕ). sets (sets start.positions.now 0 (gather corners turn.t)) i (corners turn.t)) (sym (zero-add (float_count * turn.t)))
    ∙ sets_gather corners float_count (λ t. refl) start.positions.now 0 turn.t in
    (omega arith, ap length put ∙ length-sets start.positions.now 0 (gather corners (turn.t + 1)), put)

pub shape_of-positions : goal.shape_of-positions
shape_of-positions c = c.loop-t.invariant.1

pub returns : goal.returns
unfolding positions_in
returns c =
    let start = c.args in
    let all : c.loop-t.t ≡ count_in start.bytes.now = omega (arith, c.requires.0) in
    let room : length (positions_in start.bytes.now) ≤ length start.positions.now = rw (length_gather (corners_in start.bytes.now) float_count (λ t. refl)) (omega (arith, c.requires)) in
    c.loop-t.invariant.2 ∙ ap (λ (t : ℕ). sets start.positions.now 0 (gather (corners_in start.bytes.now) t)) all
    ∙ sets_first start.positions.now (positions_in start.bytes.now) room
