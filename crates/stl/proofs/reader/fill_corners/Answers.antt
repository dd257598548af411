-- `fill_corners` meets its contract. The invariant: the floats passed stand from `at` on.
use Prim.Native.Nat.{ℕ, ◌+◌, ◌*◌}
use native.Mathlib.Omega.{arith}
use mathlib.Core.Path.{◌≡◌, sym, ap, ap₂, ◌∙◌}
use mathlib.Core.List.{List}
use lib.Ieee.{Float, binary32, of_bits}
use lib.ListN.{length, set}
use lib.Seq.{sets, length-sets}
use Rattle.laws.specs.Steps.{listed}
use Rattle.laws.specs.Gathered.{sets_listed}
use Rattle.stl.specs.Definition.{float_count}
use Rattle.stl.specs.Numbers.{number_at}
use Rattle.model.specs.Words.{little_float_at}
use Rattle.stl.proofs.reader.fill_corners.Goals as goal

abbrev floatFrom : List ℕ → ℕ → ℕ → Float
floatFrom bytes from k = little_float_at bytes (from + 4 * k)

pub float_known-requires : goal.float_known-requires
float_known-requires c known =
    let start = c.args in
    let all = sym c.requires.1.1 ∙ known in
    rw c.word_at.ensures (number_at start.bytes.now start.from float_count c.loop-k.k all (omega arith))

pub loop-k-preserved : goal.loop-k-preserved
loop-k-preserved c =
    let start = c.args in
    let turn = c.loop-k in
    let float = floatFrom start.bytes.now start.from in
    let x = c.float_known.result in
    let is : x ≡ float turn.k = c.float_known.ensures ∙ ap (of_bits binary32) c.word_at.ensures in
    let put : set turn.positions (start.at + turn.k) x ≡ sets start.positions.now start.at (listed float (turn.k + 1)) =
    ap₂ (λ (l : List Float) (x : Float). set l (start.at + turn.k) x) turn.invariant.2 is ∙ sets_listed float start.positions.now start.at turn.k in
    (omega arith, ap length put ∙ length-sets start.positions.now start.at (listed float (turn.k + 1)), put)

pub shape_of-positions : goal.shape_of-positions
shape_of-positions c = c.loop-k.invariant.1

pub returns : goal.returns
returns c =
    let start = c.args in
    let all : c.loop-k.k ≡ float_count = omega arith in
    c.loop-k.invariant.2 ∙ ap (λ (k : ℕ). sets start.positions.now start.at (listed (floatFrom start.bytes.now start.from) k)) all
