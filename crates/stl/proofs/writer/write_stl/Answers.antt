-- `write_stl` meets its contract: a refusal leaves the bytes; otherwise the start and the triangles are put, which is the whole file.
use Rattle.std.specs.Prelude.{Ok}
use Prim.Native.Nat.{ℕ}
use native.Mathlib.Omega.{arith}
use mathlib.Core.Path.{◌≡◌, sym, ap, ◌∙◌}
use mathlib.Core.List.{List}
use lib.ListN.{length}
use lib.Seq.{sets}
use Rattle.laws.specs.Counting.{gather}
use Rattle.laws.specs.Exits.{handed_on}
use Rattle.model.specs.Corners.{triangle_count}
use Rattle.stl.specs.Definition.{vertex_count, start_length, judge_writing, write_answer, write_stl}
use Rattle.stl.specs.Parts.{facet_of, file_laid}
use Rattle.stl.specs.Passing.{Writable, writable}
use Rattle.stl.proofs.writer.write_stl.Goals as goal
use Rattle.stl.proofs.writer.write_stl.Goals.{In_ok-judge_writing}

passed : (c : In_ok-judge_writing) → judge_writing (vertex_count c.args.vertices.now) c.args.triangles.now (length c.args.bytes.now) ≡ Ok tt
passed c = sym c.judge_writing.ensures ∙ c.in_ok-judge_writing.was

is-writable : (c : In_ok-judge_writing) → Writable c.args.vertices.now c.args.triangles.now (length c.args.bytes.now)
is-writable c = writable c.args.vertices.now c.args.triangles.now (length c.args.bytes.now) (passed c)

pub returns-in_err-judge_writing : goal.returns-in_err-judge_writing
unfolding write_stl
returns-in_err-judge_writing c =
    let args = c.args in
    let refused = sym c.judge_writing.ensures ∙ c.in_err-judge_writing.was in
    rw (handed_on _ _ c.from_residual.ensures.1) (sym (ap (write_answer args.vertices.now args.triangles.now args.bytes.now) refused))

pub put_start-requires : goal.put_start-requires
put_start-requires c =
    let w = is-writable (goal.at.put_start-requires c).In_ok-judge_writing in
    (omega (arith, w.fits), w.few)

pub put_triangles-requires : goal.put_triangles-requires
put_triangles-requires c =
    let w = is-writable (goal.at.put_triangles-requires c).In_ok-judge_writing in
    (omega (arith, w.fits), w.named)

pub file_length-requires : goal.file_length-requires
file_length-requires c =
    omega (arith, (is-writable (goal.at.file_length-requires c).In_ok-judge_writing).few)

pub returns : goal.returns
unfolding write_stl
returns c =
    let count = triangle_count c.args.triangles.now in
    let laid-down =
    c.put_triangles.ensures
    ∙ ap (λ (l : List ℕ). sets l start_length (gather (facet_of c.args.vertices.now c.args.triangles.now) count)) c.put_start.ensures
    ∙ file_laid c.args.vertices.now c.args.triangles.now c.args.bytes.now (is-writable (goal.at.returns c).In_ok-judge_writing).fits in
    (λ i. record { answer = Ok (c.file_length.ensures i); bytes = laid-down i })
    ∙ sym (ap (write_answer c.args.vertices.now c.args.triangles.now c.args.bytes.now) (passed (goal.at.returns c).In_ok-judge_writing))
