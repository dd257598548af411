-- `put_triangles` meets its contract. The invariant: the triangles passed stand after the start.
use Rattle.std.specs.Prelude.{ℕ, ◌<◌, ◌≡◌, List}
use Rattle.std.proofs.Common.{◌∙◌, ap, ap₂, arith}
use Rattle.std.proofs.lemmas.List.Edits.{sets}
use Rattle.laws.specs.Counting.{gather}
use Rattle.laws.specs.Gathered.{sets_gather}
use Rattle.model.specs.Corners.{triangle_count}
use Rattle.stl.specs.Definition.{start_length, triangle_length}
use Rattle.stl.specs.Parts.{facet_of, length_facet}
use Rattle.stl.proofs.writer.put_triangles.Goals as goal

pub file_length-requires : goal.file_length-requires
file_length-requires c = omega arith

pub put_triangle-requires : goal.put_triangle-requires
put_triangle-requires c =
    let here : c.loop-t.t < triangle_count c.args.triangles.now = omega arith in
    (omega (arith, c.file_length.ensures, c.requires), (here, c.requires.1 _ here))

pub loop-t-preserved : goal.loop-t-preserved
loop-t-preserved c =
    let start = c.args in
    let t = c.loop-t.t in
    let facet = facet_of start.vertices.now start.triangles.now in
    c.put_triangle.ensures
    ∙ ap₂ (λ (l : List ℕ) (at : ℕ). sets l at (facet t)) c.loop-t.invariant c.file_length.ensures
    ∙ sets_gather facet triangle_length (length_facet start.vertices.now start.triangles.now) start.bytes.now start_length t

pub returns : goal.returns
returns c =
    let start = c.args in
    let all : c.loop-t.t ≡ triangle_count start.triangles.now = omega arith in
    c.loop-t.invariant ∙ ap (λ (t : ℕ). sets start.bytes.now start_length (gather (facet_of start.vertices.now start.triangles.now) t)) all
