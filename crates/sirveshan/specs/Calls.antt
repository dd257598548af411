-- What the C calls answer and leave, from what the model says: a refusal as its four numbers beside zeros, or zeros beside the answer.
-- Definitions only.
use Rattle.std.specs.Prelude.{ℕ, List, Float, Result, Ok, Err, Some, None}
use Rattle.std.specs.Float.{binary32}
use Rattle.std.specs.Float.Ieee.{of_bits}
use Rattle.model.specs.declared.Header.{Header}
use Rattle.model.specs.declared.Numbers.{Numbers}
use Rattle.model.specs.declared.Refusal.{Refusal}
use Rattle.model.specs.Answers.{Verdict, PointRead, Extraction, RecordRead, RecordWritten}
use Rattle.model.specs.declared.PlaceKind.{PlaceKind}
use Rattle.model.specs.declared.PlaceKind.TheVariants.{InBlock, Face}
use Rattle.stl.specs.Answers.{StlWritten, StlRead}
use Rattle.repair.specs.Answers.{Repaired}
use Rattle.volume.specs.Answers.{BlockCut}
use Rattle.sheet.specs.Answers.{Line, SheetLine, SheetTotal}
use Rattle.weld.specs.Answers.{Welded}
use Rattle.model.specs.Limits.{side_count}
use Rattle.model.specs.Formulas.{vector}
use Rattle.model.specs.Refusals.{numbers, numbers_of}
use Rattle.model.specs.Extraction.{Outcome}
use Rattle.model.specs.Edges.{WholeOutcome}
use Rattle.model.specs.Record.{ReadOutcome, WriteOutcome}
use Rattle.stl.specs.Definition as Stl
use Rattle.repair.specs.Definition.{RepairOutcome}
use Rattle.volume.specs.Definition.{CutOutcome}
use Rattle.sheet.specs.Definition as Sheet
use Rattle.weld.specs.Definition as Weld
use Rattle.layers.specs.Definition.{MakeOutcome, SetOutcome}
use Rattle.sirveshan.specs.declared.Extracted.{Extracted}
use Rattle.sirveshan.specs.declared.HeaderRead.{HeaderRead}
use Rattle.sirveshan.specs.declared.Written.{Written}
use Rattle.sirveshan.specs.declared.TrianglesRead.{TrianglesRead}
use Rattle.sirveshan.specs.declared.Mended.{Mended}
use Rattle.sirveshan.specs.declared.SamplesCut.{SamplesCut}
use Rattle.sirveshan.specs.declared.Sampled.{Sampled}
use Rattle.sirveshan.specs.declared.LineTold.{LineTold}
use Rattle.sirveshan.specs.declared.TotalTold.{TotalTold}
use Rattle.sirveshan.specs.declared.WeldedCounts.{WeldedCounts}

abbrev pub not_refused : Numbers
not_refused = numbers 0 0 0 0

-- an answer taken apart: the numbers of its refusal, and its value, or what stands for one where there is a refusal
abbrev pub told : {T : Type 0} → Result T Refusal → T → Numbers × T
told (Ok value) none = (not_refused, value)
told (Err r) none = (numbers_of r, none)

-- the f32 whose bits are all 0
abbrev pub zero : Float
zero = of_bits binary32 0

abbrev pub no_header : Header
no_header =
    record {
      block = record { base = vector zero zero zero; size = zero; subdivisions = 0 };
      mask = 0;
      threshold = zero;
    }

-- the reads stand beside it as the model reports them: 0 where something is refused
abbrev pub as_extracted : Extraction → ℕ → Extracted
as_extracted (Ok counts) reads = record { refused = not_refused; counts = counts; reads = reads }
as_extracted (Err r) reads = record { refused = numbers_of r; counts = record { vertices = 0; triangles = 0 }; reads = reads }

abbrev pub as_header_read : RecordRead → HeaderRead
as_header_read (Ok header) = record { refused = not_refused; header = header }
as_header_read (Err r) = record { refused = numbers_of r; header = no_header }

abbrev pub as_written : RecordWritten → Written
as_written (Ok length) = record { refused = not_refused; length = length }
as_written (Err r) = record { refused = numbers_of r; length = 0 }

abbrev pub as_stl_written : StlWritten → Written
as_stl_written (Ok length) = record { refused = not_refused; length = length }
as_stl_written (Err r) = record { refused = numbers_of r; length = 0 }

abbrev pub as_triangles_read : StlRead → TrianglesRead
as_triangles_read (Ok triangles) = record { refused = not_refused; triangles = triangles }
as_triangles_read (Err r) = record { refused = numbers_of r; triangles = 0 }

abbrev pub as_mended : Repaired → Mended
as_mended (Ok changes) = record { refused = not_refused; changes = changes }
as_mended (Err r) = record { refused = numbers_of r; changes = 0 }

abbrev pub as_samples_cut : BlockCut → SamplesCut
as_samples_cut (Ok samples) = record { refused = not_refused; samples = samples }
as_samples_cut (Err r) = record { refused = numbers_of r; samples = 0 }

-- a face's kind is its own number, and in-block the next one
abbrev pub kind_number : PlaceKind → ℕ
kind_number (Face face) = face
kind_number InBlock = side_count

abbrev pub as_sampled : PointRead → Sampled
as_sampled (Ok (value, kind)) = record { refused = not_refused; value = value; kind = kind_number kind }
as_sampled (Err r) = record { refused = numbers_of r; value = zero; kind = 0 }

-- a refused line has no figures; where there is no line, next is 0
abbrev pub line_told : Line → ℕ → LineTold
line_told (Ok figures) next = record { refused = not_refused; figures = figures; next = next }
line_told (Err r) next = record { refused = numbers_of r; figures = Sheet.none; next = next }

abbrev pub as_line_told : SheetLine → LineTold
as_line_told (Ok (Some at)) = line_told at.line at.next
as_line_told (Ok None) = record { refused = not_refused; figures = Sheet.none; next = 0 }
as_line_told (Err r) = record { refused = numbers_of r; figures = Sheet.none; next = 0 }

abbrev pub as_total_told : SheetTotal → TotalTold
as_total_told (Ok figures) = record { refused = not_refused; figures = figures }
as_total_told (Err r) = record { refused = numbers_of r; figures = Sheet.none }

abbrev pub as_welded_counts : Welded → WeldedCounts
as_welded_counts (Ok counts) = record { refused = not_refused; counts = counts }
as_welded_counts (Err r) = record { refused = numbers_of r; counts = record { vertices = 0; triangles = 0 } }

-- a call that has nothing to tell but its refusal
abbrev pub as_judged : Verdict → Numbers
as_judged (Ok _) = not_refused
as_judged (Err r) = numbers_of r

-- ---- the answer, and every buffer that is lent to be written

pub record ExtractCall : Type 0 where
  pub answer : Extracted
  pub store : List ℕ
  pub vertices : List Float
  pub triangles : List ℕ

abbrev pub extract_call : Outcome → ExtractCall
extract_call o = record { answer = as_extracted o.answer o.reads; store = o.store; vertices = o.vertices; triangles = o.triangles }

pub record ExtractWholeCall : Type 0 where
  pub answer : Extracted
  pub store : List ℕ
  pub vertices : List Float
  pub triangles : List ℕ
  pub edges : List ℕ

abbrev pub extract_whole_call : WholeOutcome → ExtractWholeCall
extract_whole_call w =
    let o = w.mesh in
    record { answer = as_extracted o.answer o.reads; store = o.store; vertices = o.vertices; triangles = o.triangles; edges = w.edges }

pub record ReadCall : Type 0 where
  pub answer : HeaderRead
  pub samples : List Float

abbrev pub read_call : ReadOutcome → ReadCall
read_call o = record { answer = as_header_read o.answer; samples = o.samples }

pub record WriteCall : Type 0 where
  pub answer : Written
  pub bytes : List ℕ

abbrev pub write_call : WriteOutcome → WriteCall
write_call o = record { answer = as_written o.answer; bytes = o.bytes }

abbrev pub write_stl_call : Stl.WriteOutcome → WriteCall
write_stl_call o = record { answer = as_stl_written o.answer; bytes = o.bytes }

pub record ReadStlCall : Type 0 where
  pub answer : TrianglesRead
  pub positions : List Float

abbrev pub read_stl_call : Stl.ReadOutcome → ReadStlCall
read_stl_call o = record { answer = as_triangles_read o.answer; positions = o.positions }

pub record RepairCall : Type 0 where
  pub answer : Mended
  pub centre : List ℕ
  pub neighbours : List ℕ
  pub changes : List ℕ

abbrev pub repair_call : RepairOutcome → RepairCall
repair_call o = record { answer = as_mended o.answer; centre = o.left.centre; neighbours = o.left.neighbours; changes = o.changes }

pub record CutCall : Type 0 where
  pub answer : SamplesCut
  pub samples : List Float

abbrev pub cut_call : CutOutcome → CutCall
cut_call o = record { answer = as_samples_cut o.answer; samples = o.samples }

pub record WeldCall : Type 0 where
  pub answer : WeldedCounts
  pub vertices : List Float
  pub triangles : List ℕ
  pub edges : List ℕ

abbrev pub weld_call : Weld.Outcome → WeldCall
weld_call o = record { answer = as_welded_counts o.answer; vertices = o.vertices; triangles = o.triangles; edges = o.edges }

pub record MakeCall : Type 0 where
  pub answer : Numbers
  pub summary : List Float

abbrev pub make_call : MakeOutcome → MakeCall
make_call o = record { answer = as_judged o.answer; summary = o.summary }

pub record SetCall : Type 0 where
  pub answer : Numbers
  pub samples : List Float
  pub summary : List Float

abbrev pub set_call : SetOutcome → SetCall
set_call o = record { answer = as_judged o.answer; samples = o.samples; summary = o.summary }
