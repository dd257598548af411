-- The theorem: all that was promised holds.
use Rattle.std.specs.Prelude.{cond}
use Rattle.model.specs.Record.{header_of, star_of}
use Rattle.model.specs.Blank.{is_blank}
use Rattle.model.specs.Viewer.{subdivisions_answer, blank_answer}
use Rattle.model.specs.Figures.{figures_agree}
use Rattle.record.specs.RoundTrip.{read_write, write_read}
use Rattle.promises.specs.Promises.{Promises}
use Rattle.promises.proofs.Extracted.{extraction, extraction_untouched, wanted, equal_mesh, no_hole_is_left}
use Rattle.promises.proofs.Records.{reading, reading_untouched, samples_laid, writing, writing_untouched, bytes_laid}
use Rattle.promises.proofs.Room.{enough}
use Rattle.promises.proofs.StlKept.{stl_kept}
use Rattle.promises.proofs.NestingKept.{nesting_kept}
use Rattle.promises.proofs.PlaceKindsKept.{place_kinds_kept}
use Rattle.promises.proofs.BlankKept.{blank_kept}
use Rattle.promises.proofs.WeightsKept.{weights_kept}
use Rattle.promises.proofs.FinerKept.{no_gap_is_left}
use Rattle.promises.proofs.ReadsKept.{reads_kept}
use Rattle.promises.proofs.VolumeKept.{volume_kept}
use Rattle.promises.proofs.LargerKept.{larger_kept}
use Rattle.promises.proofs.SheetKept.{sheet_kept}
use Rattle.promises.proofs.RepairKept.{repair_kept}
use Rattle.promises.proofs.WeldKept.{weld_kept}
use Rattle.promises.proofs.LayersKept.{layers_kept}
use Rattle.promises.proofs.LayeredKept.{layered_kept}
use Rattle.promises.proofs.Views.{point, packed_record, subdivisions_apart, blank_apart, viewer_sample}

pub kept : Promises
unfolding subdivisions_answer blank_answer
kept =
    record {
      every_call = record {
        extraction = extraction;
        extraction_untouched = extraction_untouched;
        reading = reading;
        reading_untouched = reading_untouched;
        writing = writing;
        writing_untouched = writing_untouched;
        point = point;
        viewer_subdivisions = λ bytes. packed_record bytes 100 (header_of bytes).block.subdivisions (subdivisions_apart bytes);
        viewer_blank = λ bytes. packed_record bytes 100 (cond (is_blank (star_of bytes)) 1 0) (λ e. blank_apart (is_blank (star_of bytes)));
        viewer_sample = viewer_sample;
      };
      definition = record { mesh = equal_mesh; wanted = wanted; samples = samples_laid; bytes = bytes_laid };
      no_hole = no_hole_is_left;
      no_gap = no_gap_is_left;
      round_trips = record { read_write = read_write; write_read = write_read };
      room = enough;
      stl = stl_kept;
      nesting = nesting_kept;
      place_kinds = place_kinds_kept;
      blank = blank_kept;
      weights = weights_kept;
      reads = reads_kept;
      volume = volume_kept;
      larger = larger_kept;
      sheet = sheet_kept;
      repair = repair_kept;
      weld = weld_kept;
      layers = layers_kept;
      layered = layered_kept;
      starred = figures_agree;
    }
