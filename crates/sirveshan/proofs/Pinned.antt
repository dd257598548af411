-- What the statement of each call allows is one outcome: of two that it allows for the same inputs, the answers are equal, and so is what each
-- buffer that is lent to be written holds.
use mathlib.Core.Path.{◌≡◌}
use contract.Lifetimes.{Lfts}
use Rattle.model.specs.Pinned.{pinned}
use Rattle.sirveshan.proofs.sirveshan_extract.Reads as extract
use Rattle.sirveshan.proofs.sirveshan_extract_whole.Reads as extract-whole
use Rattle.sirveshan.proofs.sirveshan_extract_layered.Reads as extract-layered
use Rattle.sirveshan.proofs.sirveshan_read.Reads as read
use Rattle.sirveshan.proofs.sirveshan_write.Reads as write
use Rattle.sirveshan.proofs.sirveshan_write_stl.Reads as write-stl
use Rattle.sirveshan.proofs.sirveshan_read_stl.Reads as read-stl
use Rattle.sirveshan.proofs.sirveshan_repair.Reads as repair
use Rattle.sirveshan.proofs.sirveshan_cut.Reads as cut
use Rattle.sirveshan.proofs.sirveshan_weld.Reads as weld
use Rattle.sirveshan.proofs.sirveshan_make_summary.Reads as make-summary
use Rattle.sirveshan.proofs.sirveshan_set_sample.Reads as set-sample
use Rattle.sirveshan.proofs.sirveshan_subdivisions.Reads as subdivisions
use Rattle.sirveshan.proofs.sirveshan_blank.Reads as blank
use Rattle.sirveshan.proofs.sirveshan_sample.Reads as sample
use Rattle.sirveshan.proofs.sirveshan_sample_kind.Reads as sample-kind
use Rattle.sirveshan.proofs.sirveshan_sheet_line.Reads as sheet-line
use Rattle.sirveshan.proofs.sirveshan_sheet_total.Reads as sheet-total

pub sirveshan_extract_pinned : (κs : Lfts 5) (a : _) (r r' : _) (e e' : _) → extract.Learnt κs a r e → extract.Learnt κs a r' e'
    → (r ≡ r')
    × ((e.1.1.1.0.now ≡ e'.1.1.1.0.now)
    × ((e.1.1.1.1.0.now ≡ e'.1.1.1.1.0.now) × (e.1.1.1.1.1.0.now ≡ e'.1.1.1.1.1.0.now)))
sirveshan_extract_pinned κs a r r' e e' h k =
    (λ i. (pinned h k i).answer, (λ i. (pinned h k i).store, (λ i. (pinned h k i).vertices, λ i. (pinned h k i).triangles)))

pub sirveshan_extract_whole_pinned : (κs : Lfts 6) (a : _) (r r' : _) (e e' : _) → extract-whole.Learnt κs a r e → extract-whole.Learnt κs a r' e'
    → (r ≡ r')
    × ((e.1.1.1.0.now ≡ e'.1.1.1.0.now)
    × ((e.1.1.1.1.0.now ≡ e'.1.1.1.1.0.now)
    × ((e.1.1.1.1.1.0.now ≡ e'.1.1.1.1.1.0.now) × (e.1.1.1.1.1.1.0.now ≡ e'.1.1.1.1.1.1.0.now))))
sirveshan_extract_whole_pinned κs a r r' e e' h k = (
  λ i. (pinned h k i).answer,
  (λ i. (pinned h k i).store, (λ i. (pinned h k i).vertices, (λ i. (pinned h k i).triangles, λ i. (pinned h k i).edges))),
)

pub sirveshan_extract_layered_pinned : (κs : Lfts 7) (a : _) (r r' : _) (e e' : _) → extract-layered.Learnt κs a r e → extract-layered.Learnt κs a r' e'
    → (r ≡ r')
    × ((e.1.1.1.1.0.now ≡ e'.1.1.1.1.0.now)
    × ((e.1.1.1.1.1.0.now ≡ e'.1.1.1.1.1.0.now)
    × ((e.1.1.1.1.1.1.0.now ≡ e'.1.1.1.1.1.1.0.now) × (e.1.1.1.1.1.1.1.0.now ≡ e'.1.1.1.1.1.1.1.0.now))))
sirveshan_extract_layered_pinned κs a r r' e e' h k = (
  λ i. (pinned h k i).answer,
  (λ i. (pinned h k i).store, (λ i. (pinned h k i).vertices, (λ i. (pinned h k i).triangles, λ i. (pinned h k i).edges))),
)

pub sirveshan_read_pinned : (κs : Lfts 2) (a : _) (r r' : _) (e e' : _) → read.Learnt κs a r e → read.Learnt κs a r' e'
    → (r ≡ r') × (e.1.0.now ≡ e'.1.0.now)
sirveshan_read_pinned κs a r r' e e' h k = (λ i. (pinned h k i).answer, λ i. (pinned h k i).samples)

pub sirveshan_write_pinned : (κs : Lfts 3) (a : _) (r r' : _) (e e' : _) → write.Learnt κs a r e → write.Learnt κs a r' e'
    → (r ≡ r') × (e.1.1.1.0.now ≡ e'.1.1.1.0.now)
sirveshan_write_pinned κs a r r' e e' h k = (λ i. (pinned h k i).answer, λ i. (pinned h k i).bytes)

pub sirveshan_write_stl_pinned : (κs : Lfts 3) (a : _) (r r' : _) (e e' : _) → write-stl.Learnt κs a r e → write-stl.Learnt κs a r' e'
    → (r ≡ r') × (e.1.1.0.now ≡ e'.1.1.0.now)
sirveshan_write_stl_pinned κs a r r' e e' h k = (λ i. (pinned h k i).answer, λ i. (pinned h k i).bytes)

pub sirveshan_read_stl_pinned : (κs : Lfts 2) (a : _) (r r' : _) (e e' : _) → read-stl.Learnt κs a r e → read-stl.Learnt κs a r' e'
    → (r ≡ r') × (e.1.0.now ≡ e'.1.0.now)
sirveshan_read_stl_pinned κs a r r' e e' h k = (λ i. (pinned h k i).answer, λ i. (pinned h k i).positions)

pub sirveshan_repair_pinned : (κs : Lfts 3) (a : _) (r r' : _) (e e' : _) → repair.Learnt κs a r e → repair.Learnt κs a r' e'
    → (r ≡ r')
    × ((e.1.0.now ≡ e'.1.0.now) × ((e.1.1.0.now ≡ e'.1.1.0.now) × (e.1.1.1.1.0.now ≡ e'.1.1.1.1.0.now)))
sirveshan_repair_pinned κs a r r' e e' h k =
    (λ i. (pinned h k i).answer, (λ i. (pinned h k i).centre, (λ i. (pinned h k i).neighbours, λ i. (pinned h k i).changes)))

pub sirveshan_cut_pinned : (κs : Lfts 2) (a : _) (r r' : _) (e e' : _) → cut.Learnt κs a r e → cut.Learnt κs a r' e'
    → (r ≡ r') × (e.1.1.1.1.0.now ≡ e'.1.1.1.1.0.now)
sirveshan_cut_pinned κs a r r' e e' h k = (λ i. (pinned h k i).answer, λ i. (pinned h k i).samples)

pub sirveshan_weld_pinned : (κs : Lfts 3) (a : _) (r r' : _) (e e' : _) → weld.Learnt κs a r e → weld.Learnt κs a r' e'
    → (r ≡ r') × ((e.1.1.0.now ≡ e'.1.1.0.now) × ((e.1.1.1.0.now ≡ e'.1.1.1.0.now) × (e.1.1.1.1.0.now ≡ e'.1.1.1.1.0.now)))
sirveshan_weld_pinned κs a r r' e e' h k =
    (λ i. (pinned h k i).answer, (λ i. (pinned h k i).vertices, (λ i. (pinned h k i).triangles, λ i. (pinned h k i).edges)))

pub sirveshan_make_summary_pinned : (κs : Lfts 2) (a : _) (r r' : _) (e e' : _) → make-summary.Learnt κs a r e → make-summary.Learnt κs a r' e'
    → (r ≡ r') × (e.1.1.0.now ≡ e'.1.1.0.now)
sirveshan_make_summary_pinned κs a r r' e e' h k = (λ i. (pinned h k i).answer, λ i. (pinned h k i).summary)

pub sirveshan_set_sample_pinned : (κs : Lfts 2) (a : _) (r r' : _) (e e' : _) → set-sample.Learnt κs a r e → set-sample.Learnt κs a r' e'
    → (r ≡ r') × ((e.1.0.now ≡ e'.1.0.now) × (e.1.1.1.1.1.1.0.now ≡ e'.1.1.1.1.1.1.0.now))
sirveshan_set_sample_pinned κs a r r' e e' h k = (λ i. (pinned h k i).answer, (λ i. (pinned h k i).samples, λ i. (pinned h k i).summary))

pub sirveshan_subdivisions_pinned : (κs : Lfts 1) (a : _) (r r' : _) (e e' : _) → subdivisions.Learnt κs a r e → subdivisions.Learnt κs a r' e' → r ≡ r'
sirveshan_subdivisions_pinned κs a r r' e e' h k = pinned h k

pub sirveshan_blank_pinned : (κs : Lfts 1) (a : _) (r r' : _) (e e' : _) → blank.Learnt κs a r e → blank.Learnt κs a r' e' → r ≡ r'
sirveshan_blank_pinned κs a r r' e e' h k = pinned h k

pub sirveshan_sample_pinned : (κs : Lfts 1) (a : _) (r r' : _) (e e' : _) → sample.Learnt κs a r e → sample.Learnt κs a r' e' → r ≡ r'
sirveshan_sample_pinned κs a r r' e e' h k = pinned h k

pub sirveshan_sample_kind_pinned : (κs : Lfts 1) (a : _) (r r' : _) (e e' : _) → sample-kind.Learnt κs a r e → sample-kind.Learnt κs a r' e' → r ≡ r'
sirveshan_sample_kind_pinned κs a r r' e e' h k = pinned h k

pub sirveshan_sheet_line_pinned : (κs : Lfts 1) (a : _) (r r' : _) (e e' : _) → sheet-line.Learnt κs a r e → sheet-line.Learnt κs a r' e' → r ≡ r'
sirveshan_sheet_line_pinned κs a r r' e e' h k = pinned h k

pub sirveshan_sheet_total_pinned : (κs : Lfts 1) (a : _) (r r' : _) (e e' : _) → sheet-total.Learnt κs a r e → sheet-total.Learnt κs a r' e' → r ≡ r'
sirveshan_sheet_total_pinned κs a r r' e e' h k = pinned h k
