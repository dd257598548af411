-- What the statement of each public function allows is one outcome: of two that it allows for the same inputs, the answers are equal, and so
-- is what a lent buffer holds.
use mathlib.Core.Path.{◌≡◌}
use contract.Lifetimes.{Lfts}
use Rattle.model.specs.Pinned.{pinned}
use Rattle.record.proofs.fields.sample_from.Reads as sample-from
use Rattle.record.proofs.fields.subdivisions_of.Reads as subdivisions-of
use Rattle.record.proofs.fields.mask_of.Reads as mask-of
use Rattle.record.proofs.fields.header_of.Reads as header_of
use Rattle.record.proofs.passed.Record.count.Reads as record-count
use Rattle.record.proofs.passed.Record.sample.Reads as record-sample
use Rattle.record.proofs.judging.is_usable.Reads as is_usable
use Rattle.record.proofs.judging.judge_record.Reads as judge-record
use Rattle.record.proofs.reader.read_record.Reads as read-record
use Rattle.record.proofs.writer.write_record.Reads as write-record

pub sample_from_pinned : (κs : Lfts 0) (a : _) (r r' : _) (e e' : _) → sample-from.Learnt κs a r e → sample-from.Learnt κs a r' e' → r ≡ r'
sample_from_pinned κs a r r' e e' h k = pinned h k

pub subdivisions_of_pinned : (κs : Lfts 1) (a : _) (r r' : _) (e e' : _) → subdivisions-of.Learnt κs a r e → subdivisions-of.Learnt κs a r' e' → r ≡ r'
subdivisions_of_pinned κs a r r' e e' h k = pinned h k

pub mask_of_pinned : (κs : Lfts 1) (a : _) (r r' : _) (e e' : _) → mask-of.Learnt κs a r e → mask-of.Learnt κs a r' e' → r ≡ r'
mask_of_pinned κs a r r' e e' h k = pinned h k

pub header_of_pinned : (κs : Lfts 1) (a : _) (r r' : _) (e e' : _) → header_of.Learnt κs a r e → header_of.Learnt κs a r' e' → r ≡ r'
header_of_pinned κs a r r' e e' h k = pinned h k

pub Record_count_pinned : (κs : Lfts 2) (a : _) (r r' : _) (e e' : _) → record-count.Learnt κs a r e → record-count.Learnt κs a r' e' → r ≡ r'
Record_count_pinned κs a r r' e e' h k = pinned h k

pub Record_sample_pinned : (κs : Lfts 2) (a : _) (r r' : _) (e e' : _) → record-sample.Learnt κs a r e → record-sample.Learnt κs a r' e' → r ≡ r'
Record_sample_pinned κs a r r' e e' h k = pinned h k

pub is_usable_pinned : (κs : Lfts 0) (a : _) (r r' : _) (e e' : _) → is_usable.Learnt κs a r e → is_usable.Learnt κs a r' e' → r ≡ r'
is_usable_pinned κs a r r' e e' h k = pinned h k

pub judge_record_pinned : (κs : Lfts 1) (a : _) (r r' : _) (e e' : _) → judge-record.Learnt κs a r e → judge-record.Learnt κs a r' e' → r ≡ r'
judge_record_pinned κs a r r' e e' h k = pinned h k

pub read_record_pinned : (κs : Lfts 2) (a : _) (r r' : _) (e e' : _) → read-record.Learnt κs a r e → read-record.Learnt κs a r' e'
    → (r ≡ r') × (e.1.0.now ≡ e'.1.0.now)
read_record_pinned κs a r r' e e' h k = (λ i. (pinned h k i).answer, λ i. (pinned h k i).samples)

pub write_record_pinned : (κs : Lfts 3) (a : _) (r r' : _) (e e' : _) → write-record.Learnt κs a r e → write-record.Learnt κs a r' e'
    → (r ≡ r') × (e.1.0.now ≡ e'.1.0.now)
write_record_pinned κs a r r' e e' h k = (λ i. (pinned h k i).answer, λ i. (pinned h k i).bytes)
