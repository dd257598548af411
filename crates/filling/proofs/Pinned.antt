-- What each statement allows is one outcome: of two that it allows for the same inputs, each is the other.
use Rattle.std.proofs.Common.{◌≡◌, sym, ◌∙◌}
use contract.Lifetimes.{Lfts}
use Rattle.filling.proofs.names.Name.new.Reads as new-name
use Rattle.filling.proofs.names.Name.as_str.Reads as name-text
use Rattle.filling.proofs.tally.Tally.note.Reads as note

pub Name_new_pinned : (κs : Lfts 0) (a : _) (r r' : _) (e e' : _) → new-name.Learnt κs a r e → new-name.Learnt κs a r' e' → r.bytes ≡ r'.bytes
Name_new_pinned κs a r r' e e' h k = h ∙ sym k

pub as_str_pinned : (κs : Lfts 1) (a : _) (r r' : _) (e e' : _) → name-text.Learnt κs a r e → name-text.Learnt κs a r' e' → r.now ≡ r'.now
as_str_pinned κs a r r' e e' h k = h ∙ sym k

pub note_pinned : (κs : Lfts 1) (a : _) (r r' : _) (e e' : _) → note.Learnt κs a r e → note.Learnt κs a r' e' → e.0.now ≡ e'.0.now
note_pinned κs a r r' e e' h k = h ∙ sym k
