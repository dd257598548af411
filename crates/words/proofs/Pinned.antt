-- What the statement of each public function allows is one outcome: of two that it allows for the same inputs, the answers are equal, and so
-- is what a lent buffer holds.
use mathlib.Core.Path.{◌≡◌}
use contract.Lifetimes.{Lfts}
use Rattle.model.specs.Pinned.{pinned}
use Rattle.words.proofs.orders.BigByteOrder.word_at.Reads as big-word-at
use Rattle.words.proofs.orders.BigByteOrder.float_at.Reads as big-float-at
use Rattle.words.proofs.orders.BigByteOrder.put_word.Reads as big-put-word
use Rattle.words.proofs.orders.LittleByteOrder.word_at.Reads as little-word-at
use Rattle.words.proofs.orders.LittleByteOrder.float_at.Reads as little-float-at
use Rattle.words.proofs.orders.LittleByteOrder.put_word.Reads as little-put-word
use Rattle.words.proofs.floats.bits_of.Reads as bits_of
use Rattle.words.proofs.floats.float_of.Reads as float_of
use Rattle.words.proofs.floats.is_number.Reads as is_number
use Rattle.words.proofs.floats.float_known.Reads as float_known

pub Big_word_at_pinned : (κs : Lfts 1) (a : _) (r r' : _) (e e' : _) → big-word-at.Learnt κs a r e → big-word-at.Learnt κs a r' e' → r ≡ r'
Big_word_at_pinned κs a r r' e e' h k = pinned h k

pub Big_float_at_pinned : (κs : Lfts 1) (a : _) (r r' : _) (e e' : _) → big-float-at.Learnt κs a r e → big-float-at.Learnt κs a r' e' → r ≡ r'
Big_float_at_pinned κs a r r' e e' h k = pinned h k

pub Big_put_word_pinned : (κs : Lfts 1) (a : _) (r r' : _) (e e' : _) → big-put-word.Learnt κs a r e → big-put-word.Learnt κs a r' e' → e.0.now ≡ e'.0.now
Big_put_word_pinned κs a r r' e e' h k = pinned h k

pub Little_word_at_pinned : (κs : Lfts 1) (a : _) (r r' : _) (e e' : _) → little-word-at.Learnt κs a r e → little-word-at.Learnt κs a r' e' → r ≡ r'
Little_word_at_pinned κs a r r' e e' h k = pinned h k

pub Little_float_at_pinned : (κs : Lfts 1) (a : _) (r r' : _) (e e' : _) → little-float-at.Learnt κs a r e → little-float-at.Learnt κs a r' e' → r ≡ r'
Little_float_at_pinned κs a r r' e e' h k = pinned h k

pub Little_put_word_pinned : (κs : Lfts 1) (a : _) (r r' : _) (e e' : _) → little-put-word.Learnt κs a r e → little-put-word.Learnt κs a r' e' → e.0.now ≡ e'.0.now
Little_put_word_pinned κs a r r' e e' h k = pinned h k

pub bits_of_pinned : (κs : Lfts 0) (a : _) (r r' : _) (e e' : _) → bits_of.Learnt κs a r e → bits_of.Learnt κs a r' e' → r ≡ r'
bits_of_pinned κs a r r' e e' h k = pinned h k

pub float_of_pinned : (κs : Lfts 0) (a : _) (r r' : _) (e e' : _) → float_of.Learnt κs a r e → float_of.Learnt κs a r' e' → r ≡ r'
float_of_pinned κs a r r' e e' h k = pinned h k

pub is_number_pinned : (κs : Lfts 0) (a : _) (r r' : _) (e e' : _) → is_number.Learnt κs a r e → is_number.Learnt κs a r' e' → r ≡ r'
is_number_pinned κs a r r' e e' h k = pinned h k

pub float_known_pinned : (κs : Lfts 0) (a : _) (r r' : _) (e e' : _) → float_known.Learnt κs a r e → float_known.Learnt κs a r' e' → r ≡ r'
float_known_pinned κs a r r' e e' h k = pinned h k
