-- What the statement of each public judge allows is one answer: of two that it allows for the same inputs, each is the other.
use mathlib.Core.Path.{◌≡◌}
use contract.Lifetimes.{Lfts}
use Rattle.model.specs.Pinned.{pinned}
use Rattle.judge.proofs.unless.Reads as unless
use Rattle.judge.proofs.judge_subdivisions.Reads as judge-subdivisions
use Rattle.judge.proofs.judge_mask.Reads as judge-mask
use Rattle.judge.proofs.judge_buffer.Reads as judge-buffer
use Rattle.judge.proofs.judge_edges.Reads as judge-edges
use Rattle.judge.proofs.judge_room.Reads as judge-room
use Rattle.judge.proofs.judge_store.Reads as judge-store
use Rattle.judge.proofs.is_usable.Reads as is_usable
use Rattle.judge.proofs.judge_lent.Reads as judge-lent
use Rattle.judge.proofs.judge_star.Reads as judge-star
use Rattle.judge.proofs.samples.judge_list.Reads as judge-list
use Rattle.judge.proofs.point_read.judge_block.Reads as judge-block
use Rattle.judge.proofs.point_read.answered.Reads as answered
use Rattle.judge.proofs.point_read.read_point.Reads as read-point

pub unless_pinned : (κs : Lfts 0) (a : _) (r r' : _) (e e' : _) → unless.Learnt κs a r e → unless.Learnt κs a r' e' → r ≡ r'
unless_pinned κs a r r' e e' h k = pinned h k

pub judge_subdivisions_pinned : (κs : Lfts 0) (a : _) (r r' : _) (e e' : _) → judge-subdivisions.Learnt κs a r e → judge-subdivisions.Learnt κs a r' e' → r ≡ r'
judge_subdivisions_pinned κs a r r' e e' h k = pinned h k

pub judge_mask_pinned : (κs : Lfts 0) (a : _) (r r' : _) (e e' : _) → judge-mask.Learnt κs a r e → judge-mask.Learnt κs a r' e' → r ≡ r'
judge_mask_pinned κs a r r' e e' h k = pinned h k

pub judge_buffer_pinned : (κs : Lfts 0) (a : _) (r r' : _) (e e' : _) → judge-buffer.Learnt κs a r e → judge-buffer.Learnt κs a r' e' → r ≡ r'
judge_buffer_pinned κs a r r' e e' h k = pinned h k

pub judge_edges_pinned : (κs : Lfts 0) (a : _) (r r' : _) (e e' : _) → judge-edges.Learnt κs a r e → judge-edges.Learnt κs a r' e' → r ≡ r'
judge_edges_pinned κs a r r' e e' h k = pinned h k

pub judge_room_pinned : (κs : Lfts 0) (a : _) (r r' : _) (e e' : _) → judge-room.Learnt κs a r e → judge-room.Learnt κs a r' e' → r ≡ r'
judge_room_pinned κs a r r' e e' h k = pinned h k

pub judge_store_pinned : (κs : Lfts 0) (a : _) (r r' : _) (e e' : _) → judge-store.Learnt κs a r e → judge-store.Learnt κs a r' e' → r ≡ r'
judge_store_pinned κs a r r' e e' h k = pinned h k

pub is_usable_pinned : (κs : Lfts 0) (a : _) (r r' : _) (e e' : _) → is_usable.Learnt κs a r e → is_usable.Learnt κs a r' e' → r ≡ r'
is_usable_pinned κs a r r' e e' h k = pinned h k

pub judge_lent_pinned : (κs : Lfts 0) (a : _) (r r' : _) (e e' : _) → judge-lent.Learnt κs a r e → judge-lent.Learnt κs a r' e' → r ≡ r'
judge_lent_pinned κs a r r' e e' h k = pinned h k

pub judge_star_pinned : (κs : Lfts 2) (a : _) (r r' : _) (e e' : _) → judge-star.Learnt κs a r e → judge-star.Learnt κs a r' e' → r ≡ r'
judge_star_pinned κs a r r' e e' h k = pinned h k

pub judge_list_pinned : (κs : Lfts 1) (a : _) (r r' : _) (e e' : _) → judge-list.Learnt κs a r e → judge-list.Learnt κs a r' e' → r ≡ r'
judge_list_pinned κs a r r' e e' h k = pinned h k

pub judge_block_pinned : (κs : Lfts 0) (a : _) (r r' : _) (e e' : _) → judge-block.Learnt κs a r e → judge-block.Learnt κs a r' e' → r ≡ r'
judge_block_pinned κs a r r' e e' h k = pinned h k

pub answered_pinned : (κs : Lfts 0) (a : _) (r r' : _) (e e' : _) → answered.Learnt κs a r e → answered.Learnt κs a r' e' → r ≡ r'
answered_pinned κs a r r' e e' h k = pinned h k

pub read_point_pinned : (κs : Lfts 1) (a : _) (r r' : _) (e e' : _) → read-point.Learnt κs a r e → read-point.Learnt κs a r' e' → r ≡ r'
read_point_pinned κs a r r' e e' h k = pinned h k
