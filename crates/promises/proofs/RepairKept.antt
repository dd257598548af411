-- What was promised of the repair pass holds: the call is judged by its judges in order; repair's laws say what its list tells and what it leaves; and a
-- delivery that 1 to 8 pass is refused by no judge of extraction but those of its buffers.
use Rattle.std.specs.Prelude.{ℕ, ◌+◌, ◌*◌, ◌/◌, ◌<◌, ◌≡◌, List, leb, Float, length, get_or, take, drop, Err, Ok}
use Rattle.std.proofs.Common.{add-one, arith, sym, ◌∙◌, subst, take-suc}
use Rattle.std.proofs.Math.Path.{refl, ap}
use Rattle.std.specs.Float.{binary32}
use Rattle.std.specs.Float.Ieee.{to_bits}
use Rattle.laws.specs.Steps.{each}
use Rattle.laws.specs.Lists.{length_each}
use Rattle.model.specs.declared.Header.{Header}
use Rattle.model.specs.declared.Refusal.{Refusal}
use Rattle.model.specs.declared.Refusal.TheVariants.{BadFiller, ChangesTooShort}
use Rattle.model.specs.Answers.{Verdict}
use Rattle.model.specs.Star.{Star}
use Rattle.model.specs.Judging.{usable, judge_lent, judge_star, judge_faces}
use Rattle.model.specs.Mesh.{mesh_of}
use Rattle.model.specs.Extraction.{judge_extraction, outcome, extract}
use Rattle.judge.specs.First.{or_else_assoc, or_else_passed}
use Rattle.repair.specs.declared.Change.{Change}
use Rattle.repair.specs.Definition.{Delivery, as_star, made, applied, no_change, words_of, list_of, judge_repair, repair_answer, repair}
use Rattle.repair.specs.Spots.{applied_append, AllTell, told_at, after_put, unlisted_kept, undone_gives_back}
use Rattle.repair.specs.Told.{told_changes}
use Rattle.repair.specs.Passing.{repairable}
use Rattle.repair.specs.Outcomes.{accepted, star_after, faces_after, done_again, accepted_done}
use Rattle.promises.specs.Left.{Laid, Lent, answered, counts}
use Rattle.promises.specs.Orders.{in_order, Numbered, Judged, room_judges}
use Rattle.promises.specs.Repair.{repair_judges, Told, ListTells, SoundDelivery, RepairPromises}
use Rattle.promises.proofs.Judges.{◌&◌, judged, by_unless, numbered_append, lent_numbered, room_numbered}
use Rattle.promises.proofs.ReadBack.{is_laid}

-- ---- the call

module _ (h : Header) (d : Delivery) (filler : Float) (changes : List ℕ) where
  abbrev wanted : ℕ
  wanted = length (list_of h d filler)

  in_order_lem : in_order (repair_judges h d filler changes) ≡ judge_repair h d filler (length changes)
  unfolding judge_repair judge_lent
  in_order_lem = simp (or_else_assoc, or_else_passed)

  numbered : Numbered (repair_judges h d filler changes)
  numbered =
      numbered_append (take 6 (repair_judges h d filler changes)) (drop 6 (repair_judges h d filler changes))
      (lent_numbered h.block h.mask h.threshold (length d.centre) (length d.neighbours))
      (by_unless (usable filler) BadFiller & by_unless (leb wanted (length changes / 4)) (ChangesTooShort wanted) & tt)

  repairing : Judged (repair_judges h d filler changes) (λ r. (repair h d filler changes).answer ≡ Err r)
      ((repair h d filler changes).answer ≡ Ok wanted)
  unfolding repair
  repairing =
      judged Err (Ok wanted) (λ v. (repair_answer (list_of h d filler) d changes v).answer) refl (λ r. refl) (λ q r e. cc) (λ r e. cc)
      _ _ in_order_lem numbered

  judged_so : (r : Refusal) → (repair h d filler changes).answer ≡ Err r → judge_repair h d filler (length changes) ≡ Err r
  judged_so r e = sym in_order_lem ∙ (repairing.refused_by_first r).0 e

  delivery_untouched : (r : Refusal) → (repair h d filler changes).answer ≡ Err r → (repair h d filler changes).left ≡ d
  unfolding repair
  delivery_untouched r e = ap (λ (v : Verdict). (repair_answer (list_of h d filler) d changes v).left) (judged_so r e)

  list_untouched : (r : Refusal) → (repair h d filler changes).answer ≡ Err r → (repair h d filler changes).changes ≡ changes
  unfolding repair
  list_untouched r e = ap (λ (v : Verdict). (repair_answer (list_of h d filler) d changes v).changes) (judged_so r e)

  list_laid : (k : ℕ) → (repair h d filler changes).answer ≡ Ok k
      → Laid (4 * k) (each words_of (list_of h d filler)) changes (repair h d filler changes).changes
  list_laid k e =
      let a = accepted h d filler changes k e in
      let long = length_each words_of 4 (list_of h d filler) (λ c. refl) in
      subst (Laid (4 * k) (each words_of (list_of h d filler)) changes) (sym a.changes_are)
      (is_laid _ _ _ (long ∙ ap (λ (i : ℕ). 4 * i) a.counted) (omega (arith, a.counted, (repairable h d filler (length changes) a.passed).room)))

-- ---- what the list tells

module _ (h : Header) (d : Delivery) (filler : Float) (told : AllTell (list_of h d filler) d) where
  abbrev list : List Change
  list = list_of h d filler

  -- one change more
  one_more : (k : ℕ) → k < length list → let c = get_or list k no_change in
      applied (take (k + 1) list) d ≡ made c (applied (take k list) d)
  one_more k h = rw add-one (ap (λ (l : List Change). applied l d) (take-suc list k no_change h) ∙ applied_append (take k list) _ d)

  change_told : (k : ℕ) → k < length list → Told (get_or list k no_change) (applied (take k list) d) (applied (take (k + 1) list) d)
  change_told k h =
      let c = get_or list k no_change in
      let before = applied (take k list) d in
      let t = told_at list d k no_change told h in
      rw (one_more k h)
      (record {
        list_is = t.list_is;
        place_is = t.within;
        old_bits = t.old_is;
        new_bits = after_put c.list c.place c.new before t.within;
      })

  tells : ListTells h d filler
  tells =
      record {
        each_change = change_told;
        unlisted = λ list place few apart. unlisted_kept (list_of h d filler) d no_change list place told few apart;
        given_back = undone_gives_back (list_of h d filler) d told;
      }

-- ---- what is left

meshes : (s : Star) (lent : Lent) → judge_star s ≡ Ok tt → judge_faces s ≡ Ok tt
    → Judged (room_judges s lent) (λ r. answered s lent ≡ Err r) (answered s lent ≡ Ok (counts s))
unfolding extract outcome judge_extraction
meshes s lent star faces =
    judged Err (Ok (counts s)) (λ v. (outcome (mesh_of s) lent.store lent.vertices lent.triangles v).answer) refl
    (λ r. refl) (λ q r e. cc) (λ r e. cc) (room_judges s lent)
    (judge_extraction s (length lent.store) (length lent.vertices) (length lent.triangles)) (rw (star, faces, or_else_passed)) (room_numbered s lent)

pub repair_kept : RepairPromises
repair_kept =
    record {
      answered_always = record {
        repairing = repairing;
        delivery_untouched = delivery_untouched;
        list_untouched = list_untouched;
        made = λ h d filler changes k e. (accepted h d filler changes k e).left_is;
        list = list_laid;
      };
      tells = λ h d filler changes k e.
          tells h d filler (told_changes h (to_bits binary32 filler) d (repairable h d filler (length changes) (accepted h d filler changes k e).passed).shaped);
      mended = λ h d filler changes k fit e.
          let a = accepted h d filler changes k e in
          let star = star_after h d filler fit (length changes) a.passed in
          let faces = faces_after h d filler fit (length changes) a.passed in
          subst (SoundDelivery h) (sym a.left_is)
          (record {
            block_passes = star;
            faces_pass = faces;
            meshes = λ lent. meshes (as_star h (applied (list_of h d filler) d)) lent star faces;
            nothing_again = done_again h d filler fit (length changes) a.passed;
          });
      accepted_unchanged = accepted_done;
    }
