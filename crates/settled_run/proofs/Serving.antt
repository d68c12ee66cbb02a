-- A disk goes on serving a worker: before the first entry, after one by which a request was passed, and after one by which it was done.
use Rattle.std.proofs.Common.{◌≡◌, ℕ, zero, suc, ◌<◌, List, [], ◌∷◌, ◌++◌, Option, Some, None, Bool, true, false, refl, sym, ap, ◌∙◌, subst, arith, length, map}
use mathlib.Core.List.{IsPrefix}
use Rattle.std.specs.Prelude.{IfSome, slice_get, slice_set}
use Rattle.std.proofs.lemmas.Bool.Decides.{nat_tests}
use Rattle.std.proofs.lemmas.List.{append-nil}
use Rattle.std.proofs.lemmas.Option.{get_or_from_slice_get}
use Rattle.ac_base.specs.declared.entry.Answer.{Answer}
use Rattle.ac_base.specs.declared.entry.Entry.{Entry}
use Rattle.ac_base.specs.declared.entry.Event.{Event}
use Rattle.ac_base.specs.declared.entry.Event.TheVariants.{Pass, Did}
use Rattle.ac_base.specs.declared.entry.Payload.{Payload}
use Rattle.ac_base.specs.declared.entry.Payload.TheVariants.{Int, Read, Write}
use Rattle.ac_links.specs.declared.payloads.Terms.{Terms}
use Rattle.ac_links.specs.Order.{of_party}
use Rattle.ac_links.specs.Party.{LinkEnd, PartyAgrees}
use Rattle.ac_links.proofs.Party.{of_party_push}
use Rattle.ac_history.specs.Files.{Deed, padded, files_done, serves, contents, IsServed, deed_of, deeds_by}
use Rattle.ac_history.proofs.Disk.{deeds_push, contents_append, served_append}
use Rattle.ac_outside.specs.declared.shelf.NamedBytes.{NamedBytes}
use Rattle.ac_outside.specs.Disks.{Held, DiskTold}
use Rattle.file_ops.specs.Agreement.{files_of}
use Rattle.file_ops.specs.Asked.{file_of, texts, is_of_bound, held_after, AskedBy, Asked}
use Rattle.file_ops.specs.Counting.{AreCounted}
use Rattle.file_ops.proofs.Counting.{counted_none, counted_more, no_deed}
use Rattle.file_ops.proofs.Filing.{serves_padded, same_files, as_many_files, same_found, nothing_done, nothing_served}
use Rattle.settled_run.specs.Disk.{TellsPopped, LeavesHeld, HasServed}

-- ---- lists

pub in_front : {X : Type 0} (xs ys : List X) (n : ℕ) (x : X) → slice_get xs n ≡ Some x → slice_get (xs ++ ys) n ≡ Some x
in_front [] ys n x h = cc
in_front (z ∷ xs) ys zero x h = h
in_front (z ∷ xs) ys (suc n) x h = in_front xs ys n x h

-- who tells of all that was taken tells of what was taken before
tells_before : (got : Event → Option Payload) (popped more : ℕ → List Payload) → ((l : ℕ) → IsPrefix (popped l) (more l)) → TellsPopped got more → TellsPopped got popped
tells_before got popped more keeps tells l n answer payload there =
    tells l n answer payload (sym (ap (λ ps. slice_get ps n) (keeps l).1) ∙ in_front (popped l) (keeps l).0 n payload there)

abbrev name_of : NamedBytes → List ℕ
name_of f = f.name

set_keeps : (files : List NamedBytes) (n : ℕ) (x : NamedBytes) → ((y : NamedBytes) → slice_get files n ≡ Some y → x.name ≡ y.name) → map name_of (slice_set files n x) ≡ map name_of files
set_keeps [] n x h = refl
set_keeps (y ∷ ys) zero x h = ap (λ r. r ∷ map name_of ys) (h y refl)
set_keeps (y ∷ ys) (suc n) x h = ap (λ r. y.name ∷ r) (set_keeps ys n x h)

names_kept : (h : Held) (payload : Payload) (answer : Answer) → map name_of (held_after h payload answer).files ≡ map name_of h.files
names_kept h (Int v) answer = refl
names_kept h (Read f a n) answer = refl
names_kept h (Write f a b) answer = set_keeps h.files f _ (λ y there. ap name_of (get_or_from_slice_get h.files f y _ there))

is_bound : (payload : Payload) (bound count : ℕ) → is_of_bound bound payload ≡ true → bound ≡ count → file_of payload < count
is_bound payload bound count h e = grind (arith, nat_tests)

-- ---- before the first entry

abbrev Leaves : (ℕ → Terms) → ℕ → (ℕ → LinkEnd) → List Entry → (ℕ → List Payload) → List (List ℕ) → DiskTold → Held → Type 0
Leaves terms p ends entries popped files after h = (left : Held) × (after.held ≡ Some left) × LeavesHeld terms p ends entries popped files h left

pub served_none : (terms : ℕ → Terms) (p : ℕ) (ends : ℕ → LinkEnd) (popped : ℕ → List Payload) (files : List (List ℕ)) (d : DiskTold) → PartyAgrees terms p ends []
    → IfSome d.held (λ h. texts h ≡ files) → HasServed terms p ends [] popped files d d
served_none terms p ends popped files d agrees same = record { counted = λ got tells. counted_none d; held = by d.held refl same } where
  by : (q : Option Held) → d.held ≡ q → IfSome q (λ h. texts h ≡ files) → IfSome q (Leaves terms p ends [] popped files d)
  by None e h = tt
  by (Some x) e h = (x, e, record { served = λ got tells. record { journal = agrees; served = tt; held = ap padded h }; as_many = refl; paths = refl; others = refl })

module _ (terms : ℕ → Terms) (p : ℕ) (ends later : ℕ → LinkEnd) (j : List Entry) (e : Entry) (popped more : ℕ → List Payload) (files : List (List ℕ)) (before after : DiskTold)
    (was : HasServed terms p ends j popped files before after) (agrees : PartyAgrees terms p later (j ++ e ∷ [])) (keeps : (l : ℕ) → IsPrefix (popped l) (more l)) where
  abbrev deeds_so_far : (Event → Option Payload) → List Deed
  deeds_so_far got = deeds_by got (of_party p j)

  deeds_more : (got : Event → Option Payload) → deeds_by got (of_party p (j ++ e ∷ [])) ≡ deeds_so_far got ++ deed_of (got e.event) e.event
  deeds_more got = ap (deeds_by got) (of_party_push p j e) ∙ deeds_push got (of_party p j) (record { party = p; entry = e })

  -- ---- after an entry by which a request was passed

  module _ (l n : ℕ) (is : e.event ≡ Pass l n) where
    same_deeds : (got : Event → Option Payload) → deeds_by got (of_party p (j ++ e ∷ [])) ≡ deeds_so_far got
    same_deeds got = deeds_more got ∙ ap (λ x. deeds_so_far got ++ deed_of (got x) x) is ∙ ap (λ r. deeds_so_far got ++ r) (no_deed (got (Pass l n)) l n)
        ∙ append-nil (deeds_so_far got)

    passed_held : (q : Option Held) → IfSome q (Leaves terms p ends j popped files after) → IfSome q (Leaves terms p later (j ++ e ∷ []) more files after)
    passed_held None x = tt
    passed_held (Some h) x = (
      x.0,
      x.1,
      record {
        served = λ got tells.
            let d = x.2.served got (tells_before got popped more keeps tells) in
            record {
              journal = agrees;
              served = subst (IsServed (padded files)) (sym (same_deeds got)) d.served;
              held = d.held ∙ ap (contents (padded files)) (sym (same_deeds got));
            };
        as_many = x.2.as_many;
        paths = x.2.paths;
        others = x.2.others;
      },
    )

    pub served_pass : HasServed terms p later (j ++ e ∷ []) more files before after
    served_pass = record {
      counted = λ got tells. subst (AreCounted before after) (sym (same_deeds got)) (was.counted got (tells_before got popped more keeps tells));
      held = passed_held before.held was.held;
    }

  -- ---- after one by which it was done

  module _ (l n : ℕ) (payload : Payload) (answer : Answer) (is : e.event ≡ Did l n answer) (there : slice_get (more l) n ≡ Some payload) (last : DiskTold) (asked : Asked after last payload answer)
      (bound : after.bound ≡ before.bound) (tells_bound : IfSome after.held (λ h. after.bound ≡ length h.files)) where
    abbrev deed : Deed
    deed = record { payload = payload; answer = answer }

    one_deed : (got : Event → Option Payload) → TellsPopped got more → deeds_by got (of_party p (j ++ e ∷ [])) ≡ deeds_so_far got ++ deed ∷ []
    one_deed got tells = deeds_more got ∙ ap (λ x. deeds_so_far got ++ deed_of (got x) x) is
        ∙ ap (λ q. deeds_so_far got ++ deed_of q (Did l n answer)) (tells l n answer payload there)

    module _ (h left next : Held) (leaves : LeavesHeld terms p ends j popped files h left) (serving : serves (files_of left) payload answer ≡ true)
        (now : files_of next ≡ files_done (files_of left) payload answer) (as_many : length next.files ≡ length left.files) (paths : map name_of next.files ≡ map name_of left.files)
        (found : next.found ≡ left.found) where
      done_held : LeavesHeld terms p later (j ++ e ∷ []) more files h next
      done_held = record {
        served = λ got tells.
            let d = leaves.served got (tells_before got popped more keeps tells) in
            record {
              journal = agrees;
              served = subst (IsServed (padded files)) (sym (one_deed got tells))
                  (served_append (padded files) (deeds_so_far got) (deed ∷ []) d.served (subst (λ fs. serves fs payload answer ≡ true) d.held serving, tt));
              held = now ∙ ap (λ fs. files_done fs payload answer) d.held ∙ sym (contents_append (padded files) (deeds_so_far got) (deed ∷ []))
                  ∙ ap (contents (padded files)) (sym (one_deed got tells));
            };
        as_many = as_many ∙ leaves.as_many;
        paths = paths ∙ leaves.paths;
        others = found ∙ leaves.others;
      }

    by_bound : (h left : Held) → after.held ≡ Some left → LeavesHeld terms p ends j popped files h left → (b : Bool) → is_of_bound after.bound payload ≡ b → AskedBy b after last payload answer
        → Leaves terms p later (j ++ e ∷ []) more files last h
    by_bound h left held leaves true f y = (
      held_after left payload answer,
      subst (λ q. IfSome q (λ k. last.held ≡ Some (held_after k payload answer))) held y.held,
      done_held h left (held_after left payload answer) leaves
          (serves_padded (texts left) payload answer ∙ subst (λ q. IfSome q (λ k. serves (texts k) payload answer ≡ true)) held y.serves')
          (same_files left payload answer (is_bound payload after.bound (length left.files) f (subst (λ q. IfSome q (λ k. after.bound ≡ length k.files)) held tells_bound)))
          (as_many_files left payload answer) (names_kept left payload answer) (same_found left payload answer),
    )
    by_bound h left held leaves false f y = (
      left,
      ap (λ (d : DiskTold). d.held) y.0 ∙ held,
      done_held h left left leaves (ap (serves (files_of left) payload) y.1 ∙ nothing_served (files_of left) payload)
          (sym (ap (files_done (files_of left) payload) y.1 ∙ nothing_done (files_of left) payload)) refl refl refl,
    )

    did_held : (q : Option Held) → IfSome q (Leaves terms p ends j popped files after) → IfSome q (Leaves terms p later (j ++ e ∷ []) more files last)
    did_held None x = tt
    did_held (Some h) x = by_bound h x.0 x.1 x.2 (is_of_bound after.bound payload) refl asked

    pub served_did : HasServed terms p later (j ++ e ∷ []) more files before last
    served_did = record {
      counted = λ got tells. subst (AreCounted before last) (sym (one_deed got tells))
          (counted_more before after last (deeds_so_far got) payload answer (was.counted got (tells_before got popped more keeps tells)) bound asked);
      held = did_held before.held was.held;
    }
