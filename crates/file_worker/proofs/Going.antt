-- What a core's turn keeps: the ends of all cores, the journal but for one entry, and the count and the files of the disk by what was done.
use Rattle.std.proofs.Common.{◌≡◌, ℕ, ◌≤◌, zero, suc, ◌+◌, ◌<◌, List, [], ◌∷◌, ◌++◌, Option, Some, Bool}
use Rattle.std.proofs.Common.{true, false, inl, inr, refl, sym, ap, ◌∙◌, subst, arith, length, map, append_assoc, length-append, slice_set}
use Rattle.std.specs.Prelude.{IfSome, slice_get}
use Rattle.std.proofs.lemmas.Bool.Decides.{eqb_tells, nat_tests}
use Rattle.std.proofs.lemmas.List.{length-set, append-nil}
use Rattle.std.proofs.lemmas.Option.{get_or_from_slice_get, slice_get_within}
use mathlib.Core.List.{IsPrefix}
use Rattle.ac_base.specs.declared.entry.Payload.{Payload}
use Rattle.ac_base.specs.declared.entry.Payload.TheVariants.{Int, Read, Write}
use Rattle.ac_base.specs.declared.entry.Answer.{Answer}
use Rattle.ac_base.specs.declared.entry.Event.{Event}
use Rattle.ac_base.specs.declared.entry.Event.TheVariants.{Did, Pass}
use Rattle.ac_base.specs.declared.entry.Entry.{Entry}
use Rattle.ac_base.specs.Stamps.{stamp_after}
use Rattle.ac_links.specs.Journals.{last_of}
use Rattle.ac_links.specs.Order.{of_party}
use Rattle.ac_links.proofs.Party.{of_party_push}
use Rattle.ac_history.specs.Files.{contents, IsServed, deed_of, deeds_by, files_done, serves}
use Rattle.ac_history.proofs.Disk.{deeds_push, contents_append, served_append}
use Rattle.ac_outside.specs.declared.shelf.NamedBytes.{NamedBytes}
use Rattle.ac_outside.specs.Disks.{Held, DiskTold}
use Rattle.completion_word.specs.declared.views.Peer.{Peer}
use Rattle.core_channels.proofs.Stamping.{stamp_rises}
use Rattle.request_ends.specs.Asking.{Asking}
use Rattle.file_ops.specs.Agreement.{files_of, DiskGoesOn}
use Rattle.file_ops.specs.Asked.{file_of, is_of_bound, held_after, AskedBy, texts}
use Rattle.file_ops.specs.Counting.{AreCounted}
use Rattle.file_ops.proofs.Counting.{counted_more, counted_none, no_deed}
use Rattle.file_ops.proofs.Filing.{serves_padded, same_files, as_many_files, same_found, nothing_done, nothing_served}
use Rattle.file_worker.specs.declared.turns.Round.{Round}
use Rattle.file_worker.specs.declared.turns.Round.TheVariants as round
use Rattle.file_worker.specs.declared.turns.Turned.TheVariants.{Made}
use Rattle.file_worker.specs.Ends.{CoreEnds, AtDesk, AtEach}
use Rattle.file_worker.specs.Agreement.{Seen, TellsTaken, deeds_of, IsCounted, DiskServes}
use Rattle.file_worker.specs.Rounds.{EndsGoOn, GoesOn, Rests}
use Rattle.file_worker.specs.Settling.{AskSettles, SettlesCore}
use Rattle.file_worker.specs.inner.Turns.{DoesNext, PassesNext, Turns}
use Rattle.file_worker.specs.inner.Rounds.{TurnsAt, TurnsBy}
use Rattle.file_worker.proofs.EndLists.{set_same, same_some, found, each_of_one}

-- the last stamp of a journal is that of the entry that was recorded last
pub last_is : (b : ℕ) (es : List Entry) (e : Entry) → last_of b (es ++ e ∷ []) ≡ e.stamp
last_is b [] e = refl
last_is b (x ∷ es) e = last_is x.stamp es e

module _ {X : Type 0} where
  pub begins : (xs : List X) → IsPrefix xs xs
  begins xs = ([], append-nil xs)

  pub begins_with : (xs ys zs : List X) → ys ≡ xs ++ zs → IsPrefix xs ys
  begins_with xs ys zs e = (zs, sym e)

  pub begins_same : (xs ys : List X) → ys ≡ xs → IsPrefix xs ys
  begins_same xs ys e = ([], append-nil xs ∙ sym e)

  get_last : (xs : List X) (x : X) (n : ℕ) → n ≡ length xs → slice_get (xs ++ x ∷ []) n ≡ Some x
  get_last xs x n e = ap (slice_get (xs ++ x ∷ [])) e ∙ by xs
    where
      by : (ys : List X) → slice_get (ys ++ x ∷ []) (length ys) ≡ Some x
      by [] = refl
      by (y ∷ ys) = by ys

-- ---- the ends of one core

pub ends_same : (e : CoreEnds) → EndsGoOn e e
ends_same e = record {
  ask = record { table = refl; ring = refl };
  ring = refl;
  decisions = begins e.ask.peer.decisions;
  popped = begins e.ask.popped;
  replies = begins e.reply.replies;
  looks = omega arith;
}

ends_rest : (a b : CoreEnds) → Rests a b → EndsGoOn a b
ends_rest a b x = record {
  ask = record { table = x.ask.table; ring = x.ask.ring };
  ring = x.reply.ring;
  decisions = begins_same a.ask.peer.decisions b.ask.peer.decisions x.ask.decisions;
  popped = begins_same a.ask.popped b.ask.popped x.ask.popped;
  replies = begins_same a.reply.replies b.reply.replies x.reply.replies;
  looks = let l = x.ask.looks in omega arith;
}

ends_do : (l last : ℕ) (a b : CoreEnds) (before after : DiskTold) (e : Entry) → DoesNext l last a before e b after → EndsGoOn a b
ends_do l last a b before after e x = record {
  ask = record { table = x.ask.table; ring = x.ask.ring };
  ring = x.reply.ring;
  decisions = begins_with a.ask.peer.decisions b.ask.peer.decisions _ x.ask.decisions;
  popped = begins_with a.ask.popped b.ask.popped _ x.ask.popped;
  replies = begins_with a.reply.replies b.reply.replies _ x.reply.replies;
  looks = let l = x.ask.looks in omega arith;
}

ends_pass : (l last : ℕ) (a b : CoreEnds) (before after : DiskTold) (e : Entry) → PassesNext l last a before e b after → EndsGoOn a b
ends_pass l last a b before after e x = record {
  ask = record { table = x.ask.table; ring = x.ask.ring };
  ring = x.reply.ring;
  decisions = begins_with a.ask.peer.decisions b.ask.peer.decisions _ x.ask.decisions;
  popped = begins_with a.ask.popped b.ask.popped _ x.ask.popped;
  replies = begins_same a.reply.replies b.reply.replies x.reply.replies;
  looks = let l = x.ask.looks in omega arith;
}

-- ---- the disk

pub disk_same : (d : DiskTold) → DiskGoesOn d d
disk_same d = record { bound = refl; is_ready = refl; binds = refl; silent = λ h. h; later = omega arith }

-- ---- the bound files keep their paths

abbrev name_of : NamedBytes → List ℕ
name_of f = f.name

set_keeps : (files : List NamedBytes) (n : ℕ) (x : NamedBytes) → ((y : NamedBytes) → slice_get files n ≡ Some y → x.name ≡ y.name) → map name_of (slice_set files n x) ≡ map name_of files
set_keeps [] n x h = refl
set_keeps (y ∷ ys) zero x h = ap (λ r. r ∷ map name_of ys) (h y refl)
set_keeps (y ∷ ys) (suc n) x h = ap (λ r. y.name ∷ r) (set_keeps ys n x h)

names_kept : (h : Held) (payload : Payload) (answer : Answer) → map name_of (held_after h payload answer).files ≡ map name_of h.files
names_kept h (Int v) answer = refl
names_kept h (Read f a n) answer = refl
names_kept h (Write f a b) answer = set_keeps h.files f _ (λ y there. ap name_of (get_or_from_slice_get h.files f y _ there))

-- ---- what was asked of the disk

asked_goes_on : (b : Bool) (before after : DiskTold) (payload : Payload) (answer : Answer) → AskedBy b before after payload answer → DiskGoesOn before after
asked_goes_on true before after payload answer x = record { bound = x.none.bound; is_ready = x.none.is_ready; binds = x.none.binds; silent = x.silent; later = x.later }
asked_goes_on false before after payload answer x = subst (DiskGoesOn before) (sym x.0) (disk_same before)

is_bound : (payload : Payload) (bound count : ℕ) → is_of_bound bound payload ≡ true → bound ≡ count → file_of payload < count
is_bound payload bound count h e = grind (arith, nat_tests)

module _ (p : ℕ) (got : Event → Option Payload) (s t : Seen) where
  -- where the deeds are the same, and so is what the disk tells
  module _ (told : t.told ≡ s.told) (deeds : deeds_of p got t.desk ≡ deeds_of p got s.desk) where
    pub same_counted : (begun : DiskTold) → IsCounted p got begun s → IsCounted p got begun t
    same_counted begun x = record {
      bound = ap (λ (d : DiskTold). d.bound) told ∙ x.bound;
      counted = subst (λ d. AreCounted begun d (deeds_of p got t.desk)) (sym told) (subst (AreCounted begun s.told) (sym deeds) x.counted);
    }

    pub same_served : (start : List (List ℕ)) (held : Held) → DiskServes p got start s held → (after : Held) × DiskServes p got start t after × (after.found ≡ held.found)
        × (map name_of after.files ≡ map name_of held.files)
    same_served start held x = (
      held,
      record {
        tells = ap (λ (d : DiskTold). d.held) told ∙ x.tells;
        count = ap (λ (d : DiskTold). d.bound) told ∙ x.count;
        served = subst (IsServed start) (sym deeds) x.served;
        files = x.files ∙ ap (contents start) (sym deeds);
      },
      refl,
      refl,
    )

  -- where one deed more is there, as the disk was asked
  module _ (payload : Payload) (answer : Answer) (deeds : deeds_of p got t.desk ≡ deeds_of p got s.desk ++ record { payload = payload; answer = answer } ∷ []) where
    more_counted : (begun : DiskTold) → AskedBy (is_of_bound s.told.bound payload) s.told t.told payload answer → IsCounted p got begun s → IsCounted p got begun t
    more_counted begun asked x = record {
      bound = (asked_goes_on (is_of_bound s.told.bound payload) s.told t.told payload answer asked).bound ∙ x.bound;
      counted = subst (AreCounted begun t.told) (sym deeds) (counted_more begun s.told t.told (deeds_of p got s.desk) payload answer x.counted x.bound asked);
    }

    module _ (start : List (List ℕ)) (held : Held) (was : DiskServes p got start s held) where
      abbrev Served : Type 0
      Served = (after : Held) × DiskServes p got start t after × (after.found ≡ held.found) × (map name_of after.files ≡ map name_of held.files)

      -- the disk holds what the deed has made of its files
      did_served : (after : Held) → t.told.held ≡ Some after → t.told.bound ≡ length after.files → after.found ≡ held.found → map name_of after.files ≡ map name_of held.files
          → serves (files_of held) payload answer ≡ true → files_of after ≡ files_done (files_of held) payload answer → Served
      did_served after h n f names serving files = (
        after,
        record {
          tells = h;
          count = n;
          served = subst (IsServed start) (sym deeds) (served_append start (deeds_of p got s.desk) (record { payload = payload; answer = answer } ∷ []) was.served
              (subst (λ fs. serves fs payload answer ≡ true) was.files serving, tt));
          files = files ∙ ap (λ fs. files_done fs payload answer) was.files
              ∙ sym (ap (contents start) deeds ∙ contents_append start (deeds_of p got s.desk) (record { payload = payload; answer = answer } ∷ []));
        },
        f,
        names,
      )

      by_bound : (b : Bool) → is_of_bound s.told.bound payload ≡ b → AskedBy b s.told t.told payload answer → Served
      by_bound true e y =
          did_served (held_after held payload answer)
          (subst (λ q. IfSome q (λ h. t.told.held ≡ Some (held_after h payload answer))) was.tells y.held)
          (y.none.bound ∙ was.count ∙ sym (as_many_files held payload answer)) (same_found held payload answer) (names_kept held payload answer)
          (serves_padded (texts held) payload answer ∙ subst (λ q. IfSome q (λ h. serves (texts h) payload answer ≡ true)) was.tells y.serves')
          (same_files held payload answer (is_bound payload s.told.bound (length held.files) e was.count))
      by_bound false e y =
          did_served held (ap (λ (d : DiskTold). d.held) y.0 ∙ was.tells) (ap (λ (d : DiskTold). d.bound) y.0 ∙ was.count) refl refl
          (ap (serves (files_of held) payload) y.1 ∙ nothing_served (files_of held) payload)
          (sym (ap (files_done (files_of held) payload) y.1 ∙ nothing_done (files_of held) payload))

      more_served : AskedBy (is_of_bound s.told.bound payload) s.told t.told payload answer → Served
      more_served y = by_bound (is_of_bound s.told.bound payload) refl y

-- ---- one turn

module _ (core : ℕ) (s : Seen) (r : Round) (t : Seen) (x : TurnsAt core s r t) where
  abbrev a : CoreEnds
  a = x.before

  abbrev b : CoreEnds
  b = x.after

  within : core < length s.desk.ends
  within = slice_get_within s.desk.ends core a x.was

  ends_go : EndsGoOn a b → AtEach EndsGoOn s.desk.ends t.desk.ends
  ends_go one = subst (AtEach EndsGoOn s.desk.ends) (sym x.is) (each_of_one EndsGoOn s.desk.ends core a b x.was ends_same one)

  count : length t.desk.ends ≡ length s.desk.ends
  count = ap length x.is ∙ length-set s.desk.ends core b

  now : slice_get t.desk.ends core ≡ Some b
  now = ap (λ ends. slice_get ends core) x.is ∙ set_same s.desk.ends core b within

  rests_on : Rests a b → t.told ≡ s.told → t.desk.entries ≡ s.desk.entries → GoesOn s t
  rests_on rests told entries = record {
    first = x.first;
    count = count;
    ends = ends_go (ends_rest a b rests);
    entries = begins_same s.desk.entries t.desk.entries entries;
    clock = let e = ap (last_of 0) entries in omega (arith, e);
    rises = λ h. let e = ap length entries in absurd (omega (arith, e, h));
    disk = subst (DiskGoesOn s.told) (sym told) (disk_same s.told);
    counted = λ p got begun tells c. same_counted p got s t told (ap (λ es. deeds_by got (of_party p es)) entries) begun c;
    served = λ p got start held tells d. same_served p got s t told (ap (λ es. deeds_by got (of_party p es)) entries) start held d;
  }

  -- the deeds with one entry more
  deeds_more : (p : ℕ) (got : Event → Option Payload) (e : Entry) → t.desk.entries ≡ s.desk.entries ++ e ∷ [] → deeds_of p got t.desk ≡ deeds_of p got s.desk ++ deed_of (got e.event) e.event
  deeds_more p got e entries = ap (λ es. deeds_by got (of_party p es)) entries ∙ ap (deeds_by got) (of_party_push p s.desk.entries e)
      ∙ deeds_push got (of_party p s.desk.entries) (record { party = p; entry = e })

  module _ (e : Entry) (entries : t.desk.entries ≡ s.desk.entries ++ e ∷ []) where
    rises_to : {turn : ℕ} {event : Event} (stamp of : ℕ) → e ≡ record { stamp = stamp; turn = turn; event = event } → stamp_after (last_of 0 s.desk.entries) of ≡ Some stamp
        → last_of 0 s.desk.entries < last_of 0 t.desk.entries
    rises_to stamp of is next =
        let up = stamp_rises (last_of 0 s.desk.entries) of stamp next in
        let last : last_of 0 t.desk.entries ≡ stamp = ap (last_of 0) entries ∙ last_is 0 s.desk.entries e ∙ ap (λ (v : Entry). v.stamp) is in
        omega (arith, up, last)

    passes_on : PassesNext (s.desk.first + core) (last_of 0 s.desk.entries) a s.told e b t.told → GoesOn s t
    passes_on y =
        let deeds : (p : ℕ) (got : Event → Option Payload) → deeds_of p got t.desk ≡ deeds_of p got s.desk = λ p got. deeds_more p got e entries
        ∙ ap (λ v. deeds_of p got s.desk ++ deed_of (got v.event) v.event) y.entry
        ∙ ap (λ ds. deeds_of p got s.desk ++ ds) (no_deed (got (Pass (s.desk.first + core) y.number)) (s.desk.first + core) y.number) ∙ append-nil (deeds_of p got s.desk) in
        record {
          first = x.first;
          count = count;
          ends = ends_go (ends_pass (s.desk.first + core) (last_of 0 s.desk.entries) a b s.told t.told e y);
          entries = begins_with s.desk.entries t.desk.entries (e ∷ []) entries;
          clock = let up = rises_to y.stamp y.ask.of y.entry y.ask.next in omega (arith, up);
          rises = λ h. rises_to y.stamp y.ask.of y.entry y.ask.next;
          disk = subst (DiskGoesOn s.told) (sym y.told) (disk_same s.told);
          counted = λ p got begun tells c. same_counted p got s t y.told (deeds p got) begun c;
          served = λ p got start held tells d. same_served p got s t y.told (deeds p got) start held d;
        }

    does_on : DoesNext (s.desk.first + core) (last_of 0 s.desk.entries) a s.told e b t.told → GoesOn s t
    does_on y =
        let place : slice_get b.ask.popped y.number ≡ Some y.payload = ap (λ xs. slice_get xs y.number) y.ask.popped
        ∙ get_last a.ask.popped y.payload y.number (y.ask.number_is ∙ sym x.one_each) in
        let deeds : (p : ℕ) (got : Event → Option Payload) → TellsTaken got t.desk → deeds_of p got t.desk ≡ deeds_of p got s.desk ++ record { payload = y.payload; answer = y.answer } ∷ [] =
        λ p got tells. deeds_more p got e entries ∙ ap (λ v. deeds_of p got s.desk ++ deed_of (got v.event) v.event) y.entry
        ∙ ap (λ q. deeds_of p got s.desk ++ deed_of q (Did (s.desk.first + core) y.number y.answer))
        (ap (λ f. got (Did (f + core) y.number y.answer)) (sym x.first) ∙ tells core y.number y.answer b y.payload now place) in
        record {
          first = x.first;
          count = count;
          ends = ends_go (ends_do (s.desk.first + core) (last_of 0 s.desk.entries) a b s.told t.told e y);
          entries = begins_with s.desk.entries t.desk.entries (e ∷ []) entries;
          clock = let up = rises_to y.stamp y.ask.of y.entry y.ask.next in omega (arith, up);
          rises = λ h. rises_to y.stamp y.ask.of y.entry y.ask.next;
          disk = asked_goes_on (is_of_bound s.told.bound y.payload) s.told t.told y.payload y.answer y.asked;
          counted = λ p got begun tells c. more_counted p got s t y.payload y.answer (deeds p got tells) begun y.asked c;
          served = λ p got start held tells d. more_served p got s t y.payload y.answer (deeds p got tells) start held d y.asked;
        }

    made_on : Turns (s.desk.first + core) (last_of 0 s.desk.entries) a s.told (Made e) b t.told → GoesOn s t
    made_on y = elim y [
      | inl z ↦ does_on z
      | inr z ↦ passes_on z
    ]

  pub turn_goes_on : GoesOn s t
  turn_goes_on = by r x.turns
    where
      by : (q : Round) → TurnsBy q (s.desk.first + core) s a b t → GoesOn s t
      by round.Did y = made_on y.0 y.1 y.2
      by round.Quiet y = rests_on y.1.0 y.1.2 y.0
      by round.NotYet y = rests_on y.1.0 y.1.2 y.0
      by round.ClockFull y = rests_on y.1.0 y.1.2 y.0

-- ---- one after another

pub nothing_goes_on : (s : Seen) → GoesOn s s
nothing_goes_on s = record {
  first = refl;
  count = refl;
  ends = λ c a b p q. subst (EndsGoOn a) (same_some a b (sym p ∙ q)) (ends_same a);
  entries = begins s.desk.entries;
  clock = omega arith;
  rises = λ h. absurd (omega (arith, h));
  disk = disk_same s.told;
  counted = λ p got begun tells c. c;
  served = λ p got start held tells d. (held, d, refl, refl);
}

disk_both : (a b c : DiskTold) → DiskGoesOn a b → DiskGoesOn b c → DiskGoesOn a c
disk_both a b c x y = record {
  bound = y.bound ∙ x.bound;
  is_ready = y.is_ready ∙ x.is_ready;
  binds = y.binds ∙ x.binds;
  silent = λ h. y.silent (x.silent h);
  later = let l = x.later in let m = y.later in omega arith;
}

module _ {X : Type 0} where
  begins_then : (xs ys zs : List X) → IsPrefix xs ys → IsPrefix ys zs → IsPrefix xs zs
  begins_then xs ys zs a b = (a.0 ++ b.0, sym (append_assoc xs a.0 b.0) ∙ ap (λ l. l ++ b.0) a.1 ∙ b.1)

  get_first : (xs ys : List X) (n : ℕ) (x : X) → slice_get xs n ≡ Some x → slice_get (xs ++ ys) n ≡ Some x
  get_first [] ys n x e = cc
  get_first (y ∷ xs) ys zero x e = e
  get_first (y ∷ xs) ys (suc n) x e = get_first xs ys n x e

  get_prefix : (xs ys : List X) (n : ℕ) (x : X) → IsPrefix xs ys → slice_get xs n ≡ Some x → slice_get ys n ≡ Some x
  get_prefix xs ys n x p e = subst (λ l. slice_get l n ≡ Some x) p.1 (get_first xs p.0 n x e)

  prefix_long : (xs ys : List X) → IsPrefix xs ys → length xs ≤ length ys
  prefix_long xs ys p = let n = length-append xs p.0 in let e = ap length p.1 in omega (arith, n, e)

apart_less : {m n : ℕ} → (m ≡ n → ⊥) → m ≤ n → m < n
apart_less {m} {n} h l = grind (arith, nat_tests)

ends_both : (a b c : CoreEnds) → EndsGoOn a b → EndsGoOn b c → EndsGoOn a c
ends_both a b c x y = record {
  ask = record { table = y.ask.table ∙ x.ask.table; ring = y.ask.ring ∙ x.ask.ring };
  ring = y.ring ∙ x.ring;
  decisions = begins_then a.ask.peer.decisions b.ask.peer.decisions c.ask.peer.decisions x.decisions y.decisions;
  popped = begins_then a.ask.popped b.ask.popped c.ask.popped x.popped y.popped;
  replies = begins_then a.reply.replies b.reply.replies c.reply.replies x.replies y.replies;
  looks = let l = x.looks in let m = y.looks in omega arith;
}

module _ (s t u : Seen) (x : GoesOn s t) (y : GoesOn t u) where
  -- the ends of a core that is there are there after it
  there : (c : ℕ) (a : CoreEnds) → slice_get t.desk.ends c ≡ Some a → (b : CoreEnds) × (slice_get u.desk.ends c ≡ Some b)
  there c a p = let w = slice_get_within t.desk.ends c a p in let n = y.count in found u.desk.ends c (omega arith)

  there_first : (c : ℕ) (a : CoreEnds) → slice_get s.desk.ends c ≡ Some a → (b : CoreEnds) × (slice_get t.desk.ends c ≡ Some b)
  there_first c a p = let w = slice_get_within s.desk.ends c a p in let n = x.count in found t.desk.ends c (omega arith)

  tells_before : (got : Event → Option Payload) → TellsTaken got u.desk → TellsTaken got t.desk
  tells_before got tells c n answer e v p q =
      let z = there c e p in
      ap (λ f. got (Did (f + c) n answer)) (sym y.first)
      ∙ tells c n answer z.0 v z.1 (get_prefix e.ask.popped z.0.ask.popped n v (y.ends c e z.0 p z.1).popped q)

  rises_both : length s.desk.entries < length u.desk.entries → last_of 0 s.desk.entries < last_of 0 u.desk.entries
  rises_both h = elim (eqb_tells (length s.desk.entries) (length t.desk.entries)) [
    | inl w ↦ let q = y.rises (omega (arith, h, w.1)) in let p = x.clock in omega (arith, p, q)
    | inr w ↦
        let made : length s.desk.entries < length t.desk.entries = let n = prefix_long s.desk.entries t.desk.entries x.entries in apart_less w.1 n in
        let p = x.rises made in let q = y.clock in omega (arith, p, q)
  ]

  pub goes_on_both : GoesOn s u
  goes_on_both = record {
    first = y.first ∙ x.first;
    count = y.count ∙ x.count;
    ends = λ c a b p q. let z = there_first c a p in ends_both a z.0 b (x.ends c a z.0 p z.1) (y.ends c z.0 b z.1 q);
    entries = begins_then s.desk.entries t.desk.entries u.desk.entries x.entries y.entries;
    clock = let p = x.clock in let q = y.clock in omega (arith, p, q);
    rises = rises_both;
    disk = disk_both s.told t.told u.told x.disk y.disk;
    counted = λ p got begun tells c. y.counted p got begun tells (x.counted p got begun (tells_before got tells) c);
    served = λ p got start held tells d.
        let m = x.served p got start held (tells_before got tells) d in
        let n = y.served p got start m.0 tells m.1 in
        (n.0, n.1, n.2 ∙ m.2, n.3 ∙ m.3);
  }

-- ---- a worker that has done nothing

pub starts_counted : (p : ℕ) (got : Event → Option Payload) (s : Seen) → s.desk.entries ≡ [] → IsCounted p got s.told s
starts_counted p got s none = record {
  bound = refl;
  counted = subst (λ es. AreCounted s.told s.told (deeds_by got (of_party p es))) (sym none) (counted_none s.told);
}

pub starts_served : (p : ℕ) (got : Event → Option Payload) (s : Seen) (held : Held) → s.desk.entries ≡ [] → s.told.held ≡ Some held → s.told.bound ≡ length held.files
    → DiskServes p got (files_of held) s held
starts_served p got s held none tells count = record {
  tells = tells;
  count = count;
  served = subst (λ es. IsServed (files_of held) (deeds_by got (of_party p es))) (sym none) tt;
  files = subst (λ es. files_of held ≡ contents (files_of held) (deeds_by got (of_party p es))) (sym none) refl;
}

-- ---- what is settled

ends_settle : (a b : CoreEnds) (ask ask' : Asking) → AskSettles ask a ask' b → EndsGoOn a b
ends_settle a b ask ask' x = record {
  ask = record { table = x.recv.table; ring = x.recv.ring };
  ring = x.end.ring;
  decisions = begins_same a.ask.peer.decisions b.ask.peer.decisions (ap (λ (p : Peer). p.decisions) x.recv.peer);
  popped = begins_same a.ask.popped b.ask.popped x.recv.popped;
  replies = begins_same a.reply.replies b.reply.replies x.end.replies;
  looks = let e = ap (λ (p : Peer). p.looks) x.recv.peer in omega (arith, e);
}

pub settling_goes_on : (core : ℕ) (s t : Seen) (ask ask' : Asking) → SettlesCore core s.desk ask t.desk ask' → t.told ≡ s.told → GoesOn s t
settling_goes_on core s t ask ask' x told =
    let ends : t.desk.ends ≡ slice_set s.desk.ends core x.after = ap (λ (w : AtDesk). w.ends) x.is in
    let entries : t.desk.entries ≡ s.desk.entries = ap (λ (w : AtDesk). w.entries) x.is in
    record {
      first = ap (λ (w : AtDesk). w.first) x.is;
      count = ap length ends ∙ length-set s.desk.ends core x.after;
      ends = subst (AtEach EndsGoOn s.desk.ends) (sym ends) (each_of_one EndsGoOn s.desk.ends core x.before x.after x.was ends_same (ends_settle x.before x.after ask ask' x.ends));
      entries = begins_same s.desk.entries t.desk.entries entries;
      clock = let e = ap (last_of 0) entries in omega (arith, e);
      rises = λ h. let e = ap length entries in absurd (omega (arith, e, h));
      disk = subst (DiskGoesOn s.told) (sym told) (disk_same s.told);
      counted = λ p got begun tells c. same_counted p got s t told (ap (λ es. deeds_by got (of_party p es)) entries) begun c;
      served = λ p got start held tells d. same_served p got s t told (ap (λ es. deeds_by got (of_party p es)) entries) start held d;
    }
