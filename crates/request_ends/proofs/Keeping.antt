-- The end of a core's requests goes on as its invariant says, and its list with it: when one is made, withdrawn, known or replied.
use Rattle.std.proofs.Common.{◌≡◌, ◌⊎◌, inl, inr, ⊎_elim, ℕ, zero, suc, ◌+◌, ◌-◌, ◌<◌, ◌≤◌, List, [], ◌∷◌}
use Rattle.std.proofs.Common.{◌++◌, Option, Some, None, true, false, cond, refl, sym, ap, ◌∙◌, subst, arith, length, is_some}
use Rattle.std.specs.Prelude.{slice_get, slice_set, drop}
use Rattle.ac_base.specs.declared.entry.Payload.{Payload}
use Rattle.ac_links.specs.Views.{Response, altered, replied_with, withdrawn_at as withdrawn_in}
use Rattle.ac_links.specs.Replies.{least_open}
use Rattle.channel_ends.specs.Sending.{Sending, MadeOffer, OwnerNotes, capacity_of, has_room, known_lead, made_offer, withdrawn_at, known_at}
use Rattle.channel_ends.specs.Offers.{IsOffered}
use Rattle.channel_ends.specs.Learns.{Knows, is_withdrawn}
use Rattle.channel_ends.specs.Withdraws.{MayWithdraw}
use Rattle.request_ends.specs.declared.asking.AskEnd.TheInside.{Inside}
use Rattle.request_ends.specs.declared.marks.Asked.{Asked}
use Rattle.request_ends.specs.declared.marks.Asked.TheVariants.{Open, Started, Gone}
use Rattle.request_ends.specs.Asking.{asked, requests_of, end_of}
use Rattle.request_ends.specs.Requesting.{IsRequested, IsKnownIn}
use Rattle.request_ends.specs.inner.Marks.{Marked, Skips, is_started}
use Rattle.request_ends.specs.Marking.{IsAsking, AreNoted, MarkSays, asking_of}
use Rattle.request_ends.proofs.Marking.{noted_more, noted_changed, noted_room, noted_reply, not_over, may_within, gone_many}
use mathlib.Core.List.{IsPrefix}
use Rattle.core_ports.specs.Ends.{awaits_reply, is_known}
use Rattle.request_ends.specs.Answered.{HasReply, OnlyLooks}
use Rattle.request_ends.specs.inner.Coming.{Coming, LooksOnly, PopsNext, first_of, stamp_of}
use Rattle.request_ends.proofs.Leading.{lead_within, lead_more, lead_altered, room_left}
use Rattle.request_ends.proofs.Nexts.{as_many, least_is, awaits_so}
use Rattle.request_ends.proofs.Listing.{asked_more, asked_known, asked_withdrawn, asked_replied}

length_snoc : {X : Type 0} (xs : List X) (x : X) → length (xs ++ x ∷ []) ≡ length xs + 1
length_snoc [] x = refl
length_snoc (y ∷ xs) x = let h = length_snoc xs x in omega arith

length_altered : (os : List MadeOffer) (n : ℕ) (f : MadeOffer → MadeOffer) → length (altered os n f) ≡ length os
length_altered [] n f = refl
length_altered (o ∷ os) zero f = refl
length_altered (o ∷ os) (suc n) f = let h = length_altered os n f in omega arith

-- ---- one more

front_more : (ms : List Asked) → (slice_get ms 0 ≡ Some Gone → ⊥) → slice_get (ms ++ Open ∷ []) 0 ≡ Some Gone → ⊥
front_more [] f e = cc
front_more (m ∷ ms) f e = f e

pub offer_keeps : (it : Inside) (x : Payload) (s : ℕ) (send : Sending Payload) (marks : Marked) → IsAsking it → has_room it.send.notes ≡ true
    → IsOffered it.send x s send → marks.list ≡ it.marks.list ++ Open ∷ [] → IsAsking (record { send = send; inbox = it.inbox; marks = marks; replied = it.replied })
offer_keeps it x s send marks v room o e = record {
  over = v.over;
  noted = subst (λ (os : List MadeOffer). AreNoted v.over os it.inbox.had marks.list) (sym o.notes.offers)
      (subst (λ ms. AreNoted v.over (it.send.notes.offers ++ made_offer s ∷ []) it.inbox.had ms) (sym e)
      (noted_more v.over it.send.notes.offers it.inbox.had it.marks.list s v.noted));
  front = subst (λ (ms : List Asked). slice_get ms 0 ≡ Some Gone → ⊥) (sym e) (front_more it.marks.list v.front);
  one_each = ap length o.payloads ∙ length_snoc it.send.payloads x ∙ ap (λ n. n + 1) v.one_each ∙ sym (length_snoc it.send.notes.offers (made_offer s))
      ∙ sym (ap length o.notes.offers);
  size = ap (λ t. t.words) o.notes.table ∙ v.size;
  few =
      let left = room_left (length it.send.notes.offers) (known_lead it.send.notes.offers) (capacity_of it.send.notes) room v.size (lead_within it.send.notes.offers) in
      let up = lead_more it.send.notes.offers (made_offer s) in
      let n = length_snoc it.send.notes.offers (made_offer s) in
      subst (λ (os : List MadeOffer). length os ≤ known_lead os + 16) (sym o.notes.offers) (omega (arith, left, up, n));
  replied = v.replied;
}

pub offer_lists : (it : Inside) (x : Payload) (s : ℕ) (send : Sending Payload) (marks : Marked) → IsAsking it → IsOffered it.send x s send
    → it.marks.places ≡ marks.places + 1
    → IsRequested (asking_of it) x s (asking_of (record { send = send; inbox = it.inbox; marks = marks; replied = it.replied }))
offer_lists it x s send marks v o p = record {
  send = o;
  rest = refl;
  places = p;
  list = ap (λ xs. asked xs send.notes.offers it.inbox.had) o.payloads
      ∙ ap (λ os. asked (it.send.payloads ++ x ∷ []) os it.inbox.had) o.notes.offers
      ∙ asked_more v.over it.send.payloads it.send.notes.offers it.inbox.had it.marks.list x s v.one_each v.noted;
}

-- ---- one that stands is changed

-- where the mark of a request stands
pub place_below : (it : Inside) (k : ℕ) → IsAsking it → MayWithdraw (slice_get it.send.notes.offers k)
    → (length it.marks.list ≤ length it.send.notes.offers) × (length it.send.notes.offers - length it.marks.list ≤ k)
    × (k - (length it.send.notes.offers - length it.marks.list) < length it.marks.list)
place_below it k v may =
    let n = as_many v.over it.send.notes.offers it.inbox.had it.marks.list v.noted in
    let a = not_over v.over it.send.notes.offers it.inbox.had it.marks.list k v.noted may in
    let b = may_within it.send.notes.offers k may in
    (omega arith, omega arith, omega arith)

pub over_is : (it : Inside) (v : IsAsking it) → length it.send.notes.offers - length it.marks.list ≡ v.over
over_is it v = let n = as_many v.over it.send.notes.offers it.inbox.had it.marks.list v.noted in omega arith

-- the invariant but for the front
pub record IsMarked (it : Inside) : Type 0 where
  pub over : ℕ
  pub noted : AreNoted over it.send.notes.offers it.inbox.had it.marks.list
  pub one_each : length it.send.payloads ≡ length it.send.notes.offers
  pub size : capacity_of it.send.notes ≡ 16
  pub few : length it.send.notes.offers ≤ known_lead it.send.notes.offers + 16
  pub replied : it.replied ≡ length it.inbox.had

pub front_keeps : (it : Inside) → IsMarked it → (slice_get it.marks.list 0 ≡ Some Gone → ⊥) → IsAsking it
front_keeps it m f = record { over = m.over; noted = m.noted; front = f; one_each = m.one_each; size = m.size; few = m.few; replied = m.replied }

pub skip_keeps : (it : Inside) (marks : Marked) → IsMarked it → Skips it.marks marks
    → IsAsking (record { send = it.send; inbox = it.inbox; marks = marks; replied = it.replied })
skip_keeps it marks m s = record {
  over = m.over + length s.some.gone;
  noted = gone_many s.some.gone m.over it.send.notes.offers it.inbox.had marks.list s.some.all
      (subst (λ ms. AreNoted m.over it.send.notes.offers it.inbox.had ms) s.some.list m.noted);
  front = s.front;
  one_each = m.one_each;
  size = m.size;
  few = m.few;
  replied = m.replied;
}

-- no more stand than before, where what was known stays known
few_after : (it : Inside) → IsAsking it → (k : ℕ) (f : MadeOffer → MadeOffer) → ((o : MadeOffer) → is_some o.known ≡ true → is_some (f o).known ≡ true)
    → (os : List MadeOffer) → os ≡ altered it.send.notes.offers k f → length os ≤ known_lead os + 16
few_after it v k f knows os e =
    let up = lead_altered it.send.notes.offers k f knows in
    let n = length_altered it.send.notes.offers k f in
    let few = v.few in
    subst (λ (xs : List MadeOffer). length xs ≤ known_lead xs + 16) (sym e) (omega (arith, up, n, few))

module _ (it : Inside) (v : IsAsking it) (k : ℕ) (may : MayWithdraw (slice_get it.send.notes.offers k)) where
  mark_says : (o : MadeOffer) → slice_get it.send.notes.offers k ≡ Some o → (o.withdrawn ≡ None) × (o.known ≡ None)
  mark_says o e = subst MayWithdraw e may

  pub changed : (f : MadeOffer → MadeOffer) (m : Asked) (notes : OwnerNotes) (marks : Marked) → notes.offers ≡ altered it.send.notes.offers k f
      → notes.table ≡ it.send.notes.table
      → marks.list ≡ slice_set it.marks.list (k - (length it.send.notes.offers - length it.marks.list)) m
      → ((o : MadeOffer) → o.withdrawn ≡ None → o.known ≡ None → MarkSays m (f o))
      → ((o : MadeOffer) → is_some o.known ≡ true → is_some (f o).known ≡ true)
      → IsMarked (record { send = record it.send { notes = notes }; inbox = it.inbox; marks = marks; replied = it.replied })
  changed f m notes marks eo et em says knows = record {
    over = v.over;
    noted = subst (λ (os : List MadeOffer). AreNoted v.over os it.inbox.had marks.list) (sym eo)
        (subst (λ ms. AreNoted v.over (altered it.send.notes.offers k f) it.inbox.had ms) (sym em)
        (noted_changed v.over it.send.notes.offers it.inbox.had it.marks.list k (k - (length it.send.notes.offers - length it.marks.list)) f m v.noted
        (let l = not_over v.over it.send.notes.offers it.inbox.had it.marks.list k v.noted may in let e = over_is it v in omega arith)
        (λ o e. let h = mark_says o e in says o h.0 h.1)));
    one_each = v.one_each ∙ sym (ap length eo ∙ length_altered it.send.notes.offers k f);
    size = ap (λ t. t.words) et ∙ v.size;
    few = few_after it v k f knows notes.offers eo;
    replied = v.replied;
  }

  pub withdrawn_lists : (s : ℕ) → asked it.send.payloads (altered it.send.notes.offers k (withdrawn_at s)) it.inbox.had
      ≡ altered (requests_of (asking_of it)) k (withdrawn_in s)
  withdrawn_lists s = asked_withdrawn v.over it.send.payloads it.send.notes.offers it.inbox.had it.marks.list k s v.noted
      (not_over v.over it.send.notes.offers it.inbox.had it.marks.list k v.noted may)

-- what was known of offers is known of the list
pub known_lists : (it : Inside) (last k s : ℕ) (notes : OwnerNotes) → Knows it.send.notes last k s notes
    → IsKnownIn (requests_of (asking_of it)) last k s (asked it.send.payloads notes.offers it.inbox.had)
known_lists it last k s notes w = (
  w.of,
  w.next,
  ap (λ os. asked it.send.payloads os it.inbox.had) w.offers ∙ asked_known it.send.payloads it.send.notes.offers it.inbox.had k w.of,
)

-- one that is withdrawn comes to be known
pub room_keeps : (it : Inside) (last k s : ℕ) (notes : OwnerNotes) → IsAsking it → Knows it.send.notes last k s notes
    → is_withdrawn (slice_get it.send.notes.offers k) ≡ true
    → IsAsking (record { send = record it.send { notes = notes }; inbox = it.inbox; marks = it.marks; replied = it.replied })
room_keeps it last k s notes v w e = record {
  over = v.over;
  noted = subst (λ (os : List MadeOffer). AreNoted v.over os it.inbox.had it.marks.list) (sym w.offers)
      (noted_room v.over it.send.notes.offers it.inbox.had it.marks.list k w.of v.noted e);
  front = v.front;
  one_each = v.one_each ∙ sym (ap length w.offers ∙ length_altered it.send.notes.offers k (known_at w.of));
  size = ap (λ t. t.words) w.hears.table ∙ v.size;
  few = few_after it v k (known_at w.of) (λ o known. refl) notes.offers w.offers;
  replied = v.replied;
}

-- the first request that is not known may be withdrawn, unless it is
none_of : (w : Option ℕ) → is_some w ≡ false → w ≡ None
none_of None e = refl
none_of (Some x) e = absurd cc

lead_by : (o : MadeOffer) (os : List MadeOffer) (w : Option ℕ) → o.known ≡ w → known_lead (o ∷ os) < suc (length os)
    → is_withdrawn (slice_get (o ∷ os) (known_lead (o ∷ os))) ≡ false
    → (known_lead os < length os → is_withdrawn (slice_get os (known_lead os)) ≡ false → MayWithdraw (slice_get os (known_lead os)))
    → MayWithdraw (slice_get (o ∷ os) (known_lead (o ∷ os)))
lead_by o os None q l e rest =
    let z : known_lead (o ∷ os) ≡ 0 = ap (λ (w : Option ℕ). cond (is_some w) (suc (known_lead os)) 0) q in
    subst (λ n. MayWithdraw (slice_get (o ∷ os) n)) (sym z) (none_of o.withdrawn (subst (λ n. is_withdrawn (slice_get (o ∷ os) n) ≡ false) z e), q)
lead_by o os (Some x) q l e rest =
    let z : known_lead (o ∷ os) ≡ suc (known_lead os) = ap (λ (w : Option ℕ). cond (is_some w) (suc (known_lead os)) 0) q in
    let m : known_lead os < length os = omega arith in
    subst (λ n. MayWithdraw (slice_get (o ∷ os) n)) (sym z) (rest m (subst (λ n. is_withdrawn (slice_get (o ∷ os) n) ≡ false) z e))

pub lead_may : (os : List MadeOffer) → known_lead os < length os → is_withdrawn (slice_get os (known_lead os)) ≡ false → MayWithdraw (slice_get os (known_lead os))
lead_may [] l e = absurd (omega arith)
lead_may (o ∷ os) l e = lead_by o os o.known refl l e (λ m q. lead_may os m q)

-- a mark that is set to begun brings none that is gone to the front
pub started_front : (ms : List Asked) (at : ℕ) → (slice_get ms 0 ≡ Some Gone → ⊥) → slice_get (slice_set ms at Started) 0 ≡ Some Gone → ⊥
started_front [] at f e = cc
started_front (m ∷ ms) zero f e = cc
started_front (m ∷ ms) (suc at) f e = f e

-- the decision of one that is not withdrawn was learned: where its mark stands, and what holds once it says so
module _ (it : Inside) (v : IsAsking it) (last k s : ℕ) (send : Sending Payload) (less : known_lead it.send.notes.offers < length it.send.notes.offers)
    (is : k ≡ known_lead it.send.notes.offers) (stands : is_withdrawn (slice_get it.send.notes.offers k) ≡ false) (w : Knows it.send.notes last k s send.notes)
    (end : send ≡ record it.send { notes = send.notes }) where
  learnt_may : MayWithdraw (slice_get it.send.notes.offers k)
  learnt_may = subst (λ n. MayWithdraw (slice_get it.send.notes.offers n)) (sym is)
      (lead_may it.send.notes.offers less (subst (λ n. is_withdrawn (slice_get it.send.notes.offers n) ≡ false) is stands))

  pub learnt_place : (length it.marks.list ≤ length send.notes.offers) × (length send.notes.offers - length it.marks.list ≤ k)
      × (k - (length send.notes.offers - length it.marks.list) < length it.marks.list)
  learnt_place = subst (λ n. (length it.marks.list ≤ n) × (n - length it.marks.list ≤ k) × (k - (n - length it.marks.list) < length it.marks.list))
      (sym (ap length w.offers ∙ length_altered it.send.notes.offers k (known_at w.of))) (place_below it k v learnt_may)

  pub learnt_keeps : (marks : Marked) → marks.list ≡ slice_set it.marks.list (k - (length send.notes.offers - length it.marks.list)) Started
      → IsAsking (record { send = send; inbox = it.inbox; marks = marks; replied = it.replied })
  learnt_keeps marks e = subst (λ (x : Sending Payload). IsAsking (record { send = x; inbox = it.inbox; marks = marks; replied = it.replied })) (sym end)
      (front_keeps (record { send = record it.send { notes = send.notes }; inbox = it.inbox; marks = marks; replied = it.replied })
      (changed it v k learnt_may (known_at w.of) Started send.notes marks w.offers w.hears.table
      (e ∙ ap (λ n. slice_set it.marks.list (k - (n - length it.marks.list)) Started) (ap length w.offers ∙ length_altered it.send.notes.offers k (known_at w.of)))
      (λ o a b. (a, refl)) (λ o known. refl))
      (subst (λ (ms : List Asked). slice_get ms 0 ≡ Some Gone → ⊥) (sym e)
      (started_front it.marks.list (k - (length send.notes.offers - length it.marks.list)) v.front)))

-- the list with what was learned
pub learnt_lists : (it : Inside) (last k s : ℕ) (send : Sending Payload) → Knows it.send.notes last k s send.notes → send ≡ record it.send { notes = send.notes }
    → IsKnownIn (requests_of (asking_of it)) last k s (asked send.payloads send.notes.offers it.inbox.had)
learnt_lists it last k s send w end =
    subst (λ (x : Sending Payload). IsKnownIn (requests_of (asking_of it)) last k s (asked x.payloads x.notes.offers it.inbox.had)) (sym end)
    (known_lists it last k s send.notes w)

pub room_learnt : (it : Inside) (last k s : ℕ) (send : Sending Payload) → IsAsking it → Knows it.send.notes last k s send.notes
    → is_withdrawn (slice_get it.send.notes.offers k) ≡ true → send ≡ record it.send { notes = send.notes }
    → IsAsking (record { send = send; inbox = it.inbox; marks = it.marks; replied = it.replied })
room_learnt it last k s send v w e end =
    subst (λ (x : Sending Payload). IsAsking (record { send = x; inbox = it.inbox; marks = it.marks; replied = it.replied })) (sym end)
    (room_keeps it last k s send.notes v w e)

-- ---- replies

-- whether a reply is awaited is told by the first mark
pub awaits_is : (it : Inside) → IsAsking it → awaits_reply (end_of (asking_of it)) ≡ is_started (slice_get it.marks.list 0)
awaits_is it v = ap (λ n. is_known (slice_get (requests_of (asking_of it)) n))
    (least_is v.over it.send.payloads it.send.notes.offers it.inbox.had it.marks.list v.one_each v.noted v.front)
    ∙ awaits_so v.over it.send.payloads it.send.notes.offers it.inbox.had it.marks.list v.one_each v.noted v.front

pub some_started : (ms : List Asked) → is_started (slice_get ms 0) ≡ true → 0 < length ms
some_started [] e = absurd cc
some_started (m ∷ ms) e = omega arith

-- there are no more replies than requests that are over
few_replies : (n : ℕ) (os : List MadeOffer) (rs : List Response) (ms : List Asked) → AreNoted n os rs ms → length rs ≤ n
few_replies zero os rs ms h = let e = ap length h.0 in omega arith
few_replies (suc n) [] rs ms h = absurd h
few_replies (suc n) (o ∷ os) [] ms h = omega arith
few_replies (suc n) (o ∷ os) (r ∷ rs) ms h = let l : length rs ≤ n = ⊎_elim
    (λ (g : (is_some o.withdrawn ≡ true) × AreNoted n os (r ∷ rs) ms). let m = few_replies n os (r ∷ rs) ms g.1 in less_tail n (length rs) m)
    (λ (g : (o.withdrawn ≡ None) × (is_some o.known ≡ true) × AreNoted n os rs ms). few_replies n os rs ms g.2)
    h in omega arith
  where
    less_tail : (n m : ℕ) → suc m ≤ n → m ≤ n
    less_tail n m l = omega arith

pub replies_below : (it : Inside) → IsAsking it → is_started (slice_get it.marks.list 0) ≡ true → it.replied + 1 ≤ length it.send.notes.offers
replies_below it v e =
    let a = few_replies v.over it.send.notes.offers it.inbox.had it.marks.list v.noted in
    let b = as_many v.over it.send.notes.offers it.inbox.had it.marks.list v.noted in
    let d = some_started it.marks.list e in
    let r = v.replied in
    omega arith

pub reply_keeps : (it : Inside) (r : Response) (inbox : Coming) (passed marks : Marked) → IsAsking it → is_started (slice_get it.marks.list 0) ≡ true
    → inbox.had ≡ it.inbox.had ++ r ∷ [] → passed.list ≡ drop 1 it.marks.list → Skips passed marks
    → IsAsking (record { send = it.send; inbox = inbox; marks = marks; replied = it.replied + 1 })
reply_keeps it r inbox passed marks v e had list skips = skip_keeps (record { send = it.send; inbox = inbox; marks = passed; replied = it.replied + 1 }) marks
    (record {
      over = suc v.over;
      noted = subst (λ rs. AreNoted (suc v.over) it.send.notes.offers rs passed.list) (sym had)
          (subst (λ ms. AreNoted (suc v.over) it.send.notes.offers (it.inbox.had ++ r ∷ []) ms) (sym list)
          (noted_reply v.over it.send.notes.offers it.inbox.had it.marks.list r v.noted e));
      one_each = v.one_each;
      size = v.size;
      few = v.few;
      replied = ap (λ n. n + 1) v.replied ∙ sym (length_snoc it.inbox.had r) ∙ sym (ap length had);
    })
    skips

replied_list : (ms : List Asked) (n : ℕ) (xs : List Payload) (os : List MadeOffer) (rs : List Response) (r : Response) → AreNoted n os rs ms
    → is_started (slice_get ms 0) ≡ true → asked xs os (rs ++ r ∷ []) ≡ altered (asked xs os rs) n (replied_with r.answer r.of)
replied_list [] n xs os rs r h e = absurd cc
replied_list (Open ∷ ms) n xs os rs r h e = absurd cc
replied_list (Started ∷ ms) n xs os rs r h e = asked_replied n xs os rs ms r h
replied_list (Gone ∷ ms) n xs os rs r h e = absurd cc

-- the first of those that were gathered, or else of those on the ring
first_is : (gathered items : List Response) (c new : Coming) (r : Response) → c.gathered ≡ gathered → IsPrefix items c.items → PopsNext c r new
    → ((gathered ≡ r ∷ new.gathered) × IsPrefix items new.items) ⊎ ((gathered ≡ []) × (new.gathered ≡ []) × IsPrefix items (r ∷ new.items))
first_is gathered items c new r e p h = ⊎_elim
    (λ (g : (c.gathered ≡ r ∷ new.gathered) × (new.items ≡ c.items)). inl (sym e ∙ g.0, subst (λ is. IsPrefix items is) (sym g.1) p))
    (λ (g : (c.gathered ≡ []) × (new.gathered ≡ []) × (c.items ≡ r ∷ new.items)). inr (sym e ∙ g.0, g.1, subst (λ is. IsPrefix items is) g.2 p))
    h.rest

pub reply_lists : (it : Inside) (r : Response) (mid inbox : Coming) (marks : Marked) (n : ℕ) → IsAsking it → is_started (slice_get it.marks.list 0) ≡ true
    → LooksOnly it.inbox mid → PopsNext mid r inbox
    → HasReply (asking_of it) r (asking_of (record { send = it.send; inbox = inbox; marks = marks; replied = n }))
reply_lists it r mid inbox marks n v e looks pops = record {
  rest = ap (λ name. record { send = it.send; ring = name; replies = inbox.had; gathered = inbox.gathered; items = inbox.items; places = marks.places }) (pops.ring ∙ looks.ring);
  replies = pops.had ∙ ap (λ rs. rs ++ r ∷ []) looks.had;
  waiting = first_is it.inbox.gathered it.inbox.items mid inbox r looks.gathered looks.items pops;
  list = ap (λ rs. asked it.send.payloads it.send.notes.offers rs) (pops.had ∙ ap (λ rs. rs ++ r ∷ []) looks.had)
      ∙ replied_list it.marks.list v.over it.send.payloads it.send.notes.offers it.inbox.had r v.noted e
      ∙ ap (λ k. altered (requests_of (asking_of it)) k (replied_with r.answer r.of))
      (sym (least_is v.over it.send.payloads it.send.notes.offers it.inbox.had it.marks.list v.one_each v.noted v.front));
}

pub number_is : (it : Inside) → IsAsking it → length it.send.notes.offers - length it.marks.list ≡ least_open (requests_of (asking_of it))
number_is it v = over_is it v ∙ sym (least_is v.over it.send.payloads it.send.notes.offers it.inbox.had it.marks.list v.one_each v.noted v.front)

-- the reply that is popped is the one whose stamp was seen
pub popped_stamp : (c new : Coming) (r : Response) (of : ℕ) → stamp_of (first_of c) ≡ Some of → PopsNext c r new → r.of ≡ of
popped_stamp c new r of e h = some_same (⊎_elim
    (λ (g : (c.gathered ≡ r ∷ new.gathered) × (new.items ≡ c.items)). sym (ap (λ (gs : List Response). stamp_of (slice_get (gs ++ c.items) 0)) g.0) ∙ e)
    (λ (g : (c.gathered ≡ []) × (new.gathered ≡ []) × (c.items ≡ r ∷ new.items)).
    sym (ap (λ (gs : List Response). stamp_of (slice_get (gs ++ c.items) 0)) g.0 ∙ ap (λ (is : List Response). stamp_of (slice_get is 0)) g.2) ∙ e)
    h.rest)
  where
    some_same : Some r.of ≡ Some of → r.of ≡ of
    some_same q = cc

-- where there is no stamp there is no reply
pub none_come : (c : Coming) → stamp_of (first_of c) ≡ None → (c.gathered ≡ []) × (c.items ≡ [])
none_come c e = by c.gathered c.items e
  where
    by : (gs is : List Response) → stamp_of (slice_get (gs ++ is) 0) ≡ None → (gs ≡ []) × (is ≡ [])
    by [] [] e = (refl, refl)
    by [] (r ∷ is) e = absurd cc
    by (r ∷ gs) is e = absurd cc

pub looks_only : (it : Inside) (mid : Coming) → LooksOnly it.inbox mid
    → OnlyLooks (asking_of it) (asking_of (record { send = it.send; inbox = mid; marks = it.marks; replied = it.replied }))
looks_only it mid l = record {
  rest = ap (λ name. record { send = it.send; ring = name; replies = mid.had; gathered = mid.gathered; items = mid.items; places = it.marks.places }) l.ring
      ∙ ap (λ rs. record { send = it.send; ring = it.inbox.ring; replies = rs; gathered = mid.gathered; items = mid.items; places = it.marks.places }) l.had
      ∙ ap (λ rs. record { send = it.send; ring = it.inbox.ring; replies = it.inbox.had; gathered = rs; items = mid.items; places = it.marks.places }) l.gathered;
  items = l.items;
}
