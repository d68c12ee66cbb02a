-- Each write of a legal history ends within the greatest length of a file: what is done was offered, and a link for requests takes no other
-- offer. Each link keeps that of its offers, an offer brings it, and no other entry changes what was offered.
use Rattle.std.proofs.Common.{◌≡◌, ℕ, ◌+◌, ◌≤◌, List, [], ◌∷◌, ◌++◌, length, Option, Some, None, Bool, true, false, refl, sym, subst, inl, inr, arith}
use Rattle.std.specs.Prelude.{All, ◌&&◌, ◌||◌, ◌==◌, ◌-◌, nat_le, nat_lt, slice_get, slice_index_or}
use Rattle.std.specs.List.{AllByRecursion}
use Rattle.std.proofs.lemmas.Bool.{and_parts}
use Rattle.std.proofs.lemmas.Bool.Decides.{leb_tells, nat_tests}
use Rattle.std.proofs.lemmas.List.{get_or_past, length-take}
use Rattle.std.proofs.lemmas.List.Elements.{All-nil, All-push, All-set, All-replicate, All-get_or}
use Rattle.std.proofs.lemmas.Option.{slice_get_within, get_or_from_slice_get}
use Rattle.ac_base.specs.declared.entry.Answer.{Answer}
use Rattle.ac_base.specs.declared.entry.Answer.TheVariants as a
use Rattle.ac_base.specs.declared.entry.Event.{Event}
use Rattle.ac_base.specs.declared.entry.Event.TheVariants.{Offer, Withdraw, Know, Room, Got, Pass, Did, Reply}
use Rattle.ac_base.specs.declared.entry.Payload.{Payload}
use Rattle.ac_base.specs.declared.entry.Payload.TheVariants.{Int, Read, Write}
use Rattle.ac_base.specs.declared.entry.Stamped.{Stamped}
use Rattle.ac_links.specs.declared.offer.LinkOffer.{LinkOffer}
use Rattle.ac_links.specs.Link.{asked, changed, known_lead, link_after, link_fits, link_of, new_offer, offered_payload}
use Rattle.ac_links.specs.Payloads.{is_message, is_payload, is_request}
use Rattle.ac_history.specs.Files.{Deed, bytes_in, deed_of, deeds, deeds_at}
use Rattle.ac_history.specs.History.{Past, after, fits, has_stamp, in_range, is_later, has_its_width, link_at, may_make, start, terms_of, IsLegal}
use Rattle.ac_history.proofs.Parts.{each_append}
use Rattle.trace_writes.specs.declared.write.FileWrite.{FileWrite}
use Rattle.trace_writes.specs.Writes.{write_of, writes_of}

-- a message, or a request that a program may ask for
abbrev is_sent : Payload → Bool
is_sent p = is_message p || is_request p

abbrev IsSent : LinkOffer → Type 0
IsSent o = is_sent o.payload ≡ true

abbrev AreSent : List LinkOffer → Type 0
AreSent os = All IsSent os

-- ---- the offers of a link

one_of : (requests : Bool) (p : Payload) → is_payload requests p ≡ true → is_sent p ≡ true
one_of true (Int v) h = refl
one_of true (Read f from n) h = h
one_of true (Write f from bytes) h = h
one_of false (Int v) h = refl
one_of false (Read f from n) h = let no : false ≡ true = h in absurd (cc (no))
one_of false (Write f from bytes) h = let no : false ≡ true = h in absurd (cc (no))

in_one : (os : List LinkOffer) → AreSent os → (k : ℕ) (o : LinkOffer) → slice_get os k ≡ Some o → IsSent o
in_one os all k o here = subst IsSent (get_or_from_slice_get os k o o here) (all k o (slice_get_within os k o here))

changed_in : (os : List LinkOffer) (k : ℕ) (f : LinkOffer → LinkOffer) → ((o : LinkOffer) → (f o).payload ≡ o.payload) → AreSent os → AreSent (changed os k f (slice_get os k))
changed_in os k f same all = go (slice_get os k) refl where
  go : (r : Option LinkOffer) → slice_get os k ≡ r → AreSent (changed os k f r)
  go None e = all
  go (Some o) e = All-set IsSent os k (f o) (subst (λ (p : Payload). is_sent p ≡ true) (sym (same o)) (in_one os all k o e)) all

after_in : (past : Past) (os : List LinkOffer) (stamp : ℕ) (v : Event) → link_fits (terms_of past.capacities past.channels (link_of v)) os v ≡ true → AreSent os → AreSent (link_after os stamp v)
after_in past os stamp (Offer l k payload) f all =
    let terms = terms_of past.capacities past.channels l in
    let carried = (and_parts ((k == length os) && nat_lt (length os - known_lead os) terms.capacity) (is_payload terms.requests payload) f).1 in
    All-push IsSent os (new_offer payload stamp) all (one_of terms.requests payload carried)
after_in past os stamp (Withdraw l k) f all = changed_in os k _ (λ o. refl) all
after_in past os stamp (Know l k) f all = changed_in os k _ (λ o. refl) all
after_in past os stamp (Room l k) f all = changed_in os k _ (λ o. refl) all
after_in past os stamp (Got l k value) f all = changed_in os k _ (λ o. refl) all
after_in past os stamp (Pass l k) f all = changed_in os k _ (λ o. refl) all
after_in past os stamp (Did l k answer) f all = changed_in os k _ (λ o. refl) all
after_in past os stamp (Reply l k answer) f all = changed_in os k _ (λ o. refl) all

at_link : (links : List (List LinkOffer)) (l : ℕ) → All AreSent links → AreSent (slice_index_or links l [])
at_link links l all = elim (leb_tells (length links) l) [
  | inl q ↦ subst AreSent (sym (get_or_past links l [] q.1)) (All-nil IsSent)
  | inr q ↦ All-get_or AreSent links l [] q.1 all
]

-- ---- what is done

abbrev pub EndsWithin : FileWrite → Type 0
EndsWithin w = w.from + length w.bytes ≤ 1048576

abbrev AllEndWithin : List FileWrite → Type 0
AllEndWithin ws = AllByRecursion EndsWithin ws

fewer : (answer : Answer) (bytes : List ℕ) → length (bytes_in answer bytes) ≤ length bytes
fewer (a.Bytes b) bytes = omega arith
fewer (a.Count n) bytes = omega arith
fewer (a.Fault j) bytes = simp length-take (omega arith)

request_within : (file from : ℕ) (bytes : List ℕ) → (nat_lt file 16 && nat_le (length bytes) 256 && nat_le (from + length bytes) 1048576) ≡ true → from + length bytes ≤ 1048576
request_within file from bytes h =
    let last = (and_parts (nat_lt file 16 && nat_le (length bytes) 256) (nat_le (from + length bytes) 1048576) h).1 in
    grind (arith, nat_tests)

write_within : (p : Payload) (answer : Answer) → is_sent p ≡ true → AllEndWithin (write_of p answer ++ [])
write_within (Int v) answer s = tt
write_within (Read file from len) answer s = tt
write_within (Write file from bytes) answer s =
    let whole = request_within file from bytes s in
    let part = fewer answer bytes in
    (omega arith, tt)

done_one : (os : List LinkOffer) (l k : ℕ) (answer : Answer) → AreSent os → AllEndWithin (writes_of (deed_of (offered_payload (slice_get os k)) (Did l k answer)))
done_one os l k answer all = go (slice_get os k) refl where
  go : (r : Option LinkOffer) → slice_get os k ≡ r → AllEndWithin (writes_of (deed_of (offered_payload r) (Did l k answer)))
  go None e = tt
  go (Some o) e = write_within o.payload answer (in_one os all k o e)

done_by : (os : List LinkOffer) (v : Event) → AreSent os → AllEndWithin (writes_of (deed_of (asked os v) v))
done_by os (Did l k answer) all = done_one os l k answer all
done_by os (Offer l k payload) all = tt
done_by os (Withdraw l k) all = tt
done_by os (Know l k) all = tt
done_by os (Room l k) all = tt
done_by os (Got l k value) all = tt
done_by os (Pass l k) all = tt
done_by os (Reply l k answer) all = tt

-- ---- a history

link_takes : (past : Past) (e : Stamped) → fits past e ≡ true → link_fits (terms_of past.capacities past.channels (link_of e.entry.event)) (link_at past (link_of e.entry.event)) e.entry.event ≡ true
link_takes past e f =
    (and_parts (in_range past e && is_later past.stamp past.party e && has_stamp past e && may_make past.channels past.cores e && has_its_width past.widths e.entry.event) _ f).1

writes_append : (ds es : List Deed) → AllEndWithin (writes_of ds) → AllEndWithin (writes_of es) → AllEndWithin (writes_of (ds ++ es))
writes_append [] es a b = b
writes_append (d ∷ ds) es a b =
    let parts = split (write_of d.payload d.answer) (writes_of ds) a in
    each_append EndsWithin (write_of d.payload d.answer) (writes_of (ds ++ es)) parts.0 (writes_append ds es parts.1 b)
  where
    split : (xs ys : List FileWrite) → AllEndWithin (xs ++ ys) → AllEndWithin xs × AllEndWithin ys
    split [] ys h = (tt, h)
    split (x ∷ xs) ys h = let more = split xs ys h.1 in ((h.0, more.0), more.1)

all_within : (past : Past) (es : List Stamped) → All AreSent past.links → IsLegal past es → AllEndWithin (writes_of (deeds past es))
all_within past [] all legal = tt
all_within past (e ∷ es) all legal =
    let l = link_of e.entry.event in
    let here = at_link past.links l all in
    writes_append (deeds_at past e) (deeds (after past e) es) (done_by (link_at past l) e.entry.event here)
    (all_within (after past e) es (All-set AreSent past.links l (link_after (link_at past l) e.entry.stamp e.entry.event)
    (after_in past (link_at past l) e.entry.stamp e.entry.event (link_takes past e legal.0) here) all) legal.1)

pub writes_end_within : (capacities widths : List ℕ) (cores : ℕ) (es : List Stamped) → IsLegal (start capacities widths cores) es → AllByRecursion EndsWithin (writes_of (deeds
    (start capacities widths cores) es))
writes_end_within capacities widths cores es legal = all_within (start capacities widths cores) es (All-replicate AreSent (length capacities) [] (All-nil IsSent)) legal
