-- The last stamp of a party's journal is at least every stamp at its ends.
use Rattle.std.proofs.Common.{◌≡◌, ℕ, zero, suc, ◌<◌, ◌≤◌, List, [], ◌∷◌, ◌++◌, Bool, true, false, cond, sym, subst, arith}
use Rattle.std.specs.List.{filter, AllByRecursion}
use Rattle.std.proofs.lemmas.Bool.Decides.{nat_tests}
use Rattle.ac_base.specs.declared.entry.Event.{Event}
use Rattle.ac_base.specs.declared.entry.Entry.{Entry}
use Rattle.ac_base.specs.declared.entry.Stamped.{Stamped}
use Rattle.ac_base.specs.declared.entry.Event.TheVariants.{Offer, Withdraw, Know, Room, Got, Pass, Did, Reply}
use Rattle.ac_base.specs.Stamps.{next_stamp}
use Rattle.ac_links.specs.declared.payloads.Terms.{Terms}
use Rattle.ac_links.specs.Order.{of_party, is_of_link}
use Rattle.ac_links.specs.Journals.{HasStamps, last_of}
use Rattle.ac_links.specs.Views.{OwnerOffer, PeerDecision, altered, withdrawn_at, known_at, replied_with, owner_offer, owner_after, decision_of, OwnerRuns, PeerRuns}
use Rattle.ac_links.specs.Noted.{owner_noted, peer_noted}
use Rattle.ac_links.specs.Party.{LinkEnd, EndRuns, PartyAgrees}
use Rattle.ac_links.specs.Party.LinkEnd.{Owns, Decides, Absent}
use Rattle.core_ports.specs.Ends.{IsOfferUpTo, IsDecisionUpTo, IsUpTo}

-- ---- the stamps of a journal

rises : (last of s : ℕ) → s ≡ next_stamp last of → last < s
rises last of s h = grind (arith, nat_tests)

later : (seen : Event → ℕ) (last : ℕ) (j : List Entry) → HasStamps seen last j → last ≤ last_of last j
later seen last [] h = omega arith
later seen last (e ∷ es) h =
    let up = rises last (seen e.event) e.stamp h.0 in
    let end = later seen e.stamp es h.1 in
    omega arith

abbrev Below : ℕ → Stamped → Type 0
Below last e = e.entry.stamp ≤ last

all_below : (seen : Event → ℕ) (last p : ℕ) (j : List Entry) → HasStamps seen last j → AllByRecursion (Below (last_of last j)) (of_party p j)
all_below seen last p [] h = tt
all_below seen last p (e ∷ es) h = (later seen e.stamp es h.1, all_below seen e.stamp p es h.1)

chosen : (P : Stamped → Type 0) (x : Stamped) (xs : List Stamped) (b : Bool) → P x → AllByRecursion P xs → AllByRecursion P (cond b (x ∷ xs) xs)
chosen P x xs true h a = (h, a)
chosen P x xs false h a = a

filtered : (P : Stamped → Type 0) (l : ℕ) (xs : List Stamped) → AllByRecursion P xs → AllByRecursion P (filter (is_of_link l) xs)
filtered P l [] a = tt
filtered P l (x ∷ xs) a = chosen P x (filter (is_of_link l) xs) (is_of_link l x) a.0 (filtered P l xs a.1)

-- ---- an end

pushed : {X : Type 0} (P : X → Type 0) (xs : List X) (x : X) → AllByRecursion P xs → P x → AllByRecursion P (xs ++ x ∷ [])
pushed P [] x a h = (h, tt)
pushed P (y ∷ ys) x a h = (a.0, pushed P ys x a.1 h)

all_altered : {X : Type 0} (P : X → Type 0) (f : X → X) → ((x : X) → P x → P (f x)) → (xs : List X) (n : ℕ) → AllByRecursion P xs → AllByRecursion P (altered xs n f)
all_altered P f h [] n a = tt
all_altered P f h (x ∷ xs) zero a = (h x a.0, a.1)
all_altered P f h (x ∷ xs) (suc n) a = (a.0, all_altered P f h xs n a.1)

owner_step : (last s of : ℕ) (os : List OwnerOffer) (e : Event) → s ≤ last → of ≤ last → AllByRecursion (IsOfferUpTo last) os → AllByRecursion (IsOfferUpTo last) (owner_after os s of e)
owner_step last s of os (Offer l n payload) hs ho a = pushed (IsOfferUpTo last) os (owner_offer payload s) a (record { made = hs; withdrawn = tt; known = tt; reply = tt })
owner_step last s of os (Withdraw l n) hs ho a =
    all_altered (IsOfferUpTo last) (withdrawn_at s) (λ o h. record { made = h.made; withdrawn = hs; known = h.known; reply = h.reply }) os n a
owner_step last s of os (Know l n) hs ho a =
    all_altered (IsOfferUpTo last) (known_at of) (λ o h. record { made = h.made; withdrawn = h.withdrawn; known = ho; reply = h.reply }) os n a
owner_step last s of os (Room l n) hs ho a =
    all_altered (IsOfferUpTo last) (known_at of) (λ o h. record { made = h.made; withdrawn = h.withdrawn; known = ho; reply = h.reply }) os n a
owner_step last s of os (Got l n value) hs ho a = a
owner_step last s of os (Pass l n) hs ho a = a
owner_step last s of os (Did l n answer) hs ho a = a
owner_step last s of os (Reply l n answer) hs ho a =
    all_altered (IsOfferUpTo last) (replied_with answer of) (λ o h. record { made = h.made; withdrawn = h.withdrawn; known = h.known; reply = ho }) os n a

owner_up_to : (last : ℕ) (terms : Terms) (mine : Event → ℕ) (os : List OwnerOffer) (es : List Stamped) (end : List OwnerOffer)
    → AllByRecursion (IsOfferUpTo last) os → AllByRecursion (Below last) es → OwnerRuns terms mine os es end → AllByRecursion (IsOfferUpTo last) end
owner_up_to last terms mine os [] end a b r = subst (AllByRecursion (IsOfferUpTo last)) (sym r) a
owner_up_to last terms mine os (e ∷ es) end a b r =
    let stamp = b.0 in
    let above = r.1 in
    owner_up_to last terms mine (owner_after os e.entry.stamp (mine e.entry.event) e.entry.event) es end
    (owner_step last e.entry.stamp (mine e.entry.event) os e.entry.event stamp (omega arith) a) b.1 r.2

decision_up_to : (last s of : ℕ) (e : Event) → s ≤ last → of ≤ last → IsDecisionUpTo last (decision_of s of e)
decision_up_to last s of (Offer l n payload) hs ho = record { made = hs; answers = ho }
decision_up_to last s of (Withdraw l n) hs ho = record { made = hs; answers = ho }
decision_up_to last s of (Know l n) hs ho = record { made = hs; answers = ho }
decision_up_to last s of (Room l n) hs ho = record { made = hs; answers = ho }
decision_up_to last s of (Got l n value) hs ho = record { made = hs; answers = ho }
decision_up_to last s of (Pass l n) hs ho = record { made = hs; answers = ho }
decision_up_to last s of (Did l n answer) hs ho = record { made = hs; answers = ho }
decision_up_to last s of (Reply l n answer) hs ho = record { made = hs; answers = ho }

peer_up_to : (last : ℕ) (terms : Terms) (mine : Event → ℕ) (ds : List PeerDecision) (es : List Stamped) (end : List PeerDecision)
    → AllByRecursion (IsDecisionUpTo last) ds → AllByRecursion (Below last) es → PeerRuns terms mine ds es end → AllByRecursion (IsDecisionUpTo last) end
peer_up_to last terms mine ds [] end a b r = subst (AllByRecursion (IsDecisionUpTo last)) (sym r) a
peer_up_to last terms mine ds (e ∷ es) end a b r =
    let stamp = b.0 in
    let above = r.1 in
    let d = decision_of e.entry.stamp (mine e.entry.event) e.entry.event in
    peer_up_to last terms mine (ds ++ d ∷ []) es end
    (pushed (IsDecisionUpTo last) ds d a (decision_up_to last e.entry.stamp (mine e.entry.event) e.entry.event stamp (omega arith))) b.1 r.2

end_up_to : (last : ℕ) (terms : Terms) (end : LinkEnd) (es : List Stamped) → AllByRecursion (Below last) es → EndRuns terms end es → IsUpTo last end
end_up_to last terms (Owns os) es b r = owner_up_to last terms (owner_noted os) [] es os tt b r
end_up_to last terms (Decides ds) es b r = peer_up_to last terms (peer_noted ds) [] es ds tt b r
end_up_to last terms Absent es b r = tt

-- no stamp at the ends of a party is above the last one of its journal
pub up_to_all : (terms : ℕ → Terms) (p : ℕ) (ends : ℕ → LinkEnd) (j : List Entry) → PartyAgrees terms p ends j → (l : ℕ) → IsUpTo (last_of 0 j) (ends l)
up_to_all terms p ends j a l = end_up_to (last_of 0 j) (terms l) (ends l) (filter (is_of_link l) (of_party p j))
    (filtered (Below (last_of 0 j)) l (of_party p j) (all_below _ 0 p j a.stamps)) (a.runs l)
