-- Parties that agree with their journals are a network. For `parties_are_a_network`.
-- At each link the ends of its owner and its peer are the two views, and what each party noted of all links is told by its end of that one.
use Rattle.std.proofs.Common.{◌≡◌, ℕ, suc, ◌+◌, ◌-◌, ◌<◌, List, [], ◌∷◌, true, refl, sym, ap, ◌∙◌, subst, inl, inr, arith, length, get_or}
use Rattle.std.specs.List.{AllByRecursion}
use Rattle.std.proofs.lemmas.Bool.Decides.{leb_tells}
use Rattle.ac_base.specs.declared.entry.Event.{Event}
use Rattle.ac_base.specs.declared.entry.Event.TheVariants.{Offer, Withdraw, Know, Room, Got, Pass, Did, Reply}
use Rattle.ac_base.specs.declared.entry.Entry.{Entry}
use Rattle.ac_links.specs.declared.payloads.Terms.{Terms}
use Rattle.ac_links.specs.Order.{of_party}
use Rattle.ac_links.specs.Link.{link_of}
use Rattle.ac_links.specs.Journals.{HasStamps}
use Rattle.ac_links.specs.Views.{OwnerOffer, PeerDecision, answers_none}
use Rattle.ac_links.specs.Noted.{owner_noted, peer_noted}
use Rattle.ac_links.specs.Party.{LinkEnd, end_noted, EndRuns, party_noted}
use Rattle.ac_links.specs.Party.LinkEnd.{Owns, Decides, Absent}
use Rattle.ac_history.specs.History.{terms_of}
use Rattle.ac_history.specs.Agreement.{InRange}
use Rattle.ac_history.specs.Network.{PairAgrees, NetworkAgrees, AllNoted, entries_at}
use Rattle.ac_history.specs.Parties.{PartiesAgree, pair_of}
use Rattle.ac_links.proofs.Parted.{by_link, kept}
use Rattle.ac_links.proofs.Push.{runs_same, peer_runs_same}
use Rattle.ac_links.proofs.Party.{all_of}
use Rattle.ac_history.proofs.Journals.{from_journals, zero_sum}

none_begins : (x : LinkEnd) (e : Event) → answers_none e ≡ true → end_noted x e ≡ 0
none_begins (Owns os) (Offer l n v) h = refl
none_begins (Owns os) (Withdraw l n) h = refl
none_begins (Owns os) (Know l n) h = cc
none_begins (Owns os) (Room l n) h = cc
none_begins (Owns os) (Got l n v) h = cc
none_begins (Owns os) (Pass l n) h = cc
none_begins (Owns os) (Did l n v) h = cc
none_begins (Owns os) (Reply l n v) h = cc
none_begins (Decides ds) (Offer l n v) h = refl
none_begins (Decides ds) (Withdraw l n) h = refl
none_begins (Decides ds) (Know l n) h = cc
none_begins (Decides ds) (Room l n) h = cc
none_begins (Decides ds) (Got l n v) h = cc
none_begins (Decides ds) (Pass l n) h = cc
none_begins (Decides ds) (Did l n v) h = cc
none_begins (Decides ds) (Reply l n v) h = cc
none_begins Absent e h = refl

all_noted : (mine : ℕ → Event → ℕ) (q : ℕ) (js : List (List Entry)) → ((k p : ℕ) → p ≡ q + k → HasStamps (mine p) 0 (get_or js k [])) → AllNoted mine q js
all_noted mine q [] h = tt
all_noted mine q (j ∷ js) h = (h 0 q (omega arith), all_noted mine (suc q) js (λ k p e. h (suc k) p (omega arith)))

module _ (capacities : List ℕ) (cores : ℕ) (owner peer : ℕ → ℕ) (ends : ℕ → ℕ → LinkEnd) (offers : ℕ → List OwnerOffer) (decisions : ℕ
    → List PeerDecision) (js : List (List Entry)) (all : PartiesAgree capacities cores owner peer ends offers decisions js) where
  abbrev mine : ℕ → Event → ℕ
  mine p = party_noted (ends p)

  abbrev terms : ℕ → Terms
  terms = terms_of capacities (length capacities - cores)

  -- the party notes of a link's entries what its end of that link notes
  noted_at : (l p : ℕ) (x : LinkEnd) → ends p l ≡ x → AllByRecursion (λ e. end_noted x e.entry.event ≡ mine p e.entry.event) (entries_at l js p)
  noted_at l p x h = all_of _ (λ e k. sym (ap (λ m. end_noted (ends p m) e.entry.event) k ∙ ap (λ y. end_noted y e.entry.event) h)) (entries_at l js p) (kept l (of_party p (get_or js p [])))

  runs_of : (l p : ℕ) (x : LinkEnd) → ends p l ≡ x → EndRuns (terms l) x (entries_at l js p)
  runs_of l p x h = subst (λ y. EndRuns (terms l) y (entries_at l js p)) h ((all.party p).runs l)

  pair : (l : ℕ) → l < length capacities → PairAgrees cores mine js l (pair_of capacities cores owner peer offers decisions l)
  pair l h = record {
    apart = all.apart l h;
    core = all.core l h;
    party = all.kind l h;
    owner = runs_same (terms l) (owner_noted (offers l)) (mine (owner l)) [] (entries_at l js (owner l)) (offers l) (noted_at l (owner l) (Owns (offers l)) (all.owns l h))
        (runs_of l (owner l) (Owns (offers l)) (all.owns l h));
    peer = peer_runs_same (terms l) (peer_noted (decisions l)) (mine (peer l)) [] (entries_at l js (peer l)) (decisions l) (noted_at l (peer l) (Decides (decisions l)) (all.decides l h))
        (runs_of l (peer l) (Decides (decisions l)) (all.decides l h));
    both = all.both l h;
    others = λ p a b. runs_of l p Absent (all.absent l p h a b);
  }

  in_range : (l p : ℕ) → InRange (length capacities) (entries_at l js p)
  in_range l p = elim (leb_tells (length capacities) l) [
    | inl v ↦ subst (InRange (length capacities)) (sym (runs_of l p Absent (all.beyond l p v.1))) tt
    | inr v ↦ (let lt = v.1 in all_of _ (λ e k. omega arith) (entries_at l js p) (kept l (of_party p (get_or js p []))))
  ]

  pub parties_agree : NetworkAgrees capacities cores mine (pair_of capacities cores owner peer offers decisions) js
  parties_agree = record {
    parties = all.parties;
    terms = λ l h. refl;
    pair = pair;
    turns = all.turns;
    stamps = all_noted mine 0 js (λ k p e. subst (λ n. HasStamps (mine p) 0 (get_or js n [])) (zero_sum p k e) (all.party p).stamps);
    first = λ p e h. none_begins (ends p (link_of e)) e h;
    range = from_journals _ 0 js (λ k p e. subst (λ n. InRange (length capacities) (of_party p (get_or js n []))) (zero_sum p k e) (by_link _ (of_party p (get_or js p [])) (λ l. in_range l p)));
  }
