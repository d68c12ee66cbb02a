-- A core that has stopped, and took no place of its links for an offer, is at rest on them.
use Rattle.std.proofs.Common.{◌≡◌, ◌⊎◌, ℕ, zero, suc, ◌-◌, ◌<◌, ◌≤◌, List, [], ◌∷◌, Option, Some, None, Bool, true, false, ◌&&◌, cond, refl, sym, ap, ◌∙◌, subst, inl, inr, arith, length}
use Rattle.std.specs.Prelude.{is_some, nat_lt, drop, slice_get}
use Rattle.std.proofs.lemmas.Bool.Decides.{nat_tests}
use Rattle.std.proofs.lemmas.List.Elements.{All-get_or}
use Rattle.std.proofs.lemmas.Option.{slice_get-get_or}
use Rattle.stack_code.specs.Valid.{HasLinks}
use Rattle.ac_links.specs.declared.payloads.Terms.{Terms}
use Rattle.ac_links.specs.Views.{OwnerOffer, PeerDecision, Response, owner_lead, may_reply, altered, replied_with, ViewsAgree}
use Rattle.ac_links.specs.Replies.{least_open, waiting_replies}
use Rattle.ac_links.proofs.Waiting.{takes_reply}
use Rattle.ac_links.specs.AtRest.{OwnerRests, PeerRests}
use Rattle.ac_links.specs.Party.{LinkEnd}
use Rattle.ac_links.specs.Party.LinkEnd.{Owns}
use Rattle.ac_history.specs.History as history
use Rattle.ac_history.specs.Quiet.{waits_on}
use Rattle.core_channels.specs.LinkViews.{LinkViews, AreViews, IsLink, no_link, link_at}
use Rattle.core_channels.proofs.Keeping.{no_messages}
use Rattle.core_ports.specs.AtHand.{AtHand}
use Rattle.core_ports.specs.Ends.{has_room, is_known, awaits_reply}
use Rattle.core_ports.specs.declared.side.Side.TheVariants.{Owner}
use Rattle.run_laws.specs.Hands.{next_reply, has_reply, hand_at}
use Rattle.run_laws.proofs.Replies.{carries_requests}
use Rattle.core_ports.specs.Sides.{side_of}
use Rattle.run_laws.specs.Ends.{end_of}
use Rattle.program_run.specs.Parties.{owner_of, peer_of}
use Rattle.run_laws.specs.Network.{terms_in, offers_in, decisions_in, ends_in, AreLinksOf}
use Rattle.run_laws.specs.Cores.{CoreView, IsAtRest}
use Rattle.run_laws.specs.GoingOn.{LeavesNothing, HasStopped}
use Rattle.run_laws.proofs.Parties.{owner_side, peer_side}

-- ---- what is not there

none_there : {X : Type 0} (xs : List X) (n : ℕ) → is_some (slice_get xs n) ≡ false → length xs ≤ n
none_there [] n h = omega arith
none_there (x ∷ xs) zero h = cc
none_there (x ∷ xs) (suc n) h = let ih = none_there xs n h in omega arith

one_is_not : (a b : Bool) → a && b ≡ false → (a ≡ false) ⊎ (b ≡ false)
one_is_not true b h = inr h
one_is_not false b h = inl refl

decided_are_few : (os : List OwnerOffer) (ds : List PeerDecision) → ViewsAgree os ds → length ds ≤ length os
decided_are_few [] [] a = omega arith
decided_are_few [] (d ∷ ds) a = absurd a
decided_are_few (o ∷ os) [] a = omega arith
decided_are_few (o ∷ os) (d ∷ ds) a = let ih = decided_are_few os ds a.1 in omega arith

all_known : (os : List OwnerOffer) (ds : List PeerDecision) → ViewsAgree os ds → is_some (slice_get os (owner_lead os)) && is_some (slice_get ds (owner_lead os)) ≡ false → length ds ≤ owner_lead os
all_known os ds a h = elim (one_is_not (is_some (slice_get os (owner_lead os))) (is_some (slice_get ds (owner_lead os))) h) [
  | inl q ↦ (let n = none_there os (owner_lead os) q in let few = decided_are_few os ds a in omega arith)
  | inr q ↦ none_there ds (owner_lead os) q
]

-- ---- where each decision is known, the next reply is one that is awaited

known_below : (os : List OwnerOffer) (n : ℕ) → n < owner_lead os → is_known (slice_get os n) ≡ true
known_below [] n h = absurd (omega arith)
known_below (o ∷ os) n h = by (λ k less. known_below os k less) (is_some o.known) refl n h
  where
    by : ((k : ℕ) → k < owner_lead os → is_known (slice_get os k) ≡ true) → (b : Bool) → is_some o.known ≡ b → (n : ℕ) → n < cond b (suc (owner_lead os)) 0
        → is_known (slice_get (o ∷ os) n) ≡ true
    by rest true e zero h = e
    by rest true e (suc n) h = rest n (omega arith)
    by rest false e n h = absurd (omega arith)

replied_is_decided : (os : List OwnerOffer) (ds : List PeerDecision) (n : ℕ) (o : OwnerOffer) (r : Response) → ViewsAgree os ds → slice_get os n ≡ Some o → o.reply ≡ Some r → n < length ds
replied_is_decided [] ds n o r a h e = cc
replied_is_decided (x ∷ os) [] zero o r a h e =
    absurd (let same : x ≡ o = cc in let none : o.reply ≡ None = ap (λ (y : OwnerOffer). y.reply) (sym same) ∙ a.1 in let no : Some r ≡ None = sym e ∙ none in cc)
replied_is_decided (x ∷ os) [] (suc n) o r a h e = let ih = replied_is_decided os [] n o r a.2 h e in absurd (omega arith)
replied_is_decided (x ∷ os) (d ∷ ds) zero o r a h e = omega arith
replied_is_decided (x ∷ os) (d ∷ ds) (suc n) o r a h e = let ih = replied_is_decided os ds n o r a.1 h e in omega arith

changed_at : (f : OwnerOffer → OwnerOffer) (os : List OwnerOffer) (n : ℕ) → may_reply (slice_get os n) ≡ true → (o : OwnerOffer) × (slice_get (altered os n f) n ≡ Some (f o))
changed_at f [] n h = cc
changed_at f (o ∷ os) zero h = (o, refl)
changed_at f (o ∷ os) (suc n) h = changed_at f os n h

first_is : {X : Type 0} (xs : List X) (x : X) → slice_get xs 0 ≡ Some x → xs ≡ x ∷ drop 1 xs
first_is [] x h = cc
first_is (y ∷ ys) x h = let e : y ≡ x = cc in ap (λ z. z ∷ ys) e

next_is_awaited : (v : LinkViews) (r : Response) → IsLink v → length v.decisions ≤ owner_lead v.offers → next_reply v ≡ Some r → awaits_reply (Owns v.offers) ≡ true
next_is_awaited v r it known here =
    let views : AreViews true v.offers v.decisions = subst (λ b. AreViews b v.offers v.decisions) (carries_requests v r it here) it in
    let t = takes_reply v.terms 0 v.offers v.decisions r (drop 1 (waiting_replies v.offers v.decisions)) views.agree (no_messages v.offers v.decisions views.each views.agree)
    (first_is (waiting_replies v.offers v.decisions) r here) in
    let c = changed_at (replied_with r.answer r.of) v.offers (least_open v.offers) t.fits in
    let within = replied_is_decided (altered v.offers (least_open v.offers) (replied_with r.answer r.of)) v.decisions (least_open v.offers) (replied_with r.answer r.of c.0) r
    t.agree c.1 refl in
    known_below v.offers (least_open v.offers) (omega arith)

-- so where none that is awaited is there, none waits
nothing_first : {X : Type 0} (xs : List X) → slice_get xs 0 ≡ None → xs ≡ []
nothing_first [] h = refl
nothing_first (x ∷ xs) h = cc

none_waits : (v : LinkViews) → IsLink v → length v.decisions ≤ owner_lead v.offers → (v.terms.requests ≡ true → awaits_reply (Owns v.offers) ≡ true → has_reply v ≡ false)
    → waiting_replies v.offers v.decisions ≡ []
none_waits v it known none = by (next_reply v) refl
  where
    by : (q : Option Response) → next_reply v ≡ q → waiting_replies v.offers v.decisions ≡ []
    by None e = nothing_first (waiting_replies v.offers v.decisions) e
    by (Some r) e = absurd (let no : true ≡ false = ap is_some (sym e) ∙ none (carries_requests v r it e) (next_is_awaited v r it known e) in cc)

-- ---- where a place is left, there is no room

no_room : (room : Bool) (spare : ℕ) → 0 < spare → (room ≡ true → nat_lt 0 spare ≡ false) → room ≡ false
no_room true spare h f = absurd (let e = f refl in grind (arith, nat_tests))
no_room false spare h f = refl

module _ (c : CoreView) (valid : HasLinks c.code) (links : List LinkViews) (of : AreLinksOf c.code links)
    (within : c.core < length c.code.entries) (places : (l : ℕ) → l < length c.code.capacities → side_of c.code.ends c.core l ≡ Owner → 0 < (link_at links l).spare) where
  abbrev many : ℕ
  many = length c.code.entries

  abbrev terms : ℕ → Terms
  terms = history.terms_of c.code.capacities (length c.code.capacities - many)

  abbrev hands : ℕ → AtHand
  hands l = hand_at (link_at links l) (side_of c.code.ends c.core l)

  abbrev ends : ℕ → LinkEnd
  ends = ends_in c.code.ends c.core links

  so_many : length c.code.capacities - many ≡ length c.code.ends
  so_many = let e = valid.each in omega arith

  its_terms : (l : ℕ) → l < length c.code.capacities → terms_in links l ≡ terms l
  its_terms l h = of.terms l h ∙ sym (ap (λ n. history.terms_of c.code.capacities n l) so_many)

  linked : (l : ℕ) → l < length c.code.capacities → IsLink (link_at links l)
  linked l h = All-get_or IsLink links l no_link (let n = of.count in omega arith) of.agree

  module _ (leaves : LeavesNothing c (terms_in links) ends hands) where
    owner_rests : (l : ℕ) → l < length c.code.capacities → owner_of c.code.ends l ≡ c.core
        → OwnerRests (terms l) (waits_on l c.end.core) (offers_in links l) (decisions_in links l)
    owner_rests l h is =
        let side = owner_side c.code valid links of c.core l h is in
        let it = linked l h in
        let end : ends l ≡ Owns (offers_in links l) = ap (λ s. end_of s (slice_get links l)) side ∙ ap (end_of Owner) (slice_get-get_or links l no_link (let n = of.count in omega arith)) in
        let known = all_known (offers_in links l) (decisions_in links l) it.agree (sym (ap (λ s. (hand_at (link_at links l) s).decision) side) ∙ leaves.decision l side) in
        record {
          known = known;
          replied = none_waits (link_at links l) it known (λ requests awaited. sym (ap (λ s. (hand_at (link_at links l) s).reply) side)
              ∙ leaves.reply l side requests (ap awaits_reply end ∙ awaited));
          full = λ waits. no_room (nat_lt (length (offers_in links l) - owner_lead (offers_in links l)) (terms l).capacity) (link_at links l).spare (places l h side)
              (λ room. sym (ap (λ s. (hand_at (link_at links l) s).slot) side)
              ∙ leaves.slot l side waits (ap (λ t. has_room t (ends l)) (its_terms l h) ∙ ap (has_room (terms l)) end ∙ room));
        }

    peer_rests : (l : ℕ) → l < length c.code.capacities → peer_of c.code.ends many l ≡ c.core → PeerRests (waits_on l c.end.core) (offers_in links l) (decisions_in links l)
    peer_rests l h is = λ waits.
        let side = peer_side c.code valid links of c.core l within h is in
        none_there (offers_in links l) (length (decisions_in links l)) (sym (ap (λ s. (hand_at (link_at links l) s).front) side) ∙ leaves.front l side waits)

  pub at_rest : HasStopped c (terms_in links) ends hands → IsAtRest c links
  at_rest s = record {
    comes = s.comes;
    rests = record {
      stopped = s.stopped;
      owns = λ idle l h is. owner_rests (s.leaves idle) l h is;
      decides = λ idle l h is. peer_rests (s.leaves idle) l h is;
    };
  }
