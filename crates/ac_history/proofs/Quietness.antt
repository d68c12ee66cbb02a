-- Parties that rest by the views of their links are quiet in the merged history. For `parties_at_rest_are_quiet`.
-- After the merged history each link is the one that its two views make (Runtime), and of that link ac_links says that it has nothing for a side that rests.
use Rattle.std.proofs.Common.{◌≡◌, ℕ, ◌-◌, ◌<◌, ◌≤◌, List, [], ◌∷◌, Bool, true, false, cond, refl, sym, ap, ◌∙◌, subst, inl, inr, arith, length, get_or, set}
use Rattle.std.specs.Prelude.{nat_le}
use Rattle.std.specs.List.{filter}
use Rattle.std.proofs.lemmas.List.{length-set, length-replicate, get_or-set_same, get_or-set_other}
use Rattle.std.proofs.lemmas.Bool.Decides.{eqb_tells, nat_tests}
use Rattle.ac_base.specs.declared.ends.CoreEnd.{CoreEnd}
use Rattle.ac_base.specs.declared.entry.Entry.{Entry}
use Rattle.ac_base.specs.declared.entry.Stamped.{Stamped}
use Rattle.ac_links.specs.Link.{link_of, link_after}
use Rattle.ac_links.specs.Order.{stamp_of, is_of_link}
use Rattle.ac_links.specs.Views.{OwnerOffer, PeerDecision}
use Rattle.ac_links.specs.Combined.{link_after_all, combine}
use Rattle.ac_links.specs.AtRest.{has_front, OwnerHasNothing, PeerHasNothing}
use Rattle.ac_links.specs.Party.{LinkEnd, party_noted}
use Rattle.ac_links.proofs.Sorting.{filter_in_order}
use Rattle.ac_links.proofs.Resting.{owner_at_rest, peer_at_rest}
use Rattle.ac_history.specs.Merged.{all_from, merged}
use Rattle.ac_history.specs.History.{Past, link_at, terms_of, after, start}
use Rattle.ac_history.specs.Agreement.{InRange}
use Rattle.ac_history.specs.Network.{IsPeer}
use Rattle.ac_history.specs.Parties.{PartiesAgree, pair_of}
use Rattle.ac_history.specs.Quiet.{waits_on, after_all_of, CoreIsQuiet, IsQuiet, CoreRests, PartiesRest}
use Rattle.ac_history.proofs.Parts.{each_in_order}
use Rattle.ac_history.proofs.Whole.{first_of_same}
use Rattle.ac_history.proofs.Parties.{parties_agree}
use Rattle.ac_history.proofs.Runtime.{pair_ends}

-- ---- what a history leaves of a link

links_stay : (past : Past) (es : List Stamped) → length (after_all_of past es).links ≡ length past.links
links_stay past [] = refl
links_stay past (e ∷ es) =
    links_stay (after past e) es ∙ length-set past.links (link_of e.entry.event) (link_after (link_at past (link_of e.entry.event)) e.entry.stamp e.entry.event)

capacities_stay : (past : Past) (es : List Stamped) → (after_all_of past es).capacities ≡ past.capacities
capacities_stay past [] = refl
capacities_stay past (e ∷ es) = capacities_stay (after past e) es

channels_stay : (past : Past) (es : List Stamped) → (after_all_of past es).channels ≡ past.channels
channels_stay past [] = refl
channels_stay past (e ∷ es) = channels_stay (after past e) es

-- the entries of other links leave it as it is
link_after_history : (past : Past) (es : List Stamped) → InRange (length past.links) es → (l : ℕ)
    → link_at (after_all_of past es) l ≡ link_after_all (link_at past l) (filter (is_of_link l) es)
link_after_history past [] a l = refl
link_after_history past (e ∷ es) a l =
    let o = link_of e.entry.event in
    let new = link_after (link_at past o) e.entry.stamp e.entry.event in
    let rest = filter (is_of_link l) es in
    let ih : link_at (after_all_of (after past e) es) l ≡ link_after_all (link_at (after past e) l) rest = link_after_history (after past e) es
    (subst (λ n. InRange n es) (sym (length-set past.links o new)) a.1) l in
    let one : Bool → Type 0 = λ b. link_at (after_all_of (after past e) es) l ≡ link_after_all (link_at past l) (cond b (e ∷ rest) rest) in
    elim (eqb_tells o l) [
      | inl w ↦ subst one (sym w.0)
          (ih ∙ ap (λ os. link_after_all os rest)
          (subst (λ k. get_or (set past.links o new) k [] ≡ link_after (link_at past k) e.entry.stamp e.entry.event) w.1 (get_or-set_same past.links o new [] a.0)))
      | inr w ↦ subst one (sym w.0) (ih ∙ ap (λ os. link_after_all os rest) (get_or-set_other past.links o l new [] (λ q. w.1 (sym q))))
    ]

module _ (capacities widths : List ℕ) (cores : ℕ) (owner peer : ℕ → ℕ) (ends : ℕ → ℕ → LinkEnd) (offers : ℕ → List OwnerOffer) (decisions : ℕ → List PeerDecision) (js : List (List Entry))
    (all : PartiesAgree capacities cores owner peer ends offers decisions js) where
  abbrev last : Past
  last = after_all_of (start capacities widths cores) (merged js)

  many : length last.links ≡ length capacities
  many = links_stay (start capacities widths cores) (merged js) ∙ length-replicate (length capacities) []

  its_terms : (l : ℕ) → terms_of last.capacities last.channels l ≡ terms_of capacities (length capacities - cores) l
  its_terms l = ap (λ cs. terms_of cs last.channels l) (capacities_stay (start capacities widths cores) (merged js))
      ∙ ap (λ n. terms_of capacities n l) (channels_stay (start capacities widths cores) (merged js))

  in_range : InRange (length (start capacities widths cores).links) (merged js)
  in_range = subst (λ n. InRange n (merged js)) (sym (length-replicate (length capacities) []))
      (each_in_order stamp_of _ (all_from 0 js) (parties_agree capacities cores owner peer ends offers decisions js all).range)

  -- each link is what its two views make it
  its_link : (l : ℕ) → l < length capacities → link_at last l ≡ combine (offers l) (decisions l)
  its_link l h =
      let net = parties_agree capacities cores owner peer ends offers decisions js all in
      link_after_history (start capacities widths cores) (merged js) in_range l
      ∙ ap (λ os. link_after_all os (filter (is_of_link l) (merged js))) (first_of_same (length capacities) l [])
      ∙ ap (link_after_all []) (filter_in_order stamp_of (is_of_link l) (all_from 0 js))
      ∙ pair_ends capacities widths cores (λ p. party_noted (ends p)) (pair_of capacities cores owner peer offers decisions) js net l (net.pair l h)

  within : (l : ℕ) → l < length last.links → l < length capacities
  within l h = let e = many in omega arith

  core_at : (k : ℕ) (c : CoreEnd) → CoreRests capacities cores owner peer offers decisions k c → CoreIsQuiet owner peer last k c
  core_at k c r = record {
    stopped = r.stopped;
    owns = λ idle l h is.
        subst (λ t. OwnerHasNothing t (waits_on l c) (link_at last l)) (sym (its_terms l))
        (subst (OwnerHasNothing (terms_of capacities (length capacities - cores) l) (waits_on l c)) (sym (its_link l (within l h)))
        (owner_at_rest (terms_of capacities (length capacities - cores) l) (waits_on l c) (offers l) (decisions l) (r.owns idle l (within l h) is)));
    decides = λ idle l h is.
        subst (PeerHasNothing (waits_on l c)) (sym (its_link l (within l h)))
        (peer_at_rest (waits_on l c) (offers l) (decisions l) (all.both l (within l h)) (r.decides idle l (within l h) is));
  }

  its_peer : (l : ℕ) (requests : Bool) → requests ≡ true → IsPeer cores requests (peer l) → peer l ≡ cores
  its_peer l true e h = h
  its_peer l false e h = cc

  of_requests : (m n : ℕ) → m ≤ n → nat_le m n ≡ true
  of_requests m n h = grind (arith, nat_tests)

  pub parties_at_rest : (stops : List CoreEnd) → PartiesRest capacities cores owner peer offers decisions stops → IsQuiet owner peer last stops
  parties_at_rest stops rest = record {
    core = λ k c is. core_at k c (rest.core k c is);
    worker = λ l h from.
        let lt = within l h in
        let low : length capacities - cores ≤ l = subst (λ n. n ≤ l) (channels_stay (start capacities widths cores) (merged js)) from in
        let is = its_peer l (nat_le (length capacities - cores) l) (of_requests (length capacities - cores) l low) (all.kind l lt) in
        subst (λ os. has_front os ≡ false) (sym (its_link l lt)) (peer_at_rest true (offers l) (decisions l) (all.both l lt) (rest.worker l lt is) refl);
  }
