-- How each side is told what the other knows, and what follows once both were told. A note is true as its seat's view is true, and stays so by
-- `Growth`. The peer is told first that all which the owner knew of is decided; so the list that the owner is told then is the whole one.
use Rattle.std.proofs.Common.{◌≡◌, ℕ, ◌+◌, ◌-◌, ◌<◌, ◌≤◌, List, [], ◌∷◌, length, get_or, set, Option, Some, None, zero, suc, true, false, cond, leb, le-leb, sym, refl, ap, ◌∙◌, subst, arith, le_refl}
use Rattle.std.specs.Option.{ForSome}
use mathlib.Core.Option.{some, none}
use lib.ListN.{get_elem?}
use Rattle.atomic_table.specs.Table.{Me, step, keeps, Allows, Splits, Joins}
use Rattle.atomic_table.proofs.Lists.{set_again}
use Rattle.completion_word.specs.declared.answers.Look.{Look}
use Rattle.completion_word.specs.declared.views.Offer.{Offer}
use Rattle.completion_word.specs.declared.views.Decision.{Decision}
use Rattle.completion_word.specs.declared.views.Owner.{Owner}
use Rattle.completion_word.specs.declared.views.Peer.{Peer}
use Rattle.completion_word.specs.declared.views.OwnerNote.{OwnerNote}
use Rattle.completion_word.specs.declared.views.PeerNote.{PeerNote}
use Rattle.completion_word.specs.declared.views.View.{View}
use Rattle.completion_word.specs.Link.{offer_at, decision_at, sighting, Answers, IsTrueLook, Agreed, Told, IsTold, StartsWith, owner_view, peer_view, no_view}
use Rattle.completion_word.specs.Rule.{Knows, WordRule}
use Rattle.completion_word.specs.Steps.{found_by, found_below, known_of, owner_note, seen_at, peer_note, owner_notes, peer_notes, notes_of}
use Rattle.completion_word.specs.Steps.{with_notes, owner_with, peer_with, longer, after_hearing, after_told, owner_after_meeting, AgreesAsTold, HearsOwner, HearsPeer, Checks}
use Rattle.completion_word.proofs.Growth.{grows_same, starts_same, starts-at, starts-length}
use Rattle.completion_word.proofs.Moves.{knows_owner, knows_peer, seat_set, seat_push, by_owner, by_peer, owner_moves, peer_moves}
use Rattle.completion_word.proofs.Sides.{spends, other_was}
use Rattle.completion_word.proofs.Allowed.{loaded}

-- ---- the offers found taken

found_by-some : (n : ℕ) (found : Option ℕ) (t : ℕ) → found ≡ Some t → 0 < found_by n found
found_by-some (suc n) found t is = omega arith
found_by-some zero (Some u) t is = omega arith
found_by-some zero None t is = absurd (cc)

found_by-more : (n k : ℕ) (found : Option ℕ) → k < n → suc k < found_by n found
found_by-more (suc n) k found l = omega arith
found_by-more zero k found l = absurd (omega arith)

-- each offer that was found taken is among them
pub found_under : (offers : List Offer) (k t : ℕ) → k < length offers → (offer_at offers k).found_taken ≡ Some t → k < found_below offers
found_under [] k t l is = absurd (omega arith)
found_under (x ∷ xs) zero t l is = found_by-some (found_below xs) x.found_taken t is
found_under (x ∷ xs) (suc k) t l is = found_by-more (found_below xs) k x.found_taken (found_under xs k t (omega arith) is)

found_by-least : (n r : ℕ) (found : Option ℕ) → n ≤ r - 1 → ForSome found (λ _. 0 < r) → found_by n found ≤ r
found_by-least (suc n) r found l h = omega arith
found_by-least zero r (Some t) l h = let pos = h t refl in omega arith
found_by-least zero r None l h = omega arith

-- and they are the least count
pub found_least : (offers : List Offer) (r : ℕ) → ((k : ℕ) → k < length offers → ForSome (offer_at offers k).found_taken (λ _. k < r)) → found_below offers ≤ r
found_least [] r h = omega arith
found_least (x ∷ xs) r h = found_by-least (found_below xs) r x.found_taken (found_least xs (r - 1) (λ k l t is. let later = h (suc k) (omega arith) t is in omega arith)) (h 0 (omega arith))

-- ---- notes

-- all that the owner knows of is decided
known_decided : (places : ℕ) (o : Owner) (p : Peer) → Agreed places o p → Told o p → known_of o ≤ length p.decisions
known_decided places o p h told =
    let learned = h.learned_decided in
    let found = found_least o.offers (length p.decisions) (λ k l t is. (h.found_true k l t is).0) in
    let told_ = starts-length p.decisions o.told told.of_peer.first in
    omega arith

-- a look that was true at the first offer that was not decided is true at the offer of its number
seen_true : (offers : List Offer) (number : ℕ) (seen : Option Look) → ForSome seen (IsTrueLook offers number) → ForSome (seen_at number seen) (λ s. IsTrueLook offers s.number s.look)
seen_true offers number None h s is = absurd (cc)
seen_true offers number (Some shown) h s is = let e : sighting number shown ≡ s = cc in subst (λ s'. IsTrueLook offers s'.number s'.look) e (h shown refl)

owner_notes-is : (x : Option Owner) (n : OwnerNote) → owner_notes x ≡ Some n → (o : Owner) × (x ≡ Some o) × (owner_note o ≡ n)
owner_notes-is None n is = absurd (cc)
owner_notes-is (Some o) n is = (o, refl, cc)

peer_notes-is : (x : Option Peer) (n : PeerNote) → peer_notes x ≡ Some n → (p : Peer) × (x ≡ Some p) × (peer_note p ≡ n)
peer_notes-is None n is = absurd (cc)
peer_notes-is (Some p) n is = (p, refl, cc)

-- the notes of what a seat knows are true
knows_notes : (places : ℕ) (o : Owner) (p : Peer) (owner_seat peer_seat seat other : ℕ) (v : View) → Agreed places o p → Told o p → Knows o p owner_seat peer_seat seat v
    → Knows o p owner_seat peer_seat other (notes_of v)
knows_notes places o p owner_seat peer_seat seat other v agreed told h = record {
  of_owner = λ (x : Owner) (is : (notes_of v).owner ≡ Some x). absurd (cc);
  of_peer = λ (x : Peer) (is : (notes_of v).peer ≡ Some x). absurd (cc);
  of_owner_note = λ n is.
      let from = owner_notes-is v.owner n is in
      let same : owner_note o ≡ n = ap owner_note (sym (h.of_owner from.0 from.1).1) ∙ from.2 in
      subst (λ (m : OwnerNote). (m.offered ≤ length o.offers) × (m.known ≤ length p.decisions)) same (le_refl (length o.offers), known_decided places o p agreed told);
  of_peer_note = λ n is.
      let from = peer_notes-is v.peer n is in
      let same : peer_note p ≡ n = ap peer_note (sym (h.of_peer from.0 from.1).1) ∙ from.2 in
      subst (λ (m : PeerNote). IsTold m.decisions m.look m.told_offers o.offers p.decisions) same record {
        of_peer = record { first = starts_same p.decisions; look_true = seen_true o.offers (length p.decisions) p.look agreed.look_true };
        of_owner = told.of_owner;
      };
}

-- a note is copied off a seat
pub tells : {S : Type 0} (places id : ℕ) (v : View) → Splits (WordRule {S = S} places) id v v (notes_of v)
tells {S} places id v s h at =
    let same = set_again s.views id v at in record {
      owner = h.owner;
      peer = h.peer;
      owner_seat = h.owner_seat;
      peer_seat = h.peer_seat;
      some_place = h.some_place;
      words = h.words;
      agreed = h.agreed;
      told = h.told;
      seats = seat_push h.owner h.peer h.owner_seat h.peer_seat (notes_of v) (set s.views id v)
          (λ seat u there. h.seats seat u (subst (λ (l : List View). get_elem? l seat ≡ some u) same there))
          (knows_notes places h.owner h.peer h.owner_seat h.peer_seat id (length (set s.views id v)) v h.agreed h.told (h.seats id v at));
    }

-- and joined to another seat
pub takes_in : {S : Type 0} (places id other : ℕ) (v w : View) → Joins (WordRule {S = S} places) id v other w (with_notes v w) no_view
takes_in {S} places id other v w s h at apart there =
    let mine = h.seats id v at in
    let note = h.seats other w (other_was s.views id other (with_notes v w) w apart there) in
    spends places record { words = s.words; homes = s.homes; views = set s.views id (with_notes v w) } other record {
      owner = h.owner;
      peer = h.peer;
      owner_seat = h.owner_seat;
      peer_seat = h.peer_seat;
      some_place = h.some_place;
      words = h.words;
      agreed = h.agreed;
      told = h.told;
      seats = seat_set h.owner h.peer h.owner_seat h.peer_seat id (with_notes v w) s.views (λ seat u within _. h.seats seat u within) record {
        of_owner = mine.of_owner;
        of_peer = mine.of_peer;
        of_owner_note = note.of_owner_note;
        of_peer_note = note.of_peer_note;
      };
    }

-- ---- told

pub hear_owner_allowed : {S : Type 0} (places slots id : ℕ) (me : Me S View) (x : Peer) (n : OwnerNote) → me ≡ (peer_with x n, [])
    → Allows (WordRule places) slots id me 0 (λ k. k) (HearsOwner (step slots 0 0 0 none) me)
hear_owner_allowed {S} places slots id me x n is = subst (λ (z : Me S View). Allows (WordRule places) slots id z 0 (λ k. k) (HearsOwner (step slots 0 0 0 none) z)) (sym is) inner
  where
    inner : Allows (WordRule places) slots id (peer_with x n, []) 0 (λ k. k) (HearsOwner (step {S = S} slots 0 0 0 none) (peer_with x n, []))
    inner s h _ at _ =
        let mine = (h.seats id (peer_with x n) at).of_peer x refl in
        let here = by_peer places s h x mine.1 in
        let note = (here.seats id (peer_with x n) at).of_owner_note n refl in
        let y = after_hearing n x in (
          peer_view y,
          keeps,
          tt,
          peer_moves places s here id y (peer_view y) (set s.words 0 (get_or s.words 0 0)) mine.0
              (loaded places s.words 0 h.owner.offers x.decisions here.words)
              here.agreed
              record { of_peer = here.told.of_peer; of_owner = omega (arith, note.0, here.told.of_owner) }
              (starts_same x.decisions)
              (knows_peer h.owner y h.owner_seat h.peer_seat id mine.0),
          (refl, note.1),
        )

longer_past : (told more : List Decision) (decisions : List Decision) → StartsWith decisions told → StartsWith decisions more → StartsWith decisions (longer told more)
longer_past told more decisions a b = elim (leb (length told) (length more)) as (λ q. StartsWith decisions (cond q more told)) [ true ↦ b | false ↦ a ]

pub hear_peer_allowed : {S : Type 0} (places slots id : ℕ) (me : Me S View) (x : Owner) (n : PeerNote) → me ≡ (owner_with x n, [])
    → Allows (WordRule places) slots id me 0 (λ k. k) (HearsPeer (step slots 0 0 0 none) me)
hear_peer_allowed {S} places slots id me x n is = subst (λ (z : Me S View). Allows (WordRule places) slots id z 0 (λ k. k) (HearsPeer (step slots 0 0 0 none) z)) (sym is) inner
  where
    inner : Allows (WordRule places) slots id (owner_with x n, []) 0 (λ k. k) (HearsPeer (step {S = S} slots 0 0 0 none) (owner_with x n, []))
    inner s h _ at _ =
        let mine = (h.seats id (owner_with x n) at).of_owner x refl in
        let here = by_owner places s h x mine.1 in
        let note = (here.seats id (owner_with x n) at).of_peer_note n refl in
        let y = after_told n x in (
          owner_view y,
          keeps,
          tt,
          owner_moves places s here id y (owner_view y) (set s.words 0 (get_or s.words 0 0)) mine.0
              (loaded places s.words 0 x.offers h.peer.decisions here.words)
              here.agreed
              record {
                of_peer = record { first = longer_past x.told n.decisions h.peer.decisions here.told.of_peer.first note.of_peer.first; look_true = note.of_peer.look_true };
                of_owner = here.told.of_owner;
              }
              (grows_same x.offers)
              (knows_owner y h.peer h.owner_seat h.peer_seat id mine.0),
          (refl, note.of_owner),
        )

-- ---- check

-- what the owner was told agrees with its own view
as_told : (places : ℕ) (o : Owner) (p : Peer) → Agreed places o p → Told o p → AgreesAsTold o
as_told places o p h told =
    let first = told.of_peer.first in
    let few = starts-length p.decisions o.told first in
    let decided = h.decided_offered in
    let same : (k : ℕ) → k < length o.told → decision_at p.decisions k ≡ decision_at o.told k = λ k l. starts-at p.decisions o.told k first l in record {
      decided_offered = omega arith;
      answered = λ k l. subst (λ (d : Decision). Answers (offer_at o.offers k) d) (same k l) (h.answered k (omega arith));
      learned_true = λ k l m. h.learned_true k l ∙ ap (λ (d : Decision). d.outcome) (same k m);
      found_true = λ k l m t is. ap (λ (d : Decision). d.outcome) (sym (same k m)) ∙ (h.found_true k l t is).1;
      offers_stamped = h.offers_stamped;
      withdrawals_stamped = h.withdrawals_stamped;
      counts_small = h.counts_small;
      look_true = told.of_peer.look_true;
    }

pub check_allowed : {S : Type 0} (places slots id : ℕ) (me : Me S View) (x : Owner) → me ≡ (owner_view x, []) → Allows (WordRule places) slots id me 0 (λ k. k) (Checks (step slots 0 0 0 none) me)
check_allowed {S} places slots id me x is = subst (λ (z : Me S View). Allows (WordRule places) slots id z 0 (λ k. k) (Checks (step slots 0 0 0 none) z)) (sym is) inner
  where
    inner : Allows (WordRule places) slots id (owner_view x, []) 0 (λ k. k) (Checks (step {S = S} slots 0 0 0 none) (owner_view x, []))
    inner s h _ at _ =
        let mine = (h.seats id (owner_view x) at).of_owner x refl in
        let here = by_owner places s h x mine.1 in (
          owner_view x,
          keeps,
          tt,
          owner_moves places s here id x (owner_view x) (set s.words 0 (get_or s.words 0 0)) mine.0 (loaded places s.words 0 x.offers h.peer.decisions here.words) here.agreed here.told
              (grows_same x.offers) (knows_owner x h.peer h.owner_seat h.peer_seat id mine.0),
          (refl, as_told places x h.peer here.agreed here.told),
        )

-- ---- a meeting

-- the longer list is the peer's own, if it decided all that the owner was told of
pub longer-all : (told decisions : List Decision) → length told ≤ length decisions → longer told decisions ≡ decisions
longer-all told decisions l = rw (le-leb (length told) (length decisions) l) refl

-- once the owner was told of all decisions and of the last look, and all that it knew of is decided, the two views agree
pub agree_met : (places : ℕ) (o : Owner) (p : Peer) → length o.offers ≤ length o.learned + places → known_of o ≤ length p.decisions → AgreesAsTold (owner_after_meeting p o) → Agreed places o p
agree_met places o p near known h = record {
  learned_decided = omega arith;
  decided_offered = h.decided_offered;
  offered_within = near;
  answered = h.answered;
  learned_true = λ k l. h.learned_true k l (omega arith);
  found_true = λ k l t is. let below : k < length p.decisions = omega (arith, found_under o.offers k t l is) in (below, h.found_true k l below t is);
  offers_stamped = h.offers_stamped;
  withdrawals_stamped = h.withdrawals_stamped;
  counts_small = h.counts_small;
  look_true = λ shown is. h.look_true (sighting (length p.decisions) shown) (ap (seen_at (length p.decisions)) is);
}

-- the two views after each side was told of the other
pub met : (places : ℕ) (o o1 o2 : Owner) (p p1 p2 : Peer) → o1 ≡ o → p1 ≡ after_hearing (owner_note o) p → o2 ≡ after_told (peer_note p1) o1 → p2 ≡ p1 → length o.offers ≤ length o.learned + places
    → known_of o ≤ length p.decisions → AgreesAsTold o2 → Agreed places o2 p2
met places o o1 o2 p p1 p2 same_owner heard told same_peer near known agrees =
    let whole : longer o.told p.decisions ≡ p.decisions = longer-all o.told p.decisions (omega arith) in
    let peer : p2 ≡ after_hearing (owner_note o) p = same_peer ∙ heard in
    let owner : o2 ≡ after_told (peer_note (after_hearing (owner_note o) p)) o = told ∙ (λ i. after_told (peer_note (heard i)) (same_owner i)) in
    let final : AgreesAsTold (owner_after_meeting p o) = subst (λ (ds : List Decision). AgreesAsTold (record o { told = ds; told_look = seen_at (length p.decisions) p.look })) whole
    (subst AgreesAsTold owner agrees) in
    subst (λ (z : Owner × Peer). Agreed places z.0 z.1) (λ i. (sym owner i, sym peer i)) (agree_met places o p near known final)
