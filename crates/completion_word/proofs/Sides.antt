-- How the two sides of a link part, tell each other what they know, and meet. No word changes, and neither do the two views: only which seat
-- has them. At the end the views that are in hand are those of the rule, so what it says of them is told.
use Rattle.std.proofs.Common.{◌≡◌, ◌≢◌, ℕ, ◌<◌, List, [], ◌∷◌, length, get_or, set, replicate, Some, zero, suc, sym, refl, ap, ◌∙◌, subst, ⊎_elim, arith}
use Rattle.std.proofs.lemmas.List.{get_or-replicate, length-replicate}
use mathlib.Core.Option.{some, some-injective, some-ne-none}
use lib.ListN.{get_elem?}
use Rattle.atomic_table.specs.Table.{State, opening, Splits, Joins, Final, Seen}
use Rattle.atomic_table.proofs.Lists.{at_set}
use Rattle.completion_word.specs.declared.views.Owner.{Owner}
use Rattle.completion_word.specs.declared.views.Peer.{Peer}
use Rattle.completion_word.specs.declared.views.OwnerNote.{OwnerNote}
use Rattle.completion_word.specs.declared.views.PeerNote.{PeerNote}
use Rattle.completion_word.specs.declared.views.View.{View}
use Rattle.completion_word.specs.Link.{Agreed, Told, owner_view, peer_view, both_views, no_view, new_owner, new_peer}
use Rattle.completion_word.specs.Rule.{Knows, WordRule}
use Rattle.completion_word.specs.inner.Parts.{owner_part, peer_part, both_parts}
use Rattle.completion_word.proofs.Moves.{knows_owner, knows_peer, knows_nothing, seat_set, seat_push}
use Rattle.completion_word.proofs.Growth.{starts_same}

-- ---- make

pub opens : {S : Type 0} (places : ℕ) (ws : List ℕ) → 0 < places → ws ≡ replicate places 0 → WordRule {S = S} places (opening ws [] (both_views new_owner new_peer))
opens {S} places ws some_place zeros = record {
  owner = new_owner;
  peer = new_peer;
  owner_seat = 0;
  peer_seat = 0;
  some_place = some_place;
  words = record {
    one_each = ap length zeros ∙ length-replicate places 0;
    undecided = λ k l. absurd (omega arith);
    decided = λ k l. absurd (omega arith);
    unused = λ k _ l. ap (λ (xs : List ℕ). get_or xs k 0) zeros ∙ get_or-replicate places k 0 0 l;
  };
  agreed = record {
    learned_decided = omega arith;
    decided_offered = omega arith;
    offered_within = omega arith;
    answered = λ k l. absurd (omega arith);
    learned_true = λ k l. absurd (omega arith);
    found_true = λ k l. absurd (omega arith);
    offers_stamped = λ k l. absurd (omega arith);
    withdrawals_stamped = λ k l. absurd (omega arith);
    counts_small = (omega arith, omega arith);
    look_true = λ k none_. absurd (cc);
  };
  told = record { of_peer = record { first = starts_same []; look_true = λ k none_. absurd (cc) }; of_owner = omega arith };
  seats = one;
}
  where
    one : (seat : ℕ) (v : View) → get_elem? (both_views new_owner new_peer ∷ []) seat ≡ some v → Knows new_owner new_peer 0 0 seat v
    one zero v e = subst (Knows new_owner new_peer 0 0 0) (some-injective (both_views new_owner new_peer) v e) record {
      of_owner = λ (x : Owner) (is : (both_views new_owner new_peer).owner ≡ Some x). (refl, cc);
      of_peer = λ (x : Peer) (is : (both_views new_owner new_peer).peer ≡ Some x). (refl, cc);
      of_owner_note = λ (n : OwnerNote) (is : (both_views new_owner new_peer).owner_note ≡ Some n). absurd (cc);
      of_peer_note = λ (n : PeerNote) (is : (both_views new_owner new_peer).peer_note ≡ Some n). absurd (cc);
    }
    one (suc seat) v e = absurd (some-ne-none v (sym e))

-- ---- split

-- the seat keeps the owner's view, and a new one has the peer's
pub splits : {S : Type 0} (places id : ℕ) (v : View) (o : Owner) (p : Peer) → v ≡ both_views o p → Splits (WordRule {S = S} places) id v (owner_part v) (peer_part v)
splits {S} places id v o p is = subst (λ (u : View). Splits (WordRule {S = S} places) id u (owner_part u) (peer_part u)) (sym is) inner
  where
    inner : Splits (WordRule {S = S} places) id (both_views o p) (owner_view o) (peer_view p)
    inner s h at =
        let mine = h.seats id (both_views o p) at in
        let own = mine.of_owner o refl in
        let its = mine.of_peer p refl in
        let most = set s.views id (owner_view o) in
        let other = length most in record {
          owner = h.owner;
          peer = h.peer;
          owner_seat = h.owner_seat;
          peer_seat = other;
          some_place = h.some_place;
          words = h.words;
          agreed = h.agreed;
          told = h.told;
          seats = seat_push h.owner h.peer h.owner_seat other (peer_view p) most
              (seat_set h.owner h.peer h.owner_seat other id (owner_view o) s.views
              (λ seat u there ne. let f = h.seats seat u there in record {
                of_owner = f.of_owner;
                of_peer = λ (x : Peer) (n : u.peer ≡ Some x). absurd (ne ((f.of_peer x n).0 ∙ sym its.0));
                of_owner_note = f.of_owner_note;
                of_peer_note = f.of_peer_note;
              })
              (subst (λ (x : Owner). Knows h.owner h.peer h.owner_seat other id (owner_view x)) (sym own.1) (knows_owner h.owner h.peer h.owner_seat other id own.0)))
              (subst (λ (x : Peer). Knows h.owner h.peer h.owner_seat other other (peer_view x)) (sym its.1) (knows_peer h.owner h.peer h.owner_seat other other refl));
        }

-- ---- join

-- a seat that is spent knows nothing
pub spends : {S : Type 0} (places : ℕ) (s : State S View) (other : ℕ) → WordRule places s → WordRule places record { words = s.words; homes = s.homes; views = set s.views other no_view }
spends {S} places s other h = record {
  owner = h.owner;
  peer = h.peer;
  owner_seat = h.owner_seat;
  peer_seat = h.peer_seat;
  some_place = h.some_place;
  words = h.words;
  agreed = h.agreed;
  told = h.told;
  seats = seat_set h.owner h.peer h.owner_seat h.peer_seat other no_view s.views (λ seat u at _. h.seats seat u at) (knows_nothing h.owner h.peer h.owner_seat h.peer_seat other);
}

-- what the other seat knew before this one changed
pub other_was : {X : Type 0} (xs : List X) (id other : ℕ) (x w : X) → ¬ (other ≡ id) → get_elem? (set xs id x) other ≡ some w → get_elem? xs other ≡ some w
other_was xs id other x w apart there = ⊎_elim (λ (q : (other ≡ id) × (x ≡ w)). absurd (apart q.0)) (λ (q : (other ≢ id) × (get_elem? xs other ≡ some w)). q.1) (at_set xs id other x w there)

-- as the words are closed, one seat has both views
pub joins : {S : Type 0} (places id other : ℕ) (v w : View) (o : Owner) (p : Peer) → v ≡ owner_view o → w ≡ peer_view p → Joins (WordRule {S = S} places) id v other w (both_parts v w) no_view
joins {S} places id other v w o p is its =
    subst (λ (z : View × View). Joins (WordRule {S = S} places) id z.0 other z.1 (both_parts z.0 z.1) no_view) (λ i. (sym is i, sym its i)) inner
  where
    inner : Joins (WordRule {S = S} places) id (owner_view o) other (peer_view p) (both_views o p) no_view
    inner s h at apart there =
        let most = set s.views id (both_views o p) in
        let own = (h.seats id (owner_view o) at).of_owner o refl in
        let before = (h.seats other (peer_view p) (other_was s.views id other (both_views o p) (peer_view p) apart there)).of_peer p refl in
        let spent = seat_set h.owner h.peer h.owner_seat id other no_view most in record {
          owner = h.owner;
          peer = h.peer;
          owner_seat = h.owner_seat;
          peer_seat = id;
          some_place = h.some_place;
          words = h.words;
          agreed = h.agreed;
          told = h.told;
          seats = spent
              (λ seat u within ne. ⊎_elim
              (λ (q : (seat ≡ id) × (both_views o p ≡ u)). subst (λ (z : View). Knows h.owner h.peer h.owner_seat id seat z) q.1 record {
                of_owner = λ (x : Owner) (n : (both_views o p).owner ≡ Some x). (q.0 ∙ own.0, let same : o ≡ x = cc in sym same ∙ own.1);
                of_peer = λ (x : Peer) (n : (both_views o p).peer ≡ Some x). (q.0, let same : p ≡ x = cc in sym same ∙ before.1);
                of_owner_note = λ (x : OwnerNote) (n : (both_views o p).owner_note ≡ Some x). absurd (cc);
                of_peer_note = λ (x : PeerNote) (n : (both_views o p).peer_note ≡ Some x). absurd (cc);
              })
              (λ (q : (seat ≢ id) × (get_elem? s.views seat ≡ some u)). let f = h.seats seat u q.1 in record {
                of_owner = f.of_owner;
                of_peer = λ (x : Peer) (n : u.peer ≡ Some x). absurd (ne ((f.of_peer x n).0 ∙ sym before.0));
                of_owner_note = f.of_owner_note;
                of_peer_note = f.of_peer_note;
              })
              (at_set s.views id seat (both_views o p) u within))
              (knows_nothing h.owner h.peer h.owner_seat id other);
        }

-- at the end the two views in the one seat are those of the rule
pub ends : {S : Type 0} (places id : ℕ) (v : View) (o : Owner) (p : Peer) (ws : List ℕ) (xs : List S) → v ≡ both_views o p → Final (Seen (WordRule places) id v) ws xs → Agreed places o p × Told o p
ends {S} places id v o p ws xs is (s, h, words, _, _) =
    let f = h.0.seats id v h.1 in
    let own = (f.of_owner o (ap (λ (z : View). z.owner) is)).1 in
    let its = (f.of_peer p (ap (λ (z : View). z.peer) is)).1 in
    subst (λ (z : Owner × Peer). Agreed places z.0 z.1 × Told z.0 z.1) (λ i. (sym own i, sym its i)) (h.0.agreed, h.0.told)
