-- After a step of one seat, all that any seat knows is true. What the seat knows itself is shown where the step is; what the others know
-- was true before, and stays so by `Growth`. So the whole rule follows from the part that the step is about.
use Rattle.std.proofs.Common.{◌≡◌, ◌≢◌, ℕ, List, [], ◌∷◌, ◌++◌, length, set, Some, sym, refl, ◌∙◌, subst, ⊎_elim, arith}
use mathlib.Core.Option.{some}
use lib.ListN.{get_elem?}
use Rattle.atomic_table.specs.Table.{State}
use Rattle.atomic_table.proofs.Lists.{at_set}
use Rattle.completion_word.specs.declared.views.Owner.{Owner}
use Rattle.completion_word.specs.declared.views.Peer.{Peer}
use Rattle.completion_word.specs.declared.views.OwnerNote.{OwnerNote}
use Rattle.completion_word.specs.declared.views.PeerNote.{PeerNote}
use Rattle.completion_word.specs.declared.views.View.{View}
use Rattle.completion_word.specs.Link.{AreWords, Agreed, Told, StartsWith, owner_view, peer_view, no_view}
use Rattle.completion_word.specs.Rule.{Knows, WordRule}
use Rattle.completion_word.proofs.Lists.{at_push}
use Rattle.completion_word.proofs.Growth.{Grows, grows_same, told_grows, starts_same, starts-length}

-- ---- what one seat knows

-- what a seat knows stays true, if the side that changes is not its own
pub knows_more : (o o' : Owner) (p p' : Peer) (owner_seat peer_seat seat : ℕ) (v : View) → Grows o.offers o'.offers → StartsWith p'.decisions p.decisions → (seat ≡ owner_seat → o' ≡ o)
    → (seat ≡ peer_seat → p' ≡ p) → Knows o p owner_seat peer_seat seat v → Knows o' p' owner_seat peer_seat seat v
knows_more o o' p p' owner_seat peer_seat seat v grows starts owner peer h = record {
  of_owner = λ x is. let q = h.of_owner x is in (q.0, q.1 ∙ sym (owner q.0));
  of_peer = λ x is. let q = h.of_peer x is in (q.0, q.1 ∙ sym (peer q.0));
  of_owner_note = λ n is. let q = h.of_owner_note n is in (omega (arith, q.0, grows.more), omega (arith, q.1, starts-length p'.decisions p.decisions starts));
  of_peer_note = λ n is. told_grows n.decisions n.look n.told_offers o.offers o'.offers p.decisions p'.decisions grows starts (h.of_peer_note n is);
}

pub knows_owner : (o : Owner) (p : Peer) (owner_seat peer_seat seat : ℕ) → seat ≡ owner_seat → Knows o p owner_seat peer_seat seat (owner_view o)
knows_owner o p owner_seat peer_seat seat here = record {
  of_owner = λ (x : Owner) (is : (owner_view o).owner ≡ Some x). (here, cc);
  of_peer = λ (x : Peer) (is : (owner_view o).peer ≡ Some x). absurd (cc);
  of_owner_note = λ (n : OwnerNote) (is : (owner_view o).owner_note ≡ Some n). absurd (cc);
  of_peer_note = λ (n : PeerNote) (is : (owner_view o).peer_note ≡ Some n). absurd (cc);
}

pub knows_peer : (o : Owner) (p : Peer) (owner_seat peer_seat seat : ℕ) → seat ≡ peer_seat → Knows o p owner_seat peer_seat seat (peer_view p)
knows_peer o p owner_seat peer_seat seat here = record {
  of_owner = λ (x : Owner) (is : (peer_view p).owner ≡ Some x). absurd (cc);
  of_peer = λ (x : Peer) (is : (peer_view p).peer ≡ Some x). (here, cc);
  of_owner_note = λ (n : OwnerNote) (is : (peer_view p).owner_note ≡ Some n). absurd (cc);
  of_peer_note = λ (n : PeerNote) (is : (peer_view p).peer_note ≡ Some n). absurd (cc);
}

pub knows_nothing : (o : Owner) (p : Peer) (owner_seat peer_seat seat : ℕ) → Knows o p owner_seat peer_seat seat no_view
knows_nothing o p owner_seat peer_seat seat = record {
  of_owner = λ (x : Owner) (is : no_view.owner ≡ Some x). absurd (cc);
  of_peer = λ (x : Peer) (is : no_view.peer ≡ Some x). absurd (cc);
  of_owner_note = λ (n : OwnerNote) (is : no_view.owner_note ≡ Some n). absurd (cc);
  of_peer_note = λ (n : PeerNote) (is : no_view.peer_note ≡ Some n). absurd (cc);
}

-- what is said of a list of views stays true where one seat knows something else
pub seat_set : (o : Owner) (p : Peer) (owner_seat peer_seat id : ℕ) (w : View) (views : List View)
    → ((seat : ℕ) (v : View) → get_elem? views seat ≡ some v → seat ≢ id → Knows o p owner_seat peer_seat seat v) → Knows o p owner_seat peer_seat id w
    → (seat : ℕ) (v : View) → get_elem? (set views id w) seat ≡ some v → Knows o p owner_seat peer_seat seat v
seat_set o p owner_seat peer_seat id w views others knows seat v at = ⊎_elim
    (λ (q : (seat ≡ id) × (w ≡ v)). subst (λ (z : ℕ × View). Knows o p owner_seat peer_seat z.0 z.1) (λ i. (sym q.0 i, q.1 i)) knows)
    (λ (q : (seat ≢ id) × (get_elem? views seat ≡ some v)). others seat v q.1 q.0)
    (at_set views id seat w v at)

-- the same where a seat comes
pub seat_push : (o : Owner) (p : Peer) (owner_seat peer_seat : ℕ) (w : View) (views : List View) → ((seat : ℕ) (v : View) → get_elem? views seat ≡ some v → Knows o p owner_seat peer_seat seat v)
    → Knows o p owner_seat peer_seat (length views) w
    → (seat : ℕ) (v : View) → get_elem? (views ++ w ∷ []) seat ≡ some v → Knows o p owner_seat peer_seat seat v
seat_push o p owner_seat peer_seat w views before knows seat v at = ⊎_elim
    (λ (q : get_elem? views seat ≡ some v). before seat v q)
    (λ (q : (seat ≡ length views) × (w ≡ v)). subst (λ (z : ℕ × View). Knows o p owner_seat peer_seat z.0 z.1) (λ i. (sym q.0 i, q.1 i)) knows)
    (at_push views w v seat at)

module _ {S : Type 0} where
  -- the rule, with the view that a seat has written for the owner's or the peer's
  abbrev pub by_owner : (places : ℕ) (s : State S View) (h : WordRule places s) (x : Owner) → x ≡ h.owner → WordRule places s
  by_owner places s h x e = record {
    owner = x;
    peer = h.peer;
    owner_seat = h.owner_seat;
    peer_seat = h.peer_seat;
    some_place = h.some_place;
    words = subst (λ (o : Owner). AreWords places s.words o.offers h.peer.decisions) (sym e) h.words;
    agreed = subst (λ (o : Owner). Agreed places o h.peer) (sym e) h.agreed;
    told = subst (λ (o : Owner). Told o h.peer) (sym e) h.told;
    seats = λ seat v at. subst (λ (o : Owner). Knows o h.peer h.owner_seat h.peer_seat seat v) (sym e) (h.seats seat v at);
  }

  abbrev pub by_peer : (places : ℕ) (s : State S View) (h : WordRule places s) (x : Peer) → x ≡ h.peer → WordRule places s
  by_peer places s h x e = record {
    owner = h.owner;
    peer = x;
    owner_seat = h.owner_seat;
    peer_seat = h.peer_seat;
    some_place = h.some_place;
    words = subst (λ (p : Peer). AreWords places s.words h.owner.offers p.decisions) (sym e) h.words;
    agreed = subst (λ (p : Peer). Agreed places h.owner p) (sym e) h.agreed;
    told = subst (λ (p : Peer). Told h.owner p) (sym e) h.told;
    seats = λ seat v at. subst (λ (p : Peer). Knows h.owner p h.owner_seat h.peer_seat seat v) (sym e) (h.seats seat v at);
  }

  -- a step of the seat that has the owner's view
  pub owner_moves : (places : ℕ) (s : State S View) (h : WordRule places s) (id : ℕ) (y : Owner) (w : View) (ws : List ℕ) → id ≡ h.owner_seat → AreWords places ws y.offers h.peer.decisions
      → Agreed places y h.peer → Told y h.peer → Grows h.owner.offers y.offers
      → Knows y h.peer h.owner_seat h.peer_seat id w → WordRule places record { words = ws; homes = s.homes; views = set s.views id w }
  owner_moves places s h id y w ws mine words agreed told grows knows = record {
    owner = y;
    peer = h.peer;
    owner_seat = h.owner_seat;
    peer_seat = h.peer_seat;
    some_place = h.some_place;
    words = words;
    agreed = agreed;
    told = told;
    seats = seat_set y h.peer h.owner_seat h.peer_seat id w s.views
        (λ seat v at ne. knows_more h.owner y h.peer h.peer h.owner_seat h.peer_seat seat v grows (starts_same h.peer.decisions) (λ own. absurd (ne (own ∙ sym mine))) (λ _. refl) (h.seats seat v at))
        knows;
  }

  -- a step of the seat that has the peer's view
  pub peer_moves : (places : ℕ) (s : State S View) (h : WordRule places s) (id : ℕ) (y : Peer) (w : View) (ws : List ℕ) → id ≡ h.peer_seat → AreWords places ws h.owner.offers y.decisions
      → Agreed places h.owner y → Told h.owner y → StartsWith y.decisions h.peer.decisions
      → Knows h.owner y h.owner_seat h.peer_seat id w → WordRule places record { words = ws; homes = s.homes; views = set s.views id w }
  peer_moves places s h id y w ws mine words agreed told starts knows = record {
    owner = h.owner;
    peer = y;
    owner_seat = h.owner_seat;
    peer_seat = h.peer_seat;
    some_place = h.some_place;
    words = words;
    agreed = agreed;
    told = told;
    seats = seat_set h.owner y h.owner_seat h.peer_seat id w s.views
        (λ seat v at ne. knows_more h.owner h.owner h.peer y h.owner_seat h.peer_seat seat v (grows_same h.owner.offers) starts (λ _. refl) (λ own. absurd (ne (own ∙ sym mine))) (h.seats seat v at))
        knows;
  }
