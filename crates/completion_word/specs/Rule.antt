-- The word rule, which holds of a link's words and of the views of all its seats between any two atomic steps, whoever makes them.
use Rattle.std.specs.Prelude.{◌≡◌, ℕ, ◌<◌, ◌≤◌, length}
use Rattle.std.specs.Option.{ForSome}
use mathlib.Core.Option.{some}
use lib.ListN.{get_elem?}
use Rattle.atomic_table.specs.Table.{State}
use Rattle.completion_word.specs.declared.views.Owner.{Owner}
use Rattle.completion_word.specs.declared.views.Peer.{Peer}
use Rattle.completion_word.specs.declared.views.View.{View}
use Rattle.completion_word.specs.Link.{AreWords, Agreed, Told, IsTold}

-- What a seat knows is true. A seat that is spent knows nothing, and so is excepted
pub record Knows (owner : Owner) (peer : Peer) (owner_seat peer_seat seat : ℕ) (v : View) : Type 0 where
  -- one seat has the owner's view and one the peer's, and as the words are closed one seat has both
  pub of_owner : ForSome v.owner (λ o. (seat ≡ owner_seat) × (o ≡ owner))
  pub of_peer : ForSome v.peer (λ p. (seat ≡ peer_seat) × (p ≡ peer))
  -- the offers that a note of the owner counts were posted, and all that the owner knew of is decided
  pub of_owner_note : ForSome v.owner_note (λ n. (n.offered ≤ length owner.offers) × (n.known ≤ length peer.decisions))
  -- what a note of the peer says is true: its decisions are a prefix of the peer's, its look is true, and the peer was told of no more
  -- offers than there are
  pub of_peer_note : ForSome v.peer_note (λ n. IsTold n.decisions n.look n.told_offers owner.offers peer.decisions)

-- There are a view of the owner and a view of the peer that agree. The words say how their offers stand; what each was told of the other is
-- true; and so is what every seat knows
pub record WordRule {S : Type 0} (places : ℕ) (s : State S View) : Type 0 where
  pub owner : Owner
  pub peer : Peer
  pub owner_seat : ℕ
  pub peer_seat : ℕ
  pub some_place : 0 < places
  pub words : AreWords places s.words owner.offers peer.decisions
  pub agreed : Agreed places owner peer
  pub told : Told owner peer
  pub seats : (seat : ℕ) (v : View) → get_elem? s.views seat ≡ some v → Knows owner peer owner_seat peer_seat seat v
