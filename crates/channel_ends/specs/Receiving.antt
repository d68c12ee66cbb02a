-- What contracts see of the receiving end of a pair: what it has decided, with the stamps of what that answers, and what it knows.
use Rattle.std.specs.Prelude.{◌≡◌, ◌≢◌, ℕ, ◌+◌, ◌≤◌, List, [], ◌∷◌, ◌++◌, length, Some, None, Bool, true, false}
use mathlib.Core.List.{IsPrefix}
use Rattle.ac_base.specs.Stamps.{stamp_after}
use Rattle.atomic_table.specs.Seated.{TableId}
use Rattle.completion_word.specs.declared.answers.Look.{Look}
use Rattle.completion_word.specs.declared.answers.Look.TheVariants as look
use Rattle.completion_word.specs.declared.views.DecisionKind.{DecisionKind}
use Rattle.completion_word.specs.declared.views.DecisionKind.TheVariants as outcome
use Rattle.completion_word.specs.declared.views.Peer.{Peer}
use Rattle.completion_word.specs.Link.{decision}
use Rattle.completion_word.specs.Steps.{look_of, stamp_shown}
use Rattle.core_channels.specs.declared.answers.Receiving.{Receiving as Received}
use Rattle.core_channels.specs.declared.answers.Receiving.TheVariants.{Took, Passed, Nothing, NotYet, ClockFull}
use Rattle.channel_ends.specs.Rings.{RingName}

-- a receiving end: its decisions, how often it has looked and what it saw, what it has taken out of the ring, one item for each decision,
-- and the items that it knows to be there
pub record Receiving (M : Type 0) : Type 0 where
  pub table : TableId
  pub ring : RingName
  pub peer : Peer
  pub popped : List M
  pub items : List M

-- the look saw an offer or a withdrawal
abbrev pub SawOne : Peer → Type 0
SawOne p = look_of p.saw ≢ look.Nothing

-- what was seen last, in a look or in an exchange that came too late, has a stamp after which none is left
pub record SawFull (last : ℕ) (p : Peer) : Type 0 where
  pub shown : Look
  pub last_look : p.look ≡ Some shown
  pub some : shown ≢ look.Nothing
  pub none : stamp_after last (stamp_shown shown) ≡ None

module _ {M : Type 0} where
  -- the end has made no decision, and knows of no item less
  pub record DecidesNone (old new : Receiving M) : Type 0 where
    pub table : new.table ≡ old.table
    pub ring : new.ring ≡ old.ring
    pub decisions : new.peer.decisions ≡ old.peer.decisions
    pub told : new.peer.told_offers ≡ old.peer.told_offers
    pub looks : new.peer.looks ≡ old.peer.looks + 1
    pub popped : new.popped ≡ old.popped
    pub items : IsPrefix old.items new.items

  -- one decision more, by an entry of stamp s which answers one of stamp `of`; and the next item is out of the ring
  pub record Decides (old : Receiving M) (last number : ℕ) (how : DecisionKind) (s : ℕ) (value : M) (new : Receiving M) : Type 0 where
    pub of : ℕ
    pub next : stamp_after last of ≡ Some s
    pub table : new.table ≡ old.table
    pub ring : new.ring ≡ old.ring
    pub number_is : number ≡ length old.peer.decisions
    pub decisions : new.peer.decisions ≡ old.peer.decisions ++ decision how of ∷ []
    pub told : new.peer.told_offers ≡ old.peer.told_offers
    pub looks : new.peer.looks ≡ old.peer.looks + 1
    pub popped : new.popped ≡ old.popped ++ value ∷ []
    pub items : IsPrefix old.items (value ∷ new.items)

  -- The answer to a peer whose last stamp is `last`, and its end after it. Of the first offer that is not decided; `Nothing` where the look
  -- of this call saw none, and no settling had told of one; `NotYet` where it saw one and no item was known
  abbrev pub Receives : Receiving M → ℕ → Received M → Receiving M → Type 0
  Receives old last (Took number value s) new = Decides old last number (outcome.Taken s) s value new
  Receives old last (Passed number s) new = (value : M) × Decides old last number (outcome.Passed s) s value new
  Receives old last Nothing new =
      DecidesNone old new × (look_of new.peer.saw ≡ look.Nothing) × (old.peer.told_offers ≤ length old.peer.decisions)
  Receives old last NotYet new = DecidesNone old new × SawOne new.peer × (old.items ≡ [])
  Receives old last ClockFull new = DecidesNone old new × SawFull last new.peer

  -- Whether a look alone saw an offer or a withdrawal
  abbrev pub Sees : Receiving M → Bool → Receiving M → Type 0
  Sees old true new = DecidesNone old new × SawOne new.peer
  Sees old false new =
      DecidesNone old new × (look_of new.peer.saw ≡ look.Nothing) × (old.peer.told_offers ≤ length old.peer.decisions)

  -- the peer's last stamp after the answer
  abbrev pub receiving_clock : ℕ → Received M → ℕ
  receiving_clock last (Took number value s) = s
  receiving_clock last (Passed number s) = s
  receiving_clock last Nothing = last
  receiving_clock last NotYet = last
  receiving_clock last ClockFull = last

  -- what was taken is what the ring allows after all that was taken out of it before
  abbrev pub IsAllowed : (List M → M → Type 0) → List M → Received M → Type 0
  IsAllowed allows popped (Took number value s) = allows popped value
  IsAllowed allows popped (Passed number s) = Unit {0}
  IsAllowed allows popped Nothing = Unit {0}
  IsAllowed allows popped NotYet = Unit {0}
  IsAllowed allows popped ClockFull = Unit {0}
