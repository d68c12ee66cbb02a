-- What several receiving ends answer, and what that makes of them.
use Rattle.std.specs.Prelude.{◌≡◌, ℕ, ◌<◌, ◌⊎◌, ◌++◌, List, [], ◌∷◌, length, Option, Some, None, IfSome, slice_get}
use Rattle.completion_word.specs.declared.views.Decision.{Decision}
use Rattle.core_channels.specs.declared.answers.Receiving.{Receiving as Received}
use Rattle.core_channels.specs.declared.answers.Receiving.TheVariants as received
use Rattle.channel_ends.specs.Receiving.{Receiving, Receives}
use Rattle.channel_ends.specs.Pairs.{IsSameRecv}
use Rattle.ac_choice.specs.declared.answers.Any.{Any}
use Rattle.ac_choice.specs.declared.answers.Any.TheVariants as any
use Rattle.ac_choice.specs.Turns.{turn}

-- what R says of element k of one list and element k of another
abbrev pub SoAt : {X : Type 0} → (X → X → Type 0) → List X → ℕ → List X → Type 0
SoAt {X} R old k new = (a b : X) → slice_get old k ≡ Some a → slice_get new k ≡ Some b → R a b

module _ {M : Type 0} where
  -- the look of the end in this call saw nothing
  abbrev pub SeesNothing : ℕ → Receiving M → Receiving M → Type 0
  SeesNothing last a b = Receives a last received.Nothing b

  -- or it saw an offer whose item was not known
  abbrev pub Waits : ℕ → Receiving M → Receiving M → Type 0
  Waits last a b = Receives a last received.NotYet b

  abbrev pub GivesNone : ℕ → Receiving M → Receiving M → Type 0
  GivesNone last a b = SeesNothing last a b ⊎ Waits last a b

  abbrev pub IsLeft : Receiving M → Receiving M → Type 0
  IsLeft a b = b ≡ a

  -- end e answers so, those before it in turn give none, and those after it are not asked
  pub record Answers (old : List (Receiving M)) (first last e : ℕ) (r : Received M) (new : List (Receiving M)) : Type 0 where
    pub count : length new ≡ length old
    pub within : e < length old
    pub answer : SoAt (λ a b. Receives a last r b) old e new
    pub before : (k : ℕ) → k < length old → turn (length old) first k < turn (length old) first e → SoAt (GivesNone last) old k new
    pub after : (k : ℕ) → k < length old → turn (length old) first e < turn (length old) first k → SoAt IsLeft old k new

  -- no end gives anything, and e is the first in turn that waits
  pub record WaitsAt (old : List (Receiving M)) (first last e : ℕ) (new : List (Receiving M)) : Type 0 where
    pub count : length new ≡ length old
    pub within : e < length old
    pub waits : SoAt (Waits last) old e new
    pub before : (k : ℕ) → k < length old → turn (length old) first k < turn (length old) first e → SoAt (SeesNothing last) old k new
    pub each : (k : ℕ) → k < length old → SoAt (GivesNone last) old k new

  pub record SeeNothing (old : List (Receiving M)) (last : ℕ) (new : List (Receiving M)) : Type 0 where
    pub count : length new ≡ length old
    pub each : (k : ℕ) → k < length old → SoAt (SeesNothing last) old k new

  -- the answer to a party whose last stamp is `last`, and the ends after it
  abbrev pub TakesAny : List (Receiving M) → ℕ → ℕ → Any M → List (Receiving M) → Type 0
  TakesAny old first last (any.Took e number value s) new = Answers old first last e (received.Took number value s) new
  TakesAny old first last (any.Passed e number s) new = Answers old first last e (received.Passed number s) new
  TakesAny old first last any.Nothing new = SeeNothing old last new
  TakesAny old first last (any.NotYet e) new = WaitsAt old first last e new
  TakesAny old first last any.ClockFull new = (e : ℕ) × Answers old first last e received.ClockFull new

  -- the party's last stamp after the answer
  abbrev pub any_clock : ℕ → Any M → ℕ
  any_clock last (any.Took e number value s) = s
  any_clock last (any.Passed e number s) = s
  any_clock last any.Nothing = last
  any_clock last (any.NotYet e) = last
  any_clock last any.ClockFull = last

  -- ---- which lists grow

  -- the end that makes a decision
  abbrev pub decided_end : Any M → Option ℕ
  decided_end (any.Took e number value s) = Some e
  decided_end (any.Passed e number s) = Some e
  decided_end any.Nothing = None
  decided_end (any.NotYet e) = None
  decided_end any.ClockFull = None

  -- one decision more, and one item more is out of the ring
  pub record DecidesOne (a b : Receiving M) : Type 0 where
    pub decision : Decision
    pub value : M
    pub decisions : b.peer.decisions ≡ a.peer.decisions ++ decision ∷ []
    pub popped : b.popped ≡ a.popped ++ value ∷ []

  abbrev pub SameList : Receiving M → Receiving M → Type 0
  SameList a b = (b.peer.decisions ≡ a.peer.decisions) × (b.popped ≡ a.popped)

  -- the end of this number, if any, makes one decision, and the others make none
  pub record DecidesAtMostOne (old : List (Receiving M)) (at : Option ℕ) (new : List (Receiving M)) : Type 0 where
    pub count : length new ≡ length old
    pub one : IfSome at (λ e. (e < length old) × SoAt DecidesOne old e new)
    pub others : (k : ℕ) → (at ≡ Some k → ⊥) → SoAt SameList old k new

  -- each is still an end of its pair
  pub record AreSameEnds (old new : List (Receiving M)) : Type 0 where
    pub count : length new ≡ length old
    pub each : (k : ℕ) → SoAt IsSameRecv old k new

  -- what was taken is what its ring allows after all that was taken out of it before
  abbrev pub IsAllowedAt : (List M → M → Type 0) → List (Receiving M) → Any M → Type 0
  IsAllowedAt allows old (any.Took e number value s) = (a : Receiving M) → slice_get old e ≡ Some a → allows a.popped value
  IsAllowedAt allows old (any.Passed e number s) = Unit {0}
  IsAllowedAt allows old any.Nothing = Unit {0}
  IsAllowedAt allows old (any.NotYet e) = Unit {0}
  IsAllowedAt allows old any.ClockFull = Unit {0}
