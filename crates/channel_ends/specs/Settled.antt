-- What holds of the two ends of a pair once each knows all that the other has done.
use Rattle.std.specs.Prelude.{◌≡◌, ℕ, suc, ◌+◌, ◌<◌, ◌≤◌, List, [], ◌∷◌, ◌++◌, length, Option, Some, None, Bool, true}
use Rattle.std.specs.Option.{ForSome}
use Rattle.std.specs.List.{All}
use Rattle.ac_base.specs.declared.entry.Payload.{Payload}
use Rattle.ac_links.specs.Payloads.{Taking, carries, is_payload}
use Rattle.ac_links.specs.Views.{OwnerOffer, PeerDecision}
use Rattle.core_channels.specs.LinkViews.{AreViews}
use Rattle.completion_word.specs.declared.answers.Look.{Look}
use Rattle.completion_word.specs.declared.answers.Look.TheVariants as look
use Rattle.completion_word.specs.declared.views.Decision.{Decision}
use Rattle.completion_word.specs.declared.views.DecisionKind.{DecisionKind}
use Rattle.completion_word.specs.declared.views.DecisionKind.TheVariants as outcome
use Rattle.completion_word.specs.Link.{Answered, decision_at}
use Rattle.channel_ends.specs.Sending.{MadeOffer, OwnerNotes, Sending, made_at, heard_of, capacity_of}
use Rattle.channel_ends.specs.Receiving.{Receiving}

-- the stamp of a decision
abbrev pub stamp_of : DecisionKind → ℕ
stamp_of (outcome.Taken t) = t
stamp_of (outcome.Passed t) = t

-- what a look at offer k showed is true of the offers
abbrev pub IsTrueOf : List MadeOffer → ℕ → Look → Type 0
IsTrueOf offers k (look.Offered t) = (k < length offers) × ((made_at offers k).stamp ≡ t)
IsTrueOf offers k (look.Withdrawn w) = (k < length offers) × ((made_at offers k).withdrawn ≡ Some w)
IsTrueOf offers k look.Nothing = Unit {0}

-- what the offers of one end and the decisions of the other say together
pub record AreOfOneLink (notes : OwnerNotes) (decisions : List Decision) (seen : Option Look) : Type 0 where
  pub decided_offered : length decisions ≤ length notes.offers
  -- a decision takes its offer, in answer to its stamp, or passes it where it is withdrawn, in answer to the withdrawal's
  pub answered : (k : ℕ) → k < length decisions
      → Answered (made_at notes.offers k).stamp (made_at notes.offers k).withdrawn (decision_at decisions k)
  pub withdrawn_later : (k : ℕ) → k < length notes.offers
      → ForSome (made_at notes.offers k).withdrawn (λ w. (made_at notes.offers k).stamp < w)
  -- each stamp that the owner knows or has heard of is that of the decision
  pub known_heard : (k : ℕ) → k < length notes.offers → ForSome (made_at notes.offers k).known (λ t. heard_of notes k ≡ Some t)
  pub heard_true : (k : ℕ) → k < length notes.offers
      → ForSome (heard_of notes k) (λ t. (k < length decisions) × (stamp_of (decision_at decisions k).outcome ≡ t))
  -- each stamp that the peer has seen of the next offer is that of the offer or of its withdrawal
  pub seen_true : ForSome seen (IsTrueOf notes.offers (length decisions))

-- what was taken, or nothing where the offer was passed
abbrev pub taking_by : Taking → DecisionKind → Option Taking
taking_by taken (outcome.Taken t) = Some taken
taking_by taken (outcome.Passed t) = None

module _ {M : Type 0} where
  -- the two are the ends of one pair
  abbrev pub AreEnds : Sending M → Receiving M → Type 0
  AreEnds send recv = (send.notes.table ≡ recv.table) × (send.ring ≡ recv.ring)

  -- what each end knows is told exactly
  pub record AreSettled (send : Sending M) (recv : Receiving M) : Type 0 where
    pub decisions_told : send.notes.told ≡ length recv.peer.decisions
    pub offers_told : recv.peer.told_offers ≡ length send.notes.offers
    -- what was taken out of the ring and what is in it are what was put in, one for each decision and one for each other offer
    pub in_order : recv.popped ++ recv.items ≡ send.payloads
    pub one_popped : length recv.popped ≡ length recv.peer.decisions
    pub one_sent : length send.payloads ≡ length send.notes.offers
    -- the sending end knows of every slot without an item
    pub free_slots : capacity_of send.notes + length recv.peer.decisions ≤ send.free + length send.notes.offers
    pub one_link : AreOfOneLink send.notes recv.peer.decisions recv.peer.look

  -- ---- as a link of a run

  -- the offers as the law on links has them, by what a message is there
  abbrev pub owner_offers : (M → Payload) → List M → List MadeOffer → List OwnerOffer
  owner_offers payload [] os = []
  owner_offers payload (x ∷ xs) [] = []
  owner_offers payload (x ∷ xs) (o ∷ os) =
      record { payload = payload x; stamp = o.stamp; withdrawn = o.withdrawn; known = o.known; reply = None } ∷ owner_offers payload xs os

  -- the decisions from number k on as the law on links has them, by what was taken at each number
  abbrev pub peer_decisions : (ℕ → M → Taking) → ℕ → List M → List Decision → List PeerDecision
  peer_decisions taking k [] ds = []
  peer_decisions taking k (x ∷ xs) [] = []
  peer_decisions taking k (x ∷ xs) (d ∷ ds) =
      record { value = taking_by (taking k x) d.outcome; stamp = stamp_of d.outcome; answers = d.answers }
      ∷ peer_decisions taking (suc k) xs ds

  -- a decision takes what its item carries: the message of a channel, or an answer to a request
  abbrev pub IsTakenAs : (M → Payload) → (ℕ → M → Taking) → ℕ → M → DecisionKind → Type 0
  IsTakenAs payload taking k x (outcome.Taken t) = carries (taking k x) (payload x) ≡ true
  IsTakenAs payload taking k x (outcome.Passed t) = Unit {0}

  abbrev pub AreTakenAs : (M → Payload) → (ℕ → M → Taking) → ℕ → List M → List Decision → Type 0
  AreTakenAs payload taking k [] ds = Unit {0}
  AreTakenAs payload taking k (x ∷ xs) [] = Unit {0}
  AreTakenAs payload taking k (x ∷ xs) (d ∷ ds) = IsTakenAs payload taking k x d.outcome × AreTakenAs payload taking (suc k) xs ds

  -- the two lists together are those of one legal link, whatever it carries
  abbrev pub MakeALink : Sending M → Receiving M → Type 0
  MakeALink send recv = (requests : Bool) (payload : M → Payload) (taking : ℕ → M → Taking)
      → All (λ x. is_payload requests (payload x) ≡ true) send.payloads
      → AreTakenAs payload taking 0 recv.popped recv.peer.decisions
      → AreViews requests (owner_offers payload send.payloads send.notes.offers)
      (peer_decisions taking 0 recv.popped recv.peer.decisions)
