-- The parties of a merge: what holds of each, and what their calls leave as it was.
use Rattle.std.specs.Prelude.{◌≡◌, ℕ, ℤ, ◌<◌, ◌≤◌, List, length, Option, Some, None, slice_get}
use mathlib.Core.List.{IsPrefix}
use Rattle.core_channels.specs.declared.answers.Receiving.{Receiving as Received}
use Rattle.core_channels.specs.declared.answers.Receiving.TheVariants as received
use Rattle.channel_ends.specs.Sending.{Sending, AreWithin}
use Rattle.channel_ends.specs.Receiving.{Receiving}
use Rattle.channel_ends.specs.Settled.{AreEnds}
use Rattle.channel_ends.specs.Pairs.{IsSameSend, IsSameRecv}
use Rattle.ac_choice.specs.AnyOf.{SoAt}
use Rattle.ac_choice.specs.declared.answers.Tagged.{Tagged}
use Rattle.ac_choice.specs.Relaying.{Relaying, Carries, taken_by}
use Rattle.ac_choice.specs.Steps.{IsSameRelay}
use Rattle.merge_run.specs.Series.{series}
use Rattle.merge_run.specs.declared.producer.Producer.{Producer}
use Rattle.merge_run.specs.declared.consumer.Consumer.{Consumer}
use Rattle.merge_run.specs.declared.party.MergeParty.{MergeParty}
use Rattle.merge_run.specs.declared.party.MergeParty.TheVariants.{Produces, Relays, Consumes}

-- ---- a producer

-- so many were sent of so many numbers, which are small
pub record IsNumbered (sent count width tag : ℕ) : Type 0 where
  pub sent_most : sent ≤ count
  pub count_most : count ≤ 10000
  pub width_most : width ≤ 8
  pub tag_most : tag < width

-- what it has offered are the first of its numbers
pub record IsProducing (p : Producer) : Type 0 where
  pub numbers : IsNumbered p.sent p.count p.width p.tag
  pub payloads : p.end.payloads ≡ series p.sent p.width p.tag
  pub within : AreWithin p.clock p.end.notes.offers

pub record IsSameProducer (p q : Producer) : Type 0 where
  pub end : IsSameSend p.end q.end
  pub tag : q.tag ≡ p.tag
  pub width : q.width ≡ p.width
  pub count : q.count ≡ p.count

-- ---- the consumer

-- it has kept what it has taken
pub record IsConsuming (c : Consumer) : Type 0 where
  pub received : c.received.items ≡ taken_by c.end.popped c.end.peer.decisions
  pub one_each : length c.end.popped ≡ length c.end.peer.decisions

-- what an answer hands out
abbrev pub taken_value : Received Tagged → Option Tagged
taken_value (received.Took number value s) = Some value
taken_value (received.Passed number s) = None
taken_value received.Nothing = None
taken_value received.NotYet = None
taken_value received.ClockFull = None

-- ---- any party

abbrev pub clock_of : MergeParty → ℕ
clock_of (Produces p) = p.clock
clock_of (Relays r) = r.clock
clock_of (Consumes c) = c.clock

-- what holds of it at any time
abbrev pub IsGoing : MergeParty → Type 0
IsGoing (Produces p) = IsProducing p
IsGoing (Relays r) = Carries r
IsGoing (Consumes c) = IsConsuming c

-- it is the same party after some calls
abbrev pub IsLater : MergeParty → MergeParty → Type 0
IsLater (Produces p) (Produces q) = IsSameProducer p q × (IsProducing p → IsProducing q)
IsLater (Produces p) (Relays s) = ⊥
IsLater (Produces p) (Consumes d) = ⊥
IsLater (Relays r) (Produces q) = ⊥
IsLater (Relays r) (Relays s) = IsSameRelay r s × (Carries r → Carries s)
IsLater (Relays r) (Consumes d) = ⊥
IsLater (Consumes c) (Produces q) = ⊥
IsLater (Consumes c) (Relays s) = ⊥
IsLater (Consumes c) (Consumes d) = IsSameRecv c.end d.end × (IsConsuming c → IsConsuming d)

-- ---- two parties, of which the first sends on link l

abbrev pub AreEndsAt : Sending ℤ → Option (Receiving ℤ) → Type 0
AreEndsAt send None = ⊥
AreEndsAt send (Some recv) = AreEnds send recv

-- the producer of number l, and the relay; or the relay and the consumer
abbrev pub HaveEnds : ℕ → MergeParty → MergeParty → Type 0
HaveEnds l (Produces p) (Produces q) = ⊥
HaveEnds l (Produces p) (Relays s) = AreEndsAt p.end (slice_get s.ins l)
HaveEnds l (Produces p) (Consumes d) = ⊥
HaveEnds l (Relays r) (Produces q) = ⊥
HaveEnds l (Relays r) (Relays s) = ⊥
HaveEnds l (Relays r) (Consumes d) = AreEnds r.out d.end
HaveEnds l (Consumes c) q = ⊥

abbrev pub IsPrefixAt : Option (Receiving ℤ) → List ℤ → Type 0
IsPrefixAt None xs = ⊥
IsPrefixAt (Some recv) xs = IsPrefix recv.popped xs

-- what came out of the ring is the first of what went in
abbrev pub AreSettledAt : ℕ → MergeParty → MergeParty → Type 0
AreSettledAt l (Produces p) (Produces q) = ⊥
AreSettledAt l (Produces p) (Relays s) = IsPrefixAt (slice_get s.ins l) p.end.payloads
AreSettledAt l (Produces p) (Consumes d) = ⊥
AreSettledAt l (Relays r) (Produces q) = ⊥
AreSettledAt l (Relays r) (Relays s) = ⊥
AreSettledAt l (Relays r) (Consumes d) = IsPrefix d.end.popped r.out.payloads
AreSettledAt l (Consumes c) q = ⊥

-- ---- what a settling leaves

abbrev pub HasPopped : Receiving ℤ → Receiving ℤ → Type 0
HasPopped a b = b.popped ≡ a.popped

pub record KeepsRelay (r s : Relaying) : Type 0 where
  pub count : length s.ins ≡ length r.ins
  pub ins : (k : ℕ) → SoAt HasPopped r.ins k s.ins
  pub out : s.out.payloads ≡ r.out.payloads

-- what went into each ring, and what came out
abbrev pub KeepsLists : MergeParty → MergeParty → Type 0
KeepsLists (Produces p) (Produces q) = q.end.payloads ≡ p.end.payloads
KeepsLists (Produces p) (Relays s) = ⊥
KeepsLists (Produces p) (Consumes d) = ⊥
KeepsLists (Relays r) (Produces q) = ⊥
KeepsLists (Relays r) (Relays s) = KeepsRelay r s
KeepsLists (Relays r) (Consumes d) = ⊥
KeepsLists (Consumes c) (Produces q) = ⊥
KeepsLists (Consumes c) (Relays s) = ⊥
KeepsLists (Consumes c) (Consumes d) = d.end.popped ≡ c.end.popped

-- ---- once the ends of link l were settled

-- the two are the same parties, they have made no entry, and what came out of the ring is the first of what went in
pub record HaveMet (l : ℕ) (p q p' q' : MergeParty) : Type 0 where
  pub owner : IsLater p p' × (clock_of p' ≡ clock_of p) × KeepsLists p p'
  pub peer : IsLater q q' × (clock_of q' ≡ clock_of q) × KeepsLists q q'
  pub settled : AreSettledAt l p' q'
