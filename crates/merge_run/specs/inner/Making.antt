-- The parties of a merge as it begins, and their links.
use Rattle.std.specs.Prelude.{◌≡◌, ℕ, suc, ℤ, ◌<◌, List, [], ◌∷◌, ◌++◌, length, map, Some, slice_get}
use Rattle.completion_word.specs.declared.words.Words.{Words}
use Rattle.completion_word.specs.Link.{new_owner, new_peer}
use Rattle.completion_word.specs.Seats.{owner_of, peer_of, IsOwnerOf, IsPeerOf, places_of}
use Rattle.channel_ends.specs.Receiving.{Receiving}
use Rattle.channel_ends.specs.Settled.{AreEnds}
use Rattle.settled_rounds.specs.declared.party.Way.{Way}
use Rattle.ac_choice.specs.Relaying.{Relaying, Carries}
use Rattle.merge_run.specs.declared.making.Seats.{Seats}
use Rattle.merge_run.specs.declared.producer.Producer.{Producer}
use Rattle.merge_run.specs.declared.consumer.Consumer.{Consumer}
use Rattle.merge_run.specs.declared.party.MergeParty.{MergeParty}
use Rattle.merge_run.specs.declared.party.MergeParty.TheVariants.{Produces, Relays, Consumes}
use Rattle.merge_run.specs.inner.Parties.{IsProducing, IsConsuming}

-- words of a channel on which nothing was done, and their own seats
pub record IsUnused (words : Words) (seats : Seats) : Type 0 where
  pub places : places_of words ≡ 4
  pub owner_seat : IsOwnerOf seats.owner words
  pub peer_seat : IsPeerOf seats.peer words
  pub owner : owner_of seats.owner ≡ new_owner
  pub peer : peer_of seats.peer ≡ new_peer

pub record AreUnused (count : ℕ) (words : List Words) (seats : List Seats) : Type 0 where
  pub words_count : length words ≡ count
  pub seats_count : length seats ≡ count
  pub each : (k : ℕ) (w : Words) (s : Seats) → slice_get words k ≡ Some w → slice_get seats k ≡ Some s → IsUnused w s

-- the producer of this number, and the end that receives from it
pub record IsNewProducer (tag width count : ℕ) (p : Producer) (r : Receiving ℤ) : Type 0 where
  pub tag_is : p.tag ≡ tag
  pub width_is : p.width ≡ width
  pub count_is : p.count ≡ count
  pub going : IsProducing p
  pub pair : AreEnds p.end r
  pub undecided : (r.peer.decisions ≡ []) × (r.popped ≡ [])

-- the producers of the first numbers, and the ends that receive from them
pub record AreNewProducers (width count : ℕ) (ps : List Producer) (ins : List (Receiving ℤ)) : Type 0 where
  pub same_count : length ins ≡ length ps
  pub each : (k : ℕ) (p : Producer) (r : Receiving ℤ) → slice_get ps k ≡ Some p → slice_get ins k ≡ Some r → IsNewProducer k width count p r

-- so many producers, the relay and the consumer
pub record AreNewParties (width count : ℕ) (parties : List MergeParty) : Type 0 where
  pub producers : List Producer
  pub relay : Relaying
  pub consumer : Consumer
  pub are : parties ≡ map Produces producers ++ Relays relay ∷ Consumes consumer ∷ []
  pub producers_count : length producers ≡ width
  pub new : AreNewProducers width count producers relay.ins
  pub carries : Carries relay
  pub consumes : IsConsuming consumer
  pub out : AreEnds relay.out consumer.end

-- link k goes from producer k to the relay, and the last one from there to the consumer
pub record AreWaysOf (width : ℕ) (ways : List Way) : Type 0 where
  pub ways_count : length ways ≡ suc width
  pub each : (k : ℕ) → k < width → slice_get ways k ≡ Some (record { from = k; to = width })
  pub last : slice_get ways width ≡ Some (record { from = width; to = suc width })
