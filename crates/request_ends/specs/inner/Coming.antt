-- The replies to the requests of a core as they come to it, from the fields of its inbox.
use Rattle.std.specs.Prelude.{◌≡◌, ℕ, ◌+◌, ◌-◌, ◌<◌, ◌⊎◌, List, [], ◌∷◌, ◌++◌, length, Option, Some, None, take, map, slice_get}
use mathlib.Core.List.{IsPrefix}
use Rattle.ac_links.specs.Views.{Response}
use Rattle.rtrb.specs.Ring.{received, known_items}
use Rattle.channel_ends.specs.Rings.{RingName}
use Rattle.request_ends.specs.declared.inbox.Inbox.TheInside.{Inside}
use Rattle.request_ends.specs.declared.replying.Reply.{Reply}
use Rattle.request_ends.specs.Replying.{response_of}
use Rattle.request_ends.specs.Rings.{ring_of}

-- those that were handed on, those that were gathered, and those that are known to be on the ring
pub record Coming : Type 0 where
  pub ring : RingName
  pub had : List Response
  pub gathered : List Response
  pub items : List Response

-- what was taken off the ring and is gathered no more
abbrev pub handed_on : Inside → List Reply
handed_on it = take (length (received it.ring) - length it.gathered.items) (received it.ring)

abbrev pub coming_of : Inside → Coming
coming_of it = record {
  ring = ring_of it.ring.end;
  had = map response_of (handed_on it);
  gathered = map response_of it.gathered.items;
  items = map response_of (known_items it.ring);
}

-- what is gathered was taken off the ring last
abbrev pub IsComing : Inside → Type 0
IsComing it = handed_on it ++ it.gathered.items ≡ received it.ring

-- the reply that comes next
abbrev pub first_of : Coming → Option Response
first_of c = slice_get (c.gathered ++ c.items) 0

abbrev pub stamp_of : Option Response → Option ℕ
stamp_of None = None
stamp_of (Some r) = Some r.of

-- a look may show more on the ring
pub record LooksOnly (old new : Coming) : Type 0 where
  pub ring : new.ring ≡ old.ring
  pub had : new.had ≡ old.had
  pub gathered : new.gathered ≡ old.gathered
  pub items : IsPrefix old.items new.items

abbrev pub MayPop : Coming → Type 0
MayPop c = 0 < length c.gathered + length c.items

-- the first of those that were gathered, or where there is none of those on the ring
pub record PopsNext (old : Coming) (r : Response) (new : Coming) : Type 0 where
  pub ring : new.ring ≡ old.ring
  pub had : new.had ≡ old.had ++ r ∷ []
  pub rest : ((old.gathered ≡ r ∷ new.gathered) × (new.items ≡ old.items))
      ⊎ ((old.gathered ≡ []) × (new.gathered ≡ []) × (old.items ≡ r ∷ new.items))

-- some of those on the ring are gathered
pub record HasGathered (old new : Coming) : Type 0 where
  pub ring : new.ring ≡ old.ring
  pub had : new.had ≡ old.had
  pub all : new.gathered ++ new.items ≡ old.gathered ++ old.items

-- the same, after a look
pub record HasMet (old new : Coming) : Type 0 where
  pub ring : new.ring ≡ old.ring
  pub had : new.had ≡ old.had
  pub all : IsPrefix (old.gathered ++ old.items) (new.gathered ++ new.items)
