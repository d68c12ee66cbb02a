-- What a look for a reply is answered, and how replies are gathered.
use Rattle.std.specs.Prelude.{◌≡◌, ◌⊎◌, ◌≤◌, ℕ, [], ◌∷◌, ◌++◌, Some, None, slice_get}
use mathlib.Core.List.{IsPrefix}
use Rattle.ac_base.specs.Stamps.{stamp_after}
use Rattle.ac_links.specs.Views.{Response, altered, replied_with}
use Rattle.ac_links.specs.Replies.{least_open}
use Rattle.request_ends.specs.declared.asking.Replied.{Replied}
use Rattle.request_ends.specs.declared.asking.Replied.TheVariants.{Reply, Nothing, ClockFull}
use Rattle.request_ends.specs.Asking.{Asking, requests_of}
use Rattle.request_ends.specs.Replying.{Replying}

-- it may know of more on the ring, and all else is as it was
pub record OnlyLooks (old new : Asking) : Type 0 where
  pub rest : new ≡ record old { items = new.items }
  pub items : IsPrefix old.items new.items

-- the core has had this one: the first that was gathered, or where there was none the first on the ring
pub record HasReply (old : Asking) (r : Response) (new : Asking) : Type 0 where
  pub rest : new ≡ record old { replies = new.replies; gathered = new.gathered; items = new.items; places = new.places }
  pub replies : new.replies ≡ old.replies ++ r ∷ []
  pub waiting : ((old.gathered ≡ r ∷ new.gathered) × IsPrefix old.items new.items)
      ⊎ ((old.gathered ≡ []) × (new.gathered ≡ []) × IsPrefix old.items (r ∷ new.items))
  -- it belongs to the least request that is neither withdrawn nor replied
  pub list : requests_of new ≡ altered (requests_of old) (least_open (requests_of old)) (replied_with r.answer r.of)

-- The answer to a core whose last stamp is `last`. `Nothing` where none was gathered and the end knew of none on the ring; `ClockFull`
-- where no stamp is left after that of the reply which comes next
abbrev pub Replies : Asking → ℕ → Replied → Asking → Type 0
Replies old last (Reply number answer s) new = (of : ℕ) × (stamp_after last of ≡ Some s) × (number ≡ least_open (requests_of old))
    × HasReply old (record { answer = answer; of = of }) new
Replies old last Nothing new = (old.gathered ≡ []) × (old.items ≡ []) × OnlyLooks old new
Replies old last ClockFull new = (r : Response) × (slice_get (new.gathered ++ new.items) 0 ≡ Some r) × (stamp_after last r.of ≡ None)
    × OnlyLooks old new

abbrev pub replied_clock : ℕ → Replied → ℕ
replied_clock last (Reply number answer s) = s
replied_clock last Nothing = last
replied_clock last ClockFull = last

-- some of the replies on the ring are gathered and none is lost, and there may be more places
pub record Gathers (old new : Asking) : Type 0 where
  pub rest : new ≡ record old { gathered = new.gathered; items = new.items; places = new.places }
  pub all : new.gathered ++ new.items ≡ old.gathered ++ old.items
  pub places : old.places ≤ new.places

-- all that was put on the ring has come, and each place of it is free
pub record HasAllReplies (ask : Asking) (end : Replying) : Type 0 where
  pub items : ask.items ≡ []
  pub all : ask.replies ++ ask.gathered ≡ end.replies
  pub free : end.free ≡ 16
