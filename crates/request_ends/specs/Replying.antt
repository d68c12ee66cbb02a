-- The ring of the replies of one core, as its two ends see it.
use Rattle.std.specs.Prelude.{◌≡◌, ℕ, ◌+◌, ◌≤◌, ◌<◌, List, [], ◌∷◌, ◌++◌, Bool, true, false}
use Rattle.ac_links.specs.Views.{Response}
use Rattle.channel_ends.specs.Rings.{RingName}
use Rattle.request_ends.specs.declared.replying.Reply.{Reply}

-- a reply as the law on links has it
abbrev pub response_of : Reply → Response
response_of r = record { answer = r.answer; of = r.of }

-- the worker's end: which ring it is of, all that was put there, the oldest first, and how many free places it knows of
pub record Replying : Type 0 where
  pub ring : RingName
  pub replies : List Response
  pub free : ℕ

-- the core's end: which ring it is of, the replies that were taken off it, and those that are known to be there, the oldest first
pub record ReplyRing : Type 0 where
  pub ring : RingName
  pub taken : List Reply
  pub items : List Reply

-- the two ends of one ring on which nothing was put
pub record IsNewReplies (end : Replying) (side : ReplyRing) : Type 0 where
  pub name : side.ring ≡ end.ring
  pub replies : end.replies ≡ []
  pub free : end.free ≡ 16
  pub taken : side.taken ≡ []
  pub items : side.items ≡ []

-- a look for a free place changes nothing but what is known of them, and forgets none
pub record HasLooked (old new : Replying) : Type 0 where
  pub ring : new.ring ≡ old.ring
  pub replies : new.replies ≡ old.replies
  pub free : old.free ≤ new.free

-- there is a place, or none was known of before and none is shown
abbrev pub FindsPlace : Replying → Bool → Replying → Type 0
FindsPlace old true new = 0 < new.free
FindsPlace old false new = (old.free ≡ 0) × (new.free ≡ 0)

-- one reply more is on the ring
pub record Puts (old : Replying) (r : Response) (new : Replying) : Type 0 where
  pub ring : new.ring ≡ old.ring
  pub replies : new.replies ≡ old.replies ++ r ∷ []
  pub free : old.free ≡ new.free + 1
