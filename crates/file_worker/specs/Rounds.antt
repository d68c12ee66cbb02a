-- What the calls of the worker keep, and what a round is answered.
use Rattle.std.specs.Prelude.{◌≡◌, ◌⊎◌, ◌≤◌, ◌<◌, ℕ, ◌+◌, List, [], length, map, Option}
use mathlib.Core.List.{IsPrefix}
use Rattle.ac_base.specs.declared.entry.Payload.{Payload}
use Rattle.ac_base.specs.declared.entry.Event.{Event}
use Rattle.ac_links.specs.Journals.{last_of}
use Rattle.ac_outside.specs.Disks.{Held, DiskTold}
use Rattle.completion_word.specs.declared.answers.Look.TheVariants as look
use Rattle.completion_word.specs.Steps.{look_of}
use Rattle.channel_ends.specs.Pairs.{IsSameRecv}
use Rattle.channel_ends.specs.Receiving.{DecidesNone, SawOne, SawFull}
use Rattle.request_ends.specs.Replying.{HasLooked}
use Rattle.file_ops.specs.Agreement.{DiskGoesOn}
use Rattle.file_worker.specs.declared.turns.Round.{Round}
use Rattle.file_worker.specs.declared.turns.Round.TheVariants.{Did, Quiet, NotYet, ClockFull}
use Rattle.file_worker.specs.Ends.{CoreEnds, AtEach, AtOne}
use Rattle.file_worker.specs.Agreement.{Seen, TellsTaken, IsCounted, DiskServes}

-- ---- what rounds and settlings keep

-- they are ends of the same pairs, and what was decided and put stays
pub record EndsGoOn (old new : CoreEnds) : Type 0 where
  pub ask : IsSameRecv old.ask new.ask
  pub ring : new.reply.ring ≡ old.reply.ring
  pub decisions : IsPrefix old.ask.peer.decisions new.ask.peer.decisions
  pub popped : IsPrefix old.ask.popped new.ask.popped
  pub replies : IsPrefix old.reply.replies new.reply.replies
  pub looks : old.ask.peer.looks ≤ new.ask.peer.looks

-- the journal grows with what is done, and where the disk had served all before, it has served all now; its files keep their paths
pub record GoesOn (s t : Seen) : Type 0 where
  pub first : t.desk.first ≡ s.desk.first
  pub count : length t.desk.ends ≡ length s.desk.ends
  pub ends : AtEach EndsGoOn s.desk.ends t.desk.ends
  pub entries : IsPrefix s.desk.entries t.desk.entries
  -- the last stamp stays or rises, and it rises where an entry was made
  pub clock : last_of 0 s.desk.entries ≤ last_of 0 t.desk.entries
  pub rises : length s.desk.entries < length t.desk.entries → last_of 0 s.desk.entries < last_of 0 t.desk.entries
  pub disk : DiskGoesOn s.told t.told
  pub counted : (p : ℕ) (got : Event → Option Payload) (begun : DiskTold) → TellsTaken got t.desk → IsCounted p got begun s
      → IsCounted p got begun t
  pub served : (p : ℕ) (got : Event → Option Payload) (start : List (List ℕ)) (held : Held) → TellsTaken got t.desk
      → DiskServes p got start s held → (after : Held) × DiskServes p got start t after × (after.found ≡ held.found)
      × (map (λ f. f.name) after.files ≡ map (λ f. f.name) held.files)

-- ---- what a round is answered

-- the one look of a round was made
abbrev pub LooksOnce : CoreEnds → CoreEnds → Type 0
LooksOnce old new = new.ask.peer.looks ≡ old.ask.peer.looks + 1

-- nothing was decided, and no reply was put
pub record Rests (old new : CoreEnds) : Type 0 where
  pub ask : DecidesNone old.ask new.ask
  pub reply : HasLooked old.reply new.reply

-- the look saw neither an offer nor a withdrawal, and no settling had told of one
abbrev pub SawNothing : CoreEnds → CoreEnds → Type 0
SawNothing old new = (look_of new.ask.peer.saw ≡ look.Nothing) × (old.ask.peer.told_offers ≤ length old.ask.peer.decisions)

-- the look saw one, and as the call began no item of the requests was known, or no free place for a reply
abbrev pub LacksRoom : CoreEnds → CoreEnds → Type 0
LacksRoom old new = SawOne new.ask.peer × ((old.ask.items ≡ []) ⊎ (old.reply.free ≡ 0))

-- what was seen has a stamp after which none is left
abbrev pub LacksStamp : ℕ → CoreEnds → CoreEnds → Type 0
LacksStamp last old new = SawFull last new.ask.peer

-- there was nothing for it, or no room
abbrev pub Waits : CoreEnds → CoreEnds → Type 0
Waits old new = SawNothing old new ⊎ LacksRoom old new

-- or no stamp
abbrev pub Stops : ℕ → CoreEnds → CoreEnds → Type 0
Stops last old new = Waits old new ⊎ LacksStamp last old new

-- no entry was made, and the disk was not called
pub record MadeNone (s t : Seen) : Type 0 where
  pub entries : t.desk.entries ≡ s.desk.entries
  pub told : t.told ≡ s.told
  pub rests : AtEach Rests s.desk.ends t.desk.ends

abbrev pub Says : Round → Seen → Seen → Type 0
Says Did s t = length s.desk.entries < length t.desk.entries
Says Quiet s t = MadeNone s t × AtEach SawNothing s.desk.ends t.desk.ends
Says NotYet s t = MadeNone s t × AtEach Waits s.desk.ends t.desk.ends × AtOne LacksRoom s.desk.ends t.desk.ends
Says ClockFull s t = MadeNone s t × AtEach (Stops (last_of 0 s.desk.entries)) s.desk.ends t.desk.ends
    × AtOne (LacksStamp (last_of 0 s.desk.entries)) s.desk.ends t.desk.ends
