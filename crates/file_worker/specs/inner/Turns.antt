-- What one core's turn makes of its ends, of the disk and of the journal.
use Rattle.std.specs.Prelude.{◌≡◌, ◌≤◌, ◌⊎◌, ℕ, ◌+◌, [], ◌∷◌, ◌++◌, true}
use Rattle.ac_base.specs.declared.entry.Payload.{Payload}
use Rattle.ac_base.specs.declared.entry.Answer.{Answer}
use Rattle.ac_base.specs.declared.entry.Entry.{Entry}
use Rattle.ac_base.specs.declared.entry.Event.TheVariants as event
use Rattle.ac_links.specs.Payloads.{answer_fits}
use Rattle.ac_links.specs.Views.{Response}
use Rattle.ac_outside.specs.Disks.{DiskTold}
use Rattle.completion_word.specs.declared.views.DecisionKind.TheVariants as outcome
use Rattle.channel_ends.specs.Receiving.{Decides, SawOne}
use Rattle.request_ends.specs.Replying.{Replying, HasLooked}
use Rattle.file_ops.specs.Asked.{Asked}
use Rattle.file_worker.specs.declared.turns.Turned.{Turned}
use Rattle.file_worker.specs.declared.turns.Turned.TheVariants.{Made, Nothing, NotYet, ClockFull}
use Rattle.file_worker.specs.Ends.{CoreEnds}
use Rattle.file_worker.specs.Rounds.{Rests, SawNothing, LacksRoom, LacksStamp}

-- one reply more, and no more free places are lost than its own
pub record Replies (old : Replying) (r : Response) (new : Replying) : Type 0 where
  pub ring : new.ring ≡ old.ring
  pub replies : new.replies ≡ old.replies ++ r ∷ []
  pub free : old.free ≤ new.free + 1

-- the next request is taken and done, by this entry of link l
pub record DoesNext (l last : ℕ) (old : CoreEnds) (before : DiskTold) (e : Entry) (new : CoreEnds) (after : DiskTold) : Type 0 where
  pub number : ℕ
  pub stamp : ℕ
  pub payload : Payload
  pub answer : Answer
  pub entry : e ≡ record { stamp = stamp; turn = 0; event = event.Did l number answer }
  pub ask : Decides old.ask last number (outcome.Taken stamp) stamp payload new.ask
  pub reply : Replies old.reply (record { answer = answer; of = stamp }) new.reply
  pub fits : answer_fits answer payload ≡ true
  pub asked : Asked before after payload answer

-- it is passed, since it was withdrawn
pub record PassesNext (l last : ℕ) (old : CoreEnds) (before : DiskTold) (e : Entry) (new : CoreEnds) (after : DiskTold) : Type 0 where
  pub number : ℕ
  pub stamp : ℕ
  pub payload : Payload
  pub entry : e ≡ record { stamp = stamp; turn = 0; event = event.Pass l number }
  pub ask : Decides old.ask last number (outcome.Passed stamp) stamp payload new.ask
  pub reply : HasLooked old.reply new.reply
  pub told : after ≡ before

abbrev pub Turns : ℕ → ℕ → CoreEnds → DiskTold → Turned → CoreEnds → DiskTold → Type 0
Turns l last old before (Made e) new after = DoesNext l last old before e new after ⊎ PassesNext l last old before e new after
Turns l last old before Nothing new after = Rests old new × SawNothing old new × (after ≡ before)
Turns l last old before NotYet new after = Rests old new × LacksRoom old new × (after ≡ before)
Turns l last old before ClockFull new after = Rests old new × LacksStamp last old new × (after ≡ before)

-- the same, where there is a place for the reply
abbrev pub Takes : ℕ → ℕ → CoreEnds → DiskTold → Turned → CoreEnds → DiskTold → Type 0
Takes l last old before (Made e) new after = Turns l last old before (Made e) new after
Takes l last old before Nothing new after = Turns l last old before Nothing new after
Takes l last old before NotYet new after = Rests old new × SawOne new.ask.peer × (old.ask.items ≡ []) × (after ≡ before)
Takes l last old before ClockFull new after = Turns l last old before ClockFull new after

-- the clock after it
abbrev pub turned_clock : ℕ → Turned → ℕ
turned_clock last (Made e) = e.stamp
turned_clock last Nothing = last
turned_clock last NotYet = last
turned_clock last ClockFull = last
