-- A relay, from its fields.
use Rattle.std.specs.Prelude.{◌≡◌, ℕ, ℤ, ◌<◌, ◌^◌, List, length, Some, slice_get}
use Rattle.channel_ends.specs.Receiving.{Receiving}
use Rattle.channel_ends.specs.Sending.{AreWithin}
use Rattle.ac_choice.specs.declared.relay.Relay.TheInside.{Inside}
use Rattle.ac_choice.specs.Relaying.{Relaying, Carries}

abbrev pub relaying_of : Inside → Relaying
relaying_of it = record { ins = it.ins.items; out = it.out; held = it.held; first = it.first; clock = it.clock }

-- one item was taken out of the ring for each decision
abbrev pub AreOneEach : List (Receiving ℤ) → Type 0
AreOneEach ins = (k : ℕ) (r : Receiving ℤ) → slice_get ins k ≡ Some r → length r.popped ≡ length r.peer.decisions

-- there is an end that is asked first, no stamp of an offer is above the clock's last, and nothing that was taken is lost or made twice
pub record IsRelay (v : Relaying) : Type 0 where
  pub first : v.first < length v.ins
  pub few : length v.ins < 2 ^ 32
  pub within : AreWithin v.clock v.out.notes.offers
  pub one_each : AreOneEach v.ins
  pub carries : Carries v

abbrev pub IsRelaying : Inside → Type 0
IsRelaying it = IsRelay (relaying_of it)
