-- How often the two sides of a link have called.
use Rattle.std.specs.Prelude.{ℕ, ◌+◌, ◌-◌, ◌^◌, nat_lt, if◌then◌else◌}
use Rattle.core_channels.specs.declared.counts.Call.{Call}
use Rattle.core_channels.specs.declared.counts.Call.TheVariants.{OwnerLooks, OwnerTries, PeerLooks}
use Rattle.core_channels.specs.declared.counts.Counts.{Counts}

-- one more; a count of 64 bits that has reached its last value stays there
abbrev pub counted : ℕ → ℕ
counted n = if nat_lt n (2 ^ 64 - 1) then n + 1 else n

abbrev pub no_calls : Counts
no_calls = record { owner_looks = 0; owner_tries = 0; peer_looks = 0 }

abbrev pub counts_after : Counts → Call → Counts
counts_after c OwnerLooks = record c { owner_looks = counted c.owner_looks }
counts_after c OwnerTries = record c { owner_tries = counted c.owner_tries }
counts_after c PeerLooks = record c { peer_looks = counted c.peer_looks }
