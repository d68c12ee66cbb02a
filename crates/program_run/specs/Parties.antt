-- The two parties of each link of a run.
use Rattle.std.specs.Prelude.{ℕ, ◌-◌, List, length, Option, Some, None, slice_get}
use Rattle.stack_code.specs.declared.parts.ChannelEnds.{ChannelEnds}

abbrev pub owner_at : ℕ → ℕ → Option ChannelEnds → ℕ
owner_at channels l None = l - channels
owner_at channels l (Some ends) = ends.from

-- the core that sends on link l: that of a channel, and after the channels each core in turn
abbrev pub owner_of : List ChannelEnds → ℕ → ℕ
owner_of channels l = owner_at (length channels) l (slice_get channels l)

abbrev pub peer_at : ℕ → Option ChannelEnds → ℕ
peer_at cores None = cores
peer_at cores (Some ends) = ends.to

-- the core that receives on link l, or the worker, whose number is that of the cores
abbrev pub peer_of : List ChannelEnds → ℕ → ℕ → ℕ
peer_of channels cores l = peer_at cores (slice_get channels l)
