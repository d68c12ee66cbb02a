-- On which links a core sends, and on which it receives.
use Rattle.std.specs.Prelude.{ℕ, ◌+◌, List, length, Option, Some, None, ◌==◌, slice_get, if◌then◌else◌}
use Rattle.stack_code.specs.declared.parts.ChannelEnds.{ChannelEnds}
use Rattle.core_ports.specs.declared.side.Side.{Side}
use Rattle.core_ports.specs.declared.side.Side.TheVariants.{Owner, Peer, Neither}

abbrev pub channel_side : ℕ → ChannelEnds → Side
channel_side core ends = if ends.from == core then Owner else if ends.to == core then Peer else Neither

-- after the channels each core has one link for its requests
abbrev pub request_side : ℕ → ℕ → ℕ → Side
request_side channels core l = if l == channels + core then Owner else Neither

abbrev pub side_at : ℕ → ℕ → ℕ → Option ChannelEnds → Side
side_at channels core l None = request_side channels core l
side_at channels core l (Some ends) = channel_side core ends

-- the side of a core on link l, where the channels have these ends
abbrev pub side_of : List ChannelEnds → ℕ → ℕ → Side
side_of channels core l = side_at (length channels) core l (slice_get channels l)
