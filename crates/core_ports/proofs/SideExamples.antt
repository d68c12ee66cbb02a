-- What core 0, which sends to core 1, and others are to links.
use Rattle.std.proofs.Common.{◌≡◌, refl, [], ◌∷◌, Some, None}
use Rattle.stack_code.specs.declared.parts.ChannelEnds.{ChannelEnds}
use Rattle.core_ports.specs.declared.side.Side.TheVariants.{Owner, Peer, Neither}
use Rattle.core_ports.specs.Sides.{channel_side, request_side, side_at, side_of}

abbrev channel : ChannelEnds
channel = record { from = 0; to = 1 }

pub on_a_channel : (channel_side 0 channel ≡ Owner) × (channel_side 1 channel ≡ Peer) × (channel_side 2 channel ≡ Neither)
on_a_channel = (refl, refl, refl)

-- after two channels core 1 has link 3
pub on_links_of_requests : (request_side 2 1 3 ≡ Owner) × (request_side 2 1 2 ≡ Neither)
on_links_of_requests = (refl, refl)

pub on_each_link : (side_of (channel ∷ []) 0 0 ≡ Owner) × (side_of (channel ∷ []) 1 0 ≡ Peer) × (side_of (channel ∷ []) 1 1 ≡ Neither) × (side_of (channel ∷ []) 1 2 ≡ Owner)
on_each_link = (refl, refl, refl, refl)

pub by_the_channel_or_without : (side_at 1 0 0 (Some channel) ≡ Owner) × (side_at 1 0 1 None ≡ Owner)
by_the_channel_or_without = (refl, refl)
