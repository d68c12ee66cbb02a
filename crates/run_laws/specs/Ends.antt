-- What a core has of a link on its side.
use Rattle.std.specs.Prelude.{Option, Some, None, if◌then◌else◌}
use Rattle.ac_links.specs.Party.{LinkEnd}
use Rattle.ac_links.specs.Party.LinkEnd.{Owns, Decides, Absent}
use Rattle.core_channels.specs.LinkViews.{LinkViews}
use Rattle.core_ports.specs.declared.side.Side.{Side}
use Rattle.core_ports.specs.declared.side.Side.TheVariants.{Owner, Peer, Neither}

-- a core receives messages alone
abbrev pub receiving_end : LinkViews → LinkEnd
receiving_end v = if v.terms.requests then Absent else Decides v.decisions

abbrev pub end_at : LinkViews → Side → LinkEnd
end_at v Owner = Owns v.offers
end_at v Peer = receiving_end v
end_at v Neither = Absent

-- the end of a link, if there is one of this number, on this side
abbrev pub end_of : Side → Option LinkViews → LinkEnd
end_of side None = Absent
end_of side (Some v) = end_at v side
