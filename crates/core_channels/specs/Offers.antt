-- What an offer is answered, and what it makes of its link and of its owner's clock.
use Rattle.std.specs.Prelude.{ℕ, ◌-◌, [], ◌∷◌, ◌++◌, length, Option, Some, None, Bool, true, false, nat_lt}
use Rattle.ac_base.specs.declared.entry.Payload.{Payload}
use Rattle.ac_base.specs.Stamps.{stamp_after}
use Rattle.ac_links.specs.Views.{owner_lead, owner_offer}
use Rattle.core_channels.specs.declared.answers.Offering.{Offering}
use Rattle.core_channels.specs.declared.answers.Offering.TheVariants.{Offered, NoRoom, NotYet, ClockFull}
use Rattle.core_channels.specs.LinkViews.{LinkViews}

-- fewer offers than the link's capacity are there from the first one on that the owner does not know
abbrev pub has_room : LinkViews → Bool
has_room v = nat_lt (length v.offers - owner_lead v.offers) v.terms.capacity

-- an offer of stamp s, where the spare allows it
abbrev pub placed_offer : LinkViews → Payload → ℕ → Bool → Offering Payload
placed_offer v payload s true = Offered (length v.offers) s
placed_offer v payload s false = NotYet payload

abbrev pub stamped_offer : LinkViews → Payload → Option ℕ → Offering Payload
stamped_offer v payload None = ClockFull payload
stamped_offer v payload (Some s) = placed_offer v payload s (nat_lt 0 v.spare)

abbrev pub offer_by_room : LinkViews → Payload → ℕ → Bool → Offering Payload
offer_by_room v payload last true = stamped_offer v payload (stamp_after last 0)
offer_by_room v payload last false = NoRoom payload

-- the answer to an offer by an owner whose last stamp is `last`
abbrev pub offering : LinkViews → Payload → ℕ → Offering Payload
offering v payload last = offer_by_room v payload last (has_room v)

-- the link after the answer
abbrev pub after_offering : LinkViews → Payload → Offering Payload → LinkViews
after_offering v payload (Offered number stamp) = record v { offers = v.offers ++ owner_offer payload stamp ∷ []; spare = v.spare - 1 }
after_offering v payload (NoRoom back) = v
after_offering v payload (NotYet back) = v
after_offering v payload (ClockFull back) = v

-- the owner's last stamp after the answer
abbrev pub offering_clock : ℕ → Offering Payload → ℕ
offering_clock last (Offered number stamp) = stamp
offering_clock last (NoRoom back) = last
offering_clock last (NotYet back) = last
offering_clock last (ClockFull back) = last
