-- The state of all links and stamps, and the histories that are legal from there.
use Rattle.std.specs.Prelude.{◌≡◌, ℕ, suc, ◌-◌, List, [], ◌∷◌, length, replicate}
use Rattle.std.specs.Prelude.{Option, Some, Bool, true, ◌==◌, slice_set, not, ◌&&◌, nat_lt}
use Rattle.std.specs.Prelude.{if◌then◌else◌, slice_index_or, nat_le, slice_index, slice_get, ◌||◌}
use Rattle.ac_base.specs.declared.entry.Payload.{Payload}
use Rattle.ac_base.specs.declared.entry.Payload.TheVariants.{Int}
use Rattle.ac_base.specs.declared.entry.Event.{Event}
use Rattle.ac_base.specs.declared.entry.Stamped.{Stamped}
use Rattle.ac_base.specs.declared.entry.Event.TheVariants.{Offer, Withdraw, Know, Room, Got, Pass, Did, Reply}
use Rattle.ac_base.specs.Stamps.{next_stamp}
use Rattle.ac_links.specs.declared.offer.LinkOffer.{LinkOffer}
use Rattle.ac_links.specs.declared.payloads.Terms.{Terms}
use Rattle.ac_links.specs.Link.{link_fits, answered, link_after, link_of}

-- what the entries so far have made of all links, and which stamps came
pub record Past : Type 0 where
  pub capacities : List ℕ
  -- how many ints a message of each channel has
  pub widths : List ℕ
  -- the links below this number are channels, and the others carry requests
  pub channels : ℕ
  -- the parties below this number are cores, and the party of this number is the worker
  pub cores : ℕ
  pub links : List (List LinkOffer)
  -- the last stamp of each party
  pub lasts : List ℕ
  -- the entry before
  pub stamp : ℕ
  pub party : ℕ

abbrev pub link_at : Past → ℕ → List LinkOffer
link_at past l = slice_index_or past.links l []

abbrev pub terms_of : List ℕ → ℕ → ℕ → Terms
terms_of capacities channels l = record { capacity = slice_index capacities l; requests = nat_le channels l }

abbrev pub in_range : Past → Stamped → Bool
in_range past e = nat_lt (link_of e.entry.event) (length past.links) && nat_lt e.party (length past.lasts)

-- the entry comes after one of this stamp and party: by stamp, then party
abbrev pub is_later : ℕ → ℕ → Stamped → Bool
is_later stamp party e = nat_lt stamp e.entry.stamp || ((stamp == e.entry.stamp) && nat_lt party e.party)

-- 1 plus the greater of its party's last stamp and that of the entry that it answers
abbrev pub has_stamp : Past → Stamped → Bool
has_stamp past e =
    e.entry.stamp == next_stamp (slice_index past.lasts e.party) (answered (link_at past (link_of e.entry.event)) e.entry.event)

-- whether a party that is a core, or that is the worker, may make the event on a link that carries requests or not
abbrev pub makes : Bool → Bool → Bool → Event → Bool
makes core worker requests (Offer l n payload) = core
makes core worker requests (Withdraw l n) = core
makes core worker requests (Know l n) = core
makes core worker requests (Room l n) = core
makes core worker requests (Got l n value) = core && not requests
makes core worker requests (Pass l n) = if requests then worker else core
makes core worker requests (Did l n answer) = worker && requests
makes core worker requests (Reply l n answer) = core

-- the party may make the event, and the worker's turn is 0
abbrev pub may_make : ℕ → ℕ → Stamped → Bool
may_make channels cores e = makes (nat_lt e.party cores) (e.party == cores) (nat_le channels (link_of e.entry.event)) e.entry.event
    && (nat_lt e.party cores || (e.entry.turn == 0))

-- a channel carries messages of as many ints as its width; the other links have none
abbrev pub has_width : Option ℕ → Payload → Bool
has_width (Some width) (Int ints) = length ints == width
has_width _ _ = true

abbrev pub has_its_width : List ℕ → Event → Bool
has_its_width widths (Offer l n payload) = has_width (slice_get widths l) payload
has_its_width widths _ = true

-- the entry may come next
abbrev pub fits : Past → Stamped → Bool
fits past e = in_range past e && is_later past.stamp past.party e && has_stamp past e && may_make past.channels past.cores e
    && has_its_width past.widths e.entry.event
    && link_fits (terms_of past.capacities past.channels (link_of e.entry.event)) (link_at past (link_of e.entry.event)) e.entry.event

abbrev pub after : Past → Stamped → Past
after past e = record past {
  links = slice_set past.links (link_of e.entry.event) (link_after (link_at past (link_of e.entry.event)) e.entry.stamp e.entry.event);
  lasts = slice_set past.lasts e.party e.entry.stamp;
  stamp = e.entry.stamp;
  party = e.party;
}

-- each entry may come after those before it
abbrev pub IsLegal : Past → List Stamped → Type 0
IsLegal past [] = Unit {0}
IsLegal past (e ∷ es) = (fits past e ≡ true) × IsLegal (after past e) es

-- nothing has happened: as many cores as this, each with a link for its requests after the channels
abbrev pub start : List ℕ → List ℕ → ℕ → Past
start capacities widths cores = record {
  capacities = capacities;
  widths = widths;
  channels = length capacities - cores;
  cores = cores;
  links = replicate (length capacities) [];
  lasts = replicate (suc cores) 0;
  stamp = 0;
  party = 0;
}
