-- What the stamps of one journal, and the entries of one link, have to be, where it is told what each entry answers.
use Rattle.std.specs.Prelude.{◌≡◌, ℕ, List, [], ◌∷◌, Option, true}
use Rattle.ac_base.specs.declared.entry.Payload.{Payload}
use Rattle.ac_base.specs.declared.entry.Event.{Event}
use Rattle.ac_base.specs.declared.entry.Entry.{Entry}
use Rattle.ac_base.specs.declared.entry.Stamped.{Stamped}
use Rattle.ac_base.specs.Stamps.{next_stamp}
use Rattle.ac_links.specs.declared.offer.LinkOffer.{LinkOffer}
use Rattle.ac_links.specs.declared.payloads.Terms.{Terms}
use Rattle.ac_links.specs.Link.{link_fits, answered, asked, link_after}

-- each stamp of a journal is the next one after those of its party, from `last` on, and of what `seen` tells that its entry answers
abbrev pub HasStamps : (Event → ℕ) → ℕ → List Entry → Type 0
HasStamps seen last [] = Unit {0}
HasStamps seen last (e ∷ es) = (e.stamp ≡ next_stamp last (seen e.event)) × HasStamps seen e.stamp es

-- the last stamp of a journal, whose party had this one before
abbrev pub last_of : ℕ → List Entry → ℕ
last_of last [] = last
last_of last (e ∷ es) = last_of e.stamp es

-- each entry of one link fits after those before; `seen` tells the stamp of what it answers, and `asks` the request that it answers
abbrev pub LinkAgrees : (Event → ℕ) → (Event → Option Payload) → Terms → List LinkOffer → List Stamped → Type 0
LinkAgrees seen asks terms os [] = Unit {0}
LinkAgrees seen asks terms os (e ∷ es) = (link_fits terms os e.entry.event ≡ true) × (seen e.entry.event ≡ answered os e.entry.event)
    × (asks e.entry.event ≡ asked os e.entry.event) × LinkAgrees seen asks terms (link_after os e.entry.stamp e.entry.event) es
