-- What each link and each journal must show by itself, for the merged history to be legal.
use Rattle.std.specs.Prelude.{◌≡◌, ℕ, ◌<◌, List, [], ◌∷◌, true}
use Rattle.std.specs.List.{filter, AllByRecursion}
use Rattle.ac_base.specs.declared.entry.Event.{Event}
use Rattle.ac_base.specs.declared.entry.Entry.{Entry}
use Rattle.ac_base.specs.declared.entry.Stamped.{Stamped}
use Rattle.ac_links.specs.Link.{link_of}
use Rattle.ac_links.specs.Order.{stamp_of, is_of_link, in_order}
use Rattle.ac_links.specs.Journals.{HasStamps}
use Rattle.ac_history.specs.Merged.{all_from}
use Rattle.ac_history.specs.History.{may_make, has_its_width}

-- each journal has its stamps, where `seen` tells those of what its entries answer
abbrev pub AllStamps : (Event → ℕ) → List (List Entry) → Type 0
AllStamps seen [] = Unit {0}
AllStamps seen (j ∷ js) = HasStamps seen 0 j × AllStamps seen js

-- the entries of link l alone, of all parties
abbrev pub link_part : ℕ → List (List Entry) → List Stamped
link_part l js = in_order stamp_of (filter (is_of_link l) (all_from 0 js))

-- the entries are about links below this number
abbrev pub InRange : ℕ → List Stamped → Type 0
InRange links = AllByRecursion (λ e. link_of e.entry.event < links)

-- each entry was made by a party that may make it
abbrev pub AllMade : ℕ → ℕ → List Stamped → Type 0
AllMade channels cores = AllByRecursion (λ e. may_make channels cores e ≡ true)

-- each message that is offered on a channel has as many ints as the channel's width
abbrev pub AllOfTheirWidth : List ℕ → List Stamped → Type 0
AllOfTheirWidth widths = AllByRecursion (λ e. has_its_width widths e.entry.event ≡ true)
