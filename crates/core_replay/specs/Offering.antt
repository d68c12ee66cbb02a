-- What a core has offered by the entries of its journal.
use Rattle.std.specs.Prelude.{◌≡◌, ℕ, suc, List, Bool, ◌&&◌, nat_eq, slice_index, if◌then◌else◌}
use Rattle.std.specs.List.{list_any}
use Rattle.ac_base.specs.declared.entry.Entry.{Entry}
use Rattle.core_state.specs.Arrivals.{offers_on, keeps_room}
use Rattle.core_replay.specs.declared.own_offers.OfferName.{OfferName}

-- by link how many offers were made on it, and those that were withdrawn and keep their room
pub record Offers : Type 0 where
  pub counts : List ℕ
  pub kept : List OfferName

-- it is that offer
abbrev pub is_of : ℕ → ℕ → OfferName → Bool
is_of link number o = nat_eq o.link link && nat_eq o.number number

-- one offer more on a link
abbrev pub counted : ℕ → ℕ → ℕ → ℕ
counted link l count = if nat_eq link l then suc count else count

-- what the entries of this journal have made of each link and offer
pub record AreOffersOf (journal : List Entry) (o : Offers) : Type 0 where
  pub count : (link : ℕ) → slice_index o.counts link ≡ offers_on link journal
  pub keep : (link number : ℕ) → list_any (is_of link number) o.kept ≡ keeps_room link number journal
