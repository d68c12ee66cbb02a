-- How the end of a core's requests keeps which of them comes next: by a mark for each, from the first on that is neither withdrawn nor
-- replied.
use Rattle.std.specs.Prelude.{◌≡◌, ℕ, zero, suc, ◌+◌, ◌≤◌, ◌⊎◌, List, [], ◌∷◌, length, Some, None, true, is_some, slice_get}
use Rattle.ac_links.specs.Views.{Response}
use Rattle.channel_ends.specs.Sending.{MadeOffer, capacity_of, known_lead}
use Rattle.request_ends.specs.declared.asking.AskEnd.TheInside.{Inside}
use Rattle.request_ends.specs.declared.marks.Asked.{Asked}
use Rattle.request_ends.specs.declared.marks.Asked.TheVariants.{Open, Started, Gone}
use Rattle.request_ends.specs.Asking.{Asking}

-- a mark says what is known of its request
abbrev pub MarkSays : Asked → MadeOffer → Type 0
MarkSays Open o = (o.withdrawn ≡ None) × (o.known ≡ None)
MarkSays Started o = (o.withdrawn ≡ None) × (is_some o.known ≡ true)
MarkSays Gone o = is_some o.withdrawn ≡ true

abbrev pub AllMarked : List MadeOffer → List Asked → Type 0
AllMarked [] [] = Unit {0}
AllMarked [] (m ∷ ms) = ⊥
AllMarked (o ∷ os) [] = ⊥
AllMarked (o ∷ os) (m ∷ ms) = MarkSays m o × AllMarked os ms

-- the first n requests are withdrawn, or known and replied, and these are all replies; the others are marked
abbrev pub AreNoted : ℕ → List MadeOffer → List Response → List Asked → Type 0
AreNoted zero os rs ms = (rs ≡ []) × AllMarked os ms
AreNoted (suc n) [] rs ms = ⊥
AreNoted (suc n) (o ∷ os) [] ms = (is_some o.withdrawn ≡ true) × AreNoted n os [] ms
AreNoted (suc n) (o ∷ os) (r ∷ rs) ms = ((is_some o.withdrawn ≡ true) × AreNoted n os (r ∷ rs) ms)
    ⊎ ((o.withdrawn ≡ None) × (is_some o.known ≡ true) × AreNoted n os rs ms)

abbrev pub asking_of : Inside → Asking
asking_of it = record {
  send = it.send;
  ring = it.inbox.ring;
  replies = it.inbox.had;
  gathered = it.inbox.gathered;
  items = it.inbox.items;
  places = it.marks.places;
}

-- the requests before the marks are over, and the first that is marked is not withdrawn; the link has sixteen places, and no more requests
-- stand from the first one on that is not known
pub record IsAsking (it : Inside) : Type 0 where
  pub over : ℕ
  pub noted : AreNoted over it.send.notes.offers it.inbox.had it.marks.list
  pub front : slice_get it.marks.list 0 ≡ Some Gone → ⊥
  pub one_each : length it.send.payloads ≡ length it.send.notes.offers
  pub size : capacity_of it.send.notes ≡ 16
  pub few : length it.send.notes.offers ≤ known_lead it.send.notes.offers + 16
  pub replied : it.replied ≡ length it.inbox.had
