-- How the owner's side of a pair keeps its notes: the words' own view tells what was heard, and a mark for each of the last 64 offers
-- what of that is known.
use Rattle.std.specs.Prelude.{◌≡◌, ℕ, zero, suc, ◌+◌, ◌%◌, ◌<◌, ◌≤◌, List, [], ◌∷◌, length, Option, Some, None, Bool, true, false, is_some}
use Rattle.std.specs.Prelude.{if◌then◌else◌, nat_lt, ◌||◌, slice_index_or}
use Rattle.std.specs.Option.{ForSome}
use Rattle.completion_word.specs.declared.views.Owner.{Owner}
use Rattle.completion_word.specs.Link.{offer_at, outcome_at}
use Rattle.channel_ends.specs.declared.marks.Mark.{Mark}
use Rattle.channel_ends.specs.declared.marks.Mark.TheVariants.{Open, Known, Seen}
use Rattle.channel_ends.specs.Sending.{MadeOffer}
use Rattle.channel_ends.specs.Settled.{stamp_of}

-- f at the n numbers from k on
abbrev pub tabulated : {X : Type 0} → (ℕ → X) → ℕ → ℕ → List X
tabulated f k zero = []
tabulated f k (suc n) = f k ∷ tabulated f (suc k) n

-- the stamp of a decision that was learned, or that a withdrawal found
abbrev pub heard_at : Owner → ℕ → Option ℕ
heard_at o k = if nat_lt k (length o.learned) then Some (stamp_of (outcome_at o.learned k)) else (offer_at o.offers k).found_taken

abbrev pub mark_at : List Mark → ℕ → Mark
mark_at marks k = slice_index_or marks (k % 64) Open

abbrev pub is_known : Mark → Bool
is_known Open = false
is_known Known = true
is_known (Seen withdrawn stamp) = false

-- what was heard is known of the offers before `lead`, and of those whose mark says so
abbrev pub known_by : ℕ → List Mark → Owner → ℕ → Option ℕ
known_by lead marks o k = if nat_lt k lead || is_known (mark_at marks k) then heard_at o k else None

abbrev pub made_by : ℕ → List Mark → Owner → ℕ → MadeOffer
made_by lead marks o k =
    record { stamp = (offer_at o.offers k).stamp; withdrawn = (offer_at o.offers k).withdrawn; known = known_by lead marks o k }

-- a mark says what was heard of its offer
abbrev pub MarkFits : Mark → Option ℕ → Bool → Type 0
MarkFits Open heard gone = heard ≡ None
MarkFits Known heard gone = is_some heard ≡ true
MarkFits (Seen withdrawn stamp) heard gone = (heard ≡ Some stamp) × (withdrawn ≡ gone)

abbrev pub IsMarked : List Mark → Owner → ℕ → Type 0
IsMarked marks o k = MarkFits (mark_at marks k) (heard_at o k) (is_some (offer_at o.offers k).withdrawn)

-- the first `lead` offers are known and the next is not; there are no more than 64 from there on, each with its mark; and the last stamp of
-- the words is no greater than all of the list
pub record AreNoted (lead : ℕ) (marks : List Mark) (o : Owner) : Type 0 where
  pub lead_within : lead ≤ length o.offers
  pub near : length o.offers ≤ lead + 64
  pub learned : length o.learned ≤ lead + 1
  pub leading : (k : ℕ) → k < lead → is_some (heard_at o k) ≡ true
  pub marked : (k : ℕ) → lead ≤ k → k < length o.offers → IsMarked marks o k
  pub first : lead < length o.offers → is_known (mark_at marks lead) ≡ false
  pub last : (most : ℕ) → ((k : ℕ) → k < length o.offers → ((offer_at o.offers k).stamp ≤ most)
      × ForSome (offer_at o.offers k).withdrawn (λ w. w ≤ most)) → o.last ≤ most
