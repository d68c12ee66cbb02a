-- What the definitions of a pair say of three uses of one, by numbers: a take before the cancel, a withdrawn offer that is passed, and a
-- withdrawn offer that keeps its room.
use Rattle.std.proofs.Common.{◌≡◌, ℕ, List, [], ◌∷◌, Option, Some, None, refl, ap, arith, ℤ}
use Rattle.std.specs.Prelude.{pos, slice_get}
use denote.RawPtr.{null_ptr}
use Rattle.atomic_table.specs.Seated.{TableId}
use Rattle.completion_word.specs.declared.standing.Standing.TheVariants as word
use Rattle.completion_word.specs.declared.answers.Look.{Look}
use Rattle.completion_word.specs.declared.standing.Standing.{Standing}
use Rattle.completion_word.specs.declared.views.Decision.{Decision}
use Rattle.completion_word.specs.declared.views.Peer.{Peer}
use Rattle.completion_word.specs.declared.views.DecisionKind.TheVariants as outcome
use Rattle.completion_word.specs.Link.{decision, decision_at}
use Rattle.core_channels.specs.declared.answers.Offering.TheVariants as offering
use Rattle.core_channels.specs.declared.answers.Learning.TheVariants as learning
use Rattle.core_channels.specs.declared.answers.Withdrawing.TheVariants as withdrawing
use Rattle.core_channels.specs.declared.answers.Receiving.TheVariants as receiving
use Rattle.channel_ends.specs.Rings.{RingName}
use Rattle.channel_ends.specs.Sending.{MadeOffer, OwnerNotes, Sending, made_at}
use Rattle.channel_ends.specs.Offers.{Offers}
use Rattle.channel_ends.specs.Learns.{Learns}
use Rattle.channel_ends.specs.Withdraws.{MayWithdraw, Withdraws}
use Rattle.channel_ends.specs.Receiving.{Receiving, Receives}

-- a message of one int
abbrev pub one_int : ℕ → List ℤ
one_int n = pos n ∷ []

abbrev pub words_of : ℕ → TableId
words_of n = record { words = n; slots = 0; views_name = 0; atom = 0; block = 0; offset = 0; slot_names = [] }

abbrev pub a_ring : RingName
a_ring = record { words = null_ptr; slots = null_ptr; names = (1, (0, 0)) }

-- an offer by its stamps: its own, its withdrawal's, that of the decision that is known
abbrev pub an_offer : ℕ → Option ℕ → Option ℕ → MadeOffer
an_offer stamp withdrawn known = record { stamp = stamp; withdrawn = withdrawn; known = known }

abbrev pub notes : ℕ → List MadeOffer → List (Option ℕ) → ℕ → Standing → OwnerNotes
notes n offers heard loads saw = record { table = words_of n; offers = offers; heard = heard; told = 0; loads = loads; saw = saw }

abbrev pub sender : OwnerNotes → List (List ℤ) → ℕ → Sending (List ℤ)
sender e payloads free = record { ring = a_ring; notes = e; payloads = payloads; free = free }

abbrev pub a_peer : List Decision → ℕ → Standing → Option Look → Peer
a_peer decisions looks saw seen = record { decisions = decisions; looks = looks; saw = saw; look = seen; told_offers = 0 }

abbrev pub receiver : ℕ → Peer → List (List ℤ) → Receiving (List ℤ)
receiver n p popped = record { table = words_of n; ring = a_ring; peer = p; popped = popped; items = [] }

none_is_some : {s : ℕ} → None ≡ Some s → ⊥
none_is_some e = cc

passed_is_taken : {s t : ℕ} → outcome.Passed t ≡ outcome.Taken s → ⊥
passed_is_taken e = cc

-- ---- one place: 5 is offered and taken, and its withdrawal comes too late

abbrev pub new_one : Sending (List ℤ)
new_one = sender (notes 1 [] [] 0 word.Unused) [] 1

abbrev pub five_offered : Sending (List ℤ)
five_offered = sender (notes 1 (an_offer 1 None None ∷ []) (None ∷ []) 0 word.Unused) (one_int 5 ∷ []) 0

pub five_is_offered : Offers new_one (one_int 5) 0 (offering.Offered 0 1) five_offered
five_is_offered = (
  refl,
  refl,
  refl,
  record {
    ring = refl;
    notes = record { table = refl; offers = refl; heard = refl; told = refl; loads = omega arith };
    payloads = refl;
    free = omega arith;
  },
)

abbrev pub five_taken : Receiving (List ℤ)
five_taken = receiver 1 (a_peer (decision (outcome.Taken 2) 1 ∷ []) 1 (word.Offered 1) None) (one_int 5 ∷ [])

pub five_is_taken : Receives (receiver 1 (a_peer [] 0 word.Unused None) []) 0 (receiving.Took 0 (one_int 5) 2) five_taken
five_is_taken = record {
  of = 1;
  next = refl;
  table = refl;
  ring = refl;
  number_is = refl;
  decisions = refl;
  told = refl;
  looks = refl;
  popped = refl;
  items = (one_int 5 ∷ [], refl);
}

abbrev pub five_known : OwnerNotes
five_known = notes 1 (an_offer 1 None (Some 2) ∷ []) (Some 2 ∷ []) 0 word.Unused

pub it_may_be_withdrawn : MayWithdraw (slice_get five_offered.notes.offers 0)
it_may_be_withdrawn = (refl, refl)

pub it_is_found_taken : Withdraws five_offered.notes 0 1 (withdrawing.Taken 3) five_known
it_is_found_taken = record {
  of = 2;
  hears = record { table = refl; heard = refl; same = λ s e. absurd cc; told = refl; loads = omega arith };
  next = refl;
  offers = refl;
}

pub and_it_is_not_withdrawn : Withdraws five_offered.notes 0 1 (withdrawing.Withdrawn 2) five_known → ⊥
and_it_is_not_withdrawn h = none_is_some (ap (λ (v : OwnerNotes). (made_at v.offers 0).withdrawn) h.after)

pub a_known_one_may_not_be_withdrawn : MayWithdraw (slice_get five_known.offers 0) → ⊥
a_known_one_may_not_be_withdrawn h = let e = h.1 in cc

-- ---- two places: 5 is offered and withdrawn, 6 is offered; the withdrawn one is passed

abbrev pub five_withdrawn : OwnerNotes
five_withdrawn = notes 2 (an_offer 1 (Some 2) None ∷ []) (None ∷ []) 0 word.Unused

pub five_is_withdrawn : Withdraws (notes 2 (an_offer 1 None None ∷ []) (None ∷ []) 0 word.Unused) 0 1 (withdrawing.Withdrawn 2) five_withdrawn
five_is_withdrawn = record { next = refl; not_heard = refl; not_told = omega arith; after = refl }

abbrev pub five_passed : Receiving (List ℤ)
five_passed = receiver 2 (a_peer (decision (outcome.Passed 3) 2 ∷ []) 1 (word.Withdrawn 2) None) (one_int 5 ∷ [])

pub five_is_passed : Receives (receiver 2 (a_peer [] 0 word.Unused None) []) 0 (receiving.Passed 0 3) five_passed
five_is_passed = (
  one_int 5,
  record {
    of = 2;
    next = refl;
    table = refl;
    ring = refl;
    number_is = refl;
    decisions = refl;
    told = refl;
    looks = refl;
    popped = refl;
    items = (one_int 5 ∷ [], refl);
  },
)

pub and_it_is_not_taken : (s : ℕ) → Receives (receiver 2 (a_peer [] 0 word.Unused None) []) 0 (receiving.Took 0 (one_int 5) s) five_passed → ⊥
and_it_is_not_taken s h = passed_is_taken (ap (λ ds. (decision_at ds 0).outcome) h.decisions)

-- ---- one place: the withdrawn offer keeps its room until it is known to be passed

abbrev pub five_gone : Sending (List ℤ)
five_gone = sender (notes 1 (an_offer 1 (Some 2) None ∷ []) (None ∷ []) 0 word.Unused) (one_int 5 ∷ []) 0

pub no_room_for_six : Offers five_gone (one_int 6) 2 (offering.NoRoom (one_int 6)) five_gone
no_room_for_six = (refl, refl, refl)

pub it_is_undecided : Learns five_gone.notes 2 learning.Undecided (notes 1 (an_offer 1 (Some 2) None ∷ []) (None ∷ []) 1 (word.Withdrawn 2))
it_is_undecided = record {
  some = omega arith;
  not_heard = refl;
  not_told = omega arith;
  table = refl;
  offers = refl;
  heard = refl;
  told = refl;
  loads = omega arith;
  saw = refl;
}

abbrev pub room_again : OwnerNotes
room_again = notes 1 (an_offer 1 (Some 2) (Some 3) ∷ []) (Some 3 ∷ []) 2 (word.Passed 3)

pub there_is_room_again : Learns five_gone.notes 2 (learning.Room 0 4) room_again
there_is_room_again = (
  omega arith,
  refl,
  refl,
  record {
    of = 3;
    hears = record { table = refl; heard = refl; same = λ s e. absurd cc; told = refl; loads = omega arith };
    next = refl;
    offers = refl;
  },
)

pub six_is_offered : Offers (sender room_again (one_int 5 ∷ []) 1) (one_int 6) 4 (offering.Offered 1 5)
    (sender (notes 1 (an_offer 1 (Some 2) (Some 3) ∷ an_offer 5 None None ∷ []) (Some 3 ∷ None ∷ []) 2 (word.Passed 3)) (one_int 5 ∷ one_int 6 ∷ []) 0)
six_is_offered = (
  refl,
  refl,
  refl,
  record {
    ring = refl;
    notes = record { table = refl; offers = refl; heard = refl; told = refl; loads = omega arith };
    payloads = refl;
    free = omega arith;
  },
)

-- room is there by what is known, and not by what the words would tell
pub room_is_not_guessed : Offers five_gone (one_int 6) 2 (offering.Offered 1 3) (sender room_again (one_int 5 ∷ one_int 6 ∷ []) 0) → ⊥
room_is_not_guessed h = let e = h.0 in cc
