-- The answers that make no entry, and what an end knows: with clocks at their last stamp, without a slot, and with nothing to see.
use Rattle.std.proofs.Common.{ℕ, true, [], ◌∷◌, Some, None, refl, arith, inl, inr, ⊎_elim}
use Rattle.completion_word.specs.declared.answers.Look.TheVariants as look
use Rattle.completion_word.specs.declared.standing.Standing.TheVariants as word
use Rattle.core_channels.specs.declared.answers.Offering.TheVariants as offering
use Rattle.core_channels.specs.declared.answers.Learning.TheVariants as learning
use Rattle.core_channels.specs.declared.answers.Withdrawing.TheVariants as withdrawing
use Rattle.core_channels.specs.declared.answers.Receiving.TheVariants as receiving
use Rattle.channel_ends.specs.Sending.{OwnerNotes}
use Rattle.channel_ends.specs.Offers.{Offers}
use Rattle.channel_ends.specs.Learns.{Learns, IsHeardOnly}
use Rattle.channel_ends.specs.Withdraws.{Withdraws, IsNotTried}
use Rattle.channel_ends.specs.Receiving.{Receives, Sees}
use Rattle.channel_ends.proofs.Examples.{one_int, an_offer, notes, sender, a_peer, receiver, new_one, five_offered, five_known}

abbrev last : ℕ
last = 1152921504606846975

-- ---- an offer

pub no_stamp_for_an_offer : Offers new_one (one_int 5) last (offering.ClockFull (one_int 5)) new_one
no_stamp_for_an_offer = (refl, refl, refl, refl)

pub a_stamp_is_left : Offers new_one (one_int 5) 0 (offering.ClockFull (one_int 5)) new_one → ⊥
a_stamp_is_left h = let e = h.1 in cc

pub no_slot_is_known : Offers (sender (notes 1 [] [] 0 word.Unused) [] 0) (one_int 5) 0 (offering.NotYet (one_int 5)) (sender (notes 1 [] [] 0 word.Unused) [] 0)
no_slot_is_known = (refl, (1, refl), refl, refl, refl)

pub a_slot_is_known : Offers new_one (one_int 5) 0 (offering.NotYet (one_int 5)) new_one → ⊥
a_slot_is_known h = let e = h.2 in omega arith

-- ---- what is learned

pub five_is_known : Learns five_offered.notes 1 (learning.Know 0 3) (notes 1 (an_offer 1 None (Some 2) ∷ []) (Some 2 ∷ []) 1 (word.Taken 2))
five_is_known = (
  omega arith,
  refl,
  refl,
  record {
    of = 2;
    hears = record { table = refl; heard = refl; same = λ s e. absurd cc; told = refl; loads = omega arith };
    next = refl;
    offers = refl;
  },
)

pub all_are_known : Learns five_known 3 learning.AllKnown five_known
all_are_known = (refl, refl)

pub one_is_not_known : Learns five_offered.notes 1 learning.AllKnown five_offered.notes → ⊥
one_is_not_known h = let e = h.0 in omega arith

-- it was taken with the last stamp, which is kept
abbrev pub heard_last : OwnerNotes
heard_last = notes 1 (an_offer 1 None None ∷ []) (Some last ∷ []) 1 (word.Taken last)

pub heard_without_a_stamp : IsHeardOnly five_offered.notes 1 0 heard_last
heard_without_a_stamp = record {
  of = last;
  hears = record { table = refl; heard = refl; same = λ s e. absurd cc; told = refl; loads = omega arith };
  none = refl;
  offers = refl;
}

pub no_stamp_to_know_it : Learns five_offered.notes 1 learning.ClockFull heard_last
no_stamp_to_know_it = (omega arith, heard_without_a_stamp)

-- ---- a withdrawal

pub no_stamp_after_the_taking : Withdraws five_offered.notes 0 1 withdrawing.ClockFull heard_last
no_stamp_after_the_taking = inr heard_without_a_stamp

pub no_stamp_for_a_withdrawal : Withdraws five_offered.notes 0 last withdrawing.ClockFull five_offered.notes
no_stamp_for_a_withdrawal = inl (record { none = refl; after = refl })

pub a_stamp_was_left : Withdraws five_offered.notes 0 1 withdrawing.ClockFull five_offered.notes → ⊥
a_stamp_was_left h = ⊎_elim (λ (n : IsNotTried five_offered.notes 1 five_offered.notes). let e = n.none in cc)
    (λ (n : IsHeardOnly five_offered.notes 1 0 five_offered.notes). let e = n.hears.heard in cc) h

-- ---- what is received

pub nothing_is_seen : Receives (receiver 1 (a_peer [] 0 word.Unused None) []) 0 receiving.Nothing (receiver 1 (a_peer [] 1 word.Unused (Some look.Nothing)) [])
nothing_is_seen = (
  record { table = refl; ring = refl; decisions = refl; told = refl; looks = refl; popped = refl; items = ([], refl) },
  refl,
  omega arith,
)

pub not_after_one_was_told_of : Receives (receiver 1 (record (a_peer [] 0 word.Unused None) { told_offers = 1 }) []) 0 receiving.Nothing
    (receiver 1 (record (a_peer [] 1 word.Unused (Some look.Nothing)) { told_offers = 1 }) []) → ⊥
not_after_one_was_told_of h = let l = h.2 in omega arith

pub its_item_is_not_known : Receives (receiver 1 (a_peer [] 0 word.Unused None) []) 0 receiving.NotYet
    (receiver 1 (a_peer [] 1 (word.Offered 1) (Some (look.Offered 1))) [])
its_item_is_not_known = (
  record { table = refl; ring = refl; decisions = refl; told = refl; looks = refl; popped = refl; items = ([], refl) },
  λ e. cc,
  refl,
)

pub none_was_seen : Receives (receiver 1 (a_peer [] 0 word.Unused None) []) 0 receiving.NotYet (receiver 1 (a_peer [] 1 word.Unused (Some look.Nothing)) []) → ⊥
none_was_seen h = h.1 refl

-- a look alone
pub one_stands_there : Sees (receiver 1 (a_peer [] 0 word.Unused None) []) true (receiver 1 (a_peer [] 1 (word.Offered 1) (Some (look.Offered 1))) [])
one_stands_there = (
  record { table = refl; ring = refl; decisions = refl; told = refl; looks = refl; popped = refl; items = ([], refl) },
  λ e. cc,
)

pub none_stands_there : Sees (receiver 1 (a_peer [] 0 word.Unused None) []) true (receiver 1 (a_peer [] 1 word.Unused (Some look.Nothing)) []) → ⊥
none_stands_there h = h.1 refl

pub no_stamp_to_take_it : Receives (receiver 1 (a_peer [] 0 word.Unused None) []) last receiving.ClockFull
    (receiver 1 (a_peer [] 1 (word.Offered 1) (Some (look.Offered 1))) [])
no_stamp_to_take_it = (
  record { table = refl; ring = refl; decisions = refl; told = refl; looks = refl; popped = refl; items = ([], refl) },
  record { shown = look.Offered 1; last_look = refl; some = λ e. cc; none = refl },
)
