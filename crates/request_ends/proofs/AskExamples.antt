-- What a request, its withdrawal and a look for its decision are answered in the row, and what they are not.
use Rattle.std.proofs.Common.{◌≡◌, ℕ, List, [], ◌∷◌, Option, Some, None, refl, ap, sym, subst, arith, inl, inr, ⊎_elim, map}
use Rattle.std.specs.Prelude.{slice_get}
use Rattle.ac_base.specs.Stamps.{stamp_after}
use Rattle.ac_links.specs.Views.{OwnerOffer}
use Rattle.core_channels.specs.declared.answers.Offering.TheVariants as offering
use Rattle.core_channels.specs.declared.answers.Learning.TheVariants as learning
use Rattle.core_channels.specs.declared.answers.Withdrawing.TheVariants as withdrawing
use Rattle.request_ends.specs.Asking.{Asking, requests_of}
use Rattle.request_ends.specs.Requesting.{IsRequested, Requests, NotesOnly, IsKnownIn, ListWithdraws, ListLearns}
use Rattle.request_ends.proofs.RowExamples.{an_offer, read, notes, sender, an_end, none_sent, two_asked, three_asked, one_withdrawn, third_known, both_known, both_had, all_known}

abbrev last : ℕ
last = 1152921504606846975

same_inside : {m n : ℕ} → Some m ≡ Some n → m ≡ n
same_inside h = cc

none_is_some : {n : ℕ} → None ≡ Some n → ⊥
none_is_some h = cc

-- the stamp of the withdrawal of a request, and that of the decision that is known
abbrev withdrawn_of : Option OwnerOffer → Option ℕ
withdrawn_of None = None
withdrawn_of (Some o) = o.withdrawn

abbrev known_of : Option OwnerOffer → Option ℕ
known_of None = None
known_of (Some o) = o.known

abbrev withdrawal : List OwnerOffer → ℕ → Option ℕ
withdrawal os n = withdrawn_of (slice_get os n)

abbrev decision : List OwnerOffer → ℕ → Option ℕ
decision os n = known_of (slice_get os n)

-- ---- a request

third_is_requested : IsRequested two_asked (read 3) 3 three_asked
third_is_requested = record {
  send = record {
    ring = refl;
    notes = record { table = refl; offers = refl; heard = refl; told = refl; loads = omega arith };
    payloads = refl;
    free = omega arith;
  };
  rest = refl;
  places = refl;
  list = refl;
}

pub third_is_offered : Requests two_asked (read 3) 2 (offering.Offered 2 3) three_asked
third_is_offered = (refl, refl, refl, third_is_requested)

pub not_under_another_number : Requests two_asked (read 3) 2 (offering.Offered 3 3) three_asked → ⊥
not_under_another_number h = let e = h.2 in omega (arith, e)

pub not_without_its_place : Requests two_asked (read 3) 2 (offering.Offered 2 3) (record three_asked { places = 62 }) → ⊥
not_without_its_place h = let e = h.3.places in omega (arith, e)

-- sixteen stand from the first one on that is not known
abbrev sixteen : Option ℕ → Asking
sixteen known = an_end (sender (notes (an_offer 1 None known ∷ map (λ n. an_offer n None None) (2 ∷ 3 ∷ 4 ∷ 5 ∷ 6 ∷ 7 ∷ 8 ∷ 9 ∷ 10 ∷ 11 ∷ 12 ∷ 13 ∷ 14 ∷ 15 ∷ 16 ∷ [])) [])
    (map read (1 ∷ 2 ∷ 3 ∷ 4 ∷ 5 ∷ 6 ∷ 7 ∷ 8 ∷ 9 ∷ 10 ∷ 11 ∷ 12 ∷ 13 ∷ 14 ∷ 15 ∷ 16 ∷ [])) 0) [] [] [] 48

pub no_room_for_another : Requests (sixteen None) (read 3) 16 (offering.NoRoom (read 3)) (sixteen None)
no_room_for_another = (refl, refl, refl)

pub room_once_the_first_is_known : Requests (sixteen (Some 17)) (read 3) 18 (offering.NoRoom (read 3)) (sixteen (Some 17)) → ⊥
room_once_the_first_is_known h = let e = h.0 in cc

-- its slot is not known to be free, or there is no place to note it
pub no_slot_is_known : Requests (sixteen (Some 17)) (read 3) 18 (offering.NotYet (read 3)) (sixteen (Some 17))
no_slot_is_known = (refl, (19, refl), inl refl, refl, refl)

pub no_place_is_left : Requests (an_end none_sent [] [] [] 0) (read 1) 0 (offering.NotYet (read 1)) (an_end none_sent [] [] [] 0)
no_place_is_left = (refl, (1, refl), inr refl, refl, refl)

pub both_are_there : Requests two_asked (read 3) 2 (offering.NotYet (read 3)) two_asked → ⊥
both_are_there h = ⊎_elim (λ (e : two_asked.send.free ≡ 0). omega (arith, e)) (λ (e : two_asked.places ≡ 0). omega (arith, e)) h.2

pub no_stamp_for_a_request : Requests two_asked (read 3) last (offering.ClockFull (read 3)) two_asked
no_stamp_for_a_request = (refl, refl, refl, refl)

pub a_stamp_is_left : Requests two_asked (read 3) 2 (offering.ClockFull (read 3)) two_asked → ⊥
a_stamp_is_left h = let e = h.1 in cc

-- ---- its withdrawal

pub second_is_withdrawn : ListWithdraws (requests_of three_asked) 1 3 (withdrawing.Withdrawn 4) (requests_of one_withdrawn)
second_is_withdrawn = refl

pub not_with_another_stamp : ListWithdraws (requests_of three_asked) 1 3 (withdrawing.Withdrawn 5) (requests_of one_withdrawn) → ⊥
not_with_another_stamp h = let e = same_inside (ap (λ os. withdrawal os 1) h) in omega (arith, e)

-- the third was taken with stamp 6, and this is known with stamp 7
pub third_was_taken : ListWithdraws (requests_of one_withdrawn) 2 4 (withdrawing.Taken 7) (requests_of third_known)
third_was_taken = (6, refl, refl)

pub and_is_not_withdrawn : ListWithdraws (requests_of one_withdrawn) 2 4 (withdrawing.Withdrawn 7) (requests_of third_known) → ⊥
and_is_not_withdrawn h = none_is_some (ap (λ os. withdrawal os 2) h)

pub no_stamp_for_a_withdrawal : ListWithdraws (requests_of three_asked) 1 last withdrawing.ClockFull (requests_of three_asked)
no_stamp_for_a_withdrawal = refl

pub none_is_withdrawn_without : ListWithdraws (requests_of three_asked) 1 last withdrawing.ClockFull (requests_of one_withdrawn) → ⊥
none_is_withdrawn_without h = let e = ap (λ os. withdrawal os 1) h in cc

-- ---- its decision

pub first_is_known : IsKnownIn (requests_of third_known) 7 0 8 (requests_of both_known)
first_is_known = (2, refl, refl)

pub not_of_another_request : IsKnownIn (requests_of third_known) 7 1 8 (requests_of both_known) → ⊥
not_of_another_request h = let e = ap (λ os. decision os 0) h.2 in cc

-- its stamp is the next, also after that of the decision
pub not_with_a_later_stamp : IsKnownIn (requests_of third_known) 7 0 9 (requests_of both_known) → ⊥
not_with_a_later_stamp h = let of : 2 ≡ h.0 = same_inside (ap (λ os. decision os 0) h.2) in next h.0 of h.1
  where
    next : (of : ℕ) → 2 ≡ of → stamp_after 7 of ≡ Some 9 → ⊥
    next of e n = let at : stamp_after 7 2 ≡ Some 9 = subst (λ k. stamp_after 7 k ≡ Some 9) (sym e) n in let f = same_inside at in omega (arith, f)

pub it_is_learned : ListLearns (requests_of third_known) 7 (learning.Know 0 8) (requests_of both_known)
it_is_learned = first_is_known

pub second_has_room_again : ListLearns (requests_of both_had) 10 (learning.Room 1 11) (requests_of all_known)
second_has_room_again = (5, refl, refl)

pub room_is_of_the_second : ListLearns (requests_of both_had) 10 (learning.Room 2 11) (requests_of all_known) → ⊥
room_is_of_the_second h = let e = ap (λ os. decision os 1) h.2 in cc

pub nothing_is_learned : ListLearns (requests_of three_asked) 3 learning.Undecided (requests_of three_asked)
    × ListLearns (requests_of all_known) 11 learning.AllKnown (requests_of all_known)
    × ListLearns (requests_of both_had) last learning.ClockFull (requests_of both_had)
nothing_is_learned = (refl, refl, refl)

pub undecided_notes_nothing : ListLearns (requests_of third_known) 7 learning.Undecided (requests_of both_known) → ⊥
undecided_notes_nothing h = let e = ap (λ os. decision os 0) h in cc

-- ---- what stays as it was

pub its_withdrawal_is_noted : NotesOnly three_asked one_withdrawn
its_withdrawal_is_noted = refl

pub no_reply_comes_with_it : NotesOnly both_known both_had → ⊥
no_reply_comes_with_it h = let e = ap (λ (a : Asking). a.replies) h in cc
