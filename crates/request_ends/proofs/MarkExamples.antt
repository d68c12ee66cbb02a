-- How the marks of the row keep which request comes next: before, between and after its two replies.
use Rattle.std.proofs.Common.{arith, ◌≡◌, List, [], ◌∷◌, Some, None, refl, inl, inr, ⊎_elim}
use Rattle.request_ends.specs.declared.asking.AskEnd.TheInside.{Inside}
use Rattle.request_ends.specs.declared.marks.Asked.{Asked}
use Rattle.request_ends.specs.declared.marks.Asked.TheVariants.{Open, Started, Gone}
use Rattle.request_ends.specs.Marking.{MarkSays, AllMarked, AreNoted, IsAsking, asking_of}
use Rattle.request_ends.proofs.RowExamples.{an_offer, seven, eight, a_ring, one_withdrawn, both_offers, both_sent, first_had}

-- ---- what a mark says

pub what_marks_say : MarkSays Open (an_offer 1 None None) × MarkSays Started (an_offer 1 None (Some 2)) × MarkSays Gone (an_offer 2 (Some 4) None)
what_marks_say = ((refl, refl), (refl, refl), refl)

pub not_started_before_it_is_known : MarkSays Started (an_offer 1 None None) → ⊥
not_started_before_it_is_known h = let e = h.1 in cc

pub not_open_once_it_is_known : MarkSays Open (an_offer 1 None (Some 2)) → ⊥
not_open_once_it_is_known h = let e = h.1 in cc

pub not_gone_unless_withdrawn : MarkSays Gone (an_offer 1 None (Some 2)) → ⊥
not_gone_unless_withdrawn h = cc

pub each_is_marked : AllMarked both_offers (Started ∷ Gone ∷ Started ∷ [])
each_is_marked = ((refl, refl), (refl, ((refl, refl), tt)))

pub one_is_not : AllMarked both_offers (Started ∷ Gone ∷ []) → ⊥
one_is_not h = h.1.1

-- ---- which requests are over

pub none_is_over : AreNoted 0 one_withdrawn.send.notes.offers [] (Open ∷ Gone ∷ Open ∷ [])
none_is_over = (refl, ((refl, refl), (refl, ((refl, refl), tt))))

-- the first has its reply and the second none; the third is next
pub two_are_over : AreNoted 2 both_offers (seven ∷ []) (Started ∷ [])
two_are_over = inr (refl, refl, (refl, (refl, ((refl, refl), tt))))

pub all_are_over : AreNoted 3 both_offers (seven ∷ eight ∷ []) []
all_are_over = inr (refl, refl, inl (refl, inr (refl, refl, (refl, tt))))

pub not_without_a_reply : AreNoted 1 both_offers [] (Gone ∷ Started ∷ []) → ⊥
not_without_a_reply h = let e = h.0 in cc

pub not_with_one_too_many : AreNoted 2 both_offers (seven ∷ eight ∷ []) (Started ∷ []) → ⊥
not_with_one_too_many h = ⊎_elim (λ a. let e = a.0 in cc) (λ a. ⊎_elim (λ b. let e = b.1.0 in cc) (λ b. let e = b.0 in cc) a.2) h

-- ---- the end of the requests

abbrev inside : List Asked → Inside
inside marks = record {
  send = both_sent;
  inbox = record { ring = a_ring 2; had = seven ∷ []; gathered = eight ∷ []; items = [] };
  marks = record { list = marks; places = 66 };
  replied = 1;
}

pub as_it_is_seen : asking_of (inside (Started ∷ [])) ≡ first_had
as_it_is_seen = refl

pub third_is_next : IsAsking (inside (Started ∷ []))
third_is_next = record { over = 2; noted = two_are_over; front = λ e. cc; one_each = refl; size = refl; few = omega arith; replied = refl }

-- the withdrawn one does not wait at the front
pub withdrawn_is_not_next : IsAsking (inside (Gone ∷ Started ∷ [])) → ⊥
withdrawn_is_not_next h = h.front refl
