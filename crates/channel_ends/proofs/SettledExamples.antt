-- A pair once it is settled, and as it is made: two places, 5 is offered, withdrawn and passed, and 6 is offered and taken.
use Rattle.std.proofs.Common.{◌≡◌, ℕ, zero, suc, ◌<◌, List, [], ◌∷◌, Some, None, true, false, refl, sym, ap, subst, arith, ℤ}
use Rattle.std.specs.Prelude.{pos}
use Rattle.std.specs.List.{All}
use Rattle.std.proofs.lemmas.List.Elements.{All-nil, All-cons}
use Rattle.ac_base.specs.declared.entry.Payload.{Payload}
use Rattle.ac_base.specs.declared.entry.Payload.TheVariants.{Int}
use Rattle.ac_links.specs.Payloads.{Taking, carries, is_payload}
use Rattle.ac_links.specs.Payloads.Taking.{Message}
use Rattle.completion_word.specs.declared.answers.Look.TheVariants as look
use Rattle.completion_word.specs.declared.seats.OwnerSeat.{OwnerSeat}
use Rattle.completion_word.specs.declared.seats.PeerSeat.{PeerSeat}
use Rattle.completion_word.specs.declared.standing.Standing.TheVariants as word
use Rattle.completion_word.specs.declared.views.Decision.{Decision}
use Rattle.completion_word.specs.declared.views.DecisionKind.TheVariants as outcome
use Rattle.completion_word.specs.Link.{Answered, decision, decision_at}
use Rattle.completion_word.specs.Seats.{peer_of}
use Rattle.channel_ends.specs.Sending.{MadeOffer, OwnerNotes, Sending, made_at, made_offer, heard_of}
use Rattle.channel_ends.specs.Receiving.{Receiving}
use Rattle.channel_ends.specs.Pairs.{IsNewSend, IsNewRecv, IsSameSend, IsSameRecv, IsSettledSend, IsSettledRecv}
use Rattle.channel_ends.specs.Settled.{stamp_of, IsTrueOf, AreOfOneLink, AreEnds, AreSettled, owner_offers, taking_by, peer_decisions, IsTakenAs, AreTakenAs, MakeALink}
use Rattle.channel_ends.proofs.OneLink.{makes_a_link}
use Rattle.channel_ends.proofs.Examples.{one_int, words_of, a_ring, an_offer, notes, sender, a_peer}

-- ---- a pair as it is made

abbrev pub new_send : OwnerSeat → Sending (List ℤ)
new_send seat = record {
  ring = a_ring;
  notes = record { table = seat.seat.table_id; offers = []; heard = []; told = 0; loads = 0; saw = word.Unused };
  payloads = [];
  free = 2;
}

pub it_is_new : (seat : OwnerSeat) → IsNewSend seat 2 (new_send seat)
it_is_new seat = record { table = refl; offers = refl; heard = refl; payloads = refl; free = refl }

pub not_with_one_slot : (seat : OwnerSeat) → IsNewSend seat 1 (new_send seat) → ⊥
not_with_one_slot seat h = let e = h.free in omega arith

abbrev pub new_recv : PeerSeat → List (List ℤ) → Receiving (List ℤ)
new_recv seat items = record { table = seat.seat.table_id; ring = a_ring; peer = peer_of seat; popped = []; items = items }

pub nothing_is_known : (seat : PeerSeat) → IsNewRecv seat (new_recv seat [])
nothing_is_known seat = record { table = refl; peer = refl; popped = refl; items = refl }

pub no_item_is_known : (seat : PeerSeat) → IsNewRecv seat (new_recv seat (one_int 5 ∷ [])) → ⊥
no_item_is_known seat h = let e = h.items in cc

pub one_just_made : made_offer 3 ≡ an_offer 3 None None
one_just_made = refl

-- ---- the two ends, after a settling

abbrev pub both_offers : List MadeOffer
both_offers = an_offer 1 (Some 2) None ∷ an_offer 3 None None ∷ []

abbrev pub both_decisions : List Decision
both_decisions = decision (outcome.Passed 3) 2 ∷ decision (outcome.Taken 4) 3 ∷ []

abbrev pub settled_notes : OwnerNotes
settled_notes = record (notes 2 both_offers (None ∷ None ∷ []) 0 word.Unused) { told = 2 }

abbrev pub settled_send : Sending (List ℤ)
settled_send = sender settled_notes (one_int 5 ∷ one_int 6 ∷ []) 2

abbrev pub settled_recv : List (List ℤ) → Receiving (List ℤ)
settled_recv popped = record {
  table = words_of 2;
  ring = a_ring;
  peer = record (a_peer both_decisions 3 word.Unused None) { told_offers = 2 };
  popped = popped;
  items = [];
}

pub they_are_ends_of_one_pair : AreEnds settled_send (settled_recv (one_int 5 ∷ one_int 6 ∷ []))
they_are_ends_of_one_pair = (refl, refl)

pub not_with_other_words : AreEnds (sender (record settled_notes { table = words_of 3 }) [] 2) (settled_recv []) → ⊥
not_with_other_words h = let e = ap (λ t. t.words) h.0 in omega arith

both_answered : (k : ℕ) → k < 2 → Answered (made_at both_offers k).stamp (made_at both_offers k).withdrawn (decision_at both_decisions k)
both_answered zero l = (3, omega arith, refl)
both_answered (suc zero) l = (4, omega arith, refl)
both_answered (suc (suc k)) l = absurd (omega arith)

withdrawn_later : (k : ℕ) → k < 2 → (w : ℕ) → (made_at both_offers k).withdrawn ≡ Some w → (made_at both_offers k).stamp < w
withdrawn_later zero l w e = let same : 2 ≡ w = cc in omega arith
withdrawn_later (suc zero) l w e = absurd cc
withdrawn_later (suc (suc k)) l w e = absurd (omega arith)

none_known : (k : ℕ) → k < 2 → (t : ℕ) → (made_at both_offers k).known ≡ Some t → heard_of settled_notes k ≡ Some t
none_known zero l t e = absurd cc
none_known (suc zero) l t e = absurd cc
none_known (suc (suc k)) l t e = absurd (omega arith)

none_heard : (k : ℕ) → k < 2 → (t : ℕ) → heard_of settled_notes k ≡ Some t → (k < 2) × (stamp_of (decision_at both_decisions k).outcome ≡ t)
none_heard zero l t e = absurd cc
none_heard (suc zero) l t e = absurd cc
none_heard (suc (suc k)) l t e = absurd (omega arith)

pub of_one_link : AreOfOneLink settled_notes both_decisions None
of_one_link = record {
  decided_offered = omega arith;
  answered = both_answered;
  withdrawn_later = withdrawn_later;
  known_heard = none_known;
  heard_true = none_heard;
  seen_true = λ shown e. absurd cc;
}

pub the_look_is_true : IsTrueOf both_offers 1 (look.Offered 3)
the_look_is_true = (omega arith, refl)

pub no_look_of_another_stamp : IsTrueOf both_offers 1 (look.Offered 4) → ⊥
no_look_of_another_stamp h = let e = h.1 in omega arith

pub they_are_settled : AreSettled settled_send (settled_recv (one_int 5 ∷ one_int 6 ∷ []))
they_are_settled = record {
  decisions_told = refl;
  offers_told = refl;
  in_order = refl;
  one_popped = refl;
  one_sent = refl;
  free_slots = omega arith;
  one_link = of_one_link;
}

-- an item that was popped without having been pushed
pub not_with_another_item : AreSettled settled_send (settled_recv (one_int 5 ∷ one_int 7 ∷ [])) → ⊥
not_with_another_item h = let e = h.in_order in cc

pub it_was_settled : IsSettledSend (sender (record settled_notes { told = 0 }) (one_int 5 ∷ one_int 6 ∷ []) 0) settled_send
it_was_settled = record { ring = refl; payloads = refl; free = omega arith; notes = refl }

pub no_item_is_lost : IsSettledSend settled_send (sender settled_notes (one_int 5 ∷ []) 2) → ⊥
no_item_is_lost h = let e = h.payloads in cc

pub its_decisions_stay : IsSettledRecv (settled_recv (one_int 5 ∷ one_int 6 ∷ [])) (settled_recv (one_int 5 ∷ one_int 6 ∷ []))
its_decisions_stay = record { table = refl; ring = refl; peer = refl; popped = refl; items = ([], refl) }

pub nothing_is_popped : IsSettledRecv (settled_recv (one_int 5 ∷ [])) (settled_recv (one_int 5 ∷ one_int 6 ∷ [])) → ⊥
nothing_is_popped h = let e = h.popped in cc

pub the_same_send : IsSameSend settled_send (sender settled_notes [] 0)
the_same_send = record { table = refl; ring = refl }

pub the_same_recv : IsSameRecv (settled_recv []) (settled_recv (one_int 5 ∷ []))
the_same_recv = record { table = refl; ring = refl }

-- ---- and the link that they make

abbrev pub a_message : List ℤ → Payload
a_message x = Int x

abbrev pub as_sent : ℕ → List ℤ → Taking
as_sent k x = Message x

pub both_are_offered : owner_offers a_message (one_int 5 ∷ one_int 6 ∷ []) both_offers
    ≡ record { payload = Int (pos 5 ∷ []); stamp = 1; withdrawn = Some 2; known = None; reply = None }
    ∷ record { payload = Int (pos 6 ∷ []); stamp = 3; withdrawn = None; known = None; reply = None } ∷ []
both_are_offered = refl

pub both_are_decided : peer_decisions as_sent 0 (one_int 5 ∷ one_int 6 ∷ []) both_decisions
    ≡ record { value = None; stamp = 3; answers = 2 } ∷ record { value = Some (Message (one_int 6)); stamp = 4; answers = 3 } ∷ []
both_are_decided = refl

pub nothing_is_taken_of_a_passed_one : taking_by (Message (one_int 5)) (outcome.Passed 3) ≡ None
nothing_is_taken_of_a_passed_one = refl

pub six_is_taken_as_sent : AreTakenAs a_message as_sent 0 (one_int 5 ∷ one_int 6 ∷ []) both_decisions
six_is_taken_as_sent = (tt, (refl, tt))

pub not_as_another : IsTakenAs a_message (λ k x. Message (one_int 7)) 1 (one_int 6) (outcome.Taken 4) → ⊥
not_as_another h = cc

pub they_make_a_link : MakeALink settled_send (settled_recv (one_int 5 ∷ one_int 6 ∷ []))
they_make_a_link = makes_a_link settled_send (settled_recv (one_int 5 ∷ one_int 6 ∷ [])) they_are_settled

-- with a taking of 7 where 6 was sent they make none
pub no_link_with_another : MakeALink settled_send (settled_recv (one_int 5 ∷ one_int 7 ∷ [])) → ⊥
no_link_with_another h = let fits = (h false a_message as_sent both_sent (tt, (refl, tt))).agree.1.0.1 in never fits.0 fits.1 fits.2
  where
    IsSent : List ℤ → Type 0
    IsSent x = is_payload false (a_message x) ≡ true

    both_sent : All IsSent (one_int 5 ∷ one_int 6 ∷ [])
    both_sent = All-cons IsSent (one_int 5) (one_int 6 ∷ []) refl (All-cons IsSent (one_int 6) [] refl (All-nil IsSent))

    not_so : false ≡ true → ⊥
    not_so e = cc

    never : (g : Taking) → Some (Message (one_int 7)) ≡ Some g → carries g (Int (pos 6 ∷ [])) ≡ true → ⊥
    never g e c = let same : Message (one_int 7) ≡ g = cc in not_so (subst (λ (g : Taking). carries g (Int (pos 6 ∷ [])) ≡ true) (sym same) c)
