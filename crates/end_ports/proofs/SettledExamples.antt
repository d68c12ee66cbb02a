-- What is told once ends are settled, by numbers: on channel 0, of four places, 5 was withdrawn and passed and 6 stands; and of two requests
-- one was done, and its reply was put on the ring. Nothing may be told that is not so, and nothing that is at hand may be left out.
use Rattle.std.proofs.Common.{◌≡◌, ◌≤◌, ℕ, List, [], ◌∷◌, Option, Some, None, Bool, true, false, refl, ap, sym, subst, ◌∙◌, arith, length, map, nat_lt}
use Rattle.std.specs.Prelude.{pos}
use Rattle.std.proofs.lemmas.List.Elements.{All-nil, All-cons}
use Rattle.ac_base.specs.declared.entry.Payload.{Payload}
use Rattle.ac_base.specs.declared.entry.Payload.TheVariants.{Int}
use Rattle.ac_links.specs.Views.{Response, OwnerOffer, PeerDecision, owner_lead}
use Rattle.ac_links.specs.Party.LinkEnd.{Owns, Decides}
use Rattle.core_channels.specs.LinkViews.{AreViews, IsOffer}
use Rattle.core_ports.specs.Ends.{greatest, last_stamp_of}
use Rattle.completion_word.specs.declared.answers.Look.{Look}
use Rattle.completion_word.specs.declared.answers.Look.TheVariants as look
use Rattle.completion_word.specs.declared.standing.Standing.TheVariants as word
use Rattle.completion_word.specs.declared.views.Decision.{Decision}
use Rattle.completion_word.specs.declared.views.DecisionKind.TheVariants as outcome
use Rattle.completion_word.specs.Link.{decision}
use Rattle.channel_ends.specs.Sending.{MadeOffer}
use Rattle.channel_ends.specs.Receiving.{Receiving}
use Rattle.channel_ends.proofs.Examples.{one_int, words_of, a_ring, an_offer, notes, sender, a_peer, receiver}
use Rattle.channel_ends.proofs.SettledExamples.{both_offers, both_decisions}
use Rattle.request_ends.specs.Asking.{Asking}
use Rattle.request_ends.specs.Replying.{Replying}
use Rattle.end_ports.specs.Held.{SendingAt, ReceivingAt, AskingAt, HeldEnd, Held}
use Rattle.end_ports.specs.Held.HeldEnd.{OfSend, OfRecv, OfAsk, NotHeld}
use Rattle.end_ports.specs.OnLinks.{on_send, on_recv}
use Rattle.end_ports.specs.SettledLinks.{IsQuiet, IsSettled, HavePair, Settles, SettlesRequests, IsSettledAsk}
use Rattle.end_ports.proofs.Examples.{sends_on, receives_on, asks_on, offer_of, read, seven, requested, asks, two_decided, other_ring, ring_number}
use Rattle.end_ports.proofs.Placing.{send_only}
use Rattle.end_ports.proofs.Telling.{settles}
use Rattle.end_ports.proofs.Pairing.{settles_requests}

-- ---- the two ends of a channel of four places

-- with what was heard of the first decision, with so many decisions told of, and so many slots known to be free
abbrev sent_with : Option ℕ → ℕ → ℕ → SendingAt
sent_with heard told free = sends_on 0 (sender (record (notes 4 both_offers (heard ∷ None ∷ []) 1 (word.Passed 3)) { told = told }) (one_int 5 ∷ one_int 6 ∷ []) free)

abbrev received_with : List Decision → Option Look → ℕ → ReceivingAt
received_with decisions seen told = receives_on 0 (receiver 4 (record (a_peer decisions 3 (word.Offered 3) seen) { told_offers = told }) (one_int 5 ∷ []))

abbrev five_passed : List Decision
five_passed = decision (outcome.Passed 3) 2 ∷ []

-- before a settling, and after it
abbrev unsettled : SendingAt
unsettled = sent_with (Some 3) 0 1

abbrev settled : SendingAt
settled = sent_with (Some 3) 1 3

abbrev seen_six : ReceivingAt
seen_six = received_with five_passed (Some (look.Offered 3)) 2

abbrev five : OwnerOffer
five = offer_of (Int (pos 5 ∷ [])) 1 (Some 2) None

abbrev six : OwnerOffer
six = offer_of (Int (pos 6 ∷ [])) 3 None None

abbrev passed : PeerDecision
passed = record { value = None; stamp = 3; answers = 2 }

pub last_stamps : last_stamp_of five ∷ last_stamp_of six ∷ [] ≡ 2 ∷ 3 ∷ []
last_stamps = refl

pub only_what_is_at_hand_changes : IsQuiet (on_send unsettled) (on_send settled)
only_what_is_at_hand_changes = record { terms = refl; end = refl; heard = refl; polls = refl; tries = refl }

pub no_call_is_counted : IsQuiet (on_send unsettled) (on_send (record settled { polls = 8 })) → ⊥
no_call_is_counted h = let e = h.polls in omega (arith, e)

they_are_views : AreViews false (five ∷ six ∷ []) (passed ∷ [])
they_are_views = record {
  agree = ((omega arith, (refl, refl), tt, omega arith, tt), (refl, refl, tt));
  each = All-cons (IsOffer false) five (six ∷ []) (record { carried = refl; later = omega arith })
      (All-cons (IsOffer false) six [] (record { carried = refl; later = tt }) (All-nil (IsOffer false)));
}

pub they_are_settled : IsSettled (on_send settled) (on_recv seen_six)
they_are_settled = record {
  offers = five ∷ six ∷ [];
  decisions = passed ∷ [];
  owns = refl;
  decides = refl;
  views = they_are_views;
  decision = refl;
  slot = λ room. refl;
  front = refl;
  heard_by_owner = omega arith;
  heard_by_peer = omega arith;
}

-- the lists are those of the ends
offers_are : {os ps : List OwnerOffer} → Owns os ≡ Owns ps → os ≡ ps
offers_are e = cc

decisions_are : {ds es : List PeerDecision} → Decides ds ≡ Decides es → ds ≡ es
decisions_are e = cc

-- a decision is not told though there is one
pub no_decision_is_left_out : IsSettled (on_send (sent_with (Some 3) 0 3)) (on_recv seen_six) → ⊥
no_decision_is_left_out h =
    let e : false ≡ true = h.decision ∙ ap (λ os. nat_lt (owner_lead os) (length h.decisions)) (sym (offers_are h.owns)) ∙ ap (λ ds. nat_lt 0 (length ds)) (sym (decisions_are h.decides)) in cc

-- nor a slot, though there is room
pub no_slot_is_left_out : IsSettled (on_send (sent_with (Some 3) 1 0)) (on_recv seen_six) → ⊥
no_slot_is_left_out h = let e = h.slot refl in cc

-- nor an offer that stands; and none is told that is decided
pub no_front_is_left_out : IsSettled (on_send settled) (on_recv (received_with five_passed (Some (look.Offered 3)) 1)) → ⊥
no_front_is_left_out h =
    let e : false ≡ true = h.front ∙ ap (λ ds. nat_lt (length ds) (length h.offers)) (sym (decisions_are h.decides)) ∙ ap (λ os. nat_lt 1 (length os)) (sym (offers_are h.owns)) in cc

abbrev both_taken : ℕ → ReceivingAt
both_taken told = receives_on 0 (receiver 4 (record (a_peer both_decisions 4 word.Unused None) { told_offers = told }) (one_int 5 ∷ one_int 6 ∷ []))

pub no_front_that_is_decided : IsSettled (on_send settled) (on_recv (both_taken 3)) → ⊥
no_front_that_is_decided h =
    let e : true ≡ false = h.front ∙ ap (λ ds. nat_lt (length ds) (length h.offers)) (sym (decisions_are h.decides)) ∙ ap (λ os. nat_lt 2 (length os)) (sym (offers_are h.owns)) in cc

-- of a stamp that the other side has not made nothing was heard
pub no_stamp_of_no_decision : IsSettled (on_send (sent_with (Some 9) 1 3)) (on_recv seen_six) → ⊥
no_stamp_of_no_decision h =
    let l : 9 ≤ 3 = subst (λ ds. 9 ≤ greatest (λ (d : PeerDecision). d.stamp) ds) (sym (decisions_are h.decides)) h.heard_by_owner in omega (arith, l)

pub nor_of_no_offer : IsSettled (on_send settled) (on_recv (received_with five_passed (Some (look.Offered 9)) 2)) → ⊥
nor_of_no_offer h = let l : 9 ≤ 3 = subst (λ os. 9 ≤ greatest last_stamp_of os) (sym (offers_are h.owns)) h.heard_by_peer in omega (arith, l)

-- ---- in the ports of two cores

abbrev none_asked : Asking
none_asked = asks (requested [] [] 0 []) [] []

abbrev sends : SendingAt → Held
sends s = record { sends = s ∷ []; recvs = []; ask = asks_on 1 false none_asked; full = false }

abbrev receives : ReceivingAt → Held
receives r = record { sends = []; recvs = r ∷ []; ask = asks_on 2 false none_asked; full = false }

pub they_have_a_pair : HavePair (sends unsettled) (receives seen_six) 0
they_have_a_pair = record {
  send = unsettled;
  recv = seen_six;
  sends = refl;
  from_asks = λ e. omega (arith, e);
  recvs = refl;
  to_sends = refl;
  to_asks = λ e. omega (arith, e);
  ends = (refl, refl);
}

pub not_on_another_link : HavePair (sends unsettled) (receives seen_six) 1 → ⊥
not_on_another_link h = h.from_asks refl

abbrev words_sent : Option SendingAt → ℕ
words_sent None = 0
words_sent (Some s) = s.end.notes.table.words

abbrev words_received : Option ReceivingAt → ℕ
words_received None = 0
words_received (Some r) = r.end.table.words

-- the ends of a channel of four places and of one of two
pub not_of_two_pairs : HavePair (sends unsettled) (receives (receives_on 0 (two_decided 2 None))) 0 → ⊥
not_of_two_pairs h = let e : 4 ≡ 2 = ap words_sent h.sends ∙ ap (λ t. t.words) h.ends.0 ∙ sym (ap words_received h.recvs) in omega (arith, e)

pub it_settles : Settles (sends unsettled) 0 (sends settled)
it_settles = settles (sends unsettled) 0 (sends settled)
    (send_only (sends unsettled) 0 0 unsettled settled refl refl (record { link = refl; end = record { table = refl; ring = refl } })) only_what_is_at_hand_changes

pub no_poll_is_counted : Settles (sends unsettled) 0 (sends (record settled { polls = 8 })) → ⊥
no_poll_is_counted h = let e : 8 ≡ 7 = ap (λ (f : ℕ → ℕ). f 0) h.polls in omega (arith, e)

abbrev asks_settled : HeldEnd → Bool
asks_settled (OfSend s) = false
asks_settled (OfRecv r) = false
asks_settled (OfAsk a) = a.settled
asks_settled NotHeld = false

pub no_other_link_changes : Settles (sends unsettled) 0 (record (sends settled) { ask = asks_on 1 true none_asked }) → ⊥
no_other_link_changes h = let e : true ≡ false = ap asks_settled (h.others 1 (λ f. omega (arith, f))) in cc

pub not_with_another_ring : Settles (sends unsettled) 0 (sends (record settled { end = record settled.end { ring = other_ring } })) → ⊥
not_with_another_ring h = let e : 2 ≡ 1 = ap ring_number h.stays.sends.0.end.ring in omega (arith, e)

-- ---- the requests: the first was done with stamp 2, and the second stands

abbrev two_requests : List MadeOffer
two_requests = an_offer 1 None (Some 2) ∷ an_offer 3 None None ∷ []

-- with so many decisions told of, and these replies gathered and on the ring
abbrev ask_with : Bool → ℕ → List Response → List Response → AskingAt
ask_with done told gathered items = asks_on 1 done (asks (requested two_requests (Some 2 ∷ None ∷ []) told (read 1 ∷ read 2 ∷ [])) gathered items)

abbrev of_nine : Response
of_nine = record seven { of = 9 }

abbrev worker : Receiving Payload
worker = record { table = words_of 16; ring = a_ring; peer = a_peer (decision (outcome.Taken 2) 1 ∷ []) 1 word.Unused None; popped = read 1 ∷ []; items = [] }

abbrev replying : Replying
replying = record { ring = a_ring; replies = seven ∷ []; free = 16 }

pub requests_are_settled : IsSettledAsk (ask_with true 1 (seven ∷ []) []) worker replying
requests_are_settled = record { decision = refl; slot = λ room. refl; reply = refl; heard = omega arith; few = omega arith }

pub no_reply_is_left_out : IsSettledAsk (ask_with true 1 [] (seven ∷ [])) worker replying → ⊥
no_reply_is_left_out h = let e = h.reply in cc

pub no_place_is_left_out : IsSettledAsk (ask_with false 1 (seven ∷ []) []) worker replying → ⊥
no_place_is_left_out h = let e = h.slot refl in cc

pub no_decision_that_is_none : IsSettledAsk (ask_with true 2 (seven ∷ []) []) worker replying → ⊥
no_decision_that_is_none h = let e = h.decision in cc

pub no_stamp_of_no_reply : IsSettledAsk (ask_with true 1 (of_nine ∷ []) []) worker replying → ⊥
no_stamp_of_no_reply h = let l : 9 ≤ 2 = h.heard in omega (arith, l)

abbrev seventeen : List ℕ
seventeen = 1 ∷ 2 ∷ 3 ∷ 4 ∷ 5 ∷ 6 ∷ 7 ∷ 8 ∷ 9 ∷ 10 ∷ 11 ∷ 12 ∷ 13 ∷ 14 ∷ 15 ∷ 16 ∷ 17 ∷ []

pub not_more_than_places : IsSettledAsk (asks_on 1 true (asks (requested (map (λ n. an_offer n None None) seventeen) [] 0 []) [] [])) (record worker { peer = a_peer [] 0 word.Unused None })
    (record replying { replies = [] }) → ⊥
not_more_than_places h = let l : 17 ≤ 16 = h.few in omega (arith, l)

abbrev asking : AskingAt → Held
asking a = record { sends = unsettled ∷ []; recvs = []; ask = a; full = false }

-- the reply was not known to be there before
pub requests_settle : SettlesRequests (asking (ask_with false 0 [] [])) (asking (ask_with true 1 (seven ∷ []) []))
requests_settle = settles_requests (asking (ask_with false 0 [] [])) (ask_with true 1 (seven ∷ []) [])
    (record { link = refl; end = record { send = record { table = refl; ring = refl }; ring = refl } }) refl refl refl refl (omega arith)

pub nothing_is_unheard : SettlesRequests (asking (ask_with false 0 [] (of_nine ∷ []))) (asking (ask_with true 1 (seven ∷ []) [])) → ⊥
nothing_is_unheard h = let l : 9 ≤ 2 = h.heard 1 in omega (arith, l)

pub the_channels_stay : SettlesRequests (asking (ask_with false 0 [] [])) (record (asking (ask_with true 1 (seven ∷ []) [])) { sends = settled ∷ [] }) → ⊥
the_channels_stay h = let e : true ≡ false = ap first_is_told h.rest in cc
  where
    told : List SendingAt → Bool
    told [] = false
    told (s ∷ ss) = nat_lt 0 s.end.notes.told

    first_is_told : Held → Bool
    first_is_told h = told h.sends
