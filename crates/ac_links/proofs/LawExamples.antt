-- What the laws of a link say of the small links of the other examples: one message, a second one, and two requests.
-- Each takes a law as its hypothesis and gives it what the small link has.
use Rattle.std.proofs.Common.{◌≡◌, refl, List, [], ◌∷◌, ◌++◌, Some, None, arith}
use Rattle.std.specs.Prelude.{pos}
use Rattle.ac_base.specs.declared.entry.Payload.TheVariants.{Int}
use Rattle.ac_base.specs.declared.entry.Answer.TheVariants.{Count}
use Rattle.ac_base.specs.declared.entry.Event.TheVariants.{Know}
use Rattle.ac_links.specs.Payloads.Taking.{Message}
use Rattle.ac_links.specs.Order.{stamp_of, of_party, in_order}
use Rattle.ac_links.specs.Journals.{LinkAgrees}
use Rattle.ac_links.specs.Views.{OwnerOffer, PeerDecision, ViewsAgree}
use Rattle.ac_links.specs.Noted.{seen_of, request_of, owner_noted, peer_noted}
use Rattle.ac_links.specs.Replies.{waiting_replies, AreInTurn, TakesReply}
use Rattle.ac_links.specs.Party.{PartyAgrees, with_end}
use Rattle.ac_links.specs.Party.LinkEnd.{Owns}
use Rattle.ac_links.specs.Laws.{TwoViewsMakeALink, OfferKeeps, DecideKeeps, WithdrawKeeps, LearnKeeps, ReplyKeeps, FrontIsTheNext, NoneIsLost}
use Rattle.ac_links.specs.Laws.{DecideAdds, OfferAddsNone, WithdrawAddsNone, LearnAddsNone, OfferKeepsTurn, WithdrawKeepsTurn, LearnKeepsTurn, ReplyKeepsTurn, PartyGoesOn}
use Rattle.ac_links.proofs.Examples.{channel, asking, offer_five, at, one_sends, one_receives, stamps_that_rise, sent, received, not_known}
use Rattle.ac_links.proofs.Examples.{the_owner_came_to_its_view, the_peer_came_to_its_view, the_views_agree}
use Rattle.ac_links.proofs.Examples.{first_request, second_request, first_passed, second_done, its_response, second_replied, no_message_among_requests}
use Rattle.ac_links.proofs.Examples.{terms_of_links, its_ends, its_journal_agrees, it_may_enter_what_it_knows}

-- ---- from two views to one link

pub a_message_makes_a_link : TwoViewsMakeALink
    → LinkAgrees (seen_of (sent ∷ []) (received ∷ [])) (request_of (sent ∷ [])) channel [] (in_order stamp_of (of_party 0 one_sends ++ of_party 1 one_receives))
a_message_makes_a_link law =
    (law channel (sent ∷ []) (received ∷ []) (owner_noted (sent ∷ [])) (peer_noted (received ∷ [])) (of_party 0 one_sends) (of_party 1 one_receives) the_views_agree
    the_owner_came_to_its_view the_peer_came_to_its_view stamps_that_rise (tt, tt)).0

-- ---- a second message, which is offered, taken, or withdrawn

abbrev six : OwnerOffer
six = record { payload = Int (pos 6 ∷ []); stamp = 3; withdrawn = None; known = None; reply = None }

abbrev six_received : PeerDecision
six_received = record { value = Some (Message (pos 6 ∷ [])); stamp = 4; answers = 3 }

pub six_is_offered : OfferKeeps → ViewsAgree (sent ∷ six ∷ []) (received ∷ [])
six_is_offered law = law (sent ∷ []) (received ∷ []) six refl refl the_views_agree

pub six_is_taken : DecideKeeps → ViewsAgree (sent ∷ six ∷ []) (received ∷ []) → ViewsAgree (sent ∷ six ∷ []) (received ∷ six_received ∷ [])
six_is_taken law = law (sent ∷ six ∷ []) (received ∷ []) six six_received refl (omega arith, (Message (pos 6 ∷ []), refl, refl, refl), tt, omega arith, tt)

pub six_is_withdrawn : WithdrawKeeps → ViewsAgree (sent ∷ six ∷ []) (received ∷ []) → ViewsAgree (sent ∷ record six { withdrawn = Some 4 } ∷ []) (received ∷ [])
six_is_withdrawn law = law (sent ∷ six ∷ []) (received ∷ []) 1 4 (omega arith)

pub five_is_known : LearnKeeps → ViewsAgree (not_known ∷ []) (received ∷ []) → ViewsAgree (sent ∷ []) (received ∷ [])
five_is_known law = law (not_known ∷ []) (received ∷ []) 0 received refl

-- ---- two requests, of which the first was withdrawn and the second done

abbrev asked : List OwnerOffer
asked = first_request ∷ second_request ∷ []

abbrev done : List PeerDecision
done = first_passed ∷ second_done ∷ []

pub the_second_has_its_reply : ReplyKeeps → ViewsAgree asked done → ViewsAgree (first_request ∷ second_replied ∷ []) done
the_second_has_its_reply law = law asked done 1 second_done (Count 2) refl refl

pub the_front_of_the_ring : FrontIsTheNext → ViewsAgree asked done → TakesReply asking 1 asked done its_response []
the_front_of_the_ring law agree = law asking 1 asked done its_response [] agree no_message_among_requests refl

pub none_of_them_is_lost : NoneIsLost → ViewsAgree asked done → [] ++ waiting_replies asked done ≡ its_response ∷ []
none_of_them_is_lost law agree = law asked done agree (tt, (refl, tt))

pub what_is_done_goes_on_the_ring : DecideAdds → waiting_replies asked done ≡ waiting_replies asked (first_passed ∷ []) ++ its_response ∷ []
what_is_done_goes_on_the_ring law = law asked (first_passed ∷ []) second_done second_request refl refl

pub an_offer_does_not : OfferAddsNone → waiting_replies asked (first_passed ∷ []) ≡ waiting_replies (first_request ∷ []) (first_passed ∷ [])
an_offer_does_not law = law (first_request ∷ []) (first_passed ∷ []) second_request (omega arith)

pub nor_a_withdrawal : WithdrawAddsNone → waiting_replies (first_request ∷ record second_request { withdrawn = Some 4 } ∷ []) (first_passed ∷ []) ≡ waiting_replies asked (first_passed ∷ [])
nor_a_withdrawal law = law asked (first_passed ∷ []) 1 4

pub nor_what_is_learned : LearnAddsNone → waiting_replies (first_request ∷ record second_request { known = Some 4 } ∷ []) done ≡ its_response ∷ []
nor_what_is_learned law = law asked done 1 4

pub in_turn_after_an_offer : OfferKeepsTurn → AreInTurn asked
in_turn_after_an_offer law = law (first_request ∷ []) second_request refl (tt, tt)

pub in_turn_after_a_withdrawal : WithdrawKeepsTurn → AreInTurn asked → AreInTurn (first_request ∷ record second_request { withdrawn = Some 4 } ∷ [])
in_turn_after_a_withdrawal law = law asked 1 4

pub in_turn_after_what_is_learned : LearnKeepsTurn → AreInTurn asked → AreInTurn (first_request ∷ record second_request { known = Some 4 } ∷ [])
in_turn_after_what_is_learned law = law asked 1 4

pub in_turn_after_a_reply : ReplyKeepsTurn → AreInTurn asked → AreInTurn (first_request ∷ second_replied ∷ [])
in_turn_after_a_reply law = law asked (Count 2) 4

-- ---- a party

pub the_sender_knows_and_agrees : PartyGoesOn → PartyAgrees terms_of_links 0 (with_end (its_ends not_known) 0 (Owns (sent ∷ []))) one_sends
the_sender_knows_and_agrees law = law terms_of_links 0 (its_ends not_known) (at 1 offer_five ∷ []) (at 3 (Know 0 0)) 2 its_journal_agrees it_may_enter_what_it_knows
