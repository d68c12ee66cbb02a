-- One row of requests, by numbers: three reads are offered, the second is withdrawn before it is done, and replies with 7 and with 8 come.
use Rattle.std.proofs.Common.{◌≡◌, ℕ, zero, suc, List, [], ◌∷◌, Option, Some, None, true, false, refl, ap, arith}
use denote.RawPtr.{null_ptr}
use Rattle.atomic_table.specs.Seated.{TableId}
use Rattle.completion_word.specs.declared.standing.Standing.TheVariants as word
use Rattle.ac_base.specs.declared.entry.Payload.{Payload}
use Rattle.ac_base.specs.declared.entry.Payload.TheVariants.{Read}
use Rattle.ac_base.specs.declared.entry.Answer.TheVariants.{Bytes}
use Rattle.ac_links.specs.Views.{Response, OwnerOffer, PeerDecision}
use Rattle.ac_links.specs.Replies.{waiting_replies}
use Rattle.ac_links.specs.Payloads.Taking.{Done}
use Rattle.ac_links.specs.Party.LinkEnd.{Owns}
use Rattle.core_ports.specs.Ends.{awaits_reply}
use Rattle.core_channels.specs.LinkViews.{AreViews, IsOffer}
use Rattle.channel_ends.specs.Rings.{RingName}
use Rattle.channel_ends.specs.Sending.{MadeOffer, OwnerNotes, Sending, AreWithin}
use Rattle.channel_ends.specs.Settled.{owner_offers}
use Rattle.request_ends.specs.Asking.{Asking, reply_for, replies_after, asked, requests_of, end_of, IsNewAsk, IsSameAsk}
use Rattle.request_ends.specs.declared.replying.Reply.{Reply}
use Rattle.request_ends.specs.Replying.{ReplyRing}
use Rattle.request_ends.specs.Laws.{RequestsAreViews}
use Rattle.request_ends.proofs.Viewing.{requests_are_views}
use Rattle.std.proofs.lemmas.List.Elements.{All-nil, All-cons}

-- an offer by its stamps: its own, its withdrawal's, that of the decision that is known
abbrev pub an_offer : ℕ → Option ℕ → Option ℕ → MadeOffer
an_offer stamp withdrawn known = record { stamp = stamp; withdrawn = withdrawn; known = known }

-- so many bytes from the start of file 0
abbrev pub read : ℕ → Payload
read n = Read 0 0 n

abbrev pub three : List Payload
three = read 1 ∷ read 2 ∷ read 3 ∷ []

-- the first request was done with stamp 2 and the third with stamp 6
abbrev pub seven : Response
seven = record { answer = Bytes (7 ∷ []); of = 2 }

abbrev pub eight : Response
eight = record { answer = Bytes (8 ∷ []); of = 6 }

abbrev pub sixteen_words : TableId
sixteen_words = record { words = 16; slots = 0; views_name = 0; atom = 0; block = 0; offset = 0; slot_names = [] }

abbrev pub a_ring : ℕ → RingName
a_ring n = record { words = null_ptr; slots = null_ptr; names = (n, (0, 0)) }

abbrev pub notes : List MadeOffer → List (Option ℕ) → OwnerNotes
notes offers heard = record { table = sixteen_words; offers = offers; heard = heard; told = 0; loads = 0; saw = word.Unused }

abbrev pub sender : OwnerNotes → List Payload → ℕ → Sending Payload
sender e payloads free = record { ring = a_ring 1; notes = e; payloads = payloads; free = free }

abbrev pub an_end : Sending Payload → List Response → List Response → List Response → ℕ → Asking
an_end send replies gathered items places =
    record { send = send; ring = a_ring 2; replies = replies; gathered = gathered; items = items; places = places }

-- ---- the row, step by step

abbrev pub none_sent : Sending Payload
none_sent = sender (notes [] []) [] 16

abbrev pub none_asked : Asking
none_asked = an_end none_sent [] [] [] 64

abbrev pub two_asked : Asking
two_asked = an_end (sender (notes (an_offer 1 None None ∷ an_offer 2 None None ∷ []) (None ∷ None ∷ [])) (read 1 ∷ read 2 ∷ []) 14) [] [] [] 62

abbrev pub three_heard : List MadeOffer → List (Option ℕ) → Sending Payload
three_heard offers heard = sender (notes offers heard) three 13

abbrev pub three_asked : Asking
three_asked = an_end (three_heard (an_offer 1 None None ∷ an_offer 2 None None ∷ an_offer 3 None None ∷ []) (None ∷ None ∷ None ∷ [])) [] [] [] 61

-- the second is withdrawn with stamp 4
abbrev pub one_withdrawn : Asking
one_withdrawn = an_end (three_heard (an_offer 1 None None ∷ an_offer 2 (Some 4) None ∷ an_offer 3 None None ∷ []) (None ∷ None ∷ None ∷ [])) [] [] [] 61

-- a withdrawal of the third finds that it was taken
abbrev pub third_known : Asking
third_known = an_end (three_heard (an_offer 1 None None ∷ an_offer 2 (Some 4) None ∷ an_offer 3 None (Some 6) ∷ []) (None ∷ None ∷ Some 6 ∷ [])) [] [] [] 61

abbrev pub both_offers : List MadeOffer
both_offers = an_offer 1 None (Some 2) ∷ an_offer 2 (Some 4) None ∷ an_offer 3 None (Some 6) ∷ []

abbrev pub both_sent : Sending Payload
both_sent = three_heard both_offers (Some 2 ∷ None ∷ Some 6 ∷ [])

abbrev pub both_known : Asking
both_known = an_end both_sent [] [] [] 61

-- their replies are on the ring, are gathered, and come
abbrev pub both_on_ring : Asking
both_on_ring = an_end both_sent [] [] (seven ∷ eight ∷ []) 61

abbrev pub both_gathered : Asking
both_gathered = an_end both_sent [] (seven ∷ eight ∷ []) [] 64

abbrev pub first_had : Asking
first_had = an_end both_sent (seven ∷ []) (eight ∷ []) [] 66

abbrev pub both_had : Asking
both_had = an_end both_sent (seven ∷ eight ∷ []) [] [] 67

-- the second was passed with stamp 5
abbrev pub all_known : Asking
all_known = an_end (three_heard (an_offer 1 None (Some 2) ∷ an_offer 2 (Some 4) (Some 5) ∷ an_offer 3 None (Some 6) ∷ []) (Some 2 ∷ Some 5 ∷ Some 6 ∷ []))
    (seven ∷ eight ∷ []) [] [] 67

-- ---- the requests with their replies

abbrev pub a_request : ℕ → ℕ → Option ℕ → Option ℕ → Option Response → OwnerOffer
a_request n stamp withdrawn known reply = record { payload = read n; stamp = stamp; withdrawn = withdrawn; known = known; reply = reply }

pub whose_reply_is_next : reply_for None (seven ∷ eight ∷ []) ∷ reply_for None [] ∷ reply_for (Some 4) (seven ∷ []) ∷ [] ≡ Some seven ∷ None ∷ None ∷ []
whose_reply_is_next = refl

pub which_are_left : replies_after None (seven ∷ eight ∷ []) ∷ replies_after None [] ∷ replies_after (Some 4) (seven ∷ []) ∷ []
    ≡ (eight ∷ []) ∷ [] ∷ (seven ∷ []) ∷ []
which_are_left = refl

pub nothing_came_yet : requests_of one_withdrawn ≡ a_request 1 1 None None None ∷ a_request 2 2 (Some 4) None None ∷ a_request 3 3 None None None ∷ []
nothing_came_yet = refl

pub one_came : requests_of first_had
    ≡ a_request 1 1 None (Some 2) (Some seven) ∷ a_request 2 2 (Some 4) None None ∷ a_request 3 3 None (Some 6) None ∷ []
one_came = refl

pub withdrawn_has_none : asked three both_offers (seven ∷ eight ∷ [])
    ≡ a_request 1 1 None (Some 2) (Some seven) ∷ a_request 2 2 (Some 4) None None ∷ a_request 3 3 None (Some 6) (Some eight) ∷ []
withdrawn_has_none = refl

pub as_an_end : end_of two_asked ≡ Owns (a_request 1 1 None None None ∷ a_request 2 2 None None None ∷ [])
as_an_end = refl

-- a reply is awaited where the least of them is known to be taken: not that of the third, before the first is known
pub when_one_is_awaited : awaits_reply (end_of three_asked) ∷ awaits_reply (end_of third_known) ∷ awaits_reply (end_of both_known) ∷ awaits_reply (end_of first_had)
    ∷ awaits_reply (end_of both_had) ∷ [] ≡ false ∷ false ∷ true ∷ true ∷ false ∷ []
when_one_is_awaited = refl

-- ---- new ends, and the same ones

abbrev side : List Reply → ReplyRing
side items = record { ring = a_ring 2; taken = []; items = items }

pub it_is_new : IsNewAsk none_sent (side []) none_asked
it_is_new = record { send = refl; ring = refl; replies = refl; gathered = refl; items = refl }

pub no_reply_was_had : IsNewAsk none_sent (side []) (an_end none_sent (seven ∷ []) [] [] 0) → ⊥
no_reply_was_had h = let e = h.replies in cc

pub nor_is_one_known_that_is_not_there : IsNewAsk none_sent (side []) (an_end none_sent [] [] (seven ∷ []) 64) → ⊥
nor_is_one_known_that_is_not_there h = let e = h.items in cc

pub it_is_the_same : IsSameAsk three_asked both_had
it_is_the_same = record { send = record { table = refl; ring = refl }; ring = refl }

abbrev ring_number : RingName → ℕ
ring_number r = r.names.0

pub not_with_another_ring : IsSameAsk three_asked (record three_asked { ring = a_ring 3 }) → ⊥
not_with_another_ring h = let e = ap ring_number h.ring in omega (arith, e)

-- ---- no stamp of an offer or of a withdrawal is above

pub withdrawal_is_within : AreWithin 4 one_withdrawn.send.notes.offers
withdrawal_is_within zero l = (omega arith, λ w e. absurd cc)
withdrawal_is_within (suc zero) l = (omega arith, λ w e. let same : 4 ≡ w = cc in omega (arith, same))
withdrawal_is_within (suc (suc zero)) l = (omega arith, λ w e. absurd cc)
withdrawal_is_within (suc (suc (suc n))) l = absurd (omega arith)

pub withdrawal_is_above : AreWithin 3 one_withdrawn.send.notes.offers → ⊥
withdrawal_is_above h = let l = (h 1 (omega arith)).1 4 refl in omega (arith, l)

-- ---- as a link

abbrev decided : List PeerDecision
decided = record { value = Some (Done (Bytes (7 ∷ []))); stamp = 2; answers = 1 } ∷ record { value = None; stamp = 5; answers = 4 }
    ∷ record { value = Some (Done (Bytes (8 ∷ []))); stamp = 6; answers = 3 } ∷ []

decided_so : AreViews true (owner_offers (λ x. x) three both_offers) decided
decided_so = record {
  agree = (
    (omega arith, (Done (Bytes (7 ∷ [])), refl, refl, refl), refl, omega arith, tt),
    ((omega arith, (refl, refl), tt, omega arith, tt), ((omega arith, (Done (Bytes (8 ∷ [])), refl, refl, refl), refl, omega arith, tt), tt)),
  );
  each = All-cons (IsOffer true) (a_request 1 1 None (Some 2) None) (a_request 2 2 (Some 4) None None ∷ a_request 3 3 None (Some 6) None ∷ []) (record { carried = refl; later = tt })
      (All-cons (IsOffer true) (a_request 2 2 (Some 4) None None) (a_request 3 3 None (Some 6) None ∷ []) (record { carried = refl; later = omega arith })
      (All-cons (IsOffer true) (a_request 3 3 None (Some 6) None) [] (record { carried = refl; later = tt }) (All-nil (IsOffer true))));
}

by_the_law : RequestsAreViews
by_the_law = requests_are_views

pub first_had_is_a_link : AreViews true (requests_of first_had) decided × (waiting_replies (requests_of first_had) decided ≡ eight ∷ [])
first_had_is_a_link = by_the_law three both_offers (seven ∷ []) (eight ∷ []) decided decided_so (refl, (refl, (refl, tt))) refl

-- with the reply of the third at the first they make none
pub not_with_another_reply : AreViews true (asked three both_offers (eight ∷ [])) decided → ⊥
not_with_another_reply h = let e = h.agree.0.4.1 in omega (arith, e)
