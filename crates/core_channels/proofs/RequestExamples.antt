-- What the definitions say of a link of requests, on which two bytes are asked for, had and replied, or the request is withdrawn and passed.
-- Those that hold do so by computing.
use Rattle.std.proofs.Common.{◌≡◌, ℕ, refl, ap, [], ◌∷◌, Option, Some, None, true, false, arith}
use Rattle.std.proofs.lemmas.List.Elements.{All-nil, All-cons}
use Rattle.ac_base.specs.declared.entry.Payload.TheVariants.{Read, Write}
use Rattle.ac_base.specs.declared.entry.Answer.{Answer}
use Rattle.ac_base.specs.declared.entry.Answer.TheVariants.{Bytes, Count, Fault}
use Rattle.ac_base.specs.declared.entry.Event.TheVariants as event
use Rattle.ac_links.specs.declared.payloads.Terms.{Terms}
use Rattle.ac_links.specs.Payloads.Taking.{Done}
use Rattle.ac_links.specs.Noted.{response_stamp}
use Rattle.ac_links.specs.Views.{Response, OwnerOffer, owner_offer, withdrawn_at, replied_with}
use Rattle.ac_links.specs.Party.LinkEnd.{Owns, Decides}
use Rattle.core_channels.specs.declared.answers.Front.TheVariants.{Nothing, Withdrawn, Request, ClockFull}
use Rattle.core_channels.specs.Counts.{no_calls}
use Rattle.core_channels.specs.LinkViews.{LinkViews, IsOffer, IsLink}
use Rattle.core_channels.specs.Takes.{passed_decision}
use Rattle.core_channels.specs.Requests.{withdrawn_front, request_front, front_by, front_of, next_offer, fronting, is_withdrawn, may_do}
use Rattle.core_channels.specs.Requests.{did_decision, did_stamp, pass_stamp, after_doing, after_passing, ReplyIsNext, after_reply}
use Rattle.core_channels.specs.Laws.{told_by_doing, told_by_passing, told_by_reply, Enters, DidEnters, PassEnters, ReplyEnters}
use Rattle.core_channels.proofs.Examples.{last_stamp}

abbrev pub for_requests : Terms
for_requests = record { capacity = 16; requests = true }

-- two bytes of file 0 from place 4
abbrev pub two_bytes : OwnerOffer
two_bytes = owner_offer (Read 0 4 2) 1

abbrev pub none_asked : LinkViews
none_asked = record { terms = for_requests; offers = []; decisions = []; spare = 16; counts = no_calls }

abbrev pub asked : LinkViews
asked = record none_asked { offers = two_bytes ∷ [] }

abbrev pub had : LinkViews
had = record asked { decisions = did_decision (Bytes (8 ∷ 9 ∷ [])) 6 1 ∷ [] }

abbrev pub replied : LinkViews
replied = record had { offers = replied_with (Bytes (8 ∷ 9 ∷ [])) 6 two_bytes ∷ [] }

abbrev pub withdrawn : LinkViews
withdrawn = record asked { offers = withdrawn_at 3 two_bytes ∷ [] }

abbrev pub passed : LinkViews
passed = record withdrawn { decisions = passed_decision 4 3 ∷ [] }

-- a byte was to be written after a withdrawn request, and was
abbrev pub later : LinkViews
later = record none_asked {
  offers = withdrawn_at 3 two_bytes ∷ owner_offer (Write 0 0 (7 ∷ [])) 4 ∷ [];
  decisions = passed_decision 4 3 ∷ did_decision (Count 1) 5 4 ∷ [];
}

-- ---- the front

pub the_next_offer : next_offer asked ∷ next_offer had ∷ next_offer none_asked ∷ [] ≡ Some two_bytes ∷ None ∷ None ∷ []
the_next_offer = refl

pub fronts : fronting none_asked 0 ∷ fronting asked 5 ∷ fronting withdrawn 5 ∷ fronting had 6 ∷ [] ≡ Nothing ∷ Request 0 (Read 0 4 2) ∷ Withdrawn 0 ∷ Nothing ∷ []
fronts = refl

pub no_stamp_to_decide : fronting asked last_stamp ∷ fronting withdrawn last_stamp ∷ fronting none_asked last_stamp ∷ [] ≡ ClockFull ∷ ClockFull ∷ Nothing ∷ []
no_stamp_to_decide = refl

pub parts_of_a_front : withdrawn_front 0 None ∷ withdrawn_front 0 (Some 4) ∷ request_front 0 (Read 0 4 2) None ∷ request_front 0 (Read 0 4 2) (Some 2) ∷ []
    ≡ ClockFull ∷ Withdrawn 0 ∷ ClockFull ∷ Request 0 (Read 0 4 2) ∷ []
parts_of_a_front = refl

pub standing_or_withdrawn : front_by 5 0 two_bytes None ∷ front_by 5 0 two_bytes (Some 3) ∷ front_of 5 0 None ∷ front_of 5 0 (Some two_bytes) ∷ []
    ≡ Request 0 (Read 0 4 2) ∷ Withdrawn 0 ∷ Nothing ∷ Request 0 (Read 0 4 2) ∷ []
standing_or_withdrawn = refl

pub which_is_withdrawn : is_withdrawn (Withdrawn 0) ∷ is_withdrawn Nothing ∷ is_withdrawn (Request 0 (Read 0 4 2)) ∷ is_withdrawn ClockFull ∷ [] ≡ true ∷ false ∷ false ∷ false ∷ []
which_is_withdrawn = refl

-- ---- decisions

-- two bytes or fewer, or that the disk failed
pub answers_to_a_read : may_do (fronting asked 5) (Bytes (8 ∷ 9 ∷ [])) ∷ may_do (fronting asked 5) (Bytes []) ∷ may_do (fronting asked 5) (Bytes (7 ∷ 8 ∷ 9 ∷ []))
    ∷ may_do (fronting asked 5) (Count 2) ∷ may_do (fronting asked 5) (Fault 0) ∷ []
    ≡ true ∷ true ∷ false ∷ false ∷ true ∷ []
answers_to_a_read = refl

pub no_answer_without_a_request : may_do Nothing (Fault 0) ∷ may_do (Withdrawn 0) (Fault 0) ∷ may_do ClockFull (Fault 0) ∷ [] ≡ false ∷ false ∷ false ∷ []
no_answer_without_a_request = refl

-- after the greater of the worker's own stamp and that of the offer or withdrawal
pub stamps_of_decisions : did_stamp asked 5 ∷ did_stamp asked 0 ∷ pass_stamp withdrawn 0 ∷ pass_stamp withdrawn 9 ∷ [] ≡ 6 ∷ 2 ∷ 4 ∷ 10 ∷ []
stamps_of_decisions = refl

pub it_is_done : after_doing asked (Bytes (8 ∷ 9 ∷ [])) 5 ≡ had
it_is_done = refl

pub it_is_passed : after_passing withdrawn 0 ≡ passed
it_is_passed = refl

pub one_that_is_done : did_decision (Count 1) 5 4 ≡ record { value = Some (Done (Count 1)); stamp = 5; answers = 4 }
one_that_is_done = refl

-- ---- replies

pub its_reply : ReplyIsNext had (Bytes (8 ∷ 9 ∷ [])) 6
its_reply = refl

pub with_no_other_stamp : ReplyIsNext had (Bytes (8 ∷ 9 ∷ [])) 7 → ⊥
with_no_other_stamp h = let e : ◌≡◌ {A = ℕ} 6 7 = ap response_stamp h in absurd (omega arith)

bytes_in : Answer → ℕ
bytes_in (Bytes bytes) = 1
bytes_in (Count n) = 0
bytes_in (Fault n) = 0

bytes_among : Option Response → ℕ
bytes_among None = 0
bytes_among (Some r) = bytes_in r.answer

pub and_no_other_answer : ReplyIsNext had (Fault 0) 6 → ⊥
unfolding bytes_in bytes_among
and_no_other_answer h = let e : ◌≡◌ {A = ℕ} 1 0 = ap bytes_among h in absurd (omega arith)

pub none_before_it_is_done : ReplyIsNext asked (Bytes []) 6 → ⊥
none_before_it_is_done h = cc

pub after_its_reply : after_reply had (Bytes (8 ∷ 9 ∷ [])) 6 ≡ replied
after_its_reply = refl

-- the withdrawn one has none
pub the_reply_of_the_second : ReplyIsNext later (Count 1) 5
the_reply_of_the_second = refl

pub is_noted_at_the_second : after_reply later (Count 1) 5 ≡ record later { offers = withdrawn_at 3 two_bytes ∷ replied_with (Count 1) 5 (owner_offer (Write 0 0 (7 ∷ [])) 4) ∷ [] }
is_noted_at_the_second = refl

-- ---- entries

pub told_by_the_worker : told_by_doing 7 asked (Bytes (8 ∷ 9 ∷ [])) 5 ≡ record { event = event.Did 7 0 (Bytes (8 ∷ 9 ∷ [])); stamp = 6 }
told_by_the_worker = refl

pub told_of_a_passing : told_by_passing 7 withdrawn 0 ≡ record { event = event.Pass 7 0; stamp = 4 }
told_of_a_passing = refl

-- after the stamp of the entry by which it was done
pub told_of_a_reply : told_by_reply 7 had (Bytes (8 ∷ 9 ∷ [])) 6 2 ∷ told_by_reply 7 had (Bytes (8 ∷ 9 ∷ [])) 6 9 ∷ []
    ≡ record { event = event.Reply 7 0 (Bytes (8 ∷ 9 ∷ [])); stamp = 7 } ∷ record { event = event.Reply 7 0 (Bytes (8 ∷ 9 ∷ [])); stamp = 10 } ∷ []
told_of_a_reply = refl

pub the_worker_does_it : DidEnters
    → Enters (λ l. for_requests) (λ l. Decides []) [] 0 7 asked (Some (record { event = event.Did 7 0 (Bytes (8 ∷ 9 ∷ [])); stamp = 2 })) (Decides (did_decision (Bytes (8 ∷ 9 ∷ [])) 2 1 ∷ []))
the_worker_does_it law = law (λ l. for_requests) (λ l. Decides []) [] 0 7 asked (Bytes (8 ∷ 9 ∷ [])) refl refl refl

pub the_worker_passes : PassEnters
    → Enters (λ l. for_requests) (λ l. Decides []) [] 0 7 withdrawn (Some (record { event = event.Pass 7 0; stamp = 4 })) (Decides (passed_decision 4 3 ∷ []))
the_worker_passes law = law (λ l. for_requests) (λ l. Decides []) [] 0 7 withdrawn refl refl

had_is_a_link : IsLink had
had_is_a_link = record {
  agree = ((omega arith, (Done (Bytes (8 ∷ 9 ∷ [])), refl, refl, refl), tt, omega arith, tt), tt);
  each = All-cons (IsOffer true) two_bytes [] (record { carried = refl; later = tt }) (All-nil (IsOffer true));
}

pub the_owner_has_its_reply : ReplyEnters
    → Enters (λ l. for_requests) (λ l. Owns (two_bytes ∷ [])) [] 3 7 had (Some (record { event = event.Reply 7 0 (Bytes (8 ∷ 9 ∷ [])); stamp = 7 }))
    (Owns (replied_with (Bytes (8 ∷ 9 ∷ [])) 6 two_bytes ∷ []))
the_owner_has_its_reply law = law (λ l. for_requests) (λ l. Owns (two_bytes ∷ [])) [] 3 7 had (Bytes (8 ∷ 9 ∷ [])) 6 refl refl had_is_a_link refl refl
