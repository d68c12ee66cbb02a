-- When small runs are quiet: two cores with a channel from the first to the second, and each with a link of its requests.
-- That a run is quiet is shown core by core and link by link; that one is not, at the one core or link that is not.
use Rattle.std.proofs.Common.{◌≡◌, refl, ℕ, zero, suc, ◌<◌, ◌≤◌, List, [], ◌∷◌, Some, Bool, true, false, subst, arith, length}
use Rattle.std.specs.Prelude.{pos, slice_get}
use Rattle.ac_base.specs.declared.entry.Payload.TheVariants.{Int, Write}
use Rattle.ac_base.specs.declared.entry.Answer.TheVariants.{Count}
use Rattle.ac_base.specs.declared.entry.Event.TheVariants.{Offer, Got, Did, Know}
use Rattle.ac_base.specs.declared.ends.EndWord.{EndWord}
use Rattle.ac_base.specs.declared.ends.EndWord.TheVariants as word
use Rattle.ac_base.specs.declared.ends.Phase.TheVariants as phase
use Rattle.ac_base.specs.declared.ends.Waiting.{Waiting}
use Rattle.ac_base.specs.declared.ends.CoreEnd.{CoreEnd}
use Rattle.ac_links.specs.AtRest.{has_front}
use Rattle.ac_history.specs.History.{Past, link_at, start}
use Rattle.ac_history.specs.Merged.{merged}
use Rattle.ac_history.specs.Quiet.{has_stopped, is_waiting, waits_on, after_all_of, owner_in, peer_in, CoreIsQuiet, IsQuiet, CoreRests, PartiesRest}
use Rattle.ac_history.specs.declared.quiet.LinkParties.{LinkParties}
use Rattle.ac_history.specs.Laws.{PartiesAtRestAreQuiet}
use Rattle.ac_history.proofs.Examples.{by, capacities, widths, message, nothing_yet, ends, journals}
use Rattle.ac_history.proofs.PartiesExamples.{held, the_parties_agree}

-- ---- how cores stop

abbrev stop : EndWord → List Waiting → Bool → CoreEnd
stop w waiting idle = record { word = w; steps = 1; output = []; globals = []; waiting = waiting; idle = idle }

abbrev finished : CoreEnd
finished = stop word.Finished [] false

-- it waits on the channel, to send or to receive
abbrev waiting : CoreEnd
waiting = stop word.Stalled (record { link = 0; phase = phase.Waiting } ∷ []) true

-- it has offered on the channel
abbrev offering : CoreEnd
offering = stop word.Stalled (record { link = 0; phase = phase.Offered } ∷ []) true

-- it was cut off in the middle of a cancel
abbrev cancelling : CoreEnd
cancelling = stop word.Stalled [] false

pub those_that_have_stopped : has_stopped finished ∷ has_stopped waiting ∷ has_stopped cancelling ∷ [] ≡ true ∷ true ∷ false ∷ []
those_that_have_stopped = refl

pub phases_that_wait : is_waiting phase.Waiting ∷ is_waiting phase.Offered ∷ is_waiting phase.Started ∷ [] ≡ true ∷ false ∷ false ∷ []
phases_that_wait = refl

pub links_on_which_they_wait : waits_on 0 waiting ∷ waits_on 1 waiting ∷ waits_on 0 offering ∷ waits_on 0 finished ∷ [] ≡ true ∷ false ∷ false ∷ false ∷ []
links_on_which_they_wait = refl

-- the parties of the three links
abbrev listed : List LinkParties
listed = record { owner = 0; peer = 1 } ∷ record { owner = 0; peer = 2 } ∷ record { owner = 1; peer = 2 } ∷ []

pub who_makes_the_offers : owner_in listed 0 ∷ owner_in listed 1 ∷ owner_in listed 2 ∷ owner_in listed 3 ∷ [] ≡ 0 ∷ 0 ∷ 1 ∷ 0 ∷ []
who_makes_the_offers = refl

pub who_takes_them : peer_in listed 0 ∷ peer_in listed 1 ∷ peer_in listed 2 ∷ peer_in listed 3 ∷ [] ≡ 1 ∷ 2 ∷ 2 ∷ 0 ∷ []
who_takes_them = refl

-- ---- numbers

first : 0 < 3
first = omega arith

second : 1 < 3
second = omega arith

one : 1 ≤ 1
one = omega arith

two : 2 ≤ 2
two = omega arith

-- ---- after a message

abbrev owner : ℕ → ℕ
owner l = (ends l).owner

abbrev peer : ℕ → ℕ
peer l = (ends l).peer

abbrev after_message : Past
after_message = after_all_of nothing_yet message

pub nothing_was_asked : link_at after_message 1 ≡ []
nothing_was_asked = refl

by_place : {X : Type 0} (P : ℕ → X → Type 0) (a b : X) → P 0 a → P 1 b → (k : ℕ) (c : X) → slice_get (a ∷ b ∷ []) k ≡ Some c → P k c
by_place P a b p q zero c is = let e : a ≡ c = cc in subst (P 0) e p
by_place P a b p q (suc zero) c is = let e : b ≡ c = cc in subst (P 1) e q
by_place P a b p q (suc (suc k)) c is = cc

-- an ended core is quiet
finished_is_quiet : (past : Past) (k : ℕ) → CoreIsQuiet owner peer past k finished
finished_is_quiet past k = record { stopped = refl; owns = λ idle l h is. cc; decides = λ idle l h is. cc }

receiver_owns : (l : ℕ) → l < 3 → owner l ≡ 1 → l ≡ 2
receiver_owns zero h is = absurd (omega arith)
receiver_owns (suc zero) h is = absurd (omega arith)
receiver_owns (suc (suc zero)) h is = refl
receiver_owns (suc (suc (suc l))) h is = absurd (omega arith)

receiver_takes : (l : ℕ) → l < 3 → peer l ≡ 1 → l ≡ 0
receiver_takes zero h is = refl
receiver_takes (suc zero) h is = absurd (omega arith)
receiver_takes (suc (suc l)) h is = absurd (omega arith)

-- the receiver waits for a second message, which was not sent
waiting_is_quiet : CoreIsQuiet owner peer after_message 1 waiting
waiting_is_quiet = record {
  stopped = refl;
  owns = λ idle l h is. rw (receiver_owns l h is) (record { known = tt; replied = tt; full = λ w. cc });
  decides = λ idle l h is. rw (receiver_takes l h is) (λ w. refl);
}

pub one_waits_for_a_second_message : IsQuiet owner peer after_message (finished ∷ waiting ∷ [])
one_waits_for_a_second_message = record {
  core = by_place (CoreIsQuiet owner peer after_message) finished waiting (finished_is_quiet after_message 0) waiting_is_quiet;
  worker = no_request;
}
  where
    no_request : (l : ℕ) → l < 3 → 1 ≤ l → has_front (link_at after_message l) ≡ false
    no_request zero h from = absurd (omega arith)
    no_request (suc zero) h from = refl
    no_request (suc (suc zero)) h from = refl
    no_request (suc (suc (suc l))) h from = absurd (omega arith)

-- ---- runs that are not quiet

-- the message is there, and the receiver waits
pub a_message_that_is_not_taken : IsQuiet owner peer (after_all_of nothing_yet (by 0 1 1 (Offer 0 0 (Int (pos 5 ∷ []))) ∷ [])) (offering ∷ waiting ∷ []) → ⊥
a_message_that_is_not_taken h = let e = (h.core 1 waiting refl).decides refl 0 first refl refl in cc

-- it was taken, and the sender does not know
pub a_taking_that_is_not_known : IsQuiet owner peer (after_all_of nothing_yet (by 0 1 1 (Offer 0 0 (Int (pos 5 ∷ []))) ∷ by 1 2 1 (Got 0 0 (pos 5 ∷ [])) ∷ [])) (offering ∷ finished ∷ []) → ⊥
a_taking_that_is_not_known h = let e = ((h.core 0 offering refl).owns refl 0 first refl).known.0 in cc

-- there is room, and the sender waits
pub room_that_is_not_used : IsQuiet owner peer nothing_yet (waiting ∷ finished ∷ []) → ⊥
room_that_is_not_used h = let e = ((h.core 0 waiting refl).owns refl 0 first refl).full refl in cc

pub a_request_that_is_not_done : IsQuiet owner peer (after_all_of nothing_yet (by 0 1 1 (Offer 1 0 (Write 0 2 (7 ∷ []))) ∷ [])) (finished ∷ finished ∷ []) → ⊥
a_request_that_is_not_done h = let e = h.worker 1 second one in cc

pub a_reply_that_was_not_had : IsQuiet owner peer (after_all_of nothing_yet (by 0 1 1 (Offer 1 0 (Write 0 2 (7 ∷ []))) ∷ by 2 2 0 (Did 1 0 (Count 1)) ∷ by 0 3 1 (Know 1 0) ∷ []))
    (offering ∷ finished ∷ []) → ⊥
a_reply_that_was_not_had h = let e = ((h.core 0 offering refl).owns refl 1 second refl).replied.0 in cc

pub a_core_that_has_not_stopped : IsQuiet owner peer nothing_yet (finished ∷ cancelling ∷ []) → ⊥
a_core_that_has_not_stopped h = let e = (h.core 1 cancelling refl).stopped in cc

-- ---- by the views of the two sides, and the law

finished_rests : (k : ℕ) → CoreRests capacities 2 owner peer (λ l. (ends l).offers) (λ l. (ends l).decisions) k finished
finished_rests k = record { stopped = refl; owns = λ idle l h is. cc; decides = λ idle l h is. cc }

waiting_rests : CoreRests capacities 2 owner peer (λ l. (ends l).offers) (λ l. (ends l).decisions) 1 waiting
waiting_rests = record {
  stopped = refl;
  owns = λ idle l h is. rw (receiver_owns l h is) (record { known = one; replied = refl; full = λ w. cc });
  decides = λ idle l h is. rw (receiver_takes l h is) (λ w. one);
}

pub all_of_the_other_network_rest : PartiesRest capacities 2 owner peer (λ l. (ends l).offers) (λ l. (ends l).decisions) (finished ∷ waiting ∷ [])
all_of_the_other_network_rest = record {
  core = by_place (CoreRests capacities 2 owner peer (λ l. (ends l).offers) (λ l. (ends l).decisions)) finished waiting (finished_rests 0) waiting_rests;
  worker = all_done;
}
  where
    all_done : (l : ℕ) → l < 3 → peer l ≡ 2 → true ≡ true → length (ends l).offers ≤ length (ends l).decisions
    all_done zero h is w = one
    all_done (suc zero) h is w = two
    all_done (suc (suc l)) h is w = one

pub a_sender_with_room_does_not : PartiesRest capacities 2 owner peer (λ l. (ends l).offers) (λ l. (ends l).decisions) (waiting ∷ finished ∷ []) → ⊥
a_sender_with_room_does_not h = let e = ((h.core 0 waiting refl).owns refl 0 first refl).full refl in cc

pub so_it_is_quiet : PartiesAtRestAreQuiet → IsQuiet owner peer (after_all_of (start capacities widths 2) (merged journals)) (finished ∷ waiting ∷ [])
so_it_is_quiet law = law capacities widths 2 owner peer held (λ l. (ends l).offers) (λ l. (ends l).decisions) journals (finished ∷ waiting ∷ []) the_parties_agree all_of_the_other_network_rest
