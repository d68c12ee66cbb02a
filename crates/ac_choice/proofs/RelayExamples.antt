-- A relay of two ends: it takes 7 at the second, and offers it, or holds it where there is no room. A body that loses it, or holds it as well,
-- is none.
use Rattle.std.proofs.Common.{◌≡◌, length, ◌∙◌, ◌<◌, ℕ, zero, suc, List, [], ◌∷◌, Option, Some, None, true, false, refl, ap, sym, arith, subst, ℤ}
use Rattle.std.specs.Prelude.{pos}
use Rattle.completion_word.specs.declared.standing.Standing.TheVariants as word
use Rattle.completion_word.specs.declared.views.DecisionKind.TheVariants as outcome
use Rattle.completion_word.specs.Link.{decision, decision_at}
use Rattle.core_channels.specs.declared.answers.Offering.{Offering}
use Rattle.core_channels.specs.declared.answers.Offering.TheVariants as offering
use Rattle.core_channels.specs.declared.answers.Learning.TheVariants as learning
use Rattle.std.specs.Option.{ForSome}
use Rattle.channel_ends.specs.Sending.{Sending, made_at, heard_of}
use Rattle.channel_ends.specs.Settled.{AreSettled, stamp_of}
use Rattle.channel_ends.specs.Receiving.{Receiving}
use Rattle.channel_ends.proofs.Examples.{words_of, a_ring, an_offer, notes, a_peer}
use Rattle.ac_choice.specs.declared.answers.Any.TheVariants as any
use Rattle.ac_choice.specs.declared.answers.Tagged.{Tagged}
use Rattle.ac_choice.specs.declared.answers.Relayed.TheVariants as relayed
use Rattle.ac_choice.specs.AnyOf.{SoAt, IsLeft}
use Rattle.ac_choice.specs.Relaying.{Relaying, of_end, if_taken, taken_by, taken_of, taken_at, held_list, carried, Carries}
use Rattle.ac_choice.specs.Steps.{told_of_offer, kept_of_offer, OffersOne, first_by, once_asked, GoesOnWith, TakesOne, is_full, Transfers, AfterLearning, once_learned}
use Rattle.ac_choice.specs.Steps.{Steps, OffersAsTold, IsSameRelay}
use Rattle.channel_ends.specs.Sending.{AreWithin}
use Rattle.ac_choice.specs.declared.relay.Relay.TheInside.{Inside}
use Rattle.ac_choice.specs.Inside.{relaying_of, AreOneEach, IsRelay, IsRelaying}
use Rattle.ac_choice.specs.Settling.{HaveDecidedNone, HasOfferedNone, new_relay, SettlesEnd, SettlesOut}
use Rattle.ac_choice.proofs.Examples.{silent, looked, gave, passed, two, the_second_gives, they_are_the_same}
use Rattle.ac_choice.proofs.Lists.{of_other}

abbrev pub tag : ℕ → ℤ → Tagged
tag e x = record { end = e; value = x }

-- ---- messages by their ends

pub those_of_one_end : of_end 1 (tag 1 (pos 7) ∷ tag 0 (pos 3) ∷ tag 1 (pos 9) ∷ []) ≡ pos 7 ∷ pos 9 ∷ []
those_of_one_end = refl

pub in_their_order : of_end 1 (tag 1 (pos 7) ∷ tag 0 (pos 3) ∷ tag 1 (pos 9) ∷ []) ≡ pos 9 ∷ pos 7 ∷ [] → ⊥
in_their_order e = cc

pub a_passed_one_is_not_taken : taken_by (pos 5 ∷ pos 6 ∷ []) (decision (outcome.Passed 3) 2 ∷ decision (outcome.Taken 4) 3 ∷ []) ≡ pos 6 ∷ []
a_passed_one_is_not_taken = refl

pub one_that_was_taken : if_taken (pos 6) (outcome.Taken 4) ≡ pos 6 ∷ []
one_that_was_taken = refl

pub of_an_end_that_gave : taken_of (Some gave) ≡ pos 7 ∷ []
of_an_end_that_gave = refl

pub of_one_that_passed : taken_of (Some passed) ≡ []
of_one_that_passed = refl

pub by_its_number : taken_at (looked ∷ gave ∷ []) 1 ≡ pos 7 ∷ []
by_its_number = refl

pub and_of_no_end_nothing : taken_at (looked ∷ gave ∷ []) 2 ≡ []
and_of_no_end_nothing = refl

-- ---- the end on which it offers, of one place

abbrev pub free : Sending Tagged
free = record { ring = a_ring; notes = notes 1 [] [] 0 word.Unused; payloads = []; free = 1 }

abbrev pub full : ℕ → Tagged → Sending Tagged
full stamp m = record { ring = a_ring; notes = notes 1 (an_offer stamp None None ∷ []) (None ∷ []) 0 word.Unused; payloads = m ∷ []; free = 0 }

abbrev pub relay : List (Receiving ℤ) → Sending Tagged → Option Tagged → ℕ → ℕ → Relaying
relay ins out held first clock = record { ins = ins; out = out; held = held; first = first; clock = clock }

-- it has offered 7
abbrev pub moved : Relaying
moved = relay (looked ∷ gave ∷ []) (full 3 (tag 1 (pos 7))) None 0 3

-- it holds 7, since there was no room after an earlier offer of 5
abbrev pub stuck : Relaying
stuck = relay (looked ∷ gave ∷ []) (full 1 (tag 0 (pos 5))) (Some (tag 1 (pos 7))) 0 2

pub it_carries_both : carried stuck ≡ tag 0 (pos 5) ∷ tag 1 (pos 7) ∷ []
it_carries_both = refl

pub one_is_held : held_list (Some (tag 1 (pos 7))) ≡ tag 1 (pos 7) ∷ []
one_is_held = refl

-- ---- nothing is lost or made twice

pub what_was_taken_was_offered : Carries moved
what_was_taken_was_offered zero = refl
what_was_taken_was_offered (suc zero) = refl
what_was_taken_was_offered (suc (suc i)) = of_other (suc (suc i)) (tag 1 (pos 7)) (λ e. omega (arith, e))

pub or_is_held : Carries (relay (looked ∷ gave ∷ []) free (Some (tag 1 (pos 7))) 0 2)
or_is_held zero = refl
or_is_held (suc zero) = refl
or_is_held (suc (suc i)) = of_other (suc (suc i)) (tag 1 (pos 7)) (λ e. omega (arith, e))

pub not_lost : Carries (relay (looked ∷ gave ∷ []) free None 0 2) → ⊥
not_lost h = let e = h 1 in cc

pub not_twice : Carries (record moved { held = Some (tag 1 (pos 7)) }) → ⊥
not_twice h = let e = h 1 in cc

pub not_of_another_end : Carries (relay (looked ∷ gave ∷ []) (full 3 (tag 0 (pos 7))) None 0 3) → ⊥
not_of_another_end h = let e = h 0 in cc

-- ---- a step

pub an_offer_is_a_move : told_of_offer 1 (offering.Offered 0 3) ≡ relayed.Moved 1
an_offer_is_a_move = refl

pub what_has_no_room_is_held : kept_of_offer (offering.NoRoom (tag 1 (pos 7))) ≡ Some (tag 1 (pos 7))
what_has_no_room_is_held = refl

pub what_was_offered_is_not : kept_of_offer (offering.Offered 0 3) ≡ None
what_was_offered_is_not = refl

pub the_next_comes_first : first_by 2 0 (any.Took 0 0 (pos 7) 2) ≡ 1
the_next_comes_first = refl

pub and_else_the_same : first_by 2 1 any.Nothing ≡ 1
and_else_the_same = refl

-- with the second end's message the first end is asked first again
abbrev pub asked : Relaying
asked = once_asked (relay two free None 0 0) (any.Took 1 0 (pos 7) 2) (looked ∷ gave ∷ [])

pub seven_is_offered : OffersOne asked (tag 1 (pos 7)) (relayed.Moved 1) moved
seven_is_offered = record {
  answer = offering.Offered 0 3;
  offers = (
    refl,
    refl,
    refl,
    record {
      ring = refl;
      notes = record { table = refl; offers = refl; heard = refl; told = refl; loads = omega arith };
      payloads = refl;
      free = omega arith;
    },
  );
  told = refl;
  after = refl;
}

moved_keeps_none : (o : Offering Tagged) → relayed.Moved 1 ≡ told_of_offer 1 o → kept_of_offer o ≡ None
moved_keeps_none (offering.Offered number s) e = refl
moved_keeps_none (offering.NoRoom back) e = cc
moved_keeps_none (offering.NotYet back) e = cc
moved_keeps_none (offering.ClockFull back) e = cc

pub and_not_held_as_well : OffersOne asked (tag 1 (pos 7)) (relayed.Moved 1) (record moved { held = Some (tag 1 (pos 7)) }) → ⊥
and_not_held_as_well h = let e = moved_keeps_none h.answer h.told in let f = ap (λ (v : Relaying). v.held) h.after in cc

pub it_goes_on : GoesOnWith (any.Took 1 0 (pos 7) 2) asked (relayed.Moved 1) moved
it_goes_on = seven_is_offered

pub it_takes_one : TakesOne (relay two free None 0 0) (relayed.Moved 1) moved
it_takes_one = record { answer = any.Took 1 0 (pos 7) 2; ins = looked ∷ gave ∷ []; takes = the_second_gives; then = seven_is_offered }

pub a_full_clock_ends_a_step : is_full learning.ClockFull ≡ true
a_full_clock_ends_a_step = refl

pub nothing_to_learn_does_not : is_full learning.AllKnown ≡ false
nothing_to_learn_does_not = refl

pub none_is_held_so_one_is_taken : Transfers None (relay two free None 0 0) (relayed.Moved 1) moved
none_is_held_so_one_is_taken = it_takes_one

pub one_is_held_so_it_is_offered : Transfers (Some (tag 1 (pos 7))) asked (relayed.Moved 1) moved
one_is_held_so_it_is_offered = seven_is_offered

pub after_nothing_was_learned : AfterLearning false (relay two free None 0 0) (relayed.Moved 1) moved
after_nothing_was_learned = it_takes_one

pub it_is_as_it_was : once_learned (relay two free None 0 0) learning.AllKnown free ≡ relay two free None 0 0
it_is_as_it_was = refl

pub it_steps : Steps (relay two free None 0 0) (relayed.Moved 1) moved
it_steps = record { learned = learning.AllKnown; out = free; learns = (refl, refl); only = refl; then = it_takes_one }

-- ---- what it comes to

abbrev first_end : List Tagged → ℕ
first_end [] = 0
first_end (m ∷ ms) = m.end

pub one_more_is_offered : OffersAsTold [] (relayed.Moved 1) (tag 1 (pos 7) ∷ [])
one_more_is_offered = (pos 7, refl)

pub and_not_of_another : OffersAsTold [] (relayed.Moved 0) (tag 1 (pos 7) ∷ []) → ⊥
and_not_of_another h = let e = ap first_end h.1 in omega (arith, e)

pub without_a_move_none_is : OffersAsTold [] relayed.NoRoom (tag 1 (pos 7) ∷ []) → ⊥
without_a_move_none_is h = cc

pub it_is_the_same : IsSameRelay (relay two free None 0 0) moved
it_is_the_same = record { ins = they_are_the_same; out = record { table = refl; ring = refl } }

-- ---- a new one

pub it_holds_none : new_relay two free ≡ relay two free None 0 0
it_holds_none = refl

none_was_decided : HaveDecidedNone (silent ∷ [])
none_was_decided zero r at = subst (λ (v : Receiving ℤ). (v.peer.decisions ≡ []) × (v.popped ≡ [])) (let e : silent ≡ r = cc in e) (refl, refl)
none_was_decided (suc k) r at = cc

pub new_ends_have_decided_none : HaveDecidedNone (silent ∷ [])
new_ends_have_decided_none = none_was_decided

pub one_that_gave_has : HaveDecidedNone (gave ∷ []) → ⊥
one_that_gave_has h = let e = (h 0 gave refl).1 in cc

pub a_free_end_has_offered_none : HasOfferedNone free
a_free_end_has_offered_none = (refl, refl)

pub and_a_full_one_has : HasOfferedNone (full 3 (tag 1 (pos 7))) → ⊥
and_a_full_one_has h = let e = h.1 in cc

-- ---- a settling: 7 was offered on the second channel and is not taken yet

abbrev pub sender : ℕ → Sending ℤ
sender told = record {
  ring = a_ring;
  notes = record (notes 1 (an_offer 1 None None ∷ []) (None ∷ []) 0 word.Unused) { told = told };
  payloads = pos 7 ∷ [];
  free = 0;
}

abbrev pub told_of_seven : Receiving ℤ
told_of_seven = record silent { peer = record silent.peer { told_offers = 1 }; items = pos 7 ∷ [] }

one_offer : (k : ℕ) → k < 1 → k ≡ 0
one_offer k l = omega (arith, l)

pub they_are_settled : AreSettled (sender 0) told_of_seven
they_are_settled = record {
  decisions_told = refl;
  offers_told = refl;
  in_order = refl;
  one_popped = refl;
  one_sent = refl;
  free_slots = omega arith;
  one_link = record {
    decided_offered = omega arith;
    answered = λ k l. absurd (omega (arith, l));
    withdrawn_later = λ k l. subst (λ n. ForSome (made_at (sender 0).notes.offers n).withdrawn (λ w. (made_at (sender 0).notes.offers n).stamp < w)) (sym (one_offer k l)) (λ w e. absurd cc);
    known_heard = λ k l. subst (λ n. ForSome (made_at (sender 0).notes.offers n).known (λ t. heard_of (sender 0).notes n ≡ Some t)) (sym (one_offer k l)) (λ w e. absurd cc);
    heard_true = λ k l.
        subst (λ n. ForSome (heard_of (sender 0).notes n) (λ t. (n < 0) × (stamp_of (decision_at [] n).outcome ≡ t))) (sym (one_offer k l)) (λ w e. absurd cc);
    seen_true = λ w e. absurd cc;
  };
}

first_stays : (i : ℕ) → (i ≡ 1 → ⊥) → SoAt IsLeft two i (silent ∷ told_of_seven ∷ [])
first_stays zero n = λ a b from to. let e : a ≡ silent = cc in let f : b ≡ silent = cc in f ∙ sym e
first_stays (suc zero) n = absurd (n refl)
first_stays (suc (suc i)) n = λ a b from to. cc

pub the_second_end_is_settled : SettlesEnd (relay two free None 0 0) 1 (sender 0) (sender 0) (relay (silent ∷ told_of_seven ∷ []) free None 0 0)
the_second_end_is_settled = record {
  before = silent;
  end = told_of_seven;
  was = refl;
  now = refl;
  pair = (refl, refl);
  sends = record { ring = refl; payloads = refl; free = omega arith; notes = refl };
  receives = record { table = refl; ring = refl; peer = refl; popped = refl; items = (pos 7 ∷ [], refl) };
  settled = they_are_settled;
  count = refl;
  others = first_stays;
  only = refl;
}

pub what_it_holds_stays : SettlesEnd (relay two free None 0 0) 1 (sender 0) (sender 0) (relay (silent ∷ told_of_seven ∷ []) free (Some (tag 1 (pos 7))) 0 0) → ⊥
what_it_holds_stays h = let e = ap (λ (v : Relaying). v.held) h.only in cc

-- and the end on which the relay offers, of which nothing is known
abbrev pub receiver_of_none : Receiving Tagged
receiver_of_none = record { table = words_of 1; ring = a_ring; peer = a_peer [] 0 word.Unused None; popped = []; items = [] }

pub nothing_is_under_way : AreSettled free receiver_of_none
nothing_is_under_way = record {
  decisions_told = refl;
  offers_told = refl;
  in_order = refl;
  one_popped = refl;
  one_sent = refl;
  free_slots = omega arith;
  one_link = record {
    decided_offered = omega arith;
    answered = λ k l. absurd (omega (arith, l));
    withdrawn_later = λ k l. absurd (omega (arith, l));
    known_heard = λ k l. absurd (omega (arith, l));
    heard_true = λ k l. absurd (omega (arith, l));
    seen_true = λ w e. absurd cc;
  };
}

pub the_other_end_is_settled : SettlesOut (relay two free None 0 0) receiver_of_none receiver_of_none (relay two free None 0 0)
the_other_end_is_settled = record {
  pair = (refl, refl);
  sends = record { ring = refl; payloads = refl; free = omega arith; notes = refl };
  receives = record { table = refl; ring = refl; peer = refl; popped = refl; items = ([], refl) };
  settled = nothing_is_under_way;
  only = refl;
}

pub and_it_asks_as_before : SettlesOut (relay two free None 0 0) receiver_of_none receiver_of_none (relay two free None 1 0) → ⊥
and_it_asks_as_before h = let e = ap (λ (v : Relaying). v.first) h.only in omega (arith, e)

-- ---- a relay, from its fields

pub one_each : AreOneEach (looked ∷ gave ∷ [])
one_each zero r at = subst (λ (v : Receiving ℤ). length v.popped ≡ length v.peer.decisions) (let e : looked ≡ r = cc in e) refl
one_each (suc zero) r at = subst (λ (v : Receiving ℤ). length v.popped ≡ length v.peer.decisions) (let e : gave ≡ r = cc in e) refl
one_each (suc (suc k)) r at = cc

pub not_with_an_item_too_many : AreOneEach (record gave { popped = pos 7 ∷ pos 8 ∷ [] } ∷ []) → ⊥
not_with_an_item_too_many h = let e = h 0 (record gave { popped = pos 7 ∷ pos 8 ∷ [] }) refl in omega (arith, e)

no_later_stamp : AreWithin 3 moved.out.notes.offers
no_later_stamp zero at = (omega arith, λ w e. absurd cc)
no_later_stamp (suc n) at = absurd (omega (arith, at))

pub it_is_a_relay : IsRelay moved
it_is_a_relay = record { first = omega arith; few = omega arith; within = no_later_stamp; one_each = one_each; carries = what_was_taken_was_offered }

pub as_its_fields_say : (it : Inside) → it.ins.items ≡ looked ∷ gave ∷ [] → it.out ≡ full 3 (tag 1 (pos 7)) → it.held ≡ None → it.first ≡ 0
    → it.clock ≡ 3 → relaying_of it ≡ moved
as_its_fields_say it ins out held first clock =
    ap (λ (v : List (Receiving ℤ)). relay v it.out it.held it.first it.clock) ins
    ∙ ap (λ (v : Sending Tagged). relay (looked ∷ gave ∷ []) v it.held it.first it.clock) out
    ∙ ap (λ (v : Option Tagged). relay (looked ∷ gave ∷ []) (full 3 (tag 1 (pos 7))) v it.first it.clock) held
    ∙ ap (λ (v : ℕ). relay (looked ∷ gave ∷ []) (full 3 (tag 1 (pos 7))) None v it.clock) first
    ∙ ap (λ (v : ℕ). relay (looked ∷ gave ∷ []) (full 3 (tag 1 (pos 7))) None 0 v) clock

pub and_is_one : (it : Inside) → relaying_of it ≡ moved → IsRelaying it
and_is_one it e = subst (λ (v : Relaying). IsRelay v) (sym e) it_is_a_relay

pub not_with_what_it_took_lost : (it : Inside) → relaying_of it ≡ relay (looked ∷ gave ∷ []) free None 0 2 → IsRelaying it → ⊥
not_with_what_it_took_lost it e h = not_lost (subst (λ (v : Relaying). Carries v) e h.carries)
