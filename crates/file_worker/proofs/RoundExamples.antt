-- What rounds of a worker for two cores keep and are answered: one in which the one request is done and the other is passed, and after it
-- rounds that find nothing, that lack an item or a place, and that lack a stamp.
use Rattle.std.proofs.Common.{◌≡◌, ℕ, zero, suc, ◌<◌, ◌≤◌, [], ◌∷◌, Option, Some, None, inl, inr, ⊎_elim, refl, sym, subst, arith}
use Rattle.std.specs.Prelude.{slice_get}
use Rattle.ac_base.specs.Stamps.{stamp_after}
use Rattle.completion_word.specs.declared.answers.Look.{Look}
use Rattle.completion_word.specs.declared.answers.Look.TheVariants as look
use Rattle.completion_word.specs.declared.standing.Standing.{Standing}
use Rattle.completion_word.specs.declared.standing.Standing.TheVariants as word
use Rattle.completion_word.specs.declared.views.DecisionKind.TheVariants as outcome
use Rattle.completion_word.specs.Link.{decision}
use Rattle.completion_word.specs.Steps.{stamp_shown}
use Rattle.file_worker.specs.declared.turns.Round.TheVariants.{Did, Quiet, NotYet, ClockFull}
use Rattle.file_worker.specs.Ends.{CoreEnds, AtEach, AtOne}
use Rattle.file_worker.specs.Agreement.{Seen}
use Rattle.file_worker.specs.Rounds.{EndsGoOn, GoesOn, LooksOnce, Rests, SawNothing, LacksRoom, LacksStamp, Waits, Stops, MadeNone, Says}
use Rattle.file_worker.specs.Laws.{CallsGoOn}
use Rattle.file_worker.specs.inner.Rounds.{TurnsAt}
use Rattle.file_worker.proofs.EndLists.{same_some}
use Rattle.file_worker.proofs.Going.{turn_goes_on}
use Rattle.file_worker.proofs.EndExamples.{a_peer, taker, putter, two_bytes, one_byte, first_asks, second_withdrew, as_read, first_done, second_passed, did, passed}
use Rattle.file_worker.proofs.AgreementExamples.{before, after_first, after_both, first_is_done, second_is_passed}

-- ---- of two cores

module _ (R : CoreEnds → CoreEnds → Type 0) (a b c d : CoreEnds) where
  at_both : R a c → R b d → AtEach R (a ∷ b ∷ []) (c ∷ d ∷ [])
  at_both r s zero x y is_x is_y = subst (λ v. R v y) (same_some a x is_x) (subst (R a) (same_some c y is_y) r)
  at_both r s (suc zero) x y is_x is_y = subst (λ v. R v y) (same_some b x is_x) (subst (R b) (same_some d y is_y) s)
  at_both r s (suc (suc core)) x y is_x is_y = cc

  at_none : (R a c → ⊥) → (R b d → ⊥) → AtOne R (a ∷ b ∷ []) (c ∷ d ∷ []) → ⊥
  at_none r s one = by one.core one.old one.new one.before' one.after' one.holds
    where
      by : (core : ℕ) (x y : CoreEnds) → slice_get (a ∷ b ∷ []) core ≡ Some x → slice_get (c ∷ d ∷ []) core ≡ Some y → R x y → ⊥
      by zero x y is_x is_y h = r (subst (R a) (sym (same_some c y is_y)) (subst (λ v. R v y) (sym (same_some a x is_x)) h))
      by (suc zero) x y is_x is_y h = s (subst (R b) (sym (same_some d y is_y)) (subst (λ v. R v y) (sym (same_some b x is_x)) h))
      by (suc (suc core)) x y is_x is_y h = cc

-- ---- the first round

pub ends_of_the_first_go_on : EndsGoOn first_asks first_done
ends_of_the_first_go_on = record {
  ask = record { table = refl; ring = refl };
  ring = refl;
  decisions = (decision (outcome.Taken 2) 1 ∷ [], refl);
  popped = (two_bytes ∷ [], refl);
  replies = (as_read ∷ [], refl);
  looks = let l : 0 ≤ 1 = omega arith in l;
}

pub no_decision_is_taken_back : EndsGoOn first_done first_asks → ⊥
no_decision_is_taken_back h = let e = h.decisions.1 in cc

first_turn : TurnsAt 0 before Did after_first
first_turn = record { before = first_asks; after = first_done; was = refl; is = refl; first = refl; one_each = refl; turns = (did, refl, inl first_is_done) }

second_turn : TurnsAt 1 after_first Did after_both
second_turn = record { before = second_withdrew; after = second_passed; was = refl; is = refl; first = refl; one_each = refl; turns = (passed, refl, inr second_is_passed) }

pub the_first_is_done : GoesOn before after_first
the_first_is_done = turn_goes_on 0 before Did after_first first_turn

pub the_second_is_passed : GoesOn after_first after_both
the_second_is_passed = turn_goes_on 1 after_first Did after_both second_turn

pub one_after_the_other : CallsGoOn → GoesOn before after_both
one_after_the_other law = law before after_first after_both the_first_is_done the_second_is_passed

pub no_entry_is_taken_back : GoesOn after_both before → ⊥
no_entry_is_taken_back h = let e = h.entries.1 in cc

-- its entry would have the stamp of the one before it
pub no_entry_without_a_later_stamp : GoesOn after_first (record after_both { desk = record after_both.desk { entries = did ∷ record passed { stamp = 2 } ∷ [] } }) → ⊥
no_entry_without_a_later_stamp h = let up : 2 < 2 = h.rises (let l : 1 < 2 = omega arith in l) in absurd (omega arith)

pub each_looks_once : AtEach LooksOnce before.desk.ends after_both.desk.ends
each_looks_once = at_both LooksOnce first_asks second_withdrew first_done second_passed refl refl

pub the_second_has_not_looked_yet : AtEach LooksOnce before.desk.ends after_first.desk.ends → ⊥
the_second_has_not_looked_yet h = let e : ◌≡◌ {A = ℕ} 0 1 = h 1 second_withdrew second_withdrew refl refl in absurd (omega arith)

pub two_entries_were_made : Says Did before after_both
two_entries_were_made = let l : 0 < 2 = omega arith in l

-- ---- the next round: what each look saw, and the look that is kept

abbrev first_looks : Standing → Option Look → CoreEnds
first_looks saw kept = record { ask = taker 1 (a_peer (decision (outcome.Taken 2) 1 ∷ []) 2 saw kept 1) (two_bytes ∷ []) []; reply = putter 2 (as_read ∷ []) 15 }

abbrev second_looks : Standing → Option Look → CoreEnds
second_looks saw kept = record { ask = taker 3 (a_peer (decision (outcome.Passed 4) 3 ∷ []) 2 saw kept 1) (one_byte ∷ []) []; reply = putter 4 [] 16 }

abbrev round_of : CoreEnds → CoreEnds → Seen
round_of a b = record after_both { desk = record after_both.desk { ends = a ∷ b ∷ [] } }

first_rests : (saw : Standing) (kept : Option Look) → Rests first_done (first_looks saw kept)
first_rests saw kept = record {
  ask = record { table = refl; ring = refl; decisions = refl; told = refl; looks = refl; popped = refl; items = ([], refl) };
  reply = record { ring = refl; replies = refl; free = let l : 15 ≤ 15 = omega arith in l };
}

second_rests : (saw : Standing) (kept : Option Look) → Rests second_passed (second_looks saw kept)
second_rests saw kept = record {
  ask = record { table = refl; ring = refl; decisions = refl; told = refl; looks = refl; popped = refl; items = ([], refl) };
  reply = record { ring = refl; replies = refl; free = let l : 16 ≤ 16 = omega arith in l };
}

pub one_that_is_done_does_not_rest : Rests first_asks first_done → ⊥
one_that_is_done_does_not_rest h = let e = h.ask.decisions in cc

made_none : (saw seen : Standing) (kept last : Option Look) → MadeNone after_both (round_of (first_looks saw kept) (second_looks seen last))
made_none saw seen kept last = record {
  entries = refl;
  told = refl;
  rests = at_both Rests first_done second_passed (first_looks saw kept) (second_looks seen last) (first_rests saw kept) (second_rests seen last);
}

pub two_entries_are_not_none : MadeNone before after_both → ⊥
two_entries_are_not_none h = let e = h.entries in cc

-- ---- nothing is to be done

abbrev first_quiet : CoreEnds
first_quiet = first_looks word.Unused None

abbrev second_quiet : CoreEnds
second_quiet = second_looks word.Unused None

abbrev quiet : Seen
quiet = round_of first_quiet second_quiet

first_nothing : SawNothing first_done first_quiet
first_nothing = (refl, let l : 1 ≤ 1 = omega arith in l)

second_nothing : SawNothing second_passed second_quiet
second_nothing = (refl, let l : 1 ≤ 1 = omega arith in l)

pub a_settling_had_told_of_one : (b : CoreEnds) → SawNothing first_asks b → ⊥
a_settling_had_told_of_one b h = let l : 1 ≤ 0 = h.1 in absurd (omega arith)

pub the_look_saw_one : SawNothing first_done (first_looks (word.Offered 5) None) → ⊥
the_look_saw_one h = let e = h.0 in cc

pub both_are_quiet : Says Quiet after_both quiet
both_are_quiet = (made_none word.Unused word.Unused None None, at_both SawNothing first_done second_passed first_quiet second_quiet first_nothing second_nothing)

pub no_entry_was_made : Says Did after_both quiet → ⊥
no_entry_was_made h = let l : 2 < 2 = h in absurd (omega arith)

-- ---- an offer is seen, and its item or a place for its reply is not known of

abbrev first_sees : CoreEnds
first_sees = first_looks (word.Offered 5) (Some (look.Offered 5))

first_lacks : LacksRoom first_done first_sees
first_lacks = (λ e. cc, inl refl)

pub nor_was_a_place_free : LacksRoom (record first_asks { reply = putter 2 [] 0 }) first_sees
nor_was_a_place_free = (λ e. cc, inr refl)

pub both_were_known : (b : CoreEnds) → LacksRoom first_asks b → ⊥
both_were_known b h = ⊎_elim (λ (e : first_asks.ask.items ≡ []). absurd cc) (λ (e : ◌≡◌ {A = ℕ} 16 0). absurd (omega arith)) h.1

quiet_lacks_none : LacksRoom first_done first_quiet → ⊥
quiet_lacks_none h = h.0 refl

second_lacks_none : LacksRoom second_passed second_quiet → ⊥
second_lacks_none h = h.0 refl

pub it_waits : Waits first_done first_sees × Waits second_passed second_quiet
it_waits = (inr first_lacks, inl second_nothing)

pub one_that_could_be_done_does_not : (b : CoreEnds) → Waits first_asks b → ⊥
one_that_could_be_done_does_not b h = ⊎_elim (λ w. a_settling_had_told_of_one b w) (λ w. both_were_known b w) h

pub one_is_not_done_yet : Says NotYet after_both (round_of first_sees second_quiet)
one_is_not_done_yet = (
  made_none (word.Offered 5) word.Unused (Some (look.Offered 5)) None,
  at_both Waits first_done second_passed first_sees second_quiet it_waits.0 it_waits.1,
  record { core = 0; old = first_done; new = first_sees; before' = refl; after' = refl; holds = first_lacks },
)

pub so_it_is_not_quiet : Says Quiet after_both (round_of first_sees second_quiet) → ⊥
so_it_is_not_quiet h = let e = (h.1 0 first_done first_sees refl refl).0 in cc

pub where_nothing_is_seen_none_is_awaited : Says NotYet after_both quiet → ⊥
where_nothing_is_seen_none_is_awaited h = at_none LacksRoom first_done second_passed first_quiet second_quiet quiet_lacks_none second_lacks_none h.2

-- ---- an offer is seen with the last stamp

abbrev last : ℕ
last = 1152921504606846975

abbrev second_stops : CoreEnds
second_stops = second_looks (word.Offered last) (Some (look.Offered last))

second_lacks : LacksStamp 4 second_passed second_stops
second_lacks = record { shown = look.Offered last; last_look = refl; some = λ e. cc; none = refl }

some_look : {s : Look} → None ≡ Some s → ⊥
some_look e = cc

a_stamp_after : (shown : Look) → look.Offered 5 ≡ shown → stamp_after 4 (stamp_shown shown) ≡ None → ⊥
a_stamp_after shown e n = let none : stamp_after 4 5 ≡ None = subst (λ s. stamp_after 4 (stamp_shown s) ≡ None) (sym e) n in cc

same_look : {s t : Look} → Some s ≡ Some t → s ≡ t
same_look e = cc

pub a_stamp_is_left : LacksStamp 4 first_done first_sees → ⊥
a_stamp_is_left h = a_stamp_after h.shown (same_look h.last_look) h.none

first_has_none : LacksStamp 4 first_done first_quiet → ⊥
first_has_none h = some_look h.last_look

second_has_none : LacksStamp 4 second_passed second_quiet → ⊥
second_has_none h = some_look h.last_look

pub it_stops : Stops 4 first_done first_sees × Stops 4 second_passed second_stops
it_stops = (inl it_waits.0, inr second_lacks)

pub with_a_stamp_it_goes_on : Stops 4 first_asks (record first_done { ask = taker 1 (a_peer [] 1 (word.Offered 5) (Some (look.Offered 5)) 1) [] (two_bytes ∷ []) }) → ⊥
with_a_stamp_it_goes_on h = ⊎_elim (λ w. one_that_could_be_done_does_not (record first_done { ask = taker 1 (a_peer [] 1 (word.Offered 5) (Some (look.Offered 5)) 1) [] (two_bytes ∷ []) }) w)
    (λ w. a_stamp_after w.shown (same_look w.last_look) w.none) h

pub no_stamp_is_left : Says ClockFull after_both (round_of first_sees second_stops)
no_stamp_is_left = (
  made_none (word.Offered 5) (word.Offered last) (Some (look.Offered 5)) (Some (look.Offered last)),
  at_both (Stops 4) first_done second_passed first_sees second_stops it_stops.0 it_stops.1,
  record { core = 1; old = second_passed; new = second_stops; before' = refl; after' = refl; holds = second_lacks },
)

pub where_nothing_is_seen_no_clock_is_full : Says ClockFull after_both quiet → ⊥
where_nothing_is_seen_no_clock_is_full h = at_none (LacksStamp 4) first_done second_passed first_quiet second_quiet first_has_none second_has_none h.2
