-- Two new ends, of which the second is offered 7: which end answers, in whatever order they are asked; and that the others stay.
use Rattle.std.proofs.Common.{◌≡◌, ℕ, zero, suc, ◌<◌, List, [], ◌∷◌, Some, None, refl, ap, arith, subst, inl, inr, ⊎_elim, ℤ}
use Rattle.std.specs.Prelude.{pos}
use Rattle.completion_word.specs.declared.answers.Look.TheVariants as look
use Rattle.completion_word.specs.declared.standing.Standing.TheVariants as word
use Rattle.completion_word.specs.declared.views.Peer.{Peer}
use Rattle.completion_word.specs.declared.views.DecisionKind.TheVariants as outcome
use Rattle.completion_word.specs.Link.{decision}
use Rattle.core_channels.specs.declared.answers.Receiving.TheVariants as received
use Rattle.channel_ends.specs.Receiving.{Receiving, Receives}
use Rattle.channel_ends.specs.Pairs.{IsSameRecv}
use Rattle.channel_ends.proofs.Examples.{words_of, a_ring, a_peer}
use Rattle.ac_choice.specs.declared.answers.Any.{Any}
use Rattle.ac_choice.specs.declared.answers.Any.TheVariants as any
use Rattle.ac_choice.specs.Turns.{turn, first_after}
use Rattle.ac_choice.specs.AnyOf.{SoAt, SeesNothing, Waits, GivesNone, IsLeft, Answers, WaitsAt, SeeNothing, TakesAny, any_clock, decided_end}
use Rattle.ac_choice.specs.AnyOf.{DecidesOne, SameList, DecidesAtMostOne, AreSameEnds, IsAllowedAt}
use Rattle.ac_choice.proofs.Places.{same_Some}

-- ---- turns, of three ends from the second one on

pub the_second_comes_first : turn 3 1 1 ≡ 0
the_second_comes_first = refl

pub the_first_comes_last : turn 3 1 0 ≡ 2
the_first_comes_last = refl

pub and_not_first : turn 3 1 0 ≡ 0 → ⊥
and_not_first e = omega (arith, e)

pub after_the_second : first_after 3 1 ≡ 2
after_the_second = refl

pub after_the_last : first_after 3 2 ≡ 0
after_the_last = refl

-- ---- one end

abbrev pub receiver : ℕ → Peer → List ℤ → Receiving ℤ
receiver n p popped = record { table = words_of n; ring = a_ring; peer = p; popped = popped; items = [] }

abbrev pub silent : Receiving ℤ
silent = receiver 1 (a_peer [] 0 word.Unused None) []

abbrev pub looked : Receiving ℤ
looked = receiver 1 (a_peer [] 1 word.Unused (Some look.Nothing)) []

abbrev pub waiting : Receiving ℤ
waiting = receiver 1 (a_peer [] 1 (word.Offered 1) (Some (look.Offered 1))) []

abbrev pub gave : Receiving ℤ
gave = receiver 1 (a_peer (decision (outcome.Taken 2) 1 ∷ []) 1 (word.Offered 1) None) (pos 7 ∷ [])

abbrev pub passed : Receiving ℤ
passed = receiver 1 (a_peer (decision (outcome.Passed 3) 2 ∷ []) 1 (word.Withdrawn 2) None) (pos 8 ∷ [])

pub it_sees_nothing : SeesNothing 0 silent looked
it_sees_nothing = (
  record { table = refl; ring = refl; decisions = refl; told = refl; looks = refl; popped = refl; items = ([], refl) },
  refl,
  omega arith,
)

pub it_waits : Waits 0 silent waiting
it_waits = (
  record { table = refl; ring = refl; decisions = refl; told = refl; looks = refl; popped = refl; items = ([], refl) },
  λ e. cc,
  refl,
)

pub it_gives : Receives silent 0 (received.Took 0 (pos 7) 2) gave
it_gives = record {
  of = 1;
  next = refl;
  table = refl;
  ring = refl;
  number_is = refl;
  decisions = refl;
  told = refl;
  looks = refl;
  popped = refl;
  items = (pos 7 ∷ [], refl);
}

pub who_gives_does_not_give_none : GivesNone 0 silent gave → ⊥
who_gives_does_not_give_none h = ⊎_elim (λ (n : SeesNothing 0 silent gave). let e = n.0.decisions in cc) (λ (n : Waits 0 silent gave). let e = n.0.decisions in cc) h

pub who_waits_sees_more : SeesNothing 0 silent waiting → ⊥
who_waits_sees_more h = let e = h.1 in cc

pub its_list_grows : DecidesOne silent gave
its_list_grows = record { decision = decision (outcome.Taken 2) 1; value = pos 7; decisions = refl; popped = refl }

pub that_of_one_who_looked_does_not : DecidesOne silent looked → ⊥
that_of_one_who_looked_does_not h = let e = h.decisions in cc

pub it_stays : SameList silent looked
it_stays = (refl, refl)

pub and_else_it_does_not : SameList silent gave → ⊥
and_else_it_does_not h = let e = h.0 in cc

-- ---- two ends

at_first : {X : Type 0} (R : X → X → Type 0) (x y : X) (xs ys : List X) → R x y → SoAt R (x ∷ xs) 0 (y ∷ ys)
at_first R x y xs ys r = λ a b from to. subst (λ z. R z b) (same_Some x a from) (subst (λ z. R x z) (same_Some y b to) r)

at_second : {X : Type 0} (R : X → X → Type 0) (w x v y : X) (xs ys : List X) → R x y → SoAt R (w ∷ x ∷ xs) 1 (v ∷ y ∷ ys)
at_second R w x v y xs ys r = λ a b from to. subst (λ z. R z b) (same_Some x a from) (subst (λ z. R x z) (same_Some y b to) r)

abbrev pub two : List (Receiving ℤ)
two = silent ∷ silent ∷ []

first_saw_nothing : (k : ℕ) → k < 2 → turn 2 0 k < turn 2 0 1 → SoAt (GivesNone 0) two k (looked ∷ gave ∷ [])
first_saw_nothing zero w l = at_first (GivesNone 0) silent looked (silent ∷ []) (gave ∷ []) (inl it_sees_nothing)
first_saw_nothing (suc zero) w l = absurd (omega (arith, l))
first_saw_nothing (suc (suc k)) w l = absurd (omega (arith, w))

none_is_left : (k : ℕ) → k < 2 → turn 2 0 1 < turn 2 0 k → SoAt IsLeft two k (looked ∷ gave ∷ [])
none_is_left zero w l = absurd (omega (arith, l))
none_is_left (suc zero) w l = absurd (omega (arith, l))
none_is_left (suc (suc k)) w l = absurd (omega (arith, w))

-- from the first end on, which sees nothing
pub the_second_gives : TakesAny two 0 0 (any.Took 1 0 (pos 7) 2) (looked ∷ gave ∷ [])
the_second_gives = record {
  count = refl;
  within = omega arith;
  answer = at_second (λ a b. Receives a 0 (received.Took 0 (pos 7) 2) b) silent silent looked gave [] [] it_gives;
  before = first_saw_nothing;
  after = none_is_left;
}

-- a body that takes from every end, and keeps the rest
pub not_both : TakesAny two 0 0 (any.Took 1 0 (pos 7) 2) (gave ∷ gave ∷ []) → ⊥
not_both h = who_gives_does_not_give_none (h.before 0 (omega arith) (omega arith) silent gave refl refl)

-- from the second on the first is not asked
none_before : (k : ℕ) → k < 2 → turn 2 1 k < turn 2 1 1 → SoAt (GivesNone 0) two k (silent ∷ gave ∷ [])
none_before zero w l = absurd (omega (arith, l))
none_before (suc zero) w l = absurd (omega (arith, l))
none_before (suc (suc k)) w l = absurd (omega (arith, w))

first_is_left : (k : ℕ) → k < 2 → turn 2 1 1 < turn 2 1 k → SoAt IsLeft two k (silent ∷ gave ∷ [])
first_is_left zero w l = at_first IsLeft silent silent (silent ∷ []) (gave ∷ []) refl
first_is_left (suc zero) w l = absurd (omega (arith, l))
first_is_left (suc (suc k)) w l = absurd (omega (arith, w))

pub the_second_alone : Answers two 1 0 1 (received.Took 0 (pos 7) 2) (silent ∷ gave ∷ [])
the_second_alone = record {
  count = refl;
  within = omega arith;
  answer = at_second (λ a b. Receives a 0 (received.Took 0 (pos 7) 2) b) silent silent silent gave [] [] it_gives;
  before = none_before;
  after = first_is_left;
}

pub it_was_not_asked : Answers two 1 0 1 (received.Took 0 (pos 7) 2) (looked ∷ gave ∷ []) → ⊥
it_was_not_asked h =
    let e : looked ≡ silent = h.after 0 (omega arith) (omega arith) silent looked refl refl in
    let f = ap (λ (r : Receiving ℤ). r.peer.looks) e in omega (arith, f)

-- no end has anything
each_sees_nothing : (k : ℕ) → k < 2 → SoAt (SeesNothing 0) two k (looked ∷ looked ∷ [])
each_sees_nothing zero w = at_first (SeesNothing 0) silent looked (silent ∷ []) (looked ∷ []) it_sees_nothing
each_sees_nothing (suc zero) w = at_second (SeesNothing 0) silent silent looked looked [] [] it_sees_nothing
each_sees_nothing (suc (suc k)) w = absurd (omega (arith, w))

pub none_gives : SeeNothing two 0 (looked ∷ looked ∷ [])
none_gives = record { count = refl; each = each_sees_nothing }

pub it_is_nothing : TakesAny two 0 0 any.Nothing (looked ∷ looked ∷ [])
it_is_nothing = none_gives

-- each was asked
pub not_without_a_look : SeeNothing two 0 (looked ∷ silent ∷ []) → ⊥
not_without_a_look h = let s = h.each 1 (omega arith) silent silent refl refl in let e = s.0.looks in omega (arith, e)

-- the second waits, and so it is no answer that there is nothing
saw_nothing_before : (k : ℕ) → k < 2 → turn 2 0 k < turn 2 0 1 → SoAt (SeesNothing 0) two k (looked ∷ waiting ∷ [])
saw_nothing_before zero w l = at_first (SeesNothing 0) silent looked (silent ∷ []) (waiting ∷ []) it_sees_nothing
saw_nothing_before (suc zero) w l = absurd (omega (arith, l))
saw_nothing_before (suc (suc k)) w l = absurd (omega (arith, w))

each_gives_none : (k : ℕ) → k < 2 → SoAt (GivesNone 0) two k (looked ∷ waiting ∷ [])
each_gives_none zero w = at_first (GivesNone 0) silent looked (silent ∷ []) (waiting ∷ []) (inl it_sees_nothing)
each_gives_none (suc zero) w = at_second (GivesNone 0) silent silent looked waiting [] [] (inr it_waits)
each_gives_none (suc (suc k)) w = absurd (omega (arith, w))

pub the_second_waits : WaitsAt two 0 0 1 (looked ∷ waiting ∷ [])
the_second_waits = record {
  count = refl;
  within = omega arith;
  waits = at_second (Waits 0) silent silent looked waiting [] [] it_waits;
  before = saw_nothing_before;
  each = each_gives_none;
}

pub and_not_the_first : WaitsAt two 0 0 0 (looked ∷ waiting ∷ []) → ⊥
and_not_the_first h = let w = h.waits silent looked refl refl in w.1 refl

-- ---- clocks and lists

abbrev passing : Any ℤ
passing = any.Passed 0 0 3

abbrev not_yet : Any ℤ
not_yet = any.NotYet 0

pub the_clock_is_the_stamp : any_clock 0 passing ≡ 3
the_clock_is_the_stamp = refl

pub and_else_as_it_was : any_clock 1 not_yet ≡ 1
and_else_as_it_was = refl

pub it_is_the_end_that_passed : decided_end passing ≡ Some 0
it_is_the_end_that_passed = refl

pub waiting_decides_nothing : decided_end not_yet ≡ None
waiting_decides_nothing = refl

others_stay : (k : ℕ) → (Some 1 ≡ Some k → ⊥) → SoAt SameList two k (looked ∷ gave ∷ [])
others_stay zero n = at_first SameList silent looked (silent ∷ []) (gave ∷ []) it_stays
others_stay (suc zero) n = absurd (n refl)
others_stay (suc (suc k)) n = λ a b from to. cc

pub one_decision : DecidesAtMostOne two (Some 1) (looked ∷ gave ∷ [])
one_decision = record { count = refl; one = (omega arith, at_second DecidesOne silent silent looked gave [] [] its_list_grows); others = others_stay }

pub and_no_second_one : DecidesAtMostOne two (Some 1) (gave ∷ gave ∷ []) → ⊥
and_no_second_one h = and_else_it_does_not (h.others 0 (λ e. cc) silent gave refl refl)

same_each : (k : ℕ) → SoAt IsSameRecv two k (looked ∷ gave ∷ [])
same_each zero = at_first IsSameRecv silent looked (silent ∷ []) (gave ∷ []) (record { table = refl; ring = refl })
same_each (suc zero) = at_second IsSameRecv silent silent looked gave [] [] (record { table = refl; ring = refl })
same_each (suc (suc k)) = λ a b from to. cc

pub they_are_the_same : AreSameEnds two (looked ∷ gave ∷ [])
they_are_the_same = record { count = refl; each = same_each }

pub not_fewer : AreSameEnds two (looked ∷ []) → ⊥
not_fewer h = let e = h.count in omega (arith, e)

-- what was taken is allowed after what was taken before at its end
pub seven_is_allowed : IsAllowedAt (λ before (x : ℤ). before ≡ []) two (any.Took 1 0 (pos 7) 2)
seven_is_allowed = λ a is. subst (λ (r : Receiving ℤ). r.popped ≡ []) (same_Some silent a is) refl

pub not_a_second_time : IsAllowedAt (λ before (x : ℤ). before ≡ []) (silent ∷ gave ∷ []) (any.Took 1 0 (pos 7) 2) → ⊥
not_a_second_time h = let e = h gave refl in cc
