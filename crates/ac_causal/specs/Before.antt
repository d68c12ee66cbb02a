-- Which entries of a run came before which, whatever the schedule was (Lamport 1978), and their vectors (Fidge 1988, Mattern 1989).
-- Entries are told by their places in the history, counted from 0.
use Rattle.std.specs.Prelude.{◌≡◌, ◌≢◌, ℕ, zero, suc, ◌+◌, ◌<◌, List, length, Option, Some, None, Bool, true, false, ◌==◌, ◌&&◌, ◌⊎◌}
use Rattle.std.specs.Prelude.{slice_get, slice_index, if◌then◌else◌}
use Rattle.ac_base.specs.declared.entry.Event.{Event}
use Rattle.ac_base.specs.declared.entry.Event.TheVariants.{Offer, Withdraw, Know, Room, Got, Pass, Did, Reply}
use Rattle.ac_base.specs.declared.entry.Stamped.{Stamped}
use Rattle.ac_history.specs.Outcomes.{is_withdrawal, is_taking}
use Rattle.ac_causal.specs.declared.order.Order.{Order}
use Rattle.ac_causal.specs.declared.order.Order.TheVariants.{Same, Before, After, Concurrent}

-- ---- what an entry answers

-- the event makes the offer of that number on that link
abbrev pub is_offering : ℕ → ℕ → Event → Bool
is_offering link number (Offer l n payload) = (l == link) && (n == number)
is_offering link number _ = false

-- it passes the offer, which was withdrawn
abbrev pub is_passing : ℕ → ℕ → Event → Bool
is_passing link number (Pass l n) = (l == link) && (n == number)
is_passing link number _ = false

-- it does the request
abbrev pub is_doing : ℕ → ℕ → Event → Bool
is_doing link number (Did l n answer) = (l == link) && (n == number)
is_doing link number _ = false

-- the first event answers the second
abbrev pub answers : Event → Event → Bool
answers (Offer l n payload) e = false
answers (Withdraw l n) e = false
answers (Know l n) e = is_taking l n e
answers (Room l n) e = is_passing l n e
answers (Got l n value) e = is_offering l n e
answers (Pass l n) e = is_withdrawal l n e
answers (Did l n answer) e = is_offering l n e
answers (Reply l n answer) e = is_doing l n e

-- ---- the order

-- entry j answers entry i
pub record Answers (es : List Stamped) (i j : ℕ) : Type 0 where
  pub asking : Stamped
  pub answering : Stamped
  pub asks : slice_get es i ≡ Some asking
  pub answers_it : slice_get es j ≡ Some answering
  pub answer : answers answering.entry.event asking.entry.event ≡ true

-- one party made both, i first
pub record IsEarlier (es : List Stamped) (i j : ℕ) : Type 0 where
  pub one : Stamped
  pub next : Stamped
  pub is_one : slice_get es i ≡ Some one
  pub is_next : slice_get es j ≡ Some next
  pub party : one.party ≡ next.party
  pub earlier : i < j

-- the least transitive relation that has an entry before the later ones of its party and before those that answer it
pub data IsBefore (es : List Stamped) : ℕ → ℕ → Type 0 where
  of_one_party : (i j : ℕ) → IsEarlier es i j → IsBefore es i j
  by_answer : (i j : ℕ) → Answers es i j → IsBefore es i j
  by_way : (i k j : ℕ) → IsBefore es i k → IsBefore es k j → IsBefore es i j

-- how entry i stands to entry j
abbrev pub IsOrder : List Stamped → ℕ → ℕ → Order → Type 0
IsOrder es i j Same = i ≡ j
IsOrder es i j Before = IsBefore es i j
IsOrder es i j After = IsBefore es j i
IsOrder es i j Concurrent = (i ≢ j) × ¬ IsBefore es i j × ¬ IsBefore es j i

-- ---- vectors

-- how many of the numbers below n pass the test
abbrev pub count_below : (ℕ → Bool) → ℕ → ℕ
count_below test zero = 0
count_below test (suc n) = count_below test n + (if test n then 1 else 0)

abbrev pub is_of : ℕ → Option Stamped → Bool
is_of party None = false
is_of party (Some e) = e.party == party

-- for each party the count of its entries that are entry j or are before it
pub record IsVector (es : List Stamped) (parties j : ℕ) (counts : List ℕ) : Type 0 where
  pub parties_are : length counts ≡ parties
  pub past : ℕ → Bool
  pub in_past : (i : ℕ) → i < length es → past i ≡ true → (i ≡ j) ⊎ IsBefore es i j
  pub all_past : (i : ℕ) → i < length es → (i ≡ j) ⊎ IsBefore es i j → past i ≡ true
  pub counted : (p : ℕ) → p < parties → slice_index counts p ≡ count_below (λ i. past i && is_of p (slice_get es i)) (length es)
