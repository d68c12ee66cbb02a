-- How an offer ends: it is withdrawn, or its message is taken.
use Rattle.std.specs.Prelude.{◌≡◌, ℕ, ◌+◌, ◌≤◌, List, count_by, Bool, false, ◌==◌, ◌&&◌}
use Rattle.ac_base.specs.declared.entry.Event.{Event}
use Rattle.ac_base.specs.declared.entry.Event.TheVariants.{Withdraw, Know, Got, Did}
use Rattle.ac_base.specs.declared.entry.Stamped.{Stamped}
use Rattle.ac_history.specs.History.{IsLegal, start}

-- ---- what an event does with the offer of that number on that link

abbrev pub is_withdrawal : ℕ → ℕ → Event → Bool
is_withdrawal link number (Withdraw l n) = (l == link) && (n == number)
is_withdrawal link number _ = false

-- by it the message moves, or the request is done
abbrev pub is_taking : ℕ → ℕ → Event → Bool
is_taking link number (Got l n value) = (l == link) && (n == number)
is_taking link number (Did l n answer) = (l == link) && (n == number)
is_taking link number _ = false

-- the owner learns that it is taken
abbrev pub is_news : ℕ → ℕ → Event → Bool
is_news link number (Know l n) = (l == link) && (n == number)
is_news link number _ = false

-- how many of these entries do so
abbrev pub times : (Event → Bool) → List Stamped → ℕ
times test es = count_by (λ (e : Stamped). test e.entry.event) es

-- ---- of a legal history

-- an offer is withdrawn once at most, or it is taken once at most, and never both
abbrev pub OffersEndOnce : Type 0
OffersEndOnce = (capacities widths : List ℕ) (cores : ℕ) (es : List Stamped) (link number : ℕ) → IsLegal (start capacities widths cores) es
    → times (is_withdrawal link number) es + times (is_taking link number) es ≤ 1

-- what its owner knows to be taken was taken
abbrev pub WhatIsKnownWasTaken : Type 0
WhatIsKnownWasTaken = (capacities widths : List ℕ) (cores : ℕ) (es : List Stamped) (link number : ℕ)
    → IsLegal (start capacities widths cores) es
    → 1 ≤ times (is_news link number) es → times (is_taking link number) es ≡ 1
