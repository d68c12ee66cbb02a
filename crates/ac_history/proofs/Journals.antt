-- What holds of each journal, and of all entries together.
-- By induction on the list of journals, whose first is that of party q, the next that of party q + 1.
use Rattle.std.proofs.Common.{◌≡◌, ℕ, zero, suc, ◌+◌, List, [], ◌∷◌, ◌++◌, subst, arith, get_or}
use Rattle.std.specs.List.{AllByRecursion}
use Rattle.ac_base.specs.declared.entry.Event.{Event}
use Rattle.ac_base.specs.declared.entry.Entry.{Entry}
use Rattle.ac_base.specs.declared.entry.Stamped.{Stamped}
use Rattle.ac_links.specs.Order.{of_party}
use Rattle.ac_history.specs.Merged.{all_from}
use Rattle.ac_history.specs.Agreement.{AllStamps}
use Rattle.ac_history.specs.Network.{AllNoted}
use Rattle.ac_links.proofs.Parted.{stamps_same}
use Rattle.ac_history.proofs.Parts.{each_append}

pub all_same : (mine : ℕ → Event → ℕ) (seen : Event → ℕ) (q : ℕ) (js : List (List Entry)) → AllNoted mine q js
    → ((k p : ℕ) → p ≡ q + k → AllByRecursion (λ e. mine p e.entry.event ≡ seen e.entry.event) (of_party p (get_or js k []))) → AllStamps seen js
all_same mine seen q [] n h = tt
all_same mine seen q (j ∷ js) n h = (stamps_same (mine q) seen 0 q j n.0 (h 0 q (omega arith)), all_same mine seen (suc q) js n.1 (λ k p e. h (suc k) p (omega arith)))

each_cut_left : (P : Stamped → Type 0) (xs ys : List Stamped) → AllByRecursion P (xs ++ ys) → AllByRecursion P xs
each_cut_left P [] ys a = tt
each_cut_left P (x ∷ xs) ys a = (a.0, each_cut_left P xs ys a.1)

each_cut_right : (P : Stamped → Type 0) (xs ys : List Stamped) → AllByRecursion P (xs ++ ys) → AllByRecursion P ys
each_cut_right P [] ys a = a
each_cut_right P (x ∷ xs) ys a = each_cut_right P xs ys a.1

pub each_journal : (P : Stamped → Type 0) (q k p : ℕ) → p ≡ q + k → (js : List (List Entry)) → AllByRecursion P (all_from q js) → AllByRecursion P (of_party p (get_or js k []))
each_journal P q k p e [] a = tt
each_journal P q zero p e (j ∷ js) a = let s : q ≡ p = omega arith in subst (λ n. AllByRecursion P (of_party n j)) s (each_cut_left P (of_party q j) (all_from (suc q) js) a)
each_journal P q (suc k) p e (j ∷ js) a = each_journal P (suc q) k p (omega arith) js (each_cut_right P (of_party q j) (all_from (suc q) js) a)

pub from_journals : (P : Stamped → Type 0) (q : ℕ) (js : List (List Entry)) → ((k p : ℕ) → p ≡ q + k → AllByRecursion P (of_party p (get_or js k []))) → AllByRecursion P (all_from q js)
from_journals P q [] h = tt
from_journals P q (j ∷ js) h = each_append P (of_party q j) (all_from (suc q) js) (h 0 q (omega arith)) (from_journals P (suc q) js (λ k p e. h (suc k) p (omega arith)))

pub zero_sum : (p m : ℕ) → p ≡ 0 + m → p ≡ m
zero_sum p m e = omega arith
