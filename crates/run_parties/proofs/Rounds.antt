-- Rounds of the worker, one after the other: it goes on from where it was, and where the last of them is the only one that made no entry but no
-- stamp was used, there was no other, so that its ends are as that one has left them.
use Rattle.std.proofs.Common.{◌≡◌, ◌≤◌, ◌<◌, true, false, refl, subst, inl, inr, arith, nat_lt}
use Rattle.std.proofs.lemmas.Bool.Decides.{nat_tests}
use Rattle.ac_links.specs.Journals.{last_of}
use Rattle.file_worker.specs.Ends.{AtDesk}
use Rattle.file_worker.specs.Agreement.{Seen}
use Rattle.file_worker.specs.Rounds.{GoesOn}
use Rattle.file_worker.proofs.Going.{nothing_goes_on, goes_on_both}
use Rattle.run_parties.specs.Moving.{DeskStays}
use Rattle.run_parties.specs.inner.Working.{HasWorked}

pub not_yet_worked : (s : Seen) → HasWorked s s
not_yet_worked s = record { goes_on = nothing_goes_on s; moved = inr refl }

module _ (s t u : Seen) (before : HasWorked s t) (round : GoesOn t u) where
  pub worked_on : GoesOn s u
  worked_on = goes_on_both s t u before.goes_on round

  pub worked_more : nat_lt (last_of 0 t.desk.entries) (last_of 0 u.desk.entries) ≡ true → HasWorked s u
  worked_more is = record {
    goes_on = worked_on;
    moved = inl (let a = before.goes_on.clock in let b : last_of 0 t.desk.entries < last_of 0 u.desk.entries = grind (arith, nat_tests) in omega (arith, a, b));
  }

  -- the last of them
  pub stays_worked : DeskStays t.desk u.desk → nat_lt (last_of 0 s.desk.entries) (last_of 0 u.desk.entries) ≡ false → DeskStays s.desk u.desk
  stays_worked stays none = elim before.moved [
    | inl rose ↦ (let a = round.clock in let b : last_of 0 u.desk.entries ≤ last_of 0 s.desk.entries = grind (arith, nat_tests) in absurd (omega (arith, rose, a, b)))
    | inr same ↦ subst (λ (w : AtDesk). DeskStays w u.desk) same stays
  ]
