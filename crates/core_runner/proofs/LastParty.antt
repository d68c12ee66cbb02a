-- The worker stands last among the parties, before the run and after it.
use Rattle.std.proofs.Common.{◌≡◌, ℕ, List, [], ◌∷◌, ◌++◌, sym, ap, ◌∙◌, subst, length, map, take}
use Rattle.std.specs.Prelude.{drop, IfOk, OnOk, Result, Ok, Err}
use Rattle.std.specs.List.{AllByRecursion}
use Rattle.std.proofs.Math.Seq.{take-append_seam}
use Rattle.ac_outside.specs.Disks.{DiskTold}
use Rattle.file_worker.specs.declared.worker.Worker.{Worker}
use Rattle.file_worker.specs.Rounds.{GoesOn}
use Rattle.file_worker.specs.Agreement.{WorkerAgrees}
use Rattle.file_worker.specs.Workers.{desk_of, loan_of, seen_of, told_of}
use Rattle.program_run.specs.declared.ended.Ended.{Ended}
use Rattle.run_laws.specs.Laws.{IsRunOfCores}
use Rattle.run_parties.specs.declared.run_party.RunParty.{RunParty}
use Rattle.run_parties.specs.declared.run_party.RunParty.TheVariants.{Core, Disk}
use Rattle.run_parties.specs.Seats.{CoreSeat, core_of}
use Rattle.run_parties.specs.Seated.{HasItsPorts}
use Rattle.run_parties.specs.Parties.{IsLaterParty, AreSettledAt, PartyStops}
use Rattle.settled_rounds.specs.declared.party.Way.{Way}
use Rattle.settled_rounds.specs.Linked.{Pointwise, OnLinks}
use Rattle.core_runner.specs.inner.Parties.{seats_in}
use Rattle.core_runner.specs.inner.Runs.{HaveRun}
use Rattle.core_runner.proofs.Seats.{as_many}

-- ---- the last of a list

module _ {P : Type 0} (R : P → P → Type 0) where
  none_after : (qs : List P) (x : P) → Pointwise R [] (qs ++ x ∷ []) → ⊥
  none_after [] x h = h
  none_after (q ∷ qs) x h = h

  none_before : (ps : List P) (a : P) → Pointwise R (ps ++ a ∷ []) [] → ⊥
  none_before [] a h = h
  none_before (p ∷ ps) a h = h

  pub last_is_later : (ps qs : List P) (a x : P) → Pointwise R (ps ++ a ∷ []) (qs ++ x ∷ []) → R a x
  last_is_later [] [] a x h = h.0
  last_is_later [] (q ∷ qs) a x h = absurd (none_after qs x h.1)
  last_is_later (p ∷ ps) [] a x h = absurd (none_before ps a h.1)
  last_is_later (p ∷ ps) (q ∷ qs) a x h = last_is_later ps qs a x h.1

-- what a list is of which the last was taken, where the rest of its old elements are none
pub taken_apart : {P : Type 0} (after items rest : List P) (x : P) (len : ℕ) → take len (after ++ drop (length after) items) ≡ rest ++ x ∷ [] → len ≡ length after
    → after ≡ rest ++ x ∷ []
taken_apart after items rest x len cut n =
    sym (take-append_seam after (drop (length after) items)) ∙ ap (λ k. take k (after ++ drop (length after) items)) (sym n) ∙ cut

-- ---- the worker

module _ {D : Type 0} (told : D → DiskTold) (slice after cores rest items : List (RunParty D)) (w : Worker D) (x : RunParty D) (len : ℕ)
    (is : slice ≡ cores ++ Disk w ∷ []) (later : Pointwise (IsLaterParty told) slice after)
    (cut : take len (after ++ drop (length after) items) ≡ rest ++ x ∷ []) (n : len ≡ length slice) where
  pub after_is : after ≡ rest ++ x ∷ []
  after_is = taken_apart after items rest x len cut (n ∙ sym (as_many (IsLaterParty told) slice after later))

  pub all_later : Pointwise (IsLaterParty told) (cores ++ Disk w ∷ []) (rest ++ x ∷ [])
  all_later = subst (λ ps. Pointwise (IsLaterParty told) ps (rest ++ x ∷ [])) is (subst (λ qs. Pointwise (IsLaterParty told) slice qs) after_is later)

  last : IsLaterParty told (Disk w) x
  last = last_is_later (IsLaterParty told) cores rest (Disk w) x all_later

  pub no_core_stands_there : (s : CoreSeat) → x ≡ Core s → ⊥
  no_core_stands_there s e = subst (λ y. IsLaterParty told (Disk w) y) e last

  pub worker_went_on : (v : Worker D) → x ≡ Disk v → GoesOn (seen_of told w) (seen_of told v) × (loan_of v ≡ loan_of w)
  worker_went_on v e = subst (λ y. IsLaterParty told (Disk w) y) e last

  pub have_run : (v : Worker D) → x ≡ Disk v → (ways : List Way) (bound : ℕ) (files : List (List ℕ)) (left : DiskTold) (ended : Ended) → OnLinks AreSettledAt ways after
      → AllByRecursion PartyStops after → AllByRecursion HasItsPorts (seats_in rest) → WorkerAgrees (desk_of v) → told_of told v ≡ left
      → IsRunOfCores bound files (map core_of (seats_in rest)) (desk_of v).entries ended → HaveRun told ways bound files (cores ++ Disk w ∷ []) left ended
  have_run v e ways bound files left ended settled stopped ports agrees tells made =
      let whole : after ≡ rest ++ Disk v ∷ [] = after_is ∙ ap (λ y. rest ++ y ∷ []) e in
      record {
        cores = rest;
        worker = v;
        later = subst (λ y. Pointwise (IsLaterParty told) (cores ++ Disk w ∷ []) (rest ++ y ∷ [])) e all_later;
        settled = subst (λ qs. OnLinks AreSettledAt ways qs) whole settled;
        stopped = subst (λ qs. AllByRecursion PartyStops qs) whole stopped;
        ports = ports;
        agrees = agrees;
        tells = tells;
        made = made;
      }

pub ok_both : {A E : Type 0} (r r' : Result A E) (P Z : A → Type 0) (Q : Type 0) → r' ≡ r → IfOk r P → OnOk r Q → ((a : A) → P a → Q → Z a) → IfOk r' Z
ok_both (Ok a) r' P Z Q e p q f = subst (λ x. IfOk x Z) (sym e) (f a p q)
ok_both (Err x) r' P Z Q e p q f = subst (λ y. IfOk y Z) (sym e) tt

pub no_ok : {A E : Type 0} (r : Result A E) (e : E) (Z : A → Type 0) → r ≡ Err e → IfOk r Z
no_ok r e Z is = subst (λ x. IfOk x Z) (sym is) tt

pub where_ok : {A E : Type 0} (r : Result A E) (P Z : A → Type 0) → IfOk r P → ((a : A) → P a → Z a) → IfOk r Z
where_ok (Ok a) P Z p f = f a p
where_ok (Err e) P Z p f = tt
