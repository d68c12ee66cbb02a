-- What agrees of a worker for two cores and of its disk, before its first round and after it, beside journals, rings and disks that do not
-- agree.
use Rattle.std.proofs.Common.{◌≡◌, ℕ, zero, suc, ◌-◌, ◌≤◌, [], ◌∷◌, Option, Some, None, true, cond, inl, inr, refl, sym, ap, ◌∙◌, subst, arith}
use Rattle.std.specs.Prelude.{◌==◌, if◌then◌else◌, nat_le, slice_get}
use Rattle.std.specs.List.{filter}
use Rattle.std.proofs.lemmas.Bool.Decides.{nat_tests}
use Rattle.ac_base.specs.declared.entry.Payload.{Payload}
use Rattle.ac_base.specs.declared.entry.Answer.TheVariants.{Bytes, Fault}
use Rattle.ac_base.specs.declared.entry.Event.{Event}
use Rattle.ac_base.specs.declared.entry.Event.TheVariants.{Offer, Withdraw, Know, Room, Got, Pass, Did, Reply}
use Rattle.ac_links.specs.declared.payloads.Terms.{Terms}
use Rattle.ac_links.specs.Order.{of_party, is_of_link}
use Rattle.ac_links.specs.Party.{EndRuns}
use Rattle.ac_links.specs.Party.LinkEnd.{Absent}
use Rattle.ac_history.specs.Files.{padded}
use Rattle.ac_outside.specs.Disks.{DiskTold}
use Rattle.file_ops.specs.Agreement.{files_of}
use Rattle.file_ops.proofs.Examples.{three, told, calls_of, it_is_read}
use Rattle.file_worker.specs.declared.worker.Worker.{Worker}
use Rattle.file_worker.specs.Ends.{CoreEnds, AreAnswered, end_or_absent, worker_ends}
use Rattle.file_worker.specs.Agreement.{WorkerAgrees, Seen, TellsTaken, deeds_of, IsCounted, DiskServes}
use Rattle.file_worker.specs.Laws.{StartsCounted, StartsServed}
use Rattle.file_worker.specs.Workers.{desk_of, told_of, seen_of, loan_of}
use Rattle.file_worker.specs.inner.Turns.{DoesNext, PassesNext}
use Rattle.file_worker.proofs.EndLists.{same_some}
use Rattle.file_worker.proofs.Agreeing.{made_agrees}
use Rattle.file_worker.proofs.EndExamples.{putter, two_bytes, one_byte, first_asks, second_withdrew, first_done, second_passed, did, passed, at_first, at_last}

-- ---- with its disk

abbrev pub before : Seen
before = record { desk = at_first; told = told }

abbrev pub told_after : DiskTold
told_after = record told { held = Some (record three { calls = 2 }) }

-- core 0 has had its turn, and then core 1
abbrev pub after_first : Seen
after_first = record { desk = record { first = 1; ends = first_done ∷ second_withdrew ∷ []; entries = did ∷ [] }; told = told_after }

abbrev pub after_both : Seen
after_both = record { desk = at_last; told = told_after }

module _ {D : Type 0} (tells : D → DiskTold) (w : Worker D) where
  pub as_contracts_see_it : desk_of w ≡ at_last → told_of tells w ≡ told_after → seen_of tells w ≡ after_both
  as_contracts_see_it desk disk = ap (λ d. record { desk = d; told = told_of tells w }) desk ∙ ap (λ t. record { desk = at_last; told = t }) disk

  pub not_with_another_disk : told_of tells w ≡ told → seen_of tells w ≡ after_both → ⊥
  not_with_another_disk disk e = never (sym disk ∙ ap (λ (s : Seen). s.told) e)
    where
      calls_told : DiskTold → ℕ
      calls_told t = calls_of t.held

      never : told ≡ told_after → ⊥
      never same = let e : ◌≡◌ {A = ℕ} 1 2 = ap calls_told same in absurd (omega arith)

  pub under_which_name : w.disk.ghost_name ≡ 5 → loan_of w ≡ 5
  under_which_name name = name

  pub not_under_another : w.disk.ghost_name ≡ 5 → loan_of w ≡ 6 → ⊥
  not_under_another name e = omega (arith, name, e)

-- ---- its journal and its ends

absent : (l : ℕ) → worker_ends 1 at_first.ends (suc (suc (suc l))) ≡ Absent
absent l =
    let past : nat_le 1 (suc (suc (suc l))) ≡ true = grind (arith, nat_tests) in
    let place : suc (suc (suc l)) - 1 ≡ suc (suc l) = omega arith in
    ap (λ b. cond b (end_or_absent (slice_get at_first.ends (suc (suc (suc l)) - 1))) Absent) past ∙ ap (λ n. end_or_absent (slice_get at_first.ends n)) place

abbrev Answered : CoreEnds → Type 0
Answered e = AreAnswered e.ask.popped e.ask.peer.decisions e.reply.replies

pub no_entry_no_decision : WorkerAgrees at_first
no_entry_no_decision = record { journal = λ terms requests. record { runs = runs terms; stamps = tt }; turns = tt; answered = answered }
  where
    runs : (terms : ℕ → Terms) (l : ℕ) → EndRuns (terms l) (worker_ends 1 at_first.ends l) (filter (is_of_link l) (of_party 2 []))
    runs terms zero = refl
    runs terms (suc zero) = refl
    runs terms (suc (suc zero)) = refl
    runs terms (suc (suc (suc l))) = subst (λ x. EndRuns (terms (suc (suc (suc l)))) x []) (sym (absent l)) refl

    answered : (c : ℕ) (e : CoreEnds) → slice_get at_first.ends c ≡ Some e → Answered e
    answered zero e is = subst Answered (same_some first_asks e is) refl
    answered (suc zero) e is = subst Answered (same_some second_withdrew e is) refl
    answered (suc (suc c)) e is = cc

pub first_is_done : DoesNext 1 0 first_asks told did first_done told_after
first_is_done = record {
  number = 0;
  stamp = 2;
  payload = two_bytes;
  answer = Bytes (2 ∷ 3 ∷ []);
  entry = refl;
  ask = record { of = 1; next = refl; table = refl; ring = refl; number_is = refl; decisions = refl; told = refl; looks = refl; popped = refl; items = ([], refl) };
  reply = record { ring = refl; replies = refl; free = let l : 16 ≤ 16 = omega arith in l };
  fits = refl;
  asked = it_is_read;
}

pub second_is_passed : PassesNext 2 2 second_withdrew told_after passed second_passed told_after
second_is_passed = record {
  number = 0;
  stamp = 4;
  payload = one_byte;
  entry = refl;
  ask = record { of = 3; next = refl; table = refl; ring = refl; number_is = refl; decisions = refl; told = refl; looks = refl; popped = refl; items = ([], refl) };
  reply = record { ring = refl; replies = refl; free = let l : 16 ≤ 16 = omega arith in l };
  told = refl;
}

one_entry : WorkerAgrees after_first.desk
one_entry = made_agrees at_first 0 first_asks first_done refl no_entry_no_decision told told_after did (inl first_is_done)

pub an_entry_for_each_decision : WorkerAgrees at_last
an_entry_for_each_decision = made_agrees after_first.desk 1 second_withdrew second_passed refl one_entry told_after told_after passed (inr second_is_passed)

abbrev for_requests : ℕ → Terms
for_requests l = record { capacity = 16; requests = true }

pub no_decision_without_its_entry : WorkerAgrees (record at_last { entries = [] }) → ⊥
no_decision_without_its_entry h = let e = (h.journal for_requests (λ l up. refl)).runs 1 in cc

pub no_entry_without_its_decision : WorkerAgrees (record at_first { entries = did ∷ [] }) → ⊥
no_entry_without_its_decision h = let e = ((h.journal for_requests (λ l up. refl)).runs 1).2 in cc

pub no_entry_of_another_turn : WorkerAgrees (record at_first { entries = record passed { turn = 1 } ∷ [] }) → ⊥
no_entry_of_another_turn h = let e : ◌≡◌ {A = ℕ} 1 0 = h.turns.0 in absurd (omega arith)

pub no_reply_is_lost : WorkerAgrees (record at_last { ends = record first_done { reply = putter 2 [] 16 } ∷ [] }) → ⊥
no_reply_is_lost h = (h.answered 0 (record first_done { reply = putter 2 [] 16 }) refl).0

-- ---- its disk

-- what core 0 has asked on link 1, and core 1 on link 2
abbrev pub got : Event → Option Payload
got (Offer l n payload) = None
got (Withdraw l n) = None
got (Know l n) = None
got (Room l n) = None
got (Got l n value) = None
got (Pass l n) = None
got (Did l n answer) = if l == 1 then Some two_bytes else Some one_byte
got (Reply l n answer) = None

pub it_tells_their_requests : TellsTaken got at_last
it_tells_their_requests zero n answer e x is_e is_x = only n (ap (λ (v : CoreEnds). slice_get v.ask.popped n) (same_some first_done e is_e) ∙ is_x)
  where
    only : (m : ℕ) → slice_get (two_bytes ∷ []) m ≡ Some x → Some two_bytes ≡ Some x
    only zero is = is
    only (suc m) is = cc
it_tells_their_requests (suc zero) n answer e x is_e is_x = only n (ap (λ (v : CoreEnds). slice_get v.ask.popped n) (same_some second_passed e is_e) ∙ is_x)
  where
    only : (m : ℕ) → slice_get (one_byte ∷ []) m ≡ Some x → Some one_byte ≡ Some x
    only zero is = is
    only (suc m) is = cc
it_tells_their_requests (suc (suc c)) n answer e x is_e is_x = cc

pub one_that_tells_nothing_does_not : TellsTaken (λ e. None) at_last → ⊥
one_that_tells_nothing_does_not h = let e = h 0 0 (Fault 0) first_done two_bytes refl refl in cc

pub one_deed : deeds_of 2 got at_first ∷ deeds_of 2 got at_last ∷ [] ≡ [] ∷ (record { payload = two_bytes; answer = Bytes (2 ∷ 3 ∷ []) } ∷ []) ∷ []
one_deed = refl

pub one_call : IsCounted 2 got told after_both
one_call = record { bound = refl; counted = record { calls = refl; failures = let l : 0 ≤ 0 = omega arith in l; none = λ e. refl } }

pub not_two_calls : IsCounted 2 got told (record after_both { told = record told { held = Some (record three { calls = 3 }) } }) → ⊥
not_two_calls h = let e : ◌≡◌ {A = ℕ} 3 2 = h.counted.calls in absurd (omega arith)

pub nor_none : IsCounted 2 got told (record after_both { told = told }) → ⊥
nor_none h = let e : ◌≡◌ {A = ℕ} 1 2 = h.counted.calls in absurd (omega arith)

pub it_has_served : DiskServes 2 got (files_of three) after_both (record three { calls = 2 })
it_has_served = record { tells = refl; count = refl; served = (refl, tt); files = refl }

pub not_from_other_files : DiskServes 2 got (padded ((1 ∷ 9 ∷ 9 ∷ []) ∷ [])) after_both (record three { calls = 2 }) → ⊥
not_from_other_files h = let e = h.served.0 in cc

pub and_it_holds_what_it_tells : DiskServes 2 got (files_of three) after_both three → ⊥
and_it_holds_what_it_tells h = let e : ◌≡◌ {A = ℕ} 2 1 = ap calls_of h.tells in absurd (omega arith)

-- ---- the laws, of a worker that has done nothing

pub no_call_is_counted : StartsCounted → IsCounted 2 got told before
no_call_is_counted law = law 2 got before refl

pub its_files_are_served : StartsServed → DiskServes 2 got (files_of three) before three
its_files_are_served law = law 2 got before three refl refl refl
