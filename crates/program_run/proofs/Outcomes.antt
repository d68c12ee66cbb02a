-- An entry of one core's journal is one of the run's history, so what a cancel is answered is what the whole run shows. Merging leaves the number
-- of entries of each kind, and a legal history has at most one end of an offer, so a withdrawal and a taking exclude each other.
use Rattle.std.proofs.Common.{◌≡◌, ℕ, zero, suc, ◌+◌, ◌≤◌, List, [], ◌∷◌, ◌++◌, map, Option, Some, None, Bool, true, false, cond, refl, sym, ap, ◌∙◌, subst, arith}
use Rattle.std.specs.Prelude.{ℤ, nat_eq, nat_le, ◌&&◌, slice_get, if◌then◌else◌}
use Rattle.std.proofs.lemmas.List.Sums.{sum_by-cons, sum_by-append}
use Rattle.ac_base.specs.Log.{Log}
use Rattle.ac_base.specs.declared.entry.Entry.{Entry}
use Rattle.ac_base.specs.declared.entry.Event.{Event}
use Rattle.ac_base.specs.declared.entry.Event.TheVariants as event
use Rattle.ac_base.specs.declared.entry.Stamped.{Stamped}
use Rattle.ac_base.specs.declared.ends.CoreEnd.{CoreEnd}
use Rattle.ac_commands.specs.declared.program.Resolved.{Resolved}
use Rattle.ac_links.specs.Order.{in_order, of_party, placed, stamp_of}
use Rattle.cancel_scope.specs.declared.operation.Operation.{Operation}
use Rattle.cancel_scope.specs.declared.operation.Progress.{Progress}
use Rattle.cancel_scope.specs.declared.operation.Progress.TheVariants.{Waiting, Offered, Started}
use Rattle.core_state.specs.Moves.{Over}
use Rattle.core_state.specs.Shared.{Shared, with_entry}
use Rattle.core_state.specs.Cancelling.{Fate, NeverHappens, IsTaken, decided, goes_by, outcome, tried}
use Rattle.ac_history.specs.Merged.{all_from, entries_of}
use Rattle.ac_history.specs.Outcomes.{is_news, is_taking, is_withdrawal, times}
use Rattle.ac_history.proofs.Outcomes.{ends_once, known_is_taken}
use Rattle.program_run.specs.declared.ended.Ended.{Ended}
use Rattle.program_run.specs.Run.{IsRunOf, history_of}
use Rattle.program_run.specs.Outcomes.{AfterTry, HasTried, IsDoneOrNeverHappens, after_try}

-- ---- the history has the entries of each journal

abbrev counted_as : Bool → ℕ
counted_as b = cond b 1 0

module _ (test : Event → Bool) where
  abbrev one : Stamped → ℕ
  one e = cond (test e.entry.event) 1 0

  times_more : (e : Stamped) (es : List Stamped) → times test (e ∷ es) ≡ one e + times test es
  times_more e es = sum_by-cons one e es

  times_placed : (e : Stamped) (es : List Stamped) → times test (placed stamp_of e es) ≡ one e + times test es
  times_placed e [] = times_more e []
  times_placed e (x ∷ es) = by (times_placed e es) (nat_le (stamp_of e) (stamp_of x))
    where
      by : times test (placed stamp_of e es) ≡ one e + times test es → (b : Bool) → times test (if b then e ∷ x ∷ es else x ∷ placed stamp_of e es) ≡ one e + times test (x ∷ es)
      by rest true = times_more e (x ∷ es)
      by rest false =
          let a = times_more x (placed stamp_of e es) in
          let b = times_more x es in
          omega (arith, a, b, rest)

  times_in_order : (es : List Stamped) → times test (in_order stamp_of es) ≡ times test es
  times_in_order [] = refl
  times_in_order (e ∷ es) =
      let a = times_placed e (in_order stamp_of es) in
      let b = times_in_order es in
      let c = times_more e es in
      omega (arith, a, b, c)

  times_of_party : (p : ℕ) (past : List Entry) (e : Entry) (es : List Entry) → test e.event ≡ true → 1 ≤ times test (of_party p (past ++ e ∷ es))
  times_of_party p [] e es h =
      let a = times_more (record { party = p; entry = e }) (of_party p es) in
      let b = ap counted_as h in
      omega (arith, a, b)
  times_of_party p (x ∷ past) e es h =
      let a = times_more (record { party = p; entry = x }) (of_party p (past ++ e ∷ es)) in
      let b = times_of_party p past e es h in
      omega (arith, a, b)

  times_in_all : (journal : Log) → ((p : ℕ) → 1 ≤ times test (of_party p journal.entries)) → (logs : List Log) (core p : ℕ) → slice_get logs core ≡ Some journal
      → 1 ≤ times test (all_from p (map entries_of logs))
  times_in_all journal h [] core p is = let no : None ≡ Some journal = is in absurd (cc)
  times_in_all journal h (log ∷ logs) zero p is =
      let same : log ≡ journal = (let e : Some log ≡ Some journal = is in cc) in
      let a = sum_by-append one (of_party p log.entries) (all_from (suc p) (map entries_of logs)) in
      let b : 1 ≤ times test (of_party p log.entries) = subst (λ (l : Log). 1 ≤ times test (of_party p l.entries)) (sym same) (h p) in
      omega (arith, a, b)
  times_in_all journal h (log ∷ logs) (suc core) p is =
      let a = sum_by-append one (of_party p log.entries) (all_from (suc p) (map entries_of logs)) in
      let b = times_in_all journal h logs core (suc p) is in
      omega (arith, a, b)

  in_history : (logs : List Log) (core : ℕ) (journal : Log) → slice_get logs core ≡ Some journal → (past : List Entry) (e : Entry) (es : List Entry) → journal.entries ≡ past ++ e ∷ es
      → test e.event ≡ true → 1 ≤ times test (history_of logs)
  in_history logs core journal is past e es reads h =
      let all = times_in_all journal (λ p. subst (λ j. 1 ≤ times test (of_party p j)) (sym reads) (times_of_party p past e es h)) logs core 0 is in
      let order = times_in_order (all_from 0 (map entries_of logs)) in
      omega (arith, all, order)

-- ---- a try

same_outcome : (s t : Shared) (a b : Fate) → after_try s a ≡ after_try t b → a ≡ b
same_outcome s t a b h = let e : record { shared = s; outcome = a } ≡ record { shared = t; outcome = b } = cc in ap (λ (x : AfterTry). x.outcome) e

not_both : NeverHappens ≡ IsTaken → ⊥
not_both h = cc

-- the entry that is the outcome
record ByEntry (s : Shared) (link number : ℕ) (it : Fate) : Type 0 where
  e : Entry
  es : List Entry
  next : s.todo ≡ e ∷ es
  outcome_is : outcome link number e.event ≡ Some it

by_outcome : (s : Shared) (after : Shared) (it : Fate) (o : Option Fate) → goes_by (λ (end : Option CoreEnd). end) (after_try s) o ≡ after_try after it → o ≡ Some it
by_outcome s after it None h = let no : Over None ≡ after_try after it = h in absurd (cc)
by_outcome s after it (Some x) h = ap Some (same_outcome s after x it h)

by_entry : (s : Shared) (globals : List ℤ) (os : List Operation) (link number : ℕ) (after : Shared) (it : Fate) (todo : List Entry) → s.todo ≡ todo
    → decided (λ end. end) s globals os link number after_try todo ≡ after_try after it → ByEntry s link number it
by_entry s globals os link number after it [] is h = absurd (cc)
by_entry s globals os link number after it (e ∷ es) is h = by (nat_eq e.turn s.turn) h
  where
    by : (b : Bool) → (if b then goes_by (λ (end : Option CoreEnd). end) (after_try (with_entry s e es)) (outcome link number e.event) else Over None) ≡ after_try after it
        → ByEntry s link number it
    by true h = record { e = e; es = es; next = is; outcome_is = by_outcome (with_entry s e es) after it (outcome link number e.event) h }
    by false h = let no : Over None ≡ after_try after it = h in absurd (cc)

-- ---- what the entry is

withdrawn_by : (link number : ℕ) (v : Event) → outcome link number v ≡ Some NeverHappens → is_withdrawal link number v ≡ true
withdrawn_by link number (event.Withdraw l n) h = by (nat_eq l link && nat_eq n number) h
  where
    by : (b : Bool) → (if b then Some NeverHappens else None) ≡ Some NeverHappens → b ≡ true
    by true h = refl
    by false h = let no : None ≡ Some NeverHappens = h in absurd (cc)
withdrawn_by link number (event.Know l n) h = by (nat_eq l link && nat_eq n number) h
  where
    by : (b : Bool) → (if b then Some IsTaken else None) ≡ Some NeverHappens → false ≡ true
    by true h = absurd (not_both (let e : Some IsTaken ≡ Some NeverHappens = h in cc))
    by false h = let no : None ≡ Some NeverHappens = h in absurd (cc)
withdrawn_by link number _ h = let no : None ≡ Some NeverHappens = h in absurd (cc)

known_by : (link number : ℕ) (v : Event) → outcome link number v ≡ Some IsTaken → is_news link number v ≡ true
known_by link number (event.Know l n) h = by (nat_eq l link && nat_eq n number) h
  where
    by : (b : Bool) → (if b then Some IsTaken else None) ≡ Some IsTaken → b ≡ true
    by true h = refl
    by false h = let no : None ≡ Some IsTaken = h in absurd (cc)
known_by link number (event.Withdraw l n) h = by (nat_eq l link && nat_eq n number) h
  where
    by : (b : Bool) → (if b then Some NeverHappens else None) ≡ Some IsTaken → false ≡ true
    by true h = absurd (not_both (let e : Some NeverHappens ≡ Some IsTaken = h in cc))
    by false h = let no : None ≡ Some IsTaken = h in absurd (cc)
known_by link number _ h = let no : None ≡ Some IsTaken = h in absurd (cc)

-- ---- in a run

-- the core has read its journal up to here, so the entry that decides is the next one of its journal, and one of the history; where only the core
-- knows of the operation there is none, and nothing was offered
module _ (program : Resolved) (bound : ℕ) (files : List (List ℕ)) (ended : Ended) (run : IsRunOf program bound files ended) (core : ℕ) (journal : Log)
    (is : slice_get ended.journals core ≡ Some journal) (s : Shared) (reads : journal.entries ≡ s.past ++ s.todo) where
  abbrev history : List Stamped
  history = history_of ended.journals

  module _ (o : Operation) (it : Fate) (number : ℕ) (by : ByEntry s o.link number it) where
    there : journal.entries ≡ s.past ++ by.e ∷ by.es
    there = reads ∙ ap (λ es. s.past ++ es) by.next

    never_happens : it ≡ NeverHappens → times (is_taking o.link number) history ≡ 0
    never_happens v =
        let gone = withdrawn_by o.link number by.e.event (by.outcome_is ∙ ap Some v) in
        let some = in_history (is_withdrawal o.link number) ended.journals core journal is s.past by.e by.es there gone in
        let once = ends_once _ _ _ history o.link number run.legal in
        omega (arith, some, once)

    is_done : it ≡ IsTaken → times (is_taking o.link number) history ≡ 1
    is_done v =
        let news = known_by o.link number by.e.event (by.outcome_is ∙ ap Some v) in
        let some = in_history (is_news o.link number) ended.journals core journal is s.past by.e by.es there news in
        known_is_taken _ _ _ history o.link number run.legal some

  pub done_or_never : (o : Operation) (it : Fate) → HasTried s o it → IsDoneOrNeverHappens history o it
  done_or_never o it t = go o.progress refl t.ends
    where
      go : (p : Progress) → o.progress ≡ p → tried (λ end. end) s t.globals t.operations o.link p after_try ≡ after_try t.after it → IsDoneOrNeverHappens history o it
      go Waiting at h =
          let v : NeverHappens ≡ it = same_outcome s t.after NeverHappens it h in
          record {
            never = λ e number under. let no : Waiting ≡ Offered number = sym at ∙ under in absurd (cc);
            done = λ e. absurd (not_both (v ∙ e));
          }
      go (Offered n) at h =
          let by = by_entry s t.globals t.operations o.link n t.after it s.todo refl h in
          record {
            never = λ e number under.
                let same : n ≡ number = (let q : Offered n ≡ Offered number = sym at ∙ under in cc) in
                subst (λ k. times (is_taking o.link k) history ≡ 0) same (never_happens o it n by e);
            done = λ e. record { number = n; offered = at; taken = is_done o it n by e };
          }
      go (Started n) at h = let no : Over None ≡ after_try t.after it = h in absurd (cc)
