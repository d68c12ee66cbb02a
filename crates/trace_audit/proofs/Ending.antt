-- The ends to which the cores of a code come, and what a trace tells of them. A journal has one end, so the ends that a trace may tell are those
-- of the replays, and the four tests of the audit hold exactly where the end is that of a run.
use Rattle.std.proofs.Common.{◌≡◌, ℕ, zero, suc, ◌+◌, ◌<◌, ◌≤◌, List, [], ◌∷◌, ◌++◌, Some, Bool, true, false, refl, sym, ap, ◌∙◌, subst, inl, inr, arith, length}
use Rattle.std.specs.Prelude.{◌==◌, ◌&&◌, ◌↔◌, All, IsTrue, slice_get}
use Rattle.std.specs.Str.{bytes_eq}
use Rattle.std.proofs.lemmas.Bool.{and_parts}
use Rattle.std.proofs.lemmas.Bool.Decides.{nat_tests, leb_tells}
use Rattle.std.proofs.lemmas.List.{length-append, length-replicate}
use Rattle.std.proofs.lemmas.Option.{slice_get_cases, slice_get_within}
use Rattle.std.proofs.lemmas.Slice.Eq.{bytes_eq-Decides}
use Rattle.ac_base.specs.declared.ends.EndWord.{EndWord}
use Rattle.ac_base.specs.declared.ends.EndWord.TheVariants.{Finished, Trapped, OutOfSteps, Stalled}
use Rattle.ac_base.specs.declared.ends.Trap.TheVariants.{ZeroDivisor, Index, StackFull, OutputFull, FileRange}
use Rattle.ac_base.specs.declared.ends.CoreEnd.{CoreEnd}
use Rattle.ac_base.specs.declared.entry.Entry.{Entry}
use Rattle.core_state.specs.Moves.{Move, On, Over, ComesTo}
use Rattle.core_state.proofs.Simulation.{one_end}
use Rattle.stack_code.specs.declared.parts.Entered.{Entered}
use Rattle.stack_code.specs.Parts.{Parts, Begins}
use Rattle.code_meaning.specs.Machine.{Flat, FlatEnd, exec, first_flat, Runs}
use Rattle.core_replay.specs.Replayed.{Replayed}
use Rattle.trace_text.specs.declared.trace.Trace.{Trace}
use Rattle.trace_text.specs.declared.trace.TraceEnd.{TraceEnd}
use Rattle.ac_history.specs.declared.quiet.LinkParties.{LinkParties}
use Rattle.ac_history.specs.Quiet.{owner_in, peer_in, IsQuiet}
use Rattle.ac_history.specs.Served.{HistoryState, after_all}
use Rattle.program_run.specs.Parties.{owner_of, peer_of}
use Rattle.trace_audit.specs.RunTrace.{journal_of, file_limit}
use Rattle.trace_audit.specs.inner.Coded.{nothing_yet, AllEndAsTold, EndsWell}
use Rattle.trace_audit.specs.inner.Comparing.{word_number, is_told, AreTold}
use Rattle.trace_audit.specs.inner.Replaying.{AreEnds, HasTaken}
use Rattle.trace_audit.proofs.Histories.{as_many_links}
use Rattle.trace_audit.proofs.Linking.{get_old, get_new, quiet_as}

-- ---- a journal has one end

some_same : {A : Type 0} (x y : A) → Some x ≡ Some y → x ≡ y
some_same x y h = cc

same_function : (code : Parts) (core : ℕ) (f g : Entered) → Begins code core f → Begins code core g → f ≡ g
same_function code core f g b c =
    let entry : b.entry ≡ c.entry = some_same b.entry c.entry (sym b.entry_is ∙ c.entry_is) in
    some_same f g (sym b.function_is ∙ (ap (λ (k : ℕ). slice_get code.functions k) entry ∙ c.function_is))

abbrev over : FlatEnd → Move Flat FlatEnd
over x = Over x

over_same : (x y : FlatEnd) → over x ≡ over y → x ≡ y
over_same x y h = cc

one_comes : (f : Flat → Move Flat FlatEnd) (a : Move Flat FlatEnd) (x y : FlatEnd) → ComesTo f a x → ComesTo f a y → x ≡ y
one_comes f (On s) x y p q = one_end f s x y (p.0, sym p.1) (q.0, sym q.1)
one_comes f (Over z) x y p q = over_same x y (p.1 ∙ sym q.1)

abbrev end_at : CoreEnd → ℕ → FlatEnd
end_at end count = record { core = Some end; count = count }

one_run : (code : Parts) (core bound : ℕ) (journal : List Entry) (a b : CoreEnd) (m n : ℕ) → Runs code core bound journal (end_at a m) → Runs code core bound journal (end_at b n) → a ≡ b
one_run code core bound journal a b m n r s =
    let same = same_function code core s.function r.function s.begins r.begins in
    let other = subst (λ (f : Entered). ComesTo (exec code bound) (first_flat code core f journal) (end_at b n)) same s.comes in
    some_same a b (ap (λ (x : FlatEnd). x.core) (one_comes (exec code bound) (first_flat code core r.function journal) (end_at a m) (end_at b n) r.comes other))

-- ---- what a trace tells of an end

abbrev word_of : ℕ → EndWord
word_of zero = Finished
word_of (suc zero) = OutOfSteps
word_of (suc (suc zero)) = Stalled
word_of (suc (suc (suc zero))) = Trapped ZeroDivisor
word_of (suc (suc (suc (suc zero)))) = Trapped Index
word_of (suc (suc (suc (suc (suc zero))))) = Trapped StackFull
word_of (suc (suc (suc (suc (suc (suc zero)))))) = Trapped OutputFull
word_of (suc (suc (suc (suc (suc (suc (suc n))))))) = Trapped FileRange

word_back : (w : EndWord) → word_of (word_number w) ≡ w
word_back Finished = refl
word_back OutOfSteps = refl
word_back Stalled = refl
word_back (Trapped ZeroDivisor) = refl
word_back (Trapped Index) = refl
word_back (Trapped StackFull) = refl
word_back (Trapped OutputFull) = refl
word_back (Trapped FileRange) = refl

word_same : (v w : EndWord) → word_number v ≡ word_number w → v ≡ w
word_same v w h = sym (word_back v) ∙ ap word_of h ∙ word_back w

eq_of : (m n : ℕ) → (m == n) ≡ true → m ≡ n
eq_of m n h = grind (arith, nat_tests)

eq_true : (m n : ℕ) → m ≡ n → (m == n) ≡ true
eq_true m n h = grind (arith, nat_tests)

pub record Tells (told : TraceEnd) (end : CoreEnd) : Type 0 where
  pub word : told.word ≡ end.word
  pub steps : told.steps ≡ end.steps
  pub output : told.output ≡ end.output

tells : (told : TraceEnd) (end : CoreEnd) → is_told told end ≡ true → Tells told end
tells told end h =
    let a = and_parts (word_number told.word == word_number end.word) ((told.steps == end.steps) && bytes_eq told.output end.output) h in
    let b = and_parts (told.steps == end.steps) (bytes_eq told.output end.output) a.1 in
    record {
      word = word_same told.word end.word (eq_of (word_number told.word) (word_number end.word) a.0);
      steps = eq_of told.steps end.steps b.0;
      output =
          (bytes_eq-Decides told.output end.output).0 b.1;
    }

and_true : (a b : Bool) → a ≡ true → b ≡ true → a && b ≡ true
and_true a b p q = rw (p, q)

tells_back : (told : TraceEnd) (end : CoreEnd) → Tells told end → is_told told end ≡ true
tells_back told end h = and_true _ _ (eq_true (word_number told.word) (word_number end.word) (ap word_number h.word)) (and_true _ _ (eq_true told.steps end.steps h.steps)
    ((bytes_eq-Decides told.output end.output).1 h.output))

-- ---- all cores

-- by their numbers, from this one on
abbrev pub Comes : Parts → Trace → ℕ → List CoreEnd → Type 0
Comes code t core ends =
    (k : ℕ) (end : CoreEnd) → slice_get ends k ≡ Some end → (count : ℕ) × Runs code (core + k) t.steps (journal_of (core + k) t.entries) (end_at end count)

at_first : (code : Parts) (t : Trace) (core : ℕ) (end : CoreEnd) (ends : List CoreEnd) → Comes code t core (end ∷ ends)
    → (count : ℕ) × Runs code core t.steps (journal_of core t.entries) (end_at end count)
at_first code t core end ends c =
    let here : core + 0 ≡ core = omega arith in subst (λ n. (count : ℕ) × Runs code n t.steps (journal_of n t.entries) (end_at end count)) here (c 0 end refl)

at_others : (code : Parts) (t : Trace) (core : ℕ) (end : CoreEnd) (ends : List CoreEnd) → Comes code t core (end ∷ ends) → Comes code t (suc core) ends
at_others code t core end ends c k x is =
    let here : core + suc k ≡ suc core + k = omega arith in
    subst (λ n. (count : ℕ) × Runs code n t.steps (journal_of n t.entries) (end_at x count)) here (c (suc k) x is)

one_less : {X Y : Type 0} (x : X) (xs : List X) (y : Y) (ys : List Y) → length (x ∷ xs) ≡ length (y ∷ ys) → length xs ≡ length ys
one_less x xs y ys h = omega (arith, h)

all_told : (code : Parts) (t : Trace) (core : ℕ) (tolds : List TraceEnd) (ends : List CoreEnd) → length tolds ≡ length ends
    → ((k : ℕ) (one : TraceEnd) (end : CoreEnd) → slice_get tolds k ≡ Some one → slice_get ends k ≡ Some end → is_told one end ≡ true)
    → Comes code t core ends → AllEndAsTold code t core tolds ends
all_told code t core [] [] many each c = tt
all_told code t core [] (end ∷ ends) many each c = omega (arith, many)
all_told code t core (one ∷ tolds) [] many each c = omega (arith, many)
all_told code t core (one ∷ tolds) (end ∷ ends) many each c =
    let r = at_first code t core end ends c in
    let h = tells one end (each 0 one end refl refl) in (
      record { count = r.0; runs = r.1; word = h.word; steps = h.steps; output = h.output },
      all_told code t (suc core) tolds ends (one_less one tolds end ends many) (λ k x y. each (suc k) x y) (at_others code t core end ends c),
    )

-- the ends that a trace tells are those to which the cores come
same_ends : (code : Parts) (t : Trace) (core : ℕ) (tolds : List TraceEnd) (others ends : List CoreEnd) → length tolds ≡ length ends → AllEndAsTold code t core tolds others
    → Comes code t core ends → others ≡ ends
same_ends code t core [] [] [] many a c = refl
same_ends code t core [] [] (end ∷ ends) many a c = absurd (omega (arith, many))
same_ends code t core [] (other ∷ others) ends many a c = absurd a
same_ends code t core (one ∷ tolds) [] ends many a c = absurd a
same_ends code t core (one ∷ tolds) (other ∷ others) [] many a c = absurd (omega (arith, many))
same_ends code t core (one ∷ tolds) (other ∷ others) (end ∷ ends) many a c =
    let r = at_first code t core end ends c in
    let first : other ≡ end = one_run code core t.steps (journal_of core t.entries) other end a.0.count r.0 a.0.runs r.1 in
    let rest : others ≡ ends = same_ends code t (suc core) tolds others ends (one_less one tolds end ends many) a.1 (at_others code t core end ends c) in cc

each_told : (code : Parts) (t : Trace) (core : ℕ) (tolds : List TraceEnd) (ends : List CoreEnd) → AllEndAsTold code t core tolds ends
    → (k : ℕ) (one : TraceEnd) (end : CoreEnd) → slice_get tolds k ≡ Some one → slice_get ends k ≡ Some end → is_told one end ≡ true
each_told code t core [] ends a k one end g h = cc
each_told code t core (x ∷ tolds) [] a k one end g h = absurd a
each_told code t core (x ∷ tolds) (y ∷ ends) a zero one end g h =
    let same : x ≡ one = cc in
    let alike : y ≡ end = cc in
    subst (λ z. is_told z end ≡ true) same (subst (λ z. is_told x z ≡ true) alike (tells_back x y (record { word = a.0.word; steps = a.0.steps; output = a.0.output })))
each_told code t core (x ∷ tolds) (y ∷ ends) a (suc k) one end g h = each_told code t (suc core) tolds ends a.1 k one end g h

-- the replays have come to these ends
pub end_more : (rs : List Replayed) (ends : List CoreEnd) (r : Replayed) (end : CoreEnd) → AreEnds rs ends → (count : ℕ) × Runs r.code r.core r.bound r.journal (end_at end count)
    → AreEnds (rs ++ r ∷ []) (ends ++ end ∷ [])
end_more rs ends r end are comes = record {
  count = length-append ends (end ∷ []) ∙ ap (λ n. n + 1) are.count ∙ sym (length-append rs (r ∷ []));
  each = each;
}
  where
    each : (k : ℕ) (x : Replayed) (y : CoreEnd) → slice_get (rs ++ r ∷ []) k ≡ Some x → slice_get (ends ++ end ∷ []) k ≡ Some y
        → (count : ℕ) × Runs x.code x.core x.bound x.journal (end_at y count)
    each k x y g h = elim (leb_tells (length rs) k) [
      | inl w ↦
          let lt = slice_get_within (rs ++ r ∷ []) k x g in
          let long = length-append rs (r ∷ []) in
          let here : length rs ≡ k = (let le = w.1 in omega arith) in
          let there : length ends ≡ k = are.count ∙ here in
          let a : r ≡ x = some_same r x (sym (get_new rs r) ∙ ap (slice_get (rs ++ r ∷ [])) here ∙ g) in
          let b : end ≡ y = some_same end y (sym (get_new ends end) ∙ ap (slice_get (ends ++ end ∷ [])) there ∙ h) in
          subst (λ (z : Replayed). (count : ℕ) × Runs z.code z.core z.bound z.journal (end_at y count)) a
          (subst (λ (z : CoreEnd). (count : ℕ) × Runs r.code r.core r.bound r.journal (end_at z count)) b comes)
      | inr w ↦ are.each k x y (sym (get_old rs r k w.1) ∙ g) (sym (get_old ends end k (let e = are.count in let lt = w.1 in omega arith)) ∙ h)
    ]

-- ---- the end of a trace

runs_as : (code other : Parts) (core k bound n : ℕ) (journal j : List Entry) (end : FlatEnd) → code ≡ other → core ≡ k → bound ≡ n → journal ≡ j
    → Runs code core bound journal end → Runs other k n j end
runs_as code other core k bound n journal j end e f g h r = rw (← e, ← f, ← g, ← h) r

module _ (code : Parts) (files : ℕ) (t : Trace) (legal : HistoryState) (rs : List Replayed) (ends : List CoreEnd) (ps : List LinkParties) (taken : HasTaken code t t.entries legal rs)
    (are : AreEnds rs ends) (many : length ps ≡ length code.capacities) (owners : (l : ℕ) → l < length ps → owner_in ps l ≡ owner_of code.ends l)
    (peers : (l : ℕ) → l < length ps → peer_in ps l ≡ peer_of code.ends (length code.entries) l) where
  comes_at : (k : ℕ) (end : CoreEnd) → slice_get ends k ≡ Some end → (n : ℕ) → k ≡ n → (count : ℕ) × Runs code n t.steps (journal_of n t.entries) (end_at end count)
  comes_at k end is n same = elim (slice_get_cases rs k).1 [
    | inl w ↦
        let r : Replayed = w.0 in
        let it = taken.replays.each k r w.2 in
        let runs = are.each k r end w.2 is in (
          runs.0,
          runs_as r.code code r.core n r.bound t.steps r.journal (journal_of n t.entries) (end_at end runs.0) it.code_is (it.core_is ∙ same) it.bound_is
              (it.journal_is ∙ ap (λ i. journal_of i t.entries) same) runs.1,
        )
    | inr w ↦ absurd (let lt = slice_get_within ends k end is in let le = w.0 in let e = are.count in omega arith)
  ]

  comes : Comes code t 0 ends
  comes k end is = comes_at k end is (0 + k) (omega arith)

  as_many_ends : length ends ≡ length code.entries
  as_many_ends = are.count ∙ taken.replays.count

  pub as_many_parties : length ps ≡ length legal.past.links
  as_many_parties = many ∙ sym (ap (λ (h : HistoryState). length h.past.links) taken.legal_is ∙ as_many_links (nothing_yet code t) t.entries ∙ length-replicate (length code.capacities) [])

  quiet : IsQuiet (owner_in ps) (peer_in ps) legal.past ends
      → IsQuiet (owner_of code.ends) (peer_of code.ends (length code.entries)) (after_all (nothing_yet code t) t.entries).past ends
  quiet q = subst (λ (h : HistoryState). IsQuiet (owner_of code.ends) (peer_of code.ends (length code.entries)) h.past ends) taken.legal_is
      (quiet_as (owner_in ps) (peer_in ps) (owner_of code.ends) (peer_of code.ends (length code.entries)) legal.past (λ l lt. owners l (let e = as_many_parties in omega arith))
      (λ l lt. peers l (let e = as_many_parties in omega arith)) ends q)

  quiet_back : IsQuiet (owner_of code.ends) (peer_of code.ends (length code.entries)) (after_all (nothing_yet code t) t.entries).past ends
      → IsQuiet (owner_in ps) (peer_in ps) legal.past ends
  quiet_back q = quiet_as (owner_of code.ends) (peer_of code.ends (length code.entries)) (owner_in ps) (peer_in ps) legal.past
      (λ l lt. sym (owners l (let e = as_many_parties in omega arith))) (λ l lt. sym (peers l (let e = as_many_parties in omega arith))) ends
      (subst (λ (h : HistoryState). IsQuiet (owner_of code.ends) (peer_of code.ends (length code.entries)) h.past ends) (sym taken.legal_is) q)

  -- the four tests of the end
  pub record Passes : Type 0 where
    pub as_many : length t.start ≡ files
    pub short : All (λ bytes. length bytes ≤ file_limit) t.start
    pub told : AreTold t.ends ends
    pub quiet : IsQuiet (owner_in ps) (peer_in ps) legal.past ends

  pub ends_well : Passes → EndsWell code files t
  ends_well p = record {
    as_many = p.as_many;
    short = p.short;
    every_core = p.told.count ∙ as_many_ends;
    ends = ends;
    told = all_told code t 0 t.ends ends p.told.count p.told.each comes;
    quiet = quiet p.quiet;
  }

  pub passes : EndsWell code files t → Passes
  passes e =
      let many : length t.ends ≡ length ends = e.every_core ∙ sym as_many_ends in
      let same : e.ends ≡ ends = same_ends code t 0 t.ends e.ends ends many e.told comes in
      record {
        as_many = e.as_many;
        short = e.short;
        told = record { count = many; each = each_told code t 0 t.ends ends (subst (AllEndAsTold code t 0 t.ends) same e.told) };
        quiet = quiet_back (subst (IsQuiet (owner_of code.ends) (peer_of code.ends (length code.entries)) (after_all (nothing_yet code t) t.entries).past) same e.quiet);
      }

-- ---- one test behind another

pub both_then : {A B : Type 0} (v r : Bool) → A → (IsTrue r ↔ B) → v ≡ r → (v ≡ true → A × B) × (A × B → v ≡ true)
both_then v r a b is = (λ h. (a, b.0 (sym is ∙ h)), λ p. is ∙ b.1 p.1)

pub both_else : {A B : Type 0} (v : Bool) → (A → ⊥) → (v ≡ true → A) → (v ≡ true → A × B) × (A × B → v ≡ true)
both_else v not holds = (λ h. absurd (not (holds h)), λ p. absurd (not p.0))

pub is_false : {A : Type 0} (v : Bool) → (A → v ≡ true) → v ≡ false → A → ⊥
is_false v h is a = false_true (sym is ∙ h a)
  where
    false_true : false ≡ true → ⊥
    false_true h = cc

pub are_equal : (m n : ℕ) → (m == n) ≡ true → m ≡ n
are_equal m n h = eq_of m n h
