-- All cores of a code take one entry: its party's core takes it or has no run with it, and the others are as they were. With the links, this is
-- one step of the audit; step by step it leads from the first entry to the first that does not fit.
use Rattle.std.proofs.Common.{◌≡◌, ℕ, zero, suc, ◌+◌, ◌<◌, ◌≤◌, List, [], ◌∷◌, ◌++◌, take, drop, append_assoc, Some, None, Result}
use Rattle.std.proofs.Common.{Ok, Err, Bool, true, false, cond, refl, sym, ap, ◌∙◌, subst, inl, inr, arith, length, append-nil}
use Rattle.std.specs.Prelude.{nat_eq, slice_get, slice_set, IfOk}
use Rattle.std.proofs.lemmas.Bool.Decides.{nat_tests, eqb_tells, leb_tells}
use Rattle.std.proofs.lemmas.List.{length-append, length-set, take_more}
use Rattle.std.proofs.lemmas.Option.{same_Some, slice_get_within, get_or_from_slice_get}
use Rattle.ac_base.specs.declared.entry.Entry.{Entry}
use Rattle.ac_base.specs.declared.entry.Stamped.{Stamped}
use Rattle.stack_code.specs.Parts.{Parts}
use Rattle.replay_laws.specs.Given.{HasRun}
use Rattle.ac_history.specs.Served.{HistoryState, can_follow, state_after, after_all}
use Rattle.core_replay.specs.Replayed.{Replayed, IsSameCore}
use Rattle.trace_text.specs.declared.trace.Trace.{Trace}
use Rattle.trace_audit.specs.RunTrace.{journal_of}
use Rattle.trace_audit.specs.inner.Coded.{nothing_yet, RunsWith, Fits, AllFit, IsFirstMisfit}
use Rattle.trace_audit.specs.inner.Replaying.{IsReplay, AreReplays, TookAll, TakesEntry, HasTaken, StepsOn}
use Rattle.trace_audit.proofs.Linking.{get_old, get_new}
use Rattle.trace_audit.proofs.Merging.{journal_append}
use Rattle.trace_audit.proofs.Histories.{after_append}

eq_true : (m n : ℕ) → m ≡ n → nat_eq m n ≡ true
eq_true m n h = grind (arith, nat_tests)

not_true : (m n : ℕ) → (m ≡ n → ⊥) → nat_eq m n ≡ false
not_true m n h = grind (arith, nat_tests)

get_same : {X : Type 0} (xs : List X) (k : ℕ) (x y z : X) → slice_get xs k ≡ Some x → slice_get (slice_set xs k y) k ≡ Some z → y ≡ z
get_same [] k x y z h g = cc
get_same (w ∷ xs) zero x y z h g = cc
get_same (w ∷ xs) (suc k) x y z h g = get_same xs k x y z h g

get_other : {X : Type 0} (xs : List X) (l k : ℕ) (x : X) → (l ≡ k → ⊥) → slice_get (slice_set xs l x) k ≡ slice_get xs k
get_other [] l k x h = refl
get_other (y ∷ xs) zero zero x h = absurd (h refl)
get_other (y ∷ xs) zero (suc k) x h = refl
get_other (y ∷ xs) (suc l) zero x h = refl
get_other (y ∷ xs) (suc l) (suc k) x h = get_other xs l k x (λ e. h (ap suc e))

-- the journal of a party under one entry more
journal_more : (p : ℕ) (es : List Stamped) (s : Stamped) → s.party ≡ p → journal_of p (es ++ s ∷ []) ≡ journal_of p es ++ s.entry ∷ []
journal_more p es s h = journal_append p es (s ∷ []) ∙ ap (λ b. journal_of p es ++ cond b (s.entry ∷ []) []) (eq_true s.party p h)

journal_stays : (p : ℕ) (es : List Stamped) (s : Stamped) → (s.party ≡ p → ⊥) → journal_of p (es ++ s ∷ []) ≡ journal_of p es
journal_stays p es s h =
    journal_append p es (s ∷ []) ∙ ap (λ b. journal_of p es ++ cond b (s.entry ∷ []) []) (not_true s.party p h) ∙ append-nil (journal_of p es)

run_as : (code other : Parts) (core k bound n : ℕ) (journal j : List Entry) → code ≡ other → core ≡ k → bound ≡ n → journal ≡ j → HasRun code core bound journal → HasRun other k n j
run_as code other core k bound n journal j e f g h r = rw (← e, ← f, ← g, ← h) r

more_is : {X : Type 0} (xs ys : List X) (x : X) → xs ≡ ys → xs ++ x ∷ [] ≡ ys ++ x ∷ []
more_is xs ys x h = ap (λ zs. zs ++ x ∷ []) h

-- the core of the entry takes it, or has no run with it
module _ (before : List Replayed) (s : Stamped) (r r' : Replayed) (b : Bool) (here : slice_get before s.party ≡ Some r) (same : IsSameCore r r')
    (took : b ≡ true → r'.journal ≡ r.journal ++ s.entry ∷ []) (refused : b ≡ false → HasRun r.code r.core r.bound (r.journal ++ s.entry ∷ []) → ⊥)
    (runs : HasRun r'.code r'.core r'.bound r'.journal) where
  abbrev taken : List Replayed
  taken = slice_set before s.party r'

  module _ (code : Parts) (bound : ℕ) (entries : List Stamped) (are : AreReplays code bound entries before) where
    was_here : IsReplay code bound s.party entries r
    was_here = are.each s.party r here

    grown : r.journal ++ s.entry ∷ [] ≡ journal_of s.party (entries ++ s ∷ [])
    grown = more_is r.journal (journal_of s.party entries) s.entry was_here.journal_is ∙ sym (journal_more s.party entries s refl)

    is_now : b ≡ true → IsReplay code bound s.party (entries ++ s ∷ []) r'
    is_now did = record {
      code_is = same.code ∙ was_here.code_is;
      core_is = same.core ∙ was_here.core_is;
      bound_is = same.bound ∙ was_here.bound_is;
      journal_is = took did ∙ grown;
    }

    each_at : b ≡ true → (k : ℕ) (x : Replayed) → slice_get taken k ≡ Some x → IsReplay code bound k (entries ++ s ∷ []) x
    each_at did k x is = elim (eqb_tells s.party k) [
      | inl w ↦
          let mine : slice_get taken s.party ≡ Some x = subst (λ n. slice_get taken n ≡ Some x) (sym w.1) is in
          let e : r' ≡ x = get_same before s.party r r' x here mine in
          subst (λ n. IsReplay code bound n (entries ++ s ∷ []) x) w.1 (subst (IsReplay code bound s.party (entries ++ s ∷ [])) e (is_now did))
      | inr w ↦
          let old = are.each k x (sym (get_other before s.party k r' w.1) ∙ is) in
          record {
            code_is = old.code_is;
            core_is = old.core_is;
            bound_is = old.bound_is;
            journal_is = old.journal_is ∙ sym (journal_stays k entries s w.1);
          }
    ]

    goes_on : b ≡ true → AreReplays code bound (entries ++ s ∷ []) taken × RunsWith code bound entries s
    goes_on did = (
      record { count = length-set before s.party r' ∙ are.count; each = each_at did },
      λ lt. let now = is_now did in run_as r'.code code r'.core s.party r'.bound bound r'.journal (journal_of s.party (entries ++ s ∷ [])) now.code_is now.core_is now.bound_is now.journal_is runs,
    )

    has_none : b ≡ false → RunsWith code bound entries s → ⊥
    has_none did_not run =
        let lt : s.party < length code.entries = (let n = are.count in let w = slice_get_within before s.party r here in omega arith) in
        refused did_not (run_as code r.code s.party r.core bound r.bound (journal_of s.party (entries ++ s ∷ [])) (r.journal ++ s.entry ∷ [])
        (sym was_here.code_is) (sym was_here.core_is) (sym was_here.bound_is) (sym grown) (run lt))

  pub core_takes : TakesEntry before s b taken
  core_takes = record { took = λ did code bound entries are. goes_on code bound entries are did; refused = λ did_not code bound entries are. has_none code bound entries are did_not }

pub core_result : {E : Type 0} (res : Result Bool E) (before : List Replayed) (s : Stamped) (r r' : Replayed) → slice_get before s.party ≡ Some r → IsSameCore r r'
    → IfOk res (λ b. b ≡ true → r'.journal ≡ r.journal ++ s.entry ∷ []) → IfOk res (λ b. b ≡ false → HasRun r.code r.core r.bound (r.journal ++ s.entry ∷ []) → ⊥)
    → HasRun r'.code r'.core r'.bound r'.journal → IfOk res (λ b. TakesEntry before s b (slice_set before s.party r'))
core_result (Ok b) before s r r' here same took refused runs = core_takes before s r r' b here same took refused runs
core_result (Err e) before s r r' here same took refused runs = tt

-- and each core has then taken all that it was given
all_at : (before : List Replayed) (p : ℕ) (r' : Replayed) → TookAll before → r'.took_all ≡ true → (k : ℕ) (x : Replayed) → slice_get (slice_set before p r') k ≡ Some x → x.took_all ≡ true
all_at [] p r' all took k x is = cc
all_at (y ∷ ys) zero r' all took zero x is = let e : r' ≡ x = cc in subst (λ (z : Replayed). z.took_all ≡ true) e took
all_at (y ∷ ys) zero r' all took (suc k) x is = all (suc k) x is
all_at (y ∷ ys) (suc p) r' all took zero x is = all 0 x is
all_at (y ∷ ys) (suc p) r' all took (suc k) x is = all_at ys p r' (λ j z. all (suc j) z) took k x is

pub all_result : {E : Type 0} (res : Result Bool E) (before : List Replayed) (p : ℕ) (r' : Replayed) → TookAll before → IfOk res (λ b. r'.took_all ≡ b)
    → IfOk res (λ b. b ≡ true → TookAll (slice_set before p r'))
all_result (Ok b) before p r' all took = λ is. all_at before p r' all (took ∙ is)
all_result (Err e) before p r' all took = tt

-- ---- before any entry

-- the first so many cores
pub record AreFirst (code : Parts) (bound : ℕ) (rs : List Replayed) (n : ℕ) : Type 0 where
  pub count : length rs ≡ n
  pub each : (k : ℕ) (r : Replayed) → slice_get rs k ≡ Some r → IsReplay code bound k [] r
  pub took_all : TookAll rs

pub one_more_core : (code : Parts) (bound : ℕ) (rs : List Replayed) (r : Replayed) (n : ℕ) → AreFirst code bound rs n → r.code ≡ code → r.core ≡ n → r.bound ≡ bound
    → r.journal ≡ [] → r.took_all ≡ true → AreFirst code bound (rs ++ r ∷ []) (n + 1)
one_more_core code bound rs r n first is_code is_core is_bound is_journal took = record {
  count = length-append rs (r ∷ []) ∙ ap (λ k. k + 1) first.count;
  each = λ k x is. elim (leb_tells (length rs) k) [
    | inl w ↦
        let here = at_end k x is w.1 in
        subst (IsReplay code bound k []) here.1
        (record { code_is = is_code; core_is = is_core ∙ sym first.count ∙ here.0; bound_is = is_bound; journal_is = is_journal })
    | inr w ↦ first.each k x (sym (get_old rs r k w.1) ∙ is)
  ];
  took_all = λ k x is. elim (leb_tells (length rs) k) [
    | inl w ↦ subst (λ (y : Replayed). y.took_all ≡ true) (at_end k x is w.1).1 took
    | inr w ↦ first.took_all k x (sym (get_old rs r k w.1) ∙ is)
  ];
}
  where
    at_end : (k : ℕ) (x : Replayed) → slice_get (rs ++ r ∷ []) k ≡ Some x → length rs ≤ k → (length rs ≡ k) × (r ≡ x)
    at_end k x is le =
        let here : length rs ≡ k = (let lt = slice_get_within (rs ++ r ∷ []) k x is in let long = length-append rs (r ∷ []) in omega arith) in
        (here, same_Some r x (sym (get_new rs r) ∙ ap (slice_get (rs ++ r ∷ [])) here ∙ is))

-- ---- one entry

-- an entry of a party that is no core
no_core : {X : Type 0} (xs : List X) (k : ℕ) → slice_get xs k ≡ None → k < length xs → ⊥
no_core [] k h lt = omega arith
no_core (x ∷ xs) zero h lt = cc
no_core (x ∷ xs) (suc k) h lt = no_core xs k h (omega arith)

past_end : (rs : List Replayed) (p k : ℕ) (x : Replayed) → slice_get rs p ≡ None → slice_get rs k ≡ Some x → p ≡ k → ⊥
past_end rs p k x none some h = let e : None ≡ Some x = sym none ∙ ap (slice_get rs) h ∙ some in cc

pub worker_takes : (rs : List Replayed) (s : Stamped) → slice_get rs s.party ≡ None → TakesEntry rs s true rs
worker_takes rs s none = record {
  took = λ did code bound entries are. (
    record {
      count = are.count;
      each = λ k x is. let old = are.each k x is in record {
        code_is = old.code_is;
        core_is = old.core_is;
        bound_is = old.bound_is;
        journal_is = old.journal_is ∙ sym (journal_stays k entries s (past_end rs s.party k x none is));
      };
    },
    λ lt. absurd (no_core rs s.party none (let n = are.count in omega arith)),
  );
  refused = λ did_not. absurd (true_false did_not);
}
  where
    true_false : true ≡ false → ⊥
    true_false h = cc

-- ---- the links and the cores

pub steps_on : (was now : HistoryState) (before after : List Replayed) (s : Stamped) (b : Bool) → can_follow was s ≡ true → now ≡ state_after was s → TakesEntry before s b after
    → StepsOn was before s b now after
steps_on was now before after s b follows is takes = record { took = took; refused = refused }
  where
    same_state : (code : Parts) (t : Trace) (entries : List Stamped) → HasTaken code t entries was before → can_follow (after_all (nothing_yet code t) entries) s ≡ true
    same_state code t entries h = subst (λ x. can_follow x s ≡ true) h.legal_is follows

    took : b ≡ true → (code : Parts) (t : Trace) (entries : List Stamped) → HasTaken code t entries was before → HasTaken code t (entries ++ s ∷ []) now after × Fits code t entries s
    took did code t entries h =
        let r = takes.took did code t.steps entries h.replays in (
          record {
            legal_is = is ∙ ap (λ x. state_after x s) h.legal_is ∙ sym (after_append (nothing_yet code t) entries (s ∷ []));
            replays = r.0;
          },
          record { follows = same_state code t entries h; run = r.1 },
        )

    refused : b ≡ false → (code : Parts) (t : Trace) (entries : List Stamped) → HasTaken code t entries was before → Fits code t entries s → ⊥
    refused did_not code t entries h fit = takes.refused did_not code t.steps entries h.replays fit.run

pub steps_result : {E : Type 0} (res : Result Bool E) (was now : HistoryState) (before after : List Replayed) (s : Stamped) → can_follow was s ≡ true → now ≡ state_after was s
    → IfOk res (λ b. TakesEntry before s b after) → IfOk res (λ b. StepsOn was before s b now after)
steps_result (Ok b) was now before after s follows is takes = steps_on was now before after s b follows is takes
steps_result (Err e) was now before after s follows is takes = tt

-- ---- up to an entry

all_fit_more : (code : Parts) (t : Trace) (before xs : List Stamped) (s : Stamped) → AllFit code t before xs → Fits code t (before ++ xs) s → AllFit code t before (xs ++ s ∷ [])
all_fit_more code t before [] s a f = (subst (λ es. Fits code t es s) (append-nil before) f, tt)
all_fit_more code t before (x ∷ xs) s a f =
    (a.0, all_fit_more code t (before ++ x ∷ []) xs s a.1 (subst (λ es. Fits code t es s) (sym (append_assoc before (x ∷ []) xs)) f))

split_at : {X : Type 0} (xs : List X) (k : ℕ) (x : X) → slice_get xs k ≡ Some x → xs ≡ take k xs ++ x ∷ drop (suc k) xs
split_at [] k x h = cc
split_at (y ∷ ys) zero x h = let e : y ≡ x = cc in ap (λ z. z ∷ ys) e
split_at (y ∷ ys) (suc k) x h = ap (λ zs. y ∷ zs) (split_at ys k x h)

place_of : {X : Type 0} (xs : List X) (k : ℕ) (x : X) → slice_get xs k ≡ Some x → k ≡ length (take k xs)
place_of [] k x h = cc
place_of (y ∷ ys) zero x h = refl
place_of (y ∷ ys) (suc k) x h = ap suc (place_of ys k x h)

take_next : {X : Type 0} (xs : List X) (k : ℕ) (x : X) → slice_get xs k ≡ Some x → take (k + 1) xs ≡ take k xs ++ x ∷ []
take_next xs k x h = take_more xs k x (slice_get_within xs k x h) ∙ ap (λ y. take k xs ++ y ∷ []) (get_or_from_slice_get xs k x x h)

pub take_whole : {X : Type 0} (xs : List X) (k : ℕ) → length xs ≤ k → take k xs ≡ xs
take_whole [] zero h = refl
take_whole [] (suc k) h = refl
take_whole (x ∷ xs) zero h = absurd (omega arith)
take_whole (x ∷ xs) (suc k) h = ap (λ ys. x ∷ ys) (take_whole xs k (omega arith))

module _ (first was now : HistoryState) (begin before after : List Replayed) (entries : List Stamped) (place : ℕ) (s : Stamped) (here : slice_get entries place ≡ Some s)
    (so_far : (code : Parts) (t : Trace) → HasTaken code t [] first begin → HasTaken code t (take place entries) was before × AllFit code t [] (take place entries)) where
  pub goes_further : StepsOn was before s true now after → (code : Parts) (t : Trace) → HasTaken code t [] first begin
      → HasTaken code t (take (place + 1) entries) now after × AllFit code t [] (take (place + 1) entries)
  goes_further on code t h =
      let old = so_far code t h in
      let new = on.took refl code t (take place entries) old.0 in
      let next = sym (take_next entries place s here) in (
        subst (λ es. HasTaken code t es now after) next new.0,
        subst (AllFit code t []) next (all_fit_more code t [] (take place entries) s old.1 new.1),
      )

  pub is_misfit : StepsOn was before s false now after → (code : Parts) (t : Trace) → t.entries ≡ entries → HasTaken code t [] first begin → IsFirstMisfit code t place
  is_misfit on code t same h =
      let old = so_far code t h in
      record {
        before = take place entries;
        misfit = s;
        others = drop (suc place) entries;
        form = same ∙ split_at entries place s here;
        place_is = place_of entries place s here;
        fit = old.1;
        fits_not = on.refused refl code t (take place entries) old.0;
      }
