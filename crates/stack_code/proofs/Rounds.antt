-- The search for shapes from its beginning to its end.
-- The invariants of its two loops: over the entries, of which so many have their shapes in the table, and over the addresses that were
-- found, of which those before `next` are closed. At the end all are, so the table is closed under all ways, and that is `IsTable`.
use Rattle.std.proofs.Common.{◌≡◌, ℕ, zero, suc, ◌+◌, ◌<◌, ◌≤◌, ◌⊎◌, inl, inr, List, [], length, Option, Some, None}
use Rattle.std.proofs.Common.{Bool, true, false, nat_lt, replicate, refl, sym, ap, ◌∙◌, subst, arith, Result, Ok, Err}
use Rattle.std.specs.Prelude.{slice_get, get_or, IfOk}
use Rattle.std.proofs.lemmas.Option.{slice_get_read, slice_get-get_or}
use Rattle.std.proofs.lemmas.Bool.Decides.{nat_tests}
use Rattle.ac_base.specs.declared.memory.NoMemory.{NoMemory}
use Rattle.stack_code.specs.declared.instr.Instr.{Instr}
use Rattle.stack_code.specs.declared.parts.Entered.{Entered}
use Rattle.stack_code.specs.declared.shape.Shape.{Shape}
use Rattle.stack_code.specs.declared.shape.Leads.{Leads}
use Rattle.stack_code.specs.Parts.{Parts, Begins}
use Rattle.stack_code.specs.Shapes.{first, effect, LeadsTo}
use Rattle.stack_code.specs.Valid.{Fits, Goes, Reaches, begins, goes, IsShaped}
use Rattle.stack_code.specs.Kept.{Has}
use Rattle.stack_code.specs.inner.Work.{IsClosed, nones, IsWork, Extends, IsMet, Met, Followed, IsTurned, Turned, HasEntries, IsBegun, IsFound}
use Rattle.graph_ranks.proofs.Places.{within}
use Rattle.stack_code.proofs.Known.{same_has, turned, leads_same, unfit, reached_on}

-- ---- one address

pub found_at : (found : List ℕ) (next at : ℕ) → next < length found → at ≡ get_or found next at → slice_get found next ≡ Some at
found_at found next at lt e = slice_get_read found (length found) next at refl lt e

module _ (code : Parts) (table : List (Option Shape)) (found : List ℕ) (next at : ℕ) (s : Shape) (w : IsWork code table found next) (lt : next < length found) (here : at ≡ get_or found next at) where
  pub inside : at < length table
  inside = let h = w.held next at (found_at found next at lt here) in within table at (Some h.0) h.1

  -- an address that was found has its shape
  pub held_is : (x : Option Shape) → x ≡ get_or table at x → x ≡ Some s → Has table at s
  held_is x e xs = slice_get_read table (length table) at x refl inside e ∙ ap Some xs

  abbrev fit : (instr : Instr) (o : Option Leads) (l : Leads) → slice_get code.instrs at ≡ Some instr → o ≡ effect code at instr s → o ≡ Some l → Fits code at s
  fit instr o l i e f = record { instr = instr; leads = l; here = i; finds = sym e ∙ f }

  pub here_reached : (instr : Instr) (o : Option Leads) (l : Leads) → Has table at s → slice_get code.instrs at ≡ Some instr → o ≡ effect code at instr s → o ≡ Some l → (to : ℕ) (t : Shape)
      → LeadsTo l to t → Reaches code to t
  here_reached instr o l h i e f = reached_on code at s (fit instr o l i e f) (w.reached at s h)

  pub here_unfit : (instr : Instr) (o : Option Leads) → Has table at s → slice_get code.instrs at ≡ Some instr → o ≡ effect code at instr s → o ≡ None → IsShaped code → ⊥
  here_unfit instr o h i e f = unfit code at s instr (w.reached at s h) i (sym e ∙ f)

  pub here_turned : (instr : Instr) (o : Option Leads) (l : Leads) → Has table at s → slice_get code.instrs at ≡ Some instr → o ≡ effect code at instr s → o ≡ Some l
      → (t2 : List (Option Shape)) (f2 : List ℕ) (r : Result Bool NoMemory) → IfOk r (λ ok. Followed code table t2 found f2 next l ok) → IfOk r (λ ok. Turned code table t2 f2 next ok)
  here_turned instr o l h i e f t2 f2 (Ok true) m = turned code table t2 found f2 next at s (fit instr o l i e f) (found_at found next at lt here) h m
  here_turned instr o l h i e f t2 f2 (Ok false) m = m
  here_turned instr o l h i e f t2 f2 (Err x) m = m

-- ---- the beginning

nones_none : (n : ℕ) → nones (replicate n None) ≡ n
nones_none zero = refl
nones_none (suc n) = ap suc (nones_none n)

length_none : (n : ℕ) → length (replicate {A = Option Shape} n None) ≡ n
length_none zero = refl
length_none (suc n) = ap suc (length_none n)

none_has : (n at : ℕ) (s : Shape) → Has (replicate n None) at s → ⊥
none_has zero at s h = let x : ◌≡◌ {A = Option (Option Shape)} None (Some (Some s)) = h in cc
none_has (suc n) zero s h = let x : ◌≡◌ {A = Option (Option Shape)} (Some None) (Some (Some s)) = h in cc
none_has (suc n) (suc at) s h = none_has n at s h

pub first_work : (code : Parts) (table : List (Option Shape)) (found : List ℕ) (n : ℕ) → table ≡ replicate n None → n ≡ length code.instrs → found ≡ [] → IsWork code table found 0
first_work code table found n e l f =
    let none : (at : ℕ) (s : Shape) → Has table at s → ⊥ = λ at s h. none_has n at s (subst (λ z. Has z at s) e h) in
    let empty : (k at : ℕ) → slice_get found k ≡ Some at → ⊥ = λ k at h. (let x : None ≡ Some at = subst (λ z. slice_get z k ≡ Some at) f h in cc) in
    let long : length table ≡ n = ap length e ∙ length_none n in
    record {
      long = long ∙ l;
      reached = λ at s h. absurd (none at s h);
      held = λ k at h. absurd (empty k at h);
      state = λ at s h. absurd (none at s h);
      room = let x : nones table ≡ n = ap nones e ∙ nones_none n in let y : length found ≡ 0 = ap length f in omega arith;
      behind = omega arith;
    }

pub met_true : (code : Parts) (table table' : List (Option Shape)) (found found' : List ℕ) (next to : ℕ) (t : Shape) (ok : Bool) → ok ≡ true → Met code table table' found found' next to t ok
    → IsMet code table table' found found' next to t
met_true code table table' found found' next to t true e m = m
met_true code table table' found found' next to t false e m = let x : false ≡ true = e in cc

pub turned_true : (code : Parts) (table table' : List (Option Shape)) (found' : List ℕ) (next : ℕ) (ok : Bool) → ok ≡ true → Turned code table table' found' next ok
    → IsTurned code table table' found' next
turned_true code table table' found' next true e m = m
turned_true code table table' found' next false e m = let x : false ≡ true = e in cc

-- ---- entries

pub entry_at : (es entries : List ℕ) (n : ℕ) → es ≡ entries → n < length es → slice_get entries n ≡ Some (get_or es n 0)
entry_at es entries n e lt = subst (λ z. slice_get z n ≡ Some (get_or es n 0)) e (slice_get-get_or es n 0 lt)

-- a core below the next one, or the next one
pub below_or_next : (k n : ℕ) → k < n + 1 → (k < n) ⊎ (k ≡ n)
below_or_next k n lt = by (nat_lt k n) refl
  where
    by : (q : Bool) → nat_lt k n ≡ q → (k < n) ⊎ (k ≡ n)
    by true q = inl (grind (arith, nat_tests))
    by false q = let ge : n ≤ k = grind (arith, nat_tests) in inr (omega arith)

module _ (code : Parts) (table table' : List (Option Shape)) (n number : ℕ) (entry : slice_get code.entries n ≡ Some number) (h : HasEntries code table n) (more : Extends table table') where
  number_is : (core : ℕ) (function : Entered) (b : Begins code core function) → core ≡ n → b.entry ≡ number
  number_is core function b e =
      let x : Some b.entry ≡ Some number = sym b.entry_is ∙ subst (λ z. slice_get code.entries z ≡ Some number) (sym e) entry in
      cc

  -- the next core enters this function
  pub entries_more : (function : Entered) (s : Shape) → slice_get code.functions number ≡ Some function → s ≡ first number function → Has table' function.at s → HasEntries code table' (n + 1)
  entries_more function s f e here core g b lt = elim (below_or_next core n lt) [
    | inl q ↦ more g.at (first b.entry g) (h core g b q)
    | inr q ↦ (let x : b.entry ≡ number = number_is core g b q in
        let y : Some g ≡ Some function = sym b.function_is ∙ subst (λ z. slice_get code.functions z ≡ Some function) (sym x) f in
        let z : g ≡ function = cc in
        let w : Has table' function.at (first number function) = subst (Has table' function.at) e here in
        subst (λ k. Has table' g.at (first k g)) (sym x) (subst (λ (k : Entered). Has table' k.at (first number k)) (sym z) w))
  ]

  -- it enters none
  pub entries_none : slice_get code.functions number ≡ None → HasEntries code table' (n + 1)
  entries_none f core g b lt = elim (below_or_next core n lt) [
    | inl q ↦ more g.at (first b.entry g) (h core g b q)
    | inr q ↦ (let x : b.entry ≡ number = number_is core g b q in
        let y : Some g ≡ None = sym b.function_is ∙ subst (λ z. slice_get code.functions z ≡ None) (sym x) f in
        let no : None ≡ Some g = sym y in cc)
  ]

pub entries_all : (code : Parts) (table : List (Option Shape)) (es : List ℕ) (n : ℕ) → HasEntries code table n → es ≡ code.entries → length es ≤ n → HasEntries code table (length code.entries)
entries_all code table es n h e le core function b lt = let l : length es ≡ length code.entries = ap length e in h core function b (omega arith)

pub entries_kept : (code : Parts) (table table' : List (Option Shape)) (n : ℕ) → HasEntries code table n → Extends table table' → HasEntries code table' n
entries_kept code table table' n h x core function b lt = x function.at (first b.entry function) (h core function b lt)

pub entry_reached : (code : Parts) (core number : ℕ) (function : Entered) (s : Shape) → slice_get code.entries core ≡ Some number → slice_get code.functions number ≡ Some function
    → s ≡ first number function → Reaches code function.at s
entry_reached code core number function s e f same = subst (Reaches code function.at) (sym same) (begins core function (record { entry = number; entry_is = e; function_is = f }))

-- ---- the end

module _ (code : Parts) (table : List (Option Shape)) (found : List ℕ) (next : ℕ) (b : IsBegun code table found next) (end : length found ≤ next) where
  all_closed : (at : ℕ) (s : Shape) → Has table at s → IsClosed code table at s
  all_closed at s h = elim (b.work.state at s h) [
    | inl o ↦ absurd (let x : o.0 < length found = within found o.0 at o.1.1 in let y : next ≤ o.0 = o.1.0 in omega arith)
    | inr c ↦ c
  ]

  goes_has : (at : ℕ) (s : Shape) (to : ℕ) (t : Shape) → Has table at s → Goes code at s to t → Has table to t
  goes_has at s to t h g =
      let c = all_closed at s h in
      c.leads to t (subst (λ l. LeadsTo l to t) (leads_same code at s g.fits c.fits) g.leads)

  all_has : (at : ℕ) (s : Shape) → Reaches code at s → Has table at s
  all_has _ _ (begins core function entry) = b.entries core function entry (within code.entries core entry.entry entry.entry_is)
  all_has _ _ (goes at s to t r g) = goes_has at s to t (all_has at s r) g

  pub found_is : IsFound code table
  found_is = record {
    shaped = record {
      fits = λ at s r. (all_closed at s (all_has at s r)).fits;
      same = λ at s t r q. same_has table at s t (all_has at s r) (all_has at t q);
    };
    tabled = record { long = b.work.long; has = all_has; reached = b.work.reached };
  }
