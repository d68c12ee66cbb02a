-- The search for shapes keeps what it knows.
-- `IsWork`: what the table has is reached, and each address with a shape is closed (all its ways lead into the table) or still to be
-- followed. Here one address is met or followed; where a way leads to an address with another shape, or an instruction does not fit, the
-- code has no shapes at all.
use Rattle.std.proofs.Common.{◌≡◌, ℕ, zero, suc, ◌+◌, ◌<◌, ◌≤◌, ◌⊎◌, inl, inr, List, [], ◌∷◌, ◌++◌, length, Option, Some, None, Bool, true, false, refl, sym, ap, ◌∙◌, subst, arith, length-append}
use Rattle.std.specs.Prelude.{slice_get, slice_set, ◌↔◌, IsTrue}
use Rattle.std.proofs.lemmas.Bool.{false≢true}
use Rattle.stack_code.specs.declared.instr.Instr.{Instr}
use Rattle.stack_code.specs.declared.shape.Shape.{Shape}
use Rattle.stack_code.specs.Parts.{Parts}
use Rattle.stack_code.specs.Shapes.{effect, LeadsTo}
use Rattle.stack_code.specs.Valid.{Fits, Reaches, goes, IsShaped}
use Rattle.stack_code.specs.Kept.{Has}
use Rattle.stack_code.specs.inner.Work.{IsOpen, IsClosed, nones, IsWork, Extends, IsMet, Met, IsFollowed, IsTurned}
use Rattle.graph_ranks.proofs.Places.{set_same, set_cases, set_other, set_length, end_cases, end_before, end_here, within}

one_some : (s t : Shape) → Some s ≡ Some t → s ≡ t
one_some s t e = cc

-- an address has one shape in the table
pub same_has : (table : List (Option Shape)) (at : ℕ) (s t : Shape) → Has table at s → Has table at t → s ≡ t
same_has table at s t h g = let e : Some (Some s) ≡ Some (Some t) = sym h ∙ g in cc

none_some : (s : Shape) → ◌≡◌ {A = Option Shape} None (Some s) → ⊥
none_some s e = cc

nones_set : (table : List (Option Shape)) (to : ℕ) (t : Shape) → slice_get table to ≡ Some None → suc (nones (slice_set table to (Some t))) ≡ nones table
nones_set [] to t h = let no : ◌≡◌ {A = Option (Option Shape)} None (Some None) = h in cc
nones_set (None ∷ table) zero t h = refl
nones_set (Some s ∷ table) zero t h = let no : ◌≡◌ {A = Option (Option Shape)} (Some (Some s)) (Some None) = h in cc
nones_set (None ∷ table) (suc to) t h = ap suc (nones_set table to t h)
nones_set (Some s ∷ table) (suc to) t h = nones_set table to t h

-- an address that is new
module _ (code : Parts) (table : List (Option Shape)) (found : List ℕ) (next to : ℕ) (t : Shape) (w : IsWork code table found next) (r : Reaches code to t) (n : slice_get table to ≡ Some None) where
  abbrev table' : List (Option Shape)
  table' = slice_set table to (Some t)

  abbrev found' : List ℕ
  found' = found ++ to ∷ []

  extends : Extends table table'
  extends at s h = set_other table to at (Some t) None (Some s) n h (none_some s)

  has_here : Has table' to t
  has_here = set_same table to (Some t) None n

  closes : (at : ℕ) (s : Shape) → IsClosed code table at s → IsClosed code table' at s
  closes at s c = record { fits = c.fits; leads = λ x u l. extends x u (c.leads x u l) }

  reached' : (at : ℕ) (s : Shape) → Has table' at s → Reaches code at s
  reached' at s h = elim (set_cases table to at (Some t) (Some s) h) [
    | inl e ↦ (let ts : t ≡ s = one_some t s e.1 in subst (λ z. Reaches code z s) e.0 (subst (λ z. Reaches code to z) ts r))
    | inr e ↦ w.reached at s e
  ]

  held' : (k at : ℕ) → slice_get found' k ≡ Some at → (s : Shape) × Has table' at s
  held' k at h = elim (end_cases found to at k h) [
    | inl e ↦ (t, subst (λ z. Has table' z t) e.1 has_here)
    | inr e ↦ (let x = w.held k at e in (x.0, extends at x.0 x.1))
  ]

  state' : (at : ℕ) (s : Shape) → Has table' at s → IsOpen found' next at ⊎ IsClosed code table' at s
  state' at s h = elim (set_cases table to at (Some t) (Some s) h) [
    | inl e ↦ inl (length found, (w.behind, end_here found to ∙ ap Some e.0))
    | inr e ↦ (elim (w.state at s e) [
      | inl o ↦ inl (o.0, (o.1.0, end_before found (to ∷ []) at o.0 o.1.1))
      | inr c ↦ inr (closes at s c)
    ])
  ]

  longer : length found' ≡ length found + 1
  longer = length-append found (to ∷ [])

  pub met_new : IsMet code table table' found found' next to t
  met_new = record {
    work = record {
      long = set_length table to (Some t) ∙ w.long;
      reached = reached';
      held = held';
      state = state';
      room =
          let x : suc (nones table') ≡ nones table = nones_set table to t n in
          let l : length found' ≡ length found + 1 = longer in
          let y : length found + nones table ≡ length table = w.room in
          let z : length table' ≡ length table = set_length table to (Some t) in
          omega arith;
      behind = let l : length found' ≡ length found + 1 = longer in let y : next ≤ length found = w.behind in omega arith;
    };
    has = has_here;
    more = extends;
    grows = λ k at h. end_before found (to ∷ []) at k h;
  }

pub met_new_at : (code : Parts) (table : List (Option Shape)) (found found2 : List ℕ) (next to : ℕ) (t : Shape) → IsWork code table found next → Reaches code to t → slice_get table to ≡ Some None
    → found2 ≡ found ++ to ∷ [] → IsMet code table (slice_set table to (Some t)) found found2 next to t
met_new_at code table found found2 next to t w r n e = rw e (met_new code table found next to t w r n)

-- an address that has a shape already
met_old : (code : Parts) (table : List (Option Shape)) (found : List ℕ) (next to : ℕ) (s t : Shape) → IsWork code table found next → Has table to s → s ≡ t
    → IsMet code table table found found next to t
met_old code table found next to s t w h e = record {
  work = w;
  has = subst (λ z. Has table to z) e h;
  more = λ at u x. x;
  grows = λ k at x. x;
}

pub met_known : (code : Parts) (table : List (Option Shape)) (found : List ℕ) (next to : ℕ) (s t : Shape) (same : Bool) → IsWork code table found next → Reaches code to t → Has table to s
    → (IsTrue same ↔ (s ≡ t)) → Met code table table found found next to t same
met_known code table found next to s t true w r h d = met_old code table found next to s t w h (d.0 refl)
met_known code table found next to s t false w r h d = λ v. false≢true (d.1 (v.same to s t (w.reached to s h) r))

-- an address is followed
pub turned : (code : Parts) (table table' : List (Option Shape)) (found found' : List ℕ) (next at : ℕ) (s : Shape) (f : Fits code at s) → slice_get found next ≡ Some at → Has table at s
    → IsFollowed code table table' found found' next f.leads → IsTurned code table table' found' next
turned code table table' found found' next at s f here h m = record {
  work = record {
    long = m.work.long;
    reached = m.work.reached;
    held = m.work.held;
    state = state2;
    room = m.work.room;
    behind = let x : next < length found' = within found' next at (m.grows next at here) in omega arith;
  };
  more = m.more;
}
  where
    here' : slice_get found' next ≡ Some at
    here' = m.grows next at here

    closed : IsClosed code table' at s
    closed = record { fits = f; leads = m.has }

    state2 : (x : ℕ) (u : Shape) → Has table' x u → IsOpen found' (next + 1) x ⊎ IsClosed code table' x u
    state2 x u g = elim (m.work.state x u g) [
      | inl o ↦ (elim (le_cases next o.0 o.1.0) [
        | inl e ↦ (let ax : Some at ≡ Some x = sym here' ∙ subst (λ z. slice_get found' z ≡ Some x) (sym e) o.1.1 in
            let ax' : at ≡ x = cc in
            let su : s ≡ u = same_has table' at s u (m.more at s h) (subst (λ z. Has table' z u) (sym ax') g) in
            inr (subst (λ z. IsClosed code table' z u) ax' (subst (λ z. IsClosed code table' at z) su closed)))
        | inr e ↦ inl (o.0, (e, o.1.1))
      ])
      | inr c ↦ inr c
    ]
      where
        le_cases : (n k : ℕ) → n ≤ k → (n ≡ k) ⊎ (n + 1 ≤ k)
        le_cases zero zero le = inl refl
        le_cases zero (suc k) le = inr (omega arith)
        le_cases (suc n) zero le = absurd (omega arith)
        le_cases (suc n) (suc k) le = elim (le_cases n k (omega arith)) [ inl e ↦ inl (ap suc e) | inr e ↦ inr (omega arith) ]

-- two that fit have one instruction, and lead to the same
pub leads_same : (code : Parts) (at : ℕ) (s : Shape) (f g : Fits code at s) → f.leads ≡ g.leads
leads_same code at s f g =
    let x : Some f.instr ≡ Some g.instr = sym f.here ∙ g.here in
    let y : f.instr ≡ g.instr = cc in
    let z : Some f.leads ≡ Some g.leads = sym (subst (λ j. effect code at j s ≡ Some f.leads) y f.finds) ∙ g.finds in
    cc

-- what does not fit is not shaped
pub unfit : (code : Parts) (at : ℕ) (s : Shape) (instr : Instr) → Reaches code at s → slice_get code.instrs at ≡ Some instr → effect code at instr s ≡ None → IsShaped code → ⊥
unfit code at s instr r h e v =
    let f = v.fits at s r in
    let x : Some f.instr ≡ Some instr = sym f.here ∙ h in
    let y : f.instr ≡ instr = cc in
    let z : Some f.leads ≡ None = sym (subst (λ j. effect code at j s ≡ Some f.leads) y f.finds) ∙ e in
    cc

-- where an address leads is reached
pub reached_on : (code : Parts) (at : ℕ) (s : Shape) (f : Fits code at s) → Reaches code at s → (to : ℕ) (t : Shape) → LeadsTo f.leads to t → Reaches code to t
reached_on code at s f r to t e = goes at s to t r (record { fits = f; leads = e })
