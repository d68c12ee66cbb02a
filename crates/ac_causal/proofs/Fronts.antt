-- The journal of a party among the first so many entries: how it grows by the next entry, and so do its first so many.
use Rattle.std.proofs.Common.{◌≡◌, ℕ, zero, suc, ◌+◌, ◌<◌, ◌≤◌, List, [], ◌∷◌, ◌++◌, length, Some, None, true}
use Rattle.std.proofs.Common.{false, cond, refl, sym, ap, ◌∙◌, arith, take, append-nil, ◌⊎◌, inl, inr, eq-eqb, if◌then◌else◌}
use Rattle.std.specs.Prelude.{nat_eq, slice_get}
use Rattle.std.proofs.lemmas.Bool.{cases_Bool, eqb-true}
use Rattle.std.proofs.lemmas.List.{length-append, take-append-le}
use Rattle.std.proofs.lemmas.Option.{same_Some}
use Rattle.ac_base.specs.declared.entry.Entry.{Entry}
use Rattle.ac_base.specs.declared.entry.Stamped.{Stamped}
use Rattle.trace_audit.specs.RunTrace.{journal_of}
use Rattle.trace_audit.proofs.Merging.{journal_append}
use Rattle.ac_causal.specs.Before.{is_of}
use Rattle.ac_causal.specs.Cuts.{made_by}
use Rattle.ac_causal.proofs.Counting.{get_some}
use Rattle.ac_causal.proofs.CutLegal.{mine}

take_more : {X : Type 0} (xs : List X) (k : ℕ) (x : X) → slice_get xs k ≡ Some x → take (suc k) xs ≡ take k xs ++ x ∷ []
take_more [] k x h = let no : None ≡ Some x = h in absurd (cc)
take_more (y ∷ xs) zero x h = ap (λ z. z ∷ []) (same_Some y x h)
take_more (y ∷ xs) (suc k) x h = ap (λ zs. y ∷ zs) (take_more xs k x h)

pub take_all : {X : Type 0} (xs : List X) (k : ℕ) → length xs ≤ k → take k xs ≡ xs
take_all [] zero le = refl
take_all [] (suc k) le = refl
take_all (x ∷ xs) zero le = absurd (omega (arith, le))
take_all (x ∷ xs) (suc k) le = ap (λ ys. x ∷ ys) (take_all xs k (omega (arith, le)))

pub one_of : (p : ℕ) (e : Stamped) → e.party ≡ p → journal_of p (e ∷ []) ≡ e.entry ∷ []
one_of p e same = ap (λ b. if b then e.entry ∷ [] else []) (eq-eqb e.party p same)

pub none_of : (p : ℕ) (e : Stamped) → nat_eq e.party p ≡ false → journal_of p (e ∷ []) ≡ []
none_of p e other = ap (λ b. if b then e.entry ∷ [] else []) other

module _ (es : List Stamped) (p : ℕ) where
  abbrev pub front : ℕ → List Entry
  front k = journal_of p (take k es)

  pub front_more : (k : ℕ) (e : Stamped) → slice_get es k ≡ Some e → front (suc k) ≡ front k ++ journal_of p (e ∷ [])
  front_more k e is = ap (journal_of p) (take_more es k e is) ∙ journal_append p (take k es) (e ∷ [])

  long_by : (k : ℕ) (e : Stamped) → slice_get es k ≡ Some e → length (front k) ≡ made_by es p k → (nat_eq e.party p ≡ true) ⊎ (nat_eq e.party p ≡ false)
      → length (front (suc k)) ≡ made_by es p (suc k)
  long_by k e is before (inl same) =
      let m = mine es p k e is (eqb-true e.party p same) in
      let l : length (front (suc k)) ≡ length (front k ++ e.entry ∷ []) = ap length (front_more k e is ∙ ap (λ xs. front k ++ xs) (one_of p e (eqb-true e.party p same))) in
      let a = length-append (front k) (e.entry ∷ []) in
      omega (arith, before, m, l, a)
  long_by k e is before (inr other) =
      let m : made_by es p (suc k) ≡ made_by es p k + 0 = ap (λ b. made_by es p k + cond b 1 0) (ap (λ o. is_of p o) is ∙ other) in
      let l : length (front (suc k)) ≡ length (front k ++ []) = ap length (front_more k e is ∙ ap (λ xs. front k ++ xs) (none_of p e other)) in
      let a = length-append (front k) [] in
      omega (arith, before, m, l, a)

  pub front_long : (k : ℕ) → k ≤ length es → length (front k) ≡ made_by es p k
  front_long zero le = refl
  front_long (suc k) le =
      let e = get_some es k (omega (arith, le)) in
      long_by k e.0 e.1 (front_long k (omega (arith, le))) (cases_Bool (nat_eq e.0.party p))

  -- one entry more of the journal, and of its first so many
  pub front_takes : (c k : ℕ) (e : Stamped) → slice_get es k ≡ Some e → e.party ≡ p → length (front k) < c → take c (front (suc k)) ≡ take c (front k) ++ e.entry ∷ []
  front_takes c k e is same lt =
      let form = front_more k e is ∙ ap (λ xs. front k ++ xs) (one_of p e same) in
      let long = length-append (front k) (e.entry ∷ []) in
      ap (take c) form ∙ take_all (front k ++ e.entry ∷ []) c (omega (arith, long, lt)) ∙ ap (λ xs. xs ++ e.entry ∷ []) (sym (take_all (front k) c (omega (arith, lt))))

  pub front_full : (c k : ℕ) (e : Stamped) → slice_get es k ≡ Some e → c ≤ length (front k) → take c (front (suc k)) ≡ take c (front k)
  front_full c k e is le = ap (take c) (front_more k e is) ∙ take-append-le c (front k) (journal_of p (e ∷ [])) le

  pub front_other : (c k : ℕ) (e : Stamped) → slice_get es k ≡ Some e → nat_eq e.party p ≡ false → take c (front (suc k)) ≡ take c (front k)
  front_other c k e is other = ap (take c) (front_more k e is ∙ ap (λ xs. front k ++ xs) (none_of p e other) ∙ append-nil (front k))
