-- What a name means after one declaration more, and what all names of a scope mean. A name means what it meant before or what was
-- declared, so whatever holds of all meanings of a scope and of the new one holds of all after it.
use Rattle.std.proofs.Common.{◌≡◌, ◌⊎◌, inl, inr, ℕ, List, [], ◌∷◌, Option, None, Some, Bool, true, false, refl, sym, ap, ◌∙◌, subst}
use Rattle.std.specs.Prelude.{is_some, ◌++◌, if◌then◌else◌}
use Rattle.std.specs.Str.{bytes_eq}
use Rattle.ac_names.specs.declared.meaning.Meaning.{Meaning}
use Rattle.ac_names.specs.Scopes.{Declaration, in_scope, added, or_else, visible, declared}

-- what one declaration more changes of what a name means in its scope
in_longer : (name new : List ℕ) (meaning : Meaning) (scope : List Declaration) →
    (in_scope name (scope ++ record { name = new; meaning = meaning } ∷ []) ≡ in_scope name scope) ⊎ (in_scope name (scope ++ record { name = new; meaning = meaning } ∷ []) ≡ Some meaning)
in_longer name new meaning [] = last (bytes_eq new name) where
  last : (b : Bool) → ((if b then Some meaning else None) ≡ None) ⊎ ((if b then Some meaning else None) ≡ Some meaning)
  last true = inr refl
  last false = inl refl
in_longer name new meaning (d ∷ ds) = further (bytes_eq d.name name) (in_longer name new meaning ds) where
  further : (b : Bool) → (in_scope name (ds ++ record { name = new; meaning = meaning } ∷ []) ≡ in_scope name ds) ⊎ (in_scope name (ds ++ record { name = new; meaning = meaning } ∷ []) ≡ Some meaning)
      →
      ((if b then Some d.meaning else in_scope name (ds ++ record { name = new; meaning = meaning } ∷ [])) ≡ (if b then Some d.meaning else in_scope name ds))
      ⊎ ((if b then Some d.meaning else in_scope name (ds ++ record { name = new; meaning = meaning } ∷ [])) ≡ Some meaning)
  further true h = inl refl
  further false h = h

pub in_added : (name new : List ℕ) (meaning : Meaning) (scope : List Declaration)
    → (in_scope name (added new meaning scope) ≡ in_scope name scope) ⊎ (in_scope name (added new meaning scope) ≡ Some meaning)
in_added name new meaning scope = kept (is_some (in_scope new scope)) where
  kept : (b : Bool) → (in_scope name (if b then scope else scope ++ record { name = new; meaning = meaning } ∷ []) ≡ in_scope name scope)
      ⊎ (in_scope name (if b then scope else scope ++ record { name = new; meaning = meaning } ∷ []) ≡ Some meaning)
  kept true = inl refl
  kept false = in_longer name new meaning scope

same_meaning : (a b : Meaning) → Some a ≡ Some b → a ≡ b
same_meaning a b e = cc

-- a name that is visible after a declaration was so before, or is the one that is declared
pub visible_after : (name new : List ℕ) (meaning what : Meaning) (scopes : List (List Declaration)) → visible name (declared new meaning scopes) ≡ Some what
    → (visible name scopes ≡ Some what) ⊎ (meaning ≡ what)
visible_after name new meaning what [] e = inl e
visible_after name new meaning what (scope ∷ scopes) e = here (in_added name new meaning scope) where
  here : (in_scope name (added new meaning scope) ≡ in_scope name scope) ⊎ (in_scope name (added new meaning scope) ≡ Some meaning) → (visible name (scope ∷ scopes) ≡ Some what) ⊎ (meaning ≡ what)
  here (inl h) = inl (ap (λ o. or_else o (visible name scopes)) (sym h) ∙ e)
  here (inr h) = inr (same_meaning meaning what (ap (λ o. or_else o (visible name scopes)) (sym h) ∙ e))

-- what all names of a scope mean
abbrev pub AllMean : (Meaning → Type 0) → List Declaration → Type 0
AllMean P scope = (name : List ℕ) (what : Meaning) → in_scope name scope ≡ Some what → P what

pub none_mean : (P : Meaning → Type 0) → AllMean P []
none_mean P name what e = cc

pub added_mean : (P : Meaning → Type 0) (new : List ℕ) (meaning : Meaning) (scope : List Declaration) → P meaning → AllMean P scope → AllMean P (added new meaning scope)
added_mean P new meaning scope p h name what e = here (in_added name new meaning scope) where
  here : (in_scope name (added new meaning scope) ≡ in_scope name scope) ⊎ (in_scope name (added new meaning scope) ≡ Some meaning) → P what
  here (inl q) = h name what (sym q ∙ e)
  here (inr q) = subst P (same_meaning meaning what (sym q ∙ e)) p

-- what is visible in one scope
pub outer : (o : Option Meaning) (what : Meaning) → or_else o None ≡ Some what → o ≡ Some what
outer None what q = cc
outer (Some x) what q = q
