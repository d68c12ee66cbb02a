-- The innermost scope, which is stored last: a change of the last table is that change of the innermost scope. The list is split before its
-- last element, where writing and reading are known, and turned round; a declaration and a cut are two such changes.
use Rattle.std.proofs.Common.{◌≡◌, ℕ, ◌-◌, List, [], ◌∷◌, ◌++◌, length, take, reverse, set, get_or, refl, sym, ap, ◌∙◌, subst, arith}
use Rattle.std.proofs.lemmas.List.{reverse-append, reverse-reverse, length-append}
use Rattle.std.proofs.Math.Seq.{set-append_seam, get_or-append_seam}
use Rattle.ac_names.specs.declared.meaning.Meaning.{Meaning}
use Rattle.ac_names.specs.Scopes.{Declaration, declared, added}
use Rattle.ac_names.specs.Cut.{cut}

-- what is innermost is last
pub is_last : {X : Type 0} (xs : List X) (x : X) (ys : List X) → reverse xs ≡ x ∷ ys → xs ≡ reverse ys ++ x ∷ []
is_last xs x ys e = sym (reverse-reverse xs) ∙ ap reverse e ∙ reverse-append (x ∷ []) ys

write_last : {X : Type 0} (zs : List X) (x y : X) (n : ℕ) → n ≡ length zs → set (zs ++ x ∷ []) n y ≡ zs ++ y ∷ []
write_last zs x y n e = ap (λ k. set (zs ++ x ∷ []) k y) e ∙ set-append_seam zs x [] y

-- the innermost scope is another one
abbrev pub changed : (List Declaration → List Declaration) → List (List Declaration) → List (List Declaration)
changed f [] = []
changed f (x ∷ xs) = f x ∷ xs

module _ (f : List Declaration → List Declaration) where
  by_split : (zs : List (List Declaration)) (x now new : List Declaration) (n : ℕ) →
      n ≡ length (zs ++ x ∷ []) → now ≡ get_or (zs ++ x ∷ []) (n - 1) now → new ≡ f now →
      reverse (set (zs ++ x ∷ []) (n - 1) new) ≡ changed f (reverse (zs ++ x ∷ []))
  by_split zs x now new n e g a =
      let len = length-append zs (x ∷ []) in
      let at : n - 1 ≡ length zs = omega (arith, e, len) in
      let is : now ≡ x = g ∙ ap (λ k. get_or (zs ++ x ∷ []) k now) at ∙ get_or-append_seam zs x [] now in
      ap reverse (write_last zs x new (n - 1) at) ∙ reverse-append zs (new ∷ [])
      ∙ ap (λ s. s ∷ reverse zs) (a ∙ ap f is)
      ∙ ap (changed f) (sym (reverse-append zs (x ∷ [])))

  -- the scope that is last is another one
  pub changed_last : (tables : List (List Declaration)) (now new : List Declaration) (n : ℕ) →
      n ≡ length tables → (n ≡ 0 → ⊥) → now ≡ get_or tables (n - 1) now → new ≡ f now →
      reverse (set tables (n - 1) new) ≡ changed f (reverse tables)
  changed_last tables now new n e some g a = by (reverse tables) refl
    where
      by : (rs : List (List Declaration)) → reverse tables ≡ rs → reverse (set tables (n - 1) new) ≡ changed f (reverse tables)
      by [] r = absurd (some (e ∙ ap length (sym (reverse-reverse tables) ∙ ap reverse r)))
      by (x ∷ ys) r =
          let is = is_last tables x ys r in
          let P : List (List Declaration) → Type 0 = λ ts. n ≡ length ts → now ≡ get_or ts (n - 1) now → reverse (set ts (n - 1) new) ≡ changed f (reverse ts) in
          subst P (sym is) (λ e2 g2. by_split (reverse ys) x now new n e2 g2 a) e g

adds : (name : List ℕ) (meaning : Meaning) (scopes : List (List Declaration)) → changed (added name meaning) scopes ≡ declared name meaning scopes
adds name meaning [] = refl
adds name meaning (x ∷ xs) = refl

cuts : (len : ℕ) (scopes : List (List Declaration)) → changed (take len) scopes ≡ cut len scopes
cuts len [] = refl
cuts len (x ∷ xs) = refl

-- one declaration more in the scope that is last
pub declared_last : (tables : List (List Declaration)) (now new : List Declaration) (n : ℕ) (name : List ℕ) (meaning : Meaning) →
    n ≡ length tables → (n ≡ 0 → ⊥) → now ≡ get_or tables (n - 1) now → new ≡ added name meaning now →
    reverse (set tables (n - 1) new) ≡ declared name meaning (reverse tables)
declared_last tables now new n name meaning e some g a = changed_last (added name meaning) tables now new n e some g a ∙ adds name meaning (reverse tables)

-- the scope that is last is cut
pub cut_last : (tables : List (List Declaration)) (now new : List Declaration) (n len : ℕ) →
    n ≡ length tables → (n ≡ 0 → ⊥) → now ≡ get_or tables (n - 1) now → new ≡ take len now →
    reverse (set tables (n - 1) new) ≡ cut len (reverse tables)
cut_last tables now new n len e some g a = changed_last (take len) tables now new n e some g a ∙ cuts len (reverse tables)
