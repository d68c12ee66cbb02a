-- Lists of what a function gives at the numbers from one on. Each change of a list is one of the function at one number.
use Rattle.std.proofs.Common.{◌≡◌, ℕ, zero, suc, ◌+◌, ◌<◌, ◌≤◌, [], ◌∷◌, ◌++◌, Some, true, false, cond, refl, sym, ap, ◌∙◌, subst, arith, length, get_or, is_some}
use Rattle.std.specs.Prelude.{slice_get}
use Rattle.ac_links.specs.Views.{altered}
use Rattle.channel_ends.specs.Sending.{MadeOffer, known_lead}
use Rattle.channel_ends.specs.inner.Noted.{tabulated}

pub table_length : {X : Type 0} (f : ℕ → X) (k n : ℕ) → length (tabulated f k n) ≡ n
table_length f k zero = refl
table_length f k (suc n) = ap suc (table_length f (suc k) n)

pub table_at : {X : Type 0} (f : ℕ → X) (k n i : ℕ) (d : X) → i < n → get_or (tabulated f k n) i d ≡ f (k + i)
table_at f k zero i d l = absurd (omega arith)
table_at f k (suc n) zero d l = let e : k ≡ k + 0 = omega arith in ap f e
table_at f k (suc n) (suc i) d l = let e : suc k + i ≡ k + suc i = omega arith in table_at f (suc k) n i d (omega arith) ∙ ap f e

pub table_get : {X : Type 0} (f : ℕ → X) (k n i : ℕ) → i < n → slice_get (tabulated f k n) i ≡ Some (f (k + i))
table_get f k zero i l = absurd (omega arith)
table_get f k (suc n) zero l = let e : k ≡ k + 0 = omega arith in ap (λ j. Some (f j)) e
table_get f k (suc n) (suc i) l = let e : suc k + i ≡ k + suc i = omega arith in table_get f (suc k) n i (omega arith) ∙ ap (λ j. Some (f j)) e

pub table_same : {X : Type 0} (f g : ℕ → X) (k n : ℕ) → ((j : ℕ) → k ≤ j → j < k + n → f j ≡ g j) → tabulated f k n ≡ tabulated g k n
table_same f g k zero h = refl
table_same f g k (suc n) h =
    ap (λ x. x ∷ tabulated f (suc k) n) (h k (omega arith) (omega arith)) ∙ ap (λ r. g k ∷ r) (table_same f g (suc k) n (λ j a b. h j (omega arith) (omega arith)))

pub table_more : {X : Type 0} (f : ℕ → X) (k n : ℕ) → tabulated f k (suc n) ≡ tabulated f k n ++ f (k + n) ∷ []
table_more f k zero = let e : k ≡ k + 0 = omega arith in ap (λ j. f j ∷ []) e
table_more f k (suc n) =
    let e : suc k + n ≡ k + suc n = omega arith in
    ap (λ r. f k ∷ r) (table_more f (suc k) n ∙ ap (λ j. tabulated f (suc k) n ++ f j ∷ []) e)

pub table_altered : {X : Type 0} (f g : ℕ → X) (h : X → X) (k n i : ℕ) → i < n → g (k + i) ≡ h (f (k + i)) → ((j : ℕ) → k ≤ j → j < k + n → (j ≡ k + i → ⊥) → g j ≡ f j)
    → altered (tabulated f k n) i h ≡ tabulated g k n
table_altered f g h k zero i l e others = absurd (omega arith)
table_altered f g h k (suc n) zero l e others =
    let here : k + 0 ≡ k = omega arith in
    ap (λ x. x ∷ tabulated f (suc k) n) (sym (subst (λ j. g j ≡ h (f j)) here e))
    ∙ ap (λ r. g k ∷ r) (table_same f g (suc k) n (λ j a b. sym (others j (omega arith) (omega arith) (λ q. omega arith))))
table_altered f g h k (suc n) (suc i) l e others =
    let there : k + suc i ≡ suc k + i = omega arith in
    ap (λ x. x ∷ altered (tabulated f (suc k) n) i h) (sym (others k (omega arith) (omega arith) (λ q. omega arith)))
    ∙ ap (λ r. g k ∷ r) (table_altered f g h (suc k) n i (omega arith) (subst (λ j. g j ≡ h (f j)) there e) (λ j a b ne. others j (omega arith) (omega arith) (λ q. ne (q ∙ there))))

-- how many leading ones are known
pub table_lead : (f : ℕ → MadeOffer) (k n m : ℕ) → m ≤ n → ((j : ℕ) → k ≤ j → j < k + m → is_some (f j).known ≡ true) → (m < n → is_some (f (k + m)).known ≡ false)
    → known_lead (tabulated f k n) ≡ m
table_lead f k zero m l a b = omega arith
table_lead f k (suc n) zero l a b =
    let here : k + 0 ≡ k = omega arith in
    ap (λ q. cond q (suc (known_lead (tabulated f (suc k) n))) 0) (subst (λ j. is_some (f j).known ≡ false) here (b (omega arith)))
table_lead f k (suc n) (suc m) l a b =
    let there : k + suc m ≡ suc k + m = omega arith in
    ap (λ q. cond q (suc (known_lead (tabulated f (suc k) n))) 0) (a k (omega arith) (omega arith))
    ∙ ap suc (table_lead f (suc k) n m (omega arith) (λ j x y. a j (omega arith) (omega arith)) (λ x. subst (λ j. is_some (f j).known ≡ false) there (b (omega arith))))

-- the same from nought on
pub table_changed : {X : Type 0} (f g : ℕ → X) (h : X → X) (n i : ℕ) → i < n → g i ≡ h (f i) → ((j : ℕ) → j < n → (j ≡ i → ⊥) → g j ≡ f j)
    → altered (tabulated f 0 n) i h ≡ tabulated g 0 n
table_changed f g h n i l e others =
    let here : 0 + i ≡ i = omega arith in
    table_altered f g h 0 n i l (subst (λ j. g j ≡ h (f j)) (sym here) e) (λ j a b ne. others j (omega arith) (λ q. ne (q ∙ sym here)))
