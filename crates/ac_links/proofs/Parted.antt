-- What holds of the entries of each link holds of those of all links; and the entries kept for a link are of it.
-- By induction on the entries: each one is of its own link.
use Rattle.std.proofs.Common.{◌≡◌, ℕ, List, [], ◌∷◌, Bool, true, false, cond, refl, ap, ◌∙◌, subst, arith}
use Rattle.std.specs.Prelude.{◌==◌}
use Rattle.std.specs.List.{filter, AllByRecursion}
use Rattle.std.proofs.lemmas.Bool.Decides.{nat_tests}
use Rattle.ac_base.specs.declared.entry.Event.{Event}
use Rattle.ac_base.specs.declared.entry.Entry.{Entry}
use Rattle.ac_base.specs.declared.entry.Stamped.{Stamped}
use Rattle.ac_base.specs.Stamps.{next_stamp}
use Rattle.ac_links.specs.Order.{of_party, is_of_link}
use Rattle.ac_links.specs.Link.{link_of}
use Rattle.ac_links.specs.Journals.{HasStamps}

eq_true : (m n : ℕ) → m ≡ n → (m == n) ≡ true
eq_true m n h = grind (arith, nat_tests)

-- what holds of the entries of each link holds of all
rest_of : (P : Stamped → Type 0) (x : Stamped) (xs : List Stamped) (b : Bool) → AllByRecursion P (cond b (x ∷ xs) xs) → AllByRecursion P xs
rest_of P x xs true a = a.1
rest_of P x xs false a = a

pub by_link : (P : Stamped → Type 0) (xs : List Stamped) → ((l : ℕ) → AllByRecursion P (filter (is_of_link l) xs)) → AllByRecursion P xs
by_link P [] h = tt
by_link P (x ∷ xs) h =
    let l = link_of x.entry.event in (
      (subst (λ b. AllByRecursion P (cond b (x ∷ filter (is_of_link l) xs) (filter (is_of_link l) xs))) (eq_true l l refl) (h l)).0,
      by_link P xs (λ k. rest_of P x (filter (is_of_link k) xs) (is_of_link k x) (h k)),
    )

eq_of : (m n : ℕ) → (m == n) ≡ true → m ≡ n
eq_of m n h = grind (arith, nat_tests)

kept_at : (l : ℕ) (x : Stamped) (xs : List Stamped) → AllByRecursion (λ e. link_of e.entry.event ≡ l) (filter (is_of_link l) xs) → (b : Bool) → is_of_link l x ≡ b
    → AllByRecursion (λ e. link_of e.entry.event ≡ l) (cond b (x ∷ filter (is_of_link l) xs) (filter (is_of_link l) xs))
kept_at l x xs h true e = (eq_of (link_of x.entry.event) l e, h)
kept_at l x xs h false e = h

pub kept : (l : ℕ) (xs : List Stamped) → AllByRecursion (λ e. link_of e.entry.event ≡ l) (filter (is_of_link l) xs)
kept l [] = tt
kept l (x ∷ xs) = kept_at l x xs (kept l xs) (is_of_link l x) refl

pub stamps_same : (mine seen : Event → ℕ) (last p : ℕ) (j : List Entry) → HasStamps mine last j → AllByRecursion (λ e. mine e.entry.event ≡ seen e.entry.event) (of_party p j) → HasStamps seen last j
stamps_same mine seen last p [] h a = tt
stamps_same mine seen last p (e ∷ es) h a = (h.0 ∙ ap (next_stamp last) a.0, stamps_same mine seen e.stamp p es h.1 a.1)
