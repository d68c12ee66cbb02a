-- The operations of a core as a list: what is found in it, which threads wait for their ends, and with what these will go on.
-- What is found stands between those before it and those behind it; from this form, counts, sums and `going_on` are each one law, by
-- induction over those before it.
use Rattle.std.proofs.Common.{◌≡◌, ℕ, ◌+◌, List, [], ◌∷◌, ◌++◌, Some, None, Bool, true, false, refl, sym, ap, ◌∙◌, subst, arith}
use Rattle.std.specs.Prelude.{All, cond, find, nat_eq, if◌then◌else◌}
use Rattle.std.proofs.lemmas.Bool.{eqb-true, eq-eqb}
use Rattle.std.proofs.lemmas.List.Elements.{All-cons, All-head, All-tail}
use Rattle.work_item.specs.declared.ids.Item.{Item}
use Rattle.work_item.specs.Store.{no_int}
use Rattle.cancel_scope.specs.declared.operation.Operation.{Operation}
use Rattle.cancel_scope.specs.Outstanding.{change_first, without_first}
use Rattle.stack_code.specs.Parts.{Parts}
use Rattle.code_meaning.specs.Machine.{Thread, given}
use Rattle.code_safety.specs.Fit.{Birth, IsAsked, one_if, one_at, occurs, items_of, going_on, total}
use Rattle.code_safety.proofs.Lasting.{Grown, asked_grown}
use Rattle.code_safety.proofs.Lives.{one_same}

-- ---- the first for which a test holds

pub record IsFound (test : Operation → Bool) (os : List Operation) (o : Operation) : Type 0 where
  pub front : List Operation
  pub back : List Operation
  pub is : os ≡ front ++ o ∷ back
  pub passes : test o ≡ true
  pub without : without_first test os ≡ front ++ back
  pub changed : (change : Operation → Operation) → change_first test change os ≡ front ++ change o ∷ back

pub found_at : (test : Operation → Bool) (os : List Operation) (o : Operation) → find test os ≡ Some o → IsFound test os o
found_at test [] o e = let no : None ≡ Some o = e in absurd (cc)
found_at test (x ∷ os) o e = go (test x) refl e (λ f. found_at test os o f)
  where
    go : (b : Bool) → test x ≡ b → cond b (Some x) (find test os) ≡ Some o → (find test os ≡ Some o → IsFound test os o) → IsFound test (x ∷ os) o
    go true t f later =
        let same : x ≡ o = let both : Some x ≡ Some o = f in cc in
        subst (IsFound test (x ∷ os)) same (record {
          front = [];
          back = os;
          is = refl;
          passes = t;
          without = ap (λ (b : Bool). if b then os else x ∷ without_first test os) t;
          changed = λ change. ap (λ (b : Bool). if b then change x ∷ os else x ∷ change_first test change os) t;
        })
    go false t f later =
        let r = later f in
        record {
          front = x ∷ r.front;
          back = r.back;
          is = ap (λ l. x ∷ l) r.is;
          passes = r.passes;
          without = ap (λ (b : Bool). if b then os else x ∷ without_first test os) t ∙ ap (λ l. x ∷ l) r.without;
          changed = λ change. ap (λ (b : Bool). if b then change x ∷ os else x ∷ change_first test change os) t ∙ ap (λ l. x ∷ l) (r.changed change);
        }

-- ---- one of them and the others

pub occurs_between : (u : ℕ) (front back : List Operation) (o : Operation) → occurs u (items_of (front ++ o ∷ back)) ≡ one_at u o.item + occurs u (items_of (front ++ back))
occurs_between u [] back o = refl
occurs_between u (x ∷ front) back o = let h = occurs_between u front back o in omega (arith, h)

pub total_between : (f : Operation → ℕ) (front back : List Operation) (o : Operation) → total f (front ++ o ∷ back) ≡ f o + total f (front ++ back)
total_between f [] back o = refl
total_between f (x ∷ front) back o = let h = total_between f front back o in omega (arith, h)

module _ (P : Operation → Type 0) (back : List Operation) (o : Operation) where
  pub all_others : (front : List Operation) → All P (front ++ o ∷ back) → All P (front ++ back)
  all_others [] h = All-tail P o back h
  all_others (x ∷ front) h = All-cons P x (front ++ back) (All-head P x (front ++ o ∷ back) h) (all_others front (All-tail P x (front ++ o ∷ back) h))

  pub one_of_all : (front : List Operation) → All P (front ++ o ∷ back) → P o
  one_of_all [] h = All-head P o back h
  one_of_all (x ∷ front) h = one_of_all front (All-tail P x (front ++ o ∷ back) h)

  pub all_between : (front : List Operation) → All P (front ++ back) → P o → All P (front ++ o ∷ back)
  all_between [] h p = All-cons P o back p h
  all_between (x ∷ front) h p = All-cons P x (front ++ o ∷ back) (All-head P x (front ++ back) h) (all_between front (All-tail P x (front ++ back) h) p)

-- ---- how a thread will go on

module _ (t : Item) (h : Thread) where
  by_test : (o : Operation) (os : List Operation) → (b : Bool) → nat_eq t.number o.item.number ≡ b → going_on (o ∷ os) t h ≡ (if b then given no_int h else going_on os t h)
  by_test o os b e = ap (λ (z : Bool). if z then given no_int h else going_on os t h) e

  not_its : (o : Operation) (os : List Operation) → (t.number ≡ o.item.number → ⊥) → going_on (o ∷ os) t h ≡ going_on os t h
  not_its o os ne = go (nat_eq t.number o.item.number) refl
    where
      go : (b : Bool) → nat_eq t.number o.item.number ≡ b → going_on (o ∷ os) t h ≡ going_on os t h
      go true e = absurd (ne (eqb-true t.number o.item.number e))
      go false e = by_test o os false e

  pub its_own : (o : Operation) (os : List Operation) → t.number ≡ o.item.number → going_on (o ∷ os) t h ≡ given no_int h
  its_own o os e = by_test o os true (eq-eqb t.number o.item.number e)

  -- one that waits for none
  pub waits_for_none : (os : List Operation) → occurs t.number (items_of os) ≡ 0 → going_on os t h ≡ h
  waits_for_none [] e = refl
  waits_for_none (o ∷ os) e =
      not_its o os (λ same. let one : one_at t.number o.item ≡ 1 = ap (λ n. one_if (nat_eq t.number n)) (sym same) ∙ one_same t.number in omega (arith, e, one))
      ∙ waits_for_none os (omega (arith, e))

  pub waits_for_another : (front back : List Operation) (o : Operation) → (t.number ≡ o.item.number → ⊥) → going_on (front ++ o ∷ back) t h ≡ going_on (front ++ back) t h
  waits_for_another [] back o ne = not_its o back ne
  waits_for_another (x ∷ front) back o ne = ap (λ z. if nat_eq t.number x.item.number then given no_int h else z) (waits_for_another front back o ne)

  pub waits_for_it : (front back : List Operation) (o : Operation) → t.number ≡ o.item.number → going_on (front ++ o ∷ back) t h ≡ given no_int h
  waits_for_it [] back o e = its_own o back e
  waits_for_it (x ∷ front) back o e = go (nat_eq t.number x.item.number) (waits_for_it front back o e)
    where
      go : (b : Bool) → going_on (front ++ o ∷ back) t h ≡ given no_int h → (if b then given no_int h else going_on (front ++ o ∷ back) t h) ≡ given no_int h
      go true rest = refl
      go false rest = rest

  -- how far an operation has come makes no difference
  pub waits_alike : (front back : List Operation) (o p : Operation) → p.item ≡ o.item → going_on (front ++ p ∷ back) t h ≡ going_on (front ++ o ∷ back) t h
  waits_alike [] back o p e = ap (λ (u : Item). if nat_eq t.number u.number then given no_int h else going_on back t h) e
  waits_alike (x ∷ front) back o p e = ap (λ z. if nat_eq t.number x.item.number then given no_int h else z) (waits_alike front back o p e)

-- ---- where they put what they receive or read

pub asks_grown : (code : Parts) (old new : List Birth) → Grown old new → (os : List Operation) → All (λ (o : Operation). IsAsked code old o.link o.asked) os
    → All (λ (o : Operation). IsAsked code new o.link o.asked) os
asks_grown code old new grown os h k d lt = asked_grown code old new grown _ _ (h k d lt)
