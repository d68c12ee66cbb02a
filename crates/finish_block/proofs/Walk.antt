-- The blocks round a block: those of a live block live, and the list of them, walked step by step, has just those of the relation. For `is_within` and `is_cancelled`.
-- From the relation to the list by induction on the relation: parents are older, so a list of more blocks than the number of the innermost is long enough.
-- From the list to the relation by induction on its length. `cancelled_means` and `within_means` are the two tests made of both.
use Rattle.std.proofs.Common.{◌≡◌, ℕ, zero, suc, ◌+◌, ◌-◌, ◌<◌, List, length, Option, Some, None, IsSomeAnd, IfSome, Bool}
use Rattle.std.proofs.Common.{true, false, IsTrue, ◌↔◌, inl, inr, refl, sym, ap, ◌∙◌, subst, arith, ◌≤◌, nat_eq}
use Rattle.std.specs.Prelude.{◌||◌}
use Rattle.std.specs.List.{list_any}
use Rattle.std.proofs.lemmas.Bool.{or_cases, eqb-true, eq-eqb}
use Rattle.work_item.specs.declared.ids.BlockId.{BlockId}
use Rattle.work_item.proofs.Children.{within, some_of}
use Rattle.finish_block.specs.declared.block.Block.{Block}
use Rattle.finish_block.specs.Table.{block_at, parent_at}
use Rattle.finish_block.specs.Conditions.{Lives, IsRooted}
use Rattle.finish_block.specs.Ancestors.{IsRound, itself, further, IsCancelled, few_round, round, is_marked, any_marked}
use Rattle.finish_block.proofs.Rooted.{same_number}

pub ancestors_live : (bs : List (Option Block)) (a b : BlockId) → IsRooted bs → Lives bs b → IsRound bs a b → Lives bs a
ancestors_live bs a b r l itself = l
ancestors_live bs a b r l (further c p x e up rest) = ancestors_live bs a p r (r c x p e up).1 rest

module _ (bs : List (Option Block)) (test : BlockId → Bool) where
  -- ---- the walk: k of n blocks were looked at, and what the others say is the answer

  module _ (n k : ℕ) (o : Option BlockId) (answer : Bool) (so_far : list_any test (few_round (n - k) bs o) ≡ answer) where
    pub none_left : o ≡ None → false ≡ answer
    none_left none = ap (λ q. list_any test (few_round (n - k) bs q)) (sym none) ∙ so_far

    pub all_seen : n ≤ k → false ≡ answer
    all_seen le = no_step o ∙ ap (λ m. list_any test (few_round m bs o)) (sym none) ∙ so_far where
      none : n - k ≡ 0
      none = omega arith

      no_step : (q : Option BlockId) → false ≡ list_any test (few_round 0 bs q)
      no_step None = refl
      no_step (Some b) = refl

    module _ (b : BlockId) (lt : k < n) (is : o ≡ Some b) where
      looked : (t : Bool) → test b ≡ t → (t || list_any test (few_round (n - (k + 1)) bs (parent_at (block_at bs b)))) ≡ answer
      looked t here =
          let left : suc (n - (k + 1)) ≡ n - k = omega arith in
          let on = few_round (n - (k + 1)) bs (parent_at (block_at bs b)) in
          ap (λ x. x || list_any test on) (sym here) ∙ ap (λ m. list_any test (few_round m bs (Some b))) left
          ∙ ap (λ q. list_any test (few_round (n - k) bs q)) (sym is) ∙ so_far

      pub found : test b ≡ true → true ≡ answer
      found here = looked true here

      pub goes_on : test b ≡ false → (p : Option BlockId) → p ≡ parent_at (block_at bs b) → list_any test (few_round (n - (k + 1)) bs p) ≡ answer
      goes_on here p up = ap (λ q. list_any test (few_round (n - (k + 1)) bs q)) up ∙ looked false here

  -- ---- what the list has is what the relation has

  or_else : (t u : Bool) → u ≡ true → (t || u) ≡ true
  or_else true u e = refl
  or_else false u e = e

  pub listed : (a b : BlockId) → IsRooted bs → IsRound bs a b → test a ≡ true → (k : ℕ) → b.number < k → list_any test (few_round k bs (Some b)) ≡ true
  listed a b r round is zero lt = absurd (omega arith)
  listed a b r itself is (suc k) lt = ap (λ t. t || list_any test (few_round k bs (parent_at (block_at bs a)))) is
  listed a b r (further c p x e up rest) is (suc k) lt =
      let older = (r c x p e up).0 in
      let on : list_any test (few_round k bs (Some p)) ≡ true = listed a p r rest is k (omega arith) in
      or_else (test c) _ (ap (λ o. list_any test (few_round k bs o)) (ap parent_at e ∙ up) ∙ on)

  abbrev Found : BlockId → Type 0
  Found b = (a : BlockId) × (IsRound bs a b × (test a ≡ true))

  found_above : (k : ℕ) (b : BlockId) (o : Option Block) (q : Option BlockId) → block_at bs b ≡ o → parent_at o ≡ q → list_any test (few_round k bs q) ≡ true
      → ((p : BlockId) → list_any test (few_round k bs (Some p)) ≡ true → Found p) → Found b
  found_above k b o None e up h more = let no : false ≡ true = h in absurd (cc)
  found_above k b None (Some p) e up h more = let no : None ≡ Some p = up in absurd (cc)
  found_above k b (Some x) (Some p) e up h more = let f = more p h in (f.0, (further b p x e up f.1.0, f.1.1))

  pub related : (k : ℕ) (b : BlockId) → list_any test (few_round k bs (Some b)) ≡ true → Found b
  related zero b h = let no : false ≡ true = h in absurd (cc)
  related (suc k) b h =
      elim (or_cases (test b) _ h) as (λ _. Found b) [
        | inl is ↦ (b, (itself, is))
        | inr on ↦ found_above k b (block_at bs b) _ refl refl on (related k)
      ]

-- ---- what the two tests on the blocks round a block say

bears : (o : Option Block) → is_marked o ≡ true → IsSomeAnd o (λ x. x.cancelled ≡ true)
bears None h = let no : false ≡ true = h in absurd (cc)
bears (Some x) h = h

borne : (o : Option Block) → IsSomeAnd o (λ x. x.cancelled ≡ true) → is_marked o ≡ true
borne None h = absurd h
borne (Some x) h = h

young : (bs : List (Option Block)) (b : BlockId) → Lives bs b → b.number < length bs
young bs b l = let x = some_of (block_at bs b) l in within bs b.number x.0 x.1

pub cancelled_means : (bs : List (Option Block)) → IsRooted bs → (block : Option BlockId) (t : Bool) → t ≡ any_marked bs (round bs block)
    → IfSome block (λ b. Lives bs b → (IsTrue t ↔ IsCancelled bs b))
cancelled_means bs r None t e = tt
cancelled_means bs r (Some b) t e =
    let test : BlockId → Bool = λ x. is_marked (block_at bs x) in
    λ l. (
      (λ is. let f = related bs test (length bs) b (sym e ∙ is) in record { by = f.0; round = f.1.0; mark = bears (block_at bs f.0) f.1.1 }),
      (λ c. e ∙ listed bs test c.by b r c.round (borne (block_at bs c.by) c.mark) (length bs) (young bs b l)),
    )

pub within_means : (bs : List (Option Block)) → IsRooted bs → (block : Option BlockId) (outer : BlockId) (t : Bool)
    → t ≡ list_any (λ (x : BlockId). nat_eq outer.number x.number) (round bs block)
    → IfSome block (λ b. Lives bs b → (IsTrue t ↔ IsRound bs outer b))
within_means bs r None outer t e = tt
within_means bs r (Some b) outer t e =
    let test : BlockId → Bool = λ x. nat_eq outer.number x.number in
    λ l. (
      (λ is.
          let f = related bs test (length bs) b (sym e ∙ is) in
          subst (λ a. IsRound bs a b) (sym (same_number outer f.0 (eqb-true outer.number f.0.number f.1.1))) f.1.0),
      (λ round. e ∙ listed bs test outer b r round (eq-eqb outer.number outer.number refl) (length bs) (young bs b l)),
    )
