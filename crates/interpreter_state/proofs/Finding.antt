-- The oldest operation for which a test holds, by its place in equal lists.
-- The interpreter finds a place in its own list, which stands for the meaning's. The laws of `cancel_scope` (Finding) say what is at the
-- first place; here they are carried over to the equal list, for what is found, changed and taken away.
use Rattle.std.proofs.Common.{◌≡◌, ℕ, pos, ◌<◌, List, [], ◌∷◌, length, get_or, set, refl, sym, ap, ◌∙◌}
use Rattle.std.specs.Prelude.{Option, Some, None, Bool, false, true, find, position, is_some, slice_get}
use Rattle.std.specs.List.{remove}
use Rattle.std.proofs.lemmas.Option.{slice_get_within, slice_get-get_or}
use Rattle.cancel_scope.specs.declared.operation.Operation.{Operation}
use Rattle.cancel_scope.specs.declared.operation.Asked.TheVariants as asked
use Rattle.cancel_scope.specs.Outstanding.{started, change_first, without_first}
use Rattle.interpreter_state.specs.Operations.{IsOldest}
use Rattle.cancel_scope.proofs.Finding.{IsFirst, is_first, placed}
use Rattle.cancel_scope.proofs.Finding as queue

-- an operation, whatever it is
abbrev pub any : Operation
any = started 0 (asked.Send (pos 0 ∷ [])) (record { number = 0 })

some_of : (o : Option Operation) → is_some o ≡ true → (y : Operation) × (o ≡ Some y)
some_of None h = let no : false ≡ true = h in absurd (cc)
some_of (Some y) h = (y, refl)

module _ (test : Operation → Bool) (xs : List Operation) (i : ℕ) (at : Some i ≡ position test xs) where
  stands : (y : Operation) × (slice_get xs i ≡ Some y)
  stands = some_of (slice_get xs i) (ap is_some (sym (is_first test xs i at).found) ∙ sym (placed test xs) ∙ ap is_some (sym at))

  -- it stands there
  pub there : i < length xs
  there = slice_get_within xs i stands.0 stands.1

-- ---- in an equal list

module _ (test : Operation → Bool) (xs ys : List Operation) where
  pub none_found : None ≡ position test ys → ys ≡ xs → find test xs ≡ None
  none_found none same = queue.none_found test xs (none ∙ ap (position test) same)

  -- where one of them stands, it is found
  pub one_found : (i : ℕ) → Some i ≡ position test ys → ys ≡ xs → find test xs ≡ Some (get_or xs i any)
  one_found i at same =
      let here : Some i ≡ position test xs = at ∙ ap (position test) same in
      (is_first test xs i here).found ∙ slice_get-get_or xs i any (there test xs i here)

  module _ (i : ℕ) (o : Operation) (at : Some i ≡ position test ys) (same : ys ≡ xs) where
    here : Some i ≡ position test xs
    here = at ∙ ap (position test) same

    first : IsFirst test xs i
    first = is_first test xs i here

    held : o ≡ get_or xs i o → slice_get xs i ≡ Some o
    held is = slice_get-get_or xs i o (there test xs i here) ∙ ap (λ x. Some x) (sym is)

    pub found_at : o ≡ get_or xs i o → find test xs ≡ Some o
    found_at is = first.found ∙ held is

    pub changed_at : (change : Operation → Operation) → o ≡ get_or xs i o → change_first test change xs ≡ set xs i (change o)
    changed_at change is = first.changed change o (held is)

    pub without_at : without_first test xs ≡ remove xs i
    without_at = first.without

-- what stands at the place of the oldest is the oldest
pub the_same : (os : List Operation) (test : Operation → Bool) (place : ℕ) (o there : Operation) → IsOldest test os place o → there ≡ get_or os place there → there ≡ o
the_same os test place o there oldest is =
    let found : Some there ≡ Some o = sym (found_at test os os place there (sym oldest.0) refl is) ∙ oldest.1 in
    cc
