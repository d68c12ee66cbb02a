-- What the slots of a new frame hold.
-- The operands of a call are as its parameters ask, a slot behind them holds 0, and a slot of a body without parameters too; so each slot
-- is as its uses ask. By induction over parameters and operands together.
use Rattle.std.proofs.Common.{◌≡◌, ◌⊎◌, ℕ, zero, suc, ◌+◌, ◌-◌, ◌≤◌, List, [], ◌∷◌, ◌++◌, length, take, length-append, Some, None, Bool, true, false, refl, sym, ap, ◌∙◌, subst, inl, inr}
use Rattle.std.proofs.Common.{arith}
use Rattle.std.specs.Prelude.{map, reverse, replicate, slice_get, unwrap_or, pos}
use Rattle.std.proofs.lemmas.List.{reverse-append, length-reverse, length-map, length-replicate}
use Rattle.std.proofs.lemmas.Option.{slice_get_past}
use Rattle.work_item.specs.declared.cell.Cell.{Cell}
use Rattle.work_item.specs.declared.cell.Cell.TheVariants as cell
use Rattle.work_item.specs.Store.{no_int}
use Rattle.core_state.specs.Frames.{argument, arguments, first_cells}
use Rattle.stack_code.specs.declared.shape.CellKind.TheVariants as kind
use Rattle.stack_code.specs.declared.shape.Home.{Home}
use Rattle.stack_code.specs.declared.shape.Want.{Want}
use Rattle.stack_code.specs.Parts.{Parts}
use Rattle.stack_code.specs.Shapes as shapes
use Rattle.stack_code.specs.Shapes.{want_of, params_of, is_array}
use Rattle.stack_code.specs.Valid.{AsInt, HasOneUse}
use Rattle.code_safety.specs.Fit.{Birth, is_int, HasKind, IsSlot, AreSlots}
use Rattle.code_safety.proofs.Taken.{IsWanted, AreWanted}
use Rattle.code_safety.proofs.Settings.{no_array, int_slot}

-- an element of two lists, one after the other
append_cases : {A : Type 0} (xs ys : List A) (n : ℕ) (x : A) → slice_get (xs ++ ys) n ≡ Some x → (slice_get xs n ≡ Some x) ⊎ ((length xs ≤ n) × (slice_get ys (n - length xs) ≡ Some x))
append_cases [] ys n x e = let z : n - 0 ≡ n = omega arith in inr (omega arith, rw z e)
append_cases (y ∷ xs) ys zero x e = inl e
append_cases (y ∷ xs) ys (suc n) x e =
    elim (append_cases xs ys n x e) as (λ _. (slice_get (y ∷ xs) (suc n) ≡ Some x) ⊎ ((length (y ∷ xs) ≤ suc n) × (slice_get ys (suc n - length (y ∷ xs)) ≡ Some x))) [
      | inl p ↦ inl p
      | inr p ↦ let z : suc n - suc (length xs) ≡ n - length xs = omega arith in inr (omega (arith, p.0), rw z p.1)
    ]

replicate_is : {A : Type 0} (n : ℕ) (a : A) (k : ℕ) (x : A) → slice_get (replicate n a) k ≡ Some x → x ≡ a
replicate_is zero a k x e = let no : None ≡ Some x = e in cc
replicate_is (suc n) a zero x e = let s : a ≡ x = cc in sym s
replicate_is (suc n) a (suc k) x e = replicate_is n a k x e

module _ (code : Parts) (births : List Birth) where
  -- the arguments are as their parameters ask
  abbrev pub AreArguments : List Bool → List Cell → Type 0
  AreArguments [] xs = Unit {0}
  AreArguments (a ∷ params) [] = ⊥
  AreArguments (a ∷ params) (x ∷ xs) = IsWanted code births (want_of a) x × AreArguments params xs

  last_wanted : (ws : List Want) (w : Want) (xs : List Cell) → AreWanted code births (ws ++ w ∷ []) xs
      → AreWanted code births ws xs × ((x : Cell) × ((take (suc (length ws)) xs ≡ take (length ws) xs ++ x ∷ []) × IsWanted code births w x))
  last_wanted [] w [] h = absurd h
  last_wanted [] w (x ∷ xs) h = (tt, (x, (refl, h.0)))
  last_wanted (v ∷ ws) w [] h = absurd h
  last_wanted (v ∷ ws) w (x ∷ xs) h = let r = last_wanted ws w xs h.1 in ((h.0, r.0), (r.1.0, (ap (λ l. x ∷ l) r.1.1.0, r.1.1.1)))

  pub arguments_of : (params : List Bool) (xs : List Cell) → AreWanted code births (shapes.arguments params) xs → AreArguments params (reverse (take (length params) xs))
  arguments_of [] xs h = tt
  arguments_of (a ∷ params) xs h =
      let ws = map want_of params in
      let turned : reverse (want_of a ∷ ws) ≡ reverse ws ++ want_of a ∷ [] = reverse-append (want_of a ∷ []) ws in
      let r = last_wanted (reverse ws) (want_of a) xs (subst (λ l. AreWanted code births l xs) turned h) in
      let long : length (reverse ws) ≡ length params = length-reverse ws ∙ length-map params want_of in
      let taken : take (suc (length params)) xs ≡ take (length params) xs ++ r.1.0 ∷ [] = subst (λ n. take (suc n) xs ≡ take n xs ++ r.1.0 ∷ []) long r.1.1.0 in
      let all : reverse (take (suc (length params)) xs) ≡ r.1.0 ∷ reverse (take (length params) xs) = ap reverse taken ∙ reverse-append (take (length params) xs) (r.1.0 ∷ []) in
      subst (AreArguments (a ∷ params)) (sym all) (r.1.1.1, arguments_of params xs r.0)

  array_argument : (x : Cell) → HasKind code births (kind.Reference None) x → HasKind code births (kind.Reference None) (argument true x)
  array_argument (cell.Int v) h = absurd h
  array_argument (cell.Array place) h = h
  array_argument (cell.Block b) h = absurd h

  pub length-arguments : (params : List Bool) (xs : List Cell) → AreArguments params xs → length (arguments params xs) ≡ length params
  length-arguments [] xs h = refl
  length-arguments (a ∷ params) [] h = absurd h
  length-arguments (a ∷ params) (x ∷ xs) h = ap suc (length-arguments params xs h.1)

  -- a slot that a parameter has
  argument_slot : (params : List Bool) (xs : List Cell) (slot : ℕ) (y : Cell) → AreArguments params xs → slice_get (arguments params xs) slot ≡ Some y
      → (b : Bool) × ((slice_get params slot ≡ Some b) × ((b ≡ true → HasKind code births (kind.Reference None) y) × (b ≡ false → is_int y ≡ true)))
  argument_slot [] xs slot y h e = let no : None ≡ Some y = e in cc
  argument_slot (a ∷ params) [] slot y h e = absurd h
  argument_slot (a ∷ params) (x ∷ xs) (suc slot) y h e = argument_slot params xs slot y h.1 e
  argument_slot (true ∷ params) (x ∷ xs) zero y h e =
      let same : argument true x ≡ y = cc in
      (true, (refl, (λ k. subst (HasKind code births (kind.Reference None)) same (array_argument x h.0), λ k. let no : true ≡ false = k in absurd (cc))))
  argument_slot (false ∷ params) (x ∷ xs) zero y h e =
      let same : argument false x ≡ y = cc in
      (false, (refl, (λ k. let no : false ≡ true = k in absurd (cc), λ k. subst (λ z. is_int z ≡ true) same refl)))

  pub slots_of_call : (home : Home) (params : List Bool) (xs : List Cell) (slots : ℕ) → HasOneUse code → params_of code home ≡ params → AreArguments params xs
      → AreSlots code births home (first_cells (arguments params xs) slots)
  slots_of_call home params xs slots one is h slot y e =
      elim (append_cases (arguments params xs) (replicate (slots - length (arguments params xs)) no_int) slot y e) as (λ _. IsSlot code births home slot y) [
        | inl p ↦
            let a = argument_slot params xs slot y h p in
            let array : is_array code home slot ≡ a.0 = ap (λ ps. unwrap_or (slice_get ps slot) false) is ∙ ap (λ o. unwrap_or o false) a.1.0 in
            record {
              array = λ k. a.1.1.0 (sym array ∙ k);
              int = λ u. a.1.1.1 (sym array ∙ no_array code one home slot AsInt u (λ n. cc));
            }
        | inr p ↦
            let zero_there : y ≡ no_int = replicate_is (slots - length (arguments params xs)) no_int (slot - length (arguments params xs)) y p.1 in
            let past : length params ≤ slot = let l = length-arguments params xs h in omega (arith, l, p.0) in
            let free : is_array code home slot ≡ false = ap (λ ps. unwrap_or (slice_get ps slot) false) is ∙ ap (λ o. unwrap_or o false) (slice_get_past params slot past) in
            subst (IsSlot code births home slot) (sym zero_there) (int_slot code one home slot births (pos 0) free)
      ]

  -- those of a body without parameters
  pub slots_of_body : (home : Home) (slots : ℕ) → HasOneUse code → params_of code home ≡ [] → AreSlots code births home (replicate slots no_int)
  slots_of_body home slots one is slot y e =
      let zero_there : y ≡ no_int = replicate_is slots no_int slot y e in
      let free : is_array code home slot ≡ false = ap (λ ps. unwrap_or (slice_get ps slot) false) is in
      subst (IsSlot code births home slot) (sym zero_there) (int_slot code one home slot births (pos 0) free)

pub length-first_cells : (args : List Cell) (slots : ℕ) → length args ≤ slots → length (first_cells args slots) ≡ slots
length-first_cells args slots le =
    let a : length (args ++ replicate (slots - length args) no_int) ≡ length args + length (replicate (slots - length args) no_int) = length-append args (replicate (slots - length args) no_int) in
    let r : length (replicate (slots - length args) no_int) ≡ slots - length args = length-replicate (slots - length args) no_int in
    omega (arith, a, r, le)
