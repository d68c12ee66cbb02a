-- Whether a range of a file is right depends on how long an array is, and on nothing else of it.
-- For `elements_of`, which tests a range by a length alone, for reads and writes alike; the meaning tests it with the array and with what
-- asks. By the cases of a place and a length below 0 or not.
use Rattle.std.proofs.Common.{◌≡◌, ℕ, ℤ, pos, negsuc, ◌+◌, ◌≤◌, Bool, true, false, Ok, Err, refl, sym, ap, ◌∙◌, arith}
use Rattle.std.specs.Prelude.{◌&&◌, nat_le, Result, if◌then◌else◌}
use Rattle.std.proofs.lemmas.Bool.{leb-true}
use Rattle.ac_base.specs.declared.ends.Trap.{Trap}
use Rattle.ac_base.specs.declared.ends.Trap.TheVariants.{FileRange}
use Rattle.work_item.specs.declared.cell.Place.{Place}
use Rattle.cancel_scope.specs.declared.operation.Asked.{Asked}
use Rattle.cancel_scope.specs.declared.operation.Asked.TheVariants.{Read}
use Rattle.core_state.specs.Requests.{request_limit, file_limit, first_of, if_in_range}
use Rattle.interpreter_steps.specs.inner.Requests.{somewhere}

-- what asks with these elements of the array
abbrev in_array : Place → (ℕ → Place → Asked) → ℕ → Place → Asked
in_array array ask at elements = ask at (first_of array elements.len)

by_length : (array : Place) (from len : ℤ) (ask : ℕ → Place → Asked) → if_in_range array from len ask ≡ if_in_range (somewhere array.len) from len (in_array array ask)
by_length array (pos from) (pos len) ask = refl
by_length array (pos from) (negsuc len) ask = refl
by_length array (negsuc from) (pos len) ask = refl
by_length array (negsuc from) (negsuc len) ask = refl

module _ (array : Place) (from len at : ℕ) (elements : Place) where
  by_tests : (short within low : Bool) → nat_le len array.len ≡ within
      → ◌≡◌ {A = Result Asked Trap} (if short && (within && low) then Ok (Read 0 from (first_of array len)) else Err FileRange) (Ok (Read 0 at elements)) → elements.len ≤ array.len
  by_tests true true true is h =
      let same : first_of array len ≡ elements = cc in
      let e = ap (λ (p : Place). p.len) same in
      omega (arith, leb-true len array.len is, e)
  by_tests true true false is h = let no : ◌≡◌ {A = Result Asked Trap} (Err FileRange) (Ok (Read 0 at elements)) = h in cc
  by_tests true false low is h = let no : ◌≡◌ {A = Result Asked Trap} (Err FileRange) (Ok (Read 0 at elements)) = h in cc
  by_tests false within low is h = let no : ◌≡◌ {A = Result Asked Trap} (Err FileRange) (Ok (Read 0 at elements)) = h in cc

-- a right range has no more elements than the array
fits : (array : Place) (from len : ℤ) (at : ℕ) (elements : Place) → if_in_range array from len (Read 0) ≡ Ok (Read 0 at elements) → elements.len ≤ array.len
fits array (pos from) (pos len) at elements h = by_tests array from len at elements (nat_le len request_limit) (nat_le len array.len) (nat_le (from + len) file_limit) refl h
fits array (pos from) (negsuc len) at elements h = let no : ◌≡◌ {A = Result Asked Trap} (Err FileRange) (Ok (Read 0 at elements)) = h in cc
fits array (negsuc from) (pos len) at elements h = let no : ◌≡◌ {A = Result Asked Trap} (Err FileRange) (Ok (Read 0 at elements)) = h in cc
fits array (negsuc from) (negsuc len) at elements h = let no : ◌≡◌ {A = Result Asked Trap} (Err FileRange) (Ok (Read 0 at elements)) = h in cc

-- ---- a range that was told by the length of an array

module _ (array some : Place) (n : ℕ) (from len told_from told_len : ℤ) (is : some ≡ somewhere n) (as_long : n ≡ array.len) (same_from : told_from ≡ from) (same_len : told_len ≡ len) where
  same : (ask : ℕ → Place → Asked) → if_in_range array from len ask ≡ if_in_range some told_from told_len (in_array array ask)
  same ask =
      let it = in_array array ask in
      by_length array from len ask ∙ ap (λ (k : ℕ). if_in_range (somewhere k) from len it) (sym as_long) ∙ ap (λ (p : Place). if_in_range p from len it) (sym is)
      ∙ ap (λ (x : ℤ). if_in_range some x len it) (sym same_from) ∙ ap (λ (x : ℤ). if_in_range some told_from x it) (sym same_len)

  pub wrong : (trap : Trap) → ((ask : ℕ → Place → Asked) → if_in_range some told_from told_len ask ≡ Err trap) → (ask : ℕ → Place → Asked) → if_in_range array from len ask ≡ Err trap
  wrong trap known ask = same ask ∙ known (in_array array ask)

  module _ (at : ℕ) (elements : Place) (known : (ask : ℕ → Place → Asked) → if_in_range some told_from told_len ask ≡ Ok (ask at elements)) where
    pub no_longer : elements.len ≤ array.len
    no_longer =
        let le = fits some told_from told_len at elements (known (Read 0)) in
        let e = ap (λ (p : Place). p.len) is in
        omega (arith, le, e, as_long)

    pub right : (span : Place) → span ≡ first_of array elements.len → (ask : ℕ → Place → Asked) → if_in_range array from len ask ≡ Ok (ask at span)
    right span e ask = same ask ∙ known (in_array array ask) ∙ ap (λ (p : Place). Ok (ask at p)) (sym e)
