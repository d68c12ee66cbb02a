-- How many ints a message of each channel has. What is said first of a channel counts; so a list that begins with ones and is written
-- from what is said last to what is said first has each channel's number. Each law is by recursion on the channels from a number on.
use Rattle.std.proofs.Common.{◌≡◌, ℕ, zero, suc, ◌+◌, ◌<◌, ◌≤◌, Bool, true, false, List, [], ◌∷◌, length, drop, slice_get, Option, None, Some, refl, sym, ap, ◌∙◌, arith, replicate}
use Rattle.std.specs.Prelude.{nat_eq, nat_le, if◌then◌else◌, slice_set, slice_index_or}
use Rattle.std.proofs.lemmas.Bool.Decides.{nat_tests}
use Rattle.std.proofs.lemmas.List.{set_past}
use Rattle.std.proofs.lemmas.Option.{slice_get-get_or}
use Rattle.ac_tree.specs.declared.item.Item.{Item}
use Rattle.ac_tree.specs.declared.item.Item.TheVariants as i
use Rattle.ac_tree.specs.declared.item.Program.{Program}
use Rattle.ac_names.specs.Scopes.{Declaration}
use Rattle.ac_names.specs.Kinds.{both}
use Rattle.ac_names.specs.Numbered.{capacities}
use Rattle.ac_types.specs.declared.carried.Carried.{Carried}
use Rattle.ac_types.specs.Widths.{ints_of, count_or_one, width_in, widths_in}
use Rattle.ac_types.specs.Items.{all_ends, all_carried, channel_width, all_widths}

-- ---- a message has 1 to 16 ints

pub record IsWidth (n : ℕ) : Type 0 where
  pub some : 1 ≤ n
  pub few : n ≤ 16

one_is : IsWidth 1
one_is = record { some = omega arith; few = omega arith }

counted : (o : Option ℕ) → IsWidth (count_or_one (ints_of o))
counted None = one_is
counted (Some len) = by (nat_le 1 len) (nat_le len 16) refl refl where
  by : (a b : Bool) → nat_le 1 len ≡ a → nat_le len 16 ≡ b → IsWidth (count_or_one (if both a b then Some len else None))
  by true true e f = record { some = grind (arith, nat_tests, e); few = grind (arith, nat_tests, f) }
  by true false e f = one_is
  by false b e f = one_is

either_width : (b : Bool) (x y : ℕ) → IsWidth x → IsWidth y → IsWidth (if b then x else y)
either_width true x y h k = h
either_width false x y h k = k

pub is_width : (cs : List Carried) (channel : ℕ) → IsWidth (width_in cs channel)
is_width [] channel = one_is
is_width (c ∷ cs) channel = either_width (nat_eq c.channel channel) _ _ (counted c.len) (is_width cs channel)

-- ---- a list of them

pub width_at : (cs : List Carried) (from count k : ℕ) → k < count → slice_get (widths_in cs from count) k ≡ Some (width_in cs (from + k))
width_at cs from zero k lt = absurd (omega (arith, lt))
width_at cs from (suc count) zero lt = let e : from ≡ from + zero = omega arith in ap (λ n. Some (width_in cs n)) e
width_at cs from (suc count) (suc k) lt =
    let e : (from + 1) + k ≡ from + suc k = omega arith in
    width_at cs (from + 1) count k (omega (arith, lt)) ∙ ap (λ n. Some (width_in cs n)) e

pub widths_count : (cs : List Carried) (from count : ℕ) → length (widths_in cs from count) ≡ count
widths_count cs from zero = refl
widths_count cs from (suc count) = ap suc (widths_count cs (from + 1) count)

pub all_ones : (from count : ℕ) → replicate count 1 ≡ widths_in [] from count
all_ones from zero = refl
all_ones from (suc count) = ap (λ (ws : List ℕ). 1 ∷ ws) (all_ones (from + 1) count)

module _ (c : Carried) (cs : List Carried) where
  said_of : (k : ℕ) → c.channel ≡ k → width_in (c ∷ cs) k ≡ count_or_one (ints_of c.len)
  said_of k e = by (nat_eq c.channel k) refl where
    by : (b : Bool) → nat_eq c.channel k ≡ b → (if b then count_or_one (ints_of c.len) else width_in cs k) ≡ count_or_one (ints_of c.len)
    by true f = refl
    by false f = absurd (grind (arith, nat_tests, e, f))

  said_of_another : (k : ℕ) → (c.channel ≡ k → ⊥) → width_in (c ∷ cs) k ≡ width_in cs k
  said_of_another k n = by (nat_eq c.channel k) refl where
    by : (b : Bool) → nat_eq c.channel k ≡ b → (if b then count_or_one (ints_of c.len) else width_in cs k) ≡ width_in cs k
    by true f = absurd (n (grind (arith, nat_tests, f)))
    by false f = refl

  -- what is said of a channel before these
  of_one_before : (from count : ℕ) → c.channel < from → widths_in (c ∷ cs) from count ≡ widths_in cs from count
  of_one_before from zero lt = refl
  of_one_before from (suc count) lt =
      ap (λ x. x ∷ widths_in (c ∷ cs) (from + 1) count) (said_of_another from (λ e. omega (arith, lt, e)))
      ∙ ap (λ xs. width_in cs from ∷ xs) (of_one_before (from + 1) count (omega (arith, lt)))

  written_at : (from count at : ℕ) → c.channel ≡ from + at → slice_set (widths_in cs from count) at (count_or_one (ints_of c.len)) ≡ widths_in (c ∷ cs) from count
  written_at from zero at e = refl
  written_at from (suc count) zero e =
      ap (λ x. x ∷ widths_in cs (from + 1) count) (sym (said_of from (omega (arith, e))))
      ∙ ap (λ xs. width_in (c ∷ cs) from ∷ xs) (sym (of_one_before (from + 1) count (omega (arith, e))))
  written_at from (suc count) (suc at) e =
      ap (λ x. x ∷ slice_set (widths_in cs (from + 1) count) at (count_or_one (ints_of c.len))) (sym (said_of_another from (λ f. omega (arith, e, f))))
      ∙ ap (λ xs. width_in (c ∷ cs) from ∷ xs) (written_at (from + 1) count at (omega (arith, e)))

  pub written : (count : ℕ) → slice_set (widths_in cs 0 count) c.channel (count_or_one (ints_of c.len)) ≡ widths_in (c ∷ cs) 0 count
  written count = written_at 0 count c.channel (omega arith)

-- from the end of what is said, one more
pub one_more : (all : List Carried) (left place count : ℕ) (d : Carried) (before after : List ℕ) → place ≡ suc left → left < length all → before ≡ widths_in (drop place all) 0 count
    → after ≡ slice_set before (slice_index_or all left d).channel (count_or_one (ints_of (slice_index_or all left d).len)) → after ≡ widths_in (drop left all) 0 count
one_more all left place count d before after e lt b a =
    let c = slice_index_or all left d in
    a ∙ ap (λ ws. slice_set ws c.channel (count_or_one (ints_of c.len))) (b ∙ ap (λ k. widths_in (drop k all) 0 count) e)
    ∙ written c (drop (suc left) all) count ∙ ap (λ cs. widths_in cs 0 count) (sym (from_there all left c (slice_get-get_or all left d lt))) where
      from_there : (xs : List Carried) (k : ℕ) (x : Carried) → slice_get xs k ≡ Some x → drop k xs ≡ x ∷ drop (suc k) xs
      from_there [] k x h = cc
      from_there (y ∷ xs) zero x h = cc
      from_there (y ∷ xs) (suc k) x h = from_there xs k x h

-- what is said of a channel that is not there changes nothing
pub past_the_end : (widths : List ℕ) (channel width : ℕ) → length widths ≤ channel → slice_set widths channel width ≡ widths
past_the_end widths channel width le = set_past widths channel width le

-- ---- of a program

pub as_many_ends : (scopes : List (List Declaration)) (items : List Item) → length (all_ends scopes items) ≡ length (capacities items)
as_many_ends scopes [] = refl
as_many_ends scopes (i.Channel at name from to cap ∷ items) = ap (λ (n : ℕ). suc n) (as_many_ends scopes items)
as_many_ends scopes (_ ∷ items) = as_many_ends scopes items

module _ (p q : Program) (widths : List ℕ) (link place : ℕ) (same : p ≡ q) (are : widths ≡ all_widths p.items) (e : place ≡ link) where
  of_q : widths ≡ all_widths q.items
  of_q = are ∙ ap (λ (x : Program). all_widths x.items) same

  pub width_there : link < length (capacities q.items) → place < length widths
  width_there lt =
      let l : length widths ≡ length (capacities q.items) = ap length of_q ∙ widths_count (all_carried q.items) 0 (length (capacities q.items)) in
      omega (arith, l, lt, e)

  pub width_is : (width : ℕ) → link < length (capacities q.items) → slice_get widths place ≡ Some width → width ≡ channel_width q.items link
  width_is width lt h =
      one_value (sym h ∙ ap (slice_get widths) e ∙ ap (λ ws. slice_get ws link) of_q ∙ width_at (all_carried q.items) 0 (length (capacities q.items)) link lt)
      ∙ ap (width_in (all_carried q.items)) (from_first link) where
        one_value : {x y : ℕ} → Some x ≡ Some y → x ≡ y
        one_value h = cc

        from_first : (n : ℕ) → 0 + n ≡ n
        from_first n = omega arith
