-- How many values live.
-- Each slot that tells a key is that of one number, whose value stands there; so the items that are there are as many as such slots. By
-- recursion over the slots: the first one's number stands in no other, so it adds its own item and no more.
use Rattle.std.proofs.Common.{◌≡◌, ℕ, zero, suc, ◌+◌, ◌-◌, ◌^◌, ◌<◌, List, [], ◌∷◌, take, Option, Some, None, IsSome, is_some, Bool, true, false, cond, if◌then◌else◌}
use Rattle.std.proofs.Common.{ap, ◌∙◌, refl, arith, get_or, set, count_by}
use Rattle.std.proofs.lemmas.List.Sums.{count_by-le-length, sum_by-cons, sum_by_push, sum_by-set}
use Rattle.slab.specs.Slab.{Slab, get}
use Rattle.birth_table.specs.declared.index.Slot.{Slot}
use Rattle.birth_table.specs.declared.leaving.Ends.{Ends}
use Rattle.birth_table.specs.Keys.{lives, key_of, Rises}
use Rattle.birth_table.specs.Kept.{in_slab, value_at, items_of, HaveKeys, IsKept}
use Rattle.birth_table.proofs.Rising.{rises_long, rises_at, is_of_other, is_of_same, no_key}
use Rattle.birth_table.proofs.Keys.{count, one, one_gone, one_lives, is_of_gone}
use Rattle.birth_table.proofs.Counts.{under, once_same, under_cons, under_take, below_gone}
use Rattle.birth_table.proofs.Items.{items_long, item_of, same_items, items_set}

-- no slot has a number below the first
none_below : (number : ℕ) (slots : List Slot) (high : ℕ) → Rises (suc number) slots high → key_of slots number ≡ None
none_below number slots high r = no_key slots number (λ i s e same. absurd (omega (arith, (rises_at (suc number) slots high r i s e).0, same)))

module _ {T : Type 0} where
  -- what an item adds
  abbrev there : Option T → ℕ
  there o = cond (is_some o) 1 0

  abbrev many : List (Option T) → ℕ
  many items = count_by is_some items

  there_some : (o : Option T) → IsSome o → there o ≡ 1
  there_some o h = ap (λ (b : Bool). cond b 1 0) h

  none_there : (at : ℕ → Option T) → ((n : ℕ) → at n ≡ None) → (births : ℕ) → many (items_of at births) ≡ 0
  none_there at none zero = refl
  none_there at none (suc b) = omega (arith, none_there at none b, sum_by_push there (items_of at b) (at b), ap there (none b))

  -- each key that is told has a value
  abbrev HaveValues : List Slot → Slab T → Type 0
  HaveValues slots entries = (s : Slot) → lives s ≡ true → 0 < under s.key slots → IsSome (get entries s.key)

  -- a slot that tells a key adds one, and another none
  module _ (s : Slot) (rest : List Slot) (entries : Slab T) (births : ℕ) where
    abbrev before : List (Option T)
    before = items_of (value_at rest entries) births

    abbrev after : List (Option T)
    after = items_of (value_at (s ∷ rest) entries) births

    far : (n : ℕ) → (s.number ≡ n → ⊥) → value_at (s ∷ rest) entries n ≡ value_at rest entries n
    far n ne = ap (λ (b : Bool). in_slab entries (if b then Some s.key else key_of rest n)) (is_of_other n s ne)

    gone_adds_none : lives s ≡ false → many after ≡ many before
    gone_adds_none gone =
        ap many (same_items (value_at rest entries) (value_at (s ∷ rest) entries) births
        (λ n lt. ap (λ (b : Bool). in_slab entries (if b then Some s.key else key_of rest n)) (is_of_gone n s gone)))

    module _ (is : lives s ≡ true) (below : s.number < births) (none : key_of rest s.number ≡ None) (value : IsSome (get entries s.key)) where
      here : value_at (s ∷ rest) entries s.number ≡ get entries s.key
      here = ap (λ (b : Bool). in_slab entries (if b then Some s.key else key_of rest s.number)) (is_of_same s.number s refl ∙ is)

      set_there : after ≡ set before s.number (get entries s.key)
      set_there = items_set (value_at rest entries) (value_at (s ∷ rest) entries) births s.number (get entries s.key) below here far

      was_none : get_or before s.number None ≡ None
      was_none = item_of (value_at rest entries) births s.number below ∙ ap (in_slab entries) none

      adds_one : many after ≡ many before + 1
      adds_one =
          let added = sum_by-set there before s.number (get entries s.key) None (omega (arith, below, items_long (value_at rest entries) births)) in
          let nothing : there (get_or before s.number None) ≡ 0 = ap there was_none in
          omega (arith, added, nothing, there_some (get entries s.key) value, ap many set_there)

  -- as many items are there as slots that tell a key
  pub count_items : (slots : List Slot) (entries : Slab T) (low births : ℕ) → Rises low slots births → HaveValues slots entries
      → many (items_of (value_at slots entries) births) ≡ count slots
  count_items [] entries low births r has = none_there (value_at [] entries) (λ n. refl) births
  count_items (s ∷ rest) entries low births r has = go (λ fewer. count_items rest entries (suc s.number) births r.1 fewer) (lives s) refl
    where
      fewer : HaveValues rest entries
      fewer t is told = has t is (omega (arith, told, under_cons t.key s rest))

      go : (HaveValues rest entries → many (items_of (value_at rest entries) births) ≡ count rest) → (b : Bool) → lives s ≡ b
          → many (items_of (value_at (s ∷ rest) entries) births) ≡ count (s ∷ rest)
      go others false q = omega (arith, gone_adds_none s rest entries births q, others fewer, sum_by-cons one s rest, one_gone s q)
      go others true q =
          let below : s.number < births = omega (arith, rises_long (suc s.number) rest births r.1) in
          let value = has s q (omega (arith, under_cons s.key s rest, once_same s.key s refl)) in
          let more = adds_one s rest entries births q below (none_below s.number rest births r.1) value in
          omega (arith, more, others fewer, sum_by-cons one s rest, one_lives s q)

  some_if : (o : Option T) → 0 < (if is_some o then 1 else 0) → IsSome o
  some_if (Some x) h = refl
  some_if None h = absurd (omega arith)

  -- the keys of a table have values, those of its numbers among them
  have_values : (slots : List Slot) (entries : Slab T) (top : ℕ) → HaveKeys slots entries → HaveValues (take top slots) entries
  have_values slots entries top keys s is told =
      some_if (get entries s.key) (omega (arith, told, under_take s.key slots top, keys.once s.key (below_gone s is)))

  pub many_live : (slots : List Slot) (ends : Ends) (recent : Slot) (capacity : ℕ) (entries : Slab T) (births spare : ℕ)
      → IsKept slots ends recent capacity entries births spare → ends.top - ends.gone ≡ many (items_of (value_at (take ends.top slots) entries) births)
  many_live slots ends recent capacity entries births spare kept =
      let same = count_items (take ends.top slots) entries 0 births kept.rise (have_values slots entries ends.top kept.keys) in
      omega (arith, same, kept.ends_are.gaps)

  -- no more than were born, and so many more may be
  pub few_live : (slots : List Slot) (ends : Ends) (recent : Slot) (capacity : ℕ) (entries : Slab T) (births spare : ℕ)
      → IsKept slots ends recent capacity entries births spare → (ends.top - ends.gone) + spare < 2 ^ 64
  few_live slots ends recent capacity entries births spare kept =
      let at = value_at (take ends.top slots) entries in
      let same = many_live slots ends recent capacity entries births spare kept in
      let most = count_by-le-length is_some (items_of at births) in
      omega (arith, same, most, items_long at births, kept.few)
