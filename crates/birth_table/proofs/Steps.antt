-- What each step does to the values as they are kept.
-- No key is told twice (`HaveKeys`), so no two numbers have one key, and none has that of the value that was left. A value that is added, left
-- or written stands under its own key alone, so all others stand as before.
use Rattle.std.proofs.Common.{◌≡◌, ◌≢◌, ℕ, ◌+◌, ◌<◌, ◌≤◌, List, [], ◌∷◌, ◌++◌, length, take, Option, Some, None, IsSome, is_some, Bool, true, false, nat_eq, nat_lt, cond, if◌then◌else◌}
use Rattle.std.proofs.Common.{sym, ap, ◌∙◌, refl, subst, arith, get_or, set, add-one}
use Rattle.std.proofs.lemmas.Bool.Decides.{nat_tests}
use Rattle.std.proofs.lemmas.List.{get_or_past}
use Rattle.std.proofs.lemmas.List.Sums.{sum_by-set}
use Rattle.slab.specs.Slab.{Slab, get, ContainsKey, slab_len, with_value, Updates}
use Rattle.slab.proofs.SlabLemmas.{ContainsKey-within, Updates-with_value}
use Rattle.birth_table.specs.declared.index.Slot.{Slot}
use Rattle.birth_table.specs.Keys.{lives, told, slot_at, key_of, Rises}
use Rattle.birth_table.specs.inner.Slots.{IsWithout, AreFewer, Shrinks}
use Rattle.birth_table.specs.Kept.{in_slab, value_at, items_of, left_at, HaveKeys}
use Rattle.birth_table.proofs.Rising.{is_of_other, is_of_same}
use Rattle.birth_table.proofs.Keys.{count, one_lives, count_push, unborn, key_push, key_push_other}
use Rattle.birth_table.proofs.Counts.{under, there, once, once_same, once_other, under_push, under_take, under_here, under_of, under_two, below_gone, told_lives, told_gone}
use Rattle.birth_table.proofs.Items.{none_is_gone, item_past, item_of, same_items, items_set}

module _ {T : Type 0} where
  -- the key of a number at which something stands
  pub has_key : (slots : List Slot) (entries : Slab T) (number : ℕ) → IsSome (value_at slots entries number) → (key : ℕ) × (key_of slots number ≡ Some key)
  has_key slots entries number h = go (key_of slots number) refl h
    where
      go : (o : Option ℕ) → key_of slots number ≡ o → IsSome (in_slab entries o) → (key : ℕ) × (key_of slots number ≡ Some key)
      go (Some key) e h = (key, e)
      go None e h = absurd (none_is_gone h)

  -- what stands at a number, whether it was given or not
  pub item_is : (slots : List Slot) (entries : Slab T) (births number : ℕ) → Rises 0 slots births
      → get_or (items_of (value_at slots entries) births) number None ≡ value_at slots entries number
  item_is slots entries births number r = go (nat_lt number births) refl
    where
      go : (test : Bool) → nat_lt number births ≡ test → get_or (items_of (value_at slots entries) births) number None ≡ value_at slots entries number
      go true q = item_of (value_at slots entries) births number (grind (arith, nat_tests))
      go false q =
          let le : births ≤ number = grind (arith, nat_tests) in
          item_past (value_at slots entries) births number le ∙ sym (ap (in_slab entries) (unborn slots births number r le))

  -- a number under another key keeps what stands there
  value_far : (slots now : List Slot) (entries after : Slab T) (key number : ℕ) → key_of now number ≡ key_of slots number → (key_of slots number ≡ Some key → ⊥)
      → ((other : ℕ) → other ≢ key → get after other ≡ get entries other) → value_at now after number ≡ value_at slots entries number
  value_far slots now entries after key number same apart others = ap (in_slab after) same ∙ go (key_of slots number) refl
    where
      go : (o : Option ℕ) → key_of slots number ≡ o → in_slab after o ≡ in_slab entries o
      go None e = refl
      go (Some k) e = others k (λ q. apart (e ∙ ap Some q))

  -- ---- keys that are told once

  abbrev one_if : Option T → ℕ
  one_if o = if is_some o then 1 else 0

  at_most_one : (o : Option T) → one_if o ≤ 1
  at_most_one (Some x) = omega arith
  at_most_one None = omega arith

  some_if : (o : Option T) → 0 < one_if o → IsSome o
  some_if (Some x) h = refl
  some_if None h = absurd (omega arith)

  one_of : (o : Option T) → IsSome o → one_if o ≡ 1
  one_of (Some x) h = refl
  one_of None h = absurd (none_is_gone h)

  none_of : (o : Option T) → o ≡ None → one_if o ≡ 0
  none_of o e = ap one_if e

  pub taken : (slots : List Slot) (entries : Slab T) (top number key : ℕ) → HaveKeys slots entries → key_of (take top slots) number ≡ Some key
      → (key < 18446744073709551615) × ContainsKey entries key
  taken slots entries top number key h e =
      let u = under_of (take top slots) number key e in
      (u.0, some_if (get entries key) (omega (arith, u.1, under_take key slots top, h.once key u.0)))

  pub apart : (slots : List Slot) (entries : Slab T) (top n m key : ℕ) → HaveKeys slots entries → key_of (take top slots) n ≡ Some key
      → key_of (take top slots) m ≡ Some key → n ≡ m
  apart slots entries top n m key h e f = go (nat_eq n m) refl
    where
      go : (b : Bool) → nat_eq n m ≡ b → n ≡ m
      go true q = grind (arith, nat_tests)
      go false q =
          let two = under_two (take top slots) n m key e f (λ (w : n ≡ m). grind (arith, nat_tests)) in
          let small = (under_of (take top slots) n key e).0 in
          absurd (omega (arith, two, under_take key slots top, h.once key small, at_most_one (get entries key)))

  -- no number has the key of a slot that is none of theirs
  pub left_apart : (slots : List Slot) (entries : Slab T) (top n key : ℕ) → HaveKeys slots entries → lives (slot_at slots top) ≡ true
      → (slot_at slots top).key ≡ key → key_of (take top slots) n ≡ Some key → ⊥
  left_apart slots entries top n key h live is e =
      let u = under_of (take top slots) n key e in
      omega (arith, u.1, under_here key slots top (there slots top live), once_same key (slot_at slots top) is, h.once key u.0, at_most_one (get entries key))

  pub stands : (slots : List Slot) (entries : Slab T) (place : ℕ) → HaveKeys slots entries → lives (slot_at slots place) ≡ true → ContainsKey entries (slot_at slots place).key
  stands slots entries place h live =
      let s = slot_at slots place in
      some_if (get entries s.key)
      (omega (arith, under_here s.key slots place (there slots place live), once_same s.key s refl, h.once s.key (below_gone s live)))

  -- what stands under a key that may be that of no value
  pub under_key : (slots : List Slot) (entries : Slab T) (number key : ℕ) → length entries.slots ≤ 18446744073709551615
      → key_of slots number ≡ told (record { number = number; key = key }) → get entries key ≡ value_at slots entries number
  under_key slots entries number key small e = go (nat_lt key 18446744073709551615) refl
    where
      go : (b : Bool) → nat_lt key 18446744073709551615 ≡ b → get entries key ≡ value_at slots entries number
      go true q = sym (ap (in_slab entries) (e ∙ told_lives (record { number = number; key = key }) q))
      go false q =
          let past : 18446744073709551615 ≤ key = grind (arith, nat_tests) in
          get_or_past entries.slots key None (omega (arith, past, small)) ∙ sym (ap (in_slab entries) (e ∙ told_gone (record { number = number; key = key }) q))

  -- no key is told where none is left
  pub none_left : (slots : List Slot) (entries : Slab T) (top : ℕ) → HaveKeys slots entries → left_at slots entries top ≡ None → lives (slot_at slots top) ≡ false
  none_left slots entries top h none = go (lives (slot_at slots top)) refl
    where
      go : (b : Bool) → lives (slot_at slots top) ≡ b → lives (slot_at slots top) ≡ false
      go false q = q
      go true q =
          let is : get entries (slot_at slots top).key ≡ None = sym (ap (in_slab entries) (told_lives (slot_at slots top) q)) ∙ none in
          absurd (none_is_gone (subst (λ (o : Option T). IsSome o) is (stands slots entries top h q)))

  pub some_left : (slots : List Slot) (entries : Slab T) (top : ℕ) → IsSome (left_at slots entries top) → lives (slot_at slots top) ≡ true
  some_left slots entries top some = go (lives (slot_at slots top)) refl
    where
      go : (b : Bool) → lives (slot_at slots top) ≡ b → lives (slot_at slots top) ≡ true
      go true q = q
      go false q = absurd (none_is_gone (subst (λ (o : Option T). IsSome o) (ap (in_slab entries) (told_gone (slot_at slots top) q)) some))

  -- no number has a key at which nothing stands
  pub is_free : (slots : List Slot) (entries : Slab T) (top n key : ℕ) → HaveKeys slots entries → get entries key ≡ None → key_of (take top slots) n ≡ Some key → ⊥
  is_free slots entries top n key h none e = none_is_gone (subst (λ (o : Option T). IsSome o) none (taken slots entries top n key h e).1)

  -- ---- what becomes of the keys

  pub keys_fewer : (slots now : List Slot) (entries : Slab T) → HaveKeys slots entries → AreFewer slots now → HaveKeys now entries
  keys_fewer slots now entries h f = record {
    once = λ key lt. omega (arith, f.fewer key, h.once key lt);
    count = f.count ∙ h.count;
  }

  pub shrinks_fewer : (slots now : List Slot) (entries : Slab T) → AreFewer slots now → Shrinks slots entries now entries
  shrinks_fewer slots now entries f = record {
    values = λ key lt some. refl;
    fewer = λ key lt. f.fewer key;
    len = omega arith;
    capacity = refl;
  }

  pub shrinks_then : (slots now last : List Slot) (entries after final : Slab T) → Shrinks slots entries now after → Shrinks now after last final → Shrinks slots entries last final
  shrinks_then slots now last entries after final h k = record {
    values = λ key lt some. k.values key lt some ∙ h.values key lt (omega (arith, some, k.fewer key lt));
    fewer = λ key lt. omega (arith, h.fewer key lt, k.fewer key lt);
    len = omega (arith, h.len, k.len);
    capacity = k.capacity ∙ h.capacity;
  }

  -- a value is added
  pub keys_added : (slots now : List Slot) (entries after : Slab T) (t : Slot) (value : T) → HaveKeys slots entries
      → ((key : ℕ) → key < 18446744073709551615 → under key now ≡ under key slots + once key t) → count now ≡ count slots + 1 → get entries t.key ≡ None
      → Updates entries after t.key (Some value) → slab_len after ≡ slab_len entries + 1 → HaveKeys now after
  keys_added slots now entries after t value h more many none u len = record {
    once = λ key lt. go key lt (nat_eq t.key key) refl;
    count = omega (arith, many, h.count, len);
  }
    where
      go : (key : ℕ) → key < 18446744073709551615 → (b : Bool) → nat_eq t.key key ≡ b → under key now ≤ one_if (get after key)
      go key lt true q =
          let same : t.key ≡ key = grind (arith, nat_tests) in
          let was = none_of (get entries key) (ap (get entries) (sym same) ∙ none) in
          let is : one_if (get after key) ≡ 1 = ap (λ k. one_if (get after k)) (sym same) ∙ ap one_if u.changed in
          omega (arith, more key lt, once_same key t same, h.once key lt, was, is)
      go key lt false q =
          let other : key ≢ t.key = λ e. grind (arith, nat_tests) in
          let same : one_if (get after key) ≡ one_if (get entries key) = ap one_if (u.others key other) in
          omega (arith, more key lt, once_other key t (λ e. other (sym e)), h.once key lt, same)

  -- a value is taken out
  module _ (slots now : List Slot) (entries after : Slab T) (s : Slot) (h : HaveKeys slots entries) (live : lives s ≡ true)
      (less : (key : ℕ) → key < 18446744073709551615 → under key now + once key s ≡ under key slots) (u : Updates entries after s.key None) where
    pub keys_removed : count now + 1 ≡ count slots → slab_len after + 1 ≡ slab_len entries → HaveKeys now after
    keys_removed many len = record {
      once = λ key lt. go key lt (nat_eq s.key key) refl;
      count = omega (arith, many, h.count, len);
    }
      where
        go : (key : ℕ) → key < 18446744073709551615 → (b : Bool) → nat_eq s.key key ≡ b → under key now ≤ one_if (get after key)
        go key lt true q =
            let same : s.key ≡ key = grind (arith, nat_tests) in
            omega (arith, less key lt, once_same key s same, h.once key lt, at_most_one (get entries key))
        go key lt false q =
            let other : key ≢ s.key = λ e. grind (arith, nat_tests) in
            let same : one_if (get after key) ≡ one_if (get entries key) = ap one_if (u.others key other) in
            omega (arith, less key lt, h.once key lt, same)

    pub shrinks_removed : slab_len after + 1 ≡ slab_len entries → after.capacity ≡ entries.capacity → Shrinks slots entries now after
    shrinks_removed len cap = record {
      values = λ key lt some. go key lt some (nat_eq s.key key) refl;
      fewer = λ key lt. omega (arith, less key lt);
      len = omega (arith, len);
      capacity = cap;
    }
      where
        go : (key : ℕ) → key < 18446744073709551615 → 0 < under key now → (b : Bool) → nat_eq s.key key ≡ b → get after key ≡ get entries key
        go key lt some true q =
            let same : s.key ≡ key = grind (arith, nat_tests) in
            absurd (omega (arith, some, less key lt, once_same key s same, h.once key lt, at_most_one (get entries key)))
        go key lt some false q = u.others key (λ e. grind (arith, nat_tests))

  -- a value is written
  pub lent_len : (entries : Slab T) (key : ℕ) (value : T) → ContainsKey entries key → slab_len (with_value entries key value) ≡ slab_len entries
  lent_len entries key value has =
      let a : ◌≡◌ {A = ℕ} (cond (is_some (get_or entries.slots key None)) 1 0) 1 = one_of (get entries key) has in
      omega (arith, sum_by-set (λ o. cond (is_some o) 1 0) entries.slots key (Some value) None (ContainsKey-within entries key has), a)

  pub keys_written : (slots : List Slot) (entries : Slab T) (key : ℕ) (value : T) → HaveKeys slots entries → ContainsKey entries key → HaveKeys slots (with_value entries key value)
  keys_written slots entries key value h has = record {
    once = λ k lt. go k lt (nat_eq key k) refl;
    count = h.count ∙ sym (lent_len entries key value has);
  }
    where
      u : Updates entries (with_value entries key value) key (Some value)
      u = Updates-with_value entries key value has

      go : (k : ℕ) → k < 18446744073709551615 → (b : Bool) → nat_eq key k ≡ b → under k slots ≤ one_if (get (with_value entries key value) k)
      go k lt true q =
          let same : key ≡ k = grind (arith, nat_tests) in
          let is : one_if (get (with_value entries key value) k) ≡ 1 = ap (λ i. one_if (get (with_value entries key value) i)) (sym same) ∙ ap one_if u.changed in
          omega (arith, h.once k lt, at_most_one (get entries k), is)
      go k lt false q =
          let same : one_if (get (with_value entries key value) k) ≡ one_if (get entries k) = ap one_if (u.others k (λ e. grind (arith, nat_tests))) in
          omega (arith, h.once k lt, same)

  -- ---- what becomes of the items

  -- a value is added, under a key that no number has
  pub items_more : (xs : List Slot) (entries after : Slab T) (births key : ℕ) (o : Option T) → Rises 0 xs births → key < 18446744073709551615
      → ((n : ℕ) → key_of xs n ≡ Some key → ⊥) → get after key ≡ o → ((other : ℕ) → other ≢ key → get after other ≡ get entries other)
      → items_of (value_at (xs ++ record { number = births; key = key } ∷ []) after) (births + 1) ≡ items_of (value_at xs entries) births ++ o ∷ []
  items_more xs entries after births key o rise below free here others =
      next ∙ ap (λ (ys : List (Option T)). ys ++ at births ∷ []) before ∙ ap (λ (p : Option T). items_of (value_at xs entries) births ++ p ∷ []) last
    where
      born : Slot
      born = record { number = births; key = key }

      at : ℕ → Option T
      at = value_at (xs ++ record { number = births; key = key } ∷ []) after

      live : lives (record { number = births; key = key }) ≡ true
      live = let q : nat_lt key 18446744073709551615 ≡ true = grind (arith, nat_tests) in q

      told_here : key_of (xs ++ record { number = births; key = key } ∷ []) births ≡ Some key
      told_here = key_push xs (record { number = births; key = key }) (unborn xs births births rise (omega arith))
          (is_of_same births (record { number = births; key = key }) refl ∙ live)

      far : (n : ℕ) → n < births → key_of (xs ++ record { number = births; key = key } ∷ []) n ≡ key_of xs n
      far n lt = key_push_other xs (record { number = births; key = key }) n (is_of_other n (record { number = births; key = key }) (λ e. omega arith))

      next : items_of (value_at (xs ++ record { number = births; key = key } ∷ []) after) (births + 1)
          ≡ items_of (value_at (xs ++ record { number = births; key = key } ∷ []) after) births
          ++ value_at (xs ++ record { number = births; key = key } ∷ []) after births ∷ []
      next = rw add-one

      last : value_at (xs ++ record { number = births; key = key } ∷ []) after births ≡ o
      last = ap (in_slab after) told_here ∙ here

      before : items_of (value_at (xs ++ record { number = births; key = key } ∷ []) after) births ≡ items_of (value_at xs entries) births
      before = same_items (value_at xs entries) (value_at (xs ++ record { number = births; key = key } ∷ []) after) births
          (λ n lt. value_far xs (xs ++ record { number = births; key = key } ∷ []) entries after key n (far n lt) (free n) others)

  -- the value of a number is written
  pub items_written : (slots : List Slot) (entries : Slab T) (top births key number : ℕ) (value : T) → HaveKeys slots entries
      → key_of (take top slots) number ≡ Some key → number < births
      → items_of (value_at (take top slots) (with_value entries key value)) births ≡ set (items_of (value_at (take top slots) entries) births) number (Some value)
  items_written slots entries top births key number value h is lt =
      let u = Updates-with_value entries key value (taken slots entries top number key h is).1 in
      items_set (value_at (take top slots) entries) (value_at (take top slots) (with_value entries key value)) births number (Some value) lt
      (ap (in_slab (with_value entries key value)) is ∙ u.changed)
      (λ n ne. value_far (take top slots) (take top slots) entries (with_value entries key value) key n refl (λ e. ne (apart slots entries top number n key h is e)) u.others)

  pub left_far : (slots : List Slot) (entries : Slab T) (top number key : ℕ) (value : T) → HaveKeys slots entries
      → key_of (take top slots) number ≡ Some key → left_at slots (with_value entries key value) top ≡ left_at slots entries top
  left_far slots entries top number key value h is = go (lives (slot_at slots top)) refl
    where
      go : (b : Bool) → lives (slot_at slots top) ≡ b → left_at slots (with_value entries key value) top ≡ left_at slots entries top
      go true q =
          let u = Updates-with_value entries key value (taken slots entries top number key h is).1 in
          ap (in_slab (with_value entries key value)) (told_lives (slot_at slots top) q)
          ∙ u.others (slot_at slots top).key (λ e. left_apart slots entries top number key h q e is)
          ∙ sym (ap (in_slab entries) (told_lives (slot_at slots top) q))
      go false q =
          ap (in_slab (with_value entries key value)) (told_gone (slot_at slots top) q) ∙ sym (ap (in_slab entries) (told_gone (slot_at slots top) q))

  -- the value that was left is written
  pub items_left : (slots : List Slot) (entries : Slab T) (top births : ℕ) (value : T) → HaveKeys slots entries → lives (slot_at slots top) ≡ true
      → items_of (value_at (take top slots) (with_value entries (slot_at slots top).key value)) births ≡ items_of (value_at (take top slots) entries) births
  items_left slots entries top births value h live =
      let key = (slot_at slots top).key in
      let u = Updates-with_value entries key value (stands slots entries top h live) in
      same_items (value_at (take top slots) entries) (value_at (take top slots) (with_value entries key value)) births
      (λ n lt. value_far (take top slots) (take top slots) entries (with_value entries key value) key n refl (left_apart slots entries top n key h live refl) u.others)

  pub left_written : (slots : List Slot) (entries : Slab T) (top : ℕ) (value : T) → HaveKeys slots entries → lives (slot_at slots top) ≡ true
      → left_at slots (with_value entries (slot_at slots top).key value) top ≡ Some value
  left_written slots entries top value h live =
      let key = (slot_at slots top).key in
      ap (in_slab (with_value entries key value)) (told_lives (slot_at slots top) live)
      ∙ (Updates-with_value entries key value (stands slots entries top h live)).changed

  -- the value of a number is gone
  pub items_less : (xs ys : List Slot) (entries after : Slab T) (births number : ℕ) → IsWithout xs number ys
      → ((n key : ℕ) → key_of ys n ≡ Some key → get after key ≡ get entries key) → number < births
      → items_of (value_at ys after) births ≡ set (items_of (value_at xs entries) births) number None
  items_less xs ys entries after births number less same lt =
      items_set (value_at xs entries) (value_at ys after) births number None lt (ap (in_slab after) less.gone) (λ n ne. go n (key_of ys n) refl ∙ ap (in_slab entries) (less.others n ne))
    where
      go : (n : ℕ) (o : Option ℕ) → key_of ys n ≡ o → in_slab after (key_of ys n) ≡ in_slab entries (key_of ys n)
      go n None e = ap (in_slab after) e ∙ sym (ap (in_slab entries) e)
      go n (Some key) e = ap (in_slab after) e ∙ same n key e ∙ sym (ap (in_slab entries) e)

  -- ---- the last slot is dropped

  module _ (slots front : List Slot) (s : Slot) (entries : Slab T) (h : HaveKeys slots entries) (split : slots ≡ front ++ s ∷ []) where
    dropped_less : (key : ℕ) → key < 18446744073709551615 → under key front + once key s ≡ under key slots
    dropped_less key lt = sym (ap (under key) split ∙ under_push key front s)

    pub dropped_live : (after : Slab T) → lives s ≡ true → Updates entries after s.key None → slab_len after + 1 ≡ slab_len entries → after.capacity ≡ entries.capacity
        → HaveKeys front after × Shrinks slots entries front after
    dropped_live after live u len cap =
        let many : count front + 1 ≡ count slots = omega (arith, ap count split, count_push front s, one_lives s live) in (
          keys_removed slots front entries after s h live dropped_less u many len,
          shrinks_removed slots front entries after s h live dropped_less u len cap,
        )
