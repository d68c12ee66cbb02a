-- The table stays as it is kept.
-- Each step of the table keeps `IsKept`: what changes is the slot at the end of the numbers, or that end, so what is taken of the slots is one
-- longer or shorter.
use Rattle.std.proofs.Common.{◌≡◌, ℕ, suc, ◌+◌, ◌-◌, ◌<◌, ◌≤◌, List, [], ◌∷◌, ◌++◌, length, take, drop, Some, None, IsSome, Bool, true, false, nat_lt}
use Rattle.std.proofs.Common.{sym, ap, ◌∙◌, refl, subst, arith, get_or, set, count_by, length-append, length-set, take_all}
use Rattle.std.proofs.lemmas.Bool.Decides.{nat_tests}
use Rattle.std.proofs.lemmas.List.{take_more_set, set_split, drop_all}
use Rattle.std.proofs.lemmas.List.Sums.{sum_by-set}
use Rattle.slab.specs.Slab.{Slab, get, slab_len, Updates}
use Rattle.birth_table.specs.declared.index.Slot.{Slot}
use Rattle.birth_table.specs.declared.leaving.Ends.{Ends}
use Rattle.birth_table.specs.Keys.{lives, slot_at, key_of, Rises, Tells}
use Rattle.birth_table.specs.Kept.{in_slab, value_at, items_of, left_at, AreBelow, HaveKeys, IsKept}
use Rattle.birth_table.specs.inner.Slots.{IsWithout, AreFewer, Shrinks, put}
use Rattle.birth_table.proofs.Rising.{is_of_same}
use Rattle.birth_table.proofs.Keys.{count, one, one_gone, one_lives, count_push, rises_push, unborn, key_push}
use Rattle.birth_table.proofs.Counts.{under, there, once, once_other, under_set, under_push, told_lives, below_gone, under_of, under_take}
use Rattle.birth_table.proofs.Going.{read_is}
use Rattle.birth_table.proofs.Steps.{keys_fewer, keys_added, none_left, some_left, is_free, left_apart, items_more}

-- a slot of no key is counted under none
pub none_under : (key : ℕ) (s : Slot) → key < 18446744073709551615 → lives s ≡ false → once key s ≡ 0
none_under key s lt gone = once_other key s (λ e. not_it e)
  where
    not_it : s.key ≡ key → ⊥
    not_it e =
        let live : nat_lt s.key 18446744073709551615 ≡ true = grind (arith, nat_tests) in
        let wrong : true ≡ false = sym live ∙ gone in
        cc

-- ---- a slot that is put behind those of numbers

put_set : (slots : List Slot) (top : ℕ) (t : Slot) → top < length slots → put slots top t ≡ set slots top t
put_set slots top t lt = sym (set_split slots top t lt)

put_push : (slots : List Slot) (top : ℕ) (t : Slot) → top ≡ length slots → put slots top t ≡ slots ++ t ∷ []
put_push slots top t is =
    ap (λ xs. xs ++ t ∷ drop (suc top) slots) (take_all top slots (omega (arith, is)))
    ∙ ap (λ xs. slots ++ t ∷ xs) (drop_all (suc top) slots (omega (arith, is)))

-- what it adds, where the slot that stood there told no key
pub record Puts (slots : List Slot) (top : ℕ) (t : Slot) (now : List Slot) : Type 0 where
  pub more : (key : ℕ) → key < 18446744073709551615 → under key now ≡ under key slots + once key t
  pub many : count now ≡ count slots + 1
  pub first : take (top + 1) now ≡ take top slots ++ t ∷ []
  pub long : top + 1 ≤ length now
  pub short : length now ≤ length slots + 1

pub puts : (slots : List Slot) (top : ℕ) (t : Slot) → top ≤ length slots → lives (slot_at slots top) ≡ false → lives t ≡ true → Puts slots top t (put slots top t)
puts slots top t within gone live = go (nat_lt top (length slots)) refl
  where
    by_set : top < length slots → Puts slots top t (set slots top t)
    by_set lt =
        let one_more = sum_by-set one slots top t (record { number = 0; key = 18446744073709551615 }) lt in
        let none = one_gone (slot_at slots top) gone in
        let adds = one_lives t live in
        record {
          more = λ key small. omega (arith, under_set key slots top t lt, none_under key (slot_at slots top) small gone);
          many = omega (arith, one_more, none, adds);
          first = take_more_set slots top t lt;
          long = omega (arith, lt, length-set slots top t);
          short = omega (arith, length-set slots top t);
        }

    by_push : top ≡ length slots → Puts slots top t (slots ++ t ∷ [])
    by_push is =
        let long = length-append slots (t ∷ []) in
        record {
          more = λ key small. under_push key slots t;
          many = omega (arith, count_push slots t, one_lives t live);
          first = take_all (top + 1) (slots ++ t ∷ []) (omega (arith, long, is)) ∙ ap (λ xs. xs ++ t ∷ []) (sym (take_all top slots (omega (arith, is))));
          long = omega (arith, long, is);
          short = omega (arith, long);
        }

    go : (b : Bool) → nat_lt top (length slots) ≡ b → Puts slots top t (put slots top t)
    go true q =
        let lt : top < length slots = grind (arith, nat_tests) in
        subst (λ xs. Puts slots top t xs) (sym (put_set slots top t lt)) (by_set lt)
    go false q =
        let le : length slots ≤ top = grind (arith, nat_tests) in
        let is : top ≡ length slots = omega (arith, within, le) in
        subst (λ xs. Puts slots top t xs) (sym (put_push slots top t is)) (by_push is)

-- ---- the steps

-- what was left comes to life
module _ (slots : List Slot) (top births : ℕ) (live : lives (slot_at slots top) ≡ true) where
  pub revived_fewer : AreFewer slots (set slots top (record { number = births; key = (slot_at slots top).key }))
  revived_fewer =
      let lt = there slots top live in
      let t : Slot = record { number = births; key = (slot_at slots top).key } in
      record {
        fewer = λ key. omega (arith, under_set key slots top t lt);
        count = omega (arith, sum_by-set one slots top t (record { number = 0; key = 18446744073709551615 }) lt);
        shorter = omega (arith, length-set slots top t);
      }

module _ {T : Type 0} where
  pub kept_looked : (slots : List Slot) (ends : Ends) (recent now : Slot) (capacity : ℕ) (entries : Slab T) (births spare : ℕ)
      → IsKept slots ends recent capacity entries births spare → Tells (take ends.top slots) now → IsKept slots ends now capacity entries births spare
  kept_looked slots ends recent now capacity entries births spare k h = record {
    keys = k.keys;
    ends_are = k.ends_are;
    rise = k.rise;
    seen = h;
    tight = k.tight;
    left = k.left;
    room = k.room;
    places = k.places;
    few = k.few;
  }

  pub kept_written : (slots : List Slot) (ends : Ends) (recent : Slot) (capacity : ℕ) (entries after : Slab T) (births spare : ℕ)
      → IsKept slots ends recent capacity entries births spare → HaveKeys slots after → slab_len after ≡ slab_len entries → after.capacity ≡ entries.capacity
      → IsKept slots ends recent capacity after births spare
  kept_written slots ends recent capacity entries after births spare k keys len cap = record {
    keys = keys;
    ends_are = k.ends_are;
    rise = k.rise;
    seen = k.seen;
    tight = k.tight;
    left = k.left;
    room = k.room;
    places = omega (arith, k.places, len, cap);
    few = k.few;
  }

  -- a number is added, whose slot comes behind the others
  pub kept_more : (slots now : List Slot) (ends : Ends) (recent t : Slot) (capacity : ℕ) (entries after : Slab T) (births spare : ℕ)
      → IsKept slots ends recent capacity entries births spare → 0 < spare → lives t ≡ true → t.number ≡ births → HaveKeys now after
      → take (ends.top + 1) now ≡ take ends.top slots ++ t ∷ [] → ends.top + 1 ≤ length now → length now ≤ ends.top + 1 + 256
      → slab_len after ≤ slab_len entries + 1 → after.capacity ≡ entries.capacity
      → IsKept now (record { top = ends.top + 1; gone = ends.gone }) t capacity after (births + 1) (spare - 1)
  kept_more slots now ends recent t capacity entries after births spare k some live is keys first within left len cap =
      let xs = take ends.top slots in
      let many : count (take (ends.top + 1) now) ≡ count xs + 1 = ap (count_by lives) first ∙ omega (arith, count_push xs t, one_lives t live) in
      let new : key_of xs t.number ≡ None = unborn xs births t.number k.rise (omega (arith, is)) in
      record {
        keys = keys;
        ends_are = record { within = within; gaps = omega (arith, many, k.ends_are.gaps) };
        rise = subst (λ ys. Rises 0 ys (births + 1)) (sym first) (rises_push 0 xs births t (births + 1) k.rise (omega (arith, is)) (omega (arith, is)));
        seen = subst (λ ys. Tells ys t) (sym first) (key_push xs t new (is_of_same t.number t refl ∙ live) ∙ sym (told_lives t live));
        tight = omega (arith, many, k.tight);
        left = left;
        room = omega (arith, k.room, some);
        places = omega (arith, k.places, some, len, cap);
        few = omega (arith, k.few, some);
      }

  -- a number is gone
  pub kept_less : (slots now : List Slot) (ends last : Ends) (recent seen : Slot) (capacity : ℕ) (entries after : Slab T) (births spare number : ℕ)
      → IsKept slots ends recent capacity entries births spare → HaveKeys now after → AreBelow now last
      → IsWithout (take ends.top slots) number (take last.top now) → Tells (take last.top now) seen
      → last.gone ≤ count (take last.top now) + 32 → length now ≤ last.top + 256 → last.top ≤ ends.top → slab_len after ≤ slab_len entries
      → after.capacity ≡ entries.capacity → IsKept now last seen capacity after births spare
  kept_less slots now ends last recent seen capacity entries after births spare number k keys below less tells tight left top len cap = record {
    keys = keys;
    ends_are = below;
    rise = less.rise births k.rise;
    seen = tells;
    tight = tight;
    left = left;
    room = omega (arith, k.room, top);
    places = omega (arith, k.places, len, cap);
    few = k.few;
  }

  -- the values of the numbers that are left
  pub same_values : (slots now : List Slot) (entries after : Slab T) (top : ℕ) → Shrinks slots entries now after
      → (n key : ℕ) → key_of (take top now) n ≡ Some key → get after key ≡ get entries key
  same_values slots now entries after top h n key e =
      let u = under_of (take top now) n key e in
      h.values key u.0 (omega (arith, u.1, under_take key now top))

  -- ---- the steps whole

  -- a value is added where none is left
  module _ (slots : List Slot) (ends : Ends) (recent : Slot) (capacity : ℕ) (entries after : Slab T) (births spare key : ℕ) (value : T)
      (k : IsKept slots ends recent capacity entries births spare) (none : left_at slots entries ends.top ≡ None) (below : key < 18446744073709551615)
      (vacant : get entries key ≡ None) (u : Updates entries after key (Some value)) where
    live_born : lives (record { number = births; key = key }) ≡ true
    live_born = let q : nat_lt key 18446744073709551615 ≡ true = grind (arith, nat_tests) in q

    put_there : Puts slots ends.top (record { number = births; key = key }) (put slots ends.top (record { number = births; key = key }))
    put_there = puts slots ends.top (record { number = births; key = key }) k.ends_are.within (none_left slots entries ends.top k.keys none) live_born

    pub kept_inserted : 0 < spare → slab_len after ≡ slab_len entries + 1 → after.capacity ≡ entries.capacity
        → IsKept (put slots ends.top (record { number = births; key = key })) (record { top = ends.top + 1; gone = ends.gone }) (record { number = births; key = key }) capacity
        after (births + 1) (spare - 1)
    kept_inserted some len cap =
        let t : Slot = record { number = births; key = key } in
        let p = put_there in
        let keys = keys_added slots (put slots ends.top t) entries after t value k.keys p.more p.many vacant u len in
        kept_more slots (put slots ends.top t) ends recent t capacity entries after births spare k some live_born refl keys p.first p.long (omega (arith, p.short, k.left))
        (omega (arith, len)) cap

    pub items_inserted : items_of (value_at (take (ends.top + 1) (put slots ends.top (record { number = births; key = key }))) after) (births + 1)
        ≡ items_of (value_at (take ends.top slots) entries) births ++ Some value ∷ []
    items_inserted =
        ap (λ (xs : List Slot). items_of (value_at xs after) (births + 1)) put_there.first
        ∙ items_more (take ends.top slots) entries after births key (Some value) k.rise below (λ n e. is_free slots entries ends.top n key k.keys vacant e) u.changed u.others

  -- the value that was left comes to life
  module _ (slots : List Slot) (ends : Ends) (recent s : Slot) (capacity : ℕ) (entries : Slab T) (births spare : ℕ)
      (k : IsKept slots ends recent capacity entries births spare) (some : IsSome (left_at slots entries ends.top)) (read : s ≡ get_or slots ends.top s) where
    live_left : lives (slot_at slots ends.top) ≡ true
    live_left = some_left slots entries ends.top some

    it_is : slot_at slots ends.top ≡ s
    it_is = read_is slots ends.top s read live_left

    live_read : lives (record { number = births; key = s.key }) ≡ true
    live_read = ap lives (sym it_is) ∙ live_left

    pub kept_revived : 0 < spare
        → IsKept (set slots ends.top (record { number = births; key = s.key })) (record { top = ends.top + 1; gone = ends.gone }) (record { number = births; key = s.key }) capacity
        entries (births + 1) (spare - 1)
    kept_revived room =
        let t : Slot = record { number = births; key = s.key } in
        let lt = there slots ends.top live_left in
        let fewer = subst (λ (x : Slot). AreFewer slots (set slots ends.top (record { number = births; key = x.key }))) it_is (revived_fewer slots ends.top births live_left) in
        kept_more slots (set slots ends.top t) ends recent t capacity entries entries births spare k room live_read refl (keys_fewer slots (set slots ends.top t) entries k.keys fewer)
        (take_more_set slots ends.top t lt) (omega (arith, lt, length-set slots ends.top t)) (omega (arith, k.left, length-set slots ends.top t)) (omega arith) refl

    pub items_revived : items_of (value_at (take (ends.top + 1) (set slots ends.top (record { number = births; key = s.key }))) entries) (births + 1)
        ≡ items_of (value_at (take ends.top slots) entries) births ++ left_at slots entries ends.top ∷ []
    items_revived =
        let t : Slot = record { number = births; key = s.key } in
        let small = below_gone (record { number = births; key = s.key }) live_read in
        ap (λ (xs : List Slot). items_of (value_at xs entries) (births + 1)) (take_more_set slots ends.top t (there slots ends.top live_left))
        ∙ items_more (take ends.top slots) entries entries births s.key (left_at slots entries ends.top) k.rise small
        (λ n e. left_apart slots entries ends.top n s.key k.keys live_left (ap (λ (x : Slot). x.key) it_is) e)
        (ap (λ (x : Slot). get entries x.key) (sym it_is) ∙ sym (ap (in_slab entries) (told_lives (slot_at slots ends.top) live_left))) (λ other ne. refl)
