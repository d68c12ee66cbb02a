-- Lists of slots that change.
-- Slots whose values are gone give no key. So dropping some of them leaves the key of each number, the rising order and the number of
-- values; and a slot that is added at the end, or marked as gone, changes the key of its own number alone.
use Rattle.std.proofs.Common.{◌≡◌, ℕ, zero, suc, ◌+◌, ◌<◌, ◌≤◌, List, [], ◌∷◌, ◌++◌, length, Option, Some, None, IsSome, Bool, true, false, ◌&&◌, nat_eq, nat_lt, if◌then◌else◌, cond}
use Rattle.std.proofs.Common.{sym, ap, ◌∙◌, refl, subst, arith, set, count_by, length-append, get_or}
use Rattle.std.specs.Prelude.{slice_get, filter}
use Rattle.std.proofs.lemmas.List.{length-set}
use Rattle.std.proofs.lemmas.Option.{slice_get_within, get_or_from_slice_get}
use Rattle.std.proofs.lemmas.List.Sums.{length-filter, count_by-le-length, sum_by-cons, sum_by_push, sum_by-set}
use Rattle.birth_table.specs.declared.index.Slot.{Slot}
use Rattle.birth_table.specs.Keys.{lives, is_of, told, key_of, Rises, Tells}
use Rattle.birth_table.specs.inner.Slots.{IsAt, HaveSameKeys, IsWithout}
use Rattle.birth_table.proofs.Rising.{entry_at, read, rises_at, is_of_other, no_key, key_there, same_number}
use Rattle.birth_table.proofs.Counts.{told_lives, under_of}
use Rattle.std.proofs.lemmas.Bool.Decides.{nat_tests}

abbrev pub count : List Slot → ℕ
count slots = count_by lives slots

-- what a slot adds to the count
abbrev pub one : Slot → ℕ
one s = cond (lives s) 1 0

pub one_gone : (s : Slot) → lives s ≡ false → one s ≡ 0
one_gone s e = ap (λ (b : Bool). cond b 1 0) e

pub one_lives : (s : Slot) → lives s ≡ true → one s ≡ 1
one_lives s e = ap (λ (b : Bool). cond b 1 0) e

count_cons : (x : Slot) (xs : List Slot) → count (x ∷ xs) ≡ one x + count xs
count_cons x xs = sum_by-cons one x xs

-- a slot whose value is gone is that of no number
pub is_of_gone : (number : ℕ) (s : Slot) → lives s ≡ false → is_of number s ≡ false
is_of_gone number s gone = ap (λ b. nat_eq s.number number && b) gone ∙ go (nat_eq s.number number)
  where
    go : (test : Bool) → (test && false) ≡ false
    go true = refl
    go false = refl

pub same_keys : (slots : List Slot) → HaveSameKeys slots slots
same_keys slots = record { keys = λ n. refl; rise = λ low high r. r; count = refl; shorter = omega arith }

pub keys_then : (xs ys zs : List Slot) → HaveSameKeys xs ys → HaveSameKeys ys zs → HaveSameKeys xs zs
keys_then xs ys zs h k = record {
  keys = λ n. k.keys n ∙ h.keys n;
  rise = λ low high r. k.rise low high (h.rise low high r);
  count = k.count ∙ h.count;
  shorter = omega (arith, h.shorter, k.shorter);
}

-- ---- dropping slots

pub rises_lower : (low other : ℕ) (slots : List Slot) (high : ℕ) → low ≤ other → Rises other slots high → Rises low slots high
rises_lower low other [] high h r = omega (arith, h, r)
rises_lower low other (x ∷ xs) high h r = (omega (arith, h, r.0), r.1)

pub rises_filter : (low : ℕ) (slots : List Slot) (high : ℕ) → Rises low slots high → Rises low (filter lives slots) high
rises_filter low [] high r = r
rises_filter low (x ∷ xs) high r = go (rises_filter (suc x.number) xs high r.1) (lives x)
  where
    go : Rises (suc x.number) (filter lives xs) high → (b : Bool) → Rises low (cond b (x ∷ filter lives xs) (filter lives xs)) high
    go h true = (r.0, h)
    go h false = rises_lower low (suc x.number) (filter lives xs) high (omega (arith, r.0)) h

key_filter : (slots : List Slot) (number : ℕ) → key_of (filter lives slots) number ≡ key_of slots number
key_filter [] number = refl
key_filter (x ∷ xs) number = go (key_filter xs number) (lives x) refl
  where
    go : key_of (filter lives xs) number ≡ key_of xs number → (b : Bool) → lives x ≡ b → key_of (cond b (x ∷ filter lives xs) (filter lives xs)) number ≡
        (if is_of number x then Some x.key else key_of xs number)
    go h true e = ap (λ o. if is_of number x then Some x.key else o) h
    go h false e = h ∙ sym (ap (λ b. if b then Some x.key else key_of xs number) (is_of_gone number x e))

pub count_filter : (slots : List Slot) → count (filter lives slots) ≡ count slots
count_filter [] = refl
count_filter (x ∷ xs) = go (count_filter xs) (lives x) refl
  where
    go : count (filter lives xs) ≡ count xs → (b : Bool) → lives x ≡ b → count (cond b (x ∷ filter lives xs) (filter lives xs)) ≡ count (x ∷ xs)
    go h true e = count_cons x (filter lives xs) ∙ ap (λ n. one x + n) h ∙ sym (count_cons x xs)
    go h false e = let none = one_gone x e in omega (arith, h, count_cons x xs)

pub filtered : (slots : List Slot) → HaveSameKeys slots (filter lives slots)
filtered slots = record {
  keys = key_filter slots;
  rise = λ low high r. rises_filter low slots high r;
  count = count_filter slots;
  shorter = omega (arith, length-filter lives slots, count_by-le-length lives slots);
}

pub rises_front : (low : ℕ) (slots : List Slot) (s : Slot) (high : ℕ) → Rises low (slots ++ s ∷ []) high → Rises low slots high
rises_front low [] s high r = omega (arith, r.0, r.1)
rises_front low (x ∷ xs) s high r = (r.0, rises_front (suc x.number) xs s high r.1)

pub key_push_other : (slots : List Slot) (s : Slot) (number : ℕ) → is_of number s ≡ false → key_of (slots ++ s ∷ []) number ≡ key_of slots number
key_push_other [] s number h = ap (λ b. if b then Some s.key else None) h
key_push_other (x ∷ xs) s number h = ap (λ o. if is_of number x then Some x.key else o) (key_push_other xs s number h)

pub count_push : (slots : List Slot) (s : Slot) → count (slots ++ s ∷ []) ≡ count slots + one s
count_push slots s = sum_by_push one slots s

pub trimmed : (slots : List Slot) (s : Slot) → lives s ≡ false → HaveSameKeys (slots ++ s ∷ []) slots
trimmed slots s gone = record {
  keys = λ n. sym (key_push_other slots s n (is_of_gone n s gone));
  rise = λ low high r. rises_front low slots s high r;
  count = let h = one_gone s gone in omega (arith, count_push slots s);
  shorter = omega (arith, length-append slots (s ∷ []));
}

-- ---- a slot at the end

pub rises_push : (low : ℕ) (slots : List Slot) (high : ℕ) (s : Slot) (end : ℕ) → Rises low slots high → high ≤ s.number → s.number < end
    → Rises low (slots ++ s ∷ []) end
rises_push low [] high s end r h k = (omega (arith, r), omega arith)
rises_push low (x ∷ xs) high s end r h k = (r.0, rises_push (suc x.number) xs high s end r.1 h k)

-- a number that was not born has no key
pub unborn : (slots : List Slot) (births number : ℕ) → Rises 0 slots births → births ≤ number → key_of slots number ≡ None
unborn slots births number r h = no_key slots number (λ i s e is. omega (arith, far i s e is))
  where
    far : (i : ℕ) (s : Slot) → slice_get slots i ≡ Some s → s.number ≡ number → suc s.number ≤ births
    far i s e is = let lt = slice_get_within slots i s e in omega (arith, (rises_at 0 slots births r i s e).1)

pub key_push : (slots : List Slot) (s : Slot) → key_of slots s.number ≡ None → is_of s.number s ≡ true → key_of (slots ++ s ∷ []) s.number ≡ Some s.key
key_push [] s none is = ap (λ b. if b then Some s.key else None) is
key_push (x ∷ xs) s none is = go (λ h. key_push xs s h is) (is_of s.number x) none
  where
    go : (key_of xs s.number ≡ None → key_of (xs ++ s ∷ []) s.number ≡ Some s.key) → (b : Bool) → (if b then Some x.key else key_of xs s.number) ≡ None
        → (if b then Some x.key else key_of (xs ++ s ∷ []) s.number) ≡ Some s.key
    go h true e = let no : Some x.key ≡ None = e in absurd (cc)
    go h false e = h e

-- ---- a slot that is written with the same number

pub rises_set : (low : ℕ) (slots : List Slot) (high i : ℕ) (s t : Slot) → Rises low slots high → slice_get slots i ≡ Some s → t.number ≡ s.number
    → Rises low (set slots i t) high
rises_set low [] high i s t r e is = r
rises_set low (x ∷ xs) high zero s t r e is =
    let n : x.number ≡ t.number = same_number x s e ∙ sym is in
    (omega (arith, r.0), subst (λ k. Rises (suc k) xs high) n r.1)
rises_set low (x ∷ xs) high (suc i) s t r e is = (r.0, rises_set (suc x.number) xs high i s t r.1 e is)

pub key_set_other : (slots : List Slot) (i : ℕ) (s t : Slot) (number : ℕ) → slice_get slots i ≡ Some s → t.number ≡ s.number → (s.number ≡ number → ⊥)
    → key_of (set slots i t) number ≡ key_of slots number
key_set_other [] i s t number e is ne = refl
key_set_other (x ∷ xs) zero s t number e is ne =
    let none = is_of_other number t (λ q. ne (sym is ∙ q)) in
    let was = is_of_other number x (λ q. ne (sym (same_number x s e) ∙ q)) in
    ap (λ b. if b then Some t.key else key_of xs number) none ∙ sym (ap (λ b. if b then Some x.key else key_of xs number) was)
key_set_other (x ∷ xs) (suc i) s t number e is ne =
    ap (λ o. if is_of number x then Some x.key else o) (key_set_other xs i s t number e is ne)

get_set : (slots : List Slot) (i : ℕ) (s t : Slot) → slice_get slots i ≡ Some s → slice_get (set slots i t) i ≡ Some t
get_set [] i s t e = absurd (cc)
get_set (x ∷ xs) zero s t e = refl
get_set (x ∷ xs) (suc i) s t e = get_set xs i s t e

pub key_set_gone : (slots : List Slot) (high i number : ℕ) (s t : Slot) → Rises 0 slots high → slice_get slots i ≡ Some s → t.number ≡ s.number
    → s.number ≡ number → lives t ≡ false → key_of (set slots i t) number ≡ None
key_set_gone slots high i number s t r e is n gone =
    key_there 0 (set slots i t) high (rises_set 0 slots high i s t r e is) i number t (get_set slots i s t e) (is ∙ n)
    ∙ ap (λ b. if b then Some t.key else None) gone

pub count_set : (slots : List Slot) (i : ℕ) (s t : Slot) → slice_get slots i ≡ Some s → lives s ≡ true → lives t ≡ false → count (set slots i t) + 1 ≡ count slots
count_set slots i s t e live gone =
    let is = get_or_from_slice_get slots i s s e in
    let a : one (get_or slots i s) ≡ 1 = ap one is ∙ one_lives s live in
    omega (arith, one_gone t gone, sum_by-set one slots i t s (slice_get_within slots i s e))

-- ---- a value that is gone

-- what the slot of a number that lives tells
pub key_at_place : (slots : List Slot) (high number place : ℕ) → Rises 0 slots high → (at : IsAt slots number place) → IsSome (key_of slots number)
    → (lives at.0 ≡ true) × (key_of slots number ≡ Some at.0.key)
key_at_place slots high number place r at some = go (lives at.0) refl
  where
    told : key_of slots number ≡ (if lives at.0 then Some at.0.key else None)
    told = key_there 0 slots high r place number at.0 at.1 at.2

    go : (b : Bool) → lives at.0 ≡ b → (lives at.0 ≡ true) × (key_of slots number ≡ Some at.0.key)
    go true e = (e, told ∙ ap (λ b. if b then Some at.0.key else None) e)
    go false e =
        let none : key_of slots number ≡ None = told ∙ ap (λ b. if b then Some at.0.key else None) e in
        let wrong : false ≡ true = subst (λ (o : Option ℕ). IsSome o) none some in
        absurd (cc)

pub without : (slots last : List Slot) (high number place : ℕ) (t : Slot) → Rises 0 slots high → (at : IsAt slots number place) → lives at.0 ≡ true
    → t.number ≡ at.0.number → lives t ≡ false → HaveSameKeys (set slots place t) last → IsWithout slots number last
without slots last high number place t r at live same gone keeps = record {
  gone = keeps.keys number ∙ key_set_gone slots high place number at.0 t r at.1 same at.2 gone;
  others = λ n ne. keeps.keys n ∙ key_set_other slots place at.0 t n at.1 same (λ e. ne (sym at.2 ∙ e));
  rise = λ end k. keeps.rise 0 end (rises_set 0 slots end place at.0 t k at.1 same);
  count = omega (arith, keeps.count, count_set slots place at.0 t at.1 live gone);
  shorter = omega (arith, keeps.shorter, length-set slots place t);
}

-- ---- what a slot tells of its number

pub told_is : (slots : List Slot) (high number place : ℕ) → Rises 0 slots high → IsAt slots number place → key_of slots number ≡ told (entry_at slots place)
told_is slots high number place r at =
    let is : entry_at slots place ≡ at.0 = get_or_from_slice_get slots place at.0 (record { number = 0; key = 0 }) at.1 in
    key_there 0 slots high r place number at.0 at.1 at.2 ∙ sym (ap told is)

-- so each slot tells the key of its number, or that it has none
pub tells : (slots : List Slot) (high place : ℕ) → Rises 0 slots high → place < length slots → Tells slots (entry_at slots place)
tells slots high place r lt = told_is slots high (entry_at slots place).number place r (entry_at slots place, read slots place lt, refl)

pub tells_key : (slots : List Slot) (number key : ℕ) → key_of slots number ≡ Some key → key_of slots number ≡ told (record { number = number; key = key })
tells_key slots number key e =
    let small : key < 18446744073709551615 = (under_of slots number key e).0 in
    let live : nat_lt key 18446744073709551615 ≡ true = grind (arith, nat_tests) in
    e ∙ sym (told_lives (record { number = number; key = key }) live)
