-- What is reserved, address by address, and what follows for the uses of slots.
-- For `reserve` and `has_one_use`: `Reserves` says what the rows hold after so many addresses, first the array parameters and then one
-- block more at each `Enter`. No slot has two uses just where no block is a parameter and no int that is named lies in a row; a clash is
-- two uses of one slot.
use Rattle.std.proofs.Common.{◌≡◌, ℕ, zero, suc, ◌+◌, ◌<◌, ◌≤◌, ◌⊎◌, inl, inr, List, [], ◌∷◌, length, Option, Some, None, Bool, true, false, not, nat_lt, Contains, refl, sym, ap, ◌∙◌, subst, arith}
use Rattle.std.specs.Prelude.{slice_get, map, replicate, ◌↔◌, IsTrue, unwrap_or}
use Rattle.std.specs.List.Sorted.{IsNonDecreasing}
use Rattle.std.proofs.lemmas.Bool.{false≢true}
use Rattle.std.proofs.lemmas.Bool.Decides.{nat_tests}
use Rattle.std.proofs.lemmas.List.Elements.{Contains-append_right, Contains-append_cases}
use Rattle.stack_code.specs.declared.instr.Instr.{Instr}
use Rattle.stack_code.specs.declared.instr.Instr.TheVariants as i
use Rattle.stack_code.specs.declared.parts.Entered.{Entered}
use Rattle.stack_code.specs.declared.shape.Home.{Home}
use Rattle.stack_code.specs.declared.shape.Home.TheVariants as home
use Rattle.stack_code.specs.declared.shape.Shape.{Shape}
use Rattle.stack_code.specs.declared.uses.Named.{Named}
use Rattle.stack_code.specs.declared.uses.Reserved.{Reserved}
use Rattle.stack_code.specs.Parts.{Parts}
use Rattle.stack_code.specs.Shapes.{on_some, params_in, params_of, is_array}
use Rattle.stack_code.specs.Valid.{Reaches, home_at, Use, AsInt, AsReference, AsBlock, use_of, Uses, param, loads, sets, enters, HasOneUse}
use Rattle.stack_code.specs.Kept.{IsTable}
use Rattle.stack_code.specs.inner.Reserve.{named_of, block_in, ints_at, block_at, arrays_from, arrays_in, slots_of, HasRow}
use Rattle.stack_code.specs.inner.Reserve.{Adds, SameSlots, row_of, AllSorted, NamesBlock, Reserves, IsReserve, IsFree, Freed}
use Rattle.stack_code.proofs.Homes.{HasHome, home_inside}
use Rattle.graph_ranks.proofs.Places.{within}
use Rattle.stack_code.proofs.Rounds.{below_or_next}
use Rattle.stack_code.proofs.Naming.{here_of, block_use, ints_use, block_named, load_named, sets_named}

-- ---- two uses

int_reference : AsInt ≡ AsReference → ⊥
int_reference e = cc

int_block : AsInt ≡ AsBlock → ⊥
int_block e = cc

use_block : (array : Bool) → use_of array ≡ AsBlock → ⊥
use_block true e = let no : AsReference ≡ AsBlock = e in cc
use_block false e = int_block e

-- a block that is a parameter
pub param_conflict : (code : Parts) (table : List (Option Shape)) (at : ℕ) (n : Named) (o : Option Bool) (array : Bool) → IsTable code table → block_at code table at ≡ Some n
    → o ≡ slice_get (params_of code n.home) n.slot → o ≡ Some array → HasOneUse code → ⊥
param_conflict code table at n o array t h e is one = use_block array (one n.home n.slot (use_of array) AsBlock (param array (sym e ∙ is)) (block_use code table at n t h))

block_used : (code : Parts) (table : List (Option Shape)) (end : ℕ) (h : Home) (x : ℕ) → IsTable code table → NamesBlock code table end h x → Uses code h x AsBlock
block_used code table end h x t b = subst (λ z. Uses code z x AsBlock) b.home_is (subst (λ z. Uses code b.named.home z AsBlock) b.slot_is (block_use code table b.at b.named t b.is))

-- an int that is reserved
int_conflict : (code : Parts) (table : List (Option Shape)) (end : ℕ) (h : Home) (x : ℕ) → IsTable code table → Uses code h x AsInt
    → (slice_get (params_of code h) x ≡ Some true) ⊎ NamesBlock code table end h x → HasOneUse code → ⊥
int_conflict code table end h x t u r one = elim r [
  | inl e ↦ int_reference (one h x AsInt AsReference u (param true e))
  | inr b ↦ int_block (one h x AsInt AsBlock u (block_used code table end h x t b))
]

-- ---- the body of a block has a row

home_by : (code : Parts) (s : Shape) (instr : Instr) (n : Named) → block_in code s instr ≡ Some n → home_at s 0 ≡ Some n.home
home_by code s (i.Enter slot) n h = by (home_at s 0) refl h
  where
    by : (o : Option Home) → home_at s 0 ≡ o → on_some o (λ home. Some (named_of home slot 1)) ≡ Some n → home_at s 0 ≡ Some n.home
    by None e h = let no : None ≡ Some n = h in cc
    by (Some home) e h = let x : named_of home slot 1 ≡ n = cc in e ∙ ap (λ (z : Named). Some z.home) x
home_by code s _ n h = let no : None ≡ Some n = h in cc

row_by : (code : Parts) (r : Reserved) (h : Home) → length r.functions.items ≡ length code.functions → length r.asyncs.items ≡ length code.instrs → HasHome code h → HasRow r h
row_by code r (home.Function number) f a lt = omega arith
row_by code r (home.Async at) f a lt = omega arith

pub block_row : (code : Parts) (table : List (Option Shape)) (r : Reserved) (at end : ℕ) (n : Named) → IsTable code table → Reserves code table r end → block_at code table at ≡ Some n
    → HasRow r n.home
block_row code table r at end n t s h =
    let w = here_of code table at (block_in code) n h in
    row_by code r n.home s.functions s.asyncs (home_inside code at 0 w.shape n.home (t.reached at w.shape w.has) (home_by code w.shape w.instr n w.names_it))

-- ---- one address more

module _ (code : Parts) (table : List (Option Shape)) (r r' : Reserved) (at : ℕ) (n : Named) (t : IsTable code table) (s : Reserves code table r at) (h : block_at code table at ≡ Some n)
    (a : Adds r r' n.home n.slot) where
  same_name : (k : ℕ) (m : Named) → k ≡ at → block_at code table k ≡ Some m → n ≡ m
  same_name k m e b = let x : Some n ≡ Some m = sym h ∙ subst (λ j. block_at code table j ≡ Some m) e b in cc

  sound' : (g : Home) (x : ℕ) → Contains (slots_of r' g) x → (slice_get (params_of code g) x ≡ Some true) ⊎ NamesBlock code table (at + 1) g x
  sound' g x c = elim (a.only g x c) [
    | inl d ↦ (elim (s.sound g x d) [
      | inl e ↦ inl e
      | inr b ↦ inr (record { at = b.at; named = b.named; below = let lt : b.at < at = b.below in omega arith; is = b.is; home_is = b.home_is; slot_is = b.slot_is })
    ])
    | inr d ↦ inr (record { at = at; named = n; below = omega arith; is = h; home_is = sym d.0; slot_is = sym d.1 })
  ]

  blocks' : (k : ℕ) (m : Named) → k < at + 1 → block_at code table k ≡ Some m → Contains (slots_of r' m.home) m.slot
  blocks' k m lt b = elim (below_or_next k at lt) [
    | inl q ↦ a.kept m.home m.slot (s.blocks k m q b)
    | inr q ↦ subst (λ (z : Named). Contains (slots_of r' z.home) z.slot) (same_name k m q b) a.has
  ]

  -- one block more is reserved, which is no parameter
  pub take_more : slice_get (params_of code n.home) n.slot ≡ None → Reserves code table r' (at + 1)
  take_more none = record {
    functions = a.functions ∙ s.functions;
    asyncs = a.asyncs ∙ s.asyncs;
    sound = sound';
    arrays = λ g x e. a.kept g x (s.arrays g x e);
    blocks = blocks';
    apart = λ k m lt b. elim (below_or_next k at lt) [
      | inl q ↦ s.apart k m q b
      | inr q ↦ subst (λ (z : Named). slice_get (params_of code z.home) z.slot ≡ None) (same_name k m q b) none
    ];
  }

-- ---- whether an int is free

pub free_by : (code : Parts) (table : List (Option Shape)) (r : Reserved) (at end : ℕ) (n : Named) (row : List ℕ) (b : Bool) → IsTable code table → Reserves code table r end
    → ints_at code table at ≡ Some n → row ≡ slots_of r n.home → (IsTrue b ↔ ((x : ℕ) × (Contains row x × ((n.slot ≤ x) × (x < n.slot + n.len))))) → Freed code table r at (not b)
free_by code table r at end n row true t s h e d = λ one.
    let w = d.0 refl in
    int_conflict code table end n.home w.0 t (ints_use code table at w.0 n t h w.1.1.0 w.1.1.1) (s.sound n.home w.0 (subst (λ z. Contains z w.0) e w.1.0)) one
free_by code table r at end n row false t s h e d = λ m x named low high c.
    let k : Some n ≡ Some m = sym h ∙ named in
    let q : m ≡ n = cc in
    false≢true (d.1 (
      x,
      (
        subst (λ z. Contains z x) (sym e) (subst (λ (z : Named). Contains (slots_of r z.home) x) q c),
        (subst (λ (z : Named). z.slot ≤ x) q low, subst (λ (z : Named). x < z.slot + z.len) q high),
      ),
    ))

abbrev AnyIn : List ℕ → ℕ → ℕ → Type 0
AnyIn row low high = (x : ℕ) × (Contains row x × ((low ≤ x) × (x < high)))

pub free_at : (code : Parts) (table : List (Option Shape)) (r : Reserved) (at end : ℕ) (n : Named) (row : List ℕ) (b : Bool) (low len : ℕ) → IsTable code table → Reserves code table r end
    → ints_at code table at ≡ Some n → row ≡ slots_of r n.home → low ≡ n.slot → len ≡ n.len → (IsTrue b ↔ AnyIn row low (low + len)) → Freed code table r at (not b)
free_at code table r at end n row b low len t s h e el en d =
    free_by code table r at end n row b t s h e (subst (λ y. IsTrue b ↔ AnyIn row n.slot (n.slot + y)) en (subst (λ z. IsTrue b ↔ AnyIn row z (z + len)) el d))

-- ---- all of it

module _ (code : Parts) (table : List (Option Shape)) (r : Reserved) (t : IsTable code table) (s : Reserves code table r (length code.instrs))
    (free : (k : ℕ) → k < length code.instrs → IsFree code table r k) where
  -- a use, as the tables tell it
  abbrev Told : Home → ℕ → Use → Type 0
  Told h x AsInt = Contains (slots_of r h) x → ⊥
  Told h x AsReference = slice_get (params_of code h) x ≡ Some true
  Told h x AsBlock = NamesBlock code table (length code.instrs) h x

  array_is : (o : Option Bool) → unwrap_or o false ≡ true → o ≡ Some true
  array_is None e = absurd (false≢true e)
  array_is (Some b) e = ap Some e

  -- a block is no parameter
  apart : (h : Home) (x : ℕ) (array : Bool) → slice_get (params_of code h) x ≡ Some array → NamesBlock code table (length code.instrs) h x → ⊥
  apart h x array e b =
      let none : slice_get (params_of code b.named.home) b.named.slot ≡ None = s.apart b.at b.named b.below b.is in
      let none' : slice_get (params_of code h) x ≡ None = subst (λ z. slice_get (params_of code z) x ≡ None) b.home_is (subst (λ z. slice_get (params_of code b.named.home) z ≡ None) b.slot_is none) in
      let no : None ≡ Some array = sym none' ∙ e in
      cc

  told_param : (h : Home) (x : ℕ) (array : Bool) → slice_get (params_of code h) x ≡ Some array → Told h x (use_of array)
  told_param h x true e = e
  told_param h x false e = λ c. elim (s.sound h x c) [
    | inl u ↦ (let f : Some false ≡ Some true = sym e ∙ u in let no : false ≡ true = cc in false≢true no)
    | inr b ↦ apart h x false e b
  ]

  inside : (at : ℕ) (u : Shape) → Reaches code at u → at < length code.instrs
  inside at u q = let lt : at < length table = within table at (Some u) (t.has at u q) in let l : length table ≡ length code.instrs = t.long in omega arith

  told_load : (at level : ℕ) (u : Shape) (h : Home) (x : ℕ) (array : Bool) → Reaches code at u → slice_get code.instrs at ≡ Some (i.Load level x) → home_at u level ≡ Some h → is_array code h x ≡ array
      → Told h x (use_of array)
  told_load at level u h x true q here e a = array_is (slice_get (params_of code h) x) a
  told_load at level u h x false q here e a = free at (inside at u q) (named_of h x 1) x (load_named code table at level x u h (t.has at u q) here e a) (omega arith) (omega arith)

  told : (h : Home) (x : ℕ) (u : Use) → Uses code h x u → Told h x u
  told h x _ (param array e) = told_param h x array e
  told h x _ (loads at level u q here e) = told_load at level u h x (is_array code h x) q here e refl
  told h x _ (sets at u instr slots q here k e low high) = free at (inside at u q) (named_of h slots.slot slots.len) x (sets_named code table at u instr slots h (t.has at u q) here k e) low high
  told h x _ (enters at u q here e) = record {
    at = at;
    named = named_of h x 1;
    below = inside at u q;
    is = block_named code table at x u h (t.has at u q) here e;
    home_is = refl;
    slot_is = refl;
  }

  block_reserved : (h : Home) (x : ℕ) → NamesBlock code table (length code.instrs) h x → Contains (slots_of r h) x
  block_reserved h x b = subst (λ z. Contains (slots_of r z) x) b.home_is (subst (Contains (slots_of r b.named.home)) b.slot_is (s.blocks b.at b.named b.below b.is))

  same_use : (h : Home) (x : ℕ) (u v : Use) → Told h x u → Told h x v → u ≡ v
  same_use h x AsInt AsInt a b = refl
  same_use h x AsInt AsReference a b = absurd (a (s.arrays h x b))
  same_use h x AsInt AsBlock a b = absurd (a (block_reserved h x b))
  same_use h x AsReference AsInt a b = absurd (b (s.arrays h x a))
  same_use h x AsReference AsReference a b = refl
  same_use h x AsReference AsBlock a b = absurd (apart h x true a b)
  same_use h x AsBlock AsInt a b = absurd (b (block_reserved h x a))
  same_use h x AsBlock AsReference a b = absurd (apart h x true b a)
  same_use h x AsBlock AsBlock a b = refl

  pub one_use : HasOneUse code
  one_use h x u v a b = same_use h x u v (told h x u a) (told h x v b)

-- ---- the beginning: the array parameters

one_of : (y x : ℕ) → Contains (y ∷ []) x → y ≡ x
one_of y x (zero, lt, e) = e
one_of y x (suc k, lt, e) = absurd (omega arith)

arrays_sound : (k : ℕ) (params : List Bool) (x : ℕ) → Contains (arrays_from k params) x → (j : ℕ) × ((x ≡ k + j) × (slice_get params j ≡ Some true))
arrays_sound k [] x c = absurd (let lt : c.0 < 0 = c.1 in omega arith)
arrays_sound k (true ∷ params) x c = elim (Contains-append_cases (k ∷ []) (arrays_from (k + 1) params) x c) [
  | inl q ↦ (let e : k ≡ x = one_of k x q in (0, (omega arith, refl)))
  | inr q ↦ (let w = arrays_sound (k + 1) params x q in let e : x ≡ k + 1 + w.0 = w.1.0 in (suc w.0, (omega arith, w.1.1)))
]
arrays_sound k (false ∷ params) x c = let w = arrays_sound (k + 1) params x c in let e : x ≡ k + 1 + w.0 = w.1.0 in (suc w.0, (omega arith, w.1.1))

arrays_has : (k : ℕ) (params : List Bool) (j : ℕ) → slice_get params j ≡ Some true → Contains (arrays_from k params) (k + j)
arrays_has k [] j h = let no : None ≡ Some true = h in cc
arrays_has k (true ∷ params) zero h = (0, omega arith, omega arith)
arrays_has k (true ∷ params) (suc j) h = Contains-append_right (k ∷ []) (arrays_from (k + 1) params) (k + suc j)
    (subst (Contains (arrays_from (k + 1) params)) (omega arith) (arrays_has (k + 1) params j h))
arrays_has k (false ∷ params) zero h = let no : Some false ≡ Some true = h in let f : false ≡ true = cc in absurd (false≢true f)
arrays_has k (false ∷ params) (suc j) h = subst (Contains (arrays_from (k + 1) params)) (omega arith) (arrays_has (k + 1) params j h)

row_map : (functions : List Entered) (k : ℕ) → row_of (map arrays_in functions) k ≡ arrays_from 0 (params_in (slice_get functions k))
row_map [] k = refl
row_map (f ∷ functions) zero = refl
row_map (f ∷ functions) (suc k) = row_map functions k

row_none : (n k : ℕ) → row_of (replicate n []) k ≡ []
row_none zero k = refl
row_none (suc n) zero = refl
row_none (suc n) (suc k) = row_none n k

length_map : (functions : List Entered) → length (map arrays_in functions) ≡ length functions
length_map [] = refl
length_map (f ∷ functions) = ap suc (length_map functions)

length_none : (n : ℕ) → length (replicate {A = List ℕ} n []) ≡ n
length_none zero = refl
length_none (suc n) = ap suc (length_none n)

module _ (code : Parts) (table : List (Option Shape)) (r : Reserved) (f : r.functions.items ≡ map arrays_in code.functions) (a : r.asyncs.items ≡ replicate (length code.instrs) []) where
  first_slots : (h : Home) → slots_of r h ≡ arrays_from 0 (params_of code h)
  first_slots (home.Function number) = ap (λ z. row_of z number) f ∙ row_map code.functions number
  first_slots (home.Async at) = ap (λ z. row_of z at) a ∙ row_none (length code.instrs) at

  first_sound : (h : Home) (x : ℕ) → Contains (slots_of r h) x → (slice_get (params_of code h) x ≡ Some true) ⊎ NamesBlock code table 0 h x
  first_sound h x c =
      let w = arrays_sound 0 (params_of code h) x (subst (λ z. Contains z x) (first_slots h) c) in
      let e : x ≡ 0 + w.0 = w.1.0 in
      let q : w.0 ≡ x = omega arith in
      inl (subst (λ z. slice_get (params_of code h) z ≡ Some true) q w.1.1)

  first_arrays : (h : Home) (x : ℕ) → slice_get (params_of code h) x ≡ Some true → Contains (slots_of r h) x
  first_arrays h x e =
      let q : 0 + x ≡ x = omega arith in
      subst (λ z. Contains z x) (sym (first_slots h)) (subst (Contains (arrays_from 0 (params_of code h))) q (arrays_has 0 (params_of code h) x e))

  pub reserves_first : Reserves code table r 0
  reserves_first = record {
    functions = ap length f ∙ length_map code.functions;
    asyncs = ap length a ∙ length_none (length code.instrs);
    sound = first_sound;
    arrays = first_arrays;
    blocks = λ at n lt b. absurd (omega arith);
    apart = λ at n lt b. absurd (omega arith);
  }

-- ---- the end: the rows in order

module _ (code : Parts) (table : List (Option Shape)) (r r' : Reserved) (s : Reserves code table r (length code.instrs)) (f : AllSorted r.functions.items r'.functions.items)
    (a : AllSorted r.asyncs.items r'.asyncs.items) where
  same_slots : (h : Home) → SameSlots (slots_of r h) (slots_of r' h)
  same_slots (home.Function number) = f.same number
  same_slots (home.Async at) = a.same at

  past : (rows : List (List ℕ)) (k : ℕ) → length rows ≤ k → row_of rows k ≡ []
  past [] k le = refl
  past (row ∷ rows) zero le = absurd (omega arith)
  past (row ∷ rows) (suc k) le = past rows k (omega arith)

  short : IsNonDecreasing []
  short i j d le lt = absurd (omega arith)

  in_order : (rows rows' : List (List ℕ)) → AllSorted rows rows' → (k : ℕ) → IsNonDecreasing (row_of rows' k)
  in_order rows rows' o k = by (nat_lt k (length rows)) refl
    where
      by : (b : Bool) → nat_lt k (length rows) ≡ b → IsNonDecreasing (row_of rows' k)
      by true e = o.sorted k (grind (arith, nat_tests))
      by false e =
          let le : length rows ≤ k = grind (arith, nat_tests) in
          let l : length rows' ≡ length rows = o.long in
          subst IsNonDecreasing (sym (past rows' k (omega arith))) short

  sorted_slots : (h : Home) → IsNonDecreasing (slots_of r' h)
  sorted_slots (home.Function number) = in_order r.functions.items r'.functions.items f number
  sorted_slots (home.Async at) = in_order r.asyncs.items r'.asyncs.items a at

  pub reserve_is : IsReserve code table r'
  reserve_is = record {
    reserves = record {
      functions = f.long ∙ s.functions;
      asyncs = a.long ∙ s.asyncs;
      sound = λ h x c. s.sound h x ((same_slots h x).1 c);
      arrays = λ h x e. (same_slots h x).0 (s.arrays h x e);
      blocks = λ at n lt b. (same_slots n.home n.slot).0 (s.blocks at n lt b);
      apart = s.apart;
    };
    sorted = sorted_slots;
  }
