-- The code of a program in which everything is in its place is valid.
-- Its lists are those of the program; what is reached is read off the table of all functions (Entries, Reached).
use Rattle.std.proofs.Common.{◌≡◌, ℕ, zero, suc, ◌+◌, ◌<◌, ◌^◌, List, [], ◌∷◌, ◌++◌, length, map, get_or, Bool, true, false, Option, Some, None, refl, sym, ap, ◌∙◌, subst, arith, add-one}
use Rattle.std.proofs.Common.{length-append, All}
use Rattle.std.specs.Prelude.{slice_get, slice_index, replicate}
use Rattle.std.proofs.lemmas.List.{length-map, length-replicate, get_or-replicate}
use Rattle.std.proofs.lemmas.List.Elements.{All-append}
use Rattle.ac_commands.specs.declared.program.Channel.{Channel}
use Rattle.ac_commands.specs.declared.program.Core.{Core}
use Rattle.ac_commands.specs.declared.program.Function.{Function}
use Rattle.ac_commands.specs.declared.program.Start as program
use Rattle.ac_commands.specs.declared.program.Resolved.{Resolved}
use Rattle.stack_code.specs.declared.parts.Entered.{Entered}
use Rattle.stack_code.specs.declared.parts.Start.{Start}
use Rattle.stack_code.specs.declared.shape.Home.{Home}
use Rattle.stack_code.specs.declared.shape.Home.TheVariants as home
use Rattle.stack_code.specs.Parts.{Parts}
use Rattle.stack_code.specs.Shapes.{params_in, params_of}
use Rattle.stack_code.specs.Valid as valid
use Rattle.stack_code.specs.Valid.{HasCores, HasLinks, IsCapacity, IsWidth, IsStart, HasStarts, HasRoom, IsShaped, IsValid, IsEntry}
use Rattle.ac_resolve.specs.InPlace.{Use, use_of, IsFunction, AreStarts, IsInPlace}
use Rattle.ac_translation.specs.Translation.{function_code, functions_code, functions_from, start_of, ends_of, request_capacity, no_exits, code_of}
use Rattle.ac_translation.proofs.Sized.{functions_sized}
use Rattle.ac_translation.proofs.Placed.{Placed, has_all}
use Rattle.ac_compile.proofs.Points.{Table, uses_in, HasUse, stack_use, AreCalled}
use Rattle.ac_compile.proofs.Known.{Belongs, entered_as}
use Rattle.ac_compile.proofs.Entries.{AreFunctions, all_uses, table, all_stand, table_long, table_called, table_fine}
use Rattle.ac_compile.proofs.Ranges.{Section, section_from}
use Rattle.ac_compile.proofs.Reached.{shaped, takes_steps, one_use}

-- ---- lists

abbrev slots_of : List program.Start → List ℕ
slots_of xs = map (λ (start : Start). start.slot) (map start_of xs)

rises : (from end : ℕ) (xs : List program.Start) → AreStarts from end xs → (k : ℕ) → suc k < length (slots_of xs) → get_or (slots_of xs) k 0 < get_or (slots_of xs) (suc k) 0
rises from end [] a k lt = absurd (omega arith)
rises from end (x ∷ []) a k lt = absurd (omega arith)
rises from end (x ∷ y ∷ xs) a zero lt = let le = a.3.0 in omega arith
rises from end (x ∷ y ∷ xs) a (suc k) lt = rises (x.slot + 1) end (y ∷ xs) a.3 k (omega arith)

each_start : (code : Parts) (from : ℕ) (xs : List program.Start) → AreStarts from code.globals xs → (k : ℕ) (d : Start) → k < length (map start_of xs) → IsStart code (get_or (map start_of xs) k d)
each_start code from [] a k d lt = absurd (omega arith)
each_start code from (x ∷ xs) a zero d lt = (a.1, a.2)
each_start code from (x ∷ xs) a (suc k) d lt = each_start code (x.slot + 1) xs a.3 k d (omega arith)

has_starts : (code : Parts) (xs : List program.Start) → code.starts ≡ map start_of xs → AreStarts 0 code.globals xs → HasStarts code
has_starts code xs e a = record {
  rising = λ k lt. rw e (rw add-one (rises 0 code.globals xs a k (rw add-one at (rw e at lt))));
  starts = λ k d lt. rw e (each_start code 0 xs a k d (rw e at lt));
}

-- what holds of each element of the one list holds of what is made of it
each_made : {A B : Type 0} (P : B → Type 0) (make : A → B) (xs : List A) → ((n : ℕ) (x : A) → slice_get xs n ≡ Some x → P (make x)) → All P (map make xs)
each_made P make [] h k d lt = absurd (omega arith)
each_made P make (x ∷ xs) h zero d lt = h 0 x refl
each_made P make (x ∷ xs) h (suc k) d lt = each_made P make xs (λ n y e. h (suc n) y e) k d (omega arith)

-- ---- functions

there_from : (fs : List Function) (at number : ℕ) (f : Function) → slice_get fs number ≡ Some f → (place : ℕ) × (slice_get (functions_from at fs) number ≡ Some (entered_as f place))
there_from [] at number f e = let no : ◌≡◌ {A = Option Function} None (Some f) = e in cc
there_from (g ∷ fs) at zero f e = let same : g ≡ f = cc in (at, ap (λ h. Some (entered_as h at)) same)
there_from (g ∷ fs) at (suc number) f e = there_from fs (at + (function_code g).size) number f e

functions_are : (program : Resolved) (fs : List Function) → ((number : ℕ) (f : Function) → slice_get fs number ≡ Some f → IsFunction program f) → AreFunctions program fs
functions_are program [] h = tt
functions_are program (f ∷ fs) h = (h 0 f refl, functions_are program fs (λ number g e. h (suc number) g e))

-- what the slots of a function's frame hold: first its parameters
uses_from : (program : Resolved) (fs : List Function) (d : AreFunctions program fs) (at number : ℕ) (e : Entered) → slice_get (functions_from at fs) number ≡ Some e
    → (others : List Use) × (slice_get (all_uses program fs d) number ≡ Some (map use_of e.params ++ others))
unfolding all_uses
uses_from program [] d at number e h = let no : ◌≡◌ {A = Option Entered} None (Some e) = h in cc
uses_from program (f ∷ fs) d at zero e h =
    let same : entered_as f at ≡ e = cc in
    (d.0.others, ap (λ (x : Entered). Some (map use_of x.params ++ d.0.others)) same)
uses_from program (f ∷ fs) d at (suc number) e h = uses_from program fs d.1 (at + (function_code f).size) number e h

stack_use_of : (array : Bool) → valid.use_of array ≡ stack_use (use_of array)
stack_use_of true = refl
stack_use_of false = refl

param_use : (params : List Bool) (others : List Use) (slot : ℕ) (array : Bool) → slice_get params slot ≡ Some array → slice_get (map use_of params ++ others) slot ≡ Some (use_of array)
param_use [] others slot array e = let no : ◌≡◌ {A = Option Bool} None (Some array) = e in cc
param_use (p ∷ params) others zero array e = let same : p ≡ array = cc in ap (λ x. Some (use_of x)) same
param_use (p ∷ params) others (suc slot) array e = param_use params others slot array e

zero_on : (n : ℕ) → 0 + n ≡ n
zero_on n = omega arith

-- the width of a channel in the code
wide_at : (channels : List Channel) (number : ℕ) (channel : Channel) → slice_get channels number ≡ Some channel → slice_index (map (λ (c : Channel). c.width) channels) number ≡ channel.width
wide_at [] number channel e = let no : ◌≡◌ {A = Option Channel} None (Some channel) = e in cc
wide_at (c ∷ channels) zero channel e = let same : c ≡ channel = cc in ap (λ (x : Channel). x.width) same
wide_at (c ∷ channels) (suc number) channel e = wide_at channels number channel e

-- ---- the program

module _ (program : Resolved) (p : IsInPlace program) where
  abbrev code : Parts
  code = code_of program

  size_is : length code.instrs ≡ (functions_code program.functions).size
  size_is = (functions_sized program.functions).sized no_exits 0

  links_are : length code.capacities ≡ length program.channels + length program.cores
  links_are =
      length-append (map (λ (channel : Channel). channel.capacity) program.channels) (replicate (length program.cores) request_capacity)
      ∙ ap (λ n. n + length (replicate (length program.cores) request_capacity)) (length-map program.channels (λ (channel : Channel). channel.capacity))
      ∙ ap (λ n. length program.channels + n) (length-replicate (length program.cores) request_capacity)

  entries_are : length code.entries ≡ length program.cores
  entries_are = length-map program.cores (λ (core : Core). core.entry)

  pub belongs : Belongs code program
  belongs = record {
    globals = refl;
    texts = refl;
    channels = omega (arith, links_are, entries_are);
    files = p.few_files;
    functions = λ number f e. there_from program.functions 0 number f e;
    wide = wide_at program.channels;
  }

  pub functions : AreFunctions program program.functions
  functions = functions_are program program.functions p.functions

  placed : Placed code.instrs (functions_code program.functions) no_exits 0 (length code.instrs)
  placed = record { has = has_all code.instrs []; ends = omega (arith, size_is) }

  abbrev points : Table
  points = table code program belongs program.functions functions

  long : length points.points ≡ length code.instrs
  long = table_long code program belongs program.functions functions placed refl ∙ sym size_is

  -- ---- slots

  params_in_place : (slot number : ℕ) (o : Option Entered) (array : Bool) → slice_get code.functions number ≡ o → slice_get (params_in o) slot ≡ Some array
      → (held : Use) × HasUse points (home.Function number) slot held × (valid.use_of array ≡ stack_use held)
  params_in_place slot number None array h e = let no : ◌≡◌ {A = Option Bool} None (Some array) = e in cc
  params_in_place slot number (Some f) array h e =
      let u = uses_from program program.functions functions 0 number f h in
      (use_of array, ap (λ o. slice_get (uses_in o) slot) u.1 ∙ param_use f.params u.0 slot array e, stack_use_of array)

  params_well : (h : Home) (slot : ℕ) (array : Bool) → slice_get (params_of code h) slot ≡ Some array → (held : Use) × HasUse points h slot held × (valid.use_of array ≡ stack_use held)
  params_well (home.Function number) slot array e = params_in_place slot number (slice_get code.functions number) array refl e
  params_well (home.Async at) slot array e = let no : ◌≡◌ {A = Option Bool} None (Some array) = e in cc

  -- ---- lists

  entry_is : (number : ℕ) (core : Core) → slice_get program.cores number ≡ Some core → IsEntry code core.entry
  entry_is number core e =
      let c = p.cores number core e in
      let there = there_from program.functions 0 core.entry c.function c.there in
      record { function = entered_as c.function there.0; is = there.1; plain = c.params }

  cores : HasCores code
  cores = record {
    some = let n = p.some_core in omega (arith, n, entries_are);
    few = let n = p.few_cores in omega (arith, n, entries_are);
    named = length-map program.cores (λ (core : Core). core.name) ∙ sym entries_are;
    enters = each_made (IsEntry code) (λ (core : Core). core.entry) program.cores entry_is;
  }

  channel_is : (number : ℕ) (channel : Channel) → slice_get program.channels number ≡ Some channel → valid.IsChannel code (ends_of channel)
  channel_is number channel e =
      let c = p.channels number channel e in
      let from = c.from in
      let to = c.to in
      (omega (arith, from, entries_are), omega (arith, to, entries_are), c.other)

  ends_are : length code.ends ≡ length program.channels
  ends_are = length-map program.channels ends_of

  request_is : IsCapacity request_capacity
  request_is = (omega arith, omega arith)

  links : length program.channels + length program.cores < 2 ^ 32 → HasLinks code
  links few = record {
    few = omega (arith, few, links_are);
    each = omega (arith, links_are, ends_are, entries_are);
    capacities =
        All-append IsCapacity (map (λ (channel : Channel). channel.capacity) program.channels) (replicate (length program.cores) request_capacity)
        (each_made IsCapacity (λ (channel : Channel). channel.capacity) program.channels (λ number channel e. let c = p.channels number channel e in (c.some, c.few)))
        (λ k d lt. subst IsCapacity (sym (get_or-replicate (length program.cores) k request_capacity d
        (let n = length-replicate (length program.cores) request_capacity in omega (arith, n, lt)))) request_is);
    channels = each_made (valid.IsChannel code) ends_of program.channels channel_is;
    wide = length-map program.channels (λ (channel : Channel). channel.width) ∙ sym ends_are;
    widths = each_made IsWidth (λ (channel : Channel). channel.width) program.channels
        (λ number channel e. let c = p.channels number channel e in (c.some_ints, c.few_ints));
  }

  rooms_from : (fs : List Function) → AreFunctions program fs → (at : ℕ) → All HasRoom (functions_from at fs)
  rooms_from [] d at k e lt = absurd (omega arith)
  rooms_from (f ∷ fs) d at zero e lt = let n = d.0.slots in omega (arith, n)
  rooms_from (f ∷ fs) d at (suc k) e lt = rooms_from fs d.1 (at + (function_code f).size) k e (omega (arith, lt))

  -- ---- what is reached

  pub code_called : AreCalled code points
  code_called = table_called code program belongs program.functions functions placed refl

  pub code_shaped : IsShaped code
  code_shaped = shaped code points long code_called (table_fine code program belongs program.functions functions placed refl)

  -- the table, and each function in it
  pub section_at : (t : Table) × (AreCalled code t × ((number : ℕ) (e : Entered) → slice_get code.functions number ≡ Some e → Section code program belongs t number))
  section_at = (
    points,
    (
      code_called,
      λ number e is.
          let n : 0 + number ≡ number = omega arith in
          subst (Section code program belongs points) n
          (section_from code program belongs points 0 0 (length code.instrs) number program.functions functions placed
          (all_stand code program belongs program.functions functions placed refl)
          (λ j. ap (slice_get program.functions) (zero_on j)) (λ j. ap (slice_get code.functions) (zero_on j)) (λ j. ap (slice_get points.functions) (zero_on j)) e
          (ap (slice_get code.functions) n ∙ is)),
    ),
  )

  -- ---- the whole

  -- its addresses, and its links, are numbers of 32 bits
  pub code_valid : (functions_code program.functions).size < 2 ^ 32 → length program.channels + length program.cores < 2 ^ 32 → IsValid code
  code_valid short few =
      let called = code_called in
      let fine = table_fine code program belongs program.functions functions placed refl in
      record {
        lists = record {
          few = omega (arith, short, size_is);
          cores = cores;
          links = links few;
          starts = has_starts code program.starts refl p.starts;
          functions = rooms_from program.functions functions 0;
        };
        shaped = code_shaped;
        one_use = one_use code points long called fine params_well;
        steps = takes_steps code points long called fine;
      }
