-- What instructions ask for, a code that is valid, and codes that are not.
-- The valid code is `int x = 3; return x;`, for which each part of validity is shown; others lack an operand, a slot, a step on their way
-- round, or something that their lists name.
use Rattle.std.proofs.Common.{◌≡◌, refl, sym, ap, subst, ◌∙◌, ℕ, zero, suc, ◌+◌, ◌<◌, ℤ, pos, List, [], ◌∷◌, codes, Option, Some, None, Bool, true, false, inl, inr, arith}
use Rattle.std.specs.Prelude.{negsuc, slice_get, slice_index, unwrap_or}
use Rattle.std.proofs.lemmas.List.Elements.{All-from_recursion}
use Rattle.stack_code.specs.declared.instr.Instr.{Instr}
use Rattle.stack_code.specs.declared.instr.Instr.TheVariants as i
use Rattle.stack_code.specs.declared.parts.Entered.{Entered}
use Rattle.stack_code.specs.declared.parts.Start.{Start}
use Rattle.stack_code.specs.declared.parts.ChannelEnds.{ChannelEnds}
use Rattle.stack_code.specs.declared.shape.CellKind.{CellKind}
use Rattle.stack_code.specs.declared.shape.CellKind.TheVariants as kind
use Rattle.stack_code.specs.declared.shape.Home.{Home}
use Rattle.stack_code.specs.declared.shape.Home.TheVariants as home
use Rattle.stack_code.specs.declared.shape.Shape.{Shape}
use Rattle.stack_code.specs.declared.shape.Leads.{Leads}
use Rattle.stack_code.specs.declared.shape.Leads.TheVariants.{Stop, One, Two}
use Rattle.stack_code.specs.Parts.{Parts, Begins}
use Rattle.stack_code.specs.Shapes.{first, effect, LeadsTo, params_of, can_end, can_return, directives, directives_in, channels_of, width_of, pushes, branches, transfers}
use Rattle.stack_code.specs.Shapes.{inner, is_entered, one_int, two_ints, is_array, calls, finished, taken, arguments}
use Rattle.stack_code.specs.Shapes.{on_some, is_known, takes, with_operands, pushed, is_int_alone, params_in, loaded, want_of, body_with, is_block, finished_in, has_own, can_start}
use Rattle.stack_code.specs.Valid.{IsValid, Fits, Goes, Reaches, begins, goes, IsShaped, Quiet, QuietWay, one, more, TakesSteps, home_at}
use Rattle.stack_code.specs.Valid.{Use, AsInt, AsReference, AsBlock, use_of, ints_of, Uses, param, loads, sets, enters, HasOneUse}
use Rattle.stack_code.specs.Valid.{IsEntry, HasCores, IsCapacity, IsWidth, IsChannel, HasLinks, IsStart, HasStarts, HasRoom, HasLists}
use Rattle.stack_code.specs.Kept.{Has, IsTable, IsRanked, IsKept}
use Rattle.stack_code.specs.declared.shape.Want.TheVariants as want

-- a code of one function whose frame has so many slots, which the core `a` enters; it has two globals, of which the second starts with 5
abbrev pub entered : ℕ → Entered
entered words = record { name = codes "f"; at = 0; params = []; words = words }

abbrev pub code_of : ℕ → List Instr → Parts
code_of words instrs = record {
  instrs = instrs;
  functions = entered words ∷ [];
  texts = codes "%d\n" ∷ [];
  entries = 0 ∷ [];
  names = codes "a" ∷ [];
  globals = 2;
  capacities = 16 ∷ [];
  ends = [];
  starts = record { slot = 1; value = pos 5 } ∷ [];
  widths = [];
}

-- the core enters its one function
abbrev pub begins_so : (words : ℕ) (instrs : List Instr) → Begins (code_of words instrs) 0 (entered words)
begins_so words instrs = record { entry = 0; entry_is = refl; function_is = refl }

-- ---- what instructions ask for, at an address 4 in a function with two slots

abbrev pub shape : List CellKind → Shape
shape kinds = record { bodies = record { home = home.Function 0; slots = 2 } ∷ []; blocks = []; operands = kinds }

abbrev pub code : Parts
code = code_of 2 []

pub two_ints_become_one : effect code 4 i.Add (shape (kind.Int ∷ kind.Int ∷ [])) ≡ Some (One 5 (shape (kind.Int ∷ [])))
two_ints_become_one = refl

pub one_int_is_too_few : effect code 4 i.Add (shape (kind.Int ∷ [])) ≡ None
one_int_is_too_few = refl

pub an_element_is_that_of_an_array : effect code 4 i.Elem (shape (kind.Int ∷ kind.Int ∷ [])) ≡ None
an_element_is_that_of_an_array = refl

pub a_jump_leads_two_ways : effect code 4 (i.Jz 9) (shape (kind.Int ∷ [])) ≡ Some (Two 5 (shape []) 9 (shape []))
a_jump_leads_two_ways = refl

pub the_last_slot_of_a_frame : effect code 4 (i.Load 0 1) (shape []) ≡ Some (One 5 (shape (kind.Int ∷ [])))
the_last_slot_of_a_frame = refl

pub no_slot_past_the_frame : effect code 4 (i.Load 0 2) (shape []) ≡ None
no_slot_past_the_frame = refl

pub no_frame_around : effect code 4 (i.Load 1 0) (shape []) ≡ None
no_frame_around = refl

pub a_text_with_its_value : effect code 4 (i.Print 0 1) (shape (kind.Int ∷ [])) ≡ Some (One 5 (shape []))
a_text_with_its_value = refl

pub a_text_without_its_value : effect code 4 (i.Print 0 0) (shape []) ≡ None
a_text_without_its_value = refl

pub no_such_text : effect code 4 (i.Print 1 0) (shape []) ≡ None
no_such_text = refl

pub a_function_gives_one_int : effect code 4 i.Ret (shape (kind.Int ∷ [])) ≡ Some Stop
a_function_gives_one_int = refl

pub a_function_keeps_no_operand : effect code 4 i.Ret (shape (kind.Int ∷ kind.Int ∷ [])) ≡ None
a_function_keeps_no_operand = refl

-- a block of the own body is entered once, and finished by its slot
abbrev pub in_block : ℕ → Shape
in_block slot = record { bodies = record { home = home.Function 0; slots = 2 } ∷ []; blocks = record { bodies = 1; slot = slot } ∷ []; operands = [] }

pub a_block_is_entered : effect code 4 (i.Enter 1) (shape []) ≡ Some (One 5 (in_block 1))
a_block_is_entered = refl

pub a_block_is_not_entered_again : effect code 4 (i.Enter 1) (in_block 1) ≡ None
a_block_is_not_entered_again = refl

pub a_block_is_finished : effect code 4 (i.Finish 1) (in_block 1) ≡ Some (One 5 (shape []))
a_block_is_finished = refl

pub another_block_is_not : effect code 4 (i.Finish 0) (in_block 1) ≡ None
another_block_is_not = refl

pub no_thread_without_a_block : effect code 4 (i.Async 3 9) (shape []) ≡ None
no_thread_without_a_block = refl

pub no_return_from_a_block : effect code 4 i.Ret (record (in_block 1) { operands = kind.Int ∷ [] }) ≡ None
no_return_from_a_block = refl

-- ---- codes that are not valid

fits_at_first : (words : ℕ) (instrs : List Instr) → IsValid (code_of words instrs) → Fits (code_of words instrs) 0 (first 0 (entered words))
fits_at_first words instrs v = v.shaped.fits 0 (first 0 (entered words)) (begins 0 (entered words) (begins_so words instrs))

-- an instruction that lacks an operand
pub adds_nothing : IsValid (code_of 0 (i.Add ∷ i.Push (pos 0) ∷ i.Ret ∷ [])) → ⊥
adds_nothing v = no (fits_at_first 0 _ v) where
  no : Fits (code_of 0 (i.Add ∷ i.Push (pos 0) ∷ i.Ret ∷ [])) 0 (first 0 (entered 0)) → ⊥
  no f = let h = f.here in let g = f.finds in cc

-- a slot that the frame has not
pub no_such_slot : IsValid (code_of 1 (i.Load 0 1 ∷ i.Ret ∷ [])) → ⊥
no_such_slot v = no (fits_at_first 1 _ v) where
  no : Fits (code_of 1 (i.Load 0 1 ∷ i.Ret ∷ [])) 0 (first 0 (entered 1)) → ⊥
  no f = let h = f.here in let g = f.finds in cc

-- a way back that takes no step
abbrev pub circle : Parts
circle = code_of 0 (i.Jump 0 ∷ [])

round_and_round : Quiet circle 0 0
round_and_round = record {
  shape = first 0 (entered 0);
  next = first 0 (entered 0);
  reached = begins 0 (entered 0) (begins_so 0 (i.Jump 0 ∷ []));
  goes = record { fits = record { instr = i.Jump 0; leads = One 0 (first 0 (entered 0)); here = refl; finds = refl }; leads = (refl, refl) };
  no_step = no_step;
} where
  no_step : Some (i.Jump 0) ≡ Some i.Step → ⊥
  no_step e = cc

pub a_way_back : QuietWay circle 0 0
a_way_back = one 0 0 round_and_round

pub takes_no_step : TakesSteps circle → ⊥
takes_no_step h = h 0 a_way_back

pub goes_round : IsValid circle → ⊥
goes_round v = takes_no_step v.steps

pub has_no_shape : IsShaped (code_of 0 (i.Add ∷ [])) → ⊥
has_no_shape h = no (h.fits 0 (first 0 (entered 0)) (begins 0 (entered 0) (begins_so 0 (i.Add ∷ [])))) where
  no : Fits (code_of 0 (i.Add ∷ [])) 0 (first 0 (entered 0)) → ⊥
  no f = let h = f.here in let g = f.finds in cc

-- ---- the lists of a code

pub it_has_a_core : IsEntry (code_of 0 []) 0
it_has_a_core = record { function = entered 0; is = refl; plain = refl }

pub no_such_function : IsEntry (code_of 0 []) 1 → ⊥
no_such_function h = let e = h.is in cc

-- a core's function has no parameters
abbrev pub with_a_parameter : Parts
with_a_parameter = record (code_of 1 []) { functions = record { name = codes "f"; at = 0; params = false ∷ []; words = 1 } ∷ [] }

same_some : {A : Type 0} {x y : A} → Some x ≡ Some y → x ≡ y
same_some e = cc

pub no_parameter_of_a_core : IsEntry with_a_parameter 0 → ⊥
no_parameter_of_a_core h = let e = ap (λ (x : Entered). x.params) (same_some h.is) ∙ h.plain in cc

pub no_code_without_a_core : HasCores (record (code_of 0 []) { entries = []; names = [] }) → ⊥
no_code_without_a_core h = let le = h.some in omega (arith, le)

pub the_largest_capacity : IsCapacity 64
the_largest_capacity = (omega arith, omega arith)

pub no_larger_capacity : IsCapacity 65 → ⊥
no_larger_capacity h = let le = h.1 in omega (arith, le)

pub no_capacity_of_none : IsCapacity 0 → ⊥
no_capacity_of_none h = let le = h.0 in omega (arith, le)

abbrev pub channel : ℕ → ℕ → ChannelEnds
channel from to = record { from = from; to = to }

abbrev pub two_cores : Parts
two_cores = record (code_of 0 []) { entries = 0 ∷ 0 ∷ [] }

pub two_cores_have_a_channel : IsChannel two_cores (channel 1 0)
two_cores_have_a_channel = (omega arith, omega arith, omega arith)

pub no_channel_to_itself : IsChannel two_cores (channel 1 1) → ⊥
no_channel_to_itself h = h.2 refl

pub no_channel_to_another : IsChannel two_cores (channel 1 2) → ⊥
no_channel_to_another h = let lt = h.1 in omega (arith, lt)

-- two globals
abbrev pub start : ℕ → ℤ → Start
start slot value = record { slot = slot; value = value }

pub a_start : IsStart (code_of 0 []) (start 1 (negsuc 0))
a_start = (omega arith, λ e. cc)

pub no_start_with_nought : IsStart (code_of 0 []) (start 1 (pos 0)) → ⊥
no_start_with_nought h = h.1 refl

pub no_start_past_the_globals : IsStart (code_of 0 []) (start 2 (pos 5)) → ⊥
no_start_past_the_globals h = let lt = h.0 in omega (arith, lt)

pub a_slot_for_its_parameter : HasRoom (record { name = codes "f"; at = 0; params = false ∷ []; words = 1 })
a_slot_for_its_parameter = omega arith

pub no_slot_for_its_parameter : HasRoom (record { name = codes "f"; at = 0; params = false ∷ []; words = 0 }) → ⊥
no_slot_for_its_parameter h = omega (arith, h)

pub no_start_twice : HasStarts (record (code_of 0 []) { starts = start 1 (pos 5) ∷ start 1 (pos 6) ∷ [] }) → ⊥
no_start_twice h = let lt : 1 < 1 = h.rising 0 (omega arith) in omega (arith, lt)

pub no_link_too_many : HasLinks (record (code_of 0 []) { capacities = 16 ∷ 16 ∷ [] }) → ⊥
no_link_too_many h = let e = h.each in omega (arith, e)

-- ---- a code that is valid: int x = 3; return x;

abbrev pub keeps_three : List Instr
keeps_three = i.Push (pos 3) ∷ i.Store 0 0 ∷ i.Load 0 0 ∷ i.Ret ∷ []

abbrev pub small : Parts
small = code_of 1 keeps_three

-- the shape of an address in it
abbrev pub holding : List CellKind → Shape
holding kinds = record { bodies = record { home = home.Function 0; slots = 1 } ∷ []; blocks = []; operands = kinds }

data At : ℕ → Shape → Type 0 where
  at_push : At 0 (holding [])
  at_store : At 1 (holding (kind.Int ∷ []))
  at_load : At 2 (holding [])
  at_return : At 3 (holding (kind.Int ∷ []))

-- what stands at an address and what it makes of the shape decide where it goes
leads_on : (code : Parts) (at to : ℕ) (s t : Shape) (instr : Instr) (leads : Leads) → slice_get code.instrs at ≡ Some instr
    → effect code at instr s ≡ Some leads → Goes code at s to t → LeadsTo leads to t
leads_on code at to s t instr leads here finds g =
    let is : g.fits.instr ≡ instr = same_some (sym g.fits.here ∙ here) in
    let same : g.fits.leads ≡ leads = same_some (sym g.fits.finds ∙ ap (λ (x : Instr). effect code at x s) is ∙ finds) in
    subst (λ (l : Leads). LeadsTo l to t) same g.leads

arrives : {next to : ℕ} {s t : Shape} → At next s → (next ≡ to) × (s ≡ t) → At to t × (next ≡ to)
arrives x e = (subst (λ (z : ℕ × Shape). At z.0 z.1) (λ j. (e.0 j, e.1 j)) x, e.0)

goes_on : (at to : ℕ) (s t : Shape) → At at s → Goes small at s to t → At to t × (suc at ≡ to)
goes_on _ to _ t at_push g = arrives at_store (leads_on small 0 to _ t (i.Push (pos 3)) (One 1 (holding (kind.Int ∷ []))) refl refl g)
goes_on _ to _ t at_store g = arrives at_load (leads_on small 1 to _ t (i.Store 0 0) (One 2 (holding [])) refl refl g)
goes_on _ to _ t at_load g = arrives at_return (leads_on small 2 to _ t (i.Load 0 0) (One 3 (holding (kind.Int ∷ []))) refl refl g)
goes_on _ to _ t at_return g = absurd (leads_on small 3 to _ t i.Ret Stop refl refl g)

begins_at : (core : ℕ) (function : Entered) (entry : Begins small core function) → At function.at (first entry.entry function)
begins_at zero function entry =
    let e : 0 ≡ entry.entry = same_some entry.entry_is in
    let f : entered 1 ≡ function = same_some (ap (λ (n : ℕ). slice_get (entered 1 ∷ []) n) e ∙ entry.function_is) in
    subst (λ (z : ℕ × Entered). At z.1.at (first z.0 z.1)) (λ j. (e j, f j)) at_push
begins_at (suc core) function entry = let e = entry.entry_is in cc

reached_at : (at : ℕ) (s : Shape) → Reaches small at s → At at s
reached_at _ _ (begins core function entry) = begins_at core function entry
reached_at to t (goes at s _ _ r g) = (goes_on at to s t (reached_at at s r) g).0

abbrev fits_at : (at : ℕ) (s : Shape) → At at s → Fits small at s
fits_at _ _ at_push = record { instr = i.Push (pos 3); leads = One 1 (holding (kind.Int ∷ [])); here = refl; finds = refl }
fits_at _ _ at_store = record { instr = i.Store 0 0; leads = One 2 (holding []); here = refl; finds = refl }
fits_at _ _ at_load = record { instr = i.Load 0 0; leads = One 3 (holding (kind.Int ∷ [])); here = refl; finds = refl }
fits_at _ _ at_return = record { instr = i.Ret; leads = Stop; here = refl; finds = refl }

abbrev shape_at : ℕ → Shape
shape_at zero = holding []
shape_at (suc zero) = holding (kind.Int ∷ [])
shape_at (suc (suc zero)) = holding []
shape_at (suc (suc (suc at))) = holding (kind.Int ∷ [])

has_it : (at : ℕ) (s : Shape) → At at s → shape_at at ≡ s
has_it _ _ at_push = refl
has_it _ _ at_store = refl
has_it _ _ at_load = refl
has_it _ _ at_return = refl

pub it_is_shaped : IsShaped small
it_is_shaped = record {
  fits = λ at s r. fits_at at s (reached_at at s r);
  same = λ at s t r q. sym (has_it at s (reached_at at s r)) ∙ has_it at t (reached_at at t q);
}

rises : (at to : ℕ) → Quiet small at to → suc at ≡ to
rises at to q = (goes_on at to q.shape q.next (reached_at at q.shape q.reached) q.goes).1

way_rises : (at to : ℕ) → QuietWay small at to → at < to
way_rises _ _ (one at to q) = let e = rises at to q in omega (arith, e)
way_rises _ _ (more at next to q way) = let e = rises at next q in let lt = way_rises next to way in omega (arith, e, lt)

pub it_takes_steps : TakesSteps small
it_takes_steps at way = let lt = way_rises at at way in omega (arith, lt)

-- ---- ways that it has not

pub no_second_core : Begins small 1 (entered 1) → ⊥
no_second_core h = let e = h.entry_is in cc

pub nothing_stands_past_it : Fits small 4 (holding []) → ⊥
nothing_stands_past_it h = let e = h.here in cc

pub no_instruction_is_passed_over : Goes small 0 (holding []) 2 (holding []) → ⊥
no_instruction_is_passed_over h = let e = (goes_on 0 2 (holding []) (holding []) at_push h).1 in omega (arith, e)

pub no_quiet_instruction_is_passed_over : Quiet small 0 2 → ⊥
no_quiet_instruction_is_passed_over q = let e = rises 0 2 q in omega (arith, e)

pub no_way_back : QuietWay small 1 1 → ⊥
no_way_back way = it_takes_steps 1 way

-- the value lies on the stack at the second address
pub it_is_not_reached_without_its_value : Reaches small 1 (holding []) → ⊥
it_is_not_reached_without_its_value r = let e = ap (λ (s : Shape). s.operands) (has_it 1 (holding []) (reached_at 1 (holding []) r)) in cc

pub both_ways_of_a_jump : LeadsTo (Two 5 (holding []) 9 (holding [])) 5 (holding []) × LeadsTo (Two 5 (holding []) 9 (holding [])) 9 (holding [])
both_ways_of_a_jump = (inl (refl, refl), inr (refl, refl))

pub no_other_way_of_a_jump : LeadsTo (Two 5 (holding []) 9 (holding [])) 6 (holding []) → ⊥
no_other_way_of_a_jump (inl h) = let e = h.0 in omega (arith, e)
no_other_way_of_a_jump (inr h) = let e = h.0 in omega (arith, e)

pub no_way_from_a_stop : LeadsTo Stop 5 (holding []) → ⊥
no_way_from_a_stop h = h

-- ---- the use of slots

no_params : (in_body : Home) → params_of small in_body ≡ []
no_params (home.Function zero) = refl
no_params (home.Function (suc number)) = refl
no_params (home.Async at) = refl

as_int : (in_body : Home) (slot : ℕ) (use_so : Use) → Uses small in_body slot use_so → use_so ≡ AsInt
as_int in_body slot _ (param array is) = let e = ap (λ (ps : List Bool). slice_get ps slot) (sym (no_params in_body)) ∙ is in cc
as_int in_body slot _ (loads at level s r is body) = ap (λ (ps : List Bool). use_of (unwrap_or (slice_get ps slot) false)) (no_params in_body)
as_int in_body slot _ (sets at s instr slots r is ints body low high) = refl
as_int in_body slot _ (enters at s r is body) = no_block at s (reached_at at s r) is where
  no_block : (at : ℕ) (s : Shape) → At at s → slice_get keeps_three at ≡ Some (i.Enter slot) → AsBlock ≡ AsInt
  no_block _ _ at_push e = cc
  no_block _ _ at_store e = cc
  no_block _ _ at_load e = cc
  no_block _ _ at_return e = cc

pub its_slot_has_one_use : HasOneUse small
its_slot_has_one_use in_body slot u v p q = as_int in_body slot u p ∙ sym (as_int in_body slot v q)

reach_push : Reaches small 0 (holding [])
reach_push = begins 0 (entered 1) (begins_so 1 keeps_three)

reach_store : Reaches small 1 (holding (kind.Int ∷ []))
reach_store = goes 0 (holding []) 1 (holding (kind.Int ∷ [])) reach_push (record { fits = fits_at 0 (holding []) at_push; leads = (refl, refl) })

reach_load : Reaches small 2 (holding [])
reach_load = goes 1 (holding (kind.Int ∷ [])) 2 (holding []) reach_store (record { fits = fits_at 1 (holding (kind.Int ∷ [])) at_store; leads = (refl, refl) })

reach_return : Reaches small 3 (holding (kind.Int ∷ []))
reach_return = goes 2 (holding []) 3 (holding (kind.Int ∷ [])) reach_load (record { fits = fits_at 2 (holding []) at_load; leads = (refl, refl) })

pub it_is_set : Uses small (home.Function 0) 0 AsInt
it_is_set = sets 1 (holding (kind.Int ∷ [])) (i.Store 0 0) (record { level = 0; slot = 0; len = 1 }) reach_store refl refl refl (omega arith) (omega arith)

pub it_is_loaded : Uses small (home.Function 0) 0 AsInt
it_is_loaded = loads 2 0 (holding []) reach_load refl refl

pub it_is_no_block : Uses small (home.Function 0) 0 AsBlock → ⊥
it_is_no_block u = let e = as_int (home.Function 0) 0 AsBlock u in cc

-- an array parameter is a reference
pub a_parameter_is_a_reference : Uses (record small { functions = record { name = codes "f"; at = 0; params = true ∷ []; words = 1 } ∷ [] }) (home.Function 0) 0 AsReference
a_parameter_is_a_reference = param true refl

pub an_array_of_three_slots : ints_of (i.Arr 1 2 3) ≡ Some (record { level = 1; slot = 2; len = 3 })
an_array_of_three_slots = refl

pub a_load_sets_none : ints_of (i.Load 0 0) ≡ None
a_load_sets_none = refl

-- a slot that is set and then has a block
abbrev pub twofold : List Instr
twofold = i.Push (pos 3) ∷ i.Store 0 0 ∷ i.Enter 0 ∷ []

pub no_slot_has_two_uses : HasOneUse (code_of 1 twofold) → ⊥
no_slot_has_two_uses h = differ (h (home.Function 0) 0 AsInt AsBlock as_int_here as_block_here) where
  differ : AsInt ≡ AsBlock → ⊥
  differ e = cc

  at_first : Reaches (code_of 1 twofold) 0 (holding [])
  at_first = begins 0 (entered 1) (begins_so 1 twofold)

  then_at : Reaches (code_of 1 twofold) 1 (holding (kind.Int ∷ []))
  then_at = goes 0 (holding []) 1 (holding (kind.Int ∷ [])) at_first
      (record { fits = record { instr = i.Push (pos 3); leads = One 1 (holding (kind.Int ∷ [])); here = refl; finds = refl }; leads = (refl, refl) })

  at_last : Reaches (code_of 1 twofold) 2 (holding [])
  at_last = goes 1 (holding (kind.Int ∷ [])) 2 (holding []) then_at
      (record { fits = record { instr = i.Store 0 0; leads = One 2 (holding []); here = refl; finds = refl }; leads = (refl, refl) })

  as_int_here : Uses (code_of 1 twofold) (home.Function 0) 0 AsInt
  as_int_here = sets 1 (holding (kind.Int ∷ [])) (i.Store 0 0) (record { level = 0; slot = 0; len = 1 }) then_at refl refl refl (omega arith) (omega arith)

  as_block_here : Uses (code_of 1 twofold) (home.Function 0) 0 AsBlock
  as_block_here = enters 2 (holding []) at_last refl refl

-- ---- the whole, and what is kept of it

pub its_cores : HasCores small
its_cores = record { some = omega arith; few = omega arith; named = refl; enters = All-from_recursion (IsEntry small) (0 ∷ []) (record { function = entered 1; is = refl; plain = refl }, tt) }

pub its_links : HasLinks small
its_links = record {
  few = omega arith;
  each = refl;
  capacities = All-from_recursion IsCapacity (16 ∷ []) ((omega arith, omega arith), tt);
  channels = All-from_recursion
      (IsChannel small) [] tt;
  wide = refl;
  widths = All-from_recursion IsWidth [] tt;
}

pub its_starts : HasStarts small
its_starts = record { rising = λ k lt. absurd (omega (arith, lt)); starts = All-from_recursion (IsStart small) (start 1 (pos 5) ∷ []) ((omega arith, λ e. cc), tt) }

pub its_lists : HasLists small
its_lists = record { few = omega arith; cores = its_cores; links = its_links; starts = its_starts; functions = All-from_recursion HasRoom (entered 1 ∷ []) (omega arith, tt) }

pub no_lists_without_a_core : HasLists (record small { entries = []; names = [] }) → ⊥
no_lists_without_a_core h = no_code_without_a_core_in h.cores where
  no_code_without_a_core_in : HasCores (record small { entries = []; names = [] }) → ⊥
  no_code_without_a_core_in h = let le = h.some in omega (arith, le)

pub it_is_valid : IsValid small
it_is_valid = record { lists = its_lists; shaped = it_is_shaped; one_use = its_slot_has_one_use; steps = it_takes_steps }

abbrev pub its_shapes : List (Option Shape)
its_shapes = Some (holding []) ∷ Some (holding (kind.Int ∷ [])) ∷ Some (holding []) ∷ Some (holding (kind.Int ∷ [])) ∷ []

pub its_table : IsTable small its_shapes
its_table = record { long = refl; has = λ at s r. has at s (reached_at at s r); reached = reached } where
  has : (at : ℕ) (s : Shape) → At at s → Has its_shapes at s
  has _ _ at_push = refl
  has _ _ at_store = refl
  has _ _ at_load = refl
  has _ _ at_return = refl

  reached : (at : ℕ) (s : Shape) → Has its_shapes at s → Reaches small at s
  reached zero s e = subst (λ (s : Shape). Reaches small 0 s) (same_some (same_some e)) reach_push
  reached (suc zero) s e = subst (λ (s : Shape). Reaches small 1 s) (same_some (same_some e)) reach_store
  reached (suc (suc zero)) s e = subst (λ (s : Shape). Reaches small 2 s) (same_some (same_some e)) reach_load
  reached (suc (suc (suc zero))) s e = subst (λ (s : Shape). Reaches small 3 s) (same_some (same_some e)) reach_return
  reached (suc (suc (suc (suc at)))) s e = cc

pub a_shape_is_left_out : IsTable small (None ∷ Some (holding (kind.Int ∷ [])) ∷ Some (holding []) ∷ Some (holding (kind.Int ∷ [])) ∷ []) → ⊥
a_shape_is_left_out h = let e = h.has 0 (holding []) reach_push in cc

pub a_shape_is_another : IsTable small (Some (holding []) ∷ Some (holding []) ∷ Some (holding []) ∷ Some (holding (kind.Int ∷ [])) ∷ []) → ⊥
a_shape_is_another h = let e = has_it 1 (holding []) (reached_at 1 (holding []) (h.reached 1 (holding []) refl)) in let k = ap (λ (s : Shape). s.operands) e in cc

pub its_ranks : IsRanked small (3 ∷ 2 ∷ 1 ∷ 0 ∷ [])
its_ranks = record { long = refl; falls = λ at to q. falls at to q.shape q.next (reached_at at q.shape q.reached) q.goes } where
  falls_to : (at next to : ℕ) → next ≡ to → slice_index (3 ∷ 2 ∷ 1 ∷ 0 ∷ []) next < slice_index (3 ∷ 2 ∷ 1 ∷ 0 ∷ []) at → slice_index (3 ∷ 2 ∷ 1 ∷ 0 ∷ []) to < slice_index (3 ∷ 2 ∷ 1 ∷ 0 ∷ []) at
  falls_to at next to e lt = subst (λ (n : ℕ). slice_index (3 ∷ 2 ∷ 1 ∷ 0 ∷ []) n < slice_index (3 ∷ 2 ∷ 1 ∷ 0 ∷ []) at) e lt

  falls : (at to : ℕ) (s t : Shape) → At at s → Goes small at s to t → slice_index (3 ∷ 2 ∷ 1 ∷ 0 ∷ []) to < slice_index (3 ∷ 2 ∷ 1 ∷ 0 ∷ []) at
  falls _ to _ t at_push g = falls_to 0 1 to (goes_on 0 to _ t at_push g).1 (omega arith)
  falls _ to _ t at_store g = falls_to 1 2 to (goes_on 1 to _ t at_store g).1 (omega arith)
  falls _ to _ t at_load g = falls_to 2 3 to (goes_on 2 to _ t at_load g).1 (omega arith)
  falls _ to _ t at_return g = absurd (leads_on small 3 to _ t i.Ret Stop refl refl g)

pub they_are_kept : IsKept small its_shapes (3 ∷ 2 ∷ 1 ∷ 0 ∷ [])
they_are_kept = record { valid = it_is_valid; tabled = its_table; ranked = its_ranks }

from_push : Quiet small 0 1
from_push = record {
  shape = holding [];
  next = holding (kind.Int ∷ []);
  reached = reach_push;
  goes = record { fits = fits_at 0 (holding []) at_push; leads = (refl, refl) };
  no_step = λ e. cc;
}

pub a_rank_does_not_fall : IsRanked small (3 ∷ 3 ∷ 1 ∷ 0 ∷ []) → ⊥
a_rank_does_not_fall h = let lt = h.falls 0 1 from_push in omega (arith, lt)

-- what has not all of it, as a table that leaves out a shape, is not kept
pub not_these_shapes : IsKept small (None ∷ None ∷ None ∷ None ∷ []) (3 ∷ 2 ∷ 1 ∷ 0 ∷ []) → ⊥
not_these_shapes h = let e = h.tabled.has 0 (holding []) reach_push in cc

-- ---- what the effects of instructions are made of

pub what_is_there_goes_on : (on_some (Some 4) (λ (n : ℕ). Some (n + 1)) ≡ Some 5) × (on_some None (λ (n : ℕ). Some (n + 1)) ≡ None)
what_is_there_goes_on = (refl, refl)

pub wanted_operands : takes want.Int kind.Int ∷ takes want.Int (kind.Reference (Some 1)) ∷ takes want.Reference kind.Int ∷ takes want.Reference (kind.Reference None) ∷ []
    ≡ true ∷ false ∷ false ∷ true ∷ []
wanted_operands = refl

pub as_many_elements : takes (want.Elements 2) (kind.Reference (Some 2)) ∷ takes (want.Elements 2) (kind.Reference (Some 1)) ∷ takes (want.Elements 2) (kind.Reference None)
    ∷ takes (want.Elements 1) kind.Int ∷ [] ≡ true ∷ false ∷ false ∷ false ∷ []
as_many_elements = refl

-- a message of one int is an int or a reference to one element
pub a_message_of_its_width : takes (want.Message 1) kind.Int ∷ takes (want.Message 1) (kind.Reference (Some 1)) ∷ takes (want.Message 2) kind.Int ∷ takes (want.Message 2) (kind.Reference (Some 2))
    ∷ takes (want.Message 2) (kind.Reference None) ∷ [] ≡ true ∷ true ∷ false ∷ true ∷ false ∷ []
a_message_of_its_width = refl

pub a_known_length : is_known 2 (Some 2) ∷ is_known 2 (Some 3) ∷ is_known 2 None ∷ [] ≡ true ∷ false ∷ false ∷ []
a_known_length = refl

pub operands_of_a_shape : (with_operands (shape []) (kind.Int ∷ []) ≡ shape (kind.Int ∷ [])) × (pushed kind.Int (shape (kind.Reference (Some 1) ∷ [])) ≡ shape (kind.Int ∷ kind.Reference
    (Some 1) ∷ []))
operands_of_a_shape = (refl, refl)

pub one_int_and_no_more : is_int_alone (kind.Int ∷ []) ∷ is_int_alone [] ∷ is_int_alone (kind.Int ∷ kind.Int ∷ []) ∷ is_int_alone (kind.Reference (Some 1) ∷ []) ∷ []
    ≡ true ∷ false ∷ false ∷ false ∷ []
one_int_and_no_more = refl

pub parameters_and_their_kinds : (params_in (Some (record (entered 1) { params = true ∷ [] })) ≡ true ∷ []) × (params_in None ≡ [])
    × (loaded true ∷ loaded false ∷ [] ≡ kind.Reference None ∷ kind.Int ∷ []) × (want_of true ∷ want_of false ∷ [] ≡ want.Reference ∷ want.Int ∷ [])
parameters_and_their_kinds = (refl, refl, refl, refl)

-- a frame of two slots
pub slots_of_a_body : (body_with (shape []) 0 0 2 ≡ Some (record { home = home.Function 0; slots = 2 })) × (body_with (shape []) 0 1 2 ≡ None) × (body_with (shape []) 1 0 0 ≡ None)
slots_of_a_body = (refl, refl, refl)

-- the body of an `Async` in the block that is entered
abbrev pub in_async : Shape
in_async = record (in_block 1) { bodies = record { home = home.Async 3; slots = 1 } ∷ (in_block 1).bodies }

pub whose_body_it_is : home_at in_async 0 ∷ home_at in_async 1 ∷ home_at in_async 2 ∷ [] ≡ Some (home.Async 3) ∷ Some (home.Function 0) ∷ None ∷ []
whose_body_it_is = refl

pub which_block_it_is : is_block 1 3 (record { bodies = 1; slot = 3 }) ∷ is_block 1 2 (record { bodies = 1; slot = 3 }) ∷ is_block 2 3 (record { bodies = 1; slot = 3 }) ∷ []
    ≡ true ∷ false ∷ false ∷ []
which_block_it_is = refl

pub the_innermost_is_finished : (finished_in 1 (in_block 1) (in_block 1).blocks ≡ Some (shape [])) × (finished_in 0 (in_block 1) (in_block 1).blocks ≡ None) × (finished_in 1 (in_block 1) [] ≡ None)
the_innermost_is_finished = (refl, refl, refl)

-- a block that was entered at the `Async` is none of the body's own
pub blocks_of_the_own_body : has_own (in_block 1) ∷ has_own in_async ∷ has_own (shape []) ∷ [] ≡ true ∷ false ∷ false ∷ []
blocks_of_the_own_body = refl

pub where_threads_start_and_end : (can_start (in_block 1) ∷ can_start (shape []) ∷ can_start (record (in_block 1) { operands = kind.Int ∷ [] }) ∷ [] ≡ true ∷ false ∷ false ∷ [])
    × (can_end in_async ∷ can_end (in_block 1) ∷ can_end (shape []) ∷ [] ≡ true ∷ false ∷ false ∷ [])
where_threads_start_and_end = (refl, refl)

pub where_a_function_returns : can_return (shape (kind.Int ∷ [])) ∷ can_return (shape []) ∷ can_return (record (in_block 1) { operands = kind.Int ∷ [] }) ∷ []
    ≡ true ∷ false ∷ false ∷ []
where_a_function_returns = refl

-- nor from the body of an `Async`
pub no_return_from_a_thread : can_return (record in_async { blocks = []; operands = kind.Int ∷ [] }) ≡ false
no_return_from_a_thread = refl

pub counts_of_directives : directives_in (codes "%d%%d%c") ∷ directives true (codes "d%c") ∷ directives false (codes "d%c") ∷ [] ≡ 2 ∷ 2 ∷ 1 ∷ []
counts_of_directives = refl

pub the_width_of_a_channel : width_of (record (code_of 0 []) { widths = 3 ∷ 1 ∷ [] }) 0 ∷ width_of (record (code_of 0 []) { widths = 3 ∷ 1 ∷ [] }) 1 ∷ width_of (code_of 0 []) 0 ∷ [] ≡ 3 ∷ 1 ∷ 0 ∷ []
the_width_of_a_channel = refl

pub widths_from_one_to_sixteen : IsWidth 1 × IsWidth 16 × (IsWidth 0 → ⊥) × (IsWidth 17 → ⊥)
widths_from_one_to_sixteen = ((omega arith, omega arith), (omega arith, omega arith), λ h. absurd (omega (arith, h.0)), λ h. absurd (omega (arith, h.1)))

-- a channel from core 0 to core 1 that carries messages of two ints
abbrev pub with_pairs : Parts
with_pairs = record (code_of 0 []) { capacities = 16 ∷ 4 ∷ 4 ∷ []; entries = 0 ∷ 0 ∷ []; widths = 2 ∷ [] }

pub a_pair_is_sent : (effect with_pairs 4 (i.Send 0) (shape (kind.Reference (Some 2) ∷ [])) ≡ Some (One 5 (shape (kind.Int ∷ [])))) × (effect with_pairs 4 (i.Send 0) (shape (kind.Int ∷ [])) ≡ None)
    × (effect with_pairs 4 (i.Recv 0) (shape (kind.Reference (Some 2) ∷ [])) ≡ Some (One 5 (shape (kind.Int ∷ [])))) × (effect with_pairs 4 (i.Recv 0) (shape (kind.Reference (Some 1) ∷ [])) ≡ None)
a_pair_is_sent = (refl, refl, refl, refl)

-- the other links are those of the cores
pub one_channel : channels_of (record (code_of 0 []) { capacities = 16 ∷ 4 ∷ [] }) ∷ channels_of (code_of 0 []) ∷ [] ≡ 1 ∷ 0 ∷ []
one_channel = refl

pub where_effects_lead : (pushes 4 kind.Int (shape []) ≡ Some (One 5 (shape (kind.Int ∷ [])))) × (branches 4 9 (shape (kind.Int ∷ [])) ≡ Some (Two 5 (shape []) 9 (shape [])))
    × (branches 4 9 (shape []) ≡ None)
where_effects_lead = (refl, refl, refl)

-- files are numbered 0 to 15; the array is on top
pub transfers_to_files : (transfers 4 15 (shape (kind.Reference None ∷ kind.Int ∷ kind.Int ∷ [])) ≡ Some (One 5 (shape (kind.Int ∷ []))))
    × (transfers 4 16 (shape (kind.Reference None ∷ kind.Int ∷ kind.Int ∷ [])) ≡ None)
transfers_to_files = (refl, refl)

-- ---- the wholes of these

pub operands_are_taken : (taken (want.Int ∷ []) (kind.Int ∷ kind.Reference (Some 1) ∷ []) ≡ Some (kind.Reference (Some 1) ∷ [])) × (taken (want.Int ∷ []) [] ≡ None)
    × (one_int 4 (shape (kind.Int ∷ [])) ≡ Some (One 5 (shape (kind.Int ∷ [])))) × (two_ints 4 (shape (kind.Int ∷ [])) ≡ None)
operands_are_taken = (refl, refl, refl, refl)

pub blocks_and_bodies : (is_entered (in_block 1) 0 1 ∷ is_entered (in_block 1) 0 0 ∷ is_entered in_async 0 1 ∷ is_entered in_async 1 1 ∷ [] ≡ true ∷ false ∷ false ∷ true ∷ [])
    × (finished 1 (in_block 1) ≡ Some (shape [])) × (inner 3 1 (in_block 1) ≡ in_async)
blocks_and_bodies = (refl, refl, refl)

-- the last argument is on top
pub a_call_and_its_arguments : (arguments (true ∷ false ∷ []) ≡ want.Int ∷ want.Reference ∷ []) × (is_array with_a_parameter (home.Function 0) 0 ≡ false)
    × (calls 4 3 0 (shape []) (entered 2) ≡ Some (Two 5 (shape (kind.Int ∷ [])) 0 (first 3 (entered 2)))) × (calls 4 3 1 (shape (kind.Int ∷ [])) (entered 2) ≡ None)
a_call_and_its_arguments = (refl, refl, refl, refl)
