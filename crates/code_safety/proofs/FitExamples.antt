-- What a state fits by, and what is left to do in it, in small states.
-- For parts of a fit state a value that has them and one that has not; the weights compute.
use Rattle.std.proofs.Common.{◌≡◌, refl, sym, subst, ℕ, zero, suc, ◌<◌, ◌≤◌, pos, List, [], ◌∷◌, codes, Option, Some, None, true, false, arith}
use Rattle.stack_code.specs.declared.shape.CellKind.TheVariants as kind
use Rattle.stack_code.specs.declared.shape.Home.TheVariants as home
use Rattle.stack_code.specs.Parts.{Parts}
use Rattle.stack_code.specs.Shapes.{is_array}
use Rattle.code_meaning.specs.Machine.{Block, Thread, nobody}
use Rattle.work_item.specs.declared.ids.Item.{Item}
use Rattle.work_item.specs.declared.ids.BlockId.{BlockId}
use Rattle.work_item.specs.declared.cell.Cell.{Cell}
use Rattle.work_item.specs.declared.cell.Cell.TheVariants as cell
use Rattle.work_item.specs.declared.cell.Place.{Place}
use Rattle.cancel_scope.specs.declared.operation.Asked.TheVariants as asked
use Rattle.cancel_scope.specs.declared.operation.Operation.{Operation}
use Rattle.cancel_scope.specs.Outstanding.{as_begun, offered_as, started}
use Rattle.code_safety.specs.Fit.{Birth, Born, is_int, HoldsInts, HasKind, HaveKinds, AreSlots, AreInBodies, one_if, own_in, own_blocks, Phase, Gone, Going, AtFinish}
use Rattle.code_safety.specs.Fit.{runs, total, HasEntered, outside, inside, items_of, going_on, IsAsked}
use Rattle.code_safety.specs.Left.{entries_left, grown, operation_weight, operations_weight, left, left_to_come}
use Rattle.code_safety.specs.Fit.{Life, no_life, life_at, is_living, is_going, is_at, starts_in, innermost_in, innermost, IsStarted, one_at, occurs}
use Rattle.stack_code.proofs.Examples.{small, start, in_block, in_async, it_is_loaded}
use Rattle.code_meaning.proofs.MachineExamples.{item, frame, block, int, owned, known, offered}

-- ---- what a state fits by

-- the frame 0 is of the function 0, in which the thread 0 goes
abbrev pub birth : Birth
birth = record { home = home.Function 0; slots = 1; item = item 0 }

pub it_was_born : Born (birth ∷ []) (frame 0) birth
it_was_born = refl

pub no_other_was_born : Born (birth ∷ []) (frame 1) birth → ⊥
no_other_was_born h = cc

-- two globals are there
pub globals_are_ints : HoldsInts small (birth ∷ []) None 0 2
globals_are_ints = omega arith

pub no_third_global_is : HoldsInts small (birth ∷ []) None 1 2 → ⊥
no_third_global_is h = omega (arith, h)

-- its one slot
pub an_int_in_its_frame : HoldsInts small (birth ∷ []) (Some (frame 0)) 0 1
an_int_in_its_frame = record { birth = birth; born = refl; inside = omega arith; plain = λ slot lo hi. none slot (omega (arith, hi)) }
  where
    none : (slot : ℕ) → slot < 1 → is_array small birth.home slot ≡ false
    none slot lt = refl

pub no_two_ints_in_its_frame : HoldsInts small (birth ∷ []) (Some (frame 0)) 0 2 → ⊥
no_two_ints_in_its_frame h =
    let same : h.birth ≡ birth = let both : Some h.birth ≡ Some birth = sym h.born in cc in
    let le : 2 ≤ 1 = subst (λ (b : Birth). 2 ≤ b.slots) same h.inside in
    omega (arith, le)

-- the parameter of that function is an array
abbrev pub of_an_array : Parts
of_an_array = record small { functions = record { name = codes "f"; at = 0; params = true ∷ []; words = 1 } ∷ [] }

pub no_int_in_a_parameter : HoldsInts of_an_array (birth ∷ []) (Some (frame 0)) 0 1 → ⊥
no_int_in_a_parameter h =
    let same : h.birth ≡ birth = let both : Some h.birth ≡ Some birth = sym h.born in cc in
    let no : true ≡ false = subst (λ (b : Birth). is_array of_an_array b.home 0 ≡ false) same (h.plain 0 (omega arith) (omega arith)) in
    cc

pub ints_are_told_from_arrays : is_int (int 5) ∷ is_int (cell.Array (record { home = None; start = 0; len = 2 })) ∷ [] ≡ true ∷ false ∷ []
ints_are_told_from_arrays = refl

abbrev pub both_globals : Cell
both_globals = cell.Array (record { home = None; start = 0; len = 2 })

pub operands_have_their_kinds : HasKind small [] kind.Int (int 5) × HaveKinds small [] (kind.Int ∷ kind.Reference None ∷ []) (int 5 ∷ both_globals ∷ [])
operands_have_their_kinds = (tt, (tt, (record { short = omega arith; ints = omega arith; exact = λ n e. cc }, tt)))

pub an_array_is_no_int : HasKind small [] kind.Int both_globals → ⊥
an_array_is_no_int h = h

abbrev pub one_global : Cell
one_global = cell.Array (record { home = None; start = 1; len = 1 })

pub one_global_is_one_int : HasKind small [] (kind.Reference (Some 1)) one_global
one_global_is_one_int = record { short = omega arith; ints = omega arith; exact = λ n e. let both : Some 1 ≡ Some n = e in cc }

pub two_are_not : HasKind small [] (kind.Reference (Some 1)) both_globals → ⊥
two_are_not h = let one : 2 ≡ 1 = h.exact 1 refl in omega (arith, one)

pub an_operand_is_missing : HaveKinds small [] (kind.Int ∷ kind.Int ∷ []) (int 5 ∷ []) → ⊥
an_operand_is_missing h = h.1

pub no_slots : AreSlots small [] (home.Function 0) []
no_slots zero x is = cc
no_slots (suc slot) x is = cc

-- it is loaded as an int
pub no_array_in_its_slot : AreSlots small [] (home.Function 0) (both_globals ∷ []) → ⊥
no_array_in_its_slot h = let e = (h 0 both_globals refl).int it_is_loaded in cc

pub a_block_in_its_body : AreInBodies 1 (record { bodies = 1; slot = 0 } ∷ [])
a_block_in_its_body = ((omega arith, omega arith), tt)

pub a_block_in_no_body : AreInBodies 1 (record { bodies = 2; slot = 0 } ∷ []) → ⊥
a_block_in_no_body h = let le = h.0.1 in omega (arith, le)

pub counts_of_own_blocks : one_if true ∷ one_if false ∷ own_in 2 (record { bodies = 2; slot = 0 } ∷ record { bodies = 1; slot = 0 } ∷ []) ∷ own_blocks (in_block 1) ∷ own_blocks in_async ∷ []
    ≡ 1 ∷ 0 ∷ 1 ∷ 1 ∷ 0 ∷ []
counts_of_own_blocks = refl

-- its thread is in the block 3
abbrev pub life : Phase → Option BlockId → Life
life phase start = record { phase = phase; start = start; thread = record nobody { block = Some (block 3) } }

pub lives_at_their_numbers : (life_at (life Going None ∷ []) (item 0) ≡ life Going None) × (life_at (life Going None ∷ []) (item 1) ≡ no_life) × (no_life.phase ≡ Gone)
lives_at_their_numbers = (refl, refl, refl)

pub phases_of_a_life : (is_living Gone ∷ is_living Going ∷ is_living (AtFinish (block 1)) ∷ [] ≡ false ∷ true ∷ true ∷ [])
    × (is_going Gone ∷ is_going Going ∷ is_going (AtFinish (block 1)) ∷ [] ≡ false ∷ true ∷ false ∷ [])
phases_of_a_life = (refl, refl)

pub where_it_started : (is_at (Some (block 1)) (block 1) ∷ is_at (Some (block 2)) (block 1) ∷ is_at None (block 1) ∷ [] ≡ true ∷ false ∷ false ∷ [])
    × (starts_in (block 1) (life Going (Some (block 1))) ∷ starts_in (block 1) (life Gone (Some (block 1))) ∷ starts_in (block 1) (life Going None) ∷ [] ≡ 1 ∷ 0 ∷ 0 ∷ [])
where_it_started = (refl, refl)

pub in_which_block_it_is : innermost_in Gone (Some (block 3)) ∷ innermost_in (AtFinish (block 1)) (Some (block 3)) ∷ innermost (life Going None) ∷ []
    ≡ None ∷ Some (block 1) ∷ Some (block 3) ∷ []
in_which_block_it_is = refl

pub an_older_thread_is_its_owner : IsStarted (Some (owned 1 false) ∷ []) (item 1) (block 0)
an_older_thread_is_its_owner = record { block = owned 1 false; here = refl; older = omega arith }

pub its_owner_was_not_started_in_it : IsStarted (Some (owned 1 false) ∷ []) (item 0) (block 0) → ⊥
its_owner_was_not_started_in_it h = let lt = h.older in omega (arith, lt)

pub how_often_it_stands_there : one_at 2 (item 2) ∷ one_at 2 (item 1) ∷ occurs 2 (item 2 ∷ item 1 ∷ item 2 ∷ []) ∷ [] ≡ 1 ∷ 0 ∷ 2 ∷ []
how_often_it_stands_there = refl

pub how_many_run : (runs 2 (Some (item 2)) ∷ runs 2 (Some (item 1)) ∷ runs 2 None ∷ [] ≡ 1 ∷ 0 ∷ 0 ∷ []) × (total (λ (n : ℕ). n) (1 ∷ 2 ∷ []) ≡ 3)
how_many_run = (refl, refl)

pub one_block_was_entered : HasEntered (Some (owned 1 false) ∷ []) (item 0) None 1 (Some (block 0))
one_block_was_entered = inside 0 (block 0) (owned 1 false) refl refl outside

-- where none was entered, it is in the one in which it was started
where_it_is : (blocks : List (Option Block)) (t : Item) (start b : Option BlockId) (n : ℕ) → n ≡ 0 → HasEntered blocks t start n b → b ≡ start
where_it_is blocks t start b n e outside = refl
where_it_is blocks t start b n e (inside m c x here owner rest) = absurd (omega (arith, e))

pub no_block_was_entered : HasEntered (Some (owned 1 false) ∷ []) (item 0) None 0 (Some (block 0)) → ⊥
no_block_was_entered h = let e : Some (block 0) ≡ None = where_it_is (Some (owned 1 false) ∷ []) (item 0) None (Some (block 0)) 0 refl h in cc

-- ---- operations

-- the thread 1 sends 5, and the thread 2 receives into a global
abbrev pub sends : Operation
sends = started 0 (asked.Send (pos 5 ∷ [])) (item 1)

abbrev pub receives : Operation
receives = started 1 (asked.Recv (record { home = None; start = 1; len = 1 })) (item 2)

pub two_threads_wait_for_an_end : items_of (sends ∷ receives ∷ []) ≡ item 1 ∷ item 2 ∷ []
two_threads_wait_for_an_end = refl

-- an int comes on top of its operands
pub as_it_will_go_on : (going_on (sends ∷ receives ∷ []) (item 2) (record nobody { operands = int 7 ∷ [] })).operands ≡ int 0 ∷ int 7 ∷ []
as_it_will_go_on = refl

pub another_goes_on_as_it_is : (going_on (sends ∷ receives ∷ []) (item 3) (record nobody { operands = int 7 ∷ [] })).operands ≡ int 7 ∷ []
another_goes_on_as_it_is = refl

-- the channels 0 and 1 carry one int, and the channel 2 two
abbrev pub wide : Parts
wide = record small { widths = 1 ∷ 1 ∷ 2 ∷ [] }

abbrev pub both_places : Place
both_places = record { home = None; start = 0; len = 2 }

pub a_message_goes_into_one_int : IsAsked wide [] 0 sends.asked × IsAsked wide [] 1 receives.asked
a_message_goes_into_one_int = (refl, record { short = omega arith; ints = omega arith; exact = λ n e. let both : Some 1 ≡ Some n = e in cc })

pub a_message_of_two_ints : IsAsked wide [] 2 (asked.Send (pos 5 ∷ pos 6 ∷ [])) × IsAsked wide [] 2 (asked.Recv both_places)
a_message_of_two_ints = (refl, record { short = omega arith; ints = omega arith; exact = λ n e. let both : Some 2 ≡ Some n = e in cc })

pub not_with_an_int_more : IsAsked wide [] 0 (asked.Send (pos 5 ∷ pos 6 ∷ [])) → ⊥
not_with_an_int_more h = let no : 2 ≡ 1 = h in omega (arith, no)

pub nor_with_one_fewer : IsAsked wide [] 2 (asked.Send (pos 5 ∷ [])) → ⊥
nor_with_one_fewer h = let no : 1 ≡ 2 = h in omega (arith, no)

pub one_int_does_not_go_into_two : IsAsked wide [] 1 (asked.Recv both_places) → ⊥
one_int_does_not_go_into_two h = let no : 2 ≡ 1 = h.exact 1 refl in omega (arith, no)

-- the thread 3 reads from the place 4 of the file 6 into both globals, and the thread 4 writes two bytes there
abbrev pub reads : Operation
reads = started 2 (asked.Read 6 4 (record { home = None; start = 0; len = 2 })) (item 3)

abbrev pub writes : Operation
writes = started 2 (asked.Write 6 4 (66 ∷ 9 ∷ [])) (item 4)

pub what_is_read_goes_into_an_array : IsAsked small [] 2 reads.asked × IsAsked small [] 2 writes.asked
what_is_read_goes_into_an_array = (record { short = omega arith; ints = omega arith; exact = λ n e. cc }, tt)

pub no_third_global_is_read_into : IsAsked small [] 2 (asked.Read 6 4 (record { home = None; start = 0; len = 3 })) → ⊥
no_third_global_is_read_into h = let room : 3 ≤ 2 = h.ints in omega (arith, room)

-- ---- what is left to do

-- an offer and an end are still to come, an end alone, and a message
pub entries_before_an_end : entries_left sends ∷ entries_left (offered_as 3 sends) ∷ entries_left receives ∷ [] ≡ 2 ∷ 1 ∷ 1 ∷ []
entries_before_an_end = refl

-- an offer, a beginning and an answer, then a beginning and an answer, and then an answer alone
pub entries_before_an_answer : entries_left reads ∷ entries_left (offered_as 3 reads) ∷ entries_left (as_begun (offered_as 3 reads)) ∷ entries_left writes ∷ [] ≡ 3 ∷ 2 ∷ 1 ∷ 3 ∷ []
entries_before_an_answer = refl

pub weights_of_ranks : grown 0 ∷ grown 1 ∷ grown 2 ∷ [] ≡ 3 ∷ 8 ∷ 18 ∷ []
weights_of_ranks = refl

-- the threads stand at the address 1, whose rank is 1: each has a dispatch before it, and then 8
abbrev pub threads : List Thread
threads = nobody ∷ record nobody { place = 1 } ∷ record nobody { place = 1 } ∷ []

pub weights_of_operations : operation_weight (2 ∷ 1 ∷ []) threads sends ∷ operation_weight (2 ∷ 1 ∷ []) threads receives ∷ [] ≡ 11 ∷ 10 ∷ []
weights_of_operations = refl

pub the_weight_of_both : operations_weight (2 ∷ 1 ∷ []) threads (sends ∷ receives ∷ []) ≡ 21
the_weight_of_both = refl

-- its thread stands at the address 5, whose rank is 1; an end is left to it, with a dispatch and then 8; and one entry is to come
abbrev ranks_of_six : List ℕ
ranks_of_six = 0 ∷ 0 ∷ 0 ∷ 0 ∷ 0 ∷ 1 ∷ []

pub one_entry_is_to_come : (left ranks_of_six 0 (offered (known ∷ [])) ≡ 10) × (left_to_come ranks_of_six 0 (offered (known ∷ [])) ≡ 11)
one_entry_is_to_come = (refl, refl)
