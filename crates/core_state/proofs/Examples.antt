-- What the definitions of Shared, Arithmetic and Moves say of small values.
-- Values compute. Of moves, a machine that counts down shows what it comes to, and by induction on the number of moves that it comes to
-- nothing else.
use Rattle.std.proofs.Common.{◌≡◌, refl, sym, ℕ, zero, suc, ◌≤◌, ℤ, pos, List, [], ◌∷◌, ◌++◌, ◌*◌, codes, length, arith, None, Some}
use Rattle.std.specs.Prelude.{negsuc, Ok, Err, true, false, Result, Option}
use Rattle.std.specs.Fmt.{decimal, signed_decimal}
use Rattle.std.proofs.lemmas.Fmt.{decimal_digit}
use Rattle.ac_base.specs.declared.ends.Trap.{Trap}
use Rattle.ac_base.specs.declared.ends.Trap.TheVariants.{ZeroDivisor, Index, StackFull}
use Rattle.work_item.specs.declared.cell.Place.{Place}
use Rattle.work_item.specs.declared.cell.Cell.TheVariants as cell
use Rattle.work_item.specs.Store.{no_place, Store, no_int}
use Rattle.core_state.specs.Moves.{Move, On, Over, moves, EndsAs, GoesOn, ComesTo, and_then}
use Rattle.core_state.specs.Arithmetic.{sum_of, negated, quotient, remainder, shifted_left, shifted_right, is_less, truth, both_bits, either_bits, differing_bits, low_byte}
use Rattle.core_state.specs.Arithmetic.{Computed, bind, at_zero, truth_of, not_true, flipped, difference_of, product_of, shift_count, is_equal, is_not_equal, is_at_most}
use Rattle.core_state.specs.Frames.{within, has_words, arguments, first_cells, first_store, first_frame}
use Rattle.core_state.specs.Frames.{element, set_element, one_place, part_at, word_limit, begun, argument, begun_with, with_entered, block_in}
use Rattle.core_state.specs.Shared.{formatted}
use Rattle.core_state.specs.Shared.{Shared, with_step, with_turn, request_link, first_shared, output_limit, formatted_from, printed, core_end, seen_left, seen, if_turn, begins_with, begins}
use Rattle.ac_base.specs.declared.ends.CoreEnd.{CoreEnd}
use Rattle.ac_base.specs.declared.ends.EndWord.TheVariants as word
use Rattle.ac_base.specs.declared.entry.Entry.{Entry}
use Rattle.work_item.specs.declared.ids.FrameId.{FrameId}

-- the decimal texts of digits, which do not compute
two : decimal 2 ≡ codes "2"
two = decimal_digit 2 (omega arith)

five : decimal 5 ≡ codes "5"
five = decimal_digit 5 (omega arith)

seven : decimal 7 ≡ codes "7"
seven = decimal_digit 7 (omega arith)

-- ---- printf

pub a_number_and_a_line_feed : (v : ℤ) → formatted (codes "%d\n") (v ∷ []) ≡ signed_decimal v ++ codes "\n"
a_number_and_a_line_feed v = refl

pub two_numbers : formatted (codes "x=%d, y=%d.") (pos 7 ∷ negsuc 1 ∷ []) ≡ codes "x=7, y=-2."
two_numbers = rw (two, seven) refl

pub two_percent_signs_are_one : formatted (codes "100%%") [] ≡ codes "100%"
two_percent_signs_are_one = refl

pub a_percent_sign_takes_no_value : formatted (codes "%c%%%d") (pos 321 ∷ pos 5 ∷ []) ≡ codes "A%5"
a_percent_sign_takes_no_value = rw five refl

pub a_byte_of_a_number_below_nought : formatted (codes "%c") (negsuc 0 ∷ []) ≡ 255 ∷ []
a_byte_of_a_number_below_nought = refl

-- ---- numbers of 64 bits

pub the_sum_wraps : sum_of (pos 9223372036854775807) (pos 1) ≡ negsuc 9223372036854775807
the_sum_wraps = refl

pub the_least_is_its_own_opposite : negated (negsuc 9223372036854775807) ≡ negsuc 9223372036854775807
the_least_is_its_own_opposite = refl

pub the_least_by_minus_one : quotient (negsuc 9223372036854775807) (negsuc 0) ≡ Ok (negsuc 9223372036854775807)
the_least_by_minus_one = refl

pub the_least_by_minus_one_leaves_nothing : remainder (negsuc 9223372036854775807) (negsuc 0) ≡ Ok (pos 0)
the_least_by_minus_one_leaves_nothing = refl

pub quotients_go_towards_nought : quotient (negsuc 6) (pos 2) ≡ Ok (negsuc 2)
quotients_go_towards_nought = refl

pub a_remainder_has_the_sign_of_the_dividend : remainder (negsuc 6) (pos 2) ≡ Ok (negsuc 0)
a_remainder_has_the_sign_of_the_dividend = refl

pub nothing_is_divided_by_nought : quotient (pos 7) (pos 0) ≡ Err ZeroDivisor
nothing_is_divided_by_nought = refl

pub a_shift_by_64_is_none : shifted_left (pos 3) (pos 64) ≡ pos 3
a_shift_by_64_is_none = refl

pub a_shift_by_minus_one_is_by_63 : shifted_left (pos 1) (negsuc 0) ≡ negsuc 9223372036854775807
a_shift_by_minus_one_is_by_63 = refl

pub a_shift_to_the_right_keeps_the_sign : shifted_right (negsuc 7) (pos 1) ≡ negsuc 3
a_shift_to_the_right_keeps_the_sign = refl

pub numbers_below_nought_are_less : is_less (negsuc 0) (pos 0) ≡ pos 1
numbers_below_nought_are_less = refl

pub not_less_than_itself : is_less (pos 3) (pos 3) ≡ pos 0
not_less_than_itself = refl

pub what_is_not_nought_is_true : truth (negsuc 4) ≡ pos 1
what_is_not_nought_is_true = refl

-- ---- elements

pub the_last_index : within (record { home = None; start = 5; len = 3 }) (pos 2) ≡ Ok 2
the_last_index = refl

pub no_index_at_the_length : within (record { home = None; start = 5; len = 3 }) (pos 3) ≡ Err Index
no_index_at_the_length = refl

pub no_index_below_nought : within (record { home = None; start = 5; len = 3 }) (negsuc 0) ≡ Err Index
no_index_below_nought = refl

-- ---- frames

-- a frame takes its slots and four words more
pub the_largest_frame : has_words (first_store []) 4194300 ≡ true
the_largest_frame = refl

pub no_larger_frame : has_words (first_store []) 4194301 ≡ false
no_larger_frame = refl

pub globals_count_too : has_words (first_store (pos 1 ∷ pos 2 ∷ [])) 4194299 ≡ false
globals_count_too = refl

-- ---- calls

abbrev pub three_slots : Place
three_slots = record { home = None; start = 5; len = 3 }

pub operands_by_their_parameters : arguments (true ∷ false ∷ []) (cell.Array three_slots ∷ cell.Int (pos 7) ∷ []) ≡ cell.Array three_slots ∷ cell.Int (pos 7) ∷ []
operands_by_their_parameters = refl

pub an_int_is_no_array : arguments (true ∷ []) (cell.Int (pos 7) ∷ []) ≡ cell.Array no_place ∷ []
an_int_is_no_array = refl

pub an_array_is_no_int : arguments (false ∷ []) (cell.Array three_slots ∷ []) ≡ cell.Int (pos 0) ∷ []
an_array_is_no_int = refl

pub the_other_slots_hold_nought : first_cells (cell.Int (pos 7) ∷ []) 3 ≡ cell.Int (pos 7) ∷ cell.Int (pos 0) ∷ cell.Int (pos 0) ∷ []
the_other_slots_hold_nought = refl

-- ---- moves

pub it_stays_at_an_end : moves {S = ℕ} {E = ℕ} (λ s. Over s) 5 3 ≡ Over 3
it_stays_at_an_end = refl

-- it counts down, and ends with 7
abbrev pub down : ℕ → Move ℕ ℕ
down zero = Over 7
down (suc n) = On n

pub two_moves : moves down 2 5 ≡ On 3
two_moves = refl

pub it_ends_with_seven : EndsAs down 2 7
it_ends_with_seven = (3, refl)

pub it_goes_on : GoesOn down (On 5) (On 3)
it_goes_on = (2, refl)

pub it_comes_to_seven : ComesTo down (On 1) 7
it_comes_to_seven = (2, refl)

-- an end comes to itself alone
same_end : {a b : ℕ} → ◌≡◌ {A = Move ℕ ℕ} (Over a) (Over b) → a ≡ b
same_end e = cc

pub no_end_comes_to_another : ComesTo down (Over 7) 8 → ⊥
no_end_comes_to_another (n, e) = let s : 8 ≡ 7 = same_end e in omega (arith, s)

-- and so no other end comes of the same state
ends_so : (n s e : ℕ) → moves down n s ≡ Over e → e ≡ 7
ends_so zero s e h = cc
ends_so (suc n) zero e h = same_end (sym h)
ends_so (suc n) (suc s) e h = ends_so n s e h

pub it_ends_with_no_other : EndsAs down 2 8 → ⊥
it_ends_with_no_other (n, h) = let e : 8 ≡ 7 = ends_so n 2 8 h in omega (arith, e)

-- it does not go up
no_higher : (k s t : ℕ) → On t ≡ moves down k s → t ≤ s
no_higher zero s t h = let e = same_state h in omega (arith, e) where
  same_state : {a b : ℕ} → ◌≡◌ {A = Move ℕ ℕ} (On a) (On b) → a ≡ b
  same_state e = cc
no_higher (suc k) zero t h = cc
no_higher (suc k) (suc s) t h = let le = no_higher k s t h in omega (arith, le)

pub it_does_not_go_up : GoesOn down (On 5) (On 6) → ⊥
it_does_not_go_up (k, h) = let le = no_higher k 5 6 h in omega (arith, le)

-- ---- more of numbers

pub nought_is_told_from_the_rest : at_zero (pos 0) (pos 1) (pos 2) ∷ at_zero (pos 1) (pos 1) (pos 2) ∷ at_zero (negsuc 0) (pos 1) (pos 2) ∷ [] ≡ pos 1 ∷ pos 2 ∷ pos 2 ∷ []
nought_is_told_from_the_rest = refl

abbrev pub halved : Computed → Computed
halved x = bind x (λ v. quotient v (pos 2))

pub a_trap_is_kept : (halved (Ok (pos 7)) ≡ Ok (pos 3)) × (halved (Err Index) ≡ Err Index)
a_trap_is_kept = (refl, refl)

pub truths_are_one_and_nought : truth_of true ∷ truth_of false ∷ not_true (pos 0) ∷ not_true (negsuc 1) ∷ [] ≡ pos 1 ∷ pos 0 ∷ pos 1 ∷ pos 0 ∷ []
truths_are_one_and_nought = refl

pub every_bit_is_flipped : flipped (pos 0) ∷ flipped (pos 5) ∷ flipped (negsuc 5) ∷ [] ≡ negsuc 0 ∷ negsuc 5 ∷ pos 5 ∷ []
every_bit_is_flipped = refl

-- the least number less one is the greatest, and twice 2 ^ 63 is nought
pub differences_and_products_wrap : (difference_of (negsuc 9223372036854775807) (pos 1) ≡ pos 9223372036854775807) × (product_of (negsuc 9223372036854775807) (pos 2) ≡ pos 0)
differences_and_products_wrap = (refl, refl)

pub counts_of_shifts : shift_count (pos 63) ∷ shift_count (pos 65) ∷ shift_count (negsuc 0) ∷ [] ≡ 63 ∷ 1 ∷ 63 ∷ []
counts_of_shifts = refl

-- of equal numbers and of others
pub comparisons : (is_equal (pos 3) (pos 3) ∷ is_not_equal (pos 3) (pos 3) ∷ is_at_most (pos 3) (pos 3) ∷ [] ≡ pos 1 ∷ pos 0 ∷ pos 1 ∷ [])
    × (is_equal (pos 3) (negsuc 3) ∷ is_not_equal (pos 3) (negsuc 3) ∷ is_at_most (pos 3) (negsuc 3) ∷ [] ≡ pos 0 ∷ pos 1 ∷ pos 0 ∷ [])
comparisons = (refl, refl)

-- of 1100 and 1010
pub bits : both_bits (pos 12) (pos 10) ∷ either_bits (pos 12) (pos 10) ∷ differing_bits (pos 12) (pos 10) ∷ [] ≡ pos 8 ∷ pos 14 ∷ pos 6 ∷ []
bits = refl

-- -1 has every bit
pub bits_of_a_number_below_nought : both_bits (negsuc 0) (pos 10) ∷ either_bits (negsuc 0) (pos 10) ∷ differing_bits (negsuc 0) (pos 10) ∷ []
    ≡ pos 10 ∷ negsuc 0 ∷ negsuc 10 ∷ []
bits_of_a_number_below_nought = refl

pub low_bytes : low_byte (pos 321) ∷ low_byte (pos 255) ∷ low_byte (negsuc 1) ∷ [] ≡ 65 ∷ 255 ∷ 254 ∷ []
low_bytes = refl

-- ---- directives

pub after_a_percent_sign : (formatted_from true (codes "c%%") (pos 65 ∷ []) ≡ codes "A%") × (formatted_from false (codes "c%%") (pos 65 ∷ []) ≡ codes "c%")
after_a_percent_sign = (refl, refl)

-- ---- elements of an array of the globals from the second on

abbrev pub four_globals : Store
four_globals = first_store (pos 4 ∷ pos 5 ∷ pos 6 ∷ pos 7 ∷ [])

abbrev pub last_three : Place
last_three = record { home = None; start = 1; len = 3 }

pub an_element_is_read : (element four_globals last_three (pos 2) ≡ Ok (pos 7)) × (element four_globals last_three (pos 3) ≡ Err Index)
an_element_is_read = (refl, refl)

pub an_element_is_set : (set_element four_globals last_three (pos 0) (negsuc 0) ≡ Ok (first_store (pos 4 ∷ negsuc 0 ∷ pos 6 ∷ pos 7 ∷ [])))
    × (set_element four_globals last_three (negsuc 0) (pos 9) ≡ Err Index)
an_element_is_set = (refl, refl)

pub an_element_is_an_array_of_one : one_place last_three 2 ≡ record { home = None; start = 3; len = 1 }
an_element_is_an_array_of_one = refl

pub a_part_of_an_array : (part_at last_three (pos 2) ≡ Ok (record { home = None; start = 3; len = 1 })) × (part_at last_three (pos 3) ≡ Err Index)
a_part_of_an_array = (refl, refl)

-- ---- frames begin

abbrev pub frame : FrameId
frame = record { number = 0 }

pub a_parameter_takes_its_kind : argument true (cell.Array three_slots) ∷ argument true (cell.Int (pos 7)) ∷ argument false (cell.Int (pos 7)) ∷ argument false (cell.Array three_slots) ∷ []
    ≡ cell.Array three_slots ∷ cell.Array no_place ∷ cell.Int (pos 7) ∷ cell.Int (pos 0) ∷ []
a_parameter_takes_its_kind = refl

-- one int, in a frame of two slots
pub a_call_begins : begun_with (first_store []) (false ∷ []) 2 (cell.Int (pos 7) ∷ [])
    ≡ Ok (record { globals = []; frames = Some (record { parent = None; cells = cell.Int (pos 7) ∷ cell.Int (pos 0) ∷ []; over = false }) ∷ [] })
a_call_begins = refl

-- 4096 times 1024
pub four_mebi : (word_limit ≡ 4096 * 1024) × (output_limit ≡ 4096 * 1024)
four_mebi = (refl, refl)

pub a_block_is_kept_in_its_slot : with_entered (record { globals = []; frames = Some (record { parent = None; cells = no_int ∷ no_int ∷ []; over = false }) ∷ [] }) frame 1 5
    ≡ record { globals = []; frames = Some (record { parent = None; cells = no_int ∷ cell.Block (record { number = 5 }) ∷ []; over = false }) ∷ [] }
a_block_is_kept_in_its_slot = refl

pub the_block_of_a_slot : (block_in (cell.Block (record { number = 5 })) ≡ record { number = 5 }) × (block_in (cell.Int (pos 5)) ≡ record { number = 0 })
the_block_of_a_slot = (refl, refl)

-- ---- what is shared

-- three steps, that many turns, and two bytes printed
abbrev pub shared : ℕ → List Entry → Shared
shared turn todo = record { steps = 3; turn = turn; output = codes "ok"; past = []; todo = todo; requests = 2 }

pub a_step_and_a_turn : (with_step (shared 8 []) ≡ record (shared 8 []) { steps = 4 }) × (with_turn (shared 8 []) ≡ shared 9 [])
a_step_and_a_turn = (refl, refl)

abbrev pub ended_well : CoreEnd
ended_well = record { word = word.Finished; steps = 3; output = codes "ok"; globals = pos 4 ∷ []; waiting = []; idle = false }

-- nothing is seen while an entry is to come
pub an_end_is_seen : (entry : Entry) → (seen_left word.Finished false (pos 4 ∷ []) [] (shared 8 []) [] ≡ Some ended_well)
    × (seen_left word.Finished false (pos 4 ∷ []) [] (shared 8 []) (entry ∷ []) ≡ None)
an_end_is_seen entry = (refl, refl)

-- moves whose ends are what is seen
abbrev pub Ends : Type 0
Ends = Move ℕ (Option CoreEnd)

abbrev pub turn_after : ℕ → Ends
turn_after turn = if_turn (λ seen. seen) (pos 4 ∷ []) [] (shared turn []) (On 1)

-- a core has 2 ^ 64 - 1 turns
pub the_last_turn : turn_after 18446744073709551614 ≡ On 1
the_last_turn = refl

pub no_turn_is_left : turn_after 18446744073709551615 ≡ Over (Some (record ended_well { word = word.OutOfSteps }))
no_turn_is_left = refl

abbrev pub begins_as : Result Store Trap → Ends
begins_as made = begins_with (λ seen. seen) (pos 4 ∷ []) (shared 8 []) made (λ store. On (length store.globals))

pub where_there_is_room_it_begins : (begins_as (Ok four_globals) ≡ On 4) × (begins_as (Err StackFull) ≡ Over (Some (record ended_well { word = word.Trapped StackFull })))
where_there_is_room_it_begins = (refl, refl)

abbrev pub begun_in : ℕ → Ends
begun_in slots = begins (λ seen. seen) (pos 4 ∷ []) (shared 8 []) slots (λ store. On (length store.frames))

pub it_begins_in_its_frame : begun_in 2 ≡ On 1
it_begins_in_its_frame = refl

-- ---- the wholes of these

pub a_new_frame : begun (first_store []) None (cell.Int (pos 7) ∷ [])
    ≡ Ok (record { globals = []; frames = Some (record { parent = None; cells = cell.Int (pos 7) ∷ []; over = false }) ∷ [] })
a_new_frame = refl

pub one_byte_is_printed : printed (shared 8 []) (codes "!") ≡ Ok (record (shared 8 []) { output = codes "ok!" })
one_byte_is_printed = refl

-- of a core with the number 1, in a program with two channels
pub nothing_was_done_at_first : (journal : List Entry) → first_shared (request_link 2 1) journal ≡ record { steps = 0; turn = 0; output = []; past = []; todo = journal; requests = 3 }
nothing_was_done_at_first journal = refl

pub the_whole_of_an_end : (core_end word.Finished false (pos 4 ∷ []) [] (shared 8 []) ≡ ended_well) × (seen word.Finished false (pos 4 ∷ []) [] (shared 8 []) ≡ Some ended_well)
the_whole_of_an_end = (refl, refl)

pub an_end_stays : (and_then {S = ℕ} {T = ℕ} {E = ℕ} (On 3) down ≡ On 2) × (and_then {S = ℕ} {T = ℕ} {E = ℕ} (Over 7) down ≡ Over 7) × (first_frame ≡ frame)
an_end_stays = (refl, refl, refl)
