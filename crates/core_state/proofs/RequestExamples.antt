-- What the definitions of Requests say of an array of three ints in the globals.
-- Ranges that are right and ranges that are not, one off at each bound; and what each kind of answer stores and gives.
use Rattle.std.proofs.Common.{◌≡◌, refl, pos, negsuc, [], ◌∷◌, None}
use Rattle.std.specs.Prelude.{true, false, Ok, Err}
use Rattle.ac_base.specs.declared.ends.Trap.TheVariants.{FileRange}
use Rattle.ac_base.specs.declared.entry.Answer.TheVariants.{Bytes, Count, Fault}
use Rattle.work_item.specs.declared.cell.Place.{Place}
use Rattle.work_item.specs.Store.{Store}
use Rattle.cancel_scope.specs.declared.operation.Asked.TheVariants.{Send, Read, Write}
use Rattle.core_state.specs.Requests.{request_limit, file_limit, bytes_from, bytes_at, with_bytes_from, with_bytes_at, first_of, is_in_range, if_in_range}
use Rattle.core_state.specs.Requests.{read_of, write_of, fault, bytes_for, value_of, with_answer}

-- 65, 322 and -1 after an 8
abbrev pub store : Store
store = record { globals = pos 8 ∷ pos 65 ∷ pos 322 ∷ negsuc 0 ∷ []; frames = [] }

abbrev pub three : Place
three = record { home = None; start = 1; len = 3 }

abbrev pub two : Place
two = record { home = None; start = 1; len = 2 }

abbrev pub many : Place
many = record { home = None; start = 1; len = 300 }

-- ---- what is asked for

-- 322 is 256 + 66
pub the_low_bytes_are_taken : (bytes_at store three ≡ 65 ∷ 66 ∷ 255 ∷ []) × (bytes_from store None 2 1 ≡ 66 ∷ []) × (first_of three 2 ≡ two)
the_low_bytes_are_taken = (refl, refl, refl)

pub one_byte_is_stored_in_each : (with_bytes_at store three (1 ∷ 2 ∷ []) ≡ record store { globals = pos 8 ∷ pos 1 ∷ pos 2 ∷ negsuc 0 ∷ [] })
    × (with_bytes_from store None 3 (7 ∷ []) ≡ record store { globals = pos 8 ∷ pos 65 ∷ pos 322 ∷ pos 7 ∷ [] }) × (with_bytes_at store three [] ≡ store)
one_byte_is_stored_in_each = (refl, refl, refl)

pub both_ask_for_the_first_elements : (read_of 6 (pos 9) (pos 2) three ≡ Ok (Read 6 9 two)) × (write_of store 6 (pos 9) (pos 2) three ≡ Ok (Write 6 9 (65 ∷ 66 ∷ [])))
    × (read_of 6 (pos 9) (pos 0) three ≡ Ok (Read 6 9 (first_of three 0)))
both_ask_for_the_first_elements = (refl, refl, refl)

-- a place or a length below 0, a length over that of the array or over 256, and an end over that of the greatest file
pub out_of_range : (read_of 6 (negsuc 0) (pos 2) three ≡ Err FileRange) × (read_of 6 (pos 9) (negsuc 0) three ≡ Err FileRange) × (read_of 6 (pos 9) (pos 4) three ≡ Err FileRange)
    × (read_of 6 (pos 9) (pos 257) many ≡ Err FileRange) × (read_of 6 (pos 1048575) (pos 2) three ≡ Err FileRange) × (write_of store 6 (pos 1048575) (pos 2) three ≡ Err FileRange)
out_of_range = (refl, refl, refl, refl, refl, refl)

-- at each of the limits
pub just_in_range : (is_in_range many 0 256 ≡ true) × (is_in_range many 0 257 ≡ false) × (is_in_range three 1048573 3 ≡ true) × (is_in_range three 1048574 3 ≡ false)
    × (is_in_range three 1048576 0 ≡ true) × (request_limit ≡ 256) × (file_limit ≡ 1048576)
    × (if_in_range three (pos 1048574) (pos 2) (Read 6) ≡ Ok (Read 6 1048574 two))
just_in_range = (refl, refl, refl, refl, refl, refl, refl, refl)

-- ---- what an answer gives

-- a count of the bytes, and no more of them than were asked for; any other answer is FAULT
pub values_of_requests : (value_of (Read 6 9 two) (Bytes (7 ∷ [])) ≡ pos 1) × (value_of (Read 6 9 two) (Bytes (7 ∷ 8 ∷ 9 ∷ [])) ≡ pos 2) × (value_of (Read 6 9 two) (Count 2) ≡ negsuc 1)
    × (value_of (Read 6 9 two) (Fault 0) ≡ negsuc 1) × (value_of (Write 6 9 (65 ∷ [])) (Count 1) ≡ pos 1) × (value_of (Write 6 9 (65 ∷ [])) (Fault 1) ≡ negsuc 1)
    × (value_of (Write 6 9 (65 ∷ [])) (Bytes (7 ∷ [])) ≡ negsuc 1) × (value_of (Send (pos 5 ∷ [])) (Count 1) ≡ fault)
values_of_requests = (refl, refl, refl, refl, refl, refl, refl, refl)

pub a_read_stores_what_came : (with_answer store (Read 6 9 two) (Bytes (7 ∷ [])) ≡ record store { globals = pos 8 ∷ pos 7 ∷ pos 322 ∷ negsuc 0 ∷ [] })
    × (with_answer store (Read 6 9 two) (Bytes (7 ∷ 8 ∷ 9 ∷ [])) ≡ record store { globals = pos 8 ∷ pos 7 ∷ pos 8 ∷ negsuc 0 ∷ [] }) × (bytes_for two (7 ∷ 8 ∷ 9 ∷ []) ≡ 7 ∷ 8 ∷ [])
a_read_stores_what_came = (refl, refl, refl)

pub nothing_else_is_stored : (with_answer store (Read 6 9 two) (Fault 0) ≡ store) × (with_answer store (Write 6 9 (65 ∷ [])) (Count 1) ≡ store)
    × (with_answer store (Write 6 9 (65 ∷ [])) (Bytes (7 ∷ [])) ≡ store)
nothing_else_is_stored = (refl, refl, refl)
