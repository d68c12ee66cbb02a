-- What the definitions of Store, Conditions and Table say of small stores.
-- Each law computes: of each definition a case that holds, and where it asks for something one that does not.
use Rattle.std.proofs.Common.{◌≡◌, refl, ℕ, zero, suc, ◌<◌, pos, List, [], ◌∷◌, Option, None, Some, Bool, true, false, arith}
use Rattle.std.specs.Prelude.{negsuc}
use Rattle.work_item.specs.declared.ids.FrameId.{FrameId}
use Rattle.work_item.specs.declared.cell.Place.{Place}
use Rattle.work_item.specs.declared.cell.Cell.{Cell}
use Rattle.work_item.specs.declared.cell.Cell.TheVariants as c
use Rattle.work_item.specs.Store.{Frame, Store, no_frames, next_frame, made, above, cell_at, with_cell_at, global_at, with_global, int_in, place_in, no_place, int_at, with_int_at}
use Rattle.work_item.specs.Store.{all_words}
use Rattle.work_item.specs.Store.{cleared_front, cleared, is_number, is_parent, any_in, kept_one, kept, some_over, frame_words}
use Rattle.work_item.specs.Store.{frame_at, no_cells, cells_of, no_int, parent_is, parent_or, cell_of, some_with, with_cells, with_cell, int_from, with_int_from}
use Rattle.work_item.specs.Store.{with_cleared, released, live_words}
use Rattle.work_item.specs.Conditions.{Lives, HomeLives, ParentLives, HasLevel, HasSlot, HasGlobal, IsGoing, HasParent}
use Rattle.work_item.specs.Table.{children_of, IsWhole, IsSettled, at}
use Rattle.work_item.specs.inner.Kept.{is_done}

abbrev pub frame : ℕ → FrameId
frame number = record { number = number }

abbrev pub int : ℕ → Cell
int value = c.Int (pos value)

-- an array of so many elements, which lies in the frame 0 from that slot on, or in the globals
abbrev pub local : ℕ → ℕ → Place
local start len = record { home = Some (frame 0); start = start; len = len }

abbrev pub global : ℕ → ℕ → Place
global start len = record { home = None; start = start; len = len }

-- the frame 0 lies in none and holds two ints; the frame 2 lies in it and holds a reference to the second, an int and a block
abbrev pub outer : Bool → Frame
outer over = record { parent = None; cells = int 4 ∷ int 5 ∷ []; over = over }

abbrev pub inner : List Cell → Frame
inner cells = record { parent = Some (frame 0); cells = cells; over = false }

abbrev pub three_cells : List Cell
three_cells = c.Array (local 1 1) ∷ int 6 ∷ c.Block (record { number = 0 }) ∷ []

-- two globals and these frames; the frame 1 is gone
abbrev pub with_frames : Option Frame → Option Frame → Store
with_frames first third = record { globals = pos 8 ∷ pos 9 ∷ []; frames = first ∷ None ∷ third ∷ [] }

abbrev pub store : Store
store = with_frames (Some (outer false)) (Some (inner three_cells))

-- ---- frames

pub at_first : no_frames 2 ≡ record { globals = pos 0 ∷ pos 0 ∷ []; frames = [] }
at_first = refl

-- the number of a frame that is gone is not given again
pub the_next_number : next_frame store ≡ frame 3
the_next_number = refl

pub one_is_made : made store (Some (frame 2)) (int 7 ∷ [])
    ≡ record store { frames = Some (outer false) ∷ None ∷ Some (inner three_cells) ∷ Some (record { parent = Some (frame 2); cells = int 7 ∷ []; over = false }) ∷ [] }
one_is_made = refl

pub no_level_up : above store (frame 2) 0 ≡ frame 2
no_level_up = refl

pub one_level_up : above store (frame 2) 1 ≡ frame 0
one_level_up = refl

-- ---- slots

pub a_slot_of_its_own : cell_at store (frame 2) 0 1 ≡ int 6
a_slot_of_its_own = refl

pub the_same_slot_a_level_up : cell_at store (frame 2) 1 1 ≡ int 5
the_same_slot_a_level_up = refl

pub a_slot_is_set_a_level_up : with_cell_at store (frame 2) 1 0 (c.Array no_place)
    ≡ with_frames (Some (record { parent = None; cells = c.Array no_place ∷ int 5 ∷ []; over = false })) (Some (inner three_cells))
a_slot_is_set_a_level_up = refl

pub the_second_global : global_at store 1 ≡ pos 9
the_second_global = refl

pub the_second_global_is_set : with_global store 1 (negsuc 0) ≡ record store { globals = pos 8 ∷ negsuc 0 ∷ [] }
the_second_global_is_set = refl

-- a cell of another kind reads as 0, or as an array of no elements
pub a_reference_is_no_int : int_in (c.Array (local 1 1)) ≡ pos 0
a_reference_is_no_int = refl

pub an_int_is_no_reference : place_in (int 3) ≡ record { home = None; start = 0; len = 0 }
an_int_is_no_reference = refl

-- ---- elements of arrays: the index counts from the start of the array

pub an_element_in_a_frame : int_at store (local 1 1) 0 ≡ pos 5
an_element_in_a_frame = refl

pub an_element_of_the_globals : int_at store (global 0 2) 1 ≡ pos 9
an_element_of_the_globals = refl

pub an_element_in_a_frame_is_set : with_int_at store (local 0 2) 1 (pos 3)
    ≡ with_frames (Some (record { parent = None; cells = int 4 ∷ int 3 ∷ []; over = false })) (Some (inner three_cells))
an_element_in_a_frame_is_set = refl

pub an_element_of_the_globals_is_set : with_int_at store (global 1 1) 0 (pos 3) ≡ record store { globals = pos 8 ∷ pos 3 ∷ [] }
an_element_of_the_globals_is_set = refl

-- what is cleared is 0, whatever it held; the slots before and after stay
pub one_slot_is_cleared : with_cleared store (frame 2) 1 1 ≡ with_frames (Some (outer false)) (Some (inner (c.Array (local 1 1) ∷ int 0 ∷ c.Block (record { number = 0 }) ∷ [])))
one_slot_is_cleared = refl

pub two_slots_are_cleared : with_cleared store (frame 2) 0 2 ≡ with_frames (Some (outer false)) (Some (inner (int 0 ∷ int 0 ∷ c.Block (record { number = 0 }) ∷ [])))
two_slots_are_cleared = refl

pub no_slot_is_cleared : with_cleared store (frame 2) 1 0 ≡ store
no_slot_is_cleared = refl

-- ---- the end of a frame

-- a frame in which another lies stays, and is over
pub the_outer_one_is_released : released store (frame 0) ≡ with_frames (Some (outer true)) (Some (inner three_cells))
the_outer_one_is_released = refl

-- one that is not over stays when the one in it is gone
pub the_inner_one_is_released : released store (frame 2) ≡ with_frames (Some (outer false)) None
the_inner_one_is_released = refl

-- and one that is over goes with the last one in it
pub both_are_released : released (with_frames (Some (outer true)) (Some (inner three_cells))) (frame 2) ≡ with_frames None None
both_are_released = refl

-- two globals, two slots and four words, three slots and four words
pub the_words : live_words store ≡ 15
the_words = refl

pub globals_are_words : live_words (no_frames 2) ≡ 2
globals_are_words = refl

-- ---- what calls ask for

pub the_outer_one_lives : Lives store (frame 0)
the_outer_one_lives = refl

pub one_that_is_gone_does_not : Lives store (frame 1) → ⊥
one_that_is_gone_does_not h = cc

pub nor_one_that_was_never_made : Lives store (frame 3) → ⊥
nor_one_that_was_never_made h = cc

-- an array of the globals, of a frame that lives, and of one that is gone
pub arrays_that_are_there : HomeLives store None × HomeLives store (Some (frame 0))
arrays_that_are_there = (tt, the_outer_one_lives)

pub an_array_that_is_gone : HomeLives store (Some (frame 1)) → ⊥
an_array_that_is_gone h = one_that_is_gone_does_not h

pub no_parent_is_needed : ParentLives store None
no_parent_is_needed = tt

pub a_parent_lives : ParentLives store (Some (frame 2))
a_parent_lives = refl

pub a_parent_is_gone : ParentLives store (Some (frame 1)) → ⊥
a_parent_is_gone h = cc

pub there_is_one_level : HasLevel store (frame 2) 1
there_is_one_level = (refl, refl)

pub there_are_not_two : HasLevel store (frame 2) 2 → ⊥
there_are_not_two h = let e = h.1.0 in cc

pub the_last_slot : HasSlot store (frame 0) 1
the_last_slot = omega arith

pub no_slot_past_it : HasSlot store (frame 0) 2 → ⊥
no_slot_past_it h = omega arith

pub no_slot_of_a_frame_that_is_gone : HasSlot store (frame 1) 0 → ⊥
no_slot_of_a_frame_that_is_gone h = omega arith

pub the_last_global : HasGlobal store 1
the_last_global = omega arith

pub no_global_past_it : HasGlobal store 2 → ⊥
no_global_past_it h = omega arith

pub one_that_is_not_over_goes : IsGoing store (frame 0)
one_that_is_not_over_goes = refl

pub one_that_is_over_does_not : IsGoing (with_frames (Some (outer true)) None) (frame 0) → ⊥
one_that_is_over_does_not h = cc

-- ---- what is kept of frames

pub one_lies_in_it : children_of store.frames 0 ≡ 1
one_lies_in_it = refl

pub none_lies_in_it : children_of store.frames 2 ≡ 0
none_lies_in_it = refl

pub what_is_not_over_is_not_done : is_done store.frames 2 ≡ false
what_is_not_over_is_not_done = refl

pub what_another_lies_in_is_not_done : is_done (with_frames (Some (outer true)) (Some (inner []))).frames 0 ≡ false
what_another_lies_in_is_not_done = refl

abbrev pub left_over : Store
left_over = with_frames (Some (outer true)) None

pub it_is_done : is_done left_over.frames 0 ≡ true
it_is_done = refl

-- a frame that is done does not stay
pub it_does_not_stay : IsWhole left_over.globals left_over.frames → ⊥
it_does_not_stay h = let e : 0 < children_of left_over.frames 0 = h.settled 0 (outer true) refl refl in omega (arith, e)

-- ---- the parts of these

pub what_stands_at_a_number : (frame_at store (frame 0) ≡ Some (outer false)) × (frame_at store (frame 1) ≡ None) × (frame_at store (frame 3) ≡ None)
what_stands_at_a_number = (refl, refl, refl)

pub the_cells_of_a_frame : (no_cells (Some (outer false)) ≡ int 4 ∷ int 5 ∷ []) × (cells_of store (frame 2) ≡ three_cells) × (cells_of store (frame 1) ≡ no_cells None)
the_cells_of_a_frame = (refl, refl, refl)

-- past its end a frame reads as 0
pub a_cell_of_a_frame : (cell_of store (frame 0) 1 ≡ int 5) × (cell_of store (frame 0) 2 ≡ no_int) × (no_int ≡ int 0)
a_cell_of_a_frame = (refl, refl, refl)

-- a frame that lies in none stands for its own parent, and so does one that is gone
pub parents : parent_is (frame 2) None ∷ parent_is (frame 2) (Some (frame 0)) ∷ parent_or (frame 2) (Some (inner [])) ∷ parent_or (frame 1) None ∷ []
    ≡ frame 2 ∷ frame 0 ∷ frame 0 ∷ frame 1 ∷ []
parents = refl

pub one_has_a_parent : HasParent store (frame 2)
one_has_a_parent = refl

pub one_has_none : HasParent store (frame 0) → ⊥
one_has_none h = cc

pub cells_are_replaced : (some_with (int 7 ∷ []) (Some (inner three_cells)) ≡ Some (inner (int 7 ∷ []))) × (some_with (int 7 ∷ []) None ≡ None)
    × (with_cells store (frame 2) (int 7 ∷ []) ≡ with_frames (Some (outer false)) (Some (inner (int 7 ∷ []))))
cells_are_replaced = (refl, refl, refl)

pub one_cell_is_replaced : with_cell (with_frames None (Some (inner (int 1 ∷ int 2 ∷ [])))) (frame 2) 1 (int 9) ≡ with_frames None (Some (inner (int 1 ∷ int 9 ∷ [])))
one_cell_is_replaced = refl

-- of the frame 0, and of the globals
pub ints_of_two_homes : int_from store (Some (frame 0)) 1 ∷ int_from store None 1 ∷ [] ≡ pos 5 ∷ pos 9 ∷ []
ints_of_two_homes = refl

pub ints_of_two_homes_are_set : (with_int_from store None 0 (pos 3) ≡ record store { globals = pos 3 ∷ pos 9 ∷ [] })
    × (with_int_from (with_frames None (Some (inner (int 1 ∷ [])))) (Some (frame 2)) 0 (pos 3) ≡ with_frames None (Some (inner (int 3 ∷ []))))
ints_of_two_homes_are_set = (refl, refl)

pub some_cells_are_cleared : (cleared_front 1 (int 1 ∷ int 2 ∷ []) ≡ int 0 ∷ int 2 ∷ []) × (cleared 1 1 (int 1 ∷ int 2 ∷ int 3 ∷ []) ≡ int 1 ∷ int 0 ∷ int 3 ∷ [])
    × (cleared 1 5 (int 1 ∷ int 2 ∷ []) ≡ int 1 ∷ int 0 ∷ [])
some_cells_are_cleared = (refl, refl, refl)

pub whose_parent_it_is : is_number 0 (Some (frame 0)) ∷ is_number 0 None ∷ is_parent 0 (Some (inner [])) ∷ is_parent 2 (Some (inner [])) ∷ is_parent 0 None ∷ []
    ≡ true ∷ false ∷ true ∷ false ∷ false ∷ []
whose_parent_it_is = refl

pub in_which_one_lies : any_in 0 store.frames ∷ any_in 2 store.frames ∷ any_in 0 (Some (outer false) ∷ []) ∷ [] ≡ true ∷ false ∷ false ∷ []
in_which_one_lies = refl

-- of those that are over only one in which another lies
pub which_are_kept : (kept_one false (Some (outer true)) ≡ None) × (kept_one true (Some (outer true)) ≡ Some (outer true)) × (kept_one false (Some (outer false)) ≡ Some (outer false))
    × (kept_one true None ≡ None)
which_are_kept = (refl, refl, refl, refl)

pub those_that_live : kept 0 (Some (outer true) ∷ None ∷ Some (inner []) ∷ []) ≡ Some (outer true) ∷ None ∷ Some (inner []) ∷ []
those_that_live = refl

pub it_is_over : (some_over (Some (outer false)) ≡ Some (outer true)) × (some_over None ≡ None)
it_is_over = (refl, refl)

-- four words and three slots
pub words_of_a_frame : (frame_words (Some (inner three_cells)) ≡ 7) × (frame_words None ≡ 0)
words_of_a_frame = (refl, refl)

same_some : {a b : Frame} → Some a ≡ Some b → a ≡ b
same_some e = cc

-- the one that is over has another in it
pub settled : IsSettled (Some (outer true) ∷ Some (inner []) ∷ [])
settled zero x is over = omega arith
settled (suc zero) x is over = let e : inner [] ≡ x = same_some is in let f : x.over ≡ false = rw (← e) refl in cc
settled (suc (suc n)) x is over = cc

pub not_settled : IsSettled left_over.frames → ⊥
not_settled h = let e : 0 < children_of left_over.frames 0 = h 0 (outer true) refl refl in omega (arith, e)

-- ---- the table

pub frames_and_their_words : (at store.frames 0 ∷ at store.frames 1 ∷ at store.frames 5 ∷ [] ≡ Some (outer false) ∷ None ∷ None ∷ []) × (all_words (Some (outer false) ∷ None ∷ []) ≡ 6)
frames_and_their_words = (refl, refl)
