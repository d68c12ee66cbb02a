-- States in which no reference dangles, states in which one does, and chains of frames.
-- A function is called with an array of its caller: where the caller's frame lives nothing dangles, and where it is gone the reference
-- does.
use Rattle.std.proofs.Common.{◌≡◌, ℕ, zero, suc, ◌<◌, ◌≤◌, List, [], ◌∷◌, pos, Option, Some, None, true, false, inl, inr, refl, sym, ap, ◌∙◌, subst, arith}
use Rattle.std.specs.Prelude.{slice_get, slice_index_or}
use Rattle.work_item.specs.declared.ids.FrameId.{FrameId}
use Rattle.work_item.specs.declared.ids.Item.{Item}
use Rattle.work_item.specs.declared.ids.BlockId.{BlockId}
use Rattle.work_item.specs.declared.cell.Cell.{Cell}
use Rattle.work_item.specs.declared.cell.Cell.TheVariants as cell
use Rattle.work_item.specs.Store.{Frame}
use Rattle.work_item.specs.Conditions.{ParentLives}
use Rattle.work_item.specs.declared.cell.Place.{Place}
use Rattle.cancel_scope.specs.declared.operation.Asked.TheVariants.{Send, Recv, Read, Write}
use Rattle.cancel_scope.specs.declared.operation.Operation.{Operation}
use Rattle.cancel_scope.specs.Outstanding.{started}
use Rattle.core_state.specs.Shared.{first_shared}
use Rattle.code_meaning.specs.Machine.{Thread, Block, Flat, nobody}
use Rattle.code_safety.specs.Living.{LivesAs, as_running, as_ready, as_operating, as_waiting, IsOfCaller, HasFrame, RefersToLiving, AllReferToLiving, ActivationLives, CallersLive}
use Rattle.code_safety.specs.Living.{AskedLives, AskedLiesThere, NamesLiving, HasSlots, LiesThere, ArrayLiesThere}
use Rattle.code_safety.specs.Chains.{Origin, AtEntry, CalledIn, StartedIn, link_of, parent_of, Came, OnChain, itself, further, LiesIn, directly, deeper}
use Rattle.code_safety.specs.Chains.{HomeOnChain, AllName, AskedOnChain, HasEnteredIn, none_in, one_in, Starts}

-- ---- references

abbrev outer : FrameId
outer = record { number = 0 }

abbrev called : FrameId
called = record { number = 1 }

abbrev first : Item
first = record { number = 0 }

-- the two slots of the outer frame, as an array
abbrev place : Place
place = record { home = Some outer; start = 0; len = 2 }

abbrev array : Cell
array = cell.Array place

abbrev outer_frame : Frame
outer_frame = record { parent = None; cells = cell.Int (pos 5) ∷ cell.Int (pos 6) ∷ []; over = false }

-- that of a function which was called with the array
abbrev called_frame : Frame
called_frame = record { parent = None; cells = array ∷ []; over = false }

-- the function is about to read an element
abbrev reading : Option Frame → Flat
reading caller = record {
  shared = first_shared 0 [];
  store = record { globals = []; frames = caller ∷ Some called_frame ∷ [] };
  operations = [];
  running = Some first;
  current = record { place = 7; frame = called; operands = cell.Int (pos 1) ∷ array ∷ []; callers = record { place = 3; frame = outer; operands = [] } ∷ []; block = None };
  ready = [];
  threads = nobody ∷ [];
  blocks = [];
  count = 4;
}

abbrev whole : Flat
whole = reading (Some outer_frame)

whole_threads : (t : Item) (h : Thread) → LivesAs whole t h → ActivationLives whole.store h.frame h.operands × CallersLive whole.store h.callers
whole_threads _ _ (as_running t e) = ((refl, (tt, (refl, tt))), ((refl, tt), tt))
whole_threads _ _ (as_ready t some) = absurd (omega (arith, some))
whole_threads _ _ (as_operating t some) = absurd (omega (arith, some))
whole_threads _ _ (as_waiting t b x here owner w) = let no : None ≡ Some x = here in absurd (cc)

whole_frames : (n : ℕ) (x : Frame) → slice_index_or whole.store.frames n None ≡ Some x → ParentLives whole.store x.parent × AllReferToLiving whole.store x.cells
whole_frames zero x e = let is : outer_frame ≡ x = cc in subst (λ (z : Frame). ParentLives whole.store z.parent × AllReferToLiving whole.store z.cells) is (tt, (tt, (tt, tt)))
whole_frames (suc zero) x e = let is : called_frame ≡ x = cc in subst (λ (z : Frame). ParentLives whole.store z.parent × AllReferToLiving whole.store z.cells) is (tt, (refl, tt))
whole_frames (suc (suc n)) x e = let no : None ≡ Some x = e in absurd (cc)

-- the frame of the caller lives
pub the_caller_lives : NamesLiving whole
the_caller_lives = record {
  threads = whole_threads;
  parents = λ f x e. (whole_frames f.number x e).0;
  cells = λ f x e. (whole_frames f.number x e).1;
  operations = λ k d lt. absurd (omega (arith, lt));
}

-- and here it is gone
pub the_caller_is_gone : NamesLiving (reading None) → ⊥
the_caller_is_gone n =
    let dangles : false ≡ true = (n.threads first (reading None).current (as_running first refl)).0.1.1.0 in
    cc

pub what_refers_to_a_living_frame : RefersToLiving whole.store array × RefersToLiving (reading None).store (cell.Int (pos 5))
what_refers_to_a_living_frame = (refl, tt)

pub what_dangles : RefersToLiving (reading None).store array → ⊥
what_dangles h = let no : false ≡ true = h in cc

-- ---- arrays

pub it_lies_in_its_frame : ArrayLiesThere whole.store array
it_lies_in_its_frame = λ lives. omega arith

-- the frame has no third slot
pub three_slots_do_not : LiesThere whole.store (record place { len = 3 }) → ⊥
three_slots_do_not h = let le : 3 ≤ 2 = h refl in omega (arith, le)

pub no_global_is_there : HasSlots whole.store None 0 × (HasSlots whole.store None 1 → ⊥)
no_global_is_there = (omega arith, λ le. omega (arith, le))

-- ---- threads

-- the frames of a thread are those of its activations
pub the_frame_of_a_caller : HasFrame whole.current outer
the_frame_of_a_caller = inr (inl refl)

pub the_frame_of_no_caller : IsOfCaller whole.current.callers called → ⊥
the_frame_of_no_caller (inl e) = let z = ap (λ (k : FrameId). k.number) e in omega (arith, z)
the_frame_of_no_caller (inr x) = x

-- no other thread lives there
pub no_second_thread : (h : Thread) → LivesAs whole (record { number = 1 }) h → ⊥
no_second_thread h l = by (record { number = 1 }) h refl l
  where
    by : (t : Item) (h : Thread) → t.number ≡ 1 → LivesAs whole t h → ⊥
    by _ _ q (as_running t e) =
        let same : first ≡ t = cc in
        let z = ap (λ (u : Item). u.number) same in
        omega (arith, z, q)
    by _ _ q (as_ready t some) = omega (arith, some)
    by _ _ q (as_operating t some) = omega (arith, some)
    by _ _ q (as_waiting t b x here owner w) = let no : None ≡ Some x = here in cc

-- ---- operations

-- the function has asked for a message into the array, and waits for it
abbrev receiving : Option Frame → List Operation → Flat
receiving caller operations = record (reading caller) { operations = operations; running = None; current = nobody; threads = (reading caller).current ∷ [] }

abbrev into_the_array : List Operation
into_the_array = started 0 (Recv place) first ∷ []

pub its_thread_lives : LivesAs (receiving (Some outer_frame) into_the_array) first whole.current
its_thread_lives = as_operating first (omega arith)

pub a_thread_without_an_operation_does_not : (h : Thread) → LivesAs (receiving (Some outer_frame) []) first h → ⊥
a_thread_without_an_operation_does_not h l = by first h l
  where
    by : (t : Item) (h : Thread) → LivesAs (receiving (Some outer_frame) []) t h → ⊥
    by _ _ (as_running t e) = let no : None ≡ Some t = e in cc
    by _ _ (as_ready t some) = omega (arith, some)
    by _ _ (as_operating t some) = omega (arith, some)
    by _ _ (as_waiting t b x here owner w) = let no : None ≡ Some x = here in cc

pub what_is_received_into_a_living_frame : AskedLives whole.store (Recv place) × AskedLives (reading None).store (Send (pos 5 ∷ []))
what_is_received_into_a_living_frame = (refl, tt)

pub what_is_received_into_no_frame : AskedLives (reading None).store (Recv place) → ⊥
what_is_received_into_no_frame h = let no : false ≡ true = h in cc

pub what_is_read_into_a_living_frame : AskedLives whole.store (Read 6 4 place) × AskedLives (reading None).store (Write 6 4 (66 ∷ []))
what_is_read_into_a_living_frame = (refl, tt)

pub what_is_read_into_no_frame : AskedLives (reading None).store (Read 6 4 place) → ⊥
what_is_read_into_no_frame h = let no : false ≡ true = h in cc

-- into its two slots, and not into a third
pub where_it_is_received_or_read : AskedLiesThere whole.store (Recv place) × AskedLiesThere whole.store (Read 6 4 place) × AskedLiesThere whole.store (Send (pos 5 ∷ []))
    × AskedLiesThere whole.store (Write 6 4 (66 ∷ []))
where_it_is_received_or_read = (λ lives. omega arith, λ lives. omega arith, tt, tt)

pub no_third_slot_is_read_into : AskedLiesThere whole.store (Read 6 4 (record place { len = 3 })) → ⊥
no_third_slot_is_read_into h = three_slots_do_not h

-- a state in which the frame for a message is gone
pub no_frame_for_the_message : NamesLiving (receiving None into_the_array) → ⊥
no_frame_for_the_message n = what_is_received_into_no_frame (n.operations 0 (started 0 (Recv place) first) (omega arith))

-- ---- chains

abbrev body : FrameId
body = record { number = 2 }

-- the entry, a function that it called, and an async body in that
abbrev origins : List Origin
origins = AtEntry ∷ CalledIn outer ∷ StartedIn called ∷ []

pub out_to_the_entry : OnChain origins body outer
out_to_the_entry = further body called outer (StartedIn called) refl refl (further called outer outer (CalledIn outer) refl refl (itself outer))

-- the entry was made by no activation
pub not_inwards : OnChain origins outer body → ⊥
not_inwards c = by outer body refl c refl
  where
    by : (f g : FrameId) → f ≡ outer → OnChain origins f g → g ≡ body → ⊥
    by _ _ e (itself f) q = let z = ap (λ (k : FrameId). k.number) (sym e ∙ q) in omega (arith, z)
    by _ _ e (further f g h o came link rest) q =
        let at : Some AtEntry ≡ Some o = ap (λ (k : FrameId). slice_get origins k.number) (sym e) ∙ came in
        let is : AtEntry ≡ o = cc in
        let no : None ≡ Some g = ap link_of is ∙ link in
        cc

pub in_the_function : LiesIn origins body called
in_the_function = directly body called refl

-- the function does not lie in its caller
pub not_in_the_caller : LiesIn origins body outer → ⊥
not_in_the_caller l = by body outer refl l refl
  where
    calls : (f : FrameId) (p : FrameId) → f ≡ called → Came origins f (StartedIn p) → ⊥
    calls f p e came = let no : Some (CalledIn outer) ≡ Some (StartedIn p) = ap (λ (k : FrameId). slice_get origins k.number) (sym e) ∙ came in cc

    next : (f p : FrameId) → f ≡ body → Came origins f (StartedIn p) → called ≡ p
    next f p e came = let both : Some (StartedIn called) ≡ Some (StartedIn p) = ap (λ (k : FrameId). slice_get origins k.number) (sym e) ∙ came in cc

    ends : (f g : FrameId) → f ≡ called → LiesIn origins f g → ⊥
    ends _ _ e (directly f g came) = calls f g e came
    ends _ _ e (deeper f g h came rest) = calls f g e came

    by : (f g : FrameId) → f ≡ body → LiesIn origins f g → g ≡ outer → ⊥
    by _ _ e (directly f g came) q = let z = ap (λ (k : FrameId). k.number) (next f g e came ∙ q) in omega (arith, z)
    by _ _ e (deeper f g h came rest) q = ends g h (sym (next f g e came)) rest

-- the body lies in the function, and the function in nothing
pub what_frames_lie_in : (parent_of (StartedIn called) ≡ Some called) × (parent_of (CalledIn outer) ≡ None)
what_frames_lie_in = (refl, refl)

-- ---- what a frame may name

pub the_body_names_an_array_of_the_entry : HomeOnChain origins body (Some outer) × AllName origins body (array ∷ cell.Int (pos 1) ∷ [])
the_body_names_an_array_of_the_entry = (out_to_the_entry, (out_to_the_entry, (tt, tt)))

pub the_entry_names_none_of_the_body : AllName origins outer (cell.Array (record { home = Some body; start = 0; len = 1 }) ∷ []) → ⊥
the_entry_names_none_of_the_body h = not_inwards h.0

pub the_body_receives_into_the_entry : AskedOnChain origins body (Recv place) × AskedOnChain origins outer (Send (pos 5 ∷ []))
the_body_receives_into_the_entry = (out_to_the_entry, tt)

pub the_entry_receives_into_no_body : AskedOnChain origins outer (Recv (record { home = Some body; start = 0; len = 1 })) → ⊥
the_entry_receives_into_no_body h = not_inwards h

pub the_body_reads_into_the_entry : AskedOnChain origins body (Read 6 4 place) × AskedOnChain origins outer (Write 6 4 (66 ∷ []))
the_body_reads_into_the_entry = (out_to_the_entry, tt)

pub the_entry_reads_into_no_body : AskedOnChain origins outer (Read 6 4 (record { home = Some body; start = 0; len = 1 })) → ⊥
the_entry_reads_into_no_body h = not_inwards h

-- ---- blocks and threads

abbrev block : BlockId
block = record { number = 0 }

abbrev entered : Block
entered = record { parent = None; owner = first; count = 0; waits = false; cancelled = false }

pub a_block_that_was_entered : HasEnteredIn (Some entered ∷ []) (outer ∷ []) first outer 1 (Some block) None
a_block_that_was_entered = one_in 0 block entered None refl refl refl (none_in None)

pub a_block_that_is_not_there : (n : ℕ) (inner out : Option BlockId) → HasEnteredIn [] [] first outer n inner out → 0 < n → ⊥
a_block_that_is_not_there _ _ _ (none_in out) some = omega (arith, some)
a_block_that_is_not_there _ _ _ (one_in n b x out here owner site rest) some = let no : None ≡ Some x = here in cc

pub the_first_thread_starts_at_the_entry : Starts origins [] [] first outer None
the_first_thread_starts_at_the_entry = refl

pub no_thread_starts_by_a_call : Starts origins [] [] first called None → ⊥
no_thread_starts_by_a_call came = let no : Some (CalledIn outer) ≡ Some AtEntry = came in cc
