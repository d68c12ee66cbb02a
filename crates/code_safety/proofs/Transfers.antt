-- What a read and a write of a file ask for, and what an answer or a message sets: what was read, or is received, comes into ints of the array.
-- A range that is right is within the array, so the first elements of it are ints too; by induction over what comes each is set in one of
-- them.
use Rattle.std.proofs.Common.{◌≡◌, ℕ, ◌+◌, ◌≤◌, ◌<◌, ◌^◌, List, [], ◌∷◌, length, take, Option, Some, None, Result, Ok, Err, Bool, true, false, refl, sym, subst, arith}
use Rattle.std.specs.Prelude.{ℤ, pos, negsuc, nat_le, ◌&&◌, if◌then◌else◌}
use Rattle.std.proofs.lemmas.Bool.{and_parts}
use Rattle.std.proofs.lemmas.Bool.Decides.{nat_tests}
use Rattle.std.proofs.lemmas.List.{length-take}
use Rattle.std.proofs.Math.Nat.{min-le_left}
use Rattle.ac_base.specs.declared.ends.Trap.{Trap}
use Rattle.ac_base.specs.declared.ends.Trap.TheVariants.{FileRange}
use Rattle.ac_base.specs.declared.entry.Answer.{Answer}
use Rattle.ac_base.specs.declared.entry.Answer.TheVariants as answer
use Rattle.work_item.specs.declared.ids.FrameId.{FrameId}
use Rattle.work_item.specs.declared.cell.Place.{Place}
use Rattle.work_item.specs.Store.{Store, with_int_from}
use Rattle.cancel_scope.specs.declared.operation.Asked.{Asked}
use Rattle.cancel_scope.specs.declared.operation.Asked.TheVariants as asked
use Rattle.core_state.specs.Messages.{with_ints_at, with_ints_from}
use Rattle.core_state.specs.Requests.{bytes_for, file_limit, first_of, if_in_range, is_in_range, request_limit, with_answer, with_bytes_from}
use Rattle.stack_code.specs.Parts.{Parts}
use Rattle.stack_code.specs.Valid.{HasOneUse}
use Rattle.code_safety.specs.Chains.{Origin}
use Rattle.code_safety.specs.Fit.{Birth, HoldsInts, IsAsked, IsIntArray, IsStore}
use Rattle.code_safety.proofs.LinkedFrames.{SameFrames, int_frames, same_frames, then_frames}
use Rattle.code_safety.proofs.Settings.{KeepsStore, same_store, set_int, then_kept}

-- ---- what is asked for

-- of no more elements than the array has
pub range_is : (array : Place) (from long : ℤ) (ask : ℕ → Place → Asked) (a : Asked) → if_in_range array from long ask ≡ Ok a
    → (at : ℕ) × ((len : ℕ) × ((len ≤ array.len) × (ask at (first_of array len) ≡ a)))
range_is array (pos from) (pos len) ask a e = go (is_in_range array from len) refl e
  where
    go : (b : Bool) → is_in_range array from len ≡ b → ◌≡◌ {A = Result Asked Trap} (if b then Ok (ask from (first_of array len)) else Err FileRange) (Ok a)
        → (at : ℕ) × ((len : ℕ) × ((len ≤ array.len) × (ask at (first_of array len) ≡ a)))
    go true t e =
        let both = and_parts (nat_le len request_limit) (nat_le len array.len && nat_le (from + len) file_limit) t in
        let two = and_parts (nat_le len array.len) (nat_le (from + len) file_limit) both.1 in
        let fits : len ≤ array.len = let b = two.0 in grind (arith, nat_tests) in
        let is : ask from (first_of array len) ≡ a = cc in
        (from, (len, (fits, is)))
    go false t e = absurd (cc)
range_is array (pos from) (negsuc len) ask a e = absurd (cc)
range_is array (negsuc from) len ask a e = absurd (cc)

-- ---- a part of an array

module _ (code : Parts) (births : List Birth) where
  pub part_ints : (home : Option FrameId) (start len from n : ℕ) → start ≤ from → from + n ≤ start + len → HoldsInts code births home start len → HoldsInts code births home from n
  part_ints None start len from n le fits h = omega (arith, fits, h)
  part_ints (Some f) start len from n le fits h =
      let inside = h.inside in
      record { birth = h.birth; born = h.born; inside = omega (arith, inside, fits); plain = λ slot lo hi. h.plain slot (omega (arith, lo, le)) (omega (arith, hi, fits)) }

  pub first_ints : (place : Place) (len : ℕ) → len ≤ place.len → IsIntArray code births None place → IsIntArray code births None (first_of place len)
  first_ints place len le h =
      let all : place.start + place.len < 2 ^ 32 = h.short in
      record {
        short = omega (arith, all, le);
        ints = part_ints place.home place.start place.len place.start len (omega arith) (omega (arith, le)) h.ints;
        exact = λ n e. let no : None ≡ Some n = e in absurd (cc);
      }

-- ---- what an answer sets

few_ints : (into : Place) (ints : List ℤ) → length (take into.len ints) ≤ into.len
few_ints into ints = subst (λ n. n ≤ into.len) (sym (length-take into.len ints)) (min-le_left into.len (length ints))

few_bytes : (into : Place) (bytes : List ℕ) → length (bytes_for into bytes) ≤ into.len
few_bytes into bytes = subst (λ n. n ≤ into.len) (sym (length-take into.len bytes)) (min-le_left into.len (length bytes))

module _ (code : Parts) (births : List Birth) (one : HasOneUse code) where
  bytes_kept : (s : Store) → IsStore code births s → (home : Option FrameId) (slot : ℕ) (bytes : List ℕ) → HoldsInts code births home slot (length bytes)
      → KeepsStore code births s (with_bytes_from s home slot bytes)
  bytes_kept s h home slot [] i = same_store code births s h
  bytes_kept s h home slot (b ∷ bytes) i =
      let first = set_int code births s one h home slot (length (b ∷ bytes)) slot (pos b) (omega arith) (omega arith) i in
      let set = with_int_from s home slot (pos b) in
      let rest = part_ints code births home slot (length (b ∷ bytes)) (slot + 1) (length bytes) (omega arith) (omega arith) i in
      then_kept code births s set (with_bytes_from set home (slot + 1) bytes) first (bytes_kept set first.store home (slot + 1) bytes rest)

  ints_kept : (s : Store) → IsStore code births s → (home : Option FrameId) (slot : ℕ) (ints : List ℤ) → HoldsInts code births home slot (length ints)
      → KeepsStore code births s (with_ints_from s home slot ints)
  ints_kept s h home slot [] i = same_store code births s h
  ints_kept s h home slot (v ∷ ints) i =
      let first = set_int code births s one h home slot (length (v ∷ ints)) slot v (omega arith) (omega arith) i in
      let set = with_int_from s home slot v in
      let rest = part_ints code births home slot (length (v ∷ ints)) (slot + 1) (length ints) (omega arith) (omega arith) i in
      then_kept code births s set (with_ints_from set home (slot + 1) ints) first (ints_kept set first.store home (slot + 1) ints rest)

  -- a message comes into ints of the array
  pub message_kept : (s : Store) → IsStore code births s → (known : Option ℕ) (place : Place) (message : List ℤ) → IsIntArray code births known place
      → KeepsStore code births s (with_ints_at s place message)
  message_kept s h known place message i =
      let few = few_ints place message in
      ints_kept s h place.home place.start (take place.len message)
      (part_ints code births place.home place.start place.len place.start (length (take place.len message)) (omega arith) (omega (arith, few)) i.ints)

  pub answer_kept : (s : Store) → IsStore code births s → (link : ℕ) (a : Asked) (it : Answer) → IsAsked code births link a → KeepsStore code births s (with_answer s a it)
  answer_kept s h link (asked.Read file from into) (answer.Bytes bytes) i =
      let few = few_bytes into bytes in
      bytes_kept s h into.home into.start (bytes_for into bytes)
      (part_ints code births into.home into.start into.len into.start (length (bytes_for into bytes)) (omega arith) (omega (arith, few)) i.ints)
  answer_kept s h link a it i = same_store code births s h

module _ (origins : List Origin) where
  bytes_frames : (s : Store) (home : Option FrameId) (slot : ℕ) (bytes : List ℕ) → SameFrames origins s (with_bytes_from s home slot bytes)
  bytes_frames s home slot [] = same_frames origins s
  bytes_frames s home slot (b ∷ bytes) =
      let set = with_int_from s home slot (pos b) in
      then_frames origins s set (with_bytes_from set home (slot + 1) bytes) (int_frames origins s home slot (pos b)) (bytes_frames set home (slot + 1) bytes)

  ints_frames : (s : Store) (home : Option FrameId) (slot : ℕ) (ints : List ℤ) → SameFrames origins s (with_ints_from s home slot ints)
  ints_frames s home slot [] = same_frames origins s
  ints_frames s home slot (v ∷ ints) =
      let set = with_int_from s home slot v in
      then_frames origins s set (with_ints_from set home (slot + 1) ints) (int_frames origins s home slot v) (ints_frames set home (slot + 1) ints)

  pub message_frames : (s : Store) (place : Place) (message : List ℤ) → SameFrames origins s (with_ints_at s place message)
  message_frames s place message = ints_frames s place.home place.start (take place.len message)

  pub answer_frames : (s : Store) (a : Asked) (it : Answer) → SameFrames origins s (with_answer s a it)
  answer_frames s (asked.Read file from into) (answer.Bytes bytes) = bytes_frames s into.home into.start (bytes_for into bytes)
  answer_frames s a it = same_frames origins s
