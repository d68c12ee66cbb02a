-- What the bound files of a disk are to the files of a history: the history has sixteen, and those that are not bound are empty there. A
-- request of a bound file does the same to both.
use Rattle.std.proofs.Common.{◌≡◌, ℕ, zero, suc, ◌-◌, ◌<◌, List, [], ◌∷◌, ◌++◌, true, refl, sym, ap, ◌∙◌, subst, arith, length}
use Rattle.std.specs.Prelude.{map, replicate, slice_index_or, slice_set}
use Rattle.std.proofs.lemmas.List.{length-set}
use Rattle.ac_base.specs.declared.entry.Payload.{Payload}
use Rattle.ac_base.specs.declared.entry.Payload.TheVariants.{Int, Read, Write}
use Rattle.ac_base.specs.declared.entry.Answer.{Answer}
use Rattle.ac_base.specs.declared.entry.Answer.TheVariants.{Fault}
use Rattle.file_bytes.specs.Overwritten.{overwritten}
use Rattle.ac_history.specs.Files as history
use Rattle.ac_history.specs.Files.{bytes_in, padded, reads, serves, files_done}
use Rattle.ac_outside.specs.declared.shelf.NamedBytes.{NamedBytes}
use Rattle.ac_outside.specs.Disks.{Held}
use Rattle.ac_outside.specs.Files as disk
use Rattle.file_ops.specs.Asked.{file_of, texts, held_after}
use Rattle.file_ops.specs.Agreement.{files_of}

-- ---- lists

map_set : {X Y : Type 0} (g : X → Y) (xs : List X) (n : ℕ) (x : X) → map g (slice_set xs n x) ≡ slice_set (map g xs) n (g x)
map_set g [] n x = refl
map_set g (y ∷ ys) zero x = refl
map_set g (y ∷ ys) (suc n) x = ap (λ r. g y ∷ r) (map_set g ys n x)

map_length : {X Y : Type 0} (g : X → Y) (xs : List X) → length (map g xs) ≡ length xs
map_length g [] = refl
map_length g (x ∷ xs) = ap suc (map_length g xs)

set_left : {X : Type 0} (xs ys : List X) (n : ℕ) (x : X) → n < length xs → slice_set (xs ++ ys) n x ≡ slice_set xs n x ++ ys
set_left [] ys n x h = absurd (omega arith)
set_left (z ∷ xs) ys zero x h = refl
set_left (z ∷ xs) ys (suc n) x h = ap (λ r. z ∷ r) (set_left xs ys n x (omega arith))

set_own : {X : Type 0} (xs : List X) (n : ℕ) (d : X) → slice_set xs n (slice_index_or xs n d) ≡ xs
set_own [] n d = refl
set_own (x ∷ xs) zero d = refl
set_own (x ∷ xs) (suc n) d = ap (λ r. x ∷ r) (set_own xs n d)

default_of_all : {X : Type 0} (m n : ℕ) (d : X) → slice_index_or (replicate m d) n d ≡ d
default_of_all zero n d = refl
default_of_all (suc m) zero d = refl
default_of_all (suc m) (suc n) d = default_of_all m n d

default_left : {X : Type 0} (xs : List X) (m n : ℕ) (d : X) → slice_index_or (xs ++ replicate m d) n d ≡ slice_index_or xs n d
default_left [] m n d = default_of_all m n d
default_left (x ∷ xs) m zero d = refl
default_left (x ∷ xs) m (suc n) d = default_left xs m n d

-- ---- files

padded_file : (files : List (List ℕ)) (f : ℕ) → history.file_of (padded files) f ≡ history.file_of files f
padded_file files f = default_left files (16 - length files) f []

padded_set : (files : List (List ℕ)) (f : ℕ) (bytes : List ℕ) → f < length files → slice_set (padded files) f bytes ≡ padded (slice_set files f bytes)
padded_set files f bytes h = set_left files (replicate (16 - length files) []) f bytes h
    ∙ ap (λ n. slice_set files f bytes ++ replicate (16 - n) []) (sym (length-set files f bytes))

pub text_at : (files : List NamedBytes) (f : ℕ) → (disk.file_of files f).bytes ≡ history.file_of (map (λ x. x.bytes) files) f
text_at [] f = refl
text_at (x ∷ files) zero = refl
text_at (x ∷ files) (suc f) = text_at files f

pub serves_padded : (files : List (List ℕ)) (payload : Payload) (answer : Answer) → serves (padded files) payload answer ≡ serves files payload answer
serves_padded files (Int v) answer = refl
serves_padded files (Read f a n) answer = ap (λ file. reads file a n answer) (padded_file files f)
serves_padded files (Write f a b) answer = refl

-- the disk does to its bound files what the history does to its sixteen
pub same_files : (h : Held) (payload : Payload) (answer : Answer) → file_of payload < length h.files → files_of (held_after h payload answer) ≡ files_done (files_of h) payload answer
same_files h (Int v) answer l = refl
same_files h (Read f a n) answer l = refl
same_files h (Write f a b) answer l =
    let there : f < length (texts h) = subst (λ n. f < n) (sym (map_length (λ x. x.bytes) h.files)) l in
    sym (ap (λ x. slice_set (files_of h) f (overwritten x a (bytes_in answer b))) (padded_file (texts h) f ∙ sym (text_at h.files f))
    ∙ padded_set (texts h) f (overwritten (disk.file_of h.files f).bytes a (bytes_in answer b)) there
    ∙ ap padded (sym (map_set (λ x. x.bytes) h.files f (record {
      name = (disk.file_of h.files f).name;
      bytes = overwritten (disk.file_of h.files f).bytes a (bytes_in answer b);
    }))))

pub as_many_files : (h : Held) (payload : Payload) (answer : Answer) → length (held_after h payload answer).files ≡ length h.files
as_many_files h (Int v) answer = refl
as_many_files h (Read f a n) answer = refl
as_many_files h (Write f a b) answer = length-set h.files f (record {
  name = (disk.file_of h.files f).name;
  bytes = overwritten (disk.file_of h.files f).bytes a (bytes_in answer b);
})

pub same_found : (h : Held) (payload : Payload) (answer : Answer) → (held_after h payload answer).found ≡ h.found
same_found h (Int v) answer = refl
same_found h (Read f a n) answer = refl
same_found h (Write f a b) answer = refl

-- FAULT after no byte changes nothing, and is an answer to everything
pub nothing_done : (files : List (List ℕ)) (payload : Payload) → files_done files payload (Fault 0) ≡ files
nothing_done files (Int v) = refl
nothing_done files (Read f a n) = refl
nothing_done files (Write f a []) = set_own files f []
nothing_done files (Write f a (b ∷ bytes)) = set_own files f []

pub nothing_served : (files : List (List ℕ)) (payload : Payload) → serves files payload (Fault 0) ≡ true
nothing_served files (Int v) = refl
nothing_served files (Read f a n) = refl
nothing_served files (Write f a b) = refl
