-- The reads of a file, one after the other. Read `k` asks for the bytes from `k` times 65,536 on, so after it the bytes up to the next
-- piece are there (`SoFar`); as many pieces as the length has, whole or begun, reach its end.
use Rattle.std.proofs.Common.{◌≡◌, ℕ, suc, ◌+◌, ◌-◌, ◌*◌, ◌<◌, ◌≤◌, min, List, [], ◌++◌, take, None, Some, refl, sym, ap, ◌∙◌, subst, arith}
use Rattle.std.specs.Prelude.{IfSome, Ok, Err}
use Rattle.std.specs.declared.option.Option.{Option}
use Rattle.std.proofs.Math.Seq.{take-add}
use Rattle.std.proofs.lemmas.List.{take_all}
use Rattle.std.proofs.lemmas.Grind.{div_ceil_times}
use Rattle.ac_outside.specs.Files.{file_of, part}
use Rattle.ac_outside.specs.Disks.{Held, called}
use Rattle.starting_files.specs.declared.fault.StartFault.{StartFault}
use Rattle.starting_files.specs.declared.fault.StartFault.TheVariants.{Failed, TooLong, NoMemory}
use Rattle.starting_files.specs.Starting.{reads_of, IsNumberBelow}
use Rattle.starting_files.specs.inner.Pieces.{ReadsPiece, ReadsWhole, MadeReads, with_calls}

-- ---- places

-- a piece that there is begins within the file
pub within : (len number : ℕ) → number < reads_of len → number * 65536 < len
within len number less = let times = div_ceil_times len 65536 (omega arith) in omega (arith, less, times.1)

-- and after the last the file is over
pub over : (len : ℕ) → len ≤ reads_of len * 65536
over len = (div_ceil_times len 65536 (omega arith)).0

-- ---- what the reads before a piece gave

abbrev pub SoFar : Held → Option Held → ℕ → ℕ → ℕ → List ℕ → Type 0
SoFar held now file len number bytes = (now ≡ Some (with_calls held number)) × (bytes ≡ take (min (number * 65536) len) (file_of held.files file).bytes)

pub begun : (first : Option Held) (file len : ℕ) → IfSome first (λ held. SoFar held first file len 0 [])
begun None file len = tt
begun (Some held) file len = let e : 0 ≡ min (0 * 65536) len = omega arith in (refl, ap (λ n. take n (file_of held.files file).bytes) e)

one_piece : (bytes : List ℕ) (len from want number : ℕ) → from ≡ number * 65536 → want ≡ min 65536 (len - from) → from < len
    → take (min (number * 65536) len) bytes ++ part bytes from want ≡ take (min ((number + 1) * 65536) len) bytes
one_piece bytes len from want number f w less =
    let here : min (number * 65536) len ≡ from = omega (arith, f, less) in
    let there : from + want ≡ min ((number + 1) * 65536) len = omega (arith, f, w, less) in
    ap (λ n. take n bytes ++ part bytes from want) here ∙ sym (take-add from want bytes) ∙ ap (λ n. take n bytes) there

pub next : (T : Type 0) (first before after : Option Held) (file len from want number : ℕ) (bytes bytes_after : List ℕ) (done : T)
    → IfSome first (λ held. SoFar held before file len number bytes)
    → IfSome before (λ held. ReadsPiece {T = T} held after file from want bytes bytes_after (Ok done))
    → from ≡ number * 65536 → want ≡ min 65536 (len - from) → number < reads_of len
    → IfSome first (λ held. SoFar held after file len (number + 1) bytes_after)
next T None before after file len from want number bytes bytes_after done so read f w less = tt
next T (Some held) before after file len from want number bytes bytes_after done so read f w less =
    let now = subst (λ (b : Option Held). IfSome b (λ h. ReadsPiece {T = T} h after file from want bytes bytes_after (Ok done))) so.0 read in
    let inside : from < len = omega (arith, f, within len number less) in
    let more : suc number ≡ number + 1 = omega arith in (
      subst (λ n. after ≡ Some (with_calls held n)) more now.1,
      now.0 ∙ ap (λ bs. bs ++ part (file_of held.files file).bytes from want) so.1 ∙ one_piece
          (file_of held.files file).bytes len from want number f w inside,
    )

pub whole : (first now : Option Held) (file len number : ℕ) (bytes : List ℕ) → IfSome first (λ held. SoFar held now file len number bytes) → number ≡ reads_of len
    → IfSome first (λ held. ReadsWhole held now file len (Ok bytes))
whole None now file len number bytes so e = tt
whole (Some held) now file len number bytes so e =
    let all : min (number * 65536) len ≡ len = omega (arith, e, over len) in
    (λ l. so.1 ∙ ap (λ n. take n (file_of held.files file).bytes) all ∙ take_all len (file_of held.files file).bytes (omega (arith, l)), subst (λ n. now ≡ Some (with_calls held n)) e so.0)

-- a read was made, and then the work stopped
made : (held : Held) (before after : Option Held) (file len number : ℕ) (bytes : List ℕ) → SoFar held before file len number bytes
    → IfSome before (λ held. after ≡ Some (called held)) → number < reads_of len → (least : ℕ) → least ≤ 1 → MadeReads held after len least
made held before after file len number bytes so read less least few =
    let now = subst (λ (b : Option Held). IfSome b (λ h. after ≡ Some (called h))) so.0 read in
    record { reads = suc number; some = omega (arith, few); most = omega (arith, less); left = now }

pub halted : (first before after : Option Held) (file len number : ℕ) (bytes : List ℕ) (fault : StartFault) → IfSome first (λ held. SoFar held before file len number bytes)
    → IfSome before (λ held. after ≡ Some (called held)) → number < reads_of len → IsNumberBelow 0 fault → IfSome first (λ held. ReadsWhole held after file len (Err fault))
halted None before after file len number bytes fault so read less below = tt
halted (Some held) before after file len number bytes Failed so read less below = made held before after file len number bytes so read less 1 (omega arith)
halted (Some held) before after file len number bytes (TooLong n) so read less below = absurd (omega (arith, below))
halted (Some held) before after file len number bytes NoMemory so read less below = made held before after file len number bytes so read less 0 (omega arith)
