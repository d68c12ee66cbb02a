-- What the answers of the disk's calls show: a read gives what stands there, and with the length that was asked for it is a whole answer;
-- a call that fails is FAULT and has its cause in the disk's count.
use Rattle.std.proofs.Common.{◌≡◌, ℕ, zero, suc, ◌≤◌, List, [], ◌∷◌, ◌++◌, Option, Some, None, true, refl, ap, ◌∙◌, subst, arith, length, take}
use Rattle.std.specs.Prelude.{IfSome, drop, nat_le}
use Rattle.std.proofs.lemmas.Bool.Decides.{nat_tests}
use Rattle.std.proofs.Math.Seq.{take-append_seam}
use Rattle.std.proofs.lemmas.Slice.Eq.{bytes_eq-Decides}
use Rattle.ac_base.specs.declared.entry.Payload.TheVariants.{Read, Write}
use Rattle.ac_base.specs.declared.entry.Answer.TheVariants.{Bytes, Count, Fault}
use Rattle.ac_history.specs.Files.{serves}
use Rattle.ac_history.specs.Files as history
use Rattle.ac_outside.specs.Causes.{Rose}
use Rattle.ac_outside.specs.Disks.{Held, DiskTold, BindsNone, called, with_written}
use Rattle.ac_outside.specs.Files as disk
use Rattle.file_ops.specs.Asked.{texts, Called}
use Rattle.file_ops.proofs.Filing.{text_at}

short : {X : Type 0} (n : ℕ) (xs : List X) → length (take n xs) ≤ length xs
short zero xs = omega arith
short (suc n) [] = omega arith
short (suc n) (x ∷ xs) = let ih = short n xs in omega arith

-- what was written over the whole of a list of its length
pub written_whole : (new old : List ℕ) (n : ℕ) → length new ≡ n → take n (new ++ drop (length new) old) ≡ new
written_whole new old n e = subst (λ m. take m (new ++ drop (length new) old) ≡ new) e (take-append_seam new (drop (length new) old))

fits_len : (bytes : List ℕ) (len : ℕ) → length bytes ≤ len → nat_le (length bytes) len ≡ true
fits_len bytes len h = grind (arith, nat_tests)

for_held : (P Q : Held → Type 0) (q : Option Held) → ((h : Held) → P h → Q h) → IfSome q P → IfSome q Q
for_held P Q None f x = tt
for_held P Q (Some h) f x = f h x

always : (P : Held → Type 0) (q : Option Held) → ((h : Held) → P h) → IfSome q P
always P None f = tt
always P (Some h) f = f h

-- what was read is what stands there
read_is_served : (h : Held) (file from len n : ℕ) (bytes : List ℕ) → n ≡ len → bytes ≡ disk.part (disk.file_of h.files file).bytes from n → serves (texts h) (Read file from len) (Bytes bytes) ≡ true
read_is_served h file from len n bytes e b =
    let there : bytes ≡ take len (drop from (history.file_of (texts h) file)) = b ∙ ap (λ x. disk.part x from n) (text_at h.files file) ∙ ap (λ m. take m (drop from (history.file_of
    (texts h) file))) e in
    (bytes_eq-Decides bytes (take len (drop from (history.file_of (texts h) file)))).1 there

module _ (before after : DiskTold) (none : BindsNone before after) (silent : before.held ≡ None → after.held ≡ None) (later : before.faults ≤ after.faults) where
  module _ (file from len : ℕ) (same : IfSome before.held (λ h. after.held ≡ Some (called h))) where
    pub called_read : (n count : ℕ) (new : List ℕ) → n ≡ len → length new ≡ len → IfSome before.held (λ h. take count new ≡ disk.part (disk.file_of h.files file).bytes from n)
        → after.faults ≡ before.faults → Called before after (Read file from len) (Bytes (take count new))
    called_read n count new e l bytes well = record {
      fits = fits_len (take count new) len (let s = short count new in omega arith);
      none = none;
      held = same;
      silent = silent;
      serves' = for_held (λ h. take count new ≡ disk.part (disk.file_of h.files file).bytes from n) (λ h. serves (texts h) (Read file from len) (Bytes (take count new)) ≡ true) before.held
          (λ h b. read_is_served h file from len n (take count new) e b) bytes;
      later = later;
      cause = well;
    }

    pub failed_read : Rose before.faults after.faults → Called before after (Read file from len) (Fault 0)
    failed_read rose = record {
      fits = refl;
      none = none;
      held = same;
      silent = silent;
      serves' = always (λ h. serves (texts h) (Read file from len) (Fault 0) ≡ true) before.held (λ h. refl);
      later = later;
      cause = rose;
    }

  module _ (file from : ℕ) (bytes : List ℕ) where
    pub called_write : IfSome before.held (λ h. after.held ≡ Some (with_written h file from bytes)) → after.faults ≡ before.faults → Called before after (Write file from bytes) (Count (length bytes))
    called_write same well = record {
      fits = grind (arith, nat_tests);
      none = none;
      held = same;
      silent = silent;
      serves' = always (λ h. serves (texts h) (Write file from bytes) (Count (length bytes)) ≡ true) before.held (λ h. refl);
      later = later;
      cause = well;
    }

    pub torn_write : (taken : ℕ) → taken ≤ length bytes → IfSome before.held (λ h. after.held ≡ Some (with_written h file from (take taken bytes))) → Rose before.faults after.faults
        → Called before after (Write file from bytes) (Fault taken)
    torn_write taken most same rose = record {
      fits = grind (arith, nat_tests);
      none = none;
      held = same;
      silent = silent;
      serves' = always (λ h. serves (texts h) (Write file from bytes) (Fault taken) ≡ true) before.held (λ h. refl);
      later = later;
      cause = rose;
    }
