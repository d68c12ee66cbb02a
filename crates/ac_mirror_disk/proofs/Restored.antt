-- A side that was copied onto has the files of the other: their names are the mirror's paths, no file was longer, and each was copied whole.
use Rattle.std.proofs.Common.{◌≡◌, ℕ, true, ◌-◌, ◌^◌, ◌<◌, ◌≤◌, min, List, length, take, None, Some, refl, sym, ap, ◌∙◌, subst, arith}
use Rattle.std.specs.Prelude.{IfSome, slice_index, Ok, Err, ⊤}
use Rattle.std.specs.declared.option.Option.{Option}
use Rattle.std.specs.declared.result.Result.{Result}
use Rattle.ac_outside.specs.declared.failed.BindFault.{BindFault}
use Rattle.ac_outside.specs.declared.failed.BindFault.TheVariants.{NoMemory}
use Rattle.ac_outside.specs.Disks.{DiskTold, Held}
use Rattle.ac_outside.specs.Files.{file_of, told_length}
use Rattle.ac_mirror_disk.specs.declared.side.Side.{Side}
use Rattle.ac_mirror_disk.specs.Pairs.{IfBoth, HaveSameFiles, most_bytes}
use Rattle.ac_mirror_disk.specs.Rebuilding.{IsNoneLonger, AreShort}
use Rattle.ac_mirror_disk.specs.inner.Copying.{AllFit, HasCopied, BindsRest, CopiesFiles}
use Rattle.ac_mirror_disk.specs.Sound.{AreLengths, HasPaths, IsKept}
use Rattle.ac_mirror_disk.proofs.ReadOnly.{Holds}
use Rattle.ac_mirror_disk.proofs.Copied.{Now, all_copied}

-- what is known of the files of a side that has bound all
record IsWhole (lens : List ℕ) (paths : List (List ℕ)) (h : Held) : Type 0 where
  count : length h.files ≡ length paths
  named : HasPaths paths h
  lengths : AreLengths lens h

whole_by : (x : Option Held) (bound : ℕ) (lens : List ℕ) (paths : List (List ℕ)) → IfSome x (λ h. bound ≡ length h.files) → bound ≡ length paths → IfSome x (HasPaths paths) → IfSome x
    (AreLengths lens) → IfSome x (IsWhole lens paths)
whole_by None bound lens paths l e p a = tt
whole_by (Some h) bound lens paths l e p a = record { count = sym l ∙ e; named = p; lengths = a }

-- the length of a file that can be read whole
long_as : (bytes : List ℕ) (len : ℕ) → len ≡ told_length bytes → len ≤ most_bytes → length bytes ≡ len
long_as bytes len e short = let t : len ≡ min (length bytes) (2 ^ 32 - 1) = e in omega (arith, t, short)

not_longer : (bytes : List ℕ) (len other : ℕ) → other ≡ told_length bytes → other ≤ len → len ≤ most_bytes → length bytes ≤ len
not_longer bytes len other e less short = let t : other ≡ min (length bytes) (2 ^ 32 - 1) = e in omega (arith, t, less, short)

fit_all : (lens others : List ℕ) (paths : List (List ℕ)) (x y : Held) → IsWhole lens paths x → IsWhole others paths y → IsNoneLonger lens others (length paths) → AreShort lens (length paths)
    → AllFit lens (length paths) x y
fit_all lens others paths x y wx wy none short = record {
  fits = λ k less.
      let in_x : k < length x.files = omega (arith, less, wx.count) in
      let in_y : k < length y.files = omega (arith, less, wy.count) in
      record {
        one = long_as (file_of x.files k).bytes (slice_index lens k) (wx.lengths k in_x) (short k less);
        other = not_longer (file_of y.files k).bytes (slice_index lens k) (slice_index others k) (wy.lengths k in_y) (none k less) (short k less);
      };
  names = wx.named ∙ ap (λ n. take n paths) (wx.count ∙ sym wy.count) ∙ sym wy.named;
}

equal_files : (lens others : List ℕ) (paths : List (List ℕ)) (x x' y now : Option Held) → Holds x x' → (x ≡ None → x' ≡ None) → (y ≡ None → now ≡ None) → IfSome x (IsWhole lens paths) → IfSome y
    (IsWhole others paths)
    → IsNoneLonger lens others (length paths) → AreShort lens (length paths) → Now (HasCopied lens (length paths) (length paths)) x y now → IfBoth x' now HaveSameFiles
equal_files lens others paths None x' y now holds sx sy wx wy none short done = subst (λ (o : Option Held). IfBoth o now HaveSameFiles) (sym (sx refl)) tt
equal_files lens others paths (Some h) x' None now holds sx sy wx wy none short done =
    subst (λ (o : Option Held). IfBoth o now HaveSameFiles) (sym holds.1) (subst (λ (o : Option Held). IfSome o (λ k. HaveSameFiles (record h { calls = holds.0 }) k)) (sym (sy refl)) tt)
equal_files lens others paths (Some h) x' (Some k) now holds sx sy wx wy none short done =
    let same : h.files ≡ done.held.files = all_copied lens (length paths) h k done.held (fit_all lens others paths h k wx wy none short) wx.count done.so in
    subst (λ (o : Option Held). IfBoth o now HaveSameFiles) (sym holds.1)
    (subst (λ (o : Option Held). IfSome o (λ l. HaveSameFiles (record h { calls = holds.0 }) l)) (sym done.is) same)

abbrev well : Result ⊤ BindFault
well = Ok tt

abbrev refused_so : Result ⊤ BindFault
refused_so = Err NoMemory

given : (result : Result ⊤ BindFault) → result ≡ well → result ≡ refused_so → ⊥
given result e f = let no : Ok tt ≡ refused_so = sym e ∙ f in absurd (cc no)

module _ {S T : Type 0} (told_s : S → DiskTold) (told_t : T → DiskTold) (law_s : (d : S) → IfSome (told_s d).held (λ held. (told_s d).bound ≡ length held.files))
    (law_t : (d : T) → IfSome (told_t d).held (λ held. (told_t d).bound ≡ length held.files)) where
  pub equal_after : (s s' : Side S) (t between t' : Side T) (paths : List (List ℕ)) (result : Result ⊤ BindFault) → IsKept told_s s paths → s.in_use ≡ true → BindsRest told_t t between paths result
      → result ≡ well
      → IsNoneLonger s.lens between.lens (length paths) → AreShort s.lens (length paths) → CopiesFiles told_s told_t s s' between t' (length paths) true → IfBoth (told_s s'.disk).held
      (told_t t'.disk).held HaveSameFiles
  equal_after s s' t between t' paths result k used r e none short c =
      let other = r.kept (given result e) in
      equal_files s.lens between.lens paths (told_s s.disk).held (told_s s'.disk).held (told_t between.disk).held (told_t t'.disk).held c.reads.reads.same c.reads.reads.silent c.rewrites.silent
      (whole_by (told_s s.disk).held (told_s s.disk).bound s.lens paths (law_s s.disk) (k.whole used) k.named k.lengths)
      (whole_by (told_t between.disk).held (told_t between.disk).bound between.lens paths (law_t between.disk) (r.whole e) other.named other.lengths) none short (c.copied refl)
