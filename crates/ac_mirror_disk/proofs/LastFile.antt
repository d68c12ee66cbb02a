-- The file that was bound last: it stands behind the others, and its length is known. Two files of one length that are the same up to there are
-- the same.
use Rattle.std.proofs.Common.{◌≡◌, ◌≢◌, ◌⊎◌, ℕ, Bool, true, false, ◌+◌, ◌-◌, ◌^◌, ◌<◌, ◌≤◌, min, List, [], ◌∷◌, ◌++◌, take, length, None, Some, refl, sym, ap, ◌∙◌, subst, inl, inr, arith}
use Rattle.std.specs.Prelude.{◌&&◌, not, IfSome, is_some, slice_index, slice_set, Ok, Err}
use Rattle.std.specs.declared.option.Option.{Option}
use Rattle.std.specs.declared.result.Result.{Result}
use Rattle.std.proofs.Math.Seq.{get_or-append_seam}
use Rattle.std.proofs.lemmas.List.{take_all, get_or-set_same}
use Rattle.ac_outside.specs.declared.failed.BindFault.{BindFault}
use Rattle.ac_outside.specs.declared.shelf.NamedBytes.{NamedBytes}
use Rattle.ac_outside.specs.Disks.{DiskTold, Held, with_bound}
use Rattle.ac_outside.specs.Files.{file_at, file_of, told_length}
use Rattle.ac_mirror_disk.specs.declared.side.Side.{Side}
use Rattle.ac_mirror_disk.specs.Calls.{HasBound}
use Rattle.ac_mirror_disk.specs.Sides.{SideBinds, first_stays, second_stays, has_failed}
use Rattle.ac_mirror_disk.specs.Pairs.{IfBoth, HaveSameBytes, most_bytes}
use Rattle.ac_mirror_disk.specs.inner.Comparing.{HaveSameFront}
use Rattle.ac_mirror_disk.specs.inner.Callable.{MayBind, HasFile, BothLast}
use Rattle.ac_mirror_disk.proofs.InUse.{first_was, second_was, both_stay}

-- the last of the bound files
pub the_last : (files : List NamedBytes) (file : NamedBytes) (number : ℕ) → number ≡ length files → file_of (files ++ file ∷ []) number ≡ file
the_last files file number e = ap (file_of (files ++ file ∷ [])) e ∙ get_or-append_seam files file [] (record { name = []; bytes = [] })

long_as : (x y : Option Held) (lens : List ℕ) (path : List ℕ) (bound len : ℕ) → IfSome x (λ held. bound ≡ length held.files) → length lens ≡ 16 → bound < 16
    → IfSome x (λ held. (len ≡ told_length (file_at held.found path).bytes) × (y ≡ Some (with_bound held path))) → (x ≡ None → y ≡ None)
    → IfSome y (λ held. slice_index (slice_set lens bound len) bound ≡ told_length (file_of held.files bound).bytes)
long_as None y lens path bound len tells room few leaves silent =
    subst (λ (o : Option Held). IfSome o (λ held. slice_index (slice_set lens bound len) bound ≡ told_length (file_of held.files bound).bytes)) (sym (silent refl)) tt
long_as (Some held) y lens path bound len tells room few leaves silent =
    subst (λ (o : Option Held). IfSome o (λ held. slice_index (slice_set lens bound len) bound ≡ told_length (file_of held.files bound).bytes)) (sym leaves.1)
    (get_or-set_same lens bound len 0 (omega (arith, room, few)) ∙ leaves.0 ∙ ap (λ (file : NamedBytes). told_length file.bytes) (sym (the_last held.files (file_at held.found path) bound tells)))

module _ {D : Type 0} (told : D → DiskTold) (law : (d : D) → IfSome (told d).held (λ held. (told d).bound ≡ length held.files)) where
  has_it : (s s' : Side D) (path : List ℕ) (len : ℕ) → (told s.disk).bound < 16 → length s.lens ≡ 16 → HasBound (told s.disk) (told s'.disk) path (Ok len)
      → s'.lens ≡ slice_set s.lens (told s.disk).bound len → HasFile told s' (told s.disk).bound
  has_it s s' path len few room h l = record {
    ready = h.ready;
    named = omega (arith, h.bound);
    few = omega (arith, h.bound, few);
    long = subst (λ lens. IfSome (told s'.disk).held (λ held. slice_index lens (told s.disk).bound ≡ told_length (file_of held.files (told s.disk).bound).bytes)) (sym l)
        (long_as (told s.disk).held (told s'.disk).held s.lens path (told s.disk).bound len (law s.disk) room few h.leaves h.silent);
  }

  -- a side that was called and has not failed has bound the file
  has_file : (s s' : Side D) (path : List ℕ) (of : Option (Result ℕ BindFault)) → MayBind told s path → s.in_use ≡ true → is_some of ≡ true → has_failed of ≡ false
      → SideBinds told s s' path of → HasFile told s' (told s.disk).bound × ((told s'.disk).bound ≡ (told s.disk).bound + 1)
  has_file s s' path None may used called well binds = absurd (cc called)
  has_file s s' path (Some (Ok len)) may used called well binds = (has_it s s' path len (may.few used) may.room binds.0 binds.1, binds.0.bound)
  has_file s s' path (Some (Err fault)) may used called well binds = absurd (cc well)

  -- that a side is dropped does not change what it has
  pub binds_still : (s s' : Side D) (path : List ℕ) (of : Option (Result ℕ BindFault)) (used : Bool) → SideBinds told s s' path of
      → SideBinds told s (record { disk = s'.disk; lens = s'.lens; in_use = used }) path of
  binds_still s s' path None used h = record { disk = h.disk; lens = h.lens }
  binds_still s s' path (Some result) used h = h

module _ {A B : Type 0} (told_a : A → DiskTold) (told_b : B → DiskTold) (law_a : (d : A) → IfSome (told_a d).held (λ held. (told_a d).bound ≡ length held.files))
    (law_b : (d : B) → IfSome (told_b d).held (λ held. (told_b d).bound ≡ length held.files)) where
  both_last : (a : Side A) (b : Side B) (file : ℕ) → HasFile told_a a file → (told_a a.disk).bound ≡ file + 1 → HasFile told_b b file → BothLast told_a told_b a b
  both_last a b file one e other =
      let at : file ≡ (told_a a.disk).bound - 1 = omega (arith, e) in
      record { some = omega (arith, e); first = subst (HasFile told_a a) at one; second = subst (HasFile told_b b) at other }

  -- where both sides stay, both have bound the file
  pub last_bound : (a a' : Side A) (b b' : Side B) (path : List ℕ) (of_a of_b : Option (Result ℕ BindFault)) → MayBind told_a a path → MayBind told_b b path
      → (a.in_use ≡ true → b.in_use ≡ true → (told_a a.disk).bound ≡ (told_b b.disk).bound) → is_some of_a ≡ a.in_use → is_some of_b ≡ b.in_use
      → SideBinds told_a a a' path of_a → SideBinds told_b b b' path of_b → a'.in_use ≡ first_stays a.in_use (has_failed of_a) b.in_use (has_failed of_b)
      → b'.in_use ≡ second_stays a.in_use b.in_use (has_failed of_b) → a'.in_use ≡ true → b'.in_use ≡ true → BothLast told_a told_b a' b'
  last_bound a a' b b' path of_a of_b may_a may_b as_many called_a called_b on_a on_b use_a use_b ua ub =
      let well = both_stay a.in_use (has_failed of_a) b.in_use (has_failed of_b) (sym use_a ∙ ua) (sym use_b ∙ ub) in
      let ia = first_was a.in_use (has_failed of_a) b.in_use (has_failed of_b) (sym use_a ∙ ua) in
      let ib = second_was a.in_use b.in_use (has_failed of_b) (sym use_b ∙ ub) in
      let one = has_file told_a law_a a a' path of_a may_a ia (called_a ∙ ia) well.0 on_a in
      let other = has_file told_b law_b b b' path of_b may_b ib (called_b ∙ ib) well.1 on_b in
      both_last a' b' (told_a a.disk).bound one.0 one.1 (subst (HasFile told_b b') (sym (as_many ia ib)) other.0)

-- ---- the bytes of two files

-- a length that can be read whole is told as it is
told_whole : (bytes : List ℕ) (len : ℕ) → len ≡ told_length bytes → len ≤ most_bytes → length bytes ≤ len
told_whole bytes len e few = let t : len ≡ min (length bytes) (2 ^ 32 - 1) = e in omega (arith, t, few)

same_whole : (bytes other : List ℕ) (len : ℕ) → length bytes ≤ len → length other ≤ len → take len bytes ≡ take len other → bytes ≡ other
same_whole bytes other len few fewer e = sym (take_all len bytes few) ∙ e ∙ take_all len other fewer

pub same_bytes : (x y : Option Held) (file len : ℕ) → len ≤ most_bytes → IfSome x (λ held. len ≡ told_length (file_of held.files file).bytes)
    → IfSome y (λ held. len ≡ told_length (file_of held.files file).bytes) → IfBoth x y (HaveSameFront file len) → IfBoth x y (HaveSameBytes file)
same_bytes None y file len few p q h = tt
same_bytes (Some held) None file len few p q h = tt
same_bytes (Some held) (Some other) file len few p q h =
    same_whole (file_of held.files file).bytes (file_of other.files file).bytes len (told_whole _ len p few) (told_whole _ len q few) h

pub relong : (x : Option Held) (file n m : ℕ) → n ≡ m → IfSome x (λ held. m ≡ told_length (file_of held.files file).bytes) → IfSome x (λ held. n ≡ told_length (file_of held.files file).bytes)
relong x file n m e h = subst (λ k. IfSome x (λ held. k ≡ told_length (file_of held.files file).bytes)) (sym e) h

pub unlike_differ : (n m : ℕ) (P : Type 0) → (n ≢ m) ⊎ (most_bytes < n) → (n ≢ m) ⊎ (most_bytes < n) ⊎ P
unlike_differ n m P (inl e) = inl e
unlike_differ n m P (inr over) = inr (inl over)

-- ---- dropping a side

module _ {D : Type 0} where
  pub used_is : (s s' : Side D) (used : Bool) → s' ≡ record { disk = s.disk; lens = s.lens; in_use = used } → s'.in_use ≡ used
  used_is s s' used e = ap (λ (t : Side D). t.in_use) e

  pub binds_dropped : (told : D → DiskTold) (law : (d : D) → IfSome (told d).held (λ held. (told d).bound ≡ length held.files)) (s b s' : Side D) (path : List ℕ) (of : Option (Result ℕ BindFault))
      (used : Bool)
      → s' ≡ record { disk = b.disk; lens = b.lens; in_use = used } → SideBinds told s b path of → SideBinds told s s' path of
  binds_dropped told law s b s' path of used e h = subst (λ (t : Side D). SideBinds told s t path of) (sym e) (binds_still told law s b path of used h)

pub first_as : (x x' xf xf' y y' yf yf' : Bool) → x ≡ x' → xf ≡ xf' → y ≡ y' → yf ≡ yf' → first_stays x xf y yf ≡ first_stays x' xf' y' yf'
first_as x x' xf xf' y y' yf yf' ex exf ey eyf =
    ap (λ b. first_stays b xf y yf) ex ∙ ap (λ b. first_stays x' b y yf) exf ∙ ap (λ b. first_stays x' xf' b yf) ey ∙ ap (λ b. first_stays x' xf' y' b) eyf

pub second_as : (x x' y y' yf yf' : Bool) → x ≡ x' → y ≡ y' → yf ≡ yf' → second_stays x y yf ≡ second_stays x' y' yf'
second_as x x' y y' yf yf' ex ey eyf = ap (λ b. second_stays b y yf) ex ∙ ap (λ b. second_stays x' b yf) ey ∙ ap (λ b. second_stays x' y' b) eyf

pub even_as : (e f f' g g' : Bool) → f ≡ f' → g ≡ g' → (e && not f && not g) ≡ (e && not f' && not g')
even_as e f f' g g' ef eg = ap (λ b. e && not b && not g) ef ∙ ap (λ b. e && not f' && not b) eg
