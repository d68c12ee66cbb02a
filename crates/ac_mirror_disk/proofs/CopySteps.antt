-- The calls of a copy, one after the other: the side that is read stays as it is, and the other keeps what holds of a side.
use Rattle.std.proofs.Common.{◌≡◌, ℕ, Bool, true, false, ◌+◌, ◌<◌, ◌≤◌, List, length, None, Some, refl, sym, ap, ◌∙◌, subst, ◌⊎◌, inl, inr, arith}
use Rattle.std.specs.Prelude.{IfSome, is_ok, slice_index, Ok, Err, ⊤}
use Rattle.std.specs.declared.option.Option.{Option}
use Rattle.std.specs.declared.result.Result.{Result}
use Rattle.std.proofs.lemmas.List.{length-set}
use Rattle.ac_outside.specs.declared.failed.Torn.{Torn}
use Rattle.ac_outside.specs.Causes.{Rose, HasCause}
use Rattle.ac_outside.specs.Disks.{DiskTold, Held, BindsNone, with_written}
use Rattle.ac_outside.specs.Files.{file_of, part}
use Rattle.ac_mirror_disk.specs.declared.side.Side.{Side}
use Rattle.ac_mirror_disk.specs.Sides.{SideWrites}
use Rattle.ac_mirror_disk.specs.Pairs.{IfBoth}
use Rattle.ac_mirror_disk.specs.inner.Copying.{Then, KeepsFound, Becomes, HasJoined, HasCopied, SideOnlyReads, Rewrites, MayCopy, Copies, CopiesFile}
use Rattle.ac_mirror_disk.proofs.ReadOnly.{Holds, not_read, read_on, rose_on}
use Rattle.ac_mirror_disk.proofs.Keeping.{kept_by_write, left_alone}
use Rattle.ac_mirror_disk.proofs.Going.{GoesOn, write_found}
use Rattle.ac_mirror_disk.proofs.Short.{short_write}
use Rattle.ac_mirror_disk.proofs.Copied.{Now, now_on, joined_next, copied_next}

module _ {D : Type 0} (told : D → DiskTold) where
  pub reads_none : (s : Side D) → SideOnlyReads told s s
  reads_none s = record { reads = not_read (told s.disk); lens = refl; in_use = refl }

  pub reads_then : (s a b : Side D) → SideOnlyReads told s a → SideOnlyReads told a b → SideOnlyReads told s b
  reads_then s a b p q = record { reads = read_on (told s.disk) (told a.disk) (told b.disk) p.reads q.reads; lens = q.lens ∙ p.lens; in_use = q.in_use ∙ p.in_use }

  found_none : (x : Option Held) → IfSome x (λ h. Then KeepsFound h x)
  found_none None = tt
  found_none (Some h) = record { held = h; is = refl; so = refl }

  pub rewrites_none : (t : Side D) → Rewrites told t t
  rewrites_none t = record {
    room = refl;
    none = record { bound = refl; is_ready = refl; binds = refl };
    kept = λ paths k. k;
    found = found_none (told t.disk).held;
    silent = λ e. e;
    later = omega arith;
    short = λ short. short;
    in_use = refl;
  }

  found_then : (x y z : Option Held) → IfSome x (λ h. Then KeepsFound h y) → IfSome y (λ h. Then KeepsFound h z) → IfSome x (λ h. Then KeepsFound h z)
  found_then None y z p q = tt
  found_then (Some h) y z p q =
      let r = subst (λ (o : Option Held). IfSome o (λ k. Then KeepsFound k z)) p.is q in
      record { held = r.held; is = r.is; so = r.so ∙ p.so }

  pub rewrites_then : (t a b : Side D) → Rewrites told t a → Rewrites told a b → Rewrites told t b
  rewrites_then t a b p q = record {
    room = q.room ∙ p.room;
    none = record { bound = q.none.bound ∙ p.none.bound; is_ready = q.none.is_ready ∙ p.none.is_ready; binds = q.none.binds ∙ p.none.binds };
    kept = λ paths k. q.kept paths (p.kept paths k);
    found = found_then (told t.disk).held (told a.disk).held (told b.disk).held p.found q.found;
    silent = λ e. q.silent (p.silent e);
    later = omega (arith, p.later, q.later);
    short = λ short. p.short (q.short short);
    in_use = q.in_use ∙ p.in_use;
  }

  found_of : (x y : Option Held) → GoesOn (λ h h'. h'.found ≡ h.found) x y → IfSome x (λ h. Then KeepsFound h y)
  found_of None y g = tt
  found_of (Some h) y g = record { held = g.goes.held; is = g.goes.is; so = g.goes.so }

module _ {D : Type 0} (told : D → DiskTold) (law : (d : D) → IfSome (told d).held (λ held. (told d).bound ≡ length held.files)) where
  none_of : (t t' : Side D) (file from : ℕ) (bytes : List ℕ) (of : Option (Result ⊤ Torn)) → SideWrites told t t' file from bytes of → BindsNone (told t.disk) (told t'.disk)
  none_of t t' file from bytes None w = (left_alone told law t t' w).none
  none_of t t' file from bytes (Some result) w = w.0.none

  later_of : (t t' : Side D) (file from : ℕ) (bytes : List ℕ) (of : Option (Result ⊤ Torn)) → SideWrites told t t' file from bytes of → (told t.disk).faults ≤ (told t'.disk).faults
  later_of t t' file from bytes None w = (left_alone told law t t' w).later
  later_of t t' file from bytes (Some result) w = w.0.cause.later

  room_of : (t t' : Side D) (file from : ℕ) (bytes : List ℕ) (of : Option (Result ⊤ Torn)) → SideWrites told t t' file from bytes of → length t'.lens ≡ length t.lens
  room_of t t' file from bytes None w = ap (λ (ns : List ℕ). length ns) w.lens
  room_of t t' file from bytes (Some result) w = ap (λ (ns : List ℕ). length ns) w.1 ∙ length-set t.lens file _

  -- a write of a bound file
  pub rewrites_by : (t t' : Side D) (file from : ℕ) (bytes : List ℕ) (of : Option (Result ⊤ Torn)) → file < (told t.disk).bound → (told t.disk).bound ≤ 16 → from + length bytes ≤ 1048576
      → t'.in_use ≡ t.in_use → SideWrites told t t' file from bytes of → Rewrites told t t'
  rewrites_by t t' file from bytes of less few within_ used w =
      let found = write_found told t t' file from bytes of w in
      record {
        room = room_of t t' file from bytes of w;
        none = none_of t t' file from bytes of w;
        kept = λ paths k. kept_by_write told law t t' paths file from bytes of k (λ _. less) few within_ w (λ still. sym used ∙ still);
        found = found_of told (told t.disk).held (told t'.disk).held found;
        silent = found.silent;
        later = later_of t t' file from bytes of w;
        short = short_write told t t' file from bytes of w;
        in_use = used;
      }

module _ {S T : Type 0} (told_s : S → DiskTold) (told_t : T → DiskTold) (law_t : (d : T) → IfSome (told_t d).held (λ held. (told_t d).bound ≡ length held.files)) where
  -- a side rises later where it rises
  pub rises_on : (s a b : Side S) (t c d : Side T) → (told_s s.disk).faults ≤ (told_s a.disk).faults → (told_t t.disk).faults ≤ (told_t c.disk).faults
      → Rose (told_s a.disk).faults (told_s b.disk).faults ⊎ Rose (told_t c.disk).faults (told_t d.disk).faults
      → Rose (told_s s.disk).faults (told_s b.disk).faults ⊎ Rose (told_t t.disk).faults (told_t d.disk).faults
  rises_on s a b t c d p q (inl r) = inl (rose_on (told_s s.disk).faults (told_s a.disk).faults (told_s b.disk).faults p r)
  rises_on s a b t c d p q (inr r) = inr (rose_on (told_t t.disk).faults (told_t c.disk).faults (told_t d.disk).faults q r)

  pub may_still : (s a : Side S) (t c : Side T) (file : ℕ) → MayCopy told_s told_t s t file → SideOnlyReads told_s s a → Rewrites told_t t c → MayCopy told_s told_t a c file
  may_still s a t c file m p q = record {
    ready_s = p.reads.none.is_ready ∙ m.ready_s;
    ready_t = q.none.is_ready ∙ m.ready_t;
    named_s = let less = m.named_s in let e = p.reads.none.bound in omega (arith, less, e);
    named_t = let less = m.named_t in let e = q.none.bound in omega (arith, less, e);
    few = let few = m.few in let e = q.none.bound in omega (arith, few, e);
    room = q.room ∙ m.room;
  }

  pub copy_rewrites : (s s' : Side S) (t t' : Side T) (file from len : ℕ) (done : Bool) → MayCopy told_s told_t s t file → from + len ≤ 1048576 → Copies told_s told_t s s' t t' file from len done
      → Rewrites told_t t t'
  copy_rewrites s s' t t' file from len done m within_ c =
      let less = c.few in
      rewrites_by told_t law_t t t' file from c.bytes c.written m.named_t m.few (omega (arith, less, within_)) c.in_use c.writes

  -- what a read side holds now
  held_now : (x x' : Option Held) (h : Held) → x ≡ Some h → Holds x x' → (n : ℕ) × (x' ≡ Some (record h { calls = n }))
  held_now x x' h e holds = subst (λ (o : Option Held). Holds o x') e holds

  written_so : (t t' : Side T) (file from : ℕ) (bytes : List ℕ) (of : Option (Result ⊤ Torn)) (k : Held) → of ≡ Some (Ok tt) → (told_t t.disk).held ≡ Some k → SideWrites told_t t t' file from bytes of
      → (told_t t'.disk).held ≡ Some (with_written k file from bytes)
  written_so t t' file from bytes of k e h w =
      let left = (subst (λ o. SideWrites told_t t t' file from bytes o) e w).0.left in
      subst (λ (o : Option Held). IfSome o (λ l. (told_t t'.disk).held ≡ Some (with_written l file from bytes))) h left

  -- one piece more is copied
  pub piece_on : (s0 s s' : Side S) (t0 t t' : Side T) (file len from want count : ℕ) → SideOnlyReads told_s s0 s → file < (told_t t0.disk).bound → Copies told_s told_t s s' t t' file from want true
      → from + want ≡ count → count ≤ len → 0 < want
      → Now (HasJoined file len from) (told_s s0.disk).held (told_t t0.disk).held (told_t t.disk).held
      → Now (HasJoined file len count) (told_s s0.disk).held (told_t t0.disk).held (told_t t'.disk).held
  piece_on s0 s s' t0 t t' file len from want count reads named c e fits some now =
      now_on (HasJoined file len from) (HasJoined file len count) (λ h l. with_written l file from (part (file_of h.files file).bytes from want))
      (told_s s0.disk).held (told_t t0.disk).held (told_t t.disk).held (told_t t'.disk).held
      (λ h k l eh ek el.
      let there = held_now (told_s s0.disk).held (told_s s.disk).held h eh reads.reads.same in
      let bytes : c.bytes ≡ part (file_of h.files file).bytes from want = subst (λ (o : Option Held). IfSome o (λ x. c.bytes ≡ part (file_of x.files file).bytes from want)) there.1 (c.given refl) in
      written_so t t' file from c.bytes c.written l (c.well refl) el c.writes ∙ ap (λ bs. Some (with_written l file from bs)) bytes)
      (λ h k l ek el before. joined_next file len from want count h k l (named_in (told_t t0.disk).held k (told_t t0.disk).bound ek named (law_t t0.disk)) e fits some before) now
    where
      named_in : (y : Option Held) (k : Held) (bound : ℕ) → y ≡ Some k → file < bound → IfSome y (λ held. bound ≡ length held.files) → file < length k.files
      named_in y k bound ek less l = let long : bound ≡ length k.files = subst (λ (o : Option Held). IfSome o (λ held. bound ≡ length held.files)) ek l in omega (arith, long, less)

  -- one file more is copied
  file_now : (lens : List ℕ) (all file bound : ℕ) (x x' y now next : Option Held) → Holds x x' → file < all → file < bound → IfSome y (λ held. bound ≡ length held.files)
      → Now (HasCopied lens all file) x y now → IfBoth x' now (λ h l. Becomes (HasJoined file (slice_index lens file) (slice_index lens file)) h l next)
      → Now (HasCopied lens all (file + 1)) x y next
  file_now lens all file bound None x' y now next holds less named law n done = tt
  file_now lens all file bound (Some h) x' None now next holds less named law n done = tt
  file_now lens all file bound (Some h) x' (Some k) now next holds less named law n done =
      let one = subst (λ (o : Option Held). IfSome o (λ x. IfSome now (λ l. Becomes (HasJoined file (slice_index lens file) (slice_index lens file)) x l next))) holds.1 done in
      let both = subst (λ (o : Option Held). IfSome o (λ l. Becomes (HasJoined file (slice_index lens file) (slice_index lens file)) (record h { calls = holds.0 }) l next)) n.is one in
      record {
        held = both.held;
        is = both.is;
        so = copied_next lens all file h k n.held both.held less (omega (arith, named, law)) n.so (λ fits. both.so (record { one = fits.one; other = fits.other }));
      }

  pub file_on : (s0 s s' : Side S) (t0 t t' : Side T) (all file : ℕ) → SideOnlyReads told_s s0 s → file < all → file < (told_t t0.disk).bound → CopiesFile told_s told_t s s' t t' file true
      → Now (HasCopied s0.lens all file) (told_s s0.disk).held (told_t t0.disk).held (told_t t.disk).held
      → Now (HasCopied s0.lens all (file + 1)) (told_s s0.disk).held (told_t t0.disk).held (told_t t'.disk).held
  file_on s0 s s' t0 t t' all file reads less named c now =
      file_now s0.lens all file (told_t t0.disk).bound (told_s s0.disk).held (told_s s.disk).held (told_t t0.disk).held (told_t t.disk).held (told_t t'.disk).held reads.reads.same less named
      (law_t t0.disk) now
      (subst (λ lens. IfBoth (told_s s.disk).held (told_t t.disk).held (λ h l. Becomes (HasJoined file (slice_index lens file) (slice_index lens file)) h l (told_t t'.disk).held)) reads.lens
      (c.copied refl))

-- ---- a piece

pub rose_by : {T E : Type 0} (f f' : ℕ) (result : Result T E) → is_ok result ≡ false → HasCause f f' result → Rose f f'
rose_by f f' (Ok value) e cause = absurd (cc e)
rose_by f f' (Err fault) e cause = cause.failed

pub ok_is : (result : Result ⊤ Torn) → is_ok result ≡ true → Some result ≡ Some (Ok tt)
ok_is (Ok done) e = refl
ok_is (Err torn) e = absurd (cc e)
