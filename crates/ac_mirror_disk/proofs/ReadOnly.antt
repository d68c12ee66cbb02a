-- Disks that are only read hold the same after one read as before it, and so after several. A file that is compared piece by piece is the same
-- up to the piece that is next.
use Rattle.std.proofs.Common.{◌≡◌, ℕ, ◌+◌, ◌-◌, ◌*◌, ◌<◌, ◌≤◌, min, List, ◌++◌, take, None, Some, refl, sym, ap, ◌∙◌, subst, arith}
use Rattle.std.specs.Prelude.{IfSome}
use Rattle.std.specs.Int.{div_ceil}
use Rattle.std.specs.declared.option.Option.{Option}
use Rattle.std.proofs.Math.Seq.{take-add}
use Rattle.std.proofs.lemmas.Grind.{div_ceil_times}
use Rattle.ac_outside.specs.Causes.{Rose}
use Rattle.ac_outside.specs.Told.{one_more}
use Rattle.ac_outside.specs.Disks.{DiskTold, Held, BindsNone, called}
use Rattle.ac_outside.specs.Files.{file_of, part}
use Rattle.ac_mirror_disk.specs.Pairs.{IfBoth, OnlyReads}
use Rattle.ac_mirror_disk.specs.inner.Comparing.{HaveSameFront, HaveSamePart}

-- ---- one read, none, and several

-- it holds the same, after some calls
abbrev pub Holds : Option Held → Option Held → Type 0
Holds x y = IfSome x (λ held. (calls : ℕ) × (y ≡ Some (record held { calls = calls })))

after_one : (x y : Option Held) → IfSome x (λ held. y ≡ Some (called held)) → Holds x y
after_one None y h = tt
after_one (Some held) y h = (one_more held.calls, h)

after_none : (x : Option Held) → Holds x x
after_none None = tt
after_none (Some held) = (held.calls, refl)

after_both : (x y z : Option Held) → Holds x y → Holds y z → Holds x z
after_both None y z p q = tt
after_both (Some held) y z p q =
    let r = subst (λ (o : Option Held). Holds o z) p.1 q in
    (r.0, r.1)

pub read_by : (before after : DiskTold) → BindsNone before after → IfSome before.held (λ held. after.held ≡ Some (called held))
    → (before.held ≡ None → after.held ≡ None) → before.faults ≤ after.faults → OnlyReads before after
read_by before after none same silent later = record { none = none; same = after_one before.held after.held same; silent = silent; later = later }

pub not_read : (told : DiskTold) → OnlyReads told told
not_read told = record { none = record { bound = refl; is_ready = refl; binds = refl }; same = after_none told.held; silent = λ e. e; later = omega arith }

pub read_on : (first between last : DiskTold) → OnlyReads first between → OnlyReads between last → OnlyReads first last
read_on first between last p q = record {
  none = record { bound = q.none.bound ∙ p.none.bound; is_ready = q.none.is_ready ∙ p.none.is_ready; binds = q.none.binds ∙ p.none.binds };
  same = after_both first.held between.held last.held p.same q.same;
  silent = λ e. q.silent (p.silent e);
  later = omega (arith, p.later, q.later);
}

-- ---- what was found later was there before

module _ (P : Held → Held → Type 0) (same : (x y : Held) (n m : ℕ) → P (record x { calls = n }) (record y { calls = m }) → P x y) where
  found_before : (x x' y y' : Option Held) → Holds x x' → Holds y y' → IfBoth x' y' P → IfBoth x y P
  found_before None x' y y' p q h = tt
  found_before (Some held) x' None y' p q h = tt
  found_before (Some held) x' (Some other) y' p q h =
      let one = subst (λ (o : Option Held). IfBoth o y' P) p.1 h in
      same held other p.0 q.0 (subst (λ (o : Option Held). IfSome o (λ y. P (record held { calls = p.0 }) y)) q.1 one)

  pub both_before : (a a' b b' : DiskTold) → OnlyReads a a' → OnlyReads b b' → IfBoth a'.held b'.held P → IfBoth a.held b.held P
  both_before a a' b b' p q h = found_before a.held a'.held b.held b'.held p.same q.same h

-- two facts on what both hold make a third
pub both_give : (P Q R : Held → Held → Type 0) (x y : Option Held) → ((held other : Held) → P held other → Q held other → R held other) → IfBoth x y P → IfBoth x y Q → IfBoth x y R
both_give P Q R None y f p q = tt
both_give P Q R (Some held) None f p q = tt
both_give P Q R (Some held) (Some other) f p q = f held other p q

pub both_hold : (P : Held → Held → Type 0) (x y : Option Held) → ((held other : Held) → P held other) → IfBoth x y P
both_hold P None y f = tt
both_hold P (Some held) None f = tt
both_hold P (Some held) (Some other) f = f held other

pub rose_on : (first between last : ℕ) → first ≤ between → Rose between last → Rose first last
rose_on first between last less rose = omega (arith, less, rose)

pub rose_first : (first between last : ℕ) → Rose first between → between ≤ last → Rose first last
rose_first first between last rose less = omega (arith, less, rose)

-- ---- pieces

abbrev pub pieces_of : ℕ → ℕ
pieces_of len = div_ceil len 65536

-- a piece that there is begins within the file
pub within : (len number : ℕ) → number < pieces_of len → number * 65536 < len
within len number less = let times = div_ceil_times len 65536 (omega arith) in omega (arith, less, times.1)

-- and after the last the file is over
pub over : (len : ℕ) → len ≤ pieces_of len * 65536
over len = (div_ceil_times len 65536 (omega arith)).0

pub one_piece : (bytes : List ℕ) (len from want number : ℕ) → from ≡ number * 65536 → want ≡ min 65536 (len - from) → from < len
    → take (min (number * 65536) len) bytes ++ part bytes from want ≡ take (min ((number + 1) * 65536) len) bytes
one_piece bytes len from want number f w less =
    let here : min (number * 65536) len ≡ from = omega (arith, f, less) in
    let there : from + want ≡ min ((number + 1) * 65536) len = omega (arith, f, w, less) in
    ap (λ n. take n bytes ++ part bytes from want) here ∙ sym (take-add from want bytes) ∙ ap (λ n. take n bytes) there

-- the fronts are the same one piece further
pub front_on : (file len from want number : ℕ) (x y : Held) → from ≡ number * 65536 → want ≡ min 65536 (len - from) → from < len
    → HaveSameFront file (min (number * 65536) len) x y → HaveSamePart file from want x y → HaveSameFront file (min ((number + 1) * 65536) len) x y
front_on file len from want number x y f w less front piece =
    sym (one_piece (file_of x.files file).bytes len from want number f w less) ∙ ap (λ bytes. bytes ++ part (file_of x.files file).bytes from want) front
    ∙ ap (λ bytes. take (min (number * 65536) len) (file_of y.files file).bytes ++ bytes) piece ∙ one_piece (file_of y.files file).bytes len from want number f w less
