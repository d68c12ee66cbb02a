-- Writes are done one after the other: what a disk tells after some of them and one more.
use Rattle.std.proofs.Common.{◌≡◌, ℕ, suc, zero, ◌≤◌, List, [], ◌∷◌, ◌++◌, take, drop, Option, Some, None, refl, sym, ap, ◌∙◌, subst, length}
use Rattle.std.specs.Prelude.{IfSome, slice_get}
use Rattle.ac_outside.specs.Causes.{Rose}
use Rattle.ac_outside.specs.Disks.{Held, DiskTold, BindsNone, with_written}
use Rattle.trace_writes.specs.declared.write.FileWrite.{FileWrite}
use Rattle.trace_writes.specs.Doing.{DidAll, DidSome, FailedAt, with_writes}

with_append : (held : Held) (ws vs : List FileWrite) → with_writes held (ws ++ vs) ≡ with_writes (with_writes held ws) vs
with_append held [] vs = refl
with_append held (w ∷ ws) vs = with_append (with_written held w.file w.from w.bytes) ws vs

module _ (ws : List FileWrite) (w : FileWrite) (old mid new : DiskTold) (did : DidAll ws old mid) where
  pub did_more : DidAll (w ∷ []) mid new → DidAll (ws ++ w ∷ []) old new
  did_more one = record {
    none = record {
      bound = one.none.bound ∙ did.none.bound;
      is_ready = one.none.is_ready ∙ did.none.is_ready;
      binds = one.none.binds ∙ did.none.binds;
    };
    well = one.well ∙ did.well;
    told = by old.held did.told;
    silent = λ h. one.silent (did.silent h);
  }
    where
      by : (h : Option Held) → IfSome h (λ held. mid.held ≡ Some (with_writes held ws)) → IfSome h (λ held. new.held ≡ Some (with_writes held (ws ++ w ∷ [])))
      by None e = tt
      by (Some held) e =
          let there = subst (λ (o : Option Held). IfSome o (λ it. new.held ≡ Some (with_writes it (w ∷ [])))) e one.told in
          there ∙ ap (λ (it : Held). Some it) (sym (with_append held ws (w ∷ [])))

  pub fails_now : FailedAt [] w mid new → FailedAt ws w old new
  fails_now f = record {
    taken = f.taken;
    part = f.part;
    none = record {
      bound = f.none.bound ∙ did.none.bound;
      is_ready = f.none.is_ready ∙ did.none.is_ready;
      binds = f.none.binds ∙ did.none.binds;
    };
    later = subst (λ n. n ≤ new.faults) did.well f.later;
    failed = subst (λ n. Rose n new.faults) did.well f.failed;
    latest = f.latest ∙ did.well;
    told = by old.held did.told;
    silent = λ h. f.silent (did.silent h);
  }
    where
      by : (h : Option Held) → IfSome h (λ held. mid.held ≡ Some (with_writes held ws))
          → IfSome h (λ held. new.held ≡ Some (with_written (with_writes held ws) w.file w.from (take f.taken w.bytes)))
      by None e = tt
      by (Some held) e = subst (λ (o : Option Held). IfSome o (λ it. new.held ≡ Some (with_written it w.file w.from (take f.taken w.bytes)))) e f.told

-- ---- the first so many of a list

split_at : {X : Type 0} (xs : List X) (k : ℕ) (x : X) → slice_get xs k ≡ Some x → xs ≡ take k xs ++ x ∷ drop (suc k) xs
split_at [] k x h = cc
split_at (y ∷ ys) zero x h = let e : y ≡ x = cc in ap (λ z. z ∷ ys) e
split_at (y ∷ ys) (suc k) x h = ap (λ zs. y ∷ zs) (split_at ys k x h)

pub some_of : (ws : List FileWrite) (k : ℕ) (w : FileWrite) (old new : DiskTold) → slice_get ws k ≡ Some w → FailedAt (take k ws) w old new → DidSome ws old new
some_of ws k w old new here f = record {
  done = take k ws;
  torn = w;
  others = drop (suc k) ws;
  form = split_at ws k w here;
  failed_at = f;
}

-- ---- one write that fails

module _ (w : FileWrite) (bytes : List ℕ) (taken : ℕ) (old new : DiskTold) (same : bytes ≡ w.bytes) (none : BindsNone old new) where
  pub fails_at : taken ≤ length bytes → old.faults ≤ new.faults → Rose old.faults new.faults → new.earlier ≡ old.faults
      → IfSome old.held (λ held. new.held ≡ Some (with_written held w.file w.from (take taken bytes))) → (old.held ≡ None → new.held ≡ None) → FailedAt [] w old new
  fails_at part later failed latest told silent = record {
    taken = taken;
    part = subst (λ bs. taken ≤ length bs) same part;
    none = none;
    later = later;
    failed = failed;
    latest = latest;
    told = subst (λ bs. IfSome old.held (λ held. new.held ≡ Some (with_written held w.file w.from (take taken bs)))) same told;
    silent = silent;
  }
