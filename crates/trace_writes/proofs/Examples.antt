-- Writes by example: those of three requests of which one failed, and what they make of a disk.
use Rattle.std.proofs.Common.{◌≡◌, ℕ, List, [], ◌∷◌, true, None, Some, ap, refl, arith}
use Rattle.ac_base.specs.declared.entry.Answer.TheVariants.{Bytes, Count, Fault}
use Rattle.ac_base.specs.declared.entry.Payload.TheVariants.{Read, Write}
use Rattle.ac_outside.specs.Disks.{Held, DiskTold}
use Rattle.trace_writes.specs.declared.write.FileWrite.{FileWrite}
use Rattle.trace_writes.specs.Doing.{CanDo, DidAll, DidSome, FailedAt, with_writes}
use Rattle.trace_writes.specs.Writes.{write_of, writes_of}

abbrev first : FileWrite
first = record { file = 0; from = 2; bytes = 7 ∷ 8 ∷ [] }

abbrev second : FileWrite
second = record { file = 0; from = 0; bytes = 5 ∷ [] }

abbrev first_bytes : List FileWrite → List ℕ
first_bytes [] = []
first_bytes (w ∷ ws) = w.bytes

-- ---- which there are

-- a write, a read, and a write that failed after its first byte
pub the_writes : writes_of
    (record { payload = Write 0 2 (7 ∷ 8 ∷ []); answer = Count 2 } ∷ record { payload = Read 0 0 4; answer = Bytes (1 ∷ []) }
    ∷ record { payload = Write 0 0 (5 ∷ 6 ∷ []); answer = Fault 1 } ∷ []) ≡ first ∷ second ∷ []
the_writes = refl

pub not_the_whole_where_it_failed : write_of (Write 0 0 (5 ∷ 6 ∷ [])) (Fault 1) ≡ record { file = 0; from = 0; bytes = 5 ∷ 6 ∷ [] } ∷ [] → ⊥
not_the_whole_where_it_failed e = let bytes : 5 ∷ [] ≡ 5 ∷ 6 ∷ [] = ap first_bytes e in cc (bytes)

-- ---- what can be done

pub it_can_be_done : CanDo 1 first
it_can_be_done = record { named = omega arith; within = omega arith }

pub not_of_a_file_that_is_not_bound : CanDo 0 first → ⊥
not_of_a_file_that_is_not_bound c = let none = c.named in omega (arith, none)

-- ---- what is done

abbrev held : Held
held = record { files = record { name = 112 ∷ []; bytes = 1 ∷ [] } ∷ []; found = λ path. None; calls = 3 }

abbrev told : Held → ℕ → ℕ → DiskTold
told it faults earlier = record { held = Some it; bound = 1; is_ready = true; binds = None; faults = faults; earlier = earlier }

-- a gap is filled with zeros, and each is one call
pub both_are_done : with_writes held (first ∷ second ∷ [])
    ≡ record { files = record { name = 112 ∷ []; bytes = 5 ∷ 0 ∷ 7 ∷ 8 ∷ [] } ∷ []; found = λ path. None; calls = 5 }
both_are_done = refl

pub they_are_all : DidAll (first ∷ second ∷ []) (told held 0 0) (told (with_writes held (first ∷ second ∷ [])) 0 0)
they_are_all = record {
  none = record { bound = refl; is_ready = refl; binds = refl };
  well = refl;
  told = refl;
  silent = λ no. cc (no);
}

pub not_where_a_call_failed : DidAll (first ∷ []) (told held 0 0) (told (with_writes held (first ∷ [])) 1 0) → ⊥
not_where_a_call_failed d = let same : 1 ≡ 0 = d.well in omega (arith, same)

-- the second failed before its first byte
pub the_second_failed : FailedAt (first ∷ []) second (told held 0 0) (told (record (with_writes held (first ∷ [])) { calls = 5 }) 1 0)
the_second_failed = record {
  taken = 0;
  part = omega arith;
  none = record { bound = refl; is_ready = refl; binds = refl };
  later = omega arith;
  failed = omega arith;
  latest = refl;
  told = refl;
  silent = λ no. cc (no);
}

pub so_some_were_done : DidSome (first ∷ second ∷ []) (told held 0 0) (told (record (with_writes held (first ∷ [])) { calls = 5 }) 1 0)
so_some_were_done = record { done = first ∷ []; torn = second; others = []; form = refl; failed_at = the_second_failed }

pub none_failed_without_a_cause : DidSome (first ∷ second ∷ []) (told held 0 0) (told held 0 0) → ⊥
none_failed_without_a_cause d = let rose = d.failed_at.failed in omega (arith, rose)
