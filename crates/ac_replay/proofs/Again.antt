-- Where a report is due, the trace was run again: of all that may be due, only this has the status of ended cores.
use Rattle.std.proofs.Common.{◌≡◌, ℕ, List, Option, Some, None, sym, ◌∙◌, subst, arith, length}
use Rattle.std.specs.Prelude.{IfSome}
use Rattle.ac_names.specs.Numbered.{file_paths}
use Rattle.ac_outside.specs.Disks.{DiskTold, Held}
use Rattle.ac_outside.specs.Told.{LibraryTold, SinkTold, GrewBy}
use Rattle.ac_resolve.specs.Resolution.{resolved}
use Rattle.ac_tree.specs.declared.item.Program.{Program}
use Rattle.program_reading.specs.TwoFiles.{AreBoth}
use Rattle.program_reading.specs.Reading.{Gave}
use Rattle.trace_audit.specs.RunTrace.{IsRunTrace}
use Rattle.trace_text.specs.declared.trace.Trace.{Trace}
use Rattle.ac_replay.specs.Due.{IsDueOfCall, IsDueOfFiles}
use Rattle.ac_replay.specs.Due.IsDueOfCall.{refused, both}
use Rattle.ac_replay.specs.Due.IsDueOfFiles.{disk_fault, long_file, differs, torn, repeated}
use Rattle.ac_replay.specs.Due.IsDueOfRun.{misfit, other_end, run}
use Rattle.ac_replay.specs.Headline.{IsOfCores, IsRunAgain}
use Rattle.ac_replay.specs.Replaying.{deeds_in}
use Rattle.ac_replay.proofs.Leaving.{is_left, is_started}
use Rattle.ac_replay.proofs.Statuses.{cores_not, halts_not_cores}
use Rattle.ac_replay.proofs.Writable.{all_within}

-- a disk that has bound no file tells none
pub holds_none : (held : Option Held) (bound : ℕ) → bound ≡ 0 → IfSome held (λ h. bound ≡ length h.files) → IfSome held (λ h. 0 ≡ length h.files)
holds_none None bound none count = tt
holds_none (Some h) bound none count = sym none ∙ count

module _ (file trace : List ℕ) (before after : LibraryTold) (disk later : DiskTold) (status : ℕ) (text : List ℕ) (sink written : SinkTold) (cores : IsOfCores status)
    (none : IfSome disk.held (λ held. 0 ≡ length held.files)) (taken : GrewBy sink.held written.held text) where
  of_files : (program : Program) (told : Trace) → AreBoth file trace before after program told → IsRunTrace (resolved program) told → IsDueOfFiles program told disk later status text
      → IsRunAgain file trace before disk later status sink written
  of_files program told b is (disk_fault e x s) = absurd (cores_not status 9 cores e (omega arith))
  of_files program told b is (long_file number e x s) = absurd (cores_not status 10 cores e (omega arith))
  of_files program told b is (differs start number e x s o) = absurd (cores_not status 19 cores e (omega arith))
  of_files program told b is (torn between e x s d) = absurd (cores_not status 9 cores e (omega arith))
  of_files program told b is (repeated between s m d r) =
      let within = all_within (length (file_paths program.items)) (deeds_in (resolved program) told) m in
      record {
        source = b.bytes;
        traced = b.has_trace.traced;
        program = program;
        told = told;
        gave = b.gave;
        gave_trace = subst (λ (f : List ℕ → Option (List ℕ)). Gave (f trace) b.has_trace.traced) b.same b.has_trace.gave;
        is_ready = b.is_ready;
        spelled = b.has_trace.is_trace.spelled;
        is_run = is;
        start = is_started program told disk between later s d none within;
        text = text;
        report = r;
        taken = taken;
        contents = is_left program told disk between later s d none within;
      }

  pub run_again : IsDueOfCall file trace before after disk later status text → IsRunAgain file trace before disk later status sink written
  run_again (refused halt e x r a) = absurd (halts_not_cores halt status e cores)
  run_again (both program told b (misfit entry e x m a)) = absurd (cores_not status 13 cores e (omega arith))
  run_again (both program told b (other_end e x f n a)) = absurd (cores_not status 13 cores e (omega arith))
  run_again (both program told b (run is d)) = of_files program told b is d
