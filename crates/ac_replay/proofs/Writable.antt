-- The writes of a trace that is a run of a program can be done on a disk that has bound the program's files: each is of a file that the program
-- declares, since a run names no other, and ends within the greatest length, since a legal history has no other.
use Rattle.std.proofs.Common.{◌≡◌, ℕ, ◌<◌, List, [], ◌∷◌, ◌++◌, ap, subst, length}
use Rattle.std.specs.Prelude.{All}
use Rattle.std.specs.List.{AllByRecursion}
use Rattle.std.proofs.lemmas.List.Elements.{All-from_recursion}
use Rattle.ac_base.specs.declared.entry.Answer.{Answer}
use Rattle.ac_base.specs.declared.entry.Payload.{Payload}
use Rattle.ac_base.specs.declared.entry.Payload.TheVariants.{Int, Read, Write}
use Rattle.ac_base.specs.declared.entry.Stamped.{Stamped}
use Rattle.ac_commands.specs.declared.program.Resolved.{Resolved}
use Rattle.ac_history.specs.Files.{Deed, deeds}
use Rattle.ac_history.specs.History.{IsLegal}
use Rattle.ac_translation.specs.Translation.{code_of}
use Rattle.file_ops.specs.Asked.{file_of}
use Rattle.program_run.specs.Naming.{AreNamed, IsNamed, NamesFilesBelow}
use Rattle.program_run.specs.Run.{history_of, nothing_yet}
use Rattle.program_run.proofs.NamedRuns.{runs_name_files}
use Rattle.trace_audit.specs.Laws.{IsSound, IsTraced}
use Rattle.trace_audit.specs.RunTrace.{IsRunTrace}
use Rattle.trace_audit.proofs.Recovered.{is_of_a_run}
use Rattle.trace_text.specs.declared.trace.Trace.{Trace}
use Rattle.trace_writes.specs.declared.write.FileWrite.{FileWrite}
use Rattle.trace_writes.specs.Doing.{CanDo}
use Rattle.trace_writes.specs.Writes.{write_of, writes_of}
use Rattle.trace_writes.proofs.Contents.{AreWithin}
use Rattle.trace_writes.proofs.Requests.{EndsWithin, writes_end_within}
use Rattle.ac_replay.specs.Replaying.{deeds_in, writes_in}

module _ (n : ℕ) where
  abbrev All_can : List FileWrite → Type 0
  All_can ws = AllByRecursion (CanDo n) ws

  one_can : (p : Payload) (answer : Answer) (ws : List FileWrite) → IsNamed n p → AllByRecursion EndsWithin (write_of p answer ++ ws) → (AllByRecursion EndsWithin ws → All_can ws)
      → All_can (write_of p answer ++ ws)
  one_can (Int v) answer ws named ends rest = absurd named
  one_can (Read file from len) answer ws named ends rest = rest ends
  one_can (Write file from bytes) answer ws named ends rest = (record { named = named; within = ends.0 }, rest ends.1)

  all_can : (ds : List Deed) → AreNamed n ds → AllByRecursion EndsWithin (writes_of ds) → All_can (writes_of ds)
  all_can [] named ends = tt
  all_can (d ∷ ds) named ends = one_can d.payload d.answer (writes_of ds) named.0 ends (λ more. all_can ds named.1 more)

  one_within : (p : Payload) → IsNamed n p → file_of p < n
  one_within (Int v) named = absurd named
  one_within (Read file from len) named = named
  one_within (Write file from bytes) named = named

  pub all_within : (ds : List Deed) → AreNamed n ds → AreWithin n ds
  all_within [] named = tt
  all_within (d ∷ ds) named = (one_within d.payload named.0, all_within ds named.1)

module _ (program : Resolved) (t : Trace) (sound : IsSound program) (run : IsRunTrace program t) where
  traced : IsTraced program t
  traced = is_of_a_run program t sound run

  entries_are : history_of traced.ended.journals ≡ t.entries
  entries_are = ap (λ (u : Trace). u.entries) traced.trace

  pub are_named : (n : ℕ) → NamesFilesBelow (code_of program) n → AreNamed n (deeds_in program t)
  are_named n names = subst (λ (es : List Stamped). AreNamed n (deeds (nothing_yet program) es)) entries_are (runs_name_files program t.steps t.start traced.ended n traced.run names)

  legal : IsLegal (nothing_yet program) t.entries
  legal = subst (IsLegal (nothing_yet program)) entries_are traced.run.legal

  ends_within : AllByRecursion EndsWithin (writes_in program t)
  ends_within = writes_end_within (code_of program).capacities (code_of program).widths (length program.cores) t.entries legal

  pub can_all : (n : ℕ) → NamesFilesBelow (code_of program) n → All (CanDo n) (writes_in program t)
  can_all n names = All-from_recursion (CanDo n) (writes_in program t) (all_can n (deeds_in program t) (are_named n names) ends_within)
