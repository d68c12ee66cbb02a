-- What is done again of a trace that is a run: the report is that of the ends in the program's code, and the writes are those of the history on
-- the program's links. They can be done on a disk that has bound the program's files.
use Rattle.std.proofs.Common.{◌≡◌, ℕ, List, length, sym, ap, ◌∙◌, subst}
use Rattle.std.specs.Prelude.{All}
use Rattle.std.proofs.lemmas.List.{length-map}
use Rattle.ac_base.specs.Report.{report_of, status_of}
use Rattle.ac_base.specs.declared.ends.MachineEnd.{MachineEnd}
use Rattle.ac_base.specs.declared.entry.Stamped.{Stamped}
use Rattle.ac_commands.specs.declared.program.Core.{Core}
use Rattle.ac_commands.specs.declared.program.Resolved.{Resolved}
use Rattle.ac_compile.specs.Compiled.{IsCodeOf}
use Rattle.ac_history.specs.Files.{deeds}
use Rattle.ac_history.specs.History.{start}
use Rattle.ac_names.specs.Numbered.{file_paths}
use Rattle.ac_resolve.specs.Resolution.{resolved}
use Rattle.ac_translation.specs.Translation.{code_of}
use Rattle.ac_tree.specs.declared.item.Program.{Program}
use Rattle.stack_code.specs.Parts.{Parts}
use Rattle.trace_text.specs.declared.trace.Trace.{Trace}
use Rattle.trace_writes.specs.Doing.{CanDo}
use Rattle.trace_writes.specs.Writes.{writes_of}
use Rattle.trace_writes.specs.declared.write.FileWrite.{FileWrite}
use Rattle.ac_replay.specs.Replaying.{AreReplayed, writes_in}
use Rattle.ac_replay.specs.declared.running.Redo.{Redo}
use Rattle.ac_replay.specs.inner.Doing.{IsRedo}

abbrev name_in : Core → List ℕ
name_in core = core.name

-- each core has a name and an end
pub as_many_names : (program : Resolved) (code : Parts) (t : Trace) (ends : List MachineEnd) → code ≡ code_of program → AreReplayed program t ends → length code.names ≡ length ends
as_many_names program code t ends is r = ap (λ (c : Parts). length c.names) is ∙ length-map program.cores name_in ∙ sym r.every_core

module _ (program : Program) (code : Parts) (t : Trace) (is : IsCodeOf program code) where
  abbrev cores : ℕ
  cores = length (resolved program).cores

  abbrev widths : List ℕ
  widths = (code_of (resolved program)).widths

  pub is_redo : (redo : Redo) (ends : List MachineEnd) (names : List (List ℕ)) (capacities : List ℕ) (entries : List Stamped) → AreReplayed (resolved program) t ends
      → redo.status.number ≡ status_of ends → names ≡ code.names → redo.report ≡ report_of names ends → capacities ≡ code.capacities → entries ≡ t.entries
      → ((ws : List ℕ) (n : ℕ) → redo.writes ≡ writes_of (deeds (start capacities ws n) entries)) → IsRedo program t redo
  is_redo redo ends names capacities entries replayed status named report links told writes = record {
    report = record {
      ends = ends;
      are_replayed = replayed;
      status_is = status;
      text_is = report ∙ ap (λ ns. report_of ns ends) (named ∙ ap (λ (c : Parts). c.names) is);
    };
    writes = writes widths cores ∙ ap (λ caps. writes_of (deeds (start caps widths cores) entries)) (links ∙ ap (λ (c : Parts). c.capacities) is)
        ∙ ap (λ es. writes_of (deeds (start (code_of (resolved program)).capacities widths cores) es)) told;
  }

  -- the same of the lists that are handed on
  pub can_do : (paths : List (List ℕ)) (ws : List FileWrite) → paths ≡ file_paths program.items → ws ≡ writes_in (resolved program) t
      → All (CanDo (length (file_paths program.items))) (writes_in (resolved program) t) → All (CanDo (length paths)) ws
  can_do paths ws same_paths same_ws all =
      subst (λ vs. All (CanDo (length paths)) vs) (sym same_ws) (subst (λ ps. All (CanDo (length ps)) (writes_in (resolved program) t)) (sym same_paths) all)
