-- A run that reads a file of the disk: the core asks for the first byte, the worker gives the one that the disk tells, and the core has it.
-- The program is taken without its names, so that its source and its code are computed; from its text it comes by the laws of its nodes.
use Rattle.std.proofs.Common.{◌≡◌, ℕ, zero, suc, ◌<◌, ◌≤◌, List, [], ◌∷◌, pos, codes, Option, Some, None, true, false, refl, sym, ap, ◌∙◌, subst, arith}
use Rattle.std.specs.Prelude.{slice_get}
use Rattle.ac_base.specs.Log.{Log}
use Rattle.ac_base.specs.declared.entry.Answer.TheVariants.{Bytes}
use Rattle.ac_base.specs.declared.entry.Entry.{Entry}
use Rattle.ac_base.specs.declared.entry.Event.TheVariants.{Offer, Know, Did, Reply}
use Rattle.ac_base.specs.declared.entry.Payload.TheVariants as payload
use Rattle.ac_base.specs.declared.ends.CoreEnd.{CoreEnd}
use Rattle.ac_base.specs.declared.ends.EndWord.TheVariants.{Finished}
use Rattle.ac_base.specs.declared.ends.MachineEnd.{MachineEnd}
use Rattle.core_state.specs.Moves.{Over, moves, and_then}
use Rattle.core_state.specs.Frames.{first_frame}
use Rattle.ac_commands.specs.declared.value.Action.TheVariants.{Read}
use Rattle.ac_commands.specs.declared.value.Array.TheVariants as ar
use Rattle.ac_commands.specs.declared.value.Value.{Value}
use Rattle.ac_commands.specs.declared.value.Value.TheVariants as v
use Rattle.ac_commands.specs.declared.command.Command.{Command, out-Command, fold-roll-Command}
use Rattle.ac_commands.specs.declared.command.Command.TheVariants as c
use Rattle.ac_commands.specs.declared.command.Command.TheOpen.{Command-F}
use Rattle.ac_commands.specs.declared.program.Function.{Function}
use Rattle.ac_commands.specs.declared.program.Resolved.{Resolved}
use Rattle.ac_semantics.specs.Evaluation.{Acting, Context, Stops, reference}
use Rattle.ac_semantics.specs.Threads.{step, first_state}
use Rattle.ac_semantics.specs.Replay.{Replays}
use Rattle.ac_semantics.proofs.Forms.{number_goes, reference_goes, act_goes}
use Rattle.ac_semantics.proofs.Examples.{form, finish_by, value}
use Rattle.ac_semantics.proofs.PartExamples.{int}
use Rattle.stack_code.specs.declared.instr.Instr.TheVariants as i
use Rattle.stack_code.specs.Parts.{Parts}
use Rattle.code_meaning.specs.Machine.{Runs}
use Rattle.ac_translation.specs.Pieces.{Piece, one, ◌⨾◌}
use Rattle.ac_translation.specs.Translation.{code_of, command_code, command_step, value_code}
use Rattle.ac_translation.proofs.Codes.{act_code, number_code, reference_code}
use Rattle.ac_links.specs.AtRest.{has_front}
use Rattle.ac_history.specs.Files.{padded, IsServed}
use Rattle.ac_history.specs.History.{Past, link_at}
use Rattle.ac_history.specs.Quiet.{after_all_of, CoreIsQuiet}
use Rattle.ac_outside.specs.Disks.{DiskTold}
use Rattle.ac_outside.specs.Texts.{text_of}
use Rattle.ac_outside.proofs.Examples.{named}
use Rattle.ac_resolve.specs.Resolution.{resolved}
use Rattle.ac_resolve.specs.Computed.{Reading}
use Rattle.ac_resolve.proofs.Forms.{expr_reads, stmt_tells}
use Rattle.ac_tree.specs.declared.expr.Expr.TheVariants as expr
use Rattle.ac_tree.specs.declared.stmt.Stmt.TheVariants as s
use Rattle.program_run.specs.declared.ended.Ended.{Ended}
use Rattle.program_run.specs.DiskLeft.{deeds_of}
use Rattle.program_run.specs.Parties.{owner_of, peer_of}
use Rattle.program_run.specs.Run.{IsCoreRun, IsRunOf, nothing_yet, history_of}
use Rattle.ac_words.specs.declared.task.Telling.TheVariants as tell
use Rattle.ac_program.specs.Headline.{HasRun}
use Rattle.ac_program.proofs.FileExamples.{a_disk, a_read, nought, one as one_byte, reading_tree}
use Rattle.ac_program.proofs.Examples.{journal}

-- ---- the program

abbrev pub a_request : Value
a_request = v.Act (Read 0) (v.Number (pos 0) ∷ v.Number (pos 1) ∷ v.Reference (ar.Local 0 0 1) ∷ [])

abbrev pub clears : Command
clears = c.Clear 0 1

abbrev pub reads : Command
reads = c.Run a_request

abbrev pub f : Function
f = record { name = codes "f"; is_async = true; gives_int = false; params = []; slots = 1; body = clears ∷ reads ∷ [] }

abbrev pub program : Resolved
program = record {
  cores = record { name = codes "a"; entry = 0 } ∷ [];
  functions = f ∷ [];
  channels = [];
  files = codes "x" ∷ [];
  slots = 0;
  starts = [];
  texts = [];
}

-- ---- its core

abbrev pub its_journal : List Entry
its_journal = record { stamp = 1; turn = 1; event = Offer 0 0 (payload.Read 0 0 1) } ∷ record { stamp = 3; turn = 1; event = Know 0 0 }
    ∷ record { stamp = 4; turn = 1; event = Reply 0 0 (Bytes (97 ∷ [])) } ∷ []

abbrev pub its_end : CoreEnd
its_end = record { word = Finished; steps = 2; output = []; globals = []; waiting = []; idle = false }

clear_form : out-Command clears ≡ Command-F.Clear 0 1
clear_form = form clears _ (c.rolls-Clear 0 1)

read_form : out-Command reads ≡ Command-F.Run a_request
read_form = form reads _ (c.rolls-Run a_request)

it_stops_at_the_read : (s : _) (around : List Context) → value s a_request around ≡ Stops (Acting (Read 0)) (reference s first_frame (ar.Local 0 0 1) ∷ int 1 ∷ int 0 ∷ []) around
it_stops_at_the_read s around = simp (act_goes s first_frame, number_goes s first_frame, reference_goes s first_frame)

it_comes_to_its_end : and_then (first_state program 0 f its_journal) (moves (step program 100) 20) ≡ Over (Some its_end)
it_comes_to_its_end = rw (clear_form, finish_by program clears _ clear_form, read_form, it_stops_at_the_read, finish_by program reads _ read_form) refl

pub it_replays : Replays program 0 100 its_journal (Some its_end)
it_replays = record {
  function = f;
  enters = record { here = record { name = codes "a"; entry = 0 }; core_is = refl; function_is = refl };
  ends = (20, sym it_comes_to_its_end);
}

-- ---- its code

abbrev pub its_parts : Parts
its_parts = record {
  instrs = i.Step ∷ i.Clear 0 1 ∷ i.Step ∷ i.Push (pos 0) ∷ i.Push (pos 1) ∷ i.Arr 0 0 1 ∷ i.Read 0 ∷ i.Drop ∷ i.Push (pos 0) ∷ i.Ret ∷ [];
  functions = record { name = codes "f"; at = 0; params = []; words = 1 } ∷ [];
  texts = [];
  entries = 0 ∷ [];
  names = codes "a" ∷ [];
  globals = 0;
  capacities = 16 ∷ [];
  ends = [];
  starts = [];
  widths = [];
}

clear_code : command_code clears ≡ one i.Step ⨾ one (i.Clear 0 1)
clear_code = ap command_code (sym (c.rolls-Clear 0 1)) ∙ fold-roll-Command Piece command_step (Command-F.Clear 0 1)

read_code : command_code reads ≡ one i.Step ⨾ value_code a_request ⨾ one i.Drop
read_code = ap command_code (sym (c.rolls-Run a_request)) ∙ fold-roll-Command Piece command_step (Command-F.Run a_request)

pub its_code : code_of program ≡ its_parts
its_code = rw (clear_code, read_code, act_code, number_code (pos 0), number_code (pos 1), reference_code) refl

it_runs : Runs its_parts 0 100 its_journal (record { core = Some its_end; count = 10 })
it_runs = record { function = _; begins = record { entry = 0; entry_is = refl; function_is = refl }; comes = (40, refl) }

-- ---- its run

-- the worker has done the request
abbrev its_deed : List Entry
its_deed = record { stamp = 2; turn = 0; event = Did 0 0 (Bytes (97 ∷ [])) } ∷ []

abbrev its_machine : MachineEnd
its_machine = record { core = its_end; instructions = 10 }

abbrev pub its_run : Ended
its_run = record { steps = 100; start = codes "ab" ∷ []; journals = journal its_journal ∷ journal its_deed ∷ []; cores = its_machine ∷ [] }

pub its_core_runs : IsCoreRun program 0 100 (journal its_journal) its_machine
its_core_runs = record {
  code = subst (λ (code : Parts). Runs code 0 100 its_journal (record { core = Some its_end; count = 10 })) (sym its_code) it_runs;
  source = it_replays;
}

abbrev its_past : Past
its_past = after_all_of (nothing_yet program) (history_of its_run.journals)

finished : CoreIsQuiet (owner_of (code_of program).ends) (peer_of (code_of program).ends 1) its_past 0 its_end
finished = record {
  stopped = refl;
  owns = λ idle. let no : false ≡ true = idle in cc;
  decides = λ idle. let no : false ≡ true = idle in cc;
}

each_core : (k : ℕ) (end : CoreEnd) → slice_get (its_end ∷ []) k ≡ Some end → CoreIsQuiet (owner_of (code_of program).ends) (peer_of (code_of program).ends 1) its_past k end
each_core zero end h = let same : its_end ≡ end = cc in subst (CoreIsQuiet (owner_of (code_of program).ends) (peer_of (code_of program).ends 1) its_past 0) same finished
each_core (suc k) end h = let no : ◌≡◌ {A = Option CoreEnd} None (Some end) = h in cc

nothing_is_asked : (l : ℕ) → l < 1 → 0 ≤ l → has_front (link_at its_past l) ≡ false
nothing_is_asked zero lt le = refl
nothing_is_asked (suc l) lt le = absurd (omega (arith, lt))

pub it_is_a_run : IsRunOf program 100 (codes "ab" ∷ []) its_run
it_is_a_run = record {
  steps = refl;
  files = refl;
  every_core = refl;
  cores = (its_core_runs, refl);
  in_order = (((omega arith, (omega arith, tt)), ((omega arith, tt), (tt, tt))), ((tt, tt), tt));
  legal = (refl, (refl, (refl, (refl, tt))));
  quiet = record { core = each_core; worker = nothing_is_asked };
}

pub what_was_done : deeds_of program its_run.journals ≡ record { payload = payload.Read 0 0 1; answer = Bytes (97 ∷ []) } ∷ []
what_was_done = refl

pub its_read_is_served : IsServed (padded (codes "ab" ∷ [])) (deeds_of program its_run.journals)
its_read_is_served = (refl, tt)

-- ---- from its text, over a disk that tells its files

its_program : resolved reading_tree ≡ program
its_program = rw (
  stmt_tells _ (s.rolls-Array 41 (codes "b") (pos 1)),
  stmt_tells _ (s.rolls-Call 51 a_read),
  ap (λ (r : Reading). r.value) (expr_reads _ (expr.rolls-Read 51 (codes "p") nought one_byte (codes "b"))),
  ap (λ (r : Reading). r.value) (expr_reads _ (expr.rolls-Number 59 (pos 0))),
  ap (λ (r : Reading). r.value) (expr_reads _ (expr.rolls-Number 62 (pos 1))),
) refl

pub the_disk_has_its_run : HasRun reading_tree 100 tell.Report a_disk 0
the_disk_has_its_run = record {
  start = codes "ab" ∷ [];
  each_file = refl;
  are_held = refl;
  ended = its_run;
  is_run = subst (λ (p : Resolved). IsRunOf p 100 (codes "ab" ∷ []) its_run) (sym its_program) it_is_a_run;
  are_served = subst (λ (p : Resolved). IsServed (padded (codes "ab" ∷ [])) (deeds_of p its_run.journals)) (sym its_program) its_read_is_served;
  line = _;
  tells = (refl, refl);
}

-- a disk whose file begins otherwise has no run with these journals
abbrev another_disk : DiskTold
another_disk = record a_disk { held = Some (record { files = []; found = text_of (named (codes "x") (codes "bb") ∷ []); calls = 0 }) }

pub another_disk_has_not : (status : ℕ) (h : HasRun reading_tree 100 tell.Report another_disk status) → h.ended.journals ≡ its_run.journals → ⊥
another_disk_has_not status h same =
    let of_them = subst (λ (journals : List Log). IsServed (padded h.start) (deeds_of (resolved reading_tree) journals)) same h.are_served in
    let from_there = subst (λ (start : List (List ℕ)). IsServed (padded start) (deeds_of (resolved reading_tree) its_run.journals)) h.are_held of_them in
    let served = subst (λ (p : Resolved). IsServed (padded (codes "bb" ∷ [])) (deeds_of p its_run.journals)) its_program from_there in
    let no : false ≡ true = served.0 in cc
