-- What is decided of two.ac: by its text, by its code, and by its machine, before the first instruction and at its end. All of it is
-- computed, so the statuses that it does not have are refused by a comparison.
use Rattle.std.proofs.Common.{◌≡◌, refl, ap, ◌∙◌, ℕ, zero, suc, pos, List, [], ◌∷◌, length}
use Rattle.std.proofs.Common.{codes, Option, None, Some, true, false, subst, sym, arith}
use Rattle.std.specs.Prelude.{slice_get}
use Rattle.std.proofs.lemmas.List.Elements.{All-from_recursion}
use Rattle.std.proofs.lemmas.Fmt.{decimal_digit}
use Rattle.ac_lexer.proofs.Examples.{two_text}
use Rattle.ac_parser.proofs.Examples.{two_ac as two_ac_parsed}
use Rattle.ac_parser.proofs.Shaped.{spelled_shape}
use Rattle.ac_base.specs.declared.ends.CoreEnd.{CoreEnd}
use Rattle.core_state.specs.Moves.{Move, On, Over, moves, and_then}
use Rattle.ac_resolve.proofs.ProgramInPlace.{all_in_place}
use Rattle.stack_code.specs.declared.parts.Entered.{Entered}
use Rattle.stack_code.specs.Parts.{Parts}
use Rattle.code_meaning.specs.Machine.{exec, first_flat, Runs}
use Rattle.ac_compile.proofs.Examples.{two, two_parts, two_is_compiled}
use Rattle.ac_words.specs.declared.task.Task.{Task}
use Rattle.ac_words.specs.declared.task.Task.TheVariants as t
use Rattle.ac_words.specs.declared.task.Telling.TheVariants as tell
use Rattle.ac_words.specs.declared.task.Telling.{Telling}
use Rattle.program_reading.specs.Source.{IsReady}
use Rattle.ac_program.specs.Lines.{accepted_line}
use Rattle.ac_program.specs.Making.{IsDueOf, IsTold, Makes, made as is_made, ready}
use Rattle.ac_program.specs.Headline.{source}
use Rattle.ac_program.specs.Headline.{HasRun, GivesStatus, AreOfRuns, IsCalledFor, IsDecided}
use Rattle.ac_resolve.specs.Resolution.{resolved}
use Rattle.ac_tree.specs.declared.item.Program.{Program}
use Rattle.ac_translation.specs.Same.{IsSame}
use Rattle.ac_compile.proofs.Compiling.{is_same}
use Rattle.stack_code.specs.declared.instr.Instr.{Instr}
use Rattle.stack_code.specs.declared.instr.Instr.TheVariants as i
use Rattle.code_meaning.specs.Machine.{Flat, FlatEnd}
use Rattle.code_meaning.specs.Alone.{starts_none, IsAlone}
use Rattle.code_listing.specs.Listing.{listing}
use Rattle.core_machine.specs.Machine.{Machine, IsFirst, IsOnItsWay, IsSameCore}
use Rattle.ac_program.proofs.Calls.{IsMadeAs}
use Rattle.ac_program.proofs.Consequences.{no_long_trace}
use Rattle.ac_program.proofs.OneStatus.{one_status}
use Rattle.ac_program.proofs.Reasons.{decided_for}
use Rattle.ac_program.proofs.TwoRules.{two_tree, two_is_clean}
use Rattle.ac_program.proofs.Examples.{code_prints_seven, e, it_is_a_run, it_is_done, it_is_reported, it_is_spelled, it_replays}
use Rattle.ac_program.proofs.Examples.{its_end, its_library, its_only_program, its_library_after, its_whole_reading}
use Rattle.ac_program.proofs.Examples.{its_report, its_run, its_sink, its_status_is_called_for, its_files_are_known, no_disk, sink_with}

-- ---- its text decides

pub it_is_decided : IsDecided (t.Run 100 tell.Report) (codes "two.ac") its_library its_library_after no_disk 0
it_is_decided = decided_for (t.Run 100 tell.Report) (codes "two.ac") its_library its_library_after no_disk no_disk 0 (Some its_run) its_sink (sink_with its_report 0)
    (λ well kept. record { text = its_report; due = source two_text its_whole_reading refl (omega arith) it_is_done; taken = refl })
    (record { usage = omega arith; library = omega arith; sink = omega arith; disk = omega arith; memory = omega arith }) (t.Run 100 tell.Report) (codes "two.ac") refl

pub it_is_called_for : IsCalledFor two_text (t.Run 100 tell.Report) no_disk 0
it_is_called_for = it_is_decided.only two_text refl its_files_are_known

-- its report has no limit
pub its_report_is_never_too_long : IsMadeAs 10 two_text (t.Run 100 tell.Report) no_disk → ⊥
its_report_is_never_too_long = no_long_trace two_text (t.Run 100 tell.Report) no_disk (λ steps e. cc)

-- no two runs of a program without a channel and a file differ
it_has_none : (steps : ℕ) (telling : Telling) (program : Program) → IsReady two_text (t.Run steps telling) program → ((resolved program).channels ≡ []) × ((resolved program).files ≡ [])
it_has_none steps telling program k = subst (λ (p : Program). ((resolved p).channels ≡ []) × ((resolved p).files ≡ [])) (its_only_program program k.is_accepted.spelled) (refl, refl)

pub its_runs_do_not_differ : AreOfRuns two_text (t.Run 100 tell.Report) no_disk 0 4 → ⊥
its_runs_do_not_differ r =
    let k = subst (λ (a : Task). IsReady two_text a r.program) r.is_run r.is_ready in
    let some = r.meets in
    let many = ap (λ xs. length xs) (it_has_none r.steps r.telling r.program k).0 in
    let files = ap (λ xs. length xs) (it_has_none r.steps r.telling r.program k).1 in
    omega (arith, some, many, files)

-- no other status
pub it_is_not_called_for_otherwise : IsCalledFor two_text (t.Run 100 tell.Report) no_disk 4 → ⊥
it_is_not_called_for_otherwise called =
    let e : 4 ≡ 0 = (one_status two_text (t.Run 100 tell.Report) no_disk 4 called it_has_none 0).1 its_status_is_called_for in
    omega (arith, e)

pub it_is_not_decided_otherwise : IsDecided (t.Run 100 tell.Report) (codes "two.ac") its_library its_library_after no_disk 4 → ⊥
it_is_not_decided_otherwise h = it_is_not_called_for_otherwise (h.only two_text refl its_files_are_known)

-- ---- its code

pub two_is_same : IsSame two_parts (resolved two_tree)
two_is_same =
    is_same two_tree (resolved two_tree) refl (all_in_place two_tree two_is_clean (spelled_shape two_tree two_ac_parsed.marks two_ac_parsed.spells)) two_parts two_is_compiled

pub its_code_is_alone : IsAlone two_parts
its_code_is_alone = All-from_recursion (λ (instr : Instr). starts_none instr ≡ true) two_parts.instrs (refl, (refl, (refl, (refl, (refl, (refl, (refl, (refl, (refl, tt)))))))))

-- and its listing
abbrev pub its_listing : List ℕ
its_listing = codes "core a 0\nfunction f words 0\n0 Step\n1 Push 1\n2 Push 2\n3 Push 3\n4 Mul\n5 Add\n6 Print 0 1\n7 Push 0\n8 Ret\ntext 0 25640a\n"

pub it_is_listed : listing two_parts ≡ its_listing
it_is_listed =
    rw (
      decimal_digit 0 (omega arith),
      decimal_digit 1 (omega arith),
      decimal_digit 2 (omega arith),
      decimal_digit 3 (omega arith),
      decimal_digit 4 (omega arith),
      decimal_digit 5 (omega arith),
      decimal_digit 6 (omega arith),
      decimal_digit 7 (omega arith),
      decimal_digit 8 (omega arith),
    ) refl

-- so ac code two.ac writes that, and ac check two.ac that it is accepted
pub its_code_is_told : Makes t.Code two_tree no_disk no_disk (record { run = None; text = its_listing; status = record { number = 0 } })
its_code_is_told = record { no_run = refl; text_is = sym it_is_listed ∙ ap (λ (code : Parts). listing code) two_is_compiled; status = refl; alone = refl }

its_code_is_ready : IsReady two_text t.Code two_tree
its_code_is_ready = record { is_accepted = record { spelled = it_is_spelled; clean = two_is_clean }; within = omega arith }

pub its_code_is_done : IsDueOf two_text t.Code no_disk no_disk 0 its_listing None
its_code_is_done = ready two_tree its_code_is_ready (is_made (record { run = None; text = its_listing; status = record { number = 0 } }) refl refl refl its_code_is_told)

its_check_is_ready : IsReady two_text t.Check two_tree
its_check_is_ready = record { is_accepted = record { spelled = it_is_spelled; clean = two_is_clean }; within = omega arith }

pub its_check_is_done : IsDueOf two_text t.Check no_disk no_disk 0 (codes "accepted\n") None
its_check_is_done = ready two_tree its_check_is_ready
    (is_made (record { run = None; text = codes "accepted\n"; status = record { number = 0 } }) refl refl refl (record { no_run = refl; text_is = refl; status = refl; alone = refl }))

pub a_check_keeps_no_run : IsTold accepted_line no_disk no_disk (record { run = Some its_run; text = codes "accepted\n"; status = record { number = 0 } }) → ⊥
a_check_keeps_no_run h = let e = h.no_run in cc

pub its_check_gives_0_alone : GivesStatus t.Check two_tree no_disk 4 → ⊥
its_check_gives_0_alone h = omega (arith, h)

pub its_run_gives_0 : HasRun two_tree 100 tell.Report no_disk 0
its_run_gives_0 = record { start = []; each_file = refl; are_held = tt; ended = its_run; is_run = it_is_a_run; are_served = tt; line = its_report; tells = (refl, sym it_is_reported) }

-- a code that prints nothing comes to another end
abbrev pub silent : Parts
silent = record two_parts { instrs = i.Push (pos 0) ∷ i.Ret ∷ [] }

-- how many bytes were printed
abbrev printed_by : Option CoreEnd → ℕ
printed_by None = 0
printed_by (Some end) = length end.output

abbrev printed : Move Flat FlatEnd → ℕ
printed (On s) = 0
printed (Over end) = printed_by end.core

same_function : (entry : ℕ) (function : Entered) → slice_get (0 ∷ []) 0 ≡ Some entry → slice_get (e ∷ []) entry ≡ Some function → function ≡ e
same_function zero function at_core at_entry = cc
same_function (suc n) function at_core at_entry = cc

silent_prints_nothing : (count k : ℕ) → Over (record { core = Some its_end; count = count }) ≡ and_then (first_flat silent 0 e []) (moves (exec silent 100) k) → ⊥
silent_prints_nothing count zero h = let n : 2 ≡ 0 = ap printed h in omega (arith, n)
silent_prints_nothing count (suc zero) h = let n : 2 ≡ 0 = ap printed h in omega (arith, n)
silent_prints_nothing count (suc (suc zero)) h = let n : 2 ≡ 0 = ap printed h in omega (arith, n)
silent_prints_nothing count (suc (suc (suc k))) h = let n : 2 ≡ 0 = ap printed h in omega (arith, n)

pub another_code_is_not_the_same : IsSame silent two → ⊥
another_code_is_not_the_same h = let r = (h 0 100 [] (Some its_end)).0 it_replays in no_run r.0 r.1 where
  no_run : (count : ℕ) → Runs silent 0 100 [] (record { core = Some its_end; count = count }) → ⊥
  no_run count r = silent_prints_nothing count r.comes.0 (rw (same_function r.begins.entry r.function r.begins.entry_is r.begins.function_is) at r.comes.1)

-- ---- its machine, before the first instruction and at its end

abbrev pub machine : Parts → Move Flat FlatEnd → Machine
machine code state = record { code = code; core = 0; bound = 100; journal = []; state = state; room = false }

abbrev pub at_first : Move Flat FlatEnd
at_first = first_flat two_parts 0 e []

abbrev pub at_last : Move Flat FlatEnd
at_last = Over (record { core = Some its_end; count = 9 })

pub it_begins : IsFirst (machine two_parts at_first)
it_begins = record { function = e; begins = record { entry = 0; entry_is = refl; function_is = refl }; state = refl }

pub it_does_not_begin_at_its_end : IsFirst (machine two_parts at_last) → ⊥
it_does_not_begin_at_its_end m =
    let h : at_last ≡ at_first = rw (same_function m.begins.entry m.function m.begins.entry_is m.begins.function_is) at m.state in let n : 2 ≡ 0 = ap printed h in omega (arith, n)

pub it_comes_to_its_end : IsOnItsWay (machine two_parts at_last)
it_comes_to_its_end = record { function = e; begins = record { entry = 0; entry_is = refl; function_is = refl }; goes = (10, sym code_prints_seven) }

pub another_does_not_come_there : IsOnItsWay (machine silent at_last) → ⊥
another_does_not_come_there m = silent_prints_nothing 9 m.goes.0 (rw (same_function m.begins.entry m.function m.begins.entry_is m.begins.function_is) at m.goes.1)

pub it_is_the_same_core : IsSameCore (machine two_parts at_first) (machine two_parts at_last)
it_is_the_same_core = record { code = refl; core = refl; bound = refl; journal = refl }

pub it_is_not_with_another_bound : IsSameCore (machine two_parts at_first) (record (machine two_parts at_first) { bound = 99 }) → ⊥
it_is_not_with_another_bound h = let e = h.bound in omega (arith, e)
