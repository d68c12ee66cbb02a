use Rattle.std.proofs.Common.{◌≢◌, ◌≤◌, ℕ, List, refl, sym, ap, ◌∙◌, subst, length}
use Rattle.std.specs.Prelude.{All, AllPairs}
use Rattle.std.specs.Str.{IsUtf8}
use Rattle.ac_names.specs.Numbered.{file_paths}
use Rattle.ac_resolve.specs.Resolution.{resolved}
use Rattle.trace_audit.proofs.Sound.{is_sound}
use Rattle.ac_replay.proofs.Halts.{due_repeated, due_said, left_alone, left_unsaid}
use Rattle.ac_replay.proofs.NamedFiles.{names_its_files}
use Rattle.ac_replay.proofs.Redoing.{can_do}
use Rattle.ac_replay.proofs.Writable.{are_named, can_all}
use Rattle.ac_replay.proofs.running.run_again.Goals as goal

pub redo_of-requires : goal.redo_of-requires
redo_of-requires g c = (resolved c.args.checked.now, c.requires.code, c.requires.same, c.requires.run)

-- ---- nothing was done

pub returns-in_err-redo-clause-left : goal.returns-in_err-redo-clause-left
returns-in_err-redo-clause-left g c = left_alone _ (file_paths c.args.checked.now.items) _ _ refl

pub returns-in_err-fault-clause-left : goal.returns-in_err-fault-clause-left
returns-in_err-fault-clause-left g c = left_alone _ (file_paths c.args.checked.now.items) _ _ refl

pub returns-in_err-paths-clause-left : goal.returns-in_err-paths-clause-left
returns-in_err-paths-clause-left g c = left_alone _ (file_paths c.args.checked.now.items) _ _ refl

-- ---- what is handed on

pub do_again-requires-clause-few : goal.do_again-requires-clause-few
do_again-requires-clause-few g c =
    subst (λ (ps : List (List ℕ)). length ps ≤ 16) (sym (c.as_slice.ensures ∙ c.in_ok-paths.ensures)) c.requires.paths.few

pub do_again-requires-clause-texts : goal.do_again-requires-clause-texts
do_again-requires-clause-texts g c =
    subst (λ (ps : List (List ℕ)). All IsUtf8 ps) (sym (c.as_slice.ensures ∙ c.in_ok-paths.ensures)) c.requires.paths.texts

pub do_again-requires-clause-differ : goal.do_again-requires-clause-differ
do_again-requires-clause-differ g c =
    subst (λ (ps : List (List ℕ)). AllPairs (λ path other. path ≢ other) ps) (sym (c.as_slice.ensures ∙ c.in_ok-paths.ensures)) c.requires.paths.differ

pub do_again-requires-clause-many : goal.do_again-requires-clause-many
do_again-requires-clause-many g c =
    ap length c.as_slice-2.ensures ∙ c.requires.run.end.files ∙ ap length (sym (c.as_slice.ensures ∙ c.in_ok-paths.ensures))

pub do_again-requires-clause-can : goal.do_again-requires-clause-can
do_again-requires-clause-can g c =
    let p = c.args.checked.now in
    let sound = is_sound (resolved p) c.args.code.now c.ranks.result.now c.instrs.ensures.valid c.ranks.ensures c.requires.code c.requires.same in
    let names = names_its_files p c.tree.ensures.clean c.tree.ensures.shaped in
    can_do p c.args.code.now c.args.trace.now c.requires.code c.as_slice.result.now c.as_slice-3.result.now (c.as_slice.ensures ∙ c.in_ok-paths.ensures)
    (c.as_slice-3.ensures ∙ (c.in_ok-redo.ensures p c.requires.code).writes) (can_all (resolved p) c.args.trace.now sound c.requires.run (length (file_paths p.items)) names)

-- ---- what was done

pub returns-in-Ok-clause-due : goal.returns-in-Ok-clause-due
returns-in-Ok-clause-due g c =
    let p = c.args.checked.now in
    let sound = is_sound (resolved p) c.args.code.now c.ranks.result.now c.instrs.ensures.valid c.ranks.ensures c.requires.code c.requires.same in
    let names = names_its_files p c.tree.ensures.clean c.tree.ensures.shaped in
    let is = c.in_ok-redo.ensures p c.requires.code in
    due_repeated p c.args.trace.now (g.D.Disk.told c.args.disk.now) (g.D.Disk.told c.do_again.new.disk) c.as_slice.result.now c.as_slice-2.result.now c.as_slice-3.result.now
    (c.as_slice.ensures ∙ c.in_ok-paths.ensures) c.as_slice-2.ensures (c.as_slice-3.ensures ∙ is.writes) c.in_ok-redo.redo.status.number c.in_ok-redo.redo.report c.in-Ok.ensures
    (are_named (resolved p) c.args.trace.now sound c.requires.run (length (file_paths p.items)) names) is.report

pub returns-in-Err-clause-due : goal.returns-in-Err-clause-due
returns-in-Err-clause-due g c =
    let p = c.args.checked.now in
    due_said p c.args.trace.now (g.D.Disk.told c.args.disk.now) (g.D.Disk.told c.do_again.new.disk) c.as_slice.result.now c.as_slice-2.result.now c.as_slice-3.result.now
    (c.as_slice.ensures ∙ c.in_ok-paths.ensures) c.as_slice-2.ensures (c.as_slice-3.ensures ∙ (c.in_ok-redo.ensures p c.requires.code).writes) c.said_of.result c.in-Err.halt c.in_ok-fault.fault
    c.in_ok-fault.ensures c.in-Err.ensures c.said_of.ensures

pub returns-in-Err-clause-left : goal.returns-in-Err-clause-left
returns-in-Err-clause-left g c =
    let p = c.args.checked.now in
    left_unsaid p c.args.trace.now (g.D.Disk.told c.args.disk.now) (g.D.Disk.told c.do_again.new.disk) c.as_slice.result.now c.as_slice-2.result.now c.as_slice-3.result.now
    (c.as_slice.ensures ∙ c.in_ok-paths.ensures) c.as_slice-2.ensures (c.as_slice-3.ensures ∙ (c.in_ok-redo.ensures p c.requires.code).writes) c.said_of.result c.in-Err.halt c.in_ok-fault.fault
    c.in-Err.ensures c.said_of.ensures
