-- A run on the files of a program: they are started on the disk, the run is made from there, and what is told of it is told of that very run.
use Rattle.std.proofs.Common.{ℕ, List, ◌*◌, ◌≤◌, refl, ap, sym, ◌∙◌, length, subst, arith}
use Rattle.std.proofs.lemmas.Result.{err_from_is_err_and}
use Rattle.ac_names.specs.Numbered.{core_names, file_paths}
use Rattle.ac_resolve.specs.Resolution.{resolved}
use Rattle.core_runner.proofs.Programs.{program_has_places}
use Rattle.program_run.specs.Run.{IsRunOf}
use Rattle.program_run.proofs.NamedRuns.{runs_name_files}
use Rattle.starting_files.specs.Starting.{AreStarted, AreStopped}
use Rattle.ac_program.specs.Making.{begun}
use Rattle.ac_program.proofs.Tellings.{tellable, tells_of, traced_where_told}
use Rattle.ac_program.proofs.NamedFiles.{names_its_files}
use Rattle.ac_program.proofs.Names.{names_are, as_many, entries_are}
use Rattle.ac_program.proofs.Filing.{halts, holds_start}
use Rattle.ac_program.proofs.execute.reported.Goals as goal

pub run-requires-clause-keeps : goal.run-requires-clause-keeps
run-requires-clause-keeps g c κs within = c.in_ok-code.ensures.ends

pub run-requires-clause-places : goal.run-requires-clause-places
run-requires-clause-places g c κs within = program_has_places (resolved c.args.checked.now) c.in_ok-code.code c.in_ok-code.ensures.code

pub run-requires-clause-few : goal.run-requires-clause-few
run-requires-clause-few g c κs within =
    let bound = subst (λ (n : ℕ). length (core_names c.args.checked.now.items) * n ≤ 4000000) (sym c.from.ensures) c.requires.few in
    subst (λ (n : ℕ). n * c.from.result ≤ 4000000) (sym (entries_are c.args.checked.now c.in_ok-code.code c.in_ok-code.ensures.code)) bound

pub run-requires-clause-ready : goal.run-requires-clause-ready
run-requires-clause-ready g c κs within = c.in_ok-start.ensures.started.is_ready

pub run-requires-clause-bound : goal.run-requires-clause-bound
run-requires-clause-bound g c κs within = c.in_ok-start.ensures.started.bound ∙ sym c.in_ok-start.ensures.started.count

pub run-requires-clause-held : goal.run-requires-clause-held
run-requires-clause-held g c κs within = holds_start (g.D.Disk.told c.args.disk.now).held (g.D.Disk.told c.start_files.new.disk).held (g.D.Disk.told c.args.disk.now).bound
    c.as_slice.result.now c.in_ok-start.start c.requires.none ((g.met.D.Disk g.world.𝓛 g.world.𝓜 g.world.𝓡
    (λ s h. h, λ p. p, λ n s. n s, λ x. x)).tells_bound c.args.disk.now) c.in_ok-start.ensures.silent c.in_ok-start.ensures.started.told

pub tell-requires-clause-names : goal.tell-requires-clause-names
tell-requires-clause-names g c =
    let made = c.in_ok-code.ensures in
    let program = resolved c.args.checked.now in
    let run = subst (λ (b : ℕ). IsRunOf program b c.in_ok-start.start c.in_ok-ended.ended) c.from.ensures (c.in_ok-ended.ensures.run program made.code made.same) in
    ap length c.names.ensures ∙ as_many c.args.checked.now c.in_ok-code.code c.args.steps c.in_ok-start.start c.in_ok-ended.ended made.code run

pub tell-requires-clause-tellable : goal.tell-requires-clause-tellable
tell-requires-clause-tellable g c =
    let made = c.in_ok-code.ensures in
    let program = resolved c.args.checked.now in
    let run = subst (λ (b : ℕ). IsRunOf program b c.in_ok-start.start c.in_ok-ended.ended) c.from.ensures (c.in_ok-ended.ensures.run program made.code made.same) in
    let paths = ap length (c.as_slice.ensures ∙ c.in_ok-paths.ensures) in
    let files = c.requires.files in
    tellable c.args.checked.now c.in_ok-code.code c.args.steps c.in_ok-start.start c.in_ok-ended.ended made.code c.instrs.ensures.valid run c.requires.bounded.0 c.requires.bounded.1 c.requires.few
    (let count = c.in_ok-start.ensures.started.count in omega (arith, paths, files, count))

pub returns : goal.returns
returns g c =
    let made = c.in_ok-code.ensures in
    let program = resolved c.args.checked.now in
    let run = subst (λ (b : ℕ). IsRunOf program b c.in_ok-start.start c.in_ok-ended.ended) c.from.ensures (c.in_ok-ended.ensures.run program made.code made.same) in
    let files = subst (λ (ps : List (List ℕ)). AreStarted ps c.in_ok-start.start (g.D.Disk.told c.args.disk.now) (g.D.Disk.told c.start_files.new.disk))
    (c.as_slice.ensures ∙ c.in_ok-paths.ensures) c.in_ok-start.ensures.started in
    let left = c.in_ok-ended.ensures.disk program made.code made.same in
    record {
      start = c.in_ok-start.start;
      between = g.D.Disk.told c.start_files.new.disk;
      files = files;
      ended = c.in_ok-ended.ended;
      kept = refl;
      is_run = run;
      left = left;
      named = runs_name_files program c.args.steps c.in_ok-start.start c.in_ok-ended.ended (length (file_paths c.args.checked.now.items)) run
          (names_its_files c.args.checked.now c.tree.ensures.clean c.tree.ensures.shaped);
      tells = tells_of c.args.telling c.args.checked.now (c.names.result.now) c.in_ok-ended.ended c.in_ok-told.told
          (c.names.ensures ∙ names_are c.args.checked.now c.in_ok-code.code made.code) c.in_ok-told.ensures;
      is_traced = traced_where_told c.args.checked.now c.in_ok-code.code c.args.steps c.in_ok-start.start c.in_ok-ended.ended made.code c.instrs.ensures.valid _ c.ranks.ensures made.same run
          (g.D.Disk.told c.args.disk.now) _ (g.D.Disk.told c.run.new.disk) files left;
    }

pub returns-in_err-ended : goal.returns-in_err-ended
returns-in_err-ended g c =
    let p = err_from_is_err_and c.from_residual-in_err-ended.result c.from_residual-in_err-ended.ensures.1 in
    rw (p.1, p.2) (begun c.in_ok-start.start (g.D.Disk.told c.start_files.new.disk)
    (subst (λ (ps : List (List ℕ)). AreStarted ps c.in_ok-start.start (g.D.Disk.told c.args.disk.now) (g.D.Disk.told c.start_files.new.disk))
    (c.as_slice.ensures ∙ c.in_ok-paths.ensures) c.in_ok-start.ensures.started)
    (record { bound = c.run.ensures.bound; is_ready = c.run.ensures.ready; binds = c.run.ensures.binds }))

pub returns-in_err-told : goal.returns-in_err-told
returns-in_err-told g c =
    let p = err_from_is_err_and c.from_residual-in_err-told.result c.from_residual-in_err-told.ensures.1 in
    rw (p.1, p.2) (begun c.in_ok-start.start (g.D.Disk.told c.start_files.new.disk)
    (subst (λ (ps : List (List ℕ)). AreStarted ps c.in_ok-start.start (g.D.Disk.told c.args.disk.now) (g.D.Disk.told c.start_files.new.disk))
    (c.as_slice.ensures ∙ c.in_ok-paths.ensures) c.in_ok-start.ensures.started)
    (record { bound = c.run.ensures.bound; is_ready = c.run.ensures.ready; binds = c.run.ensures.binds }))

pub returns-in_err-start : goal.returns-in_err-start
returns-in_err-start g c =
    let p = err_from_is_err_and c.from_residual-in_err-start.result c.from_residual-in_err-start.ensures.1 in
    let fault = c.in_err-start.field-0.0 in
    rw (p.1, p.2) (halts c.args.steps c.args.telling c.args.checked.now (g.D.Disk.told c.args.disk.now) (g.D.Disk.told c.start_files.new.disk) fault
    (subst (λ (ps : List (List ℕ)). AreStopped ps fault (g.D.Disk.told c.args.disk.now) (g.D.Disk.told c.start_files.new.disk))
    (c.as_slice.ensures ∙ c.in_ok-paths.ensures) c.in_err-start.ensures.stopped))
