-- Each turn gives the next file what the files before it have left; a file that stops the work does so after these.
use Rattle.std.proofs.Common.{◌≡◌, ◌+◌, ◌<◌, ◌≤◌, ℕ, List, length, Ok, Err, sym, ◌∙◌, subst, arith}
use Rattle.std.proofs.lemmas.Grind.{common_steps}
use Rattle.std.proofs.lemmas.List.Elements.{All-push}
use Rattle.std.proofs.lemmas.Option.{slice_get-get_or}
use Rattle.std.proofs.lemmas.Result.{err_from_is_err_and}
use Rattle.std.specs.Prelude.{slice_get, All, IfSome, Some}
use Rattle.std.specs.Str.{IsUtf8}
use Rattle.ac_outside.specs.Disks.{IsFresh}
use Rattle.ac_outside.specs.Told.{AddsName}
use Rattle.starting_files.specs.declared.fault.StartFault.TheVariants.{NoMemory}
use Rattle.starting_files.specs.Starting.{IsNumber}
use Rattle.starting_files.proofs.Started.{SoFar, is_fresh, none_bound, stops_at, stops_after, next_file, retold, asked_more, are_stopped, cause_of, latest_of}
use Rattle.starting_files.proofs.starting.start_files.Goals as goal

pub start_file-requires-clause-text : goal.start_file-requires-clause-text
start_file-requires-clause-text g c =
    let less : c.loop-path.path-index < length c.args.paths.now = grind (arith, c.loop-path-test.true) in
    subst IsUtf8 (sym c.path-item.is ∙ sym c.as_slice.ensures) (c.requires.texts c.loop-path.path-index c.path-item.result less)

pub start_file-requires-clause-fresh : goal.start_file-requires-clause-fresh
start_file-requires-clause-fresh g c =
    let less : c.loop-path.path-index < length c.args.paths.now = grind (arith, c.loop-path-test.true) in
    let i = c.loop-path.invariant in
    subst (λ path. IfSome (g.D.Disk.told c.loop-path.disk).held (λ held. IsFresh held path)) (sym c.as_slice.ensures)
    (is_fresh (g.D.Disk.told c.args.disk.now).held (g.D.Disk.told c.loop-path.disk).held c.args.paths.now c.loop-path.path-index c.path-item.result c.loop-path.start i.silent i.told
    (none_bound (g.D.Disk.told c.args.disk.now).held _ (g.met.D.Disk.tells_bound c.args.disk.now) c.requires.none) c.requires.differ less (sym c.path-item.is))

pub returns-in_err-bytes-clause-stopped : goal.returns-in_err-bytes-clause-stopped
returns-in_err-bytes-clause-stopped g c =
    let less : c.loop-path.path-index < length c.args.paths.now = grind (arith, c.loop-path-test.true) in
    let here : slice_get c.args.paths.now c.loop-path.path-index ≡ Some c.path-item.result = slice_get-get_or c.args.paths.now c.loop-path.path-index c.path-item.result less ∙ cc (c.path-item.is) in
    let p = err_from_is_err_and c.from_residual.result c.from_residual.ensures.1 in
    let before = (g.D.Disk.told c.loop-path.disk).held in
    let after = (g.D.Disk.told c.start_file.new.disk).held in
    let told = retold before after _ _ _ _ (Err c.in_err-bytes.field-0.0) (c.len-number.ensures ∙ c.loop-path.invariant.count) c.as_slice.ensures c.in_err-bytes.ensures.told in
    let at = stops_at (g.D.Disk.told c.args.disk.now).held before after c.args.paths.now c.loop-path.path-index c.path-item.result c.loop-path.start c.in_err-bytes.field-0.0
    c.loop-path.invariant.told c.loop-path.invariant.short told here in
    let number = c.len-number.ensures ∙ c.loop-path.invariant.count in
    let is = subst (λ n. IsNumber n c.in_err-bytes.field-0.0) number c.in_err-bytes.ensures.is_number in
    let one = subst (AddsName (g.D.Disk.told c.loop-path.disk).binds (g.D.Disk.told c.start_file.new.disk).binds) c.as_slice.ensures c.in_err-bytes.ensures.asked in
    rw (p.1, p.2) (are_stopped (g.D.Disk.told c.args.disk.now) (g.D.Disk.told c.loop-path.disk) (g.D.Disk.told c.start_file.new.disk) c.args.paths.now c.loop-path.path-index c.path-item.result
    c.in_err-bytes.field-0.0 less (sym c.path-item.is) is c.loop-path.invariant.asked one c.loop-path.invariant.well (cause_of (List ℕ) _ _ c.in_err-bytes.field-0.0 c.in_err-bytes.ensures.cause)
    (latest_of (List ℕ) _ _ c.in_err-bytes.field-0.0 c.in_err-bytes.ensures.latest) at)

pub returns-in_err-push-clause-stopped : goal.returns-in_err-push-clause-stopped
returns-in_err-push-clause-stopped g c =
    let less : c.loop-path.path-index < length c.args.paths.now = grind (arith, c.loop-path-test.true) in
    let here : slice_get c.args.paths.now c.loop-path.path-index ≡ Some c.path-item.result = slice_get-get_or c.args.paths.now c.loop-path.path-index c.path-item.result less ∙ cc (c.path-item.is) in
    let p = err_from_is_err_and c.from_residual-in_err-push.result c.from_residual-in_err-push.ensures.1 in
    let before = (g.D.Disk.told c.loop-path.disk).held in
    let after = (g.D.Disk.told c.start_file.new.disk).held in
    let told = retold before after _ _ _ _ (Ok c.in_ok-bytes.bytes) (c.len-number.ensures ∙ c.loop-path.invariant.count) c.as_slice.ensures c.in_ok-bytes.ensures.told in
    let at = stops_after (g.D.Disk.told c.args.disk.now).held before after c.args.paths.now c.loop-path.path-index c.path-item.result c.in_ok-bytes.bytes c.loop-path.start
    c.loop-path.invariant.told c.loop-path.invariant.short told here in
    let one = subst (AddsName (g.D.Disk.told c.loop-path.disk).binds (g.D.Disk.told c.start_file.new.disk).binds) c.as_slice.ensures c.in_ok-bytes.ensures.asked in
    rw (p.1, p.2) (are_stopped (g.D.Disk.told c.args.disk.now) (g.D.Disk.told c.loop-path.disk) (g.D.Disk.told c.start_file.new.disk) c.args.paths.now c.loop-path.path-index c.path-item.result
    NoMemory less (sym c.path-item.is) tt c.loop-path.invariant.asked one c.loop-path.invariant.well c.in_ok-bytes.ensures.cause tt at)

pub loop-path-preserved : goal.loop-path-preserved
loop-path-preserved g c =
    let less : c.loop-path.path-index < length c.args.paths.now = grind (arith, c.loop-path-test.true) in
    let before = (g.D.Disk.told c.loop-path.disk).held in
    let after = (g.D.Disk.told c.start_file.new.disk).held in
    let told = retold before after _ _ _ _ (Ok c.in_ok-bytes.bytes) (c.len-number.ensures ∙ c.loop-path.invariant.count) c.as_slice.ensures c.in_ok-bytes.ensures.told in
    record {
      count = grind (arith, common_steps, c.in_ok-push.ensures.ok, c.loop-path.invariant.count);
      bound = c.in_ok-bytes.ensures.bound ∙ grind (arith, c.len-number.ensures, c.loop-path.invariant.count);
      ready = c.in_ok-bytes.ensures.ready;
      well = c.in_ok-bytes.ensures.cause ∙ c.loop-path.invariant.well;
      asked = asked_more _ _ _ c.args.paths.now c.loop-path.path-index c.path-item.result c.loop-path.invariant.asked
          (subst (AddsName (g.D.Disk.told c.loop-path.disk).binds (g.D.Disk.told c.start_file.new.disk).binds) c.as_slice.ensures c.in_ok-bytes.ensures.asked) less (sym c.path-item.is);
      short = subst (All (λ bytes. length bytes ≤ 1048576)) (sym c.in_ok-push.ensures.ok) (All-push
          (λ bytes. length bytes ≤ 1048576) c.loop-path.start c.in_ok-bytes.bytes c.loop-path.invariant.short c.in_ok-bytes.ensures.short);
      silent = λ e. c.in_ok-bytes.ensures.silent (c.loop-path.invariant.silent e);
      told = subst (λ start. IfSome (g.D.Disk.told c.args.disk.now).held (λ held. SoFar held after c.args.paths.now (c.loop-path.path-index + 1) start)) (sym c.in_ok-push.ensures.ok)
          (next_file (g.D.Disk.told c.args.disk.now).held before after c.args.paths.now c.loop-path.path-index c.path-item.result c.in_ok-bytes.bytes c.loop-path.start c.loop-path.invariant.told
          told less (sym c.path-item.is));
    }
