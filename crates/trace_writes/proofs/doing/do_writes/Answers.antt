use Rattle.std.proofs.Common.{[], ◌++◌, ◌∷◌, take, refl, ap, ◌∙◌, sym, subst}
use Rattle.std.proofs.lemmas.List.{take_more}
use Rattle.std.proofs.lemmas.Option.{slice_get_read}
use Rattle.std.proofs.lemmas.Result.{err_from_is_err_and}
use Rattle.trace_writes.specs.declared.write.FileWrite.{FileWrite}
use Rattle.trace_writes.specs.Doing.{DidAll}
use Rattle.trace_writes.proofs.Done.{did_more, fails_now, some_of}
use Rattle.trace_writes.proofs.doing.do_writes.Goals as goal

pub loop-write-preserved : goal.loop-write-preserved
loop-write-preserved g c =
    let ws = c.args.writes.now in
    let w = c.write-item.result in
    let i = c.loop-write.write-index in
    let next = take_more ws i w c.loop-write-test.true ∙ ap (λ (x : FileWrite). take i ws ++ x ∷ []) (sym c.write-item.is) in
    subst (λ vs. DidAll vs (g.D.Disk.told c.args.disk.now) (g.D.Disk.told c.do_write.new.disk)) (sym next)
    (did_more (take i ws) w (g.D.Disk.told c.args.disk.now) (g.D.Disk.told c.loop-write.disk) (g.D.Disk.told c.do_write.new.disk) c.loop-write.invariant c.in_ok-do_write.ensures.done)

pub returns-in_err-do_write-clause-failed : goal.returns-in_err-do_write-clause-failed
returns-in_err-do_write-clause-failed g c =
    let ws = c.args.writes.now in
    let w = c.write-item.result in
    let i = c.loop-write.write-index in
    let p = err_from_is_err_and c.from_residual.result c.from_residual.ensures.1 in
    rw p.1 (some_of ws i w (g.D.Disk.told c.args.disk.now) (g.D.Disk.told c.do_write.new.disk) (slice_get_read ws _ i w refl c.loop-write-test.true c.write-item.is)
    (fails_now (take i ws) w (g.D.Disk.told c.args.disk.now) (g.D.Disk.told c.loop-write.disk) (g.D.Disk.told c.do_write.new.disk) c.loop-write.invariant c.in_err-do_write.ensures.failed))
