-- The core takes each of its first so many entries, and comes to its end under them.
use Rattle.std.proofs.Common.{◌≤◌, ◌-◌, List, length, take, refl, subst, arith}
use Rattle.std.specs.Prelude.{IfOk}
use Rattle.std.proofs.lemmas.Option.{slice_get_read}
use Rattle.ac_base.specs.declared.entry.Stamped.{Stamped}
use Rattle.trace_audit.specs.RunTrace.{journal_of}
use Rattle.ac_causal.specs.inner.Standing.{RunsTo}
use Rattle.ac_causal.proofs.Stating.{audited_next, ends_so, full_by, goes_by, if_ok_by, taken_by, takes_first}
use Rattle.ac_causal.proofs.states.state_of.Goals as goal

pub loop-stamped-init : goal.loop-stamped-init
loop-stamped-init c =
    takes_first c.args.code.now c.args.core c.args.trace.now.steps c.args.count c.as_slice-entries.result.now c.in_ok-replay.replay c.in_ok-replay.ensures.took_all
    c.in_ok-replay.ensures.code c.in_ok-replay.ensures.core c.in_ok-replay.ensures.bound c.in_ok-replay.ensures.journal

pub loop-stamped-preserved-then-stamped-core : goal.loop-stamped-preserved-then-stamped-core
loop-stamped-preserved-then-stamped-core c =
    let es = c.as_slice-entries.result.now in
    let n = c.loop-stamped.stamped-index in
    let s = c.stamped-item.result in
    let is = slice_get_read es (length es) n s refl c.loop-stamped-test.true c.stamped-item.is in
    goes_by c.args.code.now c.args.core c.args.trace.now.steps c.args.count es n c.loop-stamped.replay c.loop-stamped.left c.loop-stamped.invariant s is c.if-stamped-core.true

pub loop-stamped-preserved-then-left-eq0 : goal.loop-stamped-preserved-then-left-eq0
loop-stamped-preserved-then-left-eq0 c =
    let es = c.as_slice-entries.result.now in
    let n = c.loop-stamped.stamped-index in
    let s = c.stamped-item.result in
    let is = slice_get_read es (length es) n s refl c.loop-stamped-test.true c.stamped-item.is in
    full_by c.args.code.now c.args.core c.args.trace.now.steps c.args.count es n c.loop-stamped.replay c.loop-stamped.left c.loop-stamped.invariant s is c.if-left-eq0.true

pub loop-stamped-preserved : goal.loop-stamped-preserved
loop-stamped-preserved c =
    let es = c.as_slice-entries.result.now in
    let code = c.args.code.now in
    let t = c.args.trace.now in
    let core = c.args.core in
    let count = c.args.count in
    let n = c.loop-stamped.stamped-index in
    let s = c.stamped-item.result in
    let h = c.loop-stamped.invariant in
    let is = slice_get_read es (length es) n s refl c.loop-stamped-test.true c.stamped-item.is in
    let run = audited_next code t core count es n c.loop-stamped.replay c.loop-stamped.left h s is c.if-stamped-core.false c.if-left-eq0.false c.ranks-ranks.result.now
    c.instrs-instrs.ensures.valid c.ranks-ranks.ensures c.requires.audited c.requires.core c.as_slice-entries.ensures in
    taken_by code core t.steps count es n c.loop-stamped.replay c.loop-stamped.left h s is c.if-stamped-core.false c.if-left-eq0.false _ c.take.new.self
    (c.loop-stamped.left - 1) c.in_ok-_took.ensures.refused run c.take.ensures.same c.in_ok-_took.ensures.took c.in_ok-_took.ensures.took_all refl

pub returns : goal.returns
returns c =
    let code = c.args.code.now in
    let core = c.args.core in
    let bound = c.args.trace.now.steps in
    let count = c.args.count in
    let es = c.as_slice-entries.result.now in
    let r = c.loop-stamped.replay in
    let all : length es ≤ c.loop-stamped.stamped-index = omega arith in
    subst (λ (xs : List Stamped). IfOk c.end.result (λ end. RunsTo code core bound (take count (journal_of core xs)) end)) c.as_slice-entries.ensures
    (if_ok_by c.end.result (λ end. RunsTo r.code r.core r.bound r.journal end) (λ end. RunsTo code core bound (take count (journal_of core es)) end)
    (λ end h. ends_so code core bound count es c.loop-stamped.stamped-index r c.loop-stamped.left c.loop-stamped.invariant all end h) c.end.ensures)
