use Rattle.run_parties.specs.inner.Keeping.{later_seat_then}
use Rattle.run_parties.proofs.Trying.{not_yet_tried, once_more_in_vain, tries_anew}
use Rattle.run_parties.proofs.core_party.CoreParty.keep_on.Goals as goal

pub loop-over-init : goal.loop-over-init
loop-over-init g c = not_yet_tried c.args.self.now

pub returns-in_err-over-clause-later : goal.returns-in_err-over-clause-later
returns-in_err-over-clause-later g c =
    later_seat_then c.args.self.now c.loop-over.self c.stretch.new.self c.loop-over.invariant.later c.stretch.ensures.later

pub loop-over-preserved-then-before-last : goal.loop-over-preserved-then-before-last
loop-over-preserved-then-before-last g c =
    let e = c.in_ok-over.ensures in
    tries_anew c.args.self.now c.loop-over.self c.stretch.new.self e.later c.loop-over.in_vain c.loop-over.over c.loop-over-test.true
    c.loop-over.invariant e.rises c.in_ok-over.over e.over e.tried

pub loop-over-preserved : goal.loop-over-preserved
loop-over-preserved g c =
    let e = c.in_ok-over.ensures in
    once_more_in_vain c.args.self.now c.loop-over.self c.stretch.new.self e.later c.loop-over.in_vain c.loop-over.over c.loop-over-test.true
    c.loop-over.invariant e.rises c.in_ok-over.over e.over e.tried c.if-in_vain-lt-TRIES.true
