use Rattle.std.proofs.Common.{refl, sym, ap, ◌∙◌, subst, rules}
use Rattle.std.specs.Prelude.{IsTrue, nat_lt}
use Rattle.ac_links.specs.Journals.{last_of}
use Rattle.file_worker.specs.Workers.{desk_of, seen_of}
use Rattle.run_parties.proofs.Rounds.{not_yet_worked, worked_on, worked_more, stays_worked}
use Rattle.run_parties.proofs.working.work.Goals as goal

pub loop-init : goal.loop-init
loop-init g c = (not_yet_worked (seen_of g.D.Disk.told c.args.worker.now), refl)

pub do_round-requires : goal.do_round-requires
do_round-requires g c = subst IsTrue (sym c.loop.invariant.0.goes_on.disk.is_ready) c.requires

pub loop-preserved : goal.loop-preserved
loop-preserved g c =
    let told = g.D.Disk.told in (
      worked_more (seen_of told c.args.worker.now) (seen_of told c.loop.worker) (seen_of told c.do_round.new.worker) c.loop.invariant.0 c.do_round.ensures.later
          (sym c.in_ok-do_round.ensures.moved ∙ search rules),
      c.do_round.ensures.loan ∙ c.loop.invariant.1,
    )

pub returns-clause-later : goal.returns-clause-later
returns-clause-later g c =
    let told = g.D.Disk.told in
    worked_on (seen_of told c.args.worker.now) (seen_of told c.loop.worker) (seen_of told c.do_round.new.worker) c.loop.invariant.0 c.do_round.ensures.later

pub returns-in_err-do_round-clause-later : goal.returns-in_err-do_round-clause-later
returns-in_err-do_round-clause-later g c =
    let told = g.D.Disk.told in
    worked_on (seen_of told c.args.worker.now) (seen_of told c.loop.worker) (seen_of told c.do_round.new.worker) c.loop.invariant.0 c.do_round.ensures.later

pub returns-clause-rests : goal.returns-clause-rests
returns-clause-rests g c = λ none.
    let told = g.D.Disk.told in
    let unrisen = ap (λ n. nat_lt n (last_of 0 (desk_of c.do_round.new.worker).entries)) (sym c.last-before.ensures.same)
    ∙ ap (nat_lt c.last-before.result) (sym c.last.ensures.same) ∙ none in
    stays_worked (seen_of told c.args.worker.now) (seen_of told c.loop.worker) (seen_of told c.do_round.new.worker) c.loop.invariant.0 c.do_round.ensures.later
    (c.in_ok-do_round.ensures.rests (search rules)).0 unrisen
