use Rattle.std.proofs.Common.{sym, ◌∙◌}
use Rattle.file_worker.specs.Workers.{seen_of}
use Rattle.run_parties.proofs.Desks.{round_rests}
use Rattle.run_parties.proofs.working.do_round.Goals as goal

pub returns-clause-rests : goal.returns-clause-rests
returns-clause-rests g c = λ none.
    let told = g.D.Disk.told in
    round_rests c.in_ok-round.field-0 (seen_of told c.args.worker.now) (seen_of told c.round-round.new.self) c.round-round.ensures.goes_on c.cores-cores.ensures.ready c.in_ok-round.ensures.says
    (sym c.has_done.ensures ∙ none)
