use Rattle.run_laws.proofs.Whole.{one_run}
use Rattle.settled_run.proofs.Agreed.{are_cores, core_within, worker_agrees}
use Rattle.settled_run.proofs.Done.{core_done, worker_done}
use Rattle.settled_run.proofs.Linked.{links}
use Rattle.settled_run.proofs.law.settled_ends_make_a_run.Goals as goal

pub returns : goal.returns
returns c = λ program code bound files cores ports terms worker entries ended valid is_code is_same few settled all work tells done last made.
    let well = valid.lists.links in
    one_run program code bound files cores entries (links code well ports worker settled) valid is_code is_same few
    (are_cores code well ports worker settled bound cores all)
    (worker_agrees code well ports worker settled terms entries work)
    (λ k core is. core_done code well ports worker settled bound k core (all.each k core is) (core_within code well ports worker settled bound cores all k core is)
    (tells k core is) (done k core is))
    (worker_done code well ports worker settled entries last) ended made
