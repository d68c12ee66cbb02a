-- The worker that is taken from the end of the list is the one that was put there, later; with it and the cores before it the run is what it has to be.
use Rattle.std.proofs.Common.{sym, ◌∙◌, ◌<◌, ◌^◌, subst, map}
use Rattle.file_ops.specs.Agreement.{DiskGoesOn}
use Rattle.run_laws.specs.Laws.{IsRunOfCores}
use Rattle.run_parties.specs.Seats.{core_of}
use Rattle.settled_rounds.specs.Linked.{AreWays}
use Rattle.core_runner.specs.inner.Parties.{seats_in}
use Rattle.core_runner.proofs.LastParty.{no_core_stands_there, worker_went_on, have_run, ok_both, no_ok}
use Rattle.core_runner.proofs.Lists.{one_more}
use Rattle.core_runner.proofs.running.run_all.Goals as goal
use Rattle.core_runner.proofs.running.run_all.Goals.{in-Ok, in-Err}

pub run-ran-requires-clause-parties : goal.run-ran-requires-clause-parties
run-ran-requires-clause-parties g c κs within =
    subst (λ n. n < 2 ^ 32) (sym (one_more c.as_mut_slice.result.now c.args.cores.items _ (c.as_mut_slice.ensures.value ∙ c.push_reserved.ensures.items))) c.requires.parties

pub run-ran-requires-clause-ways : goal.run-ran-requires-clause-ways
run-ran-requires-clause-ways g c κs within =
    subst (λ n. AreWays n c.args.ways.now) (sym (one_more c.as_mut_slice.result.now c.args.cores.items _ (c.as_mut_slice.ensures.value ∙ c.push_reserved.ensures.items))) c.requires.ways

pub unreachable-requires : goal.unreachable-requires
unreachable-requires g c =
    no_core_stands_there g.D.Disk.told c.as_mut_slice.result.now c.run-ran.new.parties c.args.cores.items c.take_last.new.self.items c.push_reserved.new.self.items c.args.worker c.take_last.result
    c.push_reserved.new.self.len (c.as_mut_slice.ensures.value ∙ c.push_reserved.ensures.items) c.run-ran.ensures.later c.take_last.ensures.items (sym c.as_mut_slice.ensures.len)
    c.in_default.field-0 c.in_default.is

pub returns-clause-run : goal.returns-clause-run
returns-clause-run g c = elim c.match-ran.branch [
  | in-Ok w ↦
      ok_both w.ended_of-ended.result c.match-ran.ended _ _ _ w.ended-is w.ended_of-ended.ensures.run w.ended_of-ended.ensures.ports (λ ended made ports.
      have_run g.D.Disk.told c.as_mut_slice.result.now c.run-ran.new.parties c.args.cores.items c.take_last.new.self.items c.push_reserved.new.self.items c.args.worker c.take_last.result
      c.push_reserved.new.self.len (c.as_mut_slice.ensures.value ∙ c.push_reserved.ensures.items) w.in-Ok.ensures.later c.take_last.ensures.items (sym c.as_mut_slice.ensures.len)
      c.in-Disk.worker c.in-Disk.is c.args.ways.now c.args.steps c.args.files (g.D.Disk.told c.into_parts-journal.result.1.now) ended w.in-Ok.ensures.settled w.in-Ok.ensures.stopped ports
      c.cores-cores.ensures.agrees (sym c.into_parts-journal.ensures.told)
      (subst (λ es. IsRunOfCores c.args.steps c.args.files (map core_of (seats_in c.take_last.new.self.items)) es ended) c.into_parts-journal.ensures.entries made))
  | in-Err w ↦ no_ok c.match-ran.ended _ _ w.ended-is
]

pub returns-clause-disk : goal.returns-clause-disk
returns-clause-disk g c =
    subst (λ d. DiskGoesOn (g.D.Disk.told c.args.worker.disk.now) d) (sym c.into_parts-journal.ensures.told)
    (worker_went_on g.D.Disk.told c.as_mut_slice.result.now c.run-ran.new.parties c.args.cores.items c.take_last.new.self.items c.push_reserved.new.self.items c.args.worker c.take_last.result
    c.push_reserved.new.self.len (c.as_mut_slice.ensures.value ∙ c.push_reserved.ensures.items) c.run-ran.ensures.later c.take_last.ensures.items (sym c.as_mut_slice.ensures.len)
    c.in-Disk.worker c.in-Disk.is).0.disk

pub returns-clause-loan : goal.returns-clause-loan
returns-clause-loan g c =
    c.into_parts-journal.ensures.loan ∙ (worker_went_on g.D.Disk.told c.as_mut_slice.result.now c.run-ran.new.parties c.args.cores.items c.take_last.new.self.items c.push_reserved.new.self.items
    c.args.worker c.take_last.result
    c.push_reserved.new.self.len (c.as_mut_slice.ensures.value ∙ c.push_reserved.ensures.items) c.run-ran.ensures.later c.take_last.ensures.items (sym c.as_mut_slice.ensures.len)
    c.in-Disk.worker c.in-Disk.is).1
