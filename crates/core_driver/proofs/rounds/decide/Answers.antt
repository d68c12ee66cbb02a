use Rattle.std.proofs.Common.{Some, None, refl}
use Rattle.ac_base.specs.declared.entry.Event.TheVariants as event
use Rattle.core_driver.specs.inner.Outside.{outside}
use Rattle.core_driver.proofs.Together.{nothing_holds, roomed_holds, up_to}
use Rattle.core_driver.proofs.Looking.{full_there}
use Rattle.core_driver.proofs.Polling.{as_before, polled_by_outcome, polled_by_room}
use Rattle.core_driver.proofs.Deciding.{asks_going, asks_on, decided_holds, decided_less, may_be_withdrawn, still_asks, withdraw_called}
use Rattle.core_driver.proofs.rounds.decide.Goals as goal

pub withdraw-requires-clause-open : goal.withdraw-requires-clause-open
withdraw-requires-clause-open g c = may_be_withdrawn c.args.machine.now c.make_room.new.self _ c.requires.in_step c.make_room.ensures.same c.make_room.ensures.state c.make_room.ensures.run
    c.args.tried c.requires.asks
    c.make_room.ensures.tracks

pub withdraw-requires-clause-clock : goal.withdraw-requires-clause-clock
withdraw-requires-clause-clock g c = up_to _ _ c.requires.in_step

pub returns-in_err-make_room-clause-holds : goal.returns-in_err-make_room-clause-holds
returns-in_err-make_room-clause-holds g c = roomed_holds c.args.machine.now c.make_room.new.self _ c.requires.in_step c.make_room.ensures.same c.make_room.ensures.state c.make_room.ensures.run

pub returns-in_err-make_room-clause-stays : goal.returns-in_err-make_room-clause-stays
returns-in_err-make_room-clause-stays g c = g.met.P.Ports.stays_self c.args.ports.now

pub withdrawn-requires-clause-asks : goal.withdrawn-requires-clause-asks
withdrawn-requires-clause-asks g c = still_asks c.args.machine.now c.make_room.new.self _ c.requires.in_step c.make_room.ensures.same c.make_room.ensures.state c.make_room.ensures.run
    c.args.tried c.requires.asks

pub returns-in-Withdrawn-clause-holds : goal.returns-in-Withdrawn-clause-holds
returns-in-Withdrawn-clause-holds g c = decided_holds c.args.machine.now c.make_room.new.self _ c.requires.in_step c.make_room.ensures.same c.make_room.ensures.state c.make_room.ensures.run
    c.args.tried c.requires.asks c.make_room.ensures.tracks _
    (record { event = event.Withdraw c.args.tried.link c.args.tried.number; stamp = c.in-Withdrawn.stamp })
    (withdraw_called (outside (g.P.Ports.told c.args.ports.now) c.args.clock.now)
    (outside (g.P.Ports.told c.withdraw.new.self) c.withdraw.new.clock) (Some (record {
      event = event.Withdraw c.args.tried.link c.args.tried.number;
      stamp =
          c.in-Withdrawn.stamp;
    }))
    c.in-Withdrawn.ensures.tells c.in-Withdrawn.ensures.hand c.in-Withdrawn.ensures.terms c.in-Withdrawn.ensures.polls c.in-Withdrawn.ensures.tries) c.withdrawn.new.self _
    c.withdrawn.ensures.decided c.withdrawn.ensures.less c.withdrawn.ensures.run

pub returns-in-Withdrawn-clause-came : goal.returns-in-Withdrawn-clause-came
returns-in-Withdrawn-clause-came g c = decided_less c.args.machine.now c.make_room.new.self _ c.requires.in_step c.make_room.ensures.same c.make_room.ensures.state c.make_room.ensures.run
    c.args.tried c.requires.asks c.make_room.ensures.tracks _
    (record { event = event.Withdraw c.args.tried.link c.args.tried.number; stamp = c.in-Withdrawn.stamp })
    (withdraw_called (outside (g.P.Ports.told c.args.ports.now) c.args.clock.now)
    (outside (g.P.Ports.told c.withdraw.new.self) c.withdraw.new.clock) (Some (record {
      event = event.Withdraw c.args.tried.link c.args.tried.number;
      stamp =
          c.in-Withdrawn.stamp;
    }))
    c.in-Withdrawn.ensures.tells c.in-Withdrawn.ensures.hand c.in-Withdrawn.ensures.terms c.in-Withdrawn.ensures.polls c.in-Withdrawn.ensures.tries) c.withdrawn.new.self _
    c.withdrawn.ensures.decided c.withdrawn.ensures.less c.withdrawn.ensures.run c.args._ranks.now

pub taken-requires-clause-asks : goal.taken-requires-clause-asks
taken-requires-clause-asks g c = still_asks c.args.machine.now c.make_room.new.self _ c.requires.in_step c.make_room.ensures.same c.make_room.ensures.state c.make_room.ensures.run c.args.tried
    c.requires.asks

pub returns-in-Taken-clause-holds : goal.returns-in-Taken-clause-holds
returns-in-Taken-clause-holds g c = decided_holds c.args.machine.now c.make_room.new.self _ c.requires.in_step c.make_room.ensures.same c.make_room.ensures.state c.make_room.ensures.run
    c.args.tried c.requires.asks c.make_room.ensures.tracks _
    (record { event = event.Know c.args.tried.link c.args.tried.number; stamp = c.in-Taken.stamp })
    (withdraw_called (outside (g.P.Ports.told c.args.ports.now) c.args.clock.now)
    (outside (g.P.Ports.told c.withdraw.new.self) c.withdraw.new.clock) (Some (record {
      event = event.Know c.args.tried.link c.args.tried.number;
      stamp =
          c.in-Taken.stamp;
    }))
    c.in-Taken.ensures.tells c.in-Taken.ensures.hand c.in-Taken.ensures.terms c.in-Taken.ensures.polls c.in-Taken.ensures.tries) c.taken.new.self _ c.taken.ensures.decided
    c.taken.ensures.less c.taken.ensures.run

pub returns-in-Taken-clause-came : goal.returns-in-Taken-clause-came
returns-in-Taken-clause-came g c = decided_less c.args.machine.now c.make_room.new.self _ c.requires.in_step c.make_room.ensures.same c.make_room.ensures.state c.make_room.ensures.run
    c.args.tried c.requires.asks c.make_room.ensures.tracks _
    (record { event = event.Know c.args.tried.link c.args.tried.number; stamp = c.in-Taken.stamp })
    (withdraw_called (outside (g.P.Ports.told c.args.ports.now) c.args.clock.now)
    (outside (g.P.Ports.told c.withdraw.new.self) c.withdraw.new.clock) (Some (record {
      event = event.Know c.args.tried.link c.args.tried.number;
      stamp =
          c.in-Taken.stamp;
    }))
    c.in-Taken.ensures.tells c.in-Taken.ensures.hand c.in-Taken.ensures.terms c.in-Taken.ensures.polls c.in-Taken.ensures.tries) c.taken.new.self _ c.taken.ensures.decided
    c.taken.ensures.less c.taken.ensures.run c.args._ranks.now

pub returns-in-ClockFull-clause-holds : goal.returns-in-ClockFull-clause-holds
returns-in-ClockFull-clause-holds g c = nothing_holds c.args.machine.now c.make_room.new.self _ c.requires.in_step c.make_room.ensures.same c.make_room.ensures.state c.make_room.ensures.run _
    (withdraw_called (outside (g.P.Ports.told c.args.ports.now) c.args.clock.now)
    (outside (g.P.Ports.told c.withdraw.new.self) c.withdraw.new.clock) None
    c.in-ClockFull.ensures.tells c.in-ClockFull.ensures.hand c.in-ClockFull.ensures.terms c.in-ClockFull.ensures.polls c.in-ClockFull.ensures.tries)

pub returns-in-ClockFull-clause-came : goal.returns-in-ClockFull-clause-came
returns-in-ClockFull-clause-came g c = record {
  going = asks_on c.args.machine.now c.make_room.new.self _ c.requires.in_step c.make_room.ensures.same c.make_room.ensures.state c.make_room.ensures.run c.args.tried c.requires.asks;
  full = full_there (outside (g.P.Ports.told c.args.ports.now) c.args.clock.now)
      (outside (g.P.Ports.told c.withdraw.new.self) c.withdraw.new.clock) c.args.tried.link c.in-ClockFull.ensures.tells.1 c.in-ClockFull.ensures.answer;
}

pub returns-in_err-make_room-clause-polled : goal.returns-in_err-make_room-clause-polled
returns-in_err-make_room-clause-polled g c = polled_by_room c.args.machine.now c.make_room.new.self _ _ c.make_room.ensures.state
    (asks_going c.args.machine.now.code c.args.machine.now.state c.args.tried c.requires.asks) (as_before _ _ refl)

pub returns-in-Withdrawn-clause-polled : goal.returns-in-Withdrawn-clause-polled
returns-in-Withdrawn-clause-polled g c = polled_by_outcome c.args.machine.now c.make_room.new.self c.withdrawn.new.self _ _ _ _ _ _ c.make_room.ensures.state c.withdrawn.ensures.decided
    (as_before _ _ c.in-Withdrawn.ensures.polls)

pub returns-in-Taken-clause-polled : goal.returns-in-Taken-clause-polled
returns-in-Taken-clause-polled g c = polled_by_outcome c.args.machine.now c.make_room.new.self c.taken.new.self _ _ _ _ _ _ c.make_room.ensures.state c.taken.ensures.decided
    (as_before _ _ c.in-Taken.ensures.polls)

pub returns-in-ClockFull-clause-polled : goal.returns-in-ClockFull-clause-polled
returns-in-ClockFull-clause-polled g c = polled_by_room c.args.machine.now c.make_room.new.self _ _ c.make_room.ensures.state
    (asks_going c.args.machine.now.code c.args.machine.now.state c.args.tried c.requires.asks)
    (as_before _ _ c.in-ClockFull.ensures.polls)
