use Rattle.std.proofs.Common.{◌≤◌, true, subst}
use Rattle.end_ports.specs.Held.{AskingAt}
use Rattle.end_ports.specs.OnLinks.{on_ask}
use Rattle.end_ports.specs.inner.AskFields.{asking_at_of}
use Rattle.end_ports.proofs.AskSettling.{ask_kept, ask_settled, ask_heard}
use Rattle.end_ports.proofs.ask_at.AskAt.settle.Goals as goal

pub invariant_of-self-2 : goal.invariant_of-self-2
invariant_of-self-2 c =
    let h = c.in_ok-settle.ensures in
    ask_kept c.self.inside c.self.invariant c.settle.new.self c.settle.new.recv c.settle.new.end h.send h.settled.0 h.ok.0 h.ok.1 h.few

pub returns-clause-ok : goal.returns-clause-ok
returns-clause-ok c =
    let h = c.in_ok-settle.ensures in
    (h.ok.0, h.ok.1, ask_settled c.self.inside c.self.invariant c.settle.new.self c.settle.new.recv c.settle.new.end h.send h.settled.0 h.ok.0 h.ok.1 h.few)

pub returns-clause-heard : goal.returns-clause-heard
returns-clause-heard c =
    subst (λ (a : AskingAt). (on_ask a).heard ≤ (on_ask (asking_at_of (record {
      link = c.self.inside.link;
      end = c.settle.new.self;
      polls = c.self.inside.polls;
      tries = c.self.inside.tries;
      settled = true;
    }))).heard) c.self.view_is
    (ask_heard c.self.inside c.settle.new.self true c.settle.ensures.send c.settle.ensures.came)

pub returns-in_err-settle-clause-heard : goal.returns-in_err-settle-clause-heard
returns-in_err-settle-clause-heard c =
    subst (λ (a : AskingAt). (on_ask a).heard ≤ (on_ask (asking_at_of (record {
      link = c.self.inside.link;
      end = c.settle.new.self;
      polls = c.self.inside.polls;
      tries = c.self.inside.tries;
      settled = c.self.inside.settled;
    }))).heard) c.self.view_is
    (ask_heard c.self.inside c.settle.new.self c.self.inside.settled c.settle.ensures.send c.settle.ensures.came)
