use Rattle.std.proofs.Common.{◌≡◌, ◌∙◌, ◌&&◌, not, true, sym, ap, subst}
use Rattle.std.specs.Prelude.{slice_get}
use Rattle.ac_links.specs.Views.{may_withdraw}
use Rattle.core_ports.specs.Ends.{IsUpTo}
use Rattle.request_ends.specs.Asking.{requests_of}
use Rattle.end_ports.specs.Held.{AskingAt}
use Rattle.end_ports.specs.Held.HeldEnd.{OfAsk}
use Rattle.end_ports.specs.OnLinks.{on_ask}
use Rattle.end_ports.specs.inner.AskFields.{asking_at_of}
use Rattle.end_ports.specs.inner.Calls.{WithdrawsOn}
use Rattle.end_ports.specs.inner.Entered.{enters_withdrawal}
use Rattle.end_ports.proofs.Answering.{as_long_withdrawn}
use Rattle.end_ports.proofs.Ready.{keeps_asking, withdraws_quietly}
use Rattle.end_ports.proofs.Owning.{open_made, within}
use Rattle.end_ports.proofs.Asking.{same, ask_withdraws}
use Rattle.end_ports.proofs.ask_at.AskAt.withdraw.Goals as goal

pub withdraw-answer-requires-clause-open : goal.withdraw-answer-requires-clause-open
withdraw-answer-requires-clause-open c =
    let a = asking_at_of c.self.inside in
    let may : may_withdraw (slice_get (requests_of a.end) c.args.number) ≡ true =
    subst (λ (v : AskingAt). may_withdraw (slice_get (requests_of v.end) c.args.number) ≡ true) (sym c.self.view_is) c.requires.open in
    open_made (requests_of a.end) a.end.send.notes.offers c.args.number (same a c.self.invariant.carries c.self.invariant.hears) may

pub withdraw-answer-requires-clause-within : goal.withdraw-answer-requires-clause-within
withdraw-answer-requires-clause-within c =
    let a = asking_at_of c.self.inside in
    within c.args.clock.now (requests_of a.end) a.end.send.notes.offers (same a c.self.invariant.carries c.self.invariant.hears)
    (subst (λ (v : AskingAt). IsUpTo c.args.clock.now (on_ask v).end) (sym c.self.view_is) c.requires.clock)

pub invariant_of-self : goal.invariant_of-self
invariant_of-self c =
    let it = c.self.inside in
    let last = c.args.clock.now in
    let n = c.args.number in
    let r = c.withdraw-answer.result in
    let new = c.withdraw-answer.new.self in
    let h = c.withdraw-answer.ensures.answer in
    keeps_asking it c.self.invariant new c.withdraw-answer.ensures.end c.withdraw-answer.ensures.places c.stays_settled-self-inside.result (enters_withdrawal r)
    (c.stays_settled-self-inside.ensures ∙ ap (λ b. it.settled && not b) c.enters_withdrawal.ensures)
    (withdraws_quietly it.end.send.notes n last r new.send.notes h) it.polls (as_long_withdrawn it.end.send.notes n last r new.send.notes h)

pub returns-clause-call : goal.returns-clause-call
returns-clause-call c =
    let a = asking_at_of c.self.inside in
    let last = c.args.clock.now in
    let number = c.args.number in
    let settled = c.stays_settled-self-inside.result in
    let after : AskingAt = record { link = a.link; end = c.withdraw-answer.new.self; polls = a.polls; tries = a.tries; settled = settled } in
    let now = c.withdraw-answer.new.clock in
    let may : may_withdraw (slice_get (requests_of a.end) number) ≡ true =
    subst (λ (v : AskingAt). may_withdraw (slice_get (requests_of v.end) number) ≡ true) (sym c.self.view_is) c.requires.open in
    subst (λ (v : AskingAt). WithdrawsOn (OfAsk v) v.link last number c.withdraw-answer.result (OfAsk after) now) c.self.view_is
    (ask_withdraws a c.self.invariant.carries c.self.invariant.hears last c.withdraw-answer.new.self c.withdraw-answer.ensures.end number c.withdraw-answer.result now settled
    may c.withdraw-answer.ensures.answer c.withdraw-answer.ensures.list c.withdraw-answer.ensures.clock
    (c.stays_settled-self-inside.ensures ∙ ap (λ b. a.settled && not b) c.enters_withdrawal.ensures))
