use Rattle.std.proofs.Common.{◌≡◌, ℤ, List, ◌∙◌, true, sym, ap, subst, length}
use Rattle.std.specs.Prelude.{slice_get}
use Rattle.ac_links.specs.Views.{may_withdraw}
use Rattle.core_ports.specs.Ends.{IsUpTo}
use Rattle.channel_ends.specs.Sending.{Sending}
use Rattle.end_ports.specs.Held.{SendingAt}
use Rattle.end_ports.specs.Held.HeldEnd.{OfSend}
use Rattle.end_ports.specs.OnLinks.{offers_on, on_send}
use Rattle.end_ports.specs.inner.Calls.{WithdrawsOn}
use Rattle.end_ports.specs.SendFields.{sending_at_of}
use Rattle.end_ports.proofs.Answering.{as_long_withdrawn}
use Rattle.end_ports.proofs.Owning.{open_made, within}
use Rattle.end_ports.proofs.Sending.{same, send_withdraws}
use Rattle.end_ports.proofs.send_at.SendAt.withdraw.Goals as goal

pub withdraw-requires-clause-open : goal.withdraw-requires-clause-open
withdraw-requires-clause-open c =
    let s = sending_at_of c.self.inside in
    let may : may_withdraw (slice_get (offers_on s) c.args.number) ≡ true =
    subst (λ (v : SendingAt). may_withdraw (slice_get (offers_on v) c.args.number) ≡ true) (sym c.self.view_is) c.requires.open in
    open_made (offers_on s) s.end.notes.offers c.args.number (same s c.self.invariant.carries c.self.invariant.hears) may

pub withdraw-requires-clause-within : goal.withdraw-requires-clause-within
withdraw-requires-clause-within c =
    let s = sending_at_of c.self.inside in
    within c.args.clock.now (offers_on s) s.end.notes.offers (same s c.self.invariant.carries c.self.invariant.hears)
    (subst (λ (v : SendingAt). IsUpTo c.args.clock.now (on_send v).end) (sym c.self.view_is) c.requires.clock)

pub invariant_of-self : goal.invariant_of-self
invariant_of-self c =
    let long = as_long_withdrawn c.self.inside.end.notes c.args.number c.args.clock.now c.withdraw.result c.withdraw.new.self.notes c.withdraw.ensures.answer in
    record {
      carries = ap (λ (v : Sending (List ℤ)). length v.payloads) c.withdraw.ensures.end ∙ c.self.invariant.carries ∙ sym long.offers;
      hears = long.heard ∙ c.self.invariant.hears ∙ sym long.offers;
    }

pub returns-clause-call : goal.returns-clause-call
returns-clause-call c =
    let s = sending_at_of c.self.inside in
    let last = c.args.clock.now in
    let number = c.args.number in
    let after : Sending (List ℤ) → SendingAt = λ e. record { link = s.link; end = e; polls = s.polls; tries = s.tries } in
    let now = c.withdraw.new.clock in
    let may : may_withdraw (slice_get (offers_on s) number) ≡ true =
    subst (λ (v : SendingAt). may_withdraw (slice_get (offers_on v) number) ≡ true) (sym c.self.view_is) c.requires.open in
    subst (λ (v : SendingAt). WithdrawsOn (OfSend v) v.link last number c.withdraw.result (OfSend (after c.withdraw.new.self)) now) c.self.view_is
    (subst (λ (e : Sending (List ℤ)). WithdrawsOn (OfSend s) s.link last number c.withdraw.result (OfSend (after e)) now) (sym c.withdraw.ensures.end)
    (send_withdraws s c.self.invariant.carries c.self.invariant.hears last c.withdraw.new.self.notes number c.withdraw.result now may
    c.withdraw.ensures.answer c.withdraw.ensures.clock))
