use Rattle.std.proofs.Common.{◌≡◌, ◌∙◌, false, sym, ap, subst}
use Rattle.std.specs.Prelude.{◌==◌}
use Rattle.end_ports.specs.Held.{Held}
use Rattle.end_ports.specs.OnLinks.{on_link}
use Rattle.end_ports.specs.PortFields.{held_of}
use Rattle.end_ports.proofs.Placing.{not_equal}
use Rattle.end_ports.proofs.Counting.{count_decided, decided_none, sent_decides_none, received_count, none_decided}
use Rattle.end_ports.proofs.ports.CorePorts.decided.Goals as goal

pub returns-in-None-Some-clause-some : goal.returns-in-None-Some-clause-some
returns-in-None-Some-clause-some c = λ ds is.
    let h = held_of c.self.inside in
    let apart : (h.ask.link == c.args.link) ≡ false = not_equal h.ask.link c.args.link (λ e. c.if-link.false (c.link.ensures ∙ e)) in
    subst (λ (v : Held). c.decided.result ≡ count_decided (on_link v c.args.link).end) c.self.view_is
    (received_count h c.args.link apart (sym c.place.ensures ∙ c.in-None-Some.is-0) c.in-None-Some.at c.decided.result (sym c.place-2.ensures ∙ c.in-None-Some.is-1) c.decided.ensures)
    ∙ ap count_decided is

pub returns-in-None-Some-clause-none : goal.returns-in-None-Some-clause-none
returns-in-None-Some-clause-none c = λ none.
    let h = held_of c.self.inside in
    let apart : (h.ask.link == c.args.link) ≡ false = not_equal h.ask.link c.args.link (λ e. c.if-link.false (c.link.ensures ∙ e)) in
    subst (λ (v : Held). c.decided.result ≡ count_decided (on_link v c.args.link).end) c.self.view_is
    (received_count h c.args.link apart (sym c.place.ensures ∙ c.in-None-Some.is-0) c.in-None-Some.at c.decided.result (sym c.place-2.ensures ∙ c.in-None-Some.is-1) c.decided.ensures)
    ∙ decided_none (on_link c.args.self.now c.args.link).end none

pub returns-in_default-clause-some : goal.returns-in_default-clause-some
returns-in_default-clause-some c = λ ds is.
    let h = held_of c.self.inside in
    let apart : (h.ask.link == c.args.link) ≡ false = not_equal h.ask.link c.args.link (λ e. c.if-link.false (c.link.ensures ∙ e)) in
    subst (λ (v : Held). 0 ≡ count_decided (on_link v c.args.link).end) c.self.view_is
    (none_decided h c.args.link apart (sym c.place.ensures ∙ c.in_default.is-0) (sym c.place-2.ensures ∙ c.in_default.is-1))
    ∙ ap count_decided is

pub returns-in_default-2-clause-some : goal.returns-in_default-2-clause-some
returns-in_default-2-clause-some c = λ ds is.
    let h = held_of c.self.inside in
    let apart : (h.ask.link == c.args.link) ≡ false = not_equal h.ask.link c.args.link (λ e. c.if-link.false (c.link.ensures ∙ e)) in
    subst (λ (v : Held). 0 ≡ count_decided (on_link v c.args.link).end) c.self.view_is
    (sent_decides_none h c.args.link apart c.in_default.field-0-0 (sym c.place.ensures ∙ c.in_default.is-0))
    ∙ ap count_decided is
