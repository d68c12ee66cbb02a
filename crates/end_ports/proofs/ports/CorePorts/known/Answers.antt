use Rattle.std.proofs.Common.{◌≡◌, ℕ, ◌∙◌, false, refl, sym, subst}
use Rattle.std.specs.Prelude.{◌==◌}
use Rattle.ac_links.specs.Views.{owner_lead}
use Rattle.ac_links.specs.Party.{LinkEnd}
use Rattle.core_ports.specs.Ends.{offers_of}
use Rattle.end_ports.specs.Held.{Held}
use Rattle.end_ports.specs.OnLinks.{on_link}
use Rattle.end_ports.specs.PortFields.{held_of}
use Rattle.end_ports.proofs.Placing.{not_equal}
use Rattle.end_ports.proofs.Counting.{sent_count, none_offered}
use Rattle.end_ports.proofs.ports.CorePorts.known.Goals as goal

pub returns-in-Some : goal.returns-in-Some
returns-in-Some c =
    let h = held_of c.self.inside in
    let f : LinkEnd → ℕ = λ e. owner_lead (offers_of e) in
    let apart : (h.ask.link == c.args.link) ≡ false = not_equal h.ask.link c.args.link (λ e. c.if-link.false (c.link.ensures ∙ e)) in
    subst (λ (v : Held). c.known-in-Some.result ≡ f (on_link v c.args.link).end) c.self.view_is
    (sent_count h c.args.link apart f c.in-Some.at c.known-in-Some.result (sym c.place.ensures ∙ c.in-Some.is) c.known-in-Some.ensures)

pub returns-in-None : goal.returns-in-None
returns-in-None c =
    let h = held_of c.self.inside in
    let f : LinkEnd → ℕ = λ e. owner_lead (offers_of e) in
    let apart : (h.ask.link == c.args.link) ≡ false = not_equal h.ask.link c.args.link (λ e. c.if-link.false (c.link.ensures ∙ e)) in
    subst (λ (v : Held). 0 ≡ f (on_link v c.args.link).end) c.self.view_is
    (none_offered h c.args.link apart (sym c.place.ensures ∙ c.in-None.is) f refl (λ ds. refl))
