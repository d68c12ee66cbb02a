use Rattle.settled_rounds.proofs.Pointwise.{each_self}
use Rattle.settled_rounds.proofs.running.go_on.Goals as goal

pub returns-in-Nobody-clause-later : goal.returns-in-Nobody-clause-later
returns-in-Nobody-clause-later g c =
    let w = g.world in
    each_self g.P.Party.later (g.met.P.Party w.𝓛 w.𝓜 w.𝓡 (λ s h. h, λ p. p, λ n s. n s, λ x. x)).later_self c.args.parties.now
