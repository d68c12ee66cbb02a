use Rattle.std.proofs.Common.{ℕ, Some, ap, ◌∙◌, subst, sym}
use Rattle.std.specs.Prelude.{is_some}
use Rattle.code_meaning.specs.Machine.{Runs}
use Rattle.core_replay.specs.Replayed.{Replayed}
use Rattle.core_replay.proofs.Ends.{ends_so}
use Rattle.core_replay.proofs.replay.Replay.machine_end.Goals as goal

pub returns : goal.returns
returns c =
    let end = c.in_ok-end.end in
    let many = c.begun-instructions.result in
    subst (λ (r : Replayed). Runs r.code r.core r.bound r.journal (record { core = Some end.core; count = many })) c.self.view_is
    (subst (λ (n : ℕ). Runs c.self.inside.machine.code c.self.inside.machine.core c.self.inside.machine.bound c.self.inside.machine.journal (record { core = Some end.core; count = n }))
    (sym c.begun-instructions.ensures)
    (ends_so c.self.inside.machine c.run_on.new.machine end c.is_some-asks.result c.run_on.ensures.same c.run_on.ensures.run c.ending-ending.ensures.comes c.turns-turn.result c.turns-turn.ensures
    c.in_ok-run_on.ensures.rests (c.is_some-asks.ensures ∙ ap (λ o. is_some o) c.tried.ensures.tried) c.in_ok-end.ensures))
