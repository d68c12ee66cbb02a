use Rattle.std.proofs.Common.{◌≡◌, [], ◌∷◌, ◌++◌, ap, ◌∙◌}
use Rattle.choice_tests.proofs.Undecided.{two_undecided}
use Rattle.choice_tests.proofs.relays.merged.Goals as goal

pub new-relay-requires-clause-undecided : goal.new-relay-requires-clause-undecided
new-relay-requires-clause-undecided c =
    let one = c.in_ok-first.ensures.recv in
    let two = c.in_ok-second.ensures.recv in
    let first = c.in_ok-push.ensures.items ∙ ap (λ v. v ++ c.in_ok-first.recv ∷ []) c.new-ins.ensures.items in
    two_undecided c.push-2.new.self.items c.in_ok-first.recv c.in_ok-second.other
    (c.in_ok-push-2.ensures.items ∙ ap (λ v. v ++ c.in_ok-second.other ∷ []) first)
    (ap (λ p. p.decisions) (one.peer ∙ c.in_ok-words.ensures.peer.1)) one.popped
    (ap (λ p. p.decisions) (two.peer ∙ c.in_ok-more.ensures.peer.1)) two.popped
