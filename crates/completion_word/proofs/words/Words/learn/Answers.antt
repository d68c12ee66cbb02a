use Rattle.std.proofs.Common.{rules, ℕ, ◌%◌, ap, ◌∙◌}
use Rattle.completion_word.proofs.Allowed.{learn_allowed}
use Rattle.completion_word.proofs.words.Words.learn.Goals as goal

pub load-found-requires : goal.load-found-requires
load-found-requires c =
    let owner = c.args.owner.now in
    let places = c.args.self.now.places in (
      search rules,
      search rules,
      rw c.args.self.now.key (learn_allowed places _ _ _ _ _ owner.owns (c.place-word.ensures ∙ ap (λ (k : ℕ). k % places) owner.counts.1) c.requires.some),
    )
