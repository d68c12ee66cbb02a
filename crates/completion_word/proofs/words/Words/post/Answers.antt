use Rattle.std.proofs.Common.{rules, ℕ, ◌%◌, ap, ◌∙◌}
use Rattle.completion_word.proofs.Allowed.{post_allowed}
use Rattle.completion_word.proofs.words.Words.post.Goals as goal

pub store-requires : goal.store-requires
store-requires c =
    let owner = c.args.owner.now in
    let places = c.args.self.now.places in (
      search rules,
      search rules,
      rw c.args.self.now.key (post_allowed places _ _ _ _ _ _ c.args.stamp owner.owns
          (c.place-word.ensures ∙ ap (λ (k : ℕ). k % places) owner.counts.0) c.word-offered.ensures c.requires.room c.requires.stamp.0 c.requires.stamp.1),
    )
