use Rattle.std.proofs.Common.{rules, ℕ, ◌%◌, ap, ◌∙◌}
use Rattle.completion_word.proofs.Allowed.{pass_allowed, withdrawal_seen}
use Rattle.completion_word.proofs.words.Words.pass.Goals as goal

pub store-requires : goal.store-requires
store-requires c =
    let peer = c.args.peer.now in
    let places = c.args.self.now.places in
    let seen = withdrawal_seen _ c.args.stamp c.requires.look in (
      search rules,
      search rules,
      rw c.args.self.now.key (pass_allowed places _ _ _ _ _ seen.0 c.args.stamp _ peer.decides (c.place-word.ensures ∙ ap (λ (k : ℕ). k % places) peer.count) c.word-passed.ensures seen.1 seen.2),
    )
