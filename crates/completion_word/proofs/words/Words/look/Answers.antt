use Rattle.std.proofs.Common.{rules, ℕ, ◌%◌, ap, ◌∙◌}
use Rattle.completion_word.proofs.Allowed.{look_allowed}
use Rattle.completion_word.proofs.words.Words.look.Goals as goal

pub load-found-requires : goal.load-found-requires
load-found-requires c =
    let peer = c.args.peer.now in
    let places = c.args.self.now.places in (
      search rules,
      search rules,
      rw c.args.self.now.key (look_allowed places _ _ _ _ _ peer.decides (c.place-word.ensures ∙ ap (λ (k : ℕ). k % places) peer.count)),
    )
