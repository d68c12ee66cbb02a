use Rattle.std.proofs.Common.{rules, arith, ℕ, ◌%◌, ap, ◌∙◌}
use Rattle.completion_word.specs.declared.standing.Standing.TheVariants.{Offered}
use Rattle.completion_word.specs.Link.{code}
use Rattle.completion_word.proofs.Allowed.{offer_seen, take_allowed}
use Rattle.completion_word.proofs.words.Words.take.Goals as goal

pub word-offered-requires : goal.word-offered-requires
word-offered-requires c = let peer = c.args.peer.now in let showed = peer.showed in let seen = offer_seen _ c.args.stamp c.requires.look in omega (arith, showed, seen.1)

pub compare_exchange-found-requires : goal.compare_exchange-found-requires
compare_exchange-found-requires c =
    let peer = c.args.peer.now in
    let places = c.args.self.now.places in
    let seen = offer_seen _ c.args.stamp c.requires.look in (
      search rules,
      search rules,
      rw c.args.self.now.key (take_allowed places _ _ _ _ _ _ c.args.stamp _ _ peer.decides (c.place-word.ensures ∙ ap (λ (k : ℕ). k % places) peer.count)
          (c.word-offered.ensures ∙ ap (λ (t : ℕ). code (Offered t)) peer.showed) c.word-taken.ensures seen.0 seen.1),
    )
