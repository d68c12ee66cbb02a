use Rattle.std.proofs.Common.{rules, arith}
use Rattle.completion_word.proofs.Allowed.{withdraw_allowed}
use Rattle.completion_word.proofs.words.Words.withdraw.Goals as goal

pub word-offered-requires : goal.word-offered-requires
word-offered-requires c = let k = c.args.owner.now.stamps_kept c.args.number c.requires.number.1 (omega arith) in omega (arith, k.0, k.1)

pub compare_exchange_with-found-requires : goal.compare_exchange_with-found-requires
compare_exchange_with-found-requires c =
    let owner = c.args.owner.now in
    let stamp = owner.stamps_kept c.args.number c.requires.number.1 (omega arith) in (
      search rules,
      search rules,
      rw c.args.self.now.key (withdraw_allowed c.args.self.now.places _ _ _ _ c.args.number _ _ c.args.stamp _ _ owner.owns c.place-word.ensures c.word-offered.ensures c.word-withdrawn.ensures
          c.requires.number.0 c.requires.number.1 c.requires.open.0 stamp.0 c.requires.stamp.0 c.requires.stamp.1),
    )
