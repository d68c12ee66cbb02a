use Rattle.std.proofs.Common.{rules}
use Rattle.std.proofs.lemmas.List.{take-replicate}
use Rattle.completion_word.specs.Link.{new_owner, new_peer}
use Rattle.completion_word.proofs.Sides.{opens, splits}
use Rattle.completion_word.proofs.words.Words.make.Goals as goal

pub of_words-requires : goal.of_words-requires
of_words-requires c = opens c.args.places _ c.requires.0 (take-replicate c.args.places 64 0 c.requires.1)

pub split_seat-other-requires : goal.split_seat-other-requires
split_seat-other-requires c = (search rules, search rules, splits _ _ _ new_owner new_peer (search rules))
