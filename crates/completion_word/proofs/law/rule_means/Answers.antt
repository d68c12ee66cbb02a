use Rattle.completion_word.proofs.Allowed.{word_shows}
use Rattle.completion_word.proofs.Laws.{never_both, passed_is_withdrawn, used_again}
use Rattle.completion_word.proofs.law.rule_means.Goals as goal

pub returns-clause-never_both : goal.returns-clause-never_both
returns-clause-never_both c = λ places s h k t l is. never_both places h.owner h.peer k t h.agreed l is

pub returns-clause-passed : goal.returns-clause-passed
returns-clause-passed c = λ places s h k t l is. passed_is_withdrawn places h.owner h.peer k t h.agreed l is

pub returns-clause-used_again : goal.returns-clause-used_again
returns-clause-used_again c = λ places s h room again. used_again places h.owner h.peer h.agreed room again

pub returns-clause-shown : goal.returns-clause-shown
returns-clause-shown c = λ places s h k low high. word_shows places s.words h.owner h.peer k h.words h.agreed low high
