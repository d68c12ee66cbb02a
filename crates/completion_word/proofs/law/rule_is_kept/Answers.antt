use Rattle.std.proofs.Common.{refl, replicate}
use Rattle.completion_word.specs.Link.{both_views, owner_view, peer_view}
use Rattle.completion_word.proofs.Allowed.{post_allowed, withdraw_allowed, learn_allowed, look_allowed, take_allowed, pass_allowed}
use Rattle.completion_word.proofs.Notes.{tells, takes_in, hear_owner_allowed, hear_peer_allowed, check_allowed}
use Rattle.completion_word.proofs.Sides.{opens, splits, joins}
use Rattle.completion_word.proofs.law.rule_is_kept.Goals as goal

pub returns-clause-begins : goal.returns-clause-begins
returns-clause-begins c = λ places some_place. opens places (replicate places 0) some_place refl

pub returns-clause-split : goal.returns-clause-split
returns-clause-split c = λ places id o p. splits places id (both_views o p) o p refl

pub returns-clause-post : goal.returns-clause-post
returns-clause-post c = λ places slots id o t room later small. post_allowed places slots id _ o _ _ t refl refl refl room later small

pub returns-clause-withdraw : goal.returns-clause-withdraw
returns-clause-withdraw c = λ places slots id o k u low high open_ later small.
    withdraw_allowed places slots id _ o k _ _ u _ _ refl refl refl refl low high open_.0 refl later small

pub returns-clause-learn : goal.returns-clause-learn
returns-clause-learn c = λ places slots id o some_left. learn_allowed places slots id _ o _ refl refl some_left

pub returns-clause-look : goal.returns-clause-look
returns-clause-look c = λ places slots id p. look_allowed places slots id _ p _ refl refl

pub returns-clause-take : goal.returns-clause-take
returns-clause-take c = λ places slots id p t u showed later. take_allowed places slots id _ p _ t u _ _ refl refl refl refl showed later

pub returns-clause-pass : goal.returns-clause-pass
returns-clause-pass c = λ places slots id p w u showed later. pass_allowed places slots id _ p _ w u _ refl refl refl showed later

pub returns-clause-join : goal.returns-clause-join
returns-clause-join c = λ places id other o p. joins places id other (owner_view o) (peer_view p) o p refl refl

pub returns-clause-note : goal.returns-clause-note
returns-clause-note c = λ places id v. tells places id v

pub returns-clause-note_join : goal.returns-clause-note_join
returns-clause-note_join c = λ places id other v w. takes_in places id other v w

pub returns-clause-told_peer : goal.returns-clause-told_peer
returns-clause-told_peer c = λ places slots id p n. hear_owner_allowed places slots id _ p n refl

pub returns-clause-told_owner : goal.returns-clause-told_owner
returns-clause-told_owner c = λ places slots id o n. hear_peer_allowed places slots id _ o n refl

pub returns-clause-check : goal.returns-clause-check
returns-clause-check c = λ places slots id o. check_allowed places slots id _ o refl
