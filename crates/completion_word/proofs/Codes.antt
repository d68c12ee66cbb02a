-- What a word says is what was written into it: a number below 8 beside 8 times a stamp gives both back. So what a load tells and what a look
-- shows is read off the standing that the word rule says the word has.
use Rattle.std.proofs.Common.{◌≡◌, ◌≢◌, ℕ, ◌+◌, ◌*◌, ◌/◌, ◌%◌, List, [], ◌∷◌, ◌++◌, Option, Some, None, refl, sym, ap, ◌∙◌, subst, arith}
use Rattle.completion_word.specs.declared.answers.Learnt.TheVariants as learnt
use Rattle.completion_word.specs.declared.answers.Look.TheVariants as look
use Rattle.completion_word.specs.declared.standing.Standing.{Standing}
use Rattle.completion_word.specs.declared.standing.Standing.TheVariants.{Unused, Offered, Withdrawn, Taken, Passed}
use Rattle.completion_word.specs.declared.views.DecisionKind.{DecisionKind}
use Rattle.completion_word.specs.declared.views.DecisionKind.TheVariants as outcome
use Rattle.completion_word.specs.declared.views.Decision.{Decision}
use Rattle.completion_word.specs.Link.{code, standing_by, standing_of, stamp_in, open_by, decided_by, decided_standing, Answered}
use Rattle.completion_word.specs.Steps.{learnt_of, look_of, with_learnt, Shows}

pub standing-code : (s : Standing) → standing_of (code s) ≡ s
standing-code Unused = refl
standing-code (Offered t) = let n = 8 * t + 1 in let kind : n % 8 ≡ 1 = omega arith in let stamp : n / 8 ≡ t = omega arith in λ i. standing_by (kind i) (stamp i)
standing-code (Withdrawn t) = let n = 8 * t + 2 in let kind : n % 8 ≡ 2 = omega arith in let stamp : n / 8 ≡ t = omega arith in λ i. standing_by (kind i) (stamp i)
standing-code (Taken t) = let n = 8 * t + 3 in let kind : n % 8 ≡ 3 = omega arith in let stamp : n / 8 ≡ t = omega arith in λ i. standing_by (kind i) (stamp i)
standing-code (Passed t) = let n = 8 * t + 4 in let kind : n % 8 ≡ 4 = omega arith in let stamp : n / 8 ≡ t = omega arith in λ i. standing_by (kind i) (stamp i)

-- a word in which this was written
pub standing_is : (word : ℕ) (s : Standing) → word ≡ code s → standing_of word ≡ s
standing_is word s e = ap standing_of e ∙ standing-code s

pub stamp-offered : (t : ℕ) → stamp_in (code (Offered t)) ≡ t
stamp-offered t = omega arith

pub stamp-withdrawn : (t : ℕ) → stamp_in (code (Withdrawn t)) ≡ t
stamp-withdrawn t = omega arith

pub stamp-taken : (t : ℕ) → stamp_in (code (Taken t)) ≡ t
stamp-taken t = omega arith

pub stamp-passed : (t : ℕ) → stamp_in (code (Passed t)) ≡ t
stamp-passed t = omega arith

pub withdrawn_not_offered : (w t : ℕ) → code (Withdrawn w) ≢ code (Offered t)
withdrawn_not_offered w t e = omega arith

pub taken_not_offered : (u t : ℕ) → code (Taken u) ≢ code (Offered t)
taken_not_offered u t e = omega arith

-- a load sees a decision where there is one, and none where there is none
pub learnt-open : (stamp : ℕ) (w : Option ℕ) → learnt_of (open_by stamp w) ≡ learnt.Undecided
learnt-open stamp None = refl
learnt-open stamp (Some w) = refl

pub with_learnt-decided : (how : DecisionKind) (learned : List DecisionKind) → with_learnt (learnt_of (decided_by how)) learned ≡ learned ++ how ∷ []
with_learnt-decided (outcome.Taken t) learned = refl
with_learnt-decided (outcome.Passed t) learned = refl

-- an offer that is not decided shows as its owner left it
pub shows-open : (stamp : ℕ) (w : Option ℕ) → Shows stamp w (open_by stamp w)
shows-open stamp None = (refl, refl)
shows-open stamp (Some w) = refl

-- and else as it was decided
pub shows-decided : (stamp : ℕ) (w : Option ℕ) (d : Decision) → Answered stamp w d → Shows stamp w (decided_standing d)
shows-decided stamp None d h = subst (λ (e : Decision). Shows stamp None (decided_standing e)) (sym h.2) (refl, h.1)
shows-decided stamp (Some w) d h = subst (λ (e : Decision). Shows stamp (Some w) (decided_standing e)) (sym h.2) (w, refl, h.1)

-- a look shows an offer that is not decided, and no decision
pub look-decided : (how : DecisionKind) → look_of (decided_by how) ≡ look.Nothing
look-decided (outcome.Taken t) = refl
look-decided (outcome.Passed t) = refl

pub look-open : (stamp : ℕ) (w : Option ℕ) → look_of (open_by stamp w) ≢ look.Nothing
look-open stamp None e = absurd (cc)
look-open stamp (Some w) e = absurd (cc)
