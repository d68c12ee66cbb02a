-- What the word rule means for an offer and for a word. All of it lies in one line of the rule: a decision answers its offer where that stands,
-- and its withdrawal where there is one.
use Rattle.std.proofs.Common.{◌≡◌, ℕ, ◌+◌, ◌-◌, ◌<◌, ◌≤◌, length, Option, Some, None, refl, sym, ap, arith}
use Rattle.completion_word.specs.declared.views.Decision.{Decision}
use Rattle.completion_word.specs.declared.views.Owner.{Owner}
use Rattle.completion_word.specs.declared.views.Peer.{Peer}
use Rattle.completion_word.specs.declared.views.DecisionKind.TheVariants as outcome
use Rattle.completion_word.specs.Link.{offer_at, decision_at, Answered, Agreed}

taken-open : (stamp : ℕ) (w : Option ℕ) (d : Decision) (t : ℕ) → Answered stamp w d → d.outcome ≡ outcome.Taken t → w ≡ None
taken-open stamp None d t h is = refl
taken-open stamp (Some w) d t h is = let how = ap (λ (e : Decision). e.outcome) h.2 in absurd (cc (how, is))

passed-withdrawn : (stamp : ℕ) (w : Option ℕ) (d : Decision) (t : ℕ) → Answered stamp w d → d.outcome ≡ outcome.Passed t → w ≡ Some d.answers
passed-withdrawn stamp None d t h is = let how = ap (λ (e : Decision). e.outcome) h.2 in absurd (cc (how, is))
passed-withdrawn stamp (Some w) d t h is = ap (λ (e : Decision). Some e.answers) (sym h.2)

-- an offer is never both taken and withdrawn
pub never_both : (places : ℕ) (o : Owner) (p : Peer) (k t : ℕ) → Agreed places o p → k < length p.decisions → (decision_at p.decisions k).outcome ≡ outcome.Taken t
    → (offer_at o.offers k).withdrawn ≡ None
never_both places o p k t h l is = taken-open (offer_at o.offers k).stamp (offer_at o.offers k).withdrawn (decision_at p.decisions k) t (h.answered k l) is

-- an offer that is passed by is withdrawn, with the stamp that the passing answers
pub passed_is_withdrawn : (places : ℕ) (o : Owner) (p : Peer) (k t : ℕ) → Agreed places o p → k < length p.decisions → (decision_at p.decisions k).outcome ≡ outcome.Passed t
    → (offer_at o.offers k).withdrawn ≡ Some (decision_at p.decisions k).answers
passed_is_withdrawn places o p k t h l is = passed-withdrawn (offer_at o.offers k).stamp (offer_at o.offers k).withdrawn (decision_at p.decisions k) t (h.answered k l) is

-- where there is room for a post, the earlier offer of its word is learned and decided
pub used_again : (places : ℕ) (o : Owner) (p : Peer) → Agreed places o p → length o.offers < length o.learned + places → places ≤ length o.offers
    → (length o.offers - places < length o.learned) × (length o.offers - places < length p.decisions)
used_again places o p h room again = let decided = h.learned_decided in (omega arith, omega arith)
