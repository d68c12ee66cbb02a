-- What an owner has heard of each offer, after each step on the words.
use Rattle.std.proofs.Common.{◌≡◌, ℕ, ◌<◌, ◌≤◌, [], ◌∷◌, ◌++◌, Some, None, cond, refl, sym, ap, ◌∙◌, arith, length}
use Rattle.std.proofs.Common.{nat_lt, ⊎_elim, length-append}
use Rattle.std.proofs.lemmas.List.{get_or_append_left, get_or_push}
use Rattle.completion_word.specs.declared.views.Owner.{Owner}
use Rattle.completion_word.specs.declared.views.Offer.{Offer}
use Rattle.completion_word.specs.declared.views.DecisionKind.{DecisionKind}
use Rattle.completion_word.specs.declared.views.DecisionKind.TheVariants as outcome
use Rattle.completion_word.specs.Link.{offer, offer_at, outcome_at}
use Rattle.completion_word.specs.Steps.{after_post}
use Rattle.channel_ends.specs.Settled.{stamp_of}
use Rattle.channel_ends.specs.inner.Noted.{heard_at}
use Rattle.channel_ends.proofs.Lists.{is_less, is_not_less, differs}

-- of a learned offer its outcome, and of another what a withdrawal found
pub heard_learned : (o : Owner) (k : ℕ) → k < length o.learned → heard_at o k ≡ Some (stamp_of (outcome_at o.learned k))
heard_learned o k l = ap (λ b. cond b (Some (stamp_of (outcome_at o.learned k))) (offer_at o.offers k).found_taken) (is_less k (length o.learned) l)

pub heard_found : (o : Owner) (k : ℕ) → length o.learned ≤ k → heard_at o k ≡ (offer_at o.offers k).found_taken
heard_found o k l = ap (λ b. cond b (Some (stamp_of (outcome_at o.learned k))) (offer_at o.offers k).found_taken) (is_not_less k (length o.learned) l)

-- ---- post

pub heard_posted : (o : Owner) (t k : ℕ) → k < length o.offers → heard_at (after_post t o) k ≡ heard_at o k
heard_posted o t k l =
    ap (λ (x : Offer). cond (nat_lt k (length o.learned)) (Some (stamp_of (outcome_at o.learned k))) x.found_taken) (get_or_append_left o.offers (offer t ∷ []) (offer 0) k l)

pub heard_of_new : (o : Owner) (t : ℕ) → length o.learned ≤ length o.offers → heard_at (after_post t o) (length o.offers) ≡ None
heard_of_new o t l =
    heard_found (after_post t o) (length o.offers) l ∙ ap (λ (x : Offer). x.found_taken) (get_or_push o.offers (offer t) (offer 0) (length o.offers) refl)

-- ---- learn

-- one more is learned, with this stamp; of no other was anything heard
pub heard_more : (o o' : Owner) (d : DecisionKind) (k : ℕ) → o'.offers ≡ o.offers → o'.learned ≡ o.learned ++ d ∷ [] → (k ≡ length o.learned → ⊥) → heard_at o' k ≡ heard_at o k
heard_more o o' d k same more ne =
    ⊎_elim
    (λ (l : k < length o.learned).
    let l' : k < length o'.learned = omega (arith, ap length more, length-append o.learned (d ∷ [])) in
    heard_learned o' k l' ∙ ap (λ x. Some (stamp_of x)) (ap (λ xs. outcome_at xs k) more ∙ get_or_append_left o.learned (d ∷ []) (outcome.Taken 0) k l) ∙ sym (heard_learned o k l))
    (λ (l : length o.learned < k).
    let l' : length o'.learned ≤ k = omega (arith, ap length more, length-append o.learned (d ∷ [])) in
    heard_found o' k l' ∙ ap (λ xs. (offer_at xs k).found_taken) same ∙ sym (heard_found o k (omega arith)))
    (differs k (length o.learned) ne)

pub heard_last : (o o' : Owner) (d : DecisionKind) → o'.learned ≡ o.learned ++ d ∷ [] → heard_at o' (length o.learned) ≡ Some (stamp_of d)
heard_last o o' d more =
    let l : length o.learned < length o'.learned = omega (arith, ap length more, length-append o.learned (d ∷ [])) in
    heard_learned o' (length o.learned) l ∙ ap (λ x. Some (stamp_of x)) (ap (λ xs. outcome_at xs (length o.learned)) more ∙ get_or_push o.learned d (outcome.Taken 0) (length o.learned) refl)
