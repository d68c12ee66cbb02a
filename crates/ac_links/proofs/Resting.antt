-- Where both sides of a link rest by their views, the link that these make has nothing for either. For `sides_at_rest_have_nothing`.
-- By induction on the two views, offer by offer: each decision is known and each reply was had.
use Rattle.std.proofs.Common.{◌≡◌, ℕ, suc, ◌≤◌, List, [], ◌∷◌, ◌++◌, Option, Some, None, Bool, true, false, not, ◌&&◌, cond, refl, arith, length}
use Rattle.std.specs.Prelude.{is_some, nat_lt}
use Rattle.std.specs.List.{AllByRecursion}
use Rattle.std.proofs.lemmas.Bool.Decides.{nat_tests}
use Rattle.ac_links.specs.declared.payloads.Terms.{Terms}
use Rattle.ac_links.specs.Payloads.{Taking}
use Rattle.ac_links.specs.Payloads.Taking.{Message, Done}
use Rattle.ac_links.specs.Link.{is_decided}
use Rattle.ac_links.specs.Views.{OwnerOffer, PeerDecision, Response, owner_lead, ViewsAgree}
use Rattle.ac_links.specs.Combined.{undecided_standing, decided_standing, decided_answer, combine}
use Rattle.ac_links.specs.Replies.{response_at, waiting_replies}
use Rattle.ac_links.specs.AtRest.{is_news, is_unreplied, OwnerHasNothing, PeerHasNothing, OwnerRests, PeerRests}
use Rattle.ac_links.proofs.Combine.{length_combine, lead_combine, front_combine}

and_not : (a b : Bool) → b ≡ true → a && not b ≡ false
and_not true true h = refl
and_not true false h = cc
and_not false b h = refl

-- ---- what the owner does not know

undecided_is_no_news : (w : Option ℕ) (b : Bool) → is_decided (undecided_standing w) && b ≡ false
undecided_is_no_news None b = refl
undecided_is_no_news (Some s) b = refl

none_decided : (os : List OwnerOffer) → AllByRecursion (λ o. is_news o ≡ false) (combine os [])
none_decided [] = tt
none_decided (o ∷ os) = (undecided_is_no_news o.withdrawn (not (is_some o.known)), none_decided os)

first_known : (b : Bool) (n k : ℕ) → suc n ≤ cond b (suc k) 0 → (b ≡ true) × (n ≤ k)
first_known true n k h = (refl, omega arith)
first_known false n k h = absurd (omega arith)

no_news : (os : List OwnerOffer) (ds : List PeerDecision) → length ds ≤ owner_lead os → AllByRecursion (λ o. is_news o ≡ false) (combine os ds)
no_news [] ds h = tt
no_news (o ∷ os) [] h = none_decided (o ∷ os)
no_news (o ∷ os) (d ∷ ds) h =
    let k = first_known (is_some o.known) (length ds) (owner_lead os) h in
    (and_not (is_decided (decided_standing d.value)) (is_some o.known) k.0, no_news os ds k.1)

-- ---- replies that it has not had

none_answered : (os : List OwnerOffer) → AllByRecursion (λ o. is_unreplied o ≡ false) (combine os [])
none_answered [] = tt
none_answered (o ∷ os) = (refl, none_answered os)

first_replied : (v : Option Taking) (s : ℕ) (b : Bool) (rest : List Response) → cond b rest (response_at s v ++ rest) ≡ [] → (is_some (decided_answer v) && not b ≡ false) × (rest ≡ [])
first_replied v s true rest h = (and_not (is_some (decided_answer v)) true refl, h)
first_replied None s false rest h = (refl, h)
first_replied (Some (Message value)) s false rest h = (refl, h)
first_replied (Some (Done answer)) s false rest h = cc

none_unreplied : (os : List OwnerOffer) (ds : List PeerDecision) → waiting_replies os ds ≡ [] → AllByRecursion (λ o. is_unreplied o ≡ false) (combine os ds)
none_unreplied [] ds h = tt
none_unreplied (o ∷ os) [] h = none_answered (o ∷ os)
none_unreplied (o ∷ os) (d ∷ ds) h =
    let r = first_replied d.value d.stamp (is_some o.reply) (waiting_replies os ds) h in
    (r.0, none_unreplied os ds r.1)

-- ---- both sides

pub owner_at_rest : (terms : Terms) (waits : Bool) (os : List OwnerOffer) (ds : List PeerDecision) → OwnerRests terms waits os ds → OwnerHasNothing terms waits (combine os ds)
owner_at_rest terms waits os ds r = record {
  known = no_news os ds r.known;
  replied = none_unreplied os ds r.replied;
  full = λ w. rw (length_combine os ds, lead_combine os ds) (r.full w);
}

decided_are_few : (os : List OwnerOffer) (ds : List PeerDecision) → ViewsAgree os ds → length ds ≤ length os
decided_are_few [] [] a = omega arith
decided_are_few [] (d ∷ ds) a = absurd a
decided_are_few (o ∷ os) [] a = omega arith
decided_are_few (o ∷ os) (d ∷ ds) a = let ih = decided_are_few os ds a.1 in omega arith

not_less : (m n : ℕ) → n ≤ m → nat_lt m n ≡ false
not_less m n h = grind (arith, nat_tests)

pub peer_at_rest : (waits : Bool) (os : List OwnerOffer) (ds : List PeerDecision) → ViewsAgree os ds → PeerRests waits os ds → PeerHasNothing waits (combine os ds)
peer_at_rest waits os ds a r = λ w. rw (front_combine os ds (decided_are_few os ds a), length_combine os ds) (not_less (length ds) (length os) (r w))
