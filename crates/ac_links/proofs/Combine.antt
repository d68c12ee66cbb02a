-- How the link that two views make changes with them: one more offer, a change of one offer, one more decision.
-- By induction on the two views. The front of that link is the number of decisions, and how far it is known is the owner's lead.
use Rattle.std.proofs.Common.{◌≡◌, ℕ, zero, suc, ◌≤◌, List, [], ◌∷◌, ◌++◌, Option, Some, None, cond, refl, ap, ◌∙◌, subst, arith, length}
use Rattle.std.specs.Prelude.{slice_get, is_some}
use Rattle.ac_links.specs.declared.offer.LinkOffer.{LinkOffer}
use Rattle.ac_links.specs.Payloads.{Taking}
use Rattle.ac_links.specs.Link.{front_of, known_lead, changed}
use Rattle.ac_links.specs.Views.{OwnerOffer, PeerDecision, owner_lead, altered}
use Rattle.ac_links.specs.Combined.{link_offer_of, combine}

changed_cons : (p : LinkOffer) (ps : List LinkOffer) (n : ℕ) (f : LinkOffer → LinkOffer) (q : Option LinkOffer) → changed (p ∷ ps) (suc n) f q ≡ p ∷ changed ps n f q
changed_cons p ps n f None = refl
changed_cons p ps n f (Some o) = refl

pub changed_is : (ps : List LinkOffer) (n : ℕ) (f : LinkOffer → LinkOffer) → changed ps n f (slice_get ps n) ≡ altered ps n f
changed_is [] n f = refl
changed_is (p ∷ ps) zero f = refl
changed_is (p ∷ ps) (suc n) f = changed_cons p ps n f (slice_get ps n) ∙ ap (λ r. p ∷ r) (changed_is ps n f)

pub length_combine : (os : List OwnerOffer) (ds : List PeerDecision) → length (combine os ds) ≡ length os
length_combine [] ds = refl
length_combine (o ∷ os) [] = ap suc (length_combine os [])
length_combine (o ∷ os) (d ∷ ds) = ap suc (length_combine os ds)

pub lead_combine : (os : List OwnerOffer) (ds : List PeerDecision) → known_lead (combine os ds) ≡ owner_lead os
lead_combine [] ds = refl
lead_combine (o ∷ os) [] = ap (λ r. cond (is_some o.known) (suc r) 0) (lead_combine os [])
lead_combine (o ∷ os) (d ∷ ds) = ap (λ r. cond (is_some o.known) (suc r) 0) (lead_combine os ds)

pub get_combine : (os : List OwnerOffer) (ds : List PeerDecision) (n : ℕ) (o : OwnerOffer) → slice_get os n ≡ Some o → slice_get (combine os ds) n ≡ Some (link_offer_of o (slice_get ds n))
get_combine [] ds n o h = cc
get_combine (x ∷ os) [] zero o h = let e : x ≡ o = cc in ap (λ y. Some (link_offer_of y None)) e
get_combine (x ∷ os) [] (suc n) o h = get_combine os [] n o h
get_combine (x ∷ os) (d ∷ ds) zero o h = let e : x ≡ o = cc in ap (λ y. Some (link_offer_of y (Some d))) e
get_combine (x ∷ os) (d ∷ ds) (suc n) o h = get_combine os ds n o h

-- the owner changes what it knows of one offer
pub altered_combine : (os : List OwnerOffer) (ds : List PeerDecision) (n : ℕ) (f : LinkOffer → LinkOffer) (g : OwnerOffer → OwnerOffer)
    → ((o : OwnerOffer) → f (link_offer_of o (slice_get ds n)) ≡ link_offer_of (g o) (slice_get ds n))
    → altered (combine os ds) n f ≡ combine (altered os n g) ds
altered_combine [] ds n f g h = refl
altered_combine (o ∷ os) [] zero f g h = ap (λ p. p ∷ combine os []) (h o)
altered_combine (o ∷ os) [] (suc n) f g h = ap (λ r. link_offer_of o None ∷ r) (altered_combine os [] n f g h)
altered_combine (o ∷ os) (d ∷ ds) zero f g h = ap (λ p. p ∷ combine os ds) (h o)
altered_combine (o ∷ os) (d ∷ ds) (suc n) f g h = ap (λ r. link_offer_of o (Some d) ∷ r) (altered_combine os ds n f g h)

-- the peer decides the next
pub decide_combine : (os : List OwnerOffer) (ds : List PeerDecision) (d : PeerDecision) (o : OwnerOffer) (f : LinkOffer → LinkOffer) → slice_get os (length ds) ≡ Some o
    → f (link_offer_of o None) ≡ link_offer_of o (Some d)
    → altered (combine os ds) (length ds) f ≡ combine os (ds ++ d ∷ [])
decide_combine [] ds d o f h e = cc
decide_combine (x ∷ os) [] d o f h e = let q : o ≡ x = cc in subst (λ y. f (link_offer_of y None) ∷ combine os [] ≡ link_offer_of y (Some d) ∷ combine os []) q (ap (λ p. p ∷ combine os []) e)
decide_combine (x ∷ os) (b ∷ ds) d o f h e = ap (λ r. link_offer_of x (Some b) ∷ r) (decide_combine os ds d o f h e)

pub push_combine : (os : List OwnerOffer) (ds : List PeerDecision) (o : OwnerOffer) → length ds ≤ length os → combine (os ++ o ∷ []) ds ≡ combine os ds ++ link_offer_of o None ∷ []
push_combine [] [] o h = refl
push_combine [] (d ∷ ds) o h = absurd (omega arith)
push_combine (x ∷ os) [] o h = ap (λ r. link_offer_of x None ∷ r) (push_combine os [] o (omega arith))
push_combine (x ∷ os) (d ∷ ds) o h = ap (λ r. link_offer_of x (Some d) ∷ r) (push_combine os ds o (omega arith))

front_open : (o : OwnerOffer) (w : Option ℕ) → o.withdrawn ≡ w → (os : List OwnerOffer) → front_of (combine (o ∷ os) []) ≡ 0
front_open o None e os = rw e
front_open o (Some w) e os = rw e

front_next : (x : OwnerOffer) (d : PeerDecision) (v : Option Taking) → d.value ≡ v → (ps : List LinkOffer) (n : ℕ) → front_of ps ≡ n → front_of (link_offer_of x (Some d) ∷ ps) ≡ suc n
front_next x d None e ps n h = rw e (ap suc h)
front_next x d (Some v) e ps n h = rw e (ap suc h)

pub front_combine : (os : List OwnerOffer) (ds : List PeerDecision) → length ds ≤ length os → front_of (combine os ds) ≡ length ds
front_combine [] [] h = refl
front_combine [] (d ∷ ds) h = absurd (omega arith)
front_combine (o ∷ os) [] h = front_open o o.withdrawn refl os
front_combine (o ∷ os) (d ∷ ds) h = front_next o d d.value refl (combine os ds) (length ds) (front_combine os ds (omega arith))
