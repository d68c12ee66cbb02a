-- What stays true of looks, of notes and of what was told, as offers and decisions come. Offers only come or are withdrawn, decisions only
-- come; so what was true of a side at some moment is true of it ever after, and each fact goes along these two.
use Rattle.std.proofs.Common.{◌≡◌, ℕ, ◌<◌, ◌≤◌, List, [], ◌∷◌, ◌++◌, length, set, Option, Some, sym, refl, ap, ◌∙◌, arith, length-append, length-set, le_refl, append_assoc}
use Rattle.std.specs.Option.{ForSome}
use Rattle.std.proofs.lemmas.List.{append-nil, get_or_append_left}
use Rattle.completion_word.specs.declared.answers.Look.{Look}
use Rattle.completion_word.specs.declared.answers.Look.TheVariants as look
use Rattle.completion_word.specs.declared.views.Offer.{Offer}
use Rattle.completion_word.specs.declared.views.Decision.{Decision}
use Rattle.completion_word.specs.declared.views.Sighting.{Sighting}
use Rattle.completion_word.specs.declared.views.DecisionKind.TheVariants as outcome
use Rattle.completion_word.specs.Link.{offer, decision, offer_at, decision_at, IsTrueLook, StartsWith, IsPast, IsTold}
use Rattle.completion_word.proofs.Lists.{set_all}

-- the second offers are the first, as they were posted, and maybe withdrawn since, and maybe some more
pub record Grows (old new : List Offer) : Type 0 where
  pub more : length old ≤ length new
  pub same_stamps : (k : ℕ) → k < length old → (offer_at new k).stamp ≡ (offer_at old k).stamp
  pub same_withdrawals : (k : ℕ) → k < length old → ForSome (offer_at old k).withdrawn (λ w. (offer_at new k).withdrawn ≡ Some w)

pub grows_same : (offers : List Offer) → Grows offers offers
grows_same offers = record { more = le_refl (length offers); same_stamps = λ k l. refl; same_withdrawals = λ k l w is. is }

pub grows_push : (offers : List Offer) (x : Offer) → Grows offers (offers ++ x ∷ [])
grows_push offers x =
    let old : (k : ℕ) → k < length offers → offer_at (offers ++ x ∷ []) k ≡ offer_at offers k = λ k l. get_or_append_left offers (x ∷ []) (offer 0) k l in record {
      more = omega (arith, length-append offers (x ∷ []));
      same_stamps = λ k l. ap (λ (y : Offer). y.stamp) (old k l);
      same_withdrawals = λ k l w is. ap (λ (y : Offer). y.withdrawn) (old k l) ∙ is;
    }

pub grows_set : (offers : List Offer) (k : ℕ) (y : Offer) → y.stamp ≡ (offer_at offers k).stamp → ForSome (offer_at offers k).withdrawn (λ w. y.withdrawn ≡ Some w) → Grows offers (set offers k y)
grows_set offers k y stamp withdrawn =
    let inside : (j : ℕ) → j < length offers → j < length (set offers k y) = λ j l. omega (arith, length-set offers k y) in record {
      more = omega (arith, length-set offers k y);
      same_stamps = λ j l. set_all (λ i z. z.stamp ≡ (offer_at offers i).stamp) offers k y (offer 0) (λ i _ _. refl) (λ _. stamp) j (inside j l);
      same_withdrawals = λ j l. set_all (λ i z. ForSome (offer_at offers i).withdrawn (λ w. z.withdrawn ≡ Some w)) offers k y (offer 0) (λ i _ _ w is. is) (λ _. withdrawn) j (inside j l);
    }

-- a true look stays true
pub look_grows : (old new : List Offer) (k : ℕ) (seen : Look) → Grows old new → IsTrueLook old k seen → IsTrueLook new k seen
look_grows old new k (look.Offered t) g h = (omega (arith, h.0, g.more), g.same_stamps k h.0 ∙ h.1)
look_grows old new k (look.Withdrawn w) g h = (omega (arith, h.0, g.more), g.same_withdrawals k h.0 w h.1)
look_grows old new k look.Nothing g h = tt

pub starts_same : (decisions : List Decision) → StartsWith decisions decisions
starts_same decisions = ([], sym (append-nil decisions))

pub starts_push : (decisions : List Decision) (d : Decision) → StartsWith (decisions ++ d ∷ []) decisions
starts_push decisions d = (d ∷ [], refl)

pub starts_more : (first old new : List Decision) → StartsWith new old → StartsWith old first → StartsWith new first
starts_more first old new more h = (h.0 ++ more.0, more.1 ∙ (λ i. h.1 i ++ more.0) ∙ append_assoc first h.0 more.0)

-- what was true of a note of the peer stays true
pub past_grows : (told : List Decision) (seen : Option Sighting) (offers offers' : List Offer) (ds ds' : List Decision) → Grows offers offers' → StartsWith ds' ds → IsPast told seen offers ds
    → IsPast told seen offers' ds'
past_grows told seen offers offers' ds ds' g more h = record {
  first = starts_more told ds ds' more h.first;
  look_true = λ s is. look_grows offers offers' s.number s.look g (h.look_true s is);
}

pub starts-length : (decisions first : List Decision) → StartsWith decisions first → length first ≤ length decisions
starts-length decisions first h = omega (arith, length-append first h.0, ap length h.1)

pub told_grows : (told : List Decision) (seen : Option Sighting) (known : ℕ) (offers offers' : List Offer) (ds ds' : List Decision) → Grows offers offers' → StartsWith ds' ds
    → IsTold told seen known offers ds → IsTold told seen known offers' ds'
told_grows told seen known offers offers' ds ds' g more h = record { of_peer = past_grows told seen offers offers' ds ds' g more h.of_peer; of_owner = omega (arith, h.of_owner, g.more) }

-- a decision of a prefix is the decision of its number
pub starts-at : (decisions first : List Decision) (k : ℕ) → StartsWith decisions first → k < length first → decision_at decisions k ≡ decision_at first k
starts-at decisions first k h l = ap (λ (ds : List Decision). decision_at ds k) h.1 ∙ get_or_append_left first h.0 (decision (outcome.Taken 0) 0) k l
