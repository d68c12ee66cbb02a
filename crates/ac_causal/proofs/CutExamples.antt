-- Cuts of the small run: one that is closed, one that is open at the second offer, and counts that are none.
-- That a cut is closed is seen entry by entry: those inside answer nothing, and the others are not inside.
use Rattle.std.proofs.Common.{◌≡◌, ℕ, zero, suc, ◌<◌, ◌≤◌, List, [], ◌∷◌, Option, Some, None, true, false, refl, sym, ap, ◌∙◌, subst, arith}
use Rattle.std.specs.Prelude.{pos, slice_get, slice_index}
use Rattle.ac_base.specs.declared.entry.Payload.TheVariants.{Int}
use Rattle.ac_base.specs.declared.entry.Event.TheVariants.{Offer, Got, Know}
use Rattle.ac_base.specs.declared.entry.Stamped.{Stamped}
use Rattle.ac_history.proofs.Examples.{by}
use Rattle.ac_causal.specs.Before.{answers, Answers}
use Rattle.ac_causal.specs.Cuts.{made_by, IsCut, IsInside, IsClosed, IsOpenAt, IsCutAnswer}
use Rattle.ac_causal.specs.declared.cut.CutAnswer.TheVariants.{Closed, Open}
use Rattle.ac_causal.proofs.Examples.{entries}

pub two_of_its_first_four : made_by entries 1 4 ∷ made_by entries 1 1 ∷ made_by entries 2 6 ∷ [] ≡ 2 ∷ 0 ∷ 0 ∷ []
two_of_its_first_four = refl

one_each : (p : ℕ) → p < 3 → slice_index (1 ∷ 1 ∷ 0 ∷ []) p ≤ made_by entries p 6
one_each zero lt = omega arith
one_each (suc zero) lt = omega arith
one_each (suc (suc zero)) lt = omega arith
one_each (suc (suc (suc n))) lt = absurd (omega (arith, lt))

pub the_two_offers : IsCut entries 3 (1 ∷ 1 ∷ 0 ∷ [])
the_two_offers = record { so_many = refl; each = one_each }

pub more_than_there_are : IsCut entries 3 (4 ∷ 0 ∷ 0 ∷ []) → ⊥
more_than_there_are h = let le : 4 ≤ 3 = h.each 0 (omega arith) in omega (arith, le)

entry_of : (a b : Stamped) → Some a ≡ Some b → a ≡ b
entry_of a b h = cc

-- an entry is inside where its place among those of its party is below the count
module _ (counts : List ℕ) (i : ℕ) (e : Stamped) (is : slice_get entries i ≡ Some e) where
  pub place_of : IsInside entries counts i → made_by entries e.party i < slice_index counts e.party
  place_of h = subst (λ (x : Stamped). made_by entries x.party i < slice_index counts x.party) (entry_of h.entry e (sym h.there ∙ is)) h.first

pub the_first_offer_is_inside : IsInside entries (1 ∷ 1 ∷ 0 ∷ []) 0
the_first_offer_is_inside = record { entry = by 0 1 2 (Offer 0 0 (Int (pos 5 ∷ []))); there = refl; first = omega arith }

pub the_third_entry_is_not : IsInside entries (1 ∷ 1 ∷ 0 ∷ []) 2 → ⊥
the_third_entry_is_not h = let lt = place_of (1 ∷ 1 ∷ 0 ∷ []) 2 (by 0 2 2 (Got 1 0 (pos 6 ∷ []))) refl h in omega (arith, lt)

-- an offer answers nothing
offers_alone : (j : ℕ) (e : Stamped) → slice_get entries j ≡ Some e → ((x : Stamped) → answers e.entry.event x.entry.event ≡ false) → (i : ℕ) → Answers entries i j → ⊥
offers_alone j e is none i h =
    let b : e ≡ h.answering = entry_of _ _ (sym is ∙ h.answers_it) in
    let bad : false ≡ true = sym (none h.asking) ∙ ap (λ (x : Stamped). answers x.entry.event h.asking.entry.event) b ∙ h.answer in
    cc

closed_at : (i j : ℕ) → Answers entries i j → IsInside entries (1 ∷ 1 ∷ 0 ∷ []) j → IsInside entries (1 ∷ 1 ∷ 0 ∷ []) i
closed_at i zero a h = absurd (offers_alone 0 (by 0 1 2 (Offer 0 0 (Int (pos 5 ∷ [])))) refl (λ x. refl) i a)
closed_at i (suc zero) a h = absurd (offers_alone 1 (by 1 1 2 (Offer 1 0 (Int (pos 6 ∷ [])))) refl (λ x. refl) i a)
closed_at i (suc (suc zero)) a h = absurd (the_third_entry_is_not h)
closed_at i (suc (suc (suc zero))) a h = absurd (let lt = place_of (1 ∷ 1 ∷ 0 ∷ []) 3 (by 1 2 2 (Got 0 0 (pos 5 ∷ []))) refl h in omega (arith, lt))
closed_at i (suc (suc (suc (suc zero)))) a h = absurd (let lt = place_of (1 ∷ 1 ∷ 0 ∷ []) 4 (by 0 3 2 (Know 0 0)) refl h in omega (arith, lt))
closed_at i (suc (suc (suc (suc (suc zero))))) a h = absurd (let lt = place_of (1 ∷ 1 ∷ 0 ∷ []) 5 (by 1 3 2 (Know 1 0)) refl h in omega (arith, lt))
closed_at i (suc (suc (suc (suc (suc (suc n)))))) a h = let bad : ◌≡◌ {A = Option Stamped} None (Some h.entry) = h.there in absurd (cc)

pub nothing_is_open : IsCutAnswer entries (1 ∷ 1 ∷ 0 ∷ []) Closed
nothing_is_open = closed_at

pub they_are_closed : IsClosed entries (1 ∷ 1 ∷ 0 ∷ [])
they_are_closed = closed_at

-- the first core has taken the second's offer, which is not there
pub the_second_offer_is_outside : IsInside entries (2 ∷ 0 ∷ 0 ∷ []) 1 → ⊥
the_second_offer_is_outside h = let lt = place_of (2 ∷ 0 ∷ 0 ∷ []) 1 (by 1 1 2 (Offer 1 0 (Int (pos 6 ∷ [])))) refl h in omega (arith, lt)

abbrev pub its_offer_is_not_there : IsOpenAt entries (2 ∷ 0 ∷ 0 ∷ []) 1
its_offer_is_not_there = record {
  by = 2;
  answers = record {
    asking = by 1 1 2 (Offer 1 0 (Int (pos 6 ∷ [])));
    answering = by 0 2 2 (Got 1 0 (pos 6 ∷ []));
    asks = refl;
    answers_it = refl;
    answer = refl;
  };
  inside = record { entry = by 0 2 2 (Got 1 0 (pos 6 ∷ [])); there = refl; first = omega arith };
  outside = the_second_offer_is_outside;
}

not_before : (i : ℕ) → IsOpenAt entries (2 ∷ 0 ∷ 0 ∷ []) i → 1 ≤ i
not_before zero o = absurd (o.outside (record { entry = by 0 1 2 (Offer 0 0 (Int (pos 5 ∷ []))); there = refl; first = omega arith }))
not_before (suc i) o = omega arith

pub it_is_open_at_the_second_offer : IsCutAnswer entries (2 ∷ 0 ∷ 0 ∷ []) (Open 1)
it_is_open_at_the_second_offer = (its_offer_is_not_there, not_before)

pub it_is_not_closed : IsClosed entries (2 ∷ 0 ∷ 0 ∷ []) → ⊥
it_is_not_closed h = the_second_offer_is_outside (h 1 2 its_offer_is_not_there.answers its_offer_is_not_there.inside)
