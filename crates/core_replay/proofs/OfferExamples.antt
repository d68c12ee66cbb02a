-- What entries make of offers, worked out by hand: a first offer on link 1, its withdrawal, and its room given back; and that each step
-- changes one link and one offer alone.
use Rattle.std.proofs.Common.{◌≡◌, ℕ, zero, suc, [], ◌∷◌, Bool, true, false, refl, sym, ap, pos, arith}
use Rattle.std.specs.Prelude.{slice_index, nat_eq, if◌then◌else◌}
use Rattle.std.proofs.lemmas.Bool.{eqb-true}
use Rattle.std.specs.List.{list_any}
use Rattle.ac_base.specs.declared.entry.Entry.{Entry}
use Rattle.ac_base.specs.declared.entry.Event.{Event}
use Rattle.ac_base.specs.declared.entry.Event.TheVariants as e
use Rattle.ac_base.specs.declared.entry.Payload.TheVariants as p
use Rattle.core_state.specs.Arrivals.{is_room}
use Rattle.core_replay.specs.declared.own_offers.OfferName.{OfferName}
use Rattle.core_replay.specs.Offering.{Offers, is_of, counted, AreOffersOf}
use Rattle.core_replay.proofs.OfferEntries.{offer_counts, withdrawal_keeps, room_gives}

abbrev entry : ℕ → Event → Entry
entry stamp event = record { stamp = stamp; turn = 1; event = event }

abbrev none : Offers
none = record { counts = []; kept = [] }

-- one offer was made on link 1, and none on link 0
abbrev one : Offers
one = record { counts = 0 ∷ 1 ∷ []; kept = [] }

abbrev the_offer : OfferName
the_offer = record { link = 1; number = 0 }

abbrev kept : Offers
kept = record { counts = 0 ∷ 1 ∷ []; kept = the_offer ∷ [] }

pub one_offer : (is_of 1 0 the_offer ≡ true) × ((is_of 0 0 the_offer ≡ false) × ((is_of 1 1 the_offer ≡ false) × ((counted 1 1 4 ≡ 5) × (counted 1 0 4 ≡ 4))))
one_offer = (refl, (refl, (refl, (refl, refl))))

pub nothing_offered : AreOffersOf [] none
nothing_offered = record { count = λ link. refl; keep = λ link number. refl }

-- ---- entry by entry

abbrev offer : Entry
offer = entry 1 (e.Offer 1 0 (p.Int (pos 5 ∷ [])))

abbrev withdrawal : Entry
withdrawal = entry 2 (e.Withdraw 1 0)

abbrev room : Entry
room = entry 4 (e.Room 1 0)

differs : (l : ℕ) → nat_eq 1 (suc (suc l)) ≡ false
differs l = by (nat_eq 1 (suc (suc l))) refl
  where
    by : (b : Bool) → nat_eq 1 (suc (suc l)) ≡ b → nat_eq 1 (suc (suc l)) ≡ false
    by false h = h
    by true h = let same : 1 ≡ suc (suc l) = eqb-true 1 (suc (suc l)) h in absurd (omega (arith, same))

counts_one : (l : ℕ) → slice_index one.counts l ≡ counted 1 l (slice_index none.counts l)
counts_one zero = refl
counts_one (suc zero) = refl
counts_one (suc (suc l)) = ap (λ (b : Bool). if b then 1 else 0) (sym (differs l))

no_room_yet : (l n : ℕ) → list_any (λ (f : Entry). is_room l n f.event) (offer ∷ []) ≡ false
no_room_yet l n = refl

pub after_an_offer : AreOffersOf (offer ∷ []) one
after_an_offer = offer_counts [] none one 1 offer nothing_offered (λ l. refl) (λ l n. (refl, refl)) counts_one refl

pub after_its_withdrawal : AreOffersOf (offer ∷ withdrawal ∷ []) kept
after_its_withdrawal = withdrawal_keeps (offer ∷ []) one kept 1 0 withdrawal after_an_offer (λ l. refl) (λ l n. (refl, refl)) (λ l n same. no_room_yet l n) refl refl

pub after_its_room : AreOffersOf (offer ∷ withdrawal ∷ room ∷ []) one
after_its_room = room_gives (offer ∷ withdrawal ∷ []) kept one 1 0 room after_its_withdrawal (λ l. refl) (λ l n. (refl, refl)) refl refl
