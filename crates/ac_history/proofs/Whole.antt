-- From the entries of each link and each journal to the merged history. For `merged_is_legal`.
-- Leaving out entries and sorting by stamps may be exchanged, so the merged list has of each link and party what the journals have. Then Steps goes through it.
use Rattle.std.proofs.Common.{◌≡◌, ℕ, zero, suc, ◌+◌, ◌-◌, ◌<◌, ◌≤◌, List, [], ◌∷◌, ◌++◌, Option, Some, None, Bool, true, false, cond, refl, sym, ap, ◌∙◌, subst, arith, length, get_or}
use Rattle.std.specs.Prelude.{replicate, ◌==◌, nat_lt, nat_le}
use Rattle.std.specs.List.{filter, AllByRecursion}
use Rattle.std.proofs.lemmas.List.{length-replicate}
use Rattle.ac_base.specs.declared.entry.Payload.{Payload}
use Rattle.ac_base.specs.declared.entry.Event.{Event}
use Rattle.ac_base.specs.declared.entry.Event.TheVariants.{Offer, Withdraw, Know, Room, Got, Pass, Did, Reply}
use Rattle.ac_base.specs.declared.entry.Entry.{Entry}
use Rattle.ac_base.specs.declared.entry.Stamped.{Stamped}
use Rattle.ac_links.specs.Order.{in_order, of_party, stamp_of, is_of_link}
use Rattle.ac_links.specs.Link.{link_of}
use Rattle.ac_links.specs.Journals.{LinkAgrees, HasStamps}
use Rattle.ac_history.specs.Merged.{all_from, merged}
use Rattle.ac_history.specs.History.{IsLegal, terms_of, makes, may_make, start}
use Rattle.ac_history.specs.Files.{deed_of, deeds, deeds_by}
use Rattle.ac_history.specs.Agreement.{AllStamps, AllMade, AllOfTheirWidth, InRange, link_part}
use Rattle.ac_links.proofs.Sorting.{in_order_already, filter_in_order}
use Rattle.ac_links.proofs.Growth.{both_true}
use Rattle.ac_history.proofs.Parts.{is_of_party, filter_party, rises_party, stamps_at, each_in_order, each_append, rising_merged}
use Rattle.ac_history.proofs.Steps.{PartyStamps, Placed, Good, legal_from, deeds_from}

pub first_of_same : {X : Type 0} (n k : ℕ) (d : X) → get_or (replicate n d) k d ≡ d
first_of_same zero k d = refl
first_of_same (suc n) zero d = refl
first_of_same (suc n) (suc k) d = first_of_same n k d

party_stamps : (seen : Event → ℕ) (last p : ℕ) (es : List Entry) → HasStamps seen last es → PartyStamps seen last (of_party p es)
party_stamps seen last p [] h = tt
party_stamps seen last p (e ∷ es) h = (h.0, party_stamps seen e.stamp p es h.1)

below : (p n : ℕ) → p < n → (es : List Entry) → AllByRecursion (λ y. y.party < n) (of_party p es)
below p n h [] = tt
below p n h (e ∷ es) = (h, below p n h es)

parties : (p n : ℕ) (js : List (List Entry)) → p + length js ≤ n → AllByRecursion (λ y. y.party < n) (all_from p js)
parties p n [] h = tt
parties p n (j ∷ js) h = each_append _ (of_party p j) (all_from (suc p) js) (below p n (omega arith) j) (parties (suc p) n js (omega arith))

both : (links n : ℕ) (xs : List Stamped) → InRange links xs → AllByRecursion (λ y. y.party < n) xs → Placed links n xs
both links n [] a b = tt
both links n (x ∷ xs) a b = ((a.0, b.0), both links n xs a.1 b.1)

-- what is not made by the worker is no deed
no_deed : (q : Option Payload) (core requests : Bool) (e : Event) → makes core false requests e ≡ true → deed_of q e ≡ []
no_deed None core requests e h = refl
no_deed (Some p) core requests (Offer l n x) h = refl
no_deed (Some p) core requests (Withdraw l n) h = refl
no_deed (Some p) core requests (Know l n) h = refl
no_deed (Some p) core requests (Room l n) h = refl
no_deed (Some p) core requests (Got l n v) h = refl
no_deed (Some p) core requests (Pass l n) h = refl
no_deed (Some p) core requests (Did l n w) h = cc
no_deed (Some p) core requests (Reply l n w) h = refl

module _ (asks : Event → Option Payload) (channels cores : ℕ) where
  deed_at : (e : Stamped) (es : List Stamped) → may_make channels cores e ≡ true → (b : Bool) → is_of_party cores e ≡ b
      → deed_of (asks e.entry.event) e.entry.event ++ deeds_by asks es ≡ deeds_by asks (cond b (e ∷ es) es)
  deed_at e es h true w = refl
  deed_at e es h false w =
      let m = (both_true (makes (nat_lt e.party cores) (e.party == cores) (nat_le channels (link_of e.entry.event)) e.entry.event) _ h).0 in
      let m' = subst (λ b. makes (nat_lt e.party cores) b (nat_le channels (link_of e.entry.event)) e.entry.event ≡ true) w m in
      ap (λ r. r ++ deeds_by asks es) (no_deed (asks e.entry.event) (nat_lt e.party cores) (nat_le channels (link_of e.entry.event)) e.entry.event m')

  -- to leave out or put in entries of the cores changes no deed
  pub deeds_filter : (es : List Stamped) → AllMade channels cores es → deeds_by asks es ≡ deeds_by asks (filter (is_of_party cores) es)
  deeds_filter [] a = refl
  deeds_filter (e ∷ es) a = ap (λ r. deed_of (asks e.entry.event) e.entry.event ++ r) (deeds_filter es a.1) ∙ deed_at e (filter (is_of_party cores) es) a.0 (is_of_party cores e) refl

module _ (seen : Event → ℕ) (asks : Event → Option Payload) (capacities widths : List ℕ) (cores : ℕ) (js : List (List Entry)) (many : length js ≡ suc cores) (right : AllStamps seen js) where
  party_part : (p : ℕ) → filter (is_of_party p) (merged js) ≡ of_party p (get_or js p [])
  party_part p =
      let j = get_or js p [] in
      filter_in_order stamp_of (is_of_party p) (all_from 0 js) ∙ ap (in_order stamp_of) (filter_party p 0 p (omega arith) js)
      ∙ in_order_already stamp_of (of_party p j) (rises_party seen 0 p j (stamps_at seen js right p))

  stamps_of : (p : ℕ) → PartyStamps seen (get_or (replicate (suc cores) 0) p 0) (filter (is_of_party p) (merged js))
  stamps_of p =
      let j = get_or js p [] in
      subst (PartyStamps seen (get_or (replicate (suc cores) 0) p 0)) (sym (party_part p))
      (subst (λ n. PartyStamps seen n (of_party p j)) (sym (first_of_same (suc cores) p 0)) (party_stamps seen 0 p j (stamps_at seen js right p)))

  module _ (agrees : (l : ℕ) → LinkAgrees seen asks (terms_of capacities (length capacities - cores) l) [] (link_part l js)) (made : AllMade (length capacities - cores) cores (all_from 0 js))
      (range : InRange (length capacities) (all_from 0 js)) where
    made_merged : AllMade (length capacities - cores) cores (merged js)
    made_merged = each_in_order stamp_of _ (all_from 0 js) made

    good : Good seen asks (start capacities widths cores) (merged js)
    good = record {
      placed = subst (λ n. Placed n (length (start capacities widths cores).lasts) (merged js)) (sym (length-replicate (length capacities) []))
          (subst (λ n. Placed (length capacities) n (merged js)) (sym (length-replicate (suc cores) 0))
          (each_in_order stamp_of _ (all_from 0 js) (both (length capacities) (suc cores) (all_from 0 js) range (parties 0 (suc cores) js (omega arith)))));
      made = made_merged;
      rising = rising_merged seen js right;
      links = λ l. subst (LinkAgrees seen asks (terms_of capacities (length capacities - cores) l) (get_or (replicate (length capacities) []) l []))
          (sym (filter_in_order stamp_of (is_of_link l) (all_from 0 js)))
          (subst (λ os. LinkAgrees seen asks (terms_of capacities (length capacities - cores) l) os (link_part l js)) (sym (first_of_same (length capacities) l [])) (agrees l));
      stamps = stamps_of;
    }

    pub legal_merged : AllOfTheirWidth widths (all_from 0 js) → IsLegal (start capacities widths cores) (merged js)
    legal_merged wide = legal_from seen asks (start capacities widths cores) (merged js) good (each_in_order stamp_of _ (all_from 0 js) wide)

    -- the deeds of the merged history are those of the worker's journal
    pub deeds_merged : deeds (start capacities widths cores) (merged js) ≡ deeds_by asks (of_party cores (get_or js cores []))
    deeds_merged = deeds_from seen asks (start capacities widths cores) (merged js) good ∙ deeds_filter asks (length capacities - cores) cores (merged js) made_merged ∙ ap (deeds_by asks)
        (party_part cores)
