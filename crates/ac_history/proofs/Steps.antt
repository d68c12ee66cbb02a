-- Where what is left of a history by link and by party is right, each entry of it fits.
-- By induction on the entries, with `Good` as the invariant: the first entry fits by its own link and party, and changes only what is kept of these two.
use Rattle.std.proofs.Common.{◌≡◌, ℕ, ◌<◌, List, [], ◌∷◌, ◌++◌, Option, Bool, true, cond, ◌&&◌, refl, sym, ap, ◌∙◌, subst, inl, inr, arith, length, get_or, set}
use Rattle.std.specs.Prelude.{◌==◌, nat_lt}
use Rattle.std.specs.List.{filter, AllByRecursion}
use Rattle.std.proofs.lemmas.Bool.Decides.{nat_tests, eqb_tells}
use Rattle.std.proofs.lemmas.List.{get_or-set_same, get_or-set_other, length-set}
use Rattle.ac_base.specs.declared.entry.Payload.{Payload}
use Rattle.ac_base.specs.declared.entry.Event.{Event}
use Rattle.ac_base.specs.declared.entry.Stamped.{Stamped}
use Rattle.ac_base.specs.Stamps.{next_stamp}
use Rattle.ac_links.specs.Link.{link_fits, answered, link_after, link_of}
use Rattle.ac_links.specs.Order.{is_of_link}
use Rattle.ac_links.specs.Journals.{LinkAgrees}
use Rattle.ac_history.specs.History.{Past, is_later, has_stamp, in_range, terms_of, may_make, has_its_width, fits, after, IsLegal}
use Rattle.ac_history.specs.Files.{deed_of, deeds, deeds_by}
use Rattle.ac_history.specs.Agreement.{AllMade, AllOfTheirWidth}
use Rattle.ac_history.proofs.Parts.{is_of_party, IsRising}

-- the stamps of the entries of one party
abbrev pub PartyStamps : (Event → ℕ) → ℕ → List Stamped → Type 0
PartyStamps seen last [] = Unit {0}
PartyStamps seen last (e ∷ es) = (e.entry.stamp ≡ next_stamp last (seen e.entry.event)) × PartyStamps seen e.entry.stamp es

abbrev pub Placed : ℕ → ℕ → List Stamped → Type 0
Placed links parties = AllByRecursion (λ e. (link_of e.entry.event < links) × (e.party < parties))

eq_true : (m n : ℕ) → m ≡ n → (m == n) ≡ true
eq_true m n h = grind (arith, nat_tests)

lt_true : (m n : ℕ) → m < n → nat_lt m n ≡ true
lt_true m n h = grind (arith, nat_tests)

six : (a b c d e f : Bool) → a ≡ true → b ≡ true → c ≡ true → d ≡ true → e ≡ true → f ≡ true → a && b && c && d && e && f ≡ true
six a b c d e f p q r s t u = rw (p, q, r, s, t, u)

module _ (seen : Event → ℕ) (asks : Event → Option Payload) where
  pub record Good (past : Past) (es : List Stamped) : Type 0 where
    pub placed : Placed (length past.links) (length past.lasts) es
    pub made : AllMade past.channels past.cores es
    pub rising : IsRising past.stamp past.party es
    pub links : (l : ℕ) → LinkAgrees seen asks (terms_of past.capacities past.channels l) (get_or past.links l []) (filter (is_of_link l) es)
    pub stamps : (p : ℕ) → PartyStamps seen (get_or past.lasts p 0) (filter (is_of_party p) es)

  -- what is known of the first entry's own link and party
  link_of_first : (past : Past) (e : Stamped) (es : List Stamped) → Good past (e ∷ es)
      → LinkAgrees seen asks (terms_of past.capacities past.channels (link_of e.entry.event)) (get_or past.links (link_of e.entry.event) []) (e ∷ filter (is_of_link (link_of e.entry.event)) es)
  link_of_first past e es g = let l = link_of e.entry.event in
      subst (λ b. LinkAgrees seen asks (terms_of past.capacities past.channels l) (get_or past.links l []) (cond b (e ∷ filter (is_of_link l) es) (filter (is_of_link l) es))) (eq_true l l refl)
      (g.links l)

  party_of_first : (past : Past) (e : Stamped) (es : List Stamped) → Good past (e ∷ es)
      → PartyStamps seen (get_or past.lasts e.party 0) (e ∷ filter (is_of_party e.party) es)
  party_of_first past e es g = let p = e.party in
      subst (λ b. PartyStamps seen (get_or past.lasts p 0) (cond b (e ∷ filter (is_of_party p) es) (filter (is_of_party p) es))) (eq_true p p refl) (g.stamps p)

  fits_first : (past : Past) (e : Stamped) (es : List Stamped) → Good past (e ∷ es) → has_its_width past.widths e.entry.event ≡ true → fits past e ≡ true
  fits_first past e es g wide =
      let l = link_of e.entry.event in
      let own = link_of_first past e es g in
      let mine = party_of_first past e es g in
      let at : e.entry.stamp ≡ next_stamp (get_or past.lasts e.party 0) (answered (get_or past.links l []) e.entry.event) = mine.0 ∙ ap (next_stamp (get_or past.lasts e.party 0)) own.1 in
      six (in_range past e) (is_later past.stamp past.party e) (has_stamp past e) (may_make past.channels past.cores e) (has_its_width past.widths e.entry.event)
      (link_fits (terms_of past.capacities past.channels l) (get_or past.links l []) e.entry.event)
      (let a : nat_lt l (length past.links) ≡ true = lt_true _ _ g.placed.0.0 in let b : nat_lt e.party (length past.lasts) ≡ true = lt_true _ _ g.placed.0.1 in rw (a, b))
      g.rising.0 (eq_true _ _ at) g.made.0 wide own.0

  links_after : (past : Past) (e : Stamped) (es : List Stamped) → Good past (e ∷ es) → (l : ℕ)
      → LinkAgrees seen asks (terms_of past.capacities past.channels l) (get_or (after past e).links l []) (filter (is_of_link l) es)
  links_after past e es g l =
      let o = link_of e.entry.event in
      let new = link_after (get_or past.links o []) e.entry.stamp e.entry.event in
      elim (eqb_tells o l) [
        | inl w ↦ subst (λ k. LinkAgrees seen asks (terms_of past.capacities past.channels k) (get_or (set past.links o new) k []) (filter (is_of_link k) es)) w.1
            (subst (λ os. LinkAgrees seen asks (terms_of past.capacities past.channels o) os (filter (is_of_link o) es)) (sym (get_or-set_same past.links o new [] g.placed.0.0))
            (link_of_first past e es g).3)
        | inr w ↦ subst (λ os. LinkAgrees seen asks (terms_of past.capacities past.channels l) os (filter (is_of_link l) es)) (sym (get_or-set_other past.links o l new [] (λ q. w.1 (sym q))))
            (subst (λ b. LinkAgrees seen asks (terms_of past.capacities past.channels l) (get_or past.links l []) (cond b (e ∷ filter (is_of_link l) es) (filter (is_of_link l) es))) w.0 (g.links l))
      ]

  stamps_after : (past : Past) (e : Stamped) (es : List Stamped) → Good past (e ∷ es) → (p : ℕ)
      → PartyStamps seen (get_or (after past e).lasts p 0) (filter (is_of_party p) es)
  stamps_after past e es g p =
      elim (eqb_tells e.party p) [
        | inl w ↦ subst (λ k. PartyStamps seen (get_or (set past.lasts e.party e.entry.stamp) k 0) (filter (is_of_party k) es)) w.1
            (subst (λ n. PartyStamps seen n (filter (is_of_party e.party) es)) (sym (get_or-set_same past.lasts e.party e.entry.stamp 0 g.placed.0.1)) (party_of_first past e es g).1)
        | inr w ↦ subst (λ n. PartyStamps seen n (filter (is_of_party p) es)) (sym (get_or-set_other past.lasts e.party p e.entry.stamp 0 (λ q. w.1 (sym q))))
            (subst (λ b. PartyStamps seen (get_or past.lasts p 0) (cond b (e ∷ filter (is_of_party p) es) (filter (is_of_party p) es))) w.0 (g.stamps p))
      ]

  good_after : (past : Past) (e : Stamped) (es : List Stamped) → Good past (e ∷ es) → Good (after past e) es
  good_after past e es g = record {
    placed = subst (λ n. Placed n (length (after past e).lasts) es) (sym (length-set past.links _ _)) (subst (λ n. Placed (length past.links) n es) (sym (length-set past.lasts _ _)) g.placed.1);
    made = g.made.1;
    rising = g.rising.1;
    links = links_after past e es g;
    stamps = stamps_after past e es g;
  }

  -- from what each link and each party shows by itself
  pub legal_from : (past : Past) (es : List Stamped) → Good past es → AllOfTheirWidth past.widths es → IsLegal past es
  legal_from past [] g wide = tt
  legal_from past (e ∷ es) g wide = (fits_first past e es g wide.0, legal_from (after past e) es (good_after past e es g) wide.1)

  -- what is done in the history, and `paid` tells the same
  pub deeds_from : (past : Past) (es : List Stamped) → Good past es → deeds past es ≡ deeds_by asks es
  deeds_from past [] g = refl
  deeds_from past (e ∷ es) g =
      ap (λ q. deed_of q e.entry.event ++ deeds (after past e) es) (sym (link_of_first past e es g).2)
      ∙ ap (λ r. deed_of (asks e.entry.event) e.entry.event ++ r) (deeds_from (after past e) es (good_after past e es g))
