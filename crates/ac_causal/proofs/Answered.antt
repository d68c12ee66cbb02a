-- What an entry of a legal history answers: the one entry whose mark its offer has, which stands before it and has a lesser stamp.
-- An event answers another exactly where that one brought the same offer to the rung that it wants. No two entries bring an offer to one rung:
-- the later would find it there already, or above.
use Rattle.std.proofs.Common.{◌≡◌, ℕ, zero, suc, ◌<◌, List, length, Option, Some, None, Bool, true, false, refl, sym, ap, ◌∙◌, subst, arith, ◌⊎◌, inl, inr, eq-eqb}
use Rattle.std.specs.Prelude.{◌==◌, ◌&&◌, slice_get, slice_index, is_some}
use Rattle.std.proofs.lemmas.Bool.{and_parts, eqb-true, cases_order}
use Rattle.std.proofs.lemmas.Option.{same_Some}
use Rattle.std.proofs.lemmas.List.{length-set, length-replicate}
use Rattle.ac_base.specs.declared.entry.Event.{Event}
use Rattle.ac_base.specs.declared.entry.Event.TheVariants.{Offer, Withdraw, Know, Room, Got, Pass, Did, Reply}
use Rattle.ac_base.specs.declared.entry.Stamped.{Stamped}
use Rattle.ac_links.specs.declared.offer.LinkOffer.{LinkOffer}
use Rattle.ac_links.specs.Link.{link_of, number_of, answered, standing_stamp}
use Rattle.ac_history.specs.Outcomes.{is_withdrawal, is_taking}
use Rattle.ac_history.specs.History.{Past, link_at, fits, IsLegal, start}
use Rattle.ac_causal.specs.Before.{is_offering, is_passing, is_doing, answers, Answers}
use Rattle.ac_causal.specs.inner.Marks.{Marked, no_marks, marks_of, last_mark, seen_mark, marked_by, marked_at}
use Rattle.ac_causal.proofs.Steps.{level, level_at, gives, wants, is_did, is_reply, has_answer_at, sees_mark, sees_none, sees_stamp}
use Rattle.ac_causal.proofs.Held.{zero_or, Held, MadeBy, NotAfter, Kept, own, in_parties, comes_later, its_stamp, past_at, fits_at, kept_at}

and_true : (a b : Bool) → a ≡ true → b ≡ true → a && b ≡ true
and_true a b p q = rw (p, q)

-- ---- which events answer which

-- the event brought that offer to that rung
pub record Brought (l n rung : ℕ) (e : Event) : Type 0 where
  pub link : link_of e ≡ l
  pub number : number_of e ≡ n
  pub rung_is : gives e ≡ rung

both_equal : (k m l n : ℕ) → ((k == l) && (m == n)) ≡ true → (k ≡ l) × (m ≡ n)
both_equal k m l n h = let p = and_parts (k == l) (m == n) h in (eqb-true k l p.0, eqb-true m n p.1)

equal_both : (k m l n : ℕ) → k ≡ l → m ≡ n → ((k == l) && (m == n)) ≡ true
equal_both k m l n p q = and_true (k == l) (m == n) (eq-eqb k l p) (eq-eqb m n q)

offering_brought : (l n : ℕ) (e : Event) → is_offering l n e ≡ true → Brought l n 1 e
offering_brought l n (Offer k m payload) h = let p = both_equal k m l n h in record { link = p.0; number = p.1; rung_is = refl }
offering_brought l n _ h = let bad : false ≡ true = h in absurd (cc)

withdrawal_brought : (l n : ℕ) (e : Event) → is_withdrawal l n e ≡ true → Brought l n 2 e
withdrawal_brought l n (Withdraw k m) h = let p = both_equal k m l n h in record { link = p.0; number = p.1; rung_is = refl }
withdrawal_brought l n _ h = let bad : false ≡ true = h in absurd (cc)

taking_brought : (l n : ℕ) (e : Event) → is_taking l n e ≡ true → Brought l n 3 e
taking_brought l n (Got k m value) h = let p = both_equal k m l n h in record { link = p.0; number = p.1; rung_is = refl }
taking_brought l n (Did k m answer) h = let p = both_equal k m l n h in record { link = p.0; number = p.1; rung_is = refl }
taking_brought l n _ h = let bad : false ≡ true = h in absurd (cc)

passing_brought : (l n : ℕ) (e : Event) → is_passing l n e ≡ true → Brought l n 4 e
passing_brought l n (Pass k m) h = let p = both_equal k m l n h in record { link = p.0; number = p.1; rung_is = refl }
passing_brought l n _ h = let bad : false ≡ true = h in absurd (cc)

doing_brought : (l n : ℕ) (e : Event) → is_doing l n e ≡ true → Brought l n 3 e
doing_brought l n (Did k m answer) h = let p = both_equal k m l n h in record { link = p.0; number = p.1; rung_is = refl }
doing_brought l n _ h = let bad : false ≡ true = h in absurd (cc)

brought_offering : (l n : ℕ) (e : Event) → Brought l n 1 e → is_offering l n e ≡ true
brought_offering l n (Offer k m payload) b = equal_both k m l n b.link b.number
brought_offering l n _ b = let r = b.rung_is in absurd (omega (arith, r))

brought_withdrawal : (l n : ℕ) (e : Event) → Brought l n 2 e → is_withdrawal l n e ≡ true
brought_withdrawal l n (Withdraw k m) b = equal_both k m l n b.link b.number
brought_withdrawal l n _ b = let r = b.rung_is in absurd (omega (arith, r))

brought_taking : (l n : ℕ) (e : Event) → Brought l n 3 e → is_taking l n e ≡ true
brought_taking l n (Got k m value) b = equal_both k m l n b.link b.number
brought_taking l n (Did k m answer) b = equal_both k m l n b.link b.number
brought_taking l n _ b = let r = b.rung_is in absurd (omega (arith, r))

brought_passing : (l n : ℕ) (e : Event) → Brought l n 4 e → is_passing l n e ≡ true
brought_passing l n (Pass k m) b = equal_both k m l n b.link b.number
brought_passing l n _ b = let r = b.rung_is in absurd (omega (arith, r))

brought_doing : (l n : ℕ) (e : Event) → Brought l n 3 e → is_did e ≡ true → is_doing l n e ≡ true
brought_doing l n (Did k m answer) b d = equal_both k m l n b.link b.number
brought_doing l n _ b d = let bad : false ≡ true = d in absurd (cc)

pub record Answered (e x : Event) : Type 0 where
  pub positive : 0 < wants e
  pub brought : Brought (link_of e) (number_of e) (wants e) x

-- an event that answers another wants its rung of the same offer
pub answers_means : (e x : Event) → answers e x ≡ true → Answered e x
answers_means (Offer l n payload) x h = let bad : false ≡ true = h in absurd (cc)
answers_means (Withdraw l n) x h = let bad : false ≡ true = h in absurd (cc)
answers_means (Know l n) x h = record { positive = omega arith; brought = taking_brought l n x h }
answers_means (Room l n) x h = record { positive = omega arith; brought = passing_brought l n x h }
answers_means (Got l n value) x h = record { positive = omega arith; brought = offering_brought l n x h }
answers_means (Pass l n) x h = record { positive = omega arith; brought = withdrawal_brought l n x h }
answers_means (Did l n answer) x h = record { positive = omega arith; brought = offering_brought l n x h }
answers_means (Reply l n answer) x h = record { positive = omega arith; brought = doing_brought l n x h }

pub means_answers : (e x : Event) → 0 < wants e → Brought (link_of e) (number_of e) (wants e) x → (is_reply e ≡ true → is_did x ≡ true) → answers e x ≡ true
means_answers (Offer l n payload) x w b d = absurd (omega (arith, w))
means_answers (Withdraw l n) x w b d = absurd (omega (arith, w))
means_answers (Know l n) x w b d = brought_taking l n x b
means_answers (Room l n) x w b d = brought_passing l n x b
means_answers (Got l n value) x w b d = brought_offering l n x b
means_answers (Pass l n) x w b d = brought_withdrawal l n x b
means_answers (Did l n answer) x w b d = brought_offering l n x b
means_answers (Reply l n answer) x w b d = brought_doing l n x b (d refl)

-- ---- in a legal history

some_level : (q : Option LinkOffer) → 0 < level_at q → (o : LinkOffer) × (q ≡ Some o)
some_level None h = absurd (omega (arith, h))
some_level (Some o) h = (o, refl)

lasts_by : (M : Marked) (mark : ℕ) (q : Option Stamped) → length (marked_by M mark q).lasts ≡ length M.lasts
lasts_by M mark None = refl
lasts_by M mark (Some e) = length-set M.lasts e.party mark

lasts_at : (es : List Stamped) (M : Marked) (k : ℕ) → length (marked_at es M k).lasts ≡ length M.lasts
lasts_at es M zero = refl
lasts_at es M (suc k) = lasts_by (marked_at es M k) (suc k) (slice_get es k) ∙ lasts_at es M k

module _ (capacities widths : List ℕ) (cores : ℕ) (es : List Stamped) (legal : IsLegal (start capacities widths cores) es) where
  abbrev past : ℕ → Past
  past k = past_at (start capacities widths cores) es k

  abbrev pub marks : ℕ → Marked
  marks k = marked_at es (no_marks (length capacities) (suc cores)) k

  kept : (k : ℕ) → Kept es k (past k) (marks k)
  kept k = kept_at capacities widths cores es legal k

  fit : (k : ℕ) (e : Stamped) → slice_get es k ≡ Some e → fits (past k) e ≡ true
  fit k e is = fits_at (start capacities widths cores) es legal k e is

  -- the offer of an entry that answers, and the entry by which it stands
  pub record Sees (j : ℕ) (e : Stamped) : Type 0 where
    pub offer : LinkOffer
    pub there : slice_get (link_at (past j) (link_of e.entry.event)) (number_of e.entry.event) ≡ Some offer
    pub rung : level offer.standing ≡ wants e.entry.event
    pub has_answer : is_reply e.entry.event ≡ true → is_some offer.answer ≡ true
    pub by : Held es j (link_of e.entry.event) (number_of e.entry.event) offer (seen_mark (marks j) e)

  pub sees : (j : ℕ) (e : Stamped) → slice_get es j ≡ Some e → 0 < wants e.entry.event → Sees j e
  sees j e is w =
      let step = own es j (past j) (marks j) e (kept j) is (fit j e is) in
      let at : level_at (slice_get (link_at (past j) (link_of e.entry.event)) (number_of e.entry.event)) ≡ wants e.entry.event = step.wanted w in
      let o = some_level (slice_get (link_at (past j) (link_of e.entry.event)) (number_of e.entry.event)) (omega (arith, at, w)) in
      record {
        offer = o.0;
        there = o.1;
        rung = sym (ap level_at o.1) ∙ at;
        has_answer = λ r. sym (ap has_answer_at o.1) ∙ step.replied r;
        by = subst (λ m. Held es j (link_of e.entry.event) (number_of e.entry.event) o.0 m) (sym (sees_mark (marks_of (marks j) (link_of e.entry.event)) e.entry.event w))
            ((kept j).held (link_of e.entry.event) (number_of e.entry.event) o.0 o.1);
      }

  -- no two entries bring an offer to one rung
  brings_once : (i j l n rung : ℕ) (a b : Stamped) → slice_get es i ≡ Some a → slice_get es j ≡ Some b → 0 < rung
      → Brought l n rung a.entry.event → Brought l n rung b.entry.event → i < j → ⊥
  brings_once i j l n rung a b is_a is_b r of_a of_b lt =
      let step = own es j (past j) (marks j) b (kept j) is_b (fit j b is_b) in
      let rung_a = of_a.rung_is in
      let rung_b = of_b.rung_is in
      let up = (step.rises (omega (arith, r, rung_b))).below in
      let high = (kept j).highest i a lt is_a in
      let same : level_at (slice_get (link_at (past j) (link_of a.entry.event)) (number_of a.entry.event))
      ≡ level_at (slice_get (link_at (past j) (link_of b.entry.event)) (number_of b.entry.event)) =
      ap (λ x. level_at (slice_get (link_at (past j) x) (number_of a.entry.event))) (of_a.link ∙ sym of_b.link)
      ∙ ap (λ y. level_at (slice_get (link_at (past j) (link_of b.entry.event)) y)) (of_a.number ∙ sym of_b.number) in
      omega (arith, up, high, same, rung_a, rung_b)

  same_place : (i j l n rung : ℕ) (a b : Stamped) → slice_get es i ≡ Some a → slice_get es j ≡ Some b → 0 < rung
      → Brought l n rung a.entry.event → Brought l n rung b.entry.event → (i ≡ j) ⊎ ((i < j) ⊎ (j < i)) → i ≡ j
  same_place i j l n rung a b is_a is_b r of_a of_b (inl same) = same
  same_place i j l n rung a b is_a is_b r of_a of_b (inr (inl lt)) = absurd (brings_once i j l n rung a b is_a is_b r of_a of_b lt)
  same_place i j l n rung a b is_a is_b r of_a of_b (inr (inr gt)) = absurd (brings_once j i l n rung b a is_b is_a r of_b of_a gt)

  held_brought : (j : ℕ) (e : Stamped) (s : Sees j e) → Brought (link_of e.entry.event) (number_of e.entry.event) (wants e.entry.event) s.by.entry.entry.event
  held_brought j e s = record { link = s.by.link; number = s.by.number; rung_is = s.by.gave ∙ s.rung }

  -- the mark that is seen is that of an entry before, which is answered
  seen_by : (j w : ℕ) (e : Stamped) → slice_get es j ≡ Some e → seen_mark (marks j) e ≡ suc w → (wants e.entry.event ≡ 0) ⊎ (0 < wants e.entry.event)
      → (w < j) × Answers es w j
  seen_by j w e is h (inl without) =
      let zero_mark = sees_none (marks_of (marks j) (link_of e.entry.event)) e.entry.event without in
      absurd (omega (arith, zero_mark, h))
  seen_by j w e is h (inr positive) =
      let s = sees j e is positive in
      let mark = s.by.mark_is in
      let below = s.by.below in
      let same : s.by.place ≡ w = omega (arith, mark, h) in (
        omega (arith, below, same),
        record {
          asking = s.by.entry;
          answering = e;
          asks = ap (λ x. slice_get es x) (sym same) ∙ s.by.stands;
          answers_it = is;
          answer = means_answers e.entry.event s.by.entry.entry.event positive (held_brought j e s) (λ r. s.by.did (s.has_answer r));
        },
      )

  pub seen_made : (j w : ℕ) (e : Stamped) → slice_get es j ≡ Some e → seen_mark (marks j) e ≡ suc w → (w < j) × Answers es w j
  seen_made j w e is h = seen_by j w e is h (zero_or (wants e.entry.event))

  -- and of each entry that is answered
  pub seen_all : (i j : ℕ) (a : Answers es i j) → seen_mark (marks j) a.answering ≡ suc i
  seen_all i j a =
      let m = answers_means a.answering.entry.event a.asking.entry.event a.answer in
      let s = sees j a.answering a.answers_it m.positive in
      let same = same_place s.by.place i _ _ _ s.by.entry a.asking s.by.stands a.asks m.positive (held_brought j a.answering s) m.brought (cases_order s.by.place i) in
      s.by.mark_is ∙ ap suc same

  -- ---- parties

  pub last_made : (j w : ℕ) (e : Stamped) → last_mark (marks j) e ≡ suc w → MadeBy es j e.party w
  last_made j w e h = (kept j).made e.party w h

  pub last_reach : (i j : ℕ) (a e : Stamped) → i < j → slice_get es i ≡ Some a → a.party ≡ e.party → i < last_mark (marks j) e
  last_reach i j a e lt is same = subst (λ p. i < slice_index (marks j).lasts p) same ((kept j).reach i a lt is)

  lasts_length : (k : ℕ) → length (past k).lasts ≡ suc cores
  lasts_length k = sym (kept k).many ∙ lasts_at es (no_marks (length capacities) (suc cores)) k ∙ length-replicate (suc cores) 0

  pub party_in : (j : ℕ) (e : Stamped) → slice_get es j ≡ Some e → e.party < suc cores
  party_in j e is =
      let lt = in_parties es j (past j) (marks j) e (kept j) is (fit j e is) in
      let n = lasts_length j in
      omega (arith, lt, n)

  -- ---- stamps

  pub stamp_of_party : (i j : ℕ) (a e : Stamped) → i < j → slice_get es i ≡ Some a → slice_get es j ≡ Some e → a.party ≡ e.party → a.entry.stamp < e.entry.stamp
  stamp_of_party i j a e lt is_a is_e same = both ((kept j).later i a lt is_a) (comes_later es j (past j) (marks j) e (kept j) is_e (fit j e is_e))
    where
      both : NotAfter a (past j) → ((past j).stamp < e.entry.stamp) ⊎ (((past j).stamp ≡ e.entry.stamp) × ((past j).party < e.party)) → a.entry.stamp < e.entry.stamp
      both (inl x) (inl y) = omega (arith, x, y)
      both (inl x) (inr y) = let z = y.0 in omega (arith, x, z)
      both (inr x) (inl y) = let z = x.0 in omega (arith, y, z)
      both (inr x) (inr y) = let z = x.1 in let u = y.1 in absurd (omega (arith, z, u, same))

  pub stamp_of_answer : (i j : ℕ) (a : Answers es i j) → a.asking.entry.stamp < a.answering.entry.stamp
  stamp_of_answer i j a =
      let e = a.answering in
      let m = answers_means e.entry.event a.asking.entry.event a.answer in
      let s = sees j a.answering a.answers_it m.positive in
      let same = same_place s.by.place i _ _ _ s.by.entry a.asking s.by.stands a.asks m.positive (held_brought j a.answering s) m.brought (cases_order s.by.place i) in
      let one : s.by.entry ≡ a.asking = same_Some s.by.entry a.asking (sym s.by.stands ∙ ap (λ x. slice_get es x) same ∙ a.asks) in
      let stamp : a.asking.entry.stamp ≡ s.offer.stamp = ap (λ (x : Stamped). x.entry.stamp) (sym one) ∙ s.by.stamp in
      let seen : answered (link_at (past j) (link_of a.answering.entry.event)) a.answering.entry.event ≡ s.offer.stamp =
      sees_stamp (link_at (past j) (link_of a.answering.entry.event)) a.answering.entry.event m.positive ∙ ap standing_stamp s.there in
      let next = its_stamp es j (past j) (marks j) a.answering (kept j) a.answers_it (fit j a.answering a.answers_it) in
      omega (arith, stamp, seen, next)
