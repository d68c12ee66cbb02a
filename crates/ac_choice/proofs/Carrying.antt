-- What a relay has offered and then what it holds is, of each end, what it has taken there: after each call on its ends as before it.
use Rattle.std.proofs.Common.{◌≡◌, ℕ, ℤ, zero, suc, ◌<◌, ◌≤◌, List, [], ◌∷◌, ◌++◌, Some, None, length, refl, sym, ap, ◌∙◌, subst, arith, inl, inr, ⊎_elim}
use Rattle.std.specs.Prelude.{slice_get}
use Rattle.std.proofs.lemmas.List.{append-nil}
use Rattle.std.proofs.lemmas.Bool.{cases_eq}
use Rattle.completion_word.specs.declared.views.DecisionKind.TheVariants as outcome
use Rattle.completion_word.specs.declared.views.DecisionKind.{DecisionKind}
use Rattle.core_channels.specs.declared.answers.Receiving.{Receiving as Received}
use Rattle.core_channels.specs.declared.answers.Receiving.TheVariants as received
use Rattle.core_channels.specs.declared.answers.Offering.{Offering}
use Rattle.core_channels.specs.declared.answers.Offering.TheVariants as offering
use Rattle.core_channels.proofs.Stamping.{stamp_rises}
use Rattle.channel_ends.specs.Sending.{Sending, MadeOffer, AreWithin}
use Rattle.channel_ends.specs.Receiving.{Receiving, Receives, Decides}
use Rattle.channel_ends.specs.Offers.{Offers, offering_clock}
use Rattle.ac_choice.specs.declared.answers.Any.{Any}
use Rattle.ac_choice.specs.declared.answers.Any.TheVariants as any
use Rattle.ac_choice.specs.declared.answers.Tagged.{Tagged}
use Rattle.ac_choice.specs.AnyOf.{SameList, DecidesOne, DecidesAtMostOne, Answers, TakesAny, any_clock, decided_end}
use Rattle.ac_choice.specs.Relaying.{of_end, if_taken, taken_of, taken_at, held_list}
use Rattle.ac_choice.specs.Steps.{kept_of_offer, told_of_offer, OffersAsTold}
use Rattle.ac_choice.specs.Inside.{AreOneEach}
use Rattle.ac_choice.proofs.Lists.{both_at, taken_same, taken_there, of_more, of_it, of_other}
use Rattle.ac_choice.proofs.Places.{same_Some}

-- ---- clocks

pub offering_rises : (old new : Sending Tagged) (m : Tagged) (last : ℕ) (o : Offering Tagged) → Offers old m last o new → last ≤ offering_clock last o
offering_rises old new m last (offering.Offered number s) h = let r = stamp_rises last 0 s h.1 in omega (arith, r)
offering_rises old new m last (offering.NoRoom back) h = omega arith
offering_rises old new m last (offering.NotYet back) h = omega arith
offering_rises old new m last (offering.ClockFull back) h = omega arith

none_within : (xs : List (Receiving ℤ)) (k : ℕ) → k < length xs → slice_get xs k ≡ None → ⊥
none_within [] k l n = omega (arith, l)
none_within (x ∷ xs) zero l n = cc
none_within (x ∷ xs) (suc k) l n = none_within xs k (omega arith) n

-- the end that answers, before and after
pub record Answering (old new : List (Receiving ℤ)) (last e : ℕ) (r : Received ℤ) : Type 0 where
  pub a : Receiving ℤ
  pub b : Receiving ℤ
  pub was : slice_get old e ≡ Some a
  pub is : slice_get new e ≡ Some b
  pub got : Receives a last r b

pub answering : (old new : List (Receiving ℤ)) (first last e : ℕ) (r : Received ℤ) → Answers old first last e r new → Answering old new last e r
answering old new first last e r h =
    ⊎_elim (λ (p : (x : Receiving ℤ) × (y : Receiving ℤ) × (slice_get old e ≡ Some x) × (slice_get new e ≡ Some y)).
    record { a = p.0; b = p.1; was = p.2; is = p.3; got = h.answer p.0 p.1 p.2 p.3 })
    (λ (p : (slice_get old e ≡ None) × (slice_get new e ≡ None)). absurd (none_within old e h.within p.0)) (both_at old new e h.count)

pub any_rises : (old new : List (Receiving ℤ)) (first last : ℕ) (a : Any ℤ) → TakesAny old first last a new → last ≤ any_clock last a
any_rises old new first last (any.Took e number value s) h =
    let p = answering old new first last e (received.Took number value s) h in let r = stamp_rises last p.got.of s p.got.next in omega (arith, r)
any_rises old new first last (any.Passed e number s) h =
    let p = answering old new first last e (received.Passed number s) h in let r = stamp_rises last p.got.1.of s p.got.1.next in omega (arith, r)
any_rises old new first last any.Nothing h = omega arith
any_rises old new first last (any.NotYet e) h = omega arith
any_rises old new first last any.ClockFull h = omega arith

pub within_later : (last now : ℕ) (offers : List MadeOffer) → last ≤ now → AreWithin last offers → AreWithin now offers
within_later last now offers up h = λ n l. let w = h n l in (omega (arith, w.0, up), λ s e. let m = w.1 s e in omega (arith, m, up))

-- ---- an offer leaves what is carried as it was, with the message at its end

pub offer_carries : (old new : Sending Tagged) (m : Tagged) (last : ℕ) (o : Offering Tagged) → Offers old m last o new
    → new.payloads ++ held_list (kept_of_offer o) ≡ old.payloads ++ m ∷ []
offer_carries old new m last (offering.Offered number s) h = append-nil new.payloads ∙ h.3.payloads
offer_carries old new m last (offering.NoRoom back) h =
    ap (λ (v : Sending Tagged). v.payloads ++ back ∷ []) h.2 ∙ ap (λ x. old.payloads ++ x ∷ []) h.1
offer_carries old new m last (offering.NotYet back) h =
    ap (λ (v : Sending Tagged). v.payloads ++ back ∷ []) h.4 ∙ ap (λ x. old.payloads ++ x ∷ []) h.3
offer_carries old new m last (offering.ClockFull back) h =
    ap (λ (v : Sending Tagged). v.payloads ++ back ∷ []) h.3 ∙ ap (λ x. old.payloads ++ x ∷ []) h.2

pub offer_told : (old new : Sending Tagged) (m : Tagged) (last : ℕ) (o : Offering Tagged) → Offers old m last o new
    → OffersAsTold old.payloads (told_of_offer m.end o) new.payloads
offer_told old new m last (offering.Offered number s) h = (m.value, h.3.payloads)
offer_told old new m last (offering.NoRoom back) h = ap (λ (v : Sending Tagged). v.payloads) h.2
offer_told old new m last (offering.NotYet back) h = ap (λ (v : Sending Tagged). v.payloads) h.4
offer_told old new m last (offering.ClockFull back) h = ap (λ (v : Sending Tagged). v.payloads) h.3

-- ---- one item for each decision

module _ (old new : List (Receiving ℤ)) (each : AreOneEach old) where
  each_at : (count : length new ≡ length old) (k : ℕ) (y : Receiving ℤ) → slice_get new k ≡ Some y → (x : Receiving ℤ) × (slice_get old k ≡ Some x)
  each_at count k y at =
      ⊎_elim (λ (p : (x : Receiving ℤ) × (y : Receiving ℤ) × (slice_get old k ≡ Some x) × (slice_get new k ≡ Some y)). (p.0, p.2))
      (λ (p : (slice_get old k ≡ None) × (slice_get new k ≡ None)). absurd (let q = p.1 in cc)) (both_at old new k count)

  same_each : (x y : Receiving ℤ) → SameList x y → length x.popped ≡ length x.peer.decisions → length y.popped ≡ length y.peer.decisions
  same_each x y s e = ap length s.1 ∙ e ∙ sym (ap length s.0)

  one_each : (x y : Receiving ℤ) → DecidesOne x y → length x.popped ≡ length x.peer.decisions → length y.popped ≡ length y.peer.decisions
  one_each x y d e = ap length d.popped ∙ longer x.popped x.peer.decisions d.value d.decision e ∙ sym (ap length d.decisions)
    where
      longer : {X Y : Type 0} (xs : List X) (ys : List Y) (x : X) (y : Y) → length xs ≡ length ys → length (xs ++ x ∷ []) ≡ length (ys ++ y ∷ [])
      longer [] [] x y e = refl
      longer [] (b ∷ ys) x y e = absurd (omega arith)
      longer (a ∷ xs) [] x y e = absurd (omega arith)
      longer (a ∷ xs) (b ∷ ys) x y e = let r = longer xs ys x y (omega arith) in omega (arith, r)

  by_one : (e : ℕ) → DecidesAtMostOne old (Some e) new → AreOneEach new
  by_one e h = λ k y at.
      let p = each_at h.count k y at in
      elim (cases_eq k e) [
        | inl is ↦ one_each p.0 y (h.one.1 p.0 y (subst (λ n. slice_get old n ≡ Some p.0) is p.1) (subst (λ n. slice_get new n ≡ Some y) is at)) (each k p.0 p.1)
        | inr apart ↦ same_each p.0 y (h.others k (λ q. apart (sym (same_Some e k q))) p.0 y p.1 at) (each k p.0 p.1)
      ]

  by_none : DecidesAtMostOne old None new → AreOneEach new
  by_none h = λ k y at. let p = each_at h.count k y at in same_each p.0 y (h.others k (λ q. cc) p.0 y p.1 at) (each k p.0 p.1)

  pub still_one_each : (a : Any ℤ) → DecidesAtMostOne old (decided_end a) new → AreOneEach new
  still_one_each (any.Took e number value s) h = by_one e h
  still_one_each (any.Passed e number s) h = by_one e h
  still_one_each any.Nothing h = by_none h
  still_one_each (any.NotYet e) h = by_none h
  still_one_each any.ClockFull h = by_none h

-- ---- of each end, these messages are what it has taken

abbrev pub AreOf : List Tagged → List (Receiving ℤ) → Type 0
AreOf ms ins = (i : ℕ) → of_end i ms ≡ taken_at ins i

module _ (old new : List (Receiving ℤ)) (ms : List Tagged) (each : AreOneEach old) (h : AreOf ms old) where
  pub of_none : DecidesAtMostOne old None new → AreOf ms new
  of_none d i = h i ∙ sym (taken_same old new i d.count (d.others i (λ q. cc)))

  module _ (e last number s : ℕ) (value : ℤ) (how : DecisionKind) (a b : Receiving ℤ) (was : slice_get old e ≡ Some a) (is : slice_get new e ≡ Some b)
      (got : Decides a last number how s value b) where
    grown : taken_at new e ≡ taken_at old e ++ if_taken value how
    grown = ap taken_of is ∙ taken_there a b last number s how value (each e a was) got ∙ sym (ap (λ z. taken_of z ++ if_taken value how) was)

  pub of_passed : (first last e number s : ℕ) → Answers old first last e (received.Passed number s) new → DecidesAtMostOne old (Some e) new → AreOf ms new
  of_passed first last e number s g d i =
      elim (cases_eq i e) [
        | inl is ↦ let p = answering old new first last e (received.Passed number s) g in
            subst (λ k. of_end k ms ≡ taken_at new k) (sym is)
            (h e ∙ sym (grown e last number s p.got.0 (outcome.Passed s) p.a p.b p.was p.is p.got.1 ∙ append-nil (taken_at old e)))
        | inr apart ↦ h i ∙ sym (taken_same old new i d.count (d.others i (λ q. apart (sym (same_Some e i q)))))
      ]

  pub of_took : (first last e number s : ℕ) (value : ℤ) → Answers old first last e (received.Took number value s) new → DecidesAtMostOne old (Some e) new
      → AreOf (ms ++ record { end = e; value = value } ∷ []) new
  of_took first last e number s value g d i =
      let m : Tagged = record { end = e; value = value } in
      of_more i ms m ∙ elim (cases_eq i e) [
        | inl is ↦ let p = answering old new first last e (received.Took number value s) g in
            ap (λ z. of_end i ms ++ z) (of_it i m (sym is))
            ∙ subst (λ k. of_end k ms ++ value ∷ [] ≡ taken_at new k) (sym is)
            (ap (λ z. z ++ value ∷ []) (h e) ∙ sym (grown e last number s value (outcome.Taken s) p.a p.b p.was p.is p.got))
        | inr apart ↦ ap (λ z. of_end i ms ++ z) (of_other i m (λ q. apart (sym q))) ∙ append-nil (of_end i ms) ∙ h i
            ∙ sym (taken_same old new i d.count (d.others i (λ q. apart (sym (same_Some e i q)))))
      ]
