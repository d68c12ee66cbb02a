-- A relay that has taken, and offered what it took, goes on being one; and what its parts answer is a step.
use Rattle.std.proofs.Common.{◌≡◌, ℕ, ℤ, ◌<◌, ◌≤◌, ◌^◌, List, [], ◌∷◌, ◌++◌, Option, Some, None, Bool, true, false, length, refl, sym, ap, ◌∙◌, subst, arith}
use Rattle.std.proofs.lemmas.List.{append-nil}
use Rattle.core_channels.specs.declared.answers.Learning.{Learning}
use Rattle.core_channels.specs.Learns.{learning_clock}
use Rattle.channel_ends.specs.Sending.{Sending, AreWithin}
use Rattle.channel_ends.specs.Receiving.{Receiving}
use Rattle.channel_ends.specs.Learns.{Learns}
use Rattle.channel_ends.specs.Pairs.{IsSameSend}
use Rattle.ac_choice.specs.declared.answers.Any.{Any}
use Rattle.ac_choice.specs.declared.answers.Any.TheVariants as any
use Rattle.ac_choice.specs.declared.answers.Tagged.{Tagged}
use Rattle.ac_choice.specs.declared.answers.Relayed.{Relayed}
use Rattle.ac_choice.specs.declared.answers.Relayed.TheVariants as relayed
use Rattle.ac_choice.specs.Turns.{first_after}
use Rattle.ac_choice.specs.AnyOf.{TakesAny, DecidesAtMostOne, AreSameEnds, any_clock, decided_end}
use Rattle.ac_choice.specs.Relaying.{Relaying, of_end, held_list}
use Rattle.ac_choice.specs.Steps.{Steps, OffersOne, TakesOne, GoesOnWith, OffersAsTold, AfterLearning, Transfers, is_full, once_asked, once_learned, kept_of_offer}
use Rattle.ac_choice.specs.Inside.{IsRelay}
use Rattle.ac_choice.specs.inner.Offering.{Puts, Fetches, relay_of}
use Rattle.ac_choice.proofs.Carrying.{any_rises, offering_rises, within_later, offer_carries, offer_told, still_one_each, of_none, of_passed, of_took, AreOf}

same_send : (s : Sending Tagged) → IsSameSend s s
same_send s = record { table = refl; ring = refl }

-- ---- an offer of a message, which is not held as well

module _ (v : Relaying) (m : Tagged) (result : Relayed) (kept : Option Tagged) (out : Sending Tagged) (now : ℕ) (p : Puts v.out m v.clock result kept out now) where
  pub offers_it : OffersOne v m result (record v { out = out; held = kept; clock = now })
  offers_it = record {
    answer = p.answer;
    offers = p.offers;
    told = p.told;
    after = ap (λ h. record v { out = out; held = h; clock = now }) p.kept
        ∙ ap (λ c. record v { out = out; held = kept_of_offer p.answer; clock = c }) p.clock;
  }

  pub is_told : OffersAsTold v.out.payloads result out.payloads
  is_told = subst (λ r. OffersAsTold v.out.payloads r out.payloads) (sym p.told) (offer_told v.out out m v.clock p.answer p.offers)

  pub carries_it : out.payloads ++ held_list kept ≡ v.out.payloads ++ m ∷ []
  carries_it = ap (λ k. out.payloads ++ held_list k) p.kept ∙ offer_carries v.out out m v.clock p.answer p.offers

  pub comes_later : v.clock ≤ now
  comes_later = subst (λ n. v.clock ≤ n) (sym p.clock) (offering_rises v.out out m v.clock p.answer p.offers)

-- ---- a taking

module _ (ins ins' : List (Receiving ℤ)) (out : Sending Tagged) (first clock : ℕ) (h : IsRelay (relay_of ins out None first clock)) (same : AreSameEnds ins ins') where
  -- nothing was taken that is to be offered
  offers_none : (a : Any ℤ) (result : Relayed) (f now : ℕ) → TakesAny ins first clock a ins' → DecidesAtMostOne ins (decided_end a) ins' → f < length ins
      → now ≡ any_clock clock a → AreOf (out.payloads ++ []) ins' → GoesOnWith a (once_asked (relay_of ins out None first clock) a ins') result (relay_of ins' out None f now)
      → OffersAsTold out.payloads result out.payloads → Fetches (relay_of ins out None first clock) result (relay_of ins' out None f now)
  offers_none a result f now t d below is of then told = record {
    takes = record { answer = a; ins = ins'; takes = t; then = then };
    relay = record {
      first = subst (λ n. f < n) (sym d.count) below;
      few = subst (λ n. n < 2 ^ 32) (sym d.count) h.few;
      within = subst (λ n. AreWithin n out.notes.offers) (sym is) (within_later clock (any_clock clock a) out.notes.offers (any_rises ins ins' first clock a t) h.within);
      one_each = still_one_each ins ins' h.one_each a d;
      carries = of;
    };
    offers = told;
    rises = subst (λ n. clock ≤ n) (sym is) (any_rises ins ins' first clock a t);
    same = record { ins = same; out = same_send out };
  }

  pub fetches_passed : (e number s f now : ℕ) → TakesAny ins first clock (any.Passed e number s) ins' → DecidesAtMostOne ins (Some e) ins' → f < length ins
      → f ≡ first_after (length ins) e → now ≡ s → Fetches (relay_of ins out None first clock) relayed.Passed (relay_of ins' out None f now)
  fetches_passed e number s f now t d below next is =
      offers_none (any.Passed e number s) relayed.Passed f now t d below is
      (of_passed ins ins' (out.payloads ++ []) h.one_each h.carries first clock e number s t d)
      (refl, ap (λ x. relay_of ins' out None x now) next ∙ ap (λ x. relay_of ins' out None (first_after (length ins) e) x) is) refl

  pub fetches_nothing : (now : ℕ) → TakesAny ins first clock any.Nothing ins' → DecidesAtMostOne ins None ins' → now ≡ clock
      → Fetches (relay_of ins out None first clock) relayed.Nothing (relay_of ins' out None first now)
  fetches_nothing now t d is =
      offers_none any.Nothing relayed.Nothing first now t d h.first is (of_none ins ins' (out.payloads ++ []) h.one_each h.carries d)
      (refl, ap (λ x. relay_of ins' out None first x) is) refl

  pub fetches_not_yet : (e now : ℕ) → TakesAny ins first clock (any.NotYet e) ins' → DecidesAtMostOne ins None ins' → now ≡ clock
      → Fetches (relay_of ins out None first clock) relayed.NotYet (relay_of ins' out None first now)
  fetches_not_yet e now t d is =
      offers_none (any.NotYet e) relayed.NotYet first now t d h.first is (of_none ins ins' (out.payloads ++ []) h.one_each h.carries d)
      (refl, ap (λ x. relay_of ins' out None first x) is) refl

  pub fetches_full : (now : ℕ) → TakesAny ins first clock any.ClockFull ins' → DecidesAtMostOne ins None ins' → now ≡ clock
      → Fetches (relay_of ins out None first clock) relayed.ClockFull (relay_of ins' out None first now)
  fetches_full now t d is =
      offers_none any.ClockFull relayed.ClockFull first now t d h.first is (of_none ins ins' (out.payloads ++ []) h.one_each h.carries d)
      (refl, ap (λ x. relay_of ins' out None first x) is) refl

  -- before the offer of what was taken
  pub within_still : (a : Any ℤ) (now : ℕ) → TakesAny ins first clock a ins' → now ≡ any_clock clock a → AreWithin now out.notes.offers
  within_still a now t is =
      subst (λ n. AreWithin n out.notes.offers) (sym is) (within_later clock (any_clock clock a) out.notes.offers (any_rises ins ins' first clock a t) h.within)

  module _ (e number s f mid now : ℕ) (value : ℤ) (result : Relayed) (kept : Option Tagged) (out' : Sending Tagged)
      (t : TakesAny ins first clock (any.Took e number value s) ins') (d : DecidesAtMostOne ins (Some e) ins') (below : f < length ins)
      (next : f ≡ first_after (length ins) e) (is : mid ≡ s) (p : Puts out (record { end = e; value = value }) mid result kept out' now) where
    abbrev m : Tagged
    m = record { end = e; value = value }

    abbrev took : Relaying
    took = relay_of ins' out None f mid

    took_is : took ≡ once_asked (relay_of ins out None first clock) (any.Took e number value s) ins'
    took_is = ap (λ x. relay_of ins' out None x mid) next ∙ ap (λ x. relay_of ins' out None (first_after (length ins) e) x) is

    pub fetches_took : Fetches (relay_of ins out None first clock) result (relay_of ins' out' kept f now)
    fetches_took = record {
      takes = record {
        answer = any.Took e number value s;
        ins = ins';
        takes = t;
        then = subst (λ w. OffersOne w m result (relay_of ins' out' kept f now)) took_is (offers_it took m result kept out' now p);
      };
      relay = record {
        first = subst (λ n. f < n) (sym d.count) below;
        few = subst (λ n. n < 2 ^ 32) (sym d.count) h.few;
        within = p.within;
        one_each = still_one_each ins ins' h.one_each (any.Took e number value s) d;
        carries = λ i.
            ap (of_end i) (carries_it took m result kept out' now p ∙ sym (ap (λ z. z ++ m ∷ []) (append-nil out.payloads)))
            ∙ of_took ins ins' (out.payloads ++ []) h.one_each h.carries first clock e number s value t d i;
      };
      offers = is_told took m result kept out' now p;
      rises =
          let a = any_rises ins ins' first clock (any.Took e number value s) t in
          let b = comes_later took m result kept out' now p in
          omega (arith, a, b, is);
      same = record { ins = same; out = p.same };
    }

-- ---- a step

module _ (v : Relaying) (l : Learning) (out : Sending Tagged) (now : ℕ) (learns : Learns v.out.notes v.clock l out.notes)
    (only : out ≡ record v.out { notes = out.notes }) (is : now ≡ learning_clock v.clock l) (b : Bool) (tests : b ≡ is_full l) where
  steps : (result : Relayed) (new : Relaying) → AfterLearning b (record v { out = out; clock = now }) result new → Steps v result new
  steps result new a = record {
    learned = l;
    out = out;
    learns = learns;
    only = only;
    then = subst (λ x. AfterLearning x (once_learned v l out) result new) tests
        (subst (λ w. AfterLearning b w result new) (ap (λ c. record v { out = out; clock = c }) is) a);
  }

  pub steps_full : b ≡ true → Steps v relayed.ClockFull (record v { out = out; clock = now })
  steps_full is_true = steps relayed.ClockFull (record v { out = out; clock = now })
      (subst (λ x. AfterLearning x (record v { out = out; clock = now }) relayed.ClockFull (record v { out = out; clock = now })) (sym is_true) (refl, refl))

  transfers : (result : Relayed) (new : Relaying) (held : Option Tagged) → b ≡ false → v.held ≡ held
      → Transfers held (record v { out = out; clock = now }) result new → Steps v result new
  transfers result new held is_false is_held t =
      steps result new (subst (λ x. AfterLearning x (record v { out = out; clock = now }) result new) (sym is_false)
      (subst (λ x. Transfers x (record v { out = out; clock = now }) result new) (sym is_held) t))

  pub steps_held : b ≡ false → (m : Tagged) → v.held ≡ Some m → (result : Relayed) (kept : Option Tagged) (out' : Sending Tagged) (now' : ℕ)
      → Puts out m now result kept out' now' → Steps v result (record v { out = out'; held = kept; clock = now' })
  steps_held is_false m held result kept out' now' p =
      transfers result (record v { out = out'; held = kept; clock = now' }) (Some m) is_false held
      (offers_it (record v { out = out; clock = now }) m result kept out' now' p)

  pub steps_fetch : b ≡ false → v.held ≡ None → (result : Relayed) (new : Relaying) → Fetches (relay_of v.ins out None v.first now) result new → Steps v result new
  steps_fetch is_false held result new f =
      transfers result new None is_false held (subst (λ k. TakesOne (relay_of v.ins out k v.first now) result new) (sym held) f.takes)
