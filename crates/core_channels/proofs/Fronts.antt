-- What the front of a link of requests tells of its next offer: that it waits, or that it was withdrawn; and there is a stamp to decide it.
-- By the cases in which a front is told: whether there is a next offer, whether it was withdrawn, whether the clock has a stamp. For `done` and `pass_request`.
use Rattle.std.proofs.Common.{◌≡◌, ℕ, ◌<◌, ◌^◌, Option, Some, None, Bool, true, false, cond, refl, sym, ap, ◌∙◌, subst, arith, length, nat_lt}
use Rattle.std.specs.Prelude.{slice_get}
use Rattle.std.proofs.lemmas.Bool.Decides.{nat_tests}
use Rattle.std.proofs.lemmas.Option.{slice_get_within}
use Rattle.ac_base.specs.declared.entry.Payload.{Payload}
use Rattle.ac_base.specs.declared.entry.Answer.{Answer}
use Rattle.ac_base.specs.Stamps.{next_stamp, within, stamp_after}
use Rattle.ac_links.specs.Payloads.{answer_fits}
use Rattle.ac_links.specs.Views.{OwnerOffer}
use Rattle.core_channels.specs.declared.answers.Front.{Front}
use Rattle.core_channels.specs.declared.answers.Front.TheVariants.{Nothing, Withdrawn, Request, ClockFull}
use Rattle.core_channels.specs.LinkViews.{LinkViews}
use Rattle.core_channels.specs.Requests.{withdrawn_front, request_front, front_by, front_of, next_offer, fronting, is_withdrawn, may_do}

-- the next offer stands, it is this request of this number, and there is a stamp for the entry by which it is done
pub record Waits (v : LinkViews) (last number : ℕ) (payload : Payload) : Type 0 where
  pub own : OwnerOffer
  pub there : next_offer v ≡ Some own
  pub open' : own.withdrawn ≡ None
  pub payload_is : own.payload ≡ payload
  pub number_is : length v.decisions ≡ number
  pub stamp : next_stamp last own.stamp < 2 ^ 60

-- the next offer, of this number, was withdrawn by an entry of this stamp, and there is a stamp for the entry by which it is passed
pub record WasWithdrawn (v : LinkViews) (last number : ℕ) : Type 0 where
  pub own : OwnerOffer
  pub there : next_offer v ≡ Some own
  pub by' : ℕ
  pub at : own.withdrawn ≡ Some by'
  pub number_is : length v.decisions ≡ number
  pub stamp : next_stamp last by' < 2 ^ 60

is_within : (n s : ℕ) → within n ≡ Some s → n < 2 ^ 60
is_within n s h = by (nat_lt n (2 ^ 60)) refl h
  where
    by : (b : Bool) → nat_lt n (2 ^ 60) ≡ b → cond b (Some n) None ≡ Some s → n < 2 ^ 60
    by true e g = grind (arith, nat_tests)
    by false e g = cc

-- what a front tells, where it tells it
abbrev number_in : Front → ℕ
number_in Nothing = 0
number_in (Withdrawn number) = number
number_in (Request number payload) = number
number_in ClockFull = 0

abbrev payload_in : Payload → Front → Payload
payload_in other Nothing = other
payload_in other (Withdrawn number) = other
payload_in other (Request number payload) = payload
payload_in other ClockFull = other

module _ (v : LinkViews) (last number : ℕ) where
  module _ (payload : Payload) where
    by_stamp : (o : OwnerOffer) (q : Option ℕ) → next_offer v ≡ Some o → o.withdrawn ≡ None → stamp_after last o.stamp ≡ q
        → request_front (length v.decisions) o.payload q ≡ Request number payload → Waits v last number payload
    by_stamp o None f w e h = cc
    by_stamp o (Some s) f w e h = record {
      own = o;
      there = f;
      open' = w;
      payload_is = ap (payload_in payload) h;
      number_is = ap number_in h;
      stamp = is_within (next_stamp last o.stamp) s e;
    }

    not_withdrawn : (n : ℕ) (q : Option ℕ) → withdrawn_front n q ≡ Request number payload → ⊥
    not_withdrawn n None h = cc
    not_withdrawn n (Some s) h = cc

    by_standing : (o : OwnerOffer) (q : Option ℕ) → next_offer v ≡ Some o → o.withdrawn ≡ q → front_by last (length v.decisions) o q ≡ Request number payload → Waits v last number payload
    by_standing o None f w h = by_stamp o (stamp_after last o.stamp) f w refl h
    by_standing o (Some s) f w h = absurd (not_withdrawn (length v.decisions) (stamp_after last s) h)

    by_front : (q : Option OwnerOffer) → next_offer v ≡ q → front_of last (length v.decisions) q ≡ Request number payload → Waits v last number payload
    by_front None f h = cc
    by_front (Some o) f h = by_standing o o.withdrawn f refl h

    pub it_waits : fronting v last ≡ Request number payload → Waits v last number payload
    it_waits h = by_front (next_offer v) refl h

  no_request : (n : ℕ) (p : Payload) (q : Option ℕ) → request_front n p q ≡ Withdrawn number → ⊥
  no_request n p None h = cc
  no_request n p (Some s) h = cc

  by_withdrawal_stamp : (o : OwnerOffer) (w : ℕ) (q : Option ℕ) → next_offer v ≡ Some o → o.withdrawn ≡ Some w → stamp_after last w ≡ q
      → withdrawn_front (length v.decisions) q ≡ Withdrawn number → WasWithdrawn v last number
  by_withdrawal_stamp o w None f k e h = cc
  by_withdrawal_stamp o w (Some s) f k e h = record { own = o; there = f; by' = w; at = k; number_is = ap number_in h; stamp = is_within (next_stamp last w) s e }

  by_withdrawal : (o : OwnerOffer) (q : Option ℕ) → next_offer v ≡ Some o → o.withdrawn ≡ q → front_by last (length v.decisions) o q ≡ Withdrawn number → WasWithdrawn v last number
  by_withdrawal o None f w h = absurd (no_request (length v.decisions) o.payload (stamp_after last o.stamp) h)
  by_withdrawal o (Some w) f k h = by_withdrawal_stamp o w (stamp_after last w) f k refl h

  by_next : (q : Option OwnerOffer) → next_offer v ≡ q → front_of last (length v.decisions) q ≡ Withdrawn number → WasWithdrawn v last number
  by_next None f h = cc
  by_next (Some o) f h = by_withdrawal o o.withdrawn f refl h

  pub it_was_withdrawn : fronting v last ≡ Withdrawn number → WasWithdrawn v last number
  it_was_withdrawn h = by_next (next_offer v) refl h

-- a front that may be done is a request that the answer fits
pub record IsDoable (v : LinkViews) (last : ℕ) (answer : Answer) : Type 0 where
  pub number : ℕ
  pub payload : Payload
  pub waits : Waits v last number payload
  pub fits : answer_fits answer payload ≡ true

doable_by : (v : LinkViews) (last : ℕ) (answer : Answer) (f : Front) → fronting v last ≡ f → may_do f answer ≡ true → IsDoable v last answer
doable_by v last answer Nothing e h = cc
doable_by v last answer (Withdrawn n) e h = cc
doable_by v last answer (Request n p) e h = record { number = n; payload = p; waits = it_waits v last n p e; fits = h }
doable_by v last answer ClockFull e h = cc

pub it_may_be_done : (v : LinkViews) (last : ℕ) (answer : Answer) → may_do (fronting v last) answer ≡ true → IsDoable v last answer
it_may_be_done v last answer h = doable_by v last answer (fronting v last) refl h

withdrawn_by : (v : LinkViews) (last : ℕ) (f : Front) → fronting v last ≡ f → is_withdrawn f ≡ true → (n : ℕ) × WasWithdrawn v last n
withdrawn_by v last Nothing e h = cc
withdrawn_by v last (Withdrawn n) e h = (n, it_was_withdrawn v last n e)
withdrawn_by v last (Request n p) e h = cc
withdrawn_by v last ClockFull e h = cc

pub it_may_be_passed : (v : LinkViews) (last : ℕ) → is_withdrawn (fronting v last) ≡ true → (n : ℕ) × WasWithdrawn v last n
it_may_be_passed v last h = withdrawn_by v last (fronting v last) refl h

pub next_within : (v : LinkViews) (o : OwnerOffer) → next_offer v ≡ Some o → length v.decisions < length v.offers
next_within v o h = slice_get_within v.offers (length v.decisions) o h

pub same_next : (v : LinkViews) (o x : OwnerOffer) → next_offer v ≡ Some o → next_offer v ≡ Some x → o ≡ x
same_next v o x h g = let e : Some o ≡ Some x = sym h ∙ g in cc

-- what the front is, from what stands at the number of decisions
pub front_is : (v : LinkViews) (last n : ℕ) (q : Option OwnerOffer) → n ≡ length v.decisions → slice_get v.offers n ≡ q → fronting v last ≡ front_of last n q
front_is v last n q e h =
    subst (λ k. slice_get v.offers k ≡ q → fronting v last ≡ front_of last k q) (sym e) (λ g. ap (λ x. front_of last (length v.decisions) x) g) h
