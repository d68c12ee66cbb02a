-- The answers of an owner's end to learning and to withdrawing are those that ports may give, and tell of what has happened.
use Rattle.std.proofs.Common.{◌≡◌, ℕ, zero, suc, ◌<◌, ◌≤◌, List, [], ◌∷◌, Some, Bool, true, false, ◌&&◌, refl, sym, ap, ◌∙◌, subst, arith, length, nat_lt, ⊎_elim}
use Rattle.std.specs.Prelude.{slice_get, map, IfNone}
use Rattle.std.proofs.lemmas.Bool.Decides.{nat_tests}
use Rattle.ac_links.specs.declared.payloads.Terms.{Terms}
use Rattle.ac_links.specs.Views.{OwnerOffer, altered, may_withdraw, known_at, withdrawn_at}
use Rattle.ac_links.specs.Noted.{or_zero}
use Rattle.ac_links.specs.Party.LinkEnd.{Owns}
use Rattle.core_channels.specs.declared.answers.Learning.{Learning}
use Rattle.core_channels.specs.declared.answers.Learning.TheVariants as learning
use Rattle.core_channels.specs.declared.answers.Withdrawing.{Withdrawing}
use Rattle.core_channels.specs.declared.answers.Withdrawing.TheVariants as withdrawing
use Rattle.core_channels.specs.Laws.{told_by_withdrawing}
use Rattle.core_channels.specs.Learns.{learning_clock}
use Rattle.core_channels.specs.Withdraws.{withdrawing_clock}
use Rattle.channel_ends.specs.Sending.{OwnerNotes, known_lead}
use Rattle.channel_ends.specs.Learns.{Learns, Hears, Knows, IsHeardOnly}
use Rattle.channel_ends.specs.Withdraws.{Withdraws, IsNotTried}
use Rattle.core_ports.specs.AtHand.{AtHand}
use Rattle.core_ports.specs.Answers.{IsPollAnswer, IsWithdrawalAnswer}
use Rattle.core_ports.specs.Ends.{awaits_reply, greatest}
use Rattle.core_ports.specs.Tells.{told_by_arrival}
use Rattle.end_ports.specs.OnLinks.{is_decided}
use Rattle.end_ports.specs.inner.Calls.{TellsAt}
use Rattle.end_ports.specs.Answers.{learned_as, is_quiet}
use Rattle.request_ends.specs.Requesting.{ListLearns, ListWithdraws}
use Rattle.end_ports.proofs.Owning.{made, lead_is, count_is, lead_opens, below_count, withdraw_tells, know_tells, room_tells}
use Rattle.end_ports.proofs.Stamps.{none_above, heard_here}

-- ---- what stays of the notes

length_altered : {X : Type 0} (xs : List X) (n : ℕ) (f : X → X) → length (altered xs n f) ≡ length xs
length_altered [] n f = refl
length_altered (x ∷ xs) zero f = refl
length_altered (x ∷ xs) (suc n) f = ap suc (length_altered xs n f)

-- as many offers, with as much heard of them, on the same words
pub record IsAsLong (old new : OwnerNotes) : Type 0 where
  pub table : new.table ≡ old.table
  pub offers : length new.offers ≡ length old.offers
  pub heard : length new.heard ≡ length old.heard

as_long_same : (old new : OwnerNotes) → new ≡ old → IsAsLong old new
as_long_same old new e =
    record { table = ap (λ (v : OwnerNotes). v.table) e; offers = ap (λ (v : OwnerNotes). length v.offers) e; heard = ap (λ (v : OwnerNotes). length v.heard) e }

as_long_heard : (old new : OwnerNotes) (number of : ℕ) → Hears old number of new → length new.offers ≡ length old.offers → IsAsLong old new
as_long_heard old new number of h offers = record { table = h.table; offers = offers; heard = ap length h.heard ∙ length_altered old.heard number (λ x. Some of) }

as_long_known : (old new : OwnerNotes) (last number s : ℕ) → Knows old last number s new → IsAsLong old new
as_long_known old new last number s k = as_long_heard old new number k.of k.hears (ap length k.offers ∙ length_altered old.offers number _)

pub as_long_learned : (old : OwnerNotes) (last : ℕ) (r : Learning) (new : OwnerNotes) → Learns old last r new → IsAsLong old new
as_long_learned old last (learning.Know number s) new h = as_long_known old new last number s h.3
as_long_learned old last (learning.Room number s) new h = as_long_known old new last number s h.3
as_long_learned old last learning.Undecided new h = record { table = h.table; offers = ap length h.offers; heard = ap length h.heard }
as_long_learned old last learning.AllKnown new h = as_long_same old new h.1
as_long_learned old last learning.ClockFull new h = as_long_heard old new (known_lead old.offers) h.1.of h.1.hears (ap length h.1.offers)

pub as_long_withdrawn : (old : OwnerNotes) (number last : ℕ) (r : Withdrawing) (new : OwnerNotes) → Withdraws old number last r new → IsAsLong old new
as_long_withdrawn old number last (withdrawing.Withdrawn s) new h = record {
  table = ap (λ (v : OwnerNotes). v.table) h.after;
  offers = ap (λ (v : OwnerNotes). length v.offers) h.after ∙ length_altered old.offers number _;
  heard = ap (λ (v : OwnerNotes). length v.heard) h.after;
}
as_long_withdrawn old number last (withdrawing.Taken s) new h = as_long_known old new last number s h
as_long_withdrawn old number last withdrawing.ClockFull new h =
    ⊎_elim (λ (n : IsNotTried old last new). as_long_same old new n.after)
    (λ (n : IsHeardOnly old last number new). as_long_heard old new number n.of n.hears (ap length n.offers)) h

-- what is told to be decided stays where no entry was made
decided_stays : (old new : OwnerNotes) → new.offers ≡ old.offers → new.told ≡ old.told → is_decided new ≡ is_decided old
decided_stays old new offers told =
    ap (λ ms. nat_lt (known_lead ms) new.told && nat_lt (known_lead ms) (length ms)) offers
    ∙ ap (λ n. nat_lt (known_lead old.offers) n && nat_lt (known_lead old.offers) (length old.offers)) told

pub decided_learned : (old : OwnerNotes) (l last : ℕ) (r : Learning) (new : OwnerNotes) → Learns old last r new
    → IfNone (told_by_arrival l (learned_as r)) ((is_decided new ≡ is_decided old) × (new.offers ≡ old.offers))
decided_learned old l last (learning.Know number s) new h = tt
decided_learned old l last (learning.Room number s) new h = tt
decided_learned old l last learning.Undecided new h = (decided_stays old new h.offers h.told, h.offers)
decided_learned old l last learning.AllKnown new h = (ap is_decided h.1, ap (λ (v : OwnerNotes). v.offers) h.1)
decided_learned old l last learning.ClockFull new h = (decided_stays old new h.1.offers h.1.hears.told, h.1.offers)

pub decided_withdrawn : (old : OwnerNotes) (l number last : ℕ) (r : Withdrawing) (new : OwnerNotes) → Withdraws old number last r new
    → IfNone (told_by_withdrawing l number r) ((is_decided new ≡ is_decided old) × (new.offers ≡ old.offers))
decided_withdrawn old l number last (withdrawing.Withdrawn s) new h = tt
decided_withdrawn old l number last (withdrawing.Taken s) new h = tt
decided_withdrawn old l number last withdrawing.ClockFull new h =
    ⊎_elim (λ (n : IsNotTried old last new). (ap is_decided n.after, ap (λ (v : OwnerNotes). v.offers) n.after))
    (λ (n : IsHeardOnly old last number new). (decided_stays old new n.offers n.hears.told, n.offers)) h

-- ---- the entries

module _ (terms : Terms) (os : List OwnerOffer) (old : OwnerNotes) (same : map made os ≡ old.offers) (l last : ℕ) where
  pub learning_tells : (os' : List OwnerOffer) (new : OwnerNotes) (r : Learning) (now : ℕ) → Learns old last r new → ListLearns os last r os' → now ≡ learning_clock last r
      → TellsAt terms (Owns os) l last (told_by_arrival l (learned_as r)) (Owns os') now
  learning_tells os' new (learning.Know number s) now h list clock =
      let may = (lead_opens os old.offers number same h.1 h.0).0 h.2 in
      subst (λ os'. TellsAt terms (Owns os) l last (told_by_arrival l (learned_as (learning.Know number s))) (Owns os') now) (sym list.2)
      (subst (λ now. TellsAt terms (Owns os) l last (told_by_arrival l (learned_as (learning.Know number s))) (Owns (altered os number (known_at list.0))) now) (sym clock)
      (know_tells terms os l last number s list.0 may list.1))
  learning_tells os' new (learning.Room number s) now h list clock =
      let may = (lead_opens os old.offers number same h.1 h.0).1 h.2 in
      subst (λ os'. TellsAt terms (Owns os) l last (told_by_arrival l (learned_as (learning.Room number s))) (Owns os') now) (sym list.2)
      (subst (λ now. TellsAt terms (Owns os) l last (told_by_arrival l (learned_as (learning.Room number s))) (Owns (altered os number (known_at list.0))) now) (sym clock)
      (room_tells terms os l last number s list.0 may list.1))
  learning_tells os' new learning.Undecided now h list clock = (ap Owns list, clock)
  learning_tells os' new learning.AllKnown now h list clock = (ap Owns list, clock)
  learning_tells os' new learning.ClockFull now h list clock = (ap Owns list, clock)

  pub withdrawal_tells : (os' : List OwnerOffer) (n : ℕ) (r : Withdrawing) (now : ℕ) → may_withdraw (slice_get os n) ≡ true → (new : OwnerNotes) → Withdraws old n last r new
      → ListWithdraws os n last r os' → now ≡ withdrawing_clock last r
      → TellsAt terms (Owns os) l last (told_by_withdrawing l n r) (Owns os') now
  withdrawal_tells os' n (withdrawing.Withdrawn s) now may new h list clock =
      subst (λ os'. TellsAt terms (Owns os) l last (told_by_withdrawing l n (withdrawing.Withdrawn s)) (Owns os') now) (sym list)
      (subst (λ now. TellsAt terms (Owns os) l last (told_by_withdrawing l n (withdrawing.Withdrawn s)) (Owns (altered os n (withdrawn_at s))) now) (sym clock)
      (withdraw_tells terms os l last n s may h.next))
  withdrawal_tells os' n (withdrawing.Taken s) now may new h list clock =
      subst (λ os'. TellsAt terms (Owns os) l last (told_by_withdrawing l n (withdrawing.Taken s)) (Owns os') now) (sym list.2)
      (subst (λ now. TellsAt terms (Owns os) l last (told_by_withdrawing l n (withdrawing.Taken s)) (Owns (altered os n (known_at list.0))) now) (sym clock)
      (know_tells terms os l last n s list.0 may list.1))
  withdrawal_tells os' n withdrawing.ClockFull now may new h list clock = (ap Owns list, clock)

-- ---- the answers

not_below : (m n : ℕ) → n ≤ m → nat_lt m n ≡ false
not_below m n h = grind (arith, nat_tests)

none_after : (b : Bool) → (b && false) ≡ false
none_after true = refl
none_after false = refl

module _ (terms : Terms) (os : List OwnerOffer) (old : OwnerNotes) (same : map made os ≡ old.offers) (as_much : length old.heard ≡ length old.offers) (last : ℕ)
    (new : OwnerNotes) (heard : ℕ) (most : greatest or_zero new.heard ≤ heard) where
  heard_most : (number of : ℕ) → number < length old.heard → Hears old number of new → of ≤ heard
  heard_most number of l h =
      let up : of ≤ greatest or_zero new.heard = subst (λ hs. of ≤ greatest or_zero hs) (sym h.heard) (heard_here old.heard number of l) in
      omega arith

  pub learning_answers : (r : Learning) (hand : AtHand) (wants : Bool) → Learns old last r new → hand.decision ≡ is_decided old → hand.front ≡ false
      → (is_quiet r ≡ true → wants ≡ true → awaits_reply (Owns os) ≡ true → hand.reply ≡ false)
      → IsPollAnswer terms (Owns os) hand wants heard last (learned_as r)
  learning_answers (learning.Know number s) hand wants h decision front reply = h.1 ∙ sym (lead_is os old.offers same)
  learning_answers (learning.Room number s) hand wants h decision front reply = h.1 ∙ sym (lead_is os old.offers same)
  learning_answers learning.Undecided hand wants h decision front reply = record {
    decision = decision ∙ ap (λ b. b && nat_lt (known_lead old.offers) (length old.offers)) (not_below (known_lead old.offers) old.told h.not_told);
    front = λ w. front;
    reply = reply refl;
  }
  learning_answers learning.AllKnown hand wants h decision front reply = record {
    decision = decision ∙ ap (λ b. nat_lt (known_lead old.offers) old.told && b) (not_below (known_lead old.offers) (length old.offers) (omega (arith, h.0)))
        ∙ none_after (nat_lt (known_lead old.offers) old.told);
    front = λ w. front;
    reply = reply refl;
  }
  learning_answers learning.ClockFull hand wants h decision front reply = (
    none_above last h.1.of heard (heard_most (known_lead old.offers) h.1.of (omega (arith, h.0, as_much)) h.1.hears) h.1.none,
    λ p. cc,
  )

  pub withdrawal_answers : (n : ℕ) (r : Withdrawing) → may_withdraw (slice_get os n) ≡ true → Withdraws old n last r new → IsWithdrawalAnswer heard last r
  withdrawal_answers n (withdrawing.Withdrawn s) may h = tt
  withdrawal_answers n (withdrawing.Taken s) may h = tt
  withdrawal_answers n withdrawing.ClockFull may h =
      ⊎_elim (λ (e : IsNotTried old last new). none_above last 0 heard (omega arith) e.none)
      (λ (e : IsHeardOnly old last n new).
      none_above last e.of heard (heard_most n e.of (omega (arith, below_count os n may, count_is os old.offers same, as_much)) e.hears) e.none) h
