-- No stamp in the list of a sending end is above its party's last one, after each call as before it: what the call adds is the new last one.
use Rattle.std.proofs.Common.{◌≡◌, ℕ, zero, suc, ◌<◌, ◌≤◌, List, [], ◌∷◌, Some, sym, ap, subst, arith, length, ⊎_elim}
use Rattle.std.specs.Option.{ForSome}
use Rattle.ac_links.specs.Views.{altered}
use Rattle.core_channels.proofs.Stamping.{stamp_rises}
use Rattle.core_channels.specs.declared.answers.Learning.{Learning}
use Rattle.core_channels.specs.declared.answers.Learning.TheVariants as learning
use Rattle.core_channels.specs.declared.answers.Withdrawing.{Withdrawing}
use Rattle.core_channels.specs.declared.answers.Withdrawing.TheVariants as withdrawing
use Rattle.core_channels.specs.Learns.{learning_clock}
use Rattle.core_channels.specs.Withdraws.{withdrawing_clock}
use Rattle.channel_ends.specs.Sending.{MadeOffer, OwnerNotes, AreWithin, made_at, known_at, withdrawn_at}
use Rattle.channel_ends.specs.Learns.{Learns, Knows, IsHeardOnly}
use Rattle.channel_ends.specs.Withdraws.{Withdraws, IsNotTried}

-- neither the stamp of an offer nor that of its withdrawal is above this one
abbrev pub IsWithin : ℕ → MadeOffer → Type 0
IsWithin last o = (o.stamp ≤ last) × ForSome o.withdrawn (λ w. w ≤ last)

rises : (last last' : ℕ) (o : MadeOffer) → last ≤ last' → IsWithin last o → IsWithin last' o
rises last last' o up h = (omega (arith, h.0), λ w e. let l = h.1 w e in omega arith)

module _ (last last' : ℕ) (up : last ≤ last') where
  module _ (f : MadeOffer → MadeOffer) (h : (o : MadeOffer) → IsWithin last o → IsWithin last' (f o)) where
    at_altered : (os : List MadeOffer) (k n : ℕ) → AreWithin last os → n < length (altered os k f) → IsWithin last' (made_at (altered os k f) n)
    at_altered [] k n w l = absurd (omega arith)
    at_altered (o ∷ os) zero zero w l = h o (w 0 (omega arith))
    at_altered (o ∷ os) zero (suc n) w l = rises last last' (made_at os n) up (w (suc n) (omega arith))
    at_altered (o ∷ os) (suc k) zero w l = rises last last' o up (w 0 (omega arith))
    at_altered (o ∷ os) (suc k) (suc n) w l = at_altered os k n (λ m q. w (suc m) (omega arith)) (omega arith)

  within_same : (os os' : List MadeOffer) → os' ≡ os → AreWithin last os → AreWithin last' os'
  within_same os os' e w = subst (AreWithin last') (sym e) (λ n l. rises last last' (made_at os n) up (w n l))

  within_known : (os os' : List MadeOffer) (k t : ℕ) → os' ≡ altered os k (known_at t) → AreWithin last os → AreWithin last' os'
  within_known os os' k t e w = subst (AreWithin last') (sym e) (λ n l. at_altered (known_at t) (λ o h. rises last last' (known_at t o) up h) os k n w l)

  within_withdrawn : (os os' : List MadeOffer) (k : ℕ) → os' ≡ altered os k (withdrawn_at last') → AreWithin last os → AreWithin last' os'
  within_withdrawn os os' k e w = subst (AreWithin last') (sym e) (λ n l. at_altered (withdrawn_at last') gone os k n w l)
    where
      same : (s : ℕ) → Some last' ≡ Some s → s ≤ last'
      same s q = let r : last' ≡ s = cc in omega arith

      gone : (o : MadeOffer) → IsWithin last o → IsWithin last' (withdrawn_at last' o)
      gone o h = (omega (arith, h.0), same)

knows_within : (old new : OwnerNotes) (last number s : ℕ) → Knows old last number s new → AreWithin last old.offers → AreWithin s new.offers
knows_within old new last number s k w = let l = stamp_rises last k.of s k.next in within_known last s (omega arith) old.offers new.offers number k.of k.offers w

pub learns_within : (old : OwnerNotes) (last : ℕ) (r : Learning) (new : OwnerNotes) → Learns old last r new → AreWithin last old.offers → AreWithin (learning_clock last r) new.offers
learns_within old last (learning.Know number s) new h w = knows_within old new last number s h.3 w
learns_within old last (learning.Room number s) new h w = knows_within old new last number s h.3 w
learns_within old last learning.Undecided new h w = within_same last last (omega arith) old.offers new.offers h.offers w
learns_within old last learning.AllKnown new h w = within_same last last (omega arith) old.offers new.offers (ap (λ (v : OwnerNotes). v.offers) h.1) w
learns_within old last learning.ClockFull new h w = within_same last last (omega arith) old.offers new.offers h.1.offers w

pub withdraws_within : (old : OwnerNotes) (number last : ℕ) (r : Withdrawing) (new : OwnerNotes) → Withdraws old number last r new → AreWithin last old.offers
    → AreWithin (withdrawing_clock last r) new.offers
withdraws_within old number last (withdrawing.Withdrawn s) new h w =
    let l = stamp_rises last 0 s h.next in within_withdrawn last s (omega arith) old.offers new.offers number (ap (λ (v : OwnerNotes). v.offers) h.after) w
withdraws_within old number last (withdrawing.Taken s) new h w = knows_within old new last number s h w
withdraws_within old number last withdrawing.ClockFull new h w =
    ⊎_elim (λ (n : IsNotTried old last new). within_same last last (omega arith) old.offers new.offers (ap (λ (v : OwnerNotes). v.offers) n.after) w)
    (λ (n : IsHeardOnly old last number new). within_same last last (omega arith) old.offers new.offers n.offers w) h
