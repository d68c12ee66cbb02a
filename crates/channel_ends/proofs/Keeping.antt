-- Learning and withdrawing leave as many offers on the same words.
use Rattle.std.proofs.Common.{◌≡◌, ℕ, zero, suc, List, [], ◌∷◌, refl, ap, ◌∙◌, length, ⊎_elim}
use Rattle.ac_links.specs.Views.{altered}
use Rattle.core_channels.specs.declared.answers.Learning.{Learning}
use Rattle.core_channels.specs.declared.answers.Learning.TheVariants as learning
use Rattle.core_channels.specs.declared.answers.Withdrawing.{Withdrawing}
use Rattle.core_channels.specs.declared.answers.Withdrawing.TheVariants as withdrawing
use Rattle.channel_ends.specs.Sending.{MadeOffer, OwnerNotes, known_lead, known_at, withdrawn_at}
use Rattle.channel_ends.specs.Learns.{Learns, Knows, IsHeardOnly}
use Rattle.channel_ends.specs.Withdraws.{Withdraws, IsNotTried}

length_altered : (os : List MadeOffer) (n : ℕ) (f : MadeOffer → MadeOffer) → length (altered os n f) ≡ length os
length_altered [] n f = refl
length_altered (o ∷ os) zero f = refl
length_altered (o ∷ os) (suc n) f = ap suc (length_altered os n f)

-- as many offers on the same words
pub record IsAsMany (old new : OwnerNotes) : Type 0 where
  pub table : new.table ≡ old.table
  pub offers : length new.offers ≡ length old.offers

as_many_same : (old new : OwnerNotes) → new ≡ old → IsAsMany old new
as_many_same old new e = record { table = ap (λ (v : OwnerNotes). v.table) e; offers = ap (λ (v : OwnerNotes). length v.offers) e }

as_many_known : (old new : OwnerNotes) (last number s : ℕ) → Knows old last number s new → IsAsMany old new
as_many_known old new last number s k = record { table = k.hears.table; offers = ap length k.offers ∙ length_altered old.offers number (known_at k.of) }

as_many_heard : (old new : OwnerNotes) (last number : ℕ) → IsHeardOnly old last number new → IsAsMany old new
as_many_heard old new last number h = record { table = h.hears.table; offers = ap length h.offers }

pub as_many_learned : (old : OwnerNotes) (last : ℕ) (r : Learning) (new : OwnerNotes) → Learns old last r new → IsAsMany old new
as_many_learned old last (learning.Know number s) new h = as_many_known old new last number s h.3
as_many_learned old last (learning.Room number s) new h = as_many_known old new last number s h.3
as_many_learned old last learning.Undecided new h = record { table = h.table; offers = ap length h.offers }
as_many_learned old last learning.AllKnown new h = as_many_same old new h.1
as_many_learned old last learning.ClockFull new h = as_many_heard old new last (known_lead old.offers) h.1

pub as_many_withdrawn : (old : OwnerNotes) (number last : ℕ) (r : Withdrawing) (new : OwnerNotes) → Withdraws old number last r new → IsAsMany old new
as_many_withdrawn old number last (withdrawing.Withdrawn s) new h = record {
  table = ap (λ (v : OwnerNotes). v.table) h.after;
  offers = ap (λ (v : OwnerNotes). length v.offers) h.after ∙ length_altered old.offers number (withdrawn_at s);
}
as_many_withdrawn old number last (withdrawing.Taken s) new h = as_many_known old new last number s h
as_many_withdrawn old number last withdrawing.ClockFull new h =
    ⊎_elim (λ (n : IsNotTried old last new). as_many_same old new n.after) (λ (n : IsHeardOnly old last number new). as_many_heard old new last number n) h
