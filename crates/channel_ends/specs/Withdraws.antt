-- What a withdrawal is answered, and what it makes of its end.
use Rattle.std.specs.Prelude.{◌≡◌, ℕ, ◌≤◌, ◌⊎◌, Option, Some, None}
use Rattle.ac_base.specs.Stamps.{stamp_after}
use Rattle.ac_links.specs.Views.{altered}
use Rattle.core_channels.specs.declared.answers.Withdrawing.{Withdrawing}
use Rattle.core_channels.specs.declared.answers.Withdrawing.TheVariants.{Withdrawn, Taken, ClockFull}
use Rattle.channel_ends.specs.Sending.{MadeOffer, OwnerNotes, withdrawn_at, heard_of}
use Rattle.channel_ends.specs.Learns.{Knows, IsHeardOnly}

-- it is offered, neither withdrawn nor known
abbrev pub MayWithdraw : Option MadeOffer → Type 0
MayWithdraw None = ⊥
MayWithdraw (Some o) = (o.withdrawn ≡ None) × (o.known ≡ None)

-- the exchange was won: nothing had been heard of the offer, and no settling had told of its decision
pub record IsWithdrawn (old : OwnerNotes) (last number s : ℕ) (new : OwnerNotes) : Type 0 where
  pub next : stamp_after last 0 ≡ Some s
  pub not_heard : heard_of old number ≡ None
  pub not_told : old.told ≤ number
  pub after : new ≡ record old { offers = altered old.offers number (withdrawn_at s) }

-- no stamp is left for a withdrawal, and nothing was tried
pub record IsNotTried (old : OwnerNotes) (last : ℕ) (new : OwnerNotes) : Type 0 where
  pub none : stamp_after last 0 ≡ None
  pub after : new ≡ old

-- the answer to an owner whose last stamp is `last`, and its end after it
abbrev pub Withdraws : OwnerNotes → ℕ → ℕ → Withdrawing → OwnerNotes → Type 0
Withdraws old number last (Withdrawn s) new = IsWithdrawn old last number s new
Withdraws old number last (Taken s) new = Knows old last number s new
Withdraws old number last ClockFull new = IsNotTried old last new ⊎ IsHeardOnly old last number new
