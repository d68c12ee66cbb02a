-- What a withdrawal is answered, and what it makes of its link and of its owner's clock.
use Rattle.std.specs.Prelude.{ℕ, Option, Some, None, slice_get}
use Rattle.ac_base.specs.Stamps.{stamp_after}
use Rattle.ac_links.specs.Views.{PeerDecision, altered, withdrawn_at}
use Rattle.core_channels.specs.declared.answers.Withdrawing.{Withdrawing}
use Rattle.core_channels.specs.declared.answers.Withdrawing.TheVariants.{Withdrawn, Taken, ClockFull}
use Rattle.core_channels.specs.LinkViews.{LinkViews}
use Rattle.core_channels.specs.Learns.{with_known}

abbrev pub own_withdrawal : Option ℕ → Withdrawing
own_withdrawal None = ClockFull
own_withdrawal (Some s) = Withdrawn s

abbrev pub late_withdrawal : Option ℕ → Withdrawing
late_withdrawal None = ClockFull
late_withdrawal (Some s) = Taken s

abbrev pub withdrawing_of : ℕ → Option PeerDecision → Withdrawing
withdrawing_of last None = own_withdrawal (stamp_after last 0)
withdrawing_of last (Some d) = late_withdrawal (stamp_after last d.stamp)

-- the answer to an owner whose last stamp is `last`: the offer is withdrawn, unless it was decided before
abbrev pub withdrawing : LinkViews → ℕ → ℕ → Withdrawing
withdrawing v number last = withdrawing_of last (slice_get v.decisions number)

abbrev pub after_withdrawing : LinkViews → ℕ → Withdrawing → LinkViews
after_withdrawing v number (Withdrawn stamp) = record v { offers = altered v.offers number (withdrawn_at stamp) }
after_withdrawing v number (Taken stamp) = with_known v number
after_withdrawing v number ClockFull = v

abbrev pub withdrawing_clock : ℕ → Withdrawing → ℕ
withdrawing_clock last (Withdrawn stamp) = stamp
withdrawing_clock last (Taken stamp) = stamp
withdrawing_clock last ClockFull = last
