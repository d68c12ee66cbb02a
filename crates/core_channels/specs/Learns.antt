-- What the owner of a link learns, and what that makes of the link and of its clock.
use Rattle.std.specs.Prelude.{ℕ, Option, Some, None, Bool, true, false, is_some, slice_get}
use Rattle.ac_base.specs.Stamps.{stamp_after}
use Rattle.ac_links.specs.Views.{OwnerOffer, PeerDecision, owner_lead, altered, known_at}
use Rattle.ac_links.specs.Noted.{decision_stamp}
use Rattle.core_channels.specs.declared.answers.Learning.{Learning}
use Rattle.core_channels.specs.declared.answers.Learning.TheVariants.{Know, Room, Undecided, AllKnown, ClockFull}
use Rattle.core_channels.specs.LinkViews.{LinkViews}

-- of an offer that was taken its taking is known, and of one that was withdrawn its room
abbrev pub learned_at : ℕ → ℕ → Bool → Learning
learned_at number s true = Room number s
learned_at number s false = Know number s

abbrev pub stamped_learning : ℕ → Bool → Option ℕ → Learning
stamped_learning number withdrawn None = ClockFull
stamped_learning number withdrawn (Some s) = learned_at number s withdrawn

abbrev pub decided_learning : ℕ → ℕ → Bool → Option PeerDecision → Learning
decided_learning last number withdrawn None = Undecided
decided_learning last number withdrawn (Some d) = stamped_learning number withdrawn (stamp_after last d.stamp)

abbrev pub learning_of : ℕ → ℕ → Option OwnerOffer → Option PeerDecision → Learning
learning_of last number None d = AllKnown
learning_of last number (Some o) d = decided_learning last number (is_some o.withdrawn) d

-- the answer to an owner whose last stamp is `last`: it is of the first offer whose decision is not known
abbrev pub learning : LinkViews → ℕ → Learning
learning v last = learning_of last (owner_lead v.offers)
    (slice_get v.offers (owner_lead v.offers)) (slice_get v.decisions (owner_lead v.offers))

-- the link once the decision of the offer of this number is known
abbrev pub with_known : LinkViews → ℕ → LinkViews
with_known v number = record v { offers = altered v.offers number (known_at (decision_stamp (slice_get v.decisions number))) }

abbrev pub after_learning : LinkViews → Learning → LinkViews
after_learning v (Know number stamp) = with_known v number
after_learning v (Room number stamp) = with_known v number
after_learning v Undecided = v
after_learning v AllKnown = v
after_learning v ClockFull = v

abbrev pub learning_clock : ℕ → Learning → ℕ
learning_clock last (Know number stamp) = stamp
learning_clock last (Room number stamp) = stamp
learning_clock last Undecided = last
learning_clock last AllKnown = last
learning_clock last ClockFull = last
