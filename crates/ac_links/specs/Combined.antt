-- The link as its entries make it one after the other, and as the two views of its sides make it.
use Rattle.std.specs.Prelude.{ℕ, List, [], ◌∷◌, Option, Some, None, is_some}
use Rattle.ac_base.specs.declared.entry.Answer.{Answer}
use Rattle.ac_base.specs.declared.entry.Stamped.{Stamped}
use Rattle.ac_links.specs.declared.offer.Standing.{Standing}
use Rattle.ac_links.specs.declared.offer.Standing.TheVariants.{Offered, Taken, Withdrawn, Passed}
use Rattle.ac_links.specs.declared.offer.LinkOffer.{LinkOffer}
use Rattle.ac_links.specs.Payloads.{Taking, answer_of}
use Rattle.ac_links.specs.Link.{link_after}
use Rattle.ac_links.specs.Views.{OwnerOffer, PeerDecision}

-- the offers after all of these entries
abbrev pub link_after_all : List LinkOffer → List Stamped → List LinkOffer
link_after_all os [] = os
link_after_all os (e ∷ es) = link_after_all (link_after os e.entry.stamp e.entry.event) es

-- ---- the standing of an offer, the stamp that gave it, and the answer

abbrev pub undecided_standing : Option ℕ → Standing
undecided_standing None = Offered
undecided_standing (Some w) = Withdrawn

abbrev pub undecided_stamp : ℕ → Option ℕ → ℕ
undecided_stamp s None = s
undecided_stamp s (Some w) = w

abbrev pub decided_standing : Option Taking → Standing
decided_standing None = Passed
decided_standing (Some g) = Taken

abbrev pub decided_answer : Option Taking → Option Answer
decided_answer None = None
decided_answer (Some g) = answer_of g

-- ---- offers

-- an offer as its owner and its peer know it
abbrev pub link_offer_of : OwnerOffer → Option PeerDecision → LinkOffer
link_offer_of o None = record {
  payload = o.payload;
  standing = undecided_standing o.withdrawn;
  stamp = undecided_stamp o.stamp o.withdrawn;
  known = is_some o.known;
  answer = None;
  replied = is_some o.reply;
}
link_offer_of o (Some d) = record {
  payload = o.payload;
  standing = decided_standing d.value;
  stamp = d.stamp;
  known = is_some o.known;
  answer = decided_answer d.value;
  replied = is_some o.reply;
}

-- the peer has decided as many of the offers, from the first one on, as it knows decisions
abbrev pub combine : List OwnerOffer → List PeerDecision → List LinkOffer
combine [] ds = []
combine (o ∷ os) [] = link_offer_of o None ∷ combine os []
combine (o ∷ os) (d ∷ ds) = link_offer_of o (Some d) ∷ combine os ds
