use Rattle.std.proofs.Common.{◌∙◌, sym, ap}
use Rattle.completion_word.specs.Seats.{owner_of}
use Rattle.channel_ends.specs.Sending.{known_lead}
use Rattle.channel_ends.proofs.Changes.{lead_is}
use Rattle.channel_ends.proofs.side.OwnerSide.known.Goals as goal

pub returns : goal.returns
returns c = sym (lead_is c.self.inside.lead c.self.inside.marks (owner_of c.self.inside.owner) c.self.invariant) ∙ ap (λ v. known_lead v.offers) c.self.view_is
