use Rattle.std.proofs.Common.{◌≡◌, ◌-◌, ◌∙◌, sym, ap, length, nat_lt}
use Rattle.completion_word.specs.Seats.{owner_of}
use Rattle.channel_ends.specs.Sending.{known_lead}
use Rattle.channel_ends.specs.inner.Noted.{made_by}
use Rattle.channel_ends.proofs.Tables.{table_length}
use Rattle.channel_ends.proofs.Changes.{lead_is}
use Rattle.channel_ends.proofs.side.OwnerSide.has_room.Goals as goal

pub returns : goal.returns
returns c =
    let offered : c.offered.result ≡ length c.args.self.now.offers =
    c.offered.ensures ∙ sym (table_length (made_by c.self.inside.lead c.self.inside.marks (owner_of c.self.inside.owner)) 0 (length (owner_of c.self.inside.owner).offers))
    ∙ ap (λ v. length v.offers) c.self.view_is in
    let lead : c.self.inside.lead ≡ known_lead c.args.self.now.offers =
    sym (lead_is c.self.inside.lead c.self.inside.marks (owner_of c.self.inside.owner) c.self.invariant) ∙ ap (λ v. known_lead v.offers) c.self.view_is in
    ap (λ x. nat_lt (x - c.self.inside.lead) c.args.places) offered
    ∙ ap (λ x. nat_lt (length c.args.self.now.offers - x) c.args.places) lead
    ∙ ap (λ x. nat_lt (length c.args.self.now.offers - known_lead c.args.self.now.offers) x) (sym c.requires)
