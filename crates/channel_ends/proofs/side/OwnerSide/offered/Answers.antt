use Rattle.std.proofs.Common.{◌∙◌, sym, ap, length}
use Rattle.completion_word.specs.Seats.{owner_of}
use Rattle.channel_ends.specs.inner.Noted.{made_by}
use Rattle.channel_ends.proofs.Tables.{table_length}
use Rattle.channel_ends.proofs.side.OwnerSide.offered.Goals as goal

pub returns : goal.returns
returns c =
    c.offered.ensures ∙ sym (table_length (made_by c.self.inside.lead c.self.inside.marks (owner_of c.self.inside.owner)) 0 (length (owner_of c.self.inside.owner).offers))
    ∙ ap (λ v. length v.offers) c.self.view_is
