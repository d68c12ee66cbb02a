use Rattle.std.proofs.Common.{◌∙◌, sym, ap, subst, refl, length}
use Rattle.completion_word.specs.declared.views.Peer.{Peer}
use Rattle.completion_word.specs.Seats.{owner_of, peer_of}
use Rattle.completion_word.specs.Steps.{owner_after_meeting}
use Rattle.channel_ends.specs.Sending.{OwnerNotes}
use Rattle.channel_ends.specs.Settled.{AreOfOneLink}
use Rattle.channel_ends.specs.inner.Noted.{made_by, AreNoted}
use Rattle.channel_ends.specs.inner.Fields.{notes_of}
use Rattle.channel_ends.proofs.Tables.{table_length}
use Rattle.channel_ends.proofs.OneLink.{one_link}
use Rattle.channel_ends.proofs.side.OwnerSide.meet.Goals as goal

pub invariant_of-self : goal.invariant_of-self
invariant_of-self c =
    let n = c.self.invariant in
    let kept : AreNoted c.self.inside.lead c.self.inside.marks (owner_after_meeting (peer_of c.args.peer.now) (owner_of c.self.inside.owner)) = record {
      lead_within = n.lead_within;
      near = n.near;
      learned = n.learned;
      leading = n.leading;
      marked = n.marked;
      first = n.first;
      last = n.last;
    } in subst (AreNoted c.self.inside.lead c.self.inside.marks) (sym c.meet.ensures.owner) kept

pub returns-clause-peer : goal.returns-clause-peer
returns-clause-peer c =
    let offered = sym (table_length (made_by c.self.inside.lead c.self.inside.marks (owner_of c.self.inside.owner)) 0 (length (owner_of c.self.inside.owner).offers))
    ∙ ap (λ (v : OwnerNotes). length v.offers) c.self.view_is in
    c.meet.ensures.peer ∙ ap (λ n. record (peer_of c.args.peer.now) { told_offers = n }) offered

pub returns-clause-link : goal.returns-clause-link
returns-clause-link c =
    subst (λ (q : Peer). AreOfOneLink (notes_of (record { owner = c.meet.new.owner; lead = c.self.inside.lead; marks = c.self.inside.marks })) q.decisions q.look) c.meet.ensures.peer
    (one_link _ c.self.inside.lead c.self.inside.marks (owner_of c.meet.new.owner) (peer_of c.meet.new.peer) _ refl refl c.meet.ensures.agreed)
