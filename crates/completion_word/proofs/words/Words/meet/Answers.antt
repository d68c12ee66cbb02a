use Rattle.std.proofs.Common.{arith, ap}
use Rattle.completion_word.specs.Link.{owner_in, peer_in}
use Rattle.completion_word.proofs.Notes.{met}
use Rattle.completion_word.proofs.words.Words.meet.Goals as goal

pub returns-clause-agreed : goal.returns-clause-agreed
returns-clause-agreed c =
    let same = ap (λ t. t.words) c.requires.0 in
    met _ (owner_in c.args.owner.now.seat.me.0) _ _ (peer_in c.args.peer.now.seat.me.0) _ _
    (ap (λ m. owner_in m.0) c.tell_peer.ensures.owner)
    (ap (λ m. peer_in m.0) c.tell_peer.ensures.peer)
    (ap (λ m. owner_in m.0) c.tell_owner.ensures.owner)
    (ap (λ m. peer_in m.0) c.tell_owner.ensures.peer)
    (omega arith)
    c.tell_peer.ensures.known
    c.tell_owner.ensures.agrees
