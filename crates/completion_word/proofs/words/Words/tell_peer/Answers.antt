use Rattle.std.proofs.Common.{rules, ap, ◌∙◌}
use Rattle.completion_word.specs.Link.{owner_in, peer_in}
use Rattle.completion_word.specs.Steps.{owner_note, notes_of, with_notes}
use Rattle.completion_word.proofs.Notes.{tells, takes_in, hear_owner_allowed}
use Rattle.completion_word.proofs.words.Words.tell_peer.Goals as goal

pub split_seat-note-requires : goal.split_seat-note-requires
split_seat-note-requires c = (search rules, search rules, rw c.args.self.now.key (tells c.args.self.now.places _ _))

pub join_seat-requires : goal.join_seat-requires
join_seat-requires c = (search rules, search rules, search rules, search rules, rw c.args.self.now.key (takes_in c.args.self.now.places _ _ _ _))

pub load-requires : goal.load-requires
load-requires c =
    let note = ap (λ m. m.0) c.split_seat-note.ensures.4 ∙ (λ i. notes_of (c.requires.owner i).0) in
    let peer = c.join_seat.ensures.2 ∙ (λ i. (with_notes (c.requires.peer i).0 (note i), (c.requires.peer i).1)) in (
      search rules,
      search rules,
      rw c.args.self.now.key (hear_owner_allowed c.args.self.now.places _ _ _ (peer_in c.args.peer.now.me.0) (owner_note (owner_in c.args.owner.now.me.0)) peer),
    )
