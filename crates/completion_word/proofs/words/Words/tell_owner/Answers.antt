use Rattle.std.proofs.Common.{rules, ap, ◌∙◌}
use Rattle.completion_word.specs.Link.{owner_in, peer_in, owner_view}
use Rattle.completion_word.specs.Steps.{peer_note, peer_note_or, after_told, notes_of, with_notes}
use Rattle.completion_word.proofs.Notes.{tells, takes_in, hear_peer_allowed, check_allowed}
use Rattle.completion_word.proofs.words.Words.tell_owner.Goals as goal

pub split_seat-note-requires : goal.split_seat-note-requires
split_seat-note-requires c = (search rules, search rules, rw c.args.self.now.key (tells c.args.self.now.places _ _))

pub join_seat-requires : goal.join_seat-requires
join_seat-requires c = (search rules, search rules, search rules, search rules, rw c.args.self.now.key (takes_in c.args.self.now.places _ _ _ _))

pub load-requires : goal.load-requires
load-requires c =
    let note = ap (λ m. m.0) c.split_seat-note.ensures.4 ∙ (λ i. notes_of (c.requires.peer i).0) in
    let owner = c.join_seat.ensures.2 ∙ (λ i. (with_notes (c.requires.owner i).0 (note i), (c.requires.owner i).1)) in (
      search rules,
      search rules,
      rw c.args.self.now.key (hear_peer_allowed c.args.self.now.places _ _ _ (owner_in c.args.owner.now.me.0) (peer_note (peer_in c.args.peer.now.me.0)) owner),
    )

pub load-requires-2 : goal.load-requires-2
load-requires-2 c =
    let note = ap (λ m. m.0) c.split_seat-note.ensures.4 ∙ (λ i. notes_of (c.requires.peer i).0) in
    let owner = c.join_seat.ensures.2 ∙ (λ i. (with_notes (c.requires.owner i).0 (note i), (c.requires.owner i).1)) in
    let told = c.load.ensures.2.0 ∙ (λ i. (owner_view (after_told (peer_note_or (owner i).0.peer_note) (owner_in (owner i).0)), (owner i).1)) in (
      search rules,
      search rules,
      rw c.args.self.now.key (check_allowed c.args.self.now.places _ _ _ (after_told (peer_note (peer_in c.args.peer.now.me.0)) (owner_in c.args.owner.now.me.0)) told),
    )
