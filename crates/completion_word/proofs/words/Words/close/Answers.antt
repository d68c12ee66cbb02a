use Rattle.std.proofs.Common.{rules, ℕ, ap, ◌∙◌, subst}
use Rattle.completion_word.specs.Link.{Agreed}
use Rattle.completion_word.specs.inner.Parts.{both_parts}
use Rattle.completion_word.specs.Seats.{owner_of, peer_of}
use Rattle.completion_word.proofs.Sides.{joins, ends}
use Rattle.completion_word.proofs.words.Words.close.Goals as goal

pub join_seat-requires : goal.join_seat-requires
join_seat-requires c = (
  search rules,
  search rules,
  search rules,
  search rules,
  rw c.args.self.key (joins c.args.self.places _ _ _ _ _ _ (ap (λ m. m.0) c.args.owner.owns) (ap (λ m. m.0) c.args.peer.decides)),
)

pub returns-clause-agreed : goal.returns-clause-agreed
returns-clause-agreed c =
    let now = ap (λ m. m.0) c.join_seat.ensures.2 ∙ (λ i. both_parts (c.args.owner.owns i).0 (c.args.peer.decides i).0) in
    let end = ends c.args.self.table.shared.key _ _ _ _ _ _ now c.close_with.ensures.values.2 in
    subst (λ (k : ℕ). Agreed k (owner_of c.args.owner) (peer_of c.args.peer)) c.args.self.key end.0
