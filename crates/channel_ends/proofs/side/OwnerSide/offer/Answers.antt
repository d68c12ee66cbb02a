use Rattle.std.proofs.Common.{rules, ◌≡◌, ◌+◌, ◌<◌, ◌≤◌, ◌∙◌, sym, ap, arith, length}
use Rattle.completion_word.specs.Seats.{owner_of}
use Rattle.channel_ends.proofs.Offering.{room_is, last_within, posted_noted, adds}
use Rattle.channel_ends.proofs.side.OwnerSide.offer.Goals as goal

pub post-requires-clause-room : goal.post-requires-clause-room
post-requires-clause-room c =
    let places : c.args.self.now.table.words ≡ c.args.words.now.places = ap (λ x. x.words) c.requires.words ∙ c.args.words.now.counts.0 in
    omega (
      arith,
      room_is c.self.inside c.args.self.now c.self.view_is c.self.invariant c.requires.room,
      places,
      ap length c.catch_up.ensures.view.goes.same.offers,
      c.catch_up.ensures.view.learned,
    )

pub post-requires-clause-stamp : goal.post-requires-clause-stamp
post-requires-clause-stamp c = (
  omega (
    arith,
    last_within c.self.inside c.args.self.now c.self.view_is c.self.invariant c.requires.within.0 c.requires.within.1,
    c.requires.within.2,
    c.catch_up.ensures.view.goes.same.last,
  ),
  c.requires.stamp,
)

pub invariant_of-self : goal.invariant_of-self
invariant_of-self c =
    let places : c.args.self.now.table.words ≡ c.args.words.now.places = ap (λ x. x.words) c.requires.words ∙ c.args.words.now.counts.0 in
    let room : length (owner_of c.catch_up.new.owner).offers < c.self.inside.lead + 64 =
    omega (
      arith,
      room_is c.self.inside c.args.self.now c.self.view_is c.self.invariant c.requires.room,
      places,
      ap length c.catch_up.ensures.view.goes.same.offers,
      c.args.words.now.sized.1,
    ) in
    let len : length c.self.inside.marks ≡ 64 = search rules in
    let learned : length (owner_of c.catch_up.new.owner).learned ≤ length (owner_of c.catch_up.new.owner).offers =
    omega (arith, c.catch_up.new.owner.near.0, c.catch_up.new.owner.counts.0, c.catch_up.new.owner.counts.1) in
    posted_noted c.self.inside c.args.self.now c.self.view_is c.self.invariant c.catch_up.new.owner c.post.new.owner c.args.stamp c.offered-number.result c.catch_up.ensures.view.goes
    c.post.ensures.view c.offered-number.ensures len learned room (c.post.ensures.seat ∙ sym c.requires.words)

pub returns : goal.returns
returns c =
    let places : c.args.self.now.table.words ≡ c.args.words.now.places = ap (λ x. x.words) c.requires.words ∙ c.args.words.now.counts.0 in
    let room : length (owner_of c.catch_up.new.owner).offers < c.self.inside.lead + 64 =
    omega (
      arith,
      room_is c.self.inside c.args.self.now c.self.view_is c.self.invariant c.requires.room,
      places,
      ap length c.catch_up.ensures.view.goes.same.offers,
      c.args.words.now.sized.1,
    ) in
    let len : length c.self.inside.marks ≡ 64 = search rules in
    let learned : length (owner_of c.catch_up.new.owner).learned ≤ length (owner_of c.catch_up.new.owner).offers =
    omega (arith, c.catch_up.new.owner.near.0, c.catch_up.new.owner.counts.0, c.catch_up.new.owner.counts.1) in
    adds c.self.inside c.args.self.now c.self.view_is c.self.invariant c.catch_up.new.owner c.post.new.owner c.args.stamp c.offered-number.result c.catch_up.ensures.view.goes
    c.post.ensures.view c.offered-number.ensures len learned room (c.post.ensures.seat ∙ sym c.requires.words)
