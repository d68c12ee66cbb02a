use Rattle.std.proofs.Common.{rules, ◌≡◌, ℕ, ◌%◌, ◌<◌, ◌∙◌, Some, None, sym, ap, subst, arith, length, set, is_some}
use Rattle.ac_base.specs.Stamps.{stamp_after}
use Rattle.core_channels.specs.declared.answers.Learning.{Learning}
use Rattle.completion_word.specs.Seats.{owner_of}
use Rattle.completion_word.specs.Link.{offer_at}
use Rattle.channel_ends.specs.declared.marks.Heard.{Heard}
use Rattle.channel_ends.specs.declared.marks.Mark.TheVariants.{Known, Seen}
use Rattle.channel_ends.specs.Sending.{known_lead}
use Rattle.channel_ends.specs.Learns.{IsHeardOnly, Learns}
use Rattle.channel_ends.specs.inner.Fields.{notes_of}
use Rattle.channel_ends.specs.inner.Catching.{HearsOne}
use Rattle.channel_ends.specs.inner.Knowing.{IsKnownFrom}
use Rattle.channel_ends.proofs.Offering.{offered_is, known_is}
use Rattle.channel_ends.proofs.Learning.{same_stamps, is_nothing, withdrawn_is, undecided_noted, is_undecided, seen_noted, heard_only, known_noted, knows}
use Rattle.channel_ends.proofs.side.OwnerSide.learn.Goals as goal
use Rattle.channel_ends.proofs.side.OwnerSide.learn.Goals.{then-withdrawn, else-withdrawn}

pub returns-then-number-offered-clause-answer : goal.returns-then-number-offered-clause-answer
returns-then-number-offered-clause-answer c = (
  known_is c.self.inside c.args.self.now c.self.view_is c.self.invariant ∙ c.if-number-offered.true ∙ c.offered-offered.ensures
      ∙ sym (offered_is c.self.inside c.args.self.now c.self.view_is c.self.invariant),
  search rules,
)

pub invariant_of-self : goal.invariant_of-self
invariant_of-self c =
    let some : c.self.inside.lead < length (owner_of c.self.inside.owner).offers = omega (arith, c.if-number-offered.false, c.self.invariant.lead_within, c.offered-offered.ensures) in
    undecided_noted c.self.inside c.args.self.now c.self.view_is c.self.invariant c.hear-heard.new.owner some
    (subst (λ (h : Heard). HearsOne c.self.inside.lead (owner_of c.self.inside.owner) h (owner_of c.hear-heard.new.owner)) (is_nothing c.hear-heard.result c.in_default.not-Decided)
    c.hear-heard.ensures.view)

pub returns-in_default-clause-answer : goal.returns-in_default-clause-answer
returns-in_default-clause-answer c =
    let some : c.self.inside.lead < length (owner_of c.self.inside.owner).offers = omega (arith, c.if-number-offered.false, c.self.invariant.lead_within, c.offered-offered.ensures) in
    is_undecided c.self.inside c.args.self.now c.self.view_is c.self.invariant c.hear-heard.new.owner some
    (subst (λ (h : Heard). HearsOne c.self.inside.lead (owner_of c.self.inside.owner) h (owner_of c.hear-heard.new.owner)) (is_nothing c.hear-heard.result c.in_default.not-Decided)
    c.hear-heard.ensures.view)
    (c.hear-heard.ensures.seat ∙ sym c.requires.words)

pub invariant_of-self-in_default-after : goal.invariant_of-self-in_default-after
invariant_of-self-in_default-after c =
    let some : c.self.inside.lead < length (owner_of c.self.inside.owner).offers = omega (arith, c.if-number-offered.false, c.self.invariant.lead_within, c.offered-offered.ensures) in
    let len : length c.self.inside.marks ≡ 64 = search rules in
    let h = c.in-Decided.ensures.view in
    seen_noted c.self.inside c.args.self.now c.self.view_is c.self.invariant c.hear-heard.new.owner c.self.inside.lead c.in-Decided.decided (omega arith) some
    (same_stamps (owner_of c.self.inside.owner) (owner_of c.hear-heard.new.owner) h.same) h.same.last h.same.told h.learned h.others h.told_so.0 h.told_so.2 h.loads len
    (c.in-Decided.ensures.seat ∙ sym c.requires.words) c.in-Decided.withdrawn (h.told_so.1 ∙ sym (ap (λ xs. is_some (offer_at xs c.self.inside.lead).withdrawn) h.same.offers))

pub returns-in_default-after-clause-answer : goal.returns-in_default-after-clause-answer
returns-in_default-after-clause-answer c =
    let some : c.self.inside.lead < length (owner_of c.self.inside.owner).offers = omega (arith, c.if-number-offered.false, c.self.invariant.lead_within, c.offered-offered.ensures) in
    let len : length c.self.inside.marks ≡ 64 = search rules in
    let none : stamp_after c.args.clock.now c.in-Decided.decided ≡ None = search rules in
    let lead = known_is c.self.inside c.args.self.now c.self.view_is c.self.invariant in
    let h = c.in-Decided.ensures.view in (
      omega (arith, lead, offered_is c.self.inside c.args.self.now c.self.view_is c.self.invariant, some),
      subst (λ (k : ℕ). IsHeardOnly c.args.self.now c.args.clock.now k (notes_of (record {
        owner = c.hear-heard.new.owner;
        lead = c.self.inside.lead;
        marks = set c.self.inside.marks (c.self.inside.lead % 64) (Seen c.in-Decided.withdrawn c.in-Decided.decided);
      }))) (sym lead)
          (heard_only c.self.inside c.args.self.now c.self.view_is c.self.invariant c.hear-heard.new.owner c.self.inside.lead c.in-Decided.decided (omega arith) some
          (same_stamps (owner_of c.self.inside.owner) (owner_of c.hear-heard.new.owner) h.same) h.same.last h.same.told h.learned h.others h.told_so.0 h.told_so.2 h.loads len
          (c.in-Decided.ensures.seat ∙ sym c.requires.words) c.in-Decided.withdrawn c.args.clock.now (c.self.invariant.first some) none),
    )

pub invariant_of-self-2 : goal.invariant_of-self-2
invariant_of-self-2 c =
    let some : c.self.inside.lead < length (owner_of c.self.inside.owner).offers = omega (arith, c.if-number-offered.false, c.self.invariant.lead_within, c.offered-offered.ensures) in
    let len : length c.self.inside.marks ≡ 64 = search rules in
    let h = c.in-Decided.ensures.view in
    let marks = set c.self.inside.marks (c.self.inside.lead % 64) Known in
    known_noted c.self.inside c.args.self.now c.self.view_is c.self.invariant c.hear-heard.new.owner c.self.inside.lead c.in-Decided.decided (omega arith) some
    (same_stamps (owner_of c.self.inside.owner) (owner_of c.hear-heard.new.owner) h.same) h.same.last h.same.told h.learned h.others h.told_so.0 h.told_so.2 h.loads len
    (c.in-Decided.ensures.seat ∙ sym c.requires.words) c.first_unknown-self-inside.result
    (subst (λ (m : ℕ). IsKnownFrom marks c.self.inside.lead m c.first_unknown-self-inside.result) (c.offered-offered.ensures ∙ sym (ap length h.same.offers))
    c.first_unknown-self-inside.ensures)

pub returns-clause-answer : goal.returns-clause-answer
returns-clause-answer c =
    let some : c.self.inside.lead < length (owner_of c.self.inside.owner).offers = omega (arith, c.if-number-offered.false, c.self.invariant.lead_within, c.offered-offered.ensures) in
    let len : length c.self.inside.marks ≡ 64 = search rules in
    let next : stamp_after c.args.clock.now c.in-Decided.decided ≡ Some c.in-Some.stamp = search rules in
    let lead = known_is c.self.inside c.args.self.now c.self.view_is c.self.invariant in
    let below : known_lead c.args.self.now.offers < length c.args.self.now.offers = omega (arith, lead, offered_is c.self.inside c.args.self.now c.self.view_is c.self.invariant, some) in
    let h = c.in-Decided.ensures.view in
    let marks = set c.self.inside.marks (c.self.inside.lead % 64) Known in
    let end = c.first_unknown-self-inside.result in
    let gone = withdrawn_is c.self.inside c.args.self.now c.self.view_is c.self.invariant c.self.inside.lead some ∙ sym h.told_so.1 in
    let it = knows c.self.inside c.args.self.now c.self.view_is c.self.invariant c.hear-heard.new.owner c.self.inside.lead c.in-Decided.decided (omega arith) some
    (same_stamps (owner_of c.self.inside.owner) (owner_of c.hear-heard.new.owner) h.same) h.same.last h.same.told h.learned h.others h.told_so.0 h.told_so.2 h.loads len
    (c.in-Decided.ensures.seat ∙ sym c.requires.words) end
    (subst (λ (m : ℕ). IsKnownFrom marks c.self.inside.lead m end) (c.offered-offered.ensures ∙ sym (ap length h.same.offers)) c.first_unknown-self-inside.ensures)
    c.args.clock.now c.in-Some.stamp next in
    let new = notes_of (record { owner = c.hear-heard.new.owner; lead = end; marks = marks }) in
    elim c.if-withdrawn.branch [
      | then-withdrawn w ↦ subst (λ (r : Learning). Learns c.args.self.now c.args.clock.now r new) (sym w.result-is) (below, sym lead, gone ∙ w.if-withdrawn.true, it)
      | else-withdrawn w ↦ subst (λ (r : Learning). Learns c.args.self.now c.args.clock.now r new) (sym w.result-is) (below, sym lead, gone ∙ w.if-withdrawn.false, it)
    ]
