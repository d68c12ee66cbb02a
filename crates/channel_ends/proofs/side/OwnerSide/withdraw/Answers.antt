use Rattle.std.proofs.Common.{rules, inr, ◌≡◌, ℕ, ◌%◌, ◌∙◌, sym, ap, subst, arith, length, set}
use Rattle.core_channels.proofs.Stamping.{stamp_rises}
use Rattle.completion_word.specs.Seats.{owner_of}
use Rattle.channel_ends.proofs.Offering.{last_within}
use Rattle.channel_ends.proofs.Withdrawing.{is_open, nothing, not_learned, offer_is_open, gone_noted, withdrawn_so, told_less}
use Rattle.channel_ends.proofs.Withdrawing.{Finds, finds_seen, finds_taken, late_noted, late_heard, late_known_noted, late_knows}
use Rattle.channel_ends.specs.declared.side.OwnerSide.TheInside.{Inside}
use Rattle.channel_ends.specs.declared.marks.Mark.TheVariants.{Known}
use Rattle.channel_ends.specs.inner.Knowing.{IsKnownFrom}
use Rattle.channel_ends.proofs.side.OwnerSide.withdraw.Goals as goal
use Rattle.channel_ends.proofs.side.OwnerSide.withdraw.Goals.{in-Seen, in_default+in-Some+in-Taken}

pub withdraw-requires : goal.withdraw-requires
withdraw-requires c =
    let o = is_open c.self.inside c.args.self.now c.self.view_is c.self.invariant c.args.number c.requires.open in
    record {
      seat = ap (λ v. v.table) c.self.view_is ∙ c.requires.words;
      number = (not_learned c.self.inside c.args.self.now c.self.view_is c.self.invariant c.args.number c.requires.open c.in_default.not-Seen, o.inside);
      «open» = offer_is_open c.self.inside c.args.self.now c.self.view_is c.self.invariant c.args.number c.requires.open c.in_default.not-Seen;
      stamp = (
        omega (
          arith,
          last_within c.self.inside c.args.self.now c.self.view_is c.self.invariant c.args.clock.now c.requires.within,
          stamp_rises c.args.clock.now 0 c.in-Some.stamp (search rules),
        ),
        search rules,
      );
    }

pub invariant_of-self : goal.invariant_of-self
invariant_of-self c =
    let o = is_open c.self.inside c.args.self.now c.self.view_is c.self.invariant c.args.number c.requires.open in
    gone_noted c.self.inside c.args.self.now c.self.view_is c.self.invariant c.args.number c.in-Some.stamp o
    (nothing c.self.inside c.args.self.now c.self.view_is c.self.invariant c.args.number c.requires.open c.in_default.not-Seen) c.withdraw.new.owner c.in-Withdrawn.ensures.view

pub returns-in-Withdrawn : goal.returns-in-Withdrawn
returns-in-Withdrawn c =
    let o = is_open c.self.inside c.args.self.now c.self.view_is c.self.invariant c.args.number c.requires.open in
    record {
      answer = withdrawn_so c.self.inside c.args.self.now c.self.view_is c.self.invariant c.args.number c.in-Some.stamp o
          (nothing c.self.inside c.args.self.now c.self.view_is c.self.invariant c.args.number c.requires.open c.in_default.not-Seen) c.withdraw.new.owner c.in-Withdrawn.ensures.view
          c.args.clock.now (search rules) (omega (arith, told_less (owner_of c.self.inside.owner) c.args.number c.in-Withdrawn.ensures.told, ap (λ v. v.told) c.self.view_is))
          (c.in-Withdrawn.ensures.seat ∙ sym c.requires.words ∙ sym (ap (λ v. v.table) c.self.view_is));
      clock = search rules;
    }

pub invariant_of-self-in_default-after-2 : goal.invariant_of-self-in_default-after-2
invariant_of-self-in_default-after-2 c =
    let o = is_open c.self.inside c.args.self.now c.self.view_is c.self.invariant c.args.number c.requires.open in
    let len : length c.self.inside.marks ≡ 64 = search rules in
    let found : Finds c.self.inside c.args.number c.match-self-at.taken c.match-self-at.self-inside = elim c.match-self-at.branch [
      | in-Seen w ↦ subst (λ (now : Inside). Finds c.self.inside c.args.number c.match-self-at.taken now) (sym w.self-inside-is)
          (subst (λ (t : ℕ). Finds c.self.inside c.args.number t c.self.inside) (sym w.taken-is) (finds_seen c.self.inside c.args.number w.in-Seen.stamp _ c.self.invariant o w.in-Seen.is))
      | in_default+in-Some+in-Taken w ↦ subst (λ (now : Inside). Finds c.self.inside c.args.number c.match-self-at.taken now) (sym w.self-inside-is)
          (subst (λ (t : ℕ). Finds c.self.inside c.args.number t (record { owner = w.withdraw.new.owner; lead = c.self.inside.lead; marks = c.self.inside.marks })) (sym w.taken-is)
          (finds_taken c.self.inside c.args.number w.in-Some.stamp w.in-Taken.stamp w.withdraw.new.owner o
          (nothing c.self.inside c.args.self.now c.self.view_is c.self.invariant c.args.number c.requires.open w.in_default.not-Seen)
          (not_learned c.self.inside c.args.self.now c.self.view_is c.self.invariant c.args.number c.requires.open w.in_default.not-Seen)
          (w.in-Taken.ensures.seat ∙ sym c.requires.words ∙ sym (ap (λ v. v.table) c.self.view_is)) w.in-Taken.ensures.view))
    ] in
    late_noted c.self.inside c.args.self.now c.self.view_is c.self.invariant c.args.number c.match-self-at.taken o c.match-self-at.self-inside found len

pub returns-in_default-after-2-clause-answer : goal.returns-in_default-after-2-clause-answer
returns-in_default-after-2-clause-answer c =
    let o = is_open c.self.inside c.args.self.now c.self.view_is c.self.invariant c.args.number c.requires.open in
    let len : length c.self.inside.marks ≡ 64 = search rules in
    let found : Finds c.self.inside c.args.number c.match-self-at.taken c.match-self-at.self-inside = elim c.match-self-at.branch [
      | in-Seen w ↦ subst (λ (now : Inside). Finds c.self.inside c.args.number c.match-self-at.taken now) (sym w.self-inside-is)
          (subst (λ (t : ℕ). Finds c.self.inside c.args.number t c.self.inside) (sym w.taken-is) (finds_seen c.self.inside c.args.number w.in-Seen.stamp _ c.self.invariant o w.in-Seen.is))
      | in_default+in-Some+in-Taken w ↦ subst (λ (now : Inside). Finds c.self.inside c.args.number c.match-self-at.taken now) (sym w.self-inside-is)
          (subst (λ (t : ℕ). Finds c.self.inside c.args.number t (record { owner = w.withdraw.new.owner; lead = c.self.inside.lead; marks = c.self.inside.marks })) (sym w.taken-is)
          (finds_taken c.self.inside c.args.number w.in-Some.stamp w.in-Taken.stamp w.withdraw.new.owner o
          (nothing c.self.inside c.args.self.now c.self.view_is c.self.invariant c.args.number c.requires.open w.in_default.not-Seen)
          (not_learned c.self.inside c.args.self.now c.self.view_is c.self.invariant c.args.number c.requires.open w.in_default.not-Seen)
          (w.in-Taken.ensures.seat ∙ sym c.requires.words ∙ sym (ap (λ v. v.table) c.self.view_is)) w.in-Taken.ensures.view))
    ] in
    inr (late_heard c.self.inside c.args.self.now c.self.view_is c.self.invariant c.args.number c.match-self-at.taken o c.match-self-at.self-inside found len c.args.clock.now
    (search rules))

pub invariant_of-self-2 : goal.invariant_of-self-2
invariant_of-self-2 c =
    let o = is_open c.self.inside c.args.self.now c.self.view_is c.self.invariant c.args.number c.requires.open in
    let len : length c.self.inside.marks ≡ 64 = search rules in
    let found : Finds c.self.inside c.args.number c.match-self-at.taken c.match-self-at.self-inside = elim c.match-self-at.branch [
      | in-Seen w ↦ subst (λ (now : Inside). Finds c.self.inside c.args.number c.match-self-at.taken now) (sym w.self-inside-is)
          (subst (λ (t : ℕ). Finds c.self.inside c.args.number t c.self.inside) (sym w.taken-is) (finds_seen c.self.inside c.args.number w.in-Seen.stamp _ c.self.invariant o w.in-Seen.is))
      | in_default+in-Some+in-Taken w ↦ subst (λ (now : Inside). Finds c.self.inside c.args.number c.match-self-at.taken now) (sym w.self-inside-is)
          (subst (λ (t : ℕ). Finds c.self.inside c.args.number t (record { owner = w.withdraw.new.owner; lead = c.self.inside.lead; marks = c.self.inside.marks })) (sym w.taken-is)
          (finds_taken c.self.inside c.args.number w.in-Some.stamp w.in-Taken.stamp w.withdraw.new.owner o
          (nothing c.self.inside c.args.self.now c.self.view_is c.self.invariant c.args.number c.requires.open w.in_default.not-Seen)
          (not_learned c.self.inside c.args.self.now c.self.view_is c.self.invariant c.args.number c.requires.open w.in_default.not-Seen)
          (w.in-Taken.ensures.seat ∙ sym c.requires.words ∙ sym (ap (λ v. v.table) c.self.view_is)) w.in-Taken.ensures.view))
    ] in
    let marks = set c.match-self-at.self-inside.marks (c.args.number % 64) Known in
    late_known_noted c.self.inside c.args.self.now c.self.view_is c.self.invariant c.args.number c.match-self-at.taken o c.match-self-at.self-inside found len
    c.first_unknown-self-inside.result
    (subst (λ (m : ℕ). IsKnownFrom marks c.match-self-at.self-inside.lead m c.first_unknown-self-inside.result) c.offered.ensures c.first_unknown-self-inside.ensures)

pub returns-clause-answer : goal.returns-clause-answer
returns-clause-answer c =
    let o = is_open c.self.inside c.args.self.now c.self.view_is c.self.invariant c.args.number c.requires.open in
    let len : length c.self.inside.marks ≡ 64 = search rules in
    let found : Finds c.self.inside c.args.number c.match-self-at.taken c.match-self-at.self-inside = elim c.match-self-at.branch [
      | in-Seen w ↦ subst (λ (now : Inside). Finds c.self.inside c.args.number c.match-self-at.taken now) (sym w.self-inside-is)
          (subst (λ (t : ℕ). Finds c.self.inside c.args.number t c.self.inside) (sym w.taken-is) (finds_seen c.self.inside c.args.number w.in-Seen.stamp _ c.self.invariant o w.in-Seen.is))
      | in_default+in-Some+in-Taken w ↦ subst (λ (now : Inside). Finds c.self.inside c.args.number c.match-self-at.taken now) (sym w.self-inside-is)
          (subst (λ (t : ℕ). Finds c.self.inside c.args.number t (record { owner = w.withdraw.new.owner; lead = c.self.inside.lead; marks = c.self.inside.marks })) (sym w.taken-is)
          (finds_taken c.self.inside c.args.number w.in-Some.stamp w.in-Taken.stamp w.withdraw.new.owner o
          (nothing c.self.inside c.args.self.now c.self.view_is c.self.invariant c.args.number c.requires.open w.in_default.not-Seen)
          (not_learned c.self.inside c.args.self.now c.self.view_is c.self.invariant c.args.number c.requires.open w.in_default.not-Seen)
          (w.in-Taken.ensures.seat ∙ sym c.requires.words ∙ sym (ap (λ v. v.table) c.self.view_is)) w.in-Taken.ensures.view))
    ] in
    let marks = set c.match-self-at.self-inside.marks (c.args.number % 64) Known in
    late_knows c.self.inside c.args.self.now c.self.view_is c.self.invariant c.args.number c.match-self-at.taken o c.match-self-at.self-inside found len
    c.first_unknown-self-inside.result
    (subst (λ (m : ℕ). IsKnownFrom marks c.match-self-at.self-inside.lead m c.first_unknown-self-inside.result) c.offered.ensures c.first_unknown-self-inside.ensures)
    c.args.clock.now c.in-Some-after.stamp (search rules)
