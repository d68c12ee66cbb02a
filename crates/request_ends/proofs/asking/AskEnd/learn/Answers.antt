use Rattle.std.proofs.Common.{◌≡◌, ◌-◌, ◌≤◌, ◌<◌, ◌∙◌, length, sym, ap, subst, arith}
use Rattle.std.specs.Prelude.{slice_set}
use Rattle.channel_ends.specs.Sending.{AreWithin}
use Rattle.request_ends.specs.declared.marks.Asked.TheVariants.{Started}
use Rattle.request_ends.specs.Asking.{Asking, asked, requests_of}
use Rattle.request_ends.specs.Requesting.{IsKnownIn}
use Rattle.request_ends.proofs.Keeping.{learnt_place, learnt_keeps, learnt_lists, room_learnt}
use Rattle.request_ends.proofs.asking.AskEnd.learn.Goals as goal

pub place_of-at-requires-clause-fewer : goal.place_of-at-requires-clause-fewer
place_of-at-requires-clause-fewer c =
    let w = c.in-Know.ensures.answer in
    let p : length c.self.inside.marks.list ≤ length c.learn.new.self.notes.offers =
    (learnt_place c.self.inside c.self.invariant c.args.clock.now c.in-Know.number c.in-Know.stamp c.learn.new.self w.0 w.1 w.2 w.3 c.learn.ensures.end).0 in
    let a = c.offered.ensures in
    let b = c.len.ensures in
    omega arith

pub place_of-at-requires-clause-marked : goal.place_of-at-requires-clause-marked
place_of-at-requires-clause-marked c =
    let w = c.in-Know.ensures.answer in
    let p : length c.learn.new.self.notes.offers - length c.self.inside.marks.list ≤ c.in-Know.number =
    (learnt_place c.self.inside c.self.invariant c.args.clock.now c.in-Know.number c.in-Know.stamp c.learn.new.self w.0 w.1 w.2 w.3 c.learn.ensures.end).1 in
    let a = c.offered.ensures in
    let b = c.len.ensures in
    omega arith

pub set-requires : goal.set-requires
set-requires c =
    let w = c.in-Know.ensures.answer in
    let p : c.in-Know.number - (length c.learn.new.self.notes.offers - length c.self.inside.marks.list) < length c.self.inside.marks.list =
    (learnt_place c.self.inside c.self.invariant c.args.clock.now c.in-Know.number c.in-Know.stamp c.learn.new.self w.0 w.1 w.2 w.3 c.learn.ensures.end).2 in
    let a = c.offered.ensures in
    let b = c.len.ensures in
    let d = c.place_of-at.ensures in
    omega arith

pub invariant_of-self : goal.invariant_of-self
invariant_of-self c =
    let i = c.self.inside in
    let w = c.in-Know.ensures.answer in
    let at : c.place_of-at.result ≡ c.in-Know.number - (length c.learn.new.self.notes.offers - length i.marks.list) =
    c.place_of-at.ensures ∙ ap (λ n. c.in-Know.number - (n - c.len.result)) c.offered.ensures
    ∙ ap (λ n. c.in-Know.number - (length c.learn.new.self.notes.offers - n)) c.len.ensures in
    learnt_keeps i c.self.invariant c.args.clock.now c.in-Know.number c.in-Know.stamp c.learn.new.self w.0 w.1 w.2 w.3 c.learn.ensures.end c.set.new.self
    (c.set.ensures.list ∙ ap (λ n. slice_set i.marks.list n Started) at)

pub invariant_of-self-in-Room : goal.invariant_of-self-in-Room
invariant_of-self-in-Room c =
    let w = c.in-Room.ensures.answer in
    room_learnt c.self.inside c.args.clock.now c.in-Room.number c.in-Room.stamp c.learn.new.self c.self.invariant w.3 w.2 c.learn.ensures.end

pub returns-in-Know-clause-list : goal.returns-in-Know-clause-list
returns-in-Know-clause-list c =
    subst (λ (a : Asking). IsKnownIn (requests_of a) c.args.clock.now c.in-Know.number c.in-Know.stamp
    (asked c.learn.new.self.payloads c.learn.new.self.notes.offers c.self.inside.inbox.had)) c.self.view_is
    (learnt_lists c.self.inside c.args.clock.now c.in-Know.number c.in-Know.stamp c.learn.new.self c.in-Know.ensures.answer.3 c.learn.ensures.end)

pub returns-in-Know-clause-within : goal.returns-in-Know-clause-within
returns-in-Know-clause-within c = λ w. c.learn.ensures.within (subst (λ (a : Asking). AreWithin c.args.clock.now a.send.notes.offers) (sym c.self.view_is) w)

pub returns-in-Room-clause-list : goal.returns-in-Room-clause-list
returns-in-Room-clause-list c =
    subst (λ (a : Asking). IsKnownIn (requests_of a) c.args.clock.now c.in-Room.number c.in-Room.stamp
    (asked c.learn.new.self.payloads c.learn.new.self.notes.offers c.self.inside.inbox.had)) c.self.view_is
    (learnt_lists c.self.inside c.args.clock.now c.in-Room.number c.in-Room.stamp c.learn.new.self c.in-Room.ensures.answer.3 c.learn.ensures.end)

pub returns-in-Room-clause-within : goal.returns-in-Room-clause-within
returns-in-Room-clause-within c = λ w. c.learn.ensures.within (subst (λ (a : Asking). AreWithin c.args.clock.now a.send.notes.offers) (sym c.self.view_is) w)
