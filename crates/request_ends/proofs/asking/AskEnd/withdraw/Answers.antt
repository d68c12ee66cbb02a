use Rattle.std.proofs.Common.{List, Some, ◌≡◌, ◌-◌, ◌≤◌, ◌<◌, ◌∙◌, length, sym, ap, subst, refl, arith}
use Rattle.ac_base.specs.declared.entry.Payload.{Payload}
use Rattle.std.specs.Prelude.{slice_get, slice_set}
use Rattle.ac_links.specs.Views.{altered, withdrawn_at as withdrawn_in}
use Rattle.channel_ends.specs.Sending.{Sending, OwnerNotes, withdrawn_at, known_at}
use Rattle.channel_ends.specs.Withdraws.{MayWithdraw}
use Rattle.request_ends.specs.declared.marks.Asked.{Asked}
use Rattle.request_ends.specs.declared.marks.Asked.TheVariants.{Gone, Started}
use Rattle.request_ends.specs.Asking.{Asking, asked, requests_of}
use Rattle.request_ends.specs.Requesting.{IsKnownIn}
use Rattle.request_ends.specs.Marking.{IsAsking, asking_of}
use Rattle.request_ends.proofs.Keeping.{place_below, changed, skip_keeps, front_keeps, started_front, withdrawn_lists, known_lists}
use Rattle.request_ends.proofs.asking.AskEnd.withdraw.Goals as goal

pub place_of-at-requires-clause-fewer : goal.place_of-at-requires-clause-fewer
place_of-at-requires-clause-fewer c =
    let may = subst (λ (a : Asking). MayWithdraw (slice_get a.send.notes.offers c.args.number)) (sym c.self.view_is) c.requires.open in
    let p : length c.self.inside.marks.list ≤ length c.self.inside.send.notes.offers = (place_below c.self.inside c.args.number c.self.invariant may).0 in
    let a = c.offered.ensures in
    let b = c.len.ensures in
    omega arith

pub place_of-at-requires-clause-marked : goal.place_of-at-requires-clause-marked
place_of-at-requires-clause-marked c =
    let may = subst (λ (a : Asking). MayWithdraw (slice_get a.send.notes.offers c.args.number)) (sym c.self.view_is) c.requires.open in
    let p : length c.self.inside.send.notes.offers - length c.self.inside.marks.list ≤ c.args.number = (place_below c.self.inside c.args.number c.self.invariant may).1 in
    let a = c.offered.ensures in
    let b = c.len.ensures in
    omega arith

pub set-requires : goal.set-requires
set-requires c =
    let may = subst (λ (a : Asking). MayWithdraw (slice_get a.send.notes.offers c.args.number)) (sym c.self.view_is) c.requires.open in
    let p : c.args.number - (length c.self.inside.send.notes.offers - length c.self.inside.marks.list) < length c.self.inside.marks.list =
    (place_below c.self.inside c.args.number c.self.invariant may).2 in
    let a = c.offered.ensures in
    let b = c.len.ensures in
    let d = c.place_of-at.ensures in
    omega arith

pub invariant_of-self : goal.invariant_of-self
invariant_of-self c =
    let i = c.self.inside in
    let may = subst (λ (a : Asking). MayWithdraw (slice_get a.send.notes.offers c.args.number)) (sym c.self.view_is) c.requires.open in
    let w = c.in-Withdrawn.ensures.answer in
    let at : c.place_of-at.result ≡ c.args.number - (length i.send.notes.offers - length i.marks.list) =
    c.place_of-at.ensures ∙ ap (λ n. c.args.number - (n - c.len.result)) c.offered.ensures
    ∙ ap (λ n. c.args.number - (length i.send.notes.offers - n)) c.len.ensures in
    let m = changed i c.self.invariant c.args.number may (withdrawn_at c.in-Withdrawn.stamp) Gone c.withdraw.new.self.notes c.set.new.self
    (ap (λ (n : OwnerNotes). n.offers) w.after) (ap (λ (n : OwnerNotes). n.table) w.after)
    (c.set.ensures.list ∙ ap (λ n. slice_set i.marks.list n Gone) at) (λ o e f. refl) (λ o known. known) in
    subst (λ (send : Sending Payload). IsAsking (record { send = send; inbox = i.inbox; marks = c.skip.new.self; replied = i.replied })) (sym c.withdraw.ensures.end)
    (skip_keeps (record { send = record i.send { notes = c.withdraw.new.self.notes }; inbox = i.inbox; marks = c.set.new.self; replied = i.replied }) c.skip.new.self m
    c.skip.ensures)

pub set-requires-in-Taken : goal.set-requires-in-Taken
set-requires-in-Taken c =
    let may = subst (λ (a : Asking). MayWithdraw (slice_get a.send.notes.offers c.args.number)) (sym c.self.view_is) c.requires.open in
    let p : c.args.number - (length c.self.inside.send.notes.offers - length c.self.inside.marks.list) < length c.self.inside.marks.list =
    (place_below c.self.inside c.args.number c.self.invariant may).2 in
    let a = c.offered.ensures in
    let b = c.len.ensures in
    let d = c.place_of-at.ensures in
    omega arith

pub invariant_of-self-in-Taken : goal.invariant_of-self-in-Taken
invariant_of-self-in-Taken c =
    let i = c.self.inside in
    let may = subst (λ (a : Asking). MayWithdraw (slice_get a.send.notes.offers c.args.number)) (sym c.self.view_is) c.requires.open in
    let w = c.in-Taken.ensures.answer in
    let at : c.place_of-at.result ≡ c.args.number - (length i.send.notes.offers - length i.marks.list) =
    c.place_of-at.ensures ∙ ap (λ n. c.args.number - (n - c.len.result)) c.offered.ensures
    ∙ ap (λ n. c.args.number - (length i.send.notes.offers - n)) c.len.ensures in
    let m = changed i c.self.invariant c.args.number may (known_at w.of) Started c.withdraw.new.self.notes c.set-in-Taken.new.self
    w.offers w.hears.table (c.set-in-Taken.ensures.list ∙ ap (λ n. slice_set i.marks.list n Started) at) (λ o e f. (e, refl)) (λ o known. refl) in
    subst (λ (send : Sending Payload). IsAsking (record { send = send; inbox = i.inbox; marks = c.set-in-Taken.new.self; replied = i.replied })) (sym c.withdraw.ensures.end)
    (front_keeps (record { send = record i.send { notes = c.withdraw.new.self.notes }; inbox = i.inbox; marks = c.set-in-Taken.new.self; replied = i.replied }) m
    (subst (λ (ms : List Asked). slice_get ms 0 ≡ Some Gone → ⊥) (sym c.set-in-Taken.ensures.list) (started_front i.marks.list c.place_of-at.result c.self.invariant.front)))

pub returns-in-Withdrawn-clause-list : goal.returns-in-Withdrawn-clause-list
returns-in-Withdrawn-clause-list c =
    let i = c.self.inside in
    let may = subst (λ (a : Asking). MayWithdraw (slice_get a.send.notes.offers c.args.number)) (sym c.self.view_is) c.requires.open in
    let w = c.in-Withdrawn.ensures.answer in
    let s = c.in-Withdrawn.stamp in
    ap (λ (send : Sending Payload). asked send.payloads send.notes.offers i.inbox.had) c.withdraw.ensures.end
    ∙ ap (λ (n : OwnerNotes). asked i.send.payloads n.offers i.inbox.had) w.after
    ∙ withdrawn_lists i c.self.invariant c.args.number may s
    ∙ ap (λ (a : Asking). altered (requests_of a) c.args.number (withdrawn_in s)) c.self.view_is

pub returns-in-Taken-clause-list : goal.returns-in-Taken-clause-list
returns-in-Taken-clause-list c =
    let i = c.self.inside in
    subst (λ (a : Asking). IsKnownIn (requests_of a) c.args.clock.now c.args.number c.in-Taken.stamp (asked c.withdraw.new.self.payloads c.withdraw.new.self.notes.offers i.inbox.had))
    c.self.view_is
    (subst (λ (send : Sending Payload). IsKnownIn (requests_of (asking_of i)) c.args.clock.now c.args.number c.in-Taken.stamp (asked send.payloads send.notes.offers i.inbox.had))
    (sym c.withdraw.ensures.end)
    (known_lists i c.args.clock.now c.args.number c.in-Taken.stamp c.withdraw.new.self.notes c.in-Taken.ensures.answer))
