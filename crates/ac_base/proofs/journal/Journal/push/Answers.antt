-- The further ints of its message are the last, so what was stored before stays what it is.
use Rattle.std.proofs.Common.{◌≡◌, ◌∷◌, ◌++◌, [], ◌∙◌, ap, arith}
use Rattle.ac_base.specs.declared.stored.StoredEntry.{StoredEntry}
use Rattle.ac_base.specs.Log.{Log}
use Rattle.ac_base.specs.Stored.{entry_of}
use Rattle.ac_base.proofs.Storing.{are_more, have_more}
use Rattle.ac_base.proofs.journal.Journal.push.Goals as goal

pub invariant_of-self : goal.invariant_of-self
invariant_of-self c =
    let kept = c.self.inside in
    let e : StoredEntry = record { stamp = c.args.entry.stamp; turn = c.args.entry.turn; event = c.of-event.result } in
    let of = c.of-event.ensures in
    let room = c.self.invariant.1 in
    let few = c.self.invariant.2 in
    let one = c.push.ensures.spare in
    let ints = of.spare in (
      have_more kept.further.0 c.of-event.new.further.0 kept.entries.0 e c.self.invariant.0 of.grows c.push.new.self.0 c.push.ensures.items of.ints,
      omega (arith, room, one),
      omega (arith, few, ints),
    )

pub returns-clause-entries : goal.returns-clause-entries
returns-clause-entries c =
    let kept = c.self.inside in
    let f = c.of-event.new.further.0 in
    let e : StoredEntry = record { stamp = c.args.entry.stamp; turn = c.args.entry.turn; event = c.of-event.result } in
    let of = c.of-event.ensures in
    let same : entry_of f e ≡ c.args.entry = ap (λ event. record { stamp = c.args.entry.stamp; turn = c.args.entry.turn; event = event }) of.event in
    are_more kept.further.0 f kept.entries.0 e c.self.invariant.0 of.grows c.push.new.self.0 c.args.entry c.push.ensures.items same
    ∙ ap (λ (log : Log). log.entries ++ c.args.entry ∷ []) c.self.view_is
