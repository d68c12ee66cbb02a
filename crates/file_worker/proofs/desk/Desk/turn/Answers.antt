-- Only the ends of this core change, and the entry that goes with it is made.
use Rattle.std.proofs.Common.{rules, ◌+◌, ◌<◌, ◌∷◌, [], ◌++◌, refl, ap, ◌∙◌, subst, arith}
use Rattle.std.specs.Vec.{with_item}
use Rattle.ac_links.specs.Journals.{last_of}
use Rattle.file_worker.specs.declared.desk.Desk.TheInside.{Inside}
use Rattle.file_worker.specs.declared.turns.Round.TheVariants.{Did, Quiet, NotYet, ClockFull}
use Rattle.file_worker.specs.declared.turns.Turned.TheVariants as turned
use Rattle.file_worker.specs.Ends.{AtDesk, CoreEnds}
use Rattle.file_worker.specs.inner.Turns.{Turns}
use Rattle.file_worker.specs.inner.Desks.{at_desk}
use Rattle.file_worker.specs.inner.Rounds.{seen, TurnsAt}
use Rattle.file_worker.proofs.Turning.{has_core, turns_at, rests_at_desk, made_at_desk}
use Rattle.file_worker.proofs.desk.Desk.turn.Goals as goal

pub overflow_add-link : goal.overflow_add-link
overflow_add-link g c =
    let has = has_core c.self.inside c.args.self.now c.args.core c.self.view_is c.self.invariant c.requires.core in
    let small : c.self.inside.first + c.args.core < 4294967296 = has.2 in
    search rules

pub index_mut-requires : goal.index_mut-requires
index_mut-requires g c =
    let has = has_core c.self.inside c.args.self.now c.args.core c.self.view_is c.self.invariant c.requires.core in
    let len = c.self.inside.asks.ok in
    omega (arith, has.0, len)

pub index_mut-requires-2 : goal.index_mut-requires-2
index_mut-requires-2 g c =
    let has = has_core c.self.inside c.args.self.now c.args.core c.self.view_is c.self.invariant c.requires.core in
    let len = c.self.inside.replies.ok in
    omega (arith, has.1, len)

pub invariant_of-self-in-Made : goal.invariant_of-self-in-Made
invariant_of-self-in-Made g c =
    let a : CoreEnds = record { ask = c.index_mut.result.now; reply = c.index_mut-2.result.now } in
    let b : CoreEnds = record { ask = c.turn.new.take; reply = c.turn.new.put } in
    let before = g.D.Disk.told c.args.disk.now in
    let after = g.D.Disk.told c.turn.new.disk in
    let has = has_core c.self.inside c.args.self.now c.args.core c.self.view_is c.self.invariant c.requires.core in
    let turned : Turns (c.self.inside.first + c.args.core) (last_of 0 c.self.inside.journal.entries) a before (turned.Made c.in-Made.entry) b after =
    subst (λ n. Turns (c.self.inside.first + c.args.core) n a before (turned.Made c.in-Made.entry) b after) c.self.invariant.clock c.in-Made.ensures.turned in
    let new : Inside = record {
      asks = with_item c.self.inside.asks c.args.core c.turn.new.take;
      replies = with_item c.self.inside.replies c.args.core c.turn.new.put;
      journal = c.push.new.self;
      clock = c.turn.new.clock;
      first = c.self.inside.first;
      room = c.turn.new.room;
    } in
    made_at_desk c.self.inside new c.args.core a b c.self.invariant has.0 c.index_mut.ensures.value c.index_mut-2.ensures.value refl refl refl
    c.in-Made.entry before after turned c.in-Made.ensures.clock (c.push.ensures.entries ∙ ap (λ es. es ++ c.in-Made.entry ∷ []) c.in_ok-reserve.ensures.entries)

pub returns-in-Made-clause-turn : goal.returns-in-Made-clause-turn
returns-in-Made-clause-turn g c =
    let a : CoreEnds = record { ask = c.index_mut.result.now; reply = c.index_mut-2.result.now } in
    let b : CoreEnds = record { ask = c.turn.new.take; reply = c.turn.new.put } in
    let before = g.D.Disk.told c.args.disk.now in
    let after = g.D.Disk.told c.turn.new.disk in
    let has = has_core c.self.inside c.args.self.now c.args.core c.self.view_is c.self.invariant c.requires.core in
    let turned : Turns (c.self.inside.first + c.args.core) (last_of 0 c.self.inside.journal.entries) a before (turned.Made c.in-Made.entry) b after =
    subst (λ n. Turns (c.self.inside.first + c.args.core) n a before (turned.Made c.in-Made.entry) b after) c.self.invariant.clock c.in-Made.ensures.turned in
    let new : Inside = record {
      asks = with_item c.self.inside.asks c.args.core c.turn.new.take;
      replies = with_item c.self.inside.replies c.args.core c.turn.new.put;
      journal = c.push.new.self;
      clock = c.turn.new.clock;
      first = c.self.inside.first;
      room = c.turn.new.room;
    } in
    subst (λ (v : AtDesk). TurnsAt c.args.core (seen v before) Did (seen (at_desk new) after)) c.self.view_is
    (turns_at c.self.inside new c.args.core a b c.self.invariant has.0 c.index_mut.ensures.value c.index_mut-2.ensures.value refl refl refl
    Did before after (c.in-Made.entry, (c.push.ensures.entries ∙ ap (λ es. es ++ c.in-Made.entry ∷ []) c.in_ok-reserve.ensures.entries), turned))

pub invariant_of-self-in-Nothing : goal.invariant_of-self-in-Nothing
invariant_of-self-in-Nothing g c =
    let a : CoreEnds = record { ask = c.index_mut.result.now; reply = c.index_mut-2.result.now } in
    let b : CoreEnds = record { ask = c.turn.new.take; reply = c.turn.new.put } in
    let before = g.D.Disk.told c.args.disk.now in
    let after = g.D.Disk.told c.turn.new.disk in
    let has = has_core c.self.inside c.args.self.now c.args.core c.self.view_is c.self.invariant c.requires.core in
    let turned : Turns (c.self.inside.first + c.args.core) (last_of 0 c.self.inside.journal.entries) a before (turned.Nothing) b after =
    subst (λ n. Turns (c.self.inside.first + c.args.core) n a before (turned.Nothing) b after) c.self.invariant.clock c.in-Nothing.ensures.turned in
    let new : Inside = record {
      asks = with_item c.self.inside.asks c.args.core c.turn.new.take;
      replies = with_item c.self.inside.replies c.args.core c.turn.new.put;
      journal = c.reserve.new.self;
      clock = c.turn.new.clock;
      first = c.self.inside.first;
      room = c.turn.new.room;
    } in
    rests_at_desk c.self.inside new c.args.core a b c.self.invariant has.0 c.index_mut.ensures.value c.index_mut-2.ensures.value refl refl refl
    turned.0 c.in-Nothing.ensures.clock c.in_ok-reserve.ensures.entries

pub returns-in-Nothing-clause-turn : goal.returns-in-Nothing-clause-turn
returns-in-Nothing-clause-turn g c =
    let a : CoreEnds = record { ask = c.index_mut.result.now; reply = c.index_mut-2.result.now } in
    let b : CoreEnds = record { ask = c.turn.new.take; reply = c.turn.new.put } in
    let before = g.D.Disk.told c.args.disk.now in
    let after = g.D.Disk.told c.turn.new.disk in
    let has = has_core c.self.inside c.args.self.now c.args.core c.self.view_is c.self.invariant c.requires.core in
    let turned : Turns (c.self.inside.first + c.args.core) (last_of 0 c.self.inside.journal.entries) a before (turned.Nothing) b after =
    subst (λ n. Turns (c.self.inside.first + c.args.core) n a before (turned.Nothing) b after) c.self.invariant.clock c.in-Nothing.ensures.turned in
    let new : Inside = record {
      asks = with_item c.self.inside.asks c.args.core c.turn.new.take;
      replies = with_item c.self.inside.replies c.args.core c.turn.new.put;
      journal = c.reserve.new.self;
      clock = c.turn.new.clock;
      first = c.self.inside.first;
      room = c.turn.new.room;
    } in
    subst (λ (v : AtDesk). TurnsAt c.args.core (seen v before) Quiet (seen (at_desk new) after)) c.self.view_is
    (turns_at c.self.inside new c.args.core a b c.self.invariant has.0 c.index_mut.ensures.value c.index_mut-2.ensures.value refl refl refl
    Quiet before after (c.in_ok-reserve.ensures.entries, turned))

pub invariant_of-self-in-NotYet : goal.invariant_of-self-in-NotYet
invariant_of-self-in-NotYet g c =
    let a : CoreEnds = record { ask = c.index_mut.result.now; reply = c.index_mut-2.result.now } in
    let b : CoreEnds = record { ask = c.turn.new.take; reply = c.turn.new.put } in
    let before = g.D.Disk.told c.args.disk.now in
    let after = g.D.Disk.told c.turn.new.disk in
    let has = has_core c.self.inside c.args.self.now c.args.core c.self.view_is c.self.invariant c.requires.core in
    let turned : Turns (c.self.inside.first + c.args.core) (last_of 0 c.self.inside.journal.entries) a before (turned.NotYet) b after =
    subst (λ n. Turns (c.self.inside.first + c.args.core) n a before (turned.NotYet) b after) c.self.invariant.clock c.in-NotYet.ensures.turned in
    let new : Inside = record {
      asks = with_item c.self.inside.asks c.args.core c.turn.new.take;
      replies = with_item c.self.inside.replies c.args.core c.turn.new.put;
      journal = c.reserve.new.self;
      clock = c.turn.new.clock;
      first = c.self.inside.first;
      room = c.turn.new.room;
    } in
    rests_at_desk c.self.inside new c.args.core a b c.self.invariant has.0 c.index_mut.ensures.value c.index_mut-2.ensures.value refl refl refl
    turned.0 c.in-NotYet.ensures.clock c.in_ok-reserve.ensures.entries

pub returns-in-NotYet-clause-turn : goal.returns-in-NotYet-clause-turn
returns-in-NotYet-clause-turn g c =
    let a : CoreEnds = record { ask = c.index_mut.result.now; reply = c.index_mut-2.result.now } in
    let b : CoreEnds = record { ask = c.turn.new.take; reply = c.turn.new.put } in
    let before = g.D.Disk.told c.args.disk.now in
    let after = g.D.Disk.told c.turn.new.disk in
    let has = has_core c.self.inside c.args.self.now c.args.core c.self.view_is c.self.invariant c.requires.core in
    let turned : Turns (c.self.inside.first + c.args.core) (last_of 0 c.self.inside.journal.entries) a before (turned.NotYet) b after =
    subst (λ n. Turns (c.self.inside.first + c.args.core) n a before (turned.NotYet) b after) c.self.invariant.clock c.in-NotYet.ensures.turned in
    let new : Inside = record {
      asks = with_item c.self.inside.asks c.args.core c.turn.new.take;
      replies = with_item c.self.inside.replies c.args.core c.turn.new.put;
      journal = c.reserve.new.self;
      clock = c.turn.new.clock;
      first = c.self.inside.first;
      room = c.turn.new.room;
    } in
    subst (λ (v : AtDesk). TurnsAt c.args.core (seen v before) NotYet (seen (at_desk new) after)) c.self.view_is
    (turns_at c.self.inside new c.args.core a b c.self.invariant has.0 c.index_mut.ensures.value c.index_mut-2.ensures.value refl refl refl
    NotYet before after (c.in_ok-reserve.ensures.entries, turned))

pub invariant_of-self-in-ClockFull : goal.invariant_of-self-in-ClockFull
invariant_of-self-in-ClockFull g c =
    let a : CoreEnds = record { ask = c.index_mut.result.now; reply = c.index_mut-2.result.now } in
    let b : CoreEnds = record { ask = c.turn.new.take; reply = c.turn.new.put } in
    let before = g.D.Disk.told c.args.disk.now in
    let after = g.D.Disk.told c.turn.new.disk in
    let has = has_core c.self.inside c.args.self.now c.args.core c.self.view_is c.self.invariant c.requires.core in
    let turned : Turns (c.self.inside.first + c.args.core) (last_of 0 c.self.inside.journal.entries) a before (turned.ClockFull) b after =
    subst (λ n. Turns (c.self.inside.first + c.args.core) n a before (turned.ClockFull) b after) c.self.invariant.clock c.in-ClockFull.ensures.turned in
    let new : Inside = record {
      asks = with_item c.self.inside.asks c.args.core c.turn.new.take;
      replies = with_item c.self.inside.replies c.args.core c.turn.new.put;
      journal = c.reserve.new.self;
      clock = c.turn.new.clock;
      first = c.self.inside.first;
      room = c.turn.new.room;
    } in
    rests_at_desk c.self.inside new c.args.core a b c.self.invariant has.0 c.index_mut.ensures.value c.index_mut-2.ensures.value refl refl refl
    turned.0 c.in-ClockFull.ensures.clock c.in_ok-reserve.ensures.entries

pub returns-in-ClockFull-clause-turn : goal.returns-in-ClockFull-clause-turn
returns-in-ClockFull-clause-turn g c =
    let a : CoreEnds = record { ask = c.index_mut.result.now; reply = c.index_mut-2.result.now } in
    let b : CoreEnds = record { ask = c.turn.new.take; reply = c.turn.new.put } in
    let before = g.D.Disk.told c.args.disk.now in
    let after = g.D.Disk.told c.turn.new.disk in
    let has = has_core c.self.inside c.args.self.now c.args.core c.self.view_is c.self.invariant c.requires.core in
    let turned : Turns (c.self.inside.first + c.args.core) (last_of 0 c.self.inside.journal.entries) a before (turned.ClockFull) b after =
    subst (λ n. Turns (c.self.inside.first + c.args.core) n a before (turned.ClockFull) b after) c.self.invariant.clock c.in-ClockFull.ensures.turned in
    let new : Inside = record {
      asks = with_item c.self.inside.asks c.args.core c.turn.new.take;
      replies = with_item c.self.inside.replies c.args.core c.turn.new.put;
      journal = c.reserve.new.self;
      clock = c.turn.new.clock;
      first = c.self.inside.first;
      room = c.turn.new.room;
    } in
    subst (λ (v : AtDesk). TurnsAt c.args.core (seen v before) ClockFull (seen (at_desk new) after)) c.self.view_is
    (turns_at c.self.inside new c.args.core a b c.self.invariant has.0 c.index_mut.ensures.value c.index_mut-2.ensures.value refl refl refl
    ClockFull before after (c.in_ok-reserve.ensures.entries, turned))
