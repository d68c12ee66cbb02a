-- Only the ends of this core change, and these are settled with those of the core.
use Rattle.std.proofs.Common.{◌≡◌, Some, refl, sym, ap, ◌∙◌, subst, arith}
use Rattle.std.specs.Prelude.{slice_get, OnErr}
use Rattle.std.specs.Vec.{with_item}
use Rattle.completion_word.specs.declared.views.Peer.{Peer}
use Rattle.file_worker.specs.declared.desk.Desk.TheInside.{Inside}
use Rattle.file_worker.specs.Ends.{AtDesk, CoreEnds, IsReady}
use Rattle.file_worker.specs.Settling.{SettlesCore, AskIsSettled, LeavesAtHand}
use Rattle.file_worker.proofs.Readying.{either_ready, on_both, on_err}
use Rattle.file_worker.specs.inner.Desks.{at_desk}
use Rattle.file_worker.proofs.EndLists.{ends_get, same_some}
use Rattle.file_worker.proofs.Turning.{has_core, was, now_at, desk_is, same_at_desk}
use Rattle.file_worker.proofs.desk.Desk.settle.Goals as goal

pub index_mut-requires : goal.index_mut-requires
index_mut-requires c =
    let has = has_core c.self.inside c.args.self.now c.args.core c.self.view_is c.self.invariant c.requires.core in
    let len = c.self.inside.asks.ok in
    omega (arith, has.0, len)

pub index_mut-requires-2 : goal.index_mut-requires-2
index_mut-requires-2 c =
    let has = has_core c.self.inside c.args.self.now c.args.core c.self.view_is c.self.invariant c.requires.core in
    let len = c.self.inside.replies.ok in
    omega (arith, has.1, len)

pub settle_requests-requires-clause-pair : goal.settle_requests-requires-clause-pair
settle_requests-requires-clause-pair c =
    let has = has_core c.self.inside c.args.self.now c.args.core c.self.view_is c.self.invariant c.requires.core in
    let a : CoreEnds = record { ask = c.index_mut.result.now; reply = c.index_mut-2.result.now } in
    let at : slice_get (at_desk c.self.inside).ends c.args.core ≡ Some a =
    ends_get c.self.inside.asks.items c.self.inside.replies.items c.args.core a.ask a.reply has.0 c.self.invariant.both c.index_mut.ensures.value c.index_mut-2.ensures.value in
    (c.requires.pair a (subst (λ (v : AtDesk). slice_get v.ends c.args.core ≡ Some a) c.self.view_is at)).0

pub settle_requests-requires-clause-ring : goal.settle_requests-requires-clause-ring
settle_requests-requires-clause-ring c =
    let has = has_core c.self.inside c.args.self.now c.args.core c.self.view_is c.self.invariant c.requires.core in
    let a : CoreEnds = record { ask = c.index_mut.result.now; reply = c.index_mut-2.result.now } in
    let at : slice_get (at_desk c.self.inside).ends c.args.core ≡ Some a =
    ends_get c.self.inside.asks.items c.self.inside.replies.items c.args.core a.ask a.reply has.0 c.self.invariant.both c.index_mut.ensures.value c.index_mut-2.ensures.value in
    (c.requires.pair a (subst (λ (v : AtDesk). slice_get v.ends c.args.core ≡ Some a) c.self.view_is at)).1

pub invariant_of-self : goal.invariant_of-self
invariant_of-self c =
    let has = has_core c.self.inside c.args.self.now c.args.core c.self.view_is c.self.invariant c.requires.core in
    let a : CoreEnds = record { ask = c.index_mut.result.now; reply = c.index_mut-2.result.now } in
    let b : CoreEnds = record { ask = c.settle_requests.new.recv; reply = c.settle_requests.new.end } in
    let new : Inside = record {
      asks = with_item c.self.inside.asks c.args.core c.settle_requests.new.recv;
      replies = with_item c.self.inside.replies c.args.core c.settle_requests.new.end;
      journal = c.self.inside.journal;
      clock = c.self.inside.clock;
      first = c.self.inside.first;
      room = c.self.inside.room;
    } in
    let was = was c.self.inside new c.args.core a b c.self.invariant has.0 c.index_mut.ensures.value c.index_mut-2.ensures.value refl refl refl in
    let before = c.self.invariant.ready c.args.core a was in
    let ready_here : IsReady b = either_ready c.settle_requests.result c.settle_requests.new.self.ask a b _ _ _ c.settle_requests.ensures.settled c.settle_requests.ensures.ok
    c.settle_requests.ensures.err c.settle_requests.ensures.end before in
    same_at_desk c.self.inside new c.args.core a b c.self.invariant has.0 c.index_mut.ensures.value c.index_mut-2.ensures.value refl refl refl
    c.settle_requests.ensures.recv.popped (ap (λ (p : Peer). p.decisions) c.settle_requests.ensures.recv.peer) c.settle_requests.ensures.end.replies refl refl ready_here

pub returns-clause-settles : goal.returns-clause-settles
returns-clause-settles c =
    let has = has_core c.self.inside c.args.self.now c.args.core c.self.view_is c.self.invariant c.requires.core in
    let a : CoreEnds = record { ask = c.index_mut.result.now; reply = c.index_mut-2.result.now } in
    let b : CoreEnds = record { ask = c.settle_requests.new.recv; reply = c.settle_requests.new.end } in
    let new : Inside = record {
      asks = with_item c.self.inside.asks c.args.core c.settle_requests.new.recv;
      replies = with_item c.self.inside.replies c.args.core c.settle_requests.new.end;
      journal = c.self.inside.journal;
      clock = c.self.inside.clock;
      first = c.self.inside.first;
      room = c.self.inside.room;
    } in
    subst (λ (v : AtDesk). SettlesCore c.args.core v c.args.ports.now.ask.end (at_desk new) c.settle_requests.new.self.ask.end) c.self.view_is (record {
      before = a;
      after = b;
      was = was c.self.inside new c.args.core a b c.self.invariant has.0 c.index_mut.ensures.value c.index_mut-2.ensures.value refl refl refl;
      is = sym (desk_is c.self.inside new c.args.core a b c.self.invariant has.0 c.index_mut.ensures.value c.index_mut-2.ensures.value refl refl refl c.self.inside.journal.entries refl);
      ends = record {
        pair = c.settle_requests.ensures.pair;
        send = c.settle_requests.ensures.send;
        recv = c.settle_requests.ensures.recv;
        list = c.settle_requests.ensures.list;
        same = c.settle_requests.ensures.same;
        replies = c.settle_requests.ensures.replies;
        end = c.settle_requests.ensures.end;
      };
    })

pub returns-clause-ok : goal.returns-clause-ok
returns-clause-ok c =
    let has = has_core c.self.inside c.args.self.now c.args.core c.self.view_is c.self.invariant c.requires.core in
    let a : CoreEnds = record { ask = c.index_mut.result.now; reply = c.index_mut-2.result.now } in
    let b : CoreEnds = record { ask = c.settle_requests.new.recv; reply = c.settle_requests.new.end } in
    let new : Inside = record {
      asks = with_item c.self.inside.asks c.args.core c.settle_requests.new.recv;
      replies = with_item c.self.inside.replies c.args.core c.settle_requests.new.end;
      journal = c.self.inside.journal;
      clock = c.self.inside.clock;
      first = c.self.inside.first;
      room = c.self.inside.room;
    } in
    on_both c.settle_requests.result _ _ _ c.settle_requests.ensures.settled c.settle_requests.ensures.ok
    (λ s all e at. subst (AskIsSettled c.settle_requests.new.self.ask)
    (same_some b e (sym (now_at c.self.inside new c.args.core a b c.self.invariant has.0 c.index_mut.ensures.value c.index_mut-2.ensures.value refl refl refl) ∙ at))
    (record { settled = s.0; link = s.1; replies = all.0; places = all.1; told = all.2 }))

pub returns-clause-err : goal.returns-clause-err
returns-clause-err c =
    let has = has_core c.self.inside c.args.self.now c.args.core c.self.view_is c.self.invariant c.requires.core in
    let a : CoreEnds = record { ask = c.index_mut.result.now; reply = c.index_mut-2.result.now } in
    let b : CoreEnds = record { ask = c.settle_requests.new.recv; reply = c.settle_requests.new.end } in
    let new : Inside = record {
      asks = with_item c.self.inside.asks c.args.core c.settle_requests.new.recv;
      replies = with_item c.self.inside.replies c.args.core c.settle_requests.new.end;
      journal = c.self.inside.journal;
      clock = c.self.inside.clock;
      first = c.self.inside.first;
      room = c.self.inside.room;
    } in
    let before = was c.self.inside new c.args.core a b c.self.invariant has.0 c.index_mut.ensures.value c.index_mut-2.ensures.value refl refl refl in
    let after = now_at c.self.inside new c.args.core a b c.self.invariant has.0 c.index_mut.ensures.value c.index_mut-2.ensures.value refl refl refl in
    subst (λ (v : AtDesk). OnErr c.settle_requests.result (LeavesAtHand c.args.core v c.args.ports.now.ask (at_desk new) c.settle_requests.new.self.ask)) c.self.view_is
    (on_err c.settle_requests.result _ _ c.settle_requests.ensures.err (λ h. record {
      hand = h.2;
      taken = λ e e' at at'. sym (ap (λ (x : CoreEnds). x.ask) (same_some b e' (sym after ∙ at'))) ∙ h.1 ∙ ap (λ (x : CoreEnds). x.ask) (same_some a e (sym before ∙ at));
    }))
