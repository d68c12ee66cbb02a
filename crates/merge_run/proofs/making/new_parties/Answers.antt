use Rattle.std.proofs.Common.{◌≡◌, ◌+◌, ◌<◌, ◌++◌, [], ◌∷◌, ◌∙◌, length, refl, ap, sym, subst, append_assoc, arith}
use Rattle.std.specs.Prelude.{slice_get}
use Rattle.std.specs.Vec.Iter.{into_iter_items}
use Rattle.std.proofs.lemmas.List.{length-append}
use Rattle.std.proofs.lemmas.Option.{slice_get_within, slice_get_read}
use Rattle.completion_word.specs.declared.views.Peer.{Peer}
use Rattle.merge_run.specs.declared.consumer.Consumer.{Consumer}
use Rattle.merge_run.specs.declared.party.MergeParty.TheVariants.{Produces}
use Rattle.merge_run.specs.inner.Making.{IsNewProducer}
use Rattle.merge_run.proofs.Made.{AreMade, next_is, all_were, none_made, one_made, made_undecided, all_made}
use Rattle.merge_run.proofs.making.new_parties.Goals as goal

pub loop-place-init : goal.loop-place-init
loop-place-init c = record {
  left = refl;
  count = let gives = c.into_iter-place-iterator.ensures.into_iter_gives in let n = ap (λ xs. length xs) gives.0 in let m = gives.1 in omega arith;
  tag = refl;
  made = none_made (length c.args.words.now) c.args.count c.new-parties.result.items c.new-ins.result.items c.new-parties.ensures.items c.new-ins.ensures.items;
}

pub new_producer-requires-clause-unused : goal.new_producer-requires-clause-unused
new_producer-requires-clause-unused c =
    let at = c.loop-place in
    let here = next_is at.yielded _ _ c.args.seats.items at.invariant.left c.into_iter-place-iterator.ensures.into_iter_gives.0 c.in-Some.place _ c.in-Some.ensures.steps.0 in
    let within = slice_get_within c.args.seats.items (length at.yielded) c.in-Some.place here in
    let words_is : at.tag < length c.args.words.now = (let t = at.invariant.tag in let n = c.requires.unused.seats_count in omega (arith, within, t, n)) in
    c.requires.unused.each at.tag c.index-words-tag.result c.in-Some.place
    (slice_get_read c.args.words.now (length c.args.words.now) at.tag c.index-words-tag.result refl words_is c.index-words-tag.is)
    (ap (slice_get c.args.seats.items) at.invariant.tag ∙ here)

pub loop-place-preserved : goal.loop-place-preserved
loop-place-preserved c =
    let at = c.loop-place in
    let x = c.in-Some.place in
    let p = c.in_ok-producer.producer in let r = c.in_ok-producer.recv in
    let w = length c.args.words.now in let n = length at.yielded in
    let steps : into_iter_items at.place-iterator ≡ x ∷ into_iter_items c.next.new.self = c.in-Some.ensures.steps.0 in
    record {
      left = append_assoc at.yielded (x ∷ []) _ ∙ rw (← steps) at.invariant.left;
      count = let was = at.invariant.count in let gone = c.in-Some.ensures.steps.1 in let short = ap length steps in omega arith;
      tag = let was = at.invariant.tag in let more = length-append at.yielded (x ∷ []) in omega arith;
      made = subst (λ m. AreMade w c.args.count m c.push.new.self.items c.push-in-loop-place.new.self.items) (sym (length-append at.yielded (x ∷ [])))
          (subst (λ ps. AreMade w c.args.count (n + 1) ps c.push-in-loop-place.new.self.items) (sym c.in_ok-push.ensures.items)
          (subst (λ rs. AreMade w c.args.count (n + 1) (at.parties.items ++ Produces p ∷ []) rs) (sym c.in_ok-push-2.ensures.items)
          (one_made w c.args.count n at.parties.items at.ins.items p r at.invariant.made (subst (λ m. IsNewProducer m w c.args.count p r) at.invariant.tag c.in_ok-producer.ensures))));
    }

pub new-relay-requires-clause-some : goal.new-relay-requires-clause-some
new-relay-requires-clause-some c =
    let at = c.loop-place in
    let all = all_were at.yielded _ _ c.args.seats.items at.invariant.left c.into_iter-place-iterator.ensures.into_iter_gives.0 (sym at.invariant.count ∙ c.in-None.ensures.steps.0) in
    let e = ap length all in let m = at.invariant.made.new.same_count in let n = at.invariant.made.so_many in let s = c.requires.unused.seats_count in let w = c.requires.width.0 in
    omega (arith, e, m, n, s, w)

pub new-relay-requires-clause-few : goal.new-relay-requires-clause-few
new-relay-requires-clause-few c =
    let at = c.loop-place in
    let all = all_were at.yielded _ _ c.args.seats.items at.invariant.left c.into_iter-place-iterator.ensures.into_iter_gives.0 (sym at.invariant.count ∙ c.in-None.ensures.steps.0) in
    let e = ap length all in let m = at.invariant.made.new.same_count in let n = at.invariant.made.so_many in let s = c.requires.unused.seats_count in let w = c.requires.width.1 in
    omega (arith, e, m, n, s, w)

pub new-relay-requires-clause-undecided : goal.new-relay-requires-clause-undecided
new-relay-requires-clause-undecided c =
    let at = c.loop-place in
    made_undecided (length c.args.words.now) c.args.count (length at.yielded) at.parties.items at.ins.items at.invariant.made

pub returns : goal.returns
returns c =
    let at = c.loop-place in
    let all = all_were at.yielded _ _ c.args.seats.items at.invariant.left c.into_iter-place-iterator.ensures.into_iter_gives.0 (sym at.invariant.count ∙ c.in-None.ensures.steps.0) in
    let e = ap length all in let n = c.requires.unused.seats_count in
    let new = c.in_ok-send.ensures in
    let consumer : Consumer = record { end = c.in_ok-send.end; received = c.new.result; clock = c.new-2.result } in
    all_made (length c.args.words.now) c.args.count (length at.yielded) at.parties.items c.push-2.new.self.items c.push-3.new.self.items at.ins.items c.in_ok-send.send c.new-relay.result consumer
    at.invariant.made (omega (arith, e, n)) c.new-relay.ensures c.last-last.ensures.carries c.in_ok-push-3.ensures.items c.in_ok-push-4.ensures.items c.new.ensures.items new.recv.popped
    (ap (λ (p : Peer). p.decisions) (new.recv.peer ∙ c.requires.out.peer)) new.pair
