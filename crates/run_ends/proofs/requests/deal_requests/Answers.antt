use Rattle.std.proofs.Common.{◌≡◌, ◌∙◌, ap, sym, refl, ◌<◌, [], ◌∷◌, length, append_assoc, arith}
use Rattle.std.specs.Prelude.{slice_get}
use Rattle.std.specs.Vec.Iter.{into_iter_items}
use Rattle.std.proofs.lemmas.List.{length-append}
use Rattle.std.proofs.lemmas.Option.{slice_get_within, slice_get_read}
use Rattle.run_ends.proofs.Places.{next_is}
use Rattle.run_ends.proofs.Growing.{still_none, all_new}
use Rattle.run_ends.proofs.requests.deal_requests.Goals as goal

pub new_requests-requires : goal.new_requests-requires
new_requests-requires c =
    let at = c.loop-pair in
    let here = next_is at.yielded _ _ c.args.seats.items at.invariant.left c.into_iter-pair-iterator.ensures.into_iter_gives.0 c.in-Some.pair _ c.in-Some.ensures.steps.0 in
    let within = slice_get_within c.args.seats.items (length at.yielded) c.in-Some.pair here in
    let place = at.invariant.at in let count = c.requires.words in
    let words_is : at.at < length c.args.words.now = omega arith in
    c.requires.unused (length at.yielded) c.index-words-at.result c.in-Some.pair
    (ap (slice_get c.args.words.now) (sym place) ∙ slice_get_read c.args.words.now (length c.args.words.now) at.at c.index-words-at.result refl words_is c.index-words-at.is)
    here

pub loop-pair-preserved : goal.loop-pair-preserved
loop-pair-preserved c =
    let at = c.loop-pair in
    let x = c.in-Some.pair in
    let n = length at.yielded in
    let steps : into_iter_items at.pair-iterator ≡ x ∷ into_iter_items c.next.new.self = c.in-Some.ensures.steps.0 in
    let longer = length-append at.yielded (x ∷ []) in
    let is_h = c.in_ok-add.ensures in let is_r = c.in_ok-push.ensures.items in let is_e = c.in_ok-push-2.ensures.items in
    record {
      left = append_assoc at.yielded (x ∷ []) _ ∙ rw (← steps) at.invariant.left;
      count = let was = at.invariant.count in let gone = c.in-Some.ensures.steps.1 in let short = ap length steps in omega arith;
      at = let was = at.invariant.at in omega arith;
      hands = let was = at.invariant.hands in let one = length-append at.hands (c.new.result ∷ []) in let e = ap (λ xs. length xs) is_h in omega arith;
      asks = let was = at.invariant.asks in let one = length-append at.asks.items (c.in_ok-ask.recv ∷ []) in let e = ap (λ xs. length xs) is_r in omega arith;
      replies = let was = at.invariant.replies in let one = length-append at.replies.items (c.in_ok-ask.end ∷ []) in let e = ap (λ xs. length xs) is_e in omega arith;
      none = still_none at.hands at.asks.items at.replies.items n c.new.result c.in_ok-ask.ask c.in_ok-ask.recv c.in_ok-ask.end c.add.new.self c.push.new.self.items c.push-in-loop-pair.new.self.items
          is_h is_r is_e c.new.ensures at.invariant.none;
      new = all_new at.hands at.asks.items at.replies.items n c.new.result c.in_ok-ask.ask c.in_ok-ask.recv c.in_ok-ask.end c.add.new.self c.push.new.self.items c.push-in-loop-pair.new.self.items
          is_h is_r is_e c.new.ensures at.invariant.hands at.invariant.asks at.invariant.replies at.invariant.new c.in_ok-ask.ensures;
    }
