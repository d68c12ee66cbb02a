use Rattle.std.proofs.Common.{◌≡◌, ◌∙◌, ap, sym, refl, subst, suc, ◌+◌, ◌<◌, List, [], ◌∷◌, length, append_assoc, arith, slice_index_or}
use Rattle.std.specs.Prelude.{slice_get}
use Rattle.std.specs.Vec.Iter.{into_iter_items}
use Rattle.std.proofs.lemmas.List.{length-append, length-map}
use Rattle.std.proofs.lemmas.Option.{slice_get_within, slice_get_read, slice_get-get_or}
use Rattle.stack_code.specs.declared.parts.ChannelEnds.{ChannelEnds}
use Rattle.run_ends.specs.inner.Hands.{Handed, asks_of}
use Rattle.run_ends.specs.inner.Dealing.{AreDealtBelow}
use Rattle.run_ends.proofs.Places.{next_is, all_were}
use Rattle.run_ends.proofs.Growing.{deals_one, none_dealt}
use Rattle.run_ends.proofs.channels.deal_channels.Goals as goal

abbrev no_ends : ChannelEnds
no_ends = record { from = 0; to = 0 }

same_count : (xs ys : List Handed) → asks_of xs ≡ asks_of ys → length xs ≡ length ys
same_count xs ys e = sym (length-map xs (λ (h : Handed). h.ask)) ∙ ap (λ zs. length zs) e ∙ length-map ys (λ (h : Handed). h.ask)

pub loop-pair-init : goal.loop-pair-init
loop-pair-init c = record {
  left = refl;
  count = let gives = c.into_iter-pair-iterator.ensures.into_iter_gives in let n = ap (λ xs. length xs) gives.0 in let m = gives.1 in omega arith;
  link = refl;
  dealt = none_dealt c.args.ends.now c.args.capacities.now c.args.hands.now c.requires.none;
  asks = refl;
}

pub bounds-words-at : goal.bounds-words-at
bounds-words-at c =
    let at = c.loop-pair in
    let here = next_is at.yielded _ _ c.args.seats.items at.invariant.left c.into_iter-pair-iterator.ensures.into_iter_gives.0 c.in-Some.pair _ c.in-Some.ensures.steps.0 in
    let within = slice_get_within c.args.seats.items (length at.yielded) c.in-Some.pair here in
    let link = at.invariant.link in let count = c.requires.seats in let most = c.requires.links.1 in omega arith

pub bounds-capacities-at : goal.bounds-capacities-at
bounds-capacities-at c =
    let at = c.loop-pair in
    let here = next_is at.yielded _ _ c.args.seats.items at.invariant.left c.into_iter-pair-iterator.ensures.into_iter_gives.0 c.in-Some.pair _ c.in-Some.ensures.steps.0 in
    let within = slice_get_within c.args.seats.items (length at.yielded) c.in-Some.pair here in
    let link = at.invariant.link in let count = c.requires.seats in let most = c.requires.links.0 in omega arith

pub new_channel-requires : goal.new_channel-requires
new_channel-requires c =
    let at = c.loop-pair in
    let here = next_is at.yielded _ _ c.args.seats.items at.invariant.left c.into_iter-pair-iterator.ensures.into_iter_gives.0 c.in-Some.pair _ c.in-Some.ensures.steps.0 in
    let within = slice_get_within c.args.seats.items (length at.yielded) c.in-Some.pair here in
    let link = at.invariant.link in let count = c.requires.seats in
    let words_is : at.link < length c.args.words.now = let most = c.requires.links.1 in omega arith in
    let size_is : at.link < length c.args.capacities.now = let most = c.requires.links.0 in omega arith in
    c.requires.unused at.link _ c.index-words-at.result c.in-Some.pair
    (slice_get-get_or c.args.capacities.now at.link 0 size_is)
    (slice_get_read c.args.words.now (length c.args.words.now) at.link c.index-words-at.result refl words_is c.index-words-at.is)
    (ap (slice_get c.args.seats.items) link ∙ here)

pub bounds-ends-at : goal.bounds-ends-at
bounds-ends-at c =
    let at = c.loop-pair in
    let here = next_is at.yielded _ _ c.args.seats.items at.invariant.left c.into_iter-pair-iterator.ensures.into_iter_gives.0 c.in-Some.pair _ c.in-Some.ensures.steps.0 in
    let within = slice_get_within c.args.seats.items (length at.yielded) c.in-Some.pair here in
    let link = at.invariant.link in let count = c.requires.seats in omega arith

pub give-requires : goal.give-requires
give-requires c =
    let at = c.loop-pair in
    let here = next_is at.yielded _ _ c.args.seats.items at.invariant.left c.into_iter-pair-iterator.ensures.into_iter_gives.0 c.in-Some.pair _ c.in-Some.ensures.steps.0 in
    let within = slice_get_within c.args.seats.items (length at.yielded) c.in-Some.pair here in
    let link = at.invariant.link in let count = c.requires.seats in
    let ends_is : at.link < length c.args.ends.now = omega arith in
    let between = c.requires.cores at.link no_ends ends_is in
    let cores : length at.hands ≡ length c.args.hands.now = same_count at.hands c.args.hands.now at.invariant.asks in
    (subst (λ n. (slice_index_or c.args.ends.now at.link no_ends).from < n) (sym cores) between.0, subst (λ n. (slice_index_or c.args.ends.now at.link no_ends).to < n) (sym cores) between.1)

pub overflow_add-link : goal.overflow_add-link
overflow_add-link c =
    let at = c.loop-pair in
    let here = next_is at.yielded _ _ c.args.seats.items at.invariant.left c.into_iter-pair-iterator.ensures.into_iter_gives.0 c.in-Some.pair _ c.in-Some.ensures.steps.0 in
    let within = slice_get_within c.args.seats.items (length at.yielded) c.in-Some.pair here in
    let link = at.invariant.link in let count = c.requires.seats in let few = c.requires.few in omega arith

pub loop-pair-preserved : goal.loop-pair-preserved
loop-pair-preserved c =
    let at = c.loop-pair in
    let x = c.in-Some.pair in
    let steps : into_iter_items at.pair-iterator ≡ x ∷ into_iter_items c.next.new.self = c.in-Some.ensures.steps.0 in
    let here = next_is at.yielded _ _ c.args.seats.items at.invariant.left c.into_iter-pair-iterator.ensures.into_iter_gives.0 x _ steps in
    let within = slice_get_within c.args.seats.items (length at.yielded) x here in
    let link = at.invariant.link in let count = c.requires.seats in
    let ends_is : at.link < length c.args.ends.now = omega arith in
    let size_is : at.link < length c.args.capacities.now = let most = c.requires.links.0 in omega arith in
    let e = slice_index_or c.args.ends.now at.link no_ends in
    let next : suc at.link ≡ at.link + 1 = omega arith in
    record {
      left = append_assoc at.yielded (x ∷ []) _ ∙ rw (← steps) at.invariant.left;
      count = let was = at.invariant.count in let gone = c.in-Some.ensures.steps.1 in let short = ap length steps in omega arith;
      link = let n = length-append at.yielded (x ∷ []) in omega arith;
      dealt = subst (λ n. AreDealtBelow c.args.ends.now c.args.capacities.now n c.give.new.self) next
          (deals_one c.args.ends.now c.args.capacities.now at.link at.hands e _ c.in_ok-send.send c.in_ok-send.recv c.give.new.self at.invariant.dealt
          (slice_get-get_or c.args.ends.now at.link no_ends ends_is) (slice_get-get_or c.args.capacities.now at.link 0 size_is) c.in_ok-send.ensures c.in_ok-give.ensures);
      asks = c.in_ok-give.ensures.asks ∙ at.invariant.asks;
    }

pub returns-clause-dealt : goal.returns-clause-dealt
returns-clause-dealt c =
    let at = c.loop-pair in
    let all = all_were at.yielded _ _ c.args.seats.items at.invariant.left c.into_iter-pair-iterator.ensures.into_iter_gives.0 (sym at.invariant.count ∙ c.in-None.ensures.steps.0) in
    let count : at.link ≡ length c.args.ends.now = at.invariant.link ∙ ap (λ xs. length xs) all ∙ c.requires.seats in
    subst (λ n. AreDealtBelow c.args.ends.now c.args.capacities.now n at.hands) count at.invariant.dealt

pub returns-clause-asks : goal.returns-clause-asks
returns-clause-asks c = c.loop-pair.invariant.asks
