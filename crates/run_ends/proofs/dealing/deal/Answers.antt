use Rattle.std.proofs.Common.{◌≡◌, ◌∙◌, ap, sym, subst, ◌+◌, ◌<◌, ◌≤◌, ◌++◌, length, All, arith}
use Rattle.std.specs.Prelude.{slice_get}
use Rattle.std.proofs.lemmas.List.{length-append}
use Rattle.std.proofs.lemmas.Option.{slice_get_within}
use Rattle.run_ends.specs.Dealt.{AreDealt, IsBetween}
use Rattle.run_ends.specs.inner.Hands.{ports_from}
use Rattle.run_ends.specs.inner.Dealing.{AreAllNew}
use Rattle.run_ends.proofs.Places.{at_first, at_second}
use Rattle.run_ends.proofs.Telling.{same_count, ask_nothing, all_dealt}
use Rattle.run_ends.proofs.dealing.deal.Goals as goal

pub deal_requests-requires-clause-unused : goal.deal_requests-requires-clause-unused
deal_requests-requires-clause-unused c = λ k w s is_w is_s.
    let reqs = c.args.seats.requests.items in let chs = c.args.seats.channels.items in let n = length c.args.ends.now in
    c.requires.unused.each (n + k) 16 w s (c.requires.requests k (slice_get_within reqs k s is_s)) is_w
    (ap (λ m. slice_get (chs ++ reqs) (m + k)) (sym c.requires.channels) ∙ at_second chs reqs k ∙ is_s)

pub deal_channels-requires-clause-unused : goal.deal_channels-requires-clause-unused
deal_channels-requires-clause-unused c = λ l d w s is_c is_w is_s.
    c.requires.unused.each l d w s is_c is_w (at_first c.args.seats.channels.items c.args.seats.requests.items l s is_s)

pub into_ports-requires-clause-new : goal.into_ports-requires-clause-new
into_ports-requires-clause-new c =
    let hands = c.deal_channels.new.hands in
    let same = c.in_ok-deal_channels.ensures.asks in
    let count = same_count hands _ same in
    let counts = c.in_ok-hands.ensures.count in
    ask_nothing hands c.in_ok-hands.field-0.asks.items c.in_ok-hands.field-0.replies.items
    (subst (λ xs. AreAllNew xs c.in_ok-hands.field-0.asks.items c.in_ok-hands.field-0.replies.items) (sym same) c.in_ok-hands.ensures.new)
    (counts.1 ∙ sym counts.0 ∙ sym count) (counts.2 ∙ sym counts.0 ∙ sym count)

pub into_ports-requires-clause-few : goal.into_ports-requires-clause-few
into_ports-requires-clause-few c =
    let count = same_count c.deal_channels.new.hands _ c.in_ok-deal_channels.ensures.asks in
    let counts = c.in_ok-hands.ensures.count in
    let all = length-append c.args.seats.channels.items c.args.seats.requests.items in
    let channels = c.requires.channels in let most = c.requires.unused.seats_count in let few = c.requires.few in
    let cores = counts.0 in omega arith

pub returns : goal.returns
returns c =
    let hands = c.deal_channels.new.hands in
    let same = c.in_ok-deal_channels.ensures.asks in
    let count = same_count hands _ same in
    let counts = c.in_ok-hands.ensures.count in
    let cores : length hands ≡ length c.args.seats.requests.items = count ∙ counts.0 in
    let all = length-append c.args.seats.channels.items c.args.seats.requests.items in
    let few : length c.args.ends.now ≤ length c.args.capacities.now = let channels = c.requires.channels in let most = c.requires.unused.seats_count in omega arith in
    let asks = c.in_ok-hands.field-0.asks.items in let replies = c.in_ok-hands.field-0.replies.items in
    subst (λ ps. AreDealt c.args.ends.now c.args.capacities.now (length c.args.seats.requests.items) ps asks replies) (sym c.in_ok-ports.ensures)
    (subst (λ n. AreDealt c.args.ends.now c.args.capacities.now n (ports_from (length c.args.ends.now) hands) asks replies) cores
    (all_dealt hands asks replies (subst (λ xs. AreAllNew xs asks replies) (sym same) c.in_ok-hands.ensures.new)
    (counts.1 ∙ sym counts.0 ∙ sym count) (counts.2 ∙ sym counts.0 ∙ sym count)
    c.args.ends.now c.args.capacities.now c.in_ok-deal_channels.ensures.dealt few
    (subst (λ n. All (IsBetween n) c.args.ends.now) (sym cores) c.requires.cores)
    (λ k less. c.requires.requests k (subst (λ n. k < n) cores less))))
