-- Each step on a word keeps the word rule, whatever state that meets it the words are in, and tells its seat what its call says.
-- The seat's own view says which offer the word belongs to; by the rule the number found there can only be one of two or three, and for each
-- of them `Keeps` has the words and the views, and `Moves` the seats.
use Rattle.std.proofs.Common.{◌≡◌, ℕ, ◌+◌, ◌%◌, ◌^◌, ◌<◌, ◌≤◌, List, [], length, get_or, set, Option, Some, None, true, false, eqb, sym, refl, ap, ◌∙◌, subst, ⊎_elim, arith, le_refl, eq-eqb, ne_eqb}
use Rattle.std.proofs.lemmas.List.{set-get_or}
use Rattle.std.proofs.lemmas.Bool.{cases_lt}
use prog.Atomic.{either}
use mathlib.Core.Option.{some, none}
use Rattle.atomic_table.specs.Table.{Me, step, keeps, Allows}
use Rattle.completion_word.specs.declared.answers.Look.{Look}
use Rattle.completion_word.specs.declared.answers.Look.TheVariants as look
use Rattle.completion_word.specs.declared.answers.Taking.TheVariants as taking
use Rattle.completion_word.specs.declared.answers.Withdrawal.TheVariants as withdrawal
use Rattle.completion_word.specs.declared.standing.Standing.TheVariants.{Offered, Withdrawn, Taken, Passed}
use Rattle.completion_word.specs.declared.views.Offer.{Offer}
use Rattle.completion_word.specs.declared.views.DecisionKind.{DecisionKind}
use Rattle.completion_word.specs.declared.views.DecisionKind.TheVariants as outcome
use Rattle.completion_word.specs.declared.views.Decision.{Decision}
use Rattle.completion_word.specs.declared.views.Owner.{Owner}
use Rattle.completion_word.specs.declared.views.Peer.{Peer}
use Rattle.completion_word.specs.declared.views.View.{View}
use Rattle.completion_word.specs.Link.{offer, decision, offer_at, decision_at, code, standing_of, stamp_in, open_by, open_standing}
use Rattle.completion_word.specs.Link.{decided_by, decided_standing, AreWords, Answered, IsTrueLook, Agreed, owner_view, peer_view}
use Rattle.completion_word.specs.Rule.{WordRule}
use Rattle.completion_word.specs.Steps.{after_post, after_withdraw, after_learn, after_look, after_take, after_pass, learnt_of, look_of}
use Rattle.completion_word.specs.Steps.{stamp_seen, SawOfferBelow, SawWithdrawalBelow, ShowsOffer, Posts, Withdraws, Learns, Looks, Takes, Passes}
use Rattle.completion_word.proofs.Codes.{standing_is, stamp-offered, stamp-withdrawn, stamp-taken, stamp-passed, withdrawn_not_offered, taken_not_offered, look-open, shows-open, shows-decided}
use Rattle.completion_word.proofs.Growth.{grows_same, grows_push, grows_set, starts_same, starts_push, starts-at, starts-length, told_grows}
use Rattle.completion_word.proofs.Keeps.{words_post, agree_post, words_withdraw, agree_withdraw, words_find, agree_find, agree_learn, agree_seen, agree_look, words_decide, agree_decide}
use Rattle.completion_word.proofs.Moves.{knows_owner, knows_peer, by_owner, by_peer, owner_moves, peer_moves}

-- a load leaves the words
pub loaded : (places : ℕ) (ws : List ℕ) (i : ℕ) (offers : List Offer) (ds : List Decision) → AreWords places ws offers ds → AreWords places (set ws i (get_or ws i 0)) offers ds
loaded places ws i offers ds h = subst (λ (xs : List ℕ). AreWords places xs offers ds) (sym (set-get_or ws i 0)) h

-- ---- post

pub post_allowed : {S : Type 0} (places slots id : ℕ) (me : Me S View) (x : Owner) (i n t : ℕ) → me ≡ (owner_view x, []) → i ≡ length x.offers % places → n ≡ code (Offered t)
    → length x.offers < length x.learned + places → x.last < t → t < 2 ^ 60
    → Allows (WordRule places) slots id me i (λ _. n) (λ _. Posts (step slots i n 0 none) me n)
post_allowed {S} places slots id me x i n t is at_word stores room later small =
    subst (λ (z : Me S View × (ℕ × ℕ)). Allows (WordRule places) slots id z.0 z.1.0 (λ _. z.1.1) (λ _. Posts (step slots z.1.0 z.1.1 0 none) z.0 z.1.1))
    (λ j. (sym is j, (sym at_word j, sym stores j))) inner
  where
    word : ℕ
    word = length x.offers % places

    inner : Allows (WordRule places) slots id (owner_view x, []) (length x.offers % places) (λ _. code (Offered t))
        (λ _. Posts (step {S = S} slots (length x.offers % places) (code (Offered t)) 0 none) (owner_view x, []) (code (Offered t)))
    inner s h _ at _ =
        let mine = (h.seats id (owner_view x) at).of_owner x refl in
        let here = by_owner places s h x mine.1 in
        let ds = h.peer.decisions in
        let y = after_post t x in
        let grows = grows_push x.offers (offer t) in
        let decided = here.agreed.learned_decided in (
          owner_view y,
          keeps,
          tt,
          owner_moves places s here id y (owner_view y) (set s.words (length x.offers % places) (code (Offered t))) mine.0
              (words_post places s.words x.offers ds t here.words h.some_place here.agreed.decided_offered (omega (arith, decided, room)))
              (agree_post places x.offers x.learned x.last ds h.peer.look t here.agreed room later small)
              (told_grows x.told x.told_look h.peer.told_offers x.offers y.offers ds ds grows (starts_same ds) here.told)
              grows
              (knows_owner y h.peer h.owner_seat h.peer_seat id mine.0),
          ap (λ (u : ℕ). (owner_view (after_post u x), [])) (sym (stamp-offered t)),
        )

-- ---- withdraw

-- what the exchange of a withdrawal finds: the offer as it was posted, or that the peer has taken it
data Finds (ws : List ℕ) (i : ℕ) (x : Owner) (ds : List Decision) (k : ℕ) : Type 0 where
  still : length ds ≤ k → get_or ws i 0 ≡ code (Offered (offer_at x.offers k).stamp) → Finds ws i x ds k
  gone : (u : ℕ) → k < length ds → (decision_at ds k).outcome ≡ outcome.Taken u → get_or ws i 0 ≡ code (Taken u) → Finds ws i x ds k

finds : (places : ℕ) (ws : List ℕ) (x : Owner) (p : Peer) (k : ℕ) → AreWords places ws x.offers p.decisions → Agreed places x p → length x.learned ≤ k → k < length x.offers
    → (offer_at x.offers k).withdrawn ≡ None → Finds ws (k % places) x p.decisions k
finds places ws x p k words h low high open_ =
    let z = offer_at x.offers k in
    let d = decision_at p.decisions k in
    let near = h.offered_within in
    ⊎_elim
    (λ (l : k < length p.decisions).
    let taken = subst (λ (w : Option ℕ). Answered z.stamp w d) open_ (h.answered k l) in
    let how = ap (λ (e : Decision). e.outcome) taken.2 in
    gone taken.0 l how (words.decided k l (omega arith) ∙ ap (λ (o : DecisionKind). code (decided_by o)) how))
    (λ (l : length p.decisions ≤ k). still l (words.undecided k high l ∙ ap (λ (w : Option ℕ). code (open_by z.stamp w)) open_))
    (cases_lt k (length p.decisions))

pub withdraw_allowed : (places slots id : ℕ) (me : Me ℕ View) (x : Owner) (k i t u old new : ℕ) → me ≡ (owner_view x, []) → i ≡ k % places → old ≡ code (Offered t) → new ≡ code (Withdrawn u)
    → length x.learned ≤ k → k < length x.offers → (offer_at x.offers k).withdrawn ≡ None
    → t ≡ (offer_at x.offers k).stamp → x.last < u → u < 2 ^ 60
    → Allows (WordRule places) slots id me i (λ n. either (eqb n old) new n) (Withdraws (step slots i old new (some k)) me)
withdraw_allowed places slots id me x k i t u old new is at_word olds news low high open_ stamp later small =
    subst (λ (z : Me ℕ View × (ℕ × (ℕ × ℕ))). Allows (WordRule places) slots id z.0 z.1.0 (λ n. either (eqb n z.1.1.0) z.1.1.1 n) (Withdraws (step slots z.1.0 z.1.1.0 z.1.1.1 (some k)) z.0))
    (λ j. (sym is j, (sym at_word j, (sym olds j, sym news j))))
    inner
  where
    inner : Allows (WordRule places) slots id (owner_view x, []) (k % places) (λ n. either (eqb n (code (Offered t))) (code (Withdrawn u)) n)
        (Withdraws (step slots (k % places) (code (Offered t)) (code (Withdrawn u)) (some k)) (owner_view x, []))
    inner s h _ at _ =
        let mine = (h.seats id (owner_view x) at).of_owner x refl in
        let here = by_owner places s h x mine.1 in
        let ds = h.peer.decisions in
        let z = offer_at x.offers k in
        let n = get_or s.words (k % places) 0 in
        let told = here.told.of_peer.first in
        elim (finds places s.words x h.peer k here.words here.agreed low high open_) [
          | still l found ↦
              let z' : Offer = record z { withdrawn = Some u } in
              let y = after_withdraw withdrawal.Withdrawn k u x in
              let grows = grows_set x.offers k z' refl (λ w now. absurd (cc)) in
              let e : eqb n (code (Offered t)) ≡ true = eq-eqb n (code (Offered t)) (found ∙ ap (λ (v : ℕ). code (Offered v)) (sym stamp)) in
              let near = here.agreed.offered_within in
              let decided = here.agreed.learned_decided in
              rw e (
                owner_view y,
                keeps,
                tt,
                owner_moves places s here id y (owner_view y) (set s.words (k % places) (code (Withdrawn u))) mine.0
                    (words_withdraw places s.words x.offers ds k u z' here.words h.some_place (omega (arith, near, decided)) l high refl)
                    (agree_withdraw places x.offers x.learned x.last ds h.peer.look k u here.agreed l high open_ later small)
                    (told_grows x.told x.told_look h.peer.told_offers x.offers y.offers ds ds grows (starts_same ds) here.told)
                    grows
                    (knows_owner y h.peer h.owner_seat h.peer_seat id mine.0),
                (ap (λ (v : ℕ). (owner_view (after_withdraw withdrawal.Withdrawn k v x), [])) (sym (stamp-withdrawn u)), (λ was_told. absurd (omega (arith, starts-length ds x.told told)))),
              )
          | gone v l taken found ↦
              let z' : Offer = record z { found_taken = Some v } in
              let y = after_withdraw (withdrawal.Taken v) k u x in
              let grows = grows_set x.offers k z' refl (λ w now. now) in
              let e : eqb n (code (Offered t)) ≡ false = ne_eqb n (code (Offered t)) (λ same. taken_not_offered v t (sym found ∙ same)) in
              let back : stamp_in n ≡ v = ap stamp_in found ∙ stamp-taken v in
              rw e (
                owner_view y,
                keeps,
                tt,
                owner_moves places s here id y (owner_view y) (set s.words (k % places) n) mine.0
                    (loaded places s.words (k % places) y.offers ds (words_find places s.words x.offers ds k (Some v) here.words))
                    (agree_find places x.offers x.learned x.last ds h.peer.look k v here.agreed l taken)
                    (told_grows x.told x.told_look h.peer.told_offers x.offers y.offers ds ds grows (starts_same ds) here.told)
                    grows
                    (knows_owner y h.peer h.owner_seat h.peer_seat id mine.0),
                (
                  ap (λ (w : ℕ). (owner_view (after_withdraw (withdrawal.Taken w) k u x), [])) (sym back),
                  (λ was_told. (v, ap (λ (d : Decision). d.outcome) (sym (starts-at ds x.told k told was_told)) ∙ taken, ap withdrawal.Taken back)),
                ),
              )
        ]

-- ---- learn

-- the word of an offer that is not learned shows it
pub word_shows : (places : ℕ) (ws : List ℕ) (x : Owner) (p : Peer) (k : ℕ) → AreWords places ws x.offers p.decisions → Agreed places x p → length x.learned ≤ k → k < length x.offers
    → ShowsOffer (offer_at x.offers k) (standing_of (get_or ws (k % places) 0))
word_shows places ws x p k words h low high =
    let z = offer_at x.offers k in
    let n = get_or ws (k % places) 0 in
    let near = h.offered_within in
    ⊎_elim
    (λ (l : k < length p.decisions).
    let saw = standing_is n (decided_standing (decision_at p.decisions k)) (words.decided k l (omega arith)) in
    subst (ShowsOffer z) (sym saw) (shows-decided z.stamp z.withdrawn (decision_at p.decisions k) (h.answered k l)))
    (λ (l : length p.decisions ≤ k).
    let saw = standing_is n (open_standing z) (words.undecided k high l) in
    subst (ShowsOffer z) (sym saw) (shows-open z.stamp z.withdrawn))
    (cases_lt k (length p.decisions))

pub learn_allowed : {S : Type 0} (places slots id : ℕ) (me : Me S View) (x : Owner) (i : ℕ) → me ≡ (owner_view x, []) → i ≡ length x.learned % places → length x.learned < length x.offers
    → Allows (WordRule places) slots id me i (λ n. n) (Learns (step slots i 0 0 none) me)
learn_allowed {S} places slots id me x i is at_word some_left =
    subst (λ (z : Me S View × ℕ). Allows (WordRule places) slots id z.0 z.1 (λ n. n) (Learns (step slots z.1 0 0 none) z.0)) (λ j. (sym is j, sym at_word j)) inner
  where
    inner : Allows (WordRule places) slots id (owner_view x, []) (length x.learned % places) (λ n. n) (Learns (step {S = S} slots (length x.learned % places) 0 0 none) (owner_view x, []))
    inner s h _ at _ =
        let mine = (h.seats id (owner_view x) at).of_owner x refl in
        let here = by_owner places s h x mine.1 in
        let ds = h.peer.decisions in
        let l = length x.learned in
        let n = get_or s.words (l % places) 0 in
        let y = after_learn (learnt_of (standing_of n)) (standing_of n) x in
        let saw : l < length ds → standing_of n ≡ decided_standing (decision_at ds l) =
        λ decided. standing_is n (decided_standing (decision_at ds l)) (here.words.decided l decided here.agreed.offered_within) in
        let first = here.told.of_peer.first in
        let shows = word_shows places s.words x h.peer l here.words here.agreed (le_refl (length x.learned)) some_left in (
          owner_view y,
          keeps,
          tt,
          owner_moves places s here id y (owner_view y) (set s.words (l % places) n) mine.0
              (loaded places s.words (l % places) x.offers ds here.words)
              (agree_learn places s.words x.offers x.learned x.last ds h.peer.look here.words here.agreed some_left)
              here.told
              (grows_same x.offers)
              (knows_owner y h.peer h.owner_seat h.peer_seat id mine.0),
          (
            refl,
            shows,
            (λ t is. let q = here.agreed.found_true l some_left t is in ap learnt_of (saw q.0 ∙ ap decided_by q.1)),
            (λ was_told. ap learnt_of (saw (omega (arith, was_told, starts-length ds x.told first)) ∙ ap decided_standing (starts-at ds x.told l first was_told))),
          ),
        )

-- ---- look

pub look_allowed : {S : Type 0} (places slots id : ℕ) (me : Me S View) (x : Peer) (i : ℕ) → me ≡ (peer_view x, []) → i ≡ length x.decisions % places
    → Allows (WordRule places) slots id me i (λ n. n) (Looks (step slots i 0 0 none) me)
look_allowed {S} places slots id me x i is at_word =
    subst (λ (z : Me S View × ℕ). Allows (WordRule places) slots id z.0 z.1 (λ n. n) (Looks (step slots z.1 0 0 none) z.0)) (λ j. (sym is j, sym at_word j)) inner
  where
    inner : Allows (WordRule places) slots id (peer_view x, []) (length x.decisions % places) (λ n. n) (Looks (step {S = S} slots (length x.decisions % places) 0 0 none) (peer_view x, []))
    inner s h _ at _ =
        let mine = (h.seats id (peer_view x) at).of_peer x refl in
        let here = by_peer places s h x mine.1 in
        let r = length x.decisions in
        let n = get_or s.words (r % places) 0 in
        let y = after_look (look_of (standing_of n)) (standing_of n) x in
        let z = offer_at h.owner.offers r in (
          peer_view y,
          keeps,
          tt,
          peer_moves places s here id y (peer_view y) (set s.words (r % places) n) mine.0
              (loaded places s.words (r % places) h.owner.offers x.decisions here.words)
              (agree_look places s.words h.owner.offers h.owner.learned h.owner.last x.decisions x.look here.words h.some_place here.agreed)
              here.told
              (starts_same x.decisions)
              (knows_peer h.owner y h.owner_seat h.peer_seat id mine.0),
          (
            refl,
            (λ was_told nothing.
                let open_ : r < length h.owner.offers = omega (arith, was_told, here.told.of_owner) in
                look-open z.stamp z.withdrawn (ap look_of (sym (standing_is n (open_standing z) (here.words.undecided r open_ (le_refl r)))) ∙ nothing)),
          ),
        )

-- ---- take

pub offer_seen : (seen : Option Look) (u : ℕ) → SawOfferBelow seen u → (seen ≡ Some (look.Offered (stamp_seen seen))) × (stamp_seen seen < u)
offer_seen None u h = absurd h
offer_seen (Some (look.Offered t)) u h = (refl, h)
offer_seen (Some (look.Withdrawn w)) u h = absurd h
offer_seen (Some look.Nothing) u h = absurd h

-- what the exchange of a taking finds: the offer as it was posted, or its withdrawal
data Meets (ws : List ℕ) (i : ℕ) (z : Offer) (t : ℕ) : Type 0 where
  offered : get_or ws i 0 ≡ code (Offered t) → z.withdrawn ≡ None → Meets ws i z t
  withdrawn : (w : ℕ) → get_or ws i 0 ≡ code (Withdrawn w) → z.withdrawn ≡ Some w → Meets ws i z t

meets : (ws : List ℕ) (i : ℕ) (z : Offer) (t : ℕ) (w : Option ℕ) → z.withdrawn ≡ w → z.stamp ≡ t → get_or ws i 0 ≡ code (open_standing z) → Meets ws i z t
meets ws i z t None is stamp word = offered (word ∙ (λ j. code (open_by (stamp j) (is j)))) is
meets ws i z t (Some w) is stamp word = withdrawn w (word ∙ (λ j. code (open_by (stamp j) (is j)))) is

pub take_allowed : {S : Type 0} (places slots id : ℕ) (me : Me S View) (x : Peer) (i t u old new : ℕ) → me ≡ (peer_view x, []) → i ≡ length x.decisions % places → old ≡ code (Offered t)
    → new ≡ code (Taken u) → x.look ≡ Some (look.Offered t) → t < u
    → Allows (WordRule places) slots id me i (λ n. either (eqb n old) new n) (Takes (step slots i old new none) me)
take_allowed {S} places slots id me x i t u old new is at_word olds news showed later =
    subst (λ (z : Me S View × (ℕ × (ℕ × ℕ))). Allows (WordRule places) slots id z.0 z.1.0 (λ n. either (eqb n z.1.1.0) z.1.1.1 n) (Takes (step slots z.1.0 z.1.1.0 z.1.1.1 none) z.0))
    (λ j. (sym is j, (sym at_word j, (sym olds j, sym news j))))
    inner
  where
    inner : Allows (WordRule places) slots id (peer_view x, []) (length x.decisions % places) (λ n. either (eqb n (code (Offered t))) (code (Taken u)) n)
        (Takes (step {S = S} slots (length x.decisions % places) (code (Offered t)) (code (Taken u)) none) (peer_view x, []))
    inner s h _ at _ =
        let mine = (h.seats id (peer_view x) at).of_peer x refl in
        let here = by_peer places s h x mine.1 in
        let o = h.owner in
        let r = length x.decisions in
        let n = get_or s.words (r % places) 0 in
        let z = offer_at o.offers r in
        let saw = here.agreed.look_true (look.Offered t) showed in
        let few = here.agreed.counts_small in
        let small : r + 1 < 2 ^ 60 = omega (arith, saw.0, few.0, few.1) in
        elim (meets s.words (r % places) z t z.withdrawn refl saw.1 (here.words.undecided r saw.0 (le_refl r))) [
          | offered found open_ ↦
              let d = decision (outcome.Taken u) t in
              let y = after_take taking.Won u x in
              let stored : (λ (v : ℕ). decision (outcome.Taken u) v) (stamp_seen x.look) ≡ d = ap (λ (l : Option Look). decision (outcome.Taken u) (stamp_seen l)) showed in
              let answer : Answered z.stamp z.withdrawn (decision (outcome.Taken u) (stamp_seen x.look)) =
              subst (λ (q : ℕ × (Option ℕ × Decision)). Answered q.0 q.1.0 q.1.1) (λ j. (sym saw.1 j, (sym open_ j, sym stored j))) (u, later, refl) in
              let e : eqb n (code (Offered t)) ≡ true = eq-eqb n (code (Offered t)) found in
              let near = here.agreed.offered_within in
              let decided = here.agreed.learned_decided in
              rw e (
                peer_view y,
                keeps,
                tt,
                peer_moves places s here id y (peer_view y) (set s.words (r % places) (code (Taken u))) mine.0
                    (words_decide places s.words o.offers x.decisions (decision (outcome.Taken u) (stamp_seen x.look)) here.words h.some_place saw.0 (omega (arith, near, decided)))
                    (agree_decide places o.offers o.learned o.last x.decisions x.look (decision (outcome.Taken u) (stamp_seen x.look)) here.agreed saw.0 answer)
                    (told_grows o.told o.told_look x.told_offers o.offers o.offers x.decisions y.decisions (grows_same o.offers)
                    (starts_push x.decisions (decision (outcome.Taken u) (stamp_seen x.look))) here.told)
                    (starts_push x.decisions (decision (outcome.Taken u) (stamp_seen x.look)))
                    (knows_peer o y h.owner_seat h.peer_seat id mine.0),
                (ap (λ (v : ℕ). (peer_view (after_take taking.Won v x), [])) (sym (stamp-taken u)), small),
              )
          | withdrawn w found is_withdrawn ↦
              let y = after_take (taking.Withdrawn w) u x in
              let back : stamp_in n ≡ w = ap stamp_in found ∙ stamp-withdrawn w in
              let e : eqb n (code (Offered t)) ≡ false = ne_eqb n (code (Offered t)) (λ same. withdrawn_not_offered w t (sym found ∙ same)) in
              rw e (
                peer_view y,
                keeps,
                tt,
                peer_moves places s here id y (peer_view y) (set s.words (r % places) n) mine.0
                    (loaded places s.words (r % places) o.offers x.decisions here.words)
                    (agree_seen places o.offers o.learned o.last x.decisions x.look (Some (look.Withdrawn w)) here.agreed
                    (λ l now. let same : look.Withdrawn w ≡ l = cc in subst (IsTrueLook o.offers r) same (saw.0, is_withdrawn)))
                    here.told
                    (starts_same x.decisions)
                    (knows_peer o y h.owner_seat h.peer_seat id mine.0),
                (ap (λ (v : ℕ). (peer_view (after_take (taking.Withdrawn v) u x), [])) (sym back), small),
              )
        ]

-- ---- pass

pub withdrawal_seen : (seen : Option Look) (u : ℕ) → SawWithdrawalBelow seen u → (w : ℕ) × (seen ≡ Some (look.Withdrawn w)) × (w < u)
withdrawal_seen None u h = absurd h
withdrawal_seen (Some (look.Offered t)) u h = absurd h
withdrawal_seen (Some (look.Withdrawn w)) u h = (w, refl, h)
withdrawal_seen (Some look.Nothing) u h = absurd h

pub pass_allowed : {S : Type 0} (places slots id : ℕ) (me : Me S View) (x : Peer) (i w u n : ℕ) → me ≡ (peer_view x, []) → i ≡ length x.decisions % places → n ≡ code (Passed u)
    → x.look ≡ Some (look.Withdrawn w) → w < u
    → Allows (WordRule places) slots id me i (λ _. n) (λ _. Passes (step slots i n 0 none) me n)
pass_allowed {S} places slots id me x i w u n is at_word stores showed later =
    subst (λ (z : Me S View × (ℕ × ℕ)). Allows (WordRule places) slots id z.0 z.1.0 (λ _. z.1.1) (λ _. Passes (step slots z.1.0 z.1.1 0 none) z.0 z.1.1))
    (λ j. (sym is j, (sym at_word j, sym stores j))) inner
  where
    inner : Allows (WordRule places) slots id (peer_view x, []) (length x.decisions % places) (λ _. code (Passed u))
        (λ _. Passes (step {S = S} slots (length x.decisions % places) (code (Passed u)) 0 none) (peer_view x, []) (code (Passed u)))
    inner s h _ at _ =
        let mine = (h.seats id (peer_view x) at).of_peer x refl in
        let here = by_peer places s h x mine.1 in
        let o = h.owner in
        let r = length x.decisions in
        let z = offer_at o.offers r in
        let saw = here.agreed.look_true (look.Withdrawn w) showed in
        let few = here.agreed.counts_small in
        let d = decision (outcome.Passed u) (stamp_seen x.look) in
        let answer : Answered z.stamp z.withdrawn d = subst (λ (q : Option ℕ × Option Look). Answered z.stamp q.0 (decision (outcome.Passed u) (stamp_seen q.1))) (λ j. (sym saw.1 j, sym showed j))
        (u, later, refl) in
        let y = after_pass u x in
        let near = here.agreed.offered_within in
        let decided = here.agreed.learned_decided in (
          peer_view y,
          keeps,
          tt,
          peer_moves places s here id y (peer_view y) (set s.words (r % places) (code (Passed u))) mine.0
              (words_decide places s.words o.offers x.decisions d here.words h.some_place saw.0 (omega (arith, near, decided)))
              (agree_decide places o.offers o.learned o.last x.decisions x.look d here.agreed saw.0 answer)
              (told_grows o.told o.told_look x.told_offers o.offers o.offers x.decisions y.decisions (grows_same o.offers) (starts_push x.decisions d) here.told)
              (starts_push x.decisions d)
              (knows_peer o y h.owner_seat h.peer_seat id mine.0),
          (ap (λ (v : ℕ). (peer_view (after_pass v x), [])) (sym (stamp-passed u)), omega (arith, saw.0, few.0, few.1)),
        )
