-- What the answers of a receiving end are to the decisions of its channel.
use Rattle.std.proofs.Common.{◌≡◌, ℕ, ℤ, zero, suc, ◌+◌, ◌≤◌, List, [], ◌∷◌, ◌++◌, Some, None, true, false, refl, sym, ap, ◌∙◌, subst, arith, length, length-append, nat_lt}
use Rattle.std.specs.Prelude.{slice_get, ◌==◌, IfNone}
use mathlib.Core.List.{IsPrefix}
use Rattle.std.proofs.lemmas.Bool.Decides.{nat_tests}
use Rattle.ac_base.specs.declared.entry.Event.{Event}
use Rattle.ac_base.specs.declared.entry.Event.TheVariants.{Got, Pass}
use Rattle.ac_base.specs.Stamps.{stamp_after}
use Rattle.ac_links.specs.Link.{link_of}
use Rattle.ac_links.specs.Payloads.Taking.{Message}
use Rattle.ac_links.specs.Views.{PeerDecision, peer_fits, decision_of}
use Rattle.ac_links.specs.Noted.{peer_noted, answers_stamp}
use Rattle.ac_links.specs.Party.LinkEnd.{Decides}
use Rattle.core_channels.proofs.Stamping.{stamp_is_next}
use Rattle.core_channels.specs.declared.answers.Receiving.{Receiving as Received}
use Rattle.core_channels.specs.declared.answers.Receiving.TheVariants.{Took, Passed, Nothing, NotYet, ClockFull}
use Rattle.core_channels.specs.Counts.{counted}
use Rattle.completion_word.specs.declared.views.Decision.{Decision}
use Rattle.completion_word.specs.declared.views.DecisionKind.{DecisionKind}
use Rattle.completion_word.specs.declared.views.DecisionKind.TheVariants as outcome
use Rattle.completion_word.specs.Link.{decision}
use Rattle.completion_word.specs.Steps.{stamp_seen}
use Rattle.channel_ends.specs.Receiving.{Receiving, Receives, DecidesNone, Decides as DecidesOne, receiving_clock}
use Rattle.channel_ends.specs.Settled.{stamp_of, taking_by, peer_decisions}
use Rattle.core_ports.specs.Tells.{told_by_arrival}
use Rattle.end_ports.specs.Held.{ReceivingAt}
use Rattle.end_ports.specs.Held.HeldEnd.{OfRecv}
use Rattle.end_ports.specs.OnLinks.{decisions_on, on_recv}
use Rattle.end_ports.specs.inner.Calls.{TellsAt, TellsOneAt, Serves, PollsOn}
use Rattle.end_ports.specs.Answers.{received_as}

-- ---- the list of decisions

abbrev pub decided : List ℤ → Decision → PeerDecision
decided x d = record { value = taking_by (Message x) d.outcome; stamp = stamp_of d.outcome; answers = d.answers }

pub decisions_added : (k : ℕ) (xs : List (List ℤ)) (ds : List Decision) (x : List ℤ) (d : Decision) → length xs ≡ length ds
    → peer_decisions (λ k x. Message x) k (xs ++ x ∷ []) (ds ++ d ∷ []) ≡ peer_decisions (λ k x. Message x) k xs ds ++ decided x d ∷ []
decisions_added k [] [] x d h = refl
decisions_added k [] (e ∷ ds) x d h = absurd (omega arith)
decisions_added k (y ∷ xs) [] x d h = absurd (omega arith)
decisions_added k (y ∷ xs) (e ∷ ds) x d h = ap (λ r. decided y e ∷ r) (decisions_added (suc k) xs ds x d (omega arith))

pub decisions_count : (k : ℕ) (xs : List (List ℤ)) (ds : List Decision) → length xs ≡ length ds → length (peer_decisions (λ k x. Message x) k xs ds) ≡ length ds
decisions_count k [] [] h = refl
decisions_count k [] (e ∷ ds) h = absurd (omega arith)
decisions_count k (y ∷ xs) [] h = absurd (omega arith)
decisions_count k (y ∷ xs) (e ∷ ds) h = ap suc (decisions_count (suc k) xs ds (omega arith))

last_is : (ds : List PeerDecision) (d : PeerDecision) (n : ℕ) → n ≡ length ds → slice_get (ds ++ d ∷ []) n ≡ Some d
last_is [] d zero h = refl
last_is [] d (suc n) h = absurd (omega arith)
last_is (x ∷ ds) d zero h = absurd (omega arith)
last_is (x ∷ ds) d (suc n) h = last_is ds d n (omega arith)

are_equal : (m n : ℕ) → m ≡ n → (m == n) ≡ true
are_equal m n h = grind (arith, nat_tests)

not_below : (m n : ℕ) → n ≤ m → nat_lt m n ≡ false
not_below m n h = grind (arith, nat_tests)

pub prefix_length : {X : Type 0} (xs ys : List X) → IsPrefix xs ys → length xs ≤ length ys
prefix_length xs ys p = let l : length ys ≡ length xs + length p.0 = sym (ap length p.1) ∙ length-append xs p.0 in omega arith

-- ---- the calls

module _ (r : ReceivingAt) (one_each : length r.end.popped ≡ length r.end.peer.decisions)
    (known : r.end.peer.told_offers ≤ length r.end.peer.decisions + length r.end.items) (last : ℕ) (new : Receiving (List ℤ)) (polls : ℕ) (count : polls ≡ counted r.polls) where
  abbrev after : ReceivingAt
  after = record { link = r.link; end = new; polls = polls }

  -- without a decision
  none_decided : DecidesNone r.end new → (((on_recv after).terms ≡ (on_recv r).terms) × (decisions_on after ≡ decisions_on r) × ((on_recv after).hand ≡ (on_recv r).hand))
  none_decided h = (
    ap (λ t. record { capacity = t.words; requests = false }) h.table,
    ap (λ xs. peer_decisions (λ k x. Message x) 0 xs new.peer.decisions) h.popped ∙ ap (λ ds. peer_decisions (λ k x. Message x) 0 r.end.popped ds) h.decisions,
    ap (λ ds. record { decision = false; front = nat_lt (length ds) new.peer.told_offers; reply = false; slot = false }) h.decisions
        ∙ ap (λ n. record { decision = false; front = nat_lt (length r.end.peer.decisions) n; reply = false; slot = false }) h.told,
  )

  quiet : (answer : Received (List ℤ)) (now : ℕ) → told_by_arrival r.link (received_as answer) ≡ None → DecidesNone r.end new → now ≡ last
      → Serves (on_recv r) r.link last (told_by_arrival r.link (received_as answer)) (on_recv after) now
  quiet answer now none h clock = let same = none_decided h in record {
    terms = same.0;
    tells = subst (λ q. TellsAt (on_recv r).terms (on_recv r).end r.link last q (on_recv after).end now) (sym none) (ap Decides same.1, clock);
    hand = subst (λ q. IfNone q ((on_recv after).hand ≡ (on_recv r).hand)) (sym none) same.2;
  }

  -- one decision more, by an event that the peer may enter
  one_more : (e : Event) (number s : ℕ) (how : DecisionKind) (value : List ℤ) (now : ℕ) → (d : DecidesOne r.end last number how s value new) → link_of e ≡ r.link
      → (number ≡ length r.end.peer.decisions → peer_fits (on_recv r).terms (decisions_on r) e ≡ true)
      → decided value (decision how d.of) ≡ decision_of s d.of e
      → (number ≡ length r.end.peer.decisions → d.of ≡ peer_noted (decisions_on r ++ decision_of s d.of e ∷ []) e)
      → now ≡ s
      → TellsOneAt (on_recv r).terms (on_recv r).end r.link last (record { event = e; stamp = s }) (on_recv after).end now
  one_more e number s how value now d link fits is noted clock =
      let list : decisions_on after ≡ decisions_on r ++ decision_of s d.of e ∷ [] =
      ap (λ xs. peer_decisions (λ k x. Message x) 0 xs new.peer.decisions) d.popped
      ∙ ap (λ ds. peer_decisions (λ k x. Message x) 0 (r.end.popped ++ value ∷ []) ds) d.decisions
      ∙ decisions_added 0 r.end.popped r.end.peer.decisions value (decision how d.of) one_each
      ∙ ap (λ x. decisions_on r ++ x ∷ []) is in
      record {
        link = link;
        answers = d.of;
        fits = fits d.number_is;
        next = stamp_is_next last d.of s d.next;
        noted = noted d.number_is ∙ ap (λ ds. peer_noted ds e) (sym list);
        end = ap Decides list;
        clock = clock;
      }

  count_here : (number : ℕ) → number ≡ length r.end.peer.decisions → number ≡ length (decisions_on r)
  count_here number h = h ∙ sym (decisions_count 0 r.end.popped r.end.peer.decisions one_each)

  took : (number s : ℕ) (value : List ℤ) (now : ℕ) → DecidesOne r.end last number (outcome.Taken s) s value new → now ≡ s
      → TellsAt (on_recv r).terms (on_recv r).end r.link last (told_by_arrival r.link (received_as (Took number value s))) (on_recv after).end now
  took number s value now d clock = one_more (Got r.link number value) number s (outcome.Taken s) value now d refl
      (λ h. are_equal number (length (decisions_on r)) (count_here number h)) refl
      (λ h. sym (ap answers_stamp (last_is (decisions_on r) (decision_of s d.of (Got r.link number value)) number (count_here number h)))) clock

  passed : (number s : ℕ) (value : List ℤ) (now : ℕ) → DecidesOne r.end last number (outcome.Passed s) s value new → now ≡ s
      → TellsAt (on_recv r).terms (on_recv r).end r.link last (told_by_arrival r.link (received_as (Passed number s))) (on_recv after).end now
  passed number s value now d clock = one_more (Pass r.link number) number s (outcome.Passed s) value now d refl
      (λ h. are_equal number (length (decisions_on r)) (count_here number h)) refl
      (λ h. sym (ap answers_stamp (last_is (decisions_on r) (decision_of s d.of (Pass r.link number)) number (count_here number h)))) clock

  pub recv_polls : (answer : Received (List ℤ)) (now : ℕ) → Receives r.end last answer new → now ≡ receiving_clock last answer
      → PollsOn (OfRecv r) r.link last true (received_as answer) (OfRecv after) now
  recv_polls (Took number value s) now h clock = record {
    answer = refl;
    serves = record { terms = ap (λ t. record { capacity = t.words; requests = false }) h.table; tells = took number s value now h clock; hand = tt };
    polls = count;
    tries = refl;
    exact = (Took number value s, h, refl);
  }
  recv_polls (Passed number s) now h clock = record {
    answer = refl;
    serves = record { terms = ap (λ t. record { capacity = t.words; requests = false }) h.1.table; tells = passed number s h.0 now h.1 clock; hand = tt };
    polls = count;
    tries = refl;
    exact = (Passed number s, h, refl);
  }
  recv_polls Nothing now h clock = record {
    answer = record { decision = refl; front = λ w. not_below (length r.end.peer.decisions) r.end.peer.told_offers h.2; reply = λ w a. refl };
    serves = quiet Nothing now refl h.0 clock;
    polls = count;
    tries = refl;
    exact = (Nothing, h, refl);
  }
  recv_polls NotYet now h clock =
      let none : length r.end.items ≡ 0 = ap length h.2 in
      record {
        answer = (
          record { decision = refl; front = λ w. not_below (length r.end.peer.decisions) r.end.peer.told_offers (omega (arith, known, none)); reply = λ w a. refl },
          refl,
          refl,
        );
        serves = quiet NotYet now refl h.0 clock;
        polls = count;
        tries = refl;
        exact = (NotYet, h, refl);
      }
  recv_polls ClockFull now h clock = record {
    answer = (ap (λ q. stamp_after last (stamp_seen q)) h.1.last_look ∙ h.1.none, λ p. refl);
    serves = quiet ClockFull now refl h.0 clock;
    polls = count;
    tries = refl;
    exact = (ClockFull, h, refl);
  }

-- ---- what the end keeps

abbrev pub IsKept : Receiving (List ℤ) → Type 0
IsKept e = (length e.popped ≡ length e.peer.decisions) × (e.peer.told_offers ≤ length e.peer.decisions + length e.items)

kept_none : (old new : Receiving (List ℤ)) → DecidesNone old new → IsKept old → IsKept new
kept_none old new h k = (
  ap length h.popped ∙ k.0 ∙ sym (ap length h.decisions),
  let items = prefix_length old.items new.items h.items in
      let decisions : length new.peer.decisions ≡ length old.peer.decisions = ap length h.decisions in
      omega (arith, k.1, h.told),
)

kept_one : (old new : Receiving (List ℤ)) (last number s : ℕ) (how : DecisionKind) (value : List ℤ) → DecidesOne old last number how s value new → IsKept old → IsKept new
kept_one old new last number s how value h k =
    let popped : length new.popped ≡ length old.popped + 1 = ap length h.popped ∙ length-append old.popped (value ∷ []) in
    let decisions : length new.peer.decisions ≡ length old.peer.decisions + 1 = ap length h.decisions ∙ length-append old.peer.decisions (decision how h.of ∷ []) in
    let items : length old.items ≤ suc (length new.items) = prefix_length old.items (value ∷ new.items) h.items in
    (omega (arith, k.0), omega (arith, k.1, h.told))

pub keeps_items : (old new : Receiving (List ℤ)) (last : ℕ) (answer : Received (List ℤ)) → Receives old last answer new → IsKept old → IsKept new
keeps_items old new last (Took number value s) h k = kept_one old new last number s (outcome.Taken s) value h k
keeps_items old new last (Passed number s) h k = kept_one old new last number s (outcome.Passed s) h.0 h.1 k
keeps_items old new last Nothing h k = kept_none old new h.0 k
keeps_items old new last NotYet h k = kept_none old new h.0 k
keeps_items old new last ClockFull h k = kept_none old new h.0 k
