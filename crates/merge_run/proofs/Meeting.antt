-- What the settling of a link leaves of its two parties; and what the consumer has kept after a taking.
use Rattle.std.proofs.Common.{◌≡◌, ℕ, ℤ, List, [], ◌∷◌, ◌++◌, Some, None, length, refl, sym, ap, ◌∙◌, subst, arith, inl, inr}
use Rattle.std.specs.Prelude.{slice_get}
use mathlib.Core.List.{IsPrefix}
use Rattle.std.proofs.lemmas.List.{append-nil, length-append}
use Rattle.std.proofs.lemmas.Bool.{cases_eq}
use Rattle.completion_word.specs.declared.views.Peer.{Peer}
use Rattle.completion_word.specs.declared.views.DecisionKind.{DecisionKind}
use Rattle.completion_word.specs.declared.views.DecisionKind.TheVariants as outcome
use Rattle.completion_word.specs.Link.{decision}
use Rattle.core_channels.specs.declared.answers.Receiving.{Receiving as Received}
use Rattle.core_channels.specs.declared.answers.Receiving.TheVariants as received
use Rattle.channel_ends.specs.Sending.{Sending, OwnerNotes, AreWithin}
use Rattle.channel_ends.specs.Receiving.{Receiving, Receives, Decides, DecidesNone}
use Rattle.channel_ends.specs.Settled.{AreSettled}
use Rattle.channel_ends.specs.Pairs.{IsSameSend, IsSameRecv, IsSettledSend, IsSettledRecv}
use Rattle.ac_choice.specs.declared.answers.Tagged.{Tagged}
use Rattle.ac_choice.specs.AnyOf.{SoAt, AreSameEnds}
use Rattle.ac_choice.specs.Relaying.{Relaying, Carries, if_taken, taken_by}
use Rattle.ac_choice.specs.Steps.{IsSameRelay}
use Rattle.ac_choice.specs.Settling.{SettlesEnd, SettlesOut}
use Rattle.ac_choice.proofs.Lists.{taken_more}
use Rattle.merge_run.specs.declared.producer.Producer.{Producer}
use Rattle.merge_run.specs.declared.consumer.Consumer.{Consumer}
use Rattle.merge_run.specs.declared.party.MergeParty.TheVariants.{Produces, Relays, Consumes}
use Rattle.merge_run.specs.inner.Parties.{IsPrefixAt, HasPopped, KeepsRelay, HaveMet, taken_value}
use Rattle.merge_run.specs.inner.Keeping.{so_self}
use Rattle.merge_run.proofs.Positions.{same_Some}

-- ---- ends that are settled

settled_send : {M : Type 0} (s t : Sending M) → IsSettledSend s t → IsSameSend s t
settled_send s t h = record { table = ap (λ (n : OwnerNotes). n.table) h.notes; ring = h.ring }

settled_recv : {M : Type 0} (r s : Receiving M) → IsSettledRecv r s → IsSameRecv r s
settled_recv r s h = record { table = h.table; ring = h.ring }

front_is : {M : Type 0} (s : Sending M) (r : Receiving M) → AreSettled s r → IsPrefix r.popped s.payloads
front_is s r h = (r.items, h.in_order)

-- ---- the relay and one of its producers

module _ (r s : Relaying) (k : ℕ) (a b : Sending ℤ) (h : SettlesEnd r k a b s) where
  each_so : (R : Receiving ℤ → Receiving ℤ → Type 0) → ((x : Receiving ℤ) → R x x) → R h.before h.end → (i : ℕ) → SoAt R r.ins i s.ins
  each_so R self here i =
      elim (cases_eq i k) [
        | inl is ↦ λ x y from to.
            let e = same_Some h.before x (sym h.was ∙ subst (λ n. slice_get r.ins n ≡ Some x) is from) in
            let f = same_Some h.end y (sym h.now ∙ subst (λ n. slice_get s.ins n ≡ Some y) is to) in
            subst (λ z. R z y) e (subst (λ z. R h.before z) f here)
        | inr apart ↦ λ x y from to. let e : y ≡ x = h.others i apart x y from to in subst (λ z. R x z) (sym e) (self x)
      ]

  out_is : s.out ≡ r.out
  out_is = ap (λ (v : Relaying). v.out) h.only

  clock_is : s.clock ≡ r.clock
  clock_is = ap (λ (v : Relaying). v.clock) h.only

  same_relay : IsSameRelay r s
  same_relay = record {
    ins = record {
      count = h.count;
      each = each_so IsSameRecv (λ x. record { table = refl; ring = refl }) (settled_recv h.before h.end h.receives);
    };
    out = subst (λ o. IsSameSend r.out o) (sym out_is) (record { table = refl; ring = refl });
  }

  keeps_relay : KeepsRelay r s
  keeps_relay = record {
    count = h.count;
    ins = each_so HasPopped (λ x. refl) h.receives.popped;
    out = ap (λ (o : Sending Tagged). o.payloads) out_is;
  }

pub met_sender : (p : Producer) (r s : Relaying) (l : ℕ) (e : Sending ℤ) → SettlesEnd r l p.end e s → Carries s
    → HaveMet l (Produces p) (Relays r) (Produces (record p { end = e })) (Relays s)
met_sender p r s l e h carries = record {
  owner = (
    (
      record { end = settled_send p.end e h.sends; tag = refl; width = refl; count = refl },
      λ going. record {
        numbers = going.numbers;
        payloads = h.sends.payloads ∙ going.payloads;
        within = subst (λ os. AreWithin p.clock os) (sym (ap (λ (n : OwnerNotes). n.offers) h.sends.notes)) going.within;
      },
    ),
    refl,
    h.sends.payloads,
  );
  peer = ((same_relay r s l p.end e h, λ was. carries), clock_is r s l p.end e h, keeps_relay r s l p.end e h);
  settled = subst (λ o. IsPrefixAt o e.payloads) (sym h.now) (front_is e h.end h.settled);
}

-- ---- the relay and the consumer

pub met_receiver : (r s : Relaying) (c : Consumer) (l : ℕ) (e : Receiving Tagged) → SettlesOut r c.end e s → Carries s
    → HaveMet l (Relays r) (Consumes c) (Relays s) (Consumes (record c { end = e }))
met_receiver r s c l e h carries =
    let ins_are : s.ins ≡ r.ins = ap (λ (v : Relaying). v.ins) h.only in
    record {
      owner = (
        (
          record {
            ins = subst (λ xs. AreSameEnds r.ins xs) (sym ins_are) (record { count = refl; each = so_self IsSameRecv (λ x. record { table = refl; ring = refl }) r.ins });
            out = settled_send r.out s.out h.sends;
          },
          λ was. carries,
        ),
        ap (λ (v : Relaying). v.clock) h.only,
        record {
          count = ap length ins_are;
          ins = λ k. subst (λ xs. SoAt HasPopped r.ins k xs) (sym ins_are) (so_self HasPopped (λ x. refl) r.ins k);
          out = h.sends.payloads;
        },
      );
      peer = (
        (
          settled_recv c.end e h.receives,
          λ was. let decided = ap (λ (v : Peer). v.decisions) h.receives.peer in record {
            received = was.received ∙ sym (ap (λ ps. taken_by ps e.peer.decisions) h.receives.popped ∙ ap (λ ds. taken_by c.end.popped ds) decided);
            one_each = ap length h.receives.popped ∙ was.one_each ∙ sym (ap length decided);
          },
        ),
        refl,
        h.receives.popped,
      );
      settled = front_is s.out e h.settled;
    }

-- ---- the consumer

longer : {X Y : Type 0} (xs : List X) (ys : List Y) (x : X) (y : Y) → length xs ≡ length ys → length (xs ++ x ∷ []) ≡ length (ys ++ y ∷ [])
longer xs ys x y e = let a = length-append xs (x ∷ []) in let b = length-append ys (y ∷ []) in omega (arith, a, b, e)

module _ (old new : Receiving Tagged) (last : ℕ) (each : length old.popped ≡ length old.peer.decisions) where
  decides : (number s : ℕ) (how : DecisionKind) (x : Tagged) → Decides old last number how s x new
      → taken_by new.popped new.peer.decisions ≡ taken_by old.popped old.peer.decisions ++ if_taken x how
  decides number s how x h =
      ap (λ ps. taken_by ps new.peer.decisions) h.popped ∙ ap (λ ds. taken_by (old.popped ++ x ∷ []) ds) h.decisions
      ∙ taken_more old.popped old.peer.decisions x (decision how h.of) each

  decides_one : (number s : ℕ) (how : DecisionKind) (x : Tagged) → Decides old last number how s x new → length new.popped ≡ length new.peer.decisions
  decides_one number s how x h =
      ap length h.popped ∙ longer old.popped old.peer.decisions x (decision how h.of) each ∙ sym (ap length h.decisions)

  decides_none : DecidesNone old new → taken_by new.popped new.peer.decisions ≡ taken_by old.popped old.peer.decisions
  decides_none h = ap (λ ps. taken_by ps new.peer.decisions) h.popped ∙ ap (λ ds. taken_by old.popped ds) h.decisions

  pub one_each_then : (r : Received Tagged) → Receives old last r new → length new.popped ≡ length new.peer.decisions
  one_each_then (received.Took number value s) h = decides_one number s (outcome.Taken s) value h
  one_each_then (received.Passed number s) h = decides_one number s (outcome.Passed s) h.0 h.1
  one_each_then received.Nothing h = ap length h.0.popped ∙ each ∙ sym (ap length h.0.decisions)
  one_each_then received.NotYet h = ap length h.0.popped ∙ each ∙ sym (ap length h.0.decisions)
  one_each_then received.ClockFull h = ap length h.0.popped ∙ each ∙ sym (ap length h.0.decisions)

  pub some_taken : (r : Received Tagged) (x : Tagged) → Receives old last r new → Some x ≡ taken_value r
      → taken_by new.popped new.peer.decisions ≡ taken_by old.popped old.peer.decisions ++ x ∷ []
  some_taken (received.Took number value s) x h is =
      decides number s (outcome.Taken s) value h ∙ ap (λ y. taken_by old.popped old.peer.decisions ++ y ∷ []) (sym (same_Some x value is))
  some_taken (received.Passed number s) x h is = absurd cc
  some_taken received.Nothing x h is = absurd cc
  some_taken received.NotYet x h is = absurd cc
  some_taken received.ClockFull x h is = absurd cc

  pub none_taken : (r : Received Tagged) → Receives old last r new → None ≡ taken_value r → taken_by new.popped new.peer.decisions ≡ taken_by old.popped old.peer.decisions
  none_taken (received.Took number value s) h is = absurd cc
  none_taken (received.Passed number s) h is = decides number s (outcome.Passed s) h.0 h.1 ∙ append-nil (taken_by old.popped old.peer.decisions)
  none_taken received.Nothing h is = decides_none h.0
  none_taken received.NotYet h is = decides_none h.0
  none_taken received.ClockFull h is = decides_none h.0
