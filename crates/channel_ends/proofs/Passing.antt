-- A withdrawn offer that is passed within a call of `take`, after an exchange that came too late.
use Rattle.std.proofs.Common.{◌≡◌, ℕ, ◌+◌, List, [], ◌∷◌, ◌++◌, Some, None, sym, ap, ◌∙◌, subst, length, append_assoc}
use mathlib.Core.List.{IsPrefix}
use Rattle.ac_base.specs.Stamps.{stamp_after}
use Rattle.completion_word.specs.declared.answers.Look.TheVariants as look
use Rattle.completion_word.specs.declared.views.Peer.{Peer}
use Rattle.completion_word.specs.declared.views.DecisionKind.TheVariants as outcome
use Rattle.completion_word.specs.Link.{decision}
use Rattle.completion_word.specs.Steps.{stamp_seen}
use Rattle.core_channels.specs.declared.answers.Receiving.{Receiving as Received}
use Rattle.core_channels.specs.declared.answers.Receiving.TheVariants.{Took, Passed, Nothing, NotYet, ClockFull}
use Rattle.channel_ends.specs.Receiving.{Receiving, Receives, DecidesNone, SawFull}
use Rattle.channel_ends.specs.inner.Takes.{Passes}

-- the end as it was, and as the exchange left it
module _ {M : Type 0} (old mid new : Receiving M) (last w : ℕ) (table : mid.table ≡ old.table) (ring : mid.ring ≡ old.ring) (decisions : mid.peer.decisions ≡ old.peer.decisions)
    (told : mid.peer.told_offers ≡ old.peer.told_offers) (looks : mid.peer.looks ≡ old.peer.looks + 1) (seen : mid.peer.look ≡ Some (look.Withdrawn w)) (popped : mid.popped ≡ old.popped)
    (items : IsPrefix old.items mid.items) where
  full : stamp_after last w ≡ None → DecidesNone old mid × SawFull last mid.peer
  full none = (
    record { table = table; ring = ring; decisions = decisions; told = told; looks = looks; popped = popped; items = items },
    record { shown = look.Withdrawn w; last_look = seen; some = λ e. cc; none = none },
  )

  pub passes_so : (result : Received M) → Passes mid last w result new → Receives old last result new
  passes_so (Took number value s) p = absurd p
  passes_so (Passed number s) p = (
    p.1.value,
    record {
      of = w;
      next = p.0;
      table = p.1.table ∙ table;
      ring = p.1.ring ∙ ring;
      number_is = p.1.number_is ∙ ap length decisions;
      decisions = ap (λ (q : Peer). q.decisions) p.1.peer ∙ ap (λ l. mid.peer.decisions ++ decision (outcome.Passed s) (stamp_seen l) ∷ []) seen
          ∙ ap (λ xs. xs ++ decision (outcome.Passed s) w ∷ []) decisions;
      told = ap (λ (q : Peer). q.told_offers) p.1.peer ∙ told;
      looks = ap (λ (q : Peer). q.looks) p.1.peer ∙ looks;
      popped = p.1.popped ∙ ap (λ xs. xs ++ p.1.value ∷ []) popped;
      items = (items.0, items.1 ∙ p.1.items);
    },
  )
  passes_so Nothing p = absurd p
  passes_so NotYet p = absurd p
  passes_so ClockFull p = subst (λ (e : Receiving M). DecidesNone old e × SawFull last e.peer) (sym p.1) (full p.0)

-- what begins with a list that begins with another begins with that
pub prefix_then : {X : Type 0} (xs ys zs : List X) → IsPrefix xs ys → IsPrefix ys zs → IsPrefix xs zs
prefix_then xs ys zs a b = (a.0 ++ b.0, sym (append_assoc xs a.0 b.0) ∙ ap (λ l. l ++ b.0) a.1 ∙ b.1)
