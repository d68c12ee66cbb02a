-- What the end of a core's requests keeps.
use Rattle.std.proofs.Common.{◌≡◌, ℕ, ◌<◌, ◌≤◌, None, Bool, true, false, ◌&&◌, not, refl, sym, ap, ◌∙◌, subst, arith, length}
use Rattle.std.specs.Prelude.{IfNone}
use Rattle.core_channels.specs.declared.answers.Learning.{Learning}
use Rattle.core_channels.specs.declared.answers.Learning.TheVariants as learning
use Rattle.core_channels.specs.declared.answers.Withdrawing.{Withdrawing}
use Rattle.core_channels.specs.declared.answers.Withdrawing.TheVariants as withdrawing
use Rattle.core_channels.specs.Laws.{told_by_withdrawing}
use Rattle.channel_ends.specs.Sending.{OwnerNotes, has_room}
use Rattle.channel_ends.specs.Learns.{Learns}
use Rattle.channel_ends.specs.Withdraws.{Withdraws}
use Rattle.core_ports.specs.Tells.{told_by_arrival}
use Rattle.request_ends.specs.Asking.{Asking}
use Rattle.request_ends.specs.Requesting.{NotesOnly}
use Rattle.end_ports.specs.OnLinks.{is_decided}
use Rattle.end_ports.specs.inner.AskFields.{IsAskingAt}
use Rattle.end_ports.specs.declared.ask_at.AskAt.TheInside.{Inside}
use Rattle.end_ports.specs.Answers.{learned_as, is_quiet}
use Rattle.end_ports.specs.inner.Entered.{enters_withdrawal, enters_learning}
use Rattle.end_ports.proofs.Answering.{IsAsLong, decided_learned, decided_withdrawn}
use Rattle.end_ports.proofs.Asking.{room_stays}

both_true : (a b : Bool) → (a && b) ≡ true → (a ≡ true) × (b ≡ true)
both_true true b h = (refl, h)
both_true false b h = cc

not_true : (b : Bool) → not b ≡ true → b ≡ false
not_true true h = cc
not_true false h = refl

module _ (it : Inside) (kept : IsAskingAt it) (new : Asking) (only : NotesOnly it.end new) (places : it.end.places ≤ new.places) (settled entered : Bool)
    (stays : settled ≡ (it.settled && not entered)) (quiet : entered ≡ false → new.send.notes.offers ≡ it.end.send.notes.offers) where
  abbrev after : ℕ → Inside
  after polls = record { link = it.link; end = new; polls = polls; tries = it.tries; settled = settled }

  ready : new.send.notes.table ≡ it.end.send.notes.table → settled ≡ true → has_room new.send.notes ≡ true → (0 < new.send.free) × (0 < new.places)
  ready table is room =
      let both = both_true it.settled (not entered) (sym stays ∙ is) in
      let offers = quiet (not_true entered both.1) in
      let was = kept.ready both.0 (sym (room_stays it.end.send.notes new.send.notes offers table) ∙ room) in
      let free : new.send.free ≡ it.end.send.free = ap (λ (e : Asking). e.send.free) only in
      (omega (arith, was.0, free), omega (arith, was.1, places))

  pub keeps_asking : (polls : ℕ) → IsAsLong it.end.send.notes new.send.notes → IsAskingAt (after polls)
  keeps_asking polls long = record {
    carries = ap (λ (e : Asking). length e.send.payloads) only ∙ kept.carries ∙ sym long.offers;
    hears = long.heard ∙ kept.hears ∙ sym long.offers;
    ready = ready long.table;
  }

none_withdrawn : (l n : ℕ) (r : Withdrawing) → enters_withdrawal r ≡ false → told_by_withdrawing l n r ≡ None
none_withdrawn l n (withdrawing.Withdrawn s) e = cc
none_withdrawn l n (withdrawing.Taken s) e = cc
none_withdrawn l n withdrawing.ClockFull e = refl

none_learned : (l : ℕ) (r : Learning) → enters_learning r ≡ false → told_by_arrival l (learned_as r) ≡ None
none_learned l (learning.Know number s) e = cc
none_learned l (learning.Room number s) e = cc
none_learned l learning.Undecided e = refl
none_learned l learning.AllKnown e = refl
none_learned l learning.ClockFull e = refl

pub withdraws_quietly : (old : OwnerNotes) (n last : ℕ) (r : Withdrawing) (new : OwnerNotes) → Withdraws old n last r new → enters_withdrawal r ≡ false → new.offers ≡ old.offers
withdraws_quietly old n last r new h e =
    (subst (λ q. IfNone q ((is_decided new ≡ is_decided old) × (new.offers ≡ old.offers))) (none_withdrawn 0 n r e) (decided_withdrawn old 0 n last r new h)).1

pub learns_quietly : (old : OwnerNotes) (last : ℕ) (r : Learning) (new : OwnerNotes) → Learns old last r new → enters_learning r ≡ false → new.offers ≡ old.offers
learns_quietly old last r new h e =
    (subst (λ q. IfNone q ((is_decided new ≡ is_decided old) × (new.offers ≡ old.offers))) (none_learned 0 r e) (decided_learned old 0 last r new h)).1

pub no_entry : (r : Learning) → is_quiet r ≡ true → enters_learning r ≡ false
no_entry (learning.Know number s) e = cc
no_entry (learning.Room number s) e = cc
no_entry learning.Undecided e = refl
no_entry learning.AllKnown e = refl
no_entry learning.ClockFull e = refl
