-- A core that has gone on over its ports is to the run what a party owes: its clock rises with its journal, and where it has not risen all is
-- as it was, and the core has stopped.
use Rattle.std.proofs.Common.{◌≡◌, ℕ, ◌≤◌, Bool, true, false, None, refl, sym, ap, ◌∙◌, subst, inl, inr}
use Rattle.std.specs.Prelude.{◌||◌, nat_lt}
use Rattle.ac_base.specs.Stamps.{stamp_after}
use Rattle.ac_links.specs.declared.payloads.Terms.{Terms}
use Rattle.ac_links.specs.Journals.{last_of}
use Rattle.ac_links.specs.Party.{LinkEnd, PartyAgrees}
use Rattle.stack_code.specs.Valid.{IsValid}
use Rattle.code_safety.specs.KeptEnds.{KeepsEnds}
use Rattle.core_ports.specs.AtHand.{AtHand}
use Rattle.core_machine.specs.Machine.{ComesToEnd}
use Rattle.core_machine.specs.Points.{KeepsOperations}
use Rattle.core_driver.specs.declared.pause.Pause.{Pause}
use Rattle.core_driver.specs.declared.pause.Pause.TheVariants.{Finished, Trapped, OutOfSteps, Idle, ClockFull}
use Rattle.core_driver.specs.Driven.{Driven}
use Rattle.core_driver.specs.Idle.{IsLater, LeavesNothing}
use Rattle.core_driver.specs.Pauses.{IsPaused, is_clock_full}
use Rattle.run_laws.specs.Cores.{HasNoStamp}
use Rattle.run_laws.proofs.ComingBack.{stopped}
use Rattle.run_laws.proofs.Rising as rising
use Rattle.end_ports.specs.Held.{Held}
use Rattle.settled_run.specs.Parties.{CanGoNoFurther}
use Rattle.run_parties.specs.Seats.{CoreSeat, core_of, ports_of}
use Rattle.run_parties.specs.Moving.{SeatStays}

module _ (old new : CoreSeat) (later : IsLater old.driven.machine new.driven.machine)
    (agrees : PartyAgrees (ports_of new).terms new.driven.machine.core (ports_of new).ends new.driven.machine.journal) where
  -- ---- its clock

  pub not_before : last_of 0 old.driven.machine.journal ≤ last_of 0 new.driven.machine.journal
  not_before = rising.not_before _ old.driven.machine.journal new.driven.machine.journal later.entries later.journal agrees.stamps

  pub same_journal : nat_lt (last_of 0 old.driven.machine.journal) (last_of 0 new.driven.machine.journal) ≡ false
      → new.driven.machine.journal ≡ old.driven.machine.journal
  same_journal none = rising.same _ old.driven.machine.journal new.driven.machine.journal later.entries later.journal agrees.stamps
      (rising.grown _ old.driven.machine.journal new.driven.machine.journal later.entries later.journal agrees.stamps ∙ none)

  -- ---- all is as it was

  module _ (terms : (ports_of new).terms ≡ (ports_of old).terms) (ends : (ports_of new).ends ≡ (ports_of old).ends)
      (hand : (ports_of new).at_hand ≡ (ports_of old).at_hand) where
    pub seat_stays : SeatStays old new
    seat_stays l = record {
      terms = ap (λ (f : ℕ → Terms). f l) terms;
      end = ap (λ (f : ℕ → LinkEnd). f l) ends;
      decision = ap (λ (f : ℕ → AtHand). (f l).decision) hand;
      front = ap (λ (f : ℕ → AtHand). (f l).front) hand;
      reply = ap (λ (f : ℕ → AtHand). (f l).reply) hand;
      slot = λ room. ap (λ (f : ℕ → AtHand). (f l).slot) hand;
    }

  -- ---- why it has come back

  module _ (pause : Pause) (again : old.driven.full ≡ true → (new.driven ≡ old.driven) × (new.ports ≡ old.ports))
      (heard : old.driven.full ≡ false → pause ≡ ClockFull
      → (link : ℕ) × (stamp_after (last_of 0 new.driven.machine.journal) ((ports_of new).heard link) ≡ None))
      (full : new.driven.full ≡ (old.driven.full || is_clock_full pause)) (comes : ComesToEnd new.driven.machine) where
    full_pause : (p : Pause) → is_clock_full p ≡ true → p ≡ ClockFull
    full_pause Finished h = let no : false ≡ true = h in absurd (cc)
    full_pause (Trapped trap) h = let no : false ≡ true = h in absurd (cc)
    full_pause OutOfSteps h = let no : false ≡ true = h in absurd (cc)
    full_pause Idle h = let no : false ≡ true = h in absurd (cc)
    full_pause ClockFull h = refl

    same_seat : (s t : CoreSeat) → s.driven ≡ t.driven → s.ports ≡ t.ports → s ≡ t
    same_seat s t d p = ap (λ (x : Driven). record { driven = x; ports = s.ports }) d ∙ ap (λ (h : Held). record { driven = t.driven; ports = h }) p

    no_stamp : (was : Bool) → old.driven.full ≡ was → (old.driven.full ≡ true → HasNoStamp (core_of old) (ports_of old).heard)
        → new.driven.full ≡ true → HasNoStamp (core_of new) (ports_of new).heard
    no_stamp true was before is =
        let s = again was in
        subst (λ (x : CoreSeat). HasNoStamp (core_of x) (ports_of x).heard) (sym (same_seat new old s.0 s.1)) (before was)
    no_stamp false was before is =
        let h = heard was (full_pause pause (sym (full ∙ ap (λ b. b || is_clock_full pause) was) ∙ is)) in
        record { end = comes.end; comes = comes.comes; link = h.0; full = h.1 }

    pub full_tells : (old.driven.full ≡ true → HasNoStamp (core_of old) (ports_of old).heard)
        → new.driven.full ≡ true → HasNoStamp (core_of new) (ports_of new).heard
    full_tells = no_stamp old.driven.full refl

    no_more : (was : Bool) → old.driven.full ≡ was → new.driven.full ≡ false → is_clock_full pause ≡ false
    no_more true was none = let no : true ≡ false = sym (full ∙ ap (λ b. b || is_clock_full pause) was) ∙ none in absurd (cc)
    no_more false was none = sym (full ∙ ap (λ b. b || is_clock_full pause) was) ∙ none

    module _ (valid : IsValid new.driven.machine.code) (keeps : KeepsEnds new.driven.machine.code) (own : KeepsOperations new.driven.machine)
        (paused : IsPaused new.driven.machine.state pause)
        (left : pause ≡ Idle → LeavesNothing new.driven.machine (ports_of new).terms (ports_of new).ends (ports_of new).at_hand) where
      by_full : (is : Bool) → new.driven.full ≡ is → (old.driven.full ≡ true → HasNoStamp (core_of old) (ports_of old).heard)
          → CanGoNoFurther (core_of new) (ports_of new)
      by_full true is before = inr (full_tells before is)
      by_full false is before = inl (stopped new.driven (ports_of new).terms (ports_of new).ends (ports_of new).at_hand valid.lists.links keeps own comes pause paused
          (no_more old.driven.full refl is) left)

      pub can_go_no_further : (old.driven.full ≡ true → HasNoStamp (core_of old) (ports_of old).heard) → CanGoNoFurther (core_of new) (ports_of new)
      can_go_no_further before = by_full new.driven.full refl before
