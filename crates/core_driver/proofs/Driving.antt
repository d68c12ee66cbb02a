-- What a driver keeps beside its core, and what a run of the core is to its callers.
use Rattle.std.proofs.Common.{◌≡◌, ℕ, None, Bool, true, false, sym, ap, ◌∙◌, subst}
use Rattle.std.specs.Prelude.{◌||◌}
use Rattle.ac_base.specs.Stamps.{stamp_after}
use Rattle.ac_links.specs.Journals.{last_of}
use Rattle.ac_links.specs.Party.{PartyAgrees}
use Rattle.core_state.specs.Moves.{Move}
use Rattle.code_meaning.specs.Machine.{Flat, FlatEnd}
use Rattle.core_machine.specs.Machine.{Machine, has_ended}
use Rattle.core_driver.specs.declared.pause.Pause.{Pause}
use Rattle.core_driver.specs.declared.pause.Pause.TheVariants.{Finished, Trapped, OutOfSteps, Idle, ClockFull}
use Rattle.core_driver.specs.Driven.{Driven, IsDriven}
use Rattle.core_driver.specs.Idle.{IsLater}
use Rattle.core_driver.specs.Pauses.{IsPaused, is_clock_full}
use Rattle.core_driver.specs.Sides.{ArePortsOf}
use Rattle.core_driver.specs.inner.InStep.{Holds, InStep}
use Rattle.core_driver.specs.inner.Outside.{IsFull, Outside}

abbrev pub driven : Machine → Bool → Driven
driven m full = record { machine = m; full = full }

full_goes : (state : Move Flat FlatEnd) (pause : Pause) → IsPaused state pause → is_clock_full pause ≡ true → has_ended state ≡ false
full_goes state Finished h e = let no : false ≡ true = e in absurd (cc)
full_goes state (Trapped trap) h e = let no : false ≡ true = e in absurd (cc)
full_goes state OutOfSteps h e = let no : false ≡ true = e in absurd (cc)
full_goes state Idle h e = let no : false ≡ true = e in absurd (cc)
full_goes state ClockFull h e = h

module _ (m : Machine) (full : Bool) (old : Driven) (o : Outside) (is : driven m full ≡ old) (kept : IsDriven m o.last full) where
  pub in_step_by : ArePortsOf old.machine.code old.machine.core o.terms o.ends → PartyAgrees o.terms old.machine.core o.ends old.machine.journal → InStep m o
  in_step_by ports agrees = record {
    run = kept.run;
    ports = subst (λ (d : Driven). ArePortsOf d.machine.code d.machine.core o.terms o.ends) (sym is) ports;
    agrees = subst (λ (d : Driven). PartyAgrees o.terms d.machine.core o.ends d.machine.journal) (sym is) agrees;
    clock = kept.clock;
  }

  module _ (n : Machine) (p : Outside) (holds : Holds m o n p) where
    pub later_by : IsLater old.machine n
    later_by = subst (λ (d : Driven). IsLater d.machine n) is holds.machine

    same_clock : n.journal ≡ old.machine.journal → p.last ≡ o.last
    same_clock e = holds.in_step.clock ∙ ap (last_of 0) (e ∙ ap (λ (d : Driven). d.machine.journal) (sym is)) ∙ sym kept.clock

    pub quiet_by : n.journal ≡ old.machine.journal → (p.ends ≡ o.ends) × (p.hand ≡ o.hand)
    quiet_by e = (holds.ports.ends (same_clock e), holds.ports.hand (same_clock e))

    -- memory was refused
    pub kept_still : full ≡ false → IsDriven n p.last full
    kept_still none = record {
      clock = holds.in_step.clock;
      run = holds.in_step.run;
      going = λ e. let no : false ≡ true = sym none ∙ e in absurd (cc);
    }

    pub kept_by : (pause : Pause) (now : Bool) → IsPaused n.state pause → now ≡ is_clock_full pause → IsDriven n p.last now
    kept_by pause now h e = record {
      clock = holds.in_step.clock;
      run = holds.in_step.run;
      going = λ f. full_goes n.state pause h (sym e ∙ f);
    }

    pub full_by : (now tells : Bool) → full ≡ false → now ≡ tells → now ≡ (old.full || tells)
    full_by now tells none e = e ∙ ap (λ b. b || tells) (sym none ∙ ap (λ (d : Driven). d.full) is)

    pub heard_by : IsFull p → (l : ℕ) × (stamp_after (last_of 0 n.journal) (p.heard l) ≡ None)
    heard_by h = (h.0, ap (λ k. stamp_after k (p.heard h.0)) (sym holds.in_step.clock) ∙ h.1)
