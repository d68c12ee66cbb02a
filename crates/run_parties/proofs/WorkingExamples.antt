-- When a core that sends on channel 0, and a worker with the ends of one core, have done their part of a round.
use Rattle.std.proofs.Common.{◌≡◌, ℕ, zero, suc, [], ◌∷◌, Option, Some, None, true, false, refl, ap, subst, inl, inr, arith, cond}
use Rattle.std.specs.Prelude.{slice_get}
use Rattle.channel_ends.proofs.Examples.{new_one}
use Rattle.completion_word.specs.declared.answers.Look.{Look}
use Rattle.completion_word.specs.declared.answers.Look.TheVariants as look
use Rattle.core_driver.specs.Driven.{Driven}
use Rattle.core_driver.specs.Idle.{RoseBy}
use Rattle.core_machine.proofs.Examples.{finished, running}
use Rattle.core_ports.specs.declared.side.Side.TheVariants.{Owner, Neither}
use Rattle.core_ports.specs.Sides.{side_of}
use Rattle.core_state.specs.Moves.{On, Over}
use Rattle.end_ports.specs.Held.{AskingAt}
use Rattle.end_ports.proofs.Placing.{not_equal}
use Rattle.file_worker.specs.Ends.{CoreEnds, AtDesk, AtEach}
use Rattle.file_worker.specs.Rounds.{LacksStamp}
use Rattle.file_worker.proofs.EndLists.{same_some}
use Rattle.run_laws.proofs.CoreExamples.{crossing}
use Rattle.run_parties.specs.declared.run_party.RunParty.{RunParty}
use Rattle.run_parties.specs.declared.run_party.RunParty.TheVariants.{Core, Disk}
use Rattle.run_parties.specs.Seats.{CoreSeat}
use Rattle.run_parties.specs.Working.{IsOver, HavePolled, SeatWorked, HasLookedFor, DeskWorked, PartyWorked}

-- ---- a core, whose links are channel 0 and link 1, that of its requests

module _ (d : Driven) (a : AskingAt) where
  abbrev driven : Driven
  driven = record d { machine = record d.machine { code = crossing; core = 0; state = On running }; full = false }

  -- each was polled so often
  abbrev seat : ℕ → CoreSeat
  seat polls = record {
    driven = driven;
    ports = record {
      sends = record { link = 0; end = new_one; polls = polls; tries = 0 } ∷ [];
      recvs = [];
      ask = record a { link = 1; polls = polls };
      full = false;
    };
  }

  no_other : (l : ℕ) → side_of crossing.ends 0 (suc (suc l)) ≡ Neither
  no_other l = ap (λ b. cond b Owner Neither) (not_equal (suc (suc l)) 1 (λ e. absurd (omega (arith, e))))

  polled : (times old new : ℕ) → RoseBy times old new → HavePolled times (seat old) (seat new)
  polled times old new h zero own = h
  polled times old new h (suc zero) own = h
  polled times old new h (suc (suc l)) own = absurd (own (no_other l))

  pub each_was_polled_twice : HavePolled 2 (seat 5) (seat 7)
  each_was_polled_twice = polled 2 5 7 (omega arith)

  pub and_not_thrice : HavePolled 3 (seat 5) (seat 7) → ⊥
  and_not_thrice h = let low : RoseBy 3 5 7 = h 0 (λ e. cc) in absurd (omega (arith, low))

  pub it_goes_on : IsOver (seat 5) → ⊥
  it_goes_on h = elim h [
    | inl ended ↦ (let no : false ≡ true = ended in cc)
    | inr full ↦ (let no : false ≡ true = full in cc)
  ]

  pub it_is_over : IsOver (record (seat 5) { driven = record driven { machine = record driven.machine { state = Over (record { core = Some finished; count = 4 }) } } })
      × IsOver (record (seat 5) { driven = record driven { full = true } })
  it_is_over = (inl refl, inr refl)

  pub it_has_done_its_part : SeatWorked 2 (seat 5) (seat 7)
  it_has_done_its_part = inr each_was_polled_twice

  pub it_has_more_to_do : SeatWorked 3 (seat 5) (seat 7) → ⊥
  it_has_more_to_do h = elim h [
    | inl over ↦ it_goes_on over
    | inr enough ↦ and_not_thrice enough
  ]

-- ---- a worker with the ends of one core

module _ (e : CoreEnds) where
  -- it has looked so often, and this is what the last look showed
  abbrev looked : ℕ → Option Look → CoreEnds
  looked times shown = record e { ask = record e.ask { peer = record e.ask.peer { looks = times; look = shown } } }

  abbrev desk : ℕ → Option Look → AtDesk
  desk times shown = record { first = 2; ends = looked times shown ∷ []; entries = [] }

  pub it_has_looked_thrice : HasLookedFor 3 (looked 4 None) (looked 7 None)
  it_has_looked_thrice = omega arith

  pub it_has_looked_twice_alone : HasLookedFor 3 (looked 4 None) (looked 6 None) → ⊥
  it_has_looked_twice_alone h = absurd (omega (arith, h))

  at_it : (R : CoreEnds → CoreEnds → Type 0) (x y : CoreEnds) → R x y → AtEach R (x ∷ []) (y ∷ [])
  at_it R x y h zero a b p q = subst (λ v. R v b) (same_some x a p) (subst (R x) (same_some y b q) h)
  at_it R x y h (suc c) a b p q = cc

  pub so_it_has_done_its_part : DeskWorked 3 (desk 4 None) (desk 7 None)
  so_it_has_done_its_part = inl (at_it (HasLookedFor 3) (looked 4 None) (looked 7 None) it_has_looked_thrice)

  -- the greatest stamp is that of what it saw
  abbrev last : ℕ
  last = 1152921504606846975

  pub or_it_lacks_a_stamp : DeskWorked 3 (desk 4 None) (desk 5 (Some (look.Offered last)))
  or_it_lacks_a_stamp = inr (record {
    core = 0;
    old = looked 4 None;
    new = looked 5 (Some (look.Offered last));
    before' = refl;
    after' = refl;
    holds = record { shown = look.Offered last; last_look = refl; some = λ e. cc; none = refl };
  })

  none_shown : (c : ℕ) (x y : CoreEnds) → slice_get (looked 6 None ∷ []) c ≡ Some y → LacksStamp 0 x y → ⊥
  none_shown zero x y q h =
      let none : None ≡ y.ask.peer.look = ap (λ (v : CoreEnds). v.ask.peer.look) (same_some (looked 6 None) y q) in
      let some = h.last_look in
      cc
  none_shown (suc c) x y q h = cc

  pub it_has_still_to_look : DeskWorked 3 (desk 4 None) (desk 6 None) → ⊥
  it_has_still_to_look h = elim h [
    | inl each ↦ it_has_looked_twice_alone (each 0 (looked 4 None) (looked 6 None) refl refl)
    | inr one ↦ none_shown one.core one.old one.new one.after' one.holds
  ]

-- ---- a party is one or the other

module _ (D : Type 0) where
  pub a_core_polls : (s t : CoreSeat) → SeatWorked 10000 s t → PartyWorked {D = D} (Core s) (Core t)
  a_core_polls s t h = h

  pub no_core_becomes_the_worker : (s : CoreSeat) (p : RunParty D) → ((t : CoreSeat) → p ≡ Core t → ⊥) → PartyWorked (Core s) p → ⊥
  no_core_becomes_the_worker s (Core t) n h = n t refl
  no_core_becomes_the_worker s (Disk w) n h = h
