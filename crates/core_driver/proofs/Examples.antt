-- How a driver comes back, by example.
use Rattle.std.proofs.Common.{◌≡◌, ◌-◌, ◌^◌, refl, ap, true, false, [], ◌∷◌, Some, None, arith}
use Rattle.ac_base.specs.declared.ends.Trap.TheVariants.{ZeroDivisor}
use Rattle.ac_base.specs.declared.entry.Payload.TheVariants.{Read}
use Rattle.ac_links.specs.declared.payloads.Terms.{Terms}
use Rattle.ac_links.specs.Views.{OwnerOffer}
use Rattle.ac_links.specs.Party.{LinkEnd}
use Rattle.ac_links.specs.Party.LinkEnd.{Owns, Decides, Absent}
use Rattle.core_channels.specs.LinkViews.{terms_at}
use Rattle.core_ports.specs.AtHand.{AtHand}
use Rattle.core_ports.specs.Ends.{is_owner, is_peer}
use Rattle.core_state.specs.Moves.{On, Over}
use Rattle.stack_code.specs.declared.parts.ChannelEnds.{ChannelEnds}
use Rattle.stack_code.specs.Parts.{Parts}
use Rattle.core_machine.specs.declared.ending.Ending.TheVariants as ending
use Rattle.core_machine.specs.Machine.{Machine}
use Rattle.core_machine.proofs.Examples.{finished, offer, running, with_operations}
use Rattle.core_driver.specs.declared.pause.Pause.TheVariants as pause
use Rattle.core_ports.specs.declared.side.Side.{Side}
use Rattle.core_ports.specs.declared.side.Side.TheVariants.{Owner, Peer, Neither}
use Rattle.core_driver.specs.Idle.{HasLooked, IsLater, LeavesNothing, RoseBy}
use Rattle.core_driver.specs.Pauses.{IsPaused, is_clock_full, pause_of}
use Rattle.core_ports.specs.Sides.{side_of}
use Rattle.core_driver.specs.Sides.{ArePortsOf, links_of}

-- core 0 sends to core 1
abbrev channel : ChannelEnds
channel = record { from = 0; to = 1 }

module _ (code : Parts) where
  -- two cores with a channel between them
  abbrev two : Parts
  two = record code { ends = channel ∷ []; entries = 0 ∷ 0 ∷ []; capacities = 2 ∷ 1 ∷ 1 ∷ []; widths = 1 ∷ [] }

  pub how_many_links : links_of two ≡ 3
  how_many_links = refl

  abbrev end_for : Side → LinkEnd
  end_for Owner = Owns []
  end_for Peer = Decides []
  end_for Neither = Absent

  pub its_own : ArePortsOf two 0 (terms_at 1 two.capacities) (λ l. end_for (side_of two.ends 0 l))
  its_own = record {
    coded = λ l some. refl;
    owner = λ l side. ap (λ (s : Side). is_owner (end_for s)) side;
    peer = λ l side. ap (λ (s : Side). is_peer (end_for s)) side;
  }

  -- the terms of a link of its own are those of the code
  pub not_with_more_room : ArePortsOf two 0 (λ l. record { capacity = 7; requests = false }) (λ l. end_for (side_of two.ends 0 l)) → ⊥
  not_with_more_room h = let e = ap (λ (t : Terms). t.capacity) (h.coded 0 (λ none. let no : Owner ≡ Neither = none in cc)) in omega (arith, e)

  pub none_at_all : ArePortsOf two 0 (terms_at 1 two.capacities) (λ l. Absent) → ⊥
  none_at_all h = let no : false ≡ true = h.owner 0 refl in cc

  -- ---- what has become of a machine

  abbrev machine : Machine
  machine = record { code = two; core = 0; bound = 9; journal = []; state = On with_operations; room = false }

  pub one_entry_later : IsLater machine (record machine { journal = offer ∷ []; room = true })
  one_entry_later = record { code = refl; core = refl; bound = refl; entries = offer ∷ []; journal = refl }

  pub not_an_entry_less : IsLater (record machine { journal = offer ∷ [] }) machine → ⊥
  not_an_entry_less h = let e = h.journal in cc

  -- ---- what is left at hand

  abbrev nothing : AtHand
  nothing = record { decision = false; front = false; reply = false; slot = false }

  pub nothing_at_hand : LeavesNothing machine (terms_at 1 two.capacities) (λ l. end_for (side_of two.ends 0 l)) (λ l. nothing)
  nothing_at_hand = record { decision = λ l side. refl; front = λ l side waits. refl; slot = λ l side waits room. refl; reply = λ l side asks waits. refl }

  pub a_decision_at_hand : LeavesNothing machine (terms_at 1 two.capacities) (λ l. end_for (side_of two.ends 0 l)) (λ l. record nothing { decision = true }) → ⊥
  a_decision_at_hand h = let no : true ≡ false = h.decision 0 refl in cc

  -- a 5 is to be sent on channel 0, there is room and a place for it
  pub a_slot_at_hand : LeavesNothing machine (terms_at 1 two.capacities) (λ l. end_for (side_of two.ends 0 l)) (λ l. record nothing { slot = true }) → ⊥
  a_slot_at_hand h = let no : true ≡ false = h.slot 0 refl refl refl in cc

  -- the one request that was made is known to be taken, and its reply is there
  abbrev request : OwnerOffer
  request = record { payload = Read 6 9 4; stamp = 1; withdrawn = None; known = Some 2; reply = None }

  pub a_reply_at_hand : LeavesNothing machine (terms_at 1 two.capacities) (λ l. Owns (request ∷ [])) (λ l. record nothing { reply = true }) → ⊥
  a_reply_at_hand h = let no : true ≡ false = h.reply 1 refl refl refl in cc

  -- ---- how often a core has looked

  pub looked_twice : HasLooked 2 machine (λ l. 5) (λ l. 7) (λ l. 0) (λ l. 2)
  looked_twice = record { polled = λ l side. omega arith; tried = λ l side waits. omega arith }

  pub not_a_third_time : HasLooked 3 machine (λ l. 5) (λ l. 7) (λ l. 0) (λ l. 3) → ⊥
  not_a_third_time h = let low = h.polled 0 (λ e. cc) in absurd (omega (arith, low))

-- a count stays at its last value
pub how_counts_rise : RoseBy 3 5 8 × RoseBy 3 (2 ^ 64 - 1) (2 ^ 64 - 1)
how_counts_rise = (omega arith, omega arith)

pub it_rose_by_two_alone : RoseBy 3 5 7 → ⊥
it_rose_by_two_alone h = absurd (omega (arith, h))

-- ---- why a driver has come back

pub why_at_an_end : (pause_of ending.Finished ≡ pause.Finished) × (pause_of (ending.Trapped ZeroDivisor) ≡ pause.Trapped ZeroDivisor) × (pause_of ending.OutOfSteps ≡ pause.OutOfSteps)
why_at_an_end = (refl, refl, refl)

pub it_came_back : IsPaused (Over (record { core = Some finished; count = 4 })) pause.Finished × IsPaused (On running) pause.Idle × IsPaused (On running) pause.ClockFull
it_came_back = (refl, refl, refl)

pub it_has_not_ended : IsPaused (On running) pause.Finished → ⊥
it_has_not_ended h = h

pub not_full_after_its_end : IsPaused (Over (record { core = Some finished; count = 4 })) pause.ClockFull → ⊥
not_full_after_its_end e = cc

pub whether_it_is_full : (is_clock_full pause.ClockFull ≡ true) × (is_clock_full pause.Idle ≡ false)
whether_it_is_full = (refl, refl)
