-- A driver that has gone on is to its run what a core owes it.
use Rattle.std.proofs.Common.{◌≡◌, ℕ, Option, Some, Bool, true, false, refl, sym, ap, ◌∙◌, subst}
use Rattle.std.specs.List.{list_any}
use Rattle.std.specs.Prelude.{◌||◌, IfSome, not, nat_eq, map, ◌&&◌}
use Rattle.ac_base.specs.declared.ends.CoreEnd.{CoreEnd}
use Rattle.ac_base.specs.declared.ends.EndWord.{EndWord}
use Rattle.ac_base.specs.declared.ends.EndWord.TheVariants as word
use Rattle.ac_base.specs.declared.ends.MachineEnd.{MachineEnd}
use Rattle.ac_base.specs.Report.{is_stalled}
use Rattle.ac_links.specs.declared.payloads.Terms.{Terms}
use Rattle.ac_links.specs.Party.{LinkEnd}
use Rattle.ac_history.specs.Quiet as quiet
use Rattle.cancel_scope.specs.Outstanding.{waiting_as}
use Rattle.core_ports.specs.AtHand.{AtHand}
use Rattle.core_state.specs.Moves.{Move, On, Over}
use Rattle.core_state.specs.Shared.{core_end}
use Rattle.stack_code.specs.Valid.{HasLinks}
use Rattle.code_meaning.specs.Machine.{Flat, FlatEnd}
use Rattle.code_safety.specs.KeptEnds.{KeepsEnds}
use Rattle.core_machine.specs.Machine.{ComesToEnd, IsSeen, has_stopped, has_ended, is_resting}
use Rattle.core_machine.specs.Points.{KeepsOperations, operations_of}
use Rattle.core_driver.specs.declared.pause.Pause.{Pause}
use Rattle.core_driver.specs.declared.pause.Pause.TheVariants.{Finished, Trapped, OutOfSteps, Idle, ClockFull}
use Rattle.core_driver.specs.Driven.{Driven}
use Rattle.core_driver.specs.Idle as idle
use Rattle.core_driver.specs.Pauses.{IsPaused, is_clock_full}
use Rattle.run_laws.specs.Cores.{EndsAs}
use Rattle.run_laws.specs.GoingOn.{LeavesNothing, HasStopped}
use Rattle.run_laws.specs.Seen.{core_or_none, end_in, view_of}
use Rattle.run_laws.proofs.Waits.{receives_there, sends_there}

-- ---- what is seen of it

pub end_is : (state : Move Flat FlatEnd) (end : MachineEnd) → IsSeen state end → end ≡ end_in state
end_is (On m) end h =
    ap (λ core. record { core = core; instructions = end.instructions }) (sym h.0)
    ∙ ap (λ count. record { core = core_end word.Stalled (is_resting m) m.store.globals m.operations m.shared; instructions = count }) (sym h.1)
end_is (Over x) end h =
    ap (λ core. record { core = core; instructions = end.instructions }) (sym (ap core_or_none h.0))
    ∙ ap (λ count. record { core = core_or_none x.core; instructions = count }) (sym h.1)

-- ---- why it has come back

-- it has ended, or is idle
pub comes_back : (state : Move Flat FlatEnd) (pause : Pause) → IsPaused state pause → is_clock_full pause ≡ false → has_stopped state ≡ true
comes_back (On m) Finished h full = absurd h
comes_back (On m) (Trapped trap) h full = absurd h
comes_back (On m) OutOfSteps h full = absurd h
comes_back (On m) Idle h full = h
comes_back (On m) ClockFull h full = let no : true ≡ false = full in absurd (cc)
comes_back (Over x) pause h full = refl

not_stalled : (end : CoreEnd) (w : EndWord) → end.word ≡ w → is_stalled w ≡ false → quiet.has_stopped end ≡ true
not_stalled end w h other = ap (λ b. not b || end.idle) (ap is_stalled h ∙ other)

word_there : (x : FlatEnd) (end : CoreEnd) (w : EndWord) → IfSome x.core (λ (c : CoreEnd). c.word ≡ w) → x.core ≡ Some end → end.word ≡ w
word_there x end w h is = subst (λ (o : Option CoreEnd). IfSome o (λ (c : CoreEnd). c.word ≡ w)) is h

over_stopped : (x : FlatEnd) (end : CoreEnd) (pause : Pause) → IsPaused (Over x) pause → is_clock_full pause ≡ false → x.core ≡ Some end → quiet.has_stopped end ≡ true
over_stopped x end Finished h full is = not_stalled end word.Finished (word_there x end word.Finished h is) refl
over_stopped x end (Trapped trap) h full is = not_stalled end (word.Trapped trap) (word_there x end (word.Trapped trap) h is) refl
over_stopped x end OutOfSteps h full is = not_stalled end word.OutOfSteps (word_there x end word.OutOfSteps h is) refl
over_stopped x end Idle h full is = let no : false ≡ true = h in absurd (cc)
over_stopped x end ClockFull h full is = let no : true ≡ false = full in absurd (cc)

end_stopped : (state : Move Flat FlatEnd) (pause : Pause) (end : MachineEnd) → IsPaused state pause → is_clock_full pause ≡ false → IsSeen state end → quiet.has_stopped end.core ≡ true
end_stopped (On m) pause end h full seen =
    ap (λ (c : CoreEnd). quiet.has_stopped c) (sym seen.0) ∙ comes_back (On m) pause h full
end_stopped (Over x) pause end h full seen = over_stopped x end.core pause h full seen.0

-- ---- what is left for it

idle_pause : (state : Move Flat FlatEnd) (pause : Pause) → IsPaused state pause → has_ended state ≡ false → is_clock_full pause ≡ false → pause ≡ Idle
idle_pause (On m) Finished h going full = absurd h
idle_pause (On m) (Trapped trap) h going full = absurd h
idle_pause (On m) OutOfSteps h going full = absurd h
idle_pause (On m) Idle h going full = refl
idle_pause (On m) ClockFull h going full = let no : true ≡ false = full in absurd (cc)
idle_pause (Over x) pause h going full = let no : true ≡ false = going in absurd (cc)

waiting_in : (state : Move Flat FlatEnd) (l : ℕ) → has_ended state ≡ false
    → quiet.waits_on l (end_in state).core ≡ list_any (λ w. nat_eq w.link l && quiet.is_waiting w.phase) (map waiting_as (operations_of state))
waiting_in (On m) l going = refl
waiting_in (Over x) l going = let no : true ≡ false = going in absurd (cc)

module _ (d : Driven) (terms : ℕ → Terms) (ends : ℕ → LinkEnd) (hands : ℕ → AtHand) (valid : HasLinks d.machine.code) (keeps : KeepsEnds d.machine.code)
    (own : KeepsOperations d.machine) where
  leaves_nothing : has_ended d.machine.state ≡ false → idle.LeavesNothing d.machine terms ends hands → LeavesNothing (view_of d) terms ends hands
  leaves_nothing going h =
      let m = d.machine in
      record {
        decision = h.decision;
        front = λ l side waits. h.front l side (receives_there m.code m.core l (operations_of m.state) (own keeps) side (sym (waiting_in m.state l going) ∙ waits));
        reply = h.reply;
        slot = λ l side waits room.
            h.slot l side (sends_there m.code m.core l valid (operations_of m.state) (own keeps) side (sym (waiting_in m.state l going) ∙ waits)) room;
      }

  module _ (comes : ComesToEnd d.machine) (pause : Pause) (paused : IsPaused d.machine.state pause) (full : is_clock_full pause ≡ false)
      (left : pause ≡ Idle → idle.LeavesNothing d.machine terms ends hands) where
    seen : IsSeen d.machine.state comes.end
    seen = comes.seen (comes_back d.machine.state pause paused full)

    end_here : comes.end ≡ end_in d.machine.state
    end_here = end_is d.machine.state comes.end seen

    leaves_by : (b : Bool) → has_ended d.machine.state ≡ b → (end_in d.machine.state).core.idle ≡ true → LeavesNothing (view_of d) terms ends hands
    leaves_by true ended waits =
        let no : false ≡ true = sym (comes.busy ended) ∙ ap (λ (e : MachineEnd). e.core.idle) end_here ∙ waits in
        absurd (cc)
    leaves_by false going waits = leaves_nothing going (left (idle_pause d.machine.state pause paused going full))

    pub stopped : HasStopped (view_of d) terms ends hands
    stopped = record {
      comes = subst (EndsAs (view_of d)) end_here comes.comes;
      stopped = subst (λ (e : MachineEnd). quiet.has_stopped e.core ≡ true) end_here (end_stopped d.machine.state pause comes.end paused full seen);
      leaves = λ waits. leaves_by (has_ended d.machine.state) refl waits;
    }
