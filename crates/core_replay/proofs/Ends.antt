-- How a core ends that goes no further where no entry is to come. One that has stopped ends as the machine tells; one that asks for an outcome
-- stalls at its next move, the cancel that asks, since its whole journal has come in.
use Rattle.std.proofs.Common.{◌≡◌, ℕ, List, Option, Some, None, Bool, true, false, refl, sym, ap, ◌∙◌, subst}
use Rattle.std.specs.Prelude.{◌&&◌, ◌||◌, is_none, is_some, if◌then◌else◌}
use Rattle.ac_base.specs.declared.ends.CoreEnd.{CoreEnd}
use Rattle.ac_base.specs.declared.ends.EndWord.TheVariants as word
use Rattle.ac_base.specs.declared.ends.MachineEnd.{MachineEnd}
use Rattle.ac_base.specs.declared.entry.Entry.{Entry}
use Rattle.work_item.specs.declared.ids.Item.{Item}
use Rattle.core_state.specs.Moves.{Move, On, Over, GoesOn}
use Rattle.core_state.specs.Shared.{core_end}
use Rattle.core_state.proofs.Runs.{GoesOn-more}
use Rattle.stack_code.specs.Parts.{Parts}
use Rattle.code_meaning.specs.Machine.{Flat, FlatEnd, Runs, counted, exec, first_flat}
use Rattle.core_machine.specs.Machine.{ComesToEnd, IsOnItsWay, IsSameCore, IsSeen, Machine, has_stopped, is_resting, none_ready}
use Rattle.core_machine.specs.Points.{IsInTurn, IsOfTurn}
use Rattle.core_machine.specs.Tried.{cancelled_at, tried_of, tried_within}
use Rattle.core_machine.proofs.Passing.{asking_is, asking_stalls}
use Rattle.replay_laws.specs.Given.{asks, is_asking}
use Rattle.core_replay.specs.inner.Replaying.{has_rested}

-- what is seen of a machine is one thing
seen_once : (s : Move Flat FlatEnd) (d e : MachineEnd) → IsSeen s d → IsSeen s e → (d.core ≡ e.core) × (d.instructions ≡ e.instructions)
seen_once (On m) d e h g = (sym h.0 ∙ g.0, sym h.1 ∙ g.1)
seen_once (Over x) d e h g = let both : Some d.core ≡ Some e.core = sym h.0 ∙ g.0 in (cc, sym h.1 ∙ g.1)

abbrev EndsBy : Machine → CoreEnd → ℕ → Type 0
EndsBy m end count = Runs m.code m.core m.bound m.journal (record { core = Some end; count = count })

-- it has ended or is idle
stopped_ends : (m : Machine) (end : MachineEnd) → ComesToEnd m → has_stopped m.state ≡ true → IsSeen m.state end → EndsBy m end.core end.instructions
stopped_ends m end c h seen =
    let one = seen_once m.state c.end end (c.seen h) seen in
    subst (EndsBy m end.core) one.1 (subst (λ (x : CoreEnd). EndsBy m x c.end.instructions) one.0 c.comes)

-- and then it asks for none
stopped_asks_none : (code : Parts) (s : Move Flat FlatEnd) → has_stopped s ≡ true → tried_of code s ≡ None
stopped_asks_none code (Over x) h = refl
stopped_asks_none code (On m) h = by m.running h
  where
    by : (o : Option Item) → (is_none o && none_ready m.ready) ≡ true → tried_within m (cancelled_at code m o) ≡ None
    by None h = refl
    by (Some t) h = let no : false ≡ true = h in absurd (cc)

-- a thread runs where it asks for an outcome
asking_runs : (code : Parts) (m : Flat) → is_asking code m ≡ true → is_resting m ≡ false
asking_runs code m h = by m.running h
  where
    by : (o : Option Item) → asks code m o ≡ true → (is_none o && none_ready m.ready) ≡ false
    by None h = let no : false ≡ true = h in absurd (cc)
    by (Some t) h = refl

-- or it asks for an outcome
asking_ends : (m : Machine) (end : MachineEnd) → IsOnItsWay m → (turn : ℕ) → IsOfTurn m turn → is_some (tried_of m.code m.state) ≡ true → IsSeen m.state end
    → EndsBy m end.core (counted end.instructions)
asking_ends m end run turn now asks seen = by m.state refl
  where
    at : (flat : Flat) → m.state ≡ On flat → is_asking m.code flat ≡ true → EndsBy m end.core (counted end.instructions)
    at flat is asks =
        let first = first_flat m.code m.core run.function m.journal in
        let all = subst (λ (s : Move Flat FlatEnd). IsInTurn m.journal turn s) is now in
        let there = subst (IsSeen_of end) is seen in
        let goes = subst (GoesOn (exec m.code m.bound) first) is run.goes in
        let stalls = asking_stalls m.code m.bound flat all.1.1 asks in
        let more = subst (GoesOn (exec m.code m.bound) first) stalls (GoesOn-more (exec m.code m.bound) first flat goes) in
        let own : core_end word.Stalled false flat.store.globals flat.operations flat.shared ≡ end.core =
        ap (λ (idle : Bool). core_end word.Stalled idle flat.store.globals flat.operations flat.shared) (sym (asking_runs m.code flat asks)) ∙ there.0 in
        record {
          function = run.function;
          begins = run.begins;
          comes = subst (λ (n : ℕ). GoesOn (exec m.code m.bound) first (Over (record { core = Some end.core; count = counted n }))) there.1
              (subst (λ (x : CoreEnd). GoesOn (exec m.code m.bound) first (Over (record { core = Some x; count = counted flat.count }))) own more);
        }
      where
        IsSeen_of : MachineEnd → Move Flat FlatEnd → Type 0
        IsSeen_of end s = IsSeen s end

    by : (s : Move Flat FlatEnd) → m.state ≡ s → EndsBy m end.core (counted end.instructions)
    by (On flat) is = at flat is (asking_is m.code flat ∙ subst (λ (s : Move Flat FlatEnd). is_some (tried_of m.code s) ≡ true) is asks)
    by (Over x) is = let no : false ≡ true = subst (λ (s : Move Flat FlatEnd). is_some (tried_of m.code s) ≡ true) is asks in absurd (cc)

-- how many instructions were begun, by whether it asks for an outcome
abbrev pub begun_by : Bool → ℕ → ℕ
begun_by asks count = if asks then counted count else count

-- the machine, which has gone on to there
pub ends_so : (start m : Machine) (end : MachineEnd) (asking : Bool) → IsSameCore start m → IsOnItsWay m → ComesToEnd m → (turn : ℕ) → IsOfTurn m turn → has_rested m.code m.state ≡ true
    → asking ≡ is_some (tried_of m.code m.state) → IsSeen m.state end → EndsBy start end.core (begun_by asking end.instructions)
ends_so start m end asking same run comes turn now rested asked seen = at (subst (λ (b : Bool). EndsBy m end.core (begun_by b end.instructions)) (sym asked) (by (has_stopped m.state) refl rested))
  where
    by : (b : Bool) → has_stopped m.state ≡ b → (b || is_some (tried_of m.code m.state)) ≡ true → EndsBy m end.core (begun_by (is_some (tried_of m.code m.state)) end.instructions)
    by true is h =
        subst (λ (b : Bool). EndsBy m end.core (begun_by b end.instructions)) (sym (ap (λ o. is_some o) (stopped_asks_none m.code m.state is))) (stopped_ends m end comes is seen)
    by false is h = subst (λ (b : Bool). EndsBy m end.core (begun_by b end.instructions)) (sym h) (asking_ends m end run turn now h seen)

    at : EndsBy m end.core (begun_by asking end.instructions) → EndsBy start end.core (begun_by asking end.instructions)
    at h =
        let told : FlatEnd = record { core = Some end.core; count = begun_by asking end.instructions } in
        subst (λ (code : Parts). Runs code start.core start.bound start.journal told) same.code
        (subst (λ (n : ℕ). Runs m.code n start.bound start.journal told) same.core
        (subst (λ (n : ℕ). Runs m.code m.core n start.journal told) same.bound
        (subst (λ (es : List Entry). Runs m.code m.core m.bound es told) same.journal h)))
