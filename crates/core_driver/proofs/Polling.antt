-- The polls of a driver keep up with the turn of its core. What a look or an entry does leaves the turn, and after a look at each link the
-- machine's turn raises it by one at most; these parts add up, one after another.
use Rattle.std.proofs.Common.{◌≡◌, ℕ, ◌+◌, ◌-◌, ◌<◌, ◌≤◌, [], Option, Some, None, Bool, true, false, refl, sym, ap, ◌∙◌, subst, arith}
use Rattle.std.specs.Prelude.{is_none, is_some, nat_eq, not, if◌then◌else◌}
use Rattle.std.proofs.lemmas.Bool.{ne_eqb}
use Rattle.work_item.specs.declared.ids.Item.{Item}
use Rattle.core_state.specs.Moves.{Move, On, Over}
use Rattle.code_meaning.specs.Machine.{Flat, FlatEnd, is_inside, marked}
use Rattle.core_state.specs.Shared.{with_entry}
use Rattle.core_ports.specs.declared.side.Side.TheVariants.{Neither}
use Rattle.core_ports.specs.Sides.{side_of}
use Rattle.replay_laws.specs.Given.{Passes, asks, is_asking, passes_by, passes_first}
use Rattle.ac_base.specs.declared.entry.Event.{Event}
use Rattle.core_state.specs.Cancelling.{Fate, by_outcome, is_to_try}
use Rattle.core_machine.specs.declared.tried.Tried.{Tried}
use Rattle.core_machine.specs.Machine.{Machine, IsOnItsWay, IsSameCore, has_ended}
use Rattle.core_machine.specs.Points.{entry_of, is_at_point}
use Rattle.core_machine.specs.Tried.{HasDecided, tried_of}
use Rattle.core_machine.proofs.Passing.{asking_is}
use Rattle.core_driver.specs.Driven.{Driven}
use Rattle.core_driver.specs.Idle.{IsLater, RoseBy}
use Rattle.core_driver.specs.Polled.{ArePolled}
use Rattle.core_driver.specs.Sides.{links_of}
use Rattle.core_driver.specs.inner.InStep.{IsLookedAt, Looks, turn_at}
use Rattle.core_driver.specs.inner.Outside.{Outside}
use Rattle.core_driver.proofs.Driving.{driven}
use Rattle.core_driver.proofs.Resting.{is_one, rose_more, rose_none}
use Rattle.core_driver.proofs.Together.{still_going}
use Rattle.core_driver.proofs.Turning.{arrived_turn, reached_most, reached_on, reached_own}

-- ---- the turn has stayed

module _ (m n : Machine) (polls after : ℕ → ℕ) where
  -- the core has not ended, and its turn is the same
  pub polled_still : turn_at n.state ≡ turn_at m.state → has_ended n.state ≡ false → ((l : ℕ) → polls l ≤ after l) → ArePolled m n polls after
  polled_still same going more f is turn reached l side = by n.state refl same going
    where
      by : (s : Move Flat FlatEnd) → n.state ≡ s → turn_at s ≡ turn_at m.state → has_ended s ≡ false → RoseBy (turn - f.shared.turn) (polls l) (after l)
      by (On g) e same going =
          let low = reached_on n g turn e reached in
          let here : turn_at m.state ≡ f.shared.turn = ap turn_at is in
          let rise = more l in
          omega (arith, low, same, here, rise)
      by (Over x) e same going = let no : true ≡ false = going in absurd (cc)

pub polled_none : (m : Machine) (polls : ℕ → ℕ) → ArePolled m m polls polls
polled_none m polls f is turn reached l side = let low = reached_on m f turn is reached in omega (arith, low)

-- after a look
pub polled_by_look : (m n : Machine) (o p : Outside) → Looks m o n p → ArePolled m n o.polls p.polls
polled_by_look m n o p k = polled_still m n o.polls p.polls k.turn (still_going n.state k.point) k.holds.ports.polls

-- where room was made
pub polled_by_room : (m n : Machine) (polls after : ℕ → ℕ) → n.state ≡ m.state → has_ended m.state ≡ false → ((l : ℕ) → polls l ≤ after l) → ArePolled m n polls after
polled_by_room m n polls after same going more = polled_still m n polls after (ap turn_at same) (ap has_ended same ∙ going) more

pub as_before : (polls after : ℕ → ℕ) → after ≡ polls → (l : ℕ) → polls l ≤ after l
as_before polls after e l = subst (λ (f : ℕ → ℕ). polls l ≤ f l) (sym e) (omega arith)

-- and where an offer was decided
pub polled_by_outcome : (m b n : Machine) (tried : Tried) (it : Fate) (event : Event) (stamp : ℕ) (polls after : ℕ → ℕ) → b.state ≡ m.state → HasDecided b tried it event stamp n
    → ((l : ℕ) → polls l ≤ after l) → ArePolled m n polls after
polled_by_outcome m b n tried it event stamp polls after same d more =
    let turn : turn_at n.state ≡ turn_at m.state = ap turn_at d.state ∙ arrived_turn (marked d.flat d.block) (with_entry d.flat.shared (entry_of d.flat event stamp) [])
    (by_outcome it d.flat.store (is_to_try (is_inside d.flat d.block)) d.flat.operations d.operation)
    ∙ sym (ap turn_at d.stood) ∙ ap turn_at same in
    let going : has_ended n.state ≡ false = ap has_ended d.state in
    polled_still m n polls after turn going more

-- ---- a turn of the machine

abbrev pub PassesOn : Machine → Machine → Type 0
PassesOn n q = (turn : ℕ) → passes_first n.code turn n.state ≡ true → (k : ℕ) × Passes n.code n.bound turn k n.state q.state

-- it has gone on to this turn at most, and each link was polled as often as that is later
polled_to : (m n q : Machine) (at : Flat) (turn : ℕ) (polls after : ℕ → ℕ) → n.state ≡ On at → turn_at n.state ≡ turn_at m.state → IsOnItsWay n → IsSameCore n q → at.shared.turn ≤ turn
    → (k : ℕ) → Passes n.code n.bound turn k n.state q.state
    → ((l : ℕ) → (side_of q.code.ends q.core l ≡ Neither → ⊥) → RoseBy (turn - at.shared.turn) (polls l) (after l)) → ArePolled m q polls after
polled_to m n q at turn polls after stood same run core low k passes rose f is t reached l side =
    let most : t ≤ turn = reached_most n q at run stood core turn k low (subst (λ (a : Move Flat FlatEnd). Passes n.code n.bound turn k a q.state) stood passes) t reached in
    let here : at.shared.turn ≡ f.shared.turn = sym (ap turn_at stood) ∙ same ∙ ap turn_at is in
    let r = rose l side in
    omega (arith, most, here, r)

-- at a dispatch point, after a look at each link: no entry of the turn after can come in before the thread runs
pub polled_by_point : (m n q : Machine) (o p : Outside) → Looks m o n p → ((l : ℕ) → l < links_of n.code → IsLookedAt o n p l) → IsSameCore n q → PassesOn n q → ArePolled m q o.polls p.polls
polled_by_point m n q o p k looked same passes = by n.state refl k.point
  where
    first : (turn : ℕ) → not (nat_eq (turn + 1) turn) ≡ true
    first turn = ap not (ne_eqb (turn + 1) turn (λ e. absurd (omega (arith, e))))

    at_rest : (at : Flat) → (o : Option Item) → is_none o ≡ true → (if is_none o then not (nat_eq (at.shared.turn + 1) at.shared.turn) else not (asks n.code at o)) ≡ true
    at_rest at None h = first at.shared.turn
    at_rest at (Some t) h = let no : false ≡ true = h in absurd (cc)

    by : (s : Move Flat FlatEnd) → n.state ≡ s → is_at_point s ≡ true → ArePolled m q o.polls p.polls
    by (Over x) e h = let no : false ≡ true = h in absurd (cc)
    by (On at) e h =
        let past : passes_first n.code (at.shared.turn + 1) n.state ≡ true = ap (passes_first n.code (at.shared.turn + 1)) e ∙ at_rest at at.running h in
        let way = passes (at.shared.turn + 1) past in
        polled_to m n q at (at.shared.turn + 1) o.polls p.polls e k.turn k.holds.in_step.run same (omega arith) way.0 way.1 (λ l side.
        let own : side_of n.code.ends n.core l ≡ Neither → ⊥ = λ e. side (rw (same.code, same.core) e) in
        let here = is_one n k.holds.in_step.run l own in
        let one : RoseBy (0 + 1) (o.polls l) (p.polls l) = rose_more 0 (o.polls l) (o.polls l) (p.polls l) (rose_none (o.polls l) (o.polls l) (omega arith)) ((looked l here).polled own) in
        omega (arith, one))

-- where a thread runs, which asks for no outcome
pub polled_by_stretch : (n q : Machine) (polls : ℕ → ℕ) → IsOnItsWay n → has_ended n.state ≡ false → is_at_point n.state ≡ false → tried_of n.code n.state ≡ None → IsSameCore n q
    → PassesOn n q → ArePolled n q polls polls
polled_by_stretch n q polls run going runs asks_none same passes = by n.state refl going runs asks_none
  where
    running : (at : Flat) (turn : ℕ) → is_asking n.code at ≡ false → (o : Option Item) → at.running ≡ o → is_none o ≡ false → passes_by n.code turn at ≡ true
    running at turn off None e h = let no : true ≡ false = h in absurd (cc)
    running at turn off (Some t) e h = ap (λ (o : Option Item). if is_none o then not (nat_eq turn at.shared.turn) else not (asks n.code at o)) e ∙ ap not (ap (asks n.code at) (sym e) ∙ off)

    by : (s : Move Flat FlatEnd) → n.state ≡ s → has_ended s ≡ false → is_at_point s ≡ false → tried_of n.code s ≡ None → ArePolled n q polls polls
    by (Over x) e h runs none = let no : true ≡ false = h in absurd (cc)
    by (On at) e h runs none =
        let off : is_asking n.code at ≡ false = asking_is n.code at ∙ ap is_some none in
        let past : passes_first n.code at.shared.turn n.state ≡ true = ap (passes_first n.code at.shared.turn) e ∙ running at at.shared.turn off at.running refl runs in
        let way = passes at.shared.turn past in
        polled_to n n q at at.shared.turn polls polls e refl run same (omega arith) way.0 way.1 (λ l side. omega arith)

-- ---- one part after another

pub polled_then : (m n q : Machine) (first second third : ℕ → ℕ) → ArePolled m n first second → ArePolled n q second third → IsLater n q → IsOnItsWay n → has_ended n.state ≡ false
    → ArePolled m q first third
polled_then m n q first second third one two later run going f is turn reached l side = by n.state refl going
  where
    by : (s : Move Flat FlatEnd) → n.state ≡ s → has_ended s ≡ false → RoseBy (turn - f.shared.turn) (first l) (third l)
    by (Over x) e h = let no : true ≡ false = h in absurd (cc)
    by (On g) e h =
        let own : side_of n.code.ends n.core l ≡ Neither → ⊥ = λ e. side (rw (later.code, later.core) e) in
        let a = one f is g.shared.turn (reached_own n g e run) l own in
        let b = two g e turn reached l side in
        omega (arith, a, b)

-- as callers see it
pub polled_seen : (m n : Machine) (full : Bool) (old : Driven) (polls after : ℕ → ℕ) → driven m full ≡ old → ArePolled m n polls after → ArePolled old.machine n polls after
polled_seen m n full old polls after is h = subst (λ (d : Driven). ArePolled d.machine n polls after) is h
