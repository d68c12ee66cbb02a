-- The ready list has room for all threads that live, so that where one runs there is room for one more. For the calls of `Running` that put a thread into the list.
-- The threads of the list are distinct and have their places, as the running one has, which is not among them. By recursion over the list: without its first thread one thread less has its place, and
-- the others still have theirs; so no more stand in it than live.
use Rattle.std.proofs.Common.{◌≡◌, ℕ, zero, suc, ◌+◌, ◌<◌, ◌≤◌, List, [], ◌∷◌, length, Some, None, IsSome, Bool, true, false, cond, refl, ap, ◌∙◌, arith}
use Rattle.std.specs.Prelude.{count_by, nat_eq, slice_index_or, slice_set}
use Rattle.std.proofs.lemmas.Bool.{eqb-true}
use Rattle.std.proofs.lemmas.List.{get_or-set_other}
use Rattle.std.proofs.lemmas.List.Sums.{sum_by-set}
use Rattle.work_item.specs.declared.ids.Item.{Item}
use Rattle.code_meaning.specs.Machine.{thread_at}
use Rattle.code_safety.specs.Fit.{occurs, one_at, one_if, runs, is_going, life_at, IsFit}
use Rattle.code_safety.specs.Living.{as_running, as_ready}
use Rattle.code_safety.proofs.Lives.{one_at_most, one_same}
use Rattle.core_machine.specs.declared.running.Running.{Running}
use Rattle.core_machine.specs.State.{flat_of, thread_of, HavePlaces, HasSeats, IsSound}
use Rattle.core_machine.proofs.Sound.{is_item}

-- ---- threads with places

abbrev count : List Bool → ℕ
count lives = count_by (λ (b : Bool). b) lives

-- what a thread adds
abbrev one : Bool → ℕ
one b = cond b 1 0

within : (lives : List Bool) (n : ℕ) → slice_index_or lives n false ≡ true → n < length lives
within [] n h = let no : false ≡ true = h in absurd (cc)
within (b ∷ lives) zero h = omega arith
within (b ∷ lives) (suc n) h = omega (arith, within lives n h)

-- without the place of one that has it
one_less : (lives : List Bool) (n : ℕ) → slice_index_or lives n false ≡ true → count (slice_set lives n false) + 1 ≡ count lives
one_less lives n has =
    let set = sum_by-set one lives n false false (within lives n has) in
    let its : one (slice_index_or lives n false) ≡ 1 = ap one has in
    omega (arith, set, its)

-- distinct threads that have their places are no more than all that have
crowd : (ready : List Item) (lives : List Bool) → ((n : ℕ) → occurs n ready ≤ 1) → ((n : ℕ) → 0 < occurs n ready → slice_index_or lives n false ≡ true) → length ready ≤ count lives
crowd [] lives once there = omega arith
crowd (t ∷ ready) lives once there =
    let fewer = one_less lives t.number (there t.number here) in
    let rest = crowd ready (slice_set lives t.number false) (λ n. omega (arith, once n)) others in
    omega (arith, fewer, rest)
  where
    here : 0 < occurs t.number (t ∷ ready)
    here = omega (arith, one_same t.number)

    -- the first one stands there once
    other : (n : ℕ) → 0 < occurs n ready → n ≡ t.number → ⊥
    other n some e =
        let its : one_at n t ≡ 1 = ap (λ k. one_at k t) e ∙ one_same t.number in
        omega (arith, some, its, once n)

    others : (n : ℕ) → 0 < occurs n ready → slice_index_or (slice_set lives t.number false) n false ≡ true
    others n some = get_or-set_other lives t.number n false false (other n some) ∙ there n (omega (arith, some))

-- ---- where a thread runs

module _ (m : Running) (t : Item) (run : m.schedule.running ≡ Some t) (fit : IsFit m.code.now (flat_of m)) (places : HavePlaces m) where
  once : (n : ℕ) → occurs n (t ∷ m.schedule.ready) ≤ 1
  once n =
      let all = fit.listed n in
      let most = one_at_most (is_going (life_at fit.lives (record { number = n })).phase) in
      let runner : runs n m.schedule.running ≡ one_at n t = ap (runs n) run in
      omega (arith, all, most, runner)

  there : (n : ℕ) → 0 < occurs n (t ∷ m.schedule.ready) → slice_index_or m.threads.lives n false ≡ true
  there n some = go (nat_eq n t.number) refl
    where
      go : (b : Bool) → nat_eq n t.number ≡ b → slice_index_or m.threads.lives n false ≡ true
      go true e = ap (λ k. slice_index_or m.threads.lives k false) (eqb-true n t.number e) ∙ places t (thread_of m) (as_running t run)
      go false e =
          let u : Item = record { number = n } in
          let none : one_at n t ≡ 0 = ap one_if e in
          places u (thread_at m.threads.threads u) (as_ready u (omega (arith, some, none)))

  seat_of : HasSeats m → 0 < m.schedule.spare
  seat_of seats =
      let few = crowd (t ∷ m.schedule.ready) m.threads.lives once there in
      omega (arith, few, seats)

pub has_seat : (m : Running) → m.ended ≡ None → IsSome m.schedule.running → IsSound m → 0 < m.schedule.spare
has_seat m still runs sound =
    let t = is_item m.schedule.running runs in
    seat_of m t.0 t.1 (sound.fit still) (sound.places still) sound.seats
