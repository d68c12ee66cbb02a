-- Each move of a cancel leads from a fit state to a fit state in which less is left to do, and no reference dangles there.
-- A cancel tries one operation after another, so any property that a mark, a tried operation and its end keep holds where it leads; fitness
-- with what is left, and chains, are two such properties. A tried operation ends as by an entry (Arriving).
use Rattle.std.proofs.Common.{◌≡◌, ℕ, ◌+◌, ◌<◌, ◌≤◌, List, [], ◌∷◌, length, Option, Some, None, Bool, true, false, refl, sym, ap, ◌∙◌, subst, arith}
use Rattle.std.specs.Prelude.{ℤ, find, slice_get, nat_eq, if◌then◌else◌}
use Rattle.ac_base.specs.declared.entry.Entry.{Entry}
use Rattle.work_item.specs.declared.ids.Item.{Item}
use Rattle.work_item.specs.declared.ids.BlockId.{BlockId}
use Rattle.cancel_scope.specs.declared.operation.Operation.{Operation}
use Rattle.cancel_scope.specs.declared.operation.Progress.{Progress}
use Rattle.cancel_scope.specs.declared.operation.Progress.TheVariants.{Waiting, Offered, Started}
use Rattle.cancel_scope.specs.Outstanding.{as_begun, change_first, is_request, without_first}
use Rattle.core_state.specs.Moves.{On, Over}
use Rattle.core_state.specs.Shared.{Shared, with_entry}
use Rattle.core_state.specs.Arrivals.{Arrival, goes_on_waiting, has_ended_as, ok, cancelled}
use Rattle.core_state.specs.Cancelling.{Fate, NeverHappens, IsTaken, by_outcome, outcome, goes_by, decided, tried, tries, is_to_try}
use Rattle.stack_code.specs.declared.instr.Instr.TheVariants as i
use Rattle.stack_code.specs.declared.shape.Shape.{Shape}
use Rattle.stack_code.specs.declared.shape.Leads.TheVariants.{One}
use Rattle.stack_code.specs.Parts.{Parts}
use Rattle.stack_code.specs.Shapes as shapes
use Rattle.stack_code.specs.Shapes.{effect, is_entered}
use Rattle.stack_code.specs.Valid.{IsValid, Fits, Goes}
use Rattle.stack_code.specs.Kept.{IsRanked}
use Rattle.code_meaning.specs.Machine.{Flat, counted, told, arrived, goes, is_inside, marked, calls_off}
use Rattle.code_safety.specs.Fit.{IsThread, life_at, IsFit}
use Rattle.code_safety.specs.Left.{left_to_come}
use Rattle.code_safety.specs.Living.{as_running}
use Rattle.code_safety.specs.Chains.{AllName, AreChained}
use Rattle.code_safety.proofs.ArrivalChains.{changed_chained, ended_chained}
use Rattle.code_safety.proofs.ArrivalWeights.{begun_falls, ended_falls}
use Rattle.code_safety.proofs.Arriving.{changed_fit, ended_fit}
use Rattle.code_safety.proofs.Falling.{plain_falls}
use Rattle.code_safety.proofs.LinkedFrames.{same_frames}
use Rattle.code_safety.proofs.Marking.{marked_fit, marked_left, marked_chained}
use Rattle.code_safety.proofs.Own.{thread_of}
use Rattle.code_safety.proofs.OwnChains.{plain_next}
use Rattle.code_safety.proofs.Plain.{Onward, Next, none}
use Rattle.code_safety.proofs.PlainFit.{plain_fit}
use Rattle.code_safety.proofs.Settings.{same_store}
use Rattle.code_safety.proofs.Stacks.{top_names}
use Rattle.code_safety.proofs.Taken.{on_some_is, if_is}
use Rattle.code_safety.proofs.Waiting.{IsFound, found_at}

-- ---- what holds of each state to which such a move leads

-- only what stands under an offer is taken
abbrev pub CanBe : Progress → Fate → Type 0
CanBe p NeverHappens = Unit {0}
CanBe p IsTaken = (number : ℕ) × (p ≡ Offered number)

module _ (P : Flat → Type 0) (m : Flat) (block : BlockId) where
  abbrev pub to_try : Operation → Bool
  to_try = is_to_try (is_inside m block)

  abbrev pub made : Fate → Operation → Arrival
  made it o = by_outcome it m.store to_try m.operations o

  -- it holds where an operation has been tried, after so many entries, and where none was left to try
  module _ (on : (o : Operation) → find to_try m.operations ≡ Some o → (shared : Shared) → shared.steps ≡ m.shared.steps → length shared.todo ≤ length m.shared.todo
      → (it : Fate) → CanBe o.progress it → P (arrived (marked m block) shared (made it o)))
      (past : P (record (marked m block) { current = record m.current { place = m.current.place + 1; operands = m.current.operands }; count = counted m.count })) where
    by_entry : (o : Operation) → find to_try m.operations ≡ Some o → (number : ℕ) → o.progress ≡ Offered number → (todo : List Entry) → m.shared.todo ≡ todo → Onward P
        (decided (told (counted m.count)) m.shared m.store.globals m.operations o.link number (λ shared it. On (arrived (marked m block) shared (made it o))) todo)
    by_entry o e number under [] t = tt
    by_entry o e number under (y ∷ ys) t = go (nat_eq y.turn m.shared.turn) (outcome o.link number y.event)
      where
        fewer : length ys ≤ length m.shared.todo
        fewer = let k = ap length t in omega (arith, k)

        can : (it : Fate) → CanBe o.progress it
        can NeverHappens = tt
        can IsTaken = (number, under)

        by : (r : Option Fate) → Onward P (goes_by (told (counted m.count)) (λ it. On (arrived (marked m block) (with_entry m.shared y ys) (made it o))) r)
        by None = tt
        by (Some it) = on o e (with_entry m.shared y ys) refl fewer it (can it)

        go : (b : Bool) (r : Option Fate) → Onward P
            (if b then goes_by (told (counted m.count)) (λ it. On (arrived (marked m block) (with_entry m.shared y ys) (made it o))) r else Over (told (counted m.count) None))
        go true r = by r
        go false r = tt

    by_progress : (o : Operation) → find to_try m.operations ≡ Some o → (p : Progress) → o.progress ≡ p → Onward P
        (tried (told (counted m.count)) m.shared m.store.globals m.operations o.link p (λ shared it. On (arrived (marked m block) shared (made it o))))
    by_progress o e Waiting q = on o e m.shared refl (omega arith) NeverHappens tt
    by_progress o e (Offered number) q = by_entry o e number q m.shared.todo refl
    by_progress o e (Started number) q = tt

    pub each_holds : Onward P (calls_off m block)
    each_holds = go (find to_try m.operations) refl
      where
        go : (r : Option Operation) → find to_try m.operations ≡ r → Onward P
            (tries (told (counted m.count)) m.shared m.store m.operations to_try (λ shared x. On (arrived (marked m block) shared x)) (goes (marked m block) m.current.operands) r)
        go None e = past
        go (Some o) e = by_progress o e o.progress refl

-- ---- a core of valid code

module _ (code : Parts) (bound : ℕ) (v : IsValid code) (m : Flat) (fit : IsFit code m) (t : Item) (run : m.running ≡ Some t) (level slot : ℕ)
    (here : slice_get code.instrs m.current.place ≡ Some (i.Cancel level slot)) (block : BlockId) where
  -- the block is marked in it
  abbrev now : Flat
  now = marked m block

  fit_now : IsFit code now
  fit_now = marked_fit code m fit block

  abbrev h : IsThread code fit_now.births now.store now.blocks t (life_at fit_now.lives t).start now.current
  h = thread_of code now fit_now t run

  abbrev s : Shape
  s = h.shape

  -- it goes on
  abbrev after : Flat
  after = record now { current = record m.current { place = m.current.place + 1; operands = m.current.operands }; count = counted m.count }

  there : Fits code m.current.place s
  there = v.shaped.fits m.current.place s h.top.reached

  finds : effect code m.current.place (i.Cancel level slot) s ≡ Some there.leads
  finds =
      let same : i.Cancel level slot ≡ there.instr = let both : Some (i.Cancel level slot) ≡ Some there.instr = sym here ∙ there.here in cc in
      ap (λ instr. effect code m.current.place instr s) same ∙ there.finds

  goes_on : Goes code m.current.place s (m.current.place + 1) s
  goes_on =
      let f = on_some_is (slice_get s.bodies level) (λ body. if is_entered s level slot then shapes.goes m.current.place s else None) there.leads finds in
      let c = if_is (is_entered s level slot) (shapes.goes m.current.place s) there.leads f.1.1 in
      record { fits = record { instr = i.Cancel level slot; leads = One (m.current.place + 1) s; here = here; finds = finds ∙ sym c.1 }; leads = (refl, refl) }

  next : Next code bound now fit_now.births s (i.Cancel level slot) after
  next = record {
    shape = s;
    goes = goes_on;
    bodies = refl;
    blocks = refl;
    operands = h.top.have;
    store = same_store code fit_now.births now.store fit_now.store;
    spends = none (λ e. cc) refl;
    others = refl;
  }

  -- ---- less is left to do

  module _ (ranks : List ℕ) (ranked : IsRanked code ranks) where
    abbrev Better : Flat → Type 0
    Better n = IsFit code n × (left_to_come ranks bound n < left_to_come ranks bound m)

    module _ (o : Operation) (e : find (to_try Better m block) m.operations ≡ Some o) (shared : Shared) (steps : shared.steps ≡ m.shared.steps)
        (fewer : length shared.todo ≤ length m.shared.todo) where
      abbrev f : IsFound (to_try Better m block) m.operations o
      f = found_at (to_try Better m block) m.operations o e

      ended : (value : ℤ) → Better (arrived now shared (has_ended_as value m.store (without_first (to_try Better m block) m.operations) o))
      ended value =
          let falls = ended_falls code bound now fit_now ranks shared steps f.front f.back o f.is value m.store in
          let same = marked_left code m fit block ranks bound in
          subst (λ os. Better (arrived now shared (has_ended_as value m.store os o))) (sym f.without)
          (ended_fit code now fit_now shared f.front f.back o f.is m.store (same_store code fit_now.births m.store fit_now.store) value, omega (arith, falls, same, fewer))

      taken : (number : ℕ) → o.progress ≡ Offered number → (b : Bool) → is_request o.asked ≡ b → Better (arrived now shared
          (if b then goes_on_waiting m.store (change_first (to_try Better m block) as_begun m.operations) else has_ended_as ok m.store (without_first (to_try Better m block) m.operations) o))
      taken number under true r =
          let falls = begun_falls code bound now fit_now ranks shared steps f.front f.back o f.is number r under in
          let same = marked_left code m fit block ranks bound in
          subst (λ os. Better (arrived now shared (goes_on_waiting m.store os))) (sym (f.changed as_begun))
          (changed_fit code now fit_now shared f.front f.back o f.is (as_begun o) refl refl refl, omega (arith, falls, same, fewer))
      taken number under false r = ended ok

      pub tried_better : (it : Fate) → CanBe o.progress it → Better (arrived now shared (made Better m block it o))
      tried_better NeverHappens can = ended cancelled
      tried_better IsTaken can = taken can.0 can.1 (is_request o.asked) refl

    past_better : Better after
    past_better =
        let falls = plain_falls code bound now fit_now v ranks ranked t run (i.Cancel level slot) here after next in
        let same = marked_left code m fit block ranks bound in
        (plain_fit code bound now fit_now t run (i.Cancel level slot) after next, omega (arith, falls, same))

    pub cancel_better : Onward Better (calls_off m block)
    cancel_better = each_holds Better m block tried_better past_better

  -- ---- it stays fit, whatever is left to do

  module _ (o : Operation) (e : find (to_try (IsFit code) m block) m.operations ≡ Some o) (shared : Shared) where
    abbrev sought : IsFound (to_try (IsFit code) m block) m.operations o
    sought = found_at (to_try (IsFit code) m block) m.operations o e

    ended_right : (value : ℤ) → IsFit code (arrived now shared (has_ended_as value m.store (without_first (to_try (IsFit code) m block) m.operations) o))
    ended_right value = subst (λ os. IsFit code (arrived now shared (has_ended_as value m.store os o))) (sym sought.without)
        (ended_fit code now fit_now shared sought.front sought.back o sought.is m.store (same_store code fit_now.births m.store fit_now.store) value)

    taken_right : (b : Bool) → IsFit code (arrived now shared
        (if b then goes_on_waiting m.store (change_first (to_try (IsFit code) m block) as_begun m.operations)
        else has_ended_as ok m.store (without_first (to_try (IsFit code) m block) m.operations) o))
    taken_right true = subst (λ os. IsFit code (arrived now shared (goes_on_waiting m.store os))) (sym (sought.changed as_begun))
        (changed_fit code now fit_now shared sought.front sought.back o sought.is (as_begun o) refl refl refl)
    taken_right false = ended_right ok

    tried_right : (it : Fate) → IsFit code (arrived now shared (made (IsFit code) m block it o))
    tried_right NeverHappens = ended_right cancelled
    tried_right IsTaken = taken_right (is_request o.asked)

  pub cancel_fit : Onward (IsFit code) (calls_off m block)
  cancel_fit = each_holds (IsFit code) m block (λ o e shared steps fewer it can. tried_right o e shared it)
      (plain_fit code bound now fit_now t run (i.Cancel level slot) after next)

  -- ---- no reference dangles

  module _ (chained : AreChained code m) where
    chained_now : AreChained code now
    chained_now = marked_chained code m fit block chained t run

    module _ (o : Operation) (e : find (to_try (AreChained code) m block) m.operations ≡ Some o) (shared : Shared) where
      abbrev its : IsFound (to_try (AreChained code) m block) m.operations o
      its = found_at (to_try (AreChained code) m block) m.operations o e

      ended_safe : (value : ℤ) → AreChained code (arrived now shared (has_ended_as value m.store (without_first (to_try (AreChained code) m block) m.operations) o))
      ended_safe value = subst (λ os. AreChained code (arrived now shared (has_ended_as value m.store os o))) (sym its.without)
          (ended_chained code now fit_now chained_now shared its.front its.back o its.is value m.store (same_frames chained_now.origins m.store))

      taken_safe : (b : Bool) → AreChained code (arrived now shared
          (if b then goes_on_waiting m.store (change_first (to_try (AreChained code) m block) as_begun m.operations)
          else has_ended_as ok m.store (without_first (to_try (AreChained code) m block) m.operations) o))
      taken_safe true = subst (λ os. AreChained code (arrived now shared (goes_on_waiting m.store os))) (sym (its.changed as_begun))
          (changed_chained code now fit_now chained_now shared its.front its.back o its.is (as_begun o) refl refl)
      taken_safe false = ended_safe ok

      pub tried_safe : (it : Fate) → AreChained code (arrived now shared (made (AreChained code) m block it o))
      tried_safe NeverHappens = ended_safe cancelled
      tried_safe IsTaken = taken_safe (is_request o.asked)

    names : AllName chained_now.origins m.current.frame m.current.operands
    names =
        let mine = chained_now.threads t m.current (as_running t run) in
        top_names code chained_now.origins now.blocks chained_now.sites t mine.start m.current.place m.current.frame m.current.operands m.current.callers m.current.block mine.stack

    past_safe : AreChained code after
    past_safe = plain_next code bound now v fit_now chained_now t run (i.Cancel level slot) after next (record { operands = names; store = same_frames chained_now.origins m.store })

    pub cancel_chained : Onward (AreChained code) (calls_off m block)
    cancel_chained = each_holds (AreChained code) m block (λ o e shared steps fewer it can. tried_safe o e shared it) past_safe
