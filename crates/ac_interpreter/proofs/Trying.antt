-- What a cancel comes to under a journal: an offer that it tries is decided by the next entry.
-- By the progress of the oldest operation within: one that waits never happens, and one that is offered takes the next entry, which is its
-- outcome or does not fit. Where none is left to try, the thread goes on.
use Rattle.std.proofs.Common.{◌≡◌, ℕ, ℤ, List, [], ◌∷◌, ◌++◌, get_or, refl, sym, ap, ◌∙◌, inl, inr}
use Rattle.std.specs.List.{remove}
use Rattle.std.specs.Prelude.{Option, Some, None, Bool, true, false, nat_eq, find, if◌then◌else◌}
use Rattle.ac_base.specs.declared.ends.EndWord.TheVariants as word
use Rattle.ac_base.specs.declared.ends.CoreEnd.{CoreEnd}
use Rattle.ac_base.specs.declared.entry.Entry.{Entry}
use Rattle.work_item.specs.declared.ids.BlockId.{BlockId}
use Rattle.work_item.specs.declared.cell.Cell.{Cell}
use Rattle.work_item.specs.declared.cell.Cell.TheVariants as cell
use Rattle.work_item.specs.declared.ids.Item.{Item}
use Rattle.cancel_scope.specs.declared.operation.Operation.{Operation}
use Rattle.cancel_scope.specs.declared.operation.Progress.{Progress}
use Rattle.cancel_scope.specs.declared.operation.Progress.TheVariants as progress
use Rattle.cancel_scope.specs.Outstanding.{has_begun, without_first}
use Rattle.interpreter_state.proofs.Finding.{without_at, the_same}
use Rattle.ac_interpreter.proofs.Searching.{is_not_begun}
use Rattle.core_state.specs.Moves.{On, Over}
use Rattle.core_state.specs.Shared.{Shared, with_entry, core_end}
use Rattle.core_state.specs.Arrivals.{Arrival, cancelled}
use Rattle.core_state.specs.Cancelling.{Fate, NeverHappens, by_outcome, outcome, goes_by, tried, tries, is_to_try}
use Rattle.ac_semantics.specs.Held.{Held, with_mark, seen_of}
use Rattle.ac_semantics.specs.Work.{Work}
use Rattle.ac_semantics.specs.Threads.{CoreState, is_inside, goes_on, resumed, arrived, calls_off}
use Rattle.interpreter_state.specs.Operations.{IsOldest}
use Rattle.interpreter_steps.specs.Works.{past_first}
use Rattle.ac_interpreter.specs.inner.Under.{held_under, core_under, move_under}
use Rattle.ac_interpreter.specs.inner.Cancels.{after_outcome, deciding, trying}
use Rattle.ac_interpreter.proofs.Growing.{Moved, core_with_todo, IsOut, Follows, grown}

-- ---- an operation that never happens

-- it was taken away, and its thread goes on
pub never_there : (c : CoreState) (test : Operation → Bool) (place : ℕ) (o taken : Operation) (left : List Operation) (told : ℤ) (item : Item) → IsOldest test c.held.operations place o
    → taken ≡ get_or c.held.operations place taken → left ≡ remove c.held.operations place → told ≡ cancelled → item ≡ taken.item
    → resumed (record c { held = record c.held { operations = left } }) (cell.Int told) (Some item) ≡ after_outcome test o c c.held.shared NeverHappens
never_there c test place o taken left told item oldest is rest same of =
    let os = c.held.operations in
    ap (λ (v : ℤ). resumed (record c { held = record c.held { operations = left } }) (cell.Int v) (Some item)) same
    ∙ ap (λ (t : Item). resumed (record c { held = record c.held { operations = left } }) (cell.Int cancelled) (Some t)) of
    ∙ ap (λ (xs : List Operation). resumed (record c { held = record c.held { operations = xs } }) (cell.Int cancelled) (Some taken.item)) (rest ∙ sym (without_at test os os place taken
    (sym oldest.0) refl))
    ∙ ap (λ (x : Operation). resumed (record c { held = record c.held { operations = without_first test os } }) (cell.Int cancelled) (Some x.item)) (the_same os test place o taken oldest is)

-- ---- the outcome of an offer

module _ (test : Operation → Bool) (o : Operation) (number : ℕ) (c : CoreState) (past : List Entry) where
  pub none_left : (todo : List Entry) → todo ≡ [] → deciding test o number (core_under past todo c) todo ≡ move_under past todo (Over (seen_of word.Stalled false (held_under [] [] c.held)))
  none_left [] h = refl
  none_left (x ∷ xs) h = let no : x ∷ xs ≡ [] = h in cc

  module _ (todo : List Entry) (e : Entry) (es : List Entry) (front : todo ≡ e ∷ es) where
    abbrev by_fate : Option Fate → Moved
    by_fate it =
        goes_by (λ (end : Option CoreEnd). end) (λ it. On (after_outcome test o (core_under past todo c) (with_entry (held_under past todo c.held).shared e es) it)) it

    abbrev by_turn : Bool → Moved
    by_turn now = if now then by_fate (outcome o.link number e.event) else Over None

    at_first : (now : Bool) → nat_eq e.turn c.held.shared.turn ≡ now → deciding test o number (core_under past todo c) todo ≡ by_turn now
    at_first now is = ap (deciding test o number (core_under past todo c)) front ∙ ap by_turn is

    pub other_turn : nat_eq e.turn c.held.shared.turn ≡ false → deciding test o number (core_under past todo c) todo ≡ Over None
    other_turn is = at_first false is

    pub undecided : nat_eq e.turn c.held.shared.turn ≡ true → outcome o.link number e.event ≡ None → deciding test o number (core_under past todo c) todo ≡ Over None
    undecided is none = at_first true is ∙ ap by_fate none

    resumed_under : (x : CoreState) (value : Cell) (waked : Option Item) → resumed (core_under (past ++ e ∷ []) es x) value waked ≡ core_under (past ++ e ∷ []) es (resumed x value waked)
    resumed_under x value None = refl
    resumed_under x value (Some t) = refl

    pub comes_out : (it : Fate) → nat_eq e.turn c.held.shared.turn ≡ true → outcome o.link number e.event ≡ Some it
        → deciding test o number (core_under past todo c) todo ≡ On (core_under (past ++ e ∷ []) es (after_outcome test o c c.held.shared it))
    comes_out it is some =
        let x = by_outcome it c.held.store test c.held.operations o in
        at_first true is ∙ ap by_fate some
        ∙ ap (λ (s : CoreState). On s) (resumed_under (record c { held = record c.held { store = x.store; operations = x.operations } }) (cell.Int x.value) x.woken)

-- ---- the oldest operation within a block

module _ (past todo : List Entry) (block : BlockId) (c : CoreState) where
  abbrev to_try : Operation → Bool
  to_try = is_to_try (is_inside c.threads block)

  abbrev by_find : Option Operation → Moved
  by_find first =
      tries (λ (end : Option CoreEnd). end) (held_under past todo c.held).shared c.held.store c.held.operations to_try
      (λ shared x. On (arrived (core_under past todo c) shared x)) (On (core_under past todo (record c { work = past_first c.work }))) first

  abbrev by_phase : Operation → Progress → Moved
  by_phase o p =
      tried (λ (end : Option CoreEnd). end) (held_under past todo c.held).shared c.held.store.globals c.held.operations o.link p
      (λ shared it. On (after_outcome to_try o (core_under past todo c) shared it))

  pub none_to_try : find to_try c.held.operations ≡ None → trying past todo block c ≡ On (core_under past todo (record c { work = past_first c.work }))
  none_to_try none = ap by_find none

  module _ (o : Operation) (first : find to_try c.held.operations ≡ Some o) where
    pub never_happens : o.progress ≡ progress.Waiting → trying past todo block c ≡ On (core_under past todo (after_outcome to_try o c c.held.shared NeverHappens))
    never_happens is = ap by_find first ∙ ap (by_phase o) is

    pub is_decided : (number : ℕ) → o.progress ≡ progress.Offered number → trying past todo block c ≡ deciding to_try o number (core_under past todo c) todo
    is_decided number is = ap by_find first ∙ ap (by_phase o) is

-- ---- for each journal

-- one that has arrived, before its thread is given its value
abbrev after : CoreState → Shared → Arrival → CoreState
after c shared x = record c { held = record c.held { shared = shared; store = x.store; operations = x.operations } }

still_to_come : (c : CoreState) (value : Cell) (waked : Option Item) → (resumed c value waked).held.shared.todo ≡ c.held.shared.todo
still_to_come c value None = refl
still_to_come c value (Some t) = refl

resumed_grows : (later : List Entry) (c : CoreState) (value : Cell) (waked : Option Item)
    → ◌≡◌ {A = Moved} (On (resumed (core_with_todo (c.held.shared.todo ++ later) c) value waked)) (grown later (On (resumed c value waked)))
resumed_grows later c value None = refl
resumed_grows later c value (Some t) = refl

module _ (c : CoreState) (block : BlockId) (h : Held) (again ws : List Work) (past : List Entry) where
  abbrev tested : Operation → Bool
  tested = is_to_try (is_inside c.threads block)

  -- with the block marked
  abbrev marked : List Entry → CoreState
  marked todo = goes_on (core_under past todo c) (with_mark (held_under past todo h) block) again

  abbrev by_first : List Entry → Option Operation → Moved
  by_first todo first =
      tries (λ (end : Option CoreEnd). end) (held_under past todo h).shared h.store h.operations tested
      (λ shared x. On (arrived (marked todo) shared x))
      (On (goes_on (core_under past todo c) (with_mark (held_under past todo h) block) ws)) first

  abbrev by_progress : List Entry → Operation → Progress → Moved
  by_progress todo o p =
      tried (λ (end : Option CoreEnd). end) (held_under past todo h).shared h.store.globals h.operations o.link p
      (λ shared it. On (arrived (marked todo) shared (by_outcome it h.store tested h.operations o)))

  abbrev whole : List Entry → Moved
  whole todo = calls_off (core_under past todo c) block (held_under past todo h) again ws

  tried_out : (o : Operation) (p : Progress) → has_begun p ≡ false → IsOut (by_progress [] o p)
  tried_out o progress.Waiting waits = refl
  tried_out o (progress.Offered number) waits = (core_end word.Stalled false h.store.globals h.operations h.shared, refl)
  tried_out o (progress.Started number) waits = let no : true ≡ false = waits in cc

  tries_out : (first : Option Operation) → find tested h.operations ≡ first → IsOut (by_first [] first)
  tries_out None is = refl
  tries_out (Some o) is = tried_out o o.progress (is_not_begun (is_inside c.threads block) h.operations o is)

  pub cancel_out : IsOut (whole [])
  cancel_out = tries_out (find tested h.operations) refl

  module _ (e : Entry) where
    -- by the first entry, before these
    abbrev by_entry : List Entry → Operation → Bool → Option Fate → Moved
    by_entry xs o now it =
        if now then goes_by (λ (end : Option CoreEnd). end) (λ it. On (arrived (marked (e ∷ xs)) (with_entry (held_under past (e ∷ xs) h).shared e xs)
        (by_outcome it h.store tested h.operations o))) it
        else Over None

    module _ (es : List Entry) where
      arrived_follows : (x : Arrival) → Follows e es (On (arrived (marked (e ∷ es)) (with_entry (held_under past (e ∷ es) h).shared e es) x))
      arrived_follows x = inr (still_to_come (after (marked (e ∷ es)) (with_entry (held_under past (e ∷ es) h).shared e es) x) (cell.Int x.value) x.woken)

      entry_follows : (o : Operation) (now : Bool) (it : Option Fate) → Follows e es (by_entry es o now it)
      entry_follows o true None = refl
      entry_follows o true (Some it) = arrived_follows (by_outcome it h.store tested h.operations o)
      entry_follows o false it = refl

      tried_follows : (o : Operation) (p : Progress) → Follows e es (by_progress (e ∷ es) o p)
      tried_follows o progress.Waiting = inl refl
      tried_follows o (progress.Offered number) = entry_follows o (nat_eq e.turn h.shared.turn) (outcome o.link number e.event)
      tried_follows o (progress.Started number) = refl

      tries_follows : (first : Option Operation) → Follows e es (by_first (e ∷ es) first)
      tries_follows None = inl refl
      tries_follows (Some o) = tried_follows o o.progress

      pub cancel_follows : Follows e es (whole (e ∷ es))
      cancel_follows = tries_follows (find tested h.operations)

    module _ (es later : List Entry) where
      arrived_grows : (x : Arrival) → ◌≡◌ {A = Moved} (On (arrived (marked (e ∷ es ++ later)) (with_entry (held_under past (e ∷ es ++ later) h).shared e (es ++ later)) x))
          (grown later (On (arrived (marked (e ∷ es)) (with_entry (held_under past (e ∷ es) h).shared e es) x)))
      arrived_grows x = resumed_grows later (after (marked (e ∷ es)) (with_entry (held_under past (e ∷ es) h).shared e es) x) (cell.Int x.value) x.woken

      entry_grows : (o : Operation) (now : Bool) (it : Option Fate) → by_entry (es ++ later) o now it ≡ grown later (by_entry es o now it)
      entry_grows o true None = refl
      entry_grows o true (Some it) = arrived_grows (by_outcome it h.store tested h.operations o)
      entry_grows o false it = refl

      tried_grows : (o : Operation) (p : Progress) → by_progress (e ∷ es ++ later) o p ≡ grown later (by_progress (e ∷ es) o p)
      tried_grows o progress.Waiting = refl
      tried_grows o (progress.Offered number) = entry_grows o (nat_eq e.turn h.shared.turn) (outcome o.link number e.event)
      tried_grows o (progress.Started number) = refl

      tries_grows : (first : Option Operation) → by_first (e ∷ es ++ later) first ≡ grown later (by_first (e ∷ es) first)
      tries_grows None = refl
      tries_grows (Some o) = tried_grows o o.progress

      pub cancel_grows : whole (e ∷ es ++ later) ≡ grown later (whole (e ∷ es))
      cancel_grows = tries_grows (find tested h.operations)
