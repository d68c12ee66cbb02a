-- A run under a journal is, up to where all entries of a prefix have come in, the run under that prefix.
-- By induction on the number of moves, with Growing for each. So where the next entry is refused, the prefix through it comes to an end of
-- which nothing is seen, and no lesser prefix does: that place is the least.
use Rattle.std.proofs.Common.{◌≡◌, ℕ, zero, suc, ◌+◌, ◌≤◌, ◌<◌, List, [], ◌∷◌, ◌++◌, length, take, drop, replicate, refl, sym, ap, ◌∙◌, subst, inl, inr, ⊎_elim, arith, length-append, length-drop}
use Rattle.std.specs.Prelude.{Option, Some, None, Result, Ok, Err, false}
use Rattle.std.proofs.Math.ListN.{drop_of_length-le}
use Rattle.std.proofs.lemmas.Bool.{cases_lt}
use Rattle.ac_base.specs.declared.ends.Trap.{Trap}
use Rattle.ac_base.specs.declared.ends.EndWord.TheVariants as word
use Rattle.ac_base.specs.declared.ends.CoreEnd.{CoreEnd}
use Rattle.ac_base.specs.declared.entry.Entry.{Entry}
use Rattle.work_item.specs.Store.{Store, no_int}
use Rattle.core_state.specs.Frames.{begun, first_store}
use Rattle.core_state.specs.Shared.{core_end, begins_with}
use Rattle.core_state.specs.Moves.{On, Over, moves, and_then, GoesOn}
use Rattle.core_state.proofs.Runs.{GoesOn-more}
use Rattle.ac_commands.specs.declared.program.Function.{Function}
use Rattle.ac_commands.specs.declared.program.Resolved.{Resolved}
use Rattle.ac_semantics.specs.Threads.{CoreState, step, first_state, first_core, first_globals, shared_at_first}
use Rattle.ac_interpreter.specs.Unfit.{RunEnds, IsUnfit}
use Rattle.ac_interpreter.specs.inner.Under.{core_under, move_under}
use Rattle.ac_interpreter.proofs.Growing.{Moved, core_with_todo, IsOut, grown, Follows}
use Rattle.ac_interpreter.proofs.Journals.{step_out, step_follows, step_grows, first_too}

-- ---- moves

same_state : (a b : CoreState) → ◌≡◌ {A = Moved} (On a) (On b) → a ≡ b
same_state a b h = cc

not_both : {A : Type 0} (a : CoreState) (end : Option CoreEnd) → ◌≡◌ {A = Moved} (On a) (Over end) → A
not_both a end h = let no : ◌≡◌ {A = Moved} (On a) (Over end) = h in cc

no_end_more : {A : Type 0} (x : CoreEnd) → ◌≡◌ {A = Option CoreEnd} None (Some x) → A
no_end_more x h = cc

-- what is still to come says so itself
itself : (c : CoreState) (todo : List Entry) → c.held.shared.todo ≡ todo → core_with_todo todo c ≡ c
itself c todo e = ap (λ (xs : List Entry). core_with_todo xs c) (sym e)

module _ (program : Resolved) (bound : ℕ) where
  abbrev f : CoreState → Moved
  f = step program bound

  -- ---- entries only come in

  abbrev Shrinks : ℕ → Type 0
  Shrinks k = (todo : List Entry) (s c : CoreState) → moves f k (core_with_todo todo s) ≡ On c → length c.held.shared.todo ≤ length todo

  from_itself : (k : ℕ) (s c : CoreState) (todo : List Entry) → s.held.shared.todo ≡ todo → moves f k s ≡ On c → moves f k (core_with_todo todo s) ≡ On c
  from_itself k s c todo same h = ap (λ (x : CoreState). moves f k x) (itself s todo same) ∙ h

  -- after a move with none left, and with some
  shrinks_out : (k : ℕ) → Shrinks k → (c : CoreState) (m : Moved) → IsOut m → and_then m (moves f k) ≡ On c → length c.held.shared.todo ≤ 0
  shrinks_out k again c (Over end) out h = not_both c end (sym h)
  shrinks_out k again c (On next) out h = again [] next c (from_itself k next c [] out h)

  shrinks_on : (k : ℕ) → Shrinks k → (e : Entry) (es : List Entry) (c : CoreState) (m : Moved) → Follows e es m → and_then m (moves f k) ≡ On c
      → length c.held.shared.todo ≤ length (e ∷ es)
  shrinks_on k again e es c (Over end) follows h = not_both c end (sym h)
  shrinks_on k again e es c (On next) (inl same) h = again (e ∷ es) next c (from_itself k next c (e ∷ es) same h)
  shrinks_on k again e es c (On next) (inr less) h = let le = again es next c (from_itself k next c es less h) in omega (arith, le)

  shrinks : (k : ℕ) → Shrinks k
  shrinks zero todo s c h = let e = ap (λ (x : CoreState). length x.held.shared.todo) (same_state (core_with_todo todo s) c h) in omega (arith, e)
  shrinks (suc k) [] s c h = shrinks_out k (shrinks k) c (f (core_with_todo [] s)) (step_out program bound s) h
  shrinks (suc k) (e ∷ es) s c h = shrinks_on k (shrinks k) e es c (f (core_with_todo (e ∷ es) s)) (step_follows program bound e es s) h

  -- ---- where none is left, something is seen of each end

  abbrev Seen : Option CoreEnd → Type 0
  Seen end = (x : CoreEnd) × (end ≡ Some x)

  abbrev AllSeen : ℕ → Type 0
  AllSeen k = (s : CoreState) (end : Option CoreEnd) → s.held.shared.todo ≡ [] → moves f k s ≡ Over end → Seen end

  seen_after : (k : ℕ) → AllSeen k → (end : Option CoreEnd) (m : Moved) → IsOut m → and_then m (moves f k) ≡ Over end → Seen end
  seen_after k again end (Over x) out h = let same : x ≡ end = cc in subst Seen same out
  seen_after k again end (On next) out h = again next end out h

  all_seen : (k : ℕ) → AllSeen k
  all_seen zero s end out h = not_both s end h
  all_seen (suc k) s end out h = seen_after k (all_seen k) end (f s) (subst (λ (x : CoreState). IsOut (f x)) (itself s [] out) (step_out program bound s)) h

  -- ---- an end comes after each state before

  abbrev AfterSome : ℕ → Type 0
  AfterSome j = (k : ℕ) (s c : CoreState) (end : Option CoreEnd) → moves f j s ≡ On c → moves f k s ≡ Over end → (i : ℕ) × (moves f i c ≡ Over end)

  after_move : (j k : ℕ) → AfterSome j → (c : CoreState) (end : Option CoreEnd) (m : Moved) → and_then m (moves f j) ≡ On c → and_then m (moves f k) ≡ Over end → (i : ℕ) × (moves f i c ≡ Over end)
  after_move j k again c end (Over x) h e = not_both c x (sym h)
  after_move j k again c end (On next) h e = again k next c end h e

  after_some : (j : ℕ) → AfterSome j
  after_some zero k s c end h e = (k, ap (λ (x : CoreState). moves f k x) (sym (same_state s c h)) ∙ e)
  after_some (suc j) zero s c end h e = not_both s end e
  after_some (suc j) (suc k) s c end h e = after_move j k (after_some j) c end (f s) h e

  module _ (later : List Entry) where
    -- the run with others behind, from a move that has been made without them
    with_later : (k : ℕ) (a : Entry) (rest : List Entry) (s : CoreState) (m : Moved) → f (core_with_todo (a ∷ rest) s) ≡ m
        → moves f (suc k) (core_with_todo (a ∷ rest ++ later) s) ≡ and_then (grown later m) (moves f k)
    with_later k a rest s m is = ap (λ (x : Moved). and_then x (moves f k)) (step_grows program bound a rest later s ∙ ap (grown later) is)

    grown_itself : (k : ℕ) (next c : CoreState) (todo : List Entry) → next.held.shared.todo ≡ todo → moves f k (core_with_todo (next.held.shared.todo ++ later) next) ≡ On c
        → moves f k (core_with_todo (todo ++ later) next) ≡ On c
    grown_itself k next c todo is h = ap (λ (xs : List Entry). moves f k (core_with_todo (xs ++ later) next)) (sym is) ∙ h

    -- ---- all of the prefix have come in

    pub record ComesOut (s : CoreState) : Type 0 where
      pub moved : ℕ
      pub state : CoreState
      pub comes : moves f moved s ≡ On state
      pub out : state.held.shared.todo ≡ []

    one_more : (s next : CoreState) → f s ≡ On next → ComesOut next → ComesOut s
    one_more s next is r = record {
      moved = suc r.moved;
      state = r.state;
      comes = ap (λ (x : Moved). and_then x (moves f r.moved)) is ∙ r.comes;
      out = r.out;
    }

    from_same : (next : CoreState) (todo : List Entry) → next.held.shared.todo ≡ todo → ComesOut (core_with_todo todo next) → ComesOut next
    from_same next todo is r = subst ComesOut (itself next todo is) r

    abbrev Reaches : ℕ → Type 0
    Reaches k = (a : Entry) (rest : List Entry) (s c : CoreState) → moves f k (core_with_todo (a ∷ rest ++ later) s) ≡ On c → length c.held.shared.todo ≤ length later
        → ComesOut (core_with_todo (a ∷ rest) s)

    reaches_less : (k : ℕ) → Reaches k → (rest : List Entry) (next c : CoreState) → next.held.shared.todo ≡ rest → moves f k (core_with_todo (rest ++ later) next) ≡ On c
        → length c.held.shared.todo ≤ length later → ComesOut next
    reaches_less k again [] next c is h le = record { moved = 0; state = next; comes = refl; out = is }
    reaches_less k again (b ∷ bs) next c is h le = from_same next (b ∷ bs) is (again b bs next c h le)

    reaches_on : (k : ℕ) → Reaches k → (a : Entry) (rest : List Entry) (s c : CoreState) (m : Moved) → f (core_with_todo (a ∷ rest) s) ≡ m → Follows a rest m
        → and_then (grown later m) (moves f k) ≡ On c → length c.held.shared.todo ≤ length later → ComesOut (core_with_todo (a ∷ rest) s)
    reaches_on k again a rest s c (Over end) is follows h le = not_both c end (sym h)
    reaches_on k again a rest s c (On next) is (inl same) h le =
        one_more (core_with_todo (a ∷ rest) s) next is (from_same next (a ∷ rest) same (again a rest next c (grown_itself k next c (a ∷ rest) same h) le))
    reaches_on k again a rest s c (On next) is (inr less) h le =
        one_more (core_with_todo (a ∷ rest) s) next is (reaches_less k again rest next c less (grown_itself k next c rest less h) le)

    reaches : (k : ℕ) → Reaches k
    reaches zero a rest s c h le =
        let e = ap (λ (x : CoreState). length x.held.shared.todo) (same_state (core_with_todo (a ∷ rest ++ later) s) c h) in
        let n = length-append rest later in
        absurd (omega (arith, e, n, le))
    reaches (suc k) a rest s c h le =
        let m = f (core_with_todo (a ∷ rest) s) in
        reaches_on k (reaches k) a rest s c m refl (step_follows program bound a rest s) (sym (with_later k a rest s m refl) ∙ h) le

    -- ---- the last of the prefix is still to come

    module _ (e : Entry) (c : CoreState) (last : c.held.shared.todo ≡ e ∷ later) where
      abbrev Stands : ℕ → Type 0
      Stands k = (a : Entry) (rest : List Entry) (s : CoreState) → moves f k (core_with_todo (a ∷ rest ++ later) s) ≡ On c → moves f k (core_with_todo (a ∷ rest) s) ≡ On (core_with_todo (e ∷ []) c)

      none_left : {A : Type 0} (k : ℕ) (next : CoreState) → moves f k (core_with_todo later next) ≡ On c → A
      none_left k next h =
          let le = shrinks k later next c h in
          let n = ap length last in
          absurd (omega (arith, le, n))

      stands_less : (k : ℕ) → Stands k → (rest : List Entry) (next : CoreState) → next.held.shared.todo ≡ rest → moves f k (core_with_todo (rest ++ later) next) ≡ On c
          → moves f k next ≡ On (core_with_todo (e ∷ []) c)
      stands_less k again [] next is h = none_left k next h
      stands_less k again (b ∷ bs) next is h = ap (λ (x : CoreState). moves f k x) (sym (itself next (b ∷ bs) is)) ∙ again b bs next h

      stands_on : (k : ℕ) → Stands k → (a : Entry) (rest : List Entry) (m : Moved) → Follows a rest m → and_then (grown later m) (moves f k) ≡ On c
          → and_then m (moves f k) ≡ On (core_with_todo (e ∷ []) c)
      stands_on k again a rest (Over end) follows h = not_both c end (sym h)
      stands_on k again a rest (On next) (inl same) h =
          ap (λ (x : CoreState). moves f k x) (sym (itself next (a ∷ rest) same)) ∙ again a rest next (grown_itself k next c (a ∷ rest) same h)
      stands_on k again a rest (On next) (inr less) h = stands_less k again rest next less (grown_itself k next c rest less h)

      -- no move yet
      stands_at : (a : Entry) (rest : List Entry) (s : CoreState) → core_with_todo (a ∷ rest ++ later) s ≡ c → core_with_todo (a ∷ rest) s ≡ core_with_todo (e ∷ []) c
      stands_at a [] s same =
          let todo : a ∷ later ≡ e ∷ later = ap (λ (x : CoreState). x.held.shared.todo) same ∙ last in
          let one : a ≡ e = cc in
          ap (λ (x : Entry). core_with_todo (x ∷ []) s) one ∙ ap (λ (x : CoreState). core_with_todo (e ∷ []) x) same
      stands_at a (b ∷ bs) s same =
          let todo : a ∷ b ∷ bs ++ later ≡ e ∷ later = ap (λ (x : CoreState). x.held.shared.todo) same ∙ last in
          let n = ap length todo in
          let all = length-append bs later in
          absurd (omega (arith, n, all))

      stands : (k : ℕ) → Stands k
      stands zero a rest s h = ap (λ (x : CoreState). On x) (stands_at a rest s (same_state (core_with_todo (a ∷ rest ++ later) s) c h))
      stands (suc k) a rest s h =
          let m = f (core_with_todo (a ∷ rest) s) in
          stands_on k (stands k) a rest m (step_follows program bound a rest s) (sym (with_later k a rest s m refl) ∙ h)

      -- the move that then ends the core does so too without those behind
      ends_too : (m : Moved) → grown later m ≡ Over None → m ≡ Over None
      ends_too (On next) h = let no : ◌≡◌ {A = Moved} (On (core_with_todo (next.held.shared.todo ++ later) next)) (Over None) = h in cc
      ends_too (Over end) h = h

      pub unfit_here : f c ≡ Over None → f (core_with_todo (e ∷ []) c) ≡ Over None
      unfit_here h =
          let same : f (core_with_todo (e ∷ [] ++ later) c) ≡ Over None = ap f (itself c (e ∷ later) last) ∙ h in
          ends_too (f (core_with_todo (e ∷ []) c)) (sym (step_grows program bound e [] later c) ∙ same)

-- ---- a journal, part by part

pub record Split (journal : List Entry) (place : ℕ) : Type 0 where
  pub first : Entry
  pub rest : List Entry
  pub at : Entry
  pub taken : take (place + 1) journal ≡ first ∷ rest
  pub from : drop place journal ≡ at ∷ drop (place + 1) journal
  pub whole : first ∷ rest ++ drop (place + 1) journal ≡ journal

taken_more : (x : Entry) (xs : List Entry) (n : ℕ) → take (suc n + 1) (x ∷ xs) ≡ x ∷ take (n + 1) xs
taken_more x xs n = let e : suc n + 1 ≡ suc (n + 1) = omega arith in ap (λ k. take k (x ∷ xs)) e

left_more : (x : Entry) (xs : List Entry) (n : ℕ) → drop (suc n + 1) (x ∷ xs) ≡ drop (n + 1) xs
left_more x xs n = let e : suc n + 1 ≡ suc (n + 1) = omega arith in ap (λ k. drop k (x ∷ xs)) e

split : (journal : List Entry) (place : ℕ) → place < length journal → Split journal place
split [] place lt = absurd (omega (arith, lt))
split (x ∷ xs) zero lt = record { first = x; rest = []; at = x; taken = refl; from = refl; whole = refl }
split (x ∷ xs) (suc n) lt =
    let r = split xs n (omega (arith, lt)) in
    record {
      first = x;
      rest = r.first ∷ r.rest;
      at = r.at;
      taken = taken_more x xs n ∙ ap (λ ys. x ∷ ys) r.taken;
      from = r.from ∙ ap (λ ys. r.at ∷ ys) (sym (left_more x xs n));
      whole = ap (λ ys. x ∷ r.first ∷ r.rest ++ ys) (left_more x xs n) ∙ ap (λ ys. x ∷ ys) r.whole;
    }

module _ (program : Resolved) (core : ℕ) (function : Function) (bound : ℕ) where
  abbrev go : CoreState → Moved
  go = step program bound

  abbrev first : List Entry → Moved
  first journal = first_state program core function journal

  -- ---- a state of the run under a journal

  module _ (journal : List Entry) (c : CoreState) (goes : GoesOn go (first journal) (On c)) where
    -- from this first move on, without a journal
    module _ (a : Entry) (rest later : List Entry) (whole : a ∷ rest ++ later ≡ journal) where
      run_of_all : GoesOn go (move_under [] (a ∷ rest ++ later) (first [])) (On c)
      run_of_all = subst (λ (m : Moved). GoesOn go m (On c)) (ap first (sym whole) ∙ first_too program core function (a ∷ rest ++ later)) goes

      none_before : length c.held.shared.todo ≤ length later → (m : Moved) → GoesOn go (move_under [] (a ∷ rest ++ later) m) (On c)
          → GoesOn go (move_under [] (a ∷ rest) m) (Over None) → ⊥
      none_before le (Over end) r x = not_both c None r.1
      none_before le (On s) r x =
          let out = reaches program bound later r.0 a rest (core_under [] [] s) c (sym r.1) le in
          let end = after_some program bound out.moved x.0 (core_under [] (a ∷ rest) s) out.state None out.comes (sym x.1) in
          let seen = all_seen program bound end.0 out.state None out.out end.1 in
          no_end_more seen.0 seen.1

      none_there : (at : Entry) → c.held.shared.todo ≡ at ∷ later → go c ≡ Over None → (m : Moved) → GoesOn go (move_under [] (a ∷ rest ++ later) m) (On c)
          → GoesOn go (move_under [] (a ∷ rest) m) (Over None)
      none_there at last over (Over end) r = not_both c None r.1
      none_there at last over (On s) r =
          let here = stands program bound later at c last r.0 a rest (core_under [] [] s) (sym r.1) in
          let more = GoesOn-more go (On (core_under [] (a ∷ rest) s)) (core_with_todo (at ∷ []) c) (r.0, sym here) in
          subst (GoesOn go (On (core_under [] (a ∷ rest) s))) (unfit_here program bound later at c last over) more

    before_it : (place : ℕ) → c.held.shared.todo ≡ drop place journal → (earlier : ℕ) → earlier < place → earlier < length journal
        → RunEnds program core function bound (take (earlier + 1) journal) None → ⊥
    before_it place todo earlier lt inside x =
        let r = split journal earlier inside in
        let later = drop (earlier + 1) journal in
        let n = ap length todo in
        let k = length-drop place journal in
        let l = length-drop (earlier + 1) journal in
        let all = subst (λ (m : Moved). GoesOn go m (Over None)) (ap first r.taken ∙ first_too program core function (r.first ∷ r.rest)) x in
        none_before r.first r.rest later r.whole (omega (arith, n, k, l, lt)) (first []) (run_of_all r.first r.rest later r.whole) all

    none_at : (place : ℕ) → c.held.shared.todo ≡ drop place journal → go c ≡ Over None → place < length journal → RunEnds program core function bound (take (place + 1) journal) None
    none_at place todo over lt =
        let r = split journal place lt in
        let later = drop (place + 1) journal in
        subst (λ (m : Moved). GoesOn go m (Over None)) (sym (ap first r.taken ∙ first_too program core function (r.first ∷ r.rest)))
        (none_there r.first r.rest later r.whole r.at (todo ∙ r.from) over (first []) (run_of_all r.first r.rest later r.whole))

    -- where the next move is an end of which nothing is seen, an entry is left
    some_left : (place : ℕ) → c.held.shared.todo ≡ drop place journal → go c ≡ Over None → (length journal ≤ place → ⊥)
    some_left place todo over le =
        let out : c.held.shared.todo ≡ [] = todo ∙ drop_of_length-le journal le in
        let seen = subst IsOut over (subst (λ (x : CoreState). IsOut (go x)) (itself c [] out) (step_out program bound c)) in
        no_end_more seen.0 seen.1

    pub is_unfit : (place : ℕ) → c.held.shared.todo ≡ drop place journal → go c ≡ Over None → IsUnfit program core function bound journal place
    is_unfit place todo over =
        let lt : place < length journal = ⊎_elim (λ lt. lt) (λ le. absurd (some_left place todo over le)) (cases_lt place (length journal)) in
        record {
          inside = lt;
          unfit = none_at place todo over lt;
          before = λ earlier less. before_it place todo earlier less (omega (arith, less, lt));
        }

  -- ---- a core that has no room for its first frame

  first_seen : (r : Result Store Trap) → IsOut (begins_with (λ (end : Option CoreEnd). end) (first_globals program) (shared_at_first program core []) r (λ store. On (first_core function
      (shared_at_first program core []) store)))
  first_seen (Ok store) = refl
  first_seen (Err trap) = (core_end (word.Trapped trap) false (first_globals program) [] (shared_at_first program core []), refl)

  unfit_first : (e : Entry) (es : List Entry) (m : Moved) → move_under [] (e ∷ es) m ≡ Over None → move_under [] (e ∷ []) m ≡ Over None
  unfit_first e es (On c) h = not_both (core_under [] (e ∷ es) c) None h
  unfit_first e es (Over end) h = refl

  pub is_unfit_first : (journal : List Entry) → first journal ≡ Over None → IsUnfit program core function bound journal 0
  is_unfit_first [] h =
      let seen = subst IsOut h (first_seen (begun (first_store (first_globals program)) None (replicate function.slots no_int))) in
      no_end_more seen.0 seen.1
  is_unfit_first (e ∷ es) h =
      let here = first_too program core function (e ∷ []) ∙ unfit_first e es (first []) (sym (first_too program core function (e ∷ es)) ∙ h) in
      record {
        inside = omega arith;
        unfit = (0, sym (ap (λ (m : Moved). and_then m (moves go 0)) here));
        before = λ earlier less x. omega (arith, less);
      }
