-- The moves of a core under a journal, one after another, until it is over.
-- For the loop of `run_through`, whose invariant is `Goes`: so many entries have come in, the run of the meaning leads to this move, and it
-- is over by a number of moves that is known. A move that takes no entry, one that takes the next, and one that does not fit are the three
-- ways on.
use Rattle.std.proofs.Common.{◌≡◌, ℕ, ◌+◌, ◌<◌, List, [], ◌∷◌, ◌++◌, length, take, drop, true, false, ◌≢◌, sym, ap, ◌∙◌, subst, refl, suc, zero, arith, length-drop}
use Rattle.std.specs.Prelude.{Option, Some, None, is_some, Bool, not, IsSome}
use Rattle.std.proofs.Math.ListN.{drop_of_length-le}
use Rattle.ac_base.specs.declared.ends.CoreEnd.{CoreEnd}
use Rattle.ac_base.specs.declared.entry.Entry.{Entry}
use Rattle.core_state.specs.Moves.{On, Over, GoesOn}
use Rattle.core_state.proofs.Runs.{GoesOn-more, GoesOn-none}
use Rattle.ac_commands.specs.declared.program.Function.{Function}
use Rattle.ac_commands.specs.declared.program.Resolved.{Resolved}
use Rattle.ac_semantics.specs.Threads.{CoreState, step, first_state}
use Rattle.ac_interpreter.specs.declared.running.CoreStop.{CoreStop}
use Rattle.ac_interpreter.specs.declared.running.InterpretedCore.{InterpretedCore}
use Rattle.ac_interpreter.specs.declared.turns.Came.{Came}
use Rattle.ac_interpreter.specs.Ends.{IsOverBy}
use Rattle.ac_interpreter.specs.Unfit.{RunEnds, IsUnfit}
use Rattle.ac_interpreter.specs.inner.Left.{left_by}
use Rattle.ac_interpreter.specs.inner.Cores.{core_of, state_of, end_or}
use Rattle.ac_interpreter.specs.inner.Under.{core_under, move_under, Took, IsMoved}
use Rattle.ac_interpreter.proofs.Ends.{over_next, less_left, never_stays}
use Rattle.ac_interpreter.proofs.Growing.{Moved}
use Rattle.ac_interpreter.proofs.Journals.{first_too}
use Rattle.ac_interpreter.proofs.Prefixes.{is_unfit, is_unfit_first}

pub none_of : (o : Option CoreStop) (test : Bool) → is_some o ≡ not test → test ≡ true → o ≡ None
none_of None test e t = refl
none_of (Some halt) test e t = let no : true ≡ false = e ∙ ap not t in cc

pub some_of : (o : Option CoreStop) (test : Bool) → is_some o ≡ not test → test ≡ false → o ≢ None
some_of None test e t = let no : false ≡ true = e ∙ ap not t in cc
some_of (Some halt) test e t = λ h. let no : Some halt ≡ None = h in cc

pub some_is : (o : Option CoreStop) → o ≢ None → IsSome o
some_is None h = absurd (h refl)
some_is (Some halt) h = refl

pub going : (c : CoreState) (o : Option CoreStop) (test : Bool) → is_some o ≡ not test → test ≡ true → end_or c o ≡ On c
going c o test e t = ap (end_or c) (none_of o test e t)

-- one more entry of the journal has come in
pub one_more : (journal : List Entry) (k : ℕ) (e : Entry) (es : List Entry) → drop k journal ≡ e ∷ es → take (k + 1) journal ≡ take k journal ++ e ∷ []
one_more [] zero e es h = let no : ◌≡◌ {A = List Entry} [] (e ∷ es) = h in cc
one_more [] (suc k) e es h = let no : ◌≡◌ {A = List Entry} [] (e ∷ es) = h in cc
one_more (x ∷ xs) zero e es h = let same : x ≡ e = cc in ap (λ y. y ∷ []) same
one_more (x ∷ xs) (suc k) e es h =
    let n : suc k + 1 ≡ suc (k + 1) = omega arith in
    ap (λ i. take i (x ∷ xs)) n ∙ ap (λ ys. x ∷ ys) (one_more xs k e es h)

one_less : (journal : List Entry) (k : ℕ) (e : Entry) (es : List Entry) → drop k journal ≡ e ∷ es → drop (k + 1) journal ≡ es
one_less [] zero e es h = let no : ◌≡◌ {A = List Entry} [] (e ∷ es) = h in cc
one_less [] (suc k) e es h = let no : ◌≡◌ {A = List Entry} [] (e ∷ es) = h in cc
one_less (x ∷ xs) zero e es h = cc
one_less (x ∷ xs) (suc k) e es h =
    let n : suc k + 1 ≡ suc (k + 1) = omega arith in
    ap (λ i. drop i (x ∷ xs)) n ∙ one_less xs k e es h

module _ (p : Resolved) (b n core : ℕ) (function : Function) (journal : List Entry) where
  abbrev f : CoreState → Moved
  f = step p b

  abbrev first : Moved
  first = first_state p core function journal

  -- after so many entries
  abbrev pub under : ℕ → Moved → Moved
  under k m = move_under (take k journal) (drop k journal) m

  abbrev core_there : ℕ → CoreState → CoreState
  core_there k c = core_under (take k journal) (drop k journal) c

  -- what is known of a run that goes on
  pub record Goes (k : ℕ) (m : Moved) : Type 0 where
    pub goes : GoesOn f first (under k m)
    pub over : IsOverBy f (under k m) n
    pub stopped : under k m ≡ Over None → IsUnfit p core function b journal k

  -- ---- the first state, and the last

  none_taken : (xs : List Entry) → take 0 xs ≡ []
  none_taken [] = refl
  none_taken (x ∷ xs) = refl

  none_dropped : (xs : List Entry) → drop 0 xs ≡ xs
  none_dropped [] = refl
  none_dropped (x ∷ xs) = refl

  first_under : (m : Moved) → m ≡ first_state p core function [] → under 0 m ≡ first
  first_under m h =
      ap (under 0) h ∙ ap (λ (past : List Entry). move_under past (drop 0 journal) (first_state p core function [])) (none_taken journal)
      ∙ ap (λ (todo : List Entry). move_under [] todo (first_state p core function [])) (none_dropped journal) ∙ sym (first_too p core function journal)

  pub begins : (m : Moved) → m ≡ first_state p core function [] → IsOverBy f first n → Goes 0 m
  begins m h over = record {
    goes = subst (GoesOn f first) (sym (first_under m h)) (GoesOn-none f first);
    over = subst (λ (a : Moved). IsOverBy f a n) (sym (first_under m h)) over;
    stopped = λ o. is_unfit_first p core function b journal (sym (first_under m h) ∙ o);
  }

  -- how it has ended
  module _ (k : ℕ) (c : CoreState) where
    all_in : (end : Option CoreEnd) (todo : List Entry) → todo ≡ [] → ◌≡◌ {A = Moved} (move_under (take k journal) todo (Over end)) (Over end)
    all_in end todo h = ap (λ (xs : List Entry). move_under (take k journal) xs (Over end)) h

    some_in : (end : Option CoreEnd) (todo : List Entry) → 0 < length todo → ◌≡◌ {A = Moved} (move_under (take k journal) todo (Over end)) (Over None)
    some_in end [] lt = absurd (omega (arith, lt))
    some_in end (x ∷ xs) lt = refl

    pub is_over : (o : Option CoreStop) → o ≢ None → Goes k (end_or c o) → k ≡ length journal → GoesOn f first (end_or c o)
    is_over None some known all = absurd (some refl)
    is_over (Some halt) some known all = subst (GoesOn f first) (all_in _ (drop k journal) (drop_of_length-le journal (omega (arith, all)))) known.goes

    under_none : (o : Option CoreStop) → o ≢ None → k < length journal → under k (end_or c o) ≡ Over None
    under_none None some less = absurd (some refl)
    under_none (Some halt) some less = let n = length-drop k journal in some_in _ (drop k journal) (omega (arith, n, less))

    pub is_stopped : (o : Option CoreStop) → o ≢ None → Goes k (end_or c o) → k < length journal → IsUnfit p core function b journal k × RunEnds p core function b journal None
    is_stopped o some known less =
        let over = under_none o some less in
        (known.stopped over, subst (GoesOn f first) over known.goes)

  -- ---- a move from a state

  module _ (k : ℕ) (m : Moved) (c : CoreState) (is : m ≡ On c) (known : Goes k m) where
    goes_here : GoesOn f first (On (core_there k c))
    goes_here = subst (λ (a : Moved). GoesOn f first (under k a)) is known.goes

    over_here : IsOverBy f (On (core_there k c)) n
    over_here = subst (λ (a : Moved). IsOverBy f (under k a) n) is known.over

    pub unfit_here : f (core_there k c) ≡ Over None → IsUnfit p core function b journal k
    unfit_here over = is_unfit p core function b journal (core_there k c) goes_here k refl over

    pub none_here : f (core_there k c) ≡ Over None → RunEnds p core function b journal None
    none_here over = subst (GoesOn f first) over (GoesOn-more f first (core_there k c) goes_here)

    -- the next move, after which so many have come in
    module _ (i : ℕ) (next : Moved) (h : under i next ≡ f (core_there k c)) where
      next_less : left_by f n (under i next) < left_by f n (under k m)
      next_less =
          subst (λ (a : Moved). left_by f n (under i next) < left_by f n (under k a)) (sym is)
          (subst (λ (a : Moved). left_by f n a < left_by f n (On (core_there k c))) (sym h) (less_left f n (core_there k c) over_here))

      next_goes : (under i next ≡ Over None → IsUnfit p core function b journal i) → Goes i next
      next_goes stopped = record {
        goes = subst (GoesOn f first) (sym h) (GoesOn-more f first (core_there k c) goes_here);
        over = subst (λ (a : Moved). IsOverBy f a n) (sym h) (over_next f n (core_there k c) over_here);
        stopped = stopped;
      }

    -- the move that the core has made
    pub moved_here : (q : Resolved) (d : ℕ) (past todo : List Entry) (came now : Came) (after : InterpretedCore) → q ≡ p → d ≡ b → past ≡ take k journal → todo ≡ drop k journal → came ≡ now
        → IsMoved came past todo (step q d (core_under past todo c)) after → IsMoved now (take k journal) (drop k journal) (f (core_there k c)) after
    moved_here q d past todo came now after program bound before behind is h =
        subst (λ (x : Came). IsMoved x (take k journal) (drop k journal) (f (core_there k c)) after) is
        (subst (λ (xs : List Entry). IsMoved came (take k journal) xs (f (core_under (take k journal) xs c)) after) behind
        (subst (λ (xs : List Entry). IsMoved came xs todo (f (core_under xs todo c)) after) before
        (subst (λ (i : ℕ). IsMoved came past todo (step p i (core_under past todo c)) after) bound
        (subst (λ (r : Resolved). IsMoved came past todo (step r d (core_under past todo c)) after) program h))))

    pub has_meaning : (q : Resolved) (d : ℕ) (past todo : List Entry) → q ≡ p → d ≡ b → past ≡ take k journal → todo ≡ drop k journal
        → step q d (core_under past todo c) ≡ On (core_under past todo c) → ⊥
    has_meaning q d past todo program bound came left h =
        never_stays f n (core_there k c) over_here
        (subst (λ (xs : List Entry). f (core_under (take k journal) xs c) ≡ On (core_under (take k journal) xs c)) left
        (subst (λ (xs : List Entry). f (core_under xs todo c) ≡ On (core_under xs todo c)) came
        (subst (λ (i : ℕ). step p i (core_under past todo c) ≡ On (core_under past todo c)) bound
        (subst (λ (r : Resolved). step r d (core_under past todo c) ≡ On (core_under past todo c)) program h))))

    -- nothing came in with it
    module _ (next : Moved) (h : f (core_there k c) ≡ under k next) where
      pub turned : Goes k next
      turned = next_goes k next (sym h) (λ e. unfit_here (h ∙ e))

      pub turned_less : left_by f n (under k next) < left_by f n (under k m)
      turned_less = next_less k next (sym h)

    -- the next entry came in
    module _ (after : InterpretedCore) (took : Took (take k journal) (drop k journal) (f (core_there k c)) after) where
      is_on : under (k + 1) (state_of after) ≡ On (core_under (take (k + 1) journal) (drop (k + 1) journal) (core_of after))
      is_on = ap (λ (o : Option CoreStop). under (k + 1) (end_or (core_of after) o)) took.ended

      comes_is : under (k + 1) (state_of after) ≡ f (core_there k c)
      comes_is =
          is_on
          ∙ ap (λ (past : List Entry). On (core_under past (drop (k + 1) journal) (core_of after))) (one_more journal k took.entry took.others took.front)
          ∙ ap (λ (todo : List Entry). On (core_under (take k journal ++ took.entry ∷ []) todo (core_of after))) (one_less journal k took.entry took.others took.front)
          ∙ sym took.on

      not_over : under (k + 1) (state_of after) ≡ Over None → ⊥
      not_over o =
          let no : On (core_under (take (k + 1) journal) (drop (k + 1) journal) (core_of after)) ≡ Over None = sym is_on ∙ o in
          cc

      pub come : Goes (k + 1) (state_of after)
      come = next_goes (k + 1) (state_of after) comes_is (λ o. absurd (not_over o))

      pub come_less : left_by f n (under (k + 1) (state_of after)) < left_by f n (under k m)
      come_less = next_less (k + 1) (state_of after) comes_is

      pub one_was_left : k < length journal
      one_was_left = let e = ap length took.front in let l = length-drop k journal in omega (arith, e, l)
