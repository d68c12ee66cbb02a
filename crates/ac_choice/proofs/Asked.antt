-- The ends that were asked so far, in turn: none has given anything, and the others are as they were. So the first that gives is the answer,
-- and where all were asked there is none.
use Rattle.std.proofs.Common.{◌≡◌, ℕ, ◌+◌, ◌<◌, ◌≤◌, List, Option, Some, None, length, slice_set, refl, sym, ap, ◌∙◌, subst, arith, inl, inr, ⊎_elim}
use Rattle.std.specs.Prelude.{slice_get}
use Rattle.std.specs.Option.{option_or}
use Rattle.std.proofs.lemmas.Option.{slice_get-get_or}
use Rattle.std.proofs.lemmas.List.{length-set}
use Rattle.std.proofs.lemmas.Bool.{cases_lt, cases_eq}
use Rattle.std.proofs.Common.{get_or}
use Rattle.completion_word.specs.Link.{decision}
use Rattle.completion_word.specs.declared.views.DecisionKind.TheVariants as outcome
use Rattle.core_channels.specs.declared.answers.Receiving.{Receiving as Received}
use Rattle.core_channels.specs.declared.answers.Receiving.TheVariants as received
use Rattle.channel_ends.specs.Receiving.{Receiving, Receives}
use Rattle.channel_ends.specs.Pairs.{IsSameRecv}
use Rattle.ac_choice.specs.Turns.{turn}
use Rattle.ac_choice.specs.AnyOf.{SoAt, SeesNothing, Waits, GivesNone, IsLeft, Answers, WaitsAt, SeeNothing, DecidesOne, SameList, DecidesAtMostOne, AreSameEnds}
use Rattle.ac_choice.specs.inner.Asking.{ChangesAt}
use Rattle.ac_choice.proofs.Places.{so_here, so_there, so_each, so_beyond, same_Some}
use Rattle.ac_choice.proofs.InTurn.{one_turn, turns_apart, turn_below}

module _ {M : Type 0} where
  -- which is the first that waits, of those that come before the n-th
  abbrev pub IsFirstWaiting : List (Receiving M) → ℕ → ℕ → ℕ → Option ℕ → List (Receiving M) → Type 0
  IsFirstWaiting old first last n None cur = (k : ℕ) → k < length old → turn (length old) first k < n → SoAt (SeesNothing last) old k cur
  IsFirstWaiting old first last n (Some e) cur = (e < length old) × (turn (length old) first e < n) × SoAt (Waits last) old e cur
      × ((k : ℕ) → k < length old → turn (length old) first k < turn (length old) first e → SoAt (SeesNothing last) old k cur)

  pub record Asked (old : List (Receiving M)) (first last n : ℕ) (waits : Option ℕ) (cur : List (Receiving M)) : Type 0 where
    pub count : length cur ≡ length old
    pub asked : (k : ℕ) → k < length old → turn (length old) first k < n → SoAt (GivesNone last) old k cur
    pub left : (k : ℕ) → k < length old → n ≤ turn (length old) first k → SoAt IsLeft old k cur
    pub waiting : IsFirstWaiting old first last n waits cur
    pub same : (k : ℕ) → SoAt IsSameRecv old k cur

  same_end : (r : Receiving M) → IsSameRecv r r
  same_end r = record { table = refl; ring = refl }

  none_left : (old : List (Receiving M)) (k : ℕ) → SoAt IsLeft old k old
  none_left old k = λ a b from to. same_Some b a (sym to ∙ from)

  pub none_asked : (old : List (Receiving M)) (first last : ℕ) → Asked old first last 0 None old
  none_asked old first last = record {
    count = refl;
    asked = λ k w less. absurd (omega (arith, less));
    left = λ k w from. none_left old k;
    waiting = λ k w less. absurd (omega (arith, less));
    same = λ k a b from to. subst (λ z. IsSameRecv a z) (same_Some a b (sym from ∙ to)) (same_end a);
  }

  -- ---- one more end is asked

  module _ (old cur : List (Receiving M)) (first last n e : ℕ) (waits : Option ℕ) (h : Asked old first last n waits cur) (some : first < length old)
      (within : e < length old) (comes : turn (length old) first e ≡ n) (a b : Receiving M) (at : slice_get cur e ≡ Some a) where
    inside : e < length cur
    inside = subst (λ m. e < m) (sym h.count) within

    pub was : slice_get old e ≡ Some a
    was =
        let from : slice_get old e ≡ Some (get_or old e a) = slice_get-get_or old e a within in
        let same : a ≡ get_or old e a = h.left e within (omega (arith, comes)) (get_or old e a) a from at in
        from ∙ ap Some (sym same)

    not_before : (k : ℕ) → turn (length old) first k < n → k ≡ e → ⊥
    not_before k less is = absurd (let t = ap (turn (length old) first) is in omega (arith, t, comes, less))

    not_after : (k : ℕ) → n < turn (length old) first k → k ≡ e → ⊥
    not_after k more is = absurd (let t = ap (turn (length old) first) is in omega (arith, t, comes, more))

    earlier : (k : ℕ) → k < length old → turn (length old) first k < n + 1 → (k ≡ e → ⊥) → turn (length old) first k < n
    earlier k w less apart =
        elim (cases_eq (turn (length old) first k) n) [
          | inl same ↦ absurd (apart (one_turn (length old) first k e some w within (same ∙ sym comes)))
          | inr other ↦ omega (arith, less, other)
        ]

    pub it_answers : (r : Received M) → Receives a last r b → Answers old first last e r (slice_set cur e b)
    it_answers r got = record {
      count = length-set cur e b ∙ h.count;
      within = within;
      answer = so_here old cur e a b was inside (λ x y. Receives x last r y) got;
      before = λ k w less.
          let l : turn (length old) first k < n = omega (arith, less, comes) in
          so_there old cur e a b was inside (GivesNone last) k (not_before k l) (h.asked k w l);
      after = λ k w more.
          let m : n < turn (length old) first k = omega (arith, more, comes) in
          so_there old cur e a b was inside IsLeft k (not_after k m) (h.left k w (omega (arith, m)));
    }

    pub all_same : IsSameRecv a b → (k : ℕ) → SoAt IsSameRecv old k (slice_set cur e b)
    all_same s = so_each old cur e a b was inside IsSameRecv s h.same

    gives_none : GivesNone last a b → (k : ℕ) → k < length old → turn (length old) first k < n + 1 → SoAt (GivesNone last) old k (slice_set cur e b)
    gives_none g k w less =
        elim (cases_eq k e) [
          | inl is ↦ subst (λ m. SoAt (GivesNone last) old m (slice_set cur e b)) (sym is) (so_here old cur e a b was inside (GivesNone last) g)
          | inr apart ↦ so_there old cur e a b was inside (GivesNone last) k apart (h.asked k w (earlier k w less apart))
        ]

    still_left : (k : ℕ) → k < length old → n + 1 ≤ turn (length old) first k → SoAt IsLeft old k (slice_set cur e b)
    still_left k w from =
        let m : n < turn (length old) first k = omega (arith, from) in
        so_there old cur e a b was inside IsLeft k (not_after k m) (h.left k w (omega (arith, m)))

    nothing_before : (m k : ℕ) → m ≤ n → turn (length old) first k < m → SoAt (SeesNothing last) old k cur → SoAt (SeesNothing last) old k (slice_set cur e b)
    nothing_before m k most less so = so_there old cur e a b was inside (SeesNothing last) k (not_before k (omega (arith, most, less))) so

    -- the one that waits goes on being the first
    still_waits : (d : ℕ) → IsFirstWaiting old first last n (Some d) cur → IsFirstWaiting old first last (n + 1) (Some d) (slice_set cur e b)
    still_waits d w = (
      w.0,
      omega (arith, w.1),
      so_there old cur e a b was inside (Waits last) d (not_before d w.1) w.2,
      λ k v less. nothing_before (turn (length old) first d) k (omega (arith, w.1)) less (w.3 k v less),
    )

    goes_on : (ws : Option ℕ) → IsFirstWaiting old first last n ws cur → SeesNothing last a b → IsFirstWaiting old first last (n + 1) ws (slice_set cur e b)
    goes_on None w got = λ k v less.
        elim (cases_eq k e) [
          | inl is ↦ subst (λ m. SoAt (SeesNothing last) old m (slice_set cur e b)) (sym is) (so_here old cur e a b was inside (SeesNothing last) got)
          | inr apart ↦ so_there old cur e a b was inside (SeesNothing last) k apart (w k v (earlier k v less apart))
        ]
    goes_on (Some d) w got = still_waits d w

    begins : (ws : Option ℕ) → IsFirstWaiting old first last n ws cur → Waits last a b → IsFirstWaiting old first last (n + 1) (option_or ws (Some e)) (slice_set cur e b)
    begins None w got = (
      within,
      omega (arith, comes),
      so_here old cur e a b was inside (Waits last) got,
      λ k v less. let l : turn (length old) first k < n = omega (arith, less, comes) in nothing_before n k (omega arith) l (w k v l),
    )
    begins (Some d) w got = still_waits d w

    pub it_sees_nothing : SeesNothing last a b → IsSameRecv a b → Asked old first last (n + 1) waits (slice_set cur e b)
    it_sees_nothing got s = record {
      count = length-set cur e b ∙ h.count;
      asked = gives_none (inl got);
      left = still_left;
      waiting = goes_on waits h.waiting got;
      same = all_same s;
    }

    pub it_waits : Waits last a b → IsSameRecv a b → Asked old first last (n + 1) (option_or waits (Some e)) (slice_set cur e b)
    it_waits got s = record {
      count = length-set cur e b ∙ h.count;
      asked = gives_none (inr got);
      left = still_left;
      waiting = begins waits h.waiting got;
      same = all_same s;
    }

  -- ---- by what the call of the end says

  module _ (old cur next : List (Receiving M)) (first last n e : ℕ) (waits : Option ℕ) (h : Asked old first last n waits cur) (some : first < length old)
      (within : e < length old) (comes : turn (length old) first e ≡ n) (now : ℕ) (unmoved : now ≡ last) (r : Received M) (A : Receiving M → Type 0)
      (c : ChangesAt (λ a b. Receives a now r b × A a × IsSameRecv a b) cur e next) where
    got : (s : Received M) → r ≡ s → Receives c.before last s c.after
    got s is = subst (λ t. Receives c.before t s c.after) unmoved (subst (λ x. Receives c.before now x c.after) is c.change.0)

    pub call_answers : (s : Received M) → r ≡ s → Answers old first last e s next
    call_answers s is = subst (λ xs. Answers old first last e s xs) (sym c.now)
        (it_answers old cur first last n e waits h some within comes c.before c.after c.was s (got s is))

    pub call_same : AreSameEnds old next
    call_same = record {
      count = ap length c.now ∙ length-set cur e c.after ∙ h.count;
      each = λ k. subst (λ xs. SoAt IsSameRecv old k xs) (sym c.now)
          (all_same old cur first last n e waits h some within comes c.before c.after c.was c.change.2 k);
    }

    pub call_sees_nothing : r ≡ received.Nothing → Asked old first last (n + 1) waits next
    call_sees_nothing is = subst (λ xs. Asked old first last (n + 1) waits xs) (sym c.now)
        (it_sees_nothing old cur first last n e waits h some within comes c.before c.after c.was (got received.Nothing is) c.change.2)

    pub call_waits : r ≡ received.NotYet → (w : Option ℕ) → w ≡ option_or waits (Some e) → Asked old first last (n + 1) w next
    call_waits is w more = subst (λ v. Asked old first last (n + 1) v next) (sym more) (subst (λ xs. Asked old first last (n + 1) (option_or waits (Some e)) xs) (sym c.now)
        (it_waits old cur first last n e waits h some within comes c.before c.after c.was (got received.NotYet is) c.change.2))

  -- ---- all were asked

  pub all_see_nothing : (old cur : List (Receiving M)) (first last n : ℕ) → first < length old → length old ≤ n → Asked old first last n None cur → SeeNothing old last cur
  all_see_nothing old cur first last n some whole h = record {
    count = h.count;
    each = λ k w. h.waiting k w (let t = turn_below (length old) first k some w in omega (arith, t, whole));
  }

  pub one_waits : (old cur : List (Receiving M)) (first last n e : ℕ) → first < length old → length old ≤ n → Asked old first last n (Some e) cur → WaitsAt old first last e cur
  one_waits old cur first last n e some whole h = record {
    count = h.count;
    within = h.waiting.0;
    waits = h.waiting.2;
    before = h.waiting.3;
    each = λ k w. h.asked k w (let t = turn_below (length old) first k some w in omega (arith, t, whole));
  }

  -- ---- which lists grow

  decides_nothing : (last : ℕ) (a b : Receiving M) → GivesNone last a b → SameList a b
  decides_nothing last a b =
      ⊎_elim (λ (h : SeesNothing last a b). (h.0.decisions, h.0.popped)) (λ (h : Waits last a b). (h.0.decisions, h.0.popped))

  took_one : (last number s : ℕ) (value : M) (a b : Receiving M) → Receives a last (received.Took number value s) b → DecidesOne a b
  took_one last number s value a b h =
      record { decision = decision (outcome.Taken s) h.of; value = value; decisions = h.decisions; popped = h.popped }

  passed_one : (last number s : ℕ) (a b : Receiving M) → Receives a last (received.Passed number s) b → DecidesOne a b
  passed_one last number s a b h =
      record { decision = decision (outcome.Passed s) h.1.of; value = h.0; decisions = h.1.decisions; popped = h.1.popped }

  full_none : (last : ℕ) (a b : Receiving M) → Receives a last received.ClockFull b → SameList a b
  full_none last a b h = (h.0.decisions, h.0.popped)

  module _ (old new : List (Receiving M)) (first last e : ℕ) (r : Received M) (some : first < length old) (h : Answers old first last e r new) where
    others_same : (k : ℕ) → (k ≡ e → ⊥) → SoAt SameList old k new
    others_same k apart =
        elim (cases_lt k (length old)) [
          | inl w ↦ elim (turns_apart (length old) first k e some w h.within apart) [
            | inl less ↦ λ a b from to. decides_nothing last a b (h.before k w less a b from to)
            | inr more ↦ λ a b from to. let is : b ≡ a = h.after k w more a b from to in subst (λ z. SameList a z) (sym is) (refl, refl)
          ]
          | inr past ↦ so_beyond SameList old new k past
        ]

    one_decides : ((a b : Receiving M) → Receives a last r b → DecidesOne a b) → DecidesAtMostOne old (Some e) new
    one_decides so = record {
      count = h.count;
      one = (h.within, λ a b from to. so a b (h.answer a b from to));
      others = λ k n. others_same k (λ is. n (ap Some (sym is)));
    }

    none_decides : ((a b : Receiving M) → Receives a last r b → SameList a b) → DecidesAtMostOne old None new
    none_decides so = record {
      count = h.count;
      one = tt;
      others = λ k n.
          elim (cases_eq k e) [
            | inl is ↦ subst (λ m. SoAt SameList old m new) (sym is) (λ a b from to. so a b (h.answer a b from to))
            | inr apart ↦ others_same k apart
          ];
    }

  module _ (old new : List (Receiving M)) (first last : ℕ) (some : first < length old) where
    pub one_by_taking : (e number s : ℕ) (value : M) → Answers old first last e (received.Took number value s) new → DecidesAtMostOne old (Some e) new
    one_by_taking e number s value h = one_decides old new first last e (received.Took number value s) some h (took_one last number s value)

    pub one_by_passing : (e number s : ℕ) → Answers old first last e (received.Passed number s) new → DecidesAtMostOne old (Some e) new
    one_by_passing e number s h = one_decides old new first last e (received.Passed number s) some h (passed_one last number s)

    pub none_without_a_stamp : (e : ℕ) → Answers old first last e received.ClockFull new → DecidesAtMostOne old None new
    none_without_a_stamp e h = none_decides old new first last e received.ClockFull some h (full_none last)

    none_in_vain : length new ≡ length old → ((k : ℕ) → k < length old → SoAt (GivesNone last) old k new) → DecidesAtMostOne old None new
    none_in_vain count each = record {
      count = count;
      one = tt;
      others = λ k n.
          elim (cases_lt k (length old)) [
            | inl w ↦ λ a b from to. decides_nothing last a b (each k w a b from to)
            | inr past ↦ so_beyond SameList old new k past
          ];
    }

    pub none_by_waiting : (e : ℕ) → WaitsAt old first last e new → DecidesAtMostOne old None new
    none_by_waiting e h = none_in_vain h.count h.each

    pub none_by_nothing : SeeNothing old last new → DecidesAtMostOne old None new
    none_by_nothing h = none_in_vain h.count (λ k w a b from to. inl (h.each k w a b from to))
