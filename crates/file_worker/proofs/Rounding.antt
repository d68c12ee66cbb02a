-- How the turns of a round follow one another: until its turn comes a core's ends are as they were before the round, and after it they stay.
use Rattle.std.proofs.Common.{◌≡◌, ℕ, ◌+◌, ◌<◌, ◌≤◌, List, [], ◌∷◌, ◌++◌, Some, inl, inr, refl, sym, ap, ◌∙◌, subst, arith, length, length-append}
use Rattle.std.specs.Prelude.{IsTrue, slice_get}
use Rattle.std.proofs.lemmas.Bool.Decides.{eqb_tells}
use Rattle.std.proofs.lemmas.Option.{slice_get_within}
use Rattle.ac_base.specs.declared.entry.Entry.{Entry}
use Rattle.ac_links.specs.Journals.{last_of}
use Rattle.file_worker.specs.declared.turns.Round.{Round}
use Rattle.file_worker.specs.declared.turns.Round.TheVariants.{Did, Quiet, NotYet, ClockFull}
use Rattle.file_worker.specs.declared.turns.Turned.TheVariants.{Made}
use Rattle.file_worker.specs.Ends.{CoreEnds, AtEach, AtOne}
use Rattle.file_worker.specs.Agreement.{Seen}
use Rattle.file_worker.specs.Rounds.{LooksOnce, Rests, SawNothing, LacksRoom, LacksStamp, Waits, Stops, MadeNone, Says}
use Rattle.file_worker.specs.inner.Turns.{Turns}
use Rattle.file_worker.specs.inner.Rounds.{joined, TurnsBy, TurnsAt, AtBelow, OneBelow, NoneBelow, SaysBelow, HaveTurned}
use Rattle.file_worker.proofs.EndLists.{set_same, set_other, same_some}
use Rattle.file_worker.proofs.Going.{turn_goes_on, nothing_goes_on, goes_on_both}

-- ---- one turn

longer : (xs : List Entry) (e : Entry) → length xs < length (xs ++ e ∷ [])
longer xs e = let n = length-append xs (e ∷ []) in omega arith

module _ (l : ℕ) (s : Seen) (a b : CoreEnds) (t : Seen) where
  grown : (r : Round) → TurnsBy r l s a b t → length s.desk.entries ≤ length t.desk.entries
  grown Did y = let e = ap length y.1 in let n = longer s.desk.entries y.0 in omega (arith, e, n)
  grown Quiet y = let e = ap length y.0 in omega arith
  grown NotYet y = let e = ap length y.0 in omega arith
  grown ClockFull y = let e = ap length y.0 in omega arith

  made_looks : (e : Entry) → Turns l (last_of 0 s.desk.entries) a s.told (Made e) b t.told → LooksOnce a b
  made_looks e y = elim y [
    | inl z ↦ z.ask.looks
    | inr z ↦ z.ask.looks
  ]

  looks_once : (r : Round) → TurnsBy r l s a b t → LooksOnce a b
  looks_once Did y = made_looks y.0 y.2
  looks_once Quiet y = y.1.0.ask.looks
  looks_once NotYet y = y.1.0.ask.looks
  looks_once ClockFull y = y.1.0.ask.looks

-- ---- the turn of core n, after those of the cores below n

module _ (n : ℕ) (s t u : Seen) (r : Round) (x : TurnsAt n t r u) (others : (c : ℕ) → n ≤ c → slice_get t.desk.ends c ≡ slice_get s.desk.ends c) where
  abbrev a : CoreEnds
  a = x.before

  abbrev b : CoreEnds
  b = x.after

  was : slice_get s.desk.ends n ≡ Some a
  was = sym (others n (omega arith)) ∙ x.was

  now : slice_get u.desk.ends n ≡ Some b
  now = ap (λ ends. slice_get ends n) x.is ∙ set_same t.desk.ends n b (slice_get_within t.desk.ends n a x.was)

  untouched : (c : ℕ) → (n ≡ c → ⊥) → slice_get u.desk.ends c ≡ slice_get t.desk.ends c
  untouched c apart = ap (λ ends. slice_get ends c) x.is ∙ set_other t.desk.ends n c b apart

  others_more : (c : ℕ) → n + 1 ≤ c → slice_get u.desk.ends c ≡ slice_get s.desk.ends c
  others_more c h = untouched c (λ e. absurd (omega (arith, e, h))) ∙ others c (omega arith)

  module _ (R : CoreEnds → CoreEnds → Type 0) where
    at_more : AtBelow n R s.desk.ends t.desk.ends → R a b → AtBelow (n + 1) R s.desk.ends u.desk.ends
    at_more all one c p q lt at at' = elim (eqb_tells n c) [
      | inl w ↦
          let old : a ≡ p = same_some a p (sym was ∙ ap (slice_get s.desk.ends) w.1 ∙ at) in
          let new : b ≡ q = same_some b q (sym now ∙ ap (slice_get u.desk.ends) w.1 ∙ at') in
          subst (λ v. R v q) old (subst (R a) new one)
      | inr w ↦ all c p q (omega (arith, lt, w.1)) at (sym (untouched c w.1) ∙ at')
    ]

    one_more : R a b → OneBelow (n + 1) R s.desk.ends u.desk.ends
    one_more one = record { core = n; below = omega arith; old = a; new = b; before' = was; after' = now; holds = one }

    one_stays : OneBelow n R s.desk.ends t.desk.ends → OneBelow (n + 1) R s.desk.ends u.desk.ends
    one_stays y = let lt = y.below in record {
      core = y.core;
      below = omega arith;
      old = y.old;
      new = y.new;
      before' = y.before';
      after' = untouched y.core (λ e. absurd (omega (arith, e, lt))) ∙ y.after';
      holds = y.holds;
    }

  none_more : NoneBelow n s t → Rests a b → u.told ≡ t.told → u.desk.entries ≡ t.desk.entries → NoneBelow (n + 1) s u
  none_more y rests told entries = record { entries = entries ∙ y.entries; told = told ∙ y.told; rests = at_more Rests y.rests rests }

  did_first : NoneBelow n s t → TurnsBy Did (t.desk.first + n) t a b u → length s.desk.entries < length u.desk.entries
  did_first y z = let e = ap length z.1 in let m = longer t.desk.entries z.0 in let same = ap length y.entries in omega (arith, e, m, same)

  no_stamp : NoneBelow n s t → LacksStamp (last_of 0 t.desk.entries) a b → LacksStamp (last_of 0 s.desk.entries) a b
  no_stamp y z = subst (λ es. LacksStamp (last_of 0 es) a b) y.entries z

  abbrev clock : ℕ
  clock = last_of 0 s.desk.entries

  -- what stops the cores before this one, and what stops this one
  quiet_waits : AtBelow n SawNothing s.desk.ends t.desk.ends → AtBelow n Waits s.desk.ends t.desk.ends
  quiet_waits all c p q lt at at' = inl (all c p q lt at at')

  waits_stop : AtBelow n Waits s.desk.ends t.desk.ends → AtBelow n (Stops clock) s.desk.ends t.desk.ends
  waits_stop all c p q lt at at' = inl (all c p q lt at at')

  says_more : (found q : Round) → SaysBelow n found s t → TurnsBy q (t.desk.first + n) t a b u → SaysBelow (n + 1) (joined found q) s u
  says_more Did q h y = let g = grown (t.desk.first + n) t a b u q y in omega (arith, h, g)
  says_more Quiet Did h y = did_first h.0 y
  says_more Quiet Quiet h y = (none_more h.0 y.1.0 y.1.2 y.0, at_more SawNothing h.1 y.1.1)
  says_more Quiet NotYet h y = (none_more h.0 y.1.0 y.1.2 y.0, at_more Waits (quiet_waits h.1) (inr y.1.1), one_more LacksRoom y.1.1)
  says_more Quiet ClockFull h y = let full = no_stamp h.0 y.1.1 in
      (none_more h.0 y.1.0 y.1.2 y.0, at_more (Stops clock) (waits_stop (quiet_waits h.1)) (inr full), one_more (LacksStamp clock) full)
  says_more NotYet Did h y = did_first h.0 y
  says_more NotYet Quiet h y = (none_more h.0 y.1.0 y.1.2 y.0, at_more Waits h.1 (inl y.1.1), one_stays LacksRoom h.2)
  says_more NotYet NotYet h y = (none_more h.0 y.1.0 y.1.2 y.0, at_more Waits h.1 (inr y.1.1), one_stays LacksRoom h.2)
  says_more NotYet ClockFull h y = let full = no_stamp h.0 y.1.1 in
      (none_more h.0 y.1.0 y.1.2 y.0, at_more (Stops clock) (waits_stop h.1) (inr full), one_more (LacksStamp clock) full)
  says_more ClockFull Did h y = did_first h.0 y
  says_more ClockFull Quiet h y = (none_more h.0 y.1.0 y.1.2 y.0, at_more (Stops clock) h.1 (inl (inl y.1.1)), one_stays (LacksStamp clock) h.2)
  says_more ClockFull NotYet h y = (none_more h.0 y.1.0 y.1.2 y.0, at_more (Stops clock) h.1 (inl (inr y.1.1)), one_stays (LacksStamp clock) h.2)
  says_more ClockFull ClockFull h y = let full = no_stamp h.0 y.1.1 in
      (none_more h.0 y.1.0 y.1.2 y.0, at_more (Stops clock) h.1 (inr full), one_stays (LacksStamp clock) h.2)

-- ---- the loop

pub none_yet : (s : Seen) → IsTrue s.told.is_ready → HaveTurned 0 s s Quiet
none_yet s ready = record {
  goes = nothing_goes_on s;
  says = (record { entries = refl; told = refl; rests = λ c a b lt p q. absurd (omega (arith, lt)) }, λ c a b lt p q. absurd (omega (arith, lt)));
  looked = λ c a b lt p q. absurd (omega (arith, lt));
  others = λ c h. refl;
  ready = ready;
}

pub one_turn_more : (n : ℕ) (s t u : Seen) (found r : Round) → HaveTurned n s t found → TurnsAt n t r u → HaveTurned (n + 1) s u (joined found r)
one_turn_more n s t u found r h x =
    let goes = turn_goes_on n t r u x in
    record {
      goes = goes_on_both s t u h.goes goes;
      says = says_more n s t u r x h.others found r h.says x.turns;
      looked = at_more n s t u r x h.others LooksOnce h.looked (looks_once (t.desk.first + n) t x.before x.after u r x.turns);
      others = others_more n s t u r x h.others;
      ready = subst (λ b. IsTrue b) (sym goes.disk.is_ready) h.ready;
    }

-- ---- a whole round

module _ (n : ℕ) (s t : Seen) (all : n ≡ length s.desk.ends) where
  pub at_each : (R : CoreEnds → CoreEnds → Type 0) → AtBelow n R s.desk.ends t.desk.ends → AtEach R s.desk.ends t.desk.ends
  at_each R h c a b p q = let w = slice_get_within s.desk.ends c a p in h c a b (omega (arith, w, all)) p q

  at_one : (R : CoreEnds → CoreEnds → Type 0) → OneBelow n R s.desk.ends t.desk.ends → AtOne R s.desk.ends t.desk.ends
  at_one R y = record { core = y.core; old = y.old; new = y.new; before' = y.before'; after' = y.after'; holds = y.holds }

  made_none : NoneBelow n s t → MadeNone s t
  made_none y = record { entries = y.entries; told = y.told; rests = at_each Rests y.rests }

  pub says_all : (found : Round) → SaysBelow n found s t → Says found s t
  says_all Did h = h
  says_all Quiet h = (made_none h.0, at_each SawNothing h.1)
  says_all NotYet h = (made_none h.0, at_each Waits h.1, at_one LacksRoom h.2)
  says_all ClockFull h = (made_none h.0, at_each (Stops (last_of 0 s.desk.entries)) h.1, at_one (LacksStamp (last_of 0 s.desk.entries)) h.2)
