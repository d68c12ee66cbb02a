-- A core goes on to where an entry may come in; and where it comes to no such place, no run goes on with the entry. While the core passes the
-- turn by, the run under its journal is also the run under the journal with this entry, so the two part only where the entry would come in.
use Rattle.std.proofs.Common.{◌≡◌, ℕ, zero, suc, ◌≤◌, ◌<◌, List, [], ◌∷◌, ◌++◌, Option, Some, None, Result, Ok, Err, Bool, true, false, refl, sym, ap, ◌∙◌, subst, arith}
use Rattle.std.specs.Prelude.{is_none, replicate}
use Rattle.std.proofs.lemmas.Bool.{and_parts}
use Rattle.ac_base.specs.declared.ends.EndWord.TheVariants as word
use Rattle.ac_base.specs.declared.ends.Trap.{Trap}
use Rattle.ac_base.specs.declared.entry.Entry.{Entry}
use Rattle.work_item.specs.declared.ids.Item.{Item}
use Rattle.work_item.specs.Store.{Store, no_int}
use Rattle.core_state.specs.Moves.{Move, On, Over, GoesOn}
use Rattle.core_state.specs.Arrivals.{at_point}
use Rattle.core_state.specs.Frames.{begun, first_store}
use Rattle.core_state.specs.Shared.{begins_with, seen_left}
use Rattle.core_state.proofs.Runs.{GoesOn-none}
use Rattle.stack_code.specs.declared.parts.Entered.{Entered}
use Rattle.stack_code.specs.Parts.{Parts, Begins}
use Rattle.code_meaning.specs.Machine.{Flat, FlatEnd, arrived, dispatched, exec, exec_of, first_core, first_flat, first_globals, shared_at_first, told}
use Rattle.core_machine.specs.Machine.{IsFirst, IsOnItsWay, IsSameCore, Machine, has_ended, is_idle, is_resting, none_ready}
use Rattle.core_machine.specs.Points.{IsInTurn, IsOfTurn}
use Rattle.replay_laws.specs.Given.{HasRun, Passes, last_turn, passes_by, passes_first}
use Rattle.replay_laws.proofs.Refusals.{Beside, exec_beside, misfit_at_end, no_run}
use Rattle.replay_laws.proofs.Turns.{misfit_when_late}
use Rattle.core_replay.specs.Standing.{StandsAt}
use Rattle.core_replay.specs.inner.Replaying.{Awaits, IsSameOne, Takes}
use Rattle.core_replay.proofs.Coming.{refused_takes, turn_there}

-- ---- whether it has ended

pub still_on : (m : Machine) → has_ended m.state ≡ false → (flat : Flat) × (m.state ≡ On flat)
still_on m h = by m.state refl h
  where
    by : (s : Move Flat FlatEnd) → m.state ≡ s → has_ended s ≡ false → (flat : Flat) × (m.state ≡ On flat)
    by (On flat) is h = (flat, is)
    by (Over x) is h = let no : true ≡ false = h in absurd (cc)

pub now_over : (m : Machine) → has_ended m.state ≡ true → (x : FlatEnd) × (m.state ≡ Over x)
now_over m h = by m.state refl h
  where
    by : (s : Move Flat FlatEnd) → m.state ≡ s → has_ended s ≡ true → (x : FlatEnd) × (m.state ≡ Over x)
    by (On flat) is h = let no : false ≡ true = h in absurd (cc)
    by (Over x) is h = (x, is)

-- ---- one that is over before its first step takes no entry

no_on : (m : Flat) (x : FlatEnd) → On m ≡ Over x → ⊥
no_on m x h = cc

module _ (code : Parts) (core bound : ℕ) (journal : List Entry) (e : Entry) (function : Entered) (b : Begins code core function) where
  abbrev start : Result Store Trap
  start = begun (first_store (first_globals code)) None (replicate function.words no_int)

  abbrev first : List Entry → Result Store Trap → Move Flat FlatEnd
  first es r = begins_with (told 0) (first_globals code) (shared_at_first code core es) r (λ store. On (first_core function (shared_at_first code core es) store))

  unseen : (es : List Entry) (trap : Trap) → seen_left (word.Trapped trap) false (first_globals code) [] (shared_at_first code core (es ++ e ∷ [])) (es ++ e ∷ []) ≡ None
  unseen [] trap = refl
  unseen (f ∷ fs) trap = refl

  first_misfit : (x : FlatEnd) → first_flat code core function journal ≡ Over x → HasRun code core bound (journal ++ e ∷ []) → ⊥
  first_misfit x over = by start refl
    where
      by : (r : Result Store Trap) → start ≡ r → HasRun code core bound (journal ++ e ∷ []) → ⊥
      by (Ok store) is = absurd (no_on (first_core function (shared_at_first code core journal) store) x (sym (ap (first journal) is) ∙ over))
      by (Err trap) is =
          no_run code core bound (journal ++ e ∷ []) function
          (told 0 (seen_left (word.Trapped trap) false (first_globals code) [] (shared_at_first code core (journal ++ e ∷ [])) (journal ++ e ∷ []))) b
          (subst (GoesOn (exec code bound) (first_flat code core function (journal ++ e ∷ []))) (ap (first (journal ++ e ∷ [])) is)
          (GoesOn-none (exec code bound) (first_flat code core function (journal ++ e ∷ [])))) (unseen journal trap)

pub over_takes : (m : Machine) (e : Entry) → StandsAt m m.state → has_ended m.state ≡ true → Takes m e false m
over_takes m e stands h =
    let over = now_over m h in
    let first : IsFirst m = subst (StandsAt m) over.1 stands in
    refused_takes m m e refl (first_misfit m.code m.core m.bound m.journal e first.function first.begins over.0 (sym first.state ∙ over.1))

-- ---- nor does one that is past the turn of the entry

pub late_takes : (m : Machine) (e : Entry) (turn : ℕ) → StandsAt m m.state → has_ended m.state ≡ false → IsOfTurn m turn → e.turn < turn → Takes m e false m
late_takes m e turn stands h now low =
    let on = still_on m h in
    let at : on.0.shared.turn ≡ last_turn 0 m.journal = subst (StandsAt m) on.1 stands in
    let own = turn_there m turn on.0 now on.1 in
    refused_takes m m e refl (misfit_when_late m.code m.core m.bound m.journal e (omega (arith, at, own, low)))

pub awaits_first : (m : Machine) (e : Entry) (turn : ℕ) → has_ended m.state ≡ false → IsOnItsWay m → IsOfTurn m turn → turn ≤ e.turn → Awaits m e.turn
awaits_first m e turn h run now le =
    let on = still_on m h in
    let all : (on.0.shared.turn ≡ turn) × ((on.0.shared.past ≡ m.journal) × (on.0.shared.todo ≡ [])) = subst (λ (s : Move Flat FlatEnd). IsInTurn m.journal turn s) on.1 now in
    let own = all.0 in
    record {
      flat = on.0;
      is = on.1;
      come = record {
        function = run.function;
        begins = run.begins;
        goes = subst (GoesOn (exec m.code m.bound) (first_flat m.code m.core run.function m.journal)) on.1 run.goes;
        past = all.1.0;
        todo = all.1.1;
      };
      le = omega (arith, own, le);
    }

-- ---- what comes of the entry, when the core has gone on under the same journal

pub since : (before m after : Machine) (e : Entry) (took : Bool) → IsSameOne before m → m.journal ≡ before.journal → Takes m e took after → Takes before e took after
since before m after e took same journal t = record {
  entered = λ h. t.entered h ∙ ap (λ (es : List Entry). es ++ e ∷ []) journal;
  stands = t.stands;
  stays = λ h. t.stays h ∙ journal;
  misfit = λ h r. t.misfit h (subst (λ (es : List Entry). HasRun m.code m.core m.bound (es ++ e ∷ [])) (sym journal)
      (subst (λ (n : ℕ). HasRun m.code m.core n (before.journal ++ e ∷ [])) (sym same.bound)
      (subst (λ (n : ℕ). HasRun m.code n before.bound (before.journal ++ e ∷ [])) (sym same.core)
      (subst (λ (code : Parts). HasRun code before.core before.bound (before.journal ++ e ∷ [])) (sym same.code) r))));
}

pub same_since : (before m after : Machine) → IsSameOne before m → IsSameCore m after → IsSameOne before after
same_since before m after same on = record { code = on.code ∙ same.code; core = on.core ∙ same.core; bound = on.bound ∙ same.bound }

-- ---- moves before none of which it could come in

record StaysWith (m n : Flat) : Type 0 where
  past : n.shared.past ≡ m.shared.past
  todo : n.shared.todo ≡ m.shared.todo

module _ (code : Parts) (bound : ℕ) (e : Entry) where
  over_stays : (k : ℕ) (x : FlatEnd) (n : Flat) → Passes code bound e.turn k (Over x) (On n) → ⊥
  over_stays zero x n p = no_on n x p
  over_stays (suc k) x n p = no_on n x p

  abbrev on_of : Flat → Move Flat FlatEnd
  on_of flat = On flat

  same_on : (m n : Flat) → on_of n ≡ on_of m → n ≡ m
  same_on m n h = cc

  passes_stay : (k : ℕ) (m n : Flat) → m.shared.todo ≡ [] → m.shared.turn ≤ e.turn → Passes code bound e.turn k (On m) (On n) → StaysWith m n × (n.shared.turn ≤ e.turn)
  passes_stay zero m n none le p =
      let same = same_on m n p in
      (record { past = ap (λ (f : Flat). f.shared.past) same; todo = ap (λ (f : Flat). f.shared.todo) same }, subst (λ (f : Flat). f.shared.turn ≤ e.turn) (sym same) le)
  passes_stay (suc k) m n none le p = by (exec code bound m) _ (exec_beside code bound e m none p.0) p.1 (λ next l r q. passes_stay k next n l r q)
    where
      by : (a r : Move Flat FlatEnd) → Beside e m a r → Passes code bound e.turn k a (On n)
          → ((next : Flat) → next.shared.todo ≡ [] → next.shared.turn ≤ e.turn → Passes code bound e.turn k (On next) (On n) → StaysWith next n × (n.shared.turn ≤ e.turn))
          → StaysWith m n × (n.shared.turn ≤ e.turn)
      by (On next) r b q again =
          let rest = again next (b.todo ∙ none) (b.turn le) q in
          (record { past = rest.0.past ∙ b.past; todo = rest.0.todo ∙ b.todo }, rest.1)
      by (Over z) r b q again = absurd (over_stays k z n q)

module _ (m : Machine) (e : Entry) (a : Awaits m e.turn) where
  -- the core has gone on
  pub awaits_next : (n : Machine) → IsSameCore m n → IsOnItsWay n → has_ended n.state ≡ false → (k : ℕ) × Passes m.code m.bound e.turn k m.state n.state → Awaits n e.turn
  awaits_next n same run h p =
      let on = still_on n h in
      let there = subst (λ (s : Move Flat FlatEnd). Passes m.code m.bound e.turn p.0 m.state s) on.1 p.1 in
      let here = subst (λ (s : Move Flat FlatEnd). Passes m.code m.bound e.turn p.0 s (On on.0)) a.is there in
      let stays = passes_stay m.code m.bound e p.0 a.flat on.0 a.come.todo a.le here in
      record {
        flat = on.0;
        is = on.1;
        come = record {
          function = run.function;
          begins = run.begins;
          goes = subst (GoesOn (exec n.code n.bound) (first_flat n.code n.core run.function n.journal)) on.1 run.goes;
          past = stays.0.past ∙ a.come.past ∙ sym same.journal;
          todo = stays.0.todo ∙ a.come.todo;
        };
        le = stays.1;
      }

  -- it has ended before
  pub ends_before : (n : Machine) → has_ended n.state ≡ true → (k : ℕ) × Passes m.code m.bound e.turn k m.state n.state → HasRun m.code m.core m.bound (m.journal ++ e ∷ []) → ⊥
  ends_before n h p =
      let over = now_over n h in
      let there = subst (λ (s : Move Flat FlatEnd). Passes m.code m.bound e.turn p.0 m.state s) over.1 p.1 in
      misfit_at_end m.code m.core m.bound m.journal e a.flat a.come a.le p.0 over.0 (subst (λ (s : Move Flat FlatEnd). Passes m.code m.bound e.turn p.0 s (Over over.0)) a.is there)

  -- or is idle
  pub idles_before : is_idle m.state ≡ true → passes_first m.code e.turn m.state ≡ true → HasRun m.code m.core m.bound (m.journal ++ e ∷ []) → ⊥
  idles_before idle first =
      let x = idle_over m.code m.bound a.flat a.come.todo (subst (λ (s : Move Flat FlatEnd). is_idle s ≡ true) a.is idle) in
      let past : passes_by m.code e.turn a.flat ≡ true = subst (λ (s : Move Flat FlatEnd). passes_first m.code e.turn s ≡ true) a.is first in
      misfit_at_end m.code m.core m.bound m.journal e a.flat a.come a.le (suc zero) x.0 (past, sym x.1)
    where
      nobody : (o : Option Item) → is_none o ≡ true → o ≡ None
      nobody None h = refl
      nobody (Some t) h = let no : false ≡ true = h in absurd (cc)

      none : (ready : List Item) → none_ready ready ≡ true → ready ≡ []
      none [] h = refl
      none (t ∷ ready) h = let no : false ≡ true = h in absurd (cc)

      idle_over : (code : Parts) (bound : ℕ) (flat : Flat) → flat.shared.todo ≡ [] → is_resting flat ≡ true → (x : FlatEnd) × (exec code bound flat ≡ Over x)
      idle_over code bound flat last h =
          let parts = and_parts (is_none flat.running) (none_ready flat.ready) h in (
            told flat.count (seen_left word.Stalled true flat.store.globals flat.operations flat.shared flat.shared.todo),
            ap (exec_of code bound flat) (nobody flat.running parts.0)
                ∙ ap (λ (todo : List Entry). at_point (told flat.count) flat.shared flat.store flat.operations (λ shared x. On (arrived flat shared x)) (dispatched flat flat.ready) todo) last
                ∙ ap (dispatched flat) (none flat.ready parts.1),
          )
