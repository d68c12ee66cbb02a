-- A running core comes to an end under its journal, of which something is seen, since no entry is still to come; and where it has ended
-- or is idle, that is its end. For `ending`.
-- That a move with nothing to come shows its end goes by the cases of an instruction, of which all but a cancel lead on as with one entry more (`Alike`).
-- That the end is reached is code_safety's; an idle core is one move from it.
use Rattle.std.proofs.Common.{◌≡◌, ℕ, zero, suc, List, [], ◌∷◌, Option, Some, None, IsSome, Bool, true, false, refl, sym, ap, ◌∙◌, subst, arith}
use Rattle.std.specs.Prelude.{find, nat_lt, slice_get, slice_set, is_none, is_some, not, ◌^◌, ◌-◌, if◌then◌else◌}
use Rattle.std.proofs.lemmas.Bool.{and_parts}
use Rattle.std.proofs.lemmas.List.Elements.{All-nil}
use Rattle.ac_base.specs.declared.ends.EndWord.{EndWord}
use Rattle.ac_base.specs.declared.ends.EndWord.TheVariants as word
use Rattle.ac_base.specs.declared.ends.CoreEnd.{CoreEnd}
use Rattle.ac_base.specs.declared.ends.MachineEnd.{MachineEnd}
use Rattle.ac_base.specs.declared.entry.Entry.{Entry}
use Rattle.ac_base.specs.declared.entry.Event.TheVariants as event
use Rattle.work_item.specs.declared.ids.Item.{Item}
use Rattle.work_item.specs.declared.ids.BlockId.{BlockId}
use Rattle.work_item.specs.Store.{cell_at}
use Rattle.cancel_scope.specs.declared.operation.Progress.{Progress}
use Rattle.cancel_scope.specs.declared.operation.Progress.TheVariants as progress
use Rattle.cancel_scope.specs.declared.operation.Operation.{Operation}
use Rattle.cancel_scope.specs.Outstanding.{has_begun}
use Rattle.core_state.specs.Moves.{Move, On, Over, GoesOn, moves, and_then}
use Rattle.core_state.specs.Frames.{block_in}
use Rattle.core_state.specs.Arrivals.{at_point}
use Rattle.core_state.specs.Cancelling.{Fate, by_outcome, decided, is_to_try, tried, tries}
use Rattle.core_state.specs.Shared.{Shared, core_end, with_turn, seen, seen_left}
use Rattle.core_state.proofs.Runs.{GoesOn-more}
use Rattle.stack_code.specs.declared.instr.Instr.{Instr}
use Rattle.stack_code.specs.declared.instr.Instr.TheVariants as i
use Rattle.stack_code.specs.Parts.{Parts}
use Rattle.stack_code.specs.Kept.{IsRanked}
use Rattle.code_meaning.specs.Machine as flat
use Rattle.code_meaning.specs.Machine.{Flat, FlatEnd, Caller, Block, nobody, arrived, begin, exec, exec_of, dispatched, told, with_store, with_shared, or_trap, on_top, on_two, on_three, on_many}
use Rattle.code_meaning.specs.Machine.{one_operand, two_operands, always, text_at, calls, returns, starts, arrives, arrives_in, arrives_at, dies, dies_in, counted_out, block_at, thread_at}
use Rattle.code_meaning.specs.Machine.{first_flat, asks_in, calls_off, counted, is_cancelled, is_inside, marked}
use Rattle.code_safety.specs.Left.{left_to_come}
use Rattle.code_safety.specs.KeptEnds.{KeepsEnds, IsAtEnd, AreAtEnds}
use Rattle.code_safety.proofs.Alike.{Alike, begin_alike, more_to_come}
use Rattle.code_safety.proofs.Beginnings.{ends_from}
use Rattle.code_safety.proofs.OwnEnds.{own_ends}
use Rattle.code_safety.proofs.Waiting.{found_at}
use Rattle.core_machine.specs.declared.ending.Ending.{Ending}
use Rattle.core_machine.specs.declared.running.Running.{Running}
use Rattle.core_machine.specs.Words.{word_of}
use Rattle.core_machine.specs.Points.{operations_of, KeepsOperations}
use Rattle.core_machine.specs.Machine.{ComesToEnd, is_resting, none_ready}
use Rattle.core_machine.specs.State.{flat_of, end_or, machine_of, IsSound}

-- ---- an instruction

-- where no entry is to come, none is after a move, and an end is seen
abbrev Shows : Flat → Move Flat FlatEnd → Type 0
Shows m (On n) = m.shared.todo ≡ [] → n.shared.todo ≡ []
Shows m (Over x) = m.shared.todo ≡ [] → IsSome x.core

-- an entry, whichever it is
any : Entry
any = record { stamp = 0; turn = 0; event = event.Know 0 0 }

module _ (m : Flat) where
  abbrev L : Move Flat FlatEnd → Type 0
  L = Shows m

  same : m.shared.todo ≡ [] → m.shared.todo ≡ []
  same none = none

  shown : (why : EndWord) (idle : Bool) → m.shared.todo ≡ [] → IsSome (seen why idle m.store.globals m.operations m.shared)
  shown why idle k = ap (λ todo. is_some (seen_left why idle m.store.globals m.operations m.shared todo)) k

  -- what leads on just as with an entry still to come
  alike_shows : (a b : Move Flat FlatEnd) → Alike any m a b → L a
  alike_shows (On next) b h = λ none. h.1.todo ∙ none
  alike_shows (Over x) b h = λ none. subst (λ (end : Option CoreEnd). IsSome end) (sym h.0.shows) (shown h.0.word h.0.idle none)

  -- where an entry is to come, nothing is said
  none_shown : (e : Entry) (es : List Entry) → m.shared.todo ≡ e ∷ es → (x : Move Flat FlatEnd) → L x
  none_shown e es is (On n) = λ none. let no : e ∷ es ≡ [] = sym is ∙ none in absurd (cc)
  none_shown e es is (Over x) = λ none. let no : e ∷ es ≡ [] = sym is ∙ none in absurd (cc)

  -- a cancel that asks for an outcome is stalled
  -- By what the cancel tries: nothing, an operation that was not offered, or an offer. Only the last asks for an entry, and there is none: the core is stalled, and that is seen.
  calls_off_shows : (block : BlockId) → L (calls_off m block)
  calls_off_shows block = go (find test m.operations) refl
    where
      tell : Option CoreEnd → FlatEnd
      tell = told (counted m.count)

      test : Operation → Bool
      test = is_to_try (is_inside m block)

      ended : Operation → Shared → Fate → Move Flat FlatEnd
      ended o shared it = On (arrived (marked m block) shared (by_outcome it m.store test m.operations o))

      -- what is tried has not begun
      not_begun : (o : Operation) → find test m.operations ≡ Some o → not (has_begun o.progress) ≡ true
      not_begun o e = (and_parts (is_inside m block o) (not (has_begun o.progress)) (found_at test m.operations o e).passes).1

      by_entry : (o : Operation) (number : ℕ) (todo : List Entry) → m.shared.todo ≡ todo
          → L (decided tell m.shared m.store.globals m.operations o.link number (ended o) todo)
      by_entry o number [] is = shown word.Stalled false
      by_entry o number (e ∷ es) is = none_shown e es is (decided tell m.shared m.store.globals m.operations o.link number (ended o) (e ∷ es))

      by : (o : Operation) (p : Progress) → not (has_begun p) ≡ true → L (tried tell m.shared m.store.globals m.operations o.link p (ended o))
      by o progress.Waiting e = same
      by o (progress.Offered number) e = by_entry o number m.shared.todo refl
      by o (progress.Started number) e = let no : false ≡ true = e in absurd (cc)

      go : (r : Option Operation) → find test m.operations ≡ r
          → L (tries tell m.shared m.store m.operations test (λ shared x. On (arrived (marked m block) shared x)) (flat.goes (marked m block) m.current.operands) r)
      go None e = same
      go (Some o) e = by o o.progress (not_begun o e)

  begin_shows : (code : Parts) (bound : ℕ) (t : Item) (o : Option Instr) → L (begin code bound m t o)
  begin_shows code bound t (Some (i.Cancel level slot)) = calls_off_shows (block_in (cell_at m.store m.current.frame level slot))
  begin_shows code bound t o = alike_shows (begin code bound m t o) (begin code bound (more_to_come any m) t o) (begin_alike any m code bound t o refl)

-- ---- a run with no entry to come

module _ (code : Parts) (bound : ℕ) where
  dispatched_shows : (m : Flat) (ready : List Item) → Shows m (dispatched m ready)
  dispatched_shows m [] = shown m word.Stalled true
  dispatched_shows m (t ∷ ready) = by (nat_lt m.shared.turn (2 ^ 64 - 1))
    where
      by : (b : Bool) → Shows m (if b
          then On (record m { shared = with_turn m.shared; running = Some t; current = thread_at m.threads t; ready = ready; threads = slice_set m.threads t.number nobody })
          else Over (told m.count (seen word.OutOfSteps false m.store.globals m.operations m.shared)))
      by true = same m
      by false = shown m word.OutOfSteps false

  exec_shows : (m : Flat) → m.shared.todo ≡ [] → Shows m (exec code bound m)
  exec_shows m last = by m.running
    where
      by : (o : Option Item) → Shows m (exec_of code bound m o)
      by None = subst (λ todo. Shows m (at_point (told m.count) m.shared m.store m.operations (λ shared x. On (arrived m shared x)) (dispatched m m.ready) todo)) (sym last)
          (dispatched_shows m m.ready)
      by (Some t) = begin_shows m code bound t (slice_get code.instrs m.current.place)

  seen_at_end : (k : ℕ) (m : Flat) (end : FlatEnd) → m.shared.todo ≡ [] → moves (exec code bound) k m ≡ Over end → IsSome end.core
  seen_at_end zero m end last h = let no : On m ≡ Over end = h in absurd (cc)
  seen_at_end (suc k) m end last h = go (λ n l r. seen_at_end k n end l r) (exec code bound m) (exec_shows m last) h
    where
      go : ((n : Flat) → n.shared.todo ≡ [] → moves (exec code bound) k n ≡ Over end → IsSome end.core) → (a : Move Flat FlatEnd) → Shows m a
          → and_then a (moves (exec code bound) k) ≡ Over end → IsSome end.core
      go later (On n) l h = later n (l last) h
      go later (Over x) l h =
          let is : x ≡ end = let over : Over x ≡ Over end = h in cc in
          subst (λ (y : FlatEnd). IsSome y.core) is (l last)

  further : (k j : ℕ) (s : Flat) (e : FlatEnd) (a : Move Flat FlatEnd) → and_then a (moves (exec code bound) k) ≡ On s → moves (exec code bound) j s ≡ Over e
      → (i : ℕ) × (and_then a (moves (exec code bound) i) ≡ Over e)
  further k j s e (Over x) h r = let no : Over x ≡ On s = h in absurd (cc)
  further zero j s e (On m) h r =
      let same : m ≡ s = let both : On m ≡ On s = h in cc in
      (j, ap (moves (exec code bound) j) same ∙ r)
  further (suc k) j s e (On m) h r = let rest = further k j s e (exec code bound m) h r in (suc rest.0, rest.1)

  -- a run to a state from which the moves come to an end
  ends_later : (a : Move Flat FlatEnd) (s : Flat) (e : FlatEnd) (j : ℕ) → GoesOn (exec code bound) a (On s) → moves (exec code bound) j s ≡ Over e → GoesOn (exec code bound) a (Over e)
  ends_later a s e j run r = let all = further run.0 j s e a (sym run.1) r in (all.0, sym all.1)

  -- ---- an idle core

  nobody_runs : (o : Option Item) → is_none o ≡ true → o ≡ None
  nobody_runs None h = refl
  nobody_runs (Some t) h = let no : false ≡ true = h in absurd (cc)

  nobody_waits : (ready : List Item) → none_ready ready ≡ true → ready ≡ []
  nobody_waits [] h = refl
  nobody_waits (t ∷ ready) h = let no : false ≡ true = h in absurd (cc)

  abbrev stalled : Flat → FlatEnd
  stalled m = told m.count (Some (core_end word.Stalled true m.store.globals m.operations m.shared))

  idle_ends : (m : Flat) → m.shared.todo ≡ [] → is_resting m ≡ true → exec code bound m ≡ Over (stalled m)
  idle_ends m last h =
      let parts = and_parts (is_none m.running) (none_ready m.ready) h in
      ap (exec_of code bound m) (nobody_runs m.running parts.0)
      ∙ ap (λ todo. at_point (told m.count) m.shared m.store m.operations (λ shared x. On (arrived m shared x)) (dispatched m m.ready) todo) last
      ∙ ap (dispatched m) (nobody_waits m.ready parts.1)
      ∙ ap (λ todo. Over (told m.count (seen_left word.Stalled true m.store.globals m.operations m.shared todo))) last

-- ---- a machine

seen_end : (x : FlatEnd) → IsSome x.core → (end : MachineEnd) × (x ≡ told end.instructions (Some end.core))
seen_end x some = by x.core refl some
  where
    by : (o : Option CoreEnd) → x.core ≡ o → IsSome o → (end : MachineEnd) × (x ≡ told end.instructions (Some end.core))
    by None e h = let no : false ≡ true = h in absurd (cc)
    by (Some core) e h = (record { core = core; instructions = x.count }, ap (told x.count) e)

module _ (r : Running) (sound : IsSound r) (ranks : List ℕ) (ranked : IsRanked r.code.now ranks) where
  abbrev code : Parts
  code = r.code.now

  abbrev m : Flat
  m = flat_of r

  abbrev first : Move Flat FlatEnd
  first = first_flat code r.core sound.ran.function r.journal.entries

  run_to : (o : Option Ending) → r.ended ≡ o → GoesOn (exec code r.bound) first (end_or m o)
  run_to o e = subst (λ x. GoesOn (exec code r.bound) first (end_or m x)) e sound.ran.goes

  abbrev Comes : Option Ending → Type 0
  Comes o = ComesToEnd (record (machine_of r) { state = end_or m o })

  resting_comes : (b : Bool) → is_resting m ≡ b → r.ended ≡ None → Comes None
  resting_comes true h e = record {
    end = record { core = core_end word.Stalled true m.store.globals m.operations m.shared; instructions = m.count };
    comes = record {
      function = sound.ran.function;
      begins = sound.ran.begins;
      comes = subst (GoesOn (exec code r.bound) first) (idle_ends code r.bound m refl h) (GoesOn-more (exec code r.bound) first m (run_to None e));
    };
    seen = λ _. (ap (λ idle. core_end word.Stalled idle m.store.globals m.operations m.shared) h, refl);
    busy = λ ended. let no : false ≡ true = ended in absurd (cc);
  }
  resting_comes false h e =
      let on = ends_from code r.bound sound.valid ranks ranked (suc (left_to_come ranks r.bound m)) m (sound.fit e) (omega arith) in
      let end = seen_end on.0 (seen_at_end code r.bound on.1.0 m on.0 refl on.1.1) in
      record {
        end = end.0;
        comes = record {
          function = sound.ran.function;
          begins = sound.ran.begins;
          comes = subst (λ x. GoesOn (exec code r.bound) first (Over x)) end.1 (ends_later code r.bound first m on.0 on.1.0 (run_to None e) on.1.1);
        };
        seen = λ stopped. let no : false ≡ true = sym h ∙ stopped in absurd (cc);
        busy = λ ended. let no : false ≡ true = ended in absurd (cc);
      }

  comes : (o : Option Ending) → r.ended ≡ o → Comes o
  comes None e = resting_comes (is_resting m) refl e
  comes (Some ending) e = record {
    end = record { core = core_end (word_of ending) false m.store.globals m.operations m.shared; instructions = m.count };
    comes = record { function = sound.ran.function; begins = sound.ran.begins; comes = run_to (Some ending) e };
    seen = λ _. (refl, refl);
    busy = λ ended. refl;
  }

  pub comes_to_end : ComesToEnd (machine_of r)
  comes_to_end = comes r.ended refl

  -- ---- the operations of a core whose code keeps its ends

  at_ends : KeepsEnds code → (o : Option Ending) → r.ended ≡ o → AreAtEnds code r.core (operations_of (end_or m o))
  at_ends keeps None e = own_ends code sound.valid keeps r.core sound.ran.function sound.ran.begins ranks ranked r.bound r.journal.entries m (run_to None e)
  at_ends keeps (Some ending) e = All-nil (λ (o : Operation). IsAtEnd code r.core o.link o.asked)

  pub keeps_own_ends : KeepsOperations (machine_of r)
  keeps_own_ends keeps = at_ends keeps r.ended refl
