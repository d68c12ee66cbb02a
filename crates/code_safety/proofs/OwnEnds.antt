-- The code of a core that keeps its ends starts operations at the core's own ends alone, and each that has not ended is at one of them.
-- By induction on the moves of a run: what is started is named by an instruction that the core reaches (EachAs), on a channel whose end it
-- has or on its own link of requests; what comes in only changes or ends operations that are there.
use Rattle.core_state.specs.Messages.{message_in}
use Rattle.std.proofs.Common.{◌≡◌, ℕ, zero, suc, ◌<◌, List, [], ◌∷◌, ◌++◌, length, Option, Some, None, Bool, true, false, refl, sym, ◌∙◌, subst}
use Rattle.std.specs.Prelude.{◌^◌, ◌-◌, ℤ, All, find, slice_get, slice_set, nat_eq, nat_lt, replicate, if◌then◌else◌}
use Rattle.std.proofs.lemmas.List.Elements.{All-nil, All-push}
use Rattle.std.proofs.lemmas.Option.{slice_get_within}
use Rattle.ac_base.specs.declared.entry.Entry.{Entry}
use Rattle.ac_base.specs.declared.ends.EndWord.TheVariants as word
use Rattle.work_item.specs.declared.ids.Item.{Item}
use Rattle.work_item.specs.declared.ids.BlockId.{BlockId}
use Rattle.work_item.specs.declared.cell.Cell.{Cell}
use Rattle.work_item.specs.declared.cell.Cell.TheVariants as cell
use Rattle.work_item.specs.declared.cell.Place.{Place}
use Rattle.work_item.specs.Store.{cell_at, int_in, place_in, no_int}
use Rattle.cancel_scope.specs.declared.operation.Asked.{Asked}
use Rattle.cancel_scope.specs.declared.operation.Asked.TheVariants as asked
use Rattle.cancel_scope.specs.declared.operation.Operation.{Operation}
use Rattle.cancel_scope.specs.declared.operation.Progress.{Progress}
use Rattle.cancel_scope.specs.declared.operation.Progress.TheVariants.{Waiting, Offered, Started}
use Rattle.cancel_scope.specs.Outstanding.{started, is_request, as_begun, change_first, without_first}
use Rattle.core_state.specs.Moves.{Move, On, Over, and_then, moves, GoesOn}
use Rattle.core_state.specs.Arrivals as arrivals
use Rattle.core_state.specs.Arrivals.{Arrival, at_point, comes_in}
use Rattle.core_state.specs.Cancelling.{Fate, NeverHappens, IsTaken, by_outcome, outcome, goes_by, decided, tried, tries, is_to_try}
use Rattle.core_state.specs.Frames.{first_store, has_words, block_in}
use Rattle.core_state.specs.Shared.{Shared, with_entry, with_turn, seen}
use Rattle.core_state.specs.Requests.{bytes_at, first_of, if_in_range}
use Rattle.stack_code.specs.declared.instr.Instr.{Instr}
use Rattle.stack_code.specs.declared.instr.Instr.TheVariants as i
use Rattle.stack_code.specs.declared.parts.Entered.{Entered}
use Rattle.stack_code.specs.Parts.{Parts, Begins}
use Rattle.stack_code.specs.Valid.{IsValid}
use Rattle.stack_code.specs.Kept.{IsRanked}
use Rattle.code_meaning.specs.Machine.{Flat, FlatEnd, counted, goes, is_inside, marked, calls_off, arrived, resumed, begin, exec, exec_of, dispatched, told, asks, on_top, on_three}
use Rattle.code_meaning.specs.Machine.{operates, requests, nobody}
use Rattle.code_meaning.specs.Machine.{thread_at, shared_at_first, first_flat, first_globals}
use Rattle.code_safety.specs.Fit.{IsFit}
use Rattle.code_safety.specs.Left as weight
use Rattle.code_safety.specs.KeptEnds.{ReachesInstr, KeepsEnds, IsOwnLink, IsAtEnd, AreAtEnds, each_as, KeepsOwnEnds}
use Rattle.code_safety.proofs.Arriving.{Comes, offered, known, begun, answered, received, passed, comes_of}
use Rattle.code_safety.proofs.Beginnings.{first_fit}
use Rattle.code_safety.proofs.EachAs.{valid_too, ranked_too, begins_too, reached_instr}
use Rattle.code_safety.proofs.Moving.{moves_on}
use Rattle.code_safety.proofs.NoEntries.{Leaves, begin_leaves}
use Rattle.code_safety.proofs.Own.{thread_of}
use Rattle.code_safety.proofs.Plain.{Onward, on_both, on_each, asks_on, trap_on}
use Rattle.code_safety.proofs.Transfers.{range_is}
use Rattle.code_safety.proofs.Waiting.{IsFound, found_at, all_others, one_of_all, all_between}

module _ (code : Parts) (keeps : KeepsEnds code) (core bound : ℕ) (lt : core < length code.entries) (m : Flat) (s : KeepsOwnEnds code core m) where
  abbrev At : Operation → Type 0
  At o = IsAtEnd code core o.link o.asked

  abbrev Ended : Flat → Type 0
  Ended n = AreAtEnds code core n.operations × IsOwnLink code core n.shared.requests

  stays : AreAtEnds code core m.operations × IsOwnLink code core m.shared.requests
  stays = (s.operations, s.requests)

  -- ---- an instruction

  -- the thread that runs is where the core comes to
  reached_here : (t : Item) (instr : Instr) → m.running ≡ Some t → slice_get code.instrs m.current.place ≡ Some instr → ReachesInstr code core instr
  reached_here t instr run here =
      let h = thread_of (each_as code core) m s.fit t run in
      reached_instr code core lt m.current.place h.shape instr h.top.reached here

  one_more : (t : Item) (link : ℕ) (a : Asked) (below : List Cell) → IsAtEnd code core link a → Ended (operates m t link a below)
  one_more t link a below h = (All-push At m.operations (started link a t) s.operations h, s.requests)

  starts : (t : Item) (link : ℕ) (a : Asked) (below : List Cell) → IsAtEnd code core link a → Onward Ended (asks m t link a below)
  starts t link a below h = asks_on Ended m t link a below stays (one_more t link a below h)

  -- where there is no operand, nothing is started
  topped : (go : Cell → List Cell → Move Flat FlatEnd) (operands : List Cell) → ((x : Cell) (below : List Cell) → Onward Ended (go x below)) → Onward Ended (on_top m go operands)
  topped go [] h = stays
  topped go (x ∷ below) h = h x below

  three_topped : (go : Cell → Cell → Cell → List Cell → Move Flat FlatEnd) (operands : List Cell) → ((x y z : Cell) (below : List Cell) → Onward Ended (go x y z below))
      → Onward Ended (on_three m go operands)
  three_topped go [] h = stays
  three_topped go (x ∷ []) h = stays
  three_topped go (y ∷ x ∷ []) h = stays
  three_topped go (z ∷ y ∷ x ∷ below) h = h x y z below

  -- a request is started on the core's own link
  requested : (t : Item) (x y : ℤ) (array : Place) (ask : ℕ → Place → Asked) (below : List Cell) → ((from : ℕ) (elements : Place) → IsAtEnd code core m.shared.requests (ask from elements))
      → Onward Ended (requests m t (if_in_range array x y ask) below)
  requested t x y array ask below own = trap_on Ended m (if_in_range array x y ask) (λ a. asks m t m.shared.requests a below)
      (λ a e.
      let r = range_is array x y ask a e in
      starts t m.shared.requests a below (subst (IsAtEnd code core m.shared.requests) r.1.1.1 (own r.0 (first_of array r.1.0))))

  left : (x : Move Flat FlatEnd) → Leaves m x → Onward Ended x
  left (On n) l = (subst (AreAtEnds code core) (sym l.0) s.operations, l.1.1.1 ∙ s.requests)
  left (Over e) l = tt

  woken : (x : Arrival) (n : Flat) (o : Option Item) → n.operations ≡ x.operations → AreAtEnds code core x.operations → IsOwnLink code core n.shared.requests
      → Ended (resumed n (cell.Int x.value) o)
  woken x n None e h own = (subst (AreAtEnds code core) (sym e) h, own)
  woken x n (Some t) e h own = (subst (AreAtEnds code core) (sym e) h, own)

  -- what a cancel leaves were there before
  module _ (block : BlockId) where
    abbrev inside : Operation → Bool
    inside = is_to_try (is_inside m block)

    abbrev made : Fate → Operation → Arrival
    made it o = by_outcome it m.store inside m.operations o

    made_at : (o : Operation) → find inside m.operations ≡ Some o → (it : Fate) → AreAtEnds code core (made it o).operations
    made_at o e it = by it
      where
        f : IsFound inside m.operations o
        f = found_at inside m.operations o e

        all : All At (f.front ++ o ∷ f.back)
        all = subst (All At) f.is s.operations

        others : All At (f.front ++ f.back)
        others = all_others At f.back o f.front all

        taken : (b : Bool) → AreAtEnds code core
            (if b then arrivals.goes_on_waiting m.store (change_first inside as_begun m.operations) else arrivals.has_ended m.store (without_first inside m.operations) o).operations
        taken true = subst (AreAtEnds code core) (sym (f.changed as_begun)) (all_between At f.back (as_begun o) f.front others (one_of_all At f.back o f.front all))
        taken false = subst (AreAtEnds code core) (sym f.without) others

        by : (it : Fate) → AreAtEnds code core (made it o).operations
        by NeverHappens = subst (AreAtEnds code core) (sym f.without) others
        by IsTaken = taken (is_request o.asked)

    tried_so : (o : Operation) → find inside m.operations ≡ Some o → (shared : Shared) (it : Fate) → IsOwnLink code core shared.requests
        → Ended (arrived (marked m block) shared (made it o))
    tried_so o e shared it own =
        let x = made it o in
        woken x (record (marked m block) { shared = shared; store = x.store; operations = x.operations }) x.woken refl (made_at o e it) own

    decided_at : (o : Operation) → find inside m.operations ≡ Some o → (number : ℕ) (todo : List Entry) → Onward Ended
        (decided (told (counted m.count)) m.shared m.store.globals m.operations o.link number (λ shared it. On (arrived (marked m block) shared (made it o))) todo)
    decided_at o e number [] = tt
    decided_at o e number (y ∷ ys) = go (nat_eq y.turn m.shared.turn) (outcome o.link number y.event)
      where
        by : (r : Option Fate) → Onward Ended (goes_by (told (counted m.count)) (λ it. On (arrived (marked m block) (with_entry m.shared y ys) (made it o))) r)
        by None = tt
        by (Some it) = tried_so o e (with_entry m.shared y ys) it s.requests

        go : (b : Bool) (r : Option Fate) → Onward Ended
            (if b then goes_by (told (counted m.count)) (λ it. On (arrived (marked m block) (with_entry m.shared y ys) (made it o))) r else Over (told (counted m.count) None))
        go true r = by r
        go false r = tt

    tried_at : (o : Operation) → find inside m.operations ≡ Some o → (p : Progress) → Onward Ended
        (tried (told (counted m.count)) m.shared m.store.globals m.operations o.link p (λ shared it. On (arrived (marked m block) shared (made it o))))
    tried_at o e Waiting = tried_so o e m.shared NeverHappens s.requests
    tried_at o e (Offered number) = decided_at o e number m.shared.todo
    tried_at o e (Started number) = tt

    called_off : Onward Ended (calls_off m block)
    called_off = go (find inside m.operations) refl
      where
        go : (r : Option Operation) → find inside m.operations ≡ r → Onward Ended
            (tries (told (counted m.count)) m.shared m.store m.operations inside (λ shared x. On (arrived (marked m block) shared x)) (goes (marked m block) m.current.operands) r)
        go None e = stays
        go (Some o) e = tried_at o e o.progress

  starts_at : (t : Item) (instr : Instr) → m.running ≡ Some t → slice_get code.instrs m.current.place ≡ Some instr → Onward Ended (begin code bound m t (Some instr))
  starts_at t (i.Send channel) run here =
      let own = keeps.sends core channel (reached_here t (i.Send channel) run here) in
      topped _ m.current.operands (λ x below. starts t channel (asked.Send (message_in m.store x)) below own)
  starts_at t (i.Recv channel) run here =
      let own = keeps.receives core channel (reached_here t (i.Recv channel) run here) in
      topped _ m.current.operands (λ x below. starts t channel (asked.Recv (place_in x)) below own)
  starts_at t (i.Cancel level slot) run here = called_off (block_in (cell_at m.store m.current.frame level slot))
  starts_at t (i.Read file) run here =
      three_topped _ m.current.operands (λ x y z below. requested t (int_in x) (int_in y) (place_in z) (λ from elements. asked.Read file from elements) below (λ from elements. s.requests))
  starts_at t (i.Write file) run here =
      three_topped _ m.current.operands (λ x y z below. requested t (int_in x) (int_in y) (place_in z) (λ from elements. asked.Write file from (bytes_at m.store elements)) below
      (λ from elements. s.requests))
  starts_at t instr run here = left (begin code bound m t (Some instr)) (begin_leaves m code bound t instr refl)

  begins_with : (t : Item) (o : Option Instr) → m.running ≡ Some t → slice_get code.instrs m.current.place ≡ o → Onward Ended (begin code bound m t o)
  begins_with t None run here = stays
  begins_with t (Some instr) run here = starts_at t instr run here

  -- ---- a dispatch point

  -- what comes in is about operations that are there
  after : (x : Arrival) → Comes m.store m.operations x → AreAtEnds code core x.operations
  after _ (offered front back o number is waits) = let all = subst (All At) is s.operations in all_between At back _ front (all_others At back o front all) (one_of_all At back o front all)
  after _ (known front back o is other) = all_others At back o front (subst (All At) is s.operations)
  after _ (begun front back o number is request offer) =
      let all = subst (All At) is s.operations in all_between At back _ front (all_others At back o front all) (one_of_all At back o front all)
  after _ (answered front back o answer is) = all_others At back o front (subst (All At) is s.operations)
  after _ (received front back o place value is asks) = all_others At back o front (subst (All At) is s.operations)
  after _ passed = s.operations

  dispatches : (ready : List Item) → Onward Ended (dispatched m ready)
  dispatches [] = tt
  dispatches (t ∷ ready) = go (nat_lt m.shared.turn (2 ^ 64 - 1)) (told m.count (seen word.OutOfSteps false m.store.globals m.operations m.shared))
    where
      go : (b : Bool) (end : FlatEnd)
          → Onward Ended (if b then On
          (record m { shared = with_turn m.shared; running = Some t; current = thread_at m.threads t; ready = ready; threads = slice_set m.threads t.number nobody }) else Over end)
      go true end = stays
      go false end = tt

  enters : (e : Entry) (es : List Entry) (o : Option Arrival) → arrivals.arrives m.shared.past m.store m.operations e.event ≡ o
      → Onward Ended (comes_in (told m.count) (λ x. On (arrived m (with_entry m.shared e es) x)) o)
  enters e es None k = tt
  enters e es (Some x) k =
      woken x (record m { shared = with_entry m.shared e es; store = x.store; operations = x.operations }) x.woken refl (after x (comes_of m.store m.operations x m.shared.past e.event k)) s.requests

  at_rest : (todo : List Entry) → Onward Ended (at_point (told m.count) m.shared m.store m.operations (λ shared x. On (arrived m shared x)) (dispatched m m.ready) todo)
  at_rest [] = dispatches m.ready
  at_rest (e ∷ es) = go (nat_eq e.turn m.shared.turn)
    where
      go : (b : Bool) → Onward Ended
          (if b
          then comes_in (told m.count) (λ x. On (arrived m (with_entry m.shared e es) x)) (arrivals.arrives m.shared.past m.store m.operations e.event)
          else dispatched m m.ready)
      go true = enters e es (arrivals.arrives m.shared.past m.store m.operations e.event) refl
      go false = dispatches m.ready

  -- ---- a move

  ends_on : Onward Ended (exec code bound m)
  ends_on = go m.running refl
    where
      go : (o : Option Item) → m.running ≡ o → Onward Ended (exec_of code bound m o)
      go None e = at_rest m.shared.todo
      go (Some t) e = begins_with t (slice_get code.instrs m.current.place) e refl

  module _ (v : IsValid code) (ranks : List ℕ) (ranked : IsRanked code ranks) where
    -- a state in which a core keeps its own ends leads to such a state
    pub keeps_on : Onward (KeepsOwnEnds code core) (exec code bound m)
    keeps_on =
        on_each (λ n. IsFit (each_as code core) n × Ended n) (KeepsOwnEnds code core) (exec code bound m) (λ n h. record { fit = h.0; requests = h.1.1; operations = h.1.0 })
        (on_both (IsFit (each_as code core)) Ended (exec code bound m)
        (on_each (λ n. IsFit (each_as code core) n × (weight.left_to_come ranks bound n < weight.left_to_come ranks bound m)) (IsFit (each_as code core)) (exec code bound m) (λ n h. h.0)
        (moves_on (each_as code core) bound (valid_too code core lt v) ranks (ranked_too code core lt ranks ranked) m s.fit)) ends_on)

-- ---- a run

module _ (code : Parts) (v : IsValid code) (keeps : KeepsEnds code) (core : ℕ) (function : Entered) (b : Begins code core function) where
  below : core < length code.entries
  below = slice_get_within code.entries core b.entry b.entry_is

  -- a core begins so
  pub keeps_first : (journal : List Entry) → Onward (KeepsOwnEnds code core) (first_flat code core function journal)
  keeps_first journal = go (has_words (first_store (first_globals code)) (length (replicate function.words no_int))) refl
    where
      go : (room : Bool) → has_words (first_store (first_globals code)) (length (replicate function.words no_int)) ≡ room → Onward (KeepsOwnEnds code core) (first_flat code core function journal)
      go true room = rw room (record {
        fit = first_fit (each_as code core) (valid_too code core below v) core function (begins_too code core below function b) (shared_at_first code core journal) room;
        requests = refl;
        operations = All-nil (λ (o : Operation). IsAtEnd code core o.link o.asked);
      })
      go false room = rw room tt

  module _ (ranks : List ℕ) (ranked : IsRanked code ranks) (bound : ℕ) where
    -- and goes on so
    further : (k : ℕ) (a : Move Flat FlatEnd) (n : Flat) → Onward (KeepsOwnEnds code core) a → and_then a (moves (exec code bound) k) ≡ On n → KeepsOwnEnds code core n
    further k (Over e) n h is = let no : Over e ≡ On n = is in absurd (cc)
    further zero (On m) n h is = let same : m ≡ n = let both : On m ≡ On n = is in cc in subst (KeepsOwnEnds code core) same h
    further (suc k) (On m) n h is = further k (exec code bound m) n (keeps_on code keeps core bound below m h v ranks ranked) is

    -- in every state of a run, under every journal, each operation that has not ended is at an end of the core
    pub own_ends : (journal : List Entry) (n : Flat) → GoesOn (exec code bound) (first_flat code core function journal) (On n) → AreAtEnds code core n.operations
    own_ends journal n runs = (further runs.0 (first_flat code core function journal) n (keeps_first journal) (sym runs.1)).operations
