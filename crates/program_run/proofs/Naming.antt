-- A core whose code names files below a number alone offers requests of such files alone. It is kept from move to move that the operations of the
-- core, and the entries that have come in, name such files; an instruction starts one by its own name, and an entry offers what one asks for.
use Rattle.std.proofs.Common.{◌≡◌, ℕ, zero, suc, List, [], ◌∷◌, ◌++◌, Option, Some, None, Result, Ok, Err, Bool, true, false, refl, sym, ap, ◌∙◌, subst, append_assoc, append-nil}
use Rattle.std.specs.Prelude.{◌^◌, ◌-◌, ℤ, All, find, slice_get, slice_set, nat_eq, nat_lt, replicate, if◌then◌else◌}
use Rattle.std.specs.List.{AllByRecursion}
use Rattle.std.proofs.lemmas.Bool.{and_parts, eqb-true}
use Rattle.std.proofs.lemmas.List.Elements.{All-nil, All-push, recursion_from_All}
use Rattle.std.proofs.lemmas.Option.{slice_get_within, get_or_from_slice_get}
use Rattle.ac_base.specs.declared.entry.Entry.{Entry}
use Rattle.ac_base.specs.declared.entry.Event.{Event}
use Rattle.ac_base.specs.declared.entry.Event.TheVariants as event
use Rattle.ac_base.specs.declared.entry.Payload.{Payload}
use Rattle.ac_base.specs.declared.entry.Payload.TheVariants as payload
use Rattle.ac_base.specs.declared.ends.CoreEnd.{CoreEnd}
use Rattle.ac_base.specs.declared.ends.EndWord.{EndWord}
use Rattle.ac_base.specs.declared.ends.EndWord.TheVariants as word
use Rattle.ac_base.specs.declared.ends.Trap.{Trap}
use Rattle.work_item.specs.declared.ids.Item.{Item}
use Rattle.work_item.specs.declared.ids.BlockId.{BlockId}
use Rattle.work_item.specs.declared.cell.Cell.{Cell}
use Rattle.work_item.specs.declared.cell.Cell.TheVariants as cell
use Rattle.work_item.specs.declared.cell.Place.{Place}
use Rattle.work_item.specs.Store.{Store, cell_at, int_in, place_in, no_int}
use Rattle.cancel_scope.specs.declared.operation.Asked.{Asked}
use Rattle.cancel_scope.specs.declared.operation.Asked.TheVariants as asked
use Rattle.cancel_scope.specs.declared.operation.Operation.{Operation}
use Rattle.cancel_scope.specs.declared.operation.Progress.{Progress}
use Rattle.cancel_scope.specs.declared.operation.Progress.TheVariants.{Waiting, Offered, Started}
use Rattle.cancel_scope.specs.Outstanding.{started, is_request, is_to_offer, carries, offered_as, as_begun, change_first, without_first}
use Rattle.core_state.specs.Moves.{Move, On, Over, and_then, moves}
use Rattle.core_state.specs.Arrivals as arrivals
use Rattle.core_state.specs.Arrivals.{Arrival, at_point, comes_in, offers_on}
use Rattle.core_state.specs.Cancelling.{Fate, NeverHappens, IsTaken, by_outcome, outcome, goes_by, decided, tried, tries, is_to_try}
use Rattle.core_state.specs.Frames.{begun, first_store, block_in}
use Rattle.core_state.specs.Shared.{Shared, begins_with, with_entry, with_turn, seen, seen_left}
use Rattle.core_state.specs.Requests.{bytes_at, first_of, if_in_range}
use Rattle.core_state.specs.Messages.{message_in}
use Rattle.stack_code.specs.declared.instr.Instr.{Instr}
use Rattle.stack_code.specs.declared.instr.Instr.TheVariants as i
use Rattle.stack_code.specs.declared.parts.Entered.{Entered}
use Rattle.stack_code.specs.Parts.{Parts}
use Rattle.code_meaning.specs.Machine.{Flat, FlatEnd, counted, goes, is_cancelled, is_inside, marked, calls_off, arrived, resumed}
use Rattle.code_meaning.specs.Machine.{begin, exec, exec_of, dispatched, told, asks, asks_in, on_top, on_three}
use Rattle.code_meaning.specs.Machine.{requests, nobody, thread_at, shared_at_first, first_flat, first_core, first_globals, Runs}
use Rattle.code_safety.proofs.Arriving.{Comes, offered, known, begun as has_begun, answered, received, passed, comes_of}
use Rattle.code_safety.proofs.NoEntries.{Leaves, begin_leaves}
use Rattle.code_safety.proofs.Transfers.{range_is}
use Rattle.code_safety.proofs.Waiting.{IsFound, found_at, all_others, one_of_all, all_between}
use Rattle.program_run.specs.Naming.{names_below, NamesFilesBelow}

-- ---- what operations ask for, and what offers carry

abbrev asks_below : ℕ → Asked → Bool
asks_below n (asked.Read file from into) = nat_lt file n
asks_below n (asked.Write file from bytes) = nat_lt file n
asks_below n _ = true

abbrev pub carries_below : ℕ → Payload → Bool
carries_below n (payload.Int v) = true
carries_below n (payload.Read file from len) = nat_lt file n
carries_below n (payload.Write file from bytes) = nat_lt file n

abbrev pub offers_below : ℕ → Event → Bool
offers_below n (event.Offer link number it) = carries_below n it
offers_below n _ = true

-- ---- what a move keeps

-- the operations that have not ended, and the entries that have come in
abbrev Names : ℕ → Flat → Type 0
Names n m = All (λ (o : Operation). asks_below n o.asked ≡ true) m.operations × All (λ (e : Entry). offers_below n e.event ≡ true) m.shared.past

-- they name files below the number, and the journal is as it was; of an end that is seen nothing was still to come
abbrev Keeps : ℕ → Flat → Move Flat FlatEnd → Type 0
Keeps n m (On x) = Names n x × (x.shared.past ++ x.shared.todo ≡ m.shared.past ++ m.shared.todo)
Keeps n m (Over x) = (end : CoreEnd) → x.core ≡ Some end → m.shared.todo ≡ []

nothing_seen : {A : Type 0} (end : CoreEnd) → ◌≡◌ {A = Option CoreEnd} None (Some end) → A
nothing_seen end h = absurd (cc (h))

none_left : (why : EndWord) (idle : Bool) (globals : List ℤ) (os : List Operation) (s : Shared) (todo : List Entry) (end : CoreEnd)
    → seen_left why idle globals os s todo ≡ Some end → todo ≡ []
none_left why idle globals os s [] end h = refl
none_left why idle globals os s (y ∷ ys) end h = nothing_seen end h

-- an offer carries what its operation asks for
carries_is : (n : ℕ) (a : Asked) (it : Payload) → asks_below n a ≡ true → carries a it ≡ true → carries_below n it ≡ true
carries_is n (asked.Read file from into) (payload.Read f at len) b c =
    let same = eqb-true file f (and_parts (nat_eq file f) _ c).0 in subst (λ (k : ℕ). nat_lt k n ≡ true) same b
carries_is n (asked.Write file from bytes) (payload.Write f at bs) b c =
    let same = eqb-true file f (and_parts (nat_eq file f) _ c).0 in subst (λ (k : ℕ). nat_lt k n ≡ true) same b
carries_is n a (payload.Int v) b c = refl
carries_is n a it b c = absurd (let no : false ≡ true = c in cc (no))

-- and an entry that decides one offers nothing
decides : (n link number : ℕ) (v : Event) (it : Fate) → outcome link number v ≡ Some it → offers_below n v ≡ true
decides n link number (event.Offer l k p) it h = absurd (let no : ◌≡◌ {A = Option Fate} None (Some it) = h in cc (no))
decides n link number v it h = refl

-- one move: by its kind, and for an instruction by the instruction, each part of the next state has only operations and entries of the one before, or
-- one that the code names
module _ (code : Parts) (n : ℕ) (keeps : NamesFilesBelow code n) (bound : ℕ) (m : Flat) (s : Names n m) where
  abbrev B : Operation → Type 0
  B o = asks_below n o.asked ≡ true

  abbrev E : Entry → Type 0
  E e = offers_below n e.event ≡ true

  ended : (why : EndWord) (idle : Bool) (end : CoreEnd) → seen why idle m.store.globals m.operations m.shared ≡ Some end → m.shared.todo ≡ []
  ended why idle end h = none_left why idle m.store.globals m.operations m.shared m.shared.todo end h

  left : (x : Move Flat FlatEnd) → Leaves m x → Keeps n m x
  left (On x) l = (
    (subst (All B) (sym l.0) s.0, subst (All E) (sym l.1.1.0) s.1),
    ap (λ (es : List Entry). es ++ x.shared.todo) l.1.1.0 ∙ ap (λ (es : List Entry). m.shared.past ++ es) l.1.0,
  )
  left (Over x) l = λ end is. go end is m.shared.todo refl where
    go : (end : CoreEnd) → x.core ≡ Some end → (todo : List Entry) → m.shared.todo ≡ todo → m.shared.todo ≡ []
    go end is [] e = e
    go end is (y ∷ ys) e = nothing_seen end (sym (l y ys e) ∙ is)

  -- ---- an instruction

  starts : (t : Item) (link : ℕ) (a : Asked) (below : List Cell) → asks_below n a ≡ true → Keeps n m (asks m t link a below)
  starts t link a below h = go (is_cancelled m.blocks m.current.block) where
    go : (b : Bool) → Keeps n m (asks_in b m t link a below)
    go true = (s, refl)
    go false = ((All-push B m.operations (started link a t) s.0 h, s.1), refl)

  topped : (go : Cell → List Cell → Move Flat FlatEnd) (operands : List Cell) → ((x : Cell) (below : List Cell) → Keeps n m (go x below)) → Keeps n m (on_top m go operands)
  topped go [] h = (s, refl)
  topped go (x ∷ below) h = h x below

  three_topped : (go : Cell → Cell → Cell → List Cell → Move Flat FlatEnd) (operands : List Cell) → ((x y z : Cell) (below : List Cell) → Keeps n m (go x y z below))
      → Keeps n m (on_three m go operands)
  three_topped go [] h = (s, refl)
  three_topped go (x ∷ []) h = (s, refl)
  three_topped go (y ∷ x ∷ []) h = (s, refl)
  three_topped go (z ∷ y ∷ x ∷ below) h = h x y z below

  requested : (t : Item) (r : Result Asked Trap) (below : List Cell) → ((a : Asked) → r ≡ Ok a → asks_below n a ≡ true) → Keeps n m (requests m t r below)
  requested t (Ok a) below h = starts t m.shared.requests a below (h a refl)
  requested t (Err trap) below h = ended (word.Trapped trap) false

  ranged : (t : Item) (x y : ℤ) (array : Place) (ask : ℕ → Place → Asked) (below : List Cell) → ((from : ℕ) (elements : Place) → asks_below n (ask from elements) ≡ true)
      → Keeps n m (requests m t (if_in_range array x y ask) below)
  ranged t x y array ask below h = requested t (if_in_range array x y ask) below (λ a e.
      let r = range_is array x y ask a e in subst (λ (it : Asked). asks_below n it ≡ true) r.1.1.1 (h r.0 (first_of array r.1.0)))

  woken : (x : Arrival) (k : Flat) (o : Option Item) → k.operations ≡ x.operations → All B x.operations → All E k.shared.past
      → k.shared.past ++ k.shared.todo ≡ m.shared.past ++ m.shared.todo → Keeps n m (On (resumed k (cell.Int x.value) o))
  woken x k None e h p j = ((subst (All B) (sym e) h, p), j)
  woken x k (Some t) e h p j = ((subst (All B) (sym e) h, p), j)

  one_further : (e : Entry) (es : List Entry) → m.shared.todo ≡ e ∷ es → (m.shared.past ++ e ∷ []) ++ es ≡ m.shared.past ++ m.shared.todo
  one_further e es is = append_assoc m.shared.past (e ∷ []) es ∙ ap (λ (l : List Entry). m.shared.past ++ l) (sym is)

  -- what a cancel leaves were there before
  module _ (block : BlockId) where
    abbrev inside : Operation → Bool
    inside = is_to_try (is_inside m block)

    abbrev made : Fate → Operation → Arrival
    made it o = by_outcome it m.store inside m.operations o

    made_at : (o : Operation) → find inside m.operations ≡ Some o → (it : Fate) → All B (made it o).operations
    made_at o e it = by it where
      f : IsFound inside m.operations o
      f = found_at inside m.operations o e

      all : All B (f.front ++ o ∷ f.back)
      all = subst (All B) f.is s.0

      others : All B (f.front ++ f.back)
      others = all_others B f.back o f.front all

      taken : (b : Bool) → All B
          (if b then arrivals.goes_on_waiting m.store (change_first inside as_begun m.operations) else arrivals.has_ended m.store (without_first inside m.operations) o).operations
      taken true = subst (All B) (sym (f.changed as_begun)) (all_between B f.back (as_begun o) f.front others (one_of_all B f.back o f.front all))
      taken false = subst (All B) (sym f.without) others

      by : (it : Fate) → All B (made it o).operations
      by NeverHappens = subst (All B) (sym f.without) others
      by IsTaken = taken (is_request o.asked)

    tried_so : (o : Operation) → find inside m.operations ≡ Some o → (shared : Shared) (it : Fate) → All E shared.past → shared.past ++ shared.todo ≡ m.shared.past ++ m.shared.todo
        → Keeps n m (On (arrived (marked m block) shared (made it o)))
    tried_so o e shared it p j =
        let x = made it o in
        woken x (record (marked m block) { shared = shared; store = x.store; operations = x.operations }) x.woken refl (made_at o e it) p j

    decided_at : (o : Operation) → find inside m.operations ≡ Some o → (number : ℕ) (todo : List Entry) → m.shared.todo ≡ todo → Keeps n m
        (decided (told (counted m.count)) m.shared m.store.globals m.operations o.link number (λ shared it. On (arrived (marked m block) shared (made it o))) todo)
    decided_at o e number [] is = ended word.Stalled false
    decided_at o e number (y ∷ ys) is = go (nat_eq y.turn m.shared.turn) where
      by : (r : Option Fate) → outcome o.link number y.event ≡ r
          → Keeps n m (goes_by (told (counted m.count)) (λ it. On (arrived (marked m block) (with_entry m.shared y ys) (made it o))) r)
      by None k = λ end none. nothing_seen end none
      by (Some it) k = tried_so o e (with_entry m.shared y ys) it (All-push E m.shared.past y s.1 (decides n o.link number y.event it k)) (one_further y ys is)

      go : (b : Bool) → Keeps n m
          (if b then goes_by (told (counted m.count)) (λ it. On (arrived (marked m block) (with_entry m.shared y ys) (made it o))) (outcome o.link number y.event)
          else Over (told (counted m.count) None))
      go true = by (outcome o.link number y.event) refl
      go false = λ end none. nothing_seen end none

    tried_at : (o : Operation) → find inside m.operations ≡ Some o → (p : Progress) → Keeps n m
        (tried (told (counted m.count)) m.shared m.store.globals m.operations o.link p (λ shared it. On (arrived (marked m block) shared (made it o))))
    tried_at o e Waiting = tried_so o e m.shared NeverHappens s.1 refl
    tried_at o e (Offered number) = decided_at o e number m.shared.todo refl
    tried_at o e (Started number) = λ end none. nothing_seen end none

    called_off : Keeps n m (calls_off m block)
    called_off = go (find inside m.operations) refl where
      go : (r : Option Operation) → find inside m.operations ≡ r → Keeps n m
          (tries (told (counted m.count)) m.shared m.store m.operations inside (λ shared x. On (arrived (marked m block) shared x)) (goes (marked m block) m.current.operands) r)
      go None e = (s, refl)
      go (Some o) e = tried_at o e o.progress

  starts_at : (t : Item) (instr : Instr) → names_below n instr ≡ true → Keeps n m (begin code bound m t (Some instr))
  starts_at t (i.Send channel) h = topped _ m.current.operands (λ x below. starts t channel (asked.Send (message_in m.store x)) below refl)
  starts_at t (i.Recv channel) h = topped _ m.current.operands (λ x below. starts t channel (asked.Recv (place_in x)) below refl)
  starts_at t (i.Cancel level slot) h = called_off (block_in (cell_at m.store m.current.frame level slot))
  starts_at t (i.Read file) h =
      three_topped _ m.current.operands (λ x y z below. ranged t (int_in x) (int_in y) (place_in z) (λ from elements. asked.Read file from elements) below (λ from elements. h))
  starts_at t (i.Write file) h =
      three_topped _ m.current.operands (λ x y z below. ranged t (int_in x) (int_in y) (place_in z) (λ from elements. asked.Write file from (bytes_at m.store elements)) below
      (λ from elements. h))
  starts_at t instr h = left (begin code bound m t (Some instr)) (begin_leaves m code bound t instr refl)

  begins_at : (t : Item) (o : Option Instr) → slice_get code.instrs m.current.place ≡ o → Keeps n m (begin code bound m t o)
  begins_at t None here = (s, refl)
  begins_at t (Some instr) here =
      let within = slice_get_within code.instrs m.current.place instr here in
      let one = get_or_from_slice_get code.instrs m.current.place instr instr here in
      starts_at t instr (subst (λ (x : Instr). names_below n x ≡ true) one (keeps m.current.place instr within))

  -- ---- a dispatch point

  after : (x : Arrival) → Comes m.store m.operations x → All B x.operations
  after _ (offered front back o number is waits) = let all = subst (All B) is s.0 in all_between B back _ front (all_others B back o front all) (one_of_all B back o front all)
  after _ (known front back o is other) = all_others B back o front (subst (All B) is s.0)
  after _ (has_begun front back o number is request offer) = let all = subst (All B) is s.0 in all_between B back _ front (all_others B back o front all) (one_of_all B back o front all)
  after _ (answered front back o answer is) = all_others B back o front (subst (All B) is s.0)
  after _ (received front back o place value is asks) = all_others B back o front (subst (All B) is s.0)
  after _ passed = s.0

  -- the entry that comes in offers what one of them asks for
  comes_below : (v : Event) (x : Arrival) → arrivals.arrives m.shared.past m.store m.operations v ≡ Some x → offers_below n v ≡ true
  comes_below (event.Offer link number it) x h = go (nat_eq number (offers_on link m.shared.past)) h where
    no_arrival : {A : Type 0} → ◌≡◌ {A = Option Arrival} None (Some x) → A
    no_arrival k = absurd (cc (k))

    carried : (o : Operation) → B o → (b : Bool) → carries o.asked it ≡ b
        → (if b then Some (arrivals.goes_on_waiting m.store (change_first (is_to_offer link) (offered_as number) m.operations)) else None) ≡ Some x → carries_below n it ≡ true
    carried o below true c k = carries_is n o.asked it below c
    carried o below false c k = no_arrival k

    by : (r : Option Operation) → find (is_to_offer link) m.operations ≡ r → arrivals.offers m.store m.operations link number it r ≡ Some x → carries_below n it ≡ true
    by None e k = no_arrival k
    by (Some o) e k =
        let f = found_at (is_to_offer link) m.operations o e in
        carried o (one_of_all B f.back o f.front (subst (All B) f.is s.0)) (carries o.asked it) refl k

    go : (b : Bool) → (if b then arrivals.offers m.store m.operations link number it (find (is_to_offer link) m.operations) else None) ≡ Some x → carries_below n it ≡ true
    go true k = by (find (is_to_offer link) m.operations) refl k
    go false k = no_arrival k
  comes_below v x h = refl

  dispatches : (ready : List Item) → Keeps n m (dispatched m ready)
  dispatches [] = ended word.Stalled true
  dispatches (t ∷ ready) = go (nat_lt m.shared.turn (2 ^ 64 - 1)) where
    go : (b : Bool) → Keeps n m (if b
        then On (record m { shared = with_turn m.shared; running = Some t; current = thread_at m.threads t; ready = ready; threads = slice_set m.threads t.number nobody })
        else Over (told m.count (seen word.OutOfSteps false m.store.globals m.operations m.shared)))
    go true = (s, refl)
    go false = ended word.OutOfSteps false

  enters : (e : Entry) (es : List Entry) → m.shared.todo ≡ e ∷ es → (o : Option Arrival) → arrivals.arrives m.shared.past m.store m.operations e.event ≡ o
      → Keeps n m (comes_in (told m.count) (λ x. On (arrived m (with_entry m.shared e es) x)) o)
  enters e es is None k = λ end none. nothing_seen end none
  enters e es is (Some x) k =
      woken x (record m { shared = with_entry m.shared e es; store = x.store; operations = x.operations }) x.woken refl (after x (comes_of m.store m.operations x m.shared.past e.event k))
      (All-push E m.shared.past e s.1 (comes_below e.event x k)) (one_further e es is)

  at_rest : (todo : List Entry) → m.shared.todo ≡ todo
      → Keeps n m (at_point (told m.count) m.shared m.store m.operations (λ shared x. On (arrived m shared x)) (dispatched m m.ready) todo)
  at_rest [] is = dispatches m.ready
  at_rest (e ∷ es) is = go (nat_eq e.turn m.shared.turn) where
    go : (b : Bool) → Keeps n m
        (if b
        then comes_in (told m.count) (λ x. On (arrived m (with_entry m.shared e es) x)) (arrivals.arrives m.shared.past m.store m.operations e.event)
        else dispatched m m.ready)
    go true = enters e es is (arrivals.arrives m.shared.past m.store m.operations e.event) refl
    go false = dispatches m.ready

  -- ---- a move

  moves_on : Keeps n m (exec code bound m)
  moves_on = go m.running where
    go : (o : Option Item) → Keeps n m (exec_of code bound m o)
    go None = at_rest m.shared.todo refl
    go (Some t) = begins_at t (slice_get code.instrs m.current.place) refl

-- ---- a run

module _ (code : Parts) (n : ℕ) (keeps : NamesFilesBelow code n) (bound : ℕ) (x : FlatEnd) (end : CoreEnd) (is : x.core ≡ Some end) where
  abbrev Below : Entry → Type 0
  Below e = offers_below n e.event ≡ true

  further : (k : ℕ) (m : Flat) → Names n m → moves (exec code bound) k m ≡ Over x → All Below (m.shared.past ++ m.shared.todo)
  further zero m s h = absurd (let no : On m ≡ Over x = h in cc (no))
  further (suc k) m s h = go (λ y t g. further k y t g) (exec code bound m) (moves_on code n keeps bound m s) h where
    go : ((y : Flat) → Names n y → moves (exec code bound) k y ≡ Over x → All Below (y.shared.past ++ y.shared.todo)) → (a : Move Flat FlatEnd) → Keeps n m a
        → and_then a (moves (exec code bound) k) ≡ Over x → All Below (m.shared.past ++ m.shared.todo)
    go later (On y) kept h = subst (All Below) kept.1 (later y kept.0 h)
    go later (Over y) kept h =
        let same : y ≡ x = let over : Over y ≡ Over x = h in cc in
        let none = kept end (ap (λ (z : FlatEnd). z.core) same ∙ is) in
        subst (λ (todo : List Entry). All Below (m.shared.past ++ todo)) (sym none) (subst (All Below) (sym (append-nil m.shared.past)) s.1)

  from_first : (core : ℕ) (function : Entered) (journal : List Entry) (k : ℕ) → Over x ≡ and_then (first_flat code core function journal) (moves (exec code bound) k) → All Below journal
  from_first core function journal k h = go (begun (first_store (first_globals code)) None (replicate function.words no_int)) h where
    go : (r : Result Store Trap)
        → Over x ≡ and_then (begins_with (told 0) (first_globals code) (shared_at_first code core journal) r
        (λ store. On (first_core function (shared_at_first code core journal) store))) (moves (exec code bound) k) → All Below journal
    go (Ok store) h = further k (first_core function (shared_at_first code core journal) store) (All-nil (λ (o : Operation). asks_below n o.asked ≡ true), All-nil Below) (sym h)
    go (Err trap) h =
        let same : told 0 (seen (word.Trapped trap) false (first_globals code) [] (shared_at_first code core journal)) ≡ x = let over : Over x ≡ _ = h in cc in
        let none = none_left (word.Trapped trap) false (first_globals code) [] (shared_at_first code core journal) journal end (ap (λ (z : FlatEnd). z.core) same ∙ is) in
        subst (All Below) (sym none) (All-nil Below)

-- each offer in the journal of a core that comes to an end
pub runs_name : (code : Parts) (n core bound count : ℕ) (journal : List Entry) (end : CoreEnd) → NamesFilesBelow code n
    → Runs code core bound journal (record { core = Some end; count = count }) → AllByRecursion (λ e. offers_below n e.event ≡ true) journal
runs_name code n core bound count journal end keeps runs =
    recursion_from_All (λ (e : Entry). offers_below n e.event ≡ true) journal
    (from_first code n keeps bound (record { core = Some end; count = count }) end refl core runs.function journal runs.comes.0 runs.comes.1)
