-- A core of valid code offers messages of as many ints as the widths of their channels. It is kept from move to move that the state is fit, by which
-- each operation that sends has such a message, and that the entries that have come in offered such; an entry offers what an operation sends.
use Rattle.std.proofs.Common.{◌≡◌, ℕ, zero, suc, List, [], ◌∷◌, ◌++◌, length, Option, Some, None, Result, Ok, Err, Bool, true, false, refl, sym, ap, ◌∙◌, subst, append_assoc, append-nil}
use Rattle.std.specs.Prelude.{◌^◌, ◌-◌, ℤ, All, find, slice_get, slice_index, slice_set, nat_eq, nat_lt, replicate, if◌then◌else◌, ◌&&◌}
use Rattle.std.specs.List.{AllByRecursion}
use Rattle.std.specs.Cmp.Lexicographic.{pointwise_decides}
use Rattle.std.proofs.lemmas.Bool.{and_parts, eqb-true, eq-eqb}
use Rattle.std.proofs.lemmas.Bool.Decides.{Decides-int_eq}
use Rattle.std.proofs.lemmas.List.Elements.{All-nil, All-push, recursion_from_All}
use Rattle.ac_base.specs.Messages.{ints_eq}
use Rattle.ac_base.specs.declared.entry.Entry.{Entry}
use Rattle.ac_base.specs.declared.entry.Event.{Event}
use Rattle.ac_base.specs.declared.entry.Event.TheVariants as event
use Rattle.ac_base.specs.declared.entry.Payload.{Payload}
use Rattle.ac_base.specs.declared.entry.Payload.TheVariants as payload
use Rattle.ac_base.specs.declared.ends.CoreEnd.{CoreEnd}
use Rattle.ac_base.specs.declared.ends.EndWord.{EndWord}
use Rattle.ac_base.specs.declared.ends.EndWord.TheVariants as word
use Rattle.ac_base.specs.declared.ends.Trap.{Trap}
use Rattle.ac_base.specs.declared.ends.Trap.TheVariants.{StackFull}
use Rattle.ac_history.specs.History.{has_width, has_its_width}
use Rattle.work_item.specs.declared.ids.Item.{Item}
use Rattle.work_item.specs.declared.ids.BlockId.{BlockId}
use Rattle.work_item.specs.declared.cell.Cell.{Cell}
use Rattle.work_item.specs.declared.cell.Cell.TheVariants as cell
use Rattle.work_item.specs.Store.{Store, cell_at, int_in, made, place_in, no_int}
use Rattle.cancel_scope.specs.declared.operation.Asked.{Asked}
use Rattle.cancel_scope.specs.declared.operation.Asked.TheVariants as asked
use Rattle.cancel_scope.specs.declared.operation.Operation.{Operation}
use Rattle.cancel_scope.specs.declared.operation.Progress.{Progress}
use Rattle.cancel_scope.specs.declared.operation.Progress.TheVariants.{Waiting, Offered, Started}
use Rattle.cancel_scope.specs.Outstanding.{is_outgoing, is_waiting, is_to_offer, carries, offered_as, change_first}
use Rattle.core_state.specs.Moves.{Move, On, Over, and_then, moves}
use Rattle.core_state.specs.Arrivals as arrivals
use Rattle.core_state.specs.Arrivals.{Arrival, at_point, comes_in, offers_on}
use Rattle.core_state.specs.Cancelling.{Fate, NeverHappens, by_outcome, outcome, goes_by, decided, tried, tries, is_to_try}
use Rattle.core_state.specs.Frames.{first_store, has_words, block_in}
use Rattle.core_state.specs.Messages.{message_in}
use Rattle.core_state.specs.Requests.{bytes_at, if_in_range}
use Rattle.core_state.specs.Shared.{Shared, begins_with, with_entry, with_turn, seen, seen_left}
use Rattle.stack_code.specs.declared.instr.Instr.{Instr}
use Rattle.stack_code.specs.declared.instr.Instr.TheVariants as i
use Rattle.stack_code.specs.declared.parts.Entered.{Entered}
use Rattle.stack_code.specs.Parts.{Parts, Begins}
use Rattle.stack_code.specs.Valid.{IsValid}
use Rattle.code_meaning.specs.Machine.{Flat, FlatEnd, counted, goes, is_cancelled, is_inside, marked, calls_off, arrived, resumed}
use Rattle.code_meaning.specs.Machine.{begin, exec, exec_of, dispatched, told, asks, asks_in, on_top, on_three}
use Rattle.code_meaning.specs.Machine.{requests, nobody, thread_at, shared_at_first, first_flat, first_core, first_globals, Runs}
use Rattle.code_safety.specs.Fit.{IsFit, IsAsked}
use Rattle.code_safety.proofs.Beginnings.{first_fit}
use Rattle.code_safety.proofs.FitRuns.{fit_on}
use Rattle.code_safety.proofs.NoEntries.{Leaves, begin_leaves}
use Rattle.code_safety.proofs.Plain.{Onward}
use Rattle.code_safety.proofs.Waiting.{found_at, one_of_all}

-- ---- what an offer carries

-- where the channel is there its width is that of the code
wide_by : (q : Option ℕ) (width : ℕ) (message : List ℤ) → ((w : ℕ) → q ≡ Some w → width ≡ w) → length message ≡ width → has_width q (payload.Int message) ≡ true
wide_by None width message same many = refl
wide_by (Some w) width message same many = eq-eqb (length message) w (many ∙ same w refl)

-- the width at a place of a list
width_at : (widths : List ℕ) (channel w : ℕ) → slice_get widths channel ≡ Some w → slice_index widths channel ≡ w
width_at [] channel w e = let no : None ≡ Some w = e in absurd (cc)
width_at (x ∷ widths) zero w e = let same : x ≡ w = cc in same
width_at (x ∷ widths) (suc channel) w e = width_at widths channel w e

ints_are : (xs ys : List ℤ) → ints_eq xs ys ≡ true → xs ≡ ys
ints_are xs ys e = (pointwise_decides Decides-int_eq xs ys).0 e

-- an offer carries what its operation sends
carries_is : (widths : List ℕ) (link : ℕ) (a : Asked) (it : Payload) → ((sent : List ℤ) → a ≡ asked.Send sent → length sent ≡ slice_index widths link) → carries a it ≡ true
    → has_width (slice_get widths link) it ≡ true
carries_is widths link (asked.Send sent) (payload.Int message) h c =
    wide_by (slice_get widths link) (slice_index widths link) message (λ w e. width_at widths link w e) (ap length (sym (ints_are sent message c)) ∙ h sent refl)
carries_is widths link a (payload.Read file from len) h c = no_message (slice_get widths link)
  where
    no_message : (q : Option ℕ) → has_width q (payload.Read file from len) ≡ true
    no_message None = refl
    no_message (Some w) = refl
carries_is widths link a (payload.Write file from bytes) h c = no_message (slice_get widths link)
  where
    no_message : (q : Option ℕ) → has_width q (payload.Write file from bytes) ≡ true
    no_message None = refl
    no_message (Some w) = refl
carries_is widths link a it h c = absurd (let no : false ≡ true = c in cc (no))

-- and an entry that decides one offers nothing
decides : (widths : List ℕ) (link number : ℕ) (v : Event) (it : Fate) → outcome link number v ≡ Some it → has_its_width widths v ≡ true
decides widths link number (event.Offer l k p) it h = absurd (let no : ◌≡◌ {A = Option Fate} None (Some it) = h in cc (no))
decides widths link number v it h = refl

-- ---- what a move keeps

abbrev AreOfTheirWidth : List ℕ → Flat → Type 0
AreOfTheirWidth widths m = All (λ (e : Entry). has_its_width widths e.event ≡ true) m.shared.past

-- the entries that have come in are so, and the journal is as it was; of an end that is seen nothing was still to come
abbrev Keeps : List ℕ → Flat → Move Flat FlatEnd → Type 0
Keeps widths m (On x) = AreOfTheirWidth widths x × (x.shared.past ++ x.shared.todo ≡ m.shared.past ++ m.shared.todo)
Keeps widths m (Over x) = (end : CoreEnd) → x.core ≡ Some end → m.shared.todo ≡ []

nothing_seen : {A : Type 0} (end : CoreEnd) → ◌≡◌ {A = Option CoreEnd} None (Some end) → A
nothing_seen end h = absurd (cc (h))

none_left : (why : EndWord) (idle : Bool) (globals : List ℤ) (os : List Operation) (s : Shared) (todo : List Entry) (end : CoreEnd)
    → seen_left why idle globals os s todo ≡ Some end → todo ≡ []
none_left why idle globals os s [] end h = refl
none_left why idle globals os s (y ∷ ys) end h = nothing_seen end h

module _ (code : Parts) (bound : ℕ) (m : Flat) (fit : IsFit code m) (s : AreOfTheirWidth code.widths m) where
  abbrev E : Entry → Type 0
  E e = has_its_width code.widths e.event ≡ true

  abbrev Asks : Operation → Type 0
  Asks o = IsAsked code fit.births o.link o.asked

  abbrev K : Move Flat FlatEnd → Type 0
  K = Keeps code.widths m

  ended : (why : EndWord) (idle : Bool) (end : CoreEnd) → seen why idle m.store.globals m.operations m.shared ≡ Some end → m.shared.todo ≡ []
  ended why idle end h = none_left why idle m.store.globals m.operations m.shared m.shared.todo end h

  left : (x : Move Flat FlatEnd) → Leaves m x → K x
  left (On x) l = (
    subst (All E) (sym l.1.1.0) s,
    ap (λ (es : List Entry). es ++ x.shared.todo) l.1.1.0 ∙ ap (λ (es : List Entry). m.shared.past ++ es) l.1.0,
  )
  left (Over x) l = λ end is. go end is m.shared.todo refl where
    go : (end : CoreEnd) → x.core ≡ Some end → (todo : List Entry) → m.shared.todo ≡ todo → m.shared.todo ≡ []
    go end is [] e = e
    go end is (y ∷ ys) e = nothing_seen end (sym (l y ys e) ∙ is)

  -- ---- an instruction

  starts : (t : Item) (link : ℕ) (a : Asked) (below : List Cell) → K (asks m t link a below)
  starts t link a below = go (is_cancelled m.blocks m.current.block) where
    go : (b : Bool) → K (asks_in b m t link a below)
    go true = (s, refl)
    go false = (s, refl)

  topped : (go : Cell → List Cell → Move Flat FlatEnd) (operands : List Cell) → ((x : Cell) (below : List Cell) → K (go x below)) → K (on_top m go operands)
  topped go [] h = (s, refl)
  topped go (x ∷ below) h = h x below

  three_topped : (go : Cell → Cell → Cell → List Cell → Move Flat FlatEnd) (operands : List Cell) → ((x y z : Cell) (below : List Cell) → K (go x y z below)) → K (on_three m go operands)
  three_topped go [] h = (s, refl)
  three_topped go (x ∷ []) h = (s, refl)
  three_topped go (y ∷ x ∷ []) h = (s, refl)
  three_topped go (z ∷ y ∷ x ∷ below) h = h x y z below

  requested : (t : Item) (r : Result Asked Trap) (below : List Cell) → K (requests m t r below)
  requested t (Ok a) below = starts t m.shared.requests a below
  requested t (Err trap) below = ended (word.Trapped trap) false

  woken : (x : Arrival) (k : Flat) (o : Option Item) → All E k.shared.past → k.shared.past ++ k.shared.todo ≡ m.shared.past ++ m.shared.todo → K (On (resumed k (cell.Int x.value) o))
  woken x k None p j = (p, j)
  woken x k (Some t) p j = (p, j)

  one_further : (e : Entry) (es : List Entry) → m.shared.todo ≡ e ∷ es → (m.shared.past ++ e ∷ []) ++ es ≡ m.shared.past ++ m.shared.todo
  one_further e es is = append_assoc m.shared.past (e ∷ []) es ∙ ap (λ (l : List Entry). m.shared.past ++ l) (sym is)

  module _ (block : BlockId) where
    abbrev inside : Operation → Bool
    inside = is_to_try (is_inside m block)

    abbrev left_by : Fate → Operation → Arrival
    left_by it o = by_outcome it m.store inside m.operations o

    tried_so : (o : Operation) (shared : Shared) (it : Fate) → All E shared.past → shared.past ++ shared.todo ≡ m.shared.past ++ m.shared.todo → K (On (arrived (marked m block) shared (left_by it o)))
    tried_so o shared it p j =
        let x = left_by it o in woken x (record (marked m block) { shared = shared; store = x.store; operations = x.operations }) x.woken p j

    decided_at : (o : Operation) (number : ℕ) (todo : List Entry) → m.shared.todo ≡ todo
        → K (decided (told (counted m.count)) m.shared m.store.globals m.operations o.link number (λ shared it. On (arrived (marked m block) shared (left_by it o))) todo)
    decided_at o number [] is = ended word.Stalled false
    decided_at o number (y ∷ ys) is = go (nat_eq y.turn m.shared.turn) where
      by : (r : Option Fate) → outcome o.link number y.event ≡ r → K (goes_by (told (counted m.count)) (λ it. On (arrived (marked m block) (with_entry m.shared y ys) (left_by it o))) r)
      by None k = λ end none. nothing_seen end none
      by (Some it) k = tried_so o (with_entry m.shared y ys) it (All-push E m.shared.past y s (decides code.widths o.link number y.event it k)) (one_further y ys is)

      go : (b : Bool)
          → K
          (if b then goes_by (told (counted m.count)) (λ it. On (arrived (marked m block) (with_entry m.shared y ys) (left_by it o))) (outcome o.link number y.event)
          else Over (told (counted m.count) None))
      go true = by (outcome o.link number y.event) refl
      go false = λ end none. nothing_seen end none

    tried_at : (o : Operation) (p : Progress) → K
        (tried (told (counted m.count)) m.shared m.store.globals m.operations o.link p (λ shared it. On (arrived (marked m block) shared (left_by it o))))
    tried_at o Waiting = tried_so o m.shared NeverHappens s refl
    tried_at o (Offered number) = decided_at o number m.shared.todo refl
    tried_at o (Started number) = λ end none. nothing_seen end none

    called_off : K (calls_off m block)
    called_off = go (find inside m.operations) where
      go : (r : Option Operation) → K
          (tries (told (counted m.count)) m.shared m.store m.operations inside (λ shared x. On (arrived (marked m block) shared x)) (goes (marked m block) m.current.operands) r)
      go None = (s, refl)
      go (Some o) = tried_at o o.progress

  starts_at : (t : Item) (instr : Instr) → K (begin code bound m t (Some instr))
  starts_at t (i.Send channel) = topped _ m.current.operands (λ x below. starts t channel (asked.Send (message_in m.store x)) below)
  starts_at t (i.Recv channel) = topped _ m.current.operands (λ x below. starts t channel (asked.Recv (place_in x)) below)
  starts_at t (i.Cancel level slot) = called_off (block_in (cell_at m.store m.current.frame level slot))
  starts_at t (i.Read file) =
      three_topped _ m.current.operands (λ x y z below. requested t (if_in_range (place_in z) (int_in x) (int_in y) (λ from elements. asked.Read file from elements)) below)
  starts_at t (i.Write file) =
      three_topped _ m.current.operands (λ x y z below.
      requested t (if_in_range (place_in z) (int_in x) (int_in y) (λ from elements. asked.Write file from (bytes_at m.store elements))) below)
  starts_at t instr = left (begin code bound m t (Some instr)) (begin_leaves m code bound t instr refl)

  begins_at : (t : Item) (o : Option Instr) → K (begin code bound m t o)
  begins_at t None = (s, refl)
  begins_at t (Some instr) = starts_at t instr

  -- ---- a dispatch point

  -- the entry that comes in offers what one of the operations sends
  comes_wide : (v : Event) (x : Arrival) → arrivals.arrives m.shared.past m.store m.operations v ≡ Some x → has_its_width code.widths v ≡ true
  comes_wide (event.Offer link number it) x h = go (nat_eq number (offers_on link m.shared.past)) h where
    no_arrival : {A : Type 0} → ◌≡◌ {A = Option Arrival} None (Some x) → A
    no_arrival k = absurd (cc (k))

    sends : (o : Operation) → o.link ≡ link → Asks o → (sent : List ℤ) → o.asked ≡ asked.Send sent → length sent ≡ slice_index code.widths link
    sends o at asks sent is = subst (λ (a : Asked). IsAsked code fit.births link a) is (subst (λ (l : ℕ). IsAsked code fit.births l o.asked) at asks)

    carried : (o : Operation) → o.link ≡ link → Asks o → (b : Bool) → carries o.asked it ≡ b
        → (if b then Some (arrivals.goes_on_waiting m.store (change_first (is_to_offer link) (offered_as number) m.operations)) else None) ≡ Some x → has_width (slice_get code.widths link) it ≡ true
    carried o at asks true c k = carries_is code.widths link o.asked it (sends o at asks) c
    carried o at asks false c k = no_arrival k

    by : (r : Option Operation) → find (is_to_offer link) m.operations ≡ r → arrivals.offers m.store m.operations link number it r ≡ Some x → has_width (slice_get code.widths link) it ≡ true
    by None e k = no_arrival k
    by (Some o) e k =
        let f = found_at (is_to_offer link) m.operations o e in
        let at : o.link ≡ link = eqb-true o.link link (and_parts (nat_eq o.link link) (is_outgoing o.asked && is_waiting o.progress) f.passes).0 in
        carried o at (one_of_all Asks f.back o f.front (subst (All Asks) f.is fit.asks)) (carries o.asked it) refl k

    go : (b : Bool) → (if b then arrivals.offers m.store m.operations link number it (find (is_to_offer link) m.operations) else None) ≡ Some x → has_width (slice_get code.widths link) it ≡ true
    go true k = by (find (is_to_offer link) m.operations) refl k
    go false k = no_arrival k
  comes_wide v x h = refl

  dispatches : (ready : List Item) → K (dispatched m ready)
  dispatches [] = ended word.Stalled true
  dispatches (t ∷ ready) = go (nat_lt m.shared.turn (2 ^ 64 - 1)) where
    go : (b : Bool) → K (if b
        then On (record m { shared = with_turn m.shared; running = Some t; current = thread_at m.threads t; ready = ready; threads = slice_set m.threads t.number nobody })
        else Over (told m.count (seen word.OutOfSteps false m.store.globals m.operations m.shared)))
    go true = (s, refl)
    go false = ended word.OutOfSteps false

  enters : (e : Entry) (es : List Entry) → m.shared.todo ≡ e ∷ es → (o : Option Arrival) → arrivals.arrives m.shared.past m.store m.operations e.event ≡ o
      → K (comes_in (told m.count) (λ x. On (arrived m (with_entry m.shared e es) x)) o)
  enters e es is None k = λ end none. nothing_seen end none
  enters e es is (Some x) k =
      woken x (record m { shared = with_entry m.shared e es; store = x.store; operations = x.operations }) x.woken (All-push E m.shared.past e s (comes_wide e.event x k)) (one_further e es is)

  at_rest : (todo : List Entry) → m.shared.todo ≡ todo → K (at_point (told m.count) m.shared m.store m.operations (λ shared x. On (arrived m shared x)) (dispatched m m.ready) todo)
  at_rest [] is = dispatches m.ready
  at_rest (e ∷ es) is = go (nat_eq e.turn m.shared.turn) where
    go : (b : Bool) → K
        (if b
        then comes_in (told m.count) (λ x. On (arrived m (with_entry m.shared e es) x)) (arrivals.arrives m.shared.past m.store m.operations e.event)
        else dispatched m m.ready)
    go true = enters e es is (arrivals.arrives m.shared.past m.store m.operations e.event) refl
    go false = dispatches m.ready

  -- ---- a move

  moves_on : K (exec code bound m)
  moves_on = go m.running where
    go : (o : Option Item) → K (exec_of code bound m o)
    go None = at_rest m.shared.todo refl
    go (Some t) = begins_at t (slice_get code.instrs m.current.place)

-- ---- a run

module _ (code : Parts) (v : IsValid code) (bound : ℕ) (x : FlatEnd) (end : CoreEnd) (is : x.core ≡ Some end) where
  abbrev Wide : Entry → Type 0
  Wide e = has_its_width code.widths e.event ≡ true

  further : (k : ℕ) (m : Flat) → IsFit code m → AreOfTheirWidth code.widths m → moves (exec code bound) k m ≡ Over x → All Wide (m.shared.past ++ m.shared.todo)
  further zero m fit s h = absurd (let no : On m ≡ Over x = h in cc (no))
  further (suc k) m fit s h = go (λ y f t g. further k y f t g) (exec code bound m) (fit_on code bound v m fit) (moves_on code bound m fit s) h where
    go : ((y : Flat) → IsFit code y → AreOfTheirWidth code.widths y → moves (exec code bound) k y ≡ Over x → All Wide (y.shared.past ++ y.shared.todo))
        → (a : Move Flat FlatEnd) → Onward (IsFit code) a → Keeps code.widths m a → and_then a (moves (exec code bound) k) ≡ Over x → All Wide (m.shared.past ++ m.shared.todo)
    go later (On y) fine kept h = subst (All Wide) kept.1 (later y fine kept.0 h)
    go later (Over y) fine kept h =
        let same : y ≡ x = let over : Over y ≡ Over x = h in cc in
        let none = kept end (ap (λ (z : FlatEnd). z.core) same ∙ is) in
        subst (λ (todo : List Entry). All Wide (m.shared.past ++ todo)) (sym none) (subst (All Wide) (sym (append-nil m.shared.past)) s)

  module _ (core : ℕ) (function : Entered) (b : Begins code core function) (journal : List Entry) where
    abbrev cells : List Cell
    cells = replicate function.words no_int

    abbrev store : Store
    store = made (first_store (first_globals code)) None cells

    abbrev shared : Shared
    shared = shared_at_first code core journal

    from_first : (k : ℕ) → Over x ≡ and_then (first_flat code core function journal) (moves (exec code bound) k) → All Wide journal
    from_first k h = go (has_words (first_store (first_globals code)) (length cells)) refl h
      where
        go : (room : Bool) → has_words (first_store (first_globals code)) (length cells) ≡ room
            → Over x ≡ and_then (begins_with (told 0) (first_globals code) shared (if room then Ok store else Err StackFull) (λ its. On (first_core function shared its)))
            (moves (exec code bound) k) → All Wide journal
        go true room h = further k (first_core function shared store) (first_fit code v core function b shared room) (All-nil Wide) (sym h)
        go false room h =
            let same : told 0 (seen (word.Trapped StackFull) false (first_globals code) [] shared) ≡ x = let over : Over x ≡ _ = h in cc in
            let none = none_left (word.Trapped StackFull) false (first_globals code) [] shared journal end (ap (λ (z : FlatEnd). z.core) same ∙ is) in
            subst (All Wide) (sym none) (All-nil Wide)

-- each offer in the journal of a core that comes to an end
pub runs_are_wide : (code : Parts) → IsValid code → (core bound count : ℕ) (journal : List Entry) (end : CoreEnd)
    → Runs code core bound journal (record { core = Some end; count = count }) → AllByRecursion (λ e. has_its_width code.widths e.event ≡ true) journal
runs_are_wide code v core bound count journal end runs =
    recursion_from_All (λ (e : Entry). has_its_width code.widths e.event ≡ true) journal
    (from_first code v bound (record { core = Some end; count = count }) end refl core runs.function runs.begins journal runs.comes.0 runs.comes.1)
