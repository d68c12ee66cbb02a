-- Which operations an instruction starts or ends, with no entry to come: what stands under an offer stays.
-- By the cases of an instruction (`StartsTo`). The hard cases are the limits of a request, for which its range was asked, and a cancel, which ends one that was not offered.
use Rattle.std.proofs.Common.{◌≡◌, ℕ, zero, suc, ◌+◌, List, [], ◌∷◌, ◌++◌, Option, Some, None, Bool, true, false, refl, sym, ap, ◌∙◌, subst, arith}
use Rattle.std.specs.Prelude.{ℤ, pos, negsuc, All, Result, Ok, Err, length, find, nat_eq, nat_le, nat_lt, ◌&&◌, ◌^◌, ◌-◌, slice_get, slice_set, if◌then◌else◌}
use Rattle.std.proofs.lemmas.Bool.{and_parts, eq-eqb}
use Rattle.std.proofs.lemmas.List.Elements.{All-push}
use Rattle.ac_base.specs.declared.ends.Trap.{Trap}
use Rattle.ac_base.specs.declared.ends.Trap.TheVariants.{FileRange}
use Rattle.ac_base.specs.declared.ends.CoreEnd.{CoreEnd}
use Rattle.ac_base.specs.declared.ends.EndWord.TheVariants as word
use Rattle.ac_base.specs.declared.entry.Entry.{Entry}
use Rattle.work_item.specs.declared.ids.BlockId.{BlockId}
use Rattle.work_item.specs.declared.ids.Item.{Item}
use Rattle.work_item.specs.declared.cell.Cell.{Cell}
use Rattle.work_item.specs.declared.ids.FrameId.{FrameId}
use Rattle.work_item.specs.declared.cell.Place.{Place}
use Rattle.work_item.specs.Store.{Store, cell_at, int_in, place_in}
use Rattle.cancel_scope.specs.declared.operation.Asked.{Asked}
use Rattle.cancel_scope.specs.declared.operation.Asked.TheVariants as asked
use Rattle.cancel_scope.specs.declared.operation.Progress.{Progress}
use Rattle.cancel_scope.specs.declared.operation.Progress.TheVariants as progress
use Rattle.cancel_scope.specs.declared.operation.Operation.{Operation}
use Rattle.cancel_scope.specs.Outstanding.{started, is_request, is_waiting, is_begun, is_offered, without_first}
use Rattle.core_state.specs.Moves.{Move, On, Over}
use Rattle.core_state.specs.Arrivals.{at_point}
use Rattle.core_state.specs.Cancelling.{Fate, by_outcome, decided, is_to_try, tried, tries}
use Rattle.core_state.specs.Frames.{block_in}
use Rattle.core_state.specs.Shared.{Shared, with_turn, seen}
use Rattle.core_state.specs.Requests.{bytes_at, bytes_from, file_limit, first_of, if_in_range, is_in_range, request_limit}
use Rattle.stack_code.specs.declared.instr.Instr.{Instr}
use Rattle.stack_code.specs.declared.instr.Instr.TheVariants as i
use Rattle.stack_code.specs.Parts.{Parts}
use Rattle.code_meaning.specs.Machine as flat
use Rattle.code_meaning.specs.Machine.{Flat, FlatEnd, arrived, asks_in, begin, calls_off, counted, exec, exec_of, dispatched, goes}
use Rattle.code_meaning.specs.Machine.{is_cancelled, is_inside, marked, nobody, on_three, on_top, requests, thread_at, told}
use Rattle.code_safety.specs.Fit.{one_if}
use Rattle.code_safety.proofs.Lives.{total_append}
use Rattle.code_safety.proofs.Plain.{Onward, trap_on}
use Rattle.code_safety.proofs.Waiting.{all_others, found_at, total_between}
use Rattle.code_safety.proofs.NoEntries.{begin_leaves, Leaves}
use Rattle.core_machine.specs.Tracks.{begun_of, is_transfer, keeps_limits, standing_of, IsPlaced, Tracks}
use Rattle.core_machine.proofs.Standing.{Receives, and_false, not_begun, not_under}

-- ---- an instruction

-- the operations are those, or one more has started at its place, or one that was not offered has ended
pub data Starts (requests : ℕ) (os : List Operation) : List Operation → Type 0 where
  none_starts : Starts requests os os
  one_starts : (link : ℕ) (asked : Asked) (t : Item) → IsPlaced requests (started link asked t) → Starts requests os (os ++ started link asked t ∷ [])
  one_ends : (test : Operation → Bool) (o : Operation) → find test os ≡ Some o → is_waiting o.progress ≡ true → Starts requests os (without_first test os)

-- it sends and receives on another link than that of requests, and reads and writes one of the files
abbrev pub IsAtItsLink : ℕ → Instr → Type 0
IsAtItsLink requests (i.Send channel) = nat_eq channel requests ≡ false
IsAtItsLink requests (i.Recv channel) = nat_eq channel requests ≡ false
IsAtItsLink requests (i.Read file) = nat_lt file 16 ≡ true
IsAtItsLink requests (i.Write file) = nat_lt file 16 ≡ true
IsAtItsLink requests _ = Unit {0}

-- ---- the limits of a request

-- as many bytes as there are elements
bytes_long : (store : Store) (home : Option FrameId) (slot len : ℕ) → length (bytes_from store home slot len) ≡ len
bytes_long store home slot zero = refl
bytes_long store home slot (suc len) = ap suc (bytes_long store home (slot + 1) len)

-- what is asked for within the range of an array
of_range : (P : Asked → Type 0) (array : Place) (x y : ℤ) (ask : ℕ → Place → Asked) (a : Asked)
    → ((from len : ℕ) → nat_le len request_limit ≡ true → nat_le (from + len) file_limit ≡ true → P (ask from (first_of array len))) → if_in_range array x y ask ≡ Ok a → P a
of_range P array (pos from) (pos len) ask a h e = by (is_in_range array from len) refl e
  where
    by : (b : Bool) → is_in_range array from len ≡ b → ◌≡◌ {A = Result Asked Trap} (if b then Ok (ask from (first_of array len)) else Err FileRange) (Ok a) → P a
    by true t e =
        let one = and_parts (nat_le len request_limit) (nat_le len array.len && nat_le (from + len) file_limit) t in
        let two = and_parts (nat_le len array.len) (nat_le (from + len) file_limit) one.1 in
        let is : ask from (first_of array len) ≡ a = cc in
        subst P is (h from len one.0 two.1)
    by false t e = absurd (cc)
of_range P array (pos from) (negsuc len) ask a h e = absurd (cc)
of_range P array (negsuc from) y ask a h e = absurd (cc)

within_limits : (file from len : ℕ) → nat_lt file 16 ≡ true → nat_le len request_limit ≡ true → nat_le (from + len) file_limit ≡ true → is_transfer file from len ≡ true
within_limits file from len a b c =
    ap (λ z. z && (nat_le len request_limit && nat_le (from + len) file_limit)) a ∙ ap (λ z. z && nat_le (from + len) file_limit) b ∙ c

module _ (m : Flat) where
  abbrev pub StartsTo : Flat → Type 0
  StartsTo n = Starts m.shared.requests m.operations n.operations × (n.shared.requests ≡ m.shared.requests)

  same : Starts m.shared.requests m.operations m.operations × (m.shared.requests ≡ m.shared.requests)
  same = (none_starts, refl)

  of_leaves : (x : Move Flat FlatEnd) → Leaves m x → Onward StartsTo x
  of_leaves (On n) l = (subst (Starts m.shared.requests m.operations) (sym l.0) none_starts, l.1.1.1)
  of_leaves (Over e) l = tt

  top_starts : (go : Cell → List Cell → Move Flat FlatEnd) (ops : List Cell) → ((x : Cell) (below : List Cell) → Onward StartsTo (go x below)) → Onward StartsTo (on_top m go ops)
  top_starts go [] h = same
  top_starts go (x ∷ below) h = h x below

  three_start : (go : Cell → Cell → Cell → List Cell → Move Flat FlatEnd) (ops : List Cell) → ((x y z : Cell) (below : List Cell) → Onward StartsTo (go x y z below))
      → Onward StartsTo (on_three m go ops)
  three_start go [] h = same
  three_start go (x ∷ []) h = same
  three_start go (y ∷ x ∷ []) h = same
  three_start go (z ∷ y ∷ x ∷ below) h = h x y z below

  asks_starts : (b : Bool) (t : Item) (link : ℕ) (asked : Asked) (below : List Cell) → IsPlaced m.shared.requests (started link asked t) → Onward StartsTo (asks_in b m t link asked below)
  asks_starts true t link asked below placed = same
  asks_starts false t link asked below placed = (one_starts link asked t placed, refl)

  -- a request is on the link of requests
  request_starts : (t : Item) (array : Place) (x y : ℤ) (ask : ℕ → Place → Asked) (below : List Cell) → ((from : ℕ) (elements : Place) → is_request (ask from elements) ≡ true)
      → ((from len : ℕ) → nat_le len request_limit ≡ true → nat_le (from + len) file_limit ≡ true → keeps_limits (ask from (first_of array len)) ≡ true)
      → Onward StartsTo (requests m t (if_in_range array x y ask) below)
  request_starts t array x y ask below asks keeps = trap_on StartsTo m (if_in_range array x y ask) (λ a. flat.asks m t m.shared.requests a below) (λ a e.
      let own : nat_eq m.shared.requests m.shared.requests ≡ true = eq-eqb m.shared.requests m.shared.requests refl in
      let all = of_range (λ b. (is_request b ≡ true) × (keeps_limits b ≡ true)) array x y ask a (λ from len few low. (asks from (first_of array len), keeps from len few low)) e in
      asks_starts (is_cancelled m.blocks m.current.block) t m.shared.requests a below (record { link = all.0 ∙ sym own; limits = all.1 }))

  -- with no entry to come, a cancel ends only what was not offered
  calls_end : m.shared.todo ≡ [] → (block : BlockId) → Onward StartsTo (calls_off m block)
  calls_end last block = go (find test m.operations) refl
    where
      tell : Option CoreEnd → FlatEnd
      tell = told (counted m.count)

      test : Operation → Bool
      test = is_to_try (is_inside m block)

      ended : Operation → Shared → Fate → Move Flat FlatEnd
      ended o shared it = On (arrived (marked m block) shared (by_outcome it m.store test m.operations o))

      by : (o : Operation) → find test m.operations ≡ Some o → (p : Progress) → o.progress ≡ p
          → Onward StartsTo (tried tell m.shared m.store.globals m.operations o.link p (ended o))
      by o e progress.Waiting p = (one_ends test o e (ap is_waiting p), refl)
      by o e (progress.Offered number) p = subst (λ todo. Onward StartsTo (decided tell m.shared m.store.globals m.operations o.link number (ended o) todo)) (sym last) tt
      by o e (progress.Started number) p = tt

      go : (r : Option Operation) → find test m.operations ≡ r
          → Onward StartsTo (tries tell m.shared m.store m.operations test (λ shared x. On (arrived (marked m block) shared x)) (goes (marked m block) m.current.operands) r)
      go None e = same
      go (Some o) e = by o e o.progress refl

  module _ (code : Parts) (bound : ℕ) (last : m.shared.todo ≡ []) where
    begin_starts : (t : Item) (instr : Instr) → IsAtItsLink m.shared.requests instr → Onward StartsTo (begin code bound m t (Some instr))
    begin_starts t (i.Cancel level slot) h = calls_end last (block_in (cell_at m.store m.current.frame level slot))
    begin_starts t (i.Read file) h = three_start _ m.current.operands (λ x y z below.
        request_starts t (place_in z) (int_in x) (int_in y) (λ from elements. asked.Read file from elements) below (λ from elements. refl)
        (λ from len few low. within_limits file from len h few low))
    begin_starts t (i.Write file) h = three_start _ m.current.operands (λ x y z below.
        request_starts t (place_in z) (int_in x) (int_in y) (λ from elements. asked.Write file from (bytes_at m.store elements)) below (λ from elements. refl)
        (λ from len few low. ap (is_transfer file from) (bytes_long m.store (place_in z).home (place_in z).start len) ∙ within_limits file from len h few low))
    begin_starts t (i.Send channel) h = top_starts _ m.current.operands (λ x below.
        asks_starts (is_cancelled m.blocks m.current.block) t channel _ below (record { link = sym h; limits = refl }))
    begin_starts t (i.Recv channel) h = top_starts _ m.current.operands (λ x below.
        asks_starts (is_cancelled m.blocks m.current.block) t channel _ below (record { link = sym h; limits = refl }))
    begin_starts t instr h = of_leaves (begin code bound m t (Some instr)) (begin_leaves m code bound t instr refl)

    next_starts : (t : Item) (ready : List Item) → Onward StartsTo (dispatched m (t ∷ ready))
    next_starts t ready = by (nat_lt m.shared.turn (2 ^ 64 - 1)) (told m.count (seen word.OutOfSteps false m.store.globals m.operations m.shared))
      where
        by : (b : Bool) (end : FlatEnd)
            → Onward StartsTo (if b then On
            (record m { shared = with_turn m.shared; running = Some t; current = thread_at m.threads t; ready = ready; threads = slice_set m.threads t.number nobody }) else Over end)
        by true end = same
        by false end = tt

    dispatch_starts : (ready : List Item) → Onward StartsTo (dispatched m ready)
    dispatch_starts [] = tt
    dispatch_starts (t ∷ ready) = next_starts t ready

    pub exec_starts : ((t : Item) (instr : Instr) → m.running ≡ Some t → slice_get code.instrs m.current.place ≡ Some instr → IsAtItsLink m.shared.requests instr)
        → Onward StartsTo (exec code bound m)
    exec_starts fits = by m.running refl
      where
        at_place : (t : Item) → m.running ≡ Some t → (o : Option Instr) → slice_get code.instrs m.current.place ≡ o → Onward StartsTo (begin code bound m t o)
        at_place t run None e = same
        at_place t run (Some instr) e = begin_starts t instr (fits t instr run e)

        by : (o : Option Item) → m.running ≡ o → Onward StartsTo (exec_of code bound m o)
        by None run = subst (λ todo. Onward StartsTo (at_point (told m.count) m.shared m.store m.operations (λ shared x. On (arrived m shared x)) (dispatched m m.ready) todo)) (sym last)
            (dispatch_starts m.ready)
        by (Some t) run = at_place t run (slice_get code.instrs m.current.place) refl

-- one that has started stands under no offer, and so does one that was not offered
pub tracks_started : (requests : ℕ) (past : List Entry) (os new : List Operation) → Tracks requests past os → Starts requests os new → Tracks requests past new
tracks_started requests past os _ h none_starts = h
tracks_started requests past os _ h (one_starts link asked t placed) = record {
  each = λ l n.
      let was = h.each l n in
      let now : standing_of l n (os ++ started link asked t ∷ []) ≡ standing_of l n os + (one_if (nat_eq link l && false) + 0) =
      total_append (λ (o : Operation). one_if (is_offered l n o)) os (started link asked t ∷ []) in
      let none = and_false (nat_eq link l) in
      omega (arith, was, now, none);
  begun = λ n.
      let was = h.begun n in
      let now : begun_of requests n (os ++ started link asked t ∷ []) ≡ begun_of requests n os + (one_if (nat_eq link requests && false) + 0) =
      total_append (λ (o : Operation). one_if (is_begun requests n o)) os (started link asked t ∷ []) in
      let none = and_false (nat_eq link requests) in
      omega (arith, was, now, none);
  receives = All-push Receives os (started link asked t) h.receives (λ e. refl);
  placed = All-push (IsPlaced requests) os (started link asked t) h.placed placed;
}
tracks_started requests past os _ h (one_ends test o found waits) =
    let f = found_at test os o found in
    subst (Tracks requests past) (sym f.without) (record {
      each = λ l n.
          let was = h.each l n in
          let stood : standing_of l n os ≡ one_if (is_offered l n o) + standing_of l n (f.front ++ f.back) =
          ap (standing_of l n) f.is ∙ total_between (λ (p : Operation). one_if (is_offered l n p)) f.front f.back o in
          let none = not_under l n o waits in
          omega (arith, was, stood, none);
      begun = λ n.
          let was = h.begun n in
          let had : begun_of requests n os ≡ one_if (is_begun requests n o) + begun_of requests n (f.front ++ f.back) =
          ap (begun_of requests n) f.is ∙ total_between (λ (p : Operation). one_if (is_begun requests n p)) f.front f.back o in
          let none = not_begun requests n o waits in
          omega (arith, was, had, none);
      receives = all_others Receives f.back o f.front (subst (All Receives) f.is h.receives);
      placed = all_others (IsPlaced requests) f.back o f.front (subst (All (IsPlaced requests)) f.is h.placed);
    })
