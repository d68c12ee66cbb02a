-- What a core can still do becomes less with each move of its code.
-- `left` weighs the address of each activation by its rank. An address leads to lower ranks, save at a `Step`, which uses one of the steps;
-- so each kind of move is one inequation of weights (Weights), in which what the other threads weigh stays the same.
use Rattle.core_state.specs.Messages.{message_in}
use Rattle.std.proofs.Common.{◌≡◌, ℕ, ◌+◌, ◌-◌, ◌*◌, ◌<◌, List, [], ◌∷◌, ◌++◌, length, take, drop, Option, Some, None, Bool, true, false, refl, sym, ap, ◌∙◌, subst, inl}
use Rattle.std.proofs.Common.{inr, arith}
use Rattle.std.specs.Prelude.{sum, slice_get, slice_index, slice_index_or, slice_set, nat_eq, reverse, replicate, ◌&&◌, if◌then◌else◌}
use Rattle.std.proofs.lemmas.List.{length-set, get_or-set_same, get_or-set_other, get_or_append_left}
use Rattle.work_item.specs.declared.ids.Item.{Item}
use Rattle.work_item.specs.declared.ids.BlockId.{BlockId}
use Rattle.work_item.specs.declared.cell.Cell.{Cell}
use Rattle.work_item.specs.declared.cell.Cell.TheVariants as cell
use Rattle.work_item.specs.Store.{Store, int_in, place_in, no_int, released, next_frame}
use Rattle.cancel_scope.specs.declared.operation.Asked.{Asked}
use Rattle.cancel_scope.specs.declared.operation.Asked.TheVariants as asked
use Rattle.cancel_scope.specs.Outstanding.{started}
use Rattle.core_state.specs.Moves.{On}
use Rattle.core_state.specs.Frames.{begun, begun_with}
use Rattle.core_state.specs.Shared.{Shared}
use Rattle.core_state.specs.Requests.{bytes_at, first_of}
use Rattle.stack_code.specs.declared.instr.Instr.{Instr}
use Rattle.stack_code.specs.declared.instr.Instr.TheVariants as i
use Rattle.stack_code.specs.declared.parts.Entered.{Entered}
use Rattle.stack_code.specs.declared.shape.CellKind.TheVariants as kind
use Rattle.stack_code.specs.declared.shape.Shape.{Shape}
use Rattle.stack_code.specs.declared.shape.Want.TheVariants as want
use Rattle.stack_code.specs.declared.shape.Leads.{Leads}
use Rattle.stack_code.specs.declared.shape.Leads.TheVariants.{One, Two}
use Rattle.stack_code.specs.Parts.{Parts}
use Rattle.stack_code.specs.Shapes as shapes
use Rattle.stack_code.specs.Shapes.{effect, after, pushed, with_operands, first, entered, inner, body_with, is_entered, LeadsTo, width_of}
use Rattle.stack_code.specs.Valid.{IsValid, Goes}
use Rattle.stack_code.specs.Kept.{IsRanked}
use Rattle.code_meaning.specs.Machine.{Flat, Thread, Block, Caller, at, asks, operates, begin, counted, block_at, with_block, with_store, thread_at, nobody, stops, starts, one_more, counted_in}
use Rattle.code_meaning.specs.Machine.{calls, returns, arrives, arrives_in, arrives_at, dies, dies_in, counted_out}
use Rattle.code_safety.specs.Fit.{IsThread, Phase, Gone, Going, AtFinish, life_at, is_living, is_going, one_if, occurs, innermost_in, IsFit, items_of}
use Rattle.code_safety.specs.Left.{grown, at_weight, callers_weight, thread_weight, parked_weight, ready_weight, operation_weight, operations_weight, owner_weight, waiting_weight}
use Rattle.code_safety.specs.Left.{running_weight, left}
use Rattle.code_safety.proofs.Taken.{on_some_is, if_is, if_not_is, after_is}
use Rattle.code_safety.proofs.Plain.{Onward, Next, Spends, one, none, trap_on, top_on, many_on, asks_on}
use Rattle.code_safety.proofs.Lives.{same_item, living_within, total_set, total_append}
use Rattle.code_safety.proofs.Making.{there_within}
use Rattle.code_safety.proofs.Own.{phase_of, within_of, thread_of}
use Rattle.code_safety.proofs.Calling.{call_enough, return_top}
use Rattle.code_safety.proofs.Finishing.{arrival}
use Rattle.code_safety.proofs.Operating.{Operates, operating, transferring, transfer_on, given_value, value_next}
use Rattle.code_safety.proofs.Starting.{starting}
use Rattle.code_safety.proofs.Dying.{leaving}
use Rattle.code_safety.proofs.Turns.{resting, running_once, running_free, front_goes, front_once}
use Rattle.code_safety.proofs.Weights.{one_to_three, grown_some, grown_one, grown_two, weight_within, step_falls, ready_same, operations_same, waiting_same, ready_append}

module _ (code : Parts) (bound : ℕ) (m : Flat) (fit : IsFit code m) (v : IsValid code) (ranks : List ℕ) (ranked : IsRanked code ranks) where
  abbrev Less : Flat → Type 0
  Less n = left ranks bound n < left ranks bound m

  abbrev resting_weight : Flat → ℕ
  resting_weight n = ready_weight ranks n.threads n.ready + (operations_weight ranks n.threads n.operations + waiting_weight ranks n.threads n.blocks)

  -- ---- a dispatch

  module _ (idle : m.running ≡ None) (t : Item) (ready : List Item) (first : m.ready ≡ t ∷ ready) where
    aside : (u : Item) → (u.number ≡ t.number → ⊥) → thread_weight ranks (thread_at (slice_set m.threads t.number nobody) u) ≡ thread_weight ranks (thread_at m.threads u)
    aside u ne = ap (thread_weight ranks) (get_or-set_other m.threads t.number u.number nobody nobody ne)

    ready_stays : ready_weight ranks (slice_set m.threads t.number nobody) ready ≡ ready_weight ranks m.threads ready
    ready_stays = ready_same ranks m.threads (slice_set m.threads t.number nobody) ready
        (λ u some. aside u (λ e.
        let o : occurs u.number ready ≡ occurs t.number ready = ap (λ n. occurs n ready) e in
        let z = (front_once code m fit idle t ready first).0 in
        omega (arith, some, o, z)))

    operations_stay : operations_weight ranks (slice_set m.threads t.number nobody) m.operations ≡ operations_weight ranks m.threads m.operations
    operations_stay = operations_same ranks m.threads (slice_set m.threads t.number nobody) m.operations
        (λ u some. aside u (λ e.
        let o : occurs u.number (items_of m.operations) ≡ occurs t.number (items_of m.operations) = ap (λ n. occurs n (items_of m.operations)) e in
        let z = (front_once code m fit idle t ready first).1 in
        omega (arith, some, o, z)))

    waiting_stays : waiting_weight ranks (slice_set m.threads t.number nobody) m.blocks ≡ waiting_weight ranks m.threads m.blocks
    waiting_stays = waiting_same ranks m.threads (slice_set m.threads t.number nobody) m.blocks
        (λ n x e w. aside x.owner (λ same.
        let there = (fit.block (record { number = n }) x e).waits w in
        let mine : (life_at fit.lives t).phase ≡ AtFinish (record { number = n }) = ap (λ (u : Item). (life_at fit.lives u).phase) (same_item t x.owner (sym same)) ∙ there in
        let no : false ≡ true = sym (ap is_going mine) ∙ front_goes code m fit idle t ready first in cc))

    pub dispatch_falls : (shared : Shared) → shared.steps ≡ m.shared.steps
        → Less (record m { shared = shared; running = Some t; current = thread_at m.threads t; ready = ready; threads = slice_set m.threads t.number nobody })
    dispatch_falls shared steps =
        let r : running_weight ranks m.current m.running ≡ 0 = ap (running_weight ranks m.current) idle in
        let q : ready_weight ranks m.threads m.ready ≡ (1 + thread_weight ranks (thread_at m.threads t)) + ready_weight ranks m.threads ready = ap (ready_weight ranks m.threads) first in
        let s : (bound - shared.steps) * grown (sum ranks) ≡ (bound - m.shared.steps) * grown (sum ranks) = ap (λ k. (bound - k) * grown (sum ranks)) steps in
        let a = ready_stays in
        let o = operations_stay in
        let w = waiting_stays in
        omega (arith, r, q, s, a, o, w)

  module _ (t : Item) (run : m.running ≡ Some t) where
    abbrev h : IsThread code fit.births m.store m.blocks t (life_at fit.lives t).start m.current
    h = thread_of code m fit t run

    abbrev s : Shape
    s = h.shape

    abbrev place : ℕ
    place = m.current.place

    runs_now : running_weight ranks m.current m.running ≡ at_weight ranks place + callers_weight ranks m.current.callers
    runs_now = ap (running_weight ranks m.current) run

    rank_falls : (instr : Instr) → slice_get code.instrs place ≡ Some instr → (instr ≡ i.Step → ⊥) → (to : ℕ) (u : Shape) → Goes code place s to u → slice_index ranks to < slice_index ranks place
    rank_falls instr here other to u goes =
        ranked.falls place to (record {
          shape = s;
          next = u;
          reached = h.top.reached;
          goes = goes;
          no_step = λ e. other (let both : Some instr ≡ Some i.Step = sym here ∙ e in cc);
        })

    one_falls : (instr : Instr) → slice_get code.instrs place ≡ Some instr → (instr ≡ i.Step → ⊥) → (to : ℕ) (u : Shape) → Goes code place s to u → 4 + at_weight ranks to < at_weight ranks place
    one_falls instr here other to u goes = grown_one (slice_index ranks to) (slice_index ranks place) (rank_falls instr here other to u goes)

    -- ---- in the same activation

    pub plain_falls : (instr : Instr) → slice_get code.instrs place ≡ Some instr → (next : Flat) → Next code bound m fit.births s instr next → Less next
    plain_falls instr here next n = go n.spends
      where
        run_next : running_weight ranks next.current next.running ≡ at_weight ranks next.current.place + callers_weight ranks m.current.callers
        run_next =
            let r : next.running ≡ Some t = ap (λ (f : Flat). f.running) n.others ∙ run in
            let c : next.current.callers ≡ m.current.callers = ap (λ (f : Flat). f.current.callers) n.others in
            ap (running_weight ranks next.current) r ∙ ap (λ cs. at_weight ranks next.current.place + callers_weight ranks cs) c

        resting_next : resting_weight next ≡ resting_weight m
        resting_next = ap resting_weight n.others

        go : Spends bound instr m.shared.steps next.shared.steps → Less next
        go (one is lt e) =
            let some = grown_some (slice_index ranks place) in
            let f = step_falls bound m.shared.steps (grown (sum ranks)) (at_weight ranks next.current.place) (at_weight ranks place)
            (callers_weight ranks m.current.callers + resting_weight m) lt
            (weight_within ranks next.current.place) (omega (arith, some)) in
            let a = run_next in
            let b = resting_next in
            let c = runs_now in
            let k : (bound - next.shared.steps) * grown (sum ranks) ≡ (bound - (m.shared.steps + 1)) * grown (sum ranks) = ap (λ q. (bound - q) * grown (sum ranks)) e in
            omega (arith, f, a, b, c, k)
        go (none other e) =
            let f = one_falls instr here other next.current.place n.shape n.goes in
            let a = run_next in
            let b = resting_next in
            let c = runs_now in
            let k : (bound - next.shared.steps) * grown (sum ranks) ≡ (bound - m.shared.steps) * grown (sum ranks) = ap (λ q. (bound - q) * grown (sum ranks)) e in
            omega (arith, f, a, b, c, k)

    -- the running thread alone has changed
    own_falls : (next : Flat) (w : ℕ) → left ranks bound next ≡ (bound - m.shared.steps) * grown (sum ranks) + (w + resting_weight m)
        → w < at_weight ranks place + callers_weight ranks m.current.callers → Less next
    own_falls next w e lt = let c = runs_now in omega (arith, e, lt, c)

    run_is : (f : Thread) → running_weight ranks f m.running ≡ thread_weight ranks f
    run_is f = ap (running_weight ranks f) run

    -- ---- a call

    -- One activation becomes two, that of the caller and that of the function, both at addresses of lower rank: `grown` of the rank is more
    -- than both.
    pub call_falls : (number count : ℕ) (leads : Leads) → slice_get code.instrs place ≡ Some (i.Call number count) → effect code place (i.Call number count) s ≡ Some leads
        → Onward Less (begin code bound m t (Some (i.Call number count)))
    call_falls number count leads here finds =
        let f = on_some_is (slice_get code.functions number) (shapes.calls place number count s) leads finds in
        let function = f.0 in
        let ways = (λ (x : Shape). Some (Two (place + 1) (pushed kind.Int x) function.at (first number function))) in
        let c = if_is (nat_eq count (length function.params)) (after (shapes.arguments function.params) s ways) leads f.1.1 in
        let a = after_is (shapes.arguments function.params) s ways leads c.1 in
        let u = record s { operands = a.0 } in
        let on = finds ∙ sym a.1.1 in
        let goes = (λ (to : ℕ) (v : Shape) (l : LeadsTo (Two (place + 1) (pushed kind.Int u) function.at (first number function)) to v). let g : Goes code place s to v = record {
          fits = record { instr = i.Call number count; leads = Two (place + 1) (pushed kind.Int u) function.at (first number function); here = here; finds = on };
          leads = l;
        } in g) in
        let back = rank_falls (i.Call number count) here (λ e. cc) (place + 1) (pushed kind.Int u) (goes (place + 1) (pushed kind.Int u) (inl (refl, refl))) in
        let into = rank_falls (i.Call number count) here (λ e. cc) function.at (first number function) (goes function.at (first number function) (inr (refl, refl))) in
        let both = grown_two (slice_index ranks function.at) (slice_index ranks (place + 1)) (slice_index ranks place) into back in
        many_on Less m count (λ args below. calls m (slice_get code.functions number) args below) m.current.operands (call_enough code bound m fit t run v number count leads finds)
        (subst (λ x. Onward Less (calls m x (reverse (take count m.current.operands)) (drop count m.current.operands))) (sym f.1.0) (made function both))
      where
        made : (function : Entered) → 1 + (at_weight ranks function.at + at_weight ranks (place + 1)) < at_weight ranks place
            → Onward Less (calls m (Some function) (reverse (take count m.current.operands)) (drop count m.current.operands))
        made function both = trap_on Less m (begun_with m.store function.params function.words (reverse (take count m.current.operands))) _ (λ store e.
            own_falls (record m {
              store = store;
              current = record {
                place = function.at;
                frame = next_frame m.store;
                operands = [];
                callers = record { place = place + 1; frame = m.current.frame; operands = drop count m.current.operands } ∷ m.current.callers;
                block = m.current.block;
              };
              count = counted m.count;
            })
            (at_weight ranks function.at + (at_weight ranks (place + 1) + callers_weight ranks m.current.callers)) (rw run refl) (omega (arith, both)))

    pub return_falls : (leads : Leads) → effect code place i.Ret s ≡ Some leads → Onward Less (begin code bound m t (Some i.Ret))
    return_falls leads finds =
        let o = return_top code bound m fit t run v leads finds in
        top_on Less m (λ x below. returns m (cell.Int (int_in x)) m.current.callers) m.current.operands o.0 o.1.0 o.1.1 (go (cell.Int (int_in o.0)) m.current.callers refl)
      where
        go : (value : Cell) (callers : List Caller) → m.current.callers ≡ callers → Onward Less (returns m value callers)
        go value [] e = tt
        go value (c ∷ callers) e =
            let some = grown_some (slice_index ranks place) in
            let w : callers_weight ranks m.current.callers ≡ at_weight ranks c.place + callers_weight ranks callers = ap (callers_weight ranks) e in
            own_falls (record m {
              store = released m.store m.current.frame;
              current = record m.current { place = c.place; frame = c.frame; operands = value ∷ c.operands; callers = callers };
              count = counted m.count;
            })
            (at_weight ranks c.place + callers_weight ranks callers) (rw run refl) (omega (arith, some, w))

    -- ---- a block is entered

    pub enter_falls : (slot : ℕ) (leads : Leads) → slice_get code.instrs place ≡ Some (i.Enter slot) → effect code place (i.Enter slot) s ≡ Some leads
        → Onward Less (begin code bound m t (Some (i.Enter slot)))
    enter_falls slot leads here finds =
        let f = on_some_is (body_with s 0 slot 1) (λ body. if is_entered s 0 slot then None else shapes.goes place (entered slot s)) leads finds in
        let c = if_not_is (is_entered s 0 slot) (shapes.goes place (entered slot s)) leads f.1.1 in
        let on = finds ∙ sym c.1 in
        let goes : Goes code place s (place + 1) (entered slot s) =
        record { fits = record { instr = i.Enter slot; leads = One (place + 1) (entered slot s); here = here; finds = on }; leads = (refl, refl) } in
        let lt = one_falls (i.Enter slot) here (λ e. cc) (place + 1) (entered slot s) goes in
        let new : Block = record { parent = m.current.block; owner = t; count = 0; waits = false; cancelled = false } in
        let w : waiting_weight ranks m.threads (m.blocks ++ Some new ∷ []) ≡ waiting_weight ranks m.threads m.blocks + (0 + 0) = total_append (owner_weight ranks m.threads) m.blocks (Some new ∷ []) in
        let c = runs_now in
        let r : running_weight ranks (record m.current { place = place + 1; block = Some (record { number = length m.blocks }) }) m.running ≡ at_weight ranks
        (place + 1) + callers_weight ranks m.current.callers =
        run_is (record m.current { place = place + 1; block = Some (record { number = length m.blocks }) }) in
        omega (arith, lt, w, c, r)

    -- ---- the thread is kept

    other_thread : (kept : Thread) (u : Item) → (t ≡ u → ⊥) → thread_at (slice_set m.threads t.number kept) u ≡ thread_at m.threads u
    other_thread kept u ne = get_or-set_other m.threads t.number u.number kept nobody (λ e. ne (same_item t u (sym e)))

    own_thread : (kept : Thread) → thread_at (slice_set m.threads t.number kept) t ≡ kept
    own_thread kept = let lt = within_of code m fit t run in let k = fit.many in get_or-set_same m.threads t.number kept nobody (omega (arith, lt, k))

    ready_other : (u : Item) → 0 < occurs u.number m.ready → t ≡ u → ⊥
    ready_other u lt e = let k = running_once code m fit t run in let n : occurs u.number m.ready ≡ occurs t.number m.ready = ap (λ (z : Item). occurs z.number m.ready) (sym e) in
        omega (arith, lt, k, n)

    operating_other : (u : Item) → 0 < occurs u.number (items_of m.operations) → t ≡ u → ⊥
    operating_other u lt e =
        let k = running_free code m fit t run in
        let n : occurs u.number (items_of m.operations) ≡ occurs t.number (items_of m.operations) = ap (λ (z : Item). occurs z.number (items_of m.operations)) (sym e) in
        omega (arith, lt, k, n)

    waiting_other : (n : ℕ) (x : Block) → slice_index_or m.blocks n None ≡ Some x → x.waits ≡ true → t ≡ x.owner → ⊥
    waiting_other n x e w same =
        let phase = (fit.block (record { number = n }) x e).waits w in
        let no : Going ≡ AtFinish (record { number = n }) = sym (phase_of code m fit t run) ∙ ap (λ k. (life_at fit.lives k).phase) same ∙ phase in
        cc

    ready_kept : (kept : Thread) → ready_weight ranks (slice_set m.threads t.number kept) m.ready ≡ ready_weight ranks m.threads m.ready
    ready_kept kept = ready_same ranks m.threads (slice_set m.threads t.number kept) m.ready (λ u lt. ap (thread_weight ranks) (other_thread kept u (ready_other u lt)))

    operations_kept : (kept : Thread) → operations_weight ranks (slice_set m.threads t.number kept) m.operations ≡ operations_weight ranks m.threads m.operations
    operations_kept kept = operations_same ranks m.threads (slice_set m.threads t.number kept) m.operations (λ u lt. ap (thread_weight ranks) (other_thread kept u (operating_other u lt)))

    waiting_kept : (kept : Thread) → waiting_weight ranks (slice_set m.threads t.number kept) m.blocks ≡ waiting_weight ranks m.threads m.blocks
    waiting_kept kept = waiting_same ranks m.threads (slice_set m.threads t.number kept) m.blocks (λ n x e w. ap (thread_weight ranks) (other_thread kept x.owner (waiting_other n x e w)))

    pub yield_falls : slice_get code.instrs place ≡ Some i.Yield → Onward Less (begin code bound m t (Some i.Yield))
    yield_falls here =
        let goes : Goes code place s (place + 1) s = record { fits = record { instr = i.Yield; leads = One (place + 1) s; here = here; finds = refl }; leads = (refl, refl) } in
        let lt = one_falls i.Yield here (λ e. cc) (place + 1) s goes in
        let kept = record m.current { place = place + 1 } in
        let a = ready_append ranks (slice_set m.threads t.number kept) m.ready (t ∷ []) in
        let own : parked_weight ranks (slice_set m.threads t.number kept) t ≡ 1 + (at_weight ranks (place + 1) + callers_weight ranks m.current.callers) =
        ap (λ h. 1 + thread_weight ranks h) (own_thread kept) in
        let r = ready_kept kept in
        let q = operations_kept kept in
        let w = waiting_kept kept in
        let c = runs_now in
        omega (arith, lt, a, own, r, q, w, c)

    -- ---- an operation starts

    operates_falls : (instr : Instr) → slice_get code.instrs place ≡ Some instr → (instr ≡ i.Step → ⊥) → (z : Operates code bound m fit t run instr) → (link : ℕ) (a : Asked)
        → Less (operates m t link a z.below)
    operates_falls instr here other z link a =
        let lt = one_falls instr here other (place + 1) (pushed kind.Int (with_operands s z.kinds)) z.goes in
        let kept = at m.current (place + 1) z.below in
        let new = started link a t in
        let threads = slice_set m.threads t.number kept in
        let all : operations_weight ranks threads (m.operations ++ new ∷ []) ≡ operations_weight ranks threads m.operations + (operation_weight ranks threads new + 0) =
        total_append (operation_weight ranks threads) m.operations (new ∷ []) in
        let most = (one_to_three new).1 in
        let own : parked_weight ranks threads t ≡ 1 + (at_weight ranks (place + 1) + callers_weight ranks m.current.callers) = ap (λ h. 1 + thread_weight ranks h) (own_thread kept) in
        let r = ready_kept kept in
        let q = operations_kept kept in
        let w = waiting_kept kept in
        let c = runs_now in
        omega (arith, lt, all, most, own, r, q, w, c)

    started_falls : (instr : Instr) → slice_get code.instrs place ≡ Some instr → (instr ≡ i.Step → ⊥) → (z : Operates code bound m fit t run instr) → (link : ℕ) (a : Asked)
        → Onward Less (asks m t link a z.below)
    started_falls instr here other z link a =
        asks_on Less m t link a z.below (plain_falls instr here (given_value code bound m fit t run instr z other) (value_next code bound m fit t run instr z other))
        (operates_falls instr here other z link a)

    pub send_falls : (channel : ℕ) (leads : Leads) → slice_get code.instrs place ≡ Some (i.Send channel) → effect code place (i.Send channel) s ≡ Some leads
        → Onward Less (begin code bound m t (Some (i.Send channel)))
    send_falls channel leads here finds =
        let z = operating code bound m fit t run (want.Message (width_of code channel)) (i.Send channel) channel leads here refl finds in
        top_on Less m _ m.current.operands z.top z.on.below z.is (started_falls (i.Send channel) here (λ e. cc) z.on channel (asked.Send (message_in m.store z.top)))

    pub receive_falls : (channel : ℕ) (leads : Leads) → slice_get code.instrs place ≡ Some (i.Recv channel) → effect code place (i.Recv channel) s ≡ Some leads
        → Onward Less (begin code bound m t (Some (i.Recv channel)))
    receive_falls channel leads here finds =
        let z = operating code bound m fit t run (want.Elements (width_of code channel)) (i.Recv channel) channel leads here refl finds in
        top_on Less m _ m.current.operands z.top z.on.below z.is (started_falls (i.Recv channel) here (λ e. cc) z.on channel (asked.Recv (place_in z.top)))

    pub read_falls : (file : ℕ) (leads : Leads) → slice_get code.instrs place ≡ Some (i.Read file) → effect code place (i.Read file) s ≡ Some leads
        → Onward Less (begin code bound m t (Some (i.Read file)))
    read_falls file leads here finds =
        let z = transferring code bound m fit t run (i.Read file) file leads here refl finds in
        transfer_on code bound m fit t run Less (i.Read file) z (λ from elements. asked.Read file from elements)
        (λ from len le. started_falls (i.Read file) here (λ e. cc) z.on m.shared.requests (asked.Read file from (first_of (place_in z.array) len)))

    pub write_falls : (file : ℕ) (leads : Leads) → slice_get code.instrs place ≡ Some (i.Write file) → effect code place (i.Write file) s ≡ Some leads
        → Onward Less (begin code bound m t (Some (i.Write file)))
    write_falls file leads here finds =
        let z = transferring code bound m fit t run (i.Write file) file leads here refl finds in
        transfer_on code bound m fit t run Less (i.Write file) z (λ from elements. asked.Write file from (bytes_at m.store elements))
        (λ from len le. started_falls (i.Write file) here (λ e. cc) z.on m.shared.requests (asked.Write file from (bytes_at m.store (first_of (place_in z.array) len))))

    -- ---- an arrival

    -- The thread goes on behind it, at a lower rank, or waits there as the owner of its block, with a dispatch before it.
    pub finish_falls : (slot : ℕ) (leads : Leads) → slice_get code.instrs place ≡ Some (i.Finish slot) → effect code place (i.Finish slot) s ≡ Some leads
        → Onward Less (begin code bound m t (Some (i.Finish slot)))
    finish_falls slot leads here finds =
        let a = arrival code bound m fit t run slot here leads finds in
        let goes : Goes code place s (place + 1) a.u = record { fits = record { instr = i.Finish slot; leads = One (place + 1) a.u; here = here; finds = a.ways }; leads = (refl, refl) } in
        let lt = one_falls (i.Finish slot) here (λ e. cc) (place + 1) a.u goes in
        let n = a.innermost in
        subst (λ o. Onward Less (arrives m t o)) (sym n.is) (subst (λ o. Onward Less (arrives_in m t n.b o)) (sym n.here) (go n.b n.x n.here n.owner lt (nat_eq n.x.count 0)))
      where
        go : (b : BlockId) (x : Block) → block_at m.blocks b ≡ Some x → x.owner ≡ t → 4 + at_weight ranks (place + 1) < at_weight ranks place → (z : Bool) → Onward Less (arrives_at z m t b x)
        go b x at owner lt true =
            let set = total_set (owner_weight ranks m.threads) m.blocks b.number None None (there_within m.blocks b.number x at) in
            let w : waiting_weight ranks m.threads (with_block m.blocks b None) + owner_weight ranks m.threads (block_at m.blocks b) ≡ waiting_weight ranks m.threads m.blocks + 0 = set in
            let c = runs_now in
            let r = run_is (record m.current { place = place + 1; block = x.parent }) in
            omega (arith, lt, w, c, r)
        go b x at owner lt false =
            let kept = record m.current { place = place + 1; block = x.parent } in
            let threads = slice_set m.threads t.number kept in
            let asleep : Block = record x { waits = true } in
            let set : waiting_weight ranks threads (with_block m.blocks b (Some asleep)) + owner_weight ranks threads
            (block_at m.blocks b) ≡ waiting_weight ranks threads m.blocks + parked_weight ranks threads x.owner =
            total_set (owner_weight ranks threads) m.blocks b.number (Some asleep) None (there_within m.blocks b.number x at) in
            let own : parked_weight ranks threads x.owner ≡ 1 + (at_weight ranks (place + 1) + callers_weight ranks m.current.callers) =
            ap (parked_weight ranks threads) owner ∙ ap (λ h. 1 + thread_weight ranks h) (own_thread kept) in
            let r = ready_kept kept in
            let q = operations_kept kept in
            let w = waiting_kept kept in
            let c = runs_now in
            omega (arith, lt, set, own, r, q, w, c)

    -- ---- a thread is started

    -- One thread becomes two: the body runs at its address and its creator is ready behind the `Async`, with a dispatch before it. Both are of
    -- lower rank; the weights of the other threads, in a table with one more, are the same.
    pub async_falls : (slots to : ℕ) (leads : Leads) → slice_get code.instrs place ≡ Some (i.Async slots to) → effect code place (i.Async slots to) s ≡ Some leads
        → Onward Less (begin code bound m t (Some (i.Async slots to)))
    async_falls slots to leads here finds =
        let z = starting code bound m fit t run v slots to here leads finds in
        let goes = (λ (a : ℕ) (u : Shape) (l : LeadsTo (Two (place + 1) (inner place slots s) to s) a u). let g : Goes code place s a u = record {
          fits = record { instr = i.Async slots to; leads = Two (place + 1) (inner place slots s) to s; here = here; finds = z.ways };
          leads = l;
        } in g) in
        let on = rank_falls (i.Async slots to) here (λ e. cc) to s (goes to s (inr (refl, refl))) in
        let into = rank_falls (i.Async slots to) here (λ e. cc) (place + 1) (inner place slots s) (goes (place + 1) (inner place slots s) (inl (refl, refl))) in
        let both = grown_two (slice_index ranks to) (slice_index ranks (place + 1)) (slice_index ranks place) on into in
        trap_on Less m (begun m.store (Some m.current.frame) (replicate slots no_int)) (λ store. On (starts m t to store)) (λ store e. made z.there.b z.there.is z.there.x z.there.at both store)
      where
        made : (b : BlockId) → m.current.block ≡ Some b → (x : Block) → block_at m.blocks b ≡ Some x → 1 + (at_weight ranks to + at_weight ranks (place + 1)) < at_weight ranks place → (store : Store)
            → Less (starts m t to store)
        made b is x at both store =
            let creator = record m.current { place = to } in
            let front = slice_set m.threads t.number creator in
            let threads = front ++ nobody ∷ [] in
            let long = length-set m.threads t.number creator in
            let still = (λ (u : Item) (lt : u.number < length m.threads). let e : thread_at threads u ≡ thread_at front u = get_or_append_left front (nobody ∷ []) nobody u.number
            (omega (arith, lt, long)) in e) in
            let r : ready_weight ranks threads m.ready ≡ ready_weight ranks m.threads m.ready =
            ready_same ranks m.threads threads m.ready (λ u lt. ap (thread_weight ranks) (still u (ready_within u lt) ∙ other_thread creator u (ready_other u lt))) in
            let q : operations_weight ranks threads m.operations ≡ operations_weight ranks m.threads m.operations =
            operations_same ranks m.threads threads m.operations (λ u lt. ap (thread_weight ranks) (still u (operating_within u lt) ∙ other_thread creator u (operating_other u lt))) in
            let w : waiting_weight ranks threads m.blocks ≡ waiting_weight ranks m.threads m.blocks =
            waiting_same ranks m.threads threads m.blocks (λ n y e k. ap (thread_weight ranks) (still y.owner (owner_within n y e) ∙ other_thread creator y.owner (waiting_other n y e k))) in
            let t_within : t.number < length m.threads = let lt = within_of code m fit t run in let k = fit.many in omega (arith, lt, k) in
            let own : parked_weight ranks threads t ≡ 1 + (at_weight ranks to + callers_weight ranks m.current.callers) = ap (λ h. 1 + thread_weight ranks h) (still t t_within ∙ own_thread creator) in
            let more : counted_in m.blocks m.current.block ≡ with_block m.blocks b (Some (record x { count = x.count + 1 })) = ap (counted_in m.blocks) is
            ∙ ap (λ o. with_block m.blocks b (one_more o)) at in
            let set : waiting_weight ranks threads (with_block m.blocks b (Some (record x { count = x.count + 1 }))) + owner_weight ranks threads
            (block_at m.blocks b) ≡ waiting_weight ranks threads m.blocks + owner_weight ranks threads (Some x) =
            total_set (owner_weight ranks threads) m.blocks b.number (Some (record x { count = x.count + 1 })) None (there_within m.blocks b.number x at) in
            let same : owner_weight ranks threads (block_at m.blocks b) ≡ owner_weight ranks threads (Some x) = ap (owner_weight ranks threads) at in
            let all : waiting_weight ranks threads (counted_in m.blocks m.current.block) ≡ waiting_weight ranks threads (with_block m.blocks b (Some (record x { count = x.count + 1 }))) =
            ap (waiting_weight ranks threads) more in
            let c = runs_now in
            omega (arith, r, q, w, own, set, same, all, c, both)
          where
            rests_within : (u : Item) → 0 < resting m u.number → u.number < length m.threads
            rests_within u lt =
                let l = fit.listed u.number in
                let living = some_going (life_at fit.lives u).phase (omega (arith, l, lt)) in
                let k = living_within fit.lives u living in
                let n = fit.many in
                omega (arith, k, n)
              where
                some_going : (p : Phase) → 0 < one_if (is_going p) → is_living p ≡ true
                some_going Gone e = absurd (omega (arith, e))
                some_going Going e = refl
                some_going (AtFinish c) e = refl

            ready_within : (u : Item) → 0 < occurs u.number m.ready → u.number < length m.threads
            ready_within u lt = rests_within u (omega (arith, lt))

            operating_within : (u : Item) → 0 < occurs u.number (items_of m.operations) → u.number < length m.threads
            operating_within u lt = rests_within u (omega (arith, lt))

            owner_within : (n : ℕ) (y : Block) → slice_index_or m.blocks n None ≡ Some y → y.owner.number < length m.threads
            owner_within n y e =
                let o = fit.block (record { number = n }) y e in
                let k = living_within fit.lives y.owner (some_inner (life_at fit.lives y.owner).phase (life_at fit.lives y.owner).thread.block o.inner o.innermost) in
                let l = fit.many in
                omega (arith, k, l)
              where
                some_inner : (p : Phase) (o : Option BlockId) (q : BlockId) → innermost_in p o ≡ Some q → is_living p ≡ true
                some_inner Gone o q e = let no : None ≡ Some q = e in cc
                some_inner Going o q e = refl
                some_inner (AtFinish c) o q e = refl

    -- ---- a thread ends

    pub end_falls : (leads : Leads) → effect code place i.End s ≡ Some leads → Onward Less (begin code bound m t (Some i.End))
    end_falls leads finds =
        let l = leaving code bound m fit t run leads finds in
        subst (λ z. Less (dies (with_store m (released m.store m.current.frame)) t z)) (sym l.block) (subst (λ z. Less (dies_in (with_store m (released m.store m.current.frame)) t l.b z)) (sym l.here)
        (go l.b l.x l.here l.older (nat_eq l.x.count 1) l.x.waits refl))
      where
        go : (b : BlockId) (x : Block) → block_at m.blocks b ≡ Some x → x.owner.number < t.number → (p q : Bool) → x.waits ≡ q
            → Less (counted_out (p && q) (with_store m (released m.store m.current.frame)) t b x)
        go b x at older p q e = by p q e
          where
            less_one : Less (stops (with_store m (released m.store m.current.frame)) t nobody m.ready (with_block m.blocks b (Some (record x { count = x.count - 1 }))))
            less_one =
                let threads = slice_set m.threads t.number nobody in
                let set : waiting_weight ranks threads (with_block m.blocks b (Some (record x { count = x.count - 1 }))) + owner_weight ranks threads
                (block_at m.blocks b) ≡ waiting_weight ranks threads m.blocks + owner_weight ranks threads (Some x) =
                total_set (owner_weight ranks threads) m.blocks b.number (Some (record x { count = x.count - 1 })) None (there_within m.blocks b.number x at) in
                let same : owner_weight ranks threads (block_at m.blocks b) ≡ owner_weight ranks threads (Some x) = ap (owner_weight ranks threads) at in
                let r = ready_kept nobody in
                let q = operations_kept nobody in
                let w = waiting_kept nobody in
                let c = runs_now in
                let some = grown_some (slice_index ranks place) in
                omega (arith, set, same, r, q, w, c, some)

            wakes : x.waits ≡ true → Less (stops (with_store m (released m.store m.current.frame)) t nobody (x.owner ∷ m.ready) (with_block m.blocks b None))
            wakes k =
                let threads = slice_set m.threads t.number nobody in
                let set : waiting_weight ranks threads (with_block m.blocks b None) + owner_weight ranks threads (block_at m.blocks b) ≡ waiting_weight ranks threads m.blocks + 0 =
                total_set (owner_weight ranks threads) m.blocks b.number None None (there_within m.blocks b.number x at) in
                let same : owner_weight ranks threads (block_at m.blocks b) ≡ parked_weight ranks threads x.owner = ap (owner_weight ranks threads) at
                ∙ ap (λ z. if z then parked_weight ranks threads x.owner else 0) k in
                let r = ready_kept nobody in
                let q = operations_kept nobody in
                let w = waiting_kept nobody in
                let c = runs_now in
                let some = grown_some (slice_index ranks place) in
                omega (arith, set, same, r, q, w, c, some)

            by : (p q : Bool) → x.waits ≡ q → Less (counted_out (p && q) (with_store m (released m.store m.current.frame)) t b x)
            by true true k = wakes k
            by true false k = less_one
            by false q k = less_one
