-- Each move of valid code leads from a fit state to a fit state in which less is left to do or to come, or to an end.
-- Here the cases of the files beside it come together: an instruction of the running thread, by its kind; a dispatch; an entry that comes
-- in; and a cancel, which alone takes entries in the middle of an instruction.
use Rattle.std.proofs.Common.{◌≡◌, ℕ, suc, ◌<◌, List, [], ◌∷◌, length, Option, Some, None, Bool, true, false, refl, sym, ap, subst, arith}
use Rattle.std.specs.Prelude.{slice_get, slice_set, nat_eq, nat_lt, ◌^◌, ◌-◌, if◌then◌else◌}
use Rattle.ac_base.specs.declared.entry.Event.TheVariants as event
use Rattle.ac_base.specs.declared.entry.Entry.{Entry}
use Rattle.ac_base.specs.declared.ends.EndWord.TheVariants as word
use Rattle.work_item.specs.declared.ids.Item.{Item}
use Rattle.work_item.specs.declared.cell.Cell.TheVariants as cell
use Rattle.work_item.specs.Store.{cell_at}
use Rattle.core_state.specs.Moves.{Move, On, Over}
use Rattle.core_state.specs.Frames.{block_in}
use Rattle.core_state.specs.Arrivals as arrivals
use Rattle.core_state.specs.Arrivals.{Arrival, at_point, comes_in}
use Rattle.core_state.specs.Shared.{Shared, with_entry, with_turn, seen}
use Rattle.stack_code.specs.declared.instr.Instr.{Instr}
use Rattle.stack_code.specs.declared.instr.Instr.TheVariants as i
use Rattle.stack_code.specs.declared.shape.Shape.{Shape}
use Rattle.stack_code.specs.declared.shape.Leads.{Leads}
use Rattle.stack_code.specs.Parts.{Parts}
use Rattle.stack_code.specs.Shapes.{effect}
use Rattle.stack_code.specs.Valid.{IsValid, Fits}
use Rattle.stack_code.specs.Kept.{IsRanked}
use Rattle.code_meaning.specs.Machine.{Flat, FlatEnd, arrived, resumed, begin, exec, exec_of, dispatched, told, nobody, thread_at}
use Rattle.code_safety.specs.Fit.{IsThread, life_at, IsFit}
use Rattle.code_safety.specs.Left.{left, left_to_come}
use Rattle.code_safety.proofs.Alike.{is_cancel, more_to_come}
use Rattle.code_safety.proofs.Journal.{Too, begin_too}
use Rattle.code_safety.proofs.Plain.{is_plain, Onward, on_both, on_each, Next, onward}
use Rattle.code_safety.proofs.Own.{thread_of}
use Rattle.code_safety.proofs.PlainFit.{plain_fit}
use Rattle.code_safety.proofs.Turns.{yield_fit, dispatch_fit}
use Rattle.code_safety.proofs.Operating.{send_fit, receive_fit, read_fit, write_fit}
use Rattle.code_safety.proofs.CancelSafety.{cancel_better}
use Rattle.code_safety.proofs.Arriving.{comes_of, arrived_fit}
use Rattle.code_safety.proofs.ArrivalWeights.{arrived_falls}
use Rattle.code_safety.proofs.Calling.{call_fit, return_fit}
use Rattle.code_safety.proofs.Entering.{enter_fit}
use Rattle.code_safety.proofs.Finishing.{finish_fit}
use Rattle.code_safety.proofs.Starting.{async_fit}
use Rattle.code_safety.proofs.Dying.{end_fit}
use Rattle.code_safety.proofs.Falling.{dispatch_falls, plain_falls, call_falls, return_falls, enter_falls, yield_falls, send_falls, receive_falls, read_falls, write_falls}
use Rattle.code_safety.proofs.Falling.{finish_falls, async_falls, end_falls}

-- ---- one move

-- an entry, whatever it is
abbrev any : Entry
any = record { stamp = 0; turn = 0; event = event.Know 0 0 }

module _ (code : Parts) (bound : ℕ) (v : IsValid code) (ranks : List ℕ) (ranked : IsRanked code ranks) (m : Flat) (fit : IsFit code m) where
  abbrev Less : Flat → Type 0
  Less n = left ranks bound n < left ranks bound m

  abbrev Better : Flat → Type 0
  Better n = IsFit code n × Less n

  abbrev BetterToCome : Flat → Type 0
  BetterToCome n = IsFit code n × (left_to_come ranks bound n < left_to_come ranks bound m)

  module _ (t : Item) (run : m.running ≡ Some t) where
    abbrev h : IsThread code fit.births m.store m.blocks t (life_at fit.lives t).start m.current
    h = thread_of code m fit t run

    abbrev s : Shape
    s = h.shape

    abbrev place : ℕ
    place = m.current.place

    plain_on : (instr : Instr) (leads : Leads) → slice_get code.instrs place ≡ Some instr → effect code place instr s ≡ Some leads → is_plain instr ≡ true
        → Onward Better (begin code bound m t (Some instr))
    plain_on instr leads here finds p = on_each (Next code bound m fit.births s instr) Better (begin code bound m t (Some instr))
        (λ n k. (plain_fit code bound m fit t run instr n k, plain_falls code bound m fit v ranks ranked t run instr here n k))
        (onward code bound m fit.births t s v.one_use fit.store h.top t instr leads here finds p)

    by_instr : (instr : Instr) (leads : Leads) → slice_get code.instrs place ≡ Some instr → effect code place instr s ≡ Some leads
        → is_cancel (Some instr) ≡ false → Onward Better (begin code bound m t (Some instr))
    by_instr (i.Call number count) leads here finds other = on_both (IsFit code) Less (begin code bound m t (Some (i.Call number count)))
        (call_fit code bound m fit t run v number count leads here finds) (call_falls code bound m fit v ranks ranked t run number count leads here finds)
    by_instr i.Ret leads here finds other =
        on_both (IsFit code) Less (begin code bound m t (Some i.Ret)) (return_fit code bound m fit t run v leads finds) (return_falls code bound m fit v ranks ranked t run leads finds)
    by_instr (i.Enter slot) leads here finds other = (enter_fit code bound m fit t run v slot here leads finds, enter_falls code bound m fit v ranks ranked t run slot leads here finds)
    by_instr (i.Finish slot) leads here finds other = on_both (IsFit code) Less (begin code bound m t (Some (i.Finish slot)))
        (finish_fit code bound m fit t run slot here leads finds) (finish_falls code bound m fit v ranks ranked t run slot leads here finds)
    by_instr (i.Async slots to) leads here finds other = on_both (IsFit code) Less (begin code bound m t (Some (i.Async slots to)))
        (async_fit code bound m fit t run v slots to here leads finds) (async_falls code bound m fit v ranks ranked t run slots to leads here finds)
    by_instr i.End leads here finds other =
        on_both (IsFit code) Less (begin code bound m t (Some i.End)) (end_fit code bound m fit t run leads finds) (end_falls code bound m fit v ranks ranked t run leads finds)
    by_instr i.Yield leads here finds other = (yield_fit code m fit t run here, yield_falls code bound m fit v ranks ranked t run here)
    by_instr (i.Cancel level slot) leads here finds other = let no : true ≡ false = other in absurd (cc)
    by_instr (i.Send channel) leads here finds other = on_both (IsFit code) Less (begin code bound m t (Some (i.Send channel)))
        (send_fit code bound m fit t run channel leads here finds) (send_falls code bound m fit v ranks ranked t run channel leads here finds)
    by_instr (i.Recv channel) leads here finds other = on_both (IsFit code) Less (begin code bound m t (Some (i.Recv channel)))
        (receive_fit code bound m fit t run channel leads here finds) (receive_falls code bound m fit v ranks ranked t run channel leads here finds)
    by_instr (i.Read file) leads here finds other = on_both (IsFit code) Less (begin code bound m t (Some (i.Read file)))
        (read_fit code bound m fit t run file leads here finds) (read_falls code bound m fit v ranks ranked t run file leads here finds)
    by_instr (i.Write file) leads here finds other = on_both (IsFit code) Less (begin code bound m t (Some (i.Write file)))
        (write_fit code bound m fit t run file leads here finds) (write_falls code bound m fit v ranks ranked t run file leads here finds)
    by_instr instr leads here finds other = plain_on instr leads here finds refl

    there : Fits code place s
    there = v.shaped.fits place s h.top.reached

    -- and the entries to come are those, whatever comes after them
    abbrev SameToCome : Flat → Type 0
    SameToCome n = n.shared.todo ≡ m.shared.todo

    of_too : (e : Entry) (x y : Move Flat FlatEnd) → Too e m x y → Onward SameToCome x
    of_too e (On n) y k = k.1.todo
    of_too e (Over end) y k = tt

    to_come_stays : (o : Option Instr) → is_cancel o ≡ false → Onward SameToCome (begin code bound m t o)
    to_come_stays o other = of_too any (begin code bound m t o) (begin code bound (more_to_come any m) t o) (begin_too any m code bound t o other)

    -- only a cancel takes entries
    less_to_come : (instr : Instr) (leads : Leads) → slice_get code.instrs place ≡ Some instr → effect code place instr s ≡ Some leads
        → Onward BetterToCome (begin code bound m t (Some instr))
    less_to_come (i.Cancel level slot) leads here finds = cancel_better code bound v m fit t run level slot here (block_in (cell_at m.store m.current.frame level slot)) ranks ranked
    less_to_come instr leads here finds =
        let next = begin code bound m t (Some instr) in
        on_each (λ n. Better n × SameToCome n) BetterToCome next
        (λ n k. let f = k.0.1 in let e : length n.shared.todo ≡ length m.shared.todo = ap length k.1 in (k.0.0, omega (arith, f, e)))
        (on_both Better SameToCome next (by_instr instr leads here finds refl) (to_come_stays (Some instr) refl))

    moves_better : Onward BetterToCome (begin code bound m t (slice_get code.instrs place))
    moves_better = subst (λ o. Onward BetterToCome (begin code bound m t o)) (sym there.here) (less_to_come there.instr there.leads there.here there.finds)

  module _ (idle : m.running ≡ None) where
    dispatches : (ready : List Item) → m.ready ≡ ready → Onward BetterToCome (dispatched m ready)
    dispatches [] e = tt
    dispatches (t ∷ ready) e = go (nat_lt m.shared.turn (2 ^ 64 - 1)) (told m.count (seen word.OutOfSteps false m.store.globals m.operations m.shared))
      where
        go : (b : Bool) (end : FlatEnd)
            → Onward BetterToCome (if b then On
            (record m { shared = with_turn m.shared; running = Some t; current = thread_at m.threads t; ready = ready; threads = slice_set m.threads t.number nobody }) else Over end)
        go true end = (
          dispatch_fit code m fit idle t ready e (with_turn m.shared),
          (let f = dispatch_falls code bound m fit v ranks ranked idle t ready e (with_turn m.shared) refl in omega (arith, f)),
        )
        go false end = tt

    enters : (e : Entry) (es : List Entry) → m.shared.todo ≡ e ∷ es → (o : Option Arrival) → arrivals.arrives m.shared.past m.store m.operations e.event ≡ o
        → Onward BetterToCome (comes_in (told m.count) (λ x. On (arrived m (with_entry m.shared e es) x)) o)
    enters e es all None k = tt
    enters e es all (Some x) k =
        let comes = comes_of m.store m.operations x m.shared.past e.event k in
        let falls = arrived_falls code bound m fit ranks (with_entry m.shared e es) refl x comes in
        let before : length m.shared.todo ≡ suc (length es) = ap length all in
        let after : length (arrived m (with_entry m.shared e es) x).shared.todo ≡ length es = ap (λ (s : Shared). length s.todo) (arrived_shared x.woken) in
        (arrived_fit code m fit v.one_use (with_entry m.shared e es) x comes, omega (arith, falls, before, after))
      where
        arrived_shared : (o : Option Item) → (resumed (record m { shared = with_entry m.shared e es; store = x.store; operations = x.operations })
            (cell.Int x.value) o).shared ≡ with_entry m.shared e es
        arrived_shared None = refl
        arrived_shared (Some t) = refl

    at_rest : (todo : List Entry) → m.shared.todo ≡ todo → Onward BetterToCome
        (at_point (told m.count) m.shared m.store m.operations (λ shared x. On (arrived m shared x)) (dispatched m m.ready) todo)
    at_rest [] all = dispatches m.ready refl
    at_rest (e ∷ es) all = go (nat_eq e.turn m.shared.turn)
      where
        go : (b : Bool) → Onward BetterToCome
            (if b
            then comes_in (told m.count) (λ x. On (arrived m (with_entry m.shared e es) x)) (arrivals.arrives m.shared.past m.store m.operations e.event)
            else dispatched m m.ready)
        go true = enters e es all (arrivals.arrives m.shared.past m.store m.operations e.event) refl
        go false = dispatches m.ready refl

  pub moves_on : Onward BetterToCome (exec code bound m)
  moves_on = go m.running refl
    where
      go : (o : Option Item) → m.running ≡ o → Onward BetterToCome (exec_of code bound m o)
      go None e = at_rest e m.shared.todo refl
      go (Some t) e = moves_better t e
