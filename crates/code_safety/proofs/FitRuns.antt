-- Each move of valid code leads from a fit state to a fit one, whatever is left to do there.
-- The cases are those of Moving, with fitness alone: so the ranks of the addresses, by which Moving counts what is left, are not asked for.
use Rattle.std.proofs.Common.{◌≡◌, List, [], ◌∷◌, Option, Some, None, Bool, true, false, refl, sym, subst}
use Rattle.std.specs.Prelude.{ℕ, slice_get, slice_set, nat_eq, nat_lt, ◌^◌, ◌-◌, if◌then◌else◌}
use Rattle.ac_base.specs.declared.entry.Entry.{Entry}
use Rattle.ac_base.specs.declared.ends.EndWord.TheVariants as word
use Rattle.work_item.specs.declared.ids.Item.{Item}
use Rattle.work_item.specs.Store.{cell_at}
use Rattle.core_state.specs.Moves.{On, Over}
use Rattle.core_state.specs.Frames.{block_in}
use Rattle.core_state.specs.Arrivals as arrivals
use Rattle.core_state.specs.Arrivals.{Arrival, at_point, comes_in}
use Rattle.core_state.specs.Shared.{with_entry, with_turn, seen}
use Rattle.stack_code.specs.declared.instr.Instr.{Instr}
use Rattle.stack_code.specs.declared.instr.Instr.TheVariants as i
use Rattle.stack_code.specs.declared.shape.Shape.{Shape}
use Rattle.stack_code.specs.declared.shape.Leads.{Leads}
use Rattle.stack_code.specs.Parts.{Parts}
use Rattle.stack_code.specs.Shapes.{effect}
use Rattle.stack_code.specs.Valid.{IsValid, Fits}
use Rattle.code_meaning.specs.Machine.{Flat, FlatEnd, arrived, begin, exec, exec_of, dispatched, told, nobody, thread_at}
use Rattle.code_safety.specs.Fit.{IsThread, life_at, IsFit}
use Rattle.code_safety.proofs.Plain.{is_plain, Onward, on_each, Next, onward}
use Rattle.code_safety.proofs.Own.{thread_of}
use Rattle.code_safety.proofs.PlainFit.{plain_fit}
use Rattle.code_safety.proofs.Turns.{yield_fit, dispatch_fit}
use Rattle.code_safety.proofs.Operating.{send_fit, receive_fit, read_fit, write_fit}
use Rattle.code_safety.proofs.CancelSafety.{cancel_fit}
use Rattle.code_safety.proofs.Arriving.{comes_of, arrived_fit}
use Rattle.code_safety.proofs.Calling.{call_fit, return_fit}
use Rattle.code_safety.proofs.Entering.{enter_fit}
use Rattle.code_safety.proofs.Finishing.{finish_fit}
use Rattle.code_safety.proofs.Starting.{async_fit}
use Rattle.code_safety.proofs.Dying.{end_fit}

module _ (code : Parts) (bound : ℕ) (v : IsValid code) (m : Flat) (fit : IsFit code m) where
  abbrev Fine : Flat → Type 0
  Fine = IsFit code

  module _ (t : Item) (run : m.running ≡ Some t) where
    abbrev h : IsThread code fit.births m.store m.blocks t (life_at fit.lives t).start m.current
    h = thread_of code m fit t run

    abbrev s : Shape
    s = h.shape

    abbrev place : ℕ
    place = m.current.place

    plain_on : (instr : Instr) (leads : Leads) → slice_get code.instrs place ≡ Some instr → effect code place instr s ≡ Some leads → is_plain instr ≡ true
        → Onward Fine (begin code bound m t (Some instr))
    plain_on instr leads here finds p = on_each (Next code bound m fit.births s instr) Fine (begin code bound m t (Some instr))
        (λ n k. plain_fit code bound m fit t run instr n k)
        (onward code bound m fit.births t s v.one_use fit.store h.top t instr leads here finds p)

    by_instr : (instr : Instr) (leads : Leads) → slice_get code.instrs place ≡ Some instr → effect code place instr s ≡ Some leads → Onward Fine (begin code bound m t (Some instr))
    by_instr (i.Call number count) leads here finds = call_fit code bound m fit t run v number count leads here finds
    by_instr i.Ret leads here finds = return_fit code bound m fit t run v leads finds
    by_instr (i.Enter slot) leads here finds = enter_fit code bound m fit t run v slot here leads finds
    by_instr (i.Finish slot) leads here finds = finish_fit code bound m fit t run slot here leads finds
    by_instr (i.Async slots to) leads here finds = async_fit code bound m fit t run v slots to here leads finds
    by_instr i.End leads here finds = end_fit code bound m fit t run leads finds
    by_instr i.Yield leads here finds = yield_fit code m fit t run here
    by_instr (i.Cancel level slot) leads here finds = cancel_fit code bound v m fit t run level slot here (block_in (cell_at m.store m.current.frame level slot))
    by_instr (i.Send channel) leads here finds = send_fit code bound m fit t run channel leads here finds
    by_instr (i.Recv channel) leads here finds = receive_fit code bound m fit t run channel leads here finds
    by_instr (i.Read file) leads here finds = read_fit code bound m fit t run file leads here finds
    by_instr (i.Write file) leads here finds = write_fit code bound m fit t run file leads here finds
    by_instr instr leads here finds = plain_on instr leads here finds refl

    there : Fits code place s
    there = v.shaped.fits place s h.top.reached

    goes_on : Onward Fine (begin code bound m t (slice_get code.instrs place))
    goes_on = subst (λ o. Onward Fine (begin code bound m t o)) (sym there.here) (by_instr there.instr there.leads there.here there.finds)

  module _ (idle : m.running ≡ None) where
    dispatches : (ready : List Item) → m.ready ≡ ready → Onward Fine (dispatched m ready)
    dispatches [] e = tt
    dispatches (t ∷ ready) e = go (nat_lt m.shared.turn (2 ^ 64 - 1)) (told m.count (seen word.OutOfSteps false m.store.globals m.operations m.shared))
      where
        go : (b : Bool) (end : FlatEnd)
            → Onward Fine (if b then On
            (record m { shared = with_turn m.shared; running = Some t; current = thread_at m.threads t; ready = ready; threads = slice_set m.threads t.number nobody }) else Over end)
        go true end = dispatch_fit code m fit idle t ready e (with_turn m.shared)
        go false end = tt

    enters : (e : Entry) (es : List Entry) (o : Option Arrival) → arrivals.arrives m.shared.past m.store m.operations e.event ≡ o
        → Onward Fine (comes_in (told m.count) (λ x. On (arrived m (with_entry m.shared e es) x)) o)
    enters e es None k = tt
    enters e es (Some x) k = arrived_fit code m fit v.one_use (with_entry m.shared e es) x (comes_of m.store m.operations x m.shared.past e.event k)

    at_rest : (todo : List Entry) → Onward Fine (at_point (told m.count) m.shared m.store m.operations (λ shared x. On (arrived m shared x)) (dispatched m m.ready) todo)
    at_rest [] = dispatches m.ready refl
    at_rest (e ∷ es) = go (nat_eq e.turn m.shared.turn)
      where
        go : (b : Bool) → Onward Fine
            (if b
            then comes_in (told m.count) (λ x. On (arrived m (with_entry m.shared e es) x)) (arrivals.arrives m.shared.past m.store m.operations e.event)
            else dispatched m m.ready)
        go true = enters e es (arrivals.arrives m.shared.past m.store m.operations e.event) refl
        go false = dispatches m.ready refl

  pub fit_on : Onward (IsFit code) (exec code bound m)
  fit_on = go m.running refl
    where
      go : (o : Option Item) → m.running ≡ o → Onward Fine (exec_of code bound m o)
      go None e = at_rest e m.shared.todo
      go (Some t) e = goes_on t e
