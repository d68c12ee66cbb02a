-- A bound on what a core can still do before it ends.
use Rattle.std.specs.Prelude.{ℕ, zero, suc, ◌+◌, ◌-◌, ◌*◌, List, [], ◌∷◌, length, Option, Some, None, sum, slice_index}
use Rattle.std.specs.Prelude.{if◌then◌else◌, not, ◌&&◌}
use Rattle.work_item.specs.declared.ids.Item.{Item}
use Rattle.cancel_scope.specs.declared.operation.Operation.{Operation}
use Rattle.cancel_scope.specs.Outstanding.{is_outgoing, is_request, is_waiting, has_begun}
use Rattle.code_meaning.specs.Machine.{Caller, Thread, Block, Flat, thread_at}
use Rattle.code_safety.specs.Fit.{one_if, total}

-- twice and two: an address of that rank may be left for two of lower ranks, with a dispatch between, or for one of a lower rank, with an
-- operation of three entries between
abbrev pub grown : ℕ → ℕ
grown zero = 3
grown (suc r) = 2 * grown r + 2

abbrev pub at_weight : List ℕ → ℕ → ℕ
at_weight ranks place = grown (slice_index ranks place)

abbrev pub callers_weight : List ℕ → List Caller → ℕ
callers_weight ranks [] = 0
callers_weight ranks (c ∷ callers) = at_weight ranks c.place + callers_weight ranks callers

abbrev pub thread_weight : List ℕ → Thread → ℕ
thread_weight ranks h = at_weight ranks h.place + callers_weight ranks h.callers

-- one that does not run has a dispatch before it
abbrev pub parked_weight : List ℕ → List Thread → Item → ℕ
parked_weight ranks threads t = 1 + thread_weight ranks (thread_at threads t)

abbrev pub ready_weight : List ℕ → List Thread → List Item → ℕ
ready_weight ranks threads [] = 0
ready_weight ranks threads (t ∷ ready) = parked_weight ranks threads t + ready_weight ranks threads ready

-- an operation has its end before it, and before that its offer where it is to be offered, and the beginning of a request that has not
-- begun
abbrev pub entries_left : Operation → ℕ
entries_left o = one_if (is_outgoing o.asked && is_waiting o.progress) + (one_if (is_request o.asked && not (has_begun o.progress)) + 1)

abbrev pub operation_weight : List ℕ → List Thread → Operation → ℕ
operation_weight ranks threads o = entries_left o + parked_weight ranks threads o.item

abbrev pub operations_weight : List ℕ → List Thread → List Operation → ℕ
operations_weight ranks threads os = total (operation_weight ranks threads) os

abbrev pub owner_weight : List ℕ → List Thread → Option Block → ℕ
owner_weight ranks threads None = 0
owner_weight ranks threads (Some x) = if x.waits then parked_weight ranks threads x.owner else 0

abbrev pub waiting_weight : List ℕ → List Thread → List (Option Block) → ℕ
waiting_weight ranks threads blocks = total (owner_weight ranks threads) blocks

abbrev pub running_weight : List ℕ → Thread → Option Item → ℕ
running_weight ranks current None = 0
running_weight ranks current (Some t) = thread_weight ranks current

-- the steps that are left, and what each thread can do before the next one
abbrev pub left : List ℕ → ℕ → Flat → ℕ
left ranks bound m =
    (bound - m.shared.steps) * grown (sum ranks)
    + (running_weight ranks m.current m.running
    + (ready_weight ranks m.threads m.ready + (operations_weight ranks m.threads m.operations + waiting_weight ranks m.threads m.blocks)))

-- and the entries that are still to come, of which some end no operation
abbrev pub left_to_come : List ℕ → ℕ → Flat → ℕ
left_to_come ranks bound m = left ranks bound m + length m.shared.todo
