-- How many entries a core takes in, and how great stamps become.
use Rattle.std.specs.Prelude.{◌≡◌, ℕ, suc, ◌+◌, ◌*◌, ◌≤◌, ◌<◌, List, [], length, Some, slice_index_or}
use Rattle.std.specs.List.{AllByRecursion}
use Rattle.ac_base.specs.declared.ends.CoreEnd.{CoreEnd}
use Rattle.ac_base.specs.declared.entry.Entry.{Entry}
use Rattle.ac_base.specs.declared.entry.Stamped.{Stamped}
use Rattle.ac_commands.specs.declared.program.Resolved.{Resolved}
use Rattle.ac_semantics.specs.Replay.{Replays}
use Rattle.ac_history.specs.Merged.{merged}
use Rattle.ac_history.specs.History.{IsLegal, start}
use Rattle.ac_translation.specs.Translation.{code_of}
use Rattle.journal_bounds.specs.Actions.{most_actions}
use Rattle.journal_bounds.specs.Passes.{passes_in}

-- Each step begins one statement, and an operation that it starts makes three entries at most: a send or a request its offer, and then what
-- is known of it, with the answer of a request, or its withdrawal and later the room that comes back; a receive one. Beside these a core
-- passes over offers that others have withdrawn, as often as there are such offers while it waits for a message.
abbrev pub EntriesAreFew : Type 0
EntriesAreFew = (program : Resolved) (core bound : ℕ) (journal : List Entry) (end : CoreEnd)
    → Replays program core bound journal (Some end) → length journal ≤ 3 * (most_actions program * bound) + passes_in journal

-- each core comes to an end under its journal
abbrev pub AllReplay : Resolved → ℕ → ℕ → List (List Entry) → Type 0
AllReplay program cores bound js = (core : ℕ) → core < cores →
    (end : CoreEnd) × Replays program core bound (slice_index_or js core []) (Some end)

-- this history of cores with that bound on steps has few entries, and no stamp of it is above their number
pub record IsShortHistory (program : Resolved) (cores bound : ℕ) (history : List Stamped) : Type 0 where
  pub entries : length history ≤ cores * (4 * (most_actions program * bound))
  pub stamps : AllByRecursion (λ e. e.entry.stamp ≤ length history) history

-- A legal history has no more entries than all cores and the worker may enter. Each operation makes one offer at most, and in a legal
-- history no more offers are passed over, and done by the worker, than were made: so an operation pays for four entries, its own three, and
-- one by which its peer passes over it or the worker does it.
abbrev pub HistoriesAreShort : Type 0
HistoriesAreShort = (program : Resolved) (capacities widths : List ℕ) (cores bound : ℕ) (js : List (List Entry))
    → length js ≡ suc cores → AllReplay program cores bound js → IsLegal (start capacities widths cores) (merged js)
    → IsShortHistory program cores bound (merged js)

-- so no stamp is above that
abbrev pub StampsAreSmall : Type 0
StampsAreSmall = (program : Resolved) (capacities widths : List ℕ) (cores bound : ℕ) (js : List (List Entry))
    → length js ≡ suc cores → AllReplay program cores bound js → IsLegal (start capacities widths cores) (merged js)
    → AllByRecursion (λ e. e.entry.stamp ≤ cores * (4 * (most_actions program * bound))) (merged js)

-- each call and each operation is an instruction of the code
abbrev pub ActionsAreFew : Type 0
ActionsAreFew = (program : Resolved) → most_actions program ≤ length (code_of program).instrs
