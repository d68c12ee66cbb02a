-- What the source and the code of a core share, which is what is seen of it but for its globals, and what is seen of it at an end. Globals,
-- frames, threads and blocks are each meaning's own.
use Rattle.std.specs.Prelude.{ℕ, ◌+◌, ◌-◌, ◌^◌, ℤ, Bool, true, false, List, [], ◌∷◌, ◌++◌, length, map, replicate}
use Rattle.std.specs.Prelude.{◌==◌, nat_le, nat_lt, Option, Some, None, Result, Ok, Err, if◌then◌else◌}
use Rattle.std.specs.Fmt.{signed_decimal}
use Rattle.ac_base.specs.declared.ends.Trap.{Trap}
use Rattle.ac_base.specs.declared.ends.Trap.TheVariants.{OutputFull}
use Rattle.ac_base.specs.declared.ends.EndWord.{EndWord}
use Rattle.ac_base.specs.declared.ends.EndWord.TheVariants as word
use Rattle.ac_base.specs.declared.ends.CoreEnd.{CoreEnd}
use Rattle.ac_base.specs.declared.entry.Entry.{Entry}
use Rattle.work_item.specs.Store.{Store, no_int}
use Rattle.cancel_scope.specs.declared.operation.Operation.{Operation}
use Rattle.cancel_scope.specs.Outstanding.{waiting_as}
use Rattle.core_state.specs.Moves.{Move, Over}
use Rattle.core_state.specs.Arithmetic.{low_byte}
use Rattle.core_state.specs.Frames.{begun, first_store}

-- the steps used, the turn, the bytes printed, the journal, which is the entries that have come in and those still to come, and the link of
-- the core's requests to the file worker
pub record Shared : Type 0 where
  pub steps : ℕ
  pub turn : ℕ
  pub output : List ℕ
  pub past : List Entry
  pub todo : List Entry
  pub requests : ℕ

abbrev pub with_step : Shared → Shared
with_step s = record s { steps = s.steps + 1 }

abbrev pub with_turn : Shared → Shared
with_turn s = record s { turn = s.turn + 1 }

-- the next entry has come in, before the others
abbrev pub with_entry : Shared → Entry → List Entry → Shared
with_entry s e es = record s { past = s.past ++ e ∷ []; todo = es }

-- the cores' own links come after the channels, by the number of the core
abbrev pub request_link : ℕ → ℕ → ℕ
request_link channels core = channels + core

abbrev pub first_shared : ℕ → List Entry → Shared
first_shared requests journal = record { steps = 0; turn = 0; output = []; past = []; todo = journal; requests = requests }

-- ---- output

abbrev pub output_limit : ℕ
output_limit = 4194304

-- A text of `printf` with values, read from a place before or directly after a `%`: `%d` gives the decimal text of the next value, `%c` its
-- low 8 bits as a byte, and `%%` a `%`, which takes no value. So `x=%d, y=%d.` with 7 and -2 is `x=7, y=-2.`; `100%%` with none is `100%`;
-- and `%c%%%d` with 321 and 5 is `A%5`, since 321 is 256 + 65. No other letter stands after a `%` in a text that is accepted.
abbrev pub formatted_from : Bool → List ℕ → List ℤ → List ℕ
formatted_from directive [] vs = []
formatted_from false (b ∷ text) vs = if b == 37 then formatted_from true text vs else b ∷ formatted_from false text vs
formatted_from true (b ∷ text) [] = if b == 37 then 37 ∷ formatted_from false text [] else formatted_from false text []
formatted_from true (b ∷ text) (v ∷ vs) =
    if b == 37 then 37 ∷ formatted_from false text (v ∷ vs)
    else if b == 100 then signed_decimal v ++ formatted_from false text vs
    else if b == 99 then low_byte v ∷ formatted_from false text vs
    else formatted_from false text (v ∷ vs)

abbrev pub formatted : List ℕ → List ℤ → List ℕ
formatted text vs = formatted_from false text vs

-- what is printed, where the output keeps within its limit
abbrev pub printed : Shared → List ℕ → Result Shared Trap
printed s bytes = if nat_le (length s.output + length bytes) output_limit then Ok (record s { output = s.output ++ bytes })
    else Err OutputFull

-- ---- ends

-- what is seen of a core whose globals are these, and whose operations have not ended
abbrev pub core_end : EndWord → Bool → List ℤ → List Operation → Shared → CoreEnd
core_end word idle globals operations s =
    record { word = word; steps = s.steps; output = s.output; globals = globals; waiting = map waiting_as operations; idle = idle }

-- what is seen of an end: nothing where an entry of the journal is still to come
abbrev pub seen_left : EndWord → Bool → List ℤ → List Operation → Shared → List Entry → Option CoreEnd
seen_left word idle globals operations s [] = Some (core_end word idle globals operations s)
seen_left word idle globals operations s (_ ∷ _) = None

abbrev pub seen : EndWord → Bool → List ℤ → List Operation → Shared → Option CoreEnd
seen word idle globals operations s = seen_left word idle globals operations s s.todo

-- ---- moves that end a core; each meaning tells an end in its own way

-- with a turn if there is one left, and else out of steps
abbrev pub if_turn : {S E : Type 0} → (Option CoreEnd → E) → List ℤ → List Operation → Shared → Move S E → Move S E
if_turn tell globals operations s next =
    if nat_lt s.turn (2 ^ 64 - 1) then next else Over (tell (seen word.OutOfSteps false globals operations s))

abbrev pub begins_with : {S E : Type 0} → (Option CoreEnd → E) → List ℤ → Shared → Result Store Trap → (Store → Move S E) → Move S E
begins_with tell globals s (Ok store) go = go store
begins_with tell globals s (Err trap) go = Over (tell (seen (word.Trapped trap) false globals [] s))

-- a core begins with these globals in a frame of so many slots, where there is room for it
abbrev pub begins : {S E : Type 0} → (Option CoreEnd → E) → List ℤ → Shared → ℕ → (Store → Move S E) → Move S E
begins tell globals s slots go = begins_with tell globals s (begun (first_store globals) None (replicate slots no_int)) go
