-- Reading a line from left to right, and a text line by line: the functions that the proofs go by.
use Rattle.std.specs.Prelude.{◌≡◌, ℕ, zero, suc, ◌+◌, ◌-◌, ◌*◌, ◌^◌, ℤ, pos, negsuc, Bool, false, not, ◌&&◌, ◌==◌, nat_lt, nat_le}
use Rattle.std.specs.Prelude.{if◌then◌else◌, List, [], ◌∷◌, ◌++◌, length, take, drop, Option, Some, None, Result, Ok, Err, codes}
use Rattle.std.specs.Str.{bytes_eq}
use Rattle.ac_base.specs.declared.ends.Trap.TheVariants.{ZeroDivisor, Index, StackFull, OutputFull, FileRange}
use Rattle.ac_base.specs.declared.ends.EndWord.{EndWord}
use Rattle.ac_base.specs.declared.ends.EndWord.TheVariants.{Finished, Trapped, OutOfSteps, Stalled}
use Rattle.ac_base.specs.declared.entry.Payload.{Payload}
use Rattle.ac_base.specs.declared.entry.Payload.TheVariants as p
use Rattle.ac_base.specs.declared.entry.Answer.{Answer}
use Rattle.ac_base.specs.declared.entry.Answer.TheVariants as a
use Rattle.ac_base.specs.declared.entry.Event.{Event}
use Rattle.ac_base.specs.declared.entry.Event.TheVariants as e
use Rattle.ac_base.specs.declared.entry.Stamped.{Stamped}
use Rattle.trace_text.specs.declared.cursor.LineFault.{LineFault}
use Rattle.trace_text.specs.declared.cursor.LineFault.TheVariants as h
use Rattle.trace_text.specs.declared.so_far.Stage.{Stage}
use Rattle.trace_text.specs.declared.so_far.Stage.TheVariants as now
use Rattle.trace_text.specs.declared.so_far.SoFar.{SoFar}
use Rattle.trace_text.specs.declared.version.Version.{Version}
use Rattle.trace_text.specs.declared.version.Version.TheVariants.{First, Second}
use Rattle.trace_text.specs.declared.trace.Trace.{Trace}
use Rattle.trace_text.specs.declared.trace.TraceEnd.{TraceEnd}
use Rattle.trace_text.specs.declared.faults.TraceFault.{TraceFault}
use Rattle.trace_text.specs.declared.faults.TraceFault.TheVariants as fault
use Rattle.trace_text.specs.Versions.{is_wide}
use Rattle.trace_text.specs.Text.{title, offered_word, got_word}

-- what is taken, and the bytes of the line behind it
abbrev pub Taken : Type 0 → Type 0
Taken A = Option (A × List ℕ)

infixl 10 ◌>>=◌
abbrev pub ◌>>=◌ : {A B : Type 0} → Option A → (A → Option B) → Option B
None >>= f = None
(Some x) >>= f = f x

-- what a function returned, seen by view, is what reading gives, unless memory ran out
abbrev pub Gives : {X Y : Type 0} → (X → Y) → Result X LineFault → Option Y → Type 0
Gives view (Ok x) read = read ≡ Some (view x)
Gives view (Err h.Wrong) read = read ≡ None
Gives view (Err h.Memory) read = Unit {0}

-- ---- words

-- the bytes behind a word
abbrev pub word_at : List ℕ → List ℕ → Option (List ℕ)
word_at word bs = if bytes_eq (take (length word) bs) word then Some (drop (length word) bs) else None

-- a value, where the line ends here
abbrev pub ended : {A : Type 0} → List ℕ → A → Option A
ended [] x = Some x
ended (b ∷ bs) x = None

-- what stands behind a word, or else what another way gives
abbrev pub choice : {A : Type 0} → Option (List ℕ) → (List ℕ → Option A) → Option A → Option A
choice None here other = other
choice (Some rest) here other = here rest

abbrev pub starts : (ℕ → Bool) → List ℕ → Bool
starts p [] = false
starts p (b ∷ bs) = p b

-- ---- numbers

abbrev pub is_digit : ℕ → Bool
is_digit b = nat_le 48 b && nat_le b 57

-- how many digits stand at the front
abbrev pub digit_run : List ℕ → ℕ
digit_run [] = 0
digit_run (b ∷ bs) = if is_digit b then 1 + digit_run bs else 0

-- the value of the digits at the front, behind digits of that value
abbrev pub value_of : ℕ → List ℕ → ℕ
value_of n [] = n
value_of n (b ∷ bs) = if is_digit b then value_of (n * 10 + (b - 48)) bs else n

-- some digits, and no 0 in front of others
abbrev pub is_numeral : List ℕ → Bool
is_numeral bs = nat_lt 0 (digit_run bs) && not (starts (λ b. b == 48) bs && nat_lt 1 (digit_run bs))

-- a number that is at most so great
unfoldable pub number_at : ℕ → List ℕ → Taken ℕ
number_at most bs = if is_numeral bs && nat_le (value_of 0 bs) most then Some (value_of 0 bs, drop (digit_run bs) bs) else None

-- a number behind a blank
abbrev pub spaced_at : ℕ → List ℕ → Taken ℕ
spaced_at most bs = word_at (codes " ") bs >>= number_at most

-- a number that is not 0
abbrev pub not_nought : ℕ → List ℕ → Taken ℕ
not_nought zero rest = None
not_nought (suc n) rest = Some (suc n, rest)

abbrev pub positive_at : ℕ → List ℕ → Taken ℕ
positive_at most bs = number_at most bs >>= λ n. not_nought n.0 n.1

-- the number with a `-` in front of it
abbrev pub minus : ℕ → ℤ
minus zero = pos 0
minus (suc n) = negsuc n

abbrev pub negated_at : List ℕ → Taken ℤ
negated_at bs = positive_at (2 ^ 63) bs >>= λ n. Some (minus n.0, n.1)

unfoldable pub value_at : List ℕ → Taken ℤ
value_at bs = choice (word_at (codes "-") bs) negated_at (number_at (2 ^ 63 - 1) bs >>= λ n. Some (pos n.0, n.1))

-- ---- bytes, to the end of the line

abbrev pub digit_of : ℕ → Option ℕ
digit_of b = if is_digit b then Some (b - 48) else (if nat_le 97 b && nat_le b 102 then Some (b - 87) else None)

abbrev pub byte_of : Option ℕ → Option ℕ → Option ℕ
byte_of high low = high >>= λ h. low >>= λ l. Some (h * 16 + l)

abbrev pub byte_before : Option ℕ → Option (List ℕ) → Option (List ℕ)
byte_before byte bytes = byte >>= λ b. bytes >>= λ bs. Some (b ∷ bs)

abbrev pub pairs_of : List ℕ → Option (List ℕ)
pairs_of [] = Some []
pairs_of (a ∷ []) = None
pairs_of (a ∷ b ∷ bs) = byte_before (byte_of (digit_of a) (digit_of b)) (pairs_of bs)

-- no bytes are a `-`, and not an empty word
abbrev pub some_pairs : List ℕ → Option (List ℕ)
some_pairs [] = None
some_pairs (b ∷ bs) = pairs_of (b ∷ bs)

unfoldable pub bytes_to_end : List ℕ → Option (List ℕ)
bytes_to_end bs = if bytes_eq bs (codes "-") then Some [] else some_pairs bs

-- a blank, and then bytes
abbrev pub spaced_bytes : List ℕ → Option (List ℕ)
spaced_bytes bs = word_at (codes " ") bs >>= bytes_to_end

-- ---- events, to the end of the line

abbrev pub most_small : ℕ
most_small = 2 ^ 32 - 1

abbrev pub most_large : ℕ
most_large = 2 ^ 64 - 1

-- the number of a link and that of an offer on it
abbrev pub offer_at : List ℕ → Taken (ℕ × ℕ)
offer_at bs = number_at most_small bs >>= λ link. spaced_at most_large link.1 >>= λ number. Some ((link.0, number.0), number.1)

-- the file and the place of a request
abbrev pub range_at : List ℕ → Taken (ℕ × ℕ)
range_at bs = number_at most_small bs >>= λ file. spaced_at most_small file.1 >>= λ from. Some ((file.0, from.0), from.1)

-- an int behind a blank
abbrev pub spaced_value : List ℕ → Taken ℤ
spaced_value bs = word_at (codes " ") bs >>= value_at

-- so many ints more behind those of a message
abbrev pub more_ints : List ℤ → ℕ → List ℕ → Taken (List ℤ)
more_ints ints zero bs = Some (ints, bs)
more_ints ints (suc k) bs = spaced_value bs >>= λ v. more_ints (ints ++ v.0 ∷ []) k v.1

-- how many ints a message has: one in version 1, and in version 2 as many as the line says
abbrev pub count_in : Version → List ℕ → Taken ℕ
count_in First bs = Some (1, bs)
count_in Second bs = word_at (codes " ") bs >>= positive_at 16

unfoldable pub message_at : Version → List ℕ → Option (List ℤ)
message_at version bs = count_in version bs >>= λ k. more_ints [] k.0 k.1 >>= λ m. ended m.1 m.0

abbrev pub int_at : Version → List ℕ → Option Payload
int_at version bs = message_at version bs >>= λ m. Some (p.Int m)

abbrev pub read_at : List ℕ → Option Payload
read_at bs = range_at bs >>= λ r. spaced_at most_small r.1 >>= λ len. ended len.1 (p.Read r.0.0 r.0.1 len.0)

abbrev pub write_at : List ℕ → Option Payload
write_at bs = range_at bs >>= λ r. spaced_bytes r.1 >>= λ bytes. Some (p.Write r.0.0 r.0.1 bytes)

unfoldable pub payload_at : Version → List ℕ → Option Payload
payload_at version bs = choice (word_at (offered_word version) bs) (int_at version) (choice (word_at (codes " read ") bs) read_at
    (choice (word_at (codes " write ") bs) write_at None))

abbrev pub count_at : List ℕ → Option ℕ
count_at bs = number_at most_small bs >>= λ n. ended n.1 n.0

abbrev pub counted_at : (ℕ → Answer) → List ℕ → Option Answer
counted_at made bs = count_at bs >>= λ n. Some (made n)

unfoldable pub answer_at : List ℕ → Option Answer
answer_at bs = choice (word_at (codes " bytes ") bs) (λ rest. bytes_to_end rest >>= λ bytes. Some (a.Bytes bytes))
    (choice (word_at (codes " count ") bs) (counted_at a.Count) (choice (word_at (codes " fault ") bs) (counted_at a.Fault) None))

-- an event that tells of an offer and nothing else
abbrev pub bare_offer_at : List ℕ → Option (ℕ × ℕ)
bare_offer_at bs = offer_at bs >>= λ o. ended o.1 o.0

abbrev pub bare_at : (ℕ → ℕ → Event) → List ℕ → Option Event
bare_at made bs = bare_offer_at bs >>= λ o. Some (made o.0 o.1)

abbrev pub offered_at : Version → List ℕ → Option Event
offered_at version bs = offer_at bs >>= λ o. payload_at version o.1 >>= λ payload. Some (e.Offer o.0.0 o.0.1 payload)

abbrev pub got_at : Version → List ℕ → Option Event
got_at version bs = offer_at bs >>= λ o. word_at (got_word version) o.1 >>= message_at version >>= λ m. Some (e.Got o.0.0 o.0.1 m)

abbrev pub answered_at : (ℕ → ℕ → Answer → Event) → List ℕ → Option Event
answered_at made bs = offer_at bs >>= λ o. answer_at o.1 >>= λ answer. Some (made o.0.0 o.0.1 answer)

-- what the receiving end does
unfoldable pub taking_at : Version → List ℕ → Option Event
taking_at version bs = choice (word_at (codes " got ") bs) (got_at version) (choice (word_at (codes " pass ") bs) (bare_at e.Pass)
    (choice (word_at (codes " did ") bs) (answered_at e.Did) (choice (word_at (codes " reply ") bs) (answered_at e.Reply) None)))

unfoldable pub event_at : Version → List ℕ → Option Event
event_at version bs = choice (word_at (codes " offer ") bs) (offered_at version) (choice (word_at (codes " withdraw ") bs)
    (bare_at e.Withdraw)
    (choice (word_at (codes " know ") bs) (bare_at e.Know) (choice (word_at (codes " room ") bs) (bare_at e.Room) (taking_at version bs))))

-- ---- lines

abbrev pub version_at : List ℕ → Option Version
version_at line = if bytes_eq line (title First) then Some First else (if bytes_eq line (title Second) then Some Second else None)

abbrev pub steps_at : List ℕ → Option ℕ
steps_at line = word_at (codes "steps ") line >>= positive_at 2000000 >>= λ n. ended n.1 n.0

-- a word and that number
unfoldable pub numbered_at : List ℕ → ℕ → List ℕ → Option (List ℕ)
numbered_at word k line = word_at word line >>= number_at most_small >>= λ n. if n.0 == k then Some n.1 else None

abbrev pub file_at : ℕ → List ℕ → Option (List ℕ)
file_at k line = numbered_at (codes "file ") k line >>= spaced_bytes

abbrev pub stamped : ℕ → ℕ → ℕ → Event → Stamped
stamped stamp party turn event = record { party = party; entry = record { stamp = stamp; turn = turn; event = event } }

unfoldable pub entry_at : Version → List ℕ → Option Stamped
entry_at version line =
    positive_at (2 ^ 60 - 1) line >>= λ stamp. spaced_at most_small stamp.1 >>= λ party. spaced_at most_large party.1 >>= λ turn.
    event_at version turn.1 >>= λ event. Some (stamped stamp.0 party.0 turn.0 event)

abbrev pub word_is : EndWord → List ℕ → Taken EndWord
word_is word rest = Some (word, rest)

abbrev pub trap_at : List ℕ → Taken EndWord
trap_at bs = choice (word_at (codes "zero-divisor") bs) (word_is (Trapped ZeroDivisor))
    (choice (word_at (codes "index") bs) (word_is (Trapped Index)) (choice (word_at (codes "stack-full") bs) (word_is (Trapped StackFull))
    (choice (word_at (codes "output-full") bs) (word_is (Trapped OutputFull))
    (choice (word_at (codes "file-range") bs) (word_is (Trapped FileRange)) None))))

unfoldable pub end_word_at : List ℕ → Taken EndWord
end_word_at bs = choice (word_at (codes "finished") bs) (word_is Finished) (choice (word_at (codes "out-of-steps") bs) (word_is OutOfSteps)
    (choice (word_at (codes "stalled") bs) (word_is Stalled) (trap_at bs)))

abbrev pub trace_end : EndWord → ℕ → List ℕ → TraceEnd
trace_end word steps output = record { word = word; steps = steps; output = output }

unfoldable pub end_at : ℕ → List ℕ → Option TraceEnd
end_at k line =
    numbered_at (codes "end ") k line >>= word_at (codes " ") >>= end_word_at >>= λ word. spaced_at most_large word.1 >>= λ steps.
    spaced_bytes steps.1 >>= λ output. Some (trace_end word.0 steps.0 output)

-- ---- one line more

abbrev pub with_title : SoFar → Version → SoFar
with_title s version = record s { stage = now.Steps; version = version }

abbrev pub with_steps : SoFar → ℕ → SoFar
with_steps s steps = record s { stage = now.Files; trace = record s.trace { steps = steps } }

abbrev pub with_file : SoFar → List ℕ → SoFar
with_file s bytes = record s { trace = record s.trace { start = s.trace.start ++ bytes ∷ [] } }

abbrev pub with_entry : SoFar → Stamped → SoFar
with_entry s entry = record s { stage = now.Entries; trace = record s.trace { entries = s.trace.entries ++ entry ∷ [] } }

abbrev pub with_end : SoFar → TraceEnd → SoFar
with_end s end = record s { stage = now.Ends; trace = record s.trace { ends = s.trace.ends ++ end ∷ [] } }

abbrev pub after_title : SoFar → List ℕ → Option SoFar
after_title s line = version_at line >>= λ version. Some (with_title s version)

abbrev pub after_steps : SoFar → List ℕ → Option SoFar
after_steps s line = steps_at line >>= λ steps. Some (with_steps s steps)

abbrev pub after_file : SoFar → List ℕ → Option SoFar
after_file s line = file_at (length s.trace.start) line >>= λ bytes. Some (with_file s bytes)

abbrev pub after_entry : SoFar → List ℕ → Option SoFar
after_entry s line = entry_at s.version line >>= λ entry. Some (with_entry s entry)

abbrev pub after_end : SoFar → List ℕ → Option SoFar
after_end s line = end_at (length s.trace.ends) line >>= λ end. Some (with_end s end)

-- an end, where the line begins with an `e`, and else an entry
abbrev pub after_entry_or_end : SoFar → List ℕ → Option SoFar
after_entry_or_end s line = if starts (λ b. b == 101) line then after_end s line else after_entry s line

-- a file, where the line begins with an `f`
abbrev pub after_any : SoFar → List ℕ → Option SoFar
after_any s line = if starts (λ b. b == 102) line then after_file s line else after_entry_or_end s line

abbrev pub at_stage : Stage → SoFar → List ℕ → Option SoFar
at_stage now.Title s line = after_title s line
at_stage now.Steps s line = after_steps s line
at_stage now.Files s line = after_any s line
at_stage now.Entries s line = after_entry_or_end s line
at_stage now.Ends s line = after_end s line

unfoldable pub after_line : SoFar → List ℕ → Option SoFar
after_line s line = at_stage s.stage s line

-- ---- a text

abbrev pub is_feed : ℕ → Bool
is_feed b = b == 10

-- how many bytes stand before the first line feed
abbrev pub line_run : List ℕ → ℕ
line_run [] = 0
line_run (b ∷ bs) = if is_feed b then 0 else 1 + line_run bs

-- the whole lines, and what stands behind the last line feed
abbrev pub Lines : Type 0
Lines = List (List ℕ) × List ℕ

abbrev pub with_byte : ℕ → List (List ℕ) → List ℕ → Lines
with_byte b [] tail = ([], b ∷ tail)
with_byte b (l ∷ ls) tail = ((b ∷ l) ∷ ls, tail)

abbrev pub lines_of : List ℕ → Lines
lines_of [] = ([], [])
lines_of (b ∷ bs) = if is_feed b then ([] ∷ (lines_of bs).0, (lines_of bs).1) else with_byte b (lines_of bs).0 (lines_of bs).1

-- the text is in version 2 where version 1 would do
abbrev pub is_needless : Version → Trace → Bool
is_needless First t = false
is_needless Second t = not (is_wide t)

abbrev pub told_in : Version → Trace → Result Trace ℕ
told_in version t = if is_needless version t then Err 1 else Ok t

-- a trace is whole where its last line is an end's
abbrev pub whole_at : Stage → Version → ℕ → Trace → Result Trace ℕ
whole_at now.Ends version line t = told_in version t
whole_at _ version line t = Err line

-- where the lines end: behind the last line feed stands nothing
abbrev pub whole : ℕ → List ℕ → SoFar → Result Trace ℕ
whole line [] s = whole_at s.stage s.version line s.trace
whole line (b ∷ tail) s = Err line

-- what comes after a line, or the line that stops
abbrev pub going_on : {A : Type 0} → Option A → ℕ → (A → Result Trace ℕ) → Result Trace ℕ
going_on None line others = Err line
going_on (Some s) line others = others s

-- the lines from that number on, behind what was read
unfoldable pub read_lines : ℕ → SoFar → List (List ℕ) → List ℕ → Result Trace ℕ
read_lines line s [] tail = whole line tail s
read_lines line s (l ∷ ls) tail = going_on (after_line s l) line (λ next. read_lines (suc line) next ls tail)

abbrev pub nothing : SoFar
nothing = record { stage = now.Title; version = First; trace = record { steps = 0; start = []; entries = []; ends = [] } }

abbrev pub read_text : List ℕ → Result Trace ℕ
read_text text = read_lines 1 nothing (lines_of text).0 (lines_of text).1

-- what a function returned is what reading gives, unless memory ran out
abbrev pub Told : Result Trace TraceFault → Result Trace ℕ → Type 0
Told (Ok trace) read = read ≡ Ok trace
Told (Err (fault.Line line)) read = read ≡ Err line
Told (Err fault.NoMemory) read = Unit {0}
