-- No line of a trace has a line feed in it, so that a text falls into just the lines that were joined. The parts of a line are digits,
-- fixed words and hexadecimal digits; a word without a line feed joined to another is one.
use Rattle.std.proofs.Common.{◌≡◌, ℕ, ◌+◌, ◌-◌, ◌/◌, ◌%◌, ◌<◌, ◌≤◌, ◌^◌, Bool, true, false, List, [], ◌∷◌, ◌++◌, length, codes, refl, arith}
use Rattle.std.specs.Prelude.{ℤ, pos, negsuc, suc, All, not, ◌&&◌, nat_lt, if◌then◌else◌}
use Rattle.std.specs.Fmt.{decimal, signed_decimal}
use Rattle.std.proofs.lemmas.Bool.Decides.{nat_tests}
use Rattle.std.proofs.lemmas.List.Elements.{All-head, All-tail}
use Rattle.ac_base.specs.declared.ends.Trap.TheVariants.{ZeroDivisor, Index, StackFull, OutputFull, FileRange}
use Rattle.ac_base.specs.declared.ends.EndWord.{EndWord}
use Rattle.ac_base.specs.declared.ends.EndWord.TheVariants.{Finished, Trapped, OutOfSteps, Stalled}
use Rattle.ac_base.specs.declared.entry.Payload.{Payload}
use Rattle.ac_base.specs.declared.entry.Payload.TheVariants as p
use Rattle.ac_base.specs.declared.entry.Answer.{Answer}
use Rattle.ac_base.specs.declared.entry.Answer.TheVariants as a
use Rattle.ac_base.specs.declared.entry.Event.{Event}
use Rattle.ac_base.specs.declared.entry.Event.TheVariants as e
use Rattle.ac_base.specs.declared.entry.Stamped.{Stamped}
use Rattle.ac_base.specs.Hexadecimal.{hex_digit, hex_digits, hex_of}
use Rattle.ac_base.specs.Report.{word_text}
use Rattle.trace_text.specs.declared.version.Version.{Version}
use Rattle.trace_text.specs.declared.version.Version.TheVariants.{First, Second}
use Rattle.trace_text.specs.declared.trace.Trace.{Trace}
use Rattle.trace_text.specs.declared.trace.TraceEnd.{TraceEnd}
use Rattle.trace_text.specs.Text.{spaced, offer_name, ints_text, message_text, offered_word, got_word, payload_text, answer_text, event_text, file_line, entry_line, end_line}
use Rattle.trace_text.specs.Text.{file_lines, entry_lines, end_lines, trace_lines, title, steps_line}
use Rattle.trace_text.specs.Spelling.{IsValue, IsMessage, IsPayload, IsAnswer, IsOffer, IsEvent, IsEntry, IsEnd, IsTrace}
use Rattle.trace_text.specs.inner.Reading.{is_feed}
use Rattle.trace_text.proofs.Numbers.{AreDigits, decimal_digits}
use Rattle.trace_text.proofs.TextLines.{IsLine, AreLines}

-- ---- parts of a line

abbrev has_none : List ℕ → Bool
has_none [] = true
has_none (b ∷ bs) = not (is_feed b) && has_none bs

no_feed_case : (b : ℕ) (t u : Bool) → is_feed b ≡ t → (not t && u) ≡ true → (is_feed b ≡ false) × (u ≡ true)
no_feed_case b false u f h = (f, h)
no_feed_case b true u f h = absurd (false_is_not h)
  where
    false_is_not : false ≡ true → ⊥
    false_is_not g = cc

-- a word, where a test finds none
word_line : (bs : List ℕ) → has_none bs ≡ true → IsLine bs
word_line [] h = tt
word_line (b ∷ bs) h = let q = no_feed_case b (is_feed b) (has_none bs) refl h in (q.0, word_line bs q.1)

join : (a b : List ℕ) → IsLine a → IsLine b → IsLine (a ++ b)
join [] b h g = g
join (c ∷ a) b h g = (h.0, join a b h.1 g)

digit_line : (ds : List ℕ) → AreDigits ds → IsLine ds
digit_line [] h = tt
digit_line (b ∷ ds) h = (grind (arith, nat_tests, h.0), digit_line ds h.1)

number_line : (n : ℕ) → n < 2 ^ 64 → IsLine (decimal n)
number_line n lt = digit_line (decimal n) (decimal_digits n lt)

spaced_line : (n : ℕ) → n < 2 ^ 64 → IsLine (spaced n)
spaced_line n lt = (refl, number_line n lt)

value_line : (v : ℤ) → IsValue v → IsLine (signed_decimal v)
value_line (pos n) h = number_line n (omega (arith, h))
value_line (negsuc n) h = (refl, number_line (suc n) (omega (arith, h)))

hex_case : (n : ℕ) (t : Bool) → nat_lt n 10 ≡ t → is_feed (if t then 48 + n else 97 + (n - 10)) ≡ false
hex_case n true h = grind (arith, nat_tests)
hex_case n false h = grind (arith, nat_tests)

hex_line : (n : ℕ) → is_feed (hex_digit n) ≡ false
hex_line n = hex_case n (nat_lt n 10) refl

digits_line : (bytes : List ℕ) → IsLine (hex_digits bytes)
digits_line [] = tt
digits_line (b ∷ bs) = (hex_line (b / 16), (hex_line (b % 16), digits_line bs))

bytes_line : (bytes : List ℕ) → IsLine (hex_of bytes)
bytes_line [] = (refl, tt)
bytes_line (b ∷ bs) = digits_line (b ∷ bs)

blank_bytes : (bytes : List ℕ) → IsLine (codes " " ++ hex_of bytes)
blank_bytes bytes = (refl, bytes_line bytes)

small : (n : ℕ) → n < 2 ^ 32 → n < 2 ^ 64
small n h = omega (arith, h)

-- ---- events

offer_line : (link number : ℕ) → IsOffer link number → IsLine (offer_name link number)
offer_line link number h = join (decimal link) (spaced number) (number_line link (small link h.0)) (spaced_line number h.1)

ints_line : (ints : List ℤ) → All IsValue ints → IsLine (ints_text ints)
ints_line [] h = tt
ints_line (v ∷ ints) h = (refl, join (signed_decimal v) (ints_text ints) (value_line v (All-head IsValue v ints h)) (ints_line ints (All-tail IsValue v ints h)))

message_line : (version : Version) (message : List ℤ) → IsMessage message → IsLine (message_text version message)
message_line First message h = ints_line message h.0
message_line Second message h =
    join (spaced (length message)) (ints_text message) (spaced_line (length message) (omega (arith, h.1.1))) (ints_line message h.0)

offered_line : (version : Version) → IsLine (offered_word version)
offered_line First = word_line (codes " int") refl
offered_line Second = word_line (codes " ints") refl

got_line : (version : Version) → IsLine (got_word version)
got_line First = tt
got_line Second = word_line (codes " ints") refl

payload_line : (version : Version) (payload : Payload) → IsPayload payload → IsLine (payload_text version payload)
payload_line version (p.Int message) h = join (offered_word version) (message_text version message) (offered_line version) (message_line version message h)
payload_line version (p.Read file from len) h =
    join (codes " read ") (decimal file ++ (spaced from ++ spaced len)) (word_line (codes " read ") refl)
    (join (decimal file) (spaced from ++ spaced len) (number_line file (small file h.0))
    (join (spaced from) (spaced len) (spaced_line from (small from h.1.0)) (spaced_line len (small len h.1.1))))
payload_line version (p.Write file from bytes) h =
    join (codes " write ") (decimal file ++ (spaced from ++ (codes " " ++ hex_of bytes))) (word_line (codes " write ") refl)
    (join (decimal file) (spaced from ++ (codes " " ++ hex_of bytes)) (number_line file (small file h.0))
    (join (spaced from) (codes " " ++ hex_of bytes) (spaced_line from (small from h.1.0)) (blank_bytes bytes)))

answer_line : (answer : Answer) → IsAnswer answer → IsLine (answer_text answer)
answer_line (a.Bytes bytes) h = join (codes " bytes ") (hex_of bytes) (word_line (codes " bytes ") refl) (bytes_line bytes)
answer_line (a.Count count) h = join (codes " count ") (decimal count) (word_line (codes " count ") refl) (number_line count (small count h))
answer_line (a.Fault count) h = join (codes " fault ") (decimal count) (word_line (codes " fault ") refl) (number_line count (small count h))

-- a word and an offer's numbers
bare_line : (word : List ℕ) (link number : ℕ) → has_none word ≡ true → IsOffer link number → IsLine (word ++ offer_name link number)
bare_line word link number w h = join word (offer_name link number) (word_line word w) (offer_line link number h)

event_line : (version : Version) (event : Event) → IsEvent event → IsLine (event_text version event)
event_line version (e.Offer link number payload) h =
    join (codes " offer ") (offer_name link number ++ payload_text version payload) (word_line (codes " offer ") refl)
    (join (offer_name link number) (payload_text version payload) (offer_line link number h.0) (payload_line version payload h.1))
event_line version (e.Withdraw link number) h = bare_line (codes " withdraw ") link number refl h
event_line version (e.Know link number) h = bare_line (codes " know ") link number refl h
event_line version (e.Room link number) h = bare_line (codes " room ") link number refl h
event_line version (e.Got link number message) h =
    join (codes " got ") (offer_name link number ++ (got_word version ++ message_text version message)) (word_line (codes " got ") refl)
    (join (offer_name link number) (got_word version ++ message_text version message) (offer_line link number h.0)
    (join (got_word version) (message_text version message) (got_line version) (message_line version message h.1)))
event_line version (e.Pass link number) h = bare_line (codes " pass ") link number refl h
event_line version (e.Did link number answer) h =
    join (codes " did ") (offer_name link number ++ answer_text answer) (word_line (codes " did ") refl)
    (join (offer_name link number) (answer_text answer) (offer_line link number h.0) (answer_line answer h.1))
event_line version (e.Reply link number answer) h =
    join (codes " reply ") (offer_name link number ++ answer_text answer) (word_line (codes " reply ") refl)
    (join (offer_name link number) (answer_text answer) (offer_line link number h.0) (answer_line answer h.1))

-- ---- lines

steps_are_line : (n : ℕ) → n < 2 ^ 64 → IsLine (steps_line n)
steps_are_line n lt = join (codes "steps ") (decimal n) (word_line (codes "steps ") refl) (number_line n lt)

file_is_line : (k : ℕ) (bytes : List ℕ) → k < 2 ^ 32 → IsLine (file_line k bytes)
file_is_line k bytes lt =
    join (codes "file ") (decimal k ++ (codes " " ++ hex_of bytes)) (word_line (codes "file ") refl)
    (join (decimal k) (codes " " ++ hex_of bytes) (number_line k (small k lt)) (blank_bytes bytes))

entry_is_line : (version : Version) (s : Stamped) → IsEntry s → IsLine (entry_line version s)
entry_is_line version s h =
    join (decimal s.entry.stamp) (spaced s.party ++ (spaced s.entry.turn ++ event_text version s.entry.event)) (number_line s.entry.stamp (omega (arith, h.stamp_most)))
    (join (spaced s.party) (spaced s.entry.turn ++ event_text version s.entry.event) (spaced_line s.party (small s.party h.party))
    (join (spaced s.entry.turn) (event_text version s.entry.event) (spaced_line s.entry.turn h.turn) (event_line version s.entry.event h.event)))

word_is_line : (word : EndWord) → IsLine (word_text word)
word_is_line Finished = word_line (codes "finished") refl
word_is_line (Trapped ZeroDivisor) = word_line (codes "zero-divisor") refl
word_is_line (Trapped Index) = word_line (codes "index") refl
word_is_line (Trapped StackFull) = word_line (codes "stack-full") refl
word_is_line (Trapped OutputFull) = word_line (codes "output-full") refl
word_is_line (Trapped FileRange) = word_line (codes "file-range") refl
word_is_line OutOfSteps = word_line (codes "out-of-steps") refl
word_is_line Stalled = word_line (codes "stalled") refl

end_is_line : (k : ℕ) (end : TraceEnd) → k < 2 ^ 32 → IsEnd end → IsLine (end_line k end)
end_is_line k end lt h =
    join (codes "end ") (decimal k ++ (codes " " ++ (word_text end.word ++ (spaced end.steps ++ (codes " " ++ hex_of end.output))))) (word_line (codes "end ") refl)
    (join (decimal k) (codes " " ++ (word_text end.word ++ (spaced end.steps ++ (codes " " ++ hex_of end.output)))) (number_line k (small k lt))
    (join (codes " ") (word_text end.word ++ (spaced end.steps ++ (codes " " ++ hex_of end.output))) (refl, tt)
    (join (word_text end.word) (spaced end.steps ++ (codes " " ++ hex_of end.output)) (word_is_line end.word)
    (join (spaced end.steps) (codes " " ++ hex_of end.output) (spaced_line end.steps h.steps) (blank_bytes end.output)))))

-- ---- all lines of a trace

files_are_lines : (k : ℕ) (files : List (List ℕ)) → k + length files ≤ 2 ^ 32 → AreLines (file_lines k files)
files_are_lines k [] le = tt
files_are_lines k (bytes ∷ files) le = (file_is_line k bytes (omega (arith, le)), files_are_lines (suc k) files (omega (arith, le)))

entries_are_lines : (version : Version) (ss : List Stamped) → All IsEntry ss → AreLines (entry_lines version ss)
entries_are_lines version [] h = tt
entries_are_lines version (s ∷ ss) h = (entry_is_line version s (All-head IsEntry s ss h), entries_are_lines version ss (All-tail IsEntry s ss h))

ends_are_lines : (k : ℕ) (ends : List TraceEnd) → k + length ends ≤ 2 ^ 32 → All IsEnd ends → AreLines (end_lines k ends)
ends_are_lines k [] le h = tt
ends_are_lines k (end ∷ ends) le h =
    (end_is_line k end (omega (arith, le)) (All-head IsEnd end ends h), ends_are_lines (suc k) ends (omega (arith, le)) (All-tail IsEnd end ends h))

pub join_lines : (a b : List (List ℕ)) → AreLines a → AreLines b → AreLines (a ++ b)
join_lines [] b h g = g
join_lines (l ∷ a) b h g = (h.0, join_lines a b h.1 g)

pub front_lines : (a b : List (List ℕ)) → AreLines (a ++ b) → AreLines a
front_lines [] b h = tt
front_lines (l ∷ a) b h = (h.0, front_lines a b h.1)

pub last_line : (a : List (List ℕ)) (l : List ℕ) → AreLines (a ++ l ∷ []) → IsLine l
last_line [] l h = h.0
last_line (m ∷ a) l h = last_line a l h.1

title_is_line : (version : Version) → IsLine (title version)
title_is_line First = word_line (title First) refl
title_is_line Second = word_line (title Second) refl

pub trace_is_lines : (version : Version) (t : Trace) → IsTrace t → AreLines (trace_lines version t)
trace_is_lines version t h = (
  title_is_line version,
  (
    steps_are_line t.steps (omega (arith, h.steps_most)),
    join_lines (file_lines 0 t.start) (entry_lines version t.entries ++ end_lines 0 t.ends) (files_are_lines 0 t.start (omega (arith, h.few_files)))
        (join_lines (entry_lines version t.entries) (end_lines 0 t.ends) (entries_are_lines version t.entries h.entries)
        (ends_are_lines 0 t.ends (omega (arith, h.few_ends)) h.ends)),
  ),
)
