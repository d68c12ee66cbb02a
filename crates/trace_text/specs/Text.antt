-- The text of a trace: its lines, each from what it tells of. The versions differ in the first line and in the messages.
use Rattle.std.specs.Prelude.{ℕ, suc, ℤ, List, [], ◌∷◌, ◌++◌, length, codes}
use Rattle.std.specs.Fmt.{decimal, signed_decimal}
use Rattle.ac_base.specs.Hexadecimal.{hex_of}
use Rattle.ac_base.specs.Report.{word_text}
use Rattle.ac_base.specs.declared.entry.Payload.{Payload}
use Rattle.ac_base.specs.declared.entry.Payload.TheVariants as p
use Rattle.ac_base.specs.declared.entry.Answer.{Answer}
use Rattle.ac_base.specs.declared.entry.Answer.TheVariants as a
use Rattle.ac_base.specs.declared.entry.Event.{Event}
use Rattle.ac_base.specs.declared.entry.Event.TheVariants as e
use Rattle.ac_base.specs.declared.entry.Stamped.{Stamped}
use Rattle.trace_text.specs.declared.version.Version.{Version}
use Rattle.trace_text.specs.declared.version.Version.TheVariants.{First, Second}
use Rattle.trace_text.specs.declared.trace.Trace.{Trace}
use Rattle.trace_text.specs.declared.trace.TraceEnd.{TraceEnd}
use Rattle.trace_text.specs.Versions.{version_of}

-- ---- events

-- a number behind a blank
abbrev pub spaced : ℕ → List ℕ
spaced n = codes " " ++ decimal n

-- the number of a link and that of an offer on it
abbrev pub offer_name : ℕ → ℕ → List ℕ
offer_name link number = decimal link ++ spaced number

-- each int behind a blank
abbrev pub ints_text : List ℤ → List ℕ
ints_text [] = []
ints_text (int ∷ ints) = codes " " ++ (signed_decimal int ++ ints_text ints)

-- in version 1 the int of a message; in version 2 how many ints it has, and these
abbrev pub message_text : Version → List ℤ → List ℕ
message_text First message = ints_text message
message_text Second message = spaced (length message) ++ ints_text message

-- the word before the message of an offer
abbrev pub offered_word : Version → List ℕ
offered_word First = codes " int"
offered_word Second = codes " ints"

-- the word before a message that was got; in version 1 there is none
abbrev pub got_word : Version → List ℕ
got_word First = []
got_word Second = codes " ints"

abbrev pub payload_text : Version → Payload → List ℕ
payload_text version (p.Int message) = offered_word version ++ message_text version message
payload_text version (p.Read file from len) = codes " read " ++ (decimal file ++ (spaced from ++ spaced len))
payload_text version (p.Write file from bytes) = codes " write " ++ (decimal file ++ (spaced from ++ (codes " " ++ hex_of bytes)))

abbrev pub answer_text : Answer → List ℕ
answer_text (a.Bytes bytes) = codes " bytes " ++ hex_of bytes
answer_text (a.Count count) = codes " count " ++ decimal count
answer_text (a.Fault count) = codes " fault " ++ decimal count

abbrev pub event_text : Version → Event → List ℕ
event_text version (e.Offer link number payload) = codes " offer " ++ (offer_name link number ++ payload_text version payload)
event_text version (e.Withdraw link number) = codes " withdraw " ++ offer_name link number
event_text version (e.Know link number) = codes " know " ++ offer_name link number
event_text version (e.Room link number) = codes " room " ++ offer_name link number
event_text version (e.Got link number message) =
    codes " got " ++ (offer_name link number ++ (got_word version ++ message_text version message))
event_text version (e.Pass link number) = codes " pass " ++ offer_name link number
event_text version (e.Did link number answer) = codes " did " ++ (offer_name link number ++ answer_text answer)
event_text version (e.Reply link number answer) = codes " reply " ++ (offer_name link number ++ answer_text answer)

-- ---- lines, without their line feeds

abbrev pub title : Version → List ℕ
title First = codes "ac-trace 1"
title Second = codes "ac-trace 2"

abbrev pub steps_line : ℕ → List ℕ
steps_line steps = codes "steps " ++ decimal steps

abbrev pub file_line : ℕ → List ℕ → List ℕ
file_line file bytes = codes "file " ++ (decimal file ++ (codes " " ++ hex_of bytes))

-- the stamp, the party, the turn and the event
abbrev pub entry_line : Version → Stamped → List ℕ
entry_line version s = decimal s.entry.stamp ++ (spaced s.party ++ (spaced s.entry.turn ++ event_text version s.entry.event))

-- how a core ended, its steps, and its output
abbrev pub outcome_text : TraceEnd → List ℕ
outcome_text end = word_text end.word ++ (spaced end.steps ++ (codes " " ++ hex_of end.output))

abbrev pub end_line : ℕ → TraceEnd → List ℕ
end_line core end = codes "end " ++ (decimal core ++ (codes " " ++ outcome_text end))

-- the files from that number on
abbrev pub file_lines : ℕ → List (List ℕ) → List (List ℕ)
file_lines file [] = []
file_lines file (bytes ∷ files) = file_line file bytes ∷ file_lines (suc file) files

abbrev pub entry_lines : Version → List Stamped → List (List ℕ)
entry_lines version [] = []
entry_lines version (s ∷ ss) = entry_line version s ∷ entry_lines version ss

-- the ends of the cores from that number on
abbrev pub end_lines : ℕ → List TraceEnd → List (List ℕ)
end_lines core [] = []
end_lines core (end ∷ ends) = end_line core end ∷ end_lines (suc core) ends

abbrev pub trace_lines : Version → Trace → List (List ℕ)
trace_lines version t =
    title version ∷ steps_line t.steps ∷ (file_lines 0 t.start ++ (entry_lines version t.entries ++ end_lines 0 t.ends))

-- ---- the text

-- each line with a line feed behind it
abbrev pub joined : List (List ℕ) → List ℕ
joined [] = []
joined (l ∷ ls) = l ++ (10 ∷ joined ls)

abbrev pub trace_text : Trace → List ℕ
trace_text t = joined (trace_lines (version_of t) t)
