-- What the text of a trace says, line by line and whole, worked out by hand. Decimal texts do not compute, so those in the examples are
-- worked out first, and each example rewrites by them.
use Rattle.std.proofs.Common.{◌≡◌, ℕ, true, false, refl, pos, List, [], ◌∷◌, ◌++◌, codes, ap, ◌∙◌, arith}
use Rattle.std.specs.Prelude.{ℤ, negsuc}
use Rattle.std.specs.Fmt.{decimal}
use Rattle.std.proofs.lemmas.Fmt.{decimal_digit, decimal_step}
use Rattle.ac_base.specs.declared.ends.Trap.TheVariants.{FileRange}
use Rattle.ac_base.specs.declared.ends.EndWord.{EndWord}
use Rattle.ac_base.specs.declared.ends.EndWord.TheVariants.{Finished, Trapped, OutOfSteps}
use Rattle.ac_base.specs.declared.entry.Payload.TheVariants as p
use Rattle.ac_base.specs.declared.entry.Answer.TheVariants as a
use Rattle.ac_base.specs.declared.entry.Event.{Event}
use Rattle.ac_base.specs.declared.entry.Event.TheVariants as e
use Rattle.ac_base.specs.declared.entry.Stamped.{Stamped}
use Rattle.trace_text.specs.declared.version.Version.TheVariants.{First, Second}
use Rattle.trace_text.specs.declared.trace.Trace.{Trace}
use Rattle.trace_text.specs.declared.trace.TraceEnd.{TraceEnd}
use Rattle.trace_text.specs.Versions.{is_wide_message, is_wide_payload, is_wide_event, is_wide_entry, is_wide, version_of, CanSpell}
use Rattle.trace_text.specs.Text.{spaced, offer_name, ints_text, message_text, offered_word, got_word, payload_text, answer_text, event_text}
use Rattle.trace_text.specs.Text.{title, steps_line, file_line, entry_line, outcome_text, end_line}
use Rattle.trace_text.specs.Text.{file_lines, entry_lines, end_lines, joined, trace_lines, trace_text}

-- ---- the decimal texts in the examples, which do not compute

pub nought : decimal 0 ≡ codes "0"
nought = decimal_digit 0 (omega arith)

pub one : decimal 1 ≡ codes "1"
one = decimal_digit 1 (omega arith)

pub two : decimal 2 ≡ codes "2"
two = decimal_digit 2 (omega arith)

pub figure_three : decimal 3 ≡ codes "3"
figure_three = decimal_digit 3 (omega arith)

pub four : decimal 4 ≡ codes "4"
four = decimal_digit 4 (omega arith)

pub five : decimal 5 ≡ codes "5"
five = decimal_digit 5 (omega arith)

six : decimal 6 ≡ codes "6"
six = decimal_digit 6 (omega arith)

seven : decimal 7 ≡ codes "7"
seven = decimal_digit 7 (omega arith)

twelve : decimal 12 ≡ codes "12"
twelve = decimal_step 12 (omega arith) (omega arith) ∙ ap (λ ds. ds ++ codes "2") one

twenty_five : decimal 25 ≡ codes "25"
twenty_five = decimal_step 25 (omega arith) (omega arith) ∙ ap (λ ds. ds ++ codes "5") two

two_hundred_fifty_six : decimal 256 ≡ codes "256"
two_hundred_fifty_six = decimal_step 256 (omega arith) (omega arith) ∙ ap (λ ds. ds ++ codes "6") twenty_five

ten : decimal 10 ≡ codes "10"
ten = decimal_step 10 (omega arith) (omega arith) ∙ ap (λ ds. ds ++ codes "0") one

hundred : decimal 100 ≡ codes "100"
hundred = decimal_step 100 (omega arith) (omega arith) ∙ ap (λ ds. ds ++ codes "0") ten

thousand : decimal 1000 ≡ codes "1000"
thousand = decimal_step 1000 (omega arith) (omega arith) ∙ ap (λ ds. ds ++ codes "0") hundred

ten_thousand : decimal 10000 ≡ codes "10000"
ten_thousand = decimal_step 10000 (omega arith) (omega arith) ∙ ap (λ ds. ds ++ codes "0") thousand

hundred_thousand : decimal 100000 ≡ codes "100000"
hundred_thousand = decimal_step 100000 (omega arith) (omega arith) ∙ ap (λ ds. ds ++ codes "0") ten_thousand

-- ---- lines

abbrev pub made : ℕ → ℕ → ℕ → Event → Stamped
made stamp party turn event = record { party = party; entry = record { stamp = stamp; turn = turn; event = event } }

abbrev pub an_end : EndWord → ℕ → List ℕ → TraceEnd
an_end word steps output = record { word = word; steps = steps; output = output }

-- 4, 0 and -6
abbrev pub three : List ℤ
three = pos 4 ∷ pos 0 ∷ negsuc 5 ∷ []

pub messages : ints_text three ∷ message_text First (pos 5 ∷ []) ∷ message_text Second (pos 5 ∷ []) ∷ message_text Second three ∷ []
    ≡ codes " 4 0 -6" ∷ codes " 5" ∷ codes " 1 5" ∷ codes " 3 4 0 -6" ∷ []
messages = rw (nought, one, figure_three, four, five, six) refl

pub words_before_messages : offered_word First ∷ offered_word Second ∷ got_word First ∷ got_word Second ∷ [] ≡ codes " int" ∷ codes " ints" ∷ [] ∷ codes " ints" ∷ []
words_before_messages = refl

pub parts_of_events :
    spaced 1 ∷ offer_name 0 1 ∷ payload_text First (p.Int (pos 5 ∷ [])) ∷ payload_text Second (p.Int three) ∷ payload_text Second (p.Write 2 3 [])
    ∷ answer_text (a.Bytes (codes "A")) ∷ answer_text (a.Count 2) ∷ []
    ≡ codes " 1" ∷ codes "0 1" ∷ codes " int 5" ∷ codes " ints 3 4 0 -6" ∷ codes " write 2 3 -" ∷ codes " bytes 41" ∷ codes " count 2" ∷ []
parts_of_events = rw (nought, one, two, figure_three, four, five, six) refl

pub offers :
    event_text First (e.Offer 0 1 (p.Int (negsuc 4 ∷ []))) ∷ event_text Second (e.Offer 0 1 (p.Int (negsuc 4 ∷ []))) ∷ event_text First (e.Offer 0 1 (p.Read 2 3 4))
    ∷ event_text Second (e.Offer 0 1 (p.Write 2 3 (codes "A"))) ∷ []
    ≡ codes " offer 0 1 int -5" ∷ codes " offer 0 1 ints 1 -5" ∷ codes " offer 0 1 read 2 3 4" ∷ codes " offer 0 1 write 2 3 41" ∷ []
offers = rw (nought, one, two, figure_three, four, five) refl

pub events_of_a_link_and_a_number : event_text First (e.Withdraw 0 1) ∷ event_text Second (e.Know 0 1) ∷ event_text First (e.Room 0 1) ∷ event_text Second (e.Pass 0 1) ∷ []
    ≡ codes " withdraw 0 1" ∷ codes " know 0 1" ∷ codes " room 0 1" ∷ codes " pass 0 1" ∷ []
events_of_a_link_and_a_number = rw (nought, one) refl

pub what_is_got_and_done :
    event_text First (e.Got 0 1 (pos 5 ∷ [])) ∷ event_text Second (e.Got 0 1 three) ∷ event_text First (e.Did 0 1 (a.Bytes [])) ∷ event_text First (e.Did 0 1 (a.Count 2))
    ∷ event_text Second (e.Reply 0 1 (a.Fault 3)) ∷ []
    ≡ codes " got 0 1 5" ∷ codes " got 0 1 ints 3 4 0 -6" ∷ codes " did 0 1 bytes -" ∷ codes " did 0 1 count 2" ∷ codes " reply 0 1 fault 3" ∷ []
what_is_got_and_done = rw (nought, one, two, figure_three, four, five, six) refl

pub lines_of_files_and_ends : file_line 1 (codes "\n") ∷ file_line 2 [] ∷ end_line 0 (an_end (Trapped FileRange) 3 []) ∷ end_line 1 (an_end OutOfSteps 4 (codes "5\n")) ∷ []
    ≡ codes "file 1 0a" ∷ codes "file 2 -" ∷ codes "end 0 file-range 3 -" ∷ codes "end 1 out-of-steps 4 350a" ∷ []
lines_of_files_and_ends = rw (nought, one, two, figure_three, four) refl

pub first_lines : title First ∷ title Second ∷ steps_line 7 ∷ [] ≡ codes "ac-trace 1" ∷ codes "ac-trace 2" ∷ codes "steps 7" ∷ []
first_lines = rw seven refl

pub a_line_of_an_end : outcome_text (an_end Finished 3 (codes "5\n")) ≡ codes "finished 3 350a"
a_line_of_an_end = rw figure_three refl

-- files and cores are counted from 0
pub lines_in_their_order : file_lines 0 (codes "\n" ∷ [] ∷ []) ∷ entry_lines First (made 4 1 2 (e.Know 0 3) ∷ []) ∷ end_lines 0 (an_end Finished 1 [] ∷ an_end OutOfSteps 2 [] ∷ []) ∷ []
    ≡ (codes "file 0 0a" ∷ codes "file 1 -" ∷ []) ∷ (codes "4 1 2 know 0 3" ∷ []) ∷ (codes "end 0 finished 1 -" ∷ codes "end 1 out-of-steps 2 -" ∷ []) ∷ []
lines_in_their_order = rw (nought, one, two, figure_three, four) refl

-- each line has its line feed, an empty one too
pub lines_are_joined : joined (codes "a" ∷ [] ∷ codes "bc" ∷ []) ≡ codes "a\n\nbc\n"
lines_are_joined = refl

-- the stamp, the party and the turn stand in this order
pub a_line_of_an_entry : entry_line Second (made 4 1 2 (e.Know 0 3)) ≡ codes "4 1 2 know 0 3"
a_line_of_an_entry = rw (nought, one, two, figure_three, four) refl

-- ---- the trace of a message: one core sends 5 to another, which prints it

abbrev pub message : Trace
message = record {
  steps = 100000;
  start = [];
  entries = made 1 0 1 (e.Offer 0 0 (p.Int (pos 5 ∷ []))) ∷ made 2 1 1 (e.Got 0 0 (pos 5 ∷ [])) ∷ made 3 0 1 (e.Know 0 0) ∷ [];
  ends = an_end Finished 1 [] ∷ an_end Finished 3 (codes "5\n") ∷ [];
}

pub the_trace_of_a_message :
    trace_text message ≡ codes "ac-trace 1\nsteps 100000\n1 0 1 offer 0 0 int 5\n2 1 1 got 0 0 5\n3 0 1 know 0 0\nend 0 finished 1 -\nend 1 finished 3 350a\n"
the_trace_of_a_message = rw (hundred_thousand, nought, one, two, figure_three, five) refl

-- its text in version 2, which it does not need
pub in_version_2 :
    joined (trace_lines Second message)
    ≡ codes "ac-trace 2\nsteps 100000\n1 0 1 offer 0 0 ints 1 5\n2 1 1 got 0 0 ints 1 5\n3 0 1 know 0 0\nend 0 finished 1 -\nend 1 finished 3 350a\n"
in_version_2 = rw (hundred_thousand, nought, one, two, figure_three, five) refl

-- ---- the trace of a message of three ints, and which version a trace takes

abbrev pub three_ints : Trace
three_ints = record {
  steps = 100000;
  start = [];
  entries = made 1 0 1 (e.Offer 0 0 (p.Int three)) ∷ made 2 1 1 (e.Got 0 0 three) ∷ made 3 0 1 (e.Know 0 0) ∷ [];
  ends = an_end Finished 5 [] ∷ an_end Finished 3 (codes "4 0 -6\n") ∷ [];
}

pub the_trace_of_three_ints :
    trace_text three_ints
    ≡ codes "ac-trace 2\nsteps 100000\n1 0 1 offer 0 0 ints 3 4 0 -6\n2 1 1 got 0 0 ints 3 4 0 -6\n3 0 1 know 0 0\nend 0 finished 5 -\nend 1 finished 3 342030202d360a\n"
the_trace_of_three_ints = rw (hundred_thousand, nought, one, two, figure_three, four, five, six) refl

-- a message is wide that has not exactly one int
pub wide_messages : is_wide_message (pos 5 ∷ []) ∷ is_wide_message three ∷ is_wide_payload (p.Int three) ∷ is_wide_payload (p.Read 0 0 3) ∷ [] ≡ false ∷ true ∷ true ∷ false ∷ []
wide_messages = refl

pub wide_events :
    is_wide_event (e.Offer 0 0 (p.Int three)) ∷ is_wide_event (e.Got 0 0 three) ∷ is_wide_event (e.Got 0 0 (pos 5 ∷ [])) ∷ is_wide_entry (made 3 0 1 (e.Know 0 0)) ∷ []
    ≡ true ∷ true ∷ false ∷ false ∷ []
wide_events = refl

pub wide_traces : is_wide message ∷ is_wide three_ints ∷ [] ≡ false ∷ true ∷ []
wide_traces = refl

pub their_versions : version_of message ∷ version_of three_ints ∷ [] ≡ First ∷ Second ∷ []
their_versions = refl

-- version 2 can spell each of them, and version 1 one
pub what_a_version_can_spell : (CanSpell First message × CanSpell Second message) × (CanSpell Second three_ints × (CanSpell First three_ints → ⊥))
what_a_version_can_spell = ((refl, tt), (tt, λ h. true_is_not h))
  where
    true_is_not : true ≡ false → ⊥
    true_is_not h = cc

-- ---- the trace of a read and a write of one file: party 1 is the file worker

abbrev pub requests : Trace
requests = record {
  steps = 100000;
  start = codes "0123456789" ∷ [];
  entries = made 1 0 1 (e.Offer 0 0 (p.Read 0 4 256)) ∷ made 2 1 0 (e.Did 0 0 (a.Bytes (codes "456789"))) ∷ made 3 0 1 (e.Know 0 0)
      ∷ made 4 0 1 (e.Reply 0 0 (a.Bytes (codes "456789"))) ∷ made 5 0 2 (e.Offer 0 1 (p.Write 0 12 (codes "A"))) ∷ made 6 1 0 (e.Did 0 1 (a.Count 1))
      ∷ made 7 0 2 (e.Know 0 1) ∷ made 8 0 2 (e.Reply 0 1 (a.Count 1)) ∷ [];
  ends = an_end Finished 6 (codes "6 52 57\n") ∷ [];
}

eight : decimal 8 ≡ codes "8"
eight = decimal_digit 8 (omega arith)

pub the_trace_of_a_read_and_a_write : trace_lines First requests
    ≡ codes "ac-trace 1" ∷ codes "steps 100000" ∷ codes "file 0 30313233343536373839" ∷ codes "1 0 1 offer 0 0 read 0 4 256" ∷ codes "2 1 0 did 0 0 bytes 343536373839"
    ∷ codes "3 0 1 know 0 0" ∷ codes "4 0 1 reply 0 0 bytes 343536373839" ∷ codes "5 0 2 offer 0 1 write 0 12 41" ∷ codes "6 1 0 did 0 1 count 1" ∷ codes "7 0 2 know 0 1"
    ∷ codes "8 0 2 reply 0 1 count 1" ∷ codes "end 0 finished 6 362035322035370a" ∷ []
the_trace_of_a_read_and_a_write = rw (hundred_thousand, two_hundred_fifty_six, twelve, nought, one, two, figure_three, four, five, six, seven, eight) refl
