-- What a text can tell, what it spells, and its first wrong line, worked out by hand: a limit with a value that just keeps it and one that
-- just does not, and a text with its trace, for which the reading function computes.
use Rattle.std.proofs.Common.{◌≡◌, ◌⊎◌, inl, inr, ℕ, ◌-◌, ◌<◌, ◌≤◌, ◌^◌, true, false, refl, pos, List, [], ◌∷◌, codes, length, get_or, Ok, Err, ap, sym, ◌∙◌, arith}
use Rattle.std.specs.Prelude.{negsuc, replicate}
use Rattle.std.proofs.lemmas.List.Elements.{All-nil, All-cons, All-head, All-tail, All-replicate}
use Rattle.ac_base.specs.declared.ends.EndWord.TheVariants.{Finished}
use Rattle.ac_base.specs.declared.entry.Payload.TheVariants as p
use Rattle.ac_base.specs.declared.entry.Answer.TheVariants as a
use Rattle.ac_base.specs.declared.entry.Event.TheVariants as e
use Rattle.trace_text.specs.declared.faults.WriteFault.TheVariants as w
use Rattle.trace_text.specs.declared.faults.TraceFault.TheVariants as fault
use Rattle.trace_text.specs.declared.so_far.Stage.TheVariants as now
use Rattle.trace_text.specs.declared.version.Version.TheVariants.{First, Second}
use Rattle.trace_text.specs.declared.trace.Trace.{Trace}
use Rattle.trace_text.specs.Spelling.{AreBytes, IsValue, IsMessage, IsPayload, IsAnswer, IsOffer, IsEvent, IsEntry, IsEnd, IsTrace, SpellsTrace, SpellsIn, IsTheTrace, Begins}
use Rattle.trace_text.specs.Spelling.{IsLineWrong, IsNeedless, IsFirstWrong}
use Rattle.trace_text.specs.Fitting.{EntryFits, NumbersFit}
use Rattle.trace_text.specs.Outcomes.{trace_limit, Writes, Reads}
use Rattle.trace_text.specs.Text.{trace_text}
use Rattle.trace_text.specs.inner.Reading.{read_lines, after_line, entry_at, event_at, taking_at, payload_at, message_at}
use Rattle.trace_text.specs.inner.Reading.{answer_at, value_at, number_at, numbered_at, end_at, end_word_at, bytes_to_end}
use Rattle.trace_text.proofs.Stages.{at}
use Rattle.trace_text.proofs.Whole.{the_trace, read_spells, read_stops, read_begins, not_begun, line_is_read, not_ok, one_line}
use Rattle.trace_text.proofs.Examples.{made, an_end, message, three_ints, the_trace_of_a_message, in_version_2}
use Rattle.trace_text.proofs.WrongExamples.{third, third_of_2, the_trace_of_a_message_is_read, the_trace_of_three_ints_is_read}

-- ---- what a text can tell

pub bytes_are_low : AreBytes (0 ∷ 255 ∷ []) × (AreBytes (256 ∷ []) → ⊥)
bytes_are_low = (
  All-cons (λ b. b < 256) 0 (255 ∷ []) (omega arith) (All-cons (λ b. b < 256) 255 [] (omega arith) (All-nil (λ b. b < 256))),
  λ h. let low : 256 < 256 = All-head (λ b. b < 256) 256 [] h in omega (arith, low),
)

-- from -2^63 to 2^63 - 1
pub values_have_64_bits : (IsValue (negsuc (2 ^ 63 - 1)) × IsValue (pos (2 ^ 63 - 1))) × ((IsValue (negsuc (2 ^ 63)) → ⊥) × (IsValue (pos (2 ^ 63)) → ⊥))
values_have_64_bits = ((omega arith, omega arith), (λ h. omega (arith, h), λ h. omega (arith, h)))

-- one int is a message and sixteen are, and none and seventeen are not; each int has 64 bits
pub messages_have_1_to_16_ints :
    (IsMessage (pos 5 ∷ []) × IsMessage (replicate 16 (negsuc 5))) × ((IsMessage [] → ⊥) × ((IsMessage (replicate 17 (pos 0)) → ⊥) × (IsMessage (pos 5 ∷ pos (2 ^ 63) ∷ []) → ⊥)))
messages_have_1_to_16_ints = (
  (
    (All-cons IsValue (pos 5) [] (omega arith) (All-nil IsValue), (omega arith, omega arith)),
    (All-replicate IsValue 16 (negsuc 5) (omega arith), (omega arith, omega arith)),
  ),
  (
    λ h. omega (arith, h.1.0),
    (
      λ h. omega (arith, h.1.1),
      λ h. let high : IsValue (pos (2 ^ 63)) = All-head IsValue (pos (2 ^ 63)) [] (All-tail IsValue (pos 5) (pos (2 ^ 63) ∷ []) h.0) in omega (arith, high),
    ),
  ),
)

pub payloads_are_low :
    IsPayload (p.Read (2 ^ 32 - 1) 0 256)
    × ((IsPayload (p.Read (2 ^ 32) 0 256) → ⊥) × ((IsPayload (p.Write 0 (2 ^ 32) []) → ⊥) × (IsPayload (p.Int (pos 5 ∷ [])) × (IsPayload (p.Int []) → ⊥))))
payloads_are_low = (
  (omega arith, (omega arith, omega arith)),
  (λ h. omega (arith, h.0), (λ h. omega (arith, h.1.0), (messages_have_1_to_16_ints.0.0, messages_have_1_to_16_ints.1.0))),
)

pub answers_are_low : IsAnswer (a.Count (2 ^ 32 - 1)) × ((IsAnswer (a.Count (2 ^ 32)) → ⊥) × (IsAnswer (a.Fault (2 ^ 32)) → ⊥))
answers_are_low = (omega arith, (λ h. omega (arith, h), λ h. omega (arith, h)))

-- a link is below 2^32, and the number of an offer below 2^64
pub offers_are_low : IsOffer (2 ^ 32 - 1) (2 ^ 64 - 1) × ((IsOffer (2 ^ 32) 0 → ⊥) × (IsOffer 0 (2 ^ 64) → ⊥))
offers_are_low = ((omega arith, omega arith), (λ h. omega (arith, h.0), λ h. omega (arith, h.1)))

pub events_are_low : IsEvent (e.Got 0 1 (pos 5 ∷ [])) × ((IsEvent (e.Got 0 1 []) → ⊥) × ((IsEvent (e.Know (2 ^ 32) 0) → ⊥) × (IsEvent (e.Did 0 1 (a.Count (2 ^ 32))) → ⊥)))
events_are_low = (
  ((omega arith, omega arith), messages_have_1_to_16_ints.0.0),
  (λ h. messages_have_1_to_16_ints.1.0 h.1, (λ h. omega (arith, h.0), λ h. omega (arith, h.1))),
)

-- a stamp is from 1 to 2^60 - 1
pub stamps_have_limits : IsEntry (made (2 ^ 60 - 1) 0 0 (e.Know 0 0)) × ((IsEntry (made 0 0 0 (e.Know 0 0)) → ⊥) × (IsEntry (made (2 ^ 60) 0 0 (e.Know 0 0)) → ⊥))
stamps_have_limits = (
  record { stamp_least = omega arith; stamp_most = omega arith; party = omega arith; turn = omega arith; event = (omega arith, omega arith) },
  (λ h. let least : 1 ≤ 0 = h.stamp_least in omega (arith, least), λ h. let most : 2 ^ 60 < 2 ^ 60 = h.stamp_most in omega (arith, most)),
)

pub an_end_is_told : IsEnd (an_end Finished (2 ^ 64 - 1) []) × (IsEnd (an_end Finished (2 ^ 64) []) → ⊥)
an_end_is_told = (record { steps = omega arith; output = All-nil (λ b. b < 256) }, λ h. let low : 2 ^ 64 < 2 ^ 64 = h.steps in omega (arith, low))

-- but for its stamp, an entry fits its types where its turn has 64 bits and its party 32
pub entries_fit : EntryFits (made 0 3 (2 ^ 64 - 1) (e.Know 0 0)) × ((EntryFits (made 1 3 (2 ^ 64) (e.Know 0 0)) → ⊥) × (EntryFits (made 1 (2 ^ 32) 0 (e.Know 0 0)) → ⊥))
entries_fit = (
  record { party = omega arith; turn = omega arith; event = (omega arith, omega arith) },
  (λ h. let low : 2 ^ 64 < 2 ^ 64 = h.turn in omega (arith, low), λ h. let low : 2 ^ 32 < 2 ^ 32 = h.party in omega (arith, low)),
)

-- no core has ended in it
abbrev endless : Trace
endless = record { steps = 7; start = []; entries = []; ends = [] }

-- a bound of no steps
abbrev boundless : Trace
boundless = record { steps = 0; start = []; entries = []; ends = an_end Finished 0 [] ∷ [] }

pub no_trace_without_an_end_or_a_step : (IsTrace endless → ⊥) × (IsTrace boundless → ⊥)
no_trace_without_an_end_or_a_step = (λ h. let some : 1 ≤ 0 = h.some_end in omega (arith, some), λ h. let least : 1 ≤ 0 = h.steps_least in omega (arith, least))

-- a trace that a text does not tell, since it has a bound of no steps, fits its types; one with a byte of 256 does not
pub numbers_fit : NumbersFit boundless × (NumbersFit (record boundless { start = (256 ∷ []) ∷ [] }) → ⊥)
numbers_fit = (
  record {
    files = All-nil AreBytes;
    entries = All-nil EntryFits;
    ends = All-cons IsEnd (an_end Finished 0 []) [] (record { steps = omega arith; output = All-nil (λ b. b < 256) }) (All-nil IsEnd);
  },
  λ h. bytes_are_low.1 (All-head AreBytes (256 ∷ []) [] h.files),
)

-- ---- what a text spells

abbrev pub message_text : List ℕ
message_text = codes "ac-trace 1\nsteps 100000\n1 0 1 offer 0 0 int 5\n2 1 1 got 0 0 5\n3 0 1 know 0 0\nend 0 finished 1 -\nend 1 finished 3 350a\n"

pub a_message_is_spelled : SpellsTrace message_text message
a_message_is_spelled = read_spells message_text message the_trace_of_a_message_is_read

pub a_text_has_one_trace : IsTheTrace message_text message
a_text_has_one_trace = the_trace message_text message the_trace_of_a_message_is_read

abbrev text_of_three_ints : List ℕ
text_of_three_ints =
    codes "ac-trace 2\nsteps 100000\n1 0 1 offer 0 0 ints 3 4 0 -6\n2 1 1 got 0 0 ints 3 4 0 -6\n3 0 1 know 0 0\nend 0 finished 5 -\nend 1 finished 3 342030202d360a\n"

pub three_ints_are_spelled : IsTheTrace text_of_three_ints three_ints
three_ints_are_spelled = the_trace text_of_three_ints three_ints the_trace_of_three_ints_is_read

-- and its first line alone is not that text
pub the_first_line_alone_is_not_its_text : SpellsTrace (codes "ac-trace 1\n") message → ⊥
the_first_line_alone_is_not_its_text h = let same : length (codes "ac-trace 1\n") ≡ length message_text = ap (λ (bs : List ℕ). length bs) (h.is_text ∙ the_trace_of_a_message) in omega (arith, same)

pub what_begins_a_trace : (Begins (codes "ac-trace 1" ∷ codes "steps 7" ∷ codes "1 0 1 know 0 0" ∷ [])) × (Begins (codes "ac-trace 1" ∷ codes "steps 0" ∷ []) → ⊥)
unfolding read_lines after_line entry_at event_at taking_at payload_at message_at answer_at value_at number_at numbered_at end_at end_word_at bytes_to_end
what_begins_a_trace = (
  read_begins (codes "ac-trace 1" ∷ codes "steps 7" ∷ codes "1 0 1 know 0 0" ∷ []) (at now.Entries First 7 [] (made 1 0 1 (e.Know 0 0) ∷ []) []) refl,
  not_begun (codes "ac-trace 1" ∷ codes "steps 0" ∷ []) refl,
)

-- the same in version 2, which it does not need
abbrev pub needless_text : List ℕ
needless_text = codes "ac-trace 2\nsteps 100000\n1 0 1 offer 0 0 ints 1 5\n2 1 1 got 0 0 ints 1 5\n3 0 1 know 0 0\nend 0 finished 1 -\nend 1 finished 3 350a\n"

-- a message of one int is spelled in both versions, each with its text; three ints are not in version 1
pub what_is_spelled_in_a_version : SpellsIn First message_text message × (SpellsIn Second needless_text message × (SpellsIn First text_of_three_ints three_ints → ⊥))
what_is_spelled_in_a_version = (
  record { is_trace = a_message_is_spelled.is_trace; can_spell = refl; is_text = a_message_is_spelled.is_text },
  (
    record { is_trace = a_message_is_spelled.is_trace; can_spell = tt; is_text = sym in_version_2 },
    λ h. true_is_not h.can_spell,
  ),
)
  where
    true_is_not : true ≡ false → ⊥
    true_is_not h = cc

-- but it is the text of no trace
pub a_needless_text_has_no_trace : SpellsTrace needless_text message → ⊥
a_needless_text_has_no_trace h =
    let same : length needless_text ≡ length message_text = ap (λ (bs : List ℕ). length bs) (h.is_text ∙ the_trace_of_a_message) in omega (arith, same)

-- ---- the first wrong line

-- a stamp of 0, a sign before nought, a last line without its line feed, a text that ends too early, and a cut in the middle of a line
pub first_wrong_lines : IsFirstWrong (third (codes "0 0 1 know 0 0")) 3 × (IsFirstWrong (third (codes "1 0 1 got 0 0 -0")) 3 × (IsFirstWrong (codes "ac-trace 1\nsteps 7\nend 0 finished 1 -") 3
    × (IsFirstWrong (codes "ac-trace 1\nsteps 7\n") 3 × IsFirstWrong (codes "ac-trace 1\nsteps 100000\n1 0 1 offer 0 0 int 5\n2 1 1 got") 4)))
unfolding read_lines after_line entry_at event_at taking_at payload_at message_at answer_at value_at number_at numbered_at end_at end_word_at bytes_to_end
first_wrong_lines = (
  read_stops (third (codes "0 0 1 know 0 0")) 3 refl,
  (
    read_stops (third (codes "1 0 1 got 0 0 -0")) 3 refl,
    (
      read_stops (codes "ac-trace 1\nsteps 7\nend 0 finished 1 -") 3 refl,
      (read_stops (codes "ac-trace 1\nsteps 7\n") 3 refl, read_stops (codes "ac-trace 1\nsteps 100000\n1 0 1 offer 0 0 int 5\n2 1 1 got") 4 refl),
    ),
  ),
)

-- version 2 that is not needed is wrong in the first line and in no other, and where another line is wrong it is that line
pub a_needless_version_is_wrong_at_line_1 :
    IsFirstWrong needless_text 1 × ((IsFirstWrong needless_text 2 → ⊥) × IsFirstWrong (third_of_2 (codes "1 0 1 got 0 0 ints 1 5 6")) 3)
unfolding read_lines after_line entry_at event_at taking_at payload_at message_at answer_at value_at number_at numbered_at end_at end_word_at bytes_to_end
a_needless_version_is_wrong_at_line_1 = (
  read_stops needless_text 1 refl,
  (
    λ h. let same : 2 ≡ 1 = one_line needless_text 2 1 h (read_stops needless_text 1 refl) in omega (arith, same),
    read_stops (third_of_2 (codes "1 0 1 got 0 0 ints 1 5 6")) 3 refl,
  ),
)

pub what_is_needless : IsNeedless needless_text 1 × (IsNeedless message_text 1 → ⊥)
what_is_needless = (
  record { trace = message; narrow = refl; spells = what_is_spelled_in_a_version.1.0; place = refl },
  λ h. two_is_not_one (ap (λ (bs : List ℕ). get_or bs 9 0) h.spells.is_text),
)
  where
    two_is_not_one : ◌≡◌ {A = ℕ} 49 50 → ⊥
    two_is_not_one h = omega (arith, h)

line_of : (text : List ℕ) (line : ℕ) → 2 ≤ line → IsFirstWrong text line → IsLineWrong text line
line_of text line later h = by_fault h.fault
  where
    by_fault : IsLineWrong text line ⊎ IsNeedless text line → IsLineWrong text line
    by_fault (inl f) = f
    by_fault (inr f) = absurd (omega (arith, later, f.place))

-- a stamp of 0 is wrong by its line; no line is wrong of a message's text
pub which_lines_are_wrong : IsLineWrong (third (codes "0 0 1 know 0 0")) 3 × (IsLineWrong message_text 3 → ⊥)
which_lines_are_wrong = (
  line_of (third (codes "0 0 1 know 0 0")) 3 (omega arith) first_wrong_lines.0,
  λ h. not_ok 3 message (sym (line_is_read message_text 3 h) ∙ the_trace_of_a_message_is_read),
)

-- ---- what the calls give

pub what_writing_gives : Writes message (Ok message_text) × ((Writes message (Ok (codes "ac-trace 1\n")) → ⊥) × (Writes message (Err w.TooLong) → ⊥))
what_writing_gives = (
  (sym the_trace_of_a_message, omega arith),
  (
    λ h. let same : length (codes "ac-trace 1\n") ≡ length message_text = ap (λ (bs : List ℕ). length bs) (h.0 ∙ the_trace_of_a_message) in omega (arith, same),
    λ h. let same : length (trace_text message) ≡ length message_text = ap (λ (bs : List ℕ). length bs) the_trace_of_a_message in omega (arith, h, same),
  ),
)

pub the_limit_of_a_text : trace_limit ≡ 2 ^ 28
the_limit_of_a_text = refl

pub what_reading_gives : Reads message_text (Ok message) × (Reads (codes "ac-trace 1\nsteps 7\n") (Err (fault.Line 3)) × Reads message_text (Err fault.NoMemory))
unfolding read_lines after_line entry_at event_at taking_at payload_at message_at answer_at value_at number_at numbered_at end_at end_word_at bytes_to_end
what_reading_gives = (a_text_has_one_trace, (read_stops (codes "ac-trace 1\nsteps 7\n") 3 refl, tt))
