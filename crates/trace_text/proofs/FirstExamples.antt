-- What the text of a trace was when a message was one int, worked out by hand, and what the laws say of these texts: a message of one int has the
-- text that it had, and three ints had none.
use Rattle.std.proofs.Common.{◌≡◌, ℕ, ◌≤◌, ◌^◌, refl, pos, List, [], ◌∷◌, codes, sym, ◌∙◌, arith}
use Rattle.std.specs.Prelude.{negsuc}
use Rattle.std.proofs.lemmas.List.Elements.{All-head}
use Rattle.ac_base.specs.declared.entry.Payload.TheVariants as p
use Rattle.ac_base.specs.declared.entry.Event.TheVariants as e
use Rattle.trace_text.specs.Text.{trace_text}
use Rattle.trace_text.specs.Spelling.{SpellsTrace, IsTheTrace}
use Rattle.trace_text.specs.FirstVersion.{the_int, first_payload, first_event, first_entry, first_entries, first_text}
use Rattle.trace_text.specs.FirstVersion.{IsFirstMessage, IsFirstPayload, IsFirstEvent, IsFirstEntry, IsFirstTrace, FirstSpells}
use Rattle.trace_text.specs.Laws.{FirstTextStays, FirstTracesStay, FirstTracesOnly}
use Rattle.trace_text.proofs.Firsts.{text_stays, traces_only}
use Rattle.trace_text.proofs.Examples.{made, message, three, three_ints, nought, one, two, figure_three, four, five, the_trace_of_a_message}
use Rattle.trace_text.proofs.SpellingExamples.{message_text, a_message_is_spelled}

-- ---- its parts

pub what_a_message_was : the_int (negsuc 4 ∷ []) ≡ negsuc 4
what_a_message_was = refl

pub parts_of_version_1 :
    first_payload (p.Int (pos 5 ∷ [])) ∷ first_payload (p.Read 2 3 4) ∷ first_event (e.Offer 0 1 (p.Int (negsuc 4 ∷ []))) ∷ first_event (e.Got 0 1 (pos 5 ∷ [])) ∷ first_event (e.Know 0 1) ∷ []
    ≡ codes " int 5" ∷ codes " read 2 3 4" ∷ codes " offer 0 1 int -5" ∷ codes " got 0 1 5" ∷ codes " know 0 1" ∷ []
parts_of_version_1 = rw (nought, one, two, figure_three, four, five) refl

pub lines_of_version_1 :
    first_entry (made 4 1 2 (e.Got 0 3 (pos 5 ∷ []))) ∷ first_entries (made 4 1 2 (e.Know 0 3) ∷ []) ≡ codes "4 1 2 got 0 3 5" ∷ codes "4 1 2 know 0 3" ∷ []
lines_of_version_1 = rw (nought, one, two, figure_three, four, five) refl

pub the_text_that_it_had : first_text message ≡ message_text
the_text_that_it_had = sym (text_stays message refl) ∙ the_trace_of_a_message

-- ---- what it could tell

pub messages_were_one_int : IsFirstMessage (pos 5 ∷ []) × ((IsFirstMessage three → ⊥) × (IsFirstMessage (pos (2 ^ 63) ∷ []) → ⊥))
messages_were_one_int = ((refl, omega arith), (λ h. omega (arith, h.0), λ h. omega (arith, h.1)))

pub payloads_and_events_were_low :
    (IsFirstPayload (p.Int (pos 5 ∷ [])) × (IsFirstPayload (p.Int three) → ⊥)) × (IsFirstEvent (e.Got 0 1 (pos 5 ∷ [])) × (IsFirstEvent (e.Got 0 1 three) → ⊥))
payloads_and_events_were_low = (
  ((refl, omega arith), λ h. omega (arith, h.0)),
  (((omega arith, omega arith), (refl, omega arith)), λ h. omega (arith, h.1.0)),
)

pub entries_had_limits : IsFirstEntry (made 1 0 1 (e.Know 0 0)) × ((IsFirstEntry (made 0 0 1 (e.Know 0 0)) → ⊥) × (IsFirstEntry (made 1 0 1 (e.Got 0 1 three)) → ⊥))
entries_had_limits = (
  record { stamp_least = omega arith; stamp_most = omega arith; party = omega arith; turn = omega arith; event = (omega arith, omega arith) },
  (λ h. let least : 1 ≤ 0 = h.stamp_least in omega (arith, least), λ h. payloads_and_events_were_low.1.1 h.event),
)

-- ---- the laws

pub a_message_was_spelled : FirstSpells message_text message
a_message_was_spelled = traces_only message_text message refl a_message_is_spelled

pub traces_had_messages_of_one_int : IsFirstTrace message × (IsFirstTrace three_ints → ⊥)
traces_had_messages_of_one_int = (
  a_message_was_spelled.is_trace,
  λ h. let first : IsFirstEntry (made 1 0 1 (e.Offer 0 0 (p.Int three))) =
      All-head IsFirstEntry (made 1 0 1 (e.Offer 0 0 (p.Int three))) (made 2 1 1 (e.Got 0 0 three) ∷ made 3 0 1 (e.Know 0 0) ∷ []) h.entries in
      payloads_and_events_were_low.0.1 first.event.1,
)

pub three_ints_had_no_text : (text : List ℕ) → FirstSpells text three_ints → ⊥
three_ints_had_no_text text h = traces_had_messages_of_one_int.1 h.is_trace

pub its_text_stays : FirstTextStays → trace_text message ≡ first_text message
its_text_stays law = law message refl

pub it_stays_the_trace : FirstTracesStay → IsTheTrace message_text message
it_stays_the_trace law = law message_text message a_message_was_spelled

pub no_other_text_is_its : FirstTracesOnly → (text : List ℕ) → SpellsTrace text message → FirstSpells text message
no_other_text_is_its law text h = law text message refl h
