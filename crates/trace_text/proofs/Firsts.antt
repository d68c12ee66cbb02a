-- A trace in which every message has one int is spelled as it was when a message was one int: part by part its text in version 1 is the old one,
-- and what a text could tell then is what it can tell now of messages of one int. That a text spells no other trace is the law of all texts.
use Rattle.std.proofs.Common.{◌≡◌, ℕ, false, List, [], ◌∷◌, ◌++◌, length, codes, refl, sym, ap, ◌∙◌, append-nil, arith}
use Rattle.std.specs.Prelude.{ℤ, All}
use Rattle.std.specs.List.{list_any}
use Rattle.std.specs.Fmt.{decimal, signed_decimal}
use Rattle.std.proofs.lemmas.List.Elements.{All-nil, All-cons, All-head, All-tail}
use Rattle.ac_base.specs.declared.entry.Payload.{Payload}
use Rattle.ac_base.specs.declared.entry.Payload.TheVariants as p
use Rattle.ac_base.specs.declared.entry.Event.{Event}
use Rattle.ac_base.specs.declared.entry.Event.TheVariants as e
use Rattle.ac_base.specs.declared.entry.Stamped.{Stamped}
use Rattle.trace_text.specs.declared.version.Version.{Version}
use Rattle.trace_text.specs.declared.version.Version.TheVariants.{First}
use Rattle.trace_text.specs.declared.trace.Trace.{Trace}
use Rattle.trace_text.specs.Versions.{is_wide_message, is_wide_payload, is_wide_event, is_wide_entry, is_wide, version_of}
use Rattle.trace_text.specs.Text.{spaced, offer_name, ints_text, payload_text, event_text, title, steps_line, file_lines, entry_line, entry_lines, end_lines, trace_lines, joined}
use Rattle.trace_text.specs.Spelling.{IsValue, IsMessage, IsPayload, IsEvent, IsEntry, IsTrace, SpellsTrace}
use Rattle.trace_text.specs.FirstVersion.{the_int, first_payload, first_event, first_entry, first_entries, first_lines}
use Rattle.trace_text.specs.FirstVersion.{IsFirstMessage, IsFirstPayload, IsFirstEvent, IsFirstEntry, IsFirstTrace}
use Rattle.trace_text.specs.Laws.{FirstTextStays, FirstTracesStay, FirstTracesOnly}
use Rattle.trace_text.proofs.Ints.{is_one, one_is_not_wide, allows_each, allows_both}
use Rattle.trace_text.proofs.Whole.{one_trace}

-- ---- the same text

-- there are no messages of none or of two ints
only_one : {A : Type 0} (message : List ℤ) → length message ≡ 1 → ((v : ℤ) → message ≡ v ∷ [] → A) → A
only_one [] h found = absurd (omega (arith, h))
only_one (v ∷ []) h found = found v refl
only_one (v ∷ w ∷ message) h found = absurd (omega (arith, h))

message_same : (message : List ℤ) → is_wide_message message ≡ false → ints_text message ≡ codes " " ++ signed_decimal (the_int message)
message_same message h = only_one message (is_one message h) λ v is. rw is (ap (λ (cs : List ℕ). codes " " ++ cs) (append-nil (signed_decimal v)))

payload_same : (payload : Payload) → is_wide_payload payload ≡ false → payload_text First payload ≡ first_payload payload
payload_same (p.Int message) h = ap (λ (cs : List ℕ). codes " int" ++ cs) (message_same message h)
payload_same (p.Read file from len) h = refl
payload_same (p.Write file from bytes) h = refl

event_same : (event : Event) → is_wide_event event ≡ false → event_text First event ≡ first_event event
event_same (e.Offer link number payload) h = ap (λ (cs : List ℕ). codes " offer " ++ (offer_name link number ++ cs)) (payload_same payload h)
event_same (e.Withdraw link number) h = refl
event_same (e.Know link number) h = refl
event_same (e.Room link number) h = refl
event_same (e.Got link number message) h = ap (λ (cs : List ℕ). codes " got " ++ (offer_name link number ++ cs)) (message_same message h)
event_same (e.Pass link number) h = refl
event_same (e.Did link number answer) h = refl
event_same (e.Reply link number answer) h = refl

entry_same : (s : Stamped) → is_wide_entry s ≡ false → entry_line First s ≡ first_entry s
entry_same s h = ap (λ (cs : List ℕ). decimal s.entry.stamp ++ (spaced s.party ++ (spaced s.entry.turn ++ cs))) (event_same s.entry.event h)

entries_same : (ss : List Stamped) → list_any is_wide_entry ss ≡ false → entry_lines First ss ≡ first_entries ss
entries_same [] h = refl
entries_same (s ∷ ss) h =
    let each = allows_each First (is_wide_entry s) (list_any is_wide_entry ss) h in
    ap (λ (l : List ℕ). l ∷ entry_lines First ss) (entry_same s each.0) ∙ ap (λ (ls : List (List ℕ)). first_entry s ∷ ls) (entries_same ss each.1)

lines_same : (t : Trace) → is_wide t ≡ false → trace_lines First t ≡ first_lines t
lines_same t h =
    ap (λ (ls : List (List ℕ)). title First ∷ steps_line t.steps ∷ (file_lines 0 t.start ++ (ls ++ end_lines 0 t.ends))) (entries_same t.entries h)

is_first : (t : Trace) → is_wide t ≡ false → version_of t ≡ First
is_first t h = rw h refl

pub text_stays : FirstTextStays
text_stays t h = ap (λ (version : Version). joined (trace_lines version t)) (is_first t h) ∙ ap joined (lines_same t h)

-- ---- what was told can be told

message_fits : (message : List ℤ) → IsFirstMessage message → IsMessage message
message_fits [] h = absurd (omega (arith, h.0))
message_fits (v ∷ []) h = (All-cons IsValue v [] h.1 (All-nil IsValue), (omega arith, omega arith))
message_fits (v ∷ w ∷ message) h = absurd (omega (arith, h.0))

payload_fits : (payload : Payload) → IsFirstPayload payload → IsPayload payload × (is_wide_payload payload ≡ false)
payload_fits (p.Int message) h = (message_fits message h, one_is_not_wide message h.0)
payload_fits (p.Read file from len) h = (h, refl)
payload_fits (p.Write file from bytes) h = (h, refl)

event_fits : (event : Event) → IsFirstEvent event → IsEvent event × (is_wide_event event ≡ false)
event_fits (e.Offer link number payload) h = let q = payload_fits payload h.1 in ((h.0, q.0), q.1)
event_fits (e.Withdraw link number) h = (h, refl)
event_fits (e.Know link number) h = (h, refl)
event_fits (e.Room link number) h = (h, refl)
event_fits (e.Got link number message) h = ((h.0, message_fits message h.1), one_is_not_wide message h.1.0)
event_fits (e.Pass link number) h = (h, refl)
event_fits (e.Did link number answer) h = (h, refl)
event_fits (e.Reply link number answer) h = (h, refl)

entry_fits : (s : Stamped) → IsFirstEntry s → IsEntry s × (is_wide_entry s ≡ false)
entry_fits s h =
    let q = event_fits s.entry.event h.event in
    (record { stamp_least = h.stamp_least; stamp_most = h.stamp_most; party = h.party; turn = h.turn; event = q.0 }, q.1)

entries_fit : (ss : List Stamped) → All IsFirstEntry ss → All IsEntry ss × (list_any is_wide_entry ss ≡ false)
entries_fit [] h = (All-nil IsEntry, refl)
entries_fit (s ∷ ss) h =
    let one = entry_fits s (All-head IsFirstEntry s ss h) in
    let more = entries_fit ss (All-tail IsFirstEntry s ss h) in
    (All-cons IsEntry s ss one.0 more.0, allows_both First (is_wide_entry s) (list_any is_wide_entry ss) one.1 more.1)

trace_fits : (t : Trace) → IsFirstTrace t → IsTrace t × (is_wide t ≡ false)
trace_fits t h =
    let q = entries_fit t.entries h.entries in (
      record {
        steps_least = h.steps_least;
        steps_most = h.steps_most;
        few_files = h.few_files;
        files = h.files;
        entries = q.0;
        some_end = h.some_end;
        few_ends = h.few_ends;
        ends = h.ends;
      },
      q.1,
    )

pub traces_stay : FirstTracesStay
traces_stay text t h =
    let q = trace_fits t h.is_trace in
    let spells : SpellsTrace text t = record { is_trace = q.0; is_text = h.is_text ∙ sym (text_stays t q.1) } in
    record { spells = spells; only = λ u other. one_trace text u t other spells }

-- ---- and what can be told was told

message_was : (message : List ℤ) → IsMessage message → is_wide_message message ≡ false → IsFirstMessage message
message_was [] h g = absurd (omega (arith, h.1.0))
message_was (v ∷ []) h g = (refl, All-head IsValue v [] h.0)
message_was (v ∷ w ∷ message) h g = absurd (omega (arith, is_one (v ∷ w ∷ message) g))

payload_was : (payload : Payload) → IsPayload payload → is_wide_payload payload ≡ false → IsFirstPayload payload
payload_was (p.Int message) h g = message_was message h g
payload_was (p.Read file from len) h g = h
payload_was (p.Write file from bytes) h g = h

event_was : (event : Event) → IsEvent event → is_wide_event event ≡ false → IsFirstEvent event
event_was (e.Offer link number payload) h g = (h.0, payload_was payload h.1 g)
event_was (e.Withdraw link number) h g = h
event_was (e.Know link number) h g = h
event_was (e.Room link number) h g = h
event_was (e.Got link number message) h g = (h.0, message_was message h.1 g)
event_was (e.Pass link number) h g = h
event_was (e.Did link number answer) h g = h
event_was (e.Reply link number answer) h g = h

entry_was : (s : Stamped) → IsEntry s → is_wide_entry s ≡ false → IsFirstEntry s
entry_was s h g = record { stamp_least = h.stamp_least; stamp_most = h.stamp_most; party = h.party; turn = h.turn; event = event_was s.entry.event h.event g }

entries_were : (ss : List Stamped) → All IsEntry ss → list_any is_wide_entry ss ≡ false → All IsFirstEntry ss
entries_were [] h g = All-nil IsFirstEntry
entries_were (s ∷ ss) h g =
    let each = allows_each First (is_wide_entry s) (list_any is_wide_entry ss) g in
    All-cons IsFirstEntry s ss (entry_was s (All-head IsEntry s ss h) each.0) (entries_were ss (All-tail IsEntry s ss h) each.1)

pub traces_only : FirstTracesOnly
traces_only text t narrow h = record {
  is_trace = record {
    steps_least = h.is_trace.steps_least;
    steps_most = h.is_trace.steps_most;
    few_files = h.is_trace.few_files;
    files = h.is_trace.files;
    entries = entries_were t.entries h.is_trace.entries narrow;
    some_end = h.is_trace.some_end;
    few_ends = h.is_trace.few_ends;
    ends = h.is_trace.ends;
  };
  is_text = h.is_text ∙ text_stays t narrow;
}
