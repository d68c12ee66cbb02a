-- An event is read as it is written: each of its parts, with what follows it, is read back and leaves just what follows. Where a number
-- ends is seen from what comes next, so each part is shown to begin with no digit.
use Rattle.std.proofs.Common.{◌≡◌, ℕ, ◌<◌, ◌≤◌, ◌^◌, List, [], ◌++◌, Some, None, codes, refl, sym, ap, ◌∙◌, append-nil, append_assoc, arith, false}
use Rattle.std.specs.Prelude.{ℤ}
use Rattle.std.specs.Fmt.{decimal}
use Rattle.ac_base.specs.declared.entry.Payload.{Payload}
use Rattle.ac_base.specs.declared.entry.Payload.TheVariants as p
use Rattle.ac_base.specs.declared.entry.Answer.{Answer}
use Rattle.ac_base.specs.declared.entry.Answer.TheVariants as a
use Rattle.ac_base.specs.declared.entry.Event.{Event}
use Rattle.ac_base.specs.declared.entry.Event.TheVariants as e
use Rattle.ac_base.specs.Hexadecimal.{hex_of}
use Rattle.trace_text.specs.declared.version.Version.{Version}
use Rattle.trace_text.specs.declared.version.Version.TheVariants.{First, Second}
use Rattle.trace_text.specs.Versions.{is_wide_payload, is_wide_event}
use Rattle.trace_text.specs.Text.{spaced, offer_name, offered_word, got_word, message_text, payload_text, answer_text, event_text}
use Rattle.trace_text.specs.Spelling.{IsOffer, IsPayload, IsAnswer, IsEvent}
use Rattle.trace_text.specs.inner.Reading.{is_digit, starts, word_at, number_at, spaced_at, most_small, most_large, offer_at, range_at, payload_at}
use Rattle.trace_text.specs.inner.Reading.{answer_at, bare_offer_at, taking_at, event_at}
use Rattle.trace_text.proofs.Words.{word_is}
use Rattle.trace_text.proofs.Numbers.{number_is}
use Rattle.trace_text.proofs.Ints.{Allows, message_is, ints_start}
use Rattle.trace_text.proofs.Bytes.{bytes_are}

-- ---- numbers

pub small_is : (n : ℕ) (rest : List ℕ) → n < 2 ^ 32 → starts is_digit rest ≡ false → number_at most_small (decimal n ++ rest) ≡ Some (n, rest)
small_is n rest h s = number_is most_small n rest (omega (arith, h)) (omega (arith, h)) s

pub spaced_is : (most n : ℕ) (rest : List ℕ) → n ≤ most → n < 2 ^ 64 → starts is_digit rest ≡ false → spaced_at most (spaced n ++ rest) ≡ Some (n, rest)
spaced_is most n rest le lt s = number_is most n rest le lt s

-- ---- and where a line ends

pub small_end : (n : ℕ) → n < 2 ^ 32 → number_at most_small (decimal n) ≡ Some (n, [])
small_end n h = ap (number_at most_small) (sym (append-nil (decimal n))) ∙ small_is n [] h refl

spaced_end : (most n : ℕ) → n ≤ most → n < 2 ^ 64 → spaced_at most (spaced n) ≡ Some (n, [])
spaced_end most n le lt = ap (number_at most) (sym (append-nil (decimal n))) ∙ number_is most n [] le lt refl

-- ---- the number of a link and that of an offer

offer_is : (link number : ℕ) (rest : List ℕ) → IsOffer link number → starts is_digit rest ≡ false → offer_at (offer_name link number ++ rest) ≡ Some ((link, number), rest)
offer_is link number rest h s =
    ap offer_at (append_assoc (decimal link) (spaced number) rest)
    ∙ rw (small_is link (spaced number ++ rest) h.0 refl, spaced_is most_large number rest (omega (arith, h.1)) h.1 s) refl

offer_end : (link number : ℕ) → IsOffer link number → bare_offer_at (offer_name link number) ≡ Some (link, number)
offer_end link number h = ap bare_offer_at (sym (append-nil (offer_name link number))) ∙ rw (offer_is link number [] h refl) refl

range_is : (file from : ℕ) (rest : List ℕ) → file < 2 ^ 32 → from < 2 ^ 32 → starts is_digit rest ≡ false
    → range_at (decimal file ++ (spaced from ++ rest)) ≡ Some ((file, from), rest)
range_is file from rest h g s = rw (small_is file (spaced from ++ rest) h refl, spaced_is most_small from rest (omega (arith, g)) (omega (arith, g)) s) refl

-- ---- payloads and answers

-- a request does not begin as a message does
no_read : (version : Version) (rest : List ℕ) → word_at (offered_word version) (codes " read " ++ rest) ≡ None
no_read First rest = refl
no_read Second rest = refl

no_write : (version : Version) (rest : List ℕ) → word_at (offered_word version) (codes " write " ++ rest) ≡ None
no_write First rest = refl
no_write Second rest = refl

pub payload_is : (version : Version) (payload : Payload) → IsPayload payload → Allows version (is_wide_payload payload)
    → payload_at version (payload_text version payload) ≡ Some payload
unfolding payload_at
payload_is version (p.Int message) h allows = rw (word_is (offered_word version) (message_text version message), message_is version message h allows) refl
payload_is version (p.Read file from len) h allows = rw (
  no_read version (decimal file ++ (spaced from ++ spaced len)),
  range_is file from (spaced len) h.0 h.1.0 refl,
  spaced_end most_small len
      (omega (arith, h.1.1)) (omega (arith, h.1.1)),
) refl
payload_is version (p.Write file from bytes) h allows = rw (
  no_write version (decimal file ++ (spaced from ++ (codes " " ++ hex_of bytes))),
  range_is file from
      (codes " " ++ hex_of bytes) h.0 h.1.0 refl,
  bytes_are bytes h.1.1,
) refl

pub answer_is : (answer : Answer) → IsAnswer answer → answer_at (answer_text answer) ≡ Some answer
unfolding answer_at
answer_is (a.Bytes bytes) h = rw (bytes_are bytes h) refl
answer_is (a.Count count) h = rw (small_end count h) refl
answer_is (a.Fault count) h = rw (small_end count h) refl

-- a payload and an answer begin with a blank
payload_starts : (version : Version) (payload : Payload) → starts is_digit (payload_text version payload) ≡ false
payload_starts First (p.Int message) = refl
payload_starts Second (p.Int message) = refl
payload_starts version (p.Read file from len) = refl
payload_starts version (p.Write file from bytes) = refl

answer_starts : (answer : Answer) → starts is_digit (answer_text answer) ≡ false
answer_starts (a.Bytes bytes) = refl
answer_starts (a.Count count) = refl
answer_starts (a.Fault count) = refl

-- and so does a message that was got
got_starts : (version : Version) (message : List ℤ) → starts is_digit (got_word version ++ message_text version message) ≡ false
got_starts First message = ints_start message
got_starts Second message = refl

-- ---- events

pub event_is : (version : Version) (event : Event) → IsEvent event → Allows version (is_wide_event event) → event_at version (event_text version event) ≡ Some event
unfolding event_at taking_at
event_is version (e.Offer link number payload) h allows =
    rw (offer_is link number (payload_text version payload) h.0 (payload_starts version payload), payload_is version payload h.1 allows) refl
event_is version (e.Withdraw link number) h allows = rw (offer_end link number h) refl
event_is version (e.Know link number) h allows = rw (offer_end link number h) refl
event_is version (e.Room link number) h allows = rw (offer_end link number h) refl
event_is version (e.Got link number message) h allows =
    rw (
      offer_is link number (got_word version ++ message_text version message) h.0 (got_starts version message),
      word_is (got_word version) (message_text version message),
      message_is version message h.1 allows,
    ) refl
event_is version (e.Pass link number) h allows = rw (offer_end link number h) refl
event_is version (e.Did link number answer) h allows = rw (offer_is link number (answer_text answer) h.0 (answer_starts answer), answer_is answer h.1) refl
event_is version (e.Reply link number answer) h allows = rw (offer_is link number (answer_text answer) h.0 (answer_starts answer), answer_is answer h.1) refl
