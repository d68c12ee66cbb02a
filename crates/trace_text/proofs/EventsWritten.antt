-- What is read as an event was written as one. Each reading function is followed backwards: the parts that it took, one behind the other,
-- are the text from which it began, and each number is within the limit that it was tested against.
use Rattle.std.proofs.Common.{◌≡◌, ℕ, ◌<◌, ◌≤◌, ◌^◌, List, ◌++◌, Some, None, codes, sym, ap, ◌∙◌, append_assoc, arith}
use Rattle.std.specs.Fmt.{decimal}
use Rattle.ac_base.specs.declared.entry.Payload.{Payload}
use Rattle.ac_base.specs.declared.entry.Payload.TheVariants as p
use Rattle.ac_base.specs.declared.entry.Answer.{Answer}
use Rattle.ac_base.specs.declared.entry.Answer.TheVariants as a
use Rattle.ac_base.specs.declared.entry.Event.{Event}
use Rattle.ac_base.specs.declared.entry.Event.TheVariants as e
use Rattle.ac_base.specs.Hexadecimal.{hex_of}
use Rattle.trace_text.specs.declared.version.Version.{Version}
use Rattle.trace_text.specs.Versions.{is_wide_payload, is_wide_event}
use Rattle.trace_text.specs.Text.{spaced, offer_name, offered_word, got_word, message_text, payload_text, answer_text, event_text}
use Rattle.trace_text.specs.Spelling.{IsOffer, IsPayload, IsAnswer, IsEvent, AreBytes}
use Rattle.trace_text.specs.inner.Reading.{number_at, spaced_at, message_at, word_at, ended, choice, bytes_to_end, spaced_bytes, most_small, most_large, offer_at, range_at}
use Rattle.trace_text.specs.inner.Reading.{payload_at, int_at, read_at, write_at, count_at, counted_at, answer_at, bare_offer_at, bare_at, offered_at, got_at, answered_at, taking_at, event_at, ◌>>=◌}
use Rattle.trace_text.proofs.Words.{bind_case, choice_case, ended_case, word_was, some_same, parts_same, not_none, behind, at_end}
use Rattle.trace_text.proofs.Numbers.{number_was}
use Rattle.trace_text.proofs.Ints.{Allows, allows_none, message_was}
use Rattle.trace_text.proofs.Bytes.{bytes_were}

-- ---- joining what was found

-- a text and what follows it, where a part of that is told further
further : (bs a b c rest : List ℕ) → bs ≡ a ++ b → b ≡ c ++ rest → bs ≡ (a ++ c) ++ rest
further bs a b c rest h g = h ∙ (ap (λ (cs : List ℕ). a ++ cs) g ∙ sym (append_assoc a c rest))

-- ---- numbers

pub record WasSpaced (most n : ℕ) (bs rest : List ℕ) : Type 0 where
  pub low : n ≤ most
  pub is : bs ≡ spaced n ++ rest

pub spaced_was : (most n : ℕ) (bs rest : List ℕ) → most < 2 ^ 64 → spaced_at most bs ≡ Some (n, rest) → WasSpaced most n bs rest
spaced_was most n bs rest lt h =
    bind_case (word_at (codes " ") bs) (number_at most) (n, rest) h λ after w g.
    let k = number_was most n after rest lt g in
    record { low = k.low; is = behind bs (codes " ") after (decimal n ++ rest) (word_was (codes " ") bs after w) k.is }

-- ---- the number of a link and that of an offer

record WasOffer (o : ℕ × ℕ) (bs rest : List ℕ) : Type 0 where
  fits : IsOffer o.0 o.1
  is : bs ≡ offer_name o.0 o.1 ++ rest

offer_was : (bs : List ℕ) (o : ℕ × ℕ) (rest : List ℕ) → offer_at bs ≡ Some (o, rest) → WasOffer o bs rest
offer_was bs o rest h =
    bind_case (number_at most_small bs) (λ link. spaced_at most_large link.1 >>= λ number. Some ((link.0, number.0), number.1)) (o, rest) h λ link first g.
    bind_case (spaced_at most_large link.1) (λ number. Some ((link.0, number.0), number.1)) (o, rest) g λ number second e.
    let q = parts_same (link.0, number.0) o number.1 rest e in
    let m = number_was most_small link.0 bs link.1 (omega arith) first in
    let n = spaced_was most_large number.0 link.1 number.1 (omega arith) second in
    rw (sym q.0, sym q.1) (record {
      fits = (omega (arith, m.low), omega (arith, n.low));
      is = further bs (decimal link.0) link.1 (spaced number.0) number.1 m.is n.is;
    })

-- the file and the place of a request
record WasRange (r : ℕ × ℕ) (bs rest : List ℕ) : Type 0 where
  file : r.0 < 2 ^ 32
  from : r.1 < 2 ^ 32
  is : bs ≡ decimal r.0 ++ (spaced r.1 ++ rest)

range_was : (bs : List ℕ) (r : ℕ × ℕ) (rest : List ℕ) → range_at bs ≡ Some (r, rest) → WasRange r bs rest
range_was bs r rest h =
    bind_case (number_at most_small bs) (λ file. spaced_at most_small file.1 >>= λ from. Some ((file.0, from.0), from.1)) (r, rest) h λ file first g.
    bind_case (spaced_at most_small file.1) (λ from. Some ((file.0, from.0), from.1)) (r, rest) g λ from second e.
    let q = parts_same (file.0, from.0) r from.1 rest e in
    let m = number_was most_small file.0 bs file.1 (omega arith) first in
    let n = spaced_was most_small from.0 file.1 from.1 (omega arith) second in
    rw (sym q.0, sym q.1) (record {
      file = omega (arith, m.low);
      from = omega (arith, n.low);
      is = behind bs (decimal file.0) file.1 (spaced from.0 ++ from.1) m.is n.is;
    })

-- bytes behind a blank
pub spaced_were : (bytes bs : List ℕ) → spaced_bytes bs ≡ Some bytes → AreBytes bytes × (bs ≡ codes " " ++ hex_of bytes)
spaced_were bytes bs h =
    bind_case (word_at (codes " ") bs) bytes_to_end bytes h λ after w g.
    let k = bytes_were after bytes g in
    (k.are, behind bs (codes " ") after (hex_of bytes) (word_was (codes " ") bs after w) k.is)

-- ---- payloads

record WasPayload (version : Version) (payload : Payload) (bs : List ℕ) : Type 0 where
  fits : IsPayload payload
  allows : Allows version (is_wide_payload payload)
  is : bs ≡ payload_text version payload

int_was : (version : Version) (payload : Payload) (bs rest : List ℕ) → bs ≡ offered_word version ++ rest → int_at version rest ≡ Some payload → WasPayload version payload bs
int_was version payload bs rest i h =
    bind_case (message_at version rest) (λ m. Some (p.Int m)) payload h λ m first g.
    let w = message_was version rest m first in
    rw (sym (some_same (p.Int m) payload g)) (record { fits = w.fits; allows = w.allows; is = behind bs (offered_word version) rest (message_text version m) i w.is })

read_was : (version : Version) (payload : Payload) (bs rest : List ℕ) → bs ≡ codes " read " ++ rest → read_at rest ≡ Some payload → WasPayload version payload bs
read_was version payload bs rest i h =
    bind_case (range_at rest) (λ r. spaced_at most_small r.1 >>= λ len. ended len.1 (p.Read r.0.0 r.0.1 len.0)) payload h λ r first g.
    bind_case (spaced_at most_small r.1) (λ len. ended len.1 (p.Read r.0.0 r.0.1 len.0)) payload g λ len second k.
    let done = ended_case len.1 (p.Read r.0.0 r.0.1 len.0) payload k in
    let w = range_was rest r.0 r.1 first in
    let n = spaced_was most_small len.0 r.1 len.1 (omega arith) second in
    let tail : r.1 ≡ spaced len.0 = at_end r.1 (spaced len.0) len.1 n.is done.0 in
    rw (sym done.1) (record {
      fits = (w.file, (w.from, omega (arith, n.low)));
      allows = allows_none version;
      is = behind bs (codes " read ") rest (decimal r.0.0 ++ (spaced r.0.1 ++ spaced len.0)) i
          (behind rest (decimal r.0.0) (spaced r.0.1 ++ r.1) (spaced r.0.1 ++ spaced len.0) w.is (ap (λ (cs : List ℕ). spaced r.0.1 ++ cs) tail));
    })

write_was : (version : Version) (payload : Payload) (bs rest : List ℕ) → bs ≡ codes " write " ++ rest → write_at rest ≡ Some payload → WasPayload version payload bs
write_was version payload bs rest i h =
    bind_case (range_at rest) (λ r. spaced_bytes r.1 >>= λ bytes. Some (p.Write r.0.0 r.0.1 bytes)) payload h λ r first g.
    bind_case (spaced_bytes r.1) (λ bytes. Some (p.Write r.0.0 r.0.1 bytes)) payload g λ bytes second k.
    let done = some_same (p.Write r.0.0 r.0.1 bytes) payload k in
    let w = range_was rest r.0 r.1 first in
    let n = spaced_were bytes r.1 second in
    rw (sym done) (record {
      fits = (w.file, (w.from, n.0));
      allows = allows_none version;
      is = behind bs (codes " write ") rest (decimal r.0.0 ++ (spaced r.0.1 ++ (codes " " ++ hex_of bytes))) i
          (behind rest (decimal r.0.0) (spaced r.0.1 ++ r.1) (spaced r.0.1 ++ (codes " " ++ hex_of bytes)) w.is (ap (λ (cs : List ℕ). spaced r.0.1 ++ cs) n.1));
    })

payload_was : (version : Version) (bs : List ℕ) (payload : Payload) → payload_at version bs ≡ Some payload → WasPayload version payload bs
unfolding payload_at
payload_was version bs payload h =
    choice_case (offered_word version) bs (int_at version) (choice (word_at (codes " read ") bs) read_at (choice (word_at (codes " write ") bs) write_at None)) payload h
    (int_was version payload bs) λ h.
    choice_case (codes " read ") bs read_at (choice (word_at (codes " write ") bs) write_at None) payload h (read_was version payload bs) λ h.
    choice_case (codes " write ") bs write_at None payload h (write_was version payload bs) λ h.
    not_none payload h

-- ---- answers

record WasAnswer (answer : Answer) (bs : List ℕ) : Type 0 where
  fits : IsAnswer answer
  is : bs ≡ answer_text answer

count_was : (n : ℕ) (bs : List ℕ) → count_at bs ≡ Some n → (n < 2 ^ 32) × (bs ≡ decimal n)
count_was n bs h =
    bind_case (number_at most_small bs) (λ m. ended m.1 m.0) n h λ m first g.
    let done = ended_case m.1 m.0 n g in
    let w = number_was most_small m.0 bs m.1 (omega arith) first in
    (omega (arith, w.low, done.1), at_end bs (decimal m.0) m.1 w.is done.0 ∙ ap decimal done.1)

bytes_was : (answer : Answer) (bs rest : List ℕ) → bs ≡ codes " bytes " ++ rest → (bytes_to_end rest >>= λ bytes. Some (a.Bytes bytes)) ≡ Some answer → WasAnswer answer bs
bytes_was answer bs rest i h =
    bind_case (bytes_to_end rest) (λ bytes. Some (a.Bytes bytes)) answer h λ bytes first g.
    let w = bytes_were rest bytes first in
    rw (sym (some_same (a.Bytes bytes) answer g)) (record { fits = w.are; is = behind bs (codes " bytes ") rest (hex_of bytes) i w.is })

counted_was : (answer : Answer) (bs rest : List ℕ) → bs ≡ codes " count " ++ rest → counted_at a.Count rest ≡ Some answer → WasAnswer answer bs
counted_was answer bs rest i h =
    bind_case (count_at rest) (λ n. Some (a.Count n)) answer h λ n first g.
    let w = count_was n rest first in
    rw (sym (some_same (a.Count n) answer g)) (record { fits = w.0; is = behind bs (codes " count ") rest (decimal n) i w.1 })

fault_was : (answer : Answer) (bs rest : List ℕ) → bs ≡ codes " fault " ++ rest → counted_at a.Fault rest ≡ Some answer → WasAnswer answer bs
fault_was answer bs rest i h =
    bind_case (count_at rest) (λ n. Some (a.Fault n)) answer h λ n first g.
    let w = count_was n rest first in
    rw (sym (some_same (a.Fault n) answer g)) (record { fits = w.0; is = behind bs (codes " fault ") rest (decimal n) i w.1 })

answer_was : (bs : List ℕ) (answer : Answer) → answer_at bs ≡ Some answer → WasAnswer answer bs
unfolding answer_at
answer_was bs answer h =
    choice_case (codes " bytes ") bs (λ rest. bytes_to_end rest >>= λ bytes. Some (a.Bytes bytes))
    (choice (word_at (codes " count ") bs) (counted_at a.Count) (choice (word_at (codes " fault ") bs) (counted_at a.Fault) None)) answer h (bytes_was answer bs) λ h.
    choice_case (codes " count ") bs (counted_at a.Count) (choice (word_at (codes " fault ") bs) (counted_at a.Fault) None) answer h (counted_was answer bs) λ h.
    choice_case (codes " fault ") bs (counted_at a.Fault) None answer h (fault_was answer bs) λ h.
    not_none answer h

-- ---- events

pub record WasEvent (version : Version) (event : Event) (bs : List ℕ) : Type 0 where
  pub fits : IsEvent event
  pub allows : Allows version (is_wide_event event)
  pub is : bs ≡ event_text version event

-- an event that tells of an offer and nothing else
record WasBare (o : ℕ × ℕ) (bs : List ℕ) : Type 0 where
  fits : IsOffer o.0 o.1
  is : bs ≡ offer_name o.0 o.1

bare_was : (o : ℕ × ℕ) (bs : List ℕ) → bare_offer_at bs ≡ Some o → WasBare o bs
bare_was o bs h =
    bind_case (offer_at bs) (λ r. ended r.1 r.0) o h λ r first g.
    let done = ended_case r.1 r.0 o g in
    let w = offer_was bs r.0 r.1 first in
    rw (sym done.1) (record { fits = w.fits; is = at_end bs (offer_name r.0.0 r.0.1) r.1 w.is done.0 })

withdraw_was : (version : Version) (event : Event) (bs rest : List ℕ) → bs ≡ codes " withdraw " ++ rest → bare_at e.Withdraw rest ≡ Some event → WasEvent version event bs
withdraw_was version event bs rest i h =
    bind_case (bare_offer_at rest) (λ o. Some (e.Withdraw o.0 o.1)) event h λ o first g.
    let w = bare_was o rest first in
    rw (sym (some_same (e.Withdraw o.0 o.1) event g)) (record { fits = w.fits; allows = allows_none version; is = behind bs (codes " withdraw ") rest (offer_name o.0 o.1) i w.is })

know_was : (version : Version) (event : Event) (bs rest : List ℕ) → bs ≡ codes " know " ++ rest → bare_at e.Know rest ≡ Some event → WasEvent version event bs
know_was version event bs rest i h =
    bind_case (bare_offer_at rest) (λ o. Some (e.Know o.0 o.1)) event h λ o first g.
    let w = bare_was o rest first in
    rw (sym (some_same (e.Know o.0 o.1) event g)) (record { fits = w.fits; allows = allows_none version; is = behind bs (codes " know ") rest (offer_name o.0 o.1) i w.is })

room_was : (version : Version) (event : Event) (bs rest : List ℕ) → bs ≡ codes " room " ++ rest → bare_at e.Room rest ≡ Some event → WasEvent version event bs
room_was version event bs rest i h =
    bind_case (bare_offer_at rest) (λ o. Some (e.Room o.0 o.1)) event h λ o first g.
    let w = bare_was o rest first in
    rw (sym (some_same (e.Room o.0 o.1) event g)) (record { fits = w.fits; allows = allows_none version; is = behind bs (codes " room ") rest (offer_name o.0 o.1) i w.is })

pass_was : (version : Version) (event : Event) (bs rest : List ℕ) → bs ≡ codes " pass " ++ rest → bare_at e.Pass rest ≡ Some event → WasEvent version event bs
pass_was version event bs rest i h =
    bind_case (bare_offer_at rest) (λ o. Some (e.Pass o.0 o.1)) event h λ o first g.
    let w = bare_was o rest first in
    rw (sym (some_same (e.Pass o.0 o.1) event g)) (record { fits = w.fits; allows = allows_none version; is = behind bs (codes " pass ") rest (offer_name o.0 o.1) i w.is })

offered_was : (version : Version) (event : Event) (bs rest : List ℕ) → bs ≡ codes " offer " ++ rest → offered_at version rest ≡ Some event → WasEvent version event bs
offered_was version event bs rest i h =
    bind_case (offer_at rest) (λ o. payload_at version o.1 >>= λ payload. Some (e.Offer o.0.0 o.0.1 payload)) event h λ o first g.
    bind_case (payload_at version o.1) (λ payload. Some (e.Offer o.0.0 o.0.1 payload)) event g λ payload second k.
    let w = offer_was rest o.0 o.1 first in
    let v = payload_was version o.1 payload second in
    rw (sym (some_same (e.Offer o.0.0 o.0.1 payload) event k)) (record {
      fits = (w.fits, v.fits);
      allows = v.allows;
      is = behind bs (codes " offer ") rest (offer_name o.0.0 o.0.1 ++ payload_text version payload) i
          (behind rest (offer_name o.0.0 o.0.1) o.1 (payload_text version payload) w.is v.is);
    })

got_was : (version : Version) (event : Event) (bs rest : List ℕ) → bs ≡ codes " got " ++ rest → got_at version rest ≡ Some event → WasEvent version event bs
got_was version event bs rest i h =
    bind_case (offer_at rest) (λ o. word_at (got_word version) o.1 >>= message_at version >>= λ m. Some (e.Got o.0.0 o.0.1 m)) event h λ o first g.
    bind_case (word_at (got_word version) o.1 >>= message_at version) (λ m. Some (e.Got o.0.0 o.0.1 m)) event g λ m second k.
    bind_case (word_at (got_word version) o.1) (message_at version) m second λ after word third.
    let w = offer_was rest o.0 o.1 first in
    let v = message_was version after m third in
    let tail : o.1 ≡ got_word version ++ message_text version m =
    behind o.1 (got_word version) after (message_text version m) (word_was (got_word version) o.1 after word) v.is in
    rw (sym (some_same (e.Got o.0.0 o.0.1 m) event k)) (record {
      fits = (w.fits, v.fits);
      allows = v.allows;
      is = behind bs (codes " got ") rest (offer_name o.0.0 o.0.1 ++ (got_word version ++ message_text version m)) i
          (behind rest (offer_name o.0.0 o.0.1) o.1 (got_word version ++ message_text version m) w.is tail);
    })

did_was : (version : Version) (event : Event) (bs rest : List ℕ) → bs ≡ codes " did " ++ rest → answered_at e.Did rest ≡ Some event → WasEvent version event bs
did_was version event bs rest i h =
    bind_case (offer_at rest) (λ o. answer_at o.1 >>= λ answer. Some (e.Did o.0.0 o.0.1 answer)) event h λ o first g.
    bind_case (answer_at o.1) (λ answer. Some (e.Did o.0.0 o.0.1 answer)) event g λ answer second k.
    let w = offer_was rest o.0 o.1 first in
    let v = answer_was o.1 answer second in
    rw (sym (some_same (e.Did o.0.0 o.0.1 answer) event k)) (record {
      fits = (w.fits, v.fits);
      allows = allows_none version;
      is = behind bs (codes " did ") rest (offer_name o.0.0 o.0.1 ++ answer_text answer) i (behind rest (offer_name o.0.0 o.0.1) o.1 (answer_text answer) w.is v.is);
    })

reply_was : (version : Version) (event : Event) (bs rest : List ℕ) → bs ≡ codes " reply " ++ rest → answered_at e.Reply rest ≡ Some event → WasEvent version event bs
reply_was version event bs rest i h =
    bind_case (offer_at rest) (λ o. answer_at o.1 >>= λ answer. Some (e.Reply o.0.0 o.0.1 answer)) event h λ o first g.
    bind_case (answer_at o.1) (λ answer. Some (e.Reply o.0.0 o.0.1 answer)) event g λ answer second k.
    let w = offer_was rest o.0 o.1 first in
    let v = answer_was o.1 answer second in
    rw (sym (some_same (e.Reply o.0.0 o.0.1 answer) event k)) (record {
      fits = (w.fits, v.fits);
      allows = allows_none version;
      is = behind bs (codes " reply ") rest (offer_name o.0.0 o.0.1 ++ answer_text answer) i (behind rest (offer_name o.0.0 o.0.1) o.1 (answer_text answer) w.is v.is);
    })

taking_was : (version : Version) (bs : List ℕ) (event : Event) → taking_at version bs ≡ Some event → WasEvent version event bs
unfolding taking_at
taking_was version bs event h =
    choice_case (codes " got ") bs (got_at version) (choice (word_at (codes " pass ") bs) (bare_at e.Pass)
    (choice (word_at (codes " did ") bs) (answered_at e.Did) (choice (word_at (codes " reply ") bs) (answered_at e.Reply) None))) event h (got_was version event bs) λ h.
    choice_case (codes " pass ") bs (bare_at e.Pass) (choice (word_at (codes " did ") bs) (answered_at e.Did) (choice (word_at (codes " reply ") bs) (answered_at e.Reply) None))
    event h (pass_was version event bs) λ h.
    choice_case (codes " did ") bs (answered_at e.Did) (choice (word_at (codes " reply ") bs) (answered_at e.Reply) None) event h (did_was version event bs) λ h.
    choice_case (codes " reply ") bs (answered_at e.Reply) None event h (reply_was version event bs) λ h.
    not_none event h

pub event_was : (version : Version) (bs : List ℕ) (event : Event) → event_at version bs ≡ Some event → WasEvent version event bs
unfolding event_at
event_was version bs event h =
    choice_case (codes " offer ") bs (offered_at version) (choice (word_at (codes " withdraw ") bs) (bare_at e.Withdraw)
    (choice (word_at (codes " know ") bs) (bare_at e.Know) (choice (word_at (codes " room ") bs) (bare_at e.Room) (taking_at version bs)))) event h (offered_was version event bs) λ h.
    choice_case (codes " withdraw ") bs (bare_at e.Withdraw)
    (choice (word_at (codes " know ") bs) (bare_at e.Know) (choice (word_at (codes " room ") bs) (bare_at e.Room) (taking_at version bs))) event h (withdraw_was version event bs) λ h.
    choice_case (codes " know ") bs (bare_at e.Know) (choice (word_at (codes " room ") bs) (bare_at e.Room) (taking_at version bs)) event h (know_was version event bs) λ h.
    choice_case (codes " room ") bs (bare_at e.Room) (taking_at version bs) event h (room_was version event bs) λ h.
    taking_was version bs event h
