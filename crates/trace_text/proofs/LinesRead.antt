-- Each line of a trace is read as it is written. It follows from the same of its parts, in their order, where what comes behind a number
-- begins with no digit.
use Rattle.std.proofs.Common.{◌≡◌, ℕ, ◌-◌, ◌<◌, ◌≤◌, ◌^◌, true, false, List, [], ◌++◌, Some, codes, refl, sym, ap, ◌∙◌, append-nil, arith}
use Rattle.std.specs.Prelude.{◌==◌}
use Rattle.std.specs.Fmt.{decimal}
use Rattle.std.proofs.lemmas.Bool.Decides.{nat_tests}
use Rattle.ac_base.specs.declared.ends.Trap.TheVariants.{ZeroDivisor, Index, StackFull, OutputFull, FileRange}
use Rattle.ac_base.specs.declared.ends.EndWord.{EndWord}
use Rattle.ac_base.specs.declared.ends.EndWord.TheVariants.{Finished, Trapped, OutOfSteps, Stalled}
use Rattle.ac_base.specs.declared.entry.Event.{Event}
use Rattle.ac_base.specs.declared.entry.Event.TheVariants as e
use Rattle.ac_base.specs.declared.entry.Stamped.{Stamped}
use Rattle.ac_base.specs.Hexadecimal.{hex_of}
use Rattle.ac_base.specs.Report.{word_text}
use Rattle.trace_text.specs.declared.version.Version.{Version}
use Rattle.trace_text.specs.declared.trace.TraceEnd.{TraceEnd}
use Rattle.trace_text.specs.Versions.{is_wide_entry}
use Rattle.trace_text.specs.Text.{spaced, event_text, steps_line, file_line, entry_line, end_line}
use Rattle.trace_text.specs.Spelling.{AreBytes, IsEntry, IsEnd}
use Rattle.trace_text.specs.inner.Reading.{is_digit, starts, positive_at, most_small, most_large, numbered_at, steps_at, file_at, entry_at, end_word_at, end_at}
use Rattle.trace_text.proofs.Words.{word_is}
use Rattle.trace_text.proofs.Numbers.{positive_is}
use Rattle.trace_text.proofs.Bytes.{bytes_are}
use Rattle.trace_text.proofs.Ints.{Allows}
use Rattle.trace_text.proofs.EventsRead.{small_is, spaced_is, event_is}

-- ---- the bound on steps

positive_end : (most n : ℕ) → 1 ≤ n → n ≤ most → n < 2 ^ 64 → positive_at most (decimal n) ≡ Some (n, [])
positive_end most n least le lt = ap (positive_at most) (sym (append-nil (decimal n))) ∙ positive_is most n [] least le lt refl

pub steps_is : (n : ℕ) → 1 ≤ n → n ≤ 2000000 → steps_at (steps_line n) ≡ Some n
steps_is n least most = rw (positive_end 2000000 n least most (omega (arith, most))) refl

-- ---- files

same_number : (k : ℕ) → (k == k) ≡ true
same_number k = grind (arith, nat_tests)

numbered_is : (word : List ℕ) (k : ℕ) (rest : List ℕ) → k < 2 ^ 32 → starts is_digit rest ≡ false → numbered_at word k (word ++ (decimal k ++ rest)) ≡ Some rest
unfolding numbered_at
numbered_is word k rest lt s = rw (word_is word (decimal k ++ rest), small_is k rest lt s, same_number k) refl

pub file_is : (k : ℕ) (bytes : List ℕ) → k < 2 ^ 32 → AreBytes bytes → file_at k (file_line k bytes) ≡ Some bytes
file_is k bytes lt all = rw (numbered_is (codes "file ") k (codes " " ++ hex_of bytes) lt refl, bytes_are bytes all) refl

-- ---- entries

event_starts : (version : Version) (event : Event) → starts is_digit (event_text version event) ≡ false
event_starts version (e.Offer link number payload) = refl
event_starts version (e.Withdraw link number) = refl
event_starts version (e.Know link number) = refl
event_starts version (e.Room link number) = refl
event_starts version (e.Got link number message) = refl
event_starts version (e.Pass link number) = refl
event_starts version (e.Did link number answer) = refl
event_starts version (e.Reply link number answer) = refl

pub entry_is : (version : Version) (s : Stamped) → IsEntry s → Allows version (is_wide_entry s) → entry_at version (entry_line version s) ≡ Some s
unfolding entry_at
entry_is version s h allows =
    let stamp = positive_is (2 ^ 60 - 1) s.entry.stamp (spaced s.party ++ (spaced s.entry.turn ++ event_text version s.entry.event)) h.stamp_least
    (omega (arith, h.stamp_most)) (omega (arith, h.stamp_most)) refl in
    let party = spaced_is most_small s.party (spaced s.entry.turn ++ event_text version s.entry.event) (omega (arith, h.party)) (omega (arith, h.party)) refl in
    let turn = spaced_is most_large s.entry.turn (event_text version s.entry.event) (omega (arith, h.turn)) h.turn (event_starts version s.entry.event) in
    rw (stamp, party, turn, event_is version s.entry.event h.event allows) refl

-- ---- ends

end_word_is : (word : EndWord) (rest : List ℕ) → end_word_at (word_text word ++ rest) ≡ Some (word, rest)
unfolding end_word_at
end_word_is Finished rest = refl
end_word_is (Trapped ZeroDivisor) rest = refl
end_word_is (Trapped Index) rest = refl
end_word_is (Trapped StackFull) rest = refl
end_word_is (Trapped OutputFull) rest = refl
end_word_is (Trapped FileRange) rest = refl
end_word_is OutOfSteps rest = refl
end_word_is Stalled rest = refl

pub end_is : (k : ℕ) (end : TraceEnd) → k < 2 ^ 32 → IsEnd end → end_at k (end_line k end) ≡ Some end
unfolding end_at
end_is k end lt h =
    let core = numbered_is (codes "end ") k (codes " " ++ (word_text end.word ++ (spaced end.steps ++ (codes " " ++ hex_of end.output)))) lt refl in
    let word = end_word_is end.word (spaced end.steps ++ (codes " " ++ hex_of end.output)) in
    let steps = spaced_is most_large end.steps (codes " " ++ hex_of end.output) (omega (arith, h.steps)) h.steps refl in
    rw (core, word, steps, bytes_are end.output h.output) refl
