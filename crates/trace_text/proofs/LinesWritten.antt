-- Each line that is read was written as a line of a trace. The reader's steps are followed backwards: what each has taken and what it has
-- left are joined again to the line.
use Rattle.std.proofs.Common.{◌≡◌, ℕ, ◌-◌, ◌<◌, ◌≤◌, ◌^◌, Bool, true, false, List, ◌++◌, Some, None, codes, refl, sym, ap, ◌∙◌, arith}
use Rattle.std.specs.Prelude.{◌==◌, if◌then◌else◌}
use Rattle.std.specs.Fmt.{decimal}
use Rattle.std.proofs.lemmas.Bool.Decides.{nat_tests}
use Rattle.ac_base.specs.declared.ends.Trap.{Trap}
use Rattle.ac_base.specs.declared.ends.Trap.TheVariants.{ZeroDivisor, Index, StackFull, OutputFull, FileRange}
use Rattle.ac_base.specs.declared.ends.EndWord.{EndWord}
use Rattle.ac_base.specs.declared.ends.EndWord.TheVariants.{Finished, Trapped, OutOfSteps, Stalled}
use Rattle.ac_base.specs.declared.entry.Stamped.{Stamped}
use Rattle.ac_base.specs.Hexadecimal.{hex_of}
use Rattle.ac_base.specs.Report.{word_text}
use Rattle.trace_text.specs.declared.version.Version.{Version}
use Rattle.trace_text.specs.declared.trace.TraceEnd.{TraceEnd}
use Rattle.trace_text.specs.Versions.{is_wide_entry}
use Rattle.trace_text.specs.Text.{spaced, event_text, steps_line, file_line, entry_line, end_line}
use Rattle.trace_text.specs.Spelling.{AreBytes, IsEntry, IsEnd}
use Rattle.trace_text.specs.inner.Reading.{Taken, number_at, positive_at, spaced_at, word_at, ended, choice, event_at, spaced_bytes, most_small, most_large, stamped, word_is, trap_at, trace_end}
use Rattle.trace_text.specs.inner.Reading.{numbered_at, steps_at, file_at, entry_at, end_word_at, end_at, ◌>>=◌}
use Rattle.trace_text.proofs.Words.{bind_case, choice_case, ended_case, word_was, pair, some_same, parts_same, not_none, behind, at_end}
use Rattle.trace_text.proofs.Numbers.{number_was, positive_was}
use Rattle.trace_text.proofs.Ints.{Allows}
use Rattle.trace_text.proofs.EventsWritten.{spaced_was, spaced_were, event_was}

-- ---- the bound on steps

pub record WereSteps (n : ℕ) (line : List ℕ) : Type 0 where
  pub least : 1 ≤ n
  pub most : n ≤ 2000000
  pub is : line ≡ steps_line n

pub steps_were : (n : ℕ) (line : List ℕ) → steps_at line ≡ Some n → WereSteps n line
steps_were n line h =
    bind_case (word_at (codes "steps ") line >>= positive_at 2000000) (λ n. ended n.1 n.0) n h λ m first g.
    bind_case (word_at (codes "steps ") line) (positive_at 2000000) m first λ after word k.
    let done = ended_case m.1 m.0 n g in
    let w = positive_was 2000000 m.0 after m.1 (omega arith) k in
    rw (sym done.1) (record {
      least = w.least;
      most = w.was.low;
      is = behind line (codes "steps ") after (decimal m.0) (word_was (codes "steps ") line after word) (at_end after (decimal m.0) m.1 w.was.is done.0);
    })

-- ---- files

record WasNumbered (word : List ℕ) (k : ℕ) (line rest : List ℕ) : Type 0 where
  low : k < 2 ^ 32
  is : line ≡ word ++ (decimal k ++ rest)

number_case : (n k : ℕ) (after rest : List ℕ) (t : Bool) → (n == k) ≡ t → (if t then Some after else None) ≡ Some rest → (n ≡ k) × (after ≡ rest)
number_case n k after rest true e h = (grind (arith, nat_tests), some_same after rest h)
number_case n k after rest false e h = not_none rest h

numbered_was : (word : List ℕ) (k : ℕ) (line rest : List ℕ) → numbered_at word k line ≡ Some rest → WasNumbered word k line rest
unfolding numbered_at
numbered_was word k line rest h =
    bind_case (word_at word line >>= number_at most_small) (λ n. if n.0 == k then Some n.1 else None) rest h λ n first g.
    bind_case (word_at word line) (number_at most_small) n first λ after w m.
    let done = number_case n.0 k n.1 rest (n.0 == k) refl g in
    let v = number_was most_small n.0 after n.1 (omega arith) m in
    rw (sym done.0, sym done.1) (record {
      low = omega (arith, v.low);
      is = behind line word after (decimal n.0 ++ n.1) (word_was word line after w) v.is;
    })

pub record WasFile (k : ℕ) (bytes line : List ℕ) : Type 0 where
  pub low : k < 2 ^ 32
  pub are : AreBytes bytes
  pub is : line ≡ file_line k bytes

pub file_was : (k : ℕ) (bytes line : List ℕ) → file_at k line ≡ Some bytes → WasFile k bytes line
file_was k bytes line h =
    bind_case (numbered_at (codes "file ") k line) spaced_bytes bytes h λ rest first g.
    let w = numbered_was (codes "file ") k line rest first in
    let v = spaced_were bytes rest g in
    record {
      low = w.low;
      are = v.0;
      is = behind line (codes "file ") (decimal k ++ rest) (decimal k ++ (codes " " ++ hex_of bytes)) w.is (ap (λ (cs : List ℕ). decimal k ++ cs) v.1);
    }

-- ---- entries

pub record WasEntry (version : Version) (s : Stamped) (line : List ℕ) : Type 0 where
  pub fits : IsEntry s
  pub allows : Allows version (is_wide_entry s)
  pub is : line ≡ entry_line version s

-- stamp, party, turn and event are taken one behind the other: what each was written as, and what it left, are joined from the last back to the
-- first
pub entry_was : (version : Version) (s : Stamped) (line : List ℕ) → entry_at version line ≡ Some s → WasEntry version s line
unfolding entry_at
entry_was version s line h =
    bind_case (positive_at (2 ^ 60 - 1) line) (λ stamp. spaced_at most_small stamp.1 >>= λ party. spaced_at most_large party.1 >>= λ turn.
    event_at version turn.1 >>= λ event. Some (stamped stamp.0 party.0 turn.0 event)) s h λ stamp first h.
    bind_case (spaced_at most_small stamp.1) (λ party. spaced_at most_large party.1 >>= λ turn.
    event_at version turn.1 >>= λ event. Some (stamped stamp.0 party.0 turn.0 event)) s h λ party second h.
    bind_case (spaced_at most_large party.1) (λ turn. event_at version turn.1 >>= λ event. Some (stamped stamp.0 party.0 turn.0 event)) s h λ turn third h.
    bind_case (event_at version turn.1) (λ event. Some (stamped stamp.0 party.0 turn.0 event)) s h λ event fourth h.
    let a = positive_was (2 ^ 60 - 1) stamp.0 line stamp.1 (omega arith) first in
    let b = spaced_was most_small party.0 stamp.1 party.1 (omega arith) second in
    let c = spaced_was most_large turn.0 party.1 turn.1 (omega arith) third in
    let d = event_was version turn.1 event fourth in
    rw (sym (some_same (stamped stamp.0 party.0 turn.0 event) s h)) (record {
      fits = record {
        stamp_least = a.least;
        stamp_most = omega (arith, a.was.low);
        party = omega (arith, b.low);
        turn = omega (arith, c.low);
        event = d.fits;
      };
      allows = d.allows;
      is = behind line (decimal stamp.0) stamp.1 (spaced party.0 ++ (spaced turn.0 ++ event_text version event)) a.was.is
          (behind stamp.1 (spaced party.0) party.1 (spaced turn.0 ++ event_text version event) b.is
          (behind party.1 (spaced turn.0) turn.1 (event_text version event) c.is d.is));
    })

-- ---- ends

-- a word that stands at the front is that end's
named : (text : List ℕ) (found : EndWord) (word : EndWord) (bs rest : List ℕ) → text ≡ word_text found
    → (after : List ℕ) → bs ≡ text ++ after → word_is found after ≡ Some (word, rest) → bs ≡ word_text word ++ rest
named text found word bs rest t after i h =
    let q = parts_same found word after rest h in
    i ∙ (ap (λ (cs : List ℕ). text ++ cs) q.1 ∙ ap (λ (cs : List ℕ). cs ++ rest) (t ∙ ap word_text q.0))

abbrev trap_here : List ℕ → Trap → Taken EndWord → Taken EndWord
trap_here bs trap other = choice (word_at (word_text (Trapped trap)) bs) (word_is (Trapped trap)) other

trap_named : (trap : Trap) (word : EndWord) (bs rest : List ℕ) (other : Taken EndWord) → trap_here bs trap other ≡ Some (word, rest)
    → (other ≡ Some (word, rest) → bs ≡ word_text word ++ rest) → bs ≡ word_text word ++ rest
trap_named trap word bs rest other h more =
    choice_case (word_text (Trapped trap)) bs (word_is (Trapped trap)) other (word, rest) h (named (word_text (Trapped trap)) (Trapped trap) word bs rest refl) more

trap_was : (word : EndWord) (bs rest : List ℕ) → trap_at bs ≡ Some (word, rest) → bs ≡ word_text word ++ rest
trap_was word bs rest h =
    trap_named ZeroDivisor word bs rest (trap_here bs Index (trap_here bs StackFull (trap_here bs OutputFull (trap_here bs FileRange None)))) h λ h.
    trap_named Index word bs rest (trap_here bs StackFull (trap_here bs OutputFull (trap_here bs FileRange None))) h λ h.
    trap_named StackFull word bs rest (trap_here bs OutputFull (trap_here bs FileRange None)) h λ h.
    trap_named OutputFull word bs rest (trap_here bs FileRange None) h λ h.
    trap_named FileRange word bs rest None h λ h.
    not_none (pair word rest) h

end_word_was : (word : EndWord) (bs rest : List ℕ) → end_word_at bs ≡ Some (word, rest) → bs ≡ word_text word ++ rest
unfolding end_word_at
end_word_was word bs rest h =
    choice_case (codes "finished") bs (word_is Finished) (choice (word_at (codes "out-of-steps") bs) (word_is OutOfSteps)
    (choice (word_at (codes "stalled") bs) (word_is Stalled) (trap_at bs))) (word, rest) h (named (codes "finished") Finished word bs rest refl) λ h.
    choice_case (codes "out-of-steps") bs (word_is OutOfSteps) (choice (word_at (codes "stalled") bs) (word_is Stalled) (trap_at bs)) (word, rest) h
    (named (codes "out-of-steps") OutOfSteps word bs rest refl) λ h.
    choice_case (codes "stalled") bs (word_is Stalled) (trap_at bs) (word, rest) h (named (codes "stalled") Stalled word bs rest refl) λ h.
    trap_was word bs rest h

pub record WasEnd (k : ℕ) (end : TraceEnd) (line : List ℕ) : Type 0 where
  pub low : k < 2 ^ 32
  pub fits : IsEnd end
  pub is : line ≡ end_line k end

-- the number, the blank and the word were taken by one chain, and steps and output behind it: the chain is taken apart first
pub end_was : (k : ℕ) (end : TraceEnd) (line : List ℕ) → end_at k line ≡ Some end → WasEnd k end line
unfolding end_at
end_was k end line h =
    bind_case (numbered_at (codes "end ") k line >>= word_at (codes " ") >>= end_word_at)
    (λ word. spaced_at most_large word.1 >>= λ steps. spaced_bytes steps.1 >>= λ output. Some (trace_end word.0 steps.0 output)) end h λ word first h.
    bind_case (spaced_at most_large word.1) (λ steps. spaced_bytes steps.1 >>= λ output. Some (trace_end word.0 steps.0 output)) end h λ steps second h.
    bind_case (spaced_bytes steps.1) (λ output. Some (trace_end word.0 steps.0 output)) end h λ output third h.
    bind_case (numbered_at (codes "end ") k line >>= word_at (codes " ")) end_word_at word first λ after joint g.
    bind_case (numbered_at (codes "end ") k line) (word_at (codes " ")) after joint λ blank numbered f.
    let a = numbered_was (codes "end ") k line blank numbered in
    let b = word_was (codes " ") blank after f in
    let c = end_word_was word.0 after word.1 g in
    let d = spaced_was most_large steps.0 word.1 steps.1 (omega arith) second in
    let o = spaced_were output steps.1 third in
    let tail : after ≡ word_text word.0 ++ (spaced steps.0 ++ (codes " " ++ hex_of output)) =
    behind after (word_text word.0) word.1 (spaced steps.0 ++ (codes " " ++ hex_of output)) c
    (behind word.1 (spaced steps.0) steps.1 (codes " " ++ hex_of output) d.is o.1) in
    rw (sym (some_same (trace_end word.0 steps.0 output) end h)) (record {
      low = a.low;
      fits = record { steps = omega (arith, d.low); output = o.0 };
      is = behind line (codes "end ") (decimal k ++ blank) (decimal k ++ (codes " " ++ (word_text word.0 ++ (spaced steps.0 ++ (codes " " ++ hex_of output))))) a.is
          (ap (λ (cs : List ℕ). decimal k ++ cs) (b ∙ ap (λ (cs : List ℕ). codes " " ++ cs) tail));
    })
