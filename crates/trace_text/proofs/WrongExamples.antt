-- Each way in which a line can be wrong, by the reading function: the number of the line, and the trace where nothing is wrong. All of it
-- computes.
use Rattle.std.proofs.Common.{◌≡◌, ℕ, refl, pos, List, [], ◌∷◌, ◌++◌, Ok, Err, Result, codes}
use Rattle.ac_base.specs.declared.ends.EndWord.TheVariants.{Finished}
use Rattle.ac_base.specs.declared.entry.Event.TheVariants as e
use Rattle.trace_text.specs.declared.trace.Trace.{Trace}
use Rattle.trace_text.specs.inner.Reading.{read_text, read_lines, after_line, entry_at, event_at, taking_at, payload_at, message_at}
use Rattle.trace_text.specs.inner.Reading.{answer_at, value_at, number_at, numbered_at, end_at, end_word_at, bytes_to_end}
use Rattle.trace_text.proofs.Examples.{message, requests, three_ints, an_end, made}

-- a line that is wrong behind the title and the bound on steps, with an end behind it
abbrev pub third : List ℕ → List ℕ
third line = codes "ac-trace 1\nsteps 7\n" ++ (line ++ codes "\nend 0 finished 1 -\n")

abbrev wrong : ℕ → Result Trace ℕ
wrong line = Err line

pub the_trace_of_a_message_is_read :
    read_text (codes "ac-trace 1\nsteps 100000\n1 0 1 offer 0 0 int 5\n2 1 1 got 0 0 5\n3 0 1 know 0 0\nend 0 finished 1 -\nend 1 finished 3 350a\n") ≡ Ok message
unfolding read_lines after_line entry_at event_at taking_at payload_at message_at answer_at value_at number_at numbered_at end_at end_word_at bytes_to_end
the_trace_of_a_message_is_read = refl

pub requests_are_read :
    read_text (codes "ac-trace 1\nsteps 100000\nfile 0 30313233343536373839\n1 0 1 offer 0 0 read 0 4 256\n2 1 0 did 0 0 bytes 343536373839\n3 0 1 know 0 0\n"
    ++ codes "4 0 1 reply 0 0 bytes 343536373839\n5 0 2 offer 0 1 write 0 12 41\n6 1 0 did 0 1 count 1\n7 0 2 know 0 1\n8 0 2 reply 0 1 count 1\nend 0 finished 6 362035322035370a\n") ≡ Ok requests
unfolding read_lines after_line entry_at event_at taking_at payload_at message_at answer_at value_at number_at numbered_at end_at end_word_at bytes_to_end
requests_are_read = refl

-- a leading zero, a sign before nought, and numbers past their limits: a stamp, a bound on steps, a link, a value, a count of bytes
pub wrong_numbers :
    read_text (third (codes "01 0 1 know 0 0")) ∷ read_text (third (codes "0 0 1 know 0 0")) ∷ read_text (third (codes "1152921504606846976 0 1 know 0 0"))
    ∷ read_text (third (codes "1 0 1 got 0 0 -0")) ∷ read_text (third (codes "1 0 1 got 0 0 9223372036854775808")) ∷ read_text (third (codes "1 0 1 know 4294967296 0"))
    ∷ read_text (third (codes "1 0 1 know 0 18446744073709551616")) ∷ read_text (third (codes "1 0 1 did 0 0 count 4294967296")) ∷ read_text (third (codes "1 0 1 know 0 +0"))
    ∷ read_text (codes "ac-trace 1\nsteps 0\nend 0 finished 1 -\n") ∷ read_text (codes "ac-trace 1\nsteps 2000001\nend 0 finished 1 -\n") ∷ []
    ≡ wrong 3 ∷ wrong 3 ∷ wrong 3 ∷ wrong 3 ∷ wrong 3 ∷ wrong 3 ∷ wrong 3 ∷ wrong 3 ∷ wrong 3 ∷ wrong 2 ∷ wrong 2 ∷ []
unfolding read_lines after_line entry_at event_at taking_at payload_at message_at answer_at value_at number_at numbered_at end_at end_word_at bytes_to_end
wrong_numbers = refl

-- an odd count of digits, an upper case digit, no digits at all
pub wrong_bytes :
    read_text (third (codes "file 0 350")) ∷ read_text (third (codes "file 0 0A")) ∷ read_text (third (codes "file 0 ")) ∷ read_text (third (codes "file 0 --"))
    ∷ read_text (third (codes "file 0 3g")) ∷ []
    ≡ wrong 3 ∷ wrong 3 ∷ wrong 3 ∷ wrong 3 ∷ wrong 3 ∷ []
unfolding read_lines after_line entry_at event_at taking_at payload_at message_at answer_at value_at number_at numbered_at end_at end_word_at bytes_to_end
wrong_bytes = refl

-- two blanks, a blank in front or behind, a carriage return, an empty line, a word that is none, a part that is missing
pub wrong_lines :
    read_text (third (codes "1  0 1 know 0 0")) ∷ read_text (third (codes " 1 0 1 know 0 0")) ∷ read_text (third (codes "1 0 1 know 0 0 ")) ∷ read_text (third (codes "1 0 1 know 0 0\r"))
    ∷ read_text (third []) ∷ read_text (third (codes "1 0 1 knew 0 0")) ∷ read_text (third (codes "1 0 1 know 0")) ∷ read_text (codes "ac-trace 3\n") ∷ []
    ≡ wrong 3 ∷ wrong 3 ∷ wrong 3 ∷ wrong 3 ∷ wrong 3 ∷ wrong 3 ∷ wrong 3 ∷ wrong 1 ∷ []
unfolding read_lines after_line entry_at event_at taking_at payload_at message_at answer_at value_at number_at numbered_at end_at end_word_at bytes_to_end
wrong_lines = refl

-- a file left out, a file behind an entry, ends out of order, an entry behind an end, a word for an end that is none
pub wrong_order :
    read_text (third (codes "file 1 -")) ∷ read_text (third (codes "1 0 1 know 0 0\nfile 0 -")) ∷ read_text (third (codes "end 1 finished 1 -"))
    ∷ read_text (third (codes "end 0 finished 1 -\n1 0 1 know 0 0")) ∷ read_text (third (codes "end 0 finished 1 -")) ∷ read_text (third (codes "end 0 ended 1 -")) ∷ []
    ≡ wrong 3 ∷ wrong 4 ∷ wrong 3 ∷ wrong 4 ∷ wrong 4 ∷ wrong 3 ∷ []
unfolding read_lines after_line entry_at event_at taking_at payload_at message_at answer_at value_at number_at numbered_at end_at end_word_at bytes_to_end
wrong_order = refl

-- the last line without its line feed, a text that ends too early, one that goes on, and a cut in the middle of a line
pub wrong_endings :
    read_text (codes "ac-trace 1\nsteps 7\nend 0 finished 1 -") ∷ read_text (codes "ac-trace 1\nsteps 7\n") ∷ read_text [] ∷ read_text (third (codes "1 0 1 know 0 0") ++ codes "\n")
    ∷ read_text (third (codes "1 0 1 know 0 0") ++ codes "end") ∷ read_text (codes "ac-trace 1\nsteps 100000\n1 0 1 offer 0 0 int 5\n2 1 1 got") ∷ []
    ≡ wrong 3 ∷ wrong 3 ∷ wrong 1 ∷ wrong 5 ∷ wrong 5 ∷ wrong 4 ∷ []
unfolding read_lines after_line entry_at event_at taking_at payload_at message_at answer_at value_at number_at numbered_at end_at end_word_at bytes_to_end
wrong_endings = refl

-- ---- version 2

-- the same in version 2
abbrev pub third_of_2 : List ℕ → List ℕ
third_of_2 line = codes "ac-trace 2\nsteps 7\n" ++ (line ++ codes "\nend 0 finished 1 -\n")

pub the_trace_of_three_ints_is_read :
    read_text (codes "ac-trace 2\nsteps 100000\n1 0 1 offer 0 0 ints 3 4 0 -6\n2 1 1 got 0 0 ints 3 4 0 -6\n3 0 1 know 0 0\nend 0 finished 5 -\nend 1 finished 3 342030202d360a\n") ≡ Ok three_ints
unfolding read_lines after_line entry_at event_at taking_at payload_at message_at answer_at value_at number_at numbered_at end_at end_word_at bytes_to_end
the_trace_of_three_ints_is_read = refl

-- as many ints as a message may have
pub sixteen_ints_are_read :
    read_text (third_of_2 (codes "1 0 1 got 0 0 ints 16 1 2 3 4 5 6 7 8 9 10 11 12 13 14 15 16"))
    ≡ Ok (record {
      steps = 7;
      start = [];
      entries = made 1 0 1 (e.Got 0 0 (pos 1 ∷ pos 2 ∷ pos 3 ∷ pos 4 ∷ pos 5 ∷ pos 6 ∷ pos 7 ∷ pos 8 ∷ pos 9 ∷ pos 10 ∷ pos 11 ∷ pos 12 ∷ pos 13 ∷ pos 14 ∷ pos 15 ∷ pos 16 ∷ [])) ∷ [];
      ends = an_end Finished 1 [] ∷ [];
    })
unfolding read_lines after_line entry_at event_at taking_at payload_at message_at answer_at value_at number_at numbered_at end_at end_word_at bytes_to_end
sixteen_ints_are_read = refl

-- none, seventeen, one fewer and one more than the line says, none told, a leading zero, two blanks, no int at all
pub wrong_counts :
    read_text (third_of_2 (codes "1 0 1 got 0 0 ints 0")) ∷ read_text (third_of_2 (codes "1 0 1 got 0 0 ints 17 1 2 3 4 5 6 7 8 9 10 11 12 13 14 15 16 17"))
    ∷ read_text (third_of_2 (codes "1 0 1 got 0 0 ints 3 4 0")) ∷ read_text (third_of_2 (codes "1 0 1 got 0 0 ints 2 4 0 -6")) ∷ read_text (third_of_2 (codes "1 0 1 offer 0 0 ints 3 4 0"))
    ∷ read_text (third_of_2 (codes "1 0 1 offer 0 0 ints 2 4 0 -6")) ∷ read_text (third_of_2 (codes "1 0 1 offer 0 0 ints")) ∷ read_text (third_of_2 (codes "1 0 1 offer 0 0 ints 02 4 0"))
    ∷ read_text (third_of_2 (codes "1 0 1 offer 0 0 ints 2 4  0")) ∷ read_text (third_of_2 (codes "1 0 1 offer 0 0 ints 2 4 -0")) ∷ []
    ≡ wrong 3 ∷ wrong 3 ∷ wrong 3 ∷ wrong 3 ∷ wrong 3 ∷ wrong 3 ∷ wrong 3 ∷ wrong 3 ∷ wrong 3 ∷ wrong 3 ∷ []
unfolding read_lines after_line entry_at event_at taking_at payload_at message_at answer_at value_at number_at numbered_at end_at end_word_at bytes_to_end
wrong_counts = refl

-- the spelling of one version in a text of the other
pub wrong_versions :
    read_text (third_of_2 (codes "1 0 1 offer 0 0 int 5")) ∷ read_text (third_of_2 (codes "1 0 1 got 0 0 5")) ∷ read_text (third (codes "1 0 1 offer 0 0 ints 1 5"))
    ∷ read_text (third (codes "1 0 1 got 0 0 ints 1 5")) ∷ read_text (third (codes "1 0 1 offer 0 0 int 4 0")) ∷ read_text (third (codes "1 0 1 got 0 0 4 0")) ∷ []
    ≡ wrong 3 ∷ wrong 3 ∷ wrong 3 ∷ wrong 3 ∷ wrong 3 ∷ wrong 3 ∷ []
unfolding read_lines after_line entry_at event_at taking_at payload_at message_at answer_at value_at number_at numbered_at end_at end_word_at bytes_to_end
wrong_versions = refl

-- version 2 where version 1 would do is wrong in the first line, if no other line is wrong
pub needless_versions :
    read_text (codes "ac-trace 2\nsteps 100000\n1 0 1 offer 0 0 ints 1 5\n2 1 1 got 0 0 ints 1 5\n3 0 1 know 0 0\nend 0 finished 1 -\nend 1 finished 3 350a\n")
    ∷ read_text (third_of_2 (codes "1 0 1 know 0 0")) ∷ read_text (third_of_2 (codes "1 0 1 got 0 0 ints 1 5") ++ codes "\n") ∷ read_text (codes "ac-trace 2\n") ∷ []
    ≡ wrong 1 ∷ wrong 1 ∷ wrong 5 ∷ wrong 2 ∷ []
unfolding read_lines after_line entry_at event_at taking_at payload_at message_at answer_at value_at number_at numbered_at end_at end_word_at bytes_to_end
needless_versions = refl
