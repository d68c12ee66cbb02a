-- What the definitions say of small runs, of stamps, of bytes and of messages: lines, reports and statuses, the stamp after two others, hexadecimal.
-- All of it computes but the decimal numbers of a report: the four that occur here have a lemma each, and the texts are rewritten by them.
use Rattle.std.proofs.Common.{◌≡◌, refl, ℕ, pos, List, true, false, [], ◌∷◌, ◌++◌, map, codes, Some, None, ap, ◌∙◌, arith}
use Rattle.std.specs.Prelude.{negsuc}
use Rattle.std.specs.Fmt.{decimal, signed_decimal}
use Rattle.std.proofs.lemmas.Fmt.{decimal_digit, decimal_step}
use Rattle.ac_base.specs.declared.ends.Trap.TheVariants.{ZeroDivisor, Index, StackFull, OutputFull, FileRange}
use Rattle.ac_base.specs.declared.ends.EndWord.{EndWord}
use Rattle.ac_base.specs.declared.ends.EndWord.TheVariants.{Finished, Trapped, OutOfSteps, Stalled}
use Rattle.ac_base.specs.declared.ends.MachineEnd.{MachineEnd}
use Rattle.ac_base.specs.Hexadecimal.{hex_of}
use Rattle.ac_base.specs.Messages.{ints_eq}
use Rattle.ac_base.specs.Report.{trap_text, word_text, ending_of, line_of, closed, report_of, is_trapped, is_out_of_steps, is_stalled, any_ends, status_of}
use Rattle.ac_base.specs.Stamps.{next_stamp, stamp_after}

-- what is seen of a core that ended with this word after so many steps and instructions, and printed this
abbrev pub ended : EndWord → ℕ → ℕ → List ℕ → MachineEnd
ended word steps instructions output = record { core = record { word = word; steps = steps; output = output; globals = []; waiting = []; idle = false }; instructions = instructions }

-- the decimal texts in the examples, which do not compute
one : decimal 1 ≡ codes "1"
one = decimal_digit 1 (omega arith)

two : decimal 2 ≡ codes "2"
two = decimal_digit 2 (omega arith)

nine : decimal 9 ≡ codes "9"
nine = decimal_digit 9 (omega arith)

fifteen : decimal 15 ≡ codes "15"
fifteen = decimal_step 15 (omega arith) (omega arith) ∙ ap (λ ds. ds ++ codes "5") (decimal_digit 1 (omega arith))

-- ---- decimals

pub a_decimal_of_two_digits : signed_decimal (pos 15) ≡ codes "15"
a_decimal_of_two_digits = fifteen

pub a_decimal_below_nought : signed_decimal (negsuc 14) ≡ codes "-15"
a_decimal_below_nought = rw fifteen refl

-- ---- the words for how a core ended

pub the_words : word_text Finished ∷ word_text OutOfSteps ∷ word_text Stalled ∷ [] ≡ codes "finished" ∷ codes "out-of-steps" ∷ codes "stalled" ∷ []
the_words = refl

pub the_words_of_traps :
    word_text (Trapped ZeroDivisor) ∷ word_text (Trapped Index) ∷ word_text (Trapped StackFull) ∷ word_text (Trapped OutputFull) ∷ word_text (Trapped FileRange) ∷ []
    ≡ codes "zero-divisor" ∷ codes "index" ∷ codes "stack-full" ∷ codes "output-full" ∷ codes "file-range" ∷ []
the_words_of_traps = refl

pub the_texts_of_traps : map trap_text (ZeroDivisor ∷ FileRange ∷ []) ≡ codes "zero-divisor" ∷ codes "file-range" ∷ []
the_texts_of_traps = refl

-- ---- a core's line

pub an_ending : ending_of (ended (Trapped Index) 2 9 (codes "7")) ≡ codes ": index after 2 steps, 9 instructions\n"
an_ending = rw (two, nine) refl

-- what it printed is not of its line
pub a_line : line_of (codes "left") (ended Stalled 1 2 (codes "7")) ≡ codes "left: stalled after 1 steps, 2 instructions\n"
a_line = rw (one, two) refl

-- ---- the end of an output

pub an_open_output_is_closed : closed (codes "a\nb") ≡ codes "a\nb\n"
an_open_output_is_closed = refl

pub a_closed_output_stays : closed (codes "a\n\n") ≡ codes "a\n\n"
a_closed_output_stays = refl

pub an_empty_output_stays : closed [] ≡ []
an_empty_output_stays = refl

-- a carriage return ends no line
pub a_line_feed_alone_closes : closed (codes "a\r") ≡ codes "a\r\n"
a_line_feed_alone_closes = refl

-- ---- the report

pub no_core_no_report : report_of [] [] ≡ []
no_core_no_report = refl

pub an_open_line_is_ended : report_of (codes "a" ∷ []) (ended Finished 2 9 (codes "7") ∷ []) ≡ codes "a: finished after 2 steps, 9 instructions\n7\n"
an_open_line_is_ended = rw (two, nine) refl

pub an_ended_line_stays : report_of (codes "a" ∷ []) (ended Finished 2 9 (codes "7\n") ∷ []) ≡ codes "a: finished after 2 steps, 9 instructions\n7\n"
an_ended_line_stays = rw (two, nine) refl

-- the word `steps` stays so where there is one
pub one_step : report_of (codes "a" ∷ []) (ended Stalled 1 2 [] ∷ []) ≡ codes "a: stalled after 1 steps, 2 instructions\n"
one_step = rw (one, two) refl

-- each core has its line and then its output, and what the first printed comes before the line of the second
pub two_cores : report_of (codes "a" ∷ codes "b" ∷ []) (ended OutOfSteps 9 15 (codes "y") ∷ ended (Trapped ZeroDivisor) 2 9 (codes "x") ∷ [])
    ≡ codes "a: out-of-steps after 9 steps, 15 instructions\ny\nb: zero-divisor after 2 steps, 9 instructions\nx\n"
two_cores = rw (two, nine, fifteen) refl

-- ---- the status

abbrev pub all_words : List EndWord
all_words = Finished ∷ Trapped Index ∷ OutOfSteps ∷ Stalled ∷ []

-- each test holds of its own word alone
pub trapped_alone : map is_trapped all_words ≡ false ∷ true ∷ false ∷ false ∷ []
trapped_alone = refl

pub out_of_steps_alone : map is_out_of_steps all_words ≡ false ∷ false ∷ true ∷ false ∷ []
out_of_steps_alone = refl

pub stalled_alone : map is_stalled all_words ≡ false ∷ false ∷ false ∷ true ∷ []
stalled_alone = refl

-- one core that ended so is enough, wherever it stands
pub one_of_two_stalled : any_ends is_stalled (ended Finished 2 9 [] ∷ ended Stalled 2 9 [] ∷ []) ∷ any_ends is_trapped (ended Finished 2 9 [] ∷ ended Stalled 2 9 [] ∷ []) ∷ any_ends is_stalled [] ∷ []
    ≡ true ∷ false ∷ false ∷ []
one_of_two_stalled = refl

pub all_finished : status_of (ended Finished 2 9 [] ∷ ended Finished 2 9 [] ∷ []) ≡ 0
all_finished = refl

pub one_trapped : status_of (ended Finished 2 9 [] ∷ ended (Trapped Index) 2 9 [] ∷ []) ≡ 4
one_trapped = refl

pub one_stalled : status_of (ended Finished 2 9 [] ∷ ended Stalled 2 9 [] ∷ []) ≡ 5
one_stalled = refl

pub one_out_of_steps : status_of (ended OutOfSteps 2 9 [] ∷ ended Finished 2 9 [] ∷ []) ≡ 6
one_out_of_steps = refl

pub a_trap_counts_before_want_of_steps : status_of (ended OutOfSteps 2 9 [] ∷ ended (Trapped ZeroDivisor) 2 9 [] ∷ []) ≡ 4
a_trap_counts_before_want_of_steps = refl

pub a_trap_counts_before_a_stall : status_of (ended Stalled 2 9 [] ∷ ended (Trapped ZeroDivisor) 2 9 [] ∷ []) ≡ 4
a_trap_counts_before_a_stall = refl

pub want_of_steps_counts_before_a_stall : status_of (ended Stalled 2 9 [] ∷ ended OutOfSteps 2 9 [] ∷ []) ≡ 6
want_of_steps_counts_before_a_stall = refl

-- ---- stamps

pub a_first_stamp : next_stamp 0 0 ≡ 1
a_first_stamp = refl

-- it is above that of the party's last entry and above that of the answered one, whichever is greater
pub above_its_own : next_stamp 7 3 ≡ 8
above_its_own = refl

pub above_the_answered : next_stamp 3 7 ≡ 8
above_the_answered = refl

pub the_greatest_stamp : stamp_after 1152921504606846974 0 ≡ Some 1152921504606846975
the_greatest_stamp = refl

pub none_above_it : stamp_after 1152921504606846975 0 ≡ None
none_above_it = refl

pub none_above_it_where_it_is_answered : stamp_after 0 1152921504606846975 ≡ None
none_above_it_where_it_is_answered = refl

-- ---- hexadecimal

pub two_digits_a_byte : hex_of (0 ∷ 9 ∷ 10 ∷ 171 ∷ 255 ∷ []) ≡ codes "00090aabff"
two_digits_a_byte = refl

pub no_bytes_are_a_dash : hex_of [] ≡ codes "-"
no_bytes_are_a_dash = refl

-- ---- messages

pub the_same_ints : ints_eq (pos 3 ∷ negsuc 0 ∷ []) (pos 3 ∷ negsuc 0 ∷ []) ≡ true
the_same_ints = refl

pub in_another_order : ints_eq (pos 3 ∷ pos 4 ∷ []) (pos 4 ∷ pos 3 ∷ []) ≡ false
in_another_order = refl

pub one_int_fewer : ints_eq (pos 3 ∷ []) (pos 3 ∷ pos 4 ∷ []) ≡ false
one_int_fewer = refl
