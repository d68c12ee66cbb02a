-- Histories of small journals, lines, sources that are refused, and two.ac from its text to its report. Each definition of Headline,
-- Source, Making and Reading stands beside a value that it refuses.
use Rattle.std.proofs.Common.{◌≡◌, refl, ap, ◌∙◌, ℕ, zero, suc, ◌<◌, ◌≤◌, pos, ◌⊎◌, Bool, List, [], ◌∷◌, ◌++◌, length}
use Rattle.std.proofs.Common.{map, codes, Option, None, Some, true, false, Result, Ok, Err, subst, sym, inl, inr, append-nil, length-append, arith}
use Rattle.std.specs.Prelude.{slice_get}
use Rattle.std.specs.Fmt.{signed_decimal}
use Rattle.std.specs.Str.{bytes_eq}
use Rattle.std.proofs.lemmas.Fmt.{decimal_digit, decimal_step}
use Rattle.ac_base.specs.Log.{Log}
use Rattle.ac_base.specs.Report.{report_of, status_of}
use Rattle.ac_tree.specs.declared.expr.Expr.TheVariants as expr
use Rattle.ac_tree.specs.declared.item.Item.{Item}
use Rattle.ac_tree.specs.declared.item.Program.{Program}
use Rattle.ac_lexer.specs.declared.fault.LexFault.{LexFault}
use Rattle.ac_lexer.specs.declared.fault.LexFault.TheVariants as l
use Rattle.ac_lexer.specs.declared.token.Token.{Token}
use Rattle.ac_lexer.specs.inner.Reading.{piece_at, name_at, word_of, number_at, mark_of_one, mark_of_two}
use Rattle.ac_lexer.proofs.Lexed.{lexes, lexes_only, tokens_in}
use Rattle.ac_lexer.proofs.Examples.{two_text, two_tokens, two_ac_only, two_ac as two_ac_lexed, a_nought_in_front, no_tokens}
use Rattle.reading_laws.specs.Letters.{same_word, same_mark}
use Rattle.reading_laws.specs.Readers.{many_at}
use Rattle.ac_expressions.specs.Reads.{chain_at, unary_at}
use Rattle.ac_parser.specs.inner.ReadsStatements.{stmt_at}
use Rattle.ac_parser.specs.inner.ReadsItems.{item_at, program_at}
use Rattle.ac_parser.proofs.Answered.{parsed_tree}
use Rattle.ac_parser.specs.Places.{IsTree, UnexpectedAt, TooDeepAt}
use Rattle.ac_parser.proofs.Examples.{two_ac as two_ac_parsed, no_parenthesis}
use Rattle.ac_types.specs.Reached.{BreaksNone, IsLeastBroken}
use Rattle.ac_types.specs.declared.rule.Rule.TheVariants as rule
use Rattle.ac_types.specs.Reached.{entries_of, all_calls, AreReached}
use Rattle.ac_types.proofs.Forms.{expr_is, stmt_is}
use Rattle.ac_types.proofs.Judging.{program_told}
use Rattle.ac_reach.specs.declared.reached.Reached.TheVariants as row
use Rattle.ac_reach.specs.Reached.{AreRows}
use Rattle.ac_reach.proofs.Examples.{one_row}
use Rattle.program_reading.specs.declared.refusal.BrokenRule.{BrokenRule}
use Rattle.program_reading.proofs.Answered.{not_unexpected, not_deep}
use Rattle.ac_program.proofs.Calls.{calls_both}
use Rattle.ac_program.proofs.Statuses.{apart_made, told_status}
use Rattle.ac_base.specs.declared.entry.Entry.{Entry}
use Rattle.ac_base.specs.declared.entry.Stamped.{Stamped}
use Rattle.ac_history.specs.History.{Past, link_at, start, fits, makes}
use Rattle.ac_base.specs.declared.entry.Event.TheVariants as event
use Rattle.ac_base.specs.declared.ends.EndWord.TheVariants.{Finished}
use Rattle.ac_base.specs.declared.ends.CoreEnd.{CoreEnd}
use Rattle.core_state.specs.Moves.{Over, moves, and_then}
use Rattle.core_state.specs.Shared.{core_end}
use Rattle.ac_resolve.proofs.Examples.{one_core, sum_value, two_ac}
use Rattle.ac_commands.specs.declared.program.Resolved.{Resolved}
use Rattle.ac_commands.specs.declared.command.Command.{out-Command}
use Rattle.ac_commands.specs.declared.command.Command.TheVariants as c
use Rattle.ac_commands.specs.declared.command.Command.TheOpen.{Command-F}
use Rattle.ac_commands.specs.declared.program.Function.{Function}
use Rattle.ac_semantics.specs.Threads.{step, first_state}
use Rattle.ac_semantics.proofs.Examples.{form, finish_by, a_sum}
use Rattle.ac_semantics.specs.Replay.{Replays}
use Rattle.stack_code.specs.declared.parts.Entered.{Entered}
use Rattle.stack_code.specs.Parts.{Parts}
use Rattle.code_meaning.specs.Machine.{exec, first_flat, Runs}
use Rattle.ac_translation.specs.Translation.{code_of}
use Rattle.ac_compile.proofs.Examples.{two, two_parts, two_is_compiled}
use Rattle.program_reading.specs.declared.refusal.Refusal.TheVariants as r
use Rattle.program_reading.specs.declared.refusal.Stop.TheVariants as stop
use Rattle.ac_program.specs.declared.execute.Done.{Done}
use Rattle.program_run.specs.declared.ended.Ended.{Ended}
use Rattle.ac_words.specs.declared.task.Task.TheVariants as t
use Rattle.ac_words.specs.declared.task.Telling.TheVariants as tell
use Rattle.ac_words.specs.Words.{IsBound, no_more, operand, bound_joined, IsCall, Does, Audits, Loads}
use Rattle.ac_words.proofs.Examples.{no_file, run_a_file}
use Rattle.ac_history.specs.Files.{Deed}
use Rattle.ac_history.specs.Quiet.{CoreIsQuiet}
use Rattle.file_ops.specs.Counting.{raised, failures_among}
use Rattle.program_run.specs.Parties.{owner_of, peer_of}
use Rattle.program_run.specs.Run.{history_of, nothing_yet, EndsQuiet, IsRunOf}
use Rattle.program_run.specs.DiskLeft.{deeds_of, LeavesDisk}
use Rattle.program_run.specs.Naming.{AreNamed}
use Rattle.program_reading.specs.Source.{HasTokens, HasFault, IsUnexpected, IsTooDeep, IsAccepted, IsBroken, IsTooMany, Refuses}
use Rattle.program_reading.specs.Source.{IsSpelled, IsReady, GivesReady, all_steps, most_steps, names_of, needed}
use Rattle.program_reading.specs.Lines.{disk_line, library_line, limit_file_line, limit_source_line, refusal_line, refusal_status}
use Rattle.ac_program.specs.Lines.{accepted_line, usage_line}
use Rattle.ac_outside.specs.Told.{LibraryTold, SinkTold}
use Rattle.program_reading.specs.Reading.{Gave, TookBytes, TookByReads, IsRead, IsReadWhole, IsTried, IsShort}
use Rattle.program_reading.specs.Writing.{TookFront}
use Rattle.starting_files.specs.Starting.{AreStarted}
use Rattle.ac_program.specs.Making.{IsReported, IsDueOf, made as is_made, ready}
use Rattle.ac_program.specs.Headline.{IsNoCall, IsCutShort, IsDue, IsDueOfFile, source, of_task, of_audit, of_load, TookWhole, TookPart, GaveUp}
use Rattle.ac_program.specs.Headline.IsDue.{usage, call, audit, load}
use Rattle.ac_program.specs.Headline.IsDueOfFile.{library_fault, too_long}
use Rattle.ac_program.specs.Headline.{alone, AreServed, KnowsFiles}
use Rattle.program_reading.specs.Failures.{TellsLibrary, TellsSink}
use Rattle.ac_program.specs.Headline.{TellsUsage, IsOfText, AreOfRuns, CallsFor, made, bad_token, unexpected, broken, over_long, too_deep, too_many}
use Rattle.ac_tree.specs.declared.stmt.Stmt.{Stmt}
use Rattle.ac_tree.specs.declared.stmt.Stmt.TheVariants as s
use Rattle.ac_resolve.specs.Resolution.{resolved}
use Rattle.ac_links.specs.AtRest.{has_front}
use Rattle.ac_program.proofs.TwoRules.{two_tree, two_is_clean}
use Rattle.ac_outside.specs.Disks.{DiskTold}

-- ---- histories

-- an entry with this stamp, of the offer of that number
abbrev pub stamped : ℕ → ℕ → Entry
stamped stamp number = record { stamp = stamp; turn = 0; event = event.Know 0 number }

abbrev pub journal : List Entry → Log
journal entries = record { entries = entries; spare = 0 }

abbrev pub of_party : ℕ → Entry → Stamped
of_party party entry = record { party = party; entry = entry }

-- by stamp, then party, then place
pub two_journals : history_of (journal (stamped 1 10 ∷ stamped 3 11 ∷ []) ∷ journal (stamped 1 20 ∷ stamped 2 21 ∷ stamped 3 22 ∷ []) ∷ [])
    ≡ of_party 0 (stamped 1 10) ∷ of_party 1 (stamped 1 20) ∷ of_party 1 (stamped 2 21) ∷ of_party 0 (stamped 3 11) ∷ of_party 1 (stamped 3 22) ∷ []
two_journals = refl

-- an entry of a lower party comes first where the stamps are equal, and those of one journal stay in their order
pub equal_stamps : history_of (journal (stamped 5 10 ∷ stamped 5 11 ∷ []) ∷ journal (stamped 5 20 ∷ []) ∷ [])
    ≡ of_party 0 (stamped 5 10) ∷ of_party 0 (stamped 5 11) ∷ of_party 1 (stamped 5 20) ∷ []
equal_stamps = refl

-- ---- lines and statuses

two_eight : signed_decimal (pos 28) ≡ codes "28"
two_eight = decimal_step 28 (omega arith) (omega arith) ∙ ap (λ ds. ds ++ codes "8") (decimal_digit 2 (omega arith))

pub the_line_of_a_token : refusal_line (r.Unexpected 9) ≡ codes "unexpected token at 9\n"
the_line_of_a_token = rw (decimal_digit 9 (omega arith)) refl

pub the_line_of_a_rule : refusal_line (r.Broken (record { rule = 2; at = 28 })) ≡ codes "rule C2 at 28\n"
the_line_of_a_rule = rw (two_eight, decimal_digit 2 (omega arith)) refl

pub the_lines_of_limits : refusal_line (r.TooDeep 9) ∷ refusal_line r.TooManySteps ∷ limit_source_line ∷ library_line ∷ disk_line ∷ limit_file_line 9 ∷ []
    ≡ codes "limit: nesting at 9\n" ∷ codes "limit: steps\n" ∷ codes "limit: source\n" ∷ codes "library fault\n" ∷ codes "disk fault\n" ∷ codes "limit: file 9\n" ∷ []
the_lines_of_limits = rw (decimal_digit 9 (omega arith)) refl

pub the_line_of_a_check : accepted_line ≡ codes "accepted\n"
the_line_of_a_check = refl

pub the_lines_of_faults : refusal_line (r.BadByte 9) ∷ refusal_line (r.NumberTooLarge 9) ∷ refusal_line (r.OpenComment 9) ∷ refusal_line (r.OpenText 9) ∷ []
    ≡ codes "bad byte at 9\n" ∷ codes "number too large at 9\n" ∷ codes "open comment at 9\n" ∷ codes "open text at 9\n" ∷ []
the_lines_of_faults = rw (decimal_digit 9 (omega arith)) refl

pub the_statuses :
    map refusal_status (r.BadByte 9 ∷ r.NumberTooLarge 9 ∷ r.OpenComment 9 ∷ r.OpenText 9 ∷ r.Unexpected 9 ∷ r.Broken (record { rule = 2; at = 28 }) ∷ r.TooDeep 9 ∷ r.TooManySteps ∷ [])
    ≡ 2 ∷ 2 ∷ 2 ∷ 2 ∷ 2 ∷ 3 ∷ 10 ∷ 10 ∷ []
the_statuses = refl

-- ---- what each status means

pub a_trap_is_for_the_text : IsOfText 4
a_trap_is_for_the_text = record { usage = omega arith; library = omega arith; sink = omega arith; disk = omega arith; memory = omega arith }

pub a_sink_fault_is_not : IsOfText 8 → ⊥
a_sink_fault_is_not h = h.sink refl

-- run, without a file, is no call
pub usage_is_told : TellsUsage (codes "run" ∷ []) 1
usage_is_told = record { told = λ e. no_file; only = λ none. inl refl }

pub no_other_status_tells_it : TellsUsage (codes "run" ∷ []) 0 → ⊥
no_other_status_tells_it h = neither (h.only no_file) where
  neither : (◌≡◌ {A = ℕ} 0 1) ⊎ (◌≡◌ {A = ℕ} 0 8) → ⊥
  neither (inl e) = omega (arith, e)
  neither (inr e) = omega (arith, e)

-- run x.ac is one
pub no_usage_of_a_call : TellsUsage (codes "run" ∷ codes "x.ac" ∷ []) 1 → ⊥
no_usage_of_a_call h = h.told refl (Does (t.Run 100000 tell.Report) (codes "x.ac")) run_a_file

pub another_status_of_a_call : TellsUsage (codes "run" ∷ codes "x.ac" ∷ []) 4
another_status_of_a_call = record { told = λ e. omega (arith, e); only = λ none. absurd (none (Does (t.Run 100000 tell.Report) (codes "x.ac")) run_a_file) }

-- ---- what was read and written

pub the_text_that_is_told : Gave (Some (codes "ab")) (codes "ab")
the_text_that_is_told = refl

pub another_text : Gave (Some (codes "ab")) (codes "a") → ⊥
another_text e = let n : 1 ≡ 2 = ap (λ (text : List ℕ). length text) e in omega (arith, n)

pub any_text_where_none_is_told : Gave None (codes "a")
any_text_where_none_is_told = tt

pub a_front_is_taken : TookFront (Some []) (Some (codes "a")) (codes "ab")
a_front_is_taken = record { front = codes "a"; rest = codes "b"; cut = refl; short = omega arith; taken = refl }

-- ---- the run of two.ac

-- the core printed 7, in one step and nine instructions
abbrev pub its_end : CoreEnd
its_end = core_end Finished false [] [] (record { steps = 1; turn = 1; output = codes "7\n"; past = []; todo = []; requests = 0 })

abbrev pub its_run : Ended
its_run = record { steps = 100; start = []; journals = journal [] ∷ journal [] ∷ []; cores = record { core = its_end; instructions = 9 } ∷ [] }

abbrev f : Function
f = record { name = codes "f"; is_async = true; gives_int = false; params = []; slots = 0; body = c.Print 0 (sum_value ∷ []) ∷ [] }

abbrev pub e : Entered
e = record { name = codes "f"; at = 0; params = []; words = 0 }

source_prints_seven : and_then (first_state two 0 f []) (moves (step two 100) 3) ≡ Over (Some its_end)
source_prints_seven = rw (prints, a_sum, finish_by two (c.Print 0 (sum_value ∷ [])) _ prints, decimal_digit 7 (omega arith)) refl where
  prints : out-Command (c.Print 0 (sum_value ∷ [])) ≡ Command-F.Print 0 (sum_value ∷ [])
  prints = form (c.Print 0 (sum_value ∷ [])) (Command-F.Print 0 (sum_value ∷ [])) (c.rolls-Print 0 (sum_value ∷ []))

pub code_prints_seven : and_then (first_flat two_parts 0 e []) (moves (exec two_parts 100) 10) ≡ Over (record { core = Some its_end; count = 9 })
code_prints_seven = rw (decimal_digit 7 (omega arith)) refl

pub it_replays : Replays two 0 100 [] (Some its_end)
it_replays = record {
  function = f;
  enters = record { here = record { name = codes "a"; entry = 0 }; core_is = refl; function_is = refl };
  ends = (3, sym source_prints_seven);
}

it_runs : Runs two_parts 0 100 [] (record { core = Some its_end; count = 9 })
it_runs = record { function = e; begins = record { entry = 0; entry_is = refl; function_is = refl }; comes = (10, sym code_prints_seven) }

its_core : (k : ℕ) (end : CoreEnd) → slice_get (its_end ∷ []) k ≡ Some end → CoreIsQuiet (owner_of []) (peer_of [] 1) (nothing_yet two) k end
its_core zero end h =
    let same : its_end ≡ end = cc in
    subst (CoreIsQuiet (owner_of []) (peer_of [] 1) (nothing_yet two) 0) same (record {
      stopped = refl;
      owns = λ idle. let no : false ≡ true = idle in cc;
      decides = λ idle. let no : false ≡ true = idle in cc;
    })
its_core (suc k) end h = let no : ◌≡◌ {A = Option CoreEnd} None (Some end) = h in cc

it_is_quiet : EndsQuiet two [] its_run.cores
it_is_quiet = record { core = its_core; worker = none } where
  none : (l : ℕ) → l < 1 → 0 ≤ l → has_front (link_at (nothing_yet two) l) ≡ false
  none zero lt le = refl
  none (suc l) lt le = refl

pub it_is_a_run : IsRunOf (resolved two_tree) 100 [] its_run
it_is_a_run = record {
  steps = refl;
  files = refl;
  every_core = refl;
  cores = (
    record {
      code = subst (λ (code : Parts). Runs code 0 100 [] (record { core = Some its_end; count = 9 })) two_is_compiled it_runs;
      source = subst (λ (p : Resolved). Replays p 0 100 [] (Some its_end)) (sym two_ac) it_replays;
    },
    refl,
  );
  in_order = (tt, (tt, tt));
  legal = tt;
  quiet = subst (λ (p : Resolved). EndsQuiet p [] its_run.cores) (sym two_ac) it_is_quiet;
}

-- ---- two.ac, from its text to its report

pub it_is_spelled : IsSpelled two_text two_tree
it_is_spelled = record { tokens = two_tokens; lexed = record { lexed = two_ac_lexed; only = two_ac_only }; tree = two_ac_parsed }

pub it_is_ready : IsReady two_text (t.Run 100 tell.Report) two_tree
it_is_ready = record { is_accepted = record { spelled = it_is_spelled; clean = two_is_clean }; within = omega arith }

-- one core may go 4,000,000 steps, and no more
pub as_many_steps_as_there_may_be : all_steps two_tree (t.Run 4000000 tell.Report) ≤ most_steps
as_many_steps_as_there_may_be = omega arith

pub one_step_too_many : most_steps < all_steps two_tree (t.Run 4000001 tell.Report)
one_step_too_many = omega arith

-- and a check of it none
pub no_steps_to_check : all_steps two_tree t.Check ≡ 0
no_steps_to_check = refl

-- ---- sources that are refused

-- 007 has a bad byte at its second digit, and no tokens
pub it_has_a_fault : HasFault (codes "007") (l.BadByte 1)
unfolding piece_at number_at
it_has_a_fault = record { lexed = a_nought_in_front; only = λ other d. lexes_only 9 0 (codes "007") (Err (l.BadByte 1)) other refl d }

abbrev fault_at : ℕ → Result (List Token) LexFault
fault_at at = Err (l.BadByte at)

same_fault : {a b : ℕ} → fault_at a ≡ fault_at b → a ≡ b
same_fault e = cc

pub it_has_no_other : HasFault (codes "007") (l.BadByte 0) → ⊥
it_has_no_other h = let e : 0 ≡ 1 = same_fault (it_has_a_fault.only (fault_at 0) h.lexed) in omega (arith, e)

pub its_fault_refuses_it : Refuses (codes "007") (t.Run 100 tell.Report) (r.BadByte 1)
its_fault_refuses_it = it_has_a_fault

pub it_has_no_tokens : (tokens : List Token) → HasTokens (codes "007") tokens → ⊥
it_has_no_tokens tokens h = no_tokens tokens h.lexed

pub nothing_is_spelled : (program : Program) → IsSpelled (codes "007") program → ⊥
nothing_is_spelled program h = it_has_no_tokens h.tokens h.lexed

-- a disk that tells nothing
abbrev pub no_disk : DiskTold
no_disk = record { held = None; bound = 0; is_ready = true; binds = None; faults = 0; earlier = 0 }

pub a_fault_calls_for_2 : CallsFor (codes "007") (t.Run 100 tell.Report) no_disk 2
a_fault_calls_for_2 = bad_token (l.BadByte 1) refl (omega arith) it_has_a_fault

-- core a f; lacks a parenthesis at its eighth byte
pub it_is_unexpected : IsUnexpected (codes "core a f;") 7
unfolding piece_at name_at word_of mark_of_one mark_of_two
it_is_unexpected = record {
  tokens = tokens_in (codes "core a f;");
  lexed = record { lexed = lexes 9 0 _ _ refl; only = λ other d. lexes_only 9 0 (codes "core a f;") (Ok (tokens_in (codes "core a f;"))) other refl d };
  unexpected = no_parenthesis;
}

pub an_unexpected_token_calls_for_2 : CallsFor (codes "core a f;") (t.Run 100 tell.Report) no_disk 2
an_unexpected_token_calls_for_2 = unexpected 7 refl (omega arith) it_is_unexpected

-- what a source spells is one program, whose tokens are neither unexpected nor too deep
abbrev found : List Token → Result (List Token) LexFault
found tokens = Ok tokens

same_tokens : {ts us : List Token} → found ts ≡ found us → ts ≡ us
same_tokens e = cc

one_program : (bytes : List ℕ) (ts : List Token) (tree program : Program) → HasTokens bytes ts → IsTree ts tree → IsSpelled bytes program → tree ≡ program
one_program bytes ts tree program lexed is s =
    is.only program s.tree.marks s.tree.spells (sym s.tree.split ∙ same_tokens (lexed.only (found s.tokens) s.lexed.lexed))

pub its_only_program : (program : Program) → IsSpelled two_text program → two_tree ≡ program
its_only_program program s = one_program two_text two_tokens two_tree program (record { lexed = two_ac_lexed; only = two_ac_only }) two_ac_parsed s

pub none_is_unexpected : (at : ℕ) → IsUnexpected two_text at → ⊥
none_is_unexpected at h =
    not_unexpected two_tokens two_tree (length two_text) at two_ac_parsed
    (subst (λ (ts : List Token). UnexpectedAt (length two_text) ts at) (same_tokens (two_ac_only (found h.tokens) h.lexed.lexed)) h.unexpected)

pub none_is_too_deep : (at : ℕ) → IsTooDeep two_text at → ⊥
none_is_too_deep at h =
    not_deep two_tokens two_tree at two_ac_parsed (subst (λ (ts : List Token). TooDeepAt ts at) (same_tokens (two_ac_only (found h.tokens) h.lexed.lexed)) h.deep)

-- the core alone reaches a function that calls none
pub reached_in : (items : List Item) → entries_of items ≡ Some 0 ∷ [] → all_calls items ≡ [] ∷ [] → AreReached items (row.ByOne 0 ∷ [])
reached_in items e c = subst (λ (z : List (List ℕ) × List (Option ℕ)). AreRows z.0 z.1 (row.ByOne 0 ∷ [])) (λ j. (sym c j, sym e j)) one_row

-- core a(f); async void f() { x = 1; } breaks rule 2 at its `x`
abbrev pub undeclared_text : List ℕ
undeclared_text = codes "core a(f); async void f() { x = 1; }"

abbrev pub undeclared_tree : Program
undeclared_tree = one_core (s.Assign 28 (expr.Name 28 (codes "x")) (expr.Number 32 (pos 1)) ∷ [])

undeclared_tokens : HasTokens undeclared_text (tokens_in undeclared_text)
unfolding piece_at name_at word_of number_at mark_of_one mark_of_two
undeclared_tokens = record { lexed = lexes 99 0 _ _ refl; only = λ other d. lexes_only 99 0 undeclared_text (Ok (tokens_in undeclared_text)) other refl d }

its_least : IsLeastBroken undeclared_tree.items 2 28
its_least = program_told undeclared_tree.items (row.ByOne 0 ∷ [])
    (reached_in undeclared_tree.items refl
    (rw (stmt_is _ (s.rolls-Assign 28 (expr.Name 28 (codes "x")) (expr.Number 32 (pos 1))), expr_is _ (expr.rolls-Name 28 (codes "x")), expr_is _ (expr.rolls-Number 32 (pos 1))) refl))
    (Some (record { rule = rule.NameIsDeclared; at = 28 })) (rw (stmt_is _ (s.rolls-Assign 28 (expr.Name 28 (codes "x")) (expr.Number 32 (pos 1))), expr_is _ (expr.rolls-Name 28 (codes "x"))) refl)

abbrev pub its_rule : BrokenRule
its_rule = record { rule = 2; at = 28 }

one_assignment : IsTree (tokens_in undeclared_text) undeclared_tree
unfolding piece_at name_at word_of number_at mark_of_one mark_of_two program_at item_at many_at stmt_at chain_at unary_at same_word same_mark
one_assignment = parsed_tree _ _ [] refl

pub it_breaks_a_rule : IsBroken undeclared_text its_rule
it_breaks_a_rule = record { program = undeclared_tree; spelled = record { tokens = tokens_in undeclared_text; lexed = undeclared_tokens; tree = one_assignment }; least = its_least }

pub a_broken_rule_calls_for_3 : CallsFor undeclared_text (t.Run 100 tell.Report) no_disk 3
a_broken_rule_calls_for_3 = broken its_rule refl (omega arith) it_breaks_a_rule

pub in_a_check_too : CallsFor undeclared_text t.Check no_disk 3
in_a_check_too = broken its_rule refl (omega arith) it_breaks_a_rule

pub it_is_not_accepted : (program : Program) → IsAccepted undeclared_text program → ⊥
it_is_not_accepted program h =
    let clean : BreaksNone undeclared_tree.items =
    subst (λ (p : Program). BreaksNone p.items) (sym (one_program undeclared_text _ undeclared_tree program undeclared_tokens one_assignment h.spelled)) h.clean in
    clean its_least.number 2 its_least.is

pub two_ac_breaks_no_rule : (broken_rule : BrokenRule) → IsBroken two_text broken_rule → ⊥
two_ac_breaks_no_rule broken_rule h =
    let least : IsLeastBroken two_tree.items broken_rule.rule broken_rule.at =
    subst (λ (p : Program). IsLeastBroken p.items broken_rule.rule broken_rule.at) (sym (its_only_program h.program h.spelled)) h.least in
    two_is_clean least.number broken_rule.rule least.is

-- two.ac with a step too many for its core, and with as many as there may be
pub too_many_steps : IsTooMany two_text (t.Run 4000001 tell.Report)
too_many_steps = record { program = two_tree; is_accepted = record { spelled = it_is_spelled; clean = two_is_clean }; over = one_step_too_many }

pub not_too_many_steps : IsTooMany two_text (t.Run 4000000 tell.Report) → ⊥
not_too_many_steps h =
    let over : most_steps < all_steps two_tree (t.Run 4000000 tell.Report) = subst (λ (p : Program). most_steps < all_steps p (t.Run 4000000 tell.Report)) (sym
    (its_only_program h.program h.is_accepted.spelled)) h.over in
    omega (arith, over)

pub too_many_steps_call_for_10 : CallsFor two_text (t.Run 4000001 tell.Report) no_disk 10
too_many_steps_call_for_10 = too_many refl (omega arith) too_many_steps

pub it_is_not_ready : IsReady two_text (t.Run 4000001 tell.Report) two_tree → ⊥
it_is_not_ready h = let le = h.within in omega (arith, le)

pub a_program_is_given : GivesReady two_text (t.Run 4000000 tell.Report) (Ok two_tree)
a_program_is_given = record { is_accepted = it_is_ready.is_accepted; within = omega arith }

pub not_where_it_is_refused : GivesReady two_text (t.Run 4000001 tell.Report) (Ok two_tree) → ⊥
not_where_it_is_refused = it_is_not_ready

pub its_refusal_is_given : GivesReady two_text (t.Run 4000001 tell.Report) (Err (stop.Refused r.TooManySteps))
its_refusal_is_given = too_many_steps

-- core a(f); async void f() { t: do { cancel t; } finish; } is ready too
abbrev pub cancelling_text : List ℕ
cancelling_text = codes "core a(f); async void f() { t: do { cancel t; } finish; }"

abbrev cancelled : Stmt
cancelled = s.Cancel 36 (codes "t")

abbrev pub cancelling_tree : Program
cancelling_tree = one_core (s.Do 28 (Some (codes "t")) (cancelled ∷ []) ∷ [])

a_cancel : IsTree (tokens_in cancelling_text) cancelling_tree
unfolding piece_at name_at word_of number_at mark_of_one mark_of_two program_at item_at many_at stmt_at chain_at unary_at same_word same_mark
a_cancel = parsed_tree _ _ [] refl

cancelling_tokens : HasTokens cancelling_text (tokens_in cancelling_text)
unfolding piece_at name_at word_of number_at mark_of_one mark_of_two
cancelling_tokens = record { lexed = lexes 99 0 _ _ refl; only = λ other d. lexes_only 99 0 cancelling_text (Ok (tokens_in cancelling_text)) other refl d }

a_cancel_breaks_none : BreaksNone cancelling_tree.items
a_cancel_breaks_none = program_told cancelling_tree.items (row.ByOne 0 ∷ [])
    (reached_in cancelling_tree.items refl (rw (stmt_is _ (s.rolls-Do 28 (Some (codes "t")) (cancelled ∷ [])), stmt_is _ (s.rolls-Cancel 36 (codes "t"))) refl)) None
    (rw (stmt_is _ (s.rolls-Do 28 (Some (codes "t")) (cancelled ∷ [])), stmt_is _ (s.rolls-Cancel 36 (codes "t"))) refl)

pub a_cancel_is_ready : IsReady cancelling_text (t.Run 100 tell.Report) cancelling_tree
a_cancel_is_ready = record {
  is_accepted = record { spelled = record { tokens = tokens_in cancelling_text; lexed = cancelling_tokens; tree = a_cancel }; clean = a_cancel_breaks_none };
  within = omega arith;
}

-- a source of one byte past the limit
pub it_is_not_short : (bytes : List ℕ) → length bytes ≡ 1048577 → IsShort bytes → ⊥
it_is_not_short bytes e le = omega (arith, e, le)

pub it_calls_for_10 : (bytes : List ℕ) → length bytes ≡ 1048577 → CallsFor bytes (t.Run 100 tell.Report) no_disk 10
it_calls_for_10 bytes e = over_long refl (omega (arith, e))

-- and one with a token that is too deep
pub a_deep_token_calls_for_10 : (bytes : List ℕ) (at : ℕ) → IsShort bytes → IsTooDeep bytes at → CallsFor bytes (t.Run 100 tell.Report) no_disk 10
a_deep_token_calls_for_10 bytes at short deep = too_deep at refl short deep

-- ---- a report

abbrev pub its_report : List ℕ
its_report = codes "a: finished after 1 steps, 9 instructions\n7\n"

pub it_is_reported : report_of (names_of two_tree) its_run.cores ≡ its_report
it_is_reported = rw (decimal_digit 1 (omega arith), decimal_digit 9 (omega arith)) refl

pub it_finished : status_of its_run.cores ≡ 0
it_finished = refl

-- all that is made of its text
abbrev pub its_doing : Done
its_doing = record { run = Some its_run; text = its_report; status = record { number = 0 } }

-- it has no files, so none was bound
no_files : AreStarted [] [] no_disk no_disk
no_files = record { well = refl; bound = refl; is_ready = refl; asked = tt; count = refl; short = λ k d less. absurd (omega (arith, less)); told = tt }

-- nor was anything done in its run
nothing_done : deeds_of (resolved two_tree) its_run.journals ≡ []
nothing_done = refl

its_disk_is_left : LeavesDisk (resolved two_tree) [] its_run.journals no_disk no_disk
its_disk_is_left = record {
  counted = record { calls = tt; failures = subst (λ (ds : List Deed). raised 0 (failures_among 0 ds) ≤ 0) (sym nothing_done) (omega arith); none = λ e. refl };
  held = tt;
}

its_reporting : IsReported two_tree 100 tell.Report no_disk no_disk its_doing
its_reporting = record {
  start = [];
  between = no_disk;
  files = no_files;
  left = its_disk_is_left;
  named = subst (λ (ds : List Deed). AreNamed 0 ds) (sym nothing_done) tt;
  ended = its_run;
  kept = refl;
  is_run = it_is_a_run;
  tells = (refl, sym it_is_reported);
  is_traced = tt;
}

pub it_is_done : IsDueOf two_text (t.Run 100 tell.Report) no_disk no_disk 0 its_report (Some its_run)
it_is_done = ready two_tree it_is_ready (is_made its_doing refl refl refl its_reporting)

-- ac run two.ac --steps=100, with a library that tells the text and was opened once
abbrev pub its_words : List (List ℕ)
its_words = codes "run" ∷ codes "two.ac" ∷ codes "--steps=100" ∷ []

abbrev pub told_at : Bool → Option (List ℕ)
told_at true = Some two_text
told_at false = None

-- before the call: nothing was opened; after it: just two.ac was, and all of it was read
abbrev pub its_library : LibraryTold
its_library = record { text_at = λ name. told_at (bytes_eq name (codes "two.ac")); is_open = false; left = Some []; opens = Some 0; reads = Some 0; names = Some []; faults = 0 }

abbrev pub its_library_after : LibraryTold
its_library_after = record its_library { is_open = true; opens = Some 1; reads = Some 2; names = Some (codes "two.ac" ∷ []) }

hundred : IsBound (codes "100") 100
hundred = record {
  number = record { some = omega arith; few = omega arith; digits = (omega arith, (omega arith, (omega arith, tt))); first = λ e. omega (arith, e); value = refl };
  least = omega arith;
  most = omega arith;
}

pub its_call : IsCall its_words (Does (t.Run 100 tell.Report) (codes "two.ac"))
its_call = record {
  name = _;
  operands = _;
  given = Some 100;
  command = record { rest = _; form = refl; arguments = operand (λ e. cc) (bound_joined refl hundred no_more) };
  stands = (refl, (refl, refl));
}

pub its_reading : IsRead its_library its_library_after (codes "two.ac")
its_reading = record {
  just = record { once = refl; named = refl };
  well = refl;
  reads = record { taken = two_text; consumed = sym (append-nil two_text); few = omega arith };
}

pub its_whole_reading : IsReadWhole its_library its_library_after (codes "two.ac") two_text
its_whole_reading = record { read = its_reading; few = omega arith }

-- not with more reads than its bytes and one more
pub it_is_read_too_often : IsRead its_library (record its_library_after { reads = Some 999 }) (codes "two.ac") → ⊥
it_is_read_too_often h =
    let all : length two_text ≡ length (h.reads.taken ++ []) = ap (λ (bytes : List ℕ). length bytes) h.reads.consumed in
    let few = h.reads.few in omega (arith, all, few, length-append h.reads.taken [])

pub nor_is_its_whole : IsReadWhole its_library (record its_library_after { reads = Some 999 }) (codes "two.ac") two_text → ⊥
nor_is_its_whole h = let few = h.few in omega (arith, few)

same_count : {n m : ℕ} → Some n ≡ Some m → n ≡ m
same_count e = cc

-- its opening failed; but no read does so behind its end
abbrev pub not_opened : LibraryTold
not_opened = record its_library { opens = Some 1; names = Some (codes "two.ac" ∷ []); faults = 1 }

pub it_was_tried : IsTried its_library not_opened (codes "two.ac")
it_was_tried = record { just = record { once = refl; named = refl }; reads = inl refl }

pub it_was_not_read_behind_its_end : IsTried its_library (record not_opened { reads = Some 999 }) (codes "two.ac") → ⊥
it_was_not_read_behind_its_end h = by h.reads where
  by : ((record not_opened { reads = Some 999 }).reads ≡ its_library.reads) ⊎ TookByReads its_library (record not_opened { reads = Some 999 }) (codes "two.ac") → ⊥
  by (inl e) = let n : 999 ≡ 0 = same_count e in omega (arith, n)
  by (inr k) =
      let all : length two_text ≡ length (k.taken ++ []) = ap (λ (bytes : List ℕ). length bytes) k.consumed in
      let few = k.few in omega (arith, all, few, length-append k.taken [])

pub it_is_due_of_its_file : IsDueOfFile (codes "two.ac") (t.Run 100 tell.Report) its_library its_library_after no_disk no_disk 0 its_report (Some its_run)
it_is_due_of_its_file = source two_text its_whole_reading refl (omega arith) it_is_done

-- where it is not opened
pub a_library_fault_is_due : IsDueOfFile (codes "two.ac") (t.Run 100 tell.Report) its_library not_opened no_disk no_disk 7 library_line None
a_library_fault_is_due = library_fault refl refl refl it_was_tried (omega arith) refl

-- and where it has one byte too many
abbrev long_library : List ℕ → LibraryTold
long_library bytes = record its_library { text_at = λ name. Some bytes }

abbrev long_library_after : List ℕ → LibraryTold
long_library_after bytes = record (long_library bytes) { is_open = true; opens = Some 1; reads = Some 257; names = Some (codes "x" ∷ []) }

pub a_long_source_is_due : (bytes : List ℕ) → length bytes ≡ 1048577
    → IsDueOfFile (codes "x") (t.Run 100 tell.Report) (long_library bytes) (long_library_after bytes) no_disk no_disk 10 limit_source_line None
a_long_source_is_due bytes e = too_long refl refl refl
    (record { just = record { once = refl; named = refl }; well = refl; reads = record { taken = bytes; consumed = sym (append-nil bytes); few = omega (arith, e) } })
    (record { taken = bytes; count = omega (arith, e); consumed = sym (append-nil bytes) })
    refl

pub it_is_not_at_the_limit : (bytes : List ℕ) → length bytes ≡ 1048576 → TookBytes (Some bytes) (Some []) 1048577 → ⊥
it_is_not_at_the_limit bytes e h =
    let all : length bytes ≡ length (h.taken ++ []) = ap (λ (it : List ℕ). length it) h.consumed in
    let count = h.count in omega (arith, e, all, count, length-append h.taken [])

pub it_is_due : IsDue its_words its_library its_library_after no_disk no_disk 0 its_report (Some its_run)
it_is_due = call (t.Run 100 tell.Report) (codes "two.ac") its_call it_is_due_of_its_file

abbrev pub its_sink : SinkTold
its_sink = record { held = Some []; faults = 0 }

-- a sink that took the whole, and one that failed behind the first byte
abbrev pub sink_with : List ℕ → ℕ → SinkTold
sink_with held faults = record { held = Some held; faults = faults }

pub it_is_taken : TookWhole (IsDue its_words its_library its_library_after no_disk no_disk) 0 (Some its_run) its_sink (sink_with its_report 0)
it_is_taken = record { text = its_report; due = it_is_due; taken = refl }

pub its_first_byte_is_taken : TookPart (IsDue its_words its_library its_library_after no_disk no_disk) (Some its_run) its_sink (sink_with (codes "a") 1)
its_first_byte_is_taken = record {
  status = 0;
  text = its_report;
  due = it_is_due;
  taken = record { front = codes "a"; rest = codes ": finished after 1 steps, 9 instructions\n7\n"; cut = refl; short = omega arith; taken = refl };
}

-- the status says so, and no other does
pub a_fault_of_the_sink : TellsSink its_sink (sink_with (codes "a") 1) 8
a_fault_of_the_sink = record { told = λ e. omega arith; only = λ n. absurd (n refl) }

pub no_fault_of_the_sink : TellsSink its_sink (sink_with its_report 0) 8 → ⊥
no_fault_of_the_sink h = let le = h.told refl in omega (arith, le)

pub a_fault_that_is_not_told : TellsSink its_sink (sink_with (codes "a") 1) 0 → ⊥
a_fault_that_is_not_told h = let e = h.only (omega arith) in omega (arith, e)

-- memory was refused: two.ac was opened, nothing is written
pub memory_is_refused : GaveUp its_words its_library its_library_after no_disk no_disk None its_sink its_sink
memory_is_refused = record { cut = of_task (t.Run 100 tell.Report) (codes "two.ac") its_call its_reading (alone refl); no_run = refl; nothing = refl }

-- words that are no call are not cut short
pub no_call_is_cut_short : IsCutShort (codes "run" ∷ []) its_library its_library_after no_disk no_disk → ⊥
no_call_is_cut_short (of_task task file c r l) = no_file (Does task file) c
no_call_is_cut_short (of_audit file trace c r a) = no_file (Audits file trace) c
no_call_is_cut_short (of_load turns steps c a l) = no_file (Loads turns steps) c

-- the usage line is due of them, and of no call
pub usage_is_due : IsDue (codes "run" ∷ []) its_library its_library no_disk no_disk 1 usage_line None
usage_is_due = usage refl refl refl no_file refl refl

pub no_report_is_due : (run : Option Ended) → IsDue (codes "run" ∷ []) its_library its_library_after no_disk no_disk 0 its_report run → ⊥
no_report_is_due run (usage n x r none s a) = omega (arith, n)
no_report_is_due run (call task file c due) = no_file (Does task file) c
no_report_is_due run (audit file trace c r a due) = no_file (Audits file trace) c
no_report_is_due run (load turns steps c a due) = no_file (Loads turns steps) c

-- where the text that is due has two bytes, one is not the whole of it, and both are not a part
pub no_more_is_taken : (Due : ℕ → List ℕ → Option Ended → Type 0) → ((text : List ℕ) → Due 0 text None → length text ≡ 2)
    → TookWhole Due 0 None its_sink (sink_with (codes "a") 0) → ⊥
no_more_is_taken Due two h =
    let long = two h.text h.due in
    let taken : 1 ≡ length h.text = ap (λ (bytes : List ℕ). length bytes) h.taken in omega (arith, long, taken)

pub no_whole_is_a_part : (Due : ℕ → List ℕ → Option Ended → Type 0) → ((status : ℕ) (text : List ℕ) → Due status text None → length text ≡ 2)
    → TookPart Due None its_sink (sink_with (codes "ab") 1) → ⊥
no_whole_is_a_part Due two h =
    let long = two h.status h.text h.due in
    let all : length h.text ≡ length (h.taken.front ++ h.taken.rest) = ap (λ (bytes : List ℕ). length bytes) h.taken.cut in
    let taken : 2 ≡ length h.taken.front = ap (λ (bytes : List ℕ). length bytes) h.taken.taken in
    let some = h.taken.short in omega (arith, long, all, taken, some, length-append h.taken.front h.taken.rest)

-- and where another name was opened, no call has this meaning
pub another_name_is_opened : IsRead its_library (record its_library_after { names = Some (codes "" ∷ []) }) (codes "two.ac") → ⊥
another_name_is_opened h = let e = h.just.named in cc

pub a_fault_of_the_library : TellsLibrary its_library (record its_library_after { faults = 1 }) 7
a_fault_of_the_library = record { told = λ e. omega arith; only = λ n. absurd (n refl) }

pub no_fault_of_the_library : TellsLibrary its_library (record its_library_after { faults = 1 }) 0 → ⊥
no_fault_of_the_library h = let e = h.only (omega arith) (omega arith) in omega (arith, e)

-- it asks nothing of a disk
pub its_reads_are_served : AreServed no_disk two_tree [] []
its_reads_are_served = tt

pub its_status_is_called_for : CallsFor two_text (t.Run 100 tell.Report) no_disk 0
its_status_is_called_for = made two_tree (omega arith) it_is_ready tt (record {
  start = [];
  each_file = refl;
  are_held = tt;
  ended = its_run;
  is_run = it_is_a_run;
  are_served = tt;
  line = its_report;
  tells = (refl, sym it_is_reported);
})

-- it has no files, so they are known
pub its_files_are_known : KnowsFiles two_text (t.Run 100 tell.Report) no_disk
its_files_are_known program k some =
    let e = ap (λ (p : Program). length (needed (t.Run 100 tell.Report) p)) (its_only_program program k.is_accepted.spelled) in absurd (omega (arith, some, e))

pub it_calls_for_no_other : CallsFor two_text (t.Run 100 tell.Report) no_disk 2 → ⊥
it_calls_for_no_other h = other (calls_both two_text (t.Run 100 tell.Report) no_disk its_files_are_known 0 2 its_status_is_called_for h) where
  other : (◌≡◌ {A = ℕ} 2 0) ⊎ AreOfRuns two_text (t.Run 100 tell.Report) no_disk 0 2 → ⊥
  other (inl e) = omega (arith, e)
  other (inr r) = apart_made 2 (inl refl) (λ e. omega (arith, e)) (told_status r.telling r.program r.other.ended 2 r.other.line r.other.tells)

-- ---- what is none of these

-- a run with another bound
pub not_with_another_bound : IsRunOf (resolved two_tree) 99 [] its_run → ⊥
not_with_another_bound h = let e = h.steps in omega (arith, e)

-- its one core has a link for requests, on which nothing was offered
pub before_its_first_entry : nothing_yet (resolved two_tree) ≡ start (16 ∷ []) [] 1
before_its_first_entry = ap (λ (p : Resolved). start (code_of p).capacities (code_of p).widths (length p.cores)) two_ac

-- nor is it a run where the worker has an entry that only a core may make
pub not_with_an_entry_of_the_worker : IsRunOf (resolved two_tree) 100 [] (record its_run { journals = journal [] ∷ journal (stamped 1 0 ∷ []) ∷ [] }) → ⊥
not_with_an_entry_of_the_worker h =
    let e : fits (start (16 ∷ []) [] 1) (of_party 1 (stamped 1 0)) ≡ true =
    subst (λ (past : Past). fits past (of_party 1 (stamped 1 0)) ≡ true) before_its_first_entry h.legal.0 in
    cc

-- a core takes messages and passes them over, and the worker does so with requests
pub a_core_takes_no_request : makes true false false (event.Got 0 0 (pos 5 ∷ [])) ∷ makes true false true (event.Got 1 0 (pos 5 ∷ [])) ∷ [] ≡ true ∷ false ∷ []
a_core_takes_no_request = refl

pub the_worker_passes_requests_over : makes false true true (event.Pass 1 0) ∷ makes true false true (event.Pass 1 0) ∷ [] ≡ true ∷ false ∷ []
the_worker_passes_requests_over = refl

-- its core cannot have finished and trapped
pub not_with_another_run : (program : Program) → IsReported program 100 tell.Report no_disk no_disk (record its_doing { status = record { number = 4 } }) → ⊥
not_with_another_run program h = other h.ended h.kept h.tells.0 where
  same_run : {a b : Ended} → Some a ≡ Some b → a ≡ b
  same_run e = cc

  other : (ended : Ended) → Some its_run ≡ Some ended → 4 ≡ status_of ended.cores → ⊥
  other ended e h = let n : 4 ≡ 0 = h ∙ ap (λ (x : Ended). status_of x.cores) (sym (same_run e)) in omega (arith, n)

pub no_run_is_kept_without_memory : GaveUp its_words its_library its_library_after no_disk no_disk (Some its_run) its_sink its_sink → ⊥
no_run_is_kept_without_memory h = let e = h.no_run in cc

pub a_call_is_one : IsNoCall its_words → ⊥
a_call_is_one none = none (Does (t.Run 100 tell.Report) (codes "two.ac")) its_call

pub the_whole_is_no_front : TookFront (Some []) (Some (codes "ab")) (codes "ab") → ⊥
the_whole_is_no_front h =
    let all : 2 ≡ length (h.front ++ h.rest) = ap (λ (bytes : List ℕ). length bytes) h.cut in
    let taken : 2 ≡ length h.front = ap (λ (bytes : List ℕ). length bytes) h.taken in
    let some = h.short in omega (arith, all, taken, some, length-append h.front h.rest)

pub two_bytes_are_taken : TookBytes (Some (codes "abc")) (Some (codes "c")) 2
two_bytes_are_taken = record { taken = codes "ab"; count = refl; consumed = refl }

pub three_bytes_are_not : TookBytes (Some (codes "abc")) (Some (codes "c")) 3 → ⊥
three_bytes_are_not h =
    let all : 3 ≡ length (h.taken ++ codes "c") = ap (λ (bytes : List ℕ). length bytes) h.consumed in
    let count = h.count in omega (arith, all, count, length-append h.taken (codes "c"))
