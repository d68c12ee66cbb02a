-- A program of two cores with a channel between them, from its text to a run: the text is read by computing, and so are its rules, its
-- code and the replay of the journals.
use Rattle.std.proofs.Common.{◌≡◌, refl, subst, ℕ, zero, suc, ◌<◌, ◌≤◌, pos, List, [], ◌∷◌, codes, Option, None, Some, Ok, true, false, arith}
use Rattle.std.specs.Prelude.{slice_get}
use Rattle.ac_base.specs.declared.ends.EndWord.TheVariants.{Finished}
use Rattle.ac_base.specs.declared.ends.CoreEnd.{CoreEnd}
use Rattle.ac_base.specs.declared.ends.MachineEnd.{MachineEnd}
use Rattle.ac_tree.specs.declared.item.Item.TheVariants as item
use Rattle.ac_tree.specs.declared.item.Program.{Program}
use Rattle.ac_lexer.specs.inner.Reading.{piece_at, name_at, word_of, number_at, mark_of_one, mark_of_two}
use Rattle.ac_lexer.proofs.Lexed.{lexes, lexes_only, tokens_in}
use Rattle.reading_laws.specs.Letters.{same_word, same_mark}
use Rattle.reading_laws.specs.Readers.{many_at}
use Rattle.ac_expressions.specs.Reads.{chain_at, unary_at}
use Rattle.ac_parser.specs.inner.ReadsStatements.{stmt_at}
use Rattle.ac_parser.specs.inner.ReadsItems.{item_at, program_at}
use Rattle.ac_parser.specs.Places.{IsTree}
use Rattle.ac_parser.proofs.Answered.{parsed_tree}
use Rattle.ac_reach.specs.declared.reached.Reached.{Reached}
use Rattle.ac_reach.specs.declared.reached.Reached.TheVariants as row
use Rattle.ac_reach.specs.Reached.{is_entry, IsReachedBy, AreRows}
use Rattle.ac_types.specs.Reached.{BreaksNone}
use Rattle.ac_types.proofs.Judging.{program_told}
use Rattle.ac_commands.specs.declared.program.Function.{Function}
use Rattle.ac_resolve.specs.Resolution.{resolved}
use Rattle.core_state.specs.Shared.{core_end}
use Rattle.stack_code.specs.declared.parts.Entered.{Entered}
use Rattle.ac_translation.specs.Translation.{code_of}
use Rattle.ac_links.specs.AtRest.{has_front}
use Rattle.ac_history.specs.History.{link_at}
use Rattle.ac_history.specs.Quiet.{CoreIsQuiet}
use Rattle.program_run.specs.Parties.{owner_of, peer_of}
use Rattle.program_run.specs.declared.ended.Ended.{Ended}
use Rattle.program_run.specs.Run.{nothing_yet, IsCoreRun, IsRunOf}
use Rattle.ac_words.specs.declared.task.Task.TheVariants as t
use Rattle.ac_words.specs.declared.task.Telling.TheVariants as tell
use Rattle.program_reading.specs.Source.{HasTokens, IsAccepted, IsReady}
use Rattle.ac_program.specs.Headline.{HasRun, AreOfRuns}
use Rattle.ac_program.proofs.Examples.{no_disk}
use Rattle.ac_program.proofs.Examples.{journal}

-- ---- its text

abbrev pub linked_text : List ℕ
linked_text = codes "core a(f); core b(f); channel c(a, b, 1); async void f() {}"

abbrev pub linked_tree : Program
linked_tree = record {
  items = item.Core 0 (codes "a") (codes "f") ∷ item.Core 11 (codes "b") (codes "f") ∷ item.Channel 22 (codes "c") (codes "a") (codes "b") (pos 1)
      ∷ item.Function (record { at = 42; is_async = true; gives_int = false; name = codes "f"; params = []; body = [] }) ∷ [];
}

its_tree : IsTree (tokens_in linked_text) linked_tree
unfolding piece_at name_at word_of number_at mark_of_one mark_of_two program_at item_at many_at stmt_at chain_at unary_at same_word same_mark
its_tree = parsed_tree _ _ [] refl

its_tokens : HasTokens linked_text (tokens_in linked_text)
unfolding piece_at name_at word_of number_at mark_of_one mark_of_two
its_tokens = record { lexed = lexes 99 0 _ _ refl; only = λ other d. lexes_only 99 0 linked_text (Ok (tokens_in linked_text)) other refl d }

-- both cores reach its function
zero_is_not_one : ◌≡◌ {A = ℕ} 0 1 → ⊥
zero_is_not_one e = omega (arith, e)

its_rows : AreRows ([] ∷ []) (Some 0 ∷ Some 0 ∷ []) (row.BySeveral ∷ [])
its_rows = record { count = refl; each = each } where
  each : (function : ℕ) (found : Reached) → slice_get (row.BySeveral ∷ []) function ≡ Some found → IsReachedBy ([] ∷ []) (Some 0 ∷ Some 0 ∷ []) function found
  each zero row.ByNone e = cc
  each zero (row.ByOne k) e = cc
  each zero row.BySeveral e = record { one = 0; other = 1; differ = zero_is_not_one; one_does = is_entry 0 refl; other_does = is_entry 0 refl }
  each (suc function) found e = cc

it_is_clean : BreaksNone linked_tree.items
it_is_clean = program_told linked_tree.items (row.BySeveral ∷ []) its_rows None refl

it_is_accepted : IsAccepted linked_text linked_tree
it_is_accepted = record { spelled = record { tokens = tokens_in linked_text; lexed = its_tokens; tree = its_tree }; clean = it_is_clean }

pub it_is_ready : IsReady linked_text (t.Run 100 tell.Report) linked_tree
it_is_ready = record { is_accepted = it_is_accepted; within = omega arith }

-- ---- its run: both cores finish at once, and no message is sent

abbrev pub its_end : MachineEnd
its_end = record { core = core_end Finished false [] [] (record { steps = 0; turn = 1; output = []; past = []; todo = []; requests = 1 }); instructions = 2 }

abbrev pub its_run : Ended
its_run = record { steps = 100; start = []; journals = journal [] ∷ journal [] ∷ journal [] ∷ []; cores = its_end ∷ its_end ∷ [] }

abbrev f : Function
f = record { name = codes "f"; is_async = true; gives_int = false; params = []; slots = 0; body = [] }

abbrev e : Entered
e = record { name = codes "f"; at = 0; params = []; words = 0 }

pub the_first_core : IsCoreRun (resolved linked_tree) 0 100 (journal []) its_end
the_first_core = record {
  code = record { function = e; begins = record { entry = 0; entry_is = refl; function_is = refl }; comes = (9, refl) };
  source = record { function = f; enters = record { here = record { name = codes "a"; entry = 0 }; core_is = refl; function_is = refl }; ends = (9, refl) };
}

pub the_second_core : IsCoreRun (resolved linked_tree) 1 100 (journal []) its_end
the_second_core = record {
  code = record { function = e; begins = record { entry = 0; entry_is = refl; function_is = refl }; comes = (9, refl) };
  source = record { function = f; enters = record { here = record { name = codes "b"; entry = 0 }; core_is = refl; function_is = refl }; ends = (9, refl) };
}

abbrev owner : ℕ → ℕ
owner = owner_of (code_of (resolved linked_tree)).ends

abbrev peer : ℕ → ℕ
peer = peer_of (code_of (resolved linked_tree)).ends 2

finished : (k : ℕ) → CoreIsQuiet owner peer (nothing_yet (resolved linked_tree)) k its_end.core
finished k = record {
  stopped = refl;
  owns = λ idle. let no : false ≡ true = idle in cc;
  decides = λ idle. let no : false ≡ true = idle in cc;
}

each_core : (k : ℕ) (end : CoreEnd) → slice_get (its_end.core ∷ its_end.core ∷ []) k ≡ Some end → CoreIsQuiet owner peer (nothing_yet (resolved linked_tree)) k end
each_core zero end h = let same : its_end.core ≡ end = cc in subst (CoreIsQuiet owner peer (nothing_yet (resolved linked_tree)) 0) same (finished 0)
each_core (suc zero) end h = let same : its_end.core ≡ end = cc in subst (CoreIsQuiet owner peer (nothing_yet (resolved linked_tree)) 1) same (finished 1)
each_core (suc (suc k)) end h = let no : ◌≡◌ {A = Option CoreEnd} None (Some end) = h in cc

nothing_offered : (l : ℕ) → l < 3 → 1 ≤ l → has_front (link_at (nothing_yet (resolved linked_tree)) l) ≡ false
nothing_offered zero lt le = refl
nothing_offered (suc zero) lt le = refl
nothing_offered (suc (suc zero)) lt le = refl
nothing_offered (suc (suc (suc l))) lt le = refl

pub it_is_a_run : IsRunOf (resolved linked_tree) 100 [] its_run
it_is_a_run = record {
  steps = refl;
  files = refl;
  every_core = refl;
  cores = (the_first_core, (the_second_core, refl));
  in_order = (tt, (tt, (tt, tt)));
  legal = tt;
  quiet = record { core = each_core; worker = nothing_offered };
}

pub its_run_gives_0 : HasRun linked_tree 100 tell.Report no_disk 0
its_run_gives_0 = record { start = []; each_file = refl; are_held = tt; ended = its_run; is_run = it_is_a_run; are_served = tt; line = _; tells = (refl, refl) }

-- the program has a channel, so another of its runs might have another status; this one is that of two of its runs
pub its_statuses : AreOfRuns linked_text (t.Run 100 tell.Report) no_disk 0 0
its_statuses = record {
  steps = 100;
  telling = tell.Report;
  program = linked_tree;
  is_run = refl;
  is_ready = it_is_ready;
  meets = omega arith;
  one = its_run_gives_0;
  other = its_run_gives_0;
}
