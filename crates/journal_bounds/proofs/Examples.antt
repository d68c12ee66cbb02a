-- How many calls and operations small programs have, and how few entries and how small stamps their runs.
-- The counts hold by computing; the bounds take the laws as hypotheses.
use Rattle.std.proofs.Common.{◌≡◌, refl, sym, ap, ◌∙◌, ℕ, zero, suc, ◌+◌, ◌*◌, ◌≤◌, max, List, [], ◌∷◌, length, Some, None, true, pos, codes, subst, arith}
use Rattle.std.specs.Prelude.{ℤ}
use Rattle.std.specs.List.{AllByRecursion}
use Rattle.ac_base.specs.declared.ends.EndWord.TheVariants.{Stalled}
use Rattle.ac_base.specs.declared.ends.CoreEnd.{CoreEnd}
use Rattle.ac_base.specs.declared.ends.Phase.TheVariants as phase
use Rattle.ac_base.specs.declared.entry.Entry.{Entry}
use Rattle.ac_base.specs.declared.entry.Stamped.{Stamped}
use Rattle.ac_base.specs.declared.entry.Event.TheVariants.{Offer, Withdraw, Pass}
use Rattle.ac_base.specs.declared.entry.Payload.TheVariants.{Int}
use Rattle.ac_tree.specs.declared.expr.BinaryOp.TheVariants as b
use Rattle.ac_commands.specs.declared.value.Action.{Action}
use Rattle.ac_commands.specs.declared.value.Action.TheVariants.{Send}
use Rattle.ac_commands.specs.declared.value.Value.{Value, fold-roll-Value}
use Rattle.ac_commands.specs.declared.value.Value.TheVariants as v
use Rattle.ac_commands.specs.declared.value.Value.TheOpen.{Value-F}
use Rattle.ac_commands.specs.declared.command.Command.{out-Command, fold-roll-Command}
use Rattle.ac_commands.specs.declared.command.Command.TheVariants as c
use Rattle.ac_commands.specs.declared.command.Command.TheOpen.{Command-F}
use Rattle.work_item.specs.Store.{Store}
use Rattle.core_state.specs.Moves.{Over}
use Rattle.core_state.specs.Frames.{first_frame}
use Rattle.ac_semantics.specs.Evaluation.{Acting, Context, Stops}
use Rattle.ac_semantics.proofs.Forms.{number_goes, act_goes}
use Rattle.ac_semantics.proofs.Examples.{number, value, function, form}
use Rattle.ac_semantics.proofs.PartExamples.{int}
use Rattle.ac_semantics.proofs.OperationExamples.{sends_five, sends, two_cores, after, taken, it_is_an_end_of_the_core}
use Rattle.ac_history.specs.Merged.{merged}
use Rattle.ac_translation.specs.Pieces.{Piece}
use Rattle.ac_translation.specs.Translation as code
use Rattle.ac_translation.specs.Translation.{value_code, command_code, no_exits, code_of}
use Rattle.ac_translation.proofs.Codes.{number_code, act_code}
use Rattle.ac_translation.proofs.Sized.{functions_sized}
use Rattle.journal_bounds.specs.Actions.{total, greatest, value_step, link_step, actions_in, actions_of, most_of_some, most_within, command_step, most_in, most_of, most_in_function, most_actions}
use Rattle.journal_bounds.specs.Passes.{pass_of, passes_in}
use Rattle.journal_bounds.specs.Laws.{EntriesAreFew, AllReplay, IsShortHistory, HistoriesAreShort, StampsAreSmall, ActionsAreFew}

-- ---- by the parts of an expression and of a statement

pub sums_and_maxima : total (1 ∷ 2 ∷ 3 ∷ []) ∷ greatest (1 ∷ 3 ∷ 2 ∷ []) ∷ most_of_some (Some (4 ∷ [])) ∷ most_of_some None ∷ [] ≡ 6 ∷ 3 ∷ 4 ∷ 0 ∷ []
sums_and_maxima = refl

-- of parts with one, two and three, a chain has all, and an operation one more
pub of_expressions : value_step (Value-F.Chain 1 (2 ∷ 3 ∷ [])) ∷ value_step (Value-F.Act (Send 0) (2 ∷ [])) ∷ value_step (Value-F.Number (pos 7)) ∷ link_step
    (record { op = b.Add; operand = 3 }) ∷ []
    ≡ 6 ∷ 3 ∷ 0 ∷ 3 ∷ []
of_expressions = refl

-- of statements within it, the one with the most counts
pub of_statements_within : most_within (Command-F.If (number 1) (1 ∷ 2 ∷ []) (Some (3 ∷ []))) ∷ most_within (Command-F.For None (2 ∷ []) (1 ∷ [])) ∷ most_within
    (Command-F.Do 0 (1 ∷ [])) ∷ most_within Command-F.Yield ∷ []
    ≡ 3 ∷ 2 ∷ 1 ∷ 0 ∷ []
of_statements_within = refl

pub of_a_loop_without_a_test : command_step (Command-F.For None (2 ∷ []) (1 ∷ [])) ≡ 2
of_a_loop_without_a_test = refl

-- ---- entries

abbrev passing : Entry
passing = record { stamp = 7; turn = 2; event = Pass 1 0 }

abbrev withdrawing : Entry
withdrawing = record { stamp = 5; turn = 2; event = Withdraw 0 0 }

pub one_offer_is_passed_over : (pass_of (Pass 1 0) ≡ 1) × (pass_of (Withdraw 1 0) ≡ 0) × (passes_in (withdrawing ∷ passing ∷ withdrawing ∷ []) ≡ 1)
one_offer_is_passed_over = (refl, refl, refl)

-- ---- a program that sends once

number_has : (n : ℤ) → actions_in (v.Number n) ≡ 0
number_has n = ap actions_in (sym (v.rolls-Number n)) ∙ fold-roll-Value ℕ ℕ value_step link_step (Value-F.Number n)

act_has : (action : Action) (xs : List Value) → actions_in (v.Act action xs) ≡ 1 + actions_of xs
act_has action xs = ap actions_in (sym (v.rolls-Act action xs)) ∙ fold-roll-Value ℕ ℕ value_step link_step (Value-F.Act action xs)

run_has : (x : Value) → most_in (c.Run x) ≡ max (actions_of (x ∷ [])) 0
run_has x = ap most_in (sym (c.rolls-Run x)) ∙ fold-roll-Command ℕ command_step (Command-F.Run x)

pub a_send_is_one : actions_in sends_five ≡ 1
a_send_is_one = simp (act_has, number_has)

pub its_statement_has_one : most_in sends ≡ 1
its_statement_has_one = run_has sends_five ∙ ap (λ n. max (n + 0) 0) a_send_is_one

pub its_program_has_one : most_actions two_cores ≡ 1
its_program_has_one = ap (λ n. max (max n 0) (max 0 0)) its_statement_has_one

-- its code has six instructions for the function that sends, and two for the other
run_code : (x : Value) → command_code (c.Run x) ≡ code.command_step (Command-F.Run x)
run_code x = ap command_code (sym (c.rolls-Run x)) ∙ fold-roll-Command Piece code.command_step (Command-F.Run x)

sent_by_two : (value_code sends_five).size ≡ 2
sent_by_two = simp (act_code, number_code)

its_code_has_eight : length (code_of two_cores).instrs ≡ 8
its_code_has_eight = (functions_sized two_cores.functions).sized no_exits 0 ∙ ap (λ (p : Piece). ((p.size + 0) + 2) + (2 + 0)) (run_code sends_five)
    ∙ ap (λ n. (((1 + (n + 1)) + 0) + 2) + (2 + 0)) sent_by_two

pub its_action_is_among_them : ActionsAreFew → most_actions two_cores ≤ 8
its_action_is_among_them law = subst (λ n. most_actions two_cores ≤ n) its_code_has_eight (law two_cores)

pub none_in_an_empty_function : most_of [] ∷ most_in_function (function []) ∷ [] ≡ 0 ∷ 0 ∷ []
none_in_an_empty_function = refl

-- ---- its runs of nine steps

abbrev offer : Entry
offer = record { stamp = 1; turn = 1; event = Offer 0 0 (Int (pos 5 ∷ [])) }

abbrev offering : CoreEnd
offering = record {
  word = Stalled;
  steps = 1;
  output = [];
  globals = pos 0 ∷ pos 5 ∷ [];
  waiting = record { link = 0; phase = phase.Offered } ∷ [];
  idle = true;
}

send_form : out-Command sends ≡ Command-F.Run sends_five
send_form = form sends _ (c.rolls-Run sends_five)

it_stops_at_the_send : (s : Store) (around : List Context) → value s sends_five around ≡ Stops (Acting (Send 0)) (int 5 ∷ []) around
it_stops_at_the_send s around = simp (act_goes s first_frame, number_goes s first_frame)

it_waits : after (offer ∷ []) 4 ≡ Over (Some offering)
it_waits = rw (send_form, it_stops_at_the_send) refl

abbrev journals : List (List Entry)
journals = (offer ∷ []) ∷ [] ∷ []

pub it_has_offered : AllReplay two_cores 1 9 journals
it_has_offered zero lt = (
  offering,
  record {
    function = function (sends ∷ []);
    enters = record { here = record { name = codes "a"; entry = 0 }; core_is = refl; function_is = refl };
    ends =
        (4, sym it_waits);
  },
)
it_has_offered (suc k) lt = absurd (omega arith)

pub there_is_no_third_core : AllReplay two_cores 3 9 journals → ⊥
there_is_no_third_core h = let e = (h 2 (omega arith)).1.enters.core_is in cc

pub two_entries_are_few : EntriesAreFew → 2 ≤ 3 * (most_actions two_cores * 9)
two_entries_are_few law =
    let few = law two_cores 0 9 taken _ it_is_an_end_of_the_core in
    let none : passes_in taken ≡ 0 = refl in
    let two : length taken ≡ 2 = refl in
    omega (arith, few, none, two)

-- one entry, with stamp 1
pub its_history_is_short : HistoriesAreShort → IsShortHistory two_cores 1 9 (merged journals)
its_history_is_short law = law two_cores (1 ∷ 16 ∷ []) (1 ∷ []) 1 9 journals refl it_has_offered (refl, tt)

pub one_entry_of_stamp_one_is_short : IsShortHistory two_cores 1 9 (merged journals)
one_entry_of_stamp_one_is_short = let one = its_program_has_one in record { entries = omega (arith, one); stamps = (omega arith, tt) }

abbrev late : Stamped
late = record { party = 0; entry = withdrawing }

pub its_stamp_is_above_their_number : IsShortHistory two_cores 1 9 (late ∷ []) → ⊥
its_stamp_is_above_their_number h = let five = h.stamps.0 in omega (arith, five)

pub no_step_no_entry : IsShortHistory two_cores 1 0 (merged journals) → ⊥
no_step_no_entry h = let few = h.entries in let one = its_program_has_one in omega (arith, few, one)

pub its_stamp_is_small : StampsAreSmall → AllByRecursion (λ e. e.entry.stamp ≤ 1 * (4 * (most_actions two_cores * 9))) (merged journals)
its_stamp_is_small law = law two_cores (1 ∷ 16 ∷ []) (1 ∷ []) 1 9 journals refl it_has_offered (refl, tt)
