-- What expressions, statements and moves of a core are made of, at small values.
-- Each definition of which the meaning is made stands here with its cases: values, what is held, statements, work, threads, and then the
-- wholes of these.
use Rattle.std.proofs.Common.{◌≡◌, refl, ap, ℕ, pos, List, [], ◌∷◌, None, Some, Bool, true, false, codes}
use Rattle.std.specs.Prelude.{negsuc, Ok, Err}
use Rattle.ac_base.specs.declared.ends.CoreEnd.{CoreEnd}
use Rattle.ac_base.specs.declared.ends.EndWord.{EndWord}
use Rattle.ac_base.specs.declared.ends.EndWord.TheVariants.{Finished, Trapped, OutOfSteps, Stalled}
use Rattle.ac_base.specs.declared.ends.Trap.TheVariants.{ZeroDivisor, Index}
use Rattle.ac_tree.specs.declared.expr.UnaryOp.TheVariants as u
use Rattle.ac_tree.specs.declared.expr.BinaryOp.TheVariants as b
use Rattle.work_item.specs.declared.ids.Item.{Item}
use Rattle.work_item.specs.declared.ids.BlockId.{BlockId}
use Rattle.work_item.specs.declared.cell.Place.{Place}
use Rattle.work_item.specs.declared.cell.Cell.{Cell}
use Rattle.work_item.specs.declared.cell.Cell.TheVariants as cell
use Rattle.work_item.specs.Store.{Store}
use Rattle.core_state.specs.Moves.{On, Over}
use Rattle.core_state.specs.Frames.{first_frame, first_store}
use Rattle.core_state.specs.Shared.{core_end, first_shared}
use Rattle.ac_commands.specs.declared.value.Array.TheVariants as a
use Rattle.ac_commands.specs.declared.value.Place.TheVariants as p
use Rattle.ac_commands.specs.declared.value.Action.TheVariants.{Call}
use Rattle.ac_commands.specs.declared.value.Value.TheVariants as v
use Rattle.ac_commands.specs.declared.value.Value.TheOpen.{Value-F}
use Rattle.ac_commands.specs.declared.command.Target.TheVariants as t
use Rattle.ac_commands.specs.declared.command.Command.{Command, out-Command}
use Rattle.ac_commands.specs.declared.command.Command.TheVariants as c
use Rattle.ac_commands.specs.declared.command.Command.TheOpen.{Command-F}
use Rattle.ac_semantics.specs.Evaluation.{Acting, Ending, ElementAt, Evaluated, Comes, Traps, Stops, operate, then_goes, then_int, then_part, comes_int}
use Rattle.ac_semantics.specs.Evaluation.{Operand, unary, variable, reference, array, gives, told}
use Rattle.ac_semantics.specs.Evaluation.{Told, LinkTold, link_in, unless_decided, chained, row, goes_step, told_step, link_step, link_told, chain_goes, row_goes}
use Rattle.ac_semantics.specs.Held.{Held, with_shared, with_store, stepped, turned, seen_of, entered}
use Rattle.ac_semantics.specs.Work.{Work, Do, Pend, Turn, Close, Back, Leave, End, before, next_in, next_part, ahead, past_loop, at_turn, closes, Given, given}
use Rattle.ac_semantics.specs.Statements.{Goes, Ends, Arrives, Dies, Stays, or_trap, target_operands, some_operand, operands_of, last_of, before_last, returns, calls, does}
use Rattle.ac_semantics.specs.Statements.{with_variable, put_in, value_or_zero, some_body, test_or_true, loops, settles, goes_on_with, if_step, next_at, next_of}
use Rattle.ac_semantics.specs.Threads.{Thread, nobody, Phase, Active, AtFinish, Ended, CoreState, thread_at, is_among, is_living, none_within, may_pass, with_phase, stops}
use Rattle.ac_semantics.specs.Threads.{is_within, woken, arrives, dispatched}
use Rattle.ac_semantics.specs.Threads.{goes_on, wakes, wakes_owner, applied, step_of, first_item, first_core, with_starts, first_globals, shared_at_first}
use Rattle.ac_semantics.proofs.Forms.{link_goes, operand_goes, number_goes}
use Rattle.ac_semantics.proofs.Examples.{number, link, two_globals, program, function, leaves, form, finish_by}
use Rattle.ac_semantics.specs.Replay.{Enters}

abbrev pub int : ℕ → Cell
int n = cell.Int (pos n)

abbrev pub block : ℕ → BlockId
block n = record { number = n }

abbrev pub item : ℕ → Item
item n = record { number = n }

-- ---- values

pub operators_on_numbers : operate b.Sub (pos 1) (pos 3) ∷ operate b.More (pos 1) (pos 3) ∷ operate b.And (pos 1) (pos 3) ∷ operate b.Div (pos 1) (pos 0) ∷ []
    ≡ Ok (negsuc 1) ∷ Ok (pos 0) ∷ Ok (pos 1) ∷ Err ZeroDivisor ∷ []
operators_on_numbers = refl

-- only what comes goes on
abbrev pub twice : Cell → Evaluated
twice x = Stops Ending (x ∷ x ∷ []) []

pub what_comes_goes_on : then_goes (Comes (int 3)) twice ∷ then_goes (Traps Index) twice ∷ then_goes (Stops Ending [] []) twice ∷ []
    ≡ Stops Ending (int 3 ∷ int 3 ∷ []) [] ∷ Traps Index ∷ Stops Ending [] [] ∷ []
what_comes_goes_on = refl

abbrev pub both_globals : Place
both_globals = record { home = None; start = 0; len = 2 }

pub what_is_computed_comes : then_int (Ok (pos 3)) comes_int ∷ then_int (Err Index) comes_int ∷ then_part (Ok both_globals) ∷ then_part (Err Index) ∷ []
    ≡ Comes (int 3) ∷ Traps Index ∷ Comes (cell.Array both_globals) ∷ Traps Index ∷ []
what_is_computed_comes = refl

-- the left operand decides `||` where it is not 0, and `&&` where it is
abbrev pub decided : List Evaluated
decided = unless_decided b.Or (pos 2) comes_int (Traps Index) ∷ unless_decided b.Or (pos 0) comes_int (Traps Index) ∷ unless_decided b.And (pos 0) comes_int (Traps Index)
    ∷ unless_decided b.And (pos 2) comes_int (Traps Index) ∷ unless_decided b.Add (pos 0) comes_int (Traps Index) ∷ []

pub who_decides : decided ≡ comes_int (pos 1) ∷ Traps Index ∷ comes_int (pos 0) ∷ Traps Index ∷ Traps Index ∷ []
who_decides = refl

-- a 3, and one to the right of a `*`
abbrev pub three : Told
three = (number 3, λ around. comes_int (pos 3))

abbrev pub times_three : LinkTold
times_three = (b.Mul, three)

pub a_right_operand : (link_in times_three ≡ link b.Mul (number 3)) × (link_step (record { op = b.Mul; operand = three }) ≡ times_three)
a_right_operand = (refl, refl)

pub chains_and_rows : chained (int 2) (times_three ∷ []) [] ∷ chained (int 2) [] [] ∷ row Ending [] (three ∷ []) [] ∷ []
    ≡ comes_int (pos 6) ∷ comes_int (pos 2) ∷ Stops Ending (int 3 ∷ []) [] ∷ []
chains_and_rows = refl

-- -3, 3*3, and the fourth of two globals
pub forms_of_values : goes_step two_globals first_frame (Value-F.Unary u.Neg three) [] ∷ goes_step two_globals first_frame (Value-F.Chain three (times_three ∷ [])) []
    ∷ goes_step two_globals first_frame (Value-F.Element (a.Global 0 2) three) [] ∷ []
    ≡ comes_int (negsuc 2) ∷ comes_int (pos 9) ∷ Traps Index ∷ []
forms_of_values = refl

pub a_value_beside_what_it_comes_to : ((told_step two_globals first_frame (Value-F.Number (pos 3))).0 ≡ number 3)
    × ((told_step two_globals first_frame (Value-F.Number (pos 3))).1 [] ≡ comes_int (pos 3))
a_value_beside_what_it_comes_to = (v.rolls-Number (pos 3), refl)

pub a_chain_goes : (s : Store) → chain_goes s first_frame (int 2) (link b.Mul (number 3) ∷ []) [] ≡ comes_int (pos 6)
a_chain_goes s = simp (link_goes s first_frame, number_goes s first_frame)

pub a_told_link_in_it : (s : Store) → chained (int 2) (link_told s first_frame (link b.Mul (number 3)) ∷ []) [] ≡ comes_int (pos 6)
a_told_link_in_it s = a_chain_goes s

pub a_row_goes : (s : Store) → row_goes s first_frame Ending (int 2 ∷ []) (number 3 ∷ []) [] ≡ Stops Ending (int 3 ∷ int 2 ∷ []) []
a_row_goes s = simp (operand_goes s first_frame, number_goes s first_frame)

-- ---- what is held

abbrev pub held : Held
held = record { shared = first_shared 2 []; store = two_globals; marks = false ∷ true ∷ false ∷ []; operations = [] }

abbrev pub ends_so : EndWord → Bool → CoreEnd
ends_so word idle = core_end word idle (pos 8 ∷ pos 9 ∷ []) [] (first_shared 2 [])

pub held_and_changed : ((stepped held).shared.steps ≡ 1) × ((turned held).shared.turn ≡ 1) × ((with_shared held (stepped held).shared).shared.steps ≡ 1)
    × ((with_store held (first_store [])).store ≡ first_store []) × (seen_of Finished true held ≡ Some (ends_so Finished true))
held_and_changed = (refl, refl, refl, refl, refl)

-- ---- statements

pub operands_of_statements : (operands_of {A = Command} (Command-F.Set (t.Element (a.Global 0 2) (number 1)) (number 3)) ≡ number 3 ∷ v.Reference (a.Global 0 2) ∷ number 1 ∷ [])
    × (target_operands (t.Variable (p.Global 1)) ≡ []) × (operands_of {A = Command} (Command-F.If (number 1) [] None) ≡ number 1 ∷ []) × (operands_of {A = Command} Command-F.Break ≡ [])
    × (some_operand None ≡ []) × (some_operand (Some (number 1)) ≡ number 1 ∷ [])
operands_of_statements = (refl, refl, refl, refl, refl, refl)

pub the_last_operand : (last_of (int 2 ∷ int 1 ∷ []) ∷ last_of [] ∷ [] ≡ int 2 ∷ int 0 ∷ []) × (before_last (int 2 ∷ int 1 ∷ []) ≡ int 1 ∷ [])
the_last_operand = (refl, refl)

-- of the element the value comes first, then the array and the index
pub values_are_put : (with_variable two_globals first_frame (p.Global 1) (pos 3) ≡ first_store (pos 8 ∷ pos 3 ∷ []))
    × (put_in (t.Variable (p.Global 1)) (int 3 ∷ []) first_frame two_globals ≡ Ok (first_store (pos 8 ∷ pos 3 ∷ [])))
    × (put_in (t.Element (a.Global 0 2) (number 0)) (int 0 ∷ cell.Array both_globals ∷ int 3 ∷ []) first_frame two_globals ≡ Ok (first_store (pos 3 ∷ pos 9 ∷ [])))
    × (put_in (t.Element (a.Global 0 2) (number 2)) (int 2 ∷ cell.Array both_globals ∷ int 3 ∷ []) first_frame two_globals ≡ Err Index)
values_are_put = (refl, refl, refl, refl)

pub what_may_be_missing : (value_or_zero None [] ∷ value_or_zero (Some (number 3)) (int 3 ∷ []) ∷ [] ≡ pos 0 ∷ pos 3 ∷ [])
    × (test_or_true None [] ∷ test_or_true (Some (number 0)) (int 0 ∷ []) ∷ [] ≡ pos 1 ∷ pos 0 ∷ []) × (some_body None ≡ []) × (some_body (Some (c.Break ∷ [])) ≡ c.Break ∷ [])
what_may_be_missing = (refl, refl, refl, refl)

pub a_loop_goes_round : (loops (pos 1) leaves (c.Break ∷ []) first_frame (Leave ∷ []) held ≡ Goes held (Do first_frame c.Break ∷ Turn first_frame leaves ∷ Leave ∷ []))
    × (loops (pos 0) leaves (c.Break ∷ []) first_frame (Leave ∷ []) held ≡ Goes held (Leave ∷ []))
a_loop_goes_round = (refl, refl)

pub a_trap_ends_it : (or_trap {A = ℕ} held (Err Index) (λ n. Stays) ≡ Ends (Trapped Index) held) × (or_trap {A = ℕ} held (Ok 3) (λ n. Stays) ≡ Stays)
a_trap_ends_it = (refl, refl)

-- a call of the function 0, which has no slot and no statement, from a statement
pub what_operands_come_to : (settles (program []) c.Yield first_frame [] held (Traps Index) ≡ Ends (Trapped Index) held)
    × (settles (program []) c.Yield first_frame [] held (Comes (int 3)) ≡ Stays)
    × (settles (program []) c.Yield first_frame (Leave ∷ []) held (Stops (Acting (Call 0)) [] [])
    ≡ Goes (with_store held (record two_globals { frames = Some (record { parent = None; cells = []; over = false }) ∷ [] })) (Back (record { number = 0 }) ∷ Pend first_frame c.Yield [] ∷ Leave ∷ []))
what_operands_come_to = (refl, refl, refl)

-- 2 comes as the index of an element of two
pub an_index_comes : goes_on_with (program []) (int 2) c.Yield (ElementAt both_globals ∷ []) first_frame [] held ≡ Ends (Trapped Index) held
an_index_comes = refl

pub the_last_step : (if_step 1 held Stays ≡ Stays) × (if_step 0 held Stays ≡ Ends OutOfSteps held)
the_last_step = (refl, refl)

-- a finish takes a step, and the end of the entry takes none
pub next_steps : (next_at (program []) 1 (Close (block 2) ∷ []) held ≡ Arrives (block 2) (stepped held) []) × (next_at (program []) 0 (Leave ∷ []) held ≡ Ends Finished held)
    × (next_of (program []) 0 (End first_frame ∷ []) held ≡ Dies first_frame held) × (next_of (program []) 0 [] held ≡ Stays)
next_steps = (refl, refl, refl, refl)

-- ---- work

-- for (;;; ) { }, whose next part is an empty statement
abbrev pub loop : Command
loop = c.For None (c.Nothing ∷ []) []

pub next_parts : (next_in (Command-F.For None (c.Nothing ∷ []) []) ≡ c.Nothing ∷ []) × (next_in Command-F.Yield ≡ []) × (next_part loop ≡ c.Nothing ∷ [])
next_parts = (refl, refl, ap next_in (form loop (Command-F.For None (c.Nothing ∷ []) []) (c.rolls-For None (c.Nothing ∷ []) [])))

pub after_its_body : (ahead (Turn first_frame loop ∷ Leave ∷ []) ≡ Do first_frame c.Nothing ∷ Do first_frame loop ∷ Leave ∷ []) × (ahead (Leave ∷ []) ≡ Leave ∷ [])
after_its_body = (ap (λ (next : List Command). before first_frame next (Do first_frame loop ∷ Leave ∷ [])) next_parts.2, refl)

pub what_is_left_of_a_loop : (past_loop (Do first_frame c.Break ∷ Turn first_frame loop ∷ Leave ∷ []) ≡ Leave ∷ [])
    × (at_turn (Do first_frame c.Break ∷ Turn first_frame loop ∷ Leave ∷ []) ≡ Turn first_frame loop ∷ Leave ∷ [])
what_is_left_of_a_loop = (refl, refl)

pub statements_before_others : (before first_frame (c.Break ∷ c.Yield ∷ []) (Leave ∷ []) ≡ Do first_frame c.Break ∷ Do first_frame c.Yield ∷ Leave ∷ [])
    × (closes (Close (block 1) ∷ Leave ∷ Close (block 0) ∷ []) ≡ block 1 ∷ block 0 ∷ [])
statements_before_others = (refl, refl)

-- ---- threads

-- the thread 0 waits at the finish of the block 0, and the thread 1 was started in it
abbrev pub owner : Phase → Thread
owner phase = record { around = []; phase = phase; work = Leave ∷ [] }

abbrev pub started : Phase → Thread
started phase = record { around = block 0 ∷ []; phase = phase; work = [] }

abbrev pub core : CoreState
core = record { held = held; running = Some (item 1); work = []; ready = []; threads = owner (AtFinish (block 0)) ∷ started Active ∷ [] }

pub threads_by_number : thread_at core.threads (item 1) ∷ thread_at core.threads (item 2) ∷ [] ≡ started Active ∷ nobody ∷ []
threads_by_number = refl

pub who_lives_in_a_block : (is_among (block 1) (block 0 ∷ block 1 ∷ []) ∷ is_among (block 2) (block 0 ∷ block 1 ∷ []) ∷ [] ≡ true ∷ false ∷ [])
    × (is_living Active ∷ is_living (AtFinish (block 0)) ∷ is_living Ended ∷ [] ≡ true ∷ true ∷ false ∷ [])
    × (none_within (block 0) core.threads ∷ none_within (block 1) core.threads ∷ none_within (block 0) (started Ended ∷ []) ∷ [] ≡ false ∷ true ∷ true ∷ [])
who_lives_in_a_block = (refl, refl, refl)

pub which_finish_passes : may_pass core.threads (AtFinish (block 0)) ∷ may_pass (started Ended ∷ []) (AtFinish (block 0)) ∷ may_pass [] Active ∷ [] ≡ false ∷ true ∷ false ∷ []
which_finish_passes = refl

pub a_phase_is_set : with_phase core.threads (item 1) Ended (Leave ∷ []) ≡ owner (AtFinish (block 0)) ∷ record (started Ended) { work = Leave ∷ [] } ∷ []
a_phase_is_set = refl

abbrev pub one_ended : CoreState
one_ended = record core { running = None; threads = owner (AtFinish (block 0)) ∷ started Ended ∷ [] }

abbrev pub owner_woken : CoreState
owner_woken = record core { running = None; ready = item 0 ∷ []; threads = owner Active ∷ started Ended ∷ [] }

pub it_stops_and_wakes : (stops core (item 1) Ended held [] [] ≡ one_ended) × (wakes_owner one_ended ≡ owner_woken)
    × (wakes (Some (item 0)) one_ended ≡ owner_woken) × (wakes None one_ended ≡ one_ended) × (wakes_owner core ≡ core)
it_stops_and_wakes = (refl, refl, refl, refl, refl)

pub it_goes_on_so : goes_on core held (Leave ∷ []) ≡ record core { work = Leave ∷ [] }
it_goes_on_so = refl

pub moves_of_a_core : (applied core (item 1) Stays ≡ On core) × (applied core (item 1) (Goes held (Leave ∷ [])) ≡ On (record core { work = Leave ∷ [] }))
    × (applied core (item 1) (Ends Finished held) ≡ Over (Some (ends_so Finished false))) × (applied core (item 1) (Dies (record { number = 9 }) held) ≡ On owner_woken)
moves_of_a_core = (refl, refl, refl, refl)

-- no thread runs or is ready; and one runs that has come to the end of the entry
pub one_move : (step_of (program []) 0 core None ≡ Over (Some (ends_so Stalled true)))
    × (step_of (program []) 0 (record core { work = Leave ∷ [] }) (Some (item 1)) ≡ Over (Some (ends_so Finished false)))
one_move = (refl, refl)

pub at_first : (first_item ≡ item 0) × (first_globals (program []) ≡ pos 0 ∷ pos 5 ∷ []) × (with_starts (record { slot = 0; value = pos 7 } ∷ []) (pos 8 ∷ pos 9 ∷ []) ≡ pos 7 ∷ pos 9 ∷ [])
    × (first_core (function (c.Break ∷ [])) (first_shared 2 []) two_globals
    ≡ record {
      held = record held { marks = [] };
      running = None;
      work = [];
      ready = item 0 ∷ [];
      threads = record { around = []; phase = Active; work = Do first_frame c.Break ∷ Leave ∷ [] } ∷ [];
    })
    × (shared_at_first (record (program []) { channels = record { from = 0; to = 1; capacity = 1; width = 1 } ∷ [] }) 1 [] ≡ first_shared 2 [])
at_first = (refl, refl, refl, refl, refl)

-- ---- the wholes of these

pub values_of_places : (unary u.Not (pos 3) ∷ unary u.Flip (pos 0) ∷ [] ≡ pos 0 ∷ negsuc 0 ∷ []) × (variable two_globals first_frame (p.Global 1) ≡ int 9)
    × (reference two_globals first_frame (a.Global 0 2) ≡ cell.Array both_globals) × (array two_globals first_frame (a.Global 0 2) ≡ both_globals)
values_of_places = (refl, refl, refl, refl)

pub what_is_round_a_cell : gives two_globals first_frame (ElementAt both_globals) (int 1) [] ∷ gives two_globals first_frame (Operand u.Neg) (int 3) [] ∷ []
    ≡ comes_int (pos 9) ∷ comes_int (negsuc 2) ∷ []
what_is_round_a_cell = refl

pub a_number_is_told : (told two_globals first_frame (number 3)).1 [] ≡ comes_int (pos 3)
a_number_is_told = number_goes two_globals first_frame (pos 3) []

abbrev pub waits_for : Work
waits_for = Pend first_frame c.Yield []

pub a_value_for_what_waits : (given (int 3) (waits_for ∷ Leave ∷ []) ≡ Given (int 3) first_frame c.Yield [] ∷ Leave ∷ []) × (given (int 3) (Leave ∷ []) ≡ Leave ∷ [])
a_value_for_what_waits = (refl, refl)

-- past what is left of the statements of the call; the core ends with its entry
pub an_activation_returns : (returns (pos 3) (Do first_frame c.Yield ∷ Back first_frame ∷ waits_for ∷ []) held ≡ Goes held (Given (int 3) first_frame c.Yield [] ∷ []))
    × (returns (pos 3) (Do first_frame c.Yield ∷ Leave ∷ []) held ≡ Ends Finished held) × (returns (pos 3) [] held ≡ Stays) × (calls None [] [] held ≡ Stays)
an_activation_returns = (refl, refl, refl, refl)

break_is : out-Command c.Break ≡ Command-F.Break
break_is = form c.Break Command-F.Break c.rolls-Break

pub a_loop_is_left : does (program []) c.Break first_frame (Turn first_frame loop ∷ Leave ∷ []) held ≡ Goes held (Leave ∷ [])
a_loop_is_left = rw (break_is, finish_by (program []) c.Break _ break_is) refl

pub a_block_is_entered : (entered held first_frame 0).marks ≡ false ∷ true ∷ false ∷ false ∷ []
a_block_is_entered = refl

pub who_waits : (is_within (block 0) (started Active) ∷ is_within (block 0) (started Ended) ∷ is_within (block 1) (started Active) ∷ [] ≡ true ∷ false ∷ false ∷ [])
    × (woken core.threads core.threads 0 ≡ None) × (woken one_ended.threads one_ended.threads 0 ≡ Some (item 0))
who_waits = (refl, refl, refl)

-- a finish passes or is waited at
pub at_a_finish : (arrives true core (item 1) (block 2) held (Leave ∷ []) ≡ record core { work = Leave ∷ [] })
    × (arrives false core (item 1) (block 2) held [] ≡ record core { running = None; threads = owner (AtFinish (block 0)) ∷ started (AtFinish (block 2)) ∷ [] })
at_a_finish = (refl, refl)

pub the_front_runs : (dispatched core (item 0 ∷ []) ≡ On (record core { held = turned held; running = Some (item 0); work = Leave ∷ [] })) × (dispatched core [] ≡ Over (Some (ends_so Stalled true)))
the_front_runs = (refl, refl)

pub the_core_enters_its_function : Enters (program []) 0 (function [])
the_core_enters_its_function = record { here = record { name = codes "a"; entry = 0 }; core_is = refl; function_is = refl }

pub no_second_core_does : Enters (program []) 1 (function []) → ⊥
no_second_core_does h = let e = h.core_is in cc
