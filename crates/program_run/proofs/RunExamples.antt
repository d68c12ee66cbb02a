-- What a run of a program is, by one of two cores: the first offers 5 on the channel to the second, which ends at once, so that no one takes it.
-- Each part of the definition is shown to hold of this run, by computing, and not to hold of a run that differs in this part alone.
use Rattle.std.proofs.Common.{◌≡◌, ℕ, zero, suc, ◌<◌, ◌≤◌, List, [], ◌∷◌, pos, codes, ◌++◌, Some, None, true, false, refl, sym, ap, ◌∙◌, subst, inl, inr, ◌⊎◌, ℤ, map, arith}
use Rattle.std.specs.Prelude.{slice_get}
use Rattle.ac_base.specs.Log.{Log}
use Rattle.ac_base.specs.declared.entry.Entry.{Entry}
use Rattle.ac_base.specs.declared.entry.Event.{Event}
use Rattle.ac_base.specs.declared.entry.Event.TheVariants.{Offer, Know, Got}
use Rattle.ac_base.specs.declared.entry.Payload.TheVariants.{Int}
use Rattle.ac_base.specs.declared.entry.Stamped.{Stamped}
use Rattle.ac_base.specs.declared.ends.CoreEnd.{CoreEnd}
use Rattle.ac_base.specs.declared.ends.EndWord.TheVariants as word
use Rattle.ac_base.specs.declared.ends.MachineEnd.{MachineEnd}
use Rattle.ac_base.specs.declared.ends.Phase.TheVariants as phase
use Rattle.core_state.specs.Moves.{ComesTo, Over}
use Rattle.core_state.proofs.Simulation.{one_end}
use Rattle.ac_commands.specs.declared.command.Command.{fold-roll-Command}
use Rattle.ac_commands.specs.declared.command.Command.TheOpen.{Command-F}
use Rattle.ac_commands.specs.declared.command.Command.TheVariants as c
use Rattle.ac_semantics.specs.Replay.{Replays}
use Rattle.ac_semantics.proofs.Examples.{function}
use Rattle.ac_semantics.proofs.OperationExamples.{two_cores, sends, sends_five, after, send_form, it_stops_at_the_send}
use Rattle.stack_code.specs.declared.instr.Instr.TheVariants as i
use Rattle.stack_code.specs.Parts.{Parts}
use Rattle.code_meaning.specs.Machine.{exec, first_flat, FlatEnd, Runs}
use Rattle.ac_translation.specs.Pieces.{Piece, one, ◌⨾◌}
use Rattle.ac_translation.specs.Translation.{code_of, command_code, command_step, value_code}
use Rattle.ac_translation.proofs.Codes.{act_code, number_code}
use Rattle.ac_links.specs.AtRest.{has_front}
use Rattle.ac_history.specs.History.{Past, IsLegal, link_at}
use Rattle.ac_history.specs.Quiet.{after_all_of, CoreIsQuiet}
use Rattle.program_run.specs.declared.ended.Ended.{Ended}
use Rattle.program_run.specs.Parties.{owner_at, owner_of, peer_at, peer_of}
use Rattle.program_run.specs.Run.{IsCoreRun, AreCoreRuns, AreInOrder, IsRunOf, EndsQuiet, history_of, nothing_yet}

-- ---- the code

abbrev pub its_parts : Parts
its_parts = record {
  instrs = i.Step ∷ i.Push (pos 5) ∷ i.Send 0 ∷ i.Drop ∷ i.Push (pos 0) ∷ i.Ret ∷ i.Push (pos 0) ∷ i.Ret ∷ [];
  functions = record { name = codes "f"; at = 0; params = []; words = 0 } ∷ record { name = codes "f"; at = 6; params = []; words = 0 } ∷ [];
  texts = two_cores.texts;
  entries = 0 ∷ 1 ∷ [];
  names = codes "a" ∷ codes "b" ∷ [];
  globals = 2;
  capacities = 1 ∷ 16 ∷ 16 ∷ [];
  ends = record { from = 0; to = 1 } ∷ [];
  starts = record { slot = 1; value = pos 5 } ∷ [];
  widths = 1 ∷ [];
}

statement_code : command_code sends ≡ one i.Step ⨾ value_code sends_five ⨾ one i.Drop
statement_code = ap command_code (sym (c.rolls-Run sends_five)) ∙ fold-roll-Command Piece command_step (Command-F.Run sends_five)

pub its_code : code_of two_cores ≡ its_parts
its_code = rw (statement_code, act_code, number_code) refl

pub who_sends : owner_of its_parts.ends 0 ∷ owner_of its_parts.ends 1 ∷ owner_of its_parts.ends 2 ∷ owner_at 1 2 None ∷ [] ≡ 0 ∷ 0 ∷ 1 ∷ 1 ∷ []
who_sends = refl

-- requests are for the worker, which is party 2
pub who_receives : peer_of its_parts.ends 2 0 ∷ peer_of its_parts.ends 2 1 ∷ peer_of its_parts.ends 2 2 ∷ peer_at 2 None ∷ [] ≡ 1 ∷ 2 ∷ 2 ∷ 2 ∷ []
who_receives = refl

-- ---- its cores

abbrev pub entry : ℕ → Event → Entry
entry stamp event = record { stamp = stamp; turn = 1; event = event }

abbrev pub its_offer : Entry
its_offer = entry 1 (Offer 0 0 (Int (pos 5 ∷ [])))

abbrev globals : List ℤ
globals = pos 0 ∷ pos 5 ∷ []

abbrev pub it_waits : CoreEnd
it_waits = record {
  word = word.Stalled;
  steps = 1;
  output = [];
  globals = globals;
  waiting = record { link = 0; phase = phase.Offered } ∷ [];
  idle = true;
}

abbrev pub it_has_ended : CoreEnd
it_has_ended = record { word = word.Finished; steps = 0; output = []; globals = globals; waiting = []; idle = false }

abbrev pub the_sender : MachineEnd
the_sender = record { core = it_waits; instructions = 3 }

abbrev pub the_other : MachineEnd
the_other = record { core = it_has_ended; instructions = 2 }

-- the dispatch, the send, the offer, and the end
it_comes_to_wait : after (its_offer ∷ []) 4 ≡ Over (Some it_waits)
it_comes_to_wait = rw (send_form, it_stops_at_the_send) refl

pub the_sender_replays : Replays two_cores 0 9 (its_offer ∷ []) (Some it_waits)
the_sender_replays = record {
  function = function (sends ∷ []);
  enters = record { here = record { name = codes "a"; entry = 0 }; core_is = refl; function_is = refl };
  ends = (4, sym it_comes_to_wait);
}

pub the_other_replays : Replays two_cores 1 9 [] (Some it_has_ended)
the_other_replays = record {
  function = function [];
  enters = record { here = record { name = codes "b"; entry = 1 }; core_is = refl; function_is = refl };
  ends = (9, refl);
}

abbrev pub log : List Entry → Log
log entries = record { entries = entries; spare = 0 }

the_sender_runs : Runs its_parts 0 9 (its_offer ∷ []) (record { core = Some it_waits; count = 3 })
the_sender_runs = record { function = _; begins = record { entry = 0; entry_is = refl; function_is = refl }; comes = (40, refl) }

the_other_runs : Runs its_parts 1 9 [] (record { core = Some it_has_ended; count = 2 })
the_other_runs = record { function = _; begins = record { entry = 1; entry_is = refl; function_is = refl }; comes = (40, refl) }

by_code : (core : ℕ) (journal : List Entry) (end : FlatEnd) → Runs its_parts core 9 journal end → Runs (code_of two_cores) core 9 journal end
by_code core journal end = subst (λ (code : Parts). Runs code core 9 journal end) (sym its_code)

pub the_first_core_runs : IsCoreRun two_cores 0 9 (log (its_offer ∷ [])) the_sender
the_first_core_runs = record { code = by_code 0 (its_offer ∷ []) _ the_sender_runs; source = the_sender_replays }

pub the_second_core_runs : IsCoreRun two_cores 1 9 (log []) the_other
the_second_core_runs = record { code = by_code 1 [] _ the_other_runs; source = the_other_replays }

-- the code comes to one end, so that no other number of instructions is told
not_by_code : Runs its_parts 0 9 (its_offer ∷ []) (record { core = Some it_waits; count = 4 }) → ⊥
unfolding the_sender_runs
not_by_code r =
    let at : 0 ≡ r.begins.entry = cc in
    let here : slice_get its_parts.functions 0 ≡ Some r.function = subst (λ n. slice_get its_parts.functions n ≡ Some r.function) (sym at) r.begins.function_is in
    let same : record { name = codes "f"; at = 0; params = []; words = 0 } ≡ r.function = cc in
    let other = subst (λ f. ComesTo (exec its_parts 9) (first_flat its_parts 0 f (its_offer ∷ [])) (record { core = Some it_waits; count = 4 })) (sym same) r.comes in
    let e = one_end (exec its_parts 9) _ _ _ (the_sender_runs.comes.0, sym the_sender_runs.comes.1) (other.0, sym other.1) in
    let n : 3 ≡ 4 = ap (λ (x : FlatEnd). x.count) e in omega (arith, n)

pub not_with_an_instruction_more : IsCoreRun two_cores 0 9 (log (its_offer ∷ [])) (record the_sender { instructions = 4 }) → ⊥
not_with_an_instruction_more r = not_by_code (subst (λ (code : Parts). Runs code 0 9 (its_offer ∷ []) (record { core = Some it_waits; count = 4 })) its_code r.code)

-- there is no third core
pub no_third_core : (end : MachineEnd) → IsCoreRun two_cores 2 9 (log []) end → ⊥
no_third_core end r = let e = r.source.enters.core_is in cc

-- ---- the run

abbrev pub its_run : Ended
its_run = record {
  steps = 9;
  start = [];
  journals = log (its_offer ∷ []) ∷ log [] ∷ log [] ∷ [];
  cores = the_sender ∷ the_other ∷ [];
}

pub both_cores_run : AreCoreRuns two_cores 9 0 its_run.journals its_run.cores
both_cores_run = (the_first_core_runs, (the_second_core_runs, refl))

pub no_core_without_a_journal : AreCoreRuns two_cores 9 0 [] its_run.cores → ⊥
no_core_without_a_journal r = r

pub not_without_the_worker : AreCoreRuns two_cores 9 0 (log (its_offer ∷ []) ∷ log [] ∷ []) its_run.cores → ⊥
not_without_the_worker r = let e = r.1.1 in omega (arith, e)

pub before_any_entry : nothing_yet two_cores
    ≡ record { capacities = 1 ∷ 16 ∷ 16 ∷ []; widths = 1 ∷ []; channels = 1; cores = 2; links = [] ∷ [] ∷ [] ∷ []; lasts = 0 ∷ 0 ∷ 0 ∷ []; stamp = 0; party = 0 }
before_any_entry = refl

pub it_is_legal : IsLegal (nothing_yet two_cores) (history_of its_run.journals)
it_is_legal = (refl, tt)

-- ---- it ends quiet

abbrev owner : ℕ → ℕ
owner = owner_of (code_of two_cores).ends

abbrev peer : ℕ → ℕ
peer = peer_of (code_of two_cores).ends 2

abbrev its_past : Past
its_past = after_all_of (nothing_yet two_cores) (history_of its_run.journals)

sender_owns : (l : ℕ) → l < 3 → owner l ≡ 0 → (l ≡ 0) ⊎ (l ≡ 1)
sender_owns zero h is = inl refl
sender_owns (suc zero) h is = inr refl
sender_owns (suc (suc zero)) h is = absurd (omega (arith, is))
sender_owns (suc (suc (suc l))) h is = absurd (omega arith)

sender_takes_none : (l : ℕ) → l < 3 → peer l ≡ 0 → ⊥
sender_takes_none zero h is = omega (arith, is)
sender_takes_none (suc zero) h is = omega (arith, is)
sender_takes_none (suc (suc zero)) h is = omega (arith, is)
sender_takes_none (suc (suc (suc l))) h is = omega arith

-- its offer stands, and it waits for no more
sender_is_quiet : CoreIsQuiet owner peer its_past 0 it_waits
sender_is_quiet = record {
  stopped = refl;
  owns = λ idle l h is. elim (sender_owns l h is) [
    | inl e ↦ rw e (record { known = (refl, tt); replied = (refl, tt); full = λ w. cc })
    | inr e ↦ rw e (record { known = tt; replied = tt; full = λ w. cc })
  ];
  decides = λ idle l h is. absurd (sender_takes_none l h is);
}

other_is_quiet : CoreIsQuiet owner peer its_past 1 it_has_ended
other_is_quiet = record { stopped = refl; owns = λ idle l h is. cc; decides = λ idle l h is. cc }

each_core : (k : ℕ) (c : CoreEnd) → slice_get (it_waits ∷ it_has_ended ∷ []) k ≡ Some c → CoreIsQuiet owner peer its_past k c
each_core zero c is = let e : it_waits ≡ c = cc in subst (CoreIsQuiet owner peer its_past 0) e sender_is_quiet
each_core (suc zero) c is = let e : it_has_ended ≡ c = cc in subst (CoreIsQuiet owner peer its_past 1) e other_is_quiet
each_core (suc (suc k)) c is = cc

no_request : (l : ℕ) → l < 3 → 1 ≤ l → has_front (link_at its_past l) ≡ false
no_request zero h from = absurd (omega arith)
no_request (suc zero) h from = refl
no_request (suc (suc zero)) h from = refl
no_request (suc (suc (suc l))) h from = absurd (omega arith)

pub it_ends_quiet : EndsQuiet two_cores (history_of its_run.journals) its_run.cores
it_ends_quiet = record { core = each_core; worker = no_request }

-- a core that has neither ended nor is idle
pub not_where_a_core_could_go_on : EndsQuiet two_cores (history_of its_run.journals) (record the_sender { core = record it_waits { idle = false } } ∷ the_other ∷ []) → ⊥
not_where_a_core_could_go_on q = let e = (q.core 0 (record it_waits { idle = false }) refl).stopped in cc

-- one that waits for the message that is there
abbrev it_would_take : CoreEnd
it_would_take = record it_waits { waiting = record { link = 0; phase = phase.Waiting } ∷ [] }

pub not_where_a_message_is_there : EndsQuiet two_cores (history_of its_run.journals) (the_sender ∷ record the_other { core = it_would_take } ∷ []) → ⊥
not_where_a_message_is_there q = let e = (q.core 1 it_would_take refl).decides refl 0 (omega arith) refl refl in cc

-- ---- the whole

pub it_is_a_run : IsRunOf two_cores 9 [] its_run
it_is_a_run = record {
  steps = refl;
  files = refl;
  every_core = refl;
  cores = both_cores_run;
  in_order = ((tt, tt), (tt, (tt, tt)));
  legal = it_is_legal;
  quiet = it_ends_quiet;
}

pub not_with_another_bound : IsRunOf two_cores 8 [] its_run → ⊥
not_with_another_bound r = let e = r.steps in omega (arith, e)

pub not_from_other_files : IsRunOf two_cores 9 ([] ∷ []) its_run → ⊥
not_from_other_files r = let e = r.files in cc

pub not_with_one_core : IsRunOf two_cores 9 [] (record its_run { cores = the_sender ∷ [] }) → ⊥
not_with_one_core r = let e = r.every_core in omega (arith, e)

pub not_of_the_cores_alone : IsRunOf two_cores 9 [] (record its_run { journals = log (its_offer ∷ []) ∷ log [] ∷ [] }) → ⊥
not_of_the_cores_alone r = not_without_the_worker r.cores

-- an offer has the number of those before it
pub not_with_another_number : IsRunOf two_cores 9 [] (record its_run { journals = log (entry 1 (Offer 0 1 (Int (pos 5 ∷ []))) ∷ []) ∷ log [] ∷ log [] ∷ [] }) → ⊥
not_with_another_number r = let e = r.legal.0 in cc

-- ---- journals of a run in which the second core takes the message

abbrev pub sent : List Entry
sent = its_offer ∷ entry 3 (Know 0 0) ∷ []

abbrev pub received : List Entry
received = entry 2 (Got 0 0 (pos 5 ∷ [])) ∷ []

abbrev pub finished : MachineEnd
finished = record { core = record { word = word.Finished; steps = 1; output = []; globals = []; waiting = []; idle = false }; instructions = 6 }

abbrev pub their_run : Ended
their_run = record { steps = 9; start = []; journals = log sent ∷ log received ∷ log [] ∷ []; cores = finished ∷ finished ∷ [] }

-- 1 before 3
pub they_stand_in_order : AreInOrder their_run.journals
they_stand_in_order = (((omega arith, tt), (tt, tt)), ((tt, tt), (tt, tt)))

pub not_the_other_way_round : AreInOrder (log (entry 3 (Know 0 0) ∷ its_offer ∷ []) ∷ []) → ⊥
not_the_other_way_round h = let less = h.0.0.0 in omega (arith, less)

pub in_the_order_of_stamps : map (λ (e : Stamped). e.entry.stamp) (history_of their_run.journals) ≡ 1 ∷ 2 ∷ 3 ∷ []
in_the_order_of_stamps = refl

pub they_are_legal : IsLegal (nothing_yet two_cores) (history_of their_run.journals)
they_are_legal = (refl, (refl, (refl, tt)))

-- one after the other they are not: what the first knows comes of what the second has done
pub not_one_after_the_other : IsLegal (nothing_yet two_cores)
    (map (λ (e : Entry). record { party = 0; entry = e }) sent ++ map (λ (e : Entry). record { party = 1; entry = e }) received) → ⊥
not_one_after_the_other l = let e = l.1.0 in cc
