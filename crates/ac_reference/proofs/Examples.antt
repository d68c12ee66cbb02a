-- A run under no entries, and a journal whose first entry does not fit.
-- A core without statements ends by itself; with an entry to come nothing is seen of its end, so the first entry is the misfit and the
-- second is not.
use Rattle.std.proofs.Common.{◌≡◌, zero, suc, List, [], ◌∷◌, codes, pos, true, false, Option, Some, None, refl, ap, subst, arith}
use Rattle.ac_base.specs.declared.ends.EndWord.TheVariants.{Finished}
use Rattle.ac_base.specs.declared.ends.CoreEnd.{CoreEnd}
use Rattle.ac_base.specs.declared.entry.Entry.{Entry}
use Rattle.ac_base.specs.declared.entry.Event.TheVariants.{Know}
use Rattle.core_state.specs.Moves.{Move, Over}
use Rattle.ac_commands.specs.declared.program.Resolved.{Resolved}
use Rattle.ac_semantics.specs.Threads.{CoreState}
use Rattle.ac_semantics.specs.Replay.{Enters}
use Rattle.ac_semantics.proofs.Examples.{program, function}
use Rattle.ac_interpreter.specs.Ends.{is_over}
use Rattle.ac_interpreter.specs.Unfit.{RunEnds}
use Rattle.ac_reference.specs.Misfits.{HasReplay, IsMisfit}
use Rattle.ac_reference.proofs.Replays.{end_there}

-- core a(f); int x; int y = 5; async void f() { }
abbrev pub nothing : Resolved
nothing = program []

abbrev pub its_end : CoreEnd
its_end = record { word = Finished; steps = 0; output = []; globals = pos 0 ∷ pos 5 ∷ []; waiting = []; idle = false }

abbrev pub it_enters : Enters nothing 0 (function [])
it_enters = record { here = record { name = codes "a"; entry = 0 }; core_is = refl; function_is = refl }

pub without_entries_it_ends : HasReplay nothing 0 100 []
without_entries_it_ends = (its_end, record { function = function []; enters = it_enters; ends = (2, refl) })

abbrev pub an_entry : Entry
an_entry = record { stamp = 1; turn = 1; event = Know 0 0 }

not_over : {A : Type 0} (end : CoreEnd) (m : Move CoreState (Option CoreEnd)) → is_over m ≡ false → ◌≡◌ {A = Move CoreState (Option CoreEnd)} (Over (Some end)) m → A
not_over end m is h = let no : true ≡ false = subst (λ x. true ≡ x) is (ap is_over h) in cc

-- its thread waits for no operation, and so it ends before the entry has come in
no_end : (entries : List Entry) (end : CoreEnd) → RunEnds nothing 0 (function []) 100 (an_entry ∷ entries) (Some end) → ⊥
no_end entries end (zero, h) = not_over end _ refl h
no_end entries end (suc zero, h) = not_over end _ refl h
no_end entries end (suc (suc k), h) = let no : ◌≡◌ {A = Move CoreState (Option CoreEnd)} (Over (Some end)) (Over None) = h in cc

pub with_an_entry_there_is_none : (entries : List Entry) → HasReplay nothing 0 100 (an_entry ∷ entries) → ⊥
with_an_entry_there_is_none entries h = no_end entries h.0 (end_there nothing 0 100 (function []) it_enters (an_entry ∷ entries) (Some h.0) h.1)

pub the_first_of_two_does_not_fit : IsMisfit nothing 0 100 (an_entry ∷ an_entry ∷ []) 0
the_first_of_two_does_not_fit = record {
  inside = omega arith;
  unfit = with_an_entry_there_is_none [];
  before = λ earlier less. absurd (omega (arith, less));
}

-- there is a lesser one
pub it_is_not_the_second : IsMisfit nothing 0 100 (an_entry ∷ an_entry ∷ []) 1 → ⊥
it_is_not_the_second h = with_an_entry_there_is_none [] (h.before 0 (omega arith))
