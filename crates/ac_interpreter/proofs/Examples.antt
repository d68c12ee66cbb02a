-- After how many moves small machines and cores are over, and a journal that does not fit a core.
-- A machine that counts down has a number, and one that stays where it is has none; so it is with a core that ends and with one whose work
-- has no meaning.
use Rattle.std.proofs.Common.{◌≡◌, ℕ, zero, suc, ◌<◌, [], ◌∷◌, pos, true, false, Some, None, refl, sym, ap, ◌∙◌, arith}
use Rattle.ac_base.specs.declared.entry.Entry.{Entry}
use Rattle.ac_base.specs.declared.entry.Event.TheVariants.{Know}
use Rattle.work_item.specs.Store.{made}
use Rattle.core_state.specs.Moves.{Move, On, Over, and_then, moves}
use Rattle.core_state.specs.Frames.{first_store}
use Rattle.core_state.specs.Shared.{first_shared}
use Rattle.ac_commands.specs.declared.command.Command.{Command, out-Command}
use Rattle.ac_commands.specs.declared.command.Command.TheVariants as c
use Rattle.ac_commands.specs.declared.command.Command.TheOpen.{Command-F}
use Rattle.ac_semantics.specs.Held.{stepped, turned}
use Rattle.ac_semantics.specs.Threads.{CoreState, thread_at, step, first_item, first_core, first_state}
use Rattle.ac_semantics.proofs.Examples.{program, function, form, finish_by}
use Rattle.ac_interpreter.specs.Ends.{is_over, IsOverBy, IsCount, HasCount, CoreEnds}
use Rattle.ac_interpreter.specs.Unfit.{IsUnfit}

-- ---- a machine that counts down to 0

abbrev down : ℕ → Move ℕ ℕ
down zero = Over 0
down (suc n) = On n

before_two : (j : ℕ) → j < 2 → is_over (and_then (On 1) (moves down j)) ≡ false
before_two zero lt = refl
before_two (suc zero) lt = refl
before_two (suc (suc j)) lt = absurd (omega (arith, lt))

pub one_takes_two_moves : IsCount down (On 1) 2
one_takes_two_moves = (refl, before_two)

pub it_is_over_by_three : IsOverBy down (On 1) 3
it_is_over_by_three = refl

-- two are enough
pub it_does_not_take_three : IsCount down (On 1) 3 → ⊥
it_does_not_take_three h = let no : true ≡ false = h.1 2 (omega arith) in cc

-- ---- a machine that stays where it is

stays_there : {S E : Type 0} (f : S → Move S E) (s : S) → f s ≡ On s → (k : ℕ) → moves f k s ≡ On s
stays_there f s e zero = refl
stays_there f s e (suc k) = ap (λ a. and_then a (moves f k)) e ∙ stays_there f s e k

abbrev stays : ℕ → Move ℕ ℕ
stays n = On n

pub it_is_never_over : HasCount stays (On 0) → ⊥
it_is_never_over h = let no : false ≡ true = sym (ap is_over (stays_there stays 0 refl h.0)) ∙ h.1.0 in cc

-- ---- a core without statements: its dispatch, and its end

before_the_end : (j : ℕ) → j < 2 → is_over (and_then (first_state (program []) 0 (function []) []) (moves (step (program []) 0) j)) ≡ false
before_the_end zero lt = refl
before_the_end (suc zero) lt = refl
before_the_end (suc (suc j)) lt = absurd (omega (arith, lt))

pub a_core_without_statements_ends : CoreEnds (program []) 0 (function []) 0 []
a_core_without_statements_ends = (2, (refl, before_the_end))

-- ---- a core whose break stands in no loop: after it nothing is left to do, and the core stays

abbrev breaks : Command
breaks = c.Break

break_form : out-Command breaks ≡ Command-F.Break
break_form = form breaks _ c.rolls-Break

abbrev at_the_break : CoreState
at_the_break =
    let first = first_core (function (breaks ∷ [])) (first_shared 0 []) (made (first_store (pos 0 ∷ pos 5 ∷ [])) None []) in
    record first { held = turned first.held; running = Some first_item; work = (thread_at first.threads first_item).work; ready = [] }

abbrev after_it : CoreState
after_it = record at_the_break { held = stepped at_the_break.held; work = [] }

it_breaks : step (program (breaks ∷ [])) 1 at_the_break ≡ On after_it
it_breaks = rw (break_form, finish_by (program (breaks ∷ [])) breaks _ break_form) refl

goes_on_from : (k : ℕ) → is_over (and_then (first_state (program (breaks ∷ [])) 0 (function (breaks ∷ [])) []) (moves (step (program (breaks ∷ [])) 1) k)) ≡ false
goes_on_from zero = refl
goes_on_from (suc zero) = refl
goes_on_from (suc (suc k)) =
    ap (λ a. is_over (and_then a (moves (step (program (breaks ∷ [])) 1) k))) it_breaks ∙ ap is_over (stays_there (step (program (breaks ∷ [])) 1) after_it refl k)

pub a_core_that_breaks_out_of_nothing_does_not : CoreEnds (program (breaks ∷ [])) 0 (function (breaks ∷ [])) 1 [] → ⊥
a_core_that_breaks_out_of_nothing_does_not h = let no : false ≡ true = sym (goes_on_from h.0) ∙ h.1.0 in cc

-- ---- a journal with an entry for which a core without statements does not wait

abbrev an_entry : Entry
an_entry = record { stamp = 1; turn = 1; event = Know 0 0 }

pub the_first_does_not_fit : IsUnfit (program []) 0 (function []) 0 (an_entry ∷ []) 0
the_first_does_not_fit = record {
  inside = omega arith;
  unfit = (2, refl);
  before = λ earlier less. absurd (omega (arith, less));
}

-- there is a lesser one
pub it_is_not_the_second : IsUnfit (program []) 0 (function []) 0 (an_entry ∷ an_entry ∷ []) 1 → ⊥
it_is_not_the_second h = h.before 0 (omega arith) (2, refl)

pub no_entries_fit : IsUnfit (program []) 0 (function []) 0 [] 0 → ⊥
no_entries_fit h = let inside = h.inside in omega (arith, inside)
