-- Cores under journals, by example: an entry of a turn that a core never reaches is in no run, and two offers of one number are in no
-- journal.
use Rattle.std.proofs.Common.{◌≡◌, ◌≤◌, suc, [], ◌∷◌, ◌++◌, None, Bool, pos, true, refl, sym, ap, ◌∙◌, subst, arith}
use Rattle.ac_base.specs.declared.entry.Entry.{Entry}
use Rattle.ac_base.specs.declared.entry.Event.TheVariants as event
use Rattle.ac_base.specs.declared.entry.Payload.TheVariants.{Int}
use Rattle.core_state.specs.Moves.{On}
use Rattle.stack_code.proofs.Examples.{begins_so, code_of, entered}
use Rattle.code_meaning.specs.Machine.{Flat, told}
use Rattle.code_meaning.proofs.Examples.{it_is_an_end, prints_seven, returns}
use Rattle.core_machine.specs.Machine.{Machine}
use Rattle.core_replay.specs.Offering.{Offers}
use Rattle.replay_laws.specs.Given.{HasRun, last_turn}
use Rattle.replay_laws.proofs.Refusals.{no_run}
use Rattle.core_replay.specs.Replayed.{IsSameCore, Replayed}
use Rattle.core_replay.specs.Standing.{IsNumbered, IsPlayed, IsReplayed, StandsAt}

-- ---- which core it is

abbrev pub late : Entry
late = record { stamp = 1; turn = 5; event = event.Know 0 0 }

module _ (r : Replayed) where
  pub with_an_entry_more : IsSameCore r (record r { journal = r.journal ++ late ∷ []; took_all = true })
  with_an_entry_more = record { code = refl; core = refl; bound = refl }

  pub with_another_bound : IsSameCore r (record r { bound = suc r.bound }) → ⊥
  with_another_bound h = let no : suc r.bound ≡ r.bound = h.bound in absurd (omega (arith, no))

-- ---- journals that have a run

pub a_core_that_takes_none : HasRun (code_of 0 prints_seven) 0 100 []
a_core_that_takes_none = record { end = _; count = _; runs = it_is_an_end }

-- it ends in its first turn, and the entry is still to come
pub an_entry_of_a_turn_that_never_is : HasRun (code_of 0 returns) 0 100 (late ∷ []) → ⊥
an_entry_of_a_turn_that_never_is = no_run (code_of 0 returns) 0 100 (late ∷ []) (entered 0) (told 2 None) (begins_so 0 returns) (3, refl) refl

-- ---- where a machine stands

abbrev first : Entry
first = record { stamp = 1; turn = 0; event = event.Offer 0 0 (Int (pos 5 ∷ [])) }

pub none_is_numbered : IsNumbered []
none_is_numbered = record { fresh = λ link number le. refl; once = λ link number. omega arith; rooms = λ link number no. cc }

pub not_two_of_one_number : IsNumbered (first ∷ first ∷ []) → ⊥
not_two_of_one_number h = let no : 2 ≤ 1 = h.once 0 0 in omega (arith, no)

pub it_stands_in_the_turn_of_its_last_entry : (m : Machine) (flat : Flat) → m.journal ≡ late ∷ [] → flat.shared.turn ≡ 5 → StandsAt m (On flat)
it_stands_in_the_turn_of_its_last_entry m flat one turn = turn ∙ sym (ap (last_turn 0) one)

pub and_not_in_the_next : (m : Machine) (flat : Flat) → m.journal ≡ late ∷ [] → flat.shared.turn ≡ 6 → StandsAt m (On flat) → ⊥
and_not_in_the_next m flat one turn h = let no : 6 ≡ 5 = sym turn ∙ h ∙ ap (last_turn 0) one in omega (arith, no)

pub it_has_not_taken_the_same_offer_twice : (m : Machine) (o : Offers) → m.journal ≡ first ∷ first ∷ [] → IsPlayed m o → ⊥
it_has_not_taken_the_same_offer_twice m o twice h = not_two_of_one_number (subst IsNumbered twice h.numbered)

pub whether_it_took_all_or_not : (m : Machine) (o : Offers) → m.journal ≡ first ∷ first ∷ [] → (took_all : Bool) → IsReplayed m o took_all → ⊥
whether_it_took_all_or_not m o twice took_all h = it_has_not_taken_the_same_offer_twice m o twice h.played
