-- How far a core follows a journal, by example: one that ends in its first turn follows none, and misfits at an entry of a later turn.
use Rattle.std.proofs.Common.{◌≡◌, ◌<◌, ℕ, zero, suc, [], ◌∷◌, take, pos, true, false, refl, ap, arith, subst}
use Rattle.ac_base.specs.declared.entry.Entry.{Entry}
use Rattle.ac_base.specs.declared.entry.Event.TheVariants as event
use Rattle.ac_base.specs.declared.ends.EndWord.TheVariants.{Finished}
use Rattle.core_state.specs.Shared.{core_end}
use Rattle.stack_code.proofs.Examples.{begins_so, code_of, entered}
use Rattle.code_meaning.proofs.Examples.{returns}
use Rattle.replay_laws.specs.Given.{HasRun}
use Rattle.core_replay.specs.declared.replay.Followed.TheVariants.{Done, Misfit}
use Rattle.core_replay.specs.Following.{Follows, IsFront, MisfitsAt}
use Rattle.core_replay.specs.Replayed.{Replayed}
use Rattle.core_replay.proofs.Examples.{an_entry_of_a_turn_that_never_is, late}

abbrev it : Replayed
it = record { code = code_of 0 returns; core = 0; bound = 100; journal = []; took_all = true }

it_has_a_run : HasRun (code_of 0 returns) 0 100 []
it_has_a_run = record {
  end = core_end Finished false (pos 0 ∷ pos 5 ∷ []) [] (record { steps = 0; turn = 1; output = []; past = []; todo = []; requests = 0 });
  count = 2;
  runs = record { function = entered 0; begins = begins_so 0 returns; comes = (3, refl) };
}

pub it_follows_none : Follows it [] Done []
it_follows_none = (it_has_a_run, refl)

none_behind : (k : ℕ) → 0 < k → HasRun (code_of 0 returns) 0 100 (take k (late ∷ [])) → ⊥
none_behind zero lt = absurd (omega arith)
none_behind (suc zero) lt = an_entry_of_a_turn_that_never_is
none_behind (suc (suc k)) lt = an_entry_of_a_turn_that_never_is

pub it_misfits : MisfitsAt it (late ∷ []) 0
it_misfits = record {
  within = omega arith;
  runs = λ k le. let none : 0 ≡ k = omega arith in subst (λ n. HasRun (code_of 0 returns) 0 100 (take n (late ∷ []))) none it_has_a_run;
  none = none_behind;
}

pub so_it_follows_nothing_of_it : Follows it (late ∷ []) (Misfit 0) []
so_it_follows_nothing_of_it = (it_misfits, refl)

pub it_is_not_done : Follows it (late ∷ []) Done (late ∷ []) → ⊥
it_is_not_done h = an_entry_of_a_turn_that_never_is h.0

pub it_does_not_misfit_behind : Follows it (late ∷ []) (Misfit 1) (late ∷ []) → ⊥
it_does_not_misfit_behind h = let no = h.0.within in omega (arith, no)

abbrev early : Entry
early = record { stamp = 1; turn = 0; event = event.Know 0 0 }

pub the_first_is_a_front : IsFront (early ∷ late ∷ []) (early ∷ [])
the_first_is_a_front = record { is_front = refl }

pub the_second_is_none : IsFront (early ∷ late ∷ []) (late ∷ []) → ⊥
the_second_is_none h = let same : late ≡ early = cc (h.is_front) in let turn : 5 ≡ 0 = ap (λ (e : Entry). e.turn) same in omega (arith, turn)
