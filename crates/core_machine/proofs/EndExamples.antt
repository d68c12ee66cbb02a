-- The end to which a core comes, and its operations at its own ends, by example.
-- Most hold by computing; that a code has no send or receive is seen address by address.
use Rattle.std.proofs.Common.{◌≡◌, ℕ, zero, suc, refl, codes, pos, true, false, [], ◌∷◌, Some, None}
use Rattle.std.specs.Prelude.{slice_get}
use Rattle.std.proofs.lemmas.List.Elements.{All-nil, All-head}
use Rattle.ac_base.specs.declared.ends.EndWord.TheVariants.{Finished}
use Rattle.cancel_scope.specs.declared.operation.Operation.{Operation}
use Rattle.core_state.specs.Moves.{Move, On, Over}
use Rattle.core_state.specs.Shared.{core_end}
use Rattle.code_meaning.specs.Machine.{Flat, FlatEnd}
use Rattle.code_meaning.proofs.Examples.{ended, it_is_an_end, prints_seven, returns}
use Rattle.stack_code.proofs.Examples.{code_of}
use Rattle.stack_code.specs.declared.instr.Instr.TheVariants as i
use Rattle.code_safety.specs.KeptEnds.{IsAtEnd, KeepsEnds}
use Rattle.core_machine.specs.Machine.{Machine, ComesToEnd, has_stopped}
use Rattle.core_machine.specs.Points.{KeepsOperations}
use Rattle.core_machine.proofs.Examples.{hears, running, second, sends, with_operations}

-- a core of a code that prints 7, in that state
abbrev core_in : Move Flat FlatEnd → Machine
core_in state = record { code = code_of 0 prints_seven; core = 0; bound = 100; journal = []; state = state; room = false }

-- it has ended so
pub it_comes_to_its_end : ComesToEnd (core_in (ended Finished 1 (codes "7\n") (pos 0 ∷ pos 5 ∷ []) 9))
it_comes_to_its_end = record {
  end = record { core = core_end Finished false (pos 0 ∷ pos 5 ∷ []) [] (record { steps = 1; turn = 1; output = codes "7\n"; past = []; todo = []; requests = 0 }); instructions = 9 };
  comes = it_is_an_end;
  seen = λ stopped. (refl, refl);
  busy = λ ended. refl;
}

-- nothing would be seen of it
pub not_to_an_end_unseen : ComesToEnd (core_in (Over (record { core = None; count = 9 }))) → ⊥
not_to_an_end_unseen h = let seen = (h.seen refl).0 in cc

pub whether_it_has_stopped : (has_stopped (On running) ≡ true) × (has_stopped (On (record running { ready = second ∷ [] })) ≡ false) × (has_stopped (Over (record { core = None; count = 9 })) ≡ true)
whether_it_has_stopped = (refl, refl, refl)

-- ---- operations at its own ends

-- a code that neither sends nor receives
keeps_its_ends : KeepsEnds (code_of 0 returns)
keeps_its_ends = record { sends = λ core channel z. absurd (no_send channel z.at z.stands); receives = λ core channel z. absurd (no_receive channel z.at z.stands) }
  where
    no_send : (channel at : ℕ) → slice_get returns at ≡ Some (i.Send channel) → ⊥
    no_send channel zero s = cc
    no_send channel (suc zero) s = cc
    no_send channel (suc (suc at)) s = cc

    no_receive : (channel at : ℕ) → slice_get returns at ≡ Some (i.Recv channel) → ⊥
    no_receive channel zero s = cc
    no_receive channel (suc zero) s = cc
    no_receive channel (suc (suc at)) s = cc

abbrev at_its_end : Operation → Type 0
at_its_end o = IsAtEnd (code_of 0 returns) 0 o.link o.asked

abbrev without_channels : Move Flat FlatEnd → Machine
without_channels state = record { code = code_of 0 returns; core = 0; bound = 9; journal = []; state = state; room = false }

pub no_operation_at_all : KeepsOperations (without_channels (On running))
no_operation_at_all keeps = All-nil at_its_end

pub one_at_no_end : KeepsOperations (without_channels (On with_operations)) → ⊥
one_at_no_end h =
    let end = All-head at_its_end sends (hears ∷ []) (h keeps_its_ends) in
    let no : None ≡ Some end.ends = end.there in
    cc
