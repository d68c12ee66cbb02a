-- A core of a program comes to one end alone.
-- A core enters one function, and a run has one end (Simulation, in `core_state`).
use Rattle.std.proofs.Common.{◌≡◌, ℕ, List, Option, Some, refl, sym, ◌∙◌, subst}
use Rattle.std.specs.Prelude.{slice_get}
use Rattle.ac_base.specs.declared.ends.CoreEnd.{CoreEnd}
use Rattle.ac_base.specs.declared.entry.Entry.{Entry}
use Rattle.core_state.specs.Moves.{Move, On, Over, ComesTo}
use Rattle.core_state.proofs.Simulation.{one_end}
use Rattle.ac_commands.specs.declared.program.Function.{Function}
use Rattle.ac_commands.specs.declared.program.Resolved.{Resolved}
use Rattle.ac_semantics.specs.Threads.{step, first_state}
use Rattle.ac_semantics.specs.Replay.{Enters, Replays}

only_end : {S E : Type 0} (f : S → Move S E) (a : Move S E) (d e : E) → ComesTo f a d → ComesTo f a e → d ≡ e
only_end f (On s) d e h k = one_end f s d e (h.0, sym h.1) (k.0, sym k.1)
only_end f (Over x) d e h k =
    let first : Over d ≡ Over x = h.1 in
    let other : Over e ≡ Over x = k.1 in
    cc

-- ---- a core enters one function

same_there : {A : Type 0} (xs : List A) (n m : ℕ) (x y : A) → n ≡ m → slice_get xs n ≡ Some x → slice_get xs m ≡ Some y → x ≡ y
same_there {A} xs n m x y e h k =
    let there : slice_get xs m ≡ Some x = subst (λ (i : ℕ). slice_get xs i ≡ Some x) e h in
    let same : Some x ≡ Some y = sym there ∙ k in
    cc

enters_one : (program : Resolved) (core : ℕ) (f g : Function) → Enters program core f → Enters program core g → f ≡ g
enters_one program core f g h k =
    let here = same_there program.cores core core h.here k.here refl h.core_is k.core_is in
    let entry : h.here.entry ≡ k.here.entry = cc in
    same_there program.functions h.here.entry k.here.entry f g entry h.function_is k.function_is

-- ---- and comes to one end

pub source_only : (program : Resolved) (core bound : ℕ) (journal : List Entry) (d e : Option CoreEnd) → Replays program core bound journal d → Replays program core bound journal e → d ≡ e
source_only program core bound journal d e h k =
    let is = enters_one program core h.function k.function h.enters k.enters in
    let ends = subst (λ (f : Function). ComesTo (step program bound) (first_state program core f journal) d) is h.ends in
    only_end (step program bound) (first_state program core k.function journal) d e ends k.ends
