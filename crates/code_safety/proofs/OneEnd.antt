-- The core of a valid code each of whose instructions has a meaning comes to one end and to no other, for every journal.
-- That there is an end is Beginnings; that there is no other holds of every machine (`one_end` of Simulation, in `core_state`).
use Rattle.std.proofs.Common.{◌≡◌, ℕ, ◌<◌, List, length, Some, sym, ap, ◌∙◌, subst}
use Rattle.std.specs.Prelude.{slice_get, slice_index_or}
use Rattle.std.proofs.lemmas.Option.{slice_get-get_or}
use Rattle.ac_base.specs.declared.entry.Entry.{Entry}
use Rattle.core_state.specs.Moves.{Move, On, Over, ComesTo}
use Rattle.core_state.proofs.Simulation.{one_end}
use Rattle.stack_code.specs.declared.parts.Entered.{Entered}
use Rattle.stack_code.specs.Parts.{Parts, Begins}
use Rattle.stack_code.specs.Valid.{IsValid}
use Rattle.stack_code.specs.Kept.{IsRanked}
use Rattle.code_meaning.specs.Machine.{Flat, FlatEnd, exec, first_flat, Runs}
use Rattle.code_safety.specs.Ends.{EndsOnlySo}
use Rattle.code_safety.proofs.Beginnings.{comes_to}

same_end : (code : Parts) (bound : ℕ) (a : Move Flat FlatEnd) (d e : FlatEnd) → ComesTo (exec code bound) a d → ComesTo (exec code bound) a e → d ≡ e
same_end code bound (On s) d e h k = one_end (exec code bound) s d e (h.0, sym h.1) (k.0, sym k.1)
same_end code bound (Over x) d e h k =
    let first : Over d ≡ Over x = h.1 in
    let other : Over e ≡ Over x = k.1 in
    cc

same_function : (code : Parts) (core : ℕ) (f g : Entered) → Begins code core f → Begins code core g → f ≡ g
same_function code core f g h k =
    let entry : h.entry ≡ k.entry = let both : Some h.entry ≡ Some k.entry = sym h.entry_is ∙ k.entry_is in cc in
    let both : Some f ≡ Some g = sym h.function_is ∙ ap (slice_get code.functions) entry ∙ k.function_is in
    cc

module _ (code : Parts) (v : IsValid code) (core : ℕ) (lt : core < length code.entries) where
  -- a core has a function that it enters
  begins_with_one : (function : Entered) × Begins code core function
  begins_with_one =
      let entry = slice_index_or code.entries core 0 in
      let e = v.lists.cores.enters core 0 lt in
      (e.function, record { entry = entry; entry_is = slice_get-get_or code.entries core 0 lt; function_is = e.is })

  module _ (ranks : List ℕ) (ranked : IsRanked code ranks) (bound : ℕ) (journal : List Entry) where
    pub ends_only_so : (end : FlatEnd) × EndsOnlySo code core bound journal end
    ends_only_so =
        let b = begins_with_one in
        let c = comes_to code bound v ranks ranked core b.0 b.1 journal in
        let runs : Runs code core bound journal c.0 = record { function = b.0; begins = b.1; comes = c.1 } in (
          c.0,
          record {
            comes = runs;
            only = λ other r. same_end code bound (first_flat code core b.0 journal) other c.0
                (subst (λ (f : Entered). ComesTo (exec code bound) (first_flat code core f journal) other) (same_function code core r.function b.0 r.begins b.1) r.comes) c.1;
          },
        )
