-- The code of a program has the same runs as the program.
-- The theorem of the crate. Both begin alike: globals, the request link, and the function of the core, which stands in the code
-- (Functions). From there the machine follows the core (Cores), so that by the simulation theorem of `core_state` they come to the same
-- ends.
use Rattle.std.proofs.Common.{◌≡◌, ℕ, zero, suc, ◌+◌, List, [], ◌∷◌, map, replicate, Option, Some, None, true, refl, sym, ap, ◌∙◌, subst, ◌↔◌}
use Rattle.std.specs.Prelude.{slice_get, slice_set, ℤ, pos}
use Rattle.std.proofs.lemmas.List.{length-map}
use Rattle.ac_base.specs.declared.ends.CoreEnd.{CoreEnd}
use Rattle.ac_base.specs.declared.entry.Entry.{Entry}
use Rattle.work_item.specs.Store.{no_int}
use Rattle.core_state.specs.Moves.{On, ComesTo}
use Rattle.core_state.specs.Frames.{begun, first_store, first_frame}
use Rattle.core_state.specs.Shared.{Shared, request_link, first_shared, begins}
use Rattle.core_state.proofs.Beginnings.{BothBegin, same_comes}
use Rattle.ac_commands.specs.declared.program.Core.{Core}
use Rattle.ac_commands.specs.declared.program.Function.{Function}
use Rattle.ac_commands.specs.declared.program.Start as program
use Rattle.ac_commands.specs.declared.program.Resolved.{Resolved}
use Rattle.ac_semantics.specs.Work.{Leave, before}
use Rattle.ac_semantics.specs.Threads.{step, with_starts, first_globals, shared_at_first, first_state}
use Rattle.ac_semantics.specs.Replay.{Enters, Replays}
use Rattle.stack_code.specs.declared.parts.Entered.{Entered}
use Rattle.stack_code.specs.Parts.{Parts}
use Rattle.code_meaning.specs.Machine.{FlatEnd, told, exec, with_starts as starts_made, first_globals as globals_made, first_core as first_machine, shared_at_first as shared_there, first_flat, Runs}
use Rattle.ac_translation.specs.Translation.{body_code, last_code, functions_code, no_exits, start_of, ends_of, code_of}
use Rattle.ac_translation.proofs.WellFormed.{in_function, are_well_formed, IsWellFormed}
use Rattle.ac_translation.specs.Same.{IsSame}
use Rattle.ac_translation.proofs.Sized.{body_sized}
use Rattle.ac_translation.proofs.Placed.{has_all, Placed, first_part, other_part, here}
use Rattle.ac_translation.proofs.Functions.{EntersAt, Paired, functions_paired, entry_of, function_of, IsCodeOf}
use Rattle.ac_translation.proofs.Works.{no_scope, Works, works, before_does}
use Rattle.ac_translation.proofs.Cores.{Accords, together, first_activation, core_follows, first_stands, cores_begin}

-- ---- globals

starts_are : (xs : List program.Start) (globals : List ℤ) → starts_made (map start_of xs) globals ≡ with_starts xs globals
starts_are [] globals = refl
starts_are (x ∷ xs) globals = starts_are xs (slice_set globals x.slot x.value)

-- ---- cores

record Core_of (cores : List Core) (n entry : ℕ) : Type 0 where
  core : Core
  is : slice_get cores n ≡ Some core
  enters : core.entry ≡ entry

core_of : (cores : List Core) (n entry : ℕ) → slice_get (map (λ (c : Core). c.entry) cores) n ≡ Some entry → Core_of cores n entry
core_of [] zero entry e = cc
core_of [] (suc n) entry e = cc
core_of (c ∷ cores) zero entry e = let same : c.entry ≡ entry = cc in record { core = c; is = refl; enters = same }
core_of (c ∷ cores) (suc n) entry e = let h = core_of cores n entry e in record { core = h.core; is = h.is; enters = h.enters }

entry_is : (cores : List Core) (n : ℕ) (core : Core) → slice_get cores n ≡ Some core → slice_get (map (λ (c : Core). c.entry) cores) n ≡ Some core.entry
entry_is [] zero core e = cc
entry_is [] (suc n) core e = cc
entry_is (c ∷ cores) zero core e = let same : c ≡ core = cc in ap (λ (k : Core). Some k.entry) same
entry_is (c ∷ cores) (suc n) core e = entry_is cores n core e

module _ (program : Resolved) where
  abbrev code : Parts
  code = code_of program

  placed : Placed code.instrs (functions_code program.functions) no_exits 0 (0 + (functions_code program.functions).size)
  placed = record { has = has_all code.instrs []; ends = refl }

  pairs : (n : ℕ) → Paired code.instrs (slice_get program.functions n) (slice_get code.functions n)
  pairs n = functions_paired code.instrs program.functions n 0 (0 + (functions_code program.functions).size) placed

  is_code : IsCodeOf code program
  is_code = record { texts = refl; functions = pairs }

  -- the thread of a core that is about to enter the function
  first_works : (f : Function) (e : Entered) → EntersAt code.instrs f e → are_well_formed f.body in_function ≡ true
      → Works code.instrs first_activation e.at [] (before first_frame f.body (Leave ∷ []))
  first_works f e h form =
      let body_at = first_part code.instrs (body_code f.body) last_code h.stands in
      let last_at = other_part code.instrs (body_code f.body) last_code (body_sized f.body) h.stands in
      works no_scope (before_does code.instrs first_activation f.body (Leave ∷ []) no_scope form body_at (record {
        last = record { at = e.at + (body_code f.body).size; to = h.to; jumps = here; stands = last_at; no_loop = refl; no_block = refl };
        alone = refl;
        entered = refl;
        nothing = refl;
      }))

  -- the requests of a core have the same link
  requests_are : (core : ℕ) (journal : List Entry) → shared_there code core journal ≡ shared_at_first program core journal
  requests_are core journal = ap (λ channels. first_shared (request_link channels core) journal) (length-map program.channels ends_of)

  both_begin : (f : Function) (e : Entered) → EntersAt code.instrs f e → are_well_formed f.body in_function ≡ true → (core bound : ℕ) (journal : List Entry)
      → BothBegin (Accords code program bound) (λ (x : FlatEnd). x.core) (first_state program core f journal) (first_flat code core e journal)
  both_begin f e h form core bound journal =
      let globals = starts_are program.starts (replicate program.slots (pos 0)) in
      let s = shared_at_first program core journal in
      let start = λ (gs : List ℤ) (s : Shared) (words : ℕ). begins (told 0) gs s words (λ store. On (first_machine e s store)) in
      let same : start (first_globals program) s f.slots ≡ first_flat code core e journal = ap (λ gs. start gs s f.slots) (sym globals) ∙ ap (start (globals_made code) s) (sym h.words)
      ∙ ap (λ s. start (globals_made code) s e.words) (sym (requests_are core journal)) in
      let made = begun (first_store (first_globals program)) None (replicate f.slots no_int) in
      subst (BothBegin (Accords code program bound) (λ (x : FlatEnd). x.core) (first_state program core f journal)) same
      (cores_begin (Accords code program bound) (first_globals program) s made f e (λ store. together (first_stands code f e s store (first_works f e h form))))

  runs_same : IsWellFormed program → (f : Function) (e : Entered) → EntersAt code.instrs f e → are_well_formed f.body in_function ≡ true
      → (core bound : ℕ) (journal : List Entry) (end : Option CoreEnd) →
      ComesTo (step program bound) (first_state program core f journal) end ↔ ((count : ℕ) × ComesTo (exec code bound) (first_flat code core e journal) (record { core = end; count = count }))
  runs_same fine f e h form core bound journal end =
      let both = same_comes (step program bound) (exec code bound) (Accords code program bound) (λ (x : FlatEnd). x.core) (core_follows code program is_code fine bound)
      (first_state program core f journal) (first_flat code core e journal) (both_begin f e h form core bound journal) end in (
        λ x. let y = both.0 x in (y.0.count, subst (λ o. ComesTo (exec code bound) (first_flat code core e journal) (record { core = o; count = y.0.count })) y.2 y.1),
        λ x. both.1 (record { core = end; count = x.0 }, x.1, refl),
      )

  module _ (fine : IsWellFormed program) (core bound : ℕ) (journal : List Entry) (end : Option CoreEnd) where
    forth : Replays program core bound journal end → (count : ℕ) × Runs code core bound journal (record { core = end; count = count })
    forth h =
        let enters = h.enters in
        let e = entry_of code.instrs h.function (slice_get program.functions enters.here.entry) (slice_get code.functions enters.here.entry) (pairs enters.here.entry) enters.function_is in
        let x = (runs_same fine h.function e.entered e.enters (fine.bodies enters.here.entry h.function enters.function_is) core bound journal end).0 h.ends in
        (x.0, record { function = e.entered; begins = record { entry = enters.here.entry; entry_is = entry_is program.cores core enters.here enters.core_is; function_is = e.is }; comes = x.1 })

    back : ((count : ℕ) × Runs code core bound journal (record { core = end; count = count })) → Replays program core bound journal end
    back h =
        let begins = h.1.begins in
        let c = core_of program.cores core begins.entry begins.entry_is in
        let f = function_of code.instrs h.1.function (slice_get program.functions begins.entry) (slice_get code.functions begins.entry) (pairs begins.entry) begins.function_is in
        let enters : Enters program core f.function = record { here = c.core; core_is = c.is; function_is = subst (λ n. slice_get program.functions n ≡ Some f.function) (sym c.enters) f.is } in
        record {
          function = f.function;
          enters = enters;
          ends = (runs_same fine f.function h.1.function f.enters (fine.bodies c.core.entry f.function enters.function_is) core bound journal end).1
              (h.0, h.1.comes);
        }

  pub code_same : IsWellFormed program → IsSame (code_of program) program
  code_same fine core bound journal end = (forth fine core bound journal end, back fine core bound journal end)
