-- The code of a program without channels and files starts no operation.
-- One use of EachInPlace: such a program has no action on a channel or a file, and no form has another instruction that starts an
-- operation. A cancel starts none.
use Rattle.std.proofs.Common.{◌≡◌, ℕ, ◌<◌, List, [], length, true, refl, ap, arith}
use Rattle.std.proofs.lemmas.Option.{slice_get_within}
use Rattle.ac_tree.specs.declared.item.Program.{Program}
use Rattle.ac_tree.specs.Shape.{HasShape}
use Rattle.ac_types.specs.Reached.{BreaksNone}
use Rattle.ac_commands.specs.declared.value.Action.{Action}
use Rattle.ac_commands.specs.declared.program.Resolved.{Resolved}
use Rattle.stack_code.specs.declared.instr.Instr.{Instr}
use Rattle.stack_code.specs.declared.instr.Instr.TheVariants as i
use Rattle.code_meaning.specs.Alone.{is_alone, starts_none, IsAlone}
use Rattle.ac_resolve.specs.Resolution.{resolved}
use Rattle.ac_resolve.specs.InPlace.{Want, Wants, call, send, recv, read, write}
use Rattle.ac_resolve.proofs.ProgramInPlace.{all_in_place}
use Rattle.ac_translation.specs.Translation.{action_code, no_exits, code_of}
use Rattle.ac_compile.proofs.Instructions.{is_own, own_alone}
use Rattle.ac_compile.proofs.EachInPlace.{all_each, functions_hold}

abbrev P : Instr → Type 0
P x = starts_none x ≡ true

alone_none : (x : Instr) → is_alone x ≡ true → starts_none x ≡ true
alone_none (i.Cancel level slot) e = refl
alone_none x e = e

own : (x : Instr) → is_own x ≡ true → P x
own x e = alone_none x (own_alone x e)

module _ (program : Resolved) (none : program.channels ≡ []) (no_files : program.files ≡ []) where
  no_channel : (channel : ℕ) → channel < length program.channels → ⊥
  no_channel channel lt = let e = ap (λ xs. length xs) none in omega (arith, lt, e)

  no_file : (file : ℕ) → file < length program.files → ⊥
  no_file file lt = let e = ap (λ xs. length xs) no_files in omega (arith, lt, e)

  acts_alone : (action : Action) (wants : List Want) (count : ℕ) → Wants program action wants → P (action_code action count)
  acts_alone _ _ count (call n f e) = refl
  acts_alone _ _ count (send number channel e) = absurd (no_channel number (slice_get_within program.channels number channel e))
  acts_alone _ _ count (recv number channel e) = absurd (no_channel number (slice_get_within program.channels number channel e))
  acts_alone _ _ count (read file lt) = absurd (no_file file lt)
  acts_alone _ _ count (write file lt) = absurd (no_file file lt)

pub code_alone : (program : Program) → BreaksNone program.items → HasShape program → (resolved program).channels ≡ [] → (resolved program).files ≡ [] → IsAlone (code_of (resolved program))
code_alone program clean shaped none no_files =
    let r = resolved program in
    let place = all_in_place program clean shaped in
    all_each P own _ ((functions_hold r P own (λ level slot. refl) (acts_alone r none no_files) r.functions place.functions).each no_exits 0)
