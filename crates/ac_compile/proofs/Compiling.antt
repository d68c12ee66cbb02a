-- What is said of the code of a program, from what is known of the program.
-- Here the clauses of `compile` come together: the code is the translation, short enough (Weights), valid (Validity), has the same runs as
-- its source, keeps its ends (EndsKept), and has one end (OneEnd).
use Rattle.std.proofs.Common.{◌≡◌, ◌+◌, ◌<◌, ◌^◌, length, Result, Ok, Err, IfOk, sym, ap, ◌∙◌, subst}
use Rattle.std.proofs.lemmas.List.{length-map}
use Rattle.ac_tree.specs.declared.item.Program.{Program}
use Rattle.ac_tree.specs.Weight.{IsSmall}
use Rattle.ac_commands.specs.declared.program.Resolved.{Resolved}
use Rattle.ac_resolve.specs.InPlace.{IsInPlace}
use Rattle.ac_resolve.specs.Resolution.{resolved}
use Rattle.stack_code.specs.Parts.{Parts}
use Rattle.stack_code.specs.Valid.{IsValid}
use Rattle.ac_translation.specs.Translation.{functions_code, code_of}
use Rattle.ac_translation.specs.Same.{IsSame}
use Rattle.ac_translation.proofs.Agrees.{code_same}
use Rattle.ac_compile.specs.Compiled.{IsCodeOf}
use Rattle.ac_tree.specs.Shape.{HasShape}
use Rattle.ac_types.specs.Reached.{BreaksNone}
use Rattle.code_safety.specs.KeptEnds.{KeepsEnds}
use Rattle.ac_compile.proofs.EndsKept.{keeps_ends}
use Rattle.ac_compile.proofs.Weights.{code_small, links_small}
use Rattle.ac_compile.specs.OneEnd.{HasOneEnd}
use Rattle.ac_compile.specs.inner.Made.{HasRanks}
use Rattle.ac_compile.proofs.Formed.{well_formed}
use Rattle.ac_compile.proofs.Validity.{code_valid}
use Rattle.ac_compile.proofs.OneEnd.{has_one_end}

module _ (p : Program) (r : Resolved) (is : r ≡ resolved p) where
  pub is_short : IsSmall p → (functions_code r.functions).size < 2 ^ 32
  is_short small = subst (λ (x : Resolved). (functions_code x.functions).size < 2 ^ 32) (sym is) (code_small p small)

  pub is_few : IsSmall p → length r.channels + length r.cores < 2 ^ 32
  is_few small = subst (λ (x : Resolved). length x.channels + length x.cores < 2 ^ 32) (sym is) (links_small p small)

  pub is_code : (code : Parts) → code ≡ code_of r → IsCodeOf p code
  is_code code e = e ∙ ap code_of is

  pub is_same : IsInPlace r → (code : Parts) → code ≡ code_of r → IsSame code (resolved p)
  is_same place code e =
      subst (λ (x : Parts). IsSame x (resolved p)) (sym (is_code code e)) (code_same (resolved p) (well_formed (resolved p) (subst IsInPlace is place)))

  pub is_at_ends : BreaksNone p.items → HasShape p → (code : Parts) → code ≡ code_of r → KeepsEnds code
  is_at_ends none shaped code e = subst KeepsEnds (sym (is_code code e)) (keeps_ends p none shaped)

  pub is_one_end : IsInPlace r → IsSmall p → (code : Parts) → code ≡ code_of r → HasRanks code → HasOneEnd code (resolved p)
  is_one_end place small code e ranks =
      has_one_end code (resolved p) (is_same place code e) (subst IsValid (sym e) (code_valid r place (is_short small) (is_few small))) ranks
      (ap (λ (x : Parts). length x.entries) e ∙ length-map r.cores _ ∙ ap (λ (x : Resolved). length x.cores) is)

pub if_both : {A E : Type 0} {P Q S : A → Type 0} (r : Result A E) → ((x : A) → P x → Q x → S x) → IfOk r P → IfOk r Q → IfOk r S
if_both (Ok x) f h k = f x h k
if_both (Err e) f h k = tt
