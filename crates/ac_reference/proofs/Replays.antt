-- The end of a core by the function that it enters, and the journals that do not fit.
-- `ac_interpreter` speaks of a core by its function, `replay` by its number; a core enters one function, so ends and misfits are the same.
-- Then the same of an equal program, which was made on the way.
use Rattle.std.proofs.Common.{◌≡◌, ℕ, ◌+◌, ◌<◌, List, [], length, take, Option, Some, None, refl, sym, ◌∙◌, subst}
use Rattle.std.specs.Prelude.{slice_get, Result, Err, IfOk}
use Rattle.std.proofs.lemmas.Option.{slice_get_within}
use Rattle.ac_base.specs.declared.ends.CoreEnd.{CoreEnd}
use Rattle.ac_base.specs.declared.entry.Entry.{Entry}
use Rattle.ac_commands.specs.declared.program.Core.{Core}
use Rattle.ac_commands.specs.declared.program.Function.{Function}
use Rattle.ac_commands.specs.declared.program.Resolved.{Resolved}
use Rattle.ac_semantics.specs.Replay.{Enters, Replays}
use Rattle.ac_compile.specs.OneEnd.{IsOnly}
use Rattle.ac_interpreter.specs.Unfit.{RunEnds, IsUnfit}
use Rattle.ac_reference.specs.declared.fault.ReplayFault.{ReplayFault}
use Rattle.ac_reference.specs.declared.fault.ReplayFault.TheVariants.{Misfit}
use Rattle.ac_reference.specs.Misfits.{HasReplay, IsMisfit}

same_there : {A : Type 0} (xs : List A) (n m : ℕ) (x y : A) → n ≡ m → slice_get xs n ≡ Some x → slice_get xs m ≡ Some y → x ≡ y
same_there {A} xs n m x y e h k =
    let there : slice_get xs m ≡ Some x = subst (λ (i : ℕ). slice_get xs i ≡ Some x) e h in
    let same : Some x ≡ Some y = sym there ∙ k in
    cc

one_function : (program : Resolved) (core : ℕ) (f g : Function) → Enters program core f → Enters program core g → f ≡ g
one_function program core f g h k =
    let here : Some h.here ≡ Some k.here = sym h.core_is ∙ k.core_is in
    let entry : h.here.entry ≡ k.here.entry = cc in
    same_there program.functions h.here.entry k.here.entry f g entry h.function_is k.function_is

pub has_core : (program : Resolved) (core : ℕ) (f : Function) → Enters program core f → core < length program.cores
has_core program core f h = slice_get_within program.cores core h.here h.core_is

pub has_function : (program : Resolved) (core : ℕ) (here : Core) (f : Function) → Enters program core f → slice_get program.cores core ≡ Some here → here.entry < length program.functions
has_function program core here f h there =
    let both : Some h.here ≡ Some here = sym h.core_is ∙ there in
    let same : h.here ≡ here = cc in
    slice_get_within program.functions here.entry f (subst (λ (x : Core). slice_get program.functions x.entry ≡ Some f) same h.function_is)

-- the end by the function that the core enters
pub end_there : (p : Resolved) (core bound : ℕ) (f : Function) → Enters p core f → (journal : List Entry) (end : Option CoreEnd) → Replays p core bound journal end → RunEnds p core f bound journal end
end_there p core bound f enters journal end h =
    subst (λ (g : Function). RunEnds p core g bound journal end) (one_function p core h.function f h.enters enters) h.ends

pub replay_of : (p : Resolved) (core bound : ℕ) (f : Function) → Enters p core f → (journal : List Entry) (end : Option CoreEnd) → RunEnds p core f bound journal end → Replays p core bound journal end
replay_of p core bound f enters journal end h = record { function = f; enters = enters; ends = h }

seen_or_none : {A : Type 0} (end : Option CoreEnd) → ((x : CoreEnd) → end ≡ Some x → A) → (end ≡ None → A) → A
seen_or_none None some none = none refl
seen_or_none (Some x) some none = some x refl

module _ (p : Resolved) (core bound : ℕ) (one : (entries : List Entry) → IsOnly (λ (end : Option CoreEnd). Replays p core bound entries end)) where
  pub it_enters : (f : Function) × Enters p core f
  it_enters = let here = (one []).comes in (here.function, here.enters)

  module _ (f : Function) (enters : Enters p core f) where
    pub it_ends : (journal : List Entry) → (end : Option CoreEnd) × RunEnds p core f bound journal end
    it_ends journal = ((one journal).end, end_there p core bound f enters journal (one journal).end (one journal).comes)

    -- no journal has an end that is seen and one that is not
    not_both : (journal : List Entry) → HasReplay p core bound journal → RunEnds p core f bound journal None → ⊥
    not_both journal h none =
        let only = one journal in
        let some = only.only (Some h.0) h.1 in
        let other = only.only None (replay_of p core bound f enters journal None none) in
        let no : Some h.0 ≡ None = some ∙ sym other in
        cc

    has_replay : (journal : List Entry) → (RunEnds p core f bound journal None → ⊥) → HasReplay p core bound journal
    has_replay journal seen =
        let only = one journal in
        seen_or_none only.end
        (λ x is. (x, subst (λ (end : Option CoreEnd). Replays p core bound journal end) is only.comes))
        (λ is. absurd (seen (end_there p core bound f enters journal None (subst (λ (end : Option CoreEnd). Replays p core bound journal end) is only.comes))))

    pub is_misfit : (journal : List Entry) (place : ℕ) → IsUnfit p core f bound journal place → IsMisfit p core bound journal place
    is_misfit journal place h = record {
      inside = h.inside;
      unfit = λ r. not_both (take (place + 1) journal) r h.unfit;
      before = λ earlier less. has_replay (take (earlier + 1) journal) (h.before earlier less);
    }

-- of an equal core
pub unfit_there : (p q : Resolved) (a c : ℕ) (f g : Function) (b d : ℕ) (xs ys : List Entry) (place : ℕ) → q ≡ p → c ≡ a → g ≡ f → d ≡ b → ys ≡ xs → IsUnfit q c g d ys place → IsUnfit p a f b xs place
unfit_there p q a c f g b d xs ys place program core function bound journal h =
    subst (λ (r : Resolved). IsUnfit r a f b xs place) program
    (subst (λ (n : ℕ). IsUnfit q n f b xs place) core
    (subst (λ (x : Function). IsUnfit q c x b xs place) function
    (subst (λ (n : ℕ). IsUnfit q c g n xs place) bound (subst (λ (es : List Entry). IsUnfit q c g d es place) journal h))))

pub one_place : (x place : ℕ) → ◌≡◌ {A = Result CoreEnd ReplayFault} (Err (Misfit x)) (Err (Misfit place)) → x ≡ place
one_place x place e = cc

-- ---- what is known of the whole program, of an equal one

module _ (p whole : Resolved) (core bound : ℕ) (same : p ≡ whole) where
  pub one_there : ((entries : List Entry) → IsOnly (λ (end : Option CoreEnd). Replays whole core bound entries end))
      → (entries : List Entry) → IsOnly (λ (end : Option CoreEnd). Replays p core bound entries end)
  one_there one entries = subst (λ (w : Resolved). IsOnly (λ (end : Option CoreEnd). Replays w core bound entries end)) (sym same) (one entries)

  pub ok_there : (journal : List Entry) (r : Result CoreEnd ReplayFault) → IfOk r (λ end. Replays p core bound journal (Some end)) → IfOk r (λ end. Replays whole core bound journal (Some end))
  ok_there journal r h = subst (λ (w : Resolved). IfOk r (λ end. Replays w core bound journal (Some end))) same h

  pub none_there : (journal : List Entry) → Replays p core bound journal None → Replays whole core bound journal None
  none_there journal h = subst (λ (w : Resolved). Replays w core bound journal None) same h

  pub misfit_there : (journal : List Entry) (place : ℕ) → IsMisfit p core bound journal place → IsMisfit whole core bound journal place
  misfit_there journal place h = subst (λ (w : Resolved). IsMisfit w core bound journal place) same h
