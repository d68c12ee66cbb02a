-- The journal of a core is gathered entry by entry; and a core that has a run under its journal follows it to the end, so that what it comes to
-- then is what it comes to under the journal.
use Rattle.std.proofs.Common.{◌≡◌, ℕ, List, [], ◌∷◌, ◌++◌, length, Result, Ok, Err, Some, sym, ap, ◌∙◌, subst, append_assoc, arith}
use Rattle.std.specs.Prelude.{IfOk}
use Rattle.std.proofs.lemmas.List.{take_all}
use Rattle.ac_base.specs.declared.ends.MachineEnd.{MachineEnd}
use Rattle.ac_base.specs.declared.entry.Entry.{Entry}
use Rattle.ac_base.specs.declared.entry.Stamped.{Stamped}
use Rattle.code_meaning.specs.Machine.{FlatEnd, Runs}
use Rattle.core_replay.specs.declared.replay.Followed.TheVariants.{Misfit}
use Rattle.core_replay.specs.Following.{Follows}
use Rattle.core_replay.specs.Replayed.{IsSameCore, Replayed}
use Rattle.replay_laws.specs.Given.{HasRun}
use Rattle.stack_code.specs.Parts.{Parts}
use Rattle.trace_audit.specs.RunTrace.{journal_of}
use Rattle.trace_audit.proofs.Merging.{journal_append}

-- ---- the journal

-- the next of the entries that are left is added, if it is one of the party
pub gathered : (party : ℕ) (front after whole : List Entry) (s : Stamped) (left rest : List Stamped) → left ≡ s ∷ rest → after ≡ front ++ journal_of party (s ∷ [])
    → front ++ journal_of party left ≡ whole → after ++ journal_of party rest ≡ whole
gathered party front after whole s left rest next added h =
    ap (λ es. es ++ journal_of party rest) added ∙ append_assoc front (journal_of party (s ∷ [])) (journal_of party rest)
    ∙ ap (λ es. front ++ es) (sym (journal_append party (s ∷ []) rest)) ∙ ap (λ ss. front ++ journal_of party ss) (sym next) ∙ h

-- ---- a core

-- the same of the core that follows
pub runs_as : (r : Replayed) (code : Parts) (core bound : ℕ) (journal es : List Entry) → r.code ≡ code → r.core ≡ core → r.bound ≡ bound → es ≡ journal → HasRun code core bound journal
    → HasRun r.code r.core r.bound es
runs_as r code core bound journal es a b c d run =
    subst (λ (x : Parts). HasRun x r.core r.bound es) (sym a) (subst (λ n. HasRun code n r.bound es) (sym b) (subst (λ n. HasRun code core n es) (sym c)
    (subst (λ xs. HasRun code core bound xs) (sym d) run)))

pub never_misfits : (r : Replayed) (journal taken : List Entry) (place : ℕ) → HasRun r.code r.core r.bound journal → Follows r journal (Misfit place) taken → ⊥
never_misfits r journal taken place run f =
    f.0.none (length journal) f.0.within (subst (HasRun r.code r.core r.bound) (sym (take_all (length journal) journal (omega arith))) run)

-- how a core has ended
abbrev pub end_as : MachineEnd → FlatEnd
end_as end = record { core = Some end.core; count = end.instructions }

pub ends_under : {E : Type 0} (r : Result MachineEnd E) (before after : Replayed) (code : Parts) (core bound : ℕ) (journal : List Entry) → IsSameCore before after → before.code ≡ code
    → before.core ≡ core → before.bound ≡ bound → after.journal ≡ journal → IfOk r (λ end. Runs after.code after.core after.bound after.journal (end_as end))
    → IfOk r (λ end. Runs code core bound journal (end_as end))
ends_under (Err e) before after code core bound journal same a b c d h = tt
ends_under (Ok end) before after code core bound journal same a b c d h =
    subst (λ (x : Parts). Runs x core bound journal (end_as end)) (same.code ∙ a) (subst (λ n. Runs after.code n bound journal (end_as end)) (same.core ∙ b)
    (subst (λ n. Runs after.code after.core n journal (end_as end)) (same.bound ∙ c) (subst (λ es. Runs after.code after.core after.bound es (end_as end)) d h)))
