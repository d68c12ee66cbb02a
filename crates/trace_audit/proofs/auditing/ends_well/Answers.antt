use Rattle.std.proofs.Common.{◌≡◌, ◌∙◌, sym, subst, ℕ, ◌≤◌, List, length, Bool, true}
use Rattle.std.specs.Prelude.{◌↔◌, IsTrue, All}
use Rattle.ac_history.specs.Quiet.{owner_in, peer_in, IsQuiet}
use Rattle.ac_history.specs.declared.quiet.LinkParties.{LinkParties}
use Rattle.ac_base.specs.declared.ends.CoreEnd.{CoreEnd}
use Rattle.trace_audit.specs.RunTrace.{file_limit}
use Rattle.trace_audit.specs.inner.Comparing.{AreTold}
use Rattle.trace_audit.proofs.Ending.{as_many_parties, ends_well, passes, both_then, both_else, is_false, are_equal}
use Rattle.trace_audit.proofs.auditing.ends_well.Goals as goal
use Rattle.trace_audit.proofs.auditing.ends_well.Goals.{then-len-files, else-len-files, then-are_short, else-are_short, then-are_told, else-are_told}

abbrev AreShort : List (List ℕ) → Type 0
AreShort start = All (λ bytes. length bytes ≤ file_limit) start

-- the test is true just where both hold
abbrev Decides : Bool → Type 0 → Type 0 → Type 0
Decides v A B = (v ≡ true → A × B) × (A × B → v ≡ true)

pub is_quiet-requires : goal.is_quiet-requires
is_quiet-requires c = as_many_parties c.args.code.now c.args.files c.args.trace.now c.args.legal.now c.args.replays.cores.items c.in_ok-ends.ends c.in_ok-parties.parties c.requires
    c.in_ok-ends.ensures c.in_ok-parties.ensures.count c.in_ok-parties.ensures.owners c.in_ok-parties.ensures.peers

pub returns : goal.returns
returns c =
    let t = c.args.trace.now in
    let ends : List CoreEnd = c.in_ok-ends.ends in
    let parties : List LinkParties = c.in_ok-parties.parties in
    let first : Decides c.if-len-files.value (length t.start ≡ c.args.files) (AreShort t.start) =
    elim c.if-len-files.branch [
      | then-len-files w ↦ both_then c.if-len-files.value w.are_short.result (sym c.len.ensures ∙ w.if-len-files.true)
          (subst (λ start. IsTrue w.are_short.result ↔ AreShort start) w.as_slice.ensures w.are_short.ensures) w.value-is
      | else-len-files w ↦ both_else c.if-len-files.value (λ e. w.if-len-files.false (c.len.ensures ∙ e))
          (λ h. sym c.len.ensures ∙ are_equal c.len.result c.args.files (sym w.value-is ∙ h))
    ] in
    let second : Decides c.if-are_short.value ((length t.start ≡ c.args.files) × AreShort t.start) (AreTold t.ends ends) =
    elim c.if-are_short.branch [
      | then-are_short w ↦ both_then c.if-are_short.value w.are_told.result (first.0 w.if-are_short.true)
          (subst (λ tolds. IsTrue w.are_told.result ↔ AreTold tolds ends) w.as_slice-then-are_short.ensures
          (subst (λ es. IsTrue w.are_told.result ↔ AreTold w.as_slice-then-are_short.result.now es) w.as_slice-then-are_short-2.ensures w.are_told.ensures)) w.value-is
      | else-are_short w ↦ both_else c.if-are_short.value (is_false c.if-len-files.value first.1 w.if-are_short.false) (λ h. first.0 (sym w.value-is ∙ h))
    ] in
    let third : Decides c.if-are_told.result (((length t.start ≡ c.args.files) × AreShort t.start) × AreTold t.ends ends) (IsQuiet (owner_in parties) (peer_in parties)
    c.args.legal.now.past ends) =
    elim c.if-are_told.branch [
      | then-are_told w ↦ both_then c.if-are_told.result w.is_quiet.result (second.0 w.if-are_told.true) w.is_quiet.ensures w.result-is
      | else-are_told w ↦ both_else c.if-are_told.result (is_false c.if-are_short.value second.1 w.if-are_told.false) (λ h. second.0 (sym w.result-is ∙ h))
    ] in (
      λ holds.
          let p = third.0 holds in
          ends_well c.args.code.now c.args.files t c.args.legal.now c.args.replays.cores.items ends parties c.requires c.in_ok-ends.ensures c.in_ok-parties.ensures.count
          c.in_ok-parties.ensures.owners c.in_ok-parties.ensures.peers (record { as_many = p.0.0.0; short = p.0.0.1; told = p.0.1; quiet = p.1 }),
      λ well.
          let p = passes c.args.code.now c.args.files t c.args.legal.now c.args.replays.cores.items ends parties c.requires c.in_ok-ends.ensures c.in_ok-parties.ensures.count
          c.in_ok-parties.ensures.owners c.in_ok-parties.ensures.peers well in
          third.1 (((p.as_many, p.short), p.told), p.quiet),
    )
