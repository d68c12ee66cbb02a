-- The bytes of a file are taken out, and then those or others are put back. For `Legal::write`, which takes the bytes out while it writes them.
-- Two writes to one place of a list are one; where the same bytes come back, nothing has changed.
use Rattle.std.proofs.Common.{◌≡◌, ℕ, List, [], Bool, true, false, Ok, Err, ap, ◌∙◌}
use Rattle.std.specs.Prelude.{Result, IfOk, OnErr, slice_set, if◌then◌else◌}
use Rattle.std.proofs.lemmas.List.{set-set, set-get_or}
use Rattle.ac_history.specs.History.{Past}
use Rattle.file_bytes.specs.Overwritten.{overwritten}
use Rattle.ac_history.specs.Files.{file_of, written}
use Rattle.ac_history.specs.Served.{HistoryState}

changed : (files taken put : List (List ℕ)) (f : ℕ) (bytes back : List ℕ) → taken ≡ slice_set files f [] → put ≡ slice_set taken f back → back ≡ bytes
    → put ≡ slice_set files f bytes
changed files taken put f bytes back t p e = p ∙ ap (λ xs. slice_set xs f back) t ∙ set-set files f [] back ∙ ap (λ b. slice_set files f b) e

-- `whole` was taken out, and `back` is put there
pub put_written : {E : Type 0} (r : Result Bool E) (files taken put now : List (List ℕ)) (f from : ℕ) (bytes whole left back : List ℕ) → files ≡ now
    → whole ≡ file_of files f → taken ≡ slice_set files f [] → put ≡ slice_set taken f back → back ≡ left
    → IfOk r (λ b. left ≡ (if b then overwritten whole from bytes else whole))
    → IfOk r (λ b. put ≡ (if b then written now f from bytes else now))
put_written (Ok true) files taken put now f from bytes whole left back e w t p n h =
    changed files taken put f (overwritten (file_of files f) from bytes) back t p (n ∙ h ∙ ap (λ x. overwritten x from bytes) w) ∙ ap (λ xs. written xs f from bytes) e
put_written (Ok false) files taken put now f from bytes whole left back e w t p n h =
    changed files taken put f (file_of files f) back t p (n ∙ h ∙ w) ∙ set-get_or files f [] ∙ e
put_written (Err x) files taken put now f from bytes whole left back e w t p n h = tt

pub put_unchanged : {E : Type 0} (r : Result Bool E) (past left_past : Past) (files taken put : List (List ℕ)) (now : HistoryState) (f : ℕ) (whole left back : List ℕ)
    → record { past = past; files = files } ≡ now → whole ≡ file_of files f → taken ≡ slice_set files f [] → put ≡ slice_set taken f back → back ≡ left
    → OnErr r ((left_past ≡ past) × (left ≡ whole)) → OnErr r (record { past = left_past; files = put } ≡ now)
put_unchanged (Ok b) past left_past files taken put now f whole left back e w t p n h = tt
put_unchanged (Err x) past left_past files taken put now f whole left back e w t p n h =
    let same : put ≡ files = changed files taken put f (file_of files f) back t p (n ∙ h.1 ∙ w) ∙ set-get_or files f [] in
    let state : Past → List (List ℕ) → HistoryState = λ a b. record { past = a; files = b } in
    ap (λ a. state a put) h.0 ∙ ap (λ b. state past b) same ∙ e
