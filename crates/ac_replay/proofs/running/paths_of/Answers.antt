use Rattle.std.proofs.Common.{ap, take, ◌++◌, ◌∷◌, [], sym, ◌∙◌}
use Rattle.std.proofs.lemmas.List.{take_more}
use Rattle.std.proofs.lemmas.Option.{slice_get_within, get_or_from_slice_get}
use Rattle.ac_names.specs.Numbered.{file_paths}
use Rattle.ac_replay.proofs.running.paths_of.Goals as goal

pub loop-file-preserved : goal.loop-file-preserved
loop-file-preserved c =
    let all = file_paths c.args.checked.now.items in
    let path = c.path.result.now in
    let more = take_more all c.loop-file.file path (slice_get_within all c.loop-file.file path c.path.ensures)
    ∙ ap (λ p. take c.loop-file.file all ++ p ∷ []) (get_or_from_slice_get all c.loop-file.file path path c.path.ensures) in
    c.in_ok-push.ensures.ok ∙ ap (λ p. c.loop-file.paths ++ p ∷ []) c.in_ok-copy.ensures ∙ ap (λ ps. ps ++ path ∷ []) c.loop-file.invariant ∙ sym more
