-- A worker that goes on, and a core's end that stays the same end, are still those of one core's requests.
use Rattle.std.proofs.Common.{◌≡◌, ℕ, sym, ◌∙◌, length, arith}
use Rattle.std.proofs.lemmas.Option.{slice_get_within}
use Rattle.request_ends.specs.Asking.{Asking, IsSameAsk}
use Rattle.file_worker.specs.Ends.{AtDesk, AtEach}
use Rattle.file_worker.specs.Rounds.{EndsGoOn}
use Rattle.file_worker.specs.Settling.{MaySettle}
use Rattle.file_worker.proofs.EndLists.{found}

pub core_lasts : (core : ℕ) (v w : AtDesk) (a b : Asking) → MaySettle core v a → length w.ends ≡ length v.ends → AtEach EndsGoOn v.ends w.ends
    → IsSameAsk a b → MaySettle core w b
core_lasts core v w a b may count goes same e at =
    let within = slice_get_within w.ends core e at in
    let (x, was) = found v.ends core (omega (arith, within, count)) in
    let g = goes core x e was at in
    let m = may x was in
    ((same.send.table ∙ m.0.0 ∙ sym g.ask.table, same.send.ring ∙ m.0.1 ∙ sym g.ask.ring), same.ring ∙ m.1 ∙ sym g.ring)
