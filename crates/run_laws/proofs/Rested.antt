-- Where each core of a code and the worker are at rest on the links, the run is quiet.
use Rattle.std.proofs.Common.{◌≡◌, ℕ, zero, suc, ◌<◌, List, [], ◌∷◌, Some, true, refl, sym, ap, ◌∙◌, subst, inl, inr, arith, length}
use Rattle.std.specs.Prelude.{slice_get}
use Rattle.ac_base.specs.declared.entry.Entry.{Entry}
use Rattle.ac_base.specs.declared.ends.CoreEnd.{CoreEnd}
use Rattle.stack_code.specs.Parts.{Parts}
use Rattle.stack_code.specs.Valid.{HasLinks}
use Rattle.ac_links.specs.Views.{OwnerOffer, PeerDecision}
use Rattle.ac_links.specs.AtRest.{PeerRests}
use Rattle.ac_history.specs.Merged.{merged}
use Rattle.ac_history.specs.History.{start}
use Rattle.ac_history.specs.Quiet.{after_all_of, CoreRests, IsQuiet}
use Rattle.ac_history.proofs.Quietness.{parties_at_rest}
use Rattle.core_channels.specs.LinkViews.{LinkViews}
use Rattle.program_run.specs.Parties.{owner_of, peer_at, peer_of}
use Rattle.run_laws.specs.Network.{offers_in, decisions_in}
use Rattle.run_laws.specs.Cores.{CoreView, IsAtRest, AreCoresOf, journals_of, ends_of}
use Rattle.run_laws.specs.Workers.{WorkerAgreesWith, WorkerRests}
use Rattle.run_laws.proofs.Parties.{request_or_channel}
use Rattle.run_laws.proofs.Together.{agree, ends}

-- ---- the ends of the cores

end_at : (cores : List CoreView) (k : ℕ) (e : CoreEnd) → slice_get (ends_of cores) k ≡ Some e → (c : CoreView) × (slice_get cores k ≡ Some c) × (c.end.core ≡ e)
end_at [] k e h = cc
end_at (x ∷ cores) zero e h = (x, refl, cc)
end_at (x ∷ cores) (suc k) e h = end_at cores k e h

abbrev RestsIn : Parts → (ℕ → List OwnerOffer) → (ℕ → List PeerDecision) → ℕ → CoreEnd → Type 0
RestsIn code offers decisions core e = CoreRests code.capacities (length code.entries) (owner_of code.ends) (peer_of code.ends (length code.entries)) offers decisions core e

rests_as : (code other : Parts) (offers : ℕ → List OwnerOffer) (decisions : ℕ → List PeerDecision) (core k : ℕ) (e f : CoreEnd) → code ≡ other → core ≡ k → e ≡ f
    → RestsIn code offers decisions core e → RestsIn other offers decisions k f
rests_as code other offers decisions core k e f is at same r =
    subst (λ x. RestsIn x offers decisions k f) is (subst (λ n. RestsIn code offers decisions n f) at (subst (RestsIn code offers decisions core) same r))

module _ (code : Parts) (valid : HasLinks code) (bound : ℕ) (cores : List CoreView) (entries : List Entry) (links : List LinkViews) (all : AreCoresOf code bound cores links)
    (work : WorkerAgreesWith code entries links) (rest : (k : ℕ) (c : CoreView) → slice_get cores k ≡ Some c → IsAtRest c links) (worker : WorkerRests code links) where
  abbrev many : ℕ
  many = length code.entries

  abbrev owner : ℕ → ℕ
  owner = owner_of code.ends

  abbrev peer : ℕ → ℕ
  peer = peer_of code.ends many

  worker_rests : (l : ℕ) → l < length code.capacities → peer l ≡ many → PeerRests true (offers_in links l) (decisions_in links l)
  worker_rests l h is = λ w. elim (request_or_channel code valid links all.linked l h) [
    | inl q ↦ absurd (let lt = q.3.1 in let e : q.0.to ≡ many = sym (ap (peer_at many) q.1) ∙ is in omega arith)
    | inr q ↦ worker l q.1 h
  ]

  core_rests : (k : ℕ) (e : CoreEnd) → slice_get (ends_of cores) k ≡ Some e → CoreRests code.capacities many owner peer (offers_in links) (decisions_in links) k e
  core_rests k e h =
      let w = end_at cores k e h in
      let c : CoreView = w.0 in
      let it = all.each k c w.1 in
      rests_as c.code code (offers_in links) (decisions_in links) c.core k c.end.core e it.code_is it.core_is w.2 (rest k c w.1).rests

  pub quiet : IsQuiet owner peer (after_all_of (start code.capacities code.widths many) (merged (journals_of cores entries))) (ends_of cores)
  quiet = parties_at_rest code.capacities code.widths many owner peer (ends code valid bound cores entries links all work) (offers_in links) (decisions_in links) (journals_of cores entries)
      (agree code valid bound cores entries links all work) (ends_of cores) (record { core = core_rests; worker = worker_rests })
