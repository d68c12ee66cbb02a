-- Cores and a worker that agree with their own ends agree with the list of links that these ends make.
use Rattle.std.proofs.Common.{◌≡◌, ℕ, ◌<◌, List, [], ◌∷◌, ◌++◌, Some, Bool, true, false, refl, sym, ap, ◌∙◌, subst, arith, length}
use Rattle.std.specs.Prelude.{◌==◌, ◌&&◌, not, slice_get}
use Rattle.std.proofs.Math.Path.{fun_ext}
use Rattle.std.proofs.lemmas.Option.{slice_get_within}
use Rattle.ac_base.specs.declared.entry.Entry.{Entry}
use Rattle.ac_base.specs.declared.entry.Event.{Event}
use Rattle.ac_base.specs.declared.entry.Event.TheVariants.{Offer, Withdraw, Know, Room, Got, Pass, Did, Reply}
use Rattle.ac_base.specs.declared.entry.Stamped.{Stamped}
use Rattle.stack_code.specs.Parts.{Parts}
use Rattle.stack_code.specs.Valid.{HasLinks}
use Rattle.ac_links.specs.declared.payloads.Terms.{Terms}
use Rattle.ac_links.specs.Views.{PeerDecision, peer_fits, decision_of, PeerRuns}
use Rattle.ac_links.specs.Party.{LinkEnd, EndRuns, PartyAgrees}
use Rattle.ac_links.specs.Party.LinkEnd.{Owns, Decides, Absent}
use Rattle.core_channels.specs.LinkViews.{LinkViews}
use Rattle.core_ports.specs.PortsTold.{PortsTold}
use Rattle.core_ports.specs.declared.side.Side.{Side}
use Rattle.core_ports.specs.declared.side.Side.TheVariants.{Owner, Peer, Neither}
use Rattle.core_ports.specs.Sides.{side_of}
use Rattle.file_ops.specs.Agreement.{is_own, worker_ends}
use Rattle.run_laws.specs.Network.{terms_in, ends_in}
use Rattle.run_laws.specs.Cores.{CoreView, AgreesWith, AreCoresOf}
use Rattle.run_laws.specs.Workers.{WorkerAgreesWith}
use Rattle.settled_run.specs.Settled.{AreSettledEnds}
use Rattle.settled_run.specs.Parties.{AreCoresWith, WorkerHolds}
use Rattle.settled_run.proofs.Linked.{links, linked, within, core_end, worker_end, worker_holds, own_within, own_low, at_least}

-- ---- what the terms matter for

fits_as : (t s : Terms) (ds : List PeerDecision) (e : Event) → t.requests ≡ s.requests → peer_fits t ds e ≡ peer_fits s ds e
fits_as t s ds (Offer l n payload) h = refl
fits_as t s ds (Withdraw l n) h = refl
fits_as t s ds (Know l n) h = refl
fits_as t s ds (Room l n) h = refl
fits_as t s ds (Got l n value) h = ap (λ b. not b && (n == length ds)) h
fits_as t s ds (Pass l n) h = refl
fits_as t s ds (Did l n answer) h = ap (λ b. b && (n == length ds)) h
fits_as t s ds (Reply l n answer) h = refl

peer_runs : (t s : Terms) (mine : Event → ℕ) (ds : List PeerDecision) (es : List Stamped) (end : List PeerDecision) → t.requests ≡ s.requests
    → PeerRuns t mine ds es end → PeerRuns s mine ds es end
peer_runs t s mine ds [] end h r = r
peer_runs t s mine ds (e ∷ es) end h r = (
  sym (fits_as t s ds e.entry.event h) ∙ r.0,
  r.1,
  peer_runs t s mine (ds ++ decision_of e.entry.stamp (mine e.entry.event) e.entry.event ∷ []) es end h r.2,
)

-- an end that decides has only to know whether the link carries requests, and one that is absent nothing
abbrev MayDiffer : Terms → Terms → LinkEnd → Type 0
MayDiffer t s (Owns os) = t ≡ s
MayDiffer t s (Decides ds) = t.requests ≡ s.requests
MayDiffer t s Absent = Unit {0}

end_runs : (t s : Terms) (x : LinkEnd) (es : List Stamped) → MayDiffer t s x → EndRuns t x es → EndRuns s x es
end_runs t s (Owns os) es e r = subst (λ u. EndRuns u (Owns os) es) e r
end_runs t s (Decides ds) es e r = peer_runs t s _ [] es ds e r
end_runs t s Absent es e r = r

same_may : (t s : Terms) (x : LinkEnd) → t ≡ s → MayDiffer t s x
same_may t s (Owns os) e = e
same_may t s (Decides ds) e = ap (λ (u : Terms). u.requests) e
same_may t s Absent e = tt

-- a party agrees with ends that are the same at each link, where its terms differ only as they may
pub agrees_as : (terms others : ℕ → Terms) (p q : ℕ) (ends later : ℕ → LinkEnd) (j : List Entry) → p ≡ q → ((l : ℕ) → ends l ≡ later l)
    → ((l : ℕ) → MayDiffer (terms l) (others l) (ends l)) → PartyAgrees terms p ends j → PartyAgrees others q later j
agrees_as terms others p q ends later j at is may a =
    subst (λ n. PartyAgrees others n later j) at
    (subst (λ x. PartyAgrees others p x j) (fun_ext is)
    (record { runs = λ l. end_runs (terms l) (others l) (ends l) _ (may l) (a.runs l); stamps = a.stamps }))

module _ (code : Parts) (valid : HasLinks code) (ports : ℕ → PortsTold) (worker : ℕ → LinkEnd) (settled : AreSettledEnds code ports worker) where
  abbrev its_links : List LinkViews
  its_links = links code valid ports worker settled

  -- ---- the cores

  module _ (bound : ℕ) (cores : List CoreView) (all : AreCoresWith code bound cores ports) where
    pub core_within : (k : ℕ) (c : CoreView) → slice_get cores k ≡ Some c → k < length code.entries
    core_within k c is = let lt = slice_get_within cores k c is in let n = all.count in omega arith

    may_by : (k l : ℕ) (c : CoreView) → slice_get cores k ≡ Some c → (s : Side) → side_of code.ends k l ≡ s
        → MayDiffer ((ports k).terms l) (terms_in its_links l) ((ports k).ends l)
    may_by k l c is Neither e = subst (MayDiffer ((ports k).terms l) (terms_in its_links l)) (sym (settled.cores k l (core_within k c is) e)) tt
    may_by k l c is Owner e =
        let some : side_of code.ends k l ≡ Neither → ⊥ = λ none. absurd (let no : Owner ≡ Neither = sym e ∙ none in cc) in
        same_may ((ports k).terms l) (terms_in its_links l) ((ports k).ends l) ((all.each k c is).ports.coded l some
        ∙ sym ((linked code valid ports worker settled).terms l (within code valid ports worker settled k l (core_within k c is) some)))
    may_by k l c is Peer e =
        let some : side_of code.ends k l ≡ Neither → ⊥ = λ none. absurd (let no : Peer ≡ Neither = sym e ∙ none in cc) in
        same_may ((ports k).terms l) (terms_in its_links l) ((ports k).ends l) ((all.each k c is).ports.coded l some
        ∙ sym ((linked code valid ports worker settled).terms l (within code valid ports worker settled k l (core_within k c is) some)))

    ends_same : (k : ℕ) (c : CoreView) → slice_get cores k ≡ Some c → (l : ℕ) → (ports k).ends l ≡ ends_in c.code.ends c.core its_links l
    ends_same k c is l =
        let it = (all.each k c is).core in
        sym (ap (λ (x : Parts). ends_in x.ends c.core its_links l) it.code_is ∙ ap (λ n. ends_in code.ends n its_links l) it.core_is
        ∙ core_end code valid ports worker settled k l (core_within k c is))

    agrees : (k : ℕ) (c : CoreView) → slice_get cores k ≡ Some c → AgreesWith c its_links
    agrees k c is =
        let it = all.each k c is in
        record {
          core = subst (λ (x : Parts). c.core < length x.entries) (sym it.core.code_is) (subst (λ (n : ℕ). n < length code.entries) (sym it.core.core_is) (core_within k c is));
          party = agrees_as (ports k).terms (terms_in its_links) k c.core (ports k).ends (ends_in c.code.ends c.core its_links) c.journal (sym it.core.core_is)
              (ends_same k c is) (λ l. may_by k l c is (side_of code.ends k l) refl) it.agrees;
        }

    pub are_cores : AreCoresOf code bound cores its_links
    are_cores = record {
      count = all.count;
      each = λ k c is. (all.each k c is).core;
      agree = agrees;
      linked = linked code valid ports worker settled;
    }

  -- ---- the worker

  module _ (terms : ℕ → Terms) (entries : List Entry) (holds : WorkerHolds code terms worker entries) where
    worker_may : (l : ℕ) (b : Bool) → is_own (length code.ends) (length code.entries) l ≡ b → MayDiffer (terms l) (terms_in its_links l) (worker l)
    worker_may l true e =
        let lt = own_within code valid ports worker settled l e in
        let low = own_low (length code.ends) (length code.entries) l e in
        subst (MayDiffer (terms l) (terms_in its_links l)) (sym (worker_holds code valid ports worker settled l e))
        (holds.requests l low lt ∙ sym (ap (λ (t : Terms). t.requests) ((linked code valid ports worker settled).terms l lt) ∙ at_least (length code.ends) l low))
    worker_may l false e = subst (MayDiffer (terms l) (terms_in its_links l)) (sym (settled.others l e)) tt

    pub worker_agrees : WorkerAgreesWith code entries its_links
    worker_agrees = record {
      party = agrees_as terms (terms_in its_links) (length code.entries) (length code.entries) worker (worker_ends (length code.ends) (length code.entries) its_links) entries refl
          (λ l. sym (worker_end code valid ports worker settled l)) (λ l. worker_may l (is_own (length code.ends) (length code.entries) l) refl) holds.agrees;
      turns = holds.turns;
    }
