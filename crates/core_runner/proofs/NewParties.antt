-- The parties of a run as it begins: what is dealt to a core is its own and agrees with a journal without entries, and what is dealt to the worker
-- is new. At the two ends of each way stand parties that have the two ends of its link.
use Rattle.std.proofs.Common.{◌≡◌, ⊎_elim, ℕ, zero, suc, ◌+◌, ◌<◌, ◌≤◌, ◌^◌, List, [], ◌∷◌, ◌++◌, Some, refl, sym, ap, ◌∙◌, subst, arith, length}
use Rattle.std.specs.Prelude.{slice_get, IsTrue}
use Rattle.std.specs.List.{All, AllByRecursion}
use Rattle.std.proofs.lemmas.List.{length-append}
use Rattle.std.proofs.lemmas.Option.{slice_get_within, slice_get-get_or}
use Rattle.ac_base.specs.declared.entry.Payload.{Payload}
use Rattle.ac_links.specs.declared.payloads.Terms.{Terms}
use Rattle.ac_links.specs.Party.{LinkEnd, EndRuns, PartyAgrees}
use Rattle.ac_outside.specs.Disks.{DiskTold}
use Rattle.stack_code.specs.Parts.{Parts}
use Rattle.stack_code.specs.Valid.{HasLinks}
use Rattle.completion_word.specs.declared.views.Peer.{Peer as PeerView}
use Rattle.core_driver.specs.Sides.{ArePortsOf}
use Rattle.core_machine.specs.Machine.{Machine}
use Rattle.core_ports.specs.Ends.{is_owner, is_peer}
use Rattle.core_ports.specs.declared.side.Side.{Side}
use Rattle.core_ports.specs.declared.side.Side.TheVariants.{Owner, Peer, Neither}
use Rattle.core_ports.specs.Sides.{side_of}
use Rattle.channel_ends.specs.Receiving.{Receiving}
use Rattle.channel_ends.specs.Settled.{AreEnds}
use Rattle.request_ends.specs.Replying.{Replying}
use Rattle.end_ports.specs.Held.{Held}
use Rattle.end_ports.specs.PortsTold.{told_of as ports_told}
use Rattle.end_ports.specs.SettledLinks.{HavePair}
use Rattle.file_worker.specs.declared.worker.Worker.{Worker}
use Rattle.file_worker.specs.Ends.{CoreEnds, core_ends, IsNew}
use Rattle.file_worker.specs.Settling.{MaySettle}
use Rattle.file_worker.specs.Workers.{desk_of, told_of}
use Rattle.run_ends.specs.Dealt.{new_end, HasItsEnds, HasRequests as AreRequests, AreDealt}
use Rattle.run_parties.specs.declared.run_party.RunParty.{RunParty}
use Rattle.run_parties.specs.declared.run_party.RunParty.TheVariants.{Core, Disk}
use Rattle.run_parties.specs.Seats.{CoreSeat}
use Rattle.run_parties.specs.Parties.{HasRequests, HaveEnds, MayGoOn}
use Rattle.settled_rounds.specs.declared.party.Way.{Way}
use Rattle.settled_rounds.specs.Linked.{AreWays, OnLinks}
use Rattle.core_runner.specs.inner.Parties.{AreWaysOf, IsNewCore, AreNewCores}
use Rattle.core_runner.proofs.Lists.{same_some, found, at_more, at_seam, at_first, all_from, all_both}
use Rattle.core_runner.proofs.Ways.{IsChannelAt, IsRequestsAt, which, are_ways, way_within}

-- ---- the ports of one core

module _ (code : Parts) (k : ℕ) (h : Held) (has : HasItsEnds code.ends code.capacities k h) where
  pub its_ports : ArePortsOf code k (ports_told h).terms (ports_told h).ends
  its_ports = record {
    coded = λ l side. has.terms l side;
    owner = λ l side. ap is_owner (has.ends l ∙ ap new_end side);
    peer = λ l side. ap is_peer (has.ends l ∙ ap new_end side);
  }

  new_runs : (terms : Terms) (s : Side) → EndRuns terms (new_end s) []
  new_runs terms Owner = refl
  new_runs terms Peer = refl
  new_runs terms Neither = refl

  pub agrees_so_far : PartyAgrees (ports_told h).terms k (ports_told h).ends []
  agrees_so_far = record {
    runs = λ l. subst (λ (x : LinkEnd). EndRuns ((ports_told h).terms l) x []) (sym (has.ends l)) (new_runs ((ports_told h).terms l) (side_of code.ends k l));
    stamps = tt;
  }

-- ---- the worker's ends

pub ends_at : (asks : List (Receiving Payload)) (replies : List Replying) (k : ℕ) (a : Receiving Payload) (r : Replying) → slice_get asks k ≡ Some a
    → slice_get replies k ≡ Some r → slice_get (core_ends asks replies) k ≡ Some (record { ask = a; reply = r })
ends_at [] replies k a r x y = cc
ends_at (b ∷ asks) [] k a r x y = cc
ends_at (b ∷ asks) (s ∷ replies) zero a r x y =
    ap (λ (c : Receiving Payload). Some (record { ask = c; reply = s })) (same_some b a x) ∙ ap (λ (t : Replying). Some (record { ask = a; reply = t })) (same_some s r y)
ends_at (b ∷ asks) (s ∷ replies) (suc k) a r x y = ends_at asks replies k a r x y

pub ends_count : (asks : List (Receiving Payload)) (replies : List Replying) → length asks ≡ length replies → length (core_ends asks replies) ≡ length asks
ends_count [] replies e = refl
ends_count (a ∷ asks) [] e = absurd (omega (arith, e))
ends_count (a ∷ asks) (r ∷ replies) e = ap suc (ends_count asks replies (omega (arith, e)))

module _ (code : Parts) (ports : List Held) (asks : List (Receiving Payload)) (replies : List Replying)
    (dealt : AreDealt code.ends code.capacities (length code.entries) ports asks replies) where
  pub both : length asks ≡ length replies
  both = dealt.asks_count ∙ sym dealt.replies_count

  pub worker_count : length (core_ends asks replies) ≡ length code.entries
  worker_count = ends_count asks replies both ∙ dealt.asks_count

  -- those of core k
  pub dealt_at : (k : ℕ) (h : Held) → k < length code.entries → slice_get ports k ≡ Some h
      → (e : CoreEnds) × (slice_get (core_ends asks replies) k ≡ Some e) × AreRequests (length code.ends + k) h e.ask e.reply
  dealt_at k h low at =
      let n = dealt.asks_count in let m = dealt.replies_count in
      let (a, ask_at) = found asks k (omega (arith, low, n)) in
      let (r, reply_at) = found replies k (omega (arith, low, m)) in
      (record { ask = a; reply = r }, ends_at asks replies k a r ask_at reply_at, dealt.requests k h a r at ask_at reply_at)

  is_new : (e : CoreEnds) (k : ℕ) (h : Held) → AreRequests (length code.ends + k) h e.ask e.reply → IsNew e
  is_new e k h is = record {
    decisions = ap (λ (p : PeerView). p.decisions) is.peer;
    popped = is.popped;
    replies = is.replies;
    told = ap (λ (p : PeerView). p.told_offers) is.peer;
  }

  pub all_new : All IsNew (core_ends asks replies)
  all_new k d low =
      let n = worker_count in let m = dealt.ports_count in
      let (h, at) = found ports k (omega (arith, low, n, m)) in
      let (e, here, is) = dealt_at k h (omega (arith, low, n)) at in
      let same = same_some _ e (sym (slice_get-get_or (core_ends asks replies) k d low) ∙ here) in
      subst IsNew (sym same) (is_new e k h is)

-- ---- all of them

-- a run as it begins: new cores over what was dealt, the ways between them, and a worker that has done nothing
pub record HasBegun {D : Type 0} (code : Parts) (bound : ℕ) (cores : List (RunParty D)) (ways : List Way) (w : Worker D) : Type 0 where
  pub ports : List Held
  pub asks : List (Receiving Payload)
  pub replies : List Replying
  pub dealt : AreDealt code.ends code.capacities (length code.entries) ports asks replies
  pub new : AreNewCores code bound ports cores
  pub ways_are : AreWaysOf code.ends (length code.entries) ways
  pub first : (desk_of w).first ≡ length code.ends
  pub ends : (desk_of w).ends ≡ core_ends asks replies
  pub entries : (desk_of w).entries ≡ []

module _ {D : Type 0} (code : Parts) (well : HasLinks code) (bound : ℕ) (cores : List (RunParty D)) (ways : List Way) (w : Worker D)
    (b : HasBegun code bound cores ways w) where
  abbrev many : ℕ
  many = length code.entries

  abbrev all : List (RunParty D)
  all = cores ++ Disk w ∷ []

  pub core_count : length cores ≡ many
  core_count = b.new.count ∙ b.dealt.ports_count

  -- core k and its ports
  pub record CoreBegun (k : ℕ) : Type 0 where
    pub held : Held
    pub seat : CoreSeat
    pub held_at : slice_get b.ports k ≡ Some held
    pub stands : slice_get all k ≡ Some (Core seat)
    pub is : IsNewCore code bound k held seat

  pub begun : (k : ℕ) → k < many → CoreBegun k
  begun k low =
      let n = b.dealt.ports_count in
      let (h, at) = found b.ports k (omega (arith, low, n)) in
      let (s, there, is) = b.new.each k h at in
      record { held = h; seat = s; held_at = at; stands = at_first cores (Disk w ∷ []) k (Core s) there; is = is }

  pub worker_stands : slice_get all many ≡ Some (Disk w)
  worker_stands = ap (slice_get all) (sym core_count) ∙ at_seam cores (Disk w) []

  pub all_ways : AreWays (suc (length cores)) ways
  all_ways = are_ways code well ways b.ways_are (suc (length cores)) (ap suc core_count)

  pub few_parties : length code.entries ≤ 16 → suc (length cores) < 2 ^ 32
  few_parties few = let n = core_count in omega (arith, n, few)

  -- ---- the ends of each link

  have_channel : (l : ℕ) (c : IsChannelAt code l) (p q : RunParty D) → slice_get all c.ends.from ≡ Some p → slice_get all c.ends.to ≡ Some q → HaveEnds l p q
  have_channel l c p q from to =
      let f = begun c.ends.from c.from_core in
      let t = begun c.ends.to c.to_core in
      subst (λ x. HaveEnds l x q) (same_some (Core f.seat) p (sym f.stands ∙ from))
      (subst (λ y. HaveEnds l (Core f.seat) y) (same_some (Core t.seat) q (sym t.stands ∙ to))
      (subst (λ x. HavePair x t.seat.ports l) (sym f.is.ports) (subst (λ y. HavePair f.held y l) (sym t.is.ports)
      (b.dealt.pairs l c.ends f.held t.held c.here f.held_at t.held_at))))

  pub desk_count : length (desk_of w).ends ≡ many
  desk_count = ap (λ (xs : List CoreEnds). length xs) b.ends ∙ worker_count code b.ports b.asks b.replies b.dealt

  have_requests : (l : ℕ) (r : IsRequestsAt code l) (p q : RunParty D) → slice_get all r.core ≡ Some p → slice_get all many ≡ Some q → HaveEnds l p q
  have_requests l r p q from to =
      let f = begun r.core r.within in
      let (e, here, is) = dealt_at code b.ports b.asks b.replies b.dealt r.core f.held r.within f.held_at in
      let core_is : f.seat.driven.machine.core ≡ r.core = f.is.core.core_is in
      let low = r.within in
      let count = desk_count in
      let pair : MaySettle r.core (desk_of w) f.held.ask.end = λ x x_at.
      let same = same_some e x (sym here ∙ sym (ap (λ (xs : List CoreEnds). slice_get xs r.core) b.ends) ∙ x_at) in
      subst (λ (y : CoreEnds). AreEnds f.held.ask.end.send y.ask × (f.held.ask.end.ring ≡ y.reply.ring)) same (is.ends, is.ring) in
      let has : HasRequests l f.seat (desk_of w) = record {
        asked = ap (λ (h : Held). h.ask.link) f.is.ports ∙ is.asked ∙ r.here;
        link = ap (λ n. n + f.seat.driven.machine.core) b.first ∙ ap (λ n. length code.ends + n) core_is ∙ r.here;
        core = omega (arith, core_is, low, count);
        pair = subst (λ n. MaySettle n (desk_of w) f.seat.ports.ask.end) (sym core_is) (subst (λ (h : Held). MaySettle r.core (desk_of w) h.ask.end) (sym f.is.ports) pair);
      } in
      subst (λ x. HaveEnds l x q) (same_some (Core f.seat) p (sym f.stands ∙ from))
      (subst (λ y. HaveEnds l (Core f.seat) y) (same_some (Disk w) q (sym worker_stands ∙ to)) has)

  pub all_paired : OnLinks HaveEnds ways all
  all_paired l v p q at from to =
      let is = b.ways_are.each l v at in
      ⊎_elim (λ (c : IsChannelAt code l). have_channel l c p q (ap (slice_get all) (sym (is.from ∙ c.owner)) ∙ from) (ap (slice_get all) (sym (is.to ∙ c.peer)) ∙ to))
      (λ (r : IsRequestsAt code l). have_requests l r p q (ap (slice_get all) (sym (is.from ∙ r.owner)) ∙ from) (ap (slice_get all) (sym (is.to ∙ r.peer)) ∙ to))
      (which code well l (way_within code well ways b.ways_are l v at))

  -- ---- each may go on

  pub all_ready : (told : D → DiskTold) → IsTrue (told_of told w).is_ready → AllByRecursion (MayGoOn told) all
  all_ready told ready = all_both (MayGoOn told) cores (Disk w ∷ []) (all_from (MayGoOn told) cores each) (ready, tt)
    where
      each : (k : ℕ) (p : RunParty D) → slice_get cores k ≡ Some p → MayGoOn told p
      each k p at =
          let low = slice_get_within cores k p at in let n = core_count in
          let c = begun k (omega (arith, low, n)) in
          subst (MayGoOn told) (same_some (Core c.seat) p (sym c.stands ∙ at_first cores (Disk w ∷ []) k p at)) tt

-- ---- the cores are made one by one

module _ {D : Type 0} (code : Parts) (bound : ℕ) where
  pub no_cores : AreNewCores {D = D} code bound [] []
  no_cores = record { count = refl; each = λ k h at. cc }

  pub one_core_more : (ports : List Held) (parties : List (RunParty D)) (h : Held) (s : CoreSeat) → AreNewCores code bound ports parties
      → IsNewCore code bound (length ports) h s → AreNewCores code bound (ports ++ h ∷ []) (parties ++ Core s ∷ [])
  one_core_more ports parties h s before is = record {
    count = let n = length-append ports (h ∷ []) in let m = length-append parties (Core s ∷ []) in let e = before.count in omega (arith, n, m, e);
    each = λ k x at. ⊎_elim
        (λ (old : slice_get ports k ≡ Some x). let (t, there, new) = before.each k x old in (t, at_first parties (Core s ∷ []) k (Core t) there, new))
        (λ (new : (k ≡ length ports) × (h ≡ x)). (
          s,
          ap (slice_get (parties ++ Core s ∷ [])) (new.0 ∙ sym before.count) ∙ at_seam parties (Core s) [],
          subst (λ n. IsNewCore code bound n x s) (sym new.0) (subst (λ y. IsNewCore code bound (length ports) y s) new.1 is),
        ))
        (at_more ports h x k at);
  }

pub new_core : (code : Parts) (bound k : ℕ) (h : Held) (m : Machine) (s : CoreSeat) → s.driven.machine ≡ m → s.ports ≡ h → m.code ≡ code → m.core ≡ k → m.bound ≡ bound
    → m.journal ≡ [] → IsNewCore code bound k h s
new_core code bound k h m s is has code_is core_is bound_is none = record {
  core = record {
    code_is = ap (λ (x : Machine). x.code) is ∙ code_is;
    core_is = ap (λ (x : Machine). x.core) is ∙ core_is;
    bound_is = ap (λ (x : Machine). x.bound) is ∙ bound_is;
  };
  journal = ap (λ (x : Machine). x.journal) is ∙ none;
  ports = has;
}
