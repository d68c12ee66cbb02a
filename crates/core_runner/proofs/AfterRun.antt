-- The parties of a run after it: each stands at its place, over the same ends, and of each link the two ends are settled.
use Rattle.std.proofs.Common.{◌≡◌, ◌≢◌, ⊎_elim, ℕ, ◌<◌, ◌≤◌, List, [], ◌∷◌, ◌++◌, Option, Some, None, Bool, true, false, refl, sym, ap, ◌∙◌, subst, arith, length, map, option_map}
use Rattle.std.specs.Prelude.{slice_get, nat_le}
use Rattle.std.proofs.lemmas.List.{length-append, length-map}
use Rattle.std.proofs.lemmas.Option.{slice_get-map, slice_get_within}
use mathlib.Core.List.{IsPrefix}
use Rattle.ac_links.specs.Party.{PartyAgrees}
use Rattle.ac_links.specs.Party.LinkEnd.{Absent}
use Rattle.ac_outside.specs.Disks.{DiskTold}
use Rattle.stack_code.specs.Parts.{Parts}
use Rattle.stack_code.specs.Valid.{HasLinks}
use Rattle.core_channels.specs.LinkViews.{terms_at}
use Rattle.core_driver.specs.Sides.{ArePortsOf}
use Rattle.core_ports.specs.PortsTold.{PortsTold}
use Rattle.core_ports.specs.declared.side.Side.TheVariants.{Neither}
use Rattle.core_ports.specs.Sides.{side_of}
use Rattle.end_ports.specs.OnLinks.{OnLink, on_link, not_held}
use Rattle.file_worker.specs.declared.worker.Worker.{Worker}
use Rattle.file_worker.specs.Rounds.{GoesOn}
use Rattle.file_worker.specs.Workers.{desk_of, seen_of}
use Rattle.program_run.specs.declared.ended.Ended.{Ended}
use Rattle.program_run.specs.Parties.{owner_of, peer_of}
use Rattle.run_ends.specs.Dealt.{new_end}
use Rattle.run_laws.specs.Cores.{CoreView, IsCoreOf}
use Rattle.settled_run.specs.Disk.{payloads_at}
use Rattle.settled_run.specs.Parties.{HasPorts, AreCoresWith, CanGoNoFurther}
use Rattle.run_parties.specs.declared.run_party.RunParty.{RunParty}
use Rattle.run_parties.specs.declared.run_party.RunParty.TheVariants.{Core, Disk}
use Rattle.run_parties.specs.Seats.{CoreSeat, core_of, ports_of, on_desk, popped_at}
use Rattle.run_parties.specs.Settling.{IsSettledOn}
use Rattle.run_parties.specs.Moving.{IsLaterSeat, DeskStops}
use Rattle.run_parties.specs.Parties.{IsLaterParty, AreSettledAt, PartyStops}
use Rattle.run_parties.specs.Seated.{HasItsPorts}
use Rattle.settled_rounds.specs.declared.party.Way.{Way}
use Rattle.core_runner.specs.inner.Parties.{seats_in}
use Rattle.core_runner.specs.inner.Runs.{HaveRun}
use Rattle.core_runner.proofs.Absent.{stays_absent}
use Rattle.core_runner.proofs.NewParties.{HasBegun, CoreBegun, begun, core_count, worker_stands}
use Rattle.core_runner.proofs.Lists.{same_some, at_seam, at_low, all_at}
use Rattle.core_runner.proofs.Seats.{as_many, after_at, core_after, worker_after, AreCores, all_seats, seat_at, same_worker}
use Rattle.core_runner.proofs.Ways.{IsChannelAt, IsRequestsAt, which, way_at, is_low, is_high}

-- what the core at a place tells of its ports, and nothing where there is none
abbrev pub nothing_told : PortsTold
nothing_told = record {
  terms = λ l. not_held.terms;
  ends = λ l. not_held.end;
  at_hand = λ l. not_held.hand;
  heard = λ l. 0;
  polls = λ l. 0;
  tries = λ l. 0;
  full = false;
}

abbrev pub told_by_seat : Option CoreSeat → PortsTold
told_by_seat None = nothing_told
told_by_seat (Some s) = ports_of s

module _ {D : Type 0} (told : D → DiskTold) (code : Parts) (well : HasLinks code) (bound : ℕ) (files : List (List ℕ)) (cores : List (RunParty D)) (ways : List Way)
    (w : Worker D) (b : HasBegun code bound cores ways w) (left : DiskTold) (ended : Ended) (ran : HaveRun told ways bound files (cores ++ Disk w ∷ []) left ended) where
  abbrev many : ℕ
  many = length code.entries

  abbrev now : List (RunParty D)
  now = ran.cores ++ Disk ran.worker ∷ []

  abbrev pub seats : List CoreSeat
  seats = seats_in ran.cores

  -- ---- each stands at its place

  pub now_count : length ran.cores ≡ many
  now_count =
      let n = as_many (IsLaterParty told) (cores ++ Disk w ∷ []) now ran.later in
      let x = length-append cores (Disk w ∷ []) in
      let y = length-append ran.cores (Disk ran.worker ∷ []) in
      let m = core_count code well bound cores ways w b in
      omega (arith, n, x, y, m)

  worker_at : slice_get now many ≡ Some (Disk ran.worker)
  worker_at = ap (slice_get now) (sym now_count) ∙ at_seam ran.cores (Disk ran.worker) []

  pub worker_goes_on : GoesOn (seen_of told w) (seen_of told ran.worker)
  worker_goes_on =
      let (q, at, later) = after_at (IsLaterParty told) (cores ++ Disk w ∷ []) now many (Disk w) ran.later (worker_stands code well bound cores ways w b) in
      let (v, is, goes, loan) = worker_after told w q later in
      let same = same_worker v ran.worker (sym is ∙ same_some q (Disk ran.worker) (sym at ∙ worker_at)) in
      subst (λ (u : Worker D). GoesOn (seen_of told w) (seen_of told u)) same goes

  -- core k before and after
  pub record CoreNow (k : ℕ) : Type 0 where
    pub begun_as : CoreBegun code well bound cores ways w b k
    pub seat : CoreSeat
    pub stands : slice_get now k ≡ Some (Core seat)
    pub there : slice_get ran.cores k ≡ Some (Core seat)
    pub later : IsLaterSeat begun_as.seat seat

  pub core_now : (k : ℕ) → k < many → CoreNow k
  core_now k low =
      let c = begun code well bound cores ways w b k low in
      let (q, at, step) = after_at (IsLaterParty told) (cores ++ Disk w ∷ []) now k (Core c.seat) ran.later c.stands in
      let (t, is, later) = core_after told c.seat q step in
      let n = now_count in
      let stands : slice_get now k ≡ Some (Core t) = at ∙ ap Some is in
      record {
        begun_as = c;
        seat = t;
        stands = stands;
        there = sym (at_low ran.cores (Disk ran.worker ∷ []) k (omega (arith, low, n))) ∙ stands;
        later = later;
      }

  are_cores : AreCores ran.cores
  are_cores k low = let n = now_count in let c = core_now k (omega (arith, low, n)) in (c.seat, c.there)

  pub seat_count : length seats ≡ many
  seat_count = all_seats ran.cores are_cores ∙ now_count

  pub seat_is : (k : ℕ) (c : CoreNow k) → slice_get seats k ≡ Some c.seat
  seat_is k c = seat_at ran.cores k c.seat are_cores c.there

  -- ---- the cores with their ports

  abbrev pub its_ports : ℕ → PortsTold
  its_ports k = told_by_seat (slice_get seats k)

  abbrev pub views : List CoreView
  views = map core_of seats

  pub ports_are : (k : ℕ) (s : CoreSeat) → slice_get seats k ≡ Some s → its_ports k ≡ ports_of s
  ports_are k s at = ap told_by_seat at

  is_core : (k : ℕ) (c : CoreNow k) → IsCoreOf code bound k (core_of c.seat)
  is_core k c = record {
    code_is = c.later.machine.code ∙ c.begun_as.is.core.code_is;
    core_is = c.later.machine.core ∙ c.begun_as.is.core.core_is;
    bound_is = c.later.machine.bound ∙ c.begun_as.is.core.bound_is;
  }

  has_ports : (k : ℕ) (c : CoreNow k) → HasPorts code bound k (core_of c.seat) (ports_of c.seat)
  has_ports k c =
      let is = is_core k c in
      let has = all_at HasItsPorts seats k c.seat ran.ports (seat_is k c) in
      record {
        core = is;
        ports = subst (λ x. ArePortsOf x k (ports_of c.seat).terms (ports_of c.seat).ends) is.code_is
            (subst (λ n. ArePortsOf c.seat.driven.machine.code n (ports_of c.seat).terms (ports_of c.seat).ends) is.core_is has.ports);
        agrees = subst (λ n. PartyAgrees (ports_of c.seat).terms n (ports_of c.seat).ends c.seat.driven.machine.journal) is.core_is has.agrees;
      }

  -- of the cores' views the one at a place is that of the core there
  pub view_at : (k : ℕ) (v : CoreView) → slice_get views k ≡ Some v → (c : CoreNow k) × (core_of c.seat ≡ v)
  view_at k v at =
      let low = slice_get_within views k v at in
      let n = length-map seats core_of in
      let m = seat_count in
      let c = core_now k (omega (arith, low, n, m)) in
      (c, same_some (core_of c.seat) v (sym (slice_get-map core_of seats k ∙ ap (option_map core_of) (seat_is k c)) ∙ at))

  pub core_low : (k : ℕ) (v : CoreView) → slice_get views k ≡ Some v → k < many
  core_low k v at = let low = slice_get_within views k v at in let n = length-map seats core_of in let m = seat_count in omega (arith, low, n, m)

  pub cores_with : AreCoresWith code bound views its_ports
  cores_with = record {
    count = length-map seats core_of ∙ seat_count;
    each = λ k v at.
        let (c, is) = view_at k v at in
        subst (λ p. HasPorts code bound k v p) (sym (ports_are k c.seat (seat_is k c))) (subst (λ x. HasPorts code bound k x (ports_of c.seat)) is (has_ports k c));
  }

  pub each_stops : (k : ℕ) (v : CoreView) → slice_get views k ≡ Some v → CanGoNoFurther v (its_ports k)
  each_stops k v at =
      let (c, is) = view_at k v at in
      subst (λ p. CanGoNoFurther v p) (sym (ports_are k c.seat (seat_is k c))) (subst (λ x. CanGoNoFurther x (ports_of c.seat)) is
      (all_at PartyStops now k (Core c.seat) ran.stopped c.stands))

  pub worker_stops : DeskStops (desk_of ran.worker)
  worker_stops = all_at PartyStops now many (Disk ran.worker) ran.stopped worker_at

  -- a core has nothing of a link that is not its own
  pub not_its : (k l : ℕ) → k < many → side_of code.ends k l ≡ Neither → ((its_ports k).ends l ≡ Absent) × ((its_ports k).heard l ≡ 0)
  not_its k l low side =
      let c = core_now k low in
      let first = b.dealt.each k c.begun_as.held c.begun_as.held_at in
      let none = ap (λ h. (on_link h l).end) c.begun_as.is.ports ∙ first.ends l ∙ ap new_end side in
      let gone : on_link c.seat.ports l ≡ not_held = stays_absent l c.begun_as.seat.ports c.seat.ports c.later.ports none in
      let is = ports_are k c.seat (seat_is k c) in
      (ap (λ (p : PortsTold). p.ends l) is ∙ ap (λ (x : OnLink). x.end) gone, ap (λ (p : PortsTold). p.heard l) is ∙ ap (λ (x : OnLink). x.heard) gone)

  -- of its own it knows the terms
  pub its_terms : (k l : ℕ) → k < many → side_of code.ends k l ≢ Neither → (its_ports k).terms l ≡ terms_at (length code.ends) code.capacities l
  its_terms k l low side = let c = core_now k low in ap (λ (p : PortsTold). p.terms l) (ports_are k c.seat (seat_is k c)) ∙ (has_ports k c).ports.coded l side

  -- ---- the two ends of link l

  pub record IsSettledLinkAt (l : ℕ) : Type 0 where
    pub requests : Bool
    pub kind : requests ≡ nat_le (length code.ends) l
    pub owner : CoreSeat
    pub owner_at : slice_get seats (owner_of code.ends l) ≡ Some owner
    pub peer : OnLink
    pub settled : IsSettledOn requests (on_link owner.ports l) peer
    -- before the channels' end the peer is a core, and after it the worker, who has taken the first requests
    pub by_core : l < length code.ends → (t : CoreSeat) × (slice_get seats (peer_of code.ends many l) ≡ Some t) × (peer ≡ on_link t.ports l)
    pub by_worker : length code.ends ≤ l → (peer ≡ on_desk (desk_of ran.worker) l)
        × IsPrefix (popped_at (desk_of ran.worker) l) (payloads_at (on_link owner.ports l).end)

  -- what holds of the parties at the ends of a way
  ends_settled : (l : ℕ) (h : l < length code.capacities) (p q : RunParty D) → slice_get now (owner_of code.ends l) ≡ Some p
      → slice_get now (peer_of code.ends many l) ≡ Some q → AreSettledAt l p q
  ends_settled l h p q from to =
      let (v, at, is) = way_at code well ways b.ways_are l h in
      ran.settled l v p q at (ap (slice_get now) is.from ∙ from) (ap (slice_get now) is.to ∙ to)

  channel_settled : (l : ℕ) (h : l < length code.capacities) → IsChannelAt code l → IsSettledLinkAt l
  channel_settled l h c =
      let f = core_now c.ends.from c.from_core in
      let t = core_now c.ends.to c.to_core in
      record {
        requests = false;
        kind = sym (is_low l (length code.ends) c.low);
        owner = f.seat;
        owner_at = ap (slice_get seats) c.owner ∙ seat_is c.ends.from f;
        peer = on_link t.seat.ports l;
        settled = ends_settled l h (Core f.seat) (Core t.seat) (ap (slice_get now) c.owner ∙ f.stands) (ap (slice_get now) c.peer ∙ t.stands);
        by_core = λ low. (t.seat, ap (slice_get seats) c.peer ∙ seat_is c.ends.to t, refl);
        by_worker = λ high. let low = c.low in absurd (omega (arith, low, high));
      }

  requests_settled : (l : ℕ) (h : l < length code.capacities) → IsRequestsAt code l → IsSettledLinkAt l
  requests_settled l h r =
      let f = core_now r.core r.within in
      let here = r.here in
      let both = ends_settled l h (Core f.seat) (Disk ran.worker) (ap (slice_get now) r.owner ∙ f.stands) (ap (slice_get now) r.peer ∙ worker_at) in
      record {
        requests = true;
        kind = sym (is_high l (length code.ends) (omega (arith, here)));
        owner = f.seat;
        owner_at = ap (slice_get seats) r.owner ∙ seat_is r.core f;
        peer = on_desk (desk_of ran.worker) l;
        settled = both.0;
        by_core = λ low. absurd (omega (arith, low, here));
        by_worker = λ high. (refl, both.1);
      }

  pub link_settled : (l : ℕ) → l < length code.capacities → IsSettledLinkAt l
  link_settled l h = ⊎_elim (channel_settled l h) (requests_settled l h) (which code well l h)
