-- After the run the ports of each core tell all that is at hand on its links, and no stamp that the other side has not made; and the worker can go
-- no further, since a settling told it of no request that it has not decided, or no stamp is left to it.
use Rattle.std.proofs.Common.{◌≡◌, ◌≢◌, inl, inr, ℕ, ◌<◌, ◌≤◌, List, [], ◌∷◌, ◌++◌, None, Bool, true, false, refl, sym, ap, ◌∙◌, subst, arith, length}
use Rattle.std.specs.Prelude.{slice_get, nat_lt, ◌&&◌, is_some}
use Rattle.std.proofs.Math.Bool.{and-false}
use Rattle.std.proofs.lemmas.Bool.Decides.{nat_tests}
use Rattle.std.proofs.lemmas.Option.{slice_get_past}
use Rattle.ac_base.specs.Stamps.{stamp_after}
use Rattle.ac_links.specs.declared.payloads.Terms.{Terms}
use Rattle.ac_links.specs.Journals.{last_of}
use Rattle.ac_links.specs.Party.{LinkEnd}
use Rattle.ac_links.specs.Party.LinkEnd.{Owns, Decides, Absent}
use Rattle.ac_links.specs.Replies.{waiting_replies}
use Rattle.ac_links.specs.Views.{OwnerOffer, PeerDecision, owner_lead}
use Rattle.ac_outside.specs.Disks.{DiskTold}
use Rattle.stack_code.specs.Parts.{Parts}
use Rattle.stack_code.specs.Valid.{HasLinks}
use Rattle.core_ports.specs.Ends.{greatest, has_room, last_stamp_of, offers_of}
use Rattle.core_ports.specs.PortsTold.{PortsTold}
use Rattle.core_ports.specs.declared.side.Side.{Side}
use Rattle.core_ports.specs.declared.side.Side.TheVariants.{Owner, Peer, Neither}
use Rattle.core_ports.specs.Sides.{side_of}
use Rattle.end_ports.specs.OnLinks.{OnLink, on_link}
use Rattle.file_ops.specs.Agreement.{is_own}
use Rattle.file_worker.specs.declared.worker.Worker.{Worker}
use Rattle.file_worker.specs.Ends.{AtDesk}
use Rattle.program_run.specs.declared.ended.Ended.{Ended}
use Rattle.program_run.specs.Parties.{owner_of, peer_of}
use Rattle.run_laws.proofs.Parties.{owner_is as owner_core, peer_is as peer_core}
use Rattle.run_parties.specs.declared.run_party.RunParty.{RunParty}
use Rattle.run_parties.specs.declared.run_party.RunParty.TheVariants.{Disk}
use Rattle.run_parties.specs.Seats.{on_desk}
use Rattle.run_parties.specs.Settling.{IsKnownOn}
use Rattle.settled_run.specs.Ends.{decisions_of, greatest_at, owner_end, peer_end, facing, other_ends}
use Rattle.settled_run.specs.Parties.{AllAreDecided, NoStampIsLeft, WorkerCanGoNoFurther}
use Rattle.settled_run.specs.Telling.{TellsOwner, TellsPeer, TellsAll}
use Rattle.settled_run.proofs.Linked.{own_low, own_high}
use Rattle.settled_rounds.specs.declared.party.Way.{Way}
use Rattle.core_runner.specs.inner.Runs.{HaveRun}
use Rattle.core_runner.proofs.AfterRun.{ports_are, not_its, its_terms, worker_stops, IsSettledLinkAt}
use Rattle.core_runner.proofs.NewParties.{HasBegun}
use Rattle.core_runner.proofs.Settled.{desk, worker, ports, link_now, desk_first, desk_long, desk_none, owner_is, peer_is, worker_is}
use Rattle.core_runner.proofs.Ways.{peer_low, side_within}

-- ---- what two settled ends tell

not_less : (m n : ℕ) → nat_lt m n ≡ false → n ≤ m
not_less m n h = grind (arith, nat_tests)

none_longer : {X : Type 0} (xs : List X) → nat_lt 0 (length xs) ≡ false → xs ≡ []
none_longer [] h = refl
none_longer (x ∷ xs) h = let n = not_less 0 (length (x ∷ xs)) h in absurd (omega (arith, n))

-- the offers and decisions are those of the ends
module _ (requests : Bool) (owner peer : OnLink) (known : IsKnownOn requests owner peer) (offers : List OwnerOffer) (decisions : List PeerDecision)
    (owns : owner.end ≡ Owns offers) (decides : peer.end ≡ Decides decisions) where
  same_offers : known.offers ≡ offers
  same_offers = ap offers_of (sym known.owns ∙ owns)

  same_decisions : known.decisions ≡ decisions
  same_decisions = ap decisions_of (sym known.decides ∙ decides)

  undecided : owner.hand.decision ≡ false → is_some (slice_get offers (owner_lead offers)) && is_some (slice_get decisions (owner_lead offers)) ≡ false
  undecided h =
      let less : nat_lt (owner_lead offers) (length decisions) ≡ false =
      sym (ap (λ os. nat_lt (owner_lead os) (length known.decisions)) same_offers ∙ ap (λ (ds : List PeerDecision). nat_lt (owner_lead offers) (length ds)) same_decisions)
      ∙ sym known.decision ∙ h in
      ap (λ o. is_some (slice_get offers (owner_lead offers)) && is_some o) (slice_get_past decisions (owner_lead offers) (not_less (owner_lead offers) (length decisions) less))
      ∙ and-false (is_some (slice_get offers (owner_lead offers)))

  no_reply : requests ≡ true → owner.hand.reply ≡ false → waiting_replies offers decisions ≡ []
  no_reply asks h = none_longer (waiting_replies offers decisions)
      (sym (ap (λ os. nat_lt 0 (length (waiting_replies os known.decisions))) same_offers ∙ ap (λ ds. nat_lt 0 (length (waiting_replies offers ds))) same_decisions)
      ∙ sym (known.reply asks) ∙ h)

  no_room : (t : Bool) → has_room owner.terms owner.end ≡ t → owner.hand.slot ≡ false → has_room owner.terms (Owns offers) ≡ false
  no_room true e h = let no : true ≡ false = sym (known.slot e) ∙ h in absurd cc
  no_room false e h = sym (ap (has_room owner.terms) owns) ∙ e

  pub tells_owner : (owner.terms.requests ≡ true → requests ≡ true) → TellsOwner owner.terms owner.hand offers decisions
  tells_owner kind = record {
    decision = undecided;
    reply = λ asks h. no_reply (kind asks) h;
    slot = λ h. no_room (has_room owner.terms owner.end) refl h;
  }

  pub tells_peer : TellsPeer peer.hand offers decisions
  tells_peer h = not_less (length decisions) (length offers)
      (sym (ap (λ (os : List OwnerOffer). nat_lt (length known.decisions) (length os)) same_offers ∙ ap (λ (ds : List PeerDecision). nat_lt (length ds) (length offers)) same_decisions)
      ∙ sym known.front ∙ h)

module _ {D : Type 0} (told : D → DiskTold) (code : Parts) (well : HasLinks code) (bound : ℕ) (files : List (List ℕ)) (cores : List (RunParty D)) (ways : List Way)
    (w : Worker D) (b : HasBegun code bound cores ways w) (left : DiskTold) (ended : Ended) (ran : HaveRun told ways bound files (cores ++ Disk w ∷ []) left ended) where
  abbrev hold : ℕ → PortsTold
  hold = ports told code well bound files cores ways w b left ended ran

  abbrev ends : ℕ → LinkEnd
  ends = worker told code well bound files cores ways w b left ended ran

  abbrev LinkNow : ℕ → Type 0
  LinkNow = IsSettledLinkAt told code well bound files cores ways w b left ended ran

  link : (l : ℕ) → l < length code.capacities → LinkNow l
  link = link_now told code well bound files cores ways w b left ended ran

  has_owner : (l : ℕ) (s : LinkNow l) → owner_end code hold l ≡ (on_link s.owner.ports l).end
  has_owner = owner_is told code well bound files cores ways w b left ended ran

  has_peer : (l : ℕ) (s : LinkNow l) → peer_end code hold ends l ≡ s.peer.end
  has_peer = peer_is told code well bound files cores ways w b left ended ran

  -- ---- a core

  module _ (k : ℕ) (low : k < length code.entries) where
    abbrev others : ℕ → LinkEnd
    others = other_ends code hold ends k

    some_side : (l : ℕ) (s : Side) → s ≢ Neither → side_of code.ends k l ≡ s → l < length code.capacities
    some_side l s some is = side_within code well k l low (λ none. some (sym is ∙ none))

    -- what it has of the link is what the owner, or the peer, has
    as_owner : (l : ℕ) (s : LinkNow l) → side_of code.ends k l ≡ Owner → hold k ≡ hold (owner_of code.ends l)
    as_owner l s is = ap hold (sym (owner_core code.ends k l is))

    owner_told : (l : ℕ) (s : LinkNow l) → side_of code.ends k l ≡ Owner
        → ((hold k).terms l ≡ (on_link s.owner.ports l).terms) × ((hold k).ends l ≡ (on_link s.owner.ports l).end) × ((hold k).at_hand l ≡ (on_link s.owner.ports l).hand)
        × ((hold k).heard l ≡ (on_link s.owner.ports l).heard)
    owner_told l s is =
        let e = as_owner l s is ∙ ports_are told code well bound files cores ways w b left ended ran (owner_of code.ends l) s.owner s.owner_at in
        (ap (λ (p : PortsTold). p.terms l) e, ap (λ (p : PortsTold). p.ends l) e, ap (λ (p : PortsTold). p.at_hand l) e, ap (λ (p : PortsTold). p.heard l) e)

    peer_told : (l : ℕ) (s : LinkNow l) → side_of code.ends k l ≡ Peer
        → ((hold k).ends l ≡ s.peer.end) × ((hold k).at_hand l ≡ s.peer.hand) × ((hold k).heard l ≡ s.peer.heard)
    peer_told l s is =
        let (t, at, same) = s.by_core (peer_low code.ends k l is) in
        let e = ap hold (sym (peer_core code.ends (length code.entries) k l is))
        ∙ ports_are told code well bound files cores ways w b left ended ran (peer_of code.ends (length code.entries) l) t at in (
          ap (λ (p : PortsTold). p.ends l) e ∙ ap (λ (x : OnLink). x.end) (sym same),
          ap (λ (p : PortsTold). p.at_hand l) e ∙ ap (λ (x : OnLink). x.hand) (sym same),
          ap (λ (p : PortsTold). p.heard l) e ∙ ap (λ (x : OnLink). x.heard) (sym same),
        )

    faces : (l : ℕ) (s : Side) → side_of code.ends k l ≡ s → others l ≡ facing s (owner_end code hold l) (peer_end code hold ends l)
    faces l s is = ap (λ x. facing x (owner_end code hold l) (peer_end code hold ends l)) is

    -- ---- what it holds says which side it has

    no_owner : (l : ℕ) (s : LinkNow l) (decisions : List PeerDecision) → side_of code.ends k l ≡ Owner → (hold k).ends l ≡ Decides decisions → ⊥
    no_owner l s decisions is e = let no : Owns s.settled.known.offers ≡ Decides decisions = sym s.settled.known.owns ∙ sym (owner_told l s is).1 ∙ e in absurd cc

    no_peer : (l : ℕ) (s : LinkNow l) (offers : List OwnerOffer) → side_of code.ends k l ≡ Peer → (hold k).ends l ≡ Owns offers → ⊥
    no_peer l s offers is e = let no : Decides s.settled.known.decisions ≡ Owns offers = sym s.settled.known.decides ∙ sym (peer_told l s is).0 ∙ e in absurd cc

    nothing : (l : ℕ) → side_of code.ends k l ≡ Neither → ((hold k).ends l ≡ Absent) × ((hold k).heard l ≡ 0)
    nothing l is = not_its told code well bound files cores ways w b left ended ran k l low is

    owner_some : (l : ℕ) → side_of code.ends k l ≡ Owner → l < length code.capacities
    owner_some l is = some_side l Owner (λ e. absurd cc) is

    peer_some : (l : ℕ) → side_of code.ends k l ≡ Peer → l < length code.capacities
    peer_some l is = some_side l Peer (λ e. absurd cc) is

    -- ---- what it tells

    tells_as_owner : (l : ℕ) (offers : List OwnerOffer) (decisions : List PeerDecision) → side_of code.ends k l ≡ Owner → (hold k).ends l ≡ Owns offers
        → others l ≡ Decides decisions → TellsOwner ((hold k).terms l) ((hold k).at_hand l) offers decisions
    tells_as_owner l offers decisions is owns decides =
        let s = link l (owner_some l is) in
        let (terms, end, hand, heard) = owner_told l s is in
        let some : side_of code.ends k l ≢ Neither = λ none. (let no : Owner ≡ Neither = sym is ∙ none in absurd cc) in
        let kind : (on_link s.owner.ports l).terms.requests ≡ true → s.requests ≡ true = λ asks. s.kind
        ∙ sym (ap (λ (t : Terms). t.requests) (its_terms told code well bound files cores ways w b left ended ran k l low some))
        ∙ ap (λ (t : Terms). t.requests) terms ∙ asks in
        subst (λ t. TellsOwner t ((hold k).at_hand l) offers decisions) (sym terms) (subst (λ h. TellsOwner (on_link s.owner.ports l).terms h offers decisions) (sym hand)
        (tells_owner s.requests (on_link s.owner.ports l) s.peer s.settled.known offers decisions (sym end ∙ owns) (sym (has_peer l s) ∙ sym (faces l Owner is) ∙ decides) kind))

    tells_as_peer : (l : ℕ) (offers : List OwnerOffer) (decisions : List PeerDecision) → side_of code.ends k l ≡ Peer → (hold k).ends l ≡ Decides decisions
        → others l ≡ Owns offers → TellsPeer ((hold k).at_hand l) offers decisions
    tells_as_peer l offers decisions is decides owns =
        let s = link l (peer_some l is) in
        let (end, hand, heard) = peer_told l s is in
        subst (λ h. TellsPeer h offers decisions) (sym hand)
        (tells_peer s.requests (on_link s.owner.ports l) s.peer s.settled.known offers decisions (sym (has_owner l s) ∙ sym (faces l Peer is) ∙ owns) (sym end ∙ decides))

    owner_by : (l : ℕ) (offers : List OwnerOffer) (decisions : List PeerDecision) (s : Side) → side_of code.ends k l ≡ s → (hold k).ends l ≡ Owns offers
        → others l ≡ Decides decisions → TellsOwner ((hold k).terms l) ((hold k).at_hand l) offers decisions
    owner_by l offers decisions Owner is e f = tells_as_owner l offers decisions is e f
    owner_by l offers decisions Peer is e f = absurd (no_peer l (link l (peer_some l is)) offers is e)
    owner_by l offers decisions Neither is e f = let no : Absent ≡ Owns offers = sym (nothing l is).0 ∙ e in absurd cc

    peer_by : (l : ℕ) (offers : List OwnerOffer) (decisions : List PeerDecision) (s : Side) → side_of code.ends k l ≡ s → (hold k).ends l ≡ Decides decisions
        → others l ≡ Owns offers → TellsPeer ((hold k).at_hand l) offers decisions
    peer_by l offers decisions Owner is e f = absurd (no_owner l (link l (owner_some l is)) decisions is e)
    peer_by l offers decisions Peer is e f = tells_as_peer l offers decisions is e f
    peer_by l offers decisions Neither is e f = let no : Absent ≡ Decides decisions = sym (nothing l is).0 ∙ e in absurd cc

    heard_by : (l : ℕ) (s : Side) → side_of code.ends k l ≡ s → (hold k).heard l ≤ greatest_at (others l)
    heard_by l Owner is =
        let s = link l (owner_some l is) in
        let (terms, end, hand, heard) = owner_told l s is in
        let all : others l ≡ Decides s.settled.known.decisions = faces l Owner is ∙ has_peer l s ∙ s.settled.known.decides in
        subst (λ n. n ≤ greatest_at (others l)) (sym heard) (subst (λ x. (on_link s.owner.ports l).heard ≤ greatest_at x) (sym all) s.settled.heard_by_owner)
    heard_by l Peer is =
        let s = link l (peer_some l is) in
        let (end, hand, heard) = peer_told l s is in
        let all : others l ≡ Owns s.settled.known.offers = faces l Peer is ∙ has_owner l s ∙ s.settled.known.owns in
        subst (λ n. n ≤ greatest_at (others l)) (sym heard) (subst (λ x. s.peer.heard ≤ greatest_at x) (sym all) s.settled.heard_by_peer)
    heard_by l Neither is = let none = (nothing l is).1 in omega (arith, none)

    pub tells_all : TellsAll (hold k) others
    tells_all = record {
      owner = λ l offers decisions e f. owner_by l offers decisions (side_of code.ends k l) refl e f;
      peer = λ l offers decisions e f. peer_by l offers decisions (side_of code.ends k l) refl e f;
      heard = λ l. heard_by l (side_of code.ends k l) refl;
    }

  -- ---- the worker

  -- what it has of the link of a core is the peer's end
  at_desk : (l : ℕ) (s : LinkNow l) → length code.ends ≤ l → s.peer ≡ on_desk (desk told code well bound files cores ways w b left ended ran) l
  at_desk l s high = (s.by_worker high).0

  abbrev its_desk : AtDesk
  its_desk = desk told code well bound files cores ways w b left ended ran

  all_decided : ((l : ℕ) → (on_desk its_desk l).hand.front ≡ false) → AllAreDecided code hold ends
  all_decided none l offers decisions high low owns decides =
      let s = link l low in
      let here = at_desk l s high in
      tells_peer s.requests (on_link s.owner.ports l) s.peer s.settled.known offers decisions (sym (has_owner l s) ∙ owns)
      (ap (λ (x : OnLink). x.end) here ∙ sym (worker_is told code well bound files cores ways w b left ended ran l) ∙ decides)
      (ap (λ (x : OnLink). x.hand.front) here ∙ none l)

  no_stamp_here : (l : ℕ) → length code.ends ≤ l → l < length code.capacities → stamp_after (last_of 0 its_desk.entries) (on_desk its_desk l).heard ≡ None
      → NoStampIsLeft code hold its_desk.entries
  no_stamp_here l high low full =
      let s = link l low in
      record {
        link = l;
        after = high;
        within = low;
        heard = (on_desk its_desk l).heard;
        most = subst (λ x. (on_desk its_desk l).heard ≤ greatest_at x) (sym (has_owner l s ∙ s.settled.known.owns))
            (subst (λ (x : OnLink). x.heard ≤ greatest last_stamp_of s.settled.known.offers) (at_desk l s high) s.settled.heard_by_peer);
        full = full;
      }

  -- a link of no core was not heard of: so no stamp is left whatever is answered
  no_stamp_at_all : 1 ≤ length code.entries → (l : ℕ) → is_own (length code.ends) (length code.entries) l ≡ false
      → stamp_after (last_of 0 its_desk.entries) (on_desk its_desk l).heard ≡ None → NoStampIsLeft code hold its_desk.entries
  no_stamp_at_all some l other full =
      let none = (desk_none its_desk (length code.ends) (length code.entries) l (desk_first told code well bound files cores ways w b left ended ran)
      (desk_long told code well bound files cores ways w b left ended ran) other).0 in
      let count = well.each in
      record {
        link = length code.ends;
        after = omega arith;
        within = omega (arith, some, count);
        heard = 0;
        most = omega arith;
        full = sym (ap (λ (x : OnLink). stamp_after (last_of 0 its_desk.entries) x.heard) none) ∙ full;
      }

  pub worker_rests : 1 ≤ length code.entries → WorkerCanGoNoFurther code hold ends its_desk.entries
  worker_rests some = elim (worker_stops told code well bound files cores ways w b left ended ran) [
    | inl all ↦ inl (all_decided all)
    | inr one ↦ inr (by one.0 one.1 (is_own (length code.ends) (length code.entries) one.0) refl)
  ]
    where
      by : (l : ℕ) → stamp_after (last_of 0 its_desk.entries) (on_desk its_desk l).heard ≡ None → (t : Bool) → is_own (length code.ends) (length code.entries) l ≡ t
          → NoStampIsLeft code hold its_desk.entries
      by l full true own = let count = well.each in let low = own_low (length code.ends) (length code.entries) l own in let high = own_high (length code.ends) (length code.entries) l own in
          no_stamp_here l low (omega (arith, high, count)) full
      by l full false own = no_stamp_at_all some l own full
