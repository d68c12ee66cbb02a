-- Two cores with one channel, of which the first has sent 5 and the second has received it, and a worker of which nothing was asked: what
-- each holds at its own ends, when these are settled, and which run they have made.
use Rattle.std.proofs.Common.{◌≡◌, ℕ, zero, suc, ◌+◌, ◌≤◌, ◌<◌, List, [], ◌∷◌, Some, None, true, false, cond, refl, sym, ap, ◌∙◌, subst, inl, inr, arith, length}
use Rattle.std.specs.Prelude.{pos, ◌^◌, ◌-◌, ◌==◌}
use Rattle.std.proofs.lemmas.Bool.Decides.{nat_tests}
use Rattle.std.proofs.lemmas.List.Elements.{All-from_recursion}
use Rattle.ac_base.specs.declared.entry.Event.TheVariants.{Pass}
use Rattle.ac_base.specs.Stamps.{stamp_after}
use Rattle.ac_commands.specs.declared.program.Resolved.{Resolved}
use Rattle.ac_translation.specs.Translation.{code_of}
use Rattle.ac_translation.specs.Same.{IsSame}
use Rattle.stack_code.specs.Valid.{IsValid}
use Rattle.ac_links.specs.declared.payloads.Terms.{Terms}
use Rattle.ac_links.specs.Payloads.Taking.{Message}
use Rattle.ac_links.specs.Views.{OwnerOffer, PeerDecision, known_at}
use Rattle.ac_links.specs.Party.{LinkEnd, EndRuns}
use Rattle.ac_links.specs.Party.LinkEnd.{Owns, Decides, Absent}
use Rattle.core_channels.specs.LinkViews.{IsOffer, no_link, terms_at}
use Rattle.core_channels.specs.Takes.{taken_decision}
use Rattle.core_driver.specs.Sides.{ArePortsOf}
use Rattle.core_ports.specs.AtHand.{AtHand}
use Rattle.core_ports.specs.Ends.{is_owner, is_peer, offers_of}
use Rattle.core_ports.specs.PortsTold.{PortsTold}
use Rattle.core_ports.specs.declared.side.Side.{Side}
use Rattle.core_ports.specs.declared.side.Side.TheVariants.{Owner, Peer, Neither}
use Rattle.core_ports.specs.Sides.{side_of}
use Rattle.file_ops.specs.Agreement.{is_own}
use Rattle.run_laws.specs.Hands.{heard_at}
use Rattle.program_run.specs.Run.{IsRunOf}
use Rattle.run_laws.specs.Network.{terms_in, ends_in, heard_in}
use Rattle.run_laws.proofs.CoreExamples.{crossing, five, crossed, links_with, entry, sender}
use Rattle.run_laws.proofs.CoreExamples.{waiting, by_place, it_agrees, so_does_the_receiver, the_sender_ends, the_receiver_ends, the_first_of_its_cores}
use Rattle.run_laws.proofs.RunExamples.{its_cores, their_run, it_is_made}
use Rattle.settled_run.specs.Ends.{decisions_of, greatest_at, owner_end, peer_end, facing, other_ends}
use Rattle.settled_run.specs.Settled.{IsSettledLink, AreSettledEnds}
use Rattle.settled_run.specs.Telling.{TellsOwner, TellsPeer, TellsAll}
use Rattle.settled_run.specs.Parties.{HasPorts, AreCoresWith, CanGoNoFurther, WorkerHolds, AllAreDecided, NoStampIsLeft, WorkerCanGoNoFurther}
use Rattle.settled_run.specs.Laws.{SettledEndsMakeARun}

-- ---- what each of them tells

-- there is a place for one more offer, and nothing else
abbrev room : AtHand
room = record { decision = false; front = false; reply = false; slot = true }

abbrev ports_with : ℕ → (ℕ → LinkEnd) → PortsTold
ports_with core ends = record {
  terms = terms_in (links_with crossed);
  ends = ends;
  at_hand = λ l. room;
  heard = heard_in crossing.ends core (links_with crossed);
  polls = λ l. 1;
  tries = λ l. 1;
  full = false;
}

abbrev pub ports : ℕ → PortsTold
ports zero = ports_with 0 (ends_in crossing.ends 0 (links_with crossed))
ports (suc k) = ports_with 1 (ends_in crossing.ends 1 (links_with crossed))

-- the links of requests are 1 and 2
abbrev pub worker : ℕ → LinkEnd
worker zero = Absent
worker (suc zero) = Decides []
worker (suc (suc zero)) = Decides []
worker (suc (suc (suc l))) = Absent

pub whose_ends : (owner_end crossing ports 0 ≡ Owns (known_at 2 five ∷ [])) × (peer_end crossing ports worker 0 ≡ Decides (taken_decision (pos 5 ∷ []) 2 1 ∷ []))
    × (owner_end crossing ports 2 ≡ Owns []) × (peer_end crossing ports worker 2 ≡ Decides [])
whose_ends = (refl, refl, refl, refl)

pub what_the_others_have : (other_ends crossing ports worker 0 0 ≡ Decides (taken_decision (pos 5 ∷ []) 2 1 ∷ [])) × (other_ends crossing ports worker 1 0 ≡ Owns (known_at 2 five ∷ []))
    × (other_ends crossing ports worker 0 2 ≡ Absent)
what_the_others_have = (refl, refl, refl)

pub which_end_faces_which : (facing Owner (Owns []) (Decides []) ≡ Decides []) × (facing Peer (Owns []) (Decides []) ≡ Owns []) × (facing Neither (Owns []) (Decides []) ≡ Absent)
which_end_faces_which = (refl, refl, refl)

pub what_is_decided : (decisions_of (Decides (taken_decision (pos 5 ∷ []) 2 1 ∷ [])) ≡ taken_decision (pos 5 ∷ []) 2 1 ∷ []) × (decisions_of (Owns (five ∷ [])) ≡ []) × (decisions_of Absent ≡ [])
what_is_decided = (refl, refl, refl)

-- the offer has stamp 1, and its withdrawal here stamp 4
pub the_greatest_stamps : (greatest_at (Owns (record five { withdrawn = Some 4 } ∷ five ∷ [])) ≡ 4) × (greatest_at (Decides (taken_decision (pos 5 ∷ []) 2 1 ∷ [])) ≡ 2) × (greatest_at Absent ≡ 0)
the_greatest_stamps = (refl, refl, refl)

-- ---- their ends are settled

abbrev messages : Terms
messages = record { capacity = 1; requests = false }

pub its_channel_is_settled : IsSettledLink messages (Owns (known_at 2 five ∷ [])) (Decides (taken_decision (pos 5 ∷ []) 2 1 ∷ []))
its_channel_is_settled = record {
  offers = known_at 2 five ∷ [];
  decisions = taken_decision (pos 5 ∷ []) 2 1 ∷ [];
  owns = refl;
  decides = refl;
  views = record {
    agree = ((omega arith, (Message (pos 5 ∷ []), refl, refl, refl), refl, omega arith, tt), tt);
    each = All-from_recursion (IsOffer false) (known_at 2 five ∷ []) (record { carried = refl; later = tt }, tt);
  };
}

-- not where the decision is of an offer that the other end has not made
pub not_without_the_offer : IsSettledLink messages (Owns []) (Decides (taken_decision (pos 5 ∷ []) 2 1 ∷ [])) → ⊥
not_without_the_offer s =
    let none : [] ≡ s.offers = ap offers_of s.owns in
    let one : taken_decision (pos 5 ∷ []) 2 1 ∷ [] ≡ s.decisions = ap decisions_of s.decides in
    rw (← none, ← one) at s.views.agree

pub nor_two_sending_ends : IsSettledLink messages (Owns []) (Owns []) → ⊥
nor_two_sending_ends s = let no : true ≡ false = ap is_owner s.decides in cc

pub they_are_settled : AreSettledEnds crossing ports worker
they_are_settled = record { links = linked; cores = cores; others = others } where
  asks : IsSettledLink (record { capacity = 16; requests = true }) (Owns []) (Decides [])
  asks = record {
    offers = [];
    decisions = [];
    owns = refl;
    decides = refl;
    views = record { agree = tt; each = All-from_recursion (IsOffer true) [] tt };
  }

  linked : (l : ℕ) → l < 3 → IsSettledLink (terms_at 1 (1 ∷ 16 ∷ 16 ∷ []) l) (owner_end crossing ports l) (peer_end crossing ports worker l)
  linked zero h = its_channel_is_settled
  linked (suc zero) h = asks
  linked (suc (suc zero)) h = asks
  linked (suc (suc (suc l))) h = absurd (omega arith)

  cores : (k l : ℕ) → k < 2 → side_of crossing.ends k l ≡ Neither → (ports k).ends l ≡ Absent
  cores zero zero h e = cc
  cores zero (suc zero) h e = cc
  cores zero (suc (suc zero)) h e = refl
  cores zero (suc (suc (suc l))) h e = refl
  cores (suc zero) zero h e = cc
  cores (suc zero) (suc zero) h e = refl
  cores (suc zero) (suc (suc zero)) h e = cc
  cores (suc zero) (suc (suc (suc l))) h e = refl
  cores (suc (suc k)) l h e = absurd (omega arith)

  others : (l : ℕ) → is_own 1 2 l ≡ false → worker l ≡ Absent
  others zero e = refl
  others (suc zero) e = cc
  others (suc (suc zero)) e = cc
  others (suc (suc (suc l))) e = refl

pub not_where_the_worker_has_a_channel : AreSettledEnds crossing ports (λ l. Decides []) → ⊥
not_where_the_worker_has_a_channel s = let no : true ≡ false = ap is_peer (s.others 0 refl) in cc

-- ---- their ports tell all

pub all_is_known : TellsOwner messages room (known_at 2 five ∷ []) (taken_decision (pos 5 ∷ []) 2 1 ∷ [])
all_is_known = record { decision = λ e. refl; reply = λ asks e. let no : false ≡ true = asks in absurd (cc); slot = λ e. let no : true ≡ false = e in absurd (cc) }

pub not_where_a_decision_is_kept_back : TellsOwner messages room (five ∷ []) (taken_decision (pos 5 ∷ []) 2 1 ∷ []) → ⊥
not_where_a_decision_is_kept_back t = let no = t.decision refl in cc

pub not_where_room_is_kept_back : TellsOwner messages (record room { slot = false }) [] [] → ⊥
not_where_room_is_kept_back t = let no = t.slot refl in cc

pub all_is_decided : TellsPeer room (known_at 2 five ∷ []) (taken_decision (pos 5 ∷ []) 2 1 ∷ [])
all_is_decided e = omega arith

pub not_where_an_offer_is_kept_back : TellsPeer room (five ∷ []) [] → ⊥
not_where_an_offer_is_kept_back t = let le = t refl in omega (arith, le)

nothing_there : (t : Terms) → TellsOwner t room [] []
nothing_there t = record { decision = λ e. refl; reply = λ asks e. refl; slot = λ e. let no : true ≡ false = e in absurd (cc) }

-- what holds of the lists of two ends holds of the lists that they are
owner_tells : (t : Terms) (hand : AtHand) (x y : LinkEnd) (os : List OwnerOffer) (ds : List PeerDecision) → x ≡ Owns os → y ≡ Decides ds
    → TellsOwner t hand (offers_of x) (decisions_of y) → TellsOwner t hand os ds
owner_tells t hand x y os ds e f tells =
    let same_offers : offers_of x ≡ os = ap offers_of e in let same_decisions : decisions_of y ≡ ds = ap decisions_of f in rw (← same_offers, ← same_decisions) tells

peer_tells : (hand : AtHand) (x y : LinkEnd) (os : List OwnerOffer) (ds : List PeerDecision) → x ≡ Decides ds → y ≡ Owns os
    → TellsPeer hand (offers_of y) (decisions_of x) → TellsPeer hand os ds
peer_tells hand x y os ds e f tells =
    let same_offers : offers_of y ≡ os = ap offers_of f in let same_decisions : decisions_of x ≡ ds = ap decisions_of e in rw (← same_offers, ← same_decisions) tells

no_owner : (x : LinkEnd) (os : List OwnerOffer) → is_owner x ≡ false → x ≡ Owns os → ⊥
no_owner x os none e = let no : true ≡ false = sym (ap is_owner e) ∙ none in cc

no_peer : (x : LinkEnd) (ds : List PeerDecision) → is_peer x ≡ false → x ≡ Decides ds → ⊥
no_peer x ds none e = let no : true ≡ false = sym (ap is_peer e) ∙ none in cc

nothing_heard : (side : Side) (n : ℕ) → heard_at no_link side ≤ n
nothing_heard Owner n = omega arith
nothing_heard Peer n = omega arith
nothing_heard Neither n = omega arith

pub the_sender_tells_all : TellsAll (ports 0) (other_ends crossing ports worker 0)
the_sender_tells_all = record { owner = owner; peer = peer; heard = heard } where
  owner : (l : ℕ) (os : List OwnerOffer) (ds : List PeerDecision) → (ports 0).ends l ≡ Owns os → other_ends crossing ports worker 0 l ≡ Decides ds
      → TellsOwner ((ports 0).terms l) ((ports 0).at_hand l) os ds
  owner zero os ds e f = owner_tells messages room _ _ os ds e f all_is_known
  owner (suc zero) os ds e f = owner_tells _ room _ _ os ds e f (nothing_there _)
  owner (suc (suc zero)) os ds e f = absurd (no_owner Absent os refl e)
  owner (suc (suc (suc l))) os ds e f = absurd (no_owner Absent os refl e)

  peer : (l : ℕ) (os : List OwnerOffer) (ds : List PeerDecision) → (ports 0).ends l ≡ Decides ds → other_ends crossing ports worker 0 l ≡ Owns os
      → TellsPeer ((ports 0).at_hand l) os ds
  peer zero os ds e f = absurd (no_peer _ ds refl e)
  peer (suc zero) os ds e f = absurd (no_peer _ ds refl e)
  peer (suc (suc zero)) os ds e f = absurd (no_peer _ ds refl e)
  peer (suc (suc (suc l))) os ds e f = absurd (no_peer Absent ds refl e)

  heard : (l : ℕ) → (ports 0).heard l ≤ greatest_at (other_ends crossing ports worker 0 l)
  heard zero = omega arith
  heard (suc zero) = omega arith
  heard (suc (suc zero)) = omega arith
  heard (suc (suc (suc l))) = nothing_heard (side_of crossing.ends 0 (suc (suc (suc l)))) _

pub so_does_the_other : TellsAll (ports 1) (other_ends crossing ports worker 1)
so_does_the_other = record { owner = owner; peer = peer; heard = heard } where
  owner : (l : ℕ) (os : List OwnerOffer) (ds : List PeerDecision) → (ports 1).ends l ≡ Owns os → other_ends crossing ports worker 1 l ≡ Decides ds
      → TellsOwner ((ports 1).terms l) ((ports 1).at_hand l) os ds
  owner zero os ds e f = absurd (no_owner _ os refl e)
  owner (suc zero) os ds e f = absurd (no_owner Absent os refl e)
  owner (suc (suc zero)) os ds e f = owner_tells _ room _ _ os ds e f (nothing_there _)
  owner (suc (suc (suc l))) os ds e f = absurd (no_owner Absent os refl e)

  peer : (l : ℕ) (os : List OwnerOffer) (ds : List PeerDecision) → (ports 1).ends l ≡ Decides ds → other_ends crossing ports worker 1 l ≡ Owns os
      → TellsPeer ((ports 1).at_hand l) os ds
  peer zero os ds e f = peer_tells room _ _ os ds e f all_is_decided
  peer (suc zero) os ds e f = absurd (no_peer Absent ds refl e)
  peer (suc (suc zero)) os ds e f = absurd (no_peer _ ds refl e)
  peer (suc (suc (suc l))) os ds e f = absurd (no_peer Absent ds refl e)

  heard : (l : ℕ) → (ports 1).heard l ≤ greatest_at (other_ends crossing ports worker 1 l)
  heard zero = omega arith
  heard (suc zero) = omega arith
  heard (suc (suc zero)) = omega arith
  heard (suc (suc (suc l))) = nothing_heard (side_of crossing.ends 1 (suc (suc (suc l)))) _

-- the second core has heard of no stamp above 1
pub not_where_a_stamp_is_made_up : TellsAll (record (ports 1) { heard = λ l. 7 }) (other_ends crossing ports worker 1) → ⊥
not_where_a_stamp_is_made_up t = let le = t.heard 0 in omega (arith, le)

-- ---- they agree with their journals

not_this : (m n : ℕ) → m < n → (n == m) ≡ false
not_this m n h = grind (arith, nat_tests)

past : (k l : ℕ) → k < 2 → side_of crossing.ends k (suc (suc (suc l))) ≡ Neither
past k l h = ap (λ b. cond b Owner Neither) (not_this (1 + k) (suc (suc (suc l))) (omega arith))

pub the_senders_ends : ArePortsOf crossing 0 (ports 0).terms (ports 0).ends
the_senders_ends = record { coded = coded; owner = owner; peer = peer } where
  coded : (l : ℕ) → (side_of crossing.ends 0 l ≡ Neither → ⊥) → (ports 0).terms l ≡ terms_at 1 (1 ∷ 16 ∷ 16 ∷ []) l
  coded zero some = refl
  coded (suc zero) some = refl
  coded (suc (suc zero)) some = refl
  coded (suc (suc (suc l))) some = absurd (some (past 0 l (omega arith)))

  owner : (l : ℕ) → side_of crossing.ends 0 l ≡ Owner → is_owner ((ports 0).ends l) ≡ true
  owner zero e = refl
  owner (suc zero) e = refl
  owner (suc (suc zero)) e = cc
  owner (suc (suc (suc l))) e = let none = past 0 l (omega arith) in let no : Owner ≡ Neither = sym e ∙ none in absurd (cc)

  peer : (l : ℕ) → side_of crossing.ends 0 l ≡ Peer → is_peer ((ports 0).ends l) ≡ true
  peer zero e = cc
  peer (suc zero) e = cc
  peer (suc (suc zero)) e = cc
  peer (suc (suc (suc l))) e = let none = past 0 l (omega arith) in let no : Peer ≡ Neither = sym e ∙ none in absurd (cc)

receivers_ends : ArePortsOf crossing 1 (ports 1).terms (ports 1).ends
receivers_ends = record { coded = coded; owner = owner; peer = peer } where
  coded : (l : ℕ) → (side_of crossing.ends 1 l ≡ Neither → ⊥) → (ports 1).terms l ≡ terms_at 1 (1 ∷ 16 ∷ 16 ∷ []) l
  coded zero some = refl
  coded (suc zero) some = refl
  coded (suc (suc zero)) some = refl
  coded (suc (suc (suc l))) some = absurd (some (past 1 l (omega arith)))

  owner : (l : ℕ) → side_of crossing.ends 1 l ≡ Owner → is_owner ((ports 1).ends l) ≡ true
  owner zero e = cc
  owner (suc zero) e = cc
  owner (suc (suc zero)) e = refl
  owner (suc (suc (suc l))) e = let none = past 1 l (omega arith) in let no : Owner ≡ Neither = sym e ∙ none in absurd (cc)

  peer : (l : ℕ) → side_of crossing.ends 1 l ≡ Peer → is_peer ((ports 1).ends l) ≡ true
  peer zero e = refl
  peer (suc zero) e = cc
  peer (suc (suc zero)) e = cc
  peer (suc (suc (suc l))) e = let none = past 1 l (omega arith) in let no : Peer ≡ Neither = sym e ∙ none in absurd (cc)

pub the_first_core : HasPorts crossing 9 0 sender (ports 0)
the_first_core = record { core = the_first_of_its_cores; ports = the_senders_ends; agrees = it_agrees.party }

pub not_as_the_second : HasPorts crossing 9 1 sender (ports 1) → ⊥
not_as_the_second h = let e = h.core.core_is in omega (arith, e)

pub both_cores : AreCoresWith crossing 9 its_cores ports
both_cores = record {
  count = refl;
  each = by_place (λ k c. HasPorts crossing 9 k c (ports k)) the_first_core (record {
    core = record { code_is = refl; core_is = refl; bound_is = refl };
    ports = receivers_ends;
    agrees = so_does_the_receiver.party;
  });
}

pub not_one_alone : AreCoresWith crossing 9 (sender ∷ []) ports → ⊥
not_one_alone h = let e = h.count in omega (arith, e)

nothing_runs : (l : ℕ) → EndRuns (terms_in (links_with crossed) l) (worker l) []
nothing_runs zero = refl
nothing_runs (suc zero) = refl
nothing_runs (suc (suc zero)) = refl
nothing_runs (suc (suc (suc l))) = refl

pub it_has_done_nothing : WorkerHolds crossing (terms_in (links_with crossed)) worker []
it_has_done_nothing = record { requests = requests; agrees = record { runs = nothing_runs; stamps = tt }; turns = tt } where
  requests : (l : ℕ) → 1 ≤ l → l < 3 → (terms_in (links_with crossed) l).requests ≡ true
  requests zero low high = absurd (omega arith)
  requests (suc zero) low high = refl
  requests (suc (suc zero)) low high = refl
  requests (suc (suc (suc l))) low high = absurd (omega arith)

pub not_with_an_entry_of_a_core : WorkerHolds crossing (terms_in (links_with crossed)) worker sender.journal → ⊥
not_with_an_entry_of_a_core h = let e = h.turns.0 in omega (arith, e)

-- ---- they can go no further

pub the_sender_has_ended : CanGoNoFurther sender (ports 0)
the_sender_has_ended = inl (record { comes = the_sender_ends; stopped = refl; leaves = λ idle. let no : false ≡ true = idle in absurd (cc) })

-- one that waits for a message, which is told to be there
pub not_where_a_message_is_told : CanGoNoFurther waiting (record (ports 1) { at_hand = λ l. record room { front = true }; heard = λ l. 0 }) → ⊥
not_where_a_message_is_told (inl s) = let no = (s.leaves refl).front 0 refl refl in cc
not_where_a_message_is_told (inr f) = let no = f.full in cc

is_none : (x : LinkEnd) (os : List OwnerOffer) (ds : List PeerDecision) → x ≡ Owns os → offers_of x ≡ [] → length os ≤ length ds
is_none x os ds e none = subst (λ (xs : List OwnerOffer). length xs ≤ length ds) (sym none ∙ ap offers_of e) (omega arith)

pub nothing_is_asked : AllAreDecided crossing ports worker
nothing_is_asked zero os ds low high e f = absurd (omega arith)
nothing_is_asked (suc zero) os ds low high e f = is_none (Owns []) os ds e refl
nothing_is_asked (suc (suc zero)) os ds low high e f = is_none (Owns []) os ds e refl
nothing_is_asked (suc (suc (suc l))) os ds low high e f = absurd (omega arith)

pub not_where_a_request_is_left : AllAreDecided crossing (λ k. ports_with k (λ l. Owns (five ∷ []))) worker → ⊥
not_where_a_request_is_left h = let le = h 1 (five ∷ []) [] (omega arith) (omega arith) refl refl in omega (arith, le)

-- its last entry has the last stamp
pub its_stamps_are_used : NoStampIsLeft crossing ports (entry (2 ^ 60 - 1) (Pass 2 0) ∷ [])
its_stamps_are_used = record { link = 1; after = omega arith; within = omega arith; heard = 0; most = omega arith; full = refl }

pub it_has_stamps : NoStampIsLeft crossing ports [] → ⊥
it_has_stamps f = by f.link f.heard f.after f.within f.most f.full where
  first : (heard : ℕ) → heard ≤ 0 → stamp_after 0 heard ≡ None → ⊥
  first zero le e = cc
  first (suc n) le e = omega (arith, le)

  by : (l heard : ℕ) → 1 ≤ l → l < 3 → heard ≤ greatest_at (owner_end crossing ports l) → stamp_after 0 heard ≡ None → ⊥
  by zero heard low high le e = omega (arith, low)
  by (suc zero) heard low high le e = first heard le e
  by (suc (suc zero)) heard low high le e = first heard le e
  by (suc (suc (suc l))) heard low high le e = omega (arith, high)

pub the_worker_is_done : WorkerCanGoNoFurther crossing ports worker []
the_worker_is_done = inl nothing_is_asked

-- ---- their run

pub it_is_a_run : SettledEndsMakeARun → (program : Resolved) → IsValid crossing → crossing ≡ code_of program → IsSame crossing program → IsRunOf program 9 [] their_run
it_is_a_run law program valid is_code is_same =
    law program crossing 9 [] its_cores ports (terms_in (links_with crossed)) worker [] their_run valid is_code is_same (omega arith) they_are_settled both_cores it_has_done_nothing
    (by_place (λ k c. TellsAll (ports k) (other_ends crossing ports worker k)) the_sender_tells_all so_does_the_other)
    (by_place (λ k c. CanGoNoFurther c (ports k)) the_sender_has_ended
    (inl (record { comes = the_receiver_ends; stopped = refl; leaves = λ idle. let no : false ≡ true = idle in absurd (cc) })))
    the_worker_is_done it_is_made
