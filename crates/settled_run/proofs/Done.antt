-- Where the ends are settled, a core that can go no further over its own is done on the list of links, and so is the worker.
use Rattle.std.proofs.Common.{◌≡◌, ℕ, ◌<◌, ◌≤◌, List, true, false, refl, sym, ap, ◌∙◌, subst, inl, inr, length}
use Rattle.std.specs.Prelude.{is_some, slice_get}
use Rattle.std.proofs.lemmas.Option.{slice_get_past}
use Rattle.ac_base.specs.declared.entry.Entry.{Entry}
use Rattle.stack_code.specs.Parts.{Parts}
use Rattle.stack_code.specs.Valid.{HasLinks}
use Rattle.ac_links.specs.Journals.{last_of}
use Rattle.ac_links.specs.Party.{LinkEnd}
use Rattle.ac_links.specs.Party.LinkEnd.{Owns, Decides}
use Rattle.core_channels.specs.LinkViews.{LinkViews, link_at}
use Rattle.core_ports.specs.AtHand.{AtHand}
use Rattle.core_ports.specs.Ends.{has_room, awaits_reply}
use Rattle.core_ports.specs.PortsTold.{PortsTold}
use Rattle.core_ports.specs.declared.side.Side.{Side}
use Rattle.core_ports.specs.declared.side.Side.TheVariants.{Owner, Peer, Neither}
use Rattle.core_ports.specs.Sides.{side_of}
use Rattle.ac_links.specs.declared.payloads.Terms.{Terms}
use Rattle.run_laws.specs.Hands.{hand_at, heard_at}
use Rattle.run_laws.proofs.Clocks.{none_above}
use Rattle.run_laws.specs.Network.{terms_in, offers_in, decisions_in, ends_in, heard_in, AreLinksOf}
use Rattle.run_laws.specs.Cores.{CoreView, HasNoStamp, IsAtRest, HasFullClock, IsDone}
use Rattle.run_laws.specs.GoingOn.{LeavesNothing, HasStopped}
use Rattle.run_laws.specs.Workers.{WorkerIsDone}
use Rattle.run_laws.proofs.Stopping.{at_rest}
use Rattle.settled_run.specs.Ends.{greatest_at, owner_end, peer_end, facing, other_ends}
use Rattle.settled_run.specs.Settled.{AreSettledEnds}
use Rattle.settled_run.specs.Telling.{TellsOwner, TellsPeer, TellsAll}
use Rattle.settled_run.specs.Parties.{HasPorts, CanGoNoFurther, WorkerCanGoNoFurther}
use Rattle.settled_run.proofs.Linked.{links, linked, has_place, owner_has, peer_has, owner_within, peer_within, owner_holds, peer_holds, worker_peer, core_end}

module _ (code : Parts) (valid : HasLinks code) (ports : ℕ → PortsTold) (worker : ℕ → LinkEnd) (settled : AreSettledEnds code ports worker) where
  abbrev its_links : List LinkViews
  its_links = links code valid ports worker settled

  module _ (bound k : ℕ) (c : CoreView) (has : HasPorts code bound k c (ports k)) (low : k < length code.entries) (tells : TellsAll (ports k) (other_ends code ports worker k)) where
    abbrev told : PortsTold
    told = ports k

    abbrev others : ℕ → LinkEnd
    others = other_ends code ports worker k

    abbrev hands : ℕ → AtHand
    hands l = hand_at (link_at its_links l) (side_of c.code.ends c.core l)

    same_side : (l : ℕ) → side_of c.code.ends c.core l ≡ side_of code.ends k l
    same_side l = ap (λ (x : Parts). side_of x.ends c.core l) has.core.code_is ∙ ap (λ n. side_of code.ends n l) has.core.core_is

    its_side : (l : ℕ) (s : Side) → side_of c.code.ends c.core l ≡ s → side_of code.ends k l ≡ s
    its_side l s e = sym (same_side l) ∙ e

    same_end : (l : ℕ) → ends_in c.code.ends c.core its_links l ≡ told.ends l
    same_end l = ap (λ (x : Parts). ends_in x.ends c.core its_links l) has.core.code_is ∙ ap (λ n. ends_in code.ends n its_links l) has.core.core_is
        ∙ core_end code valid ports worker settled k l low

    same_terms : (l : ℕ) → side_of code.ends k l ≡ Owner → told.terms l ≡ terms_in its_links l
    same_terms l e = has.ports.coded l (λ none. absurd (let no : Owner ≡ Neither = sym e ∙ none in cc))
        ∙ sym ((linked code valid ports worker settled).terms l (owner_within code valid ports worker settled k l low e))

    -- ---- what the other party has

    faces_peer : (l : ℕ) → side_of code.ends k l ≡ Owner → others l ≡ Decides (decisions_in its_links l)
    faces_peer l e = ap (λ s. facing s (owner_end code ports l) (peer_end code ports worker l)) e
        ∙ peer_has code valid ports worker settled l (owner_within code valid ports worker settled k l low e)

    faces_owner : (l : ℕ) → side_of code.ends k l ≡ Peer → others l ≡ Owns (offers_in its_links l)
    faces_owner l e = ap (λ s. facing s (owner_end code ports l) (peer_end code ports worker l)) e
        ∙ owner_has code valid ports worker settled l (peer_within code valid ports worker settled k l low e)

    owner_told : (l : ℕ) → side_of code.ends k l ≡ Owner → TellsOwner (told.terms l) (told.at_hand l) (offers_in its_links l) (decisions_in its_links l)
    owner_told l e = tells.owner l (offers_in its_links l) (decisions_in its_links l) (owner_holds code valid ports worker settled k l low e) (faces_peer l e)

    peer_told : (l : ℕ) → side_of code.ends k l ≡ Peer → TellsPeer (told.at_hand l) (offers_in its_links l) (decisions_in its_links l)
    peer_told l e = tells.peer l (offers_in its_links l) (decisions_in its_links l) (peer_holds code valid ports worker settled k l low e) (faces_owner l e)

    -- ---- it has stopped

    module _ (none : LeavesNothing c told.terms told.ends told.at_hand) where
      no_decision : (l : ℕ) → side_of c.code.ends c.core l ≡ Owner → (hands l).decision ≡ false
      no_decision l is = ap (λ s. (hand_at (link_at its_links l) s).decision) is ∙ (owner_told l (its_side l Owner is)).decision (none.decision l is)

      no_front : (l : ℕ) → side_of c.code.ends c.core l ≡ Peer → (told.at_hand l).front ≡ false → (hands l).front ≡ false
      no_front l is h = ap (λ s. (hand_at (link_at its_links l) s).front) is
          ∙ ap is_some (slice_get_past (offers_in its_links l) (length (decisions_in its_links l)) (peer_told l (its_side l Peer is) h))

      no_reply : (l : ℕ) → side_of c.code.ends c.core l ≡ Owner → (terms_in its_links l).requests ≡ true → awaits_reply (ends_in c.code.ends c.core its_links l) ≡ true
          → (hands l).reply ≡ false
      no_reply l is requests awaits =
          let e = its_side l Owner is in
          let asks : (told.terms l).requests ≡ true = ap (λ (t : Terms). t.requests) (same_terms l e) ∙ requests in
          ap (λ s. (hand_at (link_at its_links l) s).reply) is
          ∙ ap (λ rs. is_some (slice_get rs 0)) ((owner_told l e).reply asks (none.reply l is asks (sym (ap awaits_reply (same_end l)) ∙ awaits)))

      no_room : (l : ℕ) → side_of c.code.ends c.core l ≡ Owner → has_room (terms_in its_links l) (ends_in c.code.ends c.core its_links l) ≡ true
          → (has_room (told.terms l) (told.ends l) ≡ true → (told.at_hand l).slot ≡ false) → ⊥
      no_room l is room slot =
          let e = its_side l Owner is in
          let here : has_room (told.terms l) (told.ends l) ≡ true = ap (λ t. has_room t (told.ends l)) (same_terms l e)
          ∙ sym (ap (has_room (terms_in its_links l)) (same_end l)) ∙ room in
          let full : has_room (told.terms l) (told.ends l) ≡ false = ap (has_room (told.terms l)) (owner_holds code valid ports worker settled k l low e)
          ∙ (owner_told l e).slot (slot here) in
          let no : true ≡ false = sym here ∙ full in cc

      nothing_left : LeavesNothing c (terms_in its_links) (ends_in c.code.ends c.core its_links) hands
      nothing_left = record {
        decision = no_decision;
        front = λ l is waits. no_front l is (none.front l is waits);
        reply = no_reply;
        slot = λ l is waits room. absurd (no_room l is room (none.slot l is waits));
      }

    stopped : HasStopped c told.terms told.ends told.at_hand → IsAtRest c its_links
    stopped s =
        at_rest c (subst HasLinks (sym has.core.code_is) valid) its_links
        (subst (λ (x : Parts). AreLinksOf x its_links) (sym has.core.code_is) (linked code valid ports worker settled))
        (subst (λ (x : Parts). c.core < length x.entries) (sym has.core.code_is) (subst (λ (n : ℕ). n < length code.entries) (sym has.core.core_is) low))
        (λ l h is. has_place code valid ports worker settled l (subst (λ (x : Parts). l < length x.capacities) has.core.code_is h))
        (record { comes = s.comes; stopped = s.stopped; leaves = λ idle. nothing_left (s.leaves idle) })

    -- ---- no stamp is left to it

    greatest_is : (l : ℕ) (s : Side) → side_of code.ends k l ≡ s → greatest_at (others l) ≡ heard_at (link_at its_links l) s
    greatest_is l Owner e = ap greatest_at (faces_peer l e)
    greatest_is l Peer e = ap greatest_at (faces_owner l e)
    greatest_is l Neither e = ap (λ s. greatest_at (facing s (owner_end code ports l) (peer_end code ports worker l))) e

    heard_less : (l : ℕ) → told.heard l ≤ heard_in c.code.ends c.core its_links l
    heard_less l = subst (λ (n : ℕ). told.heard l ≤ n)
        (greatest_is l (side_of code.ends k l) refl ∙ sym (ap (heard_at (link_at its_links l)) (same_side l))) (tells.heard l)

    full : HasNoStamp c told.heard → HasFullClock c its_links
    full f = record {
      end = f.end;
      comes = f.comes;
      link = f.link;
      full = none_above (last_of 0 c.journal) (told.heard f.link) (heard_in c.code.ends c.core its_links f.link) (heard_less f.link) f.full;
    }

    pub core_done : CanGoNoFurther c told → IsDone c its_links
    core_done (inl s) = inl (stopped s)
    core_done (inr f) = inr (full f)

  -- ---- the worker

  pub worker_done : (entries : List Entry) → WorkerCanGoNoFurther code ports worker entries → WorkerIsDone code entries its_links
  worker_done entries (inl all) = inl (λ l low high.
      all l (offers_in its_links l) (decisions_in its_links l) low high (owner_has code valid ports worker settled l high)
      (sym (worker_peer code valid ports worker settled l low) ∙ peer_has code valid ports worker settled l high))
  worker_done entries (inr f) = inr (record {
    link = f.link;
    full = none_above (last_of 0 entries) f.heard (heard_at (link_at its_links f.link) Peer)
        (subst (λ x. f.heard ≤ greatest_at x) (owner_has code valid ports worker settled f.link f.within) f.most) f.full;
  })
