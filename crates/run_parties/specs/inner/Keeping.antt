-- The laws of the parties of a run: what some calls leave of what holds of one party, or of the two at the ends of a link.
use Rattle.std.specs.Prelude.{◌≡◌, ◌≤◌, ◌<◌, ◌+◌, ◌++◌, ℕ, List, [], length, None, Bool, true, false, IsTrue, refl}
use mathlib.Core.List.{IsPrefix}
use Rattle.std.proofs.Common.{sym, ap, ◌∙◌, subst, inl, inr, ⊎_elim}
use Rattle.std.proofs.Math.Nat.{le_refl}
use Rattle.std.proofs.lemmas.Bool.{cases_eq}
use Rattle.std.proofs.lemmas.List.{append-nil, append_assoc}
use Rattle.ac_base.specs.Stamps.{stamp_after}
use Rattle.ac_base.specs.declared.entry.Entry.{Entry}
use Rattle.ac_base.specs.declared.entry.Payload.{Payload}
use Rattle.ac_links.specs.declared.payloads.Terms.{Terms}
use Rattle.ac_links.specs.Journals.{last_of}
use Rattle.ac_links.specs.Party.{LinkEnd}
use Rattle.ac_outside.specs.Disks.{DiskTold}
use Rattle.core_driver.specs.Driven.{Driven}
use Rattle.core_ports.specs.Ends.{has_room, awaits_reply}
use Rattle.run_laws.specs.Cores.{CoreView, HasNoStamp}
use Rattle.run_laws.specs.GoingOn.{HasStopped, LeavesNothing}
use Rattle.run_laws.specs.Seen.{view_of}
use Rattle.end_ports.specs.OnLinks.{OnLink, on_link}
use Rattle.end_ports.specs.PortsTold.{stays_self as held_stays, stays_then as held_stays_then}
use Rattle.end_ports.proofs.Lasting.{pair_lasts}
use Rattle.end_ports.proofs.Stamps.{none_above}
use Rattle.file_worker.specs.Ends.{AtDesk}
use Rattle.file_worker.specs.Settling.{MaySettle}
use Rattle.file_worker.specs.Workers.{desk_of, seen_of}
use Rattle.file_worker.proofs.Going.{nothing_goes_on, goes_on_both}
use Rattle.file_worker.proofs.Lasting.{core_lasts}
use Rattle.settled_run.specs.Disk.{payloads_at}
use Rattle.settled_run.specs.Parties.{CanGoNoFurther}
use Rattle.run_parties.specs.declared.run_party.RunParty.{RunParty}
use Rattle.run_parties.specs.declared.run_party.RunParty.TheVariants.{Core, Disk}
use Rattle.run_parties.specs.Seats.{CoreSeat, core_of, ports_of, on_desk, popped_at}
use Rattle.run_parties.specs.Settling.{IsKnownOn, IsSettledOn, StaysOn, IsQuietOn}
use Rattle.run_parties.specs.Moving.{IsLaterSeat, SeatStays, SeatButAt, DeskStays, DeskButAt, DeskStops}
use Rattle.run_parties.specs.Parties.{HasRequests, IsLaterParty, MayGoOn, HaveEnds, AreKnownAt, AreSettledAt}
use Rattle.run_parties.specs.Parties.{PartyStays, PartyButAt, PartyStops}

-- ---- what is told of one link

pub stays_on : (x : OnLink) → StaysOn x x
stays_on x = record { terms = refl; end = refl; decision = refl; front = refl; reply = refl; slot = λ r. refl }

quiet_on : (x : OnLink) → IsQuietOn x x
quiet_on x = record { terms = refl; end = refl; heard = le_refl x.heard }

room_was : (x y : OnLink) → y.terms ≡ x.terms → y.end ≡ x.end → has_room y.terms y.end ≡ true → has_room x.terms x.end ≡ true
room_was x y t e r = sym (ap (λ (u : Terms). has_room u y.end) t ∙ ap (λ (z : LinkEnd). has_room x.terms z) e) ∙ r

known_on : (requests : Bool) (owner peer owner' peer' : OnLink) → IsKnownOn requests owner peer → StaysOn owner owner' → StaysOn peer peer'
    → IsKnownOn requests owner' peer'
known_on requests owner peer owner' peer' h o p = record {
  offers = h.offers;
  decisions = h.decisions;
  owns = o.end ∙ h.owns;
  decides = p.end ∙ h.decides;
  views = h.views;
  decision = o.decision ∙ h.decision;
  reply = λ r. o.reply ∙ h.reply r;
  slot = λ room. let was = room_was owner owner' o.terms o.end room in o.slot was ∙ h.slot was;
  front = p.front ∙ h.front;
}

-- ---- a core

pub later_seat : (s : CoreSeat) → IsLaterSeat s s
later_seat s = record {
  machine = record { code = refl; core = refl; bound = refl; entries = []; journal = sym (append-nil s.driven.machine.journal) };
  ports = held_stays s.ports;
}

pub later_seat_then : (r s t : CoreSeat) → IsLaterSeat r s → IsLaterSeat s t → IsLaterSeat r t
later_seat_then r s t a b = record {
  machine = record {
    code = b.machine.code ∙ a.machine.code;
    core = b.machine.core ∙ a.machine.core;
    bound = b.machine.bound ∙ a.machine.bound;
    entries = a.machine.entries ++ b.machine.entries;
    journal = b.machine.journal ∙ ap (λ (j : List Entry). j ++ b.machine.entries) a.machine.journal
        ∙ append_assoc r.driven.machine.journal a.machine.entries b.machine.entries;
  };
  ports = held_stays_then r.ports s.ports t.ports a.ports b.ports;
}

module _ (k : ℕ) (s t : CoreSeat) (apart : SeatButAt k s t) where
  heard_on : (l : ℕ) → (on_link s.ports l).heard ≤ (on_link t.ports l).heard
  heard_on l = ⊎_elim (λ (e : k ≡ l). subst (λ n. (on_link s.ports n).heard ≤ (on_link t.ports n).heard) e apart.here.heard)
      (λ (n : k ≡ l → ⊥). subst (λ (x : OnLink). (on_link s.ports l).heard ≤ x.heard) (sym (apart.others l (λ e. n (sym e))))
      (le_refl (on_link s.ports l).heard)) (cases_eq k l)

  module _ (still : SeatStays s t) where
    leaves : (c : CoreView) → LeavesNothing c (ports_of s).terms (ports_of s).ends (ports_of s).at_hand
        → LeavesNothing c (ports_of t).terms (ports_of t).ends (ports_of t).at_hand
    leaves c h = record {
      decision = λ l own. (still l).decision ∙ h.decision l own;
      front = λ l own waits. (still l).front ∙ h.front l own waits;
      reply = λ l own requests awaits. (still l).reply
          ∙ h.reply l own (sym (ap (λ (u : Terms). u.requests) (still l).terms) ∙ requests) (sym (ap awaits_reply (still l).end) ∙ awaits);
      slot = λ l own waits room. let was = room_was (on_link s.ports l) (on_link t.ports l) (still l).terms (still l).end room in
          (still l).slot was ∙ h.slot l own waits was;
    }

    stops_here : (c : CoreView) → CanGoNoFurther c (ports_of s) → CanGoNoFurther c (ports_of t)
    stops_here c = ⊎_elim
        (λ (h : HasStopped c (ports_of s).terms (ports_of s).ends (ports_of s).at_hand).
        inl (record { comes = h.comes; stopped = h.stopped; leaves = λ idle. leaves c (h.leaves idle) }))
        (λ (h : HasNoStamp c (ports_of s).heard). inr (record {
          end = h.end;
          comes = h.comes;
          link = h.link;
          full = none_above (last_of 0 c.journal) ((ports_of s).heard h.link) ((ports_of t).heard h.link) (heard_on h.link) h.full;
        }))

    seat_stops : CanGoNoFurther (core_of s) (ports_of s) → CanGoNoFurther (core_of t) (ports_of t)
    seat_stops h = subst (λ (d : Driven). CanGoNoFurther (view_of d) (ports_of t)) (sym apart.driven) (stops_here (core_of s) h)

-- ---- the worker

module _ (k : ℕ) (v w : AtDesk) (apart : DeskButAt k v w) where
  heard_at : (l : ℕ) → (on_desk v l).heard ≤ (on_desk w l).heard
  heard_at l = ⊎_elim (λ (e : k ≡ l). subst (λ n. (on_desk v n).heard ≤ (on_desk w n).heard) e apart.here.heard)
      (λ (n : k ≡ l → ⊥). subst (λ (x : OnLink). (on_desk v l).heard ≤ x.heard) (sym (apart.others l (λ e. n (sym e))))
      (le_refl (on_desk v l).heard)) (cases_eq k l)

  desk_stops : DeskStays v w → DeskStops v → DeskStops w
  desk_stops still = ⊎_elim
      (λ (h : (l : ℕ) → (on_desk v l).hand.front ≡ false). inl (λ l. (still l).front ∙ h l))
      (λ (h : (l : ℕ) × (stamp_after (last_of 0 v.entries) (on_desk v l).heard ≡ None)).
      inr (
        h.0,
        subst (λ (es : List Entry). stamp_after (last_of 0 es) (on_desk w h.0).heard ≡ None) (sym apart.entries)
            (none_above (last_of 0 v.entries) (on_desk v h.0).heard (on_desk w h.0).heard (heard_at h.0) h.1),
      ))

requests_stay : (l : ℕ) (s s' : CoreSeat) (v w : AtDesk) → HasRequests l s v → IsLaterSeat s s' → w.first ≡ v.first
    → length w.ends ≡ length v.ends → MaySettle s.driven.machine.core w s'.ports.ask.end → HasRequests l s' w
requests_stay l s s' v w h a first count may = record {
  asked = a.ports.ask.link ∙ h.asked;
  link = ap (λ n. n + s'.driven.machine.core) first ∙ ap (λ n. v.first + n) a.machine.core ∙ h.link;
  core = subst (λ n. n < length w.ends) (sym a.machine.core) (subst (λ n. s.driven.machine.core < n) (sym count) h.core);
  pair = subst (λ n. MaySettle n w s'.ports.ask.end) (sym a.machine.core) may;
}

-- ---- the laws

module _ {D : Type 0} where
  pub is_later_self : (told : D → DiskTold) (p : RunParty D) → IsLaterParty told p p
  is_later_self told (Core s) = later_seat s
  is_later_self told (Disk w) = (nothing_goes_on (seen_of told w), refl)

  pub is_later_then : (told : D → DiskTold) (p q r : RunParty D) → IsLaterParty told p q → IsLaterParty told q r → IsLaterParty told p r
  is_later_then told (Core s) (Core t) (Core u) a b = later_seat_then s t u a b
  is_later_then told (Core s) (Core t) (Disk w) a b = absurd b
  is_later_then told (Core s) (Disk v) r a b = absurd a
  is_later_then told (Disk u) (Core t) r a b = absurd a
  is_later_then told (Disk u) (Disk v) (Core s) a b = absurd b
  is_later_then told (Disk u) (Disk v) (Disk w) a b = (goes_on_both (seen_of told u) (seen_of told v) (seen_of told w) a.0 b.0, b.1 ∙ a.1)

  pub may_stay : (told : D → DiskTold) (p q : RunParty D) → MayGoOn told p → IsLaterParty told p q → MayGoOn told q
  may_stay told (Core s) (Core t) h a = tt
  may_stay told (Core s) (Disk w) h a = absurd a
  may_stay told (Disk v) (Core t) h a = absurd a
  may_stay told (Disk v) (Disk w) h a = subst IsTrue (sym a.0.disk.is_ready) h

  pub stays_self : (p : RunParty D) → PartyStays p p
  stays_self (Core s) = λ l. stays_on (on_link s.ports l)
  stays_self (Disk w) = λ l. stays_on (on_desk (desk_of w) l)

  pub but_at_self : (k : ℕ) (p : RunParty D) → PartyButAt k p p
  but_at_self k (Core s) = record { driven = refl; here = quiet_on (on_link s.ports k); others = λ l n. refl }
  but_at_self k (Disk w) = record { entries = refl; popped = λ l. refl; here = quiet_on (on_desk (desk_of w) k); others = λ l n. refl }

  pub ends_stay : (told : D → DiskTold) (l : ℕ) (p q r s : RunParty D) → HaveEnds l p q → IsLaterParty told p r → IsLaterParty told q s
      → HaveEnds l r s
  ends_stay told l (Core a) (Core b) (Core c) (Core d) h x y = pair_lasts l a.ports b.ports c.ports d.ports h x.ports y.ports
  ends_stay told l (Core a) (Core b) (Core c) (Disk w) h x y = absurd y
  ends_stay told l (Core a) (Core b) (Disk w) s h x y = absurd x
  ends_stay told l (Core a) (Disk v) (Core c) (Core d) h x y = absurd y
  ends_stay told l (Core a) (Disk v) (Core c) (Disk w) h x y =
      requests_stay l a c (desk_of v) (desk_of w) h x y.0.first y.0.count
      (core_lasts a.driven.machine.core (desk_of v) (desk_of w) a.ports.ask.end c.ports.ask.end h.pair y.0.count y.0.ends x.ports.ask.end)
  ends_stay told l (Core a) (Disk v) (Disk w) s h x y = absurd x
  ends_stay told l (Disk v) q r s h x y = absurd h

  pub settled_but : (l o : ℕ) (p q r s : RunParty D) → AreSettledAt l p q → (l ≡ o → ⊥) → PartyButAt o p r → PartyButAt o q s
      → AreSettledAt l r s
  settled_but l o (Core a) (Core b) (Core c) (Core d) h n x y =
      subst (λ (z : OnLink). IsSettledOn false z (on_link d.ports l)) (sym (x.others l n))
      (subst (λ (z : OnLink). IsSettledOn false (on_link a.ports l) z) (sym (y.others l n)) h)
  settled_but l o (Core a) (Core b) (Core c) (Disk w) h n x y = absurd y
  settled_but l o (Core a) (Core b) (Disk w) s h n x y = absurd x
  settled_but l o (Core a) (Disk v) (Core c) (Core d) h n x y = absurd y
  settled_but l o (Core a) (Disk v) (Core c) (Disk w) h n x y = (
    subst (λ (z : OnLink). IsSettledOn true z (on_desk (desk_of w) l)) (sym (x.others l n))
        (subst (λ (z : OnLink). IsSettledOn true (on_link a.ports l) z) (sym (y.others l n)) h.0),
    subst (λ (z : OnLink). IsPrefix (popped_at (desk_of w) l) (payloads_at z.end)) (sym (x.others l n))
        (subst (λ (xs : List Payload). IsPrefix xs (payloads_at (on_link a.ports l).end)) (sym (y.popped l)) h.1),
  )
  settled_but l o (Core a) (Disk v) (Disk w) s h n x y = absurd x
  settled_but l o (Disk v) q r s h n x y = absurd h

  pub settled_known : (l : ℕ) (p q : RunParty D) → AreSettledAt l p q → AreKnownAt l p q
  settled_known l (Core a) (Core b) h = h.known
  settled_known l (Core a) (Disk w) h = h.0.known
  settled_known l (Disk v) q h = absurd h

  pub known_stays : (l : ℕ) (p q r s : RunParty D) → AreKnownAt l p q → PartyStays p r → PartyStays q s → AreKnownAt l r s
  known_stays l (Core a) (Core b) (Core c) (Core d) h x y =
      known_on false (on_link a.ports l) (on_link b.ports l) (on_link c.ports l) (on_link d.ports l) h (x l) (y l)
  known_stays l (Core a) (Core b) (Core c) (Disk w) h x y = absurd y
  known_stays l (Core a) (Core b) (Disk w) s h x y = absurd x
  known_stays l (Core a) (Disk v) (Core c) (Core d) h x y = absurd y
  known_stays l (Core a) (Disk v) (Core c) (Disk w) h x y =
      known_on true (on_link a.ports l) (on_desk (desk_of v) l) (on_link c.ports l) (on_desk (desk_of w) l) h (x l) (y l)
  known_stays l (Core a) (Disk v) (Disk w) s h x y = absurd x
  known_stays l (Disk v) q r s h x y = absurd h

  pub stops_still : (l : ℕ) (p q : RunParty D) → PartyStops p → PartyButAt l p q → PartyStays p q → PartyStops q
  stops_still l (Core s) (Core t) h apart still = seat_stops l s t apart still h
  stops_still l (Core s) (Disk w) h apart still = absurd apart
  stops_still l (Disk v) (Core t) h apart still = absurd apart
  stops_still l (Disk v) (Disk w) h apart still = desk_stops l (desk_of v) (desk_of w) apart still h
