-- Which links have been looked at. A look at one link leaves nothing at hand there, unless the clock has moved, and counts its polls and
-- tries; it stays so while others are looked at, because as long as the clock stays nothing but counts changes, and these only rise.
use Rattle.std.proofs.Common.{◌≡◌, ℕ, ◌+◌, ◌-◌, ◌^◌, ◌<◌, ◌≤◌, List, length, Option, Some, None, Bool, true, false, refl, sym, ap, ◌∙◌, subst, arith}
use Rattle.std.specs.Prelude.{IfNone, nat_eq, nat_le, nat_lt, slice_get, ◌==◌, ◌||◌, if◌then◌else◌}
use Rattle.std.proofs.lemmas.Bool.{eq-eqb, eqb-true, lt-ltb, ltb-false, ltb-true}
use Rattle.std.proofs.lemmas.Bool.Decides.{nat_tests}
use Rattle.std.proofs.lemmas.Option.{slice_get_within}
use Rattle.ac_base.specs.Stamps.{next_stamp, stamp_after}
use Rattle.ac_links.specs.declared.payloads.Terms.{Terms}
use Rattle.ac_links.specs.Party.{LinkEnd}
use Rattle.ac_links.specs.Party.LinkEnd.{Owns, Decides, Absent}
use Rattle.core_state.specs.Shared.{request_link}
use Rattle.core_channels.specs.Counts.{counted}
use Rattle.core_channels.specs.Laws.{Told}
use Rattle.core_ports.specs.AtHand.{AtHand}
use Rattle.core_ports.specs.Counts.{with_one_more}
use Rattle.core_ports.specs.Ends.{awaits_reply, has_room, is_held, is_owner, is_peer}
use Rattle.core_ports.specs.Tells.{Tells}
use Rattle.stack_code.specs.declared.parts.ChannelEnds.{ChannelEnds}
use Rattle.stack_code.specs.Parts.{Parts}
use Rattle.core_machine.specs.Machine.{Machine}
use Rattle.core_machine.specs.Points.{operations_of, has_to_offer, receives_from}
use Rattle.core_ports.specs.declared.side.Side.{Side}
use Rattle.core_ports.specs.declared.side.Side.TheVariants.{Owner, Peer, Neither}
use Rattle.core_ports.specs.Sides.{side_at, side_of}
use Rattle.core_driver.specs.Sides.{ArePortsOf}
use Rattle.core_driver.specs.inner.InStep.{IsLookedAt, Looks}
use Rattle.core_driver.specs.inner.Outside.{IsFull, Outside}
use Rattle.core_driver.proofs.Together.{Called}

-- ---- counts

pub counted_rises : (n : ℕ) → n ≤ counted n
counted_rises n = go (nat_lt n (2 ^ 64 - 1))
  where
    go : (b : Bool) → n ≤ (if b then n + 1 else n)
    go true = omega arith
    go false = omega arith

pub counted_grows : (a b : ℕ) → a ≤ b → counted a ≤ counted b
counted_grows a b h = go (nat_lt a (2 ^ 64 - 1)) (nat_lt b (2 ^ 64 - 1)) refl refl
  where
    go : (x y : Bool) → nat_lt a (2 ^ 64 - 1) ≡ x → nat_lt b (2 ^ 64 - 1) ≡ y → (if x then a + 1 else a) ≤ (if y then b + 1 else b)
    go true true e f = omega (arith, h)
    go true false e f =
        let low = ltb-true a (2 ^ 64 - 1) e in
        let high = ltb-false b (2 ^ 64 - 1) f in
        omega (arith, low, high)
    go false true e f = omega (arith, h)
    go false false e f = h

pub one_more : (counts : ℕ → ℕ) (l k : ℕ) → counts k ≤ with_one_more counts l k
one_more counts l k = go (l == k)
  where
    go : (b : Bool) → counts k ≤ (if b then counted (counts k) else counts k)
    go true = counted_rises (counts k)
    go false = omega arith

pub counts_that : (counts : ℕ → ℕ) (l : ℕ) → counted (counts l) ≡ with_one_more counts l l
counts_that counts l = sym (ap (λ (b : Bool). if b then counted (counts l) else counts l) (eq-eqb l l refl))

-- ---- calls

pub poll_called : (o p : Outside) (told : Option Told) (l : ℕ) → Tells o.terms o.ends o.last told p.ends p.last → IfNone told (p.hand ≡ o.hand) → p.terms ≡ o.terms
    → p.polls ≡ with_one_more o.polls l → p.tries ≡ o.tries → Called o p told
poll_called o p told l tells hand terms polls tries = record {
  tells = tells;
  hand = hand;
  terms = terms;
  polls = λ k. subst (λ (f : ℕ → ℕ). o.polls k ≤ f k) (sym polls) (one_more o.polls l k);
  tries = λ k. subst (λ (f : ℕ → ℕ). o.tries k ≤ f k) (sym tries) (omega arith);
}

pub offer_called : (o p : Outside) (told : Option Told) (l : ℕ) → Tells o.terms o.ends o.last told p.ends p.last → IfNone told (p.hand ≡ o.hand) → p.terms ≡ o.terms
    → p.polls ≡ o.polls → p.tries ≡ with_one_more o.tries l → Called o p told
offer_called o p told l tells hand terms polls tries = record {
  tells = tells;
  hand = hand;
  terms = terms;
  polls = λ k. subst (λ (f : ℕ → ℕ). o.polls k ≤ f k) (sym polls) (omega arith);
  tries = λ k. subst (λ (f : ℕ → ℕ). o.tries k ≤ f k) (sym tries) (one_more o.tries l k);
}

pub counts_here : (before after : ℕ → ℕ) (l : ℕ) → after ≡ with_one_more before l → counted (before l) ≤ after l
counts_here before after l e =
    let a : after l ≡ with_one_more before l l = ap (λ (f : ℕ → ℕ). f l) e in
    let b = counts_that before l in
    omega (arith, a, b)

-- ---- where nothing is answered

pub or_none : (b : Bool) → b ≡ (b || false)
or_none true = refl
or_none false = refl

-- whether a call has found that all stamps are used, after others that have not
pub full_next : (first before after full : Bool) → before ≡ first → after ≡ (before || full) → after ≡ (first || full)
full_next first before after full e h = h ∙ ap (λ b. b || full) e

pub full_never : (first before after full : Bool) → before ≡ first → after ≡ (before || full) → full ≡ false → after ≡ first
full_never first before after full e h none = h ∙ ap (λ b. before || b) none ∙ sym (or_none before) ∙ e

pub owner_holds : (x : LinkEnd) → is_owner x ≡ true → is_held x ≡ true
owner_holds (Owns os) h = refl
owner_holds (Decides ds) h = refl
owner_holds Absent h = h

pub peer_holds : (x : LinkEnd) → is_peer x ≡ true → is_held x ≡ true
peer_holds (Owns os) h = refl
peer_holds (Decides ds) h = refl
peer_holds Absent h = h

-- ---- channels

-- a link on which a core receives is a channel
pub peer_is_channel : (ends : List ChannelEnds) (core l : ℕ) → side_of ends core l ≡ Peer → l < length ends
peer_is_channel ends core l side = by (slice_get ends l) refl side
  where
    asks : (b : Bool) → (if b then Owner else Neither) ≡ Peer → ⊥
    asks true h = let no : Owner ≡ Peer = h in cc
    asks false h = let no : Neither ≡ Peer = h in cc

    by : (o : Option ChannelEnds) → slice_get ends l ≡ o → side_at (length ends) core l o ≡ Peer → l < length ends
    by (Some e) is h = slice_get_within ends l e is
    by None is h = absurd (asks (l == length ends + core) h)

-- it carries no requests
pub no_requests : (code : Parts) (core : ℕ) (terms : ℕ → Terms) (ends : ℕ → LinkEnd) (l : ℕ) → ArePortsOf code core terms ends → l < length code.ends
    → (side_of code.ends core l ≡ Neither → ⊥) → (terms l).requests ≡ false
no_requests code core terms ends l ports low some =
    ap (λ (t : Terms). t.requests) (ports.coded l some) ∙ not_below (length code.ends) l low
  where
    not_below : (n k : ℕ) → k < n → nat_le n k ≡ false
    not_below n k h = grind (arith, nat_tests, h)

-- a link on which a core sends carries requests where it is that of its requests
pub requests_on : (code : Parts) (core : ℕ) (terms : ℕ → Terms) (ends : ℕ → LinkEnd) (l : ℕ) → ArePortsOf code core terms ends → core < length code.entries → side_of code.ends core l ≡ Owner
    → (terms l).requests ≡ nat_eq l (request_link (length code.ends) core)
requests_on code core terms ends l ports low side = by (slice_get code.ends l) refl side
  where
    some : side_of code.ends core l ≡ Neither → ⊥
    some none = let no : Owner ≡ Neither = sym side ∙ none in cc

    is_other : (n k : ℕ) → k < n → nat_eq k (n + core) ≡ false
    is_other n k h = let differ : k ≡ n + core → ⊥ = λ e. absurd (omega (arith, h, e)) in grind (arith, nat_tests, differ)

    is_after : (n : ℕ) → nat_le n (n + core) ≡ true
    is_after n = let h : n ≤ n + core = omega arith in grind (arith, nat_tests, h)

    asks : (b : Bool) → (l == length code.ends + core) ≡ b → (if b then Owner else Neither) ≡ Owner → (terms l).requests ≡ (l == length code.ends + core)
    asks true e h =
        let at : l ≡ length code.ends + core = eqb-true l (length code.ends + core) e in
        ap (λ (t : Terms). t.requests) (ports.coded l some) ∙ ap (nat_le (length code.ends)) at ∙ is_after (length code.ends) ∙ sym e
    asks false e h = let no : Neither ≡ Owner = h in absurd (cc)

    by : (o : Option ChannelEnds) → slice_get code.ends l ≡ o → side_at (length code.ends) core l o ≡ Owner → (terms l).requests ≡ nat_eq l (request_link (length code.ends) core)
    by (Some e) is h = let lt = slice_get_within code.ends l e is in no_requests code core terms ends l ports lt some ∙ sym (is_other (length code.ends) l lt)
    by None is h = asks (l == length code.ends + core) refl h

-- ---- all stamps are used

no_stamp : (last s : ℕ) → stamp_after last 0 ≡ None → stamp_after last s ≡ None
no_stamp last s h = go (nat_lt (next_stamp last s) (2 ^ 60)) refl
  where
    go : (b : Bool) → nat_lt (next_stamp last s) (2 ^ 60) ≡ b → (if b then Some (next_stamp last s) else None) ≡ None
    go false e = refl
    go true e =
        let low : next_stamp last s < 2 ^ 60 = ltb-true (next_stamp last s) (2 ^ 60) e in
        let less : nat_lt (next_stamp last 0) (2 ^ 60) ≡ true = lt-ltb (next_stamp last 0) (2 ^ 60) (omega (arith, low)) in
        let some : stamp_after last 0 ≡ Some (next_stamp last 0) = ap (λ (b : Bool). if b then Some (next_stamp last 0) else None) less in
        let no : None ≡ Some (next_stamp last 0) = sym h ∙ some in
        absurd (cc)

-- where even an entry that answers none has none left
pub full_there : (o p : Outside) (l : ℕ) → p.last ≡ o.last → stamp_after o.last (p.heard l) ≡ None → IsFull p
full_there o p l same h = (l, ap (λ n. stamp_after n (p.heard l)) same ∙ h)

pub full_of_offers : (o p : Outside) (l : ℕ) → p.last ≡ o.last → stamp_after o.last 0 ≡ None → IsFull p
full_of_offers o p l same h = (l, ap (λ n. stamp_after n (p.heard l)) same ∙ no_stamp o.last (p.heard l) h)

-- ---- one link

-- the side that was found is that of the machine's core
pub side_told : (code code' : Parts) (ends : List ChannelEnds) (core core' l : ℕ) (s : Side) → ends ≡ code'.ends → code' ≡ code → core' ≡ core → s ≡ side_of ends core' l
    → side_of code.ends core l ≡ s
side_told code code' ends core core' l s e c k h =
    sym (h ∙ ap (λ (x : List ChannelEnds). side_of x core' l) (e ∙ ap (λ (p : Parts). p.ends) c) ∙ ap (λ n. side_of code.ends n l) k)

-- none of the core's own
pub neither_looked : (o : Outside) (m : Machine) (l : ℕ) → side_of m.code.ends m.core l ≡ Neither → IsLookedAt o m o l
neither_looked o m l side = record {
  polled = λ h. absurd (h side);
  tried = λ e own some. let no : Owner ≡ Neither = sym own ∙ side in absurd (cc);
  leaves = λ e. record {
    decision = λ own. let no : Owner ≡ Neither = sym own ∙ side in absurd (cc);
    front = λ own waits. let no : Peer ≡ Neither = sym own ∙ side in absurd (cc);
    slot = λ own some room. let no : Owner ≡ Neither = sym own ∙ side in absurd (cc);
    reply = λ own asks waits. let no : Owner ≡ Neither = sym own ∙ side in absurd (cc);
  };
}

module _ (m n : Machine) (o p : Outside) (l : ℕ) (looks : Looks m o n p) (polled : counted (o.polls l) ≤ p.polls l) where
  side_on : side_of n.code.ends n.core l ≡ side_of m.code.ends m.core l
  side_on = rw (looks.holds.machine.code, looks.holds.machine.core) refl

  -- one on which it receives
  pub peer_looked : side_of m.code.ends m.core l ≡ Peer → (p.last ≡ o.last → receives_from (operations_of n.state) l ≡ true → (p.hand l).front ≡ false) → IsLookedAt o n p l
  peer_looked side front =
      let here : side_of n.code.ends n.core l ≡ Peer = side_on ∙ side in
      record {
        polled = λ h. polled;
        tried = λ e own some. let no : Owner ≡ Peer = sym own ∙ here in absurd (cc);
        leaves = λ e. record {
          decision = λ own. let no : Owner ≡ Peer = sym own ∙ here in absurd (cc);
          front = λ own waits. front e waits;
          slot = λ own some room. let no : Owner ≡ Peer = sym own ∙ here in absurd (cc);
          reply = λ own asks waits. let no : Owner ≡ Peer = sym own ∙ here in absurd (cc);
        };
      }

  -- and one on which it sends
  module _ (side : side_of m.code.ends m.core l ≡ Owner) (decision : p.last ≡ o.last → (p.hand l).decision ≡ false)
      (reply : p.last ≡ o.last → (p.terms l).requests ≡ true → awaits_reply (p.ends l) ≡ true → (p.hand l).reply ≡ false) where
    pub own_looked : (q : Machine) (r : Outside) → Looks n p q r → (has_to_offer (operations_of n.state) l ≡ true → counted (p.tries l) ≤ r.tries l)
        → (r.last ≡ p.last → has_to_offer (operations_of n.state) l ≡ true → has_room (r.terms l) (r.ends l) ≡ true → (r.hand l).slot ≡ false) → IsLookedAt o q r l
    own_looked q r more tried slot =
        let a = looks.holds.ports.clock in
        let b = more.holds.ports.clock in
        let there : side_of q.code.ends q.core l ≡ Owner = rw (more.holds.machine.code, more.holds.machine.core) (side_on ∙ side) in
        record {
          polled = λ h. let x = more.holds.ports.polls l in omega (arith, x, polled);
          tried = λ e own some.
              let second : r.last ≡ p.last = omega (arith, a, b, e) in
              let x = tried (subst (λ s. has_to_offer (operations_of s) l ≡ true) (more.state second) some) in
              let y = counted_grows (o.tries l) (p.tries l) (looks.holds.ports.tries l) in
              omega (arith, x, y);
          leaves = λ e.
              let first : p.last ≡ o.last = omega (arith, a, b, e) in
              let second : r.last ≡ p.last = omega (arith, a, b, e) in
              record {
                decision = λ own. ap (λ (f : ℕ → AtHand). (f l).decision) (more.holds.ports.hand second) ∙ decision first;
                front = λ own waits. let no : Peer ≡ Owner = sym own ∙ there in absurd (cc);
                slot = λ own some room. slot second (subst (λ s. has_to_offer (operations_of s) l ≡ true) (more.state second) some) room;
                reply = λ own asks waits. ap (λ (f : ℕ → AtHand). (f l).reply) (more.holds.ports.hand second)
                    ∙ reply first (subst (λ (t : ℕ → Terms). (t l).requests ≡ true) more.holds.ports.terms asks)
                    (subst (λ (x : ℕ → LinkEnd). awaits_reply (x l) ≡ true) (more.holds.ports.ends second) waits);
              };
        }

-- ---- a link that was looked at

-- later, too
pub looked_still : (m n q : Machine) (o p r : Outside) (l : ℕ) → Looks m o n p → Looks n p q r → IsLookedAt o n p l → IsLookedAt o q r l
looked_still m n q o p r l k j h =
    let a = k.holds.ports.clock in
    let b = j.holds.ports.clock in
    let code = j.holds.machine.code in
    let core = j.holds.machine.core in
    record {
      polled = λ side.
          let x = h.polled (λ e. side (rw (code, core) e)) in
          let y = j.holds.ports.polls l in
          omega (arith, x, y);
      tried = λ e.
          let first : p.last ≡ o.last = omega (arith, a, b, e) in
          let second : r.last ≡ p.last = omega (arith, a, b, e) in
          rw (code, core, j.state second) (λ side some. let x = h.tried first side some in let y = j.holds.ports.tries l in omega (arith, x, y));
      leaves = λ e.
          let first : p.last ≡ o.last = omega (arith, a, b, e) in
          let second : r.last ≡ p.last = omega (arith, a, b, e) in
          let was = h.leaves first in
          record {
            decision = rw (code, core, j.holds.ports.hand second) was.decision;
            front = rw (code, core, j.state second, j.holds.ports.hand second) was.front;
            slot = rw (code, core, j.state second, j.holds.ports.hand second, j.holds.ports.terms, j.holds.ports.ends second) was.slot;
            reply = rw (code, core, j.holds.ports.hand second, j.holds.ports.terms, j.holds.ports.ends second) was.reply;
          };
    }

-- counted from before
pub looked_from : (m n q : Machine) (o p r : Outside) (l : ℕ) → Looks m o n p → Looks n p q r → IsLookedAt p q r l → IsLookedAt o q r l
looked_from m n q o p r l k j h =
    let a = k.holds.ports.clock in
    let b = j.holds.ports.clock in
    record {
      polled = λ side.
          let x = h.polled side in
          let y = counted_grows (o.polls l) (p.polls l) (k.holds.ports.polls l) in
          omega (arith, x, y);
      tried = λ e side some.
          let second : r.last ≡ p.last = omega (arith, a, b, e) in
          let x = h.tried second side some in
          let y = counted_grows (o.tries l) (p.tries l) (k.holds.ports.tries l) in
          omega (arith, x, y);
      leaves = λ e.
          let second : r.last ≡ p.last = omega (arith, a, b, e) in
          h.leaves second;
    }
