-- A core that records what its ports tell goes on in step with them: `Holds` after each part of a run, and `Looks` after a part of a
-- dispatch point. First, what an end tells of the journal gives the machine's own conditions; then a part is shown by the call of ports in
-- it, which told an entry that was recorded or told none; and parts add up, since each says how things stand after it.
use Rattle.std.proofs.Common.{◌≡◌, ℕ, ◌<◌, ◌≤◌, List, [], ◌∷◌, ◌++◌, length, Option, Some, None, IsSome, Bool, true, false, refl, sym, ap, ◌∙◌, subst, arith}
use Rattle.std.specs.Prelude.{ℤ, find, slice_get, IfNone, is_none}
use Rattle.std.specs.List.{filter}
use Rattle.std.proofs.lemmas.List.{append-nil, append_assoc}
use Rattle.ac_base.specs.declared.entry.Event.TheVariants as event
use Rattle.ac_base.specs.declared.entry.Payload.{Payload}
use Rattle.ac_base.specs.Stamps.{next_stamp}
use Rattle.ac_links.specs.declared.payloads.Terms.{Terms}
use Rattle.ac_links.specs.Journals.{last_of}
use Rattle.ac_links.specs.Noted.{owner_noted, peer_noted}
use Rattle.ac_links.specs.Order.{of_party, is_of_link}
use Rattle.ac_links.specs.Views.{OwnerOffer, OwnerRuns, may_free, may_withdraw}
use Rattle.ac_links.specs.Party.{LinkEnd, EndRuns, PartyAgrees, end_fits}
use Rattle.ac_links.specs.Party.LinkEnd.{Owns, Decides, Absent}
use Rattle.work_item.specs.declared.ids.Item.{Item}
use Rattle.cancel_scope.specs.Outstanding.{is_offered}
use Rattle.core_channels.specs.Laws.{Told}
use Rattle.core_ports.specs.Ends.{AreUpTo, is_owner, is_peer, offer_at}
use Rattle.core_ports.specs.Tells.{Tells, TellsOne}
use Rattle.core_ports.proofs.GoingOn.{core_goes_on}
use Rattle.core_ports.proofs.UpTo.{up_to_all}
use Rattle.core_state.specs.Moves.{Move, On, Over}
use Rattle.core_state.specs.Arrivals.{Arrival, keeps_room, offers_on}
use Rattle.core_state.specs.Shared.{Shared, with_entry}
use Rattle.code_meaning.specs.Machine.{Flat, FlatEnd, arrived}
use Rattle.stack_code.specs.Parts.{Parts}
use Rattle.code_safety.specs.Fit.{one_if}
use Rattle.core_machine.specs.Machine.{Machine, IsOnItsWay, IsSameCore, has_ended}
use Rattle.core_machine.specs.Points.{HasCome, HasTracks, entry_of, is_at_point, left_at, operations_of, requests_of, work_left}
use Rattle.core_machine.specs.Tracks.{Tracks, offers_of, standing_of}
use Rattle.core_driver.specs.Idle.{IsLater}
use Rattle.core_driver.specs.Sides.{ArePortsOf}
use Rattle.core_driver.specs.inner.InStep.{Holds, InStep, Looks, turn_at}
use Rattle.core_driver.specs.inner.Outside.{Later, Outside}
use Rattle.core_driver.proofs.Turning.{arrived_turn}
use Rattle.core_driver.proofs.Opened.{absent_offers, open_at, found_one, next_by, peer_offers, runs_free, runs_length, runs_open}

is_one : (b : Bool) → 1 ≤ one_if b → b ≡ true
is_one true h = refl
is_one false h = absurd (omega (arith, h))

-- ---- what an end tells

module _ (m : Machine) (o : Outside) (h : InStep m o) where
  -- no stamp at an end is above the clock
  pub up_to : AreUpTo o.last o.ends
  up_to = subst (λ n. AreUpTo n o.ends) (sym h.clock) (up_to_all o.terms m.core o.ends m.journal h.agrees)

  module _ (tracks : Tracks (requests_of m) m.journal (operations_of m.state)) where
    module _ (l : ℕ) (os : List OwnerOffer) (owns : o.ends l ≡ Owns os) where
      runs : OwnerRuns (o.terms l) (owner_noted os) [] (filter (is_of_link l) (of_party m.core m.journal)) os
      runs = subst (λ (x : LinkEnd). EndRuns (o.terms l) x (filter (is_of_link l) (of_party m.core m.journal))) owns (h.agrees.runs l)

      known_there : (n : ℕ) → may_withdraw (slice_get os n) ≡ true → IsSome (find (is_offered l n) (operations_of m.state))
      known_there n stands =
          let all = runs_open (o.terms l) (owner_noted os) m.core l os n m.journal [] runs in
          let one : open_at os n ≡ 1 = ap one_if stands in
          let track = tracks.each l n in
          let here : standing_of l n (operations_of m.state) ≡ 1 = omega (arith, all, one, track) in
          found_one (is_offered l n) (operations_of m.state) 0 here

      next_there : length os ≡ offers_on l m.journal
      next_there = let all = runs_length (o.terms l) (owner_noted os) m.core l os m.journal [] runs in omega (arith, all)

      kept_there : (n : ℕ) → may_free (slice_get os n) ≡ true → keeps_room l n m.journal ≡ true
      kept_there n free = runs_free (o.terms l) (owner_noted os) m.core l os n m.journal runs free

      open_there : (n : ℕ) → 1 ≤ standing_of l n (operations_of m.state) → may_withdraw (slice_get os n) ≡ true
      open_there n some =
          let all = runs_open (o.terms l) (owner_noted os) m.core l os n m.journal [] runs in
          let track = tracks.each l n in
          is_one (may_withdraw (slice_get os n)) (omega (arith, all, track, some))

    -- ---- by the end, whichever it is

    pub knows_one : (l n : ℕ) → is_owner (o.ends l) ≡ true → end_fits (o.terms l) (o.ends l) (event.Know l n) ≡ true → IsSome (find (is_offered l n) (operations_of m.state))
    knows_one l n = go (o.ends l) refl
      where
        go : (x : LinkEnd) → o.ends l ≡ x → is_owner x ≡ true → end_fits (o.terms l) x (event.Know l n) ≡ true → IsSome (find (is_offered l n) (operations_of m.state))
        go (Owns os) e own fits = known_there l os e n fits
        go (Decides ds) e own fits = let no : false ≡ true = own in absurd (cc)
        go Absent e own fits = let no : false ≡ true = own in absurd (cc)

    pub offers_next : (l n : ℕ) (payload : Payload) → is_owner (o.ends l) ≡ true → end_fits (o.terms l) (o.ends l) (event.Offer l n payload) ≡ true → n ≡ offers_on l m.journal
    offers_next l n payload = go (o.ends l) refl
      where
        go : (x : LinkEnd) → o.ends l ≡ x → is_owner x ≡ true → end_fits (o.terms l) x (event.Offer l n payload) ≡ true → n ≡ offers_on l m.journal
        go (Owns os) e own fits = next_by (o.terms l) os l n payload fits ∙ next_there l os e
        go (Decides ds) e own fits = let no : false ≡ true = own in absurd (cc)
        go Absent e own fits = let no : false ≡ true = own in absurd (cc)

    -- whose room comes back, that was withdrawn and keeps it
    pub frees_one : (l n : ℕ) → is_owner (o.ends l) ≡ true → end_fits (o.terms l) (o.ends l) (event.Room l n) ≡ true → keeps_room l n m.journal ≡ true
    frees_one l n = go (o.ends l) refl
      where
        go : (x : LinkEnd) → o.ends l ≡ x → is_owner x ≡ true → end_fits (o.terms l) x (event.Room l n) ≡ true → keeps_room l n m.journal ≡ true
        go (Owns os) e own fits = kept_there l os e n fits
        go (Decides ds) e own fits = let no : false ≡ true = own in absurd (cc)
        go Absent e own fits = let no : false ≡ true = own in absurd (cc)

    some_offers : (l n : ℕ) → 1 ≤ standing_of l n (operations_of m.state) → 1 ≤ offers_of l n m.journal
    some_offers l n some = let track = tracks.each l n in omega (arith, track, some)

    -- an offer that stands for an operation may be withdrawn
    pub stands_open : (l n : ℕ) → 1 ≤ standing_of l n (operations_of m.state) → may_withdraw (offer_at (o.ends l) n) ≡ true
    stands_open l n some = go (o.ends l) refl
      where
        of_end : (x : LinkEnd) → o.ends l ≡ x → EndRuns (o.terms l) x (filter (is_of_link l) (of_party m.core m.journal))
        of_end x e = subst (λ (y : LinkEnd). EndRuns (o.terms l) y (filter (is_of_link l) (of_party m.core m.journal))) e (h.agrees.runs l)

        go : (x : LinkEnd) → o.ends l ≡ x → may_withdraw (offer_at x n) ≡ true
        go (Owns os) e = open_there l os e n some
        go (Decides ds) e =
            let none = peer_offers m.core l n (o.terms l) (peer_noted ds) ds m.journal [] (of_end (Decides ds) e) in
            let more = some_offers l n some in
            absurd (omega (arith, none, more))
        go Absent e =
            let none = absent_offers m.core l n m.journal (of_end Absent e) in
            let more = some_offers l n some in
            absurd (omega (arith, none, more))

-- where a core decides, it learns of nothing
pub peer_knows_nothing : (terms : Terms) (x : LinkEnd) (l n : ℕ) → is_peer x ≡ true → end_fits terms x (event.Know l n) ≡ true → ⊥
peer_knows_nothing terms (Owns os) l n h e = let no : false ≡ true = h in cc
peer_knows_nothing terms (Decides ds) l n h e = let no : false ≡ true = e in cc
peer_knows_nothing terms Absent l n h e = let no : false ≡ true = h in cc

pub peer_frees_nothing : (terms : Terms) (x : LinkEnd) (l n : ℕ) → is_peer x ≡ true → end_fits terms x (event.Room l n) ≡ true → ⊥
peer_frees_nothing terms (Owns os) l n h e = let no : false ≡ true = h in cc
peer_frees_nothing terms (Decides ds) l n h e = let no : false ≡ true = e in cc
peer_frees_nothing terms Absent l n h e = let no : false ≡ true = h in cc

-- where a core sends, no message comes to it
pub owner_gets_nothing : (terms : Terms) (x : LinkEnd) (l n : ℕ) (value : List ℤ) → is_owner x ≡ true → end_fits terms x (event.Got l n value) ≡ true → ⊥
owner_gets_nothing terms (Owns os) l n value h e = let no : false ≡ true = e in cc
owner_gets_nothing terms (Decides ds) l n value h e = let no : false ≡ true = h in cc
owner_gets_nothing terms Absent l n value h e = let no : false ≡ true = h in cc

pub owner_passes_nothing : (terms : Terms) (x : LinkEnd) (l n : ℕ) → is_owner x ≡ true → end_fits terms x (event.Pass l n) ≡ true → ⊥
owner_passes_nothing terms (Owns os) l n h e = let no : false ≡ true = e in cc
owner_passes_nothing terms (Decides ds) l n h e = let no : false ≡ true = h in cc
owner_passes_nothing terms Absent l n h e = let no : false ≡ true = h in cc

pub owner_is_no_peer : (x : LinkEnd) → is_owner x ≡ true → is_peer x ≡ true → ⊥
owner_is_no_peer (Owns os) h e = let no : false ≡ true = e in cc
owner_is_no_peer (Decides ds) h e = let no : false ≡ true = h in cc
owner_is_no_peer Absent h e = let no : false ≡ true = h in cc

-- ---- one part after another

later_on : (a b c : Machine) → IsLater a b → IsLater b c → IsLater a c
later_on a b c k l = record {
  code = l.code ∙ k.code;
  core = l.core ∙ k.core;
  bound = l.bound ∙ k.bound;
  entries = k.entries ++ l.entries;
  journal = l.journal ∙ ap (λ j. j ++ l.entries) k.journal ∙ append_assoc a.journal k.entries l.entries;
}

ports_later : (o p q : Outside) → Later o p → Later p q → Later o q
ports_later o p q k l =
    let a = k.clock in
    let b = l.clock in
    record {
      terms = l.terms ∙ k.terms;
      clock = omega (arith, a, b);
      ends = λ e.
          let first : p.last ≡ o.last = omega (arith, a, b, e) in
          let second : q.last ≡ p.last = omega (arith, a, b, e) in
          l.ends second ∙ k.ends first;
      hand = λ e.
          let first : p.last ≡ o.last = omega (arith, a, b, e) in
          let second : q.last ≡ p.last = omega (arith, a, b, e) in
          l.hand second ∙ k.hand first;
      polls = λ i. let x = k.polls i in let y = l.polls i in omega (arith, x, y);
      tries = λ i. let x = k.tries i in let y = l.tries i in omega (arith, x, y);
    }

pub holds_then : (m n q : Machine) (o p r : Outside) → Holds m o n p → Holds n p q r → Holds m o q r
holds_then m n q o p r k l = record { in_step = l.in_step; machine = later_on m n q k.machine l.machine; ports = ports_later o p r k.ports l.ports }

pub looks_then : (m n q : Machine) (o p r : Outside) → Looks m o n p → Looks n p q r → Looks m o q r
looks_then m n q o p r k l = record {
  holds = holds_then m n q o p r k.holds l.holds;
  point = l.point;
  turn = l.turn ∙ k.turn;
  less = λ ranks. let x = k.less ranks in let y = l.less ranks in omega (arith, x, y);
  state = λ e.
      let a = k.holds.ports.clock in
      let b = l.holds.ports.clock in
      let first : p.last ≡ o.last = omega (arith, a, b, e) in
      let second : r.last ≡ p.last = omega (arith, a, b, e) in
      l.state second ∙ k.state first;
}

-- ---- none at all

pub same_later : (o : Outside) → Later o o
same_later o = record { terms = refl; clock = omega arith; ends = λ e. refl; hand = λ e. refl; polls = λ i. omega arith; tries = λ i. omega arith }

-- the machine has the same core and journal
core_later : (m b : Machine) → IsSameCore m b → IsLater m b
core_later m b same = record { code = same.code; core = same.core; bound = same.bound; entries = []; journal = same.journal ∙ sym (append-nil m.journal) }

pub holds_still : (m : Machine) (o : Outside) → InStep m o → Holds m o m o
holds_still m o h = record { in_step = h; machine = core_later m m (record { code = refl; core = refl; bound = refl; journal = refl }); ports = same_later o }

pub looks_still : (m : Machine) (o : Outside) → InStep m o → is_at_point m.state ≡ true → Looks m o m o
looks_still m o h point = record { holds = holds_still m o h; point = point; turn = refl; less = λ ranks. omega arith; state = λ e. refl }

-- the machine goes on by itself
core_on : (m n : Machine) (o : Outside) → InStep m o → IsSameCore m n → IsOnItsWay n → InStep n o
core_on m n o h same run = record {
  run = run;
  ports = rw (same.code, same.core) h.ports;
  agrees = rw (same.core, same.journal) h.agrees;
  clock = h.clock ∙ ap (last_of 0) (sym same.journal);
}

pub turn_holds : (m n : Machine) (o : Outside) → InStep m o → IsSameCore m n → IsOnItsWay n → Holds m o n o
turn_holds m n o h same run = record { in_step = core_on m n o h same run; machine = core_later m n same; ports = same_later o }

-- ---- a call of ports

pub record Called (o p : Outside) (told : Option Told) : Type 0 where
  pub tells : Tells o.terms o.ends o.last told p.ends p.last
  pub hand : IfNone told (p.hand ≡ o.hand)
  pub terms : p.terms ≡ o.terms
  pub polls : (l : ℕ) → o.polls l ≤ p.polls l
  pub tries : (l : ℕ) → o.tries l ≤ p.tries l

ports_on : (code code' : Parts) (core core' : ℕ) (terms : ℕ → Terms) (ends after : ℕ → LinkEnd) → code' ≡ code → core' ≡ core
    → ((l : ℕ) → is_owner (after l) ≡ is_owner (ends l)) → ((l : ℕ) → is_peer (after l) ≡ is_peer (ends l)) → ArePortsOf code core terms ends → ArePortsOf code' core' terms after
ports_on code code' core core' terms ends after c k owner peer p = rw (c, k) (record {
  coded = p.coded;
  owner = λ l side. owner l ∙ p.owner l side;
  peer = λ l side. peer l ∙ p.peer l side;
})

later_than : (last now answers : ℕ) → now ≡ next_stamp last answers → last < now
later_than last now answers h = omega (arith, h)

none_of : (o : Option Item) → is_none o ≡ true → o ≡ None
none_of None h = refl
none_of (Some t) h = let no : false ≡ true = h in absurd (cc)

point_on : (f : Flat) (shared : Shared) (x : Arrival) → is_at_point (On f) ≡ true → is_at_point (On (arrived f shared x)) ≡ true
point_on f shared x h = by x.woken
  where
    by : (o : Option Item) → is_at_point (On (arrived f shared (record x { woken = o }))) ≡ true
    by None = h
    by (Some t) = h

-- no entry was told where the clock has stayed
pub told_moves : (o p : Outside) (t : Told) → Called o p (Some t) → p.last ≡ o.last → ⊥
told_moves o p t call same =
    let on = later_than o.last p.last call.tells.answers (call.tells.clock ∙ call.tells.next) in
    absurd (omega (arith, on, same))

pub still_going : (state : Move Flat FlatEnd) → is_at_point state ≡ true → has_ended state ≡ false
still_going (On m) h = refl
still_going (Over x) h = let no : false ≡ true = h in absurd (cc)

-- the machine after it has recorded what was told
pub record Recorded (before : Machine) (t : Told) (turn : ℕ) (after : Machine) : Type 0 where
  pub journal : after.journal ≡ before.journal ++ record { stamp = t.stamp; turn = turn; event = t.event } ∷ []
  pub code : after.code ≡ before.code
  pub core : after.core ≡ before.core
  pub bound : after.bound ≡ before.bound

-- room was made
module _ (m b : Machine) (o : Outside) (h : InStep m o) (same : IsSameCore m b) (state : b.state ≡ m.state) (run : IsOnItsWay b) where
  pub with_room : InStep b o
  with_room = core_on m b o h same run

  pub roomed_less : (ranks : List ℕ) → work_left ranks b ≡ work_left ranks m
  roomed_less ranks = ap (left_at ranks b.bound) state ∙ ap (λ n. left_at ranks n m.state) same.bound

  pub roomed_holds : Holds m o b o
  roomed_holds = record { in_step = with_room; machine = core_later m b same; ports = same_later o }

  -- nothing was told
  pub nothing_holds : (p : Outside) → Called o p None → Holds m o b p
  nothing_holds p call =
      let r = with_room in
      let t = call.tells in
      record {
        in_step = record {
          run = run;
          ports = rw (call.terms, t.0) r.ports;
          agrees = rw (call.terms, t.0) r.agrees;
          clock = t.1 ∙ r.clock;
        };
        machine = core_later m b same;
        ports = record {
          terms = call.terms;
          clock = (let e = t.1 in omega (arith, e));
          ends = λ e. t.0;
          hand = λ e. call.hand;
          polls = call.polls;
          tries = call.tries;
        };
      }

  -- an entry was told, and is recorded
  module _ (p : Outside) (t : Told) (call : Called o p (Some t)) (n : Machine) (turn : ℕ) (made : Recorded b t turn n) (goes : IsOnItsWay n) where
    abbrev tells : TellsOne o.terms o.ends o.last t p.ends p.last
    tells = call.tells

    clock_on : o.last < p.last
    clock_on = later_than o.last p.last tells.answers (tells.clock ∙ tells.next)

    no_stay : p.last ≡ o.last → ⊥
    no_stay = told_moves o p t call

    in_step_then : InStep n p
    in_step_then =
        let r = with_room in
        let on_all = core_goes_on o.terms b.core o.ends p.ends b.journal turn (Some t) p.last r.agrees
        (subst (λ k. TellsOne o.terms o.ends k t p.ends p.last) r.clock tells) in
        record {
          run = goes;
          ports = subst (λ terms. ArePortsOf n.code n.core terms p.ends) (sym call.terms)
              (ports_on b.code n.code b.core n.core o.terms o.ends p.ends made.code made.core on_all.owner on_all.peer r.ports);
          agrees = subst (λ terms. PartyAgrees terms n.core p.ends n.journal) (sym call.terms)
              (subst (λ core. PartyAgrees o.terms core p.ends n.journal) (sym made.core) (subst (PartyAgrees o.terms b.core p.ends) (sym made.journal) on_all.agrees));
          clock = on_all.clock ∙ ap (last_of 0) (sym made.journal);
        }

    pub recorded_holds : Holds m o n p
    recorded_holds = record {
      in_step = in_step_then;
      machine = later_on m b n (core_later m b same) (record {
        code = made.code;
        core = made.core;
        bound = made.bound;
        entries = record { stamp = t.stamp; turn = turn; event = t.event } ∷ [];
        journal = made.journal;
      });
      ports = record {
        terms = call.terms;
        clock = (let a = clock_on in omega (arith, a));
        ends = λ e. absurd (no_stay e);
        hand = λ e. absurd (no_stay e);
        polls = call.polls;
        tries = call.tries;
      };
    }

-- ---- at a dispatch point

module _ (m b : Machine) (o : Outside) (h : InStep m o) (point : is_at_point m.state ≡ true) (same : IsSameCore m b) (state : b.state ≡ m.state) (run : IsOnItsWay b) where
  roomed : InStep b o
  roomed = with_room m b o h same state run

  roomed_point : is_at_point b.state ≡ true
  roomed_point = ap is_at_point state ∙ point

  pub roomed_looks : Looks m o b o
  roomed_looks = record {
    holds = roomed_holds m b o h same state run;
    point = roomed_point;
    turn = ap turn_at state;
    less = λ ranks. let e = roomed_less m b o h same state run ranks in omega (arith, e);
    state = λ e. state;
  }

  module _ (all : HasTracks b) where
    tracks : Tracks (requests_of b) b.journal (operations_of b.state)
    tracks = all (still_going b.state roomed_point)

    pub knows_after : (l n : ℕ) → is_owner (o.ends l) ≡ true → end_fits (o.terms l) (o.ends l) (event.Know l n) ≡ true → IsSome (find (is_offered l n) (operations_of b.state))
    knows_after = knows_one b o roomed tracks

    pub next_after : (l n : ℕ) (payload : Payload) → is_owner (o.ends l) ≡ true → end_fits (o.terms l) (o.ends l) (event.Offer l n payload) ≡ true → n ≡ offers_on l b.journal
    next_after = offers_next b o roomed tracks

    pub frees_after : (l n : ℕ) → is_owner (o.ends l) ≡ true → end_fits (o.terms l) (o.ends l) (event.Room l n) ≡ true → keeps_room l n b.journal ≡ true
    frees_after = frees_one b o roomed tracks

  -- nothing was told
  pub nothing_looks : (p : Outside) → Called o p None → Looks m o b p
  nothing_looks p call = record {
    holds = nothing_holds m b o h same state run p call;
    point = roomed_point;
    turn = ap turn_at state;
    less = λ ranks. let e = roomed_less m b o h same state run ranks in omega (arith, e);
    state = λ e. state;
  }

  -- an entry was told, and is recorded
  module _ (p : Outside) (t : Told) (call : Called o p (Some t)) (n : Machine) (come : HasCome b t.event t.stamp n) (less : (ranks : List ℕ) → work_left ranks n ≤ work_left ranks b)
      (goes : IsOnItsWay n) where
    come_point : is_at_point n.state ≡ true
    come_point = ap is_at_point come.state ∙ point_on come.flat _ come.arrival (sym (ap is_at_point come.stood) ∙ roomed_point)

    pub entered_looks : Looks m o n p
    entered_looks = record {
      holds = recorded_holds m b o h same state run p t call n come.flat.shared.turn (record { journal = come.journal; code = come.code; core = come.core; bound = come.bound }) goes;
      point = come_point;
      turn = ap turn_at come.state ∙ arrived_turn come.flat (with_entry come.flat.shared (entry_of come.flat t.event t.stamp) []) come.arrival ∙ sym (ap turn_at come.stood) ∙ ap turn_at state;
      less = λ ranks. let e = roomed_less m b o h same state run ranks in let f = less ranks in omega (arith, e, f);
      state = λ e. absurd (told_moves o p t call e);
    }
