-- An entry that comes in: what the machine has taken then, and where it stands. The table of offers and the numbers of the journal are kept for
-- each kind of event, and then what has come in is one entry more of a journal that has a run, and what has not is one with which none has.
use Rattle.std.proofs.Common.{◌≡◌, ◌⊎◌, inl, inr, ℕ, List, [], ◌∷◌, ◌++◌, Option, Some, None, Bool, true, false, refl, sym, ap, ◌∙◌, subst}
use Rattle.std.specs.Prelude.{ℤ, Err, IfOk, Ok, OnErr, Result, is_none, not, slice_index}
use Rattle.std.specs.List.{filter}
use Rattle.ac_base.specs.declared.memory.NoMemory.{NoMemory}
use Rattle.ac_base.specs.declared.entry.Entry.{Entry}
use Rattle.ac_base.specs.declared.entry.Event.{Event}
use Rattle.ac_base.specs.declared.entry.Event.TheVariants as event
use Rattle.ac_base.specs.declared.entry.Answer.{Answer}
use Rattle.ac_base.specs.declared.entry.Payload.{Payload}
use Rattle.work_item.specs.declared.ids.Item.{Item}
use Rattle.work_item.specs.declared.cell.Cell.TheVariants as cell
use Rattle.work_item.specs.Store.{Store}
use Rattle.cancel_scope.specs.declared.operation.Operation.{Operation}
use Rattle.core_state.specs.Moves.{Move, On}
use Rattle.core_state.specs.Arrivals.{Arrival, arrives, is_offer, is_room, is_withdrawal, keeps_room, offers_on}
use Rattle.core_state.specs.Shared.{Shared, with_entry}
use Rattle.code_meaning.specs.Machine.{Flat, FlatEnd, arrived}
use Rattle.core_machine.specs.Machine.{Machine, IsOnItsWay, IsSameCore}
use Rattle.core_machine.specs.Points.{HasCome, IsInTurn, IsOfTurn, entry_of, is_at_point}
use Rattle.core_machine.specs.Tracks.{is_offer_of}
use Rattle.core_machine.proofs.Sound.{resumed_shared}
use Rattle.core_replay.specs.Offering.{Offers, AreOffersOf, counted, is_of}
use Rattle.core_replay.proofs.OfferEntries.{offer_counts, others_stay, room_gives}
use Rattle.replay_laws.specs.Given.{HasRun, last_turn}
use Rattle.replay_laws.proofs.Refusals.{misfit_at_point}
use Rattle.core_replay.specs.Standing.{IsNumbered, IsPlayed, StandsAt}
use Rattle.core_replay.specs.inner.Replaying.{Awaits, ComesIn, Takes}
use Rattle.core_replay.proofs.Numbers.{its_room, offer_numbered, other_numbered}

-- ---- what it has taken

-- neither an offer nor a withdrawal, nor does it give a room back
pub record IsPlain (v : Event) : Type 0 where
  pub offer : (l : ℕ) → is_offer l v ≡ false
  pub offers : (l n : ℕ) → is_offer_of l n v ≡ false
  pub withdraws : (l n : ℕ) → is_withdrawal l n v ≡ false
  pub rooms : (l n : ℕ) → is_room l n v ≡ false

module _ (before after : Machine) (o : Offers) (v : Event) (stamp : ℕ) (h : HasCome before v stamp after) (run : IsOnItsWay after) (p : IsPlayed before o) where
  abbrev e : Entry
  e = entry_of h.flat v stamp

  played : (q : Offers) → AreOffersOf (before.journal ++ e ∷ []) q → IsNumbered (before.journal ++ e ∷ []) → IsPlayed after q
  played q offers numbered = record {
    run = run;
    offers = subst (λ (es : List Entry). AreOffersOf es q) (sym h.journal) offers;
    numbered = subst IsNumbered (sym h.journal) numbered;
  }

  plain_played : IsPlain v → IsPlayed after o
  plain_played plain =
      played o (others_stay before.journal o e p.offers plain.offer (λ l n. (plain.withdraws l n, plain.rooms l n)))
      (other_numbered before.journal stamp h.flat.shared.turn p.numbered v plain.offer plain.offers (λ l n g. absurd (true_false (sym (plain.rooms l n) ∙ g))))
    where
      true_false : false ≡ true → ⊥
      true_false g = cc

-- it comes in or does not
pub came_played : (before after : Machine) (o : Offers) (v : Event) (stamp : ℕ) (came : Bool) → ComesIn before v stamp came after → IsOnItsWay after → IsPlayed before o → IsPlain v
    → IsPlayed after o
came_played before after o v stamp true h run p plain = plain_played before after o v stamp (h.has_come refl) run p plain
came_played before after o v stamp false h run p plain = subst (λ (n : Machine). IsPlayed n o) (sym (h.stays refl)) p

-- where memory was wanted, nothing has changed
pub maybe_played : (before after : Machine) (o : Offers) (v : Event) (stamp : ℕ) (r : Result Bool NoMemory) → IfOk r (λ came. ComesIn before v stamp came after) → OnErr r (after ≡ before)
    → IsOnItsWay after → IsPlayed before o → IsPlain v → IsPlayed after o
maybe_played before after o v stamp (Ok came) h err run p plain = came_played before after o v stamp came h run p plain
maybe_played before after o v stamp (Err error) h err run p plain = subst (λ (n : Machine). IsPlayed n o) (sym err) p

pub know_plain : (link number : ℕ) → IsPlain (event.Know link number)
know_plain link number = record { offer = λ l. refl; offers = λ l n. refl; withdraws = λ l n. refl; rooms = λ l n. refl }

pub got_plain : (link number : ℕ) (value : List ℤ) → IsPlain (event.Got link number value)
got_plain link number value = record { offer = λ l. refl; offers = λ l n. refl; withdraws = λ l n. refl; rooms = λ l n. refl }

pub pass_plain : (link number : ℕ) → IsPlain (event.Pass link number)
pass_plain link number = record { offer = λ l. refl; offers = λ l n. refl; withdraws = λ l n. refl; rooms = λ l n. refl }

pub reply_plain : (link number : ℕ) (answer : Answer) → IsPlain (event.Reply link number answer)
reply_plain link number answer = record { offer = λ l. refl; offers = λ l n. refl; withdraws = λ l n. refl; rooms = λ l n. refl }

-- an offer was made
pub offer_played : (before after : Machine) (o q : Offers) (link number : ℕ) (payload : Payload) (stamp : ℕ) → HasCome before (event.Offer link number payload) stamp after → IsOnItsWay after
    → IsPlayed before o → number ≡ offers_on link before.journal → ((l : ℕ) → slice_index q.counts l ≡ counted link l (slice_index o.counts l)) → q.kept ≡ o.kept → IsPlayed after q
offer_played before after o q link number payload stamp h run p now counts kept =
    let v = event.Offer link number payload in
    played before after o v stamp h run p q
    (offer_counts before.journal o q link (entry_of h.flat v stamp) p.offers (λ l. refl) (λ l n. (refl, refl)) counts kept)
    (offer_numbered before.journal stamp h.flat.shared.turn p.numbered link number payload now)

-- a room was given back
pub room_played : (before after : Machine) (o q : Offers) (link number stamp : ℕ) → HasCome before (event.Room link number) stamp after → IsOnItsWay after → IsPlayed before o
    → keeps_room link number before.journal ≡ true → q.counts ≡ o.counts → q.kept ≡ filter (λ x. not (is_of link number x)) o.kept → IsPlayed after q
room_played before after o q link number stamp h run p keeps counts kept =
    let v = event.Room link number in
    played before after o v stamp h run p q
    (room_gives before.journal o q link number (entry_of h.flat v stamp) p.offers (λ l. refl) (λ l n. (refl, refl)) counts kept)
    (other_numbered before.journal stamp h.flat.shared.turn p.numbered v (λ l. refl) (λ l n. refl) (its_room link number before.journal keeps))

-- room was made for it before
pub still_played : (before roomed : Machine) (o : Offers) → IsSameCore before roomed → IsOnItsWay roomed → IsPlayed before o → IsPlayed roomed o
still_played before roomed o same run p = record {
  run = run;
  offers = subst (λ (es : List Entry). AreOffersOf es o) (sym same.journal) p.offers;
  numbered = subst IsNumbered (sym same.journal) p.numbered;
}

-- ---- it was taken

last_more : (turn : ℕ) (es : List Entry) (e : Entry) → last_turn turn (es ++ e ∷ []) ≡ e.turn
last_more turn [] e = refl
last_more turn (f ∷ es) e = last_more f.turn es e

pub turn_there : (m : Machine) (turn : ℕ) (flat : Flat) → IsOfTurn m turn → m.state ≡ On flat → flat.shared.turn ≡ turn
turn_there m turn flat h is = (subst (λ (s : Move Flat FlatEnd). IsInTurn m.journal turn s) is h).0

pub arrived_shared : (m : Flat) (s : Shared) (x : Arrival) → (arrived m s x).shared ≡ s
arrived_shared m s x = resumed_shared (record m { shared = s; store = x.store; operations = x.operations }) (cell.Int x.value) x.woken

pub refused_takes : (before after : Machine) (e : Entry) → after.journal ≡ before.journal → (HasRun before.code before.core before.bound (before.journal ++ e ∷ []) → ⊥) → Takes before e false after
refused_takes before after e same misfit =
    record { entered = λ h. absurd (no h); stands = λ h. absurd (no h); stays = λ h. same; misfit = λ h. misfit }
  where
    no : false ≡ true → ⊥
    no h = cc

-- the machine, once room was made, and what has become of it
module _ (before roomed : Machine) (same : IsSameCore before roomed) (state : roomed.state ≡ before.state) (e : Entry) (now : IsOfTurn before e.turn) where
  pub entered_takes : (after : Machine) (v : Event) (flat next : Flat) → e.event ≡ v → roomed.state ≡ On flat → after.state ≡ On next → next.shared ≡ with_entry flat.shared
      (entry_of flat v e.stamp) []
      → after.journal ≡ roomed.journal ++ entry_of flat v e.stamp ∷ [] → Takes before e true after
  entered_takes after v flat next is stood led shared journal = record {
    entered = λ h. all;
    stands = λ h. subst (StandsAt after) (sym led) (ap (λ (s : Shared). s.turn) shared ∙ turn ∙ sym (ap (last_turn 0) all ∙ last_more 0 before.journal e));
    stays = λ h. absurd (no h);
    misfit = λ h. absurd (no h);
  }
    where
      no : true ≡ false → ⊥
      no h = cc

      turn : flat.shared.turn ≡ e.turn
      turn = turn_there before e.turn flat now (sym state ∙ stood)

      it : entry_of flat v e.stamp ≡ e
      it = λ j. record { stamp = e.stamp; turn = turn j; event = (sym is) j }

      all : after.journal ≡ before.journal ++ e ∷ []
      all = journal ∙ ap (λ (f : Entry). roomed.journal ++ f ∷ []) it ∙ ap (λ (es : List Entry). es ++ e ∷ []) same.journal

  -- it came in, or it does not fit
  pub came_takes : (after : Machine) (a : Awaits before e.turn) → is_at_point before.state ≡ true → (came : Bool) (v : Event) → e.event ≡ v → ComesIn roomed v e.stamp came after
      → Takes before e came after
  came_takes after a point true v is h =
      let c = h.has_come refl in
      entered_takes after v c.flat (arrived c.flat (with_entry c.flat.shared (entry_of c.flat v e.stamp) []) c.arrival) is c.stood c.state
      (arrived_shared c.flat (with_entry c.flat.shared (entry_of c.flat v e.stamp) []) c.arrival) c.journal
  came_takes after a point false v is h =
      refused_takes before after e (ap (λ (n : Machine). n.journal) (h.stays refl) ∙ same.journal)
      (misfit_at_point before.code before.core before.bound before.journal e a.flat a.come a.le (idle a.flat (subst (λ (s : Move Flat FlatEnd). is_at_point s ≡ true) a.is point))
      (sym (turn_there before e.turn a.flat now a.is)) misfit)
    where
      none : (o : Option Item) → is_none o ≡ true → o ≡ None
      none None h = refl
      none (Some t) h = let no : false ≡ true = h in absurd (cc)

      idle : (flat : Flat) → is_at_point (On flat) ≡ true → flat.running ≡ None
      idle flat h = none flat.running h

      misfit : arrives before.journal a.flat.store a.flat.operations e.event ≡ None
      misfit =
          ap (λ (x : Event). arrives before.journal a.flat.store a.flat.operations x) is
          ∙ ap (λ (es : List Entry). arrives es a.flat.store a.flat.operations v) (sym same.journal) ∙ h.misfit refl a.flat (state ∙ a.is)

pub if_came : (roomed before after : Machine) (v : Event) (e : Entry) (r : Result Bool NoMemory) → IfOk r (λ came. ComesIn roomed v e.stamp came after)
    → ((came : Bool) → ComesIn roomed v e.stamp came after → Takes before e came after) → IfOk r (λ came. Takes before e came after)
if_came roomed before after v e (Ok came) h takes = takes came h
if_came roomed before after v e (Err error) h takes = h

-- an event that comes in at no point
pub never_comes : (m : Machine) (v : Event) (stamp : ℕ) → ((past : List Entry) (store : Store) (os : List Operation) → arrives past store os v ≡ None) → ComesIn m v stamp false m
never_comes m v stamp none = record { has_come = λ h. absurd (no h); stays = λ h. refl; misfit = λ h flat is. none m.journal flat.store flat.operations }
  where
    no : false ≡ true → ⊥
    no h = cc

pub never_at_points : (v : Event) → ((l : ℕ) × (n : ℕ) × (v ≡ event.Withdraw l n)) ⊎ ((l : ℕ) × (n : ℕ) × (a : Answer) × (v ≡ event.Did l n a)) → (past : List Entry) (store : Store)
    (os : List Operation) → arrives past store os v ≡ None
never_at_points v (inl h) past store os = ap (λ (x : Event). arrives past store os x) h.2
never_at_points v (inr h) past store os = ap (λ (x : Event). arrives past store os x) h.3
