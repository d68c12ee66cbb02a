-- An entry for a core that asks for the outcome of an offer. Its next move takes the entry if it is that outcome in this turn, and otherwise sees
-- that it does not fit; so an entry that is refused has no run.
use Rattle.std.proofs.Common.{◌≡◌, ◌≢◌, ℕ, List, [], ◌∷◌, ◌++◌, Option, Some, None, Bool, true, false, refl, sym, ap, ◌∙◌, subst}
use Rattle.std.specs.Prelude.{◌&&◌, find, nat_eq, slice_get, if◌then◌else◌}
use Rattle.std.proofs.lemmas.Bool.{and_parts, eqb-true}
use Rattle.ac_base.specs.declared.entry.Entry.{Entry}
use Rattle.ac_base.specs.declared.entry.Event.{Event}
use Rattle.ac_base.specs.declared.entry.Event.TheVariants as event
use Rattle.work_item.specs.declared.ids.Item.{Item}
use Rattle.work_item.specs.declared.ids.BlockId.{BlockId}
use Rattle.work_item.specs.Store.{cell_at}
use Rattle.cancel_scope.specs.declared.operation.Progress.{Progress}
use Rattle.cancel_scope.specs.declared.operation.Progress.TheVariants.{Waiting, Offered, Started}
use Rattle.cancel_scope.specs.declared.operation.Operation.{Operation}
use Rattle.core_state.specs.Moves.{Move, On}
use Rattle.core_state.specs.Arrivals.{is_withdrawal}
use Rattle.core_state.specs.Cancelling.{Fate, NeverHappens, IsTaken, by_outcome, is_to_try, outcome}
use Rattle.core_state.specs.Frames.{block_in}
use Rattle.core_state.specs.Shared.{with_entry}
use Rattle.stack_code.specs.declared.instr.Instr.{Instr}
use Rattle.stack_code.specs.declared.instr.Instr.TheVariants as i
use Rattle.stack_code.specs.Parts.{Parts}
use Rattle.code_meaning.specs.Machine.{Flat, FlatEnd, arrived, is_inside, marked}
use Rattle.code_safety.proofs.Journal.{TriesNext}
use Rattle.core_machine.specs.declared.tried.Tried.{Tried}
use Rattle.core_machine.specs.Machine.{Machine, IsOnItsWay, IsSameCore, has_ended}
use Rattle.core_machine.specs.Points.{HasTracks, IsOfTurn, entry_of, operations_of, requests_of}
use Rattle.core_machine.specs.Tracks.{Tracks, is_know_of}
use Rattle.core_machine.specs.Tried.{HasDecided, cancelled_at, cancelled_by, tried_as, tried_in, tried_of, tried_within}
use Rattle.core_replay.specs.Offering.{Offers, AreOffersOf}
use Rattle.core_replay.proofs.OfferEntries.{others_stay, withdrawal_keeps}
use Rattle.replay_laws.specs.Given.{HasRun}
use Rattle.replay_laws.proofs.Refusals.{misfit_at_cancel}
use Rattle.core_replay.specs.Standing.{IsNumbered, IsPlayed}
use Rattle.core_replay.specs.inner.Replaying.{Awaits, Takes}
use Rattle.core_replay.proofs.Coming.{arrived_shared, entered_takes, refused_takes, turn_there}
use Rattle.core_replay.proofs.Numbers as Numbers
use Rattle.core_replay.proofs.Numbers.{not_roomed, other_numbered}

-- ---- where it stands

-- an operation that is tried stands under an offer
pub record StandsUnder (o : Operation) (tried : Tried) : Type 0 where
  pub link : o.link ≡ tried.link
  pub under : o.progress ≡ Offered tried.number

pub stands_under : (o : Operation) (tried : Tried) → tried_in (Some o) ≡ Some tried → StandsUnder o tried
stands_under o tried e = by o.progress refl e
  where
    by : (p : Progress) → o.progress ≡ p → tried_as o.link p ≡ Some tried → StandsUnder o tried
    by Waiting is e = let no : None ≡ Some tried = e in absurd (cc)
    by (Offered number) is e =
        let same : (record { link = o.link; number = number }) ≡ tried = cc in
        record { link = ap (λ (x : Tried). x.link) same; under = is ∙ ap (λ (x : Tried). Offered x.number) same }
    by (Started number) is e = let no : None ≡ Some tried = e in absurd (cc)

-- the cancel that asks
record AsksNext (code : Parts) (bound : ℕ) (e : Entry) (m : Flat) (tried : Tried) : Type 0 where
  t : Item
  block : BlockId
  o : Operation
  link : o.link ≡ tried.link
  next : TriesNext code bound e m t block o tried.number

asks_next : (code : Parts) (bound : ℕ) (e : Entry) (m : Flat) (tried : Tried) → tried_of code (On m) ≡ Some tried → AsksNext code bound e m tried
asks_next code bound e m tried asks = by m.running refl asks
  where
    within : (t : Item) → m.running ≡ Some t → (level slot : ℕ) → slice_get code.instrs m.current.place ≡ Some (i.Cancel level slot) → (r : Option Operation)
        → find (is_to_try (is_inside m (block_in (cell_at m.store m.current.frame level slot)))) m.operations ≡ r → tried_in r ≡ Some tried → AsksNext code bound e m tried
    within t run level slot here None found h = let no : None ≡ Some tried = h in absurd (cc)
    within t run level slot here (Some o) found h =
        let under = stands_under o tried h in
        record {
          t = t;
          block = block_in (cell_at m.store m.current.frame level slot);
          o = o;
          link = under.link;
          next = record { level = level; slot = slot; running = run; here = here; block_is = refl; found = found; offered = under.under };
        }

    at : (t : Item) → m.running ≡ Some t → (r : Option Instr) → slice_get code.instrs m.current.place ≡ r → tried_within m (cancelled_by m r) ≡ Some tried → AsksNext code bound e m tried
    at t run (Some (i.Cancel level slot)) here h =
        within t run level slot here (find (is_to_try (is_inside m (block_in (cell_at m.store m.current.frame level slot)))) m.operations) refl h
    at t run r here h = let no : None ≡ Some tried = h in absurd (cc)

    by : (r : Option Item) → m.running ≡ r → tried_within m (cancelled_at code m r) ≡ Some tried → AsksNext code bound e m tried
    by None run h = let no : None ≡ Some tried = h in absurd (cc)
    by (Some t) run h = at t run (slice_get code.instrs m.current.place) refl h

-- ---- an entry that decides nothing of it

false_if : (b : Bool) → (b ≡ true → ⊥) → b ≡ false
false_if true h = absurd (h refl)
false_if false h = refl

pub nothing_decided : (link number : ℕ) (v : Event) → is_withdrawal link number v ≡ false → is_know_of link number v ≡ false → outcome link number v ≡ None
nothing_decided link number (event.Withdraw l n) w k = ap (λ (b : Bool). if b then Some NeverHappens else None) w
nothing_decided link number (event.Know l n) w k = ap (λ (b : Bool). if b then Some IsTaken else None) k
nothing_decided link number v w k = refl

module _ (before : Machine) (e : Entry) (a : Awaits before e.turn) (tried : Tried) (asks : tried_of before.code before.state ≡ Some tried) where
  next : AsksNext before.code before.bound e a.flat tried
  next = asks_next before.code before.bound e a.flat tried (subst (λ (s : Move Flat FlatEnd). tried_of before.code s ≡ Some tried) a.is asks)

  refuses : (if nat_eq e.turn a.flat.shared.turn then outcome tried.link tried.number e.event else None) ≡ None → HasRun before.code before.core before.bound (before.journal ++ e ∷ []) → ⊥
  refuses misfit =
      misfit_at_cancel before.code before.core before.bound before.journal e a.flat a.come a.le next.t next.block next.o tried.number next.next
      (ap (λ (link : ℕ). if nat_eq e.turn a.flat.shared.turn then outcome link tried.number e.event else None) next.link ∙ misfit)

  -- of another turn
  pub other_turn : (turn : ℕ) → IsOfTurn before turn → e.turn ≢ turn → Takes before e false before
  other_turn turn now differs =
      let off : nat_eq e.turn a.flat.shared.turn ≡ false =
      false_if (nat_eq e.turn a.flat.shared.turn) (λ h. differs (eqb-true e.turn a.flat.shared.turn h ∙ turn_there before turn a.flat now a.is)) in
      refused_takes before before e refl (refuses (ap (λ (b : Bool). if b then outcome tried.link tried.number e.event else None) off))

  -- or no outcome
  pub no_outcome : is_withdrawal tried.link tried.number e.event ≡ false → is_know_of tried.link tried.number e.event ≡ false → Takes before e false before
  no_outcome w k = refused_takes before before e refl (refuses (by (nat_eq e.turn a.flat.shared.turn)))
    where
      by : (b : Bool) → (if b then outcome tried.link tried.number e.event else None) ≡ None
      by true = nothing_decided tried.link tried.number e.event w k
      by false = refl

-- ---- its outcome

pub is_the_withdrawal : (link number : ℕ) (v : Event) → is_withdrawal link number v ≡ true → v ≡ event.Withdraw link number
is_the_withdrawal link number (event.Withdraw l n) h =
    let parts = and_parts (nat_eq l link) (nat_eq n number) h in
    ap (λ (k : ℕ). event.Withdraw k n) (eqb-true l link parts.0) ∙ ap (λ (k : ℕ). event.Withdraw link k) (eqb-true n number parts.1)
is_the_withdrawal link number v h = let no : false ≡ true = h in absurd (cc)

pub is_the_know : (link number : ℕ) (v : Event) → is_know_of link number v ≡ true → v ≡ event.Know link number
is_the_know link number (event.Know l n) h =
    let parts = and_parts (nat_eq l link) (nat_eq n number) h in
    ap (λ (k : ℕ). event.Know k n) (eqb-true l link parts.0) ∙ ap (λ (k : ℕ). event.Know link k) (eqb-true n number parts.1)
is_the_know link number v h = let no : false ≡ true = h in absurd (cc)

-- the machine, once room was made, and what has become of it
pub decided_takes : (before roomed : Machine) → IsSameCore before roomed → roomed.state ≡ before.state → (e : Entry) (turn : ℕ) → IsOfTurn before turn → e.turn ≡ turn
    → (after : Machine) (tried : Tried) (it : Fate) (v : Event) → e.event ≡ v → HasDecided roomed tried it v e.stamp after → Takes before e true after
decided_takes before roomed same state e turn now is_now after tried it v is d =
    let s = with_entry d.flat.shared (entry_of d.flat v e.stamp) [] in
    let x = by_outcome it d.flat.store (is_to_try (is_inside d.flat d.block)) d.flat.operations d.operation in
    entered_takes before roomed same state e (subst (IsOfTurn before) (sym is_now) now) after v d.flat (arrived (marked d.flat d.block) s x) is d.stood d.state
    (arrived_shared (marked d.flat d.block) s x) d.journal

module _ (roomed after : Machine) (o : Offers) (tried : Tried) (stamp : ℕ) (run : IsOnItsWay after) (p : IsPlayed roomed o) where
  -- it was taken
  pub taken_played : HasDecided roomed tried IsTaken (event.Know tried.link tried.number) stamp after → IsPlayed after o
  taken_played d =
      let v = event.Know tried.link tried.number in
      record {
        run = run;
        offers = subst (λ (es : List Entry). AreOffersOf es o) (sym d.journal) (others_stay roomed.journal o (entry_of d.flat v stamp) p.offers (λ l. refl) (λ l n. (refl, refl)));
        numbered = subst IsNumbered (sym d.journal)
            (other_numbered roomed.journal stamp d.flat.shared.turn p.numbered v (λ l. refl) (λ l n. refl) (λ l n g. let no : false ≡ true = g in absurd (cc)));
      }

  -- or withdrawn, and then its room was not given back before
  pub withdrawn_played : HasDecided roomed tried NeverHappens (event.Withdraw tried.link tried.number) stamp after → HasTracks roomed → (q : Offers) → q.counts ≡ o.counts
      → q.kept ≡ o.kept ++ (record { link = tried.link; number = tried.number }) ∷ [] → IsPlayed after q
  withdrawn_played d tracks q counts kept = record {
    run = run;
    offers = subst (λ (es : List Entry). AreOffersOf es q) (sym d.journal)
        (withdrawal_keeps roomed.journal o q tried.link tried.number (entry_of d.flat v stamp) p.offers (λ l. refl) (λ l n. (refl, refl)) free counts kept);
    numbered = subst IsNumbered (sym d.journal)
        (other_numbered roomed.journal stamp d.flat.shared.turn p.numbered v (λ l. refl) (λ l n. refl) (λ l n g. let no : false ≡ true = g in absurd (cc)));
  }
    where
      v : Event
      v = event.Withdraw tried.link tried.number

      under : StandsUnder d.operation tried
      under = stands_under d.operation tried d.offered

      own : Tracks (requests_of roomed) roomed.journal d.flat.operations
      own = subst (λ (s : Move Flat FlatEnd). Tracks (requests_of roomed) roomed.journal (operations_of s)) d.stood (tracks (ap has_ended d.stood))

      kept_still : Numbers.roomed tried.link tried.number roomed.journal ≡ false
      kept_still =
          not_roomed (requests_of roomed) roomed.journal d.flat.operations (is_to_try (is_inside d.flat d.block)) d.operation tried.link tried.number own p.numbered d.found under.link under.under

      free : (l n : ℕ) → (nat_eq tried.link l && nat_eq tried.number n) ≡ true → Numbers.roomed l n roomed.journal ≡ false
      free l n same =
          let parts = and_parts (nat_eq tried.link l) (nat_eq tried.number n) same in
          subst (λ (k : ℕ). Numbers.roomed l k roomed.journal ≡ false) (eqb-true tried.number n parts.1)
          (subst (λ (k : ℕ). Numbers.roomed k tried.number roomed.journal ≡ false) (eqb-true tried.link l parts.0) kept_still)
