-- Each entry of a core's journal is made at the core's own end of its link, where the code keeps to its ends. By induction on the moves of a run: an
-- entry comes in for an operation that has not ended, which is at an end of the core (`keeps_on`), and only what sends, reads or writes is offered;
-- room is given back for what the core has withdrawn before.
use Rattle.std.proofs.Common.{◌≡◌, ℕ, zero, suc, ◌+◌, ◌<◌, List, [], ◌∷◌, ◌++◌, length, Option, Some, None, Result}
use Rattle.std.proofs.Common.{Ok, Err, Bool, true, false, refl, sym, ap, ◌∙◌, subst, arith, append-nil, append_assoc, if◌then◌else◌}
use Rattle.std.specs.Prelude.{◌&&◌, ◌||◌, ◌-◌, ◌^◌, All, find, not, nat_eq, nat_lt, replicate, slice_get, slice_set}
use Rattle.std.specs.List.{list_any, AllByRecursion}
use Rattle.std.proofs.lemmas.Bool.{and_parts, eqb-true}
use Rattle.std.proofs.lemmas.List.{length-append}
use Rattle.std.proofs.lemmas.List.Elements.{All-nil, All-push}
use Rattle.std.proofs.lemmas.Option.{slice_get_past}
use Rattle.ac_base.specs.declared.ends.Trap.{Trap}
use Rattle.ac_base.specs.declared.ends.EndWord.TheVariants as word
use Rattle.ac_base.specs.declared.ends.CoreEnd.{CoreEnd}
use Rattle.ac_base.specs.declared.entry.Entry.{Entry}
use Rattle.ac_base.specs.declared.entry.Event.{Event}
use Rattle.ac_base.specs.declared.entry.Event.TheVariants as event
use Rattle.ac_base.specs.declared.entry.Payload.{Payload}
use Rattle.work_item.specs.declared.ids.Item.{Item}
use Rattle.work_item.specs.declared.ids.BlockId.{BlockId}
use Rattle.work_item.specs.declared.cell.Cell.{Cell}
use Rattle.work_item.specs.declared.cell.Cell.TheVariants as cell
use Rattle.work_item.specs.Store.{Store, cell_at, no_int, int_in, place_in}
use Rattle.cancel_scope.specs.declared.operation.Asked.{Asked}
use Rattle.cancel_scope.specs.declared.operation.Asked.TheVariants as asked
use Rattle.cancel_scope.specs.declared.operation.Progress.{Progress}
use Rattle.cancel_scope.specs.declared.operation.Progress.TheVariants as progress
use Rattle.cancel_scope.specs.declared.operation.Operation.{Operation}
use Rattle.cancel_scope.specs.Outstanding.{started, is_outgoing, is_waiting, is_under, is_to_offer, is_offered, is_to_receive}
use Rattle.cancel_scope.specs.Outstanding.{is_request, offered_as, past_offer, as_begun, change_first, without_first}
use Rattle.core_state.specs.Messages.{message_in}
use Rattle.core_state.specs.Moves.{Move, On, Over, moves, and_then}
use Rattle.core_state.specs.Frames.{block_in, begun as begun_store, first_store}
use Rattle.core_state.specs.Arrivals as arrivals
use Rattle.core_state.specs.Arrivals.{Arrival, at_point, comes_in, offers, offers_on, is_known, ends_received, passes_over, gives_room, keeps_room, is_answered}
use Rattle.core_state.specs.Cancelling.{Fate, NeverHappens, IsTaken, by_outcome, tried, tries, is_to_try, goes_by, decided, outcome}
use Rattle.core_state.specs.Requests.{bytes_at, if_in_range}
use Rattle.core_state.specs.Shared.{Shared, with_turn, with_entry, seen, begins_with}
use Rattle.stack_code.specs.declared.instr.Instr.{Instr}
use Rattle.stack_code.specs.declared.instr.Instr.TheVariants as i
use Rattle.stack_code.specs.declared.parts.ChannelEnds.{ChannelEnds}
use Rattle.stack_code.specs.Parts.{Parts}
use Rattle.stack_code.specs.Valid.{IsValid}
use Rattle.stack_code.specs.Kept.{IsRanked}
use Rattle.code_meaning.specs.Machine as flat
use Rattle.code_meaning.specs.Machine.{Flat, FlatEnd, nobody, arrived, resumed, begin, exec, exec_of, dispatched, told}
use Rattle.code_meaning.specs.Machine.{asks, operates, requests, on_top, on_three, first_flat, first_core, first_globals, shared_at_first, thread_at}
use Rattle.code_safety.specs.KeptEnds.{KeepsEnds, IsAtEnd, AreAtEnds, KeepsOwnEnds}
use Rattle.code_safety.proofs.Alike.{Alike, begin_alike, more_to_come}
use Rattle.code_safety.proofs.Arriving.{Comes, offered, known, begun, answered, received, passed, comes_of}
use Rattle.code_safety.proofs.NoEntries.{Leaves, begin_leaves}
use Rattle.code_safety.proofs.OwnEnds.{keeps_on, keeps_first}
use Rattle.code_safety.proofs.Plain.{Onward, asks_on, trap_on}
use Rattle.code_safety.proofs.Waiting.{IsFound, found_at, all_others, one_of_all, all_between}
use Rattle.replay_laws.specs.Given.{HasRun}
use Rattle.replay_laws.proofs.Turns.{Keeps, stays, takes, over, exec_keeps}
use Rattle.ac_links.specs.Link.{link_of}
use Rattle.program_run.specs.Parties.{owner_of, peer_of, owner_at, peer_at}
use Rattle.ac_causal.proofs.Alike.{is_owners, is_peers}

no_true : {A : Type 0} → false ≡ true → A
no_true h = absurd (cc)

-- the event is made at the core's end of its link
pub record IsOwn (code : Parts) (core : ℕ) (e : Event) : Type 0 where
  pub owns : is_owners e ≡ true → owner_of code.ends (link_of e) ≡ core
  pub decides : is_peers e ≡ true → peer_of code.ends (length code.entries) (link_of e) ≡ core

-- ---- operations

-- what has gone to its peer sends, reads or writes
record IsSound (o : Operation) : Type 0 where
  goes_out : is_waiting o.progress ≡ false → is_outgoing o.asked ≡ true

abbrev AreSound : List Operation → Type 0
AreSound os = All IsSound os

begun_sound : (o : Operation) → IsSound o → IsSound (as_begun o)
begun_sound o h = record { goes_out = by o.progress h.goes_out }
  where
    by : (p : Progress) → (is_waiting p ≡ false → is_outgoing o.asked ≡ true) → is_waiting (past_offer p) ≡ false → is_outgoing o.asked ≡ true
    by progress.Waiting h g = h g
    by (progress.Offered number) h g = h refl
    by (progress.Started number) h g = h refl

offered_sound : (number : ℕ) (o : Operation) → (is_outgoing o.asked && is_waiting o.progress) ≡ true → IsSound (offered_as number o)
offered_sound number o h = record { goes_out = λ g. (and_parts (is_outgoing o.asked) (is_waiting o.progress) h).0 }

started_sound : (link : ℕ) (a : Asked) (t : Item) → IsSound (started link a t)
started_sound link a t = record { goes_out = λ g. no_true (sym g) }

-- every operation that has not ended is at an end of the core
module _ (code : Parts) (core : ℕ) where
  own_link : (link : ℕ) → link ≡ length code.ends + core → owner_of code.ends link ≡ core
  own_link link h =
      let own : link - length code.ends ≡ core = omega (arith, h) in
      ap (λ (q : Option ChannelEnds). owner_at (length code.ends) link q) (slice_get_past code.ends link (omega (arith, h))) ∙ own

  owner_is : (link : ℕ) (a : Asked) → IsAtEnd code core link a → is_outgoing a ≡ true → owner_of code.ends link ≡ core
  owner_is link (asked.Send value) h out = ap (λ (q : Option ChannelEnds). owner_at (length code.ends) link q) h.there ∙ h.from
  owner_is link (asked.Recv place) h out = no_true out
  owner_is link (asked.Read file from into) h out = own_link link h
  owner_is link (asked.Write file from bytes) h out = own_link link h

  peer_is : (link : ℕ) (a : Asked) → IsAtEnd code core link a → not (is_outgoing a) ≡ true → peer_of code.ends (length code.entries) link ≡ core
  peer_is link (asked.Send value) h into = no_true into
  peer_is link (asked.Recv place) h into = ap (λ (q : Option ChannelEnds). peer_at (length code.entries) q) h.there ∙ h.to
  peer_is link (asked.Read file from into) h in_ = no_true in_
  peer_is link (asked.Write file from bytes) h in_ = no_true in_

  abbrev At : Operation → Type 0
  At o = IsAtEnd code core o.link o.asked

  module _ (test : Operation → Bool) (os : List Operation) (o : Operation) (found : find test os ≡ Some o) where
    f : IsFound test os o
    f = found_at test os o found

    at_end : All At os → At o
    at_end h = one_of_all At f.back o f.front (subst (All At) f.is h)

    sound : AreSound os → IsSound o
    sound h = one_of_all IsSound f.back o f.front (subst AreSound f.is h)

  under_not_waiting : (number : ℕ) (p : Progress) → is_under number p ≡ true → is_waiting p ≡ false
  under_not_waiting number progress.Waiting h = no_true h
  under_not_waiting number (progress.Offered n) h = refl
  under_not_waiting number (progress.Started n) h = refl

  -- ---- an entry that comes in

  module _ (store : Store) (os : List Operation) (past : List Entry) (at : All At os) (sounds : AreSound os) (own : AllByRecursion (λ (e : Entry). IsOwn code core e.event) past) where
    withdrawn_own : (link number : ℕ) (es : List Entry) → AllByRecursion (λ (e : Entry). IsOwn code core e.event) es
        → list_any (λ (e : Entry). arrivals.is_withdrawal link number e.event) es ≡ true → owner_of code.ends link ≡ core
    withdrawn_own link number [] all h = no_true h
    withdrawn_own link number (e ∷ es) all h = by e.event (arrivals.is_withdrawal link number e.event) refl all.0 (λ g. withdrawn_own link number es all.1 g) h
      where
        by : (v : Event) (b : Bool) → arrivals.is_withdrawal link number v ≡ b → IsOwn code core v
            → (list_any (λ (x : Entry). arrivals.is_withdrawal link number x.event) es ≡ true → owner_of code.ends link ≡ core)
            → (b || list_any (λ (x : Entry). arrivals.is_withdrawal link number x.event) es) ≡ true → owner_of code.ends link ≡ core
        by v false is o again g = again g
        by (event.Withdraw l n) true is o again g =
            subst (λ x. owner_of code.ends x ≡ core) (eqb-true l link (and_parts (nat_eq l link) (nat_eq n number) is).0) (o.owns refl)
        by _ true is o again g = no_true is

    offered_own : (link number : ℕ) (payload : Payload) (q : Option Operation) (x : Arrival) → find (is_to_offer link) os ≡ q → offers store os link number payload q ≡ Some x
        → owner_of code.ends link ≡ core
    offered_own link number payload None x is h = let no : None ≡ Some x = h in absurd (cc)
    offered_own link number payload (Some o) x is h =
        let g = found_at (is_to_offer link) os o is in
        let p = and_parts (nat_eq o.link link) (is_outgoing o.asked && is_waiting o.progress) g.passes in
        let out = (and_parts (is_outgoing o.asked) (is_waiting o.progress) p.1).0 in
        subst (λ l. owner_of code.ends l ≡ core) (eqb-true o.link link p.0) (owner_is o.link o.asked (at_end (is_to_offer link) os o is at) out)

    known_own : (link number : ℕ) (q : Option Operation) (x : Arrival) → find (is_offered link number) os ≡ q → is_known store os link number q ≡ Some x → owner_of code.ends link ≡ core
    known_own link number None x is h = let no : None ≡ Some x = h in absurd (cc)
    known_own link number (Some o) x is h =
        let g = found_at (is_offered link number) os o is in
        let p = and_parts (nat_eq o.link link) (is_under number o.progress) g.passes in
        let out = (sound (is_offered link number) os o is sounds).goes_out (under_not_waiting number o.progress p.1) in
        subst (λ l. owner_of code.ends l ≡ core) (eqb-true o.link link p.0) (owner_is o.link o.asked (at_end (is_offered link number) os o is at) out)

    received_own : (link : ℕ) (q : Option Operation) → find (is_to_receive link) os ≡ q → (q ≡ None → ⊥) → peer_of code.ends (length code.entries) link ≡ core
    received_own link None is some = absurd (some refl)
    received_own link (Some o) is some =
        let g = found_at (is_to_receive link) os o is in
        let p = and_parts (nat_eq o.link link) (not (is_outgoing o.asked)) g.passes in
        subst (λ l. peer_of code.ends (length code.entries) l ≡ core) (eqb-true o.link link p.0) (peer_is o.link o.asked (at_end (is_to_receive link) os o is at) p.1)

    comes_own : (v : Event) (x : Arrival) → arrivals.arrives past store os v ≡ Some x → IsOwn code core v
    comes_own (event.Offer link number payload) x h = record { owns = λ g. by (nat_eq number (offers_on link past)) h; decides = λ g. no_true g }
      where
        by : (b : Bool) → (if b then offers store os link number payload (find (is_to_offer link) os) else None) ≡ Some x → owner_of code.ends link ≡ core
        by true k = offered_own link number payload (find (is_to_offer link) os) x refl k
        by false k = let no : None ≡ Some x = k in absurd (cc)
    comes_own (event.Know link number) x h = record { owns = λ g. known_own link number (find (is_offered link number) os) x refl h; decides = λ g. no_true g }
    comes_own (event.Got link number value) x h = record { owns = λ g. no_true g; decides = λ g. received_own link (find (is_to_receive link) os) refl some }
      where
        some : find (is_to_receive link) os ≡ None → ⊥
        some none = let no : None ≡ Some x = sym (ap (λ q. ends_received store os link value q) none) ∙ h in cc
    comes_own (event.Pass link number) x h = record { owns = λ g. no_true g; decides = λ g. received_own link (find (is_to_receive link) os) refl some }
      where
        some : find (is_to_receive link) os ≡ None → ⊥
        some none = let no : None ≡ Some x = sym (ap (λ q. passes_over store os q) none) ∙ h in cc
    comes_own (event.Room link number) x h = record { owns = λ g. by (keeps_room link number past) refl h; decides = λ g. no_true g }
      where
        by : (b : Bool) → keeps_room link number past ≡ b → gives_room store os b ≡ Some x → owner_of code.ends link ≡ core
        by true keeps k =
            withdrawn_own link number past own
            (and_parts (list_any (λ (e : Entry). arrivals.is_withdrawal link number e.event) past) (not (list_any (λ (e : Entry). arrivals.is_room link number e.event) past)) keeps).0
        by false keeps k = let no : None ≡ Some x = k in absurd (cc)
    comes_own (event.Reply link number answer) x h = record { owns = λ g. no_true g; decides = λ g. no_true g }
    comes_own (event.Withdraw link number) x h = let no : None ≡ Some x = h in absurd (cc)
    comes_own (event.Did link number answer) x h = let no : None ≡ Some x = h in absurd (cc)

    -- the outcome of an offer that a cancel tries
    outcome_own : (test : Operation → Bool) (o : Operation) → find test os ≡ Some o → (number : ℕ) → o.progress ≡ progress.Offered number → (v : Event) (it : Fate)
        → outcome o.link number v ≡ Some it → IsOwn code core v
    outcome_own test o is number stands v it h = by v h
      where
        mine : owner_of code.ends o.link ≡ core
        mine = owner_is o.link o.asked (at_end test os o is at) ((sound test os o is sounds).goes_out (ap is_waiting stands))

        tells : (l n : ℕ) (fate : Fate) (b : Bool) → (nat_eq l o.link && nat_eq n number) ≡ b → (if b then Some fate else None) ≡ Some it → owner_of code.ends l ≡ core
        tells l n fate true same k = subst (λ x. owner_of code.ends x ≡ core) (sym (eqb-true l o.link (and_parts (nat_eq l o.link) (nat_eq n number) same).0)) mine
        tells l n fate false same k = let no : None ≡ Some it = k in absurd (cc)

        by : (v : Event) → outcome o.link number v ≡ Some it → IsOwn code core v
        by (event.Withdraw l n) k = record { owns = λ g. tells l n NeverHappens (nat_eq l o.link && nat_eq n number) refl k; decides = λ g. no_true g }
        by (event.Know l n) k = record { owns = λ g. tells l n IsTaken (nat_eq l o.link && nat_eq n number) refl k; decides = λ g. no_true g }
        by _ k = let no : None ≡ Some it = k in absurd (cc)

-- ---- a move leaves operations sound

module _ (code : Parts) (bound : ℕ) (m : Flat) (s : AreSound m.operations) where
  abbrev Ended : Flat → Type 0
  Ended n = AreSound n.operations

  starts : (t : Item) (link : ℕ) (a : Asked) (below : List Cell) → Onward Ended (asks m t link a below)
  starts t link a below = asks_on Ended m t link a below s (All-push IsSound m.operations (started link a t) s (started_sound link a t))

  topped : (go : Cell → List Cell → Move Flat FlatEnd) (operands : List Cell) → ((x : Cell) (below : List Cell) → Onward Ended (go x below)) → Onward Ended (on_top m go operands)
  topped go [] h = s
  topped go (x ∷ below) h = h x below

  three_topped : (go : Cell → Cell → Cell → List Cell → Move Flat FlatEnd) (operands : List Cell) → ((x y z : Cell) (below : List Cell) → Onward Ended (go x y z below))
      → Onward Ended (on_three m go operands)
  three_topped go [] h = s
  three_topped go (x ∷ []) h = s
  three_topped go (y ∷ x ∷ []) h = s
  three_topped go (z ∷ y ∷ x ∷ below) h = h x y z below

  requested : (t : Item) (r : Result Asked Trap) (below : List Cell) → Onward Ended (requests m t r below)
  requested t r below = trap_on Ended m r (λ a. asks m t m.shared.requests a below) (λ a e. starts t m.shared.requests a below)

  left : (x : Move Flat FlatEnd) → Leaves m x → Onward Ended x
  left (On n) l = subst AreSound (sym l.0) s
  left (Over e) l = tt

  woken : (x : Arrival) (n : Flat) (o : Option Item) → n.operations ≡ x.operations → AreSound x.operations → Ended (resumed n (cell.Int x.value) o)
  woken x n None e h = subst AreSound (sym e) h
  woken x n (Some t) e h = subst AreSound (sym e) h

  module _ (block : BlockId) where
    abbrev inside : Operation → Bool
    inside = is_to_try (flat.is_inside m block)

    abbrev made : Fate → Operation → Arrival
    made it o = by_outcome it m.store inside m.operations o

    made_sound : (o : Operation) → find inside m.operations ≡ Some o → (it : Fate) → AreSound (made it o).operations
    made_sound o e it = by it
      where
        g : IsFound inside m.operations o
        g = found_at inside m.operations o e

        all : All IsSound (g.front ++ o ∷ g.back)
        all = subst AreSound g.is s

        others : All IsSound (g.front ++ g.back)
        others = all_others IsSound g.back o g.front all

        taken : (b : Bool) → AreSound
            (if b then arrivals.goes_on_waiting m.store (change_first inside as_begun m.operations) else arrivals.has_ended m.store (without_first inside m.operations) o).operations
        taken true = subst AreSound (sym (g.changed as_begun)) (all_between IsSound g.back (as_begun o) g.front others (begun_sound o (one_of_all IsSound g.back o g.front all)))
        taken false = subst AreSound (sym g.without) others

        by : (it : Fate) → AreSound (made it o).operations
        by NeverHappens = subst AreSound (sym g.without) others
        by IsTaken = taken (is_request o.asked)

    tried_so : (o : Operation) → find inside m.operations ≡ Some o → (shared : Shared) (it : Fate) → Ended (arrived (flat.marked m block) shared (made it o))
    tried_so o e shared it =
        let x = made it o in
        woken x (record (flat.marked m block) { shared = shared; store = x.store; operations = x.operations }) x.woken refl (made_sound o e it)

    decided_so : (o : Operation) → find inside m.operations ≡ Some o → (number : ℕ) (todo : List Entry) → Onward Ended
        (decided (told (flat.counted m.count)) m.shared m.store.globals m.operations o.link number (λ shared it. On (arrived (flat.marked m block) shared (made it o))) todo)
    decided_so o e number [] = tt
    decided_so o e number (y ∷ ys) = go (nat_eq y.turn m.shared.turn) (outcome o.link number y.event)
      where
        by : (r : Option Fate) → Onward Ended (goes_by (told (flat.counted m.count)) (λ it. On (arrived (flat.marked m block) (with_entry m.shared y ys) (made it o))) r)
        by None = tt
        by (Some it) = tried_so o e (with_entry m.shared y ys) it

        go : (b : Bool) (r : Option Fate) → Onward Ended
            (if b then goes_by (told (flat.counted m.count)) (λ it. On (arrived (flat.marked m block) (with_entry m.shared y ys) (made it o))) r
            else Over (told (flat.counted m.count) None))
        go true r = by r
        go false r = tt

    tried_at : (o : Operation) → find inside m.operations ≡ Some o → (p : Progress) → Onward Ended
        (tried (told (flat.counted m.count)) m.shared m.store.globals m.operations o.link p (λ shared it. On (arrived (flat.marked m block) shared (made it o))))
    tried_at o e progress.Waiting = tried_so o e m.shared NeverHappens
    tried_at o e (progress.Offered number) = decided_so o e number m.shared.todo
    tried_at o e (progress.Started number) = tt

    called_off : Onward Ended (flat.calls_off m block)
    called_off = go (find inside m.operations) refl
      where
        go : (r : Option Operation) → find inside m.operations ≡ r → Onward Ended
            (tries (told (flat.counted m.count)) m.shared m.store m.operations inside (λ shared x. On (arrived (flat.marked m block) shared x))
            (flat.goes (flat.marked m block) m.current.operands) r)
        go None e = s
        go (Some o) e = tried_at o e o.progress

  begins_with_sound : (t : Item) (o : Option Instr) → Onward Ended (begin code bound m t o)
  begins_with_sound t None = s
  begins_with_sound t (Some (i.Send channel)) = topped _ m.current.operands (λ x below. starts t channel (asked.Send (message_in m.store x)) below)
  begins_with_sound t (Some (i.Recv channel)) = topped _ m.current.operands (λ x below. starts t channel (asked.Recv (place_in x)) below)
  begins_with_sound t (Some (i.Cancel level slot)) = called_off (block_in (cell_at m.store m.current.frame level slot))
  begins_with_sound t (Some (i.Read file)) =
      three_topped _ m.current.operands (λ x y z below. requested t (if_in_range (place_in z) (int_in x) (int_in y) (λ from elements. asked.Read file from elements)) below)
  begins_with_sound t (Some (i.Write file)) =
      three_topped _ m.current.operands
      (λ x y z below. requested t (if_in_range (place_in z) (int_in x) (int_in y) (λ from elements. asked.Write file from (bytes_at m.store elements))) below)
  begins_with_sound t (Some instr) = left (begin code bound m t (Some instr)) (begin_leaves m code bound t instr refl)

  after : (x : Arrival) → Comes m.store m.operations x → AreSound x.operations
  after _ (offered front back o number is waits) =
      let all = subst AreSound is s in all_between IsSound back _ front (all_others IsSound back o front all) (offered_sound number o waits)
  after _ (known front back o is other) = all_others IsSound back o front (subst AreSound is s)
  after _ (begun front back o number is request offer) =
      let all = subst AreSound is s in all_between IsSound back _ front (all_others IsSound back o front all) (begun_sound o (one_of_all IsSound back o front all))
  after _ (answered front back o answer is) = all_others IsSound back o front (subst AreSound is s)
  after _ (received front back o place value is asks) = all_others IsSound back o front (subst AreSound is s)
  after _ passed = s

  dispatches : (ready : List Item) → Onward Ended (dispatched m ready)
  dispatches [] = tt
  dispatches (t ∷ ready) = go (nat_lt m.shared.turn (2 ^ 64 - 1)) (told m.count (seen word.OutOfSteps false m.store.globals m.operations m.shared))
    where
      go : (b : Bool) (end : FlatEnd)
          → Onward Ended (if b then On
          (record m { shared = with_turn m.shared; running = Some t; current = thread_at m.threads t; ready = ready; threads = slice_set m.threads t.number nobody }) else Over end)
      go true end = s
      go false end = tt

  enters : (e : Entry) (es : List Entry) (o : Option Arrival) → arrivals.arrives m.shared.past m.store m.operations e.event ≡ o
      → Onward Ended (comes_in (told m.count) (λ x. On (arrived m (with_entry m.shared e es) x)) o)
  enters e es None k = tt
  enters e es (Some x) k =
      woken x (record m { shared = with_entry m.shared e es; store = x.store; operations = x.operations }) x.woken refl (after x (comes_of m.store m.operations x m.shared.past e.event k))

  at_rest : (todo : List Entry) → Onward Ended (at_point (told m.count) m.shared m.store m.operations (λ shared x. On (arrived m shared x)) (dispatched m m.ready) todo)
  at_rest [] = dispatches m.ready
  at_rest (e ∷ es) = go (nat_eq e.turn m.shared.turn)
    where
      go : (b : Bool) → Onward Ended
          (if b
          then comes_in (told m.count) (λ x. On (arrived m (with_entry m.shared e es) x)) (arrivals.arrives m.shared.past m.store m.operations e.event)
          else dispatched m m.ready)
      go true = enters e es (arrivals.arrives m.shared.past m.store m.operations e.event) refl
      go false = dispatches m.ready

  stays_sound : Onward Ended (exec code bound m)
  stays_sound = go m.running
    where
      go : (o : Option Item) → Onward Ended (exec_of code bound m o)
      go None = at_rest m.shared.todo
      go (Some t) = begins_with_sound t (slice_get code.instrs m.current.place)

-- ---- an entry that a move takes is the core's own

none_more : {A : Type 0} (xs : List Entry) (e : Entry) → xs ≡ xs ++ e ∷ [] → A
none_more xs e h = absurd (let long = length-append xs (e ∷ []) in let same = ap length h in omega (arith, long, same))

one_last : (xs : List Entry) (a b : Entry) → xs ++ a ∷ [] ≡ xs ++ b ∷ [] → a ≡ b
one_last [] a b h = cc
one_last (x ∷ xs) a b h = one_last xs a b (let g : x ∷ (xs ++ a ∷ []) ≡ x ∷ (xs ++ b ∷ []) = h in cc)

-- if an entry more has come in at the second state, it is the core's own
abbrev Took : Parts → ℕ → Flat → Flat → Type 0
Took code core m n = (e : Entry) → n.shared.past ≡ m.shared.past ++ e ∷ [] → IsOwn code core e.event

module _ (code : Parts) (core bound : ℕ) (m : Flat) (at : AreAtEnds code core m.operations) (sounds : AreSound m.operations)
    (own : AllByRecursion (λ (e : Entry). IsOwn code core e.event) m.shared.past) where
  its_own : (y e : Entry) → IsOwn code core y.event → m.shared.past ++ y ∷ [] ≡ m.shared.past ++ e ∷ [] → IsOwn code core e.event
  its_own y e h g = subst (λ (x : Entry). IsOwn code core x.event) (one_last m.shared.past y e g) h

  came : (n : Flat) (x : Arrival) (y : Entry) (ys : List Entry) → IsOwn code core y.event → Took code core m (arrived n (with_entry m.shared y ys) x)
  came n x y ys h = by x.woken
    where
      by : (o : Option Item) → Took code core m (resumed (record n { shared = with_entry m.shared y ys; store = x.store; operations = x.operations }) (cell.Int x.value) o)
      by None = λ e g. its_own y e h g
      by (Some t) = λ e g. its_own y e h g

  went : (n : Flat) (x : Arrival) → Took code core m (arrived n m.shared x)
  went n x = by x.woken
    where
      by : (o : Option Item) → Took code core m (resumed (record n { shared = m.shared; store = x.store; operations = x.operations }) (cell.Int x.value) o)
      by None = λ e g. none_more m.shared.past e g
      by (Some t) = λ e g. none_more m.shared.past e g

  dispatched_takes : (ready : List Item) → Onward (Took code core m) (dispatched m ready)
  dispatched_takes [] = tt
  dispatched_takes (t ∷ ready) = go (nat_lt m.shared.turn (2 ^ 64 - 1)) (told m.count (seen word.OutOfSteps false m.store.globals m.operations m.shared))
    where
      go : (b : Bool) (end : FlatEnd)
          → Onward (Took code core m) (if b then On
          (record m { shared = with_turn m.shared; running = Some t; current = thread_at m.threads t; ready = ready; threads = slice_set m.threads t.number nobody }) else Over end)
      go true end = (λ e g. none_more m.shared.past e g)
      go false end = tt

  rest_takes : (todo : List Entry) → Onward (Took code core m) (at_point (told m.count) m.shared m.store m.operations (λ shared x. On (arrived m shared x)) (dispatched m m.ready) todo)
  rest_takes [] = dispatched_takes m.ready
  rest_takes (y ∷ ys) = go (nat_eq y.turn m.shared.turn)
    where
      enters : (o : Option Arrival) → arrivals.arrives m.shared.past m.store m.operations y.event ≡ o
          → Onward (Took code core m) (comes_in (told m.count) (λ x. On (arrived m (with_entry m.shared y ys) x)) o)
      enters None k = tt
      enters (Some x) k = came m x y ys (comes_own code core m.store m.operations m.shared.past at sounds own y.event x k)

      go : (b : Bool) → Onward (Took code core m)
          (if b
          then comes_in (told m.count) (λ x. On (arrived m (with_entry m.shared y ys) x)) (arrivals.arrives m.shared.past m.store m.operations y.event)
          else dispatched m m.ready)
      go true = enters (arrivals.arrives m.shared.past m.store m.operations y.event) refl
      go false = dispatched_takes m.ready

  module _ (block : BlockId) where
    abbrev within : Operation → Bool
    within = is_to_try (flat.is_inside m block)

    abbrev made_of : Fate → Operation → Arrival
    made_of it o = by_outcome it m.store within m.operations o

    decided_takes : (o : Operation) → find within m.operations ≡ Some o → (number : ℕ) → o.progress ≡ progress.Offered number → (todo : List Entry) → Onward (Took code core m)
        (decided (told (flat.counted m.count)) m.shared m.store.globals m.operations o.link number (λ shared it. On (arrived (flat.marked m block) shared (made_of it o))) todo)
    decided_takes o is number stands [] = tt
    decided_takes o is number stands (y ∷ ys) = go (nat_eq y.turn m.shared.turn)
      where
        by : (r : Option Fate) → outcome o.link number y.event ≡ r
            → Onward (Took code core m) (goes_by (told (flat.counted m.count)) (λ it. On (arrived (flat.marked m block) (with_entry m.shared y ys) (made_of it o))) r)
        by None k = tt
        by (Some it) k =
            came (flat.marked m block) (made_of it o) y ys (outcome_own code core m.store m.operations m.shared.past at sounds own within o is number stands y.event it k)

        go : (b : Bool) → Onward (Took code core m)
            (if b then goes_by (told (flat.counted m.count)) (λ it. On (arrived (flat.marked m block) (with_entry m.shared y ys) (made_of it o))) (outcome o.link number y.event)
            else Over (told (flat.counted m.count) None))
        go true = by (outcome o.link number y.event) refl
        go false = tt

    tried_takes : (o : Operation) → find within m.operations ≡ Some o → (p : Progress) → o.progress ≡ p → Onward (Took code core m)
        (tried (told (flat.counted m.count)) m.shared m.store.globals m.operations o.link p (λ shared it. On (arrived (flat.marked m block) shared (made_of it o))))
    tried_takes o is progress.Waiting stands = went (flat.marked m block) (made_of NeverHappens o)
    tried_takes o is (progress.Offered number) stands = decided_takes o is number stands m.shared.todo
    tried_takes o is (progress.Started number) stands = tt

    cancel_takes : Onward (Took code core m) (flat.calls_off m block)
    cancel_takes = go (find within m.operations) refl
      where
        go : (r : Option Operation) → find within m.operations ≡ r → Onward (Took code core m)
            (tries (told (flat.counted m.count)) m.shared m.store m.operations within (λ shared x. On (arrived (flat.marked m block) shared x))
            (flat.goes (flat.marked m block) m.current.operands) r)
        go None e = (λ e g. none_more m.shared.past e g)
        go (Some o) e = tried_takes o e o.progress refl

  plain_takes : (any : Entry) (a r : Move Flat FlatEnd) → Alike any m a r → Onward (Took code core m) a
  plain_takes any (On n) r al = λ e g. none_more m.shared.past e (sym al.1.past ∙ g)
  plain_takes any (Over x) r al = tt

  begin_takes : (any : Entry) (t : Item) (o : Option Instr) → Onward (Took code core m) (begin code bound m t o)
  begin_takes any t (Some (i.Cancel level slot)) = cancel_takes (block_in (cell_at m.store m.current.frame level slot))
  begin_takes any t o = plain_takes any (begin code bound m t o) (begin code bound (more_to_come any m) t o) (begin_alike any m code bound t o refl)

  exec_takes : Entry → Onward (Took code core m) (exec code bound m)
  exec_takes any = go m.running
    where
      go : (o : Option Item) → Onward (Took code core m) (exec_of code bound m o)
      go None = rest_takes m.shared.todo
      go (Some t) = begin_takes any t (slice_get code.instrs m.current.place)

-- ---- a run

abbrev pub AllOwn : Parts → ℕ → List Entry → Type 0
AllOwn code core es = AllByRecursion (λ (e : Entry). IsOwn code core e.event) es

own_more : (code : Parts) (core : ℕ) (es : List Entry) (e : Entry) → AllOwn code core es → IsOwn code core e.event → AllOwn code core (es ++ e ∷ [])
own_more code core [] e all h = (h, tt)
own_more code core (x ∷ es) e all h = (all.0, own_more code core es e all.1 h)

record Standing (code : Parts) (core : ℕ) (journal : List Entry) (m : Flat) : Type 0 where
  whole : m.shared.past ++ m.shared.todo ≡ journal
  own : AllOwn code core m.shared.past
  sounds : AreSound m.operations
  ends : KeepsOwnEnds code core m

on_over : (n : Flat) (x : FlatEnd) → On n ≡ Over x → ⊥
on_over n x h = cc

abbrev end_of : FlatEnd → Move Flat FlatEnd
end_of x = Over x

over_same : (x y : FlatEnd) → end_of x ≡ end_of y → x ≡ y
over_same x y h = cc

some_none : {A : Type 0} {B : Type 0} (x : A) → Some x ≡ None → B
some_none x h = cc

module _ (code : Parts) (v : IsValid code) (keeps : KeepsEnds code) (ranks : List ℕ) (ranked : IsRanked code ranks) (core bound : ℕ) (lt : core < length code.entries)
    (journal : List Entry) (any : Entry) where
  stands_on : (m n : Flat) → Standing code core journal m → Keeps m (On n) → AreSound n.operations → Took code core m n → KeepsOwnEnds code core n → Standing code core journal n
  stands_on m n st (stays past todo turn) sounds took ends = record {
    whole = ap (λ (es : List Entry). es ++ n.shared.todo) past ∙ (ap (λ (es : List Entry). m.shared.past ++ es) todo ∙ st.whole);
    own = subst (AllOwn code core) (sym past) st.own;
    sounds = sounds;
    ends = ends;
  }
  stands_on m n st (takes e es is now past todo turn) sounds took ends = record {
    whole = ap (λ (fs : List Entry). fs ++ n.shared.todo) past
        ∙ (ap (λ (fs : List Entry). (m.shared.past ++ e ∷ []) ++ fs) todo
        ∙ (append_assoc m.shared.past (e ∷ []) es ∙ (ap (λ (fs : List Entry). m.shared.past ++ fs) (sym is) ∙ st.whole)));
    own = subst (AllOwn code core) (sym past) (own_more code core m.shared.past e st.own (took e past));
    sounds = sounds;
    ends = ends;
  }

  ends_own : (m : Flat) (x : FlatEnd) → Standing code core journal m → Keeps m (Over x) → (end : CoreEnd) → x.core ≡ Some end → AllOwn code core journal
  ends_own m x st (over hides) end is = by m.shared.todo refl
    where
      by : (todo : List Entry) → m.shared.todo ≡ todo → AllOwn code core journal
      by [] none =
          subst (AllOwn code core) (sym (append-nil m.shared.past) ∙ (ap (λ (es : List Entry). m.shared.past ++ es) (sym none) ∙ st.whole)) st.own
      by (e ∷ es) some = some_none end (sym is ∙ hides e es some)

  run_own : (k : ℕ) (m : Flat) (x : FlatEnd) → Standing code core journal m → moves (exec code bound) k m ≡ Over x → (end : CoreEnd) → x.core ≡ Some end
      → AllOwn code core journal
  run_own zero m x st h end is = absurd (on_over m x h)
  run_own (suc k) m x st h end is =
      by (exec code bound m) (exec_keeps code bound m any) (stays_sound code bound m st.sounds) (exec_takes code core bound m st.ends.operations st.sounds st.own any)
      (keeps_on code keeps core bound lt m st.ends v ranks ranked) h (λ n q g. run_own k n x q g end is)
    where
      by : (a : Move Flat FlatEnd) → Keeps m a → Onward (λ n. AreSound n.operations) a → Onward (Took code core m) a → Onward (KeepsOwnEnds code core) a
          → and_then a (moves (exec code bound) k) ≡ Over x
          → ((n : Flat) → Standing code core journal n → moves (exec code bound) k n ≡ Over x → AllOwn code core journal) → AllOwn code core journal
      by (On n) k sounds took ends g again = again n (stands_on m n st k sounds took ends) g
      by (Over z) k sounds took ends g again = ends_own m z st k end (ap (λ (y : FlatEnd). y.core) (over_same z x g) ∙ is)

-- the entries of a journal that has a run are the core's own
pub own_entries : (code : Parts) → IsValid code → KeepsEnds code → (ranks : List ℕ) → IsRanked code ranks → (core bound : ℕ) → core < length code.entries → (journal : List Entry)
    → HasRun code core bound journal → AllOwn code core journal
own_entries code v keeps ranks ranked core bound lt [] r = tt
own_entries code v keeps ranks ranked core bound lt (e ∷ es) r =
    from (begun_store (first_store (first_globals code)) None (replicate r.runs.function.words no_int)) (keeps_first code v keeps core r.runs.function r.runs.begins (e ∷ es)) r.runs.comes.1
  where
    from : (b : Result Store Trap) → Onward (KeepsOwnEnds code core) (begins_with (told 0) (first_globals code) (shared_at_first code core (e ∷ es)) b (λ store. On (first_core r.runs.function
        (shared_at_first code core (e ∷ es)) store)))
        → Over (record { core = Some r.end; count = r.count }) ≡ and_then (begins_with (told 0) (first_globals code) (shared_at_first code core (e ∷ es)) b (λ store. On (first_core r.runs.function
        (shared_at_first code core (e ∷ es)) store))) (moves (exec code bound) r.runs.comes.0) → AllOwn code core (e ∷ es)
    from (Ok store) ends h =
        run_own code v keeps ranks ranked core bound lt (e ∷ es) e r.runs.comes.0 (first_core r.runs.function (shared_at_first code core (e ∷ es)) store)
        (record { core = Some r.end; count = r.count })
        (record { whole = refl; own = tt; sounds = All-nil IsSound; ends = ends }) (sym h) r.end refl
    from (Err trap) ends h = some_none r.end (ap (λ (y : FlatEnd). y.core) (over_same (record { core = Some r.end; count = r.count }) (told 0 None) h))
