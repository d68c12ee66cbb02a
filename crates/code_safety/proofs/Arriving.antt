-- What an entry that comes in makes of a state, and that the state stays fit.
-- `Comes` has the ways in which an entry can change the operations; whatever it is about, the state stays fit. The hard case is an
-- operation that ends: its thread comes to the ready ones, and is fit there just because it was fit as it would go on (`going_on`).
use Rattle.stack_code.specs.Shapes.{width_of}
use Rattle.std.proofs.Common.{◌≡◌, ℕ, ◌+◌, ◌<◌, List, [], ◌∷◌, ◌++◌, length, Option, Some, None, Bool, true, false, refl, sym, ap, ◌∙◌, subst, inl, inr, arith}
use Rattle.std.specs.Prelude.{All, ℤ, pos, find, nat_eq, slice_set, if◌then◌else◌, not, ◌&&◌}
use Rattle.std.proofs.lemmas.Bool.{and_parts, eqb-true}
use Rattle.std.proofs.lemmas.List.{length-set, get_or-set_same, get_or-set_other}
use Rattle.ac_base.specs.declared.entry.Answer.{Answer}
use Rattle.ac_base.specs.declared.entry.Entry.{Entry}
use Rattle.ac_base.specs.declared.entry.Event.{Event}
use Rattle.ac_base.specs.declared.entry.Event.TheVariants as event
use Rattle.ac_base.specs.declared.entry.Payload.{Payload}
use Rattle.work_item.specs.declared.cell.Cell.{Cell}
use Rattle.work_item.specs.declared.cell.Cell.TheVariants as cell
use Rattle.work_item.specs.declared.cell.Place.{Place}
use Rattle.work_item.specs.declared.ids.BlockId.{BlockId}
use Rattle.work_item.specs.declared.ids.Item.{Item}
use Rattle.work_item.specs.Store.{Store, no_int}
use Rattle.core_state.specs.Messages.{with_ints_at}
use Rattle.cancel_scope.specs.declared.operation.Asked.{Asked}
use Rattle.cancel_scope.specs.declared.operation.Asked.TheVariants as asked
use Rattle.cancel_scope.specs.declared.operation.Operation.{Operation}
use Rattle.cancel_scope.specs.declared.operation.Progress.{Progress}
use Rattle.cancel_scope.specs.declared.operation.Progress.TheVariants.{Waiting, Offered, Started}
use Rattle.cancel_scope.specs.Outstanding.{as_begun, carries, change_first, is_begun, is_offered, is_outgoing, is_request, is_to_offer, is_to_receive, is_under, is_waiting, offered_as, without_first}
use Rattle.core_state.specs.Arrivals as arrivals
use Rattle.core_state.specs.Arrivals.{Arrival, ends_received, goes_on_waiting, has_ended, has_ended_as, is_answered, is_known, keeps_room, offers, offers_on, passes_over, gives_room, with_message}
use Rattle.core_state.specs.Requests.{value_of, with_answer}
use Rattle.core_state.specs.Shared.{Shared}
use Rattle.stack_code.specs.declared.shape.CellKind.{CellKind}
use Rattle.stack_code.specs.declared.shape.CellKind.TheVariants as kind
use Rattle.stack_code.specs.Parts.{Parts}
use Rattle.stack_code.specs.Valid.{HasOneUse}
use Rattle.code_meaning.specs.Machine.{Block, Flat, Thread, arrived, given, nobody, thread_at}
use Rattle.code_safety.specs.Fit.{AtFinish, Birth, Going, HasKind, HaveKinds, IsAlive, IsAsked, IsFit, IsThread, Life, going_on, innermost, innermost_in, is_going, is_living, items_of, life_at}
use Rattle.code_safety.specs.Fit.{occurs, one_at, one_if, runs}
use Rattle.code_safety.proofs.Lives.{going_is, going_lives, life_cases, living_within, occurs_append, one_at_most, one_same, one_true, same_item}
use Rattle.code_safety.proofs.Own.{all_kept, block_bound, block_kept, is_bound, rooted_of, same_phase, same_start}
use Rattle.code_safety.proofs.Settings.{KeepsStore, same_store}
use Rattle.code_safety.proofs.Transfers.{answer_kept, message_kept}
use Rattle.code_safety.proofs.Turns.{alive_kept}
use Rattle.code_safety.proofs.Waiting.{IsFound, all_between, all_others, found_at, occurs_between, one_of_all, waits_alike, waits_for_another, waits_for_it, waits_for_none}

-- ---- what can come in

-- one of the operations is offered, or has begun, or has ended and had received nothing, a message or an answer, or goes on waiting
pub data Comes (store : Store) (os : List Operation) : Arrival → Type 0 where
  offered : (front back : List Operation) (o : Operation) (number : ℕ) → os ≡ front ++ o ∷ back → (is_outgoing o.asked && is_waiting o.progress) ≡ true
      → Comes store os (goes_on_waiting store (front ++ offered_as number o ∷ back))
  known : (front back : List Operation) (o : Operation) → os ≡ front ++ o ∷ back → is_request o.asked ≡ false → Comes store os (has_ended store (front ++ back) o)
  begun : (front back : List Operation) (o : Operation) (number : ℕ) → os ≡ front ++ o ∷ back → is_request o.asked ≡ true → o.progress ≡ Offered number
      → Comes store os (goes_on_waiting store (front ++ as_begun o ∷ back))
  answered : (front back : List Operation) (o : Operation) (answer : Answer) → os ≡ front ++ o ∷ back
      → Comes store os (has_ended_as (value_of o.asked answer) (with_answer store o.asked answer) (front ++ back) o)
  received : (front back : List Operation) (o : Operation) (place : Place) (message : List ℤ) → os ≡ front ++ o ∷ back → o.asked ≡ asked.Recv place
      → Comes store os (has_ended (with_ints_at store place message) (front ++ back) o)
  passed : Comes store os (goes_on_waiting store os)

module _ (store : Store) (os : List Operation) (x : Arrival) where
  offers_come : (link number : ℕ) (payload : Payload) (o : Option Operation) → find (is_to_offer link) os ≡ o → offers store os link number payload o ≡ Some x → Comes store os x
  offers_come link number payload None e h = let no : None ≡ Some x = h in absurd (cc)
  offers_come link number payload (Some o) e h = go (found_at (is_to_offer link) os o e) (carries o.asked payload) h
    where
      go : (f : IsFound (is_to_offer link) os o) (b : Bool) → (if b then Some (goes_on_waiting store (change_first (is_to_offer link) (offered_as number) os)) else None) ≡ Some x → Comes store os x
      go f true k =
          let same : goes_on_waiting store (f.front ++ offered_as number o ∷ f.back) ≡ x =
          (let is : goes_on_waiting store (change_first (is_to_offer link) (offered_as number) os) ≡ x = cc in ap (goes_on_waiting store) (sym (f.changed (offered_as number))) ∙ is) in
          let both = and_parts (nat_eq o.link link) (is_outgoing o.asked && is_waiting o.progress) f.passes in
          subst (Comes store os) same (offered f.front f.back o number f.is both.1)
      go f false k = let no : None ≡ Some x = k in absurd (cc)

  -- a send has ended, and a request has begun
  known_comes : (link number : ℕ) (o : Option Operation) → find (is_offered link number) os ≡ o → is_known store os link number o ≡ Some x → Comes store os x
  known_comes link number None e h = let no : None ≡ Some x = h in absurd (cc)
  known_comes link number (Some o) e h = go (found_at (is_offered link number) os o e) (is_request o.asked) refl h
    where
      under : (p : Progress) → is_under number p ≡ true → p ≡ Offered number
      under Waiting t = let no : false ≡ true = t in absurd (cc)
      under (Offered n) t = ap (λ k. Offered k) (eqb-true n number t)
      under (Started n) t = let no : false ≡ true = t in absurd (cc)

      go : (f : IsFound (is_offered link number) os o) (b : Bool) → is_request o.asked ≡ b
          → Some (if b then goes_on_waiting store (change_first (is_offered link number) as_begun os) else has_ended store (without_first (is_offered link number) os) o) ≡ Some x → Comes store os x
      go f true r k =
          let is : goes_on_waiting store (change_first (is_offered link number) as_begun os) ≡ x = cc in
          let both = and_parts (nat_eq o.link link) (is_under number o.progress) f.passes in
          subst (Comes store os) (ap (goes_on_waiting store) (sym (f.changed as_begun)) ∙ is) (begun f.front f.back o number f.is r (under o.progress both.1))
      go f false r k =
          let is : has_ended store (without_first (is_offered link number) os) o ≡ x = cc in
          subst (Comes store os) (ap (λ l. has_ended store l o) (sym f.without) ∙ is) (known f.front f.back o f.is r)

  answered_comes : (link number : ℕ) (answer : Answer) (o : Option Operation) → find (is_begun link number) os ≡ o → is_answered store os link number answer o ≡ Some x → Comes store os x
  answered_comes link number answer None e h = let no : None ≡ Some x = h in absurd (cc)
  answered_comes link number answer (Some o) e h =
      let f = found_at (is_begun link number) os o e in
      let is : has_ended_as (value_of o.asked answer) (with_answer store o.asked answer) (without_first (is_begun link number) os) o ≡ x = cc in
      subst (Comes store os) (ap (λ l. has_ended_as (value_of o.asked answer) (with_answer store o.asked answer) l o) (sym f.without) ∙ is) (answered f.front f.back o answer f.is)

  received_comes : (link : ℕ) (value : List ℤ) (o : Option Operation) → find (is_to_receive link) os ≡ o → ends_received store os link value o ≡ Some x → Comes store os x
  received_comes link value None e h = let no : None ≡ Some x = h in absurd (cc)
  received_comes link value (Some o) e h =
      let f = found_at (is_to_receive link) os o e in
      let is : has_ended (with_message store o value) (without_first (is_to_receive link) os) o ≡ x = cc in
      let both = and_parts (nat_eq o.link link) (not (is_outgoing o.asked)) f.passes in
      go f o.asked refl both.1 (ap (λ l. has_ended (with_message store o value) l o) (sym f.without) ∙ is)
    where
      go : (f : IsFound (is_to_receive link) os o) (a : Asked) → o.asked ≡ a → not (is_outgoing a) ≡ true → has_ended (with_message store o value) (f.front ++ f.back) o ≡ x → Comes store os x
      go f (asked.Recv place) e t same =
          let here : with_message store o value ≡ with_ints_at store place value = ap (λ a. with_ints_at store (arrivals.place_for a) value) e in
          subst (Comes store os) (ap (λ s. has_ended s (f.front ++ f.back) o) (sym here) ∙ same) (received f.front f.back o place value f.is e)
      go f a e t same = let no : false ≡ true = t in absurd (cc)

  passed_comes : (link : ℕ) (o : Option Operation) → find (is_to_receive link) os ≡ o → passes_over store os o ≡ Some x → Comes store os x
  passed_comes link None e h = let no : None ≡ Some x = h in absurd (cc)
  passed_comes link (Some o) e h =
      let same : goes_on_waiting store os ≡ x = cc in
      subst (Comes store os) same passed

  room_comes : (keeps : Bool) → gives_room store os keeps ≡ Some x → Comes store os x
  room_comes true h = let same : goes_on_waiting store os ≡ x = cc in subst (Comes store os) same passed
  room_comes false h = let no : None ≡ Some x = h in absurd (cc)

  pub comes_of : (past : List Entry) (v : Event) → arrivals.arrives past store os v ≡ Some x → Comes store os x
  comes_of past (event.Offer link number payload) h = go (nat_eq number (offers_on link past)) h
    where
      go : (b : Bool) → (if b then offers store os link number payload (find (is_to_offer link) os) else None) ≡ Some x → Comes store os x
      go true k = offers_come link number payload (find (is_to_offer link) os) refl k
      go false k = let no : None ≡ Some x = k in absurd (cc)
  comes_of past (event.Know link number) h = known_comes link number (find (is_offered link number) os) refl h
  comes_of past (event.Got link number value) h = received_comes link value (find (is_to_receive link) os) refl h
  comes_of past (event.Pass link number) h = passed_comes link (find (is_to_receive link) os) refl h
  comes_of past (event.Room link number) h = room_comes (keeps_room link number past) h
  comes_of past (event.Reply link number answer) h = answered_comes link number answer (find (is_begun link number) os) refl h
  comes_of past v h = let no : None ≡ Some x = h in absurd (cc)

-- ---- another int in the place of the one that is awaited

int_kind_of : (code : Parts) (births : List Birth) (k : CellKind) (v w : ℤ) → HasKind code births k (cell.Int v) → HasKind code births k (cell.Int w)
int_kind_of code births kind.Int v w h = tt
int_kind_of code births (kind.Reference len) v w h = absurd h

int_kinds_of : (code : Parts) (births : List Birth) (kinds : List CellKind) (v w : ℤ) (below : List Cell) → HaveKinds code births kinds (cell.Int v ∷ below)
    → HaveKinds code births kinds (cell.Int w ∷ below)
int_kinds_of code births [] v w below h = absurd h
int_kinds_of code births (k ∷ kinds) v w below h = (int_kind_of code births k v w h.0, h.1)

module _ (code : Parts) (births : List Birth) (s : Store) (blocks : List (Option Block)) (t : Item) (start : Option BlockId) (h : Thread) (v w : ℤ) where
  given_another : IsThread code births s blocks t start (given (cell.Int v) h) → IsThread code births s blocks t start (given (cell.Int w) h)
  given_another i = record {
    shape = i.shape;
    top = record {
      reached = i.top.reached;
      have = int_kinds_of code births i.shape.operands v w h.operands i.top.have;
      bodies = i.top.bodies;
      goes = i.top.goes;
      blocks = i.top.blocks;
    };
    below = i.below;
    callers = i.callers;
    entered = i.entered;
  }

-- ---- the state

module _ (code : Parts) (m : Flat) (fit : IsFit code m) (shared : Shared) (front back : List Operation) (o : Operation) (is : m.operations ≡ front ++ o ∷ back) where
  abbrev t : Item
  t = o.item

  asks_here : All (λ (p : Operation). IsAsked code fit.births p.link p.asked) (front ++ o ∷ back)
  asks_here = subst (All (λ (p : Operation). IsAsked code fit.births p.link p.asked)) is fit.asks

  asks_others : All (λ (p : Operation). IsAsked code fit.births p.link p.asked) (front ++ back)
  asks_others = all_others (λ (p : Operation). IsAsked code fit.births p.link p.asked) back o front asks_here

  pub its_asked : IsAsked code fit.births o.link o.asked
  its_asked = one_of_all (λ (p : Operation). IsAsked code fit.births p.link p.asked) back o front asks_here

  split : (u : ℕ) → occurs u (items_of m.operations) ≡ one_at u t + occurs u (items_of (front ++ back))
  split u = ap (λ os. occurs u (items_of os)) is ∙ occurs_between u front back o

  -- its thread waits, and does not run
  not_running : m.running ≡ Some t → ⊥
  not_running e =
      let l = fit.listed t.number in
      let r : runs t.number m.running ≡ one_at t.number t = ap (runs t.number) e in
      let k = split t.number in
      let one = one_same t.number in
      let most = one_at_most (is_going (life_at fit.lives t).phase) in
      omega (arith, l, r, k, one, most)

  -- it has come further, and its thread waits on
  pub changed_fit : (p : Operation) → p.item ≡ t → p.link ≡ o.link → p.asked ≡ o.asked → IsFit code (arrived m shared (goes_on_waiting m.store (front ++ p ∷ back)))
  changed_fit p item link asks = record {
    births = fit.births;
    lives = fit.lives;
    store = fit.store;
    alive = fit.alive;
    block = fit.block;
    first = fit.first;
    free = fit.free;
    listed = λ u.
        let l = fit.listed u in
        let was = split u in
        let now : occurs u (items_of (front ++ p ∷ back)) ≡ one_at u t + occurs u (items_of (front ++ back)) =
        occurs_between u front back p ∙ ap (λ (z : Item). one_at u z + occurs u (items_of (front ++ back))) item in
        omega (arith, l, was, now);
    asks = all_between (λ (q : Operation). IsAsked code fit.births q.link q.asked) back p front asks_others (subst (λ l. IsAsked code fit.births l p.asked) (sym link) (subst
        (IsAsked code fit.births o.link) (sym asks) its_asked));
    many = fit.many;
    current = fit.current;
    parked = λ u l not. waits_alike u (thread_at m.threads u) front back o p item ∙ ap (λ os. going_on os u (thread_at m.threads u)) (sym is) ∙ fit.parked u l not;
  }

  -- ---- its end

  listed_here : (u : ℕ) → runs u m.running + (occurs u m.ready + (one_at u t + occurs u (items_of (front ++ back)))) ≡ one_if (is_going (life_at fit.lives (record { number = u })).phase)
  listed_here u =
      let l = fit.listed u in
      let k = split u in
      omega (arith, l, k)

  going : is_going (life_at fit.lives t).phase ≡ true
  going =
      let l = listed_here t.number in
      let one = one_same t.number in
      let most = one_at_most (is_going (life_at fit.lives t).phase) in
      one_true (is_going (life_at fit.lives t).phase) (omega (arith, l, one, most))

  pub waits_once : occurs t.number (items_of (front ++ back)) ≡ 0
  waits_once =
      let l = listed_here t.number in
      let one = one_same t.number in
      let most = one_at_most (is_going (life_at fit.lives t).phase) in
      omega (arith, l, one, most)

  goes : (life_at fit.lives t).phase ≡ Going
  goes = going_is (life_at fit.lives t).phase going

  living : is_living (life_at fit.lives t).phase ≡ true
  living = going_lives (life_at fit.lives t).phase goes

  within : t.number < length fit.lives
  within = living_within fit.lives t living

  pub within_threads : t.number < length m.threads
  within_threads = let w = within in let k = fit.many in omega (arith, w, k)

  abbrev waits : Thread
  waits = thread_at m.threads t

  will_be : (life_at fit.lives t).thread ≡ given no_int waits
  will_be = sym (fit.parked t living not_running) ∙ ap (λ os. going_on os t waits) is ∙ waits_for_it t waits front back o refl

  module _ (store : Store) (keeps : KeepsStore code fit.births m.store store) (v : ℤ) where
    abbrev was : Life
    was = life_at fit.lives t

    abbrev now : Life
    now = record was { thread = given (cell.Int v) waits }

    abbrev lives : List Life
    lives = slice_set fit.lives t.number now

    inner : innermost now ≡ innermost was
    inner = ap (λ (h : Thread). innermost_in was.phase h.block) (sym will_be)

    phase_same : (u : Item) → (life_at lives u).phase ≡ (life_at fit.lives u).phase
    phase_same u = same_phase fit.lives t now within refl refl inner u

    alive : (u : Item) → is_living (life_at lives u).phase ≡ true → IsAlive code fit.births store m.blocks u (life_at lives u)
    alive u e = elim (life_cases fit.lives t u now within) as (λ _. IsAlive code fit.births store m.blocks u (life_at lives u)) [
      | inl p ↦ subst (λ l. IsAlive code fit.births store m.blocks u l) (sym p.1) (subst (λ z. IsAlive code fit.births store m.blocks z now) p.0 mine)
      | inr p ↦ subst (λ l. IsAlive code fit.births store m.blocks u l) (sym p.1) (kept_alive u (sym (ap is_living (phase_same u)) ∙ e))
    ]
      where
        kept_alive : (k : Item) → is_living (life_at fit.lives k).phase ≡ true → IsAlive code fit.births store m.blocks k (life_at fit.lives k)
        kept_alive k l =
            let z = life_at fit.lives k in
            alive_kept code fit.births fit.births (λ n b q. q) m.store store (λ f. Unit {0}) keeps.carries m.blocks m.blocks (rooted_of code m fit) k z (block_bound z.thread.block)
            (λ g b born own. tt) (all_kept m.blocks k (block_bound z.thread.block)) (is_bound z.thread.block) (λ b x f g. (x, (g, refl))) (λ b f w. w) (fit.alive k l)

        mine : IsAlive code fit.births store m.blocks t now
        mine =
            let a = kept_alive t living in
            record {
              thread = given_another code fit.births store m.blocks t was.start waits (pos 0) v (subst (IsThread code fit.births store m.blocks t was.start) will_be a.thread);
              started = a.started;
              waiting = λ b w. absurd (let no : Going ≡ AtFinish b = sym goes ∙ w in cc);
            }

    -- Its thread alone changes place: it waited for one operation, so it waits for none now, and each other thread goes on as before.
    pub ended_fit : IsFit code
        (record m {
          shared = shared;
          store = store;
          operations = front ++ back;
          ready = m.ready ++ t ∷ [];
          threads = slice_set m.threads t.number (given (cell.Int v) waits);
        })
    ended_fit = record {
      births = fit.births;
      lives = lives;
      store = keeps.store;
      alive = alive;
      block = λ b x there. block_kept fit.lives t now within refl refl inner m.blocks b x (fit.block b x there);
      first = ap is_living (phase_same (record { number = 0 })) ∙ fit.first;
      free = same_start fit.lives t now within refl refl inner (record { number = 0 }) ∙ fit.free;
      listed = listed;
      asks = asks_others;
      many = length-set fit.lives t.number now ∙ fit.many ∙ sym (length-set m.threads t.number (given (cell.Int v) waits));
      current = current;
      parked = parked;
    }
      where
        current : (u : Item) → m.running ≡ Some u → m.current ≡ (life_at lives u).thread
        current u e = elim (life_cases fit.lives t u now within) as (λ _. m.current ≡ (life_at lives u).thread) [
          | inl p ↦ absurd (not_running (e ∙ ap (λ z. Some z) (sym p.0)))
          | inr p ↦ fit.current u e ∙ sym (ap (λ (z : Life). z.thread) p.1)
        ]

        listed : (u : ℕ) → runs u m.running + (occurs u (m.ready ++ t ∷ []) + occurs u (items_of (front ++ back))) ≡ one_if (is_going (life_at lives (record { number = u })).phase)
        listed u =
            let l = listed_here u in
            let a : occurs u (m.ready ++ t ∷ []) ≡ occurs u m.ready + (one_at u t + 0) = occurs_append u m.ready (t ∷ []) in
            let p : one_if (is_going (life_at lives (record { number = u })).phase) ≡ one_if (is_going (life_at fit.lives (record { number = u })).phase) =
            ap (λ p. one_if (is_going p)) (phase_same (record { number = u })) in
            omega (arith, l, a, p)

        parked : (u : Item) → is_living (life_at lives u).phase ≡ true → (m.running ≡ Some u → ⊥)
            → going_on (front ++ back) u (thread_at (slice_set m.threads t.number (given (cell.Int v) waits)) u) ≡ (life_at lives u).thread
        parked u l not = elim (life_cases fit.lives t u now within) as
            (λ _. going_on (front ++ back) u (thread_at (slice_set m.threads t.number (given (cell.Int v) waits)) u) ≡ (life_at lives u).thread) [
              | inl p ↦
                  subst (λ z. going_on (front ++ back) z (thread_at (slice_set m.threads t.number (given (cell.Int v) waits)) z) ≡ given (cell.Int v) waits) p.0
                  (ap (going_on (front ++ back) t) (get_or-set_same m.threads t.number (given (cell.Int v) waits) nobody within_threads)
                  ∙ waits_for_none t (given (cell.Int v) waits) (front ++ back) waits_once)
                  ∙ sym (ap (λ (z : Life). z.thread) p.1)
              | inr p ↦
                  ap (going_on (front ++ back) u) (get_or-set_other m.threads t.number u.number (given (cell.Int v) waits) nobody (λ e. p.0 (same_item t u (sym e))))
                  ∙ sym (waits_for_another u (thread_at m.threads u) front back o (λ e. p.0 (same_item t u (sym e)))) ∙ ap (λ os. going_on os u (thread_at m.threads u)) (sym is)
                  ∙ fit.parked u (sym (ap is_living (phase_same u)) ∙ l) not ∙ sym (ap (λ (z : Life). z.thread) p.1)
            ]

-- ---- what comes in

module _ (code : Parts) (m : Flat) (fit : IsFit code m) (one : HasOneUse code) (shared : Shared) where
  passed_fit : IsFit code (arrived m shared (goes_on_waiting m.store m.operations))
  passed_fit = record {
    births = fit.births;
    lives = fit.lives;
    store = fit.store;
    alive = fit.alive;
    block = fit.block;
    first = fit.first;
    free = fit.free;
    listed = fit.listed;
    asks = fit.asks;
    many = fit.many;
    current = fit.current;
    parked = fit.parked;
  }

  pub arrived_fit : (x : Arrival) → Comes m.store m.operations x → IsFit code (arrived m shared x)
  arrived_fit _ passed = passed_fit
  arrived_fit _ (offered front back o number is waiting) = changed_fit code m fit shared front back o is (offered_as number o) refl refl refl
  arrived_fit _ (begun front back o number is request under) = changed_fit code m fit shared front back o is (as_begun o) refl refl refl
  arrived_fit _ (answered front back o answer is) =
      let keeps = answer_kept code fit.births one m.store fit.store o.link o.asked answer (its_asked code m fit shared front back o is) in
      ended_fit code m fit shared front back o is (with_answer m.store o.asked answer) keeps (value_of o.asked answer)
  arrived_fit _ (known front back o is plain) = ended_fit code m fit shared front back o is m.store (same_store code fit.births m.store fit.store) (pos 0)
  arrived_fit _ (received front back o place message is asks) =
      let a : IsAsked code fit.births o.link (asked.Recv place) = subst (IsAsked code fit.births o.link) asks (its_asked code m fit shared front back o is) in
      ended_fit code m fit shared front back o is (with_ints_at m.store place message) (message_kept code fit.births one m.store fit.store (Some (width_of code o.link)) place message a) (pos 0)
