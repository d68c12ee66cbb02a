-- A state stays fit where its thread starts an operation, and waits for its end.
-- The operands are taken as they are wanted, and the thread is kept with a place for the value. In a cancelled block the value is there at
-- once, and the thread goes on as after any instruction of its own.
use Rattle.work_item.specs.declared.ids.FrameId.{FrameId}
use Rattle.core_state.specs.Messages.{message_in, ints_from}
use Rattle.std.proofs.Common.{◌≡◌, ℕ, ◌+◌, ◌≤◌, List, [], ◌∷◌, ◌++◌, Some, None, refl, sym, ap, ◌∙◌, subst, arith, zero, suc, length, Option}
use Rattle.std.specs.Prelude.{nat_lt, slice_get, if◌then◌else◌}
use Rattle.std.proofs.lemmas.List.{append-nil}
use Rattle.std.proofs.lemmas.List.Elements.{All-push}
use Rattle.work_item.specs.declared.ids.Item.{Item}
use Rattle.work_item.specs.declared.cell.Cell.{Cell}
use Rattle.work_item.specs.declared.cell.Cell.TheVariants as cell
use Rattle.work_item.specs.declared.cell.Place.{Place}
use Rattle.work_item.specs.Store.{Store, int_in, place_in, no_int}
use Rattle.cancel_scope.specs.declared.operation.Asked.{Asked}
use Rattle.cancel_scope.specs.declared.operation.Asked.TheVariants as asked
use Rattle.cancel_scope.specs.declared.operation.Operation.{Operation}
use Rattle.cancel_scope.specs.Outstanding.{started}
use Rattle.core_state.specs.Arrivals.{cancelled}
use Rattle.core_state.specs.Requests.{bytes_at, first_of, if_in_range}
use Rattle.stack_code.specs.declared.instr.Instr.{Instr}
use Rattle.stack_code.specs.declared.instr.Instr.TheVariants as i
use Rattle.stack_code.specs.declared.shape.CellKind.{CellKind}
use Rattle.stack_code.specs.declared.shape.CellKind.TheVariants as kind
use Rattle.stack_code.specs.declared.shape.Shape.{Shape}
use Rattle.stack_code.specs.declared.shape.Want.{Want}
use Rattle.stack_code.specs.declared.shape.Want.TheVariants as want
use Rattle.stack_code.specs.declared.shape.Leads.{Leads}
use Rattle.stack_code.specs.declared.shape.Leads.TheVariants.{One}
use Rattle.stack_code.specs.Parts.{Parts}
use Rattle.stack_code.specs.Shapes.{after, channels_of, width_of, effect, pushed, pushes, transfers, with_operands}
use Rattle.stack_code.specs.Valid as valid
use Rattle.stack_code.specs.Valid.{Goes}
use Rattle.code_meaning.specs.Machine.{Flat, Thread, asks, at, counted, begin, given, on_three, operates, requests}
use Rattle.code_safety.specs.Fit.{HaveKinds, IsAsked, IsFit, IsThread, going_on, items_of, life_at, occurs, one_at}
use Rattle.code_safety.proofs.Lasting.{callers_as}
use Rattle.code_safety.proofs.Lives.{same_item}
use Rattle.code_safety.proofs.Own.{thread_of}
use Rattle.code_safety.proofs.Plain.{Onward, Next, none, top_on, three_on, trap_on, asks_on}
use Rattle.code_safety.proofs.PlainFit.{plain_fit}
use Rattle.code_safety.proofs.Settings.{same_store}
use Rattle.code_safety.proofs.Taken.{IsWanted, after_is, if_is, none_wanted, top_of}
use Rattle.code_safety.proofs.Transfers.{range_is, first_ints}
use Rattle.code_safety.proofs.Turns.{rests_fit, resting}
use Rattle.code_safety.proofs.Waiting.{occurs_between, waits_for_another, waits_for_it}

module _ (code : Parts) (bound : ℕ) (m : Flat) (fit : IsFit code m) (t : Item) (run : m.running ≡ Some t) where
  abbrev h : IsThread code fit.births m.store m.blocks t (life_at fit.lives t).start m.current
  h = thread_of code m fit t run

  abbrev s : Shape
  s = h.shape

  abbrev place : ℕ
  place = m.current.place

  -- an instruction that starts an operation has taken its operands, in whose place the value comes
  pub record Operates (instr : Instr) : Type 0 where
    pub below : List Cell
    pub kinds : List CellKind
    pub have : HaveKinds code fit.births kinds below
    pub goes : Goes code place s (place + 1) (pushed kind.Int (with_operands s kinds))

  -- of a channel: one operand as it wants it
  pub record TakesOne (w : Want) (instr : Instr) : Type 0 where
    pub on : Operates instr
    pub top : Cell
    pub is : m.current.operands ≡ top ∷ on.below
    pub wanted : IsWanted code fit.births w top

  pub operating : (w : Want) (instr : Instr) (channel : ℕ) (leads : Leads) → slice_get code.instrs place ≡ Some instr
      → effect code place instr s ≡ (if nat_lt channel (channels_of code) then after (w ∷ []) s (pushes place kind.Int) else None) → effect code place instr s ≡ Some leads → TakesOne w instr
  operating w instr channel leads here same finds =
      let c = if_is (nat_lt channel (channels_of code)) (after (w ∷ []) s (pushes place kind.Int)) leads (sym same ∙ finds) in
      let a = after_is (w ∷ []) s (pushes place kind.Int) leads c.1 in
      let o = top_of code fit.births w [] s.operands a.0 m.current.operands a.1.0 h.top.have in
      record {
        on = record {
          below = o.below;
          kinds = a.0;
          have = none_wanted code fit.births o.kinds a.0 o.below o.taken o.have;
          goes = record {
            fits = record { instr = instr; leads = One (place + 1) (pushed kind.Int (with_operands s a.0)); here = here; finds = finds ∙ sym a.1.1 };
            leads = (refl, refl);
          };
        };
        top = o.top;
        is = o.is;
        wanted = o.wanted;
      }

  -- of a file: an array, a length and a place in the file
  pub record TakesThree (instr : Instr) : Type 0 where
    pub on : Operates instr
    pub array : Cell
    pub long : Cell
    pub from : Cell
    pub is : m.current.operands ≡ array ∷ long ∷ from ∷ on.below
    pub wanted : IsWanted code fit.births want.Reference array

  pub transferring : (instr : Instr) (file : ℕ) (leads : Leads) → slice_get code.instrs place ≡ Some instr → effect code place instr s ≡ transfers place file s
      → effect code place instr s ≡ Some leads → TakesThree instr
  transferring instr file leads here same finds =
      let c = if_is (nat_lt file 16) (after (want.Reference ∷ want.Int ∷ want.Int ∷ []) s (pushes place kind.Int)) leads (sym same ∙ finds) in
      let a = after_is (want.Reference ∷ want.Int ∷ want.Int ∷ []) s (pushes place kind.Int) leads c.1 in
      let o = top_of code fit.births want.Reference (want.Int ∷ want.Int ∷ []) s.operands a.0 m.current.operands a.1.0 h.top.have in
      let p = top_of code fit.births want.Int (want.Int ∷ []) o.kinds a.0 o.below o.taken o.have in
      let q = top_of code fit.births want.Int [] p.kinds a.0 p.below p.taken p.have in
      record {
        on = record {
          below = q.below;
          kinds = a.0;
          have = none_wanted code fit.births q.kinds a.0 q.below q.taken q.have;
          goes = record {
            fits = record { instr = instr; leads = One (place + 1) (pushed kind.Int (with_operands s a.0)); here = here; finds = finds ∙ sym a.1.1 };
            leads = (refl, refl);
          };
        };
        array = o.top;
        long = p.top;
        from = q.top;
        is = o.is ∙ ap (λ l. o.top ∷ l) (p.is ∙ ap (λ l. p.top ∷ l) q.is);
        wanted = o.wanted;
      }

  -- a request is of the first elements of the array, no more than there are, or its range is wrong and the core ends
  pub transfer_on : (P : Flat → Type 0) (instr : Instr) (z : TakesThree instr) (ask : ℕ → Place → Asked)
      → ((at len : ℕ) → len ≤ (place_in z.array).len → Onward P (asks m t m.shared.requests (ask at (first_of (place_in z.array) len)) z.on.below))
      → Onward P (on_three m (λ x y w below. requests m t (if_in_range (place_in w) (int_in x) (int_in y) ask) below) m.current.operands)
  transfer_on P instr z ask h = three_on P m _ m.current.operands z.array z.long z.from z.on.below z.is
      (trap_on P m (if_in_range (place_in z.array) (int_in z.from) (int_in z.long) ask) (λ a. asks m t m.shared.requests a z.on.below)
      (λ a e.
      let r = range_is (place_in z.array) (int_in z.from) (int_in z.long) ask a e in
      subst (λ a. Onward P (asks m t m.shared.requests a z.on.below)) r.1.1.1 (h r.0 r.1.0 r.1.1.0)))

  -- in a cancelled block the value is there at once
  module _ (instr : Instr) (z : Operates instr) (other : instr ≡ i.Step → ⊥) where
    abbrev pub given_value : Flat
    given_value = record m { current = at m.current (place + 1) (cell.Int cancelled ∷ z.below); count = counted m.count }

    pub value_next : Next code bound m fit.births s instr given_value
    value_next = record {
      shape = pushed kind.Int (with_operands s z.kinds);
      goes = z.goes;
      bodies = refl;
      blocks = refl;
      operands = (tt, z.have);
      store = same_store code fit.births m.store fit.store;
      spends = none other refl;
      others = refl;
    }

  module _ (instr : Instr) (z : Operates instr) (link : ℕ) (a : Asked) (asks : IsAsked code fit.births link a) where
    abbrev kept : Thread
    kept = at m.current (place + 1) z.below

    abbrev new : Operation
    new = started link a t

    -- it will go on with an int on top
    later : IsThread code fit.births m.store m.blocks t (life_at fit.lives t).start (given no_int kept)
    later = record {
      shape = pushed kind.Int (with_operands s z.kinds);
      top = record {
        reached = valid.goes place s (place + 1) (pushed kind.Int (with_operands s z.kinds)) h.top.reached z.goes;
        have = (tt, z.have);
        bodies = h.top.bodies;
        goes = h.top.goes;
        blocks = h.top.blocks;
      };
      below = h.below;
      callers = callers_as code fit.births m.store t (life_at fit.lives t).start m.current.frame s (pushed kind.Int (with_operands s z.kinds)) m.current.callers h.below refl h.callers;
      entered = h.entered;
    }

    operates_fit : IsFit code (operates m t link a z.below)
    operates_fit = rests_fit code m fit t run (given no_int kept) refl later kept m.ready (m.operations ++ new ∷ [])
        (All-push (λ (o : Operation). IsAsked code fit.births o.link o.asked) m.operations new fit.asks asks) listed
        (waits_for_it t kept m.operations [] new refl)
        (λ u f ne. waits_for_another u f m.operations [] new (λ e. ne (sym (same_item u t e))) ∙ ap (λ os. going_on os u f) (append-nil m.operations))
      where
        listed : (u : ℕ) → occurs u m.ready + occurs u (items_of (m.operations ++ new ∷ [])) ≡ one_at u t + resting m u
        listed u =
            let b : occurs u (items_of (m.operations ++ new ∷ [])) ≡ one_at u t + occurs u (items_of (m.operations ++ [])) = occurs_between u m.operations [] new in
            let n : occurs u (items_of (m.operations ++ [])) ≡ occurs u (items_of m.operations) = ap (λ os. occurs u (items_of os)) (append-nil m.operations) in
            omega (arith, b, n)

  -- what is received goes into as many ints as the channel's width
  asked_of : (channel : ℕ) (x : Cell) → IsWanted code fit.births (want.Elements (width_of code channel)) x → IsAsked code fit.births channel (asked.Recv (place_in x))
  asked_of channel (cell.Int v) k = absurd k
  asked_of channel (cell.Array p) k = k
  asked_of channel (cell.Block b) k = absurd k

  many_ints : (store : Store) (home : Option FrameId) (slot len : ℕ) → length (ints_from store home slot len) ≡ len
  many_ints store home slot zero = refl
  many_ints store home slot (suc len) = ap suc (many_ints store home (slot + 1) len)

  -- and what is sent has as many
  sent_of : (channel : ℕ) (x : Cell) → IsWanted code fit.births (want.Message (width_of code channel)) x → IsAsked code fit.births channel (asked.Send (message_in m.store x))
  sent_of channel (cell.Int v) k = sym k
  sent_of channel (cell.Array p) k = many_ints m.store p.home p.start p.len ∙ k.exact (width_of code channel) refl
  sent_of channel (cell.Block b) k = absurd k

  -- what is read goes into the first elements of an array
  first_asked : (file at len : ℕ) (x : Cell) → IsWanted code fit.births want.Reference x → len ≤ (place_in x).len → IsAsked code fit.births m.shared.requests (asked.Read file at (first_of
      (place_in x) len))
  first_asked file at len (cell.Int v) k le = absurd k
  first_asked file at len (cell.Array p) k le = first_ints code fit.births p len le k
  first_asked file at len (cell.Block b) k le = absurd k

  -- its value is there, or its thread waits
  started_on : (instr : Instr) (z : Operates instr) → (instr ≡ i.Step → ⊥) → (link : ℕ) (a : Asked) → IsAsked code fit.births link a → Onward (IsFit code) (asks m t link a z.below)
  started_on instr z other link a k = asks_on (IsFit code) m t link a z.below
      (plain_fit code bound m fit t run instr (given_value instr z other) (value_next instr z other)) (operates_fit instr z link a k)

  pub send_fit : (channel : ℕ) (leads : Leads) → slice_get code.instrs place ≡ Some (i.Send channel) → effect code place (i.Send channel) s ≡ Some leads
      → Onward (IsFit code) (begin code bound m t (Some (i.Send channel)))
  send_fit channel leads here finds =
      let z = operating (want.Message (width_of code channel)) (i.Send channel) channel leads here refl finds in
      top_on (IsFit code) m _ m.current.operands z.top z.on.below z.is
      (started_on (i.Send channel) z.on (λ e. cc) channel (asked.Send (message_in m.store z.top)) (sent_of channel z.top z.wanted))

  pub receive_fit : (channel : ℕ) (leads : Leads) → slice_get code.instrs place ≡ Some (i.Recv channel) → effect code place (i.Recv channel) s ≡ Some leads
      → Onward (IsFit code) (begin code bound m t (Some (i.Recv channel)))
  receive_fit channel leads here finds =
      let z = operating (want.Elements (width_of code channel)) (i.Recv channel) channel leads here refl finds in
      top_on (IsFit code) m _ m.current.operands z.top z.on.below z.is
      (started_on (i.Recv channel) z.on (λ e. cc) channel (asked.Recv (place_in z.top)) (asked_of channel z.top z.wanted))

  pub read_fit : (file : ℕ) (leads : Leads) → slice_get code.instrs place ≡ Some (i.Read file) → effect code place (i.Read file) s ≡ Some leads
      → Onward (IsFit code) (begin code bound m t (Some (i.Read file)))
  read_fit file leads here finds =
      let z = transferring (i.Read file) file leads here refl finds in
      transfer_on (IsFit code) (i.Read file) z (λ at into. asked.Read file at into)
      (λ at len le. started_on (i.Read file) z.on (λ e. cc) m.shared.requests (asked.Read file at (first_of (place_in z.array) len)) (first_asked file at len z.array z.wanted le))

  pub write_fit : (file : ℕ) (leads : Leads) → slice_get code.instrs place ≡ Some (i.Write file) → effect code place (i.Write file) s ≡ Some leads
      → Onward (IsFit code) (begin code bound m t (Some (i.Write file)))
  write_fit file leads here finds =
      let z = transferring (i.Write file) file leads here refl finds in
      transfer_on (IsFit code) (i.Write file) z (λ at from. asked.Write file at (bytes_at m.store from))
      (λ at len le. started_on (i.Write file) z.on (λ e. cc) m.shared.requests (asked.Write file at (bytes_at m.store (first_of (place_in z.array) len))) tt)
