-- Each array that a thread which lives can name lies in its frame, where that lives, or in the globals.
-- Of each operand, caller and operation of a fit state: its kind says that it is an array of a frame's slots from its birth on, and a frame
-- keeps its length.
use Rattle.std.proofs.Common.{◌≡◌, ℕ, ◌+◌, ◌≤◌, List, [], ◌∷◌, length, Option, Some, None, Bool, true, false, sym, ap, ◌∙◌, subst, arith}
use Rattle.std.specs.Prelude.{All, nat_eq, slice_index_or, if◌then◌else◌}
use Rattle.std.proofs.lemmas.List.Elements.{All-nil, All-cons, All-tail}
use Rattle.work_item.specs.declared.ids.FrameId.{FrameId}
use Rattle.work_item.specs.declared.ids.Item.{Item}
use Rattle.work_item.specs.declared.ids.BlockId.{BlockId}
use Rattle.work_item.specs.declared.cell.Cell.{Cell}
use Rattle.work_item.specs.declared.cell.Cell.TheVariants as cell
use Rattle.work_item.specs.Store.{Store, no_int, no_cells, cells_of}
use Rattle.cancel_scope.specs.declared.operation.Asked.{Asked}
use Rattle.cancel_scope.specs.declared.operation.Asked.TheVariants as asked
use Rattle.cancel_scope.specs.declared.operation.Operation.{Operation}
use Rattle.stack_code.specs.declared.shape.CellKind.{CellKind}
use Rattle.stack_code.specs.declared.shape.CellKind.TheVariants as kind
use Rattle.stack_code.specs.declared.shape.Shape.{Shape}
use Rattle.stack_code.specs.Parts.{Parts}
use Rattle.code_meaning.specs.Machine.{Caller, Thread, Flat, thread_at, given}
use Rattle.code_safety.specs.Fit.{Birth, HoldsInts, HasKind, HaveKinds, IsStore, IsAsked, AreCallers, bottom, above, IsFit, life_at, is_living, going_on}
use Rattle.code_safety.specs.Living.{LivesAs, as_running, as_ready, as_operating, as_waiting, HasSlots, ArrayLiesThere, AskedLiesThere}
use Rattle.code_safety.proofs.Plain.{at_same_birth}
use Rattle.code_safety.proofs.LinkedFrames.{lives_there}
use Rattle.code_safety.proofs.LivingThreads.{is_life, not_running, ready_once, operating_once}

-- ---- operands of their kinds

module _ (code : Parts) (births : List Birth) (s : Store) (st : IsStore code births s) where
  ints_lie : (home : Option FrameId) (start len : ℕ) → HoldsInts code births home start len → HasSlots s home (start + len)
  ints_lie None start len h = subst (λ n. start + len ≤ n) (sym st.globals) h
  ints_lie (Some f) start len h = λ lives.
      let x = lives_there s f lives in
      let i = st.frames f x.0 x.1 in
      let long : length (cells_of s f) ≡ h.birth.slots = ap (λ o. length (no_cells o)) x.1 ∙ i.long ∙ ap (λ (b : Birth). b.slots) (at_same_birth births f i.birth h.birth i.born h.born) in
      let inside = h.inside in
      omega (arith, long, inside)

  pub kind_lies : (k : CellKind) (x : Cell) → HasKind code births k x → ArrayLiesThere s x
  kind_lies kind.Int (cell.Int value) h = tt
  kind_lies kind.Int (cell.Array place) h = absurd h
  kind_lies kind.Int (cell.Block b) h = absurd h
  kind_lies (kind.Reference len) (cell.Int value) h = absurd h
  kind_lies (kind.Reference len) (cell.Array place) h = ints_lie place.home place.start place.len h.ints
  kind_lies (kind.Reference len) (cell.Block b) h = absurd h

  kinds_lie : (kinds : List CellKind) (operands : List Cell) → HaveKinds code births kinds operands → All (ArrayLiesThere s) operands
  kinds_lie [] [] h = All-nil (ArrayLiesThere s)
  kinds_lie [] (x ∷ operands) h = absurd h
  kinds_lie (k ∷ kinds) [] h = absurd h
  kinds_lie (k ∷ kinds) (x ∷ operands) h = All-cons (ArrayLiesThere s) x operands (kind_lies k x h.0) (kinds_lie kinds operands h.1)

  callers_lie : (t : Item) (start : Option BlockId) (f : FrameId) (shape : Shape) (callers : List Caller) (n : ℕ) → AreCallers code births s t start f shape callers n
      → All (λ (c : Caller). All (ArrayLiesThere s) c.operands) callers
  callers_lie t start _ _ _ _ (bottom f shape q) = All-nil (λ (c : Caller). All (ArrayLiesThere s) c.operands)
  callers_lie t start _ _ _ _ (above f shape c callers u n one older waits rest) =
      All-cons (λ (z : Caller). All (ArrayLiesThere s) z.operands) c callers (kinds_lie waits.kinds c.operands waits.activation.have) (callers_lie t start c.frame u callers n rest)

  asked_lies : (link : ℕ) (a : Asked) → IsAsked code births link a → AskedLiesThere s a
  asked_lies link (asked.Send message) h = tt
  asked_lies link (asked.Recv place) h = ints_lie place.home place.start place.len h.ints
  asked_lies link (asked.Read file from into) h = ints_lie into.home into.start into.len h.ints
  asked_lies link (asked.Write file from bytes) h = tt

-- ---- what a thread can name

-- the operands of a thread are among those with which it goes on
before : (P : Cell → Type 0) (os : List Operation) (t : Item) (h : Thread) → All P (going_on os t h).operands → All P h.operands
before P [] t h all = all
before P (o ∷ os) t h all = by (λ rest. before P os t h rest) (nat_eq t.number o.item.number) all
  where
    by : (All P (going_on os t h).operands → All P h.operands) → (b : Bool) → All P (if b then given no_int h else going_on os t h).operands → All P h.operands
    by later true all = All-tail P no_int h.operands all
    by later false all = later all

module _ (code : Parts) (m : Flat) (fit : IsFit code m) where
  abbrev Lie : List Cell → Type 0
  Lie operands = All (ArrayLiesThere m.store) operands

  abbrev own : Item → Thread
  own t = (life_at fit.lives t).thread

  parked_lie : (t : Item) → is_living (life_at fit.lives t).phase ≡ true → (m.running ≡ Some t → ⊥) → Lie (own t).operands → Lie (thread_at m.threads t).operands
  parked_lie t l not all = before (ArrayLiesThere m.store) m.operations t (thread_at m.threads t) (subst (λ (h : Thread). Lie h.operands) (sym (fit.parked t l not)) all)

  operands_lie : (t : Item) (h : Thread) → LivesAs m t h → is_living (life_at fit.lives t).phase ≡ true → Lie (own t).operands → Lie h.operands
  operands_lie _ _ (as_running t run) l all = subst (λ (h : Thread). Lie h.operands) (sym (fit.current t run)) all
  operands_lie _ _ (as_ready t some) l all = parked_lie t l (ready_once code m fit t some).1.1 all
  operands_lie _ _ (as_operating t some) l all = parked_lie t l (operating_once code m fit t some).1.1 all
  operands_lie _ _ (as_waiting t b x here owner w) l all = parked_lie t l (not_running code m fit t b x here owner w) all

  -- what stands among the operands of a thread that lives, and of those that wait for it
  pub in_its_frame : (t : Item) (h : Thread) → LivesAs m t h → Lie h.operands × All (λ (c : Caller). Lie c.operands) h.callers
  in_its_frame t h lives =
      let l = is_life code m fit t h lives in
      let i = (fit.alive t l.0).thread in (
        operands_lie t h lives l.0 (kinds_lie code fit.births m.store fit.store i.shape.operands (own t).operands i.top.have),
        subst (λ cs. All (λ (c : Caller). Lie c.operands) cs) l.1.callers
            (callers_lie code fit.births m.store fit.store t (life_at fit.lives t).start (own t).frame i.shape (own t).callers i.below i.callers),
      )

  -- and where an operation puts what it receives or reads
  pub received_in_its_frame : All (λ (o : Operation). AskedLiesThere m.store o.asked) m.operations
  received_in_its_frame k d lt = asked_lies code fit.births m.store fit.store (slice_index_or m.operations k d).link (slice_index_or m.operations k d).asked (fit.asks k d lt)
