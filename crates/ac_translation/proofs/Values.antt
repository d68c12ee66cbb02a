-- The code of an expression follows what the expression comes to, whatever is round it.
-- By induction on the expression, with what is round it left open: the machine goes on with the value on top wherever code stands for the
-- rest (Contexts). Where the source stops at an action, the machine is at its instruction with the same operands. The hard cases are `&&`
-- and `||`, which jump over their right sides.
use Rattle.std.proofs.Common.{◌≡◌, ℕ, zero, suc, ◌+◌, List, [], ◌∷◌, ◌++◌, length, map, Some, Bool, true, refl, sym, ap, ◌∙◌, subst, arith}
use Rattle.std.specs.Prelude.{slice_get, ℤ, pos, negsuc, Result, Ok, Err}
use Rattle.std.proofs.lemmas.List.{length-map}
use Rattle.ac_base.specs.declared.ends.Trap.{Trap}
use Rattle.ac_base.specs.declared.ends.EndWord.TheVariants as word
use Rattle.ac_tree.specs.declared.expr.UnaryOp.TheVariants as u
use Rattle.ac_tree.specs.declared.expr.UnaryOp.{UnaryOp}
use Rattle.ac_tree.specs.declared.expr.BinaryOp.{BinaryOp}
use Rattle.ac_tree.specs.declared.expr.BinaryOp.TheVariants as b
use Rattle.work_item.specs.declared.cell.Place as cells
use Rattle.work_item.specs.declared.cell.Cell.{Cell}
use Rattle.work_item.specs.declared.cell.Cell.TheVariants as cell
use Rattle.work_item.specs.Store.{int_in, place_in}
use Rattle.core_state.specs.Arithmetic.{Computed, at_zero, truth}
use Rattle.core_state.specs.Frames.{element, part_at}
use Rattle.ac_commands.specs.declared.value.Place.TheVariants as pl
use Rattle.ac_commands.specs.declared.value.Array.{Array}
use Rattle.ac_commands.specs.declared.value.Array.TheVariants as arr
use Rattle.ac_commands.specs.declared.value.Value.{Value, map-Value, ind-Value, fold-roll-Value}
use Rattle.ac_commands.specs.declared.value.ValueLink.{ValueLink}
use Rattle.ac_commands.specs.declared.value.Value.TheOpen.{Value-F, ValueLink-F}
use Rattle.ac_semantics.specs.Evaluation.{unary, operate, variable, reference, Head, Acting, Ending, Context, ElementAt, PartAt, Operand, First, Right, Operands}
use Rattle.ac_semantics.specs.Evaluation.{Evaluated, Comes, Traps, Stops, then_goes, then_int, then_part, comes_int, Goes, unless_decided, goes, chain_goes, row_goes, gives, resumes}
use Rattle.ac_semantics.specs.Held.{Held}
use Rattle.ac_semantics.specs.Statements.{Next, Ends, or_trap}
use Rattle.ac_semantics.specs.Threads.{CoreState}
use Rattle.ac_semantics.proofs.Forms.{then_then, then_itself, form_goes, goes_form, link_goes, operand_goes}
use Rattle.stack_code.specs.declared.instr.Instr.{Instr}
use Rattle.stack_code.specs.declared.instr.Instr.TheVariants as i
use Rattle.stack_code.specs.Parts.{Parts}
use Rattle.code_meaning.specs.Machine.{Flat}
use Rattle.ac_translation.specs.Pieces.{Exits, Piece, one, ◌⨾◌, over}
use Rattle.ac_translation.specs.Translation.{unary_code, operator_code, lazily, joined_code, chained_code, array_code, value_step, link_step, value_code, link_code, values_code, action_code}
use Rattle.ac_translation.proofs.WellFormed.{takes, fits_step, fits, link_fits, all_fit, links_fit, both_true, fits_form, link_fits_form}
use Rattle.ac_translation.proofs.Sized.{IsSized, one_sized, both_sized, over_sized, joined_sized, value_sized, values_sized}
use Rattle.ac_translation.proofs.Placed.{Placed, first_part, other_part}
use Rattle.ac_translation.proofs.Keeps.{Around, FollowsAt, KeepsAt, keeps, one_follows, piece_follows, computes}
use Rattle.ac_translation.proofs.Codes.{link_is}
use Rattle.ac_translation.proofs.Contexts.{lazy_end, HeadAt, Waits}

-- ---- outcomes

then_zero : (v : ℤ) (x y : Evaluated) (f : Cell → Evaluated) (settle : Evaluated → Next) → settle (then_goes (at_zero v x y) f) ≡ at_zero v (settle (then_goes x f)) (settle (then_goes y f))
then_zero (pos zero) x y f settle = refl
then_zero (pos (suc n)) x y f settle = refl
then_zero (negsuc n) x y f settle = refl

-- a right side that may be passed over, and what follows it
record LazyAt (code : Parts) (decided : ℤ) (right : Piece) (exits : Exits) (place to : ℕ) : Type 0 where
  right_at : Placed code.instrs right exits (place + 1) (place + 1 + right.size)
  end_at : Placed code.instrs (lazy_end (i.Push decided)) exits (place + 1 + right.size) to

lazy_at : (code : Parts) (jump : ℕ → Instr) (decided : ℤ) (right : Piece) {exits : Exits} {place to : ℕ} → IsSized right → Placed code.instrs (lazily jump (i.Push decided) right) exits place to →
    LazyAt code decided right exits place to
lazy_at code jump decided right z h =
    let last = lazy_end (i.Push decided) in
    let after_jump = other_part code.instrs (over jump (right.size + 2)) (right ⨾ last) (over_sized jump (right.size + 2)) h in
    record { right_at = first_part code.instrs right last after_jump; end_at = other_part code.instrs right last z after_jump }

module _ (code : Parts) (bound : ℕ) (R : CoreState → Flat → Type 0) (a : Around) (c : CoreState) (s : Held) where
  -- ---- single instructions

  jz_follows : {place to : ℕ} {operands : List Cell} {x y : Next} (o : Cell) (v : ℤ) → int_in o ≡ v → slice_get code.instrs place ≡ Some (i.Jz to) → KeepsAt code bound R a c s to operands x
      → KeepsAt code bound R a c s (place + 1) operands y →
      FollowsAt code bound R a c s place (o ∷ operands) (at_zero v x y)
  jz_follows {to = to} o (pos zero) e h x y = one_follows code bound R a c (i.Jz to) h x (λ k. rw e)
  jz_follows {to = to} o (pos (suc n)) e h x y = one_follows code bound R a c (i.Jz to) h y (λ k. rw e)
  jz_follows {to = to} o (negsuc n) e h x y = one_follows code bound R a c (i.Jz to) h y (λ k. rw e)

  jnz_follows : {place to : ℕ} {operands : List Cell} {x y : Next} (o : Cell) (v : ℤ) → int_in o ≡ v → slice_get code.instrs place ≡ Some (i.Jnz to) → KeepsAt code bound R a c s (place + 1) operands x
      → KeepsAt code bound R a c s to operands y →
      FollowsAt code bound R a c s place (o ∷ operands) (at_zero v x y)
  jnz_follows {to = to} o (pos zero) e h x y = one_follows code bound R a c (i.Jnz to) h x (λ k. rw e)
  jnz_follows {to = to} o (pos (suc n)) e h x y = one_follows code bound R a c (i.Jnz to) h y (λ k. rw e)
  jnz_follows {to = to} o (negsuc n) e h x y = one_follows code bound R a c (i.Jnz to) h y (λ k. rw e)

  -- a reference to an array
  reference_follows : {exits : Exits} {place to : ℕ} {operands : List Cell} {next : Next} (whole : Array) → Placed code.instrs (one (array_code whole)) exits place to →
      KeepsAt code bound R a c s to (reference s.store a.activation.frame whole ∷ operands) next → FollowsAt code bound R a c s place operands next
  reference_follows {exits} (arr.Global slot len) h f = piece_follows code bound R a c {exits = exits} (i.ArrG slot len) h f (λ k. refl)
  reference_follows {exits} (arr.Local level slot len) h f = piece_follows code bound R a c {exits = exits} (i.Arr level slot len) h f (λ k. refl)
  reference_follows {exits} (arr.Param level slot) h f = piece_follows code bound R a c {exits = exits} (i.Load level slot) h f (λ k. refl)

  unary_follows : {exits : Exits} {place to : ℕ} {operands : List Cell} {next : Next} (op : UnaryOp) (x : Cell) → Placed code.instrs (one (unary_code op)) exits place to →
      KeepsAt code bound R a c s to (cell.Int (unary op (int_in x)) ∷ operands) next → FollowsAt code bound R a c s place (x ∷ operands) next
  unary_follows {exits} u.Neg x h f = piece_follows code bound R a c {exits = exits} i.Neg h f (λ k. refl)
  unary_follows {exits} u.Not x h f = piece_follows code bound R a c {exits = exits} i.Not h f (λ k. refl)
  unary_follows {exits} u.Flip x h f = piece_follows code bound R a c {exits = exits} i.Flip h f (λ k. refl)

  -- the end of a right side comes to 0 or 1, and past it stands what is decided without it
  truth_follows : {exits : Exits} {place to : ℕ} {operands : List Cell} {next : Next} (decided : ℤ) (y : Cell) → Placed code.instrs (lazy_end (i.Push decided)) exits place to →
      KeepsAt code bound R a c s to (cell.Int (truth (int_in y)) ∷ operands) next → FollowsAt code bound R a c s place (y ∷ operands) next
  truth_follows {exits} {place} {to} {operands} {next} decided y h f =
      let last = one (i.Push decided) in
      let jump_at = other_part code.instrs (one i.Bool) (over i.Jump 1 ⨾ last) (one_sized i.Bool) h in
      let ends = jump_at.ends in
      let out : to ≡ place + 1 + 1 + 1 = omega (arith, ends) in
      piece_follows code bound R a c {exits = exits} i.Bool (first_part code.instrs (one i.Bool) (over i.Jump 1 ⨾ last) h)
      (keeps code bound R a c
      (one_follows code bound R a c {s = s} (i.Jump (place + 1 + 1 + 1)) jump_at.has.0
      (subst (λ n. KeepsAt code bound R a c s n (cell.Int (truth (int_in y)) ∷ operands) next) out f) (λ k. refl)))
      (λ k. refl)

  decided_follows : {exits : Exits} {place to : ℕ} {operands : List Cell} {next : Next} (decided : ℤ) → Placed code.instrs (lazy_end (i.Push decided)) exits place to →
      KeepsAt code bound R a c s to (cell.Int decided ∷ operands) next → FollowsAt code bound R a c s (place + 1 + 1) operands next
  decided_follows {exits} {place} {to} {operands} {next} decided h f =
      let last = one (i.Push decided) in
      let jump_at = other_part code.instrs (one i.Bool) (over i.Jump 1 ⨾ last) (one_sized i.Bool) h in
      piece_follows code bound R a c {exits = exits} (i.Push decided) (other_part code.instrs (over i.Jump 1) last (over_sized i.Jump 1) jump_at) f (λ k. refl)

  -- A statement settles what its operands come to. A trap ends the core, and where an action or the statement takes its operands the machine
  -- follows.
  module _ (settle : Evaluated → Next) (Last : ℕ → ℕ → Type 0) (traps : (trap : Trap) → settle (Traps trap) ≡ Ends (word.Trapped trap) s)
      (stops : (head : Head) (values : List Cell) (around : List Context) (place count : ℕ) (below : List Cell) → count ≡ length values →
      HeadAt code.instrs head place count below (λ to under. Waits code.instrs around to under Last) Last →
      FollowsAt code bound R a c s place (values ++ below) (settle (Stops head values around))) where
    abbrev FollowsTo : ℕ → List Cell → Evaluated → Type 0
    FollowsTo place operands o = FollowsAt code bound R a c s place operands (settle o)

    abbrev Open : List Context → ℕ → List Cell → Type 0
    Open around place operands = Waits code.instrs around place operands Last

    -- wherever the code stands for what is round the open place, it goes on with any cell in it
    abbrev pub GoesOn : List Context → (Cell → Evaluated) → Type 0
    GoesOn around f = (place : ℕ) (operands : List Cell) → Open around place operands → (v : Cell) → FollowsTo place (v ∷ operands) (f v)

    -- the piece comes to what the expression comes to, and goes on from there
    pub record Evaluates (p : Piece) (g : Goes) : Type 0 where
      pub by : {exits : Exits} {place to : ℕ} {operands : List Cell} (around : List Context) (f : Cell → Evaluated) → Placed code.instrs p exits place to → Open around to operands → GoesOn around f
          → FollowsTo place operands (then_goes (g around) f)

    abbrev means : Value → Goes
    means x = goes s.store a.activation.frame x

    abbrev IsFollowed : Value → Type 0
    IsFollowed x = fits x ≡ true → Evaluates (value_code x) (means x)

    abbrev AllFollow : List Value → Type 0
    AllFollow [] = Unit {0}
    AllFollow (x ∷ xs) = IsFollowed x × AllFollow xs

    abbrev LinksFollow : List ValueLink → Type 0
    LinksFollow [] = Unit {0}
    LinksFollow (l ∷ links) = IsFollowed l.operand × LinksFollow links

    int_settles : (r : Computed) (h : ℤ → Evaluated) (f : Cell → Evaluated) → settle (then_goes (then_int r h) f) ≡ or_trap s r (λ v. settle (then_goes (h v) f))
    int_settles (Ok v) h f = refl
    int_settles (Err trap) h f = traps trap

    part_settles : (r : Result cells.Place Trap) (f : Cell → Evaluated) → settle (then_goes (then_part r) f) ≡ or_trap s r (λ p. settle (f (cell.Array p)))
    part_settles (Ok p) f = refl
    part_settles (Err trap) f = traps trap

    -- ---- one cell in each kind of open place

    module _ (around : List Context) (f : Cell → Evaluated) (g : GoesOn around f) where
      element_on : (whole : cells.Place) → GoesOn (ElementAt whole ∷ around) (λ y. then_goes (gives s.store a.activation.frame (ElementAt whole) y around) f)
      element_on whole place operands w y =
          let o = w.lies.0 in
          let r = element s.store (place_in o) (int_in y) in
          let run : FollowsTo place (y ∷ o ∷ w.below) (then_goes (then_int r comes_int) f) =
          subst (FollowsAt code bound R a c s place (y ∷ o ∷ w.below)) (sym (int_settles r comes_int f))
          (computes code bound R a c {exits = w.exits} i.Elem r (λ v. s) (λ v. cell.Int v ∷ w.below) (λ v. settle (f (cell.Int v))) w.stands (λ k. refl)
          (λ v. keeps code bound R a c (g w.to w.below w.rest (cell.Int v)))) in
          subst (λ p. FollowsTo place (y ∷ operands) (then_goes (then_int (element s.store p (int_in y)) comes_int) f)) w.lies.2
          (subst (λ ops. FollowsTo place (y ∷ ops) (then_goes (then_int r comes_int) f)) (sym w.lies.1) run)

      part_on : (whole : cells.Place) → GoesOn (PartAt whole ∷ around) (λ y. then_goes (gives s.store a.activation.frame (PartAt whole) y around) f)
      part_on whole place operands w y =
          let o = w.lies.0 in
          let r = part_at (place_in o) (int_in y) in
          let run : FollowsTo place (y ∷ o ∷ w.below) (then_goes (then_part r) f) =
          subst (FollowsAt code bound R a c s place (y ∷ o ∷ w.below)) (sym (part_settles r f))
          (computes code bound R a c {exits = w.exits} i.Place r (λ p. s) (λ p. cell.Array p ∷ w.below) (λ p. settle (f (cell.Array p))) w.stands (λ k. refl)
          (λ p. keeps code bound R a c (g w.to w.below w.rest (cell.Array p)))) in
          subst (λ p. FollowsTo place (y ∷ operands) (then_goes (then_part (part_at p (int_in y))) f)) w.lies.2
          (subst (λ ops. FollowsTo place (y ∷ ops) (then_goes (then_part r) f)) (sym w.lies.1) run)

      operand_on : (op : UnaryOp) → GoesOn (Operand op ∷ around) (λ x. then_goes (gives s.store a.activation.frame (Operand op) x around) f)
      operand_on op place operands w x = unary_follows {exits = w.exits} op x w.stands (keeps code bound R a c (g w.to operands w.rest (cell.Int (unary op (int_in x)))))

      -- what follows a left operand
      pub record ChainOn (links : List ValueLink) : Type 0 where
        pub by : {exits : Exits} {place to : ℕ} {operands : List Cell} (x : Cell) → Placed code.instrs (chained_code (map link_code links)) exits place to → Open around to operands
            → FollowsTo place (x ∷ operands) (then_goes (chain_goes s.store a.activation.frame x links around) f)

      right_on : (x : ℤ) (op : BinaryOp) (links : List ValueLink) → ChainOn links →
          GoesOn (Right x op links ∷ around) (λ y. then_goes (gives s.store a.activation.frame (Right x op links) y around) f)
      right_on x b.Or links more place operands w y =
          subst (λ ops. FollowsTo place (y ∷ ops) (then_goes (gives s.store a.activation.frame (Right x b.Or links) y around) f)) (sym w.lies)
          (truth_follows {exits = w.exits} (pos 1) y w.operator (keeps code bound R a c (more.by (cell.Int (truth (int_in y))) w.others w.rest)))
      right_on x b.And links more place operands w y =
          subst (λ ops. FollowsTo place (y ∷ ops) (then_goes (gives s.store a.activation.frame (Right x b.And links) y around) f)) (sym w.lies)
          (truth_follows {exits = w.exits} (pos 0) y w.operator (keeps code bound R a c (more.by (cell.Int (truth (int_in y))) w.others w.rest)))
      right_on x op links more place operands w y =
          let o = w.lies.0 in
          let r = operate op (int_in o) (int_in y) in
          let h = λ (v : ℤ). chain_goes s.store a.activation.frame (cell.Int v) links around in
          let run : FollowsTo place (y ∷ o ∷ w.below) (then_goes (then_int r h) f) =
          subst (FollowsAt code bound R a c s place (y ∷ o ∷ w.below)) (sym (int_settles r h f))
          (computes code bound R a c {exits = w.exits} (operator_code op) r (λ v. s) (λ v. cell.Int v ∷ w.below) (λ v. settle (then_goes (h v) f)) w.operator (λ k. refl)
          (λ v. keeps code bound R a c (more.by (cell.Int v) w.others w.rest))) in
          subst (λ z. FollowsTo place (y ∷ operands) (then_goes (then_int (operate op z (int_in y)) h) f)) w.lies.2
          (subst (λ ops. FollowsTo place (y ∷ ops) (then_goes (then_int r h) f)) (sym w.lies.1) run)

      first_on : (links : List ValueLink) → ChainOn links → GoesOn (First links ∷ around) (λ x. then_goes (gives s.store a.activation.frame (First links) x around) f)
      first_on links more place operands w x = more.by {exits = w.1.exits} x w.1.stands w.1.rest

      -- a row of operands, of which these are computed
      pub record RowOn (head : Head) (values : List Cell) (xs : List Value) : Type 0 where
        pub by : {exits : Exits} {place to count : ℕ} (below : List Cell) → count ≡ length values + length xs → Placed code.instrs (values_code xs) exits place to →
            HeadAt code.instrs head to count below (λ to under. Open around to under) Last
            → FollowsTo place (values ++ below) (then_goes (row_goes s.store a.activation.frame head values xs around) f)

      operands_on : (head : Head) (values : List Cell) (xs : List Value) → ((v : Cell) → RowOn head (v ∷ values) xs) →
          GoesOn (Operands head values xs ∷ around) (λ v. then_goes (gives s.store a.activation.frame (Operands head values xs) v around) f)
      operands_on head values xs more place operands w v =
          let count : length values + 1 + length xs ≡ length (v ∷ values) + length xs = omega arith in
          subst (λ ops. FollowsTo place (v ∷ ops) (then_goes (row_goes s.store a.activation.frame head (v ∷ values) xs around) f)) (sym w.lies)
          ((more v).by {exits = w.exits} w.below count w.stands w.rest)

    -- ---- chains

    module _ (around : List Context) (f : Cell → Evaluated) (g : GoesOn around f) where
      abbrev after_right : ℤ → BinaryOp → List ValueLink → Cell → Evaluated
      after_right x op links v = gives s.store a.activation.frame (Right x op links) v around

      abbrev right_goes : ℤ → BinaryOp → Value → List ValueLink → Evaluated
      right_goes x op y links = then_goes (means y (Right x op links ∷ around)) (after_right x op links)

      -- a right operand, and what is done with it
      right_follows : (op : BinaryOp) (y : Value) (links : List ValueLink) → Evaluates (value_code y) (means y) → ChainOn around f g links →
          (x : ℤ) {exits : Exits} {place to : ℕ} {operands : List Cell} →
          Placed code.instrs (value_code y) exits place to → Open (Right x op links ∷ around) to operands → FollowsTo place operands (then_goes (right_goes x op y links) f)
      right_follows op y links e more x {exits} {place} {to} {operands} h w =
          subst (FollowsTo place operands) (sym (then_then (means y (Right x op links ∷ around)) (after_right x op links) f))
          (e.by (Right x op links ∷ around) (λ v. then_goes (after_right x op links v) f) h w (right_on around f g x op links more))

      -- an operator and its right operand, before the rest of a chain
      -- By the operator: the plain ones compute with both operands; the two others decide by the left one whether the right side is looked at.
      joined_on : (op : BinaryOp) (y : Value) (links : List ValueLink) → Evaluates (value_code y) (means y) → links_fit links ≡ true → ChainOn around f g links →
          (x : Cell) {exits : Exits} {place to : ℕ} {operands : List Cell} →
          Placed code.instrs (joined_code op (value_code y) ⨾ chained_code (map link_code links)) exits place to → Open around to operands →
          FollowsTo place (x ∷ operands) (then_goes
          (unless_decided op (int_in x) (λ v. chain_goes s.store a.activation.frame (cell.Int v) links around) (right_goes (int_in x) op y links)) f)
      joined_on b.Or y links e fit more x {exits} {place} {to} {operands} h w =
          let right = value_code y in
          let others = chained_code (map link_code links) in
          let lazy = lazy_at code i.Jnz (pos 1) right (value_sized y) (first_part code.instrs (joined_code b.Or right) others h) in
          let others_at = other_part code.instrs (joined_code b.Or right) others (joined_sized b.Or right (value_sized y)) h in
          let past : place + 1 + right.size + 1 + 1 ≡ place + 1 + (right.size + 2) = omega arith in
          let one_is = chain_goes s.store a.activation.frame (cell.Int (pos 1)) links around in
          subst (FollowsAt code bound R a c s place (x ∷ operands)) (sym (then_zero (int_in x) (right_goes (int_in x) b.Or y links) one_is f settle))
          (jnz_follows x (int_in x) refl h.has.0
          (keeps code bound R a c (right_follows b.Or y links e more (int_in x) lazy.right_at
          (record { exits = exits; after = _; to = to; below = operands; operator = lazy.end_at; others = others_at; fit = fit; lies = refl; rest = w })))
          (keeps code bound R a c (subst (λ n. FollowsTo n operands (then_goes one_is f)) past
          (decided_follows {exits = exits} (pos 1) lazy.end_at (keeps code bound R a c (more.by (cell.Int (pos 1)) others_at w))))))
      joined_on b.And y links e fit more x {exits} {place} {to} {operands} h w =
          let right = value_code y in
          let others = chained_code (map link_code links) in
          let lazy = lazy_at code i.Jz (pos 0) right (value_sized y) (first_part code.instrs (joined_code b.And right) others h) in
          let others_at = other_part code.instrs (joined_code b.And right) others (joined_sized b.And right (value_sized y)) h in
          let past : place + 1 + right.size + 1 + 1 ≡ place + 1 + (right.size + 2) = omega arith in
          let nought_is = chain_goes s.store a.activation.frame (cell.Int (pos 0)) links around in
          subst (FollowsAt code bound R a c s place (x ∷ operands)) (sym (then_zero (int_in x) nought_is (right_goes (int_in x) b.And y links) f settle))
          (jz_follows x (int_in x) refl h.has.0
          (keeps code bound R a c (subst (λ n. FollowsTo n operands (then_goes nought_is f)) past
          (decided_follows {exits = exits} (pos 0) lazy.end_at (keeps code bound R a c (more.by (cell.Int (pos 0)) others_at w)))))
          (keeps code bound R a c (right_follows b.And y links e more (int_in x) lazy.right_at
          (record { exits = exits; after = _; to = to; below = operands; operator = lazy.end_at; others = others_at; fit = fit; lies = refl; rest = w }))))
      joined_on op y links e fit more x {exits} {place} {to} {operands} h w =
          let right = value_code y in
          let last = one (operator_code op) in
          let others = chained_code (map link_code links) in
          let both_at = first_part code.instrs (right ⨾ last) others h in
          right_follows op y links e more (int_in x) (first_part code.instrs right last both_at)
          (record {
            exits = exits;
            after = place + (right.size + 1);
            to = to;
            below = operands;
            operator = other_part code.instrs right last (value_sized y) both_at;
            others = other_part code.instrs (right ⨾ last) others (both_sized right last (value_sized y) (one_sized (operator_code op))) h;
            fit = fit;
            lies = (x, refl, refl);
            rest = w;
          })

      chain_on : (links : List ValueLink) → LinksFollow links → links_fit links ≡ true → ChainOn around f g links
      chain_on [] all fit = record {
        by = λ {exits} {place} {to} {operands} x h w.
            let ends = h.ends in
            let same : to ≡ place = omega (arith, ends) in
            subst (λ n. FollowsTo n (x ∷ operands) (f x)) same (g to operands w x);
      }
      chain_on (l ∷ links) all fit = record {
        by = λ {exits} {place} {to} {operands} x h w.
            let both = both_true (link_fits l) (links_fit links) fit in
            let others = chained_code (map link_code links) in
            let now = subst (λ (q : BinaryOp × Piece). Placed code.instrs (joined_code q.0 q.1 ⨾ others) exits place to) (link_is l) h in
            subst (λ o. FollowsTo place (x ∷ operands) (then_goes o f)) (sym (link_goes s.store a.activation.frame x l links around))
            (joined_on l.op l.operand links (all.0 (sym (link_fits_form l) ∙ both.0)) both.1 (chain_on links all.1 both.1) x now w);
      }

      -- ---- operands

      -- By induction over the operands that are left; each comes on top of those before it, and behind the last is what takes them.
      row_on : (head : Head) (values : List Cell) (xs : List Value) → AllFollow xs → all_fit xs ≡ true → RowOn around f g head values xs
      row_on head values [] all fit = record {
        by = λ {exits} {place} {to} {count} below e h w.
            let ends = h.ends in
            let same : to ≡ place = omega (arith, ends) in
            let many : count ≡ length values = omega (arith, e) in
            subst (λ n. FollowsTo n (values ++ below) (Stops head values around)) same (stops head values around to count below many w);
      }
      row_on head values (x ∷ xs) all fit = record {
        by = λ {exits} {place} {to} {count} below e h w.
            let both = both_true (fits x) (all_fit xs) fit in
            let others = values_code xs in
            let many : count ≡ length values + 1 + length xs = omega (arith, e) in
            let meant = λ (v : Cell). gives s.store a.activation.frame (Operands head values xs) v around in
            subst (λ o. FollowsTo place (values ++ below) (then_goes o f)) (sym (operand_goes s.store a.activation.frame head values x xs around))
            (subst (FollowsTo place (values ++ below)) (sym (then_then (means x (Operands head values xs ∷ around)) meant f))
            ((all.0 both.0).by (Operands head values xs ∷ around) (λ v. then_goes (meant v) f) (first_part code.instrs (value_code x) others h) (record {
              exits = exits;
              to = to;
              below = below;
              stands = other_part code.instrs (value_code x) others (value_sized x) h;
              fit = both.1;
              lies = refl;
              rest = subst (λ n. HeadAt code.instrs head to n below (λ q under. Open around q under) Last) many w;
            }) (operands_on around f g head values xs (λ v. row_on head (v ∷ values) xs all.1 both.1))));
      }

    -- ---- all values

    abbrev Value_ : Type 0
    Value_ = (x : Value) × IsFollowed x

    abbrev Link_ : Type 0
    Link_ = (l : ValueLink) × IsFollowed l.operand

    abbrev links_of : List Link_ → List ValueLink
    links_of links = map (λ (l : Link_). l.0) links

    abbrev values_of : List Value_ → List Value
    values_of xs = map (λ (x : Value_). x.0) xs

    links_follow : (links : List Link_) → LinksFollow (links_of links)
    links_follow [] = tt
    links_follow (l ∷ links) = (l.1, links_follow links)

    values_follow : (xs : List Value_) → AllFollow (values_of xs)
    values_follow [] = tt
    values_follow (x ∷ xs) = (x.1, values_follow xs)

    abbrev Layer : Value-F Value ValueLink → Type 0
    Layer x = fits_step (map-Value Value ValueLink Bool Bool fits link_fits x) ≡ true → Evaluates (value_step (map-Value Value ValueLink Piece (BinaryOp × Piece) value_code link_code x))
        (form_goes s.store a.activation.frame x)

    -- Each form by the law for its kind of open place above.
    layer : (y : Value-F Value_ Link_) → Layer (map-Value Value_ Link_ Value ValueLink (λ x. x.0) (λ l. l.0) y)
    layer (Value-F.Number n) fit = record {
      by = λ {exits} {place} {to} {operands} around f h w g. piece_follows code bound R a c {exits = exits} (i.Push n) h (keeps code bound R a c (g to operands w (cell.Int n))) (λ k. refl);
    }
    layer (Value-F.Variable (pl.Global slot)) fit = record {
      by = λ {exits} {place} {to} {operands} around f h w g.
          piece_follows code bound R a c {exits = exits} (i.LoadG slot) h (keeps code bound R a c (g to operands w (variable s.store a.activation.frame (pl.Global slot)))) (λ k. refl);
    }
    layer (Value-F.Variable (pl.Local level slot)) fit = record {
      by = λ {exits} {place} {to} {operands} around f h w g.
          piece_follows code bound R a c {exits = exits} (i.Load level slot) h (keeps code bound R a c (g to operands w (variable s.store a.activation.frame (pl.Local level slot)))) (λ k. refl);
    }
    layer (Value-F.Reference whole) fit = record {
      by = λ {exits} {place} {to} {operands} around f h w g.
          reference_follows {exits = exits} whole h (keeps code bound R a c (g to operands w (reference s.store a.activation.frame whole)));
    }
    layer (Value-F.Element whole index) fit = record {
      by = λ {exits} {place} {to} {operands} around f h w g.
          let o = reference s.store a.activation.frame whole in
          let inner = value_code index.0 in
          let index_at = other_part code.instrs (one (array_code whole)) (inner ⨾ one i.Elem) (one_sized (array_code whole)) h in
          let meant = λ (v : Cell). gives s.store a.activation.frame (ElementAt (place_in o)) v around in
          reference_follows {exits = exits} whole (first_part code.instrs (one (array_code whole)) (inner ⨾ one i.Elem) h)
          (keeps code bound R a c (subst (FollowsTo (place + 1) (o ∷ operands)) (sym (then_then (means index.0 (ElementAt (place_in o) ∷ around)) meant f))
          ((index.1 fit).by (ElementAt (place_in o) ∷ around) (λ v. then_goes (meant v) f) (first_part code.instrs inner (one i.Elem) index_at) (record {
            exits = exits;
            to = to;
            below = operands;
            stands = other_part code.instrs inner (one i.Elem) (value_sized index.0) index_at;
            lies = (o, refl, refl);
            rest = w;
          }) (element_on around f g (place_in o)))));
    }
    layer (Value-F.Part whole index) fit = record {
      by = λ {exits} {place} {to} {operands} around f h w g.
          let o = reference s.store a.activation.frame whole in
          let inner = value_code index.0 in
          let index_at = other_part code.instrs (one (array_code whole)) (inner ⨾ one i.Place) (one_sized (array_code whole)) h in
          let meant = λ (v : Cell). gives s.store a.activation.frame (PartAt (place_in o)) v around in
          reference_follows {exits = exits} whole (first_part code.instrs (one (array_code whole)) (inner ⨾ one i.Place) h)
          (keeps code bound R a c (subst (FollowsTo (place + 1) (o ∷ operands)) (sym (then_then (means index.0 (PartAt (place_in o) ∷ around)) meant f))
          ((index.1 fit).by (PartAt (place_in o) ∷ around) (λ v. then_goes (meant v) f) (first_part code.instrs inner (one i.Place) index_at) (record {
            exits = exits;
            to = to;
            below = operands;
            stands = other_part code.instrs inner (one i.Place) (value_sized index.0) index_at;
            lies = (o, refl, refl);
            rest = w;
          }) (part_on around f g (place_in o)))));
    }
    layer (Value-F.Unary op operand) fit = record {
      by = λ {exits} {place} {to} {operands} around f h w g.
          let inner = value_code operand.0 in
          let meant = λ (v : Cell). gives s.store a.activation.frame (Operand op) v around in
          subst (FollowsTo place operands) (sym (then_then (means operand.0 (Operand op ∷ around)) meant f))
          ((operand.1 fit).by (Operand op ∷ around) (λ v. then_goes (meant v) f) (first_part code.instrs inner (one (unary_code op)) h) (record {
            exits = exits;
            to = to;
            stands = other_part code.instrs inner (one (unary_code op)) (value_sized operand.0) h;
            rest = w;
          }) (operand_on around f g op));
    }
    layer (Value-F.Chain first rest) fit = record {
      by = λ {exits} {place} {to} {operands} around f h w g.
          let links = links_of rest in
          let both = both_true (fits first.0) (links_fit links) fit in
          let left = value_code first.0 in
          let right = chained_code (map link_code links) in
          let meant = λ (v : Cell). gives s.store a.activation.frame (First links) v around in
          subst (FollowsTo place operands) (sym (then_then (means first.0 (First links ∷ around)) meant f))
          ((first.1 both.0).by (First links ∷ around) (λ v. then_goes (meant v) f) (first_part code.instrs left right h) (
            both.1,
            record {
              exits = exits;
              to = to;
              stands = other_part code.instrs left right (value_sized first.0) h;
              rest = w;
            },
          ) (first_on around f g links (chain_on around f g links (links_follow rest) both.1)));
    }
    layer (Value-F.Act action operands) fit = record {
      by = λ {exits} {place} {to} {operands = below} around f h w g.
          let xs = values_of operands in
          let last = one (action_code action (length (map value_code xs))) in
          let act_at = other_part code.instrs (values_code xs) last (values_sized xs) h in
          let same_length = length-map xs value_code in
          let both = both_true (takes action (length (map fits xs))) (all_fit xs) fit in
          let taken : takes action (length (map value_code xs)) ≡ true = ap (takes action) (same_length ∙ sym (length-map xs fits)) ∙ both.0 in
          (row_on around f g (Acting action) [] xs (values_follow operands) both.1).by below (omega (arith, same_length)) (first_part code.instrs (values_code xs) last h)
          (act_at.has.0, taken, subst (λ n. Open around n below) (sym act_at.ends) w);
    }

    evaluates_as : {p p' : Piece} {g g' : Goes} → p ≡ p' → ((around : List Context) → g around ≡ g' around) → Evaluates p' g' → Evaluates p g
    evaluates_as {p} {p'} {g} {g'} e same h = record {
      by = λ {exits} {place} {to} {operands} around f k w go.
          subst (λ o. FollowsTo place operands (then_goes o f)) (sym (same around)) (h.by around f (subst (λ q. Placed code.instrs q exits place to) e k) w go);
    }

    pub value_follows : (x : Value) → IsFollowed x
    value_follows =
        ind-Value IsFollowed (λ l. IsFollowed l.operand)
        (λ x y is fit. evaluates_as (fold-roll-Value Piece (BinaryOp × Piece) value_step link_step x) (goes_form s.store a.activation.frame x)
        (subst Layer is (layer y) (sym (fits_form x) ∙ fit)))
        (λ x y is. subst (λ (z : ValueLink-F Value ValueLink). IsFollowed z.operand) is y.operand.1)

    all_links : (links : List ValueLink) → LinksFollow links
    all_links [] = tt
    all_links (l ∷ links) = (value_follows l.operand, all_links links)

    all_values : (xs : List Value) → AllFollow xs
    all_values [] = tt
    all_values (x ∷ xs) = (value_follows x, all_values xs)

    -- ---- going on

    gives_on : (x : Context) (around : List Context) (f : Cell → Evaluated) (g : GoesOn around f) → GoesOn (x ∷ around) (λ v. then_goes (gives s.store a.activation.frame x v around) f)
    gives_on (ElementAt whole) around f g place operands w v = element_on around f g whole place operands w v
    gives_on (PartAt whole) around f g place operands w v = part_on around f g whole place operands w v
    gives_on (Operand op) around f g place operands w v = operand_on around f g op place operands w v
    gives_on (First links) around f g place operands w v =
        first_on around f g links (chain_on around f g links (all_links links) w.0) place operands w v
    gives_on (Right x op links) around f g place operands w v =
        right_on around f g x op links (chain_on around f g links (all_links links) w.fit) place operands w v
    gives_on (Operands head values xs) around f g place operands w v =
        operands_on around f g head values xs (λ u. row_on around f g head (u ∷ values) xs (all_values xs) w.fit) place operands w v

    pub resumes_on : (around : List Context) → GoesOn around (λ v. resumes s.store a.activation.frame around v)
    resumes_on [] place operands w v = absurd w
    resumes_on (x ∷ around) place operands w v = gives_on x around (λ u. resumes s.store a.activation.frame around u) (resumes_on around) place operands w v

    -- ---- the operands of a statement

    pub operands_follow : (x : Value) (xs : List Value) → all_fit (x ∷ xs) ≡ true → {exits : Exits} {place to : ℕ} → Placed code.instrs (values_code (x ∷ xs)) exits place to → Last to
        (length (x ∷ xs)) →
        FollowsTo place [] (row_goes s.store a.activation.frame Ending [] (x ∷ xs) [])
    operands_follow x xs fit {place = place} {to = to} h last =
        let count : length (x ∷ xs) ≡ 0 + length (x ∷ xs) = omega arith in
        subst (FollowsTo place []) (then_itself (row_goes s.store a.activation.frame Ending [] (x ∷ xs) []))
        ((row_on [] Comes (λ p operands w v. absurd w) Ending [] (x ∷ xs) (all_values (x ∷ xs)) fit).by [] count h (refl, omega arith, last))
