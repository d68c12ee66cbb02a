-- What outcomes come to, and chains operator by operator.
-- The interpreter evaluates chains and rows from place to place with a list of what is round it; the meaning goes by parts. Each law takes
-- one operand further: what is no value is what the whole comes to, with what is left of the chain or row put round it.
use Rattle.std.proofs.Common.{◌≡◌, ℕ, ◌+◌, ◌<◌, List, [], ◌∷◌, ◌++◌, length, drop, refl, sym, ap, ◌∙◌, subst, arith}
use Rattle.std.specs.Prelude.{ℤ, pos, negsuc, zero, suc, reverse, slice_index_or, Result, Ok, Err, IfOk}
use Rattle.std.proofs.lemmas.List.{reverse-append}
use Rattle.ac_base.specs.declared.memory.NoMemory.{NoMemory}
use Rattle.ac_tree.specs.declared.expr.BinaryOp.{BinaryOp}
use Rattle.ac_tree.specs.declared.expr.BinaryOp.TheVariants as b
use Rattle.work_item.specs.declared.ids.FrameId.{FrameId}
use Rattle.work_item.specs.declared.cell.Cell.{Cell}
use Rattle.work_item.specs.declared.cell.Cell.TheVariants as cell
use Rattle.work_item.specs.Store.{Store, int_in}
use Rattle.core_state.specs.Arithmetic.{Computed}
use Rattle.ac_commands.specs.declared.value.Value.{Value}
use Rattle.ac_commands.specs.declared.value.Value.TheVariants as v
use Rattle.ac_commands.specs.declared.value.ValueLink.{ValueLink}
use Rattle.ac_semantics.specs.Evaluation as s
use Rattle.ac_semantics.proofs.Forms.{link_goes, chain_of, operand_goes}
use Rattle.interpreter_steps.specs.declared.pending.Evaluated.{Evaluated}
use Rattle.interpreter_steps.specs.declared.pending.Evaluated.TheVariants as k
use Rattle.interpreter_steps.specs.inner.Pending.{IsOutcome}
use Rattle.interpreter_steps.specs.inner.Chains.{joined}

-- ---- what is not a value is what it all comes to

pub no_value : (x : Evaluated) (left around : List s.Context) (out : s.Evaluated) (f : Cell → s.Evaluated) → ((v : Cell) → x ≡ k.Comes v → ⊥)
    → IsOutcome x left around out → IsOutcome x left around (s.then_goes out f)
no_value (k.Comes v) left around out f other h = absurd (other v refl)
no_value (k.Traps trap) left around out f other h = ap (λ z. s.then_goes z f) h
no_value (k.Stops head operands) left around out f other h = ap (λ z. s.then_goes z f) h

-- ---- chains

under_decided : (h : s.Evaluated → s.Evaluated) (op : BinaryOp) (x : ℤ) (d : ℤ → s.Evaluated) (r : s.Evaluated) → h (s.unless_decided op x d r) ≡ s.unless_decided op x (λ v. h (d v)) (h r)
under_decided h b.Or (pos zero) d r = refl
under_decided h b.Or (pos (suc n)) d r = refl
under_decided h b.Or (negsuc n) d r = refl
under_decided h b.And (pos zero) d r = refl
under_decided h b.And (pos (suc n)) d r = refl
under_decided h b.And (negsuc n) d r = refl
under_decided h b.BitOr x d r = refl
under_decided h b.BitXor x d r = refl
under_decided h b.BitAnd x d r = refl
under_decided h b.Eq x d r = refl
under_decided h b.Ne x d r = refl
under_decided h b.Less x d r = refl
under_decided h b.LessEq x d r = refl
under_decided h b.More x d r = refl
under_decided h b.MoreEq x d r = refl
under_decided h b.Shl x d r = refl
under_decided h b.Shr x d r = refl
under_decided h b.Add x d r = refl
under_decided h b.Sub x d r = refl
under_decided h b.Mul x d r = refl
under_decided h b.Div x d r = refl
under_decided h b.Rem x d r = refl

then_computed : (r : Computed) (f : Cell → s.Evaluated) → s.then_goes (s.then_int r s.comes_int) f ≡ s.then_int r (λ v. f (cell.Int v))
then_computed (Ok v) f = refl
then_computed (Err trap) f = refl

module _ (store : Store) (frame : FrameId) where
  right_side : (out : s.Evaluated) (op : BinaryOp) (x : ℤ) (links : List ValueLink) (around : List s.Context) →
      s.then_goes (s.then_goes out (λ y. s.then_int (s.operate op x (int_in y)) s.comes_int)) (λ v. s.chain_goes store frame v links around)
      ≡ s.then_goes out (λ y. s.gives store frame (s.Right x op links) y around)
  right_side (s.Comes y) op x links around = then_computed (s.operate op x (int_in y)) (λ v. s.chain_goes store frame v links around)
  right_side (s.Traps trap) op x links around = refl
  right_side (s.Stops head operands outer) op x links around = refl

  pub chain_joined : (x : Cell) (link : ValueLink) (links : List ValueLink) (around : List s.Context) →
      s.chain_goes store frame x (link ∷ links) around ≡ s.then_goes (joined store frame (int_in x) link links around) (λ v. s.chain_goes store frame v links around)
  chain_joined x link links around =
      let right = s.goes store frame link.operand (s.Right (int_in x) link.op links ∷ around) in
      link_goes store frame x link links around
      ∙ sym (ap (s.unless_decided link.op (int_in x) (λ v. s.chain_goes store frame (cell.Int v) links around)) (right_side right link.op (int_in x) links around))
      ∙ sym (under_decided (λ out. s.then_goes out (λ v. s.chain_goes store frame v links around)) link.op (int_in x) s.comes_int
      (s.then_goes right (λ y. s.then_int (s.operate link.op (int_in x) (int_in y)) s.comes_int)))

-- ---- from place to place

drop_is : {A : Type 0} (xs : List A) (n : ℕ) (x : A) → n < length xs → x ≡ slice_index_or xs n x → drop n xs ≡ x ∷ drop (n + 1) xs
drop_is [] n x lt e = absurd (omega arith)
drop_is (y ∷ xs) zero x lt e = ap (λ z. z ∷ xs) (sym e)
drop_is (y ∷ xs) (suc n) x lt e =
    let later : suc n + 1 ≡ suc (n + 1) = omega arith in
    drop_is xs n x (omega arith) e ∙ sym (ap (λ i. x ∷ drop i (y ∷ xs)) later)

module _ (store : Store) (frame : FrameId) where
  -- what a chain comes to at its next operator
  chain_at : (x first : Cell) (links : List ValueLink) (n : ℕ) (link : ValueLink) (around : List s.Context) → n < length links → link ≡ slice_index_or links n link
      → s.chain_goes store frame x (drop n links) around ≡ s.chain_goes store frame first links around →
      s.chain_goes store frame first links around ≡ s.then_goes (joined store frame (int_in x) link (drop (n + 1) links) around) (λ v. s.chain_goes store frame v (drop (n + 1) links) around)
  chain_at x first links n link around lt is same =
      sym same ∙ ap (λ ls. s.chain_goes store frame x ls around) (drop_is links n link lt is) ∙ chain_joined store frame x link (drop (n + 1) links) around

  pub chain_ends : (o : Evaluated) (x first : Cell) (links : List ValueLink) (n : ℕ) (link : ValueLink) (left old new : List s.Context) → n < length links → link ≡ slice_index_or links n link
      → s.chain_goes store frame x (drop n links) left ≡ s.chain_goes store frame first links left → old ≡ left → ((v : Cell) → o ≡ k.Comes v → ⊥)
      → IsOutcome o old new (joined store frame (int_in x) link (drop (n + 1) links) old) → IsOutcome o left new (s.chain_goes store frame first links left)
  chain_ends o x first links n link left old new lt is same e other h =
      let out = joined store frame (int_in x) link (drop (n + 1) links) left in
      let stop : IsOutcome o left new out = subst (λ (a : List s.Context). IsOutcome o a new (joined store frame (int_in x) link (drop (n + 1) links) a)) e h in
      subst (IsOutcome o left new) (sym (chain_at x first links n link left lt is same)) (no_value o left new out (λ v. s.chain_goes store frame v (drop (n + 1) links) left) other stop)

  pub chain_goes_on : (o : Evaluated) (v x first : Cell) (links : List ValueLink) (n : ℕ) (link : ValueLink) (left old new : List s.Context) → n < length links → link ≡ slice_index_or links n link
      → s.chain_goes store frame x (drop n links) left ≡ s.chain_goes store frame first links left → old ≡ left
      → o ≡ k.Comes v → IsOutcome o old new (joined store frame (int_in x) link (drop (n + 1) links) old) →
      (s.chain_goes store frame v (drop (n + 1) links) left ≡ s.chain_goes store frame first links left) × (new ≡ left)
  chain_goes_on o v x first links n link left old new lt is same e came all =
      let h : IsOutcome (k.Comes v) old new (joined store frame (int_in x) link (drop (n + 1) links) old) =
      subst (λ (z : Evaluated). IsOutcome z old new (joined store frame (int_in x) link (drop (n + 1) links) old)) came all in
      let out : joined store frame (int_in x) link (drop (n + 1) links) left ≡ s.Comes v = sym (ap (joined store frame (int_in x) link (drop (n + 1) links)) e) ∙ h.1 in
      (sym (chain_at x first links n link left lt is same ∙ ap (λ z. s.then_goes z (λ v. s.chain_goes store frame v (drop (n + 1) links) left)) out), h.0 ∙ e)

  -- ---- a chain

  chain_is : (value first : Value) (rest : List ValueLink) (around : List s.Context) → value ≡ v.Chain first rest →
      s.goes store frame value around ≡ s.then_goes (s.goes store frame first (s.First rest ∷ around)) (λ x. s.chain_goes store frame x rest around)
  chain_is value first rest around is = ap (λ x. s.goes store frame x around) is ∙ chain_of store frame first rest around

  pub chain_starts : (value first inner : Value) (rest links : List ValueLink) (o : Evaluated) (x : Cell) (left old new : List s.Context) (result : Result Evaluated NoMemory)
      → value ≡ v.Chain first rest → inner ≡ first → links ≡ rest
      → o ≡ k.Comes x → IsOutcome o left old (s.goes store frame inner (s.First links ∷ left))
      → IfOk result (λ o. IsOutcome o old new (s.chain_goes store frame x links old)) → IfOk result (λ o. IsOutcome o left new (s.goes store frame value left))
  chain_starts value first inner rest links o x left old new (Err e) is f l came all goes = tt
  chain_starts value first inner rest links o x left old new (Ok end) is f l came whole goes =
      let h : IsOutcome (k.Comes x) left old (s.goes store frame inner (s.First links ∷ left)) =
      subst (λ (z : Evaluated). IsOutcome z left old (s.goes store frame inner (s.First links ∷ left))) came whole in
      let value_is : s.goes store frame first (s.First rest ∷ left) ≡ s.Comes x =
      sym (ap (λ y. s.goes store frame y (s.First rest ∷ left)) f) ∙ sym (ap (λ ls. s.goes store frame inner (s.First ls ∷ left)) l) ∙ h.1 in
      let all : s.goes store frame value left ≡ s.chain_goes store frame x rest left =
      chain_is value first rest left is ∙ ap (λ z. s.then_goes z (λ x. s.chain_goes store frame x rest left)) value_is in
      let a : IsOutcome end left new (s.chain_goes store frame x links left) = subst (λ (a : List s.Context). IsOutcome end a new (s.chain_goes store frame x links a)) h.0 goes in
      let b : IsOutcome end left new (s.chain_goes store frame x rest left) = subst (λ ls. IsOutcome end left new (s.chain_goes store frame x ls left)) l a in
      subst (IsOutcome end left new) (sym all) b

  pub chain_stops : (o : Evaluated) (value first inner : Value) (rest links : List ValueLink) (left new : List s.Context) → value ≡ v.Chain first rest → inner ≡ first → links ≡ rest
      → ((v : Cell) → o ≡ k.Comes v → ⊥) → IsOutcome o left new (s.goes store frame inner (s.First links ∷ left)) → IsOutcome o left new (s.goes store frame value left)
  chain_stops o value first inner rest links left new is f l other h =
      let a : IsOutcome o left new (s.goes store frame first (s.First links ∷ left)) = subst (λ y. IsOutcome o left new (s.goes store frame y (s.First links ∷ left))) f h in
      let b : IsOutcome o left new (s.goes store frame first (s.First rest ∷ left)) = subst (λ ls. IsOutcome o left new (s.goes store frame first (s.First ls ∷ left))) l a in
      subst (IsOutcome o left new) (sym (chain_is value first rest left is))
      (no_value o left new (s.goes store frame first (s.First rest ∷ left)) (λ x. s.chain_goes store frame x rest left) other b)

  -- ---- rows

  module _ (head : s.Head) (done copy : List Cell) (value : Value) (values : List Value) (left : List s.Context) (e : copy ≡ done) where
    row_is : s.row_goes store frame head (reverse done) (value ∷ values) left
        ≡ s.then_goes (s.goes store frame value (s.Operands head (reverse copy) values ∷ left)) (λ v. s.row_goes store frame head (v ∷ reverse copy) values left)
    row_is = sym (ap (λ xs. s.row_goes store frame head (reverse xs) (value ∷ values) left) e) ∙ operand_goes store frame head (reverse copy) value values left

    pub row_ends : (o : Evaluated) (new : List s.Context) → ((v : Cell) → o ≡ k.Comes v → ⊥) → IsOutcome o left new (s.goes store frame value (s.Operands head (reverse copy) values ∷ left))
        → IsOutcome o left new (s.row_goes store frame head (reverse done) (value ∷ values) left)
    row_ends o new other h =
        subst (IsOutcome o left new) (sym row_is)
        (no_value o left new (s.goes store frame value (s.Operands head (reverse copy) values ∷ left)) (λ v. s.row_goes store frame head (v ∷ reverse copy) values left) other h)

    pub row_goes_on : (o : Evaluated) (v : Cell) (after : List Cell) (new : List s.Context) → after ≡ done ++ v ∷ [] → o ≡ k.Comes v
        → IsOutcome o left new (s.goes store frame value (s.Operands head (reverse copy) values ∷ left))
        → (s.row_goes store frame head (reverse done) (value ∷ values) left ≡ s.row_goes store frame head (reverse after) values left) × (new ≡ left)
    row_goes_on o v after new is came all =
        let h : IsOutcome (k.Comes v) left new (s.goes store frame value (s.Operands head (reverse copy) values ∷ left)) =
        subst (λ (z : Evaluated). IsOutcome z left new (s.goes store frame value (s.Operands head (reverse copy) values ∷ left))) came all in
        let back : v ∷ reverse copy ≡ reverse after = ap (λ xs. v ∷ reverse xs) e ∙ sym (reverse-append done (v ∷ [])) ∙ sym (ap reverse is) in (
          row_is ∙ ap (λ z. s.then_goes z (λ v. s.row_goes store frame head (v ∷ reverse copy) values left)) h.1
              ∙ ap (λ xs. s.row_goes store frame head xs values left) back,
          h.0,
        )

  -- the operands behind one that has come
  pub row_then : (head : s.Head) (done copy : List Cell) (value : Value) (values : List Value) (left : List s.Context) (e : copy ≡ done) (o : Evaluated) (v : Cell) (after : List Cell)
      (old new : List s.Context) (result : Result Evaluated NoMemory) → after ≡ done ++ v ∷ [] → o ≡ k.Comes v
      → IsOutcome o left old (s.goes store frame value (s.Operands head (reverse copy) values ∷ left))
      → IfOk result (λ o. IsOutcome o old new (s.row_goes store frame head (reverse after) values old))
      → IfOk result (λ o. IsOutcome o left new (s.row_goes store frame head (reverse done) (value ∷ values) left))
  row_then head done copy value values left e o v after old new (Err x) pushed came h r = tt
  row_then head done copy value values left e o v after old new (Ok end) pushed came h r =
      let more = row_goes_on head done copy value values left e o v after old pushed came h in
      subst (IsOutcome end left new) (sym more.0) (subst (λ (a : List s.Context). IsOutcome end a new (s.row_goes store frame head (reverse after) values a)) more.1 r)

  module _ (head : s.Head) (first done copy : List Cell) (all : List Value) (n : ℕ) (value : Value) (left old new : List s.Context) (lt : n < length all) (is : value ≡ slice_index_or all n value)
      (same : s.row_goes store frame head (reverse done) (drop n all) left ≡ s.row_goes store frame head (reverse first) all left) (e : old ≡ left) (c : copy ≡ done) where
    abbrev Part : Evaluated → List s.Context → Type 0
    Part o a = IsOutcome o a new (s.goes store frame value (s.Operands head (reverse copy) (drop (n + 1) all) ∷ a))

    rest_is : s.row_goes store frame head (reverse done) (value ∷ drop (n + 1) all) left ≡ s.row_goes store frame head (reverse first) all left
    rest_is = sym (ap (λ xs. s.row_goes store frame head (reverse done) xs left) (drop_is all n value lt is)) ∙ same

    pub rows_end : (o : Evaluated) → ((v : Cell) → o ≡ k.Comes v → ⊥) → Part o old → IsOutcome o left new (s.row_goes store frame head (reverse first) all left)
    rows_end o other h =
        subst (IsOutcome o left new) rest_is (row_ends head done copy value (drop (n + 1) all) left c o new other (subst (Part o) e h))

    pub rows_go_on : (o : Evaluated) (v : Cell) (after : List Cell) → after ≡ done ++ v ∷ [] → o ≡ k.Comes v → Part o old
        → (s.row_goes store frame head (reverse after) (drop (n + 1) all) left ≡ s.row_goes store frame head (reverse first) all left) × (new ≡ left)
    rows_go_on o v after pushed came h =
        let more = row_goes_on head done copy value (drop (n + 1) all) left c o v after new pushed came (subst (Part o) e h) in
        (sym more.0 ∙ rest_is, more.1)
