-- What emits each form of a value.
-- Each law follows one branch of the emitting function from state to state: the parts in order, and for `&&` and `||` two jumps whose
-- addresses are set behind them.
use Rattle.std.proofs.Common.{◌≡◌, ℕ, ◌+◌, ◌^◌, ◌<◌, List, ◌∷◌, length, map, refl, sym, ap, ◌∙◌, arith}
use Rattle.ac_tree.specs.declared.expr.BinaryOp.{BinaryOp}
use Rattle.ac_tree.specs.declared.expr.BinaryOp.TheVariants as b
use Rattle.ac_tree.specs.declared.expr.UnaryOp.{UnaryOp}
use Rattle.ac_commands.specs.declared.value.Action.{Action}
use Rattle.ac_commands.specs.declared.value.Array.{Array}
use Rattle.ac_commands.specs.declared.value.Value.{Value}
use Rattle.ac_commands.specs.declared.value.Value.TheVariants as v
use Rattle.ac_commands.specs.declared.value.ValueLink.{ValueLink}
use Rattle.stack_code.specs.declared.instr.Instr.{Instr}
use Rattle.stack_code.specs.declared.instr.Instr.TheVariants as i
use Rattle.ac_translation.specs.Pieces.{Piece, one, ◌⨾◌, over}
use Rattle.ac_translation.specs.Translation.{unary_code, operator_code, array_code, action_code, values_code, lazily, joined_code, chained_code, value_code, link_code}
use Rattle.ac_compile.specs.inner.Emission.{Emitted, with_code, with_instr, HasRoom}
use Rattle.ac_translation.proofs.Sized.{IsSized, one_sized, over_sized, both_sized, joined_sized, value_sized, values_sized}
use Rattle.ac_compile.proofs.Counts.{few_values}
use Rattle.ac_compile.proofs.Forms.{unary_form, chain_form, link_form, act_form}
use Rattle.ac_compile.proofs.Emissions.{both_are, over_then, over_as, grown_to, two_are, three_are, four_are}

-- ---- elements

-- an array and an index, and then an instruction
module _ (x y index : Value) (array : Array) (last : Instr) (e : Emitted) (code : value_code x ≡ one (array_code array) ⨾ value_code index ⨾ one last) (same : y ≡ index) where
  indexed_as : value_code x ≡ one (array_code array) ⨾ value_code y ⨾ one last
  indexed_as = code ∙ ap (λ z. one (array_code array) ⨾ value_code z ⨾ one last) (sym same)

  pub indexed_room : (instr : Instr) (d : Emitted) → d ≡ with_code (one instr) e → HasRoom (value_code x) e → HasRoom (value_code y) d
  indexed_room instr d h room = let n = grown_to (one instr) e d (one_sized instr) h in let m = ap (λ (p : Piece). p.size) indexed_as in omega (arith, n, m, room)

  pub indexed_emitted : (instr : Instr) (d1 d2 d3 : Emitted) → instr ≡ array_code array → d1 ≡ with_code (one instr) e → d2 ≡ with_code (value_code y) d1 → d3 ≡ with_code (one last) d2
      → d3 ≡ with_code (value_code x) e
  indexed_emitted instr d1 d2 d3 c f g h =
      three_are (one (array_code array)) (value_code y) (one last) (one_sized _) (value_sized y) e d1 d2 d3 (f ∙ ap (λ k. with_code (one k) e) c) g h
      ∙ ap (λ p. with_code p e) (sym indexed_as)

-- ---- calls and operations

module _ (x : Value) (action : Action) (operands : List Value) (e : Emitted) (is : x ≡ v.Act action operands) where
  act_as : value_code x ≡ values_code operands ⨾ one (action_code action (length operands))
  act_as = ap value_code is ∙ act_form action operands

  pub act_few : (count : ℕ) → count ≡ length operands → HasRoom (value_code x) e → count < 2 ^ 32
  act_few count n room = let m = ap (λ (p : Piece). p.size) act_as in let few = few_values operands in omega (arith, n, m, few, room)

  pub act_emitted : (given : List Value) → given ≡ operands → (count : ℕ) (instr : Instr) (d1 d2 : Emitted) → count ≡ length operands → instr ≡ action_code action count
      → d1 ≡ with_code (values_code given) e → d2 ≡ with_code (one instr) d1 →
      d2 ≡ with_code (value_code x) e
  act_emitted given same count instr d1 d2 n c f g =
      two_are (values_code operands) (one (action_code action (length operands))) (values_sized operands) e d1 d2 (f ∙ ap (λ (xs : List Value). with_code (values_code xs) e) same)
      (g ∙ ap (λ k. with_code (one k) d1) (c ∙ ap (action_code action) n))
      ∙ ap (λ p. with_code p e) (sym act_as)

-- ---- one operand

pub unary_emitted : (x y operand : Value) (op : UnaryOp) (instr : Instr) (e d1 d2 : Emitted) → x ≡ v.Unary op operand → y ≡ operand → instr ≡ unary_code op → d1 ≡ with_code (value_code y) e
    → d2 ≡ with_code (one instr) d1 →
    d2 ≡ with_code (value_code x) e
unary_emitted x y operand op instr e d1 d2 is same c f g =
    two_are (value_code y) (one (unary_code op)) (value_sized y) e d1 d2 f (g ∙ ap (λ k. with_code (one k) d1) c)
    ∙ ap (λ z. with_code (value_code z ⨾ one (unary_code op)) e) same
    ∙ ap (λ p. with_code p e) (sym (ap value_code is ∙ unary_form op operand))

-- ---- chains

module _ (x y first : Value) (links rest : List ValueLink) (e : Emitted) (is : x ≡ v.Chain first rest) (same : y ≡ first) (all : links ≡ rest) where
  chain_as : value_code x ≡ value_code y ⨾ chained_code (map link_code links)
  chain_as =
      ap value_code is
      ∙ chain_form first rest
      ∙ ap (λ z. value_code z ⨾ chained_code (map link_code rest)) (sym same)
      ∙ ap (λ zs. value_code y ⨾ chained_code (map link_code zs)) (sym all)

  pub chain_room : (d : Emitted) → d ≡ with_code (value_code y) e → HasRoom (value_code x) e → HasRoom (chained_code (map link_code links)) d
  chain_room d h room = let n = grown_to (value_code y) e d (value_sized y) h in let m = ap (λ (p : Piece). p.size) chain_as in omega (arith, n, m, room)

  pub chain_emitted : (d1 d2 : Emitted) → d1 ≡ with_code (value_code y) e → d2 ≡ with_code (chained_code (map link_code links)) d1 → d2 ≡ with_code (value_code x) e
  chain_emitted d1 d2 f g = two_are (value_code y) (chained_code (map link_code links)) (value_sized y) e d1 d2 f g ∙ ap (λ p. with_code p e) (sym chain_as)

-- ---- links

abbrev pub links_code : List ValueLink → Piece
links_code links = chained_code (map link_code links)

abbrev pub one_link : ValueLink → Piece
one_link l = joined_code l.op (value_code l.operand)

pub first_link : (l : ValueLink) (links : List ValueLink) → links_code (l ∷ links) ≡ one_link l ⨾ links_code links
first_link l links = ap (λ (s : BinaryOp × Piece). joined_code s.0 s.1 ⨾ links_code links) (link_form l)

pub one_link_sized : (l : ValueLink) → IsSized (one_link l)
one_link_sized l = joined_sized l.op (value_code l.operand) (value_sized l.operand)

-- an operator with an instruction of its own
pub plainly : (op : BinaryOp) (right : Piece) → (op ≡ b.Or → ⊥) → (op ≡ b.And → ⊥) → joined_code op right ≡ right ⨾ one (operator_code op)
plainly b.Or right n m = absurd (n refl)
plainly b.And right n m = absurd (m refl)
plainly op right n m = refl

pub joined_emitted : (op : BinaryOp) (right : Value) (instr : Instr) (e d1 d2 : Emitted) → (op ≡ b.Or → ⊥) → (op ≡ b.And → ⊥) → instr ≡ operator_code op → d1 ≡ with_code (value_code right) e
    → d2 ≡ with_code (one instr) d1 →
    d2 ≡ with_code (joined_code op (value_code right)) e
joined_emitted op right instr e d1 d2 n m c f g =
    two_are (value_code right) (one (operator_code op)) (value_sized right) e d1 d2 f (g ∙ ap (λ k. with_code (one k) d1) c) ∙ ap (λ p. with_code p e) (sym (plainly op (value_code right) n m))

-- ---- the operators that may pass over their right side

-- what stands from the right side to what the left decides
abbrev pub lazy_part : Piece → Piece
lazy_part right = right ⨾ one i.Bool ⨾ over i.Jump 1

part_sized : (right : Piece) → IsSized right → IsSized (lazy_part right)
part_sized right s = both_sized right _ s (both_sized (one i.Bool) (over i.Jump 1) (one_sized i.Bool) (over_sized i.Jump 1))

pub part_far : (right : Piece) (s : IsSized right) (e d1 d2 : Emitted) → d1 ≡ with_code right e → d2 ≡ with_code (one i.Bool) d1 → length d2.instrs ≡ length e.instrs + (right.size + 1)
part_far right s e d1 d2 f g = let n = grown_to right e d1 s f in let m = grown_to (one i.Bool) d1 d2 (one_sized i.Bool) g in omega (arith, n, m)

pub part_emitted : (right : Piece) (s : IsSized right) (e d1 d2 d3 : Emitted) (at to : ℕ) → d1 ≡ with_code right e → d2 ≡ with_code (one i.Bool) d1 → at ≡ length d2.instrs → to ≡ at + 2
    → d3 ≡ with_code (one (i.Jump to)) d2 → d3 ≡ with_code (lazy_part right) e
part_emitted right s e d1 d2 d3 at to f g h j k = three_are right (one i.Bool) (over i.Jump 1) s (one_sized i.Bool) e d1 d2 d3 f g (over_as i.Jump 1 to d2 d3 (omega (arith, h, j)) k)

module _ (instr : Instr) (right : Piece) (s : IsSized right) (e d1 d2 : Emitted) (f : d1 ≡ with_code (one instr) e) (g : d2 ≡ with_code (lazy_part right) d1) where
  pub lazily_far : length d2.instrs ≡ length e.instrs + (right.size + 3)
  lazily_far = let n = grown_to (one instr) e d1 (one_sized instr) f in let m = grown_to (lazy_part right) d1 d2 (part_sized right s) g in omega (arith, n, m)

  pub lazily_emitted : (jump : ℕ → Instr) (decided : Instr) (d3 d4 : Emitted) (at to : ℕ) → at ≡ length e.instrs → to ≡ length d2.instrs → d3 ≡ with_instr at (jump to) d2
      → d4 ≡ with_code (one decided) d3 →
      d4 ≡ with_code (lazily jump decided right) e
  lazily_emitted jump decided d3 d4 at to h j k l =
      let o = over jump (right.size + 2) in
      let x0 = with_code o e in
      let x1 = with_code right x0 in
      let x2 = with_code (one i.Bool) x1 in
      let code = over_then jump instr (lazy_part right) e d1 d2 d3 at to (part_sized right s) f h g j k ∙ both_are right (one i.Bool ⨾ over i.Jump 1) x0 s
      ∙ both_are (one i.Bool) (over i.Jump 1) x1 (one_sized i.Bool) in
      two_are o _ (over_sized jump (right.size + 2)) e x0 d4 refl (four_are right (one i.Bool) (over i.Jump 1) (one decided) s (one_sized i.Bool) (over_sized i.Jump 1) x0 x1 x2 d3 d4 refl refl code l)
