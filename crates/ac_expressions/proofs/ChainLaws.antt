-- The laws of chains, given that of unary expressions: an expression of a level is one of the next level and the links behind it.
-- By induction on the levels that are left up to 11, where it is the unary expression (`chain_law`). The hard part is where an operand ends:
-- behind it stands a link of this level or the end, and neither goes on an expression of the next level (`links_binding`).
use Rattle.std.proofs.Common.{◌≡◌, ℕ, zero, suc, ◌+◌, ◌<◌, ◌≤◌, true, List, [], ◌∷◌, ◌++◌, length, Ok, refl, sym, ap, ◌∙◌, subst, arith}
use Rattle.std.specs.Prelude.{pos}
use Rattle.std.proofs.lemmas.List.{append-nil}
use Rattle.ac_tree.specs.declared.expr.Expr.{Expr}
use Rattle.ac_tree.specs.declared.expr.Expr.TheVariants as e
use Rattle.ac_tree.specs.declared.expr.Link.{Link}
use Rattle.ac_tree.specs.declared.expr.BinaryOp.{BinaryOp}
use Rattle.ac_lexer.specs.declared.token.Kind.TheVariants as k
use Rattle.ac_lexer.specs.declared.token.Token.{Token}
use Rattle.reading_laws.specs.Marks.{Marked, mark, tokens}
use Rattle.ac_expressions.specs.Spelling.{link, ExprSpells, number, constant, place, call, group, unary, alone, chain, LinksSpell, no_link, one_link}
use Rattle.reading_laws.specs.Readers.{◌>>=◌}
use Rattle.ac_expressions.specs.Operators.{operator_at, has_operator}
use Rattle.ac_expressions.specs.Reads.{begins_expr, place_of, made, links_at, chain_at, unary_at, expr_at}
use Rattle.reading_laws.proofs.Halts.{bind_ok}
use Rattle.reading_laws.proofs.Parts.{Filled, Part, Law, seq, law_same, law_before, law_bind, law_then, law_made, bind, made_of, look_never}
use Rattle.reading_laws.proofs.Parts as parts
use Rattle.reading_laws.proofs.Rows.{Many, none, some, many, law_many}
use Rattle.reading_laws.proofs.Letters.{filler}
use Rattle.ac_expressions.proofs.Operators.{OperatorSpells, operating, operator_kind_of, fill_operator, law_operator, operator_by}
use Rattle.ac_expressions.proofs.ExpressionHeads.{binding, Ends, operators_over, operator_binding, expr_head}

-- ---- smallest expressions

pub fill_up : (depth up level : ℕ) → level + up ≡ 11 → Filled Expr (ExprSpells depth level)
fill_up depth zero level q =
    let z : 11 ≡ level = omega (arith, q) in
    record {
      value = e.Number 0 (pos 0);
      marks = mark depth (filler (k.Number (pos 0))) ∷ [];
      spells = subst (λ (l : ℕ). ExprSpells depth l (e.Number 0 (pos 0)) (mark depth (filler (k.Number (pos 0))) ∷ [])) z (number depth (pos 0) (filler (k.Number (pos 0))) refl);
    }
fill_up depth (suc up) level q = let v = fill_up depth up (level + 1) (omega (arith, q)) in record { value = v.value; marks = v.marks; spells = alone depth level v.value v.marks v.spells }

abbrev pub unary_named : ℕ → ℕ → Part Expr
unary_named depth room = record { read = unary_at room; spells = ExprSpells depth 11; filled = fill_up depth 0 11 refl }

abbrev pub expr_named : ℕ → ℕ → Part Expr
expr_named depth room = record { read = expr_at room; spells = ExprSpells depth 1; filled = fill_up depth 10 1 refl }

abbrev pub chain_named : (depth room up level : ℕ) → level + up ≡ 11 → Part Expr
chain_named depth room up level q = record { read = chain_at (unary_at room) up level; spells = ExprSpells depth level; filled = fill_up depth up level q }

-- ---- where an expression was read, there was room for it

pub unary_had : (room : ℕ) (a : List Token) (y : Expr × List Token) → unary_at room a ≡ Ok y → 0 < room
unfolding unary_at
unary_had zero a y h = absurd (look_never Expr (begins_expr a) a y h)
unary_had (suc zero) a y h = omega arith
unary_had (suc (suc room)) a y h = omega arith

pub chain_had : (room up level : ℕ) (a : List Token) (y : Expr × List Token) → chain_at (unary_at room) up level a ≡ Ok y → 0 < room
unfolding chain_at
chain_had room zero level a y h = unary_had room a y h
chain_had room (suc up) level a y h =
    let z = bind_ok (chain_at (unary_at room) up (level + 1) a) (λ first. links_at level (chain_at (unary_at room) up (level + 1)) first.1 >>= λ rest. Ok (made level first.0 rest.0, rest.1)) y h in
    chain_had room up (level + 1) a z.0 z.1

pub expr_had : (room : ℕ) (a : List Token) (y : Expr × List Token) → expr_at room a ≡ Ok y → 0 < room
expr_had room a y h = chain_had room 10 1 a y h

-- ---- the shapes

abbrev pub operator_part : (depth level : ℕ) → Filled BinaryOp (OperatorSpells depth level) → Part BinaryOp
operator_part depth level d = record { read = operator_at level; spells = OperatorSpells depth level; filled = d }

abbrev pub link_part : (depth level : ℕ) → Filled BinaryOp (OperatorSpells depth level) → Part Expr → Part Link
link_part depth level d operand = bind (operator_part depth level d) (λ op. made_of operand (λ x. link op x))

abbrev pub chain_part : (depth level : ℕ) → Filled BinaryOp (OperatorSpells depth level) → Part Expr → Part Expr
chain_part depth level d operand = bind operand (λ first. made_of (many (has_operator level) (link_part depth level d operand)) (λ ls. made level first ls))

module _ (depth level : ℕ) (d : Filled BinaryOp (OperatorSpells depth level)) (operand : Part Expr) (to : (x : Expr) (ms : List Marked) → operand.spells x ms → ExprSpells depth (level + 1) x ms)
    (from : (x : Expr) (ms : List Marked) → ExprSpells depth (level + 1) x ms → operand.spells x ms) where
  links_are : (ls : List Link) (ms : List Marked) → Many Link (link_part depth level d operand).spells ls ms → LinksSpell depth level ls ms
  unfolding bind made_of
  links_are _ _ none = no_link depth level
  links_are _ _ (some _ ls _ c (seq _ _ _ _ (operating t a op q o) (parts.made x ms g)) r) = one_link depth level t a op x ls ms c q o (to x ms g) (links_are ls c r)

  are_links : (ls : List Link) (ms : List Marked) → LinksSpell depth level ls ms → Many Link (link_part depth level d operand).spells ls ms
  unfolding bind made_of
  are_links _ _ (no_link _ _) = none
  are_links _ _ (one_link _ _ t a op x ls ms ns q o g r) = some (link op x) ls (mark depth t ∷ ms) ns (seq op (link op x) (mark depth t ∷ []) ms (operating t a op q o) (parts.made x ms (from x ms g)))
      (are_links ls ns r)

  chain_case : (first : Expr) (a : List Marked) → ExprSpells depth (level + 1) first a → (ls : List Link) (c : List Marked) → LinksSpell depth level ls c
      → ExprSpells depth level (made level first ls) (a ++ c)
  chain_case first a g _ _ (no_link _ _) = subst (λ (ms : List Marked). ExprSpells depth level first ms) (sym (append-nil a)) (alone depth level first a g)
  chain_case first a g _ _ (one_link _ _ t b op x ls ms ns q o h r) =
      let f = expr_head depth (level + 1) first a g in
      let g' : ExprSpells depth (level + 1) first (mark depth f.head ∷ f.others) = subst (λ (ms : List Marked). ExprSpells depth (level + 1) first ms) f.is g in
      let whole : ExprSpells depth level (e.Chain f.head.span.at level first (link op x ∷ ls)) (mark depth f.head ∷ (f.others ++ (mark depth t ∷ (ms ++ ns)))) =
      chain depth level first (link op x) ls f.head f.others (mark depth t ∷ (ms ++ ns)) g' (one_link depth level t b op x ls ms ns q o h r) in
      let placed : ExprSpells depth level (e.Chain (place_of first) level first (link op x ∷ ls)) (mark depth f.head ∷ (f.others ++ (mark depth t ∷ (ms ++ ns)))) =
      subst (λ (at : ℕ). ExprSpells depth level (e.Chain at level first (link op x ∷ ls)) (mark depth f.head ∷ (f.others ++ (mark depth t ∷ (ms ++ ns))))) (sym f.place) whole in
      subst (λ (a : List Marked). ExprSpells depth level (e.Chain (place_of first) level first (link op x ∷ ls)) (a ++ (mark depth t ∷ (ms ++ ns)))) (sym f.is) placed

  is_chain : (x : Expr) (ms : List Marked) → (chain_part depth level d operand).spells x ms → ExprSpells depth level x ms
  unfolding bind made_of many
  is_chain _ _ (seq first _ a _ g (parts.made ls c r)) = chain_case first a (to first a g) ls c (links_are ls c r)

  same_first : {x y : Marked} {xs ys : List Marked} → x ∷ xs ≡ y ∷ ys → x ≡ y
  same_first h = cc

  chain_is : (x : Expr) (ms : List Marked) → (lvl : ℕ) → ExprSpells depth lvl x ms → lvl ≡ level → level < 11 → (chain_part depth level d operand).spells x ms
  unfolding bind made_of many
  chain_is _ _ _ (number _ n t q) l lt = absurd (omega (arith, l, lt))
  chain_is _ _ _ (constant _ a which t q o) l lt = absurd (omega (arith, l, lt))
  chain_is _ _ _ (place _ x ms g) l lt = absurd (omega (arith, l, lt))
  chain_is _ _ _ (call _ x ms g) l lt = absurd (omega (arith, l, lt))
  chain_is _ _ _ (group _ left right x ms q g r) l lt = absurd (omega (arith, l, lt))
  chain_is _ _ _ (unary _ t a op x ms q o g) l lt = absurd (omega (arith, l, lt))
  chain_is _ _ _ (alone _ lvl x ms g) l lt =
      let g' : ExprSpells depth (level + 1) x ms = subst (λ (n : ℕ). ExprSpells depth (n + 1) x ms) l g in
      subst (λ (a : List Marked). (chain_part depth level d operand).spells x a) (append-nil ms) (seq x x ms [] (from x ms g') (parts.made [] [] none))
  chain_is _ _ _ (chain _ lvl first b ls head ms ns g r) l lt =
      let g' : ExprSpells depth (level + 1) first (mark depth head ∷ ms) = subst (λ (n : ℕ). ExprSpells depth (n + 1) first (mark depth head ∷ ms)) l g in
      let r' : LinksSpell depth level (b ∷ ls) ns = subst (λ (n : ℕ). LinksSpell depth n (b ∷ ls) ns) l r in
      let f = expr_head depth (level + 1) first (mark depth head ∷ ms) g' in
      let at : place_of first ≡ head.span.at = f.place ∙ ap (λ (m : Marked). m.token.span.at) (sym (same_first f.is)) in
      let one : (chain_part depth level d operand).spells (e.Chain (place_of first) level first (b ∷ ls)) (mark depth head ∷ (ms ++ ns)) =
      seq first (made level first (b ∷ ls)) (mark depth head ∷ ms) ns (from first (mark depth head ∷ ms) g') (parts.made (b ∷ ls) ns (are_links (b ∷ ls) ns r')) in
      let two : (chain_part depth level d operand).spells (e.Chain head.span.at level first (b ∷ ls)) (mark depth head ∷ (ms ++ ns)) =
      subst (λ (at : ℕ). (chain_part depth level d operand).spells (e.Chain at level first (b ∷ ls)) (mark depth head ∷ (ms ++ ns))) at one in
      subst (λ (n : ℕ). (chain_part depth level d operand).spells (e.Chain head.span.at n first (b ∷ ls)) (mark depth head ∷ (ms ++ ns))) (sym l) two

-- ---- the laws

module _ (depth level : ℕ) (d : Filled BinaryOp (OperatorSpells depth level)) (operand : Part Expr) where
  link_one : (x : Link) (ms : List Marked) → (link_part depth level d operand).spells x ms → 1 ≤ length ms
  unfolding bind made_of
  link_one _ _ (seq _ _ _ c (operating t a op q o) r) = omega arith

  link_begun : (x : Link) (ms : List Marked) (rest : List Token) → (link_part depth level d operand).spells x ms → has_operator level (tokens ms ++ rest) ≡ true
  unfolding bind made_of
  link_begun _ _ rest (seq _ _ _ c (operating t a op q o) r) = rw (operator_kind_of level t a op q o) refl

  link_binding : (x : Link) (ms : List Marked) (rest : List Token) → (link_part depth level d operand).spells x ms → binding (tokens ms ++ rest) ≡ level
  unfolding bind made_of
  link_binding _ _ rest (seq _ _ _ c (operating t a op q o) r) = operator_binding level t a op q o

  first_binding : (x : Link) (a c : List Marked) (rest : List Token) → (link_part depth level d operand).spells x a → binding (tokens (a ++ c) ++ rest) ≡ level
  unfolding bind made_of
  first_binding _ _ c rest (seq _ _ _ _ (operating t a op q o) r) = operator_binding level t a op q o

  links_binding : (ls : List Link) (ms : List Marked) (rest : List Token) → Many Link (link_part depth level d operand).spells ls ms → binding rest < level → binding (tokens ms ++ rest) < level + 1
  links_binding _ _ rest none h = omega (arith, h)
  links_binding _ _ rest (some x ls a c g r) h = omega (arith, first_binding x a c rest g)

  made_binding : (first y : Expr) (ms : List Marked) (rest : List Token) → (made_of (many (has_operator level) (link_part depth level d operand)) (λ ls. made level first ls)).spells y ms
      → binding rest < level → binding (tokens ms ++ rest) < level + 1
  unfolding made_of many
  made_binding first _ _ rest (parts.made ls ms r) h = links_binding ls ms rest r h

  module _ (L : ℕ) (le : depth ≤ L) (ol : Law L Expr operand (Ends (level + 1))) where
    link_law : Law L Link (link_part depth level d operand) (Ends (level + 1))
    link_law = law_then (law_operator L depth level le d) (λ op. law_made (λ x. link op x) (Ends (level + 1)) ol (λ x rest h. h))

    links_law : Law L (List Link) (many (has_operator level) (link_part depth level d operand)) (λ ls rest. binding rest < level)
    links_law = law_many (has_operator level) (λ rest. binding rest < level) (operator_by level) refl link_law link_one link_begun (operators_over level)
        (λ x rest h. omega (arith, h)) (λ x y ms rest g. omega (arith, link_binding y ms rest g))

chain_same : (depth room up level : ℕ) (d : Filled BinaryOp (OperatorSpells depth level)) (f : Filled Expr (ExprSpells depth (level + 1))) (a : List Token)
    → chain_at (unary_at room) (suc up) level a ≡ (chain_part depth level d (record { read = chain_at (unary_at room) up (level + 1); spells = ExprSpells depth (level + 1); filled = f })).read a
unfolding bind made_of many chain_at
chain_same depth room up level d f a = refl

pub chain_law : (L depth room : ℕ) → depth + room ≡ suc L → Law L Expr (unary_named depth room) (Ends 11) → (up level : ℕ) (q : level + up ≡ 11) → 1 ≤ level
    → Law L Expr (chain_named depth room up level q) (Ends level)
unfolding chain_at
chain_law L depth room now ul zero level q low =
    let z : level ≡ 11 = omega (arith, q) in
    law_before (law_same (unary_named depth room) (chain_named depth room zero level q) (λ a. refl) (λ x ms g. subst (λ (l : ℕ). ExprSpells depth l x ms) (sym z) g)
    (λ x ms g. subst (λ (l : ℕ). ExprSpells depth l x ms) z g) ul)
    (λ x rest h. omega (arith, h, z))
chain_law L depth room now ul (suc up) level q low =
    let d = fill_operator depth level low (omega (arith, q)) in
    let next : (level + 1) + up ≡ 11 = omega (arith, q) in
    let operand = chain_named depth room up (level + 1) next in
    let inner : Law L Expr operand (Ends (level + 1)) = chain_law L depth room now ul up (level + 1) next (omega arith) in
    law_same (chain_part depth level d operand) (chain_named depth room (suc up) level q) (chain_same depth room up level d (fill_up depth up (level + 1) next))
    (is_chain depth level d operand (λ x ms g. g) (λ x ms g. g))
    (λ x ms g. chain_is depth level d operand (λ x ms g. g) (λ x ms g. g) x ms level g refl (omega (arith, q)))
    (law_bind inner
    (λ first a m h. let lt : 0 < room = chain_had room up (level + 1) a (first, m) h in
    law_made (λ ls. made level first ls) (Ends level) (links_law depth level d operand L (omega (arith, lt, now)) inner) (λ ls rest h. h))
    (λ first y c rest g h. made_binding depth level d operand first y c rest g h))

pub expr_law : (L depth room : ℕ) → depth + room ≡ suc L → Law L Expr (unary_named depth room) (Ends 11) → Law L Expr (expr_named depth room) (Ends 1)
expr_law L depth room now ul = law_same (chain_named depth room 10 1 refl) (expr_named depth room) (λ a. refl) (λ x ms g. g) (λ x ms g. g) (chain_law L depth room now ul 10 1 refl (omega arith))
