-- The laws of calls and places, given that of expressions one deeper: arguments up to the closing parenthesis, elements, and names alone.
-- First the parts, that they read as the definition does (`.._same`), what they spell both ways (`is_..`, `.._is`), then the laws, put together from
-- those of `Parts`. The hard case is that of arguments that may be too deep: they begin with an expression or with `)` (`closed_opens`).
use Rattle.std.proofs.Common.{◌≡◌, ℕ, suc, ◌+◌, ◌<◌, ◌≤◌, Bool, true, false, List, [], ◌∷◌, ◌++◌, length, refl, ap, ◌∙◌, subst, inl, inr, arith}
use Rattle.std.specs.Prelude.{◌||◌}
use Rattle.std.proofs.lemmas.List.{append-nil}
use Rattle.ac_tree.specs.declared.expr.Expr.{Expr}
use Rattle.ac_tree.specs.declared.expr.Expr.TheVariants as e
use Rattle.ac_lexer.specs.declared.token.Mark.TheVariants as m
use Rattle.ac_lexer.specs.declared.token.Kind.TheVariants as k
use Rattle.ac_lexer.specs.declared.token.Token.{Token}
use Rattle.reading_laws.specs.Marks.{Marked, mark, tokens}
use Rattle.ac_expressions.specs.Spelling.{ExprSpells, PlaceSpells, variable, element, CallSpells, function_call, ArgsSpell, no_args, some_args, MoreSpell, no_more, one_more}
use Rattle.reading_laws.specs.Letters.{sign, same_mark, starts_with}
use Rattle.ac_expressions.specs.Reads.{begins_expr, more_args_at, begins_args, args_at, closed_at, deep_closed_at, expr_at}
use Rattle.reading_laws.proofs.Marking.{tokens_split}
use Rattle.reading_laws.proofs.Heads.{ByHead, by_head}
use Rattle.reading_laws.proofs.Parts.{Part, Law, Any, Opens, First, itself, ret, law_ret, seq, made, first, second, law_same, law_before, law_bind, law_then, law_made, law_either, bind, made_of}
use Rattle.reading_laws.proofs.Parts.{either}
use Rattle.reading_laws.proofs.Rows.{Many, none, some, many, law_many}
use Rattle.reading_laws.proofs.Letters.{filler, signed, sign_part, law_sign, starts_by, named, name_part, law_name, is_case, is_kind_of}
use Rattle.ac_expressions.proofs.ExpressionHeads.{binding, binding_kind, Ends, no_start}
use Rattle.ac_expressions.proofs.ChainLaws.{expr_named}
use Rattle.reading_laws.proofs.Openings.{by_last, begins_bound, begins_made, no_bound, starts_not, law_within, or_case}
use Rattle.ac_expressions.proofs.Openings.{starts_ends, law_expr_made, expr_opens, expr_first, begins_not, expr_begins}

-- ---- further arguments

abbrev pub next_part : ℕ → ℕ → Part Expr
next_part depth room = bind (sign_part depth (sign m.Comma)) (λ _. expr_named depth room)

abbrev pub more_named : ℕ → ℕ → Part (List Expr)
more_named depth room = record { read = more_args_at (expr_at room); spells = MoreSpell depth; filled = record { value = []; marks = []; spells = no_more depth } }

more_are : (depth room : ℕ) (xs : List Expr) (ms : List Marked) → Many Expr (next_part depth room).spells xs ms → MoreSpell depth xs ms
unfolding bind sign_part
more_are depth room _ _ none = no_more depth
more_are depth room _ _ (some _ xs _ c (seq _ x _ a (signed t q) g) r) = one_more depth t x xs a c q g (more_are depth room xs c r)

are_more : (depth room : ℕ) (xs : List Expr) (ms : List Marked) → MoreSpell depth xs ms → Many Expr (next_part depth room).spells xs ms
unfolding bind sign_part
are_more depth room _ _ (no_more _) = none
are_more depth room _ _ (one_more _ t x xs ms ns q g r) = some x xs (mark depth t ∷ ms) ns (seq t.span.at x (mark depth t ∷ []) ms (signed t q) g) (are_more depth room xs ns r)

next_one : (depth room : ℕ) (x : Expr) (ms : List Marked) → (next_part depth room).spells x ms → 1 ≤ length ms
unfolding bind sign_part
next_one depth room _ _ (seq _ x _ a (signed t q) g) = omega arith

more_same : (depth room : ℕ) (a : List Token) → more_args_at (expr_at room) a ≡ (many (starts_with (sign m.Comma)) (next_part depth room)).read a
unfolding many bind sign_part
more_same depth room a = refl

abbrev pub Closes : {X : Type 0} → X → List Token → Type 0
Closes x rest = starts_with (sign m.CloseParen) rest ≡ true

module _ (L depth room : ℕ) (now : depth + room ≡ suc L) (el : Law L Expr (expr_named depth room) (Ends 1)) (le : depth ≤ L) where
  next_law : Law L Expr (next_part depth room) (Ends 1)
  next_law = law_then (law_sign L depth le (sign m.Comma)) (λ _. el)

  pub more_law : Law L (List Expr) (more_named depth room) Closes
  unfolding many same_mark
  more_law = law_same (many (starts_with (sign m.Comma)) (next_part depth room)) (more_named depth room) (more_same depth room) (more_are depth room) (are_more depth room)
      (law_many (starts_with (sign m.Comma)) (λ rest. starts_with (sign m.CloseParen) rest ≡ true) (starts_by (sign m.Comma)) refl next_law (next_one depth room)
      (λ x ms rest s. begins_bound depth (sign m.Comma) (λ _. expr_named depth room) x ms rest s)
      (λ rest h. starts_not (sign m.Comma) (sign m.CloseParen) refl rest h)
      (λ x rest h. starts_ends (sign m.CloseParen) refl rest h)
      (λ x y ms rest s. starts_ends (sign m.Comma) refl (tokens ms ++ rest) (begins_bound depth (sign m.Comma) (λ _. expr_named depth room) y ms rest s)))

-- what follows an argument
pub more_ends : (depth : ℕ) (xs : List Expr) (ms : List Marked) (rest : List Token) → MoreSpell depth xs ms → starts_with (sign m.CloseParen) rest ≡ true → binding (tokens ms ++ rest) < 1
more_ends _ _ _ rest (no_more depth) h = starts_ends (sign m.CloseParen) refl rest h
more_ends _ _ _ rest (one_more depth t x xs ms ns q g r) h = omega (arith, ap binding_kind q)

-- ---- arguments and the closing parenthesis

abbrev pub some_part : ℕ → ℕ → Part (List Expr)
some_part depth room = bind (expr_named depth room) (λ x. made_of (more_named depth room) (λ xs. x ∷ xs))

abbrev pub args_part : ℕ → ℕ → Part (List Expr)
args_part depth room = either (starts_with (sign m.CloseParen)) (ret []) (some_part depth room)

abbrev pub args_named : ℕ → ℕ → Part (List Expr)
args_named depth room = record { read = args_at (expr_at room); spells = ArgsSpell depth; filled = record { value = []; marks = []; spells = no_args depth } }

args_are : (depth room : ℕ) (xs : List Expr) (ms : List Marked) → (args_part depth room).spells xs ms → ArgsSpell depth xs ms
unfolding either ret bind made_of
args_are depth room _ _ (first _ _ itself) = no_args depth
args_are depth room _ _ (second _ _ (seq x _ a _ g (made xs c r))) = some_args depth x xs a c g r

are_args : (depth room : ℕ) (xs : List Expr) (ms : List Marked) → ArgsSpell depth xs ms → (args_part depth room).spells xs ms
unfolding either ret bind made_of
are_args depth room _ _ (no_args _) = first [] [] itself
are_args depth room _ _ (some_args _ x xs ms ns g r) = second (x ∷ xs) (ms ++ ns) (seq x (x ∷ xs) ms ns g (made xs ns r))

args_same : (depth room : ℕ) (a : List Token) → args_at (expr_at room) a ≡ (args_part depth room).read a
unfolding either ret bind made_of
args_same depth room a = refl

some_follows : (depth room : ℕ) (x : Expr) (y : List Expr) (c : List Marked) (rest : List Token) → (made_of (more_named depth room) (λ xs. x ∷ xs)).spells y c
    → starts_with (sign m.CloseParen) rest ≡ true → binding (tokens c ++ rest) < 1
unfolding made_of
some_follows depth room x _ _ rest (made xs c r) h = more_ends depth xs c rest r h

some_begins : (depth room : ℕ) (xs : List Expr) (ms : List Marked) (rest : List Token) → (some_part depth room).spells xs ms → begins_expr (tokens ms ++ rest) ≡ true
unfolding bind made_of
some_begins depth room _ _ rest (seq x _ a c g (made xs _ r)) = ap begins_expr (tokens_split a c rest) ∙ expr_begins depth 1 x a (tokens c ++ rest) g

ret_closes : (xs : List Expr) (ms : List Marked) (rest : List Token) → (ret {X = List Expr} []).spells xs ms → starts_with (sign m.CloseParen) rest ≡ true
    → starts_with (sign m.CloseParen) (tokens ms ++ rest) ≡ true
unfolding ret
ret_closes _ _ rest itself h = h

abbrev pub closed_part : ℕ → ℕ → Part (List Expr)
closed_part depth room = bind (args_named depth room) (λ xs. made_of (sign_part depth (sign m.CloseParen)) (λ _. xs))

closed_same : (depth room : ℕ) (a : List Token) → closed_at (expr_at room) a ≡ (closed_part depth room).read a
unfolding bind made_of sign_part
closed_same depth room a = refl

module _ (L depth room : ℕ) (now : depth + room ≡ suc L) (el : Law L Expr (expr_named depth room) (Ends 1)) (le : depth ≤ L) where
  args_law : Law L (List Expr) (args_named depth room) Closes
  unfolding same_mark
  args_law = law_same (args_part depth room) (args_named depth room) (args_same depth room) (args_are depth room) (are_args depth room)
      (law_either (starts_with (sign m.CloseParen)) (starts_by (sign m.CloseParen)) (law_ret [] Closes)
      (law_bind el (λ x a m h. law_made (λ xs. x ∷ xs) Closes (more_law L depth room now el le) (λ xs rest h. h)) (λ x y c rest s h. some_follows depth room x y c rest s h))
      (λ xs ms rest s h. ret_closes xs ms rest s h)
      (λ xs ms rest s h. begins_not (sign m.CloseParen) refl (tokens ms ++ rest) (some_begins depth room xs ms rest s)))

  closed_law : Law L (List Expr) (closed_part depth room) Any
  closed_law = law_bind args_law (λ xs a n h. law_made (λ _. xs) Any (law_sign L depth le (sign m.CloseParen)) (λ x rest h. tt))
      (λ xs y c rest s h. begins_made depth (sign m.CloseParen) (λ _. xs) y c rest s)

abbrev pub deep_closed : ℕ → ℕ → Part (List Expr)
deep_closed depth room = record { read = deep_closed_at (expr_at room) room; spells = (closed_part depth room).spells; filled = (closed_part depth room).filled }

close_opens : (depth room : ℕ) (t : Token) → t.kind ≡ k.Mark m.CloseParen → Opens (List Expr) (closed_part depth room).spells depth t
unfolding bind made_of sign_part
close_opens depth room t q = record {
  own = depth;
  deep = omega arith;
  value = [];
  others = [];
  spells = seq [] [] [] (mark depth t ∷ []) (no_args depth) (made t.span.at (mark depth t ∷ []) (signed t q));
}

arg_opens : (depth room : ℕ) (t : Token) → Opens Expr (ExprSpells depth 1) depth t → Opens (List Expr) (closed_part depth room).spells depth t
unfolding bind made_of sign_part
arg_opens depth room t o =
    let args : ArgsSpell depth (o.value ∷ []) (mark o.own t ∷ o.others) =
    subst (λ (ms : List Marked). ArgsSpell depth (o.value ∷ []) ms) (append-nil (mark o.own t ∷ o.others)) (some_args depth o.value [] (mark o.own t ∷ o.others) [] o.spells (no_more depth)) in
    record {
      own = o.own;
      deep = o.deep;
      value = o.value ∷ [];
      others = o.others ++ mark depth (filler (k.Mark m.CloseParen)) ∷ [];
      spells = seq (o.value ∷ []) (o.value ∷ []) (mark o.own t ∷ o.others) (mark depth (filler (k.Mark m.CloseParen)) ∷ []) args
          (made 0 (mark depth (filler (k.Mark m.CloseParen)) ∷ []) (signed (filler (k.Mark m.CloseParen)) refl));
    }

closed_opens : (depth room : ℕ) (t : Token) (ts : List Token) → begins_args (t ∷ ts) ≡ true → Opens (List Expr) (closed_part depth room).spells depth t
closed_opens depth room t ts h = elim (or_case (starts_with (sign m.CloseParen) (t ∷ ts)) (begins_expr (t ∷ ts)) h) [
  | inl i ↦ close_opens depth room t (is_case (sign m.CloseParen) t.kind i)
  | inr i ↦ arg_opens depth room t (expr_opens depth t ts i)
]

or_left : (p q : Bool) → p ≡ true → (p || q) ≡ true
or_left true q h = refl
or_left false q h = cc

or_right : (p q : Bool) → q ≡ true → (p || q) ≡ true
or_right true q h = refl
or_right false q h = h

args_first : (depth room : ℕ) (xs : List Expr) (a : List Marked) → ArgsSpell depth xs a → (t : Token) → t.kind ≡ k.Mark m.CloseParen → First depth begins_args (a ++ mark depth t ∷ [])
args_first _ room _ _ (no_args depth) t q = record {
  own = depth;
  deep = omega arith;
  token = t;
  others = [];
  is = refl;
  begun = λ rest. or_left (starts_with (sign m.CloseParen) (t ∷ rest)) (begins_expr (t ∷ rest)) (is_kind_of (sign m.CloseParen) t q);
}
args_first _ room _ _ (some_args depth x xs ms ns g r) t q =
    let f = expr_first depth 1 x ms g in
    record {
      own = f.own;
      deep = f.deep;
      token = f.token;
      others = (f.others ++ ns) ++ mark depth t ∷ [];
      is = ap (λ (ms : List Marked). (ms ++ ns) ++ mark depth t ∷ []) f.is;
      begun = λ rest. or_right (starts_with (sign m.CloseParen) (f.token ∷ rest)) (begins_expr (f.token ∷ rest)) (f.begun rest);
    }

closed_first : (depth room : ℕ) (xs : List Expr) (ms : List Marked) → (closed_part depth room).spells xs ms → First depth begins_args ms
unfolding bind made_of sign_part
closed_first depth room _ _ (seq xs _ a _ g (made _ _ (signed t q))) = args_first depth room xs a g t q

args_by : ByHead begins_args
args_by = by_head begins_args false (λ t. starts_with (sign m.CloseParen) (t ∷ []) || begins_expr (t ∷ [])) refl (λ t ts. refl)

pub deep_closed_law : (L depth room : ℕ) → depth + room ≡ suc L → Law L Expr (expr_named depth room) (Ends 1) → Law L (List Expr) (deep_closed depth room) Any
deep_closed_law L depth room now el =
    law_within L depth room now begins_args refl args_by (λ inner ts. closed_at (expr_at room) ts) (closed_part depth room).spells (closed_part depth room).filled (closed_opens depth room)
    (closed_first depth room)
    (λ inner q le. law_same (closed_part depth room) (record { read = closed_at (expr_at room); spells = (closed_part depth room).spells; filled = (closed_part depth room).filled })
    (closed_same depth room) (λ x ms g. g) (λ x ms g. g) (closed_law L depth room now el le))

-- ---- calls and places, behind their names; the depth is that of the name

abbrev pub call_part : ℕ → ℕ → ℕ → List ℕ → Part Expr
call_part depth room at name = bind (sign_part depth (sign m.OpenParen)) (λ _. made_of (deep_closed (suc depth) room) (λ xs. e.Call at name xs))

abbrev pub index_part : ℕ → ℕ → ℕ → List ℕ → Part Expr
index_part depth room at name = bind (sign_part depth (sign m.OpenBracket))
    (λ _. bind (expr_named (suc depth) room) (λ x. made_of (sign_part (suc depth) (sign m.CloseBracket)) (λ _. e.Index at name x)))

abbrev pub named_place : ℕ → ℕ → ℕ → List ℕ → Part Expr
named_place depth room at name = either (starts_with (sign m.OpenBracket)) (index_part depth room at name) (ret (e.Name at name))

abbrev pub place_part : ℕ → ℕ → Part Expr
place_part depth room = bind (name_part depth) (λ n. named_place depth room n.0 n.1)

abbrev pub named_part : ℕ → ℕ → Part Expr
named_part depth room = bind (name_part depth) (λ n. either (starts_with (sign m.OpenParen)) (call_part depth room n.0 n.1) (named_place depth room n.0 n.1))

-- neither `(` nor `[` follows
abbrev pub Closed : {X : Type 0} → X → List Token → Type 0
Closed x rest = binding rest < 12

bracket_not : (rest : List Token) → binding rest < 12 → starts_with (sign m.OpenBracket) rest ≡ false
bracket_not rest h = no_start (sign m.OpenBracket) 12 refl (is_case (sign m.OpenBracket)) rest h

paren_not : (rest : List Token) → binding rest < 12 → starts_with (sign m.OpenParen) rest ≡ false
paren_not rest h = no_start (sign m.OpenParen) 12 refl (is_case (sign m.OpenParen)) rest h

ret_bracket : (x y : Expr) (ms : List Marked) (rest : List Token) → (ret x).spells y ms → binding rest < 12 → starts_with (sign m.OpenBracket) (tokens ms ++ rest) ≡ false
unfolding ret
ret_bracket x _ _ rest itself h = bracket_not rest h

place_paren : (depth room at : ℕ) (name : List ℕ) (x : Expr) (ms : List Marked) (rest : List Token) → (named_place depth room at name).spells x ms → binding rest < 12
    → starts_with (sign m.OpenParen) (tokens ms ++ rest) ≡ false
unfolding either ret same_mark
place_paren depth room at name _ _ rest (first x ms s) h = no_bound (sign m.OpenParen) depth (sign m.OpenBracket) refl
    (λ _. bind (expr_named (suc depth) room) (λ x. made_of (sign_part (suc depth) (sign m.CloseBracket)) (λ _. e.Index at name x))) x ms rest s
place_paren depth room at name _ _ rest (second _ _ itself) h = paren_not rest h

module _ (L depth room : ℕ) (now : depth + suc room ≡ suc L) (el : Law L Expr (expr_named (suc depth) room) (Ends 1)) where
  pub call_law : (at : ℕ) (name : List ℕ) → Law L Expr (call_part depth room at name) Any
  call_law at name = law_then (law_sign L depth (omega (arith, now)) (sign m.OpenParen))
      (λ _. law_made (λ xs. e.Call at name xs) Any (deep_closed_law L (suc depth) room (omega (arith, now)) el) (λ xs rest h. tt))

  index_law : (at : ℕ) (name : List ℕ) → Law L Expr (index_part depth room at name) Any
  index_law at name = law_then (law_sign L depth (omega (arith, now)) (sign m.OpenBracket))
      (λ _. law_expr_made L (suc depth) room (omega (arith, now)) el (suc depth) (sign m.CloseBracket) refl (λ x _. e.Index at name x)
      (λ x le. law_made (λ _. e.Index at name x) Any (law_sign L (suc depth) le (sign m.CloseBracket)) (λ x rest h. tt)))

  pub named_place_law : (at : ℕ) (name : List ℕ) → Law L Expr (named_place depth room at name) Closed
  named_place_law at name = law_either (starts_with (sign m.OpenBracket)) (starts_by (sign m.OpenBracket)) (law_before (index_law at name) (λ x rest h. tt)) (law_ret (e.Name at name) Closed)
      (λ x ms rest s h. begins_bound depth (sign m.OpenBracket) (λ _. bind (expr_named (suc depth) room) (λ x. made_of (sign_part (suc depth) (sign m.CloseBracket)) (λ _. e.Index at name x))) x ms
      rest s)
      (λ x ms rest s h. ret_bracket (e.Name at name) x ms rest s h)

  pub place_law : Law L Expr (place_part depth room) Closed
  place_law = law_then (law_name L depth (omega (arith, now))) (λ n. named_place_law n.0 n.1)

  pub named_law : Law L Expr (named_part depth room) Closed
  named_law = law_then (law_name L depth (omega (arith, now)))
      (λ n. law_either (starts_with (sign m.OpenParen)) (starts_by (sign m.OpenParen)) (law_before (call_law n.0 n.1) (λ x rest h. tt)) (named_place_law n.0 n.1)
      (λ x ms rest s h. begins_bound depth (sign m.OpenParen) (λ _. made_of (deep_closed (suc depth) room) (λ xs. e.Call n.0 n.1 xs)) x ms rest s)
      (λ x ms rest s h. place_paren depth room n.0 n.1 x ms rest s h))

-- ---- what they spell

is_element : (depth room : ℕ) (t : Token) (name : List ℕ) → t.kind ≡ k.Name name → (x : Expr) (ms : List Marked) → (index_part depth room t.span.at name).spells x ms
    → PlaceSpells depth x (mark depth t ∷ ms)
unfolding bind made_of sign_part
is_element depth room t name q _ _ (seq _ _ _ _ (signed l i) (seq x y a c g s)) =
    by_last (λ y c. PlaceSpells depth y (mark depth t ∷ mark depth l ∷ (a ++ c))) (suc depth) (sign m.CloseBracket) (e.Index t.span.at name x) y c s (λ r j. element depth t l r name x a q i g j)

pub is_named_place : (depth room : ℕ) (t : Token) (name : List ℕ) → t.kind ≡ k.Name name → (x : Expr) (ms : List Marked) → (named_place depth room t.span.at name).spells x ms
    → PlaceSpells depth x (mark depth t ∷ ms)
unfolding either ret
is_named_place depth room t name q _ _ (first x ms s) = is_element depth room t name q x ms s
is_named_place depth room t name q _ _ (second _ _ itself) = variable depth t name q

pub is_place : (depth room : ℕ) (x : Expr) (ms : List Marked) → (place_part depth room).spells x ms → PlaceSpells depth x ms
unfolding bind name_part
is_place depth room _ _ (seq _ x _ a (named t name q) s) = is_named_place depth room t name q x a s

pub place_is : (depth room : ℕ) (x : Expr) (ms : List Marked) → PlaceSpells depth x ms → (place_part depth room).spells x ms
unfolding either ret bind made_of sign_part name_part
place_is depth room _ _ (variable _ t name q) = seq (t.span.at, name) (e.Name t.span.at name) (mark depth t ∷ []) [] (named t name q) (second (e.Name t.span.at name) [] itself)
place_is depth room _ _ (element _ t l r name x ms q i g j) =
    seq (t.span.at, name) (e.Index t.span.at name x) (mark depth t ∷ []) (mark depth l ∷ (ms ++ mark (suc depth) r ∷ [])) (named t name q)
    (first (e.Index t.span.at name x) (mark depth l ∷ (ms ++ mark (suc depth) r ∷ []))
    (seq l.span.at (e.Index t.span.at name x) (mark depth l ∷ []) (ms ++ mark (suc depth) r ∷ []) (signed l i)
    (seq x (e.Index t.span.at name x) ms (mark (suc depth) r ∷ []) g (made r.span.at (mark (suc depth) r ∷ []) (signed r j)))))

pub is_call : (depth room : ℕ) (t : Token) (name : List ℕ) → t.kind ≡ k.Name name → (x : Expr) (ms : List Marked) → (call_part depth room t.span.at name).spells x ms
    → CallSpells depth x (mark depth t ∷ ms)
unfolding bind made_of sign_part
is_call depth room t name q _ _ (seq _ _ _ _ (signed l i) (made _ _ (seq xs _ a _ g (made _ _ (signed r j))))) = function_call depth t l r name xs a q i g j

pub call_is : (depth room : ℕ) (t l r : Token) (name : List ℕ) (xs : List Expr) (a : List Marked) → l.kind ≡ k.Mark m.OpenParen → ArgsSpell (suc depth) xs a → r.kind ≡ k.Mark m.CloseParen
    → (call_part depth room t.span.at name).spells (e.Call t.span.at name xs) (mark depth l ∷ (a ++ mark (suc depth) r ∷ []))
unfolding bind made_of sign_part
call_is depth room t l r name xs a i g j =
    seq l.span.at (e.Call t.span.at name xs) (mark depth l ∷ []) (a ++ mark (suc depth) r ∷ []) (signed l i)
    (made xs (a ++ mark (suc depth) r ∷ []) (seq xs xs a (mark (suc depth) r ∷ []) g (made r.span.at (mark (suc depth) r ∷ []) (signed r j))))
