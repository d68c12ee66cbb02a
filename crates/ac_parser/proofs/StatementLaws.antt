-- The laws of the statements with no statement in them: their parts, what they spell both ways, and the laws, put together from those of
-- expressions. Of a call and an assignment the name is read first, and the token behind it tells which of the two it is (`assign_not`).
use Rattle.std.proofs.Common.{◌≡◌, ℕ, suc, ◌-◌, ◌+◌, ◌<◌, false, List, [], ◌∷◌, ◌++◌, Option, refl, sym, ap, ◌∙◌, subst, arith}
use Rattle.ac_tree.specs.declared.expr.Expr.{Expr}
use Rattle.ac_tree.specs.declared.expr.Expr.TheVariants as e
use Rattle.ac_tree.specs.declared.stmt.Stmt.{Stmt}
use Rattle.ac_tree.specs.declared.stmt.Stmt.TheVariants as s
use Rattle.ac_lexer.specs.declared.token.Word.{Word}
use Rattle.ac_lexer.specs.declared.token.Word.TheVariants as w
use Rattle.ac_lexer.specs.declared.token.Mark.TheVariants as m
use Rattle.ac_lexer.specs.declared.token.Kind.TheVariants as k
use Rattle.ac_lexer.specs.declared.token.Token.{Token}
use Rattle.reading_laws.specs.Marks.{Marked, mark, tokens, IsWord, IsMark, IsName}
use Rattle.ac_expressions.specs.Spelling.{CallSpells, MoreSpell}
use Rattle.ac_parser.specs.SpellingOfStatements.{TestSpells, StmtSpells, empty, assign, call_stmt, print, break, continue, return, cancel, yield}
use Rattle.reading_laws.specs.Letters.{Sign, word, sign, is_kind, starts_with, has_text, text_at}
use Rattle.ac_expressions.specs.Reads.{place_of, operation_at, expr_at}
use Rattle.reading_laws.proofs.Marking.{tokens_split}
use Rattle.reading_laws.proofs.Parts.{Part, Law, Any, itself, ret, seq, made, first, second, law_same, law_bind, law_then, law_made, bind, made_of, either}
use Rattle.reading_laws.proofs.Letters.{signed, sign_part, law_sign, named, name_part, law_name, texted}
use Rattle.ac_expressions.proofs.ExpressionHeads.{call_head}
use Rattle.ac_expressions.proofs.ChainLaws.{expr_named}
use Rattle.reading_laws.proofs.Openings.{by_last, last_is, begins_bound, begins_made, no_bound, within_had, deep_text, deep_text_law}
use Rattle.ac_expressions.proofs.Openings.{ends_made}
use Rattle.ac_expressions.proofs.CallLaws.{call_part, named_place, call_law, is_call, more_named, more_law}
use Rattle.ac_expressions.proofs.UnaryLaws.{whole_law, operation_part, operation_reads, operation_law, is_operation}
use Rattle.ac_parser.proofs.DeclLaws.{simple_rest, simple_rest_law, is_simple_rest}
use Rattle.ac_parser.proofs.ForLaws.{test_named, test_law}

-- ---- the shapes; the depth is that of the statement, and the room that of what is one deeper

abbrev pub empty_part : ℕ → Part Stmt
empty_part depth = made_of (sign_part depth (sign m.Semicolon)) (λ at. s.Empty at)

abbrev pub call_stmt_part : ℕ → ℕ → ℕ → List ℕ → Part Stmt
call_stmt_part depth room at name = bind (call_part depth room at name) (λ x. made_of (sign_part depth (sign m.Semicolon)) (λ _. s.Call at x))

abbrev pub assign_part : ℕ → ℕ → ℕ → List ℕ → Part Stmt
assign_part depth room at name = bind (simple_rest depth room at name) (λ x. made_of (sign_part depth (sign m.Semicolon)) (λ _. x))

abbrev pub operation_named : ℕ → ℕ → Part Expr
operation_named depth room = record { read = operation_at (expr_at room) (expr_at (room - 1)) room; spells = (operation_part depth room).spells; filled = (operation_part depth room).filled }

abbrev pub operation_stmt_part : ℕ → ℕ → Part Stmt
operation_stmt_part depth room = bind (operation_named depth room) (λ x. made_of (sign_part depth (sign m.Semicolon)) (λ _. s.Call (place_of x) x))

abbrev pub print_part : ℕ → ℕ → Part Stmt
print_part depth room = bind (sign_part depth (word w.Printf)) (λ at. bind (sign_part depth (sign m.OpenParen)) (λ _. bind (deep_text (suc depth) room) (λ format. bind (more_named (suc depth) room)
    (λ xs. bind (sign_part (suc depth) (sign m.CloseParen)) (λ _. made_of (sign_part depth (sign m.Semicolon)) (λ _. s.Print at format xs))))))

-- a word and a semicolon
abbrev pub word_part : ℕ → Word → (ℕ → Stmt) → Part Stmt
word_part depth a whole = bind (sign_part depth (word a)) (λ at. made_of (sign_part depth (sign m.Semicolon)) (λ _. whole at))

abbrev pub return_part : ℕ → ℕ → Part Stmt
return_part depth room = bind (sign_part depth (word w.Return)) (λ at. bind (test_named depth (suc room)) (λ x. made_of (sign_part depth (sign m.Semicolon)) (λ _. s.Return at x)))

abbrev pub cancel_part : ℕ → Part Stmt
cancel_part depth = bind (sign_part depth (word w.Cancel)) (λ at. bind (name_part depth) (λ n. made_of (sign_part depth (sign m.Semicolon)) (λ _. s.Cancel at n.1)))

-- ---- what they spell

pub is_empty : (depth : ℕ) (x : Stmt) (ms : List Marked) → (empty_part depth).spells x ms → StmtSpells depth x ms
unfolding made_of sign_part
is_empty depth _ _ (made _ _ (signed t q)) = empty depth t q

pub is_call_stmt : (depth room : ℕ) (t : Token) (name : List ℕ) → IsName name t → (x : Stmt) (ms : List Marked) → (call_stmt_part depth room t.span.at name).spells x ms
    → StmtSpells depth x (mark depth t ∷ ms)
unfolding bind
is_call_stmt depth room t name q _ _ (seq x y a c g last) =
    by_last (λ y c. StmtSpells depth y (mark depth t ∷ (a ++ c))) depth (sign m.Semicolon) (s.Call t.span.at x) y c last (λ r j. call_stmt depth t r x a (is_call depth room t name q x a g) j)

pub is_assign : (depth room : ℕ) (t : Token) (name : List ℕ) → IsName name t → (x : Stmt) (ms : List Marked) → (assign_part depth room t.span.at name).spells x ms
    → StmtSpells depth x (mark depth t ∷ ms)
unfolding bind
is_assign depth room t name q _ _ (seq x y a c g last) =
    by_last (λ y c. StmtSpells depth y (mark depth t ∷ (a ++ c))) depth (sign m.Semicolon) x y c last (λ r j. assign depth x r (mark depth t ∷ a) (is_simple_rest depth room t name q x a g) j)

pub called : (depth : ℕ) (x : Expr) (a : List Marked) → CallSpells depth x a → (r : Token) → IsMark m.Semicolon r → StmtSpells depth (s.Call (place_of x) x) (a ++ mark depth r ∷ [])
called depth x a g r j =
    let h = call_head depth x a g in
    let g' : CallSpells depth x (mark depth h.headed.head ∷ h.headed.others) = subst (λ (a : List Marked). CallSpells depth x a) h.headed.is g in
    let one : StmtSpells depth (s.Call h.headed.head.span.at x) (mark depth h.headed.head ∷ (h.headed.others ++ mark depth r ∷ [])) = call_stmt depth h.headed.head r x h.headed.others g' j in
    let two : StmtSpells depth (s.Call (place_of x) x) (mark depth h.headed.head ∷ (h.headed.others ++ mark depth r ∷ [])) =
    subst (λ (at : ℕ). StmtSpells depth (s.Call at x) (mark depth h.headed.head ∷ (h.headed.others ++ mark depth r ∷ []))) (sym h.headed.place) one in
    subst (λ (a : List Marked). StmtSpells depth (s.Call (place_of x) x) (a ++ mark depth r ∷ [])) (sym h.headed.is) two

pub is_operation_stmt : (depth room : ℕ) (x : Stmt) (ms : List Marked) → (operation_stmt_part depth room).spells x ms → StmtSpells depth x ms
unfolding bind
is_operation_stmt depth room _ _ (seq x y a c g last) =
    by_last (λ y c. StmtSpells depth y (a ++ c)) depth (sign m.Semicolon) (s.Call (place_of x) x) y c last (λ r j. called depth x a (is_operation depth room x a g) r j)

pub is_print : (depth room : ℕ) (x : Stmt) (ms : List Marked) → (print_part depth room).spells x ms → StmtSpells depth x ms
unfolding bind sign_part
is_print depth room _ _ (seq _ _ _ _ (signed t q) (seq _ _ _ _ (signed l i) (seq _ _ _ _ (texted u format v) (seq xs _ a _ g (seq _ y _ c (signed r j) last))))) =
    by_last (λ y c. StmtSpells depth y (mark depth t ∷ mark depth l ∷ mark (suc depth) u ∷ (a ++ mark (suc depth) r ∷ c))) depth (sign m.Semicolon) (s.Print t.span.at format xs) y c last
    (λ f z. print depth t l u r f format xs a q i v g j z)

pub is_break : (depth : ℕ) (x : Stmt) (ms : List Marked) → (word_part depth w.Break s.Break).spells x ms → StmtSpells depth x ms
unfolding bind sign_part
is_break depth _ _ (seq _ y _ c (signed t q) last) = by_last (λ y c. StmtSpells depth y (mark depth t ∷ c)) depth (sign m.Semicolon) (s.Break t.span.at) y c last (λ r j. break depth t r q j)

pub is_continue : (depth : ℕ) (x : Stmt) (ms : List Marked) → (word_part depth w.Continue s.Continue).spells x ms → StmtSpells depth x ms
unfolding bind sign_part
is_continue depth _ _ (seq _ y _ c (signed t q) last) = by_last (λ y c. StmtSpells depth y (mark depth t ∷ c)) depth (sign m.Semicolon) (s.Continue t.span.at) y c last (λ r j. continue depth t r q j)

pub is_yield : (depth : ℕ) (x : Stmt) (ms : List Marked) → (word_part depth w.Yield s.Yield).spells x ms → StmtSpells depth x ms
unfolding bind sign_part
is_yield depth _ _ (seq _ y _ c (signed t q) last) = by_last (λ y c. StmtSpells depth y (mark depth t ∷ c)) depth (sign m.Semicolon) (s.Yield t.span.at) y c last (λ r j. yield depth t r q j)

pub is_return : (depth room : ℕ) (x : Stmt) (ms : List Marked) → (return_part depth room).spells x ms → StmtSpells depth x ms
unfolding bind sign_part
is_return depth room _ _ (seq _ _ _ _ (signed t q) (seq x y a c g last)) =
    by_last (λ y c. StmtSpells depth y (mark depth t ∷ (a ++ c))) depth (sign m.Semicolon) (s.Return t.span.at x) y c last (λ r j. return depth t r x a q g j)

pub is_cancel : (depth : ℕ) (x : Stmt) (ms : List Marked) → (cancel_part depth).spells x ms → StmtSpells depth x ms
unfolding bind sign_part name_part
is_cancel depth _ _ (seq _ _ _ _ (signed t q) (seq _ y _ c (named n label i) last)) =
    by_last (λ y c. StmtSpells depth y (mark depth t ∷ mark depth n ∷ c)) depth (sign m.Semicolon) (s.Cancel t.span.at label) y c last (λ r j. cancel depth t n r label q i j)

-- ---- and back

pub word_is : (depth : ℕ) (a : Word) (whole : ℕ → Stmt) (t r : Token) → IsWord a t → IsMark m.Semicolon r → (word_part depth a whole).spells (whole t.span.at) (mark depth t ∷ mark depth r ∷ [])
unfolding bind sign_part
word_is depth a whole t r q j = seq t.span.at _ _ _ (signed t q) (last_is depth (sign m.Semicolon) (whole t.span.at) r j)

pub print_is : (depth room : ℕ) (t l u r f : Token) (format : List ℕ) (xs : List Expr) (a : List Marked) → IsWord w.Printf t → IsMark m.OpenParen l → u.kind ≡ k.Text format
    → MoreSpell (suc depth) xs a → IsMark m.CloseParen r → IsMark m.Semicolon f
    → (print_part depth room).spells (s.Print t.span.at format xs) (mark depth t ∷ mark depth l ∷ mark (suc depth) u ∷ (a ++ mark (suc depth) r ∷ mark depth f ∷ []))
unfolding bind sign_part
print_is depth room t l u r f format xs a q i v g j z =
    seq t.span.at _ _ _ (signed t q) (seq l.span.at _ _ _ (signed l i) (seq format _ _ _ (texted u format v)
    (seq xs _ a _ g (seq r.span.at _ _ _ (signed r j) (last_is depth (sign m.Semicolon) (s.Print t.span.at format xs) f z)))))

pub return_is : (depth room : ℕ) (t r : Token) (x : Option Expr) (a : List Marked) → IsWord w.Return t → TestSpells depth x a → IsMark m.Semicolon r
    → (return_part depth room).spells (s.Return t.span.at x) (mark depth t ∷ (a ++ mark depth r ∷ []))
unfolding bind sign_part
return_is depth room t r x a q g j = seq t.span.at _ _ _ (signed t q) (seq x _ a _ g (last_is depth (sign m.Semicolon) (s.Return t.span.at x) r j))

pub cancel_is : (depth : ℕ) (t n r : Token) (label : List ℕ) → IsWord w.Cancel t → IsName label n → IsMark m.Semicolon r
    → (cancel_part depth).spells (s.Cancel t.span.at label) (mark depth t ∷ mark depth n ∷ mark depth r ∷ [])
unfolding bind sign_part name_part
cancel_is depth t n r label q i j = seq t.span.at _ _ _ (signed t q) (seq (n.span.at, label) _ _ _ (named n label i) (last_is depth (sign m.Semicolon) (s.Cancel t.span.at label) r j))

-- ---- the first token behind a name

rest_case : (v : Sign) (depth room at : ℕ) (name : List ℕ) (x : Expr) (a : List Marked) → is_kind v (k.Mark m.OpenBracket) ≡ false → (named_place depth room at name).spells x a → (rest : List Token)
    → starts_with v rest ≡ false → starts_with v (tokens a ++ rest) ≡ false
unfolding either ret
rest_case v depth room at name _ _ h (first x a g) rest q = no_bound v depth (sign m.OpenBracket) h
    (λ _. bind (expr_named (suc depth) room) (λ x. made_of (sign_part (suc depth) (sign m.CloseBracket)) (λ _. e.Index at name x))) x a rest g
rest_case v depth room at name _ _ h (second _ _ itself) rest q = q

pub assign_not : (v : Sign) → is_kind v (k.Mark m.OpenBracket) ≡ false → is_kind v (k.Mark m.Assign) ≡ false → (depth room at : ℕ) (name : List ℕ) (x : Stmt) (ms : List Marked) (rest : List Token)
    → (assign_part depth room at name).spells x ms → starts_with v (tokens ms ++ rest) ≡ false
unfolding bind
assign_not v h i depth room at name _ _ rest (seq x y _ c (seq u z a d g more) last) =
    ap (starts_with v) (tokens_split (a ++ d) c rest ∙ tokens_split a d (tokens c ++ rest))
    ∙ rest_case v depth room at name u a h g (tokens d ++ (tokens c ++ rest))
    (no_bound v depth (sign m.Assign) i (λ _. made_of (expr_named depth (suc room)) (λ y. s.Assign at u y)) x d (tokens c ++ rest) more)

-- ---- the laws

module _ (L depth room : ℕ) (now : depth + suc room ≡ suc L) where
  pub empty_law : Law L Stmt (empty_part depth) Any
  empty_law = law_made (λ at. s.Empty at) Any (law_sign L depth (omega (arith, now)) (sign m.Semicolon)) (λ x rest h. tt)

  pub semicolon_law : (x : Stmt) → Law L Stmt (made_of (sign_part depth (sign m.Semicolon)) (λ _. x)) Any
  semicolon_law x = law_made (λ _. x) Any (law_sign L depth (omega (arith, now)) (sign m.Semicolon)) (λ x rest h. tt)

  pub call_stmt_law : (at : ℕ) (name : List ℕ) → Law L Stmt (call_stmt_part depth room at name) Any
  call_stmt_law at name = law_then (call_law L depth room now (whole_law L (suc depth) room (omega (arith, now))) at name) (λ x. semicolon_law (s.Call at x))

  pub assign_law : (at : ℕ) (name : List ℕ) → Law L Stmt (assign_part depth room at name) Any
  assign_law at name = law_bind (simple_rest_law L depth room now at name) (λ x a r h. semicolon_law x) (λ x y c rest g h. ends_made depth (sign m.Semicolon) refl (λ _. x) y c rest g)

  operation_named_law : Law L Expr (operation_named depth room) Any
  operation_named_law = law_same (operation_part depth room) (operation_named depth room) (operation_reads depth room) (λ x ms g. g) (λ x ms g. g)
      (operation_law L depth room now (whole_law L (suc depth) room (omega (arith, now))) (λ inner q. whole_law L (suc (suc depth)) inner (omega (arith, now, q))))

  pub operation_stmt_law : Law L Stmt (operation_stmt_part depth room) Any
  operation_stmt_law = law_then operation_named_law (λ x. semicolon_law (s.Call (place_of x) x))

  pub print_law : Law L Stmt (print_part depth room) Any
  print_law = law_then (law_sign L depth (omega (arith, now)) (word w.Printf)) (λ at. law_then (law_sign L depth (omega (arith, now)) (sign m.OpenParen))
      (λ _. law_bind (deep_text_law L (suc depth) room (omega (arith, now)))
      (λ format a r h. let lt : 0 < room = within_had has_text (λ room ts. text_at ts) room a (format, r) h in
      law_bind (more_law L (suc depth) room (omega (arith, now)) (whole_law L (suc depth) room (omega (arith, now))) (omega (arith, now, lt)))
      (λ xs a r h. law_then (law_sign L (suc depth) (omega (arith, now, lt)) (sign m.CloseParen)) (λ _. semicolon_law (s.Print at format xs)))
      (λ xs y c rest g h. begins_bound (suc depth) (sign m.CloseParen) (λ _. made_of (sign_part depth (sign m.Semicolon)) (λ _. s.Print at format xs)) y c rest g))
      (λ format y c rest g h. tt)))

  pub word_law : (a : Word) (whole : ℕ → Stmt) → Law L Stmt (word_part depth a whole) Any
  word_law a whole = law_then (law_sign L depth (omega (arith, now)) (word a)) (λ at. semicolon_law (whole at))

  pub return_law : Law L Stmt (return_part depth room) Any
  return_law = law_then (law_sign L depth (omega (arith, now)) (word w.Return))
      (λ at. law_bind (test_law L depth (suc room) now) (λ x a r h. semicolon_law (s.Return at x)) (λ x y c rest g h. begins_made depth (sign m.Semicolon) (λ _. s.Return at x) y c rest g))

  pub cancel_law : Law L Stmt (cancel_part depth) Any
  cancel_law = law_then (law_sign L depth (omega (arith, now)) (word w.Cancel)) (λ at. law_then (law_name L depth (omega (arith, now))) (λ n. semicolon_law (s.Cancel at n.1)))
