-- Statements by their first token, as one part each: what the parts read and what they spell.
-- The part reads as `stmt_at` does, where only the reading of `if` has to be regrouped (`stmt_reads`), and spells what the grammar does, by form
-- one way (`is_stmt`), by its cases the other (`stmt_is`). The second is harder: calls and assignments are split at the name that is read first.
use Rattle.std.proofs.Common.{◌≡◌, ℕ, suc, List, [], ◌∷◌, ◌++◌, Option, Some, None, Ok, Err, refl, sym, ap, ◌∙◌, subst}
use Rattle.std.specs.Prelude.{if◌then◌else◌}
use Rattle.std.proofs.lemmas.List.{append-nil}
use Rattle.ac_tree.specs.declared.expr.Expr.{Expr}
use Rattle.ac_tree.specs.declared.expr.Expr.TheVariants as e
use Rattle.ac_tree.specs.declared.stmt.Stmt.{Stmt}
use Rattle.ac_tree.specs.declared.stmt.Stmt.TheVariants as s
use Rattle.ac_lexer.specs.declared.token.Word.TheVariants as w
use Rattle.ac_lexer.specs.declared.token.Mark.TheVariants as m
use Rattle.ac_lexer.specs.declared.token.Token.{Token}
use Rattle.ac_parser.specs.declared.forms.Opening.{Opening}
use Rattle.ac_parser.specs.declared.forms.Opening.TheVariants as f
use Rattle.reading_laws.specs.Marks.{Marked, mark, IsMark, IsName}
use Rattle.ac_expressions.specs.Spelling.{CallSpells}
use Rattle.ac_parser.specs.SpellingOfStatements.{StmtSpells, block, empty, assign, call_stmt, print, if_alone, if_else, while, for, break, continue, return, do_plain, do_labelled, async, cancel}
use Rattle.ac_parser.specs.SpellingOfStatements.{yield}
use Rattle.reading_laws.specs.Readers.{Reads, halt, unexpected, ◌>>=◌}
use Rattle.reading_laws.specs.Letters.{sign, starts_with, word_at, mark_at}
use Rattle.ac_expressions.specs.Reads.{place_of, expr_at}
use Rattle.ac_parser.specs.inner.ReadsStatements.{opening_of, is_opening, other_at, if_at, stmt_by, stmt_at}
use Rattle.reading_laws.proofs.Halts.{bind_ext}
use Rattle.reading_laws.proofs.Parts.{Part, ret, seq, made, Either_of, first, second, chosen, bind, made_of, either, select}
use Rattle.reading_laws.proofs.Letters.{signed, sign_part, named, name_part}
use Rattle.ac_expressions.proofs.ExpressionHeads.{call_head, call_place}
use Rattle.reading_laws.proofs.Openings.{last_is}
use Rattle.ac_expressions.proofs.UnaryLaws.{CallOf, of_function, of_operation, call_of}
use Rattle.ac_parser.proofs.DeclLaws.{SimpleSplit, split_simple}
use Rattle.ac_parser.proofs.StatementLaws.{empty_part, call_stmt_part, assign_part, operation_stmt_part, print_part, word_part, return_part, cancel_part, is_empty, is_call_stmt, is_assign}
use Rattle.ac_parser.proofs.StatementLaws.{is_operation_stmt, is_print, is_break, is_continue, is_yield, is_return, is_cancel, word_is, print_is, return_is, cancel_is}
use Rattle.ac_parser.proofs.CompoundLaws.{block_stmt_part, do_part, labelled_part, while_part, for_part, async_part, is_do, is_labelled, do_is, labelled_is, is_while, while_is, is_async, async_is}
use Rattle.ac_parser.proofs.CompoundLaws.{is_for, for_is}
use Rattle.ac_parser.proofs.BranchLaws.{no_other, some_other, if_part, is_if, if_is}

-- ---- the forms

abbrev pub label_or_assign : ℕ → ℕ → ℕ → List ℕ → Part Stmt
label_or_assign depth room at name = either (starts_with (sign m.Colon)) (labelled_part depth room at name) (assign_part depth room at name)

abbrev pub named_stmt_part : ℕ → ℕ → Part Stmt
named_stmt_part depth room = bind (name_part depth) (λ n. either (starts_with (sign m.OpenParen)) (call_stmt_part depth room n.0 n.1) (label_or_assign depth room n.0 n.1))

abbrev pub opening_part : ℕ → ℕ → Opening → Part Stmt
opening_part depth room f.Block = block_stmt_part depth room
opening_part depth room f.Empty = empty_part depth
opening_part depth room f.Name = named_stmt_part depth room
opening_part depth room f.Operation = operation_stmt_part depth room
opening_part depth room f.Print = print_part depth room
opening_part depth room f.If = if_part depth room
opening_part depth room f.While = while_part depth room
opening_part depth room f.For = for_part depth room
opening_part depth room f.Break = word_part depth w.Break s.Break
opening_part depth room f.Continue = word_part depth w.Continue s.Continue
opening_part depth room f.Return = return_part depth room
opening_part depth room f.Do = do_part depth room (λ at. at) None
opening_part depth room f.Async = async_part depth room
opening_part depth room f.Cancel = cancel_part depth
opening_part depth room f.Yield = word_part depth w.Yield s.Yield
opening_part depth room f.Other = empty_part depth

abbrev pub stmt_part : ℕ → ℕ → Part Stmt
stmt_part depth room = select opening_of is_opening (opening_part depth room) f.Empty refl

abbrev with_branches : ℕ → Expr → Reads (Stmt × Option Stmt) → Reads Stmt
with_branches at x r = r >>= λ p. Ok (s.If at x p.0.0 p.0.1, p.1)

abbrev pair_with : Stmt → Reads (Option Stmt) → Reads (Stmt × Option Stmt)
pair_with y o = o >>= λ z. Ok ((y, z.0), z.1)

other_assoc : (o : Reads (Option Stmt)) (y : Stmt) (at : ℕ) (x : Expr) → with_branches at x (pair_with y o) ≡ (o >>= λ z. Ok (s.If at x y z.0, z.1))
other_assoc (Ok z) y at x = refl
other_assoc (Err e) y at x = refl

branch_assoc : (b : Reads Stmt) (o : List Token → Reads (Option Stmt)) (at : ℕ) (x : Expr)
    → with_branches at x (b >>= λ y. pair_with y.0 (o y.1)) ≡ (b >>= λ y. o y.1 >>= λ z. Ok (s.If at x y.0 z.0, z.1))
branch_assoc (Ok y) o at x = other_assoc (o y.1) y.0 at x
branch_assoc (Err e) o at x = refl

if_same : (depth room : ℕ) (a : List Token) → if_at (stmt_at room) room a ≡ (if_part depth room).read a
unfolding bind made_of sign_part
if_same depth room a = bind_ext (word_at w.If a) _ _ (λ h. bind_ext (mark_at m.OpenParen h.1) _ _
    (λ l. bind_ext (expr_at room l.1) _ _ (λ x. bind_ext (mark_at m.CloseParen x.1) _ _ (λ r. branch_assoc (stmt_at room r.1) (other_at (stmt_at room)) h.0 x.0))))

opening_reads : (depth room : ℕ) (form : Opening) (a : List Token) → stmt_by (stmt_at room) room form a ≡ (if is_opening form then (opening_part depth room form).read a else Err (halt unexpected a))
unfolding bind made_of either ret sign_part name_part
opening_reads depth room f.Block a = refl
opening_reads depth room f.Empty a = refl
opening_reads depth room f.Name a = refl
opening_reads depth room f.Operation a = refl
opening_reads depth room f.Print a = refl
opening_reads depth room f.If a = if_same depth room a
opening_reads depth room f.While a = refl
opening_reads depth room f.For a = refl
opening_reads depth room f.Break a = refl
opening_reads depth room f.Continue a = refl
opening_reads depth room f.Return a = refl
opening_reads depth room f.Do a = refl
opening_reads depth room f.Async a = refl
opening_reads depth room f.Cancel a = refl
opening_reads depth room f.Yield a = refl
opening_reads depth room f.Other a = refl

pub stmt_reads : (depth room : ℕ) (a : List Token) → stmt_at (suc room) a ≡ (stmt_part depth room).read a
unfolding select stmt_at
stmt_reads depth room a = opening_reads depth room (opening_of a) a

-- ---- what they spell

is_named : (depth room : ℕ) (x : Stmt) (ms : List Marked) → (named_stmt_part depth room).spells x ms → StmtSpells depth x ms
unfolding bind either name_part
is_named depth room _ _ (seq _ x _ a (named t name q) g) = named_case depth room t name q x a g
  where
    label_case : (depth room : ℕ) (t : Token) (name : List ℕ) → IsName name t → (x : Stmt) (a : List Marked)
        → Either_of Stmt (labelled_part depth room t.span.at name).spells (assign_part depth room t.span.at name).spells x a → StmtSpells depth x (mark depth t ∷ a)
    label_case depth room t name q _ _ (first x a g) = is_labelled depth room t name q x a g
    label_case depth room t name q _ _ (second x a g) = is_assign depth room t name q x a g

    named_case : (depth room : ℕ) (t : Token) (name : List ℕ) → IsName name t → (x : Stmt) (a : List Marked)
        → Either_of Stmt (call_stmt_part depth room t.span.at name).spells (label_or_assign depth room t.span.at name).spells x a → StmtSpells depth x (mark depth t ∷ a)
    named_case depth room t name q _ _ (first x a g) = is_call_stmt depth room t name q x a g
    named_case depth room t name q _ _ (second x a g) = label_case depth room t name q x a g

is_blocked : (depth room : ℕ) (x : Stmt) (ms : List Marked) → (block_stmt_part depth room).spells x ms → StmtSpells depth x ms
unfolding made_of
is_blocked depth room _ _ (made x ms g) = block depth x.0 x.1 ms g

opening_is : (depth room : ℕ) (form : Opening) (x : Stmt) (ms : List Marked) → (opening_part depth room form).spells x ms → StmtSpells depth x ms
opening_is depth room f.Block x ms g = is_blocked depth room x ms g
opening_is depth room f.Empty x ms g = is_empty depth x ms g
opening_is depth room f.Name x ms g = is_named depth room x ms g
opening_is depth room f.Operation x ms g = is_operation_stmt depth room x ms g
opening_is depth room f.Print x ms g = is_print depth room x ms g
opening_is depth room f.If x ms g = is_if depth room x ms g
opening_is depth room f.While x ms g = is_while depth room x ms g
opening_is depth room f.For x ms g = is_for depth room x ms g
opening_is depth room f.Break x ms g = is_break depth x ms g
opening_is depth room f.Continue x ms g = is_continue depth x ms g
opening_is depth room f.Return x ms g = is_return depth room x ms g
opening_is depth room f.Do x ms g = is_do depth room x ms g
opening_is depth room f.Async x ms g = is_async depth room x ms g
opening_is depth room f.Cancel x ms g = is_cancel depth x ms g
opening_is depth room f.Yield x ms g = is_yield depth x ms g
opening_is depth room f.Other x ms g = is_empty depth x ms g

pub is_stmt : (depth room : ℕ) (x : Stmt) (ms : List Marked) → (stmt_part depth room).spells x ms → StmtSpells depth x ms
unfolding select
is_stmt depth room _ _ (chosen form x ms q g) = opening_is depth room form x ms g

-- ---- and back

by_call : (depth room : ℕ) (x : Expr) (all : List Marked) → CallOf depth room x all → (r : Token) → IsMark m.Semicolon r
    → (stmt_part depth room).spells (s.Call (place_of x) x) (all ++ mark depth r ∷ [])
unfolding select bind either name_part
by_call depth room _ _ (of_function t l v name xs a q g) r j =
    subst (λ (at : ℕ). (stmt_part depth room).spells (s.Call at (e.Call t.span.at name xs)) ((mark depth t ∷ mark depth l ∷ (a ++ mark (suc depth) v ∷ [])) ++ mark depth r ∷ []))
    (sym (call_place t.span.at name xs))
    (chosen f.Name _ _ refl (seq (t.span.at, name) _ (mark depth t ∷ []) _ (named t name q)
    (first _ _ (seq (e.Call t.span.at name xs) _ (mark depth l ∷ (a ++ mark (suc depth) v ∷ [])) _ g (last_is depth (sign m.Semicolon) (s.Call t.span.at (e.Call t.span.at name xs)) r j)))))
by_call depth room _ _ (of_operation x ms g) r j = chosen f.Operation _ _ refl (seq x _ ms _ g (last_is depth (sign m.Semicolon) (s.Call (place_of x) x) r j))

same_first : {x y : Marked} {xs ys : List Marked} → x ∷ xs ≡ y ∷ ys → x ≡ y
same_first h = cc

call_is_stmt : (depth room : ℕ) (head r : Token) (x : Expr) (ms : List Marked) → CallSpells depth x (mark depth head ∷ ms) → IsMark m.Semicolon r
    → (stmt_part depth room).spells (s.Call head.span.at x) (mark depth head ∷ (ms ++ mark depth r ∷ []))
call_is_stmt depth room head r x ms g j =
    let h = call_head depth x (mark depth head ∷ ms) g in
    let at : place_of x ≡ head.span.at = h.headed.place ∙ ap (λ (m : Marked). m.token.span.at) (sym (same_first h.headed.is)) in
    subst (λ (at : ℕ). (stmt_part depth room).spells (s.Call at x) (mark depth head ∷ (ms ++ mark depth r ∷ []))) at
    (by_call depth room x (mark depth head ∷ ms) (call_of depth room x (mark depth head ∷ ms) g) r j)

by_simple : (depth room : ℕ) (x : Stmt) (ms : List Marked) → SimpleSplit depth room x ms → (r : Token) → IsMark m.Semicolon r → (stmt_part depth room).spells x (ms ++ mark depth r ∷ [])
unfolding select bind either name_part
by_simple depth room x ms z r j =
    subst (λ (ms : List Marked). (stmt_part depth room).spells x (ms ++ mark depth r ∷ [])) (sym z.is)
    (chosen f.Name _ _ refl (seq (z.token.span.at, z.name) _ (mark depth z.token ∷ []) _ (named z.token z.name z.kind)
    (second _ _ (second _ _ (seq x _ z.rest _ z.spells (last_is depth (sign m.Semicolon) x r j))))))

pub stmt_is : (depth room : ℕ) (x : Stmt) (ms : List Marked) → StmtSpells depth x ms → (stmt_part depth room).spells x ms
unfolding select bind made_of either sign_part name_part
stmt_is depth room _ _ (block _ at xs ms g) = chosen f.Block _ _ refl (made (at, xs) ms g)
stmt_is depth room _ _ (empty _ t q) = chosen f.Empty _ _ refl (made t.span.at (mark depth t ∷ []) (signed t q))
stmt_is depth room _ _ (assign _ x r ms g j) = by_simple depth room x ms (split_simple depth room x ms g) r j
stmt_is depth room _ _ (call_stmt _ head r x ms g j) = call_is_stmt depth room head r x ms g j
stmt_is depth room _ _ (print _ t l u r c format xs ms q i v g j z) = chosen f.Print _ _ refl (print_is depth room t l u r c format xs ms q i v g j z)
stmt_is depth room _ _ (if_alone _ t l r x y ms ns q i g j h) =
    subst (λ (c : List Marked). (stmt_part depth room).spells (s.If t.span.at x y None) (mark depth t ∷ mark depth l ∷ (ms ++ mark (suc depth) r ∷ c))) (append-nil ns)
    (chosen f.If _ _ refl (if_is depth room t l r x y ms ns None [] q i g j h no_other))
stmt_is depth room _ _ (if_else _ t l r o x y z ms ns os q i g j h v d b) = chosen f.If _ _ refl (if_is depth room t l r x y ms ns (Some z) (mark depth o ∷ os) q i g j h (some_other o z os v d b))
stmt_is depth room _ _ (while _ t l r x y ms ns q i g j h) = chosen f.While _ _ refl (while_is depth room t l r x y ms ns q i g j h)
stmt_is depth room _ _ (for _ t l u v r init test next y is ms ns os q i g d z o n j b) = chosen f.For _ _ refl (for_is depth room t l u v r init test next y is ms ns os q i g d z o n j b)
stmt_is depth room _ _ (break _ t r q j) = chosen f.Break _ _ refl (word_is depth w.Break s.Break t r q j)
stmt_is depth room _ _ (continue _ t r q j) = chosen f.Continue _ _ refl (word_is depth w.Continue s.Continue t r q j)
stmt_is depth room _ _ (return _ t r x ms q g j) = chosen f.Return _ _ refl (return_is depth room t r x ms q g j)
stmt_is depth room _ _ (do_plain _ inner t u r xs ms q g i j) = chosen f.Do _ _ refl (do_is depth room inner (λ at. at) None t u r xs ms q g i j)
stmt_is depth room _ _ (do_labelled _ inner n o t u r label xs ms q v i g j z) =
    chosen f.Name _ _ refl (seq (n.span.at, label) _ (mark depth n ∷ []) _ (named n label q) (second _ _ (first _ _ (labelled_is depth room inner n o t u r label xs ms v i g j z))))
stmt_is depth room _ _ (async _ t y ms q g) = chosen f.Async _ _ refl (async_is depth room t y ms q g)
stmt_is depth room _ _ (cancel _ t n r label q i j) = chosen f.Cancel _ _ refl (cancel_is depth t n r label q i j)
stmt_is depth room _ _ (yield _ t r q j) = chosen f.Yield _ _ refl (word_is depth w.Yield s.Yield t r q j)
