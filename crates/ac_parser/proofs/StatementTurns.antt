-- The first token of a statement tells its form (`opening_form`), and a statement that is read takes the `else` that comes next (`greedy`).
-- The second by induction on the room: `if` reads an `else` where one comes, and takes it; a form that ends in a statement has it of that one;
-- every other one does not end open.
use Rattle.std.proofs.Common.{◌≡◌, ℕ, zero, suc, Bool, true, false, List, ◌++◌, Option, Some, None, Ok, Err, refl, sym, ap, ◌∙◌, subst}
use Rattle.std.specs.Prelude.{if◌then◌else◌}
use Rattle.ac_tree.specs.declared.expr.Expr.{Expr}
use Rattle.ac_tree.specs.declared.stmt.Stmt.{Stmt}
use Rattle.ac_tree.specs.declared.stmt.Stmt.TheVariants as s
use Rattle.ac_lexer.specs.declared.token.Word.TheVariants as w
use Rattle.ac_lexer.specs.declared.token.Mark.TheVariants as m
use Rattle.ac_lexer.specs.declared.token.Token.{Token}
use Rattle.ac_parser.specs.declared.forms.Opening.{Opening}
use Rattle.ac_parser.specs.declared.forms.Opening.TheVariants as f
use Rattle.ac_expressions.specs.declared.forms.Operation.{Operation}
use Rattle.ac_expressions.specs.declared.forms.Operation.TheVariants as o
use Rattle.reading_laws.specs.Marks.{Marked, tokens}
use Rattle.ac_parser.specs.SpellingOfStatements.{ends_open, BlockSpells, braces}
use Rattle.reading_laws.specs.Readers.{halt, unexpected, ◌>>=◌, look}
use Rattle.reading_laws.specs.Letters.{word, sign, starts_with, sign_at, word_at}
use Rattle.ac_expressions.specs.Reads.{place_of}
use Rattle.ac_parser.specs.inner.ReadsStatements.{opening_of, is_opening, begins_stmt, stmt_at}
use Rattle.reading_laws.proofs.Halts.{bind_ok, result, same_result}
use Rattle.reading_laws.proofs.Marking.{tokens_split}
use Rattle.reading_laws.proofs.Parts.{seq, made, chosen, look_never, bind, made_of, select}
use Rattle.reading_laws.proofs.Letters.{signed, sign_part, named, name_part}
use Rattle.ac_expressions.proofs.ChainLaws.{expr_named}
use Rattle.ac_expressions.proofs.CallLaws.{call_part, named_place}
use Rattle.ac_expressions.proofs.UnaryLaws.{operation_part, form_part}
use Rattle.ac_parser.proofs.DeclLaws.{simple_rest}
use Rattle.ac_parser.proofs.StatementHeads.{Leaves, leaves_bind, leaves_made, leaves_last, leaves_either, block_ends, empty_ends, assign_ends, call_ends, print_ends, else_ends, while_ends, for_ends}
use Rattle.ac_parser.proofs.StatementHeads.{break_ends, continue_ends, return_ends, do_ends, async_ends, cancel_ends, yield_ends}
use Rattle.ac_parser.proofs.StatementLaws.{assign_part, operation_named, operation_stmt_part}
use Rattle.ac_parser.proofs.CompoundLaws.{stmt_named, block_named, do_part}
use Rattle.ac_parser.proofs.BranchLaws.{other_named, Greedy}
use Rattle.ac_parser.proofs.AllStatements.{named_stmt_part, opening_part, stmt_part, stmt_reads}

-- ---- the first token tells the form

operation_form : (depth room : ℕ) (form : Operation) (x : Expr) (ms : List Marked) (rest : List Token) → (form_part depth room form).spells x ms → opening_of (tokens ms ++ rest) ≡ f.Operation
unfolding bind sign_part
operation_form depth room o.Send _ _ rest (seq _ _ _ c (signed t q) g) = rw q refl
operation_form depth room o.Recv _ _ rest (seq _ _ _ c (signed t q) g) = rw q refl
operation_form depth room o.Read _ _ rest (seq _ _ _ c (signed t q) g) = rw q refl
operation_form depth room o.Write _ _ rest (seq _ _ _ c (signed t q) g) = rw q refl

operation_opening : (depth room : ℕ) (x : Expr) (ms : List Marked) (rest : List Token) → (operation_part depth room).spells x ms → opening_of (tokens ms ++ rest) ≡ f.Operation
unfolding select
operation_opening depth room _ _ rest (chosen form x ms q g) = operation_form depth room form x ms rest g

operation_stmt_form : (depth room : ℕ) (x : Stmt) (ms : List Marked) (rest : List Token) → (operation_stmt_part depth room).spells x ms → opening_of (tokens ms ++ rest) ≡ f.Operation
unfolding bind
operation_stmt_form depth room _ _ rest (seq x y a c g last) = ap opening_of (tokens_split a c rest) ∙ operation_opening depth room x a (tokens c ++ rest) g

block_form : (depth at : ℕ) (xs : List Stmt) (ms : List Marked) (rest : List Token) → BlockSpells depth at xs ms → opening_of (tokens ms ++ rest) ≡ f.Block
block_form _ _ _ _ rest (braces depth l r xs a q g j) = rw q refl

pub opening_form : (depth room : ℕ) (form : Opening) (x : Stmt) (ms : List Marked) (rest : List Token) → is_opening form ≡ true → (opening_part depth room form).spells x ms
    → opening_of (tokens ms ++ rest) ≡ form
unfolding bind made_of sign_part name_part
opening_form depth room f.Block _ _ rest z (made x ms g) = block_form depth x.0 x.1 ms rest g
opening_form depth room f.Empty _ _ rest z (made _ _ (signed t q)) = rw q refl
opening_form depth room f.Name _ _ rest z (seq _ _ _ c (named t name q) g) = rw q refl
opening_form depth room f.Operation x ms rest z g = operation_stmt_form depth room x ms rest g
opening_form depth room f.Print _ _ rest z (seq _ _ _ c (signed t q) g) = rw q refl
opening_form depth room f.If _ _ rest z (seq _ _ _ c (signed t q) g) = rw q refl
opening_form depth room f.While _ _ rest z (seq _ _ _ c (signed t q) g) = rw q refl
opening_form depth room f.For _ _ rest z (seq _ _ _ c (signed t q) g) = rw q refl
opening_form depth room f.Break _ _ rest z (seq _ _ _ c (signed t q) g) = rw q refl
opening_form depth room f.Continue _ _ rest z (seq _ _ _ c (signed t q) g) = rw q refl
opening_form depth room f.Return _ _ rest z (seq _ _ _ c (signed t q) g) = rw q refl
opening_form depth room f.Do _ _ rest z (seq _ _ _ c (signed t q) g) = rw q refl
opening_form depth room f.Async _ _ rest z (seq _ _ _ c (signed t q) g) = rw q refl
opening_form depth room f.Cancel _ _ rest z (seq _ _ _ c (signed t q) g) = rw q refl
opening_form depth room f.Yield _ _ rest z (seq _ _ _ c (signed t q) g) = rw q refl
opening_form depth room f.Other x ms rest z g = cc

-- ---- a statement takes the `else` that comes next

closed : (x : Stmt) → ends_open x ≡ false → (rest : List Token) → Greedy x rest
closed x h rest q = h

-- of `else` and a statement behind it
abbrev Takes : Option Stmt → List Token → Type 0
Takes None rest = starts_with (word w.Else) rest ≡ false
Takes (Some z) rest = Greedy z rest

other_takes : (room : ℕ) → ((a : List Token) (x : Stmt) (r : List Token) → stmt_at room a ≡ Ok (x, r) → Greedy x r) → (a : List Token) (t : Bool) → starts_with (word w.Else) a ≡ t
    → (z : Option Stmt) (r : List Token)
    → (if t then (word_at w.Else a >>= λ t. stmt_at room t.1 >>= λ x. Ok (Some x.0, x.1)) else Ok (None, a)) ≡ result (Option Stmt) (z, r) → Takes z r
other_takes room g a true q z r h =
    let u = bind_ok (word_at w.Else a) (λ t. stmt_at room t.1 >>= λ x. Ok (Some x.0, x.1)) (z, r) h in
    let v = bind_ok (stmt_at room u.0.1) (λ x. Ok (Some x.0, x.1)) (z, r) u.2 in
    let p = same_result (Option Stmt) (Some v.0.0) z v.0.1 r v.2 in
    subst (λ (z : Option Stmt). Takes z r) p.0 (subst (λ (r : List Token). Greedy v.0.0 r) p.1 (g u.0.1 v.0.0 v.0.1 v.1))
other_takes room g a false q z r h =
    let p = same_result (Option Stmt) None z a r h in
    subst (λ (z : Option Stmt). Takes z r) p.0 (subst (λ (r : List Token). starts_with (word w.Else) r ≡ false) p.1 q)

if_takes : (at : ℕ) (x : Expr) (y : Stmt) (z : Option Stmt) (r : List Token) → Takes z r → Greedy (s.If at x y z) r
if_takes at x y None r h q = let no : true ≡ false = sym q ∙ h in cc
if_takes at x y (Some z) r h q = else_ends at x y z ∙ h q

simple_leaves : (depth room at : ℕ) (name : List ℕ) → Leaves Stmt (simple_rest depth room at name) (λ x r. ends_open x ≡ false)
simple_leaves depth room at name = leaves_bind (named_place depth room at name)
    (λ x. leaves_bind (sign_part depth (sign m.Assign)) (λ _. leaves_last (expr_named depth (suc room)) (λ y. s.Assign at x y) (λ x r. ends_open x ≡ false) (λ y r. assign_ends at x y)))

assigned : (depth room at : ℕ) (name : List ℕ) (a : List Token) (x : Stmt) (r : List Token) → (assign_part depth room at name).read a ≡ Ok (x, r) → ends_open x ≡ false
unfolding bind made_of sign_part
assigned depth room at name a x r h =
    let u = bind_ok ((simple_rest depth room at name).read a) (λ z. sign_at (sign m.Semicolon) z.1 >>= λ t. Ok (z.0, t.1)) (x, r) h in
    let v = bind_ok (sign_at (sign m.Semicolon) u.0.1) (λ t. Ok (u.0.0, t.1)) (x, r) u.2 in
    let p = same_result Stmt u.0.0 x v.0.1 r v.2 in
    ap ends_open (sym p.0) ∙ (simple_leaves depth room at name).leaves a u.0.0 u.0.1 u.1

module _ (depth room : ℕ) (g : (a : List Token) (x : Stmt) (r : List Token) → stmt_at room a ≡ Ok (x, r) → Greedy x r) where
  inner : Leaves Stmt (stmt_named (suc depth) room) Greedy
  inner = record { leaves = g }

  other_leaves : (y : Stmt) → Leaves (Option Stmt) (other_named depth room y) Takes
  other_leaves y = record { leaves = λ a z r h. other_takes room g a (starts_with (word w.Else) a) refl z r h }

  semi : (x : Stmt) → ends_open x ≡ false → Leaves Stmt (made_of (sign_part depth (sign m.Semicolon)) (λ _. x)) Greedy
  semi x h = leaves_last (sign_part depth (sign m.Semicolon)) (λ _. x) Greedy (λ _ r. closed x h r)

  do_leaves : (place : ℕ → ℕ) (label : Option (List ℕ)) → Leaves Stmt (do_part depth room place label) Greedy
  do_leaves place label = leaves_bind (sign_part depth (word w.Do)) (λ at. leaves_bind (block_named depth room)
      (λ x. leaves_bind (sign_part depth (word w.Finish)) (λ _. semi (s.Do (place at) label x.1) (do_ends (place at) label x.1))))

  assign_leaves : (at : ℕ) (name : List ℕ) → Leaves Stmt (assign_part depth room at name) Greedy
  assign_leaves at name = record { leaves = λ a x r h. closed x (assigned depth room at name a x r h) r }

  named_leaves : Leaves Stmt (named_stmt_part depth room) Greedy
  named_leaves = leaves_bind (name_part depth) (λ n. leaves_either (starts_with (sign m.OpenParen)) (leaves_bind (call_part depth room n.0 n.1) (λ x. semi (s.Call n.0 x) (call_ends n.0 x)))
      (leaves_either (starts_with (sign m.Colon)) (leaves_bind (sign_part depth (sign m.Colon)) (λ _. do_leaves (λ _. n.0) (Some n.1))) (assign_leaves n.0 n.1)))

  opening_leaves : (form : Opening) → Leaves Stmt (opening_part depth room form) Greedy
  opening_leaves f.Block = leaves_last (block_named depth room) (λ x. s.Block x.0 x.1) Greedy (λ x r. closed (s.Block x.0 x.1) (block_ends x.0 x.1) r)
  opening_leaves f.Empty = leaves_last (sign_part depth (sign m.Semicolon)) (λ at. s.Empty at) Greedy (λ at r. closed (s.Empty at) (empty_ends at) r)
  opening_leaves f.Name = named_leaves
  opening_leaves f.Operation = leaves_bind (operation_named depth room) (λ x. semi (s.Call (place_of x) x) (call_ends (place_of x) x))
  opening_leaves f.Print = leaves_bind _ (λ at. leaves_bind _ (λ _. leaves_bind _ (λ format. leaves_bind _ (λ xs. leaves_bind _ (λ _. semi (s.Print at format xs) (print_ends at format xs))))))
  opening_leaves f.If = leaves_bind _ (λ at. leaves_bind _ (λ _. leaves_bind _
      (λ x. leaves_bind _ (λ _. leaves_bind _ (λ y. leaves_made (λ z. s.If at x y z) Greedy (other_leaves y) (λ z r h. if_takes at x y z r h))))))
  opening_leaves f.While = leaves_bind _ (λ at. leaves_bind _ (λ _. leaves_bind _ (λ x. leaves_bind _ (λ _. leaves_made (λ y. s.While at x y) Greedy inner (λ y r h q. while_ends at x y ∙ h q)))))
  opening_leaves f.For = leaves_bind _ (λ at. leaves_bind _ (λ _. leaves_bind _
      (λ h. leaves_bind _ (λ _. leaves_made (λ y. s.For at h.init h.test h.next y) Greedy inner (λ y r n q. for_ends at h.init h.test h.next y ∙ n q)))))
  opening_leaves f.Break = leaves_bind _ (λ at. semi (s.Break at) (break_ends at))
  opening_leaves f.Continue = leaves_bind _ (λ at. semi (s.Continue at) (continue_ends at))
  opening_leaves f.Return = leaves_bind _ (λ at. leaves_bind _ (λ x. semi (s.Return at x) (return_ends at x)))
  opening_leaves f.Do = do_leaves (λ at. at) None
  opening_leaves f.Async = leaves_bind _ (λ at. leaves_made (λ y. s.Async at y) Greedy inner (λ y r h q. async_ends at y ∙ h q))
  opening_leaves f.Cancel = leaves_bind _ (λ at. leaves_bind _ (λ n. semi (s.Cancel at n.1) (cancel_ends at n.1)))
  opening_leaves f.Yield = leaves_bind _ (λ at. semi (s.Yield at) (yield_ends at))
  opening_leaves f.Other = leaves_last (sign_part depth (sign m.Semicolon)) (λ at. s.Empty at) Greedy (λ at r. closed (s.Empty at) (empty_ends at) r)

form_takes : (depth room : ℕ) → ((form : Opening) → Leaves Stmt (opening_part depth room form) Greedy) → (form : Opening) (t : Bool) (a : List Token) (x : Stmt) (r : List Token)
    → (if t then (opening_part depth room form).read a else Err (halt unexpected a)) ≡ result Stmt (x, r) → Greedy x r
form_takes depth room l opening true a x r h = (l opening).leaves a x r h
form_takes depth room l opening false a x r h = cc

stmt_takes : (depth room : ℕ) → ((form : Opening) → Leaves Stmt (opening_part depth room form) Greedy) → (a : List Token) (x : Stmt) (r : List Token) → (stmt_part depth room).read a ≡ Ok (x, r)
    → Greedy x r
unfolding select
stmt_takes depth room l a x r h = form_takes depth room l (opening_of a) (is_opening (opening_of a)) a x r h

zero_stmt : (a : List Token) → stmt_at zero a ≡ look (begins_stmt a) a
unfolding stmt_at
zero_stmt a = refl

pub greedy : (room : ℕ) (a : List Token) (x : Stmt) (r : List Token) → stmt_at room a ≡ Ok (x, r) → Greedy x r
greedy zero a x r h = absurd (look_never Stmt (begins_stmt a) a (x, r) (sym (zero_stmt a) ∙ h))
greedy (suc room) a x r h = stmt_takes 0 room (opening_leaves 0 room (greedy room)) a x r (sym (stmt_reads 0 room a) ∙ h)
