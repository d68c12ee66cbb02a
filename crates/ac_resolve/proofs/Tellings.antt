-- What a statement declares, takes and prints, by its commands and by the rules: both tell the same of its names and slots, by induction on
-- the statement. Texts are only added at the end, so a text keeps its number.
use Rattle.std.proofs.Common.{◌≡◌, ℕ, zero, suc, ◌+◌, ◌≤◌, List, [], ◌∷◌, ◌++◌, length, map, Option, Some, None, refl, sym, ap, ◌∙◌, subst, arith}
use Rattle.std.specs.Prelude.{slice_get}
use Rattle.ac_tree.specs.declared.stmt.Stmt.{Stmt}
use Rattle.ac_tree.specs.declared.stmt.Stmt.TheFolds.{fold-roll-Stmt, ind-Stmt, map-Stmt}
use Rattle.ac_tree.specs.declared.stmt.Stmt.TheOpen.{Stmt-F}
use Rattle.ac_types.specs.Nodes.{Node}
use Rattle.ac_types.specs.Expressions.{one_node, join_nodes}
use Rattle.ac_names.specs.declared.names.Names.{Names}
use Rattle.ac_names.specs.Scopes.{Declaration}
use Rattle.ac_names.specs.Statements.{Named, part_names, part_words, sum_words, some_words, listed, some_listed, declared_at}
use Rattle.ac_types.specs.Statements.{StmtPart, stmt_step, stmt_nodes}
use Rattle.ac_types.proofs.Forms.{some_nodes}
use Rattle.ac_resolve.specs.Commands.{Texts, Told, shape_of, told_step, told, some_told, some_shape, all_texts}

-- ---- texts keep their numbers

abbrev pub Kept : Texts → Texts → Type 0
Kept before after = (number : ℕ) (text : List ℕ) → slice_get before number ≡ Some text → slice_get after number ≡ Some text

pub kept_same : (ts : Texts) → Kept ts ts
kept_same ts number text e = e

pub kept_further : (a b c : Texts) → Kept a b → Kept b c → Kept a c
kept_further a b c f g number text e = g number text (f number text e)

kept_one : (ts : Texts) (new : List ℕ) → Kept ts (ts ++ new ∷ [])
kept_one [] new number text e = cc
kept_one (t ∷ ts) new zero text e = e
kept_one (t ∷ ts) new (suc number) text e = kept_one ts new number text e

-- the last one
pub last_there : (ts : Texts) (new : List ℕ) → slice_get (ts ++ new ∷ []) (length ts) ≡ Some new
last_there [] new = refl
last_there (t ∷ ts) new = last_there ts new

-- ---- statements

abbrev pub NodesPart : Type 0
NodesPart = StmtPart (List Node)

-- an int takes a slot, and an array its length
abbrev takes_len : Option ℕ → ℕ → Type 0
takes_len None words = 1 ≤ words
takes_len (Some len) words = len ≤ words

abbrev pub Takes : Option Named → ℕ → Type 0
Takes None words = Unit {0}
Takes (Some n) words = takes_len n.len words

pub record IsTold (q : Told) (k : NodesPart) : Type 0 where
  pub names : part_names q.shape ≡ part_names k
  pub words : part_words q.shape ≡ part_words k
  pub room : Takes (part_names q.shape) (part_words q.shape)
  pub texts : (ts : Texts) → Kept ts (q.texts ts)

abbrev Claim : Stmt → Type 0
Claim x = IsTold (told x) (stmt_nodes x)

abbrev Stmt_ : Type 0
Stmt_ = (x : Stmt) × Claim x

abbrev stmts_of : List Stmt_ → List Stmt
stmts_of xs = map (λ x. x.0) xs

add_same : (a b c d : ℕ) → a ≡ b → c ≡ d → a + c ≡ b + d
add_same a b c d e f = omega (arith, e, f)

words_alike : (xs : List Stmt_) → sum_words (map shape_of (map told (stmts_of xs))) ≡ sum_words (map stmt_nodes (stmts_of xs))
words_alike [] = refl
words_alike (x ∷ xs) = add_same (part_words (told x.0).shape) (part_words (stmt_nodes x.0)) _ _ x.1.words (words_alike xs)

texts_kept : (xs : List Stmt_) (ts : Texts) → Kept ts (all_texts (map told (stmts_of xs)) ts)
texts_kept [] ts = kept_same ts
texts_kept (x ∷ xs) ts = kept_further ts ((told x.0).texts ts) _ (x.1.texts ts) (texts_kept xs ((told x.0).texts ts))

abbrev node_step : Stmt-F NodesPart → NodesPart
node_step = stmt_step (List Node) one_node [] join_nodes

abbrev told_layer : Stmt-F Stmt_ → Told
told_layer y = told_step (map-Stmt Stmt Told told (map-Stmt Stmt_ Stmt (λ x. x.0) y))

abbrev nodes_layer : Stmt-F Stmt_ → NodesPart
nodes_layer y = node_step (map-Stmt Stmt NodesPart stmt_nodes (map-Stmt Stmt_ Stmt (λ x. x.0) y))

-- two and three parts, one after the other
two_kept : (x y : Stmt_) (ts : Texts) → Kept ts ((told y.0).texts ((told x.0).texts ts))
two_kept x y ts = kept_further ts ((told x.0).texts ts) ((told y.0).texts ((told x.0).texts ts)) (x.1.texts ts) (y.1.texts ((told x.0).texts ts))

three_kept : (x y z : Stmt_) (ts : Texts) → Kept ts ((told z.0).texts ((told y.0).texts ((told x.0).texts ts)))
three_kept x y z ts = kept_further ts ((told x.0).texts ts) _ (x.1.texts ts) (two_kept y z ((told x.0).texts ts))

plain : (q : Told) (k : NodesPart) → part_names q.shape ≡ None → part_names k ≡ None → part_words q.shape ≡ part_words k → ((ts : Texts) → Kept ts (q.texts ts)) → IsTold q k
plain q k e f w t = record { names = e ∙ sym f; words = w; room = subst (λ o. Takes o (part_words q.shape)) (sym e) tt; texts = t }

layer : (y : Stmt-F Stmt_) → IsTold (told_layer y) (nodes_layer y)
layer (Stmt-F.Block at body) = plain _ _ refl refl (words_alike body) (texts_kept body)
layer (Stmt-F.Empty at) = plain _ _ refl refl refl kept_same
layer (Stmt-F.Int at name value) = record { names = refl; words = refl; room = omega arith; texts = kept_same }
layer (Stmt-F.Array at name size) = record { names = refl; words = refl; room = omega arith; texts = kept_same }
layer (Stmt-F.Assign at place value) = plain _ _ refl refl refl kept_same
layer (Stmt-F.Call at call) = plain _ _ refl refl refl kept_same
layer (Stmt-F.Print at format args) = plain _ _ refl refl refl (λ ts. kept_one ts format)
layer (Stmt-F.If at test body None) = plain _ _ refl refl (ap (λ k. k + 0) body.1.words) body.1.texts
layer (Stmt-F.If at test body (Some x)) = plain _ _ refl refl (add_same _ _ _ _ body.1.words x.1.words) (two_kept body x)
layer (Stmt-F.While at test body) = plain _ _ refl refl body.1.words body.1.texts
layer (Stmt-F.For at None test None body) = plain _ _ refl refl (ap (λ k. (0 + 0) + k) body.1.words) body.1.texts
layer (Stmt-F.For at None test (Some y) body) = plain _ _ refl refl (add_same _ _ _ _ (ap (λ k. 0 + k) y.1.words) body.1.words) (two_kept y body)
layer (Stmt-F.For at (Some x) test None body) = plain _ _ refl refl (add_same _ _ _ _ (ap (λ k. k + 0) x.1.words) body.1.words) (two_kept x body)
layer (Stmt-F.For at (Some x) test (Some y) body) = plain _ _ refl refl (add_same _ _ _ _ (add_same _ _ _ _ x.1.words y.1.words) body.1.words) (three_kept x y body)
layer (Stmt-F.Break at) = plain _ _ refl refl refl kept_same
layer (Stmt-F.Continue at) = plain _ _ refl refl refl kept_same
layer (Stmt-F.Return at value) = plain _ _ refl refl refl kept_same
layer (Stmt-F.Do at label body) = plain _ _ refl refl (ap (λ k. 1 + k) (words_alike body)) (texts_kept body)
layer (Stmt-F.Async at body) = plain _ _ refl refl refl body.1.texts
layer (Stmt-F.Cancel at label) = plain _ _ refl refl refl kept_same
layer (Stmt-F.Yield at) = plain _ _ refl refl refl kept_same

same_told : (q r : Told) (k j : NodesPart) → q ≡ r → k ≡ j → IsTold r j → IsTold q k
same_told q r k j e f h = subst (λ x. IsTold x k) (sym e) (subst (IsTold r) (sym f) h)

pub is_told : (x : Stmt) → Claim x
is_told = ind-Stmt Claim
    (λ x y is.
    same_told _ (told_layer y) _ (nodes_layer y)
    (fold-roll-Stmt Told told_step x ∙ sym (ap (λ z. told_step (map-Stmt Stmt Told told z)) is))
    (fold-roll-Stmt NodesPart node_step x ∙ sym (ap (λ z. node_step (map-Stmt Stmt NodesPart stmt_nodes z)) is))
    (layer y))

pub body_kept : (xs : List Stmt) (ts : Texts) → Kept ts (all_texts (map told xs) ts)
body_kept [] ts = kept_same ts
body_kept (x ∷ xs) ts = kept_further ts ((told x).texts ts) _ ((is_told x).texts ts) (body_kept xs ((told x).texts ts))

-- ---- names after a statement

abbrev names_at : List (List Declaration) → List (List Declaration) → ℕ → Names
names_at scopes labels slot = record { scopes = scopes; labels = labels; slot = slot }

pub listed_same : (x : Stmt) (depth : ℕ) (n : Names) → listed (told x).shape depth n ≡ listed (stmt_nodes x) depth n
listed_same x depth n =
    ap (λ o. names_at (declared_at o depth n.slot n.scopes) n.labels (n.slot + part_words (told x).shape)) (is_told x).names
    ∙ ap (λ w. names_at (declared_at (part_names (stmt_nodes x)) depth n.slot n.scopes) n.labels (n.slot + w)) (is_told x).words

pub some_same : (x : Option Stmt) (depth : ℕ) (n : Names) → some_listed (some_shape (some_told x)) depth n ≡ some_listed (some_nodes x) depth n
some_same None depth n = refl
some_same (Some x) depth n = listed_same x depth n

pub some_alike : (x : Option Stmt) → some_words (some_shape (some_told x)) ≡ some_words (some_nodes x)
some_alike None = refl
some_alike (Some x) = (is_told x).words
