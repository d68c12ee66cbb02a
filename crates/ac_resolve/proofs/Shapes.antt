-- What a statement declares and the slots that it takes do not depend on what is told of it: by induction on the statement, with one line
-- for each form.
use Rattle.std.proofs.Common.{◌≡◌, ℕ, ◌+◌, List, [], ◌∷◌, map, Some, None, refl, sym, ap, ◌∙◌}
use Rattle.ac_tree.specs.declared.stmt.Stmt.{Stmt}
use Rattle.ac_tree.specs.declared.stmt.Stmt.TheFolds.{fold-roll-Stmt, ind-Stmt, map-Stmt}
use Rattle.ac_tree.specs.declared.stmt.Stmt.TheOpen.{Stmt-F}
use Rattle.ac_names.specs.Statements.{Shape, part, part_words, sum_words, shape_step, shape}
use Rattle.ac_resolve.specs.Commands.{Told, shape_of, told_step, told}

abbrev Claim : Stmt → Type 0
Claim x = (told x).shape ≡ shape x

abbrev Stmt_ : Type 0
Stmt_ = (x : Stmt) × Claim x

abbrev stmts_of : List Stmt_ → List Stmt
stmts_of xs = map (λ x. x.0) xs

-- a statement that declares nothing
abbrev taking : ℕ → Shape
taking n = part None n tt

words_same : (x : Stmt_) → part_words (told x.0).shape ≡ part_words (shape x.0)
words_same x = ap (λ (s : Shape). part_words s) x.1

add_same : (a b c d : ℕ) → a ≡ b → c ≡ d → a + c ≡ b + d
add_same a b c d e f = ap (λ k. k + c) e ∙ ap (λ k. b + k) f

sums_same : (xs : List Stmt_) → sum_words (map shape_of (map told (stmts_of xs))) ≡ sum_words (map shape (stmts_of xs))
sums_same [] = refl
sums_same (x ∷ xs) = add_same _ _ _ _ (words_same x) (sums_same xs)

abbrev told_layer : Stmt-F Stmt_ → Told
told_layer y = told_step (map-Stmt Stmt Told told (map-Stmt Stmt_ Stmt (λ x. x.0) y))

abbrev shape_layer : Stmt-F Stmt_ → Shape
shape_layer y = shape_step (map-Stmt Stmt Shape shape (map-Stmt Stmt_ Stmt (λ x. x.0) y))

layer : (y : Stmt-F Stmt_) → (told_layer y).shape ≡ shape_layer y
layer (Stmt-F.Block at body) = ap taking (sums_same body)
layer (Stmt-F.Empty at) = refl
layer (Stmt-F.Int at name value) = refl
layer (Stmt-F.Array at name size) = refl
layer (Stmt-F.Assign at place value) = refl
layer (Stmt-F.Call at call) = refl
layer (Stmt-F.Print at format args) = refl
layer (Stmt-F.If at test body None) = ap (λ k. taking (k + 0)) (words_same body)
layer (Stmt-F.If at test body (Some x)) = ap taking (add_same _ _ _ _ (words_same body) (words_same x))
layer (Stmt-F.While at test body) = ap taking (words_same body)
layer (Stmt-F.For at None test None body) = ap (λ k. taking ((0 + 0) + k)) (words_same body)
layer (Stmt-F.For at None test (Some y) body) = ap taking (add_same _ _ _ _ (ap (λ k. 0 + k) (words_same y)) (words_same body))
layer (Stmt-F.For at (Some x) test None body) = ap taking (add_same _ _ _ _ (ap (λ k. k + 0) (words_same x)) (words_same body))
layer (Stmt-F.For at (Some x) test (Some y) body) = ap taking (add_same _ _ _ _ (add_same _ _ _ _ (words_same x) (words_same y)) (words_same body))
layer (Stmt-F.Break at) = refl
layer (Stmt-F.Continue at) = refl
layer (Stmt-F.Return at value) = refl
layer (Stmt-F.Do at label body) = ap (λ k. taking (1 + k)) (sums_same body)
layer (Stmt-F.Async at body) = refl
layer (Stmt-F.Cancel at label) = refl
layer (Stmt-F.Yield at) = refl

pub shape_is : (x : Stmt) → Claim x
shape_is = ind-Stmt Claim
    (λ x y is.
    ap (λ (q : Told). q.shape) (fold-roll-Stmt Told told_step x ∙ sym (ap (λ z. told_step (map-Stmt Stmt Told told z)) is))
    ∙ layer y
    ∙ sym (fold-roll-Stmt Shape shape_step x ∙ sym (ap (λ z. shape_step (map-Stmt Stmt Shape shape z)) is)))
