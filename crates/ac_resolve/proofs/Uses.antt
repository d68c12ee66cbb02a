-- What the slots that a statement takes hold, in the order in which they are given: a list by the form of the statement. It is as long as
-- the slots that are taken, and the slots of a declaration hold what it declares, by induction on the statement.
use Rattle.std.proofs.Common.{◌≡◌, ℕ, zero, suc, ◌+◌, List, [], ◌∷◌, ◌++◌, length, map, Option, Some, None, refl, sym, ap, ◌∙◌, subst, length-append, arith}
use Rattle.std.specs.Prelude.{option_map}
use Rattle.ac_tree.specs.declared.stmt.Stmt.{Stmt}
use Rattle.ac_tree.specs.declared.stmt.Stmt.TheFolds.{fold-Stmt, fold-roll-Stmt, ind-Stmt, map-Stmt}
use Rattle.ac_tree.specs.declared.stmt.Stmt.TheOpen.{Stmt-F}
use Rattle.ac_names.specs.Statements.{Named, Shape, part_names, part_words, sum_words, array_len, shape_step, shape}
use Rattle.ac_resolve.specs.Commands.{told, shapes}
use Rattle.ac_resolve.specs.InPlace.{Use, AsInt, AsBlock, NoReferences}
use Rattle.ac_resolve.proofs.Shapes.{shape_is}

abbrev pub ints : ℕ → List Use
ints zero = []
ints (suc n) = AsInt ∷ ints n

-- none of them holds a reference
pub data Owns : List Use → Type 0 where
  nothing : Owns []
  an_int : (us : List Use) → Owns us → Owns (AsInt ∷ us)
  a_block : (us : List Use) → Owns us → Owns (AsBlock ∷ us)

abbrev pub joined : List (List Use) → List Use
joined [] = []
joined (x ∷ xs) = x ++ joined xs

abbrev pub some_uses : Option (List Use) → List Use
some_uses None = []
some_uses (Some x) = x

-- an async body takes its slots in a frame of its own
abbrev pub uses_step : Stmt-F (List Use) → List Use
uses_step (Stmt-F.Block at body) = joined body
uses_step (Stmt-F.Int at name value) = AsInt ∷ []
uses_step (Stmt-F.Array at name size) = ints (array_len size)
uses_step (Stmt-F.If at test body other) = body ++ some_uses other
uses_step (Stmt-F.While at test body) = body
uses_step (Stmt-F.For at init test next body) = some_uses init ++ (some_uses next ++ body)
uses_step (Stmt-F.Do at label body) = AsBlock ∷ joined body
uses_step _ = []

abbrev pub uses_of : Stmt → List Use
uses_of = fold-Stmt (List Use) uses_step

abbrev pub uses_in : List Stmt → List Use
uses_in body = joined (map uses_of body)

abbrev pub uses_some : Option Stmt → List Use
uses_some x = some_uses (option_map uses_of x)

-- ---- they are as many as the statement takes, and hold what it declares

abbrev held : Option ℕ → List Use → Type 0
held None us = us ≡ AsInt ∷ []
held (Some len) us = us ≡ ints len

abbrev pub Declares : Option Named → List Use → Type 0
Declares None us = Unit {0}
Declares (Some n) us = held n.len us

pub record AreUses (q : Shape) (us : List Use) : Type 0 where
  pub many : length us ≡ part_words q
  pub owns : Owns us
  pub declares : Declares (part_names q) us

abbrev Claim : Stmt → Type 0
Claim x = AreUses (shape x) (uses_of x)

abbrev Stmt_ : Type 0
Stmt_ = (x : Stmt) × Claim x

abbrev stmts_of : List Stmt_ → List Stmt
stmts_of xs = map (λ x. x.0) xs

abbrev uses_layer : Stmt-F Stmt_ → List Use
uses_layer y = uses_step (map-Stmt Stmt (List Use) uses_of (map-Stmt Stmt_ Stmt (λ x. x.0) y))

abbrev shape_layer : Stmt-F Stmt_ → Shape
shape_layer y = shape_step (map-Stmt Stmt Shape shape (map-Stmt Stmt_ Stmt (λ x. x.0) y))

pub many_ints : (n : ℕ) → length (ints n) ≡ n
many_ints zero = refl
many_ints (suc n) = let more = many_ints n in omega (arith, more)

two_many : (us vs : List Use) (m n : ℕ) → length us ≡ m → length vs ≡ n → length (us ++ vs) ≡ m + n
two_many us vs m n e f = omega (arith, e, f, length-append us vs)

three_many : (us vs ws : List Use) (k m n : ℕ) → length us ≡ k → length vs ≡ m → length ws ≡ n → length (us ++ (vs ++ ws)) ≡ (k + m) + n
three_many us vs ws k m n d e f = omega (arith, d, e, f, length-append us (vs ++ ws), length-append vs ws)

one_many : (us : List Use) (n : ℕ) → length us ≡ n → length (AsBlock ∷ us) ≡ 1 + n
one_many us n e = omega (arith, e)

joined_many : (xs : List Stmt_) → length (joined (map uses_of (stmts_of xs))) ≡ sum_words (map shape (stmts_of xs))
joined_many [] = refl
joined_many (x ∷ xs) = two_many (uses_of x.0) _ _ _ x.1.many (joined_many xs)

ints_own : (n : ℕ) → Owns (ints n)
ints_own zero = nothing
ints_own (suc n) = an_int (ints n) (ints_own n)

two_own : (us vs : List Use) → Owns us → Owns vs → Owns (us ++ vs)
two_own _ vs nothing k = k
two_own _ vs (an_int us h) k = an_int (us ++ vs) (two_own us vs h k)
two_own _ vs (a_block us h) k = a_block (us ++ vs) (two_own us vs h k)

three_own : (us vs ws : List Use) → Owns us → Owns vs → Owns ws → Owns (us ++ (vs ++ ws))
three_own us vs ws h k j = two_own us (vs ++ ws) h (two_own vs ws k j)

joined_own : (xs : List Stmt_) → Owns (joined (map uses_of (stmts_of xs)))
joined_own [] = nothing
joined_own (x ∷ xs) = two_own (uses_of x.0) _ x.1.owns (joined_own xs)

no_reference : (us : List Use) → Owns us → NoReferences us
no_reference _ nothing slot e = cc
no_reference _ (an_int us h) zero e = cc
no_reference _ (an_int us h) (suc slot) e = no_reference us h slot e
no_reference _ (a_block us h) zero e = cc
no_reference _ (a_block us h) (suc slot) e = no_reference us h slot e

quiet : (q : Shape) (us : List Use) → part_names q ≡ None → length us ≡ part_words q → Owns us → AreUses q us
quiet q us e f h = record { many = f; owns = h; declares = subst (λ o. Declares o us) (sym e) tt }

layer : (y : Stmt-F Stmt_) → AreUses (shape_layer y) (uses_layer y)
layer (Stmt-F.Block at body) = quiet _ _ refl (joined_many body) (joined_own body)
layer (Stmt-F.Empty at) = quiet _ _ refl refl nothing
layer (Stmt-F.Int at name value) = record { many = refl; owns = an_int [] nothing; declares = refl }
layer (Stmt-F.Array at name size) = record { many = many_ints (array_len size); owns = ints_own (array_len size); declares = refl }
layer (Stmt-F.Assign at place value) = quiet _ _ refl refl nothing
layer (Stmt-F.Call at call) = quiet _ _ refl refl nothing
layer (Stmt-F.Print at format args) = quiet _ _ refl refl nothing
layer (Stmt-F.If at test body None) = quiet _ _ refl (two_many (uses_of body.0) [] _ 0 body.1.many refl) (two_own (uses_of body.0) [] body.1.owns nothing)
layer (Stmt-F.If at test body (Some x)) = quiet _ _ refl (two_many (uses_of body.0) (uses_of x.0) _ _ body.1.many x.1.many) (two_own (uses_of body.0) (uses_of x.0) body.1.owns x.1.owns)
layer (Stmt-F.While at test body) = quiet _ _ refl body.1.many body.1.owns
layer (Stmt-F.For at None test None body) = quiet _ _ refl (three_many [] [] (uses_of body.0) 0 0 _ refl refl body.1.many) (three_own [] [] (uses_of body.0) nothing nothing body.1.owns)
layer (Stmt-F.For at None test (Some y) body) =
    quiet _ _ refl (three_many [] (uses_of y.0) (uses_of body.0) 0 _ _ refl y.1.many body.1.many) (three_own [] (uses_of y.0) (uses_of body.0) nothing y.1.owns body.1.owns)
layer (Stmt-F.For at (Some x) test None body) =
    quiet _ _ refl (three_many (uses_of x.0) [] (uses_of body.0) _ 0 _ x.1.many refl body.1.many) (three_own (uses_of x.0) [] (uses_of body.0) x.1.owns nothing body.1.owns)
layer (Stmt-F.For at (Some x) test (Some y) body) =
    quiet _ _ refl (three_many (uses_of x.0) (uses_of y.0) (uses_of body.0) _ _ _ x.1.many y.1.many body.1.many) (three_own (uses_of x.0) (uses_of y.0) (uses_of body.0) x.1.owns y.1.owns body.1.owns)
layer (Stmt-F.Break at) = quiet _ _ refl refl nothing
layer (Stmt-F.Continue at) = quiet _ _ refl refl nothing
layer (Stmt-F.Return at value) = quiet _ _ refl refl nothing
layer (Stmt-F.Do at label body) = quiet _ _ refl (one_many (joined (map uses_of (stmts_of body))) _ (joined_many body)) (a_block (joined (map uses_of (stmts_of body))) (joined_own body))
layer (Stmt-F.Async at body) = quiet _ _ refl refl nothing
layer (Stmt-F.Cancel at label) = quiet _ _ refl refl nothing
layer (Stmt-F.Yield at) = quiet _ _ refl refl nothing

same_uses : (q r : Shape) (us vs : List Use) → q ≡ r → us ≡ vs → AreUses r vs → AreUses q us
same_uses q r us vs e f h = subst (λ x. AreUses x us) (sym e) (subst (AreUses r) (sym f) h)

shape_uses : (x : Stmt) → Claim x
shape_uses = ind-Stmt Claim
    (λ x y is.
    same_uses _ (shape_layer y) _ (uses_layer y)
    (fold-roll-Stmt Shape shape_step x ∙ sym (ap (λ z. shape_step (map-Stmt Stmt Shape shape z)) is))
    (fold-roll-Stmt (List Use) uses_step x ∙ sym (ap (λ z. uses_step (map-Stmt Stmt (List Use) uses_of z)) is))
    (layer y))

pub are_uses : (x : Stmt) → AreUses (told x).shape (uses_of x)
are_uses x = subst (λ q. AreUses q (uses_of x)) (sym (shape_is x)) (shape_uses x)

pub body_uses : (xs : List Stmt) → length (uses_in xs) ≡ sum_words (shapes (map told xs))
body_uses [] = refl
body_uses (x ∷ xs) = two_many (uses_of x) (uses_in xs) _ _ (are_uses x).many (body_uses xs)

pub own_uses : (x : Stmt) → NoReferences (uses_of x)
own_uses x = no_reference (uses_of x) (are_uses x).owns

body_own : (xs : List Stmt) → Owns (uses_in xs)
body_own [] = nothing
body_own (x ∷ xs) = two_own (uses_of x) (uses_in xs) (are_uses x).owns (body_own xs)

pub own_body : (xs : List Stmt) → NoReferences (uses_in xs)
own_body xs = no_reference (uses_in xs) (body_own xs)
