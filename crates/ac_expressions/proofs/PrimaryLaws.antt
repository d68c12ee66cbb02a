-- The laws of the operations `Send`, `Recv`, `Read` and `Write`, given those of expressions one deeper and, for an index in `Recv`, two deeper.
-- As in `CallLaws`: the parts, what they spell both ways, the laws. The hard case is what stands between the parentheses of `Recv`: it may be
-- too deep itself, and the index of its place has one room less, so its spelling must not depend on the room (`recv_by`).
use Rattle.std.proofs.Common.{◌≡◌, ℕ, suc, ◌-◌, ◌+◌, ◌<◌, ◌≤◌, true, List, [], ◌∷◌, ◌++◌, refl, ap, arith}
use Rattle.ac_tree.specs.declared.expr.Expr.{Expr}
use Rattle.ac_tree.specs.declared.expr.Expr.TheVariants as e
use Rattle.ac_lexer.specs.declared.token.Word.TheVariants as w
use Rattle.ac_lexer.specs.declared.token.Mark.TheVariants as m
use Rattle.ac_lexer.specs.declared.token.Kind.{Kind}
use Rattle.ac_lexer.specs.declared.token.Kind.TheVariants as k
use Rattle.ac_lexer.specs.declared.token.Token.{Token}
use Rattle.reading_laws.specs.Marks.{Marked, mark, tokens, IsMark, IsName}
use Rattle.ac_expressions.specs.Spelling.{ExprSpells, PlaceSpells, variable, CallSpells, send, recv, read, write}
use Rattle.reading_laws.specs.Letters.{word, sign, has_name, name_kind, name_at}
use Rattle.reading_laws.specs.Readers.{is_there}
use Rattle.ac_expressions.specs.Reads.{recv_rest_at, deep_recv_at, expr_at}
use Rattle.reading_laws.proofs.Parts.{Part, Law, Any, Opens, First, seq, law_same, law_bind, law_then, law_made, bind, made_of, either, ret}
use Rattle.reading_laws.proofs.Letters.{filler, signed, sign_part, law_sign, named, name_part, law_name, name_by}
use Rattle.ac_expressions.proofs.ExpressionHeads.{binding, Ends}
use Rattle.ac_expressions.proofs.ChainLaws.{expr_named}
use Rattle.reading_laws.proofs.Openings.{by_last, last_is, within_had, law_within, deep_name, deep_name_law}
use Rattle.ac_expressions.proofs.Openings.{law_expr_bind, law_expr_made, ends_made}
use Rattle.ac_expressions.proofs.CallLaws.{place_part, place_law, is_place, place_is}

-- ---- operations; the depth is that of the word

abbrev pub send_part : ℕ → ℕ → Part Expr
send_part depth room =
    bind (sign_part depth (word w.Send)) (λ at. bind (sign_part depth (sign m.OpenParen)) (λ _. bind (deep_name (suc depth) room) (λ n. bind (sign_part (suc depth) (sign m.Comma))
    (λ _. bind (expr_named (suc depth) room) (λ x. made_of (sign_part (suc depth) (sign m.CloseParen)) (λ _. e.Send at n.1 x))))))

-- behind the word and its parenthesis; deeper is the room of an index
abbrev pub recv_rest : ℕ → ℕ → ℕ → Part Expr
recv_rest depth deeper at = bind (name_part (suc depth)) (λ n. bind (sign_part (suc depth) (sign m.Comma)) (λ _. bind (sign_part (suc depth) (sign m.And))
    (λ _. bind (place_part (suc depth) deeper) (λ x. made_of (sign_part (suc depth) (sign m.CloseParen)) (λ _. e.Recv at n.1 x)))))

abbrev pub deep_recv : ℕ → ℕ → ℕ → Part Expr
deep_recv depth room at = record { read = deep_recv_at (expr_at (room - 1)) at room; spells = (recv_rest depth 0 at).spells; filled = (recv_rest depth 0 at).filled }

abbrev pub recv_part : ℕ → ℕ → Part Expr
recv_part depth room = bind (sign_part depth (word w.Recv)) (λ at. bind (sign_part depth (sign m.OpenParen)) (λ _. deep_recv depth room at))

-- behind the word
abbrev pub file_part : ℕ → ℕ → (List ℕ → Expr → Expr → List ℕ → Expr) → Part Expr
file_part depth room whole =
    bind (sign_part depth (sign m.OpenParen)) (λ _. bind (deep_name (suc depth) room) (λ n. bind (sign_part (suc depth) (sign m.Comma)) (λ _. bind (expr_named (suc depth) room)
    (λ from. bind (sign_part (suc depth) (sign m.Comma)) (λ _. bind (expr_named (suc depth) room) (λ len. bind (sign_part (suc depth) (sign m.Comma))
    (λ _. bind (name_part (suc depth)) (λ array. made_of (sign_part (suc depth) (sign m.CloseParen)) (λ _. whole n.1 from len array.1)))))))))

abbrev pub read_part : ℕ → ℕ → Part Expr
read_part depth room = bind (sign_part depth (word w.Read)) (λ at. file_part depth room (e.Read at))

abbrev pub write_part : ℕ → ℕ → Part Expr
write_part depth room = bind (sign_part depth (word w.Write)) (λ at. file_part depth room (e.Write at))

-- ---- what they spell

pub is_send : (depth room : ℕ) (x : Expr) (ms : List Marked) → (send_part depth room).spells x ms → CallSpells depth x ms
unfolding bind sign_part
is_send depth room _ _ (seq _ _ _ _ (signed t q) (seq _ _ _ _ (signed l i) (seq _ _ _ _ (named n name v) (seq _ _ _ _ (signed c f) (seq x y a d g s))))) =
    by_last (λ y d. CallSpells depth y (mark depth t ∷ mark depth l ∷ mark (suc depth) n ∷ mark (suc depth) c ∷ (a ++ d))) (suc depth) (sign m.CloseParen) (e.Send t.span.at name x) y d s
    (λ r j. send depth t l n c r name x a q i v f g j)

pub is_recv : (depth room : ℕ) (x : Expr) (ms : List Marked) → (recv_part depth room).spells x ms → CallSpells depth x ms
unfolding bind sign_part name_part
is_recv depth room _ _ (seq _ _ _ _ (signed t q) (seq _ _ _ _ (signed l i) (seq _ _ _ _ (named n name v) (seq _ _ _ _ (signed c f) (seq _ _ _ _ (signed u z) (seq x y a d g s)))))) =
    by_last (λ y d. CallSpells depth y (mark depth t ∷ mark depth l ∷ mark (suc depth) n ∷ mark (suc depth) c ∷ mark (suc depth) u ∷ (a ++ d))) (suc depth) (sign m.CloseParen)
    (e.Recv t.span.at name x) y d s
    (λ r j. recv depth t l n c u r name x a q i v f z (is_place (suc depth) 0 x a g) j)

pub is_read : (depth room : ℕ) (x : Expr) (ms : List Marked) → (read_part depth room).spells x ms → CallSpells depth x ms
unfolding bind sign_part name_part
is_read depth room _ _ (seq _ _ _ _ (signed t q) (seq _ _ _ _ (signed l i)
    (seq _ _ _ _ (named n name v) (seq _ _ _ _ (signed c f) (seq from _ a _ g (seq _ _ _ _ (signed s z) (seq len _ b _ h (seq _ _ _ _ (signed u y) (seq _ x _ d (named k array o) last))))))))) =
    by_last (λ x d. CallSpells depth x (mark depth t ∷ mark depth l ∷ mark (suc depth) n ∷ mark (suc depth) c ∷ (a ++ mark (suc depth) s ∷ (b ++ mark (suc depth) u ∷ mark (suc depth) k ∷ d))))
    (suc depth) (sign m.CloseParen)
    (e.Read t.span.at name from len array) x d last (λ r j. read depth t l n c s u k r name array from len a b q i v f g z h y o j)

pub is_write : (depth room : ℕ) (x : Expr) (ms : List Marked) → (write_part depth room).spells x ms → CallSpells depth x ms
unfolding bind sign_part name_part
is_write depth room _ _ (seq _ _ _ _ (signed t q) (seq _ _ _ _ (signed l i)
    (seq _ _ _ _ (named n name v) (seq _ _ _ _ (signed c f) (seq from _ a _ g (seq _ _ _ _ (signed s z) (seq len _ b _ h (seq _ _ _ _ (signed u y) (seq _ x _ d (named k array o) last))))))))) =
    by_last (λ x d. CallSpells depth x (mark depth t ∷ mark depth l ∷ mark (suc depth) n ∷ mark (suc depth) c ∷ (a ++ mark (suc depth) s ∷ (b ++ mark (suc depth) u ∷ mark (suc depth) k ∷ d))))
    (suc depth) (sign m.CloseParen)
    (e.Write t.span.at name from len array) x d last (λ r j. write depth t l n c s u k r name array from len a b q i v f g z h y o j)

pub send_is : (depth room : ℕ) (t l n c r : Token) (name : List ℕ) (x : Expr) (a : List Marked) → t.kind ≡ k.Word w.Send → l.kind ≡ k.Mark m.OpenParen → n.kind ≡ k.Name name → c.kind ≡ k.Mark m.Comma
    → ExprSpells (suc depth) 1 x a → r.kind ≡ k.Mark m.CloseParen
    → (send_part depth room).spells (e.Send t.span.at name x) (mark depth t ∷ mark depth l ∷ mark (suc depth) n ∷ mark (suc depth) c ∷ (a ++ mark (suc depth) r ∷ []))
unfolding bind sign_part
send_is depth room t l n c r name x a q i v f g j =
    seq t.span.at _ _ _ (signed t q) (seq l.span.at _ _ _ (signed l i) (seq (n.span.at, name) _ _ _ (named n name v)
    (seq c.span.at _ _ _ (signed c f) (seq x _ a _ g (last_is (suc depth) (sign m.CloseParen) (e.Send t.span.at name x) r j)))))

recv_rest_is : (depth room at : ℕ) (n c u r : Token) (name : List ℕ) (x : Expr) (a : List Marked) → n.kind ≡ k.Name name → c.kind ≡ k.Mark m.Comma → u.kind ≡ k.Mark m.And → PlaceSpells (suc depth) x a
    → r.kind ≡ k.Mark m.CloseParen
    → (recv_rest depth room at).spells (e.Recv at name x) (mark (suc depth) n ∷ mark (suc depth) c ∷ mark (suc depth) u ∷ (a ++ mark (suc depth) r ∷ []))
unfolding bind sign_part name_part
recv_rest_is depth room at n c u r name x a v f z g j =
    seq (n.span.at, name) _ _ _ (named n name v) (seq c.span.at _ _ _ (signed c f)
    (seq u.span.at _ _ _ (signed u z) (seq x _ a _ (place_is (suc depth) room x a g) (last_is (suc depth) (sign m.CloseParen) (e.Recv at name x) r j))))

pub recv_is : (depth room : ℕ) (t l n c u r : Token) (name : List ℕ) (x : Expr) (a : List Marked) → t.kind ≡ k.Word w.Recv → l.kind ≡ k.Mark m.OpenParen → n.kind ≡ k.Name name
    → c.kind ≡ k.Mark m.Comma → u.kind ≡ k.Mark m.And → PlaceSpells (suc depth) x a → r.kind ≡ k.Mark m.CloseParen
    → (recv_part depth room).spells (e.Recv t.span.at name x) (mark depth t ∷ mark depth l ∷ mark (suc depth) n ∷ mark (suc depth) c ∷ mark (suc depth) u ∷ (a ++ mark (suc depth) r ∷ []))
unfolding bind sign_part
recv_is depth room t l n c u r name x a q i v f z g j = seq t.span.at _ _ _ (signed t q) (seq l.span.at _ _ _ (signed l i) (recv_rest_is depth 0 t.span.at n c u r name x a v f z g j))

pub file_is : (depth room : ℕ) (whole : List ℕ → Expr → Expr → List ℕ → Expr) (l n c s u k r : Token) (name array : List ℕ) (from len : Expr) (a b : List Marked) → IsMark m.OpenParen l → IsName name n
    → IsMark m.Comma c → ExprSpells (suc depth) 1 from a → IsMark m.Comma s
    → ExprSpells (suc depth) 1 len b → IsMark m.Comma u → IsName array k → IsMark m.CloseParen r
    → (file_part depth room whole).spells (whole name from len array) (mark depth l ∷ mark (suc depth) n ∷ mark (suc depth) c
    ∷ (a ++ mark (suc depth) s ∷ (b ++ mark (suc depth) u ∷ mark (suc depth) k ∷ mark (suc depth) r ∷ [])))
unfolding bind sign_part name_part
file_is depth room whole l n c s u k r name array from len a b i v f g z h y o j =
    seq l.span.at _ _ _ (signed l i) (seq (n.span.at, name) _ _ _ (named n name v)
    (seq c.span.at _ _ _ (signed c f) (seq from _ a _ g (seq s.span.at _ _ _ (signed s z) (seq len _ b _ h (seq u.span.at _ _ _ (signed u y)
    (seq (k.span.at, array) _ _ _ (named k array o) (last_is (suc depth) (sign m.CloseParen) (whole name from len array) r j))))))))

-- the spelling does not depend on the room
recv_by : (depth room other at : ℕ) (x : Expr) (ms : List Marked) → (recv_rest depth room at).spells x ms → (recv_rest depth other at).spells x ms
unfolding bind sign_part name_part
recv_by depth room other at _ _ (seq x _ _ _ p (seq y _ _ _ q (seq z _ _ _ r (seq u _ a _ g s)))) =
    seq x _ _ _ p (seq y _ _ _ q (seq z _ _ _ r (seq u _ a _ (place_is (suc depth) other u a (is_place (suc depth) room u a g)) s)))

recv_named_opens : (depth at : ℕ) (t : Token) (kind : Kind) → t.kind ≡ kind → is_there (name_kind t.span.at kind) ≡ true → Opens Expr (recv_rest depth 0 at).spells (suc depth) t
recv_named_opens depth at t (k.Name name) q h =
    record {
      own = suc depth;
      deep = omega arith;
      value = e.Recv at name (e.Name 0 (120 ∷ []));
      others = mark (suc depth) (filler (k.Mark m.Comma)) ∷ mark (suc depth) (filler (k.Mark m.And)) ∷ mark (suc depth) (filler (k.Name (120 ∷ []))) ∷ mark (suc depth) (filler (k.Mark m.CloseParen))
          ∷ [];
      spells = recv_rest_is depth 0 at t (filler (k.Mark m.Comma)) (filler (k.Mark m.And)) (filler (k.Mark m.CloseParen)) name (e.Name 0 (120 ∷ []))
          (mark (suc depth) (filler (k.Name (120 ∷ []))) ∷ []) q refl refl (variable (suc depth) (filler (k.Name (120 ∷ []))) (120 ∷ []) refl) refl;
    }
recv_named_opens depth at t (k.Number n) q h = cc
recv_named_opens depth at t (k.Text n) q h = cc
recv_named_opens depth at t (k.Word n) q h = cc
recv_named_opens depth at t (k.Mark n) q h = cc

recv_opens : (depth at : ℕ) (t : Token) (ts : List Token) → has_name (t ∷ ts) ≡ true → Opens Expr (recv_rest depth 0 at).spells (suc depth) t
recv_opens depth at t ts h = recv_named_opens depth at t t.kind refl h

recv_first : (depth at : ℕ) (x : Expr) (ms : List Marked) → (recv_rest depth 0 at).spells x ms → First (suc depth) has_name ms
unfolding bind name_part
recv_first depth at _ _ (seq _ _ _ c (named t name q) s) = record { own = suc depth; deep = omega arith; token = t; others = c; is = refl; begun = λ rest. rw q refl }

-- ---- the laws of operations

module _ (L depth room : ℕ) (now : depth + suc room ≡ suc L) (el : Law L Expr (expr_named (suc depth) room) (Ends 1))
    (dl : (inner : ℕ) → room ≡ suc inner → Law L Expr (expr_named (suc (suc depth)) inner) (Ends 1)) where
  pub send_law : Law L Expr (send_part depth room) Any
  send_law = law_then (law_sign L depth (omega (arith, now)) (word w.Send)) (λ at. law_then (law_sign L depth (omega (arith, now)) (sign m.OpenParen))
      (λ _. law_bind (deep_name_law L (suc depth) room (omega (arith, now)))
      (λ n a r h. let lt : 0 < room = within_had has_name (λ room ts. name_at ts) room a (n, r) h in
      law_then (law_sign L (suc depth) (omega (arith, now, lt)) (sign m.Comma))
      (λ _. law_expr_made L (suc depth) room (omega (arith, now)) el (suc depth) (sign m.CloseParen) refl (λ x _. e.Send at n.1 x)
      (λ x le. law_made (λ _. e.Send at n.1 x) Any (law_sign L (suc depth) le (sign m.CloseParen)) (λ x rest h. tt))))
      (λ n y c rest s h. tt)))

  place_ends : (at : ℕ) (name : List ℕ) (x y : Expr) (ms : List Marked) (rest : List Token) → (made_of (sign_part (suc depth) (sign m.CloseParen)) (λ _. e.Recv at name x)).spells y ms
      → binding (tokens ms ++ rest) < 12
  place_ends at name x y ms rest s = omega (arith, ends_made (suc depth) (sign m.CloseParen) refl (λ _. e.Recv at name x) y ms rest s)

  recv_rest_law : (inner at : ℕ) → room ≡ suc inner → suc depth ≤ L → Law L Expr (recv_rest depth inner at) Any
  recv_rest_law inner at q le = law_then (law_name L (suc depth) le) (λ n. law_then (law_sign L (suc depth) le (sign m.Comma)) (λ _. law_then (law_sign L (suc depth) le (sign m.And))
      (λ _. law_bind (place_law L (suc depth) inner (omega (arith, now, q)) (dl inner q))
      (λ x a r h. law_made (λ _. e.Recv at n.1 x) Any (law_sign L (suc depth) le (sign m.CloseParen)) (λ x rest h. tt))
      (λ x y c rest s h. place_ends at n.1 x y c rest s))))

  recv_rest_same : (inner at : ℕ) (a : List Token) → room ≡ suc inner → recv_rest_at (expr_at (room - 1)) at a ≡ (recv_rest depth inner at).read a
  unfolding bind made_of either ret sign_part name_part
  recv_rest_same inner at a q = let z : room - 1 ≡ inner = omega (arith, q) in ap (λ (n : ℕ). recv_rest_at (expr_at n) at a) z

  deep_recv_law : (at : ℕ) → Law L Expr (deep_recv depth room at) Any
  deep_recv_law at = law_within L (suc depth) room (omega (arith, now)) has_name refl name_by (λ inner ts. recv_rest_at (expr_at (room - 1)) at ts) (recv_rest depth 0 at).spells
      (recv_rest depth 0 at).filled (recv_opens depth at) (recv_first depth at)
      (λ inner q le. law_same (recv_rest depth inner at) (record { read = recv_rest_at (expr_at (room - 1)) at; spells = (recv_rest depth 0 at).spells; filled = (recv_rest depth 0 at).filled })
      (λ a. recv_rest_same inner at a q) (recv_by depth inner 0 at) (recv_by depth 0 inner at) (recv_rest_law inner at q le))

  pub recv_law : Law L Expr (recv_part depth room) Any
  recv_law = law_then (law_sign L depth (omega (arith, now)) (word w.Recv)) (λ at. law_then (law_sign L depth (omega (arith, now)) (sign m.OpenParen)) (λ _. deep_recv_law at))

  file_law : (whole : List ℕ → Expr → Expr → List ℕ → Expr) → Law L Expr (file_part depth room whole) Any
  file_law whole = law_then (law_sign L depth (omega (arith, now)) (sign m.OpenParen)) (λ _. law_bind (deep_name_law L (suc depth) room (omega (arith, now)))
      (λ n a r h. let lt : 0 < room = within_had has_name (λ room ts. name_at ts) room a (n, r) h in
      law_then (law_sign L (suc depth) (omega (arith, now, lt)) (sign m.Comma))
      (λ _. law_expr_bind L (suc depth) room (omega (arith, now)) el (suc depth) (sign m.Comma) refl
      (λ from _. bind (expr_named (suc depth) room) (λ len. bind (sign_part (suc depth) (sign m.Comma))
      (λ _. bind (name_part (suc depth)) (λ array. made_of (sign_part (suc depth) (sign m.CloseParen)) (λ _. whole n.1 from len array.1)))))
      (λ from le. law_then (law_sign L (suc depth) le (sign m.Comma))
      (λ _. law_expr_bind L (suc depth) room (omega (arith, now)) el (suc depth) (sign m.Comma) refl
      (λ len _. bind (name_part (suc depth)) (λ array. made_of (sign_part (suc depth) (sign m.CloseParen)) (λ _. whole n.1 from len array.1)))
      (λ len le. law_then (law_sign L (suc depth) le (sign m.Comma)) (λ _. law_then (law_name L (suc depth) le)
      (λ array. law_made (λ _. whole n.1 from len array.1) Any (law_sign L (suc depth) le (sign m.CloseParen)) (λ x rest h. tt)))))))
      )
      (λ n y c rest s h. tt))

  pub read_law : Law L Expr (read_part depth room) Any
  read_law = law_then (law_sign L depth (omega (arith, now)) (word w.Read)) (λ at. file_law (e.Read at))

  pub write_law : Law L Expr (write_part depth room) Any
  write_law = law_then (law_sign L depth (omega (arith, now)) (word w.Write)) (λ at. file_law (e.Write at))
