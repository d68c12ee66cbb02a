-- What a parse answers is so: the tree of the tokens (`parsed_ok`), or where they are no program (`parsed_unexpected`) or too deep
-- (`parsed_too_deep`). By the law of items, with the end of the tokens behind them. The hard part is that no program begins so: the reader would
-- answer its tree, but stops before all tokens that begin alike, since it looks no further than the next one (`again`).
use Rattle.std.proofs.Common.{◌≡◌, ℕ, List, [], ◌∷◌, ◌++◌, Option, Some, None, Result, Ok, Err, refl, sym, ap, ◌∙◌, subst}
use Rattle.std.proofs.lemmas.List.{append-nil, append_cancel_right}
use Rattle.ac_tree.specs.declared.item.Item.{Item}
use Rattle.ac_tree.specs.declared.item.Program.{Program}
use Rattle.ac_lexer.specs.declared.token.Token.{Token}
use Rattle.reading_laws.specs.Marks.{Marked, tokens, cut}
use Rattle.ac_parser.specs.SpellingOfItems.{ItemSpells, ItemsSpell, no_item, one_item, ProgramSpells}
use Rattle.ac_parser.specs.Places.{place_in, Stuck, UnexpectedAt, TooDeepAt, IsTree}
use Rattle.reading_laws.specs.Readers.{Reads, Cause, halt, unexpected, too_deep, ◌>>=◌}
use Rattle.ac_parser.specs.inner.ReadsItems.{items_at, end_at, program_at}
use Rattle.reading_laws.proofs.Halts.{bind_ok, result, same_result, same_stop, not_both}
use Rattle.reading_laws.proofs.Heads.{SameHead, Local, Moves, stops_at, behind_rest, no_rest, local_bind}
use Rattle.reading_laws.proofs.Parts.{Filled, GoodAt, Is, itself, Seq, seq, verdict, at_once, bind_good}
use Rattle.reading_laws.proofs.Rows.{Many, none, some, many}
use Rattle.ac_parser.proofs.Programs.{items_law}
use Rattle.reading_laws.proofs.Rows.{good_by}

abbrev program_of : List Item → Program
program_of xs = record { items = xs }

items_are : (xs : List Item) (ms : List Marked) → Many Item ItemSpells xs ms → ItemsSpell xs ms
items_are _ _ none = no_item
items_are _ _ (some x xs a c g r) = one_item x xs a c g (items_are xs c r)

are_items : (xs : List Item) (ms : List Marked) → ItemsSpell xs ms → Many Item ItemSpells xs ms
are_items _ _ no_item = none
are_items _ _ (one_item x xs a c g r) = some x xs a c g (are_items xs c r)

-- ---- the end of the tokens

fill_end : (x : Program) → Filled Program (Is Program x)
fill_end x = record { value = x; marks = []; spells = itself }

end_good : (x : Program) (a : List Token) → GoodAt 256 Program (end_at x) (Is Program x) a
end_good x [] = record {
  ok = λ y r h. let q = same_result Program x y [] r h in record { used = []; split = q.1; low = tt; spells = subst (λ (z : Program). Is Program x z []) q.0 itself };
  err = λ c r h. absurd (not_both (Program × List Token) (x, []) (halt c r) h);
}
end_good x (t ∷ a) = record {
  ok = λ y r h. absurd (not_both (Program × List Token) (y, r) (halt unexpected (t ∷ a)) (sym h));
  err = λ c r h. at_once 256 Program (Is Program x) (fill_end x) c (t ∷ a) r (same_stop (Program × List Token) unexpected c (t ∷ a) r h);
}

end_over : (x : Program) (o : Result Program Cause) (r b : List Token) → SameHead r b → Ok (x, []) ≡ stops_at o r → Moves Program (end_at x) o [] r b
end_over x (Ok y) r b h e =
    let p = same_result Program x y [] r e in
    let z : b ≡ [] = no_rest r b p.1 h in
    record { used = []; split = p.1; same = ap (end_at x) z ∙ ap (λ (c : List Token). Ok (x, c)) (sym z) ∙ ap (λ (y : Program). Ok (y, b)) p.0 }
end_over x (Err c) r b h e = absurd (not_both (Program × List Token) (x, []) (halt c r) e)

end_not : (x : Program) (o : Result Program Cause) (t : Token) (a r b : List Token) → SameHead r b → Err (halt unexpected (t ∷ a)) ≡ stops_at o r → Moves Program (end_at x) o (t ∷ a) r b
end_not x (Ok y) t a r b h e = absurd (not_both (Program × List Token) (y, r) (halt unexpected (t ∷ a)) (sym e))
end_not x (Err c) t a r b h e =
    let q = same_stop (Program × List Token) unexpected c (t ∷ a) r e in
    let z = behind_rest t a r b q.1 h in
    record { used = []; split = q.1; same = ap (end_at x) z.is ∙ ap (λ (c : List Token). Err (halt unexpected c)) (sym z.is) ∙ ap (λ (c : Cause). Err (halt c b)) q.0 }

end_local : (x : Program) → Local Program (end_at x)
end_local x o [] r b h e = end_over x o r b h e
end_local x o (t ∷ a) r b h e = end_not x o t a r b h e

-- ---- the program

by_end : (x y : Program) (ms : List Marked) (Q : Program → List Marked → Type 0) → Is Program x y ms → Q x [] → Q y ms
by_end x _ _ Q itself g = g

is_whole : (p : Program) (ms : List Marked) → Seq (List Item) Program (Many Item ItemSpells) (λ xs. Is Program (program_of xs)) p ms → ProgramSpells p ms
is_whole _ _ (seq xs p a c g e) = by_end (program_of xs) p c (λ p c. ProgramSpells p (a ++ c)) e (subst (λ (ms : List Marked). ItemsSpell xs ms) (sym (append-nil a)) (items_are xs a g))

good_program : (a : List Token) → GoodAt 256 Program program_at ProgramSpells a
unfolding program_at many
good_program a = good_by 256 Program program_at program_at (Seq (List Item) Program (Many Item ItemSpells) (λ xs. Is Program (program_of xs))) ProgramSpells a refl is_whole
    (bind_good 256 (List Item) Program items_at (λ xs. end_at (program_of xs)) (Many Item ItemSpells) (λ xs. Is Program (program_of xs)) a (items_law.good a) (λ xs m h. end_good (program_of xs) m)
    (λ xs. fill_end (program_of xs)))

local_program : Local Program program_at
unfolding program_at many
local_program = local_bind (List Item) Program items_at (λ xs. end_at (program_of xs)) items_law.local (λ a z e. end_local (program_of z.0))

ends_so : (p : Program) (o : Option (List Token)) → (verdict p.items [] o >>= λ z. end_at (program_of z.0) z.1) ≡ verdict p [] o
ends_so p None = refl
ends_so p (Some r) = refl

program_reads : (p : Program) (ms : List Marked) → ProgramSpells p ms → program_at (tokens ms ++ []) ≡ verdict p [] (cut 256 ms [])
unfolding program_at many
program_reads p ms g = ap (λ (y : Reads (List Item)). y >>= λ z. end_at (program_of z.0) z.1) (items_law.reads p.items ms (are_items p.items ms g) [] refl) ∙ ends_so p (cut 256 ms [])

-- ---- the answers

abbrev pub found : Program → Reads Program
found x = Ok (x, [])

abbrev pub stopped : Cause → List Token → Reads Program
stopped c r = Err (halt c r)

different : unexpected ≡ too_deep → ⊥
different h = cc

one_value : (x y : Program) (o : Option (List Token)) → found x ≡ verdict y [] o → x ≡ y
one_value x y None h = (same_result Program x y [] [] h).0
one_value x y (Some r) h = absurd (not_both (Program × List Token) (x, []) (halt too_deep r) h)

never : (y : Program) (o : Option (List Token)) (r : List Token) → stopped unexpected r ≡ verdict y [] o → ⊥
never y None r h = not_both (Program × List Token) (y, []) (halt unexpected r) (sym h)
never y (Some s) r h = different (same_stop (Program × List Token) unexpected too_deep r s h).0

first_is : (y : Program) (o : Option (List Token)) (r : List Token) → stopped too_deep r ≡ verdict y [] o → o ≡ Some r
first_is y None r h = absurd (not_both (Program × List Token) (y, []) (halt too_deep r) (sym h))
first_is y (Some s) r h = ap (λ (s : List Token). Some s) (sym (same_stop (Program × List Token) too_deep too_deep r s h).1)

reads_so : (y : Program) (ms : List Marked) (ts : List Token) → ProgramSpells y ms → tokens ms ≡ ts → program_at ts ≡ verdict y [] (cut 256 ms [])
reads_so y ms ts p q = ap program_at (sym (append-nil (tokens ms) ∙ q)) ∙ program_reads y ms p

pub parsed_ok : (ts : List Token) (x : Program) → program_at ts ≡ found x → IsTree ts x
parsed_ok ts x h =
    let v = (good_program ts).ok x [] h in
    record { marks = v.used; split = v.split ∙ append-nil (tokens v.used); low = v.low; spells = v.spells; only = λ y ms p q. one_value x y (cut 256 ms []) (sym h ∙ reads_so y ms ts p q) }

-- it stops so before all tokens that begin the same
again : (c : Cause) (ts : List Token) (used r b : List Token) → program_at ts ≡ stopped c r → ts ≡ used ++ r → SameHead r b → program_at (used ++ b) ≡ stopped c b
again c ts used r b h q s =
    let m = local_program (Err c) ts r b s h in
    let u : used ≡ m.used = append_cancel_right used m.used r (sym q ∙ m.split) in
    ap (λ (d : List Token). program_at (d ++ b)) u ∙ m.same

stuck : (ts used rest : List Token) → program_at ts ≡ stopped unexpected rest → ts ≡ used ++ rest → Stuck used rest
stuck ts used [] h q = λ x ms p e. never x (cut 256 ms []) [] (sym h ∙ reads_so x ms ts p (e ∙ sym (q ∙ append-nil used)))
stuck ts used (t ∷ us) h q = λ x ms more p e. never x (cut 256 ms []) (t ∷ more) (sym (again unexpected ts used (t ∷ us) (t ∷ more) h q refl) ∙ reads_so x ms (used ++ t ∷ more) p e)

pub parsed_unexpected : (len : ℕ) (ts rest : List Token) (at : ℕ) → program_at ts ≡ stopped unexpected rest → at ≡ place_in len rest → UnexpectedAt len ts at
parsed_unexpected len ts rest at h p =
    let v = (good_program ts).err unexpected rest h in
    record { used = v.used; rest = rest; split = v.split; place = p; low = v.low; closing = v.closing; tree = v.value; spells = v.spells; stuck = stuck ts (tokens v.used) rest h v.split }

pub parsed_too_deep : (len : ℕ) (ts rest : List Token) (at : ℕ) → program_at ts ≡ stopped too_deep rest → at ≡ place_in len rest → TooDeepAt ts at
parsed_too_deep len ts rest at h p =
    let v = (good_program ts).err too_deep rest h in
    let w = v.why in
    let g : program_at ts ≡ stopped too_deep (w.head.token ∷ w.behind) = h ∙ ap (stopped too_deep) w.rest in
    let e : ts ≡ tokens v.used ++ w.head.token ∷ w.behind = v.split ∙ ap (λ (c : List Token). tokens v.used ++ c) w.rest in
    record {
      used = v.used;
      deep = w.head;
      rest = w.behind;
      split = e;
      place = p ∙ ap (place_in len) w.rest;
      low = v.low;
      over = w.over;
      closing = w.others;
      tree = v.value;
      spells = subst (λ (c : List Marked). ProgramSpells v.value (v.used ++ c)) w.is v.spells;
      always = λ x ms more q j. first_is x (cut 256 ms []) (w.head.token ∷ more)
          (sym (again too_deep ts (tokens v.used) (w.head.token ∷ w.behind) (w.head.token ∷ more) g e refl) ∙ reads_so x ms (tokens v.used ++ w.head.token ∷ more) q j);
    }

end_rest : (x y : Program) (a r : List Token) → end_at x a ≡ result Program (y, r) → [] ≡ r
end_rest x y [] r h = (same_result Program x y [] r h).1
end_rest x y (t ∷ a) r h = absurd (not_both (Program × List Token) (y, r) (halt unexpected (t ∷ a)) (sym h))

-- where a program was read, no token is left
pub nothing_left : (ts : List Token) (x : Program) (r : List Token) → program_at ts ≡ result Program (x, r) → [] ≡ r
unfolding program_at
nothing_left ts x r h = let z = bind_ok (items_at ts) (λ items. end_at (program_of items.0) items.1) (x, r) h in end_rest (program_of z.0.0) x z.0.1 r z.2

pub parsed_tree : (ts : List Token) (x : Program) (r : List Token) → program_at ts ≡ result Program (x, r) → IsTree ts x
parsed_tree ts x r h = parsed_ok ts x (h ∙ ap (λ (r : List Token). Ok (x, r)) (sym (nothing_left ts x r h)))
