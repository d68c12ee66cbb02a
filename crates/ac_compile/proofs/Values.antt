-- The code of a value pushes one operand of the wanted kind, whatever is round it and below.
-- By induction on the value as it is in place, for any operands below; a list of values pushes one for each.
use Rattle.std.proofs.Common.{◌≡◌, ℕ, zero, suc, ◌+◌, ◌<◌, List, [], ◌∷◌, ◌++◌, length, map, reverse, Bool, true, false, Option, Some, None, refl, sym, ap, ◌∙◌, subst, arith, inr, lt-ltb, eq-eqb}
use Rattle.std.specs.Prelude.{ℤ, slice_get, replicate, pos, if◌then◌else◌}
use Rattle.std.proofs.lemmas.List.{length-map, reverse-append}
use Rattle.std.proofs.lemmas.Option.{slice_get_within}
use Rattle.ac_tree.specs.declared.expr.UnaryOp.{UnaryOp}
use Rattle.ac_tree.specs.declared.expr.UnaryOp.TheVariants as u
use Rattle.ac_tree.specs.declared.expr.BinaryOp.{BinaryOp}
use Rattle.ac_tree.specs.declared.expr.BinaryOp.TheVariants as b
use Rattle.ac_commands.specs.declared.value.Action.{Action}
use Rattle.ac_commands.specs.declared.value.Array.{Array}
use Rattle.ac_commands.specs.declared.value.Value.{Value}
use Rattle.ac_commands.specs.declared.value.Value.TheVariants as v
use Rattle.ac_commands.specs.declared.value.ValueLink.{ValueLink}
use Rattle.ac_commands.specs.declared.program.Resolved.{Resolved}
use Rattle.stack_code.specs.declared.instr.Instr.{Instr}
use Rattle.stack_code.specs.declared.instr.Instr.TheVariants as i
use Rattle.stack_code.specs.declared.parts.Entered.{Entered}
use Rattle.stack_code.specs.declared.shape.CellKind.{CellKind}
use Rattle.stack_code.specs.declared.shape.CellKind.TheVariants as kind
use Rattle.stack_code.specs.declared.shape.Home.{Home}
use Rattle.stack_code.specs.declared.shape.Leads.TheVariants.{Two}
use Rattle.stack_code.specs.declared.shape.Shape.{Shape}
use Rattle.stack_code.specs.declared.shape.Want as stack
use Rattle.stack_code.specs.declared.shape.Want.TheVariants as want
use Rattle.stack_code.specs.Parts.{Parts}
use Rattle.stack_code.specs.Shapes as shapes
use Rattle.stack_code.specs.Shapes.{on_some, takes, taken, first, effect}
use Rattle.ac_resolve.specs.InPlace.{Round, Want, AnInt, AnArray, Elements, AMessage, want_of, Wants, call, send, recv, read, write, IsArray, IsValue, number, variable, reference}
use Rattle.ac_resolve.specs.InPlace.{elements, one_int, some_ints, element}
use Rattle.ac_resolve.specs.InPlace.{part, unary, chain, acts}
use Rattle.ac_resolve.specs.InPlace.{AreLinks, no_link, one_link, AreOperands, no_operand, one_operand, AreInts}
use Rattle.ac_translation.specs.Pieces.{Piece, one, ◌⨾◌}
use Rattle.ac_translation.specs.Translation.{unary_code, operator_code, joined_code, chained_code, variable_code, array_code, action_code, value_code, link_code, values_code}
use Rattle.ac_translation.proofs.Sized.{one_sized}
use Rattle.ac_compile.proofs.Forms.{number_form, variable_form, reference_form, element_form, part_form, unary_form, chain_form, link_form, act_form}
use Rattle.ac_compile.proofs.Frames.{shape_of}
use Rattle.ac_compile.proofs.Points.{Table, point, ShapeAt, shape_there, UsesWell, IsLed, next_led, two_led, fine_as, one_range, Does, Fit, no_fit, one_fit, both_fit}
use Rattle.ac_compile.proofs.Turns.{Branches, lazily_fit}
use Rattle.ac_compile.proofs.Known.{Belongs, Knows, known, length_known, load_does, array_does}

-- ---- kinds

-- what serves where that is wanted
abbrev pub Serves : Want → CellKind → Type 0
Serves AnInt k = k ≡ kind.Int
Serves AnArray k = (len : Option ℕ) × (k ≡ kind.Reference len)
Serves (Elements count) k = takes (want.Elements count) k ≡ true
Serves (AMessage count) k = takes (want.Message count) k ≡ true

abbrev AllServe : List Want → List CellKind → Type 0
AllServe [] [] = Unit {0}
AllServe [] (k ∷ kinds) = ⊥
AllServe (w ∷ wants) [] = ⊥
AllServe (w ∷ wants) (k ∷ kinds) = Serves w k × AllServe wants kinds

-- operands from left to right, on top of others
abbrev on_top : List CellKind → List CellKind → List CellKind
on_top [] below = below
on_top (k ∷ kinds) below = on_top kinds (k ∷ below)

-- so many ints on top of other operands
abbrev pub ints : ℕ → List CellKind → List CellKind
ints zero below = below
ints (suc n) below = ints n (kind.Int ∷ below)

int_on_top : (n : ℕ) (below : List CellKind) → ints n (kind.Int ∷ below) ≡ kind.Int ∷ ints n below
int_on_top zero below = refl
int_on_top (suc n) below = int_on_top n (kind.Int ∷ below)

pub ints_taken : (n : ℕ) (below : List CellKind) → taken (replicate n want.Int) (ints n below) ≡ Some below
ints_taken zero below = refl
ints_taken (suc n) below = ap (taken (replicate (suc n) want.Int)) (int_on_top n below) ∙ ints_taken n below

if_some : (test : Bool) (x y : Option (List CellKind)) (go : List CellKind → Option (List CellKind)) → x ≡ on_some y go → (if test then x else None) ≡ on_some (if test then y else None) go
if_some true x y go e = e
if_some false x y go e = refl

taken_both : (xs ys : List stack.Want) (kinds : List CellKind) → taken (xs ++ ys) kinds ≡ on_some (taken xs kinds) (taken ys)
taken_both [] ys kinds = refl
taken_both (x ∷ xs) ys [] = refl
taken_both (x ∷ xs) ys (k ∷ kinds) = if_some (takes x k) (taken (xs ++ ys) kinds) (taken xs kinds) (taken ys) (taken_both xs ys kinds)

takes_served : (array : Bool) (k : CellKind) → Serves (want_of array) k → takes (shapes.want_of array) k ≡ true
takes_served true k e = ap (takes want.Reference) e.1
takes_served false k e = ap (takes want.Int) e

one_taken : (w : stack.Want) (k : CellKind) (below : List CellKind) → takes w k ≡ true → taken (w ∷ []) (k ∷ below) ≡ Some below
one_taken w k below e = rw e refl

-- the arguments of a call
arguments_taken : (params : List Bool) (kinds below : List CellKind) → AllServe (map want_of params) kinds → taken (shapes.arguments params) (on_top kinds below) ≡ Some below
arguments_taken [] [] below h = refl
arguments_taken [] (k ∷ kinds) below h = absurd h
arguments_taken (p ∷ params) [] below h = absurd h
arguments_taken (p ∷ params) (k ∷ kinds) below h =
    let w = shapes.want_of p in
    let wants = map shapes.want_of params in
    ap (λ ws. taken ws (on_top kinds (k ∷ below))) (reverse-append (w ∷ []) wants)
    ∙ taken_both (reverse wants) (w ∷ []) (on_top kinds (k ∷ below))
    ∙ ap (λ x. on_some x (taken (w ∷ []))) (arguments_taken params kinds (k ∷ below) h.1)
    ∙ one_taken w k below (takes_served p k h.0)

module _ (code : Parts) (homes : List Home) (r : Round) (program : Resolved) (m : Belongs code program) where
  abbrev K : Table → Type 0
  K = Knows code homes r.frames

  abbrev shape : List CellKind → Shape
  shape kinds = shape_of homes r.frames kinds

  abbrev Makes : List CellKind → List CellKind → Piece → Type 0
  Makes before after piece = (around : Option Shape) → Fit code K around (shape before) (shape after) piece

  -- an operand on top of others
  abbrev pub Pushes : CellKind → Piece → Type 0
  Pushes k piece = (below : List CellKind) → Makes below (k ∷ below) piece

  record Gives (w : Want) (piece : Piece) : Type 0 where
    given : CellKind
    serves : Serves w given
    pushes : Pushes given piece

  -- operands from left to right
  record Row (wants : List Want) (piece : Piece) : Type 0 where
    kinds : List CellKind
    serve : AllServe wants kinds
    pushes : (below : List CellKind) → Makes below (on_top kinds below) piece

  -- ---- one instruction

  abbrev Instr_does : Instr → List CellKind → List CellKind → Type 0
  Instr_does instr before after = Does code K instr (shape before) (shape after)

  -- it goes on at the next address
  plainly : (instr : Instr) (before after : List CellKind) → Instr_does instr before after → Makes before after (one instr)
  plainly instr before after d around = one_fit code K around instr (shape before) (shape after) d

  then_fit : (x y z : List CellKind) (a b : Piece) → Makes x y a → Makes y z b → Makes x z (a ⨾ b)
  then_fit x y z a b f g around = both_fit code K around (shape x) (shape y) (shape z) a b (f around) (g around)

  unary_does : (op : UnaryOp) (below : List CellKind) → Instr_does (unary_code op) (kind.Int ∷ below) (kind.Int ∷ below)
  unary_does u.Neg below = record { finds = λ t k at. refl; used = λ t k. tt }
  unary_does u.Not below = record { finds = λ t k at. refl; used = λ t k. tt }
  unary_does u.Flip below = record { finds = λ t k at. refl; used = λ t k. tt }

  pub jz_branches : (below : List CellKind) → Branches code i.Jz (shape (kind.Int ∷ below)) (shape below)
  jz_branches below = record { finds = λ at to. refl; used = λ t to. tt }

  jnz_branches : (below : List CellKind) → Branches code i.Jnz (shape (kind.Int ∷ below)) (shape below)
  jnz_branches below = record { finds = λ at to. refl; used = λ t to. tt }

  pub push_fit : (value : ℤ) → Pushes kind.Int (one (i.Push value))
  push_fit value below = plainly (i.Push value) below (kind.Int ∷ below) (record { finds = λ t k at. refl; used = λ t k. tt })

  truth_fit : (right : Piece) → Pushes kind.Int right → Pushes kind.Int (right ⨾ one i.Bool)
  truth_fit right f below =
      then_fit below (kind.Int ∷ below) (kind.Int ∷ below) right (one i.Bool) (f below)
      (plainly i.Bool (kind.Int ∷ below) (kind.Int ∷ below) (record { finds = λ t k at. refl; used = λ t k. tt }))

  joined_fit : (op : BinaryOp) (right : Piece) → Pushes kind.Int right → (below : List CellKind) → Makes (kind.Int ∷ below) (kind.Int ∷ below) (joined_code op right)
  joined_fit b.Or right f below around =
      lazily_fit code K around i.Jnz (i.Push (pos 1)) (shape (kind.Int ∷ below)) (shape below) (shape (kind.Int ∷ below)) right (jnz_branches below) (truth_fit right f below around)
      (push_fit (pos 1) below around)
  joined_fit b.And right f below around =
      lazily_fit code K around i.Jz (i.Push (pos 0)) (shape (kind.Int ∷ below)) (shape below) (shape (kind.Int ∷ below)) right (jz_branches below) (truth_fit right f below around)
      (push_fit (pos 0) below around)
  joined_fit op right f below around =
      then_fit (kind.Int ∷ below) (kind.Int ∷ kind.Int ∷ below) (kind.Int ∷ below) right (one (operator_code op)) (f (kind.Int ∷ below))
      (plainly (operator_code op) (kind.Int ∷ kind.Int ∷ below) (kind.Int ∷ below) (record { finds = λ t k at. refl; used = λ t k. tt })) around

  -- an array and an index, and then an instruction
  pub indexed_fit : (array : Array) (index : Piece) (last : Instr) (x y : List CellKind) → IsArray program r array → Pushes kind.Int index →
      Instr_does last (kind.Int ∷ kind.Reference (known array) ∷ x) y → Makes x y (one (array_code array) ⨾ index ⨾ one last)
  indexed_fit array index last x y h f d =
      let whole = kind.Reference (known array) ∷ x in
      then_fit x whole y (one (array_code array)) (index ⨾ one last) (plainly (array_code array) x whole (array_does code homes r program m array h x))
      (then_fit whole (kind.Int ∷ whole) y index (one last) (f whole) (plainly last (kind.Int ∷ whole) y d))

  -- ---- calls and operations

  call_fit : (callee count : ℕ) (s v : Shape) (f : Entered) → slice_get code.functions callee ≡ Some f
      → ((at : ℕ) → effect code at (i.Call callee count) s ≡ Some (Two (at + 1) v f.at (first callee f))) →
      (around : Option Shape) → Fit code K around s v (one (i.Call callee count))
  call_fit callee count s v f there finds around = record {
    sized = one_sized (i.Call callee count);
    points = λ place. point s ∷ [];
    long = λ place. refl;
    begins = λ t place to h ends e. shape_there t place (point s) h.0;
    fine = λ t exits place to h d e k w.
        let ends : to ≡ place + 1 = let n = h.ends in omega (arith, n) in
        let begins = k.called callee f there in
        let led : IsLed code t place f.at (first callee f) = record { kept = begins.0; ahead = inr begins.1 } in
        one_range code t place to h.ends
        (fine_as code t place (i.Call callee count) s (Two (place + 1) v f.at (first callee f)) h.has.0 (shape_there t place (point s) d.0) (finds place) tt
        (two_led code t place (place + 1) f.at v (first callee f) (next_led code t place v (subst (λ n. ShapeAt t n v) ends e)) led));
  }

  abbrev transferred : List Want
  transferred = AnInt ∷ AnInt ∷ AnArray ∷ []

  transfer_fit : (instr : Instr) (file : ℕ) (kinds below : List CellKind) → file < length program.files → AllServe transferred kinds
      → ((at : ℕ) (s : Shape) → effect code at instr s ≡ shapes.transfers at file s) → ((t : Table) (s : Shape) → UsesWell code t instr s) →
      Makes (on_top kinds below) (kind.Int ∷ below) (one instr)
  transfer_fit instr file [] below lt h is used = absurd h
  transfer_fit instr file (x ∷ []) below lt h is used = absurd h.1
  transfer_fit instr file (x ∷ y ∷ []) below lt h is used = absurd h.1.1
  transfer_fit instr file (x ∷ y ∷ z ∷ []) below lt h is used =
      let few : file < 16 = let n = m.files in omega (arith, n, lt) in
      plainly instr (z ∷ y ∷ x ∷ below) (kind.Int ∷ below)
      (record { finds = λ t k at. is at (shape (z ∷ y ∷ x ∷ below)) ∙ rw (lt-ltb file 16 few, h.0, h.1.0, h.1.1.0.1) refl; used = λ t k. used t (shape (z ∷ y ∷ x ∷ below)) })
  transfer_fit instr file (x ∷ y ∷ z ∷ w ∷ kinds) below lt h is used = absurd h.1.1.1

  action_fit : (action : Action) (wants : List Want) (kinds : List CellKind) (count : ℕ) → Wants program action wants → AllServe wants kinds → count ≡ length wants → (below : List CellKind)
      → Makes (on_top kinds below) (kind.Int ∷ below) (one (action_code action count))
  action_fit _ _ kinds count (call callee function e) h n below =
      let there = m.functions callee function e in
      let many : count ≡ length function.params = n ∙ length-map function.params want_of in
      call_fit callee count (shape (on_top kinds below)) (shape (kind.Int ∷ below)) _ there.1
      (λ at. rw (there.1, eq-eqb count (length function.params) many, arguments_taken function.params kinds below h) refl)
  action_fit _ _ [] count (send link channel e) h n below = absurd h
  action_fit _ _ (x ∷ []) count (send link channel e) h n below =
      let lt = slice_get_within program.channels link channel e in
      plainly (i.Send link) (x ∷ below) (kind.Int ∷ below)
      (record { finds = λ t k at. rw (m.channels, lt-ltb link (length program.channels) lt, m.wide link channel e, h.0) refl; used = λ t k. tt })
  action_fit _ _ (x ∷ y ∷ kinds) count (send link channel e) h n below = absurd h.1
  action_fit _ _ [] count (recv link channel e) h n below = absurd h
  action_fit _ _ (x ∷ []) count (recv link channel e) h n below =
      let lt = slice_get_within program.channels link channel e in
      plainly (i.Recv link) (x ∷ below) (kind.Int ∷ below)
      (record { finds = λ t k at. rw (m.channels, lt-ltb link (length program.channels) lt, m.wide link channel e, h.0) refl; used = λ t k. tt })
  action_fit _ _ (x ∷ y ∷ kinds) count (recv link channel e) h n below = absurd h.1
  action_fit _ _ kinds count (read file lt) h n below = transfer_fit (i.Read file) file kinds below lt h (λ at s. refl) (λ t s. tt)
  action_fit _ _ kinds count (write file lt) h n below = transfer_fit (i.Write file) file kinds below lt h (λ at s. refl) (λ t s. tt)

  -- ---- values

  same_pushes : (k : CellKind) (p q : Piece) → p ≡ q → Pushes k q → Pushes k p
  same_pushes k p q e f = subst (Pushes k) (sym e) f

  gives_int : (p : Piece) → Pushes kind.Int p → Gives AnInt p
  gives_int p f = record { given = kind.Int; serves = refl; pushes = f }

  int_of : (p : Piece) → Gives AnInt p → Pushes kind.Int p
  int_of p g = subst (λ k. Pushes k p) g.serves g.pushes

  array_fit : (array : Array) → IsArray program r array → Pushes (kind.Reference (known array)) (one (array_code array))
  array_fit array h below = plainly (array_code array) below (kind.Reference (known array) ∷ below) (array_does code homes r program m array h below)

  reference_fit : (array : Array) → IsArray program r array → Pushes (kind.Reference (known array)) (value_code (v.Reference array))
  reference_fit array x = same_pushes (kind.Reference (known array)) _ _ (reference_form array) (array_fit array x)

  as_many : (wants : List Want) (xs : List Value) → AreOperands program r wants xs → length xs ≡ length wants
  as_many _ _ no_operand = refl
  as_many _ _ (one_operand want wants x xs h hs) = ap suc (as_many wants xs hs)

  -- By the form of a value, with its code by form (Forms) and the laws above for what comes behind its parts.
  mutual
    value_fit : (w : Want) (x : Value) → IsValue program r w x → Gives w (value_code x)
    value_fit _ _ (number value) = gives_int _ (same_pushes kind.Int _ _ (number_form value) (push_fit value))
    value_fit _ _ (variable place x) =
        gives_int _ (same_pushes kind.Int _ _ (variable_form place) (λ below. plainly (variable_code place) below (kind.Int ∷ below) (load_does code homes r program m place x below)))
    value_fit _ _ (reference array x) = record { given = kind.Reference (known array); serves = (known array, refl); pushes = reference_fit array x }
    value_fit _ _ (elements count array x many) = record { given = kind.Reference (known array); serves = length_known count array many; pushes = reference_fit array x }
    value_fit _ _ (one_int x h) = record { given = kind.Int; serves = refl; pushes = int_of _ (value_fit AnInt x h) }
    value_fit _ _ (some_ints count array x many) = record { given = kind.Reference (known array); serves = length_known count array many; pushes = reference_fit array x }
    value_fit _ _ (element array index x y) =
        gives_int _ (same_pushes kind.Int _ _ (element_form array index) (λ below.
        indexed_fit array (value_code index) i.Elem below (kind.Int ∷ below) x (int_of _ (value_fit AnInt index y)) (record { finds = λ t k at. refl; used = λ t k. tt })))
    value_fit _ _ (part array index x y) =
        record {
          given = kind.Reference (Some 1);
          serves = refl;
          pushes = same_pushes (kind.Reference (Some 1)) _ _ (part_form array index) (λ below.
              indexed_fit array (value_code index) i.Place below (kind.Reference (Some 1) ∷ below) x (int_of _ (value_fit AnInt index y)) (record { finds = λ t k at. refl; used = λ t k. tt }));
        }
    value_fit _ _ (unary op operand x) =
        gives_int _ (same_pushes kind.Int _ _ (unary_form op operand) (λ below.
        then_fit below (kind.Int ∷ below) (kind.Int ∷ below) (value_code operand) (one (unary_code op)) (int_of _ (value_fit AnInt operand x) below)
        (plainly (unary_code op) (kind.Int ∷ below) (kind.Int ∷ below) (unary_does op below))))
    value_fit _ _ (chain left rest x y) =
        gives_int _ (same_pushes kind.Int _ _ (chain_form left rest) (λ below.
        then_fit below (kind.Int ∷ below) (kind.Int ∷ below) (value_code left) (chained_code (map link_code rest)) (int_of _ (value_fit AnInt left x) below) (links_fit rest y below)))
    value_fit _ _ (acts action wants operands w x) =
        let row = operands_fit wants operands x in
        gives_int _ (same_pushes kind.Int _ _ (act_form action operands) (λ below.
        then_fit below (on_top row.kinds below) (kind.Int ∷ below) (values_code operands) (one (action_code action (length operands))) (row.pushes below)
        (action_fit action wants row.kinds (length operands) w row.serve (as_many wants operands x) below)))

    links_fit : (links : List ValueLink) → AreLinks program r links → (below : List CellKind) → Makes (kind.Int ∷ below) (kind.Int ∷ below) (chained_code (map link_code links))
    links_fit _ no_link below around = no_fit code K around (shape (kind.Int ∷ below))
    links_fit _ (one_link l rest x y) below around =
        let others = chained_code (map link_code rest) in
        subst (λ (k : BinaryOp × Piece). Makes (kind.Int ∷ below) (kind.Int ∷ below) (joined_code k.0 k.1 ⨾ others)) (sym (link_form l))
        (then_fit (kind.Int ∷ below) (kind.Int ∷ below) (kind.Int ∷ below) (joined_code l.op (value_code l.operand)) others
        (joined_fit l.op (value_code l.operand) (int_of _ (value_fit AnInt l.operand x)) below) (links_fit rest y below)) around

    operands_fit : (wants : List Want) (xs : List Value) → AreOperands program r wants xs → Row wants (values_code xs)
    operands_fit _ _ no_operand = record { kinds = []; serve = tt; pushes = λ below around. no_fit code K around (shape below) }
    operands_fit _ _ (one_operand want wants x xs h hs) =
        let g = value_fit want x h in
        let row = operands_fit wants xs hs in
        record {
          kinds = g.given ∷ row.kinds;
          serve = (g.serves, row.serve);
          pushes = λ below. then_fit below (g.given ∷ below) (on_top row.kinds (g.given ∷ below)) (value_code x) (values_code xs) (g.pushes below) (row.pushes (g.given ∷ below));
        }

  pub int_fit : (x : Value) → IsValue program r AnInt x → Pushes kind.Int (value_code x)
  int_fit x h = int_of _ (value_fit AnInt x h)

  pub ints_fit : (xs : List Value) → AreInts program r xs → (below : List CellKind) → Makes below (ints (length xs) below) (values_code xs)
  ints_fit [] h below around = no_fit code K around (shape below)
  ints_fit (x ∷ xs) h below around =
      then_fit below (kind.Int ∷ below) (ints (length xs) (kind.Int ∷ below)) (value_code x) (values_code xs) (int_fit x h.0 below) (ints_fit xs h.1 (kind.Int ∷ below)) around
