-- Expressions that break no rule name only what is there. What a visible name means is there; that the node breaks no rule says that it is
-- declared and of the kind that is wanted; so it is what its place needs. Then by induction on the shape of the expression.
use Rattle.std.proofs.Common.{◌≡◌, ℕ, ◌+◌, ◌-◌, ◌<◌, ◌≤◌, pos, List, [], ◌∷◌, ◌++◌, length, map, Option}
use Rattle.std.proofs.Common.{Some, None, Bool, true, false, inl, inr, refl, sym, ap, ◌∙◌, subst, length-append, arith}
use Rattle.std.specs.Prelude.{nat_eq, nat_le, not, slice_get, if◌then◌else◌}
use Rattle.std.proofs.lemmas.Bool.Decides.{nat_tests}
use Rattle.std.proofs.lemmas.Option.{slice_get_within}
use Rattle.ac_tree.specs.declared.expr.Expr.{Expr}
use Rattle.ac_tree.specs.declared.expr.Expr.TheVariants as expr
use Rattle.ac_tree.specs.declared.expr.Link.{Link}
use Rattle.ac_tree.specs.Shape as shape
use Rattle.ac_tree.specs.Shape.{IsExpr, AreLinks as LinksShaped, IsPlace as PlaceShaped, IsCall, AreExprs}
use Rattle.ac_tree.proofs.Folds.{link_folds}
use Rattle.ac_names.specs.declared.meaning.Meaning.{Meaning}
use Rattle.ac_names.specs.declared.meaning.Meaning.TheVariants as m
use Rattle.ac_names.specs.declared.kind.NameKind.TheVariants as ki
use Rattle.ac_names.specs.Kinds.{is_other, is_undeclared, either, both}
use Rattle.ac_names.specs.Scopes.{Declaration, visible}
use Rattle.ac_types.specs.declared.around.Around.{Around}
use Rattle.ac_types.specs.declared.around.Position.{Position}
use Rattle.ac_types.specs.declared.around.Position.TheVariants as po
use Rattle.ac_types.specs.declared.numbered.Signature.{Signature}
use Rattle.ac_types.specs.declared.numbered.Tables.{Tables}
use Rattle.ac_types.specs.declared.numbered.Callee.{Callee}
use Rattle.ac_types.specs.Around.{is_array_position, position_of}
use Rattle.ac_types.specs.Tables.{callee, callee_of, takes_array, is_array_in, width_named}
use Rattle.ac_types.specs.Widths.{length_meant, length_named, ints_of, is_unlike}
use Rattle.ac_types.specs.Nodes.{Node}
use Rattle.ac_types.specs.Judged.{Tests, lacks_one, is_misplaced, is_miscounted, name_tests, index_tests, call_tests, channel_tests, file_tests}
use Rattle.ac_types.specs.Expressions.{call_node, one_node, join_nodes, told_nodes, expr_nodes, links_step, args_step, values_all, value_all}
use Rattle.ac_types.specs.Reached.{IsBrokenRule}
use Rattle.ac_types.proofs.Cleans.{AllClean, clean_sooner, clean_later, not_false}
use Rattle.ac_types.proofs.Forms.{ExprNodes, ToldNodes, of_expr, of_link, link_nodes, expr_is}
use Rattle.ac_commands.specs.declared.value.Action.TheVariants as act
use Rattle.ac_commands.specs.declared.value.Place.{Place}
use Rattle.ac_commands.specs.declared.value.Place.TheVariants as pl
use Rattle.ac_commands.specs.declared.value.Array.TheVariants as ar
use Rattle.ac_commands.specs.declared.value.Value.{Value}
use Rattle.ac_commands.specs.declared.value.Value.TheVariants as v
use Rattle.ac_commands.specs.declared.value.ValueLink.{ValueLink}
use Rattle.ac_commands.specs.declared.program.Resolved.{Resolved}
use Rattle.ac_resolve.specs.Places.{constant_value, place_of, array_of, name_argument, array_at, received_in, function_of, channel_of, file_of}
use Rattle.ac_resolve.specs.Computed.{Reading, InScopes, read, read_step, link_step, link_in, links_step as reading_links, arguments_step, file_operands}
use Rattle.ac_resolve.specs.Computed.{value_in, argument_in, target_in, place_in, values_in, some_in, initial_in}
use Rattle.ac_resolve.proofs.Forms.{expr_reads}
use Rattle.ac_resolve.specs.InPlace.{Round, AsInt, AsReference, Holds, IsPlace, global, local, IsArray, global_array, local_array, parameter}
use Rattle.ac_resolve.specs.InPlace.{Want, AnInt, AnArray, Elements, AMessage, want_of, HasLength, call, send, recv, read as reads_file, write as writes_file}
use Rattle.ac_resolve.specs.InPlace.{IsValue, number, variable, reference, elements, one_int, some_ints, element, part, unary, chain, acts, AreLinks, no_link, one_link}
use Rattle.ac_resolve.specs.InPlace.{AreOperands, no_operand, one_operand, AreInts, IsTest, no_test, some_test, IsTarget, to_variable, to_element}
use Rattle.ac_resolve.proofs.Stretches.{hold_first}
use Rattle.ac_resolve.proofs.Within.{IsSigned, IsWide, IsReached, IsWithin, AllWithin}

abbrev pub AreClean : Tests → Type 0
AreClean tests = (q : ℕ) → IsBrokenRule q tests → ⊥

-- neither an array nor a message has to stand there
abbrev wants_int : Position → Bool
wants_int po.Statement = true
wants_int po.Value = true
wants_int _ = false

abbrev pub IsPlain : Position → Type 0
IsPlain w = wants_int w ≡ true

misplaced : (o : Option Meaning) (w : Position) → IsPlain w → is_misplaced o w ≡ is_other ki.Int o
misplaced o po.Statement h = refl
misplaced o po.Value h = refl
misplaced o po.Array h = cc
misplaced o po.Message h = cc

second_true : (a b : Bool) → b ≡ true → either a b ≡ true
second_true true b h = refl
second_true false b h = h

-- where nothing is missing, what is asked is answered
pub asked_true : (b x : Bool) → (b ≡ true → ⊥) → x ≡ true → both (not b) x ≡ true
asked_true true x h e = absurd (h refl)
asked_true false x h e = e

-- ---- what a name means where it stands

-- a parameter is declared in no async body
no_less : (depth : ℕ) → depth - 0 ≡ depth
no_less depth = omega arith

module _ (program : Resolved) (t : Tables) (r : Round) (depth : ℕ) where
  abbrev AllOf : Option Meaning → Type 0
  AllOf o = (what : Meaning) → o ≡ Some what → IsWithin program t r.frames depth what

  local_there : (there slot : ℕ) → IsReached r.frames depth there slot 1 AsInt → IsPlace program r (pl.Local (depth - there) slot)
  local_there there slot h = local (depth - there) slot h.level (hold_first _ slot AsInt h.hold)

  array_reached : (there slot len : ℕ) → IsReached r.frames depth there slot len AsInt → IsArray program r (ar.Local (depth - there) slot len)
  array_reached there slot len h = local_array (depth - there) slot len h.level h.hold.room h.hold.each

  param_reached : (slot : ℕ) → IsReached r.frames depth 0 slot 1 AsReference → IsArray program r (ar.Param depth slot)
  param_reached slot h =
      subst (λ level. IsArray program r (ar.Param level slot)) (no_less depth) (parameter (depth - 0) slot h.level (hold_first _ slot AsReference h.hold))

  pub place_there : (o : Option Meaning) (w : Position) → IsPlain w → AllOf o → AreClean (name_tests o w) → IsPlace program r (place_of o depth)
  place_there None w plain h c = absurd (c 2 (inl (refl, refl)))
  place_there (Some (m.Global slot)) w plain h c = global slot (h (m.Global slot) refl)
  place_there (Some (m.Local there slot)) w plain h c = local_there there slot (h (m.Local there slot) refl)
  place_there (Some what) w plain h c = absurd (c 4 (inr (inl (refl, misplaced (Some what) w plain))))

  pub array_there : (o : Option Meaning) → AllOf o → (is_other ki.Array o ≡ true → ⊥) → (o ≡ None → ⊥) → IsArray program r (array_of o depth)
  array_there None h c n = absurd (n refl)
  array_there (Some (m.GlobalArray slot len)) h c n = global_array slot len (h (m.GlobalArray slot len) refl)
  array_there (Some (m.LocalArray there slot len)) h c n = array_reached there slot len (h (m.LocalArray there slot len) refl)
  array_there (Some (m.ArrayParam slot)) h c n = param_reached slot (h (m.ArrayParam slot) refl)
  array_there (Some what) h c n = absurd (c refl)

  pub index_there : (o : Option Meaning) (w : Position) → AllOf o → AreClean (index_tests o w) → IsArray program r (array_of o depth)
  index_there None w h c = absurd (c 2 (inl (refl, refl)))
  index_there (Some what) w h c = array_there (Some what) h (λ e. c 4 (inr (inl (refl, by (is_other ki.Array (Some what)) e)))) (λ e. cc) where
    by : (b : Bool) → b ≡ true → either b (is_array_position w) ≡ true
    by true e = refl
    by false e = cc

  -- a name as an argument
  value_argument : (o : Option Meaning) → AllOf o → AreClean (name_tests o po.Value) → IsValue program r AnInt (name_argument o depth)
  value_argument None h c = absurd (c 2 (inl (refl, refl)))
  value_argument (Some (m.Global slot)) h c = variable _ (global slot (h (m.Global slot) refl))
  value_argument (Some (m.Local there slot)) h c = variable _ (local_there there slot (h (m.Local there slot) refl))
  value_argument (Some what) h c = absurd (c 4 (inr (inl (refl, refl))))

  array_argument : (o : Option Meaning) → AllOf o → AreClean (name_tests o po.Array) → IsValue program r AnArray (name_argument o depth)
  array_argument None h c = absurd (c 2 (inl (refl, refl)))
  array_argument (Some (m.GlobalArray slot len)) h c = reference _ (global_array slot len (h (m.GlobalArray slot len) refl))
  array_argument (Some (m.LocalArray there slot len)) h c = reference _ (array_reached there slot len (h (m.LocalArray there slot len) refl))
  array_argument (Some (m.ArrayParam slot)) h c = reference _ (param_reached slot (h (m.ArrayParam slot) refl))
  array_argument (Some what) h c = absurd (c 4 (inr (inl (refl, refl))))

  pub argument_there : (b : Bool) (o : Option Meaning) → AllOf o → AreClean (name_tests o (position_of b)) → IsValue program r (want_of b) (name_argument o depth)
  argument_there true = array_argument
  argument_there false = value_argument

  -- what an operation puts an int into
  one_at : (level slot at : ℕ) → Holds r level slot AsInt → slot ≤ at → at < slot + 1 → Holds r level at AsInt
  one_at level slot at h le lt = subst (λ k. Holds r level k AsInt) (only slot at le lt) h where
    only : (slot at : ℕ) → slot ≤ at → at < slot + 1 → slot ≡ at
    only slot at le lt = omega (arith, le, lt)

  place_one : (place : Place) → IsPlace program r place → IsArray program r (array_at place) × HasLength 1 (array_at place)
  place_one _ (global slot lt) = (global_array slot 1 (omega (arith, lt)), refl)
  place_one _ (local level slot lt h) =
      let within = slice_get_within _ slot AsInt h in (local_array level slot 1 lt (omega (arith, within)) (λ at. one_at level slot at h), refl)

  -- where a name is what is sent or where a message is received, of so many ints
  one_only : {width : ℕ} → Some 1 ≡ Some width → 1 ≡ width
  one_only h = cc

  of_ints : (len width : ℕ) → ints_of (Some len) ≡ Some width → len ≡ width
  of_ints len width e = by (both (nat_le 1 len) (nat_le len 16)) e where
    by : (b : Bool) → (if b then Some len else None) ≡ Some width → len ≡ width
    by true e = cc
    by false e = cc

  int_sent : (place : Place) (width : ℕ) → Some 1 ≡ Some width → IsPlace program r place → IsValue program r (AMessage width) (v.Variable place)
  int_sent place width e h = subst (λ n. IsValue program r (AMessage n) (v.Variable place)) (one_only e) (one_int _ (variable place h))

  int_received : (place : Place) (width : ℕ) → Some 1 ≡ Some width → IsPlace program r place → IsValue program r (Elements width) (v.Reference (array_at place))
  int_received place width e h =
      let one = place_one place h in
      subst (λ n. IsValue program r (Elements n) (v.Reference (array_at place))) (one_only e) (elements 1 _ one.0 one.1)

  pub name_sent : (o : Option Meaning) (width : ℕ) → AllOf o → AreClean (name_tests o po.Message) → ints_of (length_meant o) ≡ Some width → IsValue program r (AMessage width) (name_argument o depth)
  name_sent None width h c e = absurd (c 2 (inl (refl, refl)))
  name_sent (Some (m.Global slot)) width h c e = int_sent _ width e (global slot (h (m.Global slot) refl))
  name_sent (Some (m.Local there slot)) width h c e = int_sent _ width e (local_there there slot (h (m.Local there slot) refl))
  name_sent (Some (m.GlobalArray slot len)) width h c e = some_ints width _ (global_array slot len (h (m.GlobalArray slot len) refl)) (of_ints len width e)
  name_sent (Some (m.LocalArray there slot len)) width h c e = some_ints width _ (array_reached there slot len (h (m.LocalArray there slot len) refl)) (of_ints len width e)
  name_sent (Some (m.ArrayParam slot)) width h c e = let no : None ≡ Some width = e in absurd (cc)
  name_sent (Some what) width h c e = absurd (c 4 (inr (inl (refl, refl))))

  pub name_received : (o : Option Meaning) (width : ℕ) → AllOf o → AreClean (name_tests o po.Message) → ints_of (length_meant o) ≡ Some width
      → IsValue program r (Elements width) (v.Reference (received_in o depth))
  name_received None width h c e = absurd (c 2 (inl (refl, refl)))
  name_received (Some (m.Global slot)) width h c e = int_received (pl.Global slot) width e (global slot (h (m.Global slot) refl))
  name_received (Some (m.Local there slot)) width h c e = int_received (pl.Local (depth - there) slot) width e (local_there there slot (h (m.Local there slot) refl))
  name_received (Some (m.GlobalArray slot len)) width h c e = elements width _ (global_array slot len (h (m.GlobalArray slot len) refl)) (of_ints len width e)
  name_received (Some (m.LocalArray there slot len)) width h c e = elements width _ (array_reached there slot len (h (m.LocalArray there slot len) refl)) (of_ints len width e)
  name_received (Some (m.ArrayParam slot)) width h c e = let no : None ≡ Some width = e in absurd (cc)
  name_received (Some what) width h c e = absurd (c 4 (inr (inl (refl, refl))))

  -- what is called, sent through and read from
  pub data IsCalled : Option Meaning → Type 0 where
    is_called : (k : ℕ) → IsSigned program t k → IsCalled (Some (m.Function k))

  pub function_there : (o : Option Meaning) → AllOf o → (is_other ki.Function o ≡ true → ⊥) → (o ≡ None → ⊥) → IsCalled o
  function_there None h c n = absurd (n refl)
  function_there (Some (m.Function k)) h c n = is_called k (h (m.Function k) refl)
  function_there (Some what) h c n = absurd (c refl)

  -- a Send or a Recv of so many elements names as many ints as a message of the channel has
  pub data IsUsed (len : Option ℕ) : Option Meaning → Type 0 where
    is_used : (k : ℕ) (wide : IsWide program t k) → ints_of len ≡ Some wide.channel.width → IsUsed len (Some (m.Channel k))

  pub sends_there : (o : Option Meaning) (len : Option ℕ) (x : Value) → IsUsed len o → ((width : ℕ) → ints_of len ≡ Some width → IsValue program r (AMessage width) x)
      → IsValue program r AnInt (v.Act (act.Send (channel_of o)) (x ∷ []))
  sends_there _ len x (is_used k wide e) h = acts _ _ _ (send k wide.channel wide.there) (one_operand _ [] x [] (h wide.channel.width e) no_operand)

  pub receives_there : (o : Option Meaning) (len : Option ℕ) (x : Value) → IsUsed len o → ((width : ℕ) → ints_of len ≡ Some width → IsValue program r (Elements width) x)
      → IsValue program r AnInt (v.Act (act.Recv (channel_of o)) (x ∷ []))
  receives_there _ len x (is_used k wide e) h = acts _ _ _ (recv k wide.channel wide.there) (one_operand _ [] x [] (h wide.channel.width e) no_operand)

  pub file_there : (o : Option Meaning) → AllOf o → (is_other ki.File o ≡ true → ⊥) → (o ≡ None → ⊥) → file_of o < length program.files
  file_there None h c n = absurd (n refl)
  file_there (Some (m.File k)) h c n = h (m.File k) refl
  file_there (Some what) h c n = absurd (c refl)

-- ---- which parameters are arrays

abbrev SeesAt : Option Signature → ℕ → List Bool → Type 0
SeesAt s n [] = Unit {0}
SeesAt s n (b ∷ bs) = (is_array_in n s ≡ b) × SeesAt s (n + 1) bs

at_end : (done : List Bool) (b : Bool) (bs : List Bool) → slice_get (done ++ b ∷ bs) (length done) ≡ Some b
at_end [] b bs = refl
at_end (x ∷ done) b bs = at_end done b bs

after_one : (done : List Bool) (b : Bool) (bs : List Bool) → done ++ b ∷ bs ≡ (done ++ b ∷ []) ++ bs
after_one [] b bs = refl
after_one (x ∷ done) b bs = ap (λ xs. x ∷ xs) (after_one done b bs)

one_longer : (done : List Bool) (b : Bool) (n : ℕ) → length done ≡ n → length (done ++ b ∷ []) ≡ n + 1
one_longer done b n e = omega (arith, e, length-append done (b ∷ []))

sees : (s : Signature) (done bs : List Bool) (n : ℕ) → s.params ≡ done ++ bs → length done ≡ n → SeesAt (Some s) n bs
sees s done [] n e l = tt
sees s done (b ∷ bs) n e l =
    let there : slice_get s.params n ≡ Some b = ap (λ ps. slice_get ps n) e ∙ ap (slice_get (done ++ b ∷ bs)) (sym l) ∙ at_end done b bs in
    (rw (there) refl, sees s (done ++ b ∷ []) bs (n + 1) (e ∙ after_one done b bs) (one_longer done b n l))

as_many_as : {X Y : Type 0} (h : X → Y) (xs : List X) → length (map h xs) ≡ length xs
as_many_as h [] = refl
as_many_as h (x ∷ xs) = let more = as_many_as h xs in omega (arith, more)

-- ---- expressions

module _ (program : Resolved) (t : Tables) (r : Round) (a : Around) (scopes : List (List Declaration)) (within : AllWithin program t r.frames a.depth scopes) where
  clean_as : {x y : ToldNodes} (w : Position) → x ≡ y → AllClean (x.1 t scopes a w) → AllClean (y.1 t scopes a w)
  clean_as {x} {y} w e c = subst (λ (g : ToldNodes). AllClean (g.1 t scopes a w)) e c

  clean_link : {x y : ExprNodes} (w : Position) → x ≡ y → AllClean (x t scopes a w) → AllClean (y t scopes a w)
  clean_link {x} {y} w e c = subst (λ (g : ExprNodes). AllClean (g t scopes a w)) e c

  value_as : {q q2 : Reading} → q ≡ q2 → IsValue program r AnInt (q2.value scopes a.depth) → IsValue program r AnInt (q.value scopes a.depth)
  value_as e h = subst (λ (z : Reading). IsValue program r AnInt (z.value scopes a.depth)) (sym e) h

  target_as : {q q2 : Reading} → q ≡ q2 → IsTarget program r (q2.target scopes a.depth) → IsTarget program r (q.target scopes a.depth)
  target_as e h = subst (λ (z : Reading). IsTarget program r (z.target scopes a.depth)) (sym e) h

  abbrev links_nodes : List Link → List Node
  links_nodes ls = links_step (List Node) one_node [] join_nodes (map link_nodes ls) t scopes a

  abbrev args_nodes : ℕ → ℕ → List Expr → List Node
  args_nodes function n xs = args_step (List Node) one_node [] join_nodes (Some (m.Function function)) n (map told_nodes xs) t scopes a

  -- ---- arguments

  argument_as : {q q2 : Reading} (b : Bool) → q ≡ q2 → IsValue program r (want_of b) (q2.argument scopes a.depth) → IsValue program r (want_of b) (q.argument scopes a.depth)
  argument_as {q} {q2} b e h = subst (λ (z : Reading). IsValue program r (want_of b) (z.argument scopes a.depth)) (sym e) h

  value_given : {q q2 : Reading} → q ≡ q2 → q2.argument scopes a.depth ≡ q2.value scopes a.depth → IsValue program r AnInt (q.value scopes a.depth)
      → IsValue program r AnInt (q.argument scopes a.depth)
  value_given {q} {q2} e same h =
      subst (λ (z : Reading). IsValue program r AnInt (z.value scopes a.depth) → IsValue program r AnInt (z.argument scopes a.depth)) (sym e)
      (λ v. subst (IsValue program r AnInt) (sym same) v) h

  -- the value of an expression, where it may stand as a value
  abbrev AsValue : Expr → Type 0
  AsValue x = AllClean (expr_nodes x t scopes a po.Value) → IsValue program r AnInt (value_in x scopes a.depth)

  -- what is no name is no argument for an array parameter
  plain_argument : (b : Bool) (x : Expr) {q2 : Reading} → AsValue x → read x ≡ q2 → q2.argument scopes a.depth ≡ q2.value scopes a.depth
      → (b ≡ true → ⊥) → AllClean (expr_nodes x t scopes a (position_of b)) → IsValue program r (want_of b) (argument_in x scopes a.depth)
  plain_argument true x v e same n c = absurd (n refl)
  plain_argument false x v e same n c = value_given e same (v c)

  array_place : {b : Bool} → b ≡ true → is_array_position (position_of b) ≡ true
  array_place e = ap (λ z. is_array_position (position_of z)) e

  -- both names of an operation on a file are declared, and one is of another kind
  abbrev unfit_file : List ℕ → List ℕ → Bool
  unfit_file file array = both (not (lacks_one (visible file scopes) (visible array scopes)))
      (either (is_other ki.File (visible file scopes)) (is_other ki.Array (visible array scopes)))

  call_argument : (b : Bool) (x : Expr) → IsCall x → AsValue x → AllClean (expr_nodes x t scopes a (position_of b)) → IsValue program r (want_of b) (argument_in x scopes a.depth)
  call_argument b _ (shape.function_call at name args gs) v c =
      plain_argument b _ v (expr_reads _ (expr.rolls-Call at name args)) refl
      (λ e. (clean_as (position_of b) (expr_is _ (expr.rolls-Call at name args)) c).0 4
      (inr (inr (inl (refl, second_true (is_other ki.Function (visible name scopes)) _ (array_place e)))))) c
  call_argument b _ (shape.send at channel value g) v c =
      plain_argument b _ v (expr_reads _ (expr.rolls-Send at channel value)) refl
      (λ e. (clean_as (position_of b) (expr_is _ (expr.rolls-Send at channel value)) c).0 4
      (inr (inl (refl, second_true (is_other ki.Channel (visible channel scopes)) _ (second_true _ _ (array_place e)))))) c
  call_argument b _ (shape.recv at channel place g) v c =
      plain_argument b _ v (expr_reads _ (expr.rolls-Recv at channel place)) refl
      (λ e. (clean_as (position_of b) (expr_is _ (expr.rolls-Recv at channel place)) c).0 4
      (inr (inl (refl, second_true (is_other ki.Channel (visible channel scopes)) _ (second_true _ _ (array_place e)))))) c
  call_argument b _ (shape.read at file from len array g h) v c =
      plain_argument b _ v (expr_reads _ (expr.rolls-Read at file from len array)) refl
      (λ e. (clean_as (position_of b) (expr_is _ (expr.rolls-Read at file from len array)) c).0 4
      (inr (inl (refl, second_true (unfit_file file array) _ (array_place e))))) c
  call_argument b _ (shape.write at file from len array g h) v c =
      plain_argument b _ v (expr_reads _ (expr.rolls-Write at file from len array)) refl
      (λ e. (clean_as (position_of b) (expr_is _ (expr.rolls-Write at file from len array)) c).0 4
      (inr (inl (refl, second_true (unfit_file file array) _ (array_place e))))) c

  argument_at : (b : Bool) (x : Expr) → IsExpr x → AsValue x → AllClean (expr_nodes x t scopes a (position_of b)) → IsValue program r (want_of b) (argument_in x scopes a.depth)
  argument_at b _ (shape.number at value) v c =
      plain_argument b _ v (expr_reads _ (expr.rolls-Number at value)) refl (λ e. (clean_as (position_of b) (expr_is _ (expr.rolls-Number at value)) c).0 4 (inl (refl, array_place e))) c
  argument_at b _ (shape.constant at which) v c =
      plain_argument b _ v (expr_reads _ (expr.rolls-Const at which)) refl (λ e. (clean_as (position_of b) (expr_is _ (expr.rolls-Const at which)) c).0 4 (inl (refl, array_place e))) c
  argument_at b _ (shape.place _ (shape.variable at name)) v c =
      let k = clean_as (position_of b) (expr_is _ (expr.rolls-Name at name)) c in
      argument_as b (expr_reads _ (expr.rolls-Name at name)) (argument_there program t r a.depth b (visible name scopes) (within name) k.0)
  argument_at b _ (shape.place _ (shape.element at name index g)) v c =
      plain_argument b _ v (expr_reads _ (expr.rolls-Index at name index)) refl
      (λ e. (clean_as (position_of b) (expr_is _ (expr.rolls-Index at name index)) c).0 4
      (inr (inl (refl, second_true (is_other ki.Array (visible name scopes)) _ (array_place e))))) c
  argument_at b _ (shape.call _ g) v c = call_argument b _ g v c
  argument_at b _ (shape.group at inner g) v c =
      plain_argument b _ v (expr_reads _ (expr.rolls-Group at inner)) refl (λ e. (clean_as (position_of b) (expr_is _ (expr.rolls-Group at inner)) c).0 4 (inl (refl, array_place e))) c
  argument_at b _ (shape.unary at op inner g) v c =
      plain_argument b _ v (expr_reads _ (expr.rolls-Unary at op inner)) refl (λ e. (clean_as (position_of b) (expr_is _ (expr.rolls-Unary at op inner)) c).0 4 (inl (refl, array_place e))) c
  argument_at b _ (shape.chain at level first link rest g gs) v c =
      plain_argument b _ v (expr_reads _ (expr.rolls-Chain at level first (link ∷ rest))) refl
      (λ e. (clean_as (position_of b) (expr_is _ (expr.rolls-Chain at level first (link ∷ rest))) c).0 4 (inl (refl, array_place e))) c

  counted_right : (o : Option Signature) (s : Signature) (function args : ℕ) → o ≡ Some s → (is_miscounted (callee_of function o) args ≡ true → ⊥) → args ≡ length s.params
  counted_right o s function args e n =
      let right = not_false (nat_eq (length s.params) args) (λ k. n (ap (λ z. is_miscounted (callee_of function z) args) e ∙ k)) in
      grind (arith, nat_tests, right)

  -- the operands of a call of that function with so many arguments
  abbrev Called : List Expr → Type 0
  Called args = (function : ℕ) (bs : List Bool) → SeesAt (slice_get t.functions function) 0 bs → length args ≡ length bs → AllClean (args_nodes function 0 args)
      → AreOperands program r (map want_of bs) (arguments_step (map read args) scopes a.depth)

  called_at : (o : Option Meaning) (args : List Expr) (w : Position) → Called args → IsCalled program t r a.depth o
      → AreClean (call_tests o (callee t o) (length (map told_nodes args)) a w)
      → AllClean (args_step (List Node) one_node [] join_nodes o 0 (map told_nodes args) t scopes a)
      → IsValue program r AnInt (v.Act (act.Call (function_of o)) (arguments_step (map read args) scopes a.depth))
  called_at _ args w gs (is_called k s) c cs =
      let count = counted_right (slice_get t.functions k) s.signature k (length (map told_nodes args)) s.told (λ e. c 3 (inr (inl (refl, e)))) in
      let seen = subst (λ o. SeesAt o 0 s.signature.params) (sym s.told) (sees s.signature [] s.signature.params 0 refl refl) in
      acts _ _ _ (call k s.function s.there)
      (subst (λ ps. AreOperands program r (map want_of ps) (arguments_step (map read args) scopes a.depth)) (sym s.params)
      (gs k s.signature.params seen (sym (as_many_as told_nodes args) ∙ count) cs))

  -- ---- operations

  declared : {o : Option Meaning} → o ≡ None → is_undeclared o ≡ true
  declared e = ap is_undeclared e

  first_true : (x y : Bool) → x ≡ true → either x y ≡ true
  first_true true y h = refl
  first_true false y h = cc

  as_many : (o : Option ℕ) (width : ℕ) → (is_unlike o (Some width) ≡ true → ⊥) → o ≡ Some width
  as_many None width n = absurd (n refl)
  as_many (Some count) width n = let same = not_false (nat_eq count width) n in ap (λ (k : ℕ). Some k) (grind (arith, nat_tests, same))

  channel_used : (o : Option Meaning) (len : Option ℕ) (away : Bool) (w : Position) → AllOf program t r a.depth o → AreClean (channel_tests o (is_unlike (ints_of len) (width_named t o)) away a w)
      → IsUsed program t r a.depth len o
  channel_used None len away w h c = absurd (c 2 (inl (refl, refl)))
  channel_used (Some (m.Channel k)) len away w h c =
      let wide = h (m.Channel k) refl in
      is_used k wide (as_many (ints_of len) wide.channel.width (λ e. c 4 (inr (inl (refl, first_true _ _ (ap (is_unlike (ints_of len)) wide.told ∙ e))))))
  channel_used (Some what) len away w h c = absurd (c 4 (inr (inl (refl, refl))))

  -- ---- what is sent

  -- what is no name stands as a value where it stands as a message
  data IsSent : Expr → Type 0 where
    a_name : (at : ℕ) (name : List ℕ) → IsSent (expr.Name at name)
    no_name : (x : Expr) → (told_nodes x).0 ≡ None → AllClean (expr_nodes x t scopes a po.Value) → IsSent x

  as_sent : {x : Expr} {y : ToldNodes} → told_nodes x ≡ y → y.0 ≡ None → y.1 t scopes a po.Message ≡ y.1 t scopes a po.Value → AllClean (expr_nodes x t scopes a po.Message) → IsSent x
  as_sent {x} {y} e none same c =
      no_name x (ap (λ (g : ToldNodes). g.0) e ∙ none) (subst (λ (g : ToldNodes). AllClean (g.1 t scopes a po.Value)) (sym e) (subst AllClean same (clean_as po.Message e c)))

  called_same : (at : ℕ) (o : Option Meaning) (f : Option Callee) (n : ℕ) → call_node at o f n a po.Message ≡ call_node at o f n a po.Value
  called_same at o None n = refl
  called_same at o (Some f) n = refl

  call_sent : (x : Expr) → IsCall x → AllClean (expr_nodes x t scopes a po.Message) → IsSent x
  call_sent _ (shape.function_call at name args gs) c =
      as_sent (expr_is _ (expr.rolls-Call at name args)) refl
      (ap (λ (n : Node). n ∷ args_step (List Node) one_node [] join_nodes (visible name scopes) 0 (map told_nodes args) t scopes a)
      (called_same at (visible name scopes) (callee t (visible name scopes)) (length (map told_nodes args)))) c
  call_sent _ (shape.send at channel value g) c = as_sent (expr_is _ (expr.rolls-Send at channel value)) refl refl c
  call_sent _ (shape.recv at channel place g) c = as_sent (expr_is _ (expr.rolls-Recv at channel place)) refl refl c
  call_sent _ (shape.read at file from len array g h) c = as_sent (expr_is _ (expr.rolls-Read at file from len array)) refl refl c
  call_sent _ (shape.write at file from len array g h) c = as_sent (expr_is _ (expr.rolls-Write at file from len array)) refl refl c

  is_sent : (x : Expr) → IsExpr x → AllClean (expr_nodes x t scopes a po.Message) → IsSent x
  is_sent _ (shape.number at value) c = as_sent (expr_is _ (expr.rolls-Number at value)) refl refl c
  is_sent _ (shape.constant at which) c = as_sent (expr_is _ (expr.rolls-Const at which)) refl refl c
  is_sent _ (shape.place _ (shape.variable at name)) c = a_name at name
  is_sent _ (shape.place _ (shape.element at name index g)) c = as_sent (expr_is _ (expr.rolls-Index at name index)) refl refl c
  is_sent _ (shape.call _ g) c = call_sent _ g c
  is_sent _ (shape.group at inner g) c = as_sent (expr_is _ (expr.rolls-Group at inner)) refl refl c
  is_sent _ (shape.unary at op inner g) c = as_sent (expr_is _ (expr.rolls-Unary at op inner)) refl refl c
  is_sent _ (shape.chain at level first link rest g gs) c = as_sent (expr_is _ (expr.rolls-Chain at level first (link ∷ rest))) refl refl c

  -- how many elements an expression names
  abbrev len_of : Expr → Option ℕ
  len_of x = length_named (told_nodes x).0 scopes

  sent_as : {q q2 : Reading} (width : ℕ) → q ≡ q2 → IsValue program r (AMessage width) (q2.argument scopes a.depth) → IsValue program r (AMessage width) (q.argument scopes a.depth)
  sent_as {q} {q2} width e h = subst (λ (z : Reading). IsValue program r (AMessage width) (z.argument scopes a.depth)) (sym e) h

  received_as : {q q2 : Reading} (width : ℕ) → q ≡ q2 → IsValue program r (Elements width) (q2.received scopes a.depth) → IsValue program r (Elements width) (q.received scopes a.depth)
  received_as {q} {q2} width e h = subst (λ (z : Reading). IsValue program r (Elements width) (z.received scopes a.depth)) (sym e) h

  len_is : (x : Expr) {y : ToldNodes} {width : ℕ} → told_nodes x ≡ y → ints_of (len_of x) ≡ Some width → ints_of (length_named y.0 scopes) ≡ Some width
  len_is x e h = ap (λ (g : ToldNodes). ints_of (length_named g.0 scopes)) (sym e) ∙ h

  sent_by : (x : Expr) → IsExpr x → AsValue x → IsSent x → AllClean (expr_nodes x t scopes a po.Message) → (width : ℕ) → ints_of (len_of x) ≡ Some width
      → IsValue program r (AMessage width) (argument_in x scopes a.depth)
  sent_by _ g v (a_name at name) c width e =
      let k = clean_as po.Message (expr_is _ (expr.rolls-Name at name)) c in
      sent_as width (expr_reads _ (expr.rolls-Name at name)) (name_sent program t r a.depth (visible name scopes) width (within name) k.0 (len_is (expr.Name at name) (expr_is _
      (expr.rolls-Name at name)) e))
  sent_by _ g v (no_name x none c2) c width e =
      let one : Some 1 ≡ Some width = ap (λ (o : Option (List ℕ)). ints_of (length_named o scopes)) (sym none) ∙ e in
      subst (λ n. IsValue program r (AMessage n) (argument_in x scopes a.depth)) (one_only program t r a.depth one) (one_int _ (argument_at false x g v c2))

  message_at : (x : Expr) → IsExpr x → AsValue x → AllClean (expr_nodes x t scopes a po.Message) → (width : ℕ) → ints_of (len_of x) ≡ Some width
      → IsValue program r (AMessage width) (argument_in x scopes a.depth)
  message_at x g v c = sent_by x g v (is_sent x g c) c

  file_used : (o array : Option Meaning) (w : Position) → AllOf program t r a.depth o → AreClean (file_tests o array a w) → file_of o < length program.files
  file_used o array w h c =
      file_there program t r a.depth o h
      (λ e. c 4 (inr (inl (refl, first_true _ _ (asked_true (lacks_one o array) _ (λ k. c 2 (inl (refl, k))) (first_true _ _ e))))))
      (λ e. c 2 (inl (refl, first_true _ _ (declared e))))

  array_used : (file o : Option Meaning) (w : Position) → AllOf program t r a.depth o → AreClean (file_tests file o a w) → IsArray program r (array_of o a.depth)
  array_used file o w h c =
      array_there program t r a.depth o h
      (λ e. c 4 (inr (inl (refl, first_true _ _ (asked_true (lacks_one file o) _ (λ k. c 2 (inl (refl, k))) (second_true (is_other ki.File file) _ e))))))
      (λ e. c 2 (inl (refl, second_true (is_undeclared file) _ (declared e))))

  one : {want : Want} {x : Value} → IsValue program r want x → AreOperands program r (want ∷ []) (x ∷ [])
  one {want} {x} h = one_operand want [] x [] h no_operand

  in_file : (from len : Expr) (array : List ℕ) → IsValue program r AnInt (value_in from scopes a.depth) → IsValue program r AnInt (value_in len scopes a.depth)
      → IsArray program r (array_of (visible array scopes) a.depth)
      → AreOperands program r (AnInt ∷ AnInt ∷ AnArray ∷ []) (file_operands (read from) (read len) array scopes a.depth)
  in_file from len array f l h = one_operand AnInt _ _ _ f (one_operand AnInt _ _ _ l (one (reference _ h)))

  -- ---- all expressions

  mutual
    pub value_at : (w : Position) → IsPlain w → (x : Expr) → IsExpr x → AllClean (expr_nodes x t scopes a w) → IsValue program r AnInt (value_in x scopes a.depth)
    value_at w plain _ (shape.number at value) c = value_as (expr_reads _ (expr.rolls-Number at value)) (number value)
    value_at w plain _ (shape.constant at which) c = value_as (expr_reads _ (expr.rolls-Const at which)) (number (constant_value which))
    value_at w plain _ (shape.place x g) c = place_value w plain x g c
    value_at w plain _ (shape.call x g) c = call_at w x g c
    value_at w plain _ (shape.group at inner g) c =
        let k = clean_as w (expr_is _ (expr.rolls-Group at inner)) c in
        value_as (expr_reads _ (expr.rolls-Group at inner)) (value_at po.Value refl inner g k.1)
    value_at w plain _ (shape.unary at op inner g) c =
        let k = clean_as w (expr_is _ (expr.rolls-Unary at op inner)) c in
        value_as (expr_reads _ (expr.rolls-Unary at op inner)) (unary op _ (value_at po.Value refl inner g k.1))
    value_at w plain _ (shape.chain at level first link rest g gs) c =
        let k = clean_as w (expr_is _ (expr.rolls-Chain at level first (link ∷ rest))) c in
        let left = expr_nodes first t scopes a po.Value in
        let right = links_nodes (link ∷ rest) in
        value_as (expr_reads _ (expr.rolls-Chain at level first (link ∷ rest)))
        (chain _ _ (value_at po.Value refl first g (clean_sooner left right k.1)) (links_at (link ∷ rest) gs (clean_later left right k.1)))

    links_at : (ls : List Link) → LinksShaped ls → AllClean (links_nodes ls) → AreLinks program r (reading_links (map link_in ls) scopes a.depth)
    links_at _ shape.no_link c = no_link
    links_at _ (shape.one_link link rest g gs) c =
        let left = link_nodes link t scopes a po.Value in
        let right = links_nodes rest in
        one_link (link_in link scopes a.depth) _
        (subst (λ (z : InScopes ValueLink). IsValue program r AnInt (z scopes a.depth).operand) (sym (link_folds read_step link_step link))
        (value_at po.Value refl link.operand g (clean_link po.Value (link_folds of_expr of_link link) (clean_sooner left right c))))
        (links_at rest gs (clean_later left right c))

    place_value : (w : Position) → IsPlain w → (x : Expr) → PlaceShaped x → AllClean (expr_nodes x t scopes a w) → IsValue program r AnInt (value_in x scopes a.depth)
    place_value w plain _ (shape.variable at name) c =
        let k = clean_as w (expr_is _ (expr.rolls-Name at name)) c in
        value_as (expr_reads _ (expr.rolls-Name at name)) (variable _ (place_there program t r a.depth (visible name scopes) w plain (within name) k.0))
    place_value w plain _ (shape.element at name index g) c =
        let k = clean_as w (expr_is _ (expr.rolls-Index at name index)) c in
        value_as (expr_reads _ (expr.rolls-Index at name index))
        (element _ _ (index_there program t r a.depth (visible name scopes) w (within name) k.0) (value_at po.Value refl index g k.1))

    pub target_at : (x : Expr) → PlaceShaped x → AllClean (expr_nodes x t scopes a po.Value) → IsTarget program r (target_in x scopes a.depth)
    target_at _ (shape.variable at name) c =
        let k = clean_as po.Value (expr_is _ (expr.rolls-Name at name)) c in
        target_as (expr_reads _ (expr.rolls-Name at name)) (to_variable _ (place_there program t r a.depth (visible name scopes) po.Value refl (within name) k.0))
    target_at _ (shape.element at name index g) c =
        let k = clean_as po.Value (expr_is _ (expr.rolls-Index at name index)) c in
        target_as (expr_reads _ (expr.rolls-Index at name index))
        (to_element _ _ (index_there program t r a.depth (visible name scopes) po.Value (within name) k.0) (value_at po.Value refl index g k.1))

    received_at : (x : Expr) → PlaceShaped x → AllClean (expr_nodes x t scopes a po.Message) → (width : ℕ) → ints_of (len_of x) ≡ Some width
        → IsValue program r (Elements width) (place_in x scopes a.depth)
    received_at _ (shape.variable at name) c width e =
        let k = clean_as po.Message (expr_is _ (expr.rolls-Name at name)) c in
        received_as width (expr_reads _ (expr.rolls-Name at name))
        (name_received program t r a.depth (visible name scopes) width (within name) k.0 (len_is (expr.Name at name) (expr_is _ (expr.rolls-Name at name)) e))
    received_at _ (shape.element at name index g) c width e =
        let k = clean_as po.Message (expr_is _ (expr.rolls-Index at name index)) c in
        let one : Some 1 ≡ Some width = len_is (expr.Index at name index) (expr_is _ (expr.rolls-Index at name index)) e in
        received_as width (expr_reads _ (expr.rolls-Index at name index))
        (subst (λ n. IsValue program r (Elements n) (v.Part (array_of (visible name scopes) a.depth) (value_in index scopes a.depth))) (one_only program t r a.depth one)
        (part _ _ (index_there program t r a.depth (visible name scopes) po.Message (within name) k.0) (value_at po.Value refl index g k.1)))

    arguments_at : (function : ℕ) (xs : List Expr) → AreExprs xs → (n : ℕ) (bs : List Bool) → SeesAt (slice_get t.functions function) n bs → length xs ≡ length bs
        → AllClean (args_nodes function n xs) → AreOperands program r (map want_of bs) (arguments_step (map read xs) scopes a.depth)
    arguments_at function _ shape.no_expr n [] s e c = no_operand
    arguments_at function _ shape.no_expr n (b ∷ bs) s e c = absurd (omega (arith, e))
    arguments_at function _ (shape.one_expr x xs g gs) n [] s e c = absurd (omega (arith, e))
    arguments_at function _ (shape.one_expr x xs g gs) n (b ∷ bs) s e c =
        let left = expr_nodes x t scopes a (position_of (takes_array t (Some (m.Function function)) n)) in
        let right = args_nodes function (n + 1) xs in
        one_operand (want_of b) (map want_of bs) _ _
        (argument_at b x g (λ k. value_at po.Value refl x g k) (subst (λ z. AllClean (expr_nodes x t scopes a (position_of z))) s.0 (clean_sooner left right c)))
        (arguments_at function xs gs (n + 1) bs s.1 (omega (arith, e)) (clean_later left right c))

    -- a call by the function that its name means and as many arguments; an operation by the channel or the file, and its operands one by one
    call_at : (w : Position) (x : Expr) → IsCall x → AllClean (expr_nodes x t scopes a w) → IsValue program r AnInt (value_in x scopes a.depth)
    call_at w _ (shape.function_call at name args gs) c =
        let k = clean_as w (expr_is _ (expr.rolls-Call at name args)) c in
        let o = visible name scopes in
        value_as (expr_reads _ (expr.rolls-Call at name args))
        (called_at o args w (λ function bs s e q. arguments_at function args gs 0 bs s e q)
        (function_there program t r a.depth o (within name) (λ e. k.0 4 (inr (inr (inl (refl, first_true _ _ e))))) (λ e. k.0 2 (inl (refl, declared e)))) k.0 k.1)
    call_at w _ (shape.send at channel value g) c =
        let k = clean_as w (expr_is _ (expr.rolls-Send at channel value)) c in
        value_as (expr_reads _ (expr.rolls-Send at channel value))
        (sends_there program t r a.depth (visible channel scopes) (len_of value) _ (channel_used (visible channel scopes) (len_of value) _ w (within channel) k.0)
        (message_at value g (λ j. value_at po.Value refl value g j) k.1))
    call_at w _ (shape.recv at channel place g) c =
        let k = clean_as w (expr_is _ (expr.rolls-Recv at channel place)) c in
        value_as (expr_reads _ (expr.rolls-Recv at channel place))
        (receives_there program t r a.depth (visible channel scopes) (len_of place) _ (channel_used (visible channel scopes) (len_of place) _ w (within channel) k.0)
        (received_at place g k.1))
    call_at w _ (shape.read at file from len array g h) c =
        let k = clean_as w (expr_is _ (expr.rolls-Read at file from len array)) c in
        let left = expr_nodes from t scopes a po.Value in
        let right = expr_nodes len t scopes a po.Value in
        value_as (expr_reads _ (expr.rolls-Read at file from len array))
        (acts _ _ _ (reads_file _ (file_used (visible file scopes) (visible array scopes) w (within file) k.0))
        (in_file from len array (value_at po.Value refl from g (clean_sooner left right k.1)) (value_at po.Value refl len h (clean_later left right k.1))
        (array_used (visible file scopes) (visible array scopes) w (within array) k.0)))
    call_at w _ (shape.write at file from len array g h) c =
        let k = clean_as w (expr_is _ (expr.rolls-Write at file from len array)) c in
        let left = expr_nodes from t scopes a po.Value in
        let right = expr_nodes len t scopes a po.Value in
        value_as (expr_reads _ (expr.rolls-Write at file from len array))
        (acts _ _ _ (writes_file _ (file_used (visible file scopes) (visible array scopes) w (within file) k.0))
        (in_file from len array (value_at po.Value refl from g (clean_sooner left right k.1)) (value_at po.Value refl len h (clean_later left right k.1))
        (array_used (visible file scopes) (visible array scopes) w (within array) k.0)))

  -- ---- parts of statements

  pub values_at : (xs : List Expr) → AreExprs xs → AllClean (values_all (List Node) one_node [] join_nodes xs t scopes a) → AreInts program r (values_in xs scopes a.depth)
  values_at _ shape.no_expr c = tt
  values_at _ (shape.one_expr x xs g gs) c =
      let left = expr_nodes x t scopes a po.Value in
      let right = values_all (List Node) one_node [] join_nodes xs t scopes a in
      (value_at po.Value refl x g (clean_sooner left right c), values_at xs gs (clean_later left right c))

  pub test_at : (x : Option Expr) → shape.IsValue x → AllClean (value_all (List Node) one_node [] join_nodes x t scopes a)
      → IsTest program r (some_in x scopes a.depth)
  test_at _ shape.no_value c = no_test
  test_at _ (shape.some_value x g) c = some_test _ (value_at po.Value refl x g c)

  pub initial_at : (x : Option Expr) → shape.IsValue x → AllClean (value_all (List Node) one_node [] join_nodes x t scopes a)
      → IsValue program r AnInt (initial_in x scopes a.depth)
  initial_at _ shape.no_value c = number (pos 0)
  initial_at _ (shape.some_value x g) c = value_at po.Value refl x g c
