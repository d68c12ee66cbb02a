-- What the code of a value or a statement that breaks no rule calls is what its nodes call, and it sends and receives only where no core
-- that reaches its function is at another end.
-- By induction on the tree, along its nodes: `Fair` says that the nodes given break no rule and that what they call is among these; each
-- form hands each part the nodes that are the part's own.
use Rattle.std.proofs.Common.{◌≡◌, ℕ, ◌+◌, List, [], ◌∷◌, ◌++◌, length, map, Option, Some, None, Bool, true, false, inl, inr, refl, sym, ap, subst}
use Rattle.std.specs.Prelude.{slice_get, pos}
use Rattle.ac_tree.specs.declared.expr.Expr.{Expr}
use Rattle.ac_tree.specs.declared.expr.Expr.TheVariants as expr
use Rattle.ac_tree.specs.declared.expr.Link.{Link}
use Rattle.ac_tree.specs.declared.stmt.Stmt.{Stmt, roll-Stmt}
use Rattle.ac_tree.specs.declared.stmt.Stmt.TheFolds.{map-Stmt}
use Rattle.ac_tree.specs.declared.stmt.Stmt.TheVariants as stmt
use Rattle.ac_tree.specs.declared.stmt.Stmt.TheOpen.{Stmt-F}
use Rattle.ac_tree.specs.Shape as shape
use Rattle.ac_tree.specs.Shape.{IsExpr, AreLinks as LinksShaped, IsPlace as PlaceShaped, IsCall, AreExprs, IsDeclaration, IsAssignment, IsFirst, IsNext, IsStmt, AreEntries}
use Rattle.ac_tree.proofs.Folds.{link_folds, for_folds}
use Rattle.ac_names.specs.declared.meaning.Meaning.{Meaning}
use Rattle.ac_names.specs.declared.meaning.Meaning.TheVariants as m
use Rattle.ac_names.specs.declared.names.Names.{Names}
use Rattle.ac_names.specs.Scopes.{Declaration, visible}
use Rattle.ac_names.specs.Statements.{part_words, part_gives, some_words, some_listed, listed, opened, moved, in_do, in_async, array_len}
use Rattle.ac_reach.specs.declared.reached.Reached.{Reached}
use Rattle.ac_reach.specs.declared.reached.Reached.TheVariants as r
use Rattle.ac_reach.specs.Reached.{IsAmong}
use Rattle.ac_types.specs.declared.around.Around.{Around}
use Rattle.ac_types.specs.declared.around.Position.{Position}
use Rattle.ac_types.specs.declared.around.Position.TheVariants as po
use Rattle.ac_types.specs.declared.numbered.Signature.{Signature}
use Rattle.ac_types.specs.declared.numbered.Ends.{Ends}
use Rattle.ac_types.specs.declared.numbered.Tables.{Tables}
use Rattle.ac_types.specs.Around.{position_of, inside_do, inside_async, inside_loop}
use Rattle.ac_types.specs.Tables.{callee, callee_of, takes_array, ends_named}
use Rattle.ac_types.specs.Nodes.{Node}
use Rattle.ac_types.specs.Judged.{call_tests, sends_away, takes_away, channel_tests}
use Rattle.ac_types.specs.Expressions.{number_of, one_node, join_nodes, told_nodes, expr_nodes, links_step, args_step, values_all, value_all}
use Rattle.ac_types.specs.Statements.{stmt_nodes, body_nodes, some_gives, for_gives}
use Rattle.ac_types.proofs.Cleans.{AllClean, clean_sooner, clean_later}
use Rattle.ac_types.proofs.Forms.{ExprNodes, ToldNodes, of_expr, of_link, link_nodes, StmtNodes, of_stmt, some_nodes, expr_is, stmt_is}
use Rattle.ac_commands.specs.declared.value.Action.TheVariants as act
use Rattle.ac_commands.specs.declared.value.Place.TheVariants as slots
use Rattle.ac_commands.specs.declared.value.Value.{Value}
use Rattle.ac_commands.specs.declared.value.ValueLink.{ValueLink}
use Rattle.ac_commands.specs.declared.command.Command.{Command}
use Rattle.ac_commands.specs.declared.command.Command.TheVariants as cm
use Rattle.ac_resolve.specs.Places.{constant_value, function_of, channel_of, cancel_of}
use Rattle.ac_resolve.specs.Computed.{Reading, InScopes, read, read_step, link_step, link_in, links_step as reading_links, arguments_step, file_operands}
use Rattle.ac_resolve.specs.Computed.{value_in, argument_in, target_in, place_in, values_in, some_in, initial_in}
use Rattle.ac_resolve.specs.Commands.{Texts, Told, told_step, told, some_told, some_shape, commands, some_texts, some_commands, for_names}
use Rattle.ac_resolve.proofs.Forms.{expr_reads, stmt_tells}
use Rattle.ac_resolve.proofs.Tellings.{is_told, listed_same, some_same, some_alike}
use Rattle.ac_resolve.proofs.ValuesInPlace.{AreClean}
use Rattle.stack_code.specs.declared.instr.Instr.{Instr}
use Rattle.stack_code.specs.declared.instr.Instr.TheVariants as instr
use Rattle.ac_translation.specs.Translation.{values_code}
use Rattle.ac_compile.proofs.Instructions as each
use Rattle.ac_compile.proofs.Instructions.{is_own, Holds, Values, Links, Targets, Bodies, Operands}

-- ---- an instruction of a function

-- what it calls is among these, and where it sends or receives, no other core than that end reaches the function
abbrev pub IsFair : Tables → List ℕ → Reached → Instr → Type 0
IsFair t calls reached (instr.Call function count) = (s : Signature) → slice_get t.functions function ≡ Some s → IsAmong function calls
IsFair t calls reached (instr.Send channel) = sends_away reached (slice_get t.channels channel) ≡ false
IsFair t calls reached (instr.Recv channel) = takes_away reached (slice_get t.channels channel) ≡ false
IsFair t calls reached _ = Unit {0}

pub own_fair : (t : Tables) (calls : List ℕ) (reached : Reached) (x : Instr) → is_own x ≡ true → IsFair t calls reached x
own_fair t calls reached (instr.Call function count) e = let no : false ≡ true = e in absurd (cc)
own_fair t calls reached (instr.Send channel) e = let no : false ≡ true = e in absurd (cc)
own_fair t calls reached (instr.Recv channel) e = let no : false ≡ true = e in absurd (cc)
own_fair t calls reached x e = tt

not_true : (b : Bool) → (b ≡ true → ⊥) → b ≡ false
not_true true h = absurd (h refl)
not_true false h = refl

-- ---- what the nodes call

abbrev pub AllCall : List ℕ → List Node → Type 0
AllCall calls [] = Unit {0}
AllCall calls (n ∷ ns) = ((function : ℕ) → n.calls ≡ Some function → IsAmong function calls) × AllCall calls ns

call_sooner : (calls : List ℕ) (xs ys : List Node) → AllCall calls (xs ++ ys) → AllCall calls xs
call_sooner calls [] ys h = tt
call_sooner calls (x ∷ xs) ys h = (h.0, call_sooner calls xs ys h.1)

pub call_later : (calls : List ℕ) (xs ys : List Node) → AllCall calls (xs ++ ys) → AllCall calls ys
call_later calls [] ys h = h
call_later calls (x ∷ xs) ys h = call_later calls xs ys h.1

-- before widths are known and which cores reach the function
abbrev pub untold : Tables → Tables
untold t = record t { widths = []; reached = [] }

abbrev pub unreached : Around → Around
unreached a = record a { reached = r.ByNone }

module _ (t : Tables) (calls : List ℕ) where
  abbrev Given : Type 0
  Given = Tables → Around → List Node

  -- the nodes break no rule, and what they call, which is told before it is known what is reached, is among these
  abbrev pub Fair : Given → Around → Type 0
  Fair g a = AllClean (g t a) × AllCall calls (g (untold t) (unreached a))

  sooner : (g h : Given) (a : Around) → Fair (λ t a. g t a ++ h t a) a → Fair g a
  sooner g h a c = (clean_sooner (g t a) (h t a) c.0, call_sooner calls (g (untold t) (unreached a)) (h (untold t) (unreached a)) c.1)

  later : (g h : Given) (a : Around) → Fair (λ t a. g t a ++ h t a) a → Fair h a
  later g h a c = (clean_later (g t a) (h t a) c.0, call_later calls (g (untold t) (unreached a)) (h (untold t) (unreached a)) c.1)

  -- behind the first node
  rest : (n : Tables → Around → Node) (g : Given) (a : Around) → Fair (λ t a. n t a ∷ g t a) a → Fair g a
  rest n g a c = (c.0.1, c.1.1)

  -- ---- expressions

  module _ (a : Around) (scopes : List (List Declaration)) where
    abbrev P : Instr → Type 0
    P = IsFair t calls a.reached

    abbrev own : (x : Instr) → is_own x ≡ true → P x
    own = own_fair t calls a.reached

    abbrev At : ToldNodes → Position → Type 0
    At x w = Fair (λ t a. x.1 t scopes a w) a

    form : {x y : ToldNodes} (w : Position) → x ≡ y → At x w → At y w
    form {x} {y} w e c = subst (λ (g : ToldNodes). At g w) e c

    link_form : {x y : ExprNodes} (w : Position) → x ≡ y → Fair (λ t a. x t scopes a w) a → Fair (λ t a. y t scopes a w) a
    link_form {x} {y} w e c = subst (λ (g : ExprNodes). Fair (λ t a. g t scopes a w) a) e c

    abbrev V : Value → Type 0
    V = Values P own

    value_as : {q q2 : Reading} → q ≡ q2 → V (q2.value scopes a.depth) → V (q.value scopes a.depth)
    value_as e h = subst (λ (z : Reading). V (z.value scopes a.depth)) (sym e) h

    target_as : {q q2 : Reading} → q ≡ q2 → Targets P own (q2.target scopes a.depth) → Targets P own (q.target scopes a.depth)
    target_as e h = subst (λ (z : Reading). Targets P own (z.target scopes a.depth)) (sym e) h

    received_as : {q q2 : Reading} → q ≡ q2 → V (q2.received scopes a.depth) → V (q.received scopes a.depth)
    received_as e h = subst (λ (z : Reading). V (z.received scopes a.depth)) (sym e) h

    argument_as : {q q2 : Reading} → q ≡ q2 → V (q2.argument scopes a.depth) → V (q.argument scopes a.depth)
    argument_as e h = subst (λ (z : Reading). V (z.argument scopes a.depth)) (sym e) h

    -- what is no name is as an argument what it is as a value
    value_given : {q q2 : Reading} → q ≡ q2 → q2.argument scopes a.depth ≡ q2.value scopes a.depth → V (q.value scopes a.depth) → V (q.argument scopes a.depth)
    value_given {q} {q2} e same h = subst (λ (z : Reading). V (z.value scopes a.depth) → V (z.argument scopes a.depth)) (sym e) (λ v. subst V (sym same) v) h

    abbrev links_nodes : List Link → Given
    links_nodes ls t a = links_step (List Node) one_node [] join_nodes (map link_nodes ls) t scopes a

    abbrev args_nodes : Option Meaning → ℕ → List Expr → Given
    args_nodes o n xs t a = args_step (List Node) one_node [] join_nodes o n (map told_nodes xs) t scopes a

    abbrev used : Expr → Given
    used x t a = expr_nodes x t scopes a po.Value

    -- a call is one of a function, whose number its node has
    called_fair : (o : Option Meaning) (n : ℕ) (w : Position) → AreClean (call_tests o (callee t o) n a w) → ((g : ℕ) → number_of (callee t o) ≡ Some g → IsAmong g calls)
        → (s : Signature) → slice_get t.functions (function_of o) ≡ Some s → IsAmong (function_of o) calls
    called_fair None n w c h s e = absurd (c 2 (inl (refl, refl)))
    called_fair (Some (m.Function k)) n w c h s e = h k (ap (λ z. number_of (callee_of k z)) e)
    called_fair (Some what) n w c h s e = absurd (c 4 (inr (inr (inl (refl, refl)))))

    -- an operation is one on a channel, at the end that is asked about
    own_end : (away : Option Ends → Bool) (unlike : Bool) (o : Option Meaning) (w : Position) → AreClean (channel_tests o unlike (away (ends_named t o)) a w) → away (slice_get t.channels
        (channel_of o)) ≡ false
    own_end away unlike None w c = absurd (c 2 (inl (refl, refl)))
    own_end away unlike (Some (m.Channel k)) w c = not_true _ (λ e. c 11 (inr (inr (inr (inl (refl, e))))))
    own_end away unlike (Some what) w c = absurd (c 4 (inr (inl (refl, refl))))

    -- the operands of a read or a write
    in_file : (from len : Expr) (array : List ℕ) → V (value_in from scopes a.depth) → V (value_in len scopes a.depth)
        → Holds P own (values_code (file_operands (read from) (read len) array scopes a.depth))
    in_file from len array f l = each.both_hold P own _ _ f (each.both_hold P own _ _ l (each.operand_holds P own _ (each.reference_holds P own _)))

    -- an argument that is no variable has the code of its value
    call_argument : (x : Expr) → IsCall x → V (value_in x scopes a.depth) → V (argument_in x scopes a.depth)
    call_argument _ (shape.function_call at name args gs) v = value_given (expr_reads _ (expr.rolls-Call at name args)) refl v
    call_argument _ (shape.send at channel value g) v = value_given (expr_reads _ (expr.rolls-Send at channel value)) refl v
    call_argument _ (shape.recv at channel place g) v = value_given (expr_reads _ (expr.rolls-Recv at channel place)) refl v
    call_argument _ (shape.read at file from len array g h) v = value_given (expr_reads _ (expr.rolls-Read at file from len array)) refl v
    call_argument _ (shape.write at file from len array g h) v = value_given (expr_reads _ (expr.rolls-Write at file from len array)) refl v

    argument_given : (x : Expr) → IsExpr x → V (value_in x scopes a.depth) → V (argument_in x scopes a.depth)
    argument_given _ (shape.number at value) v = value_given (expr_reads _ (expr.rolls-Number at value)) refl v
    argument_given _ (shape.constant at which) v = value_given (expr_reads _ (expr.rolls-Const at which)) refl v
    argument_given _ (shape.place _ (shape.variable at name)) v = argument_as (expr_reads _ (expr.rolls-Name at name)) (each.argument_holds P own (visible name scopes) a.depth)
    argument_given _ (shape.place _ (shape.element at name index g)) v = value_given (expr_reads _ (expr.rolls-Index at name index)) refl v
    argument_given _ (shape.call x g) v = call_argument x g v
    argument_given _ (shape.group at inner g) v = value_given (expr_reads _ (expr.rolls-Group at inner)) refl v
    argument_given _ (shape.unary at op inner g) v = value_given (expr_reads _ (expr.rolls-Unary at op inner)) refl v
    argument_given _ (shape.chain at level first link links g gs) v = value_given (expr_reads _ (expr.rolls-Chain at level first (link ∷ links))) refl v

    mutual
      value_at : (w : Position) (x : Expr) → IsExpr x → At (told_nodes x) w → V (value_in x scopes a.depth)
      value_at w _ (shape.number at value) c = value_as (expr_reads _ (expr.rolls-Number at value)) (each.number_holds P own value)
      value_at w _ (shape.constant at which) c = value_as (expr_reads _ (expr.rolls-Const at which)) (each.number_holds P own (constant_value which))
      value_at w _ (shape.place x g) c = place_value w x g c
      value_at w _ (shape.call x g) c = call_at w x g c
      value_at w _ (shape.group at inner g) c =
          let k = form w (expr_is _ (expr.rolls-Group at inner)) c in
          value_as (expr_reads _ (expr.rolls-Group at inner)) (value_at po.Value inner g (k.0.1, k.1.1))
      value_at w _ (shape.unary at op inner g) c =
          let k = form w (expr_is _ (expr.rolls-Unary at op inner)) c in
          value_as (expr_reads _ (expr.rolls-Unary at op inner)) (each.unary_holds P own op _ (value_at po.Value inner g (k.0.1, k.1.1)))
      value_at w _ (shape.chain at level first link links g gs) c =
          let k = form w (expr_is _ (expr.rolls-Chain at level first (link ∷ links))) c in
          let parts : Fair (λ t a. used first t a ++ links_nodes (link ∷ links) t a) a = (k.0.1, k.1.1) in
          value_as (expr_reads _ (expr.rolls-Chain at level first (link ∷ links)))
          (each.chain_holds P own _ _ (value_at po.Value first g (sooner (used first) (links_nodes (link ∷ links)) a parts))
          (links_at (link ∷ links) gs (later (used first) (links_nodes (link ∷ links)) a parts)))

      links_at : (ls : List Link) → LinksShaped ls → Fair (links_nodes ls) a → Links P own (reading_links (map link_in ls) scopes a.depth)
      links_at _ shape.no_link c = each.no_link P own
      links_at _ (shape.one_link link links g gs) c =
          let left : Given = λ t a. link_nodes link t scopes a po.Value in
          each.one_link P own (link_in link scopes a.depth) _
          (subst (λ (z : InScopes ValueLink). V (z scopes a.depth).operand) (sym (link_folds read_step link_step link))
          (value_at po.Value link.operand g (link_form po.Value (link_folds of_expr of_link link) (sooner left (links_nodes links) a c))))
          (links_at links gs (later left (links_nodes links) a c))

      place_value : (w : Position) (x : Expr) → PlaceShaped x → At (told_nodes x) w → V (value_in x scopes a.depth)
      place_value w _ (shape.variable at name) c = value_as (expr_reads _ (expr.rolls-Name at name)) (each.variable_holds P own _)
      place_value w _ (shape.element at name index g) c =
          let k = form w (expr_is _ (expr.rolls-Index at name index)) c in
          value_as (expr_reads _ (expr.rolls-Index at name index)) (each.element_holds P own _ _ (value_at po.Value index g (k.0.1, k.1.1)))

      target_at : (x : Expr) → PlaceShaped x → Fair (used x) a → Targets P own (target_in x scopes a.depth)
      target_at _ (shape.variable at name) c = target_as (expr_reads _ (expr.rolls-Name at name)) (each.target_holds P own _)
      target_at _ (shape.element at name index g) c =
          let k = form po.Value (expr_is _ (expr.rolls-Index at name index)) c in
          target_as (expr_reads _ (expr.rolls-Index at name index)) (each.put_holds P own _ _ (value_at po.Value index g (k.0.1, k.1.1)))

      -- where an operation puts what it receives
      received_at : (x : Expr) → PlaceShaped x → At (told_nodes x) po.Message → V (place_in x scopes a.depth)
      received_at _ (shape.variable at name) c = received_as (expr_reads _ (expr.rolls-Name at name)) (each.reference_holds P own _)
      received_at _ (shape.element at name index g) c =
          let k = form po.Message (expr_is _ (expr.rolls-Index at name index)) c in
          received_as (expr_reads _ (expr.rolls-Index at name index)) (each.part_holds P own _ _ (value_at po.Value index g (k.0.1, k.1.1)))

      arguments_at : (o : Option Meaning) (n : ℕ) (xs : List Expr) → AreExprs xs → Fair (args_nodes o n xs) a → Holds P own (values_code (arguments_step (map read xs) scopes a.depth))
      arguments_at o n _ shape.no_expr c = each.none_holds P own
      arguments_at o n _ (shape.one_expr x xs g gs) c =
          let left : Given = λ t a. expr_nodes x t scopes a (position_of (takes_array t o n)) in
          each.both_hold P own _ _
          (argument_given x g (value_at (position_of (takes_array t o n)) x g (sooner left (args_nodes o (n + 1) xs) a c)))
          (arguments_at o (n + 1) xs gs (later left (args_nodes o (n + 1) xs) a c))

      call_at : (w : Position) (x : Expr) → IsCall x → At (told_nodes x) w → V (value_in x scopes a.depth)
      call_at w _ (shape.function_call at name args gs) c =
          let k = form w (expr_is _ (expr.rolls-Call at name args)) c in
          let o = visible name scopes in
          value_as (expr_reads _ (expr.rolls-Call at name args))
          (each.act_holds P own (act.Call (function_of o)) _ (called_fair o (length (map told_nodes args)) w k.0.0 k.1.0) (arguments_at o 0 args gs (k.0.1, k.1.1)))
      call_at w _ (shape.send at channel value g) c =
          let k = form w (expr_is _ (expr.rolls-Send at channel value)) c in
          let o = visible channel scopes in
          value_as (expr_reads _ (expr.rolls-Send at channel value))
          (each.act_holds P own (act.Send (channel_of o)) _ (own_end (sends_away a.reached) _ o w k.0.0)
          (each.operand_holds P own _ (argument_given value g (value_at po.Message value g (k.0.1, k.1.1)))))
      call_at w _ (shape.recv at channel place g) c =
          let k = form w (expr_is _ (expr.rolls-Recv at channel place)) c in
          let o = visible channel scopes in
          value_as (expr_reads _ (expr.rolls-Recv at channel place))
          (each.act_holds P own (act.Recv (channel_of o)) _ (own_end (takes_away a.reached) _ o w k.0.0) (each.operand_holds P own _ (received_at place g (k.0.1, k.1.1))))
      call_at w _ (shape.read at file from len array g h) c =
          let k = form w (expr_is _ (expr.rolls-Read at file from len array)) c in
          value_as (expr_reads _ (expr.rolls-Read at file from len array)) (each.act_holds P own _ _ tt (in_file from len array
          (value_at po.Value from g (sooner (used from) (used len) a (k.0.1, k.1.1))) (value_at po.Value len h (later (used from) (used len) a (k.0.1, k.1.1)))))
      call_at w _ (shape.write at file from len array g h) c =
          let k = form w (expr_is _ (expr.rolls-Write at file from len array)) c in
          value_as (expr_reads _ (expr.rolls-Write at file from len array)) (each.act_holds P own _ _ tt (in_file from len array
          (value_at po.Value from g (sooner (used from) (used len) a (k.0.1, k.1.1))) (value_at po.Value len h (later (used from) (used len) a (k.0.1, k.1.1)))))

    -- ---- parts of statements

    values_at : (xs : List Expr) → AreExprs xs → Fair (λ t a. values_all (List Node) one_node [] join_nodes xs t scopes a) a → Holds P own (values_code (values_in xs scopes a.depth))
    values_at _ shape.no_expr c = each.none_holds P own
    values_at _ (shape.one_expr x xs g gs) c =
        let right : Given = λ t a. values_all (List Node) one_node [] join_nodes xs t scopes a in
        each.both_hold P own _ _ (value_at po.Value x g (sooner (used x) right a c)) (values_at xs gs (later (used x) right a c))

    abbrev some_used : Option Expr → Given
    some_used x t a = value_all (List Node) one_node [] join_nodes x t scopes a

    some_at : (x : Option Expr) → shape.IsValue x → Fair (some_used x) a → Operands P own (some_in x scopes a.depth)
    some_at _ shape.no_value c = tt
    some_at _ (shape.some_value x g) c = value_at po.Value x g c

    initial_at : (x : Option Expr) → shape.IsValue x → Fair (some_used x) a → V (initial_in x scopes a.depth)
    initial_at _ shape.no_value c = each.number_holds P own (pos 0)
    initial_at _ (shape.some_value x g) c = value_at po.Value x g c

  -- ---- statements

  abbrev pub B : Around → List Command → Type 0
  B a xs = Bodies (IsFair t calls a.reached) (own_fair t calls a.reached) xs

  abbrev Does : Told → StmtNodes → Type 0
  Does q k = (n : Names) (a : Around) (texts : Texts) → Fair (λ t a. part_gives k t n a) a → B a (q.commands n a.depth texts)

  abbrev DoesIt : Stmt → Type 0
  DoesIt x = Does (told x) (stmt_nodes x)

  same_does : {q q2 : Told} {k k2 : StmtNodes} → q ≡ q2 → k ≡ k2 → Does q2 k2 → Does q k
  same_does {q} {q2} {k} {k2} e g h = subst (λ x. Does x k) (sym e) (subst (λ y. Does q2 y) (sym g) h)

  -- a form does it if it does by its parts
  form_does : (y : Stmt-F Stmt) {x : Stmt} → roll-Stmt y ≡ x
      → Does (told_step (map-Stmt Stmt Told told y)) (of_stmt (map-Stmt Stmt StmtNodes stmt_nodes y)) → DoesIt x
  form_does y is h = same_does (stmt_tells y is) (stmt_is y is) h

  append : (a : Around) (xs ys : List Command) → B a xs → B a ys → B a (xs ++ ys)
  append a xs ys p q = each.bodies_append (IsFair t calls a.reached) (own_fair t calls a.reached) xs ys p q

  abbrev used_in : Names → Position → Expr → Given
  used_in n w x t a = expr_nodes x t n.scopes a w

  abbrev given_by : Stmt → Names → Given
  given_by x n t a = part_gives (stmt_nodes x) t n a

  declaration_does : (x : Stmt) → IsDeclaration x → DoesIt x
  declaration_does _ (shape.int at name value g) = form_does _ (stmt.rolls-Int at name value) (λ n a texts c.
      each.set_holds (P a n.scopes) (own a n.scopes) _ _ (initial_at a n.scopes value g (c.0.1, c.1.1)) (each.target_holds (P a n.scopes) (own a n.scopes) (slots.Local 0 n.slot)))
  declaration_does _ (shape.array at name size) = form_does _ (stmt.rolls-Array at name size) (λ n a texts c.
      each.clear_holds (P a n.scopes) (own a n.scopes) n.slot (array_len size))

  assignment_does : (x : Stmt) → IsAssignment x → DoesIt x
  assignment_does _ (shape.assign at place value g h) = form_does _ (stmt.rolls-Assign at place value) (λ n a texts c.
      let parts : Fair (λ t a. used_in n po.Value place t a ++ used_in n po.Value value t a) a = (c.0.1, c.1.1) in
      each.set_holds (P a n.scopes) (own a n.scopes) _ _
      (value_at a n.scopes po.Value value h (later (used_in n po.Value place) (used_in n po.Value value) a parts))
      (target_at a n.scopes place g (sooner (used_in n po.Value place) (used_in n po.Value value) a parts)))

  -- ---- parts of a `for`

  abbrev SomeDoes : Option Stmt → Type 0
  SomeDoes None = Unit {0}
  SomeDoes (Some x) = DoesIt x

  first_does : (o : Option Stmt) → IsFirst o → SomeDoes o
  first_does _ shape.no_first = tt
  first_does _ (shape.first_assigns x g) = assignment_does x g
  first_does _ (shape.first_declares at name value g) = declaration_does _ (shape.int at name (Some value) (shape.some_value value g))

  next_does : (o : Option Stmt) → IsNext o → SomeDoes o
  next_does _ shape.no_next = tt
  next_does _ (shape.next_assigns x g) = assignment_does x g

  abbrev some_given : Option Stmt → Names → Given
  some_given x n t a = some_gives (List Node) one_node [] join_nodes (some_nodes x) t n a

  some_does : (x : Option Stmt) → SomeDoes x → (n : Names) (a : Around) (texts : Texts) → Fair (some_given x n) a → B a (some_commands (some_told x) n a.depth texts)
  some_does None d n a texts c = tt
  some_does (Some x) d n a texts c = d n a texts c

  abbrev for_given : Option Expr → Option Stmt → Stmt → Names → Given
  for_given test next body n t a = for_gives (List Node) one_node [] join_nodes test (some_nodes next) (stmt_nodes body) t n a

  for_does : (init : Option Stmt) (test : Option Expr) (next : Option Stmt) (body : Stmt) → SomeDoes init → shape.IsValue test → SomeDoes next → DoesIt body
      → (n : Names) (a : Around) (texts : Texts)
      → Fair (λ t a. some_given init (opened n) t a ++ for_given test next body (some_listed (some_nodes init) a.depth (opened n)) t a) a →
      B a (some_commands (some_told init) (opened n) a.depth texts
      ++ cm.For (some_in test (for_names (some_told init) a.depth n).scopes a.depth)
      (some_commands (some_told next) (for_names (some_told init) a.depth n) a.depth (some_texts (some_told init) texts))
      ((told body).commands (moved (for_names (some_told init) a.depth n) (some_words (some_shape (some_told next)))) a.depth
      (some_texts (some_told next) (some_texts (some_told init) texts))) ∷ [])
  for_does init test next body di gt dn db n a texts c =
      let k = for_names (some_told init) a.depth n in
      let after = some_texts (some_told init) texts in
      let head = some_given init (opened n) in
      let tail : Given = λ t a. for_given test next body (some_listed (some_nodes init) a.depth (opened n)) t a in
      let tested : Given = λ t a. value_all (List Node) one_node [] join_nodes test t k.scopes a in
      let nexts = some_given next k in
      let bodies : Given = λ t a. part_gives (stmt_nodes body) t (moved k (some_words (some_nodes next))) (inside_loop a) in
      let others : Given = λ t a. nexts t a ++ bodies t a in
      let parts = subst (λ x. Fair (for_given test next body x) a) (sym (some_same init a.depth (opened n))) (later head tail a c) in
      let ends = later tested others a parts in
      let inside = subst (λ x. Fair (λ t a. part_gives (stmt_nodes body) t (moved k x) a) (inside_loop a)) (sym (some_alike next)) (later nexts bodies a ends) in
      append a _ _ (some_does init di (opened n) a texts (sooner head tail a c))
      (each.for_holds (P a k.scopes) (own a k.scopes) _ _ _ (some_at a k.scopes test gt (sooner tested others a parts))
      (some_does next dn k a after (sooner nexts bodies a ends))
      (db (moved k (some_words (some_shape (some_told next)))) (inside_loop a) (some_texts (some_told next) after) inside))

  for_all : (at : ℕ) (init : Option Stmt) (test : Option Expr) (next : Option Stmt) (body : Stmt) → SomeDoes init → shape.IsValue test → SomeDoes next → DoesIt body
      → Does (told_step (Stmt-F.For at (some_told init) test (some_told next) (told body))) (of_stmt (Stmt-F.For at (some_nodes init) test (some_nodes next) (stmt_nodes body)))
  for_all at None test None body di gt dn db n a texts c = for_does None test None body di gt dn db n a texts (c.0.1, c.1.1)
  for_all at None test (Some y) body di gt dn db n a texts c = for_does None test (Some y) body di gt dn db n a texts (c.0.1, c.1.1)
  for_all at (Some x) test None body di gt dn db n a texts c = for_does (Some x) test None body di gt dn db n a texts (c.0.1, c.1.1)
  for_all at (Some x) test (Some y) body di gt dn db n a texts c = for_does (Some x) test (Some y) body di gt dn db n a texts (c.0.1, c.1.1)

  -- ---- all statements

  abbrev pub entries_given : List Stmt → Names → Given
  entries_given xs n t a = body_nodes xs t n a

  first_entry : (x : Stmt) (xs : List Stmt) (n : Names) (a : Around) (texts : Texts)
      → Fair (λ t a. given_by x n t a ++ entries_given xs (listed (stmt_nodes x) a.depth n) t a) a → DoesIt x
      → (Fair (entries_given xs (listed (told x).shape a.depth n)) a → B a (commands (map told xs) (listed (told x).shape a.depth n) a.depth ((told x).texts texts)))
      → B a ((told x).commands n a.depth texts ++ commands (map told xs) (listed (told x).shape a.depth n) a.depth ((told x).texts texts))
  first_entry x xs n a texts c d ds =
      let right : Given = λ t a. entries_given xs (listed (stmt_nodes x) a.depth n) t a in
      append a _ _ (d n a texts (sooner (given_by x n) right a c))
      (ds (subst (λ k. Fair (entries_given xs k) a) (sym (listed_same x a.depth n)) (later (given_by x n) right a c)))

  cancel_does : (a : Around) (scopes : List (List Declaration)) (o : Option Meaning) → B a (cancel_of o a.depth ∷ [])
  cancel_does a scopes (Some (m.Label there slot)) = each.cancel_holds (P a scopes) (own a scopes) _ _ tt
  cancel_does a scopes (Some what) = each.cancel_holds (P a scopes) (own a scopes) _ _ tt
  cancel_does a scopes None = each.cancel_holds (P a scopes) (own a scopes) _ _ tt

  -- By the form of a statement: its nodes are those of its parts in order, which are divided as the form says.
  mutual
    statement_does : (x : Stmt) → IsStmt x → DoesIt x
    statement_does _ (shape.block at body g) = form_does _ (stmt.rolls-Block at body) (λ n a texts c. entries_do body g (opened n) a texts (c.0.1, c.1.1))
    statement_does _ (shape.empty at) = form_does _ (stmt.rolls-Empty at) (λ n a texts c. each.nothing_holds (P a n.scopes) (own a n.scopes))
    statement_does _ (shape.assignment x g) = assignment_does x g
    statement_does _ (shape.call_stmt at call g) = form_does _ (stmt.rolls-Call at call) (λ n a texts c.
        each.run_holds (P a n.scopes) (own a n.scopes) _ (value_at a n.scopes po.Statement call (shape.call call g) (c.0.1, c.1.1)))
    statement_does _ (shape.print at format args gs) = form_does _ (stmt.rolls-Print at format args) (λ n a texts c.
        each.print_holds (P a n.scopes) (own a n.scopes) _ _ (values_at a n.scopes args gs (c.0.1, c.1.1)))
    statement_does _ (shape.if_alone at test body g gb) = form_does _ (stmt.rolls-If at test body None) (λ n a texts c.
        let left = used_in n po.Value test in
        let middle = given_by body n in
        let none : Given = λ t a. [] in
        let right : Given = λ t a. middle t a ++ none t a in
        let parts : Fair (λ t a. left t a ++ right t a) a = (c.0.1, c.1.1) in
        each.if_alone_holds (P a n.scopes) (own a n.scopes) _ _ (value_at a n.scopes po.Value test g (sooner left right a parts))
        (statement_does body gb n a texts (sooner middle none a (later left right a parts))))
    statement_does _ (shape.if_else at test body other g gb go) = form_does _ (stmt.rolls-If at test body (Some other)) (λ n a texts c.
        let left = used_in n po.Value test in
        let middle = given_by body n in
        let last = given_by other (moved n (part_words (stmt_nodes body))) in
        let right : Given = λ t a. middle t a ++ last t a in
        let parts : Fair (λ t a. left t a ++ right t a) a = (c.0.1, c.1.1) in
        let ends = later left right a parts in
        let others = subst (λ k. Fair (given_by other (moved n k)) a) (sym (is_told body).words) (later middle last a ends) in
        each.if_else_holds (P a n.scopes) (own a n.scopes) _ _ _ (value_at a n.scopes po.Value test g (sooner left right a parts))
        (statement_does body gb n a texts (sooner middle last a ends))
        (statement_does other go (moved n (part_words (told body).shape)) a ((told body).texts texts) others))
    statement_does _ (shape.while at test body g gb) = form_does _ (stmt.rolls-While at test body) (λ n a texts c.
        let left = used_in n po.Value test in
        let right : Given = λ t a. part_gives (stmt_nodes body) t n (inside_loop a) in
        let parts : Fair (λ t a. left t a ++ right t a) a = (c.0.1, c.1.1) in
        each.while_holds (P a n.scopes) (own a n.scopes) _ _ (value_at a n.scopes po.Value test g (sooner left right a parts))
        (statement_does body gb n (inside_loop a) texts (later left right a parts)))
    statement_does _ (shape.for at init test next body gi gt gn gb) =
        same_does (for_folds told_step at init test next body) (for_folds of_stmt at init test next body)
        (for_all at init test next body (first_does init gi) gt (next_does next gn) (statement_does body gb))
    statement_does _ (shape.break at) = form_does _ (stmt.rolls-Break at) (λ n a texts c. each.break_holds (P a n.scopes) (own a n.scopes))
    statement_does _ (shape.continue at) = form_does _ (stmt.rolls-Continue at) (λ n a texts c. each.continue_holds (P a n.scopes) (own a n.scopes))
    statement_does _ (shape.return at value g) = form_does _ (stmt.rolls-Return at value) (λ n a texts c.
        each.return_holds (P a n.scopes) (own a n.scopes) _ (some_at a n.scopes value g (c.0.1, c.1.1)))
    statement_does _ (shape.do_finish at label body g) = form_does _ (stmt.rolls-Do at label body) (λ n a texts c.
        each.do_holds (P a n.scopes) (own a n.scopes) n.slot _ (entries_do body g (opened (in_do label a.depth n)) (inside_do a) texts (c.0.1, c.1.1)))
    statement_does _ (shape.async at body g) = form_does _ (stmt.rolls-Async at body) (λ n a texts c.
        each.async_holds (P a n.scopes) (own a n.scopes) _ _ (statement_does body g (in_async n) (inside_async a) texts (c.0.1, c.1.1)))
    statement_does _ (shape.cancel at label) = form_does _ (stmt.rolls-Cancel at label) (λ n a texts c. cancel_does a n.scopes (visible label n.labels))
    statement_does _ (shape.yield at) = form_does _ (stmt.rolls-Yield at) (λ n a texts c. each.yield_holds (P a n.scopes) (own a n.scopes))

    pub entries_do : (xs : List Stmt) → AreEntries xs → (n : Names) (a : Around) (texts : Texts) → Fair (entries_given xs n) a → B a (commands (map told xs) n a.depth texts)
    entries_do _ shape.no_entry n a texts c = tt
    entries_do _ (shape.declares x xs g gs) n a texts c =
        first_entry x xs n a texts c (declaration_does x g) (entries_do xs gs (listed (told x).shape a.depth n) a ((told x).texts texts))
    entries_do _ (shape.does x xs g gs) n a texts c =
        first_entry x xs n a texts c (statement_does x g) (entries_do xs gs (listed (told x).shape a.depth n) a ((told x).texts texts))
