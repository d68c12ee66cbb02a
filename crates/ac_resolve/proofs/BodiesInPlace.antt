-- Statements that break no rule name only what is there. By induction on the shape of the statement: a claim says what is round it (the
-- slots of its frame, its labels, its texts), and each form gives its parts what is round them and takes their claims together.
use Rattle.std.proofs.Common.{◌≡◌, ℕ, ◌+◌, ◌-◌, ◌<◌, ◌≤◌, List, [], ◌∷◌, ◌++◌, length, map, Option, Some, None, Bool, true, false, inl, inr, refl, sym, ap, ◌∙◌, subst, arith}
use Rattle.std.specs.Prelude.{nat_lt}
use Rattle.std.proofs.lemmas.Bool.Decides.{nat_tests}
use Rattle.ac_tree.specs.declared.expr.Expr.{Expr}
use Rattle.ac_tree.specs.declared.stmt.Stmt.{Stmt, roll-Stmt}
use Rattle.ac_tree.specs.declared.stmt.Stmt.TheFolds.{map-Stmt}
use Rattle.ac_tree.specs.declared.stmt.Stmt.TheVariants as stmt
use Rattle.ac_tree.specs.declared.stmt.Stmt.TheOpen.{Stmt-F}
use Rattle.ac_tree.specs.Shape as shape
use Rattle.ac_tree.specs.Shape.{IsDeclaration, IsAssignment, IsFirst, IsNext, IsStmt, AreEntries}
use Rattle.ac_tree.proofs.Folds.{stmt_folds, for_folds}
use Rattle.ac_names.specs.declared.meaning.Meaning.{Meaning}
use Rattle.ac_names.specs.declared.meaning.Meaning.TheVariants as m
use Rattle.ac_names.specs.declared.names.Names.{Names}
use Rattle.ac_names.specs.Kinds.{is_undeclared, either}
use Rattle.ac_names.specs.Scopes.{Declaration, visible}
use Rattle.ac_names.specs.Statements.{Named, part_names, part_words, part_gives, some_words, some_listed, listed, opened, moved, labelled, in_do, in_async, declared_at, array_len}
use Rattle.ac_names.proofs.Statements.{listed_slot}
use Rattle.ac_types.specs.declared.around.Around.{Around}
use Rattle.ac_types.specs.declared.around.Position.TheVariants as po
use Rattle.ac_types.specs.declared.numbered.Tables.{Tables}
use Rattle.ac_types.specs.Around.{inside_do, inside_async, inside_loop, is_closed}
use Rattle.ac_types.specs.Nodes.{Node}
use Rattle.ac_types.specs.Expressions.{one_node, join_nodes, expr_nodes, value_all}
use Rattle.ac_types.specs.Judged.{holes, is_misprinted}
use Rattle.ac_types.specs.Formats.{HasHoles}
use Rattle.ac_types.specs.Statements.{stmt_nodes, body_gives, some_gives, for_gives}
use Rattle.ac_types.proofs.Cleans.{AllClean, clean_sooner, clean_later, not_false}
use Rattle.ac_types.proofs.Formats.{formats_are_printed}
use Rattle.ac_types.proofs.Forms.{StmtNodes, of_stmt, some_nodes, stmt_is}
use Rattle.ac_commands.specs.declared.command.Command.{Command}
use Rattle.ac_commands.specs.declared.command.Command.TheVariants as cm
use Rattle.ac_commands.specs.declared.program.Resolved.{Resolved}
use Rattle.ac_resolve.specs.Places.{cancel_of}
use Rattle.ac_resolve.specs.Computed.{values_in, some_in}
use Rattle.ac_resolve.specs.Commands.{Texts, Told, told_step, told, some_told, some_shape, all_texts, commands, some_texts, some_commands, for_names}
use Rattle.ac_resolve.proofs.Forms.{stmt_tells}
use Rattle.ac_resolve.proofs.Tellings.{Kept, kept_same, kept_further, last_there, is_told, body_kept, listed_same, some_same, some_alike}
use Rattle.ac_resolve.specs.InPlace.{Use, AsInt, AsBlock, Round, FrameRound, frame_at, with_entered, in_loop, in_block, in_body, local, to_variable}
use Rattle.ac_resolve.specs.InPlace.{IsCommand, nothing, set, clear, run, print, if_alone, if_else, while_loop, for_loop, leave, go_on, give}
use Rattle.ac_resolve.specs.InPlace.{do_finish, start, cancel, yield, AreCommands, no_command, one_command}
use Rattle.ac_resolve.proofs.Uses.{ints, uses_step, uses_of, uses_in, uses_some, Declares, are_uses, own_uses}
use Rattle.ac_resolve.proofs.Stretches.{Hold, Stands, whole_stands, stands_sooner, stands_later, hold_one, hold_ints, hold_first}
use Rattle.ac_resolve.proofs.Within.{AllWithin, within_declared, all_further, all_entered, reached_here, entered_length, entered_uses, AllLabels, IsLabel, label_declared}
use Rattle.ac_resolve.proofs.Within.{labels_further, labels_entered, entered_now, AreBefore, before_more, before_entered}
use Rattle.ac_resolve.proofs.ValuesInPlace.{value_at, target_at, values_at, test_at, initial_at}

-- ---- lists of commands

single : (program : Resolved) (r : Round) (x : Command) → IsCommand program r x → AreCommands program r (x ∷ [])
single program r x h = one_command r x [] h (no_command r)

both : (program : Resolved) (r : Round) (xs ys : List Command) → AreCommands program r xs → AreCommands program r ys → AreCommands program r (xs ++ ys)
both program r _ ys (no_command _) h = h
both program r _ ys (one_command _ x xs g gs) h = one_command r x (xs ++ ys) g (both program r xs ys gs h)

not_true : (b : Bool) → (b ≡ true → ⊥) → b ≡ false
not_true true h = absurd (h refl)
not_true false h = refl

-- ---- texts after a statement, and what is round it

some_kept : (x : Option Stmt) (ts : Texts) → Kept ts (some_texts (some_told x) ts)
some_kept None ts = kept_same ts
some_kept (Some x) ts = (is_told x).texts ts

closed_async : (a : Around) → is_closed (inside_async a) ≡ true
closed_async a = by a.in_do where
  by : (b : Bool) → either b (nat_lt 0 (a.depth + 1)) ≡ true
  by true = refl
  by false = grind (arith, nat_tests)

in_do_closed : (a : Around) → a.in_do ≡ true → is_closed a ≡ true
in_do_closed a e = ap (λ b. either b (nat_lt 0 a.depth)) e

values_length : (xs : List Expr) (scopes : List (List Declaration)) (depth : ℕ) → length xs ≡ length (values_in xs scopes depth)
values_length [] scopes depth = refl
values_length (x ∷ xs) scopes depth = let more = values_length xs scopes depth in omega (arith, more)

some_many : (x : Option Stmt) → length (uses_some x) ≡ some_words (some_shape (some_told x))
some_many None = refl
some_many (Some x) = (are_uses x).many

-- what a declaration's slots hold
hold_int : (all us : List Use) (slot : ℕ) → us ≡ AsInt ∷ [] → Stands all us slot → Hold all slot 1 AsInt
hold_int all us slot e h = hold_one all AsInt slot (subst (λ u. Stands all u slot) e h)

hold_array : (all us : List Use) (slot len : ℕ) → us ≡ ints len → Stands all us slot → Hold all slot len AsInt
hold_array all us slot len e h = hold_ints all len slot (subst (λ u. Stands all u slot) e h)

no_less_than_itself : (n : ℕ) → n < n → ⊥
no_less_than_itself n lt = omega (arith, lt)

module _ (program : Resolved) (t : Tables) where
  -- what is known round a statement whose slots hold that, with the texts after it
  pub record IsRound (r : Round) (n : Names) (a : Around) (us : List Use) (texts : Texts) : Type 0 where
    pub some : 0 < length r.frames
    pub loop : r.loop ≡ a.in_loop
    pub block : r.block ≡ is_closed a
    pub names : AllWithin program t r.frames a.depth n.scopes
    pub labels : AllLabels r.frames a.depth n.labels
    pub before : AreBefore r.frames n.slot
    pub slots : Stands (frame_at r.frames 0).uses us n.slot
    pub kept : Kept texts program.texts

  -- with the same things round it, from a slot that is no sooner
  at_names : {r : Round} {n : Names} {a : Around} {us : List Use} {texts : Texts} (k : Names) (part : List Use) (later : Texts) → IsRound r n a us texts
      → AllWithin program t r.frames a.depth k.scopes → AllLabels r.frames a.depth k.labels → n.slot ≤ k.slot → Stands (frame_at r.frames 0).uses part k.slot
      → Kept later program.texts → IsRound r k a part later
  at_names {r} {n} k part later i names labels le slots kept = record {
    some = i.some;
    loop = i.loop;
    block = i.block;
    names = names;
    labels = labels;
    before = before_more r.frames n.slot k.slot le i.before;
    slots = slots;
    kept = kept;
  }

  in_a_loop : {r : Round} {n : Names} {a : Around} {us : List Use} {texts : Texts} → IsRound r n a us texts → IsRound (in_loop r) n (inside_loop a) us texts
  in_a_loop i =
      record { some = i.some; loop = refl; block = i.block; names = i.names; labels = i.labels; before = i.before; slots = i.slots; kept = i.kept }

  -- what is claimed of a statement by what it does, its nodes and what its slots hold
  abbrev Does : Told → StmtNodes → List Use → Type 0
  Does q k us = (r : Round) (n : Names) (a : Around) (texts : Texts) → IsRound r n a us (q.texts texts) → AllClean (part_gives k t n a)
      → AreCommands program r (q.commands n a.depth texts)

  abbrev DoesIt : Stmt → Type 0
  DoesIt x = Does (told x) (stmt_nodes x) (uses_of x)

  same_does : {q q2 : Told} {k k2 : StmtNodes} {us vs : List Use} → q ≡ q2 → k ≡ k2 → us ≡ vs → Does q2 k2 vs → Does q k us
  same_does {q} {q2} {k} {k2} {us} {vs} e g f h = subst (λ x. Does x k us) (sym e) (subst (λ y. Does q2 y us) (sym g) (subst (λ z. Does q2 k2 z) (sym f) h))

  -- a form does it if it does by its parts
  form_does : (form : Stmt-F Stmt) {x : Stmt} → roll-Stmt form ≡ x
      → Does (told_step (map-Stmt Stmt Told told form)) (of_stmt (map-Stmt Stmt StmtNodes stmt_nodes form)) (uses_step (map-Stmt Stmt (List Use) uses_of form)) → DoesIt x
  form_does form is h = same_does (stmt_tells form is) (stmt_is form is) (stmt_folds uses_step form is) h

  declared_named : (r : Round) (depth : ℕ) (named : Option Named) (us : List Use) (slot : ℕ) (scopes : List (List Declaration)) → 0 < length r.frames → Declares named us
      → Stands (frame_at r.frames 0).uses us slot → AllWithin program t r.frames depth scopes → AllWithin program t r.frames depth (declared_at named depth slot scopes)
  declared_named r depth None us slot scopes some d st h = h
  declared_named r depth (Some n) us slot scopes some d st h = by n.len d where
    by : (len : Option ℕ) → Declares (Some (record { name = n.name; len = len })) us
        → AllWithin program t r.frames depth (declared_at (Some (record { name = n.name; len = len })) depth slot scopes)
    by None k = within_declared program t r.frames depth n.name (m.Local depth slot) scopes (reached_here r.frames depth slot 1 AsInt some (hold_int _ us slot k st)) h
    by (Some len) k =
        within_declared program t r.frames depth n.name (m.LocalArray depth slot len) scopes (reached_here r.frames depth slot len AsInt some (hold_array _ us slot len k st)) h

  some_declared : (r : Round) (depth : ℕ) (x : Option Stmt) (n : Names) → 0 < length r.frames → Stands (frame_at r.frames 0).uses (uses_some x) n.slot
      → AllWithin program t r.frames depth n.scopes → AllWithin program t r.frames depth (some_listed (some_shape (some_told x)) depth n).scopes
  some_declared r depth None n some st h = h
  some_declared r depth (Some x) n some st h = declared_named r depth (part_names (told x).shape) (uses_of x) n.slot n.scopes some (are_uses x).declares st h

  -- ---- declarations and assignments

  declaration_does : (x : Stmt) → IsDeclaration x → DoesIt x
  declaration_does _ (shape.int at name value g) = form_does _ (stmt.rolls-Int at name value) (λ r n a texts i c.
      single program r _ (set r _ _ (to_variable _ (local 0 n.slot i.some (hold_first _ n.slot AsInt (hold_one _ AsInt n.slot i.slots))))
      (initial_at program t r a n.scopes i.names value g c.1)))
  declaration_does _ (shape.array at name size) = form_does _ (stmt.rolls-Array at name size) (λ r n a texts i c.
      let hold = hold_ints _ (array_len size) n.slot i.slots in
      single program r _ (clear r n.slot (array_len size) hold.room hold.each))

  assignment_does : (x : Stmt) → IsAssignment x → DoesIt x
  assignment_does _ (shape.assign at place value g h) = form_does _ (stmt.rolls-Assign at place value) (λ r n a texts i c.
      let left = expr_nodes place t n.scopes a po.Value in
      let right = expr_nodes value t n.scopes a po.Value in
      single program r _ (set r _ _ (target_at program t r a n.scopes i.names place g (clean_sooner left right c.1))
      (value_at program t r a n.scopes i.names po.Value refl value h (clean_later left right c.1))))

  -- ---- parts of a `for`

  abbrev SomeDoes : Option Stmt → Type 0
  SomeDoes None = Unit {0}
  SomeDoes (Some x) = DoesIt x

  first_does : (o : Option Stmt) → IsFirst o → SomeDoes o
  first_does _ shape.no_first = tt
  first_does _ (shape.first_assigns x g) = assignment_does x g
  first_does _ (shape.first_declares at name value g) = declaration_does _ (shape.int at name (Some value) (shape.some_value value g))

  next_does : (o : Option Stmt) → IsNext o → SomeDoes o
  next_does _ shape.no_next = tt
  next_does _ (shape.next_assigns x g) = assignment_does x g

  abbrev nodes_of : Option StmtNodes → Names → Around → List Node
  nodes_of x n a = some_gives (List Node) one_node [] join_nodes x t n a

  some_does : (x : Option Stmt) → SomeDoes x → (r : Round) (n : Names) (a : Around) (texts : Texts)
      → IsRound r n a (uses_some x) (some_texts (some_told x) texts) → AllClean (nodes_of (some_nodes x) n a)
      → AreCommands program r (some_commands (some_told x) n a.depth texts)
  some_does None d r n a texts i c = no_command r
  some_does (Some x) d r n a texts i c = d r n a texts i c

  abbrev rest_nodes : Option Expr → Option Stmt → Stmt → Names → Around → List Node
  rest_nodes test next body n a = for_gives (List Node) one_node [] join_nodes test (some_nodes next) (stmt_nodes body) t n a

  -- The slots are split in the order first part, third part, body, and so are the texts and the nodes. The names after the first part are
  -- those of the test, of the third part and of the body, which are one command after that of the first part.
  for_does : (init : Option Stmt) (test : Option Expr) (next : Option Stmt) (body : Stmt) → SomeDoes init → shape.IsValue test → SomeDoes next → DoesIt body
      → (r : Round) (n : Names) (a : Around) (texts : Texts) →
      IsRound r n a (uses_some init ++ (uses_some next ++ uses_of body)) ((told body).texts (some_texts (some_told next) (some_texts (some_told init) texts))) →
      AllClean (nodes_of (some_nodes init) (opened n) a ++ rest_nodes test next body (some_listed (some_nodes init) a.depth (opened n)) a) →
      AreCommands program r (some_commands (some_told init) (opened n) a.depth texts
      ++ cm.For (some_in test (for_names (some_told init) a.depth n).scopes a.depth)
      (some_commands (some_told next) (for_names (some_told init) a.depth n) a.depth (some_texts (some_told init) texts))
      ((told body).commands (moved (for_names (some_told init) a.depth n) (some_words (some_shape (some_told next)))) a.depth
      (some_texts (some_told next) (some_texts (some_told init) texts))) ∷ [])
  for_does init test next body di gt dn db r n a texts i c =
      let after = some_texts (some_told init) texts in
      let later = some_texts (some_told next) after in
      let k = for_names (some_told init) a.depth n in
      let more = some_words (some_shape (some_told next)) in
      let there : k.slot ≡ n.slot + some_words (some_shape (some_told init)) = listed_slot (some_shape (some_told init)) a.depth (opened n) in
      let first = stands_sooner _ (uses_some init) (uses_some next ++ uses_of body) n.slot i.slots in
      let others = subst (λ s. Stands (frame_at r.frames 0).uses (uses_some next ++ uses_of body) s) (sym there)
      (stands_later _ (uses_some init) (uses_some next ++ uses_of body) n.slot _ (some_many init) i.slots) in
      let inner = some_declared r a.depth init (opened n) i.some first i.names in
      let kept_later = kept_further later _ program.texts ((is_told body).texts later) i.kept in
      let kept_after = kept_further after later program.texts (some_kept next after) kept_later in
      let head = nodes_of (some_nodes init) (opened n) a in
      let tested = value_all (List Node) one_node [] join_nodes test t k.scopes a in
      let nexts = nodes_of (some_nodes next) k a in
      let bodies = part_gives (stmt_nodes body) t (moved k (some_words (some_nodes next))) (inside_loop a) in
      let rest = subst (λ x. AllClean (rest_nodes test next body x a)) (sym (some_same init a.depth (opened n)))
      (clean_later head (rest_nodes test next body (some_listed (some_nodes init) a.depth (opened n)) a) c) in
      let ends = clean_later tested (nexts ++ bodies) rest in
      let clean = subst (λ x. AllClean (part_gives (stmt_nodes body) t (moved k x) (inside_loop a))) (sym (some_alike next)) (clean_later nexts bodies ends) in
      both program r _ _
      (some_does init di r (opened n) a texts (at_names (opened n) _ _ i i.names i.labels (omega arith) first kept_after)
      (clean_sooner head (rest_nodes test next body (some_listed (some_nodes init) a.depth (opened n)) a) c))
      (single program r _ (for_loop r _ _ _
      (test_at program t r a k.scopes inner test gt (clean_sooner tested (nexts ++ bodies) rest))
      (some_does next dn r k a after
      (at_names k _ _ i inner (labels_of i) (omega (arith, there)) (stands_sooner _ (uses_some next) (uses_of body) k.slot others) kept_later) (clean_sooner nexts bodies ends))
      (db (in_loop r) (moved k more) (inside_loop a) later
      (in_a_loop (at_names (moved k more) _ _ i inner (labels_of i) (omega (arith, there)) (stands_later _ (uses_some next) (uses_of body) k.slot more (some_many next) others) i.kept)) clean))) where
        same_labels : (x : Option Stmt) (depth : ℕ) (k : Names) → (some_listed (some_shape (some_told x)) depth k).labels ≡ k.labels
        same_labels None depth k = refl
        same_labels (Some x) depth k = refl

        labels_of : {us : List Use} {ts : Texts} → IsRound r n a us ts → AllLabels r.frames a.depth (for_names (some_told init) a.depth n).labels
        labels_of i = subst (AllLabels r.frames a.depth) (sym (same_labels init a.depth (opened n))) i.labels

  for_all : (at : ℕ) (init : Option Stmt) (test : Option Expr) (next : Option Stmt) (body : Stmt) → SomeDoes init → shape.IsValue test → SomeDoes next → DoesIt body
      → Does (told_step (Stmt-F.For at (some_told init) test (some_told next) (told body))) (of_stmt (Stmt-F.For at (some_nodes init) test (some_nodes next) (stmt_nodes body)))
      (uses_some init ++ (uses_some next ++ uses_of body))
  for_all at None test None body di gt dn db r n a texts i c = for_does None test None body di gt dn db r n a texts i c.1
  for_all at None test (Some y) body di gt dn db r n a texts i c = for_does None test (Some y) body di gt dn db r n a texts i c.1
  for_all at (Some x) test None body di gt dn db r n a texts i c = for_does (Some x) test None body di gt dn db r n a texts i c.1
  for_all at (Some x) test (Some y) body di gt dn db r n a texts i c = for_does (Some x) test (Some y) body di gt dn db r n a texts i c.1

  -- ---- all statements

  abbrev bodies_nodes : List Stmt → Names → Around → List Node
  bodies_nodes xs n a = body_gives (List Node) one_node [] join_nodes (map stmt_nodes xs) t n a

  cancel_there : (r : Round) (depth : ℕ) (o : Option Meaning) → ((what : Meaning) → o ≡ Some what → IsLabel r.frames depth what) → (is_undeclared o ≡ true → ⊥)
      → IsCommand program r (cancel_of o depth)
  cancel_there r depth None h c = absurd (c refl)
  cancel_there r depth (Some (m.Label there slot)) h c = let l = h (m.Label there slot) refl in cancel r (depth - there) slot l.level l.among
  cancel_there r depth (Some what) h c = absurd (h what refl)

  label_inside : (frames : List FrameRound) (depth : ℕ) (label : Option (List ℕ)) (n : Names) → 0 < length frames → AllLabels frames depth n.labels
      → AllLabels (with_entered n.slot frames) depth (labelled label depth n.slot n.labels)
  label_inside frames depth None n some h = labels_entered n.slot frames depth n.labels h
  label_inside frames depth (Some name) n some h =
      label_declared (with_entered n.slot frames) depth name n.slot ([] ∷ n.labels) (entered_now n.slot frames depth some) (labels_entered n.slot frames depth n.labels h)

  -- in a `do`, whose slot comes first
  block_round : (label : Option (List ℕ)) (us : List Use) (r : Round) (n : Names) (a : Around) (texts : Texts) → IsRound r n a (AsBlock ∷ us) texts
      → IsRound (in_block n.slot r) (opened (in_do label a.depth n)) (inside_do a) us texts
  block_round label us r n a texts i = record {
    some = subst (λ k. 0 < k) (entered_length n.slot r.frames) i.some;
    loop = refl;
    block = refl;
    names = all_entered program t n.slot r.frames a.depth n.scopes i.names;
    labels = label_inside r.frames a.depth label n i.some i.labels;
    before = before_entered n.slot r.frames i.before;
    slots = subst (λ all. Stands all us (n.slot + 1)) (entered_uses n.slot r.frames 0) (stands_later _ (AsBlock ∷ []) us n.slot 1 refl i.slots);
    kept = i.kept;
  }

  -- in an async body, which has a frame of its own
  body_round : (us : List Use) (r : Round) (n : Names) (a : Around) (texts : Texts) → AllWithin program t r.frames a.depth n.scopes → AllLabels r.frames a.depth n.labels
      → Kept texts program.texts → IsRound (in_body us r) (in_async n) (inside_async a) us texts
  body_round us r n a texts names labels kept =
      let f : FrameRound = record { uses = us; entered = [] } in record {
        some = omega arith;
        loop = refl;
        block = sym (closed_async a);
        names = all_further program t f r.frames a.depth n.scopes names;
        labels = labels_further f r.frames a.depth n.labels labels;
        before = λ block e. cc;
        slots = whole_stands us;
        kept = kept;
      }

  first_entry : (x : Stmt) (xs : List Stmt) (r : Round) (n : Names) (a : Around) (texts : Texts)
      → IsRound r n a (uses_of x ++ uses_in xs) (all_texts (map told xs) ((told x).texts texts))
      → AllClean (part_gives (stmt_nodes x) t n a ++ bodies_nodes xs (listed (stmt_nodes x) a.depth n) a) → DoesIt x
      → (IsRound r (listed (told x).shape a.depth n) a (uses_in xs) (all_texts (map told xs) ((told x).texts texts))
      → AllClean (bodies_nodes xs (listed (told x).shape a.depth n) a)
      → AreCommands program r (commands (map told xs) (listed (told x).shape a.depth n) a.depth ((told x).texts texts)))
      → AreCommands program r ((told x).commands n a.depth texts ++ commands (map told xs) (listed (told x).shape a.depth n) a.depth ((told x).texts texts))
  first_entry x xs r n a texts i c d ds =
      let are = are_uses x in
      let after = (told x).texts texts in
      let here = part_gives (stmt_nodes x) t n a in
      let rest = bodies_nodes xs (listed (stmt_nodes x) a.depth n) a in
      let first = stands_sooner _ (uses_of x) (uses_in xs) n.slot i.slots in
      let clean = subst (λ k. AllClean (bodies_nodes xs k a)) (sym (listed_same x a.depth n)) (clean_later here rest c) in
      both program r _ _
      (d r n a texts (at_names n _ _ i i.names i.labels (omega arith) first (kept_further after _ program.texts (body_kept xs after) i.kept)) (clean_sooner here rest c))
      (ds (at_names (listed (told x).shape a.depth n) _ _ i
      (declared_named r a.depth (part_names (told x).shape) (uses_of x) n.slot n.scopes i.some are.declares first i.names) i.labels (omega arith)
      (stands_later _ (uses_of x) (uses_in xs) n.slot (part_words (told x).shape) are.many i.slots) i.kept) clean)

  -- One case for each form: what the node does not break says what the form needs (that it is in a loop, in a `do`, that its label is there),
  -- and the parts are in place by what is round them. A list goes on after the declaration of its first statement.
  mutual
    pub statement_does : (x : Stmt) → IsStmt x → DoesIt x
    statement_does _ (shape.block at body g) = form_does _ (stmt.rolls-Block at body) (λ r n a texts i c.
        entries_do body g r (opened n) a texts (at_names (opened n) _ _ i i.names i.labels (omega arith) i.slots i.kept) c.1)
    statement_does _ (shape.empty at) = form_does _ (stmt.rolls-Empty at) (λ r n a texts i c. single program r _ (nothing r))
    statement_does _ (shape.assignment x g) = assignment_does x g
    statement_does _ (shape.call_stmt at call g) = form_does _ (stmt.rolls-Call at call) (λ r n a texts i c.
        single program r _ (run r _ (value_at program t r a n.scopes i.names po.Statement refl call (shape.call call g) c.1)))
    statement_does _ (shape.print at format args gs) = form_does _ (stmt.rolls-Print at format args) (λ r n a texts i c.
        let fits = (formats_are_printed format (length args)).0 (not_true (is_misprinted (holes false 0 format) (length args)) (λ e. c.0 16 (inl (refl, e)))) in
        single program r _ (print r (length texts) _ format (i.kept (length texts) format (last_there texts format))
        (subst (HasHoles format) (values_length args n.scopes a.depth) fits) (values_at program t r a n.scopes i.names args gs c.1)))
    statement_does _ (shape.if_alone at test body g gb) = form_does _ (stmt.rolls-If at test body None) (λ r n a texts i c.
        let left = expr_nodes test t n.scopes a po.Value in
        let right = part_gives (stmt_nodes body) t n a in
        single program r _ (if_alone r _ _ (value_at program t r a n.scopes i.names po.Value refl test g (clean_sooner left (right ++ []) c.1))
        (statement_does body gb r n a texts (at_names n _ _ i i.names i.labels (omega arith) (stands_sooner _ (uses_of body) [] n.slot i.slots) i.kept)
        (clean_sooner right [] (clean_later left (right ++ []) c.1)))))
    statement_does _ (shape.if_else at test body other g gb go) =
        form_does _ (stmt.rolls-If at test body (Some other)) (λ r n a texts i c.
        let after = (told body).texts texts in
        let words = part_words (told body).shape in
        let left = expr_nodes test t n.scopes a po.Value in
        let middle = part_gives (stmt_nodes body) t n a in
        let right = part_gives (stmt_nodes other) t (moved n (part_words (stmt_nodes body))) a in
        let later = clean_later left (middle ++ right) c.1 in
        let clean = subst (λ k. AllClean (part_gives (stmt_nodes other) t (moved n k) a)) (sym (is_told body).words) (clean_later middle right later) in
        single program r _ (if_else r _ _ _ (value_at program t r a n.scopes i.names po.Value refl test g (clean_sooner left (middle ++ right) c.1))
        (statement_does body gb r n a texts
        (at_names n _ _ i i.names i.labels (omega arith) (stands_sooner _ (uses_of body) (uses_of other) n.slot i.slots)
        (kept_further after _ program.texts ((is_told other).texts after) i.kept)) (clean_sooner middle right later))
        (statement_does other go r (moved n words) a after
        (at_names (moved n words) _ _ i i.names i.labels (omega arith) (stands_later _ (uses_of body) (uses_of other) n.slot words (are_uses body).many i.slots) i.kept) clean)))
    statement_does _ (shape.while at test body g gb) = form_does _ (stmt.rolls-While at test body) (λ r n a texts i c.
        let left = expr_nodes test t n.scopes a po.Value in
        let right = part_gives (stmt_nodes body) t n (inside_loop a) in
        single program r _ (while_loop r _ _ (value_at program t r a n.scopes i.names po.Value refl test g (clean_sooner left right c.1))
        (statement_does body gb (in_loop r) n (inside_loop a) texts (in_a_loop i) (clean_later left right c.1))))
    statement_does _ (shape.for at init test next body gi gt gn gb) =
        same_does (for_folds told_step at init test next body) (for_folds of_stmt at init test next body) (for_folds uses_step at init test next body)
        (for_all at init test next body (first_does init gi) gt (next_does next gn) (statement_does body gb))
    statement_does _ (shape.break at) = form_does _ (stmt.rolls-Break at) (λ r n a texts i c.
        single program r _ (leave r (i.loop ∙ not_false a.in_loop (λ e. c.0 9 (inl (refl, e))))))
    statement_does _ (shape.continue at) = form_does _ (stmt.rolls-Continue at) (λ r n a texts i c.
        single program r _ (go_on r (i.loop ∙ not_false a.in_loop (λ e. c.0 9 (inl (refl, e))))))
    statement_does _ (shape.return at value g) = form_does _ (stmt.rolls-Return at value) (λ r n a texts i c.
        single program r _ (give r _ (i.block ∙ not_true (is_closed a) (λ e. c.0 9 (inl (refl, e)))) (test_at program t r a n.scopes i.names value g c.1)))
    statement_does _ (shape.do_finish at label body g) = form_does _ (stmt.rolls-Do at label body) (λ r n a texts i c.
        single program r _ (do_finish r n.slot _ (hold_first _ n.slot AsBlock (hold_one _ AsBlock n.slot (stands_sooner _ (AsBlock ∷ []) (uses_in body) n.slot i.slots)))
        (not_true _ (λ e. no_less_than_itself n.slot (i.before n.slot e)))
        (entries_do body g (in_block n.slot r) (opened (in_do label a.depth n)) (inside_do a) texts (block_round label (uses_in body) r n a _ i) c.1)))
    statement_does _ (shape.async at body g) = form_does _ (stmt.rolls-Async at body) (λ r n a texts i c.
        single program r _ (subst (λ words. IsCommand program r (cm.Async words ((told body).commands (in_async n) (a.depth + 1) texts))) (are_uses body).many
        (start r (uses_of body) _ (i.block ∙ in_do_closed a (not_false a.in_do (λ e. c.0 7 (inr (inl (refl, e)))))) (own_uses body)
        (statement_does body g (in_body (uses_of body) r) (in_async n) (inside_async a) texts (body_round (uses_of body) r n a _ i.names i.labels i.kept) c.1))))
    statement_does _ (shape.cancel at label) = form_does _ (stmt.rolls-Cancel at label) (λ r n a texts i c.
        single program r _ (cancel_there r a.depth (visible label n.labels) (i.labels label) (λ e. c.0 8 (inr (inl (refl, e))))))
    statement_does _ (shape.yield at) = form_does _ (stmt.rolls-Yield at) (λ r n a texts i c. single program r _ (yield r))

    pub entries_do : (xs : List Stmt) → AreEntries xs → (r : Round) (n : Names) (a : Around) (texts : Texts) → IsRound r n a (uses_in xs) (all_texts (map told xs) texts)
        → AllClean (bodies_nodes xs n a) → AreCommands program r (commands (map told xs) n a.depth texts)
    entries_do _ shape.no_entry r n a texts i c = no_command r
    entries_do _ (shape.declares x xs g gs) r n a texts i c =
        first_entry x xs r n a texts i c (declaration_does x g) (entries_do xs gs r (listed (told x).shape a.depth n) a ((told x).texts texts))
    entries_do _ (shape.does x xs g gs) r n a texts i c =
        first_entry x xs r n a texts i c (statement_does x g) (entries_do xs gs r (listed (told x).shape a.depth n) a ((told x).texts texts))
