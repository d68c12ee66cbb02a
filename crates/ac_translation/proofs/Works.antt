-- Where the code stands that does what a thread has still to do.
-- `Does` and `Works` read a list of work as a place in the code, item by item: the code there does the first, and where it goes on the code
-- does the rest. Then what leaving a loop, going on with it, or coming to the end of a body makes of that place.
use Rattle.std.proofs.Common.{◌≡◌, ℕ, zero, suc, ◌+◌, List, [], ◌∷◌, ◌++◌, length, Some, Bool, true, false, refl, sym, ap, ◌∙◌, subst, arith}
use Rattle.std.specs.Prelude.{slice_get, ℤ, pos, negsuc}
use Rattle.work_item.specs.declared.ids.FrameId.{FrameId}
use Rattle.work_item.specs.declared.ids.BlockId.{BlockId}
use Rattle.work_item.specs.declared.cell.Cell.{Cell}
use Rattle.core_state.specs.Arithmetic.{at_zero}
use Rattle.ac_commands.specs.declared.command.Command.{Command, map-Command, out-Command, fold_out-Command}
use Rattle.ac_commands.specs.declared.command.Command.TheOpen.{Command-F}
use Rattle.ac_semantics.specs.Held.{Held}
use Rattle.ac_semantics.specs.Evaluation.{Context}
use Rattle.ac_semantics.specs.Work.{Work, Do, Pend, Given, CallOff, Turn, Close, Back, Leave, End, before, next_in, next_part, past_loop, at_turn, closes, given}
use Rattle.ac_semantics.specs.Statements.{operands_of}
use Rattle.ac_semantics.specs.Threads.{CoreState, goes_on}
use Rattle.stack_code.specs.declared.instr.Instr.{Instr}
use Rattle.stack_code.specs.declared.instr.Instr.TheVariants as i
use Rattle.code_meaning.specs.Machine.{Caller, Flat}
use Rattle.ac_translation.specs.Pieces.{Exits, Piece, no_code, one, ◌⨾◌, all, loop_exits}
use Rattle.ac_translation.specs.Translation.{values_code, test_code, at_loop, at_next, command_step, command_code, body_code, last_code, no_exits}
use Rattle.ac_translation.proofs.WellFormed.{all_fit, both_true, Round, in_loop, placed_step, well_formed_step, is_well_formed, are_well_formed}
use Rattle.ac_translation.proofs.Sized.{test_sized, command_sized, body_sized}
use Rattle.ac_translation.proofs.Contexts.{Waits, taken_at}
use Rattle.ac_translation.proofs.Keeps.{Activation, called, within, Around, flat, SameBirths}
use Rattle.ac_translation.proofs.Placed.{Placed, first_part, other_part, Jumps, here, jump, jumps_on, loop_at}

-- What is round a place in the code of a function: the exits with which it is translated, whether they are those of a loop of the same body,
-- and whether a `do` is round it.
pub record Scope : Type 0 where
  pub exits : Exits
  pub loop : Bool
  pub block : Bool

abbrev pub round_of : Scope → Round
round_of x = record { loop = x.loop; block = x.block }

abbrev pub no_scope : Scope
no_scope = record { exits = no_exits; loop = false; block = false }

abbrev pub looped : Scope → Exits → Scope
looped x exits = record x { exits = exits; loop = true }

abbrev pub blocked : Scope → Scope
blocked x = record x { loop = false; block = true }

-- where a loop that stands there is left, and where it goes on; of another statement its two ends
abbrev pub exits_in : Command-F Piece → ℕ → Exits
exits_in (Command-F.While test body) place = loop_exits at_loop place (test_code (Some test) ((all body).size + 1)) (all body) no_code
exits_in (Command-F.For test next body) place = loop_exits at_next place (test_code test ((all body).size + ((all next).size + 1))) (all body) (all next)
exits_in x place = record { past = place + (command_step x).size; turn = place }

pub not_both : (b : Bool) → b ≡ false → b ≡ true → ⊥
not_both b e f = cc

-- the pieces of a command, and whether they are well formed, by its form
abbrev pub pieces_of : Command-F Command → Command-F Piece
pieces_of x = map-Command Command Piece command_code x

abbrev pub tests_of : Command-F Command → Command-F (Round → Bool)
tests_of x = map-Command Command (Round → Bool) is_well_formed x

pub code_by_form : (c : Command) → command_code c ≡ command_step (pieces_of (out-Command c))
code_by_form c = fold_out-Command Piece command_step c

test_by_form : (c : Command) → is_well_formed c ≡ well_formed_step (tests_of (out-Command c))
test_by_form c = fold_out-Command (Round → Bool) well_formed_step c

same_operands : (x : Command-F Command) → operands_of (tests_of x) ≡ operands_of x
same_operands (Command-F.Set target value) = refl
same_operands (Command-F.For test next body) = refl
same_operands (Command-F.If test body other) = refl
same_operands (Command-F.While test body) = refl
same_operands x = refl

-- where a command is well formed, its operands are, and it stands within what it needs
pub parts_by_form : (c : Command) (round : Round) → is_well_formed c round ≡ true
    → (all_fit (operands_of (out-Command c)) ≡ true) × (placed_step (tests_of (out-Command c)) round ≡ true)
parts_by_form c round form =
    let x = out-Command c in
    let parts = both_true (all_fit (operands_of (tests_of x))) (placed_step (tests_of x) round) (ap (λ (f : Round → Bool). f round) (sym (test_by_form c)) ∙ form) in
    (subst (λ xs. all_fit xs ≡ true) (same_operands x) parts.0, parts.1)

abbrev pub exits_of : Command → ℕ → Exits
exits_of c place = exits_in (pieces_of (out-Command c)) place

past_in : (x : Command-F Piece) (place : ℕ) → (exits_in x place).past ≡ place + (command_step x).size
past_in (Command-F.While test body) place = refl
past_in x place = refl

module _ (code : List Instr) where
  -- a statement, and what comes after it
  pub record DoAt (scope : Scope) (frame own : FrameId) (c : Command) (place : ℕ) (Then : ℕ → Type 0) : Type 0 where
    pub at : ℕ
    pub to : ℕ
    pub jumps : Jumps code place at
    pub stands : Placed code (command_code c) scope.exits at to
    pub form : is_well_formed c (round_of scope) ≡ true
    pub own_is : own ≡ frame
    pub rest : Then to

  -- a cancel that goes on
  pub record CallOffAt (frame own : FrameId) (level slot place : ℕ) (Then : ℕ → Type 0) : Type 0 where
    pub at : ℕ
    pub jumps : Jumps code place at
    pub stands : slice_get code at ≡ Some (i.Cancel level slot)
    pub own_is : own ≡ frame
    pub rest : Then (at + 1)

  -- the end of a loop's body, in a loop that stands in another scope
  pub record TurnAt (scope : Scope) (frame own : FrameId) (c : Command) (place : ℕ) (Then : Scope → ℕ → Type 0) : Type 0 where
    pub at : ℕ
    pub to : ℕ
    pub outer : Scope
    pub is : scope ≡ looped outer (exits_of c at)
    pub jumps : Jumps code place (exits_of c at).turn
    pub stands : Placed code (command_code c) outer.exits at to
    pub form : is_well_formed c (round_of outer) ≡ true
    pub own_is : own ≡ frame
    pub rest : Then outer to

  -- the end of a function
  pub record LastAt (scope : Scope) (place : ℕ) : Type 0 where
    pub at : ℕ
    pub to : ℕ
    pub jumps : Jumps code place at
    pub stands : Placed code last_code no_exits at to
    pub no_loop : scope.loop ≡ false
    pub no_block : scope.block ≡ false

  -- the end of a called function, whose caller waits
  pub record BackAt (scope : Scope) (activation : Activation) (own : FrameId) (place : ℕ) (Then : Activation → ℕ → List Cell → Type 0) : Type 0 where
    pub last : LastAt scope place
    pub own_is : own ≡ activation.frame
    pub caller : Caller
    pub others : List Caller
    pub is : activation.callers ≡ caller ∷ others
    pub rest : Then (called activation caller.frame others) caller.place caller.operands

  -- after so many operands of a statement, which are all, and before what is done with them
  pub record TailAt (scope : Scope) (c : Command) (place count : ℕ) (Then : ℕ → Type 0) : Type 0 where
    pub at : ℕ
    pub to : ℕ
    pub stands : Placed code (command_code c) scope.exits at to
    pub form : is_well_formed c (round_of scope) ≡ true
    pub is : place ≡ at + 1 + (values_code (operands_of (out-Command c))).size
    pub all : count ≡ length (operands_of (out-Command c))
    pub rest : Then to

  -- a statement that waits for a value, above these operands
  pub record PendAt (frame own : FrameId) (c : Command) (around : List Context) (place : ℕ) (operands : List Cell) (Then : Scope → ℕ → Type 0) : Type 0 where
    pub own_is : own ≡ frame
    pub scope : Scope
    pub waits : Waits code around place operands (λ to count. TailAt scope c to count (λ past. Then scope past))

  -- the end of an activation without a caller
  pub record LeaveAt (scope : Scope) (activation : Activation) (place : ℕ) (ws : List Work) : Type 0 where
    pub last : LastAt scope place
    pub alone : activation.callers ≡ []
    pub entered : activation.entered ≡ []
    pub nothing : ws ≡ []

  -- the finish of a block
  pub record CloseAt (scope : Scope) (activation : Activation) (block : BlockId) (place : ℕ) (Then : Scope → Activation → ℕ → Type 0) : Type 0 where
    pub at : ℕ
    pub to : ℕ
    pub jumps : Jumps code place at
    pub slot : ℕ
    pub exits : Exits
    pub stands : Placed code (one i.Step ⨾ one (i.Finish slot)) exits at to
    pub no_loop : scope.loop ≡ false
    pub in_block : scope.block ≡ true
    pub below : List BlockId
    pub entered : activation.entered ≡ block ∷ below
    pub outer : Scope
    pub rest : Then outer (within activation below) to

  -- the end of an async body, which was started in a block
  pub record EndAt (scope : Scope) (activation : Activation) (own : FrameId) (place : ℕ) (ws : List Work) : Type 0 where
    pub at : ℕ
    pub jumps : Jumps code place at
    pub stands : slice_get code at ≡ Some i.End
    pub no_loop : scope.loop ≡ false
    pub in_block : scope.block ≡ true
    pub own_is : own ≡ activation.frame
    pub alone : activation.callers ≡ []
    pub entered : activation.entered ≡ []
    pub block : BlockId
    pub others : List BlockId
    pub around : activation.around ≡ block ∷ others
    pub nothing : ws ≡ []

  abbrev mutual
    -- the code at this address does this work, in this scope and this activation
    pub Does : Scope → Activation → ℕ → List Work → Type 0
    Does scope activation place [] = ⊥
    Does scope activation place (Do own c ∷ ws) = DoAt scope activation.frame own c place (λ to. Does scope activation to ws)
    Does scope activation place (Pend own c around ∷ ws) = ⊥
    Does scope activation place (Given value own c around ∷ ws) = ⊥
    Does scope activation place (CallOff own level slot ∷ ws) = CallOffAt activation.frame own level slot place (λ to. Does scope activation to ws)
    Does scope activation place (Turn own c ∷ ws) = TurnAt scope activation.frame own c place (λ outer to. Does outer activation to ws)
    Does scope activation place (Close block ∷ ws) = CloseAt scope activation block place (λ outer left to. Does outer left to ws)
    Does scope activation place (Back own ∷ ws) = BackAt scope activation own place (λ below back operands. Sleeps below back operands ws)
    Does scope activation place (Leave ∷ ws) = LeaveAt scope activation place ws
    Does scope activation place (End own ∷ ws) = EndAt scope activation own place ws

    -- with a value on top of these operands the code at this address does this work
    pub Sleeps : Activation → ℕ → List Cell → List Work → Type 0
    Sleeps activation place operands (Pend own c around ∷ ws) = PendAt activation.frame own c around place operands (λ scope to. Does scope activation to ws)
    Sleeps activation place operands _ = ⊥

  -- the same in some scope, or where the value has just come
  pub data Works (activation : Activation) (place : ℕ) : List Cell → List Work → Type 0 where
    works : {ws : List Work} (scope : Scope) → Does scope activation place ws → Works activation place [] ws
    wakes : {below : List Cell} {ws : List Work} (value : Cell) (own : FrameId) (c : Command) (around : List Context) → Sleeps activation place below (Pend own c around ∷ ws)
        → Works activation place (value ∷ below) (Given value own c around ∷ ws)

  -- the value has come
  pub given_works : (value : Cell) (activation : Activation) (place : ℕ) (operands : List Cell) (ws : List Work) → Sleeps activation place operands ws
      → Works activation place (value ∷ operands) (given value ws)
  given_works value activation place operands (Pend own c around ∷ ws) d = wakes value own c around d
  given_works value activation place operands ws d = absurd d

  -- the relation holds wherever the code stands that does the work, in whichever activation of the thread
  abbrev pub Relates : (CoreState → Flat → Type 0) → Around → CoreState → Type 0
  Relates R a c =
      (frame : FrameId) (callers : List Caller) (s : Held) (place : ℕ) (operands : List Cell) (ws : List Work) (count : ℕ) → SameBirths c.held s →
      Works (called a.activation frame callers) place operands ws →
      R (goes_on c s ws) (flat (record a { activation = called a.activation frame callers }) s place operands count)

  module _ (activation : Activation) where
    last_later : (scope : Scope) {place to : ℕ} → Jumps code place to → LastAt scope to → LastAt scope place
    last_later scope j d = record { at = d.at; to = d.to; jumps = jumps_on code j d.jumps; stands = d.stands; no_loop = d.no_loop; no_block = d.no_block }

    -- By cases on the work; each form of it already allows jumps before its code, so one more comes in front of them.
    pub jumps_do : (scope : Scope) {place to : ℕ} (ws : List Work) → Jumps code place to → Does scope activation to ws → Does scope activation place ws
    jumps_do scope [] j d = d
    jumps_do scope (Do own c ∷ ws) j d = record { at = d.at; to = d.to; jumps = jumps_on code j d.jumps; stands = d.stands; form = d.form; own_is = d.own_is; rest = d.rest }
    jumps_do scope (CallOff own level slot ∷ ws) j d = record { at = d.at; jumps = jumps_on code j d.jumps; stands = d.stands; own_is = d.own_is; rest = d.rest }
    jumps_do scope (Turn own c ∷ ws) j d = record {
      at = d.at;
      to = d.to;
      outer = d.outer;
      is = d.is;
      jumps = jumps_on code j d.jumps;
      stands = d.stands;
      form = d.form;
      own_is = d.own_is;
      rest = d.rest;
    }
    jumps_do scope (Close block ∷ ws) j d = record {
      at = d.at;
      to = d.to;
      jumps = jumps_on code j d.jumps;
      slot = d.slot;
      exits = d.exits;
      stands = d.stands;
      no_loop = d.no_loop;
      in_block = d.in_block;
      below = d.below;
      entered = d.entered;
      outer = d.outer;
      rest = d.rest;
    }
    jumps_do scope (Back own ∷ ws) j d = record { last = last_later scope j d.last; own_is = d.own_is; caller = d.caller; others = d.others; is = d.is; rest = d.rest }
    jumps_do scope (Pend own c around ∷ ws) j d = d
    jumps_do scope (Given value own c around ∷ ws) j d = d
    jumps_do scope (Leave ∷ ws) j d = record { last = last_later scope j d.last; alone = d.alone; entered = d.entered; nothing = d.nothing }
    jumps_do scope (End own ∷ ws) j d = record {
      at = d.at;
      jumps = jumps_on code j d.jumps;
      stands = d.stands;
      no_loop = d.no_loop;
      in_block = d.in_block;
      own_is = d.own_is;
      alone = d.alone;
      entered = d.entered;
      block = d.block;
      others = d.others;
      around = d.around;
      nothing = d.nothing;
    }

    -- a body, and what comes after it
    pub before_does : (body : List Command) (ws : List Work) (scope : Scope) {place to : ℕ} → are_well_formed body (round_of scope) ≡ true → Placed code (body_code body) scope.exits place to
        → Does scope activation to ws →
        Does scope activation place (before activation.frame body ws)
    before_does [] ws scope {place} {to} f h d =
        let ends = h.ends in
        let same : to ≡ place = omega (arith, ends) in
        subst (λ n. Does scope activation n ws) same d
    before_does (x ∷ xs) ws scope {place} {to} f h d =
        let forms = both_true (is_well_formed x (round_of scope)) (are_well_formed xs (round_of scope)) f in
        record {
          at = place;
          to = place + (command_code x).size;
          jumps = here;
          stands = first_part code (command_code x) (body_code xs) h;
          form = forms.0;
          own_is = refl;
          rest = before_does xs ws scope forms.1 (other_part code (command_code x) (body_code xs) (command_sized x) h) d;
        }

    -- by what a test comes to
    pub zero_works : {p q : ℕ} {operands : List Cell} {xs ys : List Work} (v : ℤ) → Works activation p operands xs → Works activation q operands ys
        → Works activation (at_zero v p q) operands (at_zero v xs ys)
    zero_works (pos zero) x y = x
    zero_works (pos (suc n)) x y = y
    zero_works (negsuc n) x y = y

    -- ---- loops

    past_is : (c : Command) {exits : Exits} {at to : ℕ} → Placed code (command_code c) exits at to → (exits_of c at).past ≡ to
    past_is c {at = at} h = past_in (pieces_of (out-Command c)) at ∙ ap (λ (p : Piece). at + p.size) (sym (code_by_form c)) ∙ h.ends

    -- the innermost loop is left
    pub break_works : (ws : List Work) (scope : Scope) (place : ℕ) → scope.loop ≡ true → Does scope activation place ws → Works activation scope.exits.past [] (past_loop ws)
    break_works [] scope place e d = absurd d
    break_works (Do own c ∷ ws) scope place e d = break_works ws scope d.to e d.rest
    break_works (CallOff own level slot ∷ ws) scope place e d = break_works ws scope (d.at + 1) e d.rest
    break_works (Turn own c ∷ ws) scope place e d =
        let at_end : (exits_of c d.at).past ≡ d.to = past_is c d.stands in
        subst (λ (x : Scope). Works activation x.exits.past [] ws) (sym d.is) (works d.outer (subst (λ n. Does d.outer activation n ws) (sym at_end) d.rest))
    break_works (Close block ∷ ws) scope place e d = absurd (not_both scope.loop d.no_loop e)
    break_works (Back own ∷ ws) scope place e d = absurd (not_both scope.loop d.last.no_loop e)
    break_works (Pend own c around ∷ ws) scope place e d = absurd d
    break_works (Given value own c around ∷ ws) scope place e d = absurd d
    break_works (Leave ∷ ws) scope place e d = absurd (not_both scope.loop d.last.no_loop e)
    break_works (End own ∷ ws) scope place e d = absurd (not_both scope.loop d.no_loop e)

    -- it goes on with its next part
    pub continue_works : (ws : List Work) (scope : Scope) (place : ℕ) → scope.loop ≡ true → Does scope activation place ws → Works activation scope.exits.turn [] (at_turn ws)
    continue_works [] scope place e d = absurd d
    continue_works (Do own c ∷ ws) scope place e d = continue_works ws scope d.to e d.rest
    continue_works (CallOff own level slot ∷ ws) scope place e d = continue_works ws scope (d.at + 1) e d.rest
    continue_works (Turn own c ∷ ws) scope place e d =
        works scope (record {
          at = d.at;
          to = d.to;
          outer = d.outer;
          is = d.is;
          jumps = subst (λ (x : Scope). Jumps code x.exits.turn (exits_of c d.at).turn) (sym d.is) here;
          stands = d.stands;
          form = d.form;
          own_is = d.own_is;
          rest = d.rest;
        })
    continue_works (Close block ∷ ws) scope place e d = absurd (not_both scope.loop d.no_loop e)
    continue_works (Back own ∷ ws) scope place e d = absurd (not_both scope.loop d.last.no_loop e)
    continue_works (Pend own c around ∷ ws) scope place e d = absurd d
    continue_works (Given value own c around ∷ ws) scope place e d = absurd d
    continue_works (Leave ∷ ws) scope place e d = absurd (not_both scope.loop d.last.no_loop e)
    continue_works (End own ∷ ws) scope place e d = absurd (not_both scope.loop d.no_loop e)

    -- the next part of a loop, and then the loop again
    turn_does : (c : Command) (ws : List Work) (outer : Scope) (x : Command-F Command) {place at to : ℕ} → Placed code (command_step (pieces_of x)) outer.exits at to
        → placed_step (tests_of x) (round_of outer) ≡ true →
        Jumps code place (exits_in (pieces_of x) at).turn → Does outer activation at (Do activation.frame c ∷ ws)
        → Does outer activation place (before activation.frame (next_in x) (Do activation.frame c ∷ ws))
    turn_does c ws outer (Command-F.For test next body) {at = at} h f j d =
        let head = test_code test ((body_code body).size + ((body_code next).size + 1)) in
        let parts = loop_at code at_next head (body_code body) (body_code next) (test_sized test ((body_code body).size + ((body_code next).size + 1))) (body_sized body) (body_sized next) h in
        let again = jumps_do outer (Do activation.frame c ∷ ws) (jump parts.back here) d in
        let forms = both_true (are_well_formed body (in_loop (round_of outer))) (are_well_formed next (round_of outer)) f in
        jumps_do outer (before activation.frame next (Do activation.frame c ∷ ws)) j (before_does next (Do activation.frame c ∷ ws) outer forms.1 parts.next_at again)
    turn_does c ws outer x h f j d = jumps_do outer (Do activation.frame c ∷ ws) j d

    pub ahead_does : {scope : Scope} {place : ℕ} (c : Command) (ws : List Work) (d : Does scope activation place (Turn activation.frame c ∷ ws))
        → Does d.outer activation place (before activation.frame (next_part c) (Do activation.frame c ∷ ws))
    ahead_does c ws d =
        turn_does c ws d.outer (out-Command c) (subst (λ p. Placed code p d.outer.exits d.at d.to) (code_by_form c) d.stands)
        (parts_by_form c (round_of d.outer) d.form).1 d.jumps
        (record { at = d.at; to = d.to; jumps = here; stands = d.stands; form = d.form; own_is = refl; rest = d.rest })

  -- ---- blocks

  mutual
    -- the work tells which blocks the thread has entered
    does_closes : (scope : Scope) (activation : Activation) (place : ℕ) (ws : List Work) → Does scope activation place ws → closes ws ≡ activation.entered
    does_closes scope activation place [] d = absurd d
    does_closes scope activation place (Do own c ∷ ws) d = does_closes scope activation d.to ws d.rest
    does_closes scope activation place (Pend own c around ∷ ws) d = absurd d
    does_closes scope activation place (Given value own c around ∷ ws) d = absurd d
    does_closes scope activation place (CallOff own level slot ∷ ws) d = does_closes scope activation (d.at + 1) ws d.rest
    does_closes scope activation place (Turn own c ∷ ws) d = does_closes d.outer activation d.to ws d.rest
    does_closes scope activation place (Close block ∷ ws) d = ap (λ bs. block ∷ bs) (does_closes d.outer (within activation d.below) d.to ws d.rest) ∙ sym d.entered
    does_closes scope activation place (Back own ∷ ws) d = sleeps_closes (called activation d.caller.frame d.others) d.caller.place d.caller.operands ws d.rest
    does_closes scope activation place (Leave ∷ ws) d = ap closes d.nothing ∙ sym d.entered
    does_closes scope activation place (End own ∷ ws) d = ap closes d.nothing ∙ sym d.entered

    pub sleeps_closes : (activation : Activation) (place : ℕ) (operands : List Cell) (ws : List Work) → Sleeps activation place operands ws → closes ws ≡ activation.entered
    sleeps_closes activation place operands (Pend own c around ∷ ws) d =
        let tail = taken_at code around place operands (λ to count. TailAt d.scope c to count (λ past. Does d.scope activation past ws)) d.waits in
        does_closes d.scope activation tail.2.to ws tail.2.rest
    sleeps_closes activation place operands ws d = absurd d

  pub works_closes : (activation : Activation) (place : ℕ) (operands : List Cell) (ws : List Work) → Works activation place operands ws → closes ws ≡ activation.entered
  works_closes activation place _ ws (works scope d) = does_closes scope activation place ws d
  works_closes activation place _ _ (wakes {below} {ws} value own c around d) = sleeps_closes activation place below (Pend own c around ∷ ws) d

  -- the innermost block of a thread, and those round it
  pub record InBlock (activation : Activation) : Type 0 where
    pub block : BlockId
    pub others : List BlockId
    pub is : activation.entered ++ activation.around ≡ block ∷ others

  -- a place in a `do` of its function is in a block
  pub does_in_block : (scope : Scope) (activation : Activation) (place : ℕ) (ws : List Work) → scope.block ≡ true → Does scope activation place ws → InBlock activation
  does_in_block scope activation place [] e d = absurd d
  does_in_block scope activation place (Do own c ∷ ws) e d = does_in_block scope activation d.to ws e d.rest
  does_in_block scope activation place (CallOff own level slot ∷ ws) e d = does_in_block scope activation (d.at + 1) ws e d.rest
  does_in_block scope activation place (Turn own c ∷ ws) e d = does_in_block d.outer activation d.to ws (ap (λ (x : Scope). x.block) (sym d.is) ∙ e) d.rest
  does_in_block scope activation place (Close block ∷ ws) e d = record { block = block; others = d.below ++ activation.around; is = ap (λ bs. bs ++ activation.around) d.entered }
  does_in_block scope activation place (Back own ∷ ws) e d = absurd (not_both scope.block d.last.no_block e)
  does_in_block scope activation place (Pend own c around ∷ ws) e d = absurd d
  does_in_block scope activation place (Given value own c around ∷ ws) e d = absurd d
  does_in_block scope activation place (Leave ∷ ws) e d = absurd (not_both scope.block d.last.no_block e)
  does_in_block scope activation place (End own ∷ ws) e d = record { block = d.block; others = d.others; is = ap (λ bs. bs ++ activation.around) d.entered ∙ d.around }
