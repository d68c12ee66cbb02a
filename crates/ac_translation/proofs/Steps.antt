-- A step of a thread, and the instructions that do it.
-- The step of a statement, the values of its operands (Values), and its effect (Statements) are put together, in whichever activation the
-- work stands. Where an operand stops, the work waits with its contexts, and goes on from there when the value comes.
use Rattle.std.proofs.Common.{◌≡◌, ℕ, ◌+◌, ◌≤◌, List, [], ◌∷◌, ◌++◌, length, Some, None, Bool, true, false, refl, sym, ◌∙◌, subst, arith, append-nil}
use Rattle.std.specs.Prelude.{slice_get, pos, nat_lt, if◌then◌else◌}
use Rattle.ac_base.specs.declared.ends.EndWord.TheVariants.{OutOfSteps}
use Rattle.work_item.specs.declared.ids.FrameId.{FrameId}
use Rattle.work_item.specs.declared.cell.Cell.{Cell}
use Rattle.work_item.specs.declared.cell.Cell.TheVariants as cell
use Rattle.ac_commands.specs.declared.value.Value.{Value}
use Rattle.ac_commands.specs.declared.command.Command.{Command, out-Command}
use Rattle.ac_commands.specs.declared.command.Command.TheOpen.{Command-F}
use Rattle.ac_commands.specs.declared.program.Resolved.{Resolved}
use Rattle.ac_semantics.specs.Evaluation.{Head, Acting, Ending, Context, Evaluated, Stops, row_goes}
use Rattle.ac_semantics.specs.Held.{Held, stepped, seen_of}
use Rattle.ac_semantics.specs.Work.{Work, Do, Pend, Given, CallOff, Turn, Close, Back, Leave, End, before, next_part}
use Rattle.ac_semantics.specs.Statements.{Next, Ends, Dies, operands_of, returns, finish, settles, does, if_step, next_at, next_of}
use Rattle.ac_semantics.specs.Threads.{CoreState}
use Rattle.stack_code.specs.declared.instr.Instr.{Instr}
use Rattle.stack_code.specs.declared.instr.Instr.TheVariants as i
use Rattle.stack_code.specs.Parts.{Parts}
use Rattle.code_meaning.specs.Machine.{Flat}
use Rattle.ac_translation.specs.Pieces.{Exits, one}
use Rattle.ac_translation.specs.Translation.{values_code, command_step, command_code}
use Rattle.ac_translation.proofs.WellFormed.{all_fit, is_well_formed, IsWellFormed}
use Rattle.ac_translation.proofs.Sized.{one_sized}
use Rattle.ac_translation.proofs.Placed.{Placed, here, other_part}
use Rattle.ac_translation.proofs.Functions.{IsCodeOf}
use Rattle.ac_translation.proofs.Keeps.{within, Around, SameBirths, FollowsAt, KeepsAt, keeps, one_follows, ends_follows, jumps_follow}
use Rattle.ac_translation.proofs.Contexts.{HeadAt, Waits}
use Rattle.ac_translation.proofs.Values.{resumes_on, operands_follow}
use Rattle.ac_translation.proofs.Works.{Scope, round_of, pieces_of, code_by_form, parts_by_form, LastAt, TailAt, Does, Works, works, wakes, Relates, ahead_does}
use Rattle.ac_translation.proofs.Turns.{Turns}
use Rattle.ac_translation.proofs.Calls.{acts_follow, returns_follow}
use Rattle.ac_translation.proofs.Statements.{size_of, operands_at, FinishesAt, form_finishes}

-- each form of a statement begins with its step
step_at : (code : List Instr) (x : Command-F Command) {exits : Exits} {at to : ℕ} → Placed code (command_step (pieces_of x)) exits at to → slice_get code at ≡ Some i.Step
step_at code (Command-F.If test body None) h = h.has.0
step_at code (Command-F.If test body (Some other)) h = h.has.0
step_at code (Command-F.For None next body) h = h.has.0
step_at code (Command-F.For (Some test) next body) h = h.has.0
step_at code x h = h.has.0

-- The relation holds wherever the code stands that does the work, in whichever activation of the thread.
module _ (code : Parts) (program : Resolved) (same : IsCodeOf code program) (fine : IsWellFormed program) (bound : ℕ) (R : CoreState → Flat → Type 0) (a : Around) (c : CoreState)
    (stands : Relates code.instrs R a c)
    (turns : Turns code bound R a c) where
  abbrev At : Held → ℕ → List Cell → Next → Type 0
  At s place operands next = KeepsAt code bound R a c s place operands next

  abbrev DoesAt : Scope → ℕ → List Work → Type 0
  DoesAt scope place ws = Does code.instrs scope a.activation place ws

  abbrev WorksAt : ℕ → List Cell → List Work → Type 0
  WorksAt place operands ws = Works code.instrs a.activation place operands ws

  abbrev Born : Held → Type 0
  Born s = SameBirths c.held s

  -- ---- a statement in a state that no expression changes

  some_finish : (s : Held) (place : ℕ) (values : List Cell) (next : Next) → 1 ≤ length values → FinishesAt code program same fine bound R a c stands turns s place values next →
      FollowsAt code bound R a c s place values next
  some_finish s place [] next some f = absurd (omega (arith, some))
  some_finish s place (x ∷ values) next some f = f

  module _ (x : Command) (ws : List Work) (scope : Scope) (s : Held) (b : Born s) where
    -- the operands have come to their end
    abbrev Last : ℕ → ℕ → Type 0
    Last place count = TailAt code.instrs scope x place count (λ past. DoesAt scope past ws)

    abbrev settle : Evaluated → Next
    settle = settles program x a.activation.frame ws s

    tail_finishes : (values : List Cell) (place count : ℕ) → count ≡ length values → Last place count →
        FinishesAt code program same fine bound R a c stands turns s place values (finish program x values a.activation.frame ws s)
    tail_finishes values place count many t =
        let stands_at = subst (λ p. Placed code.instrs p scope.exits t.at t.to) (code_by_form x) t.stands in
        let form = (parts_by_form x (round_of scope) t.form).1 in
        subst (λ n. FinishesAt code program same fine bound R a c stands turns s n values (finish program x values a.activation.frame ws s)) (sym t.is)
        (form_finishes code program same fine bound R a c stands turns x ws scope s b t.stands t.form t.rest (out-Command x) refl stands_at form values (sym many ∙ t.all))

    stops : (head : Head) (values : List Cell) (around : List Context) (place count : ℕ) (below : List Cell) → count ≡ length values →
        HeadAt code.instrs head place count below (λ to under. Waits code.instrs around to under Last) Last → FollowsAt code bound R a c s place (values ++ below) (settle (Stops head values around))
    stops (Acting action) values around place count below many w =
        acts_follow code program same fine bound R a c stands turns action count x around ws s place values below b w.0 many w.1 (record { own_is = refl; scope = scope; waits = w.2 })
    stops Ending values around place count below many w =
        let some = w.1 in
        subst (λ l. FollowsAt code bound R a c s place (values ++ l) (settle (Stops Ending values around))) (sym w.0)
        (subst (λ l. FollowsAt code bound R a c s place l (settle (Stops Ending values around))) (sym (append-nil values))
        (some_finish s place values (settle (Stops Ending values around)) (omega (arith, some, many)) (tail_finishes values place count many w.2)))

    -- what is round the open place is done with the value that has come
    pub wakes_follow : (around : List Context) (place : ℕ) (below : List Cell) (value : Cell) → Waits code.instrs around place below Last →
        FollowsAt code bound R a c s place (value ∷ below) (next_at program bound (Given value a.activation.frame x around ∷ ws) s)
    wakes_follow around place below value w = resumes_on code bound R a c s settle Last (λ trap. refl) stops around place below w value

    -- its operands are computed, and then it has its effect
    operands_keep : (xs : List Value) → all_fit xs ≡ true → {exits : Exits} {place : ℕ} → Placed code.instrs (values_code xs) exits place (place + size_of xs) → Last (place + size_of xs) (length xs) →
        At s place [] (settle (row_goes s.store a.activation.frame Ending [] xs []))
    operands_keep [] fit {place = place} h last =
        let near : place + 0 ≡ place = omega arith in
        subst (λ n. At s n [] (settle (Stops Ending [] []))) near (tail_finishes [] (place + 0) 0 refl last)
    operands_keep (y ∷ ys) fit h last = keeps code bound R a c (operands_follow code bound R a c s settle Last (λ trap. refl) stops y ys fit h last)

    form_keeps : {at to : ℕ} → Placed code.instrs (command_code x) scope.exits at to → is_well_formed x (round_of scope) ≡ true → DoesAt scope to ws →
        Placed code.instrs (command_step (pieces_of (out-Command x))) scope.exits at to → At s (at + 1) [] (does program x a.activation.frame ws s)
    form_keeps {at} {to} whole form d h =
        operands_keep (operands_of (out-Command x)) (parts_by_form x (round_of scope) form).0 (operands_at code.instrs (out-Command x) h)
        (record { at = at; to = to; stands = whole; form = form; is = refl; all = refl; rest = d })

  -- ---- steps

  step_follows : {at : ℕ} {next : Next} (s : Held) (b : Bool) → nat_lt s.shared.steps bound ≡ b → slice_get code.instrs at ≡ Some i.Step → At (stepped s) (at + 1) [] next →
      FollowsAt code bound R a c s at [] (if_step bound s next)
  step_follows {at} {next} s true t h f =
      subst (λ (b : Bool). FollowsAt code bound R a c s at [] (if b then next else Ends OutOfSteps s)) (sym t) (one_follows code bound R a c i.Step h f (λ k. rw t))
  step_follows {at} {next} s false t h f =
      subst (λ (b : Bool). FollowsAt code bound R a c s at [] (if b then next else Ends OutOfSteps s)) (sym t)
      (ends_follows code bound R a c i.Step (seen_of OutOfSteps false s) (λ k. k) h refl (λ k. rw t))

  do_follows : (own : FrameId) (x : Command) (ws : List Work) (scope : Scope) (place : ℕ) (s : Held) → Born s → DoesAt scope place (Do own x ∷ ws) →
      FollowsAt code bound R a c s place [] (next_at program bound (Do own x ∷ ws) s)
  do_follows own x ws scope place s b d =
      let stands_at = subst (λ p. Placed code.instrs p scope.exits d.at d.to) (code_by_form x) d.stands in
      let run = form_keeps x ws scope (stepped s) b d.stands d.form d.rest stands_at in
      subst (λ (f : FrameId). FollowsAt code bound R a c s place [] (if_step bound s (does program x f ws (stepped s)))) (sym d.own_is)
      (jumps_follow code bound R a c d.jumps (step_follows s (nat_lt s.shared.steps bound) refl (step_at code.instrs (out-Command x) stands_at) run))

  -- statements in front of a loop
  loop_follows : (xs : List Command) (x : Command) (ws : List Work) (scope : Scope) (place : ℕ) (s : Held) → Born s → DoesAt scope place (before a.activation.frame xs (Do a.activation.frame x ∷ ws)) →
      FollowsAt code bound R a c s place [] (next_at program bound (before a.activation.frame xs (Do a.activation.frame x ∷ ws)) s)
  loop_follows [] x ws scope place s b d = do_follows a.activation.frame x ws scope place s b d
  loop_follows (y ∷ ys) x ws scope place s b d = do_follows a.activation.frame y (before a.activation.frame ys (Do a.activation.frame x ∷ ws)) scope place s b d

  -- the end of a function gives 0
  last_follows : (ws : List Work) (scope : Scope) (place : ℕ) (s : Held) → Born s → LastAt code.instrs scope place → DoesAt scope place ws →
      FollowsAt code bound R a c s place [] (returns (pos 0) ws s)
  last_follows ws scope place s b last d =
      let push = one (i.Push (pos 0)) in
      let ret_at = other_part code.instrs push (one i.Ret) (one_sized (i.Push (pos 0))) last.stands in
      let ends = keeps code bound R a c (returns_follow code program same fine bound R a c stands ws scope place last.no_block d s (last.at + 1) (cell.Int (pos 0)) b ret_at.has.0) in
      jumps_follow code bound R a c last.jumps (one_follows code bound R a c (i.Push (pos 0)) last.stands.has.0 ends (λ k. refl))

  -- By what the thread has first: a statement, a turn of a loop, the end of a block, a body or a function.
  does_follows : (ws : List Work) (scope : Scope) (place : ℕ) (s : Held) → Born s → DoesAt scope place ws → FollowsAt code bound R a c s place [] (next_of program bound ws s)
  does_follows [] scope place s b d = absurd d
  does_follows (Do own x ∷ ws) scope place s b d = do_follows own x ws scope place s b d
  does_follows (Pend own x around ∷ ws) scope place s b d = absurd d
  does_follows (Given value own x around ∷ ws) scope place s b d = absurd d
  does_follows (CallOff own level slot ∷ ws) scope place s b d =
      let is = d.own_is in
      let again : DoesAt scope d.at (CallOff a.activation.frame level slot ∷ ws) = record { at = d.at; jumps = here; stands = d.stands; own_is = refl; rest = d.rest } in
      subst (λ (f : FrameId). FollowsAt code bound R a c s place [] (next_of program bound (CallOff f level slot ∷ ws) s)) (sym is)
      (jumps_follow code bound R a c d.jumps
      (turns.cancels level slot s d.at (CallOff a.activation.frame level slot ∷ ws) ws b d.stands (works scope again) (works scope d.rest)))
  does_follows (Turn own x ∷ ws) scope place s b d =
      let is = d.own_is in
      let here_at : DoesAt scope place (Turn a.activation.frame x ∷ ws) = subst (λ (f : FrameId). DoesAt scope place (Turn f x ∷ ws)) is d in
      subst (λ (f : FrameId). FollowsAt code bound R a c s place [] (next_of program bound (Turn f x ∷ ws) s)) (sym is)
      (loop_follows (next_part x) x ws here_at.outer place s b (ahead_does code.instrs a.activation x ws here_at))
  does_follows (Close block ∷ ws) scope place s b d =
      let finish_at = other_part code.instrs (one i.Step) (one (i.Finish d.slot)) (one_sized i.Step) d.stands in
      let after = subst (λ n. Does code.instrs d.outer (within a.activation d.below) n ws) (sym finish_at.ends) d.rest in
      jumps_follow code bound R a c d.jumps (step_follows s (nat_lt s.shared.steps bound) refl d.stands.has.0
      (keeps code bound R a c (turns.arrives d.slot (stepped s) (d.at + 1) block d.below ws b finish_at.has.0 d.entered (works d.outer after))))
  does_follows (Back own ∷ ws) scope place s b d = last_follows (Back own ∷ ws) scope place s b d.last d
  does_follows (Leave ∷ ws) scope place s b d = last_follows (Leave ∷ ws) scope place s b d.last d
  does_follows (End own ∷ ws) scope place s b d =
      subst (λ (f : FrameId). FollowsAt code bound R a c s place [] (Dies f s)) (sym d.own_is)
      (jumps_follow code bound R a c d.jumps (turns.dies s d.at d.block d.others b d.stands d.entered d.around))

  -- the machine is where the thread is, and follows its next step
  pub next_follows : (ws : List Work) (place : ℕ) (operands : List Cell) (s : Held) → Born s → WorksAt place operands ws → FollowsAt code bound R a c s place operands (next_of program bound ws s)
  next_follows ws place _ s b (works scope d) = does_follows ws scope place s b d
  next_follows _ place _ s b (wakes {below} {ws} value own x around d) =
      subst (λ (f : FrameId). FollowsAt code bound R a c s place (value ∷ below) (next_at program bound (Given value f x around ∷ ws) s)) (sym d.own_is)
      (wakes_follow x ws d.scope s b around place below value d.waits)
