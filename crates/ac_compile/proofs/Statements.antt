-- The code of a statement begins and ends with no operand, whatever is round it, and each of its addresses is fine.
-- By induction on the statement as it is in place. What is round it is left open: frames, blocks, and the shape at the exits of a loop,
-- where one is.
use Rattle.std.proofs.Common.{◌≡◌, ℕ, suc, ◌+◌, ◌<◌, inl, List, [], ◌∷◌, ◌++◌, length, map, Bool, true, false, Option, Some, None, refl, sym, ap, ◌∙◌, subst, arith, lt-ltb, eq-eqb, length-append}
use Rattle.std.specs.Prelude.{slice_get, pos}
use Rattle.ac_types.specs.Formats.{HasHoles}
use Rattle.ac_commands.specs.declared.value.Value.{Value}
use Rattle.ac_commands.specs.declared.command.Target.{Target}
use Rattle.ac_commands.specs.declared.command.Command.{Command}
use Rattle.ac_commands.specs.declared.program.Resolved.{Resolved}
use Rattle.stack_code.specs.declared.instr.Instr.{Instr}
use Rattle.stack_code.specs.declared.instr.Instr.TheVariants as i
use Rattle.stack_code.specs.declared.shape.CellKind.{CellKind}
use Rattle.stack_code.specs.declared.shape.CellKind.TheVariants as kind
use Rattle.stack_code.specs.declared.shape.Home.{Home}
use Rattle.stack_code.specs.declared.shape.Home.TheVariants as home
use Rattle.stack_code.specs.declared.shape.Leads.TheVariants.{Stop, One, Two}
use Rattle.stack_code.specs.declared.shape.Shape.{Shape}
use Rattle.stack_code.specs.Parts.{Parts}
use Rattle.stack_code.specs.Shapes.{effect, entered, directives_in}
use Rattle.ac_compile.proofs.StepAt.{IsStep}
use Rattle.ac_resolve.specs.InPlace.{Use, AsInt, AsReference, AsBlock, FrameRound, Round, NoReferences, Holds, HoldInts, HasSlots, is_entered, with_entered, in_loop, in_block, in_body}
use Rattle.ac_resolve.specs.InPlace.{global, local, AnInt, IsValue, IsTest, no_test, some_test, IsTarget, to_variable, to_element}
use Rattle.ac_resolve.specs.InPlace.{IsCommand, nothing, set, clear, run, print, if_alone, if_else, while_loop, for_loop, leave, go_on, give, do_finish, start, cancel, yield, AreCommands}
use Rattle.ac_resolve.specs.InPlace.{no_command, one_command}
use Rattle.ac_translation.specs.Pieces.{Exits, Piece, no_code, one, ◌⨾◌, all, over, out_past, out_turn}
use Rattle.ac_translation.specs.Translation.{value_code, values_code, target_code, if_code, test_code, at_loop, at_next, operand_code, command_code, body_code}
use Rattle.ac_translation.proofs.Sized.{IsSized, one_sized, over_sized, both_sized, after_one}
use Rattle.ac_translation.proofs.Placed.{Placed, first_part, other_part}
use Rattle.ac_compile.proofs.Directives.{directives_are}
use Rattle.ac_compile.proofs.Forms.{nothing_form, set_form, clear_form, run_form, print_form, if_alone_form, if_else_form, while_form, for_form, break_form, continue_form, return_form}
use Rattle.ac_compile.proofs.Forms.{do_form, async_form, cancel_form, yield_form}
use Rattle.ac_compile.proofs.Frames.{bodies_of, bodies_length, body_here, blocks_of, shape_of, entered_at, entered_shape, some_entered, entered_length, no_own, body_there}
use Rattle.ac_compile.proofs.Points.{Point, point, Table, Stands, first_stand, other_stand, ShapeAt, shape_there, starts_there, is_reference, AllAgree, next_led, one_led, two_led, IsLed, fine_as}
use Rattle.ac_compile.proofs.Points.{one_range, both_ranges, exit_led, Does, Fit, no_fit, one_fit, both_fit, alone_fit, same_fit, past_fit, turn_fit, known_fit}
use Rattle.ac_compile.proofs.Turns.{either, Branches, branch_fine, skip_fit, either_fit, IsHead, loop_turn, next_turn, loop_fit}
use Rattle.ac_compile.proofs.Known.{Belongs, Knows, ints_well, one_int, slot_in, uses_well}
use Rattle.ac_compile.proofs.Values.{ints, ints_taken, push_fit, indexed_fit, int_fit, ints_fit}

-- a statement stands in a frame, in a block that is entered if any is, and else directly in the body of a function
pub record IsAround (r : Round) : Type 0 where
  pub some : 0 < length r.frames
  pub opened : r.block ≡ true → 0 < length (blocks_of r.frames)
  pub closed : r.block ≡ false → (length r.frames ≡ 1) × (blocks_of r.frames ≡ [])

loop_around : (r : Round) → IsAround r → IsAround (in_loop r)
loop_around r a = record { some = a.some; opened = a.opened; closed = a.closed }

block_around : (slot : ℕ) (r : Round) → IsAround r → IsAround (in_block slot r)
block_around slot r a = record {
  some = let n = entered_length r.frames slot in omega (arith, n, a.some);
  opened = λ e. some_entered r.frames slot a.some;
  closed = λ e. absurd cc;
}

body_around : (uses : List Use) (r : Round) → IsAround r → r.block ≡ true → IsAround (in_body uses r)
body_around uses r a e = record { some = omega arith; opened = λ f. a.opened e; closed = λ f. absurd cc }

-- the shape at the exits of the loop, where one is round the statement
abbrev pub exit_of : Bool → Shape → Option Shape
exit_of true s = Some s
exit_of false s = None

pub no_array : (uses : List Use) (slot : ℕ) (held : Use) → NoReferences uses → slice_get uses slot ≡ Some held → false ≡ is_reference held
no_array uses slot AsInt n e = refl
no_array uses slot AsReference n e = absurd (n slot e)
no_array uses slot AsBlock n e = refl

module _ (code : Parts) where
  agree_entered : (t : Table) (homes : List Home) (frames : List FrameRound) (slot : ℕ) → AllAgree code t homes frames → AllAgree code t homes (with_entered slot frames)
  agree_entered t homes [] slot h = tt
  agree_entered t homes (f ∷ frames) slot h = (record { uses = h.0.uses; arrays = h.0.arrays }, h.1)

  knows_entered : (homes : List Home) (r : Round) (slot : ℕ) (t : Table) → Knows code homes r.frames t → Knows code homes (with_entered slot r.frames) t
  knows_entered homes r slot t k = record { called = k.called; agree = agree_entered t homes r.frames slot k.agree }

  module _ (homes : List Home) (r : Round) (w : IsAround r) where
    abbrev K : Table → Type 0
    K = Knows code homes r.frames

    abbrev shape : List CellKind → Shape
    shape kinds = shape_of homes r.frames kinds

    -- no operand
    abbrev bare : Shape
    bare = shape []

    abbrev around : Option Shape
    around = exit_of r.loop bare

    -- a statement, and what stands for one
    abbrev Runs : Piece → Type 0
    Runs piece = Fit code K around bare bare piece

    abbrev Makes : List CellKind → List CellKind → Piece → Type 0
    Makes before after piece = Fit code K around (shape before) (shape after) piece

    abbrev int_alone : List CellKind
    int_alone = kind.Int ∷ []

    step_does : (s : Shape) → Does code K i.Step s s
    step_does s = record { finds = λ t k at. refl; used = λ t k. tt }

    step_fit : (s : Shape) → Fit code K around s s (one i.Step)
    step_fit s = one_fit code K around i.Step s s (step_does s)

    then_fit : (x y z : List CellKind) (a b : Piece) → Makes x y a → Makes y z b → Makes x z (a ⨾ b)
    then_fit x y z a b f g = both_fit code K around (shape x) (shape y) (shape z) a b f g

    after_step : (after : List CellKind) (b : Piece) → Makes [] after b → Makes [] after (one i.Step ⨾ b)
    after_step after b f = then_fit [] [] after (one i.Step) b (step_fit bare) f

    -- operands are pushed, and then used
    use_fit : (kinds : List CellKind) (a b : Piece) → Makes [] kinds a → Makes kinds [] b → Runs (one i.Step ⨾ a ⨾ b)
    use_fit kinds a b f g = after_step [] (a ⨾ b) (then_fit [] kinds [] a b f g)

    plainly : (instr : Instr) (before after : List CellKind) → Does code K instr (shape before) (shape after) → Makes before after (one instr)
    plainly instr before after d = one_fit code K around instr (shape before) (shape after) d

    same : (p q : Piece) → p ≡ q → Runs q → Runs p
    same p q e f = same_fit code K around bare bare p q e f

    -- ---- jumps out of a loop

    leaves : r.loop ≡ true → Runs (one i.Step ⨾ out_past)
    leaves e = after_step [] out_past (subst (λ inside. Fit code K (exit_of inside bare) bare bare out_past) (sym e) (past_fit code K bare bare))

    goes_on : r.loop ≡ true → Runs (one i.Step ⨾ out_turn)
    goes_on e = after_step [] out_turn (subst (λ inside. Fit code K (exit_of inside bare) bare bare out_turn) (sym e) (turn_fit code K bare bare))

    -- ---- slots

    clear_does : (slot len : ℕ) → HasSlots r 0 slot len → HoldInts r 0 slot len → Does code K (i.Clear slot len) bare bare
    clear_does slot len le h = record {
      finds = λ t k at. rw (body_there homes r.frames [] 0 slot len w.some le) refl;
      used = λ t k. ints_well code homes r 0 slot len w.some h t k [];
    }

    cancel_does : (level slot : ℕ) → level < length r.frames → is_entered r level slot ≡ true → Does code K (i.Cancel level slot) bare bare
    cancel_does level slot lt e = record {
      finds = λ t k at. rw (body_here homes r.frames level lt, entered_at homes r.frames [] level slot lt ∙ e) refl;
      used = λ t k. tt;
    }

    -- ---- the end of a function

    ret_fit : (v : Shape) → r.block ≡ false → Fit code K around (shape int_alone) v (one i.Ret)
    ret_fit v e =
        let outside = w.closed e in
        record {
          sized = one_sized i.Ret;
          points = λ place. point (shape int_alone) ∷ [];
          long = λ place. refl;
          begins = λ t place to h ends f. shape_there t place (point (shape int_alone)) h.0;
          fine = λ t exits place to h d f k x.
              one_range code t place to h.ends
              (fine_as code t place i.Ret (shape int_alone) Stop h.has.0 (shape_there t place (point (shape int_alone)) d.0) (rw (bodies_length homes r.frames, outside.0, outside.1) refl) tt
              (λ n u l. absurd l));
        }

    -- ---- blocks

    abbrev inside : ℕ → Shape
    inside slot = entered slot bare

    enter_does : (slot : ℕ) → Holds r 0 slot AsBlock → is_entered r 0 slot ≡ false → Does code K (i.Enter slot) bare (inside slot)
    enter_does slot h e = record {
      finds = λ t k at. rw (body_there homes r.frames [] 0 slot 1 w.some (slot_in code homes r 0 slot AsBlock h), entered_at homes r.frames [] 0 slot w.some ∙ e) refl;
      used = λ t k. uses_well code homes r 0 slot AsBlock w.some h t k [];
    }

    finish_does : (slot : ℕ) → Does code K (i.Finish slot) (inside slot) bare
    finish_does slot = record { finds = λ t k at. rw (eq-eqb (length (bodies_of homes r.frames)) (length (bodies_of homes r.frames)) refl, eq-eqb slot slot refl) refl; used = λ t k. tt }

    do_fit : (slot : ℕ) (body : Piece) → Holds r 0 slot AsBlock → is_entered r 0 slot ≡ false
        → Fit code (Knows code homes (with_entered slot r.frames)) None (shape_of homes (with_entered slot r.frames) []) (shape_of homes (with_entered slot r.frames) []) body →
        Runs (one i.Step ⨾ one (i.Enter slot) ⨾ body ⨾ one i.Step ⨾ one (i.Finish slot))
    do_fit slot body h e f =
        let s = inside slot in
        let own = known_fit code K (Knows code homes (with_entered slot r.frames)) None _ _ body (knows_entered homes r slot) f in
        let same_shape : s ≡ shape_of homes (with_entered slot r.frames) [] = entered_shape homes r.frames [] slot w.some in
        let own_body : Fit code K None s s body = subst (λ u. Fit code K None u u body) (sym same_shape) own in
        let last = both_fit code K None s s bare (one i.Step) (one (i.Finish slot)) (one_fit code K None i.Step s s (step_does s)) (one_fit code K None (i.Finish slot) s bare (finish_does slot)) in
        let rest = both_fit code K None s s bare body (one i.Step ⨾ one (i.Finish slot)) own_body last in
        let whole = both_fit code K None bare s bare (one (i.Enter slot)) (body ⨾ one i.Step ⨾ one (i.Finish slot)) (one_fit code K None (i.Enter slot) bare s (enter_does slot h e)) rest in
        after_step [] (one (i.Enter slot) ⨾ body ⨾ one i.Step ⨾ one (i.Finish slot)) (alone_fit code K around bare bare (one (i.Enter slot) ⨾ body ⨾ one i.Step ⨾ one (i.Finish slot)) whole)

    -- ---- async bodies

    module _ (uses : List Use) (body : Piece) (e : r.block ≡ true) (n : NoReferences uses) where
      abbrev frame : FrameRound
      frame = record { uses = uses; entered = [] }

      abbrev within : Home → Shape
      within h = shape_of (h ∷ homes) (frame ∷ r.frames) []

      abbrev Known : Home → Table → Type 0
      Known h = Knows code (h ∷ homes) (frame ∷ r.frames)

      own_point : Point
      own_point = record { shape = bare; starts = uses }

      start_finds : (at to : ℕ) → effect code at (i.Async (length uses) to) bare ≡ Some (Two (at + 1) (within (home.Async at)) to bare)
      start_finds at to = rw (lt-ltb 0 (length (blocks_of r.frames)) (w.opened e)) refl

      end_finds : (at : ℕ) (h : Home) → effect code at i.End (within h) ≡ Some Stop
      end_finds at h =
          let many : 1 < suc (length r.frames) = let some = w.some in omega (arith, some) in
          rw (no_own (h ∷ homes) uses r.frames [], bodies_length homes r.frames, lt-ltb 1 (suc (length r.frames)) many) refl

      knows_within : (t : Table) (place : ℕ) → K t → slice_get t.points place ≡ Some own_point → Known (home.Async place) t
      unfolding own_point
      knows_within t place k d = record {
        called = k.called;
        agree = (record { uses = starts_there t place own_point d; arrays = λ slot held h. no_array uses slot held n h }, k.agree);
      }

      module _ (f : (h : Home) → Fit code (Known h) None (within h) (within h) body) where
        abbrev jump : ℕ → Instr
        jump = i.Async (length uses)

        abbrev rest : Piece
        rest = body ⨾ one i.End

        own_points : ℕ → List Point
        own_points place = own_point ∷ (f (home.Async place)).points (place + 1) ++ (point (within (home.Async place)) ∷ [])

        -- the body, and its end, in the table
        record Own (t : Table) (place : ℕ) : Type 0 where
          first : slice_get t.points place ≡ Some own_point
          body_stands : Stands t.points (place + 1) ((f (home.Async place)).points (place + 1))
          at_end : ShapeAt t (place + 1 + body.size) (within (home.Async place))

        owns : (t : Table) (place : ℕ) → Stands t.points place (own_points place) → Own t place
        unfolding own_points
        owns t place d =
            let h = home.Async place in
            let last = point (within h) ∷ [] in
            let end = other_stand t.points (place + 1) (place + 1 + body.size) ((f h).points (place + 1)) last (ap (λ k. place + 1 + k) ((f h).long (place + 1))) d.1 in
            record {
              first = d.0;
              body_stands = first_stand t.points (place + 1) ((f h).points (place + 1)) last d.1;
              at_end = shape_there t (place + 1 + body.size) (point (within h)) end.0;
            }

        own_long : (place : ℕ) → length (own_points place) ≡ 1 + (body.size + 1)
        unfolding own_points
        own_long place =
            let h = home.Async place in
            omega (arith, (f h).long (place + 1), length-append ((f h).points (place + 1)) (point (within h) ∷ []))

        bare_first : (t : Table) (place : ℕ) → slice_get t.points place ≡ Some own_point → ShapeAt t place bare
        unfolding own_point
        bare_first t place d = shape_there t place own_point d

        async_fit : Fit code K around bare bare (over jump (body.size + 1) ⨾ rest)
        async_fit = record {
          sized = both_sized (over jump (body.size + 1)) rest (over_sized jump (body.size + 1)) (both_sized body (one i.End) (f (home.Function 0)).sized (one_sized i.End));
          points = own_points;
          long = own_long;
          begins = λ t place to d ends u. bare_first t place (owns t place d).first;
          fine = λ t exits place to p d u k x.
              let h = home.Async place in
              let l = owns t place d in
              let later = other_part code.instrs (over jump (body.size + 1)) rest (over_sized jump (body.size + 1)) p in
              let end = other_part code.instrs body (one i.End) (f h).sized later in
              let ends = end.ends in
              let out : place + 1 + (body.size + 1) ≡ to = omega (arith, ends) in
              let here = subst (λ j. slice_get code.instrs place ≡ Some (jump j)) out p.has.0 in
              let end_at = place + 1 + body.size in
              let led : IsLed code t place to bare = record { kept = u; ahead = inl (omega (arith, out)) } in
              let at_body = (f h).begins t (place + 1) end_at l.body_stands refl l.at_end in
              both_ranges code t place (place + 1) to
              (one_range code t place (place + 1) refl
              (fine_as code t place (jump to) bare (Two (place + 1) (within h) to bare) here (bare_first t place l.first) (start_finds place to) tt
              (two_led code t place (place + 1) to (within h) bare (next_led code t place (within h) at_body) led)))
              (both_ranges code t (place + 1) end_at to
              ((f h).fine t exits (place + 1) end_at (first_part code.instrs body (one i.End) later) l.body_stands l.at_end (knows_within t place k l.first) tt)
              (one_range code t end_at to ends (fine_as code t end_at i.End (within h) Stop end.has.0 l.at_end (end_finds end_at h) tt (λ m v q. absurd q))));
        }

    -- ---- tests

    test_branches : Branches code i.Jz (shape int_alone) bare
    test_branches = record { finds = λ at to. refl; used = λ t to. tt }

    if_alone_fit : (test body : Piece) → Makes [] int_alone test → Runs body → Runs (if_code test body None)
    if_alone_fit test body f g =
        after_step [] (test ⨾ over i.Jz body.size ⨾ body)
        (then_fit [] int_alone [] test (over i.Jz body.size ⨾ body) f (skip_fit code K around i.Jz (shape int_alone) bare bare body refl test_branches g))

    if_else_fit : (test body : Piece) (other : List Piece) → Makes [] int_alone test → Runs body → Runs (all other) → Runs (if_code test body (Some other))
    if_else_fit test body other f g h =
        let parts = either i.Jz body (all other) in
        after_step [] (test ⨾ parts) (then_fit [] int_alone [] test parts f (either_fit code K around i.Jz (shape int_alone) bare bare body (all other) test_branches g h))

    abbrev Heads : Piece → ℕ → Type 0
    Heads head count = IsHead code K head count bare

    no_test_head : (count : ℕ) → Heads (one i.Step) count
    no_test_head count =
        let f = one_fit code K None i.Step bare bare (step_does bare) in
        record {
          sized = f.sized;
          points = f.points;
          long = f.long;
          steps = λ exits place to h. h.has.0;
          begins = f.begins;
          fine = λ t exits place to h d e k x. f.fine t exits place to h d e k tt;
        }

    -- the parts of a test
    record Tests (test : Piece) (count : ℕ) (exits : Exits) (place to : ℕ) : Type 0 where
      step : IsStep code place
      value : Placed code.instrs test exits (place + 1) (place + 1 + test.size)
      branch : slice_get code.instrs (place + 1 + test.size) ≡ Some (i.Jz (to + count))
      ends : place + 1 + test.size + 1 ≡ to

    tests : (test : Piece) (count : ℕ) (exits : Exits) (place to : ℕ) → IsSized test → Placed code.instrs (one i.Step ⨾ test ⨾ over i.Jz count) exits place to → Tests test count exits place to
    tests test count exits place to z h =
        let last = over i.Jz count in
        let part = other_part code.instrs (one i.Step) (test ⨾ last) (one_sized i.Step) h in
        let end = other_part code.instrs test last z part in
        record {
          step = (first_part code.instrs (one i.Step) (test ⨾ last) h).has.0;
          value = first_part code.instrs test last part;
          branch = subst (λ n. slice_get code.instrs (place + 1 + test.size) ≡ Some (i.Jz (n + count))) end.ends end.has.0;
          ends = end.ends;
        }

    module _ (test : Piece) (count : ℕ) (f : Fit code K None bare (shape int_alone) test) where
      test_points : ℕ → List Point
      test_points place = point bare ∷ f.points (place + 1) ++ (point (shape int_alone) ∷ [])

      test_long : (place : ℕ) → length (test_points place) ≡ 1 + (test.size + 1)
      unfolding test_points
      test_long place = omega (arith, f.long (place + 1), length-append (f.points (place + 1)) (point (shape int_alone) ∷ []))

      -- the shapes of a test
      record Tested (t : Table) (place : ℕ) : Type 0 where
        at_step : ShapeAt t place bare
        value_stands : Stands t.points (place + 1) (f.points (place + 1))
        at_value : ShapeAt t (place + 1) bare
        at_branch : ShapeAt t (place + 1 + test.size) (shape int_alone)

      tested : (t : Table) (place : ℕ) → Stands t.points place (test_points place) → Tested t place
      unfolding test_points
      tested t place d =
          let middle = place + 1 + test.size in
          let last = point (shape int_alone) ∷ [] in
          let value_stands = first_stand t.points (place + 1) (f.points (place + 1)) last d.1 in
          let end = other_stand t.points (place + 1) middle (f.points (place + 1)) last (ap (λ n. place + 1 + n) (f.long (place + 1))) d.1 in
          let at_branch = shape_there t middle (point (shape int_alone)) end.0 in
          record {
            at_step = shape_there t place (point bare) d.0;
            value_stands = value_stands;
            at_value = f.begins t (place + 1) middle value_stands refl at_branch;
            at_branch = at_branch;
          }

      some_test_head : Heads (one i.Step ⨾ test ⨾ over i.Jz count) count
      some_test_head = record {
        sized = after_one i.Step _ (both_sized test (over i.Jz count) f.sized (over_sized i.Jz count));
        points = test_points;
        long = test_long;
        steps = λ exits place to h. (tests test count exits place to f.sized h).step;
        begins = λ t place to d ends e. (tested t place d).at_step;
        fine = λ t exits place to h d e k x.
            let parts = tests test count exits place to f.sized h in
            let l = tested t place d in
            let ends = parts.ends in
            let middle = place + 1 + test.size in
            both_ranges code t place (place + 1) to
            (one_range code t place (place + 1) refl
            (fine_as code t place i.Step bare (One (place + 1) bare) parts.step l.at_step refl tt (one_led code t place (place + 1) bare (next_led code t place bare l.at_value))))
            (both_ranges code t (place + 1) middle to
            (f.fine t exits (place + 1) middle parts.value l.value_stands l.at_branch k tt)
            (one_range code t middle to ends
            (branch_fine code t i.Jz middle (to + count) (shape int_alone) bare test_branches parts.branch l.at_branch (subst (λ n. ShapeAt t n bare) (sym ends) e)
            (exit_led code t middle to (to + count) bare (omega (arith, ends)) x))));
      }

module _ (code : Parts) (program : Resolved) (m : Belongs code program) where
  -- ---- what has no statement in it

  module _ (homes : List Home) (r : Round) (w : IsAround r) where
    abbrev outside : Option Shape
    outside = around code homes r w

    value_makes : (x : Value) → IsValue program r AnInt x → Makes code homes r w [] (kind.Int ∷ []) (value_code x)
    value_makes x h = int_fit code homes r program m x h [] outside

    target_makes : (x : Target) → IsTarget program r x → Makes code homes r w (kind.Int ∷ []) [] (target_code x)
    target_makes _ (to_variable _ (global slot lt)) =
        plainly code homes r w (i.StoreG slot) (kind.Int ∷ []) [] (record { finds = λ t k at. rw (m.globals, lt-ltb slot program.slots lt) refl; used = λ t k. tt })
    target_makes _ (to_variable _ (local level slot lt h)) =
        plainly code homes r w (i.Store level slot) (kind.Int ∷ []) []
        (record {
          finds = λ t k at. rw (body_there homes r.frames (kind.Int ∷ []) level slot 1 lt (slot_in code homes r level slot AsInt h)) refl;
          used = λ t k. ints_well code homes r level slot 1 lt (one_int code homes r level slot h) t k (kind.Int ∷ []);
        })
    target_makes _ (to_element array index x y) =
        indexed_fit code homes r program m array (value_code index) i.SetElem (kind.Int ∷ []) [] x (int_fit code homes r program m index y)
        (record { finds = λ t k at. refl; used = λ t k. tt }) outside

    operand_makes : (x : Option Value) → IsTest program r x → Makes code homes r w [] (kind.Int ∷ []) (operand_code x)
    operand_makes _ no_test = push_fit code homes r program m (pos 0) [] outside
    operand_makes _ (some_test test x) = value_makes test x

    print_does : (text : ℕ) (args : List Value) (format : List ℕ) → slice_get program.texts text ≡ Some format → HasHoles format (length args)
        → Does code (K code homes r w) (i.Print text (length args)) (shape code homes r w (ints (length args) [])) (shape code homes r w [])
    print_does text args format e h = record {
      finds = λ t k at. rw (m.texts, e, eq-eqb (length args) (directives_in format) (directives_are format (length args) h), ints_taken (length args) []) refl;
      used = λ t k. tt;
    }

    head_is : (test : Option Value) → IsTest program r test → (count : ℕ) → Heads code homes r w (test_code test count) count
    head_is _ no_test count = no_test_head code homes r w count
    head_is _ (some_test test x) count = some_test_head code homes r w (value_code test) count (int_fit code homes r program m test x [] None)

  -- ---- statements

  -- By the form of a statement, with the laws above for its parts; the bodies of loops, blocks and `async` are in another round.
  mutual
    pub command_fit : (homes : List Home) (r : Round) (w : IsAround r) (x : Command) → IsCommand program r x → Runs code homes r w (command_code x)
    command_fit homes _ w _ (nothing r) = same code homes r w _ _ nothing_form (step_fit code homes r w (bare code homes r w))
    command_fit homes _ w _ (set r target value x y) =
        same code homes r w _ _ (set_form target value)
        (use_fit code homes r w (kind.Int ∷ []) (value_code value) (target_code target) (value_makes homes r w value y) (target_makes homes r w target x))
    command_fit homes _ w _ (clear r slot len x y) =
        same code homes r w _ _ (clear_form slot len) (after_step code homes r w [] (one (i.Clear slot len)) (plainly code homes r w (i.Clear slot len) [] [] (clear_does code homes r w slot len x y)))
    command_fit homes _ w _ (run r value x) =
        same code homes r w _ _ (run_form value)
        (use_fit code homes r w (kind.Int ∷ []) (value_code value) (one i.Drop) (value_makes homes r w value x)
        (plainly code homes r w i.Drop (kind.Int ∷ []) [] (record { finds = λ t k at. refl; used = λ t k. tt })))
    command_fit homes _ w _ (print r text args format e h x) =
        same code homes r w _ _ (print_form text args)
        (use_fit code homes r w (ints (length args) []) (values_code args) (one (i.Print text (length args))) (ints_fit code homes r program m args x [] (outside homes r w))
        (plainly code homes r w (i.Print text (length args)) (ints (length args) []) [] (print_does homes r w text args format e h)))
    command_fit homes _ w _ (if_alone r test body x y) =
        same code homes r w _ _ (if_alone_form test body) (if_alone_fit code homes r w (value_code test) (body_code body) (value_makes homes r w test x) (commands_fit homes r w body y))
    command_fit homes _ w _ (if_else r test body other x y z) =
        same code homes r w _ _ (if_else_form test body other)
        (if_else_fit code homes r w (value_code test) (body_code body) (map command_code other) (value_makes homes r w test x) (commands_fit homes r w body y) (commands_fit homes r w other z))
    command_fit homes _ w _ (while_loop r test body x y) =
        same code homes r w _ _ (while_form test body)
        (loop_fit code (K code homes r w) (outside homes r w) at_loop (bare code homes r w) (test_code (Some test) ((body_code body).size + 1)) (body_code body) no_code
        (loop_turn code (K code homes r w))
        (head_is homes r w (Some test) (some_test test x) ((body_code body).size + 1))
        (commands_fit homes (in_loop r) (loop_around r w) body y) (no_fit code (K code homes r w) (outside homes r w) (bare code homes r w)))
    command_fit homes _ w _ (for_loop r test next body x y z) =
        let count = (body_code body).size + ((body_code next).size + 1) in
        same code homes r w _ _ (for_form test next body)
        (loop_fit code (K code homes r w) (outside homes r w) at_next (bare code homes r w) (test_code test count) (body_code body) (body_code next) (next_turn code (K code homes r w))
        (head_is homes r w test x count) (commands_fit homes (in_loop r) (loop_around r w) body z) (commands_fit homes r w next y))
    command_fit homes _ w _ (leave r e) = same code homes r w _ _ break_form (leaves code homes r w e)
    command_fit homes _ w _ (go_on r e) = same code homes r w _ _ continue_form (goes_on code homes r w e)
    command_fit homes _ w _ (give r value e x) =
        same code homes r w _ _ (return_form value)
        (use_fit code homes r w (kind.Int ∷ []) (operand_code value) (one i.Ret) (operand_makes homes r w value x) (ret_fit code homes r w (bare code homes r w) e))
    command_fit homes _ w _ (do_finish r slot body h e y) =
        same code homes r w _ _ (do_form slot body) (do_fit code homes r w slot (body_code body) h e (commands_fit homes (in_block slot r) (block_around slot r w) body y))
    command_fit homes _ w _ (start r uses body e n y) =
        same code homes r w _ _ (async_form (length uses) body)
        (after_step code homes r w [] (over (i.Async (length uses)) ((body_code body).size + 1) ⨾ body_code body ⨾ one i.End)
        (async_fit code homes r w uses (body_code body) e n (λ h. commands_fit (h ∷ homes) (in_body uses r) (body_around uses r w e) body y)))
    command_fit homes _ w _ (cancel r level slot lt e) =
        same code homes r w _ _ (cancel_form level slot)
        (after_step code homes r w [] (one (i.Cancel level slot)) (plainly code homes r w (i.Cancel level slot) [] [] (cancel_does code homes r w level slot lt e)))
    command_fit homes _ w _ (yield r) =
        same code homes r w _ _ yield_form (after_step code homes r w [] (one i.Yield) (plainly code homes r w i.Yield [] [] (record { finds = λ t k at. refl; used = λ t k. tt })))

    pub commands_fit : (homes : List Home) (r : Round) (w : IsAround r) (xs : List Command) → AreCommands program r xs → Runs code homes r w (body_code xs)
    commands_fit homes _ w _ (no_command r) = no_fit code (K code homes r w) (outside homes r w) (bare code homes r w)
    commands_fit homes _ w _ (one_command r x xs h hs) = then_fit code homes r w [] [] [] (command_code x) (body_code xs) (command_fit homes r w x h) (commands_fit homes r w xs hs)
