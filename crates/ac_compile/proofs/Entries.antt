-- The functions of a program in their places: the table of its code, in which each function begins with its shape.
-- The table has the points of each function after those of the one before it; by induction over the functions each stands in it, and each
-- address is fine (Statements).
use Rattle.std.proofs.Common.{◌≡◌, ℕ, zero, suc, ◌+◌, ◌<◌, inl, inr, List, [], ◌∷◌, ◌++◌, length, map, Bool, true, false, Option, Some, None, refl, sym, ap, ◌∙◌, subst, arith, append_assoc}
use Rattle.std.proofs.Common.{length-append}
use Rattle.std.specs.Prelude.{slice_get, pos}
use Rattle.std.specs.Option.{unwrap_or}
use Rattle.std.proofs.Math.Seq.{get_or-append_seam}
use Rattle.std.proofs.lemmas.List.{length-map}
use Rattle.std.proofs.lemmas.Option.{slice_get-get_or}
use Rattle.ac_commands.specs.declared.command.Command.{Command}
use Rattle.ac_commands.specs.declared.program.Function.{Function}
use Rattle.ac_commands.specs.declared.program.Resolved.{Resolved}
use Rattle.stack_code.specs.declared.instr.Instr.TheVariants as i
use Rattle.stack_code.specs.declared.parts.Entered.{Entered}
use Rattle.stack_code.specs.declared.shape.CellKind.TheVariants as kind
use Rattle.stack_code.specs.declared.shape.Home.{Home}
use Rattle.stack_code.specs.declared.shape.Home.TheVariants as home
use Rattle.stack_code.specs.declared.shape.Leads.TheVariants.{Stop, One}
use Rattle.stack_code.specs.declared.shape.Shape.{Shape}
use Rattle.stack_code.specs.Parts.{Parts}
use Rattle.stack_code.specs.Shapes.{first, params_in}
use Rattle.ac_compile.proofs.StepAt.{IsStep}
use Rattle.ac_resolve.specs.InPlace.{Use, AsInt, AsReference, use_of, Round, NoReferences, in_function, no_test, some_test, IsFunction}
use Rattle.ac_resolve.specs.InPlace.{IsCommand, nothing, set, clear, run, print, if_alone, if_else, while_loop, for_loop, leave, go_on, give, do_finish, start, cancel, yield, AreCommands}
use Rattle.ac_resolve.specs.InPlace.{no_command, one_command}
use Rattle.ac_translation.specs.Pieces.{Exits, Piece, one, ◌⨾◌}
use Rattle.ac_translation.specs.Translation.{command_code, body_code, last_code, function_code, functions_code, functions_from, no_exits}
use Rattle.ac_translation.proofs.Sized.{one_sized, body_sized, function_sized}
use Rattle.ac_translation.proofs.Placed.{Placed, first_part, other_part}
use Rattle.ac_compile.proofs.Forms.{nothing_form, set_form, clear_form, run_form, print_form, if_alone_form, if_else_form, while_form, for_form, break_form, continue_form, return_form}
use Rattle.ac_compile.proofs.Forms.{do_form, async_form, cancel_form, yield_form}
use Rattle.ac_compile.proofs.Frames.{shape_of}
use Rattle.ac_compile.proofs.Points.{Point, point, Table, Stands, first_stand, other_stand, ShapeAt, shape_there, uses_in, is_reference, AreCalled, IsStart, next_led, one_led, fine_as, no_range}
use Rattle.ac_compile.proofs.Points.{Range, one_range, both_ranges, Fit}
use Rattle.ac_compile.proofs.Known.{Belongs, Knows, entered_as}
use Rattle.ac_compile.proofs.Statements.{IsAround, no_array, commands_fit}

-- ---- the first address

module _ (code : Parts) (program : Resolved) where
  abbrev Stands_at : Piece → Exits → ℕ → ℕ → Type 0
  Stands_at p exits place to = Placed code.instrs p exits place to

  as_form : (p q : Piece) (exits : Exits) (place to : ℕ) → p ≡ q → Stands_at p exits place to → Stands_at q exits place to
  as_form p q exits place to e h = subst (λ x. Stands_at x exits place to) e h

  command_steps : (r : Round) (x : Command) → IsCommand program r x → (exits : Exits) (place to : ℕ) → Stands_at (command_code x) exits place to → IsStep code place
  command_steps _ _ (nothing r) exits place to h = (as_form _ _ exits place to nothing_form h).has.0
  command_steps _ _ (set r target value x y) exits place to h = (as_form _ _ exits place to (set_form target value) h).has.0
  command_steps _ _ (clear r slot len x y) exits place to h = (as_form _ _ exits place to (clear_form slot len) h).has.0
  command_steps _ _ (run r value x) exits place to h = (as_form _ _ exits place to (run_form value) h).has.0
  command_steps _ _ (print r text args format e n x) exits place to h = (as_form _ _ exits place to (print_form text args) h).has.0
  command_steps _ _ (if_alone r test body x y) exits place to h = (as_form _ _ exits place to (if_alone_form test body) h).has.0
  command_steps _ _ (if_else r test body other x y z) exits place to h = (as_form _ _ exits place to (if_else_form test body other) h).has.0
  command_steps _ _ (while_loop r test body x y) exits place to h = (as_form _ _ exits place to (while_form test body) h).has.0
  command_steps _ _ (for_loop r _ next body no_test y z) exits place to h = (as_form _ _ exits place to (for_form None next body) h).has.0
  command_steps _ _ (for_loop r _ next body (some_test test x) y z) exits place to h = (as_form _ _ exits place to (for_form (Some test) next body) h).has.0
  command_steps _ _ (leave r e) exits place to h = (as_form _ _ exits place to break_form h).has.0
  command_steps _ _ (go_on r e) exits place to h = (as_form _ _ exits place to continue_form h).has.0
  command_steps _ _ (give r value e x) exits place to h = (as_form _ _ exits place to (return_form value) h).has.0
  command_steps _ _ (do_finish r slot body x e y) exits place to h = (as_form _ _ exits place to (do_form slot body) h).has.0
  command_steps _ _ (start r uses body e n y) exits place to h = (as_form _ _ exits place to (async_form (length uses) body) h).has.0
  command_steps _ _ (cancel r level slot lt e) exits place to h = (as_form _ _ exits place to (cancel_form level slot) h).has.0
  command_steps _ _ (yield r) exits place to h = (as_form _ _ exits place to yield_form h).has.0

  -- a function begins with a `Step`, or is at its end
  body_starts : (r : Round) (body : List Command) → AreCommands program r body → (exits : Exits) (place to : ℕ) → Stands_at (body_code body ⨾ last_code) exits place to → IsStart code place
  body_starts _ _ (no_command r) exits place to h =
      let end : place + 0 ≡ place = omega arith in
      let last = subst (λ n. Stands_at last_code exits n to) end (other_part code.instrs (body_code []) last_code (body_sized []) h) in
      inr (last.has.0, last.has.1.0)
  body_starts _ _ (one_command r x xs y ys) exits place to h =
      inl (command_steps r x y exits place (place + (command_code x).size) (first_part code.instrs (command_code x) (body_code xs) (first_part code.instrs (body_code (x ∷ xs)) last_code h)))

-- ---- one function

abbrev pub uses_of : (program : Resolved) (f : Function) → IsFunction program f → List Use
uses_of program f d = map use_of f.params ++ d.others

pub uses_many : (program : Resolved) (f : Function) (d : IsFunction program f) → length (uses_of program f d) ≡ f.slots
uses_many program f d = length-append (map use_of f.params) d.others ∙ ap (λ n. n + length d.others) (length-map f.params use_of) ∙ sym d.slots

abbrev pub AreFunctions : Resolved → List Function → Type 0
AreFunctions program [] = Unit {0}
AreFunctions program (f ∷ fs) = IsFunction program f × AreFunctions program fs

unfoldable pub all_uses : (program : Resolved) (fs : List Function) → AreFunctions program fs → List (List Use)
all_uses program [] d = []
all_uses program (f ∷ fs) d = uses_of program f d.0 ∷ all_uses program fs d.1

-- the parameters are the references where they are arrays
arrays_are : (params : List Bool) (others : List Use) → NoReferences others → (slot : ℕ) (held : Use) → slice_get (map use_of params ++ others) slot ≡ Some held
    → unwrap_or (slice_get params slot) false ≡ is_reference held
arrays_are [] others n slot held e = no_array others slot held n e
arrays_are (true ∷ params) others n zero held e = let same : AsReference ≡ held = cc in ap is_reference same
arrays_are (false ∷ params) others n zero held e = let same : AsInt ≡ held = cc in ap is_reference same
arrays_are (p ∷ params) others n (suc slot) held e = arrays_are params others n slot held e

module _ (code : Parts) (program : Resolved) (m : Belongs code program) where
  -- the function with that number
  module _ (number : ℕ) (f : Function) (d : IsFunction program f) where
    abbrev homes : List Home
    homes = home.Function number ∷ []

    abbrev round : Round
    round = in_function (uses_of program f d)

    abbrev bare : Shape
    bare = shape_of homes round.frames []

    abbrev with_int : Shape
    with_int = shape_of homes round.frames (kind.Int ∷ [])

    outermost : IsAround round
    outermost = record { some = omega arith; opened = λ e. absurd cc; closed = λ e. (refl, refl) }

    body_fit : Fit code (Knows code homes round.frames) None bare bare (body_code f.body)
    body_fit = commands_fit code program m homes round outermost f.body d.body

    abbrev size : ℕ
    size = (body_code f.body).size

    pub function_points : ℕ → List Point
    function_points place = body_fit.points place ++ (point bare ∷ point with_int ∷ [])

    pub function_long : (place : ℕ) → length (function_points place) ≡ (function_code f).size
    unfolding function_points
    function_long place = length-append (body_fit.points place) (point bare ∷ point with_int ∷ []) ∙ omega (arith, body_fit.long place)

    -- the body and the end in the table
    record Own (t : Table) (place : ℕ) : Type 0 where
      body_stands : Stands t.points place (body_fit.points place)
      at_end : ShapeAt t (place + size) bare
      at_return : ShapeAt t (place + size + 1) with_int

    owns : (t : Table) (place : ℕ) → Stands t.points place (function_points place) → Own t place
    unfolding function_points
    owns t place h =
        let end = point bare ∷ point with_int ∷ [] in
        let last = other_stand t.points place (place + size) (body_fit.points place) end (ap (λ n. place + n) (body_fit.long place)) h in
        record {
          body_stands = first_stand t.points place (body_fit.points place) end h;
          at_end = shape_there t (place + size) (point bare) last.0;
          at_return = shape_there t (place + size + 1) (point with_int) last.1.0;
        }

    function_begins : (t : Table) (place : ℕ) → Stands t.points place (function_points place) → ShapeAt t place bare
    function_begins t place h = let l = owns t place h in body_fit.begins t place (place + size) l.body_stands refl l.at_end

    pub function_fine : (t : Table) (place to : ℕ) → Placed code.instrs (function_code f) no_exits place to → Stands t.points place (function_points place) → Knows code homes round.frames t
        → Range code t place to
    function_fine t place to p h k =
        let l = owns t place h in
        let body = first_part code.instrs (body_code f.body) last_code p in
        let last = other_part code.instrs (body_code f.body) last_code (body_sized f.body) p in
        let return = other_part code.instrs (one (i.Push (pos 0))) (one i.Ret) (one_sized (i.Push (pos 0))) last in
        let end_at = place + size in
        both_ranges code t place end_at to (body_fit.fine t no_exits place end_at body l.body_stands l.at_end k tt)
        (both_ranges code t end_at (end_at + 1) to
        (one_range code t end_at (end_at + 1) refl
        (fine_as code t end_at (i.Push (pos 0)) bare (One (end_at + 1) with_int) last.has.0 l.at_end refl tt
        (one_led code t end_at (end_at + 1) with_int (next_led code t end_at with_int l.at_return))))
        (one_range code t (end_at + 1) to return.ends (fine_as code t (end_at + 1) i.Ret with_int Stop return.has.0 l.at_return refl tt (λ n u q. absurd q))))

    -- the shape at its first address
    begins_as : (at : ℕ) → bare ≡ first number (entered_as f at)
    begins_as at = ap (λ n. record { bodies = (record { home = home.Function number; slots = n }) ∷ []; blocks = []; operands = [] }) (uses_many program f d)

    pub knows_own : (t : Table) (at : ℕ) → AreCalled code t → slice_get code.functions number ≡ Some (entered_as f at) → slice_get t.functions number ≡ Some (uses_of program f d)
        → Knows code homes round.frames t
    knows_own t at c e u = record {
      called = c;
      agree = (
        record {
          uses = ap uses_in u;
          arrays = λ slot held h. ap (λ o. unwrap_or (slice_get (params_in o) slot) false) e ∙ arrays_are f.params d.others d.own slot held h;
        },
        tt,
      );
    }

  -- ---- all functions, from one on

  pub all_points : ℕ → ℕ → (fs : List Function) → AreFunctions program fs → List Point
  all_points number place [] d = []
  all_points number place (f ∷ fs) d = function_points number f d.0 place ++ all_points (suc number) (place + (function_code f).size) fs d.1

  all_long : (number place : ℕ) (fs : List Function) (d : AreFunctions program fs) → length (all_points number place fs d) ≡ (functions_code fs).size
  unfolding all_points
  all_long number place [] d = refl
  all_long number place (f ∷ fs) d =
      length-append (function_points number f d.0 place) (all_points (suc number) (place + (function_code f).size) fs d.1)
      ∙ omega (arith, function_long number f d.0 place, all_long (suc number) (place + (function_code f).size) fs d.1)

  -- the first of the functions, and the others, in the table
  module _ (t : Table) (number place : ℕ) (f : Function) (fs : List Function) (d : AreFunctions program (f ∷ fs)) (h : Stands t.points place (all_points number place (f ∷ fs) d)) where
    pub first_stands : Stands t.points place (function_points number f d.0 place)
    unfolding all_points
    first_stands = first_stand t.points place (function_points number f d.0 place) (all_points (suc number) (place + (function_code f).size) fs d.1) h

    pub others_stand : Stands t.points (place + (function_code f).size) (all_points (suc number) (place + (function_code f).size) fs d.1)
    unfolding all_points
    others_stand =
        other_stand t.points place (place + (function_code f).size) (function_points number f d.0 place) (all_points (suc number) (place + (function_code f).size) fs d.1)
        (ap (λ n. place + n) (function_long number f d.0 place)) h

  called_here : (t : Table) (number place to k : ℕ) (fs : List Function) (d : AreFunctions program fs) → Placed code.instrs (functions_code fs) no_exits place to
      → Stands t.points place (all_points number place fs d) → (e : Entered) → slice_get (functions_from place fs) k ≡ Some e →
      ShapeAt t e.at (first (number + k) e) × IsStart code e.at
  called_here t number place to k [] d p h e at = let no : ◌≡◌ {A = Option Entered} None (Some e) = at in cc
  called_here t number place to zero (f ∷ fs) d p h e at =
      let same : entered_as f place ≡ e = cc in
      let n : number ≡ number + 0 = omega arith in
      let body = first_part code.instrs (function_code f) (functions_code fs) p in
      subst (λ (x : Entered). ShapeAt t x.at (first (number + 0) x) × IsStart code x.at) same (
        subst (λ k. ShapeAt t place (first k (entered_as f place))) n
            (subst (ShapeAt t place) (begins_as number f d.0 place) (function_begins number f d.0 t place (first_stands t number place f fs d h))),
        body_starts code program (in_function (uses_of program f d.0)) f.body d.0.body no_exits place (place + (function_code f).size) body,
      )
  called_here t number place to (suc k) (f ∷ fs) d p h e at =
      let next = place + (function_code f).size in
      let n : suc number + k ≡ number + suc k = omega arith in
      let rest = called_here t (suc number) next to k fs d.1 (other_part code.instrs (function_code f) (functions_code fs) (function_sized f) p) (others_stand t number place f fs d h) e at in
      (subst (λ x. ShapeAt t e.at (first x e)) n rest.0, rest.1)

  all_fine : (t : Table) (number place to : ℕ) (fs : List Function) (d : AreFunctions program fs) → Placed code.instrs (functions_code fs) no_exits place to
      → Stands t.points place (all_points number place fs d) → AreCalled code t → ((k : ℕ) → slice_get code.functions (number + k) ≡ slice_get (functions_from place fs) k)
      → ((k : ℕ) → slice_get t.functions (number + k) ≡ slice_get (all_uses program fs d) k) →
      Range code t place to
  unfolding all_uses
  all_fine t number place to [] d p h c e u = no_range code t place to (let ends = p.ends in omega (arith, ends))
  all_fine t number place to (f ∷ fs) d p h c e u =
      let next = place + (function_code f).size in
      let n : number + 0 ≡ number = omega arith in
      let own = subst (λ k. slice_get code.functions k ≡ Some (entered_as f place)) n (e 0) in
      let held = subst (λ k. slice_get t.functions k ≡ Some (uses_of program f d.0)) n (u 0) in
      both_ranges code t place next to
      (function_fine number f d.0 t place next (first_part code.instrs (function_code f) (functions_code fs) p) (first_stands t number place f fs d h) (knows_own number f d.0 t place c own held))
      (all_fine t (suc number) next to fs d.1 (other_part code.instrs (function_code f) (functions_code fs) (function_sized f) p) (others_stand t number place f fs d h) c
      (λ k. let m : number + suc k ≡ suc number + k = omega arith in subst (λ x. slice_get code.functions x ≡ slice_get (functions_from next fs) k) m (e (suc k)))
      (λ k. let m : number + suc k ≡ suc number + k = omega arith in subst (λ x. slice_get t.functions x ≡ slice_get (all_uses program fs d.1) k) m (u (suc k))))

  -- ---- the whole table

  stand_all : (ps pre : List Point) → Stands (pre ++ ps) (length pre) ps
  stand_all [] pre = tt
  stand_all (p ∷ ps) pre =
      let within : length pre < length (pre ++ p ∷ ps) = omega (arith, length-append pre (p ∷ ps)) in
      let here = slice_get-get_or (pre ++ p ∷ ps) (length pre) p within ∙ ap Some (get_or-append_seam pre p ps p) in
      let n : length (pre ++ p ∷ []) ≡ length pre + 1 = omega (arith, length-append pre (p ∷ [])) in
      let rest = stand_all ps (pre ++ p ∷ []) in
      let rest' = subst (λ l. Stands l (length (pre ++ p ∷ [])) ps) (append_assoc pre (p ∷ []) ps) rest in
      (here, subst (λ k. Stands (pre ++ p ∷ ps) k ps) n rest')

  abbrev pub table : (fs : List Function) → AreFunctions program fs → Table
  table fs d = record { points = all_points 0 0 fs d; functions = all_uses program fs d }

  module _ (fs : List Function) (d : AreFunctions program fs) (p : Placed code.instrs (functions_code fs) no_exits 0 (length code.instrs)) (functions_are : code.functions ≡ functions_from 0 fs) where
    pub all_stand : Stands (all_points 0 0 fs d) 0 (all_points 0 0 fs d)
    all_stand = stand_all (all_points 0 0 fs d) []

    pub table_long : length (table fs d).points ≡ (functions_code fs).size
    table_long = all_long 0 0 fs d

    pub table_called : AreCalled code (table fs d)
    table_called number e at =
        let n : 0 + number ≡ number = omega arith in
        let c = called_here (table fs d) 0 0 (length code.instrs) number fs d p all_stand e (ap (λ (xs : List Entered). slice_get xs number) (sym functions_are) ∙ at) in
        (subst (λ k. ShapeAt (table fs d) e.at (first k e)) n c.0, c.1)

    pub table_fine : Range code (table fs d) 0 (length code.instrs)
    table_fine =
        all_fine (table fs d) 0 0 (length code.instrs) fs d p all_stand table_called
        (λ k. let n : 0 + k ≡ k = omega arith in ap (λ (xs : List Entered). slice_get xs (0 + k)) functions_are ∙ ap (slice_get (functions_from 0 fs)) n)
        (λ k. let n : 0 + k ≡ k = omega arith in ap (slice_get (all_uses program fs d)) n)
