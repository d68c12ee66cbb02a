-- Whatever is reached in the code of a program lies among the instructions of the function whose body is the outermost one round it: what
-- is said of a function's addresses holds as well where the table says nothing of any other address.
-- The table is masked but for one function and for where functions begin; the addresses of that function are still fine, so by induction on
-- how an address is reached it is in the masked table.
use Rattle.std.proofs.Common.{◌≡◌, ℕ, zero, suc, ◌+◌, ◌<◌, ◌≤◌, ◌⊎◌, inl, inr, ⊎_elim, List, [], ◌∷◌, length}
use Rattle.std.proofs.Common.{Bool, true, false, Option, Some, None, refl, sym, ap, ◌∙◌, subst, arith, le-leb, lt-ltb, eq-eqb}
use Rattle.std.specs.Prelude.{slice_get, slice_index_or, nat_eq, nat_le, nat_lt, ◌&&◌, ◌||◌, if◌then◌else◌}
use Rattle.std.proofs.lemmas.Bool.{eqb-true, leb-true, ltb-true}
use Rattle.std.proofs.lemmas.Option.{slice_get-get_or}
use Rattle.ac_commands.specs.declared.program.Function.{Function}
use Rattle.ac_commands.specs.declared.program.Resolved.{Resolved}
use Rattle.stack_code.specs.declared.parts.Entered.{Entered}
use Rattle.stack_code.specs.declared.shape.Home.{Home}
use Rattle.stack_code.specs.declared.shape.Home.TheVariants as home
use Rattle.stack_code.specs.declared.shape.Shape.{Shape}
use Rattle.stack_code.specs.Parts.{Parts}
use Rattle.stack_code.specs.Shapes.{first, LeadsTo}
use Rattle.stack_code.specs.Valid.{Fits, Reaches, begins, goes}
use Rattle.stack_code.proofs.Shaped.{leads_as}
use Rattle.code_safety.specs.KeptEnds.{outermost}
use Rattle.code_safety.proofs.OwnFunction.{Stays, within, into, called, stays, still_outermost}
use Rattle.ac_resolve.specs.InPlace.{IsFunction}
use Rattle.ac_translation.specs.Translation.{function_code, functions_code, functions_from, no_exits}
use Rattle.ac_translation.proofs.Sized.{function_sized}
use Rattle.ac_translation.proofs.Placed.{Placed, first_part, other_part}
use Rattle.ac_compile.proofs.Points.{Point, point, Table, Stands, ShapeAt, shape_there, shape_within, one_shape, AreCalled, Range}
use Rattle.ac_compile.proofs.Known.{Belongs, entered_as}
use Rattle.ac_compile.proofs.Entries.{uses_of, AreFunctions, all_uses, all_points, function_points, function_long, function_fine, knows_own, first_stands, others_stand}

-- ---- tables that say nothing of some addresses

-- no body is round it
abbrev nowhere : Point
nowhere = point (record { bodies = []; blocks = []; operands = [] })

pub masked : (ℕ → Bool) → ℕ → List Point → List Point
masked keep at [] = []
masked keep at (p ∷ ps) = (if keep at then p else nowhere) ∷ masked keep (suc at) ps

kept : (keep : ℕ → Bool) (ps : List Point) (at k : ℕ) (p : Point) → slice_get ps k ≡ Some p → keep (at + k) ≡ true → slice_get (masked keep at ps) k ≡ Some p
unfolding masked
kept keep [] at k p e h = let no : ◌≡◌ {A = Option Point} None (Some p) = e in cc
kept keep (q ∷ ps) at zero p e h =
    let same : at + 0 ≡ at = omega arith in
    ap (λ b. Some (if b then q else nowhere)) (ap keep (sym same) ∙ h) ∙ e
kept keep (q ∷ ps) at (suc k) p e h =
    let same : at + suc k ≡ suc at + k = omega arith in
    kept keep ps (suc at) k p e (ap keep (sym same) ∙ h)

gone : (keep : ℕ → Bool) (ps : List Point) (at k : ℕ) (p : Point) → slice_get (masked keep at ps) k ≡ Some p → keep (at + k) ≡ false → nowhere ≡ p
unfolding masked
gone keep [] at k p e h = let no : ◌≡◌ {A = Option Point} None (Some p) = e in cc
gone keep (q ∷ ps) at zero p e h =
    let same : at + 0 ≡ at = omega arith in
    let both : Some nowhere ≡ Some p = ap (λ b. Some (if b then q else nowhere)) (sym (ap keep (sym same) ∙ h)) ∙ e in
    cc
gone keep (q ∷ ps) at (suc k) p e h =
    let same : at + suc k ≡ suc at + k = omega arith in
    gone keep ps (suc at) k p e (ap keep (sym same) ∙ h)

stands_kept : (keep : ℕ → Bool) (ps : List Point) (place : ℕ) (qs : List Point) → Stands ps place qs → ((at : ℕ) → place ≤ at → at < place + length qs → keep at ≡ true)
    → Stands (masked keep 0 ps) place qs
stands_kept keep ps place [] h k = tt
stands_kept keep ps place (q ∷ qs) h k =
    let same : 0 + place ≡ place = omega arith in (
      kept keep ps 0 place q h.0 (ap keep same ∙ k place (omega arith) (omega arith)),
      stands_kept keep ps (place + 1) qs h.1 (λ at le lt. k at (omega (arith, le)) (omega (arith, lt))),
    )

module _ (keep : ℕ → Bool) (t : Table) where
  abbrev other : Table
  other = record t { points = masked keep 0 t.points }

  point_at : (u : Table) (at : ℕ) (s : Shape) → ShapeAt u at s → (p : Point) × ((slice_get u.points at ≡ Some p) × (p.shape ≡ s))
  point_at u at s h =
      let p = slice_index_or u.points at nowhere in
      let e = slice_get-get_or u.points at nowhere (shape_within u at s h) in
      (p, (e, one_shape u at p.shape s (shape_there u at p e) h))

  shape_kept : (at : ℕ) (s : Shape) → ShapeAt t at s → keep at ≡ true → ShapeAt other at s
  shape_kept at s h e =
      let same : 0 + at ≡ at = omega arith in
      let p = point_at t at s h in
      subst (ShapeAt other at) p.1.1 (shape_there other at p.0 (kept keep t.points 0 at p.0 p.1.0 (ap keep same ∙ e)))

  shape_gone : (at : ℕ) (s : Shape) → ShapeAt other at s → keep at ≡ false → [] ≡ s.bodies
  shape_gone at s h e =
      let same : 0 + at ≡ at = omega arith in
      let p = point_at other at s h in
      ap (λ (q : Point). q.shape.bodies) (gone keep t.points 0 at p.0 p.1.0 (ap keep same ∙ e)) ∙ ap (λ (u : Shape). u.bodies) p.1.1

-- ---- the addresses of a function, and those where functions begin

abbrev starts : List Entered → ℕ → Bool
starts [] at = false
starts (f ∷ fs) at = nat_eq f.at at || starts fs at

abbrev keeps : ℕ → ℕ → List Entered → ℕ → Bool
keeps from to fs at = (nat_le from at && nat_lt at to) || starts fs at

or_later : (a b : Bool) → b ≡ true → (a || b) ≡ true
or_later true b e = refl
or_later false b e = e

or_sooner : (a b : Bool) → a ≡ true → (a || b) ≡ true
or_sooner true b e = refl
or_sooner false b e = absurd (cc)

begun_at : (fs : List Entered) (k : ℕ) (f : Entered) → slice_get fs k ≡ Some f → starts fs f.at ≡ true
begun_at [] k f e = let no : ◌≡◌ {A = Option Entered} None (Some f) = e in cc
begun_at (g ∷ fs) zero f e =
    let same : g ≡ f = cc in
    or_sooner (nat_eq g.at f.at) (starts fs f.at) (eq-eqb g.at f.at (ap (λ (x : Entered). x.at) same))
begun_at (g ∷ fs) (suc k) f e = or_later (nat_eq g.at f.at) (starts fs f.at) (begun_at fs k f e)

-- a function begins there
record Begun (fs : List Entered) (at : ℕ) : Type 0 where
  number : ℕ
  function : Entered
  is : slice_get fs number ≡ Some function
  here : function.at ≡ at

begun_by : (fs : List Entered) (at : ℕ) → starts fs at ≡ true → Begun fs at
begun_by [] at h = absurd (cc)
begun_by (f ∷ fs) at h = by (nat_eq f.at at) refl h (λ k. begun_by fs at k) where
  by : (b : Bool) → nat_eq f.at at ≡ b → (b || starts fs at) ≡ true → (starts fs at ≡ true → Begun fs at) → Begun (f ∷ fs) at
  by true e h later = record { number = 0; function = f; is = refl; here = eqb-true f.at at e }
  by false e h later = let r = later h in record { number = suc r.number; function = r.function; is = r.is; here = r.here }

keeps_inside : (from to : ℕ) (fs : List Entered) (at : ℕ) → from ≤ at → at < to → keeps from to fs at ≡ true
keeps_inside from to fs at le lt = rw (le-leb from at le, lt-ltb at to lt) refl

keeps_why : (from to : ℕ) (fs : List Entered) (at : ℕ) → keeps from to fs at ≡ true → ((from ≤ at) × (at < to)) ⊎ Begun fs at
keeps_why from to fs at h = by (nat_le from at) (nat_lt at to) refl refl h where
  by : (a b : Bool) → nat_le from at ≡ a → nat_lt at to ≡ b → ((a && b) || starts fs at) ≡ true → ((from ≤ at) × (at < to)) ⊎ Begun fs at
  by true true e f h = inl (leb-true from at e, ltb-true at to f)
  by true false e f h = inr (begun_by fs at h)
  by false b e f h = inr (begun_by fs at h)

-- ---- a function in the table of the whole code

one_on : (n j : ℕ) → suc n + j ≡ n + suc j
one_on n j = omega arith

module _ (code : Parts) (program : Resolved) (m : Belongs code program) where
  pub record Section (t : Table) (number : ℕ) : Type 0 where
    pub function : Function
    pub there : slice_get program.functions number ≡ Some function
    pub in_place : IsFunction program function
    pub place : ℕ
    pub own : slice_get code.functions number ≡ Some (entered_as function place)
    pub held : slice_get t.functions number ≡ Some (uses_of program function in_place)
    pub placed : Placed code.instrs (function_code function) no_exits place (place + (function_code function).size)
    pub stands : Stands t.points place (function_points code program m number function in_place place)

  -- the functions from one on
  -- By induction over the functions: the first is the one that is asked for, or the others are, one address range further.
  pub section_from : (t : Table) (number place to k : ℕ) (fs : List Function) (d : AreFunctions program fs) → Placed code.instrs (functions_code fs) no_exits place to
      → Stands t.points place (all_points code program m number place fs d) → ((j : ℕ) → slice_get program.functions (number + j) ≡ slice_get fs j)
      → ((j : ℕ) → slice_get code.functions (number + j) ≡ slice_get (functions_from place fs) j) → ((j : ℕ) → slice_get t.functions (number + j) ≡ slice_get (all_uses program fs d) j)
      → (e : Entered) → slice_get code.functions (number + k) ≡ Some e → Section t (number + k)
  unfolding all_uses
  section_from t number place to k [] d p h i c u e is = absurd (let no : ◌≡◌ {A = Option Entered} None (Some e) = sym (c k) ∙ is in cc)
  section_from t number place to zero (f ∷ fs) d p h i c u e is =
      let n : number ≡ number + 0 = omega arith in
      record {
        function = f;
        there = i 0;
        in_place = d.0;
        place = place;
        own = c 0;
        held = u 0;
        placed = first_part code.instrs (function_code f) (functions_code fs) p;
        stands = subst (λ k. Stands t.points place (function_points code program m k f d.0 place)) n (first_stands code program m t number place f fs d h);
      }
  section_from t number place to (suc k) (f ∷ fs) d p h i c u e is =
      let next = place + (function_code f).size in
      let n : suc number + k ≡ number + suc k = omega arith in
      subst (Section t) n
      (section_from t (suc number) next to k fs d.1 (other_part code.instrs (function_code f) (functions_code fs) (function_sized f) p)
      (others_stand code program m t number place f fs d h)
      (λ j. ap (slice_get program.functions) (one_on number j) ∙ i (suc j))
      (λ j. ap (slice_get code.functions) (one_on number j) ∙ c (suc j))
      (λ j. ap (slice_get t.functions) (one_on number j) ∙ u (suc j)) e (ap (slice_get code.functions) n ∙ is))

  -- ---- what is reached

  module _ (t : Table) (sections : (number : ℕ) (e : Entered) → slice_get code.functions number ≡ Some e → Section t number) (calls : AreCalled code t) where
    module _ (number : ℕ) (sec : Section t number) where
      abbrev end : ℕ
      end = sec.place + (function_code sec.function).size

      abbrev keep : ℕ → Bool
      keep = keeps sec.place end code.functions

      -- the table says nothing but of this function, and of where functions begin
      abbrev alone : Table
      alone = other keep t

      called_alone : AreCalled code alone
      called_alone k f h = let c = calls k f h in (
        shape_kept keep t f.at (first k f) c.0 (or_later (nat_le sec.place f.at && nat_lt f.at end) (starts code.functions f.at) (begun_at code.functions k f h)),
        c.1,
      )

      fine_alone : Range code alone sec.place end
      fine_alone =
          let long = function_long code program m number sec.function sec.in_place sec.place in
          function_fine code program m number sec.function sec.in_place alone sec.place end sec.placed
          (stands_kept keep t.points sec.place (function_points code program m number sec.function sec.in_place sec.place) sec.stands
          (λ at le lt. keeps_inside sec.place end code.functions at le (omega (arith, lt, long))))
          (knows_own code program m number sec.function sec.in_place alone sec.place called_alone sec.own sec.held)

    -- the address is one of that function's
    pub record Lies (at : ℕ) (s : Shape) : Type 0 where
      pub number : ℕ
      pub section : Section t number
      pub low : section.place ≤ at
      pub high : at < section.place + (function_code section.function).size
      pub round : outermost s.bodies ≡ Some (home.Function number)
      pub known : ShapeAt (alone number section) at s

    some_code : (f : Function) → 0 < (function_code f).size
    some_code f = omega arith

    at_first : (k : ℕ) (f : Entered) → slice_get code.functions k ≡ Some f → Lies f.at (first k f)
    at_first k f h =
        let sec = sections k f h in
        let same : entered_as sec.function sec.place ≡ f = let both : Some (entered_as sec.function sec.place) ≡ Some f = sym sec.own ∙ h in cc in
        let here : sec.place ≡ f.at = ap (λ (x : Entered). x.at) same in
        let some = some_code sec.function in
        record {
          number = k;
          section = sec;
          low = omega (arith, here);
          high = omega (arith, here, some);
          round = refl;
          known = (called_alone k sec k f h).0;
        }

    -- where the bodies round it lie in the same function, it is one of that function's as well
    beside : (at to : ℕ) (s u : Shape) (o : Lies at s) → ShapeAt (alone o.number o.section) to u → outermost u.bodies ≡ Some (home.Function o.number) → Lies to u
    beside at to s u o known round = by (keep o.number o.section to) refl
      where
        start : Begun code.functions to → Lies to u
        start b =
            let c = (called_alone o.number o.section b.number b.function b.is).0 in
            let same : first b.number b.function ≡ u = one_shape (alone o.number o.section) to (first b.number b.function) u
            (subst (λ n. ShapeAt (alone o.number o.section) n (first b.number b.function)) b.here c) known in
            subst (Lies to) same (subst (λ n. Lies n (first b.number b.function)) b.here (at_first b.number b.function b.is))

        by : (b : Bool) → keep o.number o.section to ≡ b → Lies to u
        by true e = ⊎_elim (λ h. record { number = o.number; section = o.section; low = h.0; high = h.1; round = round; known = known }) start
            (keeps_why o.section.place (end o.number o.section) code.functions to e)
        by false e =
            let none : ◌≡◌ {A = Option Home} None (Some (home.Function o.number)) = ap outermost (shape_gone (keep o.number o.section) t to u known e) ∙ round in
            absurd (cc)

    led : (at to : ℕ) (s u : Shape) (o : Lies at s) (f : Fits code at s) → LeadsTo f.leads to u → ShapeAt (alone o.number o.section) to u
    led at to s u o f l =
        let here = fine_alone o.number o.section at o.low o.high in
        (here.leads to u (leads_as code at s here.shape (one_shape (alone o.number o.section) at s here.shape o.known here.here) f here.fits to u l)).kept

    pub lies : (at : ℕ) (s : Shape) → Reaches code at s → Lies at s
    lies _ _ (begins core function entry) = at_first entry.entry function entry.function_is
    lies _ _ (goes at s to u r g) = by (lies at s r) (stays code at s g.fits.leads to u g.leads g.fits.instr g.fits.finds)
      where
        by : Lies at s → Stays code g.fits.instr s to u → Lies to u
        by o (within e) = beside at to s u o (led at to s u o g.fits g.leads) (ap outermost e ∙ o.round)
        by o (into inner e) = beside at to s u o (led at to s u o g.fits g.leads) (ap outermost e ∙ still_outermost inner s.bodies (home.Function o.number) o.round)
        by o (called number count f is there here e) = subst (Lies to) e (subst (λ n. Lies n (first number f)) here (at_first number f there))
