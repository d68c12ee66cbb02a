-- Code whose ways part and meet again: what is passed over, the two ways of a test, and loops, in any shape.
-- For any shape, so that values and statements share them: both ways come to the end with the same shape. A loop's back way goes to its
-- head, which is a `Step`.
use Rattle.std.proofs.Common.{◌≡◌, ℕ, ◌+◌, inl, inr, List, [], ◌∷◌, ◌++◌, length, Option, Some, refl, sym, ap, ◌∙◌, subst, arith, append_assoc, length-append, le_refl}
use Rattle.std.specs.Prelude.{slice_get}
use Rattle.stack_code.specs.declared.instr.Instr.{Instr}
use Rattle.stack_code.specs.declared.instr.Instr.TheVariants as i
use Rattle.stack_code.specs.declared.shape.Shape.{Shape}
use Rattle.stack_code.specs.declared.shape.Leads.TheVariants.{Two}
use Rattle.stack_code.specs.Parts.{Parts}
use Rattle.stack_code.specs.Shapes.{effect}
use Rattle.ac_compile.proofs.StepAt.{IsStep}
use Rattle.ac_translation.specs.Pieces.{Exits, Piece, one, ◌⨾◌, over, loop_end, loop_exits, loop}
use Rattle.ac_translation.specs.Translation.{lazily, at_loop, at_next}
use Rattle.ac_translation.proofs.Sized.{IsSized, over_sized, both_sized, loop_sized}
use Rattle.ac_translation.proofs.Placed.{Placed, first_part, other_part, loop_at}
use Rattle.ac_compile.proofs.Points.{Point, point, Table, Stands, first_stand, other_stand, ShapeAt, shape_there, UsesWell, IsLed, IsFine, next_led, two_led, fine_as, jump_fine, Range}
use Rattle.ac_compile.proofs.Points.{one_range, both_ranges}
use Rattle.ac_compile.proofs.Points.{IsExit, exit_before, exits_before, Fit}

-- one of two pieces, by the value on top
abbrev pub either : (ℕ → Instr) → Piece → Piece → Piece
either jump a b = over jump (a.size + 1) ⨾ a ⨾ over i.Jump b.size ⨾ b

module _ (code : Parts) where
  -- an instruction that goes on at the next address or at another, with this shape
  pub record Branches (jump : ℕ → Instr) (s u : Shape) : Type 0 where
    pub finds : (at to : ℕ) → effect code at (jump to) s ≡ Some (Two (at + 1) u to u)
    pub used : (t : Table) (to : ℕ) → UsesWell code t (jump to) s

  pub branch_fine : (t : Table) (jump : ℕ → Instr) (at to : ℕ) (s u : Shape) → Branches jump s u → slice_get code.instrs at ≡ Some (jump to) → ShapeAt t at s → ShapeAt t (at + 1) u
      → IsLed code t at to u → IsFine code t at
  branch_fine t jump at to s u j h e e' x = fine_as code t at (jump to) s (Two (at + 1) u to u) h e (j.finds at to) (j.used t to) (two_led code t at (at + 1) to u u (next_led code t at u e') x)

  module _ (K : Table → Type 0) where
    -- the same instructions, put together otherwise
    pub same_code : (around : Option Shape) (s u : Shape) (p q : Piece) → p.size ≡ q.size → ((exits : Exits) (place : ℕ) → p.at exits place ≡ q.at exits place) → Fit code K around s u p
        → Fit code K around s u q
    same_code around s u p q e f a = record {
      sized = record { sized = λ exits place. ap length (sym (f exits place)) ∙ a.sized.sized exits place ∙ e };
      points = a.points;
      long = λ place. a.long place ∙ e;
      begins = λ t place to h ends. a.begins t place to h (omega (arith, ends, e));
      fine = λ t exits place to h. a.fine t exits place to (moved exits place to h);
    } where
      moved : (exits : Exits) (place to : ℕ) → Placed code.instrs q exits place to → Placed code.instrs p exits place to
      moved exits place to h = let ends = h.ends in record { has = rw (f exits place) h.has; ends = omega (arith, ends, e) }

    -- ---- jumps forward

    -- passed over where the value on top is 0, or where it is not
    pub skip_fit : (around : Option Shape) (jump : ℕ → Instr) (s u v : Shape) (b : Piece) → u ≡ v → Branches jump s u → Fit code K around u v b → Fit code K around s v (over jump b.size ⨾ b)
    skip_fit around jump s u v b same j f = record {
      sized = both_sized (over jump b.size) b (over_sized jump b.size) f.sized;
      points = λ place. point s ∷ f.points (place + 1);
      long = λ place. omega (arith, f.long (place + 1));
      begins = λ t place to d ends e. shape_there t place (point s) d.0;
      fine = λ t exits place to h d e k w.
          let part = other_part code.instrs (over jump b.size) b (over_sized jump b.size) h in
          let ends = part.ends in
          let here = subst (λ n. slice_get code.instrs place ≡ Some (jump n)) ends h.has.0 in
          let led : IsLed code t place to u = record { kept = subst (ShapeAt t to) (sym same) e; ahead = inl (omega (arith, ends)) } in
          both_ranges code t place (place + 1) to
          (one_range code t place (place + 1) refl
          (branch_fine t jump place to s u j here (shape_there t place (point s) d.0) (f.begins t (place + 1) to d.1 ends e) led))
          (f.fine t exits (place + 1) to part d.1 e k w);
    }

    -- the parts of what decides between two pieces
    record Forks (jump : ℕ → Instr) (a b : Piece) (exits : Exits) (place to : ℕ) : Type 0 where
      test : slice_get code.instrs place ≡ Some (jump (place + 1 + a.size + 1))
      front : Placed code.instrs a exits (place + 1) (place + 1 + a.size)
      jump_out : slice_get code.instrs (place + 1 + a.size) ≡ Some (i.Jump to)
      back : Placed code.instrs b exits (place + 1 + a.size + 1) to

    forks : (jump : ℕ → Instr) (a b : Piece) (exits : Exits) (place to : ℕ) → IsSized a → Placed code.instrs (either jump a b) exits place to → Forks jump a b exits place to
    forks jump a b exits place to z h =
        let rest = over i.Jump b.size ⨾ b in
        let inner = other_part code.instrs (over jump (a.size + 1)) (a ⨾ rest) (over_sized jump (a.size + 1)) h in
        let last = other_part code.instrs a rest z inner in
        let end = other_part code.instrs (over i.Jump b.size) b (over_sized i.Jump b.size) last in
        let target : place + 1 + (a.size + 1) ≡ place + 1 + a.size + 1 = omega arith in
        record {
          test = subst (λ n. slice_get code.instrs place ≡ Some (jump n)) target h.has.0;
          front = first_part code.instrs a rest inner;
          jump_out = subst (λ n. slice_get code.instrs (place + 1 + a.size) ≡ Some (i.Jump n)) end.ends last.has.0;
          back = end;
        }

    module _ (around : Option Shape) (jump : ℕ → Instr) (s u v : Shape) (a b : Piece) (j : Branches jump s u) (f : Fit code K around u v a) (g : Fit code K around u v b) where
      fork_points : ℕ → List Point
      fork_points place = point s ∷ f.points (place + 1) ++ (point v ∷ g.points (place + 1 + a.size + 1))

      -- what the table has of the parts
      record Known (t : Table) (place : ℕ) : Type 0 where
        test : slice_get t.points place ≡ Some (point s)
        front : Stands t.points (place + 1) (f.points (place + 1))
        out : slice_get t.points (place + 1 + a.size) ≡ Some (point v)
        back : Stands t.points (place + 1 + a.size + 1) (g.points (place + 1 + a.size + 1))

      known : (t : Table) (place : ℕ) → Stands t.points place (fork_points place) → Known t place
      unfolding fork_points
      known t place d =
          let rest = point v ∷ g.points (place + 1 + a.size + 1) in
          let later = other_stand t.points (place + 1) (place + 1 + a.size) (f.points (place + 1)) rest (omega (arith, f.long (place + 1))) d.1 in
          record { test = d.0; front = first_stand t.points (place + 1) (f.points (place + 1)) rest d.1; out = later.0; back = later.1 }

      fork_long : (place : ℕ) → length (fork_points place) ≡ (either jump a b).size
      unfolding fork_points
      fork_long place =
          omega (arith, f.long (place + 1), g.long (place + 1 + a.size + 1), length-append (f.points (place + 1)) (point v ∷ g.points (place + 1 + a.size + 1)))

      fork_fine : (t : Table) (exits : Exits) (place to : ℕ) → Forks jump a b exits place to → Known t place → ShapeAt t to v → Range code t (place + 1) (place + 1 + a.size)
          → Range code t (place + 1 + a.size + 1) to → Range code t place to
      fork_fine t exits place to k d e x y =
          let ends = k.back.ends in
          let middle = place + 1 + a.size in
          let at_out = shape_there t middle (point v) d.out in
          let at_front = f.begins t (place + 1) middle d.front refl at_out in
          let at_back = g.begins t (middle + 1) to d.back ends e in
          let other : IsLed code t place (middle + 1) u = record { kept = at_back; ahead = inl (omega arith) } in
          let out : IsLed code t middle to v = record { kept = e; ahead = inl (omega (arith, ends)) } in
          both_ranges code t place (place + 1) to
          (one_range code t place (place + 1) refl (branch_fine t jump place (middle + 1) s u j k.test (shape_there t place (point s) d.test) at_front other))
          (both_ranges code t (place + 1) middle to x
          (both_ranges code t middle (middle + 1) to (one_range code t middle (middle + 1) refl (jump_fine code t middle to v k.jump_out at_out out)) y))

      pub either_fit : Fit code K around s v (either jump a b)
      either_fit = record {
        sized = both_sized (over jump (a.size + 1)) _ (over_sized jump (a.size + 1)) (both_sized a _ f.sized (both_sized (over i.Jump b.size) b (over_sized i.Jump b.size) g.sized));
        points = fork_points;
        long = fork_long;
        begins = λ t place to d ends e. shape_there t place (point s) (known t place d).test;
        fine = λ t exits place to h d e k w.
            let parts = forks jump a b exits place to f.sized h in
            let n = known t place d in
            let ends = parts.back.ends in
            fork_fine t exits place to parts n e
            (f.fine t exits (place + 1) (place + 1 + a.size) parts.front n.front (shape_there t (place + 1 + a.size) (point v) n.out) k
            (exits_before code t around exits (place + 1 + a.size) to (omega (arith, ends)) w))
            (g.fine t exits (place + 1 + a.size + 1) to parts.back n.back e k w);
      }

    pub lazily_fit : (around : Option Shape) (jump : ℕ → Instr) (decided : Instr) (s u v : Shape) (right : Piece) → Branches jump s u → Fit code K around u v (right ⨾ one i.Bool)
        → Fit code K around u v (one decided) →
        Fit code K around s v (lazily jump decided right)
    lazily_fit around jump decided s u v right j f g =
        same_code around s v (either jump (right ⨾ one i.Bool) (one decided)) (lazily jump decided right) (omega arith) same
        (either_fit around jump s u v (right ⨾ one i.Bool) (one decided) j f g)
      where
        same : (exits : Exits) (place : ℕ) → (either jump (right ⨾ one i.Bool) (one decided)).at exits place ≡ (lazily jump decided right).at exits place
        same exits place =
            let middle = right.at exits (place + 1) in
            let test : place + 1 + (right.size + 1 + 1) ≡ place + 1 + (right.size + 2) = omega arith in
            let out : place + 1 + (right.size + 1) + 1 + 1 ≡ place + 1 + right.size + 1 + 1 + 1 = omega arith in
            ap (λ n. jump n ∷ ((middle ++ i.Bool ∷ []) ++ i.Jump (place + 1 + (right.size + 1) + 1 + 1) ∷ decided ∷ [])) test
            ∙ ap (λ l. jump (place + 1 + (right.size + 2)) ∷ l) (append_assoc middle (i.Bool ∷ []) (i.Jump (place + 1 + (right.size + 1) + 1 + 1) ∷ decided ∷ []))
            ∙ ap (λ n. jump (place + 1 + (right.size + 2)) ∷ (middle ++ i.Bool ∷ i.Jump n ∷ decided ∷ [])) out

    -- ---- loops

    -- what decides whether a loop goes on, before so many instructions
    pub record IsHead (head : Piece) (count : ℕ) (s : Shape) : Type 0 where
      pub sized : IsSized head
      pub points : ℕ → List Point
      pub long : (place : ℕ) → length (points place) ≡ head.size
      pub steps : (exits : Exits) (place to : ℕ) → Placed code.instrs head exits place to → IsStep code place
      pub begins : (t : Table) (place to : ℕ) → Stands t.points place (points place) → place + head.size ≡ to → ShapeAt t to s → ShapeAt t place s
      pub fine : (t : Table) (exits : Exits) (place to : ℕ) → Placed code.instrs head exits place to → Stands t.points place (points place) → ShapeAt t to s → K t
          → IsExit code t to (to + count) s → Range code t place to

    -- `continue` leads from the body to a `Step` or further on
    pub record IsTurn (turns : ℕ → ℕ → ℕ) : Type 0 where
      pub turns_well : (t : Table) (s : Shape) (place next : ℕ) → IsStep code place → ShapeAt t place s → ShapeAt t next s → IsExit code t next (turns place next) s

    pub loop_turn : IsTurn at_loop
    loop_turn = record { turns_well = λ t s place next step e e'. record { kept = e; ahead = inr (inl step) } }

    pub next_turn : IsTurn at_next
    next_turn = record { turns_well = λ t s place next step e e'. record { kept = e'; ahead = inl (le_refl next) } }

    module _ (around : Option Shape) (turns : ℕ → ℕ → ℕ) (s : Shape) (head body next : Piece) (r : IsTurn turns) (x : IsHead head (body.size + (next.size + 1)) s) (y : Fit code K (Some s) s s body)
        (z : Fit code K around s s next) where
      loop_points : ℕ → List Point
      loop_points place = x.points place ++ (y.points (place + head.size) ++ (z.points (place + (head.size + body.size)) ++ (point s ∷ [])))

      loop_long : (place : ℕ) → length (loop_points place) ≡ (loop turns head body next).size
      unfolding loop_points
      loop_long place =
          let front = x.points place in
          let middle = y.points (place + head.size) in
          let back = z.points (place + (head.size + body.size)) in
          omega (
            arith,
            x.long place,
            y.long (place + head.size),
            z.long (place + (head.size + body.size)),
            length-append front (middle ++ (back ++ point s ∷ [])),
            length-append middle (back ++ point s ∷ []),
            length-append back (point s ∷ []),
          )

      -- the shapes of the parts of the loop
      record Laps (t : Table) (place : ℕ) : Type 0 where
        head_stands : Stands t.points place (x.points place)
        body_stands : Stands t.points (place + head.size) (y.points (place + head.size))
        next_stands : Stands t.points (place + (head.size + body.size)) (z.points (place + (head.size + body.size)))
        at_head : ShapeAt t place s
        at_body : ShapeAt t (place + head.size) s
        at_next : ShapeAt t (place + (head.size + body.size)) s
        at_back : ShapeAt t (place + (head.size + body.size) + next.size) s

      -- The parts stand one after the other, so each begins where the one before it ended, with the shape that it leaves.
      laps : (t : Table) (place : ℕ) → Stands t.points place (loop_points place) → Laps t place
      unfolding loop_points
      laps t place d =
          let front = x.points place in
          let middle = y.points (place + head.size) in
          let back = z.points (place + (head.size + body.size)) in
          let last = point s ∷ [] in
          let body_from = place + head.size in
          let next_from = place + (head.size + body.size) in
          let d2 = other_stand t.points place body_from front (middle ++ (back ++ last)) (ap (λ n. place + n) (x.long place)) d in
          let d3 = other_stand t.points body_from next_from middle (back ++ last) (omega (arith, y.long body_from)) d2 in
          let d4 = other_stand t.points next_from (next_from + next.size) back last (ap (λ n. next_from + n) (z.long next_from)) d3 in
          let head_stands = first_stand t.points place front (middle ++ (back ++ last)) d in
          let body_stands = first_stand t.points body_from middle (back ++ last) d2 in
          let next_stands = first_stand t.points next_from back last d3 in
          let at_back = shape_there t (next_from + next.size) (point s) d4.0 in
          let at_next = z.begins t next_from (next_from + next.size) next_stands refl at_back in
          let at_body = y.begins t body_from next_from body_stands (omega arith) at_next in
          record {
            head_stands = head_stands;
            body_stands = body_stands;
            next_stands = next_stands;
            at_head = x.begins t place body_from head_stands refl at_body;
            at_body = at_body;
            at_next = at_next;
            at_back = at_back;
          }

      -- Each part is fine in its range, with the loop's exits; the jump back leads to a start.
      pub loop_fit : Fit code K around s s (loop turns head body next)
      loop_fit = record {
        sized = loop_sized turns head body next x.sized y.sized z.sized;
        points = loop_points;
        long = loop_long;
        begins = λ t place to d ends e. (laps t place d).at_head;
        fine = λ t exits place to h d e k w.
            let l = laps t place d in
            let parts = loop_at code.instrs turns head body next x.sized y.sized z.sized h in
            let ends = parts.ends in
            let body_from = place + head.size in
            let next_from = place + (head.size + body.size) in
            let back_at = place + (head.size + body.size) + next.size in
            let last : back_at + 1 ≡ to = omega (arith, ends) in
            let end_is : to ≡ loop_end place head body next = omega (arith, ends) in
            let exit_is : to ≡ body_from + (body.size + (next.size + 1)) = omega (arith, ends) in
            let step = x.steps exits place body_from parts.head_at in
            let past : IsExit code t next_from to s = record { kept = e; ahead = inl (omega (arith, ends)) } in
            let turn = r.turns_well t s place next_from step l.at_head l.at_next in
            let home : IsLed code t back_at place s = record { kept = l.at_head; ahead = inr (inl step) } in
            both_ranges code t place body_from to
            (x.fine t exits place body_from parts.head_at l.head_stands l.at_body k
            (subst (λ n. IsExit code t body_from n s) exit_is (exit_before code t body_from next_from to s (omega arith) past)))
            (both_ranges code t body_from next_from to
            (y.fine t (loop_exits turns place head body next) body_from next_from parts.body_at l.body_stands l.at_next k (subst (λ n. IsExit code t next_from n s) end_is past, turn))
            (both_ranges code t next_from back_at to
            (z.fine t exits next_from back_at parts.next_at l.next_stands l.at_back k (exits_before code t around exits back_at to (omega (arith, last)) w))
            (one_range code t back_at to last (jump_fine code t back_at place s parts.back l.at_back home))));
      }
