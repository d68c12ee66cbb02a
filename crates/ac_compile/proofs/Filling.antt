-- Where the jumps of a piece to the exits of its loop are set, it is the piece in that loop.
-- The emitter leaves these jumps at 0 and notes where they are. `IsFilled` says of a piece that setting them gives the piece with its
-- exits; it is kept by each way to make a piece, so it holds of every body (Closed, in `ac_translation`). The hard case is two pieces in a
-- row, where setting the jumps of one leaves the other.
use Rattle.std.proofs.Common.{◌≡◌, ℕ, ◌+◌, ◌≤◌, List, [], ◌∷◌, ◌++◌, length, refl, sym, ap, ◌∙◌, subst, arith, append_assoc, length-append}
use Rattle.std.specs.Prelude.{slice_set}
use Rattle.std.proofs.Math.Seq.{set-append_seam}
use Rattle.stack_code.specs.declared.instr.Instr.{Instr}
use Rattle.stack_code.specs.declared.instr.Instr.TheVariants as i
use Rattle.ac_commands.specs.declared.command.Command.{Command}
use Rattle.ac_translation.specs.Pieces.{Exits, Piece, no_code, one, ◌⨾◌, over, out_past, out_turn, loop_exits, loop}
use Rattle.ac_translation.specs.Translation.{body_code}
use Rattle.ac_compile.specs.inner.Emission.{jumps_set, AreBelow}
use Rattle.ac_translation.proofs.Closed as closed
use Rattle.ac_translation.proofs.Sized.{IsSized, no_sized, one_sized, over_sized, past_sized, turn_sized, both_sized, loop_sized}

abbrev pub exits : ℕ → ℕ → Exits
exits past turn = record { past = past; turn = turn }

-- ---- addresses

pub below_more : (m n : ℕ) (xs : List ℕ) → m ≤ n → AreBelow m xs → AreBelow n xs
below_more m n [] le h = tt
below_more m n (x ∷ xs) le h = (omega (arith, h.0), below_more m n xs le h.1)

below_append : (n : ℕ) (xs ys : List ℕ) → AreBelow n xs → AreBelow n ys → AreBelow n (xs ++ ys)
below_append n [] ys h k = k
below_append n (x ∷ xs) ys h k = (h.0, below_append n xs ys h.1 k)

-- of two parts, of which the second stands later in the same piece
below_both : (m n : ℕ) (xs ys : List ℕ) → m ≤ n → AreBelow m xs → AreBelow n ys → AreBelow n (xs ++ ys)
below_both m n xs ys le h k = below_append n xs ys (below_more m n xs le h) k

jumps_append : (to : ℕ) (xs ys : List ℕ) (l : List Instr) → jumps_set to (xs ++ ys) l ≡ jumps_set to ys (jumps_set to xs l)
jumps_append to [] ys l = refl
jumps_append to (x ∷ xs) ys l = jumps_append to xs ys (slice_set l x (i.Jump to))

-- ---- one of the two exits

-- what stands at each address while its jumps have no address and once they have it, and where these jumps are
pub record Fills (to : ℕ) (unset set : ℕ → List Instr) (jumps : ℕ → List ℕ) : Type 0 where
  pub fills : (place : ℕ) (pre post : List Instr) → length pre ≡ place → jumps_set to (jumps place) (pre ++ (unset place ++ post)) ≡ pre ++ (set place ++ post)

-- no such jump
fixed : (to : ℕ) (a : ℕ → List Instr) → Fills to a a (λ place. [])
fixed to a = record { fills = λ place pre post e. refl }

-- the jump itself
itself : (to : ℕ) → Fills to (λ place. i.Jump 0 ∷ []) (λ place. i.Jump to ∷ []) (λ place. place ∷ [])
itself to = record {
  fills = λ place pre post e. subst (λ at. slice_set (pre ++ (i.Jump 0 ∷ post)) at (i.Jump to) ≡ pre ++ (i.Jump to ∷ post)) e (set-append_seam pre (i.Jump 0) post (i.Jump to));
}

two : (to m : ℕ) (a a' b b' : ℕ → List Instr) (j k : ℕ → List ℕ) → ((place : ℕ) → length (a' place) ≡ m) → Fills to a a' j → Fills to b b' k →
    Fills to (λ place. a place ++ b (place + m)) (λ place. a' place ++ b' (place + m)) (λ place. j place ++ k (place + m))
two to m a a' b b' j k s x y = record {
  fills = λ place pre post e.
      let e' : length (pre ++ a' place) ≡ place + m = length-append pre (a' place) ∙ omega (arith, e, s place) in
      jumps_append to (j place) (k (place + m)) (pre ++ ((a place ++ b (place + m)) ++ post))
      ∙ ap (λ l. jumps_set to (k (place + m)) (jumps_set to (j place) (pre ++ l))) (append_assoc (a place) (b (place + m)) post)
      ∙ ap (jumps_set to (k (place + m))) (x.fills place pre (b (place + m) ++ post) e)
      ∙ ap (jumps_set to (k (place + m))) (sym (append_assoc pre (a' place) (b (place + m) ++ post)))
      ∙ y.fills (place + m) (pre ++ a' place) post e'
      ∙ append_assoc pre (a' place) (b' (place + m) ++ post)
      ∙ ap (λ l. pre ++ l) (sym (append_assoc (a' place) (b' (place + m)) post));
}

-- two parts, with one between them and one after them that stay
apart : (to m q : ℕ) (a a' b b' c d : ℕ → List Instr) (j k : ℕ → List ℕ) → ((place : ℕ) → length (a' place) ≡ m) → ((place : ℕ) → length (c place) ≡ q) → Fills to a a' j → Fills to b b' k →
    Fills to (λ place. a place ++ (c place ++ (b (place + (m + q)) ++ d place))) (λ place. a' place ++ (c place ++ (b' (place + (m + q)) ++ d place))) (λ place. j place ++ k (place + (m + q)))
apart to m q a a' b b' c d j k s r x y = record {
  fills = λ place pre post e.
      let there = place + (m + q) in
      let old = c place ++ (b there ++ d place) in
      let front = pre ++ (a' place ++ c place) in
      let e' : length front ≡ there = length-append pre (a' place ++ c place) ∙ omega (arith, e, s place, r place, length-append (a' place) (c place)) in
      jumps_append to (j place) (k there) (pre ++ ((a place ++ old) ++ post))
      ∙ ap (λ l. jumps_set to (k there) (jumps_set to (j place) (pre ++ l))) (append_assoc (a place) old post)
      ∙ ap (jumps_set to (k there)) (x.fills place pre (old ++ post) e)
      ∙ ap (jumps_set to (k there)) (seam pre (a' place) (c place) (b there) (d place) post)
      ∙ y.fills there front (d place ++ post) e'
      ∙ sym (seam pre (a' place) (c place) (b' there) (d place) post)
      ∙ ap (λ l. pre ++ l) (sym (append_assoc (a' place) (c place ++ (b' there ++ d place)) post));
} where
  seam : (pre a c b d post : List Instr) → pre ++ (a ++ ((c ++ (b ++ d)) ++ post)) ≡ (pre ++ (a ++ c)) ++ (b ++ (d ++ post))
  seam pre a c b d post = simp append_assoc

-- ---- both exits

pub record IsFilled (p : Piece) : Type 0 where
  pub sized : IsSized p
  pub past : (to turn : ℕ) → Fills to (p.at (exits 0 turn)) (p.at (exits to turn)) p.pasts
  pub turn : (to past : ℕ) → Fills to (p.at (exits past 0)) (p.at (exits past to)) p.turns
  pub pasts_below : (place : ℕ) → AreBelow (place + p.size) (p.pasts place)
  pub turns_below : (place : ℕ) → AreBelow (place + p.size) (p.turns place)

none_filled : IsFilled no_code
none_filled = record { sized = no_sized; past = λ to turn. fixed to _; turn = λ to past. fixed to _; pasts_below = λ place. tt; turns_below = λ place. tt }

one_filled : (instr : Instr) → IsFilled (one instr)
one_filled instr = record { sized = one_sized instr; past = λ to turn. fixed to _; turn = λ to past. fixed to _; pasts_below = λ place. tt; turns_below = λ place. tt }

over_filled : (jump : ℕ → Instr) (count : ℕ) → IsFilled (over jump count)
over_filled jump count = record { sized = over_sized jump count; past = λ to turn. fixed to _; turn = λ to past. fixed to _; pasts_below = λ place. tt; turns_below = λ place. tt }

past_filled : IsFilled out_past
past_filled = record { sized = past_sized; past = λ to turn. itself to; turn = λ to past. fixed to _; pasts_below = λ place. (omega arith, tt); turns_below = λ place. tt }

turn_filled : IsFilled out_turn
turn_filled = record { sized = turn_sized; past = λ to turn. fixed to _; turn = λ to past. itself to; pasts_below = λ place. tt; turns_below = λ place. (omega arith, tt) }

both_filled : (a b : Piece) → IsFilled a → IsFilled b → IsFilled (a ⨾ b)
both_filled a b x y = record {
  sized = both_sized a b x.sized y.sized;
  past = λ to turn. two to a.size _ _ (b.at (exits 0 turn)) (b.at (exits to turn)) a.pasts b.pasts (x.sized.sized (exits to turn)) (x.past to turn) (y.past to turn);
  turn = λ to past. two to a.size _ _ (b.at (exits past 0)) (b.at (exits past to)) a.turns b.turns (x.sized.sized (exits past to)) (x.turn to past) (y.turn to past);
  pasts_below = λ place. below_both (place + a.size) (place + (a.size + b.size)) _ _ (omega arith) (x.pasts_below place)
      (below_more (place + a.size + b.size) _ _ (omega arith) (y.pasts_below (place + a.size)));
  turns_below = λ place. below_both (place + a.size) (place + (a.size + b.size)) _ _ (omega arith) (x.turns_below place)
      (below_more (place + a.size + b.size) _ _ (omega arith) (y.turns_below (place + a.size)));
}

module _ (turns : ℕ → ℕ → ℕ) (head body next : Piece) where
  abbrev own : ℕ → List Instr
  own place = body.at (loop_exits turns place head body next) (place + head.size)

  abbrev back : ℕ → List Instr
  back place = i.Jump place ∷ []

  loop_below : (h n : ℕ → List ℕ) (place : ℕ) → AreBelow (place + head.size) (h place) → AreBelow (place + (head.size + body.size) + next.size) (n (place + (head.size + body.size))) →
      AreBelow (place + (head.size + (body.size + (next.size + 1)))) (h place ++ n (place + (head.size + body.size)))
  loop_below h n place x z = below_both (place + head.size) _ (h place) (n (place + (head.size + body.size))) (omega arith) x
      (below_more (place + (head.size + body.size) + next.size) _ _ (omega arith) z)

  loop_filled : IsFilled head → IsFilled body → IsFilled next → IsFilled (loop turns head body next)
  loop_filled x y z = record {
    sized = loop_sized turns head body next x.sized y.sized z.sized;
    past = λ to turn.
        apart to head.size body.size (head.at (exits 0 turn)) (head.at (exits to turn)) (next.at (exits 0 turn)) (next.at (exits to turn)) own back head.pasts next.pasts
        (x.sized.sized (exits to turn))
        (λ place. y.sized.sized (loop_exits turns place head body next) (place + head.size)) (x.past to turn) (z.past to turn);
    turn = λ to past.
        apart to head.size body.size (head.at (exits past 0)) (head.at (exits past to)) (next.at (exits past 0)) (next.at (exits past to)) own back head.turns next.turns
        (x.sized.sized (exits past to))
        (λ place. y.sized.sized (loop_exits turns place head body next) (place + head.size)) (x.turn to past) (z.turn to past);
    pasts_below = λ place. loop_below head.pasts next.pasts place (x.pasts_below place) (z.pasts_below (place + (head.size + body.size)));
    turns_below = λ place. loop_below head.turns next.turns place (x.turns_below place) (z.turns_below (place + (head.size + body.size)));
  }

kept : closed.IsKept IsFilled
kept = record { none = none_filled; single = one_filled; both = both_filled; jump = over_filled; past = past_filled; turn = turn_filled; round = loop_filled }

pub body_filled : (body : List Command) → IsFilled (body_code body)
body_filled = closed.body_has IsFilled kept

-- the jumps to both exits of a piece that stands in a list
pub set_in_loop : (p : Piece) → IsFilled p → (past turn place : ℕ) (pre post : List Instr) → length pre ≡ place →
    jumps_set turn (p.turns place) (jumps_set past (p.pasts place) (pre ++ (p.at (exits 0 0) place ++ post))) ≡ pre ++ (p.at (exits past turn) place ++ post)
set_in_loop p x past turn place pre post e = ap (jumps_set turn (p.turns place)) ((x.past past 0).fills place pre post e) ∙ (x.turn turn past).fills place pre post e
