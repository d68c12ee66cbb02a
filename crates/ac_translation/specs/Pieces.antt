-- Pieces of code, whose jumps name addresses.
use Rattle.std.specs.Prelude.{ℕ, ◌+◌, List, [], ◌∷◌, ◌++◌}
use Rattle.stack_code.specs.declared.instr.Instr.{Instr}
use Rattle.stack_code.specs.declared.instr.Instr.TheVariants as i

-- where the innermost loop is left, and where it goes on
pub record Exits : Type 0 where
  pub past : ℕ
  pub turn : ℕ

-- how many instructions, and which, where they stand at an address in a loop with these exits; and the addresses of those among them that
-- jump to its exits
pub record Piece : Type 0 where
  pub size : ℕ
  pub at : Exits → ℕ → List Instr
  pub pasts : ℕ → List ℕ
  pub turns : ℕ → List ℕ

-- no instruction jumps to an exit
abbrev pub no_jump : ℕ → List ℕ
no_jump place = []

abbrev pub no_code : Piece
no_code = record { size = 0; at = λ exits place. []; pasts = no_jump; turns = no_jump }

abbrev pub one : Instr → Piece
one instr = record { size = 1; at = λ exits place. instr ∷ []; pasts = no_jump; turns = no_jump }

-- one after the other
abbrev pub ◌⨾◌ : Piece → Piece → Piece

infixr 5 ◌⨾◌
a ⨾ b = record {
  size = a.size + b.size;
  at = λ exits place. a.at exits place ++ b.at exits (place + a.size);
  pasts = λ place. a.pasts place ++ b.pasts (place + a.size);
  turns = λ place. a.turns place ++ b.turns (place + a.size);
}

abbrev pub all : List Piece → Piece
all [] = no_code
all (a ∷ pieces) = a ⨾ all pieces

-- a jump over so many instructions
abbrev pub over : (ℕ → Instr) → ℕ → Piece
over jump count = record { size = 1; at = λ exits place. jump (place + 1 + count) ∷ []; pasts = no_jump; turns = no_jump }

-- a jump to where the loop is left
abbrev pub out_past : Piece
out_past = record { size = 1; at = λ exits place. i.Jump exits.past ∷ []; pasts = λ place. place ∷ []; turns = no_jump }

-- a jump to where the loop goes on
abbrev pub out_turn : Piece
out_turn = record { size = 1; at = λ exits place. i.Jump exits.turn ∷ []; pasts = no_jump; turns = λ place. place ∷ [] }

-- A loop: what decides whether it goes on, its body, and what stands before it goes back. `turns` gives the address to which `continue`
-- leads, from that of the loop and that of its next part. The exits to which its body jumps are its own.
abbrev pub loop_end : ℕ → Piece → Piece → Piece → ℕ
loop_end place head body next = place + (head.size + (body.size + (next.size + 1)))

abbrev pub loop_exits : (ℕ → ℕ → ℕ) → ℕ → Piece → Piece → Piece → Exits
loop_exits turns place head body next = record {
  past = loop_end place head body next;
  turn = turns place (place + (head.size + body.size));
}

abbrev pub loop : (ℕ → ℕ → ℕ) → Piece → Piece → Piece → Piece
loop turns head body next = record {
  size = head.size + (body.size + (next.size + 1));
  at = λ exits place.
      head.at exits place ++ (body.at (loop_exits turns place head body next) (place + head.size)
      ++ (next.at exits (place + (head.size + body.size)) ++ i.Jump place ∷ []));
  pasts = λ place. head.pasts place ++ next.pasts (place + (head.size + body.size));
  turns = λ place. head.turns place ++ next.turns (place + (head.size + body.size));
}
