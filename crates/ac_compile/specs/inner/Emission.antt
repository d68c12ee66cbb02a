-- Code as far as it is emitted.
use Rattle.std.specs.Prelude.{ℕ, ◌+◌, ◌^◌, ◌<◌, List, [], ◌∷◌, ◌++◌, length, slice_set, Option, Some, None}
use Rattle.ac_commands.specs.declared.value.Value.{Value}
use Rattle.stack_code.specs.declared.instr.Instr.{Instr}
use Rattle.stack_code.specs.declared.instr.Instr.TheVariants as i
use Rattle.ac_translation.specs.Pieces.{Piece, no_jump, one, ◌⨾◌}
use Rattle.ac_translation.specs.Translation.{no_exits, value_code}

-- the instructions, and the addresses of those that jump to the exits of the loop round what comes next
pub record Emitted : Type 0 where
  pub instrs : List Instr
  pub pasts : List ℕ
  pub turns : List ℕ

abbrev pub nothing_yet : Emitted
nothing_yet = record { instrs = []; pasts = []; turns = [] }

-- and then a piece, which jumps to 0 in place of the exits
unfoldable pub with_code : Piece → Emitted → Emitted
with_code p e = record {
  instrs = e.instrs ++ p.at no_exits (length e.instrs);
  pasts = e.pasts ++ p.pasts (length e.instrs);
  turns = e.turns ++ p.turns (length e.instrs);
}

-- with another instruction at an address
unfoldable pub with_instr : ℕ → Instr → Emitted → Emitted
with_instr at instr e = record { instrs = slice_set e.instrs at instr; pasts = e.pasts; turns = e.turns }

-- in another loop
unfoldable pub with_outs : List ℕ → List ℕ → Emitted → Emitted
with_outs pasts turns e = record { instrs = e.instrs; pasts = pasts; turns = turns }

-- with jumps to one address at all of these
abbrev pub jumps_set : ℕ → List ℕ → List Instr → List Instr
jumps_set to [] instrs = instrs
jumps_set to (at ∷ rest) instrs = jumps_set to rest (slice_set instrs at (i.Jump to))

unfoldable pub with_jumps : ℕ → List ℕ → Emitted → Emitted
with_jumps to at e = record { instrs = jumps_set to at e.instrs; pasts = e.pasts; turns = e.turns }

-- addresses of instructions
abbrev pub AreBelow : ℕ → List ℕ → Type 0
AreBelow len [] = Unit {0}
AreBelow len (at ∷ rest) = (at < len) × AreBelow len rest

-- a piece has addresses that are numbers of 32 bits, and so has what stands after it
abbrev pub HasRoom : Piece → Emitted → Type 0
HasRoom p e = length e.instrs + p.size < 2 ^ 32

-- ---- statements

-- a piece in a loop of its own, whose exits have no address yet
abbrev pub enclosed : Piece → Piece
enclosed p = record { size = p.size; at = λ exits place. p.at no_exits place; pasts = no_jump; turns = no_jump }

-- a step and the value that decides, before the jump
abbrev pub decided : Value → Piece
decided test = one i.Step ⨾ value_code test

-- what decides whether a loop goes on, with a jump whose address is not set; and where that jump is
abbrev pub open_test : Option Value → Piece
open_test None = one i.Step
open_test (Some test) = decided test ⨾ one (i.Jz 0)

abbrev pub test_jump : Option Value → Emitted → Option ℕ
test_jump None e = None
test_jump (Some test) e = Some (length (with_code (decided test) e).instrs)

abbrev pub with_test : Option ℕ → ℕ → Emitted → Emitted
with_test None to e = e
with_test (Some at) to e = with_instr at (i.Jz to) e
