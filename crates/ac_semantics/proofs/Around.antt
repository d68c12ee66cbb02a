-- A pending expression written from its open place outwards, and its meaning from there.
-- The meaning keeps what is round an open place as a list, innermost first. Here the expression is written out again round that place
-- (`filled`), and what goes on from inside is what the whole of it comes to: a law that checks the definition of `resumes`, by induction on
-- what is round the place.
use Rattle.std.proofs.Common.{◌≡◌, List, [], ◌∷◌, sym, ◌∙◌}
use Rattle.work_item.specs.declared.ids.FrameId.{FrameId}
use Rattle.work_item.specs.declared.cell.Cell.{Cell}
use Rattle.work_item.specs.Store.{Store}
use Rattle.ac_commands.specs.declared.value.Value.{Value}
use Rattle.ac_semantics.specs.Evaluation.{Context, Comes, then_goes, Goes, goes, gives, resumes}
use Rattle.ac_semantics.proofs.Forms.{then_then, then_itself}

-- an expression of which some parts are cells
pub data Pending : Type 0 where
  Holds : Cell → Pending
  Whole : Value → Pending
  In : Context → Pending → Pending

abbrev pub pending_goes : Store → FrameId → Pending → Goes
pending_goes s frame (Holds v) around = Comes v
pending_goes s frame (Whole x) around = goes s frame x around
pending_goes s frame (In context p) around = then_goes (pending_goes s frame p (context ∷ around)) (λ v. gives s frame context v around)

-- the pending expression with this in its open place
abbrev pub filled : List Context → Pending → Pending
filled [] p = p
filled (context ∷ around) p = filled around (In context p)

module _ (s : Store) (frame : FrameId) where
  filled_goes : (around : List Context) (p : Pending) → pending_goes s frame (filled around p) [] ≡ then_goes (pending_goes s frame p around) (λ v. resumes s frame around v)
  filled_goes [] p = sym (then_itself (pending_goes s frame p []))
  filled_goes (context ∷ around) p =
      filled_goes around (In context p) ∙ then_then (pending_goes s frame p (context ∷ around)) (λ v. gives s frame context v around) (λ v. resumes s frame around v)

  -- the whole pending expression, with a cell in its open place, is what goes on from inside
  pub goes_on_whole : (around : List Context) (v : Cell) → pending_goes s frame (filled around (Holds v)) [] ≡ resumes s frame around v
  goes_on_whole around v = filled_goes around (Holds v)
