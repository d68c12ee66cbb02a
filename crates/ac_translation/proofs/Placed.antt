-- Code that stands at an address.
-- A piece is placed where its instructions stand in the code; of two in a row each is placed, and of a loop all parts. `Jumps` lets a place
-- be reached by jumps alone.
use Rattle.std.proofs.Common.{◌≡◌, ℕ, ◌+◌, ◌<◌, List, [], ◌∷◌, ◌++◌, length, Some, refl, sym, ap, ◌∙◌, subst, arith, append_assoc, length-append}
use Rattle.std.specs.Prelude.{slice_get}
use Rattle.std.proofs.Math.Seq.{get_or-append_seam}
use Rattle.std.proofs.lemmas.Option.{slice_get-get_or}
use Rattle.stack_code.specs.declared.instr.Instr.{Instr}
use Rattle.stack_code.specs.declared.instr.Instr.TheVariants as i
use Rattle.ac_translation.specs.Pieces.{Exits, Piece, ◌⨾◌, loop_exits, loop}
use Rattle.ac_translation.proofs.Sized.{IsSized}

-- the instructions stand in the code at this address
abbrev pub HasAt : List Instr → ℕ → List Instr → Type 0
HasAt code place [] = Unit {0}
HasAt code place (i ∷ is) = (slice_get code place ≡ Some i) × HasAt code (place + 1) is

pub has_front : (code : List Instr) (place : ℕ) (a b : List Instr) → HasAt code place (a ++ b) → HasAt code place a
has_front code place [] b h = tt
has_front code place (i ∷ a) b h = (h.0, has_front code (place + 1) a b h.1)

pub has_back : (code : List Instr) (place : ℕ) (a b : List Instr) → HasAt code place (a ++ b) → HasAt code (place + length a) b
has_back code place [] b h = let e : place ≡ place + 0 = omega arith in subst (λ n. HasAt code n b) e h
has_back code place (i ∷ a) b h =
    let e : place + 1 + length a ≡ place + length (i ∷ a) = omega arith in
    subst (λ n. HasAt code n b) e (has_back code (place + 1) a b h.1)

pub has_both : (code : List Instr) (place : ℕ) (a b : List Instr) → HasAt code place a → HasAt code (place + length a) b → HasAt code place (a ++ b)
has_both code place [] b h k = let e : place + 0 ≡ place = omega arith in subst (λ n. HasAt code n b) e k
has_both code place (i ∷ a) b h k =
    let e : place + length (i ∷ a) ≡ place + 1 + length a = omega arith in
    (h.0, has_both code (place + 1) a b h.1 (subst (λ n. HasAt code n b) e k))

pub has_all : (is pre : List Instr) → HasAt (pre ++ is) (length pre) is
has_all [] pre = tt
has_all (i ∷ is) pre =
    let within : length pre < length (pre ++ i ∷ is) = omega (arith, length-append pre (i ∷ is)) in
    let here = slice_get-get_or (pre ++ i ∷ is) (length pre) i within ∙ ap Some (get_or-append_seam pre i is i) in
    let n : length (pre ++ i ∷ []) ≡ length pre + 1 = omega (arith, length-append pre (i ∷ [])) in
    let rest = has_all is (pre ++ i ∷ []) in
    let rest' = subst (λ l. HasAt l (length (pre ++ i ∷ [])) is) (append_assoc pre (i ∷ []) is) rest in
    (here, subst (λ m. HasAt (pre ++ i ∷ is) m is) n rest')

module _ (code : List Instr) where
  -- a piece stands there, in a loop with these exits, and ends before the other address
  pub record Placed (p : Piece) (exits : Exits) (place to : ℕ) : Type 0 where
    pub has : HasAt code place (p.at exits place)
    pub ends : place + p.size ≡ to

  has_after : (p : Piece) (exits : Exits) (place : ℕ) (rest : List Instr) → IsSized p → HasAt code place (p.at exits place ++ rest) → HasAt code (place + p.size) rest
  has_after p exits place rest z h = subst (λ n. HasAt code (place + n) rest) (z.sized exits place) (has_back code place (p.at exits place) rest h)

  pub first_part : (a b : Piece) {exits : Exits} {place to : ℕ} → Placed (a ⨾ b) exits place to → Placed a exits place (place + a.size)
  first_part a b {exits} {place} h = record { has = has_front code place (a.at exits place) (b.at exits (place + a.size)) h.has; ends = refl }

  pub other_part : (a b : Piece) {exits : Exits} {place to : ℕ} → IsSized a → Placed (a ⨾ b) exits place to → Placed b exits (place + a.size) to
  other_part a b {exits} {place} {to} z h =
      let ends = h.ends in
      record { has = has_after a exits place (b.at exits (place + a.size)) z h.has; ends = omega (arith, ends) }

  pub both_parts : (a b : Piece) {exits : Exits} {place to : ℕ} → IsSized a → Placed a exits place (place + a.size) → Placed b exits (place + a.size) to → Placed (a ⨾ b) exits place to
  both_parts a b {exits} {place} {to} z h k =
      let ends = k.ends in
      let near = subst (λ n. HasAt code (place + n) (b.at exits (place + a.size))) (sym (z.sized exits place)) k.has in
      record { has = has_both code place (a.at exits place) (b.at exits (place + a.size)) h.has near; ends = omega (arith, ends) }

  -- jumps alone lead from the one address to the other
  pub data Jumps : ℕ → ℕ → Type 0 where
    here : {place : ℕ} → Jumps place place
    jump : {place to at : ℕ} → slice_get code place ≡ Some (i.Jump to) → Jumps to at → Jumps place at

  pub jumps_on : {a b c : ℕ} → Jumps a b → Jumps b c → Jumps a c
  jumps_on here k = k
  jumps_on (jump h j) k = jump h (jumps_on j k)

  -- the parts of a loop
  pub record LoopAt (turns : ℕ → ℕ → ℕ) (head body next : Piece) (exits : Exits) (place to : ℕ) : Type 0 where
    pub head_at : Placed head exits place (place + head.size)
    pub body_at : Placed body (loop_exits turns place head body next) (place + head.size) (place + (head.size + body.size))
    pub next_at : Placed next exits (place + (head.size + body.size)) (place + (head.size + body.size) + next.size)
    pub back : slice_get code (place + (head.size + body.size) + next.size) ≡ Some (i.Jump place)
    pub ends : place + (head.size + (body.size + (next.size + 1))) ≡ to

  pub loop_at : (turns : ℕ → ℕ → ℕ) (head body next : Piece) {exits : Exits} {place to : ℕ} → IsSized head → IsSized body → IsSized next → Placed (loop turns head body next) exits place to
      → LoopAt turns head body next exits place to
  loop_at turns head body next {exits} {place} {to} x y z h =
      let within = loop_exits turns place head body next in
      let middle = body.at within (place + head.size) in
      let last = next.at exits (place + (head.size + body.size)) ++ i.Jump place ∷ [] in
      let near : place + head.size + body.size ≡ place + (head.size + body.size) = omega arith in
      let after_head = has_after head exits place (middle ++ last) x h.has in
      let after_body : HasAt code (place + (head.size + body.size)) last = subst (λ n. HasAt code n last) near (has_after body within (place + head.size) last y after_head) in
      record {
        head_at = record { has = has_front code place (head.at exits place) (middle ++ last) h.has; ends = refl };
        body_at = record { has = has_front code (place + head.size) middle last after_head; ends = near };
        next_at = record { has = has_front code (place + (head.size + body.size)) (next.at exits (place + (head.size + body.size))) (i.Jump place ∷ []) after_body; ends = refl };
        back = (has_after next exits (place + (head.size + body.size)) (i.Jump place ∷ []) z after_body).0;
        ends = h.ends;
      }
