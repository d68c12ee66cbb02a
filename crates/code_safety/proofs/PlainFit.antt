-- A state stays fit where its thread goes on in the same activation.
-- `Next` (Plain) gives the activation at its next address and what it has set; that the rest stays is Own.
use Rattle.std.proofs.Common.{◌≡◌, ℕ, ◌+◌, length, Some, refl, sym, ap, ◌∙◌, subst, arith}
use Rattle.work_item.specs.declared.ids.Item.{Item}
use Rattle.stack_code.specs.declared.instr.Instr.{Instr}
use Rattle.stack_code.specs.Parts.{Parts}
use Rattle.stack_code.specs.Valid as valid
use Rattle.code_meaning.specs.Machine.{Flat, Thread, at}
use Rattle.code_safety.specs.Fit.{HasEntered, IsThread, life_at, own_blocks, own_in, IsFit}
use Rattle.code_safety.proofs.Plain.{Next}
use Rattle.code_safety.proofs.Lasting.{all_bodies_carried, goes_carried, callers_as, callers_carried}
use Rattle.code_safety.proofs.Own.{thread_of, own_fit}

module _ (code : Parts) (bound : ℕ) (m : Flat) (fit : IsFit code m) (t : Item) (run : m.running ≡ Some t) where
  abbrev here_now : IsThread code fit.births m.store m.blocks t (life_at fit.lives t).start m.current
  here_now = thread_of code m fit t run

  module _ (instr : Instr) (next : Flat) (n : Next code bound m fit.births here_now.shape instr next) where
    abbrev current : Thread
    current = at m.current next.current.place next.current.operands

    same_own : own_blocks n.shape ≡ own_blocks here_now.shape
    same_own = ap (λ bodies. own_in (length bodies) n.shape.blocks) n.bodies ∙ ap (own_in (length here_now.shape.bodies)) n.blocks

    thread : IsThread code fit.births next.store m.blocks t (life_at fit.lives t).start current
    thread =
        let k = n.store.carries in
        record {
          shape = n.shape;
          top = record {
            reached = valid.goes m.current.place here_now.shape next.current.place n.shape here_now.top.reached n.goes;
            have = n.operands;
            bodies = rw n.bodies (all_bodies_carried fit.births fit.births (λ j b e. e) m.store next.store
                (λ f. Unit {0}) k t here_now.shape.bodies m.current.frame here_now.top.goes tt here_now.top.bodies);
            goes = goes_carried fit.births fit.births (λ j b e. e) m.store next.store (λ f. Unit {0}) k t m.current.frame here_now.top.goes tt;
            blocks = rw (n.bodies, n.blocks) here_now.top.blocks;
          };
          below = here_now.below;
          callers = callers_as code fit.births next.store t (life_at fit.lives t).start m.current.frame here_now.shape n.shape m.current.callers here_now.below n.bodies
              (callers_carried code fit.births fit.births (λ j b e. e) m.store next.store (λ f. Unit {0}) k t m.current.frame.number
              (life_at fit.lives t).start m.current.frame here_now.shape m.current.callers here_now.below
              (λ g b born is lt. tt) (omega arith) here_now.callers);
          entered = subst (λ j. HasEntered m.blocks t (life_at fit.lives t).start (j + here_now.below) m.current.block) (sym same_own) here_now.entered;
        }

    pub plain_fit : IsFit code next
    plain_fit = subst (IsFit code) (sym n.others)
        (own_fit code m fit t run fit.births (λ j b e. e) next.store (λ f. Unit {0}) n.store.carries n.store.store (λ g b born ne. tt) next.shared current next.count thread refl)
