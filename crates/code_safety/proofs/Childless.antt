-- No body lives in the frame of a function that returns: each that lived would be of a thread started in a block that is entered there.
-- By induction on the number of the thread: a body there is the bottom of its thread, which was started in a block further out; that block
-- was entered in this frame, where none is left, or in a body that lies in it too, whose owner is an older thread. A body whose end has
-- come lives on for a younger one.
use Rattle.std.proofs.Common.{◌≡◌, ◌⊎◌, ℕ, zero, suc, ◌+◌, ◌≤◌, ◌<◌, List, length, Option, Some, None, Bool, true, false, refl, sym, ap, ◌∙◌, subst, inl, inr, arith}
use Rattle.std.specs.Prelude.{slice_get}
use Rattle.work_item.specs.declared.ids.Item.{Item}
use Rattle.work_item.specs.declared.ids.FrameId.{FrameId}
use Rattle.work_item.specs.declared.ids.BlockId.{BlockId}
use Rattle.work_item.specs.declared.cell.Cell.{Cell}
use Rattle.work_item.specs.Store.{Frame, frame_at}
use Rattle.stack_code.specs.declared.shape.Shape.{Shape}
use Rattle.stack_code.specs.Parts.{Parts}
use Rattle.stack_code.specs.Valid.{Reaches, IsValid}
use Rattle.code_meaning.specs.Machine.{Caller, Thread, Block, Flat, block_at}
use Rattle.code_safety.specs.Fit.{IsFit, life_at, own_blocks}
use Rattle.code_safety.specs.Living.{LivesAs, as_running, IsOfCaller, HasFrame}
use Rattle.code_safety.specs.Chains.{Origin, AtEntry, CalledIn, StartedIn, parent_of, Came, LiesIn, directly, deeper, IsStartedIn, Starts, IsStack, outermost, called, AreChained}
use Rattle.code_safety.proofs.Making.{there_within}
use Rattle.code_safety.proofs.Own.{phase_of}
use Rattle.code_safety.proofs.Chained.{lies_next, lies_between}
use Rattle.code_safety.proofs.LivingThreads.{blocks_first, callers_older, frame_goes, one_owner, stack_found, going_within, block_site}

pub body_origin : (o : Origin) (p : FrameId) → parent_of o ≡ Some p → o ≡ StartedIn p
body_origin AtEntry p e = let no : None ≡ Some p = e in cc
body_origin (CalledIn g) p e = let no : None ≡ Some p = e in cc
body_origin (StartedIn g) p e = let same : g ≡ p = cc in ap StartedIn same

module _ (code : Parts) (origins : List Origin) (blocks : List (Option Block)) (sites : List FrameId) (t : Item) (start : Option BlockId) where
  pub record Bottom (g : FrameId) : Type 0 where
    pub block : BlockId
    pub started : IsStartedIn origins blocks sites t g block

  starts_body : (f : FrameId) (o : Option BlockId) → Starts origins blocks sites t f o → (p : FrameId) → Came origins f (StartedIn p) → Bottom f
  starts_body f None s p c = let no : Some AtEntry ≡ Some (StartedIn p) = sym s ∙ c in absurd (cc)
  starts_body f (Some b) s p c = record { block = b; started = s }

  -- the frame of a body is the outermost of its thread
  pub body_at_bottom : (place : ℕ) (f : FrameId) (ops : List Cell) (callers : List Caller) (o : Option BlockId) → IsStack code origins blocks sites t start place f ops callers o → (g p : FrameId)
      → (f ≡ g) ⊎ IsOfCaller callers g → Came origins g (StartedIn p) → Bottom g
  body_at_bottom _ _ _ _ _ (outermost place f ops block level starts) g p has c = elim has as (λ _. Bottom g) [
    | inl e ↦ subst Bottom e (starts_body f start starts p (subst (λ (z : FrameId). Came origins z (StartedIn p)) (sym e) c))
    | inr k ↦ absurd k
  ]
  body_at_bottom _ _ _ _ _ (called place f ops d callers block outer level came rest) g p has c = elim has as (λ _. Bottom g) [
    | inl e ↦ absurd (let no : Some (CalledIn d.frame) ≡ Some (StartedIn p) = sym came ∙ ap (λ (z : FrameId). slice_get origins z.number) e ∙ c in cc)
    | inr k ↦ body_at_bottom d.place d.frame d.operands callers outer rest g p k c
  ]

module _ (code : Parts) (m : Flat) (v : IsValid code) (fit : IsFit code m) (chained : AreChained code m) (t : Item) (run : m.running ≡ Some t) (s : Shape) (reached : Reaches code m.current.place s)
    (none : own_blocks s ≡ 0) where
  abbrev top : FrameId
  top = m.current.frame

  abbrev At : BlockId → FrameId → Type 0
  At b f = slice_get chained.sites b.number ≡ Some f

  -- no block was entered in the innermost activation
  pub no_site : (b : BlockId) (x : Block) → block_at m.blocks b ≡ Some x → At b top → ⊥
  no_site b x here at =
      let q = block_site code m fit chained b x here in
      let site : q.site ≡ top = let both : Some q.site ≡ Some top = sym q.at ∙ at in cc in
      let theirs = (frame_goes code m fit x.owner q.thread q.lives q.site q.has).1 in
      let mine = (frame_goes code m fit t m.current (as_running t run) top (inl refl)).1 in
      let owner : x.owner ≡ t = one_owner code m fit x.owner t q.site top (ap (λ (z : FrameId). z.number) site) theirs mine in
      let current : LivesAs m x.owner m.current = subst (λ z. LivesAs m z m.current) (sym owner) (as_running t run) in
      let z = chained.threads x.owner m.current current in
      let phase = ap (λ k. (life_at fit.lives k).phase) owner ∙ phase_of code m fit t run in
      let thread = ap (λ k. (life_at fit.lives k).thread.block) owner ∙ ap (λ (h : Thread). h.block) (sym (fit.current t run)) in
      let w = going_within code m fit chained b x here phase in
      let f = stack_found code m fit chained b x here m.current current z (record { inner = w.inner; is = sym thread ∙ w.is; le = w.le }) in
      let zero_in = blocks_first code chained.origins m.blocks chained.sites x.owner z.start v.shaped m.current.place top m.current.operands m.current.callers m.current.block z.stack s
      reached ∙ none in
      let same : f.site ≡ top = let both : Some f.site ≡ Some top = sym f.at ∙ at in cc in
      elim f.has as (λ _. ⊥) [
        | inl k ↦ let some = k.0 in omega (arith, some, zero_in)
        | inr k ↦
            let lt = callers_older code m fit t m.current (as_running t run) f.site k in
            let n = ap (λ (z : FrameId). z.number) same in
            omega (arith, lt, n)
      ]

  module _ (function : (p : FrameId) → Came chained.origins top (StartedIn p) → ⊥) where
    -- no thread that lives is of a body in the frame
    climb : (n : ℕ) (u : Item) (h : Thread) → LivesAs m u h → (g : FrameId) → HasFrame h g → LiesIn chained.origins g top → u.number < n → ⊥
    climb zero u h l g has lies lt = omega (arith, lt)
    climb (suc n) u h l g has lies lt =
        let next = lies_next chained.origins g top lies in
        let z = chained.threads u h l in
        let b = body_at_bottom code chained.origins m.blocks chained.sites u z.start h.place h.frame h.operands h.callers h.block z.stack g next.0 has next.1.0 in
        let st = b.started in
        elim (lies_between chained.origins g st.site top st.inside lies function) as (λ _. ⊥) [
          | inl e ↦ no_site b.block st.block st.here (st.at ∙ ap (λ k. Some k) e)
          | inr k ↦
              let q = block_site code m fit chained b.block st.block st.here in
              let same : st.site ≡ q.site = let both : Some st.site ≡ Some q.site = sym st.at ∙ q.at in cc in
              let older = st.older in
              climb n st.block.owner q.thread q.lives q.site q.has (subst (λ y. LiesIn chained.origins y top) same k) (omega (arith, older, lt))
        ]

    none_inside : (n : ℕ) (c : FrameId) (y : Frame) → frame_at m.store c ≡ Some y → LiesIn chained.origins c top → length m.store.frames ≤ c.number + n → ⊥
    none_inside zero c y here lies le = let lt = there_within m.store.frames c.number y here in omega (arith, lt, le)
    none_inside (suc n) c y here lies le = go (λ d z at in_top further. none_inside n d z at in_top further) y.over refl
      where
        go : ((d : FrameId) (z : Frame) → frame_at m.store d ≡ Some z → LiesIn chained.origins d top → length m.store.frames ≤ d.number + n → ⊥) → (b : Bool) → y.over ≡ b → ⊥
        go later false e =
            let a = (chained.frames c y here).active (inl e) in
            climb (suc a.item.number) a.item a.thread a.living c a.has lies (omega arith)
        go later true e =
            let k = (chained.frames c y here).settled e in
            let d = k.0 in
            let i = chained.frames d k.1.0 k.1.1.0 in
            let came : Came chained.origins d (StartedIn c) = i.came ∙ ap (λ o. Some o) (body_origin i.origin c (sym i.parent ∙ k.1.1.1)) in
            let lt = chained.older d c (StartedIn c) came refl in
            later d k.1.0 k.1.1.0 (deeper d c top came lies) (omega (arith, le, lt))

    pub no_child : (c : FrameId) (y : Frame) → frame_at m.store c ≡ Some y → y.parent ≡ Some top → ⊥
    no_child c y here up =
        let i = chained.frames c y here in
        let came : Came chained.origins c (StartedIn top) = i.came ∙ ap (λ o. Some o) (body_origin i.origin top (sym i.parent ∙ up)) in
        none_inside (length m.store.frames) c y here (directly c top came) (omega arith)
