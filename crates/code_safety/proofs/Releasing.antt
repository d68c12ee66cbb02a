-- The links of the frames that are left where one is given back.
-- A frame that is left has its cells and its parent. That to which it is linked lives: a caller's goes on since its activation does, and
-- one in which a body lies is left as long as the body is.
use Rattle.std.proofs.Common.{◌≡◌, ◌⊎◌, ℕ, suc, ◌+◌, List, [], ◌∷◌, length, drop, Option, Some, None, Bool, true, false, refl, sym, ap, ◌∙◌, subst, inl, inr, arith}
use Rattle.std.specs.Prelude.{slice_get, slice_index_or, not, ◌&&◌, ◌||◌, if◌then◌else◌}
use Rattle.std.proofs.lemmas.Bool.{cases_eq, eqb-true}
use Rattle.std.proofs.lemmas.List.{length-set, get_or-drop, get_or-set_same}
use Rattle.work_item.specs.declared.ids.Item.{Item}
use Rattle.work_item.specs.declared.ids.FrameId.{FrameId}
use Rattle.work_item.specs.declared.ids.BlockId.{BlockId}
use Rattle.work_item.specs.declared.cell.Cell.{Cell}
use Rattle.work_item.specs.Store.{Store, Frame, frame_at, released, is_number, is_parent, any_in, kept_one, kept, some_over}
use Rattle.work_item.specs.Conditions.{Lives}
use Rattle.stack_code.specs.Parts.{Parts}
use Rattle.code_meaning.specs.Machine.{Caller, Thread, Block, Flat}
use Rattle.code_safety.specs.Fit.{IsFit}
use Rattle.code_safety.specs.Living.{LivesAs, as_running, as_ready, as_operating, as_waiting, IsOfCaller}
use Rattle.code_safety.specs.Chains.{Origin, AtEntry, CalledIn, StartedIn, link_of, parent_of, Came, AllName, LiesIn, directly, deeper, Starts, IsStack}
use Rattle.code_safety.specs.Chains.{outermost, called, IsActive, IsLinked, AreChained}
use Rattle.code_safety.proofs.Making.{noted, noted_of, kept_first, kept_is, was_there, length-kept, there_within, left_carries}
use Rattle.code_safety.proofs.LinkedFrames.{same_frame, lives_there, there_lives}
use Rattle.code_safety.proofs.LivingThreads.{not_running, ready_once, operating_once, frame_goes, callers_older, one_owner}

-- ---- which frames are left

any_child : (number : ℕ) (frames : List (Option Frame)) → any_in number frames ≡ true → (n : ℕ) × ((x : Frame) × ((slice_index_or frames n None ≡ Some x) × (is_number number x.parent ≡ true)))
any_child number [] e = let no : false ≡ true = e in absurd (cc)
any_child number (y ∷ frames) e = go (any_child number frames) y (any_in number frames) refl e
  where
    go : (any_in number frames ≡ true → (n : ℕ) × ((x : Frame) × ((slice_index_or frames n None ≡ Some x) × (is_number number x.parent ≡ true)))) → (y : Option Frame)
        (b : Bool) → any_in number frames ≡ b → (is_parent number y || b) ≡ true → (n : ℕ) × ((x : Frame) × ((slice_index_or (y ∷ frames) n None ≡ Some x) × (is_number number x.parent ≡ true)))
    go rest None b q e = let r = rest (q ∙ e) in (suc r.0, r.1)
    go rest (Some x) b q e = first (is_number number x.parent) refl e
      where
        first : (a : Bool) → is_number number x.parent ≡ a → (a || b) ≡ true → (n : ℕ) × ((z : Frame) × ((slice_index_or (Some x ∷ frames) n None ≡ Some z) × (is_number number z.parent ≡ true)))
        first true p e = (0, (x, (refl, p)))
        first false p e = let r = rest (q ∙ e) in (suc r.0, r.1)

is_that : (number : ℕ) (o : Option FrameId) → is_number number o ≡ true → (f : FrameId) × ((o ≡ Some f) × (f.number ≡ number))
is_that number None e = let no : false ≡ true = e in absurd (cc)
is_that number (Some f) e = (f, (refl, sym (eqb-true number f.number e)))

over_kept : (b : Bool) (y : Frame) → kept_one b (Some y) ≡ Some y → y.over ≡ true → b ≡ true
over_kept true y e o = refl
over_kept false y e o = let gone : (if y.over && not false then None else Some y) ≡ Some y = e in
    let none : None ≡ Some y = sym (ap (λ c. if c && not false then None else Some y) o) ∙ gone in absurd (cc)

module _ (s : Store) (f : FrameId) where
  abbrev left : Store
  left = released s f

  in_noted : (g : FrameId) (y : Frame) → frame_at left g ≡ Some y → slice_index_or (noted s f) g.number None ≡ Some y
  in_noted g y e = kept_is s f (slice_index_or (noted s f) g.number None) (any_in g.number (drop (suc g.number) (kept 0 (noted s f)))) y (sym (kept_first (noted s f) g.number) ∙ e)

  -- what it was
  pub record Was (g : FrameId) (y : Frame) : Type 0 where
    pub frame : Frame
    pub there : frame_at s g ≡ Some frame
    pub cells : y.cells ≡ frame.cells
    pub parent : y.parent ≡ frame.parent
    pub other : (f.number ≡ g.number → ⊥) → y.over ≡ frame.over
    pub own : f.number ≡ g.number → y.over ≡ true

  pub was : (g : FrameId) (y : Frame) → frame_at left g ≡ Some y → Was g y
  was g y e =
      let w = was_there s f g y e in
      let n = noted_of s f g.number w.0 w.1.0 in
      let same : n.0 ≡ y = let both : Some n.0 ≡ Some y = sym n.1.0 ∙ in_noted g y e in cc in
      record {
        frame = w.0;
        there = w.1.0;
        cells = w.1.1;
        parent = ap (λ (z : Frame). z.parent) (sym same) ∙ n.1.1.0.parent;
        other = λ ne. ap (λ (z : Frame). z.over) (sym same ∙ n.1.1.1 ne);
        own = λ q.
            let here : frame_at s f ≡ Some w.0 = ap (λ k. slice_index_or s.frames k None) q ∙ w.1.0 in
            let set = get_or-set_same s.frames f.number (some_over (frame_at s f)) None (there_within s.frames f.number w.0 here) in
            let at : Some (record w.0 { over = true }) ≡ Some y = sym (ap some_over here) ∙ sym set ∙ ap (λ k. slice_index_or (noted s f) k None) q ∙ in_noted g y e in
            let is : record w.0 { over = true } ≡ y = cc in
            ap (λ (z : Frame). z.over) (sym is);
      }

  -- one whose end has come is left for a body that is
  pub left_settled : (g : FrameId) (y : Frame) → frame_at left g ≡ Some y → y.over ≡ true → (c : FrameId) × ((z : Frame) × ((frame_at left c ≡ Some z) × (z.parent ≡ Some g)))
  left_settled g y e o =
      let b = any_in g.number (drop (suc g.number) (kept 0 (noted s f))) in
      let one : kept_one b (Some y) ≡ Some y = ap (kept_one b) (sym (in_noted g y e)) ∙ sym (kept_first (noted s f) g.number) ∙ e in
      let c = any_child g.number (drop (suc g.number) (kept 0 (noted s f))) (over_kept b y one o) in
      let child : FrameId = record { number = suc g.number + c.0 } in
      let p = is_that g.number c.1.0.parent c.1.1.1 in
      (child, (c.1.0, (sym (get_or-drop (suc g.number) (kept 0 (noted s f)) c.0 None) ∙ c.1.1.0, p.1.0 ∙ ap (λ z. Some z) (same_frame p.0 g p.1.1))))

  pub length_left : length left.frames ≡ length s.frames
  length_left = length-kept 0 (noted s f) ∙ length-set s.frames f.number (some_over (frame_at s f))

-- ---- callers

module _ (code : Parts) (origins : List Origin) (blocks : List (Option Block)) (sites : List FrameId) (t : Item) (start : Option BlockId) where
  not_called : (f : FrameId) (o : Option BlockId) → Starts origins blocks sites t f o → (p : FrameId) → Came origins f (CalledIn p) → ⊥
  not_called f None s p c = let no : Some AtEntry ≡ Some (CalledIn p) = sym s ∙ c in cc
  not_called f (Some b) s p c = by f s.site s.inside c
    where
      by : (f g : FrameId) → LiesIn origins f g → Came origins f (CalledIn p) → ⊥
      by _ _ (directly f g came) c = let no : Some (StartedIn g) ≡ Some (CalledIn p) = sym came ∙ c in cc
      by _ _ (deeper f g h came rest) c = let no : Some (StartedIn g) ≡ Some (CalledIn p) = sym came ∙ c in cc

  -- the caller of an activation is one of its thread
  pub caller_of : (place : ℕ) (f : FrameId) (ops : List Cell) (callers : List Caller) (o : Option BlockId) → IsStack code origins blocks sites t start place f ops callers o → (g p : FrameId)
      → (f ≡ g) ⊎ IsOfCaller callers g → Came origins g (CalledIn p) → IsOfCaller callers p
  caller_of _ _ _ _ _ (outermost place f ops block level starts) g p has c = elim has as (λ _. IsOfCaller [] p) [
    | inl e ↦ not_called f start starts p (subst (λ (z : FrameId). Came origins z (CalledIn p)) (sym e) c)
    | inr k ↦ absurd k
  ]
  caller_of _ _ _ _ _ (called place f ops d callers block outer level came rest) g p has c = elim has as (λ _. IsOfCaller (d ∷ callers) p) [
    | inl e ↦ let both : Some (CalledIn d.frame) ≡ Some (CalledIn p) = sym came ∙ ap (λ (z : FrameId). slice_get origins z.number) e ∙ c in inl (cc)
    | inr k ↦ inr (caller_of d.place d.frame d.operands callers outer rest g p k c)
  ]

module _ (code : Parts) (m : Flat) (fit : IsFit code m) (chained : AreChained code m) (t : Item) (run : m.running ≡ Some t) where
  abbrev top : FrameId
  top = m.current.frame

  pub is_current : (h : Thread) → LivesAs m t h → h ≡ m.current
  is_current h l = by t h l run
    where
      by : (u : Item) (h : Thread) → LivesAs m u h → m.running ≡ Some u → h ≡ m.current
      by _ _ (as_running u e) r = refl
      by _ _ (as_ready u some) r = absurd ((ready_once code m fit u some).1.1 r)
      by _ _ (as_operating u some) r = absurd ((operating_once code m fit u some).1.1 r)
      by _ _ (as_waiting u c x here owner w) r = absurd (not_running code m fit u c x here owner w r)

  -- the caller's frame goes on, and is not that of the innermost activation
  pub record CallerGoes (p : FrameId) : Type 0 where
    pub frame : Frame
    pub here : frame_at m.store p ≡ Some frame
    pub going : frame.over ≡ false
    pub other : p.number ≡ top.number → ⊥

  pub caller_goes_on : (f p : FrameId) → Came chained.origins f (CalledIn p) → IsActive m f → CallerGoes p
  caller_goes_on f p came a =
      let z = chained.threads a.item a.thread a.living in
      let c = caller_of code chained.origins m.blocks chained.sites a.item z.start a.thread.place a.thread.frame a.thread.operands a.thread.callers a.thread.block z.stack f p a.has came in
      let g = (frame_goes code m fit a.item a.thread a.living p (inr c)).1 in
      record {
        frame = g.frame;
        here = g.here;
        going = g.going;
        other = λ e.
            let mine = (frame_goes code m fit t m.current (as_running t run) top (inl refl)).1 in
            let owner : a.item ≡ t = one_owner code m fit a.item t p top e g mine in
            let l : LivesAs m t a.thread = subst (λ k. LivesAs m k a.thread) owner a.living in
            let same : a.thread ≡ m.current = is_current a.thread l in
            let lt = callers_older code m fit t m.current (as_running t run) p (subst (λ (h : Thread). IsOfCaller h.callers p) same c) in
            omega (arith, lt, e);
      }

  -- ---- links

  module _ (n : Flat) (store : n.store ≡ released m.store top) (active : (f : FrameId) → (f.number ≡ top.number → ⊥) → IsActive m f → IsActive n f)
      (childless : (y : Frame) → frame_at n.store top ≡ Some y → y.parent ≡ None → ⊥) where
    to_left : (f : FrameId) (y : Frame) → frame_at n.store f ≡ Some y → frame_at (released m.store top) f ≡ Some y
    to_left f y e = sym (ap (λ (s : Store). frame_at s f) store) ∙ e

    of_left : (f : FrameId) (y : Frame) → frame_at (released m.store top) f ≡ Some y → frame_at n.store f ≡ Some y
    of_left f y e = ap (λ (s : Store). frame_at s f) store ∙ e

    link_left : (f : FrameId) (y : Frame) → frame_at n.store f ≡ Some y → (x : Frame) → frame_at m.store f ≡ Some x → y.parent ≡ x.parent → IsLinked chained.origins m f x → (o : Origin)
        → Came chained.origins f o → x.parent ≡ parent_of o → (g : FrameId) → link_of o ≡ Some g → Lives n.store g
    link_left f y e x there up i AtEntry came parent g l = let no : None ≡ Some g = l in absurd (cc)
    link_left f y e x there up i (CalledIn p) came parent g l =
        let c = caller_goes_on f p came (i.active (inr parent)) in
        let k = (left_carries m.store top).going p c.frame c.here c.going c.other in
        let same : p ≡ g = cc in
        subst (Lives n.store) same (there_lives n.store p k.0 (of_left p k.0 k.1.0))
    link_left f y e x there up i (StartedIn p) came parent g l =
        let same : p ≡ g = cc in
        let z = lives_there m.store p (i.link p (ap link_of (one_came f (StartedIn p) i.origin came i.came))) in
        let k = (left_carries m.store top).round f p y z.0 (to_left f y e) (up ∙ parent) (chained.older f p (StartedIn p) came refl) z.1 in
        subst (Lives n.store) same (there_lives n.store p k.0 (of_left p k.0 k.1.0))
      where
        one_came : (f : FrameId) (a b : Origin) → Came chained.origins f a → Came chained.origins f b → b ≡ a
        one_came f a b c d = let both : Some a ≡ Some b = sym c ∙ d in cc

    pub linked_released : (f : FrameId) (y : Frame) → frame_at n.store f ≡ Some y → IsLinked chained.origins n f y
    linked_released f y e =
        let w = was m.store top f y (to_left f y e) in
        let i = chained.frames f w.frame w.there in
        record {
          origin = i.origin;
          came = i.came;
          parent = w.parent ∙ i.parent;
          link = λ g l. link_left f y e w.frame w.there w.parent i i.origin i.came i.parent g l;
          names = subst (AllName chained.origins f) (sym w.cells) i.names;
          settled = λ o. let c = left_settled m.store top f y (to_left f y e) o in (c.0, (c.1.0, (of_left c.0 c.1.0 c.1.1.0, c.1.1.1)));
          active = λ h. elim (cases_eq top.number f.number) as (λ _. IsActive n f) [
            | inl q ↦ absurd (ended q w h)
            | inr ne ↦ active f (λ k. ne (sym k)) (i.active (elim h as (λ _. (w.frame.over ≡ false) ⊎ (w.frame.parent ≡ None)) [ inl o ↦ inl (sym (w.other ne) ∙ o) | inr o ↦ inr (sym w.parent ∙ o) ]))
          ];
        }
      where
        ended : top.number ≡ f.number → Was m.store top f y → (y.over ≡ false) ⊎ (y.parent ≡ None) → ⊥
        ended q w h = elim h as (λ _. ⊥) [
          | inl o ↦ let no : true ≡ false = sym (w.own q) ∙ o in cc
          | inr o ↦ childless y (ap (frame_at n.store) (same_frame top f q) ∙ e) o
        ]
