-- New frames, and what of the others is kept when one is given back.
-- A new frame has the next number and changes no other. Where one is given back its end is noted, and those whose end has come go if
-- nothing lies in them; of each that is left cells and parent are as they were.
use Rattle.std.proofs.Common.{◌≡◌, ◌⊎◌, ℕ, zero, suc, ◌+◌, ◌-◌, ◌<◌, ◌^◌, List, [], ◌∷◌, ◌++◌, length, length-append, drop, Option, Some, None, Bool, true, false, refl, sym, ap, ◌∙◌, subst, inl}
use Rattle.std.proofs.Common.{inr, arith}
use Rattle.std.specs.Prelude.{slice_get, slice_index_or, slice_set, not, ◌&&◌, ◌||◌, if◌then◌else◌}
use Rattle.std.proofs.lemmas.Bool.{cases_eq, cases_lt, eq-eqb}
use Rattle.std.proofs.lemmas.List.{length-set, get_or-set_other, get_or-set_same, get_or-drop}
use Rattle.work_item.specs.declared.ids.FrameId.{FrameId}
use Rattle.work_item.specs.declared.cell.Cell.{Cell}
use Rattle.work_item.specs.Store.{Store, Frame, frame_at, next_frame, made, released, is_number, is_parent, any_in, kept_one, kept, some_over}
use Rattle.stack_code.specs.Parts.{Parts}
use Rattle.code_safety.specs.Fit.{Birth, Born, AreSlots, IsFrame, IsStore}
use Rattle.code_safety.proofs.Lasting.{Grown, Outline, Carries, frame_grown}
use Rattle.code_safety.proofs.Settings.{same_outline}

some_same : (x y : Frame) → Some x ≡ Some y → x ≡ y
some_same x y e = cc

-- ---- one more at the end of a list

pub grown_one : (births : List Birth) (b : Birth) → Grown births (births ++ b ∷ [])
grown_one [] b n x e = let no : None ≡ Some x = e in cc
grown_one (y ∷ births) b zero x e = e
grown_one (y ∷ births) b (suc n) x e = grown_one births b n x e

pub last_one : (births : List Birth) (b : Birth) → slice_get (births ++ b ∷ []) (length births) ≡ Some b
last_one [] b = refl
last_one (y ∷ births) b = last_one births b

-- an element of a list that is one longer
pub at_end : {A : Type 0} (xs : List (Option A)) (x : A) (n : ℕ) (y : A) → slice_index_or (xs ++ Some x ∷ []) n None ≡ Some y → (slice_index_or xs n None ≡ Some y) ⊎ ((n ≡ length xs) × (x ≡ y))
at_end [] x zero y e = let k : x ≡ y = cc in inr (refl, k)
at_end [] x (suc n) y e = let no : None ≡ Some y = e in cc
at_end (z ∷ xs) x zero y e = inl e
at_end (z ∷ xs) x (suc n) y e = elim (at_end xs x n y e) as (λ _. (slice_index_or xs n None ≡ Some y) ⊎ ((suc n ≡ suc (length xs)) × (x ≡ y))) [
  | inl p ↦ inl p
  | inr p ↦ inr (ap suc p.0, p.1)
]

pub still_there : {A : Type 0} (xs : List (Option A)) (x : Option A) (n : ℕ) (y : A) → slice_index_or xs n None ≡ Some y → slice_index_or (xs ++ x ∷ []) n None ≡ Some y
still_there [] x n y e = let no : None ≡ Some y = e in cc
still_there (z ∷ xs) x zero y e = e
still_there (z ∷ xs) x (suc n) y e = still_there xs x n y e

pub new_there : {A : Type 0} (xs : List (Option A)) (x : A) → slice_index_or (xs ++ Some x ∷ []) (length xs) None ≡ Some x
new_there [] x = refl
new_there (z ∷ xs) x = new_there xs x

pub there_within : {A : Type 0} (xs : List (Option A)) (n : ℕ) (y : A) → slice_index_or xs n None ≡ Some y → n < length xs
there_within [] n y e = let no : None ≡ Some y = e in cc
there_within (z ∷ xs) zero y e = omega arith
there_within (z ∷ xs) (suc n) y e = let r = there_within xs n y e in omega (arith, r)

-- ---- a new frame

module _ (code : Parts) (births : List Birth) (s : Store) (h : IsStore code births s) (parent : Option FrameId) (cells : List Cell) (birth : Birth)
    (slots : AreSlots code (births ++ birth ∷ []) birth.home cells) (long : length cells ≡ birth.slots) (short : length cells < 2 ^ 32) where
  abbrev pub new_frame : Frame
  new_frame = record { parent = parent; cells = cells; over = false }

  abbrev pub after : Store
  after = made s parent cells

  pub new_born : Born (births ++ birth ∷ []) (next_frame s) birth
  new_born = subst (λ n. slice_get (births ++ birth ∷ []) n ≡ Some birth) h.long (last_one births birth)

  pub made_store : IsStore code (births ++ birth ∷ []) after
  made_store = record {
    long = length-append births (birth ∷ []) ∙ ap (λ n. n + 1) h.long ∙ sym (length-append s.frames (Some new_frame ∷ []));
    globals = h.globals;
    few = h.few;
    frames = frames;
  }
    where
      frames : (f : FrameId) (x : Frame) → frame_at after f ≡ Some x → IsFrame code (births ++ birth ∷ []) f x
      frames f x e = elim (at_end s.frames new_frame f.number x e) as (λ _. IsFrame code (births ++ birth ∷ []) f x) [
        | inl p ↦ frame_grown code births (births ++ birth ∷ []) (grown_one births birth) f x (h.frames f x p)
        | inr p ↦ subst (IsFrame code (births ++ birth ∷ []) f) p.1 (record {
          birth = birth;
          born = subst (λ n. slice_get (births ++ birth ∷ []) n ≡ Some birth) (sym p.0) new_born;
          slots = slots;
          long = long;
          short = short;
        })
      ]

  pub made_carries : Carries s after (λ f. Unit {0})
  made_carries = record {
    going = λ f x e g p. (x, (still_there s.frames (Some new_frame) f.number x e, (same_outline x, g)));
    round = λ f p y z e up lt there. (z, (still_there s.frames (Some new_frame) p.number z there, same_outline z));
  }

-- ---- a frame is given back

kept_drop : (frames : List (Option Frame)) (k n : ℕ) → drop n (kept k frames) ≡ kept (k + n) (drop n frames)
kept_drop frames k zero = let e : k + 0 ≡ k = omega arith in rw e refl
kept_drop [] k (suc n) = refl
kept_drop (x ∷ frames) k (suc n) = let e : k + suc n ≡ (k + 1) + n = omega arith in rw e (kept_drop frames (k + 1) n)

kept_at : (frames : List (Option Frame)) (k n : ℕ) → slice_index_or (kept k frames) n None ≡ kept_one (any_in (k + n) (drop (suc n) (kept k frames))) (slice_index_or frames n None)
kept_at [] k n = refl
kept_at (x ∷ frames) k zero = let e : k + 0 ≡ k = omega arith in rw e refl
kept_at (x ∷ frames) k (suc n) = let e : k + suc n ≡ (k + 1) + n = omega arith in rw e (kept_at frames (k + 1) n)

pub kept_first : (frames : List (Option Frame)) (n : ℕ) → slice_index_or (kept 0 frames) n None ≡ kept_one (any_in n (drop (suc n) (kept 0 frames))) (slice_index_or frames n None)
kept_first frames n =
    let e : 0 + n ≡ n = omega arith in
    subst (λ k. slice_index_or (kept 0 frames) n None ≡ kept_one (any_in k (drop (suc n) (kept 0 frames))) (slice_index_or frames n None)) e (kept_at frames 0 n)

any_found : (frames : List (Option Frame)) (number n : ℕ) (x : Frame) → slice_index_or frames n None ≡ Some x → is_number number x.parent ≡ true → any_in number frames ≡ true
any_found [] number n x e p = let no : None ≡ Some x = e in cc
any_found (y ∷ frames) number zero x e p = let t : is_parent number y ≡ true = ap (is_parent number) e ∙ p in rw t refl
any_found (y ∷ frames) number (suc n) x e p = let t = any_found frames number n x e p in go (is_parent number y) (any_in number frames) t
  where
    go : (a b : Bool) → b ≡ true → (a || b) ≡ true
    go true b e = refl
    go false b e = e

kept_some : (b : Bool) (x : Frame) → (b ≡ true) ⊎ (x.over ≡ false) → kept_one b (Some x) ≡ Some x
kept_some b x h = go x.over b refl h
  where
    go : (o b : Bool) → x.over ≡ o → (b ≡ true) ⊎ (o ≡ false) → (if o && not b then None else Some x) ≡ Some x
    go false b e h = refl
    go true true e h = refl
    go true false e h = elim h [ inl k ↦ let n : false ≡ true = k in absurd (cc) | inr k ↦ let n : true ≡ false = k in absurd (cc) ]

module _ (s : Store) (f : FrameId) where
  abbrev pub noted : List (Option Frame)
  noted = slice_set s.frames f.number (some_over (frame_at s f))

  abbrev left : Store
  left = released s f

  -- the same frame, but that its end may be noted
  pub record Noted (x y : Frame) : Type 0 where
    pub parent : y.parent ≡ x.parent
    pub cells : y.cells ≡ x.cells

  pub noted_of : (n : ℕ) (x : Frame) → slice_index_or s.frames n None ≡ Some x → (y : Frame) × ((slice_index_or noted n None ≡ Some y) × (Noted x y × ((f.number ≡ n → ⊥) → y ≡ x)))
  noted_of n x e = elim (cases_eq f.number n) as (λ _. (y : Frame) × ((slice_index_or noted n None ≡ Some y) × (Noted x y × ((f.number ≡ n → ⊥) → y ≡ x)))) [
    | inl q ↦
        let here : frame_at s f ≡ Some x = ap (λ k. slice_index_or s.frames k None) q ∙ e in
        let set = get_or-set_same s.frames f.number (some_over (frame_at s f)) None (there_within s.frames f.number x here) in
        (record x { over = true }, (ap (λ k. slice_index_or noted k None) (sym q) ∙ set ∙ ap some_over here, (record { parent = refl; cells = refl }, λ ne. absurd (ne q))))
    | inr ne ↦ (x, (get_or-set_other s.frames f.number n (some_over (frame_at s f)) None (λ e. ne (sym e)) ∙ e, (record { parent = refl; cells = refl }, λ k. refl)))
  ]

  kept_from : (n : ℕ) (y : Frame) → slice_index_or noted n None ≡ Some y → (any_in n (drop (suc n) (kept 0 noted)) ≡ true) ⊎ (y.over ≡ false) → slice_index_or left.frames n None ≡ Some y
  kept_from n y e h = kept_first noted n ∙ ap (kept_one (any_in n (drop (suc n) (kept 0 noted)))) e ∙ kept_some (any_in n (drop (suc n) (kept 0 noted))) y h

  left_going : (g : FrameId) (x : Frame) → frame_at s g ≡ Some x → x.over ≡ false → (g.number ≡ f.number → ⊥) → frame_at left g ≡ Some x
  left_going g x e going ne =
      let n = noted_of g.number x e in
      let same : n.0 ≡ x = n.1.1.1 (λ q. ne (sym q)) in
      kept_from g.number x (n.1.0 ∙ ap (λ z. Some z) same) (inr going)

  left_round : (g p : FrameId) (y z : Frame) → frame_at left g ≡ Some y → y.parent ≡ Some p → p.number < g.number → frame_at s p ≡ Some z → (w : Frame) × ((frame_at left p ≡ Some w) × Outline z w)
  left_round g p y z e up lt there =
      let n = noted_of p.number z there in
      let further : suc p.number + (g.number - suc p.number) ≡ g.number = omega (arith, lt) in
      let child : slice_index_or (drop (suc p.number) (kept 0 noted)) (g.number - suc p.number) None ≡ Some y =
      get_or-drop (suc p.number) (kept 0 noted) (g.number - suc p.number) None ∙ ap (λ k. slice_index_or (kept 0 noted) k None) further ∙ e in
      let lies : is_number p.number y.parent ≡ true = ap (is_number p.number) up ∙ eq-eqb p.number p.number refl in
      let any = any_found (drop (suc p.number) (kept 0 noted)) p.number (g.number - suc p.number) y child lies in
      (n.0, (kept_from p.number n.0 n.1.0 (inl any), record { parent = n.1.1.0.parent; slots = ap length n.1.1.0.cells }))

  pub left_carries : Carries s left (λ g. g.number ≡ f.number → ⊥)
  left_carries = record {
    going = λ g x e going ne. (x, (left_going g x e going ne, (same_outline x, going)));
    round = left_round;
  }

  pub kept_is : (o : Option Frame) (b : Bool) (y : Frame) → kept_one b o ≡ Some y → o ≡ Some y
  kept_is None b y e = e
  kept_is (Some x) b y e = go (x.over && not b) e
    where
      go : (c : Bool) → (if c then None else Some x) ≡ Some y → Some x ≡ Some y
      go true e = let no : None ≡ Some y = e in cc
      go false e = e

  over_is : (o : Option Frame) (y : Frame) → some_over o ≡ Some y → (x : Frame) × ((o ≡ Some x) × (y.cells ≡ x.cells))
  over_is None y e = let no : None ≡ Some y = e in cc
  over_is (Some x) y e = (x, (refl, sym (ap (λ (z : Frame). z.cells) (some_same (record x { over = true }) y e))))

  -- a frame that is left was there
  pub was_there : (g : FrameId) (y : Frame) → frame_at left g ≡ Some y → (x : Frame) × ((frame_at s g ≡ Some x) × (y.cells ≡ x.cells))
  was_there g y e =
      let n : slice_index_or noted g.number None ≡ Some y =
      kept_is (slice_index_or noted g.number None) (any_in g.number (drop (suc g.number) (kept 0 noted))) y (sym (kept_first noted g.number) ∙ e) in
      elim (cases_eq f.number g.number) as (λ _. (x : Frame) × ((frame_at s g ≡ Some x) × (y.cells ≡ x.cells))) [
        | inl q ↦ elim (cases_lt f.number (length s.frames)) as (λ _. (x : Frame) × ((frame_at s g ≡ Some x) × (y.cells ≡ x.cells))) [
          | inl lt ↦
              let set = get_or-set_same s.frames f.number (some_over (frame_at s f)) None lt in
              let o = over_is (frame_at s f) y (sym set ∙ ap (λ k. slice_index_or noted k None) q ∙ n) in
              (o.0, (ap (λ k. slice_index_or s.frames k None) (sym q) ∙ o.1.0, o.1.1))
          | inr le ↦ absurd (let long = length-set s.frames f.number (some_over (frame_at s f)) in let w = there_within noted g.number y n in omega (arith, long, w, le, q))
        ]
        | inr ne ↦ (y, (sym (get_or-set_other s.frames f.number g.number (some_over (frame_at s f)) None (λ e. ne (sym e))) ∙ n, refl))
      ]

pub length-kept : (k : ℕ) (frames : List (Option Frame)) → length (kept k frames) ≡ length frames
length-kept k [] = refl
length-kept k (x ∷ frames) = ap suc (length-kept (k + 1) frames)

pub left_store : (code : Parts) (births : List Birth) (s : Store) (f : FrameId) → IsStore code births s → IsStore code births (released s f)
left_store code births s f h = record {
  long = h.long ∙ sym (length-kept 0 (slice_set s.frames f.number (some_over (frame_at s f))) ∙ length-set s.frames f.number (some_over (frame_at s f)));
  globals = h.globals;
  few = h.few;
  frames = λ g y e.
      let w = was_there s f g y e in
      let i = h.frames g w.0 w.1.0 in
      record {
        birth = i.birth;
        born = i.born;
        slots = subst (AreSlots code births i.birth.home) (sym w.1.1) i.slots;
        long = subst (λ (cells : List Cell). length cells ≡ i.birth.slots) (sym w.1.1) i.long;
        short = subst (λ (cells : List Cell). length cells < 2 ^ 32) (sym w.1.1) i.short;
      };
}
