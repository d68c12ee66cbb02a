-- Taking frames away, from the youngest on.
-- For the loop of `release`, which goes from the last frame to the first: the invariant is that the frames from this place on are those
-- that are kept. A frame lies in an older one, so the younger ones have been looked at when it is its turn.
use Rattle.std.proofs.Common.{◌≡◌, ℕ, zero, suc, ◌+◌, ◌-◌, ◌<◌, ◌≤◌, List, [], ◌∷◌, length, drop, set, Option, Some, None, Bool, true, false, not, ◌&&◌, refl, ap, ◌∙◌, arith}
use Rattle.std.specs.Prelude.{if◌then◌else◌, slice_index_or, slice_set}
use Rattle.work_item.specs.declared.ids.FrameId.{FrameId}
use Rattle.work_item.specs.Store.{Store, Frame, frame_at, some_over, any_in, kept_one, kept, released}
use Rattle.interpreter_state.specs.inner.Released.{is_over, kept_from, one_ended}

-- ---- before the first, none has been looked at

pub none_yet : (xs : List (Option Frame)) (number : ℕ) → kept_from (length xs) number xs ≡ xs
none_yet [] number = refl
none_yet (x ∷ xs) number = ap (λ ys. x ∷ ys) (none_yet xs (number + 1))

pub length-kept : (xs : List (Option Frame)) (number : ℕ) → length (kept number xs) ≡ length xs
length-kept [] number = refl
length-kept (x ∷ xs) number = ap suc (length-kept xs (number + 1))

pub length-kept_from : (index number : ℕ) (xs : List (Option Frame)) → length (kept_from index number xs) ≡ length xs
length-kept_from zero number xs = length-kept xs number
length-kept_from (suc index) number [] = refl
length-kept_from (suc index) number (x ∷ xs) = ap suc (length-kept_from index (number + 1) xs)

-- ---- one more

one_here : (x : Option Frame) (lies : Bool) → (if is_over x && not lies then None else x) ≡ kept_one lies x
one_here None lies = refl
one_here (Some x) lies = refl

-- the place is looked at by a number of its own
abbrev Ended : ℕ → ℕ → List (Option Frame) → List (Option Frame)
Ended index number ys = if (is_over (slice_index_or ys index None) && not (any_in number (drop (suc index) ys))) then set ys index None else ys

under : (test : Bool) (x : Option Frame) (xs ys : List (Option Frame)) → (if test then x ∷ xs else x ∷ ys) ≡ x ∷ (if test then xs else ys)
under true x xs ys = refl
under false x xs ys = refl

beside : (test : Bool) (x y : Option Frame) (xs : List (Option Frame)) → (if test then x ∷ xs else y ∷ xs) ≡ (if test then x else y) ∷ xs
beside true x y xs = refl
beside false x y xs = refl

one_more : (index number : ℕ) (xs : List (Option Frame)) → index < length xs → Ended index (number + index) (kept_from (suc index) number xs) ≡ kept_from index number xs
one_more index number [] lt = absurd (omega arith)
one_more zero number (x ∷ xs) lt =
    let later = kept (number + 1) xs in
    let e : number + 0 ≡ number = omega arith in
    ap (λ k. if (is_over x && not (any_in k later)) then None ∷ later else x ∷ later) e
    ∙ beside (is_over x && not (any_in number later)) None x later
    ∙ ap (λ y. y ∷ later) (one_here x (any_in number later))
one_more (suc index) number (x ∷ xs) lt =
    let ys = kept_from (suc index) (number + 1) xs in
    let e : number + suc index ≡ (number + 1) + index = omega arith in
    ap (λ k. Ended (suc index) k (x ∷ ys)) e
    ∙ under (is_over (slice_index_or ys index None) && not (any_in ((number + 1) + index) (drop (suc index) ys))) x (set ys index None) ys
    ∙ ap (λ zs. x ∷ zs) (one_more index (number + 1) xs (omega arith))

ended_is : (index : ℕ) (ys : List (Option Frame)) → one_ended index ys ≡ Ended index (0 + index) ys
ended_is index ys =
    let e : index + 1 ≡ suc index = omega arith in
    let z : index ≡ 0 + index = omega arith in
    ap (λ k. if (is_over (slice_index_or ys index None) && not (any_in index (drop k ys))) then set ys index None else ys) e
    ∙ ap (λ k. Ended index k ys) z

one_before : (index : ℕ) (xs ys : List (Option Frame)) → suc index ≤ length xs → ys ≡ kept_from (suc index) 0 xs → one_ended index ys ≡ kept_from index 0 xs
one_before index xs ys le e = ap (λ zs. one_ended index zs) e ∙ ended_is index (kept_from (suc index) 0 xs) ∙ one_more index 0 xs (omega arith)

pub one_ended_more : (index : ℕ) (xs ys : List (Option Frame)) → 0 < index → index ≤ length xs → ys ≡ kept_from index 0 xs → one_ended (index - 1) ys ≡ kept_from (index - 1) 0 xs
one_ended_more index xs ys lt le e =
    let k : index ≡ suc (index - 1) = omega arith in
    one_before (index - 1) xs ys (omega arith) (e ∙ ap (λ n. kept_from n 0 xs) k)

same_store : (s t : Store) → s.globals ≡ t.globals → s.frames ≡ t.frames → s ≡ t
same_store s t g h = ap (λ x. record { globals = x; frames = s.frames }) g ∙ ap (λ x. record { globals = t.globals; frames = x }) h

pub all_kept : (s t u : Store) (f : FrameId) (n : ℕ) → n ≡ 0 → s.globals ≡ u.globals → s.frames ≡ kept_from n 0 u.frames
    → u ≡ record t { frames = slice_set t.frames f.number (some_over (frame_at t f)) } → s ≡ released t f
all_kept s t u f n z g h e =
    let k : kept_from n 0 u.frames ≡ kept 0 u.frames = ap (λ i. kept_from i 0 u.frames) z in
    let a : s.frames ≡ kept 0 (slice_set t.frames f.number (some_over (frame_at t f))) = h ∙ k ∙ ap (λ (x : Store). kept 0 x.frames) e in
    let b : s.globals ≡ t.globals = g ∙ ap (λ (x : Store). x.globals) e in
    same_store s (released t f) b a
