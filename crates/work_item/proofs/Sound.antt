-- The table keeps its counts.
-- `IsSound`: each frame that lives has the count of its children, and the words are their sum. It is kept where a frame is changed, made or
-- taken away; the two last change the count of the parent too, so each is shown for the list before the parent is counted and then for the
-- whole.
use Rattle.std.proofs.Common.{◌≡◌, ℕ, ◌+◌, ◌-◌, ◌<◌, ◌≤◌, ◌^◌, List, [], ◌∷◌, ◌++◌, length, Option, Some, None, IsSome, IsSomeAnd}
use Rattle.std.proofs.Common.{IfSome, inl, inr, refl, sym, ap, ◌∙◌, subst, arith, set, nat_eq, get_or-set_same, eq-eqb, ne_eqb}
use Rattle.std.proofs.lemmas.Bool.{cases_eq}
use Rattle.std.proofs.lemmas.List.{map-set, map-append, length-map}
use Rattle.std.proofs.Math.ListN.{get_or-map, get_or-append}
use Rattle.std.proofs.Math.Seq.{map-set_same}
use Rattle.work_item.specs.declared.ids.FrameId.{FrameId}
use Rattle.work_item.specs.declared.table.Live.{Live}
use Rattle.work_item.specs.Store.{Frame, is_number, all_words}
use Rattle.work_item.specs.Table.{at, children_of}
use Rattle.work_item.specs.inner.Kept.{IsRooted, LivesIn, frame_of, frames_of, live_at, Counts, IsSound}
use Rattle.work_item.specs.inner.Kept.{one_more, one_less, with_more, with_less, CanCountMore, CanCountLess}
use Rattle.work_item.proofs.Children.{within, some_of, is_there, other, pushed, one_if, is_its_parent, parent_is_at, children-set, children-push}
use Rattle.work_item.proofs.Children.{children_same, children_few, one_at_least, unborn, words-push, words_same, words_gone, rooted_same, rooted_gone, rooted_made}

pub frames_at : (lives : List (Option Live)) (n : ℕ) → at (frames_of lives) n ≡ frame_of (live_at lives n)
frames_at lives n = get_or-map frame_of lives n None

pub frame_is : (lives : List (Option Live)) (n : ℕ) (x : Live) → live_at lives n ≡ Some x → at (frames_of lives) n ≡ frame_of (Some x)
frame_is lives n x e = frames_at lives n ∙ ap frame_of e

-- what contracts see at a number is kept there
pub live_there : (lives : List (Option Live)) (n : ℕ) → IsSome (at (frames_of lives) n) → (x : Live) × (live_at lives n ≡ Some x)
live_there lives n l = go (live_at lives n) refl
  where
    go : (o : Option Live) → live_at lives n ≡ o → (x : Live) × (live_at lives n ≡ Some x)
    go None e =
        let x = some_of (at (frames_of lives) n) l in
        let no : None ≡ Some x.0 = sym (frames_at lives n ∙ ap frame_of e) ∙ x.1 in
        absurd (cc)
    go (Some x) e = (x, e)

-- ---- the counts, one more and one less

abbrev LivesAt : List (Option Live) → Option FrameId → Type 0
LivesAt lives parent = IfSome parent (λ f. IsSome (live_at lives f.number))

pub counts_at : (lives : List (Option Live)) (t u : List (Option Frame)) (n : ℕ) (x y : Live) → Counts lives t → live_at lives n ≡ Some x → y.children ≡ children_of u n
    → ((m : ℕ) → (n ≡ m → ⊥) → children_of u m ≡ children_of t m) → Counts (set lives n (Some y)) u
counts_at lives t u n x y c e k h m z ez =
    elim (cases_eq n m) as (λ _. z.children ≡ children_of u m) [
      | inl q ↦
          let here : live_at (set lives n (Some y)) m ≡ Some y = subst (λ j. live_at (set lives n (Some y)) j ≡ Some y) q (get_or-set_same lives n (Some y) None (within lives n x e)) in
          let is : y ≡ z = (let g : Some y ≡ Some z = sym here ∙ ez in cc) in
          sym (ap (λ w. w.children) is) ∙ k ∙ ap (children_of u) q
      | inr ne ↦ c m z (sym (other lives n m (Some y) ne) ∙ ez) ∙ sym (h m ne)
    ]

apart : (m k : ℕ) → (k ≡ m → ⊥) → one_if (nat_eq m k) ≡ 0
apart m k ne = ap one_if (ne_eqb m k (λ e. ne (sym e)))

alike : (m : ℕ) → one_if (nat_eq m m) ≡ 1
alike m = ap one_if (eq-eqb m m refl)

pub counts_more : (lives : List (Option Live)) (t u : List (Option Frame)) (p : Option FrameId) → Counts lives t → LivesAt lives p
    → ((m : ℕ) → children_of u m ≡ children_of t m + one_if (is_number m p)) → Counts (with_more lives p) u
counts_more lives t u None c l h = λ m z e. omega (arith, c m z e, h m)
counts_more lives t u (Some f) c l h =
    let x = some_of (live_at lives f.number) l in
    let k = c f.number x.0 x.1 in
    let here : x.0.children + 1 ≡ children_of u f.number = omega (arith, k, h f.number, alike f.number) in
    let rest = (λ (m : ℕ) (ne : f.number ≡ m → ⊥). let a : children_of u m ≡ children_of t m = omega (arith, h m, apart m f.number ne) in a) in
    subst (λ o. Counts (set lives f.number (one_more o)) u) (sym x.1) (counts_at lives t u f.number x.0 (record x.0 { children = x.0.children + 1 }) c x.1 here rest)

pub counts_less : (lives : List (Option Live)) (t u : List (Option Frame)) (p : Option FrameId) → Counts lives t → LivesAt lives p
    → ((m : ℕ) → children_of u m + one_if (is_number m p) ≡ children_of t m) → Counts (with_less lives p) u
counts_less lives t u None c l h = λ m z e. omega (arith, c m z e, h m)
counts_less lives t u (Some f) c l h =
    let x = some_of (live_at lives f.number) l in
    let k = c f.number x.0 x.1 in
    let here : x.0.children - 1 ≡ children_of u f.number = omega (arith, k, h f.number, alike f.number) in
    let rest = (λ (m : ℕ) (ne : f.number ≡ m → ⊥). let a : children_of u m ≡ children_of t m = omega (arith, h m, apart m f.number ne) in a) in
    subst (λ o. Counts (set lives f.number (one_less o)) u) (sym x.1) (counts_at lives t u f.number x.0 (record x.0 { children = x.0.children - 1 }) c x.1 here rest)

same_more : (lives : List (Option Live)) (p : Option FrameId) → frames_of (with_more lives p) ≡ frames_of lives
same_more lives None = refl
same_more lives (Some f) = map-set_same frame_of lives f.number (one_more (live_at lives f.number)) None (go (live_at lives f.number))
  where
    go : (o : Option Live) → frame_of (one_more o) ≡ frame_of o
    go None = refl
    go (Some x) = refl

same_less : (lives : List (Option Live)) (p : Option FrameId) → frames_of (with_less lives p) ≡ frames_of lives
same_less lives None = refl
same_less lives (Some f) = map-set_same frame_of lives f.number (one_less (live_at lives f.number)) None (go (live_at lives f.number))
  where
    go : (o : Option Live) → frame_of (one_less o) ≡ frame_of o
    go None = refl
    go (Some x) = refl

-- ---- a frame whose parent and number of cells stay

pub sound_same : (lives : List (Option Live)) (words n : ℕ) (x y : Live) → IsSound lives words → live_at lives n ≡ Some x → y.parent ≡ x.parent → y.children ≡ x.children
    → length y.cells ≡ length x.cells → IsSound (set lives n (Some y)) words
sound_same lives words n x y s e parent children cells = record {
  rooted = subst IsRooted (sym frames) (rooted_same t n fx fy s.rooted here parent);
  counts = subst (λ u. Counts (set lives n (Some y)) u) (sym frames) (counts_at lives t (set t n (Some fy)) n x y s.counts e (children ∙ s.counts n x e ∙ sym (as_many n)) (λ m ne. as_many m));
  words_are = s.words_are ∙ sym (words_same t n fx fy here cells) ∙ ap all_words (sym frames);
}
  where
    t : List (Option Frame)
    t = frames_of lives

    fx : Frame
    fx = record { parent = x.parent; cells = x.cells; over = x.over }

    fy : Frame
    fy = record { parent = y.parent; cells = y.cells; over = y.over }

    here : at (frames_of lives) n ≡ Some (record { parent = x.parent; cells = x.cells; over = x.over })
    here = frame_is lives n x e

    frames : frames_of (set lives n (Some y)) ≡ set (frames_of lives) n (Some (record { parent = y.parent; cells = y.cells; over = y.over }))
    frames = map-set frame_of lives n (Some y)

    as_many : (m : ℕ) → children_of (set (frames_of lives) n (Some (record { parent = y.parent; cells = y.cells; over = y.over }))) m ≡ children_of (frames_of lives) m
    as_many m = children_same (frames_of lives) n (record { parent = x.parent; cells = x.cells; over = x.over })
        (record { parent = y.parent; cells = y.cells; over = y.over }) m here parent

-- ---- a new frame

counts_pushed : (lives : List (Option Live)) (t : List (Option Frame)) (new : Live) → Counts lives t → IsRooted t → length t ≡ length lives → new.children ≡ 0 → Counts (lives ++ Some new ∷ []) t
counts_pushed lives t new c r l none m z e =
    elim (pushed lives new m z e) as (λ _. z.children ≡ children_of t m) [
      | inl was ↦ c m z was
      | inr is ↦
          let zero_here : z.children ≡ 0 = sym (ap (λ w. w.children) is.1) ∙ none in
          zero_here ∙ sym (unborn t m r (omega (arith, is.0)))
    ]

lives_on : (lives : List (Option Live)) (p : Option FrameId) (new : Live) → LivesIn (frames_of lives) p → LivesAt (lives ++ Some new ∷ []) p
lives_on lives None new l = tt
lives_on lives (Some f) new l =
    let x = live_there lives f.number l in
    is_there (live_at (lives ++ Some new ∷ []) f.number) x.0 (get_or-append lives (Some new ∷ []) None f.number (within lives f.number x.0 x.1) ∙ x.1)

pub sound_made : (lives : List (Option Live)) (words : ℕ) (new : Live) → IsSound lives words → LivesIn (frames_of lives) new.parent → new.children ≡ 0
    → IsSound (with_more (lives ++ Some new ∷ []) new.parent) (words + (length new.cells + 4))
sound_made lives words new s alive none =
    let fnew : Frame = record { parent = new.parent; cells = new.cells; over = new.over } in
    let t = frames_of lives in
    let frames : frames_of (with_more (lives ++ Some new ∷ []) new.parent) ≡ t ++ Some fnew ∷ [] = same_more (lives ++ Some new ∷ []) new.parent ∙ map-append frame_of lives (Some new ∷ []) in
    let counted = counts_pushed lives t new s.counts s.rooted (length-map lives frame_of) none in
    record {
      rooted = subst IsRooted (sym frames) (rooted_made t fnew s.rooted alive);
      counts = subst (λ u. Counts (with_more (lives ++ Some new ∷ []) new.parent) u) (sym frames)
          (counts_more (lives ++ Some new ∷ []) t (t ++ Some fnew ∷ []) new.parent counted (lives_on lives new.parent new alive) (λ m. children-push t (Some fnew) m));
      words_are = ap (λ k. k + (length new.cells + 4)) s.words_are ∙ sym (words-push t (Some fnew)) ∙ ap all_words (sym frames);
    }

pub can_more : (lives : List (Option Live)) (words : ℕ) (p : Option FrameId) (new : Live) → IsSound lives words → LivesIn (frames_of lives) p → all_words (frames_of lives) + 4 < 2 ^ 64
    → CanCountMore (lives ++ Some new ∷ []) p
can_more lives words None new s alive few = tt
can_more lives words (Some f) new s alive few =
    let x = live_there lives f.number alive in
    let e : live_at (lives ++ Some new ∷ []) f.number ≡ Some x.0 = get_or-append lives (Some new ∷ []) None f.number (within lives f.number x.0 x.1) ∙ x.1 in
    let c = s.counts f.number x.0 x.1 in
    let small : x.0.children + 1 < 2 ^ 64 = omega (arith, c, children_few (frames_of lives) f.number, few) in
    subst (λ o. IsSomeAnd o (λ y. y.children + 1 < 2 ^ 64)) (sym e) small

pub same_pushed : (lives : List (Option Live)) (new : Live) (p : Option FrameId) → frames_of (with_more (lives ++ Some new ∷ []) p) ≡ frames_of lives ++ frame_of (Some new) ∷ []
same_pushed lives new p = same_more (lives ++ Some new ∷ []) p ∙ map-append frame_of lives (Some new ∷ [])

-- ---- a frame that is gone

counts_gone : (lives : List (Option Live)) (t : List (Option Frame)) (n : ℕ) (x : Live) → Counts lives t → live_at lives n ≡ Some x → Counts (set lives n None) t
counts_gone lives t n x c e m z ez =
    elim (cases_eq n m) as (λ _. z.children ≡ children_of t m) [
      | inl q ↦
          let here : live_at (set lives n None) m ≡ None = subst (λ j. live_at (set lives n None) j ≡ None) q (get_or-set_same lives n None None (within lives n x e)) in
          let no : None ≡ Some z = sym here ∙ ez in
          absurd (cc)
      | inr ne ↦ c m z (sym (other lives n m None ne) ∙ ez)
    ]

-- the parent stays, and counts the frame that goes
parent_stays : (lives : List (Option Live)) (words n : ℕ) (x : Live) (p : Option FrameId) → IsSound lives words → live_at lives n ≡ Some x → x.parent ≡ p
    → IfSome p (λ f. IsSomeAnd (live_at (set lives n None) f.number) (λ y. 0 < y.children))
parent_stays lives words n x None s e q = tt
parent_stays lives words n x (Some f) s e q =
    let t = frames_of lives in
    let here = frame_is lives n x e in
    let up = s.rooted n (record { parent = x.parent; cells = x.cells; over = x.over }) f here q in
    let y = live_there lives f.number up.1 in
    let ne : n ≡ f.number → ⊥ = (λ k. omega (arith, up.0, k)) in
    let stays : live_at (set lives n None) f.number ≡ Some y.0 = other lives n f.number None ne ∙ y.1 in
    let mine = is_its_parent f.number (at t n) (record { parent = x.parent; cells = x.cells; over = x.over }) f here q refl in
    let some : 0 < y.0.children = omega (arith, one_at_least t n f.number mine, s.counts f.number y.0 y.1) in
    subst (λ o. IsSomeAnd o (λ z. 0 < z.children)) (sym stays) some

pub can_less : (lives : List (Option Live)) (words n : ℕ) (x : Live) → IsSound lives words → live_at lives n ≡ Some x → CanCountLess (set lives n None) x.parent
can_less lives words n x s e = parent_stays lives words n x x.parent s e refl

some_at : (lives : List (Option Live)) (p : Option FrameId) → IfSome p (λ f. IsSomeAnd (live_at lives f.number) (λ y. 0 < y.children)) → LivesAt lives p
some_at lives None h = tt
some_at lives (Some f) h = go (live_at lives f.number) h
  where
    go : (o : Option Live) → IsSomeAnd o (λ y. 0 < y.children) → IsSome o
    go None k = absurd k
    go (Some y) k = refl

pub sound_gone : (lives : List (Option Live)) (words n : ℕ) (x : Live) → IsSound lives words → live_at lives n ≡ Some x → children_of (frames_of lives) n ≡ 0
    → IsSound (with_less (set lives n None) x.parent) (words - (length x.cells + 4))
sound_gone lives words n x s e none =
    let fx : Frame = record { parent = x.parent; cells = x.cells; over = x.over } in
    let t = frames_of lives in
    let here : at t n ≡ Some fx = frame_is lives n x e in
    let frames : frames_of (with_less (set lives n None) x.parent) ≡ set t n None = same_less (set lives n None) x.parent ∙ map-set frame_of lives n None in
    let fewer = (λ (m : ℕ). let a : children_of (set t n None) m + one_if (is_number m x.parent)
    ≡ children_of t m = omega (arith, children-set t n None m (within t n fx here), ap one_if (parent_is_at m (at t n) fx here)) in a) in
    record {
      rooted = subst IsRooted (sym frames) (rooted_gone t n fx s.rooted here none);
      counts = subst (λ u. Counts (with_less (set lives n None) x.parent) u) (sym frames)
          (counts_less (set lives n None) t (set t n None) x.parent (counts_gone lives t n x s.counts e) (some_at (set lives n None) x.parent (can_less lives words n x s e)) fewer);
      words_are = (let a : words - (length x.cells + 4) ≡ all_words (set t n None) = omega (arith, words_gone t n fx here, s.words_are) in a) ∙ ap all_words (sym frames);
    }

pub words_within : (lives : List (Option Live)) (words n : ℕ) (x : Live) → IsSound lives words → live_at lives n ≡ Some x → length x.cells + 4 ≤ words
words_within lives words n x s e =
    omega (arith, words_gone (frames_of lives) n (record { parent = x.parent; cells = x.cells; over = x.over }) (frame_is lives n x e), s.words_are)

pub same_gone : (lives : List (Option Live)) (n : ℕ) (p : Option FrameId) → frames_of (with_less (set lives n None) p) ≡ set (frames_of lives) n None
same_gone lives n p = same_less (set lives n None) p ∙ map-set frame_of lives n None
