-- What stays on a chain: frames only come to be further in.
-- Chains grow at their inner end, so what was on a chain stays so when an origin is added; the end of a chain lives as long as its
-- beginning; and what cells name is carried through all that is done with lists of cells.
use Rattle.std.proofs.Common.{◌≡◌, ◌⊎◌, ℕ, zero, suc, List, [], ◌∷◌, ◌++◌, length, take, drop, Option, Some, None, Bool, true, false, refl, sym, ap, ◌∙◌, subst, inl, inr}
use Rattle.std.specs.Prelude.{slice_get, slice_index_or, slice_set, replicate, reverse}
use Rattle.std.proofs.lemmas.List.{reverse-append}
use Rattle.work_item.specs.declared.ids.FrameId.{FrameId}
use Rattle.work_item.specs.declared.cell.Cell.{Cell}
use Rattle.work_item.specs.declared.cell.Cell.TheVariants as cell
use Rattle.work_item.specs.Store.{Store, Frame, frame_at, above, parent_or, parent_is, no_int, place_in, cleared, cleared_front}
use Rattle.work_item.specs.Conditions.{Lives}
use Rattle.cancel_scope.specs.declared.operation.Asked.{Asked}
use Rattle.cancel_scope.specs.declared.operation.Asked.TheVariants as asked
use Rattle.core_state.specs.Frames.{argument, arguments}
use Rattle.code_safety.specs.Chains.{Origin, AtEntry, CalledIn, StartedIn, link_of, parent_of, Came, OnChain, itself, further, LiesIn, directly, deeper}
use Rattle.code_safety.specs.Chains.{HomeOnChain, Names, AllName, AskedOnChain}

-- ---- one origin more

abbrev pub Extends : {A : Type 0} → List A → List A → Type 0
Extends {A} old new = (n : ℕ) (x : A) → slice_get old n ≡ Some x → slice_get new n ≡ Some x

pub extends_one : {A : Type 0} (xs : List A) (a : A) → Extends xs (xs ++ a ∷ [])
extends_one [] a n x e = let no : None ≡ Some x = e in cc
extends_one (y ∷ xs) a zero x e = e
extends_one (y ∷ xs) a (suc n) x e = extends_one xs a n x e

pub extends_last : {A : Type 0} (xs : List A) (a : A) → slice_get (xs ++ a ∷ []) (length xs) ≡ Some a
extends_last [] a = refl
extends_last (y ∷ xs) a = extends_last xs a

-- an element of the longer list
pub extended : {A : Type 0} (xs : List A) (a : A) (n : ℕ) (x : A) → slice_get (xs ++ a ∷ []) n ≡ Some x → (slice_get xs n ≡ Some x) ⊎ ((n ≡ length xs) × (a ≡ x))
extended [] a zero x e = let k : a ≡ x = cc in inr (refl, k)
extended [] a (suc n) x e = let no : None ≡ Some x = e in cc
extended (y ∷ xs) a zero x e = inl e
extended (y ∷ xs) a (suc n) x e = elim (extended xs a n x e) as (λ _. (slice_get xs n ≡ Some x) ⊎ ((suc n ≡ suc (length xs)) × (a ≡ x))) [
  | inl p ↦ inl p
  | inr p ↦ inr (ap suc p.0, p.1)
]

-- ---- chains

module _ (old new : List Origin) (grown : Extends old new) where
  pub chain_grown : (f g : FrameId) → OnChain old f g → OnChain new f g
  chain_grown _ _ (itself f) = itself f
  chain_grown _ _ (further f g h o came link rest) = further f g h o (grown f.number o came) link (chain_grown g h rest)

  pub lies_grown : (f g : FrameId) → LiesIn old f g → LiesIn new f g
  lies_grown _ _ (directly f g came) = directly f g (grown f.number (StartedIn g) came)
  lies_grown _ _ (deeper f g h came rest) = deeper f g h (grown f.number (StartedIn g) came) (lies_grown g h rest)

module _ (origins : List Origin) where
  -- the end of a chain lives as long as its beginning
  pub chain_lives : (s : Store) → ((f : FrameId) (o : Origin) (g : FrameId) → Lives s f → Came origins f o → link_of o ≡ Some g → Lives s g) → (f g : FrameId)
      → OnChain origins f g → Lives s f → Lives s g
  chain_lives s links _ _ (itself f) l = l
  chain_lives s links _ _ (further f g h o came link rest) l = chain_lives s links g h rest (links f o g l came link)

  pub chain_on : (f g h : FrameId) → OnChain origins f g → OnChain origins g h → OnChain origins f h
  chain_on _ _ h (itself f) d = d
  chain_on _ _ h (further f p g o came link rest) d = further f p h o came link (chain_on p g h rest d)

  -- the frames round one are on its chain
  pub above_on : (s : Store) → ((f : FrameId) (x : Frame) → frame_at s f ≡ Some x → (o : Origin) × (Came origins f o × (x.parent ≡ parent_of o))) → (level : ℕ) (f : FrameId)
      → OnChain origins f (above s f level)
  above_on s from zero f = itself f
  above_on s from (suc level) f = go (λ g. above_on s from level g) (frame_at s f) refl
    where
      linked : (o : Origin) (p : FrameId) → parent_of o ≡ Some p → link_of o ≡ Some p
      linked AtEntry p e = let no : None ≡ Some p = e in cc
      linked (CalledIn g) p e = let no : None ≡ Some p = e in cc
      linked (StartedIn g) p e = e

      up : ((g : FrameId) → OnChain origins g (above s g level)) → (x : Frame) → frame_at s f ≡ Some x → (q : Option FrameId) → x.parent ≡ q → OnChain origins f (above s (parent_is f q) level)
      up further_up x e None q = further_up f
      up further_up x e (Some p) q = let c = from f x e in further f p (above s p level) c.0 c.1.0 (linked c.0 p (sym c.1.1 ∙ q)) (further_up p)

      go : ((g : FrameId) → OnChain origins g (above s g level)) → (o : Option Frame) → frame_at s f ≡ o → OnChain origins f (above s (parent_or f o) level)
      go further_up None e = further_up f
      go further_up (Some x) e = up further_up x e x.parent refl

-- the frame in which a body lies directly
pub lies_next : (origins : List Origin) (f h : FrameId) → LiesIn origins f h → (p : FrameId) × (Came origins f (StartedIn p) × ((p ≡ h) ⊎ LiesIn origins p h))
lies_next origins _ _ (directly f g came) = (g, (came, inl refl))
lies_next origins _ _ (deeper f g h came rest) = (g, (came, inr rest))

one_origin : (origins : List Origin) (f g p : FrameId) → Came origins f (StartedIn g) → Came origins f (StartedIn p) → p ≡ g
one_origin origins f g p a b = let both : Some (StartedIn g) ≡ Some (StartedIn p) = sym a ∙ b in cc

-- a body that lies in two frames, of which the second is no body's, lies in that by way of the first
pub lies_between : (origins : List Origin) (f g h : FrameId) → LiesIn origins f g → LiesIn origins f h → ((p : FrameId) → Came origins h (StartedIn p) → ⊥) → (g ≡ h) ⊎ LiesIn origins g h
lies_between origins _ _ h (directly f g came) second free =
    let n = lies_next origins f h second in
    let same = one_origin origins f g n.0 came n.1.0 in
    elim n.1.1 as (λ _. (g ≡ h) ⊎ LiesIn origins g h) [ inl e ↦ inl (sym same ∙ e) | inr l ↦ inr (subst (λ z. LiesIn origins z h) same l) ]
lies_between origins _ _ h (deeper f p g came rest) second free =
    let n = lies_next origins f h second in
    let same = one_origin origins f p n.0 came n.1.0 in
    elim n.1.1 as (λ _. (g ≡ h) ⊎ LiesIn origins g h) [
      | inl e ↦ absurd (let q = lies_next origins p g rest in free q.0 (subst (λ (z : FrameId). Came origins z (StartedIn q.0)) (sym same ∙ e) q.1.0))
      | inr l ↦ lies_between origins p g h rest (subst (λ z. LiesIn origins z h) same l) free
    ]

-- ---- what cells name, and what operations ask for

module _ (old new : List Origin) (f h : FrameId) (onto : (g : FrameId) → OnChain old f g → OnChain new h g) where
  home_onto : (home : Option FrameId) → HomeOnChain old f home → HomeOnChain new h home
  home_onto None n = tt
  home_onto (Some g) n = onto g n

  pub name_onto : (x : Cell) → Names old f x → Names new h x
  name_onto (cell.Int v) n = tt
  name_onto (cell.Block b) n = tt
  name_onto (cell.Array place) n = home_onto place.home n

  pub names_onto : (xs : List Cell) → AllName old f xs → AllName new h xs
  names_onto [] n = tt
  names_onto (x ∷ xs) n = (name_onto x n.0, names_onto xs n.1)

  pub asked_onto : (a : Asked) → AskedOnChain old f a → AskedOnChain new h a
  asked_onto (asked.Send value) n = tt
  asked_onto (asked.Recv place) n = home_onto place.home n
  asked_onto (asked.Read file from into) n = home_onto into.home n
  asked_onto (asked.Write file from bytes) n = tt

module _ (origins : List Origin) (f : FrameId) where
  pub name_at : (xs : List Cell) (n : ℕ) → AllName origins f xs → Names origins f (slice_index_or xs n no_int)
  name_at [] n a = tt
  name_at (x ∷ xs) zero a = a.0
  name_at (x ∷ xs) (suc n) a = name_at xs n a.1

  pub names_set : (xs : List Cell) (n : ℕ) (v : Cell) → AllName origins f xs → Names origins f v → AllName origins f (slice_set xs n v)
  names_set [] n v a i = tt
  names_set (x ∷ xs) zero v a i = (i, a.1)
  names_set (x ∷ xs) (suc n) v a i = (a.0, names_set xs n v a.1 i)

  front_cleared : (len : ℕ) (xs : List Cell) → AllName origins f xs → AllName origins f (cleared_front len xs)
  front_cleared zero xs a = a
  front_cleared (suc len) [] a = tt
  front_cleared (suc len) (x ∷ xs) a = (tt, front_cleared len xs a.1)

  pub names_cleared : (slot len : ℕ) (xs : List Cell) → AllName origins f xs → AllName origins f (cleared slot len xs)
  names_cleared zero len xs a = front_cleared len xs a
  names_cleared (suc slot) len [] a = tt
  names_cleared (suc slot) len (x ∷ xs) a = (a.0, names_cleared slot len xs a.1)

  pub names_append : (xs ys : List Cell) → AllName origins f xs → AllName origins f ys → AllName origins f (xs ++ ys)
  names_append [] ys a b = b
  names_append (x ∷ xs) ys a b = (a.0, names_append xs ys a.1 b)

  pub no_names : (n : ℕ) → AllName origins f (replicate n no_int)
  no_names zero = tt
  no_names (suc n) = (tt, no_names n)

  pub names_drop : (n : ℕ) (xs : List Cell) → AllName origins f xs → AllName origins f (drop n xs)
  names_drop zero xs a = a
  names_drop (suc n) [] a = tt
  names_drop (suc n) (x ∷ xs) a = names_drop n xs a.1

  pub names_take : (n : ℕ) (xs : List Cell) → AllName origins f xs → AllName origins f (take n xs)
  names_take zero xs a = tt
  names_take (suc n) [] a = tt
  names_take (suc n) (x ∷ xs) a = (a.0, names_take n xs a.1)

  pub names_reverse : (xs : List Cell) → AllName origins f xs → AllName origins f (reverse xs)
  names_reverse [] a = tt
  names_reverse (x ∷ xs) a = subst (AllName origins f) (sym (reverse-append (x ∷ []) xs)) (names_append (reverse xs) (x ∷ []) (names_reverse xs a.1) (a.0, tt))

  pub place_on : (x : Cell) → Names origins f x → HomeOnChain origins f (place_in x).home
  place_on (cell.Int v) n = tt
  place_on (cell.Array place) n = n
  place_on (cell.Block b) n = tt

  name_argument : (array : Bool) (x : Cell) → Names origins f x → Names origins f (argument array x)
  name_argument true x n = place_on x n
  name_argument false x n = tt

  pub names_arguments : (params : List Bool) (xs : List Cell) → AllName origins f xs → AllName origins f (arguments params xs)
  names_arguments [] xs a = tt
  names_arguments (b ∷ params) [] a = tt
  names_arguments (b ∷ params) (x ∷ xs) a = (name_argument b x a.0, names_arguments params xs a.1)
