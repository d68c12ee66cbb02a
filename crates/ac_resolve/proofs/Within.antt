-- What visible names mean is there: a slot of a frame round the place or of the globals, an item of the program. It holds at the top level
-- and after each declaration, and stays so in a block, and one level further out in an async body.
use Rattle.std.proofs.Common.{◌≡◌, ℕ, zero, suc, ◌+◌, ◌-◌, ◌<◌, ◌≤◌, ◌⊎◌, inl, inr, Bool, true, false, List, [], ◌∷◌, length, Some, refl, subst, sym, arith}
use Rattle.std.specs.Prelude.{nat_eq, slice_get, ◌||◌}
use Rattle.std.proofs.lemmas.Bool.Decides.{nat_tests}
use Rattle.ac_names.specs.declared.meaning.Meaning.{Meaning}
use Rattle.ac_names.specs.declared.meaning.Meaning.TheVariants as m
use Rattle.ac_names.specs.Scopes.{Declaration, visible, declared}
use Rattle.ac_names.proofs.Visible.{visible_after}
use Rattle.ac_types.specs.declared.numbered.Signature.{Signature}
use Rattle.ac_types.specs.declared.numbered.Tables.{Tables}
use Rattle.ac_commands.specs.declared.program.Channel.{Channel}
use Rattle.ac_commands.specs.declared.program.Function.{Function}
use Rattle.ac_commands.specs.declared.program.Resolved.{Resolved}
use Rattle.ac_resolve.specs.InPlace.{Use, AsInt, AsReference, FrameRound, frame_at, is_among, with_entered}
use Rattle.ac_resolve.proofs.Stretches.{Hold}

-- a function of the program has the parameters by which the rules are judged
pub record IsSigned (program : Resolved) (t : Tables) (number : ℕ) : Type 0 where
  pub signature : Signature
  pub told : slice_get t.functions number ≡ Some signature
  pub function : Function
  pub there : slice_get program.functions number ≡ Some function
  pub params : function.params ≡ signature.params

-- a channel of the program has the width by which the rules are judged
pub record IsWide (program : Resolved) (t : Tables) (number : ℕ) : Type 0 where
  pub channel : Channel
  pub there : slice_get program.channels number ≡ Some channel
  pub told : slice_get t.widths number ≡ Some channel.width

-- declared in so many async bodies, seen from so many, with slots that hold that
pub record IsReached (frames : List FrameRound) (depth there slot len : ℕ) (what : Use) : Type 0 where
  pub outside : there ≤ depth
  pub level : depth - there < length frames
  pub hold : Hold (frame_at frames (depth - there)).uses slot len what

abbrev pub IsWithin : Resolved → Tables → List FrameRound → ℕ → Meaning → Type 0
IsWithin program t frames depth (m.Global slot) = slot < program.slots
IsWithin program t frames depth (m.GlobalArray slot len) = slot + len ≤ program.slots
IsWithin program t frames depth (m.Local there slot) = IsReached frames depth there slot 1 AsInt
IsWithin program t frames depth (m.LocalArray there slot len) = IsReached frames depth there slot len AsInt
IsWithin program t frames depth (m.ArrayParam slot) = IsReached frames depth 0 slot 1 AsReference
IsWithin program t frames depth (m.Function number) = IsSigned program t number
IsWithin program t frames depth (m.Channel number) = IsWide program t number
IsWithin program t frames depth (m.File number) = number < length program.files
IsWithin program t frames depth (m.Label there slot) = Unit {0}
IsWithin program t frames depth (m.Core number) = number < length program.cores

-- ---- the frames in a block and in an async body

one_further : (depth there : ℕ) → there ≤ depth → (depth + 1) - there ≡ suc (depth - there)
one_further depth there le = omega (arith, le)

reached_further : (f : FrameRound) (frames : List FrameRound) (depth there slot len : ℕ) (what : Use) → IsReached frames depth there slot len what
    → IsReached (f ∷ frames) (depth + 1) there slot len what
reached_further f frames depth there slot len what h =
    let le = h.outside in
    let lt = h.level in record {
      outside = omega (arith, le);
      level = omega (arith, le, lt);
      hold = subst (λ level. Hold (frame_at (f ∷ frames) level).uses slot len what) (sym (one_further depth there h.outside)) h.hold;
    }

pub entered_uses : (block : ℕ) (frames : List FrameRound) (level : ℕ) → (frame_at frames level).uses ≡ (frame_at (with_entered block frames) level).uses
entered_uses block [] level = refl
entered_uses block (f ∷ frames) zero = refl
entered_uses block (f ∷ frames) (suc level) = refl

pub entered_length : (block : ℕ) (frames : List FrameRound) → length frames ≡ length (with_entered block frames)
entered_length block [] = refl
entered_length block (f ∷ frames) = refl

reached_entered : (block : ℕ) (frames : List FrameRound) (depth there slot len : ℕ) (what : Use) → IsReached frames depth there slot len what
    → IsReached (with_entered block frames) depth there slot len what
reached_entered block frames depth there slot len what h = record {
  outside = h.outside;
  level = subst (λ n. depth - there < n) (entered_length block frames) h.level;
  hold = subst (λ us. Hold us slot len what) (entered_uses block frames (depth - there)) h.hold;
}

-- declared where it is used
no_difference : (depth : ℕ) → depth - depth ≡ 0
no_difference depth = omega arith

pub reached_here : (frames : List FrameRound) (depth slot len : ℕ) (what : Use) → 0 < length frames → Hold (frame_at frames 0).uses slot len what
    → IsReached frames depth depth slot len what
reached_here frames depth slot len what some h = record {
  outside = omega arith;
  level = omega (arith, some);
  hold = subst (λ level. Hold (frame_at frames level).uses slot len what) (sym (no_difference depth)) h;
}

module _ (program : Resolved) (t : Tables) where
  -- each name that is visible
  abbrev pub AllWithin : List FrameRound → ℕ → List (List Declaration) → Type 0
  AllWithin frames depth scopes = (name : List ℕ) (what : Meaning) → visible name scopes ≡ Some what → IsWithin program t frames depth what

  pub within_declared : (frames : List FrameRound) (depth : ℕ) (new : List ℕ) (meaning : Meaning) (scopes : List (List Declaration))
      → IsWithin program t frames depth meaning → AllWithin frames depth scopes → AllWithin frames depth (declared new meaning scopes)
  within_declared frames depth new meaning scopes l h name what e = here (visible_after name new meaning what scopes e) where
    here : (visible name scopes ≡ Some what) ⊎ (meaning ≡ what) → IsWithin program t frames depth what
    here (inl q) = h name what q
    here (inr q) = subst (IsWithin program t frames depth) q l

  -- with other frames, in which what was reached is reached
  within_other : (frames frames2 : List FrameRound) (depth depth2 : ℕ)
      → ((there slot len : ℕ) (what : Use) → IsReached frames depth there slot len what → IsReached frames2 depth2 there slot len what)
      → (what : Meaning) → IsWithin program t frames depth what → IsWithin program t frames2 depth2 what
  within_other frames frames2 depth depth2 f (m.Global slot) h = h
  within_other frames frames2 depth depth2 f (m.GlobalArray slot len) h = h
  within_other frames frames2 depth depth2 f (m.Local there slot) h = f there slot 1 AsInt h
  within_other frames frames2 depth depth2 f (m.LocalArray there slot len) h = f there slot len AsInt h
  within_other frames frames2 depth depth2 f (m.ArrayParam slot) h = f 0 slot 1 AsReference h
  within_other frames frames2 depth depth2 f (m.Function number) h = h
  within_other frames frames2 depth depth2 f (m.Channel number) h = h
  within_other frames frames2 depth depth2 f (m.File number) h = h
  within_other frames frames2 depth depth2 f (m.Label there slot) h = h
  within_other frames frames2 depth depth2 f (m.Core number) h = h

  pub all_further : (f : FrameRound) (frames : List FrameRound) (depth : ℕ) (scopes : List (List Declaration)) → AllWithin frames depth scopes
      → AllWithin (f ∷ frames) (depth + 1) scopes
  all_further f frames depth scopes h name what e = within_other frames (f ∷ frames) depth (depth + 1) (reached_further f frames depth) what (h name what e)

  pub all_entered : (block : ℕ) (frames : List FrameRound) (depth : ℕ) (scopes : List (List Declaration)) → AllWithin frames depth scopes
      → AllWithin (with_entered block frames) depth scopes
  all_entered block frames depth scopes h name what e =
      within_other frames (with_entered block frames) depth depth (reached_entered block frames depth) what (h name what e)

-- ---- labels, in scopes of their own

-- the block is entered
pub record IsEntered (frames : List FrameRound) (depth there slot : ℕ) : Type 0 where
  pub outside : there ≤ depth
  pub level : depth - there < length frames
  pub among : is_among slot (frame_at frames (depth - there)).entered ≡ true

abbrev pub IsLabel : List FrameRound → ℕ → Meaning → Type 0
IsLabel frames depth (m.Label there slot) = IsEntered frames depth there slot
IsLabel frames depth what = ⊥

abbrev pub AllLabels : List FrameRound → ℕ → List (List Declaration) → Type 0
AllLabels frames depth scopes = (name : List ℕ) (what : Meaning) → visible name scopes ≡ Some what → IsLabel frames depth what

pub label_declared : (frames : List FrameRound) (depth : ℕ) (new : List ℕ) (slot : ℕ) (scopes : List (List Declaration)) → IsEntered frames depth depth slot
    → AllLabels frames depth scopes → AllLabels frames depth (declared new (m.Label depth slot) scopes)
label_declared frames depth new slot scopes l h name what e = here (visible_after name new (m.Label depth slot) what scopes e) where
  here : (visible name scopes ≡ Some what) ⊎ (m.Label depth slot ≡ what) → IsLabel frames depth what
  here (inl q) = h name what q
  here (inr q) = subst (IsLabel frames depth) q l

label_other : (frames frames2 : List FrameRound) (depth depth2 : ℕ) → ((there slot : ℕ) → IsEntered frames depth there slot → IsEntered frames2 depth2 there slot)
    → (what : Meaning) → IsLabel frames depth what → IsLabel frames2 depth2 what
label_other frames frames2 depth depth2 f (m.Label there slot) h = f there slot h
label_other frames frames2 depth depth2 f what h = absurd h

entered_further : (f : FrameRound) (frames : List FrameRound) (depth there slot : ℕ) → IsEntered frames depth there slot → IsEntered (f ∷ frames) (depth + 1) there slot
entered_further f frames depth there slot h =
    let le = h.outside in
    let lt = h.level in record {
      outside = omega (arith, le);
      level = omega (arith, le, lt);
      among = subst (λ level. is_among slot (frame_at (f ∷ frames) level).entered ≡ true) (sym (one_further depth there h.outside)) h.among;
    }

pub labels_further : (f : FrameRound) (frames : List FrameRound) (depth : ℕ) (scopes : List (List Declaration)) → AllLabels frames depth scopes
    → AllLabels (f ∷ frames) (depth + 1) scopes
labels_further f frames depth scopes h name what e = label_other frames (f ∷ frames) depth (depth + 1) (entered_further f frames depth) what (h name what e)

or_later : (a b : Bool) → b ≡ true → ◌||◌ a b ≡ true
or_later true b e = refl
or_later false b e = e

among_still : (block slot : ℕ) (frames : List FrameRound) (level : ℕ) → is_among slot (frame_at frames level).entered ≡ true
    → is_among slot (frame_at (with_entered block frames) level).entered ≡ true
among_still block slot [] level h = h
among_still block slot (f ∷ frames) zero h = or_later (nat_eq block slot) (is_among slot f.entered) h
among_still block slot (f ∷ frames) (suc level) h = h

pub labels_entered : (block : ℕ) (frames : List FrameRound) (depth : ℕ) (scopes : List (List Declaration)) → AllLabels frames depth scopes
    → AllLabels (with_entered block frames) depth scopes
labels_entered block frames depth scopes h name what e = label_other frames (with_entered block frames) depth depth still what (h name what e) where
  still : (there slot : ℕ) → IsEntered frames depth there slot → IsEntered (with_entered block frames) depth there slot
  still there slot l = record {
    outside = l.outside;
    level = subst (λ n. depth - there < n) (entered_length block frames) l.level;
    among = among_still block slot frames (depth - there) l.among;
  }

-- the block that is entered now
same_slot : (slot : ℕ) → nat_eq slot slot ≡ true
same_slot slot = grind (arith, nat_tests)

or_sooner : (a b : Bool) → a ≡ true → ◌||◌ a b ≡ true
or_sooner true b e = refl
or_sooner false b e = cc

among_now : (block : ℕ) (frames : List FrameRound) → 0 < length frames → is_among block (frame_at (with_entered block frames) 0).entered ≡ true
among_now block [] some = absurd (omega (arith, some))
among_now block (f ∷ frames) some = or_sooner (nat_eq block block) (is_among block f.entered) (same_slot block)

pub entered_now : (block : ℕ) (frames : List FrameRound) (depth : ℕ) → 0 < length frames → IsEntered (with_entered block frames) depth depth block
entered_now block frames depth some = record {
  outside = omega arith;
  level = subst (λ n. depth - depth < n) (entered_length block frames) (omega (arith, some));
  among = subst (λ level. is_among block (frame_at (with_entered block frames) level).entered ≡ true) (sym (no_difference depth)) (among_now block frames some);
}

-- ---- the blocks that are entered in the frame of a statement have slots before those of the statement

abbrev pub AreBefore : List FrameRound → ℕ → Type 0
AreBefore frames slot = (block : ℕ) → is_among block (frame_at frames 0).entered ≡ true → block < slot

pub before_more : (frames : List FrameRound) (slot more : ℕ) → slot ≤ more → AreBefore frames slot → AreBefore frames more
before_more frames slot more le h block e = let lt = h block e in omega (arith, lt, le)

pub before_entered : (block : ℕ) (frames : List FrameRound) → AreBefore frames block → AreBefore (with_entered block frames) (block + 1)
before_entered block [] h other e = cc
before_entered block (f ∷ frames) h other e = by (nat_eq block other) refl e where
  by : (b : Bool) → nat_eq block other ≡ b → ◌||◌ b (is_among other f.entered) ≡ true → other < block + 1
  by true q e = grind (arith, nat_tests, q)
  by false q e = let lt = h other e in omega (arith, lt)
