-- What an object outside tells at a time: `Some` of what it holds, or `None` where it does not tell.
use Rattle.std.specs.Prelude.{◌≡◌, ℕ, Bool, ◌+◌, ◌-◌, ◌^◌, ◌≤◌, min, List, [], ◌∷◌, ◌++◌, take, ⊤, None, Some, MatchResult}
use Rattle.std.specs.declared.result.Result.{Result}
use Rattle.std.specs.declared.option.Option.{Option}

-- ---- a library

-- what a library tells
pub record LibraryTold : Type 0 where
  -- the text of each name
  pub text_at : List ℕ → Option (List ℕ)
  -- whether a text is open, and what is left of it
  pub is_open : Bool
  pub left : Option (List ℕ)
  -- the number of calls of `open_text`, and of `read`
  pub opens : Option ℕ
  pub reads : Option ℕ
  -- the names that `open_text` was given, in order
  pub names : Option (List (List ℕ))
  -- how often a call has failed
  pub faults : ℕ

-- one more, up to the last value of a 64-bit counter
abbrev pub one_more : ℕ → ℕ
one_more n = min (n + 1) (2 ^ 64 - 1)

-- A number of calls that is told rises by one, up to its last value. One that is not told stays so.
abbrev pub CountsOne : Option ℕ → Option ℕ → Type 0
CountsOne None None = ⊤
CountsOne None (Some after) = ⊥
CountsOne (Some before) None = ⊥
CountsOne (Some before) (Some after) = after ≡ one_more before

-- A number of calls that is told rises by so many at most. One that is not told stays so.
abbrev pub CountsAtMost : Option ℕ → Option ℕ → ℕ → Type 0
CountsAtMost None None most = ⊤
CountsAtMost None (Some after) most = ⊥
CountsAtMost (Some before) None most = ⊥
CountsAtMost (Some before) (Some after) most = after ≤ before + most

-- The names that are told after some calls were told before them, and these came last, in order.
abbrev pub AddsNames : Option (List (List ℕ)) → Option (List (List ℕ)) → List (List ℕ) → Type 0
AddsNames before None names = ⊤
AddsNames None (Some after) names = ⊥
AddsNames (Some before) (Some after) names = after ≡ before ++ names

-- The names that are told after a call were told before it, and this one came last.
abbrev pub AddsName : Option (List (List ℕ)) → Option (List (List ℕ)) → List ℕ → Type 0
AddsName before None name = ⊤
AddsName None (Some after) name = ⊥
AddsName (Some before) (Some after) name = after ≡ before ++ name ∷ []

-- The text of this name was opened, or failed to open, and no other was, neither before nor after it.
pub record OpenedJust (before after : LibraryTold) (name : List ℕ) : Type 0 where
  pub once : CountsOne before.opens after.opens
  pub named : AddsName before.names after.names name

-- no text was opened
pub record OpenedNone (before after : LibraryTold) : Type 0 where
  pub opens : after.opens ≡ before.opens
  pub names : after.names ≡ before.names

-- ---- a sink

-- what a sink tells: the bytes that it has taken, and how often a call has failed
pub record SinkTold : Type 0 where
  pub held : Option (List ℕ)
  pub faults : ℕ

-- What is told after a call was told before it, and has grown by these bytes.
abbrev pub GrewBy : Option (List ℕ) → Option (List ℕ) → List ℕ → Type 0
GrewBy before None bytes = ⊤
GrewBy None (Some after) bytes = ⊥
GrewBy (Some before) (Some after) bytes = after ≡ before ++ bytes

-- a write took the first n bytes of the piece at `Ok(n)`, and nothing at `Err`
abbrev pub WriteTook : {E : Type 0} → Option (List ℕ) → Option (List ℕ) → Result ℕ E → List ℕ → Type 0
WriteTook before after result piece = MatchResult result (λ n. GrewBy before after (take n piece)) (λ _. GrewBy before after [])
