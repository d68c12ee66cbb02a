-- What a bind of a new path makes of a mirror's sides and paths.
use Rattle.std.specs.Prelude.{◌≡◌, ℕ, Bool, true, false, List, [], ◌∷◌, ◌++◌, Ok, Err}
use Rattle.std.specs.List.{list_any}
use Rattle.std.specs.Str.{bytes_eq}
use Rattle.std.specs.declared.result.Result.{Result}
use Rattle.ac_outside.specs.declared.failed.BindFault.{BindFault}
use Rattle.ac_outside.specs.declared.failed.BindFault.TheVariants.{Failed, NoMemory}
use Rattle.ac_outside.specs.Disks.{DiskTold}
use Rattle.ac_mirror_disk.specs.declared.side.Side.{Side}
use Rattle.ac_mirror_disk.specs.Pairs.{BothBound}

-- no bound file has this path
abbrev pub IsNew : List (List ℕ) → List ℕ → Type 0
IsNew paths path = list_any (λ kept. bytes_eq kept path) paths ≡ false

-- the paths after a bind
abbrev pub paths_after : List (List ℕ) → List ℕ → Result ℕ BindFault → List (List ℕ)
paths_after paths path (Ok len) = paths ++ path ∷ []
paths_after paths path (Err fault) = paths

-- whether a bind failed
abbrev pub bind_failed : Result ℕ BindFault → Bool
bind_failed (Ok len) = false
bind_failed (Err Failed) = true
bind_failed (Err NoMemory) = false

-- the answer of a bind, once the path was to be kept
pub data Keeps (paths paths' : List (List ℕ)) (path : List ℕ) (bound result : Result ℕ BindFault) : Type 0 where
  kept : result ≡ bound → paths' ≡ paths_after paths path bound → Keeps paths paths' path bound result
  lost : result ≡ Err NoMemory → paths' ≡ paths → Keeps paths paths' path bound result

module _ {A B : Type 0} (told_a : A → DiskTold) (told_b : B → DiskTold) where
  pub data BindsNew (a : Side A) (b : Side B) (a' : Side A) (b' : Side B) (paths paths' binds binds' : List (List ℕ)) (path : List ℕ)
      (even even' : Bool)
      (result : Result ℕ BindFault) : Type 0 where
    is_refused : result ≡ Err NoMemory → paths' ≡ paths → BindsNew a b a' b' paths paths' binds binds' path even even' result
    is_bound : BothBound told_a told_b a b a' b' path even even' result → paths' ≡ paths_after paths path result → binds'
        ≡ binds ++ path ∷ []
        → IsNew paths path → BindsNew a b a' b' paths paths' binds binds' path even even' result
