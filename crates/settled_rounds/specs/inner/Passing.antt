-- What a pass over the parties, and a settling, do to them.
use Rattle.std.specs.Prelude.{◌≡◌, ℕ, ◌-◌, ◌^◌, ◌<◌, List, Bool, true, false}
use Rattle.std.specs.List.{AllByRecursion, sum_by}
use Rattle.settled_rounds.specs.declared.party.Way.{Way}
use Rattle.settled_rounds.specs.Linked.{Pointwise, OnLinks}

module _ {P : Type 0} where
  -- how many stamps the clocks have left, all together
  abbrev pub left : (P → ℕ) → List P → ℕ
  left clock parties = sum_by (λ p. 2 ^ 60 - clock p) parties

  -- some have gone on: one made an entry, which used a stamp, or no stamp was used
  pub record Moves (clock : P → ℕ) (old new : List P) (moved : Bool) : Type 0 where
    pub one : moved ≡ true → left clock new < left clock old
    pub none : moved ≡ false → left clock new ≡ left clock old

  -- each party has gone on once and has stopped: one made an entry, or all is as before
  pub record Passes (clock : P → ℕ) (still : P → P → Type 0) (stopped : P → Type 0) (old new : List P) (moved : Bool) : Type 0 where
    pub moves : Moves clock old new moved
    pub same : moved ≡ false → Pointwise still old new
    pub rest : AllByRecursion stopped new

  -- each has done its part of a round
  pub record Works (clock : P → ℕ) (worked : P → P → Type 0) (old new : List P) (moved : Bool) : Type 0 where
    pub moves : Moves clock old new moved
    pub parts : Pointwise worked old new

  -- one made an entry, or each link is settled and each party has stopped
  pub record Settles (clock : P → ℕ) (settled : ℕ → P → P → Type 0) (stopped : P → Type 0) (ways : List Way) (old new : List P)
      (moved : Bool) : Type 0 where
    pub one : moved ≡ true → left clock new < left clock old
    pub all_settled : moved ≡ false → OnLinks settled ways new
    pub rest : moved ≡ false → AllByRecursion stopped new
